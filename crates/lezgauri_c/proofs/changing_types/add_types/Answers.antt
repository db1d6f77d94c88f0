use Rattle.std.proofs.Common.{◌≡◌, List, ℕ, sym, subst}
use Rattle.seg_spec.specs.Types.{Table, IsFirstDifference, IsFirstWrong, Spells}
use Rattle.seg_raw.specs.declared.fault.Fault as faults
use Rattle.seg_raw.specs.declared.fault.Fault.TheVariants.{BadType, TypeMismatch}
use Rattle.lezgauri_c.specs.Changes.{HasMoreTypes, RefusesTypes}
use Rattle.lezgauri_c.proofs.OneClient.{image_of}
use Rattle.lezgauri_c.proofs.SegmentLaws.{of_image}
use Rattle.lezgauri_c.proofs.changing_types.add_types.Goals as goal

-- the first wrong entry
wrong_entry : (table : Table) (entries : List ℕ) (reason : faults.Fault) → ((k : ℕ) × (reason ≡ BadType k) × IsFirstWrong 2 entries k) → RefusesTypes table entries reason
wrong_entry table entries reason w = subst (λ f. RefusesTypes table entries f) (sym w.1) w.2

-- the first entry that differs
other_entry : (table types more : Table) (entries : List ℕ) (reason : faults.Fault) → types ≡ table → Spells entries more
    → ((k : ℕ) × (reason ≡ TypeMismatch k) × IsFirstDifference types more k) → RefusesTypes table entries reason
other_entry table types more entries reason same spells w =
    subst (λ f. RefusesTypes table entries f) (sym w.1) (more, spells, subst (λ (t : Table). IsFirstDifference t more w.0) same w.2)

pub returns-in-Err-clause-refused : goal.returns-in-Err-clause-refused
returns-in-Err-clause-refused g c sound = wrong_entry sound.picture.table c.args.entries.now c.in-Err.reason c.in-Err.ensures.wrong

pub returns-in-Err-open_window-clause-refused : goal.returns-in-Err-open_window-clause-refused
returns-in-Err-open_window-clause-refused g c sound = absurd (c.in-Err-open_window.ensures.fault sound.picture.table (image_of c.args.image.items sound))

pub returns-in-Ok-agrees-clause-added : goal.returns-in-Ok-agrees-clause-added
returns-in-Ok-agrees-clause-added g c =
    let window = c.in-Ok-open_window.it.0 in
    of_image window.bytes c.args.image.items c.in-Ok-open_window.ensures.bytes c.in-Ok-open_window.it.1 (λ b s. HasMoreTypes b c.with_types.result.items c.args.entries.now s)
    (λ sound same. c.with_types.ensures.added sound same c.in-Ok.ensures.table.1 c.args.entries.now c.in-Ok.ensures.table.2) c.in-Ok-open_window.ensures.types

pub returns-in-Err-agrees-clause-refused : goal.returns-in-Err-agrees-clause-refused
returns-in-Err-agrees-clause-refused g c sound =
    other_entry sound.picture.table c.in-Ok-open_window.it.1 c.in-Ok.more c.args.entries.now c.in-Err-agrees.fault
    (c.in-Ok-open_window.ensures.types sound.picture.table (image_of c.args.image.items sound)) c.in-Ok.ensures.table.2 c.in-Err-agrees.ensures.differs
