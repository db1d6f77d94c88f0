-- A sound image has no fault, so a call on it can only run out of memory.
use Rattle.std.proofs.Common.{◌≡◌, ℕ, List, [], ◌∷◌, refl, sym, ◌∙◌, inl, inr, arith}
use Rattle.seg_spec.specs.Bytes.{slice, number, number_of}
use Rattle.seg_spec.specs.Types.{Form, Table}
use Rattle.seg_spec.specs.Images.{IsSound}
use Rattle.seg_spec.specs.Faulty.{Failure}
use Rattle.seg_spec.specs.Fixtures.{counter, counter_picture}
use Rattle.test_definitions.proofs.OnePicture.{Held-one}
use Rattle.seg_spec.proofs.Images.UnsoundImageLaws.{unsound}
use Rattle.test_definitions.proofs.WorkedImages.SoundImages.{counter_held, counter_counted, counter_sound}
use Rattle.seg_raw.specs.declared.fault.Fault.{Fault}
use Rattle.seg_raw.specs.declared.fault.Fault.TheVariants as fault
use Rattle.seg_check.specs.Faults.{IsImageOf, IsFaultOf, IsFaultOfOpening}

pub sound_image : (bytes : List ℕ) (table : Table) → IsImageOf bytes table → IsSound bytes
sound_image bytes table i = record { picture = i.picture; held = i.held; counted = i.counted; none_loose = i.none_loose }

pub one_table : (bytes : List ℕ) (table other : Table) → IsImageOf bytes table → IsImageOf bytes other → table ≡ other
one_table bytes table other i j = sym i.table_is ∙ (Held-one bytes i.picture j.picture i.held j.held).table ∙ j.table_is

pub no_fault : (bytes : List ℕ) (f : Fault) → IsSound bytes → IsFaultOf bytes f → f ≡ fault.Memory
no_fault bytes fault.Memory s l = refl
no_fault bytes fault.BadHeader s l = absurd (unsound bytes Failure.bad_header l s)
no_fault bytes (fault.BadType k) s l = absurd (unsound bytes (Failure.bad_type k) l s)
no_fault bytes (fault.BadBlock at) s l = absurd (unsound bytes Failure.bad_tiles l s)
no_fault bytes (fault.BadFree at) s l = absurd (unsound bytes Failure.bad_gaps l s)
no_fault bytes (fault.BadIndex at) s l = absurd (unsound bytes Failure.bad_content l s)
no_fault bytes (fault.BadPointer at) s l = absurd (unsound bytes Failure.bad_content l s)
no_fault bytes (fault.DoubleOwner at) s l = absurd (unsound bytes Failure.bad_content l s)
no_fault bytes (fault.BadValue at) s l = absurd (unsound bytes Failure.bad_content l s)
no_fault bytes (fault.Unowned at) s l = absurd (l.1 s)
no_fault bytes fault.Misplaced s l = absurd l
no_fault bytes (fault.TypeMismatch k) s l = absurd l
no_fault bytes fault.BadSize s l = absurd l
no_fault bytes fault.NoHostRoom s l = absurd l
no_fault bytes (fault.BadCode at) s l = absurd l
no_fault bytes (fault.BadLine line) s l = absurd l
no_fault bytes (fault.Rejected instruction reason) s l = absurd l
no_fault bytes fault.TooLong s l = absurd l
no_fault bytes (fault.BadMove i) s l = absurd l

pub counter_image : IsImageOf counter (Form.i64 ∷ [])
counter_image = record { picture = counter_picture; held = counter_held; counted = counter_counted; none_loose = refl; table_is = refl }

pub counter_other : IsFaultOfOpening 1 counter fault.BadHeader
unfolding counter slice number number_of
counter_other = inr (refl, counter_sound, λ e. absurd (omega (arith, e)))

pub counter_its : IsFaultOfOpening 0 counter fault.BadHeader → ⊥
unfolding counter slice number number_of
counter_its (inl l) = l counter_held.laid_out.header
counter_its (inr o) = o.2 refl
