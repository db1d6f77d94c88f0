use Rattle.std.proofs.Common.{◌≡◌, ℕ, [], List, true, sym, subst}
use Rattle.seg_spec.specs.Index.{Root}
use Rattle.seg_image.specs.Images.{segment_of, allocator_of}
use Rattle.client_vm.specs.Runs.{MayRun}
use Rattle.client_sim.specs.Staying.{code_passes, keeps_name, keeps_unique, NameStays, UniqueStays}
use Rattle.lezgauri.proofs.StayingLaws.{name_stays, unique_stays}
use Rattle.lezgauri.proofs.clients.run.Goals as goal

pub returns-in-Seq-clause-names_stay : goal.returns-in-Seq-clause-names_stay
returns-in-Seq-clause-names_stay g c = λ tree spells.
    subst (λ image. (others : List Root) → MayRun (allocator_of image) others (segment_of image).window (segment_of image).types tree [] → (name : List ℕ) → code_passes (keeps_name tree.constants name) tree.code ≡ true
    → NameStays (segment_of image).window.bytes c.run.new.segment.window.bytes name) (sym c.in-Seq.is)
    (λ others may name keeps. name_stays (c.run.ensures.runs tree spells others may) name keeps)

pub returns-in-Seq-clause-uniques_stay : goal.returns-in-Seq-clause-uniques_stay
returns-in-Seq-clause-uniques_stay g c = λ tree spells.
    subst (λ image. (others : List Root) → MayRun (allocator_of image) others (segment_of image).window (segment_of image).types tree [] → (T : ℕ) → code_passes (keeps_unique T) tree.code ≡ true
    → UniqueStays (segment_of image).window.bytes c.run.new.segment.window.bytes T) (sym c.in-Seq.is)
    (λ others may T keeps. unique_stays (c.run.ensures.runs tree spells others may) T keeps)

pub returns-in-Best-clause-names_stay : goal.returns-in-Best-clause-names_stay
returns-in-Best-clause-names_stay g c = λ tree spells.
    subst (λ image. (others : List Root) → MayRun (allocator_of image) others (segment_of image).window (segment_of image).types tree [] → (name : List ℕ) → code_passes (keeps_name tree.constants name) tree.code ≡ true
    → NameStays (segment_of image).window.bytes c.run-in-Best.new.segment.window.bytes name) (sym c.in-Best.is)
    (λ others may name keeps. name_stays (c.run-in-Best.ensures.runs tree spells others may) name keeps)

pub returns-in-Best-clause-uniques_stay : goal.returns-in-Best-clause-uniques_stay
returns-in-Best-clause-uniques_stay g c = λ tree spells.
    subst (λ image. (others : List Root) → MayRun (allocator_of image) others (segment_of image).window (segment_of image).types tree [] → (T : ℕ) → code_passes (keeps_unique T) tree.code ≡ true
    → UniqueStays (segment_of image).window.bytes c.run-in-Best.new.segment.window.bytes T) (sym c.in-Best.is)
    (λ others may T keeps. unique_stays (c.run-in-Best.ensures.runs tree spells others may) T keeps)
