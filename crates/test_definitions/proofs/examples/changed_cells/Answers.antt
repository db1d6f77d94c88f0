use Rattle.std.proofs.Common.{◌≡◌, ℕ, refl}
use Rattle.seg_spec.specs.Bytes.{slice, number_of, number}
use Rattle.seg_spec.specs.Pointer.{target}
use Rattle.seg_spec.specs.Types.{cells, size}
use Rattle.test_definitions.proofs.examples.changed_cells.Goals as goal

pub returns-clause-moved : goal.returns-clause-moved
unfolding slice number_of number
returns-clause-moved c = (refl, refl)

not_two : ◌≡◌ {A = ℕ} 3 2 → ⊥
not_two e = cc

not_null : ◌≡◌ {A = ℕ} 1 0 → ⊥
not_null e = cc

pub returns-clause-counted : goal.returns-clause-counted
unfolding slice number_of number
returns-clause-counted c = λ h. not_two h.1

pub returns-clause-empty : goal.returns-clause-empty
unfolding slice number_of number target
returns-clause-empty c = (refl, refl)

pub returns-clause-number : goal.returns-clause-number
unfolding slice number_of number
returns-clause-number c = λ h. not_null h

pub returns-clause-cells : goal.returns-clause-cells
unfolding cells size
returns-clause-cells c = (refl, (refl, tt))
