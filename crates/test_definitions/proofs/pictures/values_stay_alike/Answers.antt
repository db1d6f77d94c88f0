use Rattle.std.proofs.Common.{refl}
use Rattle.test_definitions.proofs.ValueChanges.PersistAlikeLaws.{persist_alike}
use Rattle.test_definitions.proofs.ValueChanges.BareValueLaws.{bare_alike}
use Rattle.test_definitions.proofs.pictures.values_stay_alike.Goals as goal

pub returns : goal.returns
returns c = record {
  persist = λ old new other another table p q v w xs ys. persist_alike old new other another table;
  bare = λ first second table place v h k. bare_alike first second table h refl k refl refl;
}
