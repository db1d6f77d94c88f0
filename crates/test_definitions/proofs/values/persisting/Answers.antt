use Rattle.seg_spec.proofs.Values.PersistenceLaws.{Holds-persists, persists_then}
use Rattle.test_definitions.proofs.values.persisting.Goals as goal

pub returns : goal.returns
returns c = record {
  contained = λ old new table before after v blocks h k. Holds-persists old new table h k;
  through = λ old mid new table before between after h k. persists_then old mid new table h k;
}
