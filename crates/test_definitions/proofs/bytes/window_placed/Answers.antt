use Rattle.seg_spec.proofs.SliceLaws.{region-placed}
use Rattle.test_definitions.proofs.bytes.window_placed.Goals as goal

pub returns : goal.returns
returns c = λ p. region-placed p.before p.bytes p.after
