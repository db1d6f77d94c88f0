use Rattle.seg_spec.proofs.TreeSearchLaws.{looks-bound}
use Rattle.test_definitions.proofs.trees.few_looks.Goals as goal

pub returns : goal.returns
returns c = λ is_past tree r. looks-bound is_past tree r
