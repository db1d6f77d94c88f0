use Rattle.seg_spec.proofs.Values.PathContinuationLaws.{after_a_cut}
use Rattle.test_definitions.proofs.images.paths_after_a_cut.Goals as goal

pub returns : goal.returns
returns c = after_a_cut
