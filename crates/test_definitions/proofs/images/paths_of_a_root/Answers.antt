use Rattle.seg_spec.proofs.Images.RootPathLaws.{root_paths}
use Rattle.test_definitions.proofs.images.paths_of_a_root.Goals as goal

pub returns : goal.returns
returns c = λ old new table root blocks valid o kept. root_paths old new table valid root blocks o kept
