use Rattle.seg_spec.proofs.Images.RootPathLaws.{place_paths}
use Rattle.test_definitions.proofs.images.paths_beside_a_change.Goals as goal

pub returns : goal.returns
returns c = λ old new picture held which before root after j path inner v w blocks others spans among within leads was changes.
    place_paths old new picture held which before root after among j within path inner leads v w blocks others was changes
