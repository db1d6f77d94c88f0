use Rattle.seg_spec.proofs.Images.RootCallLaws.{place_changed}
use Rattle.test_definitions.proofs.images.changing_place.Goals as goal

pub returns : goal.returns
returns c = λ old new picture held which before root after j path inner v w blocks others spans among within leads was changes.
    place_changed old new picture held which before root after among j within path inner leads v w blocks others was changes
