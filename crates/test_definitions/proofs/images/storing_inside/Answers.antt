use Rattle.seg_spec.proofs.Images.RootWriteLaws.{stored}
use Rattle.test_definitions.proofs.images.storing_inside.Goals as goal

pub returns : goal.returns
returns c = λ bytes picture held which before root after j path inner x among within leads is_number small. stored bytes picture held which before root after among j within path inner leads x is_number small
