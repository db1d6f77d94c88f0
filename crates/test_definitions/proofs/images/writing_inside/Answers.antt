use Rattle.seg_spec.proofs.Images.RootWriteLaws.{written}
use Rattle.test_definitions.proofs.images.writing_inside.Goals as goal

pub returns : goal.returns
returns c = λ bytes new picture held which before root after j path inner v w blocks among within leads changes was is. written bytes picture held which before root after among j within path inner leads new changes v w blocks was is
