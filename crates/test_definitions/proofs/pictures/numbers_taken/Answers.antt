use Rattle.test_definitions.proofs.Runs.RunNumberLaws.{numbers_taken as law}
use Rattle.test_definitions.proofs.pictures.numbers_taken.Goals as goal

pub returns : goal.returns
returns c = law
