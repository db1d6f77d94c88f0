use Rattle.seg_spec.proofs.Images.RootLaws.{roots_are, roots_with}
use Rattle.test_definitions.proofs.images.roots_among_all.Goals as goal

pub returns-clause-these : goal.returns-clause-these
returns-clause-these c = λ picture which before these after e. roots_are picture which before these after e

pub returns-clause-others : goal.returns-clause-others
returns-clause-others c = λ picture which before others after. roots_with picture which before others after
