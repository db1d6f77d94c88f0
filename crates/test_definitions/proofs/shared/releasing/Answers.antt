use Rattle.seg_spec.proofs.Frozen.SharedLaws.{counted_again, unnamed_freed, left_or_freed}
use Rattle.test_definitions.proofs.shared.releasing.Goals as goal

pub returns-clause-left : goal.returns-clause-left
returns-clause-left c = λ next gone kept frozen falling counted. counted_again next gone kept frozen falling counted

pub returns-clause-freed : goal.returns-clause-freed
returns-clause-freed c = λ next gone kept frozen falling counted. unnamed_freed next gone kept frozen falling counted

pub returns-clause-all : goal.returns-clause-all
returns-clause-all c = λ at gone frozen. left_or_freed at gone frozen
