use Rattle.test_definitions.proofs.Rows.OneSharedLaws.{shares, shares_one}
use Rattle.test_definitions.proofs.pictures.one_shared_object.Goals as goal

pub returns-clause-shares : goal.returns-clause-shares
returns-clause-shares c = shares

pub returns-clause-refused : goal.returns-clause-refused
returns-clause-refused c = λ constants others moves i x y z one two a b other. other (shares_one constants others moves i x y z one two a b)
