use Rattle.std.proofs.Common.{inl, refl}
use Rattle.test_definitions.proofs.Rows.NewBlockLaws.{name_in_block, owner_in_block}
use Rattle.test_definitions.proofs.Rows.OneRow.{itself}
use Rattle.test_definitions.proofs.pictures.new_objects.Goals as goal

pub returns-clause-named : goal.returns-clause-named
returns-clause-named c = name_in_block

pub returns-clause-owned : goal.returns-clause-owned
returns-clause-owned c = owner_in_block

pub returns-clause-refused : goal.returns-clause-refused
returns-clause-refused c = λ constants others moves i x y z first second one two is name a b none some some_too type_is values_are other.
    other (name_in_block constants others moves i x y x z first second (itself others x.owned x.image one.before.pictured one.owned_before) refl one two (inl is) name a b none some some_too type_is values_are)
