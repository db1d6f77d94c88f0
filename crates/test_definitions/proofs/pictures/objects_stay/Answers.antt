use Rattle.std.proofs.Common.{refl, ap, sym, ◌∙◌}
use Rattle.seg_spec.specs.Index.{Root}
use Rattle.client_spec.proofs.TypedStates.ValueLaws.{Some_inj}
use Rattle.client_sim.proofs.Names.ObjectRunLaws.{row_keeps_name, row_keeps_unique, client_keeps_name, client_keeps_unique}
use Rattle.test_definitions.proofs.pictures.objects_stay.Goals as goal

pub returns-clause-moved : goal.returns-clause-moved
returns-clause-moved c = λ constants others moves i x y answer row name a b was is elsewhere. elsewhere (row.objects_stay.names name a b was is).same_at

pub returns-clause-names : goal.returns-clause-names
returns-clause-names c = λ constants others moves i x y answer name row keeps. row_keeps_name name constants others moves i x y answer row keeps

pub returns-clause-uniques : goal.returns-clause-uniques
returns-clause-uniques c = λ constants others moves i x y answer T row keeps. row_keeps_unique T constants others moves i x y answer row keeps

pub returns-clause-names_through : goal.returns-clause-names_through
returns-clause-names_through c = λ client given left name runs keeps. client_keeps_name name client given left runs keeps

pub returns-clause-uniques_through : goal.returns-clause-uniques_through
returns-clause-uniques_through c = λ client given left T runs keeps. client_keeps_unique T client given left runs keeps

pub returns-clause-refused : goal.returns-clause-refused
returns-clause-refused c = λ client given left name runs keeps before after held held_after a b was is elsewhere.
    let s = client_keeps_name name client given left runs keeps before after held held_after a was in
    elsewhere (ap (λ (r : Root). r.at) (Some_inj (sym is ∙ s.1)) ∙ s.2.same_at)

pub returns-clause-increment : goal.returns-clause-increment
returns-clause-increment c = λ name. refl

pub returns-clause-can_spell : goal.returns-clause-can_spell
returns-clause-can_spell c = (refl, refl, refl, refl)
