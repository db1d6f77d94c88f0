use Rattle.std.proofs.Common.{◌<◌, ◌++◌, All, map, subst, sym, ap, ◌∙◌}
use Rattle.client_spec.specs.Text.{words_of, type_word}
use Rattle.client_text.proofs.Outcomes.{on_none, some_given}
use Rattle.client_text.proofs.LineWords.{not_types, few_small}
use Rattle.client_text.proofs.item.read_fields.Goals as goal

pub returns-in_err-index-clause-none : goal.returns-in_err-index-clause-none
returns-in_err-index-clause-none c =
    on_none c.from_residual.result _ (λ types some few small same.
    not_types c.loop-word.fields.items types c.in-Some.word.now _ small c.in_err-index.ensures.none
    (ap (λ ws. map type_word c.loop-word.fields.items ++ ws) (sym c.in-Some.ensures.found) ∙ sym c.loop-word.invariant.0 ∙ same))

pub returns-clause-found : goal.returns-clause-found
returns-clause-found c =
    some_given _ _ _ c.new.result c.new.ensures.types (λ fields same.
    c.loop-word.invariant.0 ∙ ap (λ types. map type_word types ++ words_of c.loop-word.words.line.now) (sym c.as_slice.ensures.value ∙ sym same) ∙ ap (λ line. map type_word fields ++ words_of line) (sym c.in_default.ensures.stays))

pub returns-clause-readable : goal.returns-clause-readable
returns-clause-readable c = few_small _ _ c.new.result c.new.ensures.types c.new.ensures.few (subst (All (λ U. U < 256)) (sym c.as_slice.ensures.value) c.loop-word.invariant.1)
