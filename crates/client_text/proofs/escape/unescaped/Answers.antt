use Rattle.std.proofs.Common.{[], sym, ◌∙◌, subst, arith, append-nil}
use Rattle.std.proofs.lemmas.Bool.{eqb-true, eqb-false}
use Rattle.std.proofs.lemmas.List.{nil_from_length}
use Rattle.client_spec.specs.Text.{SpellsText}
use Rattle.client_text.proofs.Outcomes.{on_none, was_ok, was_err}
use Rattle.client_text.proofs.EscapeLaws.{Reads, begin, further, stuck, too_long}
use Rattle.client_text.proofs.escape.unescaped.Goals as goal

pub loop-rest-init : goal.loop-rest-init
loop-rest-init c = subst (λ bytes. Reads c.args.spelling.now bytes c.args.spelling.now) (sym c.new-bytes.ensures) (begin c.args.spelling.now)

pub returns-in_err-byte-clause-none : goal.returns-in_err-byte-clause-none
returns-in_err-byte-clause-none c =
    on_none c.from_residual.result _ (λ all few bounded spells.
    stuck c.args.spelling.now c.loop-rest.bytes.items c.loop-rest.rest.now c.loop-rest.invariant (eqb-false _ 0 (sym c.is_empty.ensures ∙ c.loop-rest-test.true)) c.in_err-byte.ensures.none all bounded spells)

pub returns-in_err-ok-clause-none : goal.returns-in_err-ok-clause-none
returns-in_err-ok-clause-none c =
    on_none c.from_residual-in_err-ok.result _ (λ all few bounded spells.
    too_long c.args.spelling.now c.loop-rest.bytes.items c.loop-rest.rest.now c.loop-rest.invariant
    (eqb-false _ 0 (sym c.is_empty.ensures ∙ c.loop-rest-test.true))
    (let full = was_err c.try_push.result _ c.try_push.ensures.full (sym c.ok.ensures.value ∙ c.in_err-ok.was) in omega arith) all few bounded spells)

pub loop-rest-preserved : goal.loop-rest-preserved
loop-rest-preserved c =
    subst (λ bytes. Reads c.args.spelling.now bytes c.in_ok-byte.following.now)
    (sym (was_ok c.try_push.result _ _ c.try_push.ensures.ok (sym c.ok.ensures.value ∙ c.in_ok-ok.was)))
    (further c.args.spelling.now c.loop-rest.bytes.items c.loop-rest.rest.now c.in_ok-byte.byte c.in_ok-byte.following.now c.in_ok-byte.ensures.small
    c.loop-rest.invariant c.in_ok-byte.ensures.found)

pub returns-clause-found : goal.returns-clause-found
returns-clause-found c =
    subst (λ bytes. SpellsText bytes c.args.spelling.now) (append-nil c.loop-rest.bytes.items)
    (c.loop-rest.invariant.forth [] (nil_from_length c.loop-rest.rest.now (eqb-true _ 0 (sym c.is_empty.ensures ∙ c.loop-rest-test.false))))

pub returns-clause-bytes : goal.returns-clause-bytes
returns-clause-bytes c = c.loop-rest.invariant.small
