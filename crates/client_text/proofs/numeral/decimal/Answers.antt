use Rattle.std.proofs.Common.{◌∙◌, sym, ap, subst, arith}
use Rattle.std.specs.Fmt.{decimal}
use Rattle.std.specs.Str.{IsUtf8}
use Rattle.std.proofs.lemmas.Str.{IsUtf8-from_ascii}
use Rattle.std.proofs.lemmas.Fmt.{IsAscii-decimal, parse-decimal}
use Rattle.std.proofs.lemmas.Slice.Eq.{slice_eq-Decides}
use Rattle.std.proofs.lemmas.Bool.Decides.{Decides-eqb, not_from_Decides}
use Rattle.client_text.proofs.Outcomes.{on_none, not_parsed, parsed_one, failed_test}
use Rattle.client_text.proofs.Numerals.{is_text, not_text}
use Rattle.client_text.proofs.numeral.decimal.Goals as goal

pub returns-in_err-ok-clause-none : goal.returns-in_err-ok-clause-none
returns-in_err-ok-clause-none c =
    on_none c.from_residual.result _ (λ n small same.
    not_text _ _ c.from_utf8.result c.args.digits.now c.from_utf8.ensures.cases (sym c.ok.ensures.value ∙ c.in_err-ok.was)
    (subst IsUtf8 (sym same) (IsUtf8-from_ascii (decimal n) (IsAscii-decimal n (omega arith)))))

pub returns-in_err-number-clause-none : goal.returns-in_err-number-clause-none
returns-in_err-number-clause-none c =
    on_none c.from_residual-in_err-number.result _ (λ n small same.
    not_parsed c.parse.result n (sym c.ok-2.ensures.value ∙ c.in_err-number.was) (parse-decimal 32 n c.in_ok-ok.field-0.now c.parse.result small (omega arith)
    (is_text _ c.from_utf8.result c.in_ok-ok.field-0 c.args.digits.now c.from_utf8.ensures.cases (sym c.ok.ensures.value ∙ c.in_ok-ok.was) ∙ same)
    c.parse.ensures.value.0))

pub returns-clause-none : goal.returns-clause-none
returns-clause-none c =
    failed_test c.eq.result _ c.then_some.result _ c.then_some.ensures (λ differ n small same.
    let one = parsed_one c.parse.result c.in_ok-number.number n (sym c.ok-2.ensures.value ∙ c.in_ok-number.was)
    (parse-decimal 32 n c.in_ok-ok.field-0.now c.parse.result small (omega arith) (is_text _ c.from_utf8.result c.in_ok-ok.field-0 c.args.digits.now
    c.from_utf8.ensures.cases (sym c.ok.ensures.value ∙ c.in_ok-ok.was) ∙ same) c.parse.ensures.value.0) in
    not_from_Decides c.eq.result (slice_eq-Decides Decides-eqb _ _ c.eq.result c.eq.ensures) differ (c.as_bytes.ensures.value ∙ c.format.ensures.text ∙ ap decimal one ∙ sym same))
