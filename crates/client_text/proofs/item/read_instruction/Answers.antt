use Rattle.std.proofs.Common.{◌∷◌, ◌++◌, sym, ap, ◌∙◌, subst}
use Rattle.std.specs.Int.{w32}
use Rattle.std.proofs.lemmas.Int.{to_z-of_z}
use Rattle.client_spec.specs.declared.table.Row.{Row}
use Rattle.client_spec.specs.Grammar.{IsOperand, IsNumber}
use Rattle.client_spec.specs.Text.{words_of, operand_words, number_words}
use Rattle.client_spec.specs.Operations.{mnemonic, row_of}
use Rattle.client_text.proofs.LineWords.{joined}
use Rattle.client_text.proofs.Outcomes.{on_none}
use Rattle.client_text.proofs.WordGroups.{past_operand, past_number, grouped, grouped_alone, by_row}
use Rattle.client_text.proofs.item.read_instruction.Goals as goal

pub returns-clause-found : goal.returns-clause-found
returns-clause-found c =
    let row = c.row-row.ensures.row in
    ap (λ ws. mnemonic c.args.operation ∷ ws)
    (joined _ _ _ _ _ _ _ _ _
    (c.in_ok-read_operand.ensures.found ∙ ap (λ r. operand_words r.a c.in_ok-read_operand.field-0 ++ words_of c.read_operand.new.words.line.now) row)
    (c.in_ok-read_operand-2.ensures.found ∙ ap (λ r. operand_words r.b c.in_ok-read_operand-2.field-0 ++ words_of c.read_operand-2.new.words.line.now) row)
    (c.in_ok-read_operand-3.ensures.found ∙ ap (λ r. operand_words r.c c.in_ok-read_operand-3.field-0 ++ words_of c.read_operand-3.new.words.line.now) row)
    (c.in_ok-read_number.ensures.found ∙ ap (λ r. number_words r.number c.in_ok-read_number.field-0 ++ words_of c.read_number.new.words.line.now) row
    ∙ ap (λ n. number_words (row_of c.args.operation).number n ++ words_of c.read_number.new.words.line.now) (sym (to_z-of_z w32 c.in_ok-read_number.field-0 c.in_ok-read_number.ensures.range))))

pub returns-clause-whole : goal.returns-clause-whole
returns-clause-whole c = λ j by same.
    let row = c.row-row.ensures.row in
    let first = sym c.in_ok-read_operand.ensures.found ∙ grouped_alone c.args.operation c.row-row.result row _ j by same in
    let second = sym c.in_ok-read_operand-2.ensures.found ∙ past_operand c.row-row.result.a c.in_ok-read_operand.field-0 j.a _ _ first in
    let third = sym c.in_ok-read_operand-3.ensures.found ∙ past_operand c.row-row.result.b c.in_ok-read_operand-2.field-0 j.b _ _ second in
    let fourth = sym c.in_ok-read_number.ensures.found ∙ past_operand c.row-row.result.c c.in_ok-read_operand-3.field-0 j.c _ _ third in
    past_number c.row-row.result.number c.in_ok-read_number.field-0 j.number _ _ fourth

pub returns-in_err-read_operand-clause-none : goal.returns-in_err-read_operand-clause-none
returns-in_err-read_operand-clause-none c =
    let row = c.row-row.ensures.row in
    on_none c.from_residual.result _ (λ i rest by right same.
    c.in_err-read_operand.ensures.none i.a _ (subst (λ (r : Row). IsOperand r.a i.a) (by_row c.args.operation c.row-row.result row i by) right.a)
    (grouped c.args.operation c.row-row.result row _ rest i by same))

pub returns-in_err-read_operand-2-clause-none : goal.returns-in_err-read_operand-2-clause-none
returns-in_err-read_operand-2-clause-none c =
    let row = c.row-row.ensures.row in
    on_none c.from_residual-in_err-read_operand-2.result _ (λ i rest by right same.
    let first = sym c.in_ok-read_operand.ensures.found ∙ grouped c.args.operation c.row-row.result row _ rest i by same in
    c.in_err-read_operand-2.ensures.none i.b _ (subst (λ (r : Row). IsOperand r.b i.b) (by_row c.args.operation c.row-row.result row i by) right.b)
    (past_operand c.row-row.result.a c.in_ok-read_operand.field-0 i.a _ _ first))

pub returns-in_err-read_operand-3-clause-none : goal.returns-in_err-read_operand-3-clause-none
returns-in_err-read_operand-3-clause-none c =
    let row = c.row-row.ensures.row in
    on_none c.from_residual-in_err-read_operand-3.result _ (λ i rest by right same.
    let first = sym c.in_ok-read_operand.ensures.found ∙ grouped c.args.operation c.row-row.result row _ rest i by same in
    let second = sym c.in_ok-read_operand-2.ensures.found ∙ past_operand c.row-row.result.a c.in_ok-read_operand.field-0 i.a _ _ first in
    c.in_err-read_operand-3.ensures.none i.c _ (subst (λ (r : Row). IsOperand r.c i.c) (by_row c.args.operation c.row-row.result row i by) right.c)
    (past_operand c.row-row.result.b c.in_ok-read_operand-2.field-0 i.b _ _ second))

pub returns-in_err-read_number-clause-none : goal.returns-in_err-read_number-clause-none
returns-in_err-read_number-clause-none c =
    let row = c.row-row.ensures.row in
    on_none c.from_residual-in_err-read_number.result _ (λ i rest by right same.
    let first = sym c.in_ok-read_operand.ensures.found ∙ grouped c.args.operation c.row-row.result row _ rest i by same in
    let second = sym c.in_ok-read_operand-2.ensures.found ∙ past_operand c.row-row.result.a c.in_ok-read_operand.field-0 i.a _ _ first in
    let third = sym c.in_ok-read_operand-3.ensures.found ∙ past_operand c.row-row.result.b c.in_ok-read_operand-2.field-0 i.b _ _ second in
    c.in_err-read_number.ensures.none right.types right.constants i.b i.number rest right.few_types right.few_constants right.range
    (subst (λ (r : Row). IsNumber right.types right.constants i.b r.number i.number) (by_row c.args.operation c.row-row.result row i by) right.number)
    (past_operand c.row-row.result.c c.in_ok-read_operand-3.field-0 i.c _ _ third))
