use Rattle.std.proofs.Common.{◌++◌, ◌∷◌, [], ap, ◌∙◌, rules, FitsSigned, w32}
use Rattle.std.proofs.lemmas.Int.{to_z-of_z}
use Rattle.client_spec.specs.Operations.{mnemonic}
use Rattle.client_spec.specs.Text.{operand_words, number_words, spaced_words}
use Rattle.client_text.proofs.CanonicalLineLaws.{on_ok, pushed, line_is}
use Rattle.client_text.proofs.printer.print_instruction.Goals as goal

pub returns : goal.returns
unfolding lib.Utf8.encode
returns g c =
    let row = c.row-row.result in
    let word = c.word.result.now in
    let i = c.args.instruction in
    let old = c.args.text.now.bytes.items in
    let fits : FitsSigned w32 i.number = search rules in
    on_ok c.push.result _ _ (λ last. line_is word _ _ _ _ old _ _ _ _ _ _ c.in_ok-push_str.ensures.bytes c.in_ok-print_operand.ensures c.in_ok-print_operand-2.ensures c.in_ok-print_operand-3.ensures c.in_ok-print_number.ensures last
    ∙ ap (λ n. old ++ (spaced_words (word ∷ operand_words row.a i.a ++ operand_words row.b i.b ++ operand_words row.c i.c ++ number_words row.number n) ++ 10 ∷ [])) (to_z-of_z w32 i.number fits)
    ∙ ap (λ w. old ++ (spaced_words (w ∷ operand_words row.a i.a ++ operand_words row.b i.b ++ operand_words row.c i.c ++ number_words row.number i.number) ++ 10 ∷ [])) c.word.ensures
    ∙ ap (λ r. old ++ (spaced_words (mnemonic i.operation ∷ operand_words r.a i.a ++ operand_words r.b i.b ++ operand_words r.c i.c ++ number_words r.number i.number)
    ++ 10 ∷ [])) c.row-row.ensures.row) (pushed c.push.result _ (10 ∷ []) _ c.push.ensures.bytes)
