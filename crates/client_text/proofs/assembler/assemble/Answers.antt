use Rattle.std.proofs.Common.{◌++◌, ap, ◌∙◌, subst}
use Rattle.client_spec.specs.Grammar.{SpellsClient}
use Rattle.client_spec.specs.Pieces.{file_of}
use Rattle.client_text.proofs.AssemblyLaws.{text_spells, canonical_file, no_client}
use Rattle.client_text.proofs.assembler.assemble.Goals as goal

pub returns-in-None-clause-found : goal.returns-in-None-clause-found
returns-in-None-clause-found g c =
    let (is_whole, tree, spells) = c.in-None.ensures.right in
    let (pieces, said, e) = c.in_ok-is_whole.ensures.whole is_whole in
    let here = subst (λ file. SpellsClient file tree) c.as_slice.ensures.value spells in
    (tree, here, text_spells c.args.text.now c.write.new.file.items pieces tree said (e ∙ ap (λ xs. xs ++ file_of pieces) c.new-file.ensures.items) here)

pub returns-in-None-clause-canonical : goal.returns-in-None-clause-canonical
returns-in-None-clause-canonical g c =
    let (tree, spells, said) = returns-in-None-clause-found g c in
    λ client valid e. canonical_file c.args.text.now c.write.new.file.items tree client spells said valid e

pub returns-in-Some-clause-wrong : goal.returns-in-Some-clause-wrong
returns-in-Some-clause-wrong g c =
    λ line same tree spells. no_client c.in_ok-is_whole.is_whole c.args.text.now c.as_slice.result.now
    (λ is_whole. let (pieces, said, e) = c.in_ok-is_whole.ensures.whole is_whole in (pieces, said, c.as_slice.ensures.value ∙ e ∙ ap (λ xs. xs ++ file_of pieces) c.new-file.ensures.items))
    c.in_ok-is_whole.ensures.cut c.in-Some.ensures.wrong tree spells
