use Rattle.std.proofs.Common.{◌≡◌, ◌<◌, ◌++◌, ◌∷◌, [], None, Some, map, take, length, slice_get, sym, ap, ◌∙◌, arith}
use Rattle.std.specs.Option.{option_map}
use Rattle.std.proofs.lemmas.List.{map_push, take_more}
use Rattle.std.proofs.lemmas.Option.{slice_get_within, get_or_from_slice_get, slice_get-get_or}
use Rattle.client_spec.specs.Grammar.{listing, mark}
use Rattle.client_spec.specs.declared.table.Operation.TheVariants as operation
use Rattle.client_code.specs.Views.{instruction_of}
use Rattle.script_meaning.proofs.meaning.instructions_of.Goals as goal

pub loop-at-preserved : goal.loop-at-preserved
loop-at-preserved c = λ tree spells.
    let code = listing tree.code in
    let i = instruction_of c.in-Some.instruction in
    let there : slice_get code c.loop-at.at ≡ Some i = sym (c.instruction.ensures tree spells) ∙ ap (λ r. option_map instruction_of r) c.in-Some.is in
    ap (map instruction_of) c.in_ok-push.ensures.items ∙ map_push instruction_of c.loop-at.instructions.items c.in-Some.instruction
    ∙ ap (λ before. before ++ i ∷ []) (c.loop-at.invariant tree spells)
    ∙ sym (take_more code c.loop-at.at i (slice_get_within code c.loop-at.at i there) ∙ ap (λ x. take c.loop-at.at code ++ x ∷ []) (get_or_from_slice_get code c.loop-at.at i i there))

pub returns-in_default : goal.returns-in_default
returns-in_default c = λ tree spells.
    let code = listing tree.code in
    let none : slice_get code c.loop-at.at ≡ None = sym (c.instruction.ensures tree spells) ∙ ap (λ r. option_map instruction_of r) c.in_default.is in
    let count = c.instruction_count-at-end.ensures.count tree spells in
    let test = c.loop-at-test.true in
    let within : c.loop-at.at < length code = omega arith in
    absurd (let e : None ≡ Some _ = sym none ∙ slice_get-get_or code c.loop-at.at (mark operation.End) within in cc)
