use Rattle.std.proofs.Common.{◌≡◌, ◌+◌, ◌∷◌, length, reverse, map, take, sym, ap, ◌∙◌, arith}
use Rattle.client_verify.specs.declared.verifier.Open.{Open}
use Rattle.client_verify.specs.Passing as passing
use Rattle.client_verify.specs.Views.{registers_of}
use Rattle.client_verify.specs.Verifiers.{open_of, progress_of}
use Rattle.client_verify.proofs.Parts.{innermost, innermost_set, kept_in, steps_in}
use Rattle.client_verify.proofs.verifier.Verifier.turn.Goals as goal

pub returns-in-Some-get_mut-clause-turned : goal.returns-in-Some-get_mut-clause-turned
returns-in-Some-get_mut-clause-turned c =
    let p : passing.Progress = progress_of c.args.self.now in
    let items = c.args.self.now.parts.items in
    let i = c.in-Some.innermost in
    let part : Open = c.in-Some-get_mut.open.now in
    let rest = reverse (map open_of (take i items)) in
    let count = c.len.ensures.value in
    let less = c.in-Some.ensures in
    let long : length items ≡ i + 1 = omega arith in
    ap (λ parts. record p { known = registers_of part.registers; steps = 0; parts = parts }) (innermost_set open_of items i _ long)
    ∙ sym (ap (passing.turned p) (innermost open_of items i part long ∙ ap (λ x. open_of x ∷ rest) (sym c.in-Some-get_mut.ensures.value))
    ∙ ap (λ ks. passing.turned p (passing.in_success ks (passing.steps_before (open_of part)) ∷ rest)) (kept_in part.part (registers_of part.registers) part.steps)
    ∙ ap (λ n. passing.turned p (passing.in_success (registers_of part.registers) n ∷ rest)) (steps_in part.part (registers_of part.registers) part.steps))
