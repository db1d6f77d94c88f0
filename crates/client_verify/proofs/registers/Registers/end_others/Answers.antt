use Rattle.std.proofs.Common.{◌≡◌, ◌/◌, ◌%◌, sym, ap, ◌∙◌}
use Rattle.std.specs.Prelude.{slice_set}
use Rattle.client_spec.specs.Typed.{sharing, ended}
use Rattle.client_verify.specs.Views.{class_of, register_type_of, registers_of}
use Rattle.client_verify.specs.Checking.{referred, others}
use Rattle.client_verify.proofs.Parts.{shares_itself}
use Rattle.client_verify.proofs.registers.Registers.end_others.Goals as goal

pub returns-in-Some : goal.returns-in-Some
returns-in-Some c =
    let ks = registers_of c.args.self.now in
    let b = c.args.register in
    let class = class_of c.in-Some.class in
    let itself = shares_itself (c.in-Some.class.bits % 256) (c.in-Some.class.bits / 256) in
    c.set_packed.ensures
    ∙ ap (λ es. slice_set es b (register_type_of c.packed-kept.result)) (c.end.ensures ∙ ap (λ x. ended x ks) (sym itself))
    ∙ ap (slice_set (ended (sharing class) ks) b) c.packed-kept.ensures
    ∙ ap (λ x. others x b ks) (c.in-Some.ensures ∙ ap referred c.packed-kept.ensures)
