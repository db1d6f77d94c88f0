use Rattle.std.proofs.Common.{sym, ◌∙◌, arith}
use Rattle.client_spec.proofs.Spelling.TextWordLaws.{lettered_one}
use Rattle.client_text.proofs.item.read_register.Goals as goal

pub returns-else-register-lt-REGISTERS-clause-none : goal.returns-else-register-lt-REGISTERS-clause-none
returns-else-register-lt-REGISTERS-clause-none c = λ n small same.
    let large = c.if-register-lt-REGISTERS.false in
    let byte = c.in_ok-register.ensures.found.0 in
    let one = lettered_one 114 c.in_ok-register.register n (omega arith) (omega arith) (sym c.in_ok-register.ensures.found.1 ∙ same) in
    omega arith
