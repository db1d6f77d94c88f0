use Rattle.client_vm.proofs.ObjectLaws.{optional_none, optional_ok, optional_err}
use Rattle.client_vm.proofs.machine.Machine.optional.Goals as goal
use Rattle.std.proofs.Common.{rules}

pub returns-then-c-eq-NONE : goal.returns-then-c-eq-NONE
returns-then-c-eq-NONE c = optional_none c.args.self.now c.args.c c.args.none c.if-c-eq-NONE.true

pub returns-in-Ok : goal.returns-in-Ok
returns-in-Ok c = optional_ok c.args.self.now c.args.c c.args.none c.in-Ok.number c.number.result c.if-c-eq-NONE.false c.number.ensures (search (rules, c.in-Ok.ensures.1))

pub returns-in-Err : goal.returns-in-Err
returns-in-Err c = optional_err c.args.self.now c.args.c c.args.none c.number.result _ c.if-c-eq-NONE.false c.number.ensures (search rules) c.in-Err.ensures
