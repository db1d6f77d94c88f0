use Rattle.std.proofs.Common.{subst, sym}
use Rattle.client_spec.specs.declared.table.Operation.TheVariants as operation
use Rattle.script_meaning.specs.declared.program.Operator.{Operator}
use Rattle.script_meaning.specs.Comparing.{Computes}
use Rattle.script_meaning.proofs.ComputeLaws.{adds, subtracts, multiplies}
use Rattle.script_meaning.proofs.comparison.operation_of.Goals as goal

pub returns-in-Add : goal.returns-in-Add
returns-in-Add c = subst (λ (o : Operator). Computes o operation.Add) (sym c.in-Add.is) adds

pub returns-in-Subtract : goal.returns-in-Subtract
returns-in-Subtract c = subst (λ (o : Operator). Computes o operation.Sub) (sym c.in-Subtract.is) subtracts

pub returns-in-Multiply : goal.returns-in-Multiply
returns-in-Multiply c = subst (λ (o : Operator). Computes o operation.Mul) (sym c.in-Multiply.is) multiplies
