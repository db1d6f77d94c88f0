use Rattle.std.proofs.Common.{◌-◌, ◌∙◌, arith}
use Rattle.client_spec.proofs.Spelling.OperationTableLaws.{operation_number}
use Rattle.client_spec.proofs.table.Operation.of_number.Goals as goal

pub returns : goal.returns
returns c =
    let from = c.from.ensures in
    operation_number (λ entry. (entry.0.now, entry.1)) c.rows.result.now c.rows.ensures (c.from.result - 1) _ (let few = c.requires in omega arith)
    ∙ (let few = c.requires in omega arith)
