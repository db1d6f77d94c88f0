use Rattle.std.proofs.Common.{ap, ◌∙◌, arith}
use Rattle.client_spec.specs.Operations.{opcode}
use Rattle.client_spec.proofs.Spelling.OperationTableLaws.{operation_number, as_many}
use Rattle.client_spec.proofs.table.Operation.from_number.Goals as goal

pub returns-clause-found : goal.returns-clause-found
returns-clause-found c =
    let found = c.in_ok-row.ensures.lookup in
    let all = as_many (λ entry. (entry.0.now, entry.1)) c.rows.result.now c.rows.ensures in
    let here = operation_number (λ entry. (entry.0.now, entry.1)) c.rows.result.now c.rows.ensures c.in_ok-index.index c.in_ok-row.field-0.now (omega (arith, found.3.0)) in
    let same = ap (λ entry. opcode entry.1.operation) found.1 in
    let index = c.in_ok-index.ensures in
    let from = c.from.ensures in
    same ∙ here ∙ omega arith
