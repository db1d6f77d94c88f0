use Rattle.std.proofs.Common.{ap, ◌∙◌}
use Rattle.client_spec.proofs.Spelling.OperationTableLaws.{at_index, own_row}
use Rattle.client_spec.proofs.table.Operation.row.Goals as goal

pub returns-clause-row : goal.returns-clause-row
returns-clause-row c = ap (λ entry. entry.1) (at_index (λ entry. (entry.0.now, entry.1)) c.rows.result.now c.rows.ensures c.args.self c.index.result _ c.index.ensures)

pub returns-clause-own : goal.returns-clause-own
returns-clause-own c = ap (λ row. row.operation) (returns-clause-row c) ∙ own_row c.args.self
