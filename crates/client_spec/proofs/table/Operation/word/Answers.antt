use Rattle.std.proofs.Common.{ap}
use Rattle.client_spec.proofs.Spelling.OperationTableLaws.{at_index}
use Rattle.client_spec.proofs.table.Operation.word.Goals as goal

pub returns : goal.returns
returns c = ap (λ entry. entry.0) (at_index (λ entry. (entry.0.now, entry.1)) c.rows.result.now c.rows.ensures c.args.self c.index.result _ c.index.ensures)
