use Rattle.test_definitions.proofs.Rows.OneRow.{one_row, alike_rows, no_choice}
use Rattle.test_definitions.proofs.pictures.one_row.Goals as goal

pub returns : goal.returns
returns c = record { one = one_row; alike = alike_rows; refused = no_choice }
