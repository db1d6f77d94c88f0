use Rattle.std.proofs.Common.{◌+◌, ◌*◌}
use Rattle.script_syntax.proofs.parser.Parser.+expression.Given as goal

abbrev pub decreases-read_operators : goal.decreases-read_operators
decreases-read_operators l = 8 * l.depth

abbrev pub decreases-read_unary : goal.decreases-read_unary
decreases-read_unary l = 8 * l.depth + 7

abbrev pub decreases-read_operand : goal.decreases-read_operand
decreases-read_operand l = 8 * l.depth + 6

abbrev pub decreases-read_with_default : goal.decreases-read_with_default
decreases-read_with_default l = 8 * l.depth + 5

abbrev pub decreases-read_inner_place : goal.decreases-read_inner_place
decreases-read_inner_place l = 8 * l.depth + 4

abbrev pub decreases-read_steps : goal.decreases-read_steps
decreases-read_steps l = 8 * l.depth + 3

abbrev pub decreases-read_member : goal.decreases-read_member
decreases-read_member l = 8 * l.depth + 2

abbrev pub decreases-read_index : goal.decreases-read_index
decreases-read_index l = 8 * l.depth + 1

abbrev pub decreases-read_arguments : goal.decreases-read_arguments
decreases-read_arguments l = 8 * l.depth + 1
