use Rattle.std.proofs.Common.{◌+◌, ◌*◌}
use Rattle.test_language.proofs.tests.written.Writer.+expression.Given as goal

abbrev pub decreases-inner : goal.decreases-inner
decreases-inner l = 4 * l.levels

abbrev pub decreases-operation : goal.decreases-operation
decreases-operation l = 4 * l.levels + 1

abbrev pub decreases-arguments : goal.decreases-arguments
decreases-arguments l = 4 * l.levels + 1

abbrev pub decreases-step : goal.decreases-step
decreases-step l = 4 * l.levels + 2

abbrev pub decreases-steps : goal.decreases-steps
decreases-steps l = 4 * l.levels + 3
