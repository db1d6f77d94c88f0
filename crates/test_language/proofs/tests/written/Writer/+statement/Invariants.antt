use Rattle.std.proofs.Common.{◌+◌, ◌*◌}
use Rattle.test_language.proofs.tests.written.Writer.+statement.Given as goal

abbrev pub decreases-block : goal.decreases-block
decreases-block l = 3 * l.levels

abbrev pub decreases-statement : goal.decreases-statement
decreases-statement l = 3 * l.levels + 1

abbrev pub decreases-statements : goal.decreases-statements
decreases-statements l = 3 * l.levels + 2
