use Rattle.std.proofs.Common.{◌+◌, ◌*◌}
use Rattle.script_meaning.proofs.core_program.Reader.+core.Given as goal

abbrev pub decreases-sequence : goal.decreases-sequence
decreases-sequence l = 6 * l.depth

abbrev pub decreases-block : goal.decreases-block
decreases-block l = 6 * l.depth + 1

abbrev pub decreases-body : goal.decreases-body
decreases-body l = 6 * l.depth + 2

abbrev pub decreases-otherwise : goal.decreases-otherwise
decreases-otherwise l = 6 * l.depth + 2

abbrev pub decreases-on_failure : goal.decreases-on_failure
decreases-on_failure l = 6 * l.depth + 3

abbrev pub decreases-set : goal.decreases-set
decreases-set l = 6 * l.depth + 4

abbrev pub decreases-branch : goal.decreases-branch
decreases-branch l = 6 * l.depth + 4

abbrev pub decreases-find : goal.decreases-find
decreases-find l = 6 * l.depth + 4

abbrev pub decreases-repeat : goal.decreases-repeat
decreases-repeat l = 6 * l.depth + 4

abbrev pub decreases-statement : goal.decreases-statement
decreases-statement l = 6 * l.depth + 5
