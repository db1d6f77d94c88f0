use Rattle.std.proofs.Common.{ℕ, ◌<◌}
use Rattle.seg_spec.specs.Types.{IsUsed}
use Rattle.client_code.proofs.types.used_entries.Given as goal

-- the entries so far are used
abbrev pub invariant-loop-i : goal.invariant-loop-i
invariant-loop-i l = (k : ℕ) → k < l.i → IsUsed l.bytes k
