use Rattle.std.proofs.Common.{◌≡◌, ◌+◌, ◌-◌, ◌≤◌, take, vec_len}
use Rattle.seg_raw.specs.Homes.{home_of}
use Rattle.seg_raw.proofs.in_place.shorten.Given as goal

abbrev pub invariant-loop-bytes : goal.invariant-loop-bytes
invariant-loop-bytes g l =
    (take l.len l.bytes.items ≡ take l.len l.fn.bytes.items) × (home_of l.bytes ≡ home_of l.fn.bytes) × (vec_len l.bytes ≤ vec_len l.fn.bytes)
    × (vec_len l.fn.bytes ≤ vec_len l.bytes + (vec_len l.fn.bytes - l.len))

abbrev pub decreases-loop-bytes : goal.decreases-loop-bytes
decreases-loop-bytes g l = vec_len l.bytes
