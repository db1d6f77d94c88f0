use Rattle.std.proofs.Common.{◌≡◌, ◌-◌, ◌≤◌, ◌++◌, replicate, vec_len, vec_capacity}
use Rattle.seg_raw.specs.Homes.{home_of}
use Rattle.seg_raw.proofs.in_place.lengthen.Given as goal

abbrev pub invariant-loop : goal.invariant-loop
invariant-loop g l = record {
  bytes : l.bytes.items ≡ l.fn.bytes.items ++ replicate (l.counter - vec_len l.fn.bytes) 0;
  long : vec_len l.bytes ≡ l.counter;
  start : vec_len l.fn.bytes ≤ l.counter;
  end : l.counter - vec_len l.fn.bytes ≤ l.len - vec_len l.fn.bytes;
  capacity : vec_capacity l.bytes ≡ vec_capacity l.fn.bytes;
  home : home_of l.bytes ≡ home_of l.fn.bytes;
}
