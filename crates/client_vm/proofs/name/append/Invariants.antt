use Rattle.std.proofs.Common.{◌≡◌, ◌+◌, ◌≤◌, ◌++◌, length, take}
use Rattle.client_vm.proofs.name.append.Given as goal

-- the bytes so far are added
abbrev pub invariant-loop-byte : goal.invariant-loop-byte
invariant-loop-byte l = length l.fn.name.items + length l.bytes ≤ 63 → l.name.items ≡ l.fn.name.items ++ take l.byte-index l.bytes
