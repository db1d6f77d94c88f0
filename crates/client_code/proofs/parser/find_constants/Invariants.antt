use Rattle.std.proofs.Common.{◌≡◌, ◌≤◌, ◌+◌, ◌*◌, List, length, map}
use Rattle.client_spec.specs.Syntax.{Constant}
use Rattle.client_code.specs.Views.{constant_kind_of}
use Rattle.client_code.specs.Files.{AreConstants}
use Rattle.client_code.proofs.parser.find_constants.Given as goal

-- a constant has at most 257 bytes, and the list has the kind of each constant so far
abbrev pub invariant-loop-i : goal.invariant-loop-i
invariant-loop-i l = record {
  near : l.next ≤ l.at + 257 * l.i;
  all : length l.kinds.items ≡ l.i;
  found : (cs : List Constant) × (length cs ≡ l.i) × AreConstants l.file l.at cs l.next × (map constant_kind_of cs ≡ l.kinds.items);
}
