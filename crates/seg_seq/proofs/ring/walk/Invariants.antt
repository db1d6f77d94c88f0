use Rattle.std.proofs.Common.{◌≡◌, ℕ, ◌<◌, ◌≤◌, List, ◌∷◌, length, get_or}
use Rattle.seg_seq.specs.Rings.{AreSpread, HasRing, around}
use Rattle.seg_seq.proofs.ring.walk.Given as goal

-- the node is at the distance that the walk has gone
abbrev pub invariant-loop : goal.invariant-loop
invariant-loop g l = (cell i : ℕ) (nodes : List ℕ) → HasRing (g.S.SegmentRead.stored l.source).window.bytes cell nodes →
    AreSpread (g.S.SegmentRead.stored l.source).window.bytes (cell ∷ nodes) → i < length nodes → l.from ≡ get_or nodes i 0 → l.steps ≤ length nodes →
    l.node ≡ get_or nodes (around l.way (length nodes) i l.counter) 0
