-- A heap of values, or a segment, in contracts: the bytes in their region, and the type table.
--     whole_of bytes table   the segment that is the whole of borrowed bytes
use Rattle.std.specs.Prelude.{ℕ, List, []}
use Rattle.seg_spec.specs.Window.{Placement, nowhere}
use Rattle.seg_spec.specs.Types.{Table}

pub record Stored : Type 0 where
  pub window : Placement
  pub types : Table

abbrev pub whole_of : List ℕ → Table → Stored
whole_of bytes table = record {
  window = record { before = []; bytes = bytes; after = []; home = nowhere };
  types = table;
}
