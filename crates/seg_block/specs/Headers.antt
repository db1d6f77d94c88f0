-- The headers in bytes.
--     header_at bytes at     the header at a position, if all of it lies in the bytes
--     no_header bytes at     the header that is read at other positions: its words are 0
use Rattle.std.specs.Prelude.{ℕ, false, List}
use Rattle.seg_spec.specs.Heap.{units_at, is_live_at, units_before, tag_at, link_at}
use Rattle.seg_block.specs.declared.header.Header.{Header}

abbrev pub header_at : List ℕ → ℕ → Header
header_at bytes at = record {
  units = units_at bytes at;
  is_live = is_live_at bytes at;
  units_before = units_before bytes at;
  tag = tag_at bytes at;
  link = link_at bytes at;
}

abbrev pub no_header : List ℕ → ℕ → Header
no_header bytes at =
    record { units = 0; is_live = false; units_before = 0; tag = 0; link = link_at bytes at }
