-- A segment whose bytes are borrowed to be written.
--     lent_to old xs     the window after xs was written over its bytes
use Rattle.std.specs.Prelude.{ℕ, ◌+◌, List, length, take, drop}
use Rattle.seg_spec.specs.Window.{Placement, region_of}
use Rattle.seg_raw.specs.Homes.{Area, with_area_bytes}
use Rattle.seg_raw.specs.Lending.{lent}

-- the window on a part of a region
abbrev pub view_of : Area → ℕ → ℕ → Placement
view_of region base len = record {
  before = take base region.bytes;
  bytes = take len (drop base region.bytes);
  after = drop (base + len) region.bytes;
  home = region.home;
}

-- the region of a window
abbrev pub area_of : Placement → Area
area_of p = record { bytes = region_of p; home = p.home }

abbrev pub lent_to : Placement → List ℕ → Placement
lent_to old xs =
    view_of (with_area_bytes (area_of old) (lent (region_of old) (length old.before) xs))
    (length old.before) (length old.bytes)
