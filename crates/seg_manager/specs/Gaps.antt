-- The free memory of a heap. Its free blocks are called gaps.
--     bytes_in_gaps gaps, largest_of gaps
--                                         the size of all gaps and of the largest in bytes, with headers
--     spare_start, spare_size             the bytes of a gap outside its header that the allocator doesn't use
--     IsZeroed, LiesBeside, ZeroesGaps    these bytes are 0; bytes outside them; a call that zeroes them
use Rattle.std.specs.Prelude.{◌≡◌, ℕ, ◌+◌, ◌-◌, ◌*◌, max, List, [], ◌∷◌, length, replicate}
use Rattle.std.specs.List.{AllByRecursion}
use Rattle.seg_spec.specs.Bytes.{slice, IsSame}
use Rattle.seg_spec.specs.Heap.{Span, live, gaps}
use Rattle.seg_spec.specs.Apart.{Separate}
use Rattle.seg_spec.specs.Sound.{Picture}
use Rattle.seg_value.specs.Stored.{Stored}
use Rattle.seg_manager.specs.Segments.{IsSegment}

abbrev pub bytes_in_gaps : List Span → ℕ
bytes_in_gaps [] = 0
bytes_in_gaps (g ∷ gs) = 16 * g.units + bytes_in_gaps gs

-- the size of the largest gap in bytes, or 0 if there is no gap
abbrev pub largest_of : List Span → ℕ
largest_of [] = 0
largest_of (g ∷ gs) = max (16 * g.units) (largest_of gs)

-- ---- gaps that are zeroed

-- the bytes of a gap that this allocator doesn't use: those after the header and the allocator's
-- own words
abbrev pub spare_start : ℕ → Span → ℕ
spare_start allocator g = g.at + (16 + 16 * allocator)

abbrev pub spare_size : ℕ → Span → ℕ
spare_size allocator g = 16 * g.units - (16 + 16 * allocator)

-- the unused bytes of a gap are 0
abbrev pub IsZeroed : ℕ → List ℕ → Span → Type 0
IsZeroed allocator bytes g =
    slice bytes (spare_start allocator g) (spare_size allocator g)
    ≡ replicate (spare_size allocator g) 0

-- n bytes don't overlap the unused bytes of a gap
abbrev pub LiesBeside : ℕ → ℕ → ℕ → Span → Type 0
LiesBeside allocator p n g = Separate p n (spare_start allocator g) (spare_size allocator g)

-- The unused bytes of the gaps are 0, no other byte changed, and the segment has the same picture.
pub record ZeroesGaps (allocator : ℕ) (old new : Stored) (picture : Picture) : Type 0 where
  pub segment : IsSegment allocator new picture
  pub length_kept : length new.window.bytes ≡ length old.window.bytes
  pub live_is : live new.window.bytes ≡ live old.window.bytes
  pub zeroed : AllByRecursion (IsZeroed allocator new.window.bytes) (gaps old.window.bytes)
  pub beside : (p n : ℕ) →
      AllByRecursion (LiesBeside allocator p n) (gaps old.window.bytes) →
      IsSame old.window.bytes new.window.bytes p n
