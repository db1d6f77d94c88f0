-- Growing an image.
--     GrowsImage allocator old new picture extra     the image has more bytes at its end, and the same picture
use Rattle.std.specs.Prelude.{◌≡◌, ℕ, ◌+◌, ◌-◌, ◌/◌, ◌≤◌, List, length, replicate}
use Rattle.seg_spec.specs.Bytes.{slice}
use Rattle.seg_spec.specs.Heap.{live, after_extend}
use Rattle.seg_spec.specs.Block.{KeepsBlock}
use Rattle.seg_spec.specs.Sound.{Picture, times, positions}
use Rattle.seg_value.specs.Stored.{Stored}
use Rattle.seg_manager.specs.Segments.{IsSegment}
use Rattle.seg_manager.specs.Sizes.{used_front, KeepsFixedParts}

-- The segment has `extra` bytes more than these bytes, and the same picture. Each allocated block
-- is kept. A single new unit is added to a block that ended at the end. The new bytes after the
-- used front are 0. If no bytes are added, all bytes are the same.
pub record GrowsImage (allocator : ℕ) (old : List ℕ) (new : Stored) (picture : Picture)
    (extra : ℕ) : Type 0 where
  pub segment : IsSegment allocator new picture
  pub unchanged : extra ≡ 0 → new.window.bytes ≡ old
  pub fixed : KeepsFixedParts old new.window.bytes
  pub length_is : length new.window.bytes ≡ length old + extra
  pub live_is : live new.window.bytes ≡ after_extend (live old) (length old) (extra / 16)
  pub kept : (h : ℕ) → 1 ≤ times h (positions (live old)) → KeepsBlock old new.window.bytes h
  pub zeros : slice new.window.bytes (length old + used_front allocator extra)
      (extra - used_front allocator extra) ≡ replicate (extra - used_front allocator extra) 0
