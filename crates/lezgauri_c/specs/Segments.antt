-- The calls that create a segment and change its size. The sound image before a call is given with
-- its picture.
--     IsNewImage allocator index size bytes      a sound image without objects or types
--     HasGrown old new extra before              the image has more bytes at its end
--     HasShrunk old new before                   the gap at the image's end was cut
use Rattle.std.specs.Prelude.{◌≡◌, ℕ, ◌+◌, ◌-◌, ◌*◌, ◌/◌, ◌≤◌, List, [], length, replicate}
use Rattle.std.specs.List.{AllByRecursion}
use Rattle.seg_spec.specs.Bytes.{word, slice}
use Rattle.seg_spec.specs.Header.{version_word, allocator_word, index_kind_word, next_word, sharing_version}
use Rattle.seg_spec.specs.Heap.{live, gaps, after_extend, units_to_cut}
use Rattle.seg_spec.specs.Block.{KeepsBlock}
use Rattle.seg_spec.specs.Sound.{times, positions}
use Rattle.seg_spec.specs.Images.{IsSound}
use Rattle.seg_manager.specs.Gaps.{IsZeroed}
use Rattle.seg_manager.specs.NewSegments.{nothing}
use Rattle.seg_manager.specs.Sizes.{used_front, KeepsFixedParts}

-- Its version is the one that may have frozen objects, of which none was numbered yet. The unused
-- bytes of its free memory are 0.
pub record IsNewImage (allocator index size : ℕ) (bytes : List ℕ) : Type 0 where
  pub sound : IsSound bytes
  pub picture_is : sound.picture ≡ nothing
  pub no_block : live bytes ≡ []
  pub zeroed : AllByRecursion (IsZeroed allocator bytes) (gaps bytes)
  pub length_is : length bytes ≡ size
  pub allocator_is : word bytes allocator_word ≡ allocator
  pub kind_is : word bytes index_kind_word ≡ index
  pub version_is : word bytes version_word ≡ sharing_version
  pub next_is : word bytes next_word ≡ 0

-- The picture and each allocated block are kept. A single new unit is added to a block that ended
-- at the end. The new bytes after the used front are 0. If no bytes are added, nothing changes.
pub record HasGrown (old new : List ℕ) (extra : ℕ) (before : IsSound old) : Type 0 where
  pub sound : IsSound new
  pub picture_is : sound.picture ≡ before.picture
  pub unchanged : extra ≡ 0 → new ≡ old
  pub fixed : KeepsFixedParts old new
  pub length_is : length new ≡ length old + extra
  pub live_is : live new ≡ after_extend (live old) (length old) (extra / 16)
  pub kept : (h : ℕ) → 1 ≤ times h (positions (live old)) → KeepsBlock old new h
  pub zeros : slice new (length old + used_front (word old allocator_word) extra)
      (extra - used_front (word old allocator_word) extra)
      ≡ replicate (extra - used_front (word old allocator_word) extra) 0

-- The picture, the allocated blocks and their bytes are kept.
pub record HasShrunk (old new : List ℕ) (before : IsSound old) : Type 0 where
  pub sound : IsSound new
  pub picture_is : sound.picture ≡ before.picture
  pub fixed : KeepsFixedParts old new
  pub length_is : length new + 16 * units_to_cut (gaps old) (length old) ≡ length old
  pub live_is : live new ≡ live old
  pub kept : (h : ℕ) → 1 ≤ times h (positions (live old)) → KeepsBlock old new h
