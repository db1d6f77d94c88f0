-- Changes of a segment's size.
--     MayGrowTo extra len                        a segment may have `len` bytes after it grows by `extra`
--     used_front allocator extra                 the number of these bytes that a header may use
--     KeepsFixedParts old new                    the bytes before the heap are kept, but for the length and the free
--                                                structure's pointer
--     Grows allocator old new picture extra      the segment has more bytes at its end, and the same picture
--     ShrinksSegment allocator old new picture size
--                                                the gap at the end was cut, and the picture is the same
use Rattle.std.specs.Prelude.{◌≡◌, ℕ, ◌+◌, ◌-◌, ◌*◌, ◌/◌, ◌%◌, ◌≤◌, ◌==◌, if◌then◌else◌, List, length, drop, replicate}
use Rattle.seg_spec.specs.Bytes.{slice, IsSame}
use Rattle.seg_spec.specs.Header.{units_word, allocator_word, free_word, KeepsBack}
use Rattle.seg_spec.specs.Heap.{live, gaps, after_extend, units_to_cut}
use Rattle.seg_spec.specs.Block.{KeepsBlock}
use Rattle.seg_spec.specs.Faulty.{IsImageLength}
use Rattle.seg_spec.specs.Sound.{Picture, times, positions}
use Rattle.seg_value.specs.Stored.{Stored}
use Rattle.seg_manager.specs.Segments.{IsSegment}

-- the extra bytes are whole units, and the sum is a possible length of an image
abbrev pub MayGrowTo : ℕ → ℕ → Type 0
MayGrowTo extra len = (extra % 16 ≡ 0) × IsImageLength len

-- The number of bytes at the front of the new ones that the header of a gap and the allocator's own
-- words may use. A single unit gets no header.
abbrev pub used_front : ℕ → ℕ → ℕ
used_front allocator extra = if extra == 16 then 0 else 16 + 16 * allocator

-- The bytes before the heap are kept, but for the length and the free structure's pointer. So the
-- version, the allocator, the kind of index and the next number are kept.
pub record KeepsFixedParts (old new : List ℕ) : Type 0 where
  pub front_kept : IsSame old new 0 units_word
  pub words_kept : IsSame old new allocator_word (free_word - allocator_word)
  pub back_kept : KeepsBack old new

-- The picture and each allocated block are kept. A single new unit is added to a block that ended
-- at the end. The new bytes after the used front are 0. The host's bytes before and after the
-- larger segment are kept. If no bytes are added, nothing changes.
pub record Grows (allocator : ℕ) (old new : Stored) (picture : Picture) (extra : ℕ) : Type 0 where
  pub segment : IsSegment allocator new picture
  pub unchanged : extra ≡ 0 → new ≡ old
  pub fixed : KeepsFixedParts old.window.bytes new.window.bytes
  pub length_is : length new.window.bytes ≡ length old.window.bytes + extra
  pub live_is : live new.window.bytes ≡
      after_extend (live old.window.bytes) (length old.window.bytes) (extra / 16)
  pub kept : (h : ℕ) → 1 ≤ times h (positions (live old.window.bytes)) →
      KeepsBlock old.window.bytes new.window.bytes h
  pub zeros : slice new.window.bytes (length old.window.bytes + used_front allocator extra)
      (extra - used_front allocator extra) ≡ replicate (extra - used_front allocator extra) 0
  pub before_is : new.window.before ≡ old.window.before
  pub after_is : new.window.after ≡ drop extra old.window.after

-- The picture, the allocated blocks and their bytes are kept. The host gets the bytes that were
-- cut.
pub record ShrinksSegment (allocator : ℕ) (old new : Stored) (picture : Picture) (size : ℕ) :
    Type 0 where
  pub segment : IsSegment allocator new picture
  pub fixed : KeepsFixedParts old.window.bytes new.window.bytes
  pub result_is : size ≡ length new.window.bytes
  pub length_is : length new.window.bytes
      + 16 * units_to_cut (gaps old.window.bytes) (length old.window.bytes)
      ≡ length old.window.bytes
  pub live_is : live new.window.bytes ≡ live old.window.bytes
  pub kept : (h : ℕ) → 1 ≤ times h (positions (live old.window.bytes)) →
      KeepsBlock old.window.bytes new.window.bytes h
  pub before_is : new.window.before ≡ old.window.before
  pub after_is :
      drop (16 * units_to_cut (gaps old.window.bytes) (length old.window.bytes)) new.window.after
      ≡ old.window.after
