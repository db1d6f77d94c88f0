-- Images that were made or changed their size, from what is known of their segments.
use Rattle.std.proofs.Common.{◌≡◌, ℕ, ◌+◌, ◌-◌, ◌*◌, ◌/◌, ◌≤◌, List, [], length, replicate, refl, ap, ◌∙◌, subst}
use Rattle.std.specs.List.{AllByRecursion}
use Rattle.seg_spec.specs.Bytes.{word, slice}
use Rattle.seg_spec.specs.Header.{version_word, allocator_word, index_kind_word, next_word, sharing_version}
use Rattle.seg_spec.specs.Heap.{live, gaps, after_extend, units_to_cut}
use Rattle.seg_spec.specs.Block.{KeepsBlock}
use Rattle.seg_spec.specs.Types.{Table}
use Rattle.seg_spec.specs.Sound.{Picture, IsHeld, times, positions}
use Rattle.seg_spec.specs.Counting.{AreCounted}
use Rattle.seg_spec.specs.Images.{IsSound}
use Rattle.lezgauri.specs.Faults.{IsImageOf}
use Rattle.seg_manager.specs.Gaps.{IsZeroed}
use Rattle.seg_manager.specs.NewSegments.{nothing}
use Rattle.seg_manager.specs.Sizes.{used_front, KeepsFixedParts, Grows, ShrinksSegment}
use Rattle.lezgauri.specs.Stored.{Stored}
use Rattle.lezgauri.specs.Segments.{IsSegment}
use Rattle.lezgauri_c.specs.Segments.{IsNewImage, HasGrown, HasShrunk}
use Rattle.lezgauri_c.proofs.OneClient.{image_of}

pub new_image : (allocator index size : ℕ) (bytes : List ℕ) → IsHeld bytes nothing → AreCounted (word bytes next_word) nothing
    → live bytes ≡ [] → AllByRecursion (IsZeroed allocator bytes) (gaps bytes) → length bytes ≡ size → word bytes allocator_word ≡ allocator → word bytes index_kind_word ≡ index
    → word bytes version_word ≡ sharing_version → word bytes next_word ≡ 0 → IsNewImage allocator index size bytes
new_image allocator index size bytes held counted no_block zeroed length_is allocator_is kind_is version_is next_is = record {
  sound = record { picture = nothing; held = held; counted = counted; none_loose = refl };
  picture_is = refl;
  no_block = no_block;
  zeroed = zeroed;
  length_is = length_is;
  allocator_is = allocator_is;
  kind_is = kind_is;
  version_is = version_is;
  next_is = next_is;
}

module _ (old new : List ℕ) (before : IsSound old) (held : IsHeld new before.picture) (counted : AreCounted (word new next_word) before.picture)
    (fixed : KeepsFixedParts old new) (kept : (h : ℕ) → 1 ≤ times h (positions (live old)) → KeepsBlock old new h) where
  abbrev sound_then : IsSound new
  sound_then = record { picture = before.picture; held = held; counted = counted; none_loose = before.none_loose }

  pub has_grown : (allocator extra : ℕ) → word old allocator_word ≡ allocator → (extra ≡ 0 → new ≡ old) → length new ≡ length old + extra
      → live new ≡ after_extend (live old) (length old) (extra / 16)
      → slice new (length old + used_front allocator extra) (extra - used_front allocator extra) ≡ replicate (extra - used_front allocator extra) 0
      → HasGrown old new extra before
  has_grown allocator extra is unchanged length_is live_is zeros = record {
    sound = sound_then;
    picture_is = refl;
    unchanged = unchanged;
    fixed = fixed;
    length_is = length_is;
    live_is = live_is;
    kept = kept;
    zeros = rw is zeros;
  }

  pub has_shrunk : length new + 16 * units_to_cut (gaps old) (length old) ≡ length old → live new ≡ live old → HasShrunk old new before
  has_shrunk length_is live_is = record { sound = sound_then; picture_is = refl; fixed = fixed; length_is = length_is; live_is = live_is; kept = kept }

-- ---- what a call on a segment means for its image

-- if the image is sound, and has these types and this allocator, then it has grown, or was cut
module _ (allocator : ℕ) (types : Table) where
  abbrev pub WillGrow : ℕ → List ℕ → List ℕ → Type 0
  WillGrow extra old new = (sound : IsSound old) → types ≡ sound.picture.table → word old allocator_word ≡ allocator → HasGrown old new extra sound

  abbrev pub WillShrink : List ℕ → List ℕ → Type 0
  WillShrink old new = (sound : IsSound old) → types ≡ sound.picture.table → word old allocator_word ≡ allocator → HasShrunk old new sound

  module _ (s t : Stored) (same : s.types ≡ types) where
    segment_of : (sound : IsSound s.window.bytes) → types ≡ sound.picture.table → word s.window.bytes allocator_word ≡ allocator → IsSegment allocator s sound.picture
    segment_of sound is named = record { held = sound.held; counted = sound.counted; table_is = same ∙ is; allocator_is = named }

    pub will_grow : (extra : ℕ) → ((picture : Picture) → IsSegment allocator s picture → Grows allocator s t picture extra) → WillGrow extra s.window.bytes t.window.bytes
    will_grow extra grows sound is named =
        let then = grows sound.picture (segment_of sound is named) in
        has_grown s.window.bytes t.window.bytes sound then.segment.held then.segment.counted then.fixed then.kept allocator extra named
        (λ none. ap (λ (x : Stored). x.window.bytes) (then.unchanged none)) then.length_is then.live_is then.zeros

    pub will_shrink : (size : ℕ) → ((picture : Picture) → IsSegment allocator s picture → ShrinksSegment allocator s t picture size) → WillShrink s.window.bytes t.window.bytes
    will_shrink size shrinks sound is named =
        let then = shrinks sound.picture (segment_of sound is named) in
        has_shrunk s.window.bytes t.window.bytes sound then.segment.held then.segment.counted then.fixed then.kept then.length_is then.live_is

-- what is true of the bytes in a window, with the types that were found there, is true of the image
module _ (window image : List ℕ) (same : window ≡ image) (types : Table) (P : (bytes : List ℕ) → IsSound bytes → Type 0) (there : (sound : IsSound window) → types ≡ sound.picture.table → P window sound) where
  pub of_image : ((table : Table) → IsImageOf image table → types ≡ table) → (sound : IsSound image) → P image sound
  of_image found =
      subst (λ (b : List ℕ). ((table : Table) → IsImageOf b table → types ≡ table) → (sound : IsSound b) → P b sound) same
      (λ found_there sound. there sound (found_there sound.picture.table (image_of window sound))) found
