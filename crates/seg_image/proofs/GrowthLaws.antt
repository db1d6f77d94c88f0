-- A segment that grew, as an image that grew.
use Rattle.std.proofs.Common.{ℕ, List, ap, ◌≡◌, ◌∙◌, sym, subst, Result, Ok, Err}
use Rattle.std.specs.Prelude.{OnOk}
use Rattle.seg_spec.specs.Bytes.{word}
use Rattle.seg_spec.specs.Header.{allocator_word, next_word}
use Rattle.seg_spec.specs.Sound.{Picture, IsHeld}
use Rattle.seg_spec.specs.Counting.{AreCounted}
use Rattle.seg_raw.specs.declared.fault.Fault.{Fault}
use Rattle.seg_value.specs.Stored.{Stored}
use Rattle.seg_manager.specs.Segments.{IsSegment}
use Rattle.seg_manager.specs.Sizes.{Grows}
use Rattle.seg_image.specs.Growth.{GrowsImage}

pub image_grows : {allocator : ℕ} {old new : Stored} {picture : Picture} {extra : ℕ} → Grows allocator old new picture extra → GrowsImage allocator old.window.bytes new picture extra
image_grows grows = record {
  segment = grows.segment;
  unchanged = λ none. ap (λ (s : Stored). s.window.bytes) (grows.unchanged none);
  fixed = grows.fixed;
  length_is = grows.length_is;
  live_is = grows.live_is;
  kept = grows.kept;
  zeros = grows.zeros;
}

-- a segment in other memory
moved : {allocator : ℕ} {picture : Picture} (old mid : Stored) → mid.window.bytes ≡ old.window.bytes → mid.types ≡ old.types → IsSegment allocator old picture → IsSegment allocator mid picture
moved {picture = picture} old mid bytes types it = record {
  held = subst (λ (bs : List ℕ). IsHeld bs picture) (sym bytes) it.held;
  counted = subst (λ (bs : List ℕ). AreCounted (word bs next_word) picture) (sym bytes) it.counted;
  table_is = types ∙ it.table_is;
  allocator_is = ap (λ (bs : List ℕ). word bs allocator_word) bytes ∙ it.allocator_is;
}

-- the same if the segment was moved to other memory before
pub moved_grows : {allocator : ℕ} {picture : Picture} (extra : ℕ) (result : Result ℕ Fault) (old mid new : Stored) → mid.window.bytes ≡ old.window.bytes → mid.types ≡ old.types → IsSegment allocator old picture
    → OnOk result ((other : Picture) → IsSegment allocator mid other → Grows allocator mid new other extra)
    → OnOk result (GrowsImage allocator old.window.bytes new picture extra)
moved_grows {allocator = allocator} {picture = picture} extra (Ok size) old mid new bytes types it grows =
    subst (λ (bs : List ℕ). GrowsImage allocator bs new picture extra) bytes (image_grows (grows picture (moved old mid bytes types it)))
moved_grows extra (Err fault) old mid new bytes types it grows = grows
