-- A new segment, from an empty one whose free memory was zeroed.
use Rattle.std.proofs.Common.{◌≡◌, ℕ, ◌+◌, ◌≤◌, List, [], inl, refl, sym, subst, take, drop, length, ap, ◌∙◌, arith}
use Rattle.std.specs.List.{AllByRecursion}
use Rattle.seg_spec.specs.Bytes.{slice, word}
use Rattle.seg_spec.specs.Header.{version_word, allocator_word, index_kind_word, next_word, heap_start, sharing_version}
use Rattle.seg_spec.specs.Heap.{tiles, IsHeap, live, free_of, gaps}
use Rattle.seg_spec.specs.Sound.{Picture, IsHeld}
use Rattle.seg_spec.specs.Window.{Placement, region_of, KeepsHost}
use Rattle.seg_spec.proofs.Heap.GapOrderLaws.{gaps-free}
use Rattle.seg_spec.proofs.Values.PlaceFrameLaws.{word-same, each_weaker}
use Rattle.seg_cells.specs.declared.kind.IndexKind.{IndexKind}
use Rattle.seg_value.specs.Stored.{Stored}
use Rattle.seg_manager.specs.Segments.{IsSegment}
use Rattle.seg_manager.specs.Gaps.{LiesBeside, ZeroesGaps}
use Rattle.seg_manager.specs.NewSegments.{nothing, word_of_kind, IsNewSegment}
use Rattle.seg_manager.proofs.ZeroedGaps.{free_before}
use Rattle.seg_manager.proofs.ResizeLaws.{its_before, its_after}

-- ---- where a segment is placed in its region

module _ (p : Placement) (region : List ℕ) (base len : ℕ) (whole : region_of p ≡ region) (base_is : length p.before ≡ base) (long : length p.bytes ≡ len) where
  pub placed_before : p.before ≡ take base region
  unfolding slice
  placed_before = sym (its_before p) ∙ ap (λ b. take (length p.before) b) whole ∙ ap (λ n. take n region) base_is

  pub placed_after : p.after ≡ drop (base + len) region
  placed_after = sym (its_after p) ∙ ap (λ b. drop (length p.before + length p.bytes) b) whole ∙ ap (λ n. drop n region) (omega arith)

-- ---- the segment

module _ (allocator : ℕ) (old new : Stored) (types_are : old.types ≡ []) (held : IsHeld old.window.bytes nothing) (allocator_is : word old.window.bytes allocator_word ≡ allocator)
    (zeroes : (picture : Picture) → IsSegment allocator old picture → ZeroesGaps allocator old new picture) where
  begun : IsSegment allocator old nothing
  begun = record {
    held = held;
    counted = record { counted = record { distinct = tt; numbered = tt; named = tt; falling = tt; some = tt; counts = tt }; falling = tt };
    table_is = types_are;
    allocator_is = allocator_is;
  }

  z : ZeroesGaps allocator old new nothing
  z = zeroes nothing begun

  heap : IsHeap allocator old.window.bytes
  heap = rw allocator_is at held.laid_out.heap

  gaps_high : AllByRecursion (λ g. heap_start ≤ g.at) (gaps old.window.bytes)
  gaps_high = subst (AllByRecursion (λ g. heap_start ≤ g.at)) (sym (gaps-free old.window.bytes allocator heap))
      (each_weaker _ (λ g. heap_start ≤ g.at) (λ g h. h.0) (free_of (tiles old.window.bytes)) (free_before (tiles old.window.bytes) heap_start (length old.window.bytes) heap.filled))

  word_kept : (p : ℕ) → p + 4 ≤ heap_start → word new.window.bytes p ≡ word old.window.bytes p
  word_kept p low = word-same old.window.bytes new.window.bytes p (z.beside p 4 (each_weaker _ (LiesBeside allocator p 4) (λ g h. inl (omega (arith, h))) (gaps old.window.bytes) gaps_high))

  gaps_same : gaps new.window.bytes ≡ gaps old.window.bytes
  gaps_same = rw (z.live_is, z.length_kept) refl

  pub new_segment : (region : List ℕ) (base len : ℕ) (index : IndexKind) → live old.window.bytes ≡ [] → length old.window.bytes ≡ len → word old.window.bytes index_kind_word ≡ word_of_kind index
      → word old.window.bytes version_word ≡ sharing_version → word old.window.bytes next_word ≡ 0 → KeepsHost old.window new.window
      → old.window.before ≡ take base region → old.window.after ≡ drop (base + len) region → IsNewSegment allocator new region base len index
  new_segment region base len index no_block long kind_is version_is next_is host before after = record {
    segment = z.segment;
    version_is = word_kept version_word (omega arith) ∙ version_is;
    next_is = word_kept next_word (omega arith) ∙ next_is;
    kind_is = word_kept index_kind_word (omega arith) ∙ kind_is;
    length_is = z.length_kept ∙ long;
    no_block = z.live_is ∙ no_block;
    zeroed = rw gaps_same z.zeroed;
    before_is = ap (λ (p : Placement). p.before) host ∙ before;
    after_is = ap (λ (p : Placement). p.after) host ∙ after;
  }
