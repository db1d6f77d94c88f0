-- A heap stays well-formed if its headers and the words of its free structure are kept.
use Rattle.std.proofs.Common.{◌≡◌, ℕ, zero, suc, ◌+◌, ◌≤◌, List, [], ◌∷◌, length, Option, None, refl, sym, ap, ◌∙◌, subst, arith}
use Rattle.std.specs.List.{AllByRecursion}
use Rattle.seg_spec.specs.Bytes.{IsSame}
use Rattle.seg_spec.specs.Header.{free_word}
use Rattle.seg_spec.specs.Pointer.{target}
use Rattle.seg_spec.specs.Heap.{Span, tiles, AreHeaders, IsHeap, live, live_of, gaps, Links, HoldsGaps}
use Rattle.seg_spec.proofs.Values.PlaceFrameLaws.{target-same}
use Rattle.seg_spec.proofs.Heap.TileLaws.{tiles-unique}
use Rattle.seg_spec.proofs.Heap.HeapFrameLaws.{each_free, AreHeaders-kept, HoldsGaps-kept, link-kept}
use Rattle.seg_spec.proofs.Heap.GapOrderLaws.{gaps-free}

Links_same : (old new : List ℕ) (at : ℕ) (gs : List Span) (last : Option ℕ) → target new at ≡ target old at → AllByRecursion (λ g. IsSame old new g.at 16) gs → Links old at gs last → Links new at gs last
Links_same old new at [] last e a l = e ∙ l
Links_same old new at (g ∷ gs) last e a l = (e ∙ l.0, Links_same old new (g.at + 12) gs last (link-kept old new g.at a.0) a.1 l.1)

-- the pointer to the free blocks, each header, and the allocator's own words in each gap are kept
pub record KeepsOrder (a : ℕ) (old new : List ℕ) : Type 0 where
  pub length_kept : length new ≡ length old
  pub root : IsSame old new free_word 4
  pub headers : AllByRecursion (λ t. IsSame old new t.at 16) (tiles old)
  pub own_words : 1 ≤ a → AllByRecursion (λ g. IsSame old new (g.at + 16) 16) (gaps old)

module _ (a : ℕ) (old new : List ℕ) (heap : IsHeap a old) (k : KeepsOrder a old new) where
  new_headers : AreHeaders new 0 (tiles old)
  new_headers = AreHeaders-kept old new (tiles old) 0 k.headers heap.headers

  tiles_same : tiles new ≡ tiles old
  tiles_same = tiles-unique new (tiles old) (rw k.length_kept heap.filled) new_headers

  pub order_live : live new ≡ live old
  unfolding live
  order_live = ap live_of tiles_same

  gaps_same : gaps new ≡ gaps old
  gaps_same = rw (order_live, k.length_kept) refl

  gap_headers : AllByRecursion (λ g. IsSame old new g.at 16) (gaps old)
  gap_headers = subst (AllByRecursion (λ g. IsSame old new g.at 16)) (sym (gaps-free old a heap)) (each_free (λ p. IsSame old new p 16) (tiles old) k.headers)

  holds_gaps : (b : ℕ) → b ≡ a → HoldsGaps b old (gaps old) → HoldsGaps b new (gaps old)
  holds_gaps zero e h = Links_same old new free_word (gaps old) None (target-same old new free_word k.root) gap_headers h
  holds_gaps (suc n) e h = HoldsGaps-kept old new (suc n) (gaps old) k.root gap_headers (k.own_words (omega arith)) h

  pub order_heap : IsHeap a new
  order_heap = record {
    filled = rw (tiles_same, k.length_kept) heap.filled;
    headers = rw tiles_same new_headers;
    apart = rw tiles_same heap.apart;
    free = subst (HoldsGaps a new) (sym gaps_same) (holds_gaps a refl heap.free);
    small = rw k.length_kept heap.small;
  }
