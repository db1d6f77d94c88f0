-- A write inside an allocated block: the heap stays well-formed, and all other bytes are kept. Then
-- two calls on a place, one after the other.
use Rattle.std.proofs.Common.{◌≡◌, ◌≢◌, ℕ, ◌+◌, ◌-◌, ◌≤◌, ◌⊎◌, inl, inr, List, [], ◌∷◌, refl, sym, ◌∙◌, subst, length, arith, ap}
use Rattle.std.specs.List.{AllByRecursion}
use Rattle.seg_spec.specs.Bytes.{word, ChangesOnly}
use Rattle.seg_spec.specs.Header.{KeepsFront, KeepsBack, free_word, back_start, back_size}
use Rattle.seg_spec.specs.Types.{Table, size}
use Rattle.seg_spec.specs.Value.{Value}
use Rattle.seg_spec.specs.Heap.{Gives, heap_start, Span, IsHeap, live, KeepsTiles}
use Rattle.seg_spec.specs.Block.{IsBlock, IsInside, IsOwnable, KeepsBlock, KeepsHeader}
use Rattle.seg_spec.specs.Reads.{Place}
use Rattle.seg_spec.specs.Sound.{times, positions}
use Rattle.seg_spec.specs.Roots.{ChangesPlace}
use Rattle.seg_spec.proofs.Values.PlaceFrameLaws.{word-same}
use Rattle.seg_spec.proofs.Heap.LiveBlockLaws.{LiesIn, live-lie, times-more, times-without, times-same, there, live-once}
use Rattle.seg_spec.proofs.Heap.HeapFrameLaws.{IsHeap-kept, live-kept, IsOwnable-kept}
use Rattle.seg_spec.proofs.Heap.BlockWriteLaws.{tiles_kept, low_kept, KeptBut, live_kept_but}
use Rattle.seg_spec.proofs.Heap.BlockFrameLaws.{around_twice, around_kept}
use Rattle.seg_spec.specs.Owing.{KeepsLinked}
use Rattle.seg_spec.proofs.Deallocation.BlockFreeLaws.{given_kept}
use Rattle.seg_spec.proofs.Heap.KeptBlockLaws.{front_kept}
use Rattle.seg_spec.proofs.Values.CallPlaceLaws.{each_live_at, live_at, ownable_linked, Frames}

module _ (allocator : ℕ) (old new : List ℕ) (table : Table) (g at m : ℕ) (heap : IsHeap allocator old) (changes : ChangesOnly old new at m) (inside : IsInside old g at m) (g_live : 1 ≤ times g (positions (live old))) where
  tiles : KeepsTiles old new
  tiles = tiles_kept old new at m changes allocator heap g inside g_live

  but : (h : ℕ) → 1 ≤ times h (positions (live old)) → KeptBut old new at m changes allocator heap g inside g_live h
  but h some = there (KeptBut old new at m changes allocator heap g inside g_live) h (positions (live old)) (live_kept_but old new at m changes allocator heap g inside g_live) some

  pub wrote_heap : IsHeap allocator new
  wrote_heap = IsHeap-kept old new allocator heap tiles

  pub wrote_live : live new ≡ live old
  wrote_live = live-kept old new allocator heap tiles

  pub wrote_ownable : AllByRecursion (λ b. IsOwnable old table b.at) (live old) → AllByRecursion (λ b. IsOwnable new table b.at) (live new)
  wrote_ownable o = IsOwnable-kept old new allocator heap tiles table o

  pub wrote_other : (h : ℕ) → 1 ≤ times h (positions (live old)) → h ≢ g → KeepsBlock old new h
  wrote_other h some other = (but h some).kept other

  -- the block itself is still allocated, with its tag and room
  pub wrote_block : (p tag n : ℕ) → p ≡ g + 16 → IsBlock old p tag n → IsBlock new p tag n
  wrote_block p tag n e b =
      let own : p - 16 ≡ g = omega arith in
      let k = but g g_live in
      let first = word-same old new g (k.outside g 4 (omega arith) (omega arith)) in
      let was = rw own at b.live in
      let tagged = rw own at b.has_tag in
      let room = rw own at b.room in
      let units = k.units_kept in
      record {
        after_header = b.after_header;
        live = rw (own, first) was;
        has_tag = rw own (word-same old new (g + 8) (k.outside (g + 8) 4 (omega arith) (omega arith)) ∙ tagged);
        room = rw own (omega arith);
      }

  header : (h : ℕ) → 1 ≤ times h (positions (live old)) → KeepsHeader old new h
  header h some =
      let k = but h some in
      let first = word-same old new h (k.outside h 4 (omega arith) (omega arith)) in
      record { live = rw first refl; has_tag = word-same old new (h + 8) (k.outside (h + 8) 4 (omega arith) (omega arith)); room = rw k.units_kept (omega arith) }

  -- all other blocks are kept
  pub frames_beside : (p n : ℕ) → Frames old new p n (g ∷ [])
  frames_beside p n = record {
    length_kept = changes.length_kept;
    front_kept = low_kept old new at m changes allocator heap g inside g_live 0 free_word (omega arith);
    back_kept = low_kept old new at m changes allocator heap g inside g_live back_start back_size (omega arith);
    kept = λ h some away. around_kept old new p n h (omega (arith, (but h some).solid)) (wrote_other h some (not_it h away));
    stays = λ h some away. subst (λ bs. 1 ≤ times h (positions bs)) (sym wrote_live) some;
  }
    where
      not_it : (h : ℕ) → times h (g ∷ []) ≡ 0 → h ≢ g
      not_it h away e = let one : times g (g ∷ []) ≡ 0 = subst (λ x. times x (g ∷ []) ≡ 0) e away in omega (arith, times-same g [])

  -- blocks are kept around the write
  pub frames_around : (p n : ℕ) → p ≤ at → at + m ≤ p + n → Frames old new p n []
  frames_around p n low high = record {
    length_kept = changes.length_kept;
    front_kept = low_kept old new at m changes allocator heap g inside g_live 0 free_word (omega arith);
    back_kept = low_kept old new at m changes allocator heap g inside g_live back_start back_size (omega arith);
    kept = λ h some away. record { solid = omega (arith, (but h some).solid); header = header h some; payload = λ q k from to apart. changes.others q k (out q k apart) };
    stays = λ h some away. subst (λ bs. 1 ≤ times h (positions bs)) (sym wrote_live) some;
  }
    where
      out : (q k : ℕ) → (q + k ≤ p) ⊎ (p + n ≤ q) → (q + k ≤ at) ⊎ (at + m ≤ q)
      out q k (inl l) = inl (omega arith)
      out q k (inr r) = inr (omega arith)

-- two calls on a place: the second frees blocks that the first call kept
pub changes_twice : (allocator : ℕ) (a b c : List ℕ) (table : Table) (place : Place) (v w : Value) (xs ys gone : List ℕ) (spans more : List Span) → word b 16 ≡ word a 16 → IsHeap allocator b
    → ChangesPlace a b table place v xs spans gone xs → ChangesPlace b c table place w ys more xs ys → ChangesPlace a c table place w ys more gone ys
changes_twice allocator a b c table place v w xs ys gone spans more same heap x y = record {
  length_kept = y.length_kept ∙ x.length_kept;
  front_kept = y.front_kept ∙ x.front_kept;
  back_kept = y.back_kept ∙ x.back_kept;
  heap = subst (λ k. IsHeap k c) same y.heap;
  ownable = y.ownable;
  holds_it = y.holds_it;
  live_is = y.live_is;
  live_are = λ h. omega (arith, x.live_are h, y.live_are h);
  kept = λ h some none. around_twice a b c place.at (size table place.type) h (x.kept h some none) (y.kept h (omega (arith, x.live_are h)) (omega (arith, x.live_are h, live-once b allocator heap h)));
}

-- ---- a block is freed

module _ (allocator : ℕ) (old new : List ℕ) (table : Table) (g : ℕ) (heap : IsHeap allocator old) (gives : Gives allocator old new g) (g_live : 1 ≤ times g (positions (live old))) where
  pub given_counts : (h : ℕ) → times h (g ∷ positions (live new)) ≡ times h (positions (live old))
  given_counts h = ap (λ bs. times h (g ∷ positions bs)) gives.given ∙ times-without h g (live old) g_live

  pub given_linked : (h : ℕ) → 1 ≤ times h (positions (live old)) → h ≢ g → KeepsLinked old new h
  given_linked h some other = given_kept allocator old new g heap gives h some other

  pub given_ownable : AllByRecursion (λ b. IsOwnable old table b.at) (live old) → AllByRecursion (λ b. IsOwnable new table b.at) (live new)
  given_ownable o = each_live_at (IsOwnable new table) (live new) (λ h some.
      let was : 1 ≤ times h (positions (live old)) = omega (arith, given_counts h, times-more h g (positions (live new))) in
      ownable_linked old new table h (given_linked h was (not_it h some)) (live_at (IsOwnable old table) (live old) h o was))
    where
      not_it : (h : ℕ) → 1 ≤ times h (positions (live new)) → h ≢ g
      not_it h some e =
          let one : 1 ≤ times g (positions (live new)) = subst (λ x. 1 ≤ times x (positions (live new))) e some in
          omega (arith, given_counts g, times-same g (positions (live new)), live-once old allocator heap g)

  pub given_front : KeepsFront old new × KeepsBack old new
  given_front =
      let l = there (LiesIn old heap_start (length old)) g (positions (live old)) (live-lie old allocator heap) g_live in
      front_kept old new gives.kept (omega (arith, l.low, l.high))
