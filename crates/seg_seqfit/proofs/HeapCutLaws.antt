-- A heap whose end is cut.
use Rattle.std.proofs.Common.{◌≡◌, ℕ, ◌+◌, ◌-◌, ◌*◌, ◌/◌, ◌%◌, ◌<◌, ◌≤◌, Bool, true, false, List, [], ◌∷◌, ◌++◌, length, Some, None, refl, sym, ap, ◌∙◌, subst, arith, inl, inr, ◌⊎◌, ⊎_elim}
use Rattle.std.specs.Prelude.{Contains}
use Rattle.std.proofs.lemmas.List.{append-nil}
use Rattle.seg_spec.specs.Bytes.{word, set_word, Agrees}
use Rattle.seg_spec.specs.Pointer.{target, distance, set_pointer}
use Rattle.seg_spec.specs.Heap.{Span, Tile, end_of, is_live_at, Fill, AreHeaders, Links, live_of, free_of, heap_start, tiles, live, IsHeap, Cuts}
use Rattle.seg_spec.proofs.BytesLaws.{number-set_same, number-set_other, Agrees-trans, Agrees-set_number, length-set_number}
use Rattle.seg_spec.proofs.PointerLaws.{target-set_same, target-same}
use Rattle.seg_block.proofs.SizeLaws.{IsHeader-set_size, Agrees-set_size, length-set_size}
use Rattle.seg_spec.proofs.Heap.TileLaws.{AreHeaders-front, AreApart-front}
use Rattle.seg_spec.proofs.Heap.HeaderLaws.{AreHeaders-set_link}
use Rattle.seg_block.specs.Sizes.{size_word, set_size}
use Rattle.seg_block.specs.Tiling.{tile, IsTiling}
use Rattle.seg_seqfit.specs.Retiling.{link_past}
use Rattle.seg_block.specs.Blocks.{HasEnd}
use Rattle.seg_seqfit.proofs.LinkLaws.{Links-changed, link_past-low, link_past-off, link_past-cases, live_beside_link}
use Rattle.seg_block.proofs.HeapCutLaws as ends
use Rattle.seg_block.proofs.Extents.{AreHeaders-words}
use Rattle.seg_block.proofs.Heaps.{tiling_of_heap}

module _ (old : List ℕ) (large : 736 ≤ length old) (h : IsHeap 0 old) (xs : List Tile) (at u : ℕ) (l : Bool) (parts : tiles old ≡ xs ++ tile at u l ∷ []) where
  was : IsTiling 0 old (xs ++ tile at u l ∷ [])
  was = ends.was old large h xs at u l parts

  places : (Fill heap_start xs at) × (2 ≤ u) × (at + 16 * u ≡ length old)
  places = ends.places old large h xs at u l parts

  last_place : (at + 16 * u ≡ length old) × (2 ≤ u) × (heap_start ≤ at) × (at % 16 ≡ 0)
  last_place = ends.last_place old large h xs at u l parts

  abbrev pub with_size : ℕ → List ℕ
  with_size m = set_word old 12 m

  agrees_size : (m from to : ℕ) → (to ≤ 12) ⊎ (16 ≤ from) → Agrees old (with_size m) from to
  agrees_size = ends.agrees_size old large h xs at u l parts

  word_size : (m q : ℕ) → 16 ≤ q → word (with_size m) q ≡ word old q
  word_size = ends.word_size old large h xs at u l parts

  module _ (is_free : l ≡ false) where
    free_places : live_of xs ≡ live_of (xs ++ tile at u l ∷ [])
    free_places = ends.free_places old large h xs at u l parts is_free

    in_front : (b : Span) → Contains (live old) b → (704 ≤ b.at) × (end_of b ≤ at)
    in_front = ends.in_front old large h xs at u l parts is_free

    -- a gap is cut that has a block or another gap before it
    module _ (link : ℕ) (link_is : link ≡ link_past 24 xs) (above : 704 < at) where
      abbrev pub cut_off : List ℕ
      cut_off = set_pointer (with_size (at / 16)) link None

      link_places : (24 ≤ link) × (link + 4 ≤ at)
      link_places =
          let low = link_past-low xs 24 heap_start at (omega arith) places.0 in
          (⊎_elim (λ k. omega arith) (λ k. omega arith) (link_past-cases xs 24 heap_start at places.0), omega arith)

      agrees_cut : (from to : ℕ) → (to ≤ 12) ⊎ (16 ≤ from) → (to ≤ link) ⊎ (link + 4 ≤ from) → Agrees old cut_off from to
      agrees_cut from to out off = Agrees-trans old (with_size (at / 16)) cut_off from to (agrees_size (at / 16) from to out) (Agrees-set_number 4 (with_size (at / 16)) link (distance link None) from to off)

      pub cut_gap : Cuts 0 old cut_off u
      cut_gap =
          let p = last_place in
          let q = link_places in
          let k = was.tiled.small in
          let m = at / 16 in
          let long = length-set_number 4 (with_size m) link (distance link None) ∙ length-set_number 4 old 12 m in
          let size_long = length-set_number 4 old 12 m in
          let end : at ≡ length old - 16 * u = omega arith in
          let wide = ends.room_in_front old large h xs at u l parts is_free above in
          let off : (link + 4 ≤ heap_start) ⊎ (link % 16 ≡ 12) = subst (λ x. (x + 4 ≤ heap_start) ⊎ (x % 16 ≡ 12)) (sym link_is) (link_past-off xs 24 heap_start at heap_start (inl (omega arith)) refl places.0) in
          let named : target cut_off link ≡ None = target-set_same (with_size m) link None (omega arith) (omega arith) (λ t e. absurd (never t e)) in
          let heads = AreHeaders-words old (with_size m) xs heap_start at 0 (λ q low high. word_size m q (omega arith)) places.0 (AreHeaders-front old xs (tile at u l ∷ []) 0 was.tiled.headers) in
          ends.cut_to old large h xs at u l parts cut_off u xs long (omega arith) (subst (λ e. Fill heap_start xs e) end places.0)
          (AreHeaders-set_link (with_size m) xs heap_start at 0 link (distance link None) refl off places.0 heads)
          (subst (λ ts. Links cut_off 24 (free_of ts) None) (append-nil xs)
          (Links-changed old cut_off xs (tile at u l ∷ []) [] 24 heap_start at None None (omega arith) places.0 (agrees_cut 24 (link_past 24 xs) (inr (omega arith)) (inl (omega arith))) was.free
          (subst (λ x. target cut_off x ≡ None) link_is named)))
          (AreApart-front xs (tile at u l ∷ []) true (ends.apart old large h xs at u l parts)) free_places
          (ends.units_of_gap old large h xs at u l parts is_free above)
          (number-set_other 4 4 (with_size m) link (distance link None) 12 (inl (omega arith)) ∙ number-set_same 4 old 12 m (omega arith) (omega arith) ∙ ap (λ x. x / 16) end)
          (agrees_cut 0 12 (inl (omega arith)) (inl (omega arith))) (agrees_cut 16 24 (inr (omega arith)) (inl (omega arith)))
          (agrees_cut 28 heap_start (inr (omega arith)) (⊎_elim (λ e. inr (omega arith)) (λ e. inl (omega arith)) (link_past-cases xs 24 heap_start at places.0)))
          (λ b c. let w = in_front b c in agrees_cut (b.at + 8) (end_of b) (inr (omega arith))
          (subst (λ x. (end_of b ≤ x) ⊎ (x + 4 ≤ b.at + 8)) (sym link_is)
          (⊎_elim (λ e. inl e) (λ e. inr (omega arith)) (live_beside_link xs 24 heap_start at b (omega arith) places.0 (subst (λ s. Contains s b) (ends.live_there old large h xs at u l parts ∙ sym free_places) c)))))
        where
          never : (t : ℕ) → None ≡ Some t → ⊥
          never t e = cc

    -- the whole heap is one gap
    module _ (below : at ≤ 704) where
      abbrev pub cut_down : List ℕ
      cut_down = set_size (with_size 46) 704 2 false

      first : (xs ≡ []) × (at ≡ 704)
      first = ends.first_of_whole old large h xs at u l parts is_free below

      whole_was : IsTiling 0 old (tile 704 u false ∷ [])
      whole_was = subst (λ ts. IsTiling 0 old ts) (λ i. first.0 i ++ tile (first.1 i) u (is_free i) ∷ []) was

      agrees_down : (from to : ℕ) → (to ≤ 12) ⊎ (16 ≤ from) → to ≤ 704 → Agrees old cut_down from to
      agrees_down from to out low = Agrees-trans old (with_size 46) cut_down from to (agrees_size 46 from to out) (Agrees-set_size (with_size 46) 704 2 false from to (inl low) (inl (omega arith)))

      down_word : (q : ℕ) → 16 ≤ q → (q + 4 ≤ 704) ⊎ ((708 ≤ q) × (q + 4 ≤ 740)) → word cut_down q ≡ word old q
      down_word q low (inl k) = number-set_other 4 4 (set_word (with_size 46) 704 (size_word 2 false)) (704 + 16 * 2 + 4) 2 q (inl (omega arith))
          ∙ number-set_other 4 4 (with_size 46) 704 (size_word 2 false) q (inl (omega arith)) ∙ word_size 46 q low
      down_word q low (inr k) = number-set_other 4 4 (set_word (with_size 46) 704 (size_word 2 false)) (704 + 16 * 2 + 4) 2 q (inl (omega arith))
          ∙ number-set_other 4 4 (with_size 46) 704 (size_word 2 false) q (inr (omega arith)) ∙ word_size 46 q low

      pub cut_whole : Cuts 0 old cut_down (u - 2)
      cut_whole =
          let p = last_place in
          let f = first.1 in
          let size_long = length-set_number 4 old 12 46 in
          let long = length-set_size (with_size 46) 704 2 false ∙ size_long in
          let end : 736 ≡ length old - 16 * (u - 2) = omega arith in
          let head = whole_was.tiled.headers.0 in
          let links = whole_was.free in
          ends.cut_to old large h xs at u l parts cut_down (u - 2) (tile 704 2 false ∷ []) long (omega arith) (refl, omega arith, end)
          (IsHeader-set_size (with_size 46) 704 2 0 false (omega arith) (omega arith) (let k = was.tiled.small in omega arith) (word_size 46 708 (omega arith) ∙ head.before_is) (λ e. word_size 46 712 (omega arith) ∙ head.tag_is refl), tt)
          (target-same old cut_down 24 (down_word 24 (omega arith) (inl (omega arith))) ∙ links.0, target-same old cut_down 716 (down_word 716 (omega arith) (inr (omega arith, omega arith))) ∙ links.1)
          ((λ e. absurd (never e)), tt) (ap live_of (sym first.0) ∙ free_places)
          (ends.units_of_whole old large h xs at u l parts is_free f)
          (number-set_other 4 4 (set_word (with_size 46) 704 (size_word 2 false)) (704 + 16 * 2 + 4) 2 12 (inl (omega arith)) ∙ number-set_other 4 4 (with_size 46) 704 (size_word 2 false) 12 (inl (omega arith))
          ∙ number-set_same 4 old 12 46 (omega arith) (omega arith) ∙ ap (λ x. x / 16) end)
          (agrees_down 0 12 (inl (omega arith)) (omega arith)) (agrees_down 16 24 (inr (omega arith)) (omega arith)) (agrees_down 28 heap_start (inr (omega arith)) (omega arith))
          (λ b c. let w = in_front b c in agrees_down (b.at + 8) (end_of b) (inr (omega arith)) (omega arith))
        where
          never : true ≡ false → ⊥
          never e = cc

-- ---- from what the steps ensure

module _ (old : List ℕ) (len : ℕ) (large : 736 ≤ length old) (h : IsHeap 0 old) (len_is : len ≡ length old) where
  module _ (at u : ℕ) (last : (ts : List Tile) → 704 < len → len ≤ length old → Fill 704 ts len → AreHeaders old 0 ts → HasEnd old ts at u) where
    abbrev the_end : HasEnd old (tiles old) at u
    the_end = ends.the_end old len large h len_is at u last

    flag : is_live_at old at ≡ the_end.live
    flag = ends.flag old len large h len_is at u last

    pub cuts_whole : (new : List ℕ) → is_live_at old at ≡ false → at ≤ 704 → new ≡ set_size (set_word old 12 46) 704 2 false → Cuts 0 old new (u - 2)
    cuts_whole new free below new_is =
        let e = the_end in
        subst (λ b. Cuts 0 old b (u - 2)) (sym new_is) (cut_whole old large h e.front at u e.live e.parts (sym flag ∙ free) below)

    pub cuts_gap : (new : List ℕ) (link : ℕ) → is_live_at old at ≡ false → 704 < at
        → ((xs ys : List Tile) (l : Bool) → IsTiling 0 old (xs ++ tile at u l ∷ ys) → link ≡ link_past 24 xs)
        → new ≡ set_pointer (set_word old 12 (at / 16)) link None → Cuts 0 old new u
    cuts_gap new link free above place new_is =
        let e = the_end in
        let was = subst (λ ts. IsTiling 0 old ts) e.parts (tiling_of_heap old h) in
        subst (λ b. Cuts 0 old b u) (sym new_is) (cut_gap old large h e.front at u e.live e.parts (sym flag ∙ free) link (place e.front [] e.live was) above)
