-- The free structure stays if the words of the gaps are kept, for any allocator.
use Rattle.std.proofs.Common.{◌≡◌, ℕ, zero, suc, ◌+◌, ◌*◌, ◌≤◌, true, false, List, [], ◌∷◌, ◌++◌, length, map, cond, Option, None, sym, ◌∙◌, subst, arith, inl, inr, ◌⊎◌}
use Rattle.std.specs.List.{AllByRecursion}
use Rattle.seg_spec.specs.Bytes.{Agrees, IsSame}
use Rattle.seg_spec.specs.Pointer.{target}
use Rattle.seg_spec.specs.Heap.{Span, Tile, span_of, Fill, free_of, Links, by_size, HoldsGaps, heap_start}
use Rattle.seg_spec.proofs.SliceLaws.{IsSame-part, IsSame-agrees}
use Rattle.seg_spec.proofs.Heap.TileLaws.{Fill-le, free_of-append}
use Rattle.seg_spec.proofs.Values.PlaceFrameLaws.{target-same, each_both, IsTree-same}
use Rattle.seg_spec.proofs.Heap.HeapFrameLaws.{each_by_size}

-- the link and the first unit of the payload of each gap
abbrev pub KeepsGaps : List ℕ → List ℕ → List Span → Type 0
KeepsGaps old new gs = AllByRecursion (λ g. IsSame old new (g.at + 12) 20) gs

pub KeepsGaps-append : (old new : List ℕ) (gs hs : List Span) → KeepsGaps old new gs → KeepsGaps old new hs → KeepsGaps old new (gs ++ hs)
KeepsGaps-append old new [] hs k l = l
KeepsGaps-append old new (g ∷ gs) hs k l = (k.0, KeepsGaps-append old new gs hs k.1 l)

module _ (old new : List ℕ) where
  link_kept : (at : ℕ) → IsSame old new (at + 12) 20 → target new (at + 12) ≡ target old (at + 12)
  link_kept at h = target-same old new (at + 12) (IsSame-part old new (at + 12) 20 (at + 12) 4 (omega arith) (omega arith) h)

  Links-kept : (at : ℕ) (gs : List Span) (last : Option ℕ) → target new at ≡ target old at → KeepsGaps old new gs → Links old at gs last → Links new at gs last
  Links-kept at [] last e k l = e ∙ l
  Links-kept at (g ∷ gs) last e k l = (e ∙ l.0, Links-kept (g.at + 12) gs last (link_kept g.at k.0) k.1 l.1)

  nodes_kept : (gs : List Span) → KeepsGaps old new gs → AllByRecursion (λ p. IsSame old new p 16) (map (λ g. g.at + 16) gs)
  nodes_kept [] k = tt
  nodes_kept (g ∷ gs) k = (IsSame-part old new (g.at + 12) 20 (g.at + 16) 16 (omega arith) (omega arith) k.0, nodes_kept gs k.1)

  pub HoldsGaps-kept : (allocator : ℕ) (gs : List Span) → IsSame old new 24 4 → KeepsGaps old new gs → HoldsGaps allocator old gs → HoldsGaps allocator new gs
  HoldsGaps-kept zero gs root k h = Links-kept 24 gs None (target-same old new 24 root) k h
  HoldsGaps-kept (suc n) gs root k h = record {
    tree = h.tree;
    is_tree = rw (target-same old new 24 root) (IsTree-same old new (target old 24) h.tree (rw h.nodes_are (nodes_kept (by_size gs) (each_by_size _ gs k))) h.is_tree);
    red_black = h.red_black;
    nodes_are = h.nodes_are;
    links = each_both _ _ _ (λ g l s. link_kept g.at s ∙ l) gs h.links k;
  }

  -- ---- the gaps among tiles

  pub free_kept : (ts : List Tile) (from to : ℕ) → ((p n : ℕ) → from + 12 ≤ p → p + n ≤ to → IsSame old new p n) → Fill from ts to → KeepsGaps old new (free_of ts)
  free_kept [] from to same f = tt
  free_kept (t ∷ ts) from to same f =
      let le = Fill-le ts (from + 16 * t.units) to f.2 in
      let rest = free_kept ts (from + 16 * t.units) to (λ p n low high. same p n (omega arith) high) f.2 in
      elim t.live as (λ b. KeepsGaps old new (cond b (free_of ts) (span_of t ∷ free_of ts))) [ true ↦ rest | false ↦ (same (t.at + 12) 20 (omega (arith, f.0)) (omega (arith, f.0, f.1)), rest) ]

  -- only the bytes from lo up to hi and the word 4 after hi change
  module _ (lo hi : ℕ) (le : lo ≤ hi) (kept : (from to : ℕ) → (to ≤ lo) ⊎ (hi ≤ from) → (to ≤ hi + 4) ⊎ (hi + 8 ≤ from) → Agrees old new from to) (xs ys : List Tile) (front : Fill heap_start xs lo) (back : Fill hi ys (length old)) where
    same : (p n : ℕ) → p + n ≤ length old → (p + n ≤ lo) ⊎ (hi ≤ p) → (p + n ≤ hi + 4) ⊎ (hi + 8 ≤ p) → IsSame old new p n
    same p n fits out next = IsSame-agrees old new p (p + n) p n (kept p (p + n) out next) (omega arith) (omega arith) fits

    pub beside_kept : (allocator : ℕ) → HoldsGaps allocator old (free_of xs ++ free_of ys) → HoldsGaps allocator new (free_of xs ++ free_of ys)
    beside_kept allocator h =
        let low = Fill-le xs heap_start lo front in
        let high = Fill-le ys hi (length old) back in
        HoldsGaps-kept allocator (free_of xs ++ free_of ys) (same 24 4 (omega arith) (inl (omega arith)) (inl (omega arith)))
        (KeepsGaps-append old new (free_of xs) (free_of ys)
        (free_kept xs heap_start lo (λ p n a b. same p n (omega arith) (inl b) (inl (omega arith))) front)
        (free_kept ys hi (length old) (λ p n a b. same p n b (inr (omega arith)) (inr (omega arith))) back)) h

    -- the gaps stay if allocated tiles are replaced by allocated tiles
    pub between_kept : (allocator : ℕ) (ms ns : List Tile) → free_of ms ≡ [] → free_of ns ≡ [] → HoldsGaps allocator old (free_of (xs ++ (ms ++ ys))) → HoldsGaps allocator new (free_of (xs ++ (ns ++ ys)))
    between_kept allocator ms ns m n h =
        subst (λ gs. HoldsGaps allocator new gs) (sym (beside ns n)) (beside_kept allocator (subst (λ gs. HoldsGaps allocator old gs) (beside ms m) h))
      where
        beside : (ls : List Tile) → free_of ls ≡ [] → free_of (xs ++ (ls ++ ys)) ≡ free_of xs ++ free_of ys
        beside ls e = free_of-append xs (ls ++ ys) ∙ (λ i. free_of xs ++ free_of-append ls ys i) ∙ (λ i. free_of xs ++ (e i ++ free_of ys))
