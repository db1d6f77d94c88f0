-- A change of the tree keeps the tiles: the nodes lie in the payloads of free tiles.
use Rattle.std.proofs.Common.{◌≡◌, ℕ, ◌+◌, ◌-◌, ◌*◌, ◌^◌, ◌≤◌, ◌⊎◌, inl, inr, ⊎_elim, true, false, List, [], ◌∷◌, ◌++◌, length, cond, sym, ap, ◌∙◌, subst, arith}
use Rattle.std.specs.Prelude.{Contains}
use Rattle.std.specs.List.{AllByRecursion}
use Rattle.std.proofs.lemmas.List.{append_assoc}
use Rattle.seg_spec.specs.Header.{free_word, back_start, back_size}
use Rattle.seg_spec.specs.Apart.{Separate}
use Rattle.seg_spec.specs.Bytes.{Agrees, IsSame}
use Rattle.seg_spec.specs.Heap.{Span, Tile, span_of, end_of, link_at, Fill, AreHeaders, live_of, free_of, heap_start, IsFreeTree}
use Rattle.seg_spec.proofs.Values.PlaceFrameLaws.{word-same, target-same, each_weaker}
use Rattle.seg_spec.proofs.SliceLaws.{IsSame-part, Agrees-same_slice}
use Rattle.seg_spec.proofs.Heap.TileLaws.{Fill-le, Fill-append, free_of-append}
use Rattle.seg_spec.proofs.Heap.HeaderLaws.{IsHeader-same}
use Rattle.seg_block.specs.Tiling.{IsTiled, Spares, Replaces, Retiles}
use Rattle.seg_block.proofs.Heaps.{Spares-trans, Spares-without}
use Rattle.seg_block.proofs.LiveTiles.{cons_cases, live_within}
use Rattle.seg_bestfit.specs.FreeTree.{Beside, KeepsBesideNodes}
use Rattle.seg_bestfit.proofs.FreeGaps.{each_drops}

pub each_append : (P : Span → Type 0) (xs ys : List Span) → AllByRecursion P xs → AllByRecursion P ys → AllByRecursion P (xs ++ ys)
each_append P [] ys a b = b
each_append P (x ∷ xs) ys a b = (a.0, each_append P xs ys a.1 b)

-- ---- bytes outside the nodes of free tiles

pub beside_low : (ts : List Tile) (from to p n : ℕ) → Fill from ts to → p + n ≤ from + 16 → Beside p n (free_of ts)
beside_low [] from to p n f low = tt
beside_low (t ∷ ts) from to p n f low =
    let rest = beside_low ts (from + 16 * t.units) to p n f.2 (omega arith) in
    elim t.live as (λ b. Beside p n (cond b (free_of ts) (span_of t ∷ free_of ts))) [ true ↦ rest | false ↦ (inl (omega (arith, f.0)), rest) ]

pub beside_high : (ts : List Tile) (from to p n : ℕ) → Fill from ts to → to ≤ p → Beside p n (free_of ts)
beside_high [] from to p n f high = tt
beside_high (t ∷ ts) from to p n f high =
    let le = Fill-le ts (from + 16 * t.units) to f.2 in
    let rest = beside_high ts (from + 16 * t.units) to p n f.2 high in
    elim t.live as (λ b. Beside p n (cond b (free_of ts) (span_of t ∷ free_of ts))) [ true ↦ rest | false ↦ (inr (omega (arith, f.0, f.1)), rest) ]

-- a tile's header doesn't overlap the nodes of free tiles
pub head_beside : (xs ys : List Tile) (from mid to p n : ℕ) → Fill from xs mid → Fill mid ys to → mid ≤ p → p + n ≤ mid + 16 → Beside p n (free_of (xs ++ ys))
head_beside xs ys from mid to p n front back low high =
    subst (λ gs. Beside p n gs) (sym (free_of-append xs ys))
    (each_append (λ g. Separate p n (g.at + 16) 16) (free_of xs) (free_of ys) (beside_high xs from mid p n front low) (beside_low ys mid to p n back high))

-- an allocated tile doesn't overlap them, from its tag on
live_beside : (ts : List Tile) (from to : ℕ) (b : Span) → Fill from ts to → Contains (live_of ts) b → (2 ≤ b.units) × AllByRecursion (λ (g : Span). (end_of b ≤ g.at + 16) ⊎ (g.at + 16 + 16 ≤ b.at + 8)) (free_of ts)
live_beside [] from to b f (n, k, e) = absurd (omega arith)
live_beside (t ∷ ts) from to b f c =
    let rest = λ (c : Contains (live_of ts) b). live_beside ts (from + 16 * t.units) to b f.2 c in
    let go = elim t.live as (λ l. Contains (cond l (span_of t ∷ live_of ts) (live_of ts)) b
    → (2 ≤ b.units) × AllByRecursion (λ (g : Span). (end_of b ≤ g.at + 16) ⊎ (g.at + 16 + 16 ≤ b.at + 8)) (cond l (free_of ts) (span_of t ∷ free_of ts))) [
      | true ↦ (λ c. ⊎_elim (λ e. here e) rest (cons_cases (span_of t) b (live_of ts) c))
      | false ↦ (λ c. let r = rest c in let w = live_within ts (from + 16 * t.units) to b f.2 c in (r.0, (inr (omega (arith, f.0, f.1, w.0)), r.1)))
    ] in
    go c
  where
    following : (ts : List Tile) (from to end : ℕ) → Fill from ts to → end ≤ from → AllByRecursion (λ (g : Span). (end ≤ g.at + 16) ⊎ (g.at + 16 + 16 ≤ b.at + 8)) (free_of ts)
    following [] from to end f le = tt
    following (t ∷ ts) from to end f le =
        let rest = following ts (from + 16 * t.units) to end f.2 (omega arith) in
        elim t.live as (λ b'. AllByRecursion (λ (g : Span). (end ≤ g.at + 16) ⊎ (g.at + 16 + 16 ≤ b.at + 8)) (cond b' (free_of ts) (span_of t ∷ free_of ts))) [ true ↦ rest | false ↦ (inl (omega (arith, f.0)), rest) ]

    here : span_of t ≡ b → (2 ≤ b.units) × AllByRecursion (λ (g : Span). (end_of b ≤ g.at + 16) ⊎ (g.at + 16 + 16 ≤ b.at + 8)) (free_of ts)
    here e = (subst (λ (s : Span). 2 ≤ s.units) e f.1, following ts (from + 16 * t.units) to (end_of b) f.2 (let u = ap (λ (s : Span). s.units) e in let p = ap (λ (s : Span). s.at) e in omega (arith, f.0)))

-- ---- what is kept

module _ (old new : List ℕ) where
  headers_from : (xs ys : List Tile) (mid to before : ℕ) → Fill heap_start xs mid → Fill mid ys to → KeepsBesideNodes old new (free_of (xs ++ ys)) → AreHeaders old before ys → AreHeaders new before ys
  headers_from xs [] mid to before front back k h = tt
  headers_from xs (t ∷ ys) mid to before front back k h =
      let low = Fill-le xs heap_start mid front in
      let head : IsSame old new t.at 16 = k.others t.at 16 (inr (omega (arith, back.0))) (head_beside xs (t ∷ ys) heap_start mid to t.at 16 front back (omega (arith, back.0)) (omega (arith, back.0))) in
      let first = word-same old new t.at (IsSame-part old new t.at 16 t.at 4 (omega arith) (omega arith) head) in
      let second = word-same old new (t.at + 4) (IsSame-part old new t.at 16 (t.at + 4) 4 (omega arith) (omega arith) head) in
      let third = word-same old new (t.at + 8) (IsSame-part old new t.at 16 (t.at + 8) 4 (omega arith) (omega arith) head) in (
        IsHeader-same old new before before t first (second ∙ h.0.before_is) third h.0,
        headers_from (xs ++ t ∷ []) ys (mid + 16 * t.units) to t.units (Fill-append xs (t ∷ []) heap_start mid (mid + 16 * t.units) front (back.0, back.1, omega (arith, back.0))) back.2
            (subst (λ l. KeepsBesideNodes old new (free_of l)) (sym (append_assoc xs (t ∷ []) ys)) k) h.1,
      )

  module _ (ts : List Tile) (to : ℕ) (filled : Fill heap_start ts to) (k : KeepsBesideNodes old new (free_of ts)) where
    pub headers_kept : AreHeaders old 0 ts → AreHeaders new 0 ts
    headers_kept h = headers_from [] ts heap_start to 0 (omega arith) filled k h

    agrees : (from n to : ℕ) → from + n ≡ to → Separate from n 24 4 → Beside from n (free_of ts) → Agrees old new from to
    agrees from n to e root beside = subst (λ e. Agrees old new from e) e (Agrees-same_slice old new from n k.length_kept (k.others from n root beside))

    pub front_kept : Agrees old new 0 free_word
    front_kept = agrees 0 free_word free_word (omega arith) (inl (omega arith)) (beside_low ts heap_start to 0 free_word filled (omega arith))

    pub back_kept : Agrees old new back_start heap_start
    back_kept = agrees back_start back_size heap_start (omega arith) (inr (omega arith)) (beside_low ts heap_start to back_start back_size filled (omega arith))

    pub live_kept : (b : Span) → Contains (live_of ts) b → Agrees old new (b.at + 8) (end_of b)
    live_kept b c =
        let w = live_within ts heap_start to b filled c in
        let l = live_beside ts heap_start to b filled c in
        let n = 16 * b.units - 8 in
        let whole : b.at + 8 + n ≡ end_of b = omega (arith, l.0) in
        agrees (b.at + 8) n (end_of b) whole (inr (omega (arith, w.0)))
        (each_weaker (λ (g : Span). (end_of b ≤ g.at + 16) ⊎ (g.at + 16 + 16 ≤ b.at + 8)) (λ g. Separate (b.at + 8) n (g.at + 16) 16) (λ g s. ⊎_elim (λ m. inl (omega (arith, whole, m))) (λ m. inr m) s) (free_of ts) l.1)

    pub spares_kept : Spares old new ts
    spares_kept = record { front_kept = front_kept; back_kept = back_kept; tiles_kept = live_kept }

  pub tiled_kept : (ts : List Tile) → IsTiled old ts → KeepsBesideNodes old new (free_of ts) → IsTiled new ts
  tiled_kept ts was k = record {
    small = subst (λ n. n ≤ 2 ^ 30) (sym k.length_kept) was.small;
    filled = subst (λ n. Fill heap_start ts n) (sym k.length_kept) was.filled;
    headers = headers_kept ts (length old) was.filled k was.headers;
  }

  -- a tile keeps its link
  pub link_kept : (xs ys : List Tile) (t : Tile) (mid to : ℕ) → Fill heap_start xs mid → Fill mid (t ∷ ys) to → KeepsBesideNodes old new (free_of (xs ++ t ∷ ys)) → link_at new t.at ≡ link_at old t.at
  link_kept xs ys t mid to front back k =
      let low = Fill-le xs heap_start mid front in
      target-same old new (t.at + 12) (k.others (t.at + 12) 4 (inr (omega (arith, back.0))) (head_beside xs (t ∷ ys) heap_start mid to (t.at + 12) 4 front back (omega (arith, back.0)) (omega (arith, back.0))))

-- ---- trees that lack some of the free tiles

pub gaps_beside : (xs ms ys : List Tile) → free_of (xs ++ (ms ++ ys)) ≡ free_of xs ++ (free_of ms ++ free_of ys)
gaps_beside xs ms ys = free_of-append xs (ms ++ ys) ∙ ap (λ gs. free_of xs ++ gs) (free_of-append ms ys)

-- bytes outside the nodes of some gaps are kept, if bytes outside the nodes of fewer gaps are
pub kept_among : (old new : List ℕ) (xs ms ys : List Tile) → KeepsBesideNodes old new (free_of xs ++ free_of ys) → KeepsBesideNodes old new (free_of (xs ++ (ms ++ ys)))
kept_among old new xs ms ys k = subst (λ gs. KeepsBesideNodes old new gs) (sym (gaps_beside xs ms ys)) (record {
  length_kept = k.length_kept;
  others = λ p n root beside. k.others p n root (each_drops (λ g. Separate p n (g.at + 16) 16) (free_of xs) (free_of ms) (free_of ys) beside);
})

-- ---- tiles are replaced

spared_beside : (old new : List ℕ) (xs ms ys : List Tile) → IsTiled old (xs ++ (ms ++ ys)) → KeepsBesideNodes old new (free_of (xs ++ (ms ++ ys))) → Spares old new (xs ++ ys)
spared_beside old new xs ms ys was k = Spares-without old new xs ms ys (spares_kept old new (xs ++ (ms ++ ys)) (length old) was.filled k)

-- tiles are replaced after the tree changed
pub retiles_after : (old mid new : List ℕ) (xs ms ns ys : List Tile) → IsTiled old (xs ++ (ms ++ ys)) → KeepsBesideNodes old mid (free_of (xs ++ (ms ++ ys))) → Retiles 1 mid new xs ns ys → Retiles 1 old new xs ns ys
retiles_after old mid new xs ms ns ys was k r = record { tiling = r.tiling; spared = Spares-trans old mid new (xs ++ ys) (spared_beside old mid xs ms ys was k) r.spared }

-- tiles are replaced before the tree changes
pub retiles_before : (old mid new : List ℕ) (xs ns ys : List Tile) (at n : ℕ) → Replaces old mid xs ns ys at n → KeepsBesideNodes mid new (free_of (xs ++ (ns ++ ys)))
    → IsFreeTree new (free_of (xs ++ (ns ++ ys))) → Retiles 1 old new xs ns ys
retiles_before old mid new xs ns ys at n r k tree = record {
  tiling = record { tiled = tiled_kept mid new (xs ++ (ns ++ ys)) r.tiled k; free = tree };
  spared = Spares-trans old mid new (xs ++ ys) r.spared (spared_beside mid new xs ns ys r.tiled k);
}
