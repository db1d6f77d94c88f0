-- The last tile gets more units. The list doesn't depend on its size.
use Rattle.std.proofs.Common.{◌≡◌, ℕ, ◌+◌, ◌*◌, ◌%◌, ◌^◌, ◌≤◌, Bool, true, false, List, [], ◌∷◌, ◌++◌, length, cond, Option, None, refl, sym, ap, ◌∙◌, subst, arith, inl, inr, ◌⊎◌, ⊎_elim}
use Rattle.std.proofs.lemmas.Bool.{cases_lt}
use Rattle.seg_spec.specs.Bytes.{word}
use Rattle.seg_spec.specs.Heap.{Tile, span_of, is_live_at, Fill, AreHeaders, HoldsGaps, Links, free_of, heap_start}
use Rattle.seg_spec.proofs.BytesLaws.{number-agrees}
use Rattle.seg_spec.proofs.PointerLaws.{target-same}
use Rattle.seg_spec.proofs.Heap.TileLaws.{Fill-le}
use Rattle.seg_block.specs.Extents.{Enlarges}
use Rattle.seg_block.specs.Sizes.{set_size}
use Rattle.seg_block.specs.Tiling.{tile}
use Rattle.seg_block.proofs.HeapGrowthLaws.{flag_is, larger-places, larger-length, larger-headers, larger-kept, larger-spared}
use Rattle.seg_block.proofs.TileReplacementLaws.{aligned_end}

-- ---- the list

pub Links-words : (a b : List ℕ) (ts : List Tile) (p from to : ℕ) (last : Option ℕ) → word b p ≡ word a p → ((q : ℕ) → from + 12 ≤ q → q + 4 ≤ to → q % 16 ≡ 12 → word b q ≡ word a q)
    → from % 16 ≡ 0 → Fill from ts to → Links a p (free_of ts) last → Links b p (free_of ts) last
Links-words a b [] p from to last first same aligned f l = target-same a b p first ∙ l
Links-words a b (t ∷ ts) p from to last first same aligned f l =
    let le = Fill-le ts (from + 16 * t.units) to f.2 in
    let rest = λ (q : ℕ) (low : from + 16 * t.units + 12 ≤ q) (high : q + 4 ≤ to) (even : q % 16 ≡ 12). same q (omega arith) high even in
    let go = elim t.live as (λ c. Links a p (cond c (free_of ts) (span_of t ∷ free_of ts)) last → Links b p (cond c (free_of ts) (span_of t ∷ free_of ts)) last) [
      | true ↦ (λ l. Links-words a b ts p (from + 16 * t.units) to last first rest (omega arith) f.2 l)
      | false ↦ (λ l. (target-same a b p first ∙ l.0, Links-words a b ts (t.at + 12) (from + 16 * t.units) to last (same (t.at + 12) (omega (arith, f.0)) (omega (arith, f.0, f.1)) (omega (arith, f.0))) rest (omega arith) f.2 l.1))
    ] in
    go l

-- the list doesn't depend on the size of the last tile
Links-resized : (a : List ℕ) (xs : List Tile) (p at u v : ℕ) (l : Bool) (last : Option ℕ) → Links a p (free_of (xs ++ tile at u l ∷ [])) last → Links a p (free_of (xs ++ tile at v l ∷ [])) last
Links-resized a [] p at u v true last k = k
Links-resized a [] p at u v false last k = k
Links-resized a (t ∷ xs) p at u v l last k =
    let go = elim t.live as (λ c. Links a p (cond c (free_of (xs ++ tile at u l ∷ [])) (span_of t ∷ free_of (xs ++ tile at u l ∷ []))) last
    → Links a p (cond c (free_of (xs ++ tile at v l ∷ [])) (span_of t ∷ free_of (xs ++ tile at v l ∷ []))) last)
    [ true ↦ (λ k. Links-resized a xs p at u v l last k) | false ↦ (λ k. (k.0, Links-resized a xs (t.at + 12) at u v l last k.1)) ] in
    go k

-- ---- from what the steps ensure

pub enlarged : (old new : List ℕ) (xs : List Tile) (at u n : ℕ) (l flag : Bool) → length old ≤ 2 ^ 30 → u ≤ n → Fill heap_start (xs ++ tile at u l ∷ []) (at + 16 * u)
    → AreHeaders old 0 (xs ++ tile at u l ∷ []) → HoldsGaps 0 old (free_of (xs ++ tile at u l ∷ [])) → at + 16 * n ≡ length old
    → flag ≡ is_live_at old at → new ≡ set_size old at n flag → Enlarges 0 old new xs at u n l
enlarged old new xs at u n l flag small more filled heads holds inside flag_was new_is =
    let end = at + 16 * u in
    let p = larger-places old xs at u n end l small more inside filled heads in
    let low = Fill-le xs heap_start at p.0 in
    let aligned = aligned_end xs heap_start at refl p.0 in
    let same = λ (q : ℕ) (out : (q + 4 ≤ at) ⊎ (at + 4 ≤ q)) (high : q + 4 ≤ end). number-agrees old (set_size old at n l) q (q + 4) 4 q
    (larger-kept old xs at u n end l small more inside filled heads q (q + 4) out high) (omega arith) (omega arith) in
    let beside = λ (q : ℕ) (even : q % 16 ≡ 12). ⊎_elim (λ k. inl (omega (arith, aligned, even, k))) (λ k. inr (omega (arith, aligned, even, k))) (cases_lt q at) in
    subst (λ b. Enlarges 0 old b xs at u n l) (sym (new_is ∙ ap (set_size old at n) (flag_was ∙ flag_is old xs at u l heads)))
    (record {
      length_kept = larger-length old xs at u n end l small more inside filled heads;
      headers = larger-headers old xs at u n end l small more inside filled heads;
      free = Links-resized (set_size old at n l) xs 24 at u n l None
          (Links-words old (set_size old at n l) (xs ++ tile at u l ∷ []) 24 heap_start end None (same 24 (inl (omega arith)) (omega (arith, p.1))) (λ q from high even. same q (beside q even) high) refl filled holds);
      spared = larger-spared old xs at u n end l small more inside filled heads;
    })
