-- The free list over tiles.
use Rattle.std.proofs.Common.{◌≡◌, ℕ, ◌+◌, ◌*◌, ◌%◌, ◌≤◌, true, false, List, [], ◌∷◌, ◌++◌, cond, Option, Some, None, refl, sym, ◌∙◌, subst, arith, inl, inr, ◌⊎◌, ⊎_elim}
use Rattle.std.specs.Prelude.{Contains}
use Rattle.seg_spec.specs.Bytes.{Agrees}
use Rattle.seg_spec.specs.Pointer.{target}
use Rattle.seg_spec.specs.Heap.{Span, Tile, span_of, end_of, Fill, Links, live_of, free_of}
use Rattle.seg_spec.proofs.BytesLaws.{Agrees-within}
use Rattle.seg_spec.proofs.Heap.TileLaws.{Fill-le}
use Rattle.seg_seqfit.specs.Retiling.{link_past}
use Rattle.seg_block.proofs.LiveTiles.{cons_cases}
use Rattle.seg_block.proofs.Heaps.{target-agrees}

-- ---- the position of the pointer word after some tiles

pub link_past-low : (ts : List Tile) (p from to : ℕ) → p + 4 ≤ from → Fill from ts to → link_past p ts + 4 ≤ to
link_past-low [] p from to low f = omega (arith, f)
link_past-low (t ∷ ts) p from to low f =
    elim t.live as (λ b. link_past (cond b p (t.at + 12)) ts + 4 ≤ to) [
      | true ↦ link_past-low ts p (from + 16 * t.units) to (omega arith) f.2
      | false ↦ link_past-low ts (t.at + 12) (from + 16 * t.units) to (omega (arith, f.0, f.1)) f.2
    ]

pub link_past-off : (ts : List Tile) (p from to start : ℕ) → (p + 4 ≤ start) ⊎ (p % 16 ≡ 12) → from % 16 ≡ 0 → Fill from ts to → (link_past p ts + 4 ≤ start) ⊎ (link_past p ts % 16 ≡ 12)
link_past-off [] p from to start off aligned f = off
link_past-off (t ∷ ts) p from to start off aligned f =
    elim t.live as (λ b. (link_past (cond b p (t.at + 12)) ts + 4 ≤ start) ⊎ (link_past (cond b p (t.at + 12)) ts % 16 ≡ 12)) [
      | true ↦ link_past-off ts p (from + 16 * t.units) to start off (omega arith) f.2
      | false ↦ link_past-off ts (t.at + 12) (from + 16 * t.units) to start (inr (omega (arith, f.0))) (omega arith) f.2
    ]

pub link_past-cases : (ts : List Tile) (p from to : ℕ) → Fill from ts to → (link_past p ts ≡ p) ⊎ (from ≤ link_past p ts)
link_past-cases [] p from to f = inl refl
link_past-cases (t ∷ ts) p from to f =
    elim t.live as (λ b. (link_past (cond b p (t.at + 12)) ts ≡ p) ⊎ (from ≤ link_past (cond b p (t.at + 12)) ts)) [
      | true ↦ weaker (link_past-cases ts p (from + 16 * t.units) to f.2)
      | false ↦ inr (above (link_past-cases ts (t.at + 12) (from + 16 * t.units) to f.2))
    ]
  where
    weaker : (link_past p ts ≡ p) ⊎ (from + 16 * t.units ≤ link_past p ts) → (link_past p ts ≡ p) ⊎ (from ≤ link_past p ts)
    weaker (inl e) = inl e
    weaker (inr h) = inr (omega arith)

    above : (link_past (t.at + 12) ts ≡ t.at + 12) ⊎ (from + 16 * t.units ≤ link_past (t.at + 12) ts) → from ≤ link_past (t.at + 12) ts
    above (inl e) = omega (arith, f.0)
    above (inr h) = omega arith

-- ---- the list in two parts

pub Links-after : (bytes : List ℕ) (xs ys : List Tile) (p : ℕ) (last : Option ℕ) → Links bytes p (free_of (xs ++ ys)) last → Links bytes (link_past p xs) (free_of ys) last
Links-after bytes [] ys p last l = l
Links-after bytes (t ∷ xs) ys p last l =
    let go = elim t.live as (λ b. Links bytes p (cond b (free_of (xs ++ ys)) (span_of t ∷ free_of (xs ++ ys))) last → Links bytes (link_past (cond b p (t.at + 12)) xs) (free_of ys) last)
    [ true ↦ (λ l. Links-after bytes xs ys p last l) | false ↦ (λ l. Links-after bytes xs ys (t.at + 12) last l.1) ] in
    go l

-- the list changes only from the pointer word after some tiles on
pub Links-changed : (old new : List ℕ) (xs ys zs : List Tile) (p from to : ℕ) (last last' : Option ℕ) → p + 4 ≤ from → Fill from xs to → Agrees old new p (link_past p xs)
    → Links old p (free_of (xs ++ ys)) last → Links new (link_past p xs) (free_of zs) last' → Links new p (free_of (xs ++ zs)) last'
Links-changed old new [] ys zs p from to last last' low f same l l' = l'
Links-changed old new (t ∷ xs) ys zs p from to last last' low f same l l' =
    let go = elim t.live as (λ b. Agrees old new p (link_past (cond b p (t.at + 12)) xs) → Links old p (cond b (free_of (xs ++ ys)) (span_of t ∷ free_of (xs ++ ys))) last
    → Links new (link_past (cond b p (t.at + 12)) xs) (free_of zs) last' → Links new p (cond b (free_of (xs ++ zs)) (span_of t ∷ free_of (xs ++ zs))) last') [
      | true ↦ (λ same l l'. Links-changed old new xs ys zs p (from + 16 * t.units) to last last' (omega arith) f.2 same l l')
      | false ↦ (λ same l l'.
          let reach = link_past-cases xs (t.at + 12) (from + 16 * t.units) to f.2 in
          let far : t.at + 12 ≤ link_past (t.at + 12) xs = within reach in (
            target-agrees old new p (link_past (t.at + 12) xs) p same (omega arith) (omega (arith, f.0)) ∙ l.0,
            Links-changed old new xs ys zs (t.at + 12) (from + 16 * t.units) to last last' (omega (arith, f.0, f.1)) f.2
                (Agrees-within old new p (link_past (t.at + 12) xs) (t.at + 12) (link_past (t.at + 12) xs) same (omega (arith, f.0)) (omega arith)) l.1 l',
          ))
    ] in
    go same l l'
  where
    within : (link_past (t.at + 12) xs ≡ t.at + 12) ⊎ (from + 16 * t.units ≤ link_past (t.at + 12) xs) → t.at + 12 ≤ link_past (t.at + 12) xs
    within (inl e) = omega arith
    within (inr h) = omega (arith, f.0, f.1)

-- the list from one pointer word on, moved to another pointer word
pub Links-moved : (old new : List ℕ) (ts : List Tile) (p q from to : ℕ) (last : Option ℕ) → target new q ≡ target old p → Agrees old new (from + 8) to → Fill from ts to → Links old p (free_of ts) last → Links new q (free_of ts) last
Links-moved old new [] p q from to last e same f l = e ∙ l
Links-moved old new (t ∷ ts) p q from to last e same f l =
    let le = Fill-le ts (from + 16 * t.units) to f.2 in
    let rest = Agrees-within old new (from + 8) to (from + 16 * t.units + 8) to same (omega arith) (omega arith) in
    let go = elim t.live as (λ b. Links old p (cond b (free_of ts) (span_of t ∷ free_of ts)) last → Links new q (cond b (free_of ts) (span_of t ∷ free_of ts)) last) [
      | true ↦ (λ l. Links-moved old new ts p q (from + 16 * t.units) to last e rest f.2 l)
      | false ↦ (λ l. (e ∙ l.0, Links-moved old new ts (t.at + 12) (t.at + 12) (from + 16 * t.units) to last (target-agrees old new (from + 8) to (t.at + 12) same (omega (arith, f.0)) (omega (arith, f.0, f.1))) rest f.2 l.1))
    ] in
    go l

-- the target of a pointer word of the list is aligned and not past the tiles
pub names_tile : (bytes : List ℕ) (ts : List Tile) (p from to t : ℕ) → from % 16 ≡ 0 → Fill from ts to → Links bytes p (free_of ts) None → target bytes p ≡ Some t → (t % 16 ≡ 0) × (t ≤ to)
names_tile bytes [] p from to t aligned f l e = absurd (no (sym e ∙ l))
  where
    no : Some t ≡ None → ⊥
    no h = cc
names_tile bytes (s ∷ ts) p from to t aligned f l e =
    let le = Fill-le ts (from + 16 * s.units) to f.2 in
    let go = elim s.live as (λ b. Links bytes p (cond b (free_of ts) (span_of s ∷ free_of ts)) None → target bytes p ≡ Some t → (t % 16 ≡ 0) × (t ≤ to)) [
      | true ↦ (λ l e. names_tile bytes ts p (from + 16 * s.units) to t (omega arith) f.2 l e)
      | false ↦ (λ l e. let is : t ≡ s.at + 16 = same (sym e ∙ l.0) in (omega (arith, f.0), omega (arith, f.0, f.1)))
    ] in
    go l e
  where
    same : Some t ≡ Some (s.at + 16) → t ≡ s.at + 16
    same h = cc

-- ---- an allocated tile doesn't overlap the pointer word after the tiles

beside_own : (ts : List Tile) (p from to : ℕ) (t : Tile) (b : Span) → p + 4 ≤ from → t.at ≡ from → Fill (from + 16 * t.units) ts to → span_of t ≡ b → (end_of b ≤ link_past p ts) ⊎ (link_past p ts + 4 ≤ b.at)
beside_own ts p from to t b low at_is f e =
    subst (λ (s : Span). (end_of s ≤ link_past p ts) ⊎ (link_past p ts + 4 ≤ s.at)) e
    (⊎_elim (λ is. inr (omega arith)) (λ above. inl (omega arith)) (link_past-cases ts p (from + 16 * t.units) to f))

pub live_beside_link : (ts : List Tile) (p from to : ℕ) (b : Span) → p + 4 ≤ from → Fill from ts to → Contains (live_of ts) b → (end_of b ≤ link_past p ts) ⊎ (link_past p ts + 4 ≤ b.at)
live_beside_link [] p from to b low f (n, k, e) = absurd (omega arith)
live_beside_link (t ∷ ts) p from to b low f c =
    let go = elim t.live as (λ l. Contains (cond l (span_of t ∷ live_of ts) (live_of ts)) b → (end_of b ≤ link_past (cond l p (t.at + 12)) ts) ⊎ (link_past (cond l p (t.at + 12)) ts + 4 ≤ b.at)) [
      | true ↦ (λ c. ⊎_elim (λ e. beside_own ts p from to t b low f.0 f.2 e) (λ c. live_beside_link ts p (from + 16 * t.units) to b (omega arith) f.2 c) (cons_cases (span_of t) b (live_of ts) c))
      | false ↦ (λ c. live_beside_link ts (t.at + 12) (from + 16 * t.units) to b (omega (arith, f.0, f.1)) f.2 c)
    ] in
    go c
