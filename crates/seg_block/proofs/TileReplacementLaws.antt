-- A few tiles in the middle of the heap are replaced by others, for any free structure.
use Rattle.std.proofs.Common.{◌≡◌, ℕ, ◌+◌, ◌*◌, ◌%◌, ◌^◌, ◌≤◌, Bool, List, [], ◌∷◌, ◌++◌, length, sym, ap, ◌∙◌, subst, arith, inl, inr, ◌⊎◌, ⊎_elim}
use Rattle.std.specs.Prelude.{Contains, ⊤}
use Rattle.std.proofs.lemmas.List.Elements.{Contains-append_cases}
use Rattle.seg_spec.specs.Bytes.{word, Agrees}
use Rattle.seg_spec.specs.Heap.{Span, Tile, IsHeader, end_of, Fill, AreHeaders, live_of, heap_start}
use Rattle.seg_spec.proofs.BytesLaws.{number-agrees}
use Rattle.seg_spec.proofs.Heap.TileLaws.{Fill-le, Fill-append, Fill-front, Fill-back, AreHeaders-append, AreHeaders-front, AreHeaders-back, end_after, units_after, live_of-append}
use Rattle.seg_spec.proofs.Heap.HeaderLaws.{IsHeader-same}
use Rattle.seg_block.specs.Tiling.{tile, IsTiled, Replaces}
use Rattle.seg_block.proofs.LiveTiles.{live_within}

-- a fact about ranges is true of the first 12 bytes of each tile's header
abbrev pub EachHeader : (ℕ → ℕ → Type 0) → List Tile → Type 0
EachHeader misses [] = ⊤
EachHeader misses (t ∷ ts) = misses t.at (t.at + 12) × EachHeader misses ts

-- The places that an allocator uses for its free structure may change, and so may the bytes from lo
-- up to hi and the word 4 after hi. `misses` states that a range has none of those places.
module _ (old new : List ℕ) (misses : ℕ → ℕ → Type 0) (part_misses : (from to low high : ℕ) → misses from to → from ≤ low → high ≤ to → misses low high) (lo hi : ℕ) (le : lo ≤ hi)
    (kept : (from to : ℕ) → misses from to → (to ≤ lo) ⊎ (hi ≤ from) → (to ≤ hi + 4) ⊎ (hi + 8 ≤ from) → Agrees old new from to) where
  headers_front : (xs : List Tile) (from before : ℕ) → EachHeader misses xs → Fill from xs lo → AreHeaders old before xs → AreHeaders new before xs
  headers_front [] from before m f h = tt
  headers_front (t ∷ xs) from before m f h =
      let low = Fill-le xs (from + 16 * t.units) lo f.2 in
      let same = kept t.at (t.at + 12) m.0 (inl (omega (arith, f.0, f.1))) (inl (omega (arith, f.0, f.1))) in
      let first = number-agrees old new t.at (t.at + 12) 4 t.at same (omega arith) (omega arith) in
      let back = number-agrees old new t.at (t.at + 12) 4 (t.at + 4) same (omega arith) (omega arith) in
      let tag = number-agrees old new t.at (t.at + 12) 4 (t.at + 8) same (omega arith) (omega arith) in
      (IsHeader-same old new before before t first (back ∙ h.0.before_is) tag h.0, headers_front xs (from + 16 * t.units) t.units m.1 f.2 h.1)

  headers_after : (ys : List Tile) (from to before : ℕ) → hi + 8 ≤ from → EachHeader misses ys → Fill from ys to → AreHeaders old before ys → AreHeaders new before ys
  headers_after [] from to before high m f h = tt
  headers_after (t ∷ ys) from to before high m f h =
      let same = kept t.at (t.at + 12) m.0 (inr (omega (arith, f.0))) (inr (omega (arith, f.0))) in
      let first = number-agrees old new t.at (t.at + 12) 4 t.at same (omega arith) (omega arith) in
      let back = number-agrees old new t.at (t.at + 12) 4 (t.at + 4) same (omega arith) (omega arith) in
      let tag = number-agrees old new t.at (t.at + 12) 4 (t.at + 8) same (omega arith) (omega arith) in
      (IsHeader-same old new before before t first (back ∙ h.0.before_is) tag h.0, headers_after ys (from + 16 * t.units) to t.units (omega arith) m.1 f.2 h.1)

  headers_next : (ys : List Tile) (to before units : ℕ) → EachHeader misses ys → Fill hi ys to → (hi + 8 ≤ to → word new (hi + 4) ≡ units) → AreHeaders old before ys → AreHeaders new units ys
  headers_next [] to before units m f next h = tt
  headers_next (t ∷ ys) to before units m f next h =
      let high = Fill-le ys (hi + 16 * t.units) to f.2 in
      let size = number-agrees old new t.at (t.at + 4) 4 t.at (kept t.at (t.at + 4) (part_misses t.at (t.at + 12) t.at (t.at + 4) m.0 (omega arith) (omega arith)) (inr (omega (arith, f.0))) (inl (omega (arith, f.0))))
      (omega arith) (omega arith) in
      let tag = number-agrees old new (t.at + 8) (t.at + 12) 4 (t.at + 8)
      (kept (t.at + 8) (t.at + 12) (part_misses t.at (t.at + 12) (t.at + 8) (t.at + 12) m.0 (omega arith) (omega arith)) (inr (omega (arith, f.0))) (inr (omega (arith, f.0)))) (omega arith) (omega arith) in
      (IsHeader-same old new before units t size (ap (λ p. word new (p + 4)) f.0 ∙ next (omega (arith, f.1))) tag h.0, headers_after ys (hi + 16 * t.units) to t.units (omega (arith, f.1)) m.1 f.2 h.1)

  module _ (xs ms ns ys : List Tile) (was : IsTiled old (xs ++ (ms ++ ys))) (length_kept : length new ≡ length old) (front : Fill heap_start xs lo) (middle : Fill lo ns hi) (back : Fill hi ys (length old)) where
    pub retiled : EachHeader misses xs → EachHeader misses ys → AreHeaders new (units_after 0 xs) ns → (hi + 8 ≤ length old → word new (hi + 4) ≡ units_after (units_after 0 xs) ns) → IsTiled new (xs ++ (ns ++ ys))
    retiled before following ns_is next_is =
        let rest = AreHeaders-back old ms ys (units_after 0 xs) (AreHeaders-back old xs (ms ++ ys) 0 was.headers) in
        record {
          small = subst (λ n. n ≤ 2 ^ 30) (sym length_kept) was.small;
          filled = subst (λ n. Fill heap_start (xs ++ (ns ++ ys)) n) (sym length_kept) (Fill-append xs (ns ++ ys) heap_start lo (length old) front (Fill-append ns ys lo hi (length old) middle back));
          headers =
              AreHeaders-append new xs (ns ++ ys) 0 (headers_front xs heap_start 0 before front (AreHeaders-front old xs (ms ++ ys) 0 was.headers))
              (AreHeaders-append new ns ys (units_after 0 xs) ns_is (headers_next ys (length old) (units_after (units_after 0 xs) ms) (units_after (units_after 0 xs) ns) following back next_is rest));
        }

    -- the tag, link and payload of each allocated tile outside the middle are kept
    pub spared_tiles : ((b : Span) → Contains (live_of (xs ++ ys)) b → misses (b.at + 8) (end_of b)) → (b : Span) → Contains (live_of (xs ++ ys)) b → Agrees old new (b.at + 8) (end_of b)
    spared_tiles clear b c =
        ⊎_elim
        (λ x. let w = live_within xs heap_start lo b front x in kept (b.at + 8) (end_of b) (clear b c) (inl w.1) (inl (omega (arith, w.1))))
        (λ y. let w = live_within ys hi (length old) b back y in kept (b.at + 8) (end_of b) (clear b c) (inr (omega (arith, w.0))) (inr (omega (arith, w.0))))
        (Contains-append_cases (live_of xs) (live_of ys) b (subst (λ l. Contains l b) (live_of-append xs ys) c))

-- ---- the position of a tile

pub around : (xs ys : List Tile) (from to at u : ℕ) (live : Bool) → Fill from (xs ++ tile at u live ∷ ys) to → (Fill from xs at) × (2 ≤ u) × Fill (at + 16 * u) ys to
around xs ys from to at u live f =
    let back = Fill-back xs (tile at u live ∷ ys) from to f in
    let front = Fill-front xs (tile at u live ∷ ys) from to f in
    (subst (λ p. Fill from xs p) (sym back.0) front, back.1, subst (λ p. Fill (p + 16 * u) ys to) (sym back.0) back.2)

end_is : (ts : List Tile) (from to : ℕ) → Fill from ts to → end_after from ts ≡ to
end_is [] from to f = f
end_is (t ∷ ts) from to f = end_is ts (from + 16 * t.units) to f.2

-- the tiles before and after tiles that fill a range
pub beside : (xs ms ys : List Tile) (t : Tile) (from to lo hi : ℕ) → Fill from (xs ++ ((t ∷ ms) ++ ys)) to → Fill lo (t ∷ ms) hi → Fill from xs lo × Fill hi ys to
beside xs ms ys t from to lo hi all middle =
    let back = Fill-back xs ((t ∷ ms) ++ ys) from to all in
    let start : end_after from xs ≡ lo = sym back.0 ∙ middle.0 in (
      subst (λ p. Fill from xs p) start (Fill-front xs ((t ∷ ms) ++ ys) from to all),
      subst (λ p. Fill p ys to) (end_is (t ∷ ms) lo hi middle) (Fill-back (t ∷ ms) ys lo to (subst (λ p. Fill p ((t ∷ ms) ++ ys) to) start back)),
    )

pub aligned_end : (xs : List Tile) (from to : ℕ) → from % 16 ≡ 0 → Fill from xs to → to % 16 ≡ 0
aligned_end [] from to aligned f = ap (λ p. p % 16) (sym f) ∙ aligned
aligned_end (t ∷ xs) from to aligned f = aligned_end xs (from + 16 * t.units) to (omega arith) f.2

-- a tile of the heap has a header
pub header_of : (bytes : List ℕ) (xs ys : List Tile) (t : Tile) → IsTiled bytes (xs ++ t ∷ ys) → IsHeader bytes (units_after 0 xs) t
header_of bytes xs ys t was = (AreHeaders-back bytes xs (t ∷ ys) 0 was.headers).0

-- ---- no places are kept for a free structure

each_anywhere : (ts : List Tile) → EachHeader (λ from to. ⊤) ts
each_anywhere [] = tt
each_anywhere (t ∷ ts) = (tt, each_anywhere ts)

pub replaces : (old new : List ℕ) (xs ms ns ys : List Tile) (lo hi n : ℕ) → IsTiled old (xs ++ (ms ++ ys)) → Fill heap_start xs lo → Fill lo ns hi → Fill hi ys (length old)
    → ((from to : ℕ) → (to ≤ lo) ⊎ (hi ≤ from) → (to ≤ hi + 4) ⊎ (hi + 8 ≤ from) → Agrees old new from to)
    → AreHeaders new (units_after 0 xs) ns → (hi + 8 ≤ length old → word new (hi + 4) ≡ units_after (units_after 0 xs) ns) → Agrees old new (lo + 8) (lo + n) → Replaces old new xs ns ys lo n
replaces old new xs ms ns ys lo hi n was front middle back kept ns_is next_is own =
    let start = Fill-le xs heap_start lo front in
    let le = Fill-le ns lo hi middle in
    let before = kept 0 24 (inl (omega arith)) (inl (omega arith)) in
    let keeps = λ (from to : ℕ) (m : ⊤). kept from to in
    record {
      tiled = retiled old new (λ from to. ⊤) (λ from to low high m p q. tt) lo hi le keeps xs ms ns ys was before.length_kept front middle back (each_anywhere xs) (each_anywhere ys) ns_is next_is;
      spared = record {
        front_kept = before;
        back_kept = kept 28 heap_start (inl (omega arith)) (inl (omega arith));
        tiles_kept = spared_tiles old new (λ from to. ⊤) (λ from to low high m p q. tt) lo hi le keeps xs ms ns ys was before.length_kept front middle back (λ b c. tt);
      };
      own_kept = own;
    }
