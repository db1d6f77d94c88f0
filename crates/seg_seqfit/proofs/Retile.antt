-- Some tiles in the middle of the heap are replaced by others, and the free list is linked through
-- them.
use Rattle.std.proofs.Common.{◌≡◌, ◌≢◌, ℕ, ◌+◌, ◌*◌, ◌%◌, ◌≤◌, Bool, true, false, List, [], ◌∷◌, ◌++◌, length, cond, Option, None, refl, ◌∙◌, subst, arith, inl, inr, ◌⊎◌, ⊎_elim}
use Rattle.std.specs.Prelude.{Contains}
use Rattle.std.proofs.lemmas.List.Elements.{Contains-append_cases}
use Rattle.seg_spec.specs.Bytes.{word, set_word, Agrees}
use Rattle.seg_spec.specs.Pointer.{target}
use Rattle.seg_spec.specs.Heap.{Span, Tile, span_of, end_of, Fill, AreHeaders, Links, live_of, free_of, heap_start}
use Rattle.seg_spec.proofs.BytesLaws.{number-agrees, Agrees-trans, Agrees-set_number, length-set_number}
use Rattle.seg_spec.proofs.PointerLaws.{target-same}
use Rattle.seg_block.specs.Sizes.{size_word, set_size}
use Rattle.seg_spec.proofs.Heap.TileLaws.{Fill-le, units_after, live_of-append}
use Rattle.seg_spec.proofs.Heap.HeaderLaws.{off_header}
use Rattle.seg_block.specs.Tiling.{IsTiled, Spares, IsTiling}
use Rattle.seg_seqfit.specs.Retiling.{link_past}
use Rattle.seg_block.proofs.TileReplacementLaws.{EachHeader, retiled, spared_tiles}
use Rattle.seg_seqfit.proofs.LinkLaws.{link_past-low, link_past-off, link_past-cases, Links-after, Links-changed, Links-moved, live_beside_link}
use Rattle.seg_block.proofs.LiveTiles.{live_within}

-- only a pointer word, the bytes from lo up to hi, and the word 4 after hi may change
pub record IsLocal (old new : List ℕ) (link lo hi : ℕ) : Type 0 where
  pub length_kept : length new ≡ length old
  pub kept : (from to : ℕ) → (to ≤ link) ⊎ (link + 4 ≤ from) → (to ≤ lo) ⊎ (hi ≤ from) → (to ≤ hi + 4) ⊎ (hi + 8 ≤ from) → Agrees old new from to

-- ---- the pointer word doesn't overlap headers

-- a range that doesn't overlap the pointer word
abbrev pub Misses : ℕ → ℕ → ℕ → Type 0
Misses link from to = (to ≤ link) ⊎ (link + 4 ≤ from)

part_misses : (link from to low high : ℕ) → Misses link from to → from ≤ low → high ≤ to → Misses link low high
part_misses link from to low high (inl h) p q = inl (omega arith)
part_misses link from to low high (inr h) p q = inr (omega arith)

each_front : (xs : List Tile) (link from to : ℕ) → from % 16 ≡ 0 → (link + 4 ≤ from) ⊎ (link % 16 ≡ 12) → Fill from xs to → EachHeader (Misses link) xs
each_front [] link from to aligned off f = tt
each_front (t ∷ xs) link from to aligned off f =
    (⊎_elim (λ h. inr (omega (arith, f.0))) (λ h. inl (omega (arith, f.0))) (off_header link from aligned off), each_front xs link (from + 16 * t.units) to (omega arith) (⊎_elim (λ h. inl (omega arith)) (λ h. inr h) off) f.2)

each_after : (ys : List Tile) (link from to : ℕ) → link + 4 ≤ from → Fill from ys to → EachHeader (Misses link) ys
each_after [] link from to low f = tt
each_after (t ∷ ys) link from to low f = (inr (omega (arith, f.0)), each_after ys link (from + 16 * t.units) to (omega arith) f.2)

-- ---- the free list

Links-last : (bytes : List ℕ) (ts : List Tile) (p : ℕ) (last : Option ℕ) → Links bytes p (free_of ts) last → target bytes (link_past p ts) ≡ last
Links-last bytes [] p last l = l
Links-last bytes (t ∷ ts) p last l =
    let go = elim t.live as (λ b. Links bytes p (cond b (free_of ts) (span_of t ∷ free_of ts)) last → target bytes (link_past (cond b p (t.at + 12)) ts) ≡ last)
    [ true ↦ (λ l. Links-last bytes ts p last l) | false ↦ (λ l. Links-last bytes ts (t.at + 12) last l.1) ] in
    go l

Links-append : (bytes : List ℕ) (xs ys : List Tile) (p : ℕ) (last last' : Option ℕ) → Links bytes p (free_of xs) last → Links bytes (link_past p xs) (free_of ys) last' → Links bytes p (free_of (xs ++ ys)) last'
Links-append bytes [] ys p last last' l l' = l'
Links-append bytes (t ∷ xs) ys p last last' l l' =
    let go = elim t.live as (λ b. Links bytes p (cond b (free_of xs) (span_of t ∷ free_of xs)) last → Links bytes (link_past (cond b p (t.at + 12)) xs) (free_of ys) last'
    → Links bytes p (cond b (free_of (xs ++ ys)) (span_of t ∷ free_of (xs ++ ys))) last')
    [ true ↦ (λ l l'. Links-append bytes xs ys p last last' l l') | false ↦ (λ l l'. (l.0, Links-append bytes xs ys (t.at + 12) last last' l.1 l')) ] in
    go l l'

-- ---- the whole heap

module _ (old new : List ℕ) (xs ms ns ys : List Tile) (lo hi : ℕ) (was : IsTiling 0 old (xs ++ (ms ++ ys))) (front : Fill heap_start xs lo) (middle : Fill lo ns hi)
    (back : Fill hi ys (length old)) (local : IsLocal old new (link_past 24 xs) lo hi) where
  pub link_low : link_past 24 xs + 4 ≤ lo
  link_low = link_past-low xs 24 heap_start lo (omega arith) front

  link_high : 24 ≤ link_past 24 xs
  link_high = ⊎_elim (λ h. omega arith) (λ h. omega arith) (link_past-cases xs 24 heap_start lo front)

  link_off : (link_past 24 xs + 4 ≤ heap_start) ⊎ (link_past 24 xs % 16 ≡ 12)
  link_off = link_past-off xs 24 heap_start lo heap_start (inl (omega arith)) refl front

  middle_le : lo ≤ hi
  middle_le = Fill-le ns lo hi middle

  retile_tiled : AreHeaders new (units_after 0 xs) ns → (hi + 8 ≤ length old → word new (hi + 4) ≡ units_after (units_after 0 xs) ns) → IsTiled new (xs ++ (ns ++ ys))
  retile_tiled ns_is next_is =
      let low = link_low in
      let le = middle_le in
      retiled old new (Misses (link_past 24 xs)) (part_misses (link_past 24 xs)) lo hi le local.kept xs ms ns ys was.tiled local.length_kept front middle back
      (each_front xs (link_past 24 xs) heap_start lo refl link_off front) (each_after ys (link_past 24 xs) hi (length old) (omega arith) back) ns_is next_is

  pub retile_links : Links new (link_past 24 xs) (free_of ns) (target old (link_past (link_past 24 xs) ms)) → Links new 24 (free_of (xs ++ (ns ++ ys))) None
  retile_links names =
      let link_below = link_low in
      let le = middle_le in
      let l = link_past 24 xs in
      let rest = Links-after old ms ys l None (Links-after old xs (ms ++ ys) 24 None was.free) in
      Links-changed old new xs (ms ++ ys) (ns ++ ys) 24 heap_start lo None None (omega arith) front (local.kept 24 l (inl (omega arith)) (inl (omega arith)) (inl (omega arith))) was.free
      (Links-append new ns ys l (target old (link_past l ms)) None names
      (Links-moved old new ys (link_past l ms) (link_past l ns) hi (length old) None (Links-last new ns l (target old (link_past l ms)) names)
      (local.kept (hi + 8) (length old) (inr (omega arith)) (inr (omega arith)) (inr (omega arith))) back rest))

  pub retile : AreHeaders new (units_after 0 xs) ns → (hi + 8 ≤ length old → word new (hi + 4) ≡ units_after (units_after 0 xs) ns)
      → Links new (link_past 24 xs) (free_of ns) (target old (link_past (link_past 24 xs) ms)) → IsTiling 0 new (xs ++ (ns ++ ys))
  retile ns_is next_is names =
      record { tiled = retile_tiled ns_is next_is; free = retile_links names }

  live_misses : (b : Span) → Contains (live_of (xs ++ ys)) b → Misses (link_past 24 xs) (b.at + 8) (end_of b)
  live_misses b c =
      let low = link_low in
      let le = middle_le in
      ⊎_elim (λ x. ⊎_elim (λ h. inl h) (λ h. inr (omega arith)) (live_beside_link xs 24 heap_start lo b (omega arith) front x))
      (λ y. let w = live_within ys hi (length old) b back y in inr (omega (arith, w.0)))
      (Contains-append_cases (live_of xs) (live_of ys) b (subst (λ l. Contains l b) (live_of-append xs ys) c))

  pub spares : Spares old new (xs ++ ys)
  spares =
      let le = middle_le in
      let low = link_low in
      let high = link_high in
      let start = Fill-le xs heap_start lo front in
      record {
        front_kept = local.kept 0 24 (inl (omega arith)) (inl (omega arith)) (inl (omega arith));
        back_kept = local.kept 28 heap_start (⊎_elim (λ h. inr (omega arith)) (λ h. inl (omega arith)) (link_past-cases xs 24 heap_start lo front)) (inl (omega arith)) (inl (omega arith));
        tiles_kept = spared_tiles old new (Misses (link_past 24 xs)) (part_misses (link_past 24 xs)) lo hi le local.kept xs ms ns ys was.tiled local.length_kept front middle back live_misses;
      }

-- ---- the position of a tile

-- a range outside a part that may change doesn't overlap a word in that part
pub out_of : (from to lo hi p : ℕ) → (to ≤ lo) ⊎ (hi ≤ from) → lo ≤ p → p + 4 ≤ hi → (to ≤ p) ⊎ (p + 4 ≤ from)
out_of from to lo hi p (inl h) low high = inl (omega arith)
out_of from to lo hi p (inr h) low high = inr (omega arith)

pub link_names : (xs : List Tile) (lo t : ℕ) → Fill heap_start xs lo → t % 16 ≡ 0 → t ≢ link_past 24 xs + 1
link_names xs lo t front even e =
    ⊎_elim (λ (h : link_past 24 xs + 4 ≤ 28). ⊎_elim (λ (k : link_past 24 xs ≡ 24). absurd (omega arith)) (λ (k : heap_start ≤ link_past 24 xs). absurd (omega arith)) (link_past-cases xs 24 heap_start lo front))
    (λ (h : link_past 24 xs % 16 ≡ 12). absurd (omega arith))
    (link_past-off xs 24 heap_start lo 28 (inl (omega arith)) refl front)

-- ---- single writes

pub IsLocal-trans : (a b c : List ℕ) (link lo hi : ℕ) → IsLocal a b link lo hi → IsLocal b c link lo hi → IsLocal a c link lo hi
IsLocal-trans a b c link lo hi x y = record {
  length_kept = y.length_kept ∙ x.length_kept;
  kept = λ from to off out next. Agrees-trans a b c from to (x.kept from to off out next) (y.kept from to off out next);
}

pub IsLocal-word : (bytes : List ℕ) (p n link lo hi : ℕ) → lo ≤ p → p + 4 ≤ hi → IsLocal bytes (set_word bytes p n) link lo hi
IsLocal-word bytes p n link lo hi low high = record {
  length_kept = length-set_number 4 bytes p n;
  kept = λ from to off out next. Agrees-set_number 4 bytes p n from to (out_of from to lo hi p out low high);
}

pub IsLocal-link : (bytes : List ℕ) (n link lo hi : ℕ) → IsLocal bytes (set_word bytes link n) link lo hi
IsLocal-link bytes n link lo hi = record {
  length_kept = length-set_number 4 bytes link n;
  kept = λ from to off out next. Agrees-set_number 4 bytes link n from to off;
}

pub IsLocal-next : (bytes : List ℕ) (p n link lo hi : ℕ) → p ≡ hi + 4 → IsLocal bytes (set_word bytes p n) link lo hi
IsLocal-next bytes p n link lo hi e = record {
  length_kept = length-set_number 4 bytes p n;
  kept = λ from to off out next. Agrees-set_number 4 bytes p n from to (⊎_elim (λ h. inl (omega arith)) (λ h. inr (omega arith)) next);
}

pub IsLocal-set_size : (bytes : List ℕ) (at u : ℕ) (live : Bool) (link lo hi : ℕ) → lo ≤ at → at + 4 ≤ hi → (at + 16 * u ≡ hi) ⊎ (at + 16 * u + 8 ≤ hi) → IsLocal bytes (set_size bytes at u live) link lo hi
IsLocal-set_size bytes at u live link lo hi low high (inl e) =
    IsLocal-trans bytes (set_word bytes at (size_word u live)) (set_size bytes at u live) link lo hi (IsLocal-word bytes at (size_word u live) link lo hi low high)
    (IsLocal-next (set_word bytes at (size_word u live)) (at + 16 * u + 4) u link lo hi (omega arith))
IsLocal-set_size bytes at u live link lo hi low high (inr h) =
    IsLocal-trans bytes (set_word bytes at (size_word u live)) (set_size bytes at u live) link lo hi (IsLocal-word bytes at (size_word u live) link lo hi low high)
    (IsLocal-word (set_word bytes at (size_word u live)) (at + 16 * u + 4) u link lo hi (omega arith) (omega arith))

-- a pointer word before the part that may change keeps its target
pub target-local : (old new : List ℕ) (link lo hi p : ℕ) → IsLocal old new link lo hi → lo ≤ hi → p + 4 ≤ lo → (p + 4 ≤ link) ⊎ (link + 4 ≤ p) → target new p ≡ target old p
target-local old new link lo hi p local le low beside =
    target-same old new p (number-agrees old new p (p + 4) 4 p (local.kept p (p + 4) beside (inl low) (inl (omega arith))) (omega arith) (omega arith))
