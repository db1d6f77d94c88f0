-- A heap given by its tiles, its allocated blocks and its gaps, for any allocator.
use Rattle.std.proofs.Common.{◌≡◌, ℕ, ◌+◌, ◌*◌, ◌<◌, ◌≤◌, Bool, true, false, List, [], ◌∷◌, ◌++◌, length, min, cond, ltb, refl, sym, ap, ◌∙◌, subst, arith, ⊎_elim}
use Rattle.std.specs.Prelude.{Contains}
use Rattle.std.proofs.lemmas.Bool.Decides.{nat_tests}
use Rattle.std.proofs.lemmas.List.Elements.{Contains-append_left, Contains-append_right, Contains-append_cases}
use Rattle.seg_spec.specs.Heap.{Span, Tile, span_of, end_of, Fill, AreHeaders, AreApart, HoldsGaps, live_of, free_of, gaps_between, heap_start, tiles, live, gaps, IsHeap, with_block, Keeps}
use Rattle.seg_spec.specs.Bytes.{Agrees}
use Rattle.seg_spec.specs.Pointer.{target}
use Rattle.seg_spec.proofs.BytesLaws.{number-agrees, Agrees-same, Agrees-trans}
use Rattle.seg_spec.proofs.PointerLaws.{target-same}
use Rattle.seg_spec.proofs.Heap.TileLaws.{Fill-le, tiles-unique, gaps_between-live_of, live_of-append}
use Rattle.seg_block.specs.Tiling.{IsTiling, Spares}

-- ---- between the two views

gaps_are : (bytes : List ℕ) (ts : List Tile) → tiles bytes ≡ ts → Fill heap_start ts (length bytes) → AreApart true ts → gaps bytes ≡ free_of ts
unfolding live
gaps_are bytes ts is f a = ap (λ l. gaps_between heap_start (live_of l) (length bytes)) is ∙ gaps_between-live_of ts true heap_start (length bytes) f a

live_are : (bytes : List ℕ) (ts : List Tile) → tiles bytes ≡ ts → live bytes ≡ live_of ts
unfolding live
live_are bytes ts is = ap live_of is

pub gaps_of_heap : {n : ℕ} (bytes : List ℕ) → IsHeap n bytes → gaps bytes ≡ free_of (tiles bytes)
gaps_of_heap bytes h = gaps_are bytes (tiles bytes) refl h.filled h.apart

pub tiling_of_heap : {n : ℕ} (bytes : List ℕ) → IsHeap n bytes → IsTiling n bytes (tiles bytes)
tiling_of_heap {n} bytes h = record {
  tiled = record { small = h.small; filled = h.filled; headers = h.headers };
  free = subst (λ gs. HoldsGaps n bytes gs) (gaps_of_heap bytes h) h.free;
}

-- the heap of bytes that these tiles fill, if no two free ones are adjacent
pub record IsTiledHeap (n : ℕ) (bytes : List ℕ) (ts : List Tile) : Type 0 where
  pub heap : IsHeap n bytes
  pub live_is : live bytes ≡ live_of ts
  pub gaps_is : gaps bytes ≡ free_of ts

pub heap_of_tiling : {n : ℕ} (bytes : List ℕ) (ts : List Tile) → IsTiling n bytes ts → AreApart true ts → IsTiledHeap n bytes ts
heap_of_tiling {n} bytes ts t apart =
    let is : tiles bytes ≡ ts = tiles-unique bytes ts t.tiled.filled t.tiled.headers in
    let free_is = gaps_are bytes ts is t.tiled.filled apart in
    record {
      heap = record {
        filled = subst (λ l. Fill heap_start l (length bytes)) (sym is) t.tiled.filled;
        headers = subst (λ l. AreHeaders bytes 0 l) (sym is) t.tiled.headers;
        apart = subst (λ l. AreApart true l) (sym is) apart;
        free = subst (λ gs. HoldsGaps n bytes gs) (sym free_is) t.free;
        small = t.tiled.small;
      };
      live_is = live_are bytes ts is;
      gaps_is = free_is;
    }

-- ---- the allocated blocks

less : (a b : ℕ) → a < b → ltb a b ≡ true
less a b h = grind (arith, nat_tests)

no_less : (a b : ℕ) → b ≤ a → ltb a b ≡ false
no_less a b h = grind (arith, nat_tests)

with_block-above : (b : Span) (ys : List Tile) (from to : ℕ) → b.at < from → Fill from ys to → with_block b (live_of ys) ≡ b ∷ live_of ys
with_block-above b [] from to h f = refl
with_block-above b (t ∷ ys) from to h f =
    elim t.live as (λ l. with_block b (cond l (span_of t ∷ live_of ys) (live_of ys)) ≡ b ∷ cond l (span_of t ∷ live_of ys) (live_of ys))
    [ true ↦ rw (less b.at t.at (omega (arith, f.0))) refl | false ↦ with_block-above b ys (from + 16 * t.units) to (omega arith) f.2 ]

pub with_block-between : (b : Span) (xs ys : List Tile) (from hi to : ℕ) → Fill from xs b.at → b.at < hi → Fill hi ys to → with_block b (live_of (xs ++ ys)) ≡ live_of xs ++ b ∷ live_of ys
with_block-between b [] ys from hi to f h k = with_block-above b ys hi to h k
with_block-between b (t ∷ xs) ys from hi to f h k =
    let le = Fill-le xs (from + 16 * t.units) b.at f.2 in
    let rest = with_block-between b xs ys (from + 16 * t.units) hi to f.2 h k in
    elim t.live as (λ l. with_block b (cond l (span_of t ∷ live_of (xs ++ ys)) (live_of (xs ++ ys))) ≡ cond l (span_of t ∷ live_of xs) (live_of xs) ++ b ∷ live_of ys)
    [ true ↦ rw (no_less b.at t.at (omega (arith, f.0, f.1))) (ap (λ l. span_of t ∷ l) rest) | false ↦ rest ]

pub AreApart-live : (live : Bool) (ts : List Tile) → AreApart live ts → AreApart true ts
AreApart-live live [] a = tt
AreApart-live live (t ∷ ts) a = (λ e. absurd (no e), a.1)
  where
    no : true ≡ false → ⊥
    no e = cc

-- ---- what is kept

pub Keeps-same : (bytes : List ℕ) → Keeps bytes bytes
Keeps-same bytes = record {
  length_kept = refl;
  front_kept = Agrees-same bytes 0 24;
  back_kept = Agrees-same bytes 28 heap_start;
  blocks_kept = λ b c _ _ _. Agrees-same bytes (b.at + 8) (b.at + 16 * min b.units c.units);
}

pub Spares-trans : (a b c : List ℕ) (ts : List Tile) → Spares a b ts → Spares b c ts → Spares a c ts
Spares-trans a b c ts x y = record {
  front_kept = Agrees-trans a b c 0 24 x.front_kept y.front_kept;
  back_kept = Agrees-trans a b c 28 heap_start x.back_kept y.back_kept;
  tiles_kept = λ s h. Agrees-trans a b c (s.at + 8) (end_of s) (x.tiles_kept s h) (y.tiles_kept s h);
}

-- which bytes are spared depends only on the allocated tiles
pub Spares-same : (a b : List ℕ) (ts us : List Tile) → live_of us ≡ live_of ts → Spares a b ts → Spares a b us
Spares-same a b ts us e s = record {
  front_kept = s.front_kept;
  back_kept = s.back_kept;
  tiles_kept = λ x h. s.tiles_kept x (subst (λ l. Contains l x) e h);
}

-- some tiles in the middle may be left out
pub Spares-without : (a b : List ℕ) (xs ms ys : List Tile) → Spares a b (xs ++ (ms ++ ys)) → Spares a b (xs ++ ys)
Spares-without a b xs ms ys s = record {
  front_kept = s.front_kept;
  back_kept = s.back_kept;
  tiles_kept = λ x h. s.tiles_kept x (subst (λ l. Contains l x) (sym (live_of-append xs (ms ++ ys)))
      (⊎_elim (λ k. Contains-append_left (live_of xs) (live_of (ms ++ ys)) x k)
      (λ k. Contains-append_right (live_of xs) (live_of (ms ++ ys)) x (subst (λ l. Contains l x) (sym (live_of-append ms ys)) (Contains-append_right (live_of ms) (live_of ys) x k)))
      (Contains-append_cases (live_of xs) (live_of ys) x (subst (λ l. Contains l x) (live_of-append xs ys) h))));
}

-- pointers in bytes that agree have the same targets
pub target-agrees : (old new : List ℕ) (from to at : ℕ) → Agrees old new from to → from ≤ at → at + 4 ≤ to → target new at ≡ target old at
target-agrees old new from to at same low high = target-same old new at (number-agrees old new from to 4 at same low high)
