-- How images are evaluated: from a list of their blocks.
use Rattle.std.proofs.Common.{◌≡◌, ◌≢◌, ℕ, zero, suc, ◌+◌, ◌^◌, ◌<◌, ◌≤◌, ◌⊎◌, inl, inr, true, List, [], ◌∷◌, length, Some, sym, ap, ◌∙◌, subst, lit≤, arith}
use Rattle.std.proofs.lemmas.Bool.{cases_eq}
use Rattle.std.specs.List.{AllByRecursion}
use Rattle.seg_spec.specs.Pointer.{target}
use Rattle.seg_spec.specs.Types.{Form, Table, form_at, size, version_of, AreOfVersion, IsForm, IsTable}
use Rattle.seg_spec.specs.Heap.{Tile, Fill, AreHeaders, AreApart, live_of, free_of, live, gaps, gaps_of, HoldsGaps, IsHeap, heap_start}
use Rattle.seg_spec.specs.Reads.{spaced}
use Rattle.seg_spec.specs.Index.{Root, position_of, unique_word, AreRising, ListsUniques}
use Rattle.seg_spec.specs.Shared.{IsCounted}
use Rattle.seg_spec.specs.Sound.{Picture}
use Rattle.seg_spec.specs.Counting.{cells_in, owners_in, AreCounted}
use Rattle.seg_spec.proofs.Heap.TileLaws.{tiles-unique, gaps_between-live_of}

module _ (bytes : List ℕ) (ts : List Tile) (fill : Fill heap_start ts (length bytes)) (headers : AreHeaders bytes 0 ts) where
  pub live_evaluated : live bytes ≡ live_of ts
  unfolding live
  live_evaluated = ap live_of (tiles-unique bytes ts fill headers)

  pub gaps_evaluated : gaps bytes ≡ gaps_of (live_of ts) (length bytes)
  gaps_evaluated = ap (λ bs. gaps_of bs (length bytes)) live_evaluated

  pub heap_evaluated : (allocator : ℕ) → AreApart true ts → HoldsGaps allocator bytes (free_of ts) → length bytes ≤ 2 ^ 30 → IsHeap allocator bytes
  heap_evaluated allocator apart free small =
      let same = tiles-unique bytes ts fill headers in
      record {
        filled = rw same fill;
        headers = rw same headers;
        apart = rw same apart;
        free = subst (λ gs. HoldsGaps allocator bytes gs) (sym (gaps_evaluated ∙ gaps_between-live_of ts true heap_start (length bytes) fill apart)) free;
        small = small;
      }

  pub apart_evaluated : (allocator : ℕ) → IsHeap allocator bytes → AreApart true ts
  apart_evaluated allocator heap = subst (λ us. AreApart true us) (tiles-unique bytes ts fill headers) heap.apart

  pub free_evaluated : (allocator : ℕ) → IsHeap allocator bytes → HoldsGaps allocator bytes (gaps_of (live_of ts) (length bytes))
  free_evaluated allocator heap = subst (λ gs. HoldsGaps allocator bytes gs) gaps_evaluated heap.free

each_below : (P : ℕ → Type 0) (from n : ℕ) → AllByRecursion P (spaced from 1 n) → (T : ℕ) → from ≤ T → T < from + n → P T
each_below P from zero a T low high = absurd (omega arith)
each_below P from (suc n) a T low high = go (cases_eq T from) (λ l. each_below P (from + 1) n a.1 T l (omega arith))
  where
    go : (T ≡ from) ⊎ (T ≢ from) → (from + 1 ≤ T → P T) → P T
    go (inl e) rest = subst P (sym e) a.0
    go (inr ne) rest = rest (omega arith)

pub uniques_evaluated : (bytes : List ℕ) (uniques : List Root) → AllByRecursion (λ T. target bytes (unique_word T) ≡ position_of uniques T) (spaced 0 1 32) → AreRising 0 uniques → ListsUniques bytes uniques
uniques_evaluated bytes uniques words rising = record {
  words = λ T less. each_below (λ U. target bytes (unique_word U) ≡ position_of uniques U) 0 32 words T (omega arith) (omega arith);
  rising = rising;
}

-- without frozen objects and shared cells, the frozen objects are counted
pub unshared : (next : ℕ) (picture : Picture) → picture.frozen ≡ [] → cells_in (owners_in picture) ≡ [] → AreCounted next picture
unshared next picture none no_cell = record { counted = rw (none, no_cell) nothing; falling = rw none tt }
  where
    nothing : IsCounted next [] []
    nothing = record { distinct = tt; numbered = tt; named = tt; falling = tt; some = tt; counts = tt }

-- ---- a table of one type

pub one_type-valid : (form : Form) → IsForm 1 0 form → ((T : ℕ) → size (form ∷ []) T ≤ 4096) → IsTable (form ∷ [])
one_type-valid form fits sizes = record { few = lit≤ tt; forms = forms; sizes = sizes }
  where
    forms : (T : ℕ) (other : Form) → form_at (form ∷ []) T ≡ Some other → IsForm 1 T other
    forms zero other e =
        let same : form ≡ other = cc in
        subst (λ f. IsForm 1 0 f) same fits
    forms (suc T) other e = cc

pub numbers-valid : IsTable (Form.i64 ∷ [])
unfolding size
numbers-valid = one_type-valid Form.i64 tt sizes
  where
    sizes : (T : ℕ) → size (Form.i64 ∷ []) T ≤ 4096
    sizes zero = lit≤ tt
    sizes (suc T) = lit≤ tt

pub texts-valid : IsTable (Form.str ∷ [])
unfolding size
texts-valid = one_type-valid Form.str tt sizes
  where
    sizes : (T : ℕ) → size (Form.str ∷ []) T ≤ 4096
    sizes zero = lit≤ tt
    sizes (suc T) = lit≤ tt

-- ---- types of version 1

-- a table is of version 1 if each of its forms is
pub all_old : (table : Table) → AllByRecursion (λ form. version_of form ≤ 1) table → AreOfVersion 1 table
all_old table old = record { each = go table old }
  where
    go : (forms : Table) → AllByRecursion (λ form. version_of form ≤ 1) forms → (T : ℕ) (form : Form) → form_at forms T ≡ Some form → version_of form ≤ 1
    go [] a T form e = cc
    go (first ∷ forms) a zero form e =
        let same : first ≡ form = cc in
        subst (λ f. version_of f ≤ 1) same a.0
    go (first ∷ forms) a (suc T) form e = go forms a.1 T form e

pub numbers-old : AreOfVersion 1 (Form.i64 ∷ [])
numbers-old = all_old (Form.i64 ∷ []) (lit≤ tt, tt)

pub texts-old : AreOfVersion 1 (Form.str ∷ [])
texts-old = all_old (Form.str ∷ []) (lit≤ tt, tt)
