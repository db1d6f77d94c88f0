-- A walk from tile to tile, and what it counts.
use Rattle.std.proofs.Common.{◌≡◌, ℕ, ◌+◌, ◌-◌, ◌*◌, ◌%◌, ◌≤◌, ◌↔◌, eqb, true, false, Bool, max, List, [], ◌∷◌, length, cond, Option, None, refl, sym, ap, ◌∙◌, subst, arith}
use Rattle.std.proofs.lemmas.Bool.Decides.{nat_tests}
use Rattle.std.specs.Prelude.{IsSomeAnd}
use Rattle.seg_spec.specs.Heap.{Span, span, Tile, span_of, units_at, is_live_at, tiles, Fill, AreHeaders, AreApart, IsHeap, live, live_of, free_of, gaps, heap_start}
use Rattle.seg_spec.proofs.Heap.TileLaws.{Fill-le}
use Rattle.seg_spec.proofs.Heap.GapOrderLaws.{gaps-free}
use Rattle.seg_block.specs.declared.block.Block.{Block}
use Rattle.seg_block.specs.Blocks.{IsSized, Covers}
use Rattle.seg_manager.specs.Gaps.{bytes_in_gaps, largest_of}

-- these tiles fill the bytes from a position on
pub record Rest (bytes : List ℕ) (at : ℕ) (ts : List Tile) : Type 0 where
  pub aligned : at % 16 ≡ 0
  pub fill : Fill at ts (length bytes)
  pub before : ℕ
  pub headers : AreHeaders bytes before ts

-- the first of these tiles has its size in its header
pub first_sized : (bytes : List ℕ) (at : ℕ) (t : Tile) (ts : List Tile) → Rest bytes at (t ∷ ts) → IsSized bytes (span at t.units)
first_sized bytes at t ts r =
    let le = Fill-le ts (at + 16 * t.units) (length bytes) r.fill.2 in
    record { aligned = r.aligned; large = r.fill.1; inside = le; size_is = ap (units_at bytes) (sym r.fill.0) ∙ r.headers.0.units_is }

pub next_rest : (bytes : List ℕ) (at : ℕ) (t : Tile) (ts : List Tile) → Rest bytes at (t ∷ ts) → Rest bytes (at + 16 * t.units) ts
next_rest bytes at t ts r = let a = r.aligned in record { aligned = omega arith; fill = r.fill.2; before = t.units; headers = r.headers.1 }

-- the walk reads the first of these tiles
pub record Reads (bytes : List ℕ) (at units : ℕ) (ts : List Tile) : Type 0 where
  pub tile : Tile
  pub others : List Tile
  pub tiles_are : ts ≡ tile ∷ others
  pub at_is : tile.at ≡ at
  pub units_is : tile.units ≡ units
  pub live_is : is_live_at bytes at ≡ tile.live
  pub rest : Rest bytes (at + 16 * units) others

pub reads_tile : (bytes : List ℕ) (at units : ℕ) (ts : List Tile) → Rest bytes at ts → 2 ≤ units → at + 16 * units ≤ length bytes → units ≡ units_at bytes at → Reads bytes at units ts
reads_tile bytes at units [] r two fits is = absurd (let f = r.fill in omega arith)
reads_tile bytes at units (t ∷ ts) r two fits is =
    let same : t.units ≡ units = sym r.headers.0.units_is ∙ ap (units_at bytes) r.fill.0 ∙ sym is in
    record {
      tile = t;
      others = ts;
      tiles_are = refl;
      at_is = r.fill.0;
      units_is = same;
      live_is = ap (is_live_at bytes) (sym r.fill.0) ∙ r.headers.0.live_is;
      rest = subst (λ u. Rest bytes (at + 16 * u) ts) same (next_rest bytes at t ts r);
    }

-- if no block is read, there is no tile
pub reads_none : (bytes : List ℕ) (at : ℕ) (ts : List Tile) (o : Option Block) → Rest bytes at ts → o ≡ None → ((g : Span) → at ≡ g.at → IsSized bytes g → IsSomeAnd o (λ f. Covers f g)) → ts ≡ []
reads_none bytes at [] o r e read = refl
reads_none bytes at (t ∷ ts) o r e read = absurd (let no : IsSomeAnd {T = Block} None (λ f. Covers f (span at t.units)) = rw e at (read (span at t.units) refl (first_sized bytes at t ts r)) in no)

-- at the end of the bytes there is no tile
pub rest_none : (bytes : List ℕ) (at : ℕ) (ts : List Tile) → Rest bytes at ts → length bytes ≤ at → ts ≡ []
rest_none bytes at [] r le = refl
rest_none bytes at (t ∷ ts) r le = absurd (let more = Fill-le ts (at + 16 * t.units) (length bytes) r.fill.2 in let two = r.fill.1 in omega arith)

-- ---- counting

-- the counts up to a position; the tiles from there on add the rest
pub record Counted (bytes : List ℕ) (at total largest : ℕ) : Type 0 where
  pub others : List Tile
  pub rest : Rest bytes at others
  pub total_is : total + bytes_in_gaps (free_of others) ≡ bytes_in_gaps (free_of (tiles bytes))
  pub largest_is : max largest (largest_of (free_of others)) ≡ largest_of (free_of (tiles bytes))
  pub few : total ≤ at

free_first : (t : Tile) (ts : List Tile) → t.live ≡ false → free_of (t ∷ ts) ≡ span_of t ∷ free_of ts
free_first t ts e = ap (λ b. cond b (free_of ts) (span_of t ∷ free_of ts)) e

live_first : (t : Tile) (ts : List Tile) → t.live ≡ true → free_of (t ∷ ts) ≡ free_of ts
live_first t ts e = ap (λ b. cond b (free_of ts) (span_of t ∷ free_of ts)) e

module _ (bytes : List ℕ) (at total largest units : ℕ) (k : Counted bytes at total largest) (two : 2 ≤ units) (fits : at + 16 * units ≤ length bytes) (is : units ≡ units_at bytes at) where
  it : Reads bytes at units k.others
  it = reads_tile bytes at units k.others k.rest two fits is

  free_is : free_of k.others ≡ free_of (it.tile ∷ it.others)
  free_is = ap free_of it.tiles_are

  pub passed_live : is_live_at bytes at ≡ true → Counted bytes (at + 16 * units) total largest
  passed_live e =
      let same : free_of k.others ≡ free_of it.others = free_is ∙ live_first it.tile it.others (sym it.live_is ∙ e) in
      let few = k.few in
      record { others = it.others; rest = it.rest; total_is = rw (← same) k.total_is; largest_is = rw (← same) k.largest_is; few = omega arith }

  pub passed_free : is_live_at bytes at ≡ false → Counted bytes (at + 16 * units) (total + 16 * units) (max largest (16 * units))
  passed_free e =
      let same : free_of k.others ≡ span_of it.tile ∷ free_of it.others = free_is ∙ free_first it.tile it.others (sym it.live_is ∙ e) in
      let t = k.total_is in
      let l = k.largest_is in
      let few = k.few in
      let more : bytes_in_gaps (free_of k.others) ≡ 16 * it.tile.units + bytes_in_gaps (free_of it.others) = ap bytes_in_gaps same in
      let larger : largest_of (free_of k.others) ≡ max (16 * it.tile.units) (largest_of (free_of it.others)) = ap largest_of same in
      let units_are = it.units_is in
      record { others = it.others; rest = it.rest; total_is = omega arith; largest_is = omega arith; few = omega arith }

-- the same for equal arguments
pub counted_at : (bytes : List ℕ) (at at' total total' largest largest' : ℕ) → at' ≡ at → total' ≡ total → largest' ≡ largest → Counted bytes at total largest → Counted bytes at' total' largest'
counted_at bytes at at' total total' largest largest' p t l k = rw (p, t, l) k

pub counted_all : (allocator : ℕ) (bytes : List ℕ) (at total largest : ℕ) (o : Option Block) → IsHeap allocator bytes → Counted bytes at total largest → o ≡ None
    → ((g : Span) → at ≡ g.at → IsSized bytes g → IsSomeAnd o (λ f. Covers f g)) → (total ≡ bytes_in_gaps (gaps bytes)) × (largest ≡ largest_of (gaps bytes))
counted_all allocator bytes at total largest o heap k e read =
    let none = reads_none bytes at k.others o k.rest e read in
    let all = gaps-free bytes allocator heap in
    let t = rw none at k.total_is in
    let l = rw none at k.largest_is in
    (rw all (omega arith), rw all (omega arith))

-- ---- a heap with one gap

largest_low : (ts : List Tile) (from to : ℕ) → Fill from ts to → from + largest_of (free_of ts) ≤ to
largest_low [] from to f = omega arith
largest_low (t ∷ ts) from to f =
    let rest = largest_low ts (from + 16 * t.units) to f.2 in
    let le = Fill-le ts (from + 16 * t.units) to f.2 in
    elim t.live as (λ b. from + largest_of (cond b (free_of ts) (span_of t ∷ free_of ts)) ≤ to) [ true ↦ omega arith | false ↦ omega arith ]

none_left : (ts : List Tile) (from to : ℕ) → Fill from ts to → to ≤ from → live_of ts ≡ []
none_left [] from to f le = refl
none_left (t ∷ ts) from to f le = absurd (let more = Fill-le ts (from + 16 * t.units) to f.2 in let two = f.1 in omega arith)

pub whole_free : (ts : List Tile) (from to : ℕ) → Fill from ts to → from + largest_of (free_of ts) ≡ to → live_of ts ≡ []
whole_free [] from to f = λ e. refl
whole_free (t ∷ ts) from to f =
    let low = largest_low ts (from + 16 * t.units) to f.2 in
    let two = f.1 in
    let none = none_left ts (from + 16 * t.units) to f.2 in
    elim t.live as (λ b. from + largest_of (cond b (free_of ts) (span_of t ∷ free_of ts)) ≡ to → cond b (span_of t ∷ live_of ts) (live_of ts) ≡ []) [
      | true ↦ (λ e. absurd (omega arith))
      | false ↦ (λ e. none (omega arith))
    ]

not_empty : {X : Type 0} (x : X) (xs : List X) → x ∷ xs ≡ [] → ⊥
not_empty x xs e = cc

first_live : (t : Tile) (ts : List Tile) → t.live ≡ true → live_of (t ∷ ts) ≡ [] → ⊥
first_live t ts on e = not_empty (span_of t) (live_of ts) (sym (ap (λ b. cond b (span_of t ∷ live_of ts) (live_of ts)) on) ∙ e)

pub free_whole : (ts : List Tile) (from to : ℕ) → Fill from ts to → AreApart true ts → live_of ts ≡ [] → from + largest_of (free_of ts) ≡ to
free_whole [] from to f a = λ e. omega arith
free_whole (t ∷ []) from to f a =
    let end = f.2 in
    elim t.live as (λ b. cond b (span_of t ∷ []) [] ≡ [] → from + largest_of (cond b [] (span_of t ∷ [])) ≡ to) [ true ↦ (λ e. absurd (not_empty (span_of t) [] e)) | false ↦ (λ e. omega arith) ]
free_whole (t ∷ s ∷ ts) from to f a = λ e. absurd (go e t.live refl)
  where
    go : live_of (t ∷ s ∷ ts) ≡ [] → (b : Bool) → t.live ≡ b → ⊥
    go e true on = first_live t (s ∷ ts) on e
    go e false off = first_live s ts (a.1.0 off) (sym (ap (λ b. cond b (span_of t ∷ live_of (s ∷ ts)) (live_of (s ∷ ts))) off) ∙ e)

same_test : (l n : ℕ) → eqb l n ≡ true → l ≡ n
same_test l n e = grind (arith, nat_tests)

test_same : (l n : ℕ) → l ≡ n → eqb l n ≡ true
test_same l n e = grind (arith, nat_tests)

-- the largest gap is the whole heap if nothing is allocated
pub one_gap : (allocator : ℕ) (bytes : List ℕ) (largest size : ℕ) → IsHeap allocator bytes → largest ≡ largest_of (gaps bytes) → size ≡ length bytes - heap_start → (eqb largest size ≡ true) ↔ (live bytes ≡ [])
unfolding live
one_gap allocator bytes largest size heap largest_is size_is =
    let long = Fill-le (tiles bytes) heap_start (length bytes) heap.filled in
    let all : largest ≡ largest_of (free_of (tiles bytes)) = largest_is ∙ ap largest_of (gaps-free bytes allocator heap) in (
      λ e. let same = same_test largest size e in whole_free (tiles bytes) heap_start (length bytes) heap.filled (omega arith),
      λ none. let whole = free_whole (tiles bytes) heap_start (length bytes) heap.filled heap.apart none in test_same largest size (omega arith),
    )
