-- Moving entries with a value, from how each step changes the bytes.
use Rattle.std.proofs.Common.{◌≡◌, ℕ, ◌+◌, ◌*◌, ◌%◌, ◌^◌, ◌≤◌, List, [], ◌∷◌, map, refl, length, sym, ap, ◌∙◌, subst, arith}
use Rattle.seg_spec.specs.Bytes.{slice, put, ChangesOnly}
use Rattle.seg_spec.specs.Types.{Table, IsTable, size}
use Rattle.seg_spec.specs.Value.{Values}
use Rattle.seg_spec.specs.Heap.{IsHeap, live, heap_start}
use Rattle.seg_spec.specs.Sound.{positions}
use Rattle.seg_spec.specs.Owning.{StandsBeside}
use Rattle.seg_spec.proofs.Heap.LiveBlockLaws.{there, LiesIn, live-lie}
use Rattle.seg_spec.proofs.Values.CellChangeLaws.{size_aligned}
use Rattle.seg_spec.proofs.Values.CellShiftLaws.{shift_changes, shifted}
use Rattle.seg_spec.specs.Reads.{spaced, places_of, items, HoldsEach}
use Rattle.seg_spec.specs.Cells.{ChangesEach, IsFurther, Shifts, IsWithin}
use Rattle.seg_spec.proofs.BytesLaws.{length-put}
use Rattle.seg_cells.specs.declared.entry.Held.TheVariants as held

pub same_type : (x y : ℕ) → held.Value x ≡ held.Value y → x ≡ y
same_type x y e = cc

pub shifts_by : (old raw new : List ℕ) (table : Table) (U before b each from to n m distance : ℕ) → m ≡ n * each → raw ≡ put old to (slice old from m)
    → b ≡ before → (to + distance) % 2 ^ 32 ≡ from
    → ChangesEach (λ a c at form. IsFurther a c distance at form) raw new table U to (n * each) (map (λ p. p + b) (spaced to each n))
    → Shifts old new table before U each from to n
shifts_by old raw new table U before b each from to n m distance m_is raw_is before_is back changed =
    let raw_is' : raw ≡ put old to (slice old from (n * each)) = raw_is ∙ ap (λ k. put old to (slice old from k)) m_is in
    record { distance = distance; back = back; changed = rw (raw_is', before_is) at changed }

pub raw_within : (old raw : List ℕ) (from to m k : ℕ) → raw ≡ put old to (slice old from m) → IsWithin old to k → IsWithin raw to k
raw_within old raw from to m k raw_is w =
    let long : length raw ≡ length old = ap length raw_is ∙ length-put old to (slice old from m) in
    record { fits = omega (arith, w.fits); small = omega (arith, w.small) }

-- ---- moving whole values

module _ (old new : List ℕ) (table : Table) (valid : IsTable table) (before T each from to n : ℕ) (s : Shifts old new table before T each from to n) (from_in : IsWithin old from (n * each)) where
  raw : List ℕ
  raw = put old to (slice old from (n * each))

  pub moved_changes : ChangesOnly old new to (n * each)
  unfolding raw
  moved_changes = shift_changes old raw new table valid s.distance before each T n from to refl from_in s.changed

  pub moved_values : (allocator home : ℕ) (vs : Values) (blocks : List ℕ) → IsHeap allocator old → StandsBeside old home to (n * each) blocks → before + size table T ≤ each → to % 8 ≡ 0 → each % 8 ≡ 0 → before % 8 ≡ 0
      → HoldsEach old table (places_of T (map (λ p. p + before) (spaced from each n))) vs blocks → HoldsEach new table (places_of T (map (λ p. p + before) (spaced to each n))) vs blocks
  unfolding raw
  moved_values allocator home vs blocks heap stands fits even e8 b8 h = shifted old raw new table valid s.distance before each T n from to refl from_in s.changed allocator home vs blocks heap stands fits s.back even e8 b8 h

no_before : (ps : List ℕ) → map (λ p. p + 0) ps ≡ ps
no_before [] = refl
no_before (p ∷ ps) = let e : p + 0 ≡ p = omega arith in rw (e, no_before ps) refl

-- values without bytes before them were moved
pub moved_items : (old new : List ℕ) (table : Table) → IsTable table → (T from to n : ℕ) → Shifts old new table 0 T (size table T) from to n → IsWithin old from (n * size table T)
    → (allocator home : ℕ) (vs : Values) (blocks : List ℕ) → IsHeap allocator old → StandsBeside old home to (n * size table T) blocks → to % 8 ≡ 0
    → HoldsEach old table (items table from T n) vs blocks → HoldsEach new table (items table to T n) vs blocks
moved_items old new table valid T from to n s from_in allocator home vs blocks heap stands even h =
    let e8 = size_aligned table valid T in
    let there = no_before (spaced to (size table T) n) in
    let here = no_before (spaced from (size table T) n) in
    let h' = subst (λ ps. HoldsEach old table (places_of T ps) vs blocks) (sym here) h in
    subst (λ ps. HoldsEach new table (places_of T ps) vs blocks) there (moved_values old new table valid 0 T (size table T) from to n s from_in allocator home vs blocks heap stands (omega arith) even e8 refl h')

-- bytes of an allocated block lie in the segment
pub stands_within : (bytes : List ℕ) (allocator home at n : ℕ) (blocks : List ℕ) → IsHeap allocator bytes → StandsBeside bytes home at n blocks → IsWithin bytes at n
stands_within bytes allocator home at n blocks heap s =
    let l = there (LiesIn bytes heap_start (length bytes)) home (positions (live bytes)) (live-lie bytes allocator heap) s.home_live in
    record { fits = omega (arith, s.inside.high, l.high); small = heap.small }
