use Rattle.std.proofs.Common.{◌≡◌, ℕ, ◌+◌, ◌*◌, ◌%◌, ◌∙◌, refl, sym, subst, List, [], ◌∷◌, map, zero-add, arith}
use Rattle.seg_spec.specs.Types.{Table, size, IsTable}
use Rattle.seg_spec.specs.Bytes.{put, slice}
use Rattle.seg_spec.specs.Cells.{IsWithin, Shifts}
use Rattle.seg_spec.specs.Heap.{IsHeap}
use Rattle.seg_spec.specs.Owning.{StandsBeside}
use Rattle.seg_spec.specs.Parts.{PersistEach}
use Rattle.seg_spec.specs.Reads.{spaced, places_of, items, HoldsEach}
use Rattle.seg_spec.specs.Value.{Values}
use Rattle.seg_spec.proofs.Values.CellChangeLaws.{size_aligned}
use Rattle.seg_spec.proofs.Values.CellShiftLaws.{shifted_persist}
use Rattle.seg_cells.specs.Entries.{IsEntryOf}
use Rattle.seg_value.specs.Stored.{Stored}
use Rattle.seg_cells.proofs.Shifts.{moved_changes, moved_items, stands_within}
use Rattle.seg_value.proofs.heap.Heap.shift.Goals as goal

sized : (old new : List ℕ) (table : Table) (T from to n k : ℕ) → k ≡ 0 + size table T
    → (IsWithin old from (n * k) → IsWithin old to (n * k) → Shifts old new table 0 T k from to n)
    → IsWithin old from (n * size table T) → IsWithin old to (n * size table T) → Shifts old new table 0 T (size table T) from to n
sized old new table T from to n k e f a b =
    let is : k ≡ size table T = e ∙ zero-add (size table T) in
    rw is at (f (rw is a) (rw is b))

no_before : (ps : List ℕ) → map (λ p. p + 0) ps ≡ ps
no_before [] = refl
no_before (p ∷ ps) = let e : p + 0 ≡ p = omega arith in rw (e, no_before ps) refl

-- values that were moved persist
moved_parts : (old new : List ℕ) (table : Table) → IsTable table → (T from to n : ℕ) → Shifts old new table 0 T (size table T) from to n → IsWithin old from (n * size table T)
    → (allocator home : ℕ) (vs : Values) (blocks : List ℕ) → IsHeap allocator old → StandsBeside old home to (n * size table T) blocks → to % 8 ≡ 0
    → HoldsEach old table (items table from T n) vs blocks → PersistEach old new table (items table from T n) (items table to T n)
moved_parts old new table valid T from to n s from_in allocator home vs blocks heap stands even h =
    let each = size table T in
    let here = no_before (spaced from each n) in
    let there = no_before (spaced to each n) in
    let raw = put old to (slice old from (n * each)) in
    let moved = shifted_persist old raw new table valid s.distance 0 each T n from to refl from_in s.changed allocator home vs blocks heap stands (omega arith) s.back even (size_aligned table valid T) refl
    (subst (λ ps. HoldsEach old table (places_of T ps) vs blocks) (sym here) h) in
    subst (λ ps. PersistEach old new table (places_of T ps) (items table to T n)) here
    (subst (λ ps. PersistEach old new table (places_of T (map (λ p. p + 0) (spaced from each n))) (places_of T ps)) there moved)

pub returns-clause-changes : goal.returns-clause-changes
returns-clause-changes g c = λ from_in to_in.
    let entry = subst (λ (s : Stored). IsEntryOf s.types 0 c.args.t c.object.result.entry) c.self.view_is (rw c.types.ensures at c.object.ensures.content.entry_is) in
    let valid = subst (λ (s : Stored). IsTable s.types) c.self.view_is (rw c.types.ensures at c.object.ensures.table) in
    let s = sized c.args.self.now.window.bytes c.shift_entries.new.self.window.bytes c.args.self.now.types c.args.t c.args.from c.args.to c.args.n
    c.object.result.entry.size entry.size_is (c.shift_entries.ensures.shifted c.args.t 0 entry) from_in to_in in
    moved_changes c.args.self.now.window.bytes c.shift_entries.new.self.window.bytes c.args.self.now.types valid 0 c.args.t
    (size c.args.self.now.types c.args.t) c.args.from c.args.to c.args.n s from_in

pub returns-clause-values : goal.returns-clause-values
returns-clause-values g c = λ allocator home vs blocks heap even from_in stands h.
    let entry = subst (λ (s : Stored). IsEntryOf s.types 0 c.args.t c.object.result.entry) c.self.view_is (rw c.types.ensures at c.object.ensures.content.entry_is) in
    let valid = subst (λ (s : Stored). IsTable s.types) c.self.view_is (rw c.types.ensures at c.object.ensures.table) in
    let to_in = stands_within c.args.self.now.window.bytes allocator home c.args.to (c.args.n * size c.args.self.now.types c.args.t) blocks heap stands in
    let s = sized c.args.self.now.window.bytes c.shift_entries.new.self.window.bytes c.args.self.now.types c.args.t c.args.from c.args.to c.args.n
    c.object.result.entry.size entry.size_is (c.shift_entries.ensures.shifted c.args.t 0 entry) from_in to_in in
    moved_items c.args.self.now.window.bytes c.shift_entries.new.self.window.bytes c.args.self.now.types valid c.args.t
    c.args.from c.args.to c.args.n s from_in allocator home vs blocks heap stands even h

pub returns-clause-parts : goal.returns-clause-parts
returns-clause-parts g c = λ allocator home vs blocks heap even from_in stands h.
    let entry = subst (λ (s : Stored). IsEntryOf s.types 0 c.args.t c.object.result.entry) c.self.view_is (rw c.types.ensures at c.object.ensures.content.entry_is) in
    let valid = subst (λ (s : Stored). IsTable s.types) c.self.view_is (rw c.types.ensures at c.object.ensures.table) in
    let to_in = stands_within c.args.self.now.window.bytes allocator home c.args.to (c.args.n * size c.args.self.now.types c.args.t) blocks heap stands in
    let s = sized c.args.self.now.window.bytes c.shift_entries.new.self.window.bytes c.args.self.now.types c.args.t c.args.from c.args.to c.args.n
    c.object.result.entry.size entry.size_is (c.shift_entries.ensures.shifted c.args.t 0 entry) from_in to_in in
    moved_parts c.args.self.now.window.bytes c.shift_entries.new.self.window.bytes c.args.self.now.types valid c.args.t
    c.args.from c.args.to c.args.n s from_in allocator home vs blocks heap stands even h
