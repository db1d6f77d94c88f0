use Rattle.std.proofs.Common.{◌≡◌, ◌++◌, ℕ, List, Option, Some, None, refl, sym, ap, ◌∙◌, subst, arith, length}
use Rattle.std.specs.Prelude.{slice_get, true, false, [], ◌∷◌}
use Rattle.seg_spec.specs.Types.{Form, Table, form_at, fields_of, fields_by}
use Rattle.seg_spec.specs.Window.{with_bytes}
use Rattle.seg_spec.specs.Reads.{Place, fields}
use Rattle.seg_spec.specs.Owing.{IsPart}
use Rattle.seg_spec.proofs.Deallocation.PartDestructionLaws.{struct_parts, fields_inside, none_joined}
use Rattle.seg_layout.specs.Forms.{map_option, cell_of, has_cells}
use Rattle.seg_cells.specs.Places.{place_of}
use Rattle.seg_value.specs.Stored.{Stored}
use Rattle.seg_cells.specs.Cells.{cells_of}
use Rattle.seg_cells.specs.declared.cells.Cells.TheVariants as cells
use Rattle.seg_cells.proofs.CellCases.{struct_of, no_pointers, one_cell}
use Rattle.seg_value.specs.Waiting.{AddsIn}
use Rattle.seg_value.proofs.Links.{without_home}
use Rattle.seg_value.proofs.Nulls.{no_cells_own}
use Rattle.seg_value.proofs.WaitingBlockLaws.{nothing_added, next_field_joined, past_fields_joined, all_fields_joined}
use Rattle.seg_value.proofs.pending.Pending.+add_value.Goals as goal
use Rattle.seg_value.proofs.pending.Pending.+add_value.Goals.{in_default, in-Some+in-Number, in-Some+in-Pointer, in-Some+in-Fields}

bytes_in : (s t : Stored) → s ≡ t → s.window.bytes ≡ t.window.bytes
bytes_in s t e = ap (λ (r : Stored). r.window.bytes) e

pub loop-index-init : goal.loop-index-init
loop-index-init g t c = record {
  window = refl;
  types = refl;
  added = λ home xs ns Us inside part f allocator ys names kept theirs final valid w fits.
      let heap = c.args.heap.now in
      none_joined allocator heap.window.bytes heap.types valid home xs ys names kept theirs final fits c.args.self.now.first (fields heap.types c.args.place.at Us) ns w
      (fields_inside heap.window.bytes heap.types valid home (place_of c.args.place) Us f inside) (struct_parts heap.window.bytes heap.types valid (place_of c.args.place) xs ns Us f part);
}

-- a number adds no block, and a cell adds its own
number_adds : (bytes : List ℕ) (table : Table) (part : Place) (first : Option ℕ) → cells_of (form_at table part.type) ≡ cells.Number → (home : ℕ) (xs ns : List ℕ) → IsPart bytes table part xs ns
    → AddsIn bytes bytes table first first (home ∷ []) xs ns
number_adds bytes table part first is home xs ns owes =
    nothing_added bytes table first (home ∷ []) xs ns (no_cells_own bytes table part xs ns (no_pointers (form_at table part.type) is) owes)

cell_adds : (bytes new : List ℕ) (table : Table) (part : Place) (first next : Option ℕ) → cells_of (form_at table part.type) ≡ cells.Pointer
    → ((xs ns : List ℕ) → length (fields_of table part.type) ≡ 0 → has_cells (form_at table part.type) ≡ true → IsPart bytes table part xs ns → AddsIn bytes new table first next [] xs ns)
    → (home : ℕ) (xs ns : List ℕ) → IsPart bytes table part xs ns → AddsIn bytes new table first next (home ∷ []) xs ns
cell_adds bytes new table part first next is adds home xs ns owes allocator ys names kept theirs final valid w fits =
    let one = one_cell table (form_at table part.type) is in
    adds xs ns one.0 one.1 owes allocator ys names kept theirs final valid w (without_home bytes home (xs ++ ys) fits)

pub loop-index-preserved : goal.loop-index-preserved
loop-index-preserved g t c = elim c.match-field.branch [
  | in-Some+in-Number w ↦ record {
    window = ap (λ (s : Stored). s.window) w.heap-is ∙ c.loop-index.invariant.window ∙ ap (λ b. with_bytes c.args.heap.now.window b) (sym (bytes_in c.match-field.heap c.loop-index.heap w.heap-is));
    types = ap (λ (s : Stored). s.types) w.heap-is ∙ c.loop-index.invariant.types;
    added = λ home xs ns Us inside part f allocator ys names kept theirs final valid p fits.
        let heap = c.args.heap.now in
        let T = c.args.place.type_id in
        let field = w.in-Some.field in
        let same : c.types-in-loop-index.result.now ≡ heap.types = c.types-in-loop-index.ensures ∙ c.loop-index.invariant.types in
        let e : slice_get (fields_of heap.types T) c.loop-index.index ≡ Some (record { from = field.from; type = field.type_id }) =
        subst (λ t. slice_get (fields_of t T) c.loop-index.index ≡ Some (record { from = field.from; type = field.type_id })) same (c.field.ensures.field ∙ ap (map_option cell_of) w.in-Some.is) in
        let j = c.loop-index.invariant.added home xs ns Us inside part f allocator ys names kept theirs final valid p fits in
        let r = next_field_joined allocator heap.window.bytes c.loop-index.heap.window.bytes heap.types valid home c.args.place.at c.loop-index.index T xs ys names kept theirs final Us f fits c.loop-index.self.first j
        c.loop-index.heap.window.bytes c.loop-index.heap.types c.loop-index.self.first field.from field.type_id w.part-part.result.at w.part-part.result.type_id e c.loop-index.invariant.types w.part-part.ensures.at
        w.part-part.ensures.type_id
        (λ home xs ns inside owes. number_adds c.loop-index.heap.window.bytes c.loop-index.heap.types (place_of w.part-part.result) c.loop-index.self.first (sym w.cells.ensures.cells ∙ w.in-Number.is) home xs ns owes) in
        rw (bytes_in c.match-field.heap c.loop-index.heap w.heap-is, w.self-is) r;
  }
  | in-Some+in-Pointer w ↦ record {
    window = ap (λ (s : Stored). s.window) w.heap-is ∙ w.add_cell-in-Pointer.ensures.window ∙ ap (λ p. with_bytes p w.add_cell-in-Pointer.new.heap.window.bytes) c.loop-index.invariant.window
        ∙ ap (λ b. with_bytes c.args.heap.now.window b) (sym (bytes_in c.match-field.heap w.add_cell-in-Pointer.new.heap w.heap-is));
    types = ap (λ (s : Stored). s.types) w.heap-is ∙ w.add_cell-in-Pointer.ensures.types ∙ c.loop-index.invariant.types;
    added = λ home xs ns Us inside part f allocator ys names kept theirs final valid p fits.
        let heap = c.args.heap.now in
        let T = c.args.place.type_id in
        let field = w.in-Some.field in
        let same : c.types-in-loop-index.result.now ≡ heap.types = c.types-in-loop-index.ensures ∙ c.loop-index.invariant.types in
        let e : slice_get (fields_of heap.types T) c.loop-index.index ≡ Some (record { from = field.from; type = field.type_id }) =
        subst (λ t. slice_get (fields_of t T) c.loop-index.index ≡ Some (record { from = field.from; type = field.type_id })) same (c.field.ensures.field ∙ ap (map_option cell_of) w.in-Some.is) in
        let j = c.loop-index.invariant.added home xs ns Us inside part f allocator ys names kept theirs final valid p fits in
        let r = next_field_joined allocator heap.window.bytes c.loop-index.heap.window.bytes heap.types valid home c.args.place.at c.loop-index.index T xs ys names kept theirs final Us f fits c.loop-index.self.first j
        w.add_cell-in-Pointer.new.heap.window.bytes c.loop-index.heap.types w.add_cell-in-Pointer.new.self.first field.from field.type_id w.part-part.result.at w.part-part.result.type_id e c.loop-index.invariant.types
        w.part-part.ensures.at w.part-part.ensures.type_id
        (λ home xs ns inside owes. cell_adds c.loop-index.heap.window.bytes w.add_cell-in-Pointer.new.heap.window.bytes c.loop-index.heap.types (place_of w.part-part.result) c.loop-index.self.first w.add_cell-in-Pointer.new.self.first
        (sym w.cells.ensures.cells ∙ w.in-Pointer.is) w.add_cell-in-Pointer.ensures.added home xs ns owes) in
        rw (bytes_in c.match-field.heap w.add_cell-in-Pointer.new.heap w.heap-is, w.self-is) r;
  }
  | in-Some+in-Fields w ↦ record {
    window = ap (λ (s : Stored). s.window) w.heap-is ∙ w.add_value.ensures.window ∙ ap (λ p. with_bytes p w.add_value.new.heap.window.bytes) c.loop-index.invariant.window
        ∙ ap (λ b. with_bytes c.args.heap.now.window b) (sym (bytes_in c.match-field.heap w.add_value.new.heap w.heap-is));
    types = ap (λ (s : Stored). s.types) w.heap-is ∙ w.add_value.ensures.types ∙ c.loop-index.invariant.types;
    added = λ home xs ns Us inside part f allocator ys names kept theirs final valid p fits.
        let heap = c.args.heap.now in
        let T = c.args.place.type_id in
        let field = w.in-Some.field in
        let same : c.types-in-loop-index.result.now ≡ heap.types = c.types-in-loop-index.ensures ∙ c.loop-index.invariant.types in
        let e : slice_get (fields_of heap.types T) c.loop-index.index ≡ Some (record { from = field.from; type = field.type_id }) =
        subst (λ t. slice_get (fields_of t T) c.loop-index.index ≡ Some (record { from = field.from; type = field.type_id })) same (c.field.ensures.field ∙ ap (map_option cell_of) w.in-Some.is) in
        let j = c.loop-index.invariant.added home xs ns Us inside part f allocator ys names kept theirs final valid p fits in
        let r = next_field_joined allocator heap.window.bytes c.loop-index.heap.window.bytes heap.types valid home c.args.place.at c.loop-index.index T xs ys names kept theirs final Us f fits c.loop-index.self.first j
        w.add_value.new.heap.window.bytes c.loop-index.heap.types w.add_value.new.self.first field.from field.type_id w.part-part.result.at w.part-part.result.type_id e c.loop-index.invariant.types w.part-part.ensures.at
        w.part-part.ensures.type_id
        w.add_value.ensures.added in
        rw (bytes_in c.match-field.heap w.add_value.new.heap w.heap-is, w.self-is) r;
  }
  | in_default w ↦ record {
    window = ap (λ (s : Stored). s.window) w.heap-is ∙ c.loop-index.invariant.window ∙ ap (λ b. with_bytes c.args.heap.now.window b) (sym (bytes_in c.match-field.heap c.loop-index.heap w.heap-is));
    types = ap (λ (s : Stored). s.types) w.heap-is ∙ c.loop-index.invariant.types;
    added = λ home xs ns Us inside part f allocator ys names kept theirs final valid p fits.
        let heap = c.args.heap.now in
        let T = c.args.place.type_id in
        let same : c.types-in-loop-index.result.now ≡ heap.types = c.types-in-loop-index.ensures ∙ c.loop-index.invariant.types in
        let e : slice_get (fields_of heap.types T) c.loop-index.index ≡ None =
        subst (λ t. slice_get (fields_of t T) c.loop-index.index ≡ None) same (c.field.ensures.field ∙ ap (map_option cell_of) w.in_default.is) in
        let j = c.loop-index.invariant.added home xs ns Us inside part f allocator ys names kept theirs final valid p fits in
        let r = past_fields_joined allocator heap.window.bytes c.loop-index.heap.window.bytes heap.types valid home c.args.place.at c.loop-index.index T xs ys names kept theirs final Us f fits c.loop-index.self.first j e in
        rw (bytes_in c.match-field.heap c.loop-index.heap w.heap-is, w.self-is) r;
  }
]

pub returns-then-not-has_pointers-clause-added : goal.returns-then-not-has_pointers-clause-added
returns-then-not-has_pointers-clause-added g t c = λ home xs ns inside part.
    let heap = c.args.heap.now in
    let none : has_cells (form_at heap.types c.args.place.type_id) ≡ false =
    subst (λ t. has_cells (form_at t c.args.place.type_id) ≡ false) c.types.ensures (c.has_pointers.ensures.cells ∙ c.if-not-has_pointers.true) in
    nothing_added heap.window.bytes heap.types c.args.self.now.first (home ∷ []) xs ns (no_cells_own heap.window.bytes heap.types (place_of c.args.place) xs ns none part)

pub returns-then-fields-eq0-clause-added : goal.returns-then-fields-eq0-clause-added
returns-then-fields-eq0-clause-added g t c = λ home xs ns inside part allocator ys names kept theirs final valid w fits.
    let heap = c.args.heap.now in
    let few : length (fields_of heap.types c.args.place.type_id) ≡ 0 =
    subst (λ t. length (fields_of t c.args.place.type_id) ≡ 0) c.types-2.ensures (sym c.field_count-fields.ensures.count ∙ c.if-fields-eq0.true) in
    let some : has_cells (form_at heap.types c.args.place.type_id) ≡ true =
    subst (λ t. has_cells (form_at t c.args.place.type_id) ≡ true) c.types.ensures (c.has_pointers.ensures.cells ∙ c.if-not-has_pointers.false) in
    c.add_cell.ensures.added xs ns few some part allocator ys names kept theirs final valid w (without_home heap.window.bytes home (xs ++ ys) fits)

pub returns-clause-added : goal.returns-clause-added
returns-clause-added g t c = λ home xs ns inside part allocator ys names kept theirs final valid w fits.
    let heap = c.args.heap.now in
    let T = c.args.place.type_id in
    let count : c.field_count-fields.result ≡ length (fields_of heap.types T) = subst (λ t. c.field_count-fields.result ≡ length (fields_of t T)) c.types-2.ensures c.field_count-fields.ensures.count in
    let some = c.if-fields-eq0.false in
    let s = struct_of heap.types valid T (omega arith) in
    let j = c.loop-index.invariant.added home xs ns s.parts inside part s.form_is allocator ys names kept theirs final valid w fits in
    let past = c.loop-index-test.false in
    all_fields_joined allocator heap.window.bytes c.loop-index.heap.window.bytes heap.types valid home c.args.place.at c.loop-index.index T xs ys names kept theirs final s.parts s.form_is fits c.loop-index.self.first j (omega arith)
