use Rattle.std.proofs.Common.{◌≡◌, ◌+◌, ◌≤◌, ◌%◌, ◌^◌, ℕ, List, Some, length, take, ap, ◌∙◌, sym, refl, arith}
use Rattle.std.specs.Prelude.{slice_get}
use Rattle.seg_spec.specs.Window.{with_bytes}
use Rattle.seg_spec.specs.Types.{Table, IsTable, fields_of}
use Rattle.seg_spec.specs.Cells.{ChangesCells, IsDefaulted}
use Rattle.seg_spec.proofs.Values.CellChangeLaws.{ChangesFields, field_types, defaulted_local, next_field, field_within, past_fields, whole_struct, no_fields}
use Rattle.seg_layout.specs.Forms.{map_option, cell_of}
use Rattle.seg_layout.specs.declared.kind.Cell.{Cell}
use Rattle.seg_cells.specs.declared.place.Place.{Place}
use Rattle.seg_cells.specs.Places.{LiesWithin}
use Rattle.seg_cells.proofs.CellCases.{struct_of}
use Rattle.seg_spec.proofs.WindowLaws.{bytes_of}
use Rattle.seg_cells.proofs.cells.+set_fields.Goals as goal
use Rattle.seg_cells.proofs.cells.+set_fields.Goals.{in_default, in-Some+then-field_count-eq0, in-Some+else-field_count-eq0}

module _ (types : Table) (valid : IsTable types) (place : Place) (some : 1 ≤ length (fields_of types place.type_id)) (old : List ℕ) (within : LiesWithin old types place) where
  -- the fields before an index have their defaults
  abbrev Filled : ℕ → List ℕ → Type 0
  Filled index bytes = ChangesFields IsDefaulted defaulted_local types valid old bytes place.at (take index (field_types types place.type_id))

  -- and those up to the index, once the field there has its own
  with_field : (index : ℕ) (field : Cell) (part : Place) → slice_get (fields_of types place.type_id) index ≡ Some (cell_of field)
      → part.at ≡ (place.at + field.from) % 2 ^ 32 → part.type_id ≡ field.type_id → (before new : List ℕ) → Filled index before
      → (LiesWithin before types part → ChangesCells IsDefaulted before new types part.at part.type_id) → Filled (index + 1) new
  with_field index field part there at type_id before new filled sets =
      let s = struct_of types valid place.type_id some in
      let room = field_within IsDefaulted defaulted_local types valid place.type_id s.parts s.form_is old place.at index field.from field.type_id there within before filled in
      let step = rw (at, type_id) at (sets (rw (at, type_id) room)) in
      next_field IsDefaulted defaulted_local types valid place.type_id s.parts s.form_is old place.at index field.from field.type_id there within before new filled step

pub loop-index-init : goal.loop-index-init
loop-index-init g t c = record {
  host = refl;
  cells = λ valid within. no_fields IsDefaulted defaulted_local c.args.types.now valid c.args.w.now.bytes c.args.place.at;
}

pub loop-index-preserved : goal.loop-index-preserved
loop-index-preserved g t c =
    let types = c.args.types.now in
    let place = c.args.place in
    let old = c.args.w.now.bytes in
    let index = c.loop-index.index in
    let some : 1 ≤ length (fields_of types place.type_id) = omega (arith, c.field_count-fields.ensures.count) in
    elim c.match-field.branch [
      | in-Some+then-field_count-eq0 w ↦ record {
        host = w.w-is ∙ w.set_cell-then-field_count-eq0.ensures.host ∙ ap (λ p. with_bytes p w.set_cell-then-field_count-eq0.new.w.bytes) c.loop-index.invariant.host
            ∙ ap (λ b. with_bytes c.args.w.now b) (sym (bytes_of c.match-field.w w.set_cell-then-field_count-eq0.new.w w.w-is));
        cells = λ valid within.
            let there = c.field.ensures.field ∙ ap (map_option cell_of) w.in-Some.is in
            let sets = w.set_cell-then-field_count-eq0.ensures.cells (sym w.field_count.ensures.count ∙ w.if-field_count-eq0.true) in
            let r = with_field types valid place some old within index w.in-Some.field w.part-part.result there w.part-part.ensures.at w.part-part.ensures.type_id
            c.loop-index.w.bytes w.set_cell-then-field_count-eq0.new.w.bytes (c.loop-index.invariant.cells valid within) sets in
            rw (bytes_of c.match-field.w w.set_cell-then-field_count-eq0.new.w w.w-is) r;
      }
      | in-Some+else-field_count-eq0 w ↦ record {
        host = w.w-is ∙ w.set_fields.ensures.host ∙ ap (λ p. with_bytes p w.set_fields.new.w.bytes) c.loop-index.invariant.host
            ∙ ap (λ b. with_bytes c.args.w.now b) (sym (bytes_of c.match-field.w w.set_fields.new.w w.w-is));
        cells = λ valid within.
            let there = c.field.ensures.field ∙ ap (map_option cell_of) w.in-Some.is in
            let r = with_field types valid place some old within index w.in-Some.field w.part-part.result there w.part-part.ensures.at w.part-part.ensures.type_id
            c.loop-index.w.bytes w.set_fields.new.w.bytes (c.loop-index.invariant.cells valid within) w.set_fields.ensures.cells in
            rw (bytes_of c.match-field.w w.set_fields.new.w w.w-is) r;
      }
      | in_default w ↦ record {
        host = w.w-is ∙ c.loop-index.invariant.host ∙ ap (λ b. with_bytes c.args.w.now b) (sym (bytes_of c.match-field.w c.loop-index.w w.w-is));
        cells = λ valid within.
            let s = struct_of types valid place.type_id some in
            let e = c.field.ensures.field ∙ ap (map_option cell_of) w.in_default.is in
            let r = past_fields IsDefaulted defaulted_local types valid place.type_id s.parts s.form_is old place.at index e c.loop-index.w.bytes (c.loop-index.invariant.cells valid within) in
            rw (bytes_of c.match-field.w c.loop-index.w w.w-is) r;
      }
    ]

pub returns-clause-cells : goal.returns-clause-cells
returns-clause-cells g t c = λ within.
    let valid = c.field_count-fields.ensures.table in
    let s = struct_of c.args.types.now valid c.args.place.type_id (omega (arith, c.field_count-fields.ensures.count)) in
    whole_struct IsDefaulted defaulted_local c.args.types.now valid c.args.place.type_id s.parts s.form_is c.args.w.now.bytes c.args.place.at
    c.loop-index.index c.loop-index.w.bytes (omega (arith, c.field_count-fields.ensures.count)) (c.loop-index.invariant.cells valid within)

pub returns-then-fields-eq0-clause-cells : goal.returns-then-fields-eq0-clause-cells
returns-then-fields-eq0-clause-cells g t c = c.set_cell.ensures.cells (sym c.field_count-fields.ensures.count ∙ c.if-fields-eq0.true)
