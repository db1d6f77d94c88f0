use Rattle.std.proofs.Common.{ap, ◌∙◌, sym, refl, arith, subst}
use Rattle.seg_spec.specs.Bytes.{word, set_word}
use Rattle.seg_spec.specs.Window.{with_bytes}
use Rattle.seg_spec.specs.Cells.{ChangesCells, IsFurther, further}
use Rattle.seg_spec.proofs.Values.CellChangeLaws.{further_local, next_field, field_within, past_fields, whole_struct, no_fields}
use Rattle.seg_layout.specs.Forms.{map_option, cell_of}
use Rattle.seg_cells.proofs.CellCases.{struct_of, cell_of_type, further_no_cells, further_one_cell, further_small}
use Rattle.seg_spec.proofs.WindowLaws.{bytes_of}
use Rattle.seg_cells.proofs.cells.+point_again.Goals as goal
use Rattle.seg_cells.proofs.cells.+point_again.Goals.{in-Some, in_default}

pub loop-index-init : goal.loop-index-init
loop-index-init g t c = record {
  host = refl;
  pointed = λ valid within. no_fields (λ old new p form. IsFurther old new c.args.distance p form) (further_local c.args.distance) c.args.types.now valid c.args.w.now.bytes c.args.place.at;
}

pub loop-index-preserved : goal.loop-index-preserved
loop-index-preserved g t c = elim c.match-field.branch [
  | in-Some w ↦ record {
    host = w.w-is ∙ w.point_again.ensures.host ∙ ap (λ p. with_bytes p w.point_again.new.w.bytes) c.loop-index.invariant.host
        ∙ ap (λ b. with_bytes c.args.w.now b) (sym (bytes_of c.match-field.w w.point_again.new.w w.w-is));
    pointed = λ valid within.
        let s = struct_of c.args.types.now c.field_count-fields.ensures.table c.args.place.type_id (omega (arith, c.field_count-fields.ensures.count)) in
        let e = c.field.ensures.field ∙ ap (map_option cell_of) w.in-Some.is in
        let before = c.loop-index.invariant.pointed valid within in
        let room = field_within (λ old new p form. IsFurther old new c.args.distance p form) (further_local c.args.distance) c.args.types.now valid c.args.place.type_id s.parts s.form_is c.args.w.now.bytes
        c.args.place.at c.loop-index.index w.in-Some.field.from w.in-Some.field.type_id e within c.loop-index.w.bytes before in
        let step = w.point_again.ensures.pointed (rw (w.part.ensures.at, w.part.ensures.type_id) room) in
        let step' = rw (w.part.ensures.at, w.part.ensures.type_id) at step in
        let r = next_field (λ old new p form. IsFurther old new c.args.distance p form) (further_local c.args.distance) c.args.types.now valid c.args.place.type_id s.parts s.form_is c.args.w.now.bytes
        c.args.place.at c.loop-index.index w.in-Some.field.from w.in-Some.field.type_id e within c.loop-index.w.bytes w.point_again.new.w.bytes before step' in
        rw (bytes_of c.match-field.w w.point_again.new.w w.w-is) r;
  }
  | in_default w ↦ record {
    host = w.w-is ∙ c.loop-index.invariant.host ∙ ap (λ b. with_bytes c.args.w.now b) (sym (bytes_of c.match-field.w c.loop-index.w w.w-is));
    pointed = λ valid within.
        let s = struct_of c.args.types.now c.field_count-fields.ensures.table c.args.place.type_id (omega (arith, c.field_count-fields.ensures.count)) in
        let e = c.field.ensures.field ∙ ap (map_option cell_of) w.in_default.is in
        let before = c.loop-index.invariant.pointed valid within in
        let r = past_fields (λ old new p form. IsFurther old new c.args.distance p form) (further_local c.args.distance) c.args.types.now valid c.args.place.type_id s.parts s.form_is c.args.w.now.bytes
        c.args.place.at c.loop-index.index e c.loop-index.w.bytes before in
        rw (bytes_of c.match-field.w c.loop-index.w w.w-is) r;
  }
]

pub returns-clause-pointed : goal.returns-clause-pointed
returns-clause-pointed g t c = λ within.
    let valid = c.field_count-fields.ensures.table in
    let s = struct_of c.args.types.now valid c.args.place.type_id (omega (arith, c.field_count-fields.ensures.count)) in
    whole_struct (λ old new p form. IsFurther old new c.args.distance p form) (further_local c.args.distance) c.args.types.now valid c.args.place.type_id s.parts s.form_is c.args.w.now.bytes c.args.place.at
    c.loop-index.index c.loop-index.w.bytes (omega (arith, c.field_count-fields.ensures.count)) (c.loop-index.invariant.pointed valid within)

pub returns-then-fields-eq0-clause-pointed : goal.returns-then-fields-eq0-clause-pointed
returns-then-fields-eq0-clause-pointed g t c = λ within.
    let valid = c.field_count-fields.ensures.table in
    let one = cell_of_type c.args.types.now valid c.args.place.type_id (c.has_pointers.ensures.cells ∙ c.if-not-has_pointers.false)
    (sym c.field_count-fields.ensures.count ∙ c.if-fields-eq0.true) in
    let r = further_one_cell c.args.types.now valid c.args.place.type_id c.args.w.now.bytes c.args.place.at within c.args.distance one
    (further_small c.args.distance (word c.args.w.now.bytes c.args.place.at)) in
    let is = bytes_of c.point_cell_again.new.w
    (with_bytes c.args.w.now (set_word c.args.w.now.bytes c.args.place.at (further c.args.distance (word c.args.w.now.bytes c.args.place.at))))
    c.point_cell_again.ensures in
    subst (λ b. ChangesCells (λ old new p form. IsFurther old new c.args.distance p form) c.args.w.now.bytes b c.args.types.now c.args.place.at c.args.place.type_id)
    (sym is) r

pub returns-then-not-has_pointers-clause-pointed : goal.returns-then-not-has_pointers-clause-pointed
returns-then-not-has_pointers-clause-pointed g t c = λ within.
    further_no_cells c.args.types.now c.has_pointers.ensures.table c.args.place.type_id c.args.w.now.bytes c.args.place.at c.args.distance
    (c.has_pointers.ensures.cells ∙ c.if-not-has_pointers.true)
