use Rattle.std.proofs.Common.{◌≡◌, ◌+◌, ◌^◌, ◌<◌, ◌≤◌, ◌∷◌, [], length, take, Err, Some, refl, sym, ap, ◌∙◌, subst, arith}
use Rattle.std.specs.Prelude.{slice_get}
use Rattle.std.proofs.lemmas.Result.{err_from_is_err_and}
use Rattle.seg_spec.specs.Types.{form_at, size, fields_of}
use Rattle.seg_spec.proofs.Tables.TypeSizeLaws.{size_large}
use Rattle.seg_layout.specs.Forms.{cell_of, map_option}
use Rattle.seg_cells.specs.Places.{place_of}
use Rattle.seg_check.specs.Marks.{Known}
use Rattle.seg_check.specs.Turns.{parts_at, LiesAt, in_struct}
use Rattle.seg_check.specs.Resolving.{Advances, CanResolve}
use Rattle.seg_check.proofs.Queue.QueueStepLaws.{advance_none, advance_number, known_number, ready_now, steps_refused}
use Rattle.seg_check.proofs.Contents.StructLaws.{struct_by, field_in, field_more, field_past, field_can, fields_all}
use Rattle.seg_check.proofs.image.TypedImage.+check_value.Goals as goal
use Rattle.seg_check.proofs.image.TypedImage.+check_value.Goals.{in-Some+in_ok-check_value, in_default}

pub returns-then-not-has_pointers-clause-steps : goal.returns-then-not-has_pointers-clause-steps
returns-then-not-has_pointers-clause-steps g t c = λ ready known fits lies.
    let bytes = c.args.self.now.bytes.bytes.now in
    let table = c.args.self.now.types.now in
    advance_number bytes table c.args.claims.now (record { at = c.args.value.at; type = c.args.value.type_id }) (known_number bytes table c.args.value.type_id known (c.has_pointers.ensures.cells ∙ c.if-not-has_pointers.true))

pub loop-index-init : goal.loop-index-init
loop-index-init g t c = record { taken = refl; so_far = (λ ready known fits lies. advance_none c.args.self.now.bytes.bytes.now c.args.self.now.types.now c.args.claims.now) }

pub loop-index-preserved : goal.loop-index-preserved
loop-index-preserved g t c =
    let bytes = c.args.self.now.bytes.bytes.now in
    let table = c.args.self.now.types.now in
    let old = c.args.claims.now in
    let mid = c.loop-index.claims in
    let at = c.args.value.at in
    let T = c.args.value.type_id in
    let i = c.loop-index.index in
    let many : 1 ≤ length (fields_of table T) = omega (arith, c.if-fields-eq0.false, c.field_count-fields.ensures.count) in
    let s = struct_by table (form_at table T) many in
    elim c.match-field.branch [
      | in-Some+in_ok-check_value w ↦ record {
        taken = ap (λ (k : Known). k.taken) w.claims-is ∙ w.in_ok-check_value.ensures.taken ∙ c.loop-index.invariant.taken;
        so_far = (λ ready known fits lies.
            let done = c.loop-index.invariant.so_far ready known fits lies in
            let cell = cell_of w.in-Some.field in
            let field : slice_get (fields_of table T) i ≡ Some cell = c.field.ensures.field ∙ ap (map_option cell_of) w.in-Some.is in
            let inside = field_in bytes table ready.is_table at T s.0 s.1 i cell field in
            let large = size_large table ready.is_table cell.type in
            let x = w.part.result.at in
            let x_is : x ≡ at + cell.from = omega (arith, w.part.ensures.at) in
            let U_is : w.part.result.type_id ≡ cell.type = w.part.ensures.type_id in
            let before : cell.type < T = w.in-Some.ensures.before in
            let small : x + size table w.part.result.type_id ≤ 2 ^ 32 = subst (λ U. x + size table U ≤ 2 ^ 32) (sym U_is) (omega arith) in
            let within = subst (λ y. LiesAt bytes table (record { at = y; type = w.part.result.type_id })) (sym x_is) (subst (λ V. LiesAt bytes table (record { at = at + cell.from; type = V })) (sym U_is) (in_struct i cell lies field)) in
            let step = w.in_ok-check_value.ensures.steps (ready_now bytes table old mid _ ready done) (omega arith) small within in
            let all = field_more bytes table ready.is_table at T s.0 s.1 old mid i done w.check_value.new.claims cell x field x_is (subst (λ U. Advances bytes table mid w.check_value.new.claims
            (record { at = x; type = U } ∷ [])) U_is step) in
            subst (λ k. Advances bytes table old k (take (i + 1) (parts_at at (fields_of table T)))) (sym w.claims-is) all);
      }
      | in_default w ↦ record {
        taken = ap (λ (k : Known). k.taken) w.claims-is ∙ c.loop-index.invariant.taken;
        so_far = (λ ready known fits lies.
            let done = c.loop-index.invariant.so_far ready known fits lies in
            subst (λ k. Advances bytes table old k (take (i + 1) (parts_at at (fields_of table T)))) (sym w.claims-is) (field_past bytes table ready.is_table at T s.0 s.1 old mid i done (c.field.ensures.field
            ∙ ap (map_option cell_of) w.in_default.is)));
      }
    ]

pub returns-in_err-check_value-clause-steps : goal.returns-in_err-check_value-clause-steps
returns-in_err-check_value-clause-steps g t c = λ ready known fits lies.
    let bytes = c.args.self.now.bytes.bytes.now in
    let table = c.args.self.now.types.now in
    let old = c.args.claims.now in
    let mid = c.loop-index.claims in
    let at = c.args.value.at in
    let T = c.args.value.type_id in
    let i = c.loop-index.index in
    let many : 1 ≤ length (fields_of table T) = omega (arith, c.if-fields-eq0.false, c.field_count-fields.ensures.count) in
    let s = struct_by table (form_at table T) many in
    let done = c.loop-index.invariant.so_far ready known fits lies in
    let cell = cell_of c.in-Some.field in
    let field : slice_get (fields_of table T) i ≡ Some cell = c.field.ensures.field ∙ ap (map_option cell_of) c.in-Some.is in
    let inside = field_in bytes table ready.is_table at T s.0 s.1 i cell field in
    let large = size_large table ready.is_table cell.type in
    let x = c.part.result.at in
    let x_is : x ≡ at + cell.from = omega (arith, c.part.ensures.at) in
    let U_is : c.part.result.type_id ≡ cell.type = c.part.ensures.type_id in
    let before : cell.type < T = c.in-Some.ensures.before in
    let small : x + size table c.part.result.type_id ≤ 2 ^ 32 = subst (λ U. x + size table U ≤ 2 ^ 32) (sym U_is) (omega arith) in
    let e = c.in_err-check_value.field-0.0 in
    let failed = err_from_is_err_and c.from_residual.result c.from_residual.ensures.1 in
    let same : failed.0 ≡ e = failed.2 in
    let within = subst (λ y. LiesAt bytes table (record { at = y; type = c.part.result.type_id })) (sym x_is) (subst (λ V. LiesAt bytes table (record { at = at + cell.from; type = V })) (sym U_is) (in_struct i cell lies field)) in
    let wrong = c.in_err-check_value.ensures.steps (ready_now bytes table old mid _ ready done) (omega arith) small within in
    steps_refused bytes table old c.check_value.new.claims (place_of c.args.value ∷ []) c.from_residual.result e _ (failed.1 ∙ ap Err same)
    (λ r. subst (λ U. CanResolve bytes table mid (record { at = x; type = U } ∷ [])) (sym U_is) (field_can bytes table ready.is_table at T s.0 s.1 old mid i done cell x field x_is r))
    wrong.0 wrong.1

pub returns-clause-steps : goal.returns-clause-steps
returns-clause-steps g t c = λ ready known fits lies.
    let bytes = c.args.self.now.bytes.bytes.now in
    let table = c.args.self.now.types.now in
    let T = c.args.value.type_id in
    let count = c.field_count-fields.ensures.count in
    let s = struct_by table (form_at table T) (omega (arith, c.if-fields-eq0.false, count)) in
    fields_all bytes table ready.is_table c.args.value.at T s.0 s.1 c.args.claims.now c.loop-index.claims c.loop-index.index (c.loop-index.invariant.so_far ready known fits lies) (omega (arith, c.loop-index-test.false, count))
