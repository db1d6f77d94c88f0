use Rattle.std.proofs.lemmas.Result.{err_from_is_err_and}
use Rattle.seg_check.proofs.CheckStageLaws.{finds_wrong, first_ready, first_can, second_ready, second_can, third_ready, third_waits, third_can, finds_counts}
use Rattle.seg_check.proofs.image.TypedImage.check_content.Goals as goal

pub returns-in_err-check_index : goal.returns-in_err-check_index
returns-in_err-check_index g c = λ heap.
    let bytes = c.args.self.now.bytes.bytes.now in
    let table = c.args.self.now.types.now in
    let first = c.args.claims.now in
    finds_wrong bytes table c.check_index.new.claims _ (first_can bytes table first heap) c.from_residual.result c.in_err-check_index.field-0.0
    (c.in_err-check_index.ensures (first_ready bytes table first heap) heap.front.header.index_is)
    (err_from_is_err_and c.from_residual.result c.from_residual.ensures.1)

pub returns-in_err-check_uniques : goal.returns-in_err-check_uniques
returns-in_err-check_uniques g c = λ heap.
    let bytes = c.args.self.now.bytes.bytes.now in
    let table = c.args.self.now.types.now in
    let first = c.args.claims.now in
    let second = c.check_index.new.claims in
    let index = c.in_ok-check_index.ensures (first_ready bytes table first heap) heap.front.header.index_is in
    finds_wrong bytes table c.check_uniques.new.claims _ (second_can bytes table first heap second index) c.from_residual-in_err-check_uniques.result c.in_err-check_uniques.field-0.0
    (c.in_err-check_uniques.ensures (second_ready bytes table first heap second index))
    (err_from_is_err_and c.from_residual-in_err-check_uniques.result c.from_residual-in_err-check_uniques.ensures.1)

pub returns-in_err-check_values : goal.returns-in_err-check_values
returns-in_err-check_values g c = λ heap.
    let bytes = c.args.self.now.bytes.bytes.now in
    let table = c.args.self.now.types.now in
    let first = c.args.claims.now in
    let second = c.check_index.new.claims in
    let index = c.in_ok-check_index.ensures (first_ready bytes table first heap) heap.front.header.index_is in
    let third = c.check_uniques.new.claims in
    let uniques = c.in_ok-check_uniques.ensures (second_ready bytes table first heap second index) in
    finds_wrong bytes table c.check_values.new.claims _ (third_can bytes table first heap second index third uniques) c.from_residual-in_err-check_values.result c.in_err-check_values.field-0.0
    (c.in_err-check_values.ensures (third_ready bytes table first heap second index third uniques) (third_waits bytes table first heap second index third uniques))
    (err_from_is_err_and c.from_residual-in_err-check_values.result c.from_residual-in_err-check_values.ensures.1)

pub returns : goal.returns
returns g c = λ heap.
    let bytes = c.args.self.now.bytes.bytes.now in
    let table = c.args.self.now.types.now in
    let first = c.args.claims.now in
    let second = c.check_index.new.claims in
    let index = c.in_ok-check_index.ensures (first_ready bytes table first heap) heap.front.header.index_is in
    let third = c.check_uniques.new.claims in
    let uniques = c.in_ok-check_uniques.ensures (second_ready bytes table first heap second index) in
    let last = c.check_values.new.claims in
    let values = c.in_ok-check_values.ensures (third_ready bytes table first heap second index third uniques) (third_waits bytes table first heap second index third uniques) in
    finds_counts bytes table first heap second index third uniques last values c.check_counts.result (c.check_counts.ensures c.get32.ensures)
