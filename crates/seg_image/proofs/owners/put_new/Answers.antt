use Rattle.std.proofs.Common.{rules, ◌≡◌, ◌+◌, ◌^◌, ◌<◌, Err, arith}
use Rattle.seg_spec.specs.Types.{Form, size}
use Rattle.seg_spec.specs.Block.{Kind, tag_of}
use Rattle.seg_value.specs.CellPlaces.{place_of}
use Rattle.seg_value.specs.Shape.TheVariants as shape
use Rattle.seg_image.proofs.PutContent.{holds_new}
use Rattle.seg_image.proofs.owners.put_new.Goals as goal

pub returns-in_err-at-clause-puts : goal.returns-in_err-at-clause-puts
returns-in_err-at-clause-puts g c = λ v blocks form s.
    let table = c.args.heap.now.types in
    let U = c.args.object in
    let content = rw c.types.ensures at c.object-content.ensures.content in
    let sized : 0 + size table U ≡ size table U = omega arith in
    let small : tag_of Kind.object U < 2 ^ 32 = let few = c.ranges.object in omega arith in
    let result : c.from_residual.result ≡ Err c.in_err-at.field-0.0 = search rules in
    rw result (record {
      code_is = c.in_err-at.ensures.code;
      refuses = rw sized at (c.in_err-at.ensures.given 0 U (tag_of Kind.object U) shape.Object content (omega arith) small s.is_table (s.is_table.forms c.args.own.type_id (Form.own U) form) s.heap);
    })

pub returns-clause-puts : goal.returns-clause-puts
returns-clause-puts g c = λ v blocks form s.
    let table = c.args.heap.now.types in
    let U = c.args.object in
    let content = rw c.types.ensures at c.object-content.ensures.content in
    let small : tag_of Kind.object U < 2 ^ 32 = let few = c.ranges.object in omega arith in
    let given = c.in_ok-at.ensures.given 0 U (tag_of Kind.object U) shape.Object content (omega arith) small s.is_table (s.is_table.forms c.args.own.type_id (Form.own U) form) s.heap in
    let sets = rw c.in_ok-at.ensures.types at c.set_own.ensures.set in
    holds_new g.F.Fit.allocator c.args.heap.now.window.bytes c.new_block.new.self.window.bytes c.set_own.new.heap.window.bytes table (place_of c.args.own) U c.in_ok-at.at v blocks form s given
    (λ w x bs inside t loose. sets U x w bs inside form t loose)
