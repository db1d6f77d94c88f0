use Rattle.std.proofs.Common.{◌+◌, ◌^◌, ◌<◌, ◌%◌, refl, subst, arith}
use Rattle.seg_spec.specs.Bytes.{set_word}
use Rattle.seg_spec.specs.Header.{next_word}
use Rattle.seg_spec.specs.Block.{Kind, tag_of}
use Rattle.seg_spec.specs.Window.{with_bytes}
use Rattle.seg_spec.proofs.WindowLaws.{bytes_of}
use Rattle.seg_cells.specs.declared.content.Shape.TheVariants as shape
use Rattle.seg_cells.specs.Contents.{IsContent}
use Rattle.seg_value.proofs.FreezeLaws.{all_moved}
use Rattle.seg_value.proofs.sharing.move_frozen.Goals as goal

pub returns-clause-moved : goal.returns-clause-moved
returns-clause-moved g c = λ v inside valid known heap loose number_is small.
    let old = c.args.heap.now in
    let T = c.args.t in
    let p = c.in_ok-payload.payload in
    let number = c.args.number in
    let freed = c.free_block.new.self.window in
    let tag_small : tag_of Kind.frozen T < 2 ^ 32 = omega (arith, valid.few) in
    let content = subst (λ types. IsContent types shape.Object (tag_of Kind.frozen T) 8 T c.frozen-content.result) c.types.ensures c.frozen-content.ensures in
    let given = c.in_ok-payload.ensures.given 8 T (tag_of Kind.frozen T) shape.Object content (omega arith) tag_small valid known heap in
    let written = bytes_of c.count_frozen.new.heap.window (with_bytes freed (set_word (set_word (set_word freed.bytes p 1) (p + 4) number) next_word ((number + 1) % 2 ^ 32))) c.count_frozen.ensures.window in
    all_moved g.F.Fit.allocator old.window.bytes c.new_block.new.self.window.bytes c.shift.new.self.window.bytes freed.bytes c.count_frozen.new.heap.window.bytes old.types c.new_block.new.self.types T c.args.object p _ number _
    v inside valid heap loose number_is small given c.new_block.ensures.types refl c.shift.ensures.changes c.shift.ensures.parts c.free_block.ensures.gives written refl
