use Rattle.std.proofs.Common.{◌≡◌, ◌≤◌, ◌+◌, ◌*◌, max, length, ap, ◌∙◌, sym, arith}
use Rattle.seg_block.specs.declared.block.Block.{Block}
use Rattle.seg_spec.specs.Heap.{units_at}
use Rattle.seg_manager.specs.declared.space.Gaps.{Gaps}
use Rattle.seg_manager.proofs.TileWalk.{passed_live, passed_free, counted_at, counted_all}
use Rattle.seg_manager.proofs.space.Gaps.of.Goals as goal
use Rattle.seg_manager.proofs.space.Gaps.of.Goals.{then-not-is_live, else-not-is_live}

pub loop-block-preserved : goal.loop-block-preserved
loop-block-preserved g c = λ allocator heap.
    let bytes = c.args.w.now.bytes in
    let block = c.in-Some.block in
    let k = c.loop-block.invariant allocator heap in
    let a = c.in-Some.ensures.stated in
    let b = c.in-Some.ensures.bounds in
    let at = c.loop-block.at in
    let total = c.loop-block.gaps.total in
    let largest = c.loop-block.gaps.largest in
    let units = block.units in
    let two : 2 ≤ units = b.1.0 in
    let fits : at + 16 * units ≤ length bytes = omega arith in
    let stated : units ≡ units_at bytes at = ap (λ (f : Block). f.units) a.1 in
    let to : c.end_of-at.result ≡ at + 16 * units = omega arith in
    let few = k.few in
    let small = heap.small in
    elim c.if-not-is_live.branch [
      | then-not-is_live w ↦ counted_at bytes (at + 16 * units) c.end_of-at.result (total + 16 * units) c.if-not-is_live.gaps.total (max largest (16 * units)) c.if-not-is_live.gaps.largest to
          (ap (λ (x : Gaps). x.total) w.gaps-is ∙ w.add.ensures.total (omega arith)) (ap (λ (x : Gaps). x.largest) w.gaps-is ∙ w.add.ensures.largest)
          (passed_free bytes at total largest units k two fits stated (sym c.is_live.ensures ∙ w.if-not-is_live.true))
      | else-not-is_live w ↦ counted_at bytes (at + 16 * units) c.end_of-at.result total c.if-not-is_live.gaps.total largest c.if-not-is_live.gaps.largest to
          (ap (λ (x : Gaps). x.total) w.gaps-is) (ap (λ (x : Gaps). x.largest) w.gaps-is)
          (passed_live bytes at total largest units k two fits stated (sym c.is_live.ensures ∙ w.if-not-is_live.false))
    ]

pub returns-clause-total : goal.returns-clause-total
returns-clause-total g c = λ allocator heap.
    (counted_all allocator c.args.w.now.bytes c.loop-block.at c.loop-block.gaps.total c.loop-block.gaps.largest c.block_at.result heap (c.loop-block.invariant allocator heap) c.in_default.is c.block_at.ensures.read).0

pub returns-clause-largest : goal.returns-clause-largest
returns-clause-largest g c = λ allocator heap.
    (counted_all allocator c.args.w.now.bytes c.loop-block.at c.loop-block.gaps.total c.loop-block.gaps.largest c.block_at.result heap (c.loop-block.invariant allocator heap) c.in_default.is c.block_at.ensures.read).1
