use Rattle.std.proofs.Common.{◌≡◌, ◌≤◌, ◌+◌, ◌*◌, length, ap, ◌∙◌, sym, subst, arith}
use Rattle.seg_block.specs.declared.block.Block.{Block}
use Rattle.seg_spec.specs.Heap.{IsHeap, units_at}
use Rattle.seg_spec.specs.Window.{Placement, with_bytes}
use Rattle.seg_manager.proofs.ResultLaws.{host_twice}
use Rattle.seg_manager.proofs.TileWalk.{reads_none, rest_none}
use Rattle.seg_manager.proofs.ZeroedGaps.{stepped_live, stepped_free, zeroed_all, zeroes}
use Rattle.seg_manager.proofs.space.zero_free_memory.Goals as goal
use Rattle.seg_manager.proofs.space.zero_free_memory.Goals.{then-not-is_live, else-not-is_live}

bytes_in : (p q : Placement) → p ≡ q → p.bytes ≡ q.bytes
bytes_in p q e = ap (λ (r : Placement). r.bytes) e

pub loop-at-preserved : goal.loop-at-preserved
loop-at-preserved g c =
    let a = g.F.Fit.allocator in
    let first = c.window_mut-w.result.now in
    let mid = c.loop-at.w in
    let at = c.loop-at.at in
    let block = c.in-Some.block in
    let stated = c.in-Some.ensures.stated in
    let b = c.in-Some.ensures.bounds in
    let two : 2 ≤ block.units = b.1.0 in
    let fits : at + 16 * block.units ≤ length mid.bytes = omega arith in
    let units : block.units ≡ units_at mid.bytes at = ap (λ (f : Block). f.units) stated.1 in
    let to : c.end_of-at.result ≡ at + 16 * block.units = omega arith in
    elim c.if-not-is_live.branch [
      | then-not-is_live w ↦ record {
        host = subst (λ p. p ≡ with_bytes first p.bytes) (sym w.w-is) (host_twice first mid w.zero_payload.new.w _ c.loop-at.invariant.host w.zero_payload.ensures.zeros);
        zeroing = λ heap.
            let z = c.loop-at.invariant.zeroing heap in
            let new_is = bytes_in w.zero_payload.new.w _ w.zero_payload.ensures.zeros in
            let there_is = rw b.0 at new_is in
            let step = stepped_free a first.bytes mid.bytes at block.units z two fits units w.zero_payload.new.w.bytes there_is w.zero_payload.ensures.few (sym c.is_live.ensures ∙ w.if-not-is_live.true) in
            rw (w.w-is, to) step;
      }
      | else-not-is_live w ↦ record {
        host = subst (λ p. p ≡ with_bytes first p.bytes) (sym w.w-is) c.loop-at.invariant.host;
        zeroing = λ heap.
            let z = c.loop-at.invariant.zeroing heap in
            let step = stepped_live a first.bytes mid.bytes at block.units z two fits units (sym c.is_live.ensures ∙ w.if-not-is_live.false) in
            rw (w.w-is, to) step;
      }
    ]

pub returns-after-loop-at-clause-zeroes : goal.returns-after-loop-at-clause-zeroes
returns-after-loop-at-clause-zeroes g c = λ picture is.
    let a = g.F.Fit.allocator in
    let old = c.args.segment.now in
    let window = c.window_mut-w.ensures.value ∙ ap (λ s. s.window) c.heap_mut.ensures.value in
    let heap : IsHeap a old.window.bytes = rw is.allocator_is at is.held.laid_out.heap in
    let zeroing = rw window at c.loop-at.invariant.zeroing in
    let z = zeroing heap in
    let end = rw window at c.len-end.ensures.len in
    let none = rest_none c.loop-at.w.bytes c.loop-at.at z.others z.rest (omega (arith, z.length_kept, c.loop-at-test.false)) in
    zeroes a old (record { window = c.loop-at.w; types = c.heap_mut.result.now.types }) picture is (ap (λ s. s.types) c.heap_mut.ensures.value) (zeroed_all a old.window.bytes c.loop-at.w.bytes c.loop-at.at heap z none)

pub returns-in_default-clause-zeroes : goal.returns-in_default-clause-zeroes
returns-in_default-clause-zeroes g c = λ picture is.
    let a = g.F.Fit.allocator in
    let old = c.args.segment.now in
    let window = c.window_mut-w.ensures.value ∙ ap (λ s. s.window) c.heap_mut.ensures.value in
    let heap : IsHeap a old.window.bytes = rw is.allocator_is at is.held.laid_out.heap in
    let zeroing = rw window at c.loop-at.invariant.zeroing in
    let z = zeroing heap in
    let none = reads_none c.loop-at.w.bytes c.loop-at.at z.others c.block_at.result z.rest c.in_default.is c.block_at.ensures.read in
    zeroes a old (record { window = c.loop-at.w; types = c.heap_mut.result.now.types }) picture is (ap (λ s. s.types) c.heap_mut.ensures.value) (zeroed_all a old.window.bytes c.loop-at.w.bytes c.loop-at.at heap z none)
