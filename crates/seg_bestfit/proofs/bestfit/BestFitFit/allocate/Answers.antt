use Rattle.std.proofs.Common.{length, sym, ap, arith}
use Rattle.std.specs.Prelude.{⊤}
use Rattle.seg_spec.specs.Window.{Placement}
use Rattle.seg_spec.specs.Heap.{heap_start, tiles, gaps}
use Rattle.seg_spec.proofs.Heap.GapPickLaws.{best_fit-smallest}
use Rattle.seg_spec.proofs.Heap.TileLaws.{Fill-le}
use Rattle.seg_block.proofs.FreeTiles.{heap_free_blocks, takes_gap, takes_gap_front}
use Rattle.seg_block.proofs.ResizedBlockLaws.{granted_part}
use Rattle.seg_block.proofs.GapAllocationLaws.{takes_none}
use Rattle.seg_bestfit.proofs.Fronts.{rest_in_place}
use Rattle.seg_bestfit.proofs.GapAllocationLaws.{blocks_around, tree_around}
use Rattle.seg_bestfit.proofs.bestfit.BestFitFit.allocate.Goals as goal

pub returns-in_err-gap-clause-takes : goal.returns-in_err-gap-clause-takes
returns-in_err-gap-clause-takes g c = λ h.
    let old = c.args.w.now.bytes in
    takes_none old c.args.need c.from_residual.result h (c.in_err-gap.ensures.best (gaps old) h.free (heap_free_blocks old h) (Fill-le (tiles old) heap_start (length old) h.filled) h.small) c.from_residual.ensures

pub returns-clause-takes : goal.returns-clause-takes
returns-clause-takes g c = λ h.
    let old = c.args.w.now.bytes in
    let gap = c.in_ok-gap.gap in
    let bytes = λ (p : Placement). p.bytes in
    let best = c.in_ok-gap.ensures.best (gaps old) h.free (heap_free_blocks old h) (Fill-le (tiles old) heap_start (length old) h.filled) h.small in
    let s = best_fit-smallest (gaps old) c.args.need (record { at = gap.at; units = gap.units }) best in
    takes_gap (λ _. ⊤) old c.args.need gap.at gap.units h best s.before s.after s.gaps_are c.cut.new.w.bytes c.granted.result c.take_whole.new.w.bytes tt c.granted.ensures c.requires (omega (arith, c.in_ok-gap.ensures.bounds))
    (λ xs ys _ was. c.take_whole.ensures.tiles c.in_ok-gap.ensures.leads xs ys was) (λ k. ap bytes (c.cut.ensures.whole k)) c.cut.ensures.tiles

pub returns-then-gap-need-clause-takes : goal.returns-then-gap-need-clause-takes
returns-then-gap-need-clause-takes g c = λ h.
    let old = c.args.w.now.bytes in
    let gap = c.in_ok-gap.gap in
    let low = Fill-le (tiles old) heap_start (length old) h.filled in
    let best = c.in_ok-gap.ensures.best (gaps old) h.free (heap_free_blocks old h) low h.small in
    let s = best_fit-smallest (gaps old) c.args.need (record { at = gap.at; units = gap.units }) best in
    let part = granted_part gap.units c.args.need (omega arith) in
    takes_gap_front (λ _. ⊤) old c.args.need gap.at gap.units h best s.before s.after s.gaps_are c.take_front.new.w.bytes c.args.need tt (sym part) c.requires (omega arith) (λ e. omega (arith, e))
    (λ xs ys _ was. c.take_front.ensures.tiles c.in_ok-gap.ensures.leads xs ys was (rest_in_place old xs ys gap.at gap.units c.args.need was (omega arith) (omega arith)
    (c.in_ok-gap.ensures.best _ (tree_around old xs ys gap.at gap.units was) (blocks_around old xs ys gap.at gap.units was.tiled) low h.small)))
