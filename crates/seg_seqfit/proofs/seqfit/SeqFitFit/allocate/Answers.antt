use Rattle.std.proofs.Common.{◌+◌, ◌-◌, ◌*◌, true, false, List, [], ◌∷◌, ℕ, Some, sym, subst, arith}
use Rattle.seg_spec.specs.Heap.{gaps, Takes}
use Rattle.seg_block.specs.Tiling.{tile}
use Rattle.seg_block.proofs.GapAllocationLaws.{takes_none}
use Rattle.seg_block.proofs.FreeTiles.{heap_free_blocks, takes_gap_whole, takes_gap_front}
use Rattle.seg_seqfit.proofs.LentBytesLaws.{lent_bytes, lent_keeps, TakesGap}
use Rattle.seg_seqfit.proofs.Places.{Place, place_of_gap}
use Rattle.seg_seqfit.proofs.seqfit.SeqFitFit.allocate.Goals as goal

pub returns-in_err-link-clause-takes : goal.returns-in_err-link-clause-takes
returns-in_err-link-clause-takes g c = λ h.
    let old = c.args.w.now.bytes in
    takes_none old c.args.need c.from_residual.result h (c.in_err-link.ensures.first (gaps old) h.free (heap_free_blocks old h)) c.from_residual.ensures

pub returns-then-units-block-clause-host : goal.returns-then-units-block-clause-host
returns-then-units-block-clause-host g c = lent_keeps c.args.w.now c.bytes_mut-bytes.result.now c.take_whole.new.bytes c.take_whole.ensures.length c.bytes_mut-bytes.ensures.value

pub returns-else-units-block-clause-host : goal.returns-else-units-block-clause-host
returns-else-units-block-clause-host g c = lent_keeps c.args.w.now c.bytes_mut-bytes.result.now c.take_front.new.bytes c.take_front.ensures.length c.bytes_mut-bytes.ensures.value

pub returns-then-units-block-clause-takes : goal.returns-then-units-block-clause-takes
returns-then-units-block-clause-takes g c = λ h.
    let old = c.args.w.now.bytes in
    let link = c.in_ok-link.field-0.link in
    let gap = c.in_ok-link.field-0.block in
    let new = c.take_whole.new.bytes in
    let lent = c.bytes_mut-bytes.ensures.value in
    let f = c.in_ok-link.ensures.first (gaps old) h.free (heap_free_blocks old h) in
    let written = lent_bytes c.args.w.now c.bytes_mut-bytes.result.now new c.take_whole.ensures.length lent in
    let takes = subst (λ (b : List ℕ). TakesGap b new link gap.at gap.units c.in_ok-link.field-0.next (tile gap.at gap.units true ∷ [])) lent c.take_whole.ensures.tiles in
    subst (λ (b : List ℕ). Takes 0 old b c.args.need (Some gap.at)) (sym written)
    (takes_gap_whole (Place link) old c.args.need gap.at gap.units h f.is_first f.seen f.rest f.parts new c.granted-units.result
    (place_of_gap old c.args.need link gap.at gap.units h f) c.granted-units.ensures (omega (arith, c.in_ok-link.ensures.bounds)) c.if-units-block.true
    (λ xs ys place was. takes xs ys place c.in_ok-link.ensures.next was))

pub returns-else-units-block-clause-takes : goal.returns-else-units-block-clause-takes
returns-else-units-block-clause-takes g c = λ h.
    let old = c.args.w.now.bytes in
    let link = c.in_ok-link.field-0.link in
    let gap = c.in_ok-link.field-0.block in
    let u = c.granted-units.result in
    let new = c.take_front.new.bytes in
    let lent = c.bytes_mut-bytes.ensures.value in
    let f = c.in_ok-link.ensures.first (gaps old) h.free (heap_free_blocks old h) in
    let written = lent_bytes c.args.w.now c.bytes_mut-bytes.result.now new c.take_front.ensures.length lent in
    let takes = subst (λ (b : List ℕ). TakesGap b new link gap.at gap.units c.in_ok-link.field-0.next (tile gap.at u true ∷ tile (gap.at + 16 * u) (gap.units - u) false ∷ [])) lent
    c.take_front.ensures.tiles in
    subst (λ (b : List ℕ). Takes 0 old b c.args.need (Some gap.at)) (sym written)
    (takes_gap_front (Place link) old c.args.need gap.at gap.units h f.is_first f.seen f.rest f.parts new u
    (place_of_gap old c.args.need link gap.at gap.units h f) c.granted-units.ensures c.requires (omega (arith, c.in_ok-link.ensures.bounds)) c.if-units-block.false
    (λ xs ys place was. takes xs ys place c.in_ok-link.ensures.next was))
