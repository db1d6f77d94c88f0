use Rattle.std.proofs.Common.{◌+◌, ◌*◌, ◌≤◌, true, false, List, ℕ, [], ◌∷◌, length, refl, sym, subst, arith}
use Rattle.seg_spec.specs.Heap.{heap_start}
use Rattle.seg_spec.proofs.Heap.TileLaws.{Fill-le}
use Rattle.seg_block.specs.Tiling.{tile, Retiles}
use Rattle.seg_block.proofs.TileReplacementLaws.{around}
use Rattle.seg_seqfit.proofs.LentBytesLaws.{lent_bytes, lent_keeps, PutsIn}
use Rattle.seg_seqfit.proofs.free_list.SeqFitFreeStructure.release.Goals as goal
use Rattle.seg_seqfit.proofs.free_list.SeqFitFreeStructure.release.Goals.{else-block-ge2-via-then-block-ge2+else-block-len, else-block-ge2-via-else-block-ge2}

pub returns-then-block-len-clause-host : goal.returns-then-block-len-clause-host
returns-then-block-len-clause-host g c = lent_keeps c.args.w.now c.bytes_mut.result.now c.put_in.new.bytes c.put_in.ensures.length c.bytes_mut.ensures.value

pub returns-then-block-len-clause-tiles : goal.returns-then-block-len-clause-tiles
returns-then-block-len-clause-tiles g c = λ xs ys link_is was.
    let old = c.args.w.now.bytes in
    let at = c.args.block.at in
    let u = c.args.block.units in
    let new = c.put_in.new.bytes in
    let parts = around xs ys heap_start (length old) at u true was.tiled.filled in
    let written = lent_bytes c.args.w.now c.bytes_mut.result.now new c.put_in.ensures.length c.bytes_mut.ensures.value in
    let puts = subst (λ (b : List ℕ). PutsIn b new c.args.link at u c.target-next.result) c.bytes_mut.ensures.value c.put_in.ensures.tiles in
    subst (λ (b : List ℕ). Retiles 0 old b xs (tile at u false ∷ []) ys) (sym written) (puts xs [] ys (tile at u true) link_is was (refl, parts.1, refl) c.target-next.ensures)

-- a tile lies in the segment
pub returns-else-block-ge2-clause-tiles : goal.returns-else-block-ge2-clause-tiles
returns-else-block-ge2-clause-tiles g c = λ xs ys link_is was.
    let old = c.args.w.now.bytes in
    let parts = around xs ys heap_start (length old) c.args.block.at c.args.block.units true was.tiled.filled in
    let large : 2 ≤ c.args.block.units = parts.1 in
    let inside : c.args.block.at + 16 * c.args.block.units ≤ length old = Fill-le ys (c.args.block.at + 16 * c.args.block.units) (length old) parts.2 in
    elim c.else-block-ge2.branch [
      | else-block-ge2-via-then-block-ge2+else-block-len w ↦ absurd (omega (arith, w.if-block-len, w.len.ensures.len))
      | else-block-ge2-via-else-block-ge2 w ↦ absurd (omega (arith, w.if-block-ge2))
    ]
