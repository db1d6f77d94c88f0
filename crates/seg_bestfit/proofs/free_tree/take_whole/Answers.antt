use Rattle.std.proofs.Common.{ap}
use Rattle.seg_spec.specs.Window.{Placement}
use Rattle.seg_spec.specs.Heap.{free_of}
use Rattle.seg_bestfit.proofs.GapReplacementLaws.{left_here}
use Rattle.seg_bestfit.proofs.GapAllocationLaws.{blocks_around, tree_around, made_live}
use Rattle.seg_bestfit.proofs.free_tree.take_whole.Goals as goal

pub returns-clause-tiles : goal.returns-clause-tiles
returns-clause-tiles g c = λ way xs ys was.
    let old = c.args.w.now.bytes in
    let mid = c.remove.new.w.bytes in
    let at = c.args.gap.at in
    let u = c.args.gap.units in
    let out = left_here old (free_of xs) (record { at = at; units = u }) (free_of ys) c.args.path.now was.tiled.small (blocks_around old xs ys at u was.tiled) (tree_around old xs ys at u was) way mid c.remove.ensures.removed in
    made_live old xs ys at u was mid out c.set_size.new.w.bytes (ap (λ (p : Placement). p.bytes) c.set_size.ensures)
