use Rattle.std.proofs.Common.{ap}
use Rattle.seg_spec.specs.Window.{Placement}
use Rattle.seg_spec.specs.Heap.{free_of}
use Rattle.seg_bestfit.proofs.GapAllocationLaws.{blocks_around, tree_around, made_live}
use Rattle.seg_bestfit.proofs.free_tree.BestFitFreeStructure.take.Goals as goal

pub returns-clause-tiles : goal.returns-clause-tiles
returns-clause-tiles g c = λ xs ys _ was.
    let old = c.args.w.now.bytes in
    let mid = c.take_out.new.w.bytes in
    let at = c.args.block.at in
    let u = c.args.block.units in
    let out = c.take_out.ensures.leaves was.tiled.small (free_of xs) (free_of ys) (blocks_around old xs ys at u was.tiled) (tree_around old xs ys at u was) in
    made_live old xs ys at u was mid out c.set_size.new.w.bytes (ap (λ (p : Placement). p.bytes) c.set_size.ensures)
