use Rattle.seg_bestfit.proofs.TileMergeLaws.{lone-retiles}
use Rattle.seg_bestfit.proofs.free_tree.BestFitFreeStructure.release.Goals as goal

pub returns-clause-tiles : goal.returns-clause-tiles
returns-clause-tiles g c = λ xs ys _ was.
    lone-retiles c.args.w.now.bytes c.make_gap.new.w.bytes xs ys c.args.block.at c.args.block.units was c.make_gap.ensures.tiles
