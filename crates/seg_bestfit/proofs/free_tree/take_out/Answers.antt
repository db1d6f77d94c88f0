use Rattle.seg_bestfit.proofs.TreeChangeLaws.{leaves_at}
use Rattle.seg_bestfit.proofs.free_tree.take_out.Goals as goal

pub returns-clause-leaves : goal.returns-clause-leaves
returns-clause-leaves g c = λ small xs ys free holds.
    leaves_at c.args.w.now.bytes c.remove.new.w.bytes xs (record { at = c.args.block.at; units = c.args.block.units }) ys c.free_tree.result.root c.free_tree.ensures small free holds (c.remove.ensures.removed tt)
