use Rattle.seg_bestfit.proofs.TreeChangeLaws.{joins_at}
use Rattle.seg_bestfit.proofs.free_tree.put_in.Goals as goal

pub returns-clause-joins : goal.returns-clause-joins
returns-clause-joins g c = λ small xs ys free holds unlinked.
    joins_at c.args.w.now.bytes c.insert.new.w.bytes xs (record { at = c.args.block.at; units = c.args.block.units }) ys c.free_tree.result.root c.free_tree.ensures small free holds unlinked (c.insert.ensures.added tt)
