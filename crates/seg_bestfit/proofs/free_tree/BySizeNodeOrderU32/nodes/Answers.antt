use Rattle.std.proofs.Common.{◌∙◌}
use Rattle.std.specs.Ordering.{nat_cmp}
use Rattle.seg_bestfit.specs.FreeTree.{node_units}
use Rattle.seg_bestfit.proofs.SizeOrder.{packed}
use Rattle.seg_bestfit.proofs.free_tree.BySizeNodeOrderU32.nodes.Goals as goal

pub returns : goal.returns
returns c = λ exact.
    let units = node_units c.args.view.bytes.now in
    c.cmp.ensures ∙ (λ i. nat_cmp (c.rank.ensures i) (c.rank-2.ensures i)) ∙ packed (units c.args.node) (units c.args.other) c.args.node c.args.other c.ranges.node.fits c.ranges.other.fits
