use Rattle.std.proofs.Common.{Some, None, refl}
use Rattle.seg_bestfit.proofs.GapSearchLaws.{finds_none, never_unread, never_small, finds_best}
use Rattle.seg_bestfit.proofs.free_tree.best_fit.Goals as goal

pub returns-in_err-node-clause-best : goal.returns-in_err-node-clause-best
returns-in_err-node-clause-best g c = λ gs holds free low small.
    rw c.from_residual.ensures (finds_none c.args.w.now.bytes c.free_tree.result.root c.args.need None c.free_tree.ensures (c.in_err-node.ensures.node tt) gs holds free low small refl)

pub returns-in_err-gap-clause-best : goal.returns-in_err-gap-clause-best
returns-in_err-gap-clause-best g c = λ gs holds free low small.
    absurd (never_unread c.args.w.now.bytes c.free_tree.result.root c.args.need (Some c.in_ok-node.node) c.free_tree.ensures
    (c.in_ok-node.ensures.node tt) gs holds free low small c.in_ok-node.node refl c.in_err-gap.ensures.read)

pub returns-then-gap-need-clause-best : goal.returns-then-gap-need-clause-best
returns-then-gap-need-clause-best g c = λ gs holds free low small.
    absurd (never_small c.args.w.now.bytes c.free_tree.result.root c.args.need (Some c.in_ok-node.node) c.free_tree.ensures
    (c.in_ok-node.ensures.node tt) gs holds free low small c.in_ok-node.node refl c.in_ok-gap.gap c.in_ok-gap.ensures.read c.if-gap-need.true)

pub returns-clause-best : goal.returns-clause-best
returns-clause-best g c = λ gs holds free low small.
    finds_best c.args.w.now.bytes c.free_tree.result.root c.args.need (Some c.in_ok-node.node) c.free_tree.ensures
    (c.in_ok-node.ensures.node tt) gs holds free low small c.in_ok-node.node refl c.in_ok-gap.gap c.in_ok-gap.ensures.read
