use Rattle.std.proofs.Common.{◌∙◌, ap, sym}
use Rattle.seg_spec.specs.Window.{Placement}
use Rattle.seg_rbtree.specs.declared.node.Side.TheVariants.{Left, Right}
use Rattle.seg_rbtree.proofs.NodeRemovalLaws.{lone_unlinked, any_unlinked, nothing_there, something_there}
use Rattle.seg_rbtree.proofs.remove.unlink.Goals as goal

pub returns-then-is_none-clause-unlinked : goal.returns-then-is_none-clause-unlinked
returns-then-is_none-clause-unlinked g c =
    lone_unlinked c.args.w.now.bytes c.unlink_lone.new.w.bytes c.args.path.now c.args.node Left c.unlink_lone.result c.unlink_lone.ensures.gone
    (sym c.child.ensures ∙ nothing_there c.child.result c.is_none.result c.is_none.ensures c.if-is_none.true) (ap (λ (p : Placement). p.bytes) c.unlink_lone.ensures.set)

pub returns-then-is_none-2-clause-unlinked : goal.returns-then-is_none-2-clause-unlinked
returns-then-is_none-2-clause-unlinked g c =
    lone_unlinked c.args.w.now.bytes c.unlink_lone-then-is_none-2.new.w.bytes c.args.path.now c.args.node Right c.unlink_lone-then-is_none-2.result c.unlink_lone-then-is_none-2.ensures.gone
    (sym c.child-2.ensures ∙ nothing_there c.child-2.result c.is_none-2.result c.is_none-2.ensures c.if-is_none-2.true) (ap (λ (p : Placement). p.bytes) c.unlink_lone-then-is_none-2.ensures.set)

pub returns-clause-unlinked : goal.returns-clause-unlinked
returns-clause-unlinked g c =
    any_unlinked c.args.w.now.bytes c.unlink_by_next.new.w.bytes c.args.path.now c.unlink_by_next.new.path c.args.node c.unlink_by_next.result
    (λ e. something_there c.child-2.result c.is_none-2.result c.is_none-2.ensures c.if-is_none-2.false (c.child-2.ensures ∙ e))
    (λ layers left right colour s r few some. c.unlink_by_next.ensures.unlinked layers left right colour s r few some)
