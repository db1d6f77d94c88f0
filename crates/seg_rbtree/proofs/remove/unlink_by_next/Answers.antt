use Rattle.std.proofs.Common.{◌≢◌, ◌+◌, List, ℕ, None, ◌∷◌, ap, sym, subst}
use Rattle.seg_spec.specs.Window.{Placement}
use Rattle.seg_spec.specs.Pointer.{target}
use Rattle.seg_rbtree.proofs.NodeRemovalLaws.{as_part}
use Rattle.seg_rbtree.proofs.NextNode.{by_next, no_next}
use Rattle.seg_rbtree.specs.declared.node.Side.TheVariants.{Right}
use Rattle.seg_spec.specs.Shapes.{fork}
use Rattle.seg_rbtree.specs.Removing.{layer_at}
use Rattle.seg_rbtree.proofs.remove.unlink_by_next.Goals as goal

pub returns-clause-unlinked : goal.returns-clause-unlinked
returns-clause-unlinked g c = λ layers left right colour s r few some.
    by_next c.args.w.now.bytes c.unlink_lone-gone.new.w.bytes c.take_place.new.w.bytes c.set_at.new.w.bytes c.args.path.now c.descend_to_next.new.path c.set_step.new.self c.args.node c.in-Some.next c.len-depth.result
    c.unlink_lone-gone.result c.descend_to_next.result
    c.len-depth.ensures.len c.descend_to_next.ensures.root c.set_step.ensures.root c.in-Some.is c.unlink_lone-gone.ensures.gone (ap (λ (p : Placement). p.bytes) c.unlink_lone-gone.ensures.set)
    (ap (λ (p : Placement). p.bytes) c.take_place.ensures)
    c.set_step.ensures.replaced (λ low. ap (λ (p : Placement). p.bytes) (c.set_at.ensures.set low)) layers left right colour s r few
    (c.descend_to_next.ensures.descended layers left right colour (as_part c.args.w.now.bytes c.view.result.bytes.now c.args.path.now layers (fork left c.args.node colour right) c.view.ensures s r few)
    (subst (λ (bs : List ℕ). target bs (c.args.node + 4) ≢ None) (sym c.view.ensures) some))

pub returns-in_default-clause-unlinked : goal.returns-in_default-clause-unlinked
returns-in_default-clause-unlinked g c = λ layers left right colour s r few some.
    absurd (no_next c.descend_to_next.new.path (layer_at Right c.args.node colour left ∷ layers) right c.descend_to_next.result c.in_default.is
    (c.descend_to_next.ensures.descended layers left right colour (as_part c.args.w.now.bytes c.view.result.bytes.now c.args.path.now layers (fork left c.args.node colour right) c.view.ensures s r few)
    (subst (λ (bs : List ℕ). target bs (c.args.node + 4) ≢ None) (sym c.view.ensures) some)))
