use Rattle.std.proofs.Common.{◌+◌, List, ℕ, ap, subst}
use Rattle.seg_spec.specs.Window.{Placement}
use Rattle.seg_rbtree.specs.Paths.{RenamesAt}
use Rattle.seg_bestfit.proofs.GapJoinLaws.{down-retiles, moved-retiles, makes_alone, makes_with}
use Rattle.seg_bestfit.proofs.free_tree.release_joined.Goals as goal

pub returns-then-more-eq0-clause-tiles : goal.returns-then-more-eq0-clause-tiles
returns-then-more-eq0-clause-tiles g c =
    makes_alone c.args.w.now.bytes c.make_gap.new.w.bytes c.args.block.at c.args.block.units c.args.more c.if-more-eq0.true c.make_gap.ensures.tiles

pub returns-then-is_last-clause-tiles : goal.returns-then-is_last-clause-tiles
returns-then-is_last-clause-tiles g c =
    let old = c.args.w.now.bytes in
    let at = c.args.block.at in
    let path = c.lead_to.new.path in
    let new = c.replace.new.w.bytes in
    makes_with old new at c.args.block.units c.args.more c.if-more-eq0.false (λ xs ms ys t was holds fill.
    down-retiles old xs ms ys t at c.args.block.units c.args.more was holds fill new path c.lead_to.ensures (c.is_last.ensures.only c.if-is_last.true)
    (subst (λ (b : List ℕ). RenamesAt b new path (at + 16)) (ap (λ (p : Placement). p.bytes) c.set_free.ensures) c.replace.ensures.replaced))

pub returns-else-is_last-clause-tiles : goal.returns-else-is_last-clause-tiles
returns-else-is_last-clause-tiles g c =
    let old = c.args.w.now.bytes in
    let new = c.make_gap-else-is_last.new.w.bytes in
    makes_with old new c.args.block.at c.args.block.units c.args.more c.if-more-eq0.false (λ xs ms ys t was holds fill.
    moved-retiles old xs ms ys t c.args.block.at c.args.block.units c.args.more was holds fill c.remove.new.w.bytes new c.lead_to.new.path c.lead_to.ensures c.remove.ensures.removed c.make_gap-else-is_last.ensures.tiles)
