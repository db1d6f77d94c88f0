use Rattle.std.proofs.Common.{ap, arith}
use Rattle.seg_spec.specs.Window.{Placement}
use Rattle.seg_block.proofs.TileResizeLaws.{absorbs, absorbs_large}
use Rattle.seg_block.proofs.free_structure.absorb.Goals as goal

pub returns-then-more-eq0-clause-tiles : goal.returns-then-more-eq0-clause-tiles
returns-then-more-eq0-clause-tiles g c = λ xs ys leads was.
    let large = absorbs_large c.args.w.now.bytes xs ys c.args.block.at c.args.block.units c.args.more was in
    absurd (omega (arith, large, c.if-more-eq0.true))

pub returns-clause-tiles : goal.returns-clause-tiles
returns-clause-tiles g c = λ xs ys leads was.
    let predecessor = c.args.predecessor in
    absorbs (g.S.FreeStructure.leads predecessor) (g.met.S.FreeStructure.leads_past predecessor)
    c.args.w.now.bytes c.take.new.w.bytes c.join.new.w.bytes xs ys c.args.block.at c.args.block.units c.args.more leads was
    (λ zs e t. (c.take.ensures.tiles zs ys e t).0) (ap (λ (p : Placement). p.bytes) c.join.ensures.bytes)
