use Rattle.std.proofs.Common.{◌-◌, ap, arith}
use Rattle.seg_spec.specs.Window.{Placement}
use Rattle.seg_block.proofs.TileResizeLaws.{cuts}
use Rattle.seg_block.proofs.free_structure.cut.Goals as goal

pub returns-then-units-block-clause-tiles : goal.returns-then-units-block-clause-tiles
returns-then-units-block-clause-tiles g c = λ enough xs ys leads was.
    let predecessor = c.args.predecessor in
    let n = c.args.block.units in
    let u = c.args.units in
    cuts (g.S.FreeStructure.leads predecessor) (g.met.S.FreeStructure.leads_past predecessor)
    c.args.w.now.bytes c.split.new.w.bytes c.release.new.w.bytes xs ys c.args.block.at n u (n - u) leads was
    (omega arith) c.requires.front (omega arith) (ap (λ (p : Placement). p.bytes) c.split.ensures.bytes)
    (λ zs e t. c.release.ensures.tiles zs ys e t)
