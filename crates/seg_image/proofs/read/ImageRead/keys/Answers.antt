use Rattle.std.proofs.Common.{◌≡◌, length, refl, arith}
use Rattle.seg_image.proofs.read.ImageRead.keys.Goals as goal

pub returns-clause-first : goal.returns-clause-first
returns-clause-first g c = λ U keys vs blocks m s.
    let e = c.in_ok-left.ensures.keys U keys vs blocks m s in
    let same : c.in_ok-left.left ≡ length keys = cc in
    record { cursor = c.new.ensures.inside (g.Self.SegmentRead.stored c.args.self.now).window.bytes; left_is = refl; most = omega (arith, same) }
