use Rattle.std.proofs.Common.{◌≡◌, ◌+◌, ◌*◌, ◌<◌, arith}
use Rattle.seg_spec.specs.Types.{size}
use Rattle.seg_image.proofs.NamedItems.{item_fits, item_place_is}
use Rattle.seg_image.proofs.read.ImageRead.find_item.Goals as goal

pub returns : goal.returns
returns g c = λ picture held.
    let stored = g.Self.SegmentRead.stored c.args.self.now in
    let allocator = g.Self.SegmentRead.allocator c.args.self.now in
    let found = c.in_ok-found.found in
    let found_is = c.in_ok-found.ensures picture held in
    let below : c.args.index < found.count = omega (arith, c.if-index-from.false, c.from.ensures) in
    let fits = item_fits allocator stored picture held c.args.name.now c.args.t found found_is c.args.index below in
    let each : c.size.result ≡ size stored.types c.args.t = rw c.types.ensures at c.size.ensures.value in
    let times = rw each at c.saturating_mul-from.ensures in
    let at : c.saturating_add.result ≡ found.at + c.args.index * size stored.types c.args.t = omega (arith, times, fits, c.saturating_add.ensures) in
    rw (← found_is) (item_place_is stored.types c.args.t c.args.index found c.saturating_add.result below at)
