use Rattle.lezgauri.specs.Images.{segment_of}
use Rattle.lezgauri.specs.Segments.{IsSegment}
use Rattle.std.proofs.Common.{sym, subst}
use Rattle.lezgauri_uses.specs.Caches.{picture_of}
use Rattle.lezgauri_uses.proofs.cache.Cache.make_room.Goals as goal

pub returns-in_ok-grow-clause-same : goal.returns-in_ok-grow-clause-same
returns-in_ok-grow-clause-same c keys entries is =
    let cache = c.args.self.now in
    let picture = picture_of cache.order.at cache.values.at keys entries in
    let grown = c.in_ok-grow.ensures.grows picture is.is_open in
    record {
      is_open = subst (λ a. IsSegment a (segment_of c.grow.new.self) picture) (sym c.grow.ensures.allocator) grown.segment;
      order_type = is.order_type;
      values_type = is.values_type;
    }
