use Rattle.lezgauri_uses.specs.Caches.{picture_of}
use Rattle.lezgauri_uses.proofs.TableLaws.{open_after}
use Rattle.lezgauri_uses.proofs.cache.Cache.open.Goals as goal

pub returns-clause-opens : goal.returns-clause-opens
returns-clause-opens c keys entries keeps =
    let image = c.in_ok-open.field-0 in
    c.in_ok-in_image.ensures.finds keys entries keeps.order_at keeps.values_at
    (open_after image c.args.image.items c.in_ok-open.ensures.opened c.in_ok-open.ensures.image c.in_ok-open.ensures.allocator (picture_of keeps.order_at keeps.values_at keys entries) keeps.held keeps.counted)
