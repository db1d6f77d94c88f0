use Rattle.std.proofs.Common.{◌+◌, ◌*◌, ◌%◌, ◌^◌, ap, ◌∙◌}
use Rattle.seg_cells.specs.NameEntries.{entry_read}
use Rattle.seg_index.proofs.FlatEntries.{flat_reads}
use Rattle.seg_index.proofs.flat.entry_at.Goals as goal

pub returns : goal.returns
returns g c = λ names blocks f flat root at.
    let stored = g.S.SegmentRead.stored c.args.source.now in
    c.entry_from.ensures ∙ ap (λ bytes. entry_read bytes ((c.start.result + c.args.index * 8) % 2 ^ 32)) c.view.ensures
    ∙ ap (λ first. entry_read stored.window.bytes ((first + c.args.index * 8) % 2 ^ 32)) c.start.ensures
    ∙ flat_reads (g.S.SegmentRead.allocator c.args.source.now) stored.window.bytes stored.types names blocks f flat c.args.index root at
