use Rattle.seg_index.proofs.FlatEntries.{entry_got, entry_missing}
use Rattle.seg_index.proofs.flat.entry_of.Goals as goal

pub returns-then-index-count : goal.returns-then-index-count
returns-then-index-count g c = λ names blocks f flat.
    let stored = g.S.SegmentRead.stored c.args.source.now in
    entry_got (g.S.SegmentRead.allocator c.args.source.now) stored.window.bytes stored.types names blocks f flat c.args.index c.count.result c.entry_at.result c.count.ensures c.if-index-count.true (c.entry_at.ensures names blocks f flat)

pub returns-else-index-count : goal.returns-else-index-count
returns-else-index-count g c = λ names blocks f flat.
    let stored = g.S.SegmentRead.stored c.args.source.now in
    entry_missing (g.S.SegmentRead.allocator c.args.source.now) stored.window.bytes stored.types names blocks f flat c.args.index c.count.result c.count.ensures c.if-index-count.false
