use Rattle.std.proofs.Common.{Ok, sym, ap, ◌∙◌}
use Rattle.seg_cells.specs.Places.{place_of}
use Rattle.seg_seq.proofs.TextCalls.{counted_all}
use Rattle.seg_seq.proofs.ItemCalls.{items_counted}
use Rattle.seg_seq.proofs.Fronts.{counted_items}
use Rattle.seg_seq.proofs.sequence.len.Goals as goal

pub returns-clause-text : goal.returns-clause-text
returns-clause-text g c = λ xs blocks t.
    let allocator = g.S.SegmentRead.allocator c.args.source.now in
    let stored = g.S.SegmentRead.stored c.args.source.now in
    ap (λ n. Ok n) (counted_all allocator stored (place_of c.args.sequence) xs blocks t c.count.result c.count.ensures)

pub returns-clause-vector : goal.returns-clause-vector
returns-clause-vector g c = λ U vs blocks h.
    let allocator = g.S.SegmentRead.allocator c.args.source.now in
    let stored = g.S.SegmentRead.stored c.args.source.now in
    ap (λ n. Ok n) (c.count.ensures ∙ sym (items_counted allocator stored c.args.sequence.at c.args.sequence.type_id U vs blocks h))

pub returns-clause-list : goal.returns-clause-list
returns-clause-list g c = λ U vs blocks h.
    let allocator = g.S.SegmentRead.allocator c.args.source.now in
    let stored = g.S.SegmentRead.stored c.args.source.now in
    ap (λ n. Ok n) (c.count.ensures ∙ counted_items allocator stored.window.bytes stored.types (place_of c.args.sequence) U h.form_is vs blocks h.stands)
