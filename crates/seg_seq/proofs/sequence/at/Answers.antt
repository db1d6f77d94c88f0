use Rattle.std.proofs.Common.{refl, arith}
use Rattle.seg_cells.specs.Places.{place_of}
use Rattle.seg_seq.proofs.TextCalls.{counted_all}
use Rattle.seg_seq.proofs.ItemCalls.{items_counted, vector_entry}
use Rattle.seg_seq.proofs.ItemPositionLaws.{shows_byte, shows_item}
use Rattle.seg_seq.proofs.Fronts.{counted_items, item_found}
use Rattle.seg_seq.proofs.SequenceKinds.{buffer_text, buffer_vector}
use Rattle.seg_seq.proofs.sequence.at.Goals as goal

pub returns-then-index-count-clause-text : goal.returns-then-index-count-clause-text
returns-then-index-count-clause-text g c = λ xs blocks t.
    let allocator = g.S.SegmentRead.allocator c.args.source.now in
    let stored = g.S.SegmentRead.stored c.args.source.now in
    let all = counted_all allocator stored (place_of c.args.sequence) xs blocks t c.count.result c.count.ensures in
    record { code_is = refl; past = omega (arith, c.if-index-count.true) }

pub returns-then-index-count-clause-vector : goal.returns-then-index-count-clause-vector
returns-then-index-count-clause-vector g c = λ U vs blocks h.
    let allocator = g.S.SegmentRead.allocator c.args.source.now in
    let stored = g.S.SegmentRead.stored c.args.source.now in
    let all = items_counted allocator stored c.args.sequence.at c.args.sequence.type_id U vs blocks h in
    record { code_is = refl; past = omega (arith, c.if-index-count.true, c.count.ensures) }

pub returns-in-Text-clause-text : goal.returns-in-Text-clause-text
returns-in-Text-clause-text g c = λ xs blocks t.
    let allocator = g.S.SegmentRead.allocator c.args.source.now in
    let stored = g.S.SegmentRead.stored c.args.source.now in
    let names = buffer_text stored.types c.args.sequence.type_id c.in_ok-kind.content c.in_ok-kind.kind c.in-Text.is c.in_ok-kind.ensures t.form_is in
    shows_byte allocator stored (place_of c.args.sequence) xs blocks t c.args.index c.start.result c.in_ok-kind.content.entry.size c.in_ok-kind.content.entry.before c.value_at.result
    (omega (arith, c.if-index-count.false, c.count.ensures)) c.start.ensures names.size_is names.before_is c.value_at.ensures

pub returns-in-Text-clause-vector : goal.returns-in-Text-clause-vector
returns-in-Text-clause-vector g c = λ U vs blocks h.
    let allocator = g.S.SegmentRead.allocator c.args.source.now in
    let stored = g.S.SegmentRead.stored c.args.source.now in
    let names = buffer_vector stored.types c.args.sequence.type_id c.in_ok-kind.content c.in_ok-kind.kind c.in-Text.is c.in_ok-kind.ensures U h.form_is in
    let entry = vector_entry stored.types c.args.sequence.type_id U c.in_ok-kind.content h.form_is names in
    shows_item allocator stored c.args.sequence.at c.args.sequence.type_id U vs blocks h c.args.index c.start.result c.in_ok-kind.content.entry.size c.in_ok-kind.content.entry.before c.value_at.result
    (omega (arith, c.if-index-count.false, c.count.ensures)) c.start.ensures entry.size_is entry.before_is c.value_at.ensures

pub returns-then-index-count-clause-list : goal.returns-then-index-count-clause-list
returns-then-index-count-clause-list g c = λ U vs blocks h.
    let allocator = g.S.SegmentRead.allocator c.args.source.now in
    let stored = g.S.SegmentRead.stored c.args.source.now in
    let all = counted_items allocator stored.window.bytes stored.types (place_of c.args.sequence) U h.form_is vs blocks h.stands in
    record { code_is = refl; past = omega (arith, c.if-index-count.true, c.count.ensures) }

pub returns-in-List-clause-list : goal.returns-in-List-clause-list
returns-in-List-clause-list g c = λ U vs blocks h.
    let allocator = g.S.SegmentRead.allocator c.args.source.now in
    let stored = g.S.SegmentRead.stored c.args.source.now in
    let all = counted_items allocator stored.window.bytes stored.types (place_of c.args.sequence) U h.form_is vs blocks h.stands in
    item_found allocator stored.window.bytes stored.types (place_of c.args.sequence) U h.form_is vs blocks h.stands c.args.index c.node_at.result c.item_of.result
    (omega (arith, c.if-index-count.false, c.count.ensures)) c.node_at.ensures c.item_of.ensures
