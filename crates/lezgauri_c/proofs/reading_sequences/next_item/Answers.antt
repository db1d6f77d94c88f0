use Rattle.std.proofs.Common.{refl, arith}
use Rattle.lezgauri.specs.CellPlaces.{place_of}
use Rattle.lezgauri_c.specs.Values.{allocator_in}
use Rattle.lezgauri_c.proofs.NextItemLaws.{item_below, next_after, next_none}
use Rattle.lezgauri_c.specs.KeptImages.{types_in}
use Rattle.lezgauri_c.proofs.reading_sequences.next_item.Goals as goal

pub returns-in_err-first-clause-next : goal.returns-in_err-first-clause-next
returns-in_err-first-clause-next c U i vs blocks has shows =
    let bytes = c.args.reader.view.bytes.now in
    let table = (types_in c.args.reader) in
    let list = place_of c.args.list in
    let less = item_below (allocator_in bytes) bytes table list U has.form_is vs blocks has.stands i c.args.item shows in
    let none = (c.in_err-first.ensures.first U vs blocks has).1 in
    absurd (omega (arith, less, none))

pub returns-then-at-first-clause-next : goal.returns-then-at-first-clause-next
returns-then-at-first-clause-next c U i vs blocks has shows =
    let bytes = c.args.reader.view.bytes.now in
    let table = (types_in c.args.reader) in
    let list = place_of c.args.list in
    let after = c.next-at.ensures (allocator_in bytes) U i list vs blocks has shows in
    (refl, next_none (allocator_in bytes) bytes table list U has.form_is vs blocks has.stands i c.args.item c.next-at.result c.in_ok-first.first.at shows after (c.in_ok-first.ensures.first U vs blocks has) c.if-at-first.true)

pub returns-clause-next : goal.returns-clause-next
returns-clause-next c U i vs blocks has shows =
    let bytes = c.args.reader.view.bytes.now in
    let table = (types_in c.args.reader) in
    let list = place_of c.args.list in
    let after = c.next-at.ensures (allocator_in bytes) U i list vs blocks has shows in
    next_after (allocator_in bytes) bytes table list U has.form_is vs blocks has.stands i c.args.item c.next-at.result c.in_ok-first.first.at shows after (c.in_ok-first.ensures.first U vs blocks has) c.if-at-first.false
