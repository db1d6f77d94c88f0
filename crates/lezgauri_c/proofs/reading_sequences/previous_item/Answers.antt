use Rattle.std.proofs.Common.{refl, arith}
use Rattle.lezgauri.specs.CellPlaces.{place_of}
use Rattle.lezgauri_c.specs.Values.{allocator_in}
use Rattle.lezgauri_c.proofs.NextItemLaws.{item_below, previous_before, previous_none}
use Rattle.lezgauri_c.specs.KeptImages.{types_in}
use Rattle.lezgauri_c.proofs.reading_sequences.previous_item.Goals as goal

pub returns-in_err-first-clause-previous : goal.returns-in_err-first-clause-previous
returns-in_err-first-clause-previous c U i vs blocks has shows =
    let bytes = c.args.reader.view.bytes.now in
    let table = (types_in c.args.reader) in
    let list = place_of c.args.list in
    let less = item_below (allocator_in bytes) bytes table list U has.form_is vs blocks has.stands i c.args.item shows in
    let none = (c.in_err-first.ensures.first U vs blocks has).1 in
    absurd (omega (arith, less, none))

pub returns-then-item-first-clause-previous : goal.returns-then-item-first-clause-previous
returns-then-item-first-clause-previous c U i vs blocks has shows =
    let bytes = c.args.reader.view.bytes.now in
    let table = (types_in c.args.reader) in
    let list = place_of c.args.list in
    (refl, previous_none (allocator_in bytes) bytes table list U has.form_is vs blocks has.stands i c.args.item c.in_ok-first.first.at shows (c.in_ok-first.ensures.first U vs blocks has) c.if-item-first.true)

pub returns-clause-previous : goal.returns-clause-previous
returns-clause-previous c U i vs blocks has shows =
    let bytes = c.args.reader.view.bytes.now in
    let table = (types_in c.args.reader) in
    let list = place_of c.args.list in
    let before = c.previous.ensures (allocator_in bytes) U i list vs blocks has shows in
    previous_before (allocator_in bytes) bytes table list U has.form_is vs blocks has.stands i c.args.item c.previous.result c.in_ok-first.first.at shows before (c.in_ok-first.ensures.first U vs blocks has) c.if-item-first.false
