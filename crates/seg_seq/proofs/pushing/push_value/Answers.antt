use Rattle.std.proofs.Common.{rules, ◌≡◌, ◌+◌, ◌%◌, ◌^◌, refl, sym, ◌∙◌, ap, subst, None, zero-add}
use Rattle.seg_spec.specs.Bytes.{set_word}
use Rattle.seg_spec.specs.Types.{Table, size}
use Rattle.seg_spec.specs.Window.{Placement, with_bytes}
use Rattle.seg_spec.proofs.WindowLaws.{bytes_of}
use Rattle.seg_seq.specs.Buffers.{LacksEntry, HasEntry}
use Rattle.seg_seq.proofs.InPlace.{item_first, lacks_item, item_more, item_place, item_room}
use Rattle.seg_seq.proofs.ItemCalls.{item_pushed}
use Rattle.seg_seq.proofs.pushing.push_value.Goals as goal

pub returns-in_err-room-clause-vector : goal.returns-in_err-room-clause-vector
returns-in_err-room-clause-vector g c = λ T U vs blocks h same.
    let result : c.from_residual.result ≡ None = search rules in
    let here = c.view.ensures ∙ ap (λ (w : Placement). w.bytes) c.window.ensures in
    let size_is : c.size.result ≡ size c.args.heap.now.types U = c.size.ensures.value ∙ ap (λ (t : Table). size t c.args.type_id) c.types.ensures ∙ ap (size c.args.heap.now.types) same in
    let lacks = subst (λ bytes. LacksEntry bytes c.args.cell c.size.result) here c.in_err-room.ensures in
    rw result (lacks_item g.F.Fit.allocator c.args.heap.now c.args.cell T U vs blocks h (subst (LacksEntry c.args.heap.now.window.bytes c.args.cell) size_is lacks))

pub returns-clause-vector : goal.returns-clause-vector
returns-clause-vector g c = λ T U vs blocks h same.
    let old = c.args.heap.now in
    let cell = c.args.cell in
    let room = c.in_ok-room.room in
    let at = c.position-at.result in
    let len = (room.count + 1) % 2 ^ 32 in
    let size_is : c.size.result ≡ size old.types U = c.size.ensures.value ∙ ap (λ (t : Table). size t c.args.type_id) c.types.ensures ∙ ap (size old.types) same in
    let here = c.view.ensures ∙ ap (λ (w : Placement). w.bytes) c.window.ensures in
    let has : HasEntry old.window.bytes cell (size old.types U) room =
    subst (λ z. HasEntry old.window.bytes cell z room) size_is (subst (λ bytes. HasEntry bytes cell c.size.result room) here c.in_ok-room.ensures) in
    let more = item_more g.F.Fit.allocator old cell T U vs blocks h room has at len c.position-at.ensures refl in
    let there = item_place g.F.Fit.allocator old cell T U vs blocks h room has at len c.position-at.ensures refl in
    let counted = c.set_count.new.self in
    let written = bytes_of counted.window (with_bytes old.window (set_word old.window.bytes (cell + 4) len)) c.set_count.ensures.window in
    item_pushed g.F.Fit.allocator old cell T U vs blocks h (size old.types U) room.count len (sym (zero-add (size old.types U))) has.count_is more old counted
    c.init_default.new.self (item_room g.F.Fit.allocator old cell T U vs blocks h room has at len c.position-at.ensures refl) written c.set_count.ensures.types
    has.start 0 at c.args.type_id (item_first g.F.Fit.allocator old cell T U vs blocks h room has) refl there same c.init_default.ensures.changes c.init_default.ensures.default
