use Rattle.std.proofs.Common.{rules, ◌≡◌, ◌+◌, ◌%◌, ◌^◌, refl, sym, ◌∙◌, ap, subst, None, w64, of_z, SFits, ℤ}
use Rattle.std.proofs.lemmas.Int.{to_z-of_z}
use Rattle.seg_spec.specs.Bytes.{signed, set_word, set_long}
use Rattle.seg_spec.specs.Types.{Form, size}
use Rattle.seg_spec.specs.Value.{Int}
use Rattle.seg_spec.specs.Window.{Placement, KeepsHost}
use Rattle.seg_spec.proofs.Tables.TypeSizeLaws.{size-form}
use Rattle.seg_ptr.specs.Lent.{lent_to}
use Rattle.seg_cells.specs.Places.{object_at}
use Rattle.seg_value.specs.Stored.{Stored}
use Rattle.seg_seq.specs.Buffers.{LacksEntry, HasEntry}
use Rattle.seg_seq.specs.Sequences.{PushesItem}
use Rattle.seg_seq.proofs.InPlace.{lent_bytes, lent_keeps, lacks_item, item_at_word, number_pushed}
use Rattle.seg_seq.proofs.pushing.push_number_in_place.Goals as goal

signed_back : (z : ℤ) → SFits w64 z → signed (of_z w64 z) ≡ z
unfolding signed
signed_back z h = to_z-of_z w64 z h

pub returns-in_err-room-clause-vector : goal.returns-in_err-room-clause-vector
returns-in_err-room-clause-vector g c = λ T U vs blocks h number.
    let result : c.from_residual.result ≡ None = search rules in
    let here = c.view.ensures ∙ ap (λ (w : Placement). w.bytes) c.window.ensures in
    let eight : size c.args.heap.now.types U ≡ 8 = size-form c.args.heap.now.types h.stands.is_table U Form.i64 number in
    let lacks = subst (λ bytes. LacksEntry bytes c.args.cell 8) here c.in_err-room.ensures in
    rw result (lacks_item g.F.Fit.allocator c.args.heap.now c.args.cell T U vs blocks h (subst (LacksEntry c.args.heap.now.window.bytes c.args.cell) (sym eight) lacks))

pub returns-clause-window : goal.returns-clause-window
returns-clause-window g c =
    let w = c.window_mut.result.now in
    let new = c.put_number.new.bytes in
    subst (λ (old : Placement). KeepsHost old (lent_to w new)) c.window_mut.ensures.value (lent_keeps w c.bytes_mut-bytes.result.now new c.put_number.ensures.length c.bytes_mut-bytes.ensures.value)

pub returns-clause-vector : goal.returns-clause-vector
returns-clause-vector g c = λ T U vs blocks h number.
    let old = c.args.heap.now in
    let cell = c.args.cell in
    let room = c.in_ok-room.room in
    let len = (room.count + 1) % 2 ^ 32 in
    let eight : size old.types U ≡ 8 = size-form old.types h.stands.is_table U Form.i64 number in
    let here = c.view.ensures ∙ ap (λ (w : Placement). w.bytes) c.window.ensures in
    let has : HasEntry old.window.bytes cell (size old.types U) room = subst (λ z. HasEntry old.window.bytes cell z room) (sym eight) (subst (λ bytes. HasEntry bytes cell 8 room) here c.in_ok-room.ensures) in
    let w = c.window_mut.result.now in
    let new = c.put_number.new.bytes in
    let x = c.cast_unsigned.result in
    let lent = c.bytes_mut-bytes.ensures.value in
    let was = ap (λ (p : Placement). p.bytes) c.window_mut.ensures.value in
    let word = c.position.ensures ∙ item_at_word g.F.Fit.allocator old cell T U vs blocks h room has in
    let written = lent_bytes w c.bytes_mut-bytes.result.now new c.put_number.ensures.length lent in
    let put = ap (λ bytes. set_long (set_word bytes (cell + 4) len) room.at x) (lent ∙ was) ∙ ap (λ at. set_long (set_word old.window.bytes (cell + 4) len) at x) (sym word) in
    let same : x ≡ of_z w64 c.args.number = c.cast_unsigned.ensures ∙ ap (of_z w64) (to_z-of_z w64 c.args.number c.ranges.number) in
    let value = ap signed same ∙ signed_back c.args.number c.ranges.number in
    let after : Stored = record { window = lent_to w new; types = old.types } in
    subst (λ z. PushesItem (Int z) g.F.Fit.allocator old after (object_at cell T) U vs blocks c.position.result) value
    (number_pushed g.F.Fit.allocator old cell T U vs blocks h room has c.position.result len c.position.ensures refl number x c.cast_unsigned.type_inv after (written ∙ c.put_number.ensures.bytes ∙ put))
