use Rattle.std.proofs.Common.{rules, ◌≡◌, ◌+◌, ◌%◌, ◌^◌, ◌<◌, ◌≤◌, ◌∷◌, ◌∙◌, [], length, refl, ap, subst, arith, None}
use Rattle.seg_spec.specs.Bytes.{set_byte, set_word}
use Rattle.seg_spec.specs.Window.{Placement, with_bytes}
use Rattle.seg_spec.proofs.WindowLaws.{bytes_of}
use Rattle.seg_cells.specs.Places.{place_of}
use Rattle.seg_value.specs.Stored.{Stored}
use Rattle.seg_seq.specs.Buffers.{LacksEntry, HasEntry}
use Rattle.seg_seq.proofs.InPlace.{text_form, lacks_byte, byte_more, byte_at, byte_room}
use Rattle.seg_seq.proofs.TextCalls.{counted_all, all_kept, makes_room, written_to, one_byte}
use Rattle.seg_seq.proofs.text.push_byte_in_place.Goals as goal

pub returns-in_err-room-clause-text : goal.returns-in_err-room-clause-text
returns-in_err-room-clause-text g c = λ xs blocks t.
    let result : c.from_residual.result ≡ None = search rules in
    let here = c.view.ensures ∙ ap (λ (w : Placement). w.bytes) c.window.ensures in
    let lacks = subst (λ bytes. LacksEntry bytes c.args.text.at 1) here c.in_err-room.ensures in
    rw result (lacks_byte g.F.Fit.allocator c.args.heap.now (place_of c.args.text) xs blocks t lacks)

pub returns-clause-text : goal.returns-clause-text
returns-clause-text g c = λ xs blocks t.
    let old = c.args.heap.now in
    let place = place_of c.args.text in
    let room = c.in_ok-room.room in
    let len = (room.count + 1) % 2 ^ 32 in
    let here = c.view.ensures ∙ ap (λ (w : Placement). w.bytes) c.window.ensures in
    let has = subst (λ bytes. HasEntry bytes place.at 1 room) here c.in_ok-room.ensures in
    let all = counted_all g.F.Fit.allocator old place xs blocks t room.count has.count_is in
    let kept = all_kept g.F.Fit.allocator old place xs blocks t room.count has.count_is in
    let few : room.count ≤ length xs = omega arith in
    let counted = c.set_count.new.self in
    let counts = bytes_of counted.window (with_bytes old.window (set_word old.window.bytes (place.at + 4) len)) c.set_count.ensures.window in
    let more = byte_more g.F.Fit.allocator old place xs blocks t room has len refl in
    let made = makes_room g.F.Fit.allocator old place xs blocks t room.count 1 old counted 1 len room.at refl more few (byte_room g.F.Fit.allocator old place xs blocks t room has len refl) counts
    (byte_at g.F.Fit.allocator old place xs blocks t room has len refl) in
    let small : c.args.byte < 256 = omega (arith, c.ranges.byte) in
    let written = ap (λ (r : Placement). r.bytes) c.put8.ensures ∙ ap (λ (r : Placement). set_byte r.bytes room.at c.args.byte) c.window_mut.ensures.value ∙ one_byte counted.window.bytes room.at c.args.byte small in
    let new : Stored = record { window = c.put8.new.self; types = counted.types } in
    (made.len_is ∙ ap (λ n. n + 1) all, rw (kept, all) at (written_to g.F.Fit.allocator old place xs blocks t room.count 1 counted new room.at len (c.args.byte ∷ []) refl made written))

pub returns-clause-some : goal.returns-clause-some
returns-clause-some g c = text_form c.args.heap.now.types c.args.text.type_id c.kind.result c.in-Some-Str.field-0 (rw c.types.ensures at c.kind.ensures) c.in-Some-Str.is c.in-Some-Str.field-0-is
