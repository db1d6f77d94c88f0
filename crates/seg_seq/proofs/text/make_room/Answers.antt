use Rattle.std.proofs.Common.{rules, ◌≡◌, ◌+◌, ◌≤◌, inl, refl, ap, arith, Err}
use Rattle.seg_spec.specs.Bytes.{set_word}
use Rattle.seg_spec.specs.Value.{Text}
use Rattle.seg_spec.specs.Window.{with_bytes}
use Rattle.seg_raw.specs.declared.code.Code.TheVariants.{BadAlloc}
use Rattle.seg_cells.specs.Places.{place_of}
use Rattle.seg_seq.proofs.SequenceKinds.{buffer_text}
use Rattle.seg_seq.proofs.TextCalls.{too_long, no_room_made, makes_room}
use Rattle.seg_spec.proofs.WindowLaws.{bytes_of}
use Rattle.seg_seq.proofs.text.make_room.Goals as goal

pub returns-in_err-added-clause-text : goal.returns-in_err-added-clause-text
returns-in_err-added-clause-text g c = λ xs blocks t few.
    let code : c.in_err-added.field-0.0 ≡ BadAlloc = search rules in
    let result : c.from_residual-in_err-added.result ≡ Err c.in_err-added.field-0.0 = search rules in
    let much : 4294967296 ≤ c.args.added = search rules in
    let old = c.args.heap.now in
    rw result (rw code (too_long g.F.Fit.allocator old (place_of c.args.text) xs blocks t c.args.kept c.args.added old refl (omega arith)))

pub returns-in_err-start-clause-text : goal.returns-in_err-start-clause-text
returns-in_err-start-clause-text g c = λ xs blocks t few.
    let result : c.from_residual-in_err-start.result ≡ Err c.in_err-start.field-0.0 = search rules in
    let added : c.in_ok-added.added ≡ c.args.added = search rules in
    let old = c.args.heap.now in
    let names = buffer_text old.types c.args.text.type_id c.in_ok-content.field-0.1 c.in_ok-content.field-0.0 (inl c.in-Text-default.is-0) c.in_ok-content.ensures t.form_is in
    let refuses = c.in_err-start.ensures.reserves c.args.text.type_id (Text xs) blocks names.names t.stands in
    rw result (rw c.in_err-start.ensures.code (no_room_made g.F.Fit.allocator old (place_of c.args.text) xs blocks t c.args.kept c.args.added c.reserve.new.self c.in_ok-content.field-0.1.entry.size c.saturating_add-len.result
    names.size_is (rw added at c.saturating_add-len.ensures) refuses))

pub returns-clause-text : goal.returns-clause-text
returns-clause-text g c = λ xs blocks t few.
    let added : c.in_ok-added.added ≡ c.args.added = search rules in
    let old = c.args.heap.now in
    let mid = c.reserve.new.self in
    let new = c.set_count.new.self in
    let names = buffer_text old.types c.args.text.type_id c.in_ok-content.field-0.1 c.in_ok-content.field-0.0 (inl c.in-Text-default.is-0) c.in_ok-content.ensures t.form_is in
    let reserves = c.in_ok-start.ensures.reserves c.args.text.type_id (Text xs) blocks names.names t.stands in
    let counted = bytes_of new.window (with_bytes mid.window (set_word mid.window.bytes (c.args.text.at + 4) c.saturating_add-len.result)) c.set_count.ensures.window in
    makes_room g.F.Fit.allocator old (place_of c.args.text) xs blocks t c.args.kept c.args.added mid new c.in_ok-content.field-0.1.entry.size c.saturating_add-len.result (c.in_ok-start.start + c.args.kept)
    names.size_is (rw added at c.saturating_add-len.ensures) few reserves counted (ap (λ x. x + c.args.kept) c.in_ok-start.ensures.start)
