use Rattle.std.proofs.Common.{rules, ◌≡◌, ◌+◌, Err}
use Rattle.seg_spec.specs.Bytes.{set_word}
use Rattle.seg_spec.specs.Value.{Seq}
use Rattle.seg_spec.specs.Window.{with_bytes}
use Rattle.seg_spec.proofs.WindowLaws.{bytes_of}
use Rattle.seg_seq.proofs.ItemCalls.{vector_entry, no_item_pushed, item_counted}
use Rattle.seg_seq.proofs.sequence.count_entry.Goals as goal

pub returns-in_err-start-clause-vector : goal.returns-in_err-start-clause-vector
returns-in_err-start-clause-vector g c = λ T U vs blocks n h.
    let result : c.from_residual.result ≡ Err c.in_err-start.field-0.0 = search rules in
    let old = c.args.heap.now in
    let content = c.args.content.now in
    let entry = vector_entry old.types T U content h.form_is n in
    let refuses = c.in_err-start.ensures.reserves T (Seq vs) blocks n h.stands in
    rw result
    (rw c.in_err-start.ensures.code (no_item_pushed g.F.Fit.allocator old c.args.cell T U vs blocks h content.entry.size c.count-kept.result c.saturating_add-len.result entry.size_is c.count-kept.ensures c.saturating_add-len.ensures
    c.reserve.new.self refuses))

pub returns-clause-vector : goal.returns-clause-vector
returns-clause-vector g c = λ T U vs blocks n h.
    let old = c.args.heap.now in
    let mid = c.reserve.new.self in
    let counted = c.set_count.new.self in
    let content = c.args.content.now in
    let entry = vector_entry old.types T U content h.form_is n in
    let reserves = c.in_ok-start.ensures.reserves T (Seq vs) blocks n h.stands in
    let written = bytes_of counted.window (with_bytes mid.window (set_word mid.window.bytes (c.args.cell + 4) c.saturating_add-len.result)) c.set_count.ensures.window in
    item_counted g.F.Fit.allocator old c.args.cell T U vs blocks h content.entry.size c.count-kept.result c.saturating_add-len.result entry.size_is c.count-kept.ensures c.saturating_add-len.ensures
    mid counted reserves written c.in_ok-start.start content.entry.before c.value_at.result c.in_ok-start.ensures.start entry.before_is c.value_at.ensures
