use Rattle.std.proofs.Common.{◌≡◌, ◌+◌, ◌*◌, ◌%◌, ◌^◌, ap, ◌∙◌, sym}
use Rattle.seg_spec.specs.Bytes.{set_word}
use Rattle.seg_spec.specs.Window.{with_bytes}
use Rattle.seg_cells.specs.Places.{object_at}
use Rattle.seg_value.specs.Stored.{Stored}
use Rattle.seg_cells.specs.declared.place.Place.{Place}
use Rattle.seg_seq.proofs.TextCalls.{text_entry, byte_popped}
use Rattle.seg_seq.proofs.ItemCalls.{vector_entry, one_place, item_popped}
use Rattle.seg_spec.proofs.WindowLaws.{bytes_of}
use Rattle.seg_seq.proofs.sequence.pop_entry.Goals as goal
use Rattle.seg_seq.proofs.sequence.pop_entry.Goals.{in-Some, in_default}

pub returns-clause-text : goal.returns-clause-text
returns-clause-text g c = λ T xs blocks n t more.
    let old = c.args.heap.now in
    let cut = c.match-value.heap in
    let new = c.set_count.new.self in
    let held = text_entry old.types T c.args.content.now t.form_is n in
    let written = bytes_of new.window (with_bytes cut.window (set_word cut.window.bytes (c.args.cell + 4) c.args.last)) c.set_count.ensures.window in
    let same : cut ≡ old = elim c.match-value.branch [ in-Some w ↦ (let kind = rw w.in-Some.is at c.value.ensures.held in let clash = sym held ∙ kind in absurd (cc)) | in_default w ↦ w.heap-is ] in
    byte_popped g.F.Fit.allocator old new (object_at c.args.cell T) xs blocks t c.args.last more (written ∙ ap (λ (s : Stored). set_word s.window.bytes (c.args.cell + 4) c.args.last) same)

pub returns-clause-vector : goal.returns-clause-vector
returns-clause-vector g c = λ T U vs blocks n h more.
    let old = c.args.heap.now in
    let cut = c.match-value.heap in
    let new = c.set_count.new.self in
    let content = c.args.content.now in
    let entry = vector_entry old.types T U content h.form_is n in
    let is = c.value.ensures.value U entry.held_is in
    let written = bytes_of new.window (with_bytes cut.window (set_word cut.window.bytes (c.args.cell + 4) c.args.last)) c.set_count.ensures.window in
    elim c.match-value.branch [
      | in-Some w ↦ (
          let item = one_place c.value.result w.in-Some.item (record { at = (c.start.result + c.args.last * content.entry.size + content.entry.before) % 2 ^ 32; type_id = U }) w.in-Some.is is in
          item_popped g.F.Fit.allocator old c.args.cell T U vs blocks h w.clear.new.self new content.entry.size c.args.last c.start.result content.entry.before w.in-Some.item.at w.in-Some.item.type_id
          entry.size_is more c.start.ensures entry.before_is (ap (λ (x : Place). x.at) item) (ap (λ (x : Place). x.type_id) item)
          (written ∙ ap (λ (s : Stored). set_word s.window.bytes (c.args.cell + 4) c.args.last) w.heap-is) w.clear.ensures.cleared
          )
      | in_default w ↦ (let none = w.in_default.is in absurd (cc))
    ]
