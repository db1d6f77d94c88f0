use Rattle.std.proofs.Common.{rules, ◌≡◌, length, refl, ap, ◌∙◌, Err}
use Rattle.seg_spec.specs.Bytes.{put}
use Rattle.seg_spec.specs.Window.{Placement}
use Rattle.seg_cells.specs.Places.{place_of}
use Rattle.seg_seq.proofs.TextCalls.{written_to}
use Rattle.seg_seq.proofs.text.write.Goals as goal

pub returns-in_err-added-clause-text : goal.returns-in_err-added-clause-text
returns-in_err-added-clause-text g c = λ xs blocks t few.
    let result : c.from_residual.result ≡ Err c.in_err-added.field-0.0 = search rules in
    let lacks = c.in_err-added.ensures.text xs blocks t few in
    rw result lacks

pub returns-clause-text : goal.returns-clause-text
returns-clause-text g c = λ xs blocks t few.
    let m = c.in_ok-added.ensures.text xs blocks t few in
    let written = ap (λ (r : Placement). r.bytes) c.copy_in.ensures ∙ ap (λ (r : Placement). put r.bytes c.in_ok-added.added.at c.args.bytes.now) c.window_mut.ensures.value in
    written_to g.F.Fit.allocator c.args.heap.now (place_of c.args.text) xs blocks t c.args.kept (length c.args.bytes.now) c.make_room.new.heap
    (record { window = c.copy_in.new.self; types = c.make_room.new.heap.types }) c.in_ok-added.added.at c.in_ok-added.added.len c.args.bytes.now refl m written
