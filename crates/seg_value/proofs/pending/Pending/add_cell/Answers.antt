use Rattle.std.proofs.Common.{◌≡◌, [], Some, None, ap, ◌∙◌, sym, subst}
use Rattle.seg_spec.specs.Pointer.{target}
use Rattle.seg_spec.specs.Types.{form_at}
use Rattle.seg_spec.specs.Window.{Placement}
use Rattle.seg_cells.specs.Contents.{ContentOf}
use Rattle.seg_cells.specs.Places.{place_of}
use Rattle.seg_value.specs.Waiting.{AddsWaiting}
use Rattle.seg_value.proofs.Nulls.{null_owns, shared_there, held_there}
use Rattle.seg_value.proofs.WaitingBlockLaws.{nothing_added, uncoupled_adds}
use Rattle.seg_value.proofs.pending.Pending.add_cell.Goals as goal

pub returns-in_default-clause-added : goal.returns-in_default-clause-added
returns-in_default-clause-added g c = λ xs ns few some part.
    let heap = c.args.heap.now in
    let named : target heap.window.bytes c.args.cell.at ≡ None = sym (sym c.in_default.is ∙ c.target.ensures ∙ ap (λ (r : Placement). target r.bytes c.args.cell.at) c.window.ensures) in
    λ allocator ys names kept theirs final valid. nothing_added heap.window.bytes heap.types c.args.self.now.first [] xs ns (null_owns heap.window.bytes heap.types (place_of c.args.cell) xs ns valid few named part)
    allocator ys names kept theirs final valid

pub returns-in_default-content-clause-added : goal.returns-in_default-content-clause-added
returns-in_default-content-clause-added g c = λ xs ns few some part allocator ys names kept theirs final valid.
    let heap = c.args.heap.now in
    let p = c.in-Some.payload in
    let named : target heap.window.bytes c.args.cell.at ≡ Some p = sym (c.in-Some.ensures ∙ ap (λ (r : Placement). target r.bytes c.args.cell.at) c.window.ensures) in
    let s = shared_there heap.window.bytes heap.types (place_of c.args.cell) c.content.result p xs ns valid few some named c.in_default-content.is c.content.ensures part in
    subst (λ bs. AddsWaiting heap c.release.new.heap c.args.self.now.first c.release.new.self.first [] bs ns) (sym s.no_blocks)
    (subst (λ ms. AddsWaiting heap c.release.new.heap c.args.self.now.first c.release.new.self.first [] [] ms) (sym s.name) c.release.ensures.released) allocator ys names kept theirs final valid

pub returns-clause-added : goal.returns-clause-added
returns-clause-added g c = λ xs ns few some part allocator ys names kept theirs final valid w fits.
    let heap = c.args.heap.now in
    let p = c.in-Some.payload in
    let named : target heap.window.bytes c.args.cell.at ≡ Some p = sym (c.in-Some.ensures ∙ ap (λ (r : Placement). target r.bytes c.args.cell.at) c.window.ensures) in
    let content : ContentOf heap.types c.args.cell.type_id (form_at heap.types c.args.cell.type_id) (Some c.in-Some-content.content) = c.in-Some-content.ensures in
    let h = held_there heap.window.bytes heap.types (place_of c.args.cell) c.in-Some-content.content p xs ns valid content named part in
    uncoupled_adds heap.window.bytes c.uncouple.new.self.window.bytes c.push.new.heap.window.bytes heap.types c.uncouple.new.self.types c.args.self.now.first c.push.new.self.first p xs ns c.uncouple.ensures.types
    (λ a valid_here order live_there. rw h.2 (c.uncouple.ensures.uncouples a c.args.cell.type_id h.0 xs valid_here order content named h.1 live_there)) c.push.ensures.added allocator ys names kept theirs final valid w fits
