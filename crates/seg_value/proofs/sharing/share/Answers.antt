use Rattle.std.proofs.Common.{◌≡◌, ◌+◌, ◌∙◌, ap}
use Rattle.seg_spec.specs.Bytes.{set_word}
use Rattle.seg_spec.specs.Pointer.{target, set_pointer}
use Rattle.seg_spec.specs.Window.{Placement, with_bytes}
use Rattle.seg_spec.proofs.WindowLaws.{bytes_of}
use Rattle.seg_cells.specs.Places.{place_of}
use Rattle.seg_spec.specs.Sharing.{cell_count}
use Rattle.seg_value.proofs.SharedCells.{cell_shared}
use Rattle.seg_value.proofs.sharing.share.Goals as goal

pub returns-clause-shared : goal.returns-clause-shared
returns-clause-shared g c = λ T next v w blocks others theirs kept now f from_form s h b below few.
    let old = c.args.heap.now in
    let last = c.clear.new.self.window in
    let object = c.target-object.result in
    let to = c.args.to in
    let is : object ≡ target old.window.bytes c.args.from.at = c.target-object.ensures ∙ ap (λ (r : Placement). target r.bytes c.args.from.at) c.window.ensures in
    let named = bytes_of c.name.new.heap.window (with_bytes last (set_word (set_pointer last.bytes to.at object) (to.at + 4) (cell_count object))) c.name.ensures.window in
    cell_shared g.F.Fit.allocator old.window.bytes last.bytes old.types (place_of to) (place_of c.args.from) T next f from_form v w blocks others s h theirs kept now b few
    c.raise.new.heap.window.bytes c.name.new.heap.window.bytes c.raise.new.heap.types c.raise.ensures.types object is below
    (λ none. bytes_of c.raise.new.heap.window old.window (c.raise.ensures.none none)) c.raise.ensures.raised c.clear.ensures.cleared named
