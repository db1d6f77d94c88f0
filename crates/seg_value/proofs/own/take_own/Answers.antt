use Rattle.std.proofs.Common.{◌≡◌, ◌+◌, ap, ◌∙◌, sym, Some, None}
use Rattle.seg_spec.specs.Bytes.{set_word}
use Rattle.seg_spec.specs.Pointer.{target, set_pointer}
use Rattle.seg_spec.specs.Window.{Placement, with_bytes}
use Rattle.seg_spec.proofs.Deallocation.OwnLaws.{empty_own}
use Rattle.seg_cells.specs.Places.{place_of}
use Rattle.seg_value.proofs.Owns.{full, own_taken}
use Rattle.seg_spec.proofs.WindowLaws.{bytes_of}
use Rattle.seg_value.proofs.own.take_own.Goals as goal

pub returns-clause-empty : goal.returns-clause-empty
returns-clause-empty g c = λ allocator U blocks f s.
    let old = c.args.heap.now in
    let none = empty_own old.window.bytes old.types (place_of c.args.own) U blocks f s.holds_it in
    let is = c.target.ensures ∙ ap (λ (p : Placement). target p.bytes c.args.own.at) c.window.ensures in
    let e : None ≡ Some c.in_ok-object.object = sym none ∙ sym is ∙ c.in_ok-object.was in
    absurd (cc)

pub returns-clause-taken : goal.returns-clause-taken
returns-clause-taken g c = λ allocator U v blocks f s.
    let old = c.args.heap.now in
    let w = c.window_mut.result.now in
    let is = c.target.ensures ∙ ap (λ (p : Placement). target p.bytes c.args.own.at) c.window.ensures in
    let r = own_taken allocator old.window.bytes old.types (place_of c.args.own) U f v blocks s in
    let first : c.point.new.self.bytes ≡ set_pointer old.window.bytes c.args.own.at None =
    bytes_of c.point.new.self (with_bytes w (set_pointer w.bytes c.args.own.at None)) c.point.ensures ∙ ap (λ (p : Placement). set_pointer p.bytes c.args.own.at None) c.window_mut.ensures.value in
    let second = bytes_of c.set_count.new.self.window (with_bytes c.point.new.self (set_word c.point.new.self.bytes (c.args.own.at + 4) 0)) c.set_count.ensures.window in
    let bytes_then = second ∙ ap (λ b. set_word b (c.args.own.at + 4) 0) first in
    let names = (full allocator old.window.bytes old.types (place_of c.args.own) U f v blocks s).names in
    let e = sym names ∙ sym is ∙ c.in_ok-object.was in
    rw (bytes_then, ← e) r
