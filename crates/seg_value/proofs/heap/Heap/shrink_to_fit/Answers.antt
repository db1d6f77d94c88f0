use Rattle.std.proofs.Common.{◌≡◌, ◌≤◌, ap, ◌∙◌, sym, Some, None, arith}
use Rattle.seg_spec.specs.Pointer.{target}
use Rattle.seg_cells.specs.Places.{place_of}
use Rattle.seg_value.specs.Stored.{Stored}
use Rattle.seg_value.proofs.BufferCutLaws.{left_alone, entry_bytes, cut_at}
use Rattle.seg_spec.proofs.WindowLaws.{bytes_of}
use Rattle.seg_value.proofs.heap.Heap.shrink_to_fit.Goals as goal

pub returns-in_default-target-clause-shrinks : goal.returns-in_default-target-clause-shrinks
returns-in_default-target-clause-shrinks g c = λ form v blocks f b s.
    let old = c.args.self.now.window in
    let here = bytes_of c.self.inside.window old (ap (λ (x : Stored). x.window) c.self.view_is) in
    let none : target old.bytes c.args.place.at ≡ None = sym (ap (λ y. target y c.args.place.at) here) ∙ sym c.target.ensures ∙ c.in_default-target.is in
    left_alone g.F.Fit.allocator old.bytes c.args.self.now.types (place_of c.args.place) form v blocks f b s none

pub returns-clause-shrinks : goal.returns-clause-shrinks
returns-clause-shrinks g c = λ form v blocks f b s.
    let old = c.args.self.now.window in
    let here = bytes_of c.self.inside.window old (ap (λ (x : Stored). x.window) c.self.view_is) in
    let some : target old.bytes c.args.place.at ≡ Some c.in-Some-target.start = sym (ap (λ y. target y c.args.place.at) here) ∙ sym c.target.ensures ∙ c.in-Some-target.is in
    let content = c.in-Some.content in
    let each = entry_bytes c.args.self.now.types c.args.place.type_id form content f b (rw c.in-Some.is at c.content.ensures) in
    let kept : 1 ≤ c.count-kept.result = omega (arith, c.if-kept-eq0.false) in
    let large : 1 ≤ content.entry.size = content.entry.some in
    cut_at g.F.Fit.allocator old.bytes c.args.self.now.types (place_of c.args.place) form v blocks f b s c.in-Some-target.start some c.count-kept.result content.entry.size c.need.result c.block_of.result
    c.shrink.new.w.bytes c.count-kept.ensures each kept large c.need.ensures.exact c.block_of.ensures (rw here at c.shrink.ensures.shrinks)
