use Rattle.std.proofs.Common.{◌≡◌, [], Some, None, ap, ◌∙◌, sym}
use Rattle.seg_spec.specs.Pointer.{target}
use Rattle.seg_spec.specs.Window.{Placement}
use Rattle.seg_value.proofs.WaitingBlockLaws.{nothing_added}
use Rattle.seg_value.proofs.Links.{one_link, no_link}
use Rattle.seg_value.proofs.pending.Pending.add_node.Goals as goal

pub returns-in-Some-clause-added : goal.returns-in-Some-clause-added
returns-in-Some-clause-added g c = λ xs ns owes.
    let heap = c.args.heap.now in
    let named : target heap.window.bytes c.args.pointer ≡ Some c.in-Some.node = sym (c.in-Some.ensures ∙ ap (λ (r : Placement). target r.bytes c.args.pointer) c.window.ensures) in
    c.push.ensures.added xs ns (one_link heap.window.bytes heap.types c.args.pointer c.in-Some.node xs ns named owes)

pub returns-in_default-clause-added : goal.returns-in_default-clause-added
returns-in_default-clause-added g c = λ xs ns owes.
    let heap = c.args.heap.now in
    let named : target heap.window.bytes c.args.pointer ≡ None = sym (sym c.in_default.is ∙ c.target.ensures ∙ ap (λ (r : Placement). target r.bytes c.args.pointer) c.window.ensures) in
    nothing_added heap.window.bytes heap.types c.args.self.now.first [] xs ns (no_link heap.window.bytes heap.types c.args.pointer xs ns named owes)
