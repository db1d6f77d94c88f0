use Rattle.std.proofs.Common.{◌≡◌, ◌+◌, Some, None, [], ◌∷◌, refl, sym, ap, ◌∙◌, subst, arith}
use Rattle.seg_spec.specs.Pointer.{target}
use Rattle.seg_spec.specs.Reads.{Leads}
use Rattle.seg_spec.specs.Value.{cons, nil, Selector}
use Rattle.seg_spec.specs.Window.{Placement}
use Rattle.seg_cells.specs.Places.{place_of, object_at}
use Rattle.seg_seq.proofs.Fronts.{nothing_named, first_item}
use Rattle.seg_seq.proofs.SequenceKinds.{names_list}
use Rattle.seg_seq.proofs.list.pop_front.Goals as goal

pub returns-in_err-first-clause-popped : goal.returns-in_err-first-clause-popped
returns-in_err-first-clause-popped g c = λ U v vs blocks h.
    let f = h.form_is in
    let s = h.stands in
    let first = first_item g.F.Fit.allocator c.args.heap.now.window.bytes c.args.heap.now.types (place_of c.args.list) U f (cons v vs) blocks s (omega arith) in
    let read = c.target.ensures ∙ ap (λ (p : Placement). target p.bytes c.args.list.at) c.window.ensures in
    let none : None ≡ Some first.0 = sym c.in_err-first.ensures.ok_part ∙ read ∙ first.1 in
    absurd (cc)

pub returns-clause-empty : goal.returns-clause-empty
returns-clause-empty g c = λ allocator U blocks h.
    let f = h.form_is in
    let s = h.stands in
    let nothing = nothing_named allocator c.args.heap.now.window.bytes c.args.heap.now.types (place_of c.args.list) U f nil blocks s refl in
    let read = c.target.ensures ∙ ap (λ (p : Placement). target p.bytes c.args.list.at) c.window.ensures in
    let some : Some c.in_ok-first.first ≡ None = sym c.in_ok-first.ensures.ok_part ∙ read ∙ nothing in
    absurd (cc)

pub returns-clause-popped : goal.returns-clause-popped
returns-clause-popped g c = λ U v vs blocks h.
    let f = h.form_is in
    let s = h.stands in
    let old = c.args.heap.now.window.bytes in
    let table = c.args.heap.now.types in
    let list = place_of c.args.list in
    let is = names_list table c.args.list.type_id c.in_ok-content.field-0.1 c.in_ok-content.field-0.0 c.in-List-default.is-0 c.in_ok-content.ensures U f in
    let first = first_item g.F.Fit.allocator old table list U f (cons v vs) blocks s (omega arith) in
    let read = c.target.ensures ∙ ap (λ (p : Placement). target p.bytes c.args.list.at) c.window.ensures in
    let both : Some first.0 ≡ Some c.in_ok-first.first = sym first.1 ∙ sym read ∙ c.in_ok-first.ensures.ok_part in
    let same : first.0 ≡ c.in_ok-first.first = cc in
    let lead = subst (λ p. Leads old table list (Selector.item 0 ∷ []) (object_at (p + 8) U)) same first.2 in
    (refl, c.remove_node.ensures.removed c.args.list.type_id U 0 (cons v vs) blocks is s lead)
