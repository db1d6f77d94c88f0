use Rattle.std.proofs.Common.{Some, ap, ◌∙◌}
use Rattle.seg_spec.specs.Pointer.{set_pointer}
use Rattle.seg_spec.specs.Value.{default_of}
use Rattle.seg_spec.specs.Window.{Placement}
use Rattle.seg_cells.specs.Places.{place_of}
use Rattle.seg_seq.proofs.Fronts.{item_fronted}
use Rattle.seg_seq.proofs.SequenceKinds.{names_list}
use Rattle.seg_seq.proofs.Results.{refused_so}
use Rattle.seg_seq.proofs.list.push_front.Goals as goal

pub returns-in_err-item-clause-pushed : goal.returns-in_err-item-clause-pushed
returns-in_err-item-clause-pushed g c = λ U vs blocks h.
    let f = h.form_is in
    let s = h.stands in
    let is = names_list c.args.heap.now.types c.args.list.type_id c.in_ok-content.field-0.1 c.in_ok-content.field-0.0 c.in-List-default.is-0 c.in_ok-content.ensures U f in
    refused_so _ c.from_residual-in_err-item.result c.from_residual-in_err-item.ensures.0 (c.in_err-item.ensures.pushed c.args.list.type_id U vs blocks is s)

pub returns-clause-pushed : goal.returns-clause-pushed
returns-clause-pushed g c = λ U vs blocks h.
    let f = h.form_is in
    let s = h.stands in
    let is = names_list c.args.heap.now.types c.args.list.type_id c.in_ok-content.field-0.1 c.in_ok-content.field-0.0 c.in-List-default.is-0 c.in_ok-content.ensures U f in
    let added = c.in_ok-item.ensures.pushed c.args.list.type_id U vs blocks is s in
    let node = c.node_of.result in
    let bytes_are = ap (λ (p : Placement). p.bytes) c.point.ensures ∙ ap (λ (p : Placement). set_pointer p.bytes c.args.list.at (Some node)) c.window_mut.ensures.value in
    rw bytes_are (item_fronted g.F.Fit.allocator c.args.heap.now.window.bytes c.push_node.new.heap.window.bytes c.args.heap.now.types (place_of c.args.list) U c.in_ok-item.item node f vs
    (default_of c.args.heap.now.types U) blocks s added c.node_of.ensures)
