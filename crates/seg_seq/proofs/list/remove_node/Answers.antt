use Rattle.std.proofs.Common.{◌≡◌, ◌+◌, ◌*◌, ◌%◌, ◌^◌, Some, sym, ap, ◌∙◌, arith}
use Rattle.seg_cells.specs.Places.{place_of, object_at}
use Rattle.seg_value.specs.Stored.{Stored}
use Rattle.seg_cells.specs.declared.place.Place.{Place}
use Rattle.seg_seq.proofs.ListNodeLaws.{value_in}
use Rattle.seg_seq.proofs.ListRemovalLaws.{Clears, clears_here, item_small, item_removed}
use Rattle.seg_seq.proofs.list.remove_node.Goals as goal
use Rattle.seg_seq.proofs.list.remove_node.Goals.{in-Some, in_default}

same_place : (p q : Place) → Some p ≡ Some q → p ≡ q
same_place p q e = cc

pub returns-clause-removed : goal.returns-clause-removed
returns-clause-removed g c = λ T U j vs blocks is s lead.
    let code = g.F.Fit.allocator in
    let old = c.args.heap.now.window.bytes in
    let table = c.args.heap.now.types in
    let list = object_at c.args.cell T in
    let node = c.args.node in
    let one = c.remove.new.heap.window.bytes in
    let two = c.match-value.heap.window.bytes in
    let new = c.free_block.new.self.window.bytes in
    let entry = c.args.content.now.entry in
    let small = item_small code old one two new table list U node j is.form_is vs blocks s lead in
    let found : Place = record { at = (node + 0 * entry.size + entry.before) % 2 ^ 32; type_id = U } in
    let value_is = c.value.ensures.value U is.content_is.entry_is.held_is in
    let before = is.content_is.entry_is.before_is in
    let at : (node + 0 * entry.size + entry.before) % 2 ^ 32 ≡ node + 8 = omega arith in
    let place_is : place_of found ≡ value_in U node = ap (λ a. object_at a U) at in
    let cleared : Clears code one two table (value_in U node) = elim c.match-value.branch [
      | in-Some w ↦ clears_here code one two w.clear.new.self.window.bytes table c.remove.new.heap.types (place_of w.in-Some.item) (value_in U node) c.remove.ensures.types
          (ap place_of (same_place w.in-Some.item found (sym w.in-Some.is ∙ value_is)) ∙ place_is) (ap (λ (h : Stored). h.window.bytes) w.heap-is) w.clear.ensures.cleared
      | in_default w ↦ let none = w.in_default.is in absurd (cc)
    ] in
    item_removed code old one two new table list U node j is.form_is vs blocks s lead c.remove.ensures.removed cleared c.free_block.ensures.gives
