use Rattle.std.proofs.Common.{◌≡◌, refl, ℕ, Option, ◌+◌, ◌*◌, ◌%◌, ◌^◌, ap, ◌∙◌, sym, subst, true, false, Some, None, w64, of_z, to_z}
use Rattle.std.proofs.lemmas.Int.{to_z-of_z}
use Rattle.seg_spec.specs.Bytes.{set_word}
use Rattle.seg_spec.specs.Heap.{IsHeap, IsLive, Gives}
use Rattle.seg_spec.specs.Block.{block_of}
use Rattle.seg_spec.specs.Items.{key_place}
use Rattle.seg_spec.specs.Window.{Placement, with_bytes}
use Rattle.seg_rbtree.specs.Paths.{node_at}
use Rattle.seg_value.specs.Stored.{Stored}
use Rattle.seg_cells.specs.Places.{object_at}
use Rattle.seg_cells.specs.declared.place.Place.{Place}
use Rattle.seg_map.specs.Maps.{RemovesKey}
use Rattle.seg_map.specs.Trees.{KeepsOtherKeys}
use Rattle.seg_map.proofs.TreePutLaws.{around, missing}
use Rattle.seg_map.proofs.TreeRemoveLaws.{removes_none, removes_one, taken_out}
use Rattle.seg_map.proofs.tree.remove.Goals as goal
use Rattle.seg_map.proofs.tree.remove.Goals.{in-Some-value, in_default-value}

bytes_are : (p q : Placement) → p ≡ q → p.bytes ≡ q.bytes
bytes_are p q e = ap (λ (r : Placement). r.bytes) e

same_place : (p q : Place) → Some p ≡ Some q → p ≡ q
same_place p q e = cc

none : (o : Option ℕ) → ((x : ℕ) → o ≡ Some x → ⊥) → o ≡ None
none None h = refl
none (Some x) h = absurd (h x refl)

pub returns-in_default-clause-removes : goal.returns-in_default-clause-removes
returns-in_default-clause-removes g c = λ T U keys vs blocks f n s.
    let a = g.F.Fit.allocator in
    let old = c.args.heap.now.window.bytes in
    let table = c.args.heap.now.types in
    let place = object_at c.args.cell T in
    let key = to_z w64 (of_z w64 c.args.key) in
    let absent = missing a old table place U keys vs blocks f s key c.window.result.now.bytes c.tree_of.result.root
    (node_at c.window.result.now.bytes c.path_to_key-path.result)
    (bytes_are c.window.result.now c.args.heap.now.window c.window.ensures) c.tree_of.ensures (c.path_to_key-path.ensures.found tt)
    (ap (λ (w : Placement). node_at w.bytes c.path_to_key-path.result) (c.window.ensures ∙ sym c.window-2.ensures) ∙ sym c.node.ensures ∙ none c.node.result c.in_default.not-Some) in
    subst (λ k. RemovesKey old old table place keys vs s.home blocks (KeepsOtherKeys old old table place k) (key_place keys k) false) (to_z-of_z w64 c.args.key c.ranges.key) (removes_none a old table place U keys vs blocks f s key absent)

pub returns-clause-removes : goal.returns-clause-removes
returns-clause-removes g c = λ T U keys vs blocks f n s.
    let a = g.F.Fit.allocator in
    let old = c.args.heap.now.window.bytes in
    let table = c.args.heap.now.types in
    let place = object_at c.args.cell T in
    let key = to_z w64 (of_z w64 c.args.key) in
    let path = c.path_to_key-path.result in
    let node = c.in-Some.node in
    let same = bytes_are c.window.result.now c.args.heap.now.window c.window.ensures in
    let node_is = ap (λ (w : Placement). node_at w.bytes path) (c.window.ensures ∙ sym c.window-2.ensures) ∙ sym c.node.ensures ∙ c.in-Some.is in
    let here = around a old table place U keys vs blocks f s key c.window.result.now.bytes c.tree_of.result.root
    (node_at c.window.result.now.bytes path) node same c.tree_of.ensures (c.path_to_key-path.ensures.found tt) node_is in
    let value : Place = record { at = (node + 0 * c.args.content.now.entry.size + c.args.content.now.entry.before) % 2 ^ 32; type_id = U } in
    let found = c.value.ensures.value U n.entry_is.held_is in
    let set = bytes_are c.set_count.new.self.window (with_bytes c.remove.new.w (set_word c.remove.new.w.bytes (c.args.cell + 4) c.saturating_sub-nodes.result)) c.set_count.ensures.window in
    elim c.match-value.branch [
      | in-Some-value w ↦
          let value_is = same_place w.in-Some-value.value value (sym w.in-Some-value.is ∙ found) in
          let gives = subst (λ (h : Stored). IsHeap a h.window.bytes → IsLive h.window.bytes (block_of node) → Gives a h.window.bytes c.free_block.new.self.window.bytes (block_of node)) w.heap-is c.free_block.ensures.gives in
          let taken = taken_out a old table place U keys vs blocks f s key node here c.remove.new.w.bytes c.set_count.new.self.window.bytes w.clear.new.self.window.bytes c.free_block.new.self.window.bytes
          c.window.result.now.bytes c.window_mut.result.now.bytes c.set_count.new.self.types c.saturating_sub-nodes.result c.count.result c.args.content.now.entry.size c.args.content.now.entry.before c.tree_of.result.root
          w.in-Some-value.value.at w.in-Some-value.value.type_id path same (bytes_are c.window_mut.result.now c.args.heap.now.window c.window_mut.ensures.value) c.tree_of.ensures c.path_to_key-path.ensures.root
          (c.path_to_key-path.ensures.leads tt) node_is c.remove.ensures.removed set c.saturating_sub-nodes.ensures c.count.ensures c.set_count.ensures.types
          (ap (λ (p : Place). p.at) value_is) n.entry_is.before_is (ap (λ (p : Place). p.type_id) value_is) w.clear.ensures.cleared gives in
          subst (λ k. RemovesKey old c.free_block.new.self.window.bytes table place keys vs s.home blocks (KeepsOtherKeys old c.free_block.new.self.window.bytes table place k) (key_place keys k) true)
          (to_z-of_z w64 c.args.key c.ranges.key)
          (removes_one a old table place U keys vs blocks f s key node here c.free_block.new.self.window.bytes taken)
      | in_default-value w ↦ absurd (w.in_default-value.not-Some value found)
    ]
