use Rattle.std.proofs.Common.{◌≡◌, refl, ℕ, Option, ◌+◌, ap, ◌∙◌, sym, subst, ◌∷◌, [], Some, None, Ok, Err, w64, of_z, to_z, arith}
use Rattle.std.proofs.lemmas.Int.{to_z-of_z}
use Rattle.std.proofs.lemmas.Result.{err_from_is_err_and}
use Rattle.seg_spec.specs.Bytes.{set_word}
use Rattle.seg_spec.specs.Types.{size}
use Rattle.seg_spec.specs.Block.{Kind, tag_of}
use Rattle.seg_spec.specs.Demand.{block_for}
use Rattle.seg_spec.specs.Reads.{Leads}
use Rattle.seg_spec.specs.Items.{key_place}
use Rattle.seg_spec.specs.Window.{Placement, with_bytes}
use Rattle.seg_raw.specs.declared.code.Code.{Code}
use Rattle.seg_cells.specs.Places.{object_at}
use Rattle.seg_cells.specs.declared.content.Shape.TheVariants as shape
use Rattle.seg_rbtree.specs.Paths.{node_at}
use Rattle.seg_map.proofs.NodeAdditionLaws.{AddsFrom}
use Rattle.seg_map.specs.Maps.{PutsKey}
use Rattle.seg_map.proofs.TreePutLaws.{tag_small, value_known, around, missing, puts_there, puts_refused, puts_new, added_new}
use Rattle.seg_map.proofs.tree.put.Goals as goal

bytes_are : (p q : Placement) → p ≡ q → p.bytes ≡ q.bytes
bytes_are p q e = ap (λ (r : Placement). r.bytes) e

none : (o : Option ℕ) → ((x : ℕ) → o ≡ Some x → ⊥) → o ≡ None
none None h = refl
none (Some x) h = absurd (h x refl)

pub returns-in-Some-clause-puts : goal.returns-in-Some-clause-puts
returns-in-Some-clause-puts g c = λ T U keys vs blocks f s n.
    let a = g.F.Fit.allocator in
    let old = c.args.heap.now.window.bytes in
    let table = c.args.heap.now.types in
    let place = object_at c.args.cell T in
    let key = to_z w64 (of_z w64 c.args.key) in
    let here = around a old table place U keys vs blocks f s key c.window.result.now.bytes c.tree_of.result.root
    (node_at c.window.result.now.bytes c.path_to_key-path.result) c.in-Some.node
    (bytes_are c.window.result.now c.args.heap.now.window c.window.ensures) c.tree_of.ensures (c.path_to_key-path.ensures.found tt)
    (ap (λ (w : Placement). node_at w.bytes c.path_to_key-path.result) (c.window.ensures ∙ sym c.window-2.ensures) ∙ sym c.node.ensures ∙ c.in-Some.is) in
    let at_key = puts_there a old table place U keys vs blocks f s key c.in-Some.node here Code (block_for (24 + size table U) ∷ [])
    c.value_at.result c.args.content.now.entry.size c.args.content.now.entry.before c.value_at.ensures n.entry_is.before_is in
    subst (λ k. PutsKey {E = Code} a old old table place U keys vs k blocks (block_for (24 + size table U) ∷ []) (key_place keys k) (Ok c.value_at.result))
    (to_z-of_z w64 c.args.key c.ranges.key) at_key

pub returns-in_err-node-clause-puts : goal.returns-in_err-node-clause-puts
returns-in_err-node-clause-puts g c = λ T U keys vs blocks f s n.
    let a = g.F.Fit.allocator in
    let old = c.args.heap.now.window.bytes in
    let table = c.args.heap.now.types in
    let place = object_at c.args.cell T in
    let key = to_z w64 (of_z w64 c.args.key) in
    let absent = missing a old table place U keys vs blocks f s key c.window.result.now.bytes c.tree_of.result.root
    (node_at c.window.result.now.bytes c.path_to_key-path.result)
    (bytes_are c.window.result.now c.args.heap.now.window c.window.ensures) c.tree_of.ensures (c.path_to_key-path.ensures.found tt)
    (ap (λ (w : Placement). node_at w.bytes c.path_to_key-path.result) (c.window.ensures ∙ sym c.window-2.ensures) ∙ sym c.node.ensures ∙ none c.node.result c.in_default.not-Some) in
    let refused = c.in_err-node.ensures.given 24 U (tag_of Kind.node T) shape.Tree n (omega arith) (tag_small a old table place U keys vs blocks f s key) s.is_table
    (value_known a old table place U keys vs blocks f s key) s.heap in
    let p = err_from_is_err_and c.from_residual.result c.from_residual.ensures.1 in
    let at_key = puts_refused a old table place U keys vs blocks f s key absent c.new_block.new.self.window.bytes (block_for (24 + size table U) ∷ []) p.0 refused in
    rw p.1 (subst (λ k. PutsKey {E = Code} a old c.new_block.new.self.window.bytes table place U keys vs k blocks (block_for (24 + size table U) ∷ []) (key_place keys k) (Err p.0))
    (to_z-of_z w64 c.args.key c.ranges.key) at_key)

pub returns-clause-puts : goal.returns-clause-puts
returns-clause-puts g c = λ T U keys vs blocks f s n.
    let a = g.F.Fit.allocator in
    let old = c.args.heap.now.window.bytes in
    let table = c.args.heap.now.types in
    let place = object_at c.args.cell T in
    let key = to_z w64 (of_z w64 c.args.key) in
    let same = bytes_are c.window.result.now c.args.heap.now.window c.window.ensures in
    let path = c.path_to_key-path.result in
    let absent = missing a old table place U keys vs blocks f s key c.window.result.now.bytes c.tree_of.result.root
    (node_at c.window.result.now.bytes path) same c.tree_of.ensures (c.path_to_key-path.ensures.found tt)
    (ap (λ (w : Placement). node_at w.bytes path) (c.window.ensures ∙ sym c.window-2.ensures) ∙ sym c.node.ensures ∙ none c.node.result c.in_default.not-Some) in
    let given = c.in_ok-node.ensures.given 24 U (tag_of Kind.node T) shape.Tree n (omega arith) (tag_small a old table place U keys vs blocks f s key) s.is_table
    (value_known a old table place U keys vs blocks f s key) s.heap in
    let with_key = bytes_are c.window_mut.result.now c.store.new.self.window c.window_mut.ensures.value in
    let added : AddsFrom c.store.new.self.window.bytes c.insert.new.w.bytes path.root path c.in_ok-node.node = subst (λ bs. AddsFrom bs c.insert.new.w.bytes path.root path c.in_ok-node.node) with_key c.insert.ensures.added in
    let set = bytes_are c.set_count.new.self.window (with_bytes c.insert.new.w (set_word c.insert.new.w.bytes (c.args.cell + 4) c.saturating_add-nodes.result)) c.set_count.ensures.window in
    let at_key = puts_new a old table place U keys vs blocks f s key absent Code c.value_at-2.result c.args.content.now.entry.size c.args.content.now.entry.before c.new_block.new.self.window.bytes
    c.store.new.self.window.bytes c.insert.new.w.bytes c.set_count.new.self.window.bytes c.window.result.now.bytes c.in_ok-node.node c.key_place.result c.saturating_add-nodes.result c.count.result c.tree_of.result.root path
    given c.key_place.ensures c.store.ensures.changes c.store.ensures.stored same c.tree_of.ensures c.path_to_key-path.ensures.root (c.path_to_key-path.ensures.leads tt) added
    set c.saturating_add-nodes.ensures c.count.ensures c.value_at-2.ensures n.entry_is.before_is in
    subst (λ k. PutsKey {E = Code} a old c.set_count.new.self.window.bytes table place U keys vs k blocks (block_for (24 + size table U) ∷ []) (key_place keys k) (Ok c.value_at-2.result))
    (to_z-of_z w64 c.args.key c.ranges.key) at_key

pub returns-in-Some-clause-keeps : goal.returns-in-Some-clause-keeps
returns-in-Some-clause-keeps g c = λ T U keys vs blocks f s n path inner way. way

pub returns-in_err-node-clause-keeps : goal.returns-in_err-node-clause-keeps
returns-in_err-node-clause-keeps g c = λ T U keys vs blocks f s n path inner way.
    let a = g.F.Fit.allocator in
    let old = c.args.heap.now.window.bytes in
    let table = c.args.heap.now.types in
    let place = object_at c.args.cell T in
    let key = to_z w64 (of_z w64 c.args.key) in
    let refused = c.in_err-node.ensures.given 24 U (tag_of Kind.node T) shape.Tree n (omega arith) (tag_small a old table place U keys vs blocks f s key) s.is_table
    (value_known a old table place U keys vs blocks f s key) s.heap in
    subst (λ bs. Leads bs table place path inner) (sym refused.same) way

pub returns-clause-keeps : goal.returns-clause-keeps
returns-clause-keeps g c = λ T U keys vs blocks f s n.
    let a = g.F.Fit.allocator in
    let old = c.args.heap.now.window.bytes in
    let table = c.args.heap.now.types in
    let place = object_at c.args.cell T in
    let key = to_z w64 (of_z w64 c.args.key) in
    let same = bytes_are c.window.result.now c.args.heap.now.window c.window.ensures in
    let path = c.path_to_key-path.result in
    let absent = missing a old table place U keys vs blocks f s key c.window.result.now.bytes c.tree_of.result.root
    (node_at c.window.result.now.bytes path) same c.tree_of.ensures (c.path_to_key-path.ensures.found tt)
    (ap (λ (w : Placement). node_at w.bytes path) (c.window.ensures ∙ sym c.window-2.ensures) ∙ sym c.node.ensures ∙ none c.node.result c.in_default.not-Some) in
    let given = c.in_ok-node.ensures.given 24 U (tag_of Kind.node T) shape.Tree n (omega arith) (tag_small a old table place U keys vs blocks f s key) s.is_table
    (value_known a old table place U keys vs blocks f s key) s.heap in
    let with_key = bytes_are c.window_mut.result.now c.store.new.self.window c.window_mut.ensures.value in
    let added : AddsFrom c.store.new.self.window.bytes c.insert.new.w.bytes path.root path c.in_ok-node.node = subst (λ bs. AddsFrom bs c.insert.new.w.bytes path.root path c.in_ok-node.node) with_key c.insert.ensures.added in
    let set = bytes_are c.set_count.new.self.window (with_bytes c.insert.new.w (set_word c.insert.new.w.bytes (c.args.cell + 4) c.saturating_add-nodes.result)) c.set_count.ensures.window in
    (added_new a old table place U keys vs blocks f s key absent c.new_block.new.self.window.bytes c.store.new.self.window.bytes c.insert.new.w.bytes c.set_count.new.self.window.bytes c.window.result.now.bytes
    c.in_ok-node.node c.key_place.result c.saturating_add-nodes.result c.count.result c.tree_of.result.root path
    given c.key_place.ensures c.store.ensures.changes c.store.ensures.stored same c.tree_of.ensures c.path_to_key-path.ensures.root (c.path_to_key-path.ensures.leads tt) added
    set c.saturating_add-nodes.ensures c.count.ensures).1
