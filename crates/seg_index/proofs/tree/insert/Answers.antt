use Rattle.std.proofs.Common.{◌≡◌, ◌+◌, ap, ◌∙◌, sym, subst, arith}
use Rattle.std.proofs.lemmas.Result.{err_from_is_err_and}
use Rattle.seg_spec.specs.Bytes.{set_word}
use Rattle.seg_spec.specs.Header.{index_cell}
use Rattle.seg_spec.specs.Window.{Placement, with_bytes}
use Rattle.seg_spec.specs.Calls.{Refuses}
use Rattle.seg_spec.specs.Spending.{entry_asks}
use Rattle.seg_cells.specs.NameEntries.{write_entry}
use Rattle.seg_index.proofs.TreeEnters.{AddsFrom, node_fits, enters}
use Rattle.seg_index.proofs.tree.insert.Goals as goal

bytes_are : (p q : Placement) → p ≡ q → p.bytes ≡ q.bytes
bytes_are p q e = ap (λ (r : Placement). r.bytes) e

pub returns-in_err-node-clause-enters : goal.returns-in_err-node-clause-enters
returns-in_err-node-clause-enters g c = λ names blocks s kind root may entry_is missing way.
    let refused = c.in_err-node.ensures.given_node c.index_node.ensures s.heap in
    let p = err_from_is_err_and c.from_residual.result c.from_residual.ensures.1 in
    rw p.1 (subst (λ k. Refuses g.F.Fit.allocator c.args.heap.now.window.bytes c.new_block.new.self.window.bytes (entry_asks k c.args.heap.now.window.bytes)) (sym kind) refused)

pub returns-clause-enters : goal.returns-clause-enters
returns-clause-enters g c = λ names blocks s kind root may entry_is missing way.
    let path = c.args.path.now in
    let node = c.in_ok-node.node in
    let given = c.in_ok-node.ensures.given_node c.index_node.ensures s.heap in
    let at : c.entry_place.result ≡ node + 16 = c.entry_place.ensures in
    let fits = node_fits g.F.Fit.allocator c.args.heap.now.window.bytes c.new_block.new.self.window.bytes node given in
    let written = bytes_are c.write.new.w (with_bytes c.window_mut.result.now (write_entry c.window_mut.result.now.bytes c.entry_place.result c.args.entry)) (c.write.ensures.written (omega arith)) in
    let wrote_is = written ∙ ap (λ bs. write_entry bs c.entry_place.result c.args.entry) (bytes_are c.window_mut.result.now c.new_block.new.self.window c.window_mut.ensures.value)
    ∙ ap (λ p. write_entry c.new_block.new.self.window.bytes p c.args.entry) at ∙ ap (write_entry c.new_block.new.self.window.bytes (node + 16)) entry_is in
    let same = bytes_are c.window_mut-2.result.now c.write.new.w c.window_mut-2.ensures.value in
    let added : AddsFrom c.write.new.w.bytes c.insert.new.w.bytes path.root path node = subst (λ bs. AddsFrom bs c.insert.new.w.bytes path.root path node) same c.insert.ensures.added in
    let new_is = bytes_are c.set_count.new.self.window (with_bytes c.insert.new.w (set_word c.insert.new.w.bytes (index_cell + 4) c.saturating_add-count.result)) c.set_count.ensures.window in
    enters g.F.Fit.allocator c.args.heap.now.window.bytes c.new_block.new.self.window.bytes c.write.new.w.bytes c.args.heap.now.types names blocks s kind root may missing path way node given wrote_is
    c.insert.new.w.bytes c.set_count.new.self.window.bytes c.saturating_add-count.result c.count.result added new_is c.saturating_add-count.ensures c.count.ensures
