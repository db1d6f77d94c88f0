use Rattle.std.proofs.Common.{◌≡◌, ℕ, Option, ◌+◌, refl, ap, ◌∙◌, sym, subst, Some, None}
use Rattle.seg_spec.specs.Bytes.{set_word}
use Rattle.seg_spec.specs.Header.{index_cell}
use Rattle.seg_spec.specs.Window.{Placement, with_bytes}
use Rattle.seg_rbtree.specs.Paths.{node_at}
use Rattle.seg_index.proofs.TreeRemoves.{TakesFrom, leaves, never_missing}
use Rattle.seg_index.proofs.tree.remove.Goals as goal

bytes_are : (p q : Placement) → p ≡ q → p.bytes ≡ q.bytes
bytes_are p q e = ap (λ (r : Placement). r.bytes) e

none : (o : Option ℕ) → ((x : ℕ) → o ≡ Some x → ⊥) → o ≡ None
none None h = refl
none (Some x) h = absurd (h x refl)

pub returns-in_default-clause-leaves : goal.returns-in_default-clause-leaves
returns-in_default-clause-leaves g c = λ names blocks s kind root there_is way.
    absurd (never_missing g.F.Fit.allocator c.args.heap.now.window.bytes c.args.heap.now.types names blocks s kind root there_is c.args.path.now way
    (ap (λ (w : Placement). node_at w.bytes c.args.path.now) (sym c.window.ensures) ∙ sym c.node.ensures ∙ none c.node.result c.in_default.not-Some))

pub returns-clause-leaves : goal.returns-clause-leaves
returns-clause-leaves g c = λ names blocks s kind root there_is way.
    let old = c.args.heap.now.window.bytes in
    let path = c.args.path.now in
    let node = c.in-Some.node in
    let node_is = ap (λ (w : Placement). node_at w.bytes path) (sym c.window.ensures) ∙ sym c.node.ensures ∙ c.in-Some.is in
    let same = bytes_are c.window_mut.result.now c.args.heap.now.window c.window_mut.ensures.value in
    let taken : TakesFrom old c.remove.new.w.bytes path.root path = subst (λ bs. TakesFrom bs c.remove.new.w.bytes path.root path) same c.remove.ensures.removed in
    let mid_is = bytes_are c.set_count.new.self.window (with_bytes c.remove.new.w (set_word c.remove.new.w.bytes (index_cell + 4) c.saturating_sub-count.result)) c.set_count.ensures.window in
    leaves g.F.Fit.allocator old c.args.heap.now.types names blocks s kind root there_is path way node node_is
    c.remove.new.w.bytes c.set_count.new.self.window.bytes c.free_block.new.self.window.bytes c.saturating_sub-count.result c.count.result taken mid_is c.saturating_sub-count.ensures c.count.ensures c.free_block.ensures.gives
