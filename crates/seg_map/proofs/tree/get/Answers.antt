use Rattle.std.proofs.Common.{◌≡◌, ◌+◌, ◌∷◌, [], sym, subst, Some, None, w64, of_z, to_z, arith}
use Rattle.std.proofs.lemmas.Int.{to_z-of_z}
use Rattle.seg_spec.specs.Value.{Selector}
use Rattle.seg_spec.specs.Reads.{Leads}
use Rattle.seg_cells.specs.Places.{object_at}
use Rattle.seg_map.specs.Maps.{FindsValue, value_of}
use Rattle.seg_map.proofs.TreeMaps.{value_is, value_low}
use Rattle.seg_map.proofs.tree.get.Goals as goal

pub returns-in_err-node : goal.returns-in_err-node
returns-in_err-node g c = λ T U keys vs blocks f s e.
    let stored = g.S.SegmentRead.stored c.args.source.now in
    let allocator = g.S.SegmentRead.allocator c.args.source.now in
    subst (FindsValue stored.window.bytes stored.types (object_at c.args.cell T) U keys c.args.key) (sym c.from_residual.ensures)
    (subst (λ k. FindsValue stored.window.bytes stored.types (object_at c.args.cell T) U keys k None) (to_z-of_z w64 c.args.key c.ranges.key)
    (value_is allocator stored.window.bytes stored.types (object_at c.args.cell T) U keys vs blocks f s
    c.view.result.bytes.now c.tree_of.result.root c.view.ensures c.tree_of.ensures (to_z w64 (of_z w64 c.args.key)) None (c.in_err-node.ensures tt)))

pub returns : goal.returns
returns g c = λ T U keys vs blocks f s e.
    let stored = g.S.SegmentRead.stored c.args.source.now in
    let allocator = g.S.SegmentRead.allocator c.args.source.now in
    let found = value_is allocator stored.window.bytes stored.types (object_at c.args.cell T) U keys vs blocks f s
    c.view.result.bytes.now c.tree_of.result.root c.view.ensures c.tree_of.ensures (to_z w64 (of_z w64 c.args.key)) (Some c.in_ok-node.node) (c.in_ok-node.ensures tt) in
    let low = value_low allocator stored.window.bytes stored.types (object_at c.args.cell T) U keys vs blocks f s
    c.view.result.bytes.now c.tree_of.result.root c.view.ensures c.tree_of.ensures (to_z w64 (of_z w64 c.args.key)) c.in_ok-node.node (c.in_ok-node.ensures tt) in
    let at : c.value_at.result ≡ c.in_ok-node.node + 24 = let is = c.value_at.ensures in let before = e.before_is in omega arith in
    subst (λ p. Leads stored.window.bytes stored.types (object_at c.args.cell T) (Selector.key c.args.key ∷ []) (value_of U p)) (sym at)
    (subst (λ k. Leads stored.window.bytes stored.types (object_at c.args.cell T) (Selector.key k ∷ []) (value_of U (c.in_ok-node.node + 24))) (to_z-of_z w64 c.args.key c.ranges.key) found)
