use Rattle.std.proofs.Common.{ℕ, List, ◌+◌, ◌%◌, ◌^◌, ap, ◌∙◌, Some, None, subst}
use Rattle.seg_spec.specs.Bytes.{signed_long}
use Rattle.seg_rbtree.specs.Following.{LeadsInside}
use Rattle.seg_cells.specs.Places.{object_at}
use Rattle.seg_map.proofs.TreeMaps.{first_is, no_entry, entry_of}
use Rattle.seg_map.proofs.tree.first_entry_by.Goals as goal

pub returns-in_err-node-clause-first : goal.returns-in_err-node-clause-first
returns-in_err-node-clause-first g c = λ T U keys vs blocks f s e.
    let stored = g.S.SegmentRead.stored c.args.source.now in
    let allocator = g.S.SegmentRead.allocator c.args.source.now in
    let found =
    first_is allocator stored.window.bytes stored.types (object_at c.args.cell T) U keys vs blocks f s
    c.view-view.result.bytes.now c.tree_of.result.root c.view-view.ensures c.tree_of.ensures None
    c.in_err-node.ensures.node in
    rw c.from_residual.ensures (no_entry allocator stored.window.bytes stored.types (object_at c.args.cell T) U keys vs blocks f s _ found)

pub returns-clause-first : goal.returns-clause-first
returns-clause-first g c = λ T U keys vs blocks f s e.
    let stored = g.S.SegmentRead.stored c.args.source.now in
    let allocator = g.S.SegmentRead.allocator c.args.source.now in
    let found =
    first_is allocator stored.window.bytes stored.types (object_at c.args.cell T) U keys vs blocks f s
    c.view-view.result.bytes.now c.tree_of.result.root c.view-view.ensures c.tree_of.ensures (Some c.in_ok-node.node)
    c.in_ok-node.ensures.node in
    let key_is = c.entry_at.ensures.key ∙ ap (λ (bs : List ℕ). signed_long bs ((c.in_ok-node.node + 16) % 2 ^ 32)) c.view-view.ensures in
    entry_of allocator stored.window.bytes stored.types (object_at c.args.cell T) U keys vs blocks f s c.args.entry _ c.in_ok-node.node c.entry_at.result e key_is c.entry_at.ensures.value found

pub returns-in_err-node-clause-inside : goal.returns-in_err-node-clause-inside
returns-in_err-node-clause-inside g c = subst (λ (bs : List ℕ). LeadsInside bs c.first.new.self) c.view-view.ensures c.first.ensures.inside

pub returns-clause-inside : goal.returns-clause-inside
returns-clause-inside g c = subst (λ (bs : List ℕ). LeadsInside bs c.first.new.self) c.view-view.ensures c.first.ensures.inside
