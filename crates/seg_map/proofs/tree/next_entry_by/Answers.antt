use Rattle.std.proofs.Common.{◌≡◌, ℕ, List, w64, of_z, to_z, ◌+◌, ◌%◌, ◌^◌, ap, ◌∙◌, Some, None, sym, subst}
use Rattle.std.proofs.lemmas.Int.{to_z-of_z}
use Rattle.seg_spec.specs.Bytes.{signed_long}
use Rattle.seg_rbtree.specs.declared.path.Path.{Path}
use Rattle.seg_rbtree.specs.Following.{LeadsInside}
use Rattle.seg_cells.specs.Places.{object_at}
use Rattle.seg_map.specs.Maps.{first_of, keys_above}
use Rattle.seg_map.proofs.TreeMaps.{next_is, FindsNode, no_entry, entry_of}
use Rattle.seg_map.proofs.tree.next_entry_by.Goals as goal

there : (now bytes : List ℕ) (path : Path) → now ≡ bytes → LeadsInside bytes path → LeadsInside now path
there now bytes path e inside = subst (λ (bs : List ℕ). LeadsInside bs path) (sym e) inside

pub returns-in_err-node-clause-next : goal.returns-in_err-node-clause-next
returns-in_err-node-clause-next g c = λ inside T U keys vs blocks f s e.
    let stored = g.S.SegmentRead.stored c.args.source.now in
    let allocator = g.S.SegmentRead.allocator c.args.source.now in
    let found =
    subst (λ k. FindsNode allocator stored.window.bytes stored.types (object_at c.args.cell T) U keys vs blocks f s (first_of (keys_above keys k)) (None)) (to_z-of_z w64 c.args.after c.ranges.after)
    (next_is allocator stored.window.bytes stored.types (object_at c.args.cell T) U keys vs blocks f s
    c.view-view.result.bytes.now c.tree_of.result.root c.view-view.ensures c.tree_of.ensures (to_z w64 (of_z w64 c.args.after)) None
    (c.in_err-node.ensures.node tt (there c.view-view.result.bytes.now stored.window.bytes c.args.cursor.now c.view-view.ensures inside))) in
    rw c.from_residual.ensures (no_entry allocator stored.window.bytes stored.types (object_at c.args.cell T) U keys vs blocks f s _ found)

pub returns-clause-next : goal.returns-clause-next
returns-clause-next g c = λ inside T U keys vs blocks f s e.
    let stored = g.S.SegmentRead.stored c.args.source.now in
    let allocator = g.S.SegmentRead.allocator c.args.source.now in
    let found =
    subst (λ k. FindsNode allocator stored.window.bytes stored.types (object_at c.args.cell T) U keys vs blocks f s (first_of (keys_above keys k)) (Some c.in_ok-node.node)) (to_z-of_z w64 c.args.after c.ranges.after)
    (next_is allocator stored.window.bytes stored.types (object_at c.args.cell T) U keys vs blocks f s
    c.view-view.result.bytes.now c.tree_of.result.root c.view-view.ensures c.tree_of.ensures (to_z w64 (of_z w64 c.args.after)) (Some c.in_ok-node.node)
    (c.in_ok-node.ensures.node tt (there c.view-view.result.bytes.now stored.window.bytes c.args.cursor.now c.view-view.ensures inside))) in
    let key_is = c.entry_at.ensures.key ∙ ap (λ (bs : List ℕ). signed_long bs ((c.in_ok-node.node + 16) % 2 ^ 32)) c.view-view.ensures in
    entry_of allocator stored.window.bytes stored.types (object_at c.args.cell T) U keys vs blocks f s c.args.entry _ c.in_ok-node.node c.entry_at.result e key_is c.entry_at.ensures.value found

pub returns-in_err-node-clause-inside : goal.returns-in_err-node-clause-inside
returns-in_err-node-clause-inside g c = λ inside.
    let stored = g.S.SegmentRead.stored c.args.source.now in
    subst (λ (bs : List ℕ). LeadsInside bs c.next_after.new.self) c.view-view.ensures
    (c.next_after.ensures.inside tt (there c.view-view.result.bytes.now stored.window.bytes c.args.cursor.now c.view-view.ensures inside))

pub returns-clause-inside : goal.returns-clause-inside
returns-clause-inside g c = λ inside.
    let stored = g.S.SegmentRead.stored c.args.source.now in
    subst (λ (bs : List ℕ). LeadsInside bs c.next_after.new.self) c.view-view.ensures
    (c.next_after.ensures.inside tt (there c.view-view.result.bytes.now stored.window.bytes c.args.cursor.now c.view-view.ensures inside))
