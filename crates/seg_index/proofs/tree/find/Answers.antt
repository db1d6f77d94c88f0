use Rattle.std.proofs.Common.{ℕ, List, ◌+◌, ap, ◌∙◌, Some, None}
use Rattle.seg_cells.specs.NameEntries.{entry_read}
use Rattle.seg_index.proofs.TreeLists.{found_is}
use Rattle.seg_index.proofs.tree.find.Goals as goal

pub returns-in_err-node : goal.returns-in_err-node
returns-in_err-node g c = λ names blocks s kind.
    let stored = g.S.SegmentRead.stored c.args.source.now in
    c.from_residual.ensures ∙ found_is (g.S.SegmentRead.allocator c.args.source.now) stored.window.bytes stored.types names blocks s kind
    c.view-view.result.bytes.now c.types.result.now c.names.result.root c.view-view.ensures c.types.ensures c.names.ensures c.args.name.now None (c.in_err-node.ensures tt)

pub returns : goal.returns
returns g c = λ names blocks s kind.
    let stored = g.S.SegmentRead.stored c.args.source.now in
    ap Some (c.entry_of.ensures ∙ ap (λ (bs : List ℕ). entry_read bs (c.in_ok-node.node + 16)) c.view-view.ensures)
    ∙ found_is (g.S.SegmentRead.allocator c.args.source.now) stored.window.bytes stored.types names blocks s kind
    c.view-view.result.bytes.now c.types.result.now c.names.result.root c.view-view.ensures c.types.ensures c.names.ensures c.args.name.now (Some c.in_ok-node.node) (c.in_ok-node.ensures tt)
