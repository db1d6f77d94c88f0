use Rattle.seg_seq.specs.declared.ring.Way.TheVariants as way
use Rattle.seg_seq.proofs.Fronts.{item_beside}
use Rattle.seg_seq.proofs.list.next.Goals as goal

pub returns : goal.returns
returns g c = λ allocator U i list vs blocks h lead.
    let stored = g.S.SegmentRead.stored c.args.source.now in
    item_beside allocator stored.window.bytes stored.types list U h.form_is vs blocks h.stands way.Forward i c.args.item
    c.node_of.result c.neighbour.result c.item_of.result lead c.node_of.ensures c.neighbour.ensures c.item_of.ensures
