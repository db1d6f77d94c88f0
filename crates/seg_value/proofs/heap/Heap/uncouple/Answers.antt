use Rattle.seg_cells.specs.Places.{object_at}
use Rattle.seg_value.proofs.UncoupleLaws.{single, ring, buffer}
use Rattle.seg_spec.proofs.WindowLaws.{bytes_of}
use Rattle.seg_value.proofs.heap.Heap.uncouple.Goals as goal

pub returns-in-Buffer-clause-uncouples : goal.returns-in-Buffer-clause-uncouples
returns-in-Buffer-clause-uncouples g c = λ allocator T v xs valid heap content named h fits.
    let old = c.args.self.now.window in
    buffer allocator old.bytes c.args.self.now.types valid heap (object_at c.args.cell T) c.args.payload named v xs fits h c.args.content.now c.default_rest.new.self.window.bytes c.count-used.result
    content c.in-Buffer.is c.count-used.ensures (λ bytes. bytes_of c.default_rest.new.self.window old (c.default_rest.ensures.bytes bytes))
    (λ before U is low here room. c.default_rest.ensures.rest allocator before U valid is heap low here room)

pub returns-in-Ring-clause-uncouples : goal.returns-in-Ring-clause-uncouples
returns-in-Ring-clause-uncouples g c = λ allocator T v xs valid heap content named h fits.
    ring allocator c.args.self.now.window.bytes c.args.self.now.types valid heap (object_at c.args.cell T) c.args.payload named v xs fits h c.args.content.now c.open_ring.new.self.window.bytes
    content c.in-Ring.is c.open_ring.ensures.opened

pub returns-in-Tree-clause-uncouples : goal.returns-in-Tree-clause-uncouples
returns-in-Tree-clause-uncouples g c = λ allocator T v xs valid heap content named h fits.
    single allocator c.args.self.now.window.bytes c.args.self.now.types valid heap (object_at c.args.cell T) c.args.payload named v xs fits h c.args.content.now content c.in-Tree.is
