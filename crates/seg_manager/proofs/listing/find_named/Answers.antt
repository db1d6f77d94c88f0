use Rattle.seg_spec.specs.Index.{root_named}
use Rattle.seg_manager.specs.NamedObjects.{DescribesRoot}
use Rattle.seg_manager.specs.declared.listing.Named.{Named}
use Rattle.seg_manager.proofs.NamedReads.{told, told_none, said, unsaid, names_found, listed_named}
use Rattle.seg_manager.proofs.listing.find_named.Goals as goal

pub returns-in_err-find : goal.returns-in_err-find
returns-in_err-find g c = λ picture is.
    let a = g.S.SegmentRead.allocator c.args.source.now in
    let s = g.S.SegmentRead.stored c.args.source.now in
    let o = root_named picture.names c.args.name.now in
    let read = c.find.ensures picture.names is.held.index_blocks (names_found a s picture is) in
    unsaid (λ (it : Named) root. DescribesRoot it.name.now it.type_id it.count root) c.from_residual.result o c.from_residual.ensures (told_none o c.find.result read c.in_err-find.was)

pub returns : goal.returns
returns g c = λ picture is.
    let a = g.S.SegmentRead.allocator c.args.source.now in
    let s = g.S.SegmentRead.stored c.args.source.now in
    let o = root_named picture.names c.args.name.now in
    let read = c.find.ensures picture.names is.held.index_blocks (names_found a s picture is) in
    let it = told o c.find.result c.in_ok-find.field-0 read c.in_ok-find.was in
    let l = listed_named a s picture is c.args.name.now it.0 it.1 in
    said (λ (it : Named) root. DescribesRoot it.name.now it.type_id it.count root) c.read_entry.result o it.0 it.1 (c.read_entry.ensures it.0 l.0 l.1 it.2)
