use Rattle.seg_index.specs.Lists.{root_after}
use Rattle.seg_manager.specs.NamedObjects.{DescribesRoot}
use Rattle.seg_manager.specs.declared.listing.Named.{Named}
use Rattle.seg_manager.proofs.NamedReads.{told, told_none, said, unsaid, names_found, listed_after}
use Rattle.seg_manager.proofs.listing.next_name.Goals as goal

pub returns-in_err-next_name : goal.returns-in_err-next_name
returns-in_err-next_name g c = λ picture is.
    let a = g.S.SegmentRead.allocator c.args.source.now in
    let s = g.S.SegmentRead.stored c.args.source.now in
    let o = root_after picture.names c.args.after.now in
    let read = c.next_name.ensures picture.names is.held.index_blocks (names_found a s picture is) in
    unsaid (λ (it : Named) root. DescribesRoot it.name.now it.type_id it.count root) c.from_residual.result o c.from_residual.ensures (told_none o c.next_name.result read c.in_err-next_name.was)

pub returns : goal.returns
returns g c = λ picture is.
    let a = g.S.SegmentRead.allocator c.args.source.now in
    let s = g.S.SegmentRead.stored c.args.source.now in
    let o = root_after picture.names c.args.after.now in
    let read = c.next_name.ensures picture.names is.held.index_blocks (names_found a s picture is) in
    let it = told o c.next_name.result c.in_ok-next_name.field-0 read c.in_ok-next_name.was in
    let l = listed_after a s picture is c.args.after.now it.0 it.1 in
    said (λ (it : Named) root. DescribesRoot it.name.now it.type_id it.count root) c.read_entry.result o it.0 it.1 (c.read_entry.ensures it.0 l.0 l.1 it.2)
