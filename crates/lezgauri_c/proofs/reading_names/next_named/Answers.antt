use Rattle.seg_spec.specs.Bytes.{slice}
use Rattle.seg_manager.specs.NamedObjects.{DescribesRoot}
use Rattle.seg_manager.proofs.NamedReads.{told, told_none, said, unsaid, names_found, listed_after}
use Rattle.seg_index.specs.Lists.{root_after}
use Rattle.lezgauri_c.specs.declared.reading_names.Named.{Named}
use Rattle.lezgauri_c.specs.Values.{allocator_in, stored_in}
use Rattle.lezgauri_c.specs.KeptImages.{types_in}
use Rattle.lezgauri_c.proofs.reading_names.next_named.Goals as goal

pub returns-in_err-next_name-clause-next : goal.returns-in_err-next_name-clause-next
returns-in_err-next_name-clause-next c picture is =
    let bytes = c.args.reader.view.bytes.now in
    let o = root_after picture.names c.args.after.now in
    let read = c.next_name.ensures picture.names is.held.index_blocks (names_found (allocator_in bytes) (stored_in bytes (types_in c.args.reader)) picture is) in
    unsaid (λ (it : Named) root. DescribesRoot (slice bytes it.name.at it.name.len) it.type_id it.count root) c.from_residual.result o c.from_residual.ensures (told_none o c.next_name.result read c.in_err-next_name.was)

pub returns-clause-next : goal.returns-clause-next
returns-clause-next c picture is =
    let bytes = c.args.reader.view.bytes.now in
    let segment = stored_in bytes (types_in c.args.reader) in
    let o = root_after picture.names c.args.after.now in
    let read = c.next_name.ensures picture.names is.held.index_blocks (names_found (allocator_in bytes) segment picture is) in
    let it = told o c.next_name.result c.in_ok-next_name.field-0 read c.in_ok-next_name.was in
    let l = listed_after (allocator_in bytes) segment picture is c.args.after.now it.0 it.1 in
    said (λ (it : Named) root. DescribesRoot (slice bytes it.name.at it.name.len) it.type_id it.count root) c.named_of.result o it.0 it.1 (c.named_of.ensures.named it.0 l.0 l.1 it.2)
