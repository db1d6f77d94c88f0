use Rattle.std.proofs.Common.{ap, ◌∙◌, sym}
use Rattle.seg_spec.specs.Index.{root_named}
use Rattle.seg_manager.specs.NamedObjects.{found_as}
use Rattle.seg_manager.proofs.NamedReads.{told, told_none, names_found, listed_named}
use Rattle.seg_manager.proofs.names.find.Goals as goal

pub returns-in-Some : goal.returns-in-Some
returns-in-Some g c = λ picture is.
    let a = g.S.SegmentRead.allocator c.args.source.now in
    let s = g.S.SegmentRead.stored c.args.source.now in
    let read = c.find.ensures picture.names is.held.index_blocks (names_found a s picture is) in
    let it = told (root_named picture.names c.args.name.now) c.find.result c.in-Some.entry read c.in-Some.is in
    let l = listed_named a s picture is c.args.name.now it.0 it.1 in
    c.named_object.ensures it.0 l.0 l.1 it.2 ∙ ap (found_as c.args.t) (sym it.1)

pub returns-in-None : goal.returns-in-None
returns-in-None g c = λ picture is.
    let a = g.S.SegmentRead.allocator c.args.source.now in
    let s = g.S.SegmentRead.stored c.args.source.now in
    let read = c.find.ensures picture.names is.held.index_blocks (names_found a s picture is) in
    ap (found_as c.args.t) (sym (told_none (root_named picture.names c.args.name.now) c.find.result read c.in-None.is))
