use Rattle.std.proofs.Common.{ℕ, List, ap, ◌∙◌, sym}
use Rattle.seg_cells.specs.Names.{type_of}
use Rattle.seg_manager.proofs.NamedReads.{found_other, found_same}
use Rattle.seg_manager.proofs.names.named_object.Goals as goal

pub returns-then-ne : goal.returns-then-ne
returns-then-ne g c = λ root named small is.
    let s = g.S.SegmentRead.stored c.args.source.now in
    found_other s.window.bytes s.types root c.args.entry named small is c.args.t c.type_in.result
    (c.type_in.ensures ∙ ap (λ (bytes : List ℕ). type_of bytes c.args.entry.object) c.view.ensures) (sym c.if-ne.true ∙ c.ne.ensures)

pub returns : goal.returns
returns g c = λ root named small is.
    let s = g.S.SegmentRead.stored c.args.source.now in
    found_same s.window.bytes s.types root c.args.entry named small is c.args.t c.in-Some.at c.type_in.result
    (c.type_in.ensures ∙ ap (λ (bytes : List ℕ). type_of bytes c.args.entry.object) c.view.ensures) (sym c.if-ne.false ∙ c.ne.ensures) c.in-Some.is
