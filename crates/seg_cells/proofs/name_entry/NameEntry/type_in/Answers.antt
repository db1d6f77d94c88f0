use Rattle.std.proofs.Common.{sym, ap, ◌∙◌}
use Rattle.seg_spec.specs.Heap.{tag_at}
use Rattle.seg_cells.specs.Names.{named_type, type_of}
use Rattle.seg_cells.proofs.NamedTags.{no_block, in_block}
use Rattle.seg_cells.proofs.name_entry.NameEntry.type_in.Goals as goal

pub returns-in_err-block : goal.returns-in_err-block
returns-in_err-block c =
    let bytes = c.args.view.bytes.now in
    c.from_residual-in_err-block.ensures ∙ sym (ap (type_of bytes) c.in_ok-self.was ∙ no_block bytes c.in_ok-self.field-0 c.in_err-block.ensures)

pub returns : goal.returns
returns c =
    let bytes = c.args.view.bytes.now in
    c.named_type.ensures ∙ ap named_type (c.get32.ensures ∙ ap (tag_at bytes) c.in_ok-block.ensures.1)
    ∙ sym (ap (type_of bytes) c.in_ok-self.was ∙ in_block bytes c.in_ok-self.field-0 c.in_ok-block.ensures.0)
