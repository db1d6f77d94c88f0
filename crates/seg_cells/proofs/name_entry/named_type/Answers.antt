use Rattle.std.proofs.Common.{◌<◌, sym, ap, ◌∙◌, arith}
use Rattle.seg_spec.specs.Block.{tag_of}
use Rattle.seg_block.specs.Tags.{kind_of}
use Rattle.seg_cells.proofs.NamedTags.{is_named, no_tag, other_tag}
use Rattle.seg_cells.proofs.name_entry.named_type.Goals as goal

pub returns-in_err-kind : goal.returns-in_err-kind
returns-in_err-kind c = c.from_residual.ensures ∙ sym (no_tag c.args.word c.read.result c.read.ensures.every c.in_err-kind.was)

pub returns-in-Named : goal.returns-in-Named
returns-in-Named c =
    let T = c.in_ok-kind.field-0.type_id in
    let spelled = c.in_ok-kind.ensures.spelled in
    let is = c.in-Named.is in
    let kind = c.in_ok-kind.kind-is in
    let small : T < 256 = omega arith in
    sym (is_named c.args.word T (spelled ∙ ap (λ k. tag_of (kind_of k) T) is) small)

pub returns-in-Object : goal.returns-in-Object
returns-in-Object c = sym (other_tag c.args.word c.in_ok-kind.field-0 c.in_ok-kind.ensures.spelled c.in-Object.is)
