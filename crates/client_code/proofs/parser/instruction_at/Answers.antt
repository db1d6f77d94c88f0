use Rattle.std.proofs.Common.{refl, ◌∙◌}
use Rattle.seg_raw.proofs.Numbers.{slice_from}
use Rattle.client_code.proofs.FileReadLaws.{decoded, not_decoded}
use Rattle.client_code.proofs.parser.instruction_at.Goals as goal

pub returns-clause-found : goal.returns-clause-found
returns-clause-found c =
    let field = c.in_ok-get.ensures.lookup.0 in
    decoded c.decode.result c.args.file.now c.in_ok-get.field-0.now c.args.at field.1 (field.2 ∙ slice_from c.args.file.now c.args.file.now c.args.at 8 refl) c.decode.ensures.found

pub returns-clause-none : goal.returns-clause-none
returns-clause-none c =
    let field = c.in_ok-get.ensures.lookup.0 in
    not_decoded c.decode.result c.args.file.now c.in_ok-get.field-0.now c.args.at (field.2 ∙ slice_from c.args.file.now c.args.file.now c.args.at 8 refl) c.decode.ensures.none
