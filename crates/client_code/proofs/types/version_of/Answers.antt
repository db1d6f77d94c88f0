use Rattle.std.proofs.Common.{ap, ◌∙◌, arith}
use Rattle.std.specs.Prelude.{Some}
use Rattle.seg_spec.specs.Types.{Form}
use Rattle.seg_layout.specs.Forms.{form_of}
use Rattle.std.proofs.lemmas.Option.{slice_get_within}
use Rattle.client_spec.proofs.Spelling.FileVersionLaws.{is_version, of_its_version, first_version}
use Rattle.client_code.proofs.types.version_of.Goals as goal

pub returns-in-Some-Shared : goal.returns-in-Some-Shared
returns-in-Some-Shared c =
    let known = is_version c.args.types.now in
    let here = of_its_version c.args.types.now c.loop-t.t (Form.shared c.in-Some-Shared.field-0-0) (c.in-Some-Shared.ensures ∙ ap (λ t. Some (form_of t)) c.in-Some-Shared.field-0-is) in
    omega arith

pub returns : goal.returns
returns c =
    let known = is_version c.args.types.now in
    let len = c.len-t-end.ensures.len in
    let all = c.loop-t-test.false in
    let first = first_version 1 c.args.types.now (omega arith) (record { each = λ k form at. c.loop-t.invariant k form (let within = slice_get_within c.args.types.now k form at in omega arith) at }) in
    omega arith
