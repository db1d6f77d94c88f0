use Rattle.std.proofs.Common.{◌≡◌, Some, sym, ap, ◌∙◌}
use Rattle.std.proofs.lemmas.Result.{IfOk-at_ok, IfErr-at_err}
use Rattle.lezgauri_c.specs.KeptImages.{table_kept}
use Rattle.lezgauri_c.specs.Values.{table_in}
use Rattle.lezgauri_c.proofs.RunLaws.{one_table, wrong}
use Rattle.lezgauri_c.proofs.preparing.lezgauri_raw_prepare.Goals as goal

pub returns-in-Ok-clause-ready : goal.returns-in-Ok-clause-ready
returns-in-Ok-clause-ready c is =
    let made = IfOk-at_ok _ c.in-Ok.is c.boxed_ready-made.ensures.accepted in (
      c.in-Ok.client.value,
      c.keep-in-Ok.ensures,
      record {
        text_is = IfOk-at_ok _ c.in-Ok.is c.boxed_ready-made.ensures.text;
        table = c.types.result.now;
        table_is = c.in-Some.ensures.types ∙ ap Some (sym (c.types.ensures ∙ ap table_kept c.deref.ensures));
        client = made.0;
        spells = made.1;
        verified = made.2;
      },
    )

pub returns-in-Err-clause-refused : goal.returns-in-Err-clause-refused
returns-in-Err-clause-refused c some image sound same =
    let refused = c.in-Err.refused in
    let table = c.types.result.now in
    let kept : table_in c.args.types.now ≡ Some table = c.in-Some.ensures.types ∙ ap Some (sym (c.types.ensures ∙ ap table_kept c.deref.ensures)) in
    (refused, c.from.ensures, wrong image sound c.args.client.now table (one_table c.args.types.now table sound.picture.table kept same) refused (IfErr-at_err _ c.in-Err.is c.boxed_ready-made.ensures.wrong))
