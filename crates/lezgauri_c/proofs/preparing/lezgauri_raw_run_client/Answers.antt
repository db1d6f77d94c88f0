use Rattle.std.proofs.Common.{◌≡◌, ◌∷◌, [], sym, ◌∙◌, subst}
use Rattle.std.proofs.lemmas.Result.{IfOk-at_ok, IfErr-at_err}
use Rattle.std.specs.Global.{Global}
use Rattle.client_spec.specs.Grammar.{SpellsClient}
use Rattle.client_vm.specs.declared.ready.Ready.{Ready}
use Rattle.lezgauri_c.specs.Calls.{HasRunOn, IsReportedAs}
use Rattle.lezgauri_c.specs.Prepared.{client_bytes_of}
use Rattle.lezgauri_c.proofs.ChangeLaws.{opened_now}
use Rattle.lezgauri_c.proofs.Numbers.{status_one}
use Rattle.lezgauri_c.proofs.ReadyLaws.{one_kept}
use Rattle.lezgauri_c.proofs.RunLaws.{run_of, types_of_run, refused_as}
use Rattle.lezgauri_c.proofs.preparing.lezgauri_raw_run_client.Goals as goal

pub returns-in-Ok-ran-clause-outcome : goal.returns-in-Ok-ran-clause-outcome
returns-in-Ok-ran-clause-outcome c ended is ready hand client spells =
    let ran = c.deref.result.now in
    let one : ran ≡ ready = c.deref.ensures ∙ one_kept c.take-client.result.value ready (sym c.take-client.ensures.client ∙ hand) in
    let here = subst (λ (r : Ready Global). SpellsClient (client_bytes_of r) client) (sym one) spells in
    let told = c.in-Ok-ran.told in
    let kept = c.deref_mut.result.now in
    let on = opened_now c.deref_mut.ensures.value c.in-Ok.ensures.opened in
    let left = c.run_again-ran.new.image in
    let before = c.new-sink.result.bytes.items in
    let written = c.run_again-ran.new.sink.bytes.items in
    let same = status_one told.ended ended (sym c.status_of.ensures ∙ is) in
    subst (λ (r : Ready Global). HasRunOn c.args.image.now.bytes c.args.types.now (client_bytes_of r) c.args.input.now ended c.args.output.now.bytes c.give_back.new.self.bytes c.close_image.new.lent.bytes c.from.result) one
    (record {
      report = told;
      told_is = c.from.ensures;
      ended_is = same;
      within = IfOk-at_ok _ c.in-Ok-ran.is c.run_again-ran.ensures.within;
      run = run_of c.args.image.now c.args.types.now kept on (client_bytes_of ran) left c.args.input.now before written told (IfOk-at_ok _ c.in-Ok-ran.is (c.run_again-ran.ensures.runs client here))
          c.args.output.now.bytes c.give_back.new.self.bytes c.close_image.new.lent.bytes ended
          (c.new-sink.ensures.bytes ∙ c.take.ensures.bytes) (c.give_back.ensures.bytes ∙ c.into_bytes.ensures) c.close_image.ensures.bytes same;
    })

pub returns-in-Ok-ran-clause-types : goal.returns-in-Ok-ran-clause-types
returns-in-Ok-ran-clause-types c ended is sound same ready hand client spells =
    let ran = c.deref.result.now in
    let one : ran ≡ ready = c.deref.ensures ∙ one_kept c.take-client.result.value ready (sym c.take-client.ensures.client ∙ hand) in
    let here = subst (λ (r : Ready Global). SpellsClient (client_bytes_of r) client) (sym one) spells in
    let kept = c.deref_mut.result.now in
    let on = opened_now c.deref_mut.ensures.value c.in-Ok.ensures.opened in
    let left = c.run_again-ran.new.image in
    let before = c.new-sink.result.bytes.items in
    let written = c.run_again-ran.new.sink.bytes.items in
    types_of_run c.args.image.now c.args.types.now kept on (client_bytes_of ran) left c.args.input.now before written c.in-Ok-ran.told (IfOk-at_ok _ c.in-Ok-ran.is (c.run_again-ran.ensures.runs client here))
    c.close_image.new.lent.bytes c.close_image.new.types c.close_image.ensures.bytes c.close_image.ensures.types sound same

pub returns-in-Err-ran-clause-refused : goal.returns-in-Err-ran-clause-refused
returns-in-Err-ran-clause-refused c number sound same ready hand client spells =
    let ran = c.deref.result.now in
    let one : ran ≡ ready = c.deref.ensures ∙ one_kept c.take-client.result.value ready (sym c.take-client.ensures.client ∙ hand) in
    let here = subst (λ (r : Ready Global). SpellsClient (client_bytes_of r) client) (sym one) spells in
    let kept = c.deref_mut.result.now in
    let on = opened_now c.deref_mut.ensures.value c.in-Ok.ensures.opened in
    let refused = c.in-Err-ran.refused in
    subst (λ (r : Ready Global). IsReportedAs c.args.image.now.bytes (client_bytes_of r ∷ []) c.from-in-Err-ran.result) one
    (refused, c.from-in-Err-ran.ensures, refused_as c.args.image.now c.args.types.now kept on (client_bytes_of ran) refused (IfErr-at_err _ c.in-Err-ran.is (c.run_again-ran.ensures.refused client here)) sound same)
