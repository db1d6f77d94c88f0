use Rattle.std.proofs.Common.{◌≡◌, ℕ, ◌≤◌, List, true, false, length, vec_capacity, sym, ap, ◌∙◌, subst}
use Rattle.std.proofs.lemmas.List.{length-map}
use Rattle.client_code.specs.Clients.{bytes_of}
use Rattle.seg_spec.specs.Window.{Placement}
use Rattle.client_spec.specs.Run.{Ending}
use Rattle.client_spec.specs.Clients.{AreAccepted}
use Rattle.client_vm.specs.ReadyClients.{client_in, texts_in}
use Rattle.client_vm.specs.Moves.{moves_of}
use Rattle.client_vm.specs.Runs.{ending_of}
use Rattle.client_vm.specs.Reports.{AreReportsOf}
use Rattle.client_vm.specs.Together.{ending_if, HaveRun}
use Rattle.client_vm.proofs.TogetherLaws.{ending_failed}
use Rattle.client_vm.proofs.bytes.run_verified.Goals.{then-failed, else-failed}
use Rattle.client_vm.proofs.bytes.run_verified.Goals as goal

pub returns-clause-reports : goal.returns-clause-reports
returns-clause-reports g c =
    let same : length c.as_slice-ready.result.now ≡ length c.args.programs.items = ap length c.as_slice-ready.ensures.value in
    let room = subst (λ n. n ≤ vec_capacity c.args.reports) (sym same) c.requires.room in
    record {
      reports_are = subst (λ ps. AreReportsOf (texts_in ps) c.run_all.new.reports.items) c.as_slice-ready.ensures.value (c.run_all.ensures.reports c.requires.empty room);
      all = λ done. elim c.if-failed.branch [
        | then-failed w ↦ absurd (let is = w.ended-is in cc)
        | else-failed w ↦
            c.run_all.ensures.all c.requires.empty room (sym c.failed.ensures ∙ w.if-failed.false) ∙ same ∙ sym (length-map c.args.programs.items (λ p. bytes_of (client_in p)))
      ];
    }

pub returns-clause-runs : goal.returns-clause-runs
returns-clause-runs g c trees accepted ready =
    let room = subst (λ n. n ≤ vec_capacity c.args.reports) (sym (ap length c.as_slice-ready.ensures.value)) c.requires.room in
    let ran = c.run_all.ensures.runs c.requires.empty room c.requires.works trees (subst (λ ps. AreAccepted c.args.segment.types (texts_in ps) trees) (sym c.as_slice-ready.ensures.value) accepted) ready in
    let bytes : c.run_all.new.segment.window.bytes ≡ c.into_bytes.result.items = sym (c.into_bytes.ensures.bytes ∙ ap (λ (w : Placement). w.bytes) c.into_window.ensures) in
    let is : c.failed.result ≡ g.W.Sink.has_failed c.run_all.new.out = c.failed.ensures in
    let ending : ending_if (g.W.Sink.has_failed c.run_all.new.out) ≡ ending_of c.if-failed.ended = ending_failed (g.W.Sink.has_failed c.run_all.new.out) c.if-failed.ended
    (λ f. elim c.if-failed.branch [
      | then-failed w ↦ w.ended-is
      | else-failed w ↦ absurd (let z : true ≡ false = sym f ∙ sym is ∙ w.if-failed.false in cc)
    ])
    (λ f. elim c.if-failed.branch [
      | then-failed w ↦ absurd (let z : false ≡ true = sym f ∙ sym is ∙ w.if-failed.true in cc)
      | else-failed w ↦ w.ended-is
    ]) in
    let its = λ (saved : List ℕ) (e : Ending). HaveRun trees (moves_of c.args.moves.now) c.args.input.now c.args.segment.window (g.W.Sink.taken c.args.out.now) saved (g.W.Sink.taken c.run_all.new.out) c.run_all.new.reports.items e in
    subst (its c.into_bytes.result.items) ending (subst (λ saved. its saved (ending_if (g.W.Sink.has_failed c.run_all.new.out))) bytes ran)
