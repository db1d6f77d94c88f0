use Rattle.std.proofs.Common.{◌≡◌, List, ℕ, [], ◌∙◌, subst}
use Rattle.seg_spec.specs.Types.{Table}
use Rattle.seg_spec.specs.Window.{Placement}
use Rattle.client_spec.specs.Syntax.{Client}
use Rattle.client_spec.specs.Clients.{AreAccepted}
use Rattle.client_vm.specs.Moves.{moves_of}
use Rattle.client_vm.specs.ReadyClients.{texts_in}
use Rattle.client_vm.specs.Runs.{ending_of, IsReadyToRun}
use Rattle.client_vm.specs.Jobs.{effect_of}
use Rattle.client_vm.specs.Together.{opened, HaveRun}
use Rattle.client_vm.proofs.TogetherLaws.{ran_on}
use Rattle.client_vm.proofs.bytes.run_on.Goals as goal

pub returns-clause-runs : goal.returns-clause-runs
returns-clause-runs g c is named trees accepted =
    let old = c.args.window in
    let table = c.args.admitted.types in
    let texts : List (List ℕ) = texts_in c.args.admitted.programs.items in
    let moves = moves_of c.args.moves.now in
    let segment = c.new-segment.result in
    let types_are = c.new-segment.ensures.types in
    let window_is : segment.window ≡ opened old = c.new-segment.ensures.window ∙ c.upgrade.ensures in
    let effect = effect_of (g.W.Sink.taken c.args.out.now) (g.W.Sink.taken c.run_verified.new.out) c.run_verified.result in
    let its = λ (t : Table) (w : Placement) (clients : List Client). AreAccepted t texts clients → IsReadyToRun g.F.Fit.allocator [] w t moves
    → HaveRun clients moves c.args.input.now w effect.taken effect.saved effect.taken_then effect.reports (ending_of effect.ended) in
    ran_on texts moves c.args.input.now old effect table g.F.Fit.allocator is named trees accepted
    (λ clients. subst (λ (w : Placement). its table w clients) window_is (subst (λ (t : Table). its t segment.window clients) types_are (c.run_verified.ensures.runs clients)))
