use Rattle.std.proofs.Common.{◌≡◌, ◌≤◌, List, [], false, length, take, drop, vec_capacity}
use Rattle.client_spec.specs.Syntax.{Client}
use Rattle.client_spec.specs.Clients.{AreAccepted}
use Rattle.client_vm.specs.Moves.{moves_of}
use Rattle.client_vm.specs.ReadyClients.{texts_in}
use Rattle.client_vm.specs.Reports.{AreReportsOf}
use Rattle.client_vm.specs.Runs.{IsReadyToRun}
use Rattle.client_vm.proofs.TogetherLaws.{Midway}
use Rattle.client_vm.proofs.bytes.run_all.Given as goal

abbrev pub invariant-loop-program : goal.invariant-loop-program
invariant-loop-program g l = l.fn.reports.items ≡ [] → length l.programs ≤ vec_capacity l.fn.reports
    → (length l.reports.items ≡ l.program-index) × (vec_capacity l.fn.reports ≤ vec_capacity l.reports) × AreReportsOf (texts_in (take l.program-index l.programs)) l.reports.items
    × (g.W.Sink.has_failed l.fn.out ≡ false → (trees : List Client) → AreAccepted l.fn.segment.types (texts_in l.programs) trees → IsReadyToRun g.F.Fit.allocator [] l.fn.segment.window l.fn.segment.types (moves_of l.moves)
    → Midway g.F.Fit.allocator trees (moves_of l.moves) l.input l.fn.segment.window (g.W.Sink.taken l.fn.out)
    (texts_in (drop l.program-index l.programs)) l.left l.segment.window l.segment.types (g.W.Sink.taken l.out) l.reports.items (g.W.Sink.has_failed l.out))
