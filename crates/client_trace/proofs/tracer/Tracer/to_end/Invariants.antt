use Rattle.std.proofs.Common.{◌≡◌, false}
use Rattle.client_trace.proofs.tracer.Tracer.to_end.Given as goal

abbrev pub invariant-loop : goal.invariant-loop
invariant-loop g l = record { works : g.W.Sink.has_failed l.out ≡ false }
