use Rattle.std.proofs.Common.{[]}
use Rattle.lezgauri.specs.Images.{segment_of, allocator_of, types_of}
use Rattle.lezgauri.specs.Syntax.{Client}
use Rattle.lezgauri.specs.Grammar.{SpellsClient}
use Rattle.lezgauri.specs.Clients.{IsVerified}
use Rattle.lezgauri.specs.Runs.{IsReadyToRun}
use Rattle.lezgauri_uses.proofs.CountLaws.{HasRunTimes}
use Rattle.lezgauri_uses.proofs.counter.count.Given as goal

-- the client has run as often as the loop was repeated
abbrev pub invariant-loop : goal.invariant-loop
invariant-loop g l = (tree : Client) → SpellsClient l.fn.client tree → IsVerified (types_of l.initial.image) tree
    → IsReadyToRun (allocator_of l.initial.image) [] (segment_of l.initial.image).window (types_of l.initial.image) []
    → HasRunTimes l.initial.image l.image tree l.fn.client l.times l.counter (g.W.Sink.taken l.fn.out) (g.W.Sink.taken l.out) (g.W.Sink.has_failed l.out)
