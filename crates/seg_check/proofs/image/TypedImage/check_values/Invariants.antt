use Rattle.std.proofs.Common.{◌-◌, ◌^◌}
use Rattle.seg_check.specs.Turns.{AreWaiting}
use Rattle.seg_check.specs.Resolving.{IsReady}
use Rattle.seg_check.proofs.Queue.BlockLoopLaws.{Resolving}
use Rattle.seg_check.proofs.image.TypedImage.check_values.Given as goal

abbrev pub invariant-loop-turn : goal.invariant-loop-turn
invariant-loop-turn g l =
    IsReady l.self.bytes.bytes.now l.self.types.now l.fn.claims → AreWaiting l.self.bytes.bytes.now l.self.types.now l.fn.claims.turns →
    Resolving l.self.bytes.bytes.now l.self.types.now l.fn.claims l.claims

abbrev pub decreases-loop-turn : goal.decreases-loop-turn
decreases-loop-turn g l = 2 ^ 64 - l.claims.taken
