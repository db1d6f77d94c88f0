use Rattle.std.proofs.Common.{◌≡◌, take}
use Rattle.seg_check.specs.Turns.{places_in, IsTurn}
use Rattle.seg_check.specs.Resolving.{IsReady, Advances}
use Rattle.seg_check.proofs.image.TypedImage.check_block.Given as goal

abbrev pub invariant-loop-index : goal.invariant-loop-index
invariant-loop-index g l = record {
  taken : l.claims.taken ≡ l.fn.claims.taken;
  so_far : IsReady l.self.bytes.bytes.now l.self.types.now l.fn.claims → IsTurn l.self.bytes.bytes.now l.self.types.now l.turn →
      Advances l.self.bytes.bytes.now l.self.types.now l.fn.claims l.claims (take l.index (places_in l.self.bytes.bytes.now l.self.types.now l.turn));
}
