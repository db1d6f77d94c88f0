use Rattle.seg_check.specs.Resolving.{IsReady}
use Rattle.seg_check.specs.Roots.{uniques_ahead, AdvancesRoots}
use Rattle.seg_check.proofs.Objects.UniqueObjectLaws.{from_type}
use Rattle.seg_check.proofs.image.TypedImage.check_uniques.Given as goal

abbrev pub invariant-loop-t : goal.invariant-loop-t
invariant-loop-t g l = IsReady l.self.bytes.bytes.now l.self.types.now l.fn.claims → AdvancesRoots l.self.bytes.bytes.now l.self.types.now l.fn.claims l.claims uniques_ahead (from_type l.t)
