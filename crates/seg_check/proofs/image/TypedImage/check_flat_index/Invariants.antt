use Rattle.std.proofs.Common.{◌+◌, ◌-◌, ◌*◌, ◌≤◌, length, []}
use Rattle.seg_spec.specs.Reads.{spaced}
use Rattle.seg_check.specs.Resolving.{IsReady}
use Rattle.seg_check.specs.Roots.{AdvancesRoots, names_ahead}
use Rattle.seg_check.proofs.image.TypedImage.check_flat_index.Given as goal

abbrev pub invariant-loop-index : goal.invariant-loop-index
invariant-loop-index g l = IsReady l.self.bytes.bytes.now l.self.types.now l.initial.claims → l.start + l.count * 8 ≤ length l.self.bytes.bytes.now →
    AdvancesRoots l.self.bytes.bytes.now l.self.types.now l.initial.claims l.claims (names_ahead (spaced l.start 8 l.count) []) (names_ahead (spaced (l.start + l.index * 8) 8 (l.count - l.index)) l.before)
