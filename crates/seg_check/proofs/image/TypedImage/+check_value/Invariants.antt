use Rattle.std.proofs.Common.{◌≡◌, ◌+◌, ◌^◌, ◌<◌, ◌≤◌, length, take}
use Rattle.seg_spec.specs.Types.{fields_of, size}
use Rattle.seg_cells.specs.Places.{place_of}
use Rattle.seg_check.specs.Turns.{parts_at, LiesAt}
use Rattle.seg_check.specs.Resolving.{IsReady, Advances}
use Rattle.seg_check.proofs.image.TypedImage.+check_value.Given as goal

abbrev pub decreases-check_value : goal.decreases-check_value
decreases-check_value g l = l.value.type_id

abbrev pub invariant-loop-index : goal.invariant-loop-index
invariant-loop-index g l = record {
  taken : l.claims.taken ≡ l.fn.claims.taken;
  so_far : IsReady l.self.bytes.bytes.now l.self.types.now l.fn.claims → l.value.type_id < length l.self.types.now → l.value.at + size l.self.types.now l.value.type_id ≤ 2 ^ 32 →
      LiesAt l.self.bytes.bytes.now l.self.types.now (place_of l.value) →
      Advances l.self.bytes.bytes.now l.self.types.now l.fn.claims l.claims (take l.index (parts_at l.value.at (fields_of l.self.types.now l.value.type_id)));
}
