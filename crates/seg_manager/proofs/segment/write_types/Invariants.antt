use Rattle.std.proofs.Common.{◌≡◌}
use Rattle.seg_spec.specs.Window.{with_bytes}
use Rattle.seg_spec.specs.Types.{IsTable}
use Rattle.seg_manager.proofs.TableBytes.{Written}
use Rattle.seg_manager.proofs.segment.write_types.Given as goal

abbrev pub invariant-loop-t : goal.invariant-loop-t
invariant-loop-t g l = record {
  host : l.w ≡ with_bytes l.initial.w l.w.bytes;
  written : IsTable l.types → Written l.initial.w.bytes l.w.bytes l.types l.t;
}
