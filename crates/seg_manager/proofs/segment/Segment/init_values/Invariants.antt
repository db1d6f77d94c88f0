use Rattle.std.proofs.Common.{◌≡◌}
use Rattle.seg_spec.specs.Window.{with_bytes}
use Rattle.seg_manager.specs.NewNamed.{HasValuesRoom}
use Rattle.seg_manager.proofs.NewNamed.{Filled}
use Rattle.seg_manager.proofs.segment.Segment.init_values.Given as goal

abbrev pub invariant-loop-index : goal.invariant-loop-index
invariant-loop-index g l = record {
  window : l.self.window ≡ with_bytes l.initial.self.window l.self.window.bytes;
  types : l.self.types ≡ l.initial.self.types;
  filled : HasValuesRoom l.initial.self.window.bytes l.initial.self.types l.object l.t l.count → Filled l.initial.self.window.bytes l.self.window.bytes l.initial.self.types l.object l.t l.count l.index;
}
