use Rattle.std.proofs.Common.{◌<◌, [], length, ap, ◌∙◌, subst, rules, arith}
use Rattle.seg_spec.specs.Bytes.{ChangesOnly}
use Rattle.seg_spec.specs.Cells.{IsWithin}
use Rattle.seg_spec.specs.Types.{size}
use Rattle.seg_spec.specs.Value.{default_of}
use Rattle.seg_spec.specs.Reads.{Holds}
use Rattle.seg_value.specs.Stored.{Stored}
use Rattle.seg_manager.proofs.NewNamed.{filled_next, filled_all}
use Rattle.seg_manager.proofs.segment.Segment.init_values.Goals as goal

pub loop-index-preserved : goal.loop-index-preserved
loop-index-preserved g c = record {
  window = search rules;
  types = search rules;
  filled = λ room.
      let p = c.value_of-value.result.at in
      let type = c.value_of-value.result.type_id in
      let next = c.init_default.new.self.window.bytes in
      let changes = subst (λ (s : Stored). IsWithin s.window.bytes p (size s.types type) → ChangesOnly s.window.bytes next p (size s.types type)) c.heap_mut.ensures.value c.init_default.ensures.changes in
      let default = subst (λ (s : Stored). IsWithin s.window.bytes p (size s.types type) → type < length s.types → Holds next s.types (record { at = p; type = type }) (default_of s.types type) []) c.heap_mut.ensures.value
      c.init_default.ensures.default in
      filled_next c.args.self.now.window.bytes c.loop-index.self.window.bytes next c.args.self.now.types c.loop-index.self.types c.args.object c.args.t c.args.count c.loop-index.index c.size-size.result p type room
      (c.loop-index.invariant.filled room) c.loop-index-test.true c.loop-index.invariant.types c.value_of-value.ensures.type_id
      (c.size-size.ensures.value ∙ ap (λ t. size t c.args.t) c.types.ensures) c.value_of-value.ensures.at changes default;
}

pub returns-clause-changes : goal.returns-clause-changes
returns-clause-changes g c = λ room. (c.loop-index.invariant.filled room).changes

pub returns-clause-default : goal.returns-clause-default
returns-clause-default g c = λ room. filled_all c.args.self.now.window.bytes c.loop-index.self.window.bytes c.args.self.now.types c.args.object c.args.t c.args.count c.loop-index.index (omega arith) (c.loop-index.invariant.filled room)
