use Rattle.std.proofs.Common.{◌≤◌, ◌∙◌, ℕ, List, [], ◌∷◌, ap, subst, rules, arith}
use Rattle.seg_spec.specs.Types.{size}
use Rattle.seg_spec.specs.Value.{Value, default_of}
use Rattle.seg_spec.specs.Heap.{IsHeap, IsLive, Gives}
use Rattle.seg_spec.specs.Block.{block_of}
use Rattle.seg_spec.specs.Owning.{Stands}
use Rattle.seg_spec.specs.Shared.{named_in}
use Rattle.seg_spec.specs.Clearing.{BesideShared, ClearsPlace}
use Rattle.seg_value.specs.Stored.{Stored}
use Rattle.seg_manager.proofs.ClearedItems.{root_first, root_next, root_last}
use Rattle.seg_manager.proofs.segment.Segment.destroy_named.Goals as goal

pub loop-index-init : goal.loop-index-init
loop-index-init g c = record {
  window = search rules;
  types = search rules;
  cleared = λ root blocks u found_is type_is theirs cells frozen final s.
      root_first g.F.Fit.allocator c.args.self.now.window.bytes c.args.self.now.types root blocks u theirs cells frozen final s;
}

pub loop-index-preserved : goal.loop-index-preserved
loop-index-preserved g c = record {
  window = search rules;
  types = search rules;
  cleared = λ root blocks u found_is type_is theirs cells frozen final s.
      let a = g.F.Fit.allocator in
      let p = c.value_of-value.result.at in
      let type = c.value_of-value.result.type_id in
      let next = c.clear.new.self.window.bytes in
      let clears = subst (λ (s : Stored). (v : Value) (bs : List ℕ) (stands : Stands a s.window.bytes s.types (record { at = p; type = type }) v bs)
      → BesideShared s.window.bytes s.types (stands.home ∷ bs) (named_in v) (ClearsPlace s.window.bytes next s.types (record { at = p; type = type }) (default_of s.types type) bs [])) c.heap_mut.ensures.value c.clear.ensures.cleared in
      root_next a c.args.self.now.window.bytes c.args.self.now.types root blocks u theirs cells frozen final c.loop-index.self.window.bytes next c.args.found found_is c.loop-index.index
      (c.loop-index.invariant.cleared root blocks u found_is type_is theirs cells frozen final s)
      c.loop-index.self.types c.args.t c.size-size.result p type type_is c.loop-index-test.true c.loop-index.invariant.types c.value_of-value.ensures.type_id
      (c.size-size.ensures.value ∙ ap (λ t. size t c.args.t) c.types.ensures) c.value_of-value.ensures.at clears;
}

pub returns-clause-frees : goal.returns-clause-frees
returns-clause-frees g c = λ root blocks u found_is type_is theirs cells frozen final s.
    let a = g.F.Fit.allocator in
    let at = c.args.found.at in
    let new = c.free_block.new.self.window.bytes in
    let past : c.args.found.count ≤ c.loop-index.index = omega arith in
    let free = subst (λ (s : Stored). IsHeap a s.window.bytes → IsLive s.window.bytes (block_of at) → Gives a s.window.bytes new (block_of at)) c.heap_mut-2.ensures.value c.free_block.ensures.gives in
    root_last a c.args.self.now.window.bytes c.args.self.now.types root blocks u theirs cells frozen final c.loop-index.self.window.bytes new c.args.found found_is c.loop-index.index
    (c.loop-index.invariant.cleared root blocks u found_is type_is theirs cells frozen final s) past free
