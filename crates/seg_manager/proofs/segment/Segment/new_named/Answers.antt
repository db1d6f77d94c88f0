use Rattle.std.proofs.Common.{◌≡◌, ◌+◌, ◌*◌, ◌%◌, ◌^◌, ◌<◌, ◌≤◌, min, Some, refl, ap, ◌∙◌, subst, arith}
use Rattle.seg_spec.specs.Bytes.{put, set_word}
use Rattle.seg_spec.specs.Block.{Kind, tag_of}
use Rattle.seg_spec.specs.Heap.{IsHeap, Takes}
use Rattle.seg_spec.specs.Demand.{block_for}
use Rattle.seg_spec.specs.Types.{size}
use Rattle.seg_spec.specs.Value.{default_of}
use Rattle.seg_spec.specs.Window.{Placement, with_bytes}
use Rattle.seg_value.specs.Stored.{Stored}
use Rattle.seg_manager.proofs.NewNamed.{count-copies, units_are, gives_named_by, refuses_named}
use Rattle.seg_manager.proofs.segment.Segment.new_named.Goals as goal

bytes_of : (p q : Placement) → p ≡ q → p.bytes ≡ q.bytes
bytes_of p q e = ap (λ (r : Placement). r.bytes) e

pub returns-in_default-clause-gives : goal.returns-in_default-clause-gives
returns-in_default-clause-gives g c = λ heap valid known len some.
    let table = c.args.self.now.types in
    let each_is = c.size-size.ensures.value ∙ ap (λ t. size t c.args.t) c.types.ensures in
    let short : c.args.name.len < 2 ^ 8 = omega arith in
    let few : c.args.count < 2 ^ 16 = omega arith in
    let small : size table c.args.t ≤ 8192 = let limit = valid.sizes c.args.t in omega arith in
    let u = units_are c.args.count c.size-size.result (size table c.args.t) c.args.name.len c.saturating_mul-values.result c.saturating_add.result c.need-units.result few each_is small short
    (c.saturating_mul-values.ensures ∙ ap (λ k. min (k * c.size-size.result) 4294967295) c.from.ensures) (c.saturating_add.ensures ∙ ap (λ k. min (c.saturating_mul-values.result + k) 4294967295) c.from-2.ensures) c.need-units.ensures in
    let same = bytes_of c.window_mut-w.result.now c.heap_mut.result.now.window c.window_mut-w.ensures.value ∙ ap (λ (s : Stored). s.window.bytes) c.heap_mut.ensures.value in
    let takes = subst (λ bs. IsHeap g.F.Fit.allocator bs → Takes g.F.Fit.allocator bs c.allocate.new.w.bytes c.need-units.result c.allocate.result) same c.allocate.ensures.takes heap in
    let refused = refuses_named g.F.Fit.allocator c.need-units.result (c.args.count * size table c.args.t + c.args.name.len) c.args.self.now.window.bytes c.allocate.new.w.bytes c.allocate.result takes c.in_default.not-Some u.1 in
    rw (count-copies c.args.count (default_of table c.args.t), ← len) refused

pub returns-clause-gives : goal.returns-clause-gives
returns-clause-gives g c = λ heap valid known len some.
    let table = c.args.self.now.types in
    let each_is = c.size-size.ensures.value ∙ ap (λ t. size t c.args.t) c.types.ensures in
    let short : c.args.name.len < 2 ^ 8 = omega arith in
    let few : c.args.count < 2 ^ 16 = omega arith in
    let small : size table c.args.t ≤ 8192 = let limit = valid.sizes c.args.t in omega arith in
    let u = units_are c.args.count c.size-size.result (size table c.args.t) c.args.name.len c.saturating_mul-values.result c.saturating_add.result c.need-units.result few each_is small short
    (c.saturating_mul-values.ensures ∙ ap (λ k. min (k * c.size-size.result) 4294967295) c.from.ensures) (c.saturating_add.ensures ∙ ap (λ k. min (c.saturating_mul-values.result + k) 4294967295) c.from-2.ensures) c.need-units.ensures in
    let same = bytes_of c.window_mut-w.result.now c.heap_mut.result.now.window c.window_mut-w.ensures.value ∙ ap (λ (s : Stored). s.window.bytes) c.heap_mut.ensures.value in
    let takes = subst (λ bs. IsHeap g.F.Fit.allocator bs → Takes g.F.Fit.allocator bs c.allocate.new.w.bytes c.need-units.result (Some c.in-Some.block)) same c.in-Some.ensures.takes heap in
    let tag_is = bytes_of c.write.new.w (with_bytes c.allocate.new.w (set_word c.allocate.new.w.bytes (c.in-Some.block + 8) (tag_of Kind.named c.args.t))) c.write.ensures in
    let write_is = bytes_of c.copy_in.new.self (with_bytes c.write.new.w (put c.write.new.w.bytes ((c.in-Some.block + 16) % 4294967296 + c.saturating_mul-values.result) c.args.name.bytes.now)) c.copy_in.ensures in
    gives_named_by g.F.Fit.allocator c.in-Some.block c.need-units.result c.saturating_mul-values.result ((c.in-Some.block + 16) % 4294967296) c.args.self.now.window.bytes c.allocate.new.w.bytes c.write.new.w.bytes c.copy_in.new.self.bytes
    c.init_values.new.self.window.bytes table c.heap_mut.result.now.types c.args.name.bytes.now c.args.t c.args.count heap (omega arith) valid known takes
    (u.1 ∙ ap (λ k. Rattle.seg_spec.specs.Demand.need (c.args.count * size table c.args.t + k)) len)
    u.0 refl tag_is write_is (ap (λ (s : Stored). s.types) c.heap_mut.ensures.value) c.init_values.ensures.changes c.init_values.ensures.default
