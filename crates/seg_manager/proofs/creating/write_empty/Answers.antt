use Rattle.std.proofs.Common.{◌≡◌, ◌≤◌, length, ap, ◌∙◌, refl, arith, None}
use Rattle.seg_spec.specs.Bytes.{put}
use Rattle.seg_spec.specs.Pointer.{set_pointer}
use Rattle.seg_spec.specs.Index.{unique_word}
use Rattle.seg_spec.specs.Heap.{Begins}
use Rattle.seg_spec.specs.Window.{Placement, with_bytes}
use Rattle.seg_spec.specs.Header.{uniques_start, uniques_size, heap_start}
use Rattle.std.specs.Prelude.{codes}
use Rattle.seg_spec.proofs.Values.CellChangeLaws.{ChangesOnly-none}
use Rattle.seg_manager.specs.NewSegments.{word_of_kind}
use Rattle.seg_manager.proofs.ResultLaws.{host_twice}
use Rattle.seg_manager.proofs.EmptyImages.{kind_word, few_kinds_of, one_more_null, empty_long, kind_then, version_then, next_then, allocator_then, new_long, nothing_held}
use Rattle.seg_manager.proofs.creating.write_empty.Goals as goal

bytes_in : (p q : Placement) → p ≡ q → p.bytes ≡ q.bytes
bytes_in p q e = ap (λ (r : Placement). r.bytes) e

pub loop-t-init : goal.loop-t-init
loop-t-init g c =
    let w0 = c.args.w.now in
    let w1 = c.fill.new.self in
    let w2 = c.begin.new.w in
    let w3 = c.put32.new.self in
    let w4 = c.put32-2.new.self in
    let w5 = c.put32-3.new.self in
    let h1 = c.fill.ensures in
    let k1 : w1 ≡ with_bytes w0 w1.bytes = host_twice w0 w0 w1 _ refl h1 in
    let k2 = host_twice w0 w1 w2 _ k1 c.begin.ensures in
    let k3 = host_twice w0 w2 w3 _ k2 c.put32.ensures in
    let k4 = host_twice w0 w3 w4 _ k3 c.put32-2.ensures in
    let k5 = host_twice w0 w4 w5 _ k4 c.put32-3.ensures in
    record {
      host = host_twice w0 w5 c.point.new.self _ k5 c.point.ensures;
      changes = ChangesOnly-none c.point.new.self.bytes uniques_start uniques_size;
      none = λ long T less. absurd (omega arith);
    }

pub loop-t-preserved : goal.loop-t-preserved
loop-t-preserved g c =
    let old = c.loop-t.w in
    let new = c.set_unique.new.w in
    let i = c.loop-t.invariant in
    let new_is = bytes_in new (with_bytes old (set_pointer old.bytes (unique_word c.loop-t.t) None)) c.set_unique.ensures in
    let more = one_more_null c.point.new.self.bytes old.bytes new.bytes c.loop-t.t i.changes (omega arith) new_is i.none in
    record {
      host = host_twice c.args.w.now old new _ i.host c.set_unique.ensures;
      changes = more.0;
      none = more.1;
    }

pub returns-clause-empty : goal.returns-clause-empty
returns-clause-empty g c = λ sized long.
    let few : g.F.Fit.allocator ≤ 1 = omega (arith, c.word.ensures.value, c.word.ensures.small) in
    let w0 = c.args.w.now in
    let w1 = c.fill.new.self in
    let w2 = c.begin.new.w in
    let w3 = c.put32.new.self in
    let w4 = c.put32-2.new.self in
    let w5 = c.put32-3.new.self in
    let w6 = c.point.new.self in
    let w7 = c.loop-t.w in
    let w8 = c.init.new.w in
    let len = c.args.size in
    let a = g.F.Fit.allocator in
    let k = word_of_kind c.args.index in
    let magic = put w1.bytes 0 (codes "SEGIMAGE") in
    let e1 = bytes_in w1 _ c.fill.ensures in
    let e2 = bytes_in w2 _ c.begin.ensures in
    let e3 = bytes_in w3 _ c.put32.ensures in
    let e4a = bytes_in w4 _ c.put32-2.ensures in
    let e4 = rw c.word.ensures.value at e4a in
    let kind_is = kind_word c.args.index c.word-2.result c.word-2.ensures.flat c.word-2.ensures.tree in
    let e5a = bytes_in w5 _ c.put32-3.ensures in
    let e5 = rw kind_is at e5a in
    let e6 = bytes_in w6 _ c.point.ensures in
    let wide = empty_long len a k w0.bytes w1.bytes magic w2.bytes w3.bytes w4.bytes w5.bytes w6.bytes sized long e1 refl e2 e3 e4 e5 e6 few (few_kinds_of c.args.index) in
    let ready_long : length w7.bytes ≡ len = c.loop-t.invariant.changes.length_kept ∙ wide in
    let low = sized.not_small in
    let whole = sized.whole_units in
    let begins : Begins a w7.bytes w8.bytes = c.init.ensures.begins (omega arith) (rw ready_long whole) in
    let fits : heap_start ≤ length w6.bytes = omega arith in
    let last : c.loop-t.t ≡ 32 = omega (arith, c.loop-t.auto.t-end) in
    let nulls = rw last at (c.loop-t.invariant.none fits) in
    let all = few_kinds_of c.args.index in
    let changes = c.loop-t.invariant.changes in (
      nothing_held len a k w0.bytes w1.bytes magic w2.bytes w3.bytes w4.bytes w5.bytes w6.bytes sized long e1 refl e2 e3 e4 e5 e6 few all w7.bytes w8.bytes changes nulls begins,
      begins.no_block,
      new_long len a k w0.bytes w1.bytes magic w2.bytes w3.bytes w4.bytes w5.bytes w6.bytes sized long e1 refl e2 e3 e4 e5 e6 few all w7.bytes w8.bytes changes nulls begins,
      allocator_then len a k w0.bytes w1.bytes magic w2.bytes w3.bytes w4.bytes w5.bytes w6.bytes sized long e1 refl e2 e3 e4 e5 e6 few all w7.bytes w8.bytes changes nulls begins,
      kind_then len a k w0.bytes w1.bytes magic w2.bytes w3.bytes w4.bytes w5.bytes w6.bytes sized long e1 refl e2 e3 e4 e5 e6 few all w7.bytes w8.bytes changes nulls begins,
      version_then len a k w0.bytes w1.bytes magic w2.bytes w3.bytes w4.bytes w5.bytes w6.bytes sized long e1 refl e2 e3 e4 e5 e6 few all w7.bytes w8.bytes changes nulls begins,
      next_then len a k w0.bytes w1.bytes magic w2.bytes w3.bytes w4.bytes w5.bytes w6.bytes sized long e1 refl e2 e3 e4 e5 e6 few all w7.bytes w8.bytes changes nulls begins,
    )
