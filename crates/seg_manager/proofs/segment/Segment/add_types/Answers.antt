use Rattle.std.proofs.Common.{sym, ap, ◌∙◌, refl, arith}
use Rattle.seg_value.specs.Stored.{Stored}
use Rattle.seg_manager.proofs.TypeAdditionLaws.{adds_by, then_longer}
use Rattle.seg_manager.proofs.segment.Segment.add_types.Goals as goal

pub returns-clause-adds : goal.returns-clause-adds
returns-clause-adds g c = λ picture is of_version.
    let mine = c.types-mine.result.now in
    let more = c.args.types.now in
    let long = c.len.ensures.len in
    let longer = c.len-2.ensures.len in
    let test = c.if-len.false in
    adds_by g.F.Fit.allocator c.args.self.now c.set_types.new.self picture more mine more c.window_mut.result.now c.write_types.new.w is
    (c.window_mut.ensures.value ∙ ap (λ (s : Stored). s.window) c.heap_mut-heap.ensures.value) c.set_types.ensures.window (c.set_types.ensures.types ∙ c.copy.ensures) c.types-mine.ensures (sym (then_longer mine more (omega arith)))
    (c.in_ok-agrees.ensures.agree.0 refl) c.in_ok-agrees.ensures.table c.in_ok-agrees.ensures.other of_version c.write_types.ensures.changes c.write_types.ensures.table
