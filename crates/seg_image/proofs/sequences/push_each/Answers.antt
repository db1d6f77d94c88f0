use Rattle.std.proofs.Common.{pos, Ok, take, get_or, sym, ap, ◌∙◌, subst, w64, add-one, rules}
use Rattle.std.proofs.lemmas.Int.{to_z-of_z}
use Rattle.std.proofs.Math.Seq.{take-suc}
use Rattle.seg_value.specs.CellPlaces.{place_of}
use Rattle.seg_seq.specs.Sequences.{PushesNumber}
use Rattle.seg_image.specs.NumberPushes.{PushesNumbers}
use Rattle.seg_image.proofs.NumberPushLaws.{one_more}
use Rattle.seg_image.proofs.sequences.push_each.Goals as goal

pub loop-pushed-preserved : goal.loop-pushed-preserved
loop-pushed-preserved g c =
    let allocator = g.F.Fit.allocator in
    let old = c.args.heap.now in
    let between = c.loop-pushed.heap in
    let new = c.push.new.heap in
    let place = place_of c.args.vector.vector in
    let xs = c.args.numbers.now in
    let i = c.loop-pushed.pushed in
    let number = get_or xs i (pos 0) in
    let pushes : PushesNumber allocator between new place number (Ok c.in_default.field-0) =
    subst (λ z. PushesNumber allocator between new place z (Ok c.in_default.field-0)) (to_z-of_z w64 number (search rules)) c.in_default.ensures.vector in
    let more = one_more allocator old between new place (take i xs) number c.in_default.field-0 c.loop-pushed.invariant.2 c.in_default.ensures.types pushes in (
      search rules,
      c.in_default.ensures.types ∙ c.loop-pushed.invariant.1,
      subst (PushesNumbers allocator old new place) (sym (ap (λ n. take n xs) (add-one i) ∙ take-suc xs i (pos 0) c.loop-pushed-test.true)) more,
    )
