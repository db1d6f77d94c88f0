use Rattle.std.proofs.Common.{pos, take, get_or, sym, ap, ◌∙◌, subst, add-one, rules}
use Rattle.std.proofs.Math.Seq.{take-suc}
use Rattle.seg_value.specs.CellPlaces.{place_of}
use Rattle.seg_image.specs.declared.maps.Pair.{Pair}
use Rattle.seg_image.specs.NumberPuts.{PutsNumbers}
use Rattle.seg_image.proofs.NumberPutLaws.{one_more}
use Rattle.seg_image.proofs.maps.put_each.Goals as goal

pub loop-done-preserved : goal.loop-done-preserved
loop-done-preserved g c =
    let allocator = g.F.Fit.allocator in
    let old = c.args.heap.now in
    let new = c.put_number.new.heap in
    let map = place_of c.args.map in
    let xs = c.args.entries.now in
    let i = c.loop-done.done in
    let none : Pair = record { key = pos 0; number = pos 0 } in
    let more = one_more allocator old c.loop-done.heap new map (take i xs) (get_or xs i none) c.loop-done.invariant.2 c.in_default.ensures.put in (
      search rules,
      c.in_default.ensures.types ∙ c.loop-done.invariant.1,
      subst (PutsNumbers allocator old new map) (sym (ap (λ n. take n xs) (add-one i) ∙ take-suc xs i none c.loop-done-test.true)) more,
    )
