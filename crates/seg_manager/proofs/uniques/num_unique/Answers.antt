use Rattle.std.proofs.Common.{◌≡◌, ◌<◌, true, false, ap, ◌∙◌, sym, arith}
use Rattle.std.specs.Option.{is_some}
use Rattle.seg_spec.specs.Index.{unique_word}
use Rattle.seg_spec.specs.Pointer.{target}
use Rattle.seg_manager.proofs.UniqueCount.{none_counted, one_counted, all_counted}
use Rattle.seg_manager.proofs.uniques.num_unique.Goals as goal
use Rattle.seg_manager.proofs.uniques.num_unique.Goals.{then-is_some, else-is_some}

pub loop-t-init : goal.loop-t-init
loop-t-init g c = record { few = omega arith; counted = λ picture is. none_counted picture.uniques is.held.laid_out.uniques.rising }

pub loop-t-preserved : goal.loop-t-preserved
loop-t-preserved g c =
    let t = c.loop-t.t in
    let less : t < 32 = omega arith in
    let bytes = (g.S.SegmentRead.stored c.args.source.now).window.bytes in
    let read = rw c.view-view.ensures at c.unique_in.ensures in
    let test = c.is_some.ensures ∙ ap is_some read in
    let i = c.loop-t.invariant in
    elim c.if-is_some.branch [
      | then-is_some w ↦ record {
        few = omega (arith, i.few);
        counted = λ picture is.
            let one = one_counted bytes picture.uniques t c.loop-t.count is.held.laid_out.uniques less (i.counted picture is) in
            let on : is_some (target bytes (unique_word t)) ≡ true = sym test ∙ w.if-is_some.true in
            let all = rw on at one in
            omega arith;
      }
      | else-is_some w ↦ record {
        few = omega (arith, i.few);
        counted = λ picture is.
            let one = one_counted bytes picture.uniques t c.loop-t.count is.held.laid_out.uniques less (i.counted picture is) in
            let off : is_some (target bytes (unique_word t)) ≡ false = sym test ∙ w.if-is_some.false in
            let all = rw off at one in
            omega arith;
      }
    ]

pub returns : goal.returns
returns g c = λ picture is.
    let last : c.loop-t.t ≡ 32 = omega (arith, c.loop-t.auto.t-end) in
    let counted = rw last at (c.loop-t.invariant.counted picture is) in
    all_counted picture.uniques c.loop-t.count is.held.laid_out.uniques.rising counted
