use Rattle.std.proofs.Common.{◌/◌, true, false, None, [], ◌∷◌, List, ℕ, sym, ap, ◌∙◌, subst, arith}
use Rattle.seg_spec.specs.Pointer.{set_pointer}
use Rattle.seg_spec.specs.Window.{Placement}
use Rattle.seg_block.specs.Sizes.{set_size}
use Rattle.seg_block.specs.Tiling.{tile, IsTiling, Retiles}
use Rattle.seg_bestfit.proofs.FirstGapLaws.{one_block, begins}
use Rattle.seg_bestfit.proofs.bestfit.BestFitFit.init.Goals as goal

pub returns-clause-begins : goal.returns-clause-begins
returns-clause-begins g c = λ large whole.
    let old = c.args.w.now.bytes in
    let u = c.saturating_sub-units.result / 16 in
    let bytes = λ (p : Placement). p.bytes in
    let rooted = ap bytes c.point.ensures ∙ ap (λ b. set_pointer b 24 None) (ap bytes c.put32.ensures) in
    let sized = ap bytes c.set_size.ensures ∙ ap (λ b. set_size b 704 u true) rooted in
    let one = subst (λ (b : List ℕ). IsTiling 1 b (tile 704 u true ∷ [])) (sym sized) (one_block old u (omega arith) (omega arith) (omega arith)) in
    begins old u (omega arith) (omega arith) (omega arith) c.release.new.w.bytes
    (subst (λ (b : List ℕ). Retiles 1 b c.release.new.w.bytes [] (tile 704 u false ∷ []) []) sized (c.release.ensures.tiles [] [] tt one))
