use Rattle.std.proofs.Common.{◌≡◌, ◌+◌, true, [], ◌∷◌, List, ℕ, None, sym, ap, ◌∙◌, subst}
use Rattle.seg_spec.specs.Window.{Placement}
use Rattle.seg_spec.specs.Pointer.{target, set_pointer}
use Rattle.seg_spec.specs.Heap.{link_at}
use Rattle.seg_block.specs.Sizes.{set_size}
use Rattle.seg_block.specs.Tiling.{tile, Retiles}
use Rattle.seg_seqfit.proofs.GapAllocationLaws.{take-retiles, link_at-taken}
use Rattle.seg_seqfit.proofs.free_list.SeqFitFreeStructure.take.Goals as goal

pub returns-clause-tiles : goal.returns-clause-tiles
returns-clause-tiles g c = λ xs ys link_is was.
    let old = c.args.w.now.bytes in
    let at = c.args.block.at in
    let u = c.args.block.units in
    let first = ap (λ (p : Placement). p.bytes) c.point.ensures ∙ ap (λ t. set_pointer old c.args.link t) c.target-next.ensures ∙ ap (λ l. set_pointer old l (target old (at + 12))) link_is in
    let second = ap (λ (p : Placement). p.bytes) c.point-2.ensures ∙ ap (λ b. set_pointer b (at + 12) None) first in
    let third = ap (λ (p : Placement). p.bytes) c.set_size.ensures ∙ ap (λ b. set_size b at u true) second in
    subst (λ (b : List ℕ). Retiles 0 old b xs (tile at u true ∷ []) ys × (link_at b at ≡ None)) (sym third) (take-retiles old xs ys at u was, link_at-taken old xs ys at u was)
