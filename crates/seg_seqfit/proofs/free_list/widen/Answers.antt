use Rattle.std.proofs.Common.{◌+◌, false, [], ◌∷◌, List, ℕ, sym, ap, ◌∙◌, subst}
use Rattle.seg_spec.specs.Pointer.{set_pointer}
use Rattle.seg_block.specs.Sizes.{set_size}
use Rattle.seg_block.specs.Tiling.{tile, Retiles}
use Rattle.seg_seqfit.proofs.GapGrowthLaws.{widen-retiles}
use Rattle.seg_seqfit.proofs.free_list.widen.Goals as goal

pub returns-clause-tiles : goal.returns-clause-tiles
returns-clause-tiles c = λ xs ms ys t free was fill next_is.
    let old = c.args.bytes.now in
    let at = c.args.gap.at in
    let u = c.args.gap.units in
    let linked = c.set_pointer.ensures.bytes ∙ ap (λ t. set_pointer old (at + 12) t) next_is in
    let sized = c.set_free_size.ensures.bytes ∙ ap (λ b. set_size b at u false) linked in
    subst (λ (b : List ℕ). Retiles 0 old b xs (tile at u false ∷ []) ys) (sym sized) (widen-retiles old xs ms ys t at u free was fill)
