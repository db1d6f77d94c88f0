use Rattle.std.proofs.Common.{◌+◌, false, [], ◌∷◌, List, ℕ, Some, sym, ap, ◌∙◌, subst}
use Rattle.seg_spec.specs.Pointer.{target, set_pointer}
use Rattle.seg_block.specs.Sizes.{set_size}
use Rattle.seg_block.specs.Tiling.{tile, Retiles}
use Rattle.seg_seqfit.specs.Retiling.{link_past}
use Rattle.seg_seqfit.proofs.TileReleaseLaws.{release-retiles}
use Rattle.seg_seqfit.proofs.free_list.put_in.Goals as goal

pub returns-clause-tiles : goal.returns-clause-tiles
returns-clause-tiles c = λ xs ms ys t link_is was fill next_is.
    let old = c.args.bytes.now in
    let at = c.args.gap.at in
    let u = c.args.gap.units in
    let next = next_is ∙ ap (λ l. target old (link_past l (t ∷ ms))) link_is in
    let linked = c.set_pointer.ensures.bytes ∙ (λ i. set_pointer (c.set_word.ensures.bytes i) (at + 12) (next i)) in
    let listed = c.put_pointer.ensures.bytes ∙ (λ i. set_pointer (linked i) (link_is i) (Some (at + 16))) in
    let sized = c.set_free_size.ensures.bytes ∙ ap (λ b. set_size b at u false) listed in
    subst (λ (b : List ℕ). Retiles 0 old b xs (tile at u false ∷ []) ys) (sym sized) (release-retiles old xs ms ys t at u was fill)
