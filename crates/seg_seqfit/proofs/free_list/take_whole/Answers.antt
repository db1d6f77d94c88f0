use Rattle.std.proofs.Common.{◌≡◌, ◌+◌, true, [], ◌∷◌, List, ℕ, None, sym, ap, ◌∙◌, subst}
use Rattle.seg_spec.specs.Bytes.{set_word}
use Rattle.seg_spec.specs.Heap.{link_at}
use Rattle.seg_spec.specs.Pointer.{set_pointer}
use Rattle.seg_block.specs.Tiling.{tile, Retiles}
use Rattle.seg_seqfit.proofs.Wholes.{whole-retiles, link_at-whole}
use Rattle.seg_seqfit.proofs.free_list.take_whole.Goals as goal

pub returns-clause-tiles : goal.returns-clause-tiles
returns-clause-tiles c = λ xs ys link_is next_is was.
    let old = c.args.bytes.now in
    let at = c.args.gap.at in
    let u = c.args.gap.units in
    let unlinked = c.put_pointer.ensures.bytes ∙ (λ i. set_pointer old (link_is i) (next_is i)) in
    let closed = c.set_pointer.ensures.bytes ∙ ap (λ b. set_pointer b (at + 12) None) unlinked in
    let taken = c.set_word.ensures.bytes ∙ (λ i. set_word (closed i) at (c.size_word.ensures i)) in
    subst (λ (b : List ℕ). Retiles 0 old b xs (tile at u true ∷ []) ys × (link_at b at ≡ None)) (sym taken) (whole-retiles old xs ys at u was, link_at-whole old xs ys at u was)
