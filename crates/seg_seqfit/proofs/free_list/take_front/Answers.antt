use Rattle.std.proofs.Common.{◌≡◌, ◌+◌, ◌-◌, ◌*◌, true, false, [], ◌∷◌, List, ℕ, Some, None, sym, ap, ◌∙◌, subst, arith}
use Rattle.seg_spec.specs.Bytes.{set_word}
use Rattle.seg_spec.specs.Heap.{link_at}
use Rattle.seg_spec.specs.Pointer.{set_pointer}
use Rattle.seg_block.specs.Tiling.{tile, Retiles}
use Rattle.seg_seqfit.proofs.Fronts.{front-retiles, link_at-front}
use Rattle.seg_seqfit.proofs.free_list.take_front.Goals as goal

pub returns-clause-tiles : goal.returns-clause-tiles
returns-clause-tiles c = λ xs ys link_is next_is was.
    let old = c.args.bytes.now in
    let at = c.args.gap.at in
    let n = c.args.gap.units in
    let u = c.args.units in
    let rest = at + 16 * u in
    let end : at + 16 * n + 4 ≡ rest + 16 * (n - u) + 4 = omega (arith, c.requires.rest) in
    let tagged = c.set_word.ensures.bytes in
    let front = c.set_word-2.ensures.bytes ∙ ap (λ b. set_word b rest (n - u)) tagged in
    let sized = c.put_word.ensures.bytes ∙ (λ i. set_word (front i) (end i) (n - u)) in
    let live = c.set_word-3.ensures.bytes ∙ (λ i. set_word (sized i) at (c.size_word.ensures i)) in
    let cut = c.set_word-4.ensures.bytes ∙ ap (λ b. set_word b (rest + 4) u) live in
    let linked = c.set_pointer.ensures.bytes ∙ (λ i. set_pointer (cut i) (rest + 12) (next_is i)) in
    let listed = c.put_pointer.ensures.bytes ∙ (λ i. set_pointer (linked i) (link_is i) (Some (rest + 16))) in
    let taken = c.set_pointer-2.ensures.bytes ∙ ap (λ b. set_pointer b (at + 12) None) listed in
    subst (λ (b : List ℕ). Retiles 0 old b xs (tile at u true ∷ tile rest (n - u) false ∷ []) ys × (link_at b at ≡ None)) (sym taken) (
      front-retiles old xs ys at n u (n - u) was (omega (arith, c.requires.rest)) c.requires.front (omega (arith, c.requires.rest)),
      link_at-front old xs ys at n u (n - u) was (omega (arith, c.requires.rest)) c.requires.front (omega (arith, c.requires.rest)),
    )
