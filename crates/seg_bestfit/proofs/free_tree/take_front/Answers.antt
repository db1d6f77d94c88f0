use Rattle.std.proofs.Common.{◌+◌, ◌-◌, ◌*◌, true, List, ℕ, ap, ◌∙◌, subst, arith}
use Rattle.seg_spec.specs.Window.{Placement}
use Rattle.seg_block.specs.Sizes.{set_size}
use Rattle.seg_rbtree.specs.Paths.{RenamesAt}
use Rattle.seg_bestfit.proofs.Fronts.{front-retiles, link_at-front}
use Rattle.seg_bestfit.proofs.free_tree.take_front.Goals as goal

pub returns-clause-tiles : goal.returns-clause-tiles
returns-clause-tiles g c = λ way xs ys was keeps.
    let old = c.args.w.now.bytes in
    let path = c.args.path.now in
    let at = c.args.gap.at in
    let n = c.args.gap.units in
    let u = c.args.units in
    let bytes = λ (p : Placement). p.bytes in
    let cut = ap bytes c.set_size.ensures ∙ ap (λ b. set_size b at u true) (ap bytes c.set_free.ensures) in
    let renames = subst (λ (b : List ℕ). RenamesAt b c.replace.new.w.bytes path (at + 16 * u + 16)) cut c.replace.ensures.replaced in (
      front-retiles old xs ys at n u (n - u) was (omega (arith, c.requires.rest)) c.requires.front (omega (arith, c.requires.rest)) c.replace.new.w.bytes path way keeps renames,
      link_at-front old xs ys at n u (n - u) was (omega (arith, c.requires.rest)) c.requires.front (omega (arith, c.requires.rest)) c.replace.new.w.bytes path way keeps renames,
    )
