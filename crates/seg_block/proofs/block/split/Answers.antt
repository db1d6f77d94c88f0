use Rattle.std.proofs.Common.{◌+◌, ◌-◌, ◌*◌, List, [], ◌∷◌, ℕ, sym, ap, ◌∙◌, subst, arith}
use Rattle.seg_spec.specs.Window.{Placement}
use Rattle.seg_block.specs.Sizes.{set_size, set_split}
use Rattle.seg_block.specs.Tiling.{tile, Replaces}
use Rattle.seg_block.proofs.TileReplacementLaws.{header_of}
use Rattle.seg_block.proofs.TileSplitLaws.{split-replaces}
use Rattle.seg_block.proofs.block.split.Goals as goal

pub returns-clause-tiles : goal.returns-clause-tiles
returns-clause-tiles g c = λ xs ys l was.
    let old = c.args.w.now.bytes in
    let at = c.args.block.at in
    let u = c.args.units in
    let r = c.args.block.units - u in
    let live_is = c.is_live-live.ensures ∙ (header_of old xs ys (tile at c.args.block.units l) was).live_is in
    let bytes = λ (p : Placement). p.bytes in
    let sized = ap bytes c.set_size.ensures ∙ ap (λ b. set_size b (at + 16 * u) r c.is_live-live.result) (ap bytes c.put32.ensures) in
    let done = ap bytes c.set_size-2.ensures ∙ ap (λ b. set_size b at u c.is_live-live.result) sized ∙ ap (set_split old at u r) live_is in
    subst (λ (b : List ℕ). Replaces old b xs (tile at u l ∷ tile (at + 16 * u) r l ∷ []) ys at (16 * u)) (sym done)
    (split-replaces old xs ys at c.args.block.units u r l was (omega arith) c.requires.front (omega arith))
