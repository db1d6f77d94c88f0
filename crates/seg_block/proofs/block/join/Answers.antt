use Rattle.std.proofs.Common.{◌+◌, ◌*◌, List, [], ◌∷◌, ℕ, sym, ap, ◌∙◌, subst}
use Rattle.seg_spec.specs.Window.{Placement}
use Rattle.seg_block.specs.Sizes.{set_size}
use Rattle.seg_block.specs.Tiling.{tile, Replaces}
use Rattle.seg_block.proofs.TileReplacementLaws.{header_of}
use Rattle.seg_block.proofs.TileJoinLaws.{join-replaces}
use Rattle.seg_block.proofs.block.join.Goals as goal

pub returns-clause-tiles : goal.returns-clause-tiles
returns-clause-tiles g c = λ xs ys l m was.
    let old = c.args.w.now.bytes in
    let at = c.args.block.at in
    let u = c.args.block.units in
    let v = c.args.following.units in
    let live_is = c.is_live-live.ensures ∙ (header_of old xs (tile (at + 16 * u) v m ∷ ys) (tile at u l) was).live_is in
    let done = ap (λ (p : Placement). p.bytes) c.set_size.ensures ∙ ap (set_size old at (u + v)) live_is in
    subst (λ (b : List ℕ). Replaces old b xs (tile at (u + v) l ∷ []) ys at (16 * u)) (sym done) (join-replaces old xs ys at u v l m was)
