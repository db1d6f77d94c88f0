use Rattle.std.proofs.Common.{arith, length, ◌∷◌, ◌++◌, List, ℕ, sym, ap, ◌∙◌, subst}
use Rattle.seg_spec.specs.Window.{Placement}
use Rattle.seg_spec.specs.Heap.{free_of, link_at, IsFreeTree}
use Rattle.seg_block.specs.FreeBlocks.{AreFreeBlocks}
use Rattle.seg_bestfit.specs.FreeTree.{JoinsTree}
use Rattle.seg_bestfit.proofs.TileReleaseLaws.{freed_blocks, freed_tree, freed_link, freed_length, released-retiles}
use Rattle.seg_bestfit.proofs.free_tree.make_gap.Goals as goal

pub returns-clause-tiles : goal.returns-clause-tiles
returns-clause-tiles g c = λ xs ms ys t was holds fill.
    let old = c.args.w.now.bytes in
    let at = c.args.block.at in
    let u = c.args.block.units in
    let freed_is = ap (λ (p : Placement). p.bytes) c.set_free.ensures in
    released-retiles old xs ms ys t at u was fill c.put_in.new.w.bytes
    (subst (λ (b : List ℕ). JoinsTree b c.put_in.new.w.bytes (free_of xs) (record { at = at; units = u }) (free_of ys)) freed_is
    (c.put_in.ensures.joins (omega (arith, was.small, freed_length old xs ms ys t at u was fill, ap length freed_is)) (free_of xs) (free_of ys)
    (subst (λ (b : List ℕ). AreFreeBlocks b 704 (free_of xs ++ record { at = at; units = u } ∷ free_of ys)) (sym freed_is) (freed_blocks old xs ms ys t at u was fill))
    (subst (λ (b : List ℕ). IsFreeTree b (free_of xs ++ free_of ys)) (sym freed_is) (freed_tree old xs ms ys t at u was fill holds))
    (ap (λ b. link_at b at) freed_is ∙ freed_link old xs ms ys t at u was fill)))
