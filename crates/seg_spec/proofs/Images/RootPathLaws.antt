-- Paths from the roots of an image, after a root is kept, and after a place changes.
use Rattle.std.proofs.Common.{◌≡◌, ℕ, ◌+◌, ◌*◌, ◌<◌, ◌≤◌, List, [], ◌∷◌, ◌++◌, sym, subst, length, arith}
use Rattle.std.specs.List.{AllByRecursion}
use Rattle.seg_spec.specs.Types.{Table, IsTable, size}
use Rattle.seg_spec.specs.Value.{Value, count, Selector}
use Rattle.seg_spec.specs.Heap.{Span}
use Rattle.seg_spec.specs.Block.{KeepsBlock}
use Rattle.seg_spec.specs.Reads.{Place, Holds, Leads}
use Rattle.seg_spec.specs.Index.{Root}
use Rattle.seg_spec.specs.Sound.{words_size, payload_of, Picture, IsHeld, HoldsRoot, HoldsRoots, holds_no_root, holds_more_roots}
use Rattle.seg_spec.specs.Roots.{Listed, roots_in, roots_before, roots_after, item_of, KeepsPaths, KeepsPathsBeside, ChangesPlace}
use Rattle.seg_spec.proofs.Values.PlaceFrameLaws.{each_left, each_right, payload-same, places-same, spaced-same}
use Rattle.seg_spec.proofs.Values.PathFrameLaws.{Leads-each}
use Rattle.seg_spec.proofs.Heap.LiveBlockLaws.{each_there}
use Rattle.seg_spec.proofs.Values.OneValueLaws.{Holds-one}
use Rattle.seg_spec.proofs.Images.RootCallLaws.{outside, around}
use Rattle.seg_spec.proofs.Images.RootPartLaws.{items_nth, part_comes_apart}
use Rattle.seg_spec.proofs.Images.RootLaws.{root_comes_apart}
use Rattle.seg_spec.proofs.SliceLaws.{IsSame-part}
use Rattle.seg_spec.proofs.Images.RootWriteLaws.{root_apart}

module _ (old new : List ℕ) (table : Table) (valid : IsTable table) where
  -- the blocks of the root are kept
  pub root_paths : (root : Root) (blocks : List ℕ) → HoldsRoot old table root blocks → AllByRecursion (KeepsBlock old new) blocks → KeepsPaths old new table root
  root_paths root blocks o kept i path target within l =
      let all = subst (AllByRecursion (KeepsBlock old new)) o.blocks_are kept in
      let p = payload_of root in
      let w = words_size root in
      let n = count root.values * size table root.type in
      let before : w ≤ root.at = o.before in
      let whole = payload-same old new p _ (w + (n + length root.name)) all.0 o.block in
      let values = IsSame-part old new p (w + (n + length root.name)) root.at n (omega arith) (omega arith) whole in
      Leads-each old new table valid (item_of table root i) i o.values (items_nth table root.at root.type (count root.values) i within)
      (places-same old new table valid root.type _ (spaced-same old new root.at (size table root.type) (count root.values) values)) all.1 l

  pub roots_paths : {roots : List Root} {blocks : List ℕ} → HoldsRoots old table roots blocks → AllByRecursion (KeepsBlock old new) blocks → AllByRecursion (KeepsPaths old new table) roots
  roots_paths holds_no_root kept = tt
  roots_paths (holds_more_roots {root = root} {blocks = blocks} {rest = rest} h hs) kept = (root_paths root blocks h (each_left _ blocks rest kept), roots_paths hs (each_right _ blocks rest kept))

each_joined : (P : Root → Type 0) (xs ys : List Root) → AllByRecursion P xs → AllByRecursion P ys → AllByRecursion P (xs ++ ys)
each_joined P [] ys a b = b
each_joined P (x ∷ xs) ys a b = (a.0, each_joined P xs ys a.1 b)

-- a call changes a place inside a root
module _ (old new : List ℕ) (picture : Picture) (held : IsHeld old picture) (which : Listed) (before : List Root) (root : Root) (after : List Root) (among : roots_in picture which ≡ before ++ root ∷ after)
    (j : ℕ) (within : j < count root.values) (path : List Selector) (q : Place) (leads : Leads old picture.table (item_of picture.table root j) path q)
    (v w : Value) (blocks others : List ℕ) (was : Holds old picture.table q v blocks) {spans : List Span} (c : ChangesPlace old new picture.table q w others spans blocks others) where
  pub place_paths : KeepsPathsBeside old new picture.table root j path × AllByRecursion (KeepsPaths old new picture.table) (roots_before picture which before ++ roots_after picture which after)
  place_paths =
      let a = root_comes_apart old picture held which before root after among in
      let mine = root_apart old picture held which before root after a in
      let p = part_comes_apart old picture.table held.laid_out.is_table root a.its a.holds_it mine j within path q leads in
      let same : p.its ≡ blocks = (Holds-one old picture.table p.holds_it was).1 in
      let c' = subst (λ bs. ChangesPlace old new picture.table q w others spans bs others) (sym same) c in
      let far = each_there (KeepsBlock old new) (held.index_blocks ++ (a.left ++ a.right)) (outside old new picture held which before root after a j path q p w others c') in
      let kept = each_right _ held.index_blocks (a.left ++ a.right) far in (
        p.paths new (each_there _ (p.left ++ p.right) (around old new picture held which before root after a j path q p w others c')),
        each_joined (KeepsPaths old new picture.table) (roots_before picture which before) (roots_after picture which after)
            (roots_paths old new picture.table held.laid_out.is_table a.holds_before (each_left _ a.left a.right kept))
            (roots_paths old new picture.table held.laid_out.is_table a.holds_after (each_right _ a.left a.right kept)),
      )
