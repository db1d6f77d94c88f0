-- The gap at the end of a path is removed from the tree, or its node is replaced by the node of
-- another gap, whose header was written in between.
use Rattle.std.proofs.Common.{◌≡◌, ◌≢◌, ℕ, ◌+◌, ◌^◌, ◌≤◌, List, [], ◌∷◌, ◌++◌, length, map, true, false, cond, Some, None, refl, sym, ap, ◌∙◌, subst, arith}
use Rattle.std.specs.List.{AllByRecursion}
use Rattle.seg_spec.specs.Bytes.{IsSame}
use Rattle.seg_spec.specs.Heap.{Span, link_at, is_smaller, insert_by_size, by_size, IsFreeTree}
use Rattle.seg_spec.specs.Pointer.{target}
use Rattle.seg_spec.specs.Search.{Ascend, IsSearchTree}
use Rattle.seg_spec.specs.Shapes.{nodes_of}
use Rattle.seg_spec.proofs.Values.PlaceFrameLaws.{each_map, each_of_map, target-same, IsTree-same}
use Rattle.seg_spec.proofs.Heap.GapOrderLaws.{by_size-middle}
use Rattle.seg_spec.proofs.Heap.HeapFrameLaws.{each_by_size}
use Rattle.seg_spec.proofs.SliceLaws.{IsSame-part}
use Rattle.seg_block.specs.FreeBlocks.{AreFreeBlocks}
use Rattle.seg_block.proofs.FreeKept.{KeepsGaps}
use Rattle.seg_rbtree.specs.declared.path.Path.{Path}
use Rattle.seg_rbtree.specs.Changes.{StandApart, without_node, renamed, Leaves}
use Rattle.seg_rbtree.specs.Paths.{IsAmong, IsLast, IsLastAt, TakesOutAt, RenamesAt, node_at}
use Rattle.seg_rbtree.specs.Ways.{LeadsTo}
use Rattle.seg_rbtree.proofs.NodePathLaws.{named_still}
use Rattle.seg_bestfit.specs.FreeTree.{by_units, KeepsPlace, LeadsToGap, LeavesTree, JoinsTree}
use Rattle.seg_bestfit.proofs.FreeGaps.{each_drop, each_put, others_elsewhere}
use Rattle.seg_bestfit.proofs.TreeChangeLaws.{room_of, search_tree, tree_ascends, tree_stands, leaves, renamed_stands, takes_place}
use Rattle.seg_bestfit.proofs.SizeOrder.{node_of}

picked : (P : Span → Type 0) (g : Span) (hs : List Span) → AllByRecursion P (insert_by_size g hs) → P g
picked P g [] a = a.0
picked P g (h ∷ hs) a =
    let go = elim (is_smaller g h) as (λ b. AllByRecursion P (cond b (g ∷ h ∷ hs) (h ∷ insert_by_size g hs)) → P g) [ true ↦ (λ a. a.0) | false ↦ (λ a. picked P g hs a.1) ] in
    go a

module _ (old : List ℕ) (xs : List Span) (g : Span) (ys : List Span) (path : Path) (small : length old ≤ 2 ^ 30) (was_free : AreFreeBlocks old 704 (xs ++ g ∷ ys))
    (holds : IsFreeTree old (xs ++ g ∷ ys)) (way : LeadsToGap old path (node_of g)) where
  low : 704 ≤ length old
  low = room_of old xs g ys was_free

  was_tree : IsSearchTree old 24 holds.tree
  was_tree = search_tree old (xs ++ g ∷ ys) low small was_free holds

  among : IsAmong (node_of g) (nodes_of holds.tree)
  among all =
      let one = each_of_map (λ x. node_of g ≢ x) node_of (by_size (xs ++ g ∷ ys)) (subst (λ ns. AllByRecursion (λ x. node_of g ≢ x) ns) holds.nodes_are all) in
      picked (λ h. node_of g ≢ node_of h) g (by_size (xs ++ ys)) (subst (λ hs. AllByRecursion (λ h. node_of g ≢ node_of h) hs) (by_size-middle xs g ys) one) refl

  was_ascending : Ascend (by_units old) (nodes_of holds.tree)
  was_ascending = tree_ascends old (xs ++ g ∷ ys) low small was_free holds

  lead : LeadsTo (by_units old (node_of g)) holds.tree path
  lead = way.leads holds.tree was_tree was_ascending

  found : node_at old path ≡ Some (node_of g)
  found = way.found holds.tree was_tree was_ascending among

  -- if the path ends at the last node, the gap is the last by size
  pub last_here : IsLastAt old path → IsLast (node_of g) (map node_of (insert_by_size g (by_size (xs ++ ys))))
  last_here last =
      subst (λ ns. IsLast (node_of g) ns) (holds.nodes_are ∙ ap (map node_of) (by_size-middle xs g ys))
      (last (by_units old (node_of g)) (node_of g) holds.tree (subst (λ w. IsSearchTree old w holds.tree) (sym way.root_is) was_tree) lead found)

  -- if the node at the path's end is removed, the gap leaves the tree
  pub left_here : (new : List ℕ) → TakesOutAt old new path → LeavesTree old new xs g ys
  left_here new takes =
      leaves old new xs g ys low small was_free holds
      (subst (λ w. Leaves old new w (nodes_of holds.tree) (without_node (node_of g) (nodes_of holds.tree))) way.root_is
      (takes (by_units old (node_of g)) (node_of g) holds.tree (subst (λ w. IsSearchTree old w holds.tree) (sym way.root_is) was_tree) lead found
      (subst (λ w. StandApart (length old) w (nodes_of holds.tree)) (sym way.root_is) (tree_stands old (xs ++ g ∷ ys) low small was_free holds))))

module _ (old mid new : List ℕ) (xs : List Span) (g r : Span) (ys : List Span) (path : Path) (small : length old ≤ 2 ^ 30) (was_free : AreFreeBlocks old 704 (xs ++ g ∷ ys))
    (holds : IsFreeTree old (xs ++ g ∷ ys)) (way : LeadsToGap old path (node_of g))
    (long : length mid ≡ length old) (root_kept : IsSame old mid 24 4) (gaps_kept : KeepsGaps old mid (xs ++ ys)) (node_kept : IsSame old mid (node_of g) 16) (free : AreFreeBlocks mid 704 (xs ++ r ∷ ys)) (unlinked : link_at mid r.at ≡ None)
    (keeps : KeepsPlace (by_size (xs ++ ys)) g r) (renames : RenamesAt mid new path (node_of r)) where
  nodes_kept : AllByRecursion (λ p. IsSame old mid p 16) (nodes_of holds.tree)
  nodes_kept = subst (λ ns. AllByRecursion (λ p. IsSame old mid p 16) ns) (sym holds.nodes_are)
      (each_map (λ p. IsSame old mid p 16) node_of (by_size (xs ++ g ∷ ys)) (each_by_size (λ h. IsSame old mid (node_of h) 16) (xs ++ g ∷ ys)
      (each_put (λ h. IsSame old mid (node_of h) 16) xs g ys node_kept (unit_kept (xs ++ ys) gaps_kept))))
    where
      unit_kept : (gs : List Span) → KeepsGaps old mid gs → AllByRecursion (λ h. IsSame old mid (node_of h) 16) gs
      unit_kept [] k = tt
      unit_kept (h ∷ hs) k = (IsSame-part old mid (h.at + 12) 20 (h.at + 16) 16 (omega arith) (omega arith) k.0, unit_kept hs k.1)

  tree_now : IsSearchTree mid 24 holds.tree
  tree_now = record {
    is_tree = rw (target-same old mid 24 root_kept) (IsTree-same old mid (target old 24) holds.tree nodes_kept (was_tree old xs g ys path small was_free holds way).is_tree);
    red_black = holds.red_black;
    few = (was_tree old xs g ys path small was_free holds way).few;
  }

  links_now : AllByRecursion (λ h. link_at mid h.at ≡ None) (xs ++ r ∷ ys)
  links_now = each_put (λ h. link_at mid h.at ≡ None) xs r ys unlinked (others (xs ++ ys) gaps_kept (each_drop (λ h. link_at old h.at ≡ None) xs g ys holds.links))
    where
      others : (gs : List Span) → KeepsGaps old mid gs → AllByRecursion (λ h. link_at old h.at ≡ None) gs → AllByRecursion (λ h. link_at mid h.at ≡ None) gs
      others [] k l = tt
      others (h ∷ hs) k l = (target-same old mid (h.at + 12) (IsSame-part old mid (h.at + 12) 20 (h.at + 12) 4 (omega arith) (omega arith) k.0) ∙ l.0, others hs k.1 l.1)

  pub replaced : JoinsTree mid new xs r ys
  replaced =
      let was_low : 704 ≤ length old = room_of old xs g ys was_free in
      let was = was_tree old xs g ys path small was_free holds way in
      let way_there = lead old xs g ys path small was_free holds way in
      let now_low : 704 ≤ length mid = omega arith in
      let now_small : length mid ≤ 2 ^ 30 = omega arith in
      let elsewhere = others_elsewhere old xs g ys was_low small was_free in
      let root = way.root_is in
      let there = named_still old mid path (by_units old (node_of g)) (node_of g) holds.tree way_there
      (subst (λ w. IsSearchTree old w holds.tree) (sym root) was).is_tree (subst (λ w. IsSearchTree mid w holds.tree) (sym root) tree_now).is_tree (found old xs g ys path small was_free holds way) in
      let stood : StandApart (length mid) 24 (nodes_of holds.tree) = subst (λ n. StandApart n 24 (nodes_of holds.tree)) (sym long) (tree_stands old (xs ++ g ∷ ys) was_low small was_free holds) in
      let stands = renamed_stands mid new xs g r ys now_low now_small free elsewhere keeps holds.tree holds.nodes_are in
      takes_place mid new xs g r ys now_low now_small free elsewhere keeps holds.tree holds.nodes_are links_now
      (go root (renames (by_units old (node_of g)) (node_of g) holds.tree (subst (λ w. IsSearchTree mid w holds.tree) (sym root) tree_now) way_there there
      (subst (λ w. StandApart (length mid) w (nodes_of holds.tree)) (sym root) stood) (subst (λ w. StandApart (length mid) w (renamed (node_of g) (node_of r) (nodes_of holds.tree))) (sym root) stands)))
    where
      go : path.root ≡ 24 → Leaves mid new path.root (renamed (node_of g) (node_of r) (nodes_of holds.tree)) (renamed (node_of g) (node_of r) (nodes_of holds.tree))
          → Leaves mid new 24 (renamed (node_of g) (node_of r) (nodes_of holds.tree)) (renamed (node_of g) (node_of r) (nodes_of holds.tree))
      go root l = subst (λ w. Leaves mid new w (renamed (node_of g) (node_of r) (nodes_of holds.tree)) (renamed (node_of g) (node_of r) (nodes_of holds.tree))) root l
