-- A path to the last node of the tree.
use Rattle.std.proofs.Common.{◌≡◌, ℕ, ◌+◌, List, [], ◌∷◌, ◌++◌, Option, Some, None, refl, sym, ap, ◌∙◌, subst, append_assoc}
use Rattle.std.specs.Cmp.{IsTotalOrder}
use Rattle.std.specs.List.{AllByRecursion}
use Rattle.std.specs.declared.cmp.Ordering.{Ordering}
use Rattle.std.specs.declared.cmp.Ordering.TheVariants.{Less}
use Rattle.seg_spec.specs.Pointer.{target}
use Rattle.seg_spec.specs.Search.{Ascend, IsSearchTree}
use Rattle.seg_spec.specs.Shapes.{Tree, leaf, fork, nodes_of, IsTree}
use Rattle.seg_spec.proofs.Values.PlaceFrameLaws.{each_left, each_right}
use Rattle.seg_rbtree.specs.declared.node.Side.{Side}
use Rattle.seg_rbtree.specs.declared.node.Side.TheVariants.{Left, Right}
use Rattle.seg_rbtree.specs.declared.path.Path.{Path}
use Rattle.seg_rbtree.specs.declared.step.Step.{Step}
use Rattle.seg_rbtree.specs.Following.{AlwaysGoesRight}
use Rattle.seg_rbtree.specs.Paths.{node_at, IsLast}
use Rattle.seg_rbtree.specs.Ways.{Layer, step_of, steps_of, LeadsTo, before, following, nodes_after}
use Rattle.seg_rbtree.proofs.Apartness.{each_join}
use Rattle.seg_rbtree.proofs.Branches.{IsFork, IsBranch, branch-parts, fork_at}
use Rattle.seg_rbtree.proofs.ClimbLaws.{following_none}
use Rattle.seg_rbtree.proofs.ShortSubtreeStepLaws.{no_tree}
use Rattle.seg_rbtree.proofs.Orders.{ascend-parts}
use Rattle.seg_rbtree.proofs.TreeWithoutNodeLaws.{itself, rest_hangs}
use Rattle.seg_rbtree.proofs.NodeUnlinkLaws.{nodes_plug}

-- ---- the last of a list

-- a list with an element isn't empty
not_empty : (xs : List ℕ) (y : ℕ) (ys : List ℕ) → xs ++ y ∷ ys ≡ [] → ⊥
not_empty [] y ys e = cc
not_empty (x ∷ xs) y ys e = cc

-- if two lists together are empty, each is empty
both_empty : (xs ys : List ℕ) → xs ++ ys ≡ [] → (xs ≡ []) × (ys ≡ [])
both_empty [] ys e = (refl, e)
both_empty (x ∷ xs) ys e = absurd cc

-- a fact about each item at a list's end is a fact about the last one
true_of_last : (P : ℕ → Type 0) (xs front : List ℕ) (last y : ℕ) (ys : List ℕ) → xs ++ y ∷ ys ≡ front ++ last ∷ [] → AllByRecursion P (y ∷ ys) → P last
true_of_last P [] front last y ys e all = (each_right P front (last ∷ []) (subst (AllByRecursion P) e all)).0
true_of_last P (x ∷ xs) [] last y ys e all = absurd (not_empty xs y ys cc)
true_of_last P (x ∷ xs) (z ∷ front) last y ys e all = let rest : xs ++ y ∷ ys ≡ front ++ last ∷ [] = cc in true_of_last P xs front last y ys rest all

-- in a list in order, no node is after the last one
none_behind : (order : ℕ → ℕ → Ordering) → IsTotalOrder order → (xs : List ℕ) (node : ℕ) (ys : List ℕ) → Ascend order (xs ++ node ∷ ys) → IsLast node (xs ++ node ∷ ys) → ys ≡ []
none_behind order total xs node [] a last = refl
none_behind order total xs node (y ∷ ys) a last =
    let less : order node node ≡ Less = true_of_last (λ z. order node z ≡ Less) (xs ++ node ∷ []) last.front node y ys (append_assoc xs (node ∷ []) (y ∷ ys) ∙ last.nodes_are) (ascend-parts order xs node (y ∷ ys) a).following in
    let equal = itself order total node in
    absurd cc

-- ---- steps to the right

-- if all steps go right, the layers have their places on their right sides
right_steps : (layers : List Layer) → AllByRecursion (λ (s : Step). s.side ≡ Right) (steps_of layers) → AlwaysGoesRight layers
right_steps [] a = tt
right_steps (l ∷ ls) a = ((each_right _ (steps_of ls) (step_of l ∷ []) a).0, right_steps ls (each_left _ (steps_of ls) (step_of l ∷ []) a))

-- if no node is after a place, every step to it goes right
steps_right : (layers : List Layer) → following layers ≡ [] → AllByRecursion (λ (s : Step). s.side ≡ Right) (steps_of layers)
unfolding following nodes_after
steps_right [] e = tt
steps_right (l ∷ ls) e = go l.side refl (steps_right ls)
  where
    go : (side : Side) → l.side ≡ side → (following ls ≡ [] → AllByRecursion (λ (s : Step). s.side ≡ Right) (steps_of ls)) → AllByRecursion (λ (s : Step). s.side ≡ Right) (steps_of (l ∷ ls))
    go Left s above = let some : l.at ∷ (nodes_of l.other ++ following ls) ≡ [] = ap (λ x. nodes_after x l.other l.at ++ following ls) (sym s) ∙ e in absurd cc
    go Right s above = each_join _ (steps_of ls) (step_of l ∷ []) (above (ap (λ x. nodes_after x l.other l.at ++ following ls) (sym s) ∙ e)) (s, tt)

-- ---- the node at a path's end

-- the tree at a null pointer has no nodes
none_hangs : (bytes : List ℕ) (to : Option ℕ) (tree : Tree) → IsTree bytes to tree → nodes_of tree ≡ [] → to ≡ None
none_hangs bytes None tree h e = refl
none_hangs bytes (Some p) leaf h e = absurd h
none_hangs bytes (Some p) (fork l at c r) h e = absurd (not_empty (nodes_of l) at (nodes_of r) e)

-- a path that ends at a node of the tree
module _ (bytes : List ℕ) (path : Path) (turn : ℕ → Ordering) (node : ℕ) (shape : Tree) (t : IsSearchTree bytes path.root shape) (way : LeadsTo turn shape path) (named : node_at bytes path ≡ Some node) where
  -- the subtree at the path's end has the node as its root
  hangs : IsTree bytes (node_at bytes path) way.rest
  hangs = rest_hangs bytes path.root path turn node shape refl way t.is_tree

  part : IsFork Left node way.rest
  part = fork_at bytes Left node (node_at bytes path) way.rest named hangs

  parts : IsBranch bytes (node_at bytes path) Left node part.colour part.near part.far
  parts = branch-parts bytes (node_at bytes path) Left node part.colour part.near part.far (subst (λ x. IsTree bytes (node_at bytes path) x) part.tree_is hangs)

  -- the nodes of the tree before the node, and those after it
  ahead : List ℕ
  ahead = before way.layers ++ nodes_of part.near

  behind : List ℕ
  behind = nodes_of part.far ++ following way.layers

  -- the node is between them
  nodes_are : nodes_of shape ≡ ahead ++ node ∷ behind
  unfolding ahead behind
  nodes_are = ap nodes_of (sym way.shape_is) ∙ nodes_plug way.layers way.rest ∙ ap (λ x. before way.layers ++ (nodes_of x ++ following way.layers)) part.tree_is ∙ simp append_assoc

  -- if the node has no right child, and the path only goes right, the node is the last one
  pub last_there : target bytes (node + 4) ≡ None → AllByRecursion (λ (s : Step). s.side ≡ Right) path.steps.items → IsLast node (nodes_of shape)
  unfolding behind
  last_there none rightmost =
      let no_child : part.far ≡ leaf = no_tree bytes part.far (subst (λ o. IsTree bytes o part.far) none parts.far_hangs) in
      let no_more : following way.layers ≡ [] = following_none way.layers (right_steps way.layers (subst (AllByRecursion (λ (s : Step). s.side ≡ Right)) way.steps_are rightmost)) in
      record { front = ahead; nodes_are = nodes_are ∙ ap (λ x. ahead ++ node ∷ (nodes_of x ++ following way.layers)) no_child ∙ ap (λ ns. ahead ++ node ∷ ns) no_more }

  -- the last node in order has no right child, and the path to it only goes right
  pub way_to_last : (order : ℕ → ℕ → Ordering) → IsTotalOrder order → Ascend order (nodes_of shape) → IsLast node (nodes_of shape)
      → (target bytes (node + 4) ≡ None) × AllByRecursion (λ (s : Step). s.side ≡ Right) path.steps.items
  unfolding behind
  way_to_last order total a last =
      let empty : behind ≡ [] = none_behind order total ahead node behind (subst (Ascend order) nodes_are a) (subst (IsLast node) nodes_are last) in
      let none = both_empty (nodes_of part.far) (following way.layers) empty in
      (none_hangs bytes (target bytes (node + 4)) part.far parts.far_hangs none.0, subst (AllByRecursion (λ (s : Step). s.side ≡ Right)) (sym way.steps_are) (steps_right way.layers none.1))
