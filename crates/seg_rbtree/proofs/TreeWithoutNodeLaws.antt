-- A tree without one of its nodes.
use Rattle.std.proofs.Common.{◌≡◌, ◌≢◌, ℕ, ◌+◌, ◌^◌, ◌<◌, Bool, true, false, not, eqb, List, [], ◌∷◌, ◌++◌, length, Option, Some, None, refl, sym, ap, ◌∙◌, subst, arith}
use Rattle.std.proofs.lemmas.List.{length-append}
use Rattle.std.proofs.lemmas.Bool.Decides.{nat_tests}
use Rattle.std.specs.Option.{option_eq}
use Rattle.std.specs.Cmp.{IsTotalOrder}
use Rattle.std.specs.Ordering.{ordering_reverse}
use Rattle.std.specs.List.{AllByRecursion}
use Rattle.std.specs.declared.cmp.Ordering.{Ordering}
use Rattle.std.specs.declared.cmp.Ordering.TheVariants.{Less, Equal, Greater}
use Rattle.seg_spec.specs.Pointer.{target}
use Rattle.seg_spec.specs.Shapes.{Tree, leaf, fork, nodes_of, IsTree, IsRedBlack}
use Rattle.seg_spec.specs.Search.{Ascend, IsSearchTree}
use Rattle.seg_spec.specs.Apart.{Separate}
use Rattle.seg_spec.proofs.Values.PlaceFrameLaws.{each_left, each_right, each_weaker}
use Rattle.seg_rbtree.specs.declared.node.Side.{Side}
use Rattle.seg_rbtree.specs.declared.node.Side.TheVariants.{Left, Right}
use Rattle.seg_rbtree.specs.declared.node.Colour.TheVariants.{Black, Red}
use Rattle.seg_rbtree.specs.declared.path.Path.{Path}
use Rattle.seg_rbtree.specs.Ways.{Layer, branch, grow, plug, place, last_word, turn_of, LeadBy, EndsAt, LeadsTo, before, following}
use Rattle.seg_rbtree.specs.Paths.{node_at}
use Rattle.seg_rbtree.specs.Changes.{StandApart, KeepsBeside, Leaves, without_node}
use Rattle.seg_rbtree.specs.Turns.{Turns}
use Rattle.seg_rbtree.specs.Removing.{StandsAt, Loses, Unlinks, Restores}
use Rattle.seg_rbtree.proofs.Apartness.{each_join}
use Rattle.seg_rbtree.proofs.WordWriteLaws.{keeps-none, keeps-trans, keeps-wider}
use Rattle.seg_rbtree.proofs.Orders.{ascend-parts, ascend-down}
use Rattle.seg_rbtree.proofs.NodeUnlinkLaws.{nodes_plug}
use Rattle.seg_rbtree.proofs.WithoutNode.{without_lost, without_later}
use Rattle.seg_rbtree.proofs.Steps.{last_word-steps}
use Rattle.seg_rbtree.proofs.Branches.{tree-down}
use Rattle.seg_rbtree.proofs.NodeRemovalLaws.{apart_lost, each_lost}

-- ---- a node that isn't in the tree

its_own_reverse : (r : Ordering) → r ≡ ordering_reverse r → r ≡ Equal
its_own_reverse Less e = cc
its_own_reverse Equal e = refl
its_own_reverse Greater e = cc

module _ (order : ℕ → ℕ → Ordering) (total : IsTotalOrder order) (node : ℕ) where
  pub itself : order node node ≡ Equal
  itself = its_own_reverse (order node node) (total.antisymm node node)

  other_than : (at : ℕ) (r : Ordering) → order node at ≡ r → (r ≡ Equal → ⊥) → node ≢ at
  other_than at r e n s = n (sym e ∙ sym (ap (order node) s) ∙ itself)

  not_after : (at y : ℕ) → order node at ≡ Less → order at y ≡ Less → node ≢ y
  not_after at y e f s =
      let back : order node at ≡ Greater = total.antisymm node at ∙ ap ordering_reverse (ap (order at) s ∙ f) in
      cc

  not_before : (at x : ℕ) (r : Ordering) → order node at ≡ r → (r ≡ Less → ⊥) → order x at ≡ Less → node ≢ x
  not_before at x r e n f s = n (sym e ∙ ap (λ y. order y at) s ∙ f)

  not_after_equal : (at y : ℕ) → order node at ≡ Equal → order at y ≡ Less → node ≢ y
  not_after_equal at y e f s =
      let back : order node at ≡ Greater = total.antisymm node at ∙ ap ordering_reverse (ap (order at) s ∙ f) in
      cc

  abbrev Misses : List ℕ → Type 0
  Misses ns = AllByRecursion (λ x. node ≢ x) ns

  -- the subtrees beside the path don't contain the node
  pub not_aside : (layers : List Layer) (rest : Tree) → Ascend order (nodes_of (plug rest layers)) → LeadBy (order node) layers → Misses (nodes_of rest) → Misses (nodes_of (plug rest layers))
  not_aside [] rest a l m = m
  not_aside (layer ∷ layers) rest a l m = not_aside layers (grow layer rest) a l.1 (go layer.side l.0 (ascend-down order (grow layer rest) layers a))
    where
      go : (side : Side) → order node layer.at ≡ turn_of side → Ascend order (nodes_of (branch side layer.at layer.colour rest layer.other)) → Misses (nodes_of (branch side layer.at layer.colour rest layer.other))
      go Left e h =
          let p = ascend-parts order (nodes_of rest) layer.at (nodes_of layer.other) h in
          each_join _ (nodes_of rest) (layer.at ∷ nodes_of layer.other) m (other_than layer.at Less e (λ q. cc), each_weaker _ _ (λ y f. not_after layer.at y e f) (nodes_of layer.other) p.following)
      go Right e h =
          let p = ascend-parts order (nodes_of layer.other) layer.at (nodes_of rest) h in
          each_join _ (nodes_of layer.other) (layer.at ∷ nodes_of rest) (each_weaker _ _ (λ x f. not_before layer.at x Greater e (λ q. cc) f) (nodes_of layer.other) p.before) (other_than layer.at Greater e (λ q. cc), m)

  pub not_at_end : (bytes : List ℕ) (to : Option ℕ) (rest : Tree) → IsTree bytes to rest → EndsAt (order node) rest → Ascend order (nodes_of rest) → (to ≡ Some node → ⊥) → Misses (nodes_of rest)
  not_at_end bytes to leaf h e a n = tt
  not_at_end bytes None (fork l at c r) h e a n = absurd h
  not_at_end bytes (Some q) (fork l at c r) h e a n =
      let p = ascend-parts order (nodes_of l) at (nodes_of r) a in
      each_join _ (nodes_of l) (at ∷ nodes_of r) (each_weaker _ _ (λ x f. not_before at x Equal e (λ s. cc) f) (nodes_of l) p.before)
      ((λ s. n (ap Some (sym h.0 ∙ sym s))), each_weaker _ _ (λ y f. not_after_equal at y e f) (nodes_of r) p.following)

without_absent : (node : ℕ) (xs : List ℕ) → AllByRecursion (λ x. node ≢ x) xs → without_node node xs ≡ xs
without_absent node [] m = refl
without_absent node (x ∷ xs) m = without_later node x xs m.0 ∙ ap (λ ys. x ∷ ys) (without_absent node xs m.1)

middle : (P : ℕ → Type 0) (xs : List ℕ) (y : ℕ) (ys : List ℕ) → AllByRecursion P (xs ++ y ∷ ys) → P y
middle P [] y ys a = a.0
middle P (x ∷ xs) y ys a = middle P xs y ys a.1

root_among : (bytes : List ℕ) (node : ℕ) (rest : Tree) → IsTree bytes (Some node) rest → AllByRecursion (λ x. node ≢ x) (nodes_of rest) → ⊥
root_among bytes node leaf h m = h
root_among bytes node (fork l at c r) h m = middle (λ x. node ≢ x) (nodes_of l) at (nodes_of r) m (sym h.0)

-- ---- at the path's end

module _ (bytes : List ℕ) (root : ℕ) (path : Path) (turn : ℕ → Ordering) (node : ℕ) (shape : Tree) (r : path.root ≡ root) (way : LeadsTo turn shape path) where
  pub rest_hangs : IsTree bytes (target bytes root) shape → IsTree bytes (node_at bytes path) way.rest
  rest_hangs h =
      let word : last_word path.root path.steps.items ≡ place path.root way.layers = ap (last_word path.root) way.steps_are ∙ last_word-steps path.root way.layers in
      subst (λ w. IsTree bytes (target bytes w) way.rest) (sym word)
      (subst (λ q. IsTree bytes (target bytes (place q way.layers)) way.rest) (sym r) (tree-down bytes root way.rest way.layers (subst (λ t. IsTree bytes (target bytes root) t) (sym way.shape_is) h)))

  pub begins : IsSearchTree bytes root shape → StandApart (length bytes) root (nodes_of shape) → StandsAt bytes path way.layers way.rest
  begins t a = record {
    steps_are = way.steps_are;
    hangs = subst (λ q. IsTree bytes (target bytes q) (plug way.rest way.layers)) (sym r) (subst (λ t. IsTree bytes (target bytes root) t) (sym way.shape_is) t.is_tree);
    apart = subst (λ q. StandApart (length bytes) q (nodes_of (plug way.rest way.layers))) (sym r) (subst (λ t. StandApart (length bytes) root (nodes_of t)) (sym way.shape_is) a);
  }

  pub not_absent : IsSearchTree bytes root shape → node_at bytes path ≡ Some node → AllByRecursion (λ x. node ≢ x) (nodes_of shape) → ⊥
  not_absent t e m =
      let all : AllByRecursion (λ x. node ≢ x) (before way.layers ++ (nodes_of way.rest ++ following way.layers)) = subst (λ ns. AllByRecursion (λ x. node ≢ x) ns) (ap nodes_of (sym way.shape_is) ∙ nodes_plug way.layers way.rest) m in
      root_among bytes node way.rest (subst (λ o. IsTree bytes o way.rest) e (rest_hangs t.is_tree)) (each_left _ (nodes_of way.rest) (following way.layers) (each_right _ (before way.layers) (nodes_of way.rest ++ following way.layers) all))

  pub named_there : node_at bytes path ≡ Some node → target bytes (place path.root way.layers) ≡ Some node
  named_there e = ap (target bytes) (sym (ap (last_word path.root) way.steps_are ∙ last_word-steps path.root way.layers)) ∙ e

  pub whole_red : IsSearchTree bytes root shape → IsRedBlack (plug way.rest way.layers)
  whole_red t = subst (λ s. IsRedBlack s) (sym way.shape_is) t.red_black

  pub whole_few : IsSearchTree bytes root shape → length (nodes_of (plug way.rest way.layers)) < 2 ^ 32
  whole_few t = subst (λ s. length (nodes_of s) < 2 ^ 32) (sym way.shape_is) t.few

module _ (bytes : List ℕ) (root : ℕ) (path : Path) (order : ℕ → ℕ → Ordering) (node : ℕ) (shape : Tree) (r : path.root ≡ root) (way : LeadsTo (order node) shape path) where
  -- the node isn't in the tree: nothing changes
  pub left_alone : IsTotalOrder order → IsSearchTree bytes root shape → Ascend order (nodes_of shape) → (node_at bytes path ≡ Some node → ⊥) → Leaves bytes bytes root (nodes_of shape) (without_node node (nodes_of shape))
  left_alone total t a n =
      let in_order : Ascend order (nodes_of (plug way.rest way.layers)) = subst (λ t. Ascend order (nodes_of t)) (sym way.shape_is) a in
      let ends = not_at_end order total node bytes (node_at bytes path) way.rest (rest_hangs bytes root path (order node) node shape r way t.is_tree) way.ends (ascend-down order way.rest way.layers in_order) n in
      let missing : AllByRecursion (λ x. node ≢ x) (nodes_of shape) = subst (λ t. AllByRecursion (λ x. node ≢ x) (nodes_of t)) way.shape_is (not_aside order total node way.layers way.rest in_order way.leads ends) in
      record { shape = shape; tree = t; nodes_are = sym (without_absent node (nodes_of shape) missing); kept = keeps-none bytes root (nodes_of shape) }

fewer : (node : ℕ) (old new : List ℕ) → Loses node old new → length old < 2 ^ 32 → length new < 2 ^ 32
fewer node old new l few =
    let o : length old ≡ length l.front + length (node ∷ l.back) = ap length l.old_is ∙ length-append l.front (node ∷ l.back) in
    let n : length new ≡ length l.front + length l.back = ap length l.new_is ∙ length-append l.front l.back in
    omega arith

module _ (bytes one : List ℕ) (root : ℕ) (path last : Path) (turn : ℕ → Ordering) (node : ℕ) (shape : Tree) (r : path.root ≡ root) (way : LeadsTo turn shape path) (q : last.root ≡ path.root) (t : IsSearchTree bytes root shape)
    (a : StandApart (length bytes) root (nodes_of shape)) where
  -- a red node was removed: the tree is still a red-black tree
  pub red_left : Unlinks bytes one last way.layers way.rest node Red → Leaves bytes one root (nodes_of shape) (without_node node (nodes_of shape))
  red_left u =
      let lost : Loses node (nodes_of shape) (nodes_of (plug u.part u.above)) = subst (λ s. Loses node (nodes_of s) (nodes_of (plug u.part u.above))) way.shape_is u.lost in
      let turned : Turns bytes one root shape (plug u.part u.above) = subst (λ w. Turns bytes one w shape (plug u.part u.above)) (q ∙ r) (subst (λ s. Turns bytes one last.root s (plug u.part u.above)) way.shape_is u.turned) in
      record {
        shape = plug u.part u.above;
        tree = record { is_tree = turned.hangs; red_black = u.state; few = fewer node (nodes_of shape) (nodes_of (plug u.part u.above)) lost t.few };
        nodes_are = sym (without_lost node (nodes_of shape) (nodes_of (plug u.part u.above)) a.nodes_apart lost);
        kept = turned.kept;
      }

  pub short_stands : (u : Unlinks bytes one last way.layers way.rest node Black) → StandsAt one last u.above u.part
  short_stands u =
      let lost : Loses node (nodes_of shape) (nodes_of (plug u.part u.above)) = subst (λ s. Loses node (nodes_of s) (nodes_of (plug u.part u.above))) way.shape_is u.lost in
      record {
        steps_are = u.steps_are;
        hangs = u.turned.hangs;
        apart = subst (λ w. StandApart (length one) w (nodes_of (plug u.part u.above))) (sym (q ∙ r)) (subst (λ n. StandApart n root (nodes_of (plug u.part u.above))) (sym u.turned.kept.length_kept)
            (apart_lost (length bytes) root node (nodes_of shape) (nodes_of (plug u.part u.above)) lost a));
      }

  -- a black node was removed, and the short subtree is repaired
  pub black_left : (new : List ℕ) (u : Unlinks bytes one last way.layers way.rest node Black) → Restores one new last.root (plug u.part u.above) → Leaves bytes new root (nodes_of shape) (without_node node (nodes_of shape))
  black_left new u s =
      let lost : Loses node (nodes_of shape) (nodes_of (plug u.part u.above)) = subst (λ s. Loses node (nodes_of s) (nodes_of (plug u.part u.above))) way.shape_is u.lost in
      let first : Turns bytes one root shape (plug u.part u.above) = subst (λ w. Turns bytes one w shape (plug u.part u.above)) (q ∙ r) (subst (λ s. Turns bytes one last.root s (plug u.part u.above)) way.shape_is u.turned) in
      let second : Turns one new root (plug u.part u.above) s.shape = subst (λ w. Turns one new w (plug u.part u.above) s.shape) (q ∙ r) s.turned in
      let wider : KeepsBeside one new root (nodes_of shape) = keeps-wider one new root root (nodes_of (plug u.part u.above)) (nodes_of shape)
      (λ p n h k. (h, each_lost (λ x. Separate p n x 16) node (nodes_of shape) (nodes_of (plug u.part u.above)) lost k)) second.kept in
      record {
        shape = s.shape;
        tree = record { is_tree = second.hangs; red_black = s.red_black; few = subst (λ ns. length ns < 2 ^ 32) (sym s.nodes_are) (fewer node (nodes_of shape) (nodes_of (plug u.part u.above)) lost t.few) };
        nodes_are = s.nodes_are ∙ sym (without_lost node (nodes_of shape) (nodes_of (plug u.part u.above)) a.nodes_apart lost);
        kept = keeps-trans bytes one new root (nodes_of shape) first.kept wider;
      }

-- ---- the comparison with the node at the path's end

same_number : (x y : ℕ) → eqb x y ≡ true → x ≡ y
same_number x y e = grind (arith, nat_tests)

pub not_named : (o : Option ℕ) (r : Bool) (node : ℕ) → r ≡ not (option_eq eqb o (Some node)) → r ≡ true → o ≡ Some node → ⊥
not_named o r node e t s =
    let same : eqb node node ≡ true = grind (arith, nat_tests) in
    let here : option_eq eqb o (Some node) ≡ true = ap (λ p. option_eq eqb p (Some node)) s ∙ same in
    let no : r ≡ false = e ∙ ap not here in
    cc

pub named : (o : Option ℕ) (r : Bool) (node : ℕ) → r ≡ not (option_eq eqb o (Some node)) → r ≡ false → o ≡ Some node
named None r node e f = let no : r ≡ true = e in cc
named (Some x) r node e f = go (eqb x node) refl
  where
    go : (b : Bool) → eqb x node ≡ b → Some x ≡ Some node
    go true s = ap Some (same_number x node s)
    go false s = let no : r ≡ true = e ∙ ap not s in cc
