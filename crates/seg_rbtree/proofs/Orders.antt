-- The nodes of a tree with one node more, in order.
use Rattle.std.proofs.Common.{◌≡◌, ℕ, suc, ◌+◌, ◌≤◌, Bool, true, false, List, [], ◌∷◌, ◌++◌, length, refl, sym, ap, ◌∙◌, subst}
use Rattle.std.specs.Cmp.{IsTotalOrder}
use Rattle.std.specs.Ordering.{is_lt, ordering_reverse}
use Rattle.std.specs.List.{AllByRecursion}
use Rattle.std.specs.declared.cmp.Ordering.{Ordering}
use Rattle.std.specs.declared.cmp.Ordering.TheVariants.{Less, Greater}
use Rattle.seg_spec.specs.Shapes.{Tree, nodes_of}
use Rattle.seg_spec.specs.Search.{Ascend}
use Rattle.seg_spec.specs.Apart.{Separate}
use Rattle.seg_spec.proofs.Values.PlaceFrameLaws.{each_left, each_right, each_weaker}
use Rattle.seg_rbtree.specs.declared.node.Side.{Side}
use Rattle.seg_rbtree.specs.declared.node.Side.TheVariants.{Left, Right}
use Rattle.seg_rbtree.specs.Ways.{Layer, branch, grow, plug, turn_of, LeadBy}
use Rattle.seg_rbtree.specs.Changes.{NodesApart, StandApart, with_node}
use Rattle.seg_rbtree.proofs.Apartness.{separate-swap}

-- ---- parts of lists in order

pub record AscendParts (order : ℕ → ℕ → Ordering) (xs : List ℕ) (at : ℕ) (ys : List ℕ) : Type 0 where
  pub left : Ascend order xs
  pub before : AllByRecursion (λ x. order x at ≡ Less) xs
  pub following : AllByRecursion (λ y. order at y ≡ Less) ys
  pub right : Ascend order ys

pub ascend-parts : (order : ℕ → ℕ → Ordering) (xs : List ℕ) (at : ℕ) (ys : List ℕ) → Ascend order (xs ++ at ∷ ys) → AscendParts order xs at ys
ascend-parts order [] at ys a = record { left = tt; before = tt; following = a.0; right = a.1 }
ascend-parts order (x ∷ xs) at ys a =
    let rest = ascend-parts order xs at ys a.1 in
    record {
      left = (each_left _ xs (at ∷ ys) a.0, rest.left);
      before = ((each_right _ xs (at ∷ ys) a.0).0, rest.before);
      following = rest.following;
      right = rest.right;
    }

-- the nodes of a subtree are in order
pub ascend-down : (order : ℕ → ℕ → Ordering) (tree : Tree) (layers : List Layer) → Ascend order (nodes_of (plug tree layers)) → Ascend order (nodes_of tree)
ascend-down order tree [] a = a
ascend-down order tree (layer ∷ layers) a = go layer.side (ascend-down order (grow layer tree) layers a)
  where
    go : (side : Side) → Ascend order (nodes_of (branch side layer.at layer.colour tree layer.other)) → Ascend order (nodes_of tree)
    go Left h = (ascend-parts order (nodes_of tree) layer.at (nodes_of layer.other) h).left
    go Right h = (ascend-parts order (nodes_of layer.other) layer.at (nodes_of tree) h).right

-- ---- one node more

module _ (order : ℕ → ℕ → Ordering) (node : ℕ) where
  less : (x : ℕ) → order node x ≡ Less → is_lt (order node x) ≡ true
  less x e = ap is_lt e

  not_less : (x : ℕ) → order node x ≡ Greater → is_lt (order node x) ≡ false
  not_less x e = ap is_lt e

  here : (x : ℕ) (xs : List ℕ) → is_lt (order node x) ≡ true → with_node order node (x ∷ xs) ≡ node ∷ x ∷ xs
  here x xs e = rw e refl

  later : (x : ℕ) (xs : List ℕ) → is_lt (order node x) ≡ false → with_node order node (x ∷ xs) ≡ x ∷ with_node order node xs
  later x xs e = rw e refl

  pub with_node-left : (xs : List ℕ) (at : ℕ) (ys : List ℕ) → order node at ≡ Less → with_node order node (xs ++ at ∷ ys) ≡ with_node order node xs ++ at ∷ ys
  with_node-left [] at ys e = here at ys (less at e)
  with_node-left (x ∷ xs) at ys e = go (is_lt (order node x)) refl (with_node-left xs at ys e)
    where
      go : (b : Bool) → is_lt (order node x) ≡ b → with_node order node (xs ++ at ∷ ys) ≡ with_node order node xs ++ at ∷ ys → with_node order node (x ∷ xs ++ at ∷ ys) ≡ with_node order node (x ∷ xs) ++ at ∷ ys
      go true d h = here x (xs ++ at ∷ ys) d ∙ ap (λ zs. zs ++ at ∷ ys) (sym (here x xs d))
      go false d h = later x (xs ++ at ∷ ys) d ∙ ap (λ zs. x ∷ zs) h ∙ ap (λ zs. zs ++ at ∷ ys) (sym (later x xs d))

  pub with_node-right : (xs : List ℕ) (at : ℕ) (ys : List ℕ) → AllByRecursion (λ x. order node x ≡ Greater) xs → order node at ≡ Greater → with_node order node (xs ++ at ∷ ys) ≡ xs ++ at ∷ with_node order node ys
  with_node-right [] at ys h e = later at ys (not_less at e)
  with_node-right (x ∷ xs) at ys h e = later x (xs ++ at ∷ ys) (not_less x h.0) ∙ ap (λ zs. x ∷ zs) (with_node-right xs at ys h.1 e)

  -- ---- a fact about each node, including the new one

  pub each_with : (P : ℕ → Type 0) (ns : List ℕ) → P node → AllByRecursion P ns → AllByRecursion P (with_node order node ns)
  each_with P [] p h = (p, tt)
  each_with P (x ∷ ns) p h = go (is_lt (order node x)) refl (each_with P ns p h.1)
    where
      go : (b : Bool) → is_lt (order node x) ≡ b → AllByRecursion P (with_node order node ns) → AllByRecursion P (with_node order node (x ∷ ns))
      go true e k = subst (AllByRecursion P) (sym (here x ns e)) (p, h)
      go false e k = subst (AllByRecursion P) (sym (later x ns e)) (h.0, k)

  apart_with : (ns : List ℕ) → NodesApart (node ∷ ns) → NodesApart (with_node order node ns)
  apart_with [] h = h
  apart_with (x ∷ ns) h = go (is_lt (order node x)) refl (apart_with ns (h.0.1, h.1.1))
    where
      go : (b : Bool) → is_lt (order node x) ≡ b → NodesApart (with_node order node ns) → NodesApart (with_node order node (x ∷ ns))
      go true e k = subst NodesApart (sym (here x ns e)) h
      go false e k = subst NodesApart (sym (later x ns e)) (each_with (λ y. Separate x 16 y 16) ns (separate-swap node 16 x 16 h.0.0) h.1.0, k)

  -- the nodes and the new one don't overlap, in any order
  pub apart-with_node : (len root : ℕ) (ns : List ℕ) → StandApart len root (node ∷ ns) → StandApart len root (with_node order node ns)
  apart-with_node len root ns h = record {
    small = h.small;
    word_fits = h.word_fits;
    nodes_fit = each_with (λ p. p + 16 ≤ len) ns h.nodes_fit.0 h.nodes_fit.1;
    word_apart = each_with (λ p. Separate root 4 p 16) ns h.word_apart.0 h.word_apart.1;
    nodes_apart = apart_with ns h.nodes_apart;
  }

  pub length-with_node : (ns : List ℕ) → length (with_node order node ns) ≡ suc (length ns)
  length-with_node [] = refl
  length-with_node (x ∷ ns) = go (is_lt (order node x)) refl (length-with_node ns)
    where
      go : (b : Bool) → is_lt (order node x) ≡ b → length (with_node order node ns) ≡ suc (length ns) → length (with_node order node (x ∷ ns)) ≡ suc (length (x ∷ ns))
      go true e h = ap length (here x ns e)
      go false e h = ap length (later x ns e) ∙ ap suc h

  -- ---- in a total order

  module _ (total : IsTotalOrder order) where
    back : (x y : ℕ) → order x y ≡ Greater → order y x ≡ Less
    back x y e = total.antisymm y x ∙ ap ordering_reverse e

    forth : (x y : ℕ) → order x y ≡ Less → order y x ≡ Greater
    forth x y e = total.antisymm y x ∙ ap ordering_reverse e

    -- nodes before a node that is below the new one are below the new one
    below_all : (at : ℕ) (xs : List ℕ) → order node at ≡ Greater → AllByRecursion (λ x. order x at ≡ Less) xs → AllByRecursion (λ x. order node x ≡ Greater) xs
    below_all at xs e h = each_weaker _ _ (λ x l. forth x node (total.trans x at node l (back node at e))) xs h

    grown : (side : Side) (layer : Layer) (x t : Tree) → order node layer.at ≡ turn_of side → Ascend order (nodes_of (branch side layer.at layer.colour t layer.other)) → nodes_of x ≡ with_node order node (nodes_of t)
        → nodes_of (branch side layer.at layer.colour x layer.other) ≡ with_node order node (nodes_of (branch side layer.at layer.colour t layer.other))
    grown Left layer x t e a h = ap (λ ns. ns ++ layer.at ∷ nodes_of layer.other) h ∙ sym (with_node-left (nodes_of t) layer.at (nodes_of layer.other) e)
    grown Right layer x t e a h =
        let parts = ascend-parts order (nodes_of layer.other) layer.at (nodes_of t) a in
        ap (λ ns. nodes_of layer.other ++ layer.at ∷ ns) h ∙ sym (with_node-right (nodes_of layer.other) layer.at (nodes_of t) (below_all layer.at (nodes_of layer.other) e parts.before) e)

    -- If a node is added at its place in the order, the list of all nodes has the node at its
    -- place.
    pub nodes-added : (x t : Tree) (layers : List Layer) → LeadBy (order node) layers → Ascend order (nodes_of (plug t layers)) → nodes_of x ≡ with_node order node (nodes_of t)
        → nodes_of (plug x layers) ≡ with_node order node (nodes_of (plug t layers))
    nodes-added x t [] l a h = h
    nodes-added x t (layer ∷ layers) l a h =
        nodes-added (grow layer x) (grow layer t) layers l.1 a (grown layer.side layer x t l.0 (ascend-down order (grow layer t) layers a) h)

-- ---- one node less
