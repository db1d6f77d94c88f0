-- A node with at most one child is unlinked. A node with two children is replaced by the next in
-- order.
use Rattle.std.proofs.Common.{◌≡◌, ℕ, suc, ◌+◌, ◌^◌, ◌<◌, ◌⊎◌, inl, inr, List, [], ◌∷◌, ◌++◌, length, refl, sym, ap, ◌∙◌, subst, arith, append_assoc}
use Rattle.std.proofs.lemmas.List.{append-nil}
use Rattle.seg_spec.specs.Shapes.{Colour, black, red, Tree, leaf, fork, nodes_of, IsBlack, IsRedBlack}
use Rattle.seg_rbtree.specs.declared.node.Side.{Side}
use Rattle.seg_rbtree.specs.declared.node.Side.TheVariants.{Left, Right}
use Rattle.seg_rbtree.specs.Ways.{Layer, branch, plug, nodes_before, nodes_after, before, following}
use Rattle.seg_rbtree.specs.Balance.{IsBelowBlack, height_above, SideFits, Wants}
use Rattle.seg_rbtree.specs.Removing.{blacks, IsShort, AreLeft, Loses}
use Rattle.seg_rbtree.proofs.ColourLaws.{black-parts, red-parts, balanced-down, balanced-up}
use Rattle.seg_rbtree.proofs.ShortSide.{balanced_nearly, whole_low}

-- ---- nodes around a place

nodes_fork : (side : Side) (inner outer : Tree) (at : ℕ) (colour : Colour) → nodes_of (branch side at colour inner outer) ≡ nodes_before side outer at ++ (nodes_of inner ++ nodes_after side outer at)
unfolding nodes_before nodes_after
nodes_fork Left inner outer at colour = refl
nodes_fork Right inner outer at colour = simp (append_assoc, append-nil)

five : (a b c d e : List ℕ) → a ++ ((b ++ (c ++ d)) ++ e) ≡ (a ++ b) ++ (c ++ (d ++ e))
five a b c d e = simp append_assoc

pub nodes_plug : (layers : List Layer) (tree : Tree) → nodes_of (plug tree layers) ≡ before layers ++ (nodes_of tree ++ following layers)
unfolding before following
nodes_plug [] tree = sym (append-nil (nodes_of tree))
nodes_plug (l ∷ ls) tree =
    nodes_plug ls (branch l.side l.at l.colour tree l.other)
    ∙ ap (λ ns. before ls ++ (ns ++ following ls)) (nodes_fork l.side tree l.other l.at l.colour)
    ∙ five (before ls) (nodes_before l.side l.other l.at) (nodes_of tree) (nodes_after l.side l.other l.at) (following ls)

-- the far subtree is replaced by a subtree with the same nodes
pub outer_nodes : (side : Side) (inner outer other : Tree) (at : ℕ) (colour : Colour) → nodes_of outer ≡ nodes_of other → nodes_of (branch side at colour inner outer) ≡ nodes_of (branch side at colour inner other)
outer_nodes Left inner outer other at colour e = ap (λ ns. nodes_of inner ++ at ∷ ns) e
outer_nodes Right inner outer other at colour e = ap (λ ns. ns ++ at ∷ nodes_of inner) e

-- ---- a node with at most one child

pub lone_lost : (layers : List Layer) (side : Side) (only : Tree) (node : ℕ) (colour : Colour) → Loses node (nodes_of (plug (branch side node colour leaf only) layers)) (nodes_of (plug only layers))
lone_lost layers Left only node colour = record {
  front = before layers;
  back = nodes_of only ++ following layers;
  old_is = nodes_plug layers (fork leaf node colour only);
  new_is = nodes_plug layers only;
}
lone_lost layers Right only node colour = record {
  front = before layers ++ nodes_of only;
  back = following layers;
  old_is = nodes_plug layers (fork only node colour leaf) ∙ simp append_assoc;
  new_is = nodes_plug layers only ∙ sym (append_assoc (before layers) (nodes_of only) (following layers));
}

-- the node is red: the rest is a red-black tree
pub red_unlinked : (layers : List Layer) (side : Side) (only : Tree) (node : ℕ) → IsRedBlack (plug (branch side node red leaf only) layers) → IsRedBlack (plug only layers)
red_unlinked layers side only node r =
    let w = balanced-down (branch side node red leaf only) layers r in
    let f = red-parts side node leaf only w.height w.balanced in
    balanced-up only layers (record { height = w.height; balanced = f.far_balanced; wants = w.wants; top = inl f.far_black })

-- the node is black: the rest is short
pub black_unlinked : (layers : List Layer) (side : Side) (only : Tree) (node : ℕ) → IsRedBlack (plug (branch side node black leaf only) layers) → length (nodes_of (plug (branch side node black leaf only) layers)) < 2 ^ 32
    → IsShort layers only
black_unlinked layers side only node r few =
    let w = balanced-down (branch side node black leaf only) layers r in
    let f = black-parts side node leaf only w.height w.balanced in
    record { height = f.below; wanted = subst (λ h. Wants layers h) f.height_is w.wants; nearly = balanced_nearly only f.below f.far_balanced; low = omega (arith, f.height_is, whole_low layers (branch side node black leaf only) w few) }

-- ---- a node with two children

module _ (node next : ℕ) (colour : Colour) (side : Side) (other : Tree) (layers : List Layer) where
  abbrev pub around : ℕ → List Layer
  around at = record { side = side; at = at; colour = colour; other = other } ∷ layers

  below_black : (lower : List Layer) → IsBelowBlack (lower ++ around node) → IsBelowBlack (lower ++ around next)
  below_black [] t = t
  below_black (l ∷ ls) t = t

  side_renamed : (lower : List Layer) (c : Colour) (beside : Tree) (h : ℕ) → SideFits c beside (lower ++ around node) h → SideFits c beside (lower ++ around next) h
  side_renamed lower black beside h s = s
  side_renamed lower red beside h s = (s.0, s.1, below_black lower s.2)

  -- the black height that a place needs doesn't depend on which nodes are above it
  renamed_wants : (lower : List Layer) (h : ℕ) → Wants (lower ++ around node) h → Wants (lower ++ around next) h
  renamed_wants [] h w = w
  renamed_wants (l ∷ ls) h w = (side_renamed ls l.colour l.other h w.0, renamed_wants ls (height_above l.colour h) w.1)

  renamed_blacks : (lower : List Layer) → blacks (lower ++ around node) ≡ blacks (lower ++ around next)
  renamed_blacks [] = refl
  renamed_blacks (l ∷ ls) = ap (height_above l.colour) (renamed_blacks ls)

  renamed_top : (lower : List Layer) (tree : Tree) → IsBlack tree ⊎ IsBelowBlack (lower ++ around node) → IsBlack tree ⊎ IsBelowBlack (lower ++ around next)
  renamed_top lower tree (inl b) = inl b
  renamed_top lower tree (inr b) = inr (below_black lower b)

  pub renamed_whole : (lower : List Layer) (tree : Tree) → IsRedBlack (plug tree (lower ++ around node)) → IsRedBlack (plug tree (lower ++ around next))
  renamed_whole lower tree r =
      let w = balanced-down tree (lower ++ around node) r in
      balanced-up tree (lower ++ around next) (record { height = w.height; balanced = w.balanced; wants = renamed_wants lower w.height w.wants; top = renamed_top lower tree w.top })

  pub renamed_short : (lower : List Layer) (tree : Tree) → IsShort (lower ++ around node) tree → IsShort (lower ++ around next) tree
  renamed_short lower tree s = record { height = s.height; wanted = renamed_wants lower (suc s.height) s.wanted; nearly = s.nearly; low = subst (λ n. n + s.height < 32) (renamed_blacks lower) s.low }

module _ (colour : Colour) (other : Tree) (layers : List Layer) where
  abbrev right_of : ℕ → List Layer
  right_of at = record { side = Right; at = at; colour = colour; other = other } ∷ layers

  before_next : (lower : List Layer) (at : ℕ) → AreLeft lower → before (lower ++ right_of at) ≡ before layers ++ (nodes_of other ++ at ∷ [])
  unfolding before nodes_before
  before_next [] at a = refl
  before_next (l ∷ ls) at a = ap (λ s. before (ls ++ right_of at) ++ nodes_before s l.other l.at) a.0 ∙ append-nil (before (ls ++ right_of at)) ∙ before_next ls at a.1

  after_next : (lower : List Layer) (x y : ℕ) → following (lower ++ right_of x) ≡ following (lower ++ right_of y)
  unfolding following nodes_after
  after_next [] x y = refl
  after_next (l ∷ ls) x y = ap (λ ns. nodes_after l.side l.other l.at ++ ns) (after_next ls x y)

  -- the next node takes the place of the node
  pub next_lost : (lower : List Layer) (node next : ℕ) (tint : Colour) (only : Tree) → AreLeft lower
      → Loses node (nodes_of (plug (fork leaf next tint only) (lower ++ right_of node))) (nodes_of (plug only (lower ++ right_of next)))
  next_lost lower node next tint only a =
      let rest = following (lower ++ right_of node) in
      record {
        front = before layers ++ nodes_of other;
        back = next ∷ nodes_of only ++ rest;
        old_is = nodes_plug (lower ++ right_of node) (fork leaf next tint only) ∙ ap (λ xs. xs ++ (next ∷ nodes_of only ++ rest)) (before_next lower node a) ∙ simp append_assoc;
        new_is = nodes_plug (lower ++ right_of next) only ∙ ap (λ xs. xs ++ (nodes_of only ++ following (lower ++ right_of next))) (before_next lower next a)
            ∙ ap (λ ys. (before layers ++ (nodes_of other ++ next ∷ [])) ++ (nodes_of only ++ ys)) (after_next lower next node) ∙ simp append_assoc;
      }
