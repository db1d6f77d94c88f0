-- Nodes that don't overlap.
use Rattle.std.proofs.Common.{ℕ, ◌+◌, ◌≤◌, inl, inr, List, [], ◌∷◌, ◌++◌, arith}
use Rattle.std.specs.List.{AllByRecursion}
use Rattle.seg_spec.specs.Apart.{Separate}
use Rattle.seg_spec.specs.Shapes.{Colour, Tree, nodes_of}
use Rattle.seg_spec.proofs.Values.PlaceFrameLaws.{each_left, each_right, each_weaker}
use Rattle.seg_rbtree.specs.declared.node.Side.{Side}
use Rattle.seg_rbtree.specs.declared.node.Side.TheVariants.{Left, Right}
use Rattle.seg_rbtree.specs.Nodes.{side_word, opposite}
use Rattle.seg_rbtree.specs.Ways.{Layer, branch, grow, plug, place}
use Rattle.seg_rbtree.specs.Changes.{NodesApart, StandApart}

-- a range of n bytes doesn't overlap the nodes
abbrev pub Clear : ℕ → ℕ → List ℕ → Type 0
Clear p n xs = AllByRecursion (λ q. Separate p n q 16) xs

-- no node of one list overlaps a node of the other
abbrev pub Beside : List ℕ → List ℕ → Type 0
Beside xs ys = AllByRecursion (λ x. Clear x 16 ys) xs

pub each_join : {X : Type 0} (P : X → Type 0) (xs ys : List X) → AllByRecursion P xs → AllByRecursion P ys → AllByRecursion P (xs ++ ys)
each_join P [] ys h k = k
each_join P (x ∷ xs) ys h k = (h.0, each_join P xs ys h.1 k)

pub separate-swap : (f l g m : ℕ) → Separate f l g m → Separate g m f l
separate-swap f l g m (inl h) = inr h
separate-swap f l g m (inr h) = inl h

-- if a range doesn't overlap another, neither do its parts
pub separate-part : (f l g m i k : ℕ) → f ≤ i → i + k ≤ f + l → Separate f l g m → Separate i k g m
separate-part f l g m i k low high (inl h) = inl (omega arith)
separate-part f l g m i k low high (inr h) = inr (omega arith)

pub clear-part : (p n i k : ℕ) (xs : List ℕ) → p ≤ i → i + k ≤ p + n → Clear p n xs → Clear i k xs
clear-part p n i k xs low high h = each_weaker _ _ (λ q s. separate-part p n q 16 i k low high s) xs h

-- the word of a child lies in the node
pub side_word-clear : (at : ℕ) (side : Side) (xs : List ℕ) → Clear at 16 xs → Clear (side_word at side) 4 xs
side_word-clear at Left xs h = clear-part at 16 at 4 xs (omega arith) (omega arith) h
side_word-clear at Right xs h = clear-part at 16 (at + 4) 4 xs (omega arith) (omega arith) h

pub side_word-apart : (at p n : ℕ) (side : Side) → Separate p n at 16 → Separate p n (side_word at side) 4
side_word-apart at p n Left h = separate-swap at 4 p n (separate-part at 16 p n at 4 (omega arith) (omega arith) (separate-swap p n at 16 h))
side_word-apart at p n Right h = separate-swap (at + 4) 4 p n (separate-part at 16 p n (at + 4) 4 (omega arith) (omega arith) (separate-swap p n at 16 h))

-- if a node doesn't overlap some others, they don't overlap it
pub clear-each : (at : ℕ) (xs : List ℕ) → Clear at 16 xs → AllByRecursion (λ x. Separate x 16 at 16) xs
clear-each at xs h = each_weaker _ _ (λ x s. separate-swap at 16 x 16 s) xs h

column : (x : ℕ) (xs ys : List ℕ) → AllByRecursion (λ y. Separate y 16 x 16) ys → AllByRecursion (λ y. Clear y 16 xs) ys → AllByRecursion (λ y. Clear y 16 (x ∷ xs)) ys
column x xs [] h k = tt
column x xs (y ∷ ys) h k = ((h.0, k.0), column x xs ys h.1 k.1)

pub nothing_beside : (ys : List ℕ) → Beside ys []
nothing_beside [] = tt
nothing_beside (y ∷ ys) = (tt, nothing_beside ys)

pub beside-swap : (xs ys : List ℕ) → Beside xs ys → Beside ys xs
beside-swap [] ys h = nothing_beside ys
beside-swap (x ∷ xs) ys h = column x xs ys (clear-each x ys h.0) (beside-swap xs ys h.1)

-- ---- two parts of a list

pub record ApartParts (xs ys : List ℕ) : Type 0 where
  pub left : NodesApart xs
  pub right : NodesApart ys
  pub beside : Beside xs ys

pub apart-parts : (xs ys : List ℕ) → NodesApart (xs ++ ys) → ApartParts xs ys
apart-parts [] ys h = record { left = tt; right = h; beside = tt }
apart-parts (x ∷ xs) ys h =
    let rest = apart-parts xs ys h.1 in
    record {
      left = (each_left _ xs ys h.0, rest.left);
      right = rest.right;
      beside = (each_right _ xs ys h.0, rest.beside);
    }

-- ---- a node between two parts

record Split (len word : ℕ) (xs : List ℕ) (at : ℕ) (ys : List ℕ) : Type 0 where
  fit_left : AllByRecursion (λ p. p + 16 ≤ len) xs
  fit_at : at + 16 ≤ len
  fit_right : AllByRecursion (λ p. p + 16 ≤ len) ys
  word_left : Clear word 4 xs
  word_at : Separate word 4 at 16
  word_right : Clear word 4 ys
  apart_left : NodesApart xs
  apart_right : NodesApart ys
  at_left : Clear at 16 xs
  at_right : Clear at 16 ys
  left_right : Beside xs ys

split_apart : (len word : ℕ) (xs : List ℕ) (at : ℕ) (ys : List ℕ) → StandApart len word (xs ++ at ∷ ys) → Split len word xs at ys
split_apart len word xs at ys h =
    let fit = each_right _ xs (at ∷ ys) h.nodes_fit in
    let clear = each_right _ xs (at ∷ ys) h.word_apart in
    let parts = apart-parts xs (at ∷ ys) h.nodes_apart in
    let around = beside-swap xs (at ∷ ys) parts.beside in
    record {
      fit_left = each_left _ xs (at ∷ ys) h.nodes_fit;
      fit_at = fit.0;
      fit_right = fit.1;
      word_left = each_left _ xs (at ∷ ys) h.word_apart;
      word_at = clear.0;
      word_right = clear.1;
      apart_left = parts.left;
      apart_right = parts.right.1;
      at_left = around.0;
      at_right = parts.right.0;
      left_right = beside-swap ys xs around.1;
    }

-- ---- the parts of a tree

pub record PartsApart (len word : ℕ) (side : Side) (at : ℕ) (near far : Tree) : Type 0 where
  pub node_fits : at + 16 ≤ len
  pub word_node : Separate word 4 at 16
  pub near_apart : StandApart len (side_word at side) (nodes_of near)
  pub far_apart : StandApart len (side_word at (opposite side)) (nodes_of far)
  pub node_near : Clear at 16 (nodes_of near)
  pub node_far : Clear at 16 (nodes_of far)
  pub word_near : Clear word 4 (nodes_of near)
  pub word_far : Clear word 4 (nodes_of far)
  pub far_near : Beside (nodes_of far) (nodes_of near)

pub parts-apart : (len word : ℕ) (side : Side) (at : ℕ) (colour : Colour) (near far : Tree) → StandApart len word (nodes_of (branch side at colour near far)) → PartsApart len word side at near far
parts-apart len word Left at colour near far h =
    let s = split_apart len word (nodes_of near) at (nodes_of far) h in
    record {
      node_fits = s.fit_at;
      word_node = s.word_at;
      near_apart = record { small = h.small; word_fits = omega (arith, s.fit_at); nodes_fit = s.fit_left; word_apart = side_word-clear at Left _ s.at_left; nodes_apart = s.apart_left };
      far_apart = record { small = h.small; word_fits = omega (arith, s.fit_at); nodes_fit = s.fit_right; word_apart = side_word-clear at Right _ s.at_right; nodes_apart = s.apart_right };
      node_near = s.at_left;
      node_far = s.at_right;
      word_near = s.word_left;
      word_far = s.word_right;
      far_near = beside-swap (nodes_of near) (nodes_of far) s.left_right;
    }
parts-apart len word Right at colour near far h =
    let s = split_apart len word (nodes_of far) at (nodes_of near) h in
    record {
      node_fits = s.fit_at;
      word_node = s.word_at;
      near_apart = record { small = h.small; word_fits = omega (arith, s.fit_at); nodes_fit = s.fit_right; word_apart = side_word-clear at Right _ s.at_right; nodes_apart = s.apart_right };
      far_apart = record { small = h.small; word_fits = omega (arith, s.fit_at); nodes_fit = s.fit_left; word_apart = side_word-clear at Left _ s.at_left; nodes_apart = s.apart_left };
      node_near = s.at_right;
      node_far = s.at_left;
      word_near = s.word_right;
      word_far = s.word_left;
      far_near = s.left_right;
    }

-- the nodes of the subtree at a place don't overlap the place's pointer word
pub apart-down : (len root : ℕ) (tree : Tree) (layers : List Layer) → StandApart len root (nodes_of (plug tree layers)) → StandApart len (place root layers) (nodes_of tree)
apart-down len root tree [] h = h
apart-down len root tree (layer ∷ layers) h =
    (parts-apart len (place root layers) layer.side layer.at layer.colour tree layer.other (apart-down len root (grow layer tree) layers h)).near_apart
