-- A search in a tree for the node that equals a key, if at most one does.
use Rattle.std.proofs.Common.{◌≡◌, ℕ, ◌+◌, ◌≤◌, List, [], ◌∷◌, length, Option, Some, None, refl, sym, ap, ◌∙◌, subst, arith}
use Rattle.std.specs.Ordering.{is_eq, ordering_reverse}
use Rattle.std.specs.declared.cmp.Ordering.{Ordering}
use Rattle.std.specs.declared.cmp.Ordering.TheVariants.{Less, Equal}
use Rattle.seg_spec.specs.Pointer.{target}
use Rattle.seg_spec.specs.Shapes.{Tree, leaf, fork, nodes_of, IsTree}
use Rattle.seg_spec.specs.Search.{rank_of, Ascend, first_where, IsSearchTree}
use Rattle.seg_rbtree.specs.declared.node.Side.{Side}
use Rattle.seg_rbtree.specs.declared.node.Side.TheVariants.{Left, Right}
use Rattle.seg_rbtree.specs.Nodes.{side_word}
use Rattle.seg_rbtree.specs.Ways.{Layer, plug, turn_of, LeadBy, EndsAt}
use Rattle.seg_rbtree.specs.Paths.{FindsEqual}
use Rattle.seg_rbtree.proofs.Depth.{tall, deep-64, layers-deep}
use Rattle.seg_rbtree.proofs.Paths.{at_end, finds_first}

-- after some steps the subtree at a place remains to be searched
pub record IsSeeking (bytes : List ℕ) (turn : ℕ → Ordering) (shape : Tree) (place : Option ℕ) (count : ℕ) : Type 0 where
  pub layers : List Layer
  pub rest : Tree
  pub shape_is : plug rest layers ≡ shape
  pub hangs : IsTree bytes place rest
  pub leads : LeadBy turn layers
  pub count_is : length layers ≡ count

module _ (bytes : List ℕ) (turn : ℕ → Ordering) (shape : Tree) where
  pub seeking_start : (root : ℕ) (place : Option ℕ) → place ≡ target bytes root → IsTree bytes (target bytes root) shape → IsSeeking bytes turn shape place 0
  seeking_start root place e t = record { layers = []; rest = shape; shape_is = refl; hangs = subst (λ p. IsTree bytes p shape) (sym e) t; leads = tt; count_is = refl }

  step_on : (layers : List Layer) (rest : Tree) (at count : ℕ) (side : Side) → plug rest layers ≡ shape → IsTree bytes (Some at) rest → LeadBy turn layers → length layers ≡ count → turn at ≡ turn_of side
      → IsSeeking bytes turn shape (target bytes (side_word at side)) (count + 1)
  step_on layers leaf at count side e t l k o = absurd t
  step_on layers (fork left a colour right) at count Left e t l k o = record {
    layers = record { side = Left; at = a; colour = colour; other = right } ∷ layers;
    rest = left;
    shape_is = e;
    hangs = t.2;
    leads = (ap turn t.0 ∙ o, l);
    count_is = omega arith;
  }
  step_on layers (fork left a colour right) at count Right e t l k o = record {
    layers = record { side = Right; at = a; colour = colour; other = left } ∷ layers;
    rest = right;
    shape_is = e;
    hangs = t.3;
    leads = (ap turn t.0 ∙ o, l);
    count_is = omega arith;
  }

  pub sought_on : (place next : Option ℕ) (at count : ℕ) (side : Side) → place ≡ Some at → next ≡ target bytes (side_word at side) → turn at ≡ turn_of side → IsSeeking bytes turn shape place count
      → IsSeeking bytes turn shape next (count + 1)
  sought_on place next at count side e n o s =
      subst (λ p. IsSeeking bytes turn shape p (count + 1)) (sym n) (step_on s.layers s.rest at count side s.shape_is (subst (λ p. IsTree bytes p s.rest) e s.hangs) s.leads s.count_is o)

  -- ---- the end of a search

  ends_empty : (rest : Tree) → IsTree bytes None rest → EndsAt turn rest
  ends_empty leaf t = tt
  ends_empty (fork left a colour right) t = absurd t

  ends_equal : (rest : Tree) (at : ℕ) → IsTree bytes (Some at) rest → turn at ≡ Equal → EndsAt turn rest
  ends_equal leaf at t e = tt
  ends_equal (fork left a colour right) at t e = ap turn t.0 ∙ e

  nothing_there : (rest : Tree) (place : Option ℕ) → IsTree bytes place rest → tall rest ≡ 0 → place ≡ None
  nothing_there leaf None t e = refl
  nothing_there leaf (Some at) t e = absurd t
  nothing_there (fork left a colour right) place t e = absurd (omega arith)

  -- after 64 steps nothing remains to be searched
  pub sought_all : (root : ℕ) (place : Option ℕ) (count : ℕ) → 64 ≤ count → IsSearchTree bytes root shape → IsSeeking bytes turn shape place count → place ≡ None
  sought_all root place count full t s =
      let deep : length s.layers + tall s.rest ≤ tall shape = subst (λ x. length s.layers + tall s.rest ≤ tall x) s.shape_is (layers-deep s.rest s.layers) in
      nothing_there s.rest place s.hangs (omega (arith, deep-64 shape t.red_black t.few, s.count_is))

-- ---- the result of a search

module _ (compare : ℕ → Ordering) (order : ℕ → ℕ → Ordering) (keyed : (x y : ℕ) → order x y ≡ Less → rank_of (compare x) ≤ rank_of (compare y)) (one : (x y : ℕ) → compare x ≡ Equal → compare y ≡ Equal → order x y ≡ Equal) where
  abbrev turn_to : ℕ → Ordering
  turn_to x = ordering_reverse (compare x)

  ended : (bytes : List ℕ) (shape : Tree) (place : Option ℕ) (count : ℕ) → Ascend order (nodes_of shape) → (s : IsSeeking bytes turn_to shape place count) → EndsAt turn_to s.rest
      → place ≡ first_where (λ x. is_eq (compare x)) (nodes_of shape)
  ended bytes shape place count a s e =
      finds_first compare order one (nodes_of shape) place a
      (subst (λ t. FindsEqual compare (nodes_of t) place) s.shape_is
      (at_end compare order keyed bytes place s.layers s.rest s.hangs e s.leads (subst (λ t. Ascend order (nodes_of t)) (sym s.shape_is) a)))

  pub sought_nothing : (bytes : List ℕ) (shape : Tree) (place : Option ℕ) (count : ℕ) → place ≡ None → Ascend order (nodes_of shape) → IsSeeking bytes turn_to shape place count
      → None ≡ first_where (λ x. is_eq (compare x)) (nodes_of shape)
  sought_nothing bytes shape place count e a s = sym e ∙ ended bytes shape place count a s (ends_empty bytes turn_to shape s.rest (subst (λ p. IsTree bytes p s.rest) e s.hangs))

  pub sought_node : (bytes : List ℕ) (shape : Tree) (place : Option ℕ) (at count : ℕ) → place ≡ Some at → compare at ≡ Equal → Ascend order (nodes_of shape) → IsSeeking bytes turn_to shape place count
      → Some at ≡ first_where (λ x. is_eq (compare x)) (nodes_of shape)
  sought_node bytes shape place at count e f a s =
      sym e ∙ ended bytes shape place count a s (ends_equal bytes turn_to shape s.rest at (subst (λ p. IsTree bytes p s.rest) e s.hangs) (ap ordering_reverse f))
