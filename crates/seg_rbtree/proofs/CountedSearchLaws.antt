-- A search that counts the nodes it looks at, for the first node with a property that all later nodes have too.
use Rattle.std.proofs.Common.{◌≡◌, ℕ, suc, ◌+◌, ◌≤◌, Bool, true, false, List, ◌∷◌, Option, Some, None, refl, sym, ap, ◌∙◌, subst, arith}
use Rattle.std.specs.Option.{option_or}
use Rattle.seg_spec.specs.Pointer.{target}
use Rattle.seg_spec.specs.Shapes.{Tree, leaf, fork, nodes_of, IsTree}
use Rattle.seg_spec.specs.Search.{first_where, IsUpward, looks}
use Rattle.seg_rbtree.proofs.FirstNodeSearchLaws.{or_none, or_some, first_append, first_here, first_later, none_before, upward_left, upward_right}

-- The subtree at `place` remains to be searched. If `found` is a node, it is the first one so far.
-- `count` nodes were read.
pub record IsCounting (bytes : List ℕ) (is_past : ℕ → Bool) (shape : Tree) (place found : Option ℕ) (count : ℕ) : Type 0 where
  pub rest : Tree
  pub hangs : IsTree bytes place rest
  pub upward : IsUpward is_past (nodes_of rest)
  pub node_is : first_where is_past (nodes_of shape) ≡ option_or (first_where is_past (nodes_of rest)) found
  pub looks_are : looks is_past shape ≡ count + looks is_past rest

-- ---- the walk

pub counting_start : (bytes : List ℕ) (p : ℕ → Bool) (shape : Tree) (place : Option ℕ) → IsTree bytes place shape → IsUpward p (nodes_of shape) → IsCounting bytes p shape place None 0
counting_start bytes p shape place t u = record { rest = shape; hangs = t; upward = u; node_is = sym (or_none (first_where p (nodes_of shape))); looks_are = omega arith }

left : (bytes : List ℕ) (p : ℕ → Bool) (shape rest : Tree) (at : ℕ) (found : Option ℕ) (count : ℕ) → p at ≡ true → IsTree bytes (Some at) rest → IsUpward p (nodes_of rest)
    → first_where p (nodes_of shape) ≡ option_or (first_where p (nodes_of rest)) found → looks p shape ≡ count + looks p rest → IsCounting bytes p shape (target bytes at) (Some at) (count + 1)
left bytes p shape leaf at found count e t u f k = absurd t
left bytes p shape (fork l a c r) at found count e t u f k =
    let d : p a ≡ true = ap p t.0 ∙ e in
    let here : first_where p (a ∷ nodes_of r) ≡ Some at = first_here p a (nodes_of r) d ∙ ap Some t.0 in
    let way : looks p (fork l a c r) ≡ suc (looks p l) = rw d refl in
    record {
      rest = l;
      hangs = t.2;
      upward = upward_left p (nodes_of l) (a ∷ nodes_of r) u;
      node_is = f ∙ ap (λ o. option_or o found) (first_append p (nodes_of l) (a ∷ nodes_of r) ∙ ap (option_or (first_where p (nodes_of l))) here) ∙ or_some (first_where p (nodes_of l)) at found;
      looks_are = omega (arith, k, way);
    }

pub counting_left : (bytes : List ℕ) (p : ℕ → Bool) (shape : Tree) (at : ℕ) (found : Option ℕ) (count : ℕ) → p at ≡ true → IsCounting bytes p shape (Some at) found count → IsCounting bytes p shape (target bytes at) (Some at) (count + 1)
counting_left bytes p shape at found count e s = left bytes p shape s.rest at found count e s.hangs s.upward s.node_is s.looks_are

right : (bytes : List ℕ) (p : ℕ → Bool) (shape rest : Tree) (at : ℕ) (found : Option ℕ) (count : ℕ) → p at ≡ false → IsTree bytes (Some at) rest → IsUpward p (nodes_of rest)
    → first_where p (nodes_of shape) ≡ option_or (first_where p (nodes_of rest)) found → looks p shape ≡ count + looks p rest → IsCounting bytes p shape (target bytes (at + 4)) found (count + 1)
right bytes p shape leaf at found count e t u f k = absurd t
right bytes p shape (fork l a c r) at found count e t u f k =
    let d : p a ≡ false = ap p t.0 ∙ e in
    let none : first_where p (nodes_of l) ≡ None = none_before p (nodes_of l) a (nodes_of r) u d in
    let following : first_where p (a ∷ nodes_of r) ≡ first_where p (nodes_of r) = first_later p a (nodes_of r) d in
    let way : looks p (fork l a c r) ≡ suc (looks p r) = rw d refl in
    record {
      rest = r;
      hangs = t.3;
      upward = (upward_right p (nodes_of l) (a ∷ nodes_of r) u).1;
      node_is = f ∙ ap (λ o. option_or o found) (first_append p (nodes_of l) (a ∷ nodes_of r) ∙ ap (λ o. option_or o (first_where p (a ∷ nodes_of r))) none ∙ following);
      looks_are = omega (arith, k, way);
    }

pub counting_right : (bytes : List ℕ) (p : ℕ → Bool) (shape : Tree) (at : ℕ) (found : Option ℕ) (count : ℕ) → p at ≡ false → IsCounting bytes p shape (Some at) found count
    → IsCounting bytes p shape (target bytes (at + 4)) found (count + 1)
counting_right bytes p shape at found count e s = right bytes p shape s.rest at found count e s.hangs s.upward s.node_is s.looks_are

-- the result of a search, and the number of nodes that were read
pub record IsCounted (p : ℕ → Bool) (shape : Tree) (found : Option ℕ) (count : ℕ) : Type 0 where
  pub node_is : found ≡ first_where p (nodes_of shape)
  pub looks_are : count ≡ looks p shape

nothing_left : (bytes : List ℕ) (p : ℕ → Bool) (shape rest : Tree) (found : Option ℕ) (count : ℕ) → IsTree bytes None rest
    → first_where p (nodes_of shape) ≡ option_or (first_where p (nodes_of rest)) found → looks p shape ≡ count + looks p rest → IsCounted p shape found count
nothing_left bytes p shape leaf found count t f k = record { node_is = sym f; looks_are = omega arith }
nothing_left bytes p shape (fork l a c r) found count t f k = absurd t

pub counting_end : (bytes : List ℕ) (p : ℕ → Bool) (shape : Tree) (found : Option ℕ) (count : ℕ) → IsCounting bytes p shape None found count → IsCounted p shape found count
counting_end bytes p shape found count s = nothing_left bytes p shape s.rest found count s.hangs s.node_is s.looks_are

no_more : (bytes : List ℕ) (p : ℕ → Bool) (shape rest : Tree) (place found : Option ℕ) (count : ℕ) → looks p shape ≤ count
    → first_where p (nodes_of shape) ≡ option_or (first_where p (nodes_of rest)) found → looks p shape ≡ count + looks p rest → IsCounted p shape found count
no_more bytes p shape leaf place found count m f k = record { node_is = sym f; looks_are = omega arith }
no_more bytes p shape (fork l a c r) place found count m f k = absurd (omega arith)

pub counting_stop : (bytes : List ℕ) (p : ℕ → Bool) (shape : Tree) (place found : Option ℕ) (count : ℕ) → looks p shape ≤ count → IsCounting bytes p shape place found count → IsCounted p shape found count
counting_stop bytes p shape place found count m s = no_more bytes p shape s.rest place found count m s.node_is s.looks_are

-- ---- the steps of the code

pub went_left : (bytes : List ℕ) (p : ℕ → Bool) (shape : Tree) (place found next : Option ℕ) (at count : ℕ) → place ≡ Some at → p at ≡ true → next ≡ target bytes at → IsCounting bytes p shape place found count
    → IsCounting bytes p shape next (Some at) (count + 1)
went_left bytes p shape place found next at count e t n s =
    subst (λ o. IsCounting bytes p shape o (Some at) (count + 1)) (sym n) (counting_left bytes p shape at found count t (subst (λ o. IsCounting bytes p shape o found count) e s))

pub went_right : (bytes : List ℕ) (p : ℕ → Bool) (shape : Tree) (place found next : Option ℕ) (at count : ℕ) → place ≡ Some at → p at ≡ false → next ≡ target bytes (at + 4) → IsCounting bytes p shape place found count
    → IsCounting bytes p shape next found (count + 1)
went_right bytes p shape place found next at count e t n s =
    subst (λ o. IsCounting bytes p shape o found (count + 1)) (sym n) (counting_right bytes p shape at found count t (subst (λ o. IsCounting bytes p shape o found count) e s))

pub came_to_end : (bytes : List ℕ) (p : ℕ → Bool) (shape : Tree) (place found : Option ℕ) (count : ℕ) → place ≡ None → IsCounting bytes p shape place found count → IsCounted p shape found count
came_to_end bytes p shape place found count e s = counting_end bytes p shape found count (subst (λ o. IsCounting bytes p shape o found count) e s)
