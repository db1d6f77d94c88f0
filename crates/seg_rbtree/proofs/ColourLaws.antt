-- The rules of colours for a whole tree and at a place in it.
use Rattle.std.proofs.Common.{◌≡◌, ℕ, suc, ◌⊎◌, inl, inr, List, [], ◌∷◌, refl, subst}
use Rattle.seg_spec.specs.Shapes.{Colour, black, red, Tree, IsBlack, IsBalanced, IsRedBlack}
use Rattle.seg_rbtree.specs.declared.node.Side.{Side}
use Rattle.seg_rbtree.specs.declared.node.Side.TheVariants.{Left, Right}
use Rattle.seg_rbtree.specs.Ways.{Layer, branch, grow, plug}
use Rattle.seg_rbtree.specs.Balance.{IsBelowBlack, Wants}

-- ---- one node

pub black-branch : (side : Side) (at : ℕ) (near far : Tree) → IsBlack (branch side at black near far)
black-branch Left at near far = tt
black-branch Right at near far = tt

pub red-branch : (side : Side) (at : ℕ) (near far : Tree) → IsBlack (branch side at red near far) → ⊥
red-branch Left at near far h = h
red-branch Right at near far h = h

pub balanced-black : (side : Side) (at : ℕ) (near far : Tree) (h : ℕ) → IsBalanced near h → IsBalanced far h → IsBalanced (branch side at black near far) (suc h)
balanced-black Left at near far h n f = (h, refl, n, f)
balanced-black Right at near far h n f = (h, refl, f, n)

pub balanced-red : (side : Side) (at : ℕ) (near far : Tree) (h : ℕ) → IsBlack near → IsBlack far → IsBalanced near h → IsBalanced far h → IsBalanced (branch side at red near far) h
balanced-red Left at near far h bn bf n f = (bn, bf, n, f)
balanced-red Right at near far h bn bf n f = (bf, bn, f, n)

-- a black node with two balanced subtrees
pub record BlackParts (near far : Tree) (height : ℕ) : Type 0 where
  pub below : ℕ
  pub height_is : height ≡ suc below
  pub near_balanced : IsBalanced near below
  pub far_balanced : IsBalanced far below

pub black-parts : (side : Side) (at : ℕ) (near far : Tree) (h : ℕ) → IsBalanced (branch side at black near far) h → BlackParts near far h
black-parts Left at near far h b = record { below = b.0; height_is = b.1; near_balanced = b.2; far_balanced = b.3 }
black-parts Right at near far h b = record { below = b.0; height_is = b.1; near_balanced = b.3; far_balanced = b.2 }

-- a red node with two balanced subtrees, whose roots are black
pub record RedParts (near far : Tree) (height : ℕ) : Type 0 where
  pub near_black : IsBlack near
  pub far_black : IsBlack far
  pub near_balanced : IsBalanced near height
  pub far_balanced : IsBalanced far height

pub red-parts : (side : Side) (at : ℕ) (near far : Tree) (h : ℕ) → IsBalanced (branch side at red near far) h → RedParts near far h
red-parts Left at near far h b = record { near_black = b.0; far_black = b.1; near_balanced = b.2; far_balanced = b.3 }
red-parts Right at near far h b = record { near_black = b.1; far_black = b.0; near_balanced = b.3; far_balanced = b.2 }

-- ---- a place

-- the subtree at a place is balanced and has the right height, and no red node is below a red one
pub record IsBalancedAt (tree : Tree) (layers : List Layer) : Type 0 where
  pub height : ℕ
  pub balanced : IsBalanced tree height
  pub wants : Wants layers height
  pub top : IsBlack tree ⊎ IsBelowBlack layers

unplug_step : (side : Side) (at : ℕ) (colour : Colour) (tree other : Tree) (layers : List Layer) → IsBalancedAt (branch side at colour tree other) layers
    → IsBalancedAt tree (record { side = side; at = at; colour = colour; other = other } ∷ layers)
unplug_step side at black tree other layers h =
    let p = black-parts side at tree other h.height h.balanced in
    record {
      height = p.below;
      balanced = p.near_balanced;
      wants = (p.far_balanced, subst (Wants layers) p.height_is h.wants);
      top = inr refl;
    }
unplug_step side at red tree other layers h =
    let p = red-parts side at tree other h.height h.balanced in
    record {
      height = h.height;
      balanced = p.near_balanced;
      wants = ((p.far_black, p.far_balanced, below h.top), h.wants);
      top = inl p.near_black;
    }
  where
    below : IsBlack (branch side at red tree other) ⊎ IsBelowBlack layers → IsBelowBlack layers
    below (inl b) = absurd (red-branch side at tree other b)
    below (inr b) = b

pub balanced-down : (tree : Tree) (layers : List Layer) → IsRedBlack (plug tree layers) → IsBalancedAt tree layers
balanced-down tree [] r = record { height = r.height; balanced = r.balanced; wants = tt; top = inl r.root }
balanced-down tree (layer ∷ layers) r =
    unplug_step layer.side layer.at layer.colour tree layer.other layers (balanced-down (grow layer tree) layers r)

plug_step : (side : Side) (at : ℕ) (colour : Colour) (tree other : Tree) (layers : List Layer) → IsBalancedAt tree (record { side = side; at = at; colour = colour; other = other } ∷ layers)
    → IsBalancedAt (branch side at colour tree other) layers
plug_step side at black tree other layers h = record {
  height = suc h.height;
  balanced = balanced-black side at tree other h.height h.balanced h.wants.0;
  wants = h.wants.1;
  top = inl (black-branch side at tree other);
}
plug_step side at red tree other layers h = record {
  height = h.height;
  balanced = balanced-red side at tree other h.height (black_near h.top) h.wants.0.0 h.balanced h.wants.0.1;
  wants = h.wants.1;
  top = inr h.wants.0.2;
}
  where
    black_near : IsBlack tree ⊎ (red ≡ black) → IsBlack tree
    black_near (inl b) = b
    black_near (inr e) = absurd (cc)

pub balanced-up : (tree : Tree) (layers : List Layer) → IsBalancedAt tree layers → IsRedBlack (plug tree layers)
balanced-up tree [] h = record { root = top h.top; height = h.height; balanced = h.balanced }
  where
    top : IsBlack tree ⊎ ⊥ → IsBlack tree
    top (inl b) = b
    top (inr e) = absurd e
balanced-up tree (layer ∷ layers) h =
    balanced-up (grow layer tree) layers (plug_step layer.side layer.at layer.colour tree layer.other layers h)
