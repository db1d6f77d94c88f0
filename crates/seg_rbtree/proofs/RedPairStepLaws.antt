-- One step of the repair of a red node below a red node.
use Rattle.std.proofs.Common.{◌≡◌, ℕ, suc, ◌+◌, inr, cond, eqb, List, [], ◌∷◌, ◌++◌, length, Some, None, refl, sym, ap, ◌∙◌, subst, length-append, arith}
use Rattle.seg_spec.specs.Bytes.{word}
use Rattle.seg_spec.specs.Pointer.{target}
use Rattle.seg_spec.specs.Shapes
use Rattle.seg_spec.specs.Shapes.{black, red, Tree, leaf, fork, nodes_of, HasColour, IsTree, IsBlack, IsBalanced, IsRedBlack}
use Rattle.seg_rbtree.specs.declared.node.Side.{Side}
use Rattle.seg_rbtree.specs.declared.node.Side.TheVariants.{Left}
use Rattle.seg_rbtree.specs.declared.node.Colour.TheVariants.{Black, Red}
use Rattle.seg_rbtree.specs.declared.step.Step.{Step}
use Rattle.seg_rbtree.specs.Nodes.{colour_at, with_colour}
use Rattle.seg_rbtree.specs.Ways.{Layer, branch, grow, plug, place, step_of, steps_of}
use Rattle.seg_rbtree.specs.Changes.{StandApart, KeepsBeside}
use Rattle.seg_rbtree.specs.Turns.{Turns}
use Rattle.seg_rbtree.specs.Balance.{IsBelowBlack, height_above, SideFits, Wants}
use Rattle.seg_rbtree.specs.Rising.{IsRising, Settles}
use Rattle.seg_rbtree.proofs.Branches.{branch-parts, nodes-plug, tree-down}
use Rattle.seg_rbtree.proofs.WordWriteLaws.{keeps-none}
use Rattle.seg_rbtree.proofs.LocalChangeLaws.{turns-whole, turns-painted}
use Rattle.seg_rbtree.proofs.ColourLaws.{balanced-up}

-- ---- reads of colours

colour_of : (bytes : List ℕ) (node n : ℕ) → word bytes (node + 8) ≡ n → colour_at bytes (Some node) ≡ cond (eqb n 1) Red Black
colour_of bytes node n e = ap (λ k. cond (eqb k 1) Red Black) e

pub read-red : (bytes : List ℕ) (node : ℕ) (colour : Shapes.Colour) → HasColour bytes node colour → colour_at bytes (Some node) ≡ Red → colour ≡ red
read-red bytes node red h e = refl
read-red bytes node black h e = let b : colour_at bytes (Some node) ≡ Black = colour_of bytes node 0 h.colour_is in absurd (cc)

pub read-black : (bytes : List ℕ) (node : ℕ) (colour : Shapes.Colour) → HasColour bytes node colour → (colour_at bytes (Some node) ≡ Red → ⊥) → colour ≡ black
read-black bytes node black h e = refl
read-black bytes node red h e = absurd (e (colour_of bytes node 1 h.colour_is))

-- ---- the last step

last_same : (xs ys : List Step) (s t : Step) → xs ++ s ∷ [] ≡ ys ++ t ∷ [] → (xs ≡ ys) × (s ≡ t)
last_same [] [] s t e = (refl, (cc))
last_same [] (y ∷ ys) s t e = absurd (omega (arith, ap length e, length-append ys (t ∷ [])))
last_same (x ∷ xs) [] s t e = absurd (omega (arith, ap length e, length-append xs (s ∷ [])))
last_same (x ∷ xs) (y ∷ ys) s t e =
    let here : x ≡ y = cc in
    let there : xs ++ s ∷ [] ≡ ys ++ t ∷ [] = cc in
    let rest = last_same xs ys s t there in
    let tails : xs ≡ ys = rest.0 in
    (cc, rest.1)

some_step : (xs : List Step) (s : Step) → xs ++ s ∷ [] ≡ [] → ⊥
some_step xs s e = omega (arith, ap length e, length-append xs (s ∷ []))

same_layer : (side : Side) (at : ℕ) (colour : Shapes.Colour) (layer : Layer) (tree : Tree) → layer.side ≡ side → layer.at ≡ at → layer.colour ≡ colour → grow layer tree ≡ branch side at colour tree layer.other
same_layer side at colour layer tree s a c =
    ap (λ q. branch q layer.at layer.colour tree layer.other) s ∙ ap (λ q. branch side q layer.colour tree layer.other) a ∙ ap (λ q. branch side at q tree layer.other) c

-- ---- a change at a place is a change of the whole tree

pub record Becomes (old new : List ℕ) (root : ℕ) (nodes : List ℕ) (after : Tree) (layers : List Layer) : Type 0 where
  pub hangs : IsTree new (target new root) (plug after layers)
  pub nodes_are : nodes_of (plug after layers) ≡ nodes
  pub apart : StandApart (length new) root nodes
  pub kept : KeepsBeside old new root nodes

pub becomes : (old new : List ℕ) (root : ℕ) (nodes : List ℕ) (before after : Tree) (layers : List Layer) → IsTree old (target old root) (plug before layers) → nodes_of (plug before layers) ≡ nodes → StandApart (length old) root nodes
    → Turns old new (place root layers) before after → nodes_of after ≡ nodes_of before → Becomes old new root nodes after layers
becomes old new root nodes before after layers h n apart t e =
    let whole = turns-whole old new root before before after layers h (subst (StandApart (length old) root) (sym n) apart) t in
    record {
      hangs = whole.hangs;
      nodes_are = nodes-plug after before layers e ∙ n;
      apart = subst (λ k. StandApart k root nodes) (sym whole.kept.length_kept) apart;
      kept = subst (KeepsBeside old new root) n whole.kept;
    }

-- ---- the red node is the root

module _ (bytes : List ℕ) (root : ℕ) (nodes : List ℕ) (node : ℕ) where
  at_root : (rest : List Step) (left right : Tree) (layers : List Layer) (height : ℕ) → steps_of layers ≡ [] → IsTree bytes (target bytes root) (plug (fork left node red right) layers)
      → nodes_of (plug (fork left node red right) layers) ≡ nodes
      → StandApart (length bytes) root nodes → IsBalanced (fork left node red right) height → Settles bytes (with_colour bytes node Black) root [] rest nodes None
  at_root rest left right [] height e h n apart b =
      let t = turns-painted bytes root Left node red Black left right h (subst (StandApart (length bytes) root) (sym n) apart) in
      let all = becomes bytes (with_colour bytes node Black) root nodes (fork left node red right) (fork left node black right) [] h n apart t refl in
      record {
        kept = all.kept;
        rises = record {
          shape = fork left node black right;
          hangs = all.hangs;
          nodes_are = all.nodes_are;
          red_black = record { root = tt; height = suc height; balanced = (height, refl, b.2, b.3) };
        };
      }
  at_root rest left right (layer ∷ layers) height e h n apart b = absurd (some_step (steps_of layers) (step_of layer) e)

  pub settled_root : (steps rest : List Step) → steps ≡ [] → IsRising bytes root steps nodes node → Settles bytes (with_colour bytes node Black) root steps rest nodes None
  settled_root steps rest e s =
      subst (λ ss. Settles bytes (with_colour bytes node Black) root ss rest nodes None) (sym e)
      (at_root rest s.left s.right s.layers s.height (sym s.steps_are ∙ e) s.hangs s.nodes_are s.apart s.balanced)

  -- ---- the parent is black

  below_black : (steps rest : List Step) (parent : Step) (left right : Tree) (layers : List Layer) (height : ℕ) → rest ++ parent ∷ [] ≡ steps_of layers → IsTree bytes (target bytes root) (plug (fork left node red right) layers)
      → nodes_of (plug (fork left node red right) layers) ≡ nodes → IsBalanced (fork left node red right) height → Wants layers height → (colour_at bytes (Some parent.node) ≡ Red → ⊥) → Settles bytes bytes root steps rest nodes None
  below_black steps rest parent left right [] height e h n b w c = absurd (some_step rest parent e)
  below_black steps rest parent left right (layer ∷ layers) height e h n b w c =
      let same = (last_same rest (steps_of layers) parent (step_of layer) e).1 in
      let here = branch-parts bytes (target bytes (place root layers)) layer.side layer.at layer.colour (fork left node red right) layer.other (tree-down bytes root (grow layer (fork left node red right)) layers h) in
      let is_black : layer.colour ≡ black = read-black bytes layer.at layer.colour here.coloured (λ r. c (ap (λ (s : Step). colour_at bytes (Some s.node)) same ∙ r)) in
      record {
        kept = keeps-none bytes root nodes;
        rises = record {
          shape = plug (fork left node red right) (layer ∷ layers);
          hangs = h;
          nodes_are = n;
          red_black = balanced-up (fork left node red right) (layer ∷ layers) (record { height = height; balanced = b; wants = w; top = inr is_black });
        };
      }

  pub settled_below_black : (steps rest : List Step) (parent : Step) → steps ≡ rest ++ parent ∷ [] → (colour_at bytes (Some parent.node) ≡ Red → ⊥) → IsRising bytes root steps nodes node → Settles bytes bytes root steps rest nodes None
  settled_below_black steps rest parent e c s = below_black steps rest parent s.left s.right s.layers s.height (sym e ∙ s.steps_are) s.hangs s.nodes_are s.balanced s.wants c

  -- ---- the parent is red, so that there is a black grandparent

  -- the red node, its red parent, and its black grandparent
  pub record IsFamily (parent grandparent : Step) (rest : List Step) : Type 0 where
    pub layers : List Layer
    pub left : Tree
    pub right : Tree
    pub sibling : Tree
    pub uncle : Tree
    pub height : ℕ
    pub rest_are : rest ≡ steps_of layers
    pub hangs : IsTree bytes (target bytes root) (plug (branch grandparent.side grandparent.node black (branch parent.side parent.node red (fork left node red right) sibling) uncle) layers)
    pub nodes_are : nodes_of (plug (branch grandparent.side grandparent.node black (branch parent.side parent.node red (fork left node red right) sibling) uncle) layers) ≡ nodes
    pub apart : StandApart (length bytes) root nodes
    pub balanced : IsBalanced (fork left node red right) height
    pub sibling_black : IsBlack sibling
    pub sibling_balanced : IsBalanced sibling height
    pub uncle_balanced : IsBalanced uncle height
    pub wants : Wants layers (suc height)

  -- the layer of a red node, and the black height that it needs
  is_red_layer : (left right : Tree) (layer : Layer) (layers : List Layer) (parent : Step) → step_of layer ≡ parent → colour_at bytes (Some parent.node) ≡ Red
      → IsTree bytes (target bytes root) (plug (fork left node red right) (layer ∷ layers)) → layer.colour ≡ red
  is_red_layer left right layer layers parent same c h =
      let here = branch-parts bytes (target bytes (place root layers)) layer.side layer.at layer.colour (fork left node red right) layer.other (tree-down bytes root (grow layer (fork left node red right)) layers h) in
      read-red bytes layer.at layer.colour here.coloured (ap (λ (s : Step). colour_at bytes (Some s.node)) same ∙ c)

  family_of : (rest more : List Step) (parent grandparent : Step) (left right : Tree) (layers : List Layer) (height : ℕ) → rest ++ parent ∷ [] ≡ steps_of layers → rest ≡ more ++ grandparent ∷ [] → colour_at bytes (Some parent.node) ≡ Red
      → IsTree bytes (target bytes root) (plug (fork left node red right) layers) → nodes_of (plug (fork left node red right) layers) ≡ nodes → StandApart (length bytes) root nodes → IsBalanced (fork left node red right) height
      → Wants layers height
      → IsFamily parent grandparent more
  family_of rest more parent grandparent left right [] height e f c h n apart b w = absurd (some_step rest parent e)
  family_of rest more parent grandparent left right (layer ∷ []) height e f c h n apart b w =
      let last = last_same rest [] parent (step_of layer) e in
      absurd (some_step more grandparent (sym f ∙ last.0))
  family_of rest more parent grandparent left right (layer ∷ (high ∷ layers)) height e f c h n apart b w =
      let node_tree = fork left node red right in
      let last = last_same rest (steps_of (high ∷ layers)) parent (step_of layer) e in
      let next = last_same more (steps_of layers) grandparent (step_of high) (sym f ∙ last.0) in
      let is_red : layer.colour ≡ red = is_red_layer left right layer (high ∷ layers) parent (sym last.1) c h in
      let fits : SideFits red layer.other (high ∷ layers) height = subst (λ q. SideFits q layer.other (high ∷ layers) height) is_red w.0 in
      let rest_wants : Wants (high ∷ layers) height = subst (λ q. Wants (high ∷ layers) (height_above q height)) is_red w.1 in
      let is_black : high.colour ≡ black = fits.2 in
      let uncle_fits : SideFits black high.other layers height = subst (λ q. SideFits q high.other layers height) is_black rest_wants.0 in
      let above : Wants layers (suc height) = subst (λ q. Wants layers (height_above q height)) is_black rest_wants.1 in
      let parent_tree = branch parent.side parent.node red node_tree layer.other in
      let low : grow layer node_tree ≡ parent_tree = same_layer parent.side parent.node red layer node_tree (ap (λ (s : Step). s.side) (sym last.1)) (ap (λ (s : Step). s.node) (sym last.1)) is_red in
      let top : grow high parent_tree ≡ branch grandparent.side grandparent.node black parent_tree high.other = same_layer grandparent.side grandparent.node black high parent_tree (ap (λ (s : Step). s.side) (sym next.1))
      (ap (λ (s : Step). s.node) (sym next.1)) is_black in
      let whole : grow high (grow layer node_tree) ≡ branch grandparent.side grandparent.node black parent_tree high.other = ap (λ t. grow high t) low ∙ top in
      record {
        layers = layers;
        left = left;
        right = right;
        sibling = layer.other;
        uncle = high.other;
        height = height;
        rest_are = next.0;
        hangs = subst (λ t. IsTree bytes (target bytes root) (plug t layers)) whole h;
        nodes_are = subst (λ t. nodes_of (plug t layers) ≡ nodes) whole n;
        apart = apart;
        balanced = b;
        sibling_black = fits.0;
        sibling_balanced = fits.1;
        uncle_balanced = uncle_fits;
        wants = above;
      }

  pub family : (steps rest more : List Step) (parent grandparent : Step) → steps ≡ rest ++ parent ∷ [] → rest ≡ more ++ grandparent ∷ [] → colour_at bytes (Some parent.node) ≡ Red → IsRising bytes root steps nodes node
      → IsFamily parent grandparent more
  family steps rest more parent grandparent e f c s = family_of rest more parent grandparent s.left s.right s.layers s.height (sym e ∙ s.steps_are) f c s.hangs s.nodes_are s.apart s.balanced s.wants

  no_root_above : (rest : List Step) (parent : Step) (left right : Tree) (layers : List Layer) (height : ℕ) → rest ++ parent ∷ [] ≡ steps_of layers → rest ≡ [] → colour_at bytes (Some parent.node) ≡ Red
      → IsTree bytes (target bytes root) (plug (fork left node red right) layers) → Wants layers height → ⊥
  no_root_above rest parent left right [] height e f c h w = some_step rest parent e
  no_root_above rest parent left right (layer ∷ layers) height e f c h w =
      let last = last_same rest (steps_of layers) parent (step_of layer) e in
      let is_red : layer.colour ≡ red = is_red_layer left right layer layers parent (sym last.1) c h in
      let fits : SideFits red layer.other layers height = subst (λ q. SideFits q layer.other layers height) is_red w.0 in
      below layers (sym last.0 ∙ f) fits.2
    where
      below : (ls : List Layer) → steps_of ls ≡ [] → IsBelowBlack ls → ⊥
      below [] e b = b
      below (l ∷ ls) e b = some_step (steps_of ls) (step_of l) e

  -- a red parent isn't the root
  pub red_below_some : (steps rest : List Step) (parent : Step) → steps ≡ rest ++ parent ∷ [] → rest ≡ [] → colour_at bytes (Some parent.node) ≡ Red → IsRising bytes root steps nodes node → ⊥
  red_below_some steps rest parent e f c s = no_root_above rest parent s.left s.right s.layers s.height (sym e ∙ s.steps_are) f c s.hangs s.wants
