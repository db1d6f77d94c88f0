-- A short subtree (one black node too few on each path), and each way to repair it.
use Rattle.std.proofs.Common.{◌≡◌, ℕ, suc, ◌+◌, ◌*◌, ◌^◌, ◌<◌, ◌≤◌, ◌⊎◌, inl, inr, List, [], ◌∷◌, length, refl, sym, ap, ◌∙◌, subst, arith}
use Rattle.std.proofs.lemmas.Bool.{cases_lt}
use Rattle.std.proofs.Math.Pow.{pow_mono}
use Rattle.seg_spec.specs.Shapes.{Colour, black, red, Tree, leaf, fork, nodes_of, IsBlack, IsBalanced, IsRedBlack}
use Rattle.seg_spec.proofs.TreeSearchLaws.{many_nodes}
use Rattle.seg_rbtree.specs.declared.node.Side.{Side}
use Rattle.seg_rbtree.specs.declared.node.Side.TheVariants.{Left, Right}
use Rattle.seg_rbtree.specs.Ways.{Layer, branch, grow, plug}
use Rattle.seg_rbtree.specs.Balance.{IsBelowBlack, height_above, SideFits, Wants}
use Rattle.seg_rbtree.specs.Removing.{blacks, IsNearly, IsShort, turns_over, turns_above, turns}
use Rattle.seg_rbtree.proofs.ColourLaws.{black-branch, red-branch, balanced-black, balanced-red, black-parts, red-parts, IsBalancedAt, balanced-up}

-- ---- the subtree beside a place

pub record SideParts (colour : Colour) (other : Tree) (layers : List Layer) (h : ℕ) : Type 0 where
  pub balanced : IsBalanced other h
  pub below_red : colour ≡ red → IsBlack other × IsBelowBlack layers

pub side_parts : (colour : Colour) (other : Tree) (layers : List Layer) (h : ℕ) → SideFits colour other layers h → SideParts colour other layers h
side_parts black other layers h s = record { balanced = s; below_red = λ e. cc }
side_parts red other layers h s = record { balanced = s.1; below_red = λ _. (s.0, s.2) }

pub not_red : (colour : Colour) → (colour ≡ red → ⊥) → colour ≡ black
not_red black n = refl
not_red red n = absurd (n refl)

balanced_branch : (side : Side) (at : ℕ) (colour : Colour) (near far : Tree) (h : ℕ) → IsBalanced near h → IsBalanced far h → (colour ≡ red → IsBlack near × IsBlack far) → IsBalanced (branch side at colour near far) (height_above colour h)
balanced_branch side at black near far h n f r = balanced-black side at near far h n f
balanced_branch side at red near far h n f r = balanced-red side at near far h (r refl).0 (r refl).1 n f

top_branch : (side : Side) (at : ℕ) (colour : Colour) (near far : Tree) (layers : List Layer) → (colour ≡ red → IsBelowBlack layers) → IsBlack (branch side at colour near far) ⊎ IsBelowBlack layers
top_branch side at black near far layers r = inl (black-branch side at near far)
top_branch side at red near far layers r = inr (r refl)

-- a node of any colour with two black subtrees
pub coloured_whole : (side : Side) (at : ℕ) (colour : Colour) (near far : Tree) (h : ℕ) (layers : List Layer) → IsBalanced near h → IsBalanced far h → IsBlack near → IsBlack far → (colour ≡ red → IsBelowBlack layers)
    → Wants layers (height_above colour h) → IsRedBlack (plug (branch side at colour near far) layers)
coloured_whole side at colour near far h layers n f bn bf r w =
    balanced-up (branch side at colour near far) layers (record { height = height_above colour h; balanced = balanced_branch side at colour near far h n f (λ _. (bn, bf)); wants = w; top = top_branch side at colour near far layers r })

-- ---- a short subtree

pub balanced_nearly : (tree : Tree) (h : ℕ) → IsBalanced tree h → IsNearly tree h
balanced_nearly leaf h b = b
balanced_nearly (fork left at black right) h b = b
balanced_nearly (fork left at red right) h b = (b.2, b.3)

nearly_balanced : (tree : Tree) (h : ℕ) → IsBlack tree → IsNearly tree h → IsBalanced tree h
nearly_balanced leaf h k b = b
nearly_balanced (fork left at black right) h k b = b
nearly_balanced (fork left at red right) h k b = absurd k

-- painting the red root of a short subtree black repairs the tree
pub painted_black : (layers : List Layer) (left right : Tree) (at : ℕ) → IsShort layers (fork left at red right) → IsRedBlack (plug (fork left at black right) layers)
painted_black layers left right at s = balanced-up (fork left at black right) layers (record { height = suc s.height; balanced = (s.height, refl, s.nearly.0, s.nearly.1); wants = s.wanted; top = inl tt })

-- a whole tree that is short is a red-black tree
pub short_root : (tree : Tree) → IsBlack tree → IsShort [] tree → IsRedBlack tree
short_root tree b s = record { root = b; height = s.height; balanced = nearly_balanced tree s.height b s.nearly }

over_suc : (colour : Colour) (h : ℕ) → height_above colour (suc h) ≡ suc (height_above colour h)
over_suc black h = refl
over_suc red h = refl

over_both : (colour : Colour) (n h : ℕ) → height_above colour n + h < 32 → n + height_above colour h < 32
over_both black n h e = omega arith
over_both red n h e = e

nearly_branch : (side : Side) (near far : Tree) (at : ℕ) (colour : Colour) (h : ℕ) → IsBalanced near h → IsBalanced far h → IsNearly (branch side at colour near far) (height_above colour h)
nearly_branch Left near far at black h n f = (h, refl, n, f)
nearly_branch Left near far at red h n f = (n, f)
nearly_branch Right near far at black h n f = (h, refl, f, n)
nearly_branch Right near far at red h n f = (f, n)

-- a short subtree has a sibling
pub sibling_stands : (side : Side) (at : ℕ) (colour : Colour) (layers : List Layer) (tree : Tree) → IsShort (record { side = side; at = at; colour = colour; other = leaf } ∷ layers) tree → ⊥
sibling_stands side at colour layers tree s = let e = (side_parts colour leaf layers (suc s.height) s.wanted.0).balanced in absurd (omega arith)

module _ (side : Side) (at sibling : ℕ) (colour : Colour) (inner outer : Tree) (layers : List Layer) (tree : Tree) where
  abbrev beside : Colour → List Layer
  beside c = record { side = side; at = at; colour = colour; other = branch side sibling c inner outer } ∷ layers

  -- the parent of a red sibling is black
  pub above_red : IsShort (beside red) tree → colour ≡ black
  above_red s = not_red colour (λ e. red-branch side sibling inner outer ((side_parts colour (branch side sibling red inner outer) layers (suc s.height) s.wanted.0).below_red e).0)

  -- a red sibling moves up
  pub lowered : IsShort (beside red) tree → IsShort (record { side = side; at = at; colour = red; other = inner } ∷ record { side = side; at = sibling; colour = black; other = outer } ∷ layers) tree
  lowered s =
      let p = side_parts colour (branch side sibling red inner outer) layers (suc s.height) s.wanted.0 in
      let f = red-parts side sibling inner outer (suc s.height) p.balanced in
      let above = above_red s in
      record {
        height = s.height;
        wanted = ((f.near_black, f.near_balanced, refl), (f.far_balanced, subst (λ c. Wants layers (height_above c (suc s.height))) above s.wanted.1));
        nearly = s.nearly;
        low = subst (λ c. height_above c (blacks layers) + s.height < 32) above s.low;
      }

  -- a black sibling without red children is painted red, and then the larger subtree is short
  pub shortened : IsBlack tree → IsBlack inner → IsBlack outer → IsShort (beside black) tree → IsShort layers (branch side at colour tree (branch side sibling red inner outer))
  shortened bt bi bo s =
      let f = black-parts side sibling inner outer (suc s.height) (side_parts colour (branch side sibling black inner outer) layers (suc s.height) s.wanted.0).balanced in
      let same : s.height ≡ f.below = omega (arith, f.height_is) in
      let beside_it : IsBalanced (branch side sibling red inner outer) s.height = subst (λ h. IsBalanced (branch side sibling red inner outer) h) (sym same)
      (balanced-red side sibling inner outer f.below bi bo f.near_balanced f.far_balanced) in
      record {
        height = height_above colour s.height;
        wanted = subst (λ h. Wants layers h) (over_suc colour s.height) s.wanted.1;
        nearly = nearly_branch side tree (branch side sibling red inner outer) at colour s.height (nearly_balanced tree s.height bt s.nearly) beside_it;
        low = over_both colour (blacks layers) s.height s.low;
      }

-- the inner child of a black sibling is red: it moves up, and becomes the parent of both
pub inner_came_up : (side : Side) (at sibling inner : ℕ) (colour : Colour) (near far outer : Tree) (layers : List Layer) (tree : Tree) → IsBlack tree
    → IsShort (record { side = side; at = at; colour = colour; other = branch side sibling black (branch side inner red near far) outer } ∷ layers) tree
    → IsRedBlack (plug (branch side inner colour (branch side at black tree near) (branch side sibling black far outer)) layers)
inner_came_up side at sibling inner colour near far outer layers tree bt s =
    let p = side_parts colour (branch side sibling black (branch side inner red near far) outer) layers (suc s.height) s.wanted.0 in
    let f = black-parts side sibling (branch side inner red near far) outer (suc s.height) p.balanced in
    let g = red-parts side inner near far f.below f.near_balanced in
    let same : s.height ≡ f.below = omega (arith, f.height_is) in
    let t = subst (λ h. IsBalanced tree h) same (nearly_balanced tree s.height bt s.nearly) in
    coloured_whole side inner colour (branch side at black tree near) (branch side sibling black far outer) (suc f.below) layers (balanced-black side at tree near f.below t g.near_balanced)
    (balanced-black side sibling far outer f.below g.far_balanced f.far_balanced)
    (black-branch side at tree near) (black-branch side sibling far outer) (λ e. (p.below_red e).1) (subst (λ h. Wants layers (height_above colour (suc h))) same s.wanted.1)

-- the outer child of a black sibling is red: the sibling moves up, and this child becomes black
pub outer_came_up : (side : Side) (at sibling outer : ℕ) (colour : Colour) (inner left right : Tree) (layers : List Layer) (tree : Tree) → IsBlack tree
    → IsShort (record { side = side; at = at; colour = colour; other = branch side sibling black inner (fork left outer red right) } ∷ layers) tree
    → IsRedBlack (plug (branch side sibling colour (branch side at black tree inner) (fork left outer black right)) layers)
outer_came_up side at sibling outer colour inner left right layers tree bt s =
    let p = side_parts colour (branch side sibling black inner (fork left outer red right)) layers (suc s.height) s.wanted.0 in
    let f = black-parts side sibling inner (fork left outer red right) (suc s.height) p.balanced in
    let same : s.height ≡ f.below = omega (arith, f.height_is) in
    let t = subst (λ h. IsBalanced tree h) same (nearly_balanced tree s.height bt s.nearly) in
    coloured_whole side sibling colour (branch side at black tree inner) (fork left outer black right) (suc f.below) layers (balanced-black side at tree inner f.below t f.near_balanced) (f.below, refl, f.far_balanced.2, f.far_balanced.3)
    (black-branch side at tree inner) tt (λ e. (p.below_red e).1) (subst (λ h. Wants layers (height_above colour (suc h))) same s.wanted.1)

-- ---- the depth of a place

whole_height : (layers : List Layer) (tree : Tree) (h : ℕ) → Wants layers h → IsBalanced tree h → IsBlack tree ⊎ IsBelowBlack layers → IsBalanced (plug tree layers) (blacks layers + h)
whole_height [] tree h w b top = subst (λ n. IsBalanced tree n) (omega arith) b
whole_height (layer ∷ layers) tree h w b top =
    let p = side_parts layer.colour layer.other layers h w.0 in
    subst (λ n. IsBalanced (plug tree (layer ∷ layers)) n) (over_sum layer.colour (blacks layers) h)
    (whole_height layers (grow layer tree) (height_above layer.colour h) w.1 (balanced_branch layer.side layer.at layer.colour tree layer.other h b p.balanced (λ e. (below top e, (p.below_red e).0)))
    (top_branch layer.side layer.at layer.colour tree layer.other layers (λ e. (p.below_red e).1)))
  where
    over_sum : (colour : Colour) (n h : ℕ) → n + height_above colour h ≡ height_above colour n + h
    over_sum black n h = omega arith
    over_sum red n h = refl

    below : IsBlack tree ⊎ (layer.colour ≡ black) → layer.colour ≡ red → IsBlack tree
    below (inl k) e = k
    below (inr k) e = absurd (cc)

low_height : (tree : Tree) (h : ℕ) → IsBalanced tree h → length (nodes_of tree) < 2 ^ 32 → h ≤ 32
low_height tree h b few = go (cases_lt 32 h)
  where
    go : (32 < h) ⊎ (h ≤ 32) → h ≤ 32
    go (inl high) =
        let power : 2 ^ 33 ≤ 2 ^ h = pow_mono high in
        absurd (omega (arith, many_nodes tree h b))
    go (inr low) = low

pub whole_low : (layers : List Layer) (tree : Tree) (w : IsBalancedAt tree layers) → length (nodes_of (plug tree layers)) < 2 ^ 32 → blacks layers + w.height ≤ 32
whole_low layers tree w few = low_height (plug tree layers) (blacks layers + w.height) (whole_height layers tree w.height w.wants w.balanced w.top) few

-- a place has at most twice as many layers as black nodes above it
pub few_above : (layers : List Layer) (h : ℕ) → Wants layers h → (length layers ≤ 2 * blacks layers) × (IsBelowBlack layers → length layers + 1 ≤ 2 * blacks layers)
few_above [] h w = (omega arith, λ e. absurd e)
few_above (layer ∷ layers) h w = go layer.colour refl (few_above layers (height_above layer.colour h) w.1)
  where
    go : (colour : Colour) → layer.colour ≡ colour → (length layers ≤ 2 * blacks layers) × (IsBelowBlack layers → length layers + 1 ≤ 2 * blacks layers)
        → (length (layer ∷ layers) ≤ 2 * blacks (layer ∷ layers)) × (IsBelowBlack (layer ∷ layers) → length (layer ∷ layers) + 1 ≤ 2 * blacks (layer ∷ layers))
    go black e up = let n : blacks (layer ∷ layers) ≡ suc (blacks layers) = ap (λ c. height_above c (blacks layers)) e in (omega (arith, n, up.0), λ _. omega (arith, n, up.0))
    go red e up =
        let n : blacks (layer ∷ layers) ≡ blacks layers = ap (λ c. height_above c (blacks layers)) e in
        let p = side_parts layer.colour layer.other layers h w.0 in
        (omega (arith, n, up.1 (p.below_red e).1), λ b. let d = e in cc)

-- ---- the number of steps for a short subtree

above_few : (layers : List Layer) → (1 ≤ turns_above layers) × (turns_above layers ≤ blacks layers + 2)
above_few [] = (omega arith, omega arith)
above_few (layer ∷ layers) = go layer.colour refl
  where
    go : (colour : Colour) → layer.colour ≡ colour → (1 ≤ turns_above (layer ∷ layers)) × (turns_above (layer ∷ layers) ≤ blacks (layer ∷ layers) + 2)
    go black e = rw e (omega arith, omega arith)
    go red e = rw e (omega arith, omega arith)

pub turns_few : (layers : List Layer) (tree : Tree) → IsShort layers tree → (1 ≤ turns layers tree) × (turns layers tree ≤ 64)
turns_few layers leaf s = let a = above_few layers in (a.0, omega (arith, a.1, s.low))
turns_few layers (fork left at black right) s = let a = above_few layers in (a.0, omega (arith, a.1, s.low))
turns_few layers (fork left at red right) s = (omega arith, omega arith)

turns_black : (layers : List Layer) (tree : Tree) → IsBlack tree → turns layers tree ≡ turns_above layers
turns_black layers leaf b = refl
turns_black layers (fork left at black right) b = refl
turns_black layers (fork left at red right) b = absurd b

pub lowered_sooner : (upper lower : Layer) (layers : List Layer) (tree : Tree) (top : Layer) → IsBlack tree → lower.colour ≡ red → top.colour ≡ black → turns (lower ∷ upper ∷ layers) tree < turns (top ∷ layers) tree
lowered_sooner upper lower layers tree top b r k =
    let old : turns (top ∷ layers) tree ≡ blacks layers + 3 = turns_black (top ∷ layers) tree b ∙ ap (λ c. turns_over c layers) k in
    let new : turns (lower ∷ upper ∷ layers) tree ≡ 2 = turns_black (lower ∷ upper ∷ layers) tree b ∙ ap (λ c. turns_over c (upper ∷ layers)) r in
    omega (arith, old, new)

pub shortened_sooner : (layer : Layer) (layers : List Layer) (tree other : Tree) → IsBlack tree → turns layers (branch layer.side layer.at layer.colour tree other) < turns (layer ∷ layers) tree
shortened_sooner layer layers tree other b = rw (turns_black (layer ∷ layers) tree b) (go layer.side layer.colour)
  where
    go : (side : Side) (colour : Colour) → turns layers (branch side layer.at colour tree other) < turns_over colour layers
    go Left black = omega (arith, (above_few layers).1)
    go Left red = omega arith
    go Right black = omega (arith, (above_few layers).1)
    go Right red = omega arith
