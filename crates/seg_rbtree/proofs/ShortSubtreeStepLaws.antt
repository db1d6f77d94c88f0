-- The bytes after each step that repairs a short subtree.
use Rattle.std.proofs.Common.{◌≡◌, ℕ, suc, ◌+◌, ◌^◌, ◌<◌, ◌↔◌, Bool, IsTrue, true, false, List, [], ◌∷◌, ◌++◌, length, Option, Some, None, refl, sym, ap, ◌∙◌, subst, arith}
use Rattle.std.proofs.lemmas.List.{length-append}
use Rattle.seg_spec.specs.Pointer.{target}
use Rattle.seg_spec.specs.Shapes.{Colour, black, red, Tree, leaf, fork, nodes_of, HasColour, IsTree, IsBlack}
use Rattle.seg_rbtree.specs.declared.node.Side.{Side}
use Rattle.seg_rbtree.specs.declared.node.Side.TheVariants.{Left, Right}
use Rattle.seg_rbtree.specs.declared.node.Colour.{Colour as Paint}
use Rattle.seg_rbtree.specs.declared.node.Colour.TheVariants.{Black, Red}
use Rattle.seg_rbtree.specs.declared.path.Path.{Path}
use Rattle.seg_rbtree.specs.declared.step.Step.{Step}
use Rattle.seg_rbtree.specs.Nodes.{side_word, opposite, shade, colour_at, with_colour, rotated}
use Rattle.seg_rbtree.specs.Ways.{Layer, branch, plug, place, step_of, steps_of, last_word}
use Rattle.seg_rbtree.specs.Changes.{StandApart}
use Rattle.seg_rbtree.specs.Turns.{Turns}
use Rattle.seg_rbtree.specs.Removing.{layer_at, StandsAt, ComesUp, Lowers, IsShort, Lengthens}
use Rattle.seg_rbtree.proofs.Steps.{last_word-steps}
use Rattle.seg_rbtree.proofs.Apartness.{parts-apart, apart-down}
use Rattle.seg_rbtree.proofs.Branches.{branch-parts, fork_at, nodes-rotated, nodes-branch, nodes-plug, tree-down}
use Rattle.seg_rbtree.proofs.LowNodes.{root_low}
use Rattle.seg_rbtree.proofs.LocalChangeLaws.{turns-none, turns-then, turns-room, turns-up, turns-whole, turns-painted, turns-rotated}
use Rattle.seg_rbtree.proofs.ShortSide.{above_red, lowered, lowered_sooner, shortened, shortened_sooner, inner_came_up, outer_came_up, painted_black, short_root, sibling_stands, few_above}
use Rattle.seg_rbtree.proofs.PlacePathLaws.{length-steps}
use Rattle.seg_rbtree.proofs.NodeUnlinkLaws.{outer_nodes}

pub snoc_parts : {X : Type 0} (xs ys : List X) (x y : X) → xs ++ x ∷ [] ≡ ys ++ y ∷ [] → (xs ≡ ys) × (x ≡ y)
snoc_parts [] [] x y e = (refl, cc)
snoc_parts [] (b ∷ []) x y e = let long = ap length e in absurd (omega arith)
snoc_parts [] (b ∷ c ∷ ys) x y e = let long = ap length e in absurd (omega arith)
snoc_parts (a ∷ []) [] x y e = let long = ap length e in absurd (omega arith)
snoc_parts (a ∷ c ∷ xs) [] x y e = let long = ap length e in absurd (omega arith)
snoc_parts (a ∷ xs) (b ∷ ys) x y e =
    let rest : xs ++ x ∷ [] ≡ ys ++ y ∷ [] = cc in
    let first : a ≡ b = cc in
    let both = snoc_parts xs ys x y rest in
    let lists : xs ≡ ys = both.0 in
    (cc, both.1)

-- ---- colours

pub colour_read : (bytes : List ℕ) (at : ℕ) (colour : Colour) → HasColour bytes at colour → shade (colour_at bytes (Some at)) ≡ colour
colour_read bytes at black h = rw h.colour_is refl
colour_read bytes at red h = rw h.colour_is refl

-- a tree with a red root
pub record IsRedFork (tree : Tree) (to : Option ℕ) : Type 0 where
  pub left : Tree
  pub at : ℕ
  pub right : Tree
  pub named : to ≡ Some at
  pub tree_is : tree ≡ fork left at red right

pub red_root : (bytes : List ℕ) (to : Option ℕ) (tree : Tree) → IsTree bytes to tree → colour_at bytes to ≡ Red → IsRedFork tree to
red_root bytes None tree h e = cc
red_root bytes (Some p) leaf h e = absurd h
red_root bytes (Some p) (fork l a c r) h e =
    let same : shade (colour_at bytes (Some p)) ≡ c = colour_read bytes p c h.1 in
    let is_red : red ≡ c = sym (ap shade e) ∙ same in
    record { left = l; at = a; right = r; named = ap Some (sym h.0); tree_is = ap (λ d. fork l a d r) (sym is_red) }

pub black_root : (bytes : List ℕ) (to : Option ℕ) (tree : Tree) → IsTree bytes to tree → colour_at bytes to ≡ Black → IsBlack tree
black_root bytes None leaf h e = tt
black_root bytes None (fork l a c r) h e = absurd h
black_root bytes (Some p) leaf h e = absurd h
black_root bytes (Some p) (fork l a black r) h e = tt
black_root bytes (Some p) (fork l a red r) h e =
    let same : shade (colour_at bytes (Some p)) ≡ red = colour_read bytes p red h.1 in
    let is_black : black ≡ red = sym (ap shade e) ∙ same in
    cc

pub no_tree : (bytes : List ℕ) (tree : Tree) → IsTree bytes None tree → tree ≡ leaf
no_tree bytes leaf h = refl
no_tree bytes (fork l a c r) h = absurd h

-- ---- a rotated tree takes the place of the old one

pub apart_again : (old new : List ℕ) (root : ℕ) (before after : Tree) → length new ≡ length old → nodes_of after ≡ nodes_of before → StandApart (length old) root (nodes_of before) → StandApart (length new) root (nodes_of after)
apart_again old new root before after l n a = subst (λ m. StandApart m root (nodes_of after)) (sym l) (subst (λ ns. StandApart (length old) root ns) (sym n) a)

-- ---- the child on the other side moves up, and both nodes are painted

module _ (bytes : List ℕ) (at : ℕ) (side : Side) (node up : ℕ) (colour other : Colour) (x m d : Tree) (upper lower : Paint) where
  abbrev b1 : List ℕ
  b1 = rotated bytes at node side

  abbrev b2 : List ℕ
  b2 = with_colour b1 up upper

  abbrev b3 : List ℕ
  b3 = with_colour b2 node lower

  abbrev t0 : Tree
  t0 = branch side node colour x (branch side up other m d)

  abbrev t1 : Tree
  t1 = branch side up other (branch side node colour x m) d

  abbrev t2 : Tree
  t2 = branch side up (shade upper) (branch side node colour x m) d

  abbrev t3 : Tree
  t3 = branch side up (shade upper) (branch side node (shade lower) x m) d

  pub turned_painted : IsTree bytes (target bytes at) t0 → StandApart (length bytes) at (nodes_of t0) → Turns bytes b3 at t0 t3
  turned_painted h apart =
      let one : Turns bytes b1 at t0 t1 = turns-rotated bytes at side node up colour other x m d h apart in
      let n1 : nodes_of t1 ≡ nodes_of t0 = nodes-rotated side node up colour other colour other x m d in
      let apart1 : StandApart (length b1) at (nodes_of t1) = apart_again bytes b1 at t0 t1 one.kept.length_kept n1 apart in
      let two : Turns b1 b2 at t1 t2 = turns-painted b1 at side up other upper (branch side node colour x m) d one.hangs apart1 in
      let n2 : nodes_of t2 ≡ nodes_of t1 = nodes-branch side up (shade upper) other (branch side node colour x m) (branch side node colour x m) d refl in
      let apart2 : StandApart (length b2) at (nodes_of t2) = apart_again b1 b2 at t1 t2 two.kept.length_kept n2 apart1 in
      let low = branch-parts b2 (target b2 at) side up (shade upper) (branch side node colour x m) d two.hangs in
      let p = parts-apart (length b2) at side up (shade upper) (branch side node colour x m) d apart2 in
      let below : Turns b2 b3 (side_word up side) (branch side node colour x m) (branch side node (shade lower) x m) = turns-painted b2 (side_word up side) side node colour lower x m low.near_hangs p.near_apart in
      let three : Turns b2 b3 at t2 t3 = turns-up b2 b3 at side up (shade upper) (branch side node colour x m) d (branch side node colour x m) (branch side node (shade lower) x m) two.hangs apart2 below in
      turns-then bytes b2 b3 at t0 t2 t3 (turns-then bytes b1 b2 at t0 t1 t2 one (turns-room b1 b2 at t1 t0 t2 n1 two)) (turns-room b2 b3 at t2 t0 t3 (n2 ∙ n1) three)

-- ---- at the end of a path

pub path_word : (bytes : List ℕ) (path : Path) (layers : List Layer) (tree : Tree) → StandsAt bytes path layers tree → last_word path.root path.steps.items ≡ place path.root layers
path_word bytes path layers tree s = ap (last_word path.root) s.steps_are ∙ last_word-steps path.root layers

pub stands_again : (old new : List ℕ) (path other : Path) (layers above : List Layer) (tree part : Tree) → StandsAt old path layers tree → other.root ≡ path.root → other.steps.items ≡ steps_of above
    → Turns old new path.root (plug tree layers) (plug part above) → nodes_of (plug part above) ≡ nodes_of (plug tree layers) → StandsAt new other above part
stands_again old new path other layers above tree part s r e t n = record {
  steps_are = e;
  hangs = subst (λ root. IsTree new (target new root) (plug part above)) (sym r) t.hangs;
  apart = subst (λ root. StandApart (length new) root (nodes_of (plug part above))) (sym r) (apart_again old new path.root (plug tree layers) (plug part above) t.kept.length_kept n s.apart);
}

-- a change at the place is a change of the whole tree
pub turned_at : (old new : List ℕ) (path : Path) (layers : List Layer) (tree part : Tree) → StandsAt old path layers tree → Turns old new (place path.root layers) tree part → Turns old new path.root (plug tree layers) (plug part layers)
turned_at old new path layers tree part s t = turns-whole old new path.root tree tree part layers s.hangs s.apart t

pub here : (bytes : List ℕ) (path : Path) (layers : List Layer) (tree : Tree) → StandsAt bytes path layers tree → IsTree bytes (target bytes (place path.root layers)) tree
here bytes path layers tree s = tree-down bytes path.root tree layers s.hangs

pub here_apart : (bytes : List ℕ) (path : Path) (layers : List Layer) (tree : Tree) → StandsAt bytes path layers tree → StandApart (length bytes) (place path.root layers) (nodes_of tree)
here_apart bytes path layers tree s = apart-down (length bytes) path.root tree layers s.apart

same_some : (o : Option ℕ) (x y : ℕ) → o ≡ Some x → o ≡ Some y → x ≡ y
same_some o x y e f = cc

module _ (bytes one two new : List ℕ) (path : Path) (side : Side) (node up : ℕ) (colour other : Colour) (layers : List Layer) (x m d : Tree) (upper lower : Paint)
    (s : StandsAt bytes path layers (branch side node colour x (branch side up other m d))) where
  -- both nodes of the rotation are painted
  pub both_painted : (read : ℕ) → target bytes (side_word node (opposite side)) ≡ Some read → one ≡ rotated bytes (last_word path.root path.steps.items) node side → two ≡ with_colour one read upper → new ≡ with_colour two node lower
      → Turns bytes new path.root (plug (branch side node colour x (branch side up other m d)) layers) (plug (branch side up (shade upper) (branch side node (shade lower) x m) d) layers)
  both_painted read e e1 e2 e3 =
      let at = place path.root layers in
      let h = here bytes path layers (branch side node colour x (branch side up other m d)) s in
      let a = here_apart bytes path layers (branch side node colour x (branch side up other m d)) s in
      let low = branch-parts bytes (target bytes at) side node colour x (branch side up other m d) h in
      let high = branch-parts bytes (target bytes (side_word node (opposite side))) side up other m d low.far_hangs in
      let same : read ≡ up = same_some (target bytes (side_word node (opposite side))) read up e high.named in
      let w = path_word bytes path layers (branch side node colour x (branch side up other m d)) s in
      let is : new ≡ with_colour (with_colour (rotated bytes at node side) up upper) node lower =
      e3 ∙ ap (λ b. with_colour b node lower) (e2 ∙ ap (λ p. with_colour one p upper) same ∙ ap (λ b. with_colour b up upper) (e1 ∙ ap (λ q. rotated bytes q node side) w)) in
      turned_at bytes new path layers (branch side node colour x (branch side up other m d)) (branch side up (shade upper) (branch side node (shade lower) x m) d) s
      (subst (λ b. Turns bytes b at (branch side node colour x (branch side up other m d)) (branch side up (shade upper) (branch side node (shade lower) x m) d)) (sym is)
      (turned_painted bytes at side node up colour other x m d upper lower h a))

-- the sibling moves up, and gets the colour of the parent
pub came_up : (bytes one two new : List ℕ) (path : Path) (side : Side) (node read : ℕ) (top : Paint) → top ≡ colour_at bytes (Some node) → target bytes (side_word node (opposite side)) ≡ Some read
    → one ≡ rotated bytes (last_word path.root path.steps.items) node side → two ≡ with_colour one read top → new ≡ with_colour two node Black
    → (layers : List Layer) (x m d : Tree) (up : ℕ) (colour other : Colour) → StandsAt bytes path layers (branch side node colour x (branch side up other m d)) → ComesUp bytes new path.root side node up colour other layers x m d
came_up bytes one two new path side node read top et er e1 e2 e3 layers x m d up colour other s =
    let low = branch-parts bytes (target bytes (place path.root layers)) side node colour x (branch side up other m d) (here bytes path layers (branch side node colour x (branch side up other m d)) s) in
    let tint : shade top ≡ colour = ap shade et ∙ colour_read bytes node colour low.coloured in
    subst (λ c. Turns bytes new path.root (plug (branch side node colour x (branch side up other m d)) layers) (plug (branch side up c (branch side node black x m) d) layers)) tint
    (both_painted bytes one two new path side node up colour other layers x m d top Black s read er e1 e2 e3)

pub sibling_named : (bytes : List ℕ) (path : Path) (layers : List Layer) (side : Side) (node up : ℕ) (colour other : Colour) (x m d : Tree) → StandsAt bytes path layers (branch side node colour x (branch side up other m d))
    → target bytes (side_word node (opposite side)) ≡ Some up
sibling_named bytes path layers side node up colour other x m d s =
    let low = branch-parts bytes (target bytes (place path.root layers)) side node colour x (branch side up other m d) (here bytes path layers (branch side node colour x (branch side up other m d)) s) in
    (branch-parts bytes (target bytes (side_word node (opposite side))) side up other m d low.far_hangs).named

-- ---- a red sibling

pub lowered_whole : (bytes one two new : List ℕ) (path next last : Path) (side : Side) (node sibling : ℕ) (r q : Bool) → one ≡ rotated bytes (last_word path.root path.steps.items) node side → two ≡ with_colour one sibling Black
    → new ≡ with_colour two node Red
    → next.root ≡ path.root → (length path.steps.items < 64 → IsTrue r) → (IsTrue r → sibling < 2 ^ 31 → next.steps.items ≡ path.steps.items ++ record { node = sibling; side = side } ∷ [])
    → last.root ≡ next.root → (length next.steps.items < 64 → IsTrue q) → (IsTrue q → node < 2 ^ 31 → last.steps.items ≡ next.steps.items ++ record { node = node; side = side } ∷ [])
    → (layers : List Layer) (x m d : Tree) (colour other : Colour) → StandsAt bytes path layers (branch side node colour x (branch side sibling other m d)) → length layers < 63
    → Lowers bytes new last side node sibling colour other layers x m d
lowered_whole bytes one two new path next last side node sibling r q e1 e2 e3 r1 room1 push1 r2 room2 push2 layers x m d colour other s few =
    let below = branch side sibling other m d in
    let hung = here bytes path layers (branch side node colour x below) s in
    let node_low = root_low bytes (place path.root layers) side node colour x below s.apart.small hung in
    let sibling_low = root_low bytes (side_word node (opposite side)) side sibling other m d s.apart.small (branch-parts bytes (target bytes (place path.root layers)) side node colour x below hung).far_hangs in
    let long : length path.steps.items ≡ length layers = ap length s.steps_are ∙ length-steps layers in
    let first : next.steps.items ≡ path.steps.items ++ record { node = sibling; side = side } ∷ [] = push1 (room1 (omega arith)) sibling_low in
    let longer : length next.steps.items ≡ length path.steps.items + 1 = ap length first ∙ omega (arith, length-append path.steps.items (record { node = sibling; side = side } ∷ [])) in
    let second : last.steps.items ≡ next.steps.items ++ record { node = node; side = side } ∷ [] = push2 (room2 (omega arith)) node_low in
    record {
      turned = subst (λ root. Turns bytes new root (plug (branch side node colour x (branch side sibling other m d)) layers) (plug (branch side sibling black (branch side node red x m) d) layers)) (sym (r2 ∙ r1))
          (both_painted bytes one two new path side node sibling colour other layers x m d Black Red s sibling (sibling_named bytes path layers side node sibling colour other x m d s) e1 e2 e3);
      steps_are = second ∙ ap (λ xs. xs ++ record { node = node; side = side } ∷ []) (first ∙ ap (λ xs. xs ++ record { node = sibling; side = side } ∷ []) s.steps_are);
    }

pub lowering : (old new : List ℕ) (path : Path) (side : Side) (node sibling : ℕ) (colour : Colour) (layers : List Layer) (x m d : Tree) → Lowers old new path side node sibling colour red layers x m d
    → IsShort (layer_at side node colour (branch side sibling red m d) ∷ layers) x → IsBlack x → Lengthens old new path (layer_at side node colour (branch side sibling red m d) ∷ layers) x true
lowering old new path side node sibling colour layers x m d l s b =
    let above : colour ≡ black = above_red side node sibling colour m d layers x s in
    record {
      above = layer_at side node red m ∷ layer_at side sibling black d ∷ layers;
      part = x;
      turned = l.turned;
      nodes_are = nodes-plug (branch side sibling black (branch side node red x m) d) (branch side node colour x (branch side sibling red m d)) layers (nodes-rotated side node sibling colour red red black x m d);
      state = (lowered side node sibling colour m d layers x s, l.steps_are, lowered_sooner (layer_at side sibling black d) (layer_at side node red m) layers x (layer_at side node colour (branch side sibling red m d)) b refl above);
    }

-- ---- a black sibling

-- a change of the far subtree is a change of the whole
pub turns_up_far : (old new : List ℕ) (at : ℕ) (side : Side) (node : ℕ) (colour : Colour) (near far y : Tree) → IsTree old (target old at) (branch side node colour near far)
    → StandApart (length old) at (nodes_of (branch side node colour near far))
    → Turns old new (side_word node (opposite side)) far y → Turns old new at (branch side node colour near far) (branch side node colour near y)
turns_up_far old new at Left node colour near far y h a t = turns-up old new at Right node colour far near far y h a t
turns_up_far old new at Right node colour near far y h a t = turns-up old new at Left node colour far near far y h a t

-- the near child moves up above its parent
rotated_back : (bytes : List ℕ) (at : ℕ) (side : Side) (node up : ℕ) (colour upper : Colour) (near between far : Tree) → IsTree bytes (target bytes at) (branch side node colour (branch side up upper near between) far)
    → StandApart (length bytes) at (nodes_of (branch side node colour (branch side up upper near between) far))
    → Turns bytes (rotated bytes at node (opposite side)) at (branch side node colour (branch side up upper near between) far) (branch side up upper near (branch side node colour between far))
rotated_back bytes at Left node up colour upper near between far h a = turns-rotated bytes at Right node up colour upper far between near h a
rotated_back bytes at Right node up colour upper near between far h a = turns-rotated bytes at Left node up colour upper far between near h a

module _ (bytes new : List ℕ) (path : Path) (side : Side) (node sibling : ℕ) (colour : Colour) (layers : List Layer) (x m d : Tree) (s : StandsAt bytes path layers (branch side node colour x (branch side sibling black m d))) where
  abbrev at : ℕ
  at = place path.root layers

  abbrev both : Tree
  both = branch side node colour x (branch side sibling black m d)

  -- the sibling's subtree changes
  sibling_turned : (y : Tree) → Turns bytes new (side_word node (opposite side)) (branch side sibling black m d) y → Turns bytes new path.root (plug both layers) (plug (branch side node colour x y) layers)
  sibling_turned y t = turned_at bytes new path layers both (branch side node colour x y) s (turns_up_far bytes new at side node colour x (branch side sibling black m d) y (here bytes path layers both s)
      (here_apart bytes path layers both s) t)

  sibling_hangs : IsTree bytes (target bytes (side_word node (opposite side))) (branch side sibling black m d)
  sibling_hangs = (branch-parts bytes (target bytes at) side node colour x (branch side sibling black m d) (here bytes path layers both s)).far_hangs

  sibling_apart : StandApart (length bytes) (side_word node (opposite side)) (nodes_of (branch side sibling black m d))
  sibling_apart = (parts-apart (length bytes) at side node colour x (branch side sibling black m d) (here_apart bytes path layers both s)).far_apart

  pub outer_hangs : IsTree bytes (target bytes (side_word sibling (opposite side))) d
  outer_hangs = (branch-parts bytes (target bytes (side_word node (opposite side))) side sibling black m d sibling_hangs).far_hangs

  outer_apart : StandApart (length bytes) (side_word sibling (opposite side)) (nodes_of d)
  outer_apart = (parts-apart (length bytes) (side_word node (opposite side)) side sibling black m d sibling_apart).far_apart

  pub inner_hangs : IsTree bytes (target bytes (side_word sibling side)) m
  inner_hangs = (branch-parts bytes (target bytes (side_word node (opposite side))) side sibling black m d sibling_hangs).near_hangs

  -- the subtree of the sibling's outer child changes
  outer_turned : (y : Tree) → Turns bytes new (side_word sibling (opposite side)) d y → Turns bytes new path.root (plug both layers) (plug (branch side node colour x (branch side sibling black m y)) layers)
  outer_turned y t = sibling_turned (branch side sibling black m y) (turns_up_far bytes new (side_word node (opposite side)) side sibling black m d y sibling_hangs sibling_apart t)

  -- the sibling is painted red
  sibling_painted : new ≡ with_colour bytes sibling Red → Turns bytes new path.root (plug both layers) (plug (branch side node colour x (branch side sibling red m d)) layers)
  sibling_painted e = sibling_turned (branch side sibling red m d) (subst (λ b. Turns bytes b (side_word node (opposite side)) (branch side sibling black m d) (branch side sibling red m d)) (sym e)
      (turns-painted bytes (side_word node (opposite side)) side sibling black Red m d sibling_hangs sibling_apart))

  -- if the sibling has no red child, the larger subtree is short
  pub shortening : new ≡ with_colour bytes sibling Red → colour_at bytes (target bytes (side_word sibling side)) ≡ Black → colour_at bytes (target bytes (side_word sibling (opposite side))) ≡ Black
      → IsShort (layer_at side node colour (branch side sibling black m d) ∷ layers) x → IsBlack x → Lengthens bytes new path (layer_at side node colour (branch side sibling black m d) ∷ layers) x true
  shortening e bm bd short bx = record {
    above = layers;
    part = branch side node colour x (branch side sibling red m d);
    turned = sibling_painted e;
    nodes_are = nodes-plug (branch side node colour x (branch side sibling red m d)) both layers (outer_nodes side x (branch side sibling red m d) (branch side sibling black m d) node colour
        (nodes-branch side sibling red black m m d refl));
    state = (
      shortened side node sibling colour m d layers x bx (black_root bytes (target bytes (side_word sibling side)) m inner_hangs bm) (black_root bytes (target bytes (side_word sibling (opposite side))) d outer_hangs bd) short,
      s.steps_are,
      shortened_sooner (layer_at side node colour (branch side sibling black m d)) layers x (branch side sibling red m d) bx,
    );
  }

module _ (bytes one : List ℕ) (path : Path) (side : Side) (node sibling : ℕ) (colour : Colour) (layers : List Layer) (x m : Tree) where
  -- the outer child is painted black
  pub outer_painted : (l r : Tree) (outer : ℕ) (s : StandsAt bytes path layers (branch side node colour x (branch side sibling black m (fork l outer red r)))) → one ≡ with_colour bytes outer Black
      → Turns bytes one path.root (plug (branch side node colour x (branch side sibling black m (fork l outer red r))) layers) (plug (branch side node colour x (branch side sibling black m (fork l outer black r))) layers)
  outer_painted l r outer s e =
      outer_turned bytes one path side node sibling colour layers x m (fork l outer red r) s (fork l outer black r) (subst (λ b. Turns bytes b (side_word sibling (opposite side)) (fork l outer red r) (fork l outer black r)) (sym e)
      (turns-painted bytes (side_word sibling (opposite side)) Left outer red Black l r (outer_hangs bytes one path side node sibling colour layers x m (fork l outer red r) s)
      (outer_apart bytes one path side node sibling colour layers x m (fork l outer red r) s)))

  outer_same : (l r : Tree) (outer : ℕ) → nodes_of (plug (branch side node colour x (branch side sibling black m (fork l outer black r))) layers) ≡ nodes_of
      (plug (branch side node colour x (branch side sibling black m (fork l outer red r))) layers)
  outer_same l r outer = nodes-plug _ _ layers (outer_nodes side x (branch side sibling black m (fork l outer black r)) (branch side sibling black m (fork l outer red r)) node colour
      (outer_nodes side m (fork l outer black r) (fork l outer red r) sibling black refl))

  by_outer_at : (new : List ℕ) (l r : Tree) (outer : ℕ) (s : StandsAt bytes path layers (branch side node colour x (branch side sibling black m (fork l outer red r)))) → one ≡ with_colour bytes outer Black
      → (StandsAt one path layers (branch side node colour x (branch side sibling black m (fork l outer black r))) → ComesUp one new path.root side node sibling colour black layers x m (fork l outer black r))
      → IsShort (layer_at side node colour (branch side sibling black m (fork l outer red r)) ∷ layers) x → IsBlack x → Lengthens bytes new path (layer_at side node colour (branch side sibling black m (fork l outer red r)) ∷ layers) x false
  by_outer_at new l r outer s e up short bx =
      let t = outer_painted l r outer s e in
      let n = outer_same l r outer in
      let u = up (stands_again bytes one path path layers layers (branch side node colour x (branch side sibling black m (fork l outer red r))) (branch side node colour x (branch side sibling black m (fork l outer black r))) s refl
      s.steps_are t n) in
      let after = branch side sibling colour (branch side node black x m) (fork l outer black r) in
      record {
        above = layers;
        part = after;
        turned = turns-then bytes one new path.root (plug (branch side node colour x (branch side sibling black m (fork l outer red r))) layers) (plug (branch side node colour x (branch side sibling black m (fork l outer black r))) layers)
            (plug after layers) t
            (turns-room one new path.root (plug (branch side node colour x (branch side sibling black m (fork l outer black r))) layers) (plug (branch side node colour x (branch side sibling black m (fork l outer red r))) layers)
            (plug after layers) n u);
        nodes_are = nodes-plug after (branch side node colour x (branch side sibling black m (fork l outer black r))) layers (nodes-rotated side node sibling colour black black colour x m (fork l outer black r)) ∙ n;
        state = outer_came_up side node sibling outer colour m l r layers x bx short;
      }

  -- the outer child is red: the sibling moves up, and the subtree gets one black node more
  pub by_outer : (new : List ℕ) (outer : ℕ) (d : Tree) → target bytes (side_word sibling (opposite side)) ≡ Some outer → colour_at bytes (Some outer) ≡ Red → one ≡ with_colour bytes outer Black
      → ((d : Tree) → StandsAt one path layers (branch side node colour x (branch side sibling black m d)) → ComesUp one new path.root side node sibling colour black layers x m d)
      → StandsAt bytes path layers (branch side node colour x (branch side sibling black m d)) → IsShort (layer_at side node colour (branch side sibling black m d) ∷ layers) x → IsBlack x
      → Lengthens bytes new path (layer_at side node colour (branch side sibling black m d) ∷ layers) x false
  by_outer new outer d e is_red e1 up s short bx =
      let f = red_root bytes (target bytes (side_word sibling (opposite side))) d (outer_hangs bytes one path side node sibling colour layers x m d s) (ap (colour_at bytes) e ∙ is_red) in
      let same : outer ≡ f.at = same_some (target bytes (side_word sibling (opposite side))) outer f.at e f.named in
      let law = λ (s : StandsAt bytes path layers (branch side node colour x (branch side sibling black m (fork f.left f.at red f.right)))). by_outer_at new f.left f.right f.at s (e1 ∙ ap (λ p. with_colour bytes p Black) same)
      (up (fork f.left f.at black f.right)) in
      (subst (λ o. StandsAt bytes path layers (branch side node colour x (branch side sibling black m o)) → IsShort (layer_at side node colour (branch side sibling black m o) ∷ layers) x → IsBlack x
      → Lengthens bytes new path (layer_at side node colour (branch side sibling black m o) ∷ layers) x false) (sym f.tree_is) law) s short bx

-- a red tree, seen from a side
pub record IsRedBranch (side : Side) (tree : Tree) (to : Option ℕ) : Type 0 where
  pub at : ℕ
  pub near : Tree
  pub far : Tree
  pub tree_is : tree ≡ branch side at red near far

red_branch : (side : Side) (tree : Tree) (to : Option ℕ) → IsRedFork tree to → IsRedBranch side tree to
red_branch Left tree to f = record { at = f.at; near = f.left; far = f.right; tree_is = f.tree_is }
red_branch Right tree to f = record { at = f.at; near = f.right; far = f.left; tree_is = f.tree_is }

module _ (bytes one : List ℕ) (path : Path) (side : Side) (node sibling : ℕ) (colour : Colour) (layers : List Layer) (x d : Tree) where
  by_inner_at : (new : List ℕ) (inner : ℕ) (near far : Tree) (s : StandsAt bytes path layers (branch side node colour x (branch side sibling black (branch side inner red near far) d)))
      → one ≡ rotated bytes (side_word node (opposite side)) sibling (opposite side)
      → (StandsAt one path layers (branch side node colour x (branch side inner red near (branch side sibling black far d))) → ComesUp one new path.root side node inner colour red layers x near (branch side sibling black far d))
      → IsShort (layer_at side node colour (branch side sibling black (branch side inner red near far) d) ∷ layers) x → IsBlack x
      → Lengthens bytes new path (layer_at side node colour (branch side sibling black (branch side inner red near far) d) ∷ layers) x false
  by_inner_at new inner near far s e up short bx =
      let m = branch side inner red near far in
      let turned_part = branch side inner red near (branch side sibling black far d) in
      let old = branch side node colour x (branch side sibling black m d) in
      let between = branch side node colour x turned_part in
      let after = branch side inner colour (branch side node black x near) (branch side sibling black far d) in
      let t : Turns bytes one path.root (plug old layers) (plug between layers) = sibling_turned bytes one path side node sibling colour layers x m d s turned_part
      (subst (λ b. Turns bytes b (side_word node (opposite side)) (branch side sibling black m d) turned_part) (sym e)
      (rotated_back bytes (side_word node (opposite side)) side sibling inner black red near far d (sibling_hangs bytes one path side node sibling colour layers x m d s)
      (sibling_apart bytes one path side node sibling colour layers x m d s))) in
      let n : nodes_of (plug between layers) ≡ nodes_of (plug old layers) = nodes-plug between old layers (outer_nodes side x turned_part (branch side sibling black m d) node colour
      (sym (nodes-rotated side inner sibling red black red black near far d))) in
      let u = up (stands_again bytes one path path layers layers old between s refl s.steps_are t n) in
      record {
        above = layers;
        part = after;
        turned = turns-then bytes one new path.root (plug old layers) (plug between layers) (plug after layers) t (turns-room one new path.root (plug between layers) (plug old layers) (plug after layers) n u);
        nodes_are = nodes-plug after between layers (nodes-rotated side node inner colour red black colour x near (branch side sibling black far d)) ∙ n;
        state = inner_came_up side node sibling inner colour near far d layers x bx short;
      }

  -- the inner child is red: it moves up, and the subtree gets one black node more
  pub by_inner : (new : List ℕ) (m : Tree) → colour_at bytes (target bytes (side_word sibling side)) ≡ Red → one ≡ rotated bytes (side_word node (opposite side)) sibling (opposite side)
      → ((inner : ℕ) (m d : Tree) → StandsAt one path layers (branch side node colour x (branch side inner red m d)) → ComesUp one new path.root side node inner colour red layers x m d)
      → StandsAt bytes path layers (branch side node colour x (branch side sibling black m d)) → IsShort (layer_at side node colour (branch side sibling black m d) ∷ layers) x → IsBlack x
      → Lengthens bytes new path (layer_at side node colour (branch side sibling black m d) ∷ layers) x false
  by_inner new m is_red e up s short bx =
      let f = red_branch side m (target bytes (side_word sibling side)) (red_root bytes (target bytes (side_word sibling side)) m (inner_hangs bytes one path side node sibling colour layers x m d s) is_red) in
      let law = λ (s : StandsAt bytes path layers (branch side node colour x (branch side sibling black (branch side f.at red f.near f.far) d))). by_inner_at new f.at f.near f.far s e (up f.at f.near (branch side sibling black f.far d)) in
      (subst (λ o. StandsAt bytes path layers (branch side node colour x (branch side sibling black o d)) → IsShort (layer_at side node colour (branch side sibling black o d) ∷ layers) x → IsBlack x
      → Lengthens bytes new path (layer_at side node colour (branch side sibling black o d) ∷ layers) x false) (sym f.tree_is) law) s short bx

pub not_red_paint : (bytes : List ℕ) (to : Option ℕ) → (colour_at bytes to ≡ Red → ⊥) → colour_at bytes to ≡ Black
not_red_paint bytes to n = go (colour_at bytes to) n
  where
    go : (p : Paint) → (p ≡ Red → ⊥) → p ≡ Black
    go Black n = refl
    go Red n = absurd (n refl)

pub holds_if : (r : Bool) (P : Type 0) → IsTrue r ↔ P → r ≡ true → P
holds_if r P h e = h.0 e

pub fails_if : (r : Bool) (P : Type 0) → IsTrue r ↔ P → r ≡ false → P → ⊥
fails_if r P h e p = let t : r ≡ true = h.1 p in cc

-- ---- a sibling of either colour

pub beside_hangs : (bytes : List ℕ) (path : Path) (layers : List Layer) (side : Side) (node : ℕ) (colour : Colour) (x other : Tree) → StandsAt bytes path layers (branch side node colour x other)
    → IsTree bytes (target bytes (side_word node (opposite side))) other
beside_hangs bytes path layers side node colour x other s = (branch-parts bytes (target bytes (place path.root layers)) side node colour x other (here bytes path layers (branch side node colour x other) s)).far_hangs

pub record IsPainted (side : Side) (at : ℕ) (colour : Colour) (tree : Tree) : Type 0 where
  pub near : Tree
  pub far : Tree
  pub tree_is : tree ≡ branch side at colour near far

pub painted_fork : (bytes : List ℕ) (side : Side) (at : ℕ) (to : Option ℕ) (tree : Tree) (paint : Paint) → to ≡ Some at → colour_at bytes (Some at) ≡ paint → IsTree bytes to tree → IsPainted side at (shade paint) tree
painted_fork bytes side at to tree paint e p h =
    let f = fork_at bytes side at to tree e h in
    let parts = branch-parts bytes to side at f.colour f.near f.far (subst (λ t. IsTree bytes to t) f.tree_is h) in
    let tint : f.colour ≡ shade paint = sym (colour_read bytes at f.colour parts.coloured) ∙ ap shade p in
    record { near = f.near; far = f.far; tree_is = f.tree_is ∙ ap (λ c. branch side at c f.near f.far) tint }

short_few : (layer : Layer) (layers : List Layer) (x : Tree) → IsShort (layer ∷ layers) x → length layers < 63
short_few layer layers x s = omega (arith, (few_above (layer ∷ layers) (suc s.height) s.wanted).0, s.low)

pub by_lower : (bytes new : List ℕ) (path last : Path) (side : Side) (node sibling : ℕ) → target bytes (side_word node (opposite side)) ≡ Some sibling → colour_at bytes (Some sibling) ≡ Red
    → ((layers : List Layer) (x m d : Tree) (colour other : Colour) → StandsAt bytes path layers (branch side node colour x (branch side sibling other m d)) → length layers < 63
    → Lowers bytes new last side node sibling colour other layers x m d)
    → (layers : List Layer) (x other : Tree) (colour : Colour) → StandsAt bytes path layers (branch side node colour x other) → IsShort (layer_at side node colour other ∷ layers) x → IsBlack x
    → Lengthens bytes new last (layer_at side node colour other ∷ layers) x true
by_lower bytes new path last side node sibling e is_red low layers x other colour s short b =
    let f = painted_fork bytes side sibling (target bytes (side_word node (opposite side))) other Red e is_red (beside_hangs bytes path layers side node colour x other s) in
    let law = λ (s : StandsAt bytes path layers (branch side node colour x (branch side sibling red f.near f.far))) (short : IsShort (layer_at side node colour (branch side sibling red f.near f.far) ∷ layers) x).
    lowering bytes new last side node sibling colour layers x f.near f.far (low layers x f.near f.far colour red s (short_few (layer_at side node colour (branch side sibling red f.near f.far)) layers x short)) short b in
    (subst (λ o. StandsAt bytes path layers (branch side node colour x o) → IsShort (layer_at side node colour o ∷ layers) x → Lengthens bytes new last (layer_at side node colour o ∷ layers) x true) (sym f.tree_is) law) s short

pub by_borrow : (bytes new : List ℕ) (path last : Path) (side : Side) (node sibling : ℕ) (more : Bool) → target bytes (side_word node (opposite side)) ≡ Some sibling → colour_at bytes (Some sibling) ≡ Black
    → ((layers : List Layer) (x m d : Tree) (colour : Colour) → StandsAt bytes path layers (branch side node colour x (branch side sibling black m d)) → IsShort (layer_at side node colour (branch side sibling black m d) ∷ layers) x
    → IsBlack x
    → Lengthens bytes new last (layer_at side node colour (branch side sibling black m d) ∷ layers) x more)
    → (layers : List Layer) (x other : Tree) (colour : Colour) → StandsAt bytes path layers (branch side node colour x other) → IsShort (layer_at side node colour other ∷ layers) x → IsBlack x
    → Lengthens bytes new last (layer_at side node colour other ∷ layers) x more
by_borrow bytes new path last side node sibling more e is_black law layers x other colour s short b =
    let f = painted_fork bytes side sibling (target bytes (side_word node (opposite side))) other Black e is_black (beside_hangs bytes path layers side node colour x other s) in
    (subst (λ o. StandsAt bytes path layers (branch side node colour x o) → IsShort (layer_at side node colour o ∷ layers) x → IsBlack x
    → Lengthens bytes new last (layer_at side node colour o ∷ layers) x more) (sym f.tree_is) (law layers x f.near f.far colour)) s short b

pub no_sibling : (bytes : List ℕ) (path : Path) (side : Side) (node : ℕ) → target bytes (side_word node (opposite side)) ≡ None
    → (layers : List Layer) (x other : Tree) (colour : Colour) → StandsAt bytes path layers (branch side node colour x other) → IsShort (layer_at side node colour other ∷ layers) x → ⊥
no_sibling bytes path side node e layers x other colour s short =
    let none : other ≡ leaf = no_tree bytes other (subst (λ o. IsTree bytes o other) e (beside_hangs bytes path layers side node colour x other s)) in
    sibling_stands side node colour layers x (subst (λ o. IsShort (layer_at side node colour o ∷ layers) x) none short)

-- ---- one step

-- if the root of the short subtree is red, it is painted black
pub red_part : (bytes new : List ℕ) (path : Path) (to : Option ℕ) (node : ℕ) → to ≡ target bytes (last_word path.root path.steps.items) → to ≡ Some node → colour_at bytes to ≡ Red → new ≡ with_colour bytes node Black
    → (layers : List Layer) (x : Tree) → StandsAt bytes path layers x → IsShort layers x → Lengthens bytes new path layers x false
red_part bytes new path to node e1 e2 is_red e3 layers x s short =
    let named : target bytes (place path.root layers) ≡ Some node = ap (target bytes) (sym (path_word bytes path layers x s)) ∙ sym e1 ∙ e2 in
    let f = painted_fork bytes Left node (target bytes (place path.root layers)) x Red named (ap (colour_at bytes) (sym e2) ∙ is_red) (here bytes path layers x s) in
    let law = λ (s : StandsAt bytes path layers (fork f.near node red f.far)) (short : IsShort layers (fork f.near node red f.far)).
    let t : Turns bytes new (place path.root layers) (fork f.near node red f.far) (fork f.near node black f.far) = subst (λ b. Turns bytes b (place path.root layers) (fork f.near node red f.far) (fork f.near node black f.far)) (sym e3)
    (turns-painted bytes (place path.root layers) Left node red Black f.near f.far (here bytes path layers (fork f.near node red f.far) s) (here_apart bytes path layers (fork f.near node red f.far) s)) in
    let done : Lengthens bytes new path layers (fork f.near node red f.far) false = record {
      above = layers;
      part = fork f.near node black f.far;
      turned = turned_at bytes new path layers (fork f.near node red f.far) (fork f.near node black f.far) s t;
      nodes_are = nodes-plug (fork f.near node black f.far) (fork f.near node red f.far) layers refl;
      state = painted_black layers f.near f.far node short;
    } in done in
    (subst (λ o. StandsAt bytes path layers o → IsShort layers o → Lengthens bytes new path layers o false) (sym f.tree_is) law) s short

pub black_part : (bytes : List ℕ) (path : Path) (to : Option ℕ) → to ≡ target bytes (last_word path.root path.steps.items) → (colour_at bytes to ≡ Red → ⊥) → (layers : List Layer) (x : Tree) → StandsAt bytes path layers x → IsBlack x
black_part bytes path to e n layers x s =
    black_root bytes (target bytes (place path.root layers)) x (here bytes path layers x s)
    (ap (λ w. colour_at bytes (target bytes w)) (sym (path_word bytes path layers x s)) ∙ ap (colour_at bytes) (sym e) ∙ not_red_paint bytes to n)

-- if the path ends at the root, the whole tree is short, and so is a red-black tree
pub short_whole : (bytes : List ℕ) (path last : Path) → path.steps.items ≡ [] → last.root ≡ path.root → (layers : List Layer) (x : Tree) → StandsAt bytes path layers x → IsShort layers x → IsBlack x
    → Lengthens bytes bytes last layers x false
short_whole bytes path last e r [] x s short b = record {
  above = [];
  part = x;
  turned = subst (λ root. Turns bytes bytes root x x) (sym r) (turns-none bytes path.root x x s.hangs);
  nodes_are = refl;
  state = short_root x b short;
}
short_whole bytes path last e r (layer ∷ layers) x s short b =
    let long : length (steps_of (layer ∷ layers)) ≡ 0 = sym (ap length s.steps_are) ∙ ap length e in
    absurd (omega (arith, length-steps (layer ∷ layers)))

-- the last step of a path belongs to the innermost layer
pub step_up : (bytes : List ℕ) (path last : Path) (step : Step) (P : List Layer → Tree → Type 0) → path.steps.items ≡ last.steps.items ++ step ∷ [] → last.root ≡ path.root
    → ((layers : List Layer) (x other : Tree) (colour : Colour) → StandsAt bytes last layers (branch step.side step.node colour x other) → P (layer_at step.side step.node colour other ∷ layers) x)
    → (layers : List Layer) (x : Tree) → StandsAt bytes path layers x → P layers x
step_up bytes path last step P e r law [] x s =
    let long : length (last.steps.items ++ step ∷ []) ≡ 0 = sym (ap length e) ∙ ap length s.steps_are in
    absurd (omega (arith, length-append last.steps.items (step ∷ [])))
step_up bytes path last step P e r law (layer ∷ layers) x s =
    let both = snoc_parts (steps_of layers) last.steps.items (step_of layer) step (sym s.steps_are ∙ e) in
    let stands : StandsAt bytes last layers (branch layer.side layer.at layer.colour x layer.other) = record {
      steps_are = sym both.0;
      hangs = subst (λ root. IsTree bytes (target bytes root) (plug x (layer ∷ layers))) (sym r) s.hangs;
      apart = subst (λ root. StandApart (length bytes) root (nodes_of (plug x (layer ∷ layers)))) (sym r) s.apart;
    } in
    (subst (λ (t : Step). StandsAt bytes last layers (branch t.side t.node layer.colour x layer.other) → P (layer_at t.side t.node layer.colour layer.other ∷ layers) x) (sym both.1) (law layers x layer.other layer.colour)) stands
