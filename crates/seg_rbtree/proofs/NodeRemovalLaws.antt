-- The bytes after a node is removed from a tree.
use Rattle.std.proofs.Common.{◌≡◌, ◌≢◌, ℕ, ◌+◌, ◌^◌, ◌<◌, ◌≤◌, Bool, not, true, false, List, [], ◌∷◌, ◌++◌, length, Option, Some, None, refl, sym, ap, ◌∙◌, subst, arith, append_assoc}
use Rattle.std.proofs.lemmas.List.{length-append, append-nil}
use Rattle.std.specs.List.{AllByRecursion}
use Rattle.std.specs.Option.{is_some}
use Rattle.seg_spec.specs.Pointer.{target, set_pointer}
use Rattle.seg_spec.specs.Shapes.{Colour, Tree, leaf, fork, nodes_of, IsTree, IsRedBlack}
use Rattle.seg_rbtree.specs.declared.node.Side.{Side}
use Rattle.seg_rbtree.specs.declared.node.Side.TheVariants.{Left, Right}
use Rattle.seg_rbtree.specs.declared.node.Colour.{Colour as Paint}
use Rattle.seg_rbtree.specs.declared.node.Colour.TheVariants.{Black, Red}
use Rattle.seg_rbtree.specs.declared.path.Path.{Path}
use Rattle.seg_rbtree.specs.Nodes.{side_word, opposite, shade, colour_at}
use Rattle.seg_spec.specs.Search.{IsSearchTree}
use Rattle.seg_rbtree.specs.Ways.{Layer, branch, grow, plug, place, step_of, steps_of, last_word}
use Rattle.seg_rbtree.specs.Changes.{StandApart, NodesApart}
use Rattle.seg_rbtree.specs.Following.{IsPartAt}
use Rattle.seg_rbtree.specs.Turns.{Turns}
use Rattle.seg_rbtree.specs.Removing.{layer_at, StandsAt, IsLeft, Loses, AreLeft, Unlinks, Descends}
use Rattle.seg_rbtree.proofs.Apartness.{parts-apart}
use Rattle.seg_rbtree.proofs.Branches.{branch-parts, fork_at, tree-down}
use Rattle.seg_rbtree.proofs.LowNodes.{root_low}
use Rattle.seg_rbtree.proofs.LocalChangeLaws.{turns-hung}
use Rattle.seg_rbtree.proofs.Depth.{deep-64, layers-deep}
use Rattle.seg_rbtree.proofs.NodeUnlinkLaws.{lone_lost, red_unlinked, black_unlinked}
use Rattle.seg_rbtree.proofs.PlacePathLaws.{length-steps}
use Rattle.seg_rbtree.proofs.Steps.{last_word-steps}
use Rattle.seg_rbtree.proofs.ShortSubtreeStepLaws.{path_word, turned_at, here, here_apart, no_tree, painted_fork}

-- ---- paths that are joined

pub plug_on : (tree : Tree) (lower upper : List Layer) → plug tree (lower ++ upper) ≡ plug (plug tree lower) upper
plug_on tree [] upper = refl
plug_on tree (layer ∷ lower) upper = plug_on (grow layer tree) lower upper

pub place_on : (root : ℕ) (lower upper : List Layer) → place root (lower ++ upper) ≡ place (place root upper) lower
place_on root [] upper = refl
place_on root (layer ∷ lower) upper = refl

pub steps_on : (lower upper : List Layer) → steps_of (lower ++ upper) ≡ steps_of upper ++ steps_of lower
steps_on [] upper = sym (append-nil (steps_of upper))
steps_on (layer ∷ lower) upper = ap (λ ss. ss ++ step_of layer ∷ []) (steps_on lower upper) ∙ append_assoc (steps_of upper) (steps_of lower) (step_of layer ∷ [])

-- the path has room for one step more above a node
pub room_above : (layers : List Layer) (left right : Tree) (at : ℕ) (colour : Colour) → IsRedBlack (plug (fork left at colour right) layers) → length (nodes_of (plug (fork left at colour right) layers)) < 2 ^ 32 → length layers < 64
room_above layers left right at colour r few =
    omega (arith, deep-64 (plug (fork left at colour right) layers) r few, layers-deep (fork left at colour right) layers)

-- ---- fewer nodes

pub each_lost : (P : ℕ → Type 0) (node : ℕ) (old new : List ℕ) → Loses node old new → AllByRecursion P old → AllByRecursion P new
each_lost P node old new l a = subst (λ ns. AllByRecursion P ns) (sym l.new_is) (go l.front (subst (λ ns. AllByRecursion P ns) l.old_is a))
  where
    go : (xs : List ℕ) → AllByRecursion P (xs ++ node ∷ l.back) → AllByRecursion P (xs ++ l.back)
    go [] a = a.1
    go (x ∷ xs) a = (a.0, go xs a.1)

pub each_without : (P : ℕ → Type 0) (node : ℕ) (xs ys : List ℕ) → AllByRecursion P (xs ++ node ∷ ys) → AllByRecursion P (xs ++ ys)
each_without P node [] ys a = a.1
each_without P node (x ∷ xs) ys a = (a.0, each_without P node xs ys a.1)

apart_without : (node : ℕ) (xs ys : List ℕ) → NodesApart (xs ++ node ∷ ys) → NodesApart (xs ++ ys)
apart_without node [] ys a = a.1
apart_without node (x ∷ xs) ys a = (each_without _ node xs ys a.0, apart_without node xs ys a.1)

pub apart_lost : (len word node : ℕ) (old new : List ℕ) → Loses node old new → StandApart len word old → StandApart len word new
apart_lost len word node old new l a = record {
  small = a.small;
  word_fits = a.word_fits;
  nodes_fit = each_lost _ node old new l a.nodes_fit;
  word_apart = each_lost _ node old new l a.word_apart;
  nodes_apart = subst (λ ns. NodesApart ns) (sym l.new_is) (apart_without node l.front l.back (subst (λ ns. NodesApart ns) l.old_is a.nodes_apart));
}

-- ---- a node with at most one child

pub lone_turned : (bytes : List ℕ) (at : ℕ) (side : Side) (node : ℕ) (colour : Colour) (only : Tree) → IsTree bytes (target bytes at) (branch side node colour leaf only)
    → StandApart (length bytes) at (nodes_of (branch side node colour leaf only))
    → Turns bytes (set_pointer bytes at (target bytes (side_word node (opposite side)))) at (branch side node colour leaf only) only
lone_turned bytes at side node colour only h a =
    let p = parts-apart (length bytes) at side node colour leaf only a in
    let apart : StandApart (length bytes) at (nodes_of only) = record { small = a.small; word_fits = a.word_fits; nodes_fit = p.far_apart.nodes_fit; word_apart = p.word_far; nodes_apart = p.far_apart.nodes_apart } in
    turns-hung bytes at (target bytes (side_word node (opposite side))) (branch side node colour leaf only) only apart (branch-parts bytes (target bytes at) side node colour leaf only h).far_hangs

left_state : (layers : List Layer) (side : Side) (only : Tree) (node : ℕ) (gone : Paint) → IsRedBlack (plug (branch side node (shade gone) leaf only) layers)
    → length (nodes_of (plug (branch side node (shade gone) leaf only) layers)) < 2 ^ 32 → IsLeft gone layers only
left_state layers side only node Black r few = black_unlinked layers side only node r few
left_state layers side only node Red r few = red_unlinked layers side only node r

-- a tree whose root lacks a child on a side
pub record IsLone (side : Side) (node : ℕ) (colour : Colour) (tree : Tree) : Type 0 where
  pub only : Tree
  pub tree_is : tree ≡ branch side node colour leaf only

pub lone_root : (bytes : List ℕ) (side : Side) (node : ℕ) (to : Option ℕ) (tree : Tree) (paint : Paint) → to ≡ Some node → paint ≡ colour_at bytes (Some node) → target bytes (side_word node side) ≡ None → IsTree bytes to tree
    → IsLone side node (shade paint) tree
lone_root bytes side node to tree paint e p n h =
    let f = painted_fork bytes side node to tree paint e (sym p) h in
    let parts = branch-parts bytes to side node (shade paint) f.near f.far (subst (λ t. IsTree bytes to t) f.tree_is h) in
    let none : f.near ≡ leaf = no_tree bytes f.near (subst (λ o. IsTree bytes o f.near) n parts.near_hangs) in
    record { only = f.far; tree_is = f.tree_is ∙ ap (λ t. branch side node (shade paint) t f.far) none }

pub lone_unlinked : (bytes new : List ℕ) (path : Path) (node : ℕ) (empty : Side) (gone : Paint) → gone ≡ colour_at bytes (Some node) → target bytes (side_word node empty) ≡ None
    → new ≡ set_pointer bytes (last_word path.root path.steps.items) (target bytes (side_word node (opposite empty)))
    → (layers : List Layer) (tree : Tree) → StandsAt bytes path layers tree → IsRedBlack (plug tree layers) → length (nodes_of (plug tree layers)) < 2 ^ 32 → target bytes (place path.root layers) ≡ Some node
    → Unlinks bytes new path layers tree node gone
lone_unlinked bytes new path node empty gone eg en e3 layers tree s r few named =
    let f = lone_root bytes empty node (target bytes (place path.root layers)) tree gone named eg en (here bytes path layers tree s) in
    let old = branch empty node (shade gone) leaf f.only in
    let law = λ (s : StandsAt bytes path layers old) (r : IsRedBlack (plug old layers)) (few : length (nodes_of (plug old layers)) < 2 ^ 32).
    let w = path_word bytes path layers old s in
    let t : Turns bytes new (place path.root layers) old f.only = subst (λ b. Turns bytes b (place path.root layers) old f.only) (sym (e3 ∙ ap (λ q. set_pointer bytes q (target bytes (side_word node (opposite empty)))) w))
    (lone_turned bytes (place path.root layers) empty node (shade gone) f.only (here bytes path layers old s) (here_apart bytes path layers old s)) in
    let done : Unlinks bytes new path layers old node gone = record {
      above = layers;
      part = f.only;
      steps_are = s.steps_are;
      turned = turned_at bytes new path layers old f.only s t;
      lost = lone_lost layers empty f.only node (shade gone);
      state = left_state layers empty f.only node gone r few;
    } in done in
    (subst (λ o. StandsAt bytes path layers o → IsRedBlack (plug o layers) → length (nodes_of (plug o layers)) < 2 ^ 32 → Unlinks bytes new path layers o node gone) (sym f.tree_is) law) s r few

-- ---- the path to the first node below a place

-- a subtree of a red-black tree, whose nodes don't overlap, is part of a search tree
pub as_part : (bytes now : List ℕ) (path : Path) (layers : List Layer) (tree : Tree) → now ≡ bytes → StandsAt bytes path layers tree → IsRedBlack (plug tree layers) → length (nodes_of (plug tree layers)) < 2 ^ 32
    → IsPartAt now path layers tree
as_part bytes now path layers tree e s r few =
    subst (λ bs. IsPartAt bs path layers tree) (sym e) (record { steps_are = s.steps_are; whole = record { is_tree = s.hangs; red_black = r; few = few } })

pub part_word : (bytes : List ℕ) (path : Path) (layers : List Layer) (tree : Tree) → IsPartAt bytes path layers tree → last_word path.root path.steps.items ≡ place path.root layers
part_word bytes path layers tree s = ap (last_word path.root) s.steps_are ∙ last_word-steps path.root layers

pub part_here : (bytes : List ℕ) (path : Path) (layers : List Layer) (tree : Tree) → IsPartAt bytes path layers tree → IsTree bytes (target bytes (place path.root layers)) tree
part_here bytes path layers tree s = tree-down bytes path.root tree layers s.whole.is_tree

-- the path goes some steps further, all to the left
pub record IsDescending (bytes : List ℕ) (path : Path) (layers : List Layer) (tree : Tree) (first count : ℕ) : Type 0 where
  pub lower : List Layer
  pub left : Tree
  pub tint : Colour
  pub right : Tree
  pub tree_is : tree ≡ plug (fork left first tint right) lower
  pub leftward : AreLeft lower
  pub steps_are : path.steps.items ≡ steps_of (lower ++ layers)
  pub left_hangs : IsTree bytes (target bytes first) left
  pub count_is : count ≡ length lower

pub descending_start : (bytes : List ℕ) (path : Path) (first : ℕ) (layers : List Layer) (tree : Tree) → IsPartAt bytes path layers tree → target bytes (place path.root layers) ≡ Some first → IsDescending bytes path layers tree first 0
descending_start bytes path first layers tree s named = start tree (subst (λ o. IsTree bytes o tree) named (part_here bytes path layers tree s))
  where
    start : (tree : Tree) → IsTree bytes (Some first) tree → IsDescending bytes path layers tree first 0
    start leaf h = absurd h
    start (fork l a c r) h = record { lower = []; left = l; tint = c; right = r; tree_is = ap (λ p. fork l p c r) h.0; leftward = tt; steps_are = s.steps_are; left_hangs = h.2; count_is = refl }

pub descending_on : (bytes : List ℕ) (path next : Path) (layers : List Layer) (tree : Tree) (first left count : ℕ) (to : Option ℕ) → to ≡ target bytes first → to ≡ Some left
    → next.steps.items ≡ path.steps.items ++ record { node = first; side = Left } ∷ []
    → IsDescending bytes path layers tree first count → IsDescending bytes next layers tree left (count + 1)
descending_on bytes path next layers tree first left count to e n p d = go d.left d.tree_is (subst (λ o. IsTree bytes o d.left) (sym e ∙ n) d.left_hangs)
  where
    go : (t : Tree) → tree ≡ plug (fork t first d.tint d.right) d.lower → IsTree bytes (Some left) t → IsDescending bytes next layers tree left (count + 1)
    go leaf is h = absurd h
    go (fork l a c r) is h = record {
      lower = layer_at Left first d.tint d.right ∷ d.lower;
      left = l;
      tint = c;
      right = r;
      tree_is = is ∙ ap (λ q. plug (fork (fork l q c r) first d.tint d.right) d.lower) h.0;
      leftward = (refl, d.leftward);
      steps_are = p ∙ ap (λ ss. ss ++ record { node = first; side = Left } ∷ []) d.steps_are;
      left_hangs = h.2;
      count_is = omega (arith, d.count_is);
    }

pub descended : (bytes : List ℕ) (path : Path) (layers : List Layer) (tree : Tree) (first count : ℕ) (to : Option ℕ) → to ≡ target bytes first → to ≡ None → IsDescending bytes path layers tree first count
    → Descends path layers tree (Some first)
descended bytes path layers tree first count to e n d =
    let none : d.left ≡ leaf = no_tree bytes d.left (subst (λ o. IsTree bytes o d.left) (sym e ∙ n) d.left_hangs) in
    record {
      lower = d.lower;
      next = first;
      tint = d.tint;
      only = d.right;
      result_is = refl;
      tree_is = d.tree_is ∙ ap (λ t. plug (fork t first d.tint d.right) d.lower) none;
      leftward = d.leftward;
      steps_are = d.steps_are;
    }

-- the position of the path's last node is below 2^31
pub descending_low : (bytes : List ℕ) (path now : Path) (layers : List Layer) (tree : Tree) (first count : ℕ) → length bytes ≤ 2 ^ 30 → IsPartAt bytes path layers tree → IsDescending bytes now layers tree first count → first < 2 ^ 31
descending_low bytes path now layers tree first count small s d =
    let at = place path.root layers in
    let part = fork d.left first d.tint d.right in
    root_low bytes (place at d.lower) Left first d.tint d.left d.right small (tree-down bytes at part d.lower (subst (λ t. IsTree bytes (target bytes at) t) d.tree_is (part_here bytes path layers tree s)))

-- the path has room for the next step
pub descending_room : (bytes : List ℕ) (path : Path) (layers : List Layer) (tree : Tree) (first count : ℕ) → IsRedBlack (plug tree layers) → length (nodes_of (plug tree layers)) < 2 ^ 32 → IsDescending bytes path layers tree first count
    → length path.steps.items < 64
descending_room bytes path layers tree first count r few d =
    let same : plug tree layers ≡ plug (fork d.left first d.tint d.right) (d.lower ++ layers) = ap (λ t. plug t layers) d.tree_is ∙ sym (plug_on (fork d.left first d.tint d.right) d.lower layers) in
    let long : length path.steps.items ≡ length (d.lower ++ layers) = ap length d.steps_are ∙ length-steps (d.lower ++ layers) in
    let room : length (d.lower ++ layers) < 64 = room_above (d.lower ++ layers) d.left d.right first d.tint (subst (λ t. IsRedBlack t) same r) (subst (λ t. length (nodes_of t) < 2 ^ 32) same few) in
    omega arith

pub descending_few : (bytes : List ℕ) (path : Path) (layers : List Layer) (tree : Tree) (first count : ℕ) → IsRedBlack (plug tree layers) → length (nodes_of (plug tree layers)) < 2 ^ 32 → IsDescending bytes path layers tree first count
    → count < 64
descending_few bytes path layers tree first count r few d =
    let long : length path.steps.items ≡ length (d.lower ++ layers) = ap length d.steps_are ∙ length-steps (d.lower ++ layers) in
    omega (arith, descending_room bytes path layers tree first count r few d, length-append d.lower layers, d.count_is)

-- one step goes right
pub stepped : (bytes : List ℕ) (path next : Path) (layers : List Layer) (left right : Tree) (node : ℕ) (colour : Colour) → length bytes ≤ 2 ^ 30 → IsPartAt bytes path layers (fork left node colour right) → next.root ≡ path.root
    → (node < 2 ^ 31 → next.steps.items ≡ path.steps.items ++ record { node = node; side = Right } ∷ [])
    → IsPartAt bytes next (layer_at Right node colour left ∷ layers) right
stepped bytes path next layers left right node colour small s r p = record {
  steps_are = p (root_low bytes (place path.root layers) Left node colour left right small (part_here bytes path layers (fork left node colour right) s)) ∙ ap (λ ss. ss ++ record { node = node; side = Right } ∷ []) s.steps_are;
  whole = subst (λ root. IsSearchTree bytes root (plug (fork left node colour right) layers)) (sym r) s.whole;
}

pub step_room : (bytes : List ℕ) (path : Path) (layers : List Layer) (left right : Tree) (node : ℕ) (colour : Colour) → IsPartAt bytes path layers (fork left node colour right) → length path.steps.items < 64
step_room bytes path layers left right node colour s =
    let long : length path.steps.items ≡ length layers = ap length s.steps_are ∙ length-steps layers in omega (arith, room_above layers left right node colour s.whole.red_black s.whole.few)

-- ---- a node with any number of children

pub any_unlinked : (bytes new : List ℕ) (path last : Path) (node : ℕ) (gone : Paint) → (target bytes (node + 4) ≡ None → ⊥)
    → ((layers : List Layer) (left right : Tree) (colour : Colour) → StandsAt bytes path layers (fork left node colour right) → IsRedBlack (plug (fork left node colour right) layers)
    → length (nodes_of (plug (fork left node colour right) layers)) < 2 ^ 32
    → target bytes (node + 4) ≢ None → Unlinks bytes new last layers (fork left node colour right) node gone)
    → (layers : List Layer) (tree : Tree) → StandsAt bytes path layers tree → IsRedBlack (plug tree layers) → length (nodes_of (plug tree layers)) < 2 ^ 32 → target bytes (place path.root layers) ≡ Some node
    → Unlinks bytes new last layers tree node gone
any_unlinked bytes new path last node gone some law layers tree s r few named =
    let f = fork_at bytes Left node (target bytes (place path.root layers)) tree named (here bytes path layers tree s) in
    (subst (λ t. StandsAt bytes path layers t → IsRedBlack (plug t layers) → length (nodes_of (plug t layers)) < 2 ^ 32 → Unlinks bytes new last layers t node gone) (sym f.tree_is) (λ s r few. law layers f.near f.far f.colour s r few some))
    s r few

pub nothing_there : (o : Option ℕ) (r : Bool) → is_some o ≡ not r → r ≡ true → o ≡ None
nothing_there None r e t = refl
nothing_there (Some x) r e t = let f = ap not t in cc

pub something_there : (o : Option ℕ) (r : Bool) → is_some o ≡ not r → r ≡ false → o ≡ None → ⊥
something_there None r e t n = let f = ap not t in cc
something_there (Some x) r e t n = cc
