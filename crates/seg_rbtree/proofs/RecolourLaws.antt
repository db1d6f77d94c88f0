-- Two red nodes in a row below a black node: the black node's red children become black, or it
-- moves down.
use Rattle.std.proofs.Common.{◌≡◌, ℕ, suc, ◌+◌, ◌≤◌, inl, List, [], ◌∷◌, ◌++◌, length, Option, Some, None, refl, sym, ap, ◌∙◌, subst, length-append, arith}
use Rattle.seg_spec.specs.Pointer.{target}
use Rattle.seg_spec.specs.Shapes
use Rattle.seg_spec.specs.Shapes.{black, red, Tree, leaf, fork, nodes_of, HasColour, IsTree, IsBlack, IsBalanced}
use Rattle.seg_rbtree.specs.declared.node.Side.{Side}
use Rattle.seg_rbtree.specs.declared.node.Side.TheVariants.{Left, Right}
use Rattle.seg_rbtree.specs.declared.node.Colour.TheVariants.{Black, Red}
use Rattle.seg_rbtree.specs.declared.step.Step.{Step}
use Rattle.seg_rbtree.specs.Nodes.{side_word, opposite, colour_at, with_colour, straightened}
use Rattle.seg_rbtree.specs.Ways.{Layer, branch, plug, place, steps_of, last_word}
use Rattle.seg_rbtree.specs.Changes.{StandApart}
use Rattle.seg_rbtree.specs.Turns.{Turns}
use Rattle.seg_rbtree.specs.Balance.{Wants}
use Rattle.seg_rbtree.specs.Rising.{IsRising, Settles}
use Rattle.seg_rbtree.proofs.Apartness.{parts-apart, apart-down}
use Rattle.seg_rbtree.proofs.Branches.{branch-parts, branch-flip, nodes-branch, tree-down}
use Rattle.seg_rbtree.proofs.Steps.{last_word-steps}
use Rattle.seg_rbtree.proofs.LocalChangeLaws.{turns-then, turns-room, turns-up, turns-painted}
use Rattle.seg_rbtree.proofs.ColourLaws.{balanced-up, balanced-black, balanced-red, red-parts, black-branch}
use Rattle.seg_rbtree.proofs.RedPairLaws.{straightens}
use Rattle.seg_rbtree.proofs.RedPairStepLaws.{read-red, read-black, becomes, IsFamily}

-- a change of the far subtree of a node
pub turns-up_far : (old new : List ℕ) (at : ℕ) (side : Side) (node : ℕ) (colour : Shapes.Colour) (near x room y : Tree) → IsTree old (target old at) (branch side node colour near x)
    → StandApart (length old) at (nodes_of (branch side node colour near room))
    → Turns old new (side_word node (opposite side)) room y → Turns old new at (branch side node colour near room) (branch side node colour near y)
turns-up_far old new at side node colour near x room y h apart t =
    let back = λ (z : Tree). branch-flip side node colour z near in
    let up = turns-up old new at (opposite side) node colour x near room y (subst (IsTree old (target old at)) (sym (back x)) h) (subst (λ z. StandApart (length old) at (nodes_of z)) (sym (back room)) apart) t in
    subst (λ z. Turns old new at z (branch side node colour near y)) (back room) (subst (Turns old new at (branch (opposite side) node colour room near)) (back y) up)

module _ (bytes : List ℕ) (at : ℕ) (way : Side) (g : ℕ) (turn : Side) (p u : ℕ) (lower sibling left right : Tree) where
  abbrev parents : Shapes.Colour → Tree
  parents colour = branch turn p colour lower sibling

  abbrev uncles : Shapes.Colour → Tree
  uncles colour = fork left u colour right

  abbrev before : Tree
  before = branch way g black (parents red) (uncles red)

  abbrev after : Tree
  after = branch way g red (parents black) (uncles black)

  abbrev first : List ℕ
  first = with_colour bytes p Black

  abbrev second : List ℕ
  second = with_colour first u Black

  abbrev third : List ℕ
  third = with_colour second g Red

  pub nodes-parted : nodes_of after ≡ nodes_of before
  nodes-parted =
      nodes-branch way g red black (parents black) (parents red) (uncles black) (nodes-branch turn p black red lower lower sibling refl)
      ∙ far way
    where
      far : (w : Side) → nodes_of (branch w g black (parents red) (uncles black)) ≡ nodes_of (branch w g black (parents red) (uncles red))
      far Left = refl
      far Right = refl

  pub turns-parted : IsTree bytes (target bytes at) before → StandApart (length bytes) at (nodes_of before) → Turns bytes third at before after
  turns-parted h apart =
      let one_tree = branch way g black (parents black) (uncles red) in
      let two_tree = branch way g black (parents black) (uncles black) in
      let parts = branch-parts bytes (target bytes at) way g black (parents red) (uncles red) h in
      let apart_parts = parts-apart (length bytes) at way g black (parents red) (uncles red) apart in
      let low = turns-painted bytes (side_word g way) turn p red Black lower sibling parts.near_hangs apart_parts.near_apart in
      let one = turns-up bytes first at way g black (parents red) (uncles red) (parents red) (parents black) h apart low in
      let same_one : nodes_of one_tree ≡ nodes_of before = nodes-branch way g black black (parents black) (parents red) (uncles red) (nodes-branch turn p black red lower lower sibling refl) in
      let apart_one : StandApart (length first) at (nodes_of one_tree) = subst (λ n. StandApart n at (nodes_of one_tree)) (sym one.kept.length_kept) (subst (StandApart (length bytes) at) (sym same_one) apart) in
      let parts_one = branch-parts first (target first at) way g black (parents black) (uncles red) one.hangs in
      let apart_parts_one = parts-apart (length first) at way g black (parents black) (uncles red) apart_one in
      let far = turns-painted first (side_word g (opposite way)) Left u red Black left right parts_one.far_hangs apart_parts_one.far_apart in
      let two = turns-up_far first second at way g black (parents black) (uncles red) (uncles red) (uncles black) one.hangs apart_one far in
      let same_two : nodes_of two_tree ≡ nodes_of one_tree = same way in
      let apart_two : StandApart (length second) at (nodes_of two_tree) = subst (λ n. StandApart n at (nodes_of two_tree)) (sym two.kept.length_kept) (subst (StandApart (length first) at) (sym same_two) apart_one) in
      let three = turns-painted second at way g black Red (parents black) (uncles black) two.hangs apart_two in
      turns-then bytes first third at before one_tree after one
      (turns-then first second third at before two_tree after
      (turns-room first second at one_tree before two_tree same_one two)
      (turns-room second third at two_tree before after (same_two ∙ same_one) three))
    where
      same : (w : Side) → nodes_of (branch w g black (parents black) (uncles black)) ≡ nodes_of (branch w g black (parents black) (uncles red))
      same Left = refl
      same Right = refl

-- ---- one step

-- a red node at a place, whose parent may be red too
rising : (bytes : List ℕ) (root : ℕ) (steps : List Step) (nodes : List ℕ) (way : Side) (g : ℕ) (near far : Tree) (layers : List Layer) (height : ℕ) → steps ≡ steps_of layers
    → IsTree bytes (target bytes root) (plug (branch way g red near far) layers)
    → nodes_of (plug (branch way g red near far) layers) ≡ nodes → StandApart (length bytes) root nodes → IsBalanced (branch way g red near far) height → Wants layers height → IsRising bytes root steps nodes g
rising bytes root steps nodes Left g near far layers height e h n apart b w = record { layers = layers; left = near; right = far; steps_are = e; hangs = h; nodes_are = n; apart = apart; height = height; balanced = b; wants = w }
rising bytes root steps nodes Right g near far layers height e h n apart b w = record { layers = layers; left = far; right = near; steps_are = e; hangs = h; nodes_are = n; apart = apart; height = height; balanced = b; wants = w }

-- a tree with this red node as its root
pub record IsRedTree (tree : Tree) (u : ℕ) : Type 0 where
  pub left : Tree
  pub right : Tree
  pub tree_is : tree ≡ fork left u red right

red_tree : (bytes : List ℕ) (tree : Tree) (u : ℕ) → IsTree bytes (Some u) tree → colour_at bytes (Some u) ≡ Red → IsRedTree tree u
red_tree bytes leaf u h c = absurd h
red_tree bytes (fork left at colour right) u h c =
    let is_red : colour ≡ red = read-red bytes u colour h.1 c in
    record { left = left; right = right; tree_is = ap (λ q. fork left q colour right) h.0 ∙ ap (λ q. fork left u q right) is_red }

pub black_tree : (bytes : List ℕ) (to : Option ℕ) (tree : Tree) → IsTree bytes to tree → (colour_at bytes to ≡ Red → ⊥) → IsBlack tree
black_tree bytes None leaf h c = tt
black_tree bytes None (fork left at colour right) h c = absurd h
black_tree bytes (Some u) leaf h c = absurd h
black_tree bytes (Some u) (fork left at colour right) h c =
    let is_black : colour ≡ black = read-black bytes u colour h.1 c in
    subst (λ q. IsBlack (fork left at q right)) (sym is_black) tt

module _ (bytes : List ℕ) (root : ℕ) (nodes : List ℕ) (node : ℕ) (parent grandparent : Step) (steps rest more : List Step) (f : IsFamily bytes root nodes node parent grandparent more) where
  abbrev p : ℕ
  p = parent.node

  abbrev g : ℕ
  g = grandparent.node

  abbrev way : Side
  way = grandparent.side

  abbrev low : Tree
  low = branch parent.side p red (fork f.left node red f.right) f.sibling

  at_grandparent : IsTree bytes (target bytes (place root f.layers)) (branch way g black low f.uncle)
  at_grandparent = tree-down bytes root (branch way g black low f.uncle) f.layers f.hangs

  apart_there : StandApart (length bytes) (place root f.layers) (nodes_of (branch way g black low f.uncle))
  apart_there = apart-down (length bytes) root (branch way g black low f.uncle) f.layers (subst (StandApart (length bytes) root) (sym f.nodes_are) f.apart)

  shorter : steps ≡ rest ++ parent ∷ [] → rest ≡ more ++ grandparent ∷ [] → length more + 2 ≤ length steps
  shorter e d = omega (arith, ap length e, ap length d, length-append rest (parent ∷ []), length-append more (grandparent ∷ []))

  uncle_hangs : (to : Option ℕ) → to ≡ target bytes (side_word g (opposite way)) → IsTree bytes to f.uncle
  uncle_hangs to e = subst (λ o. IsTree bytes o f.uncle) (sym e) (branch-parts bytes (target bytes (place root f.layers)) way g black low f.uncle at_grandparent).far_hangs

  parted : (u : ℕ) (left right : Tree) → f.uncle ≡ fork left u red right → length more + 2 ≤ length steps → Settles bytes (with_colour (with_colour (with_colour bytes p Black) u Black) g Red) root steps more nodes (Some g)
  parted u left right e short =
      let lower = fork f.left node red f.right in
      let before = branch way g black low (fork left u red right) in
      let after = branch way g red (branch parent.side p black lower f.sibling) (fork left u black right) in
      let new = with_colour (with_colour (with_colour bytes p Black) u Black) g Red in
      let whole : branch way g black low f.uncle ≡ before = ap (λ t. branch way g black low t) e in
      let turned = turns-parted bytes (place root f.layers) way g parent.side p u lower f.sibling left right (subst (IsTree bytes (target bytes (place root f.layers))) whole at_grandparent)
      (subst (λ t. StandApart (length bytes) (place root f.layers) (nodes_of t)) whole apart_there) in
      let all = becomes bytes new root nodes before after f.layers (subst (λ t. IsTree bytes (target bytes root) (plug t f.layers)) whole f.hangs) (subst (λ t. nodes_of (plug t f.layers) ≡ nodes) whole f.nodes_are) f.apart turned
      (nodes-parted bytes (place root f.layers) way g parent.side p u lower f.sibling left right) in
      let uncle_fine : IsBalanced (fork left u red right) f.height = subst (λ t. IsBalanced t f.height) e f.uncle_balanced in
      let parts = red-parts Left u left right f.height uncle_fine in
      let uncle_now : IsBalanced (fork left u black right) (suc f.height) = balanced-black Left u left right f.height parts.near_balanced parts.far_balanced in
      let parent_now : IsBalanced (branch parent.side p black lower f.sibling) (suc f.height) = balanced-black parent.side p lower f.sibling f.height f.balanced f.sibling_balanced in
      record {
        kept = all.kept;
        rises = (
          rising new root more nodes way g (branch parent.side p black lower f.sibling) (fork left u black right) f.layers (suc f.height) f.rest_are all.hangs all.nodes_are all.apart
              (balanced-red way g (branch parent.side p black lower f.sibling) (fork left u black right) (suc f.height) (black-branch parent.side p lower f.sibling) tt parent_now uncle_now) f.wants,
          short,
        );
      }

  -- the uncle is red: the grandparent becomes red, and both of its children become black
  pub settled_parting : (to : Option ℕ) (u : ℕ) → steps ≡ rest ++ parent ∷ [] → rest ≡ more ++ grandparent ∷ [] → to ≡ target bytes (side_word g (opposite way)) → to ≡ Some u → colour_at bytes (Some u) ≡ Red
      → Settles bytes (with_colour (with_colour (with_colour bytes p Black) u Black) g Red) root steps more nodes (Some g)
  settled_parting to u e d at is c =
      let t = red_tree bytes f.uncle u (subst (λ o. IsTree bytes o f.uncle) is (uncle_hangs to at)) c in
      parted u t.left t.right t.tree_is (shorter e d)

  -- the uncle is black: the middle one of the three nodes moves up
  pub settled_straight : (to : Option ℕ) (word : ℕ) → to ≡ target bytes (side_word g (opposite way)) → (colour_at bytes to ≡ Red → ⊥) → word ≡ last_word root more
      → Settles bytes (straightened bytes word g way p parent.side) root steps more nodes None
  settled_straight to word at c e =
      let uncle_black : IsBlack f.uncle = black_tree bytes to f.uncle (uncle_hangs to at) c in
      let here : word ≡ place root f.layers = e ∙ ap (last_word root) f.rest_are ∙ last_word-steps root f.layers in
      let new = straightened bytes (place root f.layers) g way p parent.side in
      let straight = straightens bytes (place root f.layers) way g parent.side p node f.left f.right f.sibling f.uncle f.height at_grandparent apart_there f.balanced f.sibling_black f.sibling_balanced uncle_black f.uncle_balanced in
      let all = becomes bytes new root nodes (branch way g black low f.uncle) straight.after f.layers f.hangs f.nodes_are f.apart straight.turns straight.nodes_are in
      subst (λ q. Settles bytes (straightened bytes q g way p parent.side) root steps more nodes None) (sym here) (record {
        kept = all.kept;
        rises = record {
          shape = plug straight.after f.layers;
          hangs = all.hangs;
          nodes_are = all.nodes_are;
          red_black = balanced-up straight.after f.layers (record { height = suc f.height; balanced = straight.balanced; wants = f.wants; top = inl straight.black_root });
        };
      })
