-- A short subtree is repaired step by step.
use Rattle.std.proofs.Common.{◌≡◌, ℕ, ◌+◌, ◌≤◌, true, false, List, ◌∙◌, subst, arith}
use Rattle.seg_spec.specs.Shapes.{Tree, nodes_of}
use Rattle.seg_rbtree.specs.declared.path.Path.{Path}
use Rattle.seg_rbtree.specs.Ways.{Layer, plug, steps_of}
use Rattle.seg_rbtree.specs.Turns.{Turns}
use Rattle.seg_rbtree.specs.Removing.{StandsAt, IsShort, Lengthens, Restores, turns}
use Rattle.seg_rbtree.proofs.LocalChangeLaws.{turns-then, turns-room}
use Rattle.seg_rbtree.proofs.ShortSide.{turns_few}
use Rattle.seg_rbtree.proofs.ShortSubtreeStepLaws.{stands_again}

-- after some steps a subtree is still short, and few steps remain
pub record IsRestoring (old now : List ℕ) (first path : Path) (layers : List Layer) (tree : Tree) (count : ℕ) : Type 0 where
  pub above : List Layer
  pub part : Tree
  pub steps_are : path.steps.items ≡ steps_of above
  pub turned : Turns old now first.root (plug tree layers) (plug part above)
  pub nodes_are : nodes_of (plug part above) ≡ nodes_of (plug tree layers)
  pub short : IsShort above part
  pub left : count + turns above part ≤ 64

-- the short subtree is at the end of the path
pub restoring_stands : (old now : List ℕ) (first path : Path) (layers : List Layer) (tree : Tree) (count : ℕ) → path.root ≡ first.root → StandsAt old first layers tree → (i : IsRestoring old now first path layers tree count)
    → StandsAt now path i.above i.part
restoring_stands old now first path layers tree count r s i = stands_again old now first path layers i.above tree i.part s r i.steps_are i.turned i.nodes_are

module _ (old now new : List ℕ) (first path next : Path) (layers : List Layer) (tree : Tree) (count : ℕ) (r : path.root ≡ first.root) (q : next.root ≡ path.root) (i : IsRestoring old now first path layers tree count) where
  both_turned : (shape : Tree) → Turns now new next.root (plug i.part i.above) shape → Turns old new first.root (plug tree layers) shape
  both_turned shape t =
      turns-then old now new first.root (plug tree layers) (plug i.part i.above) shape i.turned
      (turns-room now new first.root (plug i.part i.above) (plug tree layers) shape i.nodes_are (subst (λ root. Turns now new root (plug i.part i.above) shape) (q ∙ r) t))

  -- one step more
  pub restoring_on : Lengthens now new next i.above i.part true → IsRestoring old new first next layers tree (count + 1)
  restoring_on l = record {
    above = l.above;
    part = l.part;
    steps_are = l.state.1;
    turned = both_turned (plug l.part l.above) l.turned;
    nodes_are = l.nodes_are ∙ i.nodes_are;
    short = l.state.0;
    left = omega (arith, l.state.2, i.left);
  }

  -- the last step
  pub restored : Lengthens now new next i.above i.part false → Restores old new first.root (plug tree layers)
  restored l = record {
    shape = plug l.part l.above;
    turned = both_turned (plug l.part l.above) l.turned;
    nodes_are = l.nodes_are ∙ i.nodes_are;
    red_black = l.state;
  }

-- the repair needs fewer than 64 steps
pub restoring_ends : (old now : List ℕ) (first path : Path) (layers : List Layer) (tree : Tree) (count : ℕ) → 64 ≤ count → IsRestoring old now first path layers tree count → ⊥
restoring_ends old now first path layers tree count m i = omega (arith, (turns_few i.above i.part i.short).0, i.left)
