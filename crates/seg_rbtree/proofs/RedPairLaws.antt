-- Two red nodes in a row below a black node are repaired.
use Rattle.std.proofs.Common.{◌≡◌, ℕ, suc, List, length, refl, sym, ap, ◌∙◌, subst}
use Rattle.seg_spec.specs.Pointer.{target}
use Rattle.seg_spec.specs.Shapes.{Colour, black, red, Tree, fork, nodes_of, IsTree, IsBlack, IsBalanced}
use Rattle.seg_rbtree.specs.declared.node.Side.{Side}
use Rattle.seg_rbtree.specs.declared.node.Side.TheVariants.{Left, Right}
use Rattle.seg_rbtree.specs.declared.node.Colour.TheVariants.{Black, Red}
use Rattle.seg_rbtree.specs.Nodes.{side_word, opposite, with_colour, rotated, raised_up, rotated_and_coloured, straightened}
use Rattle.seg_rbtree.specs.Ways.{branch}
use Rattle.seg_rbtree.specs.Changes.{StandApart}
use Rattle.seg_rbtree.specs.Turns.{Turns}
use Rattle.seg_rbtree.proofs.Apartness.{parts-apart}
use Rattle.seg_rbtree.proofs.Branches.{branch-parts, branch-flip, nodes-rotated, nodes-branch}
use Rattle.seg_rbtree.proofs.LocalChangeLaws.{turns-then, turns-room, turns-up, turns-painted, turns-rotated}
use Rattle.seg_rbtree.proofs.ColourLaws.{black-branch, balanced-black, balanced-red, red-parts}

module _ (bytes : List ℕ) (at : ℕ) (side : Side) (node up : ℕ) (colour upper : Colour) (x m d : Tree) where
  abbrev before : Tree
  before = branch side node colour x (branch side up upper m d)

  abbrev after : Tree
  after = branch side up black (branch side node red x m) d

  abbrev first : List ℕ
  first = rotated bytes at node side

  abbrev second : List ℕ
  second = with_colour first up Black

  painted : IsTree bytes (target bytes at) before → StandApart (length bytes) at (nodes_of before) → Turns bytes (with_colour second node Red) at before after
  painted h apart =
      let low = branch side node colour x m in
      let one = turns-rotated bytes at side node up colour upper x m d h apart in
      let same : nodes_of (branch side up upper low d) ≡ nodes_of before = nodes-rotated side node up colour upper colour upper x m d in
      let apart_first : StandApart (length first) at (nodes_of (branch side up upper low d)) = subst (λ n. StandApart n at (nodes_of (branch side up upper low d))) (sym one.kept.length_kept)
      (subst (StandApart (length bytes) at) (sym same) apart) in
      let two = turns-painted first at side up upper Black low d one.hangs apart_first in
      let blacker : nodes_of (branch side up black low d) ≡ nodes_of (branch side up upper low d) = nodes-branch side up black upper low low d refl in
      let apart_second : StandApart (length second) at (nodes_of (branch side up black low d)) = subst (λ n. StandApart n at (nodes_of (branch side up black low d))) (sym two.kept.length_kept)
      (subst (StandApart (length first) at) (sym blacker) apart_first) in
      let parts = branch-parts second (target second at) side up black low d two.hangs in
      let apart_parts = parts-apart (length second) at side up black low d apart_second in
      let inner = turns-painted second (side_word up side) side node colour Red x m parts.near_hangs apart_parts.near_apart in
      let three = turns-up second (with_colour second node Red) at side up black low d low (branch side node red x m) two.hangs apart_second inner in
      turns-then bytes first (with_colour second node Red) at before (branch side up upper low d) after one
      (turns-then first second (with_colour second node Red) at before (branch side up black low d) after
      (turns-room first second at (branch side up upper low d) before (branch side up black low d) same two)
      (turns-room second (with_colour second node Red) at (branch side up black low d) before after (blacker ∙ same) three))

  -- the node moves down to a side and becomes red, and its child on the other side moves up and
  -- becomes black
  pub turns-raised : IsTree bytes (target bytes at) before → StandApart (length bytes) at (nodes_of before) → Turns bytes (rotated_and_coloured bytes at node side) at before after
  turns-raised h apart =
      let low = branch-parts bytes (target bytes at) side node colour x (branch side up upper m d) h in
      let high = branch-parts bytes (target bytes (side_word node (opposite side))) side up upper m d low.far_hangs in
      subst (λ o. Turns bytes (raised_up first node o) at before after) (sym high.named) (painted h apart)

-- the tree at the pointer word becomes a balanced black tree of the same nodes
pub record Straightens (old new : List ℕ) (at : ℕ) (before : Tree) (height : ℕ) : Type 0 where
  pub after : Tree
  pub turns : Turns old new at before after
  pub nodes_are : nodes_of after ≡ nodes_of before
  pub black_root : IsBlack after
  pub balanced : IsBalanced after (suc height)

-- both red nodes are on the same side
straight_on : (bytes : List ℕ) (at : ℕ) (way : Side) (g p : ℕ) (lower sibling uncle : Tree) (h : ℕ) → IsTree bytes (target bytes at) (branch way g black (branch way p red lower sibling) uncle)
    → StandApart (length bytes) at (nodes_of (branch way g black (branch way p red lower sibling) uncle)) → IsBalanced lower h → IsBlack sibling → IsBalanced sibling h → IsBlack uncle → IsBalanced uncle h
    → Straightens bytes (rotated_and_coloured bytes at g (opposite way)) at (branch way g black (branch way p red lower sibling) uncle) h
straight_on bytes at way g p lower sibling uncle h t apart bl ks bs ku bu =
    let before = branch way g black (branch way p red lower sibling) uncle in
    let side = opposite way in
    let other = branch side g black uncle (branch side p red sibling lower) in
    let e : before ≡ other = sym (ap (λ s. branch side g black uncle s) (branch-flip way p red sibling lower) ∙ branch-flip way g black uncle (branch way p red lower sibling)) in
    let up = turns-raised bytes at side g p black red uncle sibling lower (subst (IsTree bytes (target bytes at)) e t) (subst (λ s. StandApart (length bytes) at (nodes_of s)) e apart) in
    let after = branch side p black (branch side g red uncle sibling) lower in
    record {
      after = after;
      turns = turns-room bytes (rotated_and_coloured bytes at g side) at other before after (ap nodes_of (sym e)) up;
      nodes_are = nodes-rotated side g p black red red black uncle sibling lower ∙ ap nodes_of (sym e);
      black_root = black-branch side p (branch side g red uncle sibling) lower;
      balanced = balanced-black side p (branch side g red uncle sibling) lower h (balanced-red side g uncle sibling h ku ks bu bs) bl;
    }

-- the red nodes are on different sides, so the lower one moves up first
turned_back : (bytes : List ℕ) (at : ℕ) (way : Side) (g p n : ℕ) (m d sibling uncle : Tree) (h : ℕ) → IsTree bytes (target bytes at) (branch way g black (branch (opposite way) p red (branch way n red m d) sibling) uncle)
    → StandApart (length bytes) at (nodes_of (branch way g black (branch (opposite way) p red (branch way n red m d) sibling) uncle)) → IsBalanced (branch way n red m d) h → IsBlack sibling → IsBalanced sibling h → IsBlack uncle
    → IsBalanced uncle h
    → Straightens bytes (rotated_and_coloured (rotated bytes (side_word g way) p way) at g (opposite way)) at (branch way g black (branch (opposite way) p red (branch way n red m d) sibling) uncle) h
turned_back bytes at way g p n m d sibling uncle h t apart bl ks bs ku bu =
    let low = branch way p red sibling (branch way n red m d) in
    let high = branch way n red (branch way p red sibling m) d in
    let first = branch way g black (branch (opposite way) p red (branch way n red m d) sibling) uncle in
    let before = branch way g black low uncle in
    let e : first ≡ before = ap (λ s. branch way g black s uncle) (branch-flip way p red (branch way n red m d) sibling) in
    let t_before : IsTree bytes (target bytes at) before = subst (IsTree bytes (target bytes at)) e t in
    let apart_before : StandApart (length bytes) at (nodes_of before) = subst (λ s. StandApart (length bytes) at (nodes_of s)) e apart in
    let parts = branch-parts bytes (target bytes at) way g black low uncle t_before in
    let apart_parts = parts-apart (length bytes) at way g black low uncle apart_before in
    let new = rotated bytes (side_word g way) p way in
    let inner = turns-rotated bytes (side_word g way) way p n red red sibling m d parts.near_hangs apart_parts.near_apart in
    let one = turns-up bytes new at way g black low uncle low high t_before apart_before inner in
    let middle = branch way g black high uncle in
    let same : nodes_of middle ≡ nodes_of before = nodes-branch way g black black high low uncle (nodes-rotated way p n red red red red sibling m d) in
    let apart_middle : StandApart (length new) at (nodes_of middle) = subst (λ k. StandApart k at (nodes_of middle)) (sym one.kept.length_kept) (subst (StandApart (length bytes) at) (sym same) apart_before) in
    let q = red-parts way n m d h bl in
    let rest = straight_on new at way g n (branch way p red sibling m) d uncle h one.hangs apart_middle (balanced-red way p sibling m h ks q.near_black bs q.near_balanced) q.far_black q.far_balanced ku bu in
    let last = rotated_and_coloured new at g (opposite way) in
    record {
      after = rest.after;
      turns = turns-room bytes last at before first rest.after (ap nodes_of (sym e)) (turns-then bytes new last at before middle rest.after one (turns-room new last at middle before rest.after same rest.turns));
      nodes_are = rest.nodes_are ∙ same ∙ ap nodes_of (sym e);
      black_root = rest.black_root;
      balanced = rest.balanced;
    }

pub straightens : (bytes : List ℕ) (at : ℕ) (way : Side) (g : ℕ) (turn : Side) (p n : ℕ) (left right sibling uncle : Tree) (h : ℕ)
    → IsTree bytes (target bytes at) (branch way g black (branch turn p red (fork left n red right) sibling) uncle)
    → StandApart (length bytes) at (nodes_of (branch way g black (branch turn p red (fork left n red right) sibling) uncle)) → IsBalanced (fork left n red right) h → IsBlack sibling → IsBalanced sibling h → IsBlack uncle
    → IsBalanced uncle h
    → Straightens bytes (straightened bytes at g way p turn) at (branch way g black (branch turn p red (fork left n red right) sibling) uncle) h
straightens bytes at Left g Left p n left right sibling uncle h t apart bl ks bs ku bu = straight_on bytes at Left g p (fork left n red right) sibling uncle h t apart bl ks bs ku bu
straightens bytes at Left g Right p n left right sibling uncle h t apart bl ks bs ku bu = turned_back bytes at Left g p n left right sibling uncle h t apart bl ks bs ku bu
straightens bytes at Right g Left p n left right sibling uncle h t apart bl ks bs ku bu = turned_back bytes at Right g p n right left sibling uncle h t apart bl ks bs ku bu
straightens bytes at Right g Right p n left right sibling uncle h t apart bl ks bs ku bu = straight_on bytes at Right g p (fork left n red right) sibling uncle h t apart bl ks bs ku bu
