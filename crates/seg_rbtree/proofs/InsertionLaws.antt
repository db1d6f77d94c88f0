-- A tree while a node is added to it.
use Rattle.std.proofs.Common.{◌≡◌, ◌≢◌, ℕ, ◌+◌, ◌*◌, ◌^◌, ◌<◌, ◌≤◌, List, [], ◌∷◌, length, Option, Some, None, MatchOption, refl, sym, ap, ◌∙◌, subst, arith}
use Rattle.std.specs.Cmp.{IsTotalOrder}
use Rattle.std.specs.List.{AllByRecursion}
use Rattle.std.specs.declared.cmp.Ordering.{Ordering}
use Rattle.std.specs.declared.cmp.Ordering.TheVariants.{Equal}
use Rattle.seg_spec.specs.Pointer.{target, set_pointer}
use Rattle.seg_spec.specs.Apart.{Separate}
use Rattle.seg_spec.specs.Shapes.{red, Tree, leaf, fork, nodes_of, IsTree, IsRedBlack}
use Rattle.seg_spec.specs.Search.{Ascend, IsSearchTree}
use Rattle.seg_spec.proofs.Values.PlaceFrameLaws.{each_left, each_right}
use Rattle.seg_rbtree.specs.declared.node.Side.{Side}
use Rattle.seg_rbtree.specs.declared.node.Side.TheVariants.{Left, Right}
use Rattle.seg_rbtree.specs.declared.step.Step.{Step}
use Rattle.seg_rbtree.specs.declared.path.Path.{Path}
use Rattle.seg_rbtree.specs.Nodes.{with_new_node}
use Rattle.seg_rbtree.specs.Ways.{Layer, branch, grow, plug, place, steps_of, last_word, LeadBy, EndsAt, LeadsTo}
use Rattle.seg_rbtree.specs.Changes.{StandApart, IsNew, with_node, KeepsBeside, Leaves}
use Rattle.seg_rbtree.specs.Balance.{Wants}
use Rattle.seg_rbtree.specs.Rising.{IsRising, IsSettled, Settles}
use Rattle.seg_rbtree.proofs.Apartness.{apart-down}
use Rattle.seg_rbtree.proofs.Steps.{last_word-steps}
use Rattle.seg_rbtree.proofs.WordWriteLaws.{keeps-trans, keeps-wider}
use Rattle.seg_rbtree.proofs.LocalChangeLaws.{turns-new, turns-whole}
use Rattle.seg_rbtree.proofs.Depth.{tall, deep-64, layers-deep}
use Rattle.seg_rbtree.proofs.PlacePathLaws.{length-steps}
use Rattle.seg_rbtree.proofs.Orders.{nodes-added, each_with, apart-with_node, length-with_node}
use Rattle.seg_rbtree.proofs.ColourLaws.{balanced-down}

-- a fact about each node of a tree is a fact about each node of a subtree
pub each-down : (P : ℕ → Type 0) (tree : Tree) (layers : List Layer) → AllByRecursion P (nodes_of (plug tree layers)) → AllByRecursion P (nodes_of tree)
each-down P tree [] h = h
each-down P tree (layer ∷ layers) h = go layer.side (each-down P (grow layer tree) layers h)
  where
    go : (side : Side) → AllByRecursion P (nodes_of (branch side layer.at layer.colour tree layer.other)) → AllByRecursion P (nodes_of tree)
    go Left k = each_left P (nodes_of tree) (layer.at ∷ nodes_of layer.other) k
    go Right k = (each_right P (nodes_of layer.other) (layer.at ∷ nodes_of tree) k).1

-- after some steps the tree is a red-black tree, or a red node may have a red parent
pub record IsGrowing (old new : List ℕ) (root : ℕ) (nodes : List ℕ) (steps : List Step) (rises : Option ℕ) (turns : ℕ) : Type 0 where
  pub kept : KeepsBeside old new root nodes
  pub state : MatchOption rises (IsSettled new root nodes) (λ node. IsRising new root steps nodes node × (length steps + 2 * turns ≤ 64))

-- one step more
pub grown : (old now new : List ℕ) (root : ℕ) (nodes : List ℕ) (steps rest : List Step) (rises result : Option ℕ) (node turns : ℕ) → rises ≡ Some node → IsGrowing old now root nodes steps rises turns
    → (IsRising now root steps nodes node → Settles now new root steps rest nodes result) → IsGrowing old new root nodes rest result (turns + 1)
grown old now new root nodes steps rest rises result node turns e g settle =
    let state : IsRising now root steps nodes node × (length steps + 2 * turns ≤ 64) = subst (λ o. MatchOption o (IsSettled now root nodes) (λ n. IsRising now root steps nodes n × (length steps + 2 * turns ≤ 64))) e g.state in
    let s = settle state.0 in
    record { kept = keeps-trans old now new root nodes g.kept s.kept; state = next result s.rises state.1 }
  where
    next : (o : Option ℕ) → MatchOption o (IsSettled new root nodes) (λ up. IsRising new root rest nodes up × (length rest + 2 ≤ length steps)) → length steps + 2 * turns ≤ 64
        → MatchOption o (IsSettled new root nodes) (λ n. IsRising new root rest nodes n × (length rest + 2 * (turns + 1) ≤ 64))
    next None m k = m
    next (Some up) m k = (m.0, omega (arith, m.1))

module _ (order : ℕ → ℕ → Ordering) (total : IsTotalOrder order) (old : List ℕ) (root node : ℕ) (shape : Tree) (few : length (nodes_of shape) + 1 < 2 ^ 32) where
  abbrev nodes : List ℕ
  nodes = with_node order node (nodes_of shape)

  leaves : (new : List ℕ) → KeepsBeside old new root nodes → IsSettled new root nodes → Leaves old new root (node ∷ nodes_of shape) nodes
  leaves new kept s = record {
    shape = s.shape;
    tree = record {
      is_tree = s.hangs;
      red_black = s.red_black;
      few = omega (arith, ap length s.nodes_are, length-with_node order node (nodes_of shape));
    };
    nodes_are = s.nodes_are;
    kept = keeps-wider old new root root nodes (node ∷ nodes_of shape) (λ p n h k. (h, each_with order node (λ q. Separate p n q 16) (nodes_of shape) k.0 k.1)) kept;
  }

  -- the repair has ended
  pub settled_end : (new : List ℕ) (steps : List Step) (rises : Option ℕ) (turns : ℕ) → rises ≡ None → IsGrowing old new root nodes steps rises turns → Leaves old new root (node ∷ nodes_of shape) nodes
  settled_end new steps rises turns e g =
      leaves new g.kept (subst (λ o. MatchOption o (IsSettled new root nodes) (λ n. IsRising new root steps nodes n × (length steps + 2 * turns ≤ 64))) e g.state)

  -- the repair ends within 64 steps
  pub settled_late : (new : List ℕ) (steps : List Step) (rises : Option ℕ) (turns : ℕ) → 64 ≤ turns → IsGrowing old new root nodes steps rises turns → Leaves old new root (node ∷ nodes_of shape) nodes
  settled_late new steps rises turns late g = leaves new g.kept (go rises g.state)
    where
      go : (o : Option ℕ) → MatchOption o (IsSettled new root nodes) (λ n. IsRising new root steps nodes n × (length steps + 2 * turns ≤ 64)) → IsSettled new root nodes
      go None m = m
      go (Some n) m = absurd (omega (arith, m.1))

  module _ (t : IsSearchTree old root shape) (ascends : Ascend order (nodes_of shape)) (apart : StandApart (length old) root (node ∷ nodes_of shape)) where
    abbrev leafy : Tree
    leafy = fork leaf node red leaf

    start_at : (steps : List Step) (layers : List Layer) → plug leaf layers ≡ shape → steps ≡ steps_of layers → LeadBy (order node) layers
        → IsGrowing old (set_pointer (with_new_node old node) (last_word root steps) (Some node)) root nodes steps (Some node) 0
    start_at steps layers whole e leads =
        let at : place root layers ≡ last_word root steps = sym (ap (last_word root) e ∙ last_word-steps root layers) in
        let added : nodes_of (plug leafy layers) ≡ nodes = nodes-added order node total leafy leaf layers leads (subst (λ s. Ascend order (nodes_of s)) (sym whole) ascends) refl ∙ ap (λ s. with_node order node (nodes_of s)) whole in
        let apart_new : StandApart (length old) root nodes = apart-with_node order node (length old) root (nodes_of shape) apart in
        let apart_plug : StandApart (length old) root (nodes_of (plug leafy layers)) = subst (StandApart (length old) root) (sym added) apart_new in
        let new = set_pointer (with_new_node old node) (place root layers) (Some node) in
        let one = turns-new old (place root layers) node (apart-down (length old) root leafy layers apart_plug) in
        let all = turns-whole old new root leaf leafy leafy layers (subst (IsTree old (target old root)) (sym whole) t.is_tree) apart_plug one in
        let b = balanced-down leaf layers (subst IsRedBlack (sym whole) t.red_black) in
        let low : b.height ≡ 0 = b.balanced in
        let deep : length layers + 0 ≤ tall shape = subst (λ s. length layers + 0 ≤ tall s) whole (layers-deep leaf layers) in
        let short : length steps + 2 * 0 ≤ 64 = omega (arith, ap length e, length-steps layers, deep-64 shape t.red_black t.few) in
        subst (λ q. IsGrowing old (set_pointer (with_new_node old node) q (Some node)) root nodes steps (Some node) 0) at (record {
          kept = subst (KeepsBeside old new root) added all.kept;
          state = (
            record {
              layers = layers;
              left = leaf;
              right = leaf;
              steps_are = e;
              hangs = all.hangs;
              nodes_are = added;
              apart = subst (λ n. StandApart n root nodes) (sym all.kept.length_kept) apart_new;
              height = 0;
              balanced = (tt, tt, refl, refl);
              wants = subst (Wants layers) low b.wants;
            },
            short,
          );
        })

    start_below : (steps : List Step) (layers : List Layer) (rest : Tree) → plug rest layers ≡ shape → steps ≡ steps_of layers → LeadBy (order node) layers → EndsAt (order node) rest
        → AllByRecursion (λ x. order node x ≢ Equal) (nodes_of rest)
        → IsGrowing old (set_pointer (with_new_node old node) (last_word root steps) (Some node)) root nodes steps (Some node) 0
    start_below steps layers leaf whole e leads ends new = start_at steps layers whole e leads
    start_below steps layers (fork left at colour right) whole e leads ends new = absurd ((each_right _ (nodes_of left) (at ∷ nodes_of right) new).0 ends)

    -- the new node is red, and at its place in the order
    pub growing_start : (path : Path) → IsNew order node (nodes_of shape) → LeadsTo (order node) shape path
        → IsGrowing old (set_pointer (with_new_node old node) (last_word root path.steps.items) (Some node)) root nodes path.steps.items (Some node) 0
    growing_start path new w =
        start_below path.steps.items w.layers w.rest w.shape_is w.steps_are w.leads w.ends (each-down _ w.rest w.layers (subst (λ s. IsNew order node (nodes_of s)) (sym w.shape_is) new))
