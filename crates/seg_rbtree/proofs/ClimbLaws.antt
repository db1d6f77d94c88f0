-- From a place in a tree to the next node in order.
use Rattle.std.proofs.Common.{◌≡◌, ◌≢◌, ℕ, ◌+◌, ◌≤◌, Bool, true, false, List, [], ◌∷◌, ◌++◌, Option, Some, None, MatchOption, refl, sym, ap, ◌∙◌, subst, append_assoc, arith}
use Rattle.std.specs.Prelude.{slice_get}
use Rattle.std.specs.Option.{option_or}
use Rattle.std.specs.List.{AllByRecursion}
use Rattle.std.specs.Ordering.{ordering_reverse}
use Rattle.std.specs.declared.cmp.Ordering.{Ordering}
use Rattle.std.specs.declared.cmp.Ordering.TheVariants.{Less, Equal, Greater}
use Rattle.std.proofs.lemmas.List.{append-nil}
use Rattle.seg_spec.specs.Pointer.{target}
use Rattle.seg_spec.specs.Shapes.{Colour, Tree, leaf, fork, nodes_of, IsTree}
use Rattle.seg_spec.specs.Search.{rank_of, reaches, Ascend, first_where, IsSearchTree}
use Rattle.seg_spec.proofs.Values.PlaceFrameLaws.{each_left, each_right, each_weaker}
use Rattle.seg_rbtree.specs.declared.node.Side.{Side}
use Rattle.seg_rbtree.specs.declared.node.Side.TheVariants.{Left, Right}
use Rattle.seg_rbtree.specs.declared.path.Path.{Path}
use Rattle.seg_rbtree.specs.declared.step.Step.{Step}
use Rattle.seg_rbtree.specs.Ways.{Layer, branch, grow, plug, place, step_of, steps_of, last_word, turn_of, LeadBy, EndsAt, LeadsTo, IsWayIn, before, following, nodes_before, nodes_after, after_root}
use Rattle.seg_rbtree.specs.Paths.{node_at}
use Rattle.seg_rbtree.specs.Removing.{layer_at, AreLeft, Descends}
use Rattle.seg_rbtree.specs.Following.{IsPartAt, AlwaysGoesRight, Climbs, GoesToNextNode}
use Rattle.seg_rbtree.proofs.Branches.{branch-parts, tree-down}
use Rattle.seg_rbtree.proofs.ShortSubtreeStepLaws.{snoc_parts}
use Rattle.seg_rbtree.proofs.Orders.{ascend-parts, ascend-down}
use Rattle.seg_rbtree.proofs.FirstNodeSearchLaws.{first_append, first_here, first_later, none_before, or_none, or_some, reaches_up, upward_of}
use Rattle.seg_rbtree.proofs.Steps.{last_word-steps}
use Rattle.seg_rbtree.proofs.NodeRemovalLaws.{plug_on}
use Rattle.seg_rbtree.proofs.NodeUnlinkLaws.{nodes_plug}

-- ---- the way up

-- the path left some layers, whose places were on their right sides
pub record IsClimbing (layers : List Layer) (items : List Step) : Type 0 where
  pub lower : List Layer
  pub upper : List Layer
  pub layers_are : layers ≡ lower ++ upper
  pub rightward : AlwaysGoesRight lower
  pub steps_are : items ≡ steps_of upper

right_on : (lower : List Layer) (layer : Layer) → AlwaysGoesRight lower → layer.side ≡ Right → AlwaysGoesRight (lower ++ layer ∷ [])
right_on [] layer r e = (e, tt)
right_on (l ∷ lower) layer r e = (r.0, right_on lower layer r.1 e)

empty : (xs : List Step) (s : Step) → xs ++ s ∷ [] ≡ [] → ⊥
empty [] s e = cc
empty (x ∷ xs) s e = cc

pub climbing_on : (layers : List Layer) (old new : List Step) (step : Step) → old ≡ new ++ step ∷ [] → step.side ≡ Right → IsClimbing layers old → IsClimbing layers new
climbing_on layers old new step e r s = go s.upper s.layers_are (sym e ∙ s.steps_are)
  where
    go : (upper : List Layer) → layers ≡ s.lower ++ upper → new ++ step ∷ [] ≡ steps_of upper → IsClimbing layers new
    go [] is same = absurd (empty new step same)
    go (layer ∷ upper) is same =
        let parts = snoc_parts new (steps_of upper) step (step_of layer) same in
        let side : layer.side ≡ Right = sym (ap (λ (t : Step). t.side) parts.1) ∙ r in
        record {
          lower = s.lower ++ layer ∷ [];
          upper = upper;
          layers_are = is ∙ sym (append_assoc s.lower (layer ∷ []) upper);
          rightward = right_on s.lower layer s.rightward side;
          steps_are = parts.0;
        }

pub climbed : (layers : List Layer) (old : List Step) (path : Path) (step : Step) → old ≡ path.steps.items ++ step ∷ [] → step.side ≡ Left → IsClimbing layers old → Climbs layers path step.node
climbed layers old path step e l s = go s.upper s.layers_are (sym e ∙ s.steps_are)
  where
    go : (upper : List Layer) → layers ≡ s.lower ++ upper → path.steps.items ++ step ∷ [] ≡ steps_of upper → Climbs layers path step.node
    go [] is same = absurd (empty path.steps.items step same)
    go (layer ∷ upper) is same =
        let parts = snoc_parts path.steps.items (steps_of upper) step (step_of layer) same in
        record {
          lower = s.lower;
          layer = layer;
          upper = upper;
          layers_are = is;
          rightward = s.rightward;
          leftward = sym (ap (λ (t : Step). t.side) parts.1) ∙ l;
          node_is = sym (ap (λ (t : Step). t.node) parts.1);
          steps_are = parts.0;
        }

pub climbed_all : (layers : List Layer) (items : List Step) → items ≡ [] → IsClimbing layers items → AlwaysGoesRight layers
climbed_all layers items e s = go s.upper s.layers_are (sym e ∙ s.steps_are)
  where
    go : (upper : List Layer) → layers ≡ s.lower ++ upper → [] ≡ steps_of upper → AlwaysGoesRight layers
    go [] is same = subst AlwaysGoesRight (sym (is ∙ append-nil s.lower)) s.rightward
    go (layer ∷ upper) is same = absurd (empty (steps_of upper) (step_of layer) (sym same))

-- ---- the nodes after a place

-- layers whose places are on their right sides have no nodes after the place
following_on : (lower upper : List Layer) → AlwaysGoesRight lower → following (lower ++ upper) ≡ following upper
unfolding following nodes_after
following_on [] upper r = refl
following_on (l ∷ lower) upper r = ap (λ side. nodes_after side l.other l.at ++ following (lower ++ upper)) r.0 ∙ following_on lower upper r.1

pub following_none : (layers : List Layer) → AlwaysGoesRight layers → following layers ≡ []
unfolding following
following_none layers r = ap following (sym (append-nil layers)) ∙ following_on layers [] r

first_following : (layer : Layer) (upper : List Layer) → layer.side ≡ Left → slice_get (following (layer ∷ upper)) 0 ≡ Some layer.at
unfolding following nodes_after
first_following layer upper l = ap (λ side. slice_get (nodes_after side layer.other layer.at ++ following upper) 0) l

before_none : (layers : List Layer) → AreLeft layers → before layers ≡ []
unfolding before nodes_before
before_none [] l = refl
before_none (layer ∷ layers) l = ap (λ side. before layers ++ nodes_before side layer.other layer.at) l.0 ∙ ap (λ xs. xs ++ []) (before_none layers l.1)

-- if all layers have their places on their left sides, the innermost node is the first
first_below : (only : Tree) (next : ℕ) (tint : Colour) (lower : List Layer) (back : List ℕ) → AreLeft lower → slice_get (nodes_of (plug (fork leaf next tint only) lower) ++ back) 0 ≡ Some next
first_below only next tint lower back l =
    ap (λ ns. slice_get (ns ++ back) 0) (nodes_plug lower (fork leaf next tint only) ∙ ap (λ xs. xs ++ (next ∷ nodes_of only ++ following lower)) (before_none lower l))

-- ---- the node at a path's end

module _ (bytes : List ℕ) (path new : Path) (layers : List Layer) (part : Tree) (same : new.root ≡ path.root) (s : IsPartAt bytes path layers part) where
  -- the subtree at the place below other layers
  pub stands_below : (above : List Layer) (rest : Tree) → plug rest above ≡ plug part layers → new.steps.items ≡ steps_of above → IsTree bytes (node_at bytes new) rest
  stands_below above rest is e =
      let word : last_word new.root new.steps.items ≡ place path.root above = ap (last_word new.root) e ∙ last_word-steps new.root above ∙ ap (λ root. place root above) same in
      subst (λ w. IsTree bytes (target bytes w) rest) (sym word) (tree-down bytes path.root rest above (subst (λ t. IsTree bytes (target bytes path.root) t) (sym is) s.whole.is_tree))

  pub goes_down : (colour : Colour) (node : ℕ) (left right : Tree) (result : Option ℕ) → part ≡ fork left node colour right → Descends new (layer_at Right node colour left ∷ layers) right result → GoesToNextNode bytes layers part new result
  goes_down colour node left right result is d =
      let above = d.lower ++ layer_at Right node colour left ∷ layers in
      let rest = fork leaf d.next d.tint d.only in
      let whole : plug rest above ≡ plug part layers = plug_on rest d.lower (layer_at Right node colour left ∷ layers) ∙ ap (λ t. plug (fork left node colour t) layers) (sym d.tree_is) ∙ ap (λ t. plug t layers) (sym is) in
      let there : node_at bytes new ≡ Some d.next = (branch-parts bytes (node_at bytes new) Left d.next d.tint leaf d.only (stands_below above rest whole d.steps_are)).named in
      let first : slice_get (after_root part ++ following layers) 0 ≡ Some d.next =
      ap (λ t. slice_get (after_root t ++ following layers) 0) is ∙ ap (λ t. slice_get (nodes_of t ++ following layers) 0) d.tree_is ∙ first_below d.only d.next d.tint d.lower (following layers) d.leftward in
      record {
        next_is = d.result_is ∙ sym first;
        way = record { layers = above; rest = rest; shape_is = whole; steps_are = d.steps_are };
        stands = subst (λ o. MatchOption o (new.steps.items ≡ []) (λ n. node_at bytes new ≡ Some n)) (sym d.result_is) there;
      }

  climbs_to : (node : ℕ) → after_root part ≡ [] → Climbs layers new node → GoesToNextNode bytes layers part new (Some node)
  climbs_to node none k =
      let rest = grow k.layer (plug part k.lower) in
      let whole : plug rest k.upper ≡ plug part layers = sym (plug_on part k.lower (k.layer ∷ k.upper)) ∙ ap (plug part) (sym k.layers_are) in
      let named : node_at bytes new ≡ Some k.layer.at = (branch-parts bytes (node_at bytes new) k.layer.side k.layer.at k.layer.colour (plug part k.lower) k.layer.other (stands_below k.upper rest whole k.steps_are)).named in
      let first : slice_get (after_root part ++ following layers) 0 ≡ Some node =
      ap (λ ns. slice_get (ns ++ following layers) 0) none ∙ ap (λ ls. slice_get (following ls) 0) k.layers_are ∙ ap (λ ns. slice_get ns 0) (following_on k.lower (k.layer ∷ k.upper) k.rightward)
      ∙ first_following k.layer k.upper k.leftward ∙ ap Some k.node_is in
      record { next_is = sym first; way = record { layers = k.upper; rest = rest; shape_is = whole; steps_are = k.steps_are }; stands = named ∙ ap Some k.node_is }

  pub goes_up : (result : Option ℕ) → after_root part ≡ [] → MatchOption result (AlwaysGoesRight layers × (new.steps.items ≡ [])) (Climbs layers new) → GoesToNextNode bytes layers part new result
  goes_up None none k =
      let first : slice_get (after_root part ++ following layers) 0 ≡ None = ap (λ ns. slice_get (ns ++ following layers) 0) none ∙ ap (λ ns. slice_get ns 0) (following_none layers k.0) in
      record { next_is = sym first; way = record { layers = []; rest = plug part layers; shape_is = refl; steps_are = k.1 }; stands = k.1 }
  goes_up (Some node) none k = climbs_to node none k

-- if the root has no right child, or there is no root, no node is after it
pub no_root : (bytes : List ℕ) (to : Option ℕ) (part : Tree) → IsTree bytes to part → to ≡ None → after_root part ≡ []
no_root bytes to leaf h e = refl
no_root bytes None (fork l at c r) h e = absurd h
no_root bytes (Some p) (fork l at c r) h e = cc

no_tree : (bytes : List ℕ) (tree : Tree) → IsTree bytes None tree → nodes_of tree ≡ []
no_tree bytes leaf h = refl
no_tree bytes (fork l at c r) h = absurd h

pub no_right : (bytes : List ℕ) (to : Option ℕ) (node : ℕ) (part : Tree) → IsTree bytes to part → to ≡ Some node → target bytes (node + 4) ≡ None → after_root part ≡ []
no_right bytes to node leaf h e n = refl
no_right bytes None node (fork l at c r) h e n = absurd h
no_right bytes (Some p) node (fork l at c r) h e n =
    let same : p ≡ node = cc in
    no_tree bytes r (subst (λ o. IsTree bytes o r) (ap (λ q. target bytes (q + 4)) same ∙ n) h.3)

-- a part with a node as its root
pub record IsForkAt (node : ℕ) (part : Tree) : Type 0 where
  pub left : Tree
  pub colour : Colour
  pub right : Tree
  pub part_is : part ≡ fork left node colour right

pub fork_there : (bytes : List ℕ) (to : Option ℕ) (node : ℕ) (part : Tree) → IsTree bytes to part → to ≡ Some node → IsForkAt node part
fork_there bytes None node part h e = cc
fork_there bytes (Some p) node leaf h e = absurd h
fork_there bytes (Some p) node (fork l at c r) h e = record { left = l; colour = c; right = r; part_is = ap (λ q. fork l q c r) (h.0 ∙ (let same : p ≡ node = cc in same)) }

-- the subtree at the end of a path
pub part_there : (bytes : List ℕ) (path : Path) (shape : Tree) (layers : List Layer) (rest : Tree) → plug rest layers ≡ shape → path.steps.items ≡ steps_of layers → IsSearchTree bytes path.root shape → IsPartAt bytes path layers rest
part_there bytes path shape layers rest is steps t = record { steps_are = steps; whole = subst (λ x. IsSearchTree bytes path.root x) (sym is) t }

-- ---- the path to a node

-- a node in the middle of three lists, apart
apart_nodes : (xs ls : List ℕ) (at : ℕ) (rs ys : List ℕ) → xs ++ ((ls ++ at ∷ rs) ++ ys) ≡ (xs ++ ls) ++ at ∷ (rs ++ ys)
apart_nodes xs ls at rs ys = ap (λ zs. xs ++ zs) (append_assoc ls (at ∷ rs) ys) ∙ sym (append_assoc xs ls (at ∷ rs ++ ys))

-- `turn` compares a sought node or key with nodes. It is less than all nodes after `node`, greater
-- than all nodes before it, and equals it.
module _ (order : ℕ → ℕ → Ordering) (turn : ℕ → Ordering) (node : ℕ) (above : (y : ℕ) → order node y ≡ Less → turn y ≡ Less) (below : (x : ℕ) → order x node ≡ Less → turn x ≡ Greater) (equal : turn node ≡ Equal) where
  -- at the layers above the node, the path goes to the side of the sought node or key
  lead_by : (layers : List Layer) → AllByRecursion (λ x. order x node ≡ Less) (before layers) → AllByRecursion (λ y. order node y ≡ Less) (following layers) → LeadBy turn layers
  unfolding before following nodes_before nodes_after
  lead_by [] lows highs = tt
  lead_by (layer ∷ layers) lows highs = let parts = go layer.side lows highs in (parts.0, lead_by layers parts.1 parts.2)
    where
      go : (side : Side) → AllByRecursion (λ x. order x node ≡ Less) (before layers ++ nodes_before side layer.other layer.at) → AllByRecursion (λ y. order node y ≡ Less) (nodes_after side layer.other layer.at ++ following layers)
          → (turn layer.at ≡ turn_of side) × AllByRecursion (λ x. order x node ≡ Less) (before layers) × AllByRecursion (λ y. order node y ≡ Less) (following layers)
      go Left low high = (above layer.at high.0, each_left _ (before layers) [] low, each_right _ (nodes_of layer.other) (following layers) high.1)
      go Right low high =
          let last = (each_right _ (nodes_of layer.other) (layer.at ∷ []) (each_right _ (before layers) (nodes_of layer.other ++ layer.at ∷ []) low)).0 in
          (below layer.at last, each_left _ (before layers) (nodes_of layer.other ++ layer.at ∷ []) low, high)

  -- a path to the node is a path to the sought node or key
  pub leads_by : (bytes : List ℕ) (path : Path) (shape : Tree) → IsSearchTree bytes path.root shape → Ascend order (nodes_of shape) → IsWayIn shape path → node_at bytes path ≡ Some node → LeadsTo turn shape path
  leads_by bytes path shape t a way named =
      let s = part_there bytes path shape way.layers way.rest way.shape_is way.steps_are t in
      let hung = stands_below bytes path path way.layers way.rest refl s way.layers way.rest refl way.steps_are in
      let k = fork_there bytes (node_at bytes path) node way.rest hung named in
      let nodes : nodes_of shape ≡ (before way.layers ++ nodes_of k.left) ++ node ∷ (nodes_of k.right ++ following way.layers) =
      ap nodes_of (sym way.shape_is) ∙ nodes_plug way.layers way.rest ∙ ap (λ x. before way.layers ++ (nodes_of x ++ following way.layers)) k.part_is
      ∙ apart_nodes (before way.layers) (nodes_of k.left) node (nodes_of k.right) (following way.layers) in
      let parts = ascend-parts order (before way.layers ++ nodes_of k.left) node (nodes_of k.right ++ following way.layers) (subst (Ascend order) nodes a) in
      record {
        layers = way.layers;
        rest = way.rest;
        shape_is = way.shape_is;
        steps_are = way.steps_are;
        leads = lead_by way.layers (each_left _ (before way.layers) (nodes_of k.left) parts.before) (each_right _ (nodes_of k.right) (following way.layers) parts.following);
        ends = subst (EndsAt turn) (sym k.part_is) equal;
      }

-- ---- the first node with a property

-- all later nodes have the property too; a path goes left at nodes that have it, and right at others
module _ (order : ℕ → ℕ → Ordering) (p : ℕ → Bool) (turn : ℕ → Ordering) (up : (x y : ℕ) → order x y ≡ Less → p x ≡ true → p y ≡ true) (lefts : (x : ℕ) → turn x ≡ Less → p x ≡ true) (rights : (x : ℕ) → turn x ≡ Greater → p x ≡ false) where
  -- if a node doesn't have the property, the first node that has it comes later
  none_below : (xs : List ℕ) (at : ℕ) (ys : List ℕ) → Ascend order (xs ++ at ∷ ys) → p at ≡ false → first_where p (xs ++ at ∷ ys) ≡ first_where p ys
  none_below xs at ys a e =
      first_append p xs (at ∷ ys) ∙ ap (λ o. option_or o (first_where p (at ∷ ys))) (none_before p xs at ys (upward_of order p up (xs ++ at ∷ ys) a) e) ∙ first_later p at ys e

  -- the first node with the property is in the subtree at the path's end, or is the first node
  -- after it
  along : (layers : List Layer) (rest : Tree) → Ascend order (nodes_of (plug rest layers)) → LeadBy turn layers
      → first_where p (nodes_of (plug rest layers)) ≡ option_or (first_where p (nodes_of rest)) (slice_get (following layers) 0)
  unfolding following nodes_after
  along [] rest a l = sym (or_none (first_where p (nodes_of rest)))
  along (layer ∷ layers) rest a l = along layers (grow layer rest) a l.1 ∙ go layer.side l.0 (ascend-down order (grow layer rest) layers a)
    where
      go : (side : Side) → turn layer.at ≡ turn_of side → Ascend order (nodes_of (branch side layer.at layer.colour rest layer.other))
          → option_or (first_where p (nodes_of (branch side layer.at layer.colour rest layer.other))) (slice_get (following layers) 0)
          ≡ option_or (first_where p (nodes_of rest)) (slice_get (nodes_after side layer.other layer.at ++ following layers) 0)
      go Left e h =
          let here : first_where p (layer.at ∷ nodes_of layer.other) ≡ Some layer.at = first_here p layer.at (nodes_of layer.other) (lefts layer.at e) in
          ap (λ o. option_or o (slice_get (following layers) 0)) (first_append p (nodes_of rest) (layer.at ∷ nodes_of layer.other) ∙ ap (option_or (first_where p (nodes_of rest))) here)
          ∙ or_some (first_where p (nodes_of rest)) layer.at (slice_get (following layers) 0)
      go Right e h = ap (λ o. option_or o (slice_get (following layers) 0)) (none_below (nodes_of layer.other) layer.at (nodes_of rest) h (rights layer.at e))

  -- the next node from the end of such a path is the first with the property
  pub goes_past : (bytes : List ℕ) (new : Path) (shape : Tree) (layers : List Layer) (rest : Tree) (result : Option ℕ) → Ascend order (nodes_of shape) → plug rest layers ≡ shape → LeadBy turn layers
      → (Ascend order (nodes_of rest) → option_or (first_where p (nodes_of rest)) (slice_get (following layers) 0) ≡ slice_get (after_root rest ++ following layers) 0)
      → GoesToNextNode bytes layers rest new result → result ≡ first_where p (nodes_of shape)
  goes_past bytes new shape layers rest result a is leads at_end on =
      let b = subst (λ x. Ascend order (nodes_of x)) (sym is) a in
      on.next_is ∙ sym (at_end (ascend-down order rest layers b)) ∙ sym (along layers rest b leads) ∙ ap (λ x. first_where p (nodes_of x)) is

-- ---- the first node above a key

module _ (compare : ℕ → Ordering) (order : ℕ → ℕ → Ordering) (keyed : (x y : ℕ) → order x y ≡ Less → rank_of (compare x) ≤ rank_of (compare y)) (one : (x y : ℕ) → compare x ≡ Equal → compare y ≡ Equal → order x y ≡ Equal) where
  abbrev past : ℕ → Bool
  past x = reaches Greater (compare x)

  abbrev turn : ℕ → Ordering
  turn x = ordering_reverse (compare x)

  -- nodes after a node that equals the key are above the key
  above : (at y : ℕ) (r : Ordering) → compare y ≡ r → compare at ≡ Equal → order at y ≡ Less → r ≡ Greater
  above at y Less e f l = let k : 1 ≤ 0 = subst (λ q. rank_of q ≤ 0) f (subst (λ q. rank_of (compare at) ≤ rank_of q) e (keyed at y l)) in absurd (omega (arith, k))
  above at y Equal e f l = let o = one at y f e in cc
  above at y Greater e f l = refl

  below : (x at : ℕ) (r : Ordering) → compare x ≡ r → compare at ≡ Equal → order x at ≡ Less → r ≡ Less
  below x at Less e f l = refl
  below x at Equal e f l = let o = one x at e f in cc
  below x at Greater e f l = let k : 2 ≤ 1 = subst (λ q. 2 ≤ rank_of q) f (subst (λ q. rank_of q ≤ rank_of (compare at)) e (keyed x at l)) in absurd (omega (arith, k))

  -- a path to a node that equals the key is a path to the key
  pub leads_there : (bytes : List ℕ) (path : Path) (shape : Tree) (node : ℕ) → IsSearchTree bytes path.root shape → Ascend order (nodes_of shape) → IsWayIn shape path → node_at bytes path ≡ Some node
      → compare node ≡ Equal → LeadsTo turn shape path
  leads_there bytes path shape node t a way named f =
      leads_by order turn node (λ y l. ap ordering_reverse (above node y (compare y) refl f l)) (λ x l. ap ordering_reverse (below x node (compare x) refl f l)) (ap ordering_reverse f) bytes path shape t a way named

  -- ---- the next node is the first above the key

  -- a comparison that is reversed twice
  back : (r s : Ordering) → ordering_reverse r ≡ s → r ≡ ordering_reverse s
  back Less s e = ap ordering_reverse e
  back Equal s e = ap ordering_reverse e
  back Greater s e = ap ordering_reverse e

  -- nodes after a node above the key are above it too
  up : (x y : ℕ) → order x y ≡ Less → past x ≡ true → past y ≡ true
  up x y l e = reaches_up Greater (compare x) (compare y) (keyed x y l) e

  -- a node from which the path goes left is above the key
  lefts : (x : ℕ) → turn x ≡ Less → past x ≡ true
  lefts x e = ap (reaches Greater) (back (compare x) Less e)

  -- a node from which the path goes right isn't above the key
  rights : (x : ℕ) → turn x ≡ Greater → past x ≡ false
  rights x e = ap (reaches Greater) (back (compare x) Greater e)

  -- if all nodes of a list are above the key, the first of them is the first above it
  first_all : (xs ys : List ℕ) → AllByRecursion (λ x. past x ≡ true) xs → option_or (first_where past xs) (slice_get ys 0) ≡ slice_get (xs ++ ys) 0
  first_all [] ys h = refl
  first_all (x ∷ xs) ys h = ap (λ o. option_or o (slice_get ys 0)) (first_here past x xs h.0)

  -- at the path's end, all nodes after the place are above the key, and no node before it is
  at_end : (rest : Tree) (ys : List ℕ) → EndsAt turn rest → Ascend order (nodes_of rest) → option_or (first_where past (nodes_of rest)) (slice_get ys 0) ≡ slice_get (after_root rest ++ ys) 0
  at_end leaf ys e a = refl
  at_end (fork l at c r) ys e a =
      let equal : compare at ≡ Equal = back (compare at) Equal e in
      let parts = ascend-parts order (nodes_of l) at (nodes_of r) a in
      ap (λ o. option_or o (slice_get ys 0)) (none_below order past turn up lefts rights (nodes_of l) at (nodes_of r) a (ap (reaches Greater) equal))
      ∙ first_all (nodes_of r) ys (each_weaker _ _ (λ y m. ap (reaches Greater) (above at y (compare y) refl equal m)) (nodes_of r) parts.following)

  -- the next node from the end of a path to a key is the first node above the key
  pub goes_above : (bytes : List ℕ) (path new : Path) (shape : Tree) (result : Option ℕ) → IsSearchTree bytes path.root shape → Ascend order (nodes_of shape) → (way : LeadsTo turn shape path)
      → (IsPartAt bytes path way.layers way.rest → GoesToNextNode bytes way.layers way.rest new result) → result ≡ first_where past (nodes_of shape)
  goes_above bytes path new shape result t a way on =
      goes_past order past turn up lefts rights bytes new shape way.layers way.rest result a way.shape_is way.leads (at_end way.rest (following way.layers) way.ends)
      (on (part_there bytes path shape way.layers way.rest way.shape_is way.steps_are t))

-- a path that continues is still in the tree
pub goes_inside : (bytes : List ℕ) (path new : Path) (result : Option ℕ) → new.root ≡ path.root → ((layers : List Layer) (part : Tree) → IsPartAt bytes path layers part → GoesToNextNode bytes layers part new result)
    → ((shape : Tree) → IsSearchTree bytes path.root shape → IsWayIn shape path) → (shape : Tree) → IsSearchTree bytes new.root shape → IsWayIn shape new
goes_inside bytes path new result same on inside shape t =
    let u : IsSearchTree bytes path.root shape = subst (λ root. IsSearchTree bytes root shape) same t in
    let way = inside shape u in
    subst (λ x. IsWayIn x new) way.shape_is (on way.layers way.rest (part_there bytes path shape way.layers way.rest way.shape_is way.steps_are u)).way

-- a path to a sought node or key is in the tree
pub leads_inside : (turn : ℕ → Ordering) (shape : Tree) (path : Path) → LeadsTo turn shape path → IsWayIn shape path
leads_inside turn shape path way = record { layers = way.layers; rest = way.rest; shape_is = way.shape_is; steps_are = way.steps_are }

-- a path without steps is in the tree
pub root_inside : (path : Path) (shape : Tree) → path.steps.items ≡ [] → IsWayIn shape path
root_inside path shape e = record { layers = []; rest = shape; shape_is = refl; steps_are = e }

-- the path down to the first node
pub first_down : (shape : Tree) (path : Path) (result : Option ℕ) → Descends path [] shape result → (result ≡ first_where (λ _. true) (nodes_of shape)) × IsWayIn shape path
first_down shape path result d =
    let rest = fork leaf d.next d.tint d.only in
    let whole : plug rest d.lower ≡ shape = sym d.tree_is in
    let nodes : nodes_of shape ≡ next_first d.only d.next d.lower = ap nodes_of d.tree_is ∙ nodes_plug d.lower rest ∙ ap (λ xs. xs ++ (d.next ∷ nodes_of d.only ++ following d.lower)) (before_none d.lower d.leftward) in (
      d.result_is ∙ sym (ap (first_where (λ _. true)) nodes),
      record { layers = d.lower; rest = rest; shape_is = whole; steps_are = d.steps_are ∙ ap steps_of (append-nil d.lower) },
    )
  where
    next_first : Tree → ℕ → List Layer → List ℕ
    next_first only next lower = next ∷ nodes_of only ++ following lower

pub first_empty : (bytes : List ℕ) (to : Option ℕ) (shape : Tree) → IsTree bytes to shape → to ≡ None → first_where (λ _. true) (nodes_of shape) ≡ None
first_empty bytes to leaf h e = refl
first_empty bytes None (fork l at c r) h e = absurd h
first_empty bytes (Some p) (fork l at c r) h e = cc

pub first_found : (bytes : List ℕ) (path new : Path) (shape : Tree) (result : Option ℕ) → path.steps.items ≡ [] → (node_at bytes path ≡ None → (result ≡ None) × (new.steps.items ≡ path.steps.items))
    → ((layers : List Layer) (tree : Tree) → IsPartAt bytes path layers tree → target bytes (place path.root layers) ≢ None → Descends new layers tree result)
    → IsSearchTree bytes path.root shape → (result ≡ first_where (λ _. true) (nodes_of shape)) × IsWayIn shape new
first_found bytes path new shape result e none descends t = go (target bytes path.root) refl
  where
    go : (o : Option ℕ) → target bytes path.root ≡ o → (result ≡ first_where (λ _. true) (nodes_of shape)) × IsWayIn shape new
    go None is =
        let n = none (ap (λ ss. target bytes (last_word path.root ss)) e ∙ is) in
        (n.0 ∙ sym (first_empty bytes (target bytes path.root) shape t.is_tree is), root_inside new shape (n.1 ∙ e))
    go (Some p) is = first_down shape new result (descends [] shape (record { steps_are = e; whole = t }) (λ n. let both = sym is ∙ n in cc))
