-- The end of a path to a key.
--     finds_equal      the node at the path's end equals the key, if some node does
--     leads_same       the path still reaches the same place as long as the nodes compare the same
--     finds_new        a node with that key is new if no node equals the key
--     finds_first      if no two nodes equal the key, the node that is found is the first
use Rattle.std.proofs.Common.{◌≡◌, ◌≢◌, ℕ, ◌≤◌, false, List, [], ◌∷◌, ◌++◌, Option, Some, None, refl, sym, ap, ◌∙◌, subst, append_assoc, arith}
use Rattle.std.specs.List.{AllByRecursion}
use Rattle.std.specs.Ordering.{is_eq, ordering_reverse}
use Rattle.std.specs.declared.cmp.Ordering.{Ordering}
use Rattle.std.specs.declared.cmp.Ordering.TheVariants.{Less, Equal, Greater}
use Rattle.seg_spec.specs.Shapes.{Tree, leaf, fork, nodes_of, IsTree}
use Rattle.seg_spec.specs.Search.{rank_of, Ascend, first_where, IsSearchTree}
use Rattle.seg_spec.proofs.Values.PlaceFrameLaws.{each_left, each_right, each_weaker}
use Rattle.seg_rbtree.specs.declared.node.Side.{Side}
use Rattle.seg_rbtree.specs.declared.node.Side.TheVariants.{Left, Right}
use Rattle.seg_rbtree.specs.declared.path.Path.{Path}
use Rattle.seg_rbtree.specs.Ways.{Layer, branch, grow, plug, turn_of, LeadBy, EndsAt, LeadsTo, before, following}
use Rattle.seg_rbtree.specs.Paths.{node_at, IsEqualAmong, FindsEqual}
use Rattle.seg_rbtree.proofs.Apartness.{each_join}
use Rattle.seg_rbtree.proofs.Orders.{ascend-parts, ascend-down}
use Rattle.seg_rbtree.proofs.FirstNodeSearchLaws.{first_here, first_later}
use Rattle.seg_rbtree.proofs.NodeUnlinkLaws.{nodes_plug}
use Rattle.seg_rbtree.proofs.TreeWithoutNodeLaws.{rest_hangs}

reversed : (r s : Ordering) → ordering_reverse r ≡ s → r ≡ ordering_reverse s
reversed Less s e = ap ordering_reverse e
reversed Equal s e = ap ordering_reverse e
reversed Greater s e = ap ordering_reverse e

unequal : (r : Ordering) → r ≢ Equal → is_eq r ≡ false
unequal Less n = refl
unequal Equal n = absurd (n refl)
unequal Greater n = refl

module _ (compare : ℕ → Ordering) (order : ℕ → ℕ → Ordering) (keyed : (x y : ℕ) → order x y ≡ Less → rank_of (compare x) ≤ rank_of (compare y)) where
  abbrev Differ : List ℕ → Type 0
  Differ ns = AllByRecursion (λ x. compare x ≢ Equal) ns

  abbrev turn : ℕ → Ordering
  turn x = ordering_reverse (compare x)

  -- nodes before a node below the key don't equal the key
  differs_before : (at x : ℕ) → compare at ≡ Less → order x at ≡ Less → compare x ≢ Equal
  differs_before at x e l f =
      let k : 1 ≤ 0 = subst (λ r. rank_of r ≤ 0) f (subst (λ r. rank_of (compare x) ≤ rank_of r) e (keyed x at l)) in
      omega (arith, k)

  differs_after : (at y : ℕ) → compare at ≡ Greater → order at y ≡ Less → compare y ≢ Equal
  differs_after at y e l f =
      let k : 2 ≤ 1 = subst (λ r. 2 ≤ rank_of r) f (subst (λ r. rank_of r ≤ rank_of (compare y)) e (keyed at y l)) in
      omega (arith, k)

  other : (at : ℕ) (r : Ordering) → compare at ≡ r → (r ≡ Equal → ⊥) → compare at ≢ Equal
  other at r e n f = n (sym e ∙ f)

  aside : (layers : List Layer) (rest : Tree) → Ascend order (nodes_of (plug rest layers)) → LeadBy turn layers → Differ (nodes_of rest) → Differ (nodes_of (plug rest layers))
  aside [] rest a l d = d
  aside (layer ∷ layers) rest a l d = aside layers (grow layer rest) a l.1 (go layer.side (reversed (compare layer.at) _ l.0) (ascend-down order (grow layer rest) layers a))
    where
      go : (side : Side) → compare layer.at ≡ ordering_reverse (turn_of side) → Ascend order (nodes_of (branch side layer.at layer.colour rest layer.other)) → Differ (nodes_of (branch side layer.at layer.colour rest layer.other))
      go Left e h =
          let p = ascend-parts order (nodes_of rest) layer.at (nodes_of layer.other) h in
          each_join _ (nodes_of rest) (layer.at ∷ nodes_of layer.other) d (other layer.at Greater e (λ q. cc), each_weaker _ _ (λ y f. differs_after layer.at y e f) (nodes_of layer.other) p.following)
      go Right e h =
          let p = ascend-parts order (nodes_of layer.other) layer.at (nodes_of rest) h in
          each_join _ (nodes_of layer.other) (layer.at ∷ nodes_of rest) (each_weaker _ _ (λ x f. differs_before layer.at x e f) (nodes_of layer.other) p.before) (other layer.at Less e (λ q. cc), d)

  among : (layers : List Layer) (left right : Tree) (at : ℕ) (nodes : List ℕ) → nodes ≡ before layers ++ ((nodes_of left ++ at ∷ nodes_of right) ++ following layers) → compare at ≡ Equal → IsEqualAmong compare nodes at
  among layers left right at nodes e f = record {
    front = before layers ++ nodes_of left;
    back = nodes_of right ++ following layers;
    nodes_are = e ∙ ap (λ ns. before layers ++ ns) (append_assoc (nodes_of left) (at ∷ nodes_of right) (following layers)) ∙ sym (append_assoc (before layers) (nodes_of left) (at ∷ nodes_of right ++ following layers));
    equals = f;
  }

  pub at_end : (bytes : List ℕ) (to : Option ℕ) (layers : List Layer) (rest : Tree) → IsTree bytes to rest → EndsAt turn rest → LeadBy turn layers → Ascend order (nodes_of (plug rest layers))
      → FindsEqual compare (nodes_of (plug rest layers)) to
  at_end bytes None layers leaf h e l a = aside layers leaf a l tt
  at_end bytes None layers (fork left at colour right) h e l a = absurd h
  at_end bytes (Some p) layers leaf h e l a = absurd h
  at_end bytes (Some p) layers (fork left at colour right) h e l a =
      subst (λ n. IsEqualAmong compare (nodes_of (plug (fork left at colour right) layers)) n) h.0
      (among layers left right at _ (nodes_plug layers (fork left at colour right)) (reversed (compare at) Equal e))

  -- the node at the end of a path to a key equals the key, if some node does
  pub finds_equal : (bytes : List ℕ) (root : ℕ) (path : Path) (shape : Tree) → path.root ≡ root → IsSearchTree bytes root shape → Ascend order (nodes_of shape) → LeadsTo turn shape path
      → FindsEqual compare (nodes_of shape) (node_at bytes path)
  finds_equal bytes root path shape r t a way =
      subst (λ s. FindsEqual compare (nodes_of s) (node_at bytes path)) way.shape_is
      (at_end bytes (node_at bytes path) way.layers way.rest (rest_hangs bytes root path turn 0 shape r way t.is_tree) way.ends way.leads (subst (λ s. Ascend order (nodes_of s)) (sym way.shape_is) a))

-- ---- the nodes compare the same

leads_by_same : (turn other : ℕ → Ordering) (layers : List Layer) (rest : Tree) → AllByRecursion (λ x. turn x ≡ other x) (nodes_of (plug rest layers)) → LeadBy turn layers
    → LeadBy other layers × AllByRecursion (λ x. turn x ≡ other x) (nodes_of rest)
leads_by_same turn other [] rest same l = (tt, same)
leads_by_same turn other (layer ∷ layers) rest same l =
    let up = leads_by_same turn other layers (grow layer rest) same l.1 in
    let here = parts layer.side up.1 in
    ((sym here.0 ∙ l.0, up.0), here.1)
  where
    parts : (side : Side) → AllByRecursion (λ x. turn x ≡ other x) (nodes_of (branch side layer.at layer.colour rest layer.other)) → (turn layer.at ≡ other layer.at) × AllByRecursion (λ x. turn x ≡ other x) (nodes_of rest)
    parts Left h = ((each_right _ (nodes_of rest) (layer.at ∷ nodes_of layer.other) h).0, each_left _ (nodes_of rest) (layer.at ∷ nodes_of layer.other) h)
    parts Right h = ((each_right _ (nodes_of layer.other) (layer.at ∷ nodes_of rest) h).0, (each_right _ (nodes_of layer.other) (layer.at ∷ nodes_of rest) h).1)

ends_same : (turn other : ℕ → Ordering) (rest : Tree) → AllByRecursion (λ x. turn x ≡ other x) (nodes_of rest) → EndsAt turn rest → EndsAt other rest
ends_same turn other leaf same e = tt
ends_same turn other (fork left at colour right) same e = sym (each_right _ (nodes_of left) (at ∷ nodes_of right) same).0 ∙ e

-- a path still reaches the same place as long as the sought node or key compares with each node as
-- before
pub leads_same : (turn other : ℕ → Ordering) (shape : Tree) (path : Path) → AllByRecursion (λ x. turn x ≡ other x) (nodes_of shape) → LeadsTo turn shape path → LeadsTo other shape path
leads_same turn other shape path same way =
    let both = leads_by_same turn other way.layers way.rest (subst (λ s. AllByRecursion (λ x. turn x ≡ other x) (nodes_of s)) (sym way.shape_is) same) way.leads in
    record { layers = way.layers; rest = way.rest; shape_is = way.shape_is; steps_are = way.steps_are; leads = both.0; ends = ends_same turn other way.rest both.1 way.ends }

-- ---- at most one node equals the key

first_none : (compare : ℕ → Ordering) (nodes : List ℕ) → AllByRecursion (λ x. compare x ≢ Equal) nodes → first_where (λ x. is_eq (compare x)) nodes ≡ None
first_none compare [] d = refl
first_none compare (x ∷ nodes) d = first_later (λ x. is_eq (compare x)) x nodes (unequal (compare x) d.0) ∙ first_none compare nodes d.1

first_among : (compare : ℕ → Ordering) (order : ℕ → ℕ → Ordering) → ((x y : ℕ) → compare x ≡ Equal → compare y ≡ Equal → order x y ≡ Equal) → (front back : List ℕ) (node : ℕ) → Ascend order (front ++ node ∷ back) → compare node ≡ Equal
    → first_where (λ x. is_eq (compare x)) (front ++ node ∷ back) ≡ Some node
first_among compare order one [] back node a e = first_here (λ x. is_eq (compare x)) node back (ap is_eq e)
first_among compare order one (x ∷ front) back node a e =
    first_later (λ x. is_eq (compare x)) x (front ++ node ∷ back) (unequal (compare x) (λ f. let s = one x node f e in let l = (each_right _ front (node ∷ back) a.0).0 in cc)) ∙ first_among compare order one front back node a.1 e

-- the result is the first node that equals the key
pub finds_first : (compare : ℕ → Ordering) (order : ℕ → ℕ → Ordering) → ((x y : ℕ) → compare x ≡ Equal → compare y ≡ Equal → order x y ≡ Equal) → (nodes : List ℕ) (found : Option ℕ) → Ascend order nodes → FindsEqual compare nodes found
    → found ≡ first_where (λ x. is_eq (compare x)) nodes
finds_first compare order one nodes None a f = sym (first_none compare nodes f)
finds_first compare order one nodes (Some node) a f =
    sym (ap (first_where (λ x. is_eq (compare x))) f.nodes_are ∙ first_among compare order one f.front f.back node (subst (Ascend order) f.nodes_are a) f.equals)
