-- A path to the first node at or above a key: up from the empty place before it.
use Rattle.std.proofs.Common.{◌≡◌, ℕ, ◌≤◌, Bool, true, false, List, [], ◌++◌, Option, Some, None, MatchOption, refl, sym, ap, ◌∙◌, subst}
use Rattle.std.specs.Prelude.{IfSome, slice_get}
use Rattle.std.specs.Cmp.{IsTotalOrder}
use Rattle.std.specs.Option.{option_or}
use Rattle.std.specs.Ordering.{ordering_reverse}
use Rattle.std.specs.declared.cmp.Ordering.{Ordering}
use Rattle.std.specs.declared.cmp.Ordering.TheVariants.{Less, Equal, Greater}
use Rattle.seg_spec.specs.Shapes.{Tree, leaf, fork, nodes_of}
use Rattle.seg_spec.specs.Search.{rank_of, reaches, Ascend, first_where, IsSearchTree}
use Rattle.seg_rbtree.specs.declared.path.Path.{Path}
use Rattle.seg_rbtree.specs.Ways.{Layer, plug, steps_of, EndsAt, LeadsTo, following, after_root}
use Rattle.seg_rbtree.specs.Paths.{before_first, node_at}
use Rattle.seg_rbtree.specs.Following.{AlwaysGoesRight, Climbs, GoesToNextNode}
use Rattle.seg_rbtree.proofs.ClimbLaws.{goes_up, goes_past, leads_by, part_there}
use Rattle.seg_rbtree.proofs.TreeWithoutNodeLaws.{itself}
use Rattle.seg_rbtree.proofs.FirstNodeSearchLaws.{reaches_up}

-- nodes after the place are at or above the key
left_reaches : (r : Ordering) → before_first r ≡ Less → reaches Equal r ≡ true
left_reaches Less e = cc
left_reaches Equal e = refl
left_reaches Greater e = refl

-- nodes before the place are below the key
right_misses : (r : Ordering) → before_first r ≡ Greater → reaches Equal r ≡ false
right_misses Less e = refl
right_misses Equal e = cc
right_misses Greater e = cc

-- the place equals no node
never_equal : (r : Ordering) → before_first r ≡ Equal → ⊥
never_equal Less e = cc
never_equal Equal e = cc
never_equal Greater e = cc

module _ (compare : ℕ → Ordering) where
  -- whether a node is at or above the key
  abbrev reached : ℕ → Bool
  reached x = reaches Equal (compare x)

  -- how the place compares with a node
  abbrev turn : ℕ → Ordering
  turn x = before_first (compare x)

  -- the path ends at an empty place
  ends_empty : (rest : Tree) → EndsAt turn rest → after_root rest ≡ []
  ends_empty leaf e = refl
  ends_empty (fork l at c r) e = absurd (never_equal (compare at) e)

  -- the first node at or above the key is the first node after the place
  at_end : (rest : Tree) (ys : List ℕ) → EndsAt turn rest → option_or (first_where reached (nodes_of rest)) (slice_get ys 0) ≡ slice_get (after_root rest ++ ys) 0
  at_end leaf ys e = refl
  at_end (fork l at c r) ys e = absurd (never_equal (compare at) e)

-- a path ends at the first node at or above a key, which is the result
pub record IsLedToFirst (compare : ℕ → Ordering) (order : ℕ → ℕ → Ordering) (bytes : List ℕ) (shape : Tree) (path : Path) (result : Option ℕ) : Type 0 where
  pub node_is : result ≡ first_where (reached compare) (nodes_of shape)
  pub leads : IfSome result (λ node. LeadsTo (order node) shape path × (node_at bytes path ≡ Some node))

-- the path that continues to the next node ends there
leads_on : (order : ℕ → ℕ → Ordering) → IsTotalOrder order → (bytes : List ℕ) (path : Path) (layers : List Layer) (rest : Tree) (result : Option ℕ) → IsSearchTree bytes path.root (plug rest layers)
    → Ascend order (nodes_of (plug rest layers)) → GoesToNextNode bytes layers rest path result → IfSome result (λ node. LeadsTo (order node) (plug rest layers) path × (node_at bytes path ≡ Some node))
leads_on order total bytes path layers rest None t a on = tt
leads_on order total bytes path layers rest (Some node) t a on =
    (leads_by order (order node) node (λ y l. l) (λ x l. total.antisymm node x ∙ ap ordering_reverse l) (itself order total node) bytes path (plug rest layers) t a on.way on.stands, on.stands)

-- the path that goes up from the empty place before a node ends at the node
pub led_to_first : (compare : ℕ → Ordering) (order : ℕ → ℕ → Ordering) → ((x y : ℕ) → order x y ≡ Less → rank_of (compare x) ≤ rank_of (compare y)) → IsTotalOrder order → (bytes : List ℕ) (path new : Path) (shape : Tree) (result : Option ℕ)
    → new.root ≡ path.root → IsSearchTree bytes path.root shape → Ascend order (nodes_of shape) → LeadsTo (turn compare) shape path
    → ((layers : List Layer) → path.steps.items ≡ steps_of layers → MatchOption result (AlwaysGoesRight layers × (new.steps.items ≡ [])) (Climbs layers new)) → IsLedToFirst compare order bytes shape new result
led_to_first compare order keyed total bytes path new shape result same t a way climbs =
    let s = part_there bytes path shape way.layers way.rest way.shape_is way.steps_are t in
    let on = goes_up bytes path new way.layers way.rest same s result (ends_empty compare way.rest way.ends) (climbs way.layers way.steps_are) in
    let up = λ (x y : ℕ) (l : order x y ≡ Less) (e : reached compare x ≡ true). reaches_up Equal (compare x) (compare y) (keyed x y l) e in
    record {
      node_is = goes_past order (reached compare) (turn compare) up (λ x e. left_reaches (compare x) e) (λ x e. right_misses (compare x) e)
          bytes new shape way.layers way.rest result a way.shape_is way.leads (λ _. at_end compare way.rest (following way.layers) way.ends) on;
      leads = subst (λ x. IfSome result (λ node. LeadsTo (order node) x new × (node_at bytes new ≡ Some node))) way.shape_is
          (leads_on order total bytes new way.layers way.rest result (subst (λ root. IsSearchTree bytes root (plug way.rest way.layers)) (sym same) s.whole)
          (subst (λ x. Ascend order (nodes_of x)) (sym way.shape_is) a) on);
    }
