-- A new node is added to the tree of a map, which then has one key more.
use Rattle.std.proofs.Common.{◌≡◌, ◌≢◌, ℕ, ◌+◌, ◌%◌, ◌^◌, ◌<◌, ◌≤◌, ℤ, List, [], ◌∷◌, ◌++◌, length, map, Some, refl, sym, ap, ◌∙◌, subst, arith}
use Rattle.std.proofs.lemmas.List.{length-append}
use Rattle.std.specs.Prelude.{insert, slice_get}
use Rattle.std.specs.List.{AllByRecursion}
use Rattle.std.specs.Ordering.{int_cmp, ordering_reverse}
use Rattle.std.specs.Cmp.{IsTotalOrder, on_total, int_cmp_total}
use Rattle.std.specs.declared.cmp.Ordering.{Ordering}
use Rattle.std.specs.declared.cmp.Ordering.TheVariants.{Less, Equal, Greater}
use Rattle.seg_spec.specs.Bytes.{set_word, signed_long, IsSame}
use Rattle.seg_spec.specs.Pointer.{target}
use Rattle.seg_spec.specs.Types.{Form, Table, form_at, size}
use Rattle.seg_spec.specs.Value.{Label, Selector, Values, count, append, cons, Map, IsAscending, default_of}
use Rattle.seg_spec.specs.Heap.{live, heap_start, IsHeap}
use Rattle.seg_spec.specs.Block.{Kind, tag_of, IsBlock, IsInside, KeepsBlock, block_of}
use Rattle.seg_spec.specs.Apart.{KeepsBlockAround}
use Rattle.seg_spec.specs.Shapes.{Tree, nodes_of}
use Rattle.seg_spec.specs.Search.{Ascend, IsSearchTree}
use Rattle.seg_spec.specs.Items.{key_place, keys_below, with_entry, insert_nth}
use Rattle.seg_spec.specs.Reads.{Place, Opened, count_at, keys_at, AreNodes, OpensTree, Holds, HoldsEach, holds_more, Leads}
use Rattle.seg_spec.specs.Sound.{times, positions}
use Rattle.seg_spec.specs.Parts.{KeepsParts}
use Rattle.seg_spec.specs.Owning.{Stands}
use Rattle.seg_spec.specs.Roots.{ChangesPlace}
use Rattle.seg_spec.specs.Shrinking.{KeepsPathsInside}
use Rattle.seg_spec.specs.Demand.{block_for}
use Rattle.seg_spec.proofs.SliceLaws.{IsSame-part, IsSame-trans}
use Rattle.seg_spec.proofs.Tables.TypeSizeLaws.{size-form}
use Rattle.seg_spec.proofs.Heap.BlockFrameLaws.{kept_twice, around_twice, around_kept}
use Rattle.seg_spec.proofs.Values.PlaceWriteLaws.{home_live, owned_live, owned_other}
use Rattle.seg_spec.proofs.Values.CallPlaceLaws.{same_place}
use Rattle.seg_spec.proofs.Values.PlaceFrameLaws.{each_map, each_of_map, each_weaker, each_both, each_left, each_right, signed_long-same, cell-target}
use Rattle.seg_spec.proofs.Values.PlaceFrameLaws.{cell-count, nodes-same, shorter, IsTree-same, SamePlace, Holds-kept, HoldsEach-kept, PersistEach-kept}
use Rattle.seg_spec.proofs.Heap.LiveBlockLaws.{times-append, times-same, times-other, times-more, there, each_there, LiesIn, live-lie, live-once}
use Rattle.seg_rbtree.specs.declared.path.Path.{Path}
use Rattle.seg_rbtree.specs.Ways.{LeadsTo}
use Rattle.seg_rbtree.specs.Changes.{StandApart, IsNew, with_node, Leaves}
use Rattle.seg_rbtree.proofs.Orders.{each_with}
use Rattle.seg_rbtree.proofs.Paths.{leads_same}
use Rattle.seg_map.specs.Maps.{AddsKey, value_of}
use Rattle.seg_map.proofs.KeyOrder.{ascend_of, Apart, apart_at, more_keys, place_of_more, comes_between, ascends_with, place_after, equal_self, place_of, key_of_place, still_among}
use Rattle.seg_map.proofs.TreeMaps.{key_at, keys_low, IsTreeMap, its, IsNode, are_nodes, low, few_nodes, is_search_tree, keys_are}
use Rattle.seg_map.proofs.TreeWriteLaws.{IsTouched, Remade, remade, count_before, stand_apart as nodes_stand_apart}
use Rattle.seg_map.proofs.MapValueLaws.{value_places, places_joined, places_long, inserted_nth, Parts, parts, joined, map_of, map_leads, passes, paths_by, tree_parts}
use Rattle.seg_map.proofs.NewNodeLaws.{Entered}

-- what adding a node at the end of a path ensures, in any total order for which the path is the
-- node's place
abbrev pub AddsFrom : List ℕ → List ℕ → ℕ → Path → ℕ → Type 0
AddsFrom old new root path node = (order : ℕ → ℕ → Ordering) (shape : Tree) → IsTotalOrder order → IsSearchTree old root shape → Ascend order (nodes_of shape) → LeadsTo (order node) shape path → IsNew order node (nodes_of shape)
    → StandApart (length old) root (node ∷ nodes_of shape) → length (nodes_of shape) + 1 < 2 ^ 32 → Leaves old new root (node ∷ nodes_of shape) (with_node order node (nodes_of shape))

reverse_equal : (r : Ordering) → ordering_reverse r ≡ Equal → r ≡ Equal
reverse_equal Less e = cc
reverse_equal Equal e = refl
reverse_equal Greater e = cc

module _ (allocator : ℕ) (old mid : List ℕ) (table : Table) (place : Place) (U : ℕ) (keys : List ℤ) (vs : Values) (blocks : List ℕ) (f : form_at table place.type ≡ Some (Form.map U)) (s : Stands allocator old table place
    (Map keys vs) blocks)
    (key : ℤ) (node : ℕ) (e : Entered allocator old mid table place.type U node key) where
  abbrev m : IsTreeMap old table place U keys vs blocks
  m = its allocator old table place U keys vs blocks f s

  abbrev shape : Tree
  shape = (its allocator old table place U keys vs blocks f s).opens.tree

  abbrev nodes : List ℕ
  nodes = nodes_of shape

  each_node : AllByRecursion (IsNode allocator old table place U keys vs blocks f s) nodes
  each_node = are_nodes allocator old table place U keys vs blocks f s

  mid_live : (h : ℕ) → 1 ≤ times h (positions (live old)) → 1 ≤ times h (positions (live mid))
  mid_live h some = let c = e.counts h in omega arith

  own_live : 1 ≤ times (block_of node) (positions (live mid))
  own_live = let c = e.counts (block_of node) in let one = times-same (block_of node) (positions (live old)) in omega arith

  not_own : (h : ℕ) → 1 ≤ times h (positions (live old)) → block_of node ≢ h
  not_own h some same = let free = e.was_free in let none : times h (positions (live old)) ≡ 0 = subst (λ x. times x (positions (live old)) ≡ 0) same free in omega arith

  home_old : 1 ≤ times s.home (positions (live old))
  home_old = home_live allocator old table place (Map keys vs) blocks s

  lies_mid : (h : ℕ) → 1 ≤ times h (positions (live mid)) → LiesIn mid heap_start (length mid) h
  lies_mid h some = there (LiesIn mid heap_start (length mid)) h (positions (live mid)) (live-lie mid allocator e.heap) some

  lies_old : (h : ℕ) → 1 ≤ times h (positions (live old)) → LiesIn old heap_start (length old) h
  lies_old h some = there (LiesIn old heap_start (length old)) h (positions (live old)) (live-lie old allocator s.heap) some

  blocks_kept : AllByRecursion (KeepsBlock old mid) (map block_of nodes ++ m.owned)
  blocks_kept = subst (AllByRecursion (KeepsBlock old mid)) m.blocks_are (each_there (KeepsBlock old mid) blocks (λ h some. e.kept h (owned_live allocator old table place (Map keys vs) blocks s h some)))

  cell_size : size table place.type ≡ 8
  cell_size = size-form table s.is_table place.type (Form.map U) f

  cell_same : IsSame old mid place.at 8
  cell_same = rw cell_size at (same_place allocator old table place (Map keys vs) blocks s mid (e.kept s.home home_old))

  all_same : AllByRecursion (λ p. IsSame old mid p (24 + size table U)) nodes
  all_same = nodes-same old mid (tag_of Kind.node place.type) (24 + size table U) nodes (each_left _ (map block_of nodes) m.owned blocks_kept) m.opens.are_nodes

  pub search_mid : IsSearchTree mid place.at shape
  search_mid =
      let was = is_search_tree allocator old table place U keys vs blocks f s in
      record {
        is_tree = rw (cell-target old mid place.at cell_same) (IsTree-same old mid (target old place.at) shape (shorter old mid table s.is_table (24 + size table U) 16 nodes (omega arith) all_same) was.is_tree);
        red_black = was.red_black;
        few = was.few;
      }

  keys_mid : AllByRecursion (λ x. key_at mid x ≡ key_at old x) nodes
  keys_mid = each_both _ _ _ (λ x l h. one x l h) nodes (low allocator old table place U keys vs blocks f s) all_same
    where
      one : (x : ℕ) → x + 8192 < 2 ^ 32 → IsSame old mid x (24 + size table U) → key_at mid x ≡ key_at old x
      one x l h = let at : (x + 16) % 2 ^ 32 ≡ x + 16 = omega arith in signed_long-same old mid ((x + 16) % 2 ^ 32) (rw at (IsSame-part old mid x (24 + size table U) (x + 16) 8 (omega arith) (omega arith) h))

  node_low : node + 8192 < 2 ^ 32
  node_low = let l = lies_mid (block_of node) own_live in let back = e.block.after_header in let small = e.heap.small in let high = l.high in let two = l.size in omega arith

  pub key_mid : key_at mid node ≡ key
  key_mid = let at : (node + 16) % 2 ^ 32 ≡ node + 16 = let l = node_low in omega arith in ap (signed_long mid) at ∙ e.key_is

  abbrev pub order : ℕ → ℕ → Ordering
  order x y = int_cmp (key_at mid x) (key_at mid y)

  same_map : (ns : List ℕ) → AllByRecursion (λ x. key_at mid x ≡ key_at old x) ns → map (key_at mid) ns ≡ map (key_at old) ns
  same_map [] h = refl
  same_map (x ∷ xs) h = ap (λ k. k ∷ map (key_at mid) xs) h.0 ∙ ap (λ ks. key_at old x ∷ ks) (same_map xs h.1)

  pub keys_are_mid : keys ≡ map (key_at mid) nodes
  keys_are_mid = keys_are allocator old table place U keys vs blocks f s ∙ sym (same_map nodes keys_mid)

  keys_ascend : IsAscending keys
  keys_ascend = subst IsAscending (sym m.keys_are) m.opens.ascending

  ascend_mid : Ascend order nodes
  ascend_mid = ascend_of (key_at mid) nodes (subst IsAscending keys_are_mid keys_ascend)

  turns_same : AllByRecursion (λ x. ordering_reverse (int_cmp (key_at old x) key) ≡ order node x) nodes
  turns_same = each_weaker _ _ (λ x k. ap (λ n. ordering_reverse (int_cmp n key)) (sym k) ∙ sym (int_cmp_total.antisymm key (key_at mid x)) ∙ ap (λ n. int_cmp n (key_at mid x)) (sym key_mid)) nodes keys_mid

  -- ---- the nodes lie in separate blocks

  touched_old : (x : ℕ) → IsNode allocator old table place U keys vs blocks f s x → IsTouched mid s.home x
  touched_old x n = record { after_header = n.after_header; is_live = mid_live (block_of x) n.is_live; other = owned_other allocator old table place (Map keys vs) blocks s (block_of x) n.owned }

  each_touched : AllByRecursion (IsTouched mid s.home) (node ∷ nodes)
  each_touched = (record { after_header = e.block.after_header; is_live = own_live; other = not_own s.home home_old }, each_weaker _ _ touched_old nodes each_node)

  once : (h : ℕ) → times h (s.home ∷ (block_of node ∷ map block_of nodes)) ≤ 1
  once h =
      let c = e.counts h in
      let o = s.owned h in
      let b : times h blocks ≡ times h (map block_of nodes ++ m.owned) = ap (times h) m.blocks_are in
      let n = times-append h (map block_of nodes) m.owned in
      let l = live-once mid allocator e.heap h in
      omega arith

  home_mid : IsInside mid s.home place.at 8
  home_mid =
      let k = (e.kept s.home home_old).room in
      let low = s.inside.low in
      let high = s.inside.high in
      let is8 = cell_size in
      let two = (lies_old s.home home_old).size in
      record { low = low; high = omega arith }

  stand_apart : StandApart (length mid) place.at (node ∷ nodes)
  stand_apart = nodes_stand_apart allocator mid e.heap place.at s.home (node ∷ nodes) home_mid (mid_live s.home home_old) each_touched once

  few : length nodes + 1 < 2 ^ 32
  few = let n = few_nodes allocator old table place U keys vs blocks f s in let small = s.heap.small in omega arith

  module _ (missing : AllByRecursion (λ x. int_cmp (key_at old x) key ≢ Equal) nodes) where
    missing_mid : AllByRecursion (λ x. int_cmp (key_at mid x) key ≢ Equal) nodes
    missing_mid = each_both _ _ _ (λ x k ne same. ne (ap (λ n. int_cmp n key) (sym k) ∙ same)) nodes keys_mid missing

    is_new : IsNew order node nodes
    is_new = each_both _ _ _ (λ x t ne same. ne (reverse_equal (int_cmp (key_at old x) key) (t ∙ same))) nodes turns_same missing

    pub between : Apart (key_at mid) key nodes
    between = apart_at (key_at mid) key nodes ascend_mid missing_mid

    pub leaves : (three : List ℕ) (path : Path) → ((shape : Tree) → IsSearchTree old place.at shape → LeadsTo (λ x. ordering_reverse (int_cmp (key_at old x) key)) shape path) → AddsFrom mid three place.at path node
        → Leaves mid three place.at (node ∷ nodes) (with_node order node nodes)
    leaves three path leads added =
        added order shape (on_total (key_at mid) int_cmp_total) search_mid ascend_mid
        (leads_same (λ x. ordering_reverse (int_cmp (key_at old x) key)) (order node) shape path turns_same (leads shape (is_search_tree allocator old table place U keys vs blocks f s)))
        is_new stand_apart few

    -- ---- the map with the new node

    module _ (three new : List ℕ) (n : ℕ) (l : Leaves mid three place.at (node ∷ nodes) (with_node order node nodes)) (new_is : new ≡ set_word three (place.at + 4) n) (n_is : count_at three place.at + 1 < 2 ^ 32
        → n ≡ count_at three place.at + 1) where
      abbrev front : List ℕ
      front = between.front

      abbrev back : List ℕ
      back = between.back

      home_live_mid : 1 ≤ times s.home (positions (live mid))
      home_live_mid = mid_live s.home home_old

      counted_mid : count_at mid place.at ≡ length nodes
      counted_mid = cell-count old mid place.at cell_same ∙ sym m.opens.counted

      counted_three : count_at three place.at ≡ length nodes
      counted_three = count_before allocator mid three new place.at s.home n (node ∷ nodes) (with_node order node nodes) e.heap l new_is home_mid home_live_mid each_touched (λ P p. each_with order node P nodes p.0 p.1) ∙ counted_mid

      n_long : n ≡ length nodes + 1
      n_long = n_is (let c = counted_three in let k = few in omega arith) ∙ ap (λ k. k + 1) counted_three

      made : Remade allocator mid new place.at s.home n (node ∷ nodes) (with_node order node nodes)
      made = remade allocator mid three new place.at s.home n (node ∷ nodes) (with_node order node nodes) e.heap l new_is home_mid home_live_mid each_touched (λ P p. each_with order node P nodes p.0 p.1)
          (let k = n_long in let i = few in omega arith)

      low_keys : AllByRecursion (λ x. int_cmp (key_at mid x) (key_at mid node) ≡ Less) front
      low_keys = each_weaker _ _ (λ x h. ap (int_cmp (key_at mid x)) key_mid ∙ h) front between.low

      high_keys : AllByRecursion (λ x. int_cmp (key_at mid x) (key_at mid node) ≡ Greater) back
      high_keys = each_weaker _ _ (λ x h. ap (int_cmp (key_at mid x)) key_mid ∙ h) back between.high

      now_are : nodes_of made.tree ≡ front ++ node ∷ back
      now_are = made.nodes_are ∙ ap (with_node order node) between.nodes_are ∙ comes_between (key_at mid) node front back low_keys high_keys

      -- a fact about touched nodes is a fact about each node and the new one
      each_now : (P : ℕ → Type 0) → ((x : ℕ) → IsTouched mid s.home x → P x) → AllByRecursion P (front ++ node ∷ back)
      each_now P h = subst (AllByRecursion P) (sym made.nodes_are ∙ now_are) (each_with order node P nodes (h node each_touched.0) (each_weaker _ _ h nodes each_touched.1))

      long_now : length (nodes_of made.tree) ≡ count_at new place.at
      long_now =
          let a = length-append front (node ∷ back) in
          let b = length-append front back in
          let c : length nodes ≡ length (front ++ back) = ap length between.nodes_are in
          let d = n_long in
          let g = made.count_is in
          ap length now_are ∙ (omega arith)

      -- the bytes of a node after its tree words are kept
      content_same : (x : ℕ) → IsTouched mid s.home x → IsBlock mid x (tag_of Kind.node place.type) (24 + size table U) → (p k : ℕ) → x + 16 ≤ p → p + k ≤ x + (24 + size table U) → IsSame mid new p k
      content_same x t b p k a c = made.content x p k t.after_header t.is_live t.other a (let r = b.room in let two = (lies_mid (block_of x) t.is_live).size in let low = t.after_header in omega arith)

      block_mid : AllByRecursion (λ x. IsBlock mid x (tag_of Kind.node place.type) (24 + size table U)) (node ∷ nodes)
      block_mid = (e.block, Rattle.seg_spec.proofs.Values.PlaceFrameLaws.nodes-kept old mid (tag_of Kind.node place.type) (24 + size table U) nodes (each_left _ (map block_of nodes) m.owned blocks_kept) m.opens.are_nodes)

      block_now : (x : ℕ) → IsTouched mid s.home x → IsBlock mid x (tag_of Kind.node place.type) (24 + size table U) → IsBlock new x (tag_of Kind.node place.type) (24 + size table U)
      block_now x t b =
          let k = (made.header (block_of x) t.is_live).0 in
          record { after_header = b.after_header; live = k.live ∙ b.live; has_tag = k.has_tag ∙ b.has_tag; room = let r = b.room in let q = k.room in omega arith }

      blocks_now : AreNodes new (tag_of Kind.node place.type) (24 + size table U) (nodes_of made.tree)
      blocks_now = subst (AreNodes new (tag_of Kind.node place.type) (24 + size table U)) (sym made.nodes_are)
          (each_with order node (λ x. IsBlock new x (tag_of Kind.node place.type) (24 + size table U)) nodes (block_now node each_touched.0 block_mid.0) (each_both _ _ _ block_now nodes each_touched.1 block_mid.1))

      key_new : (x : ℕ) → IsTouched mid s.home x → IsBlock mid x (tag_of Kind.node place.type) (24 + size table U) → signed_long new (x + 16) ≡ signed_long mid (x + 16)
      key_new x t b = signed_long-same mid new (x + 16) (content_same x t b (x + 16) 8 (omega arith) (omega arith))

      low_mid : (x : ℕ) → IsTouched mid s.home x → x + 8192 < 2 ^ 32
      low_mid x t = let l = lies_mid (block_of x) t.is_live in let low = t.after_header in let small = e.heap.small in let high = l.high in let two = l.size in omega arith

      keys_step : (ns : List ℕ) → AllByRecursion (λ x. signed_long new (x + 16) ≡ signed_long mid (x + 16)) ns → keys_at new (map (λ p. p + 16) ns) ≡ keys_at mid (map (λ p. p + 16) ns)
      keys_step [] h = refl
      keys_step (x ∷ xs) h = ap (λ k. k ∷ keys_at new (map (λ p. p + 16) xs)) h.0 ∙ ap (λ ks. signed_long mid (x + 16) ∷ ks) (keys_step xs h.1)

      keys_new : keys_at new (map (λ p. p + 16) (nodes_of made.tree)) ≡ map (key_at mid) (front ++ node ∷ back)
      keys_new =
          keys_step (nodes_of made.tree) (subst (AllByRecursion (λ x. signed_long new (x + 16) ≡ signed_long mid (x + 16))) (sym made.nodes_are)
          (each_with order node (λ x. signed_long new (x + 16) ≡ signed_long mid (x + 16)) nodes (key_new node each_touched.0 block_mid.0) (each_both _ _ _ key_new nodes each_touched.1 block_mid.1)))
          ∙ ap (λ ns. keys_at mid (map (λ p. p + 16) ns)) now_are ∙ keys_low mid (front ++ node ∷ back) (each_now (λ x. x + 8192 < 2 ^ 32) low_mid)

      keys_parts : keys ≡ map (key_at mid) (front ++ back)
      keys_parts = keys_are_mid ∙ ap (map (key_at mid)) between.nodes_are

      more : insert keys (keys_below keys key) key ≡ keys_at new (map (λ p. p + 16) (nodes_of made.tree))
      more = ap (λ ks. insert ks (keys_below ks key) key) keys_parts ∙ more_keys (key_at mid) key node front back key_mid between.low between.high ∙ sym keys_new

      more_ascend : IsAscending (insert keys (keys_below keys key) key)
      more_ascend = subst IsAscending (sym (more ∙ keys_new)) (ascends_with (key_at mid) node front back (subst (Ascend order) between.nodes_are ascend_mid) low_keys high_keys)

      -- ---- the values

      owned_away : (h : ℕ) → 1 ≤ times h m.owned → (1 ≤ times h (positions (live old))) × (h ≢ s.home) × (times h (map block_of (node ∷ nodes)) ≡ 0)
      owned_away h some =
          let b : times h blocks ≡ times h (map block_of nodes ++ m.owned) = ap (times h) m.blocks_are in
          let k = times-append h (map block_of nodes) m.owned in
          let mine : 1 ≤ times h blocks = omega arith in
          let is_live = owned_live allocator old table place (Map keys vs) blocks s h mine in
          let ne = owned_other allocator old table place (Map keys vs) blocks s h mine in
          let o = s.owned h in
          let more_times = times-more h s.home blocks in
          let l = live-once old allocator s.heap h in
          let off = times-other h (block_of node) (map block_of nodes) (not_own h is_live) in
          (is_live, ne, omega arith)

      owned_kept : AllByRecursion (KeepsBlock old new) m.owned
      owned_kept = each_there (KeepsBlock old new) m.owned (λ h some. let a = owned_away h some in kept_twice old mid new h (e.kept h a.0) (made.whole h (mid_live h a.0) a.1 a.2))

      value_same : (x : ℕ) → IsSame old mid x (24 + size table U) → IsTouched mid s.home x → IsBlock mid x (tag_of Kind.node place.type) (24 + size table U) → IsSame old new (x + 24) (size table U)
      value_same x h t b = IsSame-trans old mid new (x + 24) (size table U) (IsSame-part old mid x (24 + size table U) (x + 24) (size table U) (omega arith) (omega arith) h) (content_same x t b (x + 24) (size table U) (omega arith)
          (omega arith))

      values_by : (ns : List ℕ) → AllByRecursion (λ x. IsSame old mid x (24 + size table U)) ns → AllByRecursion (IsTouched mid s.home) ns → AllByRecursion (λ x. IsBlock mid x (tag_of Kind.node place.type) (24 + size table U)) ns
          → AllByRecursion (λ x. IsSame old new (x + 24) (size table U)) ns
      values_by [] h t b = tt
      values_by (x ∷ xs) h t b = (value_same x h.0 t.0 b.0, values_by xs h.1 t.1 b.1)

      values_same : AllByRecursion (SamePlace old new table) (value_places U nodes)
      values_same = each_map (SamePlace old new table) (value_of U) (map (λ p. p + 24) nodes) (each_map (λ q. IsSame old new q (size table U)) (λ p. p + 24) nodes
          (values_by nodes all_same each_touched.1 block_mid.1))

      values_new : HoldsEach new table (value_places U front ++ value_places U back) vs m.owned
      values_new = subst (λ ps. HoldsEach new table ps vs m.owned) (ap (value_places U) between.nodes_are ∙ places_joined U front back) (HoldsEach-kept old new table s.is_table m.each values_same owned_kept)

      default_new : Holds new table (value_of U (node + 24)) (default_of table U) []
      default_new = Holds-kept mid new table s.is_table e.value (content_same node each_touched.0 block_mid.0 (node + 24) (size table U) (omega arith) (omega arith)) tt

      halves : Parts new table (value_places U front) (value_places U back) vs m.owned
      halves = parts new table (value_places U front) (value_places U back) vs m.owned values_new

      values_more : HoldsEach new table (value_places U (nodes_of made.tree)) (insert_nth vs (keys_below keys key) (default_of table U)) m.owned
      values_more =
          let all : HoldsEach new table (value_places U front ++ value_places U (node ∷ back)) (append halves.left (cons (default_of table U) halves.right)) (halves.xs ++ halves.ys) = joined new table halves.lefts
          (holds_more default_new halves.rights) in
          let at : keys_below keys key ≡ count halves.left = ap (λ ks. keys_below ks key) keys_parts ∙ place_of_more (key_at mid) key front back between.low between.high ∙ sym (places_long U front) ∙ sym halves.count_is in
          let value : append halves.left (cons (default_of table U) halves.right) ≡ insert_nth vs (keys_below keys key) (default_of table U) =
          sym (ap (λ ws. insert_nth ws (keys_below keys key) (default_of table U)) halves.values_are ∙ inserted_nth halves.left halves.right (default_of table U) (keys_below keys key) at) in
          let there_is = subst (λ ps. HoldsEach new table ps (append halves.left (cons (default_of table U) halves.right)) (halves.xs ++ halves.ys)) (sym (ap (value_places U) now_are ∙ places_joined U front (node ∷ back))) all in
          subst (λ bs. HoldsEach new table (value_places U (nodes_of made.tree)) (insert_nth vs (keys_below keys key) (default_of table U)) bs) (sym halves.blocks_are)
          (subst (λ ws. HoldsEach new table (value_places U (nodes_of made.tree)) ws (halves.xs ++ halves.ys)) value there_is)

      abbrev others : List ℕ
      others = map block_of (nodes_of made.tree) ++ m.owned

      holds_more_keys : Holds new table place (with_entry (keys, vs) key (default_of table U)) others
      holds_more_keys = map_of new table place U made.tree (insert keys (keys_below keys key) key) (insert_nth vs (keys_below keys key)
          (default_of table U)) m.owned f made.is_tree made.red_black long_now blocks_now more more_ascend values_more

      -- ---- the state after the call

      turned : (h : ℕ) → times h (map block_of (nodes_of made.tree)) ≡ times h (block_of node ∷ map block_of nodes)
      turned h =
          let a = times-append h (map block_of front) (map block_of (node ∷ back)) in
          let b = times-append h (map block_of front) (map block_of back) in
          let c : times h (map block_of nodes) ≡ times h (map block_of front ++ map block_of back) = ap (times h) (ap (map block_of) between.nodes_are ∙ blocks_joined front back) in
          let d : times h (map block_of (nodes_of made.tree)) ≡ times h (map block_of front ++ map block_of (node ∷ back)) = ap (times h) (ap (map block_of) now_are ∙ blocks_joined front (node ∷ back)) in
          omega arith
        where
          blocks_joined : (xs ys : List ℕ) → map block_of (xs ++ ys) ≡ map block_of xs ++ map block_of ys
          blocks_joined [] ys = refl
          blocks_joined (x ∷ xs) ys = ap (λ zs. block_of x ∷ zs) (blocks_joined xs ys)

      live_counts : (h : ℕ) → times h (positions (live new)) + times h blocks ≡ times h (positions (live old)) + times h others
      live_counts h =
          let a = turned h in
          let b = times-append h (map block_of (nodes_of made.tree)) m.owned in
          let c = times-append h (map block_of nodes) m.owned in
          let d : times h blocks ≡ times h (map block_of nodes ++ m.owned) = ap (times h) m.blocks_are in
          let k = e.counts h in
          let l : times h (positions (live new)) ≡ times h (positions (live mid)) = ap (λ bs. times h (positions bs)) made.live_is in
          omega arith

      around_new : (h : ℕ) → 1 ≤ times h (positions (live old)) → times h blocks ≡ 0 → KeepsBlockAround old new place.at (size table place.type) h
      around_new h some none =
          let b : times h blocks ≡ times h (map block_of nodes ++ m.owned) = ap (times h) m.blocks_are in
          let k = times-append h (map block_of nodes) m.owned in
          let off = times-other h (block_of node) (map block_of nodes) (not_own h some) in
          let solid = (lies_old h some).size in
          rw cell_size (around_twice old mid new place.at 8 h (around_kept old mid place.at 8 h (omega arith) (e.kept h some)) (made.around h (mid_live h some) (omega arith)))

      changes : ChangesPlace old new table place (with_entry (keys, vs) key (default_of table U)) others (live new) blocks others
      changes = record {
        length_kept = made.length_kept ∙ e.length_kept;
        front_kept = IsSame-trans old mid new 0 24 e.front_kept (made.low 0 24 (omega arith));
        back_kept = IsSame-trans old mid new 28 676 e.back_kept (made.low 28 676 (omega arith));
        heap = subst (λ a. IsHeap a new) (sym s.allocator_is) made.heap;
        ownable = made.ownable table e.ownable;
        holds_it = holds_more_keys;
        live_is = refl;
        live_are = live_counts;
        kept = around_new;
      }

      place_now : (key_place (keys_at new (map (λ p. p + 16) (nodes_of made.tree))) key ≡ Some (length front)) × (slice_get (nodes_of made.tree) (length front) ≡ Some node)
      place_now = (
        ap (λ ks. key_place ks key) keys_new ∙ place_after (key_at mid) key front node back between.low (ap (λ k. int_cmp k key) key_mid ∙ equal_self key),
        ap (λ ns. slice_get ns (length front)) now_are ∙ there_it_is front,
      )
        where
          there_it_is : (xs : List ℕ) → slice_get (xs ++ node ∷ back) (length xs) ≡ Some node
          there_it_is [] = refl
          there_it_is (x ∷ xs) = there_it_is xs

      -- the other values stay in their nodes
      parts_more : KeepsParts old new table place (keys_below keys key) 0 1
      parts_more =
          let was : HoldsEach old table (value_places U front ++ value_places U back) vs m.owned = subst (λ ps. HoldsEach old table ps vs m.owned) (ap (value_places U) between.nodes_are ∙ places_joined U front back) m.each in
          let two = parts old table (value_places U front) (value_places U back) vs m.owned was in
          let places : AllByRecursion (SamePlace old new table) (value_places U front ++ value_places U back) =
          subst (AllByRecursion (SamePlace old new table)) (ap (value_places U) between.nodes_are ∙ places_joined U front back) values_same in
          let kept : AllByRecursion (KeepsBlock old new) (two.xs ++ two.ys) = subst (AllByRecursion (KeepsBlock old new)) two.blocks_are owned_kept in
          let opened : Opened = record { label = Label.map (keys_at new (map (λ p. p + 16) (nodes_of made.tree))); blocks = map block_of (nodes_of made.tree); parts = value_places U (nodes_of made.tree) } in
          let opens : OpensTree new table place.at (tag_of Kind.node place.type) U opened =
          record { tree = made.tree; is_tree = made.is_tree; red_black = made.red_black; counted = long_now; are_nodes = blocks_now; ascending = subst IsAscending more more_ascend; opened_is = refl } in
          let k = tree_parts old new table place U f m.opened opened m.opens opens front [] (node ∷ []) back between.nodes_are now_are
          (PersistEach-kept old new table s.is_table two.lefts (each_left _ (value_places U front) (value_places U back) places) (each_left _ two.xs two.ys kept))
          (PersistEach-kept old new table s.is_table two.rights (each_right _ (value_places U front) (value_places U back) places) (each_right _ two.xs two.ys kept)) in
          let at : keys_below keys key ≡ length front = ap (λ ks. keys_below ks key) keys_parts ∙ place_of_more (key_at mid) key front back between.low between.high in
          subst (λ n. KeepsParts old new table place n 0 1) (sym at) k

      pub adds_key : AddsKey allocator old new table place U keys vs key blocks (block_for (24 + size table U) ∷ []) (node + 24)
      adds_key = record {
        others = others;
        succeeds = record { left = live new; left_is = e.spent_is ∙ ap Some (sym made.live_is); changes = changes };
        parts = parts_more;
        stands_at = map_leads new table place U made.tree f made.is_tree made.red_black long_now blocks_now (subst IsAscending more more_ascend) key (length front) node place_now.0 place_now.1 Rattle.seg_spec.specs.Reads.here;
      }

      -- each path still reaches the same place
      path_kept : (t : Selector) (path : List Selector) (inner : Place) → Leads old table place (t ∷ path) inner → Leads new table place (t ∷ path) inner
      path_kept t path inner way =
          let p = passes old new table s.is_table place U keys vs blocks f m values_same owned_kept way in
          let was : key_place (map (key_at mid) nodes) p.key ≡ Some p.i = ap (λ ks. key_place ks p.key) (sym keys_are_mid ∙ m.keys_are) ∙ p.place_is in
          let equal = key_of_place (key_at mid) p.key nodes p.i p.node was p.node_is in
          let j = still_among front node back p.i p.node (ap (λ ns. slice_get ns p.i) (sym between.nodes_are) ∙ p.node_is) in
          let there_now = place_of (key_at mid) p.key (front ++ node ∷ back) p.node j.0 (ascend_of (key_at mid) (front ++ node ∷ back) (subst IsAscending (more ∙ keys_new) more_ascend)) j.1 equal in
          subst (λ u. Leads new table place (u ∷ path) inner) (sym p.selector_is)
          (map_leads new table place U made.tree f made.is_tree made.red_black long_now blocks_now (subst IsAscending more more_ascend) p.key j.0 p.node
          (ap (λ ks. key_place ks p.key) keys_new ∙ there_now) (ap (λ ns. slice_get ns j.0) now_are ∙ j.1) p.goes)

      pub keeps_paths : KeepsPathsInside old new table place
      keeps_paths path inner way = paths_by old new table place path_kept path inner way
