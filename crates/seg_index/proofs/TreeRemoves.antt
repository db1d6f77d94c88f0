-- A node is removed from the tree of the index and its block is freed. The index then lists one
-- name less.
use Rattle.std.proofs.Common.{◌≡◌, ◌≢◌, ℕ, ◌+◌, ◌-◌, ◌^◌, ◌<◌, ◌≤◌, inl, inr, List, [], ◌∷◌, ◌++◌, length, map, Option, Some, None, option_map, refl, sym, ap, ◌∙◌, subst, arith}
use Rattle.std.specs.Prelude.{Contains}
use Rattle.std.proofs.lemmas.List.{length-append}
use Rattle.std.specs.List.{AllByRecursion}
use Rattle.std.specs.Ordering.{nat_cmp, ordering_reverse}
use Rattle.std.specs.Cmp.Lexicographic.{slice_cmp, nat_list_cmp_total}
use Rattle.std.specs.declared.cmp.Ordering.{Ordering}
use Rattle.std.specs.declared.cmp.Ordering.TheVariants.{Less}
use Rattle.seg_spec.specs.Bytes.{word, set_word, IsSame}
use Rattle.seg_spec.specs.Header.{index_kind_word, index_cell, heap_start}
use Rattle.seg_spec.specs.Pointer.{target}
use Rattle.seg_spec.specs.Types.{Table}
use Rattle.seg_spec.specs.Heap.{live, IsHeap, IsLive, Gives, after_give}
use Rattle.seg_spec.specs.Block.{Kind, tag_of, block_of, IsBlock, KeepsBlock}
use Rattle.seg_spec.specs.Shapes.{Tree, nodes_of, IsTree}
use Rattle.seg_spec.specs.Search.{IsSearchTree, rank_of}
use Rattle.seg_spec.specs.Reads.{count_at}
use Rattle.seg_spec.specs.Index.{Root, ListsNames, root_named}
use Rattle.seg_spec.specs.Sound.{times, positions}
use Rattle.seg_spec.specs.Demand.{after_gives}
use Rattle.seg_spec.specs.Spending.{EntryBlocks}
use Rattle.seg_spec.proofs.SliceLaws.{IsSame-part, IsSame-trans}
use Rattle.seg_spec.proofs.OrderLaws.{steps_up}
use Rattle.seg_spec.proofs.Deallocation.BlockFreeLaws.{found}
use Rattle.seg_spec.proofs.Heap.BlockFrameLaws.{kept_twice, around_kept, around_twice}
use Rattle.seg_spec.proofs.Values.PlaceFrameLaws.{each_of_map, each_weaker, each_both, word-same, target-same, cell-count, IsBlock-kept, payload-same, IsTree-same}
use Rattle.seg_spec.proofs.Heap.LiveBlockLaws.{LiesIn, live-lie, times-same, times-more, there, not_there, live-once}
use Rattle.seg_value.proofs.Inside.{given_counts, given_linked, given_ownable, given_front}
use Rattle.seg_rbtree.specs.declared.path.Path.{Path}
use Rattle.seg_rbtree.specs.Ways.{LeadsTo}
use Rattle.seg_rbtree.specs.Paths.{node_at, FindsEqual, IsEqualAmong}
use Rattle.seg_rbtree.specs.Changes.{StandApart, without_node, Leaves}
use Rattle.seg_rbtree.proofs.Paths.{finds_equal}
use Rattle.seg_rbtree.proofs.NodeRemovalLaws.{each_without}
use Rattle.seg_rbtree.proofs.WithoutNode.{without_middle}
use Rattle.seg_cells.specs.Names.{name_at}
use Rattle.seg_index.specs.Lists.{entry_of, FindsNamesOf, LeadsToName, ChangesNames, LeavesName}
use Rattle.seg_cells.proofs.Precedes.{same_of_equal, same_name_self}
use Rattle.seg_index.proofs.RootOrder.{InOrder, order_without, named_past}
use Rattle.seg_index.proofs.TreeLists.{entry_in, path_is, AreListed, order, nodes, shape, its, blocks_are, IsNode, are_nodes, listed, ascend, few_nodes, is_search_tree}
use Rattle.seg_index.proofs.TreeChanges.{Splits, split_listed, join_listed, entries_kept, order_before, lists_by, times_with, contains_middle}
use Rattle.seg_index.proofs.TreeWriteLaws.{IsTouched, Remade, remade, count_before, stand_apart}

-- what removing the node at the end of a path ensures
abbrev pub TakesFrom : List ℕ → List ℕ → ℕ → Path → Type 0
TakesFrom old new root path = (turn : ℕ → Ordering) (node : ℕ) (shape : Tree) → IsSearchTree old root shape → LeadsTo turn shape path → node_at old path ≡ Some node → StandApart (length old) root (nodes_of shape)
    → Leaves old new root (nodes_of shape) (without_node node (nodes_of shape))

equal_by : (compare : ℕ → Ordering) (ns : List ℕ) (o : Option ℕ) (node : ℕ) → o ≡ Some node → FindsEqual compare ns o → IsEqualAmong compare ns node
equal_by compare ns None node e f = cc
equal_by compare ns (Some x) node e f = let same : x ≡ node = cc in subst (IsEqualAmong compare ns) same f

module _ (allocator : ℕ) (old : List ℕ) (table : Table) (names : List Root) (blocks : List ℕ) (s : FindsNamesOf allocator old table names blocks) (kind : word old index_kind_word ≡ 1)
    (root : Root) (there_is : root_named names root.name ≡ Some root) (path : Path) (way : LeadsToName old table root.name path) (node : ℕ) (node_is : node_at old path ≡ Some node) where
  abbrev ns : List ℕ
  ns = nodes allocator old table names blocks s kind

  abbrev tree : Tree
  tree = shape allocator old table names blocks s kind

  abbrev compare : ℕ → Ordering
  compare x = slice_cmp nat_cmp (name_at table old (x + 16)) root.name

  search : IsSearchTree old index_cell tree
  search = is_search_tree allocator old table names blocks s kind

  keyed : (x y : ℕ) → order old table x y ≡ Less → rank_of (compare x) ≤ rank_of (compare y)
  keyed x y less = steps_up nat_list_cmp_total (name_at table old (x + 16)) (name_at table old (y + 16)) root.name less

  it_is : IsEqualAmong compare ns node
  it_is = equal_by compare ns (node_at old path) node node_is
      (finds_equal compare (order old table) keyed old index_cell path tree way.root_is search (ascend allocator old table names blocks s kind) (way.leads tree search))

  abbrev front : List ℕ
  front = it_is.front

  abbrev back : List ℕ
  back = it_is.back

  parts : Splits old table front node back names
  parts = split_listed old table front node back names (subst (λ xs. AreListed old table xs names) it_is.nodes_are (listed allocator old table names blocks s kind))

  in_order : InOrder (parts.before ++ parts.it ∷ parts.after)
  in_order = subst InOrder parts.names_are s.lists.ascending

  it_named : parts.it.name ≡ root.name
  it_named = sym parts.its.name_is ∙ same_of_equal (name_at table old (node + 16)) root.name it_is.equals

  it_root : parts.it ≡ root
  it_root =
      let first : root_named names parts.it.name ≡ root_named (parts.it ∷ parts.after) parts.it.name = ap (λ rs. root_named rs parts.it.name) parts.names_are ∙ named_past parts.before (parts.it ∷ parts.after) parts.it.name
      (order_before parts.before parts.it parts.after in_order) in
      let self : root_named (parts.it ∷ parts.after) parts.it.name ≡ Some parts.it = rw (same_name_self parts.it.name) refl in
      let asked : root_named names parts.it.name ≡ Some root = ap (root_named names) it_named ∙ there_is in
      some_same parts.it root (sym (first ∙ self) ∙ asked)
    where
      some_same : (a b : Root) → Some a ≡ Some b → a ≡ b
      some_same a b e = cc

  names_are : names ≡ parts.before ++ root ∷ parts.after
  names_are = parts.names_are ∙ ap (λ r. parts.before ++ r ∷ parts.after) it_root

  -- ---- the nodes lie in separate blocks

  each_node : AllByRecursion (IsNode allocator old table names blocks s kind) ns
  each_node = are_nodes allocator old table names blocks s kind

  touched : AllByRecursion (IsTouched old) ns
  touched = each_weaker _ _ (λ x n. record { after_header = n.block.after_header; is_live = n.is_live }) ns each_node

  owned_once : (h : ℕ) → times h blocks ≡ times h (map block_of ns)
  owned_once h = ap (times h) (blocks_are allocator old table names blocks s kind)

  once : (h : ℕ) → times h (map block_of ns) ≤ 1
  once h = let a = owned_once h in let b = s.owned h in let c = live-once old allocator s.heap h in omega arith

  pub apart : StandApart (length old) index_cell ns
  apart = stand_apart allocator old s.heap ns touched once

  fewer : without_node node ns ≡ front ++ back
  fewer = ap (without_node node) it_is.nodes_are ∙ without_middle node front back (subst Rattle.seg_rbtree.specs.Changes.NodesApart it_is.nodes_are apart.nodes_apart)

  among : (P : ℕ → Type 0) → AllByRecursion P ns → AllByRecursion P (without_node node ns)
  among P h = subst (AllByRecursion P) (sym fewer) (each_without P node front back (subst (AllByRecursion P) it_is.nodes_are h))

  left_over : (P : ℕ → Type 0) → AllByRecursion P ns → AllByRecursion P (front ++ back)
  left_over P h = each_without P node front back (subst (AllByRecursion P) it_is.nodes_are h)

  few : length ns < 2 ^ 32
  few = let n = few_nodes allocator old table names blocks s kind in let small = s.heap.small in omega arith

  long : length ns ≡ length (front ++ back) + 1
  long = ap length it_is.nodes_are ∙ (let x = length-append front (node ∷ back) in let y = length-append front back in omega arith)

  all_times : (h : ℕ) → times h blocks ≡ times h (block_of node ∷ map block_of (front ++ back))
  all_times h = owned_once h ∙ ap (λ xs. times h (map block_of xs)) it_is.nodes_are ∙ times_with h front node back

  node_live : 1 ≤ times (block_of node) (positions (live old))
  node_live = let a = all_times (block_of node) in let b = times-same (block_of node) (map block_of (front ++ back)) in let c = s.owned (block_of node) in omega arith

  other_blocks : AllByRecursion (λ x. block_of x ≢ block_of node) (front ++ back)
  other_blocks =
      let a = all_times (block_of node) in let b = times-same (block_of node) (map block_of (front ++ back)) in let c = s.owned (block_of node) in let d = live-once old allocator s.heap (block_of node) in
      each_of_map (λ x. x ≢ block_of node) block_of (front ++ back) (not_there (block_of node) (map block_of (front ++ back)) (omega arith))

  -- ---- the tree without the node

  module _ (three mid new : List ℕ) (n count : ℕ) (taken : TakesFrom old three path.root path) (mid_is : mid ≡ set_word three (index_cell + 4) n) (n_is : n ≡ count - 1) (count_is : count ≡ count_at three index_cell)
      (gives : IsHeap allocator mid → IsLive mid (block_of node) → Gives allocator mid new (block_of node)) where
    l : Leaves old three index_cell ns (without_node node ns)
    l =
        let taken' : TakesFrom old three index_cell path = subst (λ r. TakesFrom old three r path) way.root_is taken in
        taken' (λ x. ordering_reverse (compare x)) node tree search (way.leads tree search) node_is apart

    counted_three : count_at three index_cell ≡ length ns
    counted_three = count_before allocator old three mid n ns (without_node node ns) s.heap l mid_is touched among ∙ sym (its allocator old table names blocks s kind).counted

    n_long : n ≡ length (front ++ back)
    n_long = let c = counted_three in let d = long in omega (arith, n_is, count_is)

    made : Remade allocator old mid n ns (without_node node ns)
    made = remade allocator old three mid n ns (without_node node ns) s.heap l mid_is touched among (let d = long in let g = n_long in let e = few in omega arith)

    mid_live : (h : ℕ) → times h (positions (live mid)) ≡ times h (positions (live old))
    mid_live h = ap (λ bs. times h (positions bs)) made.live_is

    node_mid : 1 ≤ times (block_of node) (positions (live mid))
    node_mid = let a = mid_live (block_of node) in let b = node_live in omega arith

    is_live : IsLive mid (block_of node)
    is_live =
        let f = found (block_of node) (live mid) node_mid in
        (f.block.units, subst (λ a. Contains (live mid) (record { at = a; units = f.block.units })) f.at_is f.among)

    given : Gives allocator mid new (block_of node)
    given = gives made.heap is_live

    front_same : IsSame mid new 0 24 × IsSame mid new 28 676
    front_same = given_front allocator mid new table (block_of node) made.heap given node_mid

    low_same : (p m : ℕ) → 28 ≤ p → p + m ≤ 704 → IsSame mid new p m
    low_same p m low high = IsSame-part mid new 28 676 p m low (omega arith) front_same.1

    kept_then : (h : ℕ) → 1 ≤ times h (positions (live old)) → h ≢ block_of node → KeepsBlock mid new h
    kept_then h some ne = (given_linked allocator mid new table (block_of node) made.heap given node_mid h (let a = mid_live h in omega arith) ne).whole.kept

    -- ---- the nodes that remain

    record Stays (x : ℕ) : Type 0 where
      block : IsBlock new x (tag_of Kind.index_node 0) 24
      words : IsSame mid new x 16
      entry : IsSame old new (x + 16) 8

    stays_by : (x : ℕ) → IsNode allocator old table names blocks s kind x → block_of x ≢ block_of node → Stays x
    stays_by x d ne =
        let h = made.header (block_of x) d.is_live in
        let b = d.block in
        let middle : IsBlock mid x (tag_of Kind.index_node 0) 24 = record { after_header = b.after_header; live = h.live ∙ b.live; has_tag = h.has_tag ∙ b.has_tag; room = let r = b.room in let q = h.room in omega arith } in
        let k = kept_then (block_of x) d.is_live ne in
        let all = payload-same mid new x (tag_of Kind.index_node 0) 24 k middle in
        record {
          block = IsBlock-kept mid new x (tag_of Kind.index_node 0) 24 k middle;
          words = IsSame-part mid new x 24 x 16 (omega arith) (omega arith) all;
          entry = IsSame-trans old mid new (x + 16) 8
              (made.content x (x + 16) 8 b.after_header d.is_live (omega arith) (let r = b.room in let back = b.after_header in omega arith))
              (IsSame-part mid new x 24 (x + 16) 8 (omega arith) (omega arith) all);
        }

    stays : AllByRecursion Stays (front ++ back)
    stays = each_both _ _ _ stays_by (front ++ back) (left_over _ each_node) other_blocks

    made_are : nodes_of made.tree ≡ front ++ back
    made_are = made.nodes_are ∙ fewer

    cell_same : IsSame mid new index_cell 8
    cell_same = low_same index_cell 8 (omega arith) (omega arith)

    hangs : IsTree new (target new index_cell) made.tree
    hangs = rw (target-same mid new index_cell (IsSame-part mid new index_cell 8 index_cell 4 (omega arith) (omega arith) cell_same))
        (IsTree-same mid new (target mid index_cell) made.tree (subst (AllByRecursion (λ p. IsSame mid new p 16)) (sym made_are) (each_weaker _ _ (λ x t. t.words) (front ++ back) stays)) made.is_tree)

    counted_now : length (front ++ back) ≡ count_at new index_cell
    counted_now = sym n_long ∙ sym made.count_is ∙ sym (cell-count mid new index_cell cell_same)

    kind_now : word new index_kind_word ≡ 1
    kind_now = word-same mid new index_kind_word (IsSame-part mid new 0 24 index_kind_word 4 (omega arith) (omega arith) front_same.0)
        ∙ word-same old mid index_kind_word (made.low index_kind_word 4 (inl (omega arith)) (omega arith)) ∙ kind

    lists_now : ListsNames new (parts.before ++ parts.after) (map block_of (front ++ back))
    lists_now = lists_by new made.tree (front ++ back) (parts.before ++ parts.after) kind_now hangs made.red_black made_are counted_now (each_weaker _ _ (λ x t. t.block) (front ++ back) stays)
        (entries_kept old table new (front ++ back) (parts.before ++ parts.after) (join_listed old table front parts.before back parts.after parts.lefts parts.rights) (each_weaker _ _ (λ x t. t.entry) (front ++ back) stays))
        (order_without parts.before parts.it parts.after in_order)

    changes : ChangesNames old new table (after_gives (live old) (block_of node ∷ [])) blocks (parts.before ++ parts.after) (map block_of (front ++ back))
    changes = record {
      length_kept = given.kept.length_kept ∙ made.length_kept;
      front_kept = IsSame-trans old mid new 0 24 (made.low 0 24 (inl (omega arith)) (omega arith)) front_same.0;
      middle_kept = IsSame-trans old mid new 28 4 (made.low 28 4 (inl (omega arith)) (omega arith)) (low_same 28 4 (omega arith) (omega arith));
      back_kept = IsSame-trans old mid new 40 664 (made.low 40 664 (inr (omega arith)) (omega arith)) (low_same 40 664 (omega arith) (omega arith));
      heap = subst (λ a. IsHeap a new) (sym s.allocator_is) given.heap;
      ownable = given_ownable allocator mid new table (block_of node) made.heap given node_mid (made.ownable table s.ownable);
      live_is = given.given ∙ ap (λ bs. after_give bs (block_of node)) made.live_is;
      live_are = λ h.
          let a = given_counts allocator mid new table (block_of node) made.heap given node_mid h in
          let b = mid_live h in
          let c = all_times h in
          let d = times_cons h (block_of node) (positions (live new)) in
          let e = times_cons h (block_of node) (map block_of (front ++ back)) in
          omega arith;
      kept = λ h some none.
          let a = all_times h in
          let b = owned_once h in
          kept_twice old mid new h (made.whole h some (omega arith)) (kept_then h some (λ e. not_it h e none));
      nodes_kept = λ tree h own some.
          let was : 1 ≤ times h (positions (live old)) = (let o = s.owned h in omega arith) in
          let solid = (there (LiesIn mid heap_start (length mid)) h (positions (live mid)) (live-lie mid allocator made.heap) (let m = mid_live h in omega arith)).size in
          around_twice old mid new (h + 16) 16 h (made.around h was) (around_kept mid new (h + 16) 16 h (omega arith) (kept_then h was (λ e. freed h e some)));
      lists = lists_now;
    }
      where
        times_cons : (h x : ℕ) (xs : List ℕ) → times h (x ∷ xs) ≡ times h (x ∷ []) + times h xs
        times_cons h x xs = Rattle.seg_spec.proofs.Heap.LiveBlockLaws.times-append h (x ∷ []) xs

        -- the node that was freed isn't allocated
        freed : (h : ℕ) → h ≡ block_of node → 1 ≤ times h (positions (live new)) → ⊥
        freed h e some =
            let still : 1 ≤ times (block_of node) (positions (live new)) = subst (λ x. 1 ≤ times x (positions (live new))) e some in
            let a = given_counts allocator mid new table (block_of node) made.heap given node_mid (block_of node) in
            let b = times-same (block_of node) (positions (live new)) in
            let c = mid_live (block_of node) in
            let d = live-once old allocator s.heap (block_of node) in
            omega arith

        not_it : (h : ℕ) → h ≡ block_of node → times h blocks ≡ 0 → ⊥
        not_it h e none =
            let here : times (block_of node) blocks ≡ 0 = subst (λ x. times x blocks ≡ 0) e none in
            let a = all_times (block_of node) in
            let b = times-same (block_of node) (map block_of (front ++ back)) in
            omega arith

    its_block : EntryBlocks (word old index_kind_word) old blocks root (block_of node ∷ [])
    its_block =
        let points : target old (node + 16) ≡ Some root.at = parts.its.entry.points ∙ ap (λ (r : Root). Some r.at) it_root in
        let mine : Contains blocks (block_of node) = subst (λ bs. Contains bs (block_of node)) (sym (blocks_are allocator old table names blocks s kind ∙ ap (map block_of) it_is.nodes_are)) (contains_middle front node back) in
        subst (λ k. EntryBlocks k old blocks root (block_of node ∷ [])) (sym kind) (node, mine, points, refl)

    pub leaves : LeavesName old new table names blocks root
    leaves = record {
      before = parts.before;
      after = parts.after;
      names_are = names_are;
      gives = block_of node ∷ [];
      entry = its_block;
      others = map block_of (front ++ back);
      changes = changes;
    }

-- the path to a name in the index ends at a node
pub never_missing : (allocator : ℕ) (old : List ℕ) (table : Table) (names : List Root) (blocks : List ℕ) (s : FindsNamesOf allocator old table names blocks) (kind : word old index_kind_word ≡ 1)
    (root : Root) (there_is : root_named names root.name ≡ Some root) (path : Path) (way : LeadsToName old table root.name path) → node_at old path ≡ None → ⊥
never_missing allocator old table names blocks s kind root there_is path way none =
    let found = path_is allocator old table names blocks s kind old table index_cell refl refl refl root.name (node_at old path)
    (λ tree t a. finds_equal (λ x. slice_cmp nat_cmp (name_at table old (x + 16)) root.name) (order old table)
    (λ x y less. steps_up nat_list_cmp_total (name_at table old (x + 16)) (name_at table old (y + 16)) root.name less) old index_cell path tree way.root_is t a (way.leads tree t)) in
    let both : None ≡ Some (entry_of root) = sym (ap (option_map (entry_in old table)) none) ∙ found ∙ ap (option_map entry_of) there_is in
    absurd (cc)
