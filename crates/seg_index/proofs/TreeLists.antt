-- The tree of the index and its names, in the terms of the calls on nodes.
use Rattle.std.proofs.Common.{◌≡◌, ℕ, ◌+◌, ◌*◌, ◌≤◌, Bool, true, false, cond, List, [], ◌∷◌, length, map, Option, Some, None, MatchOption, option_map, refl, sym, ap, ◌∙◌, subst, arith}
use Rattle.std.specs.Prelude.{⊤, slice_get}
use Rattle.std.proofs.lemmas.List.{length-map}
use Rattle.std.specs.List.{AllByRecursion}
use Rattle.std.specs.Ordering.{nat_cmp, is_eq, ordering_reverse}
use Rattle.std.specs.Cmp.Lexicographic.{slice_cmp, nat_list_cmp_total}
use Rattle.std.specs.declared.cmp.Ordering.{Ordering}
use Rattle.std.specs.declared.cmp.Ordering.TheVariants.{Less, Equal, Greater}
use Rattle.seg_spec.specs.Bytes.{word}
use Rattle.seg_spec.specs.Header.{index_kind_word, index_cell, heap_start}
use Rattle.seg_spec.specs.Types.{Table}
use Rattle.seg_spec.specs.Heap.{Span, live}
use Rattle.seg_spec.specs.Block.{Kind, tag_of, block_of, IsBlock}
use Rattle.seg_spec.specs.Shapes.{Tree, nodes_of}
use Rattle.seg_spec.specs.Search.{Ascend, IsSearchTree, first_where, reaches}
use Rattle.seg_spec.specs.Reads.{AreNodes}
use Rattle.seg_spec.specs.Index.{Root, Index, OpensIndex, OpensTreeIndex, IsEntry, AreEntries, root_named, same_name}
use Rattle.seg_spec.specs.Sound.{times, positions}
use Rattle.seg_spec.proofs.Heap.LiveBlockLaws.{times-same, times-more}
use Rattle.seg_spec.proofs.Heap.BlockCountLaws.{no_more, few_live}
use Rattle.seg_rbtree.specs.declared.path.Path.{Path}
use Rattle.seg_rbtree.specs.Ways.{LeadsTo}
use Rattle.seg_rbtree.specs.Paths.{FindsEqual}
use Rattle.seg_rbtree.proofs.Paths.{finds_first}
use Rattle.seg_rbtree.proofs.Keys.{equal_to_one}
use Rattle.seg_cells.specs.Names.{name_at}
use Rattle.seg_cells.specs.NameEntries.{entry_read}
use Rattle.seg_index.specs.Lists.{entry_of, comes_before, root_after, IsNamed, FindsNamesOf, LeadsToName, LooksUp}
use Rattle.seg_cells.specs.declared.name_entry.NameEntry.{NameEntry}
use Rattle.seg_cells.proofs.Precedes.{less_of_precedes, precedes_of_less, precedes_of_greater, same_of_equal, same_name_self, precedes_test, precedes_test_back, precedes_trans, precedes_differs}
use Rattle.seg_index.proofs.EntryLaws.{entry_reads, name_reads, type_small}
use Rattle.seg_index.proofs.RootOrder.{InOrder, AllAfter, order_head, order_tail, comes_true, comes_false}

-- ---- comparisons of names as tests

pub equal_test : (xs ys : List ℕ) → is_eq (slice_cmp nat_cmp xs ys) ≡ same_name ys xs
equal_test xs ys = go (slice_cmp nat_cmp xs ys) refl
  where
    go : (r : Ordering) → slice_cmp nat_cmp xs ys ≡ r → is_eq r ≡ same_name ys xs
    go Less e = sym (precedes_test_back xs ys (precedes_of_less xs ys e))
    go Equal e = sym (ap (same_name ys) (same_of_equal xs ys e) ∙ same_name_self ys)
    go Greater e = sym (precedes_test ys xs (precedes_of_greater xs ys e))

above_test : (xs ys : List ℕ) → reaches Greater (slice_cmp nat_cmp xs ys) ≡ comes_before ys xs
above_test xs ys = go (slice_cmp nat_cmp xs ys) refl
  where
    go : (r : Ordering) → slice_cmp nat_cmp xs ys ≡ r → reaches Greater r ≡ comes_before ys xs
    go Less e = let p = precedes_of_less xs ys e in sym (comes_false ys xs (λ h. precedes_differs xs xs (precedes_trans xs ys xs p h) refl))
    go Equal e = sym (comes_false ys xs (λ h. precedes_differs ys xs h (sym (same_of_equal xs ys e))))
    go Greater e = sym (comes_true ys xs (precedes_of_greater xs ys e))

-- ---- nodes and roots in order

-- the entry of a node belongs to a root
pub record IsListed (bytes : List ℕ) (table : Table) (x : ℕ) (r : Root) : Type 0 where
  pub entry : IsEntry bytes (x + 16) r
  pub read_is : entry_read bytes (x + 16) ≡ entry_of r
  pub name_is : name_at table bytes (x + 16) ≡ r.name

abbrev pub AreListed : List ℕ → Table → List ℕ → List Root → Type 0
AreListed bytes table [] [] = ⊤
AreListed bytes table [] (r ∷ rs) = ⊥
AreListed bytes table (x ∷ xs) [] = ⊥
AreListed bytes table (x ∷ xs) (r ∷ rs) = IsListed bytes table x r × AreListed bytes table xs rs

module _ (bytes : List ℕ) (table : Table) where
  -- the entry of a node
  abbrev pub entry_in : ℕ → NameEntry
  entry_in x = entry_read bytes (x + 16)

  abbrev pub order : ℕ → ℕ → Ordering
  order x y = slice_cmp nat_cmp (name_at table bytes (x + 16)) (name_at table bytes (y + 16))

  pub first_listed : (xs : List ℕ) (rs : List Root) → AreListed bytes table xs rs → option_map entry_in (first_where (λ x. true) xs) ≡ option_map entry_of (slice_get rs 0)
  first_listed [] [] h = refl
  first_listed [] (r ∷ rs) h = absurd h
  first_listed (x ∷ xs) [] h = absurd h
  first_listed (x ∷ xs) (r ∷ rs) h = ap Some h.0.read_is

  pub found_listed : (name : List ℕ) (xs : List ℕ) (rs : List Root) → AreListed bytes table xs rs
      → option_map entry_in (first_where (λ x. is_eq (slice_cmp nat_cmp (name_at table bytes (x + 16)) name)) xs) ≡ option_map entry_of (root_named rs name)
  found_listed name [] [] h = refl
  found_listed name [] (r ∷ rs) h = absurd h
  found_listed name (x ∷ xs) [] h = absurd h
  found_listed name (x ∷ xs) (r ∷ rs) h = go (same_name name r.name) (ap (λ n. is_eq (slice_cmp nat_cmp n name)) h.0.name_is ∙ equal_test r.name name) (found_listed name xs rs h.1)
    where
      go : (b : Bool) → is_eq (slice_cmp nat_cmp (name_at table bytes (x + 16)) name) ≡ b
          → option_map entry_in (first_where (λ y. is_eq (slice_cmp nat_cmp (name_at table bytes (y + 16)) name)) xs) ≡ option_map entry_of (root_named rs name)
          → option_map entry_in (first_where (λ y. is_eq (slice_cmp nat_cmp (name_at table bytes (y + 16)) name)) (x ∷ xs)) ≡ option_map entry_of (cond b (Some r) (root_named rs name))
      go true e rest = rw e (ap Some h.0.read_is)
      go false e rest = rw e rest

  pub next_listed : (name : List ℕ) (xs : List ℕ) (rs : List Root) → AreListed bytes table xs rs
      → option_map entry_in (first_where (λ x. reaches Greater (slice_cmp nat_cmp (name_at table bytes (x + 16)) name)) xs) ≡ option_map entry_of (root_after rs name)
  next_listed name [] [] h = refl
  next_listed name [] (r ∷ rs) h = absurd h
  next_listed name (x ∷ xs) [] h = absurd h
  next_listed name (x ∷ xs) (r ∷ rs) h = go (comes_before name r.name) (ap (λ n. reaches Greater (slice_cmp nat_cmp n name)) h.0.name_is ∙ above_test r.name name) (next_listed name xs rs h.1)
    where
      go : (b : Bool) → reaches Greater (slice_cmp nat_cmp (name_at table bytes (x + 16)) name) ≡ b
          → option_map entry_in (first_where (λ y. reaches Greater (slice_cmp nat_cmp (name_at table bytes (y + 16)) name)) xs) ≡ option_map entry_of (root_after rs name)
          → option_map entry_in (first_where (λ y. reaches Greater (slice_cmp nat_cmp (name_at table bytes (y + 16)) name)) (x ∷ xs)) ≡ option_map entry_of (cond b (Some r) (root_after rs name))
      go true e rest = rw e (ap Some h.0.read_is)
      go false e rest = rw e rest

  -- nodes whose roots come after a name have names after it
  all_above : (name : List ℕ) (xs : List ℕ) (rs : List Root) → AreListed bytes table xs rs → AllAfter name rs → AllByRecursion (λ y. slice_cmp nat_cmp name (name_at table bytes (y + 16)) ≡ Less) xs
  all_above name [] rs h a = tt
  all_above name (x ∷ xs) [] h a = absurd h
  all_above name (x ∷ xs) (r ∷ rs) h a = (ap (slice_cmp nat_cmp name) h.0.name_is ∙ less_of_precedes name r.name a.0, all_above name xs rs h.1 a.1)

  pub ascend_listed : (xs : List ℕ) (rs : List Root) → AreListed bytes table xs rs → InOrder rs → Ascend order xs
  ascend_listed [] rs h a = tt
  ascend_listed (x ∷ xs) [] h a = absurd h
  ascend_listed (x ∷ xs) (r ∷ rs) h a = (
    subst (λ n. AllByRecursion (λ y. slice_cmp nat_cmp n (name_at table bytes (y + 16)) ≡ Less) xs) (sym h.0.name_is) (all_above r.name xs rs h.1 (order_head r rs a)),
    ascend_listed xs rs h.1 (order_tail r rs a),
  )

-- ---- the state in which calls on the tree begin

module _ (allocator : ℕ) (bytes : List ℕ) (table : Table) (names : List Root) (blocks : List ℕ) (s : FindsNamesOf allocator bytes table names blocks) (kind : word bytes index_kind_word ≡ 1) where
  pub its : OpensTreeIndex bytes s.lists.index
  its = subst (λ k. OpensIndex bytes k s.lists.index) kind s.lists.opens

  abbrev pub shape : Tree
  shape = its.tree

  abbrev pub nodes : List ℕ
  nodes = nodes_of its.tree

  pub blocks_are : blocks ≡ map block_of nodes
  blocks_are = s.lists.blocks_are ∙ ap (λ (i : Index). i.blocks) its.index_is

  entries_are : AreEntries bytes (map (λ p. p + 16) nodes) names
  entries_are = subst (λ es. AreEntries bytes es names) (ap (λ (i : Index). i.entries) its.index_is) s.lists.entries

  -- a node is the payload of an allocated block
  pub record IsNode (p : ℕ) : Type 0 where
    pub block : IsBlock bytes p (tag_of Kind.index_node 0) 24
    pub is_live : 1 ≤ times (block_of p) (positions (live bytes))

  each_node : (ns : List ℕ) → AreNodes bytes (tag_of Kind.index_node 0) 24 ns → ((h : ℕ) → 1 ≤ times h (map block_of ns) → 1 ≤ times h (positions (live bytes))) → AllByRecursion IsNode ns
  each_node [] a o = tt
  each_node (p ∷ ps) a o = (record { block = a.0; is_live = o (block_of p) (omega (arith, times-same (block_of p) (map block_of ps))) }, each_node ps a.1 (λ h some. o h (omega (arith, times-more h (block_of p) (map block_of ps)))))

  pub are_nodes : AllByRecursion IsNode nodes
  are_nodes = each_node nodes its.are_nodes (λ h some. let o = s.owned h in let e : times h blocks ≡ times h (map block_of nodes) = ap (times h) blocks_are in omega arith)

  listed_by : (ns : List ℕ) (rs : List Root) → AreEntries bytes (map (λ p. p + 16) ns) rs → AllByRecursion (λ r. IsNamed bytes table r × (times (block_of r.at) blocks ≡ 0)) rs → AreListed bytes table ns rs
  listed_by [] [] es rs = tt
  listed_by [] (r ∷ rs) es named = absurd es
  listed_by (x ∷ xs) [] es named = absurd es
  listed_by (x ∷ xs) (r ∷ rs) es named =
      let small = type_small bytes table r s.is_table s.ownable named.0.0 in (
        record { entry = es.0; read_is = entry_reads bytes (x + 16) r es.0; name_is = name_reads bytes table r small named.0.0 (x + 16) es.0 },
        listed_by xs rs es.1 named.1,
      )

  pub listed : AreListed bytes table nodes names
  listed = listed_by nodes names entries_are s.named

  pub ascend : Ascend (order bytes table) nodes
  ascend = ascend_listed bytes table nodes names listed s.lists.ascending

  pub few_nodes : heap_start + 32 * length nodes ≤ length bytes
  few_nodes =
      let n = no_more (map block_of nodes) (positions (live bytes)) (λ h. let o = s.owned h in let e : times h blocks ≡ times h (map block_of nodes) = ap (times h) blocks_are in omega arith) in
      omega (arith, few_live allocator bytes s.heap, length-map (live bytes) (λ (b : Span). b.at), length-map nodes block_of)

  pub is_search_tree : IsSearchTree bytes index_cell shape
  is_search_tree = record { is_tree = its.is_tree; red_black = its.red_black; few = let n = few_nodes in let small = s.heap.small in omega arith }

  -- ---- the results of searches

  module _ (now : List ℕ) (here : Table) (root : ℕ) (same : now ≡ bytes) (table_is : here ≡ table) (root_is : root ≡ index_cell) where
    there_too : IsSearchTree now root shape
    there_too = rw (same, root_is) is_search_tree

    in_order : Ascend (order now here) nodes
    in_order = rw (same, table_is) ascend

    pub first_is : (o : Option ℕ) → ((tree : Tree) → IsSearchTree now root tree → o ≡ first_where (λ x. true) (nodes_of tree)) → option_map (entry_in bytes table) o ≡ option_map entry_of (slice_get names 0)
    first_is o e = ap (option_map (entry_in bytes table)) (e shape there_too) ∙ first_listed bytes table nodes names listed

    pub found_is : (name : List ℕ) (o : Option ℕ) → ((tree : Tree) → IsSearchTree now root tree → Ascend (order now here) (nodes_of tree)
        → o ≡ first_where (λ x. is_eq (slice_cmp nat_cmp (name_at here now (x + 16)) name)) (nodes_of tree)) → option_map (entry_in bytes table) o ≡ option_map entry_of (root_named names name)
    found_is name o e =
        let found_there : o ≡ first_where (λ x. is_eq (slice_cmp nat_cmp (name_at table bytes (x + 16)) name)) nodes =
        e shape there_too in_order ∙ ap (λ bs. first_where (λ x. is_eq (slice_cmp nat_cmp (name_at here bs (x + 16)) name)) nodes) same
        ∙ ap (λ t. first_where (λ x. is_eq (slice_cmp nat_cmp (name_at t bytes (x + 16)) name)) nodes) table_is in
        ap (option_map (entry_in bytes table)) found_there ∙ found_listed bytes table name nodes names listed

    pub next_is : (name : List ℕ) (o : Option ℕ) → ((tree : Tree) → IsSearchTree now root tree → Ascend (order now here) (nodes_of tree)
        → o ≡ first_where (λ x. reaches Greater (slice_cmp nat_cmp (name_at here now (x + 16)) name)) (nodes_of tree)) → option_map (entry_in bytes table) o ≡ option_map entry_of (root_after names name)
    next_is name o e =
        let found_there : o ≡ first_where (λ x. reaches Greater (slice_cmp nat_cmp (name_at table bytes (x + 16)) name)) nodes =
        e shape there_too in_order ∙ ap (λ bs. first_where (λ x. reaches Greater (slice_cmp nat_cmp (name_at here bs (x + 16)) name)) nodes) same
        ∙ ap (λ t. first_where (λ x. reaches Greater (slice_cmp nat_cmp (name_at t bytes (x + 16)) name)) nodes) table_is in
        ap (option_map (entry_in bytes table)) found_there ∙ next_listed bytes table name nodes names listed

    -- the entry at the end of a path to a name is the entry of the name's root
    pub path_is : (name : List ℕ) (o : Option ℕ) → ((tree : Tree) → IsSearchTree now root tree → Ascend (order now here) (nodes_of tree)
        → FindsEqual (λ x. slice_cmp nat_cmp (name_at here now (x + 16)) name) (nodes_of tree) o) → option_map (entry_in bytes table) o ≡ option_map entry_of (root_named names name)
    path_is name o e = found_is name o (λ tree t a. finds_first (λ x. slice_cmp nat_cmp (name_at here now (x + 16)) name) (order now here)
        (λ x y f g. equal_to_one nat_list_cmp_total (name_at here now (x + 16)) (name_at here now (y + 16)) name f g) (nodes_of tree) o a (e tree t a))

    pub leads_to : (name : List ℕ) (path : Path) → path.root ≡ root → ((tree : Tree) → IsSearchTree now root tree → LeadsTo (λ x. ordering_reverse (slice_cmp nat_cmp (name_at here now (x + 16)) name)) tree path)
        → LeadsToName bytes table name path
    leads_to name path path_root leads =
        let Leads : List ℕ → Table → ℕ → Type 0 = λ bs t r. (tree : Tree) → IsSearchTree bs r tree → LeadsTo (λ x. ordering_reverse (slice_cmp nat_cmp (name_at t bs (x + 16)) name)) tree path in
        record {
          root_is = path_root ∙ root_is;
          leads = subst (λ r. Leads bytes table r) root_is (subst (λ t. Leads bytes t root) table_is (subst (λ bs. Leads bs here root) same leads));
        }

-- the result of a search, with a spot that doesn't depend on whether the index has the name
looks_by : (o : Option Root) (found : Option NameEntry) (P : Type 0) → found ≡ option_map entry_of o → P → MatchOption o ((found ≡ None) × P) (λ root. (found ≡ Some (entry_of root)) × P)
looks_by None found P e p = (e, p)
looks_by (Some root) found P e p = (e, p)

pub looks_up : (names : List Root) (name : List ℕ) (found : Option NameEntry) (P : Type 0) → found ≡ option_map entry_of (root_named names name) → P → LooksUp names name found (λ these. P)
looks_up names name found P e p = looks_by (root_named names name) found P e p
