-- The map after a key was put into a tree, from how the steps change the bytes.
use Rattle.std.proofs.Common.{◌≡◌, ◌≢◌, ℕ, ◌+◌, ◌*◌, ◌%◌, ◌^◌, ◌<◌, ◌≤◌, min, ℤ, List, [], ◌∷◌, ◌++◌, length, map, Option, Some, None, Ok, Err, refl, sym, ap, ◌∙◌, subst, arith}
use Rattle.std.specs.Prelude.{slice_get}
use Rattle.std.specs.List.{AllByRecursion}
use Rattle.std.specs.Ordering.{int_cmp, ordering_reverse}
use Rattle.std.specs.declared.cmp.Ordering.TheVariants.{Equal}
use Rattle.seg_spec.specs.Bytes.{set_word, signed_long, ChangesOnly}
use Rattle.seg_spec.specs.Types.{Form, Table, form_at, size}
use Rattle.seg_spec.specs.Value.{Values, Map, Selector}
use Rattle.seg_spec.specs.Heap.{live, heap_start}
use Rattle.seg_spec.specs.Block.{Kind, tag_of, block_of}
use Rattle.seg_spec.specs.Shapes.{Tree, nodes_of}
use Rattle.seg_spec.specs.Search.{Ascend, IsSearchTree}
use Rattle.seg_spec.specs.Items.{key_place}
use Rattle.seg_spec.specs.Reads.{Place, count_at, Leads}
use Rattle.seg_spec.specs.Sound.{positions}
use Rattle.seg_spec.specs.Owning.{Stands}
use Rattle.seg_spec.specs.Demand.{Ask, block_for}
use Rattle.seg_spec.specs.Calls.{Refuses}
use Rattle.seg_spec.specs.Shrinking.{KeepsPathsInside}
use Rattle.seg_spec.proofs.Tables.TableExtensionLaws.{below_length}
use Rattle.seg_spec.proofs.Heap.LiveBlockLaws.{there, LiesIn, live-lie}
use Rattle.seg_spec.proofs.Values.PathFrameLaws.{each_at}
use Rattle.seg_rbtree.specs.declared.path.Path.{Path}
use Rattle.seg_rbtree.specs.Ways.{LeadsTo}
use Rattle.seg_rbtree.specs.Paths.{FindsEqual, IsEqualAmong}
use Rattle.seg_value.specs.Contents.{GivesBlock}
use Rattle.seg_map.specs.Maps.{AddsKey, PutsKey, value_of}
use Rattle.seg_map.proofs.KeyOrder.{AtPlace, Around, around_at, place_after, no_place}
use Rattle.seg_map.proofs.TreeMaps.{key_at, its, nodes, low, few_nodes, keys_are, ascend, is_search_tree, leads_to}
use Rattle.seg_map.proofs.NewNodeLaws.{Entered, entered}
use Rattle.seg_map.proofs.NodeAdditionLaws.{AddsFrom, leaves, adds_key, keeps_paths}

module _ (allocator : ℕ) (old : List ℕ) (table : Table) (place : Place) (U : ℕ) (keys : List ℤ) (vs : Values) (blocks : List ℕ) (f : form_at table place.type ≡ Some (Form.map U)) (s : Stands allocator old table place
    (Map keys vs) blocks) (key : ℤ) where
  abbrev the_nodes : List ℕ
  the_nodes = nodes allocator old table place U keys vs blocks f s

  abbrev shape : Tree
  shape = (its allocator old table place U keys vs blocks f s).opens.tree

  pub tag_small : tag_of Kind.node place.type < 2 ^ 32
  tag_small = let few = s.is_table.few in let k = below_length table place.type (Form.map U) f in omega arith

  pub value_known : U < length table
  value_known = s.is_table.forms place.type (Form.map U) f

  -- ---- the end of the path

  -- a search in the tree at a pointer word finds a node that compares as equal, if there is one
  abbrev pub Finds : List ℕ → ℕ → Option ℕ → Type 0
  Finds now root o = (tree : Tree) → IsSearchTree now root tree → Ascend (λ x y. int_cmp (key_at now x) (key_at now y)) (nodes_of tree) → FindsEqual (λ x. int_cmp (key_at now x) key) (nodes_of tree) o

  finds_here : (now : List ℕ) (root : ℕ) (o : Option ℕ) → now ≡ old → root ≡ place.at → Finds now root o → FindsEqual (λ x. int_cmp (key_at old x) key) the_nodes o
  finds_here now root o same root_is h =
      let h' : Finds old place.at o = subst (λ r. Finds old r o) root_is (subst (λ bs. Finds bs root o) same h) in
      h' shape (is_search_tree allocator old table place U keys vs blocks f s) (ascend allocator old table place U keys vs blocks f s)

  missing_by : (o : Option ℕ) → o ≡ None → FindsEqual (λ x. int_cmp (key_at old x) key) the_nodes o → AllByRecursion (λ x. int_cmp (key_at old x) key ≢ Equal) the_nodes
  missing_by None e h = h
  missing_by (Some x) e h = cc

  there_by : (o : Option ℕ) (node : ℕ) → o ≡ Some node → FindsEqual (λ x. int_cmp (key_at old x) key) the_nodes o → IsEqualAmong (λ x. int_cmp (key_at old x) key) the_nodes node
  there_by None node e h = cc
  there_by (Some x) node e h = let same : x ≡ node = cc in subst (IsEqualAmong (λ y. int_cmp (key_at old y) key) the_nodes) same h

  pub no_key : AllByRecursion (λ x. int_cmp (key_at old x) key ≢ Equal) the_nodes → key_place keys key ≡ None
  no_key h = ap (λ ks. key_place ks key) (keys_are allocator old table place U keys vs blocks f s) ∙ no_place (key_at old) key the_nodes h

  -- the node that was found, and the nodes before and after it
  pub around : (now : List ℕ) (root : ℕ) (o : Option ℕ) (node : ℕ) → now ≡ old → root ≡ place.at → Finds now root o → o ≡ Some node → Around (key_at old) key the_nodes node
  around now root o node same root_is h e = around_at (key_at old) key the_nodes node (ascend allocator old table place U keys vs blocks f s) (there_by o node e (finds_here now root o same root_is h))

  pub missing : (now : List ℕ) (root : ℕ) (o : Option ℕ) → now ≡ old → root ≡ place.at → Finds now root o → o ≡ None → AllByRecursion (λ x. int_cmp (key_at old x) key ≢ Equal) the_nodes
  missing now root o same root_is h e = missing_by o e (finds_here now root o same root_is h)

  module _ (node : ℕ) (a : Around (key_at old) key the_nodes node) where
    pub key_there : key_place keys key ≡ Some (length a.front)
    key_there = ap (λ ks. key_place ks key) (keys_are allocator old table place U keys vs blocks f s) ∙ ap (λ ns. key_place (map (key_at old) ns) key) a.nodes_are ∙ place_after (key_at old) key a.front node a.back a.low a.is

    stands_there : (xs : List ℕ) → slice_get (xs ++ node ∷ a.back) (length xs) ≡ Some node
    stands_there [] = refl
    stands_there (x ∷ xs) = stands_there xs

    pub at_place : AtPlace (key_at old) key the_nodes node
    at_place = record {
      i = length a.front;
      place_is = ap (λ ns. key_place (map (key_at old) ns) key) a.nodes_are ∙ place_after (key_at old) key a.front node a.back a.low a.is;
      node_is = ap (λ ns. slice_get ns (length a.front)) a.nodes_are ∙ stands_there a.front;
    }

    pub node_low : node + 8192 < 2 ^ 32
    unfolding at_place
    node_low = each_at (λ p. p + 8192 < 2 ^ 32) the_nodes (length a.front) node (low allocator old table place U keys vs blocks f s) at_place.node_is

    -- if the map has the key, nothing changes
    pub puts_there : (E : Type 0) (asks : List Ask) (p each before : ℕ) → p ≡ (node + 0 * each + before) % 2 ^ 32 → before ≡ 24 → PutsKey {E = E} allocator old old table place U keys vs key blocks asks (key_place keys key) (Ok p)
    puts_there E asks p each before p_is before_is =
        let at : p ≡ node + 24 = let l = node_low in omega arith in
        rw key_there (refl, subst (λ q. Leads old table place (Selector.key key ∷ []) (value_of U q)) (sym at) (leads_to allocator old table place U keys vs blocks f s key node at_place))

  module _ (absent : AllByRecursion (λ x. int_cmp (key_at old x) key ≢ Equal) the_nodes) where
    -- there is no room for a new node
    pub puts_refused : {E : Type 0} (new : List ℕ) (asks : List Ask) (code : E) → Refuses allocator old new asks → PutsKey allocator old new table place U keys vs key blocks asks (key_place keys key) (Err code)
    puts_refused new asks code r = rw (no_key absent) r

    -- the positions of a new node don't wrap
    new_low : (mid : List ℕ) (node : ℕ) → GivesBlock allocator old mid table (tag_of Kind.node place.type) 24 U node → node + 8192 < 2 ^ 32
    new_low mid node g =
        let lies = there (LiesIn mid heap_start (length mid)) (block_of node) (positions (live mid)) (live-lie mid allocator g.heap) (let one = g.now_live in omega arith) in
        let back = g.is_block.after_header in let high = lies.high in let small = g.heap.small in let two = lies.size in omega arith

    -- the new node is in the tree: the map has its key, and each path still reaches the same place
    pub added_new : (mid with_key three new now : List ℕ) (node kp n count root : ℕ) (path : Path) → GivesBlock allocator old mid table (tag_of Kind.node place.type) 24 U node → kp ≡ (node + 16) % 2 ^ 32 → ChangesOnly mid with_key kp 8
        → (kp + 8 ≤ length mid → signed_long with_key kp ≡ key) → now ≡ old → root ≡ place.at → path.root ≡ root
        → ((tree : Tree) → IsSearchTree now root tree → LeadsTo (λ x. ordering_reverse (int_cmp (key_at now x) key)) tree path) → AddsFrom with_key three path.root path node
        → new ≡ set_word three (place.at + 4) n → n ≡ min (count + 1) 4294967295 → count ≡ count_at three place.at
        → AddsKey allocator old new table place U keys vs key blocks (block_for (24 + size table U) ∷ []) (node + 24) × KeepsPathsInside old new table place
    added_new mid with_key three new now node kp n count root path g kp_is stored key_is same root_is path_root leads added new_is n_is count_is =
        let lies = there (LiesIn mid heap_start (length mid)) (block_of node) (positions (live mid)) (live-lie mid allocator g.heap) (let one = g.now_live in omega arith) in
        let little = new_low mid node g in
        let at : kp ≡ node + 16 = omega arith in
        let stored' : ChangesOnly mid with_key (node + 16) 8 = subst (λ q. ChangesOnly mid with_key q 8) at stored in
        let fits : kp + 8 ≤ length mid = let back = g.is_block.after_header in let high = lies.high in let room = g.is_block.room in let two = lies.size in omega arith in
        let key' : signed_long with_key (node + 16) ≡ key = subst (λ q. signed_long with_key q ≡ key) at (key_is fits) in
        let start : heap_start ≤ length old = let k = few_nodes allocator old table place U keys vs blocks f s in omega arith in
        let e : Entered allocator old with_key table place.type U node key = entered allocator old mid with_key table place.type U node key s.is_table f s.ownable start g stored' key' in
        let leads_at : List ℕ → ℕ → Type 0 = λ bs r. (tree : Tree) → IsSearchTree bs r tree → LeadsTo (λ x. ordering_reverse (int_cmp (key_at bs x) key)) tree path in
        let leads' : leads_at old place.at = subst (λ r. leads_at old r) root_is (subst (λ bs. leads_at bs root) same leads) in
        let added' : AddsFrom with_key three place.at path node = subst (λ r. AddsFrom with_key three r path node) (path_root ∙ root_is) added in
        let l = leaves allocator old with_key table place U keys vs blocks f s key node e absent three path leads' added' in
        let n_by : count_at three place.at + 1 < 2 ^ 32 → n ≡ count_at three place.at + 1 = λ little. omega (arith, n_is, count_is) in
        (adds_key allocator old with_key table place U keys vs blocks f s key node e absent three new n l new_is n_by, keeps_paths allocator old with_key table place U keys vs blocks f s key node e absent three new n l new_is n_by)

    pub puts_new : (E : Type 0) (p each before : ℕ) (mid with_key three new now : List ℕ) (node kp n count root : ℕ) (path : Path) → GivesBlock allocator old mid table (tag_of Kind.node place.type) 24 U node
        → kp ≡ (node + 16) % 2 ^ 32 → ChangesOnly mid with_key kp 8
        → (kp + 8 ≤ length mid → signed_long with_key kp ≡ key) → now ≡ old → root ≡ place.at → path.root ≡ root
        → ((tree : Tree) → IsSearchTree now root tree → LeadsTo (λ x. ordering_reverse (int_cmp (key_at now x) key)) tree path) → AddsFrom with_key three path.root path node
        → new ≡ set_word three (place.at + 4) n → n ≡ min (count + 1) 4294967295 → count ≡ count_at three place.at → p ≡ (node + 0 * each + before) % 2 ^ 32 → before ≡ 24
        → PutsKey {E = E} allocator old new table place U keys vs key blocks (block_for (24 + size table U) ∷ []) (key_place keys key) (Ok p)
    puts_new E p each before mid with_key three new now node kp n count root path g kp_is stored key_is same root_is path_root leads added new_is n_is count_is p_is before_is =
        let little = new_low mid node g in
        let p' : p ≡ node + 24 = omega arith in
        rw (no_key absent) (rw p' (added_new mid with_key three new now node kp n count root path g kp_is stored key_is same root_is path_root leads added new_is n_is count_is).0)
