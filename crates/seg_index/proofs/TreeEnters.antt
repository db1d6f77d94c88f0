-- A new node is added to the tree of the index, which then lists one name more.
use Rattle.std.proofs.Common.{◌≡◌, ◌≢◌, ℕ, ◌+◌, ◌%◌, ◌^◌, ◌<◌, ◌≤◌, ◌⊎◌, inl, inr, min, Bool, true, false, cond, List, [], ◌∷◌, ◌++◌, length, map, Some, None, refl, sym, ap, ◌∙◌, subst, arith}
use Rattle.std.proofs.lemmas.Bool.{cases_eq}
use Rattle.std.specs.Ordering.{nat_cmp, ordering_reverse, is_lt}
use Rattle.std.specs.List.{AllByRecursion}
use Rattle.std.specs.Cmp.{IsTotalOrder, on_total}
use Rattle.std.specs.Cmp.Lexicographic.{slice_cmp, nat_list_cmp_total}
use Rattle.std.specs.declared.cmp.Ordering.{Ordering}
use Rattle.std.specs.declared.cmp.Ordering.TheVariants.{Less, Equal, Greater}
use Rattle.std.proofs.lemmas.List.{length-append}
use Rattle.seg_spec.specs.Bytes.{word, set_word, IsSame, ChangesOnly}
use Rattle.seg_spec.specs.Header.{index_kind_word, index_cell, heap_start, KeepsFront, KeepsBack}
use Rattle.seg_spec.specs.Types.{Table}
use Rattle.seg_spec.specs.Heap.{live, IsHeap}
use Rattle.seg_spec.specs.Block.{Kind, tag_of, block_of, IsBlock, IsInside, KeepsBlock, IsOwnable}
use Rattle.seg_spec.specs.Cells.{IsWithin}
use Rattle.seg_spec.specs.Shapes.{Tree, nodes_of}
use Rattle.seg_spec.specs.Search.{Ascend, IsSearchTree}
use Rattle.seg_spec.specs.Reads.{count_at}
use Rattle.seg_spec.specs.Index.{Root, IsEntry, ListsNames, root_named, same_name}
use Rattle.seg_spec.specs.Sound.{times, positions}
use Rattle.seg_spec.specs.Demand.{need, block_for}
use Rattle.seg_spec.specs.Spending.{spent, entry_asks}
use Rattle.seg_spec.proofs.SliceLaws.{IsSame-trans, IsSame-part}
use Rattle.seg_spec.proofs.Heap.BlockFrameLaws.{kept_twice, around_kept, around_twice}
use Rattle.seg_spec.proofs.Values.PlaceFrameLaws.{each_weaker, word-same}
use Rattle.seg_spec.proofs.Heap.LiveBlockLaws.{times-append, times-same, times-other, there, LiesIn, live-lie, live-once}
use Rattle.seg_spec.proofs.Values.CallPlaceLaws.{each_live_at, live_at}
use Rattle.seg_spec.proofs.Heap.BlockWriteLaws.{low_kept}
use Rattle.seg_spec.proofs.Heap.AllocationLaws.{OneMore, one_more}
use Rattle.seg_value.specs.Nodes.{GivesNode}
use Rattle.seg_value.proofs.Inside.{wrote_heap, wrote_live, wrote_ownable, wrote_other, wrote_block}
use Rattle.seg_rbtree.specs.declared.path.Path.{Path}
use Rattle.seg_rbtree.specs.Ways.{LeadsTo}
use Rattle.seg_rbtree.specs.Changes.{StandApart, IsNew, with_node, Leaves}
use Rattle.seg_rbtree.proofs.Orders.{each_with}
use Rattle.seg_rbtree.proofs.Paths.{leads_same}
use Rattle.seg_cells.specs.Names.{name_at}
use Rattle.seg_cells.specs.NameEntries.{write_entry}
use Rattle.seg_index.specs.Lists.{entry_of, IsNamed, FindsNamesOf, LeadsToName, MayEnter, ChangesNames, EntersName}
use Rattle.seg_cells.proofs.Precedes.{precedes_of_less, precedes_of_greater, same_of_equal, same_name_self, precedes_trans}
use Rattle.seg_index.proofs.EntryLaws.{entry_reads, name_reads, type_small, entry_written, write_entry-changes}
use Rattle.seg_index.proofs.RootOrder.{InOrder, AllBefore, AllAfter, order_head, order_tail, order_with}
use Rattle.seg_index.proofs.TreeLists.{IsListed, AreListed, order, shape, its, blocks_are, IsNode, are_nodes, listed, ascend, few_nodes, is_search_tree}
use Rattle.seg_index.proofs.TreeChanges.{join_listed, entries_kept, lists_by, times_with}
use Rattle.seg_index.proofs.TreeWriteLaws.{IsTouched, Remade, remade, count_before, stand_apart}
use Rattle.seg_index.proofs.IndexFrameLaws.{named_kept, finds_kept, leads_kept}

-- what adding a node at the end of a path ensures, in any total order for which the path is the
-- node's place
abbrev pub AddsFrom : List ℕ → List ℕ → ℕ → Path → ℕ → Type 0
AddsFrom old new root path node = (order : ℕ → ℕ → Ordering) (shape : Tree) → IsTotalOrder order → IsSearchTree old root shape → Ascend order (nodes_of shape) → LeadsTo (order node) shape path → IsNew order node (nodes_of shape)
    → StandApart (length old) root (node ∷ nodes_of shape) → length (nodes_of shape) + 1 < 2 ^ 32 → Leaves old new root (node ∷ nodes_of shape) (with_node order node (nodes_of shape))

times_cons : (h x : ℕ) (xs : List ℕ) → times h (x ∷ xs) ≡ times h (x ∷ []) + times h xs
times_cons h x xs = times-append h (x ∷ []) xs

-- a new node lies in the segment
pub node_fits : (allocator : ℕ) (old mid : List ℕ) (node : ℕ) → GivesNode allocator old mid node → node + 24 ≤ 2 ^ 30
node_fits allocator old mid node g =
    let lies = there (LiesIn mid heap_start (length mid)) (block_of node) (positions (live mid)) (live-lie mid allocator g.heap) (let one = g.now_live in omega arith) in
    let back = g.is_block.after_header in let high = lies.high in let small = g.heap.small in let room = g.is_block.room in let two = lies.size in omega arith

-- ---- the position of a new node

pub record Places (bytes : List ℕ) (table : Table) (node : ℕ) (name : List ℕ) (xs : List ℕ) (rs : List Root) : Type 0 where
  pub front : List ℕ
  pub back : List ℕ
  pub before : List Root
  pub after : List Root
  pub nodes_are : xs ≡ front ++ back
  pub names_are : rs ≡ before ++ after
  pub with_it : with_node (order bytes table) node xs ≡ front ++ node ∷ back
  pub lefts : AreListed bytes table front before
  pub rights : AreListed bytes table back after
  pub low : AllBefore name before
  pub high : AllAfter name after

module _ (bytes : List ℕ) (table : Table) (node : ℕ) (name : List ℕ) (name_is : name_at table bytes (node + 16) ≡ name) where
  abbrev Differ : List Root → Type 0
  Differ rs = AllByRecursion (λ r. same_name name r.name ≡ false) rs

  compared : (x : ℕ) (r : Root) → IsListed bytes table x r → order bytes table node x ≡ slice_cmp nat_cmp name r.name
  compared x r h = ap (λ n. slice_cmp nat_cmp n (name_at table bytes (x + 16))) name_is ∙ ap (slice_cmp nat_cmp name) h.name_is

  not_equal : (r : Root) → same_name name r.name ≡ false → slice_cmp nat_cmp name r.name ≡ Equal → ⊥
  not_equal r d e =
      let same : same_name name r.name ≡ true = ap (same_name name) (sym (same_of_equal name r.name e)) ∙ same_name_self name in
      let both : false ≡ true = sym d ∙ same in
      absurd (cc)

  pub all_new : (xs : List ℕ) (rs : List Root) → AreListed bytes table xs rs → Differ rs → IsNew (order bytes table) node xs
  all_new [] rs h d = tt
  all_new (x ∷ xs) [] h d = absurd h
  all_new (x ∷ xs) (r ∷ rs) h d = ((λ e. not_equal r d.0 (sym (compared x r h.0) ∙ e)), all_new xs rs h.1 d.1)

  pub placed : (xs : List ℕ) (rs : List Root) → AreListed bytes table xs rs → InOrder rs → Differ rs → Places bytes table node name xs rs
  placed [] [] h a d = record { front = []; back = []; before = []; after = []; nodes_are = refl; names_are = refl; with_it = refl; lefts = tt; rights = tt; low = tt; high = tt }
  placed [] (r ∷ rs) h a d = absurd h
  placed (x ∷ xs) [] h a d = absurd h
  placed (x ∷ xs) (r ∷ rs) h a d = go (slice_cmp nat_cmp name r.name) refl (placed xs rs h.1 (order_tail r rs a) d.1)
    where
      go : (o : Ordering) → slice_cmp nat_cmp name r.name ≡ o → Places bytes table node name xs rs → Places bytes table node name (x ∷ xs) (r ∷ rs)
      go Less e more =
          let less : is_lt (order bytes table node x) ≡ true = ap is_lt (compared x r h.0 ∙ e) in
          let first = precedes_of_less name r.name e in
          record {
            front = [];
            back = x ∷ xs;
            before = [];
            after = r ∷ rs;
            nodes_are = refl;
            names_are = refl;
            with_it = rw less refl;
            lefts = tt;
            rights = h;
            low = tt;
            high = (first, each_weaker _ _ (λ q p. precedes_trans name r.name q.name first p) rs (order_head r rs a));
          }
      go Equal e more = absurd (not_equal r d.0 e)
      go Greater e more =
          let not_less : is_lt (order bytes table node x) ≡ false = ap is_lt (compared x r h.0 ∙ e) in
          record {
            front = x ∷ more.front;
            back = more.back;
            before = r ∷ more.before;
            after = more.after;
            nodes_are = ap (λ ys. x ∷ ys) more.nodes_are;
            names_are = ap (λ qs. r ∷ qs) more.names_are;
            with_it = rw not_less (ap (λ ys. x ∷ ys) more.with_it);
            lefts = (h.0, more.lefts);
            rights = more.rights;
            low = (precedes_of_greater name r.name e, more.low);
            high = more.high;
          }

  -- the name compares with the tree's nodes as the new node does
  pub turns : (xs : List ℕ) → AllByRecursion (λ x. ordering_reverse (slice_cmp nat_cmp (name_at table bytes (x + 16)) name) ≡ order bytes table node x) xs
  turns [] = tt
  turns (x ∷ xs) = (sym (nat_list_cmp_total.antisymm name (name_at table bytes (x + 16))) ∙ ap (λ n. slice_cmp nat_cmp n (name_at table bytes (x + 16))) (sym name_is), turns xs)

pub missing_all : (rs : List Root) (name : List ℕ) → root_named rs name ≡ None → AllByRecursion (λ r. same_name name r.name ≡ false) rs
missing_all [] name e = tt
missing_all (r ∷ rs) name e = go (same_name name r.name) refl (missing_all rs name)
  where
    go : (b : Bool) → same_name name r.name ≡ b → (root_named rs name ≡ None → AllByRecursion (λ q. same_name name q.name ≡ false) rs)
        → (same_name name r.name ≡ false) × AllByRecursion (λ q. same_name name q.name ≡ false) rs
    go true d rest = let both : Some r ≡ None = ap (λ b. cond b (Some r) (root_named rs name)) (sym d) ∙ e in absurd (cc)
    go false d rest = (d, rest (ap (λ b. cond b (Some r) (root_named rs name)) (sym d) ∙ e))

-- ---- the new node after its entry is written

module _ (allocator : ℕ) (old mid wrote : List ℕ) (table : Table) (names : List Root) (blocks : List ℕ) (s : FindsNamesOf allocator old table names blocks) (kind : word old index_kind_word ≡ 1)
    (root : Root) (may : MayEnter old table blocks root) (missing : root_named names root.name ≡ None) (path : Path) (way : LeadsToName old table root.name path) (node : ℕ) (g : GivesNode allocator old mid node)
    (wrote_is : wrote ≡ write_entry mid (node + 16) (entry_of root)) where
  more : OneMore (live old) (block_for 24) allocator (length old) (live mid)
  more = one_more allocator (length old) (need 24) (live old) (live mid) g.granted_is

  at_is : more.at ≡ block_of node
  at_is = go (cases_eq more.at (block_of node))
    where
      go : (more.at ≡ block_of node) ⊎ (more.at ≢ block_of node) → more.at ≡ block_of node
      go (inl e) = e
      go (inr ne) = absurd (let c = more.counts (block_of node) in let o = times-other (block_of node) more.at (positions (live old)) ne in let free = g.was_free in let one = g.now_live in omega arith)

  mid_counts : (h : ℕ) → times h (positions (live mid)) ≡ times h (block_of node ∷ positions (live old))
  mid_counts h = more.counts h ∙ ap (λ a. times h (a ∷ positions (live old))) at_is

  own_mid : 1 ≤ times (block_of node) (positions (live mid))
  own_mid = let one = g.now_live in omega arith

  lies_mid : LiesIn mid heap_start (length mid) (block_of node)
  lies_mid = there (LiesIn mid heap_start (length mid)) (block_of node) (positions (live mid)) (live-lie mid allocator g.heap) own_mid

  inside : IsInside mid (block_of node) (node + 16) 8
  inside = let back = g.is_block.after_header in let room = g.is_block.room in let two = lies_mid.size in record { low = omega arith; high = omega arith }

  writes : ChangesOnly mid wrote (node + 16) 8
  writes = subst (λ bs. ChangesOnly mid bs (node + 16) 8) (sym wrote_is) (write_entry-changes mid (node + 16) (entry_of root))

  heap_then : IsHeap allocator wrote
  heap_then = wrote_heap allocator mid wrote table (block_of node) (node + 16) 8 g.heap writes inside own_mid

  live_then : live wrote ≡ live mid
  live_then = wrote_live allocator mid wrote table (block_of node) (node + 16) 8 g.heap writes inside own_mid

  counts : (h : ℕ) → times h (positions (live wrote)) ≡ times h (block_of node ∷ positions (live old))
  counts h = ap (λ bs. times h (positions bs)) live_then ∙ mid_counts h

  mid_live : (h : ℕ) → 1 ≤ times h (positions (live old)) → 1 ≤ times h (positions (live mid))
  mid_live h some = let c = mid_counts h in let d = times_cons h (block_of node) (positions (live old)) in omega arith

  not_own : (h : ℕ) → 1 ≤ times h (positions (live old)) → h ≢ block_of node
  not_own h some same = let free = g.was_free in let one : 1 ≤ times (block_of node) (positions (live old)) = subst (λ x. 1 ≤ times x (positions (live old))) same some in omega arith

  kept_then : (h : ℕ) → 1 ≤ times h (positions (live old)) → KeepsBlock old wrote h
  kept_then h some = kept_twice old mid wrote h (g.kept h some).0 (wrote_other allocator mid wrote table (block_of node) (node + 16) 8 g.heap writes inside own_mid h (mid_live h some) (not_own h some))

  low_then : (p n : ℕ) → p + n ≤ heap_start → IsSame mid wrote p n
  low_then p n fits = low_kept mid wrote (node + 16) 8 writes allocator g.heap (block_of node) inside own_mid p n fits

  front_then : KeepsFront old wrote
  front_then = IsSame-trans old mid wrote 0 24 g.front_kept (low_then 0 24 (omega arith))

  back_then : KeepsBack old wrote
  back_then = IsSame-trans old mid wrote 28 676 g.back_kept (low_then 28 676 (omega arith))

  -- ---- each allocated block may be owned

  own_ownable : IsOwnable mid table (block_of node)
  own_ownable = record { kind = Kind.index_node; type = 0; allowed = refl; tag_is = g.is_block.has_tag; link_is = g.link_is }

  each_ownable : (h : ℕ) → 1 ≤ times h (positions (live mid)) → IsOwnable mid table h
  each_ownable h some = go (cases_eq (block_of node) h)
    where
      go : (block_of node ≡ h) ⊎ (block_of node ≢ h) → IsOwnable mid table h
      go (inl e) = subst (IsOwnable mid table) e own_ownable
      go (inr ne) =
          let was : 1 ≤ times h (positions (live old)) = (let c = mid_counts h in let o = times-other h (block_of node) (positions (live old)) ne in omega arith) in
          let o = live_at (IsOwnable old table) (live old) h s.ownable was in
          let k = g.kept h was in
          record { kind = o.kind; type = o.type; allowed = o.allowed; tag_is = k.0.has_tag ∙ o.tag_is; link_is = k.1 ∙ o.link_is }

  ownable_then : AllByRecursion (λ b. IsOwnable wrote table b.at) (live wrote)
  ownable_then = wrote_ownable allocator mid wrote table (block_of node) (node + 16) 8 g.heap writes inside own_mid (each_live_at (IsOwnable mid table) (live mid) each_ownable)

  -- ---- the state in which calls then begin

  then : FindsNamesOf allocator wrote table names blocks
  then = finds_kept allocator old wrote table names blocks s front_then back_then kept_then heap_then ownable_then (λ h. let c = counts h in let d = times_cons h (block_of node) (positions (live old)) in omega arith)

  kind_then : word wrote index_kind_word ≡ 1
  kind_then = word-same old wrote index_kind_word (IsSame-part old wrote 0 24 index_kind_word 4 (omega arith) (omega arith) front_then) ∙ kind

  way_then : LeadsToName wrote table root.name path
  way_then = leads_kept allocator old wrote table names blocks s front_then back_then kept_then then kind root.name path way

  own_live : 1 ≤ times (block_of node) (positions (live wrote))
  own_live = let c = counts (block_of node) in let d = times-same (block_of node) (positions (live old)) in omega arith

  own_block : IsBlock wrote node (tag_of Kind.index_node 0) 24
  own_block = wrote_block allocator mid wrote table (block_of node) (node + 16) 8 g.heap writes inside own_mid node (tag_of Kind.index_node 0) 24 (let back = g.is_block.after_header in omega arith) g.is_block

  named_then : IsNamed wrote table root
  named_then =
      let c = counts (block_of root.at) in
      let d = times_cons (block_of root.at) (block_of node) (positions (live old)) in
      let some = may.named.is_live in
      named_kept old wrote table root (kept_then (block_of root.at) may.named.is_live) (omega arith) may.named

  lies_root : LiesIn old heap_start (length old) (block_of root.at)
  lies_root = there (LiesIn old heap_start (length old)) (block_of root.at) (positions (live old)) (live-lie old allocator s.heap) may.named.is_live

  entry_then : IsEntry wrote (node + 16) root
  entry_then =
      let high = lies_mid.high in
      let small = g.heap.small in
      let two = lies_mid.size in
      let back = g.is_block.after_header in
      let room = g.is_block.room in
      let even = lies_mid.aligned in
      let its_even = lies_root.aligned in
      let its_back = may.named.block.after_header in
      let its_high = lies_root.high in
      let its_two = lies_root.size in
      let its_small = s.heap.small in
      let within : IsWithin mid (node + 16) 8 = record { fits = omega arith; small = small } in
      let low : root.at < 2 ^ 32 = omega arith in
      let apart : root.at ≢ node + 16 + 1 = (λ e. let odd : root.at % 16 ≡ 1 = omega arith in let none : root.at % 16 ≡ 0 = omega arith in omega arith) in
      subst (λ bs. IsEntry bs (node + 16) root) (sym wrote_is) (entry_written mid (node + 16) root within low apart may.is_name may.no_words may.some may.few)

  its_listed : IsListed wrote table node root
  its_listed =
      let small = type_small wrote table root s.is_table ownable_then named_then in
      record { entry = entry_then; read_is = entry_reads wrote (node + 16) root entry_then; name_is = name_reads wrote table root small named_then (node + 16) entry_then }

  -- ---- the nodes with the new node

  abbrev ns : List ℕ
  ns = nodes_of (shape allocator wrote table names blocks then kind_then)

  search : IsSearchTree wrote index_cell (shape allocator wrote table names blocks then kind_then)
  search = is_search_tree allocator wrote table names blocks then kind_then

  differ : AllByRecursion (λ r. same_name root.name r.name ≡ false) names
  differ = missing_all names root.name missing

  place : Places wrote table node root.name ns names
  place = placed wrote table node root.name its_listed.name_is ns names (listed allocator wrote table names blocks then kind_then) then.lists.ascending differ

  each_node : AllByRecursion (IsNode allocator wrote table names blocks then kind_then) ns
  each_node = are_nodes allocator wrote table names blocks then kind_then

  touched : AllByRecursion (IsTouched wrote) (node ∷ ns)
  touched = (record { after_header = own_block.after_header; is_live = own_live }, each_weaker _ _ (λ q n. record { after_header = n.block.after_header; is_live = n.is_live }) ns each_node)

  owned_once : (h : ℕ) → times h blocks ≡ times h (map block_of ns)
  owned_once h = ap (times h) (blocks_are allocator wrote table names blocks then kind_then)

  once : (h : ℕ) → times h (map block_of (node ∷ ns)) ≤ 1
  once h =
      let a = times_cons h (block_of node) (map block_of ns) in
      let b = owned_once h in
      let c = s.owned h in
      let d = counts h in
      let e = times_cons h (block_of node) (positions (live old)) in
      let f = live-once wrote allocator heap_then h in
      omega arith

  apart : StandApart (length wrote) index_cell (node ∷ ns)
  apart = stand_apart allocator wrote heap_then (node ∷ ns) touched once

  few : length ns + 1 < 2 ^ 32
  few = let n = few_nodes allocator wrote table names blocks then kind_then in let small = heap_then.small in omega arith

  -- ---- the tree with the new node

  module _ (three new : List ℕ) (n count : ℕ) (added : AddsFrom wrote three path.root path node) (new_is : new ≡ set_word three (index_cell + 4) n) (n_is : n ≡ min (count + 1) 4294967295) (count_is : count ≡ count_at three index_cell) where
    l : Leaves wrote three index_cell (node ∷ ns) (with_node (order wrote table) node ns)
    l =
        let added' : AddsFrom wrote three index_cell path node = subst (λ r. AddsFrom wrote three r path node) way_then.root_is added in
        added' (order wrote table) (shape allocator wrote table names blocks then kind_then) (on_total (λ x. name_at table wrote (x + 16)) nat_list_cmp_total) search (ascend allocator wrote table names blocks then kind_then)
        (leads_same (λ x. ordering_reverse (slice_cmp nat_cmp (name_at table wrote (x + 16)) root.name)) (order wrote table node) (shape allocator wrote table names blocks then kind_then) path
        (turns wrote table node root.name its_listed.name_is ns) (way_then.leads (shape allocator wrote table names blocks then kind_then) search))
        (all_new wrote table node root.name its_listed.name_is ns names (listed allocator wrote table names blocks then kind_then) differ) apart few

    among : (P : ℕ → Type 0) → AllByRecursion P (node ∷ ns) → AllByRecursion P (with_node (order wrote table) node ns)
    among P p = each_with (order wrote table) node P ns p.0 p.1

    counted_three : count_at three index_cell ≡ length ns
    counted_three = count_before allocator wrote three new n (node ∷ ns) (with_node (order wrote table) node ns) heap_then l new_is touched among ∙ sym (its allocator wrote table names blocks then kind_then).counted

    n_long : n ≡ length ns + 1
    n_long = let c = counted_three in let k = few in omega (arith, n_is, count_is)

    made : Remade allocator wrote new n (node ∷ ns) (with_node (order wrote table) node ns)
    made = remade allocator wrote three new n (node ∷ ns) (with_node (order wrote table) node ns) heap_then l new_is touched among (let k = n_long in let i = few in omega arith)

    made_are : nodes_of made.tree ≡ place.front ++ node ∷ place.back
    made_are = made.nodes_are ∙ place.with_it

    each_now : (P : ℕ → Type 0) → AllByRecursion P (node ∷ ns) → AllByRecursion P (place.front ++ node ∷ place.back)
    each_now P p = subst (AllByRecursion P) place.with_it (among P p)

    record Stays (x : ℕ) : Type 0 where
      block : IsBlock new x (tag_of Kind.index_node 0) 24
      entry : IsSame wrote new (x + 16) 8

    stays_by : (x : ℕ) → IsBlock wrote x (tag_of Kind.index_node 0) 24 → 1 ≤ times (block_of x) (positions (live wrote)) → Stays x
    stays_by x b some =
        let h = made.header (block_of x) some in
        let room = b.room in
        let back = b.after_header in
        record {
          block = record { after_header = b.after_header; live = h.live ∙ b.live; has_tag = h.has_tag ∙ b.has_tag; room = let q = h.room in omega arith };
          entry = made.content x (x + 16) 8 b.after_header some (omega arith) (omega arith);
        }

    stays : AllByRecursion Stays (place.front ++ node ∷ place.back)
    stays = each_now Stays (stays_by node own_block own_live, each_weaker _ _ (λ x d. stays_by x d.block d.is_live) ns each_node)

    counted_now : length (place.front ++ node ∷ place.back) ≡ count_at new index_cell
    counted_now =
        let a = length-append place.front (node ∷ place.back) in
        let b = length-append place.front place.back in
        let c : length ns ≡ length (place.front ++ place.back) = ap length place.nodes_are in
        omega (arith, n_long, made.count_is)

    kind_now : word new index_kind_word ≡ 1
    kind_now = word-same wrote new index_kind_word (made.low index_kind_word 4 (inl (omega arith)) (omega arith)) ∙ kind_then

    lists_now : ListsNames new (place.before ++ root ∷ place.after) (map block_of (place.front ++ node ∷ place.back))
    lists_now = lists_by new made.tree (place.front ++ node ∷ place.back) (place.before ++ root ∷ place.after) kind_now made.is_tree made.red_black made_are counted_now
        (each_weaker _ _ (λ x t. t.block) (place.front ++ node ∷ place.back) stays)
        (entries_kept wrote table new (place.front ++ node ∷ place.back) (place.before ++ root ∷ place.after)
        (join_listed wrote table place.front place.before (node ∷ place.back) (root ∷ place.after) place.lefts (its_listed, place.rights)) (each_weaker _ _ (λ x t. t.entry) (place.front ++ node ∷ place.back) stays))
        (order_with place.before root place.after (subst InOrder place.names_are then.lists.ascending) place.low place.high)

    others_are : (h : ℕ) → times h (map block_of (place.front ++ node ∷ place.back)) ≡ times h (block_of node ∷ []) + times h blocks
    others_are h =
        let a = times_with h place.front node place.back in
        let b = times_cons h (block_of node) (map block_of (place.front ++ place.back)) in
        let c : times h (map block_of ns) ≡ times h (map block_of (place.front ++ place.back)) = ap (λ xs. times h (map block_of xs)) place.nodes_are in
        let d = owned_once h in
        omega arith

    changes : ChangesNames old new table (live new) blocks (place.before ++ root ∷ place.after) (map block_of (place.front ++ node ∷ place.back))
    changes = record {
      length_kept = made.length_kept ∙ writes.length_kept ∙ g.length_kept;
      front_kept = IsSame-trans old wrote new 0 24 front_then (made.low 0 24 (inl (omega arith)) (omega arith));
      middle_kept = IsSame-trans old wrote new 28 4 (IsSame-part old wrote 28 676 28 4 (omega arith) (omega arith) back_then) (made.low 28 4 (inl (omega arith)) (omega arith));
      back_kept = IsSame-trans old wrote new 40 664 (IsSame-part old wrote 28 676 40 664 (omega arith) (omega arith) back_then) (made.low 40 664 (inr (omega arith)) (omega arith));
      heap = subst (λ a. IsHeap a new) (sym s.allocator_is) made.heap;
      ownable = made.ownable table ownable_then;
      live_is = refl;
      live_are = λ h.
          let a = others_are h in
          let b = counts h in
          let c = times_cons h (block_of node) (positions (live old)) in
          let d : times h (positions (live new)) ≡ times h (positions (live wrote)) = ap (λ bs. times h (positions bs)) made.live_is in
          omega arith;
      kept = λ h some none.
          let a = owned_once h in
          let b = times-other h (block_of node) (map block_of ns) (λ e. not_own h some (sym e)) in
          let c = counts h in
          let d = times_cons h (block_of node) (positions (live old)) in
          kept_twice old wrote new h (kept_then h some) (made.whole h (omega arith) (omega arith));
      nodes_kept = λ tree h own some.
          let was : 1 ≤ times h (positions (live old)) = (let o = s.owned h in omega arith) in
          let solid = (there (LiesIn old heap_start (length old)) h (positions (live old)) (live-lie old allocator s.heap) was).size in
          let c = counts h in
          let d = times_cons h (block_of node) (positions (live old)) in
          around_twice old wrote new (h + 16) 16 h (around_kept old wrote (h + 16) 16 h (omega arith) (kept_then h was)) (made.around h (omega arith));
      lists = lists_now;
    }

    granted : spent allocator (live old) (length old) (entry_asks (word old index_kind_word) old) [] ≡ Some (live new)
    granted =
        let one : spent allocator (live old) (length old) (entry_asks 1 old) [] ≡ Some (live new) = more.spent_is refl ∙ ap Some (sym (made.live_is ∙ live_then)) in
        subst (λ k. spent allocator (live old) (length old) (entry_asks k old) [] ≡ Some (live new)) (sym kind) one

    pub enters : EntersName allocator old new table names blocks root
    enters = record {
      before = place.before;
      after = place.after;
      names_are = place.names_are;
      left = live new;
      left_is = granted;
      others = map block_of (place.front ++ node ∷ place.back);
      changes = changes;
    }
