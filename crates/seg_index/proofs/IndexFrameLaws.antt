-- The index after a change elsewhere: it lists the same names, and the result of a search stays
-- valid.
--     finds_kept      calls find the same names
--     leads_kept      a path still reaches the same place
--     vacant_kept     the spot for a new name is the same
use Rattle.std.proofs.Common.{◌≡◌, ℕ, ◌+◌, ◌*◌, ◌≤◌, List, [], ◌∷◌, length, sym, ap, ◌∙◌, subst, arith}
use Rattle.std.specs.List.{AllByRecursion}
use Rattle.std.specs.Ordering.{nat_cmp, ordering_reverse}
use Rattle.std.specs.Cmp.Lexicographic.{slice_cmp}
use Rattle.std.specs.declared.cmp.Ordering.{Ordering}
use Rattle.seg_spec.specs.Bytes.{word, IsSame}
use Rattle.seg_spec.specs.Header.{allocator_word, index_kind_word, back_start, back_size, index_cell, KeepsFront, KeepsBack}
use Rattle.seg_spec.specs.Pointer.{target}
use Rattle.seg_spec.specs.Types.{Table, size}
use Rattle.seg_spec.specs.Value.{count}
use Rattle.seg_spec.specs.Heap.{live, IsHeap}
use Rattle.seg_spec.specs.Block.{Kind, tag_of, block_of, KeepsBlock, IsOwnable}
use Rattle.seg_spec.specs.Shapes.{Tree, nodes_of, IsTree}
use Rattle.seg_spec.specs.Search.{IsSearchTree}
use Rattle.seg_spec.specs.Index.{Root}
use Rattle.seg_spec.specs.Sound.{times, positions}
use Rattle.seg_spec.proofs.SliceLaws.{IsSame-part}
use Rattle.seg_spec.proofs.Values.PlaceFrameLaws.{each_weaker, word-same, cell-target, IsBlock-kept, payload-same, nodes-same, IsTree-same}
use Rattle.seg_spec.proofs.Heap.LiveBlockLaws.{each_there}
use Rattle.seg_spec.proofs.Values.OneValueLaws.{IsTree-one}
use Rattle.seg_spec.proofs.Images.RootFrameLaws.{ListsNames-kept}
use Rattle.seg_rbtree.specs.declared.path.Path.{Path}
use Rattle.seg_rbtree.specs.Ways.{LeadsTo}
use Rattle.seg_rbtree.proofs.Paths.{leads_same}
use Rattle.seg_cells.specs.Names.{name_at}
use Rattle.seg_index.specs.Lists.{IsNamed, FindsNamesOf, LeadsToName, IsSpot, IsVacant}
use Rattle.seg_index.specs.declared.lookup.Spot.{Spot}
use Rattle.seg_index.specs.declared.lookup.Spot.TheVariants.{Flat, Tree as InTree}
use Rattle.seg_index.specs.declared.lookup.Vacant.{Vacant}
use Rattle.seg_index.proofs.TreeLists.{AreListed, shape, its, blocks_are, listed, is_search_tree}

-- a named object's block is kept
pub named_kept : (old new : List ℕ) (table : Table) (root : Root) → KeepsBlock old new (block_of root.at) → 1 ≤ times (block_of root.at) (positions (live new)) → IsNamed old table root → IsNamed new table root
named_kept old new table root k some named =
    let values = count root.values * size table root.type in
    let room = payload-same old new root.at (tag_of Kind.named root.type) (values + length root.name) k named.block in
    record {
      block = IsBlock-kept old new root.at (tag_of Kind.named root.type) (values + length root.name) k named.block;
      name_is = IsSame-part old new root.at (values + length root.name) (root.at + values) (length root.name) (omega arith) (omega arith) room ∙ named.name_is;
      is_live = some;
    }

module _ (allocator : ℕ) (old new : List ℕ) (table : Table) (names : List Root) (blocks : List ℕ) (s : FindsNamesOf allocator old table names blocks)
    (front : KeepsFront old new) (back : KeepsBack old new) (kept : (h : ℕ) → 1 ≤ times h (positions (live old)) → KeepsBlock old new h) where
  cell_same : IsSame old new index_cell 8
  cell_same = IsSame-part old new back_start back_size index_cell 8 (omega arith) (omega arith) back

  blocks_kept : AllByRecursion (KeepsBlock old new) blocks
  blocks_kept = each_there (KeepsBlock old new) blocks (λ h some. kept h (let o = s.owned h in omega arith))

  kind_same : word new index_kind_word ≡ word old index_kind_word
  kind_same = word-same old new index_kind_word (IsSame-part old new 0 24 index_kind_word 4 (omega arith) (omega arith) front)

  pub finds_kept : IsHeap allocator new → AllByRecursion (λ b. IsOwnable new table b.at) (live new) → ((h : ℕ) → times h (positions (live old)) ≤ times h (positions (live new))) → FindsNamesOf allocator new table names blocks
  finds_kept heap ownable more = record {
    heap = heap;
    allocator_is = word-same old new allocator_word (IsSame-part old new 0 24 allocator_word 4 (omega arith) (omega arith) front) ∙ s.allocator_is;
    kind_is = rw kind_same s.kind_is;
    is_table = s.is_table;
    ownable = ownable;
    lists = ListsNames-kept old new names blocks (IsSame-part old new 0 24 20 4 (omega arith) (omega arith) front) cell_same blocks_kept s.lists;
    owned = λ h. let o = s.owned h in let m = more h in omega arith;
    named = each_weaker _ _ (λ r n. (named_kept old new table r (kept (block_of r.at) n.0.is_live) (let m = more (block_of r.at) in let some = n.0.is_live in omega arith) n.0, n.1)) names s.named;
  }

  module _ (then : FindsNamesOf allocator new table names blocks) where
    module _ (kind : word old index_kind_word ≡ 1) (name : List ℕ) where
      kind_then : word new index_kind_word ≡ 1
      kind_then = kind_same ∙ kind

      was_hangs : IsTree new (target new index_cell) (shape allocator old table names blocks s kind)
      was_hangs =
          let o = its allocator old table names blocks s kind in
          let all = nodes-same old new (tag_of Kind.index_node 0) 24 (nodes_of o.tree) (subst (AllByRecursion (KeepsBlock old new)) (blocks_are allocator old table names blocks s kind) blocks_kept) o.are_nodes in
          rw (cell-target old new index_cell cell_same) (IsTree-same old new (target old index_cell) o.tree (each_weaker _ _ (λ p h. IsSame-part old new p 24 p 16 (omega arith) (omega arith) h) (nodes_of o.tree) all) o.is_tree)

      abbrev turn : List ℕ → ℕ → Ordering
      turn bytes x = ordering_reverse (slice_cmp nat_cmp (name_at table bytes (x + 16)) name)

      turns_same : (xs : List ℕ) (rs : List Root) → AreListed old table xs rs → AreListed new table xs rs → AllByRecursion (λ x. turn old x ≡ turn new x) xs
      turns_same [] rs h k = tt
      turns_same (x ∷ xs) [] h k = absurd h
      turns_same (x ∷ xs) (r ∷ rs) h k = (ap (λ n. ordering_reverse (slice_cmp nat_cmp n name)) (h.0.name_is ∙ sym k.0.name_is), turns_same xs rs h.1 k.1)

      pub leads_kept : (path : Path) → LeadsToName old table name path → LeadsToName new table name path
      leads_kept path way = record { root_is = way.root_is; leads = λ tree t. go tree t }
        where
          go : (tree : Tree) → IsSearchTree new index_cell tree → LeadsTo (turn new) tree path
          go tree t =
              let same : shape allocator old table names blocks s kind ≡ tree = IsTree-one new (target new index_cell) (shape allocator old table names blocks s kind) tree was_hangs t.is_tree in
              let other : shape allocator new table names blocks then kind_then ≡ shape allocator old table names blocks s kind =
              IsTree-one new (target new index_cell) (shape allocator new table names blocks then kind_then) (shape allocator old table names blocks s kind)
              (is_search_tree allocator new table names blocks then kind_then).is_tree was_hangs in
              let listed_now : AreListed new table (nodes_of (shape allocator old table names blocks s kind)) names = subst (λ u. AreListed new table (nodes_of u) names) other (listed allocator new table names blocks then kind_then) in
              let turns = turns_same (nodes_of (shape allocator old table names blocks s kind)) names (listed allocator old table names blocks s kind) listed_now in
              subst (λ u. LeadsTo (turn new) u path) same
              (leads_same (turn old) (turn new) (shape allocator old table names blocks s kind) path turns (way.leads (shape allocator old table names blocks s kind) (is_search_tree allocator old table names blocks s kind)))

    spot_kept : (name : List ℕ) (these : List Root) (spot : Spot) → IsSpot old table names name these spot → IsSpot new table names name these spot
    spot_kept name these (Flat index) h = (kind_same ∙ h.0, h.1)
    spot_kept name these (InTree path) h = (kind_same ∙ h.0, leads_kept h.0 name path h.1)

    pub vacant_kept : (name : List ℕ) (vacant : Vacant) → IsVacant old table names name vacant → IsVacant new table names name vacant
    vacant_kept name vacant h = record { missing = h.missing; spot = spot_kept name [] vacant.spot h.spot }
