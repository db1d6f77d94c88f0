-- A tree index after a change: the names in it, from its nodes and their entries.
use Rattle.std.proofs.Common.{◌≡◌, ℕ, suc, ◌+◌, List, [], ◌∷◌, ◌++◌, length, map, refl, sym, ap, ◌∙◌, subst, arith}
use Rattle.std.specs.Prelude.{Contains}
use Rattle.std.specs.List.{AllByRecursion}
use Rattle.seg_spec.specs.Bytes.{word, IsSame}
use Rattle.seg_spec.specs.Header.{index_kind_word, index_cell}
use Rattle.seg_spec.specs.Pointer.{target}
use Rattle.seg_spec.specs.Types.{Table}
use Rattle.seg_spec.specs.Block.{Kind, tag_of, block_of, IsBlock}
use Rattle.seg_spec.specs.Shapes.{Tree, nodes_of, IsTree, IsRedBlack}
use Rattle.seg_spec.specs.Reads.{count_at}
use Rattle.seg_spec.specs.Index.{Root, Index, OpensIndex, OpensTreeIndex, AreEntries, ListsNames}
use Rattle.seg_spec.specs.Sound.{times}
use Rattle.seg_spec.proofs.Values.PlaceFrameLaws.{each_right}
use Rattle.seg_spec.proofs.Heap.LiveBlockLaws.{times-append}
use Rattle.seg_spec.proofs.Images.RootFrameLaws.{IsEntry-kept}
use Rattle.seg_index.proofs.RootOrder.{InOrder, AllBefore, order_head, order_tail}
use Rattle.seg_index.proofs.TreeLists.{IsListed, AreListed}

-- the index as a red-black tree, by its bytes
abbrev pub index_of : List ℕ → Index
index_of ns = record { blocks = map block_of ns; entries = map (λ p. p + 16) ns }

opens_by : (bytes : List ℕ) (tree : Tree) → IsTree bytes (target bytes index_cell) tree → IsRedBlack tree → length (nodes_of tree) ≡ count_at bytes index_cell
    → AllByRecursion (λ p. IsBlock bytes p (tag_of Kind.index_node 0) 24) (nodes_of tree) → OpensTreeIndex bytes (index_of (nodes_of tree))
opens_by bytes tree hangs red_black counted blocks = record { tree = tree; is_tree = hangs; red_black = red_black; counted = counted; are_nodes = blocks; index_is = refl }

-- a tree lists the roots whose entries its nodes have
pub lists_by : (bytes : List ℕ) (tree : Tree) (ns : List ℕ) (rs : List Root) → word bytes index_kind_word ≡ 1 → IsTree bytes (target bytes index_cell) tree → IsRedBlack tree → nodes_of tree ≡ ns → length ns ≡ count_at bytes index_cell
    → AllByRecursion (λ p. IsBlock bytes p (tag_of Kind.index_node 0) 24) ns → AreEntries bytes (map (λ p. p + 16) ns) rs → InOrder rs → ListsNames bytes rs (map block_of ns)
lists_by bytes tree ns rs kind hangs red_black nodes_are counted blocks entries order =
    let o : OpensTreeIndex bytes (index_of (nodes_of tree)) = opens_by bytes tree hangs red_black (ap length nodes_are ∙ counted) (subst (AllByRecursion (λ p. IsBlock bytes p (tag_of Kind.index_node 0) 24)) (sym nodes_are) blocks) in
    let o' : OpensIndex bytes 1 (index_of ns) = subst (λ xs. OpensTreeIndex bytes (index_of xs)) nodes_are o in
    record {
      index = index_of ns;
      opens = subst (λ k. OpensIndex bytes k (index_of ns)) (sym kind) o';
      entries = entries;
      ascending = order;
      blocks_are = refl;
    }

-- ---- nodes and roots around one of them

pub record Splits (bytes : List ℕ) (table : Table) (front : List ℕ) (node : ℕ) (back : List ℕ) (rs : List Root) : Type 0 where
  pub before : List Root
  pub it : Root
  pub after : List Root
  pub names_are : rs ≡ before ++ it ∷ after
  pub lefts : AreListed bytes table front before
  pub its : IsListed bytes table node it
  pub rights : AreListed bytes table back after

module _ (bytes : List ℕ) (table : Table) where
  pub split_listed : (front : List ℕ) (node : ℕ) (back : List ℕ) (rs : List Root) → AreListed bytes table (front ++ node ∷ back) rs → Splits bytes table front node back rs
  split_listed [] node back [] h = absurd h
  split_listed [] node back (r ∷ rs) h = record { before = []; it = r; after = rs; names_are = refl; lefts = tt; its = h.0; rights = h.1 }
  split_listed (x ∷ front) node back [] h = absurd h
  split_listed (x ∷ front) node back (r ∷ rs) h =
      let more = split_listed front node back rs h.1 in
      record { before = r ∷ more.before; it = more.it; after = more.after; names_are = ap (λ qs. r ∷ qs) more.names_are; lefts = (h.0, more.lefts); its = more.its; rights = more.rights }

  pub record Halves (front back : List ℕ) (rs : List Root) : Type 0 where
    pub before : List Root
    pub after : List Root
    pub names_are : rs ≡ before ++ after
    pub lefts : AreListed bytes table front before
    pub rights : AreListed bytes table back after

  pub join_listed : (xs : List ℕ) (rs : List Root) (ys : List ℕ) (qs : List Root) → AreListed bytes table xs rs → AreListed bytes table ys qs → AreListed bytes table (xs ++ ys) (rs ++ qs)
  join_listed [] [] ys qs h k = k
  join_listed [] (r ∷ rs) ys qs h k = absurd h
  join_listed (x ∷ xs) [] ys qs h k = absurd h
  join_listed (x ∷ xs) (r ∷ rs) ys qs h k = (h.0, join_listed xs rs ys qs h.1 k)

  -- nodes whose entries were kept list the same roots
  pub entries_kept : (new : List ℕ) (xs : List ℕ) (rs : List Root) → AreListed bytes table xs rs → AllByRecursion (λ x. IsSame bytes new (x + 16) 8) xs → AreEntries new (map (λ p. p + 16) xs) rs
  entries_kept new [] [] h k = tt
  entries_kept new [] (r ∷ rs) h k = absurd h
  entries_kept new (x ∷ xs) [] h k = absurd h
  entries_kept new (x ∷ xs) (r ∷ rs) h k = (IsEntry-kept bytes new (x + 16) r k.0 h.0.entry, entries_kept new xs rs h.1 k.1)

-- the roots before a root have smaller names
pub order_before : (xs : List Root) (r : Root) (ys : List Root) → InOrder (xs ++ r ∷ ys) → AllBefore r.name xs
order_before [] r ys a = tt
order_before (x ∷ xs) r ys a = ((each_right _ xs (r ∷ ys) (order_head x (xs ++ r ∷ ys) a)).0, order_before xs r ys (order_tail x (xs ++ r ∷ ys) a))

-- ---- blocks around one of them

pub blocks_joined : (xs ys : List ℕ) → map block_of (xs ++ ys) ≡ map block_of xs ++ map block_of ys
blocks_joined [] ys = refl
blocks_joined (x ∷ xs) ys = ap (λ zs. block_of x ∷ zs) (blocks_joined xs ys)

-- a node counts once, wherever it is in the list
pub times_with : (h : ℕ) (front : List ℕ) (node : ℕ) (back : List ℕ) → times h (map block_of (front ++ node ∷ back)) ≡ times h (block_of node ∷ map block_of (front ++ back))
times_with h front node back =
    let a : times h (map block_of (front ++ node ∷ back)) ≡ times h (map block_of front ++ map block_of (node ∷ back)) = ap (times h) (blocks_joined front (node ∷ back)) in
    let b = times-append h (map block_of front) (map block_of (node ∷ back)) in
    let c : times h (map block_of (front ++ back)) ≡ times h (map block_of front ++ map block_of back) = ap (times h) (blocks_joined front back) in
    let d = times-append h (map block_of front) (map block_of back) in
    omega arith

later_in : (c b : ℕ) (xs : List ℕ) → Contains xs b → Contains (c ∷ xs) b
later_in c b xs h = (suc h.0, omega (arith, h.1), h.2)

pub contains_middle : (front : List ℕ) (node : ℕ) (back : List ℕ) → Contains (map block_of (front ++ node ∷ back)) (block_of node)
contains_middle [] node back = (0, omega arith, refl)
contains_middle (x ∷ front) node back = later_in (block_of x) (block_of node) (map block_of (front ++ node ∷ back)) (contains_middle front node back)
