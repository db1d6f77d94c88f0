-- A gap is removed from the tree, or added, from what changing a tree ensures.
use Rattle.std.proofs.Common.{◌≡◌, ◌≢◌, ℕ, ◌+◌, ◌-◌, ◌^◌, ◌<◌, ◌≤◌, inr, List, [], ◌∷◌, ◌++◌, length, map, None, sym, ap, ◌∙◌, subst, arith}
use Rattle.std.specs.List.{AllByRecursion}
use Rattle.std.specs.Option.{option_map}
use Rattle.std.specs.Ordering.{nat_cmp}
use Rattle.std.specs.declared.cmp.Ordering.TheVariants.{Equal}
use Rattle.seg_spec.specs.Apart.{Separate}
use Rattle.seg_spec.specs.Heap.{Span, units_at, link_at, by_size, best_fit, IsFreeTree}
use Rattle.seg_spec.specs.Search.{reaches, Ascend, first_where, IsSearchTree}
use Rattle.seg_spec.specs.Shapes.{Tree, nodes_of}
use Rattle.seg_spec.proofs.Values.PlaceFrameLaws.{each_map, each_weaker, target-same}
use Rattle.seg_spec.proofs.Heap.GapOrderLaws.{by_size-middle, best_fit-first}
use Rattle.seg_spec.proofs.Heap.HeapFrameLaws.{each_by_size}
use Rattle.seg_block.specs.FreeBlocks.{AreFreeBlocks}
use Rattle.seg_rbtree.specs.Changes as tree
use Rattle.seg_rbtree.specs.Changes.{StandApart, IsNew, with_node, without_node, renamed}
use Rattle.seg_bestfit.specs.FreeTree.{by_units, KeepsPlace, KeepsBesideNodes, LeavesTree, JoinsTree}
use Rattle.seg_bestfit.proofs.SizeOrder.{node_of, HasSize, nodes_ascend, node_is_new, with_gap, without_gap, renamed_gap, first_node}
use Rattle.seg_bestfit.proofs.FreeGaps.{Stands, each_stands, free_apart, free_rising, sorted_by_size, nodes_stand, few_nodes, gap_stands}
use Rattle.seg_bestfit.proofs.FreeGaps.{others_stand, others_elsewhere, new_node_stands, links_beside, free_drop, each_drop, each_put, each_pick}

-- ---- the tree of gaps as a search tree

module _ (bytes : List ℕ) (gs : List Span) (low : 704 ≤ length bytes) (small : length bytes ≤ 2 ^ 30) (free : AreFreeBlocks bytes 704 gs) (holds : IsFreeTree bytes gs) where
  sizes : AllByRecursion (HasSize bytes) (by_size gs)
  sizes = each_by_size (HasSize bytes) gs (each_weaker (Stands bytes) (HasSize bytes) (λ g s. s.sized) gs (each_stands bytes 704 gs (omega arith) free))

  pub search_tree : IsSearchTree bytes 24 holds.tree
  search_tree = record {
    is_tree = holds.is_tree;
    red_black = holds.red_black;
    few = let n = few_nodes bytes gs low small free in omega (arith, ap length holds.nodes_are);
  }

  pub tree_ascends : Ascend (by_units bytes) (nodes_of holds.tree)
  tree_ascends = rw holds.nodes_are (nodes_ascend bytes (by_size gs) sizes (sorted_by_size gs (free_rising bytes 704 gs free)))

  pub tree_stands : StandApart (length bytes) 24 (nodes_of holds.tree)
  tree_stands = rw holds.nodes_are (nodes_stand bytes gs low small free)

  -- the first node with enough units belongs to the smallest gap
  pub best_node : (u : ℕ) → first_where (λ x. reaches Equal (nat_cmp (units_at bytes (x - 16)) u)) (nodes_of holds.tree) ≡ option_map node_of (best_fit gs u)
  best_node u =
      ap (first_where (λ x. reaches Equal (nat_cmp (units_at bytes (x - 16)) u))) holds.nodes_are ∙ first_node bytes (by_size gs) u sizes
      ∙ ap (option_map node_of) (sym (best_fit-first gs u (free_rising bytes 704 gs free)))

-- ---- what is kept

-- bytes that are kept beside the tree's nodes are kept beside the gaps' nodes
kept_by : (old new : List ℕ) (gs : List Span) (nodes : List ℕ) → ((P : ℕ → Type 0) → AllByRecursion (λ (g : Span). P (node_of g)) gs → AllByRecursion P nodes) → tree.KeepsBeside old new 24 nodes → KeepsBesideNodes old new gs
kept_by old new gs nodes all k = record {
  length_kept = k.length_kept;
  others = λ p n root beside. k.others p n root (all (λ q. Separate p n q 16) beside);
}

links_kept : (old new : List ℕ) (gs hs : List Span) → KeepsBesideNodes old new gs → AllByRecursion (λ (h : Span). 704 ≤ h.at) hs → AllByRecursion (λ h. AllByRecursion (λ g. Separate (h.at + 12) 4 (g.at + 16) 16) gs) hs
    → AllByRecursion (λ h. link_at old h.at ≡ None) hs → AllByRecursion (λ h. link_at new h.at ≡ None) hs
links_kept old new gs [] k low beside l = tt
links_kept old new gs (h ∷ hs) k low beside l = (target-same old new (h.at + 12) (k.others (h.at + 12) 4 (inr (omega (arith, low.0))) beside.0) ∙ l.0, links_kept old new gs hs k low.1 beside.1 l.1)

module _ (old new : List ℕ) (xs : List Span) (g : Span) (ys : List Span) (low : 704 ≤ length old) (small : length old ≤ 2 ^ 30) (free : AreFreeBlocks old 704 (xs ++ g ∷ ys)) where
  abbrev all : List Span
  all = xs ++ g ∷ ys

  stand : AllByRecursion (Stands old) all
  stand = each_stands old 704 all (omega arith) free

  beside : AllByRecursion (λ h. AllByRecursion (λ g. Separate (h.at + 12) 4 (g.at + 16) 16) all) all
  beside = links_beside all (free_apart old 704 all free)

  above : AllByRecursion (λ (h : Span). 704 ≤ h.at) all
  above = each_weaker (Stands old) (λ h. 704 ≤ h.at) (λ h s. s.low) all stand

  other_sizes : AllByRecursion (HasSize old) (by_size (xs ++ ys))
  other_sizes = each_by_size (HasSize old) (xs ++ ys) (each_weaker (Stands old) (HasSize old) (λ h s. s.sized) (xs ++ ys) (others_stand old xs g ys low small free))

  -- ---- a gap is removed

  pub leaves : (holds : IsFreeTree old all) → tree.Leaves old new 24 (nodes_of holds.tree) (without_node (node_of g) (nodes_of holds.tree)) → LeavesTree old new xs g ys
  leaves holds r =
      let kept = kept_by old new all (nodes_of holds.tree) (λ P a. rw holds.nodes_are (each_map P node_of (by_size all) (each_by_size (λ h. P (node_of h)) all a))) r.kept in
      let middle : nodes_of holds.tree ≡ map node_of (by_size all) = holds.nodes_are in
      record {
        tree = record {
          tree = r.shape;
          is_tree = r.tree.is_tree;
          red_black = r.tree.red_black;
          nodes_are = r.nodes_are ∙ ap (without_node (node_of g)) (middle ∙ ap (map node_of) (by_size-middle xs g ys))
              ∙ without_gap g (by_size (xs ++ ys)) (each_by_size (λ h. h.at ≢ g.at) (xs ++ ys) (others_elsewhere old xs g ys low small free));
          links = each_drop (λ h. link_at new h.at ≡ None) xs g ys (links_kept old new all all kept above beside holds.links);
        };
        kept = kept;
      }

  -- ---- a gap is added

  others_free : AreFreeBlocks old 704 (xs ++ ys)
  others_free = free_drop old 704 xs g ys free

  pub joins : (holds : IsFreeTree old (xs ++ ys)) → link_at old g.at ≡ None
      → ((shape : Tree) → IsSearchTree old 24 shape → Ascend (by_units old) (nodes_of shape) → IsNew (by_units old) (node_of g) (nodes_of shape)
      → StandApart (length old) 24 (node_of g ∷ nodes_of shape) → length (nodes_of shape) + 1 < 2 ^ 32
      → tree.Leaves old new 24 (node_of g ∷ nodes_of shape) (with_node (by_units old) (node_of g) (nodes_of shape)))
      → JoinsTree old new xs g ys
  joins holds unlinked added =
      let gap = gap_stands old xs g ys low small free in
      let elsewhere = each_by_size (λ h. h.at ≢ g.at) (xs ++ ys) (others_elsewhere old xs g ys low small free) in
      let r = added holds.tree (search_tree old (xs ++ ys) low small others_free holds) (tree_ascends old (xs ++ ys) low small others_free holds)
      (rw holds.nodes_are (node_is_new old g (by_size (xs ++ ys)) gap.sized other_sizes elsewhere)) (rw holds.nodes_are (new_node_stands old xs g ys low small free))
      (let n = few_nodes old (xs ++ ys) low small others_free in rw holds.nodes_are n) in
      let kept = kept_by old new all (node_of g ∷ nodes_of holds.tree)
      (λ P a. (each_pick (λ h. P (node_of h)) xs g ys a, rw holds.nodes_are (each_map P node_of (by_size (xs ++ ys)) (each_by_size (λ h. P (node_of h)) (xs ++ ys) (each_drop (λ h. P (node_of h)) xs g ys a))))) r.kept in
      record {
        tree = record {
          tree = r.shape;
          is_tree = r.tree.is_tree;
          red_black = r.tree.red_black;
          nodes_are = r.nodes_are ∙ ap (with_node (by_units old) (node_of g)) holds.nodes_are ∙ with_gap old g (by_size (xs ++ ys)) gap.sized other_sizes ∙ ap (map node_of) (sym (by_size-middle xs g ys));
          links = links_kept old new all all kept above beside (each_put (λ h. link_at old h.at ≡ None) xs g ys unlinked holds.links);
        };
        kept = kept;
      }

-- ---- a gap takes the place of another

-- The headers were written, so that r is free, but the tree still has the node of g.
module _ (old new : List ℕ) (xs : List Span) (g r : Span) (ys : List Span) (low : 704 ≤ length old) (small : length old ≤ 2 ^ 30) (free : AreFreeBlocks old 704 (xs ++ r ∷ ys))
    (elsewhere : AllByRecursion (λ (h : Span). h.at ≢ g.at) (xs ++ ys))
    (keeps : KeepsPlace (by_size (xs ++ ys)) g r) (shape : Tree) (nodes_are : nodes_of shape ≡ map node_of (by_size (xs ++ g ∷ ys))) where
  renamed_is : renamed (node_of g) (node_of r) (nodes_of shape) ≡ map node_of (by_size (xs ++ r ∷ ys))
  renamed_is =
      ap (renamed (node_of g) (node_of r)) (nodes_are ∙ ap (map node_of) (by_size-middle xs g ys))
      ∙ renamed_gap g r (by_size (xs ++ ys)) (each_by_size (λ h. h.at ≢ g.at) (xs ++ ys) elsewhere) keeps
      ∙ ap (map node_of) (sym (by_size-middle xs r ys))

  pub renamed_stands : StandApart (length old) 24 (renamed (node_of g) (node_of r) (nodes_of shape))
  renamed_stands = subst (λ ns. StandApart (length old) 24 ns) (sym renamed_is) (nodes_stand old (xs ++ r ∷ ys) low small free)

  pub takes_place : AllByRecursion (λ h. link_at old h.at ≡ None) (xs ++ r ∷ ys) → tree.Leaves old new 24 (renamed (node_of g) (node_of r) (nodes_of shape)) (renamed (node_of g) (node_of r) (nodes_of shape)) → JoinsTree old new xs r ys
  takes_place links l =
      let all = xs ++ r ∷ ys in
      let kept = kept_by old new all (renamed (node_of g) (node_of r) (nodes_of shape)) (λ P a. subst (λ ns. AllByRecursion P ns) (sym renamed_is) (each_map P node_of (by_size all) (each_by_size (λ h. P (node_of h)) all a))) l.kept in
      record {
        tree = record {
          tree = l.shape;
          is_tree = l.tree.is_tree;
          red_black = l.tree.red_black;
          nodes_are = l.nodes_are ∙ renamed_is;
          links = links_kept old new all all kept (above old new xs r ys low small free) (beside old new xs r ys low small free) links;
        };
        kept = kept;
      }

-- ---- from what the calls of the tree ensure

-- if there is a gap, the bytes reach the start of the heap
pub room_of : (bytes : List ℕ) (xs : List Span) (g : Span) (ys : List Span) → AreFreeBlocks bytes 704 (xs ++ g ∷ ys) → 704 ≤ length bytes
room_of bytes xs g ys free = let s = each_pick (Stands bytes) xs g ys (each_stands bytes 704 (xs ++ g ∷ ys) (omega arith) free) in omega (arith, s.low, s.fits)

pub leaves_at : (old new : List ℕ) (xs : List Span) (g : Span) (ys : List Span) (root : ℕ) → root ≡ 24 → length old ≤ 2 ^ 30 → AreFreeBlocks old 704 (xs ++ g ∷ ys) → IsFreeTree old (xs ++ g ∷ ys)
    → ((shape : Tree) → IsSearchTree old root shape → Ascend (by_units old) (nodes_of shape) → StandApart (length old) root (nodes_of shape) → tree.Leaves old new root (nodes_of shape) (without_node (node_of g) (nodes_of shape)))
    → LeavesTree old new xs g ys
leaves_at old new xs g ys root root_is small free holds removed =
    let low = room_of old xs g ys free in
    let all = xs ++ g ∷ ys in
    leaves old new xs g ys low small free holds
    (subst (λ r. (shape : Tree) → IsSearchTree old r shape → Ascend (by_units old) (nodes_of shape) → StandApart (length old) r (nodes_of shape) → tree.Leaves old new r (nodes_of shape) (without_node (node_of g) (nodes_of shape)))
    root_is removed holds.tree (search_tree old all low small free holds) (tree_ascends old all low small free holds) (tree_stands old all low small free holds))

pub joins_at : (old new : List ℕ) (xs : List Span) (g : Span) (ys : List Span) (root : ℕ) → root ≡ 24 → length old ≤ 2 ^ 30 → AreFreeBlocks old 704 (xs ++ g ∷ ys) → IsFreeTree old (xs ++ ys) → link_at old g.at ≡ None
    → ((shape : Tree) → IsSearchTree old root shape → Ascend (by_units old) (nodes_of shape) → IsNew (by_units old) (node_of g) (nodes_of shape)
    → StandApart (length old) root (node_of g ∷ nodes_of shape) → length (nodes_of shape) + 1 < 2 ^ 32
    → tree.Leaves old new root (node_of g ∷ nodes_of shape) (with_node (by_units old) (node_of g) (nodes_of shape)))
    → JoinsTree old new xs g ys
joins_at old new xs g ys root root_is small free holds unlinked added =
    joins old new xs g ys (room_of old xs g ys free) small free holds unlinked
    (subst (λ r. (shape : Tree) → IsSearchTree old r shape → Ascend (by_units old) (nodes_of shape) → IsNew (by_units old) (node_of g) (nodes_of shape)
    → StandApart (length old) r (node_of g ∷ nodes_of shape) → length (nodes_of shape) + 1 < 2 ^ 32
    → tree.Leaves old new r (node_of g ∷ nodes_of shape) (with_node (by_units old) (node_of g) (nodes_of shape))) root_is added)
