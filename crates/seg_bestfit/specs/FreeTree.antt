-- The tree of free blocks (gaps), and the bytes around it. The node of a gap is the first unit of
-- its payload.
use Rattle.std.specs.Prelude.{◌≡◌, ◌≢◌, ℕ, ◌+◌, ◌-◌, ◌*◌, false, List, [], ◌∷◌, ◌++◌, length, Some, None}
use Rattle.std.specs.List.{AllByRecursion}
use Rattle.std.specs.Ordering.{nat_cmp, ordering_then}
use Rattle.std.specs.declared.cmp.Ordering.{Ordering}
use Rattle.seg_spec.specs.Apart.{Separate}
use Rattle.seg_spec.specs.Bytes.{set_word, IsSame}
use Rattle.seg_spec.specs.Heap.{Span, Tile, Fill, heap_start, units_at, free_of, is_smaller, IsFreeTree}
use Rattle.seg_spec.specs.Pointer.{set_pointer}
use Rattle.seg_spec.specs.Search.{Ascend, IsSearchTree}
use Rattle.seg_spec.specs.Shapes.{Tree, nodes_of}
use Rattle.seg_ptr.specs.declared.header.TheConstants.{FREE}
use Rattle.seg_block.specs.FreeBlocks.{AreFreeBlocks}
use Rattle.seg_block.specs.Sizes.{set_size}
use Rattle.seg_block.specs.Tiling.{tile, IsTiled, Retiles}
use Rattle.seg_rbtree.specs.declared.path.Path.{Path}
use Rattle.seg_rbtree.specs.Paths.{IsAmong, node_at}
use Rattle.seg_rbtree.specs.Roots.{path_root}
use Rattle.seg_rbtree.specs.Ways.{LeadsTo}

-- the size in units of the gap with this node
abbrev pub node_units : List ℕ → ℕ → ℕ
node_units bytes x = units_at bytes (x - 16)

-- the order of nodes: by the size of their gaps, then by position
abbrev pub by_units : List ℕ → ℕ → ℕ → Ordering
by_units bytes x y = ordering_then (nat_cmp (node_units bytes x) (node_units bytes y)) (nat_cmp x y)

-- the n bytes from p don't overlap the nodes of these gaps
abbrev pub Beside : ℕ → ℕ → List Span → Type 0
Beside p n gs = AllByRecursion (λ g. Separate p n (g.at + 16) 16) gs

-- all bytes are kept, except the pointer to the root and the nodes of these gaps
pub record KeepsBesideNodes (old new : List ℕ) (gs : List Span) : Type 0 where
  pub length_kept : length new ≡ length old
  pub others : (p n : ℕ) → Separate p n FREE 4 → Beside p n gs → IsSame old new p n

-- the gap g was removed from the tree of all gaps
pub record LeavesTree (old new : List ℕ) (xs : List Span) (g : Span) (ys : List Span) : Type 0 where
  pub tree : IsFreeTree new (xs ++ ys)
  pub kept : KeepsBesideNodes old new (xs ++ g ∷ ys)

-- the gap g was added to the tree of the other gaps
pub record JoinsTree (old new : List ℕ) (xs : List Span) (g : Span) (ys : List Span) : Type 0 where
  pub tree : IsFreeTree new (xs ++ g ∷ ys)
  pub kept : KeepsBesideNodes old new (xs ++ g ∷ ys)

-- free blocks of the heap, by ascending position
abbrev pub AreGaps : List ℕ → List Span → Type 0
AreGaps bytes gs = AreFreeBlocks bytes heap_start gs

-- `another` compares with all others like `gap`, and so may take its place in their order
abbrev pub KeepsPlace : List Span → Span → Span → Type 0
KeepsPlace others gap another =
    AllByRecursion (λ h. is_smaller gap h ≡ is_smaller another h) others

-- the bytes after a free block's header was written
abbrev pub set_free : List ℕ → ℕ → ℕ → List ℕ
set_free bytes at units =
    set_size (set_pointer (set_word bytes (at + 8) 0) (at + 12) None) at units false

-- The tiles in the n units at a position were made one gap. None of them was in the tree.
abbrev pub MakesGap : List ℕ → List ℕ → ℕ → ℕ → Type 0
MakesGap old new at n = (xs ms ys : List Tile) (t : Tile) → IsTiled old (xs ++ ((t ∷ ms) ++ ys))
    → IsFreeTree old (free_of xs ++ free_of ys) → Fill at (t ∷ ms) (at + 16 * n)
    → Retiles 1 old new xs (tile at n false ∷ []) ys

-- a gap of n units at a position as a list of tiles; empty if n is 0
abbrev pub IsGapAt : ℕ → ℕ → List Tile → Type 0
IsGapAt at n gap = (n ≡ 0 → gap ≡ []) × (n ≢ 0 → gap ≡ tile at n false ∷ [])

-- the same for tiles and the gap of `more` units right after them, which was in the tree
abbrev pub MakesGapWith : List ℕ → List ℕ → ℕ → ℕ → ℕ → Type 0
MakesGapWith old new at n more = (xs ms gap ys : List Tile) (t : Tile)
    → IsGapAt (at + 16 * n) more gap → IsTiled old (xs ++ ((t ∷ ms) ++ (gap ++ ys)))
    → IsFreeTree old (free_of xs ++ free_of (gap ++ ys)) → Fill at (t ∷ ms) (at + 16 * n)
    → Retiles 1 old new xs (tile at (n + more) false ∷ []) ys

-- the path from the root of the tree ends at this node of a gap
pub record LeadsToGap (bytes : List ℕ) (path : Path) (node : ℕ) : Type 0 where
  pub root_is : path_root path ≡ FREE
  pub leads : (shape : Tree) → IsSearchTree bytes FREE shape
      → Ascend (by_units bytes) (nodes_of shape)
      → LeadsTo (by_units bytes node) shape path
  pub found : (shape : Tree) → IsSearchTree bytes FREE shape
      → Ascend (by_units bytes) (nodes_of shape) → IsAmong node (nodes_of shape)
      → node_at bytes path ≡ Some node
