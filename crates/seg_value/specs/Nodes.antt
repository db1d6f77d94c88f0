-- Nodes of the tree index, which have no values.
--     GivesNode allocator old new payload    the block of a new node
use Rattle.std.specs.Prelude.{◌≡◌, ℕ, ◌≤◌, List, [], ◌∷◌, length, Some, None}
use Rattle.seg_spec.specs.Heap.{IsHeap, live, link_at}
use Rattle.seg_spec.specs.Header.{KeepsFront, KeepsBack}
use Rattle.seg_spec.specs.Index.{index_node_size}
use Rattle.seg_spec.specs.Sound.{times, positions}
use Rattle.seg_spec.specs.Demand.{after_asks, block_for}
use Rattle.seg_spec.specs.Block as block
use Rattle.seg_spec.specs.Block.{block_of, tag_of, IsBlock, KeepsBlock}

-- a new block has the tag of such a node, and room for it; all other allocated blocks are kept
pub record GivesNode (allocator : ℕ) (old new : List ℕ) (payload : ℕ) : Type 0 where
  pub length_kept : length new ≡ length old
  pub front_kept : KeepsFront old new
  pub back_kept : KeepsBack old new
  pub heap : IsHeap allocator new
  pub is_block : IsBlock new payload (tag_of block.Kind.index_node 0) index_node_size
  pub link_is : link_at new (block_of payload) ≡ None
  pub granted_is :
      after_asks allocator (live old) (length old) (block_for index_node_size ∷ [])
      ≡ Some (live new)
  pub was_free : times (block_of payload) (positions (live old)) ≡ 0
  pub now_live : times (block_of payload) (positions (live new)) ≡ 1
  pub kept : (h : ℕ) → 1 ≤ times h (positions (live old)) →
      KeepsBlock old new h × (link_at new h ≡ link_at old h)
