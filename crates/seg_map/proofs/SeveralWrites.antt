-- Only bytes inside the payloads of several allocated blocks were written. All other bytes are
-- kept.
use Rattle.std.proofs.Common.{◌≡◌, ◌≢◌, ℕ, ◌+◌, ◌*◌, ◌≤◌, inl, List, length, arith}
use Rattle.std.specs.List.{AllByRecursion}
use Rattle.seg_spec.specs.Bytes.{IsSame}
use Rattle.seg_spec.specs.Types.{Table}
use Rattle.seg_spec.specs.Heap.{units_at, link_at, live, IsHeap, heap_start}
use Rattle.seg_spec.specs.Block.{KeepsHeader, KeepsBlock, IsOwnable}
use Rattle.seg_spec.specs.Apart.{Separate, KeepsBlockAround}
use Rattle.seg_spec.specs.Sound.{times, positions}
use Rattle.seg_spec.proofs.Values.PlaceFrameLaws.{each_weaker}
use Rattle.seg_spec.proofs.Heap.LiveBlockLaws.{LiesIn, there, live-lie}
use Rattle.seg_spec.proofs.Heap.SeveralWriteLaws as writes
pub use Rattle.seg_spec.proofs.Heap.SeveralWriteLaws.{Range, Beside, IsWritable}

module _ (old new : List ℕ) (allocator : ℕ) (heap : IsHeap allocator old) (ranges : List Range) (writable : AllByRecursion (IsWritable old) ranges)
    (length_kept : length new ≡ length old) (beside : (p m : ℕ) → Beside p m ranges → IsSame old new p m) where
  low_by : (r : Range) → IsWritable old r → heap_start + 16 ≤ r.at
  low_by r w = let l = there (LiesIn old heap_start (length old)) r.block (positions (live old)) (live-lie old allocator heap) w.is_live in let low = l.low in let more = w.inside.low in omega arith

  -- the bytes before the heap are kept
  pub low_same : (p n : ℕ) → p + n ≤ heap_start → IsSame old new p n
  low_same p n fits = beside p n (each_weaker _ _ (λ r w. inl (let l = low_by r w in omega arith)) ranges writable)

  root_kept : IsSame old new 24 4
  root_kept = low_same 24 4 (omega arith)

  in_heap : (p m : ℕ) → heap_start ≤ p → Beside p m ranges → IsSame old new p m
  in_heap p m low b = beside p m b

  pub heap_same : IsHeap allocator new
  heap_same = writes.heap_same old new allocator heap ranges writable length_kept root_kept in_heap

  pub live_same : live new ≡ live old
  live_same = writes.live_same old new allocator heap ranges writable length_kept root_kept in_heap

  pub ownable_same : (table : Table) → AllByRecursion (λ b. IsOwnable old table b.at) (live old) → AllByRecursion (λ b. IsOwnable new table b.at) (live new)
  ownable_same table o = writes.ownable_same old new allocator heap ranges writable length_kept root_kept in_heap table o

  -- ---- a single allocated block

  module _ (x : ℕ) (is_live : 1 ≤ times x (positions (live old))) where
    pub part_same : (p m : ℕ) → x ≤ p → p + m ≤ x + 16 * units_at old x → AllByRecursion (λ r. (r.block ≡ x) → Separate p m r.at r.n) ranges → IsSame old new p m
    part_same p m low high apart = writes.part_same old new allocator heap ranges writable length_kept root_kept in_heap x is_live p m low high apart

    pub header_then : KeepsHeader old new x
    header_then = writes.header_then old new allocator heap ranges writable length_kept root_kept in_heap x is_live

    pub link_same : link_at new x ≡ link_at old x
    link_same = writes.link_same old new allocator heap ranges writable length_kept root_kept in_heap x is_live

    -- a block is kept if no range lies in it
    pub whole_then : AllByRecursion (λ r. r.block ≢ x) ranges → KeepsBlock old new x
    whole_then others = writes.whole_then old new allocator heap ranges writable length_kept root_kept in_heap x is_live others

    -- a block is kept around n bytes if each range in it lies within these
    pub around_then : (at n : ℕ) → AllByRecursion (λ r. r.block ≡ x → (at ≤ r.at) × (r.at + r.n ≤ at + n)) ranges → KeepsBlockAround old new at n x
    around_then at n within = writes.around_then old new allocator heap ranges writable length_kept root_kept in_heap x is_live at n within
