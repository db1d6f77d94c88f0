-- The facts that follow from the check of the heap.
use Rattle.std.proofs.Common.{◌≡◌, ℕ, ◌+◌, ◌*◌, ◌≤◌, Some, List, length, arith}
use Rattle.std.proofs.lemmas.List.{length-map}
use Rattle.seg_spec.specs.Bytes.{word}
use Rattle.seg_spec.specs.Types.{Form, Table, form_at}
use Rattle.seg_spec.specs.Header.{allocator_word}
use Rattle.seg_spec.specs.Heap.{heap_start, Span, IsHeap, HoldsGaps, gaps, live}
use Rattle.seg_spec.specs.Block.{IsOwnable}
use Rattle.seg_spec.specs.Sound.{times, positions}
use Rattle.seg_spec.specs.Faulty.{HasFront, HasTiles}
use Rattle.seg_spec.proofs.Values.PlaceFrameLaws.{each_map}
use Rattle.seg_spec.proofs.Heap.LiveBlockLaws.{LiesIn, live-lie, there}
use Rattle.seg_spec.proofs.Heap.BlockCountLaws.{few_live}
use Rattle.seg_check.specs.Marks.{Known, KnowsTiles}
use Rattle.seg_check.specs.Turns.{AreBlocks}
use Rattle.seg_check.specs.Resolving.{IsReady}
use Rattle.seg_check.proofs.SameLengthLaws.{same_length}

module _ (bytes : List ℕ) (table : Table) (front : HasFront bytes table) (tiles : HasTiles bytes table) (free : HoldsGaps (word bytes allocator_word) bytes (gaps bytes)) where
  pub is_heap : IsHeap (word bytes allocator_word) bytes
  is_heap = record { filled = tiles.filled; headers = tiles.headers; apart = tiles.apart; free = free; small = front.header.not_large }

  -- the table allows each block that is known
  blocks_known : (known : Known) → KnowsTiles bytes known → AreBlocks bytes table known.unclaimed
  blocks_known known knows h some =
      let among : 1 ≤ times h (positions (live bytes)) = omega (arith, knows.unclaimed h) in
      let lies = there (LiesIn bytes heap_start (length bytes)) h (positions (live bytes)) (live-lie bytes (word bytes allocator_word) is_heap) among in
      let ownable = there (IsOwnable bytes table) h (positions (live bytes)) (each_map (IsOwnable bytes table) (λ (b : Span). b.at) (live bytes) tiles.ownable) among in
      (record { live = lies.live_is; size = lies.size; inside = lies.high }, ownable)

  few_known : (known : Known) → KnowsTiles bytes known → heap_start + 32 * length known.unclaimed ≤ length bytes
  few_known known knows =
      omega (arith, same_length known.unclaimed (positions (live bytes)) knows.unclaimed, length-map (live bytes) (λ (b : Span). b.at), few_live (word bytes allocator_word) bytes is_heap)

  pub ready_known : (known : Known) → KnowsTiles bytes known → ((T U : ℕ) → form_at table T ≡ Some (Form.shared U) → length bytes ≤ heap_start + 32 * length known.naming.counts) → IsReady bytes table known
  ready_known known knows room = record {
    is_table = front.is_table;
    heap = is_heap;
    allocated = knows.allocated;
    blocks = blocks_known known knows;
    few = few_known known knows;
    small = front.header.not_large;
    standing = (λ h. omega (arith, knows.unclaimed h, knows.none_named h));
    frozen = (λ h f. omega (arith, knows.unclaimed h, knows.none_named h));
    slots = room;
  }
