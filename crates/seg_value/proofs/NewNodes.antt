-- A new node of the index's tree, from how the steps change the bytes.
use Rattle.std.proofs.Common.{◌≡◌, ℕ, ◌+◌, ◌-◌, ◌*◌, ◌%◌, ◌^◌, ◌<◌, ◌≤◌, List, length, Some, refl, ap, ◌∙◌, arith}
use Rattle.seg_spec.specs.Bytes.{set_word, ChangesOnly}
use Rattle.seg_spec.specs.Heap.{IsHeap, Takes}
use Rattle.seg_spec.specs.Demand.{need}
use Rattle.seg_spec.specs.Block.{Kind, tag_of}
use Rattle.seg_spec.proofs.Heap.NewBlockLaws.{block_fits, was_free, new_heap, all_kept, is_block, new_length, new_front, new_back, new_link, taken_units}
use Rattle.seg_value.specs.Nodes.{GivesNode}
use Rattle.seg_value.proofs.NewBlocks.{now_live, asks_granted}

-- only the tag was written
nothing_more : (bytes : List ℕ) (at : ℕ) → ChangesOnly bytes bytes at 0
nothing_more bytes at = record { length_kept = refl; others = λ p m apart. refl }

gives_node : (allocator h : ℕ) (old taken : List ℕ) → IsHeap allocator old → Takes allocator old taken (need 24) (Some h) → h + 16 ≤ length taken
    → GivesNode allocator old (set_word taken (h + 8) (tag_of Kind.index_node 0)) (h + 16)
gives_node allocator h old taken heap t fits =
    let tag = tag_of Kind.index_node 0 in
    let new = set_word taken (h + 8) tag in
    let own : h + 16 - 16 ≡ h = omega arith in
    let low : h + 16 ≤ h + 16 = omega arith in
    let high : h + 16 + 0 ≤ h + 16 * need 24 = omega arith in
    let changes = nothing_more new (h + 16) in
    record {
      length_kept = new_length allocator (need 24) h tag old taken new heap t (h + 16) 0 low high changes;
      front_kept = new_front allocator (need 24) h tag old taken new heap t (h + 16) 0 low high changes;
      back_kept = new_back allocator (need 24) h tag old taken new heap t (h + 16) 0 low high changes;
      heap = new_heap allocator (need 24) h tag old taken new heap t (h + 16) 0 low high changes;
      is_block = is_block allocator (need 24) h tag old taken new heap t (h + 16) 0 low high changes 24 (omega arith) fits (omega arith);
      link_is = rw own (new_link allocator (need 24) h tag old taken new heap t (h + 16) 0 low high changes);
      granted_is = asks_granted allocator old new 24 h (taken_units allocator (need 24) h tag old taken new heap t (h + 16) 0 low high changes);
      was_free = rw own (was_free allocator (need 24) h tag old taken new heap t);
      now_live = rw own (now_live allocator (need 24) h tag old taken new heap t (h + 16) 0 low high changes);
      kept = λ k some. let r = all_kept allocator (need 24) h tag old taken new heap t (h + 16) 0 low high changes k some in (r.whole.kept, r.link_kept);
    }

-- the same, with the numbers that the code computes
pub gives_node_at : (allocator h need_is each payload tag : ℕ) (old taken new : List ℕ) → IsHeap allocator old → Takes allocator old taken need_is (Some h)
    → each ≡ 24 → (1 * each < 2 ^ 32 → need_is ≡ need (1 * each)) → payload ≡ (h + 16) % 2 ^ 32 → tag ≡ tag_of Kind.index_node 0 → new ≡ set_word taken (h + 8) tag → GivesNode allocator old new payload
gives_node_at allocator h need_is each payload tag old taken new heap t each_is need_by payload_is tag_is new_is =
    let one : 1 * each ≡ 24 = omega arith in
    let needed : need_is ≡ need 24 = need_by (omega arith) ∙ ap need one in
    let t' : Takes allocator old taken (need 24) (Some h) = rw needed at t in
    let fits = block_fits allocator (need 24) h (tag_of Kind.index_node 0) old taken taken heap t' in
    let tiny = t.heap.small in
    let p_is : payload ≡ h + 16 = omega arith in
    rw (p_is, new_is, tag_is) (gives_node allocator h old taken heap t' (omega arith))
