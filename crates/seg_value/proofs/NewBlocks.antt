-- A new block with the default of its value, from how the steps change the bytes.
use Rattle.std.proofs.Common.{◌≡◌, ℕ, ◌+◌, ◌-◌, ◌*◌, ◌%◌, ◌^◌, ◌<◌, ◌≤◌, List, [], ◌∷◌, length, Some, refl, ap, ◌∙◌, arith}
use Rattle.seg_spec.specs.Bytes.{set_word, ChangesOnly}
use Rattle.seg_spec.specs.Types.{Table, IsTable, size}
use Rattle.seg_spec.specs.Value.{default_of}
use Rattle.seg_spec.specs.Heap.{IsHeap, live, after_take, Takes}
use Rattle.seg_spec.specs.Reads.{Holds}
use Rattle.seg_spec.specs.Demand.{need, after_asks, block_for}
use Rattle.seg_spec.specs.Sound.{times, positions}
use Rattle.seg_spec.proofs.Heap.LiveBlockLaws.{times-same, times-with_block}
use Rattle.seg_spec.proofs.Heap.NewBlockLaws.{took, new_live, block_fits, was_free, new_heap, all_kept, is_block, new_length, new_front, new_back, new_link, taken_units}
use Rattle.seg_spec.specs.Cells.{IsWithin}
use Rattle.seg_spec.proofs.BytesLaws.{length-set_number}
use Rattle.seg_value.specs.Contents.{GivesBlock}

module _ (allocator u h tag : ℕ) (old taken new : List ℕ) (heap : IsHeap allocator old) (t : Takes allocator old taken u (Some h)) (at n : ℕ) (low : h + 16 ≤ at) (high : at + n ≤ h + 16 * u)
    (changes : ChangesOnly (set_word taken (h + 8) tag) new at n) where
  -- the new block is allocated
  pub now_live : times h (positions (live new)) ≡ 1
  now_live = let got = took allocator old taken u h t in
      ap (λ bs. times h (positions bs)) (new_live allocator u h tag old taken new heap t at n low high changes ∙ got.live_are) ∙ times-with_block h (record { at = h; units = got.units }) (live old)
      ∙ times-same h (positions (live old)) ∙ ap (λ x. 1 + x) (was_free allocator u h tag old taken new heap t)

need_room : (n : ℕ) → n + 16 ≤ 16 * need n
need_room n = omega arith

-- the requests of the call were granted
pub asks_granted : (allocator : ℕ) (old new : List ℕ) (n h : ℕ) → after_take allocator (live old) (length old) (need n) ≡ Some (h, live new) → after_asks allocator (live old) (length old) (block_for n ∷ []) ≡ Some (live new)
asks_granted allocator old new n h e = rw e refl

pub gives_block : (allocator h tag before U : ℕ) (old taken new : List ℕ) (table : Table) → IsHeap allocator old → Takes allocator old taken (need (before + size table U)) (Some h) → h + 16 ≤ length taken → tag < 2 ^ 32
    → ChangesOnly (set_word taken (h + 8) tag) new (h + 16 + before) (size table U) → Holds new table (record { at = h + 16 + before; type = U }) (default_of table U) [] → GivesBlock allocator old new table tag before U (h + 16)
gives_block allocator h tag before U old taken new table heap t fits small changes filled =
    let room = need_room (before + size table U) in
    let own : h + 16 - 16 ≡ h = omega arith in
    let low : h + 16 ≤ h + 16 + before = omega arith in
    let high : h + 16 + before + size table U ≤ h + 16 * need (before + size table U) = omega arith in
    record {
      length_kept = new_length allocator (need (before + size table U)) h tag old taken new heap t (h + 16 + before) (size table U) low high changes;
      front_kept = new_front allocator (need (before + size table U)) h tag old taken new heap t (h + 16 + before) (size table U) low high changes;
      back_kept = new_back allocator (need (before + size table U)) h tag old taken new heap t (h + 16 + before) (size table U) low high changes;
      heap = new_heap allocator (need (before + size table U)) h tag old taken new heap t (h + 16 + before) (size table U) low high changes;
      is_block = is_block allocator (need (before + size table U)) h tag old taken new heap t (h + 16 + before) (size table U) low high changes (before + size table U) room fits small;
      link_is = rw own (new_link allocator (need (before + size table U)) h tag old taken new heap t (h + 16 + before) (size table U) low high changes);
      value = filled;
      granted_is = asks_granted allocator old new (before + size table U) h (taken_units allocator (need (before + size table U)) h tag old taken new heap t (h + 16 + before) (size table U) low high changes);
      was_free = rw own (was_free allocator (need (before + size table U)) h tag old taken new heap t);
      now_live = rw own (now_live allocator (need (before + size table U)) h tag old taken new heap t (h + 16 + before) (size table U) low high changes);
      kept = λ k some. let r = all_kept allocator (need (before + size table U)) h tag old taken new heap t (h + 16 + before) (size table U) low high changes k some in (r.whole.kept, r.link_kept);
    }

-- the same, with the positions that the code computes
pub gives_block_at : (allocator h tag before U need_is each payload at : ℕ) (old taken tagged_is new : List ℕ) (table : Table) → IsTable table → before ≤ 24 → U < length table → tag < 2 ^ 32 →
    IsHeap allocator old → Takes allocator old taken need_is (Some h)
    → each ≡ before + size table U → (1 * each < 2 ^ 32 → need_is ≡ need (1 * each)) → payload ≡ (h + 16) % 2 ^ 32 → at ≡ (payload + 0 * each + before) % 2 ^ 32 → tagged_is ≡ set_word taken (h + 8) tag
    → (IsWithin tagged_is at (size table U) → ChangesOnly tagged_is new at (size table U)) → (IsWithin tagged_is at (size table U) → U < length table → Holds new table (record { at = at; type = U }) (default_of table U) [])
    → GivesBlock allocator old new table tag before U payload
gives_block_at allocator h tag before U need_is each payload at old taken tagged_is new table valid low_before below small heap t each_is need_by payload_is at_is tagged_by changes fills =
    let limit = valid.sizes U in
    let one : 1 * each ≡ before + size table U = omega arith in
    let needed : need_is ≡ need (before + size table U) = need_by (omega arith) ∙ ap need one in
    let t' : Takes allocator old taken (need (before + size table U)) (Some h) = rw needed at t in
    let fits = block_fits allocator (need (before + size table U)) h tag old taken taken heap t' in
    let room = need_room (before + size table U) in
    let tiny = t.heap.small in
    let p_is : payload ≡ h + 16 = omega arith in
    let a_is : at ≡ h + 16 + before = omega arith in
    let long : length tagged_is ≡ length taken = ap length tagged_by ∙ length-set_number 4 taken (h + 8) tag in
    let within : IsWithin tagged_is at (size table U) = record { fits = omega arith; small = omega arith } in
    let changed = changes within in
    let held = fills within below in
    let changed' : ChangesOnly (set_word taken (h + 8) tag) new (h + 16 + before) (size table U) = rw (tagged_by, a_is) at changed in
    let held' : Holds new table (record { at = h + 16 + before; type = U }) (default_of table U) [] = rw a_is at held in
    rw p_is (gives_block allocator h tag before U old taken new table heap t' (omega arith) small changed' held')

-- the same, with the table and the type that the code stores
pub gives_block_for : (allocator h tag before U V b need_is each payload at : ℕ) (old taken tagged_is new : List ℕ) (table here : Table) → here ≡ table → V ≡ U → b ≡ before → IsTable table →
    before ≤ 24 → U < length table → tag < 2 ^ 32 → IsHeap allocator old → Takes allocator old taken need_is (Some h)
    → each ≡ before + size table U → (1 * each < 2 ^ 32 → need_is ≡ need (1 * each)) → payload ≡ (h + 16) % 2 ^ 32 → at ≡ (payload + 0 * each + b) % 2 ^ 32 → tagged_is ≡ set_word taken (h + 8) tag
    → (IsWithin tagged_is at (size here V) → ChangesOnly tagged_is new at (size here V)) → (IsWithin tagged_is at (size here V) → V < length here → Holds new here (record { at = at; type = V }) (default_of here V) [])
    → GivesBlock allocator old new table tag before U payload
gives_block_for allocator h tag before U V b need_is each payload at old taken tagged_is new table here table_is type_is before_is valid low_before below small heap t each_is need_by payload_is at_is tagged_by changes fills =
    gives_block_at allocator h tag before U need_is each payload at old taken tagged_is new table valid low_before below small heap t each_is need_by payload_is (rw before_is at at_is) tagged_by
    (rw (table_is, type_is) at changes) (rw (table_is, type_is) at fills)
