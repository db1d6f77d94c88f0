-- The buffer to which a place points: its position, and the number of its entries.
use Rattle.std.proofs.Common.{◌≡◌, ◌≢◌, ℕ, ◌+◌, ◌*◌, ◌≤◌, true, List, [], ◌++◌, length, Some, None, refl, ap, ◌∙◌, arith}
use Rattle.std.proofs.Math.Nat.{mul-one}
use Rattle.seg_spec.specs.Bytes.{slice, IsSame}
use Rattle.seg_spec.specs.Pointer.{target}
use Rattle.seg_spec.specs.Types.{Form, Table, form_at}
use Rattle.seg_spec.specs.Value.{Value, Text}
use Rattle.seg_spec.specs.Heap.{live, heap_start}
use Rattle.seg_spec.specs.Block.{Kind, tag_of, block_of, has_buffer, IsBlock, payload_size}
use Rattle.seg_spec.specs.Reads.{Place, count_at, named, start}
use Rattle.seg_spec.specs.Sound.{times, positions}
use Rattle.seg_spec.specs.Owning.{Stands}
use Rattle.seg_spec.specs.Spending.{item_size}
use Rattle.seg_spec.proofs.BytesLaws.{length-slice}
use Rattle.seg_spec.proofs.SliceLaws.{IsSame-part}
use Rattle.seg_spec.proofs.Values.PlaceFrameLaws.{word-same}
use Rattle.seg_spec.proofs.Heap.LiveBlockLaws.{times-same, there, LiesIn, live-lie}
use Rattle.seg_spec.proofs.Values.PlaceWriteLaws.{owned_live, owned_other}
use Rattle.seg_spec.proofs.Values.BufferLaws.{Buffered, buffered}

-- a block with the same header is still a block, with room for m bytes
pub block_again : (old new : List ℕ) (p tag n m : ℕ) → IsSame old new (block_of p) 16 → m ≤ payload_size old (block_of p) → IsBlock old p tag n → IsBlock new p tag m
block_again old new p tag n m header fits b =
    let h = block_of p in
    let first = word-same old new h (IsSame-part old new h 16 h 4 (omega arith) (omega arith) header) in
    let third = word-same old new (h + 8) (IsSame-part old new h 16 (h + 8) 4 (omega arith) (omega arith) header) in
    record { after_header = b.after_header; live = rw first b.live; has_tag = third ∙ b.has_tag; room = rw first fits }

module _ (allocator : ℕ) (bytes : List ℕ) (table : Table) (place : Place) (form : Form) (v : Value) (blocks : List ℕ) (f : form_at table place.type ≡ Some form) (b : has_buffer (Some form) ≡ true)
    (s : Stands allocator bytes table place v blocks) where
  pub its : Buffered bytes table place form v blocks
  its = buffered bytes table place form v blocks f b s.holds_it

  -- the buffer's block is allocated and belongs to the place
  pub record Reaches (p : ℕ) : Type 0 where
    pub low : 16 ≤ p
    pub block_is : IsBlock bytes p (tag_of Kind.buffer place.type) (count_at bytes place.at * item_size table form)
    pub mine : 1 ≤ times (block_of p) blocks
    pub is_live : 1 ≤ times (block_of p) (positions (live bytes))
    pub lies : LiesIn bytes heap_start (length bytes) (block_of p)
    pub high : p + payload_size bytes (block_of p) ≤ length bytes
    pub other : block_of p ≢ s.home

  pub reaches : (p : ℕ) → target bytes place.at ≡ Some p → Reaches p
  reaches p e =
      let room : IsBlock bytes p (tag_of Kind.buffer place.type) (count_at bytes place.at * item_size table form) = rw e at its.room in
      let mine : 1 ≤ times (block_of p) blocks = rw (its.blocks_are, e) (omega (arith, times-same (block_of p) its.owned)) in
      let is_live = owned_live allocator bytes table place v blocks s (block_of p) mine in
      let l = there (LiesIn bytes heap_start (length bytes)) (block_of p) (positions (live bytes)) (live-lie bytes allocator s.heap) is_live in
      record {
        low = room.after_header;
        block_is = room;
        mine = mine;
        is_live = is_live;
        lies = l;
        high = omega (arith, l.high, l.size, room.after_header);
        other = owned_other allocator bytes table place v blocks s (block_of p) mine;
      }

  -- the buffer's entries lie in the segment
  pub entries_fit : (p : ℕ) → target bytes place.at ≡ Some p → p + count_at bytes place.at * item_size table form ≤ length bytes
  entries_fit p e = let r = reaches p e in omega (arith, r.high, r.block_is.room)

  pub none_counted : target bytes place.at ≡ None → count_at bytes place.at ≡ 0
  none_counted e = rw e at its.room

module _ (allocator : ℕ) (bytes : List ℕ) (table : Table) (place : Place) (xs blocks : List ℕ) (f : form_at table place.type ≡ Some Form.str) (s : Stands allocator bytes table place (Text xs) blocks) where
  same_text : (a b : List ℕ) → Text a ≡ Text b → a ≡ b
  same_text a b e = cc

  pub text_is : xs ≡ slice bytes (start bytes place.at) (count_at bytes place.at)
  text_is = same_text _ _ (its allocator bytes table place Form.str (Text xs) blocks f refl s).entries.0

  pub text_owns : blocks ≡ named bytes place.at ++ []
  text_owns = let i = its allocator bytes table place Form.str (Text xs) blocks f refl s in i.blocks_are ∙ ap (λ os. named bytes place.at ++ os) i.entries.1

  slice_none : (at : ℕ) → length (slice bytes at 0) ≡ 0
  unfolding slice
  slice_none at = refl

  pub text_counts : length xs ≡ count_at bytes place.at
  text_counts = ap length text_is ∙ go (target bytes place.at) refl
    where
      go : (o : Rattle.std.specs.Prelude.Option ℕ) → target bytes place.at ≡ o → length (slice bytes (start bytes place.at) (count_at bytes place.at)) ≡ count_at bytes place.at
      go None e =
          let none = none_counted allocator bytes table place Form.str (Text xs) blocks f refl s e in
          rw none (slice_none (start bytes place.at))
      go (Some p) e =
          let fits : p + count_at bytes place.at ≤ length bytes = rw mul-one at (entries_fit allocator bytes table place Form.str (Text xs) blocks f refl s p e) in
          let at_is : start bytes place.at ≡ p = rw e refl in
          length-slice bytes (start bytes place.at) (count_at bytes place.at) (rw at_is fits)
