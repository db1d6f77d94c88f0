-- Two frames of blocks, one after the other.
use Rattle.std.proofs.Common.{◌≢◌, ℕ, ◌+◌, ◌≤◌, List, ◌∙◌, arith}
use Rattle.seg_spec.specs.Bytes.{ChangesOnly}
use Rattle.seg_spec.specs.Heap.{units_at, live, IsHeap, KeepsTiles}
use Rattle.seg_spec.specs.Block.{KeepsBlock, payload_size, IsInside}
use Rattle.seg_spec.specs.Apart.{KeepsBlockAround}
use Rattle.seg_spec.specs.Sound.{times, positions}
use Rattle.seg_spec.proofs.SliceLaws.{IsSame-part}
use Rattle.seg_spec.proofs.Heap.LiveBlockLaws.{there}
use Rattle.seg_spec.proofs.Heap.BlockWriteLaws.{tiles_kept, KeptBut, live_kept_but}

pub kept_twice : (a b c : List ℕ) (h : ℕ) → KeepsBlock a b h → KeepsBlock b c h → KeepsBlock a c h
kept_twice a b c h j k = record {
  live = k.live ∙ j.live;
  has_tag = k.has_tag ∙ j.has_tag;
  room = omega (arith, j.room, k.room);
  payload = IsSame-part b c (h + 16) (payload_size b h) (h + 16) (payload_size a h) (omega arith) (omega (arith, j.room)) k.payload ∙ j.payload;
}

pub around_twice : (a b c : List ℕ) (x n h : ℕ) → KeepsBlockAround a b x n h → KeepsBlockAround b c x n h → KeepsBlockAround a c x n h
around_twice a b c x n h j k = record {
  solid = j.solid;
  header = record { live = k.header.live ∙ j.header.live; has_tag = k.header.has_tag ∙ j.header.has_tag; room = omega (arith, j.header.room, k.header.room) };
  payload = λ g m low high apart. k.payload g m low (omega (arith, high, j.header.room)) apart ∙ j.payload g m low high apart;
}

pub around_kept : (a b : List ℕ) (x n h : ℕ) → 1 ≤ units_at a h → KeepsBlock a b h → KeepsBlockAround a b x n h
around_kept a b x n h solid k = record {
  solid = solid;
  header = record { live = k.live; has_tag = k.has_tag; room = k.room };
  payload = λ g m low high apart. IsSame-part a b (h + 16) (payload_size a h) g m low high k.payload;
}

module _ (old new : List ℕ) (allocator at m block : ℕ) (heap : IsHeap allocator old) (inside : IsInside old block at m) (owned : 1 ≤ times block (positions (live old))) (changes : ChangesOnly old new at m) where
  pub tiles_written : KeepsTiles old new
  tiles_written = tiles_kept old new at m changes allocator heap block inside owned

  pub others_written : (h : ℕ) → 1 ≤ times h (positions (live old)) → h ≢ block → KeepsBlock old new h
  others_written h is_live other = (there (KeptBut old new at m changes allocator heap block inside owned) h (positions (live old)) (live_kept_but old new at m changes allocator heap block inside owned) is_live).kept other
