-- The target of a cell and what is freed with it, by the form of the cell's type.
use Rattle.std.proofs.Common.{◌≡◌, ℕ, ◌+◌, ◌*◌, ◌≤◌, ◌⊎◌, inl, inr, List, Option, Some, None, refl, sym, subst, arith}
use Rattle.seg_spec.specs.Pointer.{target, set_pointer}
use Rattle.seg_spec.specs.Types.{Form, Table, form_at, IsTable, size}
use Rattle.seg_spec.specs.Value.{Value}
use Rattle.seg_spec.specs.Heap.{IsHeap, live}
use Rattle.seg_spec.specs.Block.{block_of, payload_size}
use Rattle.seg_spec.specs.Reads.{Place, count_at, Holds}
use Rattle.seg_spec.specs.Sound.{times, positions}
use Rattle.seg_spec.specs.Shared.{named_in}
use Rattle.seg_spec.specs.Destroying.{AreLive, GoesWith, DefaultsRest, Uncouples}
use Rattle.seg_spec.proofs.Deallocation.DestructionLaws.{others_none}
use Rattle.seg_spec.proofs.Deallocation.CellDestructionLaws.{own_goes, tree_goes, text_goes, vector_goes, flat_map_goes}
use Rattle.seg_spec.proofs.Deallocation.RingDestructionLaws.{list_goes}
use Rattle.seg_cells.specs.Entries.{IsEntryOf}
use Rattle.seg_cells.specs.Contents.{ContentOf}
use Rattle.seg_cells.specs.declared.content.Content.{Content}
use Rattle.seg_cells.specs.declared.content.Shape.TheVariants as shape
use Rattle.seg_cells.specs.declared.entry.Held.TheVariants as held
use Rattle.seg_value.proofs.Nulls.{vector_named, flat_map_named}

module _ (allocator : ℕ) (old : List ℕ) (table : Table) (valid : IsTable table) (heap : IsHeap allocator old) (place : Place) (p : ℕ) (e : target old place.at ≡ Some p) (v : Value) (xs : List ℕ) (fits : AreLive old xs)
    (h : Holds old table place v xs) (content : Content) where
  unchanged : GoesWith old table p xs (named_in v) → Uncouples allocator old old table p xs (named_in v)
  unchanged goes = record { heap = heap; keeps = others_none old xs; goes = goes }

  -- a single block, or the root of a tree
  single_by : (o : Option Form) → form_at table place.type ≡ o → ContentOf table place.type o (Some content) → (content.shape ≡ shape.Tree) ⊎ (content.shape ≡ shape.Object) → Uncouples allocator old old table p xs (named_in v)
  single_by None f k s = absurd k
  single_by (Some Form.i64) f k s = absurd k
  single_by (Some (Form.struct Us)) f k s = absurd k
  single_by (Some Form.str) f k (inl s) = let t = k.shape_is in absurd (cc)
  single_by (Some Form.str) f k (inr s) = let t = k.shape_is in absurd (cc)
  single_by (Some (Form.vec U)) f k (inl s) = let t = k.shape_is in absurd (cc)
  single_by (Some (Form.vec U)) f k (inr s) = let t = k.shape_is in absurd (cc)
  single_by (Some (Form.flat_map U)) f k (inl s) = let t = k.shape_is in absurd (cc)
  single_by (Some (Form.flat_map U)) f k (inr s) = let t = k.shape_is in absurd (cc)
  single_by (Some (Form.list U)) f k (inl s) = let t = k.shape_is in absurd (cc)
  single_by (Some (Form.list U)) f k (inr s) = let t = k.shape_is in absurd (cc)
  single_by (Some (Form.map U)) f k s = unchanged (tree_goes old table place p e U v xs f h)
  single_by (Some (Form.own U)) f k s = unchanged (own_goes old table place p e U v xs f h)
  single_by (Some (Form.shared U)) f k s = absurd k

  pub single : ContentOf table place.type (form_at table place.type) (Some content) → (content.shape ≡ shape.Tree) ⊎ (content.shape ≡ shape.Object) → Uncouples allocator old old table p xs (named_in v)
  single k s = single_by (form_at table place.type) refl k s

  -- a ring, which is opened first
  ring_by : (new : List ℕ) (o : Option Form) → form_at table place.type ≡ o → ContentOf table place.type o (Some content) → content.shape ≡ shape.Ring →
      ((last : ℕ) → target old (p + 4) ≡ Some last → new ≡ set_pointer old last None) → Uncouples allocator old new table p xs (named_in v)
  ring_by new None f k s opened = absurd k
  ring_by new (Some Form.i64) f k s opened = absurd k
  ring_by new (Some (Form.struct Us)) f k s opened = absurd k
  ring_by new (Some Form.str) f k s opened = let t = k.shape_is in absurd (cc)
  ring_by new (Some (Form.vec U)) f k s opened = let t = k.shape_is in absurd (cc)
  ring_by new (Some (Form.flat_map U)) f k s opened = let t = k.shape_is in absurd (cc)
  ring_by new (Some (Form.map U)) f k s opened = let t = k.shape_is in absurd (cc)
  ring_by new (Some (Form.own U)) f k s opened = let t = k.shape_is in absurd (cc)
  ring_by new (Some (Form.shared U)) f k s opened = absurd k
  ring_by new (Some (Form.list U)) f k s opened =
      let r = list_goes allocator old table valid heap place p e v xs fits U f h in
      subst (λ b. Uncouples allocator old b table p xs (named_in v)) (sym (opened r.last r.names)) r.uncouples

  pub ring : (new : List ℕ) → ContentOf table place.type (form_at table place.type) (Some content) → content.shape ≡ shape.Ring → ((last : ℕ) → target old (p + 4) ≡ Some last → new ≡ set_pointer old last None) →
      Uncouples allocator old new table p xs (named_in v)
  ring new k s opened = ring_by new (form_at table place.type) refl k s opened

  -- a buffer, whose unused entries have default values
  buffer_by : (new : List ℕ) (used : ℕ) (o : Option Form) → form_at table place.type ≡ o → ContentOf table place.type o (Some content) → content.shape ≡ shape.Buffer → used ≡ count_at old place.at →
      (content.entry.held ≡ held.Bytes → new ≡ old) →
      ((before U : ℕ) → IsEntryOf table before U content.entry → 16 ≤ p → 1 ≤ times (block_of p) (positions (live old)) → used * (before + size table U) ≤ payload_size old (block_of p) → DefaultsRest old new table p before U used) →
      Uncouples allocator old new table p xs (named_in v)
  buffer_by new used None f k s count text rest = absurd k
  buffer_by new used (Some Form.i64) f k s count text rest = absurd k
  buffer_by new used (Some (Form.struct Us)) f k s count text rest = absurd k
  buffer_by new used (Some (Form.list U)) f k s count text rest = let t = k.shape_is in absurd (cc)
  buffer_by new used (Some (Form.map U)) f k s count text rest = let t = k.shape_is in absurd (cc)
  buffer_by new used (Some (Form.own U)) f k s count text rest = let t = k.shape_is in absurd (cc)
  buffer_by new used (Some (Form.shared U)) f k s count text rest = absurd k
  buffer_by new used (Some Form.str) f k s count text rest = subst (λ b. Uncouples allocator old b table p xs (named_in v)) (sym (text k.held_is)) (unchanged (text_goes old table place p e v xs f h))
  buffer_by new used (Some (Form.vec U)) f k s count text rest =
      let b = vector_named old table place p U v xs f e h in
      let room = b.block.room in
      let mine = b.mine in
      let live_there : 1 ≤ times (block_of p) (positions (live old)) = omega (arith, fits (block_of p)) in
      let z : 0 + size table U ≡ size table U = omega arith in
      let less : used * (0 + size table U) ≤ payload_size old (block_of p) = rw (z, count) room in
      vector_goes allocator old new table valid heap place p e v xs fits U f h (rw count at (rest 0 U k.entry_is b.block.after_header live_there less))
  buffer_by new used (Some (Form.flat_map U)) f k s count text rest =
      let b = flat_map_named old table place p U v xs f e h in
      let room = b.block.room in
      let mine = b.mine in
      let live_there : 1 ≤ times (block_of p) (positions (live old)) = omega (arith, fits (block_of p)) in
      let less : used * (8 + size table U) ≤ payload_size old (block_of p) = rw count room in
      flat_map_goes allocator old new table valid heap place p e v xs fits U f h (rw count at (rest 8 U k.entry_is b.block.after_header live_there less))

  pub buffer : (new : List ℕ) (used : ℕ) → ContentOf table place.type (form_at table place.type) (Some content) → content.shape ≡ shape.Buffer → used ≡ count_at old place.at → (content.entry.held ≡ held.Bytes → new ≡ old) →
      ((before U : ℕ) → IsEntryOf table before U content.entry → 16 ≤ p → 1 ≤ times (block_of p) (positions (live old)) → used * (before + size table U) ≤ payload_size old (block_of p) → DefaultsRest old new table p before U used) →
      Uncouples allocator old new table p xs (named_in v)
  buffer new used k s count text rest = buffer_by new used (form_at table place.type) refl k s count text rest
