-- A new node that isn't in the tree yet: its block was allocated, and its key was written.
use Rattle.std.proofs.Common.{◌≡◌, ◌≢◌, ℕ, ◌+◌, ◌≤◌, ◌⊎◌, inl, inr, ℤ, List, [], ◌∷◌, length, Some, refl, sym, ap, ◌∙◌, subst, arith}
use Rattle.std.proofs.lemmas.Bool.{cases_eq}
use Rattle.std.specs.List.{AllByRecursion}
use Rattle.seg_spec.specs.Bytes.{signed_long, IsSame, ChangesOnly}
use Rattle.seg_spec.specs.Types.{Form, Table, form_at, size}
use Rattle.seg_spec.specs.Value.{default_of}
use Rattle.seg_spec.specs.Heap.{link_at, live, IsHeap, heap_start}
use Rattle.seg_spec.specs.Block.{Kind, tag_of, IsBlock, IsInside, KeepsBlock, IsOwnable, block_of}
use Rattle.seg_spec.specs.Reads.{Holds}
use Rattle.seg_spec.specs.Sound.{times, positions}
use Rattle.seg_spec.specs.Demand.{need, block_for}
use Rattle.seg_spec.specs.Spending.{spent}
use Rattle.seg_spec.proofs.SliceLaws.{IsSame-trans}
use Rattle.seg_spec.proofs.Heap.BlockFrameLaws.{kept_twice}
use Rattle.seg_spec.proofs.Heap.AllocationLaws.{OneMore, one_more}
use Rattle.seg_spec.proofs.Values.PlaceFrameLaws.{Holds-kept}
use Rattle.seg_spec.proofs.Heap.LiveBlockLaws.{times-other, LiesIn, there, live-lie}
use Rattle.seg_spec.proofs.Values.CallPlaceLaws.{each_live_at, live_at}
use Rattle.seg_spec.specs.Types.{IsTable}
use Rattle.seg_value.specs.Contents.{GivesBlock}
use Rattle.seg_map.proofs.SeveralWrites.{Range, Beside, IsWritable, low_same, heap_same, live_same, header_then, link_same, whole_then}

-- ---- the node

-- The node lies in a new block and contains a key and the default of a value. All blocks that were
-- allocated before are kept.
pub record Entered (allocator : ℕ) (old new : List ℕ) (table : Table) (T U node : ℕ) (key : ℤ) : Type 0 where
  pub length_kept : length new ≡ length old
  pub front_kept : IsSame old new 0 24
  pub back_kept : IsSame old new 28 676
  pub heap : IsHeap allocator new
  pub counts : (h : ℕ) → times h (positions (live new)) ≡ times h (block_of node ∷ positions (live old))
  pub was_free : times (block_of node) (positions (live old)) ≡ 0
  pub kept : (h : ℕ) → 1 ≤ times h (positions (live old)) → KeepsBlock old new h
  pub ownable : AllByRecursion (λ b. IsOwnable new table b.at) (live new)
  pub block : IsBlock new node (tag_of Kind.node T) (24 + size table U)
  pub value : Holds new table (record { at = node + 24; type = U }) (default_of table U) []
  pub key_is : signed_long new (node + 16) ≡ key
  pub spent_is : spent allocator (live old) (length old) (block_for (24 + size table U) ∷ []) [] ≡ Some (live new)

module _ (allocator : ℕ) (old mid new : List ℕ) (table : Table) (T U node : ℕ) (key : ℤ) (valid : IsTable table) (f : form_at table T ≡ Some (Form.map U)) (ownable : AllByRecursion (λ b. IsOwnable old table b.at) (live old))
    (start : heap_start ≤ length old)
    (g : GivesBlock allocator old mid table (tag_of Kind.node T) 24 U node)
    (stored : ChangesOnly mid new (node + 16) 8) (key_is : signed_long new (node + 16) ≡ key) where
  more : OneMore (live old) (block_for (24 + size table U)) allocator (length old) (live mid)
  more = one_more allocator (length old) (need (24 + size table U)) (live old) (live mid) g.granted_is

  at_is : more.at ≡ block_of node
  at_is = go (cases_eq more.at (block_of node))
    where
      go : (more.at ≡ block_of node) ⊎ (more.at ≢ block_of node) → more.at ≡ block_of node
      go (inl e) = e
      go (inr ne) = absurd (let c = more.counts (block_of node) in let o = times-other (block_of node) more.at (positions (live old)) ne in let free = g.was_free in let one = g.now_live in omega arith)

  mid_counts : (h : ℕ) → times h (positions (live mid)) ≡ times h (block_of node ∷ positions (live old))
  mid_counts h = more.counts h ∙ ap (λ a. times h (a ∷ positions (live old))) at_is

  own_live : 1 ≤ times (block_of node) (positions (live mid))
  own_live = let one = g.now_live in omega arith

  ranges : List Range
  ranges = record { at = node + 16; n = 8; block = block_of node } ∷ []

  lies : LiesIn mid heap_start (length mid) (block_of node)
  lies = there (LiesIn mid heap_start (length mid)) (block_of node) (positions (live mid)) (live-lie mid allocator g.heap) own_live

  inside : IsInside mid (block_of node) (node + 16) 8
  inside =
      let back = g.is_block.after_header in
      let room = g.is_block.room in
      let two = lies.size in
      record { low = omega arith; high = omega arith }

  writable : AllByRecursion (IsWritable mid) ranges
  unfolding ranges
  writable = (record { inside = inside; is_live = own_live }, tt)

  beside : (p m : ℕ) → Beside p m ranges → IsSame mid new p m
  unfolding ranges
  beside p m b = stored.others p m b.0

  mid_live : (h : ℕ) → 1 ≤ times h (positions (live old)) → 1 ≤ times h (positions (live mid))
  mid_live h some = let c = mid_counts h in omega arith

  other : (h : ℕ) → 1 ≤ times h (positions (live old)) → block_of node ≢ h
  other h some e = let free = g.was_free in let one : times h (positions (live old)) ≡ 0 = subst (λ x. times x (positions (live old)) ≡ 0) e free in omega arith

  kept_then : (h : ℕ) → 1 ≤ times h (positions (live old)) → KeepsBlock mid new h
  unfolding ranges
  kept_then h some = whole_then mid new allocator g.heap ranges writable stored.length_kept beside h (mid_live h some) (other h some, tt)

  link_then : (h : ℕ) → 1 ≤ times h (positions (live old)) → link_at new h ≡ link_at old h
  link_then h some = link_same mid new allocator g.heap ranges writable stored.length_kept beside h (mid_live h some) ∙ (g.kept h some).1

  all_kept : (h : ℕ) → 1 ≤ times h (positions (live old)) → KeepsBlock old new h
  all_kept h some = kept_twice old mid new h (g.kept h some).0 (kept_then h some)

  live_is : live new ≡ live mid
  live_is = live_same mid new allocator g.heap ranges writable stored.length_kept beside

  own_ownable : IsOwnable new table (block_of node)
  own_ownable = record {
    kind = Kind.node;
    type = T;
    allowed = rw f refl;
    tag_is = (header_then mid new allocator g.heap ranges writable stored.length_kept beside (block_of node) own_live).has_tag ∙ g.is_block.has_tag;
    link_is = link_same mid new allocator g.heap ranges writable stored.length_kept beside (block_of node) own_live ∙ g.link_is;
  }

  old_ownable : (h : ℕ) → 1 ≤ times h (positions (live old)) → IsOwnable new table h
  old_ownable h some =
      let o = live_at (IsOwnable old table) (live old) h ownable some in
      record { kind = o.kind; type = o.type; allowed = o.allowed; tag_is = (all_kept h some).has_tag ∙ o.tag_is; link_is = link_then h some ∙ o.link_is }

  each_ownable : (h : ℕ) → 1 ≤ times h (positions (live new)) → IsOwnable new table h
  each_ownable h some = go (cases_eq (block_of node) h)
    where
      go : (block_of node ≡ h) ⊎ (block_of node ≢ h) → IsOwnable new table h
      go (inl e) = subst (IsOwnable new table) e own_ownable
      go (inr ne) = old_ownable h (let c = mid_counts h in let l : times h (positions (live new)) ≡ times h (positions (live mid)) = ap (λ bs. times h (positions bs)) live_is in let o = times-other h (block_of node) (positions
          (live old)) ne in omega arith)

  block_then : IsBlock new node (tag_of Kind.node T) (24 + size table U)
  block_then =
      let k = header_then mid new allocator g.heap ranges writable stored.length_kept beside (block_of node) own_live in
      record { after_header = g.is_block.after_header; live = k.live ∙ g.is_block.live; has_tag = k.has_tag ∙ g.is_block.has_tag; room = let a = k.room in let b = g.is_block.room in omega arith }

  pub entered : Entered allocator old new table T U node key
  entered = record {
    length_kept = stored.length_kept ∙ g.length_kept;
    front_kept = IsSame-trans old mid new 0 24 g.front_kept (low_same mid new allocator g.heap ranges writable stored.length_kept beside 0 24 (omega arith));
    back_kept = IsSame-trans old mid new 28 676 g.back_kept (low_same mid new allocator g.heap ranges writable stored.length_kept beside 28 676 (omega arith));
    heap = heap_same mid new allocator g.heap ranges writable stored.length_kept beside;
    counts = λ h. ap (λ bs. times h (positions bs)) live_is ∙ mid_counts h;
    was_free = g.was_free;
    kept = all_kept;
    ownable = each_live_at (IsOwnable new table) (live new) each_ownable;
    block = block_then;
    value = Holds-kept mid new table valid g.value (stored.others (node + 24) (size table U) (inr (omega arith))) tt;
    key_is = key_is;
    spent_is = more.spent_is refl ∙ ap Some (sym live_is);
  }
