-- One block more waits: its link is written.
use Rattle.std.proofs.Common.{◌≡◌, ◌≢◌, ℕ, ◌+◌, ◌-◌, ◌*◌, ◌^◌, ◌%◌, ◌<◌, ◌≤◌, inl, inr, ⊎_elim, List, ◌∷◌, ◌++◌, length, Option, Some, sym, ap, subst, arith}
use Rattle.std.specs.Prelude.{nat_le}
use Rattle.std.proofs.lemmas.Bool.{cases_eq}
use Rattle.seg_spec.specs.Bytes.{word, IsSame, ChangesOnly}
use Rattle.seg_spec.specs.Pointer.{distance, set_pointer}
use Rattle.seg_spec.specs.Types.{Form, Table, form_at, IsTable}
use Rattle.seg_spec.specs.Heap.{link_at, IsHeap, live, heap_start}
use Rattle.seg_spec.specs.Block.{Kind, block_of, payload_size}
use Rattle.seg_spec.specs.Reads.{Place}
use Rattle.seg_spec.specs.Sound.{times, positions}
use Rattle.seg_spec.specs.Owing.{KeepsWhole, KeepsLinked, OpensBlock, Owes, owes, Waits, none_waits, waits}
use Rattle.seg_spec.proofs.PointerLaws.{target-set_same}
use Rattle.seg_spec.proofs.Values.PlaceFrameLaws.{word-same}
use Rattle.seg_spec.proofs.Heap.LiveBlockLaws.{times-append, times-same, there, each_there, LiesIn, live-lie, live-once}
use Rattle.seg_spec.proofs.Images.RootWriteLaws.{set_number-changes}
use Rattle.seg_spec.proofs.Values.CellChangeLaws.{ChangesOnly-wider}
use Rattle.seg_spec.proofs.Deallocation.WaitingBlockLaws.{push_waits}
use Rattle.seg_spec.proofs.Heap.BlockTagLaws.{labelled_live, labelled_heap, labelled_other}

-- the list of waiting blocks begins with the first one
pub record Begins (p : ℕ) (blocks : List ℕ) : Type 0 where
  pub rest : List ℕ
  pub blocks_are : blocks ≡ block_of p ∷ rest
  pub after_header : 16 ≤ p

module _ (bytes : List ℕ) (table : Table) where
  shown_low : (p : ℕ) (kind : Kind) (T : ℕ) (form : Option Form) (values : List Place) (links : List ℕ) → OpensBlock bytes table p kind T form values links → 16 ≤ p
  shown_low p Kind.object T form values links o = o.0.after_header
  shown_low p Kind.buffer T (Some Form.str) values links o = o.0.after_header
  shown_low p Kind.buffer T (Some (Form.vec U)) values links o = o.0.after_header
  shown_low p Kind.buffer T (Some (Form.flat_map U)) values links o = o.0.after_header
  shown_low p Kind.node T (Some (Form.list U)) values links o = o.0.after_header
  shown_low p Kind.node T (Some (Form.map U)) values links o = o.0.after_header
  shown_low p Kind.frozen T form values links o = o.0.after_header
  shown_low p _ T _ values links o = absurd o

  pub owes_begins : (p : ℕ) (blocks names : List ℕ) → Owes bytes table p blocks names → Begins p blocks
  owes_begins p blocks names (owes kind T values links xs ys ns ms o parts more is names_are) = record { rest = xs ++ ys; blocks_are = is; after_header = shown_low p kind T (form_at table T) values links o }

  -- the first waiting block is freed too, and its payload begins after a header
  pub waits_begins : (q : ℕ) (first : Option ℕ) (blocks names : List ℕ) → first ≡ Some q → Waits bytes table first blocks names → (16 ≤ q) × (1 ≤ times (block_of q) blocks)
  waits_begins q first blocks names e none_waits = absurd (cc)
  waits_begins q first blocks names e (waits {p = p} {xs = xs} {ys = ys} {ns = ns} next o link more) =
      let same : p ≡ q = cc in
      let b = owes_begins p xs ns o in
      let n1 = times-append (block_of p) xs ys in
      let n2 : times (block_of p) xs ≡ times (block_of p) (block_of p ∷ b.rest) = ap (times (block_of p)) b.blocks_are in
      let n3 = times-same (block_of p) b.rest in
      (subst (λ r. 16 ≤ r) same b.after_header, subst (λ r. 1 ≤ times (block_of r) (xs ++ ys)) same (omega arith))

-- the block was put in front of the waiting ones
pub record Pushed (allocator : ℕ) (old new : List ℕ) (table : Table) (p : ℕ) (blocks names : List ℕ) : Type 0 where
  pub heap : IsHeap allocator new
  pub live_kept : live new ≡ live old
  pub others : (k : ℕ) → 1 ≤ times k (positions (live old)) → k ≢ block_of p → KeepsLinked old new k
  pub own : KeepsWhole old new (block_of p)
  pub waiting : Waits new table (Some p) blocks names

module _ (allocator : ℕ) (old : List ℕ) (table : Table) (valid : IsTable table) (heap : IsHeap allocator old) (p : ℕ) (first : Option ℕ) (xs ys ns ms : List ℕ) (o : Owes old table p xs ns)
    (w : Waits old table first ys ms) (owned : (h : ℕ) → times h (xs ++ ys) ≤ times h (positions (live old))) where
  b : Begins p xs
  b = owes_begins old table p xs ns o

  is_live : (h : ℕ) → 1 ≤ times h (xs ++ ys) → 1 ≤ times h (positions (live old))
  is_live h some = omega (arith, owned h)

  mine : 1 ≤ times (block_of p) xs
  mine = let n2 : times (block_of p) xs ≡ times (block_of p) (block_of p ∷ b.rest) = ap (times (block_of p)) b.blocks_are in omega (arith, times-same (block_of p) b.rest)

  own_live : 1 ≤ times (block_of p) (positions (live old))
  own_live = is_live (block_of p) (omega (arith, mine, times-append (block_of p) xs ys))

  lies : (h : ℕ) → 1 ≤ times h (positions (live old)) → LiesIn old heap_start (length old) h
  lies h some = there (LiesIn old heap_start (length old)) h (positions (live old)) (live-lie old allocator heap) some

  new : List ℕ
  new = set_pointer old (block_of p + 12) first

  changes : ChangesOnly old new (block_of p + 8) 8
  unfolding new
  changes = ChangesOnly-wider old (set_pointer old (block_of p + 12) first) (block_of p + 12) 4 (block_of p + 8) 8 (omega arith) (omega arith) (set_number-changes 4 old (block_of p + 12) (distance (block_of p + 12) first))

  link_is : link_at new (block_of p) ≡ first
  unfolding new
  link_is =
      let l = lies (block_of p) own_live in
      target-set_same old (block_of p + 12) first (omega (arith, l.high, l.size)) (omega (arith, l.high, l.size, heap.small)) fine
    where
      fine : (t : ℕ) → first ≡ Some t → (t < 2 ^ 32) × (t ≢ block_of p + 12 + 1)
      fine t e =
          let f = waits_begins old table t first ys ms e w in
          let l = lies (block_of p) own_live in
          let k = lies (block_of t) (is_live (block_of t) (omega (arith, f.1, times-append (block_of t) xs ys))) in
          (omega (arith, f.0, k.high, k.size, heap.small), λ same. omega (arith, f.0, l.aligned, k.aligned))

  own_whole : KeepsWhole old new (block_of p)
  unfolding new
  own_whole =
      let first_word : word new (block_of p) ≡ word old (block_of p) = word-same old new (block_of p) (changes.others (block_of p) 4 (inl (omega arith))) in
      record {
        kept = record {
          live = ap (λ v. nat_le (2 ^ 31) v) first_word;
          has_tag = word-same old new (block_of p + 8) (tag_same);
          room = rw first_word (omega arith);
          payload = changes.others (block_of p + 16) (payload_size old (block_of p)) (inr (omega arith));
        };
        size_kept = ap (λ v. 16 * (v % 2 ^ 31) - 16) first_word;
      }
    where
      tag_same : IsSame old new (block_of p + 8) 4
      tag_same = (set_number-changes 4 old (block_of p + 12) (distance (block_of p + 12) first)).others (block_of p + 8) 4 (inl (omega arith))

  others_kept : (k : ℕ) → 1 ≤ times k (positions (live old)) → k ≢ block_of p → KeepsLinked old new k
  others_kept k some ne = labelled_other old new (block_of p) changes allocator heap own_live k some ne

  pub pushed : Pushed allocator old (set_pointer old (block_of p + 12) first) table p (xs ++ ys) (ns ++ ms)
  unfolding new
  pushed = record {
    heap = labelled_heap old new (block_of p) changes allocator heap own_live;
    live_kept = labelled_live old new (block_of p) changes allocator heap own_live;
    others = others_kept;
    own = own_whole;
    waiting = push_waits old new table valid o w (each_there (KeepsWhole old new) xs one) (each_there (KeepsLinked old new) ys two) link_is;
  }
    where
      one : (h : ℕ) → 1 ≤ times h xs → KeepsWhole old new h
      one h some = ⊎_elim (λ e. subst (λ k. KeepsWhole old new k) (sym e) own_whole) (λ ne. (others_kept h (is_live h (omega (arith, times-append h xs ys))) ne).whole) (cases_eq h (block_of p))

      two : (h : ℕ) → 1 ≤ times h ys → KeepsLinked old new h
      two h some = others_kept h (is_live h (omega (arith, times-append h xs ys))) (λ e.
          let once = live-once old allocator heap (block_of p) in
          let n1 = times-append (block_of p) xs ys in
          let n2 = owned (block_of p) in
          let n3 : 1 ≤ times (block_of p) ys = subst (λ k. 1 ≤ times k ys) e some in
          omega (arith, mine))
