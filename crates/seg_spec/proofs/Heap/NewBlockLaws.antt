-- A block is allocated, gets its tag, and then bytes in it are written.
use Rattle.std.proofs.Common.{◌≡◌, ◌≢◌, ℕ, zero, suc, ◌+◌, ◌-◌, ◌*◌, ◌%◌, ◌^◌, ◌≤◌, ◌<◌, inl, inr, true, false, List, [], ◌∷◌, length, Option, Some, None, MatchOption, option_map, cond, refl, sym, ap, ◌∙◌, subst, arith, min}
use Rattle.std.specs.Prelude.{Contains, slice_index_or, nat_le, nat_lt}
use Rattle.std.proofs.lemmas.Bool.Decides.{nat_tests}
use Rattle.seg_spec.specs.Bytes.{Agrees, word, set_word, IsSame, ChangesOnly}
use Rattle.seg_spec.specs.Header.{free_word, back_start, back_size, KeepsFront, KeepsBack}
use Rattle.seg_spec.specs.Heap.{Span, units_at, link_at, with_block, granted, pick, gaps_of, after_take, IsHeap, live, heap_start, Takes}
use Rattle.seg_spec.specs.Block.{IsBlock, IsInside, payload_size}
use Rattle.seg_spec.specs.Sound.{times, positions}
use Rattle.seg_spec.proofs.BytesLaws.{number-agrees, number-set_same, number-set_other}
use Rattle.seg_spec.proofs.SliceLaws.{IsSame-trans}
use Rattle.seg_spec.proofs.PointerLaws.{target-same}
use Rattle.seg_spec.proofs.Values.PlaceFrameLaws.{word-same}
use Rattle.seg_spec.proofs.Heap.LiveBlockLaws.{times-same, times-with_block, there, LiesIn, live-lie, live-once}
use Rattle.seg_spec.proofs.Heap.KeptBlockLaws.{each_contained, StatesSpan, live_stated, block_kept, front_kept}
use Rattle.seg_spec.proofs.Heap.HeapFrameLaws.{IsHeap-kept, live-kept}
use Rattle.seg_spec.proofs.Heap.BlockWriteLaws.{tiles_kept, KeptBut, live_kept_but}
use Rattle.seg_spec.proofs.Images.RootWriteLaws.{set_number-changes}
use Rattle.seg_spec.proofs.Values.CellChangeLaws.{ChangesOnly-wider}
use Rattle.seg_spec.specs.Owing.{KeepsLinked}
use Rattle.seg_spec.proofs.Heap.BlockTagLaws.{labelled_live, labelled_heap, labelled_other}
use Rattle.seg_spec.proofs.Deallocation.BlockFreeLaws.{found}

-- ---- lists of blocks with one block more

front_in : (b : Span) (bs : List Span) → Contains (b ∷ bs) b
front_in b bs = (0, omega arith, refl)

later_in : (c b : Span) (bs : List Span) → Contains bs b → Contains (c ∷ bs) b
later_in c b bs h = (suc h.0, omega (arith, h.1), h.2)

pub new_in : (b : Span) (bs : List Span) → Contains (with_block b bs) b
new_in b [] = front_in b []
new_in b (c ∷ cs) =
    let rest = later_in c b (with_block b cs) (new_in b cs) in
    elim (nat_lt b.at c.at) as (λ t. Contains (cond t (b ∷ c ∷ cs) (c ∷ with_block b cs)) b) [ true ↦ front_in b (c ∷ cs) | false ↦ rest ]

pub old_in : (b x : Span) (bs : List Span) → Contains bs x → Contains (with_block b bs) x
old_in b x [] h = later_in b x [] h
old_in b x (c ∷ cs) h =
    let rest = kept_in h.0 h.1 h.2 (λ k. old_in b x cs k) in
    elim (nat_lt b.at c.at) as (λ t. Contains (cond t (b ∷ c ∷ cs) (c ∷ with_block b cs)) x) [ true ↦ later_in b x (c ∷ cs) h | false ↦ rest ]
  where
    kept_in : (i : ℕ) → i < length (c ∷ cs) → slice_index_or (c ∷ cs) i x ≡ x → (Contains cs x → Contains (with_block b cs) x) → Contains (c ∷ with_block b cs) x
    kept_in zero l e rest = (0, omega arith, e)
    kept_in (suc i) l e rest = later_in c x (with_block b cs) (rest (i, omega arith, e))

-- ---- the block that was allocated

pub record Took (allocator : ℕ) (old new : List ℕ) (u h : ℕ) : Type 0 where
  pub units : ℕ
  pub enough : u ≤ units
  pub live_are : live new ≡ with_block (record { at = h; units = units }) (live old)
  pub taken_is : after_take allocator (live old) (length old) u ≡ Some (h, live new)
  pub link_is : link_at new h ≡ None

granted_enough : (x u : ℕ) → u ≤ granted x u
granted_enough x u = grind (arith, nat_tests)

abbrev pair_with : ℕ → List Span → Option (ℕ × List Span)
pair_with at bs = Some (at, bs)

abbrev mine : List ℕ → ℕ → Span → ℕ × List Span
mine old u g = (g.at, with_block (record { at = g.at; units = granted g.units u }) (live old))

took_by : (allocator : ℕ) (old new : List ℕ) (u h : ℕ) (o : Option Span) → pick allocator (gaps_of (live old) (length old)) u ≡ o
    → MatchOption {T = ℕ × List Span} (option_map (mine old u) o) ((Some h ≡ None) × (new ≡ old)) (λ r. (Some h ≡ Some r.0) × (live new ≡ r.1) × (link_at new r.0 ≡ None))
    → Took allocator old new u h
took_by allocator old new u h None e t = let none : Some h ≡ None = t.0 in absurd (cc)
took_by allocator old new u h (Some g) e t =
    let some : Some h ≡ Some g.at = t.0 in
    let same : g.at ≡ h = cc in
    let is : live new ≡ with_block (record { at = h; units = granted g.units u }) (live old) = t.1 ∙ ap (λ p. with_block (record { at = p; units = granted g.units u }) (live old)) same in
    record {
      units = granted g.units u;
      enough = granted_enough g.units u;
      live_are = is;
      taken_is = ap (option_map (mine old u)) e ∙ ap (pair_with g.at) (sym t.1) ∙ ap (λ p. pair_with p (live new)) same;
      link_is = rw same at t.2;
    }

pub took : (allocator : ℕ) (old new : List ℕ) (u h : ℕ) → Takes allocator old new u (Some h) → Took allocator old new u h
took allocator old new u h t = took_by allocator old new u h (pick allocator (gaps_of (live old) (length old)) u) refl t.taken

KeepsLinked-trans : (a b c : List ℕ) (k : ℕ) → KeepsLinked a b k → KeepsLinked b c k → KeepsLinked a c k
KeepsLinked-trans a b c k x y = record {
  whole = record {
    kept = record {
      live = y.whole.kept.live ∙ x.whole.kept.live;
      has_tag = y.whole.kept.has_tag ∙ x.whole.kept.has_tag;
      room = omega (arith, x.whole.kept.room, y.whole.kept.room);
      payload = IsSame-trans a b c (k + 16) (payload_size a k) x.whole.kept.payload (rw x.whole.size_kept at y.whole.kept.payload);
    };
    size_kept = y.whole.size_kept ∙ x.whole.size_kept;
  };
  link_kept = y.link_kept ∙ x.link_kept;
}

module _ (allocator u h tag : ℕ) (old taken new : List ℕ) (heap : IsHeap allocator old) (t : Takes allocator old taken u (Some h)) where
  got : Took allocator old taken u h
  got = took allocator old taken u h t

  count_then : (k : ℕ) → times k (positions (live taken)) ≡ times k (h ∷ positions (live old))
  count_then k = ap (λ bs. times k (positions bs)) got.live_are ∙ times-with_block k (record { at = h; units = got.units }) (live old)

  pub was_free : times h (positions (live old)) ≡ 0
  was_free = omega (arith, count_then h, times-same h (positions (live old)), live-once taken allocator t.heap h)

  now_live : 1 ≤ times h (positions (live taken))
  now_live = omega (arith, count_then h, times-same h (positions (live old)))

  still_live : (k : ℕ) → 1 ≤ times k (positions (live old)) → 1 ≤ times k (positions (live taken))
  still_live k some = omega (arith, count_then k)

  other_than : (k : ℕ) → 1 ≤ times k (positions (live old)) → k ≢ h
  other_than k some e = let none = was_free in let mine : 1 ≤ times h (positions (live old)) = subst (λ x. 1 ≤ times x (positions (live old))) e some in omega arith

  kept_first : (k : ℕ) → 1 ≤ times k (positions (live old)) → KeepsLinked old taken k
  kept_first k some =
      let f = found k (live old) some in
      let there_is : Contains (live taken) f.block = subst (λ bs. Contains bs f.block) (sym got.live_are) (old_in (record { at = h; units = got.units }) f.block (live old) f.among) in
      let kept = block_kept old taken allocator allocator f.block f.block heap t.heap t.kept f.among there_is refl (omega arith) in
      let s = each_contained (StatesSpan old (length old)) (live old) f.block (live_stated old allocator heap) f.among in
      let r = each_contained (StatesSpan taken (length taken)) (live taken) f.block (live_stated taken allocator t.heap) there_is in
      let agree = t.kept.blocks_kept f.block f.block f.among there_is refl in
      let two = s.size in
      let whole : min f.block.units f.block.units ≡ f.block.units = omega arith in
      let agrees : Agrees old taken (f.block.at + 8) (f.block.at + 16 * f.block.units) = rw whole at agree in
      let q : KeepsLinked old taken f.block.at = record {
        whole = record { kept = kept; size_kept = ap (λ n. 16 * n - 16) (r.units_is ∙ sym s.units_is) };
        link_kept = target-same old taken (f.block.at + 12) (number-agrees old taken (f.block.at + 8) (f.block.at + 16 * f.block.units) 4 (f.block.at + 12) agrees (omega arith) (omega arith));
      } in
      subst (λ p. KeepsLinked old taken p) f.at_is q

  abbrev pub tagged : List ℕ
  tagged = set_word taken (h + 8) tag

  tag_changes : ChangesOnly taken tagged (h + 8) 8
  tag_changes = ChangesOnly-wider taken (set_word taken (h + 8) tag) (h + 8) 4 (h + 8) 8 (omega arith) (omega arith) (set_number-changes 4 taken (h + 8) tag)

  tag_written : h + 16 ≤ length taken → tag < 2 ^ 32 → word tagged (h + 8) ≡ tag
  tag_written fits small = number-set_same 4 taken (h + 8) tag (omega arith) small

  heap_tagged : IsHeap allocator tagged
  heap_tagged = labelled_heap taken tagged h tag_changes allocator t.heap now_live

  live_tagged : live tagged ≡ live taken
  live_tagged = labelled_live taken tagged h tag_changes allocator t.heap now_live

  -- the block lies in the bytes
  pub block_fits : h + 16 * u ≤ length taken
  block_fits =
      let there_is : Contains (live taken) (record { at = h; units = got.units }) = subst (λ bs. Contains bs (record { at = h; units = got.units })) (sym got.live_are) (new_in (record { at = h; units = got.units }) (live old)) in
      let s = each_contained (StatesSpan taken (length taken)) (live taken) (record { at = h; units = got.units }) (live_stated taken allocator t.heap) there_is in
      omega (arith, got.enough, s.high)

  -- ---- bytes in the block are written

  module _ (at n : ℕ) (low : h + 16 ≤ at) (high : at + n ≤ h + 16 * u) (changes : ChangesOnly tagged new at n) where
    units_taken : units_at taken h ≡ got.units
    units_taken =
        let there_is : Contains (live taken) (record { at = h; units = got.units }) = subst (λ bs. Contains bs (record { at = h; units = got.units })) (sym got.live_are) (new_in (record { at = h; units = got.units }) (live old)) in
        let s = each_contained (StatesSpan taken (length taken)) (live taken) (record { at = h; units = got.units }) (live_stated taken allocator t.heap) there_is in
        s.units_is

    own_first : word tagged h ≡ word taken h
    own_first = word-same taken tagged h (tag_changes.others h 4 (inl (omega arith)))

    units_tagged : units_at tagged h ≡ got.units
    units_tagged = ap (λ w. w % 2 ^ 31) own_first ∙ units_taken

    inside : IsInside tagged h at n
    inside = let e = units_tagged in let more = got.enough in record { low = low; high = omega arith }

    tagged_live : (k : ℕ) → 1 ≤ times k (positions (live taken)) → 1 ≤ times k (positions (live tagged))
    tagged_live k some = rw live_tagged some

    pub new_heap : IsHeap allocator new
    new_heap = IsHeap-kept tagged new allocator heap_tagged (tiles_kept tagged new at n changes allocator heap_tagged h inside (tagged_live h now_live))

    pub new_live : live new ≡ live taken
    new_live = live-kept tagged new allocator heap_tagged (tiles_kept tagged new at n changes allocator heap_tagged h inside (tagged_live h now_live)) ∙ live_tagged

    but : (k : ℕ) → 1 ≤ times k (positions (live tagged)) → KeptBut tagged new at n changes allocator heap_tagged h inside (tagged_live h now_live) k
    but k some = there (KeptBut tagged new at n changes allocator heap_tagged h inside (tagged_live h now_live)) k (positions (live tagged))
        (live_kept_but tagged new at n changes allocator heap_tagged h inside (tagged_live h now_live)) some

    last_kept : (k : ℕ) → 1 ≤ times k (positions (live tagged)) → k ≢ h → KeepsLinked tagged new k
    last_kept k some ne =
        let b = but k some in
        record {
          whole = record { kept = b.kept ne; size_kept = ap (λ u. 16 * u - 16) b.units_kept };
          link_kept = target-same tagged new (k + 12) (word-same tagged new (k + 12) (b.outside (k + 12) 4 (omega arith) (omega arith)));
        }

    -- all blocks that were allocated before are kept with their links
    pub all_kept : (k : ℕ) → 1 ≤ times k (positions (live old)) → KeepsLinked old new k
    all_kept k some =
        let ne = other_than k some in
        KeepsLinked-trans old taken new k (kept_first k some)
        (KeepsLinked-trans taken tagged new k (labelled_other taken tagged h tag_changes allocator t.heap now_live k (still_live k some) ne) (last_kept k (tagged_live k (still_live k some)) ne))

    -- the new block has its tag and room
    pub is_block : (m : ℕ) → m + 16 ≤ 16 * u → h + 16 ≤ length taken → tag < 2 ^ 32 → IsBlock new (h + 16) tag m
    is_block m room fits small =
        let own : h + 16 - 16 ≡ h = omega arith in
        let b = but h (tagged_live h now_live) in
        let l = there (LiesIn taken heap_start (length taken)) h (positions (live taken)) (live-lie taken allocator t.heap) now_live in
        let first : word new h ≡ word tagged h = word-same tagged new h (b.outside h 4 (omega arith) (omega arith)) in
        let written : word tagged (h + 8) ≡ tag = tag_written fits small in
        let units = units_tagged in
        let more = got.enough in
        let kept_units = b.units_kept in
        record {
          after_header = omega arith;
          live = rw own (ap (λ w. nat_le (2 ^ 31) w) (first ∙ own_first) ∙ l.live_is);
          has_tag = rw own (word-same tagged new (h + 8) (b.outside (h + 8) 4 (omega arith) (omega arith)) ∙ written);
          room = rw own (omega arith);
        }

    pub new_length : length new ≡ length old
    new_length = changes.length_kept ∙ tag_changes.length_kept ∙ t.kept.front_kept.length_kept

    low_then : (p m : ℕ) → p + m ≤ heap_start → IsSame old taken p m → IsSame old new p m
    low_then p m fits first =
        let l = there (LiesIn taken heap_start (length taken)) h (positions (live taken)) (live-lie taken allocator t.heap) now_live in
        IsSame-trans old taken new p m first (IsSame-trans taken tagged new p m (tag_changes.others p m (inl (omega (arith, l.low)))) (changes.others p m (inl (omega (arith, l.low)))))

    fits_old : heap_start ≤ length old
    fits_old =
        let l = there (LiesIn taken heap_start (length taken)) h (positions (live taken)) (live-lie taken allocator t.heap) now_live in
        let same = t.kept.front_kept.length_kept in
        omega (arith, l.low, l.high)

    pub new_front : KeepsFront old new
    new_front = low_then 0 free_word (omega arith) (front_kept old taken t.kept fits_old).0

    pub new_back : KeepsBack old new
    new_back = low_then back_start back_size (omega arith) (front_kept old taken t.kept fits_old).1

    pub new_link : link_at new h ≡ None
    new_link =
        let b = but h (tagged_live h now_live) in
        target-same tagged new (h + 12) (word-same tagged new (h + 12) (b.outside (h + 12) 4 (omega arith) (omega arith)))
        ∙ target-same taken tagged (h + 12) (number-set_other 4 4 taken (h + 8) tag (h + 12) (inr (omega arith)))
        ∙ got.link_is

    pub taken_units : after_take allocator (live old) (length old) u ≡ Some (h, live new)
    taken_units = got.taken_is ∙ ap (λ bs. pair_with h bs) (sym new_live)
