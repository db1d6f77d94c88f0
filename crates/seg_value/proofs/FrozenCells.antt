-- An object was frozen, and a cell is made to point to it.
use Rattle.std.proofs.Common.{◌≡◌, ◌≢◌, ℕ, suc, ◌+◌, ◌-◌, ◌^◌, ◌<◌, ◌≤◌, inl, inr, ⊎_elim, List, [], ◌∷◌, ◌++◌, length, Some, None, sym, ap, ◌∙◌, subst, arith}
use Rattle.std.specs.List.{AllByRecursion}
use Rattle.std.proofs.lemmas.Bool.{cases_eq}
use Rattle.seg_spec.specs.Bytes.{word, set_word}
use Rattle.seg_spec.specs.Header.{back_start, back_size, index_cell, next_word}
use Rattle.seg_spec.specs.Pointer.{set_pointer}
use Rattle.seg_spec.specs.Types.{Form, Table, form_at, size}
use Rattle.seg_spec.specs.Value.{Label, Value, nil, node}
use Rattle.seg_spec.specs.Heap.{IsHeap, live, tag_at, link_at, heap_start}
use Rattle.seg_spec.specs.Block.{Kind, tag_of, IsPayload, IsOwnable, KeepsBlock, block_of, payload_size}
use Rattle.seg_spec.specs.Apart.{Separate, KeepsBlockAround}
use Rattle.seg_spec.specs.Reads.{Place}
use Rattle.seg_spec.specs.Parts.{Persists}
use Rattle.seg_spec.specs.Sound.{HoldsRoot, times, positions}
use Rattle.seg_spec.specs.Owning.{Stands}
use Rattle.seg_spec.specs.Demand.{after_gives}
use Rattle.seg_spec.specs.Frozen.{Frozen, root_of_frozen, blocks_by}
use Rattle.seg_spec.specs.Shared.{names_in, IsBelow, left}
use Rattle.seg_spec.specs.Clearing.{ClearsPlace}
use Rattle.seg_spec.proofs.SliceLaws.{IsSame-part}
use Rattle.seg_spec.proofs.Values.PlaceFrameLaws.{word-same, Persists-kept, each_weaker, each_left, each_right}
use Rattle.seg_spec.proofs.Values.PersistenceLaws.{persists_then}
use Rattle.seg_spec.proofs.Heap.BlockFrameLaws.{kept_twice, around_twice, around_kept}
use Rattle.seg_spec.proofs.Heap.LiveBlockLaws.{times-append, times-same, times-other, there, each_there, LiesIn, live-lie, live-apart, live-once, OneOrApart}
use Rattle.seg_spec.proofs.Frozen.FrozenBlockLaws.{hold_kept, frozen_twice, frozen_kept, left_each, left_fewer}
use Rattle.seg_spec.proofs.Frozen.SharedLaws.{elsewhere}
use Rattle.seg_spec.proofs.Frozen.ReleaseLaws.{IsFrozenThere, frozen_there}
use Rattle.seg_spec.proofs.Frozen.OneMoreObjectLaws.{with_own, by_others, hold_others, keep_others, not_there, stays_left}
use Rattle.seg_spec.proofs.Frozen.OneMoreCellLaws.{one_frozen}
use Rattle.seg_spec.proofs.Frozen.CountIncreaseLaws.{counted_moved}
use Rattle.seg_spec.proofs.Values.CallPlaceLaws.{each_live_at, live_at, stands_still, still_home}
use Rattle.seg_spec.specs.Sharing.{FrozenBeside, frozen_now, with_blocks, MovesFrozen, Freezes, FreezesParts}
use Rattle.seg_cells.specs.Places.{object_at}
use Rattle.seg_value.specs.Sharing.{MovesParts}
use Rattle.seg_value.proofs.SharedCells.{ClearsCell, cell_changed}

rest_is : {x y : ℕ} {xs ys : List ℕ} → x ∷ xs ≡ y ∷ ys → ys ≡ xs
rest_is e = cc

module _ (allocator : ℕ) (old mid : List ℕ) (table : Table) (cell : Place) (T object p : ℕ) (f : form_at table cell.type ≡ Some (Form.shared T)) (v w : Value) (blocks inside : List ℕ)
    (theirs : ℕ → List ℕ) (kept : List Place) (now : List Frozen)
    (s : Stands allocator old table cell v blocks) (b : FrozenBeside old table (s.home ∷ (blocks ++ block_of object ∷ inside)) (names_in w ++ (names_in v ++ kept)) (word old next_word) theirs now)
    (allowed : (bytes : List ℕ) (h : ℕ) → tag_at bytes h ≡ tag_of Kind.frozen T → link_at bytes h ≡ None → IsOwnable bytes table h) (move : MovesParts allocator old mid table T object w inside p) where
  abbrev m : MovesFrozen allocator old mid table T object w inside p
  m = move.0

  abbrev own : ℕ
  own = block_of p

  abbrev gone : ℕ
  gone = block_of object

  abbrev shares : List ℕ
  shares = blocks_by theirs now

  abbrev number : ℕ
  number = word old next_word

  abbrev now_there : List Frozen
  now_there = frozen_now p T (word old next_word) w ∷ now

  abbrev theirs_there : ℕ → List ℕ
  theirs_there = with_blocks p (block_of p ∷ inside) theirs

  counts : (h : ℕ) → times h (s.home ∷ []) + times h blocks + times h (gone ∷ []) + times h inside + times h shares ≤ times h (positions (live old))
  counts h = omega (arith, b.owned h, times-append h (s.home ∷ (blocks ++ gone ∷ inside)) shares, times-append h blocks (gone ∷ inside))

  once : (h : ℕ) → times h (positions (live old)) ≤ 1
  once h = live-once old allocator s.heap h

  gone_once : times gone (gone ∷ []) ≡ 1
  gone_once = times-same (block_of object) []

  -- a block that is owned elsewhere isn't the object's
  not_gone : (h : ℕ) → 1 ≤ times h (s.home ∷ []) + times h blocks + times h inside + times h shares → h ≢ gone
  not_gone h some e =
      let z : times h (gone ∷ []) ≡ 1 = subst (λ x. times x (gone ∷ []) ≡ 1) (sym e) gone_once in
      absurd (omega (arith, counts h, once h))

  kept_mid : (h : ℕ) → 1 ≤ times h (s.home ∷ []) + times h blocks + times h inside + times h shares → KeepsBlock old mid h
  kept_mid h some = (m.kept h (omega (arith, counts h)) (not_gone h some)).0

  live_mid : (h : ℕ) → times h (positions (live mid)) + times h (gone ∷ []) ≡ times h (positions (live old)) + times h (own ∷ [])
  live_mid h = m.live_are h

  ownable_at : (h : ℕ) → 1 ≤ times h (positions (live mid)) → IsOwnable mid table h
  ownable_at h some = ⊎_elim
      (λ e. subst (IsOwnable mid table) e (allowed mid (block_of p) tag m.link_is))
      (λ ne.
      let no_own = times-other h (block_of p) [] ne in
      let alive : 1 ≤ times h (positions (live old)) = omega (arith, live_mid h) in
      let apart : h ≢ gone = λ e. let z : times h (gone ∷ []) ≡ 1 = subst (λ x. times x (gone ∷ []) ≡ 1) (sym e) gone_once in absurd (omega (arith, live_mid h, once h)) in
      let k = m.kept h alive apart in
      let o = live_at (IsOwnable old table) (live old) h s.ownable alive in
      record { kind = o.kind; type = o.type; allowed = o.allowed; tag_is = k.0.has_tag ∙ o.tag_is; link_is = k.1 ∙ o.link_is })
      (cases_eq (block_of p) h)
    where
      tag : tag_at mid (block_of p) ≡ tag_of Kind.frozen T
      tag = (frozen_there mid table (frozen_now p T (word old next_word) w) (block_of p ∷ inside) m.holds_it).block.has_tag

  pub stands_mid : Stands allocator mid table cell v blocks
  stands_mid = stands_still allocator old table cell v blocks s mid m.heap m.front_kept (λ h some. kept_mid h (omega (arith, some))) (each_live_at (IsOwnable mid table) (live mid) ownable_at)
      (λ h. omega (arith, counts h, live_mid h))

  home_mid : stands_mid.home ≡ s.home
  unfolding stands_mid
  home_mid = still_home allocator old table cell v blocks s mid m.heap m.front_kept (λ h some. kept_mid h (omega (arith, some))) (each_live_at (IsOwnable mid table) (live mid) ownable_at)
      (λ h. omega (arith, counts h, live_mid h))

  -- the other frozen objects have other positions
  apart : AllByRecursion (λ (g : Frozen). g.at ≢ p) now
  apart = not_there old table theirs p now (omega (arith, m.was_free, counts (block_of p))) b.holds

  apart_left : AllByRecursion (λ (g : Frozen). g.at ≢ p) (left (names_in v) now)
  apart_left = left_each (λ at. at ≢ p) (names_in v) now apart

  by_now : (h : ℕ) → times h (blocks_by theirs_there now_there) ≡ times h (own ∷ inside) + times h shares
  by_now h =
      let first : times h (theirs_there p) ≡ times h (own ∷ inside) = ap (times h) (with_own p (own ∷ inside) theirs) in
      let rest : times h (blocks_by theirs_there now) ≡ times h shares = ap (times h) (by_others p (own ∷ inside) theirs now apart) in
      omega (arith, times-append h (theirs_there p) (blocks_by theirs_there now))

  by_left : (h : ℕ) → times h (blocks_by theirs_there (frozen_now p T (word old next_word) w ∷ left (names_in v) now)) ≡ times h (own ∷ inside) + times h (blocks_by theirs (left (names_in v) now))
  by_left h =
      let first : times h (theirs_there p) ≡ times h (own ∷ inside) = ap (times h) (with_own p (own ∷ inside) theirs) in
      let rest : times h (blocks_by theirs_there (left (names_in v) now)) ≡ times h (blocks_by theirs (left (names_in v) now)) = ap (times h) (by_others p (own ∷ inside) theirs (left (names_in v) now) apart_left) in
      omega (arith, times-append h (theirs_there p) (blocks_by theirs_there (left (names_in v) now)))

  names_below : AllByRecursion (IsBelow (word old next_word) now) (names_in v)
  names_below = each_left (IsBelow (word old next_word) now) (names_in v) kept (each_right (IsBelow (word old next_word) now) (names_in w) (names_in v ++ kept) b.counted.named)

  left_is : left (names_in v) now_there ≡ frozen_now p T (word old next_word) w ∷ left (names_in v) now
  left_is = stays_left p T (word old next_word) w (names_in v) now (elsewhere p (word old next_word) now (names_in v) apart names_below)

  pub beside_mid : FrozenBeside mid table (stands_mid.home ∷ blocks) (names_in v ++ record { at = p; type = T } ∷ kept) (suc (word old next_word)) theirs_there now_there
  beside_mid = record {
    holds = (
      subst (HoldsRoot mid table (root_of_frozen (frozen_now p T (word old next_word) w))) (sym (with_own p (own ∷ inside) theirs)) m.holds_it,
      hold_others p (own ∷ inside) theirs mid table now apart (hold_kept old mid table s.is_table theirs now (λ h some. kept_mid h (omega (arith, some))) b.holds),
    );
    ownable = λ h some. ownable_at h (omega (arith, some, by_now h, counts h, live_mid h));
    owned = λ h.
        let home : times h (stands_mid.home ∷ blocks) ≡ times h (s.home ∷ blocks) = ap (λ x. times h (x ∷ blocks)) home_mid in
        omega (arith, counts h, live_mid h, by_now h, times-append h (stands_mid.home ∷ blocks) (blocks_by theirs_there now_there));
    counted = counted_moved (suc (word old next_word)) (record { at = p; type = T }) (names_in v) kept now_there (one_frozen (word old next_word) p T w now (names_in v ++ kept) apart b.counted);
    falling = (each_weaker (λ (g : Frozen). g.number < word old next_word) (λ (g : Frozen). g.number ≤ word old next_word) (λ g l. omega arith) now b.counted.numbered, b.falling);
  }

  own_mid : 1 ≤ times own (positions (live mid))
  own_mid =
      let free = m.was_free in
      omega (
        arith,
        live_mid (block_of p),
        times-same (block_of p) [],
        times-other (block_of p) (block_of object) [] (λ e.
            let z : times (block_of p) (gone ∷ []) ≡ 1 = subst (λ x. times x (gone ∷ []) ≡ 1) e gone_once in absurd (omega (arith, counts (block_of p)))),
      )

  lies_mid : (h : ℕ) → 1 ≤ times h (positions (live mid)) → LiesIn mid heap_start (length mid) h
  lies_mid h some = there (LiesIn mid heap_start (length mid)) h (positions (live mid)) (live-lie mid allocator m.heap) some

  payload_there : (x : ℕ) → Some p ≡ Some x → IsPayload x × (x < 2 ^ 32)
  payload_there x e =
      let is : p ≡ x = cc in
      let l = lies_mid (block_of p) own_mid in
      let low = l.low in
      let even = l.aligned in
      let high = l.high in
      let large = l.size in
      let few = m.heap.small in
      (record { low = omega arith; aligned = omega arith }, omega arith)

  it : IsFrozenThere mid table (frozen_now p T (word old next_word) w) (block_of p ∷ inside)
  it = frozen_there mid table (frozen_now p T (word old next_word) w) (block_of p ∷ inside) m.holds_it

  -- a block inside the object is kept while the cell changes
  inside_there : (new : List ℕ) (h : ℕ) → 1 ≤ times h inside → KeepsBlockAround mid new p 4 h → KeepsBlock mid new h
  inside_there new h some k =
      let mine = counts h in
      let there_is : 1 ≤ times h (positions (live mid)) = let ne = times-other h (block_of object) [] (λ e. not_gone h (omega arith) (sym e)) in omega (arith, live_mid h) in
      let other : h ≢ own = λ e. let z : times h (positions (live old)) ≡ 0 = subst (λ x. times x (positions (live old)) ≡ 0) (sym e) m.was_free in absurd (omega arith) in
      let pair = there (OneOrApart mid (block_of p)) h (positions (live mid)) (there (λ t. AllByRecursion (OneOrApart mid t) (positions (live mid))) (block_of p) (positions (live mid)) (live-apart mid allocator m.heap) own_mid) there_is in
      record { live = k.header.live; has_tag = k.header.has_tag; room = k.header.room; payload = k.payload (h + 16) (payload_size mid h) (omega arith) (omega arith) (off other (lies_mid h there_is) pair) }
    where
      off : h ≢ own → LiesIn mid heap_start (length mid) h → OneOrApart mid (block_of p) h → Separate (h + 16) (payload_size mid h) p 4
      off ne l (inl e) = absurd (ne e)
      off ne l (inr (inl before)) = let room = it.block.room in let low = it.block.after_header in inr (omega arith)
      off ne l (inr (inr following)) = let low = it.block.after_header in inl (omega (arith, l.size))

  module _ (last : List ℕ) (clears : ClearsCell allocator mid last table cell) where
    new : List ℕ
    new = set_word (set_pointer last cell.at (Some p)) (cell.at + 4) 1

    c : ClearsPlace mid new table cell (node (Label.shared T p) nil) blocks [] theirs_there now_there (frozen_now p T (word old next_word) w ∷ left (names_in v) now)
    unfolding new
    c = subst (ClearsPlace mid (set_word (set_pointer last cell.at (Some p)) (cell.at + 4) 1) table cell (node (Label.shared T p) nil) blocks [] theirs_there now_there) left_is
        (cell_changed allocator mid table cell T (suc (word old next_word)) f v blocks stands_mid theirs_there (record { at = p; type = T } ∷ kept) now_there beside_mid last (Some p) payload_there clears)

    all_are : (h : ℕ) → times h blocks + times h shares ≡ times h c.gives + times h (blocks_by theirs (left (names_in v) now))
    all_are h = omega (arith, c.all_are h, by_now h, by_left h, times-append h blocks (blocks_by theirs_there now_there), times-append h c.gives (blocks_by theirs_there (frozen_now p T (word old next_word) w ∷ left (names_in v) now)))

    alive_mid : (h : ℕ) → 1 ≤ times h (positions (live old)) → times h (gone ∷ []) ≡ 0 → 1 ≤ times h (positions (live mid))
    alive_mid h some none = omega (arith, live_mid h)

    around : AllByRecursion (KeepsBlockAround mid new p 4) (own ∷ inside)
    around = subst (AllByRecursion (KeepsBlockAround mid new p 4)) (with_own p (own ∷ inside) theirs) c.shared_kept.0

    inside_still : (h : ℕ) → 1 ≤ times h inside → KeepsBlock mid new h
    inside_still h some = inside_there new h some (there (KeepsBlockAround mid new p 4) h inside around.1 some)

    -- the value stays where it was moved to
    stays : Persists mid new table (object_at (p + 8) T) (object_at (p + 8) T)
    stays =
        let room = it.block.room in
        let low = it.block.after_header in
        Persists-kept mid new table s.is_table it.value (around.0.payload (p + 8) (size table T) (omega arith) (omega (arith, room)) (inr (omega arith)))
        (each_there (KeepsBlock mid new) it.inside (λ h some. inside_still h (let same : it.inside ≡ inside = rest_is it.blocks_are in subst (λ hs. 1 ≤ times h hs) same some)))

    made : Freezes allocator old (set_word (set_pointer last cell.at (Some p)) (cell.at + 4) 1) table cell T object w inside blocks (names_in v) theirs now
    unfolding new
    made = record {
      length_kept = c.changes.length_kept ∙ m.length_kept;
      front_kept = c.changes.front_kept ∙ m.front_kept;
      next_is = word-same mid new next_word (IsSame-part mid new back_start back_size next_word 4 (omega arith) (omega arith) c.changes.back_kept) ∙ m.next_is;
      back_kept = IsSame-part mid new back_start back_size index_cell (heap_start - index_cell) (omega arith) (omega arith) c.changes.back_kept ∙ m.back_kept;
      heap = subst (λ n. IsHeap n new) (word-same old mid 16 (IsSame-part old mid 0 24 16 4 (omega arith) (omega arith) m.front_kept)) c.changes.heap;
      ownable = c.changes.ownable;
      payload = p;
      was_free = m.was_free;
      holds_it = c.changes.holds_it;
      holds = c.holds;
      gives = c.gives;
      all_are = λ h. omega (arith, all_are h, times-append h blocks shares, times-append h c.gives (blocks_by theirs (left (names_in v) now)));
      spans = m.spans;
      granted_is = m.granted_is;
      live_is = c.changes.live_is ∙ ap (λ bs. after_gives bs c.gives) m.live_is;
      live_are = λ h. omega (arith, c.changes.live_are h, live_mid h, all_are h, by_now h, by_left h, times-append h blocks (blocks_by theirs_there now_there));
      kept = λ h some none.
          let parts = times-append h (gone ∷ inside) (blocks ++ shares) in
          let both = times-append h blocks shares in
          let ne : h ≢ gone = λ e. let z : times h (gone ∷ []) ≡ 1 = subst (λ x. times x (gone ∷ []) ≡ 1) (sym e) gone_once in absurd (omega arith) in
          let free = times-other h (block_of p) [] (λ e. let z : times h (positions (live old)) ≡ 0 = subst (λ x. times x (positions (live old)) ≡ 0) e m.was_free in absurd (omega arith)) in
          let solid = (there (LiesIn old heap_start (length old)) h (positions (live old)) (live-lie old allocator s.heap) some).size in
          around_twice old mid new cell.at (size table cell.type) h (around_kept old mid cell.at (size table cell.type) h (omega (arith, solid)) (m.kept h some ne).0)
          (c.changes.kept h (alive_mid h some (omega arith)) (omega (arith, by_now h, times-append h blocks (blocks_by theirs_there now_there))));
      inside_kept = each_there (KeepsBlock old new) inside (λ h some. kept_twice old mid new h (kept_mid h (omega (arith, some))) (inside_still h some));
      shared_kept = frozen_twice old mid new theirs (left (names_in v) now)
          (frozen_kept allocator old mid s.heap theirs (left (names_in v) now) (λ h some. omega (arith, some, left_fewer theirs (names_in v) now h, counts h))
          (λ h some. kept_mid h (omega (arith, some, left_fewer theirs (names_in v) now h))))
          (keep_others p (own ∷ inside) theirs mid new (left (names_in v) now) apart_left c.shared_kept.1);
    }

    pub freezes : FreezesParts allocator old (set_word (set_pointer last cell.at (Some p)) (cell.at + 4) 1) table cell T object w inside blocks (names_in v) theirs now
    unfolding new made
    freezes = (made, persists_then old mid new table move.1 stays)

-- the same call, for an equal type
pub moved_as : (allocator : ℕ) (old mid : List ℕ) (table : Table) (t T object p : ℕ) (w : Value) (inside : List ℕ) → t ≡ T → MovesParts allocator old mid table t object w inside p → MovesParts allocator old mid table T object w inside p
moved_as allocator old mid table t T object p w inside e m = subst (λ x. MovesParts allocator old mid table x object w inside p) e m
