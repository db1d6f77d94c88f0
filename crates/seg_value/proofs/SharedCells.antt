-- A cell is made to share the object of another cell, from how the steps change the bytes.
use Rattle.std.proofs.Common.{◌≡◌, ℕ, suc, ◌+◌, ◌^◌, ◌<◌, ◌≤◌, List, [], ◌∷◌, ◌++◌, length, Option, Some, None, refl, sym, ap, ◌∙◌, subst, arith}
use Rattle.std.specs.List.{AllByRecursion}
use Rattle.seg_spec.specs.Bytes.{word, set_word, ChangesOnly}
use Rattle.seg_spec.specs.Pointer.{target, set_pointer}
use Rattle.seg_spec.specs.Types.{Form, Table, form_at, size}
use Rattle.seg_spec.specs.Value.{Value, nil, Empty, node, default_of}
use Rattle.seg_spec.specs.Heap.{IsHeap, live}
use Rattle.seg_spec.specs.Block.{IsPayload, IsInside, IsOwnable, block_of}
use Rattle.seg_spec.specs.Apart.{KeepsBlockAround}
use Rattle.seg_spec.specs.Reads.{Place, shared_label, Holds}
use Rattle.seg_spec.specs.Sound.{times, positions}
use Rattle.seg_spec.specs.Owning.{Stands}
use Rattle.seg_spec.specs.Demand.{after_gives}
use Rattle.seg_spec.specs.Frozen.{Frozen, blocks_by}
use Rattle.seg_spec.specs.Shared.{names_in, named_in, IsBelow, raised, raised_by, left}
use Rattle.seg_spec.specs.Destroying.{AreLive, KeepFrozen}
use Rattle.seg_spec.specs.Clearing.{SharedBeside, BesideShared, ClearsPlace}
use Rattle.seg_spec.proofs.SliceLaws.{IsSame-part}
use Rattle.seg_spec.proofs.Values.PlaceFrameLaws.{word-same, each_right}
use Rattle.seg_spec.proofs.BytesLaws.{number-set_same}
use Rattle.seg_spec.proofs.Images.RootWriteLaws.{set_number-changes}
use Rattle.seg_spec.proofs.PointerLaws.{target-small}
use Rattle.seg_spec.proofs.Values.DefaultLaws.{default-form}
use Rattle.seg_spec.proofs.Heap.BlockFrameLaws.{around_twice}
use Rattle.seg_spec.proofs.Heap.LiveBlockLaws.{times-append, times-other, live-once}
use Rattle.seg_spec.proofs.Frozen.FrozenBlockLaws.{frozen_twice, left_each, left_fewer}
use Rattle.seg_spec.proofs.Frozen.CountDecreaseLaws.{named_positions}
use Rattle.seg_spec.proofs.Frozen.OneMoreCellLaws.{shared}
use Rattle.seg_spec.proofs.Frozen.CountIncreaseLaws.{k, falling_raised, counted_moved, by_raised, own_shared, own_live, count_was, count_inside, count_fits, hold_raised, kept_raised}
use Rattle.seg_spec.proofs.Values.CallPlaceLaws.{Frames, live_at, beside_stands, beside_home, beside_live, beside_frames}
use Rattle.seg_spec.specs.Sharing.{FrozenBeside, cell_count}
use Rattle.seg_value.proofs.SharedCellLaws.{names_by, names_of_cell, SharedCell, shared_cell, pointed}

-- what a call that clears a cell ensures
abbrev pub ClearsCell : ℕ → List ℕ → List ℕ → Table → Place → Type 0
ClearsCell allocator old new table cell = (v : Value) (blocks : List ℕ) (s : Stands allocator old table cell v blocks) →
    BesideShared old table (s.home ∷ blocks) (named_in v) (ClearsPlace old new table cell (default_of table cell.type) blocks [])

module _ (allocator : ℕ) (old : List ℕ) (table : Table) (cell : Place) (T next : ℕ) (f : form_at table cell.type ≡ Some (Form.shared T)) (v : Value) (blocks : List ℕ) (s : Stands allocator old table cell v blocks)
    (theirs : ℕ → List ℕ) (kept : List Place) (now : List Frozen) (b : FrozenBeside old table (s.home ∷ blocks) (names_in v ++ kept) next theirs now) where
  -- the frozen objects after the cell is released
  beside_cell : SharedBeside old table (s.home ∷ blocks) (named_in v) theirs kept now (left (names_in v) now)
  beside_cell = record {
    holds = b.holds;
    ownable = b.ownable;
    owned = b.owned;
    releasing = record { pending = names_in v; pending_are = λ h. ap (times h) (named_positions v); next = next; counted = b.counted; falling = b.falling; leaves = refl };
  }

  -- the cell is cleared, and then points to an object
  pub cell_changed : (mid : List ℕ) (object : Option ℕ) → ((p : ℕ) → object ≡ Some p → IsPayload p × (p < 2 ^ 32)) → ClearsCell allocator old mid table cell
      → ClearsPlace old (set_word (set_pointer mid cell.at object) (cell.at + 4) (cell_count object)) table cell (node (shared_label T object) nil) blocks [] theirs now (left (names_in v) now)
  cell_changed mid object payload clears =
      let empty : default_of table cell.type ≡ Empty = default-form table s.is_table cell.type (Form.shared T) f in
      let c = subst (λ u. ClearsPlace old mid table cell u blocks [] theirs now (left (names_in v) now)) empty (clears v blocks s theirs kept now (left (names_in v) now) beside_cell) in
      pointed allocator old table cell T f v blocks s theirs now (left (names_in v) now) b.owned (λ h. left_fewer theirs (names_in v) now h) mid c object payload

-- ---- the object's count is raised, and then the cell is changed

module _ (allocator : ℕ) (old : List ℕ) (table : Table) (cell : Place) (T next : ℕ) (f : form_at table cell.type ≡ Some (Form.shared T)) (v : Value) (blocks : List ℕ) (s : Stands allocator old table cell v blocks)
    (theirs : ℕ → List ℕ) (kept : List Place) (now : List Frozen) (b : FrozenBeside old table (s.home ∷ blocks) (names_in v ++ kept) next theirs now) (q : Place) (below : IsBelow next now q)
    (few : AllByRecursion (λ f. f.count ≤ length old) now) where
  shares_owned : AreLive old (blocks_by theirs now)
  shares_owned h = omega (arith, b.owned h, times-append h (s.home ∷ blocks) (blocks_by theirs now))

  -- the object's count has room for one more
  pub one_fits : suc (word old q.at) < 2 ^ 32
  one_fits =
      let it = k allocator old table s.is_table s.heap next q (names_in v ++ kept) theirs now b.counted below b.holds shares_owned in
      let was = count_was allocator old table s.is_table s.heap next q (names_in v ++ kept) theirs now b.counted below b.holds shares_owned in
      let few : AllByRecursion (λ f. f.count ≤ length old) (it.before ++ it.object ∷ it.after) = subst (AllByRecursion (λ f. f.count ≤ length old)) it.are few in
      let one = (each_right (λ f. f.count ≤ length old) it.before (it.object ∷ it.after) few).0 in
      omega (arith, s.heap.small)

  abbrev pub more : List ℕ
  more = set_word old q.at (suc (word old q.at))

  fits : q.at + 4 ≤ length old
  fits = count_fits allocator old table s.is_table s.heap next q (names_in v ++ kept) theirs now b.counted below b.holds shares_owned

  changes : ChangesOnly old more q.at 4
  changes = set_number-changes 4 old q.at (suc (word old q.at))

  written : word more q.at ≡ suc (word old q.at)
  written = number-set_same 4 old q.at (suc (word old q.at)) fits one_fits

  own_is_live : 1 ≤ times (block_of q.at) (positions (live old))
  own_is_live = own_live allocator old table s.is_table s.heap next q (names_in v ++ kept) theirs now b.counted below b.holds shares_owned

  own_is_shared : 1 ≤ times (block_of q.at) (blocks_by theirs now)
  own_is_shared = own_shared allocator old table s.is_table s.heap next q (names_in v ++ kept) theirs now b.counted below b.holds shares_owned

  inside : IsInside old (block_of q.at) q.at 4
  inside = count_inside allocator old table s.is_table s.heap next q (names_in v ++ kept) theirs now b.counted below b.holds shares_owned

  apart : times (block_of q.at) (s.home ∷ blocks) ≡ 0
  apart = omega (arith, b.owned (block_of q.at), times-append (block_of q.at) (s.home ∷ blocks) (blocks_by theirs now), own_is_shared, live-once old allocator s.heap (block_of q.at))

  pub stands_more : Stands allocator more table cell v blocks
  stands_more = beside_stands allocator old table cell v blocks s more (block_of q.at) q.at 4 changes inside own_is_live apart

  home_more : stands_more.home ≡ s.home
  unfolding stands_more
  home_more = beside_home allocator old table cell v blocks s more (block_of q.at) q.at 4 changes inside own_is_live apart

  live_more : live more ≡ live old
  live_more = beside_live allocator old table cell v blocks s more (block_of q.at) q.at 4 changes inside own_is_live apart

  frames : Frames old more cell.at (size table cell.type) (block_of q.at ∷ [])
  frames = beside_frames allocator old table cell v blocks s more (block_of q.at) q.at 4 changes inside own_is_live apart (size table cell.type)

  same_shares : (h : ℕ) → times h (blocks_by theirs (raised q.at now)) ≡ times h (blocks_by theirs now)
  same_shares h = by_raised allocator old table s.is_table s.heap next q (names_in v ++ kept) theirs now b.counted below b.holds shares_owned h

  live_there : (h : ℕ) → times h (positions (live more)) ≡ times h (positions (live old))
  live_there h = ap (λ bs. times h (positions bs)) live_more

  pub beside_more : FrozenBeside more table (stands_more.home ∷ blocks) (names_in v ++ q ∷ kept) next theirs (raised q.at now)
  beside_more = record {
    holds = hold_raised allocator old table s.is_table s.heap next q (names_in v ++ kept) theirs now b.counted below b.holds shares_owned more changes written;
    ownable = λ h some. live_at (IsOwnable more table) (live more) h stands_more.ownable (omega (arith, same_shares h, live_there h, shares_owned h));
    owned = λ h.
        let home : times h (stands_more.home ∷ blocks) ≡ times h (s.home ∷ blocks) = ap (λ x. times h (x ∷ blocks)) home_more in
        omega (arith, b.owned h, same_shares h, live_there h, times-append h (s.home ∷ blocks) (blocks_by theirs now), times-append h (stands_more.home ∷ blocks) (blocks_by theirs (raised q.at now)));
    counted = counted_moved next q (names_in v) kept (raised q.at now) (shared next now (names_in v ++ kept) q b.counted below);
    falling = falling_raised q.at now b.falling;
  }

  module _ (new : List ℕ) (w : Value) (final : List Frozen) (final_is : final ≡ left (names_in v) (raised q.at now)) (c : ClearsPlace more new table cell w blocks [] theirs (raised q.at now) final) where
    shared_more : KeepFrozen old more theirs final
    shared_more = subst (KeepFrozen old more theirs) (sym final_is)
        (left_each (λ at. AllByRecursion (KeepsBlockAround old more at 4) (theirs at)) (names_in v) (raised q.at now)
        (kept_raised allocator old table s.is_table s.heap next q (names_in v ++ kept) theirs now b.counted below b.holds shares_owned more changes written))

    not_own : (h : ℕ) → times h (blocks ++ blocks_by theirs now) ≡ 0 → times h (block_of q.at ∷ []) ≡ 0
    not_own h none = times-other h (block_of q.at) [] (λ e.
        let m : 1 ≤ times h (blocks_by theirs now) = subst (λ x. 1 ≤ times x (blocks_by theirs now)) e own_is_shared in absurd (omega (arith, times-append h blocks (blocks_by theirs now))))

    pub shared_now : ClearsPlace old new table cell w blocks [] theirs now final
    shared_now = record {
      gives = c.gives;
      all_are = λ h. omega (arith, c.all_are h, same_shares h, times-append h blocks (blocks_by theirs now), times-append h blocks (blocks_by theirs (raised q.at now)));
      changes = record {
        length_kept = c.changes.length_kept ∙ frames.length_kept;
        front_kept = c.changes.front_kept ∙ frames.front_kept;
        back_kept = c.changes.back_kept ∙ frames.back_kept;
        heap = subst (λ n. IsHeap n new) (word-same old more 16 (IsSame-part old more 0 24 16 4 (omega arith) (omega arith) frames.front_kept)) c.changes.heap;
        ownable = c.changes.ownable;
        holds_it = c.changes.holds_it;
        live_is = c.changes.live_is ∙ ap (λ bs. after_gives bs c.gives) live_more;
        live_are = λ h. omega (arith, c.changes.live_are h, live_there h, same_shares h, times-append h blocks (blocks_by theirs now), times-append h blocks (blocks_by theirs (raised q.at now)));
        kept = λ h some none. around_twice old more new cell.at (size table cell.type) h (frames.kept h some (not_own h none))
            (c.changes.kept h (omega (arith, live_there h)) (omega (arith, none, same_shares h, times-append h blocks (blocks_by theirs now), times-append h blocks (blocks_by theirs (raised q.at now)))));
      };
      shared_kept = frozen_twice old more new theirs final shared_more c.shared_kept;
      holds = c.holds;
    }

-- ---- the whole call

module _ (allocator : ℕ) (old last : List ℕ) (table : Table) (to from : Place) (T next : ℕ) (f : form_at table to.type ≡ Some (Form.shared T)) (g : form_at table from.type ≡ Some (Form.shared T)) (v w : Value) (blocks others : List ℕ)
    (s : Stands allocator old table to v blocks) (h : Holds old table from w others) (theirs : ℕ → List ℕ) (kept : List Place) (now : List Frozen) (b : FrozenBeside old table (s.home ∷ blocks) (names_in v ++ kept) next theirs now)
    (few : AllByRecursion (λ f. f.count ≤ length old) now) where
  from_cell : SharedCell old table from T g w others
  from_cell = shared_cell old table from T g w others h

  abbrev pub IsShared : List ℕ → Value → List Place → Type 0
  IsShared new u names = ClearsPlace old new table to u blocks [] theirs now (left (names_in v) (raised_by names now))

  -- the other cell keeps its target while the count is raised and this cell is cleared
  by_object : (more : List ℕ) (object : Option ℕ) → object ≡ target old from.at → AllByRecursion (IsBelow next now) (names_by T object) → (object ≡ None → more ≡ old) →
      ((p : ℕ) → object ≡ Some p → suc (word old p) < 2 ^ 32 → more ≡ set_word old p (suc (word old p))) → ClearsCell allocator more last table to →
      IsShared (set_word (set_pointer last to.at object) (to.at + 4) (cell_count object)) (node (shared_label T object) nil) (names_by T object)
  by_object more None is below none some clears = cell_changed allocator old table to T next f v blocks s theirs kept now b last None (λ p e. absurd (cc)) (subst (λ bytes. ClearsCell allocator bytes last table to) (none refl) clears)
  by_object more (Some p) is below none some clears =
      let q : Place = record { at = p; type = T } in
      let small = one_fits allocator old table to T next f v blocks s theirs kept now b q below.0 few in
      let clears' = subst (λ bytes. ClearsCell allocator bytes last table to) (some p refl small) clears in
      let payload : (x : ℕ) → Some p ≡ Some x → IsPayload x × (x < 2 ^ 32) = λ x e. (from_cell.payload x (sym is ∙ e), target-small old from.at x (sym is ∙ e)) in
      let s' = stands_more allocator old table to T next f v blocks s theirs kept now b q below.0 few in
      let b' = beside_more allocator old table to T next f v blocks s theirs kept now b q below.0 few in
      let c = cell_changed allocator (set_word old p (suc (word old p))) table to T next f v blocks s' theirs (q ∷ kept) (raised p now) b' last (Some p) payload clears' in
      shared_now allocator old table to T next f v blocks s theirs kept now b q below.0 few (set_word (set_pointer last to.at (Some p)) (to.at + 4) 1) (node (shared_label T (Some p)) nil) (left (names_in v) (raised p now)) refl c

  pub cell_shared : (more new : List ℕ) (here : Table) → here ≡ table → (object : Option ℕ) → object ≡ target old from.at → AllByRecursion (IsBelow next now) (names_in w) → (object ≡ None → more ≡ old) →
      ((p : ℕ) → object ≡ Some p → suc (word old p) < 2 ^ 32 → more ≡ set_word old p (suc (word old p))) → ClearsCell allocator more last here to →
      new ≡ set_word (set_pointer last to.at object) (to.at + 4) (cell_count object) → IsShared new w (names_in w)
  cell_shared more new here same object is below none some clears new_is =
      let w_is : w ≡ node (shared_label T object) nil = from_cell.value_is ∙ ap (λ o. node (shared_label T o) nil) (sym is) in
      let names_are : names_in w ≡ names_by T object = ap names_in w_is ∙ names_of_cell T object in
      let c = by_object more object is (subst (AllByRecursion (IsBelow next now)) names_are below) none some (subst (λ t. ClearsCell allocator more last t to) same clears) in
      subst (λ names. IsShared new w names) (sym names_are) (subst (λ u. IsShared new u (names_by T object)) (sym w_is) (subst (λ bytes. IsShared bytes (node (shared_label T object) nil) (names_by T object)) (sym new_is) c))
