-- A key is added to a flat map, or removed, from how the steps of the calls change the bytes.
use Rattle.std.proofs.Common.{◌≡◌, ◌≢◌, ℕ, zero, suc, ◌+◌, ◌-◌, ◌*◌, ◌%◌, ◌^◌, ◌<◌, ◌≤◌, inl, inr, ⊎_elim, ℤ, Bool, true, false, List, [], ◌∷◌, ◌++◌, length, map, Some, None, Result, Ok, refl, sym, ap, ◌∙◌, subst, arith}
use Rattle.std.specs.Prelude.{insert, remove, int_lt, unwrap_or, slice_get}
use Rattle.std.specs.List.{AllByRecursion}
use Rattle.std.proofs.Math.Nat.{zero-mul, mul-le-mul_right}
use Rattle.std.proofs.lemmas.List.Sums.{count_by-le-length}
use Rattle.seg_spec.specs.Bytes.{signed, signed_long, ChangesOnly, IsSame}
use Rattle.seg_spec.specs.Types.{Form, Table, form_at, size}
use Rattle.seg_spec.specs.Value.{Value, Values, nil, cons, Map, IsAscending, Selector, nth, change_nth, default_of, with_value_at}
use Rattle.seg_spec.specs.Heap.{live}
use Rattle.seg_spec.specs.Block.{IsInside, block_of}
use Rattle.seg_spec.specs.Reads.{Place, count_at, named, start, spaced, places_of, keys_at, Holds, HoldsEach, Leads}
use Rattle.seg_spec.specs.Parts.{PartsStay, KeepsParts}
use Rattle.seg_spec.specs.Apart.{Separate, ComesApart}
use Rattle.seg_spec.specs.Cells.{IsWithin}
use Rattle.seg_spec.specs.Sound.{times}
use Rattle.seg_spec.specs.Frozen.{Frozen, blocks_by}
use Rattle.seg_spec.specs.Shared.{named_in}
use Rattle.seg_spec.specs.Destroying.{AreLive}
use Rattle.seg_spec.specs.Clearing.{SharedBeside, BesideShared, ClearsPlace}
use Rattle.seg_spec.specs.Items.{key_place, keys_below, insert_nth, remove_nth, without_entry}
use Rattle.seg_spec.specs.Roots.{ChangesPlace}
use Rattle.seg_spec.specs.Owning.{Stands}
use Rattle.seg_spec.specs.Demand.{Ask}
use Rattle.seg_spec.specs.Spending.{PlaceBlocks}
use Rattle.seg_spec.specs.Growing.{Succeeds}
use Rattle.seg_spec.proofs.BytesLaws.{number-slice}
use Rattle.seg_spec.proofs.Values.PlaceFrameLaws.{cell-target, cell-count}
use Rattle.seg_spec.proofs.SliceLaws.{IsSame-part}
use Rattle.seg_spec.proofs.Tables.TypeSizeLaws.{size_large}
use Rattle.seg_spec.proofs.Values.CellChangeLaws.{ChangesOnly-wider, size_aligned}
use Rattle.seg_spec.proofs.Heap.LiveBlockLaws.{times-same, times-append}
use Rattle.seg_spec.proofs.Values.PathSplitLaws.{Middle, middle}
use Rattle.seg_spec.proofs.Values.BufferLaws.{parts_stay}
use Rattle.seg_spec.proofs.Values.PersistenceLaws.{parts_around, parts_again}
use Rattle.seg_value.proofs.Runs.{Run, run_values, run_long, runs_joined, each_run, parts, the_one}
use Rattle.seg_spec.proofs.Values.OneValueLaws.{Holds-one}
use Rattle.seg_cells.specs.Entries.{IsEntryOf}
use Rattle.seg_value.specs.Entries.{OpensEntry, ClosesEntry, flat_asks, flat_value}
use Rattle.seg_cells.specs.Places.{object_at, place_of}
use Rattle.seg_cells.specs.declared.place.Place as code
use Rattle.seg_cells.specs.declared.entry.Entry.{Entry}
use Rattle.seg_spec.specs.Shrinking.{KeepsPathsInside}
use Rattle.seg_map.specs.Maps.{value_of, AddsKey, PutsKey, TakesKey, RemovesKey, KeepsLowerKeys}
use Rattle.seg_map.proofs.KeyLaws.{stands_before, still_there, parted_missing, inserted_place, inserted_ascends, place_below}
use Rattle.seg_map.proofs.FlatMaps.{goes_on, goes_through, HasBuffer, has_buffer, entry_small, its, holds_each, length_is, value_leads, ascending, key_leads, held_leads, held_opened, held_opens, held_part}
use Rattle.seg_spec.proofs.Values.PartClearLaws as part

-- ---- a key is added

changes_twice : (a b c : List ℕ) (at n : ℕ) → ChangesOnly a b at n → ChangesOnly b c at n → ChangesOnly a c at n
changes_twice a b c at n x y = record { length_kept = y.length_kept ∙ x.length_kept; others = λ p m apart. y.others p m apart ∙ x.others p m apart }

module _ (allocator : ℕ) (old opened stored new : List ℕ) (table : Table) (place : Place) (U : ℕ) (keys : List ℤ) (vs : Values) (blocks : List ℕ) (f : form_at table place.type ≡ Some (Form.flat_map U))
    (s : Stands allocator old table place (Map keys vs) blocks) (entry : Entry) (e : IsEntryOf table 8 U entry) (key : ℤ) (index at : ℕ) (asks : List Ask) (others : List ℕ)
    (missing : key_place keys key ≡ None) (index_is : index ≡ keys_below keys key)
    (at_is : at ≡ start opened place.at + index * (8 + size table U)) (within : IsWithin opened at (8 + size table U)) (apart : Separate at (8 + size table U) place.at (size table place.type))
    (becomes : (written : List ℕ) (w : Value) → ChangesOnly opened written at (8 + size table U) → IsAscending (insert keys index (signed_long written at)) →
    Holds written table (value_of U (start opened place.at + index * (8 + size table U) + 8)) w [] →
    Succeeds allocator old written table place (Map (insert keys index (signed_long written at)) (insert_nth vs index w)) asks [] blocks others)
    (stay : (written : List ℕ) (w : Value) → ChangesOnly opened written at (8 + size table U) → IsAscending (insert keys index (signed_long written at)) →
    Holds written table (value_of U (start opened place.at + index * (8 + size table U) + 8)) w [] → KeepsParts old written table place index 0 1) where
  eight : 8 ≤ size table place.type
  eight = size_large table s.is_table place.type

  module _ (value : Place) (changes : ChangesOnly opened stored at 8) (key_is : signed_long stored at ≡ key) (value_at : value.at ≡ at + 8) (value_type : value.type ≡ U)
      (filled : ChangesOnly stored new value.at (size table value.type)) (holds_it : Holds new table value (default_of table value.type) []) where
    all_changes : ChangesOnly opened new at (8 + size table U)
    all_changes = changes_twice opened stored new at (8 + size table U) (ChangesOnly-wider opened stored at 8 at (8 + size table U) (omega arith) (omega arith) changes)
        (let sizes : size table value.type ≡ size table U = ap (size table) value_type in ChangesOnly-wider stored new value.at (size table value.type) at (8 + size table U) (omega arith) (omega arith) filled)

    new_key : signed_long new at ≡ key
    new_key = ap signed (number-slice 8 stored new at at (filled.others at 8 (inl (omega arith)))) ∙ key_is

    value_is : value ≡ value_of U (start opened place.at + index * (8 + size table U) + 8)
    value_is = same value (value_at ∙ ap (λ p. p + 8) at_is) value_type
      where
        same : (p : Place) {a b : ℕ} → p.at ≡ a → p.type ≡ b → p ≡ record { at = a; type = b }
        same p x y = rw (sym x, sym y) refl

    ascends : IsAscending (insert keys index (signed_long new at))
    ascends = rw new_key (inserted_ascends keys key index (parted_missing keys key index (ascending allocator old table place U keys vs blocks f s) missing index_is) (ascending allocator old table place U keys vs blocks f s))

    fresh : Holds new table (value_of U (start opened place.at + index * (8 + size table U) + 8)) (default_of table U) []
    fresh = subst (λ p. Holds new table p (default_of table U) []) value_is (subst (λ t. Holds new table value (default_of table t) []) value_type holds_it)

    came_at : Succeeds allocator old new table place (Map (insert keys index key) (insert_nth vs index (default_of table U))) asks [] blocks others
    came_at =
        let c = becomes new (default_of table U) all_changes ascends fresh in
        subst (λ x. Succeeds allocator old new table place (Map (insert keys index x) (insert_nth vs index (default_of table U))) asks [] blocks others) new_key c

    start_same : start new place.at ≡ start opened place.at
    start_same =
        let same : IsSame opened new place.at 8 = all_changes.others place.at 8 (⊎_elim (λ l. inr l) (λ l. let k = eight in inl (omega arith)) apart) in
        ap (λ t. unwrap_or t 0) (cell-target opened new place.at same)

    leads : Leads new table place (Selector.key key ∷ []) (value_of U (start new place.at + index * (8 + size table U) + 8))
    leads =
        held_leads new table place U (insert keys index key) (insert_nth vs index (default_of table U)) others f came_at.changes.holds_it key index
        (inserted_place keys key index (parted_missing keys key index (ascending allocator old table place U keys vs blocks f s) missing index_is))

    pub added : (p : ℕ) → p ≡ at + 8 → AddsKey allocator old new table place U keys vs key blocks asks p
    added p p_is = record {
      others = others;
      succeeds = subst (λ i. Succeeds allocator old new table place (Map (insert keys i key) (insert_nth vs i (default_of table U))) asks [] blocks others) index_is came_at;
      parts = subst (λ i. KeepsParts old new table place i 0 1) index_is (stay new (default_of table U) all_changes ascends fresh);
      stands_at =
          let same : p ≡ start new place.at + index * (8 + size table U) + 8 = p_is ∙ ap (λ q. q + 8) at_is ∙ ap (λ q. q + index * (8 + size table U) + 8) (sym start_same) in
          subst (λ q. Leads new table place (Selector.key key ∷ []) (value_of U q)) (sym same) leads;
    }

pub index_fits : (allocator : ℕ) (bytes : List ℕ) (table : Table) (place : Place) (U : ℕ) (keys : List ℤ) (vs : Values) (blocks : List ℕ) → form_at table place.type ≡ Some (Form.flat_map U)
    → Stands allocator bytes table place (Map keys vs) blocks → (key : ℤ) (index : ℕ) → index ≡ keys_below keys key → index ≤ count_at bytes place.at
index_fits allocator bytes table place U keys vs blocks f s key index is =
    let few = count_by-le-length (λ x. int_lt x key) keys in
    let long = length_is allocator bytes table place U keys vs blocks f s in
    omega arith

-- the steps as the code performs them
module _ (allocator : ℕ) (old opened stored new : List ℕ) (table here : Table) (same : here ≡ table) (cell T U : ℕ) (keys : List ℤ) (vs : Values) (blocks : List ℕ)
    (f : form_at table T ≡ Some (Form.flat_map U)) (s : Stands allocator old table (object_at cell T) (Map keys vs) blocks) (entry : Entry) (e : IsEntryOf table 8 U entry) (key passed : ℤ) (back : passed ≡ key)
    (index at : ℕ) (missing : key_place keys key ≡ None) (index_is : index ≡ keys_below keys key) (o : OpensEntry allocator old opened table (object_at cell T) U keys vs blocks index at)
    (changes : ChangesOnly opened stored at 8) (key_is : at + 8 ≤ length opened → signed_long stored at ≡ passed) where
  value_at : (at + 0 * entry.size + entry.before) % 2 ^ 32 ≡ at + 8
  value_at = let before = e.before_is in let fits = o.within.fits in let small = o.within.small in let none : 0 * entry.size ≡ 0 = zero-mul entry.size in omega arith

  pub inserted : (value : code.Place) (p : ℕ) → Some value ≡ Some (record { at = (at + 0 * entry.size + entry.before) % 2 ^ 32; type_id = U })
      → (IsWithin stored value.at (size here value.type_id) → ChangesOnly stored new value.at (size here value.type_id))
      → (IsWithin stored value.at (size here value.type_id) → value.type_id < length here → Holds new here (place_of value) (default_of here value.type_id) [])
      → p ≡ (at + 0 * entry.size + entry.before) % 2 ^ 32 → AddsKey allocator old new table (object_at cell T) U keys vs key blocks (flat_asks old table cell U) p
  inserted value p value_is fills holds_it p_is =
      let at_is : value.at ≡ at + 8 = ap (λ (v : code.Place). v.at) (known value (record { at = (at + 0 * entry.size + entry.before) % 2 ^ 32; type_id = U }) value_is) ∙ value_at in
      let type_is : value.type_id ≡ U = ap (λ (v : code.Place). v.type_id) (known value (record { at = (at + 0 * entry.size + entry.before) % 2 ^ 32; type_id = U }) value_is) in
      let sizes : size here value.type_id ≡ size table U = ap (λ t. size t value.type_id) same ∙ ap (size table) type_is in
      let within : IsWithin stored value.at (size here value.type_id) = record { fits = omega (arith, o.within.fits, changes.length_kept); small = omega (arith, o.within.small, changes.length_kept) } in
      let below : value.type_id < length here = let t = s.is_table.forms T (Form.flat_map U) f in let l = ap length same in omega arith in
      let filled : ChangesOnly stored new value.at (size table value.type_id) = subst (λ t. ChangesOnly stored new value.at (size t value.type_id)) same (fills within) in
      let held : Holds new table (place_of value) (default_of table value.type_id) [] = subst (λ t. Holds new t (place_of value) (default_of t value.type_id) []) same (holds_it within below) in
      added allocator old opened stored new table (object_at cell T) U keys vs blocks f s entry e key index at (flat_asks old table cell U) o.others missing index_is o.at_is o.within o.apart o.becomes o.parts
      (place_of value) changes (key_is (omega (arith, o.within.fits)) ∙ back) at_is type_is filled held p (p_is ∙ value_at)
    where
      known : (x y : code.Place) → Some x ≡ Some y → x ≡ y
      known x y e = cc

-- ---- a key is removed

-- an item before the end of a list's first part is in that part
in_front : (xs ys : List Place) (j : ℕ) (p : Place) → j < length xs → slice_get (xs ++ ys) j ≡ Some p → slice_get xs j ≡ Some p
in_front [] ys j p l e = absurd (omega arith)
in_front (x ∷ xs) ys zero p l e = e
in_front (x ∷ xs) ys (suc j) p l e = in_front xs ys j p (omega arith) e

removed_changed : (g : Value → Value) (vs : Values) (i : ℕ) → remove_nth (change_nth (Some i) g vs) i ≡ remove_nth vs i
removed_changed g nil i = refl
removed_changed g (cons v vs) zero = refl
removed_changed g (cons v vs) (suc i) = ap (cons v) (removed_changed g vs i)

module _ (allocator : ℕ) (old : List ℕ) (table : Table) (place : Place) (U : ℕ) (keys : List ℤ) (vs : Values) (blocks : List ℕ) (f : form_at table place.type ≡ Some (Form.flat_map U))
    (s : Stands allocator old table place (Map keys vs) blocks) (key : ℤ) (i : ℕ) (there : key_place keys key ≡ Some i) where
  abbrev each : ℕ
  each = 8 + size table U

  -- the place of the key's value
  abbrev pub inner : Place
  inner = value_of U (start old place.at + i * (8 + size table U) + 8)

  below : i < count_at old place.at
  below = subst (λ k. i < k) (length_is allocator old table place U keys vs blocks f s) (place_below keys key i there)

  b : HasBuffer allocator old table place U keys vs blocks f s
  b = has_buffer allocator old table place U keys vs blocks f s (let l = below in omega arith)

  start_is : start old place.at ≡ b.p
  start_is = rw b.names refl

  pub led : Leads old table place (Selector.key key ∷ []) inner
  led = key_leads allocator old table place U keys vs blocks f s key i there

  -- the blocks of the value, and the other blocks of the map
  abbrev pub c : ComesApart old table place (Selector.key key ∷ []) inner (Map keys vs) blocks
  c = part.c allocator old table place (Map keys vs) blocks s inner (Selector.key key ∷ []) led

  abbrev pub rest : List ℕ
  rest = part.rest allocator old table place (Map keys vs) blocks s inner (Selector.key key ∷ []) led

  value_inside : (n : ℕ) → n < count_at old place.at → IsInside old (block_of b.p) (start old place.at + n * (8 + size table U) + 8) (size table U)
  value_inside n l =
      let e = start_is in
      let whole : suc n * each ≤ count_at old place.at * each = mul-le-mul_right each l in
      let more : suc n * each ≡ n * each + each = grind arith in
      record { low = omega (arith, b.block.after_header); high = omega (arith, b.block.room, b.block.after_header, b.lies.size) }

  inside : IsInside old (block_of b.p) inner.at (size table inner.type)
  inside = value_inside i below

  aligned : inner.at % 8 ≡ 0
  aligned =
      let e = start_is in
      let a = b.lies.aligned in
      let low = b.block.after_header in
      let e8 = size_aligned table s.is_table U in
      let entries8 = multiple i (8 + size table U) (omega arith) in
      omega arith
    where
      multiple : (i m : ℕ) → m % 8 ≡ 0 → (i * m) % 8 ≡ 0
      multiple zero m e = omega arith
      multiple (suc i) m e = let rest = multiple i m e in let more : suc i * m ≡ m + i * m = grind arith in omega arith

  -- the buffer's block is among the other blocks
  mine : 1 ≤ times (block_of b.p) rest
  mine =
      let h = block_of b.p in
      let buffered = its allocator old table place U keys vs blocks f s in
      let m = middle old table (holds_each allocator old table place U keys vs blocks f s) i inner (held_part old table place U keys vs blocks f s.holds_it i below) in
      let same : c.its ≡ m.zs = (Holds-one old table c.holds_it m.holds_it).1 in
      let one : times h (named old place.at) ≡ 1 = rw b.names (times-same h []) in
      let all = ap (times h) buffered.blocks_are in
      let both = times-append h (named old place.at) buffered.owned in
      let inner_all = ap (times h) m.blocks_are in
      let left = times-append h m.xs (m.zs ++ m.ys) in
      let right = times-append h m.zs m.ys in
      let its_are = ap (times h) same in
      let few = part.blocks_once allocator old table place (Map keys vs) blocks s inner (Selector.key key ∷ []) led h in
      let parts = part.counts allocator old table place (Map keys vs) blocks s inner (Selector.key key ∷ []) led h in
      omega arith

  -- ---- a value before the removed one

  m : Middle old table (places_of U (map (λ p. p + 8) (spaced (start old place.at) (8 + size table U) (count_at old place.at)))) i inner vs (its allocator old table place U keys vs blocks f s).owned
  m = middle old table (holds_each allocator old table place U keys vs blocks f s) i inner (held_part old table place U keys vs blocks f s.holds_it i below)

  module _ (j : ℕ) (earlier : j < i) where
    abbrev sooner : Place
    sooner = value_of U (start old place.at + j * (8 + size table U) + 8)

    among : slice_get m.before j ≡ Some sooner
    among =
        let l = below in
        let e = m.at_is in
        let all = held_part old table place U keys vs blocks f s.holds_it j (omega arith) in
        let split = subst (λ ps. slice_get ps j ≡ Some sooner) m.places_are all in
        in_front m.before (inner ∷ m.after) j sooner (omega arith) split

    own : Middle old table m.before j sooner m.left m.xs
    own = middle old table m.lefts j sooner among

    -- its blocks are among the other blocks, and aren't the buffer's
    others : (h : ℕ) → 1 ≤ times h own.zs → (1 ≤ times h rest) × (h ≢ block_of b.p)
    others h some =
        let first = ap (times h) own.blocks_are in
        let first_left = times-append h own.xs (own.zs ++ own.ys) in
        let first_right = times-append h own.zs own.ys in
        let second = ap (times h) m.blocks_are in
        let second_left = times-append h m.xs (m.zs ++ m.ys) in
        let second_right = times-append h m.zs m.ys in
        let buffered = its allocator old table place U keys vs blocks f s in
        let all = ap (times h) buffered.blocks_are in
        let both = times-append h (named old place.at) buffered.owned in
        let its_are = ap (times h) (Holds-one old table c.holds_it m.holds_it).1 in
        let once = part.blocks_once allocator old table place (Map keys vs) blocks s inner (Selector.key key ∷ []) led h in
        let parts = part.counts allocator old table place (Map keys vs) blocks s inner (Selector.key key ∷ []) led h in (
          omega arith,
          λ e. let one : times (block_of b.p) (named old place.at) ≡ 1 = rw b.names (times-same (block_of b.p) []) in
              let here : times h (named old place.at) ≡ 1 = subst (λ x. times x (named old place.at) ≡ 1) (sym e) one in omega arith,
        )

    pub sooner_kept : (theirs : ℕ → List ℕ) (now final : List Frozen) → AreLive old ((s.home ∷ blocks) ++ blocks_by theirs now) → (mid : List ℕ) (w : Value) → ClearsPlace old mid table inner w c.its [] theirs now final
        → KeepsPathsInside old mid table sooner
    sooner_kept theirs now final fits mid w change =
        let l = below in
        let less : suc j * (8 + size table U) ≤ i * (8 + size table U) = mul-le-mul_right (8 + size table U) earlier in
        let more : suc j * (8 + size table U) ≡ j * (8 + size table U) + (8 + size table U) = grind arith in
        part.beside_paths allocator old table place (Map keys vs) blocks s inner (Selector.key key ∷ []) led (block_of b.p) inside mine aligned theirs now final fits mid w change sooner own.value own.zs own.holds_it
        (value_inside j (omega arith)) (inl (omega arith)) others

  -- ---- the values before and after the removed one

  -- the number of values after it
  after_it : (k : ℕ) × (count_at old place.at ≡ i + (1 + k))
  after_it = (count_at old place.at - (i + 1), let l = below in omega arith)

  abbrev k : ℕ
  k = after_it.0

  abbrev q : ℕ
  q = start old place.at + i * (8 + size table U)

  record Sides : Type 0 where
    left : Values
    right : Values
    xs : List ℕ
    zs : List ℕ
    ys : List ℕ
    lefts : HoldsEach old table (run_values table U (start old place.at) i) left xs
    rights : HoldsEach old table (run_values table U (q + (8 + size table U)) k) right ys
    its_are : c.its ≡ zs
    blocks_are : blocks ≡ named old place.at ++ (xs ++ (zs ++ ys))

  sides : Sides
  sides =
      let whole : HoldsEach old table (run_values table U (start old place.at) (i + (1 + k))) vs (its allocator old table place U keys vs blocks f s).owned =
      subst (λ n. HoldsEach old table (run_values table U (start old place.at) n) vs (its allocator old table place U keys vs blocks f s).owned) after_it.1 (holds_each allocator old table place U keys vs blocks f s) in
      let r : Run old table U (start old place.at) (i + (1 + k)) (keys_at old (spaced (start old place.at) (8 + size table U) (i + (1 + k)))) vs (its allocator old table place U keys vs blocks f s).owned =
      record { keys_are = refl; values = whole } in
      let a = parts old table U (start old place.at) i (1 + k) q (keys_at old (spaced (start old place.at) (8 + size table U) (i + (1 + k)))) vs (its allocator old table place U keys vs blocks f s).owned refl r in
      let d = parts old table U q 1 k (q + (8 + size table U)) a.next_keys a.next_values a.next_owned (omega arith) a.next in
      let one = the_one old table U q d.first_keys d.first_values d.first_owned d.first in
      record {
        left = a.first_values;
        right = d.next_values;
        xs = a.first_owned;
        zs = d.first_owned;
        ys = d.next_owned;
        lefts = a.first.values;
        rights = d.next.values;
        its_are = (Holds-one old table c.holds_it one.holds_it).1;
        blocks_are = (its allocator old table place U keys vs blocks f s).blocks_are ∙ ap (λ os. named old place.at ++ os) (a.owned_are ∙ ap (λ os. a.first_owned ++ os) d.owned_are);
      }

  -- the blocks of the other values are among the other blocks, and aren't the buffer's
  side_blocks : (h : ℕ) → 1 ≤ times h sides.xs + times h sides.ys → (1 ≤ times h rest) × (h ≢ block_of b.p)
  side_blocks h some =
      let t = sides in
      let all = ap (times h) t.blocks_are in
      let first = times-append h (named old place.at) (t.xs ++ (t.zs ++ t.ys)) in
      let second = times-append h t.xs (t.zs ++ t.ys) in
      let third = times-append h t.zs t.ys in
      let its_here = ap (times h) t.its_are in
      let once = part.blocks_once allocator old table place (Map keys vs) blocks s inner (Selector.key key ∷ []) led h in
      let counts = part.counts allocator old table place (Map keys vs) blocks s inner (Selector.key key ∷ []) led h in (
        omega arith,
        λ e. let one : times (block_of b.p) (named old place.at) ≡ 1 = rw b.names (times-same (block_of b.p) []) in
            let here : times h (named old place.at) ≡ 1 = subst (λ x. times x (named old place.at) ≡ 1) (sym e) one in omega arith,
      )

  abbrev IsBeside : Place → Type 0
  IsBeside other = IsInside old (block_of b.p) other.at (size table other.type) × Separate other.at (size table other.type) inner.at (size table inner.type)

  lefts_beside : AllByRecursion IsBeside (run_values table U (start old place.at) i)
  lefts_beside = each_run IsBeside table U (start old place.at) i (λ j l.
      let less : suc j * each ≤ i * each = mul-le-mul_right each l in
      let more : suc j * each ≡ j * each + each = grind arith in
      let few = below in
      (value_inside j (omega arith), inl (omega arith)))

  rights_beside : AllByRecursion IsBeside (run_values table U (q + (8 + size table U)) k)
  rights_beside = each_run IsBeside table U (q + (8 + size table U)) k (λ j l.
      let at : start old place.at + (i + 1 + j) * (8 + size table U) + 8 ≡ q + (8 + size table U) + j * (8 + size table U) + 8 = grind arith in
      let counted = after_it.1 in
      (subst (λ p. IsInside old (block_of b.p) p (size table U)) at (value_inside (i + 1 + j) (omega arith)), inr (omega arith)))

  pub inner_stands : Stands allocator old table inner c.value c.its
  inner_stands = part.inner_stands allocator old table place (Map keys vs) blocks s inner (Selector.key key ∷ []) led (block_of b.p) inside mine aligned

  -- the state in which the calls begin that destroy the value
  pub inner_beside : (v : Value) → nth vs i ≡ Some v → (theirs : ℕ → List ℕ) (kept : List Place) (now final : List Frozen) → SharedBeside old table (s.home ∷ blocks) (named_in v) theirs kept now final
      → SharedBeside old table (inner_stands.home ∷ c.its) (named_in c.value) theirs kept now final
  unfolding inner_stands
  inner_beside v at theirs kept now final beside =
      let same : v ≡ c.value = value_same v at in
      let home = part.inner_home allocator old table place (Map keys vs) blocks s inner (Selector.key key ∷ []) led (block_of b.p) inside mine aligned in
      subst (λ x. SharedBeside old table (x ∷ c.its) (named_in c.value) theirs kept now final) (sym home)
      (part.inner_beside allocator old table place (Map keys vs) blocks s inner (Selector.key key ∷ []) led (block_of b.p) inside mine aligned theirs kept now final
      (subst (λ u. SharedBeside old table (s.home ∷ blocks) (named_in u) theirs kept now final) same beside))
    where
      value_same : (v : Value) → nth vs i ≡ Some v → v ≡ c.value
      value_same v at = let e = rw (there, at) at c.value_is in cc

  -- the value is destroyed, and then the entry is removed
  module _ (theirs : ℕ → List ℕ) (now final : List Frozen) (fits : AreLive old ((s.home ∷ blocks) ++ blocks_by theirs now)) (mid new : List ℕ) (w : Value)
      (change : ClearsPlace old mid table inner w c.its [] theirs now final) where
    abbrev pub changed : Values
    changed = change_nth (Some i) (with_value_at [] w) vs

    stands_mid : Stands allocator mid table place (Map keys changed) rest
    stands_mid =
        let k = part.stands_mid allocator old table place (Map keys vs) blocks s inner (Selector.key key ∷ []) led (block_of b.p) inside mine aligned theirs now final fits mid w change in
        subst (λ o. Stands allocator mid table place (Map keys (change_nth o (with_value_at [] w) vs)) rest) there k

    cell_same : IsSame old mid place.at 8
    cell_same =
        let large = size_large table s.is_table place.type in
        IsSame-part old mid place.at (size table place.type) place.at 8 (omega arith) (omega arith)
        (part.place_same allocator old table place (Map keys vs) blocks s inner (Selector.key key ∷ []) led (block_of b.p) inside mine aligned theirs now final fits mid w change)

    start_kept : start mid place.at ≡ start old place.at
    start_kept = ap (λ t. unwrap_or t 0) (cell-target old mid place.at cell_same)

    -- what removing the entry ensures
    abbrev Closes : Type 0
    Closes = (vs : Values) (blocks : List ℕ) → Stands allocator mid table place (Map keys vs) blocks → i < count_at mid place.at
        → PlaceBlocks mid table (value_of U (start mid place.at + i * (8 + size table U) + 8)) [] → ClosesEntry mid new table place U keys vs blocks i

    last : Closes → ClosesEntry mid new table place U keys changed rest i
    last closes =
        let value : Holds mid table (value_of U (start mid place.at + i * (8 + size table U) + 8)) w [] =
        subst (λ a. Holds mid table (value_of U (a + i * (8 + size table U) + 8)) w []) (sym start_kept) change.changes.holds_it in
        let count = cell-count old mid place.at cell_same in
        closes changed rest stands_mid (let l = below in omega arith) (w, value)

    -- the other values persist while this one is cleared
    others_stay : KeepsParts old mid table place i 1 1
    others_stay =
        let t = sides in
        let first = part.beside_persist allocator old table place (Map keys vs) blocks s inner (Selector.key key ∷ []) led (block_of b.p) inside mine aligned theirs now final fits mid w change
        (run_values table U (start old place.at) i) t.left t.xs t.lefts lefts_beside (λ h some. side_blocks h (omega arith)) in
        let next = part.beside_persist allocator old table place (Map keys vs) blocks s inner (Selector.key key ∷ []) led (block_of b.p) inside mine aligned theirs now final fits mid w change
        (run_values table U (q + (8 + size table U)) k) t.right t.ys t.rights rights_beside (λ h some. side_blocks h (omega arith)) in
        let one = run_values table U q 1 in
        let before : run_values table U (start old place.at) (count_at old place.at) ≡ run_values table U (start old place.at) i ++ (one ++ run_values table U (q + (8 + size table U)) k) =
        rw after_it.1 (runs_joined table U (start old place.at) i (1 + k) q refl ∙ ap (λ ps. run_values table U (start old place.at) i ++ ps) (runs_joined table U q 1 k (q + (8 + size table U)) (omega arith))) in
        let after : run_values table U (start mid place.at) (count_at mid place.at) ≡ run_values table U (start old place.at) i ++ (one ++ run_values table U (q + (8 + size table U)) k) =
        ap (λ a. run_values table U a (count_at mid place.at)) start_kept ∙ ap (run_values table U (start old place.at)) (cell-count old mid place.at cell_same) ∙ before in
        let around = parts_around old mid table (Form.flat_map U) (run_values table U (start old place.at) i) one (run_values table U (q + (8 + size table U)) k) (run_values table U (start old place.at) i) one
        (run_values table U (q + (8 + size table U)) k) (λ e. absurd (cc)) first next in
        parts_stay old mid table place (Form.flat_map U) (Map keys vs) (Map keys changed) blocks rest f refl s.holds_it stands_mid.holds_it i 1 1
        (subst (λ n. PartsStay old mid table (Form.flat_map U) (run_values table U (start old place.at) (count_at old place.at)) (run_values table U (start mid place.at) (count_at mid place.at)) n 1 1)
        (run_long table U (start old place.at) i)
        (subst (λ ps. PartsStay old mid table (Form.flat_map U) ps (run_values table U (start mid place.at) (count_at mid place.at)) (length (run_values table U (start old place.at) i)) 1 1) (sym before)
        (subst (λ ps. PartsStay old mid table (Form.flat_map U) (run_values table U (start old place.at) i ++ (one ++ run_values table U (q + (8 + size table U)) k)) ps (length (run_values table U (start old place.at) i)) 1 1)
        (sym after) around)))

    pub keeps_lower : Closes → KeepsLowerKeys old new table place key
    keeps_lower closes other path goal lower way =
        let g = goes_on old table place U keys vs blocks f s.holds_it other path goal way in
        let ascends = ascending allocator old table place U keys vs blocks f s in
        let l = stands_before keys key i ascends there other g.i g.place_is lower in
        let then = last closes in
        let first = sooner_kept g.i l theirs now final fits mid w change path goal g.goes in
        let moved = subst (λ a. Leads mid table (value_of U (a + g.i * (8 + size table U) + 8)) path goal) (sym start_kept) first in
        let second = then.paths g.i l path goal moved in
        let there_now = subst (λ a. Leads new table (value_of U (a + g.i * (8 + size table U) + 8)) path goal) (sym then.start_kept) second in
        goes_through new table place U (remove keys i) (remove_nth changed i) rest f then.changes.holds_it other g.i (still_there keys key i ascends there other g.i g.place_is lower) path goal there_now

    pub takes : Closes → TakesKey old new table place keys vs blocks (KeepsLowerKeys old new table place key) i theirs now final
    takes closes =
        let last' : ChangesPlace mid new table place (without_entry (keys, vs) i) rest (live mid) rest rest =
        subst (λ us. ChangesPlace mid new table place (Map (remove keys i) us) rest (live mid) rest rest) (removed_changed (with_value_at [] w) vs i) (last closes).changes in
        record {
          loses = record {
            lost = c.its;
            part = record {
              form = Form.flat_map U;
              form_is = f;
              opened = held_opened old table place U keys vs blocks f s.holds_it;
              opens = held_opens old table place U keys vs blocks f s.holds_it;
              part = inner;
              part_is = held_part old table place U keys vs blocks f s.holds_it i below;
              value = c.value;
              blocks = c.its;
              holds = c.holds_it;
              gives_are = refl;
            };
            others = rest;
            blocks_are = λ h. part.counts allocator old table place (Map keys vs) blocks s inner (Selector.key key ∷ []) led h ∙ sym (times-append h c.its rest);
            clears = part.cleared allocator old table place (Map keys vs) blocks s inner (Selector.key key ∷ []) led (block_of b.p) inside mine aligned theirs now final fits mid w change new (without_entry (keys, vs) i) last';
            parts = parts_again old mid new table place i 1 1 0 others_stay (last closes).parts;
          };
          kept = keeps_lower closes;
        }

-- ---- the calls

module _ (allocator : ℕ) (old : List ℕ) (table : Table) (cell T U : ℕ) (keys : List ℤ) (vs : Values) (blocks : List ℕ) (f : form_at table T ≡ Some (Form.flat_map U))
    (s : Stands allocator old table (object_at cell T) (Map keys vs) blocks) (key passed : ℤ) (back : passed ≡ key) where
  pub put_found : (E : Type 0) (asks : List Ask) (entry : Entry) (i from p : ℕ) → IsEntryOf table 8 U entry → key_place keys passed ≡ Some i → from ≡ start old cell → p ≡ (from + i * entry.size + entry.before) % 2 ^ 32
      → PutsKey {E = E} allocator old old table (object_at cell T) U keys vs key blocks asks (key_place keys key) (Ok p)
  put_found E asks entry i from p e h from_is p_is =
      let there : key_place keys key ≡ Some i = subst (λ k. key_place keys k ≡ Some i) back h in
      subst (λ o. PutsKey {E = E} allocator old old table (object_at cell T) U keys vs key blocks asks o (Ok p)) (sym there)
      (refl, value_leads allocator old table (object_at cell T) U keys vs blocks f s entry key i from p e from_is p_is there)

  pub put_missing : (E : Type 0) (asks : List Ask) (new : List ℕ) (r : Result ℕ E) → key_place keys passed ≡ None → PutsKey {E = E} allocator old new table (object_at cell T) U keys vs passed blocks asks None r
      → PutsKey {E = E} allocator old new table (object_at cell T) U keys vs key blocks asks (key_place keys key) r
  put_missing E asks new r none puts =
      let missing : key_place keys key ≡ None = subst (λ k. key_place keys k ≡ None) back none in
      subst (λ o. PutsKey {E = E} allocator old new table (object_at cell T) U keys vs key blocks asks o r) (sym missing)
      (subst (λ k. PutsKey {E = E} allocator old new table (object_at cell T) U keys vs k blocks asks None r) back puts)

  abbrev Removes : List ℕ → Bool → Type 0
  Removes new gone = RemovesKey old new table (object_at cell T) keys vs s.home blocks (KeepsLowerKeys old new table (object_at cell T) key) (key_place keys key) gone

  pub remove_missing : key_place keys passed ≡ None → Removes old false
  remove_missing none =
      let missing : key_place keys key ≡ None = subst (λ k. key_place keys k ≡ None) back none in
      subst (λ o. RemovesKey old old table (object_at cell T) keys vs s.home blocks (KeepsLowerKeys old old table (object_at cell T) key) o false) (sym missing) (refl, refl)

  -- the value is cleared, for any frozen objects
  abbrev pub ClearsValue : List ℕ → code.Place → Type 0
  ClearsValue mid value = (v : Value) (bs : List ℕ) (st : Stands allocator old table (place_of value) v bs) →
      BesideShared old table (st.home ∷ bs) (named_in v) (ClearsPlace old mid table (place_of value) (default_of table value.type_id) bs [])

  pub remove_found : (mid new : List ℕ) (here : Table) → here ≡ table → (entry : Entry) (i from : ℕ) (value : code.Place) → IsEntryOf table 8 U entry → key_place keys passed ≡ Some i → from ≡ start old cell
      → Some value ≡ Some (record { at = (from + i * entry.size + entry.before) % 2 ^ 32; type_id = U }) → ClearsValue mid value
      → ((us : Values) (bs : List ℕ) → Stands allocator mid here (object_at cell T) (Map keys us) bs → i < count_at mid cell → PlaceBlocks mid here (flat_value mid here cell U i) []
      → ClosesEntry mid new here (object_at cell T) U keys us bs i) → Removes new true
  remove_found mid new here same entry i from value e h from_is value_is clears closes =
      let there : key_place keys key ≡ Some i = subst (λ k. key_place keys k ≡ Some i) back h in
      let below : i < count_at old cell = subst (λ k. i < k) (length_is allocator old table (object_at cell T) U keys vs blocks f s) (place_below keys key i there) in
      let small = entry_small allocator old table (object_at cell T) U keys vs blocks f s i below in
      let plain : (start old cell + i * (8 + size table U) + 8) % 2 ^ 32 ≡ start old cell + i * (8 + size table U) + 8 = omega arith in
      let at_is : (from + i * entry.size + entry.before) % 2 ^ 32 ≡ start old cell + i * (8 + size table U) + 8 = rw (from_is, e.size_is, e.before_is) plain in
      let place_is : place_of value ≡ inner allocator old table (object_at cell T) U keys vs blocks f s key i there =
      ap place_of (known value (record { at = (from + i * entry.size + entry.before) % 2 ^ 32; type_id = U }) value_is) ∙ ap (value_of U) at_is in
      let stands = inner_stands allocator old table (object_at cell T) U keys vs blocks f s key i there in
      let c' = c allocator old table (object_at cell T) U keys vs blocks f s key i there in
      let clears' = subst (λ (p : Place). (v : Value) (bs : List ℕ) (st : Stands allocator old table p v bs) → BesideShared old table (st.home ∷ bs) (named_in v) (ClearsPlace old mid table p (default_of table p.type) bs []))
      place_is clears in
      let closes' = subst (λ t. (us : Values) (bs : List ℕ) → Stands allocator mid t (object_at cell T) (Map keys us) bs → i < count_at mid cell → PlaceBlocks mid t (flat_value mid t cell U i) []
      → ClosesEntry mid new t (object_at cell T) U keys us bs i) same closes in
      subst (λ o. RemovesKey old new table (object_at cell T) keys vs s.home blocks (KeepsLowerKeys old new table (object_at cell T) key) o true) (sym there) (
        refl,
        λ v at theirs kept now final beside.
            let change = clears' c'.value c'.its stands theirs kept now final (inner_beside allocator old table (object_at cell T) U keys vs blocks f s key i there v at theirs kept now final beside) in
            takes allocator old table (object_at cell T) U keys vs blocks f s key i there theirs now final beside.owned mid new (default_of table U) change closes',
      )
    where
      known : (x y : code.Place) → Some x ≡ Some y → x ≡ y
      known x y e = cc
