-- A flat map in memory: its entries lie in the segment, and read as its keys and values.
use Rattle.std.proofs.Common.{◌≡◌, ℕ, zero, suc, ◌+◌, ◌-◌, ◌*◌, ◌%◌, ◌^◌, ◌<◌, ◌≤◌, min, ◌⊎◌, inl, inr, ℤ, ◌<ℤ◌, List, []}
use Rattle.std.proofs.Common.{◌∷◌, length, take, map, Option, Some, None, Result, Ok, Err, MatchResult, IfOk, IfErr, refl, sym, ap, ◌∙◌, subst, arith}
use Rattle.std.specs.Prelude.{slice_get, IsErr}
use Rattle.std.proofs.Math.Nat.{mul-le-mul_left, mul-le-mul_right}
use Rattle.std.proofs.lemmas.Bool.{cases_lt, false≢true}
use Rattle.std.proofs.lemmas.List.{length-take-le, take_all}
use Rattle.std.proofs.lemmas.Option.{slice_get_past, slice_get_within}
use Rattle.std.specs.Result.{result_ok}
use Rattle.std.specs.Ordering.{int_cmp}
use Rattle.std.specs.Cmp.{int_ranked}
use Rattle.std.specs.declared.cmp.Ordering.{Ordering}
use Rattle.std.specs.declared.cmp.Ordering.TheVariants.{Less, Equal, Greater}
use Rattle.seg_spec.specs.Bytes.{signed_long}
use Rattle.seg_spec.specs.Pointer.{target}
use Rattle.seg_spec.specs.Types.{Form, Table, form_at, size}
use Rattle.seg_spec.specs.Value.{index_of, Label, Values, Map, IsAscending, Selector}
use Rattle.seg_spec.specs.Heap.{live, heap_start}
use Rattle.seg_spec.specs.Block.{Kind, tag_of, IsBlock, block_of}
use Rattle.seg_spec.specs.Reads.{Place, Opened, count_at, named, start, spaced, places_of, keys_at, Opens, Holds, HoldsEach, Leads, here, into}
use Rattle.seg_spec.specs.Owning.{Stands}
use Rattle.seg_spec.specs.Sound.{times, positions}
use Rattle.seg_spec.specs.Items.{key_place, keys_below}
use Rattle.seg_spec.proofs.Heap.LiveBlockLaws.{times-same, there, LiesIn, live-lie}
use Rattle.seg_spec.proofs.Values.PlaceWriteLaws.{owned_live}
use Rattle.seg_spec.proofs.Values.BufferLaws.{Buffered, buffered}
use Rattle.seg_spec.proofs.Values.OneValueLaws.{Opens-one}
use Rattle.seg_value.proofs.Runs.{spaced_get, map_get}
use Rattle.seg_cells.specs.Search.{IsBetween}
use Rattle.seg_cells.specs.Entries.{IsEntryOf}
use Rattle.seg_cells.specs.declared.entry.Entry.{Entry}
use Rattle.seg_map.specs.declared.key_value.KeyValue.{KeyValue}
use Rattle.seg_map.specs.Maps.{FindsEntry, value_of, first_of, last_of, keys_above, lower_keys}
use Rattle.seg_map.proofs.KeyLaws.{Parted, parted_at, parted_front, parted_after, found_place, missing_place, missing_below, place_below}
use Rattle.seg_map.proofs.KeyLaws.{found_next, missing_next, parted_found, parted_missing, get_take, index_low, found_lower, missing_lower}

-- ---- results

pub ok_then : {X E : Type 0} {P Q : X → Type 0} (r : Result X E) → IfOk r P → ((x : X) → P x → Q x) → IfOk r Q
ok_then (Ok x) h f = f x h
ok_then (Err e) h f = tt

pub err_then : {X E : Type 0} {P Q : E → Type 0} (r : Result X E) → IfErr r P → ((e : E) → P e → Q e) → IfErr r Q
err_then (Ok x) h f = tt
err_then (Err e) h f = f e h

-- a fact about each error
pub only_err : {X E : Type 0} (r : Result X E) (P : X → Type 0) (Q : Type 0) → IsErr r → Q → MatchResult r P (λ code. Q)
only_err (Ok x) P Q e q = absurd (false≢true e)
only_err (Err y) P Q e q = q

pub or_then : {A B C : Type 0} → A ⊎ B → (B → C) → A ⊎ C
or_then (inl a) f = inl a
or_then (inr b) f = inr (f b)

-- ---- keys by their positions

length-spaced : (at step n : ℕ) → length (spaced at step n) ≡ n
length-spaced at step zero = refl
length-spaced at step (suc n) = ap suc (length-spaced (at + step) step n)

length-keys_at : (bytes ps : List ℕ) → length (keys_at bytes ps) ≡ length ps
length-keys_at bytes [] = refl
length-keys_at bytes (p ∷ ps) = ap suc (length-keys_at bytes ps)

one_less : (i : ℕ) → suc i - 1 ≡ i
one_less i = omega arith

same_map : (keys others : List ℤ) (vs ws : Values) → Map keys vs ≡ Map others ws → (keys ≡ others) × (vs ≡ ws)
same_map keys others vs ws e = (cc, cc)

-- ---- a place that contains a map

module _ (bytes : List ℕ) (table : Table) (place : Place) (U : ℕ) (keys : List ℤ) (vs : Values) (blocks : List ℕ) (f : form_at table place.type ≡ Some (Form.flat_map U)) (h : Holds bytes table place (Map keys vs) blocks) where
  abbrev held_entries : List ℕ
  held_entries = spaced (start bytes place.at) (8 + size table U) (count_at bytes place.at)

  pub held : Buffered bytes table place (Form.flat_map U) (Map keys vs) blocks
  held = buffered bytes table place (Form.flat_map U) (Map keys vs) blocks f refl h

  pub held_keys : keys ≡ keys_at bytes (spaced (start bytes place.at) (8 + size table U) (count_at bytes place.at))
  held_keys = (same_map keys (keys_at bytes held_entries) vs held.entries.0 held.entries.1).0

  pub held_length : length keys ≡ count_at bytes place.at
  held_length = ap length held_keys ∙ length-keys_at bytes held_entries ∙ length-spaced (start bytes place.at) (8 + size table U) (count_at bytes place.at)

  -- the place of the value at an index
  abbrev pub held_value : ℕ → Place
  held_value i = value_of U (start bytes place.at + i * (8 + size table U) + 8)

  abbrev pub held_opened : Opened
  held_opened = record {
    label = Label.map (keys_at bytes (spaced (start bytes place.at) (8 + size table U) (count_at bytes place.at)));
    blocks = named bytes place.at;
    parts = places_of U (map (λ p. p + 8) (spaced (start bytes place.at) (8 + size table U) (count_at bytes place.at)));
  }

  pub held_opens : Opens bytes table place (Form.flat_map U) held_opened
  held_opens = record { named_room = held.room; ascending = held.entries.2; opened_is = refl }

  pub held_part : (i : ℕ) → i < count_at bytes place.at → slice_get held_opened.parts i ≡ Some (held_value i)
  held_part i h =
      map_get (λ p. value_of U p) (map (λ p. p + 8) held_entries) i (start bytes place.at + i * (8 + size table U) + 8)
      (map_get (λ p. p + 8) held_entries i (start bytes place.at + i * (8 + size table U)) (spaced_get (start bytes place.at) (8 + size table U) (count_at bytes place.at) i h))

  -- a path through a key continues from the key's value, and conversely
  pub goes_through : (key : ℤ) (i : ℕ) → key_place keys key ≡ Some i → (path : List Selector) (inner : Place) → Leads bytes table (held_value i) path inner → Leads bytes table place (Selector.key key ∷ path) inner
  goes_through key i at path inner way =
      let below : i < count_at bytes place.at = subst (λ k. i < k) held_length (place_below keys key i at) in
      let index : key_place (keys_at bytes held_entries) key ≡ Some i = subst (λ ks. key_place ks key ≡ Some i) held_keys at in
      into {place = place} (Form.flat_map U) held_opened i (held_value i) f held_opens index (held_part i below) way

  pub held_leads : (key : ℤ) (i : ℕ) → key_place keys key ≡ Some i → Leads bytes table place (Selector.key key ∷ []) (held_value i)
  held_leads key i at = goes_through key i at [] (held_value i) here

  pub record GoesOn (key : ℤ) (path : List Selector) (inner : Place) : Type 0 where
    pub i : ℕ
    pub place_is : key_place keys key ≡ Some i
    pub goes : Leads bytes table (held_value i) path inner

  pub goes_on : (key : ℤ) (path : List Selector) (inner : Place) → Leads bytes table place (Selector.key key ∷ path) inner → GoesOn key path inner
  goes_on key path inner (into form opened i part e o index part_is rest) =
      let forms : form ≡ Form.flat_map U = (let k : Some form ≡ Some (Form.flat_map U) = sym e ∙ f in cc) in
      let same : opened ≡ held_opened = Opens-one bytes table place (Form.flat_map U) opened held_opened (subst (λ g. Opens bytes table place g opened) forms o) held_opens in
      let there_is : key_place (keys_at bytes held_entries) key ≡ Some i = subst (λ (op : Opened). index_of op.label (Selector.key key) ≡ Some i) same index in
      let at : key_place keys key ≡ Some i = subst (λ ks. key_place ks key ≡ Some i) (sym held_keys) there_is in
      let below : i < count_at bytes place.at = subst (λ k. i < k) held_length (place_below keys key i at) in
      let its_part : slice_get held_opened.parts i ≡ Some part = subst (λ (op : Opened). slice_get op.parts i ≡ Some part) same part_is in
      let also = held_part i below in
      let one : part ≡ held_value i = (let k : Some part ≡ Some (held_value i) = sym its_part ∙ also in cc) in
      record { i = i; place_is = at; goes = subst (λ q. Leads bytes table q path inner) one rest }

-- ---- the state in which calls begin

module _ (allocator : ℕ) (bytes : List ℕ) (table : Table) (place : Place) (U : ℕ) (keys : List ℤ) (vs : Values) (blocks : List ℕ) (f : form_at table place.type ≡ Some (Form.flat_map U))
    (s : Stands allocator bytes table place (Map keys vs) blocks) where
  abbrev pub each : ℕ
  each = 8 + size table U

  abbrev pub n : ℕ
  n = count_at bytes place.at

  abbrev pub entries : List ℕ
  entries = spaced (start bytes place.at) each n

  pub its : Buffered bytes table place (Form.flat_map U) (Map keys vs) blocks
  its = held bytes table place U keys vs blocks f s.holds_it

  pub keys_are : keys ≡ keys_at bytes entries
  keys_are = held_keys bytes table place U keys vs blocks f s.holds_it

  pub ascending : IsAscending keys
  ascending = subst IsAscending (sym keys_are) its.entries.2

  pub holds_each : HoldsEach bytes table (places_of U (map (λ p. p + 8) entries)) vs its.owned
  holds_each = subst (λ ws. HoldsEach bytes table (places_of U (map (λ p. p + 8) entries)) ws its.owned) (sym (same_map keys (keys_at bytes entries) vs its.entries.0 its.entries.1).1) its.entries.3

  pub length_is : length keys ≡ n
  length_is = held_length bytes table place U keys vs blocks f s.holds_it

  -- if there are entries, there is a buffer
  pub record HasBuffer : Type 0 where
    pub p : ℕ
    pub names : target bytes place.at ≡ Some p
    pub block : IsBlock bytes p (tag_of Kind.buffer place.type) (n * each)
    pub mine : 1 ≤ times (block_of p) blocks
    pub lies : LiesIn bytes heap_start (length bytes) (block_of p)

  pub has_buffer : 1 ≤ n → HasBuffer
  has_buffer some = go (target bytes place.at) refl
    where
      go : (o : Option ℕ) → target bytes place.at ≡ o → HasBuffer
      go None e = let none : n ≡ 0 = rw e at its.room in absurd (omega arith)
      go (Some p) e =
          let room : IsBlock bytes p (tag_of Kind.buffer place.type) (n * each) = rw e at its.room in
          let mine : 1 ≤ times (block_of p) blocks = rw (its.blocks_are, e) (omega (arith, times-same (block_of p) its.owned)) in
          let is_live = owned_live allocator bytes table place (Map keys vs) blocks s (block_of p) mine in
          record { p = p; names = e; block = room; mine = mine; lies = there (LiesIn bytes heap_start (length bytes)) (block_of p) (positions (live bytes)) (live-lie bytes allocator s.heap) is_live }

  -- an entry lies in the segment
  pub entry_fits : (i : ℕ) → i < n → start bytes place.at + i * each + each ≤ length bytes
  entry_fits i h =
      let b = has_buffer (omega arith) in
      let e : start bytes place.at ≡ b.p = rw b.names refl in
      let whole : suc i * each ≤ n * each = mul-le-mul_right each h in
      let more : suc i * each ≡ i * each + each = grind arith in
      omega (arith, b.block.room, b.block.after_header, b.lies.high, b.lies.size)

  pub entry_small : (i : ℕ) → i < n → start bytes place.at + i * each + each < 2 ^ 32
  entry_small i h = omega (arith, entry_fits i h, s.heap.small)

  -- the key of an entry is the key at its index
  pub key_is : (i : ℕ) → i < n → slice_get keys i ≡ Some (signed_long bytes (start bytes place.at + i * each))
  key_is i h = rw keys_are (map_get (signed_long bytes) entries i (start bytes place.at + i * each) (spaced_get (start bytes place.at) each n i h))

  pub no_key : (i : ℕ) → n ≤ i → slice_get keys i ≡ None
  no_key i h = slice_get_past keys i (omega (arith, length_is))

  -- the entry is read at the position that the code computes
  pub key_read : (i : ℕ) → i < n → slice_get keys i ≡ Some (signed_long bytes ((start bytes place.at + i * each) % 2 ^ 32))
  key_read i h = let e : (start bytes place.at + i * each) % 2 ^ 32 ≡ start bytes place.at + i * each = omega (arith, entry_small i h) in rw e (key_is i h)

  -- ---- the binary search

  module _ (key : ℤ) (P : ℕ → Ordering → Type 0) (from step len : ℕ) (from_is : from ≡ start bytes place.at) (step_is : step ≡ each) (len_is : len ≡ n)
      (tells : (i : ℕ) (r : Ordering) → P i r → r ≡ int_cmp (signed_long bytes ((from + i * step) % 2 ^ 32)) key) where
    key_there : (i : ℕ) → i < len → slice_get keys i ≡ Some (signed_long bytes ((from + i * step) % 2 ^ 32))
    key_there i h = rw (from_is, step_is) (key_read i (omega arith))

    found : (i : ℕ) → i < len → P i Equal → key_place keys key ≡ Some i
    found i h p =
        let same : signed_long bytes ((from + i * step) % 2 ^ 32) ≡ key = int_ranked (signed_long bytes ((from + i * step) % 2 ^ 32)) key Equal (tells i Equal p) in
        found_place keys key i (parted_at keys key i ascending (key_there i h ∙ ap Some same))

    above : (i : ℕ) → i ≤ len → (i ≡ len) ⊎ P i Greater → (y : ℤ) → slice_get keys i ≡ Some y → key <ℤ y
    above i le (inl e) y at = let none = no_key i (omega arith) in cc
    above i le (inr p) y at = go (cases_lt i len)
      where
        go : (i < len) ⊎ (len ≤ i) → key <ℤ y
        go (inl h) =
            let l : key <ℤ signed_long bytes ((from + i * step) % 2 ^ 32) = int_ranked (signed_long bytes ((from + i * step) % 2 ^ 32)) key Greater (tells i Greater p) in
            let there = key_there i h in
            let same : signed_long bytes ((from + i * step) % 2 ^ 32) ≡ y = cc in
            subst (λ z. key <ℤ z) same l
        go (inr h) = let none = no_key i (omega arith) in cc

    parted : (i : ℕ) → i ≤ len → (i ≡ 0) ⊎ P (i - 1) Less → ((y : ℤ) → slice_get keys i ≡ Some y → key <ℤ y) → Parted keys key i []
    parted zero h low high = parted_front keys key ascending high
    parted (suc i) h (inl e) high = absurd (omega arith)
    parted (suc i) h (inr p) high =
        let l : signed_long bytes ((from + i * step) % 2 ^ 32) <ℤ key = int_ranked (signed_long bytes ((from + i * step) % 2 ^ 32)) key Less (tells i Less (subst (λ j. P j Less) (one_less i) p)) in
        parted_after keys key i (signed_long bytes ((from + i * step) % 2 ^ 32)) ascending (key_there i (omega arith)) l high

    missing : (i : ℕ) → i ≤ len → IsBetween P len i → (key_place keys key ≡ None) × (i ≡ keys_below keys key)
    missing i h b =
        let p = parted i h b.0 (above i h b.1) in
        (missing_place keys key i p, sym (missing_below keys key i p))

    ends : (result : Result ℕ ℕ) → IfOk result (λ i. (i < len) × P i Equal) → IfErr result (λ i. (i ≤ len) × IsBetween P len i)
        → MatchResult result (λ i. key_place keys key ≡ Some i) (λ i. (key_place keys key ≡ None) × (i ≡ keys_below keys key))
    ends (Ok i) there between = found i there.0 there.1
    ends (Err i) there between = missing i between.0 between.1

  -- how an entry compares with a key, as the code reads it
  abbrev pub Compares : ℕ → ℕ → ℤ → ℕ → Ordering → Type 0
  Compares from step key i r = r ≡ int_cmp (signed_long bytes ((from + i * step) % 2 ^ 32)) key

  pub searched : (key : ℤ) (from step len : ℕ) (result : Result ℕ ℕ) → from ≡ start bytes place.at → step ≡ each → len ≡ n
      → IfOk result (λ i. (i < len) × Compares from step key i Equal) → IfErr result (λ i. (i ≤ len) × IsBetween (Compares from step key) len i)
      → MatchResult result (λ i. key_place keys key ≡ Some i) (λ i. (key_place keys key ≡ None) × (i ≡ keys_below keys key))
  searched key from step len result from_is step_is len_is there between = ends key (Compares from step key) from step len from_is step_is len_is (λ i r e. e) result there between

  -- ---- the results of calls that read

  pub key_leads : (key : ℤ) (i : ℕ) → key_place keys key ≡ Some i → Leads bytes table place (Selector.key key ∷ []) (value_of U (start bytes place.at + i * each + 8))
  key_leads key i at = held_leads bytes table place U keys vs blocks f s.holds_it key i at

  -- the place of a key's value, as the code computes its position
  pub value_leads : (entry : Entry) (key : ℤ) (i from p : ℕ) → IsEntryOf table 8 U entry → from ≡ start bytes place.at → p ≡ (from + i * entry.size + entry.before) % 2 ^ 32 → key_place keys key ≡ Some i
      → Leads bytes table place (Selector.key key ∷ []) (value_of U p)
  value_leads entry key i from p e from_is p_is at =
      let below : i < n = subst (λ k. i < k) length_is (place_below keys key i at) in
      let small = entry_small i below in
      let here_is : (start bytes place.at + i * each + 8) % 2 ^ 32 ≡ start bytes place.at + i * each + 8 = omega arith in
      let same : p ≡ start bytes place.at + i * each + 8 = p_is ∙ rw (from_is, e.size_is, e.before_is) here_is in
      rw same (key_leads key i at)

  -- the result of a search for a key: its index, or the number of keys below it
  abbrev pub Searched : ℤ → Result ℕ ℕ → Type 0
  Searched key r = MatchResult r (λ i. key_place keys key ≡ Some i) (λ i. (key_place keys key ≡ None) × (i ≡ keys_below keys key))

  pub found_at : (key : ℤ) (i : ℕ) (r : Result ℕ ℕ) → Searched key r → result_ok r ≡ Some i → key_place keys key ≡ Some i
  found_at key i (Ok j) h e = let same : j ≡ i = cc in subst (λ k. key_place keys key ≡ Some k) same h
  found_at key i (Err j) h e = cc

  pub found_none : (key : ℤ) (r : Result ℕ ℕ) → Searched key r → result_ok r ≡ None → key_place keys key ≡ None
  found_none key (Ok j) h e = cc
  found_none key (Err j) h e = h.0

  pub got : (entry : Entry) (key passed : ℤ) (i from p : ℕ) (r : Result ℕ ℕ) → IsEntryOf table 8 U entry → passed ≡ key → Searched passed r → result_ok r ≡ Some i → from ≡ start bytes place.at
      → p ≡ (from + i * entry.size + entry.before) % 2 ^ 32 → Leads bytes table place (Selector.key key ∷ []) (value_of U p)
  got entry key passed i from p r e same h at from_is p_is = value_leads entry key i from p e from_is p_is (found_at key i r (subst (λ k. Searched k r) same h) at)

  pub got_none : (key passed : ℤ) (r : Result ℕ ℕ) → passed ≡ key → Searched passed r → result_ok r ≡ None → key_place keys key ≡ None
  got_none key passed r same h none = found_none key r (subst (λ k. Searched k r) same h) none

  -- the entry at an index, as the code reads it
  pub read_entry : (entry : Entry) (i count from at : ℕ) (x loaded : ℤ) (found : KeyValue) → IsEntryOf table 8 U entry → count ≡ n → i < count → from ≡ start bytes place.at → at ≡ (from + i * entry.size) % 2 ^ 32
      → loaded ≡ signed_long bytes at → x ≡ loaded → found.key ≡ x → found.value ≡ (from + i * entry.size + entry.before) % 2 ^ 32 → FindsEntry bytes table place U (slice_get keys i) (Some found)
  read_entry entry i count from at x loaded found e count_is h from_is at_is loaded_is x_is key_same value_is =
      let there : at ≡ (start bytes place.at + i * each) % 2 ^ 32 = at_is ∙ rw (from_is, e.size_is) refl in
      let key_is : Some found.key ≡ slice_get keys i = ap Some (key_same ∙ x_is ∙ loaded_is ∙ ap (λ q. signed_long bytes q) there) ∙ sym (key_read i (omega arith)) in
      record { key_is = key_is; leads = value_leads entry found.key i from found.value e from_is value_is (found_place keys found.key i (parted_at keys found.key i ascending (sym key_is))) }

  pub read_none : (i count : ℕ) → count ≡ n → count ≤ i → FindsEntry bytes table place U (slice_get keys i) None
  read_none i count count_is h = record { key_is = sym (no_key i (omega arith)); leads = tt }

  -- no index is too large for 32 bits
  index_next : (i j : ℕ) → i < n → j ≡ min (i + 1) 4294967295 → j ≡ suc i
  index_next i j below j_is =
      let large : 8 ≤ each = omega arith in
      let few = mul-le-mul_left i large in
      omega (arith, entry_small i below)

  -- the first key above another, by the result of a search
  pub next_read : (key passed : ℤ) (i j : ℕ) (r : Result ℕ ℕ) → passed ≡ key → Searched passed r → r ≡ Ok i → j ≡ min (i + 1) 4294967295 → slice_get keys j ≡ first_of (keys_above keys key)
  next_read key passed i j r same h is j_is =
      let at = found_at key i r (subst (λ k. Searched k r) same h) (ap result_ok is) in
      ap (slice_get keys) (index_next i j (subst (λ k. i < k) length_is (place_below keys key i at)) j_is) ∙ sym (found_next keys key i (parted_found keys key i ascending at))

  -- the key after the one with an index
  pub next_there : (key : ℤ) (i j : ℕ) → slice_get keys i ≡ Some key → j ≡ min (i + 1) 4294967295 → slice_get keys j ≡ first_of (keys_above keys key)
  next_there key i j at j_is =
      let below : i < n = subst (λ k. i < k) length_is (slice_get_within keys i key at) in
      ap (slice_get keys) (index_next i j below j_is) ∙ sym (found_next keys key i (parted_at keys key i ascending at))

  pub next_read_missing : (key passed : ℤ) (i : ℕ) (r : Result ℕ ℕ) → passed ≡ key → Searched passed r → r ≡ Err i → slice_get keys i ≡ first_of (keys_above keys key)
  next_read_missing key passed i r same h is =
      let none : (key_place keys key ≡ None) × (i ≡ keys_below keys key) = subst (Searched key) is (subst (λ k. Searched k r) same h) in
      sym (missing_next keys key i (parted_missing keys key i ascending none.0 none.1))

  -- the last key before an index
  pub read_before : (i j : ℕ) → j ≡ i - 1 → 1 ≤ i → i ≤ length keys → slice_get keys j ≡ last_of (take i keys)
  read_before i j j_is some low =
      let long : length (take i keys) ≡ i = length-take-le i keys low in
      ap (slice_get keys) j_is ∙ sym (get_take keys i (i - 1) (omega arith)) ∙ ap (λ n. slice_get (take i keys) (n - 1)) (sym long)

  pub none_before : (i : ℕ) → i ≡ 0 → FindsEntry bytes table place U (last_of (take i keys)) None
  none_before i none = rw none (record { key_is = refl; leads = tt })

  pub read_last : (i : ℕ) (found : Option KeyValue) → i ≡ n → (i ≤ length keys → FindsEntry bytes table place U (last_of (take i keys)) found) → FindsEntry bytes table place U (last_of keys) found
  read_last i found i_is found_before =
      let all : take i keys ≡ keys = take_all i keys (omega (arith, length_is)) in
      subst (λ ks. FindsEntry bytes table place U (last_of ks) found) all (found_before (omega (arith, length_is)))

  -- the last key below another, by the result of a search
  pub previous_read : (key passed : ℤ) (i : ℕ) (r : Result ℕ ℕ) (found : Option KeyValue) → passed ≡ key → Searched passed r → (r ≡ Ok i) ⊎ (r ≡ Err i)
      → (i ≤ length keys → FindsEntry bytes table place U (last_of (take i keys)) found) → FindsEntry bytes table place U (last_of (lower_keys keys key)) found
  previous_read key passed i r found same h (inl is) found_before =
      let p = parted_found keys key i ascending (found_at key i r (subst (λ k. Searched k r) same h) (ap result_ok is)) in
      subst (λ ks. FindsEntry bytes table place U (last_of ks) found) (sym (found_lower keys key i p)) (found_before (index_low keys key i (key ∷ []) p))
  previous_read key passed i r found same h (inr is) found_before =
      let none : (key_place keys key ≡ None) × (i ≡ keys_below keys key) = subst (Searched key) is (subst (λ k. Searched k r) same h) in
      let p = parted_missing keys key i ascending none.0 none.1 in
      subst (λ ks. FindsEntry bytes table place U (last_of ks) found) (sym (missing_lower keys key i p)) (found_before (index_low keys key i [] p))
