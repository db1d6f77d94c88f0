-- The content of a place with a buffer, for any position of the buffer.
use Rattle.std.proofs.Common.{◌≡◌, ℕ, zero, suc, ◌+◌, ◌*◌, ◌%◌, ◌≤◌, ◌⊎◌, inl, inr, true, List, [], ◌∷◌, ◌++◌, length, map, Some, refl, sym, ap, ◌∙◌, subst, arith}
use Rattle.std.proofs.Math.Nat.{mul-one, mul-le-mul_right}
use Rattle.std.specs.List.{AllByRecursion}
use Rattle.seg_spec.specs.Bytes.{slice, put, signed, signed_long, IsSame, ChangesOnly}
use Rattle.seg_spec.specs.Types.{Form, Table, form_at, size, IsTable}
use Rattle.seg_spec.specs.Value.{Label, Value, node, Values, nil, Text, Seq, Map, IsAscending}
use Rattle.seg_spec.specs.Heap.{IsHeap}
use Rattle.seg_spec.specs.Block.{Kind, tag_of, has_buffer, has_nodes, KeepsBlock}
use Rattle.seg_spec.specs.Reads.{Place, Opened, count_at, named, start, spaced, places_of, items, keys_at, NamesRoom, Opens, Holds, holds, HoldsEach, holds_none}
use Rattle.seg_spec.specs.Parts.{PersistEach, persist_none, PartsStay, KeepsParts, KeepsAllParts}
use Rattle.seg_spec.specs.Cells.{IsWithin, Shifts}
use Rattle.seg_spec.specs.Owning.{StandsBeside}
use Rattle.seg_spec.specs.Spending.{item_size}
use Rattle.seg_spec.proofs.BytesLaws.{number-slice, length-slice}
use Rattle.seg_spec.proofs.SliceLaws.{slice-slice, slice-put_same, put-changes}
use Rattle.seg_spec.proofs.Values.PlaceFrameLaws.{keys_at-same, spaced-same, inner-same, places-same, shorter, PersistEach-kept}
use Rattle.seg_spec.proofs.Values.PersistenceLaws.{HoldsEach-persist, all_parts, parts_before, each_persists}
use Rattle.seg_spec.proofs.Values.CellChangeLaws.{size_aligned}
use Rattle.seg_spec.proofs.Values.CellShiftLaws.{shift_changes, shifted_persist}

-- ---- the entries

-- the n entries from a position on belong to the value, and the values in them own these blocks
abbrev pub HoldsEntries : List ℕ → Table → Form → ℕ → ℕ → Value → List ℕ → Type 0
HoldsEntries bytes table Form.str at n v owned = (v ≡ Text (slice bytes at n)) × (owned ≡ [])
HoldsEntries bytes table (Form.vec U) at n v owned = (vs : Values) × (v ≡ Seq vs) × HoldsEach bytes table (items table at U n) vs owned
HoldsEntries bytes table (Form.flat_map U) at n v owned =
    let entries = spaced at (8 + size table U) n in
    (vs : Values) × (v ≡ Map (keys_at bytes entries) vs) × IsAscending (keys_at bytes entries) × HoldsEach bytes table (places_of U (map (λ p. p + 8) entries)) vs owned
HoldsEntries bytes table form at n v owned = ⊥

-- the places of the values in the n entries from a position on
abbrev pub entry_places : Table → Form → ℕ → ℕ → List Place
entry_places table (Form.vec U) at n = items table at U n
entry_places table (Form.flat_map U) at n = places_of U (map (λ p. p + 8) (spaced at (8 + size table U) n))
entry_places table form at n = []

-- the place has a buffer with such entries, and owns it
pub record Buffered (bytes : List ℕ) (table : Table) (place : Place) (form : Form) (v : Value) (blocks : List ℕ) : Type 0 where
  pub owned : List ℕ
  pub room : NamesRoom bytes place.at (tag_of Kind.buffer place.type) (item_size table form)
  pub entries : HoldsEntries bytes table form (start bytes place.at) (count_at bytes place.at) v owned
  pub blocks_are : blocks ≡ named bytes place.at ++ owned

module _ (bytes : List ℕ) (table : Table) where
  no_parts : {inside : Values} {owned : List ℕ} → HoldsEach bytes table [] inside owned → (inside ≡ nil) × (owned ≡ [])
  no_parts holds_none = (refl, refl)

  buffered_by : (place : Place) (form : Form) (v : Value) (blocks : List ℕ) (opened : Opened) (inside : Values) (owned : List ℕ) → has_buffer (Some form) ≡ true → Opens bytes table place form opened
      → HoldsEach bytes table opened.parts inside owned → v ≡ node opened.label inside → blocks ≡ opened.blocks ++ owned → Buffered bytes table place form v blocks
  buffered_by place Form.i64 v blocks opened inside owned b o hs v_is blocks_is = absurd (cc)
  buffered_by place (Form.list U) v blocks opened inside owned b o hs v_is blocks_is = absurd (cc)
  buffered_by place (Form.map U) v blocks opened inside owned b o hs v_is blocks_is = absurd (cc)
  buffered_by place (Form.own U) v blocks opened inside owned b o hs v_is blocks_is = absurd (cc)
  buffered_by place (Form.shared U) v blocks opened inside owned b o hs v_is blocks_is = absurd (cc)
  buffered_by place (Form.struct Us) v blocks opened inside owned b o hs v_is blocks_is = absurd (cc)
  buffered_by place Form.str v blocks opened inside owned b o hs v_is blocks_is =
      let none = no_parts (subst (λ ps. HoldsEach bytes table ps inside owned) (ap (λ (r : Opened). r.parts) o.opened_is) hs) in
      record {
        owned = owned;
        room = o.named_room;
        entries = (v_is ∙ ap (λ l. node l inside) (ap (λ (r : Opened). r.label) o.opened_is) ∙ ap (λ vs. node (Label.text (slice bytes (start bytes place.at) (count_at bytes place.at))) vs) none.0, none.1);
        blocks_are = blocks_is ∙ ap (λ bs. bs ++ owned) (ap (λ (r : Opened). r.blocks) o.opened_is);
      }
  buffered_by place (Form.vec U) v blocks opened inside owned b o hs v_is blocks_is = record {
    owned = owned;
    room = o.named_room;
    entries = (
      inside,
      v_is ∙ ap (λ l. node l inside) (ap (λ (r : Opened). r.label) o.opened_is),
      subst (λ ps. HoldsEach bytes table ps inside owned) (ap (λ (r : Opened). r.parts) o.opened_is) hs,
    );
    blocks_are = blocks_is ∙ ap (λ bs. bs ++ owned) (ap (λ (r : Opened). r.blocks) o.opened_is);
  }
  buffered_by place (Form.flat_map U) v blocks opened inside owned b o hs v_is blocks_is = record {
    owned = owned;
    room = o.named_room;
    entries = (
      inside,
      v_is ∙ ap (λ l. node l inside) (ap (λ (r : Opened). r.label) o.opened_is),
      o.ascending,
      subst (λ ps. HoldsEach bytes table ps inside owned) (ap (λ (r : Opened). r.parts) o.opened_is) hs,
    );
    blocks_are = blocks_is ∙ ap (λ bs. bs ++ owned) (ap (λ (r : Opened). r.blocks) o.opened_is);
  }

  same_form : (f g : Form) → Some f ≡ Some g → f ≡ g
  same_form f g e = cc

  pub buffered : (place : Place) (form : Form) (v : Value) (blocks : List ℕ) → form_at table place.type ≡ Some form → has_buffer (Some form) ≡ true → Holds bytes table place v blocks → Buffered bytes table place form v blocks
  buffered place form v blocks f b (holds g opened inside owned e o hs v_is blocks_is) =
      let same = same_form g form (sym e ∙ f) in
      buffered_by place form v blocks opened inside owned b (subst (λ h. Opens bytes table place h opened) same o) hs v_is blocks_is

  -- a place whose cell points to such entries contains the value
  pub holds_buffered : (place : Place) (form : Form) (v : Value) (owned : List ℕ) → form_at table place.type ≡ Some form → has_buffer (Some form) ≡ true →
      NamesRoom bytes place.at (tag_of Kind.buffer place.type) (item_size table form) → HoldsEntries bytes table form (start bytes place.at) (count_at bytes place.at) v owned →
      Holds bytes table place v (named bytes place.at ++ owned)
  holds_buffered place Form.i64 v owned f b room e = absurd (cc)
  holds_buffered place (Form.list U) v owned f b room e = absurd (cc)
  holds_buffered place (Form.map U) v owned f b room e = absurd (cc)
  holds_buffered place (Form.own U) v owned f b room e = absurd (cc)
  holds_buffered place (Form.shared U) v owned f b room e = absurd (cc)
  holds_buffered place (Form.struct Us) v owned f b room e = absurd (cc)
  holds_buffered place Form.str v owned f b room e =
      holds {place = place} Form.str (record { label = Label.text (slice bytes (start bytes place.at) (count_at bytes place.at)); blocks = named bytes place.at; parts = [] }) nil [] f
      (record { named_room = room; ascending = tt; opened_is = refl }) holds_none e.0 (ap (λ os. named bytes place.at ++ os) e.1)
  holds_buffered place (Form.vec U) v owned f b room e =
      holds {place = place} (Form.vec U) (record { label = Label.seq; blocks = named bytes place.at; parts = items table (start bytes place.at) U (count_at bytes place.at) }) e.0 owned f
      (record { named_room = room; ascending = tt; opened_is = refl }) e.2 e.1 refl
  holds_buffered place (Form.flat_map U) v owned f b room e =
      let entries = spaced (start bytes place.at) (8 + size table U) (count_at bytes place.at) in
      holds {place = place} (Form.flat_map U) (record { label = Label.map (keys_at bytes entries); blocks = named bytes place.at; parts = places_of U (map (λ p. p + 8) entries) }) e.0 owned f
      (record { named_room = room; ascending = e.2; opened_is = refl }) e.3 e.1 refl

-- ---- entries that move

-- the bytes after n entries were moved
abbrev pub MovesEntries : List ℕ → List ℕ → Table → Form → ℕ → ℕ → ℕ → Type 0
MovesEntries old new table Form.str from to n = new ≡ put old to (slice old from (n * 1))
MovesEntries old new table (Form.vec U) from to n = Shifts old new table 0 U (size table U) from to n
MovesEntries old new table (Form.flat_map U) from to n = Shifts old new table 8 U (8 + size table U) from to n
MovesEntries old new table form from to n = ⊥

no_before : (ps : List ℕ) → map (λ p. p + 0) ps ≡ ps
no_before [] = refl
no_before (p ∷ ps) = let e : p + 0 ≡ p = omega arith in rw (e, no_before ps) refl

-- a key doesn't overlap the values of later entries
all_after : (q s each m k : ℕ) → q ≤ s → AllByRecursion (λ p. (q + 8 ≤ p) ⊎ (p + m ≤ q)) (map (λ p. p + 8) (spaced s each k))
all_after q s each m zero l = tt
all_after q s each m (suc k) l = (inl (omega arith), all_after q (s + each) each m k (omega arith))

-- a key doesn't overlap the values of its own entry and of others
key_beside : (q s each m i k : ℕ) → 8 + m ≡ each → q ≡ s + i * each → AllByRecursion (λ p. (q + 8 ≤ p) ⊎ (p + m ≤ q)) (map (λ p. p + 8) (spaced s each k))
key_beside q s each m i zero e at = tt
key_beside q s each m zero (suc k) e at = all_after q s each m (suc k) (omega arith)
key_beside q s each m (suc i) (suc k) e at =
    let more : suc i * each ≡ each + i * each = grind arith in
    (inr (omega arith), key_beside q (s + each) each m i k e (omega arith))

keys_there : (old new : List ℕ) (each a b k : ℕ) → ((j : ℕ) → suc j ≤ k → slice new (a + j * each) 8 ≡ slice old (b + j * each) 8) → keys_at new (spaced a each k) ≡ keys_at old (spaced b each k)
keys_there old new each a b zero f = refl
keys_there old new each a b (suc k) f =
    let first = f 0 (omega arith) in
    let here : a + 0 * each ≡ a = omega arith in
    let there : b + 0 * each ≡ b = omega arith in
    let same : slice new a 8 ≡ slice old b 8 = rw (here, there) at first in
    let key : signed_long new a ≡ signed_long old b = ap signed (number-slice 8 old new a b same) in
    rw (key, keys_there old new each (a + each) (b + each) k (λ j l. next j (f (suc j) (omega arith)))) refl
  where
    next : (j : ℕ) → slice new (a + suc j * each) 8 ≡ slice old (b + suc j * each) 8 → slice new (a + each + j * each) 8 ≡ slice old (b + each + j * each) 8
    next j e =
        let here : a + each + j * each ≡ a + suc j * each = grind arith in
        let there : b + each + j * each ≡ b + suc j * each = grind arith in
        rw (here, there) e

module _ (old new : List ℕ) (table : Table) (valid : IsTable table) (from to n : ℕ) where
  -- the keys move with their entries
  moved_keys : (U : ℕ) → Shifts old new table 8 U (8 + size table U) from to n → from + n * (8 + size table U) ≤ length old → to + n * (8 + size table U) ≤ length old
      → keys_at new (spaced to (8 + size table U) n) ≡ keys_at old (spaced from (8 + size table U) n)
  moved_keys U s from_in to_in = keys_there old new (8 + size table U) to from n (λ j l. one j l)
    where
      long : n * (8 + size table U) ≡ length (slice old from (n * (8 + size table U)))
      long = sym (length-slice old from (n * (8 + size table U)) from_in)

      copied : slice (put old to (slice old from (n * (8 + size table U)))) to (n * (8 + size table U)) ≡ slice old from (n * (8 + size table U))
      copied = slice-put_same old to (slice old from (n * (8 + size table U))) (n * (8 + size table U)) long to_in

      one : (j : ℕ) → suc j ≤ n → slice new (to + j * (8 + size table U)) 8 ≡ slice old (from + j * (8 + size table U)) 8
      one j l =
          let each = 8 + size table U in
          let whole = mul-le-mul_right each l in
          let more : suc j * each ≡ each + j * each = grind arith in
          let fits : j * each + 8 ≤ n * each = omega arith in
          s.changed.beside (to + j * each) 8 (key_beside (to + j * each) to each (size table U) j n refl refl)
          ∙ sym (slice-slice (put old to (slice old from (n * each))) to (n * each) (j * each) 8 fits) ∙ ap (λ xs. slice xs (j * each) 8) copied ∙ slice-slice old from (n * each) (j * each) 8 fits

  module _ (allocator home : ℕ) (heap : IsHeap allocator old) (even : to % 8 ≡ 0) where
    -- the values in entries that are moved persist
    pub entries_persist : (form : Form) (v : Value) (owned : List ℕ) → IsWithin old from (n * item_size table form) → StandsBeside old home to (n * item_size table form) owned
        → MovesEntries old new table form from to n → HoldsEntries old table form from n v owned → PersistEach old new table (entry_places table form from n) (entry_places table form to n)
    entries_persist Form.i64 v owned from_in beside m e = absurd m
    entries_persist (Form.list U) v owned from_in beside m e = absurd m
    entries_persist (Form.map U) v owned from_in beside m e = absurd m
    entries_persist (Form.own U) v owned from_in beside m e = absurd m
    entries_persist (Form.shared U) v owned from_in beside m e = absurd m
    entries_persist (Form.struct Us) v owned from_in beside m e = absurd m
    entries_persist Form.str v owned from_in beside m e = persist_none
    entries_persist (Form.vec U) v owned from_in beside m e =
        let e8 = size_aligned table valid U in
        let here = no_before (spaced from (size table U) n) in
        let there = no_before (spaced to (size table U) n) in
        let was = subst (λ ps. HoldsEach old table (places_of U ps) e.0 owned) (sym here) e.2 in
        let is = shifted_persist old (put old to (slice old from (n * size table U))) new table valid m.distance 0 (size table U) U n from to refl from_in m.changed
        allocator home e.0 owned heap beside (omega arith) m.back even e8 refl was in
        subst (λ ps. PersistEach old new table (items table from U n) (places_of U ps)) there (subst (λ ps. PersistEach old new table (places_of U ps) (places_of U (map (λ p. p + 0) (spaced to (size table U) n)))) here is)
    entries_persist (Form.flat_map U) v owned from_in beside m e =
        let e8 = size_aligned table valid U in
        shifted_persist old (put old to (slice old from (n * (8 + size table U)))) new table valid m.distance 8 (8 + size table U) U n from to refl from_in m.changed
        allocator home e.0 owned heap beside (omega arith) m.back even (omega arith) refl e.3

    -- moved entries belong to the same value
    pub entries_moved : (form : Form) (v : Value) (owned : List ℕ) → IsWithin old from (n * item_size table form) → to + n * item_size table form ≤ length old → StandsBeside old home to (n * item_size table form) owned
        → MovesEntries old new table form from to n → HoldsEntries old table form from n v owned → HoldsEntries new table form to n v owned
    entries_moved Form.i64 v owned from_in to_in beside m e = absurd m
    entries_moved (Form.list U) v owned from_in to_in beside m e = absurd m
    entries_moved (Form.map U) v owned from_in to_in beside m e = absurd m
    entries_moved (Form.own U) v owned from_in to_in beside m e = absurd m
    entries_moved (Form.shared U) v owned from_in to_in beside m e = absurd m
    entries_moved (Form.struct Us) v owned from_in to_in beside m e = absurd m
    entries_moved Form.str v owned from_in to_in beside m e =
        let one : n * 1 ≡ n = mul-one n in
        let m' : new ≡ put old to (slice old from n) = rw one at m in
        let fits = from_in.fits in
        let long : n ≡ length (slice old from n) = sym (length-slice old from n (omega arith)) in
        let text : slice new to n ≡ slice old from n = ap (λ b. slice b to n) m' ∙ slice-put_same old to (slice old from n) n long (omega arith) in
        (e.0 ∙ ap (λ bs. Text bs) (sym text), e.1)
    entries_moved (Form.vec U) v owned from_in to_in beside m e =
        (e.0, e.1, HoldsEach-persist old new table e.2 (entries_persist (Form.vec U) v owned from_in beside m e))
    entries_moved (Form.flat_map U) v owned from_in to_in beside m e =
        let keys = moved_keys U m from_in.fits to_in in
        (e.0, e.1 ∙ ap (λ ks. Map ks e.0) (sym keys), subst IsAscending (sym keys) e.2, HoldsEach-persist old new table e.3 (entries_persist (Form.flat_map U) v owned from_in beside m e))

    -- no other bytes change
    pub entries_changes : (form : Form) → IsWithin old from (n * item_size table form) → MovesEntries old new table form from to n → ChangesOnly old new to (n * item_size table form)
    entries_changes Form.i64 from_in m = absurd m
    entries_changes (Form.list U) from_in m = absurd m
    entries_changes (Form.map U) from_in m = absurd m
    entries_changes (Form.own U) from_in m = absurd m
    entries_changes (Form.shared U) from_in m = absurd m
    entries_changes (Form.struct Us) from_in m = absurd m
    entries_changes Form.str from_in m =
        let long = length-slice old from (n * 1) from_in.fits in
        rw m (subst (λ k. ChangesOnly old (put old to (slice old from (n * 1))) to k) long (put-changes old to (slice old from (n * 1))))
    entries_changes (Form.vec U) from_in m = shift_changes old (put old to (slice old from (n * size table U))) new table valid m.distance 0 (size table U) U n from to refl from_in m.changed
    entries_changes (Form.flat_map U) from_in m = shift_changes old (put old to (slice old from (n * (8 + size table U)))) new table valid m.distance 8 (8 + size table U) U n from to refl from_in m.changed

-- the values in entries persist if the entries' bytes and the values' blocks are kept
pub entries_stay : (old new : List ℕ) (table : Table) → IsTable table → (form : Form) (at n : ℕ) (v : Value) (owned : List ℕ) → IsSame old new at (n * item_size table form) → AllByRecursion (KeepsBlock old new) owned
    → HoldsEntries old table form at n v owned → PersistEach old new table (entry_places table form at n) (entry_places table form at n)
entries_stay old new table valid Form.i64 at n v owned same kept e = absurd e
entries_stay old new table valid (Form.list U) at n v owned same kept e = absurd e
entries_stay old new table valid (Form.map U) at n v owned same kept e = absurd e
entries_stay old new table valid (Form.own U) at n v owned same kept e = absurd e
entries_stay old new table valid (Form.shared U) at n v owned same kept e = absurd e
entries_stay old new table valid (Form.struct Us) at n v owned same kept e = absurd e
entries_stay old new table valid Form.str at n v owned same kept e = persist_none
entries_stay old new table valid (Form.vec U) at n v owned same kept e =
    PersistEach-kept old new table valid e.2 (places-same old new table valid U (spaced at (size table U) n) (spaced-same old new at (size table U) n same)) kept
entries_stay old new table valid (Form.flat_map U) at n v owned same kept e =
    let entries = spaced at (8 + size table U) n in
    PersistEach-kept old new table valid e.3 (inner-same old new table valid U 8 (8 + size table U) entries (omega arith) (spaced-same old new at (8 + size table U) n same)) kept

-- entries stay if their bytes and the blocks of their values are kept
pub entries_kept : (old new : List ℕ) (table : Table) → IsTable table → (form : Form) (at n : ℕ) (v : Value) (owned : List ℕ) → IsSame old new at (n * item_size table form) → AllByRecursion (KeepsBlock old new) owned
    → HoldsEntries old table form at n v owned → HoldsEntries new table form at n v owned
entries_kept old new table valid Form.i64 at n v owned same kept e = absurd e
entries_kept old new table valid (Form.list U) at n v owned same kept e = absurd e
entries_kept old new table valid (Form.map U) at n v owned same kept e = absurd e
entries_kept old new table valid (Form.own U) at n v owned same kept e = absurd e
entries_kept old new table valid (Form.shared U) at n v owned same kept e = absurd e
entries_kept old new table valid (Form.struct Us) at n v owned same kept e = absurd e
entries_kept old new table valid Form.str at n v owned same kept e =
    let text : slice new at n ≡ slice old at n = rw (mul-one n) at same in
    (e.0 ∙ ap (λ bs. Text bs) (sym text), e.1)
entries_kept old new table valid (Form.vec U) at n v owned same kept e =
    (e.0, e.1, HoldsEach-persist old new table e.2 (entries_stay old new table valid (Form.vec U) at n v owned same kept e))
entries_kept old new table valid (Form.flat_map U) at n v owned same kept e =
    let all = spaced-same old new at (8 + size table U) n same in
    let entries = spaced at (8 + size table U) n in
    let keys = keys_at-same old new entries (shorter old new table valid (8 + size table U) 8 entries (omega arith) all) in
    (e.0, e.1 ∙ ap (λ ks. Map ks e.0) (sym keys), subst IsAscending (sym keys) e.2, HoldsEach-persist old new table e.3 (entries_stay old new table valid (Form.flat_map U) at n v owned same kept e))

slice_none : (bytes : List ℕ) (at : ℕ) → slice bytes at 0 ≡ []
unfolding slice
slice_none bytes at = refl

-- an empty list of entries is at every position
pub entries_none : (bytes : List ℕ) (table : Table) (form : Form) (at to : ℕ) (v : Value) (owned : List ℕ) → HoldsEntries bytes table form at 0 v owned → HoldsEntries bytes table form to 0 v owned
entries_none bytes table Form.i64 at to v owned e = absurd e
entries_none bytes table (Form.list U) at to v owned e = absurd e
entries_none bytes table (Form.map U) at to v owned e = absurd e
entries_none bytes table (Form.own U) at to v owned e = absurd e
entries_none bytes table (Form.shared U) at to v owned e = absurd e
entries_none bytes table (Form.struct Us) at to v owned e = absurd e
entries_none bytes table Form.str at to v owned e = (e.0 ∙ ap (λ bs. Text bs) (slice_none bytes at ∙ sym (slice_none bytes to)), e.1)
entries_none bytes table (Form.vec U) at to v owned e = e
entries_none bytes table (Form.flat_map U) at to v owned e = e

pub no_places : (table : Table) (form : Form) (at : ℕ) → entry_places table form at 0 ≡ []
no_places table Form.i64 at = refl
no_places table Form.str at = refl
no_places table (Form.vec U) at = refl
no_places table (Form.list U) at = refl
no_places table (Form.flat_map U) at = refl
no_places table (Form.map U) at = refl
no_places table (Form.own U) at = refl
no_places table (Form.shared U) at = refl
no_places table (Form.struct Us) at = refl

-- ---- the parts of a place with a buffer

module _ (bytes : List ℕ) (table : Table) where
  -- what a place with a buffer opens as
  pub record OpensEntries (place : Place) (form : Form) : Type 0 where
    pub opened : Opened
    pub opens : Opens bytes table place form opened
    pub parts_are : opened.parts ≡ entry_places table form (start bytes place.at) (count_at bytes place.at)

  opens_by : (place : Place) (form : Form) (opened : Opened) → has_buffer (Some form) ≡ true → Opens bytes table place form opened → opened.parts ≡ entry_places table form (start bytes place.at) (count_at bytes place.at)
  opens_by place Form.i64 opened b o = absurd (cc)
  opens_by place (Form.list U) opened b o = absurd (cc)
  opens_by place (Form.map U) opened b o = absurd (cc)
  opens_by place (Form.own U) opened b o = absurd (cc)
  opens_by place (Form.shared U) opened b o = absurd (cc)
  opens_by place (Form.struct Us) opened b o = absurd (cc)
  opens_by place Form.str opened b o = ap (λ (r : Opened). r.parts) o.opened_is
  opens_by place (Form.vec U) opened b o = ap (λ (r : Opened). r.parts) o.opened_is
  opens_by place (Form.flat_map U) opened b o = ap (λ (r : Opened). r.parts) o.opened_is

  pub opens_entries : (place : Place) (form : Form) (v : Value) (blocks : List ℕ) → form_at table place.type ≡ Some form → has_buffer (Some form) ≡ true → Holds bytes table place v blocks → OpensEntries place form
  opens_entries place form v blocks f b (holds g opened inside owned e o hs v_is blocks_is) =
      let o' = subst (λ h. Opens bytes table place h opened) (same_form bytes table g form (sym e ∙ f)) o in
      record { opened = opened; opens = o'; parts_are = opens_by place form opened b o' }

module _ (old new : List ℕ) (table : Table) (place : Place) (form : Form) (v w : Value) (blocks others : List ℕ) (f : form_at table place.type ≡ Some form) (b : has_buffer (Some form) ≡ true)
    (before : Holds old table place v blocks) (after : Holds new table place w others) where
  abbrev was : List Place
  was = entry_places table form (start old place.at) (count_at old place.at)

  abbrev is : List Place
  is = entry_places table form (start new place.at) (count_at new place.at)

  -- a buffer isn't made of nodes
  no_nodes : (form : Form) → has_buffer (Some form) ≡ true → has_nodes (Some form) ≡ true → ⊥
  no_nodes Form.i64 b n = cc
  no_nodes Form.str b n = cc
  no_nodes (Form.vec U) b n = cc
  no_nodes (Form.list U) b n = cc
  no_nodes (Form.flat_map U) b n = cc
  no_nodes (Form.map U) b n = cc
  no_nodes (Form.own U) b n = cc
  no_nodes (Form.shared U) b n = cc
  no_nodes (Form.struct Us) b n = cc

  -- the parts of a place with a buffer stay if the values in its entries do
  pub parts_stay : (from gone come : ℕ) → PartsStay old new table form was is from gone come → KeepsParts old new table place from gone come
  parts_stay from gone come s =
      let o = opens_entries old table place form v blocks f b before in
      let n = opens_entries new table place form w others f b after in
      record {
        form = form;
        form_is = f;
        before = o.opened;
        opens_before = o.opens;
        after = n.opened;
        opens_after = n.opens;
        stay = subst (λ ps. PartsStay old new table form ps n.opened.parts from gone come) (sym o.parts_are) (subst (λ ps. PartsStay old new table form was ps from gone come) (sym n.parts_are) s);
      }

  pub all_entries_stay : PersistEach old new table was is → KeepsAllParts old new table place
  all_entries_stay each = parts_stay 0 0 0 (all_parts old new table form was is (λ n. absurd (no_nodes form b n)) each)

  -- the first parts stay, and some come after them
  pub entries_come : (come : List Place) (now : List Place) → PersistEach old new table was now → is ≡ now ++ come → KeepsParts old new table place (length was) 0 (length come)
  entries_come come now each e = parts_stay (length was) 0 (length come)
      (subst (λ ps. PartsStay old new table form was ps (length was) 0 (length come)) (sym e) (parts_before old new table form was now come (λ n. absurd (no_nodes form b n)) each))

  -- if no part came or went, the values in the entries persist
  pub each_entry_persists : KeepsAllParts old new table place → PersistEach old new table was is
  each_entry_persists k =
      let o = opens_entries old table place form v blocks f b before in
      let n = opens_entries new table place form w others f b after in
      let each = each_persists old new table place form o.opened n.opened f o.opens n.opens k in
      subst (λ ps. PersistEach old new table ps is) o.parts_are (subst (λ ps. PersistEach old new table o.opened.parts ps) n.parts_are each)
