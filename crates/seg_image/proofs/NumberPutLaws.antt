-- Numbers put into a map by their keys: one more, and all of them together.
use Rattle.std.proofs.Common.{◌≡◌, ℕ, zero, suc, ◌+◌, ◌≤◌, ℤ, List, [], ◌∷◌, ◌++◌, length, take, Option, Some, None, Ok, Err, refl, sym, ap, ◌∙◌, subst, arith}
use Rattle.std.specs.Prelude.{insert}
use Rattle.seg_spec.specs.Bytes.{signed_long, ChangesOnly}
use Rattle.seg_spec.specs.Heap.{Span, live}
use Rattle.seg_spec.specs.Owning.{Stands}
use Rattle.seg_spec.specs.Reads.{Place, Opened, Opens, Holds, holds}
use Rattle.seg_spec.specs.Roots.{ChangesPlace}
use Rattle.seg_spec.specs.Types.{Table, Form, form_at, size}
use Rattle.seg_spec.specs.Value.{Value, Values, nil, cons, node, count, Int, Map, Selector, IsAscending, change_nth, with_value_at, default_of}
use Rattle.seg_spec.specs.Items.{key_place, keys_below, insert_nth, with_entry}
use Rattle.seg_spec.proofs.Values.CallPlaceLaws.{stands_after}
use Rattle.seg_spec.proofs.Values.CellChangeLaws.{ChangesOnly-none}
use Rattle.seg_spec.proofs.Values.FormValueLaws.{MapHeld, flat_map_held, map_held}
use Rattle.seg_spec.proofs.Values.PlaceWriteLaws.{changes_place}
use Rattle.seg_raw.specs.declared.code.Code.{Code}
use Rattle.seg_value.specs.Stored.{Stored}
use Rattle.seg_value.proofs.Inside.{changes_twice}
use Rattle.seg_map.specs.EitherMap.{IsMapOf, key_asks}
use Rattle.seg_map.specs.Maps.{value_of, PutsKey}
use Rattle.seg_map.proofs.KeyLaws.{parted_missing, inserted_place, index_low}
use Rattle.seg_image.specs.declared.error.StoppedAt.{StoppedAt}
use Rattle.seg_image.specs.declared.maps.Pair.{Pair}
use Rattle.seg_image.specs.NumberPuts.{with_number_at, with_number, with_numbers, PutsNumber, PutsNumbers, StopsPutting}
use Rattle.seg_image.proofs.PartStoreLaws.{number_stored}

-- a key is put after the others
pub one_more : (allocator : ℕ) (old between new : Stored) (map : Place) (pairs : List Pair) (pair : Pair) → PutsNumbers allocator old between map pairs → PutsNumber allocator between new map pair
    → PutsNumbers allocator old new map (pairs ++ pair ∷ [])
one_more allocator old between new map [] pair chain puts = (new, subst (λ s. PutsNumber allocator s new map pair) chain puts, refl)
one_more allocator old between new map (p ∷ ps) pair chain puts = (chain.0, chain.1, one_more allocator chain.0 between new map ps pair chain.2 puts)

-- ---- the keys and values of a map

record Ordered (keys : List ℤ) (vs : Values) : Type 0 where
  ascending : IsAscending keys
  as_many : length keys ≡ count vs

same_keys : (keys others : List ℤ) (vs ws : Values) → Map keys vs ≡ Map others ws → (keys ≡ others) × (vs ≡ ws)
same_keys keys others vs ws e = (cc, cc)

module _ (bytes : List ℕ) (table : Table) (map : Place) (keys : List ℤ) (vs : Values) (blocks : List ℕ) where
  many : MapHeld bytes table map (Map keys vs) blocks → length keys ≡ count vs
  many m = let same = same_keys keys m.keys vs m.values m.value_is in ap length same.0 ∙ m.as_many ∙ sym (ap count same.1)

  flat_ascends : (U : ℕ) → form_at table map.type ≡ Some (Form.flat_map U) → Holds bytes table map (Map keys vs) blocks → IsAscending keys
  flat_ascends U f (holds form opened inside owned g o each v_is blocks_are) =
      let same : form ≡ Form.flat_map U = cc in
      let it = subst (λ k. Opens bytes table map k opened) same o in
      let labelled = v_is ∙ ap (λ l. node l inside) (ap (λ (x : Opened). x.label) it.opened_is) in
      subst IsAscending (sym (same_keys keys _ vs inside labelled).0) it.ascending

  tree_ascends : (U : ℕ) → form_at table map.type ≡ Some (Form.map U) → Holds bytes table map (Map keys vs) blocks → IsAscending keys
  tree_ascends U f (holds form opened inside owned g o each v_is blocks_are) =
      let same : form ≡ Form.map U = cc in
      let it = subst (λ k. Opens bytes table map k opened) same o in
      let labelled = v_is ∙ ap (λ l. node l inside) (ap (λ (x : Opened). x.label) it.opened_is) in
      subst IsAscending (sym (same_keys keys _ vs inside labelled).0) it.ascending

  ordered : (U : ℕ) → IsMapOf (form_at table map.type) U → Holds bytes table map (Map keys vs) blocks → Ordered keys vs
  ordered U is h = by_form (form_at table map.type) refl is
    where
      by_form : (o : Option Form) → form_at table map.type ≡ o → IsMapOf o U → Ordered keys vs
      by_form (Some (Form.flat_map V)) f is = record { ascending = flat_ascends V f h; as_many = many (flat_map_held bytes table map (Map keys vs) blocks V f h) }
      by_form (Some (Form.map V)) f is = record { ascending = tree_ascends V f h; as_many = many (map_held bytes table map (Map keys vs) blocks V f h) }
      by_form o f is = absurd is

-- a value that was inserted is replaced
replaced : (vs : Values) (i : ℕ) (v : Value) (f : Value → Value) → i ≤ count vs → change_nth (Some i) f (insert_nth vs i v) ≡ insert_nth vs i (f v)
replaced nil zero v f low = refl
replaced nil (suc i) v f low = absurd (omega arith)
replaced (cons u us) zero v f low = refl
replaced (cons u us) (suc i) v f low = ap (cons u) (replaced us i v f (omega arith))

changed_as : (o : Option ℕ) (f g : Value → Value) (vs : Values) → ((v : Value) → f v ≡ g v) → change_nth o f vs ≡ change_nth o g vs
changed_as None f g vs same = refl
changed_as (Some i) f g nil same = refl
changed_as (Some zero) f g (cons v vs) same = ap (λ u. cons u vs) (same v)
changed_as (Some (suc i)) f g (cons v vs) same = ap (cons v) (changed_as (Some i) f g vs same)

-- the map after the number of a key was stored
added_number : (keys : List ℤ) (vs : Values) (default : Value) (pair : Pair) → Ordered keys vs → key_place keys pair.key ≡ None
    → with_value_at (Selector.key pair.key ∷ []) (Int pair.number) (with_entry (keys, vs) pair.key default)
    ≡ Map (insert keys (keys_below keys pair.key) pair.key) (insert_nth vs (keys_below keys pair.key) (Int pair.number))
added_number keys vs default pair ordered none =
    let i = keys_below keys pair.key in
    let p = parted_missing keys pair.key i ordered.ascending none refl in
    let at = inserted_place keys pair.key i p in
    let low : i ≤ count vs = subst (λ n. i ≤ n) ordered.as_many (index_low keys pair.key i [] p) in
    let store = with_value_at [] (Int pair.number) in
    ap (λ o. Map (insert keys i pair.key) (change_nth o store (insert_nth vs i default))) at ∙ ap (λ ws. Map (insert keys i pair.key) ws) (replaced vs i default store low)

changed_number : (keys : List ℤ) (vs : Values) (pair : Pair) (i : ℕ) → key_place keys pair.key ≡ Some i
    → with_value_at (Selector.key pair.key ∷ []) (Int pair.number) (Map keys vs) ≡ Map keys (change_nth (Some i) (λ _. Int pair.number) vs)
changed_number keys vs pair i at =
    let store = with_value_at [] (Int pair.number) in
    ap (λ o. Map keys (change_nth o store vs)) at ∙ ap (λ ws. Map keys ws) (changed_as (Some i) store (λ _. Int pair.number) vs (λ v. refl))

-- ---- all keys together

-- The map has these keys and values, and other blocks.
pub record Receives (old new : Stored) (map : Place) (entries : List ℤ × Values) (blocks : List ℕ) : Type 0 where
  pub others : List ℕ
  pub spans : List Span
  pub changes : ChangesPlace old.window.bytes new.window.bytes old.types map (Map entries.0 entries.1) others spans blocks others
  pub types_kept : new.types ≡ old.types

-- The place has a map of numbers, with these keys and values.
pub record HasNumberMap (allocator : ℕ) (segment : Stored) (map : Place) (U : ℕ) (entries : List ℤ × Values) (blocks : List ℕ) : Type 0 where
  pub map_is : IsMapOf (form_at segment.types map.type) U
  pub number_is : form_at segment.types U ≡ Some Form.i64
  pub stands : Stands allocator segment.window.bytes segment.types map (Map entries.0 entries.1) blocks

-- one key gets its number
pub number_put : (allocator : ℕ) (old new : Stored) (map : Place) (pair : Pair) → PutsNumber allocator old new map pair
    → (U : ℕ) (entries : List ℤ × Values) (blocks : List ℕ) → HasNumberMap allocator old map U entries blocks → Receives old new map (with_number entries pair) blocks
number_put allocator old new map pair puts U entries blocks it = by (key_place entries.0 pair.key) refl (puts.puts U entries.0 entries.1 blocks it.map_is it.stands)
  where
    before : List ℕ
    before = old.window.bytes

    between : List ℕ
    between = puts.between.window.bytes

    now : List ℕ
    now = new.window.bytes

    table : Table
    table = old.types

    by : (o : Option ℕ) → key_place entries.0 pair.key ≡ o
        → PutsKey {E = Code} allocator old.window.bytes puts.between.window.bytes old.types map U entries.0 entries.1 pair.key blocks (key_asks old.window.bytes old.types map.at (form_at old.types map.type)) o (Ok puts.at)
        → Receives old new map (with_number_at o entries pair) blocks
    by None at added =
        let was = Map entries.0 entries.1 in
        let put = with_entry (entries.0, entries.1) pair.key (default_of table U) in
        let path = Selector.key pair.key ∷ [] in
        let first = added.succeeds.changes in
        let stands = stands_after allocator before between table map was put blocks added.others added.succeeds.left it.stands first in
        let second = number_stored allocator between table map put added.others stands (value_of U puts.at) path added.stands_at it.number_is now pair.number puts.changes puts.stored in
        let both = changes_twice allocator before between now table map put (with_value_at path (Int pair.number) put) added.others added.others blocks added.succeeds.left (live between)
        (stands.allocator_is ∙ sym it.stands.allocator_is) stands.heap first second in
        let ordered = ordered before table map entries.0 entries.1 blocks U it.map_is it.stands.holds_it in
        record {
          others = added.others;
          spans = live between;
          changes = subst (λ v. ChangesPlace before now table map v added.others (live between) blocks added.others) (added_number entries.0 entries.1 (default_of table U) pair ordered at) both;
          types_kept = puts.types_kept;
        }
    by (Some i) at there =
        let was = Map entries.0 entries.1 in
        let path = Selector.key pair.key ∷ [] in
        let only = subst (λ b. ChangesOnly b now puts.at 8) there.0 puts.changes in
        let stored = subst (λ (b : List ℕ). puts.at + 8 ≤ length b → signed_long now puts.at ≡ pair.number) there.0 puts.stored in
        let stores = number_stored allocator before table map was blocks it.stands (value_of U puts.at) path there.1 it.number_is now pair.number only stored in
        record {
          others = blocks;
          spans = live before;
          changes = subst (λ v. ChangesPlace before now table map v blocks (live before) blocks blocks) (changed_number entries.0 entries.1 pair i at) stores;
          types_kept = puts.types_kept;
        }

-- the map afterwards
pub numbers_then : (allocator : ℕ) (old new : Stored) (map : Place) (U : ℕ) (entries others : List ℤ × Values) (blocks : List ℕ) → HasNumberMap allocator old map U entries blocks → (r : Receives old new map others blocks)
    → HasNumberMap allocator new map U others r.others
numbers_then allocator old new map U entries others blocks it r = record {
  map_is = subst (λ (t : Table). IsMapOf (form_at t map.type) U) (sym r.types_kept) it.map_is;
  number_is = ap (λ (t : Table). form_at t U) r.types_kept ∙ it.number_is;
  stands = subst (λ (t : Table). Stands allocator new.window.bytes t map (Map others.0 others.1) r.others) (sym r.types_kept)
      (stands_after allocator old.window.bytes new.window.bytes old.types map (Map entries.0 entries.1) (Map others.0 others.1) blocks r.others r.spans it.stands r.changes);
}

-- all keys get their numbers
pub numbers_put : (allocator : ℕ) (old new : Stored) (map : Place) (pairs : List Pair) → PutsNumbers allocator old new map pairs
    → (U : ℕ) (entries : List ℤ × Values) (blocks : List ℕ) → HasNumberMap allocator old map U entries blocks → Receives old new map (with_numbers entries pairs) blocks
numbers_put allocator old new map [] chain U entries blocks it =
    let bytes = old.window.bytes in
    let was = Map entries.0 entries.1 in
    let kept = changes_place allocator bytes old.types map was blocks it.stands bytes (ChangesOnly-none bytes map.at (size old.types map.type)) was blocks blocks it.stands.holds_it in
    subst (λ (s : Stored). Receives old s map entries blocks) (sym chain) (record { others = blocks; spans = live bytes; changes = kept; types_kept = refl })
numbers_put allocator old new map (p ∷ ps) chain U entries blocks it =
    let between = chain.0 in
    let table = old.types in
    let one = number_put allocator old between map p chain.1 U entries blocks it in
    let next = with_number entries p in
    let last = with_numbers next ps in
    let then = numbers_then allocator old between map U entries next blocks it one in
    let rest = numbers_put allocator between new map ps chain.2 U next one.others then in
    let changes = changes_twice allocator old.window.bytes between.window.bytes new.window.bytes table map (Map next.0 next.1) (Map last.0 last.1) one.others rest.others blocks one.spans rest.spans
    (then.stands.allocator_is ∙ sym it.stands.allocator_is) then.stands.heap one.changes
    (subst (λ (t : Table). ChangesPlace between.window.bytes new.window.bytes t map (Map last.0 last.1) rest.others rest.spans one.others rest.others) one.types_kept rest.changes) in
    record { others = rest.others; spans = rest.spans; changes = changes; types_kept = rest.types_kept ∙ one.types_kept }

-- There was no room for one of the keys. Those before it were put, and nothing else changed.
pub record ReceivesFirst (old new : Stored) (map : Place) (entries : List ℤ × Values) (blocks : List ℕ) (pairs : List Pair) (stopped : StoppedAt) : Type 0 where
  pub before : Stored
  pub receives : Receives old before map (with_numbers entries (take stopped.done pairs)) blocks
  pub same : new.window.bytes ≡ before.window.bytes

pub numbers_put_first : (allocator : ℕ) (old new : Stored) (map : Place) (pairs : List Pair) (stopped : StoppedAt) → StopsPutting allocator old new map pairs stopped
    → (U : ℕ) (entries : List ℤ × Values) (blocks : List ℕ) → HasNumberMap allocator old map U entries blocks → ReceivesFirst old new map entries blocks pairs stopped
numbers_put_first allocator old new map pairs stopped stops U entries blocks it =
    let first = take stopped.done pairs in
    let last = with_numbers entries first in
    let r = numbers_put allocator old stops.before map first stops.puts U entries blocks it in
    let then = numbers_then allocator old stops.before map U entries last blocks it r in
    record { before = stops.before; receives = r; same = by (key_place last.0 stops.next.key) last r.others (stops.refused U last.0 last.1 r.others then.map_is then.stands) }
  where
    by : (o : Option ℕ) (last : List ℤ × Values) (others : List ℕ)
        → PutsKey allocator stops.before.window.bytes new.window.bytes stops.before.types map U last.0 last.1 stops.next.key others
        (key_asks stops.before.window.bytes stops.before.types map.at (form_at stops.before.types map.type)) o (Err stopped.code)
        → new.window.bytes ≡ stops.before.window.bytes
    by None last others refused = refused.same
    by (Some i) last others refused = absurd refused
