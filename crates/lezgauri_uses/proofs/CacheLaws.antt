-- The places of a cache in an image, and their values.
use Rattle.std.proofs.Common.{◌≡◌, ℕ, zero, suc, ◌+◌, ◌*◌, ◌<◌, ◌≤◌, Bool, List, [], ◌∷◌, ◌++◌, length, take, drop, Option, Some, None, Ok, refl, sym, ap, ◌∙◌, subst, arith}
use Rattle.std.specs.Prelude.{ℤ, pos, codes, option_and_then, remove}
use Rattle.std.specs.List.{AllByRecursion}
use Rattle.std.proofs.lemmas.List.{append-nil}
use Rattle.std.proofs.lemmas.List.Quantifiers.{position-Some}
use Rattle.seg_spec.specs.Bytes.{word, signed_long, ChangesOnly}
use Rattle.seg_spec.specs.Header.{allocator_word, next_word, KeepsFront}
use Rattle.seg_spec.specs.Types.{Form, Table, form_at, size}
use Rattle.seg_spec.specs.Value.{Value, Values, nil, cons, Int, Seq, Map, nth, count, append, Selector, value_at, with_value_at, change_nth, default_of, same_int}
use Rattle.seg_spec.specs.Items.{key_place, with_entry, without_entry, remove_nth}
use Rattle.seg_spec.specs.Shared.{names_in, names_each, named_in, IsBelow}
use Rattle.seg_spec.specs.Heap.{Span, live}
use Rattle.seg_spec.specs.Reads.{Place, Holds, Leads, here}
use Rattle.seg_spec.specs.Index.{Root, plain_root}
use Rattle.seg_spec.specs.Sound.{Picture, IsHeld}
use Rattle.seg_spec.specs.Roots.{Listed, with_item, IsReached, item_of, ChangesPlace}
use Rattle.seg_spec.specs.Demand.{Ask, after_gives}
use Rattle.seg_spec.specs.Counting.{AreCounted}
use Rattle.seg_spec.proofs.Images.ReachedPlaceLaws.{FoundPlace, found_place, shared_there}
use Rattle.seg_spec.proofs.Frozen.ValueCellLaws.{names_seq, names_map, remove_named}
use Rattle.seg_spec.proofs.Frozen.PartCountLaws.{names_same, names_then}
use Rattle.seg_spec.proofs.Frozen.CountDecreaseLaws.{named_positions}
use Rattle.seg_spec.proofs.Values.FormValueLaws.{map_held}
use Rattle.seg_spec.proofs.Images.RootCallLaws.{place_changed}
use Rattle.seg_spec.proofs.Images.RootWriteLaws.{number_held, part_fits}
use Rattle.seg_spec.proofs.Values.OneValueLaws.{Holds-one}
use Rattle.seg_spec.proofs.Values.PlaceWriteLaws.{changes_place}
use Rattle.seg_spec.proofs.Tables.TypeSizeLaws.{size-form}
use Rattle.lezgauri.specs.Image.{Image}
use Rattle.lezgauri.specs.Images.{segment_of, allocator_of, bytes_in, types_of, ChangesBytes}
use Rattle.lezgauri.specs.Maps.{value_of, FindsValue, PutsKey, TakesKey, RemovesKey}
use Rattle.lezgauri.specs.EitherMap.{IsMapOf}
use Rattle.lezgauri.specs.Lists.{HasList, AddsItem, RemovesItem, LosesItem}
use Rattle.lezgauri.specs.Places.{WhereMap}
use Rattle.lezgauri.specs.CellPlaces.{place_of}
use Rattle.lezgauri.specs.Place as program
use Rattle.lezgauri.specs.Code.{Code}
use Rattle.lezgauri_uses.specs.Tables.{with_key_at, with_key, with_number, number_at}
use Rattle.lezgauri_uses.specs.Caches.{types, items_of, picture_of, HasCache, without_at, without_key, without_keys}
use Rattle.lezgauri_uses.proofs.TableLaws.{found_value, key_named, number_put_named, allocator_same}

-- ---- values that share no object

items_named : (keys : List ℤ) → names_each (items_of keys) ≡ []
unfolding names_in names_each
items_named [] = refl
items_named (k ∷ keys) = items_named keys

module _ (order_at values_at : ℕ) (keys : List ℤ) (entries : List ℤ × Values) where
  none_named : (next : ℕ) → AreCounted next (picture_of order_at values_at keys entries) → names_each entries.1 ≡ []
  unfolding names_in names_each
  none_named next h =
      go (names_each entries.1) (subst (λ (xs : List Place). AllByRecursion (IsBelow next []) (((xs ++ []) ++ (((names_each entries.1 ++ []) ++ []))))) (items_named keys) h.counted.named)
    where
      go : (xs : List Place) → AllByRecursion (IsBelow next []) ((xs ++ []) ++ []) → xs ≡ []
      go [] a = refl
      go (x ∷ xs) a = absurd a.0

  counts_none : (next : ℕ) → names_each entries.1 ≡ [] → AreCounted next (picture_of order_at values_at keys entries)
  unfolding names_in names_each
  counts_none next none = record {
    counted = record {
      distinct = tt;
      numbered = tt;
      named = subst (λ (xs : List Place). AllByRecursion (IsBelow next []) ((xs ++ []) ++ ((names_each entries.1 ++ []) ++ []))) (sym (items_named keys))
          (subst (λ (xs : List Place). AllByRecursion (IsBelow next []) ((xs ++ []) ++ [])) (sym none) tt);
      falling = tt;
      some = tt;
      counts = tt;
    };
    falling = tt;
  }

pub some_value : 0 < 1
some_value = omega arith

-- frozen objects that don't exist own no blocks
no_frozen : (old new : List ℕ) (table : Table) (place : Place) (w : Value) (others : List ℕ) {spans : List Span} (blocks : List ℕ) → ChangesPlace old new table place w others spans (blocks ++ []) (others ++ [])
    → ChangesPlace old new table place w others spans blocks others
no_frozen old new table place w others {spans = spans} blocks c =
    subst (λ (bs : List ℕ). ChangesPlace old new table place w others spans blocks bs) (append-nil others)
    (subst (λ (bs : List ℕ). ChangesPlace old new table place w others spans bs (others ++ [])) (append-nil blocks) c)

-- ---- a named object in a picture

module _ (bytes : List ℕ) (picture : Picture) (held : IsHeld bytes picture) (counted : AreCounted (word bytes next_word) picture) (before : List Root) (root : Root) (after : List Root) (among : picture.names ≡ before ++ root ∷ after)
    (some : 0 < count root.values) (path : List Selector) (place : Place) (leads : Leads bytes picture.table (item_of picture.table root 0) path place) where
  abbrev pub reached : IsReached bytes picture place
  reached = record { which = Listed.by_name; before = before; root = root; after = after; among = among; item = 0; within = some; path = path; leads = leads }

  abbrev pub Found : Value → Type 0
  Found w = FoundPlace bytes picture held counted place reached (word bytes allocator_word) picture.table w

  pub found_at : (whole w : Value) → nth root.values 0 ≡ Some whole → value_at whole path ≡ Some w → Found w
  found_at whole w item_is value_is = found_value bytes picture held counted place reached whole w item_is value_is

  pub some_found : (w : Value) × Found w
  some_found = found_place bytes picture held counted place reached

  pub place_then : (v : Value) (f : Found v) (new : List ℕ) (w : Value) (others : List ℕ) {spans : List Span} → ChangesPlace bytes new picture.table place w others spans f.blocks others
      → IsHeld new (record picture { names = before ++ with_item root 0 (with_value_at path w) ∷ after })
  place_then v f new w others {spans = spans} c = place_changed bytes new picture held Listed.by_name before root after among 0 some path place leads {spans = spans} v w f.blocks others f.stands.holds_it c

  pub place_fits : place.at + size picture.table place.type ≤ length bytes
  place_fits = part_fits bytes picture held Listed.by_name before root after among 0 some path place leads

  -- a number was stored there
  pub number_then : form_at picture.table place.type ≡ Some Form.i64 → (new : List ℕ) (number : ℤ) → ChangesOnly bytes new place.at 8 → signed_long new place.at ≡ number
      → KeepsFront bytes new × IsHeld new (record picture { names = before ++ with_item root 0 (with_value_at path (Int number)) ∷ after })
  number_then form new number only is =
      let table = picture.table in
      let v = some_found.0 in
      let f = some_found.1 in
      let was = Holds-one bytes table f.stands.holds_it (number_held bytes table place form) in
      let eight = subst (λ n. ChangesOnly bytes new place.at n) (sym (size-form table f.stands.is_table place.type Form.i64 form)) only in
      let holds_new = subst (λ (k : ℤ). Holds new table place (Int k) []) is (number_held new table place form) in
      let changes = subst (λ bs. ChangesPlace bytes new table place (Int number) [] (live bytes) bs []) (sym was.1)
      (changes_place (word bytes allocator_word) bytes table place v f.blocks f.stands new eight (Int number) [] [] holds_new) in
      (changes.front_kept, place_then v f new (Int number) [] changes)

  pub number_there : form_at picture.table place.type ≡ Some Form.i64 → (whole : Value) (number : ℤ) → nth root.values 0 ≡ Some whole → value_at whole path ≡ Some (Int number) → signed_long bytes place.at ≡ number
  number_there form whole number item_is value_is =
      let f = found_at whole (Int number) item_is value_is in
      let same : Int number ≡ Int (signed_long bytes place.at) = (Holds-one bytes picture.table f.stands.holds_it (number_held bytes picture.table place form)).0 in
      cc

map_length : (keys other : List ℤ) (vs ws : Values) → Map keys vs ≡ Map other ws → length other ≡ count ws → length keys ≡ count vs
map_length keys other vs ws same h =
    let k : keys ≡ other = cc in
    let v : vs ≡ ws = cc in
    ap length k ∙ h ∙ sym (ap count v)

nth_below : (vs : Values) (i : ℕ) → i < count vs → (v : Value) × (nth vs i ≡ Some v)
nth_below nil i lt = absurd (omega arith)
nth_below (cons v vs) zero lt = (v, refl)
nth_below (cons v vs) (suc i) lt = nth_below vs i (omega arith)

removed_named : (vs : Values) (i : ℕ) → names_each vs ≡ [] → names_each (remove_nth vs i) ≡ []
unfolding names_in names_each
removed_named nil i none = refl
removed_named (cons v vs) zero none = rest (names_in v) none
  where
    rest : (xs : List Place) → xs ++ names_each vs ≡ [] → names_each vs ≡ []
    rest [] e = e
    rest (x ∷ xs) e = cc
removed_named (cons v vs) (suc i) none = both (names_in v) (removed_named vs i) none
  where
    both : (xs : List Place) → (names_each vs ≡ [] → names_each (remove_nth vs i) ≡ []) → xs ++ names_each vs ≡ [] → xs ++ names_each (remove_nth vs i) ≡ []
    both [] rest e = rest e
    both (x ∷ xs) rest e = cc

without_named : (o : Option ℕ) (entries : List ℤ × Values) → names_each entries.1 ≡ [] → names_each (without_at o entries).1 ≡ []
without_named None entries none = none
without_named (Some i) entries none = removed_named entries.1 i none

nth_changed : (vs : Values) (i : ℕ) (v : Value) (number : ℤ) → nth vs i ≡ Some v → nth (change_nth (Some i) (λ old. Int number) vs) i ≡ Some (Int number)
nth_changed nil i v number is = cc
nth_changed (cons w vs) zero v number is = refl
nth_changed (cons w vs) (suc i) v number is = nth_changed vs i v number is

changed_there : (vs : Values) (o : Option ℕ) (v : Value) (number : ℤ) → option_and_then (λ u. Some u) (option_and_then (λ i. nth vs i) o) ≡ Some v
    → option_and_then (λ i. nth (change_nth o (λ old. Int number) vs) i) o ≡ Some (Int number)
changed_there vs None v number is = cc
changed_there vs (Some i) v number is = nth_changed vs i v number (inside (nth vs i) is)
  where
    inside : (o : Option Value) → option_and_then (λ u. Some u) o ≡ Some v → o ≡ Some v
    inside None e = cc
    inside (Some u) e = e

-- ---- lists of numbers

abbrev first_of : Value
first_of = Int (pos 0)

number_default : default_of types 0 ≡ Int (pos 0)
unfolding default_of
number_default = refl

number_size : size types 0 ≡ 8
unfolding size
number_size = refl

items_added : (keys : List ℤ) (key : ℤ) → append (items_of keys) (cons (Int key) nil) ≡ items_of (keys ++ key ∷ [])
items_added [] key = refl
items_added (k ∷ keys) key = ap (cons (Int k)) (items_added keys key)

last_changed : (keys : List ℤ) (old key : ℤ) → change_nth (Some (count (items_of keys))) (λ v. Int key) (items_of (keys ++ old ∷ [])) ≡ items_of (keys ++ key ∷ [])
last_changed [] old key = refl
last_changed (k ∷ keys) old key = ap (cons (Int k)) (last_changed keys old key)

pub items_count : (keys : List ℤ) → count (items_of keys) ≡ length keys
items_count [] = refl
items_count (k ∷ keys) = ap suc (items_count keys)

-- ---- an open image with a cache

module _ {A : Type 0} (image : Image A) (order values : program.Place) (keys : List ℤ) (entries : List ℤ × Values) (is : HasCache image order values keys entries) where
  abbrev bytes_are : List ℕ
  bytes_are = bytes_in image

  abbrev its : Picture
  its = picture_of order.at values.at keys entries

  abbrev order_root : Root
  order_root = plain_root (codes "order") order.at 2 (cons (Seq (items_of keys)) nil)

  abbrev values_root : Root
  values_root = plain_root (codes "values") values.at 1 (cons (Map entries.0 entries.1) nil)

  pub list_leads : (path : List Selector) (place : Place) → Leads bytes_are types (place_of order) path place → Leads bytes_are types (item_of types order_root 0) path place
  list_leads path place leads =
      let start : order.at ≡ order.at + 0 * size types 2 = omega arith in
      subst (λ n. Leads bytes_are types (record { at = n; type = 2 }) path place) start (subst (λ T. Leads bytes_are types (record { at = order.at; type = T }) path place) is.order_type leads)

  pub map_leads : (path : List Selector) (place : Place) → Leads bytes_are types (place_of values) path place → Leads bytes_are types (item_of types values_root 0) path place
  map_leads path place leads =
      let start : values.at ≡ values.at + 0 * size types 1 = omega arith in
      subst (λ n. Leads bytes_are types (record { at = n; type = 1 }) path place) start (subst (λ T. Leads bytes_are types (record { at = values.at; type = T }) path place) is.values_type leads)

  -- a change of the bytes alone, after which they contain another cache
  pub has_cache : (new : Image A) (keys_then : List ℤ) (now : List ℤ × Values) → ChangesBytes image new → KeepsFront bytes_are (bytes_in new)
      → IsHeld (bytes_in new) (picture_of order.at values.at keys_then now) → names_each now.1 ≡ [] → HasCache new order values keys_then now
  has_cache new keys_then now changes front held none = record {
    is_open = record {
      held = held;
      counted = counts_none order.at values.at keys_then now (word (bytes_in new) next_word) none;
      table_is = changes.types ∙ is.is_open.table_is;
      allocator_is = allocator_same bytes_are (bytes_in new) front ∙ is.is_open.allocator_is ∙ sym changes.allocator;
    };
    order_type = is.order_type;
    values_type = is.values_type;
  }

  pub none_shared : names_each entries.1 ≡ []
  none_shared = none_named order.at values.at keys entries _ is.is_open.counted

  abbrev FoundList : ℕ → Table → Value → Type 0
  FoundList allocator table v =
      FoundPlace bytes_are its is.is_open.held is.is_open.counted (place_of order)
      (reached bytes_are its is.is_open.held is.is_open.counted [] order_root (values_root ∷ []) refl some_value [] (place_of order) (list_leads [] (place_of order) here))
      allocator table v

  abbrev FoundMap : ℕ → Table → Value → Type 0
  FoundMap allocator table v =
      FoundPlace bytes_are its is.is_open.held is.is_open.counted (place_of values)
      (reached bytes_are its is.is_open.held is.is_open.counted (order_root ∷ []) values_root [] refl some_value [] (place_of values) (map_leads [] (place_of values) here))
      allocator table v

  pub list_there : FoundList (allocator_of image) (types_of image) (Seq (items_of keys))
  list_there =
      subst (λ a. FoundList a (types_of image) (Seq (items_of keys))) is.is_open.allocator_is
      (subst (λ (t : Table). FoundList (word bytes_are allocator_word) t (Seq (items_of keys))) (sym is.is_open.table_is)
      (found_at bytes_are its is.is_open.held is.is_open.counted [] order_root (values_root ∷ []) refl some_value [] (place_of order) (list_leads [] (place_of order) here) (Seq (items_of keys)) (Seq (items_of keys)) refl refl))

  pub map_there : FoundMap (allocator_of image) (types_of image) (Map entries.0 entries.1)
  map_there =
      subst (λ a. FoundMap a (types_of image) (Map entries.0 entries.1)) is.is_open.allocator_is
      (subst (λ (t : Table). FoundMap (word bytes_are allocator_word) t (Map entries.0 entries.1)) (sym is.is_open.table_is)
      (found_at bytes_are its is.is_open.held is.is_open.counted (order_root ∷ []) values_root [] refl some_value [] (place_of values) (map_leads [] (place_of values) here) (Map entries.0 entries.1) (Map entries.0 entries.1) refl refl))

  -- the list or the map has another value
  list_then : (new : List ℕ) (w : Value) (others : List ℕ) {spans : List Span} → ChangesPlace bytes_are new (types_of image) (place_of order) w others spans list_there.blocks others
      → IsHeld new (record its { names = with_item order_root 0 (with_value_at [] w) ∷ values_root ∷ [] })
  list_then new w others {spans = spans} c =
      place_changed bytes_are new its is.is_open.held Listed.by_name [] order_root (values_root ∷ []) refl 0 some_value [] (place_of order) (list_leads [] (place_of order) here) {spans = spans}
      (Seq (items_of keys)) w list_there.blocks others
      (subst (λ (t : Table). Holds bytes_are t (place_of order) (Seq (items_of keys)) list_there.blocks) is.is_open.table_is list_there.stands.holds_it)
      (subst (λ (t : Table). ChangesPlace bytes_are new t (place_of order) w others spans list_there.blocks others) is.is_open.table_is c)

  map_then : (new : List ℕ) (w : Value) (others : List ℕ) {spans : List Span} → ChangesPlace bytes_are new (types_of image) (place_of values) w others spans map_there.blocks others
      → IsHeld new (record its { names = order_root ∷ with_item values_root 0 (with_value_at [] w) ∷ [] })
  map_then new w others {spans = spans} c =
      place_changed bytes_are new its is.is_open.held Listed.by_name (order_root ∷ []) values_root [] refl 0 (omega arith) [] (place_of values) (map_leads [] (place_of values) here) {spans = spans}
      (Map entries.0 entries.1) w map_there.blocks others
      (subst (λ (t : Table). Holds bytes_are t (place_of values) (Map entries.0 entries.1) map_there.blocks) is.is_open.table_is map_there.stands.holds_it)
      (subst (λ (t : Table). ChangesPlace bytes_are new t (place_of values) w others spans map_there.blocks others) is.is_open.table_is c)

  -- ---- the map

  pub is_map : IsMapOf (form_at (types_of image) values.type_id) 0
  is_map = subst (λ T. IsMapOf (form_at (types_of image) T) 0) (sym is.values_type) (subst (λ (t : Table). IsMapOf (form_at t 1) 0) (sym is.is_open.table_is) refl)

  pub value_type : (U : ℕ) → IsMapOf (form_at (types_of image) values.type_id) U → 0 ≡ U
  value_type U map = subst (λ (t : Table). IsMapOf (form_at t 1) U) is.is_open.table_is (subst (λ T. IsMapOf (form_at (types_of image) T) U) is.values_type map)

  pub finds_key : (key : ℤ) (found : Option ℕ) → WhereMap (allocator_of image) (segment_of image) values (λ U keys vs blocks. FindsValue bytes_are (types_of image) (place_of values) U keys key found)
      → FindsValue bytes_are types (place_of values) 0 entries.0 key found
  finds_key key found where_map =
      subst (λ (t : Table). FindsValue bytes_are t (place_of values) 0 entries.0 key found) is.is_open.table_is (where_map 0 entries.0 entries.1 map_there.blocks is_map map_there.stands)

  module _ (key : ℤ) (p : ℕ) (leads : Leads bytes_are types (place_of values) (Selector.key key ∷ []) (value_of 0 p)) where
    abbrev there : Leads bytes_are types (item_of types values_root 0) (Selector.key key ∷ []) (value_of 0 p)
    there = map_leads (Selector.key key ∷ []) (value_of 0 p) leads

    pub value_fits : p + 8 ≤ length bytes_are
    value_fits =
        let fits = place_fits bytes_are its is.is_open.held is.is_open.counted (order_root ∷ []) values_root [] refl some_value (Selector.key key ∷ []) (value_of 0 p) there in
        let eight = number_size in
        omega (arith, fits, eight)

    pub value_read : (number : ℤ) → number_at entries key ≡ Some (Int number) → signed_long bytes_are p ≡ number
    value_read number has =
        number_there bytes_are its is.is_open.held is.is_open.counted (order_root ∷ []) values_root [] refl some_value (Selector.key key ∷ []) (value_of 0 p) there refl (Map entries.0 entries.1) number refl
        (ap (option_and_then (λ u. Some u)) has)

    -- a key that is found is a key of the map
    pub key_there : key_place entries.0 key ≡ None → ⊥
    key_there none =
        let f = some_found bytes_are its is.is_open.held is.is_open.counted (order_root ∷ []) values_root [] refl some_value (Selector.key key ∷ []) (value_of 0 p) there in
        let whole : Some (Map entries.0 entries.1) ≡ Some f.1.whole = f.1.item_is in
        let same : Map entries.0 entries.1 ≡ f.1.whole = cc in
        let found = subst (λ v. value_at v (Selector.key key ∷ []) ≡ Some f.0) (sym same) f.1.value_is in
        let lacks : value_at (Map entries.0 entries.1) (Selector.key key ∷ []) ≡ None = ap (λ o. option_and_then (λ u. Some u) (option_and_then (λ i. nth entries.1 i) o)) none in
        clash _ (sym lacks ∙ found)
      where
        clash : (v : Value) → None ≡ Some v → ⊥
        clash v is = cc

    -- the key has the number that is stored there
    pub key_has : (number : ℤ) → number_at (with_number entries key number) key ≡ Some (Int number)
    key_has number =
        let f = some_found bytes_are its is.is_open.held is.is_open.counted (order_root ∷ []) values_root [] refl some_value (Selector.key key ∷ []) (value_of 0 p) there in
        let whole : Some (Map entries.0 entries.1) ≡ Some f.1.whole = f.1.item_is in
        let same : Map entries.0 entries.1 ≡ f.1.whole = cc in
        let found = subst (λ v. value_at v (Selector.key key ∷ []) ≡ Some f.0) (sym same) f.1.value_is in
        changed_there entries.1 (key_place entries.0 key) f.0 number found

    pub value_stored : (new : Image A) (number : ℤ) → ChangesBytes image new → ChangesOnly bytes_are (bytes_in new) p 8 → signed_long (bytes_in new) p ≡ number → HasCache new order values keys (with_number entries key number)
    value_stored new number changes only number_is =
        let stored = number_then bytes_are its is.is_open.held is.is_open.counted (order_root ∷ []) values_root [] refl some_value (Selector.key key ∷ []) (value_of 0 p) there refl (bytes_in new) number only number_is in
        has_cache new keys (with_number entries key number) changes stored.0 stored.1 (number_put_named entries key number none_shared)

  pub key_put : (new : Image A) → ChangesBytes image new → (key : ℤ) (asks : List Ask) (p : ℕ)
      → WhereMap (allocator_of image) (segment_of image) values
      (λ U keys vs blocks. PutsKey {E = Code} (allocator_of image) bytes_are (bytes_in new) (types_of image) (place_of values) U keys vs key blocks asks (key_place keys key) (Ok p))
      → HasCache new order values keys (with_key entries key) × Leads (bytes_in new) types (place_of values) (Selector.key key ∷ []) (value_of 0 p)
  key_put new changes key asks p where_map = go (key_place entries.0 key) refl (where_map 0 entries.0 entries.1 map_there.blocks is_map map_there.stands)
    where
      go : (o : Option ℕ) → key_place entries.0 key ≡ o → PutsKey {E = Code} (allocator_of image) bytes_are (bytes_in new) (types_of image) (place_of values) 0 entries.0 entries.1 key map_there.blocks asks o (Ok p)
          → HasCache new order values keys (with_key entries key) × Leads (bytes_in new) types (place_of values) (Selector.key key ∷ []) (value_of 0 p)
      go None at h =
          let default : default_of (types_of image) 0 ≡ Int (pos 0) = ap (λ (t : Table). default_of t 0) is.is_open.table_is ∙ number_default in
          let c = subst (λ d. ChangesPlace bytes_are (bytes_in new) (types_of image) (place_of values) (with_entry entries key d) h.others h.succeeds.left map_there.blocks h.others) default h.succeeds.changes in
          let held = map_then (bytes_in new) (with_entry entries key (Int (pos 0))) h.others c in (
            has_cache new keys (with_key entries key) changes c.front_kept (subst (λ (o : Option ℕ). IsHeld (bytes_in new) (picture_of order.at values.at keys (with_key_at o entries key))) (sym at) held)
                (key_named (key_place entries.0 key) entries key none_shared),
            subst (λ (t : Table). Leads (bytes_in new) t (place_of values) (Selector.key key ∷ []) (value_of 0 p)) is.is_open.table_is h.stands_at,
          )
      go (Some i) at h = (
        has_cache new keys (with_key entries key) changes (subst (λ (b : List ℕ). KeepsFront bytes_are b) (sym h.0) refl)
            (subst (λ (o : Option ℕ). IsHeld (bytes_in new) (picture_of order.at values.at keys (with_key_at o entries key))) (sym at) (subst (λ (b : List ℕ). IsHeld b its) (sym h.0) is.is_open.held))
            (key_named (key_place entries.0 key) entries key none_shared),
        subst (λ (t : Table). Leads (bytes_in new) t (place_of values) (Selector.key key ∷ []) (value_of 0 p)) is.is_open.table_is
            (subst (λ (b : List ℕ). Leads b (types_of image) (place_of values) (Selector.key key ∷ []) (value_of 0 p)) (sym h.0) h.1),
      )

  -- ---- the list

  pub list_form : form_at (types_of image) order.type_id ≡ Some (Form.list 0)
  list_form = subst (λ T. form_at (types_of image) T ≡ Some (Form.list 0)) (sym is.order_type) (subst (λ (t : Table). form_at t 2 ≡ Some (Form.list 0)) (sym is.is_open.table_is) refl)

  abbrev pub has_list : HasList (allocator_of image) (segment_of image) (place_of order) 0 (items_of keys) list_there.blocks
  has_list = record { form_is = list_form; stands = list_there.stands }

  -- a number was added at the end, and a path reaches it
  pub item_added : (new : Image A) → ChangesBytes image new → (at : ℕ)
      → AddsItem (allocator_of image) bytes_are (bytes_in new) (types_of image) (place_of order) 0 (append (items_of keys) (cons (default_of (types_of image) 0) nil)) list_there.blocks (count (items_of keys)) at (λ i. Some i)
      → HasCache new order values (keys ++ pos 0 ∷ []) entries × Leads (bytes_in new) types (place_of order) (Selector.item (count (items_of keys)) ∷ []) (value_of 0 at)
  item_added new changes at h =
      let default : default_of (types_of image) 0 ≡ Int (pos 0) = ap (λ (t : Table). default_of t 0) is.is_open.table_is ∙ number_default in
      let items : append (items_of keys) (cons (default_of (types_of image) 0) nil) ≡ items_of (keys ++ pos 0 ∷ []) = ap (λ d. append (items_of keys) (cons d nil)) default ∙ items_added keys (pos 0) in
      let c = subst (λ vs. ChangesPlace bytes_are (bytes_in new) (types_of image) (place_of order) (Seq vs) h.others h.succeeds.left list_there.blocks h.others) items h.succeeds.changes in (
        has_cache new (keys ++ pos 0 ∷ []) entries changes c.front_kept (list_then (bytes_in new) (Seq (items_of (keys ++ pos 0 ∷ []))) h.others c) none_shared,
        subst (λ (t : Table). Leads (bytes_in new) t (place_of order) (Selector.item (count (items_of keys)) ∷ []) (value_of 0 at)) is.is_open.table_is h.stands,
      )

  -- ---- a key is removed

  pub has_many : length entries.0 ≡ count entries.1
  has_many =
      let holds = subst (λ (t : Table). Holds bytes_are t (place_of values) (Map entries.0 entries.1) map_there.blocks) is.is_open.table_is map_there.stands.holds_it in
      let m = map_held bytes_are types (place_of values) (Map entries.0 entries.1) map_there.blocks 0 (subst (λ T. form_at types T ≡ Some (Form.map 0)) (sym is.values_type) refl) holds in
      map_length entries.0 m.keys entries.1 m.values m.value_is m.as_many

  pub key_removed : (new : Image A) → ChangesBytes image new → (key : ℤ) (keeps : Type 0) (gone : Bool)
      → RemovesKey bytes_are (bytes_in new) (types_of image) (place_of values) entries.0 entries.1 map_there.stands.home map_there.blocks keeps (key_place entries.0 key) gone → HasCache new order values keys (without_key entries key)
  key_removed new changes key keeps gone removes = go (key_place entries.0 key) refl removes
    where
      go : (o : Option ℕ) → key_place entries.0 key ≡ o → RemovesKey bytes_are (bytes_in new) (types_of image) (place_of values) entries.0 entries.1 map_there.stands.home map_there.blocks keeps o gone
          → HasCache new order values keys (without_key entries key)
      go None at h = has_cache new keys (without_key entries key) changes (subst (λ (b : List ℕ). KeepsFront bytes_are b) (sym h.1) refl)
          (subst (λ (o : Option ℕ). IsHeld (bytes_in new) (picture_of order.at values.at keys (without_at o entries))) (sym at) (subst (λ (b : List ℕ). IsHeld b its) (sym h.1) is.is_open.held))
          (without_named (key_place entries.0 key) entries none_shared)
      go (Some i) at h =
          let below = (position-Some (same_int key) entries.0 i key at).0 in
          let part = nth_below entries.1 i (let many = has_many in omega (arith, below, many)) in
          let w = without_entry entries i in
          let names = names_then (names_same (names_map entries.0 entries.1))
          (names_then (remove_named entries.1 i part.0 part.1) (names_same (ap (λ xs. names_in part.0 ++ xs) (sym (names_map (remove entries.0 i) (remove_nth entries.1 i)))))) in
          let s = shared_there bytes_are its is.is_open.held is.is_open.counted (place_of values)
          (reached bytes_are its is.is_open.held is.is_open.counted (order_root ∷ []) values_root [] refl some_value [] (place_of values) (map_leads [] (place_of values) here))
          (allocator_of image) (types_of image) is.is_open.table_is (Map entries.0 entries.1) map_there (names_in part.0) (names_in w) names (named_in part.0) (named_positions part.0)
          {claim = TakesKey bytes_are (bytes_in new) (types_of image) (place_of values) entries.0 entries.1 map_there.blocks keeps i} (h.1 part.0 part.1) in
          let others = s.claimed.loses.others in
          let d = no_frozen bytes_are (bytes_in new) (types_of image) (place_of values) w others {spans = after_gives (live bytes_are) s.claimed.loses.clears.gives} map_there.blocks s.claimed.loses.clears.changes in
          has_cache new keys (without_key entries key) changes d.front_kept
          (subst (λ (o : Option ℕ). IsHeld (bytes_in new) (picture_of order.at values.at keys (without_at o entries))) (sym at) (map_then (bytes_in new) w others {spans = after_gives (live bytes_are) s.claimed.loses.clears.gives} d))
          (without_named (key_place entries.0 key) entries none_shared)

-- the last number of the list was stored
module _ {A : Type 0} (image : Image A) (order values : program.Place) (keys : List ℤ) (old : ℤ) (entries : List ℤ × Values) (is : HasCache image order values (keys ++ old ∷ []) entries) (p : ℕ)
    (leads : Leads (bytes_in image) types (place_of order) (Selector.item (count (items_of keys)) ∷ []) (value_of 0 p)) where
  abbrev all_keys : List ℤ
  all_keys = keys ++ old ∷ []

  abbrev last_leads : Leads (bytes_in image) types (item_of types (order_root image order values all_keys entries is) 0) (Selector.item (count (items_of keys)) ∷ []) (value_of 0 p)
  last_leads = list_leads image order values all_keys entries is (Selector.item (count (items_of keys)) ∷ []) (value_of 0 p) leads

  pub last_fits : p + 8 ≤ length (bytes_in image)
  last_fits =
      let fits = place_fits (bytes_in image) (its image order values all_keys entries is) is.is_open.held is.is_open.counted [] (order_root image order values all_keys entries is)
      (values_root image order values all_keys entries is ∷ []) refl some_value
      (Selector.item (count (items_of keys)) ∷ []) (value_of 0 p) last_leads in
      let eight = number_size in
      omega (arith, fits, eight)

  pub last_stored : (new : Image A) (key : ℤ) → ChangesBytes image new → ChangesOnly (bytes_in image) (bytes_in new) p 8 → signed_long (bytes_in new) p ≡ key → HasCache new order values (keys ++ key ∷ []) entries
  last_stored new key changes only key_is =
      let stored = number_then (bytes_in image) (its image order values all_keys entries is) is.is_open.held is.is_open.counted [] (order_root image order values all_keys entries is)
      (values_root image order values all_keys entries is ∷ []) refl some_value
      (Selector.item (count (items_of keys)) ∷ []) (value_of 0 p) last_leads refl (bytes_in new) key only key_is in
      has_cache image order values all_keys entries is new (keys ++ key ∷ []) entries changes stored.0
      (subst (λ (vs : Values). IsHeld (bytes_in new)
      (record (its image order values all_keys entries is) { names = plain_root (codes "order") order.at 2 (cons (Seq vs) nil) ∷ values_root image order values all_keys entries is ∷ [] })) (last_changed keys old key) stored.1)
      (none_shared image order values all_keys entries is)

-- the first number of the list
module _ {A : Type 0} (image : Image A) (order values : program.Place) (first : ℤ) (keys : List ℤ) (entries : List ℤ × Values) (is : HasCache image order values (first ∷ keys) entries) where
  abbrev first_keys : List ℤ
  first_keys = first ∷ keys

  pub first_read : (p : ℕ) → Leads (bytes_in image) (types_of image) (place_of order) (Selector.item 0 ∷ []) (value_of 0 p) → signed_long (bytes_in image) p ≡ first
  first_read p leads =
      number_there (bytes_in image) (its image order values first_keys entries is) is.is_open.held is.is_open.counted [] (order_root image order values first_keys entries is)
      (values_root image order values first_keys entries is ∷ []) refl some_value
      (Selector.item 0 ∷ []) (value_of 0 p)
      (list_leads image order values first_keys entries is (Selector.item 0 ∷ []) (value_of 0 p) (subst (λ (t : Table). Leads (bytes_in image) t (place_of order) (Selector.item 0 ∷ []) (value_of 0 p)) is.is_open.table_is leads)) refl
      (Seq (items_of first_keys)) first refl refl

  pub first_removed : (new : Image A) → ChangesBytes image new
      → LosesItem (bytes_in image) (bytes_in new) (types_of image) (place_of order) (cons (Int first) (items_of keys)) 0 (items_of keys) (list_there image order values first_keys entries is).stands.home
      (list_there image order values first_keys entries is).blocks
      → HasCache new order values keys entries
  first_removed new changes loses =
      let old = bytes_in image in
      let f = list_there image order values first_keys entries is in
      let vs = cons (Int first) (items_of keys) in
      let names = names_then (names_same (names_seq vs)) (names_then (remove_named vs 0 (Int first) refl) (names_same (ap (λ xs. names_in (Int first) ++ xs) (sym (names_seq (items_of keys)))))) in
      let s = shared_there old (its image order values first_keys entries is) is.is_open.held is.is_open.counted (place_of order)
      (reached old (its image order values first_keys entries is) is.is_open.held is.is_open.counted [] (order_root image order values first_keys entries is)
      (values_root image order values first_keys entries is ∷ []) refl some_value [] (place_of order)
      (list_leads image order values first_keys entries is [] (place_of order) here))
      (allocator_of image) (types_of image) is.is_open.table_is (Seq vs) f (names_in (Int first)) (names_in (Seq (items_of keys))) names (named_in (Int first)) (named_positions (Int first))
      {claim = RemovesItem old (bytes_in new) (types_of image) (place_of order) (items_of keys) f.blocks 0} (loses (Int first) refl) in
      let others = s.claimed.loses.others in
      let d = no_frozen old (bytes_in new) (types_of image) (place_of order) (Seq (items_of keys)) others {spans = after_gives (live old) s.claimed.loses.clears.gives} f.blocks s.claimed.loses.clears.changes in
      has_cache image order values first_keys entries is new keys entries changes d.front_kept
      (list_then image order values first_keys entries is (bytes_in new) (Seq (items_of keys)) others {spans = after_gives (live (bytes_in image)) s.claimed.loses.clears.gives} d)
      (none_shared image order values first_keys entries is)

-- ---- keys that are dropped

pub without_keys-append : (keys : List ℤ) (key : ℤ) (entries : List ℤ × Values) → without_keys (keys ++ key ∷ []) entries ≡ without_key (without_keys keys entries) key
without_keys-append [] key entries = refl
without_keys-append (k ∷ keys) key entries = without_keys-append keys key (without_key entries k)

next_key : (keys : List ℤ) (n : ℕ) → n < length keys → (key : ℤ) × (drop n keys ≡ key ∷ drop (suc n) keys) × (take (suc n) keys ≡ take n keys ++ key ∷ [])
next_key [] n lt = absurd (omega arith)
next_key (k ∷ keys) zero lt = (k, refl, refl)
next_key (k ∷ keys) (suc n) lt = let rest = next_key keys n (omega arith) in (rest.0, rest.1, ap (λ (ks : List ℤ). k ∷ ks) rest.2)

pub next_dropped : (keys : List ℤ) (n : ℕ) → n < length keys → (key : ℤ) × (drop n keys ≡ key ∷ drop (n + 1) keys) × (take (n + 1) keys ≡ take n keys ++ key ∷ [])
next_dropped keys n lt =
    let it = next_key keys n lt in
    let one : suc n ≡ n + 1 = omega arith in
    (it.0, it.1 ∙ ap (λ m. it.0 ∷ drop m keys) one, sym (ap (λ m. take m keys) one) ∙ it.2)
