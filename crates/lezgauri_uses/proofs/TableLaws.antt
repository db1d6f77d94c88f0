-- The places of a table of settings in an image, and their values.
use Rattle.std.proofs.Common.{◌≡◌, ℕ, zero, suc, ◌+◌, ◌*◌, ◌%◌, ◌^◌, ◌<◌, ◌≤◌, List, [], ◌∷◌, ◌++◌, length, Option, Some, None, Result, Ok, refl, sym, ap, ◌∙◌, subst, arith, add-zero}
use Rattle.std.specs.Prelude.{ℤ, pos, codes, slice_get, option_and_then}
use Rattle.std.specs.List.{AllByRecursion}
use Rattle.std.specs.Prelude.{Err, OnOk, IsErrAnd, MatchResult}
use Rattle.lezgauri.specs.Stored.{Stored}
use Rattle.lezgauri.specs.Segments.{IsSegment, new_root}
use Rattle.seg_spec.proofs.SliceLaws.{IsSame-part}
use Rattle.seg_spec.proofs.Values.PlaceFrameLaws.{word-same}
use Rattle.seg_spec.specs.Bytes.{word, slice, signed_long, ChangesOnly}
use Rattle.seg_spec.specs.Header.{types_start, allocator_word, next_word, free_word, KeepsFront}
use Rattle.seg_spec.specs.Types.{Form, Table, form_at, size}
use Rattle.seg_spec.specs.Value.{Value, Values, node, nil, cons, Int, Text, Map, nth, Selector, Label, value_at, with_value_at, change_nth, default_of}
use Rattle.seg_spec.specs.Items.{key_place, keys_below, with_entry}
use Rattle.seg_spec.specs.Shared.{names_in, names_each, IsBelow}
use Rattle.seg_spec.specs.Heap.{Span, live}
use Rattle.seg_spec.specs.Reads.{Place, Opened, Opens, Holds, holds, Leads, here, into, fields, start, count_at}
use Rattle.seg_spec.specs.Index.{Root, plain_root}
use Rattle.seg_spec.specs.Sound.{Picture, IsHeld}
use Rattle.seg_spec.specs.Roots.{Listed, with_roots, IsReached, item_of, ChangesPlace}
use Rattle.seg_spec.specs.Demand.{Ask}
use Rattle.lezgauri.specs.Maps.{value_of, FindsValue, PutsKey}
use Rattle.lezgauri.specs.EitherMap.{IsMapOf}
use Rattle.lezgauri.specs.Places.{FieldPlace, WhereMap}
use Rattle.lezgauri.specs.Sequences.{HasText, ComesToHold}
use Rattle.lezgauri.specs.CellPlaces.{place_of}
use Rattle.lezgauri.specs.Place as program
use Rattle.lezgauri.specs.Code.{Code}
use Rattle.std.proofs.Math.Nat.{mod-eq_of_lt}
use Rattle.seg_spec.specs.Counting.{AreCounted}
use Rattle.seg_spec.specs.Owning.{Stands}
use Rattle.seg_spec.proofs.Images.ReachedPlaceLaws.{FoundPlace, found_place}
use Rattle.seg_spec.proofs.Frozen.ValueCellLaws.{insert_named}
use Rattle.seg_spec.proofs.Images.RootCallLaws.{place_changed}
use Rattle.seg_spec.proofs.Images.RootWriteLaws.{number_held, part_fits}
use Rattle.seg_spec.proofs.Values.OneValueLaws.{Holds-one}
use Rattle.seg_spec.proofs.Values.PlaceWriteLaws.{changes_place}
use Rattle.seg_spec.proofs.Tables.TypeSizeLaws.{size-form}
use Rattle.seg_spec.proofs.Tables.OneTableLaws.{HasTable-one}
use Rattle.seg_spec.proofs.Images.UpgradeLaws.{same_word, upgraded_held, upgraded_counted}
use Rattle.lezgauri.specs.SoundImages.{upgraded}
use Rattle.lezgauri.specs.Faults.{IsImageOf}
use Rattle.lezgauri.specs.Image.{Image}
use Rattle.lezgauri.specs.Images.{segment_of, allocator_of, bytes_in, types_of, ChangesBytes, IsOpen}
use Rattle.lezgauri_uses.specs.Tables.{ContainsTable, types, table_value, picture_of, with_key_at, with_key, with_number, number_at, table_at, numbers_at, greeting_at}

-- the value at a place that a path reaches is the value at the path
module _ (bytes : List ℕ) (picture : Picture) (held : IsHeld bytes picture) (counted : AreCounted (word bytes next_word) picture) (place : Place) (reached : IsReached bytes picture place) where
  pub found_value : (whole w : Value) → nth reached.root.values reached.item ≡ Some whole → value_at whole reached.path ≡ Some w
      → FoundPlace bytes picture held counted place reached (word bytes allocator_word) picture.table w
  found_value whole w item_is value_is =
      let f = found_place bytes picture held counted place reached in
      let first = f.1.item_is in
      let same : whole ≡ f.1.whole = cc in
      let there : value_at f.1.whole reached.path ≡ Some w = subst (λ v. value_at v reached.path ≡ Some w) same value_is in
      let last = f.1.value_is in
      let is : f.0 ≡ w = cc in
      subst (λ v. FoundPlace bytes picture held counted place reached (word bytes allocator_word) picture.table v) is f.1

-- ---- the places of the table

number_size : size types 0 ≡ 8
unfolding size
number_size = refl

table_size : size types 3 ≡ 16
unfolding size
table_size = refl

text_size : size types 1 ≡ 8
unfolding size
text_size = refl

pub map_size : size types 2 ≡ 8
unfolding size
map_size = refl

number_default : default_of types 0 ≡ Int (pos 0)
unfolding default_of
number_default = refl

abbrev pub root_with : ℕ → Value → Root
root_with at v = plain_root (codes "settings") at 3 (cons v nil)

abbrev pub numbers_place : ℕ → Place
numbers_place at = record { at = at; type = 2 }

abbrev pub greeting_place : ℕ → Place
greeting_place at = record { at = at + 8; type = 1 }

-- no value of the table shares an object
module _ (at : ℕ) (entries : List ℤ × Values) (greeting : List ℕ) where
  pub none_named : (next : ℕ) → AreCounted next (picture_of at (table_value entries greeting)) → names_each entries.1 ≡ []
  unfolding names_in names_each
  none_named next h = go (names_each entries.1) h.counted.named
    where
      go : (xs : List Place) → AllByRecursion (IsBelow next []) (((xs ++ []) ++ []) ++ []) → xs ≡ []
      go [] a = refl
      go (x ∷ xs) a = absurd a.0

  pub counts_none : (next : ℕ) → names_each entries.1 ≡ [] → AreCounted next (picture_of at (table_value entries greeting))
  unfolding names_in names_each
  counts_none next none = record {
    counted = record {
      distinct = tt;
      numbered = tt;
      named = subst (λ (xs : List Place). AllByRecursion (IsBelow next []) (((xs ++ []) ++ []) ++ [])) (sym none) tt;
      falling = tt;
      some = tt;
      counts = tt;
    };
    falling = tt;
  }

module _ (bytes : List ℕ) (at : ℕ) (entries : List ℤ × Values) (greeting : List ℕ) where
  abbrev value : Value
  value = table_value entries greeting

  abbrev table_place : Place
  table_place = item_of types (root_with at value) 0

  first_item : at ≡ at + 0 * size types 3
  first_item = rw table_size (omega arith)

  to_part : (i : ℕ) (part place : Place) (path : List Selector) → slice_get (fields types at (2 ∷ 1 ∷ [])) i ≡ Some part → Leads bytes types part path place → Leads bytes types table_place (Selector.field i ∷ path) place
  to_part i part place path is leads =
      subst (λ n. Leads bytes types (record { at = n; type = 3 }) (Selector.field i ∷ path) place) first_item
      (into (Form.struct (2 ∷ 1 ∷ [])) (record { label = Label.struct; blocks = []; parts = fields types at (2 ∷ 1 ∷ []) }) i part refl refl refl is leads)

  pub numbers_lead : (place : Place) (path : List Selector) → Leads bytes types (numbers_place at) path place → Leads bytes types table_place (Selector.field 0 ∷ path) place
  numbers_lead place path leads = to_part 0 (numbers_place at) place path refl leads

  pub greeting_leads : Leads bytes types table_place (Selector.field 1 ∷ []) (greeting_place at)
  greeting_leads =
      let there : slice_get (fields types at (2 ∷ 1 ∷ [])) 1 ≡ Some (greeting_place at) = ap (λ n. Some (record { at = at + n; type = 1 })) map_size in
      to_part 1 (greeting_place at) (greeting_place at) [] there here

  module _ (held : IsHeld bytes (picture_of at value)) (counted : AreCounted (word bytes next_word) (picture_of at value)) (path : List Selector) (place : Place) (leads : Leads bytes types table_place path place) where
    abbrev reached : IsReached bytes (picture_of at value) place
    reached = record { which = Listed.by_name; before = []; root = root_with at value; after = []; among = refl; item = 0; within = omega arith; path = path; leads = leads }

    abbrev pub Found : Value → Type 0
    Found w = FoundPlace bytes (picture_of at value) held counted place reached (word bytes allocator_word) types w

    pub found_at : (w : Value) → value_at value path ≡ Some w → Found w
    found_at w is = found_value bytes (picture_of at value) held counted place reached value w refl is

    pub some_found : (w : Value) × Found w
    some_found = found_place bytes (picture_of at value) held counted place reached

    pub place_then : (v : Value) (f : Found v) (new : List ℕ) (w : Value) (others : List ℕ) {spans : List Span} → ChangesPlace bytes new types place w others spans f.blocks others
        → IsHeld new (picture_of at (with_value_at path w value))
    place_then v f new w others {spans = spans} c =
        place_changed bytes new (picture_of at value) held Listed.by_name [] (root_with at value) [] refl 0 (omega arith) path place leads {spans = spans} v w f.blocks others f.stands.holds_it c

-- the bytes of a text
text_is : (bytes : List ℕ) (table : Table) {place : Place} {v : Value} {blocks : List ℕ} → Holds bytes table place v blocks → form_at table place.type ≡ Some Form.str → (xs : List ℕ) → v ≡ Text xs
    → xs ≡ slice bytes (start bytes place.at) (count_at bytes place.at)
text_is bytes table {place = place} (holds form opened inside owned f o hs v_is blocks_are) is xs e =
    let same : form ≡ Form.str = cc in
    let opens = subst (λ (x : Form). Opens bytes table place x opened) same o in
    let label : opened.label ≡ Label.text (slice bytes (start bytes place.at) (count_at bytes place.at)) = ap (λ (x : Opened). x.label) opens.opened_is in
    let whole : node (Label.text xs) nil ≡ node opened.label inside = sym e ∙ v_is in
    let labels : Label.text xs ≡ opened.label = cc in
    let both = labels ∙ label in
    cc

-- ---- a key of the map is put, and its number stored

changed_named : (vs : Values) (i : Option ℕ) (number : ℤ) → names_each vs ≡ [] → names_each (change_nth i (λ old. Int number) vs) ≡ []
unfolding names_in names_each
changed_named vs None number none = none
changed_named nil (Some i) number none = refl
changed_named (cons v vs) (Some zero) number none = rest (names_in v) none
  where
    rest : (xs : List Place) → xs ++ names_each vs ≡ [] → names_each vs ≡ []
    rest [] e = e
    rest (x ∷ xs) e = cc
changed_named (cons v vs) (Some (suc i)) number none = both (names_in v) (changed_named vs (Some i) number) none
  where
    both : (xs : List Place) → (names_each vs ≡ [] → names_each (change_nth (Some i) (λ old. Int number) vs) ≡ []) → xs ++ names_each vs ≡ [] → xs ++ names_each (change_nth (Some i) (λ old. Int number) vs) ≡ []
    both [] rest e = rest e
    both (x ∷ xs) rest e = cc

number_named : (number : ℤ) → names_in (Int number) ≡ []
unfolding names_in names_each
number_named number = refl

pub key_named : (o : Option ℕ) (entries : List ℤ × Values) (key : ℤ) → names_each entries.1 ≡ [] → names_each (with_key_at o entries key).1 ≡ []
key_named None entries key none = insert_named entries.1 (keys_below entries.0 key) (Int (pos 0)) (number_named (pos 0)) ∙ none
key_named (Some i) entries key none = none

pub number_put_named : (entries : List ℤ × Values) (key number : ℤ) → names_each entries.1 ≡ [] → names_each (with_number entries key number).1 ≡ []
number_put_named entries key number none = changed_named entries.1 (key_place entries.0 key) number none

module _ (allocator : ℕ) (old : List ℕ) (at : ℕ) (entries : List ℤ × Values) (greeting : List ℕ) (held : IsHeld old (picture_of at (table_value entries greeting)))
    (counted : AreCounted (word old next_word) (picture_of at (table_value entries greeting)))
    (allocator_is : word old allocator_word ≡ allocator) where
  abbrev numbers : Found old at entries greeting held counted (Selector.field 0 ∷ []) (numbers_place at) (numbers_lead old at entries greeting (numbers_place at) [] here) (Map entries.0 entries.1)
  numbers = found_at old at entries greeting held counted (Selector.field 0 ∷ []) (numbers_place at) (numbers_lead old at entries greeting (numbers_place at) [] here) (Map entries.0 entries.1) refl

  abbrev pub greets : Found old at entries greeting held counted (Selector.field 1 ∷ []) (greeting_place at) (greeting_leads old at entries greeting) (Text greeting)
  greets = found_at old at entries greeting held counted (Selector.field 1 ∷ []) (greeting_place at) (greeting_leads old at entries greeting) (Text greeting) refl

  abbrev pub numbers_stand : (blocks : List ℕ) × Stands allocator old types (numbers_place at) (Map entries.0 entries.1) blocks
  numbers_stand = (numbers.blocks, subst (λ a. Stands a old types (numbers_place at) (Map entries.0 entries.1) numbers.blocks) allocator_is numbers.stands)

  -- a key of the map was put, and a path reaches its number
  pub record HasPut (key : ℤ) (new : List ℕ) (p : ℕ) : Type 0 where
    pub front_kept : KeepsFront old new
    pub held_then : IsHeld new (picture_of at (table_value (with_key entries key) greeting))
    pub leads_then : Leads new types (numbers_place at) (Selector.key key ∷ []) (value_of 0 p)

  pub has_put : (E : Type 0) (new : List ℕ) (key : ℤ) (asks : List Ask) (p : ℕ)
      → PutsKey {E = E} allocator old new types (numbers_place at) 0 entries.0 entries.1 key numbers_stand.0 asks (key_place entries.0 key) (Ok p) → HasPut key new p
  has_put E new key asks p puts = go (key_place entries.0 key) refl puts
    where
      go : (o : Option ℕ) → key_place entries.0 key ≡ o → PutsKey {E = E} allocator old new types (numbers_place at) 0 entries.0 entries.1 key numbers.blocks asks o (Ok p) → HasPut key new p
      go None is h = record {
        front_kept = h.succeeds.changes.front_kept;
        held_then = subst (λ (o : Option ℕ). IsHeld new (picture_of at (table_value (with_key_at o entries key) greeting))) (sym is)
            (place_then old at entries greeting held counted (Selector.field 0 ∷ []) (numbers_place at) (numbers_lead old at entries greeting (numbers_place at) [] here) (Map entries.0 entries.1) numbers new
            (Map (with_key_at None entries key).0 (with_key_at None entries key).1) h.others
            (subst (λ d. ChangesPlace old new types (numbers_place at) (with_entry entries key d) h.others h.succeeds.left numbers.blocks h.others) number_default h.succeeds.changes));
        leads_then = h.stands_at;
      }
      go (Some i) is h = record {
        front_kept = subst (λ (b : List ℕ). KeepsFront old b) (sym h.0) refl;
        held_then = subst (λ (o : Option ℕ). IsHeld new (picture_of at (table_value (with_key_at o entries key) greeting))) (sym is) (subst (λ (b : List ℕ). IsHeld b (picture_of at (table_value entries greeting))) (sym h.0) held);
        leads_then = subst (λ (b : List ℕ). Leads b types (numbers_place at) (Selector.key key ∷ []) (value_of 0 p)) (sym h.0) h.1;
      }

  -- the number of a key was stored
  pub number_stored : (new : List ℕ) (key number : ℤ) (p : ℕ) → Leads old types (numbers_place at) (Selector.key key ∷ []) (value_of 0 p) → ChangesOnly old new p 8 → signed_long new p ≡ number
      → KeepsFront old new × IsHeld new (picture_of at (table_value (with_number entries key number) greeting))
  number_stored new key number p leads only is =
      let place = value_of 0 p in
      let path = Selector.field 0 ∷ Selector.key key ∷ [] in
      let leads_there = numbers_lead old at entries greeting place (Selector.key key ∷ []) leads in
      let found = some_found old at entries greeting held counted path place leads_there in
      let v = found.0 in
      let f = found.1 in
      let was = Holds-one old types f.stands.holds_it (number_held old types place refl) in
      let eight = subst (λ n. ChangesOnly old new p n) (sym (size-form types f.stands.is_table 0 Form.i64 refl)) only in
      let holds_new = subst (λ (k : ℤ). Holds new types place (Int k) []) is (number_held new types place refl) in
      let changes = subst (λ bs. ChangesPlace old new types place (Int number) [] (live old) bs []) (sym was.1)
      (changes_place (word old allocator_word) old types place v f.blocks f.stands new eight (Int number) [] [] holds_new) in
      (changes.front_kept, place_then old at entries greeting held counted path place leads_there v f new (Int number) [] changes)

  -- ---- what the places contain

  pub number_read : (key number : ℤ) (p : ℕ) → Leads old types (numbers_place at) (Selector.key key ∷ []) (value_of 0 p) → number_at entries key ≡ Some (Int number) → signed_long old p ≡ number
  number_read key number p leads is =
      let place = value_of 0 p in
      let path = Selector.field 0 ∷ Selector.key key ∷ [] in
      let there : value_at (table_value entries greeting) path ≡ Some (Int number) = ap (option_and_then (λ u. Some u)) is in
      let f = found_at old at entries greeting held counted path place (numbers_lead old at entries greeting place (Selector.key key ∷ []) leads) (Int number) there in
      let same : Int number ≡ Int (signed_long old p) = (Holds-one old types f.stands.holds_it (number_held old types place refl)).0 in
      cc

  pub greeting_read : slice old (start old (at + 8)) (count_at old (at + 8)) ≡ greeting
  greeting_read = sym (text_is old types greets.stands.holds_it refl greeting refl)

-- ---- a new table

table_default : default_of types 3 ≡ table_value ([], nil) []
unfolding default_of
table_default = refl

-- the content of an image with the types alone
abbrev pub bare : Picture
bare = record { table = types; names = []; uniques = []; loose = []; frozen = [] }

pub table_made : (allocator : ℕ) (old_types : Table) (new : Stored) (before after : List Root) (at : ℕ) → old_types ≡ types → [] ≡ before ++ after
    → IsSegment allocator new (with_roots bare Listed.by_name (before ++ new_root old_types (codes "settings") 3 1 at ∷ after)) → IsSegment allocator new (picture_of at (table_value ([], nil) []))
table_made allocator old_types new before after at types_are alone is =
    let root = new_root old_types (codes "settings") 3 1 at in
    let only : before ++ root ∷ after ≡ root ∷ [] = nothing_beside before after root alone in
    let root_is : root ≡ root_with at (table_value ([], nil) []) = ap (λ (t : Table). new_root t (codes "settings") 3 1 at) types_are ∙ ap (root_with at) table_default in
    subst (λ (roots : List Root). IsSegment allocator new (with_roots bare Listed.by_name roots)) (only ∙ ap (λ (r : Root). r ∷ []) root_is) is
  where
    nothing_beside : (before after : List Root) (root : Root) → [] ≡ before ++ after → before ++ root ∷ after ≡ root ∷ []
    nothing_beside [] [] root e = refl
    nothing_beside [] (a ∷ after) root e = cc
    nothing_beside (b ∷ before) after root e = cc

-- ---- an open image with a table

-- one result
pub same_ok : {X E : Type 0} {r : Result X E} (x y : X) → r ≡ Ok x → r ≡ Ok y → x ≡ y
same_ok x y is other = cc

pub failed : {X E : Type 0} {r : Result X E} (e : E) (x : X) → r ≡ Err e → r ≡ Ok x → ⊥
failed e x is other = cc

-- a call that fails with a known error
pub fails_with : {X E : Type 0} (r : Result X E) (e : E) (P : X → Type 0) (Q : E → Type 0) → IsErrAnd r (λ x. x ≡ e) → Q e → MatchResult r P Q
fails_with (Ok x) e P Q is q = absurd is
fails_with (Err x) e P Q is q = subst Q (sym is) q

pub on_ok : {X E : Type 0} (r : Result X E) (P : Type 0) → P → OnOk r P
on_ok (Ok x) P p = p
on_ok (Err e) P p = tt

-- a fact that follows from two facts about a call that succeeded
pub on_both : {X E : Type 0} (r : Result X E) (P Q R : Type 0) → OnOk r P → OnOk r Q → (P → Q → R) → OnOk r R
on_both (Ok x) P Q R p q f = f p q
on_both (Err e) P Q R p q f = tt

pub allocator_same : (old new : List ℕ) → KeepsFront old new → word new allocator_word ≡ word old allocator_word
allocator_same old new front = word-same old new allocator_word (IsSame-part old new 0 free_word allocator_word 4 (omega arith) (omega arith) front)

-- an image with a known picture, after it was opened
pub open_after : {A : Type 0} (image : Image A) (bytes : List ℕ) → bytes_in image ≡ upgraded bytes → IsImageOf bytes (types_of image) → word bytes allocator_word ≡ allocator_of image
    → (picture : Picture) → IsHeld bytes picture → AreCounted (word bytes next_word) picture → IsOpen image picture
open_after image bytes opened is named picture held counted = record {
  held = subst (λ (bs : List ℕ). IsHeld bs picture) (sym opened) (upgraded_held bytes picture held);
  counted = subst (λ (bs : List ℕ). AreCounted (word bs next_word) picture) (sym opened) (upgraded_counted bytes picture counted);
  table_is = sym is.table_is ∙ HasTable-one bytes types_start is.picture.table picture.table is.held.laid_out.is_table held.laid_out.is_table is.held.laid_out.types held.laid_out.types;
  allocator_is = subst (λ (bs : List ℕ). word bs allocator_word ≡ allocator_of image) (sym opened) (same_word bytes allocator_word (omega arith) ∙ named);
}

module _ {A : Type 0} (image : Image A) (at : ℕ) (entries : List ℤ × Values) (greeting : List ℕ) (is : ContainsTable image at entries greeting) where
  abbrev bytes_are : List ℕ
  bytes_are = bytes_in image

  -- the place of the table lies in the image
  pub table_fits : at + 16 ≤ 2 ^ 31
  table_fits =
      let leads = greeting_leads bytes_are at entries greeting in
      let fits = part_fits bytes_are (picture_of at (table_value entries greeting)) is.held Listed.by_name [] (root_with at (table_value entries greeting)) [] refl 0 (omega arith) (Selector.field 1 ∷ []) (greeting_place at) leads in
      let large = is.held.laid_out.header.not_large in
      let eight = text_size in
      omega (arith, fits, large, eight)

  abbrev stand : (blocks : List ℕ) × Stands (allocator_of image) bytes_are types (numbers_place at) (Map entries.0 entries.1) blocks
  stand = numbers_stand (allocator_of image) bytes_are at entries greeting is.held is.counted is.allocator_is

  abbrev pub numbers_there : (blocks : List ℕ) × Stands (allocator_of image) bytes_are (types_of image) (numbers_place at) (Map entries.0 entries.1) blocks
  numbers_there = (stand.0, subst (λ (t : Table). Stands (allocator_of image) bytes_are t (numbers_place at) (Map entries.0 entries.1) stand.0) (sym is.table_is) stand.1)

  -- a change of the bytes alone, after which they contain another table
  pub has_table : (new : Image A) (now : List ℤ × Values) (text : List ℕ) → ChangesBytes image new → KeepsFront bytes_are (bytes_in new) → IsHeld (bytes_in new) (picture_of at (table_value now text)) → names_each now.1 ≡ []
      → ContainsTable new at now text
  has_table new now text changes front held none = record {
    held = held;
    counted = counts_none at now text (word (bytes_in new) next_word) none;
    table_is = changes.types ∙ is.table_is;
    allocator_is = allocator_same bytes_are (bytes_in new) front ∙ is.allocator_is ∙ sym changes.allocator;
  }

  -- ---- calls on the places

  small : at < 2 ^ 32
  small = let fits = table_fits in omega (arith, fits)

  small_too : at + (0 + size types 2) < 2 ^ 32
  small_too = let fits = table_fits in let eight = map_size in omega (arith, fits, eight)

  module _ (table : program.Place) (table_is : table ≡ table_at at) (result : Result program.Place Code) where
    pub numbers_field : FieldPlace (types_of image) table 0 result → result ≡ Ok (numbers_at at)
    numbers_field h =
        let there = subst (λ (t : Table). FieldPlace t (table_at at) 0 result) is.table_is (subst (λ (p : program.Place). FieldPlace (types_of image) p 0 result) table_is h) in
        let same : (at + 0) % 2 ^ 32 ≡ at = rw add-zero (mod-eq_of_lt small) in
        there ∙ ap (λ n. Ok (record { at = n; type_id = 2 })) same

    pub greeting_field : FieldPlace (types_of image) table 1 result → result ≡ Ok (greeting_at at)
    greeting_field h =
        let there = subst (λ (t : Table). FieldPlace t (table_at at) 1 result) is.table_is (subst (λ (p : program.Place). FieldPlace (types_of image) p 1 result) table_is h) in
        let eight = map_size in
        let same : (at + (0 + size types 2)) % 2 ^ 32 ≡ at + 8 = mod-eq_of_lt small_too ∙ omega (arith, eight) in
        there ∙ ap (λ n. Ok (record { at = n; type_id = 1 })) same

  module _ (numbers : program.Place) (numbers_are : numbers ≡ numbers_at at) where
    is_map : (U : ℕ) → 0 ≡ U → IsMapOf (form_at (types_of image) numbers.type_id) U
    is_map U none = subst (λ (t : Table). IsMapOf (form_at t numbers.type_id) U) (sym is.table_is) (subst (λ (p : program.Place). IsMapOf (form_at types p.type_id) U) (sym numbers_are) none)

    pub value_type : (U : ℕ) → IsMapOf (form_at (types_of image) numbers.type_id) U → 0 ≡ U
    value_type U map = subst (λ (p : program.Place). IsMapOf (form_at types p.type_id) U) numbers_are (subst (λ (t : Table). IsMapOf (form_at t numbers.type_id) U) is.table_is map)

    map_stands : Stands (allocator_of image) bytes_are (types_of image) (place_of numbers) (Map entries.0 entries.1) stand.0
    map_stands = subst (λ (p : program.Place). Stands (allocator_of image) bytes_are (types_of image) (place_of p) (Map entries.0 entries.1) stand.0) (sym numbers_are) numbers_there.1

    -- a key of the map is found
    pub finds_key : (key : ℤ) (found : Option ℕ) → WhereMap (allocator_of image) (segment_of image) numbers (λ U keys vs blocks. FindsValue bytes_are (types_of image) (place_of numbers) U keys key found)
        → FindsValue bytes_are types (numbers_place at) 0 entries.0 key found
    finds_key key found where_map =
        subst (λ (t : Table). FindsValue bytes_are t (numbers_place at) 0 entries.0 key found) is.table_is
        (subst (λ (p : program.Place). FindsValue bytes_are (types_of image) (place_of p) 0 entries.0 key found) numbers_are (where_map 0 entries.0 entries.1 stand.0 (is_map 0 refl) map_stands))

    -- a key was put
    pub key_put : (new : Image A) → ChangesBytes image new → (key : ℤ) (asks : List Ask) (p : ℕ)
        → WhereMap (allocator_of image) (segment_of image) numbers
        (λ U keys vs blocks. PutsKey {E = Code} (allocator_of image) bytes_are (bytes_in new) (types_of image) (place_of numbers) U keys vs key blocks asks (key_place keys key) (Ok p))
        → ContainsTable new at (with_key entries key) greeting × Leads (bytes_in new) types (numbers_place at) (Selector.key key ∷ []) (value_of 0 p)
    key_put new changes key asks p where_map =
        let puts = subst (λ (t : Table). PutsKey {E = Code} (allocator_of image) bytes_are (bytes_in new) t (numbers_place at) 0 entries.0 entries.1 key stand.0 asks (key_place entries.0 key) (Ok p)) is.table_is
        (subst (λ (q : program.Place). PutsKey {E = Code} (allocator_of image) bytes_are (bytes_in new) (types_of image) (place_of q) 0 entries.0 entries.1 key stand.0 asks (key_place entries.0 key) (Ok p)) numbers_are
        (where_map 0 entries.0 entries.1 stand.0 (is_map 0 refl) map_stands)) in
        let put = has_put (allocator_of image) bytes_are at entries greeting is.held is.counted is.allocator_is Code (bytes_in new) key asks p puts in (
          has_table new (with_key entries key) greeting changes put.front_kept put.held_then (key_named (key_place entries.0 key) entries key (none_named at entries greeting _ is.counted)),
          put.leads_then,
        )

  -- ---- a number of the map

  module _ (key : ℤ) (p : ℕ) (leads : Leads bytes_are types (numbers_place at) (Selector.key key ∷ []) (value_of 0 p)) where
    pub number_fits : p + 8 ≤ length bytes_are
    number_fits =
        let there = numbers_lead bytes_are at entries greeting (value_of 0 p) (Selector.key key ∷ []) leads in
        let fits = part_fits bytes_are (picture_of at (table_value entries greeting)) is.held Listed.by_name [] (root_with at (table_value entries greeting)) [] refl 0 (omega arith) (Selector.field 0 ∷ Selector.key key ∷ [])
        (value_of 0 p) there in
        let eight = number_size in
        omega (arith, fits, eight)

    pub stored_number : (new : Image A) (number : ℤ) → ChangesBytes image new → ChangesOnly bytes_are (bytes_in new) p 8 → signed_long (bytes_in new) p ≡ number → ContainsTable new at (with_number entries key number) greeting
    stored_number new number changes only number_is =
        let stored = number_stored (allocator_of image) bytes_are at entries greeting is.held is.counted is.allocator_is (bytes_in new) key number p leads only number_is in
        has_table new (with_number entries key number) greeting changes stored.0 stored.1 (number_put_named entries key number (none_named at entries greeting _ is.counted))

    pub read_number : (number : ℤ) → number_at entries key ≡ Some (Int number) → signed_long bytes_are p ≡ number
    read_number number there = number_read (allocator_of image) bytes_are at entries greeting is.held is.counted is.allocator_is key number p leads there

  pub read_greeting : slice bytes_are (start bytes_are (at + 8)) (count_at bytes_are (at + 8)) ≡ greeting
  read_greeting = greeting_read (allocator_of image) bytes_are at entries greeting is.held is.counted is.allocator_is

  -- the text was replaced
  pub text_assigned : (new : Image A) (place : program.Place) → place ≡ greeting_at at → ChangesBytes image new → (ys : List ℕ) (asks : List Ask)
      → ((xs blocks : List ℕ) → HasText (allocator_of image) (segment_of image) (place_of place) xs blocks → ComesToHold (allocator_of image) (segment_of image) (segment_of new) (place_of place) (Text ys) asks [] blocks)
      → ContainsTable new at entries ys
  text_assigned new place place_is changes ys asks assigned =
      let f = greets (allocator_of image) bytes_are at entries greeting is.held is.counted is.allocator_is in
      let text : HasText (allocator_of image) (segment_of image) (place_of place) greeting f.blocks =
      subst (λ (p : program.Place). HasText (allocator_of image) (segment_of image) (place_of p) greeting f.blocks) (sym place_is) (record {
        form_is = subst (λ (t : Table). form_at t 1 ≡ Some Form.str) (sym is.table_is) refl;
        stands = subst (λ a. Stands a bytes_are (types_of image) (greeting_place at) (Text greeting) f.blocks) is.allocator_is
            (subst (λ (t : Table). Stands (word bytes_are allocator_word) bytes_are t (greeting_place at) (Text greeting) f.blocks) (sym is.table_is) f.stands);
      }) in
      let it = assigned greeting f.blocks text in
      let left = it.succeeds.left in
      let there = subst (λ (t : Table). ChangesPlace bytes_are (bytes_in new) t (greeting_place at) (Text ys) it.others left f.blocks it.others) is.table_is
      (subst (λ (p : program.Place). ChangesPlace bytes_are (bytes_in new) (types_of image) (place_of p) (Text ys) it.others left f.blocks it.others) place_is it.succeeds.changes) in
      let held = place_then bytes_are at entries greeting is.held is.counted (Selector.field 1 ∷ []) (greeting_place at) (greeting_leads bytes_are at entries greeting) (Text greeting) f (bytes_in new) (Text ys) it.others there in
      has_table new entries ys changes there.front_kept held (none_named at entries greeting _ is.counted)
