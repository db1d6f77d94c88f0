-- An image is sound after a call on a place in one of its objects.
use Rattle.std.proofs.Common.{◌≡◌, ℕ, suc, ◌+◌, ◌-◌, ◌≤◌, ℤ, List, [], ◌∷◌, ◌++◌, length, take, true, false, inl, inr, Option, Some, None, Ok, Err, refl, sym, ◌∙◌, ap, subst, arith}
use Rattle.std.specs.Prelude.{Result, Bool, MatchResult, insert, remove}
use Rattle.std.proofs.lemmas.Bool.{cases_eq}
use Rattle.std.proofs.lemmas.List.{append-nil}
use Rattle.std.proofs.lemmas.List.Quantifiers.{position-Some}
use Rattle.seg_spec.specs.Bytes.{word}
use Rattle.seg_spec.specs.Header.{allocator_word, next_word}
use Rattle.seg_spec.specs.Sound.{Picture}
use Rattle.seg_spec.specs.Images.{IsSound, StaysHeld}
use Rattle.seg_spec.specs.Roots.{IsReached, ChangesPlace}
use Rattle.seg_spec.specs.Types.{Form, form_at, size}
use Rattle.seg_spec.specs.Value.{Value, Values, Int, Text, Seq, Map, Full, nil, cons, count, nth, append, default_of, same_int}
use Rattle.seg_spec.specs.Items.{key_place, keys_below, without_last, insert_nth, remove_nth, with_entry, without_entry}
use Rattle.seg_spec.specs.Heap.{Span}
use Rattle.seg_spec.specs.Window.{Placement}
use Rattle.seg_spec.specs.Block.{block_of, has_buffer}
use Rattle.seg_spec.specs.Calls.{Refuses}
use Rattle.seg_spec.specs.Demand.{Ask, block_for}
use Rattle.seg_spec.specs.Clearing.{BesideShared, LosesPart}
use Rattle.seg_spec.specs.Shared.{names_in, names_each, named_in}
use Rattle.seg_spec.proofs.Frozen.CellBoundLaws.{counts_within}
use Rattle.seg_spec.proofs.Frozen.CountDecreaseLaws.{named_positions}
use Rattle.seg_spec.proofs.Frozen.PartCountLaws.{SameNames, names_same, names_then, names_cons, default_names}
use Rattle.seg_spec.proofs.Frozen.ValueCellLaws.{names_int, names_text, names_seq, names_map, names_full, front_named, back_named, insert_named, remove_named, last_named}
use Rattle.seg_spec.proofs.Images.ReachedPlaceLaws.{FoundPlace, found_place, stays_changed, stays_cleared, stays_released, stays_shared, shared_there, frozen_there, cells_below}
use Rattle.seg_spec.proofs.Values.FormValueLaws.{text_held, vector_held, list_held, MapHeld, flat_map_held, map_held}
use Rattle.client_spec.proofs.Rows.RuleRowLaws.{nth_below}
use Rattle.seg_raw.specs.declared.code.Code.{Code}
use Rattle.seg_seq.specs.Kinds.{is_sequence, HasNumbers}
use Rattle.seg_seq.specs.Lists.{AddsItem, LosesItem}
use Rattle.seg_seq.specs.Sequences.{HasItems, item_type, Declines, HasNone, ComesToHold, LacksRoom, Rewrites, push_asks, PushesBack, PopsBack}
use Rattle.seg_manager.specs.Segments.{one_value}
use Rattle.std_alloc.specs.declared.vec.lodged.Lodged.{Lodged}
use Rattle.lezgauri.specs.Place.{Place}
use Rattle.lezgauri.specs.CellPlaces.{place_of}
use Rattle.lezgauri.specs.EitherMap.{has_keys, IsMapOf, key_asks, KeepsKeysBut}
use Rattle.lezgauri.specs.Maps.{PutsKey, RemovesKey}
use Rattle.lezgauri.specs.Owners.{PutsNew, AreShared}
use Rattle.lezgauri.specs.Places.{found_position, object_type, HasNumberValues}
use Rattle.lezgauri.specs.NumberPushes.{number_values, PushesNumbers, StopsPushing}
use Rattle.lezgauri.specs.NumberPuts.{with_numbers, PutsNumbers, StopsPutting}
use Rattle.lezgauri.specs.Pair.{Pair}
use Rattle.lezgauri.specs.StoppedAt.{StoppedAt}
use Rattle.lezgauri.proofs.NumberPushLaws.{appended, appended_first}
use Rattle.lezgauri.proofs.NumberPutLaws.{numbers_put, numbers_put_first}
use Rattle.lezgauri_c.proofs.NumberMapLaws.{numbers_share}
use Rattle.lezgauri.specs.Image.{Image}
use Rattle.lezgauri.specs.Images.{segment_of, allocator_of, bytes_in, types_of, IsOpen}
use Rattle.lezgauri_c.specs.declared.kept_types.KeptTypes.{KeptTypes}
use Rattle.lezgauri_c.specs.Changes.{Calls, GivesCount, TellsCount, IsStillSound, StaysSound, StaysSoundFrom}
use Rattle.lezgauri_c.specs.Values.{table_in, OnSound}
use Rattle.lezgauri_c.specs.ImageChanges.{Assigns, Appends, PushesItemBack, PushesItemFront, PushesItems, PopsItem, PopsItemFront, Puts, PutsEntries, Removes, PutsContent, Shares, Clears, ShrinksBuffer}

-- ---- numbers share no object

numbers_named : (numbers : List ℤ) → names_each (number_values numbers) ≡ []
unfolding names_each
numbers_named [] = refl
numbers_named (n ∷ ns) = front_named (Int n) (number_values ns) (names_int n) ∙ numbers_named ns

append_named : (vs ws : Values) → names_each ws ≡ [] → names_each (append vs ws) ≡ names_each vs
unfolding names_each
append_named nil ws none = none
append_named (cons v vs) ws none = names_cons v (append vs ws) ∙ ap (λ xs. names_in v ++ xs) (append_named vs ws none) ∙ sym (names_cons v vs)

-- ---- from a call on an open image to the bytes in lent memory

-- what a call on an open image leaves, if the place is in one of the image's objects
abbrev pub Stays : {A : Type 0} → Image A → Image A → Place → Type 0
Stays opened left place = (picture : Picture) → IsOpen opened picture → IsReached (bytes_in opened) picture (place_of place) → StaysHeld (bytes_in opened) (bytes_in left) picture

abbrev pub StaysFrom : {A : Type 0} → Image A → Image A → Place → Place → Type 0
StaysFrom opened left from to = (picture : Picture) → IsOpen opened picture → IsReached (bytes_in opened) picture (place_of from) → IsReached (bytes_in opened) picture (place_of to)
    → StaysHeld (bytes_in opened) (bytes_in left) picture

none_loose : {X Y : Type 0} (xs : List X) (ys : List Y) → length xs ≡ length ys → ys ≡ [] → xs ≡ []
none_loose [] ys same none = refl
none_loose (x ∷ xs) [] same none = absurd (omega (arith, same))
none_loose (x ∷ xs) (y ∷ ys) same none = cc

module _ {R : Type 0} {old new : List ℕ} {types : KeptTypes} {status : ℕ} {tells : R → Type 0} {claim : Image Lodged → Image Lodged → R → Type 0} (calls : Calls old new types status tells claim) where
  left_sound : (sound : IsSound old) → table_in types ≡ Some sound.picture.table
      → ((opened left : Image Lodged) (returned : R) → bytes_in opened ≡ old → IsOpen opened sound.picture
      → claim opened left returned → StaysHeld (bytes_in opened) (bytes_in left) sound.picture)
      → IsStillSound old new
  left_sound sound same stays =
      let on = calls.on_image sound same in
      let it = stays on.opened on.left on.called.0 on.opened_is on.is_open on.called.2 in
      subst (λ (b : List ℕ). IsStillSound b new) on.opened_is
      (subst (λ (b : List ℕ). IsStillSound (bytes_in on.opened) b) on.left_is (record {
        sound = record { picture = it.other; held = it.held; counted = it.counted; none_loose = none_loose it.other.loose sound.picture.loose it.loose_kept sound.none_loose };
        length_kept = it.length_kept;
      }))

  pub stays_sound : (place : Place) → ((opened left : Image Lodged) (returned : R) → claim opened left returned → Stays opened left place) → StaysSound old new types place
  stays_sound place stays sound same reached =
      let at = place_of place in
      left_sound sound same (λ opened left returned is is_open it. stays opened left returned it sound.picture is_open (subst (λ (b : List ℕ). IsReached b sound.picture at) (sym is) reached))

  pub stays_sound_from : (from to : Place) → ((opened left : Image Lodged) (returned : R) → claim opened left returned → StaysFrom opened left from to) → StaysSoundFrom old new types from to
  stays_sound_from from to stays sound same other reached =
      left_sound sound same (λ opened left returned is is_open it.
      stays opened left returned it sound.picture is_open (subst (λ (b : List ℕ). IsReached b sound.picture (place_of from)) (sym is) other)
      (subst (λ (b : List ℕ). IsReached b sound.picture (place_of to)) (sym is) reached))

-- numbers for a place that isn't a vector of numbers
pub tells_no_vector : {old new : List ℕ} {types : KeptTypes} {status pushed n : ℕ} {place : Place} {numbers : List ℤ} → GivesCount old new types status pushed n (PushesItems place numbers)
    → OnSound old types (λ picture. ¬ HasNumbers picture.table place.type_id → (status ≡ 114) × (pushed ≡ 0) × (new ≡ old))
tells_no_vector {status = status} {pushed = pushed} {n = n} {place = place} given sound same none =
    let on = given.on_image sound same in
    let there : ¬ HasNumbers (types_of on.opened) place.type_id = subst (λ t. ¬ HasNumbers t place.type_id) (sym on.is_open.table_is) none in
    let it = on.called.2.other there in
    let told = subst (TellsCount status pushed n) it.0 on.called.1 in (told.0, told.1, sym on.left_is ∙ ap (λ (i : Image Lodged). bytes_in i) it.1 ∙ on.opened_is)

-- keys with numbers for a place that isn't a map of numbers
pub tells_no_map : {old new : List ℕ} {types : KeptTypes} {status count n : ℕ} {place : Place} {entries : List Pair} → GivesCount old new types status count n (PutsEntries place entries)
    → OnSound old types (λ picture. ¬ HasNumberValues picture.table place.type_id → (status ≡ 114) × (count ≡ 0) × (new ≡ old))
tells_no_map {status = status} {count = count} {n = n} {place = place} given sound same none =
    let on = given.on_image sound same in
    let there : ¬ HasNumberValues (types_of on.opened) place.type_id = subst (λ t. ¬ HasNumberValues t place.type_id) (sym on.is_open.table_is) none in
    let it = on.called.2.other there in
    let told = subst (TellsCount status count n) it.0 on.called.1 in (told.0, told.1, sym on.left_is ∙ ap (λ (i : Image Lodged). bytes_in i) it.1 ∙ on.opened_is)

module _ {A : Type 0} (opened left : Image A) (place : Place) (picture : Picture) (is_open : IsOpen opened picture) (reached : IsReached (bytes_in opened) picture (place_of place)) where
  abbrev Found : Value → Type 0
  Found v = FoundPlace (bytes_in opened) picture is_open.held is_open.counted (place_of place) reached (allocator_of opened) (types_of opened) v

  found : (v : Value) × Found v
  found =
      let f = found_place (bytes_in opened) picture is_open.held is_open.counted (place_of place) reached in
      let on_table = subst (λ t. FoundPlace (bytes_in opened) picture is_open.held is_open.counted (place_of place) reached (word (bytes_in opened) allocator_word) t f.0) (sym is_open.table_is) f.1 in
      (f.0, subst (λ a. FoundPlace (bytes_in opened) picture is_open.held is_open.counted (place_of place) reached a (types_of opened) f.0) is_open.allocator_is on_table)

  abbrev Left : Type 0
  Left = StaysHeld (bytes_in opened) (bytes_in left) picture

  -- nothing changed
  same : bytes_in left ≡ bytes_in opened → Left
  same is = subst (λ (b : List ℕ). StaysHeld (bytes_in opened) b picture) (sym is)
      (record { other = picture; held = is_open.held; counted = is_open.counted; same_table = refl; loose_kept = refl; length_kept = refl })

  -- the place contains another value with the same shared cells
  changed : {v : Value} (f : Found v) (w : Value) (others : List ℕ) {spans : List Span} → names_in v ≡ names_in w
      → ChangesPlace (bytes_in opened) (bytes_in left) (types_of opened) (place_of place) w others spans f.blocks others → Left
  changed {v = v} f w others names c =
      stays_changed (bytes_in opened) picture is_open.held is_open.counted (place_of place) reached (allocator_of opened) (types_of opened) is_open.table_is v f (bytes_in left) w others (names_same names) c

  -- the place contains another value, and one value of the old one was destroyed with its cells
  lost : {v : Value} (f : Found v) (w : Value) (j : ℕ) (part : Value) → SameNames (names_in v) (names_in part ++ names_in w)
      → BesideShared (bytes_in opened) (types_of opened) (f.stands.home ∷ f.blocks) (named_in part) (LosesPart (bytes_in opened) (bytes_in left) (types_of opened) (place_of place) w j f.blocks) → Left
  lost {v = v} f w j part names says =
      let claim = LosesPart (bytes_in opened) (bytes_in left) (types_of opened) (place_of place) w j f.blocks in
      let s = shared_there (bytes_in opened) picture is_open.held is_open.counted (place_of place) reached (allocator_of opened) (types_of opened) is_open.table_is v f
      (names_in part) (names_in w) names (named_in part) (named_positions part) {claim = claim} says in
      let clears = s.claimed.clears in
      stays_released (bytes_in opened) picture is_open.held is_open.counted (place_of place) reached (allocator_of opened) (types_of opened) is_open.table_is v f
      (bytes_in left) w (names_in part) names s.claimed.others s.theirs s.holds clears.changes clears.holds

  abbrev form : Option Form
  form = form_at (types_of opened) place.type_id

  image_same : left ≡ opened → Left
  image_same is = same (ap (λ (i : Image A). bytes_in i) is)

  declined : {X : Type 0} {code : Code} {r : Result X Code} → Declines code (segment_of opened) (segment_of left) r → Left
  declined it = same (ap (λ (w : Placement). w.bytes) it.same)

  -- ---- strings

  text_found : form ≡ Some Form.str → (xs : List ℕ) × Found (Text xs)
  text_found is =
      let t = text_held (bytes_in opened) (types_of opened) (place_of place) found.0 found.1.blocks is found.1.stands.holds_it in
      (t.0, subst Found t.1 found.1)

  rewritten : (xs ys : List ℕ) (f : Found (Text xs)) (n : ℕ) (r : Result (Unit {0}) Code) → Rewrites (allocator_of opened) (segment_of opened) (segment_of left) (place_of place) n ys f.blocks r → Left
  rewritten xs ys f n (Ok done) it = changed f (Text ys) it.others (names_text xs ∙ sym (names_text ys)) it.succeeds.changes
  rewritten xs ys f n (Err e) it = same it.refuses.same

  pub assign_stays : (ys : List ℕ) (r : Result (Unit {0}) Code) → Assigns place ys opened left r → Left
  assign_stays ys r it = by_form form refl
    where
      by_form : (o : Option Form) → form ≡ o → Left
      by_form (Some Form.str) is =
          let t = text_found is in
          rewritten t.0 ys t.1 (length ys) r (it.text t.0 t.1.blocks (record { form_is = is; stands = t.1.stands }))
      by_form o is = declined (it.other (λ str. cc))

  pub append_stays : (more : List ℕ) (r : Result (Unit {0}) Code) → Appends place more opened left r → Left
  append_stays more r it = by_form form refl
    where
      by_form : (o : Option Form) → form ≡ o → Left
      by_form (Some Form.str) is =
          let t = text_found is in
          rewritten t.0 (t.0 ++ more) t.1 (length t.0 + length more) r (it.text t.0 t.1.blocks (record { form_is = is; stands = t.1.stands }))
      by_form o is = declined (it.other (λ str. cc))

  -- ---- vectors and lists

  vector_found : (U : ℕ) → form ≡ Some (Form.vec U) → (vs : Values) × Found (Seq vs)
  vector_found U is =
      let t = vector_held (bytes_in opened) (types_of opened) (place_of place) found.0 found.1.blocks U is found.1.stands.holds_it in
      (t.0, subst Found t.1 found.1)

  list_found : (U : ℕ) → form ≡ Some (Form.list U) → (vs : Values) × Found (Seq vs)
  list_found U is =
      let t = list_held (bytes_in opened) (types_of opened) (place_of place) found.0 found.1.blocks U is found.1.stands.holds_it in
      (t.0, subst Found t.1 found.1)

  abbrev default : ℕ → Value
  default U = default_of (types_of opened) U

  -- a default item was added
  back_added : (vs : Values) (U : ℕ) → names_in (Seq vs) ≡ names_in (Seq (append vs (cons (default U) nil)))
  back_added vs U = names_seq vs ∙ sym (back_named vs (default U) (default_names (types_of opened) U)) ∙ sym (names_seq (append vs (cons (default U) nil)))

  front_added : (vs : Values) (U : ℕ) → names_in (Seq vs) ≡ names_in (Seq (cons (default U) vs))
  front_added vs U = names_seq vs ∙ sym (front_named (default U) vs (default_names (types_of opened) U)) ∙ sym (names_seq (cons (default U) vs))

  pub push_back_stays : (r : Result Place Code) → PushesItemBack place opened left r → Left
  push_back_stays r it = by_form form refl
    where
      vector : (U : ℕ) (vs : Values) (f : Found (Seq vs)) (r : Result Place Code)
          → MatchResult (found_position r) (PushesBack (allocator_of opened) (segment_of opened) (segment_of left) (place_of place) U vs f.blocks)
          (LacksRoom (allocator_of opened) (segment_of opened) (segment_of left) (push_asks (segment_of opened) (place_of place) U)) → Left
      vector U vs f (Ok item) pushed = changed f (Seq (append vs (cons (default U) nil))) pushed.holds_it.others (back_added vs U) pushed.holds_it.succeeds.changes
      vector U vs f (Err e) lacks = same lacks.refuses.same

      list : (U : ℕ) (vs : Values) (f : Found (Seq vs)) (r : Result Place Code)
          → MatchResult (found_position r)
          (λ at. AddsItem (allocator_of opened) (bytes_in opened) (bytes_in left) (types_of opened) (place_of place) U (append vs (cons (default U) nil)) f.blocks (count vs) at (λ i. Some i))
          (LacksRoom (allocator_of opened) (segment_of opened) (segment_of left) (block_for (8 + size (types_of opened) U) ∷ [])) → Left
      list U vs f (Ok item) added = changed f (Seq (append vs (cons (default U) nil))) added.others (back_added vs U) added.succeeds.changes
      list U vs f (Err e) lacks = same lacks.refuses.same

      by_form : (o : Option Form) → form ≡ o → Left
      by_form (Some (Form.vec U)) is = let f = vector_found U is in vector U f.0 f.1 r (it.vector U f.0 f.1.blocks (record { form_is = is; stands = f.1.stands }))
      by_form (Some (Form.list U)) is = let f = list_found U is in list U f.0 f.1 r (it.list U f.0 f.1.blocks (record { form_is = is; stands = f.1.stands }))
      by_form o is = image_same (it.other (ap item_type is)).1

  pub push_front_stays : (r : Result Place Code) → PushesItemFront place opened left r → Left
  push_front_stays r it = by_form form refl
    where
      list : (U : ℕ) (vs : Values) (f : Found (Seq vs)) (r : Result Place Code)
          → MatchResult (found_position r)
          (λ at. AddsItem (allocator_of opened) (bytes_in opened) (bytes_in left) (types_of opened) (place_of place) U (cons (default U) vs) f.blocks 0 at (λ i. Some (suc i)))
          (λ _. Refuses (allocator_of opened) (bytes_in opened) (bytes_in left) (block_for (8 + size (types_of opened) U) ∷ [])) → Left
      list U vs f (Ok item) added = changed f (Seq (cons (default U) vs)) added.others (front_added vs U) added.succeeds.changes
      list U vs f (Err e) refused = same refused.same

      by_form : (o : Option Form) → form ≡ o → Left
      by_form (Some (Form.list U)) is = let f = list_found U is in list U f.0 f.1 r (it.pushed U f.0 f.1.blocks (record { form_is = is; stands = f.1.stands }))
      by_form o is = same (it.other (λ U list. cc)).1

  -- numbers were added
  numbers_added : (vs : Values) (numbers : List ℤ) → names_in (Seq vs) ≡ names_in (Seq (append vs (number_values numbers)))
  numbers_added vs numbers = names_seq vs ∙ sym (append_named vs (number_values numbers) (numbers_named numbers)) ∙ sym (names_seq (append vs (number_values numbers)))

  pub push_numbers_stays : (numbers : List ℤ) (r : Result (Unit {0}) StoppedAt) → PushesItems place numbers opened left r → Left
  push_numbers_stays numbers r it = by_form form refl
    where
      vector : (U : ℕ) (vs : Values) (f : Found (Seq vs)) → HasItems (allocator_of opened) (segment_of opened) (place_of place) U vs f.blocks → form_at (types_of opened) U ≡ Some Form.i64 → (r : Result (Unit {0}) StoppedAt)
          → MatchResult r (λ _. PushesNumbers (allocator_of opened) (segment_of opened) (segment_of left) (place_of place) numbers)
          (StopsPushing (allocator_of opened) (segment_of opened) (segment_of left) (place_of place) numbers) → Left
      vector U vs f has number (Ok done) pushed =
          let a = appended (allocator_of opened) (segment_of opened) (segment_of left) (place_of place) numbers pushed U vs f.blocks has number in
          changed f (Seq (append vs (number_values numbers))) a.others (numbers_added vs numbers) a.changes
      vector U vs f has number (Err stopped) stops =
          let first = take stopped.done numbers in
          let it = appended_first (allocator_of opened) (segment_of opened) (segment_of left) (place_of place) numbers stopped stops U vs f.blocks has number in
          let a = it.appends in
          changed f (Seq (append vs (number_values first))) a.others (numbers_added vs first)
          (subst (λ (b : List ℕ). ChangesPlace (bytes_in opened) b (types_of opened) (place_of place) (Seq (append vs (number_values first))) a.others a.spans f.blocks a.others) (sym it.same) a.changes)

      by_item : (U : ℕ) → form ≡ Some (Form.vec U) → (o : Option Form) → form_at (types_of opened) U ≡ o → Left
      by_item U is (Some Form.i64) number =
          let f = vector_found U is in
          vector U f.0 f.1 (record { form_is = is; stands = f.1.stands }) number r (it.pushed (record { item = U; vector_is = is; number_is = number }))
      by_item U is o other = image_same (it.other (λ has. let v = has.vector_is in let n = has.number_is in cc)).1

      by_form : (o : Option Form) → form ≡ o → Left
      by_form (Some (Form.vec U)) is = by_item U is (form_at (types_of opened) U) refl
      by_form o is = image_same (it.other (λ has. let v = has.vector_is in cc)).1

  -- an item was removed
  last_lost : (vs : Values) (v : Value) → nth vs (count vs - 1) ≡ Some v → SameNames (names_in (Seq vs)) (names_in v ++ names_in (Seq (without_last vs)))
  last_lost vs v e =
      names_then (names_same (names_seq vs)) (names_then (last_named vs v (count vs - 1) refl e) (names_same (ap (λ xs. names_in v ++ xs) (sym (names_seq (without_last vs))))))

  pub pop_back_stays : (r : Result (Unit {0}) Code) → PopsItem place opened left r → Left
  pop_back_stays r it = by_form form refl
    where
      text : (xs : List ℕ) (f : Found (Text xs)) (r : Result (Unit {0}) Code)
          → MatchResult r (λ _. ComesToHold (allocator_of opened) (segment_of opened) (segment_of left) (place_of place) (Text (take (length xs - 1) xs)) [] [] f.blocks)
          (HasNone (segment_of opened) (segment_of left) (length xs)) → Left
      text xs f (Ok done) holds = changed f (Text (take (length xs - 1) xs)) holds.others (names_text xs ∙ sym (names_text (take (length xs - 1) xs))) holds.succeeds.changes
      text xs f (Err e) none = same (ap (λ (w : Placement). w.bytes) none.same)

      vector : (vs : Values) (f : Found (Seq vs)) (r : Result (Unit {0}) Code)
          → MatchResult r (λ _. PopsBack (segment_of opened) (segment_of left) (place_of place) vs f.stands.home f.blocks) (HasNone (segment_of opened) (segment_of left) (count vs)) → Left
      vector vs f (Ok done) pops =
          let last = nth_below vs (count vs - 1) (omega (arith, pops.some)) in
          lost f (Seq (without_last vs)) (count vs - 1) last.0 (last_lost vs last.0 last.1) (pops.loses last.0 last.1)
      vector vs f (Err e) none = same (ap (λ (w : Placement). w.bytes) none.same)

      list : (vs : Values) (f : Found (Seq vs)) (r : Result (Unit {0}) Code)
          → MatchResult r (λ _. (1 ≤ count vs) × LosesItem (bytes_in opened) (bytes_in left) (types_of opened) (place_of place) vs (count vs - 1) (without_last vs) f.stands.home f.blocks)
          (HasNone (segment_of opened) (segment_of left) (count vs)) → Left
      list vs f (Ok done) pops =
          let last = nth_below vs (count vs - 1) (omega (arith, pops.0)) in
          lost f (Seq (without_last vs)) (count vs - 1) last.0 (last_lost vs last.0 last.1) (λ theirs kept now final beside. (pops.1 last.0 last.1 theirs kept now final beside).loses)
      list vs f (Err e) none = same (ap (λ (w : Placement). w.bytes) none.same)

      by_form : (o : Option Form) → form ≡ o → Left
      by_form (Some Form.str) is = let f = text_found is in text f.0 f.1 r (it.text f.0 f.1.blocks (record { form_is = is; stands = f.1.stands }))
      by_form (Some (Form.vec U)) is = let f = vector_found U is in vector f.0 f.1 r (it.vector U f.0 f.1.blocks (record { form_is = is; stands = f.1.stands }))
      by_form (Some (Form.list U)) is = let f = list_found U is in list f.0 f.1 r (it.list U f.0 f.1.blocks (record { form_is = is; stands = f.1.stands }))
      by_form o is = declined (it.other (ap is_sequence is))

  pub pop_front_stays : (r : Result (Unit {0}) Code) → PopsItemFront place opened left r → Left
  pop_front_stays r it = by_form form refl
    where
      list : (U : ℕ) → form ≡ Some (Form.list U) → (vs : Values) → Found (Seq vs) → Left
      list U is nil f = declined (it.empty U f.blocks (record { form_is = is; stands = f.stands }))
      list U is (cons v vs) f =
          let pops = (it.popped U v vs f.blocks (record { form_is = is; stands = f.stands })).1 in
          let names = names_then (names_same (names_seq (cons v vs))) (names_then (remove_named (cons v vs) 0 v refl) (names_same (ap (λ xs. names_in v ++ xs) (sym (names_seq vs))))) in
          lost f (Seq vs) 0 v names (λ theirs kept now final beside. (pops v refl theirs kept now final beside).loses)

      by_form : (o : Option Form) → form ≡ o → Left
      by_form (Some (Form.list U)) is = let f = list_found U is in list U is f.0 f.1
      by_form o is = declined (it.other (λ U list. cc))

  -- ---- maps

  maps_found : MapHeld (bytes_in opened) (types_of opened) (place_of place) found.0 found.1.blocks → (keys : List ℤ) × (vs : Values) × (length keys ≡ count vs) × Found (Map keys vs)
  maps_found m = (m.keys, m.values, m.as_many, subst Found m.value_is found.1)

  pub put_stays : (key : ℤ) (r : Result Place Code) → Puts place key opened left r → Left
  put_stays key r it = by_form form refl
    where
      by_key : (U : ℕ) (keys : List ℤ) (vs : Values) (f : Found (Map keys vs)) (asks : List Ask) (o : Option ℕ) (r : Result Place Code)
          → PutsKey (allocator_of opened) (bytes_in opened) (bytes_in left) (types_of opened) (place_of place) U keys vs key f.blocks asks o (found_position r) → Left
      by_key U keys vs f asks None (Ok value) added =
          let i = keys_below keys key in
          let names : names_in (Map keys vs) ≡ names_in (with_entry (keys, vs) key (default U)) =
          names_map keys vs ∙ sym (insert_named vs i (default U) (default_names (types_of opened) U)) ∙ sym (names_map (insert keys i key) (insert_nth vs i (default U))) in
          changed f (with_entry (keys, vs) key (default U)) added.others names added.succeeds.changes
      by_key U keys vs f asks None (Err e) refused = same refused.same
      by_key U keys vs f asks (Some i) (Ok value) there = same there.0
      by_key U keys vs f asks (Some i) (Err e) none = absurd none

      put : (U : ℕ) → IsMapOf form U → (keys : List ℤ) × (vs : Values) × (length keys ≡ count vs) × Found (Map keys vs) → Left
      put U is f = by_key U f.0 f.1 f.3 (key_asks (bytes_in opened) (types_of opened) place.at form) (key_place f.0 key) r (it.puts U f.0 f.1 f.3.blocks is f.3.stands)

      by_form : (o : Option Form) → form ≡ o → Left
      by_form (Some (Form.flat_map U)) is =
          put U (subst (λ k. IsMapOf k U) (sym is) refl) (maps_found (flat_map_held (bytes_in opened) (types_of opened) (place_of place) found.0 found.1.blocks U is found.1.stands.holds_it))
      by_form (Some (Form.map U)) is =
          put U (subst (λ k. IsMapOf k U) (sym is) refl) (maps_found (map_held (bytes_in opened) (types_of opened) (place_of place) found.0 found.1.blocks U is found.1.stands.holds_it))
      by_form o is = image_same (it.other (ap has_keys is)).1

  pub put_numbers_stays : (entries : List Pair) (r : Result (Unit {0}) StoppedAt) → PutsEntries place entries opened left r → Left
  put_numbers_stays entries r it = by_form form refl
    where
      numbers : (U : ℕ) → IsMapOf form U → form_at (types_of opened) U ≡ Some Form.i64 → (keys : List ℤ) (vs : Values) (f : Found (Map keys vs)) → (r : Result (Unit {0}) StoppedAt)
          → MatchResult r (λ _. PutsNumbers (allocator_of opened) (segment_of opened) (segment_of left) (place_of place) entries)
          (StopsPutting (allocator_of opened) (segment_of opened) (segment_of left) (place_of place) entries) → Left
      numbers U is number keys vs f (Ok done) puts =
          let received = numbers_put (allocator_of opened) (segment_of opened) (segment_of left) (place_of place) entries puts U (keys, vs) f.blocks (record { map_is = is; number_is = number; stands = f.stands }) in
          let after = with_numbers (keys, vs) entries in
          changed f (Map after.0 after.1) received.others (numbers_share (bytes_in opened) (types_of opened) (place_of place) U keys vs f.blocks is number f.stands.holds_it entries) received.changes
      numbers U is number keys vs f (Err stopped) stops =
          let first = take stopped.done entries in
          let it = numbers_put_first (allocator_of opened) (segment_of opened) (segment_of left) (place_of place) entries stopped stops U (keys, vs) f.blocks (record { map_is = is; number_is = number; stands = f.stands }) in
          let received = it.receives in
          let after = with_numbers (keys, vs) first in
          changed f (Map after.0 after.1) received.others (numbers_share (bytes_in opened) (types_of opened) (place_of place) U keys vs f.blocks is number f.stands.holds_it first)
          (subst (λ (b : List ℕ). ChangesPlace (bytes_in opened) b (types_of opened) (place_of place) (Map after.0 after.1) received.others received.spans f.blocks received.others) (sym it.same) received.changes)

      put : (U : ℕ) → IsMapOf form U → ((has : HasNumberValues (types_of opened) place.type_id) → has.value ≡ U) → (keys : List ℤ) × (vs : Values) × (length keys ≡ count vs) × Found (Map keys vs)
          → (o : Option Form) → form_at (types_of opened) U ≡ o → Left
      put U is one f (Some Form.i64) number = numbers U is number f.0 f.1 f.3 r (it.puts (record { value = U; map_is = is; number_is = number }))
      put U is one f o other = image_same (it.other (λ has. let same = one has in let number = has.number_is in cc)).1

      by_form : (o : Option Form) → form ≡ o → Left
      by_form (Some (Form.flat_map U)) is =
          put U (subst (λ k. IsMapOf k U) (sym is) refl) (λ has. sym (subst (λ k. IsMapOf k has.value) is has.map_is))
          (maps_found (flat_map_held (bytes_in opened) (types_of opened) (place_of place) found.0 found.1.blocks U is found.1.stands.holds_it)) (form_at (types_of opened) U) refl
      by_form (Some (Form.map U)) is =
          put U (subst (λ k. IsMapOf k U) (sym is) refl) (λ has. sym (subst (λ k. IsMapOf k has.value) is has.map_is))
          (maps_found (map_held (bytes_in opened) (types_of opened) (place_of place) found.0 found.1.blocks U is found.1.stands.holds_it)) (form_at (types_of opened) U) refl
      by_form o is = image_same (it.other (λ has. absurd (subst (λ k. IsMapOf k has.value) is has.map_is))).1

  pub remove_stays : (key : ℤ) (r : Bool) → Removes place key opened left r → Left
  remove_stays key r it = by_form form refl
    where
      by_key : (keys : List ℤ) (vs : Values) (as_many : length keys ≡ count vs) (f : Found (Map keys vs)) (keeps : Type 0) (o : Option ℕ) → key_place keys key ≡ o
          → RemovesKey (bytes_in opened) (bytes_in left) (types_of opened) (place_of place) keys vs f.stands.home f.blocks keeps o r → Left
      by_key keys vs as_many f keeps None at it = same it.1
      by_key keys vs as_many f keeps (Some i) at it =
          let below = (position-Some (same_int key) keys i key at).0 in
          let part = nth_below vs i (omega (arith, below, as_many)) in
          let names = names_then (names_same (names_map keys vs)) (names_then (remove_named vs i part.0 part.1) (names_same (ap (λ xs. names_in part.0 ++ xs) (sym (names_map (remove keys i) (remove_nth vs i)))))) in
          lost f (without_entry (keys, vs) i) i part.0 names (λ theirs kept now final beside. (it.1 part.0 part.1 theirs kept now final beside).loses)

      removed : (U : ℕ) → IsMapOf form U → (keys : List ℤ) × (vs : Values) × (length keys ≡ count vs) × Found (Map keys vs) → Left
      removed U is f = by_key f.0 f.1 f.2 f.3 (KeepsKeysBut form (bytes_in opened) (bytes_in left) (types_of opened) (place_of place) key) (key_place f.0 key) refl (it.removes U f.0 f.1 f.3.blocks is f.3.stands)

      by_form : (o : Option Form) → form ≡ o → Left
      by_form (Some (Form.flat_map U)) is =
          removed U (subst (λ k. IsMapOf k U) (sym is) refl) (maps_found (flat_map_held (bytes_in opened) (types_of opened) (place_of place) found.0 found.1.blocks U is found.1.stands.holds_it))
      by_form (Some (Form.map U)) is =
          removed U (subst (λ k. IsMapOf k U) (sym is) refl) (maps_found (map_held (bytes_in opened) (types_of opened) (place_of place) found.0 found.1.blocks U is found.1.stands.holds_it))
      by_form o is = same (it.other (ap has_keys is)).1

  -- ---- values of any type

  -- the value was replaced by one without shared cells
  nothing_kept : (v w : Value) → names_in w ≡ [] → SameNames (names_in v) (names_in v ++ names_in w)
  nothing_kept v w none = names_same (sym (append-nil (names_in v)) ∙ ap (λ xs. names_in v ++ xs) (sym none))

  pub clear_stays : (result : Result (Unit {0}) Code) → Clears place opened left result → Left
  clear_stays result it =
      let v = found.0 in
      let f = found.1 in
      stays_cleared (bytes_in opened) picture is_open.held is_open.counted (place_of place) reached (allocator_of opened) (types_of opened) is_open.table_is v f
      (bytes_in left) (default place.type_id) (names_in v) (nothing_kept v (default place.type_id) (default_names (types_of opened) place.type_id)) (named_in v) (named_positions v) []
      (it.cleared v f.blocks f.stands)

  pub shrink_stays : (r : Result (Unit {0}) Code) → ShrinksBuffer place opened left r → Left
  shrink_stays r it = by_form form refl
    where
      by_buffer : (k : Form) → form ≡ Some k → (b : Bool) → has_buffer (Some k) ≡ b → Left
      by_buffer k is true has =
          let s = it.shrinks k found.0 found.1.blocks is has found.1.stands in
          changed found.1 found.0 s.0 refl s.1.changes
      by_buffer k is false none = image_same (it.other (ap has_buffer is ∙ none)).1

      by_form : (o : Option Form) → form ≡ o → Left
      by_form None is = image_same (it.other (ap has_buffer is)).1
      by_form (Some k) is = by_buffer k is (has_buffer (Some k)) refl

  -- ---- owns

  pub put_content_stays : (r : Result Place Code) → PutsContent place opened left r → Left
  put_content_stays r it = by_form form refl
    where
      own : (U : ℕ) (v : Value) (f : Found v) (r : Result Place Code)
          → MatchResult (found_position r)
          (λ at. BesideShared (bytes_in opened) (types_of opened) (f.stands.home ∷ f.blocks) (named_in v) (PutsNew (allocator_of opened) (bytes_in opened) (bytes_in left) (types_of opened) (place_of place) U f.blocks at))
          (LacksRoom (allocator_of opened) (segment_of opened) (segment_of left) (one_value (types_of opened) U)) → Left
      own U v f (Ok object) says =
          let w = Full (default U) in
          let none : names_in w ≡ [] = names_full (default U) ∙ default_names (types_of opened) U in
          let claim = PutsNew (allocator_of opened) (bytes_in opened) (bytes_in left) (types_of opened) (place_of place) U f.blocks object.at in
          let s = shared_there (bytes_in opened) picture is_open.held is_open.counted (place_of place) reached (allocator_of opened) (types_of opened) is_open.table_is v f
          (names_in v) [] (names_same (sym (append-nil (names_in v)))) (named_in v) (named_positions v) {claim = claim} says in
          stays_released (bytes_in opened) picture is_open.held is_open.counted (place_of place) reached (allocator_of opened) (types_of opened) is_open.table_is v f
          (bytes_in left) w (names_in v) (nothing_kept v w none) (block_of object.at ∷ []) s.theirs s.holds s.claimed.changes s.claimed.holds
      own U v f (Err e) lacks = same lacks.refuses.same

      by_form : (o : Option Form) → form ≡ o → Left
      by_form (Some (Form.own U)) is = own U found.0 found.1 r (it.puts U found.0 found.1.blocks is found.1.stands)
      by_form o is = image_same (it.other (ap object_type is)).1

-- ---- shared cells

module _ {A : Type 0} (opened left : Image A) (from to : Place) (picture : Picture) (is_open : IsOpen opened picture) (other : IsReached (bytes_in opened) picture (place_of from))
    (reached : IsReached (bytes_in opened) picture (place_of to)) where
  abbrev bytes : List ℕ
  bytes = bytes_in opened

  shared : (T : ℕ) (r : Result (Unit {0}) Code) → AreShared (types_of opened) to from T → Shares to from opened left r → StaysHeld bytes (bytes_in left) picture
  shared T r both it =
      let f = found opened left to picture is_open reached in
      let g = found opened left from picture is_open other in
      let there = frozen_there bytes picture is_open.held is_open.counted (place_of to) reached (allocator_of opened) (types_of opened) is_open.table_is f.0 f.1 in
      let below = cells_below bytes picture is_open.held is_open.counted (place_of from) other (allocator_of opened) (types_of opened) is_open.table_is g.0 g.1 in
      let counts = counts_within bytes picture is_open.held (word bytes next_word) is_open.counted in
      stays_shared bytes picture is_open.held is_open.counted (place_of to) reached (allocator_of opened) (types_of opened) is_open.table_is f.0 f.1
      (bytes_in left) g.0 below [] there.theirs there.beside.holds
      (it.shares T (word bytes next_word) f.0 g.0 f.1.blocks g.1.blocks there.theirs there.kept picture.frozen both f.1.stands g.1.stands.holds_it there.beside below counts)

  pub share_stays : (r : Result (Unit {0}) Code) → Shares to from opened left r → StaysHeld bytes (bytes_in left) picture
  share_stays r it = by_form (form_at (types_of opened) to.type_id) refl (form_at (types_of opened) from.type_id) refl
    where
      refused : ((T : ℕ) → AreShared (types_of opened) to from T → ⊥) → StaysHeld bytes (bytes_in left) picture
      refused none = image_same opened left to picture is_open reached (it.other none).1

      by_form : (o : Option Form) → form_at (types_of opened) to.type_id ≡ o → (p : Option Form) → form_at (types_of opened) from.type_id ≡ p → StaysHeld bytes (bytes_in left) picture
      by_form (Some (Form.shared T)) is (Some (Form.shared U)) at =
          elim (cases_eq U T) [
            | inl same ↦ shared T r (is, at ∙ ap (λ n. Some (Form.shared n)) same) it
            | inr distinct ↦ refused (λ V both. distinct (let e = both.0 in let g = both.1 in cc))
          ]
      by_form (Some (Form.shared T)) is p at = refused (λ V both. let g = both.1 in cc)
      by_form o is p at = refused (λ V both. let e = both.0 in cc)
