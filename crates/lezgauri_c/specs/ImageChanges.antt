-- What a call of `Image` that changes it promises, for the image before and after the call and for
-- the call's result. The allocator and the types of an open image stay, and so does the memory around
-- it (`ChangesBytes`).
--     Constructs, FindsOrConstructs, DestroysNamed
--     ConstructsUnique, FindsOrConstructsUnique, DestroysUnique
--     Assigns, Appends, PushesItemBack, PushesItemFront, PushesItems, PopsItem, PopsItemFront
--     Puts, PutsEntries, Removes, PutsContent, FreezesInto, Shares
--     ConstructsAnonymous, DestroysAnonymous, Clears, ShrinksBuffer
use Rattle.std.specs.Prelude.{◌≡◌, ◌≢◌, ◌+◌, ◌-◌, ◌<◌, ◌≤◌, ◌^◌, ℕ, suc, ℤ, List, [], ◌∷◌, ◌++◌, length, take, Bool, true, false, Some, None, Result, Err, IsOk, IsTrue, IfOk, IsOkUnless, MatchResult, is_ok}
use Rattle.std.specs.List.{AllByRecursion}
use Rattle.seg_spec.specs.Bytes.{word}
use Rattle.seg_spec.specs.Header.{next_word}
use Rattle.seg_spec.specs.Sound.{Picture}
use Rattle.seg_spec.specs.Index.{Root, root_named}
use Rattle.seg_spec.specs.Types.{Form, form_at, size}
use Rattle.seg_spec.specs.Value.{Value, Values, Text, Map, nil, cons, count, append, default_of}
use Rattle.seg_spec.specs.Block.{block_of, has_buffer}
use Rattle.seg_spec.specs.Pointer.{target}
use Rattle.seg_spec.specs.Reads as reads
use Rattle.seg_spec.specs.Reads.{Holds, count_at}
use Rattle.seg_spec.specs.Items.{key_place, without_last}
use Rattle.seg_spec.specs.Calls.{IsLoose, Refuses}
use Rattle.seg_spec.specs.Clearing.{BesideShared, ClearsPlace}
use Rattle.seg_spec.specs.Demand.{block_for}
use Rattle.seg_spec.specs.Frozen.{Frozen, frozen_words}
use Rattle.seg_spec.specs.Shared.{names_in, named_in, IsBelow, raised_by, left}
use Rattle.seg_spec.specs.Sharing.{FrozenBeside}
use Rattle.seg_spec.specs.Shrinking.{ShrinksPlace}
use Rattle.seg_spec.specs.Spending.{object_asks}
use Rattle.seg_raw.specs.declared.code.Code.{Code}
use Rattle.seg_raw.specs.declared.code.Code.TheVariants as code
use Rattle.lezgauri.specs.Place.{Place}
use Rattle.lezgauri.specs.CellPlaces.{place_of, object_at}
use Rattle.seg_seq.specs.Kinds.{is_sequence, HasNumbers}
use Rattle.seg_seq.specs.Lists.{HasList, IsNoList, AddsItem, LosesItem}
use Rattle.seg_seq.specs.Sequences.{HasText, HasItems, item_type, Declines, HasNone, ComesToHold, LacksRoom, Rewrites, push_asks, PushesBack, PopsBack}
use Rattle.lezgauri.specs.EitherMap.{has_keys, IsMapOf, key_asks, KeepsTreePaths, KeepsKeysBut}
use Rattle.lezgauri.specs.Maps.{PutsKey, RemovesKey}
use Rattle.seg_manager.specs.Segments.{one_value, MakesLoose, LosesLoose, unique_at, MakesUnique, FindsOrMakes, RefusesUnique, LosesUnique}
use Rattle.seg_manager.specs.NamedObjects.{found_as, IsMissing, IsCount, RefusesName, FindsOrMakesNamed, RefusesToFind}
use Rattle.seg_manager.specs.NewNamed.{MakesNamed, FindsNoRoom}
use Rattle.seg_manager.specs.LeavingNamed.{LosesNamed}
use Rattle.lezgauri.specs.NumberPushes.{PushesNumbers, StopsPushing}
use Rattle.lezgauri.specs.NumberPuts.{PutsNumbers, StopsPutting, none_done}
use Rattle.lezgauri.specs.Pair.{Pair}
use Rattle.lezgauri.specs.StoppedAt.{StoppedAt}
use Rattle.lezgauri.specs.Image.{Image}
use Rattle.lezgauri.specs.Images.{segment_of, allocator_of, bytes_in, types_of, IsOpen, ChangesBytes}
use Rattle.lezgauri.specs.Owners.{PutsNew, OwnAndShared, AreShared, FreezesOwn}
use Rattle.lezgauri.specs.Places.{found_position, object_type, HasNumberValues, StandsIn, WhereMap}

-- ---- named objects

pub record Constructs {A : Type 0} (name : List ℕ) (T n : ℕ) (old new : Image A)
    (result : Result Place Code) : Type 0 where
  pub bytes : ChangesBytes old new
  pub of_type : IfOk result (λ place. place.type_id ≡ T)
  pub unknown : length (types_of old) ≤ T → (result ≡ Err code.OtherType) × (new ≡ old)
  pub tells : (picture : Picture) → IsOpen old picture → T < length (types_of old) →
      MatchResult (found_position result) (λ _. IsMissing picture.names name × IsCount n)
      (RefusesName (segment_of old) (segment_of new) picture.names name n)
  pub makes : (picture : Picture) → (s : IsOpen old picture) → IfOk (found_position result)
      (MakesNamed (allocator_of old) (segment_of old) (segment_of new) picture
      s.held.index_blocks name T n)
  pub no_room : (picture : Picture) → IsOpen old picture →
      found_position result ≡ Err code.BadAlloc →
      FindsNoRoom (allocator_of old) (segment_of old) (segment_of new) picture
      (object_asks (bytes_in old) (types_of old) T n name)

pub record FindsOrConstructs {A : Type 0} (name : List ℕ) (T : ℕ) (old new : Image A)
    (result : Result Place Code) : Type 0 where
  pub bytes : ChangesBytes old new
  pub of_type : IfOk result (λ place. place.type_id ≡ T)
  pub unknown : length (types_of old) ≤ T → (result ≡ Err code.OtherType) × (new ≡ old)
  pub tells : (picture : Picture) → IsOpen old picture → T < length (types_of old) →
      MatchResult (found_position result)
      (FindsOrMakesNamed (segment_of old) (segment_of new) picture.names name T)
      (RefusesToFind (segment_of old) (segment_of new) picture.names name T)
  pub makes : (picture : Picture) → (s : IsOpen old picture) →
      root_named picture.names name ≡ None → IfOk (found_position result)
      (MakesNamed (allocator_of old) (segment_of old) (segment_of new) picture
      s.held.index_blocks name T 1)
  pub no_room : (picture : Picture) → IsOpen old picture →
      found_position result ≡ Err code.BadAlloc →
      FindsNoRoom (allocator_of old) (segment_of old) (segment_of new) picture
      (object_asks (bytes_in old) (types_of old) T 1 name)

pub record DestroysNamed {A : Type 0} (name : List ℕ) (T : ℕ) (old new : Image A)
    (result : Bool) : Type 0 where
  pub bytes : ChangesBytes old new
  pub tells : (picture : Picture) → IsOpen old picture →
      result ≡ is_ok (found_as T (root_named picture.names name))
  pub loses : (picture : Picture) → (s : IsOpen old picture) → IsTrue result →
      LosesNamed (allocator_of old) (segment_of old) (segment_of new) picture
      s.held.index_blocks name T
  pub unchanged : result ≡ false → new ≡ old

-- ---- unique objects

pub record ConstructsUnique {A : Type 0} (T : ℕ) (old new : Image A)
    (result : Result Place Code) : Type 0 where
  pub bytes : ChangesBytes old new
  pub of_type : IfOk result (λ place. place.type_id ≡ T)
  pub unknown : length (types_of old) ≤ T → (result ≡ Err code.OtherType) × (new ≡ old)
  pub makes : (picture : Picture) → IsOpen old picture → T < length (types_of old) →
      MatchResult (found_position result)
      (MakesUnique (allocator_of old) (segment_of old) (segment_of new) picture T)
      (RefusesUnique (allocator_of old) (segment_of old) (segment_of new) picture T)

pub record FindsOrConstructsUnique {A : Type 0} (T : ℕ) (old new : Image A)
    (result : Result Place Code) : Type 0 where
  pub bytes : ChangesBytes old new
  pub of_type : IfOk result (λ place. place.type_id ≡ T)
  pub unknown : length (types_of old) ≤ T → (result ≡ Err code.OtherType) × (new ≡ old)
  pub makes : (picture : Picture) → IsOpen old picture → T < length (types_of old) →
      MatchResult (found_position result)
      (FindsOrMakes (allocator_of old) (segment_of old) (segment_of new) picture T)
      (λ refusal. (refusal ≡ code.BadAlloc) × RefusesUnique (allocator_of old)
      (segment_of old) (segment_of new) picture T refusal)

pub record DestroysUnique {A : Type 0} (T : ℕ) (old new : Image A) (result : Bool) :
    Type 0 where
  pub bytes : ChangesBytes old new
  pub unknown : length (types_of old) ≤ T → result ≡ false
  pub loses : (picture : Picture) → IsOpen old picture → IsTrue result →
      LosesUnique (allocator_of old) (segment_of old) (segment_of new) picture T
  pub none : (picture : Picture) → IsOpen old picture → T < length (types_of old) →
      result ≡ false → unique_at picture T ≡ None
  pub unchanged : result ≡ false → new ≡ old

-- ---- strings

pub record Assigns {A : Type 0} (place : Place) (bytes_then : List ℕ) (old new : Image A)
    (result : Result (Unit {0}) Code) : Type 0 where
  pub bytes : ChangesBytes old new
  pub text : (xs blocks : List ℕ) →
      HasText (allocator_of old) (segment_of old) (place_of place) xs blocks →
      Rewrites (allocator_of old) (segment_of old) (segment_of new) (place_of place)
      (length bytes_then) bytes_then blocks result
  pub other : form_at (types_of old) place.type_id ≢ Some Form.str →
      Declines code.OtherType (segment_of old) (segment_of new) result

pub record Appends {A : Type 0} (place : Place) (more : List ℕ) (old new : Image A)
    (result : Result (Unit {0}) Code) : Type 0 where
  pub bytes : ChangesBytes old new
  pub text : (xs blocks : List ℕ) →
      HasText (allocator_of old) (segment_of old) (place_of place) xs blocks →
      Rewrites (allocator_of old) (segment_of old) (segment_of new) (place_of place)
      (length xs + length more) (xs ++ more) blocks result
  pub other : form_at (types_of old) place.type_id ≢ Some Form.str →
      Declines code.OtherType (segment_of old) (segment_of new) result

-- ---- vectors and lists

pub record PushesItemBack {A : Type 0} (place : Place) (old new : Image A)
    (result : Result Place Code) : Type 0 where
  pub bytes : ChangesBytes old new
  pub of_type : IfOk result
      (λ item. item_type (form_at (types_of old) place.type_id) ≡ Some item.type_id)
  pub vector : (U : ℕ) (vs : Values) (blocks : List ℕ) →
      HasItems (allocator_of old) (segment_of old) (place_of place) U vs blocks →
      MatchResult (found_position result)
      (PushesBack (allocator_of old) (segment_of old) (segment_of new) (place_of place) U vs
      blocks)
      (LacksRoom (allocator_of old) (segment_of old) (segment_of new)
      (push_asks (segment_of old) (place_of place) U))
  pub list : (U : ℕ) (vs : Values) (blocks : List ℕ) →
      HasList (allocator_of old) (segment_of old) (place_of place) U vs blocks →
      MatchResult (found_position result)
      (λ at. AddsItem (allocator_of old) (bytes_in old) (bytes_in new) (types_of old)
      (place_of place) U (append vs (cons (default_of (types_of old) U) nil)) blocks (count vs)
      at (λ i. Some i))
      (LacksRoom (allocator_of old) (segment_of old) (segment_of new)
      (block_for (8 + size (types_of old) U) ∷ []))
  pub other : item_type (form_at (types_of old) place.type_id) ≡ None →
      (result ≡ Err code.OtherType) × (new ≡ old)

pub record PushesItemFront {A : Type 0} (place : Place) (old new : Image A)
    (result : Result Place Code) : Type 0 where
  pub bytes : ChangesBytes old new
  pub of_type : IfOk result
      (λ item. item_type (form_at (types_of old) place.type_id) ≡ Some item.type_id)
  pub only_room : (U : ℕ) → form_at (types_of old) place.type_id ≡ Some (Form.list U) →
      IsOkUnless (found_position result) code.BadAlloc
  pub pushed : (U : ℕ) (vs : Values) (blocks : List ℕ) →
      HasList (allocator_of old) (segment_of old) (place_of place) U vs blocks →
      MatchResult (found_position result)
      (λ at. AddsItem (allocator_of old) (bytes_in old) (bytes_in new) (types_of old)
      (place_of place) U (cons (default_of (types_of old) U) vs) blocks 0 at (λ i. Some (suc i)))
      (λ _. Refuses (allocator_of old) (bytes_in old) (bytes_in new)
      (block_for (8 + size (types_of old) U) ∷ []))
  pub other : IsNoList (types_of old) place.type_id →
      (found_position result ≡ Err code.OtherType) × (bytes_in new ≡ bytes_in old)

-- numbers were appended to a vector of numbers, all or the first ones
pub record PushesItems {A : Type 0} (place : Place) (numbers : List ℤ) (old new : Image A)
    (result : Result (Unit {0}) StoppedAt) : Type 0 where
  pub bytes : ChangesBytes old new
  pub pushed : HasNumbers (types_of old) place.type_id →
      MatchResult result
      (λ _. PushesNumbers (allocator_of old) (segment_of old) (segment_of new) (place_of place)
      numbers)
      (StopsPushing (allocator_of old) (segment_of old) (segment_of new) (place_of place)
      numbers)
  pub other : ¬ HasNumbers (types_of old) place.type_id →
      (result ≡ Err (record { done = 0; code = code.OtherType })) × (new ≡ old)

pub record PopsItem {A : Type 0} (place : Place) (old new : Image A)
    (result : Result (Unit {0}) Code) : Type 0 where
  pub bytes : ChangesBytes old new
  pub text : (xs blocks : List ℕ) →
      HasText (allocator_of old) (segment_of old) (place_of place) xs blocks →
      MatchResult result
      (λ _. ComesToHold (allocator_of old) (segment_of old) (segment_of new) (place_of place)
      (Text (take (length xs - 1) xs)) [] [] blocks)
      (HasNone (segment_of old) (segment_of new) (length xs))
  pub vector : (U : ℕ) (vs : Values) (blocks : List ℕ) →
      (it : HasItems (allocator_of old) (segment_of old) (place_of place) U vs blocks) →
      MatchResult result
      (λ _. PopsBack (segment_of old) (segment_of new) (place_of place) vs it.stands.home blocks)
      (HasNone (segment_of old) (segment_of new) (count vs))
  pub list : (U : ℕ) (vs : Values) (blocks : List ℕ) →
      (it : HasList (allocator_of old) (segment_of old) (place_of place) U vs blocks) →
      MatchResult result
      (λ _. (1 ≤ count vs) × LosesItem (bytes_in old) (bytes_in new) (types_of old)
      (place_of place) vs (count vs - 1) (without_last vs) it.stands.home blocks)
      (HasNone (segment_of old) (segment_of new) (count vs))
  pub other : is_sequence (form_at (types_of old) place.type_id) ≡ false →
      Declines code.OtherType (segment_of old) (segment_of new) result
  pub counted : is_sequence (form_at (types_of old) place.type_id) ≡ true →
      MatchResult result (λ _. 1 ≤ count_at (bytes_in old) place.at)
      (HasNone (segment_of old) (segment_of new) (count_at (bytes_in old) place.at))

pub record PopsItemFront {A : Type 0} (place : Place) (old new : Image A)
    (result : Result (Unit {0}) Code) : Type 0 where
  pub bytes : ChangesBytes old new
  pub other : IsNoList (types_of old) place.type_id →
      Declines code.OtherType (segment_of old) (segment_of new) result
  pub empty : (U : ℕ) (blocks : List ℕ) →
      HasList (allocator_of old) (segment_of old) (place_of place) U nil blocks →
      Declines code.Null (segment_of old) (segment_of new) result
  pub popped : (U : ℕ) (v : Value) (vs : Values) (blocks : List ℕ) →
      (it : HasList (allocator_of old) (segment_of old) (place_of place) U (cons v vs) blocks) →
      IsOk result × LosesItem (bytes_in old) (bytes_in new) (types_of old) (place_of place)
      (cons v vs) 0 vs it.stands.home blocks

-- ---- maps

pub record Puts {A : Type 0} (map : Place) (key : ℤ) (old new : Image A)
    (result : Result Place Code) : Type 0 where
  pub bytes : ChangesBytes old new
  pub of_type : IfOk result
      (λ value. IsMapOf (form_at (types_of old) map.type_id) value.type_id)
  pub other : has_keys (form_at (types_of old) map.type_id) ≡ false →
      (result ≡ Err code.OtherType) × (new ≡ old)
  pub only_room : has_keys (form_at (types_of old) map.type_id) ≡ true →
      IsOkUnless (found_position result) code.BadAlloc
  pub puts : WhereMap (allocator_of old) (segment_of old) map (λ U keys vs blocks.
      PutsKey (allocator_of old) (bytes_in old) (bytes_in new) (types_of old) (place_of map) U
      keys vs key blocks
      (key_asks (bytes_in old) (types_of old) map.at (form_at (types_of old) map.type_id))
      (key_place keys key) (found_position result))
  pub keeps : WhereMap (allocator_of old) (segment_of old) map (λ U keys vs blocks.
      KeepsTreePaths (form_at (types_of old) map.type_id) (bytes_in old) (bytes_in new)
      (types_of old) (place_of map))

-- keys were put into a map of numbers, with their numbers, all or the first ones
pub record PutsEntries {A : Type 0} (map : Place) (entries : List Pair) (old new : Image A)
    (result : Result (Unit {0}) StoppedAt) : Type 0 where
  pub bytes : ChangesBytes old new
  pub puts : HasNumberValues (types_of old) map.type_id →
      MatchResult result
      (λ _. PutsNumbers (allocator_of old) (segment_of old) (segment_of new) (place_of map)
      entries)
      (StopsPutting (allocator_of old) (segment_of old) (segment_of new) (place_of map) entries)
  pub other : ¬ HasNumberValues (types_of old) map.type_id →
      (result ≡ none_done code.OtherType) × (new ≡ old)

pub record Removes {A : Type 0} (map : Place) (key : ℤ) (old new : Image A)
    (result : Bool) : Type 0 where
  pub bytes : ChangesBytes old new
  pub other : has_keys (form_at (types_of old) map.type_id) ≡ false →
      (result ≡ false) × (bytes_in new ≡ bytes_in old)
  pub removes : (U : ℕ) (keys : List ℤ) (vs : Values) (blocks : List ℕ) →
      IsMapOf (form_at (types_of old) map.type_id) U →
      (s : StandsIn old map (Map keys vs) blocks) →
      RemovesKey (bytes_in old) (bytes_in new) (types_of old) (place_of map) keys vs s.home
      blocks (KeepsKeysBut (form_at (types_of old) map.type_id) (bytes_in old) (bytes_in new)
      (types_of old) (place_of map) key) (key_place keys key) result

-- ---- owns and shared cells

pub record PutsContent {A : Type 0} (own : Place) (old new : Image A)
    (result : Result Place Code) : Type 0 where
  pub bytes : ChangesBytes old new
  pub of_type : IfOk result
      (λ place. object_type (form_at (types_of old) own.type_id) ≡ Some place.type_id)
  pub puts : (U : ℕ) (v : Value) (blocks : List ℕ) →
      form_at (types_of old) own.type_id ≡ Some (Form.own U) →
      (s : StandsIn old own v blocks) → MatchResult (found_position result)
      (λ at. BesideShared (bytes_in old) (types_of old) (s.home ∷ blocks) (named_in v)
      (PutsNew (allocator_of old) (bytes_in old) (bytes_in new) (types_of old) (place_of own) U
      blocks at))
      (LacksRoom (allocator_of old) (segment_of old) (segment_of new)
      (one_value (types_of old) U))
  pub other : object_type (form_at (types_of old) own.type_id) ≡ None →
      (result ≡ Err code.OtherType) × (new ≡ old)

pub record FreezesInto {A : Type 0} (own shared : Place) (old new : Image A)
    (result : Result (Unit {0}) Code) : Type 0 where
  pub bytes : ChangesBytes old new
  pub other : ((U : ℕ) → OwnAndShared (types_of old) own shared U → ⊥) →
      (result ≡ Err code.OtherType) × (new ≡ old)
  pub empty : (U : ℕ) → OwnAndShared (types_of old) own shared U →
      target (bytes_in old) own.at ≡ None → (result ≡ Err code.Null) × (new ≡ old)
  pub used_up : (U object : ℕ) → OwnAndShared (types_of old) own shared U →
      target (bytes_in old) own.at ≡ Some object →
      suc (word (bytes_in old) next_word) ≡ 2 ^ 32 →
      (result ≡ Err code.NumbersUsedUp) × (new ≡ old)
  pub only_room : (U object : ℕ) → OwnAndShared (types_of old) own shared U →
      target (bytes_in old) own.at ≡ Some object →
      suc (word (bytes_in old) next_word) < 2 ^ 32 → IsOkUnless result code.BadAlloc
  pub freezes : (U object : ℕ) (v w : Value) (blocks inside : List ℕ) (theirs : ℕ → List ℕ)
      (kept : List reads.Place) (now : List Frozen) →
      OwnAndShared (types_of old) own shared U →
      target (bytes_in old) own.at ≡ Some object → (s : StandsIn old shared v blocks) →
      IsLoose (bytes_in old) (types_of old) (object_at object U) w inside →
      FrozenBeside (bytes_in old) (types_of old)
      (s.home ∷ (blocks ++ block_of object ∷ inside)) (names_in w ++ (names_in v ++ kept))
      (word (bytes_in old) next_word) theirs now →
      suc (word (bytes_in old) next_word) < 2 ^ 32 →
      MatchResult result
      (λ _. FreezesOwn (allocator_of old) (bytes_in old) (bytes_in new) (types_of old) own.at
      (place_of shared) U object w inside blocks (names_in v) theirs now)
      (LacksRoom (allocator_of old) (segment_of old) (segment_of new)
      (block_for (frozen_words + size (types_of old) U) ∷ []))

pub record Shares {A : Type 0} (to from : Place) (old new : Image A)
    (result : Result (Unit {0}) Code) : Type 0 where
  pub bytes : ChangesBytes old new
  pub other : ((T : ℕ) → AreShared (types_of old) to from T → ⊥) →
      (result ≡ Err code.OtherType) × (new ≡ old)
  pub done : (T : ℕ) → AreShared (types_of old) to from T → IsOk result
  pub shares : (T next : ℕ) (v w : Value) (blocks others : List ℕ) (theirs : ℕ → List ℕ)
      (kept : List reads.Place) (now : List Frozen) → AreShared (types_of old) to from T →
      (s : StandsIn old to v blocks) →
      Holds (bytes_in old) (types_of old) (place_of from) w others →
      FrozenBeside (bytes_in old) (types_of old) (s.home ∷ blocks) (names_in v ++ kept) next
      theirs now → AllByRecursion (IsBelow next now) (names_in w) →
      AllByRecursion (λ f. f.count ≤ length (bytes_in old)) now →
      ClearsPlace (bytes_in old) (bytes_in new) (types_of old) (place_of to) w blocks []
      theirs now (left (names_in v) (raised_by (names_in w) now))

-- ---- objects without a name or an owner

pub record ConstructsAnonymous {A : Type 0} (T : ℕ) (old new : Image A)
    (result : Result Place Code) : Type 0 where
  pub bytes : ChangesBytes old new
  pub of_type : IfOk result (λ place. place.type_id ≡ T)
  pub unknown : length (types_of old) ≤ T → (result ≡ Err code.OtherType) × (new ≡ old)
  pub only_room : T < length (types_of old) → IsOkUnless (found_position result) code.BadAlloc
  pub makes : (picture : Picture) → IsOpen old picture → T < length (types_of old) →
      MatchResult (found_position result)
      (MakesLoose (allocator_of old) (segment_of old) (segment_of new) picture T)
      (LacksRoom (allocator_of old) (segment_of old) (segment_of new)
      (one_value (types_of old) T))

-- The object begins at the position. An image that has it isn't sound.
pub record DestroysAnonymous {A : Type 0} (at : ℕ) (old new : Image A) : Type 0 where
  pub bytes : ChangesBytes old new
  pub loses : (picture : Picture) (before : List Root) (root : Root) (after : List Root) →
      IsOpen old picture → picture.loose ≡ before ++ root ∷ after → root.at ≡ at →
      LosesLoose (allocator_of old) (segment_of old) (segment_of new) picture before root after

-- ---- values of any type

pub record Clears {A : Type 0} (place : Place) (old new : Image A)
    (result : Result (Unit {0}) Code) : Type 0 where
  pub bytes : ChangesBytes old new
  pub known : place.type_id < length (types_of old) → IsOk result
  pub unknown : length (types_of old) ≤ place.type_id →
      (result ≡ Err code.OtherType) × (new ≡ old)
  pub cleared : (v : Value) (blocks : List ℕ) → (s : StandsIn old place v blocks) →
      BesideShared (bytes_in old) (types_of old) (s.home ∷ blocks) (named_in v)
      (ClearsPlace (bytes_in old) (bytes_in new) (types_of old) (place_of place)
      (default_of (types_of old) place.type_id) blocks [])

pub record ShrinksBuffer {A : Type 0} (container : Place) (old new : Image A)
    (result : Result (Unit {0}) Code) : Type 0 where
  pub bytes : ChangesBytes old new
  pub shrinks : (form : Form) (v : Value) (blocks : List ℕ) →
      form_at (types_of old) container.type_id ≡ Some form → has_buffer (Some form) ≡ true →
      StandsIn old container v blocks →
      (others : List ℕ) × ShrinksPlace (bytes_in old) (bytes_in new) (types_of old)
      (place_of container) form v blocks others
  pub done : has_buffer (form_at (types_of old) container.type_id) ≡ true → IsOk result
  pub other : has_buffer (form_at (types_of old) container.type_id) ≡ false →
      (result ≡ Err code.OtherType) × (new ≡ old)
