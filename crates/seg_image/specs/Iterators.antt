-- Iterators over an image, which has the same bytes as long as they are used. `allocator` and `stored` give the
-- allocator and the segment of an image.
--     item_before xs n             the item before an index, if there is one
--     HasNamed names iterator n    it has returned the first n of these names
--     ShowsItemBefore segment sequence U n last
--                                  a position, if there is one, is where the item before an index is
--     HasReturned segment U count iterator n
--                                  it has returned the first n of `count` items of type U
--     keys_after keys last         the keys above the last one, or all before the first one came
--     HasKeysLeft segment keys iterator left
--                                  of these keys it has `left` to return, and its cursor is valid
--     NamesNext, ItemsNext, KeysNext, EntriesNext
--                                  what `next` returns: the next one, or none after the last
use Rattle.std.specs.Prelude.{◌≡◌, ⊤, ℕ, zero, suc, ◌+◌, ◌-◌, ◌≤◌, ℤ, false, List, length, drop, Option, Some, None, IsSomeAnd, MatchOption, slice_get}
use Rattle.std.specs.Option.{option_map, IfSome}
use Rattle.seg_spec.specs.Index.{Root}
use Rattle.seg_spec.specs.Sound.{Picture}
use Rattle.seg_spec.specs.Reads as places
use Rattle.seg_spec.specs.Types.{form_at}
use Rattle.seg_spec.specs.Value.{Values, count}
use Rattle.seg_rbtree.specs.Following.{LeadsInside}
use Rattle.seg_value.specs.Place.{Place}
use Rattle.seg_value.specs.CellPlaces.{place_of}
use Rattle.seg_value.specs.Stored.{Stored}
use Rattle.seg_seq.specs.Lists.{HasList}
use Rattle.seg_seq.specs.Sequences.{HasItems, ShowsItem}
use Rattle.seg_map.specs.EitherMap.{IsMapOf}
use Rattle.seg_map.specs.Maps.{FindsValue, first_of, keys_above}
use Rattle.seg_manager.specs.declared.listing.Named.{Named}
use Rattle.seg_manager.specs.NamedObjects.{DescribesRoot}
use Rattle.seg_manager.specs.Segments.{IsSegment}
use Rattle.seg_image.specs.declared.iterators.Names.{Names}
use Rattle.seg_image.specs.declared.iterators.Items.{Items}
use Rattle.seg_image.specs.declared.iterators.Keys.{Keys}
use Rattle.seg_image.specs.declared.iterators.Entries.{Entries}
use Rattle.seg_image.specs.Places.{is_list, WhereMap}

abbrev pub item_before : {X : Type 0} → List X → ℕ → Option X
item_before xs zero = None
item_before xs (suc n) = slice_get xs n

-- ---- names

pub record HasNamed {S : Type 0} (names : List Root) (it : Names S) (n : ℕ) : Type 0 where
  pub last : option_map (λ name. name.now) it.last
      ≡ option_map (λ r. r.name) (item_before names n)
  pub left : it.left + n ≡ length names

pub record NamesNext {S : Type 0} (allocator : S → ℕ) (stored : S → Stored) (old : Names S)
    (result : Option Named) (new : Names S) : Type 0 where
  pub image : new.image ≡ old.image
  pub next : (picture : Picture) (n : ℕ) →
      IsSegment (allocator old.image.now) (stored old.image.now) picture →
      HasNamed picture.names old n →
      MatchOption result (slice_get picture.names n ≡ None)
      (λ named. IsSomeAnd (slice_get picture.names n)
      (DescribesRoot named.name.now named.type_id named.count)
      × HasNamed picture.names new (suc n))

-- ---- items

-- the position, if there is one, is where the item before an index is
abbrev pub ShowsItemBefore : Stored → places.Place → ℕ → ℕ → Option ℕ → Type 0
ShowsItemBefore segment sequence U n last =
    IfSome last (λ at. (1 ≤ n) × ShowsItem segment sequence U (n - 1) at)

pub record HasReturned {S : Type 0} (segment : Stored) (U length : ℕ) (it : Items S) (n : ℕ) :
    Type 0 where
  pub item_type : it.item_type ≡ U
  pub len : it.len ≡ length
  pub left : it.left + n ≡ length
  pub is_list : it.is_list ≡ is_list (form_at segment.types it.sequence.type_id)
  pub vector : it.is_list ≡ false → it.last ≡ None
  pub last : ShowsItemBefore segment (place_of it.sequence) U n it.last

-- the item with index n, or none after the last
abbrev pub ReturnsItem : {S : Type 0} → Stored → ℕ → ℕ → Items S → ℕ → Option Place → Type 0
ReturnsItem segment U length new n result = MatchOption result (n ≡ length)
    (λ item. (item.type_id ≡ U) × ShowsItem segment (place_of new.sequence) U n item.at
    × HasReturned segment U length new (suc n))

pub record ItemsNext {S : Type 0} (allocator : S → ℕ) (stored : S → Stored) (old : Items S)
    (result : Option Place) (new : Items S) : Type 0 where
  pub image : new.image ≡ old.image
  pub sequence : new.sequence ≡ old.sequence
  pub vector : (U n : ℕ) (vs : Values) (blocks : List ℕ) →
      HasItems (allocator old.image.now) (stored old.image.now) (place_of old.sequence) U vs blocks →
      HasReturned (stored old.image.now) U (count vs) old n →
      ReturnsItem (stored old.image.now) U (count vs) new n result
  pub list : (U n : ℕ) (vs : Values) (blocks : List ℕ) →
      HasList (allocator old.image.now) (stored old.image.now) (place_of old.sequence) U vs blocks →
      HasReturned (stored old.image.now) U (count vs) old n →
      ReturnsItem (stored old.image.now) U (count vs) new n result

-- ---- maps

abbrev pub keys_after : List ℤ → Option ℤ → List ℤ
keys_after keys None = keys
keys_after keys (Some last) = keys_above keys last

pub record HasKeysLeft {S : Type 0} (segment : Stored) (keys : List ℤ) (it : Keys S)
    (left : List ℤ) : Type 0 where
  pub cursor : LeadsInside segment.window.bytes it.cursor.path
  pub left_is : keys_after keys it.last ≡ left
  pub most : length left ≤ it.left

pub record KeysNext {S : Type 0} (allocator : S → ℕ) (stored : S → Stored) (old : Keys S)
    (result : Option ℤ) (new : Keys S) : Type 0 where
  pub image : new.image ≡ old.image
  pub map : new.map ≡ old.map
  pub next : WhereMap (allocator old.image.now) (stored old.image.now) old.map
      (λ U keys vs blocks. (left : List ℤ) →
      HasKeysLeft (stored old.image.now) keys old left → (result ≡ first_of left) ×
      MatchOption result ⊤
      (λ key. HasKeysLeft (stored old.image.now) keys new (drop 1 left)))

-- the value of a key of a map, at a place
pub record IsMapEntry (segment : Stored) (map : Place) (U : ℕ) (keys : List ℤ) (key : ℤ)
    (value : Place) : Type 0 where
  pub of_type : IsMapOf (form_at segment.types map.type_id) value.type_id
  pub finds : FindsValue segment.window.bytes segment.types (place_of map) U keys key
      (Some value.at)

pub record EntriesNext {S : Type 0} (allocator : S → ℕ) (stored : S → Stored) (old : Entries S)
    (result : Option (ℤ × Place)) (new : Entries S) : Type 0 where
  pub image : new.0.image ≡ old.0.image
  pub map : new.0.map ≡ old.0.map
  pub next : WhereMap (allocator old.0.image.now) (stored old.0.image.now) old.0.map
      (λ U keys vs blocks. (left : List ℤ) →
      HasKeysLeft (stored old.0.image.now) keys old.0 left →
      (option_map (λ entry. entry.0) result ≡ first_of left) ×
      MatchOption result ⊤
      (λ entry. IsMapEntry (stored old.0.image.now) old.0.map U keys entry.0 entry.1
      × HasKeysLeft (stored old.0.image.now) keys new.0 (drop 1 left)))
