-- Calls on maps of one kind. U is the type of the values, `keys` and vs are the keys and the values
-- in order, and `blocks` the blocks that the map owns. An index of a key is its index in `keys`.
--     first_of keys               the first of keys, if there is one
--     last_of keys                the last of keys, if there is one
--     keys_above keys after       the keys above another, in their order
--     lower_keys keys before      the keys below another, in their order
--     value_of U at               the place of a value of type U
--     WhereMap form allocator bytes table cell claim
--                                 the claim is true of each map of this form at a cell
--     FindsValue bytes table map U keys key found
--                                 the position of a key's value; none exactly if the map doesn't have the key
--     FindsEntry bytes table map U key found
--                                 the key, with the position of its value; none if there is no key
--     AddsKey, PutsKey            a key was added to a map; the result of `put`
--     TakesKey, RemovesKey        a key was removed from a map; the result of `remove`
--     KeepsLowerKeys old new table map key
--                                 paths through keys below another still reach the same places
use Rattle.std.specs.Prelude.{◌≡◌, ◌-◌, ◌<ℤ◌, ℕ, Bool, true, false, ℤ, int_lt, List, [], ◌∷◌, length, filter, slice_get, Option, Some, None, IfSome, MatchOption, Result, MatchResult}
use Rattle.std.specs.Option.{option_map}
use Rattle.seg_spec.specs.Types.{Form, Table, form_at}
use Rattle.seg_spec.specs.Value.{Value, Values, Map, Selector, nth, default_of}
use Rattle.seg_spec.specs.Items.{key_place, keys_below, with_entry, without_entry}
use Rattle.seg_spec.specs.Reads.{Place, Leads}
use Rattle.seg_spec.specs.Parts.{KeepsParts}
use Rattle.seg_spec.specs.Calls.{Refuses}
use Rattle.seg_spec.specs.Demand.{Ask}
use Rattle.seg_spec.specs.Clearing.{BesideShared, LosesPart}
use Rattle.seg_spec.specs.Frozen.{Frozen}
use Rattle.seg_spec.specs.Shared.{named_in}
use Rattle.seg_spec.specs.Growing.{Succeeds}
use Rattle.seg_spec.specs.Owning.{Stands}
use Rattle.seg_cells.specs.Places.{object_at}
use Rattle.seg_map.specs.declared.key_value.KeyValue.{KeyValue}

abbrev pub first_of : List ℤ → Option ℤ
first_of keys = slice_get keys 0

abbrev pub keys_above : List ℤ → ℤ → List ℤ
keys_above keys after = filter (λ x. int_lt after x) keys

abbrev pub last_of : List ℤ → Option ℤ
last_of keys = slice_get keys (length keys - 1)

abbrev pub lower_keys : List ℤ → ℤ → List ℤ
lower_keys keys before = filter (λ x. int_lt x before) keys

abbrev pub value_of : ℕ → ℕ → Place
value_of U at = record { at = at; type = U }

-- If the cell has a map of this form, the claim is true of the map's type, the type of its values,
-- its keys and values, and the blocks that it owns.
abbrev pub WhereMap : (ℕ → Form) → ℕ → List ℕ → Table → ℕ
    → (ℕ → ℕ → List ℤ → Values → List ℕ → Type 0) → Type 0
WhereMap form allocator bytes table cell claim =
    (T U : ℕ) (keys : List ℤ) (vs : Values) (blocks : List ℕ) → form_at table T ≡ Some (form U)
    → Stands allocator bytes table (object_at cell T) (Map keys vs) blocks
    → claim T U keys vs blocks

abbrev pub FindsValue : List ℕ → Table → Place → ℕ → List ℤ → ℤ → Option ℕ → Type 0
FindsValue bytes table map U keys key found = MatchOption found (key_place keys key ≡ None)
    (λ p. Leads bytes table map (Selector.key key ∷ []) (value_of U p))

-- the key, if there is one, with the position of its value
pub record FindsEntry (bytes : List ℕ) (table : Table) (map : Place) (U : ℕ) (key : Option ℤ)
    (found : Option KeyValue) : Type 0 where
  pub key_is : option_map (λ entry. entry.key) found ≡ key
  pub leads : IfSome found (λ entry.
      Leads bytes table map (Selector.key entry.key ∷ []) (value_of U entry.value))

-- The map has one key more, with a default value at position p. Its other values stay.
pub record AddsKey (allocator : ℕ) (old new : List ℕ) (table : Table) (map : Place) (U : ℕ)
    (keys : List ℤ) (vs : Values) (key : ℤ) (blocks : List ℕ) (asks : List Ask)
    (p : ℕ) : Type 0 where
  pub others : List ℕ
  pub succeeds : Succeeds allocator old new table map
      (with_entry (keys, vs) key (default_of table U)) asks [] blocks others
  pub parts : KeepsParts old new table map (keys_below keys key) 0 1
  pub stands_at : Leads new table map (Selector.key key ∷ []) (value_of U p)

-- The result of `put`, by the index of the key among the map's keys. Nothing changes if the map has
-- the key.
abbrev pub PutsKey : {E : Type 0} → ℕ → List ℕ → List ℕ → Table → Place → ℕ → List ℤ → Values → ℤ
    → List ℕ → List Ask → Option ℕ → Result ℕ E → Type 0
PutsKey allocator old new table map U keys vs key blocks asks None result = MatchResult result
    (AddsKey allocator old new table map U keys vs key blocks asks)
    (λ code. Refuses allocator old new asks)
PutsKey allocator old new table map U keys vs key blocks asks (Some i) result = MatchResult result
    (λ p. (new ≡ old) × Leads old table map (Selector.key key ∷ []) (value_of U p))
    (λ code. ⊥)

-- The map lost the key at an index, with its value and the frozen objects that lost their last
-- cell. `keeps` is a fact about paths, and is true.
pub record TakesKey (old new : List ℕ) (table : Table) (map : Place) (keys : List ℤ) (vs : Values)
    (blocks : List ℕ) (keeps : Type 0) (i : ℕ) (theirs : ℕ → List ℕ) (now final : List Frozen) :
    Type 0 where
  pub loses : LosesPart old new table map (without_entry (keys, vs) i) i blocks theirs now final
  pub kept : keeps

-- The result of `remove`, by the index of the key among the map's keys. The map lies in the block
-- `home`. Nothing changes if the map lacks the key.
abbrev pub RemovesKey : List ℕ → List ℕ → Table → Place → List ℤ → Values → ℕ → List ℕ → Type 0 →
    Option ℕ → Bool → Type 0
RemovesKey old new table map keys vs home blocks keeps None gone = (gone ≡ false) × (new ≡ old)
RemovesKey old new table map keys vs home blocks keeps (Some i) gone =
    (gone ≡ true) × ((v : Value) → nth vs i ≡ Some v →
    BesideShared old table (home ∷ blocks) (named_in v)
    (TakesKey old new table map keys vs blocks keeps i))

abbrev pub KeepsLowerKeys : List ℕ → List ℕ → Table → Place → ℤ → Type 0
KeepsLowerKeys old new table map key =
    (other : ℤ) (path : List Selector) (inner : Place) → other <ℤ key
    → Leads old table map (Selector.key other ∷ path) inner
    → Leads new table map (Selector.key other ∷ path) inner
