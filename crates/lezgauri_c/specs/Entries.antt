-- Entries of a map in the caller's memory.
--     told_key entry              an entry's key
--     IsEntry image table map U keys entry
--                                 the entry has a key of the map, and the place of its value
--     FillsEntries image table map U keys wanted old new count
--                                 the memory begins with the entries of as many of these keys as it has room for
use Rattle.std.specs.Prelude.{◌≡◌, ℕ, ℤ, List, length, take, map, Some}
use Rattle.std.specs.List.{AllByRecursion}
use Rattle.seg_spec.specs.Types.{Table, form_at}
use Rattle.lezgauri.specs.Place.{Place}
use Rattle.lezgauri.specs.CellPlaces.{place_of}
use Rattle.lezgauri.specs.EitherMap.{IsMapOf}
use Rattle.lezgauri.specs.Maps.{FindsValue}
use Rattle.lezgauri_c.specs.declared.entry.Entry.{Entry}
use Rattle.lezgauri_c.specs.Told.{over}

abbrev pub told_key : Entry → ℤ
told_key entry = entry.key

pub record IsEntry (image : List ℕ) (table : Table) (at : Place) (U : ℕ) (keys : List ℤ)
    (entry : Entry) : Type 0 where
  pub of_type : IsMapOf (form_at table at.type_id) entry.value.type_id
  pub finds : FindsValue image table (place_of at) U keys entry.key (Some entry.value.at)

pub record FillsEntries (image : List ℕ) (table : Table) (at : Place) (U : ℕ)
    (keys wanted : List ℤ) (old new : List Entry) (count : ℕ) : Type 0 where
  pub entries : List Entry
  pub count_is : length entries ≡ count
  pub new_is : new ≡ over entries old
  pub keys_are : map told_key entries ≡ take (length old) wanted
  pub each : AllByRecursion (IsEntry image table at U keys) entries
