-- The program's places in the definitions' terms.
--     place_of place                   the place of a value
--     object_at p U                    the place of an object's value
--     LiesWithin bytes table place     a place's value lies in the bytes of a segment
use Rattle.std.specs.Prelude.{ℕ, List}
use Rattle.seg_spec.specs.Types.{Table, size}
use Rattle.seg_spec.specs.Reads as reads
use Rattle.seg_spec.specs.Cells.{IsWithin}
use Rattle.seg_cells.specs.declared.place.Place.{Place}

abbrev pub place_of : Place → reads.Place
place_of place = record { at = place.at; type = place.type_id }

abbrev pub object_at : ℕ → ℕ → reads.Place
object_at at U = record { at = at; type = U }

abbrev pub LiesWithin : List ℕ → Table → Place → Type 0
LiesWithin bytes table place = IsWithin bytes place.at (size table place.type_id)
