-- Places and codes in C's numbers.
--     type_number n           the type with C's number; no segment has type 255
--     place_at at n           the place of a value, from C's two numbers
--     told_place place        a place, in C's numbers
--     code_status code        the status that reports a code
--     TellsPlace status old new returned
--                             the status and the caller's place report the result of a call
--     TellsEntry status key place returned
--                             the status, and the caller's key and place, report the result of a call
use Rattle.std.specs.Prelude.{◌≡◌, ◌+◌, ℕ, ℤ, Result, Ok, Err, nat_lt, if◌then◌else◌}
use Rattle.seg_raw.specs.declared.code.Code.{Code}
use Rattle.seg_raw.specs.Refusals.{code_number}
use Rattle.lezgauri.specs.Place.{Place}
use Rattle.lezgauri_c.specs.declared.place.Place as told

abbrev pub type_number : ℕ → ℕ
type_number n = if nat_lt n 256 then n else 255

abbrev pub place_at : ℕ → ℕ → Place
place_at at n = record { at = at; type_id = type_number n }

abbrev pub told_place : Place → told.Place
told_place place = record { at = place.at; type_id = place.type_id }

abbrev pub code_status : Code → ℕ
code_status code = 110 + code_number code

abbrev pub TellsPlace : ℕ → told.Place → told.Place → Result Place Code → Type 0
TellsPlace status old new (Ok place) = (status ≡ 0) × (new ≡ told_place place)
TellsPlace status old new (Err code) = (status ≡ code_status code) × (new ≡ old)

abbrev pub TellsEntry : ℕ → ℤ → told.Place → Result (ℤ × Place) Code → Type 0
TellsEntry status key place (Ok entry) =
    (status ≡ 0) × (key ≡ entry.0) × (place ≡ told_place entry.1)
TellsEntry status key place (Err code) = status ≡ code_status code
