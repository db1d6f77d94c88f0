-- The open parts at a place in code, the innermost first. At most eight can be open.
--     passed parts role         the open parts after an instruction of this role, or None if the
--                               role is an error there
--     passed_all parts roles    the same for several instructions
use Rattle.std.specs.Prelude.{List, [], ◌∷◌, length, reverse, Option, Some, None, nat_lt, if◌then◌else◌}
use Rattle.std.specs.Option.{option_and_then}
use Rattle.client_spec.specs.declared.table.Role.{Role}
use Rattle.client_code.specs.declared.nesting.Part.{Part}
use Rattle.client_code.specs.declared.nesting.Part.TheVariants as part
use Rattle.client_code.specs.declared.nesting.Nesting.{Nesting}

abbrev pub with_open_part : List Part → Part → Option (List Part)
with_open_part parts part = if nat_lt (length parts) 8 then Some (part ∷ parts) else None

abbrev pub passed : List Part → Role → Option (List Part)
passed parts Role.Plain = Some parts
passed parts Role.Opener = with_open_part parts part.Success
passed parts Role.Loop = with_open_part parts part.Body
passed (part.Success ∷ parts) Role.Else = Some (part.Else ∷ parts)
passed (part.Else ∷ parts) Role.End = Some parts
passed (part.Body ∷ parts) Role.End = Some parts
passed parts role = None

abbrev pub passed_all : List Part → List Role → Option (List Part)
passed_all parts [] = Some parts
passed_all parts (role ∷ roles) = option_and_then (λ now. passed_all now roles) (passed parts role)

abbrev pub open_parts : Nesting → List Part
open_parts nesting = reverse nesting.parts.items
