-- The verifier's knowledge of registers without read-only references (references into frozen
-- objects).
--     bare_one, bare    of one register, and of all: such a reference is forgotten
use Rattle.std.specs.Prelude.{if◌then◌else◌, map}
use Rattle.client_spec.specs.Typed.{RegisterType, RegisterTypes, is_frozen}

abbrev pub bare_one : RegisterType → RegisterType
bare_one RegisterType.Undefined = RegisterType.Undefined
bare_one RegisterType.Int = RegisterType.Int
bare_one (RegisterType.Owner t) = RegisterType.Owner t
bare_one (RegisterType.Reference x t) =
    if is_frozen x then RegisterType.Undefined else RegisterType.Reference x t

abbrev pub bare : RegisterTypes → RegisterTypes
bare ks = map bare_one ks
