-- What is known of a register, packed into a number: its kind, its type and its class. The lowest
-- byte is the kind, the next one the type, and the two highest bytes are the class: its kind, and
-- the constant, the type or the register that it names.
--     class_in n, known_in n     the class, or what is known of a register, that n encodes
--     IsPackedClass, IsPacked    n encodes a class, or what is known of a register; no other
--                                number encodes the same
use Rattle.std.specs.Prelude.{ℕ, ◌≡◌, ◌<◌, ◌≤◌, ◌/◌, ◌%◌, ◌==◌, if◌then◌else◌}
use Rattle.client_spec.specs.Typed.{Class, RegisterType}

abbrev pub class_by : (kind n : ℕ) → Class
class_by kind n =
    if kind == 1 then Class.Name n else if kind == 2 then Class.Unique n else Class.Register n

abbrev pub class_in : ℕ → Class
class_in n = class_by (n % 256) (n / 256)

abbrev pub known_by : (kind type : ℕ) → Class → RegisterType
known_by kind t x =
    if kind == 1 then RegisterType.Int else
    if kind == 2 then RegisterType.Reference x t else
    if kind == 3 then RegisterType.Reference (Class.Frozen x) t else
    if kind == 4 then RegisterType.Owner t else RegisterType.Undefined

abbrev pub known_in : ℕ → RegisterType
known_in n = known_by (n % 256) (n / 256 % 256) (class_in (n / 65536))

abbrev pub IsPackedClass : ℕ → Type 0
IsPackedClass n = (1 ≤ n % 256) × (n % 256 ≤ 3)

-- only an owner and a reference have a type, and only a reference has a class
pub record IsPacked (n : ℕ) : Type 0 where
  pub kind : n % 256 ≤ 4
  pub alone : n % 256 < 2 → n ≡ n % 256
  pub classes : 2 ≤ n % 256 → n % 256 < 4 → IsPackedClass (n / 65536)
  pub classless : n % 256 ≡ 4 → n < 65536
