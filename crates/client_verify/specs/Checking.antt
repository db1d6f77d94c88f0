-- The verifier's rule as the program computes it, from the columns of the instruction table. The
-- proofs show that it agrees with Typed.
--     RuleInput
--              what the rule reads: the row, the operands, and what is known before the
--              instruction
--     meets, given, ended_in     whether a register contains what is needed, what a register gets,
--                                what is known once references have ended
--     checked_first, known_in_parts, applied     the first reason to refuse the instruction, what
--                                                is known after it in both parts, or either
use Rattle.std.specs.Prelude.{⊤, ℕ, ℤ, pos, negsuc, List, Bool, true, false, not, ◌==◌, if◌then◌else◌, Option, Some, None, Ok, slice_get, slice_set}
use Rattle.std.specs.Option.{is_some, option_and_then}
use Rattle.client_spec.specs.Types.{Form, Table, form_at}
use Rattle.client_spec.specs.declared.table.Role.{Role}
use Rattle.client_spec.specs.declared.table.Row.{Row}
use Rattle.client_spec.specs.Typed.{Class, RegisterType, RegisterTypes, Reason, Checked, ◌>>=◌, Rule, known, same_class, is_owner, required, ended, others_ended, sharing, frozen, is_frozen}
use Rattle.client_spec.specs.declared.table.Need.{Need}
use Rattle.client_spec.specs.declared.table.Need.TheVariants as need
use Rattle.client_spec.specs.declared.table.Kinds.{Kinds}
use Rattle.client_spec.specs.declared.table.Kinds.TheVariants as kinds
use Rattle.client_spec.specs.declared.table.Gives.{Gives}
use Rattle.client_spec.specs.declared.table.Gives.TheVariants as gives
use Rattle.client_spec.specs.declared.table.Ends.{Ends}
use Rattle.client_spec.specs.declared.table.Ends.TheVariants as ends

-- an instruction with its row, the type and the constant that its number refers to, and what is
-- known before it
pub record RuleInput : Type 0 where
  pub types : Table
  pub before : RegisterTypes
  pub row : Row
  pub a : ℕ
  pub b : ℕ
  pub c : ℕ
  pub number : ℤ
  pub type_id : ℕ
  pub constant : ℕ

-- ---- what register b refers to

-- the class of the reference, or the class that shares it, and the type
abbrev pub referred : RegisterType → Option (Class × ℕ)
referred RegisterType.Undefined = None
referred RegisterType.Int = None
referred (RegisterType.Reference x t) = Some (sharing x, t)
referred (RegisterType.Owner t) = None

-- the type of the object that a register owns
abbrev pub owned_by : RegisterType → Option ℕ
owned_by (RegisterType.Owner t) = Some t
owned_by k = None

-- the type of the value that a reference refers to and may change
abbrev pub changeable_by : RegisterType → Option ℕ
changeable_by (RegisterType.Reference x t) = if is_frozen x then None else Some t
changeable_by k = None

abbrev pub field_at : ℤ → List ℕ → Option ℕ
field_at (pos n) fields = slice_get fields n
field_at (negsuc n) fields = None

-- the type of an item, a map's value, an object, or field `number`
abbrev pub part_of : ℤ → Form → Option ℕ
part_of number Form.i64 = None
part_of number Form.str = None
part_of number (Form.vec t) = Some t
part_of number (Form.list t) = Some t
part_of number (Form.flat_map t) = Some t
part_of number (Form.map t) = Some t
part_of number (Form.own t) = Some t
part_of number (Form.struct fields) = field_at number fields
part_of number (Form.shared t) = Some t

-- the type of a part of the value that a reference refers to
abbrev pub part_in : Table → ℤ → RegisterType → Option ℕ
part_in types number RegisterType.Undefined = None
part_in types number RegisterType.Int = None
part_in types number (RegisterType.Reference x t) =
    option_and_then (part_of number) (form_at types t)
part_in types number (RegisterType.Owner t) = None

-- ---- what a register must contain

abbrev pub is_kind : ℤ → Kinds → Form → Bool
is_kind number kinds.Any k = true
is_kind number kinds.I64 Form.i64 = true
is_kind number kinds.Str Form.str = true
is_kind number kinds.List (Form.list t) = true
is_kind number kinds.Own (Form.own t) = true
is_kind number kinds.Shared (Form.shared t) = true
is_kind number kinds.Holder (Form.own t) = true
is_kind number kinds.Holder (Form.shared t) = true
is_kind number kinds.Struct (Form.struct fields) = is_some (field_at number fields)
is_kind number kinds.Sequence (Form.vec t) = true
is_kind number kinds.Sequence (Form.list t) = true
is_kind number kinds.Indexed Form.str = true
is_kind number kinds.Indexed (Form.vec t) = true
is_kind number kinds.Indexed (Form.list t) = true
is_kind number kinds.Buffered Form.str = true
is_kind number kinds.Buffered (Form.vec t) = true
is_kind number kinds.Buffered (Form.flat_map t) = true
is_kind number kinds.Map (Form.flat_map t) = true
is_kind number kinds.Map (Form.map t) = true
is_kind number kinds.Sized Form.i64 = false
is_kind number kinds.Sized (Form.own t) = false
is_kind number kinds.Sized (Form.struct fields) = false
is_kind number kinds.Sized (Form.shared t) = false
is_kind number kinds.Sized k = true
is_kind number kinds k = false

-- a type of one of these kinds. A number that is no type's passes only as `Any`.
abbrev pub is_kind_at : ℤ → Kinds → Option Form → Bool
is_kind_at number kinds (Some form) = is_kind number kinds form
is_kind_at number kinds.Any None = true
is_kind_at number kinds None = false

abbrev pub is_integer : RegisterType → Bool
is_integer RegisterType.Int = true
is_integer k = false

abbrev pub is_copyable : RegisterType → Bool
is_copyable RegisterType.Int = true
is_copyable (RegisterType.Reference x t) = true
is_copyable k = false

abbrev pub is_type : Option ℕ → ℕ → Bool
is_type None t = false
is_type (Some u) t = u == t

-- an owner of an object of this type
abbrev pub is_content : Option ℕ → RegisterType → Bool
is_content part_held (RegisterType.Owner t) = is_type part_held t
is_content part_held k = false

abbrev pub leads_to : Table → ℤ → Kinds → RegisterType → Bool
leads_to types number kinds (RegisterType.Reference x t) = is_kind_at number kinds (form_at types t)
leads_to types number kinds k = false

-- a reference to a value of one of these kinds, but not into a frozen object
abbrev pub may_change : Table → ℤ → Kinds → RegisterType → Bool
may_change types number kinds (RegisterType.Reference x t) =
    if is_frozen x then false else is_kind_at number kinds (form_at types t)
may_change types number kinds k = false

-- a shared of this type
abbrev pub shares : Option ℕ → Option Form → Bool
shares part_held (Some (Form.shared t)) = is_type part_held t
shares part_held form = false

abbrev pub is_alike : Table → Option ℕ → RegisterType → Bool
is_alike types part_held (RegisterType.Reference x t) = shares part_held (form_at types t)
is_alike types part_held k = false

-- whether a register meets a need; `held` is what is known of register b
abbrev pub meets_by : Table → ℤ → RegisterType → Need → ℕ → RegisterType → Bool
meets_by types number held need.Nothing r k = true
meets_by types number held need.Int r k = is_integer k
meets_by types number held need.IntOrNone r k = if r == 16 then true else is_integer k
meets_by types number held need.Copyable r k = is_copyable k
meets_by types number held need.Owner r k = is_owner k
meets_by types number held need.Content r k = is_content (part_in types number held) k
meets_by types number held (need.Reference kinds) r k = leads_to types number kinds k
meets_by types number held (need.Changeable kinds) r k = may_change types number kinds k
meets_by types number held need.Alike r k = is_alike types (part_in types number held) k

-- ---- what a register gets

abbrev pub borrowed_from : ℕ → RegisterType → RegisterType
borrowed_from b (RegisterType.Owner t) = RegisterType.Reference (Class.Register b) t
borrowed_from b k = RegisterType.Undefined

abbrev pub content_of : Option ℕ → RegisterType
content_of None = RegisterType.Undefined
content_of (Some t) = RegisterType.Owner t

-- a reference through a shared cell is only read
abbrev pub part_class : Class → Form → Class
part_class x (Form.shared t) = frozen x
part_class x form = x

-- a reference to a part of this type
abbrev pub part_below : Form → ℕ → RegisterType → RegisterType
part_below form part RegisterType.Undefined = RegisterType.Undefined
part_below form part RegisterType.Int = RegisterType.Undefined
part_below form part (RegisterType.Reference x t) =
    RegisterType.Reference (part_class x form) part
part_below form part (RegisterType.Owner t) = RegisterType.Undefined

-- a part of a text is a number
abbrev pub part_given : Class → Option ℕ → RegisterType
part_given x None = RegisterType.Int
part_given x (Some t) = RegisterType.Reference x t

abbrev pub part_at : ℤ → Option Form → Class → RegisterType
part_at number None x = RegisterType.Int
part_at number (Some form) x = part_given (part_class x form) (part_of number form)

abbrev pub part_known : Table → ℤ → RegisterType → RegisterType
part_known types number RegisterType.Undefined = RegisterType.Int
part_known types number RegisterType.Int = RegisterType.Int
part_known types number (RegisterType.Reference x t) = part_at number (form_at types t) x
part_known types number (RegisterType.Owner t) = RegisterType.Int

-- in the else part the register has the code
abbrev pub otherwise_by : Role → RegisterType → RegisterType
otherwise_by Role.Opener k = RegisterType.Int
otherwise_by role k = k

abbrev pub changed : Option (ℕ × RegisterType) → RegisterTypes → RegisterTypes
changed None ks = ks
changed (Some x) ks = slice_set ks x.0 x.1

abbrev pub changed_by : Role → Option (ℕ × RegisterType) → RegisterTypes → RegisterTypes
changed_by role None ks = ks
changed_by role (Some x) ks = slice_set ks x.0 (otherwise_by role x.1)

-- an owner would be overwritten
abbrev pub is_lost : Option (ℕ × RegisterType) → RegisterTypes → Bool
is_lost None ks = false
is_lost (Some x) ks = is_owner (known ks x.0)

-- ---- which references end

abbrev pub others : Option (Class × ℕ) → ℕ → RegisterTypes → RegisterTypes
others None b ks = ks
others (Some x) b ks = others_ended x.0 b ks

abbrev pub emptied : ℕ → RegisterTypes → RegisterTypes
emptied r ks = slice_set (ended (Class.Register r) ks) r RegisterType.Undefined

-- an object would be put into itself
abbrev pub is_inside : Ends → Option (Class × ℕ) → ℕ → Bool
is_inside ends.Moved (Some x) c = same_class (sharing x.0) (Class.Register c)
is_inside ends.Frozen (Some x) c = same_class (sharing x.0) (Class.Register c)
is_inside ends x c = false

-- what is known after the references have ended; x is what register b refers to
abbrev pub ended_with : (b c constant type_id : ℕ) → Option (Class × ℕ) → Ends → RegisterTypes
    → RegisterTypes
ended_with b c constant type_id x ends.Nothing ks = ks
ended_with b c constant type_id x ends.Others ks = others x b ks
ended_with b c constant type_id x ends.Name ks = ended (Class.Name constant) ks
ended_with b c constant type_id x ends.Unique ks = ended (Class.Unique type_id) ks
ended_with b c constant type_id x ends.Dropped ks = emptied b ks
ended_with b c constant type_id x ends.Moved ks = emptied c (others x b ks)
ended_with b c constant type_id x ends.Frozen ks = ended (Class.Register c) (others x b ks)

-- in the success part register c no longer owns its object
abbrev pub frozen_from : Ends → ℕ → RegisterTypes → RegisterTypes
frozen_from ends.Frozen c ks = slice_set ks c RegisterType.Undefined
frozen_from ends c ks = ks

-- ---- the rule by the columns

module _ (s : RuleInput) where
  abbrev pub held : RegisterType
  held = known s.before s.b

  abbrev pub meets : Need → ℕ → Bool
  meets need r = meets_by s.types s.number held need r (known s.before r)

  abbrev pub part_held : Option ℕ
  part_held = part_in s.types s.number held

  -- the register that changes and what it gets; h is what is known of register b
  abbrev pub given_by : RegisterType → Gives → Option (ℕ × RegisterType)
  given_by h gives.Nothing = None
  given_by h gives.Int = Some (s.a, RegisterType.Int)
  given_by h gives.Copy = Some (s.a, h)
  given_by h gives.Named = Some (s.a, RegisterType.Reference (Class.Name s.constant) s.type_id)
  given_by h gives.Unique = Some (s.a, RegisterType.Reference (Class.Unique s.type_id) s.type_id)
  given_by h gives.Owner = Some (s.a, RegisterType.Owner s.type_id)
  given_by h gives.Owned = Some (s.a, borrowed_from s.b h)
  given_by h gives.Content = Some (s.a, content_of (part_in s.types s.number h))
  given_by h gives.Part = Some (s.a, part_known s.types s.number h)
  given_by h gives.Forgotten = Some (s.b, RegisterType.Undefined)

  abbrev pub given : Option (ℕ × RegisterType)
  given = given_by held s.row.gives

  -- what is known after the references have ended; x is what register b refers to
  abbrev pub ended_by : Option (Class × ℕ) → Ends → RegisterTypes
  ended_by x ends = ended_with s.b s.c s.constant s.type_id x ends s.before

  abbrev pub ended_in : RegisterTypes
  ended_in = ended_by (referred held) s.row.ends

  -- the first reason to refuse, if a register gets this
  abbrev pub checked_by : Option (ℕ × RegisterType) → Checked (⊤)
  checked_by changes = do
    _ ← required (meets s.row.needs_b s.b) Reason.WrongOperand
    _ ← required (meets s.row.needs_c s.c) Reason.WrongOperand
    _ ← required (not (is_inside s.row.ends (referred held) s.c)) Reason.PutIntoItself
    required (not (is_lost changes s.before)) Reason.OwnerLost

  abbrev pub checked_first : Checked (⊤)
  checked_first = checked_by given

  -- in the success part, and in the else part
  abbrev pub known_in_parts : RegisterTypes × RegisterTypes
  known_in_parts = (
    changed given (frozen_from s.row.ends s.c ended_in),
    changed_by s.row.role given ended_in,
  )

  abbrev pub applied : Rule
  applied = checked_first >>= λ _. Ok known_in_parts
