-- The definitions' values for values of the verifier.
--     class_of, register_type_of, reason_of
--                                       a class, what is known of a register, a reason
--     class_shown, known_shown          the same of a class and a register that aren't packed
--     joined_to                         what is known at both ends, or that an owner is lost
--     registers_of                      what is known of each register
--     checked                           a result, or the reason
use Rattle.std.specs.Prelude.{map, Bool, if◌then◌else◌, Result, Ok, Err}
use Rattle.client_spec.specs.Typed as typed
use Rattle.client_verify.specs.declared.reason.Reason.{Reason}
use Rattle.client_verify.specs.declared.reason.Reason.TheVariants as reason
use Rattle.client_verify.specs.declared.packed.PackedClass.{PackedClass}
use Rattle.client_verify.specs.declared.packed.PackedRegister.{PackedRegister}
use Rattle.client_verify.specs.declared.register.Class.{Class}
use Rattle.client_verify.specs.declared.register.Class.TheVariants as class
use Rattle.client_verify.specs.declared.register.RegisterType.{RegisterType}
use Rattle.client_verify.specs.declared.register.RegisterType.TheVariants as register
use Rattle.client_verify.specs.declared.registers.Registers.{Registers}
use Rattle.client_verify.specs.Packing.{class_in, known_in}

abbrev pub class_of : PackedClass → typed.Class
class_of class = class_in class.bits

abbrev pub register_type_of : PackedRegister → typed.RegisterType
register_type_of register = known_in register.bits

abbrev pub class_shown : Class → typed.Class
class_shown (class.Name k) = typed.Class.Name k
class_shown (class.Unique t) = typed.Class.Unique t
class_shown (class.Register r) = typed.Class.Register r

abbrev pub known_shown : RegisterType → typed.RegisterType
known_shown register.Undefined = typed.RegisterType.Undefined
known_shown register.Int = typed.RegisterType.Int
known_shown (register.Reference x t) = typed.RegisterType.Reference (class_shown x) t
known_shown (register.ReadOnly x t) =
    typed.RegisterType.Reference (typed.Class.Frozen (class_shown x)) t
known_shown (register.Owner t) = typed.RegisterType.Owner t

abbrev pub reason_of : Reason → typed.Reason
reason_of reason.WrongOperand = typed.Reason.WrongOperand
reason_of reason.OwnerLost = typed.Reason.OwnerLost
reason_of reason.PutIntoItself = typed.Reason.PutIntoItself
reason_of reason.ChangedInLoop = typed.Reason.ChangedInLoop

abbrev pub registers_of : Registers → typed.RegisterTypes
registers_of registers = map register_type_of registers.types

abbrev pub checked : {X Y : Type 0} → (X → Y) → Result X Reason → typed.Checked Y
checked f (Ok x) = Ok (f x)
checked f (Err reason) = Err (reason_of reason)

abbrev pub joined_to : PackedRegister × Bool → typed.Checked typed.RegisterType
joined_to x = if x.1 then Err typed.Reason.OwnerLost else Ok (register_type_of x.0)
