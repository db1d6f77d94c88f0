-- Why a client is refused, fault by fault.
--     IsRefused table client fault     the fault, with its place and reason, is the client's
--     WalksTo client i here            the verifier's progress before instruction i
use Rattle.std.specs.Prelude.{◌≡◌, ◌+◌, ◌<◌, ◌^◌, ℕ, replicate, take, Ok, Err}
use Rattle.seg_raw.specs.declared.fault.Fault.{Fault}
use Rattle.seg_raw.specs.declared.fault.Fault.TheVariants as fault
use Rattle.client_spec.specs.Types.{Table, Agree, IsFirstDifference}
use Rattle.client_spec.specs.Syntax.{Client}
use Rattle.client_spec.specs.Grammar.{listing}
use Rattle.client_spec.specs.Run.{bound}
use Rattle.client_spec.specs.Safe.{IsAccepted}
use Rattle.client_spec.specs.Typed.{Checked, Reason, RegisterType, reason_number, types_after}
use Rattle.client_verify.specs.Passing.{Progress, initial_progress, passes_all}

-- the rules refuse the code, and this is the first reason
abbrev pub IsRejected : Client → Reason → Type 0
IsRejected client reason =
    types_after client.types client.constants client.code (replicate 16 RegisterType.Undefined)
    ≡ Err reason

-- the verifier's progress after the instructions before i
abbrev pub WalksTo : Client → ℕ → Checked Progress → Type 0
WalksTo client i here =
    passes_all client.types client.constants initial_progress (take i (listing client.code)) ≡ here

-- the rules refuse instruction i, and no earlier one
abbrev pub IsRejectedAt : Client → ℕ → Reason → Type 0
IsRejectedAt client i reason =
    (p : Progress) × WalksTo client i (Ok p) × WalksTo client (i + 1) (Err reason)

abbrev pub IsRefused : Table → Client → Fault → Type 0
IsRefused table client (fault.TypeMismatch k) = IsFirstDifference table client.types k
IsRefused table client (fault.Rejected instruction number) =
    Agree table client.types × (reason : Reason) × IsRejected client reason ×
    (number ≡ reason_number reason) × IsRejectedAt client instruction reason
IsRefused table client fault.TooLong =
    Agree table client.types × IsAccepted client × (10 ^ 9 < bound client.code)
IsRefused table client fault = ⊥
