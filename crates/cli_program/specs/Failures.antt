-- The failures of commands.
--     out_of_memory                no memory was left
--     failure_of failure           a failed file, as the failure of a command
--     IsUnsaved ..                 why an image wasn't saved, or that the output had failed
use Rattle.std.specs.Prelude.{◌≡◌, ◌⊎◌, Bool, false, List, [], ◌∷◌, Option, None}
use Rattle.client_vm.specs.Fault.TheVariants.{Memory}
use Rattle.client_vm.specs.Refused.{Refused}
use Rattle.client_vm.specs.declared.report.Ended.{Ended}
use Rattle.client_vm.specs.declared.report.Ended.TheVariants.{OutputFailed}
use Rattle.cli_host.specs.Accesses.{Access, AddsAccesses}
use Rattle.cli_host.specs.declared.named.FileFailure.{FileFailure}
use Rattle.cli_host.specs.declared.named.FileFailure.TheVariants as file_failure
use Rattle.cli_program.specs.declared.failure.Failure.{Failure}
use Rattle.cli_program.specs.declared.failure.Failure.TheVariants as failure

abbrev pub out_of_memory : Refused
out_of_memory = record { client = None; fault = Memory }

abbrev pub failure_of : FileFailure → Failure
failure_of file_failure.Memory = failure.Refused out_of_memory
failure_of (file_failure.File name problem) = failure.File name problem

-- nothing was written, unless it is the output that failed, and the file isn't kept then
abbrev pub IsUnsaved : Option (List Access) → Option (List Access) → Access → Ended → Bool →
    Failure → Type 0
IsUnsaved before after saved ended keeps (failure.Words text) = ⊥
IsUnsaved before after saved ended keeps (failure.Program text) = ⊥
IsUnsaved before after saved ended keeps (failure.Absent name) = ⊥
IsUnsaved before after saved ended keeps (failure.Full name) = ⊥
IsUnsaved before after saved ended keeps (failure.Refused refused) =
    (after ≡ before) × (refused ≡ out_of_memory)
IsUnsaved before after saved ended keeps (failure.File name problem) = after ≡ before
IsUnsaved before after saved ended keeps failure.Output = (ended ≡ OutputFailed) ×
    ((after ≡ before) ⊎ ((keeps ≡ false) × AddsAccesses before after (saved ∷ [])))
