-- What the command `run` does, from the files that the command line names to the file that it
-- writes. Files that don't keep what is read and written leave the clauses about them empty.
--     Read                           the bytes of an image, of clients and of their input
--     read_of inputs                 these bytes of `Inputs`
--     WasRead run before after it    they were read from the files that the command line names
--     room_of run len                the length of the region, for an image of `len` bytes
--     job_of_run run it              what the clients run on
--     HasRunFiles ..                 the files were read, and the clients ran on their bytes
--     HasSaved ..                    so they ran to their end, and the saved image was written
--     HasFailed ..                   why the command failed, and what it wrote
--     HasSavedOf run it ..           clients with these bytes ran to their end, and the saved image
--                                    was written
--     HasFailedOf run it ..          why such a run failed, and what it wrote
use Rattle.std.specs.Prelude.{◌≡◌, ◌⊎◌, false, ℕ, ◌+◌, ◌-◌, ◌^◌, min, List, [], ◌∷◌, ◌++◌, length, map, Option, Some, None, IfNone, unwrap_or}
use Rattle.std.proofs.Common.{Bor}
use Rattle.client_vm.specs.declared.report.Report.{Report}
use Rattle.client_vm.specs.declared.report.Ended.{Ended}
use Rattle.client_vm.specs.declared.report.Ended.TheVariants.{Done, OutputFailed}
use Rattle.client_vm.specs.Refused.{Refused}
use Rattle.client_vm.specs.Jobs.{Job, job_at, effect_at}
use Rattle.client_vm.specs.Outcomes.{HasOutcome, IsRefusedFor}
use Rattle.cli_host.specs.Accesses.{Access, AddsAccesses, access, accesses_of}
use Rattle.cli_host.specs.declared.run.Run.{Run}
use Rattle.cli_program.specs.declared.inputs.Inputs.{Inputs}
use Rattle.cli_program.specs.declared.failure.Failure.{Failure}
use Rattle.cli_program.specs.declared.failure.Failure.TheVariants as failure
use Rattle.cli_program.specs.Failures.{out_of_memory}

pub record Read : Type 0 where
  pub image : List ℕ
  pub texts : List (List ℕ)
  pub input : List ℕ

abbrev pub read_of : Inputs → Read
read_of inputs = record {
  image = inputs.image.items;
  texts = map (λ text. text.items) inputs.clients.items;
  input = inputs.input.items;
}

-- the access to the file of the input, if the command line names one
abbrev pub input_read : Option (Bor (List ℕ)) → List ℕ → List Access
input_read None bytes = []
input_read (Some name) bytes = access name.now bytes ∷ []

-- the image was read first, then each client, and then the input, which is empty if it has no file
pub record WasRead (run : Run) (before after : Option (List Access)) (it : Read) : Type 0 where
  pub clients : length it.texts ≡ length run.clients.items
  pub no_input : IfNone run.input (it.input ≡ [])
  pub accesses : AddsAccesses before after
      (access run.image.now it.image ∷
      (accesses_of (map (λ client. client.now) run.clients.items) it.texts ++
      input_read run.input it.input))

-- `--room`, or just enough for the image at its base; a sum above 32 bits counts as the highest u32
abbrev pub room_of : Run → ℕ → ℕ
room_of run len = unwrap_or run.room (min (run.base + len) (2 ^ 32 - 1))

abbrev pub job_of_run : Run → Read → Job
job_of_run run it =
    job_at it.image it.texts it.input (room_of run (length it.image)) run.base []

-- no client ran: the job is refused for this, or no memory was left
abbrev pub IsRefusal : Job → Refused → Type 0
IsRefusal job refused = (refused ≡ out_of_memory) ⊎ IsRefusedFor job refused

module _ (run : Run) (it : Read) (writes writes_then : Option (List Access)) where
  pub record HasSavedOf (taken taken_then : Option (List ℕ)) : Type 0 where
    pub saved : List ℕ
    pub reports : List Report
    pub outcome : HasOutcome (job_of_run run it) (effect_at taken taken_then saved reports Done)
    pub was_saved : AddsAccesses writes writes_then (access run.out.now saved ∷ [])

  -- the output failed; the saved image was written, unless the file is kept then or failed too
  pub record OutputFailsOf (taken taken_then : Option (List ℕ)) : Type 0 where
    pub saved : List ℕ
    pub reports : List Report
    pub outcome : HasOutcome (job_of_run run it)
        (effect_at taken taken_then saved reports OutputFailed)
    pub was_saved : (writes_then ≡ writes) ⊎ ((run.keeps_on_failure ≡ false)
        × AddsAccesses writes writes_then (access run.out.now saved ∷ []))

  abbrev pub HasFailedOf : Option (List ℕ) → Option (List ℕ) → Failure → Type 0
  HasFailedOf taken taken_then (failure.Words text) = ⊥
  HasFailedOf taken taken_then (failure.Program text) = ⊥
  HasFailedOf taken taken_then (failure.Absent name) = ⊥
  HasFailedOf taken taken_then (failure.Full name) = ⊥
  HasFailedOf taken taken_then (failure.Refused refused) =
      (writes_then ≡ writes) × IsRefusal (job_of_run run it) refused
  HasFailedOf taken taken_then (failure.File name problem) = writes_then ≡ writes
  HasFailedOf taken taken_then failure.Output = OutputFailsOf taken taken_then

module _ (run : Run) (reads reads_then : Option (List Access)) where
  -- The clients ran on the bytes that were read, at the base and in the room of the command line.
  -- The output and the saved image are those of the abstract machine.
  pub record HasRunFiles (taken taken_then : Option (List ℕ)) (saved : List ℕ) (ended : Ended) :
      Type 0 where
    pub it : Read
    pub was_read : WasRead run reads reads_then it
    pub reports : List Report
    pub outcome : HasOutcome (job_of_run run it) (effect_at taken taken_then saved reports ended)

  -- no client ran on the bytes that were read
  pub record IsRefusedRun (refused : Refused) : Type 0 where
    pub it : Read
    pub was_read : WasRead run reads reads_then it
    pub reason : IsRefusedFor (job_of_run run it) refused

  module _ (writes writes_then : Option (List Access)) where
    -- the saved image was written to the file that the command line names, and nothing else was
    abbrev pub WasSaved : List ℕ → Type 0
    WasSaved saved = AddsAccesses writes writes_then (access run.out.now saved ∷ [])

    pub record HasSaved (taken taken_then : Option (List ℕ)) : Type 0 where
      pub saved : List ℕ
      pub has_run : HasRunFiles taken taken_then saved Done
      pub was_saved : WasSaved saved

    -- the output failed; the saved image was written, unless the file is kept then or failed too
    pub record OutputFails (taken taken_then : Option (List ℕ)) : Type 0 where
      pub saved : List ℕ
      pub has_run : HasRunFiles taken taken_then saved OutputFailed
      pub was_saved : (writes_then ≡ writes)
          ⊎ ((run.keeps_on_failure ≡ false) × WasSaved saved)

    abbrev pub HasFailed : Option (List ℕ) → Option (List ℕ) → Failure → Type 0
    HasFailed taken taken_then (failure.Words text) = ⊥
    HasFailed taken taken_then (failure.Program text) = ⊥
    HasFailed taken taken_then (failure.Absent name) = ⊥
    HasFailed taken taken_then (failure.Full name) = ⊥
    HasFailed taken taken_then (failure.Refused refused) =
        (writes_then ≡ writes) × ((refused ≡ out_of_memory) ⊎ IsRefusedRun refused)
    HasFailed taken taken_then (failure.File name problem) = writes_then ≡ writes
    HasFailed taken taken_then failure.Output = OutputFails taken taken_then
