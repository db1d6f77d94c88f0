-- What a run read, and how it failed.
use Rattle.std.proofs.Common.{◌≡◌, ◌⊎◌, inl, inr, subst, ℕ, List, [], ◌∷◌, ◌++◌, length, map, Option, Result}
use Rattle.std.specs.Prelude.{IfNone, OnOk, Ok, Err}
use Rattle.client_vm.specs.Refused.{Refused}
use Rattle.client_vm.specs.declared.report.Report.{Report}
use Rattle.client_vm.specs.declared.report.Ended.{Ended}
use Rattle.client_vm.specs.declared.report.Ended.TheVariants.{Done, OutputFailed}
use Rattle.client_vm.specs.Jobs.{Effect, effect_at, job_at}
use Rattle.client_vm.specs.Outcomes.{HasOutcome}
use Rattle.cli_host.specs.Accesses.{Access, AddsAccesses, access, accesses_of}
use Rattle.cli_host.proofs.AccessesLaws.{adds_both}
use Rattle.cli_host.specs.declared.run.Run.{Run}
use Rattle.cli_program.specs.declared.failure.Failure.{Failure}
use Rattle.cli_program.specs.declared.failure.Failure.TheVariants as failure
use Rattle.cli_program.specs.Failures.{IsUnsaved, out_of_memory}
use Rattle.cli_program.specs.Runs.{Read, WasRead, input_read, job_of_run, IsRefusal, IsRefusedRun, HasSaved, HasFailed, HasSavedOf, HasFailedOf, room_of}

pub all_read : (run : Run) (it : Read) (before first second after : Option (List Access)) → AddsAccesses before first (access run.image.now it.image ∷ []) → length it.texts ≡ length run.clients.items
    → AddsAccesses first second (accesses_of (map (λ client. client.now) run.clients.items) it.texts) → IfNone run.input (it.input ≡ []) → AddsAccesses second after (input_read run.input it.input) → WasRead run before after it
all_read run it before first second after image same texts none input =
    let named = accesses_of (map (λ client. client.now) run.clients.items) it.texts in
    let rest = input_read run.input it.input in
    record {
      clients = same;
      no_input = none;
      accesses = adds_both before first after (access run.image.now it.image ∷ []) (named ++ rest) image (adds_both first second after named rest texts input);
    }

-- an outcome on equal texts and input, in an equal room and at an equal base
pub outcome_as : (run : Run) (it : Read) (texts : List (List ℕ)) (input : List ℕ) (room base : ℕ) (effect : Effect) → HasOutcome (job_at it.image texts input room base []) effect
    → texts ≡ it.texts → input ≡ it.input → room ≡ room_of run (length it.image) → base ≡ run.base → HasOutcome (job_of_run run it) effect
outcome_as run it texts input room base effect outcome same_texts same_input same_room same_base =
    subst (λ job. HasOutcome job effect) (λ i. job_at it.image (same_texts i) (same_input i) (same_room i) (same_base i) []) outcome

module _ (run : Run) (it : Read) (writes writes_then : Option (List Access)) (taken taken_then : Option (List ℕ)) where
  pub failed_save : (saved : List ℕ) (reports : List Report) (ended : Ended) (failed : Failure) → HasOutcome (job_of_run run it) (effect_at taken taken_then saved reports ended)
      → IsUnsaved writes writes_then (access run.out.now saved) ended run.keeps_on_failure failed → HasFailedOf run it writes writes_then taken taken_then failed
  failed_save saved reports ended (failure.Words text) outcome h = absurd h
  failed_save saved reports ended (failure.Program text) outcome h = absurd h
  failed_save saved reports ended (failure.Absent name) outcome h = absurd h
  failed_save saved reports ended (failure.Full name) outcome h = absurd h
  failed_save saved reports ended (failure.Refused refused) outcome h = (h.0, inl h.1)
  failed_save saved reports ended (failure.File name problem) outcome h = h
  failed_save saved reports ended failure.Output outcome h = record {
    saved = saved;
    reports = reports;
    outcome = subst (λ e. HasOutcome (job_of_run run it) (effect_at taken taken_then saved reports e)) h.0 outcome;
    was_saved = h.1;
  }

  pub saved_by : {T E : Type 0} (result : Result T E) (saved : List ℕ) (reports : List Report) (ended : Ended)
      → HasOutcome (job_of_run run it) (effect_at taken taken_then saved reports ended) → OnOk result (ended ≡ Done)
      → OnOk result (AddsAccesses writes writes_then (access run.out.now saved ∷ []))
      → OnOk result (HasSavedOf run it writes writes_then taken taken_then)
  saved_by (Ok value) saved reports ended outcome done written = record {
    saved = saved;
    reports = reports;
    outcome = subst (λ e. HasOutcome (job_of_run run it) (effect_at taken taken_then saved reports e)) done outcome;
    was_saved = written;
  }
  saved_by (Err failed) saved reports ended outcome done written = tt

module _ (run : Run) (it : Read) (reads reads_then writes writes_then : Option (List Access)) (taken taken_then : Option (List ℕ)) (read : WasRead run reads reads_then it) where
  pub saved_of : {T E : Type 0} (result : Result T E) → OnOk result (HasSavedOf run it writes writes_then taken taken_then)
      → OnOk result (HasSaved run reads reads_then writes writes_then taken taken_then)
  saved_of (Ok value) saves = record {
    saved = saves.saved;
    has_run = record { it = it; was_read = read; reports = saves.reports; outcome = saves.outcome };
    was_saved = saves.was_saved;
  }
  saved_of (Err failed) saves = tt

  refused_of : (refused : Refused) → IsRefusal (job_of_run run it) refused → (refused ≡ out_of_memory) ⊎ IsRefusedRun run reads reads_then refused
  refused_of refused (inl h) = inl h
  refused_of refused (inr h) = inr (record { it = it; was_read = read; reason = h })

  pub failed_of : (failed : Failure) → HasFailedOf run it writes writes_then taken taken_then failed
      → HasFailed run reads reads_then writes writes_then taken taken_then failed
  failed_of (failure.Words text) h = absurd h
  failed_of (failure.Program text) h = absurd h
  failed_of (failure.Absent name) h = absurd h
  failed_of (failure.Full name) h = absurd h
  failed_of (failure.Refused refused) h = (h.0, refused_of refused h.1)
  failed_of (failure.File name problem) h = h
  failed_of failure.Output h = record {
    saved = h.saved;
    has_run = record { it = it; was_read = read; reports = h.reports; outcome = h.outcome };
    was_saved = h.was_saved;
  }
