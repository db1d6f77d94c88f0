-- A client that runs several times on one image.
--     HasCounted image text times ..      the saved image and the output after the runs
--     RefusesToCount image text error     why the client didn't run
use Rattle.std.specs.Prelude.{◌⊎◌, ℕ, List, [], ◌∷◌, length, replicate, Bool, Option, if◌then◌else◌}
use Rattle.lezgauri.specs.SoundImages.{IsSound}
use Rattle.lezgauri.specs.Error.{Error}
use Rattle.lezgauri.specs.Error.TheVariants as error
use Rattle.lezgauri.specs.Faults.{IsFaultOf}
use Rattle.lezgauri.specs.Texts.{IsWrongText}
use Rattle.lezgauri.specs.Report.{Report}
use Rattle.lezgauri.specs.Ended.{Ended}
use Rattle.lezgauri.specs.Ended.TheVariants as ended
use Rattle.lezgauri.specs.Outcome.{CanRun}
use Rattle.lezgauri.specs.Jobs.{job_at, effect_at}
use Rattle.lezgauri.specs.Outcomes.{HasOutcome}

abbrev pub ended_if : Bool → Ended
ended_if failed = if failed then ended.OutputFailed else ended.Done

-- The image is sound and accepts the client, which ran `times` times, one run after the other, or
-- until its output failed. They are runs of the abstract machine: each begins with the image that
-- the run before it left. The output took what they print, and the last image was saved.
pub record HasCounted (image text : List ℕ) (times : ℕ) (taken taken_then : Option (List ℕ))
    (failed : Bool) (saved : List ℕ) : Type 0 where
  pub accepted : CanRun image (text ∷ []) (length image) 0 []
  pub reports : List Report
  pub outcome : HasOutcome (job_at image (replicate times text) [] (length image) 0 [])
      (effect_at taken taken_then saved reports (ended_if failed))

-- The image has the fault, or it is sound, and its types refuse the client. Or host memory was
-- refused, which states nothing about the image.
abbrev pub RefusesToCount : List ℕ → List ℕ → Error → Type 0
RefusesToCount image text (error.Fault f) =
    IsFaultOf image f ⊎ ((sound : IsSound image) × IsWrongText sound.picture.table text f)
RefusesToCount image text (error.Code code) = ⊥
