-- Several clients on a segment, one after the other.
--     HaveRun ..       their result, on a segment that clients may run on
--     ending_if failed         how the last client ended
--     opened window    the image in a window after it was opened
--     HaveRunOn ..     the same on a sound image in a window, if the moves are allowed
use Rattle.std.specs.Prelude.{◌≡◌, ℕ, List, [], length, Bool, Option, if◌then◌else◌}
use Rattle.seg_spec.specs.Window.{Placement, region_of, with_bytes}
use Rattle.seg_spec.specs.Images.{IsSound, upgraded}
use Rattle.client_spec.specs.Syntax.{Client}
use Rattle.client_spec.specs.Run.{Ending, finished, stopped}
use Rattle.client_spec.specs.OnImages.{Move, Left}
use Rattle.client_spec.specs.Clients.{AreMoves, AreAccepted, RunClients, StayWithin, outputs, image_after, ending_after}
use Rattle.client_sim.specs.Writes.{Took}
use Rattle.client_vm.specs.declared.report.Report.{Report}
use Rattle.client_vm.specs.ReadyClients.{texts_in}
use Rattle.client_vm.specs.Runs.{ending_of, given_of}
use Rattle.client_vm.specs.declared.bytes.Admitted.{Admitted}
use Rattle.client_vm.specs.Jobs.{Effect}
use Rattle.client_vm.specs.Admitted.{AreAcceptedOn}
use Rattle.client_vm.specs.Outcomes.{AreReports}

abbrev pub ending_if : Bool → Ending
ending_if failed = if failed then stopped else finished

-- The clients ran until an output failed. The last one's image was saved, and is sound.
pub record HaveRun (clients : List Client) (moves : List Move) (input : List ℕ)
    (old : Placement) (taken : Option (List ℕ)) (saved : List ℕ) (taken_then : Option (List ℕ))
    (reports : List Report) (ending : Ending) : Type 0 where
  pub lefts : List Left
  pub runs : RunClients clients (given_of [] moves input old) lefts
  pub within : StayWithin clients lefts
  pub reports_are : AreReports reports lefts
  pub ending_is : ending ≡ ending_after lefts
  pub took : Took taken taken_then (outputs lefts)
  pub saved_is : saved ≡ image_after old.bytes lefts
  pub sound : IsSound saved

-- the image in a window after it was opened
abbrev pub opened : Placement → Placement
opened window = with_bytes window (upgraded window.bytes)

-- the texts' clients were accepted on the sound image of a window, and ran on it after it was
-- opened
pub record HaveRunOn (texts : List (List ℕ)) (moves : List Move) (input : List ℕ)
    (window : Placement) (effect : Effect) : Type 0 where
  pub accepted : AreAcceptedOn window.bytes texts
  pub runs : AreMoves (length (region_of window)) (length window.bytes) 0 moves →
      HaveRun accepted.clients moves input (opened window) effect.taken effect.saved
      effect.taken_then effect.reports (ending_of effect.ended)

-- the clients have run like this if the image's types accept them
abbrev pub AdmittedRan : {A : _} → Admitted A → List Move → List ℕ → Placement → Effect → Type 0
AdmittedRan admitted moves input window effect = (clients : List Client) →
    AreAccepted admitted.types (texts_in admitted.programs.items) clients →
    HaveRunOn (texts_in admitted.programs.items) moves input window effect
