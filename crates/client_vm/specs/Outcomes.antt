-- What a caller gets who runs clients on an image, from bytes to bytes: the contracts of the public
-- calls.
--     AreReports reports lefts    the reports are those of the runs
--     AreLeftByRuns ..            the saved image, the reports, the ending and the output are those
--                                 of runs of the abstract machine
--     HasOutcome ..               the clients were accepted, and that is their result
--     IsRefusedFor .. refused     why no client ran, fault by fault
use Rattle.std.specs.Prelude.{◌≡◌, ◌⊎◌, ⊤, ℕ, ◌-◌, ◌^◌, min, List, [], ◌∷◌, Option, Some, None}
use Rattle.seg_spec.specs.Images.{IsSound, upgraded}
use Rattle.seg_raw.specs.declared.fault.Fault.{Fault}
use Rattle.seg_raw.specs.declared.fault.Fault.TheVariants as fault
use Rattle.seg_check.specs.Faults.{IsFaultOf}
use Rattle.client_spec.specs.Syntax.{Client}
use Rattle.client_spec.specs.Grammar.{SpellsClient}
use Rattle.client_spec.specs.OnImages.{Move, Left}
use Rattle.client_spec.specs.Clients.{outputs, image_after, ending_after, table_after, StayWithin}
use Rattle.client_spec.specs.Outcome.{CanRun, IsOutcome, Refusal, IsTurnOf, IsRefusalOf}
use Rattle.client_verify.specs.Refusals.{IsRefused}
use Rattle.client_vm.specs.declared.report.Report.{Report}
use Rattle.client_verify.specs.declared.refused.Refused.{Refused}
use Rattle.client_sim.specs.Writes.{Took}
use Rattle.client_vm.specs.Runs.{ending_of}
use Rattle.client_vm.specs.Jobs.{Job, Effect}

-- ---- the clients ran

pub record IsReport (report : Report) (left : Left) : Type 0 where
  pub steps : report.steps ≡ left.steps
  pub read : report.read ≡ left.read
  pub ending : ending_of report.ended ≡ left.ending

-- one report for each run, in order
abbrev pub AreReports : List Report → List Left → Type 0
AreReports [] [] = ⊤
AreReports [] (left ∷ lefts) = ⊥
AreReports (report ∷ reports) [] = ⊥
AreReports (report ∷ reports) (left ∷ lefts) = IsReport report left × AreReports reports lefts

-- The clients ran, each within its bound, and this is what they left. It is a sound image again.
pub record AreLeftByRuns (job : Job) (effect : Effect) : Type 0 where
  pub lefts : List Left
  pub outcome : IsOutcome job.image job.texts job.input job.room job.base job.moves lefts
  pub within : StayWithin outcome.can_run.clients lefts
  pub reports_are : AreReports effect.reports lefts
  pub ended_is : ending_of effect.ended ≡ ending_after lefts
  pub took : Took effect.taken effect.taken_then (outputs lefts)
  pub saved_is : effect.saved ≡ image_after (upgraded job.image) lefts
  pub sound : IsSound effect.saved

-- The clients were accepted, one after the other, on a sound image, and the effect is that of their
-- runs on the abstract machine.
pub record HasOutcome (job : Job) (effect : Effect) : Type 0 where
  pub can_run : CanRun job.image job.texts job.room job.base job.moves
  pub left : AreLeftByRuns job effect

-- ---- no client ran

-- the image has this fault; it has a place, and the moves are allowed
pub record IsBadImage (image : List ℕ) (texts : List (List ℕ)) (room base : ℕ)
    (moves : List Move) (f : Fault) : Type 0 where
  pub refusal : IsRefusalOf image texts room base moves Refusal.bad_image
  pub fault : IsFaultOf image f

-- client k has this fault; the image is sound, and the clients before it were accepted
pub record IsBadClient (image : List ℕ) (texts : List (List ℕ)) (room base : ℕ)
    (moves : List Move) (k : ℕ) (f : Fault) : Type 0 where
  pub refusal : IsRefusalOf image texts room base moves (Refusal.bad_client k)
  pub text : List ℕ
  pub turn : IsTurnOf image texts k text
  pub client : Client
  pub spells : SpellsClient text client
  pub fault : IsRefused (table_after turn.sound.picture.table turn.clients) client f

module _ (image : List ℕ) (texts : List (List ℕ)) (room base : ℕ) (moves : List Move) where
  -- This is the index of the first move that isn't allowed. An index above 32 bits is reported as
  -- the highest u32.
  abbrev pub IsBadMove : ℕ → Type 0
  IsBadMove told = (i : ℕ) × (told ≡ min i (2 ^ 32 - 1)) ×
      IsRefusalOf image texts room base moves (Refusal.bad_move i)

  -- a fault of the image, its place or the moves
  abbrev pub IsFaultOfCall : Fault → Type 0
  IsFaultOfCall fault.Memory = IsRefusalOf image texts room base moves Refusal.no_memory
  IsFaultOfCall fault.Misplaced = IsRefusalOf image texts room base moves Refusal.misplaced
  IsFaultOfCall fault.BadHeader =
      IsRefusalOf image texts room base moves Refusal.bad_size ⊎
      IsBadImage image texts room base moves fault.BadHeader
  IsFaultOfCall (fault.BadMove i) = IsBadMove i
  IsFaultOfCall (fault.BadType k) = IsBadImage image texts room base moves (fault.BadType k)
  IsFaultOfCall (fault.BadBlock at) = IsBadImage image texts room base moves (fault.BadBlock at)
  IsFaultOfCall (fault.BadFree at) = IsBadImage image texts room base moves (fault.BadFree at)
  IsFaultOfCall (fault.BadIndex at) = IsBadImage image texts room base moves (fault.BadIndex at)
  IsFaultOfCall (fault.BadPointer at) = IsBadImage image texts room base moves (fault.BadPointer at)
  IsFaultOfCall (fault.DoubleOwner at) =
      IsBadImage image texts room base moves (fault.DoubleOwner at)
  IsFaultOfCall (fault.Unowned at) = IsBadImage image texts room base moves (fault.Unowned at)
  IsFaultOfCall (fault.BadValue at) = IsBadImage image texts room base moves (fault.BadValue at)
  IsFaultOfCall (fault.TypeMismatch k) = ⊥
  IsFaultOfCall fault.BadSize = ⊥
  IsFaultOfCall fault.NoHostRoom = ⊥
  IsFaultOfCall (fault.BadCode at) = ⊥
  IsFaultOfCall (fault.BadLine line) = ⊥
  IsFaultOfCall (fault.Rejected instruction reason) = ⊥
  IsFaultOfCall fault.TooLong = ⊥

  -- a fault of client k
  abbrev pub IsFaultOfClient : ℕ → Fault → Type 0
  IsFaultOfClient k (fault.BadCode at) =
      IsRefusalOf image texts room base moves (Refusal.bad_text k)
  IsFaultOfClient k (fault.TypeMismatch i) =
      IsBadClient image texts room base moves k (fault.TypeMismatch i)
  IsFaultOfClient k (fault.Rejected i reason) =
      IsBadClient image texts room base moves k (fault.Rejected i reason)
  IsFaultOfClient k fault.TooLong = IsBadClient image texts room base moves k fault.TooLong
  IsFaultOfClient k fault.Memory = ⊥
  IsFaultOfClient k fault.Misplaced = ⊥
  IsFaultOfClient k (fault.BadType i) = ⊥
  IsFaultOfClient k fault.BadSize = ⊥
  IsFaultOfClient k fault.NoHostRoom = ⊥
  IsFaultOfClient k fault.BadHeader = ⊥
  IsFaultOfClient k (fault.BadBlock at) = ⊥
  IsFaultOfClient k (fault.BadFree at) = ⊥
  IsFaultOfClient k (fault.BadIndex at) = ⊥
  IsFaultOfClient k (fault.BadPointer at) = ⊥
  IsFaultOfClient k (fault.DoubleOwner at) = ⊥
  IsFaultOfClient k (fault.Unowned at) = ⊥
  IsFaultOfClient k (fault.BadValue at) = ⊥
  IsFaultOfClient k (fault.BadLine line) = ⊥
  IsFaultOfClient k (fault.BadMove i) = ⊥

  abbrev pub IsFault : Option ℕ → Fault → Type 0
  IsFault None f = IsFaultOfCall f
  IsFault (Some k) f = IsFaultOfClient k f

-- why no client ran: the fault, and the client that has it, where one has
abbrev pub IsRefusedFor : Job → Refused → Type 0
IsRefusedFor job refused =
    IsFault job.image job.texts job.room job.base job.moves refused.client refused.fault
