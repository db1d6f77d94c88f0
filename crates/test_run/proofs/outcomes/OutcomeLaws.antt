-- The refusal for each fault, and small outcomes and refusals.
use Rattle.std.proofs.Common.{◌≡◌, ℕ, zero, suc, ◌-◌, ◌^◌, ◌<◌, min, List, [], ◌∷◌, length, replicate, codes, Option, Some, None, refl, sym, ap, ◌∙◌, subst, inl, inr, lit<, lit≤, arith}
use Rattle.seg_spec.specs.Types.{Form, Table, form_at}
use Rattle.seg_spec.specs.Images.{IsSound, upgraded}
use Rattle.seg_spec.specs.Faulty.{IsImageLength}
use Rattle.seg_spec.proofs.Images.UpgradeLaws.{upgrade_changes, upgraded_sound}
use Rattle.seg_spec.specs.Fixtures.{counter, greeting, empty, lost_gap, counter_picture, greeting_picture}
use Rattle.seg_spec.specs.Bytes.{put, set_number}
use Rattle.test_definitions.proofs.OnePicture.{Held-one}
use Rattle.test_definitions.proofs.WorkedImages.Parts.{lost_gap-lacks}
use Rattle.test_definitions.proofs.WorkedImages.SoundImages.{counter_held, counter_sound, greeting_held, greeting_counted}
use Rattle.test_definitions.proofs.WorkedImages.UnsoundImages.{lost_gap-unsound}
use Rattle.seg_raw.specs.declared.fault.Fault.{Fault}
use Rattle.seg_raw.specs.declared.fault.Fault.TheVariants as fault
use Rattle.client_spec.specs.Syntax.{Client}
use Rattle.client_spec.specs.Grammar.{SpellsClient, client_bytes}
use Rattle.client_spec.specs.Run.{finished, stopped}
use Rattle.client_spec.specs.OnImages.{Move, Given, Left}
use Rattle.client_spec.specs.Clients.{IsVerified, AreAccepted, RunClients, table_after, outputs, image_after, ending_after}
use Rattle.client_spec.specs.Outcome.{CanLie, CanMove, CanRun, Refusal, IsTurnOf, IsRefusalOf}
use Rattle.client_spec.specs.Fixtures.{increment, move_to}
use Rattle.client_vm.specs.Refusals.{IsRefused}
use Rattle.client_spec.proofs.Spelling.OneClientLaws.{one_client}
use Rattle.test_definitions.proofs.WorkedRuns.IncrementLaws.{increment_spelled}
use Rattle.test_definitions.proofs.WorkedImages.Whole as whole
use Rattle.client_vm.specs.declared.report.Report.{Report}
use Rattle.client_vm.specs.Refused.{Refused}
use Rattle.client_vm.specs.declared.report.Ended.TheVariants as ended
use Rattle.client_vm.specs.Jobs.{Job, Effect, job_at, effect_at}
use Rattle.client_vm.specs.Outcomes.{AreReports, AreLeftByRuns, HasOutcome, IsFault, IsRefusedFor}

-- ---- a refusal for each fault

-- a reason why no client runs; it is out of memory only if that is the fault
pub record Stands (image : List ℕ) (texts : List (List ℕ)) (room base : ℕ) (moves : List Move) (f : Fault) : Type 0 where
  pub refusal : Refusal
  pub holds : IsRefusalOf image texts room base moves refusal
  pub memory : refusal ≡ Refusal.no_memory → f ≡ fault.Memory

module _ (image : List ℕ) (texts : List (List ℕ)) (room base : ℕ) (moves : List Move) where
  pub stands : (client : Option ℕ) (f : Fault) → IsFault image texts room base moves client f → Stands image texts room base moves f
  stands None fault.Memory h = record { refusal = Refusal.no_memory; holds = h; memory = λ e. refl }
  stands None fault.Misplaced h = record { refusal = Refusal.misplaced; holds = h; memory = λ e. cc }
  stands None fault.BadHeader (inl h) = record { refusal = Refusal.bad_size; holds = h; memory = λ e. cc }
  stands None fault.BadHeader (inr h) = record { refusal = Refusal.bad_image; holds = h.refusal; memory = λ e. cc }
  stands None (fault.BadMove told) h = record { refusal = Refusal.bad_move h.0; holds = h.2; memory = λ e. cc }
  stands None (fault.BadType k) h = record { refusal = Refusal.bad_image; holds = h.refusal; memory = λ e. cc }
  stands None (fault.BadBlock at) h = record { refusal = Refusal.bad_image; holds = h.refusal; memory = λ e. cc }
  stands None (fault.BadFree at) h = record { refusal = Refusal.bad_image; holds = h.refusal; memory = λ e. cc }
  stands None (fault.BadIndex at) h = record { refusal = Refusal.bad_image; holds = h.refusal; memory = λ e. cc }
  stands None (fault.BadPointer at) h = record { refusal = Refusal.bad_image; holds = h.refusal; memory = λ e. cc }
  stands None (fault.DoubleOwner at) h = record { refusal = Refusal.bad_image; holds = h.refusal; memory = λ e. cc }
  stands None (fault.Unowned at) h = record { refusal = Refusal.bad_image; holds = h.refusal; memory = λ e. cc }
  stands None (fault.BadValue at) h = record { refusal = Refusal.bad_image; holds = h.refusal; memory = λ e. cc }
  stands None (fault.TypeMismatch k) h = absurd h
  stands None fault.BadSize h = absurd h
  stands None fault.NoHostRoom h = absurd h
  stands None (fault.BadCode at) h = absurd h
  stands None (fault.BadLine line) h = absurd h
  stands None (fault.Rejected i reason) h = absurd h
  stands None fault.TooLong h = absurd h
  stands (Some k) (fault.BadCode at) h = record { refusal = Refusal.bad_text k; holds = h; memory = λ e. cc }
  stands (Some k) (fault.TypeMismatch i) h = record { refusal = Refusal.bad_client k; holds = h.refusal; memory = λ e. cc }
  stands (Some k) (fault.Rejected i reason) h = record { refusal = Refusal.bad_client k; holds = h.refusal; memory = λ e. cc }
  stands (Some k) fault.TooLong h = record { refusal = Refusal.bad_client k; holds = h.refusal; memory = λ e. cc }
  stands (Some k) fault.Memory h = absurd h
  stands (Some k) fault.Misplaced h = absurd h
  stands (Some k) (fault.BadType i) h = absurd h
  stands (Some k) fault.BadSize h = absurd h
  stands (Some k) fault.NoHostRoom h = absurd h
  stands (Some k) fault.BadHeader h = absurd h
  stands (Some k) (fault.BadBlock at) h = absurd h
  stands (Some k) (fault.BadFree at) h = absurd h
  stands (Some k) (fault.BadIndex at) h = absurd h
  stands (Some k) (fault.BadPointer at) h = absurd h
  stands (Some k) (fault.DoubleOwner at) h = absurd h
  stands (Some k) (fault.Unowned at) h = absurd h
  stands (Some k) (fault.BadValue at) h = absurd h
  stands (Some k) (fault.BadLine line) h = absurd h
  stands (Some k) (fault.BadMove i) h = absurd h

  -- only the refusal for memory is possible if the clients can run
  memory_alone : (refusal : Refusal) → IsRefusalOf image texts room base moves refusal → CanRun image texts room base moves → refusal ≡ Refusal.no_memory
  memory_alone Refusal.no_memory r o = refl
  memory_alone Refusal.bad_size r o = absurd (whole.not_both image texts room base moves Refusal.bad_size (λ e. cc) r o)
  memory_alone Refusal.misplaced r o = absurd (whole.not_both image texts room base moves Refusal.misplaced (λ e. cc) r o)
  memory_alone (Refusal.bad_move k) r o = absurd (whole.not_both image texts room base moves (Refusal.bad_move k) (λ e. cc) r o)
  memory_alone Refusal.bad_image r o = absurd (whole.not_both image texts room base moves Refusal.bad_image (λ e. cc) r o)
  memory_alone (Refusal.bad_text k) r o = absurd (whole.not_both image texts room base moves (Refusal.bad_text k) (λ e. cc) r o)
  memory_alone (Refusal.bad_client k) r o = absurd (whole.not_both image texts room base moves (Refusal.bad_client k) (λ e. cc) r o)

pub reason : (job : Job) (refused : Refused) → IsRefusedFor job refused → (refusal : Refusal) × IsRefusalOf job.image job.texts job.room job.base job.moves refusal
reason job refused h = let s = stands job.image job.texts job.room job.base job.moves refused.client refused.fault h in (s.refusal, s.holds)

pub not_both : (job : Job) (effect : Effect) (refused : Refused) → HasOutcome job effect → IsRefusedFor job refused → refused.fault ≡ fault.Memory
not_both job effect refused o h =
    let s = stands job.image job.texts job.room job.base job.moves refused.client refused.fault h in
    s.memory (memory_alone job.image job.texts job.room job.base job.moves s.refusal s.holds o.can_run)

-- ---- without clients

sized : IsImageLength (length counter)
unfolding counter
sized = record { not_small = lit≤ tt; not_large = lit≤ tt; whole_units = refl }

lies_at_0 : CanLie counter 2048 0
unfolding counter
lies_at_0 = record { size = sized; room_fits = lit≤ tt; placed = (refl, lit≤ tt, lit≤ tt) }

lies_at_16 : CanLie counter 2048 16
unfolding counter
lies_at_16 = record { size = sized; room_fits = lit≤ tt; placed = (refl, lit≤ tt, lit≤ tt) }

moves : CanMove counter 2048 0 []
moves = record { lies = lies_at_0; fit = tt }

pub no_client-whole : HasOutcome (job_at counter [] [] 2048 0 []) (effect_at (Some (codes "=")) (Some (codes "=")) (upgraded counter) [] ended.Done)
no_client-whole =
    let can_run : CanRun counter [] 2048 0 [] = record { can_move = moves; sound = counter_sound; clients = []; accepted = tt } in
    record {
      can_run = can_run;
      left = record {
        lefts = [];
        outcome = record { can_run = can_run; host = replicate 2048 0; host_is = refl; runs = tt };
        within = tt;
        reports_are = tt;
        ended_is = refl;
        took = refl;
        saved_is = refl;
        sound = upgraded_sound counter counter_sound;
      };
    }

no_lefts : (table : Table) (clients : List Client) (given : Given) (lefts : List Left) → AreAccepted table [] clients → RunClients clients given lefts → lefts ≡ []
no_lefts table [] given [] a r = refl
no_lefts table [] given (left ∷ lefts) a r = absurd r
no_lefts table (client ∷ clients) given lefts a r = absurd a

module _ {input : List ℕ} {base : ℕ} {effect : Effect} (o : HasOutcome (job_at counter [] input 2048 base []) effect) where
  pub left : AreLeftByRuns (job_at counter [] input 2048 base []) effect
  left = o.left

  nothing_left : left.lefts ≡ []
  nothing_left =
      let can = left.outcome.can_run in
      no_lefts can.sound.picture.table can.clients _ left.lefts can.accepted left.outcome.runs

  pub saved_same : effect.saved ≡ upgraded counter
  saved_same = left.saved_is ∙ ap (image_after (upgraded counter)) nothing_left

  pub no_reports : AreReports effect.reports []
  no_reports = subst (AreReports effect.reports) nothing_left left.reports_are

  pub came_to_end : ending_after left.lefts ≡ finished
  came_to_end = ap ending_after nothing_left

  pub wrote_nothing : outputs left.lefts ≡ []
  wrote_nothing = ap outputs nothing_left

pub no_client-wrote : HasOutcome (job_at counter [] [] 2048 0 []) (effect_at (Some (codes "=")) (Some (codes "=4")) (upgraded counter) [] ended.Done) → ⊥
no_client-wrote o = let e = subst (λ (bytes : List ℕ). Some (codes "=4") ≡ Some (61 ∷ bytes)) (wrote_nothing o) (left o).took in cc

pub no_client-another : HasOutcome (job_at counter [] [] 2048 0 []) (effect_at None None empty [] ended.Done) → ⊥
unfolding counter empty
no_client-another o = absurd (omega (arith, ap length (saved_same o), (upgrade_changes counter).length_kept))

pub no_client-stopped : HasOutcome (job_at counter [] [] 2048 0 []) (effect_at None None (upgraded counter) [] ended.OutputFailed) → ⊥
no_client-stopped o = let e : stopped ≡ finished = (left o).ended_is ∙ came_to_end o in cc

pub no_client-report : (report : Report) → HasOutcome (job_at counter [] [] 2048 0 []) (effect_at None None (upgraded counter) (report ∷ []) ended.Done) → ⊥
no_client-report report o = no_reports o

pub no_client-no_place : HasOutcome (job_at counter [] [] 2048 8 []) (effect_at None None (upgraded counter) [] ended.Done) → ⊥
no_client-no_place o = absurd (omega (arith, o.can_run.can_move.lies.placed.0))

-- ---- refused

pub bad_size : IsImageLength 3 → ⊥
bad_size h = absurd (omega (arith, h.not_small))

pub no_place : IsImageLength (length counter) × (CanLie counter 2048 8 → ⊥)
no_place = (sized, λ l. absurd (omega (arith, l.placed.0)))

pub a_place : IsImageLength (length counter) × (CanLie counter 2048 16 → ⊥) → ⊥
a_place r = r.1 lies_at_16

pub bad_move : IsFault counter [] 2048 0 (move_to 0 16 ∷ []) None (fault.BadMove 0)
bad_move = (0, refl, (lies_at_0, record { there = lit< tt; fit = tt; bad = λ a. absurd (omega (arith, a.0)) }))

pub another_move : IsFault counter [] 2048 0 (move_to 0 16 ∷ []) None (fault.BadMove 1) → ⊥
another_move r = go r.0 r.1 r.2.1.there
  where
    go : (i : ℕ) → 1 ≡ min i (2 ^ 32 - 1) → i < 1 → ⊥
    go zero e less = let f : 1 ≡ zero = e in absurd (omega (arith, f))
    go (suc i) e less = absurd (omega (arith, less))

lost_gap-moves : CanMove lost_gap 2048 0 []
unfolding lost_gap empty put set_number
lost_gap-moves = record { lies = record { size = record { not_small = lit≤ tt; not_large = lit≤ tt; whole_units = refl }; room_fits = lit≤ tt; placed = (refl, lit≤ tt, lit≤ tt) }; fit = tt }

pub lost_gap-refused : IsFault lost_gap [] 2048 0 [] None (fault.BadFree 24)
lost_gap-refused = record { refusal = (lost_gap-moves, lost_gap-unsound); fault = lost_gap-lacks }

no_text : (client : Client) → SpellsClient [] client → ⊥
unfolding client_bytes
no_text client s = let e = s.spelled in cc

pub no_client : IsFault counter ([] ∷ []) 2048 0 [] (Some 0) (fault.BadCode 0)
no_client = (moves, [], record { sound = counter_sound; clients = []; accepted = tt; text_is = refl }, no_text)

pub past_the_clients : IsFault counter ([] ∷ []) 2048 0 [] (Some 1) (fault.BadCode 0) → ⊥
past_the_clients r = let e = r.2.text_is in cc

greeting-moves : CanMove greeting 2048 0 []
unfolding greeting
greeting-moves = record { lies = record { size = record { not_small = lit≤ tt; not_large = lit≤ tt; whole_units = refl }; room_fits = lit≤ tt; placed = (refl, lit≤ tt, lit≤ tt) }; fit = tt }

texts_differ : IsVerified (Form.str ∷ []) increment → ⊥
texts_differ v = let e = v.agree in cc

pub other_types : IsFault greeting (client_bytes increment ∷ []) 2048 0 [] (Some 0) (fault.TypeMismatch 0)
other_types =
    let sound : IsSound greeting = record { picture = greeting_picture; held = greeting_held; counted = greeting_counted; none_loose = refl } in
    let turn : IsTurnOf greeting (client_bytes increment ∷ []) 0 (client_bytes increment) = record { sound = sound; clients = []; accepted = tt; text_is = refl } in
    record {
      refusal = (greeting-moves, client_bytes increment, turn, increment, increment_spelled, texts_differ);
      text = client_bytes increment;
      turn = turn;
      client = increment;
      spells = increment_spelled;
      fault = record { in_old = lit< tt; in_new = lit< tt; same_before = refl; differs = λ e. cc };
    }

pub its_types : IsFault counter (client_bytes increment ∷ []) 2048 0 [] (Some 0) (fault.TypeMismatch 0) → ⊥
its_types r = go r.turn.clients r.turn.accepted r.text r.turn.text_is r.client r.spells r.fault
  where
    table : r.turn.sound.picture.table ≡ Form.i64 ∷ []
    table = (Held-one counter r.turn.sound.picture counter_picture r.turn.sound.held counter_held).table

    go : (clients : List Client) → AreAccepted r.turn.sound.picture.table [] clients → (text : List ℕ) → Some (client_bytes increment) ≡ Some text → (client : Client) → SpellsClient text client
        → IsRefused (table_after r.turn.sound.picture.table clients) client (fault.TypeMismatch 0) → ⊥
    go [] a text e client s f =
        let same : text ≡ client_bytes increment = cc in
        let it : client ≡ increment = one_client client increment s.valid increment_spelled.valid (sym s.spelled ∙ same) in
        f.differs (ap (λ t. form_at t 0) table ∙ sym (ap (λ (c : Client). form_at c.types 0) it))
    go (c ∷ clients) a text e client s f = absurd a
