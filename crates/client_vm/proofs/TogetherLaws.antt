-- Clients one after the other: the result of those that ran, from which the next one continues.
use Rattle.std.proofs.Common.{◌≡◌, ◌≢◌, ℕ, ◌↔◌, Bool, true, false, List, [], ◌∷◌, ◌++◌, length, drop, Option, Some, None, Result, Ok, Err, refl, sym, ap, ◌∙◌, subst, append_assoc, arith}
use Rattle.std.specs.Prelude.{if◌then◌else◌, IfOk}
use Rattle.seg_spec.specs.Bytes.{word}
use Rattle.seg_spec.specs.Header.{allocator_word}
use Rattle.seg_check.specs.Faults.{IsImageOf}
use Rattle.client_spec.specs.Outcome.{CanMove, CanRun}
use Rattle.std.proofs.lemmas.List.{append-nil, length-append}
use Rattle.seg_spec.specs.Types.{Table}
use Rattle.seg_spec.specs.Window.{Placement, region_of}
use Rattle.client_spec.specs.Syntax.{Client}
use Rattle.client_spec.specs.Grammar.{SpellsClient}
use Rattle.client_spec.specs.Run.{Ending, finished, stopped, stuck}
use Rattle.client_spec.specs.OnImages.{Move, Given, Left}
use Rattle.client_spec.specs.Clients.{AreMoves, AreAccepted, GoesOn, RunClients, StayWithin, outputs, image_after, ending_after}
use Rattle.client_sim.specs.Writes.{Took}
use Rattle.client_sim.proofs.Instructions.PrintLaws.{took_more}
use Rattle.client_vm.specs.declared.report.Report.{Report}
use Rattle.client_vm.specs.declared.report.Ended.{Ended}
use Rattle.client_vm.specs.declared.report.Ended.TheVariants as ended
use Rattle.client_vm.specs.Runs.{ending_of, given_of, left_of, IsReadyToRun, MayRun, HasRun}
use Rattle.client_vm.specs.Jobs.{Effect, job_at}
use Rattle.client_vm.specs.Outcomes.{AreReports, HasOutcome}
use Rattle.seg_spec.specs.Images.{upgraded}
use Rattle.seg_spec.proofs.Images.UpgradeLaws.{upgrade_changes, same_word, upgraded_version, upgraded_held, upgraded_counted}
use Rattle.client_vm.specs.Together.{opened, ending_if, HaveRun, HaveRunOn}

-- ---- the result with one more client

outputs_more : (lefts : List Left) (left : Left) → outputs (lefts ++ left ∷ []) ≡ outputs lefts ++ left.output
outputs_more [] left = append-nil left.output
outputs_more (l ∷ lefts) left = ap (λ out. l.output ++ out) (outputs_more lefts left) ∙ sym (append_assoc l.output (outputs lefts) left.output)

image_more : (image : List ℕ) (lefts : List Left) (left : Left) → image_after image (lefts ++ left ∷ []) ≡ left.image
image_more image [] left = refl
image_more image (l ∷ lefts) left = image_more l.image lefts left

ending_more : (lefts : List Left) (left : Left) → ending_after (lefts ++ left ∷ []) ≡ left.ending
ending_more [] left = refl
ending_more (l ∷ []) left = refl
ending_more (l ∷ next ∷ lefts) left = ending_more (next ∷ lefts) left

reports_more : (reports : List Report) (lefts : List Left) (report : Report) (left : Left) → AreReports reports lefts → report.steps ≡ left.steps → report.read ≡ left.read → ending_of report.ended ≡ left.ending
    → AreReports (reports ++ report ∷ []) (lefts ++ left ∷ [])
reports_more [] [] report left h steps read ending = (record { steps = steps; read = read; ending = ending }, tt)
reports_more [] (l ∷ lefts) report left h steps read ending = absurd h
reports_more (r ∷ reports) [] report left h steps read ending = absurd h
reports_more (r ∷ reports) (l ∷ lefts) report left h steps read ending = (h.0, reports_more reports lefts report left h.1 steps read ending)

-- ---- midway

-- the runs that remain, if no output has failed
abbrev GoOn : Bool → List Client → Given → List Left → Type 0
GoOn true rest given more = more ≡ []
GoOn false rest given more = RunClients rest given more

module _ (allocator : ℕ) (clients : List Client) (moves : List Move) (input : List ℕ) (old : Placement) (taken : Option (List ℕ)) where
  -- some clients have run on the segment, which is now this one, and these clients remain with
  -- their input
  pub record Midway (texts : List (List ℕ)) (left : List ℕ) (now : Placement) (table : Table) (taken_now : Option (List ℕ)) (reports : List Report) (failed : Bool) : Type 0 where
    pub lefts : List Left
    pub rest : List Client
    pub accepted : AreAccepted table texts rest
    pub ready : IsReadyToRun allocator [] now table moves
    pub runs : (more : List Left) → GoOn failed rest (given_of [] moves left now) more → RunClients clients (given_of [] moves input old) (lefts ++ more)
    pub within : (more : List Left) → StayWithin rest more → StayWithin clients (lefts ++ more)
    pub reports_are : AreReports reports lefts
    pub ending_is : ending_if failed ≡ ending_after lefts
    pub took : Took taken taken_now (outputs lefts)
    pub saved_is : now.bytes ≡ image_after old.bytes lefts

  took_nothing : (before : Option (List ℕ)) → Took before before []
  took_nothing None = tt
  took_nothing (Some front) = ap Some (sym (append-nil front))

  pub begins : (texts : List (List ℕ)) (table : Table) → AreAccepted table texts clients → IsReadyToRun allocator [] old table moves → Midway texts input old table taken [] false
  begins texts table accepted ready = record {
    lefts = [];
    rest = clients;
    accepted = accepted;
    ready = ready;
    runs = λ more h. h;
    within = λ more h. h;
    reports_are = tt;
    ending_is = refl;
    took = took_nothing taken;
    saved_is = refl;
  }

  -- the invariant after one more client ran
  module _ (text : List ℕ) (texts : List (List ℕ)) (left left_then : List ℕ) (now new : Placement) (table table_then : Table) (taken_now taken_then : Option (List ℕ)) (reports : List Report) (report : Report) (failed : Bool)
      (ran : (tree : Client) → SpellsClient text tree → MayRun allocator [] now table tree moves → HasRun allocator tree [] moves left now table taken_now new table_then taken_then report)
      (left_is : left_then ≡ drop report.read left) (how : (report.ended ≡ ended.OutputFailed) ↔ (failed ≡ true)) where
    ending_so : ending_if failed ≡ ending_of report.ended
    ending_so = go failed report.ended how
      where
        go : (b : Bool) (e : Ended) → (e ≡ ended.OutputFailed) ↔ (b ≡ true) → (if b then stopped else finished) ≡ ending_of e
        go true ended.OutputFailed h = refl
        go true ended.Done h = (let z = h.1 refl in cc)
        go false ended.OutputFailed h = (let z = h.0 refl in cc)
        go false ended.Done h = refl

    not_stuck : (e : Ended) → ending_of e ≢ stuck
    not_stuck ended.Done e = cc
    not_stuck ended.OutputFailed e = cc

    module _ (m : Midway (text ∷ texts) left now table taken_now reports false) (client : Client) (clients_then : List Client)
        (accepted : AreAccepted table (text ∷ texts) (client ∷ clients_then)) (rest_is : m.rest ≡ client ∷ clients_then) where
      has : HasRun allocator client [] moves left now table taken_now new table_then taken_then report
      has = ran client accepted.0 (record { ready = m.ready; agree = accepted.1.agree })

      abbrev its : Left
      its = left_of report has.output new

      goes_on : (more : List Left) → GoOn failed clients_then (given_of [] moves left_then new) more → RunClients (client ∷ clients_then) (given_of [] moves left now) (its ∷ more)
      goes_on more h = (has.runs, go failed (ending_of report.ended) ending_so h)
        where
          go : (b : Bool) (e : Ending) → (if b then stopped else finished) ≡ e → GoOn b clients_then (given_of [] moves left_then new) more
              → GoesOn e (RunClients clients_then (given_of [] moves (drop report.read left) new) more) more
          go true e is h = subst (λ x. GoesOn x (RunClients clients_then (given_of [] moves (drop report.read left) new) more) more) is h
          go false e is h = subst (λ x. GoesOn x (RunClients clients_then (given_of [] moves (drop report.read left) new) more) more) is (subst (λ xs. RunClients clients_then (given_of [] moves xs new) more) left_is h)

      next_of : Midway texts left_then new table_then taken_then (reports ++ report ∷ []) failed
      next_of = record {
        lefts = m.lefts ++ its ∷ [];
        rest = clients_then;
        accepted = subst (λ t. AreAccepted t texts clients_then) (sym has.types_are) accepted.2;
        ready = has.ready;
        runs = λ more h. subst (RunClients clients (given_of [] moves input old)) (sym (append_assoc m.lefts (its ∷ []) more))
            (m.runs (its ∷ more) (subst (λ cs. RunClients cs (given_of [] moves left now) (its ∷ more)) (sym rest_is) (goes_on more h)));
        within = λ more h. subst (StayWithin clients) (sym (append_assoc m.lefts (its ∷ []) more))
            (m.within (its ∷ more) (subst (λ cs. StayWithin cs (its ∷ more)) (sym rest_is) (has.within, not_stuck report.ended, h)));
        reports_are = reports_more reports m.lefts report its m.reports_are refl refl refl;
        ending_is = ending_so ∙ sym (ending_more m.lefts its);
        took = subst (Took taken taken_then) (sym (outputs_more m.lefts its)) (took_more taken taken_now taken_then (outputs m.lefts) has.output m.took has.took);
        saved_is = sym (image_more old.bytes m.lefts its);
      }

    pub next_ran : Midway (text ∷ texts) left now table taken_now reports false → Midway texts left_then new table_then taken_then (reports ++ report ∷ []) failed
    next_ran m = by m.rest m.accepted refl
      where
        by : (rest : List Client) → AreAccepted table (text ∷ texts) rest → m.rest ≡ rest → Midway texts left_then new table_then taken_then (reports ++ report ∷ []) failed
        by [] accepted is = absurd accepted
        by (client ∷ clients_then) accepted is = next_of m client clients_then accepted is

  -- ---- the end

  module _ (texts : List (List ℕ)) (left : List ℕ) (now : Placement) (table : Table) (taken_now : Option (List ℕ)) (reports : List Report) (failed : Bool) (m : Midway texts left now table taken_now reports failed) where
    over : GoOn failed m.rest (given_of [] moves left now) [] → HaveRun clients moves input old taken now.bytes taken_now reports (ending_if failed)
    over h = record {
      lefts = m.lefts;
      runs = subst (RunClients clients (given_of [] moves input old)) (append-nil m.lefts) (m.runs [] h);
      within = subst (StayWithin clients) (append-nil m.lefts) (m.within [] tt);
      reports_are = m.reports_are;
      ending_is = m.ending_is;
      took = m.took;
      saved_is = m.saved_is;
      sound = record { picture = m.ready.picture; held = m.ready.held; counted = m.ready.counted; none_loose = m.ready.loose_are };
    }

    pub stops : failed ≡ true → HaveRun clients moves input old taken now.bytes taken_now reports (ending_if failed)
    stops is = over (subst (λ b. GoOn b m.rest (given_of [] moves left now) []) (sym is) refl)

    pub ends : texts ≡ [] → HaveRun clients moves input old taken now.bytes taken_now reports (ending_if failed)
    ends none = over (go failed m.rest (subst (λ ts. AreAccepted table ts m.rest) none m.accepted))
      where
        go : (b : Bool) (rest : List Client) → AreAccepted table [] rest → GoOn b rest (given_of [] moves left now) []
        go true rest a = refl
        go false [] a = tt
        go false (c ∷ cs) a = absurd a

-- ---- from a segment to bytes

pub if_ok : {A E : Type 0} (P Q : A → Type 0) (result : Result A E) → ((x : A) → P x → Q x) → IfOk result P → IfOk result Q
if_ok P Q (Ok x) f h = f x h
if_ok P Q (Err e) f h = tt

pub ending_failed : (failed : Bool) (how : Ended) → (failed ≡ true → how ≡ ended.OutputFailed) → (failed ≡ false → how ≡ ended.Done) → ending_if failed ≡ ending_of how
ending_failed true how t f = ap ending_of (sym (t refl))
ending_failed false how t f = ap ending_of (sym (f refl))

opened_region : (window : Placement) → length (region_of (opened window)) ≡ length (region_of window)
opened_region window =
    let kept = (upgrade_changes window.bytes).length_kept in
    let old = length-append (window.before ++ window.bytes) window.after in
    let new = length-append (window.before ++ upgraded window.bytes) window.after in
    omega (arith, kept, old, new, length-append window.before window.bytes, length-append window.before (upgraded window.bytes))

-- an image as it is opened is ready
opened_ready : (window : Placement) (table : Table) (moves : List Move) (allocator : ℕ) → IsImageOf window.bytes table → word window.bytes allocator_word ≡ allocator
    → AreMoves (length (region_of window)) (length window.bytes) 0 moves → IsReadyToRun allocator [] (opened window) table moves
opened_ready window table moves allocator is named may = record {
  picture = is.picture;
  held = upgraded_held window.bytes is.picture is.held;
  counted = upgraded_counted window.bytes is.picture is.counted;
  loose_are = is.none_loose;
  table_is = is.table_is;
  allocator_is = same_word window.bytes allocator_word (omega arith) ∙ named;
  version_is = upgraded_version window.bytes (let small = is.held.laid_out.header.not_small in omega arith);
  moves_may = subst (λ n. AreMoves n (length (upgraded window.bytes)) 0 moves) (sym (opened_region window))
      (subst (λ n. AreMoves (length (region_of window)) n 0 moves) (sym (upgrade_changes window.bytes).length_kept) may);
}

-- the clients ran on the image's bytes, from how they ran on the opened segment
pub ran_on : (texts : List (List ℕ)) (moves : List Move) (input : List ℕ) (window : Placement) (effect : Effect) (table : Table) (allocator : ℕ)
    → IsImageOf window.bytes table → word window.bytes allocator_word ≡ allocator → (clients : List Client) → AreAccepted table texts clients
    → ((clients : List Client) → AreAccepted table texts clients → IsReadyToRun allocator [] (opened window) table moves
    → HaveRun clients moves input (opened window) effect.taken effect.saved effect.taken_then effect.reports (ending_of effect.ended))
    → HaveRunOn texts moves input window effect
ran_on texts moves input window effect table allocator is named clients accepted runs = record {
  accepted = record {
    sound = record { picture = is.picture; held = is.held; counted = is.counted; none_loose = is.none_loose };
    clients = clients;
    accepted = subst (λ t. AreAccepted t texts clients) (sym is.table_is) accepted;
  };
  runs = λ may. runs clients accepted (opened_ready window table moves allocator is named may);
}

module _ (texts : List (List ℕ)) (moves : List Move) (input : List ℕ) (window : Placement) (effect : Effect) (h : HaveRunOn texts moves input window effect) where
  outcome_here : CanMove window.bytes (length (region_of window)) (length window.before) moves
      → HasOutcome (job_at window.bytes texts input (length (region_of window)) (length window.before) moves) effect
  outcome_here can =
      let can_run : CanRun window.bytes texts (length (region_of window)) (length window.before) moves =
      record { can_move = can; sound = h.accepted.sound; clients = h.accepted.clients; accepted = h.accepted.accepted } in
      record {
        can_run = can_run;
        left =
            let r = h.runs can.fit in
            record {
              lefts = r.lefts;
              outcome = record { can_run = can_run; host = region_of (opened window); host_is = opened_region window; runs = r.runs };
              within = r.within;
              reports_are = r.reports_are;
              ended_is = r.ending_is;
              took = r.took;
              saved_is = r.saved_is;
              sound = r.sound;
            };
      }

  pub has_outcome : (image : List ℕ) (room base : ℕ) → window.bytes ≡ image → length (region_of window) ≡ room → length window.before ≡ base → CanMove image room base moves
      → HasOutcome (job_at image texts input room base moves) effect
  has_outcome image room base bytes region before can =
      subst (λ (i : List ℕ). HasOutcome (job_at i texts input room base moves) effect) bytes
      (subst (λ n. HasOutcome (job_at window.bytes texts input n base moves) effect) region
      (subst (λ n. HasOutcome (job_at window.bytes texts input (length (region_of window)) n moves) effect) before
      (outcome_here (subst (λ n. CanMove window.bytes (length (region_of window)) n moves) (sym before) (subst (λ n. CanMove window.bytes n base moves) (sym region) (subst (λ (i : List ℕ). CanMove i room base moves) (sym bytes) can))))))
