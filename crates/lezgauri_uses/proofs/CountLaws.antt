-- A client that runs several times on an open image: what its runs so far have left.
use Rattle.std.proofs.Common.{◌≡◌, ℕ, zero, suc, ◌+◌, ◌-◌, ◌<◌, ◌≤◌, ◌↔◌, ◌⊎◌, inl, inr, Bool, true, false, List, [], ◌∷◌, length, replicate, Option, refl, sym, ap, ◌∙◌, subst, arith}
use Rattle.std.specs.Prelude.{if◌then◌else◌, Result, Ok, Err, IfErr, IsErrAnd}
use Rattle.std.proofs.lemmas.List.{drop_all}
use Rattle.lezgauri.specs.Types.{Table, Agree, longer}
use Rattle.lezgauri.specs.Window.{Placement, region_of, with_bytes}
use Rattle.lezgauri.specs.SoundImages.{upgraded}
use Rattle.lezgauri.specs.Faults.{IsImageOf}
use Rattle.lezgauri.specs.Image.{Image}
use Rattle.lezgauri.specs.Images.{segment_of, allocator_of, types_of, bytes_in}
use Rattle.lezgauri.specs.Syntax.{Client}
use Rattle.lezgauri.specs.Grammar.{SpellsClient}
use Rattle.lezgauri.specs.Clients.{IsVerified, AreAccepted}
use Rattle.lezgauri.specs.Report.{Report}
use Rattle.lezgauri.specs.Ended.TheVariants as ended
use Rattle.lezgauri.specs.Runs.{ending_of, MayRun, HasRun, IsReadyToRun}
use Rattle.lezgauri.specs.Jobs.{effect_at}
use Rattle.lezgauri.specs.Together.{ending_if, HaveRun}
use Rattle.lezgauri.proofs.TogetherLaws.{Midway, begins, next_ran, stops, ends, has_outcome}
use Rattle.lezgauri.proofs.OpenedLaws.{image_sound, can_move}
use Rattle.lezgauri.proofs.WholeRegionLaws.{none_before, whole_stays}
use Rattle.lezgauri_uses.specs.Counts.{HasCounted, ended_if}

-- a call that fails with a known error
pub err_is : {A E : Type 0} (result : Result A E) (e : E) (P : E → Type 0) → P e → IsErrAnd result (λ x. x ≡ e) → IfErr result P
err_is (Ok a) e P h is = tt
err_is (Err x) e P h is = subst P (sym is) h

-- ---- a client is accepted again

agree_longer : (old new : Table) → Agree old new → Agree (longer old new) new
agree_longer old new agree = go _
  where
    go : (b : Bool) → Agree (if b then old else new) new
    go true = agree
    go false = refl

verified_again : (table : Table) (client : Client) → IsVerified table client → IsVerified (longer table client.types) client
verified_again table client v = record { agree = agree_longer table client.types v.agree; typed = v.typed; bounded = v.bounded }

pub accepted_each : (times : ℕ) (table : Table) (text : List ℕ) (client : Client) → SpellsClient text client → IsVerified table client → AreAccepted table (replicate times text) (replicate times client)
accepted_each zero table text client spells v = tt
accepted_each (suc times) table text client spells v = (spells, v, accepted_each times (longer table client.types) text client spells (verified_again table client v))

one_less : {X : Type 0} (x : X) (times counter : ℕ) → counter < times → replicate (times - counter) x ≡ x ∷ replicate (times - (counter + 1)) x
one_less x times counter lt = let more : times - counter ≡ suc (times - (counter + 1)) = omega arith in ap (λ n. replicate n x) more

ending_so : (failed : Bool) → ending_if failed ≡ ending_of (ended_if failed)
ending_so true = refl
ending_so false = refl

-- ---- the runs so far

-- the client has run `counter` of its `times` on an image, which was `old`, or until an output failed
pub record HasRunTimes {A : Type 0} (old now : Image A) (tree : Client) (text : List ℕ) (times counter : ℕ) (taken taken_now : Option (List ℕ)) (failed : Bool) : Type 0 where
  pub allocator_kept : allocator_of now ≡ allocator_of old
  pub reports : List Report
  pub midway : Midway (allocator_of old) (replicate times tree) [] [] (segment_of old).window taken (replicate (times - counter) text) [] (segment_of now).window (types_of now) taken_now reports failed

module _ {A : Type 0} (old : Image A) (tree : Client) (text : List ℕ) (times : ℕ) (taken : Option (List ℕ)) where
  pub none_ran : SpellsClient text tree → IsVerified (types_of old) tree → IsReadyToRun (allocator_of old) [] (segment_of old).window (types_of old) [] → HasRunTimes old old tree text times 0 taken taken false
  none_ran spells v ready = record {
    allocator_kept = refl;
    reports = [];
    midway = begins (allocator_of old) (replicate times tree) [] [] (segment_of old).window taken (replicate (times - 0) text) (types_of old)
        (subst (λ n. AreAccepted (types_of old) (replicate n text) (replicate times tree)) (omega arith) (accepted_each times (types_of old) text tree spells v)) ready;
  }

  -- before each run
  module _ (now : Image A) (counter : ℕ) (taken_now : Option (List ℕ)) (h : HasRunTimes old now tree text times counter taken taken_now false) (lt : counter < times) where
    here : Midway (allocator_of old) (replicate times tree) [] [] (segment_of old).window taken (text ∷ replicate (times - (counter + 1)) text) [] (segment_of now).window (types_of now) taken_now h.reports false
    here = subst (λ texts. Midway (allocator_of old) (replicate times tree) [] [] (segment_of old).window taken texts [] (segment_of now).window (types_of now) taken_now h.reports false) (one_less text times counter lt) h.midway

    pub agrees_now : (other : Client) × SpellsClient text other × Agree (types_of now) other.types
    agrees_now = by here.rest here.accepted
      where
        by : (rest : List Client) → AreAccepted (types_of now) (text ∷ replicate (times - (counter + 1)) text) rest → (other : Client) × SpellsClient text other × Agree (types_of now) other.types
        by [] a = absurd a
        by (client ∷ rest) a = (client, a.0, a.1.agree)

    pub one_more_ran : (new : Image A) (taken_then : Option (List ℕ)) (report : Report) (failed : Bool) → allocator_of new ≡ allocator_of now
        → ((client : Client) → SpellsClient text client → MayRun (allocator_of now) [] (segment_of now).window (types_of now) client [] →
        HasRun (allocator_of now) client [] [] [] (segment_of now).window (types_of now) taken_now (segment_of new).window (types_of new) taken_then report)
        → (report.ended ≡ ended.OutputFailed) ↔ (failed ≡ true) → HasRunTimes old new tree text times (counter + 1) taken taken_then failed
    one_more_ran new taken_then report failed kept ran how = record {
      allocator_kept = kept ∙ h.allocator_kept;
      reports = _;
      midway = next_ran (allocator_of old) (replicate times tree) [] [] (segment_of old).window taken text (replicate (times - (counter + 1)) text) [] [] (segment_of now).window (segment_of new).window (types_of now) (types_of new)
          taken_now taken_then h.reports report failed
          (subst (λ a. (client : Client) → SpellsClient text client → MayRun a [] (segment_of now).window (types_of now) client [] →
          HasRun a client [] [] [] (segment_of now).window (types_of now) taken_now (segment_of new).window (types_of new) taken_then report) h.allocator_kept ran)
          (sym (drop_all report.read [] (omega arith))) how here;
    }

  -- ---- the end

  module _ (now : Image A) (counter : ℕ) (taken_now : Option (List ℕ)) (failed : Bool) (h : HasRunTimes old now tree text times counter taken taken_now failed) where
    -- all runs are over: the output failed, or the client has run `times` times
    have_run : (failed ≡ true) ⊎ (times ≤ counter) → HaveRun (replicate times tree) [] [] (segment_of old).window taken (bytes_in now) taken_now h.reports (ending_if failed)
    have_run (inl is) =
        stops (allocator_of old) (replicate times tree) [] [] (segment_of old).window taken (replicate (times - counter) text) [] (segment_of now).window (types_of now) taken_now h.reports failed h.midway is
    have_run (inr all) =
        let none : times - counter ≡ 0 = omega arith in
        ends (allocator_of old) (replicate times tree) [] [] (segment_of old).window taken (replicate (times - counter) text) [] (segment_of now).window (types_of now) taken_now h.reports failed h.midway
        (ap (λ n. replicate n text) none)

    pub counted : (image : List ℕ) → bytes_in old ≡ upgraded image → region_of (segment_of old).window ≡ bytes_in old → IsImageOf image (types_of old) → SpellsClient text tree → IsVerified (types_of old) tree
        → (failed ≡ true) ⊎ (times ≤ counter) → HasCounted image text times taken taken_now failed (bytes_in now)
    counted image opened_is whole is spells v over =
        let window = (segment_of old).window in
        let sound = image_sound image (types_of old) is in
        let accepts = λ (texts : List (List ℕ)) (clients : List Client) (them : AreAccepted (types_of old) texts clients). subst (λ (t : Table). AreAccepted t texts clients) (sym is.table_is) them in
        record {
          accepted = record { can_move = can_move image sound; sound = sound; clients = tree ∷ []; accepted = accepts (text ∷ []) (tree ∷ []) (spells, v, tt) };
          reports = h.reports;
          outcome = has_outcome (replicate times text) [] [] (with_bytes window image) (effect_at taken taken_now (bytes_in now) h.reports (ended_if failed))
              (record {
                accepted = record { sound = sound; clients = replicate times tree; accepted = accepts (replicate times text) (replicate times tree) (accepted_each times (types_of old) text tree spells v) };
                runs = λ may. subst (λ (w : Placement). HaveRun (replicate times tree) [] [] w taken (bytes_in now) taken_now h.reports (ending_of (ended_if failed))) (ap (with_bytes window) opened_is)
                    (subst (HaveRun (replicate times tree) [] [] window taken (bytes_in now) taken_now h.reports) (ending_so failed) (have_run over));
              })
              image (length image) 0 refl (ap length (whole_stays window image whole)) (ap length (none_before window whole)) (can_move image sound);
        }
