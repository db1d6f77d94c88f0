-- Why no client runs: from the faults of an image and of clients to the reasons of the definitions.
use Rattle.std.proofs.Common.{◌≡◌, ℕ, zero, suc, ◌+◌, ◌-◌, ◌≤◌, List, ◌++◌, length, Option, Some, None, Result, Ok, Err, refl, sym, ap, ◌∙◌, subst, inr, arith}
use Rattle.std.specs.Result.{IsErrAnd, MatchResult}
use Rattle.std.specs.Prelude.{replicate, IfErr}
use Rattle.std.proofs.Math.Seq.{take-length}
use Rattle.std.proofs.lemmas.List.{length-replicate}
use Rattle.std.proofs.lemmas.Result.{MatchResult-at_ok}
use Rattle.seg_spec.specs.Bytes.{slice, IsPlaced}
use Rattle.seg_spec.specs.Window.{Placement, region_of}
use Rattle.seg_spec.proofs.SliceLaws.{region-placed}
use Rattle.seg_spec.specs.Types.{Table}
use Rattle.seg_spec.specs.Images.{IsSound}
use Rattle.seg_spec.specs.Faulty.{Failure}
use Rattle.seg_layout.proofs.TableDifferenceLaws.{no_agreement}
use Rattle.seg_raw.specs.declared.fault.Fault.{Fault}
use Rattle.seg_raw.specs.declared.fault.Fault.TheVariants as fault
use Rattle.seg_check.specs.Faults.{IsImageOf, IsFaultOf}
use Rattle.client_spec.specs.Syntax.{Client}
use Rattle.client_spec.specs.Clients.{IsVerified}
use Rattle.client_spec.specs.OnImages.{Move}
use Rattle.client_spec.specs.Outcome.{CanMove, IsTurnOf}
use Rattle.client_verify.specs.Refusals.{IsRefused}
use Rattle.client_verify.specs.declared.refused.Refused.{Refused}
use Rattle.client_verify.specs.Texts.{IsWrongAt, IsWrongBy, AreWrong}
use Rattle.client_vm.specs.Admitted.{IsWrongFor, IsWrong}
use Rattle.client_vm.specs.Jobs.{Job}
use Rattle.client_vm.specs.Outcomes.{IsBadImage, IsFault, IsFaultOfCall, IsFaultOfClient, IsRefusedFor}
use Rattle.seg_spec.proofs.Images.UnsoundImageLaws.{unsound}

refused_client : (table : Table) (client : Client) (f : Fault) → IsRefused table client f → IsVerified table client → ⊥
refused_client table client (fault.TypeMismatch k) h v = no_agreement table client.types k h v.agree
refused_client table client (fault.Rejected i reason) h v = let is = v.typed.1 in let isnt = h.2 in cc
refused_client table client fault.TooLong h v = let few = v.bounded in let many = h.2 in omega arith
refused_client table client f h v = absurd h

-- ---- clients of a sound image

abbrev sound_of : (image : List ℕ) (table : Table) → IsImageOf image table → IsSound image
sound_of image table is = record { picture = is.picture; held = is.held; counted = is.counted; none_loose = is.none_loose }

module _ (image : List ℕ) (texts : List (List ℕ)) (table : Table) (is : IsImageOf image table) where
  wrong_texts : (client : Option ℕ) (f : Fault) → IsWrongBy table texts client f → IsWrongFor image texts client f
  wrong_texts None f h = subst (IsFaultOf image) (sym h) tt
  wrong_texts (Some k) f h = (sound_of image table is, subst (λ t. IsWrongAt t texts k f) (sym is.table_is) h)

  pub if_wrong : {A : Type 0} (result : Result A Refused) → IfErr result (AreWrong table texts) → IfErr result (IsWrong image texts)
  if_wrong (Ok a) h = tt
  if_wrong (Err refused) h = wrong_texts refused.client refused.fault h

-- ---- the reasons of the definitions

module _ (image : List ℕ) (texts : List (List ℕ)) (room base : ℕ) (moves : List Move) (can : CanMove image room base moves) where
  bad_image : (f : Fault) → (IsSound image → ⊥) → IsFaultOf image f → IsBadImage image texts room base moves f
  bad_image f isnt h = record { refusal = (can, isnt); fault = h }

  of_call : (f : Fault) → IsFaultOf image f → IsFaultOfCall image texts room base moves f
  of_call fault.Memory h = tt
  of_call fault.BadHeader h = inr (bad_image fault.BadHeader (unsound image Failure.bad_header h) h)
  of_call (fault.BadType k) h = bad_image (fault.BadType k) (unsound image (Failure.bad_type k) h) h
  of_call (fault.BadBlock at) h = bad_image (fault.BadBlock at) (unsound image Failure.bad_tiles h) h
  of_call (fault.BadFree at) h = bad_image (fault.BadFree at) (unsound image Failure.bad_gaps h) h
  of_call (fault.BadIndex at) h = bad_image (fault.BadIndex at) (unsound image Failure.bad_content h) h
  of_call (fault.BadPointer at) h = bad_image (fault.BadPointer at) (unsound image Failure.bad_content h) h
  of_call (fault.DoubleOwner at) h = bad_image (fault.DoubleOwner at) (unsound image Failure.bad_content h) h
  of_call (fault.BadValue at) h = bad_image (fault.BadValue at) (unsound image Failure.bad_content h) h
  of_call (fault.Unowned at) h = bad_image (fault.Unowned at) h.1 h
  of_call f h = absurd h

  abbrev turn : (k : ℕ) (f : Fault) (sound : IsSound image) (w : IsWrongAt sound.picture.table texts k f) → IsTurnOf image texts k w.text
  turn k f sound w = record { sound = sound; clients = w.clients; accepted = w.accepted; text_is = w.text_is }

  of_client : (k : ℕ) (f : Fault) (sound : IsSound image) → IsWrongAt sound.picture.table texts k f → IsFaultOfClient image texts room base moves k f
  of_client k (fault.BadCode at) sound w = (can, w.text, turn k (fault.BadCode at) sound w, w.wrong)
  of_client k (fault.TypeMismatch i) sound w = record {
    refusal = (can, w.text, turn k (fault.TypeMismatch i) sound w, w.wrong.0, w.wrong.1, refused_client _ w.wrong.0 (fault.TypeMismatch i) w.wrong.2);
    text = w.text;
    turn = turn k (fault.TypeMismatch i) sound w;
    client = w.wrong.0;
    spells = w.wrong.1;
    fault = w.wrong.2;
  }
  of_client k (fault.Rejected i reason) sound w = record {
    refusal = (can, w.text, turn k (fault.Rejected i reason) sound w, w.wrong.0, w.wrong.1, refused_client _ w.wrong.0 (fault.Rejected i reason) w.wrong.2);
    text = w.text;
    turn = turn k (fault.Rejected i reason) sound w;
    client = w.wrong.0;
    spells = w.wrong.1;
    fault = w.wrong.2;
  }
  of_client k fault.TooLong sound w = record {
    refusal = (can, w.text, turn k fault.TooLong sound w, w.wrong.0, w.wrong.1, refused_client _ w.wrong.0 fault.TooLong w.wrong.2);
    text = w.text;
    turn = turn k fault.TooLong sound w;
    client = w.wrong.0;
    spells = w.wrong.1;
    fault = w.wrong.2;
  }
  of_client k f sound w = absurd w.wrong.2

  pub why : (client : Option ℕ) (f : Fault) → IsWrongFor image texts client f → IsFault image texts room base moves client f
  why None f h = of_call f h
  why (Some k) f h = of_client k f h.0 h.1

-- ---- the image's place

slice_whole : (image : List ℕ) → slice image 0 (length image) ≡ image
unfolding slice
slice_whole image = take-length image

-- a window of the image's length shows the image at its place
pub shows : (w : Placement) (host : List ℕ) (base len : ℕ) (image : List ℕ) → region_of w ≡ host → length w.before ≡ base → length w.bytes ≡ len → len ≡ length image → IsPlaced host base image → w.bytes ≡ image
shows w host base len image is at size same placed =
    sym (region-placed w.before w.bytes w.after) ∙ ap (λ r. slice r (length w.before) (length w.bytes)) is ∙ ap (λ b. slice host b (length w.bytes)) at ∙ ap (slice host base) (size ∙ same) ∙ placed

-- a window that was made is at its place in the region
pub placed_there : {E : Type 0} (Q : E → Type 0) (result : Result Placement E) (w : Placement) (host : List ℕ) (base len : ℕ) → result ≡ Ok w
    → MatchResult result (λ v. (region_of v ≡ host) × (length v.before ≡ base) × (length v.bytes ≡ len)) Q → (region_of w ≡ host) × (length w.before ≡ base) × (length w.bytes ≡ len)
placed_there Q result w host base len is h = MatchResult-at_ok _ Q w is h

pub among_zeros : (image : List ℕ) (base room : ℕ) (host : List ℕ) → host ≡ (replicate base 0 ++ image) ++ replicate (room - (base + length image)) 0 → IsPlaced host base image
among_zeros image base room host is =
    let zeros = replicate (room - (base + length image)) 0 in
    let around = (replicate base 0 ++ image) ++ zeros in
    subst (λ (h : List ℕ). IsPlaced h base image) (sym is) (ap (λ b. slice around b (length image)) (sym (length-replicate base 0)) ∙ region-placed (replicate base 0) image zeros)

-- an image that is the whole region is placed at 0
pub whole_region : (image host : List ℕ) → host ≡ image → IsPlaced host 0 image
whole_region image host is = subst (λ (h : List ℕ). IsPlaced h 0 image) (sym is) (slice_whole image)

-- ---- what calls return

-- an allocator that isn't the second is the first
pub other_allocator : (n : ℕ) → n ≤ 1 → (n ≡ 1 → ⊥) → n ≡ 0
other_allocator zero small isnt = refl
other_allocator (suc zero) small isnt = absurd (isnt refl)
other_allocator (suc (suc n)) small isnt = absurd (omega (arith, small))

-- a claim about an error is true of the result that passes it on
pub err_is : {A E : Type 0} (result : Result A E) (e : E) (P : E → Type 0) → P e → IsErrAnd result (λ x. x ≡ e) → IfErr result P
err_is (Ok a) e P p is = absurd is
err_is (Err x) e P p is = subst P (sym is) p

module _ {A : Type 0} (job : Job) (can : CanMove job.image job.room job.base job.moves) where
  pub refused_for : (result : Result A Refused) → IfErr result (λ refused. IsWrong job.image job.texts refused) → IfErr result (λ refused. IsRefusedFor job refused)
  refused_for (Ok a) h = tt
  refused_for (Err refused) h = why job.image job.texts job.room job.base job.moves can refused.client refused.fault h
