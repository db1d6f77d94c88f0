-- A client's run on an open segment, as a run on the image that C lends.
use Rattle.std.proofs.Common.{◌≡◌, ◌↔◌, ◌∷◌, [], ℕ, List, Bool, true, Option, Some, Result, Err, length, refl, sym, ap, ◌∙◌, subst, arith}
use Rattle.seg_spec.specs.Bytes.{word}
use Rattle.seg_spec.specs.Header.{allocator_word, next_word}
use Rattle.seg_spec.specs.Types.{Table}
use Rattle.seg_spec.specs.Images.{IsSound}
use Rattle.seg_spec.specs.Sound.{IsHeld}
use Rattle.seg_spec.specs.Counting.{AreCounted}
use Rattle.seg_spec.specs.Window.{region_of}
use Rattle.seg_spec.proofs.Images.UpgradeLaws.{same_word, upgraded_version, upgraded_held, upgraded_counted}
use Rattle.seg_value.specs.Stored.{Stored}
use Rattle.std_alloc.specs.declared.vec.lodged.Lodged.{Lodged}
use Rattle.lezgauri.specs.Faults.{IsImageOf}
use Rattle.lezgauri.specs.Image.{Image}
use Rattle.lezgauri.specs.Images.{segment_of, allocator_of, bytes_in, types_of}
use Rattle.client_spec.specs.Syntax.{Client}
use Rattle.client_spec.specs.Grammar.{SpellsClient}
use Rattle.client_spec.specs.Clients.{IsVerified}
use Rattle.lezgauri.specs.Report.{Report}
use Rattle.lezgauri.specs.Ended.{Ended}
use Rattle.lezgauri.specs.Ended.TheVariants as ended
use Rattle.lezgauri.specs.Refused.{Refused}
use Rattle.lezgauri.specs.Texts.{AreWrong}
use Rattle.client_vm.specs.Admitted.{IsWrong}
use Rattle.client_vm.specs.Jobs.{Effect}
use Rattle.client_vm.specs.Outcomes.{HasOutcome, IsRefusedFor}
use Rattle.client_vm.specs.Runs.{IsReadyToRun, MayRun, HasRun}
use Rattle.client_vm.specs.Together.{opened}
use Rattle.client_vm.proofs.RefusalLaws.{if_wrong, why}
use Rattle.client_vm.proofs.TogetherLaws.{has_outcome}
use Rattle.lezgauri.proofs.OpenedLaws.{can_move}
use Rattle.lezgauri_c.specs.declared.lent.Lent.{Lent}
use Rattle.lezgauri_c.specs.declared.kept_image.KeptImage.{KeptImage}
use Rattle.lezgauri_c.specs.declared.kept_types.KeptTypes.{KeptTypes}
use Rattle.lezgauri_c.specs.Calls.{whole_job, effect_of_one, IsRun}
use Rattle.lezgauri_c.specs.Changes.{IsOpenedOn}
use Rattle.lezgauri_c.specs.KeptImages.{table_kept}
use Rattle.lezgauri_c.specs.Runs.{IsSoundSegment, HasRunOnSegment}
use Rattle.lezgauri_c.specs.Values.{table_in, OnSound, KeepsTypes}
use Rattle.lezgauri_c.proofs.OneClient.{image_of, only_ran}
use Rattle.lezgauri_c.proofs.SameRunLaws.{same_run}

-- ---- on a segment

module _ {allocator : ℕ} (old : Stored) (sound : IsSoundSegment allocator old) where
  image_there : IsImageOf old.window.bytes old.types
  image_there = record { picture = sound.picture; held = sound.held.held; counted = sound.held.counted; none_loose = sound.none_loose; table_is = sym sound.held.table_is }

  ready_there : IsReadyToRun allocator [] (opened old.window) old.types []
  ready_there = record {
    picture = sound.picture;
    held = upgraded_held old.window.bytes sound.picture sound.held.held;
    counted = upgraded_counted old.window.bytes sound.picture sound.held.counted;
    loose_are = sound.none_loose;
    table_is = sym sound.held.table_is;
    allocator_is = same_word old.window.bytes allocator_word (omega arith) ∙ sound.held.allocator_is;
    version_is = upgraded_version old.window.bytes (let small = sound.held.held.laid_out.header.not_small in omega arith);
    moves_may = tt;
  }

  -- one client ran on the segment after its image was upgraded
  pub has_run : (text input : List ℕ) (new : Stored) (taken taken_then : Option (List ℕ)) (report : Report) (failed : Bool) (tree : Client) → SpellsClient text tree → IsVerified old.types tree
      → ((tree : Client) → SpellsClient text tree → MayRun allocator [] (opened old.window) old.types tree []
      → HasRun allocator tree [] [] input (opened old.window) old.types taken new.window new.types taken_then report)
      → (report.ended ≡ ended.OutputFailed) ↔ (failed ≡ true) → HasRunOnSegment allocator text input old new (effect_of_one taken taken_then new.window.bytes report)
  has_run text input new taken taken_then report failed tree spells verified ran how =
      let it = ran tree spells (record { ready = ready_there; agree = verified.agree }) in
      record {
        ran = only_ran allocator input old.window new.window old.types new.types text taken taken_then report failed image_there sound.held.allocator_is tree spells verified ran how;
        sound = record {
          picture = it.ready.picture;
          held = record { held = it.ready.held; counted = it.ready.counted; table_is = sym it.ready.table_is; allocator_is = it.ready.allocator_is };
          none_loose = it.ready.loose_are;
        };
      }

-- a sound segment, of which C keeps the types, is a sound image
pub keeps_types : {allocator : ℕ} (segment : Stored) (bytes : List ℕ) (types : KeptTypes) → IsSoundSegment allocator segment → bytes ≡ segment.window.bytes → table_in types ≡ Some segment.types
    → KeepsTypes bytes types
keeps_types segment bytes types sound is kept = record {
  sound = record {
    picture = sound.picture;
    held = subst (λ (b : List ℕ). IsHeld b sound.picture) (sym is) sound.held.held;
    counted = subst (λ (b : List ℕ). AreCounted (word b next_word) sound.picture) (sym is) sound.held.counted;
    none_loose = sound.none_loose;
  };
  table_is = kept ∙ ap Some sound.held.table_is;
}

-- at most one table is kept
pub one_table : (types : KeptTypes) (table other : Table) → table_in types ≡ Some table → table_in types ≡ Some other → table ≡ other
one_table types table other is same = let both : Some table ≡ Some other = sym is ∙ same in cc

-- ---- on a sound image

module _ (image : List ℕ) (sound : IsSound image) where
  -- the types that C keeps are the image's
  pub with_kept : (bytes : List ℕ) (types : KeptTypes) (table : Table) → bytes ≡ image → table_in types ≡ Some table → table_in types ≡ Some sound.picture.table → IsImageOf bytes table
  with_kept bytes types table is kept same =
      subst (λ (b : List ℕ). IsImageOf b table) (sym is) (subst (λ (t : Table). IsImageOf image t) (one_table types sound.picture.table table same kept) (image_of image sound))

  module _ (text : List ℕ) where
    -- a run on the segment that is all of the image's memory
    pub outcome : {allocator : ℕ} (input : List ℕ) (old new : Stored) (effect : Effect) → old.window.bytes ≡ image → region_of old.window ≡ image → length old.window.before ≡ 0
        → HasRunOnSegment allocator text input old new effect → HasOutcome (whole_job image (text ∷ []) input) effect
    outcome input old new effect bytes region base run = has_outcome (text ∷ []) [] input old.window effect run.ran image (length image) 0 bytes (ap length region) base (can_move image sound)

    module _ (types : Table) (is : types ≡ sound.picture.table) (refused : Refused) (are : AreWrong types (text ∷ []) refused) where
      pub wrong : IsWrong image (text ∷ []) refused
      wrong =
          let result : Result (Unit {0}) Refused = Err refused in
          if_wrong image (text ∷ []) sound.picture.table (image_of image sound) result (subst (λ (t : Table). AreWrong t (text ∷ []) refused) is are)

      pub reported : IsRefusedFor (whole_job image (text ∷ []) []) refused
      reported = why image (text ∷ []) (length image) 0 [] (can_move image sound) refused.client refused.fault wrong

-- ---- on an image that C lends, whose types it keeps

module _ (lent : Lent) (types : KeptTypes) (kept : KeptImage) (on : IsOpenedOn lent types kept) (text : List ℕ) where
  pub refused_as : (refused : Refused) → AreWrong (table_kept kept) (text ∷ []) refused → OnSound lent.bytes types (λ _. IsRefusedFor (whole_job lent.bytes (text ∷ []) []) refused)
  refused_as refused are sound same = reported lent.bytes sound text (table_kept kept) (one_table types (table_kept kept) sound.picture.table on.types_are same) refused are

  module _ (left : Image Lodged) (input before written : List ℕ) (told : Report)
      (runs : IsSoundSegment (allocator_of kept.image) (segment_of kept.image)
      → HasRunOnSegment (allocator_of kept.image) text input (segment_of kept.image) (segment_of left) (effect_of_one (Some before) (Some written) (bytes_in left) told)) where
    ran : (sound : IsSound lent.bytes) → table_in types ≡ Some sound.picture.table
        → HasRunOnSegment (allocator_of kept.image) text input (segment_of kept.image) (segment_of left) (effect_of_one (Some before) (Some written) (bytes_in left) told)
    ran sound same = runs (record { picture = sound.picture; held = on.opened sound same; none_loose = sound.none_loose })

    pub run_of : (output output_then saved : List ℕ) (ended : Ended) → before ≡ output → output_then ≡ written → saved ≡ bytes_in left → told.ended ≡ ended
        → OnSound lent.bytes types (λ _. IsRun lent.bytes (text ∷ []) input output output_then saved (told ∷ []) ended)
    run_of output output_then saved ended started_is then_is saved_is ended_is sound same =
        let effect = effect_of_one (Some before) (Some written) (bytes_in left) told in
        let here = outcome lent.bytes sound text input (segment_of kept.image) (segment_of left) effect on.bytes on.region on.base (ran sound same) in
        same_run text input lent.bytes lent.bytes output before output_then written saved (bytes_in left) told ended refl started_is then_is saved_is ended_is (λ _. here) sound

    pub types_of_run : (new : List ℕ) (types_then : KeptTypes) → new ≡ bytes_in left → table_in types_then ≡ Some (types_of left) → OnSound lent.bytes types (λ _. KeepsTypes new types_then)
    types_of_run new types_then is kept_then sound same = keeps_types (segment_of left) new types_then (ran sound same).sound is kept_then
