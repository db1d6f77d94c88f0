-- The statements about a run are the same for an image and an output that are equal to the given
-- ones.
use Rattle.std.proofs.Common.{◌≡◌, ℕ, List, [], ◌∷◌, length, Some, subst, sym}
use Rattle.seg_spec.specs.Images.{IsSound}
use Rattle.lezgauri.specs.Report.{Report}
use Rattle.lezgauri.specs.Ended.{Ended}
use Rattle.lezgauri.specs.Refused.{Refused}
use Rattle.client_vm.specs.Admitted.{IsWrong}
use Rattle.client_vm.specs.Outcomes.{HasOutcome, IsRefusedFor}
use Rattle.client_vm.proofs.RefusalLaws.{why}
use Rattle.lezgauri_c.specs.Calls.{whole_job, effect_of_one, IsRun}
use Rattle.lezgauri.proofs.OpenedLaws.{can_move}

-- a run of an equal image and output is the same run
pub same_run : (text input image from output started output_then written saved left : List ℕ) (told : Report) (ended : Ended)
    → from ≡ image → started ≡ output → output_then ≡ written → saved ≡ left → told.ended ≡ ended
    → (IsSound from → HasOutcome (whole_job from (text ∷ []) input) (effect_of_one (Some started) (Some written) left told))
    → IsSound image → IsRun image (text ∷ []) input output output_then saved (told ∷ []) ended
same_run text input image from output started output_then written saved left told ended from_is started_is then_is saved_is ended_is run sound =
    subst (λ (e : Ended). IsRun image (text ∷ []) input output output_then saved (told ∷ []) e) ended_is
    (subst (λ (s : List ℕ). IsRun image (text ∷ []) input output output_then s (told ∷ []) told.ended) (sym saved_is)
    (subst (λ (o : List ℕ). IsRun image (text ∷ []) input output o left (told ∷ []) told.ended) (sym then_is)
    (subst (λ (o : List ℕ). IsRun image (text ∷ []) input o written left (told ∷ []) told.ended) started_is
    (subst (λ (i : List ℕ). IsSound i → IsRun i (text ∷ []) input started written left (told ∷ []) told.ended) from_is run sound))))

-- a refusal for an equal image is the same refusal
pub same_refusal : (text image from : List ℕ) (refused : Refused) → from ≡ image → (IsSound from → IsWrong from (text ∷ []) refused)
    → IsSound image → IsRefusedFor (whole_job image (text ∷ []) []) refused
same_refusal text image from refused from_is wrong sound =
    why image (text ∷ []) (length image) 0 [] (can_move image sound) refused.client refused.fault
    (subst (λ (i : List ℕ). IsSound i → IsWrong i (text ∷ []) refused) from_is wrong sound)
