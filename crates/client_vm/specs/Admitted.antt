-- Whether clients may run on an image, and what is wrong if they may not.
--     AreAcceptedOn image texts       the image is sound, and the clients are accepted one by one
--     IsWrong image texts refused     the image has the fault, or it is sound and a client has it
use Rattle.std.specs.Prelude.{ℕ, List, Option, Some, None}
use Rattle.seg_spec.specs.Images.{IsSound}
use Rattle.seg_raw.specs.declared.fault.Fault.{Fault}
use Rattle.seg_check.specs.Faults.{IsFaultOf}
use Rattle.client_spec.specs.Syntax.{Client}
use Rattle.client_spec.specs.Clients.{AreAccepted}
use Rattle.client_verify.specs.declared.refused.Refused.{Refused}
use Rattle.client_verify.specs.Texts.{IsWrongAt}

pub record AreAcceptedOn (image : List ℕ) (texts : List (List ℕ)) : Type 0 where
  pub sound : IsSound image
  pub clients : List Client
  pub accepted : AreAccepted sound.picture.table texts clients

abbrev pub IsWrongFor : List ℕ → List (List ℕ) → Option ℕ → Fault → Type 0
IsWrongFor image texts None f = IsFaultOf image f
IsWrongFor image texts (Some k) f =
    (sound : IsSound image) × IsWrongAt sound.picture.table texts k f

abbrev pub IsWrong : List ℕ → List (List ℕ) → Refused → Type 0
IsWrong image texts refused = IsWrongFor image texts refused.client refused.fault
