-- Two situations that clients can't tell apart stay so after each of these instructions.
use Rattle.std.proofs.Common.{◌≡◌, ◌∙◌, inl, inr, true, List, ap, refl}
use Rattle.seg_spec.specs.Index.{Root}
use Rattle.client_spec.specs.declared.table.Operation.{Operation}
use Rattle.client_spec.specs.Syntax.{Constant, Instruction}
use Rattle.client_spec.specs.Answer.{Answer}
use Rattle.client_spec.specs.Ties.{keeps_image}
use Rattle.client_spec.specs.OnImages.{Move, Situation, RowOn}
use Rattle.test_definitions.specs.Alike.{StandAlike, StaysAlike}
use Rattle.test_definitions.proofs.Rows.KeptImageLaws.{reads_keep}
use Rattle.test_definitions.proofs.Rows.KeptRowLaws.{unchanged_alike}
use Rattle.test_definitions.proofs.Steps.StoreStepLaws.{store_alike}
use Rattle.test_definitions.proofs.Steps.TextStepLaws.{text_alike}
use Rattle.test_definitions.proofs.Steps.ClearStepLaws.{clear_alike}
use Rattle.test_definitions.proofs.Steps.ShareStepLaws.{share_alike}
use Rattle.test_definitions.proofs.Steps.ShrinkStepLaws.{shrink_alike}
use Rattle.test_definitions.proofs.Steps.AddingStepLaws.{adding_alike}
use Rattle.test_definitions.proofs.Steps.UniqueStepLaws.{unique_alike}
use Rattle.test_definitions.proofs.Steps.NewStepLaws.{new_alike}
use Rattle.test_definitions.proofs.Steps.MakeStepLaws.{make_alike}
use Rattle.test_definitions.proofs.Steps.DropStepLaws.{drop_alike}
use Rattle.test_definitions.proofs.Steps.RemovingStepLaws.{removing_alike}
use Rattle.test_definitions.proofs.Steps.TakeStepLaws.{take_alike}
use Rattle.test_definitions.proofs.Steps.PutStepLaws.{put_alike}
use Rattle.test_definitions.proofs.Steps.FreezeStepLaws.{freeze_alike}
use Rattle.test_definitions.proofs.Steps.KillStepLaws.{kill_alike}
use Rattle.test_definitions.proofs.Steps.KillUniqueStepLaws.{kill_unique_alike}

module _ (constants : List Constant) (others : List Root) (moves : List Move) (i : Instruction) (x z y w : Situation) (first second : Answer) (stand : StandAlike others x z) (r : RowOn constants others moves i x first y)
    (q : RowOn constants others moves i z second w) where
  by_operation : (o : Operation) → i.operation ≡ o → StaysAlike others first second y w
  by_operation Operation.Store is = store_alike constants others moves i is x z y w first second stand r q
  by_operation Operation.SetStr is = text_alike constants others moves i (inl is) x z y w first second stand r q
  by_operation Operation.AddStr is = text_alike constants others moves i (inr (inl is)) x z y w first second stand r q
  by_operation Operation.AddByte is = text_alike constants others moves i (inr (inr is)) x z y w first second stand r q
  by_operation Operation.Shrink is = shrink_alike constants others moves i is x z y w first second stand r q
  by_operation Operation.MakeUnique is = unique_alike constants others moves i (inl is) x z y w first second stand r q
  by_operation Operation.FindOrMakeUnique is = unique_alike constants others moves i (inr is) x z y w first second stand r q
  by_operation Operation.New is = new_alike constants others moves i is x z y w first second stand r q
  by_operation Operation.Drop is = drop_alike constants others moves i is x z y w first second stand r q
  by_operation Operation.PopFront is = removing_alike constants others moves i (inr (inl is)) x z y w first second stand r q
  by_operation Operation.Share is = share_alike constants others moves i is x z y w first second stand r q
  by_operation Operation.Clear is = clear_alike constants others moves i is x z y w first second stand r q
  by_operation Operation.Make is = make_alike constants others moves i (inl is) x z y w first second stand r q
  by_operation Operation.FindOrMake is = make_alike constants others moves i (inr is) x z y w first second stand r q
  by_operation Operation.Kill is = kill_alike constants others moves i is x z y w first second stand r q
  by_operation Operation.KillUnique is = kill_unique_alike constants others moves i is x z y w first second stand r q
  by_operation Operation.Put is = put_alike constants others moves i is x z y w first second stand r q
  by_operation Operation.Take is = take_alike constants others moves i is x z y w first second stand r q
  by_operation Operation.PushBack is = adding_alike constants others moves i (inl is) x z y w first second stand r q
  by_operation Operation.PushFront is = adding_alike constants others moves i (inr (inl is)) x z y w first second stand r q
  by_operation Operation.PopBack is = removing_alike constants others moves i (inl is) x z y w first second stand r q
  by_operation Operation.PutKey is = adding_alike constants others moves i (inr (inr is)) x z y w first second stand r q
  by_operation Operation.DeleteKey is = removing_alike constants others moves i (inr (inr is)) x z y w first second stand r q
  by_operation Operation.Freeze is = freeze_alike constants others moves i is x z y w first second stand r q
  by_operation o is = unchanged_alike constants others moves i x z y w first second stand r q (ap (λ p. keeps_image p first) is ∙ reads_keep o refl first)

pub step_alike : (constants : List Constant) (others : List Root) (moves : List Move) (i : Instruction) (x z y w : Situation) (first second : Answer) → StandAlike others x z → RowOn constants others moves i x first y
    → RowOn constants others moves i z second w → StaysAlike others first second y w
step_alike constants others moves i x z y w first second stand r q = by_operation constants others moves i x z y w first second stand r q i.operation refl
