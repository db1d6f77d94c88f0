-- An operation that works out what an operator does has no parts.
use Rattle.std.proofs.Common.{◌≡◌, ◌≢◌, pos, [], ◌∷◌, false, Some, None, refl, sym, ◌∙◌, ap}
use Rattle.client_spec.specs.declared.table.Operation.{Operation}
use Rattle.client_spec.specs.declared.table.Operation.TheVariants as operation
use Rattle.client_spec.specs.declared.table.Role.{Role}
use Rattle.client_spec.specs.Operations.{row_of}
use Rattle.client_spec.specs.Machine.{Register, State, set_register}
use Rattle.client_spec.specs.Answer.{Answer, Outcome, success}
use Rattle.client_spec.specs.Effect.{effect}
use Rattle.client_spec.proofs.TypedStates.ValueLaws.{Some_inj}
use Rattle.script_meaning.specs.Meaning.{combined}
use Rattle.script_meaning.specs.declared.program.Operator.{Operator}
use Rattle.script_meaning.specs.Comparing.{Computes}

zeros : State
zeros = record {
  types = [];
  names = λ n. None;
  uniques = λ t. None;
  registers = Register.Int (pos 0) ∷ Register.Int (pos 0) ∷ Register.Undefined ∷ [];
  input = [];
  output = [];
}

refutes : (code : Answer) (s t : State) → code ≢ success → ◌≡◌ {A = Outcome} (Some (code, s)) (Some (success, t)) → ⊥
refutes code s t ne e = ne (ap (λ (p : Answer × State). p.0) (Some_inj e))

plain_by : (op : Operation) (t : State) → effect [] op 2 0 1 (pos 0) false zeros ≡ Some (success, t) → (row_of op).role ≡ Role.Plain
unfolding effect zeros
plain_by operation.If t e = absurd (refutes _ _ t (λ q. cc) e)
plain_by operation.While t e = absurd (let g : ◌≡◌ {A = Outcome} None (Some (success, t)) = e in cc)
plain_by operation.Else t e = absurd (let g : ◌≡◌ {A = Outcome} None (Some (success, t)) = e in cc)
plain_by operation.End t e = absurd (let g : ◌≡◌ {A = Outcome} None (Some (success, t)) = e in cc)
plain_by operation.GetByte t e = absurd (refutes _ _ t (λ q. cc) e)
plain_by operation.Make t e = absurd (let g : ◌≡◌ {A = Outcome} None (Some (success, t)) = e in cc)
plain_by operation.Find t e = absurd (let g : ◌≡◌ {A = Outcome} None (Some (success, t)) = e in cc)
plain_by operation.FindOrMake t e = absurd (let g : ◌≡◌ {A = Outcome} None (Some (success, t)) = e in cc)
plain_by operation.Count t e = absurd (let g : ◌≡◌ {A = Outcome} None (Some (success, t)) = e in cc)
plain_by operation.MakeUnique t e = absurd (refutes _ _ t (λ q. cc) e)
plain_by operation.FindUnique t e = absurd (refutes _ _ t (λ q. cc) e)
plain_by operation.FindOrMakeUnique t e = absurd (refutes _ _ t (λ q. cc) e)
plain_by operation.New t e = absurd (refutes _ _ t (λ q. cc) e)
plain_by operation.Take t e = absurd (let g : ◌≡◌ {A = Outcome} None (Some (success, t)) = e in cc)
plain_by operation.Content t e = absurd (let g : ◌≡◌ {A = Outcome} None (Some (success, t)) = e in cc)
plain_by operation.At t e = absurd (let g : ◌≡◌ {A = Outcome} None (Some (success, t)) = e in cc)
plain_by operation.PushBack t e = absurd (let g : ◌≡◌ {A = Outcome} None (Some (success, t)) = e in cc)
plain_by operation.PushFront t e = absurd (let g : ◌≡◌ {A = Outcome} None (Some (success, t)) = e in cc)
plain_by operation.PopBack t e = absurd (let g : ◌≡◌ {A = Outcome} None (Some (success, t)) = e in cc)
plain_by operation.PopFront t e = absurd (let g : ◌≡◌ {A = Outcome} None (Some (success, t)) = e in cc)
plain_by operation.SetStr t e = absurd (let g : ◌≡◌ {A = Outcome} None (Some (success, t)) = e in cc)
plain_by operation.AddStr t e = absurd (let g : ◌≡◌ {A = Outcome} None (Some (success, t)) = e in cc)
plain_by operation.AddByte t e = absurd (let g : ◌≡◌ {A = Outcome} None (Some (success, t)) = e in cc)
plain_by operation.GetKey t e = absurd (let g : ◌≡◌ {A = Outcome} None (Some (success, t)) = e in cc)
plain_by operation.PutKey t e = absurd (let g : ◌≡◌ {A = Outcome} None (Some (success, t)) = e in cc)
plain_by operation.FirstKey t e = absurd (let g : ◌≡◌ {A = Outcome} None (Some (success, t)) = e in cc)
plain_by operation.NextKey t e = absurd (let g : ◌≡◌ {A = Outcome} None (Some (success, t)) = e in cc)
plain_by operation.Freeze t e = absurd (let g : ◌≡◌ {A = Outcome} None (Some (success, t)) = e in cc)
plain_by op t e = refl

pub computes_plain : (o : Operator) (op : Operation) → Computes o op → (row_of op).role ≡ Role.Plain
unfolding zeros
computes_plain o op computes =
    plain_by op (set_register zeros 2 (Register.Int (combined o (pos 0) (pos 0)))) (computes [] 2 0 1 (pos 0) false zeros (pos 0) (pos 0) refl refl)

pub computes_no_freeze : (o : Operator) (op : Operation) → Computes o op → op ≢ operation.Freeze
computes_no_freeze o op computes e =
    let g : Role.Opener ≡ Role.Plain = sym (ap (λ (op : Operation). (row_of op).role) e) ∙ computes_plain o op computes in
    absurd (cc)
