-- A client that is ready was accepted, so it is verified wherever its types agree with a table.
use Rattle.std.proofs.Common.{◌≡◌, ℕ, ◌^◌, [], ◌∷◌, refl, sym, subst, arith}
use Rattle.std.specs.Prelude.{Some}
use Rattle.std.specs.Global.{Global}
use Rattle.std.proofs.Math.Logic.{∥∥₁_elim}
use Rattle.seg_spec.specs.Types.{Table, Agree, IsFirstDifference}
use Rattle.seg_raw.specs.declared.fault.Fault.{Fault}
use Rattle.seg_raw.specs.declared.fault.Fault.TheVariants as fault
use Rattle.client_spec.specs.Syntax.{Client}
use Rattle.client_spec.specs.Grammar.{SpellsClient}
use Rattle.client_spec.specs.Clients.{IsVerified}
use Rattle.lezgauri.specs.VerifierConstants.{MOST_STEPS}
use Rattle.lezgauri.specs.Texts.{AreWrong}
use Rattle.client_vm.specs.declared.ready.Ready.{Ready}
use Rattle.client_vm.proofs.AcceptedLaws.{accepted_so}
use Rattle.lezgauri_c.specs.Prepared.{client_bytes_of}
use Rattle.lezgauri_c.proofs.OneClient.{only_wrong}

module _ (ready : Ready Global) (client : Client) (spells : SpellsClient (client_bytes_of ready) client) (table : Table) where
  pub verified_on : Agree table client.types → IsVerified table client
  verified_on agree =
      let few = ready.client.within in
      let is = ready.client.bounded client spells in
      let most : MOST_STEPS ≡ 10 ^ 9 = refl in
      record {
        agree = agree;
        typed = accepted_so client (λ none. ∥∥₁_elim (ready.client.accepted client spells) (λ x y. absurd x) none);
        bounded = omega (arith, few, is, most);
      }

  -- if the types don't agree, the fault is the first type that differs
  pub differs_on : (f : Fault) (k : ℕ) → f ≡ fault.TypeMismatch k → IsFirstDifference table client.types k → AreWrong table (client_bytes_of ready ∷ []) (record { client = Some 0; fault = f })
  differs_on f k is first =
      subst (λ (g : Fault). AreWrong table (client_bytes_of ready ∷ []) (record { client = Some 0; fault = g })) (sym is)
      (only_wrong table (client_bytes_of ready) (fault.TypeMismatch k) (client, spells, first))

-- at most one client is kept
pub one_kept : (x y : Ready Global) → Some x ≡ Some y → x ≡ y
one_kept x y is = cc
