-- How far a verifier is in a client, and what follows for the rules and the bound when it refuses
-- an instruction or reaches the end.
use Rattle.std.proofs.Common.{◌≡◌, ℕ, zero, suc, ◌+◌, ◌<◌, ◌≤◌, List, [], ◌∷◌, ◌++◌, length, take, drop, refl, sym, ap, ◌∙◌, subst, arith, add-one, zero-add, inl, inr, Some, None, Ok, Err, append-nil}
use Rattle.std.specs.Prelude.{replicate, slice_get}
use Rattle.std.specs.List.{AllByRecursion}
use Rattle.std.proofs.lemmas.List.{take-append-drop, take_all}
use Rattle.std.proofs.lemmas.Option.{slice_get_cases}
use Rattle.client_spec.specs.Types.{Table}
use Rattle.client_spec.specs.declared.table.Operation.{Operation}
use Rattle.client_spec.specs.Syntax.{Constant, Instruction, Client}
use Rattle.client_spec.specs.Operations.{row_of}
use Rattle.client_spec.specs.Grammar.{mark, listing, IsInstruction, IsClient}
use Rattle.client_spec.specs.Run.{bound}
use Rattle.client_spec.specs.Safe.{IsAccepted}
use Rattle.client_spec.specs.Typed.{Checked, ◌>>=◌, Reason, RegisterType, RegisterTypes, types_after}
use Rattle.client_spec.proofs.Spelling.FileVersionLaws.{is_version}
use Rattle.client_spec.proofs.Rows.RuleRowLaws.{Ok_inj}
use Rattle.client_spec.proofs.Spelling.ListingLaws.{all_listed}
use Rattle.client_spec.proofs.Spelling.OneClientLaws.{mark_word}
use Rattle.client_spec.proofs.TypedStates.ValueLaws.{Some_inj}
use Rattle.client_verify.specs.Passing.{Progress, initial_progress, at_most, passes, passes_all}
use Rattle.client_verify.specs.Refusals.{IsRejected, WalksTo}
use Rattle.client_verify.proofs.CodeWalkLaws.{followed, walked}

-- ---- instructions

-- the instruction is valid and has the role that its place needs
abbrev pub Right : Table → List Constant → Instruction → Type 0
Right types constants i = IsInstruction types constants (row_of i.operation).role i

mark_else : (types : Table) (constants : List Constant) → Right types constants (mark Operation.Else)
mark_else types constants = record { role = refl; version = (is_version types).0; a = refl; b = refl; c = refl; number = refl; range = mark_word Operation.Else }

mark_end : (types : Table) (constants : List Constant) → Right types constants (mark Operation.End)
mark_end types constants = record { role = refl; version = (is_version types).0; a = refl; b = refl; c = refl; number = refl; range = mark_word Operation.End }

all_right : (tree : Client) → IsClient tree → AllByRecursion (Right tree.types tree.constants) (listing tree.code)
all_right tree valid =
    all_listed tree.types tree.constants (Right tree.types tree.constants) (λ role i h. subst (λ p. IsInstruction tree.types tree.constants p i) (sym h.role) h) (mark_else tree.types tree.constants)
    (mark_end tree.types tree.constants) tree.code valid.code

one_of : {A : Type 0} (P : A → Type 0) (xs : List A) (i : ℕ) (x : A) → AllByRecursion P xs → slice_get xs i ≡ Some x → P x
one_of P [] i x all e = cc
one_of P (y ∷ xs) zero x all e = subst P (Some_inj e) all.0
one_of P (y ∷ xs) (suc i) x all e = one_of P xs i x all.1 e

taken : {A : Type 0} (xs : List A) (i : ℕ) (x : A) → slice_get xs i ≡ Some x → take (suc i) xs ≡ take i xs ++ x ∷ []
taken [] i x e = cc
taken (y ∷ xs) zero x e = ap (λ z. z ∷ []) (Some_inj e)
taken (y ∷ xs) (suc i) x e = ap (λ zs. y ∷ zs) (taken xs i x e)

pub there : {A : Type 0} (xs : List A) (i : ℕ) → i < length xs → None ≡ slice_get xs i → ⊥
there xs i h none = elim (slice_get_cases xs i).1 [ inl r ↦ (let some = r.2 in cc) | inr r ↦ (let past = r.0 in omega arith) ]

-- ---- several instructions

module _ (types : Table) (constants : List Constant) where
  passes_more : (p : Progress) (xs ys : List Instruction) → passes_all types constants p (xs ++ ys) ≡ (passes_all types constants p xs >>= λ q. passes_all types constants q ys)
  passes_more p [] ys = refl
  passes_more p (x ∷ xs) ys =
      followed (passes types constants p x) (λ q. passes_all types constants q xs) (λ q. passes_all types constants q (xs ++ ys)) (λ q. passes_all types constants q ys) (λ q. passes_more q xs ys)

-- ---- a client

-- the progress after the code, if the rules accept it
abbrev Ended : Checked RegisterTypes → ℕ → Checked Progress
Ended known n = known >>= λ after. Ok (record { known = after; steps = n; parts = [] })

refused : (known : Checked RegisterTypes) (n : ℕ) (reason : Reason) → Ended known n ≡ Err reason → known ≡ Err reason
refused (Ok after) n reason e = cc
refused (Err other) n reason e = cc

accepted : (known : Checked RegisterTypes) (n : ℕ) (p : Progress) → Ended known n ≡ Ok p → ((after : RegisterTypes) × (known ≡ Ok after)) × (p.steps ≡ n)
accepted (Ok after) n p e = ((after, refl), sym (ap (λ q. q.steps) (Ok_inj e)))
accepted (Err reason) n p e = cc

-- what is known after the code, or the first reason to refuse it
abbrev known_in_parts : Client → Checked RegisterTypes
known_in_parts tree = types_after tree.types tree.constants tree.code (replicate 16 RegisterType.Undefined)

module _ (tree : Client) (valid : IsClient tree) where
  all_passed : passes_all tree.types tree.constants initial_progress (listing tree.code) ≡ Ended (known_in_parts tree) (at_most (bound tree.code))
  all_passed =
      ap (passes_all tree.types tree.constants initial_progress) (sym (append-nil (listing tree.code)))
      ∙ walked tree.types tree.constants tree.code valid.code (replicate 16 RegisterType.Undefined) 0 [] [] (let d = valid.shallow in omega arith) (omega arith)
      ∙ ap (λ n. Ended (known_in_parts tree) (at_most n)) (zero-add (bound tree.code))

  -- instruction i is valid at its place
  right_at : (i : ℕ) (x : Instruction) → slice_get (listing tree.code) i ≡ Some x → Right tree.types tree.constants x
  right_at i x e = one_of (Right tree.types tree.constants) (listing tree.code) i x (all_right tree valid) e

  -- one more instruction changes the progress, or is refused
  pub goes_on : (types : Table) → types ≡ tree.types → (i : ℕ) (p : Progress) (x : Instruction) (r : Checked Progress) → slice_get (listing tree.code) i ≡ Some x → WalksTo tree i (Ok p)
      → (Right types tree.constants x → passes types tree.constants p x ≡ r) → WalksTo tree (i + 1) (r >>= λ q. Ok q)
  goes_on types same i p x r e to here =
      let right_here = subst (λ ts. Right ts tree.constants x → passes ts tree.constants p x ≡ r) same here in
      ap (passes_all tree.types tree.constants initial_progress) (ap (λ n. take n (listing tree.code)) (add-one i) ∙ taken (listing tree.code) i x e)
      ∙ passes_more tree.types tree.constants initial_progress (take i (listing tree.code)) (x ∷ [])
      ∙ ap (λ now. now >>= λ q. passes_all tree.types tree.constants q (x ∷ [])) to
      ∙ ap (λ now. now >>= λ q. Ok q) (right_here (right_at i x e))

  -- if the rules refuse an instruction, they refuse the client
  pub rejected : (i : ℕ) (reason : Reason) → WalksTo tree i (Err reason) → IsRejected tree reason
  rejected i reason to =
      refused (known_in_parts tree) (at_most (bound tree.code)) reason (
      sym all_passed ∙ ap (passes_all tree.types tree.constants initial_progress) (sym (take-append-drop i (listing tree.code)))
      ∙ passes_more tree.types tree.constants initial_progress (take i (listing tree.code)) (drop i (listing tree.code))
      ∙ ap (λ now. now >>= λ q. passes_all tree.types tree.constants q (drop i (listing tree.code))) to
      )

  pub ends : (i : ℕ) (p : Progress) → length (listing tree.code) ≤ i → WalksTo tree i (Ok p) → IsAccepted tree × (p.steps ≡ at_most (bound tree.code))
  ends i p h to = accepted (known_in_parts tree) (at_most (bound tree.code)) p (sym all_passed ∙ ap (passes_all tree.types tree.constants initial_progress) (sym (take_all i (listing tree.code) h)) ∙ to)
