-- A listing whose instructions have the roles of their statements is the listing of one tree.
use Rattle.std.proofs.Common.{◌≡◌, List, [], ◌∷◌, ◌++◌, ◌⊎◌, inl, inr, refl, sym, ◌∙◌, ap, subst}
use Rattle.std.specs.Prelude.{All}
use Rattle.std.proofs.lemmas.List.Elements.{All-nil, All-cons, All-head, All-tail, All-append}
use Rattle.std.proofs.lemmas.List.{append-nil}
use Rattle.client_spec.specs.Types.{Table}
use Rattle.client_spec.specs.Syntax.{Constant, Instruction, Statement, plain, opener, loop, Statements, no_more, next}
use Rattle.client_spec.specs.declared.table.Operation.TheVariants as operation
use Rattle.client_spec.specs.declared.table.Role.{Role}
use Rattle.client_spec.specs.Operations.{row_of}
use Rattle.client_spec.specs.Grammar.{mark, listing, listing_one, IsCode, IsStatement, IsInstruction}
use Rattle.client_spec.proofs.Spelling.OneTreeLaws.{one_code}
use Rattle.script_meaning.specs.Following.{HasRoles, HasRole}

all_before : {X : Type 0} (P : X → Type 0) (xs ys : List X) → All P (xs ++ ys) → All P xs
all_before P [] ys all = All-nil P
all_before P (x ∷ xs) ys all = All-cons P x xs (All-head P x (xs ++ ys) all) (all_before P xs ys (All-tail P x (xs ++ ys) all))

all_after : {X : Type 0} (P : X → Type 0) (xs ys : List X) → All P (xs ++ ys) → All P ys
all_after P [] ys all = all
all_after P (x ∷ xs) ys all = all_after P xs ys (All-tail P x (xs ++ ys) all)

module _ (types : Table) (constants : List Constant) where
  -- a mark, or a valid instruction
  abbrev IsValid : Instruction → Type 0
  IsValid i = (i ≡ mark operation.Else) ⊎ (i ≡ mark operation.End) ⊎ IsInstruction types constants (row_of i.operation).role i

  valid : (i : Instruction) (role : Role) → IsInstruction types constants role i → IsValid i
  valid i role h = inr (inr (subst (λ r. IsInstruction types constants r i) (sym h.role) h))

  ending : All IsValid (mark operation.End ∷ [])
  ending = All-cons IsValid (mark operation.End) [] (inr (inl refl)) (All-nil IsValid)

  mutual
    unfolding IsCode listing

    code_valid : (cs : Statements) → IsCode types constants cs → All IsValid (listing cs)
    code_valid no_more h = All-nil IsValid
    code_valid (next c cs) h = All-append IsValid (listing_one c) (listing cs) (statement_valid c h.0) (code_valid cs h.1)

    statement_valid : (c : Statement) → IsStatement types constants c → All IsValid (listing_one c)
    statement_valid (plain i) h = All-cons IsValid i [] (valid i Role.Plain h) (All-nil IsValid)
    statement_valid (opener i a b) h =
        All-append IsValid ((i ∷ listing a) ++ (mark operation.Else ∷ listing b)) (mark operation.End ∷ [])
        (All-append IsValid (i ∷ listing a) (mark operation.Else ∷ listing b) (All-cons IsValid i (listing a) (valid i Role.Opener h.0) (code_valid a h.1))
        (All-cons IsValid (mark operation.Else) (listing b) (inl refl) (code_valid b h.2))) ending
    statement_valid (loop i a) h =
        All-append IsValid (i ∷ listing a) (mark operation.End ∷ []) (All-cons IsValid i (listing a) (valid i Role.Loop h.0) (code_valid a h.1)) ending

  role_by : (i j : Instruction) (role : Role) → (row_of i.operation).role ≡ role → i ≡ j → role ≡ (row_of j.operation).role
  role_by i j role e m = sym e ∙ ap (λ (k : Instruction). (row_of k.operation).role) m

  as_plain : (i : Instruction) → (row_of i.operation).role ≡ Role.Plain → IsValid i → IsInstruction types constants Role.Plain i
  as_plain i e (inl m) = absurd (let f : Role.Plain ≡ Role.Else = role_by i (mark operation.Else) Role.Plain e m in cc)
  as_plain i e (inr (inl m)) = absurd (let f : Role.Plain ≡ Role.End = role_by i (mark operation.End) Role.Plain e m in cc)
  as_plain i e (inr (inr h)) = subst (λ r. IsInstruction types constants r i) e h

  as_opener : (i : Instruction) → (row_of i.operation).role ≡ Role.Opener → IsValid i → IsInstruction types constants Role.Opener i
  as_opener i e (inl m) = absurd (let f : Role.Opener ≡ Role.Else = role_by i (mark operation.Else) Role.Opener e m in cc)
  as_opener i e (inr (inl m)) = absurd (let f : Role.Opener ≡ Role.End = role_by i (mark operation.End) Role.Opener e m in cc)
  as_opener i e (inr (inr h)) = subst (λ r. IsInstruction types constants r i) e h

  as_loop : (i : Instruction) → (row_of i.operation).role ≡ Role.Loop → IsValid i → IsInstruction types constants Role.Loop i
  as_loop i e (inl m) = absurd (let f : Role.Loop ≡ Role.Else = role_by i (mark operation.Else) Role.Loop e m in cc)
  as_loop i e (inr (inl m)) = absurd (let f : Role.Loop ≡ Role.End = role_by i (mark operation.End) Role.Loop e m in cc)
  as_loop i e (inr (inr h)) = subst (λ r. IsInstruction types constants r i) e h

  mutual
    unfolding IsCode listing

    has_code : (cs : Statements) → HasRoles cs → All IsValid (listing cs) → IsCode types constants cs
    has_code no_more roles all = tt
    has_code (next c cs) roles all =
        (has_statement c roles.0 (all_before IsValid (listing_one c) (listing cs) all), has_code cs roles.1 (all_after IsValid (listing_one c) (listing cs) all))

    has_statement : (c : Statement) → HasRole c → All IsValid (listing_one c) → IsStatement types constants c
    has_statement (plain i) role all = as_plain i role (All-head IsValid i [] all)
    has_statement (opener i a b) role all =
        let both = all_before IsValid ((i ∷ listing a) ++ (mark operation.Else ∷ listing b)) (mark operation.End ∷ []) all in
        let first = all_before IsValid (i ∷ listing a) (mark operation.Else ∷ listing b) both in
        let second = all_after IsValid (i ∷ listing a) (mark operation.Else ∷ listing b) both in (
          as_opener i role.0 (All-head IsValid i (listing a) first),
          has_code a role.1 (All-tail IsValid i (listing a) first),
          has_code b role.2 (All-tail IsValid (mark operation.Else) (listing b) second),
        )
    has_statement (loop i a) role all =
        let first = all_before IsValid (i ∷ listing a) (mark operation.End ∷ []) all in
        (as_loop i role.0 (All-head IsValid i (listing a) first), has_code a role.1 (All-tail IsValid i (listing a) first))

  -- code whose instructions have the roles of their statements, and the listing of valid code, is this code
  pub same_code : (cs code : Statements) → HasRoles cs → IsCode types constants code → listing cs ≡ listing code → cs ≡ code
  same_code cs code roles h e =
      let all = subst (All IsValid) (sym e) (code_valid code h) in
      (one_code types constants cs code (has_code cs roles all) h [] [] tt tt (append-nil (listing cs) ∙ e ∙ sym (append-nil (listing code)))).0
