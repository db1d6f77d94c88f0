-- How opening and closing a part changes the list of open parts.
use Rattle.std.proofs.Common.{◌≡◌, ℕ, ◌<◌, ◌≤◌, Bool, true, false, List, [], ◌∷◌, ◌++◌, length, sym, ap, ◌∙◌, subst, arith, Some, None, MatchBool, rules}
use Rattle.std.specs.Prelude.{reverse, nat_lt, if◌then◌else◌}
use Rattle.std.proofs.lemmas.List.{reverse-append, length-reverse, length-append}
use Rattle.client_spec.specs.declared.table.Role.{Role}
use Rattle.client_code.specs.declared.nesting.Part.{Part}
use Rattle.client_code.specs.declared.nesting.Part.TheVariants as part
use Rattle.client_code.specs.Parts.{with_open_part, passed}

reversed : (parts : List Part) (part : Part) → reverse (parts ++ part ∷ []) ≡ part ∷ reverse parts
reversed parts part = reverse-append parts (part ∷ [])

lt_true : (m n : ℕ) → m < n → nat_lt m n ≡ true
lt_true m n h = search rules

pub opened_room : (parts : List Part) (part : Part) → length parts < 8 → with_open_part parts part ≡ Some (part ∷ parts)
opened_room parts part h = ap (λ b. if b then Some (part ∷ parts) else None) (lt_true (length parts) 8 h)

-- after ELSE, the success part becomes the else part
else_passed : (old rest new : List Part) (r : Bool) → old ≡ rest ++ part.Success ∷ []
    → length old ≤ 8 → MatchBool r (with_open_part (reverse rest) part.Else ≡ Some (reverse new)) (with_open_part (reverse rest) part.Else ≡ None)
    → MatchBool r (passed (reverse old) Role.Else ≡ Some (reverse new)) (passed (reverse old) Role.Else ≡ None)
else_passed old rest new true e h m =
    let room = opened_room (reverse rest) part.Else (let a = ap length e in let b = length-append rest (part.Success ∷ []) in let d = length-reverse rest in omega arith) in
    ap (λ parts. passed parts Role.Else) (ap reverse e ∙ reversed rest part.Success) ∙ sym room ∙ m
else_passed old rest new false e h m =
    let room = opened_room (reverse rest) part.Else (let a = ap length e in let b = length-append rest (part.Success ∷ []) in let d = length-reverse rest in omega arith) in
    cc

pub else_passed_at : (old rest new : List Part) (r : Bool) (role : Role) → role ≡ Role.Else → old ≡ rest ++ part.Success ∷ []
    → length old ≤ 8 → MatchBool r (with_open_part (reverse rest) part.Else ≡ Some (reverse new)) (with_open_part (reverse rest) part.Else ≡ None)
    → MatchBool r (passed (reverse old) role ≡ Some (reverse new)) (passed (reverse old) role ≡ None)
else_passed_at old rest new r role p e h m = subst (λ q. MatchBool r (passed (reverse old) q ≡ Some (reverse new)) (passed (reverse old) q ≡ None)) (sym p) (else_passed old rest new r e h m)
