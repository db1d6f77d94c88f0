-- Instructions whose parts open and close in order are the listing of a tree, and the listing of a
-- tree is such instructions.
use Rattle.std.proofs.Common.{◌≡◌, ℕ, ◌+◌, ◌<◌, ◌≤◌, Bool, true, false, List, [], ◌∷◌, ◌++◌, length, map, refl, sym, ap, ◌∙◌, subst, arith, Option, Some, None, append_assoc, append-nil}
use Rattle.std.specs.Prelude.{⊤, nat_lt, if◌then◌else◌}
use Rattle.std.specs.List.{AllByRecursion}
use Rattle.std.specs.Option.{option_and_then}
use Rattle.std.proofs.lemmas.List.{map-append}
use Rattle.std.proofs.lemmas.Bool.Decides.{nat_tests}
use Rattle.seg_spec.specs.Types.{Table}
use Rattle.client_spec.specs.declared.table.Operation.{Operation}
use Rattle.client_spec.specs.Syntax.{Constant, Instruction, Statement, plain, opener, loop, Statements, no_more, next}
use Rattle.client_spec.specs.declared.table.Role.{Role}
use Rattle.client_spec.specs.Operations.{row_of}
use Rattle.client_spec.specs.Grammar.{mark, listing, listing_one, IsOperand, IsNumber, IsInstruction, IsCode, IsStatement, depth, depth_one}
use Rattle.client_code.specs.declared.nesting.Part.{Part}
use Rattle.client_code.specs.declared.nesting.Part.TheVariants as part
use Rattle.client_code.specs.Parts.{with_open_part, passed, passed_all}
use Rattle.client_code.proofs.OpenParts.{opened_room}

abbrev pub role_of : Instruction → Role
role_of i = (row_of i.operation).role

abbrev pub roles : List Instruction → List Role
roles is = map role_of is

-- ---- marks

abbrev IsElse : Role → Type 0
IsElse Role.Else = ⊤
IsElse Role.Plain = ⊥
IsElse Role.Opener = ⊥
IsElse Role.Loop = ⊥
IsElse Role.End = ⊥

abbrev IsEnd : Role → Type 0
IsEnd Role.End = ⊤
IsEnd Role.Plain = ⊥
IsEnd Role.Opener = ⊥
IsEnd Role.Loop = ⊥
IsEnd Role.Else = ⊥

else_only : (o : Operation) → (row_of o).role ≡ Role.Else → o ≡ Operation.Else
else_only Operation.Else e = refl
else_only o e = absurd (subst IsElse (sym e) tt)

end_only : (o : Operation) → (row_of o).role ≡ Role.End → o ≡ Operation.End
end_only Operation.End e = refl
end_only o e = absurd (subst IsEnd (sym e) tt)

-- ---- opening

less_8 : (n : ℕ) → nat_lt n 8 ≡ true → n < 8
less_8 n h = grind (arith, nat_tests)

chosen : (b : Bool) (n : ℕ) (x : List Part) (f : List Part → Option (List Part)) → nat_lt n 8 ≡ b → option_and_then f (if b then Some x else None) ≡ Some [] → (n < 8) × (f x ≡ Some [])
chosen true n x f e h = (less_8 n e, h)
chosen false n x f e h = cc

opened_some : (parts : List Part) (part : Part) (f : List Part → Option (List Part)) → option_and_then f (with_open_part parts part) ≡ Some [] → (length parts < 8) × (f (part ∷ parts) ≡ Some [])
opened_some parts part f h = chosen (nat_lt (length parts) 8) (length parts) (part ∷ parts) f refl h

-- ---- from instructions to code

pub two_parts : (a b xs : List Instruction) (m n : Instruction) → ((a ++ m ∷ b) ++ n ∷ []) ++ xs ≡ a ++ m ∷ (b ++ n ∷ xs)
two_parts a b xs m n = simp append_assoc

pub one_part : (a xs : List Instruction) (n : Instruction) → (a ++ n ∷ []) ++ xs ≡ a ++ n ∷ xs
one_part a xs n = simp append_assoc

placed_two : (a b xs : List Role) → ((a ++ Role.Else ∷ b) ++ Role.End ∷ []) ++ xs ≡ a ++ Role.Else ∷ (b ++ Role.End ∷ xs)
placed_two a b xs = simp append_assoc

placed_one : (a xs : List Role) → (a ++ Role.End ∷ []) ++ xs ≡ a ++ Role.End ∷ xs
placed_one a xs = simp append_assoc

module _ (types : Table) (constants : List Constant) where
  -- a valid instruction, whatever is around it
  abbrev pub Right : Instruction → Type 0
  Right i = IsInstruction types constants (role_of i) i

  standing : (role : Role) (i : Instruction) → Right i → role_of i ≡ role → IsInstruction types constants role i
  standing role i h e = subst (λ p. IsInstruction types constants p i) e h

  else_mark : (i : Instruction) → Right i → role_of i ≡ Role.Else → i ≡ mark Operation.Else
  else_mark i h e =
      let o = else_only i.operation e in
      let a : i.a ≡ 0 = subst (λ (q : Operation). IsOperand (row_of q).a i.a) o h.a in
      let b : i.b ≡ 0 = subst (λ (q : Operation). IsOperand (row_of q).b i.b) o h.b in
      let c : i.c ≡ 0 = subst (λ (q : Operation). IsOperand (row_of q).c i.c) o h.c in
      let n = subst (λ (q : Operation). IsNumber types constants i.b (row_of q).number i.number) o h.number in
      λ t. record { operation = o t; a = a t; b = b t; c = c t; number = n t }

  end_mark : (i : Instruction) → Right i → role_of i ≡ Role.End → i ≡ mark Operation.End
  end_mark i h e =
      let o = end_only i.operation e in
      let a : i.a ≡ 0 = subst (λ (q : Operation). IsOperand (row_of q).a i.a) o h.a in
      let b : i.b ≡ 0 = subst (λ (q : Operation). IsOperand (row_of q).b i.b) o h.b in
      let c : i.c ≡ 0 = subst (λ (q : Operation). IsOperand (row_of q).c i.c) o h.c in
      let n = subst (λ (q : Operation). IsNumber types constants i.b (row_of q).number i.number) o h.number in
      λ t. record { operation = o t; a = a t; b = b t; c = c t; number = n t }

  -- code that is valid inside n parts
  record Fits (cs : Statements) (n : ℕ) : Type 0 where
    code : IsCode types constants cs
    shallow : n + depth cs ≤ 8

  nothing : (n : ℕ) → n ≤ 8 → Fits no_more n
  unfolding IsCode depth
  nothing n h = record { code = tt; shallow = omega arith }

  more_fits : (c : Statement) (cs : Statements) (n : ℕ) → IsStatement types constants c → n + depth_one c ≤ 8 → Fits cs n → Fits (next c cs) n
  unfolding IsCode depth
  more_fits c cs n h d f = record { code = (h, f.code); shallow = (let s = f.shallow in omega arith) }

  -- the instructions close these open parts, one after the other, and the code after the last of
  -- them
  abbrev Closes : List Part → List Instruction → Type 0
  Closes [] is = (cs : Statements) × Fits cs 0 × (is ≡ listing cs)
  Closes (part.Success ∷ parts) is = (cs : Statements) × (ds : Statements) × (rest : List Instruction) × Fits cs (length parts + 1) × Fits ds (length parts + 1)
      × (is ≡ listing cs ++ mark Operation.Else ∷ (listing ds ++ mark Operation.End ∷ rest)) × Closes parts rest
  Closes (part.Else ∷ parts) is = (cs : Statements) × (rest : List Instruction) × Fits cs (length parts + 1) × (is ≡ listing cs ++ mark Operation.End ∷ rest) × Closes parts rest
  Closes (part.Body ∷ parts) is = (cs : Statements) × (rest : List Instruction) × Fits cs (length parts + 1) × (is ≡ listing cs ++ mark Operation.End ∷ rest) × Closes parts rest

  -- a statement in front of the instructions closes the same open parts
  in_front : (c : Statement) (parts : List Part) (is : List Instruction) → IsStatement types constants c → length parts + depth_one c ≤ 8 → Closes parts is → Closes parts (listing_one c ++ is)
  unfolding listing
  in_front c [] is h d r = (next c r.0, more_fits c r.0 0 h d r.1, ap (λ xs. listing_one c ++ xs) r.2)
  in_front c (part.Success ∷ parts) is h d r =
      let s : length parts + 1 + depth_one c ≤ 8 = omega arith in
      (next c r.0, r.1, r.2, more_fits c r.0 (length parts + 1) h s r.3, r.4, ap (λ xs. listing_one c ++ xs) r.5 ∙ sym (append_assoc (listing_one c) (listing r.0) _), r.6)
  in_front c (part.Else ∷ parts) is h d r =
      let s : length parts + 1 + depth_one c ≤ 8 = omega arith in
      (next c r.0, r.1, more_fits c r.0 (length parts + 1) h s r.2, ap (λ xs. listing_one c ++ xs) r.3 ∙ sym (append_assoc (listing_one c) (listing r.0) _), r.4)
  in_front c (part.Body ∷ parts) is h d r =
      let s : length parts + 1 + depth_one c ≤ 8 = omega arith in
      (next c r.0, r.1, more_fits c r.0 (length parts + 1) h s r.2, ap (λ xs. listing_one c ++ xs) r.3 ∙ sym (append_assoc (listing_one c) (listing r.0) _), r.4)

  abbrev After : List Instruction → List Part → Type 0
  After is parts = length parts ≤ 8 → passed_all parts (roles is) ≡ Some [] → Closes parts is

  step : (i : Instruction) (is : List Instruction) → Right i → ((parts : List Part) → After is parts) → (role : Role) → role_of i ≡ role → (parts : List Part)
      → length parts ≤ 8 → option_and_then (λ now. passed_all now (roles is)) (passed parts role) ≡ Some [] → Closes parts (i ∷ is)
  unfolding IsCode listing depth
  step i is h rest Role.Plain e parts few p = in_front (plain i) parts is (standing Role.Plain i h e) (omega arith) (rest parts few p)
  step i is h rest Role.Opener e parts few p =
      let o = opened_some parts part.Success (λ now. passed_all now (roles is)) p in
      let r = rest (part.Success ∷ parts) (let l = o.0 in omega arith) o.1 in
      let s = (r.3).shallow in
      let t = (r.4).shallow in
      let front = in_front (opener i r.0 r.1) parts r.2 (standing Role.Opener i h e, (r.3).code, (r.4).code) (omega arith) r.6 in
      subst (Closes parts) (two_parts (i ∷ listing r.0) (listing r.1) r.2 (mark Operation.Else) (mark Operation.End) ∙ ap (λ xs. i ∷ xs) (sym r.5)) front
  step i is h rest Role.Loop e parts few p =
      let o = opened_some parts part.Body (λ now. passed_all now (roles is)) p in
      let r = rest (part.Body ∷ parts) (let l = o.0 in omega arith) o.1 in
      let s = (r.2).shallow in
      let front = in_front (loop i r.0) parts r.1 (standing Role.Loop i h e, (r.2).code) (omega arith) r.4 in
      subst (Closes parts) (one_part (i ∷ listing r.0) r.1 (mark Operation.End) ∙ ap (λ xs. i ∷ xs) (sym r.3)) front
  step i is h rest Role.Else e [] few p = cc
  step i is h rest Role.Else e (part.Success ∷ parts) few p =
      let r = rest (part.Else ∷ parts) few p in
      (no_more, r.0, r.1, nothing (length parts + 1) (omega arith), r.2, ap (λ j. j ∷ is) (else_mark i h e) ∙ ap (λ xs. mark Operation.Else ∷ xs) r.3, r.4)
  step i is h rest Role.Else e (part.Else ∷ parts) few p = cc
  step i is h rest Role.Else e (part.Body ∷ parts) few p = cc
  step i is h rest Role.End e [] few p = cc
  step i is h rest Role.End e (part.Success ∷ parts) few p = cc
  step i is h rest Role.End e (part.Else ∷ parts) few p = (no_more, is, nothing (length parts + 1) (omega arith), ap (λ j. j ∷ is) (end_mark i h e), rest parts (omega arith) p)
  step i is h rest Role.End e (part.Body ∷ parts) few p = (no_more, is, nothing (length parts + 1) (omega arith), ap (λ j. j ∷ is) (end_mark i h e), rest parts (omega arith) p)

  closes : (is : List Instruction) → AllByRecursion Right is → (parts : List Part) → After is parts
  unfolding listing
  closes [] all [] few p = (no_more, nothing 0 (omega arith), refl)
  closes [] all (part ∷ parts) few p = cc
  closes (i ∷ is) all parts few p = step i is all.0 (closes is all.1) (role_of i) refl parts few p

  -- the instructions are the listing of some tree
  pub code_of : (is : List Instruction) → AllByRecursion Right is → passed_all [] (roles is) ≡ Some [] → (cs : Statements) × IsCode types constants cs × (depth cs ≤ 8) × (is ≡ listing cs)
  code_of is all p = let r = closes is all [] (omega arith) p in (r.0, (r.1).code, (let s = (r.1).shallow in omega arith), r.2)

  -- ---- from code to instructions

  mutual
    unfolding IsCode listing depth

    listed : (cs : Statements) (parts : List Part) (rest : List Role) → IsCode types constants cs → length parts + depth cs ≤ 8 → passed_all parts (roles (listing cs) ++ rest) ≡ passed_all parts rest
    listed no_more parts rest h d = refl
    listed (next c cs) parts rest h d =
        ap (λ ps. passed_all parts (ps ++ rest)) (map-append role_of (listing_one c) (listing cs))
        ∙ ap (passed_all parts) (append_assoc (roles (listing_one c)) (roles (listing cs)) rest)
        ∙ listed_one c parts (roles (listing cs) ++ rest) h.0 (omega arith) ∙ listed cs parts rest h.1 (omega arith)

    listed_one : (c : Statement) (parts : List Part) (rest : List Role) → IsStatement types constants c → length parts + depth_one c ≤ 8 → passed_all parts (roles (listing_one c) ++ rest) ≡ passed_all parts rest
    listed_one (plain i) parts rest h d = ap (λ p. option_and_then (λ now. passed_all now rest) (passed parts p)) h.role
    listed_one (opener i s c) parts rest h d =
        ap (λ ps. passed_all parts (ps ++ rest)) (map-append role_of ((i ∷ listing s) ++ mark Operation.Else ∷ listing c) (mark Operation.End ∷ [])
        ∙ ap (λ ps. ps ++ Role.End ∷ []) (map-append role_of (i ∷ listing s) (mark Operation.Else ∷ listing c)))
        ∙ ap (passed_all parts) (placed_two (role_of i ∷ roles (listing s)) (roles (listing c)) rest)
        ∙ ap (λ p. option_and_then (λ now. passed_all now (roles (listing s) ++ Role.Else ∷ (roles (listing c) ++ Role.End ∷ rest))) (passed parts p)) h.0.role
        ∙ ap (option_and_then (λ now. passed_all now (roles (listing s) ++ Role.Else ∷ (roles (listing c) ++ Role.End ∷ rest)))) (opened_room parts part.Success (omega arith))
        ∙ listed s (part.Success ∷ parts) (Role.Else ∷ (roles (listing c) ++ Role.End ∷ rest)) h.1 (omega arith)
        ∙ listed c (part.Else ∷ parts) (Role.End ∷ rest) h.2 (omega arith)
    listed_one (loop i s) parts rest h d =
        ap (λ ps. passed_all parts (ps ++ rest)) (map-append role_of (i ∷ listing s) (mark Operation.End ∷ []))
        ∙ ap (passed_all parts) (placed_one (role_of i ∷ roles (listing s)) rest)
        ∙ ap (λ p. option_and_then (λ now. passed_all now (roles (listing s) ++ Role.End ∷ rest)) (passed parts p)) h.0.role
        ∙ ap (option_and_then (λ now. passed_all now (roles (listing s) ++ Role.End ∷ rest))) (opened_room parts part.Body (omega arith))
        ∙ listed s (part.Body ∷ parts) (Role.End ∷ rest) h.1 (omega arith)

-- passing two lists of instructions is passing the first, and then the second
pub passed_more : (parts : List Part) (xs ys : List Role) → passed_all parts (xs ++ ys) ≡ option_and_then (λ now. passed_all now ys) (passed_all parts xs)
passed_more parts [] ys = refl
passed_more parts (x ∷ xs) ys = following (passed parts x) (λ q. passed_more q xs ys)
  where
    following : (now : Option (List Part)) → ((q : List Part) → passed_all q (xs ++ ys) ≡ option_and_then (λ q'. passed_all q' ys) (passed_all q xs))
        → option_and_then (λ q. passed_all q (xs ++ ys)) now ≡ option_and_then (λ q. passed_all q ys) (option_and_then (λ q. passed_all q xs) now)
    following None same = refl
    following (Some q) same = same q

-- code closes all parts that it opens
pub code_closes : (types : Table) (constants : List Constant) (cs : Statements) → IsCode types constants cs → depth cs ≤ 8 → passed_all [] (roles (listing cs)) ≡ Some []
code_closes types constants cs h d = ap (passed_all []) (sym (append-nil (roles (listing cs)))) ∙ listed types constants cs [] [] h (omega arith)
