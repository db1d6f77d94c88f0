-- A verifier that passes the instructions of code one by one has the result of the rules on the
-- tree, and counts the tree's bound, capped at the highest number.
use Rattle.std.proofs.Common.{◌≡◌, ℕ, ◌+◌, ◌-◌, ◌*◌, ◌^◌, ◌<◌, ◌≤◌, true, List, [], ◌∷◌, ◌++◌, length, refl, sym, ap, ◌∙◌, arith, rules, append_assoc, Ok, Err}
use Rattle.std.specs.Prelude.{max, nat_lt, nat_abs, if◌then◌else◌}
use Rattle.client_spec.specs.Types.{Table}
use Rattle.client_spec.specs.declared.table.Operation.{Operation}
use Rattle.client_spec.specs.Syntax.{Constant, Instruction, Statement, plain, opener, loop, Statements, no_more, next}
use Rattle.client_spec.specs.declared.table.Role.{Role}
use Rattle.client_spec.specs.Operations.{row_of}
use Rattle.client_spec.specs.Grammar.{mark, listing, listing_one, IsCode, IsStatement, depth, depth_one}
use Rattle.client_spec.specs.Run.{bound, bound_one}
use Rattle.client_spec.specs.Typed.{Checked, ◌>>=◌, RegisterTypes, known, known_after, integer_needed, rule_of, joined, kept, types_by, types_by_one, types_after, types_after_one}
use Rattle.client_code.proofs.ListingTreeLaws.{two_parts, one_part}
use Rattle.client_verify.specs.Passing.{Open, in_success, in_else, in_body, Progress, at_most, with_part, inside, rule_by, passes_by, passes_all}
use Rattle.client_verify.proofs.StepCountLaws.{no_steps, more_steps, steps_of_parts, steps_of_turns}

-- ---- one after the other

pub followed : {A B C : Type 0} (r : Checked A) (f : A → Checked B) (g : A → Checked C) (h : B → Checked C) → ((x : A) → g x ≡ (f x >>= h)) → (r >>= g) ≡ ((r >>= f) >>= h)
followed (Ok x) f g h same = same x
followed (Err e) f g h same = refl

-- mapping a result with q and continuing with g is continuing with h, if g after q is h
given : {A B C : Type 0} (r : Checked A) (q : A → B) (g : B → Checked C) (h : A → Checked C) → ((x : A) → g (q x) ≡ h x) → ((r >>= λ x. Ok (q x)) >>= g) ≡ (r >>= h)
given (Ok x) q g h same = same x
given (Err e) q g h same = refl

alike : {A B : Type 0} (r : Checked A) (g h : A → Checked B) → ((x : A) → g x ≡ h x) → (r >>= g) ≡ (r >>= h)
alike (Ok x) g h same = same x
alike (Err e) g h same = refl

-- ---- room

lt_true : (m n : ℕ) → m < n → nat_lt m n ≡ true
lt_true m n h = search rules

opened : (part : Open) (parts : List Open) → length parts < 8 → with_part part parts ≡ part ∷ parts
opened part parts h = ap (λ b. if b then part ∷ parts else parts) (lt_true (length parts) 8 h)

abbrev standing : RegisterTypes → ℕ → List Open → Progress
standing ks n parts = record { known = ks; steps = n; parts = parts }

module _ (types : Table) (constants : List Constant) where
  abbrev walk : Progress → List Instruction → Checked Progress
  walk p is = passes_all types constants p is

  abbrev placed : Role → Instruction → Type 0
  placed role i = (row_of i.operation).role ≡ role

  -- ---- an instruction

  past_plain : (i : Instruction) (ks : RegisterTypes) (n : ℕ) (parts : List Open) (rest : List Instruction) → placed Role.Plain i
      → walk (standing ks n parts) (i ∷ rest) ≡ (rule_of types constants i ks >>= λ after. walk (standing after.0 (at_most (n + 1)) parts) rest)
  past_plain i ks n parts rest e =
      ap (λ role. passes_by types constants role (standing ks n parts) i >>= λ q. walk q rest) e
      ∙ ap (λ role. (rule_by types constants role i ks >>= λ after. Ok (standing after.0 (at_most (n + 1)) parts)) >>= λ q. walk q rest) e
      ∙ given (rule_of types constants i ks) (λ after. standing after.0 (at_most (n + 1)) parts) (λ q. walk q rest) (λ after. walk (standing after.0 (at_most (n + 1)) parts) rest) (λ _. refl)

  past_opener : (i : Instruction) (ks : RegisterTypes) (n : ℕ) (parts : List Open) (rest : List Instruction) → placed Role.Opener i → length parts < 8
      → walk (standing ks n parts) (i ∷ rest) ≡ (rule_of types constants i ks >>= λ after. walk (standing after.0 0 (in_success after.1 (at_most (n + 1)) ∷ parts)) rest)
  past_opener i ks n parts rest e room =
      ap (λ role. passes_by types constants role (standing ks n parts) i >>= λ q. walk q rest) e
      ∙ ap (λ role. (rule_by types constants role i ks >>= λ after. Ok (inside after.0 (in_success after.1 (at_most (n + 1))) parts)) >>= λ q. walk q rest) e
      ∙ given (rule_of types constants i ks) (λ after. inside after.0 (in_success after.1 (at_most (n + 1))) parts) (λ q. walk q rest) (λ after. walk (standing after.0 0 (in_success after.1 (at_most (n + 1)) ∷ parts)) rest)
      (λ after. ap (λ now. walk (standing after.0 0 now) rest) (opened (in_success after.1 (at_most (n + 1))) parts room))

  past_loop : (i : Instruction) (ks : RegisterTypes) (n : ℕ) (parts : List Open) (rest : List Instruction) → placed Role.Loop i → length parts < 8
      → walk (standing ks n parts) (i ∷ rest) ≡ (integer_needed (known ks i.b) >>= λ _. walk (standing ks 0 (in_body ks (nat_abs i.number) (at_most (n + 1)) ∷ parts)) rest)
  past_loop i ks n parts rest e room =
      let body = in_body ks (nat_abs i.number) (at_most (n + 1)) in
      let needed = integer_needed (known ks i.b) in
      ap (λ role. passes_by types constants role (standing ks n parts) i >>= λ q. walk q rest) e
      ∙ ap (λ role. (rule_by types constants role i ks >>= λ _. Ok (inside ks body parts)) >>= λ q. walk q rest) e
      ∙ given (needed >>= λ _. known_after ks) (λ _. inside ks body parts) (λ q. walk q rest) (λ _. walk (standing ks 0 (body ∷ parts)) rest) (λ _. ap (λ now. walk (standing ks 0 now) rest) (opened body parts room))
      ∙ sym (followed needed (λ _. known_after ks) (λ _. walk (standing ks 0 (body ∷ parts)) rest) (λ _. walk (standing ks 0 (body ∷ parts)) rest) (λ _. refl))

  past_else : (good bad : RegisterTypes) (k before : ℕ) (parts : List Open) (rest : List Instruction)
      → walk (standing good k (in_success bad before ∷ parts)) (mark Operation.Else ∷ rest) ≡ walk (standing bad 0 (in_else good k before ∷ parts)) rest
  past_else good bad k before parts rest = refl

  after_parts : (good bad : RegisterTypes) (k l before : ℕ) (parts : List Open) (rest : List Instruction)
      → walk (standing bad l (in_else good k before ∷ parts)) (mark Operation.End ∷ rest) ≡ (joined good bad >>= λ both. walk (standing both (at_most (before + max l k)) parts) rest)
  after_parts good bad k l before parts rest =
      given (joined good bad) (λ both. standing both (at_most (before + max l k)) parts) (λ q. walk q rest) (λ both. walk (standing both (at_most (before + max l k)) parts) rest) (λ _. refl)

  after_body : (ks after : RegisterTypes) (turns l before : ℕ) (parts : List Open) (rest : List Instruction)
      → walk (standing after l (in_body ks turns before ∷ parts)) (mark Operation.End ∷ rest) ≡ (kept ks after >>= λ _. walk (standing ks (at_most (before + at_most (turns * at_most (l + 1)))) parts) rest)
  after_body ks after turns l before parts rest =
      let steps = at_most (before + at_most (turns * at_most (l + 1))) in
      given (kept ks after) (λ _. standing ks steps parts) (λ q. walk q rest) (λ _. walk (standing ks steps parts) rest) (λ _. refl)

  -- ---- code

  abbrev Rules : Type 0
  Rules = RegisterTypes → Checked RegisterTypes

  -- after these instructions, from any place with room for this many parts: what the rules give,
  -- and the steps
  abbrev Walks : List Instruction → Rules → (steps deep : ℕ) → Type 0
  Walks is rules steps deep =
      (ks : RegisterTypes) (n : ℕ) (parts : List Open) (rest : List Instruction) → length parts + deep ≤ 8 → n ≤ 2 ^ 64 - 1
      → walk (standing ks n parts) (is ++ rest) ≡ (rules ks >>= λ after. walk (standing after (at_most (n + steps)) parts) rest)

  walks_nothing : Walks [] (λ ks. Ok ks) 0 0
  walks_nothing ks n parts rest room few = ap (λ m. walk (standing ks m parts) rest) (no_steps n few)

  walks_on : (xs ys : List Instruction) (f g : Rules) (a b d e : ℕ) → Walks xs f a d → Walks ys g b e → Walks (xs ++ ys) (λ ks. f ks >>= g) (a + b) (max d e)
  walks_on xs ys f g a b d e first second ks n parts rest room few =
      ap (walk (standing ks n parts)) (append_assoc xs ys rest) ∙ first ks n parts (ys ++ rest) (omega arith) few
      ∙ followed (f ks) g (λ mid. walk (standing mid (at_most (n + a)) parts) (ys ++ rest)) (λ after. walk (standing after (at_most (n + (a + b))) parts) rest)
      (λ mid. second mid (at_most (n + a)) parts rest (omega arith) (omega arith) ∙ ap (λ m. g mid >>= λ after. walk (standing after m parts) rest) (more_steps n a b))

  walks_plain : (i : Instruction) → placed Role.Plain i → Walks (i ∷ []) (λ ks. rule_of types constants i ks >>= λ p. Ok p.0) 1 0
  walks_plain i e ks n parts rest room few =
      let to = λ (after : RegisterTypes). walk (standing after (at_most (n + 1)) parts) rest in
      past_plain i ks n parts rest e ∙ followed (rule_of types constants i ks) (λ p. Ok p.0) (λ p. to p.0) to (λ _. refl)

  walks_opener : (i : Instruction) (xs ys : List Instruction) (f g : Rules) (a b d e : ℕ) → placed Role.Opener i → Walks xs f a d → Walks ys g b e
      → Walks ((i ∷ xs ++ mark Operation.Else ∷ ys) ++ mark Operation.End ∷ []) (λ ks. rule_of types constants i ks >>= λ p. f p.0 >>= λ good. g p.1 >>= λ bad. joined good bad) (1 + max a b) (1 + max d e)
  walks_opener i xs ys f g a b d e place on_success on_code ks n parts rest room few =
      let before = at_most (n + 1) in
      let k = at_most (0 + a) in
      let l = at_most (0 + b) in
      let free : length parts < 8 = omega arith in
      let code = ys ++ mark Operation.End ∷ rest in
      let to = λ (both : RegisterTypes). walk (standing both (at_most (n + (1 + max a b))) parts) rest in
      let parts_end = λ (good bad : RegisterTypes). after_parts good bad k l before parts rest
      ∙ alike (joined good bad) (λ both. walk (standing both (at_most (before + max l k)) parts) rest) to (λ both. ap (λ m. walk (standing both m parts) rest) (steps_of_parts n a b)) in
      let in_code = λ (good otherwise : RegisterTypes). past_else good otherwise k before parts code
      ∙ on_code otherwise 0 (in_else good k before ∷ parts) (mark Operation.End ∷ rest) (omega arith) (omega arith)
      ∙ followed (g otherwise) (λ bad. joined good bad) (λ bad. walk (standing bad l (in_else good k before ∷ parts)) (mark Operation.End ∷ rest)) to (λ bad. parts_end good bad) in
      ap (walk (standing ks n parts)) (two_parts (i ∷ xs) ys rest (mark Operation.Else) (mark Operation.End))
      ∙ past_opener i ks n parts (xs ++ mark Operation.Else ∷ code) place free
      ∙ followed (rule_of types constants i ks) (λ p. f p.0 >>= λ good. g p.1 >>= λ bad. joined good bad) (λ p. walk (standing p.0 0 (in_success p.1 before ∷ parts)) (xs ++ mark Operation.Else ∷ code)) to
      (λ p. on_success p.0 0 (in_success p.1 before ∷ parts) (mark Operation.Else ∷ code) (omega arith) (omega arith)
      ∙ followed (f p.0) (λ good. g p.1 >>= λ bad. joined good bad) (λ good. walk (standing good k (in_success p.1 before ∷ parts)) (mark Operation.Else ∷ code)) to (λ good. in_code good p.1))

  walks_loop : (i : Instruction) (xs : List Instruction) (f : Rules) (a d : ℕ) → placed Role.Loop i → Walks xs f a d
      → Walks (i ∷ xs ++ mark Operation.End ∷ []) (λ ks. integer_needed (known ks i.b) >>= λ _. f ks >>= λ after. kept ks after >>= λ _. Ok ks) (1 + nat_abs i.number * (1 + a)) (1 + d)
  walks_loop i xs f a d place in_turn ks n parts rest room few =
      let before = at_most (n + 1) in
      let turns = nat_abs i.number in
      let l = at_most (0 + a) in
      let free : length parts < 8 = omega arith in
      let body = in_body ks turns before in
      let to = λ (after : RegisterTypes). walk (standing after (at_most (n + (1 + turns * (1 + a)))) parts) rest in
      let body_ends = λ (after : RegisterTypes). after_body ks after turns l before parts rest
      ∙ followed (kept ks after) (λ _. Ok ks) (λ _. walk (standing ks (at_most (before + at_most (turns * at_most (l + 1)))) parts) rest) to (λ _. ap (λ m. walk (standing ks m parts) rest) (steps_of_turns n turns a)) in
      ap (walk (standing ks n parts)) (one_part (i ∷ xs) rest (mark Operation.End))
      ∙ past_loop i ks n parts (xs ++ mark Operation.End ∷ rest) place free
      ∙ followed (integer_needed (known ks i.b)) (λ _. f ks >>= λ after. kept ks after >>= λ _. Ok ks) (λ _. walk (standing ks 0 (body ∷ parts)) (xs ++ mark Operation.End ∷ rest)) to
      (λ _. in_turn ks 0 (body ∷ parts) (mark Operation.End ∷ rest) (omega arith) (omega arith)
      ∙ followed (f ks) (λ after. kept ks after >>= λ _. Ok ks) (λ after. walk (standing after l (body ∷ parts)) (mark Operation.End ∷ rest)) to body_ends)

  mutual
    unfolding IsCode listing depth types_by types_by_one

    pub walked : (cs : Statements) → IsCode types constants cs → Walks (listing cs) (types_after types constants cs) (bound cs) (depth cs)
    walked no_more h = walks_nothing
    walked (next c cs) h =
        walks_on (listing_one c) (listing cs) (types_after_one types constants c) (types_after types constants cs) (bound_one c) (bound cs) (depth_one c) (depth cs) (walked_one c h.0) (walked cs h.1)

    walked_one : (c : Statement) → IsStatement types constants c → Walks (listing_one c) (types_after_one types constants c) (bound_one c) (depth_one c)
    walked_one (plain i) h = walks_plain i h.role
    walked_one (opener i s c) h =
        walks_opener i (listing s) (listing c) (types_after types constants s) (types_after types constants c) (bound s) (bound c) (depth s) (depth c) h.0.role (walked s h.1) (walked c h.2)
    walked_one (loop i s) h = walks_loop i (listing s) (types_after types constants s) (bound s) (depth s) h.0.role (walked s h.1)
