-- Code that no one sees: an instruction that gives a register a term, and the lookup of an object's number.
use Rattle.std.proofs.Common.{◌≡◌, ◌≢◌, ◌<◌, ℕ, zero, suc, ◌+◌, ℤ, pos, List, [], ◌∷◌, ◌++◌, drop, length, Bool, true, false, Option, Some, None, slice_get, slice_set, ◌⊎◌, inl, inr, refl, sym, ◌∙◌, ap, subst}
use Rattle.std.proofs.Common.{arith, length-append, add-one}
use Rattle.std.specs.Prelude.{◌==◌, if◌then◌else◌, slice_index_or}
use Rattle.std.specs.Option.{option_map_or}
use Rattle.std.proofs.lemmas.Bool.{lt-ltb}
use Rattle.std.proofs.lemmas.Option.{some_pair_parts}
use Rattle.client_spec.specs.Value.{Value, Values, nil, cons, nth, count}
use Rattle.client_spec.specs.Syntax.{Constant, Instruction, plain, opener, Statements, no_more, next}
use Rattle.client_spec.specs.Syntax as syntax
use Rattle.client_spec.specs.declared.table.Operation.TheVariants as operation
use Rattle.client_spec.specs.declared.table.Role.{Role}
use Rattle.client_spec.specs.Operations.{row_of}
use Rattle.client_spec.specs.Machine.{◌>>=◌, Register, State, Origin, Path, Object, register, set_register, owned_by, path_value}
use Rattle.client_spec.specs.Answer.{Answer, Outcome, success, bad_alloc, absent, other_type, out_of_range, answer, give, fail, refer}
use Rattle.client_spec.specs.Answer.{int_in, path_of, path_in, path_from, index_below, constant_name, constant_operand, type_operand, answer_number}
use Rattle.client_spec.specs.Effect.{effect, outcome, item_of_object}
use Rattle.client_spec.specs.Grammar.{mark, listing}
use Rattle.client_spec.specs.Run.{Ending, finished, stopped, stuck, Way, Run, Nothing, Then, Performs, picked}
use Rattle.client_spec.specs.Plain.{CutShort, plain_machine}
use Rattle.script_meaning.specs.declared.comparison.Comparison.{Comparison}
use Rattle.script_meaning.specs.declared.knowledge.Knowledge.{Knowledge}
use Rattle.script_meaning.specs.declared.terms.Term.{Term}
use Rattle.script_meaning.specs.Meaning.{Moment, Setting, world_of, Stays, number_in, number_of, name_of, or_else}
use Rattle.script_meaning.specs.Following.{Tie, Registers, Knows, HasValue, Extends}
use Rattle.script_meaning.specs.Comparing.{setting_of, code_of, texts_of, knowing, Follows, IsAt, IsAbout, GivesTerm}
use Rattle.script_meaning.proofs.SequenceLaws.{one_code}
use Rattle.script_meaning.proofs.TermLaws.{extends_keeps}

-- ---- registers

length_set : {A : Type 0} (xs : List A) (i : ℕ) (x : A) → length (slice_set xs i x) ≡ length xs
length_set [] i x = refl
length_set (a ∷ xs) zero x = refl
length_set (a ∷ xs) (suc i) x = ap suc (length_set xs i x)

-- what a list has after one of its items was set
get_set : {A : Type 0} (xs : List A) (i j : ℕ) (x y : A) → slice_get (slice_set xs i x) j ≡ Some y → ((i ≡ j) × (x ≡ y) × (i < length xs)) ⊎ ((i ≢ j) × (slice_get xs j ≡ Some y))
get_set [] i j x y e = absurd (let f : None ≡ Some y = e in cc)
get_set (a ∷ xs) zero zero x y e = inl (refl, (let f : Some x ≡ Some y = e in cc), omega arith)
get_set (a ∷ xs) zero (suc j) x y e = inr ((λ f. omega (arith, f)), e)
get_set (a ∷ xs) (suc i) zero x y e = inr ((λ f. omega (arith, f)), e)
get_set (a ∷ xs) (suc i) (suc j) x y e =
    elim (get_set xs i j x y e) [ inl p ↦ inl (ap suc p.0, p.1, omega (arith, p.2)) | inr p ↦ inr ((λ f. p.0 (omega (arith, f))), p.1) ]

at_set : {A : Type 0} (xs : List A) (i : ℕ) (x d : A) → i < length xs → slice_index_or (slice_set xs i x) i d ≡ x
at_set [] i x d h = absurd (omega arith)
at_set (a ∷ xs) zero x d h = refl
at_set (a ∷ xs) (suc i) x d h = at_set xs i x d (omega arith)

other_set : {A : Type 0} (xs : List A) (i j : ℕ) (x d : A) → i ≢ j → slice_index_or (slice_set xs i x) j d ≡ slice_index_or xs j d
other_set [] i j x d h = refl
other_set (a ∷ xs) zero zero x d h = absurd (h refl)
other_set (a ∷ xs) zero (suc j) x d h = refl
other_set (a ∷ xs) (suc i) zero x d h = refl
other_set (a ∷ xs) (suc i) (suc j) x d h = other_set xs i j x d (λ e. h (ap suc e))

other_get : {A : Type 0} (xs : List A) (i j : ℕ) (x : A) → i ≢ j → slice_get (slice_set xs i x) j ≡ slice_get xs j
other_get [] i j x h = refl
other_get (a ∷ xs) zero zero x h = absurd (h refl)
other_get (a ∷ xs) zero (suc j) x h = refl
other_get (a ∷ xs) (suc i) zero x h = refl
other_get (a ∷ xs) (suc i) (suc j) x h = other_get xs i j x (λ e. h (ap suc e))

-- ---- knowledge

pub knows_more : (setting : Setting) (old new : List Term) (registers : Registers) (m : Moment) (s : State) → Extends old new → Knows setting old registers m s → Knows setting new registers m s
knows_more setting old new registers m s more known = record {
  count = known.count;
  world = known.world;
  each = λ r at e. let h = known.each r at e in (h.0, extends_keeps setting m old new at h.0 more h.1, h.2);
}

-- a register gets something that isn't known
knows_less : (setting : Setting) (terms : List Term) (registers : Registers) (m : Moment) (s : State) (a : ℕ) (x : Register)
    → Knows setting terms registers m s → Knows setting terms (slice_set registers a None) m (set_register s a x)
knows_less setting terms registers m s a x known = record {
  count = length_set s.registers a x ∙ known.count;
  world = known.world;
  each = λ r at e. elim (get_set registers a r None (Some at) e) [
    | inl p ↦ absurd (let f = p.1 in cc)
    | inr p ↦ let h = known.each r at p.1 in (h.0, h.1, other_set s.registers a r x Register.Undefined p.0 ∙ h.2)
  ];
}

-- a register gets the number of a term
knows_term : (setting : Setting) (old new : List Term) (registers : Registers) (m : Moment) (s : State) (a t : ℕ) (k : ℤ)
    → length registers ≡ 16 → Extends old new → HasValue setting m new t k → Knows setting old registers m s
    → Knows setting new (slice_set registers a (Some t)) m (set_register s a (Register.Int k))
knows_term setting old new registers m s a t k sixteen more has known = record {
  count = length_set s.registers a (Register.Int k) ∙ known.count;
  world = known.world;
  each = λ r at e. elim (get_set registers a r (Some t) (Some at) e) [
    | inl p ↦ by r at p.0 p.1 p.2
    | inr p ↦ let h = known.each r at p.1 in
        (h.0, extends_keeps setting m old new at h.0 more h.1, other_set s.registers a r (Register.Int k) Register.Undefined p.0 ∙ h.2)
  ];
}
  where
    by : (r at : ℕ) → a ≡ r → Some t ≡ Some at → a < length registers → (k' : ℤ) × HasValue setting m new at k' × (register (set_register s a (Register.Int k)) r ≡ Register.Int k')
    by r at e f h =
        let g : t ≡ at = cc in
        let l : a < length s.registers = omega (arith, known.count, sixteen) in (
          k,
          subst (λ z. HasValue setting m new z k) g has,
          subst (λ z. register (set_register s a (Register.Int k)) z ≡ Register.Int k) e (at_set s.registers a (Register.Int k) Register.Undefined l),
        )

-- a register has the number of a term already
knows_same : (setting : Setting) (old new : List Term) (registers : Registers) (m : Moment) (s : State) (a default t : ℕ)
    → slice_get registers a ≡ Some (Some default) → Extends old new → ((d : ℤ) → HasValue setting m old default d → HasValue setting m new t d)
    → Knows setting old registers m s → Knows setting new (slice_set registers a (Some t)) m s
knows_same setting old new registers m s a default t there more same known = record {
  count = known.count;
  world = known.world;
  each = λ r at e. elim (get_set registers a r (Some t) (Some at) e) [
    | inl p ↦ by r at p.0 p.1
    | inr p ↦ let h = known.each r at p.1 in (h.0, extends_keeps setting m old new at h.0 more h.1, h.2)
  ];
}
  where
    by : (r at : ℕ) → a ≡ r → Some t ≡ Some at → (k : ℤ) × HasValue setting m new at k × (register s r ≡ Register.Int k)
    by r at e f =
        let g : t ≡ at = cc in
        let h = known.each a default there in
        (h.0, subst (λ z. HasValue setting m new z h.0) g (same h.0 h.1), subst (λ z. register s z ≡ Register.Int h.0) e h.2)

-- ---- rows

-- an answer determines the next state
answered : (code : Answer) (a : ℕ) (x : Register) (s : State) (code' : Answer) (s' : State) → answer code a x s ≡ Some (code', s') → (code' ≡ code) × (s' ≡ set_register s a x)
answered code a x s code' s' e = by (owned_by (register s a)) e
  where
    by : (o : Option (Value × ℕ)) → option_map_or {U = Outcome} (λ _. None) o (Some (code, set_register s a x)) ≡ Some (code', s') → (code' ≡ code) × (s' ≡ set_register s a x)
    by None e = let h = some_pair_parts _ _ _ _ e in (sym h.0, sym h.1)
    by (Some w) e = absurd (let f : None ≡ Some (code', s') = e in cc)

-- code that leaves the output as it is doesn't stop
not_cut : (s : State) (output front lost : List ℕ) → output ≡ s.output → output ≡ s.output ++ (front ++ lost) → 0 < length lost → ⊥
not_cut s output front lost same more proper =
    omega (arith, ap length same, ap length more, length-append s.output (front ++ lost), length-append front lost)

gives_stop : (constants : List Constant) (i : Instruction) (s s' : State) (k : ℤ) → ((room : Bool) → outcome constants i room s ≡ give i.a (Register.Int k) s)
    → CutShort constants i s s' → ⊥
gives_stop constants i s s' k given cut =
    let h = answered success i.a (Register.Int k) s success cut.whole (sym (given cut.room) ∙ cut.written) in
    not_cut s cut.whole.output cut.front cut.lost (ap (λ z. z.output) h.1) cut.bytes cut.proper

module _ (c : Comparison) (old mid : Knowledge) (i : Instruction) (at t : ℕ) where
  abbrev after : Tie
  after = Knows (setting_of c) mid.terms.list.items (slice_set old.registers i.a (Some t))

  -- an instruction that gives a register a term
  pub gives_code : IsAt c at i → (row_of i.operation).role ≡ Role.Plain → GivesTerm old mid i t → length old.registers ≡ 16
      → Extends old.terms.list.items mid.terms.list.items → Follows c at (suc at) (knowing c old) Stays after
  gives_code there role gives sixteen more = one_code (texts_of c) (code_of c) at i (knowing c old) after Stays there (record { role = role; row = row; stop = stop })
    where
      does : (m : Moment) (s s' : State) (code : Answer) (room : Bool) → knowing c old m s → outcome (texts_of c) i room s ≡ Some (code, s') → (code ≡ success) × after m s'
      does m s s' code room known e =
          let g = gives (setting_of c) m s known in
          let h = answered success i.a (Register.Int g.0) s code s' (sym (g.2 (texts_of c) room) ∙ e) in (
            h.0,
            subst (after m) (sym h.1)
                (knows_term (setting_of c) old.terms.list.items mid.terms.list.items old.registers m s i.a t g.0 sixteen more g.1 known),
          )

      row : (m : Moment) (s s' : State) (code : Answer) → knowing c old m s → (plain_machine (texts_of c)).row i s code s'
          → (m' : Moment) × Stays m m' finished × (m'.world ≡ world_of s') × after m' s'
      row m s s' code known (inl w) = let h = (does m s s' code w.0 known w.1).1 in (m, (refl, refl), sym h.world, h)
      row m s s' code known (inr w) = absurd (let h = (does m s w.refused bad_alloc false known w.row).0 in cc)

      stop : (m : Moment) (s s' : State) → knowing c old m s → (plain_machine (texts_of c)).stop i s s' → (m' : Moment) × Stays m m' stopped × (m'.world ≡ world_of s')
      stop m s s' known cut = let g = gives (setting_of c) m s known in absurd (gives_stop (texts_of c) i s s' g.0 (g.2 (texts_of c)) cut)

-- one step of hidden code
pub step_code : (c : Comparison) (old mid new : Knowledge) (i : Instruction) (at end t : ℕ) → IsAt c at i → (row_of i.operation).role ≡ Role.Plain → GivesTerm old mid i t
    → length old.registers ≡ 16 → Extends old.terms.list.items mid.terms.list.items → mid.registers ≡ old.registers
    → new.registers ≡ slice_set mid.registers i.a (Some t) → new.terms ≡ mid.terms → end ≡ at + 1 → Follows c at end (knowing c old) Stays (knowing c new)
step_code c old mid new i at end t there role gives sixteen more kept set same ends =
    subst (λ z. Follows c at z (knowing c old) Stays (knowing c new)) (sym (ends ∙ add-one at))
    (subst (λ z. Follows c at (suc at) (knowing c old) Stays (Knows (setting_of c) z new.registers)) (ap (λ w. w.list.items) (sym same))
    (subst (λ z. Follows c at (suc at) (knowing c old) Stays (Knows (setting_of c) mid.terms.list.items z)) (sym (set ∙ ap (λ w. slice_set w i.a (Some t)) kept))
    (gives_code c old mid i at t there role gives sixteen more)))

-- ---- FORGET

-- FORGET leaves nothing in register b
forget_effect : (constants : List Constant) (a b c : ℕ) (number : ℤ) (room : Bool) (s : State) → effect constants operation.Forget a b c number room s ≡ answer success b Register.Undefined s
unfolding effect
forget_effect constants a b c number room s = refl

module _ (c : Comparison) (old : Knowledge) (i : Instruction) (at : ℕ) where
  abbrev forgotten : Tie
  forgotten = Knows (setting_of c) old.terms.list.items (slice_set old.registers i.b None)

  forget_follows : IsAt c at i → i.operation ≡ operation.Forget → Follows c at (suc at) (knowing c old) Stays forgotten
  forget_follows there forgets = one_code (texts_of c) (code_of c) at i (knowing c old) forgotten Stays there (record { role = ap (λ op. (row_of op).role) forgets; row = row; stop = stop })
    where
      does : (m : Moment) (s s' : State) (code : Answer) (room : Bool) → knowing c old m s → outcome (texts_of c) i room s ≡ Some (code, s')
          → (code ≡ success) × forgotten m s' × (s'.output ≡ s.output)
      does m s s' code room known e =
          let forgot = ap (λ op. effect (texts_of c) op i.a i.b i.c i.number room s) forgets ∙ forget_effect (texts_of c) i.a i.b i.c i.number room s in
          let h = answered success i.b Register.Undefined s code s' (sym forgot ∙ e) in (
            h.0,
            subst (forgotten m) (sym h.1) (knows_less (setting_of c) old.terms.list.items old.registers m s i.b Register.Undefined known),
            ap (λ z. z.output) h.1,
          )

      row : (m : Moment) (s s' : State) (code : Answer) → knowing c old m s → (plain_machine (texts_of c)).row i s code s'
          → (m' : Moment) × Stays m m' finished × (m'.world ≡ world_of s') × forgotten m' s'
      row m s s' code known (inl w) = let h = (does m s s' code w.0 known w.1).1 in (m, (refl, refl), sym h.world, h)
      row m s s' code known (inr w) = absurd (let h = (does m s w.refused bad_alloc false known w.row).0 in cc)

      stop : (m : Moment) (s s' : State) → knowing c old m s → (plain_machine (texts_of c)).stop i s s' → (m' : Moment) × Stays m m' stopped × (m'.world ≡ world_of s')
      stop m s s' known cut = absurd (not_cut s cut.whole.output cut.front cut.lost (does m s cut.whole success cut.room known cut.written).2 cut.bytes cut.proper)

-- one FORGET
pub forget_code : (c : Comparison) (old new : Knowledge) (i : Instruction) (at end : ℕ) → IsAt c at i → i.operation ≡ operation.Forget
    → new.registers ≡ slice_set old.registers i.b None → new.terms ≡ old.terms → end ≡ at + 1 → Follows c at end (knowing c old) Stays (knowing c new)
forget_code c old new i at end there forgets set same ends =
    subst (λ z. Follows c at z (knowing c old) Stays (knowing c new)) (sym (ends ∙ add-one at))
    (subst (λ z. Follows c at (suc at) (knowing c old) Stays (Knows (setting_of c) z new.registers)) (ap (λ w. w.list.items) (sym same))
    (subst (λ z. Follows c at (suc at) (knowing c old) Stays (Knows (setting_of c) old.terms.list.items z)) (sym set)
    (forget_follows c old i at there forgets)))

-- ---- the lookup of an object's number

-- the row of FIND, about item 0 of a name
find_effect : (constants : List Constant) (a b : ℕ) (number : ℤ) (room : Bool) (s : State) (name : List ℕ) → slice_get constants (constant_operand number) ≡ Some (syntax.Constant.Name name)
    → effect constants operation.Find a b 16 number room s ≡ item_of_object a name (type_operand number) (pos 0) (s.names name) s
unfolding effect
find_effect constants a b number room s name e = ap (λ z. (z >>= λ k. constant_name k (register s b)) >>= λ n. item_of_object a n (type_operand number) (pos 0) (s.names n) s) e

find_outcome : (constants : List Constant) (find : Instruction) (room : Bool) (s : State) (name : List ℕ) (int : ℕ) → find.operation ≡ operation.Find → find.c ≡ 16
    → type_operand find.number ≡ int → slice_get constants (constant_operand find.number) ≡ Some (syntax.Constant.Name name)
    → outcome constants find room s ≡ item_of_object find.a name int (pos 0) (s.names name) s
find_outcome constants find room s name int finds first type e =
    ap (λ op. effect constants op find.a find.b find.c find.number room s) finds
    ∙ ap (λ z. effect constants operation.Find find.a find.b z find.number room s) first
    ∙ find_effect constants find.a find.b find.number room s name e
    ∙ ap (λ z. item_of_object find.a name z (pos 0) (s.names name) s) type

-- the path to item 0 of a name
abbrev place_of : List ℕ → Path
place_of name = path_from (Origin.Name name 0)

-- the object was found, or there is no number
record IsSeen (int : ℕ) (name : List ℕ) (a : ℕ) (object : Option Object) (s s' : State) : Type 0 where
  found : Object
  there : object ≡ Some found
  typed : (found.type == int) ≡ true
  state : s' ≡ set_register s a (Register.Reference (place_of name))

record IsMissing (int : ℕ) (a : ℕ) (object : Option Object) (s s' : State) : Type 0 where
  none : number_in int object ≡ None
  code : ℤ
  state : s' ≡ set_register s a (Register.Int code)

abbrev Finding : ℕ → List ℕ → ℕ → Option Object → State → Answer → State → Type 0
Finding int name a object s code s' = ((code ≡ success) × IsSeen int name a object s s') ⊎ ((code ≢ success) × IsMissing int a object s s')

failed : (int : ℕ) (name : List ℕ) (a : ℕ) (object : Option Object) (s : State) (why code : Answer) (s' : State) → why ≢ success → number_in int object ≡ None
    → fail a why s ≡ Some (code, s') → Finding int name a object s code s'
failed int name a object s why code s' differs none e =
    let h = answered why a (Register.Int (pos (answer_number why))) s code s' e in
    inr ((λ f. differs (sym h.0 ∙ f)), record { none = none; code = pos (answer_number why); state = h.1 })

finding : (int : ℕ) (name : List ℕ) (a : ℕ) (object : Option Object) (s : State) (code : Answer) (s' : State)
    → item_of_object a name int (pos 0) object s ≡ Some (code, s') → Finding int name a object s code s'
finding int name a None s code s' e = failed int name a None s absent code s' (λ f. cc) refl e
finding int name a (Some o) s code s' e = by (o.type == int) refl o.values refl e
  where
    by : (same : Bool) → (o.type == int) ≡ same → (values : Values) → o.values ≡ values
        → (if same then option_map_or {U = Outcome} (λ i. refer a (path_from (Origin.Name name i)) s) (index_below (count values) (pos 0)) (fail a out_of_range s) else fail a other_type s) ≡ Some (code, s')
        → Finding int name a (Some o) s code s'
    by false f values g e = failed int name a (Some o) s other_type code s' (λ h. cc) (ap (λ z. if z then nth o.values 0 >>= int_in else None) f) e
    by true f nil g e =
        failed int name a (Some o) s out_of_range code s' (λ h. cc) (ap (λ z. if z then nth o.values 0 >>= int_in else None) f ∙ ap (λ z. nth z 0 >>= int_in) g) e
    by true f (cons v vs) g e =
        let within = ap (λ z. option_map_or {U = Outcome} (λ i. refer a (path_from (Origin.Name name i)) s) (if z then Some 0 else None) (fail a out_of_range s)) (lt-ltb 0 (suc (count vs)) (omega arith)) in
        let h = answered success a (Register.Reference (place_of name)) s code s' (sym within ∙ e) in
        inl (h.0, record { found = o; there = refl; typed = f; state = h.1 })

-- the row of LOAD, which reads item 0 of a name
load_effect : (constants : List Constant) (load : Instruction) (room : Bool) (s : State) → load.operation ≡ operation.Load
    → outcome constants load room s ≡ (path_of s load.b >>= λ p. (path_value s p >>= int_in) >>= λ k. give load.a (Register.Int k) s)
unfolding effect
load_effect constants load room s loads = ap (λ op. effect constants op load.a load.b load.c load.number room s) loads

loaded : (constants : List Constant) (load : Instruction) (room : Bool) (s : State) (p : Path) (code : Answer) (s' : State) → load.operation ≡ operation.Load
    → (register s load.b ≡ Register.Reference p) ⊎ (register s load.b ≡ Register.Undefined) → outcome constants load room s ≡ Some (code, s')
    → (k : ℤ) × ((path_value s p >>= int_in) ≡ Some k) × (code ≡ success) × (s' ≡ set_register s load.a (Register.Int k))
loaded constants load room s p code s' loads there e = by there
  where
    whole : (path_of s load.b >>= λ q. (path_value s q >>= int_in) >>= λ k. give load.a (Register.Int k) s) ≡ Some (code, s')
    whole = sym (load_effect constants load room s loads) ∙ e

    read : (found : Option ℤ) → (path_value s p >>= int_in) ≡ found → (found >>= λ k. give load.a (Register.Int k) s) ≡ Some (code, s')
        → (k : ℤ) × ((path_value s p >>= int_in) ≡ Some k) × (code ≡ success) × (s' ≡ set_register s load.a (Register.Int k))
    read None f g = absurd (let h : None ≡ Some (code, s') = g in cc)
    read (Some k) f g = let h = answered success load.a (Register.Int k) s code s' g in (k, f, h.0, h.1)

    by : (register s load.b ≡ Register.Reference p) ⊎ (register s load.b ≡ Register.Undefined)
        → (k : ℤ) × ((path_value s p >>= int_in) ≡ Some k) × (code ≡ success) × (s' ≡ set_register s load.a (Register.Int k))
    by (inl f) = read (path_value s p >>= int_in) refl (sym (ap (λ z. path_in z >>= λ q. (path_value s q >>= int_in) >>= λ k. give load.a (Register.Int k) s) f) ∙ whole)
    by (inr f) = absurd (let h : None ≡ Some (code, s') = sym (ap (λ z. path_in z >>= λ q. (path_value s q >>= int_in) >>= λ k. give load.a (Register.Int k) s) f) ∙ whole in cc)

abbrev typed_by : ℕ → Value → Option (Value × ℕ)
typed_by t v = Some (v, t)

abbrev item_in : Object → Option (Value × ℕ)
item_in o = nth o.values 0 >>= typed_by o.type

-- what LOAD reads there is the object's number
read_number : (int : ℕ) (s : State) (name : List ℕ) (o : Object) → s.names name ≡ Some o → (o.type == int) ≡ true → (path_value s (place_of name) >>= int_in) ≡ number_in int (s.names name)
read_number int s name o there typed =
    ap (λ z. ((z >>= item_in) >>= λ found. Some found.0) >>= int_in) there
    ∙ item (nth o.values 0)
    ∙ sym (ap (λ z. if z then nth o.values 0 >>= int_in else None) typed)
    ∙ sym (ap (number_in int) there)
  where
    item : (found : Option Value) → (((found >>= typed_by o.type) >>= λ w. Some w.0) >>= int_in) ≡ (found >>= int_in)
    item None = refl
    item (Some v) = refl

-- ---- ways that change nothing but registers

-- from P each run of the way gets stuck, or finishes at the same moment with Q
record Hides (P : Tie) (way : Way State) (Q : Tie) : Type 0 where
  each : (m : Moment) (s s' : State) (n : ℕ) (end : Ending) → P m s → way s s' n end → (end ≡ stuck) ⊎ ((end ≡ finished) × Q m s')

hides_nothing : (P Q : Tie) → ((m : Moment) (s : State) → P m s → Q m s) → Hides P (Nothing State) Q
hides_nothing P Q more = record { each = λ m s s' n end p w. inr (w.ends, subst (Q m) (sym w.same) (more m s p)) }

hides_weaker : (P P' Q : Tie) (way : Way State) → ((m : Moment) (s : State) → P' m s → P m s) → Hides P way Q → Hides P' way Q
hides_weaker P P' Q way more h = record { each = λ m s s' n end p w. h.each m s s' n end (more m s p) w }

hides_then : (P Q R : Tie) (first second : Way State) → Hides P first Q → Hides Q second R → Hides P (Then State first second) R
hides_then P Q R first second f g = record { each = by }
  where
    by : (m : Moment) (s s' : State) (n : ℕ) (end : Ending) → P m s → Then State first second s s' n end → (end ≡ stuck) ⊎ ((end ≡ finished) × R m s')
    by m s s' n end p (inl w) = elim (f.each m s w.0 w.1 finished p w.3) [ inl e ↦ absurd (let h : finished ≡ stuck = e in cc) | inr q ↦ g.each m w.0 s' w.2 end q.1 w.4 ]
    by m s s' n end p (inr w) = elim (f.each m s s' n end p w.0) [ inl e ↦ inl e | inr q ↦ absurd (w.1 q.0) ]

hides_picked : (P : Answer → Tie) (Q : Tie) (good bad : Way State) → Hides (P success) good Q → ((code : Answer) → code ≢ success → Hides (P code) bad Q)
    → (code : Answer) → Hides (P code) (picked code good bad) Q
hides_picked P Q good bad f g success = f
hides_picked P Q good bad f g code = g code (λ e. cc)

-- an instruction, and then the part for its answer
hides_performs : (constants : List Constant) (i : Instruction) (P : Tie) (after : Answer → Tie) (Q : Tie) (good bad : Way State)
    → ((m : Moment) (s mid : State) (code : Answer) → P m s → (plain_machine constants).row i s code mid → after code m mid)
    → ((m : Moment) (s s' : State) → P m s → CutShort constants i s s' → ⊥)
    → Hides (after success) good Q → ((code : Answer) → code ≢ success → Hides (after code) bad Q) → Hides P (Performs State (plain_machine constants) i good bad) Q
hides_performs constants i P after Q good bad row stop f g = record { each = by }
  where
    by : (m : Moment) (s s' : State) (n : ℕ) (end : Ending) → P m s → Performs State (plain_machine constants) i good bad s s' n end → (end ≡ stuck) ⊎ ((end ≡ finished) × Q m s')
    by m s s' n end p (inl w) = (hides_picked after Q good bad f g w.0).each m w.1 s' w.2 end (row m s w.1 w.0 p w.3) w.4
    by m s s' n end p (inr (inl w)) = absurd (stop m s s' p w.0)
    by m s s' n end p (inr (inr w)) = inl w.3

-- ---- FIND, LOAD, ELSE, END

set_or_past : {A : Type 0} (xs : List A) (i : ℕ) (x d : A) → (slice_index_or (slice_set xs i x) i d ≡ x) ⊎ (slice_index_or (slice_set xs i x) i d ≡ d)
set_or_past [] i x d = inr refl
set_or_past (a ∷ xs) zero x d = inl refl
set_or_past (a ∷ xs) (suc i) x d = set_or_past xs i x d

drop_at : {A : Type 0} (xs : List A) (at : ℕ) (x : A) → slice_get xs at ≡ Some x → drop at xs ≡ x ∷ drop (suc at) xs
drop_at [] at x e = absurd (let f : None ≡ Some x = e in cc)
drop_at (a ∷ xs) zero x e = ap (λ z. z ∷ xs) (let f : Some a ≡ Some x = e in cc)
drop_at (a ∷ xs) (suc at) x e = drop_at xs at x e

abbrev lookup_tree : Instruction → Instruction → Statements
lookup_tree find load = next (opener find (next (plain load) no_more) no_more) no_more

lookup_listing : (L : List Instruction) (find load : Instruction) (at : ℕ) → slice_get L at ≡ Some find → slice_get L (suc at) ≡ Some load
    → slice_get L (suc (suc at)) ≡ Some (mark operation.Else) → slice_get L (suc (suc (suc at))) ≡ Some (mark operation.End)
    → drop at L ≡ listing (lookup_tree find load) ++ drop (suc (suc (suc (suc at)))) L
unfolding listing
lookup_listing L find load at one two three four =
    drop_at L at find one ∙ ap (λ z. find ∷ z) (drop_at L (suc at) load two ∙ ap (λ z. load ∷ z) (drop_at L (suc (suc at)) (mark operation.Else) three
    ∙ ap (λ z. mark operation.Else ∷ z) (drop_at L (suc (suc (suc at))) (mark operation.End) four)))

module _ (c : Comparison) (old : Knowledge) (terms : List Term) (find load : Instruction) (x default t : ℕ) where
  -- what is known once FIND has changed its register
  abbrev between : Registers
  between = slice_set old.registers find.a None

  abbrev found_name : List ℕ
  found_name = name_of (setting_of c) x

  abbrev finally : Tie
  finally = Knows (setting_of c) terms (slice_set between load.a (Some t))

  record Seen (m : Moment) (s : State) : Type 0 where
    knows : Knows (setting_of c) old.terms.list.items between m s
    object : Object
    there : m.world.names found_name ≡ Some object
    typed : (object.type == c.int) ≡ true
    place : (register s find.a ≡ Register.Reference (place_of found_name)) ⊎ (register s find.a ≡ Register.Undefined)

  record Missed (m : Moment) (s : State) : Type 0 where
    knows : Knows (setting_of c) old.terms.list.items between m s
    none : number_of (setting_of c) m.world x ≡ None

  abbrev FoundOrNot : Answer → Tie
  FoundOrNot code m s = ((code ≡ success) × Seen m s) ⊎ ((code ≢ success) × Missed m s)

  pub record IsLookup : Type 0 where
    pub finds : find.operation ≡ operation.Find
    pub loads : load.operation ≡ operation.Load
    pub place : load.b ≡ find.a
    pub apart : load.a ≢ find.a
    pub first : find.c ≡ 16
    pub about : IsAbout c find x
    pub known : slice_get old.registers load.a ≡ Some (Some default)
    pub sixteen : length old.registers ≡ 16
    pub more : Extends old.terms.list.items terms
    pub value : (m : Moment) (d : ℤ) → HasValue (setting_of c) m old.terms.list.items default d
        → HasValue (setting_of c) m terms t (or_else (number_of (setting_of c) m.world x) d)

  module _ (is : IsLookup) where
    find_row : (m : Moment) (s s' : State) (code : Answer) (room : Bool) → knowing c old m s → outcome (texts_of c) find room s ≡ Some (code, s')
        → FoundOrNot code m s' × (s'.output ≡ s.output)
    find_row m s s' code room known e = by (finding c.int found_name find.a (s.names found_name) s code s'
        (sym (find_outcome (texts_of c) find room s found_name c.int is.finds is.first is.about.type is.about.constant) ∙ e))
      where
        names : s.names found_name ≡ m.world.names found_name
        names = ap (λ w. w.names found_name) known.world

        by : Finding c.int found_name find.a (s.names found_name) s code s' → FoundOrNot code m s' × (s'.output ≡ s.output)
        by (inl (good, seen)) =
            let reference = Register.Reference (place_of found_name) in (
              inl (
                good,
                record {
                  knows = subst (Knows (setting_of c) old.terms.list.items between m) (sym seen.state) (knows_less (setting_of c) old.terms.list.items old.registers m s find.a reference known);
                  object = seen.found;
                  there = sym names ∙ seen.there;
                  typed = seen.typed;
                  place = subst (λ z. (register z find.a ≡ reference) ⊎ (register z find.a ≡ Register.Undefined)) (sym seen.state) (set_or_past s.registers find.a reference Register.Undefined);
                },
              ),
              ap (λ z. z.output) seen.state,
            )
        by (inr (bad, missing)) = (
          inr (
            bad,
            record {
              knows = subst (Knows (setting_of c) old.terms.list.items between m) (sym missing.state) (knows_less (setting_of c) old.terms.list.items old.registers m s find.a (Register.Int missing.code) known);
              none = sym (ap (number_in c.int) names) ∙ missing.none;
            },
          ),
          ap (λ z. z.output) missing.state,
        )

    find_any : (m : Moment) (s s' : State) (code : Answer) → knowing c old m s → (plain_machine (texts_of c)).row find s code s' → FoundOrNot code m s'
    find_any m s s' code known (inl w) = (find_row m s s' code w.0 known w.1).0
    find_any m s s' code known (inr w) = absurd (let f = sym is.finds ∙ w.freezes in cc)

    find_stop : (m : Moment) (s s' : State) → knowing c old m s → CutShort (texts_of c) find s s' → ⊥
    find_stop m s s' known cut = not_cut s cut.whole.output cut.front cut.lost (find_row m s cut.whole success cut.room known cut.written).1 cut.bytes cut.proper

    -- the register that the lookup changes isn't the one with the path
    between_known : slice_get between load.a ≡ Some (Some default)
    between_known = other_get old.registers find.a load.a None (λ e. is.apart (sym e)) ∙ is.known

    load_row : (m : Moment) (s s' : State) (code : Answer) (room : Bool) → Seen m s → outcome (texts_of c) load room s ≡ Some (code, s')
        → (code ≡ success) × finally m s' × (s'.output ≡ s.output)
    load_row m s s' code room seen e =
        let there = subst (λ z. (register s z ≡ Register.Reference (place_of found_name)) ⊎ (register s z ≡ Register.Undefined)) (sym is.place) seen.place in
        let h = loaded (texts_of c) load room s (place_of found_name) code s' is.loads there e in
        let names = ap (λ w. w.names found_name) seen.knows.world in
        let number = ap (number_in c.int) (sym names) ∙ sym (read_number c.int s found_name seen.object (names ∙ seen.there) seen.typed) ∙ h.1 in
        let d = seen.knows.each load.a default between_known in
        let value = subst (λ z. HasValue (setting_of c) m terms t (or_else z d.0)) number (is.value m d.0 d.1) in (
          h.2,
          subst (finally m) (sym h.3)
              (knows_term (setting_of c) old.terms.list.items terms between m s load.a t h.0 (length_set old.registers find.a None ∙ is.sixteen) is.more value seen.knows),
          ap (λ z. z.output) h.3,
        )

    load_any : (m : Moment) (s s' : State) (code : Answer) → Seen m s → (plain_machine (texts_of c)).row load s code s' → finally m s'
    load_any m s s' code seen (inl w) = (load_row m s s' code w.0 seen w.1).1
    load_any m s s' code seen (inr w) = absurd (let f = sym is.loads ∙ w.freezes in cc)

    load_stop : (m : Moment) (s s' : State) → Seen m s → CutShort (texts_of c) load s s' → ⊥
    load_stop m s s' seen cut = not_cut s cut.whole.output cut.front cut.lost (load_row m s cut.whole success cut.room seen cut.written).2 cut.bytes cut.proper

    -- without an object, the register keeps its number
    missed_known : (m : Moment) (s : State) → Missed m s → finally m s
    missed_known m s missed =
        knows_same (setting_of c) old.terms.list.items terms between m s load.a default t between_known is.more
        (λ d has. subst (λ z. HasValue (setting_of c) m terms t (or_else z d)) missed.none (is.value m d has)) missed.knows

    lookup_hides : Hides (knowing c old) (Run State (plain_machine (texts_of c)) (lookup_tree find load)) finally
    unfolding Run
    lookup_hides =
        hides_then _ finally finally _ _
        (hides_performs (texts_of c) find (knowing c old) FoundOrNot finally _ _ find_any find_stop
        (hides_weaker Seen (FoundOrNot success) finally _ (λ m s w. seen_of m s w)
        (hides_then _ finally finally _ _
        (hides_performs (texts_of c) load Seen (λ code. finally) finally _ _ load_any load_stop
        (hides_nothing finally finally (λ m s p. p)) (λ code differs. hides_nothing finally finally (λ m s p. p)))
        (hides_nothing finally finally (λ m s p. p))))
        (λ code differs. hides_nothing (FoundOrNot code) finally (λ m s w. missed_known m s (missed_of code m s differs w))))
        (hides_nothing finally finally (λ m s p. p))
      where
        seen_of : (m : Moment) (s : State) → FoundOrNot success m s → Seen m s
        seen_of m s (inl w) = w.1
        seen_of m s (inr w) = absurd (w.0 refl)

        missed_of : (code : Answer) (m : Moment) (s : State) → code ≢ success → FoundOrNot code m s → Missed m s
        missed_of code m s differs (inl w) = absurd (differs w.0)
        missed_of code m s differs (inr w) = w.1

    pub lookup_follows : (at : ℕ) → IsAt c at find → IsAt c (suc at) load → IsAt c (suc (suc at)) (mark operation.Else) → IsAt c (suc (suc (suc at))) (mark operation.End)
        → Follows c at (suc (suc (suc (suc at)))) (knowing c old) Stays finally
    lookup_follows at one two three four = record {
      code = lookup_tree find load;
      roles = ((ap (λ op. (row_of op).role) is.finds, (ap (λ op. (row_of op).role) is.loads, tt), tt), tt);
      spelled = lookup_listing (code_of c) find load at one two three four;
      simulates = record {
        each = λ m s s' n end known w. elim (lookup_hides.each m s s' n end known w) [
          | inl e ↦ inl e
          | inr q ↦ inr (m, (refl, q.0), sym q.1.world, λ e. q.1)
        ];
      };
    }

-- the code of a lookup
pub lookup_code : (c : Comparison) (old mid new : Knowledge) (find load : Instruction) (x default t at at2 at3 at4 end : ℕ)
    → IsLookup c old mid.terms.list.items find load x default t → IsAt c at find → IsAt c at2 load → IsAt c at3 (mark operation.Else) → IsAt c at4 (mark operation.End)
    → at2 ≡ at + 1 → at3 ≡ at2 + 1 → at4 ≡ at3 + 1 → end ≡ at4 + 1
    → new.registers ≡ slice_set (slice_set old.registers find.a None) load.a (Some t) → new.terms ≡ mid.terms → Follows c at end (knowing c old) Stays (knowing c new)
lookup_code c old mid new find load x default t at at2 at3 at4 end is one two three four to2 to3 to4 to_end set same =
    let e2 : at2 ≡ suc at = omega arith in
    let e3 : at3 ≡ suc (suc at) = omega arith in
    let e4 : at4 ≡ suc (suc (suc at)) = omega arith in
    let e5 : end ≡ suc (suc (suc (suc at))) = omega arith in
    subst (λ z. Follows c at z (knowing c old) Stays (knowing c new)) (sym e5)
    (subst (λ z. Follows c at (suc (suc (suc (suc at)))) (knowing c old) Stays (Knows (setting_of c) z new.registers)) (ap (λ w. w.list.items) (sym same))
    (subst (λ z. Follows c at (suc (suc (suc (suc at)))) (knowing c old) Stays (Knows (setting_of c) mid.terms.list.items z)) (sym set)
    (lookup_follows c old mid.terms.list.items find load x default t is at one (subst (λ z. IsAt c z load) e2 two) (subst (λ z. IsAt c z (mark operation.Else)) e3 three)
    (subst (λ z. IsAt c z (mark operation.End)) e4 four))))
