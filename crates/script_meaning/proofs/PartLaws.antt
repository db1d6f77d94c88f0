-- Code with parts: IF and WHILE.
use Rattle.std.proofs.Common.{◌≡◌, ◌≢◌, ℕ, zero, suc, ◌<◌, ℤ, pos, negsuc, nat_abs, Bool, true, false, List, ◌++◌, length, Some, ◌⊎◌, inl, inr, refl, sym, ◌∙◌, ap, subst, arith, ltb, length-append}
use Rattle.std.specs.Prelude.{not, ◌&&◌, nat_lt, if◌then◌else◌}
use Rattle.std.proofs.lemmas.Bool.Decides.{nat_tests}
use Rattle.client_spec.specs.Value.{same_int}
use Rattle.client_spec.proofs.TypedStates.ValueLaws.{Some_inj}
use Rattle.client_spec.specs.Syntax.{Constant, Instruction}
use Rattle.client_spec.specs.declared.table.Operation.{Operation}
use Rattle.client_spec.specs.declared.table.Operation.TheVariants as operation
use Rattle.client_spec.specs.declared.table.Role.{Role}
use Rattle.client_spec.specs.Operations.{row_of}
use Rattle.client_spec.specs.Machine.{◌>>=◌, Register, State, register}
use Rattle.client_spec.specs.Answer.{Answer, success, is_zero, integer_in, integer_at}
use Rattle.client_spec.specs.Effect.{effect, outcome}
use Rattle.client_spec.specs.Grammar.{mark}
use Rattle.client_spec.specs.Run as run
use Rattle.client_spec.specs.Run.{Ending, finished, stuck, Way, OneStep, Loops, Run}
use Rattle.client_spec.specs.Plain.{plain_machine, UsesUp, CutShort}
use Rattle.script_meaning.specs.declared.comparison.Comparison.{Comparison}
use Rattle.script_meaning.specs.Meaning.{Moment, Meaning, Stays, Then, Chosen, If, Turns, is_true, world_of}
use Rattle.script_meaning.specs.Following.{Held, Holds, Tie, Simulates}
use Rattle.script_meaning.specs.Comparing.{code_of, texts_of, holding, Follows, IsAt, HoldsNumber, Tests, IfIsAt, LoopIsAt, TestsRegister, Marks}
use Rattle.script_meaning.proofs.SequenceLaws.{no_code, hidden_then, simulates_then}
use Rattle.script_meaning.proofs.OpenerLaws.{IsPart, part_law, OpenerDoes, opener_law, loop_law}

-- ---- IF

-- the row of IF
if_row : (constants : List Constant) (i : Instruction) (room : Bool) (s s' : State) (answer : Answer) (k : ℤ) → i.operation ≡ operation.If → register s i.b ≡ Register.Int k
    → outcome constants i room s ≡ Some (answer, s') → (s' ≡ s) × (answer ≡ if same_int k (pos 0) then is_zero else success)
unfolding effect
if_row constants i room s s' answer k is holds e =
    let f : Some ((if same_int k (pos 0) then is_zero else success), s) ≡ Some (answer, s') =
    sym (ap (λ op. effect constants op i.a i.b i.c i.number room s) is ∙ ap (λ x. integer_in x >>= λ y. Some ((if same_int y (pos 0) then is_zero else success), s)) holds) ∙ e in
    let g : ((if same_int k (pos 0) then is_zero else success), s) ≡ (answer, s') = Some_inj f in
    (sym (ap (λ x. x.1) g), sym (ap (λ x. x.0) g))

not_freeze : (constants : List Constant) (i : Instruction) (s s' : State) (answer : Answer) → i.operation ≡ operation.If → UsesUp constants i s answer s' → ⊥
not_freeze constants i s s' answer is u = (let f : operation.If ≡ operation.Freeze = sym is ∙ u.freezes in cc)

if_answer : (constants : List Constant) (i : Instruction) (s s' : State) (answer : Answer) (k : ℤ) → i.operation ≡ operation.If → register s i.b ≡ Register.Int k
    → (plain_machine constants).row i s answer s' → (s' ≡ s) × (answer ≡ if same_int k (pos 0) then is_zero else success)
if_answer constants i s s' answer k is holds (inl (room, e)) = if_row constants i room s s' answer k is holds e
if_answer constants i s s' answer k is holds (inr u) = absurd (not_freeze constants i s s' answer is u)

not_longer : (xs front lost : List ℕ) → xs ≡ xs ++ (front ++ lost) → 0 < length lost → ⊥
not_longer xs front lost e l = let f : length xs ≡ length (xs ++ (front ++ lost)) = ap length e in omega (arith, simp length-append at f)

if_writes : (constants : List Constant) (i : Instruction) (s s' : State) (k : ℤ) → i.operation ≡ operation.If → register s i.b ≡ Register.Int k → CutShort constants i s s' → ⊥
if_writes constants i s s' k is holds cut =
    let same = (if_row constants i cut.room s cut.whole success k is holds cut.written).0 in
    not_longer s.output cut.front cut.lost (ap (λ (t : State). t.output) (sym same) ∙ cut.bytes) cut.proper

chosen_good : (b : Bool) (A B : Type 0) → success ≡ (if b then is_zero else success) → A → Chosen (not b) A B
chosen_good true A B e a = absurd (let f : success ≡ is_zero = e in cc)
chosen_good false A B e a = a

chosen_bad : (b : Bool) (A B : Type 0) (answer : Answer) → answer ≢ success → answer ≡ (if b then is_zero else success) → B → Chosen (not b) A B
chosen_bad true A B answer f e x = x
chosen_bad false A B answer f e x = absurd (f e)

if_role : (op : Operation) → op ≡ operation.If → (row_of op).role ≡ Role.Opener
if_role op e = subst (λ op. (row_of op).role ≡ Role.Opener) (sym e) refl

if_does : (constants : List Constant) (i : Instruction) (held : Held) (number : Moment → ℤ) (on_true on_false : Meaning) → i.operation ≡ operation.If
    → OpenerDoes constants i (HoldsNumber held i.b number) (holding held) (holding held) (If number on_true on_false) on_true on_false
if_does constants i held number on_true on_false is = record {
  role = if_role i.operation is;
  good = λ m s s' p row. let h = if_answer constants i s s' success (number m) is p.is row in
      (m, subst (Holds held m) (sym h.0) p.holds, λ m' end w. chosen_good (same_int (number m) (pos 0)) (on_true m m' end) (on_false m m' end) h.1 w);
  bad = λ m s s' answer f p row. let h = if_answer constants i s s' answer (number m) is p.is row in
      (m, subst (Holds held m) (sym h.0) p.holds, λ m' end w. chosen_bad (same_int (number m) (pos 0)) (on_true m m' end) (on_false m m' end) answer f h.1 w);
  stop = λ m s s' p cut. if_writes constants i s s' (number m) is p.is cut;
}

-- IF with its parts, where its register has the number
if_opened : (c : Comparison) (start body other after : ℕ) (i : Instruction) (held : Held) (number : Moment → ℤ) (on_true on_false : Meaning)
    → IsAt c start i → i.operation ≡ operation.If → body ≡ suc start → IsPart c body other operation.Else (holding held) on_true (holding held)
    → IsPart c other after operation.End (holding held) on_false (holding held) → Follows c start after (HoldsNumber held i.b number) (If number on_true on_false) (holding held)
if_opened c start body other after i held number on_true on_false there is follows first second =
    opener_law c start body other after i (HoldsNumber held i.b number) (holding held) (holding held) (holding held) (If number on_true on_false) on_true on_false there follows
    (if_does (texts_of c) i held number on_true on_false is) first second

pub if_law : (c : Comparison) (at body end other end' after : ℕ) (held : Held) (number : Moment → ℤ) (on_true on_false : Meaning)
    → IfIsAt c at body held number → Follows c body end (holding held) on_true (holding held)
    → Marks c end other operation.Else (holding held) (holding held) → Follows c other end' (holding held) on_false (holding held)
    → Marks c end' after operation.End (holding held) (holding held)
    → Follows c at after (holding held) (If number on_true on_false) (holding held)
if_law c at body end other end' after held number on_true on_false opened first marked second ended =
    let i : Instruction = opened.0 in
    let t : Tests c at body held operation.If i number = opened.1 in
    hidden_then (texts_of c) (code_of c) at t.start after (holding held) (HoldsNumber held i.b number) (holding held) (If number on_true on_false) t.before
    (if_opened c t.start body other after i held number on_true on_false t.there t.operation t.after
    (part_law c body end other operation.Else (holding held) (holding held) (holding held) on_true first marked)
    (part_law c other end' after operation.End (holding held) (holding held) (holding held) on_false second ended))

-- ---- WHILE

nonzero_true : (k : ℤ) → k ≢ pos 0 → is_true k ≡ true
nonzero_true (pos zero) f = absurd (f refl)
nonzero_true (pos (suc n)) f =
    let a : ltb (suc n) 0 ≡ false = grind (arith, nat_tests) in
    let b : ltb 0 (suc n) ≡ true = grind (arith, nat_tests) in
    ap (λ x. not (not x && not (nat_lt 0 (suc n)))) a ∙ ap (λ x. not (not x)) b
nonzero_true (negsuc n) f = refl

-- a step before a way changes nothing
step_simulates : (constants : List Constant) (P Q : Tie) (does : Meaning) (way : Way State) → Simulates P does way Q → Simulates P does (run.Then State (OneStep State (plain_machine constants).tick) way) Q
step_simulates constants P Q does way f = record { each = λ m s s' n end p w. by m s s' n end p w }
  where
    by : (m : Moment) (s s' : State) (n : ℕ) (end : Ending) → P m s → run.Then State (OneStep State (plain_machine constants).tick) way s s' n end
        → (end ≡ stuck) ⊎ ((m' : Moment) × does m m' end × (m'.world ≡ world_of s') × (end ≡ finished → Q m' s'))
    by m s s' n end p (inl (mid, k, l, x, y, e)) = f.each m mid s' l end (subst (P m) (sym x.ticks) p) y
    by m s s' n end p (inr (x, g)) = absurd (g x.ends)

module _ (constants : List Constant) (held : Held) (r : ℕ) (number : Moment → ℤ) (does : Meaning) (body : Way State) (inside : Simulates (holding held) does body (HoldsNumber held r number)) where
  number_is : (m : Moment) (s : State) (k : ℤ) → HoldsNumber held r number m s → integer_at s r ≡ Some k → number m ≡ k
  number_is m s k p is = Some_inj (sym (ap integer_in p.is) ∙ is)

  -- one more iteration, if those after it do what they should
  turn_simulates : (turns : ℕ) → Simulates (HoldsNumber held r number) (Turns turns number does) (Loops State (plain_machine constants) r turns body) (HoldsNumber held r number)
      → (m : Moment) (s s' : State) (n : ℕ) (end : Ending) → HoldsNumber held r number m s → Loops State (plain_machine constants) r (suc turns) body s s' n end
      → (end ≡ stuck) ⊎ ((m' : Moment) × Turns (suc turns) number does m m' end × (m'.world ≡ world_of s') × (end ≡ finished → HoldsNumber held r number m' s'))
  turn_simulates turns more m s s' n end p (inl (is, w)) =
      inr (
        m,
        subst (λ k. Chosen (is_true k) (Then does (Turns turns number does) m m end) (Stays m m end)) (sym (number_is m s (pos 0) p is)) (refl, w.ends),
        subst (λ t. m.world ≡ world_of t) (sym w.same) (sym p.holds.world),
        λ _. subst (HoldsNumber held r number m) (sym w.same) p,
      )
  turn_simulates turns more m s s' n end p (inr (inl (k, is, nonzero, w))) =
      let f = step_simulates constants (holding held) (HoldsNumber held r number) (Then does (Turns turns number does)) _
      (simulates_then (holding held) (HoldsNumber held r number) (HoldsNumber held r number) does (Turns turns number does) body (Loops State (plain_machine constants) r turns body) inside more) in
      let e : is_true (number m) ≡ true = nonzero_true (number m) (λ z. nonzero (sym (number_is m s k p is) ∙ z)) in
      elim (f.each m s s' n end p.holds w) [
        | inl b ↦ inl b
        | inr b ↦ inr (b.0, subst (λ x. Chosen x (Then does (Turns turns number does) m b.0 end) (Stays m b.0 end)) (sym e) b.1, b.2, b.3)
      ]
  turn_simulates turns more m s s' n end p (inr (inr (none, e, f, g))) = inl g

  -- iterations, each of which begins and ends with the number in the register
  turns_simulate : (turns : ℕ) → Simulates (HoldsNumber held r number) (Turns turns number does) (Loops State (plain_machine constants) r turns body) (HoldsNumber held r number)
  turns_simulate zero = record {
    each = λ m s s' n end p w. inr (m, (refl, w.ends), subst (λ t. m.world ≡ world_of t) (sym w.same) (sym p.holds.world), λ _. subst (HoldsNumber held r number m) (sym w.same) p);
  }
  turns_simulate (suc turns) = record { each = turn_simulates turns (turns_simulate turns) }

  loop_simulates : (register turns turns' : ℕ) → register ≡ r → turns' ≡ turns
      → Simulates (HoldsNumber held r number) (Turns turns number does) (run.Then State (OneStep State (plain_machine constants).tick) (Loops State (plain_machine constants) register turns' body)) (HoldsNumber held r number)
  loop_simulates register turns turns' e f =
      let tick : State → State → Type 0 = (plain_machine constants).tick in
      let Goal : ℕ → ℕ → Type 0 = λ register turns'. Simulates (HoldsNumber held r number) (Turns turns number does)
      (run.Then State (OneStep State tick) (Loops State (plain_machine constants) register turns' body)) (HoldsNumber held r number) in
      subst (λ k. Goal k turns') (sym e) (subst (λ k. Goal r k) (sym f) (step_simulates constants (HoldsNumber held r number) (HoldsNumber held r number) (Turns turns number does) _ (turns_simulate turns)))

while_role : (op : Operation) → op ≡ operation.While → (row_of op).role ≡ Role.Loop
while_role op e = subst (λ op. (row_of op).role ≡ Role.Loop) (sym e) refl

pub while_law : (c : Comparison) (at body end after : ℕ) (held : Held) (r turns : ℕ) (number : Moment → ℤ) (does : Meaning)
    → LoopIsAt c at body held r turns number → Follows c body end (holding held) does (holding held)
    → Marks c end after operation.End (holding held) (HoldsNumber held r number)
    → Follows c at after (holding held) (Turns turns number does) (HoldsNumber held r number)
unfolding Run
while_law c at body end after held r turns number does opened inside ended =
    let i : Instruction = opened.0 in
    let t : Tests c at body held operation.While i number = opened.1 in
    let part : IsPart c body after operation.End (holding held) does (HoldsNumber held r number)
    = part_law c body end after operation.End (holding held) (holding held) (HoldsNumber held r number) does inside ended in
    hidden_then (texts_of c) (code_of c) at t.start after (holding held) (HoldsNumber held r number) (HoldsNumber held r number) (Turns turns number does)
    (subst (λ x. Follows c at t.start (holding held) Stays (HoldsNumber held x number)) opened.2 t.before)
    (loop_law c t.start body after i (HoldsNumber held r number) (holding held) (HoldsNumber held r number) (HoldsNumber held r number) (Turns turns number does) does t.there t.after
    (while_role i.operation t.operation) part
    (loop_simulates (texts_of c) held r number does (Run State (plain_machine (texts_of c)) part.code) part.simulates i.b turns (nat_abs i.number) opened.2 (ap nat_abs opened.3)))

pub cut_law : (c : Comparison) (at body end other after : ℕ) (held : Held) (r : ℕ) (number : Moment → ℤ) (does : Meaning)
    → TestsRegister c at body r → Follows c body end (holding held) does (holding held)
    → Marks c end other operation.Else (holding held) (holding held) → IsAt c other (mark operation.End) → after ≡ suc other
    → Follows c at after (HoldsNumber held r number) (If number does Stays) (holding held)
cut_law c at body end other after held r number does tested inside marked ended follows =
    let i : Instruction = tested.0 in
    let none : Follows c other other (holding held) Stays (holding held) = no_code (texts_of c) (code_of c) other (holding held) (λ m s p. sym p.world) in
    let last : Marks c other after operation.End (holding held) (holding held) = record { start = other; before = none; there = ended; follows = follows } in
    subst (λ x. Follows c at after (HoldsNumber held x number) (If number does Stays) (holding held)) tested.3
    (if_opened c at body other after i held number does Stays tested.1 tested.2 tested.4
    (part_law c body end other operation.Else (holding held) (holding held) (holding held) does inside marked)
    (part_law c other other after operation.End (holding held) (holding held) (holding held) Stays none last))
