-- Two runs of the same code, on any machine, from states that are related. They take the same steps
-- up to an output that fails, which may fail in one run and not in the other.
use Rattle.std.proofs.Common.{◌≡◌, ℕ, zero, suc, ◌+◌, inl, inr, sym, ap, ◌∙◌, subst}
use Rattle.std.specs.Prelude.{ℤ, pos, nat_abs, Option, Some, None}
use Rattle.client_spec.specs.Syntax.{Instruction, Statement, plain, opener, loop, Statements, no_more, next}
use Rattle.client_spec.specs.Answer.{Answer, success, is_zero, already_exists, bad_alloc, absent, other_type, out_of_range, null_or_none, numbers_used_up}
use Rattle.client_spec.specs.Run.{Machine, Ending, finished, stopped, Way, Nothing, Then, OneStep, picked, Performs, Loops, Run, RunOne}

same_turns : (o : Option ℤ) (j k : ℤ) → o ≡ Some j → o ≡ Some k → j ≡ k
same_turns o j k e f = (let g : Some j ≡ Some k = sym e ∙ f in cc)

-- `Related x z`: the runs are at the same point. `Ahead x z`: the output of x failed, and z has
-- written more.
module _ (S : Type 0) (machine : Machine S) (Related Ahead : S → S → Type 0) where
  -- how two runs end: at the same point, or the output of one failed before
  pub data Meet (y : S) (n : ℕ) (end : Ending) (w : S) (m : ℕ) (other : Ending) : Type 0 where
    together : Related y w → n ≡ m → end ≡ other → Meet y n end w m other
    first_stopped : end ≡ stopped → Ahead y w → Meet y n end w m other
    second_stopped : other ≡ stopped → Ahead w y → Meet y n end w m other

  -- what the machine's steps do
  pub record StepsMeet : Type 0 where
    pub rows : (i : Instruction) (x z y w : S) (a b : Answer) → Related x z → machine.row i x a y → machine.row i z b w → (a ≡ b) × Related y w
    pub stops : (i : Instruction) (x z y w : S) → Related x z → machine.stop i x y → machine.stop i z w → Meet y 1 stopped w 1 stopped
    pub row_and_stop : (i : Instruction) (x z y w : S) (a : Answer) → Related x z → machine.row i x a y → machine.stop i z w → Ahead w y
    pub stop_and_row : (i : Instruction) (x z y w : S) (b : Answer) → Related x z → machine.stop i x y → machine.row i z b w → Ahead y w
    pub never_stuck : (i : Instruction) (x : S) → machine.no_row i x → ⊥
    pub ticks : (x z y w : S) → Related x z → machine.tick x y → machine.tick z w → Related y w
    pub numbers : (x z : S) (r : ℕ) → Related x z → machine.number_in x r ≡ machine.number_in z r
    -- a run that is ahead stays ahead
    pub row_ahead : (i : Instruction) (u x y : S) (a : Answer) → machine.row i x a y → Ahead u x → Ahead u y
    pub stop_ahead : (i : Instruction) (u x y : S) → machine.stop i x y → Ahead u x → Ahead u y
    pub tick_ahead : (u x y : S) → machine.tick x y → Ahead u x → Ahead u y

  module _ (steps : StepsMeet) where
    pub record Meets (way : Way S) : Type 0 where
      pub each : (x z y w : S) (n m : ℕ) (end other : Ending) → Related x z → way x y n end → way z w m other → Meet y n end w m other
      pub ahead : (u x y : S) (n : ℕ) (end : Ending) → way x y n end → Ahead u x → Ahead u y

    nothing_meets : Meets (Nothing S)
    nothing_meets = record {
      each = λ x z y w n m end other r f g. together (subst (λ s. Related s w) (sym f.same) (subst (Related x) (sym g.same) r)) (f.steps ∙ sym g.steps) (f.ends ∙ sym g.ends);
      ahead = λ u x y n end f a. subst (Ahead u) (sym f.same) a;
    }

    then_meets : (p q : Way S) → Meets p → Meets q → Meets (Then S p q)
    then_meets p q f g = record { each = λ x z y w n m end other r. by x z y w n m end other r; ahead = λ u x y n end. ahead u x y n end }
      where
        ahead : (u x y : S) (n : ℕ) (end : Ending) → Then S p q x y n end → Ahead u x → Ahead u y
        ahead u x y n end (inl a) l = g.ahead u a.0 y a.2 end a.4 (f.ahead u x a.0 a.1 finished a.3 l)
        ahead u x y n end (inr a) l = f.ahead u x y n end a.0 l

        by : (x z y w : S) (n m : ℕ) (end other : Ending) → Related x z → Then S p q x y n end → Then S p q z w m other → Meet y n end w m other
        by x z y w n m end other r (inl a) (inl b) = elim (f.each x z a.0 b.0 a.1 b.1 finished finished r a.3 b.3) [
          | together mid k_is e ↦ elim (g.each a.0 b.0 y w a.2 b.2 end other mid a.4 b.4) [
            | together last l_is ends ↦ together last (a.5 ∙ ap (λ k. k + a.2) k_is ∙ ap (λ l. b.1 + l) l_is ∙ sym b.5) ends
            | first_stopped e l ↦ first_stopped e l
            | second_stopped e l ↦ second_stopped e l
          ]
          | first_stopped e l ↦ absurd (let c : finished ≡ stopped = e in cc)
          | second_stopped e l ↦ absurd (let c : finished ≡ stopped = e in cc)
        ]
        by x z y w n m end other r (inl a) (inr b) = elim (f.each x z a.0 w a.1 m finished other r a.3 b.0) [
          | together mid k_is e ↦ absurd (b.1 (sym e))
          | first_stopped e l ↦ absurd (let c : finished ≡ stopped = e in cc)
          | second_stopped e l ↦ second_stopped e (g.ahead w a.0 y a.2 end a.4 l)
        ]
        by x z y w n m end other r (inr a) (inl b) = elim (f.each x z y b.0 n b.1 end finished r a.0 b.3) [
          | together mid k_is e ↦ absurd (a.1 e)
          | first_stopped e l ↦ first_stopped e (g.ahead y b.0 w b.2 other b.4 l)
          | second_stopped e l ↦ absurd (let c : finished ≡ stopped = e in cc)
        ]
        by x z y w n m end other r (inr a) (inr b) = f.each x z y w n m end other r a.0 b.0

    tick_meets : Meets (OneStep S machine.tick)
    tick_meets = record {
      each = λ x z y w n m end other r f g. together (steps.ticks x z y w r f.ticks g.ticks) (f.steps ∙ sym g.steps) (f.ends ∙ sym g.ends);
      ahead = λ u x y n end f a. steps.tick_ahead u x y f.ticks a;
    }

    picked_meets : (p q : Way S) → Meets p → Meets q → (answer : Answer) → Meets (picked answer p q)
    picked_meets p q f g success = f
    picked_meets p q f g is_zero = g
    picked_meets p q f g already_exists = g
    picked_meets p q f g bad_alloc = g
    picked_meets p q f g absent = g
    picked_meets p q f g other_type = g
    picked_meets p q f g out_of_range = g
    picked_meets p q f g null_or_none = g
    picked_meets p q f g numbers_used_up = g

    performs_meets : (i : Instruction) (p q : Way S) → Meets p → Meets q → Meets (Performs S machine i p q)
    performs_meets i p q f g = record { each = λ x z y w n m end other r. by x z y w n m end other r; ahead = λ u x y n end. ahead u x y n end }
      where
        ahead : (u x y : S) (n : ℕ) (end : Ending) → Performs S machine i p q x y n end → Ahead u x → Ahead u y
        ahead u x y n end (inl a) l = (picked_meets p q f g a.0).ahead u a.1 y a.2 end a.4 (steps.row_ahead i u x a.1 a.0 a.3 l)
        ahead u x y n end (inr (inl a)) l = steps.stop_ahead i u x y a.0 l
        ahead u x y n end (inr (inr a)) l = absurd (steps.never_stuck i x a.0)

        by : (x z y w : S) (n m : ℕ) (end other : Ending) → Related x z → Performs S machine i p q x y n end → Performs S machine i p q z w m other → Meet y n end w m other
        by x z y w n m end other r (inl a) (inl b) =
            let one = steps.rows i x z a.1 b.1 a.0 b.0 r a.3 b.3 in
            let rest = subst (λ c. picked c p q b.1 w b.2 other) (sym one.0) b.4 in
            elim ((picked_meets p q f g a.0).each a.1 b.1 y w a.2 b.2 end other one.1 a.4 rest) [
              | together last k_is ends ↦ together last (a.5 ∙ ap (λ k. 1 + k) k_is ∙ sym b.5) ends
              | first_stopped e l ↦ first_stopped e l
              | second_stopped e l ↦ second_stopped e l
            ]
        by x z y w n m end other r (inl a) (inr (inl b)) = second_stopped b.2 ((picked_meets p q f g a.0).ahead w a.1 y a.2 end a.4 (steps.row_and_stop i x z a.1 w a.0 r a.3 b.0))
        by x z y w n m end other r (inr (inl a)) (inl b) = first_stopped a.2 ((picked_meets p q f g b.0).ahead y b.1 w b.2 other b.4 (steps.stop_and_row i x z y b.1 b.0 r a.0 b.3))
        by x z y w n m end other r (inr (inl a)) (inr (inl b)) = elim (steps.stops i x z y w r a.0 b.0) [
          | together last k_is ends ↦ together last (a.1 ∙ sym b.1) (a.2 ∙ sym b.2)
          | first_stopped e l ↦ first_stopped a.2 l
          | second_stopped e l ↦ second_stopped b.2 l
        ]
        by x z y w n m end other r (inl a) (inr (inr b)) = absurd (steps.never_stuck i z b.0)
        by x z y w n m end other r (inr (inl a)) (inr (inr b)) = absurd (steps.never_stuck i z b.0)
        by x z y w n m end other r (inr (inr a)) b = absurd (steps.never_stuck i x a.0)

    turns_meet : (register turns : ℕ) (p : Way S) → Meets p → Meets (Loops S machine register turns p)
    turns_meet register zero p f = nothing_meets
    turns_meet register (suc turns) p f = turn_meets (then_meets _ _ tick_meets (then_meets _ _ f (turns_meet register turns p f)))
      where
        turn_meets : Meets (Then S (OneStep S machine.tick) (Then S p (Loops S machine register turns p))) → Meets (Loops S machine register (suc turns) p)
        turn_meets h = record { each = λ x z y w n m end other r. by x z y w n m end other r; ahead = λ u x y n end. ahead u x y n end }
          where
            ahead : (u x y : S) (n : ℕ) (end : Ending) → Loops S machine register (suc turns) p x y n end → Ahead u x → Ahead u y
            ahead u x y n end (inl a) l = nothing_meets.ahead u x y n end a.1 l
            ahead u x y n end (inr (inl a)) l = h.ahead u x y n end a.3 l
            ahead u x y n end (inr (inr a)) l = subst (Ahead u) (sym a.1) l

            by : (x z y w : S) (n m : ℕ) (end other : Ending) → Related x z → Loops S machine register (suc turns) p x y n end → Loops S machine register (suc turns) p z w m other → Meet y n end w m other
            by x z y w n m end other r (inl a) (inl b) = nothing_meets.each x z y w n m end other r a.1 b.1
            by x z y w n m end other r (inl a) (inr (inl b)) = absurd (b.2 (same_turns (machine.number_in z register) b.0 (pos 0) b.1 (sym (steps.numbers x z register r) ∙ a.0)))
            by x z y w n m end other r (inl a) (inr (inr b)) = absurd (let e : Some (pos 0) ≡ None = sym a.0 ∙ steps.numbers x z register r ∙ b.0 in cc)
            by x z y w n m end other r (inr (inl a)) (inl b) = absurd (a.2 (same_turns (machine.number_in x register) a.0 (pos 0) a.1 (steps.numbers x z register r ∙ b.0)))
            by x z y w n m end other r (inr (inl a)) (inr (inl b)) = h.each x z y w n m end other r a.3 b.3
            by x z y w n m end other r (inr (inl a)) (inr (inr b)) = absurd (let e : Some a.0 ≡ None = sym a.1 ∙ steps.numbers x z register r ∙ b.0 in cc)
            by x z y w n m end other r (inr (inr a)) (inl b) = absurd (let e : Some (pos 0) ≡ None = sym b.0 ∙ sym (steps.numbers x z register r) ∙ a.0 in cc)
            by x z y w n m end other r (inr (inr a)) (inr (inl b)) = absurd (let e : Some b.0 ≡ None = sym b.1 ∙ sym (steps.numbers x z register r) ∙ a.0 in cc)
            by x z y w n m end other r (inr (inr a)) (inr (inr b)) = together (subst (λ s. Related s w) (sym a.1) (subst (Related x) (sym b.1) r)) (a.2 ∙ sym b.2) (a.3 ∙ sym b.3)

    mutual
      unfolding Run

      pub code_meets : (cs : Statements) → Meets (Run S machine cs)
      code_meets no_more = nothing_meets
      code_meets (next c cs) = then_meets _ _ (one_meets c) (code_meets cs)

      one_meets : (c : Statement) → Meets (RunOne S machine c)
      one_meets (plain i) = performs_meets i _ _ nothing_meets nothing_meets
      one_meets (opener i on_success on_code) = performs_meets i _ _ (code_meets on_success) (code_meets on_code)
      one_meets (loop i body) = then_meets _ _ tick_meets (turns_meet i.b (nat_abs i.number) _ (code_meets body))
