-- Triples: what is true before code runs, what is true if it finishes, and what if it doesn't.
use Rattle.std.proofs.Common.{◌≡◌, ◌≢◌, ℕ, ◌⊎◌, inl, inr, refl, subst, sym, ◌∙◌}
use Rattle.client_spec.specs.Syntax.{Instruction}
use Rattle.client_spec.specs.Answer.{Answer, success}
use Rattle.client_spec.specs.Run.{Machine, Ending, finished, stopped, Way, Nothing, Then, picked, Performs}

stopped_not_finished : (end : Ending) → end ≡ stopped → end ≢ finished
stopped_not_finished end e f = (let g : stopped ≡ finished = sym e ∙ f in cc)

module _ (S : Type 0) where
  -- if A is true before a way, B is true after it if it finishes, and C if it doesn't
  pub record Triple (A : S → Type 0) (way : Way S) (B C : S → Type 0) : Type 0 where
    pub each : (x y : S) (n : ℕ) (end : Ending) → A x → way x y n end → ((end ≡ finished) × B y) ⊎ ((end ≢ finished) × C y)

  pub nothing : (A C : S → Type 0) → Triple A (Nothing S) A C
  nothing A C = record { each = λ x y n end a w. inl (w.ends, subst A (sym w.same) a) }

  pub in_turn : (A B D C : S → Type 0) (first second : Way S) → Triple A first B C → Triple B second D C → Triple A (Then S first second) D C
  in_turn A B D C first second f g = record { each = λ x y n end a w. by x y n end a w }
    where
      by : (x y : S) (n : ℕ) (end : Ending) → A x → Then S first second x y n end → ((end ≡ finished) × D y) ⊎ ((end ≢ finished) × C y)
      by x y n end a (inl w) = elim (f.each x w.0 w.1 finished a w.3) [ inl b ↦ g.each w.0 y w.2 end b.1 w.4 | inr c ↦ absurd (c.0 refl) ]
      by x y n end a (inr w) = elim (f.each x y n end a w.0) [ inl b ↦ absurd (w.1 b.0) | inr c ↦ inr c ]

  pub weaker : (A A' B C : S → Type 0) (way : Way S) → ((x : S) → A x → A' x) → Triple A' way B C → Triple A way B C
  weaker A A' B C way f t = record { each = λ x y n end a w. t.each x y n end (f x a) w }

  pub from_nowhere : (A B C : S → Type 0) (way : Way S) → ((x : S) → A x → ⊥) → Triple A way B C
  from_nowhere A B C way none = record { each = λ x y n end a w. absurd (none x a) }

  -- if the answer is success, only the success part runs
  pub success_part : (A B C : S → Type 0) (good bad : Way S) → Triple A good B C → (answer : Answer) → Triple (λ x. (answer ≡ success) × A x) (picked answer good bad) B C
  success_part A B C good bad t success = weaker (λ x. (success ≡ success) × A x) A B C good (λ x a. a.1) t
  success_part A B C good bad t answer = from_nowhere (λ x. (answer ≡ success) × A x) B C (picked answer good bad) (λ x a. (let e = a.0 in cc))

  module _ (machine : Machine S) where
    pub performs : (A : S → Type 0) (G : Answer → S → Type 0) (B C : S → Type 0) (i : Instruction) (good bad : Way S)
        → ((x : S) (answer : Answer) (y : S) → A x → machine.row i x answer y → G answer y) → ((answer : Answer) → Triple (G answer) (picked answer good bad) B C)
        → ((x y : S) → A x → machine.stop i x y → C y) → ((x : S) → machine.no_row i x → ⊥) → Triple A (Performs S machine i good bad) B C
    performs A G B C i good bad row parts stop none = record { each = λ x y n end a w. by x y n end a w }
      where
        by : (x y : S) (n : ℕ) (end : Ending) → A x → Performs S machine i good bad x y n end → ((end ≡ finished) × B y) ⊎ ((end ≢ finished) × C y)
        by x y n end a (inl w) = (parts w.0).each w.1 y w.2 end (row x w.0 w.1 a w.3) w.4
        by x y n end a (inr (inl w)) = inr (stopped_not_finished end w.2, stop x y a w.0)
        by x y n end a (inr (inr w)) = absurd (none x w.0)
