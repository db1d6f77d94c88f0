-- Runs of instructions that write no output, and code with a success part and an else part.
use Rattle.std.proofs.Common.{◌≡◌, ◌≢◌, ℕ, zero, suc, ◌+◌, ◌<◌, List, [], ◌∷◌, ◌++◌, drop, length, Bool, Some, None, slice_get, ◌⊎◌, inl, inr, refl, sym, ◌∙◌, ap, subst, arith, append_assoc, length-append}
use Rattle.std.proofs.lemmas.List.{append-nil}
use Rattle.client_spec.proofs.TypedStates.ValueLaws.{Some_inj}
use Rattle.client_spec.specs.Syntax.{Constant, Instruction, plain, opener, Statements, no_more, next}
use Rattle.client_spec.specs.declared.table.Operation.TheVariants as operation
use Rattle.client_spec.specs.Machine.{State}
use Rattle.client_spec.specs.Answer.{Answer, success}
use Rattle.client_spec.specs.Effect.{outcome}
use Rattle.client_spec.specs.Run.{Ending, finished, stopped, stuck, Way, Nothing, picked, Performs, Run, RunOne}
use Rattle.client_spec.specs.Run as run
use Rattle.client_spec.specs.Plain.{CutShort, plain_machine}
use Rattle.client_spec.specs.Grammar.{mark, listing}

-- each row of the instruction in this state leaves the output as it is
pub record Quiet (constants : List Constant) (i : Instruction) (s : State) : Type 0 where
  pub same : (room : Bool) (answer : Answer) (s' : State) → outcome constants i room s ≡ Some (answer, s') → s'.output ≡ s.output
  pub no_freeze : i.operation ≢ operation.Freeze

-- a row of the instruction, and a run of the part for its answer
pub record Went (constants : List Constant) (i : Instruction) (good bad : Way State) (s s' : State) (end : Ending) : Type 0 where
  pub room : Bool
  pub answer : Answer
  pub mid : State
  pub steps : ℕ
  pub row : outcome constants i room s ≡ Some (answer, mid)
  pub run : picked answer good bad mid s' steps end

pub picked_both : (answer : Answer) (way : Way State) (s s' : State) (n : ℕ) (end : Ending) → picked answer way way s s' n end → way s s' n end
picked_both success way s s' n end w = w
picked_both answer way s s' n end w = w

pub picked_bad : (answer : Answer) (good bad : Way State) (s s' : State) (n : ℕ) (end : Ending) → answer ≢ success → picked answer good bad s s' n end → bad s s' n end
picked_bad success good bad s s' n end f w = absurd (f refl)
picked_bad answer good bad s s' n end f w = w

pub picked_good : (answer : Answer) (good bad : Way State) (s s' : State) (n : ℕ) (end : Ending) → answer ≡ success → picked answer good bad s s' n end → good s s' n end
picked_good answer good bad s s' n end e w = subst (λ a. picked a good bad s s' n end) e w

grows : (xs ys zs : List ℕ) → xs ≡ xs ++ (ys ++ zs) → 0 < length zs → ⊥
grows xs ys zs e f =
    let q : length xs ≡ length xs + (length ys + length zs) = ap length e ∙ simp length-append in
    omega (arith, q, f)

module _ (constants : List Constant) where
  pub not_cut : (i : Instruction) (s s' : State) → Quiet constants i s → CutShort constants i s s' → ⊥
  not_cut i s s' quiet cut = grows s.output cut.front cut.lost (sym (quiet.same cut.room success cut.whole cut.written) ∙ cut.bytes) cut.proper

  pub went : (i : Instruction) (good bad : Way State) (s s' : State) (n : ℕ) (end : Ending) → Quiet constants i s
      → Performs State (plain_machine constants) i good bad s s' n end → (end ≡ stuck) ⊎ Went constants i good bad s s' end
  went i good bad s s' n end quiet (inl w) =
      elim w.3 [ inl r ↦ inr (record { room = r.0; answer = w.0; mid = w.1; steps = w.2; row = r.1; run = w.4 }) | inr u ↦ absurd (quiet.no_freeze u.freezes) ]
  went i good bad s s' n end quiet (inr (inl w)) = absurd (not_cut i s s' quiet w.0)
  went i good bad s s' n end quiet (inr (inr w)) = inl w.3

  -- a row of an instruction without parts, and a run of the code after it
  pub record WentOn (i : Instruction) (rest : Way State) (s s' : State) (end : Ending) : Type 0 where
    pub room : Bool
    pub answer : Answer
    pub mid : State
    pub steps : ℕ
    pub row : outcome constants i room s ≡ Some (answer, mid)
    pub run : rest mid s' steps end

  went_on : (i : Instruction) (rest : Way State) (s s' : State) (n : ℕ) (end : Ending) → Quiet constants i s
      → run.Then State (Performs State (plain_machine constants) i (Nothing State) (Nothing State)) rest s s' n end → (end ≡ stuck) ⊎ WentOn i rest s s' end
  went_on i rest s s' n end quiet (inl w) =
      elim (went i (Nothing State) (Nothing State) s w.0 w.1 finished quiet w.3) [
        | inl e ↦ (let e' : finished ≡ stuck = e in absurd (cc))
        | inr g ↦
            let t = picked_both g.answer (Nothing State) g.mid w.0 g.steps finished g.run in
            inr (record { room = g.room; answer = g.answer; mid = g.mid; steps = w.2; row = g.row; run = subst (λ t. rest t s' w.2 end) t.same w.4 })
      ]
  went_on i rest s s' n end quiet (inr w) =
      elim (went i (Nothing State) (Nothing State) s s' n end quiet w.0) [
        | inl e ↦ inl e
        | inr g ↦ (let t = picked_both g.answer (Nothing State) g.mid s' g.steps end g.run in absurd (w.1 t.ends))
      ]

  pub plain_went : (i : Instruction) (cs : Statements) (s s' : State) (n : ℕ) (end : Ending) → Quiet constants i s
      → Run State (plain_machine constants) (next (plain i) cs) s s' n end → (end ≡ stuck) ⊎ WentOn i (Run State (plain_machine constants) cs) s s' end
  unfolding Run
  plain_went i cs s s' n end quiet w = went_on i (Run State (plain_machine constants) cs) s s' n end quiet w

  -- a run of no code changes nothing
  pub nothing_went : (s s' : State) (n : ℕ) (end : Ending) → Run State (plain_machine constants) no_more s s' n end → Nothing State s s' n end
  unfolding Run
  nothing_went s s' n end w = w

  then_nothing : (first : Way State) (s s' : State) (n : ℕ) (end : Ending) → run.Then State first (Nothing State) s s' n end → (k : ℕ) × first s s' k end
  then_nothing first s s' n end (inl w) = (w.1, subst (λ t. first s t w.1 end) (sym w.4.same) (subst (λ e. first s w.0 w.1 e) (sym w.4.ends) w.3))
  then_nothing first s s' n end (inr w) = (n, w.0)

  pub opener_went : (i : Instruction) (good bad : Statements) (s s' : State) (n : ℕ) (end : Ending) → Quiet constants i s
      → Run State (plain_machine constants) (next (opener i good bad) no_more) s s' n end
      → (end ≡ stuck) ⊎ Went constants i (Run State (plain_machine constants) good) (Run State (plain_machine constants) bad) s s' end
  unfolding Run
  opener_went i good bad s s' n end quiet w =
      let p = then_nothing (Performs State (plain_machine constants) i (Run State (plain_machine constants) good) (Run State (plain_machine constants) bad)) s s' n end w in
      went i (Run State (plain_machine constants) good) (Run State (plain_machine constants) bad) s s' p.0 end quiet p.1

-- ---- listings

pub drop_at : {A : Type 0} (xs : List A) (at : ℕ) (x : A) → slice_get xs at ≡ Some x → drop at xs ≡ x ∷ drop (suc at) xs
drop_at [] at x e = absurd (let g : None ≡ Some x = e in cc)
drop_at (y ∷ ys) zero x e = let g : y ≡ x = Some_inj e in ap (λ z. z ∷ ys) g
drop_at (y ∷ ys) (suc at) x e = drop_at ys at x e

relisted : (i x y : Instruction) (xs ys rest : List Instruction) → ((i ∷ xs ++ x ∷ ys ++ y ∷ []) ++ []) ++ rest ≡ i ∷ (xs ++ (x ∷ (ys ++ (y ∷ rest))))
relisted i x y xs ys rest = simp (append_assoc, append-nil {A = Instruction})

module _ (L : List Instruction) where
  -- an opener at a position, with its parts after it
  pub record OpenerAt (start finish : ℕ) (i : Instruction) (good bad : Statements) : Type 0 where
    pub else_at : ℕ
    pub end_at : ℕ
    pub there : slice_get L start ≡ Some i
    pub good_at : drop (suc start) L ≡ listing good ++ drop else_at L
    pub at_else : slice_get L else_at ≡ Some (mark operation.Else)
    pub bad_at : drop (suc else_at) L ≡ listing bad ++ drop end_at L
    pub at_end : slice_get L end_at ≡ Some (mark operation.End)
    pub after : finish ≡ suc end_at

  pub opener_spelled : (start finish : ℕ) (i : Instruction) (good bad : Statements) → OpenerAt start finish i good bad
      → drop start L ≡ listing (next (opener i good bad) no_more) ++ drop finish L
  unfolding listing
  opener_spelled start finish i good bad o =
      drop_at L start i o.there ∙ ap (λ xs. i ∷ xs) (o.good_at ∙ ap (λ xs. listing good ++ xs) (drop_at L o.else_at (mark operation.Else) o.at_else
      ∙ ap (λ xs. mark operation.Else ∷ xs) (o.bad_at ∙ ap (λ xs. listing bad ++ xs) (drop_at L o.end_at (mark operation.End) o.at_end))))
      ∙ sym (relisted i (mark operation.Else) (mark operation.End) (listing good) (listing bad) (drop (suc o.end_at) L))
      ∙ ap (λ n. listing (next (opener i good bad) no_more) ++ drop n L) (sym o.after)

  -- the listing of an instruction and the code after it
  pub plain_spelled : (at finish : ℕ) (i : Instruction) (cs : Statements) → slice_get L at ≡ Some i → drop (suc at) L ≡ listing cs ++ drop finish L
      → drop at L ≡ listing (next (plain i) cs) ++ drop finish L
  unfolding listing
  plain_spelled at finish i cs there rest = drop_at L at i there ∙ ap (λ xs. i ∷ xs) rest

  pub nothing_spelled : (at : ℕ) → drop at L ≡ listing no_more ++ drop at L
  unfolding listing
  nothing_spelled at = refl
