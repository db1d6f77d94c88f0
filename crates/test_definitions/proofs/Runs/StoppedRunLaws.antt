-- The output of a run that is stopped is a proper prefix of the output of a whole run.
use Rattle.std.proofs.Common.{◌≡◌, ◌≢◌, ℕ, zero, suc, ◌+◌, ◌<◌, List, [], ◌++◌, length, refl, sym, ap, ◌∙◌, subst, arith, inl, inr}
use Rattle.std.specs.Prelude.{nat_abs, pos}
use Rattle.std.proofs.lemmas.List.{append_assoc, length-append}
use Rattle.client_spec.specs.Syntax.{Constant, Instruction, Statement, plain, opener, loop, Statements, no_more, next, Client}
use Rattle.client_spec.specs.Grammar.{IsClient}
use Rattle.client_spec.specs.Machine.{Register, State}
use Rattle.client_spec.specs.Answer.{Answer, answer_number, success, is_zero, already_exists, bad_alloc, absent, other_type, out_of_range, null_or_none, numbers_used_up}
use Rattle.client_spec.specs.Run.{Ending, finished, stopped, stuck, Way, Nothing, Then, OneStep, picked, Performs, Loops, Run, RunOne}
use Rattle.client_spec.specs.Plain.{plain_machine}
use Rattle.client_spec.specs.Trees.{AreTrees}
use Rattle.client_spec.specs.Safe.{MayBegin, IsAccepted, Writes, IsFront}
use Rattle.client_spec.proofs.Rows.RowFrameLaws.{still, onward, set_follows}
use Rattle.client_spec.proofs.OperationLaws.{rows}
use Rattle.client_spec.proofs.Runs.TypedRunLaws.{never_wrong}
use Rattle.client_spec.proofs.Runs.TotalRunLaws.{Total, nothing_total, then_total, step_total, turns_total, one_total}

-- each run of the way keeps the types, and only appends to the output
record Grows (way : Way State) : Type 0 where
  each : (s t : State) (n : ℕ) (end : Ending) → way s t n end → Writes s t

-- instead of stopping, the run could have continued, with more output
record Further (way : Way State) (s t : State) : Type 0 where
  last : State
  steps : ℕ
  ending : Ending
  runs : way s last steps ending
  goes_on : ending ≢ stopped
  rest : List ℕ
  output : last.output ≡ t.output ++ rest
  some : 0 < length rest

record GoesOn (way : Way State) : Type 0 where
  each : (s t : State) (n : ℕ) → way s t n stopped → Further way s t

-- the way has all three properties
record Way_is (way : Way State) : Type 0 where
  total : Total way
  grows : Grows way
  on : GoesOn way

nothing_is : Way_is (Nothing State)
nothing_is = record {
  total = nothing_total;
  grows = record { each = λ s t n end w. subst (Writes s) (sym w.same) (still s) };
  on = record { each = λ s t n w. absurd (let e = w.ends in cc) };
}

longer_rest : (xs ys zs : List ℕ) (out last whole : List ℕ) → 0 < length ys → whole ≡ out ++ ys → last ≡ whole ++ zs → (last ≡ out ++ (ys ++ zs)) × (0 < length (ys ++ zs))
longer_rest xs ys zs out last whole some e f = (f ∙ ap (λ ws. ws ++ zs) e ∙ append_assoc out ys zs, (let n = length-append ys zs in omega arith))

module _ (first second : Way State) (f : Way_is first) (g : Way_is second) where
  -- the second way continues from the end of the first
  then_on : (s t : State) → Further first s t → Further (Then State first second) s t
  then_on s t h = go h.ending h.runs h.goes_on
    where
      go : (end : Ending) → first s h.last h.steps end → end ≢ stopped → Further (Then State first second) s t
      go finished w ne =
          let r = g.total.each h.last in
          let more = g.grows.each h.last r.0 r.1 r.2 r.3 in
          let all = longer_rest [] h.rest more.more t.output r.0.output h.last.output h.some h.output more.output in
          record { last = r.0; steps = h.steps + r.1; ending = r.2; runs = inl (h.last, h.steps, r.1, w, r.3, refl); goes_on = r.4; rest = h.rest ++ more.more; output = all.0; some = all.1 }
      go stopped w ne = absurd (ne refl)
      go stuck w ne = record { last = h.last; steps = h.steps; ending = stuck; runs = inr (w, λ e. cc); goes_on = λ e. cc; rest = h.rest; output = h.output; some = h.some }

  then_is : Way_is (Then State first second)
  then_is = record {
    total = then_total first second f.total g.total;
    grows = record { each = grow };
    on = record { each = on };
  }
    where
      grow : (s t : State) (n : ℕ) (end : Ending) → Then State first second s t n end → Writes s t
      grow s t n end (inl w) = onward s w.0 t (f.grows.each s w.0 w.1 finished w.3) (g.grows.each w.0 t w.2 end w.4)
      grow s t n end (inr w) = f.grows.each s t n end w.0

      on : (s t : State) (n : ℕ) → Then State first second s t n stopped → Further (Then State first second) s t
      on s t n (inl w) =
          let h = g.on.each w.0 t w.2 w.4 in
          record { last = h.last; steps = w.1 + h.steps; ending = h.ending; runs = inl (w.0, w.1, h.steps, w.3, h.runs, refl); goes_on = h.goes_on; rest = h.rest; output = h.output; some = h.some }
      on s t n (inr w) = then_on s t (f.on.each s t n w.0)

module _ (constants : List Constant) where
  step_is : Way_is (OneStep State (plain_machine constants).tick)
  step_is = record {
    total = step_total constants;
    grows = record { each = λ s t n end w. subst (Writes s) (sym w.ticks) (still s) };
    on = record { each = λ s t n w. absurd (let e = w.ends in cc) };
  }

  picked_is : (first second : Way State) → Way_is first → Way_is second → (answer : Answer) → Way_is (picked answer first second)
  picked_is first second f g success = f
  picked_is first second f g is_zero = g
  picked_is first second f g already_exists = g
  picked_is first second f g bad_alloc = g
  picked_is first second f g absent = g
  picked_is first second f g other_type = g
  picked_is first second f g out_of_range = g
  picked_is first second f g null_or_none = g
  picked_is first second f g numbers_used_up = g

  row_writes : (i : Instruction) (s : State) (answer : Answer) (s' : State) → (plain_machine constants).row i s answer s' → Writes s s'
  row_writes i s answer s' (inl w) = ((rows s constants i.operation i.a i.b i.c i.number w.0).each answer s' w.1).writes
  row_writes i s answer s' (inr u) = subst (Writes s) (sym u.state) (set_follows s s i.a (Register.Int (pos (answer_number numbers_used_up))) (still s))

  performs_is : (i : Instruction) (first second : Way State) → Way_is first → Way_is second → Total (Performs State (plain_machine constants) i first second) → Way_is (Performs State (plain_machine constants) i first second)
  performs_is i first second f g total = record { total = total; grows = record { each = grow }; on = record { each = on } }
    where
      grow : (s t : State) (n : ℕ) (end : Ending) → Performs State (plain_machine constants) i first second s t n end → Writes s t
      grow s t n end (inl w) = onward s w.1 t (row_writes i s w.0 w.1 w.3) ((picked_is first second f g w.0).grows.each w.1 t w.2 end w.4)
      grow s t n end (inr (inl w)) = record { types = ap (λ (x : State). x.types) w.0.taken; more = w.0.front; output = ap (λ (x : State). x.output) w.0.taken }
      grow s t n end (inr (inr w)) = subst (Writes s) (sym w.1) (still s)

      on : (s t : State) (n : ℕ) → Performs State (plain_machine constants) i first second s t n stopped → Further (Performs State (plain_machine constants) i first second) s t
      on s t n (inl w) =
          let h = (picked_is first second f g w.0).on.each w.1 t w.2 w.4 in
          record { last = h.last; steps = 1 + h.steps; ending = h.ending; runs = inl (w.0, w.1, h.steps, w.3, h.runs, refl); goes_on = h.goes_on; rest = h.rest; output = h.output; some = h.some }
      on s t n (inr (inl w)) =
          let cut = w.0 in
          let r = f.total.each cut.whole in
          let more = f.grows.each cut.whole r.0 r.1 r.2 r.3 in
          let whole : cut.whole.output ≡ t.output ++ cut.lost = cut.bytes ∙ sym (append_assoc s.output cut.front cut.lost) ∙ sym (ap (λ (x : State). x.output ++ cut.lost) cut.taken) in
          let all = longer_rest [] cut.lost more.more t.output r.0.output cut.whole.output cut.proper whole more.output in
          record { last = r.0; steps = 1 + r.1; ending = r.2; runs = inl (success, cut.whole, r.1, inl (cut.room, cut.written), r.3, refl); goes_on = r.4; rest = cut.lost ++ more.more; output = all.0; some = all.1 }
      on s t n (inr (inr w)) = absurd (let e = w.3 in cc)

  turns_is : (register turns : ℕ) (body : Way State) → Way_is body → Way_is (Loops State (plain_machine constants) register turns body)
  turns_is register zero body b = nothing_is
  turns_is register (suc turns) body b = turn_is (then_is _ _ step_is (then_is _ _ b (turns_is register turns body b)))
    where
      turn_is : Way_is (Then State (OneStep State (plain_machine constants).tick) (Then State body (Loops State (plain_machine constants) register turns body))) → Way_is (Loops State (plain_machine constants) register (suc turns) body)
      turn_is r = record { total = turns_total constants register (suc turns) body b.total; grows = record { each = grow }; on = record { each = on } }
        where
          grow : (s t : State) (n : ℕ) (end : Ending) → Loops State (plain_machine constants) register (suc turns) body s t n end → Writes s t
          grow s t n end (inl w) = nothing_is.grows.each s t n end w.1
          grow s t n end (inr (inl w)) = r.grows.each s t n end w.3
          grow s t n end (inr (inr w)) = subst (Writes s) (sym w.1) (still s)

          on : (s t : State) (n : ℕ) → Loops State (plain_machine constants) register (suc turns) body s t n stopped → Further (Loops State (plain_machine constants) register (suc turns) body) s t
          on s t n (inl w) = absurd (let e = w.1.ends in cc)
          on s t n (inr (inl w)) =
              let h = r.on.each s t n w.3 in
              record { last = h.last; steps = h.steps; ending = h.ending; runs = inr (inl (w.0, w.1, w.2, h.runs)); goes_on = h.goes_on; rest = h.rest; output = h.output; some = h.some }
          on s t n (inr (inr w)) = absurd (let e = w.3 in cc)

  mutual
    unfolding Run

    run_is : (cs : Statements) → Way_is (Run State (plain_machine constants) cs)
    run_is no_more = nothing_is
    run_is (next c cs) = then_is _ _ (one_is c) (run_is cs)

    one_is : (c : Statement) → Way_is (RunOne State (plain_machine constants) c)
    one_is (plain i) = performs_is i _ _ nothing_is nothing_is (one_total constants (plain i))
    one_is (opener i on_success on_code) = performs_is i _ _ (run_is on_success) (run_is on_code) (one_total constants (opener i on_success on_code))
    one_is (loop i body) = then_is _ _ step_is (turns_is i.b (nat_abs i.number) _ (run_is body))

-- a run keeps the types, and only appends to the output
pub run_writes : (constants : List Constant) (code : Statements) (s t : State) (n : ℕ) (end : Ending) → Run State (plain_machine constants) code s t n end → Writes s t
run_writes constants code = (run_is constants code).grows.each

pub front_of_whole : (client : Client) (s t : State) (n : ℕ) → IsClient client → IsAccepted client → MayBegin client s → AreTrees s → Run State (plain_machine client.constants) client.code s t n stopped → IsFront client s t
front_of_whole client s t n valid accepted begins trees w = go h.ending h.runs h.goes_on
  where
    h : Further (Run State (plain_machine client.constants) client.code) s t
    h = (run_is client.constants client.code).on.each s t n w

    go : (end : Ending) → Run State (plain_machine client.constants) client.code s h.last h.steps end → end ≢ stopped → IsFront client s t
    go finished runs ne = record { last = h.last; steps = h.steps; runs = runs; rest = h.rest; output = h.output; some = h.some }
    go stopped runs ne = absurd (ne refl)
    go stuck runs ne = absurd ((never_wrong client valid accepted s h.last h.steps stuck begins trees runs).1 refl)
