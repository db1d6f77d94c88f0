-- Two runs of a client's code over images that are alike take the same steps, up to an output that
-- fails.
use Rattle.std.proofs.Common.{◌≡◌, ℕ, ◌+◌, List, ◌++◌, refl, sym, ap, ◌∙◌, subst, inl, inr, pos}
use Rattle.seg_spec.specs.Index.{Root}
use Rattle.client_spec.specs.Syntax.{Constant, Instruction, Statements}
use Rattle.client_spec.specs.Machine.{Register, State}
use Rattle.client_spec.specs.Answer.{Answer, answer_number, integer_at, numbers_used_up}
use Rattle.client_spec.specs.Run.{Ending, stopped, Run}
use Rattle.client_spec.specs.Plain.{CutShort}
use Rattle.client_spec.specs.Safe.{Writes}
use Rattle.client_spec.specs.OnImages.{Move, Situation, base_for, Moves, RowWith, StopOn, image_machine}
use Rattle.client_spec.proofs.Rows.RowFrameLaws.{still, set_follows}
use Rattle.client_spec.proofs.OperationLaws.{rows}
use Rattle.test_definitions.specs.Alike.{AreAlike}
use Rattle.test_definitions.specs.Agreement.{RunAlike, IsLonger, HasMore, AlikeUpTo}
use Rattle.test_definitions.proofs.Runs.CutOutputLaws.{longer_then, Compared, equal, longer, shorter, SameCut, same_cut, row_longer}
use Rattle.test_definitions.proofs.Steps.AlikeRowLaws.{step_alike}
use Rattle.test_definitions.proofs.Runs.TwoRunLaws.{Meet, together, first_stopped, second_stopped, StepsMeet, code_meets}

pub row_writes : (constants : List Constant) (i : Instruction) (bytes : List ℕ) (s : State) (answer : Answer) (t : State) → RowWith constants i bytes s answer t → Writes s t
row_writes constants i bytes s answer t (inl w) = ((rows s constants i.operation i.a i.b i.c i.number w.0).each answer t w.1).writes
row_writes constants i bytes s answer t (inr u) = subst (Writes s) (sym u.0.state) (set_follows s s i.a (Register.Int (pos (answer_number numbers_used_up))) (still s))

module _ (constants : List Constant) (others : List Root) (moves : List Move) where
  same_move : (x z y w : Situation) → RunAlike others x z → Moves moves x y → Moves moves z w → (w.base ≡ y.base) × (w.steps ≡ y.steps)
  same_move x z y w r m n =
      let steps : w.steps ≡ y.steps = n.steps ∙ ap (λ k. k + 1) r.steps ∙ sym m.steps in
      (n.base ∙ ap (λ k. base_for moves k z.base) steps ∙ ap (λ b. base_for moves y.steps b) r.base ∙ sym m.base, steps)

  -- a step that leaves the image as it is
  unmoved : (x z y w : Situation) → RunAlike others x z → Moves moves x y → Moves moves z w → y.image ≡ x.image → w.image ≡ z.image → y.owned ≡ x.owned → w.owned ≡ z.owned → w.state ≡ y.state → RunAlike others y w
  unmoved x z y w r m n same same_too owned owned_too states =
      let move = same_move x z y w r m n in
      let images = subst (λ bytes. AreAlike others x.owned bytes w.image) (sym same) (subst (λ bytes. AreAlike others x.owned x.image bytes) (sym same_too) r.stand.images) in
      record {
        stand = record { states = states; owned = owned_too ∙ r.stand.owned ∙ sym owned; images = subst (λ places. AreAlike others places y.image w.image) (sym owned) images };
        base = move.0;
        steps = move.1;
      }

  grows : (x y z : Situation) (more : List ℕ) → z.state.output ≡ y.state.output ++ more → HasMore x y → HasMore x z
  grows x y z more e l = subst (IsLonger x.state.output) (sym e) (longer_then x.state.output y.state.output more l)

  cut_too : (i : Instruction) (x z w : Situation) → RunAlike others x z → StopOn constants moves i z w → CutShort constants i x.state w.state
  cut_too i x z w r g = subst (λ s. CutShort constants i s w.state) r.stand.states g.cut

  stops_meet : (i : Instruction) (x z y w : Situation) → RunAlike others x z → StopOn constants moves i x y → StopOn constants moves i z w
      → Meet Situation (image_machine constants others moves) (RunAlike others) HasMore y 1 stopped w 1 stopped
  stops_meet i x z y w r f g = by cuts.outputs
    where
      cuts : SameCut constants i x.state y.state w.state
      cuts = same_cut constants i x.state y.state w.state f.cut (cut_too i x z w r g)

      by : Compared y.state.output w.state.output → Meet Situation (image_machine constants others moves) (RunAlike others) HasMore y 1 stopped w 1 stopped
      by (equal e) = together (unmoved x z y w r f.moved g.moved f.image g.image f.owned g.owned (sym (cuts.if_equal e))) refl refl
      by (longer l) = first_stopped refl l
      by (shorter l) = second_stopped refl l

  steps_meet : StepsMeet Situation (image_machine constants others moves) (RunAlike others) HasMore
  steps_meet = record {
    rows = λ i x z y w a b r f g. (
        let one = step_alike constants others moves i x z y w a b r.stand f g in
        let move = same_move x z y w r f.moved g.moved in
        (sym one.answers, record { stand = one.stand; base = move.0; steps = move.1 }));
    stops = stops_meet;
    row_and_stop = λ i x z y w a r f g. row_longer constants i x.state x.image w.state y.state a (cut_too i x z w r g) f.row;
    stop_and_row = λ i x z y w b r f g. row_longer constants i x.state z.image y.state w.state b f.cut (subst (λ s. RowWith constants i z.image s b w.state) r.stand.states g.row);
    never_stuck = λ i x n. n;
    ticks = λ x z y w r f g. unmoved x z y w r f.moved g.moved f.image g.image f.owned g.owned (g.state ∙ r.stand.states ∙ sym f.state);
    numbers = λ x z n r. ap (λ (s : State). integer_at s n) (sym r.stand.states);
    row_ahead = λ i u x y a f l. (let more = row_writes constants i x.image x.state a y.state f.row in grows u x y more.more more.output l);
    stop_ahead = λ i u x y f l. grows u x y f.cut.front (ap (λ (s : State). s.output) f.cut.taken) l;
    tick_ahead = λ u x y f l. subst (λ (s : State). IsLonger u.state.output s.output) (sym f.state) l;
  }

  pub runs_alike : (code : Statements) (x z y w : Situation) (n m : ℕ) (end other : Ending) → RunAlike others x z
      → Run Situation (image_machine constants others moves) code x y n end → Run Situation (image_machine constants others moves) code z w m other → AlikeUpTo others y n end w m other
  runs_alike code x z y w n m end other r f g =
      elim ((code_meets Situation (image_machine constants others moves) (RunAlike others) HasMore steps_meet code).each x z y w n m end other r f g) [
        | together last steps ends ↦ inl (last, steps, ends)
        | first_stopped e l ↦ inr (inl (e, l))
        | second_stopped e l ↦ inr (inr (e, l))
      ]
