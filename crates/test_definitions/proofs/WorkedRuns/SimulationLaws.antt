-- A run over images is a run of the machine of names and values.
use Rattle.std.proofs.Common.{◌≡◌, ◌≢◌, ℕ, zero, suc, List, ap, inl, inr}
use Rattle.std.specs.Prelude.{◌≤◌, nat_abs}
use Rattle.seg_spec.specs.Index.{Root}
use Rattle.seg_spec.specs.Types.{Agree}
use Rattle.client_spec.specs.Syntax.{Constant, Instruction, Statement, plain, opener, loop, Statements, no_more, next, Client}
use Rattle.client_spec.specs.Machine.{State}
use Rattle.client_spec.specs.Answer.{Answer, success, is_zero, already_exists, bad_alloc, absent, other_type, out_of_range, null_or_none, numbers_used_up}
use Rattle.client_spec.specs.Grammar.{IsClient}
use Rattle.client_spec.specs.Run.{Ending, stuck, Way, Nothing, Then, OneStep, picked, Performs, Loops, Run, RunOne, bound}
use Rattle.client_spec.specs.Plain.{plain_machine}
use Rattle.client_spec.specs.Safe.{IsAccepted}
use Rattle.client_spec.specs.OnImages.{Move, Situation, RowWith, TickOn, image_machine, Given, Left, RunsClient}
use Rattle.client_spec.proofs.Runs.TypedRunLaws.{never_wrong}
use Rattle.client_spec.proofs.Unfolded.PictureTreeLaws.{begins_first, pictures_trees}

pub record Maps (way : Way Situation) (plain : Way State) : Type 0 where
  pub each : (x y : Situation) (n : ℕ) (end : Ending) → way x y n end → plain x.state y.state n end

nothing_maps : Maps (Nothing Situation) (Nothing State)
nothing_maps = record { each = λ x y n end w. record { same = ap (λ (z : Situation). z.state) w.same; steps = w.steps; ends = w.ends } }

then_maps : (a b : Way Situation) (c d : Way State) → Maps a c → Maps b d → Maps (Then Situation a b) (Then State c d)
then_maps a b c d f g = record { each = λ x y n end w. by x y n end w }
  where
    by : (x y : Situation) (n : ℕ) (end : Ending) → Then Situation a b x y n end → Then State c d x.state y.state n end
    by x y n end (inl w) = inl (w.0.state, w.1, w.2, f.each _ _ _ _ w.3, g.each _ _ _ _ w.4, w.5)
    by x y n end (inr w) = inr (f.each _ _ _ _ w.0, w.1)

module _ (constants : List Constant) (others : List Root) (moves : List Move) where
  step_maps : Maps (OneStep Situation (TickOn moves)) (OneStep State (λ s s'. s' ≡ s))
  step_maps = record { each = λ x y n end w. record { ticks = w.ticks.state; steps = w.steps; ends = w.ends } }

  picked_maps : (a b : Way Situation) (c d : Way State) → Maps a c → Maps b d → (answer : Answer) → Maps (picked answer a b) (picked answer c d)
  picked_maps a b c d f g success = f
  picked_maps a b c d f g is_zero = g
  picked_maps a b c d f g already_exists = g
  picked_maps a b c d f g bad_alloc = g
  picked_maps a b c d f g absent = g
  picked_maps a b c d f g other_type = g
  picked_maps a b c d f g out_of_range = g
  picked_maps a b c d f g null_or_none = g
  picked_maps a b c d f g numbers_used_up = g

  row_alone : (i : Instruction) (bytes : List ℕ) (s : State) (answer : Answer) (s' : State) → RowWith constants i bytes s answer s' → (plain_machine constants).row i s answer s'
  row_alone i bytes s answer s' (inl r) = inl r
  row_alone i bytes s answer s' (inr u) = inr u.0

  performs_maps : (i : Instruction) (a b : Way Situation) (c d : Way State) → Maps a c → Maps b d → Maps (Performs Situation (image_machine constants others moves) i a b) (Performs State (plain_machine constants) i c d)
  performs_maps i a b c d f g = record { each = λ x y n end w. by x y n end w }
    where
      by : (x y : Situation) (n : ℕ) (end : Ending) → Performs Situation (image_machine constants others moves) i a b x y n end → Performs State (plain_machine constants) i c d x.state y.state n end
      by x y n end (inl w) = inl (w.0, w.1.state, w.2, row_alone i x.image x.state w.0 w.1.state w.3.row, (picked_maps a b c d f g w.0).each _ _ _ _ w.4, w.5)
      by x y n end (inr (inl w)) = inr (inl (w.0.cut, w.1, w.2))
      by x y n end (inr (inr w)) = absurd w.0

  turns_maps : (register turns : ℕ) (a : Way Situation) (c : Way State) → Maps a c → Maps (Loops Situation (image_machine constants others moves) register turns a) (Loops State (plain_machine constants) register turns c)
  turns_maps register zero a c f = nothing_maps
  turns_maps register (suc turns) a c f = turn_maps (then_maps _ _ _ _ step_maps (then_maps _ _ _ _ f (turns_maps register turns a c f)))
    where
      turn_maps : Maps
          (Then Situation (OneStep Situation (TickOn moves)) (Then Situation a (Loops Situation (image_machine constants others moves) register turns a)))
          (Then State (OneStep State (λ s s'. s' ≡ s)) (Then State c (Loops State (plain_machine constants) register turns c)))
          → Maps (Loops Situation (image_machine constants others moves) register (suc turns) a) (Loops State (plain_machine constants) register (suc turns) c)
      turn_maps g = record { each = λ x y n end w. by x y n end w }
        where
          by : (x y : Situation) (n : ℕ) (end : Ending) → Loops Situation (image_machine constants others moves) register (suc turns) a x y n end → Loops State (plain_machine constants) register (suc turns) c x.state y.state n end
          by x y n end (inl w) = inl (w.0, nothing_maps.each x y n end w.1)
          by x y n end (inr (inl w)) = inr (inl (w.0, w.1, w.2, g.each x y n end w.3))
          by x y n end (inr (inr w)) = inr (inr (w.0, ap (λ (z : Situation). z.state) w.1, w.2, w.3))

  mutual
    unfolding Run

    pub run_maps : (cs : Statements) → Maps (Run Situation (image_machine constants others moves) cs) (Run State (plain_machine constants) cs)
    run_maps no_more = nothing_maps
    run_maps (next c cs) = then_maps _ _ _ _ (one_maps c) (run_maps cs)

    pub one_maps : (c : Statement) → Maps (RunOne Situation (image_machine constants others moves) c) (RunOne State (plain_machine constants) c)
    one_maps (plain i) = performs_maps i _ _ _ _ nothing_maps nothing_maps
    one_maps (opener i on_success on_code) = performs_maps i _ _ _ _ (run_maps on_success) (run_maps on_code)
    one_maps (loop i body) = then_maps _ _ _ _ step_maps (turns_maps i.b (nat_abs i.number) _ _ (run_maps body))

pub run_of_states : (constants : List Constant) (others : List Root) (moves : List Move) (code : Statements) (x y : Situation) (n : ℕ) (end : Ending)
    → Run Situation (image_machine constants others moves) code x y n end → Run State (plain_machine constants) code x.state y.state n end
run_of_states constants others moves code x y n end w = (run_maps constants others moves code).each x y n end w

pub client_within_bound : (client : Client) (given : Given) (left : Left) → IsClient client → IsAccepted client → (runs : RunsClient client given left)
    → Agree runs.is_first.picture.table client.types → (left.steps ≤ bound client.code) × (left.ending ≢ stuck)
client_within_bound client given left valid accepted runs agree =
    never_wrong client valid accepted runs.first.state runs.last.state left.steps left.ending (begins_first client given runs.first valid runs.is_first agree)
    (pictures_trees runs.is_first.pictured).1
    (run_of_states client.constants given.others given.moves client.code runs.first runs.last left.steps left.ending runs.run)
