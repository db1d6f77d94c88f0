-- A run doesn't depend on the segment's place. For any host, base and moves there is a run with the
-- same steps, the same output and the same final image.
use Rattle.std.proofs.Common.{◌≡◌, ℕ, zero, suc, ◌++◌, List, [], ◌∷◌, refl, sym, ap, ◌∙◌, subst, inl, inr}
use Rattle.std.specs.Prelude.{nat_abs, ⊤}
use Rattle.seg_spec.specs.Bytes.{put}
use Rattle.seg_spec.specs.Index.{Root}
use Rattle.client_spec.specs.Syntax.{Constant, Instruction, Statement, plain, opener, loop, Statements, no_more, next, Client}
use Rattle.client_spec.specs.Answer.{Answer, success, is_zero, already_exists, bad_alloc, absent, other_type, out_of_range, null_or_none, numbers_used_up}
use Rattle.client_spec.specs.Run.{Ending, finished, stopped, stuck, Way, Nothing, Then, OneStep, picked, Performs, Loops, Run, RunOne}
use Rattle.client_spec.specs.OnImages.{Move, Situation, base_for, Moves, RowOn, TickOn, image_machine, Given, Left, RunsClient}
use Rattle.client_spec.specs.Clients.{given_next, GoesOn, RunClients, StayWithin, outputs, image_after, ending_after}

-- ---- one client

-- the situation with the image at a base of a host
abbrev at : Situation → List ℕ → ℕ → Situation
at x host base = record { state = x.state; image = x.image; host = host; base = base; steps = x.steps; owned = x.owned }

-- `other` has the same runs as `way`, from any host and base
record Follows (way other : Way Situation) : Type 0 where
  pub each : (x y : Situation) (n : ℕ) (end : Ending) → way x y n end → (host : List ℕ) (base : ℕ) → (host_then : List ℕ) × (base_then : ℕ) × other (at x host base) (at y host_then base_then) n end

nothing_follows : Follows (Nothing Situation) (Nothing Situation)
nothing_follows = record { each = λ x y n end w host base. (host, base, record { same = ap (λ z. at z host base) w.same; steps = w.steps; ends = w.ends }) }

then_follows : (a b c d : Way Situation) → Follows a c → Follows b d → Follows (Then Situation a b) (Then Situation c d)
then_follows a b c d f g = record { each = λ x y n end w host base. by x y n end w host base }
  where
    by : (x y : Situation) (n : ℕ) (end : Ending) → Then Situation a b x y n end → (host : List ℕ) (base : ℕ)
        → (host_then : List ℕ) × (base_then : ℕ) × Then Situation c d (at x host base) (at y host_then base_then) n end
    by x y n end (inl w) host base =
        let first = f.each _ _ _ _ w.3 host base in
        let second = g.each _ _ _ _ w.4 first.0 first.1 in
        (second.0, second.1, inl (at w.0 first.0 first.1, w.1, w.2, first.2, second.2, w.5))
    by x y n end (inr w) host base = let first = f.each _ _ _ _ w.0 host base in (first.0, first.1, inr (first.2, w.1))

module _ (constants : List Constant) (others : List Root) (moves other : List Move) where
  -- where the segment is after a step
  abbrev base_at : Situation → ℕ → ℕ
  base_at y base = base_for other y.steps base

  abbrev host_at : Situation → List ℕ → ℕ → List ℕ
  host_at y host base = put host (base_at y base) y.image

  moved_there : (x y : Situation) → Moves moves x y → (host : List ℕ) (base : ℕ) → Moves other (at x host base) (at y (host_at y host base) (base_at y base))
  moved_there x y w host base = record { steps = w.steps; base = refl; host = refl }

  step_follows : Follows (OneStep Situation (TickOn moves)) (OneStep Situation (TickOn other))
  step_follows = record {
    each = λ x y n end w host base. (
      host_at y host base,
      base_at y base,
      record { ticks = record { state = w.ticks.state; image = w.ticks.image; moved = moved_there x y w.ticks.moved host base; owned = w.ticks.owned }; steps = w.steps; ends = w.ends },
    );
  }

  row_there : (i : Instruction) (x y : Situation) (answer : Answer) → RowOn constants others moves i x answer y → (host : List ℕ) (base : ℕ)
      → RowOn constants others other i (at x host base) answer (at y (host_at y host base) (base_at y base))
  row_there i x y answer w host base = record {
    row = w.row;
    before = w.before;
    after = w.after;
    blocks = w.blocks;
    ties = w.ties;
    frozen_kept = w.frozen_kept;
    length_kept = w.length_kept;
    header_kept = w.header_kept;
    moved = moved_there x y w.moved host base;
    owned_before = w.owned_before;
    owned_after = w.owned_after;
    owners_stay = w.owners_stay;
    owners_come = w.owners_come;
    objects_stay = w.objects_stay;
    objects_come = w.objects_come;
  }

  picked_follows : (a b c d : Way Situation) → Follows a c → Follows b d → (answer : Answer) → Follows (picked answer a b) (picked answer c d)
  picked_follows a b c d f g success = f
  picked_follows a b c d f g is_zero = g
  picked_follows a b c d f g already_exists = g
  picked_follows a b c d f g bad_alloc = g
  picked_follows a b c d f g absent = g
  picked_follows a b c d f g other_type = g
  picked_follows a b c d f g out_of_range = g
  picked_follows a b c d f g null_or_none = g
  picked_follows a b c d f g numbers_used_up = g

  performs_follows : (i : Instruction) (a b c d : Way Situation) → Follows a c → Follows b d
      → Follows (Performs Situation (image_machine constants others moves) i a b) (Performs Situation (image_machine constants others other) i c d)
  performs_follows i a b c d f g = record { each = λ x y n end w host base. by x y n end w host base }
    where
      by : (x y : Situation) (n : ℕ) (end : Ending) → Performs Situation (image_machine constants others moves) i a b x y n end → (host : List ℕ) (base : ℕ)
          → (host_then : List ℕ) × (base_then : ℕ) × Performs Situation (image_machine constants others other) i c d (at x host base) (at y host_then base_then) n end
      by x y n end (inl w) host base =
          let then_on = (picked_follows a b c d f g w.0).each _ _ _ _ w.4 (host_at w.1 host base) (base_at w.1 base) in
          (then_on.0, then_on.1, inl (w.0, at w.1 (host_at w.1 host base) (base_at w.1 base), w.2, row_there i x w.1 w.0 w.3 host base, then_on.2, w.5))
      by x y n end (inr (inl w)) host base = (
        host_at y host base,
        base_at y base,
        inr (inl (record { cut = w.0.cut; image = w.0.image; moved = moved_there x y w.0.moved host base; owned = w.0.owned }, w.1, w.2)),
      )
      by x y n end (inr (inr w)) host base = absurd w.0

  turns_follow : (register turns : ℕ) (a c : Way Situation) → Follows a c
      → Follows (Loops Situation (image_machine constants others moves) register turns a) (Loops Situation (image_machine constants others other) register turns c)
  turns_follow register zero a c f = nothing_follows
  turns_follow register (suc turns) a c f = turn_follows (then_follows _ _ _ _ step_follows (then_follows _ _ _ _ f (turns_follow register turns a c f)))
    where
      turn_follows : Follows
          (Then Situation (OneStep Situation (TickOn moves)) (Then Situation a (Loops Situation (image_machine constants others moves) register turns a)))
          (Then Situation (OneStep Situation (TickOn other)) (Then Situation c (Loops Situation (image_machine constants others other) register turns c)))
          → Follows (Loops Situation (image_machine constants others moves) register (suc turns) a) (Loops Situation (image_machine constants others other) register (suc turns) c)
      turn_follows g = record { each = λ x y n end w host base. by x y n end w host base }
        where
          by : (x y : Situation) (n : ℕ) (end : Ending) → Loops Situation (image_machine constants others moves) register (suc turns) a x y n end → (host : List ℕ) (base : ℕ)
              → (host_then : List ℕ) × (base_then : ℕ) × Loops Situation (image_machine constants others other) register (suc turns) c (at x host base) (at y host_then base_then) n end
          by x y n end (inl w) host base = let none = nothing_follows.each x y n end w.1 host base in (none.0, none.1, inl (w.0, none.2))
          by x y n end (inr (inl w)) host base = let turn = g.each x y n end w.3 host base in (turn.0, turn.1, inr (inl (w.0, w.1, w.2, turn.2)))
          by x y n end (inr (inr w)) host base = (host, base, inr (inr (w.0, ap (λ z. at z host base) w.1, w.2, w.3)))

  mutual
    unfolding Run

    run_follows : (cs : Statements) → Follows (Run Situation (image_machine constants others moves) cs) (Run Situation (image_machine constants others other) cs)
    run_follows no_more = nothing_follows
    run_follows (next c cs) = then_follows _ _ _ _ (one_follows c) (run_follows cs)

    one_follows : (c : Statement) → Follows (RunOne Situation (image_machine constants others moves) c) (RunOne Situation (image_machine constants others other) c)
    one_follows (plain i) = performs_follows i _ _ _ _ nothing_follows nothing_follows
    one_follows (opener i on_success on_code) = performs_follows i _ _ _ _ (run_follows on_success) (run_follows on_code)
    one_follows (loop i body) = then_follows _ _ _ _ step_follows (turns_follow i.b (nat_abs i.number) _ _ (run_follows body))

-- what is given, and the result, with the image at a base of a host
abbrev pub given_at : Given → List Move → List ℕ → ℕ → Given
given_at given moves host base = record { others = given.others; moves = moves; image = given.image; host = host; base = base; input = given.input }

abbrev pub left_at : Left → List ℕ → ℕ → Left
left_at left host base = record { steps = left.steps; read = left.read; ending = left.ending; output = left.output; image = left.image; host = host; base = base }

client_anywhere : (client : Client) (given : Given) (left : Left) → RunsClient client given left → (moves : List Move) (host : List ℕ) (base : ℕ)
    → (host_then : List ℕ) × (base_then : ℕ) × RunsClient client (given_at given moves host base) (left_at left host_then base_then)
client_anywhere client given left r moves host base =
    let f = r.is_first in
    let l = r.is_left in
    let host_first = put host base r.first.image in
    let on = (run_follows client.constants given.others given.moves moves client.code).each r.first r.last left.steps left.ending r.run host_first base in
    let host_last = put on.0 on.1 left.image in (
      host_last,
      on.1,
      record {
        first = at r.first host_first base;
        is_first = record {
          picture = f.picture;
          held = f.held;
          counted = f.counted;
          loose = f.loose;
          types = f.types;
          objects = f.objects;
          registers = f.registers;
          input = f.input;
          output = f.output;
          pictured = f.pictured;
          types_alone = f.types_alone;
          objects_stay = f.objects_stay;
          host = refl;
          base = refl;
          steps = f.steps;
          owned = f.owned;
        };
        last = at r.last on.0 on.1;
        run = on.2;
        is_left = record {
          trees = l.trees;
          owned_are = l.owned_are;
          owned_blocks = l.owned_blocks;
          owned = l.owned;
          shared_blocks = l.shared_blocks;
          shared = l.shared;
          returned = l.returned;
          length_kept = l.length_kept;
          header_kept = l.header_kept;
          next_kept = l.next_kept;
          image_kept = l.image_kept;
          kept = l.kept;
          frozen_kept = l.frozen_kept;
          picture = l.picture;
          held = l.held;
          counted = l.counted;
          types = l.types;
          objects = l.objects;
          objects_stay = l.objects_stay;
          loose = l.loose;
          read_there = l.read_there;
          input = l.input;
          output = l.output;
          base = refl;
          host = refl;
        };
      },
    )

-- ---- several

-- they differ only in the host and the base
abbrev pub AreAlike : List Left → List Left → Type 0
AreAlike [] [] = ⊤
AreAlike [] (other ∷ others) = ⊥
AreAlike (left ∷ lefts) [] = ⊥
AreAlike (left ∷ lefts) (other ∷ others) = ((host : List ℕ) × (base : ℕ) × (other ≡ left_at left host base)) × AreAlike lefts others

pub clients_anywhere : (clients : List Client) (given : Given) (lefts : List Left) → RunClients clients given lefts → (moves : List Move) (host : List ℕ) (base : ℕ)
    → (others : List Left) × AreAlike lefts others × RunClients clients (given_at given moves host base) others
clients_anywhere [] given [] r moves host base = ([], tt, tt)
clients_anywhere [] given (left ∷ lefts) r moves host base = absurd r
clients_anywhere (client ∷ clients) given [] r moves host base = absurd r
clients_anywhere (client ∷ clients) given (left ∷ lefts) r moves host base =
    let one = client_anywhere client given left r.0 moves host base in
    let its = left_at left one.0 one.1 in
    let more = rest one.0 one.1 left.ending (λ g. clients_anywhere clients (given_next given left) lefts g moves one.0 one.1) r.1 in
    (its ∷ more.0, ((one.0, one.1, refl), more.1), (one.2, more.2))
  where
    -- the results of the clients after this one, from the host and base that it leaves
    Rest : (host_then : List ℕ) (base_then : ℕ) (others : List Left) → Type 0
    Rest host_then base_then others = RunClients clients (given_next (given_at given moves host base) (left_at left host_then base_then)) others

    rest : (host_then : List ℕ) (base_then : ℕ) (end : Ending)
        → (RunClients clients (given_next given left) lefts → (others : List Left) × AreAlike lefts others × Rest host_then base_then others)
        → GoesOn end (RunClients clients (given_next given left) lefts) lefts
        → (others : List Left) × AreAlike lefts others × GoesOn end (Rest host_then base_then others) others
    rest host_then base_then finished f g = f g
    rest host_then base_then stopped f g = ([], subst (λ ls. AreAlike ls []) (sym g) tt, refl)
    rest host_then base_then stuck f g = absurd g

-- ---- the results are the same

pub outputs_alike : (lefts others : List Left) → AreAlike lefts others → outputs others ≡ outputs lefts
outputs_alike [] [] h = refl
outputs_alike [] (other ∷ others) h = absurd h
outputs_alike (left ∷ lefts) [] h = absurd h
outputs_alike (left ∷ lefts) (other ∷ others) h = ap (λ (l : Left). l.output ++ outputs others) h.0.2 ∙ ap (λ out. left.output ++ out) (outputs_alike lefts others h.1)

pub image_alike : (image : List ℕ) (lefts others : List Left) → AreAlike lefts others → image_after image others ≡ image_after image lefts
image_alike image [] [] h = refl
image_alike image [] (other ∷ others) h = absurd h
image_alike image (left ∷ lefts) [] h = absurd h
image_alike image (left ∷ lefts) (other ∷ others) h = image_alike other.image lefts others h.1 ∙ ap (λ (l : Left). image_after l.image lefts) h.0.2

pub ending_alike : (lefts others : List Left) → AreAlike lefts others → ending_after others ≡ ending_after lefts
ending_alike [] [] h = refl
ending_alike [] (other ∷ others) h = absurd h
ending_alike (left ∷ lefts) [] h = absurd h
ending_alike (left ∷ []) (other ∷ []) h = ap (λ (l : Left). l.ending) h.0.2
ending_alike (left ∷ []) (other ∷ another ∷ others) h = absurd h.1
ending_alike (left ∷ next_left ∷ lefts) (other ∷ []) h = absurd h.1
ending_alike (left ∷ next_left ∷ lefts) (other ∷ another ∷ others) h = ending_alike (next_left ∷ lefts) (another ∷ others) h.1

pub within_alike : (clients : List Client) (lefts others : List Left) → AreAlike lefts others → StayWithin clients lefts → StayWithin clients others
within_alike clients [] [] h w = tt
within_alike clients [] (other ∷ others) h w = absurd h
within_alike clients (left ∷ lefts) [] h w = absurd h
within_alike [] (left ∷ lefts) (other ∷ others) h w = absurd w
within_alike (client ∷ clients) (left ∷ lefts) (other ∷ others) h w =
    subst (λ (l : Left). StayWithin (client ∷ clients) (l ∷ others)) (sym h.0.2) (w.0, w.1, within_alike clients lefts others h.1 w.2)
