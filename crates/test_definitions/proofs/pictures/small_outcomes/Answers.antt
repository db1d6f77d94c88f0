use Rattle.std.proofs.Common.{List, [], ◌∷◌, length, replicate, refl, lit≤, arith}
use Rattle.seg_spec.specs.Fixtures.{counter}
use Rattle.seg_spec.specs.Faulty.{IsImageLength}
use Rattle.test_definitions.proofs.WorkedImages.SoundImages.{counter_sound}
use Rattle.client_spec.specs.Syntax.{Client}
use Rattle.client_spec.specs.Grammar.{SpellsClient, client_bytes}
use Rattle.seg_spec.specs.Types.{Table}
use Rattle.client_spec.specs.OnImages.{Given, Left}
use Rattle.client_spec.specs.Clients.{AreAccepted, RunClients}
use Rattle.client_spec.specs.Outcome.{CanLie, CanMove, CanRun, IsOutcome, IsTurnOf}
use Rattle.test_definitions.proofs.pictures.small_outcomes.Goals as goal

sized : IsImageLength (length counter)
unfolding counter
sized = record { not_small = lit≤ tt; not_large = lit≤ tt; whole_units = refl }

lies_at_0 : CanLie counter 2048 0
unfolding counter
lies_at_0 = record { size = sized; room_fits = lit≤ tt; placed = (refl, lit≤ tt, lit≤ tt) }

lies_at_16 : CanLie counter 2048 16
unfolding counter
lies_at_16 = record { size = sized; room_fits = lit≤ tt; placed = (refl, lit≤ tt, lit≤ tt) }

moves : CanMove counter 2048 0 []
moves = record { lies = lies_at_0; fit = tt }

abbrev can_run : CanRun counter [] 2048 0 []
can_run = record { can_move = moves; sound = counter_sound; clients = []; accepted = tt }

outcome : IsOutcome counter [] [] 2048 0 [] []
outcome = record { can_run = can_run; host = replicate 2048 0; host_is = refl; runs = tt }

turn : IsTurnOf counter ([] ∷ []) 0 []
turn = record { sound = counter_sound; clients = []; accepted = tt; text_is = refl }

no_client : (client : Client) → SpellsClient [] client → ⊥
unfolding client_bytes
no_client client s = let e = s.spelled in cc

too_many : (left : Left) (table : Table) (clients : List Client) (given : Given) → AreAccepted table [] clients → RunClients clients given (left ∷ []) → ⊥
too_many left table [] given a r = r
too_many left table (client ∷ clients) given a r = a

pub returns : goal.returns
returns c = record {
  no_client = outcome;
  too_many = λ left o. too_many left o.can_run.sound.picture.table o.can_run.clients _ o.can_run.accepted o.runs;
  no_text = (moves, [], turn, no_client);
  no_image = λ h. absurd (omega (arith, h.not_small));
  no_place = (sized, λ l. absurd (omega (arith, l.placed.0)));
  a_place = λ r. r.1 lies_at_16;
  an_image = λ r. r.1 counter_sound;
}
