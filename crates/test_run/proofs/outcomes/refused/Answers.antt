use Rattle.std.proofs.Common.{inl}
use Rattle.test_definitions.proofs.WorkedImages.SoundImages.{counter_sound}
use Rattle.test_run.proofs.outcomes.OutcomeLaws as laws
use Rattle.test_run.proofs.outcomes.refused.Goals as goal

pub returns : goal.returns
returns c = record {
  no_image = inl laws.bad_size;
  no_place = laws.no_place;
  a_place = laws.a_place;
  bad_move = laws.bad_move;
  another_move = laws.another_move;
  lost_gap = laws.lost_gap-refused;
  sound = λ r. r.refusal.1 counter_sound;
  no_client = laws.no_client;
  first_client = laws.past_the_clients;
  other_types = laws.other_types;
  its_types = laws.its_types;
}
