use Rattle.test_definitions.proofs.WorkedRuns.EnoughRoomLaws.{add_can_run, make_can_run, add_silent, make_silent}
use Rattle.test_definitions.proofs.pictures.no_needless_out_of_memory.Goals as goal

pub returns : goal.returns
returns c = record { adds = add_can_run; makes = make_can_run; byte = add_silent; object = make_silent }
