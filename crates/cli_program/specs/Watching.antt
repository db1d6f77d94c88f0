-- The sink below one that shows progress.
--     sink_of watched     the sink
use Rattle.cli_program.specs.declared.watched.Watched.{Watched}

abbrev pub sink_of : {S R : Type 0} → Watched S R → S
sink_of watched = watched.sink
