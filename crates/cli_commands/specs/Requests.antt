-- What a request promises, if it is to run clients.
--     OfRun request claim     this is claimed of the run that is requested; nothing of other requests
use Rattle.std.specs.Prelude.{⊤}
use Rattle.cli_host.specs.declared.request.Request.{Request}
use Rattle.cli_host.specs.declared.request.Request.TheVariants as request
use Rattle.cli_host.specs.declared.run.Run.{Run}

abbrev pub OfRun : Request → (Run → Type 0) → Type 0
OfRun (request.Run run) claim = claim run
OfRun it claim = ⊤
