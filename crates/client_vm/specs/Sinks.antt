-- The contents of a sink over a writer.
--     writer_of sink      the writer
--     failed_of sink      whether the sink has failed
use Rattle.std.specs.Prelude.{Bool}
use Rattle.client_vm.specs.declared.sink.Through.{Through}

abbrev pub writer_of : {W : Type 0} → Through W → W
writer_of sink = sink.writer

abbrev pub failed_of : {W : Type 0} → Through W → Bool
failed_of sink = sink.failed
