-- Lent memory in contracts.
--     memory_of lent     where it is, and its size in bytes
use Rattle.seg_spec.specs.Window.{Home}
use Rattle.lezgauri_c.specs.declared.lent.Lent.{Lent}

abbrev pub memory_of : Lent → Home
memory_of lent = record { at = lent.at; room = lent.room }
