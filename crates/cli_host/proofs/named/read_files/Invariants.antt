use Rattle.std.proofs.Common.{◌≡◌, length, map, take}
use Rattle.cli_host.specs.Accesses.{AddsAccesses, accesses_of}
use Rattle.cli_host.proofs.named.read_files.Given as goal

abbrev pub invariant-loop-name : goal.invariant-loop-name
invariant-loop-name g l =
    (length l.all.items ≡ l.name-index)
    × AddsAccesses (g.F.Files.was_read l.fn.files) (g.F.Files.was_read l.files) (accesses_of (map (λ name. name.now) (take l.name-index l.names)) (map (λ bytes. bytes.items) l.all.items))
    × (g.F.Files.was_written l.files ≡ g.F.Files.was_written l.fn.files)
