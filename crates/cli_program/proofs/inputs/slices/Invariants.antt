use Rattle.std.proofs.Common.{◌≡◌, map, take}
use Rattle.cli_program.proofs.inputs.slices.Given as goal

abbrev pub invariant-loop-file : goal.invariant-loop-file
invariant-loop-file l =
    map (λ slice. slice.now) l.slices.items ≡ map (λ file. file.items) (take l.file-index l.files)
