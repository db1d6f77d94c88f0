-- A client's run, one instruction at a time.
--     IsAtEndOfCode stepper            the stepper is at the end of the code
--     StepsOn allocator old new ..     the current line's instruction was performed; .. are the
--                                      segment and the output before and after
use Rattle.std.specs.Prelude.{◌≡◌, ℕ, List, Option, Some, slice_get}
use Rattle.seg_value.specs.Stored.{Stored}
use Rattle.client_program.specs.declared.jump.Jump.{Jump}
use Rattle.client_program.specs.declared.line.Line.{Line}
use Rattle.client_program.specs.declared.way.Way.{Way}
use Rattle.client_program.specs.Lines.{JumpIs}
use Rattle.client_program.specs.Places.{led}
use Rattle.client_program.specs.Programs.{lines_in}
use Rattle.client_program.specs.Stages.{TellsStep}
use Rattle.client_vm.specs.declared.stepper.Stepper.{Stepper}
use Rattle.client_vm.specs.declared.stepper.Stepped.{Stepped}
use Rattle.client_vm.specs.Machines.{control_of}
use Rattle.client_vm.specs.Passing.{Passes}
use Rattle.client_vm.specs.Worlds.{DoesOn}

abbrev pub IsAtEndOfCode : {A : _} → Stepper A → Type 0
IsAtEndOfCode stepper = JumpIs (lines_in stepper.program.now) stepper.at 0

-- the current line's instruction was performed, and the stepper is at the next line
pub record StepsOn {A : _} (allocator : ℕ) (old new : Stepper A) (stepped : Stepped)
    (before after : Stored) (taken taken_then : Option (List ℕ)) : Type 0 where
  pub line : Line
  pub line_is : slice_get (lines_in old.program.now) old.at ≡ Some line
  pub instruction_is : stepped.instruction ≡ line.place
  pub tells_step : TellsStep line (control_of old.machine) stepped.is_step
  pub program_kept : new.program ≡ old.program
  pub jump : Jump
  pub does : DoesOn allocator line old.machine new.machine before after taken taken_then
      (Way.On jump)
  pub goes_on : Passes (lines_in old.program.now) (led old.at line jump) new.at
