use Rattle.std.proofs.Common.{refl, rules}
use Rattle.std.specs.Int.{w32}
use Rattle.std.proofs.lemmas.Int.{to_z-of_z}
use Rattle.client_code.proofs.Operands.{one_instruction}
use Rattle.client_code.proofs.instruction.Instruction.with_operation.Goals as goal

pub returns : goal.returns
returns c = one_instruction _ _ refl refl refl refl (to_z-of_z w32 c.args.self.number (search rules))
