-- The definitions' values for what the verifier's rule reads.
--     rule_input rule                  what the rule reads
--     rule_types, before_of, instruction_in   the types, what is known before it, and the
--                                             instruction
use Rattle.client_spec.specs.Types.{Table}
use Rattle.client_code.specs.declared.instruction.Instruction.{Instruction}
use Rattle.client_verify.specs.declared.registers.Registers.{Registers}
use Rattle.client_verify.specs.declared.rule.Rule.{Rule}
use Rattle.client_verify.specs.Views.{registers_of}
use Rattle.client_verify.specs.Checking.{RuleInput}

abbrev pub rule_input : Rule → RuleInput
rule_input rule = record {
  types = rule.types.now;
  before = registers_of rule.before.now;
  row = rule.row;
  a = rule.instruction.a;
  b = rule.instruction.b;
  c = rule.instruction.c;
  number = rule.instruction.number;
  type_id = rule.type_id;
  constant = rule.constant;
}

abbrev pub rule_types : Rule → Table
rule_types rule = rule.types.now

abbrev pub before_of : Rule → Registers
before_of rule = rule.before.now

abbrev pub instruction_in : Rule → Instruction
instruction_in rule = rule.instruction
