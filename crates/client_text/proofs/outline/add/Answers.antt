use Rattle.std.proofs.Common.{inl, inr, arith}
use Rattle.client_text.proofs.Sections.{no_type, no_constant, no_instruction}
use Rattle.client_text.proofs.outline.add.Goals as goal

pub returns-in_default-clause-refused : goal.returns-in_default-clause-refused
returns-in_default-clause-refused c _ = no_type _ _ _ (inr (inr c.if-header-lt-MOST_TYPES.false)) c.args.section c.in-Types.is

pub returns-in_default-2-clause-refused : goal.returns-in_default-2-clause-refused
returns-in_default-2-clause-refused c _ = no_type _ _ _ (inr (inl (let some = c.if-header-eq0.false in omega arith))) c.args.section c.in-Types.is

pub returns-in_default-3-clause-refused : goal.returns-in_default-3-clause-refused
returns-in_default-3-clause-refused c _ = no_type _ _ _ (inl (let code = c.if-not-is_code.false in omega arith)) c.args.section c.in-Types.is

pub returns-in_default-4-clause-refused : goal.returns-in_default-4-clause-refused
returns-in_default-4-clause-refused c _ = no_constant _ _ _ (inr c.if-header-lt-MOST_CONSTANTS.false) c.args.section c.in-Constants.is

pub returns-in_default-5-clause-refused : goal.returns-in_default-5-clause-refused
returns-in_default-5-clause-refused c _ = no_constant _ _ _ (inl (let code = c.if-not-is_code-2.false in omega arith)) c.args.section c.in-Constants.is

pub returns-in_default-6-clause-refused : goal.returns-in_default-6-clause-refused
returns-in_default-6-clause-refused c _ = no_instruction _ _ _ c.if-header-lt-MOST_INSTRUCTIONS.false c.args.section c.in-Instructions.is
