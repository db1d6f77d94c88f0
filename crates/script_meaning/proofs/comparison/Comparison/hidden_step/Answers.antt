use Rattle.std.proofs.Common.{arith, ◌≡◌, length, sym, subst}
use Rattle.script_meaning.specs.Following.{Knows}
use Rattle.script_meaning.specs.Comparing.{setting_of}
use Rattle.script_meaning.proofs.HiddenLaws.{knows_more, step_code}
use Rattle.script_meaning.proofs.comparison.Comparison.hidden_step.Goals as goal

pub returns-in_err-term-clause-none : goal.returns-in_err-term-clause-none
returns-in_err-term-clause-none c is m s known =
    subst (λ z. Knows (setting_of c.args.self.now) c.term_of.new.knowledge.terms.list.items z m s) (sym c.term_of.ensures.registers)
    (knows_more _ _ _ _ m s c.term_of.ensures.extends known)

pub returns-in_err-after-clause-none : goal.returns-in_err-after-clause-none
returns-in_err-after-clause-none c is m s known =
    subst (λ z. Knows (setting_of c.args.self.now) c.term_of.new.knowledge.terms.list.items z m s) (sym c.term_of.ensures.registers)
    (knows_more _ _ _ _ m s c.term_of.ensures.extends known)

pub returns-clause-some : goal.returns-clause-some
returns-clause-some c =
    let sixteen : length c.args.knowledge.now.registers ≡ 16 = omega arith in
    step_code c.args.self.now c.args.knowledge.now c.term_of.new.knowledge c.set.new.self _ c.args.at c.in_ok-after.after c.in_ok-term.term
    c.in_ok-instruction.ensures c.in_ok-term.ensures.role c.in_ok-term.ensures.value sixteen c.in_ok-term.ensures.extends c.in_ok-term.ensures.registers
    c.set.ensures.registers c.set.ensures.terms c.in_ok-after.ensures.1
