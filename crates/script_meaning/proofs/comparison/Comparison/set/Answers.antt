use Rattle.script_meaning.specs.Meaning.{value}
use Rattle.script_meaning.specs.Comparing.{setting_of, holding, knowing}
use Rattle.std.proofs.Common.{slice_set, Some}
use Rattle.script_meaning.proofs.TermLaws.{extends_keeps}
use Rattle.script_meaning.proofs.KnowingLaws.{knows_more, set_begins, set_goes_on, set_law}
use Rattle.script_meaning.proofs.comparison.Comparison.set.Goals as goal

pub loop-init : goal.loop-init
loop-init c =
    let setting = setting_of c.args.self.now in
    let old = c.begin.new.self in
    let new = c.number.new.self in
    record {
      follows = set_begins c.args.self.now c.args.at c.args.held.now.variables (record { terms = new; registers = old.registers })
          (λ m s holds. knows_more setting old.terms.list.items new.list.items old.registers m s c.in_ok-wanted.ensures.extends (c.begin.ensures setting m s holds));
      is = λ m. c.in_ok-wanted.ensures.value setting m;
    }

pub returns-in-Some-clause-sets : goal.returns-in-Some-clause-sets
returns-in-Some-clause-sets c =
    let setting = setting_of c.args.self.now in
    set_law c.args.self.now c.args.at c.loop.now (holding c.args.held.now.variables) (knowing c.args.self.now c.loop.knowledge)
    (holding (slice_set c.args.held.now.variables c.in-Some.register (Some c.args.variable))) c.args.variable (λ m. value setting m c.args.number.now)
    c.loop.invariant.follows
    (λ m s knows. c.in-Some.ensures.holds setting m s (value setting m c.args.number.now) knows (c.loop.invariant.is m))

pub loop-preserved : goal.loop-preserved
loop-preserved c =
    let setting = setting_of c.args.self.now in
    record {
      follows = set_goes_on c.args.self.now c.args.at c.loop.now c.in_ok-now.now c.args.held.now.variables c.loop.knowledge c.hidden_step.new.knowledge
          c.loop.invariant.follows c.in_ok-now.ensures.some;
      is = λ m. extends_keeps setting m c.loop.knowledge.terms.list.items c.hidden_step.new.knowledge.terms.list.items c.in_ok-wanted.wanted
          (value setting m c.args.number.now) c.in_ok-now.ensures.extends (c.loop.invariant.is m);
    }
