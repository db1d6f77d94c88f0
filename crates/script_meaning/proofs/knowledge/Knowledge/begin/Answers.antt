use Rattle.std.proofs.Common.{◌≡◌, length, arith, rules, sym, subst}
use Rattle.script_meaning.specs.declared.knowledge.Knowledge.{Knowledge}
use Rattle.script_meaning.specs.Following.{Knows}
use Rattle.script_meaning.proofs.KnowledgeLaws.{is_held, gets_variable, knows_set}
use Rattle.script_meaning.proofs.knowledge.Knowledge.begin.Goals as goal
use Rattle.script_meaning.proofs.knowledge.Knowledge.begin.Goals.{in-Some, in_default}

pub loop-register-preserved : goal.loop-register-preserved
loop-register-preserved c = λ setting m s holds.
    let before = c.loop-register.invariant setting m s holds in
    elim c.match-held-register.branch [
      | in-Some w ↦
          let len : length c.args.held.now.variables ≡ 16 = search rules in
          let there = holds.each c.loop-register.register w.in-Some.variable (is_held c.args.held.now.variables c.loop-register.register w.in-Some.variable (omega arith) w.in-Some.is) in
          let gets = gets_variable setting w.variable.new.self.list.items c.loop-register.register w.in-Some.variable m s w.variable.result w.variable.ensures.value there in
          let after = knows_set setting c.loop-register.self.terms.list.items w.variable.new.self.list.items c.loop-register.self.registers c.loop-register.register w.variable.result m s
          w.variable.ensures.extends gets before in
          subst (λ (k : Knowledge). Knows setting k.terms.list.items k.registers m s) (sym w.self-is) after
      | in_default w ↦ subst (λ (k : Knowledge). Knows setting k.terms.list.items k.registers m s) (sym w.self-is) before
    ]
