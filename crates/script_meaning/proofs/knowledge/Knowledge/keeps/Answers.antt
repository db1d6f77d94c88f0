use Rattle.std.proofs.Common.{◌≡◌, Some, None, length, arith, rules, ap, ◌∙◌, below_more}
use Rattle.std.proofs.lemmas.Option.{slice_get_within, get_or_from_slice_get}
use Rattle.client_spec.specs.Machine.{Register}
use Rattle.script_meaning.proofs.KnowledgeLaws.{held_is}
use Rattle.script_meaning.proofs.knowledge.Knowledge.keeps.Goals as goal
use Rattle.script_meaning.proofs.knowledge.Knowledge.keeps.Goals.{in-Some+else-not-contains, in_default}

pub loop-register-preserved : goal.loop-register-preserved
loop-register-preserved c = below_more _ _ c.loop-register.invariant (λ v is setting m s knows. elim c.match-held-register.branch [
  | in-Some+else-not-contains w ↦ w.contains.ensures w.if-not-contains.false setting m s knows
      ∙ ap (λ u. Register.Int (m.variables u)) (held_is c.args.held.now.variables c.loop-register.register v w.in-Some.variable is w.in-Some.is)
  | in_default w ↦ absurd (w.in_default.not-Some v (get_or_from_slice_get c.args.held.now.variables c.loop-register.register (Some v) None is))
])

pub returns : goal.returns
returns c = λ is setting m s knows.
    let len : length c.args.held.now.variables ≡ 16 = search rules in
    record { count = knows.count; world = knows.world; each = λ r v there. c.loop-register.invariant r (let within = slice_get_within c.args.held.now.variables r (Some v) there in omega arith) v there setting m s knows }
