use Rattle.std.proofs.Common.{◌≡◌, Some, None, length, arith, rules, sym, ap, ◌∙◌, below_more}
use Rattle.std.proofs.lemmas.Option.{slice_get_within, get_or_from_slice_get}
use Rattle.client_spec.specs.Machine.{Register}
use Rattle.script_meaning.proofs.KnowledgeLaws.{held_is, is_held, same_option, known_is, changed_variable, other_variable}
use Rattle.script_meaning.proofs.knowledge.Knowledge.keeps_changed.Goals as goal
use Rattle.script_meaning.proofs.knowledge.Knowledge.keeps_changed.Goals.{in-Some+else-not-is_kept, then-variable-changed, else-variable-changed, in_default}

pub loop-register-preserved : goal.loop-register-preserved
loop-register-preserved c = below_more _ _ c.loop-register.invariant (λ v is setting m s k knows has. elim c.match-held-register.branch [
  | in-Some+else-not-is_kept w ↦
      let same = held_is c.args.held.now.variables c.loop-register.register v w.in-Some.variable is w.in-Some.is in
      elim w.if-variable-changed.branch [
        | then-variable-changed w' ↦
            let len : length c.args.self.now.registers ≡ 16 = search rules in
            let there = is_held c.args.self.now.registers c.loop-register.register c.args.new (omega arith)
            (same_option _ c.args.new (sym w'.eq-is_kept.ensures ∙ sym w'.is_kept-is ∙ w.if-not-is_kept.false)) in
            known_is setting c.args.self.now.terms.list.items c.args.self.now.registers c.loop-register.register c.args.new m s k knows has there
            ∙ ap Register.Int (sym (changed_variable m c.args.changed v k (sym same ∙ w'.if-variable-changed.true)))
        | else-variable-changed w' ↦
            w'.contains-is_kept.ensures (sym w'.is_kept-is ∙ w.if-not-is_kept.false) setting m s knows
            ∙ ap (λ u. Register.Int (m.variables u)) same
            ∙ ap Register.Int (sym (other_variable m c.args.changed v k (λ e. w'.if-variable-changed.false (same ∙ e))))
      ]
  | in_default w ↦ absurd (w.in_default.not-Some v (get_or_from_slice_get c.args.held.now.variables c.loop-register.register (Some v) None is))
])

pub returns : goal.returns
returns c = λ is setting m s k knows has.
    let len : length c.args.held.now.variables ≡ 16 = search rules in
    record { count = knows.count; world = knows.world; each = λ r v there. c.loop-register.invariant r (let within = slice_get_within c.args.held.now.variables r (Some v) there in omega arith) v there setting m s k knows has }
