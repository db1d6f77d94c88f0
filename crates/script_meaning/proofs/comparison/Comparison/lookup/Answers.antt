use Rattle.std.proofs.Common.{arith, rules, ◌≡◌, Some, length, slice_set, ap, ◌∙◌}
use Rattle.client_code.specs.Views.{instruction_of}
use Rattle.client_spec.specs.declared.table.Operation.TheVariants as operation
use Rattle.script_meaning.specs.declared.knowledge.Knowledge.{Knowledge}
use Rattle.script_meaning.specs.Comparing.{setting_of}
use Rattle.script_meaning.proofs.HiddenLaws.{knows_more, lookup_code}
use Rattle.script_meaning.proofs.comparison.Comparison.lookup.Goals as goal

pub returns-in_err-term-clause-none : goal.returns-in_err-term-clause-none
returns-in_err-term-clause-none c is m s known = knows_more _ _ _ _ m s c.object_or.ensures.extends known

pub returns-clause-some : goal.returns-clause-some
returns-clause-some c there finds =
    let sixteen : length c.args.knowledge.now.registers ≡ 16 = omega arith in
    let loads : c.in_ok-load.load.operation ≡ operation.Load = search rules in
    let mid : Knowledge = record { terms = c.object_or.new.self; registers = c.args.knowledge.now.registers } in
    lookup_code c.args.self.now c.args.knowledge.now mid c.set-2.new.self (instruction_of c.args.find) (instruction_of c.in_ok-load.load)
    c.in_ok-object.object c.in_ok-default.default c.in_ok-term.term c.args.at c.in_ok-load_at.load_at c.in_ok-checked_add.field-0 c.in_ok-otherwise.otherwise c.in_ok-after.after
    (record {
      finds = finds;
      loads = loads;
      place = c.if-load-find.false;
      apart = c.if-load-find-2.false;
      first = c.if-find-ne-NONE.false;
      about = c.in_ok-object.ensures;
      known = c.in_ok-default.ensures;
      sixteen = sixteen;
      more = c.in_ok-term.ensures.extends;
      value = λ m d has. c.in_ok-term.ensures.value (setting_of c.args.self.now) m d has;
    })
    there c.in_ok-load.ensures c.in_ok-otherwise.ensures.there c.in_ok-after.ensures.there
    c.in_ok-load_at.ensures.1 c.in_ok-checked_add.ensures.1 c.in_ok-otherwise.ensures.after c.in_ok-after.ensures.after
    (c.set-2.ensures.registers ∙ ap (λ z. slice_set z c.in_ok-load.load.a (Some c.in_ok-term.term)) c.set.ensures.registers) (c.set-2.ensures.terms ∙ c.set.ensures.terms)
