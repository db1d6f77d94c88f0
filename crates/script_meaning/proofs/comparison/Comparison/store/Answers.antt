-- FINDOR about the object, STORE and ELSE.
use Rattle.std.proofs.Common.{rules, ◌≡◌, ℕ, ℤ, suc, ◌∙◌, ap, subst, add-one}
use denote.Enum.Bare.{same_true}
use Rattle.client_spec.specs.contracts.table.Operation.{the_type}
use Rattle.client_spec.specs.declared.table.Operation.TheVariants as operation
use Rattle.client_code.specs.Views.{instruction_of}
use Rattle.client_spec.specs.Grammar.{mark}
use Rattle.script_meaning.specs.Meaning.{Moment, value}
use Rattle.script_meaning.specs.Comparing.{setting_of, IsAt, OpensStore}
use Rattle.script_meaning.proofs.AnswerLaws.{if_both, number_held}
use Rattle.script_meaning.proofs.comparison.Comparison.store.Goals as goal

pub returns : goal.returns
returns c =
    let find = c.in_ok-find.find in
    let store = c.in_ok-store.store in
    let self = c.args.self.now in
    let start = c.in_ok-after.field-0.after in
    let held = c.args.held.now.variables in
    let number : Moment → ℤ = λ m. value (setting_of self) m c.args.number.now in
    let store_at : c.in_ok-store_at.store_at ≡ suc start = c.in_ok-store_at.ensures.1 ∙ add-one start in
    let else_at : c.in_ok-checked_add.field-0 ≡ suc (suc start) = c.in_ok-checked_add.ensures.1 ∙ add-one c.in_ok-store_at.store_at ∙ ap suc store_at in
    let finds : find.operation ≡ operation.FindOrMake = same_true the_type (search rules) _ _ (search rules) in
    let stores : store.operation ≡ operation.Store = same_true the_type (search rules) _ _ (search rules) in
    let before = number_held self c.args.at start held c.number_at.new.knowledge c.in_ok-after.field-0.term number c.in_ok-after.ensures store.c c.in_ok-term.field-0 c.in_ok-term.ensures c.if-branch-term.false in
    if_both c.mark.result c.in_ok-checked_add.field-0 (λ (n : ℕ). IsAt self c.in_ok-checked_add.field-0 (mark operation.Else))
    (λ (other : ℕ). OpensStore self c.args.at other held c.args.object number) c.mark.ensures.there c.mark.ensures.after
    (λ other there after. record {
      start = start;
      find = instruction_of find;
      store = instruction_of store;
      before = before;
      at_find = c.in_ok-find.ensures;
      at_store = subst (λ (n : ℕ). IsAt self n (instruction_of store)) store_at c.in_ok-store.ensures;
      at_else = subst (λ (n : ℕ). IsAt self n (mark operation.Else)) else_at there;
      finds = finds;
      about = c.is_about.ensures c.if-not-is_about.false;
      stores = stores;
      place = c.if-store-find.false;
      free = c.is_free.ensures c.if-not-is_free.false;
      other_register = c.if-find-store.false;
      after = after ∙ ap suc else_at;
    })
