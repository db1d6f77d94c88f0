-- FINDOR about the object, LOAD, an instruction that works out a number, STORE and ELSE.
use Rattle.std.proofs.Common.{rules, arith, ◌≡◌, ℕ, ℤ, suc, length, ◌∙◌, ap, subst, add-one}
use denote.Enum.Bare.{same_true}
use Rattle.client_spec.specs.contracts.table.Operation.{the_type}
use Rattle.client_spec.specs.declared.table.Operation.TheVariants as operation
use Rattle.client_code.specs.Views.{instruction_of}
use Rattle.client_spec.specs.Grammar.{mark}
use Rattle.script_meaning.specs.Meaning.{Moment, value}
use Rattle.script_meaning.specs.Comparing.{setting_of, IsAt, OpensChange}
use Rattle.script_meaning.proofs.AnswerLaws.{if_both, free_exists, number_held}
use Rattle.script_meaning.proofs.comparison.Comparison.change.Goals as goal

pub returns : goal.returns
returns c =
    let find = c.in_ok-find.find in
    let load = c.in_ok-load.load in
    let compute = c.in_ok-compute.compute in
    let store = c.in_ok-store.store in
    let self = c.args.self.now in
    let start = c.in_ok-after.field-0.after in
    let held = c.args.held.now.variables in
    let number : Moment → ℤ = λ m. value (setting_of self) m c.args.number.now in
    let load_at : c.in_ok-load_at.load_at ≡ suc start = c.in_ok-load_at.ensures.1 ∙ add-one start in
    let compute_at : c.in_ok-compute_at.compute_at ≡ suc (suc start) = c.in_ok-compute_at.ensures.1 ∙ add-one c.in_ok-load_at.load_at ∙ ap suc load_at in
    let store_at : c.in_ok-store_at.store_at ≡ suc (suc (suc start)) = c.in_ok-store_at.ensures.1 ∙ add-one c.in_ok-compute_at.compute_at ∙ ap suc compute_at in
    let else_at : c.in_ok-checked_add.field-0 ≡ suc (suc (suc (suc start))) = c.in_ok-checked_add.ensures.1 ∙ add-one c.in_ok-store_at.store_at ∙ ap suc store_at in
    let finds : find.operation ≡ operation.FindOrMake = same_true the_type (search rules) _ _ (search rules) in
    let before = number_held self c.args.at start held c.number_at.new.knowledge c.in_ok-after.field-0.term number c.in_ok-after.ensures compute.c c.in_ok-term.field-0 c.in_ok-term.ensures c.if-branch-term.false in
    let load_free = c.is_free-else-not-is_change.ensures c.if-not-is_free-2.false in
    let size : length held ≡ 16 = omega arith in
    if_both c.mark.result c.in_ok-checked_add.field-0 (λ (n : ℕ). IsAt self c.in_ok-checked_add.field-0 (mark operation.Else))
    (λ (other : ℕ). OpensChange self c.args.at other held c.args.object c.args.operation number) c.mark.ensures.there c.mark.ensures.after
    (λ other there after. record {
      start = start;
      find = instruction_of find;
      load = instruction_of load;
      compute = instruction_of compute;
      store = instruction_of store;
      before = before;
      at_find = c.in_ok-find.ensures;
      at_load = subst (λ (n : ℕ). IsAt self n (instruction_of load)) load_at c.in_ok-load.ensures;
      at_compute = subst (λ (n : ℕ). IsAt self n (instruction_of compute)) compute_at c.in_ok-compute.ensures;
      at_store = subst (λ (n : ℕ). IsAt self n (instruction_of store)) store_at c.in_ok-store.ensures;
      at_else = subst (λ (n : ℕ). IsAt self n (mark operation.Else)) else_at there;
      finds = finds;
      about = c.is_about.ensures c.if-not-is_about.false;
      changes = c.is_change.ensures c.if-not-is_change.false;
      free = c.is_free.ensures c.if-not-is_free.false;
      load_free = load_free;
      load_exists = free_exists held load.a 16 size load_free;
      apart = c.if-find-load.false;
      find_apart = c.if-find-compute.false;
      load_apart = c.if-load-compute.false;
      after = after ∙ ap suc else_at;
    })
