-- FIND about the object, and LOAD from it into a register that exists and contains no variable.
use Rattle.std.proofs.Common.{rules, arith, ◌≡◌, ℕ, suc, length, refl, ◌∙◌, ap, subst, add-one}
use denote.Enum.Bare.{same_true}
use Rattle.client_spec.specs.contracts.table.Operation.{the_type}
use Rattle.client_code.specs.Views.{instruction_of}
use Rattle.script_meaning.specs.Comparing.{IsAt}
use Rattle.script_meaning.proofs.AnswerLaws.{free_exists}
use Rattle.script_meaning.proofs.comparison.Comparison.open_object.Goals as goal

pub returns : goal.returns
returns c =
    let find = c.in_ok-find.find in
    let load = c.in_ok-load.load in
    let self = c.args.self.now in
    let start = c.in_ok-start.start in
    let held = c.args.held.now.variables in
    let load_at : c.in_ok-load_at.load_at ≡ suc start = c.in_ok-load_at.ensures.1 ∙ add-one start in
    let load_free = c.is_free-else-not-is_free.ensures c.if-not-is_free-2.false in
    let size : length held ≡ 16 = omega arith in
    record {
      start = start;
      find = instruction_of find;
      load = instruction_of load;
      before = c.in_ok-start.ensures;
      at_find = c.in_ok-find.ensures;
      at_load = subst (λ (n : ℕ). IsAt self n (instruction_of load)) load_at c.in_ok-load.ensures;
      finds = same_true the_type (search rules) _ _ (search rules);
      about = c.is_about.ensures c.if-not-is_about.false;
      first = c.if-find-ne-NONE.false;
      loads = same_true the_type (search rules) _ _ (search rules);
      place = c.if-load-find.false;
      gives = refl;
      free = c.is_free.ensures c.if-not-is_free.false;
      load_free = load_free;
      load_exists = free_exists held load.a 16 size load_free;
      new = c.lacks.ensures c.if-not-lacks.false;
      after = c.in_ok-checked_add.ensures.1 ∙ add-one c.in_ok-load_at.load_at ∙ ap suc load_at;
    }
