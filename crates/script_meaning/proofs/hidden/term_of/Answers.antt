use Rattle.std.proofs.Common.{◌≡◌, ◌∙◌, ℕ, ℤ, Some, IfSome, slice_get, w32, w64, FitsSigned, rules, sym, ap, subst}
use Rattle.std.proofs.lemmas.Int.{to_z-of_z}
use Rattle.client_spec.specs.declared.table.Operation.{Operation}
use Rattle.client_spec.specs.declared.table.Operation.TheVariants as operation
use Rattle.client_spec.specs.Syntax.{Instruction}
use Rattle.client_spec.specs.Machine.{◌>>=◌, Register}
use Rattle.client_spec.specs.Answer.{give, copied}
use Rattle.client_spec.specs.Effect.{effect}
use Rattle.script_meaning.specs.declared.knowledge.Knowledge.{Knowledge}
use Rattle.script_meaning.specs.declared.terms.Computation.{Computation}
use Rattle.script_meaning.specs.declared.terms.Computation.TheVariants as computation
use Rattle.script_meaning.specs.Meaning.{Moment, Setting, combined}
use Rattle.script_meaning.specs.Following.{HasValue, operator_of}
use Rattle.script_meaning.specs.Comparing.{GivesTerm, Computes}
use Rattle.client_code.specs.Views.{instruction_of}
use Rattle.script_meaning.proofs.TermLaws.{if_some}
use Rattle.script_meaning.proofs.ComputeLaws.{adds, subtracts, multiplies, is_less, is_equal}
use Rattle.script_meaning.proofs.hidden.term_of.Goals as goal
use Rattle.script_meaning.proofs.hidden.term_of.Goals.{in-Add, in-Sub, in-Mul, in-Less, in-Equal}

literal_gives : (old new : Knowledge) (i : Instruction) (at : ℕ) → i.operation ≡ operation.Const → ((setting : Setting) (m : Moment) → HasValue setting m new.terms.list.items at i.number)
    → GivesTerm old new i at
unfolding effect
literal_gives old new i at is has = λ setting m s knows. (i.number, has setting m, λ constants room. ap (λ (o : Operation). effect constants o i.a i.b i.c i.number room s) is)

copy_gives : (old : Knowledge) (i : Instruction) (at : ℕ) → i.operation ≡ operation.Mov → slice_get old.registers i.b ≡ Some (Some at) → GivesTerm old old i at
unfolding effect
copy_gives old i at is there = λ setting m s knows. let (k, has, in_b) = knows.each i.b at there in
    (k, has, λ constants room. ap (λ (o : Operation). effect constants o i.a i.b i.c i.number room s) is ∙ ap (λ (r : Register). copied s r >>= λ x. give i.a x s) in_b)

computed_gives : (old new : Knowledge) (i : Instruction) (c : Computation) (op : Operation) (left right at : ℕ) → Computes (operator_of c) op → i.operation ≡ op
    → slice_get old.registers i.b ≡ Some (Some left) → slice_get old.registers i.c ≡ Some (Some right)
    → ((setting : Setting) (m : Moment) (x y : ℤ) → HasValue setting m old.terms.list.items left x → HasValue setting m old.terms.list.items right y
    → HasValue setting m new.terms.list.items at (combined (operator_of c) x y))
    → GivesTerm old new i at
computed_gives old new i c op left right at computes is first second value = λ setting m s knows.
    let (x, x_has, in_b) = knows.each i.b left first in let (y, y_has, in_c) = knows.each i.c right second in (
      combined (operator_of c) x y,
      value setting m x y x_has y_has,
      λ constants room. ap (λ (o : Operation). effect constants o i.a i.b i.c i.number room s) is
          ∙ computes constants i.a i.b i.c i.number room s x y in_b in_c,
    )

pub returns-in-Const-clause-value : goal.returns-in-Const-clause-value
returns-in-Const-clause-value c =
    let fits : FitsSigned w32 c.args.instruction.number = search rules in
    let number = to_z-of_z w64 c.from.result (record { sfits = c.from.type_inv }) ∙ c.from.ensures ∙ to_z-of_z w32 c.args.instruction.number fits in
    if_some _ _ c.literal.result (λ at value. literal_gives c.args.knowledge.now record { terms = c.literal.new.self; registers = c.args.knowledge.now.registers } (instruction_of c.args.instruction) at c.in-Const.is
    (λ setting m. subst (λ (k : ℤ). HasValue setting m c.literal.new.self.list.items at k) number (value setting m))) c.literal.ensures.value

pub returns-in-Mov-clause-value : goal.returns-in-Mov-clause-value
returns-in-Mov-clause-value c = if_some _ _ c.term.result (λ at there. copy_gives c.args.knowledge.now (instruction_of c.args.instruction) at c.in-Mov.is there) c.term.ensures

pub returns-clause-value : goal.returns-clause-value
returns-clause-value c = elim c.match-instruction.branch [
  | in-Add w ↦ gives computation.Add operation.Add adds w.in-Add.is w.computation-is
  | in-Sub w ↦ gives computation.Subtract operation.Sub subtracts w.in-Sub.is w.computation-is
  | in-Mul w ↦ gives computation.Multiply operation.Mul multiplies w.in-Mul.is w.computation-is
  | in-Less w ↦ gives computation.Less operation.Less is_less w.in-Less.is w.computation-is
  | in-Equal w ↦ gives computation.Equal operation.Equal is_equal w.in-Equal.is w.computation-is
]
  where
    gives : (m : Computation) (op : Operation) → Computes (operator_of m) op → c.args.instruction.operation ≡ op → c.match-instruction.computation ≡ m
        → IfSome c.computed.result (λ at. GivesTerm c.args.knowledge.now record { terms = c.computed.new.self; registers = c.args.knowledge.now.registers } (instruction_of c.args.instruction) at)
    gives m op computes is same = if_some _ _ c.computed.result
        (λ at value. computed_gives c.args.knowledge.now record { terms = c.computed.new.self; registers = c.args.knowledge.now.registers } (instruction_of c.args.instruction)
        c.match-instruction.computation op c.in_ok-left.left c.in_ok-right.right at
        (subst (λ (k : Computation). Computes (operator_of k) op) (sym same) computes) is c.in_ok-left.ensures c.in_ok-right.ensures value) c.computed.ensures.value
