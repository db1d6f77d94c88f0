use Rattle.std.proofs.Common.{◌≡◌, ◌++◌, [], sym, ap, ◌∙◌, subst, arith}
use Rattle.std.proofs.lemmas.Bool.{false≢true}
use Rattle.client_spec.proofs.Spelling.OneClientLaws.{instruction_front}
use Rattle.client_code.specs.Views.{instruction_of}
use Rattle.client_code.specs.Parts.{passed, open_parts}
use Rattle.client_code.proofs.ListingTreeLaws.{Right, role_of}
use Rattle.client_code.proofs.Operands.{has_operands}
use Rattle.client_code.proofs.Instructions.{CodeTo, starts, goes_on, ends, stands, closed}
use Rattle.client_code.proofs.parser.check_code.Goals as goal
use Rattle.client_code.proofs.parser.check_code.Goals.{then-not-is_valid-via-then-not-is_valid, then-not-is_valid-via-else-not-is_valid+then-not-pass}
use Rattle.client_code.proofs.parser.check_code.Goals.{then-not-is_closed-via-then-not-is_closed, then-not-is_closed-via-else-not-is_closed+then-file-end}

pub loop-i-init : goal.loop-i-init
loop-i-init c = λ cs kinds.
    subst (CodeTo c.args.file.now c.args.at c.args.types.now cs 0) (sym c.new-nesting.ensures) (starts c.args.file.now c.args.at c.args.types.now cs)

pub loop-i-preserved : goal.loop-i-preserved
loop-i-preserved c = λ cs kinds.
    goes_on c.args.file.now c.args.at c.args.types.now cs c.loop-i.i (open_parts c.loop-i.nesting) (open_parts c.pass.new.self) (instruction_of c.in-Some.instruction) (c.loop-i.invariant cs kinds) (c.in-Some.ensures.found.1)
    ((c.is_valid.ensures c.args.types.now cs (sym c.version_of-version.ensures) (sym c.len.ensures.len) kinds).0 c.if-not-is_valid.false)
    (ap (passed (open_parts c.loop-i.nesting)) (sym (ap (λ row. row.role) c.row.ensures.row)) ∙ c.if-not-pass.ensures)

pub returns-in_default-clause-wrong : goal.returns-in_default-clause-wrong
returns-in_default-clause-wrong c cs kinds tree count whole =
    let s = stands c.args.file.now c.args.at c.args.types.now cs tree whole c.loop-i.i (open_parts c.loop-i.nesting) (c.loop-i.invariant cs kinds) (let t = c.loop-i-test.true in omega arith) in
    c.in_default.ensures.none s.2 s.0 (has_operands c.args.types.now cs (role_of s.0) s.0 s.1) s.3

pub returns-then-not-is_valid-clause-wrong : goal.returns-then-not-is_valid-clause-wrong
returns-then-not-is_valid-clause-wrong c cs kinds tree count whole =
    let s = stands c.args.file.now c.args.at c.args.types.now cs tree whole c.loop-i.i (open_parts c.loop-i.nesting) (c.loop-i.invariant cs kinds) (let t = c.loop-i-test.true in omega arith) in
    let found = c.in-Some.ensures in
    let same = (instruction_front (instruction_of c.in-Some.instruction) s.0 [] [] found.range (s.1).range (ap (λ xs. xs ++ []) (sym found.found.1 ∙ s.3))).0 in
    elim c.then-not-is_valid.branch [
      | then-not-is_valid-via-then-not-is_valid w ↦
          false≢true (sym w.if-not-is_valid.true ∙ (c.is_valid.ensures c.args.types.now cs (sym c.version_of-version.ensures) (sym c.len.ensures.len) kinds).1 (subst (Right c.args.types.now cs) (sym same) s.1))
      | then-not-is_valid-via-else-not-is_valid+then-not-pass w ↦
          s.4 (ap (λ i. passed (open_parts c.loop-i.nesting) (role_of i)) (sym same) ∙ ap (passed (open_parts c.loop-i.nesting)) (sym (ap (λ row. row.role) w.row.ensures.row)) ∙ w.if-not-pass.ensures)
    ]

pub returns-then-not-is_closed-clause-wrong : goal.returns-then-not-is_closed-clause-wrong
returns-then-not-is_closed-clause-wrong c cs kinds tree count whole =
    let last : c.loop-i.i ≡ c.args.count = (let t = c.loop-i-test.false in let a = c.loop-i.auto.i-end in omega arith) in
    let none = closed c.args.file.now c.args.at c.args.types.now cs tree whole c.loop-i.i (open_parts c.loop-i.nesting) (c.loop-i.invariant cs kinds) (omega arith) in
    elim c.then-not-is_closed.branch [
      | then-not-is_closed-via-then-not-is_closed w ↦ false≢true (sym w.if-not-is_closed.true ∙ c.is_closed.ensures.1 none)
      | then-not-is_closed-via-else-not-is_closed+then-file-end w ↦ w.if-file-end.true (let e = whole.ends in omega arith)
    ]

pub returns-clause-found : goal.returns-clause-found
returns-clause-found c = λ cs kinds.
    let last : c.loop-i.i ≡ c.args.count = (let t = c.loop-i-test.false in let a = c.loop-i.auto.i-end in omega arith) in
    let to = subst (CodeTo c.args.file.now c.args.at c.args.types.now cs c.loop-i.i) (c.is_closed.ensures.0 c.if-not-is_closed.false) (c.loop-i.invariant cs kinds) in
    let e = ends c.args.file.now c.args.at c.args.types.now cs c.loop-i.i to (let t = c.if-file-end.false in omega arith) in
    (e.0, e.1 ∙ last, e.2)
