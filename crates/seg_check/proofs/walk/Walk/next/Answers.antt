use Rattle.std.proofs.Common.{◌≡◌, ◌<◌, ◌^◌, true, false, [], ◌∷◌, ◌++◌, None, Some, refl, sym, ap, ◌∙◌, arith}
use Rattle.seg_spec.specs.Pointer.{target}
use Rattle.seg_check.proofs.WalkBoundLaws.{steady_enter, steady_pass, node_low, never_deep}
use Rattle.seg_check.proofs.walk.Walk.next.Goals as goal

pub returns-then-enter-clause-moves : goal.returns-then-enter-clause-moves
returns-then-enter-clause-moves c = (
  refl,
  λ node names.
      let same : c.in-Some.node ≡ node = (let both : Some c.in-Some.node ≡ Some node = c.in-Some.ensures ∙ names in cc) in
      (c.enter.ensures.pointer c.if-enter.true ∙ same, c.enter.ensures.entered c.if-enter.true ∙ ap (λ n. c.args.self.now.stage.entered.items ++ record { node = n; above = c.enter.new.self.above } ∷ []) same),
)

pub returns-in-Some-pass-clause-moves : goal.returns-in-Some-pass-clause-moves
returns-in-Some-pass-clause-moves c = (c.in-Some-pass.ensures.left, c.in-Some-pass.ensures.pointer)

pub returns-then-enter-clause-steady : goal.returns-then-enter-clause-steady
returns-then-enter-clause-steady c = λ s.
    let few : c.args.self.now.stage.nodes < 2 ^ 32 = omega (arith, s.counted) in
    steady_enter c.args.self.now.bytes.bytes.now c.args.self.now.stage c.enter.new.self c.args.self.now.turns c.in-Some.node s (omega arith)
    (sym c.in-Some.ensures) (c.enter.ensures.pointer c.if-enter.true) (c.enter.ensures.entered c.if-enter.true) (c.enter.ensures.nodes few)
    (c.enter.ensures.above c.if-enter.true s.above) (c.enter.ensures.deeper c.if-enter.true s.above) (c.enter.ensures.few_red c.if-enter.true s.above)
    (c.enter.ensures.colour c.if-enter.true) (c.enter.ensures.right c.if-enter.true)

pub returns-in-Some-pass-clause-steady : goal.returns-in-Some-pass-clause-steady
returns-in-Some-pass-clause-steady c = λ s.
    let empty : target c.args.self.now.bytes.bytes.now c.args.self.now.stage.pointer ≡ None = sym c.target.ensures ∙ c.in_default.is in
    let low = node_low c.args.self.now.bytes.bytes.now c.args.self.now.stage c.pass.new.self c.args.self.now.turns c.in-Some-pass.node s (omega arith) empty c.in-Some-pass.ensures.left in
    steady_pass c.args.self.now.bytes.bytes.now c.args.self.now.stage c.pass.new.self c.args.self.now.turns c.in-Some-pass.node s (omega arith) empty c.in-Some-pass.ensures.left c.pass.ensures.nodes c.pass.ensures.kept
    (c.in-Some-pass.ensures.pointer low) c.in-Some-pass.ensures.colour

pub returns-in-Some-pass-clause-goes_on : goal.returns-in-Some-pass-clause-goes_on
returns-in-Some-pass-clause-goes_on c = λ s height rest entering.
    let bytes = c.args.self.now.bytes.bytes.now in
    let empty : target bytes c.args.self.now.stage.pointer ≡ None = sym c.target.ensures ∙ c.in_default.is in
    let low = node_low bytes c.args.self.now.stage c.pass.new.self c.args.self.now.turns c.in-Some-pass.node s (omega arith) empty c.in-Some-pass.ensures.left in
    (c.in-Some-pass.ensures.goes_on bytes height rest entering empty low, c.in-Some-pass.ensures.next bytes height rest entering empty low)

pub returns-in-None-clause-goes_on : goal.returns-in-None-clause-goes_on
returns-in-None-clause-goes_on c = λ s.
    let bytes = c.args.self.now.bytes.bytes.now in
    let empty : target bytes c.args.self.now.stage.pointer ≡ None = sym c.target.ensures ∙ c.in_default.is in
    let right = c.is_right.ensures.0 c.if-is_right.true in
    let end = c.in-None.ensures.end bytes in (
      (end c.args.self.now.stage.above.blacks [] [] empty).1 (record { rest_is = refl; entering_is = refl; height_is = refl; is_right = right.0; counted = right.1 }),
      λ height rest entering k. let at = (end height rest entering empty).0 k in (at.rest_is, at.entering_is),
    )

pub returns-then-enter-clause-goes_on : goal.returns-then-enter-clause-goes_on
returns-then-enter-clause-goes_on c = λ s.
    let bytes = c.args.self.now.bytes.bytes.now in
    let stage = c.args.self.now.stage in
    let few : stage.nodes < 2 ^ 32 = omega (arith, s.counted) in
    let near : stage.above.blacks < 255 = omega (arith, s.above.few, s.above.blacks_few) in (
      c.in-Some.node,
      sym c.in-Some.ensures,
      λ height rest entering. (
        c.enter.ensures.goes_on c.if-enter.true bytes height rest entering (sym c.in-Some.ensures) (s.colour c.in-Some.node (sym c.in-Some.ensures)) few near,
        c.enter.ensures.next bytes height rest entering (sym c.in-Some.ensures),
      ),
    )

true_false : true ≡ false → ⊥
true_false e = cc

pub returns-in-None-2-clause-refused : goal.returns-in-None-2-clause-refused
returns-in-None-2-clause-refused c = λ s height rest entering k low few.
    let empty : target c.args.self.now.bytes.bytes.now c.args.self.now.stage.pointer ≡ None = sym c.target.ensures ∙ c.in_default.is in
    let at = (c.in-None.ensures.end c.args.self.now.bytes.bytes.now height rest entering empty).0 k in
    true_false (sym (c.is_right.ensures.1 (at.is_right, at.counted)) ∙ c.if-is_right.false)

pub returns-in-Some-clause-refused : goal.returns-in-Some-clause-refused
returns-in-Some-clause-refused c = λ s height rest entering k low few.
    never_deep c.args.self.now.bytes.bytes.now c.args.self.now.stage c.args.self.now.turns height rest entering s k low (c.enter.ensures.deep c.if-enter.false)
