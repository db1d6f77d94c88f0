use Rattle.std.proofs.Common.{Bool, ◌∙◌, ap, subst, arith}
use Rattle.seg_spec.specs.Window.{Placement, with_bytes}
use Rattle.seg_rbtree.specs.Removing.{Lengthens}
use Rattle.seg_rbtree.proofs.ShortSubtreeRepairLaws.{restoring_stands, restoring_on, restored, restoring_ends}
use Rattle.seg_rbtree.proofs.remove.restore.Goals as goal

pub loop-preserved : goal.loop-preserved
loop-preserved g c = record {
  host = c.lengthen.ensures.host ∙ ap (λ (p : Placement). with_bytes p c.lengthen.new.w.bytes) c.loop.invariant.host;
  root = c.lengthen.ensures.root ∙ c.loop.invariant.root;
  restoring = λ layers tree s short.
      let i = c.loop.invariant.restoring layers tree s short in
      let stands = restoring_stands c.args.w.now.bytes c.loop.w.bytes c.args.path.now c.loop.path layers tree c.loop.counter c.loop.invariant.root s i in
      let l = subst (λ (b : Bool). Lengthens c.loop.w.bytes c.lengthen.new.w.bytes c.lengthen.new.path i.above i.part b) c.if-not-lengthen.false (c.lengthen.ensures.lengthened i.above i.part stands i.short) in
      restoring_on c.args.w.now.bytes c.loop.w.bytes c.lengthen.new.w.bytes c.args.path.now c.loop.path c.lengthen.new.path layers tree c.loop.counter c.loop.invariant.root c.lengthen.ensures.root i l;
}

pub returns-then-not-lengthen-clause-restored : goal.returns-then-not-lengthen-clause-restored
returns-then-not-lengthen-clause-restored g c = λ layers tree s short.
    let i = c.loop.invariant.restoring layers tree s short in
    let stands = restoring_stands c.args.w.now.bytes c.loop.w.bytes c.args.path.now c.loop.path layers tree c.loop.counter c.loop.invariant.root s i in
    let l = subst (λ (b : Bool). Lengthens c.loop.w.bytes c.lengthen.new.w.bytes c.lengthen.new.path i.above i.part b) c.if-not-lengthen.true (c.lengthen.ensures.lengthened i.above i.part stands i.short) in
    restored c.args.w.now.bytes c.loop.w.bytes c.lengthen.new.w.bytes c.args.path.now c.loop.path c.lengthen.new.path layers tree c.loop.counter c.loop.invariant.root c.lengthen.ensures.root i l

pub returns-clause-restored : goal.returns-clause-restored
returns-clause-restored g c = λ layers tree s short.
    absurd (restoring_ends c.args.w.now.bytes c.loop.w.bytes c.args.path.now c.loop.path layers tree c.loop.counter (omega (arith, c.loop-test.false)) (c.loop.invariant.restoring layers tree s short))
