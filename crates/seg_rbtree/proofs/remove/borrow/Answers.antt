use Rattle.std.proofs.Common.{◌≡◌, ℕ, Option, ap, sym, ◌∙◌}
use Rattle.seg_spec.specs.Pointer.{target}
use Rattle.seg_spec.specs.Shapes.{black, red}
use Rattle.seg_spec.specs.Window.{Placement}
use Rattle.seg_rbtree.specs.declared.node.Side.{Side}
use Rattle.seg_rbtree.specs.declared.node.Colour.TheVariants.{Red}
use Rattle.seg_rbtree.specs.Nodes.{side_word, opposite, colour_at, rotated}
use Rattle.seg_rbtree.proofs.ShortSubtreeStepLaws.{by_outer, by_inner, shortening, not_red_paint, holds_if, fails_if}
use Rattle.seg_rbtree.proofs.remove.borrow.Goals as goal

pub returns-in-Some-clause-lengthened : goal.returns-in-Some-clause-lengthened
returns-in-Some-clause-lengthened g c = λ layers tree inner outer colour s short b.
    let far = c.other-far.ensures ∙ ap opposite c.side-side.ensures in
    by_outer c.args.w.now.bytes c.paint.new.w.bytes c.args.path.now c.args.short.side c.args.short.node c.args.sibling colour layers tree inner c.come_up.new.w.bytes c.in-Some.outer outer
    (ap (λ (d : Side). target c.args.w.now.bytes (side_word c.args.sibling d)) (sym far) ∙ c.in-Some.ensures.red.0) c.in-Some.ensures.red.1 (ap (λ (p : Placement). p.bytes) c.paint.ensures)
    (λ d t. c.come_up.ensures.came_up layers tree inner d c.args.sibling colour black t) s short b

pub returns-then-is_red-clause-lengthened : goal.returns-then-is_red-clause-lengthened
returns-then-is_red-clause-lengthened g c = λ layers tree inner outer colour s short b.
    let bytes = c.args.w.now.bytes in
    let far = c.other-far.ensures ∙ ap opposite c.side-side.ensures in
    let inner_is = c.child.ensures ∙ ap (λ (d : Side). target bytes (side_word c.args.sibling d)) c.side-side.ensures in
    let at = c.child_word.ensures ∙ (λ i. side_word (c.node.ensures i) (far i)) in
    by_inner bytes c.rotate.new.w.bytes c.args.path.now c.args.short.side c.args.short.node c.args.sibling colour layers tree outer c.come_up-then-is_red.new.w.bytes inner
    (sym (ap (λ (o : Option ℕ). colour_at bytes o) inner_is) ∙ holds_if c.is_red.result (colour_at bytes c.child.result ≡ Red) c.is_red.ensures c.if-is_red.true)
    (ap (λ (p : Placement). p.bytes) c.rotate.ensures.rotated ∙ (λ i. rotated bytes (at i) c.args.sibling (far i)))
    (λ up m d t. c.come_up-then-is_red.ensures.came_up layers tree m d up colour red t) s short b

pub returns-clause-lengthened : goal.returns-clause-lengthened
returns-clause-lengthened g c = λ layers tree inner outer colour s short b.
    let bytes = c.args.w.now.bytes in
    let far = c.other-far.ensures ∙ ap opposite c.side-side.ensures in
    let inner_is = c.child.ensures ∙ ap (λ (d : Side). target bytes (side_word c.args.sibling d)) c.side-side.ensures in
    shortening bytes c.paint-2.new.w.bytes c.args.path.now c.args.short.side c.args.short.node c.args.sibling colour layers tree inner outer s (ap (λ (p : Placement). p.bytes) c.paint-2.ensures)
    (sym (ap (λ (o : Option ℕ). colour_at bytes o) inner_is) ∙ not_red_paint bytes c.child.result (fails_if c.is_red.result (colour_at bytes c.child.result ≡ Red) c.is_red.ensures c.if-is_red.false))
    (ap (λ (d : Side). colour_at bytes (target bytes (side_word c.args.sibling d))) (sym far) ∙ c.in_default.ensures.none) short b
