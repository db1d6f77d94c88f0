use Rattle.std.proofs.Common.{◌≡◌, Some, ap, sym, ◌∙◌}
use Rattle.seg_spec.specs.Pointer.{target}
use Rattle.seg_rbtree.specs.declared.node.Colour.TheVariants.{Red}
use Rattle.seg_rbtree.specs.Nodes.{side_word, opposite, colour_at}
use Rattle.seg_rbtree.proofs.ShortSubtreeStepLaws.{by_lower, by_borrow, no_sibling, not_red_paint, holds_if, fails_if}
use Rattle.seg_rbtree.proofs.remove.lengthen_beside.Goals as goal

pub returns-in_default-clause-lengthened : goal.returns-in_default-clause-lengthened
returns-in_default-clause-lengthened g c = λ layers x other colour s short b.
    absurd (no_sibling c.args.w.now.bytes c.args.path.now c.args.short.side c.args.short.node
    ((λ i. target c.args.w.now.bytes (side_word (sym c.node.ensures i) (sym (c.other.ensures ∙ ap opposite c.side.ensures) i))) ∙ sym c.child.ensures ∙ c.in_default.is) layers x other colour s short)

pub returns-then-is_red-clause-lengthened : goal.returns-then-is_red-clause-lengthened
returns-then-is_red-clause-lengthened g c =
    by_lower c.args.w.now.bytes c.lower.new.w.bytes c.args.path.now c.lower.new.path c.args.short.side c.args.short.node c.in-Some.sibling
    ((λ i. target c.args.w.now.bytes (side_word (sym c.node.ensures i) (sym (c.other.ensures ∙ ap opposite c.side.ensures) i))) ∙ sym c.child.ensures ∙ c.in-Some.is)
    (holds_if c.is_red.result (colour_at c.args.w.now.bytes (Some c.in-Some.sibling) ≡ Red) c.is_red.ensures c.if-is_red.true)
    (λ layers x m d colour other s few. c.lower.ensures.lowered layers x m d colour other s few)

pub returns-else-is_red-clause-lengthened : goal.returns-else-is_red-clause-lengthened
returns-else-is_red-clause-lengthened g c =
    by_borrow c.args.w.now.bytes c.borrow.new.w.bytes c.args.path.now c.borrow.new.path c.args.short.side c.args.short.node c.in-Some.sibling c.borrow.result
    ((λ i. target c.args.w.now.bytes (side_word (sym c.node.ensures i) (sym (c.other.ensures ∙ ap opposite c.side.ensures) i))) ∙ sym c.child.ensures ∙ c.in-Some.is)
    (not_red_paint c.args.w.now.bytes (Some c.in-Some.sibling) (fails_if c.is_red.result (colour_at c.args.w.now.bytes (Some c.in-Some.sibling) ≡ Red) c.is_red.ensures c.if-is_red.false))
    (λ layers x m d colour s short b. c.borrow.ensures.lengthened layers x m d colour s short b)
