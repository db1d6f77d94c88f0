use Rattle.std.proofs.Common.{◌≡◌, List, ap}
use Rattle.seg_spec.specs.Shapes.{Tree, IsBlack}
use Rattle.seg_spec.specs.Window.{Placement}
use Rattle.seg_rbtree.specs.declared.node.Colour.TheVariants.{Red}
use Rattle.seg_rbtree.specs.Nodes.{colour_at}
use Rattle.seg_rbtree.specs.Ways.{Layer}
use Rattle.seg_rbtree.specs.Removing.{IsShort, Lengthens}
use Rattle.seg_rbtree.proofs.ShortSubtreeStepLaws.{red_part, black_part, short_whole, step_up, holds_if, fails_if}
use Rattle.seg_rbtree.proofs.remove.lengthen.Goals as goal

pub returns-in-Some-clause-lengthened : goal.returns-in-Some-clause-lengthened
returns-in-Some-clause-lengthened g c =
    red_part c.args.w.now.bytes c.paint.new.w.bytes c.args.path.now c.node-here.result c.in-Some.node c.node-here.ensures c.in-Some.is
    (holds_if c.is_red.result (colour_at c.args.w.now.bytes c.node-here.result ≡ Red) c.is_red.ensures c.if-is_red.true) (ap (λ (p : Placement). p.bytes) c.paint.ensures)

pub returns-in-Some-pop-clause-lengthened : goal.returns-in-Some-pop-clause-lengthened
returns-in-Some-pop-clause-lengthened g c = λ layers x s short.
    let bytes = c.args.w.now.bytes in
    let black = black_part bytes c.args.path.now c.node-here.result c.node-here.ensures (fails_if c.is_red.result (colour_at bytes c.node-here.result ≡ Red) c.is_red.ensures c.if-is_red.false) layers x s in
    step_up bytes c.args.path.now c.pop.new.self c.in-Some-pop.short (λ (ls : List Layer) (t : Tree). IsShort ls t → IsBlack t → Lengthens bytes c.lengthen_beside.new.w.bytes c.lengthen_beside.new.path ls t c.lengthen_beside.result)
    c.in-Some-pop.ensures.popped c.pop.ensures.root (λ ls t other colour stands shorter b. c.lengthen_beside.ensures.lengthened ls t other colour stands shorter b) layers x s short black

pub returns-in-None-clause-lengthened : goal.returns-in-None-clause-lengthened
returns-in-None-clause-lengthened g c = λ layers x s short.
    let bytes = c.args.w.now.bytes in
    let black = black_part bytes c.args.path.now c.node-here.result c.node-here.ensures (fails_if c.is_red.result (colour_at bytes c.node-here.result ≡ Red) c.is_red.ensures c.if-is_red.false) layers x s in
    short_whole bytes c.args.path.now c.pop.new.self c.in-None.ensures.popped c.pop.ensures.root layers x s short black
