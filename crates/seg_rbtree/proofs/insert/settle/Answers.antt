use Rattle.std.proofs.Common.{◌≡◌, true, false, Some, None, refl, sym, ap, ◌∙◌, subst}
use Rattle.seg_spec.specs.Pointer.{target}
use Rattle.seg_spec.specs.Window.{Placement}
use Rattle.seg_rbtree.specs.declared.node.Colour.TheVariants.{Black, Red}
use Rattle.seg_rbtree.specs.Nodes.{side_word, opposite, colour_at}
use Rattle.seg_rbtree.specs.Ways.{last_word}
use Rattle.seg_rbtree.specs.Rising.{Settles}
use Rattle.seg_rbtree.proofs.RedPairStepLaws.{settled_root, settled_below_black, family, red_below_some}
use Rattle.seg_rbtree.proofs.RecolourLaws.{settled_parting, settled_straight}
use Rattle.seg_rbtree.proofs.insert.settle.Goals.{in_default-uncle-via-in-Some-uncle+else-is_red, in_default-uncle-via-in_default-uncle}
use Rattle.seg_rbtree.proofs.insert.settle.Goals as goal

pub returns-in_default-clause-settled : goal.returns-in_default-clause-settled
returns-in_default-clause-settled g c = λ nodes s.
    let bytes = c.args.w.now.bytes in
    let root = c.args.path.now.root in
    let steps = c.args.path.now.steps.items in
    let rest = c.pop.new.self.steps.items in
    subst (λ (v : Placement). Settles bytes v.bytes root steps rest nodes None) (sym c.paint.ensures) (settled_root bytes root nodes c.args.node steps rest c.in_default.ensures.popped s)

pub returns-then-not-is_red-clause-settled : goal.returns-then-not-is_red-clause-settled
returns-then-not-is_red-clause-settled g c = λ nodes s.
    settled_below_black c.args.w.now.bytes c.args.path.now.root nodes c.args.node c.args.path.now.steps.items c.pop.new.self.steps.items c.in-Some.parent c.in-Some.ensures.popped
    (λ e. let t : c.is_red.result ≡ true = c.is_red.ensures.1 (ap (λ n. colour_at c.args.w.now.bytes (Some n)) c.node.ensures ∙ e) in let f = c.if-not-is_red.true in cc) s

pub returns-in_err-grandparent-clause-settled : goal.returns-in_err-grandparent-clause-settled
returns-in_err-grandparent-clause-settled g c = λ nodes s.
    absurd (red_below_some c.args.w.now.bytes c.args.path.now.root nodes c.args.node c.args.path.now.steps.items c.pop.new.self.steps.items c.in-Some.parent c.in-Some.ensures.popped c.in_err-grandparent.ensures.popped
    (ap (λ n. colour_at c.args.w.now.bytes (Some n)) (sym c.node.ensures) ∙ c.is_red.ensures.0 c.if-not-is_red.false) s)

pub returns-in-Some-uncle-clause-settled : goal.returns-in-Some-uncle-clause-settled
returns-in-Some-uncle-clause-settled g c = λ nodes s.
    let bytes = c.args.w.now.bytes in
    let root = c.args.path.now.root in
    let steps = c.args.path.now.steps.items in
    let rest = c.pop.new.self.steps.items in
    let more = c.pop-2.new.self.steps.items in
    let parent = c.in-Some.parent in
    let grandparent = c.in_ok-grandparent.grandparent in
    let red : colour_at bytes (Some parent.node) ≡ Red = ap (λ n. colour_at bytes (Some n)) (sym c.node.ensures) ∙ c.is_red.ensures.0 c.if-not-is_red.false in
    let f = family bytes root nodes c.args.node steps rest more parent grandparent c.in-Some.ensures.popped c.in_ok-grandparent.ensures.popped red s in
    let at : c.child-uncle.result ≡ target bytes (side_word grandparent.node (opposite grandparent.side)) = c.child-uncle.ensures ∙ (λ i. target bytes (side_word (c.node-top.ensures i) ((c.other.ensures ∙ ap opposite c.side.ensures) i))) in
    rw (c.push_red_up.ensures, c.node-top.ensures, c.node-in-Some-uncle.ensures)
    (settled_parting bytes root nodes c.args.node parent grandparent steps rest more f c.child-uncle.result c.in-Some-uncle.uncle c.in-Some.ensures.popped c.in_ok-grandparent.ensures.popped at c.in-Some-uncle.is
    (c.if-is_red.ensures.0 refl))

pub returns-in_default-uncle-clause-settled : goal.returns-in_default-uncle-clause-settled
returns-in_default-uncle-clause-settled g c = λ nodes s.
    let bytes = c.args.w.now.bytes in
    let root = c.args.path.now.root in
    let steps = c.args.path.now.steps.items in
    let rest = c.pop.new.self.steps.items in
    let more = c.pop-2.new.self.steps.items in
    let parent = c.in-Some.parent in
    let grandparent = c.in_ok-grandparent.grandparent in
    let red : colour_at bytes (Some parent.node) ≡ Red = ap (λ n. colour_at bytes (Some n)) (sym c.node.ensures) ∙ c.is_red.ensures.0 c.if-not-is_red.false in
    let f = family bytes root nodes c.args.node steps rest more parent grandparent c.in-Some.ensures.popped c.in_ok-grandparent.ensures.popped red s in
    let at : c.child-uncle.result ≡ target bytes (side_word grandparent.node (opposite grandparent.side)) = c.child-uncle.ensures ∙ (λ i. target bytes (side_word (c.node-top.ensures i) ((c.other.ensures ∙ ap opposite c.side.ensures) i))) in
    let black : colour_at bytes c.child-uncle.result ≡ Red → ⊥ = elim c.in_default-uncle.branch [
      | in_default-uncle-via-in-Some-uncle+else-is_red w ↦ (λ e. let t : false ≡ true = w.if-is_red.ensures.1 (ap (λ o. colour_at bytes o) (sym w.in-Some-uncle.is) ∙ e) in cc)
      | in_default-uncle-via-in_default-uncle w ↦ (λ e. let d : colour_at bytes c.child-uncle.result ≡ Black = ap (λ o. colour_at bytes o) w.in_default-uncle.is in cc)
    ] in
    subst (λ (v : Placement). Settles bytes v.bytes root steps more nodes None) (sym c.straighten.ensures)
    (settled_straight bytes root nodes c.args.node parent grandparent steps rest more f c.child-uncle.result c.word.result at black
    (c.word.ensures ∙ ap (λ r. last_word r more) (c.in_ok-grandparent.ensures.root ∙ c.in-Some.ensures.root)))
