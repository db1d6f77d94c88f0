use Rattle.std.proofs.Common.{ℕ, ◌∙◌, ap, sym}
use Rattle.seg_spec.specs.Pointer.{target}
use Rattle.seg_rbtree.proofs.NodeRemovalLaws.{part_word}
use Rattle.seg_rbtree.proofs.next.descend_to_first.Goals as goal

pub returns-in_err-first-clause-descended : goal.returns-in_err-first-clause-descended
returns-in_err-first-clause-descended c = λ layers tree s some.
    absurd (some (ap (λ (w : ℕ). target c.args.view.bytes.now w) (sym (part_word c.args.view.bytes.now c.args.path.now layers tree s)) ∙ sym c.node_in.ensures ∙ c.in_err-first.was))

pub returns-clause-descended : goal.returns-clause-descended
returns-clause-descended c = λ layers tree s some.
    c.descend_from.ensures.descended layers tree s (ap (λ (w : ℕ). target c.args.view.bytes.now w) (sym (part_word c.args.view.bytes.now c.args.path.now layers tree s)) ∙ sym c.node_in.ensures ∙ c.in_ok-first.was)
