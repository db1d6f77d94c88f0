use Rattle.std.proofs.Common.{sym, ap, ◌∙◌}
use Rattle.seg_spec.specs.Window.{Placement}
use Rattle.seg_rbtree.proofs.NodeReplacementLaws.{renamed_there}
use Rattle.seg_rbtree.proofs.path.Path.replace.Goals as goal

pub returns-clause-replaced : goal.returns-clause-replaced
returns-clause-replaced g c = λ turn node shape t way named apart new_apart.
    renamed_there c.args.w.now.bytes c.init_as.new.w.bytes c.set.new.w.bytes c.args.self.now turn node c.in-Some.old c.args.new shape (sym c.node.ensures ∙ c.in-Some.is)
    (ap (λ (p : Placement). p.bytes) c.init_as.ensures) (ap (λ (p : Placement). p.bytes) c.set.ensures) t way named apart new_apart
