use Rattle.std.proofs.Common.{sym, ◌∙◌, refl}
use Rattle.seg_rbtree.specs.Paths.{node_at}
use Rattle.seg_rbtree.proofs.ClimbLaws.{stands_below, goes_up, no_root}
use Rattle.seg_rbtree.proofs.path.Path.go_on.Goals as goal

pub returns-in-None-clause-on : goal.returns-in-None-clause-on
returns-in-None-clause-on c = λ layers part s.
    let bytes = c.args.view.bytes.now in
    let path = c.args.self.now in
    let hung = stands_below bytes path path layers part refl s layers part refl s.steps_are in
    goes_up bytes path c.climb.new.self layers part c.climb.ensures.root s c.climb.result (no_root bytes (node_at bytes path) part hung (sym c.node_in.ensures ∙ c.in-None.is)) (c.climb.ensures.climbs layers s.steps_are)
