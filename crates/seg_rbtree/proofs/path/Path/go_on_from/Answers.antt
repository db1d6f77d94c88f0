use Rattle.std.proofs.Common.{sym, ◌∙◌, subst, refl}
use Rattle.seg_rbtree.specs.Following.{IsPartAt}
use Rattle.seg_rbtree.specs.Paths.{node_at}
use Rattle.seg_rbtree.proofs.ClimbLaws.{stands_below, goes_up, goes_down, no_right, fork_there}
use Rattle.seg_rbtree.proofs.path.Path.go_on_from.Goals as goal

pub returns-in-None-clause-on : goal.returns-in-None-clause-on
returns-in-None-clause-on c = λ named layers part s.
    let bytes = c.args.view.bytes.now in
    let path = c.args.self.now in
    let hung = stands_below bytes path path layers part refl s layers part refl s.steps_are in
    goes_up bytes path c.climb.new.self layers part c.climb.ensures.root s c.climb.result
    (no_right bytes (node_at bytes path) c.args.node part hung named (sym c.child_in.ensures ∙ c.in-None.is)) (c.climb.ensures.climbs layers s.steps_are)

pub returns-in-Some-clause-on : goal.returns-in-Some-clause-on
returns-in-Some-clause-on c = λ named layers part s.
    let bytes = c.args.view.bytes.now in
    let path = c.args.self.now in
    let hung = stands_below bytes path path layers part refl s layers part refl s.steps_are in
    let f = fork_there bytes (node_at bytes path) c.args.node part hung named in
    goes_down bytes path c.descend_right.new.path layers part c.descend_right.ensures.root s f.colour c.args.node f.left f.right c.descend_right.result f.part_is
    (c.descend_right.ensures.descended layers f.left f.right f.colour (subst (IsPartAt bytes path layers) f.part_is s) (sym c.child_in.ensures ∙ c.in-Some.is))
