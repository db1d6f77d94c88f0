use Rattle.std.proofs.Common.{◌≡◌, ℕ, refl, sym, ◌∙◌, subst}
use Rattle.seg_spec.specs.Shapes.{nodes_of}
use Rattle.seg_rbtree.specs.Changes.{without_node, Leaves}
use Rattle.seg_rbtree.proofs.TreeWithoutNodeLaws.{begins, named_there, whole_red, whole_few, red_left, short_stands, black_left}
use Rattle.seg_rbtree.proofs.path.Path.remove.Goals as goal

pub returns-in-Black-clause-removed : goal.returns-in-Black-clause-removed
returns-in-Black-clause-removed g c = λ turn node shape t way named apart.
    let bytes = c.args.w.now.bytes in
    let path = c.args.self.now in
    let there = c.in-Some.node in
    let at = named_there bytes path.root path turn there shape refl way (sym c.node.ensures ∙ c.in-Some.is) in
    let u = c.in-Black.ensures.unlinked way.layers way.rest (begins bytes path.root path turn there shape refl way t apart) (whole_red bytes path.root path turn there shape refl way t)
    (whole_few bytes path.root path turn there shape refl way t) at in
    let stands = short_stands bytes c.unlink.new.w.bytes path.root path c.unlink.new.path turn there shape refl way c.unlink.ensures.root t apart u in
    let same : there ≡ node = let e = sym c.in-Some.is ∙ c.node.ensures ∙ named in cc in
    subst (λ (n : ℕ). Leaves bytes c.restore.new.w.bytes path.root (nodes_of shape) (without_node n (nodes_of shape))) same
    (black_left bytes c.unlink.new.w.bytes path.root path c.unlink.new.path turn there shape refl way c.unlink.ensures.root t apart c.restore.new.w.bytes u (c.restore.ensures.restored u.above u.part stands u.state))

pub returns-in-Red-clause-removed : goal.returns-in-Red-clause-removed
returns-in-Red-clause-removed g c = λ turn node shape t way named apart.
    let bytes = c.args.w.now.bytes in
    let path = c.args.self.now in
    let there = c.in-Some.node in
    let at = named_there bytes path.root path turn there shape refl way (sym c.node.ensures ∙ c.in-Some.is) in
    let u = c.in-Red.ensures.unlinked way.layers way.rest (begins bytes path.root path turn there shape refl way t apart) (whole_red bytes path.root path turn there shape refl way t)
    (whole_few bytes path.root path turn there shape refl way t) at in
    let same : there ≡ node = let e = sym c.in-Some.is ∙ c.node.ensures ∙ named in cc in
    subst (λ (n : ℕ). Leaves bytes c.unlink.new.w.bytes path.root (nodes_of shape) (without_node n (nodes_of shape))) same
    (red_left bytes c.unlink.new.w.bytes path.root path c.unlink.new.path turn there shape refl way c.unlink.ensures.root t apart u)
