use Rattle.std.proofs.Common.{ℕ, sym, subst}
use Rattle.seg_spec.specs.Search.{IsSearchTree}
use Rattle.seg_rbtree.proofs.ClimbLaws.{first_found}
use Rattle.seg_rbtree.proofs.path.Path.first.Goals as goal

pub returns-clause-node : goal.returns-clause-node
returns-clause-node c = λ shape t.
    let bytes = c.args.view.bytes.now in
    (first_found bytes c.begin.new.self c.descend_to_first.new.path shape c.descend_to_first.result c.begin.ensures.steps c.descend_to_first.ensures.none c.descend_to_first.ensures.descended
    (subst (λ (root : ℕ). IsSearchTree bytes root shape) (sym c.begin.ensures.root) t)).0

pub returns-clause-inside : goal.returns-clause-inside
returns-clause-inside c = λ shape t.
    let bytes = c.args.view.bytes.now in
    (first_found bytes c.begin.new.self c.descend_to_first.new.path shape c.descend_to_first.result c.begin.ensures.steps c.descend_to_first.ensures.none c.descend_to_first.ensures.descended
    (subst (λ (root : ℕ). IsSearchTree bytes root shape) c.descend_to_first.ensures.root t)).1
