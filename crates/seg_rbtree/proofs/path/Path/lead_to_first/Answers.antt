use Rattle.std.proofs.Common.{ℕ, sym, subst}
use Rattle.seg_spec.specs.Shapes.{Tree, nodes_of}
use Rattle.seg_spec.specs.Search.{Ascend, IsSearchTree}
use Rattle.seg_rbtree.specs.Paths.{sought_by}
use Rattle.seg_rbtree.specs.declared.order.Sought.TheVariants.{First}
use Rattle.seg_rbtree.proofs.PlacePathLaws.{walked_same}
use Rattle.seg_rbtree.proofs.Firsts.{IsLedToFirst, led_to_first}
use Rattle.seg_rbtree.proofs.path.Path.lead_to_first.Given as given
use Rattle.seg_rbtree.proofs.path.Path.lead_to_first.Goals as goal

-- the end of the path, which goes down and then up again
led : (g : given.Over) (c : goal.After-climb g) → g.O.NodeOrder.exact → (shape : Tree) → IsSearchTree c.args.w.now.bytes c.args.tree.root shape → Ascend (g.O.NodeOrder.compare c.args.order.now c.args.w.now.bytes) (nodes_of shape)
    → IsLedToFirst (λ (x : ℕ). g.O.NodeOrder.compare_key c.args.order.now c.args.w.now.bytes x c.args.key) (g.O.NodeOrder.compare c.args.order.now c.args.w.now.bytes) c.args.w.now.bytes shape c.climb.new.self c.climb.result
led g c exact shape t a =
    let bytes = c.args.w.now.bytes in
    let order = c.args.order.now in
    let path = c.descend.new.self in
    let hung = subst (λ (root : ℕ). IsSearchTree bytes root shape) (sym c.begin.ensures.root) t in
    let way = walked_same (λ bs. sought_by (g.O.NodeOrder.compare order bs) (g.O.NodeOrder.compare_key order bs) (First c.args.key)) path c.view.ensures c.begin.ensures.root (c.descend.ensures.leads exact c.begin.ensures.steps) shape t in
    led_to_first (λ (x : ℕ). g.O.NodeOrder.compare_key order bytes x c.args.key) (g.O.NodeOrder.compare order bytes) (λ x y less. g.met.O.NodeOrder.keyed exact order bytes x y c.args.key less)
    (g.met.O.NodeOrder.total exact order bytes) bytes path c.climb.new.self shape c.climb.result c.climb.ensures.root (subst (λ (root : ℕ). IsSearchTree bytes root shape) (sym c.descend.ensures.root) hung) a
    way c.climb.ensures.climbs

pub returns-clause-node : goal.returns-clause-node
returns-clause-node g c = λ exact shape t a. (led g c exact shape t a).node_is

pub returns-clause-leads : goal.returns-clause-leads
returns-clause-leads g c = λ exact shape t a. (led g c exact shape t a).leads
