use Rattle.std.proofs.Common.{◌∷◌, [], ap, ◌∙◌, sym, subst}
use Rattle.seg_spec.specs.Index.{root_named}
use Rattle.seg_index.specs.Lists.{LeadsToName}
use Rattle.seg_index.proofs.LookUps.{root_of_name, tree_spot}
use Rattle.seg_index.proofs.lookup.Occupied.remove.Goals as goal

pub returns-in-Tree-clause-leaves : goal.returns-in-Tree-clause-leaves
returns-in-Tree-clause-leaves g c = λ names blocks f name root o.
    let bytes = c.args.heap.now.window.bytes in
    let table = c.args.heap.now.types in
    let spot = tree_spot bytes table names name (root ∷ []) c.args.self.spot c.in-Tree.path o.spot c.in-Tree.is in
    let same = root_of_name names name root o.found in
    c.remove-in-Tree.ensures.leaves names blocks f spot.0 root (ap (root_named names) same ∙ o.found) (subst (λ n. LeadsToName bytes table n c.in-Tree.path) (sym same) spot.1)
