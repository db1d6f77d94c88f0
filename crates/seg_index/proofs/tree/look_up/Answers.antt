use Rattle.std.proofs.Common.{◌≡◌, ◌+◌, ℕ, Option, option_map, refl, ap, ◌∙◌, sym, Some, None}
use Rattle.seg_spec.specs.Window.{Placement}
use Rattle.seg_rbtree.specs.Paths.{node_at}
use Rattle.seg_cells.specs.NameEntries.{entry_read}
use Rattle.seg_index.specs.Lists.{LeadsToName}
use Rattle.seg_index.proofs.TreeLists.{entry_in, path_is, leads_to, looks_up}
use Rattle.seg_index.proofs.tree.look_up.Goals as goal

none : (o : Option ℕ) → ((x : ℕ) → o ≡ Some x → ⊥) → o ≡ None
none None h = refl
none (Some x) h = absurd (h x refl)

pub returns-in_default : goal.returns-in_default
returns-in_default g c = λ names blocks s kind.
    let allocator = g.F.Fit.allocator in
    let bytes = c.args.heap.now.window.bytes in
    let table = c.args.heap.now.types in
    let now = c.window-w.result.now.bytes in
    let path = c.path_to_key-path.result in
    let same = ap (λ (p : Placement). p.bytes) c.window-w.ensures in
    let node_is = sym c.node.ensures ∙ none c.node.result c.in_default.not-Some in
    let found = path_is allocator bytes table names blocks s kind now c.types.result.now c.names.result.root same c.types.ensures c.names.ensures c.args.name.now (node_at now path) (c.path_to_key-path.ensures.found tt) in
    let leads = leads_to allocator bytes table names blocks s kind now c.types.result.now c.names.result.root same c.types.ensures c.names.ensures c.args.name.now path c.path_to_key-path.ensures.root (c.path_to_key-path.ensures.leads tt) in
    looks_up names c.args.name.now None (LeadsToName bytes table c.args.name.now path) (sym (ap (option_map (entry_in bytes table)) node_is) ∙ found) leads

pub returns : goal.returns
returns g c = λ names blocks s kind.
    let allocator = g.F.Fit.allocator in
    let bytes = c.args.heap.now.window.bytes in
    let table = c.args.heap.now.types in
    let now = c.window-w.result.now.bytes in
    let path = c.path_to_key-path.result in
    let same = ap (λ (p : Placement). p.bytes) c.window-w.ensures in
    let node_is = sym c.node.ensures ∙ c.in-Some.is in
    let entry_is = c.entry_of-entry.ensures ∙ ap (λ bs. entry_read bs (c.in-Some.node + 16)) (c.view.ensures ∙ same) in
    let found = path_is allocator bytes table names blocks s kind now c.types.result.now c.names.result.root same c.types.ensures c.names.ensures c.args.name.now (node_at now path) (c.path_to_key-path.ensures.found tt) in
    let leads = leads_to allocator bytes table names blocks s kind now c.types.result.now c.names.result.root same c.types.ensures c.names.ensures c.args.name.now path c.path_to_key-path.ensures.root (c.path_to_key-path.ensures.leads tt) in
    looks_up names c.args.name.now (Some c.entry_of-entry.result) (LeadsToName bytes table c.args.name.now path) (ap Some entry_is ∙ sym (ap (option_map (entry_in bytes table)) node_is) ∙ found) leads
