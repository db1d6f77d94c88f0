use Rattle.std.proofs.Common.{Ok, w64, subst}
use Rattle.std.proofs.lemmas.Int.{to_z-of_z}
use Rattle.seg_spec.specs.Types.{Form, form_at}
use Rattle.seg_cells.specs.Places.{place_of}
use Rattle.seg_map.specs.EitherMap.{MapKindOf}
use Rattle.seg_map.proofs.MapKinds.{as_flat, as_tree, puts_by, tree_paths_by}
use Rattle.seg_map.proofs.map.put.Goals as goal

pub returns-in-Flat-clause-puts : goal.returns-in-Flat-clause-puts
returns-in-Flat-clause-puts g c = λ U keys vs blocks m s.
    let table = c.args.heap.now.types in
    let T = c.args.map.type_id in
    let a = as_flat table T (form_at table T) c.in-Flat.content U (subst (λ k. MapKindOf table T (form_at table T) (Ok k)) c.in-Flat.is c.in_ok-content.ensures) m in
    puts_by g.F.Fit.allocator c.args.heap.now.window.bytes c.put.new.heap.window.bytes table (place_of c.args.map) U keys vs blocks (form_at table T) (Form.flat_map U) a.0 c.args.key _
    (to_z-of_z w64 c.args.key c.ranges.key) c.put.result (c.put.ensures.puts T U keys vs blocks a.0 s a)

pub returns-in-Tree-clause-puts : goal.returns-in-Tree-clause-puts
returns-in-Tree-clause-puts g c = λ U keys vs blocks m s.
    let table = c.args.heap.now.types in
    let T = c.args.map.type_id in
    let a = as_tree table T (form_at table T) c.in-Tree.content U (subst (λ k. MapKindOf table T (form_at table T) (Ok k)) c.in-Tree.is c.in_ok-content.ensures) m in
    puts_by g.F.Fit.allocator c.args.heap.now.window.bytes c.put-in-Tree.new.heap.window.bytes table (place_of c.args.map) U keys vs blocks (form_at table T) (Form.map U) a.0 c.args.key _
    (to_z-of_z w64 c.args.key c.ranges.key) c.put-in-Tree.result (c.put-in-Tree.ensures.puts T U keys vs blocks a.0 s a.1)

pub returns-in-Flat-clause-keeps : goal.returns-in-Flat-clause-keeps
returns-in-Flat-clause-keeps g c = λ U keys vs blocks m s.
    let table = c.args.heap.now.types in
    let T = c.args.map.type_id in
    let a = as_flat table T (form_at table T) c.in-Flat.content U (subst (λ k. MapKindOf table T (form_at table T) (Ok k)) c.in-Flat.is c.in_ok-content.ensures) m in
    tree_paths_by c.args.heap.now.window.bytes c.put.new.heap.window.bytes table (place_of c.args.map) (form_at table T) (Form.flat_map U) a.0 tt

pub returns-in-Tree-clause-keeps : goal.returns-in-Tree-clause-keeps
returns-in-Tree-clause-keeps g c = λ U keys vs blocks m s.
    let table = c.args.heap.now.types in
    let T = c.args.map.type_id in
    let a = as_tree table T (form_at table T) c.in-Tree.content U (subst (λ k. MapKindOf table T (form_at table T) (Ok k)) c.in-Tree.is c.in_ok-content.ensures) m in
    tree_paths_by c.args.heap.now.window.bytes c.put-in-Tree.new.heap.window.bytes table (place_of c.args.map) (form_at table T) (Form.map U) a.0 (c.put-in-Tree.ensures.keeps T U keys vs blocks a.0 s a.1)
