use Rattle.std.proofs.Common.{Ok, w64, subst}
use Rattle.std.proofs.lemmas.Int.{to_z-of_z}
use Rattle.seg_spec.specs.Types.{Form, form_at}
use Rattle.seg_cells.specs.Places.{place_of}
use Rattle.seg_map.specs.EitherMap.{MapKindOf}
use Rattle.seg_map.proofs.MapKinds.{as_flat, as_tree, removes_by}
use Rattle.seg_map.proofs.map.remove.Goals as goal

pub returns-in-Flat-clause-removes : goal.returns-in-Flat-clause-removes
returns-in-Flat-clause-removes g c = λ U keys vs blocks m s.
    let table = c.args.heap.now.types in
    let T = c.args.map.type_id in
    let a = as_flat table T (form_at table T) c.in-Flat.content U (subst (λ k. MapKindOf table T (form_at table T) (Ok k)) c.in-Flat.is c.in-Ok.ensures) m in
    removes_by c.args.heap.now.window.bytes c.remove.new.heap.window.bytes table (place_of c.args.map) keys vs s.home blocks (form_at table T) (Form.flat_map U) a.0 c.args.key _
    (to_z-of_z w64 c.args.key c.ranges.key) c.remove.result (c.remove.ensures.removes T U keys vs blocks a.0 a s)

pub returns-in-Tree-clause-removes : goal.returns-in-Tree-clause-removes
returns-in-Tree-clause-removes g c = λ U keys vs blocks m s.
    let table = c.args.heap.now.types in
    let T = c.args.map.type_id in
    let a = as_tree table T (form_at table T) c.in-Tree.content U (subst (λ k. MapKindOf table T (form_at table T) (Ok k)) c.in-Tree.is c.in-Ok.ensures) m in
    removes_by c.args.heap.now.window.bytes c.remove-in-Tree.new.heap.window.bytes table (place_of c.args.map) keys vs s.home blocks (form_at table T) (Form.map U) a.0 c.args.key _
    (to_z-of_z w64 c.args.key c.ranges.key) c.remove-in-Tree.result (c.remove-in-Tree.ensures.removes T U keys vs blocks a.0 a.1 s)
