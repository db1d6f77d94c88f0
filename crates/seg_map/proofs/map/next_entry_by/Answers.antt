use Rattle.std.proofs.Common.{rules, ◌≡◌, Ok, Err, w64, ap, ◌∙◌, subst}
use Rattle.std.proofs.lemmas.Int.{to_z-of_z}
use Rattle.seg_spec.specs.Types.{form_at}
use Rattle.seg_map.specs.Maps.{first_of, keys_above}
use Rattle.seg_cells.specs.Places.{place_of}
use Rattle.seg_raw.specs.declared.code.Code.TheVariants as code
use Rattle.seg_map.specs.EitherMap.{MapKindOf}
use Rattle.seg_map.proofs.MapKinds.{as_flat, as_tree, kind_keys, kind_none, only_code, entry_by}
use Rattle.seg_map.proofs.map.next_entry_by.Goals as goal
use Rattle.seg_map.proofs.map.next_entry_by.Goals.{in-Flat, in-Tree}

pub returns-clause-other : goal.returns-clause-other
returns-clause-other g c =
    let table = (g.S.SegmentRead.stored c.args.source.now).types in
    let T = c.args.map.type_id in
    λ none. let k = kind_keys table T (form_at table T) c.in_ok-content.field-0 c.in_ok-content.ensures in absurd (cc)

pub returns-clause-code : goal.returns-clause-code
returns-clause-code g c =
    let table = (g.S.SegmentRead.stored c.args.source.now).types in
    let T = c.args.map.type_id in
    λ keys. only_code c.match-branch-2.ok_or c.ok_or.result code.Null c.ok_or.ensures.value

pub returns-clause-next : goal.returns-clause-next
returns-clause-next g c =
    let stored = g.S.SegmentRead.stored c.args.source.now in
    let table = stored.types in
    let T = c.args.map.type_id in
    λ inside U keys vs blocks m s. elim c.match-branch-2.branch [
      | in-Flat w ↦
          let a = as_flat table T (form_at table T) w.in-Flat.content U (subst (λ k. MapKindOf table T (form_at table T) (Ok k)) w.in-Flat.is c.in_ok-content.ensures) m in
          entry_by stored.window.bytes table (place_of c.args.map) U _ _ (ap (λ k. first_of (keys_above keys k)) (to_z-of_z w64 c.args.after c.ranges.after))
          c.match-branch-2.ok_or w.next_entry_by.result w.ok_or-is c.ok_or.result code.Null
          c.ok_or.ensures.value (w.next_entry_by.ensures T U keys vs blocks a.0 s a.1.entry_is)
      | in-Tree w ↦
          let a = as_tree table T (form_at table T) w.in-Tree.content U (subst (λ k. MapKindOf table T (form_at table T) (Ok k)) w.in-Tree.is c.in_ok-content.ensures) m in
          entry_by stored.window.bytes table (place_of c.args.map) U _ _ (ap (λ k. first_of (keys_above keys k)) (to_z-of_z w64 c.args.after c.ranges.after))
          c.match-branch-2.ok_or w.next_entry_by-in-Tree.result w.ok_or-is c.ok_or.result code.Null
          c.ok_or.ensures.value (w.next_entry_by-in-Tree.ensures.next inside T U keys vs blocks a.0 s a.1.entry_is)
    ]

pub returns-in_err-content-clause-other : goal.returns-in_err-content-clause-other
returns-in_err-content-clause-other g c =
    let e : c.from_residual.result ≡ Err c.in_err-content.field-0.0 = search rules in
    let table = (g.S.SegmentRead.stored c.args.source.now).types in
    let n = kind_none table c.args.map.type_id (form_at table c.args.map.type_id) c.in_err-content.field-0.0 c.in_err-content.ensures in
    λ none. e ∙ ap (λ x. Err x) n.code_is

pub returns-in_err-content-clause-code : goal.returns-in_err-content-clause-code
returns-in_err-content-clause-code g c =
    let e : c.from_residual.result ≡ Err c.in_err-content.field-0.0 = search rules in
    let table = (g.S.SegmentRead.stored c.args.source.now).types in
    let n = kind_none table c.args.map.type_id (form_at table c.args.map.type_id) c.in_err-content.field-0.0 c.in_err-content.ensures in
    λ keys. let k = n.keys in absurd (cc)

pub returns-in_err-content-clause-next : goal.returns-in_err-content-clause-next
returns-in_err-content-clause-next g c =
    let e : c.from_residual.result ≡ Err c.in_err-content.field-0.0 = search rules in
    let table = (g.S.SegmentRead.stored c.args.source.now).types in
    let n = kind_none table c.args.map.type_id (form_at table c.args.map.type_id) c.in_err-content.field-0.0 c.in_err-content.ensures in
    λ inside U keys vs blocks m s. absurd (n.no_map U m)
