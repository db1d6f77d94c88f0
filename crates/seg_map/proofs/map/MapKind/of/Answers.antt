use Rattle.std.proofs.Common.{rules, ◌≡◌, Err, inl, inr}
use Rattle.seg_spec.specs.Types.{form_at}
use Rattle.seg_raw.specs.declared.code.Code.TheVariants as code
use Rattle.seg_cells.specs.declared.content.Shape.TheVariants as shape
use Rattle.seg_map.proofs.MapKinds.{no_kind, flat_kind, tree_kind, other_kind, found_content, found_none}
use Rattle.seg_map.proofs.map.MapKind.of.Goals as goal

pub returns-in_err-content : goal.returns-in_err-content
returns-in_err-content g c =
    let e : c.from_residual.result ≡ Err code.OtherType = search rules in
    let table = (g.S.SegmentRead.stored c.args.source.now).types in
    let T = c.args.map.type_id in
    rw e (no_kind table T (form_at table T) (found_none table T (form_at table T) c.content.result c.ok_or.result c.in_err-content.field-0.0 c.content.ensures c.ok_or.ensures.value c.in_err-content.was))

pub returns-then-content-eq-KEY : goal.returns-then-content-eq-KEY
returns-then-content-eq-KEY g c =
    let table = (g.S.SegmentRead.stored c.args.source.now).types in
    let T = c.args.map.type_id in
    flat_kind table T c.in_ok-content.content (form_at table T) (found_content table T (form_at table T) c.content.result c.ok_or.result c.in_ok-content.content c.content.ensures c.ok_or.ensures.value c.in_ok-content.was)
    c.in-Buffer.is c.if-content-eq-KEY.true

pub returns-else-content-eq-KEY : goal.returns-else-content-eq-KEY
returns-else-content-eq-KEY g c =
    let table = (g.S.SegmentRead.stored c.args.source.now).types in
    let T = c.args.map.type_id in
    let is = c.in-Buffer.is in
    let no = c.if-content-eq-KEY.false in
    other_kind table T c.in_ok-content.content (form_at table T) (found_content table T (form_at table T) c.content.result c.ok_or.result c.in_ok-content.content c.content.ensures c.ok_or.ensures.value c.in_ok-content.was)
    (λ b k. no k) (λ t. let e : shape.Buffer ≡ shape.Tree = cc in absurd (cc))

pub returns-in-Tree : goal.returns-in-Tree
returns-in-Tree g c =
    let table = (g.S.SegmentRead.stored c.args.source.now).types in
    let T = c.args.map.type_id in
    tree_kind table T c.in_ok-content.content (form_at table T) (found_content table T (form_at table T) c.content.result c.ok_or.result c.in_ok-content.content c.content.ensures c.ok_or.ensures.value c.in_ok-content.was)
    c.in-Tree.is

pub returns-in-Ring : goal.returns-in-Ring
returns-in-Ring g c =
    let table = (g.S.SegmentRead.stored c.args.source.now).types in
    let T = c.args.map.type_id in
    other_kind table T c.in_ok-content.content (form_at table T) (found_content table T (form_at table T) c.content.result c.ok_or.result c.in_ok-content.content c.content.ensures c.ok_or.ensures.value c.in_ok-content.was)
    (λ b k. elim c.in-Ring.is [ inl e ↦ let f : shape.Ring ≡ shape.Buffer = cc in absurd (cc) | inr e ↦ let f : shape.Object ≡ shape.Buffer = cc in absurd (cc) ])
    (λ t. elim c.in-Ring.is [ inl e ↦ let f : shape.Ring ≡ shape.Tree = cc in absurd (cc) | inr e ↦ let f : shape.Object ≡ shape.Tree = cc in absurd (cc) ])
