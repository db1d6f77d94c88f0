use Rattle.std.proofs.Common.{◌≡◌, ◌≤◌, [], sym, ap, ◌∙◌, subst}
use Rattle.seg_spec.specs.Types.{Table, version_of, longer}
use Rattle.seg_spec.specs.Value.{nil}
use Rattle.seg_spec.proofs.Images.UpgradeLaws.{any_type}
use Rattle.lezgauri.specs.Images.{segment_of, allocator_of, types_of, IsOpen}
use Rattle.lezgauri.specs.Segments.{IsSegment}
use Rattle.lezgauri.specs.NewSegments.{nothing}
use Rattle.lezgauri_uses.specs.Tables.{types, table_value, picture_of}
use Rattle.lezgauri_uses.proofs.TableLaws.{bare, table_made}
use Rattle.lezgauri_uses.proofs.settings.new_table.Goals as goal

pub returns : goal.returns
returns c =
    let image = c.in_ok-image.image in
    let made = c.in_ok-image.ensures.empty in
    let empty : IsOpen image nothing = subst (λ a. IsSegment a (segment_of image) nothing) (sym c.in_ok-image.ensures.allocator) made.segment in
    let table = c.in_ok-table_types.field-0 in
    let typed = c.add_types.new.self in
    let adds = c.in_ok-add_types.ensures.adds nothing empty (record { each = λ T form is. subst (λ v. version_of form ≤ v) (sym made.version_is) (any_type form) }) in
    let types_are : longer (types_of image) table ≡ types = ap (λ (t : Table). longer t table) made.segment.table_is ∙ ap (longer []) c.in_ok-table_types.ensures in
    let its = subst (λ a. IsSegment a (segment_of typed) (record nothing { table = longer (types_of image) table })) (sym c.add_types.ensures.allocator) adds.segment in
    let ready : IsOpen typed bare = subst (λ (t : Table). IsSegment (allocator_of typed) (segment_of typed) (record nothing { table = t })) types_are its in
    let named = c.in_ok-construct.ensures.makes bare ready in
    let place = c.in_ok-construct.field-0 in
    let new = c.construct.new.self in
    let there = table_made (allocator_of typed) (types_of typed) (segment_of new) named.before named.after place.at ready.table_is named.names_are named.becomes.segment in
    (place.at, subst (λ a. IsSegment a (segment_of new) (picture_of place.at (table_value ([], nil) []))) (sym c.construct.ensures.bytes.allocator) there)
