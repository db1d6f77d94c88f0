use Rattle.std.proofs.Common.{◌≡◌, ◌≤◌, [], sym, ap, ◌∙◌, subst}
use Rattle.seg_spec.specs.Types.{Table, version_of, longer}
use Rattle.seg_spec.proofs.Images.UpgradeLaws.{any_type}
use Rattle.lezgauri.specs.Images.{segment_of, allocator_of, types_of, IsOpen}
use Rattle.lezgauri.specs.Segments.{IsSegment}
use Rattle.lezgauri.specs.NewSegments.{nothing}
use Rattle.lezgauri_uses.specs.Caches.{types}
use Rattle.lezgauri_uses.proofs.cache.Cache.new.Goals as goal

pub returns-clause-empty : goal.returns-clause-empty
returns-clause-empty c =
    let image = c.in_ok-image.image in
    let made = c.in_ok-image.ensures.empty in
    let empty : IsOpen image nothing = subst (λ a. IsSegment a (segment_of image) nothing) (sym c.in_ok-image.ensures.allocator) made.segment in
    let table = c.in_ok-type_table.field-0 in
    let typed = c.add_types.new.self in
    let adds = c.in_ok-add_types.ensures.adds nothing empty (record { each = λ T form is. subst (λ v. version_of form ≤ v) (sym made.version_is) (any_type form) }) in
    let types_are : longer (types_of image) table ≡ types = ap (λ (t : Table). longer t table) made.segment.table_is ∙ ap (longer []) c.in_ok-type_table.ensures.table in
    let its = subst (λ a. IsSegment a (segment_of typed) (record nothing { table = longer (types_of image) table })) (sym c.add_types.ensures.allocator) adds.segment in
    c.in_ok-in_image.ensures.makes (subst (λ (t : Table). IsSegment (allocator_of typed) (segment_of typed) (record nothing { table = t })) types_are its)
