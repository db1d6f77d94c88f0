use Rattle.std.proofs.Common.{rules, ◌≡◌, inl, false, refl, sym, ap, ◌∙◌}
use Rattle.seg_spec.specs.Types.{form_at}
use Rattle.seg_spec.specs.Heap.{tag_at}
use Rattle.seg_spec.specs.Block.{block_of}
use Rattle.seg_spec.specs.Shared.{named_in}
use Rattle.seg_layout.specs.Forms.{has_cells}
use Rattle.seg_cells.specs.Cells.{cells_of}
use Rattle.seg_cells.specs.Places.{object_at}
use Rattle.seg_value.specs.Stored.{Stored}
use Rattle.seg_cells.specs.declared.cells.Cells.TheVariants as cells
use Rattle.seg_cells.proofs.CellCases.{no_pointers}
use Rattle.seg_value.proofs.Nulls.{no_cells_own}
use Rattle.seg_value.proofs.WaitingOpenLaws.{same_object}
use Rattle.seg_value.proofs.heap.Heap.is_number.Goals as goal

pub returns-in-Some : goal.returns-in-Some
returns-in-Some g c = λ U v inside is loose.
    let heap = c.args.self.now in
    let tag = c.in-Some.tag in
    let same_bytes : c.self.inside.window.bytes ≡ heap.window.bytes = ap (λ (r : Stored). r.window.bytes) c.self.view_is in
    let word_is : c.tag_word.result ≡ tag_at heap.window.bytes (block_of c.args.object) =
    c.tag_word.ensures ∙ ap (tag_at c.self.inside.window.bytes) c.block_of.ensures ∙ ap (λ b. tag_at b (block_of c.args.object)) same_bytes in
    let same = same_object tag.kind tag.type_id U (sym c.in-Some.ensures.spelled ∙ word_is ∙ loose.block.has_tag) in
    let number : c.cells.result ≡ cells.Number = search (rules, c.eq.ensures, is) in
    let none : has_cells (form_at heap.types U) ≡ false = no_pointers (form_at heap.types U) (ap (λ T. cells_of (form_at heap.types T)) (sym same.1) ∙ sym c.cells.ensures.cells ∙ number) in
    let n = no_cells_own heap.window.bytes heap.types (object_at c.args.object U) inside (named_in v) none (inl (v, loose.holds_it, refl)) in
    (n.no_blocks, n.no_names)
