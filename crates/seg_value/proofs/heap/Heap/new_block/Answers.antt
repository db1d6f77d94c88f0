use Rattle.std.proofs.Common.{◌≡◌, ℕ, ◌+◌, ◌*◌, ◌%◌, ◌^◌, ◌<◌, ◌≤◌, ap, ◌∙◌, sym, subst, Some, length}
use Rattle.seg_spec.specs.Window.{Placement, with_bytes}
use Rattle.seg_spec.specs.Bytes.{set_word}
use Rattle.seg_spec.specs.Heap.{IsHeap}
use Rattle.seg_spec.specs.Types.{IsTable}
use Rattle.seg_block.specs.Tags.{word_of}
use Rattle.seg_cells.specs.declared.content.Shape.{Shape}
use Rattle.seg_cells.specs.declared.place.Place.{Place}
use Rattle.seg_cells.specs.Contents.{IsContent}
use Rattle.seg_value.specs.Contents.{GivesBlock}
use Rattle.seg_value.specs.Stored.{Stored}
use Rattle.seg_cells.specs.Contents.{IsIndexNode}
use Rattle.seg_value.specs.Nodes.{GivesNode}
use Rattle.seg_value.proofs.NewBlocks.{gives_block_for}
use Rattle.seg_value.proofs.NewNodes.{gives_node_at}
use Rattle.seg_value.proofs.heap.Heap.new_block.Goals as goal

bytes_of : (p q : Placement) → p ≡ q → p.bytes ≡ q.bytes
bytes_of p q e = ap (λ (r : Placement). r.bytes) e

same_place : (p q : Place) → Some p ≡ Some q → p ≡ q
same_place p q e = cc

pub returns-in-Some-value-clause-given : goal.returns-in-Some-value-clause-given
returns-in-Some-value-clause-given g c = subst (λ (s : Stored). (before U tag : ℕ) (shape : Shape) → IsContent s.types shape tag before U c.args.content.now →
    before ≤ 24 → tag < 2 ^ 32 → IsTable s.types → U < length s.types → IsHeap g.F.Fit.allocator s.window.bytes →
    GivesBlock g.F.Fit.allocator s.window.bytes c.init_default.new.self.window.bytes s.types tag before U c.tagged-payload.result)
    c.self.view_is (λ before U tag shape content low small valid below heap.
    let entry = c.args.content.now.entry in
    let found : Place = record { at = (c.tagged-payload.result + 0 * entry.size + entry.before) % 2 ^ 32; type_id = U } in
    let value_is = same_place c.in-Some-value.value found (sym c.in-Some-value.is ∙ c.value.ensures.value U content.entry_is.held_is) in
    let taken = c.allocate.new.w in
    let tagged_by = bytes_of c.tagged-payload.new.self.window (with_bytes taken (set_word taken.bytes (c.in-Some.block + 8) (word_of c.args.content.now.tag)))
    c.tagged-payload.ensures.window ∙ ap (λ n. set_word taken.bytes (c.in-Some.block + 8) n) content.tag_is in
    gives_block_for g.F.Fit.allocator c.in-Some.block tag before U c.in-Some-value.value.type_id entry.before c.need-need.result entry.size
    c.tagged-payload.result c.in-Some-value.value.at
    c.self.inside.window.bytes taken.bytes c.tagged-payload.new.self.window.bytes c.init_default.new.self.window.bytes
    c.self.inside.layouts c.tagged-payload.new.self.types c.tagged-payload.ensures.types (ap (λ (p : Place). p.type_id) value_is) content.entry_is.before_is
    valid low below small heap (c.in-Some.ensures.takes heap) content.entry_is.size_is c.need-need.ensures.exact c.tagged-payload.ensures.payload
    (ap (λ (p : Place). p.at) value_is) tagged_by c.init_default.ensures.changes c.init_default.ensures.default)

pub returns-in_default-value-clause-given_node : goal.returns-in_default-value-clause-given_node
returns-in_default-value-clause-given_node g c = subst (λ (s : Stored). IsIndexNode c.args.content.now → IsHeap g.F.Fit.allocator s.window.bytes →
    GivesNode g.F.Fit.allocator s.window.bytes c.tagged-payload.new.self.window.bytes c.tagged-payload.result)
    c.self.view_is (λ node heap.
    let taken = c.allocate.new.w in
    let tagged_by = bytes_of c.tagged-payload.new.self.window (with_bytes taken (set_word taken.bytes (c.in-Some.block + 8) (word_of c.args.content.now.tag))) c.tagged-payload.ensures.window in
    gives_node_at g.F.Fit.allocator c.in-Some.block c.need-need.result c.args.content.now.entry.size c.tagged-payload.result (word_of c.args.content.now.tag)
    c.self.inside.window.bytes taken.bytes c.tagged-payload.new.self.window.bytes heap (c.in-Some.ensures.takes heap)
    node.size_is c.need-need.ensures.exact c.tagged-payload.ensures.payload node.tag_is tagged_by)
