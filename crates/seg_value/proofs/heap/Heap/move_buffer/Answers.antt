use Rattle.std.proofs.Common.{◌≡◌, ◌+◌, ap, ◌∙◌, sym, Some, None}
use Rattle.seg_spec.specs.Bytes.{set_word}
use Rattle.seg_spec.specs.Pointer.{target, set_pointer}
use Rattle.seg_spec.specs.Window.{with_bytes}
use Rattle.seg_block.specs.Tags.{word_of}
use Rattle.seg_value.specs.Stored.{Stored}
use Rattle.seg_value.proofs.Buffers.{first_buffer, next_buffer}
use Rattle.seg_value.proofs.IndexBufferLaws.{first_index, next_index}
use Rattle.seg_spec.proofs.WindowLaws.{bytes_of}
use Rattle.seg_value.proofs.heap.Heap.move_buffer.Goals as goal

pub returns-in_default-clause-moves : goal.returns-in_default-clause-moves
returns-in_default-clause-moves g c = λ T u before v blocks names s t two fits.
    let taken = c.args.self.now.window in
    let marked = c.tagged-new.new.self.window in
    let marked_by = bytes_of marked (with_bytes taken (set_word taken.bytes (c.args.block + 8) (word_of c.args.content.now.tag))) c.tagged-new.ensures.window in
    let here = bytes_of c.self.inside.window marked (ap (λ (x : Stored). x.window) c.self.view_is) in
    let none : target marked.bytes c.args.cell ≡ None = sym (ap (λ b. target b c.args.cell) here) ∙ sym c.target.ensures ∙ c.in_default.is in
    let pointed = bytes_of c.point.new.self (with_bytes c.self.inside.window (set_pointer c.self.inside.window.bytes c.args.cell (Some c.tagged-new.result))) c.point.ensures
    ∙ ap (λ b. set_pointer b c.args.cell (Some c.tagged-new.result)) here in
    first_buffer g.F.Fit.allocator before taken.bytes marked.bytes c.args.self.now.types c.args.cell T v blocks c.args.content.now names s u c.args.block c.tagged-new.result t two fits
    marked_by c.tagged-new.ensures.payload c.point.new.self.bytes none pointed

pub returns-clause-moves : goal.returns-clause-moves
returns-clause-moves g c = λ T u before v blocks names s t two fits.
    let taken = c.args.self.now.window in
    let marked = c.tagged-new.new.self.window in
    let marked_by = bytes_of marked (with_bytes taken (set_word taken.bytes (c.args.block + 8) (word_of c.args.content.now.tag))) c.tagged-new.ensures.window in
    let here = bytes_of c.self.inside.window marked (ap (λ (x : Stored). x.window) c.self.view_is) in
    let some : target marked.bytes c.args.cell ≡ Some c.in-Some.old = sym (ap (λ b. target b c.args.cell) here) ∙ sym c.target.ensures ∙ c.in-Some.is in
    let moved = c.shift_entries.new.self.window in
    let there = bytes_of c.self-2.inside.window moved (ap (λ (x : Stored). x.window) c.self-2.view_is) in
    let pointed = bytes_of c.point-2.new.self (with_bytes c.self-2.inside.window (set_pointer c.self-2.inside.window.bytes c.args.cell (Some c.tagged-new.result))) c.point-2.ensures
    ∙ ap (λ b. set_pointer b c.args.cell (Some c.tagged-new.result)) there in
    next_buffer g.F.Fit.allocator before taken.bytes marked.bytes c.args.self.now.types c.args.cell T v blocks c.args.content.now names s u c.args.block c.tagged-new.result t two fits
    marked_by c.tagged-new.ensures.payload c.in-Some.old c.count-kept.result moved.bytes c.point-2.new.self.bytes c.free_block.new.self.window.bytes some c.count-kept.ensures
    c.shift_entries.ensures.text (rw c.tagged-new.ensures.types at c.shift_entries.ensures.shifted) pointed c.free_block.ensures.gives

pub returns-in_default-clause-moves_index : goal.returns-in_default-clause-moves_index
returns-in_default-clause-moves_index g c = λ u before finds t two fits.
    let taken = c.args.self.now.window in
    let marked = c.tagged-new.new.self.window in
    let marked_by = bytes_of marked (with_bytes taken (set_word taken.bytes (c.args.block + 8) (word_of c.args.content.now.tag))) c.tagged-new.ensures.window in
    let here = bytes_of c.self.inside.window marked (ap (λ (x : Stored). x.window) c.self.view_is) in
    let none : target marked.bytes c.args.cell ≡ None = sym (ap (λ b. target b c.args.cell) here) ∙ sym c.target.ensures ∙ c.in_default.is in
    let pointed = bytes_of c.point.new.self (with_bytes c.self.inside.window (set_pointer c.self.inside.window.bytes c.args.cell (Some c.tagged-new.result))) c.point.ensures
    ∙ ap (λ b. set_pointer b c.args.cell (Some c.tagged-new.result)) here in
    first_index g.F.Fit.allocator before taken.bytes marked.bytes c.args.self.now.types finds.2 u c.args.block c.tagged-new.result t two (rw (finds.1, finds.0.size_is) at fits)
    (rw finds.0.tag_is at marked_by) c.tagged-new.ensures.payload c.point.new.self.bytes (rw finds.1 at none) (rw finds.1 at pointed)

pub returns-clause-moves_index : goal.returns-clause-moves_index
returns-clause-moves_index g c = λ u before finds t two fits.
    let taken = c.args.self.now.window in
    let marked = c.tagged-new.new.self.window in
    let marked_by = bytes_of marked (with_bytes taken (set_word taken.bytes (c.args.block + 8) (word_of c.args.content.now.tag))) c.tagged-new.ensures.window in
    let here = bytes_of c.self.inside.window marked (ap (λ (x : Stored). x.window) c.self.view_is) in
    let some : target marked.bytes c.args.cell ≡ Some c.in-Some.old = sym (ap (λ b. target b c.args.cell) here) ∙ sym c.target.ensures ∙ c.in-Some.is in
    let moved = c.shift_entries.new.self.window in
    let there = bytes_of c.self-2.inside.window moved (ap (λ (x : Stored). x.window) c.self-2.view_is) in
    let pointed = bytes_of c.point-2.new.self (with_bytes c.self-2.inside.window (set_pointer c.self-2.inside.window.bytes c.args.cell (Some c.tagged-new.result))) c.point-2.ensures
    ∙ ap (λ b. set_pointer b c.args.cell (Some c.tagged-new.result)) there in
    next_index g.F.Fit.allocator before taken.bytes marked.bytes c.args.self.now.types finds.2 u c.args.block c.tagged-new.result t two (rw (finds.1, finds.0.size_is) at fits)
    (rw finds.0.tag_is at marked_by) c.tagged-new.ensures.payload c.in-Some.old c.count-kept.result c.args.content.now.entry.size c.args.content.now.entry.before moved.bytes c.point-2.new.self.bytes
    c.free_block.new.self.window.bytes (rw finds.1 at some) (rw finds.1 at c.count-kept.ensures) finds.0.size_is finds.0.before_is (c.shift_entries.ensures.pointers finds.0.held_is) (rw finds.1 at pointed) c.free_block.ensures.gives
