use Rattle.std.proofs.Common.{◌+◌}
use Rattle.seg_value.proofs.IndexEntryLaws.{name_closed_by}
use Rattle.seg_spec.specs.Bytes.{set_word}
use Rattle.seg_spec.specs.Window.{with_bytes}
use Rattle.seg_cells.specs.Places.{object_at}
use Rattle.seg_value.proofs.Between.{closed_by}
use Rattle.seg_spec.proofs.WindowLaws.{bytes_of}
use Rattle.seg_value.proofs.heap.Heap.close_entry.Goals as goal

pub returns-clause-closes : goal.returns-clause-closes
returns-clause-closes g c = λ T U keys vs blocks names s below nothing.
    let moved = c.shift_entries.new.self.window in
    let new_is = bytes_of c.set_count.new.self.window (with_bytes moved (set_word moved.bytes (c.args.cell + 4) c.saturating_sub-last.result)) c.set_count.ensures.window in
    closed_by g.F.Fit.allocator c.args.self.now.window.bytes c.args.self.now.types (object_at c.args.cell T) U keys vs blocks s names.0 c.args.index c.args.content.now.entry.size c.at-at.result c.at-next.result
    c.saturating_sub-last.result c.saturating_sub.result c.saturating_add.result c.start-start.result moved.bytes c.set_count.new.self.window.bytes below names.1.entry_is.size_is c.start-start.ensures
    (rw c.count.ensures at c.saturating_sub-last.ensures) c.saturating_sub.ensures c.saturating_add.ensures c.at-at.ensures c.at-next.ensures (c.shift_entries.ensures.shifted U 8 names.1.entry_is) new_is nothing

pub returns-clause-closes_name : goal.returns-clause-closes_name
returns-clause-closes_name g c = λ finds below.
    let is = finds.0 in
    let cell_is = finds.1 in
    let old = c.args.self.now.window.bytes in
    let moved = c.shift_entries.new.self.window in
    let new_is = bytes_of c.set_count.new.self.window (with_bytes moved (set_word moved.bytes (c.args.cell + 4) c.saturating_sub-last.result)) c.set_count.ensures.window in
    name_closed_by g.F.Fit.allocator old c.args.self.now.types finds.2 c.args.index c.args.content.now.entry.size c.args.content.now.entry.before c.at-at.result c.at-next.result
    c.saturating_sub-last.result c.saturating_sub.result c.saturating_add.result c.start-start.result moved.bytes c.set_count.new.self.window.bytes (rw cell_is at below) is.size_is is.before_is (rw cell_is at c.start-start.ensures)
    (rw (c.count.ensures, cell_is) at c.saturating_sub-last.ensures) c.saturating_sub.ensures c.saturating_add.ensures c.at-at.ensures c.at-next.ensures (c.shift_entries.ensures.pointers is.held_is) (rw cell_is at new_is)
