use Rattle.std.proofs.Common.{◌≡◌, ap, ◌∙◌, sym, Some, None}
use Rattle.seg_spec.specs.Pointer.{target, set_pointer}
use Rattle.seg_spec.specs.Window.{with_bytes}
use Rattle.seg_cells.specs.Places.{object_at}
use Rattle.seg_value.specs.Stored.{Stored}
use Rattle.seg_value.proofs.BufferCutLaws.{left_alone, unnamed_heap, unnamed_is_live, given_up}
use Rattle.seg_value.proofs.IndexEntryLaws.{index_empty, unnamed_index_heap, unnamed_index_live, index_given_up}
use Rattle.seg_spec.proofs.WindowLaws.{bytes_of}
use Rattle.seg_value.proofs.heap.Heap.free_buffer.Goals as goal

pub returns-in_default-clause-frees : goal.returns-in_default-clause-frees
returns-in_default-clause-frees g c = λ T form v blocks f b s empty.
    let old = c.args.self.now.window in
    let here = bytes_of c.self.inside.window old (ap (λ (x : Stored). x.window) c.self.view_is) in
    let none : target old.bytes c.args.cell ≡ None = sym (ap (λ y. target y c.args.cell) here) ∙ sym c.target.ensures ∙ c.in_default.is in
    left_alone g.F.Fit.allocator old.bytes c.args.self.now.types (object_at c.args.cell T) form v blocks f b s none

pub returns-clause-frees : goal.returns-clause-frees
returns-clause-frees g c = λ T form v blocks f b s empty.
    let old = c.args.self.now.window in
    let here = bytes_of c.self.inside.window old (ap (λ (x : Stored). x.window) c.self.view_is) in
    let some : target old.bytes c.args.cell ≡ Some c.in-Some.start = sym (ap (λ y. target y c.args.cell) here) ∙ sym c.target.ensures ∙ c.in-Some.is in
    let unnamed : c.point.new.self.bytes ≡ set_pointer old.bytes c.args.cell None =
    bytes_of c.point.new.self (with_bytes c.self.inside.window (set_pointer c.self.inside.window.bytes c.args.cell None)) c.point.ensures ∙ ap (λ y. set_pointer y c.args.cell None) here in
    let heap = unnamed_heap g.F.Fit.allocator old.bytes c.args.self.now.types (object_at c.args.cell T) form v blocks f b s c.in-Some.start some empty in
    let is_live = unnamed_is_live g.F.Fit.allocator old.bytes c.args.self.now.types (object_at c.args.cell T) form v blocks f b s c.in-Some.start some empty in
    let gives = rw unnamed at c.free_block.ensures.gives in
    given_up g.F.Fit.allocator old.bytes c.args.self.now.types (object_at c.args.cell T) form v blocks f b s c.in-Some.start some empty c.free_block.new.self.window.bytes (gives heap is_live)

pub returns-in_default-clause-empties : goal.returns-in_default-clause-empties
returns-in_default-clause-empties g c = λ cell_is s none.
    let old = c.args.self.now.window in
    let here = bytes_of c.self.inside.window old (ap (λ (x : Stored). x.window) c.self.view_is) in
    let unnamed : target old.bytes c.args.cell ≡ None = sym (ap (λ y. target y c.args.cell) here) ∙ sym c.target.ensures ∙ c.in_default.is in
    index_empty g.F.Fit.allocator old.bytes c.args.self.now.types s (rw cell_is at unnamed) (rw cell_is at none)

pub returns-clause-empties : goal.returns-clause-empties
returns-clause-empties g c = λ cell_is s none.
    let old = c.args.self.now.window in
    let here = bytes_of c.self.inside.window old (ap (λ (x : Stored). x.window) c.self.view_is) in
    let some : target old.bytes c.args.cell ≡ Some c.in-Some.start = sym (ap (λ y. target y c.args.cell) here) ∙ sym c.target.ensures ∙ c.in-Some.is in
    let unnamed : c.point.new.self.bytes ≡ set_pointer old.bytes c.args.cell None =
    bytes_of c.point.new.self (with_bytes c.self.inside.window (set_pointer c.self.inside.window.bytes c.args.cell None)) c.point.ensures ∙ ap (λ y. set_pointer y c.args.cell None) here in
    let named_is = rw cell_is at some in
    let empty = rw cell_is at none in
    let heap = unnamed_index_heap g.F.Fit.allocator old.bytes c.args.self.now.types s c.in-Some.start named_is empty in
    let is_live = unnamed_index_live g.F.Fit.allocator old.bytes c.args.self.now.types s c.in-Some.start named_is empty in
    let gives = rw (unnamed, cell_is) at c.free_block.ensures.gives in
    index_given_up g.F.Fit.allocator old.bytes c.args.self.now.types s c.in-Some.start named_is empty c.free_block.new.self.window.bytes (gives heap is_live)
