use Rattle.std.proofs.Common.{rules, ◌≡◌, ◌∙◌, sym}
use Rattle.seg_spec.specs.Types.{form_at}
use Rattle.seg_cells.specs.declared.cells.Cells.TheVariants as cells
use Rattle.seg_cells.specs.Places.{place_of}
use Rattle.seg_cells.proofs.CellCases.{no_pointers}
use Rattle.seg_value.proofs.ClearLaws.{cleared, number_cleared}
use Rattle.seg_value.proofs.heap.Heap.clear.Goals as goal

pub returns-clause-cleared : goal.returns-clause-cleared
returns-clause-cleared g c = λ v blocks s theirs kept now final b.
    cleared g.F.Fit.allocator c.args.self.now.window.bytes c.add_value.new.heap.window.bytes c.init_default-2.new.self.window.bytes c.destroy.new.heap.window.bytes c.args.self.now.types c.add_value.new.heap.types
    c.init_default-2.new.self.types c.add_value.ensures.types (c.init_default-2.ensures.types ∙ c.add_value.ensures.types) (place_of c.args.place) v blocks s theirs kept now final b
    c.new-pending.result.first c.add_value.new.self.first c.new-pending.ensures
    c.add_value.ensures.added c.init_default-2.ensures.changes c.init_default-2.ensures.default c.destroy.ensures.destroyed

pub returns-then-eq-clause-cleared : goal.returns-then-eq-clause-cleared
returns-then-eq-clause-cleared g c = λ v blocks s theirs kept now final b.
    let old = c.args.self.now in
    let number : c.cells.result ≡ cells.Number = search (rules, c.eq.ensures, c.if-eq.true) in
    let none = no_pointers (form_at old.types c.args.place.type_id) (sym c.cells.ensures.cells ∙ number) in
    number_cleared g.F.Fit.allocator old.window.bytes c.init_default.new.self.window.bytes old.types (place_of c.args.place) v blocks s theirs kept now final b none c.init_default.ensures.changes c.init_default.ensures.default
