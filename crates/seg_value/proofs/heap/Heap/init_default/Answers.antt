use Rattle.std.proofs.Common.{◌≡◌, ◌<◌, [], length, sym, subst}
use Rattle.seg_spec.specs.Bytes.{ChangesOnly}
use Rattle.seg_spec.specs.Cells.{IsWithin, ChangesCells, IsDefaulted}
use Rattle.seg_spec.specs.Reads.{Holds}
use Rattle.seg_spec.specs.Types.{IsTable, form_at, size}
use Rattle.seg_spec.specs.Value.{default_of}
use Rattle.seg_spec.proofs.Values.DefaultLaws.{Holds-default}
use Rattle.seg_cells.specs.Cells.{cells_of}
use Rattle.seg_cells.specs.Places.{place_of}
use Rattle.seg_value.specs.Stored.{Stored}
use Rattle.seg_value.proofs.heap.Heap.init_default.Goals as goal

pub returns-clause-cells : goal.returns-clause-cells
returns-clause-cells g c =
    let T = c.args.place.type_id in
    let valid = subst (λ (s : Stored). IsTable s.types) (sym c.self.view_is) c.cells-cells.ensures.table in
    let made = subst (λ (s : Stored). c.cells-cells.result ≡ cells_of (form_at s.types T)) (sym c.self.view_is) c.cells-cells.ensures.cells in
    subst (λ (s : Stored). IsWithin s.window.bytes c.args.place.at (size s.types T) → ChangesCells IsDefaulted s.window.bytes c.set_default.new.w.bytes s.types c.args.place.at T)
    c.self.view_is (λ within. (rw c.types.ensures at c.set_default.ensures.cells) valid made within)

pub returns-clause-changes : goal.returns-clause-changes
returns-clause-changes g c =
    let T = c.args.place.type_id in
    let valid = subst (λ (s : Stored). IsTable s.types) (sym c.self.view_is) c.cells-cells.ensures.table in
    let made = subst (λ (s : Stored). c.cells-cells.result ≡ cells_of (form_at s.types T)) (sym c.self.view_is) c.cells-cells.ensures.cells in
    subst (λ (s : Stored). IsWithin s.window.bytes c.args.place.at (size s.types T) → ChangesOnly s.window.bytes c.set_default.new.w.bytes c.args.place.at (size s.types T))
    c.self.view_is (λ within. ((rw c.types.ensures at c.set_default.ensures.cells) valid made within).changes)

pub returns-clause-default : goal.returns-clause-default
returns-clause-default g c =
    let T = c.args.place.type_id in
    let valid = subst (λ (s : Stored). IsTable s.types) (sym c.self.view_is) c.cells-cells.ensures.table in
    let made = subst (λ (s : Stored). c.cells-cells.result ≡ cells_of (form_at s.types T)) (sym c.self.view_is) c.cells-cells.ensures.cells in
    subst (λ (s : Stored). IsWithin s.window.bytes c.args.place.at (size s.types T) → T < length s.types →
    Holds c.set_default.new.w.bytes s.types (place_of c.args.place) (default_of s.types T) [])
    c.self.view_is (λ within below. Holds-default c.set_default.new.w.bytes c.self.inside.layouts valid (place_of c.args.place) below ((rw c.types.ensures at c.set_default.ensures.cells) valid made within).cells)
