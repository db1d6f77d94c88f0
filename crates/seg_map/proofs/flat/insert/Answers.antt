use Rattle.std.proofs.Common.{w64, sym, ap, ◌∙◌, subst}
use Rattle.std.proofs.lemmas.Int.{to_z-of_z}
use Rattle.seg_spec.specs.Calls.{Refuses}
use Rattle.seg_value.specs.Entries.{flat_asks}
use Rattle.seg_cells.specs.Places.{object_at}
use Rattle.seg_value.specs.Stored.{Stored}
use Rattle.seg_map.specs.Maps.{AddsKey}
use Rattle.seg_map.proofs.FlatMaps.{only_err}
use Rattle.seg_map.proofs.FlatChanges.{index_fits, inserted}
use Rattle.seg_map.proofs.flat.insert.Goals as goal
use Rattle.seg_map.proofs.flat.insert.Goals.{in-Some, in_default}

pub returns-in_err-at-clause-inserts : goal.returns-in_err-at-clause-inserts
returns-in_err-at-clause-inserts g c = λ T U keys vs blocks f s names missing is.
    let old = c.args.heap.now.window.bytes in
    let new = c.open_entry.new.self.window.bytes in
    let table = c.args.heap.now.types in
    only_err c.from_residual.result (AddsKey g.F.Fit.allocator old new table (object_at c.args.cell T) U keys vs c.args.key blocks (flat_asks old table c.args.cell U))
    (Refuses g.F.Fit.allocator old new (flat_asks old table c.args.cell U)) c.from_residual.ensures.0
    (c.in_err-at.ensures.opens T U keys vs blocks names s (index_fits g.F.Fit.allocator old table (object_at c.args.cell T) U keys vs blocks f s c.args.key c.args.index is))

pub returns-clause-inserts : goal.returns-clause-inserts
returns-clause-inserts g c = λ T U keys vs blocks f s names missing is. elim c.match-value.branch [
  | in-Some w ↦
      let old = c.args.heap.now.window.bytes in
      let table = c.args.heap.now.types in
      let opens = c.in_ok-at.ensures.opens T U keys vs blocks names s (index_fits g.F.Fit.allocator old table (object_at c.args.cell T) U keys vs blocks f s c.args.key c.args.index is) in
      let r = inserted g.F.Fit.allocator old c.open_entry.new.self.window.bytes c.store.new.self.window.bytes w.init_default.new.self.window.bytes table c.store.new.self.types
      (c.store.ensures.types ∙ c.open_entry.ensures.types) c.args.cell T U keys vs blocks f s c.args.content.now.entry names.1.entry_is c.args.key _ (to_z-of_z w64 c.args.key c.ranges.key) c.args.index
      c.in_ok-at.at missing is opens c.store.ensures.changes c.store.ensures.stored w.in-Some.value c.value_at.result (sym w.in-Some.is ∙ c.value.ensures.value U names.1.entry_is.held_is)
      w.init_default.ensures.changes w.init_default.ensures.default c.value_at.ensures in
      let bytes_are = ap (λ (h : Stored). h.window.bytes) w.heap-is in
      subst (λ new. AddsKey g.F.Fit.allocator old new table (object_at c.args.cell T) U keys vs c.args.key blocks (flat_asks old table c.args.cell U) c.value_at.result) (sym bytes_are) r
  | in_default w ↦ let e = c.value.ensures.value U names.1.entry_is.held_is in let n = w.in_default.is in absurd (cc)
]
