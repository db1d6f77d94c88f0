use Rattle.std.proofs.Common.{rules, to_z, ◌∙◌, w64, ap, sym, subst, Some}
use Rattle.std.specs.Prelude.{slice_get}
use Rattle.std.proofs.lemmas.Int.{to_z-of_z}
use Rattle.seg_cells.specs.Places.{object_at}
use Rattle.seg_map.specs.Maps.{FindsEntry, first_of, keys_above}
use Rattle.seg_map.proofs.FlatMaps.{next_there}
use Rattle.seg_map.proofs.flat.next_entry_by.Goals as goal
use Rattle.seg_map.proofs.flat.next_entry_by.Goals.{in-Some, in_default}

pub returns : goal.returns
returns g c = λ T U keys vs blocks f s e.
    let stored = g.S.SegmentRead.stored c.args.source.now in
    let allocator = g.S.SegmentRead.allocator c.args.source.now in
    let same = ap (λ k. first_of (keys_above keys k)) (to_z-of_z w64 c.args.after c.ranges.after) in
    let read = c.entry_at-2.ensures T U keys vs blocks f s e in
    elim c.match-entry_at.branch [
      | in-Some w ↦
          let last = subst (λ o. FindsEntry stored.window.bytes stored.types (object_at c.args.cell T) U (slice_get keys c.args.index.now) o) w.in-Some.is (c.entry_at.ensures T U keys vs blocks f s e) in
          let key = sym (to_z-of_z w64 w.in-Some.last.key (search rules)) ∙ ap (to_z w64) w.if-last-after.true ∙ to_z-of_z w64 c.args.after c.ranges.after in
          let there = sym last.key_is ∙ ap Some key in
          subst (λ k. FindsEntry stored.window.bytes stored.types (object_at c.args.cell T) U k c.entry_at-2.result)
          (ap (slice_get keys) w.index-is ∙ next_there allocator stored.window.bytes stored.types (object_at c.args.cell T) U keys vs blocks f s c.args.after c.args.index.now w.saturating_add.result there w.saturating_add.ensures) read
      | in_default w ↦
          subst (λ k. FindsEntry stored.window.bytes stored.types (object_at c.args.cell T) U k c.entry_at-2.result)
          (ap (slice_get keys) w.index-is ∙ w.index_above.ensures T U keys vs blocks f s e ∙ same) read
    ]
