use Rattle.std.proofs.Common.{◌∙◌, w64, ap, subst}
use Rattle.std.proofs.lemmas.Int.{to_z-of_z}
use Rattle.seg_cells.specs.Places.{object_at}
use Rattle.seg_map.specs.Maps.{FindsEntry, first_of, keys_above}
use Rattle.seg_map.proofs.flat.next_entry.Goals as goal

pub returns : goal.returns
returns g c = λ T U keys vs blocks f s e.
    let stored = g.S.SegmentRead.stored c.args.source.now in
    let same = ap (λ k. first_of (keys_above keys k)) (to_z-of_z w64 c.args.after c.ranges.after) in
    subst (λ k. FindsEntry stored.window.bytes stored.types (object_at c.args.cell T) U k c.entry_at.result) (c.index_above.ensures T U keys vs blocks f s e ∙ same) (c.entry_at.ensures T U keys vs blocks f s e)
