use Rattle.std.proofs.Common.{◌≡◌, ℕ, ◌≤◌, ◌⊎◌, Ok, Err, length, take, w64, subst}
use Rattle.std.proofs.lemmas.Int.{to_z-of_z}
use Rattle.seg_cells.specs.Places.{object_at}
use Rattle.seg_map.specs.Maps.{FindsEntry, last_of}
use Rattle.seg_map.proofs.FlatMaps.{previous_read}
use Rattle.seg_map.proofs.flat.previous_entry.Goals as goal
use Rattle.seg_map.proofs.flat.previous_entry.Goals.{in-Ok, in-Ok-2}

pub returns : goal.returns
returns g c = λ T U keys vs blocks f s e.
    let stored = g.S.SegmentRead.stored c.args.source.now in
    let allocator = g.S.SegmentRead.allocator c.args.source.now in
    let at = λ (i : ℕ) (is : (c.search.result ≡ Ok i) ⊎ (c.search.result ≡ Err i)) (index_is : c.match-search.index ≡ i).
    previous_read allocator stored.window.bytes stored.types (object_at c.args.cell T) U keys vs blocks f s c.args.before _ i c.search.result c.entry_before.result
    (to_z-of_z w64 c.args.before c.ranges.before) (c.search.ensures T U keys vs blocks f s e) is
    (subst (λ (n : ℕ). n ≤ length keys → FindsEntry stored.window.bytes stored.types (object_at c.args.cell T) U (last_of (take n keys)) c.entry_before.result) index_is (c.entry_before.ensures T U keys vs blocks f s e)) in
    elim c.match-search.branch [
      | in-Ok w ↦ at w.in-Ok.index w.in-Ok.is w.index-is
      | in-Ok-2 w ↦ at w.in-Ok.index w.in-Ok.is w.index-is
    ]
