use Rattle.std.proofs.Common.{◌≡◌, ◌≤◌, Err, Some, None, inl, inr, refl, subst, arith, rules, w64}
use Rattle.std.proofs.lemmas.Int.{to_z-of_z}
use Rattle.std.specs.Prelude.{MatchResult}
use Rattle.seg_spec.specs.Items.{key_place, keys_below}
use Rattle.seg_cells.specs.Places.{object_at}
use Rattle.seg_map.proofs.FlatMaps.{searched}
use Rattle.seg_map.proofs.flat.search_to_put.Goals as goal

pub returns : goal.returns
returns g c = λ T U keys vs blocks f s e.
    let stored = g.S.SegmentRead.stored c.args.source.now in
    let allocator = g.S.SegmentRead.allocator c.args.source.now in
    searched allocator stored.window.bytes stored.types (object_at c.args.cell T) U keys vs blocks f s c.args.key c.start.result c.args.entry.size c.count-count.result
    (Err c.count-count.result) c.start.ensures e.size_is c.count-count.ensures tt ((let n : c.count-count.result ≤ c.count-count.result = omega arith in n), (inr (search rules), inl refl))

pub returns-2 : goal.returns-2
returns-2 g c = λ T U keys vs blocks f s e.
    subst (λ k. MatchResult c.search.result (λ i. key_place keys k ≡ Some i) (λ i. (key_place keys k ≡ None) × (i ≡ keys_below keys k)))
    (to_z-of_z w64 c.args.key c.ranges.key) (c.search.ensures T U keys vs blocks f s e)
