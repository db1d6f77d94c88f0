use Rattle.std.proofs.Common.{rules}
use Rattle.seg_index.proofs.FlatEntries.{searched}
use Rattle.std.proofs.Math.Logic.{⊎_map}
use Rattle.std.proofs.lemmas.Result.{IfOk-weaker, IfErr-weaker}
use Rattle.seg_index.proofs.flat.search.Goals as goal

pub returns : goal.returns
returns g c = λ names blocks f flat.
    let stored = g.S.SegmentRead.stored c.args.source.now in
    searched (g.S.SegmentRead.allocator c.args.source.now) stored.window.bytes stored.types names blocks f flat c.args.name.now c.start-entries.result c.count.result
    c.binary_search.result c.start-entries.ensures c.count.ensures
    (IfOk-weaker c.binary_search.result _ _ (λ i h. (h.0, search rules)) c.binary_search.ensures.found)
    (IfErr-weaker c.binary_search.result _ _ (λ i h. (h.0, (⊎_map (λ e. e) (λ p. search rules) h.1.0, ⊎_map (λ e. e) (λ p. search rules) h.1.1))) c.binary_search.ensures.missing)
