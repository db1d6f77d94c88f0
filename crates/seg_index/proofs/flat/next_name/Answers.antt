use Rattle.std.proofs.Common.{ap, ◌∙◌, option_map, slice_get}
use Rattle.seg_index.specs.Lists.{entry_of}
use Rattle.seg_index.proofs.FlatEntries.{next_index}
use Rattle.seg_index.proofs.RootOrder.{next_missing}
use Rattle.seg_index.proofs.flat.next_name.Goals as goal
use Rattle.seg_index.proofs.flat.next_name.Goals.{in-Ok, in-Err}

pub returns : goal.returns
returns g c = λ names blocks f flat.
    let stored = g.S.SegmentRead.stored c.args.source.now in
    c.entry_of.ensures names blocks f flat ∙ ap (option_map entry_of) (elim c.match-search.branch [
      | in-Ok w ↦ ap (slice_get names) w.index-is
          ∙ next_index (g.S.SegmentRead.allocator c.args.source.now) stored.window.bytes stored.types names blocks f flat c.args.after.now c.search.result w.in-Ok.index w.saturating_add-index.result
          (c.search.ensures names blocks f flat) w.in-Ok.is w.saturating_add-index.ensures
      | in-Err w ↦ ap (slice_get names) w.index-is ∙ next_missing names c.args.after.now c.search.result w.in-Err.index (c.search.ensures names blocks f flat) w.in-Err.is
    ])
