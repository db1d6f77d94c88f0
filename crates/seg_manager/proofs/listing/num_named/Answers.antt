use Rattle.std.proofs.Common.{◌∙◌}
use Rattle.seg_manager.proofs.ObjectCountLaws.{names_counted}
use Rattle.seg_manager.proofs.listing.num_named.Goals as goal

pub returns : goal.returns
returns g c = λ picture is.
    let read = rw c.view.ensures at c.name_count_in.ensures in
    read ∙ names_counted (g.S.SegmentRead.stored c.args.source.now).window.bytes picture is.held
