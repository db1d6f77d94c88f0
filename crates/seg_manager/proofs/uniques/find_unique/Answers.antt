use Rattle.std.proofs.Common.{◌≡◌, refl, ℕ, Option, Some, None, MatchResult}
use Rattle.std.specs.Option.{ok_or}
use Rattle.seg_raw.specs.declared.code.Code.TheVariants as code
use Rattle.seg_raw.specs.declared.code.Code.{Code}
use Rattle.seg_manager.proofs.UniqueObjects.{names_unique}
use Rattle.seg_manager.specs.Segments.{unique_at}
use Rattle.seg_manager.proofs.uniques.find_unique.Goals as goal

by_option : (o : Option ℕ) (e : Code) → MatchResult (ok_or o e) (λ at. o ≡ Some at) (λ d. (d ≡ e) × (o ≡ None))
by_option None e = (refl, refl)
by_option (Some x) e = refl

pub returns : goal.returns
returns g c = λ picture is less.
    let names = names_unique (g.S.SegmentRead.allocator c.args.source.now) (g.S.SegmentRead.stored c.args.source.now) picture c.args.t is less in
    let read = rw c.view.ensures at c.unique_in.ensures in
    rw (c.ok_or.ensures.value, read, names) (by_option (unique_at picture c.args.t) code.Absent)
