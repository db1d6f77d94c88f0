use Rattle.seg_raw.specs.Homes.{Area}
use Rattle.std.proofs.Common.{ap}
use Rattle.std.proofs.Common.{refl, ap, ◌∙◌, take, drop, length, ◌++◌}
use Rattle.seg_raw.specs.Lending.{lent}
use Rattle.seg_raw.proofs.Numbers.{slice_from}
use Rattle.seg_raw.proofs.region.Region.slice_mut.Goals as goal

pub returns : goal.returns
returns g c =
    let items = c.self.inside.data.items in
    let same = ap (λ (a : Area). a.bytes) c.self.view_is in
    let at = c.args.at in (
      (
        refl,
        λ w.
            let over = take at items ++ (w ++ drop (length w) (drop at items)) in
            let bytes = ap (λ n. take n (over ++ drop (length over) items)) c.self.inside.data.ok.0 ∙ ap (λ bytes. lent bytes at w) same in
            λ i. record { bytes = bytes i; home = ap (λ (a : Area). a.home) c.self.view_is i },
      ),
      record { writes_back = tt; value = c.run_mut.ensures.value ∙ slice_from items c.args.self.now.bytes at c.args.n same },
    )
