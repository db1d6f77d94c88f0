use Rattle.std.proofs.Common.{refl, ap, ◌∙◌, arith}
use Rattle.seg_spec.specs.Bytes.{slice}
use Rattle.seg_spec.specs.Window.{Placement}
use Rattle.seg_ptr.proofs.Lent.{length-lent, lent_view}
use Rattle.seg_ptr.proofs.window.Window.bytes_mut.Goals as goal

pub invariant_of-self-lent : goal.invariant_of-self-lent
invariant_of-self-lent g c = λ w.
    let s = c.self.inside in
    let long = length-lent s.region.bytes w s.base in
    ((c.self.invariant.0.0, omega (arith, c.self.invariant), c.self.invariant.0.2), omega (arith, c.self.invariant))

pub returns : goal.returns
unfolding slice
returns g c =
    let s = c.self.inside in (
      (refl, λ w. lent_view s.region w s.base s.len c.args.self.now c.self.view_is (omega arith)),
      record { writes_back = tt; value = c.slice_mut.ensures.value ∙ ap (λ (p : Placement). p.bytes) c.self.view_is },
    )
