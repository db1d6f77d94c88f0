use Rattle.std.proofs.Common.{ap, arith}
use Rattle.seg_spec.specs.Window.{Placement}
use Rattle.seg_seqfit.proofs.HeapGrowthLaws.{enlarged}
use Rattle.seg_seqfit.proofs.seqfit.SeqFitFit.enlarge.Goals as goal

pub returns-clause-enlarges : goal.returns-clause-enlarges
returns-clause-enlarges g c = λ xs l filled heads holds inside.
    let last = c.args.last in
    enlarged c.args.w.now.bytes c.set_size.new.w.bytes xs last.at last.units c.args.units l c.is_live-live.result
    (omega (arith, inside, c.requires.inside)) c.requires.more filled heads holds inside c.is_live-live.ensures
    (ap (λ (p : Placement). p.bytes) c.set_size.ensures)
