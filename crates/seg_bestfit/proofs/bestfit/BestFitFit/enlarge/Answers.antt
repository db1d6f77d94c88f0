use Rattle.std.proofs.Common.{sym, ap, ◌∙◌, arith}
use Rattle.seg_spec.specs.Window.{Placement}
use Rattle.seg_block.proofs.HeapGrowthLaws.{enlarged_live}
use Rattle.seg_bestfit.proofs.HeapGrowthLaws.{enlarged_free}
use Rattle.seg_bestfit.proofs.bestfit.BestFitFit.enlarge.Goals as goal

pub returns-then-is_live-clause-enlarges : goal.returns-then-is_live-clause-enlarges
returns-then-is_live-clause-enlarges g c = λ xs l filled heads holds inside.
    enlarged_live c.args.w.now.bytes c.set_size.new.w.bytes xs c.args.last.at c.args.last.units c.args.units l (omega (arith, inside, c.requires.inside)) c.requires.more filled heads holds inside
    (sym c.is_live.ensures ∙ c.if-is_live.true) (ap (λ (p : Placement). p.bytes) c.set_size.ensures)

pub returns-else-is_live-clause-enlarges : goal.returns-else-is_live-clause-enlarges
returns-else-is_live-clause-enlarges g c = λ xs l filled heads holds inside.
    enlarged_free c.args.w.now.bytes c.take_out.new.w.bytes c.set_size-else-is_live.new.w.bytes c.put_in.new.w.bytes xs c.args.last.at c.args.last.units c.args.units l
    (omega (arith, inside, c.requires.inside)) c.requires.more filled heads holds inside (sym c.is_live.ensures ∙ c.if-is_live.false)
    (c.take_out.ensures.leaves (omega (arith, inside, c.requires.inside))) (ap (λ (p : Placement). p.bytes) c.set_size-else-is_live.ensures) c.put_in.ensures.joins
