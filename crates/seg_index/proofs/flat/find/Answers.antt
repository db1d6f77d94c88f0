use Rattle.std.proofs.Common.{sym, ◌∙◌}
use Rattle.seg_index.proofs.RootOrder.{entry_found, entry_absent}
use Rattle.seg_index.proofs.flat.find.Goals as goal

pub returns-in_err-index : goal.returns-in_err-index
returns-in_err-index g c = λ names blocks f flat.
    rw c.from_residual.ensures (entry_absent names c.args.name.now c.search.result (c.search.ensures names blocks f flat) (sym c.ok.ensures.value ∙ c.in_err-index.was))

pub returns : goal.returns
returns g c = λ names blocks f flat.
    entry_found names c.args.name.now c.search.result c.in_ok-index.index c.entry_at.result (c.search.ensures names blocks f flat) (sym c.ok.ensures.value ∙ c.in_ok-index.was) (c.entry_at.ensures names blocks f flat)
