use Rattle.seg_spec.proofs.Values.PathFrameLaws.{Leads-kept}
use Rattle.test_definitions.proofs.values.same_paths.Goals as goal

pub returns : goal.returns
returns c = λ old new table place inner path v blocks valid same kept h l. Leads-kept old new table valid l h same kept
