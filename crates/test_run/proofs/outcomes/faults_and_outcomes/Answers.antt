use Rattle.test_run.proofs.outcomes.OutcomeLaws as laws
use Rattle.test_run.proofs.outcomes.faults_and_outcomes.Goals as goal

pub returns : goal.returns
returns c = record {
  reason = λ job refused h. laws.reason job refused h;
  not_both = λ job effect refused o h. laws.not_both job effect refused o h;
}
