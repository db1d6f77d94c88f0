use Rattle.test_run.proofs.outcomes.OutcomeLaws as laws
use Rattle.test_run.proofs.outcomes.no_clients.Goals as goal

pub returns : goal.returns
returns c = record {
  whole = laws.no_client-whole;
  wrote = laws.no_client-wrote;
  another = laws.no_client-another;
  stopped = laws.no_client-stopped;
  a_report = laws.no_client-report;
  no_place = laws.no_client-no_place;
}
