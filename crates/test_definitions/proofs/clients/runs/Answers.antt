use Rattle.client_spec.proofs.Runs.TotalRunLaws.{three_runs, down_runs, idle_runs, increment_runs, echo_runs, kill_runs, other_runs}
use Rattle.test_definitions.proofs.clients.runs.Goals as goal

pub returns : goal.returns
returns c = record { three = three_runs; down = down_runs; idle = idle_runs; increment = increment_runs; echo = echo_runs; destroyed = kill_runs; other_type = other_runs }
