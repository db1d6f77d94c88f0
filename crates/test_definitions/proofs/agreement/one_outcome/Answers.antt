use Rattle.test_definitions.proofs.Runs.OneOutcomeLaws.{outcomes_alike, same_length, none_failed}
use Rattle.test_definitions.proofs.agreement.one_outcome.Goals as goal

pub returns : goal.returns
returns c = record {
  up_to_a_failure = outcomes_alike;
  of_one_length = λ image texts input room base moves lefts others o q e. same_length lefts others e (outcomes_alike image texts input room base moves lefts others o q);
  without_failures = λ image texts input room base moves lefts others o q ne ne_too. none_failed lefts others ne ne_too (outcomes_alike image texts input room base moves lefts others o q);
}
