use Rattle.client_spec.proofs.Spelling.OneTextLaws.{one_text as same_client}
use Rattle.test_definitions.proofs.grammar.one_text.Goals as goal

pub returns : goal.returns
returns c = same_client
