use Rattle.client_spec.proofs.Spelling.CanonicalTextLaws.{canonical}
use Rattle.test_definitions.proofs.grammar.canonical_text.Goals as goal

pub returns : goal.returns
returns c = canonical
