use Rattle.std.proofs.Common.{◌∙◌, sym}
use Rattle.client_spec.proofs.Spelling.OneClientLaws.{one_client as same_client}
use Rattle.test_definitions.proofs.grammar.one_client.Goals as goal

pub returns : goal.returns
returns c = record {
  trees = same_client;
  bytes = λ bytes x y h k. same_client x y h.valid k.valid (sym h.spelled ∙ k.spelled);
}
