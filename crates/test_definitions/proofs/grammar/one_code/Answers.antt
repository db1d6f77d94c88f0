use Rattle.std.proofs.Common.{◌∙◌, sym, append-nil}
use Rattle.client_spec.proofs.Spelling.OneTreeLaws.{one_code as same_code}
use Rattle.test_definitions.proofs.grammar.one_code.Goals as goal

pub returns : goal.returns
returns c = λ types constants a b f g e. (same_code types constants a b f g _ _ tt tt (append-nil _ ∙ e ∙ sym (append-nil _))).0
