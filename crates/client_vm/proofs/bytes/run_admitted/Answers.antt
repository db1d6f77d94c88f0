use Rattle.std.proofs.Common.{sym, ◌∙◌}
use Rattle.client_vm.proofs.RefusalLaws.{other_allocator}
use Rattle.client_vm.proofs.bytes.run_admitted.Goals as goal

pub returns-then-get32-word-clause-runs : goal.returns-then-get32-word-clause-runs
returns-then-get32-word-clause-runs g c is = c.run_on.ensures.runs is (sym c.get32.ensures ∙ c.if-get32-word.true ∙ c.word.ensures.value)

pub returns-else-get32-word-clause-runs : goal.returns-else-get32-word-clause-runs
returns-else-get32-word-clause-runs g c is =
    c.run_on-else-get32-word.ensures.runs is (other_allocator _ is.held.laid_out.header.allocator_is (λ one. c.if-get32-word.false (c.get32.ensures ∙ one ∙ sym c.word.ensures.value)))
