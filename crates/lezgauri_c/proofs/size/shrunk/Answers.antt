use Rattle.std.proofs.Common.{sym, ◌∙◌}
use Rattle.client_vm.proofs.RefusalLaws.{other_allocator}
use Rattle.lezgauri_c.proofs.size.shrunk.Goals as goal

pub returns-then-get32-word-clause-shrunk : goal.returns-then-get32-word-clause-shrunk
returns-then-get32-word-clause-shrunk g c sound is = c.shrunk_on.ensures.shrunk sound is (sym c.get32.ensures ∙ c.if-get32-word.true ∙ c.word.ensures.value)

pub returns-else-get32-word-clause-shrunk : goal.returns-else-get32-word-clause-shrunk
returns-else-get32-word-clause-shrunk g c sound is =
    c.shrunk_on-else-get32-word.ensures.shrunk sound is (other_allocator _ sound.held.laid_out.header.allocator_is (λ one. c.if-get32-word.false (c.get32.ensures ∙ one ∙ sym c.word.ensures.value)))
