use Rattle.std.proofs.Common.{sym, ◌∙◌}
use Rattle.client_vm.proofs.RefusalLaws.{other_allocator}
use Rattle.lezgauri_c.proofs.size.grown.Goals as goal

pub returns-then-get32-word-clause-grown : goal.returns-then-get32-word-clause-grown
returns-then-get32-word-clause-grown g c sound is = c.grown_on.ensures.grown sound is (sym c.get32.ensures ∙ c.if-get32-word.true ∙ c.word.ensures.value)

pub returns-else-get32-word-clause-grown : goal.returns-else-get32-word-clause-grown
returns-else-get32-word-clause-grown g c sound is =
    c.grown_on-else-get32-word.ensures.grown sound is (other_allocator _ sound.held.laid_out.header.allocator_is (λ one. c.if-get32-word.false (c.get32.ensures ∙ one ∙ sym c.word.ensures.value)))
