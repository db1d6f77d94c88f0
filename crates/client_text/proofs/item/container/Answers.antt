use Rattle.client_text.proofs.ItemWords.{other_word, no_container}
use Rattle.client_text.proofs.item.container.Goals as goal

pub returns-else-eq-6-clause-none : goal.returns-else-eq-6-clause-none
returns-else-eq-6-clause-none c = λ form part differs.
    no_container c.args.word.now
    (other_word c.args.word.now _ _ c.eq.result c.eq.ensures c.as_slice.ensures c.if-eq.false)
    (other_word c.args.word.now _ _ c.eq-else-eq.result c.eq-else-eq.ensures c.as_slice-else-eq.ensures c.if-eq-2.false)
    (other_word c.args.word.now _ _ c.eq-else-eq-2.result c.eq-else-eq-2.ensures c.as_slice-else-eq-2.ensures c.if-eq-3.false)
    (other_word c.args.word.now _ _ c.eq-else-eq-3.result c.eq-else-eq-3.ensures c.as_slice-else-eq-3.ensures c.if-eq-4.false)
    (other_word c.args.word.now _ _ c.eq-else-eq-4.result c.eq-else-eq-4.ensures c.as_slice-else-eq-4.ensures c.if-eq-5.false)
    (other_word c.args.word.now _ _ c.eq-else-eq-5.result c.eq-else-eq-5.ensures c.as_slice-else-eq-5.ensures c.if-eq-6.false)
    differs form part
