use Rattle.std.proofs.Common.{sym, ap, ◌∙◌, arith, below_more}
use Rattle.std.proofs.lemmas.List.{get_or_default}
use Rattle.std.proofs.lemmas.Bool.{false≢true}
use Rattle.std.proofs.lemmas.Bool.Decides.{Decides-eqb}
use Rattle.std.proofs.lemmas.Slice.Eq.{slice_eq-Decides}
use Rattle.client_spec.proofs.Spelling.OperationTableLaws.{operation_word, no_word, as_many}
use Rattle.client_spec.proofs.table.Operation.from_word.Goals as goal

pub returns-then-eq-clause-found : goal.returns-then-eq-clause-found
returns-then-eq-clause-found c =
    let rows = c.rows-text-items.result.now in
    let same = c.rows-text-items.ensures in
    let all = as_many (λ entry. (entry.0.now, entry.1)) rows same in
    operation_word (λ entry. (entry.0.now, entry.1)) rows same c.loop-text.text-index _ (let t = c.loop-text-test.true in omega arith)
    ∙ sym c.as_bytes.ensures.value ∙ (slice_eq-Decides Decides-eqb _ _ _ c.eq.ensures).0 c.if-eq.true

pub loop-text-preserved : goal.loop-text-preserved
loop-text-preserved c =
    let rows = c.rows-text-items.result.now in
    let all = as_many (λ entry. (entry.0.now, entry.1)) rows c.rows-text-items.ensures in
    λ d. below_more _ _ (c.loop-text.invariant d) (λ same.
    let one = get_or_default rows c.loop-text.text-index _ d (let t = c.loop-text-test.true in omega arith) in
    let yes = (slice_eq-Decides Decides-eqb _ _ _ c.eq.ensures).1 (c.as_bytes.ensures.value ∙ ap (λ entry. entry.0.now) one ∙ same) in
    false≢true (sym c.if-eq.false ∙ yes))

pub returns-clause-none : goal.returns-clause-none
returns-clause-none c operation e =
    no_word (λ entry. (entry.0.now, entry.1)) c.rows-text-items.result.now c.rows-text-items.ensures c.args.word.now
    (λ d k h. c.loop-text.invariant d k (let t = c.loop-text-test.false in omega arith)) operation e
