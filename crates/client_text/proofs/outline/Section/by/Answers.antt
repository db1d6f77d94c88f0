use Rattle.std.proofs.Common.{sym, ◌∙◌, inl, inr}
use Rattle.client_text.proofs.FirstWords.{same_word, of_constant}
use Rattle.client_text.proofs.outline.Section.by.Goals as goal
use Rattle.client_text.proofs.outline.Section.by.Goals.{then-eq-2, else-eq-2, then-eq-3, else-eq-3}

pub returns-then-eq-4 : goal.returns-then-eq-4
returns-then-eq-4 c line rest item =
    of_constant line c.args.word.now rest item (
    elim c.if-eq-3.branch [
      | then-eq-3 w ↦ elim c.if-eq-2.branch [
        | then-eq-2 v ↦ inl (same_word _ _ _ c.eq-else-eq.result c.eq-else-eq.ensures c.as_slice-else-eq.ensures v.if-eq-2.true)
        | else-eq-2 v ↦ inr (inl (same_word _ _ _ v.eq-else-eq-2.result v.eq-else-eq-2.ensures v.as_slice-else-eq-2.ensures (sym v.value-is ∙ w.if-eq-3.true)))
      ]
      | else-eq-3 w ↦ inr (inr (same_word _ _ _ w.eq-else-eq-3.result w.eq-else-eq-3.ensures w.as_slice-else-eq-3.ensures (sym w.value-is ∙ c.if-eq-4.true)))
    ]
    )
