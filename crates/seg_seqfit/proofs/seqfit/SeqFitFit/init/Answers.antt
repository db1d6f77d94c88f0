use Rattle.std.proofs.Common.{◌/◌, false, Some, None, List, ℕ, sym, ap, ◌∙◌, subst, arith}
use Rattle.seg_spec.specs.Bytes.{set_word}
use Rattle.seg_spec.specs.Pointer.{set_pointer}
use Rattle.seg_spec.specs.Window.{Placement}
use Rattle.seg_spec.specs.Heap.{Begins}
use Rattle.seg_block.specs.Sizes.{set_size}
use Rattle.seg_seqfit.proofs.FirstGapLaws.{begins}
use Rattle.seg_seqfit.proofs.seqfit.SeqFitFit.init.Goals as goal

pub returns-clause-begins : goal.returns-clause-begins
returns-clause-begins g c = λ large whole.
    let old = c.args.w.now.bytes in
    let u = c.saturating_sub-units.result / 16 in
    let bytes = λ (p : Placement). p.bytes in
    let first = ap bytes c.put32.ensures in
    let tagged = ap bytes c.put32-2.ensures ∙ ap (λ b. set_word b 712 0) first in
    let linked = ap bytes c.point.ensures ∙ ap (λ b. set_pointer b 716 None) tagged in
    let headed = ap bytes c.point-2.ensures ∙ ap (λ b. set_pointer b 24 (Some 720)) linked in
    let begun = ap bytes c.set_size.ensures ∙ ap (λ b. set_size b 704 u false) headed in
    subst (λ (b : List ℕ). Begins 0 old b) (sym begun) (begins old u (omega arith) (omega arith) (omega arith))
