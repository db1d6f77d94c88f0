use Rattle.std.proofs.Common.{None, false, arith, sym, ap, ◌∙◌}
use Rattle.seg_spec.specs.Pointer.{set_pointer}
use Rattle.seg_spec.specs.Window.{Placement}
use Rattle.seg_block.specs.Sizes.{set_size}
use Rattle.seg_block.proofs.HeapCutLaws.{never_ends, cuts_live, cuts_some}
use Rattle.seg_seqfit.proofs.HeapCutLaws.{cuts_whole, cuts_gap}
use Rattle.seg_seqfit.proofs.seqfit.SeqFitFit.cut_end.Goals as goal

pub returns-in_default-clause-cuts : goal.returns-in_default-clause-cuts
returns-in_default-clause-cuts g c = λ large h.
    absurd (never_ends c.args.w.now.bytes c.len-len.result large h c.len-len.ensures.len c.in_default.ensures.last)

pub returns-then-is_live-clause-cuts : goal.returns-then-is_live-clause-cuts
returns-then-is_live-clause-cuts g c = λ large h.
    cuts_live c.args.w.now.bytes c.len-len.result large h c.len-len.ensures.len c.in-Some.last.at c.in-Some.last.units c.in-Some.ensures.last c.put32.new.self.bytes
    (sym c.is_live.ensures ∙ c.if-is_live.true) (ap (λ (p : Placement). p.bytes) c.put32.ensures)

pub returns-then-last-le-HEAP_START-clause-cuts : goal.returns-then-last-le-HEAP_START-clause-cuts
returns-then-last-le-HEAP_START-clause-cuts g c = λ large h.
    cuts_whole c.args.w.now.bytes c.len-len.result large h c.len-len.ensures.len c.in-Some.last.at c.in-Some.last.units c.in-Some.ensures.last c.set_size.new.w.bytes (sym c.is_live.ensures ∙ c.if-is_live.false) c.if-last-le-HEAP_START.true
    (ap (λ (p : Placement). p.bytes) c.set_size.ensures ∙ ap (λ (p : Placement). set_size p.bytes 704 2 false) c.put32-then-last-le-HEAP_START.ensures)

pub returns-clause-cuts : goal.returns-clause-cuts
returns-clause-cuts g c = λ large h.
    cuts_gap c.args.w.now.bytes c.len-len.result large h c.len-len.ensures.len c.in-Some.last.at c.in-Some.last.units c.in-Some.ensures.last c.point.new.self.bytes c.link_before-link.result
    (sym c.is_live.ensures ∙ c.if-is_live.false) c.if-last-le-HEAP_START.false
    c.link_before-link.ensures (ap (λ (p : Placement). p.bytes) c.point.ensures ∙ ap (λ (p : Placement). set_pointer p.bytes c.link_before-link.result None) c.put32-2.ensures)

pub returns-then-last-le-HEAP_START-clause-unchanged : goal.returns-then-last-le-HEAP_START-clause-unchanged
returns-then-last-le-HEAP_START-clause-unchanged g c = λ above h none.
    absurd (cuts_some c.args.w.now.bytes c.len-len.result (omega arith) h c.len-len.ensures.len c.in-Some.last.at c.in-Some.last.units c.in-Some.ensures.last c.if-last-le-HEAP_START.true above none)
