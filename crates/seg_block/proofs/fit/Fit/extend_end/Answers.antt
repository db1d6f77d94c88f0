use Rattle.std.proofs.Common.{◌-◌, ◌*◌, ◌/◌, length, true, ap, ◌∙◌, arith}
use Rattle.seg_spec.proofs.BytesLaws.{length-set_number}
use Rattle.seg_spec.specs.Window.{Placement}
use Rattle.seg_block.specs.Sizes.{set_size}
use Rattle.seg_block.proofs.Extents.{extended_zero, end_never, end_units, extended_one, extended_more}
use Rattle.seg_block.proofs.fit.Fit.extend_end.Goals as goal

pub returns-then-units-eq0-clause-extends : goal.returns-then-units-eq0-clause-extends
returns-then-units-eq0-clause-extends g c = λ room h.
    extended_zero c.args.w.now.bytes c.put32.new.self.bytes c.args.units c.len-len.result (omega arith) room h c.len-len.ensures.len (ap (λ (p : Placement). p.bytes) c.put32.ensures) c.if-units-eq0.true

pub returns-in_default-clause-extends : goal.returns-in_default-clause-extends
returns-in_default-clause-extends g c = λ room h.
    absurd (end_never c.args.w.now.bytes c.put32.new.self.bytes c.args.units c.len-len.result (omega arith) room h c.len-len.ensures.len (ap (λ (p : Placement). p.bytes) c.put32.ensures) c.in_default.ensures.last)

pub returns-then-units-eq1-clause-extends : goal.returns-then-units-eq1-clause-extends
returns-then-units-eq1-clause-extends g c = λ room h.
    let one = c.if-units-eq1.true in
    let sized = ap (λ (p : Placement). p.bytes) c.put32.ensures in
    let old = c.args.w.now.bytes in
    let last = c.in-Some.last in
    let u = end_units old c.put32.new.self.bytes c.args.units c.len-len.result (omega arith) room h c.len-len.ensures.len sized last.at last.units c.in-Some.ensures.last one in
    extended_one old c.put32.new.self.bytes c.args.units c.len-len.result (omega arith) room h c.len-len.ensures.len sized last.at last.units c.in-Some.ensures.last one c.enlarge.new.w.bytes
    (λ xs l filled heads holds. c.enlarge.ensures.enlarges xs l filled heads holds (omega (arith, u.0, u.1)))

pub returns-else-units-eq1-clause-extends : goal.returns-else-units-eq1-clause-extends
returns-else-units-eq1-clause-extends g c = λ room h.
    let end = c.len-len.result - 16 * c.args.units in
    extended_more c.args.w.now.bytes c.put32.new.self.bytes c.args.units c.len-len.result (omega arith) room h c.len-len.ensures.len (ap (λ (p : Placement). p.bytes) c.put32.ensures)
    c.in-Some.last.at c.in-Some.last.units c.in-Some.ensures.last (omega arith) c.set_size.new.w.bytes c.free.new.w.bytes
    (ap (λ (p : Placement). p.bytes) c.set_size.ensures ∙ ap (λ (p : Placement). set_size p.bytes end c.args.units true) c.put32-else-units-eq1.ensures) c.free.ensures.gives

pub overflow_sub-len : goal.overflow_sub-len
overflow_sub-len g c =
    omega (arith, c.in-Some.ensures.bounds, ap (λ (p : Placement). length p.bytes) c.put32.ensures, length-set_number 4 c.args.w.now.bytes 12 (c.len-len.result / 16))

pub enlarge-requires-clause-more : goal.enlarge-requires-clause-more
enlarge-requires-clause-more g c =
    omega (arith, c.in-Some.ensures.bounds, ap (λ (p : Placement). length p.bytes) c.put32.ensures, length-set_number 4 c.args.w.now.bytes 12 (c.len-len.result / 16))
