use Rattle.std.proofs.Common.{ap, ◌∙◌, sym, refl}
use Rattle.seg_raw.specs.declared.code.Code.TheVariants as code
use Rattle.seg_spec.specs.Window.{Placement}
use Rattle.seg_manager.proofs.ResultLaws.{some_is, none_is, handed_on}
use Rattle.seg_manager.proofs.UniqueObjects.{names_unique, few_types, made_unique}
use Rattle.seg_manager.specs.Segments.{RefusesUnique, MakesUnique, unique_at}
use Rattle.seg_manager.proofs.segment.Segment.construct_unique.Goals as goal

pub returns-then-is_some-clause-makes : goal.returns-then-is_some-clause-makes
returns-then-is_some-clause-makes g c = λ picture is below.
    let names = names_unique g.F.Fit.allocator c.args.self.now picture c.args.t is (few_types g.F.Fit.allocator c.args.self.now picture c.args.t is below) in
    let read = rw c.window.ensures at c.unique.ensures in
    (some_is (unique_at picture c.args.t) (rw (read, names) at (sym c.is_some.ensures ∙ c.if-is_some.true)), refl)

pub returns-in_err-object-clause-makes : goal.returns-in_err-object-clause-makes
returns-in_err-object-clause-makes g c = λ picture is below.
    let old = c.args.self.now in
    let new = c.new_anonymous.new.self in
    let names = names_unique g.F.Fit.allocator old picture c.args.t is (few_types g.F.Fit.allocator old picture c.args.t is below) in
    let read = rw c.window.ensures at c.unique.ensures in
    let none = none_is (unique_at picture c.args.t) (rw (read, names) at (sym c.is_some.ensures ∙ c.if-is_some.false)) in
    handed_on c.from_residual.result _ code.BadAlloc (MakesUnique g.F.Fit.allocator old new picture c.args.t) (RefusesUnique g.F.Fit.allocator old new picture c.args.t) c.from_residual.ensures.0
    c.from_residual.ensures.1 c.in_err-object.ensures.code (none, c.in_err-object.ensures.makes picture is below)

pub returns-clause-makes : goal.returns-clause-makes
returns-clause-makes g c = λ picture is below.
    let old = c.args.self.now in
    let mid = c.new_anonymous.new.self in
    let read = rw c.window.ensures at c.unique.ensures in
    let none = none_is _ (rw read at (sym c.is_some.ensures ∙ c.if-is_some.false)) in
    let window = c.window_mut.ensures.value ∙ ap (λ s. s.window) c.heap_mut.ensures.value in
    let new = rw window at c.set_unique.ensures in
    made_unique g.F.Fit.allocator old mid (record { window = c.set_unique.new.w; types = c.heap_mut.result.now.types }) picture is c.args.t c.in_ok-object.object below none (c.in_ok-object.ensures.makes picture is below)
    (ap (λ (p : Placement). p.bytes) new) (ap (λ s. s.types) c.heap_mut.ensures.value)
