use Rattle.std.proofs.Common.{◌≡◌, inl, inr, ℕ, ◌∙◌, sym, refl, None}
use Rattle.std.specs.Option.{IsSome}
use Rattle.std.proofs.lemmas.Bool.{false≢true}
use Rattle.seg_raw.specs.declared.code.Code.{Code}
use Rattle.seg_raw.specs.declared.code.Code.TheVariants as code
use Rattle.seg_spec.specs.Sound.{Picture}
use Rattle.seg_value.specs.Stored.{Stored}
use Rattle.seg_manager.specs.Segments.{unique_at, MakesUnique, RefusesUnique}
use Rattle.seg_manager.proofs.ResultLaws.{by_result}
use Rattle.seg_manager.proofs.UniqueObjects.{names_unique, few_types}
use Rattle.seg_manager.proofs.segment.Segment.find_or_construct_unique.Goals as goal

pub returns-in-Some-clause-makes : goal.returns-in-Some-clause-makes
returns-in-Some-clause-makes g c = λ picture is below.
    let names = names_unique g.F.Fit.allocator c.args.self.now picture c.args.t is (few_types g.F.Fit.allocator c.args.self.now picture c.args.t is below) in
    let read = rw c.window.ensures at c.unique.ensures in
    inl (sym names ∙ sym read ∙ c.in-Some.is, refl)

-- the reason isn't `AlreadyExists` if the type has no unique object
no_room : (allocator : ℕ) (old new : Stored) (picture : Picture) (T : ℕ) (e : Code) → unique_at picture T ≡ None → RefusesUnique allocator old new picture T e → (e ≡ code.BadAlloc) × RefusesUnique allocator old new picture T e
no_room allocator old new picture T code.AlreadyExists none r = absurd (let some : IsSome {T = ℕ} None = rw none at r.0 in false≢true some)
no_room allocator old new picture T code.BadAlloc none r = (refl, r)
no_room allocator old new picture T other none r = absurd r

pub returns-in-None-clause-makes : goal.returns-in-None-clause-makes
returns-in-None-clause-makes g c = λ picture is below.
    let old = c.args.self.now in
    let new = c.construct_unique.new.self in
    let names = names_unique g.F.Fit.allocator old picture c.args.t is (few_types g.F.Fit.allocator old picture c.args.t is below) in
    let read = rw c.window.ensures at c.unique.ensures in
    let none = sym names ∙ sym read ∙ c.in-None.is in
    by_result (MakesUnique g.F.Fit.allocator old new picture c.args.t) _ (RefusesUnique g.F.Fit.allocator old new picture c.args.t) _ c.construct_unique.result (λ at m. inr m)
    (λ e r. no_room g.F.Fit.allocator old new picture c.args.t e none r) (c.construct_unique.ensures.makes picture is below)
