use Rattle.std.proofs.Common.{◌≡◌, ◌<◌, ⊎_elim, length, get_or, set, refl, sym, ap, ◌∙◌, arith, true, false}
use Rattle.std.proofs.lemmas.Bool.{cases_eq}
use Rattle.seg_check.specs.declared.marks.Mark.TheVariants.{Inside, Live, Claimed}
use Rattle.seg_check.specs.Bits.{has, mark_in}
use Rattle.seg_check.proofs.Blocks.BitLaws.{length_marks, mark_there, marks_set, spelled_same, live_told}
use Rattle.seg_check.proofs.marks.Marks.claim.Goals as goal

false_true : {X : Type 0} → false ≡ true → X
false_true e = cc

pub returns : goal.returns
returns g c = λ inside was.
    let f = c.self.inside in
    let u = c.args.unit in
    let live = f.live.words in
    let allocated = f.allocated.words in
    let other = f.other.words in
    let mark = mark_in live allocated other in
    let long : f.units ≡ length c.args.self.now = sym (length_marks mark 0 f.units) ∙ ap length c.self.view_is in
    let low : u < f.units = omega (arith, inside, long) in
    let stands : mark u ≡ Live = sym (mark_there mark f.units u low) ∙ ap (λ ms. get_or ms u Inside) c.self.view_is ∙ was in
    let told = c.self.invariant.3 u low (live_told (has live u) (has allocated u) (has other u) stands) in
    let new = c.clear.new.self.words in
    marks_set mark (mark_in new allocated other) f.units u Claimed
    (spelled_same (has new u) (has allocated u) (has other u) false true false c.clear.ensures.own told.0 told.1)
    (λ v apart. spelled_same (has new v) (has allocated v) (has other v) (has live v) (has allocated v) (has other v) (c.clear.ensures.others v apart) refl refl)
    ∙ ap (λ ms. set ms u Claimed) c.self.view_is

pub invariant_of-self : goal.invariant_of-self
invariant_of-self g c =
    let f = c.self.inside in (
      omega (arith, c.self.invariant.0, c.clear.ensures.room),
      c.self.invariant.1,
      c.self.invariant.2,
      λ u low is. ⊎_elim
          (λ same. false_true (sym c.clear.ensures.own ∙ ap (has c.clear.new.self.words) (sym same) ∙ is))
          (λ apart. c.self.invariant.3 u low (sym (c.clear.ensures.others u apart) ∙ is))
          (cases_eq u c.args.unit),
    )
