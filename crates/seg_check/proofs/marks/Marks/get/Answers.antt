use Rattle.std.proofs.Common.{◌≡◌, length, get_or, refl, sym, ap, ◌∙◌, arith, true, false}
use Rattle.seg_check.specs.declared.marks.Mark.TheVariants.{Inside}
use Rattle.seg_check.specs.Bits.{has, mark_in}
use Rattle.seg_check.proofs.Blocks.BitLaws.{length_marks, mark_there, spelled_same}
use Rattle.seg_check.proofs.marks.Marks.get.Goals as goal

pub returns-then-has : goal.returns-then-has
returns-then-has g c = λ inside.
    let f = c.self.inside in
    let u = c.args.unit in
    let mark = mark_in f.live.words f.allocated.words f.other.words in
    let long : f.units ≡ length c.args.self.now = sym (length_marks mark 0 f.units) ∙ ap length c.self.view_is in
    let is : has f.live.words u ≡ true = sym c.has.ensures ∙ c.if-has.true in
    spelled_same true (has f.allocated.words u) (has f.other.words u) (has f.live.words u) (has f.allocated.words u) (has f.other.words u) (sym is) refl refl
    ∙ sym (mark_there mark f.units u (omega (arith, inside, long))) ∙ ap (λ ms. get_or ms u Inside) c.self.view_is

pub returns-else-has : goal.returns-else-has
returns-else-has g c = λ inside.
    let f = c.self.inside in
    let u = c.args.unit in
    let mark = mark_in f.live.words f.allocated.words f.other.words in
    let long : f.units ≡ length c.args.self.now = sym (length_marks mark 0 f.units) ∙ ap length c.self.view_is in
    let is : has f.live.words u ≡ false = sym c.has.ensures ∙ c.if-has.false in
    c.not_live.ensures
    ∙ spelled_same false c.has-else-has.result c.has-else-has-2.result (has f.live.words u) (has f.allocated.words u) (has f.other.words u) (sym is) c.has-else-has.ensures c.has-else-has-2.ensures
    ∙ sym (mark_there mark f.units u (omega (arith, inside, long))) ∙ ap (λ ms. get_or ms u Inside) c.self.view_is
