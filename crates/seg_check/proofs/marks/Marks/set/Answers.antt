use Rattle.std.proofs.Common.{◌≡◌, ⊎_elim, length, set, sym, ap, ◌∙◌, arith}
use Rattle.std.proofs.lemmas.Bool.{cases_eq}
use Rattle.seg_check.specs.Bits.{has, mark_in, live_bit, allocated_bit, other_bit}
use Rattle.seg_check.proofs.Blocks.BitLaws.{length_marks, marks_set, spelled_same, spelled_bits, told_bits}
use Rattle.seg_check.proofs.marks.Marks.set.Goals as goal

pub returns : goal.returns
returns g c = λ inside.
    let f = c.self.inside in
    let u = c.args.unit in
    let m = c.args.new in
    let mark = mark_in f.live.words f.allocated.words f.other.words in
    let long : f.units ≡ length c.args.self.now = sym (length_marks mark 0 f.units) ∙ ap length c.self.view_is in
    let live = c.put.new.self.words in
    let allocated = c.put-2.new.self.words in
    let other = c.put-3.new.self.words in
    marks_set mark (mark_in live allocated other) f.units u m
    (spelled_same (has live u) (has allocated u) (has other u) (live_bit m) (allocated_bit m) (other_bit m)
    (c.put.ensures.own (omega (arith, inside, long, c.self.invariant.0)) ∙ c.is_live.ensures)
    (c.put-2.ensures.own (omega (arith, inside, long, c.self.invariant.1)) ∙ c.is_allocated.ensures)
    (c.put-3.ensures.own (omega (arith, inside, long, c.self.invariant.2)) ∙ c.is_other.ensures)
    ∙ spelled_bits m)
    (λ v apart. spelled_same (has live v) (has allocated v) (has other v) (has f.live.words v) (has f.allocated.words v) (has f.other.words v) (c.put.ensures.others v apart) (c.put-2.ensures.others v apart) (c.put-3.ensures.others v apart))
    ∙ ap (λ ms. set ms u m) c.self.view_is

pub invariant_of-self : goal.invariant_of-self
invariant_of-self g c =
    let f = c.self.inside in
    let m = c.args.new in (
      omega (arith, c.self.invariant.0, c.put.ensures.room),
      omega (arith, c.self.invariant.1, c.put-2.ensures.room),
      omega (arith, c.self.invariant.2, c.put-3.ensures.room),
      λ u low is. ⊎_elim
          (λ same.
          let live = c.put.ensures.own (omega (arith, low, same, c.self.invariant.0)) ∙ c.is_live.ensures in
          let told = told_bits m (sym live ∙ ap (has c.put.new.self.words) (sym same) ∙ is) in (
            ap (has c.put-2.new.self.words) same ∙ c.put-2.ensures.own (omega (arith, low, same, c.self.invariant.1)) ∙ c.is_allocated.ensures ∙ told.0,
            ap (has c.put-3.new.self.words) same ∙ c.put-3.ensures.own (omega (arith, low, same, c.self.invariant.2)) ∙ c.is_other.ensures ∙ told.1,
          ))
          (λ apart.
          let told = c.self.invariant.3 u low (sym (c.put.ensures.others u apart) ∙ is) in
          (c.put-2.ensures.others u apart ∙ told.0, c.put-3.ensures.others u apart ∙ told.1))
          (cases_eq u c.args.unit),
    )
