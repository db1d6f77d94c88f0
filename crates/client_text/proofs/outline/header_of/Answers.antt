use Rattle.std.proofs.Common.{◌≡◌, refl, ◌+◌, ◌∷◌, take, drop, map, sym, ap, ◌∙◌, arith}
use Rattle.client_text.specs.Outlines.{section_of, entry_total}
use Rattle.client_spec.specs.Pieces.{meant}
use Rattle.client_text.proofs.SpelledLines.{same_count, past, not_past, all_taken, counted_more, not_counted}
use Rattle.client_text.proofs.outline.header_of.Goals as goal

pub loop-line-preserved : goal.loop-line-preserved
loop-line-preserved c =
    let lines = meant c.args.text.now in
    let n = entry_total c.loop-line.header in
    let here : drop n lines ≡ c.in-Some.line.now ∷ meant c.next_meant.new.self.text.now = sym c.loop-line.invariant.rest ∙ c.in-Some.ensures.found in
    let one : entry_total c.add.new.header ≡ n + 1 = c.if-not-add.ensures.one refl in
    record {
      within = (let l = not_past lines _ n _ here in omega arith);
      rest = sym (ap (λ k. drop k lines) one ∙ past lines _ n _ here);
      counted = λ items spells. ap (λ k. map section_of (take k items)) one
          ∙ counted_more lines _ items n c.in-Some.line.now _ c.of.result spells here (c.loop-line.invariant.counted items spells) c.of.ensures ∙ sym (c.if-not-add.ensures.counted refl);
    }

pub returns-then-not-add-clause-all : goal.returns-then-not-add-clause-all
returns-then-not-add-clause-all c items spells outline =
    let lines = meant c.args.text.now in
    let n = entry_total c.loop-line.header in
    let here : drop n lines ≡ c.in-Some.line.now ∷ meant c.next_meant.new.self.text.now = sym c.loop-line.invariant.rest ∙ c.in-Some.ensures.found in
    absurd (not_counted lines _ items n c.in-Some.line.now _ c.of.result spells here (c.loop-line.invariant.counted items spells) c.of.ensures (c.if-not-add.ensures.refused refl) outline)

pub returns-in_default-clause-all : goal.returns-in_default-clause-all
returns-in_default-clause-all c items spells outline =
    let lines = meant c.args.text.now in
    same_count lines items spells ∙ all_taken lines (entry_total c.loop-line.header) c.loop-line.invariant.within (sym c.loop-line.invariant.rest ∙ c.in_default.ensures.none)
