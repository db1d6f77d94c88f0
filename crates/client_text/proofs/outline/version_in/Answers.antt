use Rattle.std.proofs.Common.{◌≡◌, ◌∷◌, drop, sym, ap, ◌∙◌, arith}
use Rattle.client_spec.specs.Pieces.{meant}
use Rattle.client_text.specs.Outlines.{items_version}
use Rattle.client_text.proofs.SpelledLines.{past, version_more, version_whole}
use Rattle.client_text.proofs.outline.version_in.Goals as goal

pub returns-in_default : goal.returns-in_default
returns-in_default c items spells =
    let few = c.loop-test.true in
    c.loop.invariant.counted items spells ∙ ap items_version (version_whole (meant c.args.text.now) items c.loop.counter c.args.types spells (sym c.loop.invariant.rest ∙ c.in_default.ensures.none) (omega arith))

pub loop-preserved : goal.loop-preserved
loop-preserved c =
    let lines = meant c.args.text.now in
    let here : drop c.loop.counter lines ≡ c.in-Some.line.now ∷ meant c.next_meant.new.self.text.now = sym c.loop.invariant.rest ∙ c.in-Some.ensures.found in
    record {
      rest = sym (past lines _ c.loop.counter c.in-Some.line.now here);
      counted = λ items spells. c.max-version.ensures ∙ version_more lines _ items c.loop.counter c.in-Some.line.now _ _ spells here (c.loop.invariant.counted items spells) c.line_version.ensures;
    }
