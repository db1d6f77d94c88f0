use Rattle.std.proofs.Common.{◌≡◌, ℕ, ◌≤◌, ◌∷◌, Bool, true, false, not, map, take, drop, sym, ap, ◌∙◌, arith, Some, None}
use Rattle.std.specs.Prelude.{Option, IfSome, IfNone}
use Rattle.std.specs.Option.{is_some}
use Rattle.std.proofs.lemmas.Bool.{true≢false, false≢true}
use Rattle.client_text.specs.Outlines.{section_of, entry_total}
use Rattle.client_spec.specs.Pieces.{meant}
use Rattle.client_text.proofs.SpelledLines.{past}
use Rattle.client_text.proofs.ValidItems.{line_says, none_after}
use Rattle.client_text.proofs.WrittenFiles.{further, ends}
use Rattle.client_text.proofs.writer.write.Goals as goal

pub returns-in-None-clause-cut : goal.returns-in-None-clause-cut
returns-in-None-clause-cut g c _ tree spells =
    let within = c.header_of-header.ensures.within in
    let entries = c.entries-end.ensures in
    let test = c.loop-test.true in
    line_says c.args.text.now tree spells c.loop.counter (omega arith) (λ line rest item here. c.in-None.ensures.none line rest item (c.loop.invariant.rest ∙ here))

pub loop-preserved : goal.loop-preserved
loop-preserved g c =
    let (line, found, spells) = c.in-Some.ensures.found in
    let lines = meant c.args.text.now in
    let here : drop c.loop.counter lines ≡ line ∷ meant c.next_item.new.lines.text.now = sym c.loop.invariant.rest ∙ found in
    record {
      rest = sym (past lines _ c.loop.counter line here);
      written = further lines _ _ _ c.loop.counter line _ _ c.loop.invariant.written here spells c.in-Some.ensures.readable c.in_ok-append-in-Some.ensures;
    }

reached : (counter end entries : ℕ) → counter ≤ end → end ≤ counter → end ≡ entries → counter ≡ entries
reached counter end entries below test e = omega arith

when_none : {A : Type 0} (o : Option A) (b : Bool) (P : Type 0) → is_some o ≡ not b → b ≡ true → IfNone o P → P
when_none None b P e t p = p
when_none (Some x) b P e t p = absurd (true≢false (e ∙ ap not t))

when_some : {A : Type 0} (o : Option A) (b : Bool) (P : A → Type 0) → is_some o ≡ not b → b ≡ false → IfSome o P → (x : A) × P x
when_some None b P e f p = absurd (false≢true (e ∙ ap not f))
when_some (Some x) b P e f p = (x, p)

pub returns-clause-whole : goal.returns-clause-whole
returns-clause-whole g c whole =
    let header = c.header_of-header.result in
    let limits = header.limits in
    let counted = c.header_of-header.ensures in
    let within = counted.within in
    let all : c.loop.counter ≡ entry_total header = reached c.loop.counter c.entries-end.result (entry_total header) c.loop.auto.counter-end c.loop-test.false c.entries-end.ensures in
    ends c.args.text.now c.args.file.now.items _ _ _ header.types header.constants header.instructions c.loop.counter c.loop.invariant.written
    (sym c.loop.invariant.rest ∙ when_none c.next_meant.result c.is_none.result _ c.is_none.ensures whole c.next_meant.ensures.none)
    (omega arith) c.in_ok-append_header.ensures limits.0 limits.1 limits.2 c.version_in.ensures (λ items spells. ap (λ n. map section_of (take n items)) all ∙ counted.counted items spells)

pub returns-clause-cut : goal.returns-clause-cut
returns-clause-cut g c cut tree spells =
    let counted = c.header_of-header.ensures in
    let all : c.loop.counter ≡ entry_total c.header_of-header.result = reached c.loop.counter c.entries-end.result (entry_total c.header_of-header.result) c.loop.auto.counter-end c.loop-test.false c.entries-end.ensures in
    let (line, found) = when_some c.next_meant.result c.is_none.result _ c.is_none.ensures cut c.next_meant.ensures.found in
    none_after c.args.text.now tree spells c.loop.counter line.now _ (sym c.loop.invariant.rest ∙ found) (λ items each outline. counted.all items each outline ∙ sym all)
