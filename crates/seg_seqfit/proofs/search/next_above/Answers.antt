use Rattle.std.proofs.Common.{◌≤◌, ◌<◌, ap, Some, arith, subst}
use Rattle.seg_seqfit.proofs.Walks.{led, led_back, led_to}
use Rattle.seg_seqfit.proofs.search.next_above.Goals as goal

pub returns-then-next-at-clause-none : goal.returns-then-next-at-clause-none
returns-then-next-at-clause-none c = λ none.
    let distance = c.get32-distance.result in
    let back : led c.args.at distance ≤ c.args.at = led_back c.args.view.bytes.now c.args.at distance c.get32-distance.ensures c.requires c.ranges.at.fits none in
    absurd (omega (arith, back, c.if-next-at.true))

pub returns-then-next-at-clause-named : goal.returns-then-next-at-clause-named
returns-then-next-at-clause-named c = λ next named above.
    ap Some (led_to c.args.view.bytes.now c.args.at c.get32-distance.result next c.get32-distance.ensures named)

pub returns-else-next-at-clause-named : goal.returns-else-next-at-clause-named
returns-else-next-at-clause-named c = λ next named above.
    let same = led_to c.args.view.bytes.now c.args.at c.get32-distance.result next c.get32-distance.ensures named in
    absurd (omega (arith, same, above, c.if-next-at.false))
