use Rattle.std.proofs.Common.{rules, List, ℕ, refl, inr, subst}
use Rattle.seg_spec.specs.Images.{IsSound}
use Rattle.seg_check.specs.Faults.{IsImageOf}
use Rattle.seg_check.proofs.opening.open.Goals as goal

pub returns-then-get32-word-clause-fault : goal.returns-then-get32-word-clause-fault
returns-then-get32-word-clause-fault g c =
    let image = subst (λ (bytes : List ℕ). IsImageOf bytes c.in_ok-types.types) c.view.ensures c.in_ok-types.ensures.image in
    let sound : IsSound c.args.window.now.bytes = record { picture = image.picture; held = image.held; counted = image.counted; none_loose = image.none_loose } in
    inr (refl, sound, search (rules, c.get32.ensures, c.word.ensures.value, c.if-get32-word.true))
