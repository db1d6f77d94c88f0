use Rattle.std.proofs.Common.{List, ℕ, sym, subst}
use Rattle.std.proofs.lemmas.Result.{IfOk-at_ok}
use Rattle.seg_spec.specs.Images.{IsSound}
use Rattle.lezgauri_c.specs.Segments.{HasGrown}
use Rattle.lezgauri_c.proofs.size.lezgauri_raw_grow.Goals as goal

pub returns-in-Ok-clause-grown : goal.returns-in-Ok-clause-grown
returns-in-Ok-clause-grown c done sound =
    let items = c.grow-grown.result.1.items in
    let grown = IfOk-at_ok (λ _. (s : IsSound c.take.result.items) → HasGrown c.take.result.items items c.args.extra s) c.in-Ok.is c.grow-grown.ensures.grown in
    subst (λ (b : List ℕ). HasGrown c.args.image.now.bytes b c.args.extra sound) (sym c.give_back.ensures.bytes)
    (subst (λ (b : List ℕ). (s : IsSound b) → HasGrown b items c.args.extra s) c.take.ensures.bytes grown sound)
