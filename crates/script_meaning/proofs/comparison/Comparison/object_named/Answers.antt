use Rattle.std.proofs.Common.{◌≡◌, ◌<◌, ℕ, Vec, Global, [], length, arith, sym, ap, ◌∙◌}
use Rattle.std.proofs.lemmas.List.{get_or-map}
use Rattle.std.proofs.lemmas.Slice.Eq.{slice_eq-Decides}
use Rattle.std.proofs.lemmas.Bool.Decides.{Decides-eqb}
use Rattle.script_meaning.proofs.comparison.Comparison.object_named.Goals as goal

pub returns-then-eq : goal.returns-then-eq
returns-then-eq c =
    let within : c.loop-x.x < length c.args.self.now.objects.now = omega arith in
    let same : c.as_slice.result.now ≡ c.args.name.now = (slice_eq-Decides Decides-eqb c.as_slice.result.now c.args.name.now c.eq.result c.eq.ensures).0 c.if-eq.true in
    get_or-map (λ (v : Vec ℕ Global). v.items) c.args.self.now.objects.now c.loop-x.x c.object-item.result [] within
    ∙ ap (λ (v : Vec ℕ Global). v.items) (sym c.object-item.is) ∙ sym c.as_slice.ensures.value ∙ same
