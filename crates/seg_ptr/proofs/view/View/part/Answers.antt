use Rattle.std.proofs.Common.{ℕ, List, Bor, ◌≡◌, ◌-◌, ap, ◌∙◌, arith, take, drop}
use Rattle.seg_spec.specs.Bytes.{slice}
use Rattle.seg_ptr.proofs.view.View.part.Goals.{in-Some, in-None}
use Rattle.seg_ptr.proofs.view.View.part.Goals as goal

pub returns-clause-inside : goal.returns-clause-inside
unfolding slice
returns-clause-inside c = λ fits. elim c.match-get.branch [
  | in-Some w ↦
      let p = w.in-Some.ensures.lookup in
      let size : c.saturating_add.result - c.args.at ≡ c.args.n = omega (arith, c.saturating_add.ensures, p.0) in
      ap (λ (v : Bor (List ℕ) × Unit {0}). v.0.now) w.result-is ∙ p.0.2 ∙ ap (λ n. take n (drop c.args.at c.args.self.bytes.now)) size
  | in-None w ↦ absurd (omega (arith, fits, c.saturating_add.ensures, w.in-None.ensures.lookup))
]
