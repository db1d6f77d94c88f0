-- In a total order, nodes that equal the same key are equal.
use Rattle.std.proofs.Common.{◌≡◌, ap, ◌∙◌}
use Rattle.std.specs.Cmp.{IsTotalOrder}
use Rattle.std.specs.Ordering.{ordering_reverse}
use Rattle.std.specs.declared.cmp.Ordering.{Ordering}
use Rattle.std.specs.declared.cmp.Ordering.TheVariants.{Equal}

pub equal_to_one : {K : Type 0} {R : K → K → Ordering} (o : IsTotalOrder R) → (x y k : K) → R x k ≡ Equal → R y k ≡ Equal → R x y ≡ Equal
equal_to_one o x y k first second = o.congr x k y first ∙ o.antisymm k y ∙ ap ordering_reverse second
