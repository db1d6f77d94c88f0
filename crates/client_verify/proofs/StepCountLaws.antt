-- Capping the number of steps while counting gives the same as capping it at the end.
use Rattle.std.proofs.Common.{◌≡◌, ℕ, ◌+◌, ◌-◌, ◌*◌, ◌^◌, ◌<◌, ◌≤◌, arith, ap, ◌∙◌}
use Rattle.std.proofs.Math.Nat.{le-mul_of_pos_right}
use Rattle.std.specs.Prelude.{min, max}
use Rattle.client_verify.specs.Passing.{at_most}

-- capping a summand first doesn't change the capped sum
capped_sum : (most x y : ℕ) → min (min x most + y) most ≡ min (x + y) most
capped_sum most x y = omega arith

capped_parts : (most n a b : ℕ) → min (min (n + 1) most + max (min (0 + b) most) (min (0 + a) most)) most ≡ min (n + (1 + max a b)) most
capped_parts most n a b = omega arith

capped_body : (most n b : ℕ) → min (min (n + 1) most + min b most) most ≡ min (n + (1 + b)) most
capped_body most n b = omega arith

capped_turn : (most b : ℕ) → min (min (0 + b) most + 1) most ≡ min (1 + b) most
capped_turn most b = omega arith

few_turns : (most turns x : ℕ) → x ≤ most → min (turns * min x most) most ≡ min (turns * x) most
few_turns most turns x h = ap (λ y. min (turns * y) most) (omega arith)

many_turns : (most turns x : ℕ) → 0 < turns → most < x → min (turns * min x most) most ≡ min (turns * x) most
many_turns most turns x h l =
    let a : most ≤ most * turns = le-mul_of_pos_right most h in
    let b : x ≤ x * turns = le-mul_of_pos_right x h in
    let e : min x most ≡ most = omega arith in
    ap (λ y. min (turns * y) most) e ∙ omega arith

no_turns : (most turns x : ℕ) → turns ≡ 0 → min (turns * min x most) most ≡ min (turns * x) most
no_turns most turns x e = grind arith

capped_turns : (most turns x : ℕ) → min (turns * min x most) most ≡ min (turns * x) most
capped_turns most turns x = grind (arith, few_turns, many_turns, no_turns)

pub no_steps : (n : ℕ) → n ≤ 2 ^ 64 - 1 → n ≡ at_most (n + 0)
no_steps n h = omega arith

pub more_steps : (n x y : ℕ) → at_most (at_most (n + x) + y) ≡ at_most (n + (x + y))
more_steps n x y = capped_sum (2 ^ 64 - 1) (n + x) y ∙ ap at_most (omega arith)

pub steps_of_parts : (n a b : ℕ) → at_most (at_most (n + 1) + max (at_most (0 + b)) (at_most (0 + a))) ≡ at_most (n + (1 + max a b))
steps_of_parts n a b = capped_parts (2 ^ 64 - 1) n a b

pub steps_of_turns : (n turns b : ℕ) → at_most (at_most (n + 1) + at_most (turns * at_most (at_most (0 + b) + 1))) ≡ at_most (n + (1 + turns * (1 + b)))
steps_of_turns n turns b =
    ap (λ x. at_most (at_most (n + 1) + x)) (ap (λ x. at_most (turns * x)) (capped_turn (2 ^ 64 - 1) b) ∙ capped_turns (2 ^ 64 - 1) turns (1 + b))
    ∙ capped_body (2 ^ 64 - 1) n (turns * (1 + b))
