use Rattle.std.proofs.Common.{◌≡◌, ℕ, ◌<◌, ◌≤◌, ◌∙◌, ⊎_elim, get_or, Option, None, List, length, replicate, refl, ap, sym, arith}
use Rattle.std.proofs.lemmas.Bool.{cases_lt}
use Rattle.std.proofs.lemmas.List.{get_or-replicate, get_or_past}
use Rattle.std.proofs.lemmas.Option.{slice_get_past}
use Rattle.seg_spec.specs.Types.{Table}
use Rattle.seg_value.specs.Contents.{numbers_by, numbers_in}
use Rattle.seg_value.proofs.contents.number_types.Goals as goal

all_none : (T : ℕ) → get_or (replicate {A = Option ℕ} 256 None) T None ≡ None
all_none T = ⊎_elim (λ l. get_or-replicate 256 T None None l) (λ m. get_or_past (replicate 256 None) T None m) (cases_lt T 256)

-- a type that the table lacks isn't a vector of numbers
lacking : (table : Table) (T : ℕ) → length table ≤ T → numbers_in table T ≡ None
lacking table T l = ap (numbers_by table) (slice_get_past table T l)

described : (table : Table) (each : List (Option ℕ)) (k T : ℕ) → length table ≤ k → ((U : ℕ) → U < k → get_or each U None ≡ numbers_in table U) →
    ((U : ℕ) → k ≤ U → get_or each U None ≡ None) → get_or each T None ≡ numbers_in table T
described table each k T all known rest = ⊎_elim (λ l. known T l) (λ m. rest T m ∙ sym (lacking table T (omega arith))) (cases_lt T k)

pub loop-t-init : goal.loop-t-init
loop-t-init c = record { long = refl; described = λ T l. absurd (omega arith); rest = λ T l. all_none T }

pub returns : goal.returns
returns c = λ T. described c.args.types.now c.loop-t.each c.loop-t.t T (omega (arith, c.loop-t-test.false, c.len-t-end.ensures.len, c.loop-t.auto.t-end))
    c.loop-t.invariant.described c.loop-t.invariant.rest
