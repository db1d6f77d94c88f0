use Rattle.std.proofs.Common.{◌≡◌, ℕ, ◌<◌, ◌≤◌, ⊎_elim, get_or, Option, None, List, length, replicate, refl, arith}
use Rattle.std.proofs.lemmas.Bool.{cases_lt}
use Rattle.std.proofs.lemmas.List.{get_or-replicate, get_or_past}
use Rattle.std.proofs.lemmas.Option.{slice_get_past}
use Rattle.seg_spec.specs.Types.{Form, Table, form_at}
use Rattle.seg_cells.specs.Contents.{ContentOf}
use Rattle.seg_cells.specs.declared.content.Content.{Content}
use Rattle.seg_value.proofs.contents.Contents.of.Goals as goal

all_none : (T : ℕ) → get_or (replicate {A = Option Content} 32 None) T None ≡ None
all_none T = ⊎_elim (λ l. get_or-replicate 32 T None None l) (λ m. get_or_past (replicate 32 None) T None m) (cases_lt T 32)

-- a type that the table lacks has no content
lacking : (table : Table) (T : ℕ) (form : Option Form) (content : Option Content) → form ≡ None → content ≡ None → ContentOf table T form content
lacking table T form content e f = rw (e, f) tt

described : (table : Table) (contents : List (Option Content)) (k T : ℕ) → length table ≤ k →
    ((U : ℕ) → U < k → ContentOf table U (form_at table U) (get_or contents U None)) → ((U : ℕ) → k ≤ U → get_or contents U None ≡ None) →
    ContentOf table T (form_at table T) (get_or contents T None)
described table contents k T all known rest = ⊎_elim (λ l. known T l)
    (λ m. lacking table T (form_at table T) (get_or contents T None) (slice_get_past table T (omega arith)) (rest T m)) (cases_lt T k)

pub loop-t-init : goal.loop-t-init
loop-t-init c = record { long = refl; described = λ T l. absurd (omega arith); rest = λ T l. all_none T }

pub returns-clause-contents : goal.returns-clause-contents
returns-clause-contents c = λ T. described c.args.types.now c.loop-t.of_types c.loop-t.t T (omega (arith, c.loop-t-test.false, c.len-t-end.ensures.len, c.loop-t.auto.t-end))
    c.loop-t.invariant.described c.loop-t.invariant.rest
