use Rattle.std.proofs.Common.{◌≡◌, ℕ, ◌<◌, ◌≤◌, ◌∙◌, ⊎_elim, get_or, length, List, replicate, refl, ap, sym, subst, arith}
use Rattle.std.proofs.lemmas.Bool.{cases_eq, cases_lt}
use Rattle.std.proofs.lemmas.List.{length-set, get_or-set_same, get_or-set_other, get_or-replicate, get_or_past}
use Rattle.std.specs.Prelude.{slice_set}
use Rattle.std.proofs.lemmas.Option.{slice_get_past}
use Rattle.seg_spec.specs.Types.{Table, form_at}
use Rattle.seg_cells.specs.Cells.{cells_of}
use Rattle.seg_cells.specs.declared.cells.Cells.{Cells}
use Rattle.seg_cells.specs.declared.cells.Cells.TheVariants as cells
use Rattle.seg_cells.proofs.cells.Cells.of_each.Goals as goal

-- a type that the table lacks has no cells
lacking : (table : Table) (T : ℕ) → length table ≤ T → cells_of (form_at table T) ≡ cells.Number
lacking table T l = ap cells_of (slice_get_past table T l)

all_numbers : (x : Cells) (T : ℕ) → x ≡ cells.Number → get_or (replicate {A = Cells} 256 x) T cells.Number ≡ cells.Number
all_numbers x T e = subst (λ (y : Cells). get_or (replicate {A = Cells} 256 y) T cells.Number ≡ cells.Number) (sym e)
    (⊎_elim (λ l. get_or-replicate 256 T cells.Number cells.Number l) (λ m. get_or_past (replicate 256 cells.Number) T cells.Number m) (cases_lt T 256))

described : (table : Table) (each : List Cells) (k T : ℕ) → length table ≤ k → ((U : ℕ) → U < k → get_or each U cells.Number ≡ cells_of (form_at table U)) →
    ((U : ℕ) → k ≤ U → get_or each U cells.Number ≡ cells.Number) → get_or each T cells.Number ≡ cells_of (form_at table T)
described table each k T all known rest = ⊎_elim (λ l. known T l) (λ m. rest T m ∙ sym (lacking table T (omega arith))) (cases_lt T k)

pub loop-t-init : goal.loop-t-init
loop-t-init c =
    let few = c.of-each.ensures.table.few in
    record {
      long = refl;
      described = λ T l. absurd (omega arith);
      rest = λ T l. all_numbers c.of-each.result T (c.of-each.ensures.cells ∙ lacking c.args.types.now 255 (omega arith));
    }

pub loop-t-preserved : goal.loop-t-preserved
loop-t-preserved c =
    let long = c.loop-t.invariant.long in
    let below = c.loop-t-test.true in
    let end = c.loop-t.auto.t-end in
    let same : get_or (slice_set c.loop-t.each c.loop-t.t c.of.result) c.loop-t.t cells.Number ≡ cells_of (form_at c.args.types.now c.loop-t.t) =
    get_or-set_same c.loop-t.each c.loop-t.t c.of.result cells.Number (omega arith) ∙ c.of.ensures.cells in
    record {
      long = length-set c.loop-t.each c.loop-t.t c.of.result ∙ long;
      described = λ T l. ⊎_elim (λ e. subst (λ U. get_or (slice_set c.loop-t.each c.loop-t.t c.of.result) U cells.Number ≡ cells_of (form_at c.args.types.now U)) (sym e) same)
          (λ other. get_or-set_other c.loop-t.each c.loop-t.t T c.of.result cells.Number other ∙ c.loop-t.invariant.described T (omega arith)) (cases_eq T c.loop-t.t);
      rest = λ T l. get_or-set_other c.loop-t.each c.loop-t.t T c.of.result cells.Number (λ e. omega arith) ∙ c.loop-t.invariant.rest T (omega arith);
    }

pub returns-clause-cells : goal.returns-clause-cells
returns-clause-cells c = λ T.
    let few = c.of-each.ensures.table.few in
    described c.args.types.now c.loop-t.each c.loop-t.t T (omega (arith, c.loop-t-test.false, c.loop-t.auto.t-end)) c.loop-t.invariant.described c.loop-t.invariant.rest
