use Rattle.std.proofs.Common.{◌∙◌, rules, sym}
use Rattle.std.proofs.lemmas.Bool.{eqb-true}
use denote.Enum.Bare.{same_true}
use Rattle.client_spec.specs.contracts.table.Operation.{the_type}
use Rattle.client_spec.specs.declared.table.Operation.TheVariants as operation
use Rattle.script_meaning.proofs.statements.is_change.Goals as goal
use Rattle.script_meaning.proofs.statements.is_change.Goals.{then-load-place, else-load-place, then-eq-2, else-eq-2, then-compute-load, else-compute-load}
use Rattle.script_meaning.proofs.statements.is_change.Goals.{then-compute-load-2, else-compute-load-2, then-eq-3, else-eq-3}

pub returns-then-store-place : goal.returns-then-store-place
returns-then-store-place c = λ is.
    elim c.if-eq-3.branch [
      | else-eq-3 w ↦ absurd (let e = w.value-is in cc)
      | then-eq-3 w7 ↦
          elim c.if-compute-load-2.branch [
            | else-compute-load-2 w ↦ absurd (let e = w.value-is in let f = w7.if-eq-3.true in cc)
            | then-compute-load-2 w6 ↦
                elim c.if-compute-load.branch [
                  | else-compute-load w ↦ absurd (let e = w.value-is in let f = w6.if-compute-load-2.true in cc)
                  | then-compute-load w5 ↦
                      elim c.if-eq-2.branch [
                        | else-eq-2 w ↦ absurd (let e = w.value-is in let f = w5.if-compute-load.true in cc)
                        | then-eq-2 w4 ↦
                            elim c.if-load-place.branch [
                              | else-load-place w ↦ absurd (let e = w.value-is in let f = w4.if-eq-2.true in cc)
                              | then-load-place w3 ↦
                                  record {
                                    loads = same_true the_type (search rules) c.args.load.operation operation.Load (sym c.eq.ensures ∙ w3.if-load-place.true.0);
                                    load_place = w3.if-load-place.true.1;
                                    computes = same_true the_type (search rules) c.args.compute.operation c.args.operation (sym w3.eq-then-load-place.ensures ∙ sym w3.value-is ∙ w4.if-eq-2.true);
                                    result = eqb-true c.args.compute.a c.args.load.a (sym w4.value-is ∙ w5.if-compute-load.true);
                                    left = eqb-true c.args.compute.b c.args.load.a (sym w5.value-is ∙ w6.if-compute-load-2.true);
                                    stores = same_true the_type (search rules) c.args.store.operation operation.Store (sym w6.eq-then-compute-load-2.ensures ∙ sym w6.value-is ∙ w7.if-eq-3.true);
                                    store_place = eqb-true c.args.store.b c.args.place (sym w7.value-is ∙ c.if-store-place.true);
                                    store_number = eqb-true c.args.store.c c.args.load.a is;
                                  }
                            ]
                      ]
                ]
          ]
    ]
