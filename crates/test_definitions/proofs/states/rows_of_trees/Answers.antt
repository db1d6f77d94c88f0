use Rattle.client_spec.proofs.Unfolded.UnfoldedEffectLaws.{same_row, trees_stay}
use Rattle.test_definitions.proofs.states.rows_of_trees.Goals as goal

pub returns : goal.returns
returns c = record {
  same = λ m constants i room plain s plain' answer h e. same_row m constants i.operation i.a i.b i.c i.number room plain s plain' answer h e;
  stay = λ constants i room s s' answer h e. trees_stay constants i.operation i.a i.b i.c i.number room s s' answer h e;
}
