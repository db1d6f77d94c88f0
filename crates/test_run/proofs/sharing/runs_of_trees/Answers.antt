use Rattle.client_spec.proofs.Unfolded.PictureTreeLaws.{pictures_trees}
use Rattle.test_run.proofs.sharing.runs_of_trees.Goals as goal

pub returns : goal.returns
returns c = record {
  objects = λ client given left runs. (runs.is_first.objects, runs.is_left.objects);
  trees = λ client given left runs. ((pictures_trees runs.is_first.pictured).1, (pictures_trees runs.is_left.trees).1);
}
