use Rattle.client_spec.proofs.Unfolded.UnfoldedShapeLaws.{shape_unfolded}
use Rattle.test_definitions.proofs.states.shapes_of_trees.Goals as goal

pub returns : goal.returns
returns c = shape_unfolded
