use Rattle.client_spec.proofs.TypedStates.PlaceShapeLaws.{held_shape}
use Rattle.client_spec.proofs.TypedStates.PictureLaws.{shape_of}
use Rattle.test_definitions.proofs.pictures.shape_of_a_value.Goals as goal

pub returns : goal.returns
returns c = record { fits = λ table T v h. shape_of table h; held = λ bytes table place v blocks h. held_shape bytes table h }
