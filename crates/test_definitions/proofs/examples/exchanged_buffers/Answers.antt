use Rattle.test_definitions.proofs.WorkedImages.MovedBuffers.{first-holds, second-holds, parts-exchanged}
use Rattle.test_definitions.proofs.examples.exchanged_buffers.Goals as goal

pub returns : goal.returns
returns c = record { first = first-holds; second = second-holds; refused = parts-exchanged }
