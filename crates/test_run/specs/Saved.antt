-- What is claimed of each image that clients leave.
--     OfSaved claim      the claim is true of every saved image, which is sound, whatever the image,
--                        the clients, their input, the place and the moves are, and whatever the
--                        output takes
--     all_cells picture  the shared cells of a picture, with those in frozen objects
use Rattle.std.specs.Prelude.{ℕ, List, ◌++◌}
use Rattle.seg_spec.specs.Reads.{Place}
use Rattle.seg_spec.specs.Shared.{names_of}
use Rattle.seg_spec.specs.Sound.{Picture}
use Rattle.seg_spec.specs.Counting.{cells_in, owners_in}
use Rattle.seg_spec.specs.Images.{IsSound}
use Rattle.client_vm.specs.Jobs.{Job, Effect}
use Rattle.client_vm.specs.Outcomes.{HasOutcome}

abbrev pub OfSaved : ((saved : List ℕ) → IsSound saved → Type 0) → Type 0
OfSaved claim = (job : Job) (effect : Effect) (outcome : HasOutcome job effect) →
    claim effect.saved outcome.left.sound

abbrev pub all_cells : Picture → List Place
all_cells picture = cells_in (owners_in picture) ++ names_of picture.frozen
