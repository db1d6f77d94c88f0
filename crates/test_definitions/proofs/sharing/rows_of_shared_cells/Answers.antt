use Rattle.std.proofs.Common.{refl}
use Rattle.test_definitions.proofs.WorkedImages.SharedCells.{image, state, pictured, asks, asks_nothing, freezes, freezes_less, freezes_again, freezes_more, shares, shares_nothing, shares_again, shares_more}
use Rattle.test_definitions.proofs.sharing.rows_of_shared_cells.Goals as goal

pub returns : goal.returns
returns c = (image, state, pictured, refl, refl, asks, asks_nothing, freezes, freezes_less, freezes_again, freezes_more, shares, shares_nothing, shares_again, shares_more)
