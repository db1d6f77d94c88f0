-- An object that is moved and frozen keeps each of its parts at its new position: its label, its
-- blocks, and the parts inside it.
--     MovesParts allocator old new table T object v inside payload
--                            an object was moved to a new block, and is frozen there
use Rattle.std.specs.Prelude.{ℕ, ◌+◌, List}
use Rattle.seg_spec.specs.Frozen.{frozen_words}
use Rattle.seg_spec.specs.Parts.{Persists}
use Rattle.seg_spec.specs.Sharing.{MovesFrozen}
use Rattle.seg_spec.specs.Types.{Table}
use Rattle.seg_spec.specs.Value.{Value}
use Rattle.seg_cells.specs.Places.{object_at}

abbrev pub MovesParts : ℕ → List ℕ → List ℕ → Table → ℕ → ℕ → Value → List ℕ → ℕ → Type 0
MovesParts allocator old new table T object v inside payload =
    MovesFrozen allocator old new table T object v inside payload ×
    Persists old new table (object_at object T) (object_at (payload + frozen_words) T)
