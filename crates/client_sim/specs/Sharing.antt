-- Calls on an image that make a shared cell refer to a frozen object, whatever other frozen objects
-- there are.
--     SharesCell allocator old new table p q
--                                        the cell at p now refers to the object of the cell at q
--     OnCell allocator old table p object claim
--                                        the claim is true of the cell at p, which has the object's
--                                        type, if a number is left for a frozen object
--     FreezesObject allocator old new table p object
--                                        the object becomes frozen, and the cell at p refers to it
--     RefusesToFreeze allocator old new table p object
--                                        no free block is large enough for the object to move to
use Rattle.std.specs.Prelude.{◌≡◌, ℕ, suc, ◌+◌, ◌<◌, ◌≤◌, ◌^◌, List, [], ◌∷◌, ◌++◌, length, Some}
use Rattle.std.specs.List.{AllByRecursion}
use Rattle.seg_spec.specs.Block.{block_of}
use Rattle.seg_spec.specs.Bytes.{word}
use Rattle.seg_spec.specs.Calls.{IsLoose, Refuses}
use Rattle.seg_spec.specs.Clearing.{ClearsPlace}
use Rattle.seg_spec.specs.Demand.{block_for}
use Rattle.seg_spec.specs.Frozen.{Frozen, frozen_words}
use Rattle.seg_spec.specs.Header.{next_word}
use Rattle.seg_spec.specs.Owning.{Stands}
use Rattle.seg_spec.specs.Reads.{Place, Holds}
use Rattle.seg_spec.specs.Shared.{names_in, IsBelow, raised_by, left}
use Rattle.seg_spec.specs.Sharing.{FrozenBeside, FreezesParts}
use Rattle.seg_spec.specs.Types.{Form, Table, form_at, size}
use Rattle.seg_spec.specs.Value.{Value}

-- both cells share objects of one type; the object that p shared before is released
abbrev pub SharesCell : ℕ → List ℕ → List ℕ → Table → Place → Place → Type 0
SharesCell allocator old new table p q =
    (T next : ℕ) (v x : Value) (blocks others : List ℕ) (theirs : ℕ → List ℕ)
    (kept : List Place) (now : List Frozen) →
    form_at table p.type ≡ Some (Form.shared T) →
    form_at table q.type ≡ Some (Form.shared T) →
    (stands : Stands allocator old table p v blocks) →
    Holds old table q x others →
    FrozenBeside old table (stands.home ∷ blocks) (names_in v ++ kept) next theirs now →
    AllByRecursion (IsBelow next now) (names_in x) →
    AllByRecursion (λ f. f.count ≤ length old) now →
    ClearsPlace old new table p x blocks [] theirs now
    (left (names_in v) (raised_by (names_in x) now))

-- a property of the type of the object, the values of the cell and the object, the blocks that they
-- own, and the frozen objects with their blocks
abbrev pub CellClaim : Type 1
CellClaim =
    (T : ℕ) (v x : Value) (blocks inside : List ℕ) (theirs : ℕ → List ℕ) (now : List Frozen) →
    Type 0

abbrev pub OnCell : ℕ → List ℕ → Table → Place → ℕ → CellClaim → Type 0
OnCell allocator old table p object claim =
    (T : ℕ) (v x : Value) (blocks inside : List ℕ) (theirs : ℕ → List ℕ)
    (kept : List Place) (now : List Frozen) →
    form_at table p.type ≡ Some (Form.shared T) →
    (stands : Stands allocator old table p v blocks) →
    IsLoose old table (record { at = object; type = T }) x inside →
    FrozenBeside old table (stands.home ∷ (blocks ++ block_of object ∷ inside))
    (names_in x ++ (names_in v ++ kept)) (word old next_word) theirs now →
    suc (word old next_word) < 2 ^ 32 →
    claim T v x blocks inside theirs now

-- the object that the cell shared before is released
abbrev pub FreezesObject : ℕ → List ℕ → List ℕ → Table → Place → ℕ → Type 0
FreezesObject allocator old new table p object =
    OnCell allocator old table p object (λ T v x blocks inside theirs now.
    FreezesParts allocator old new table p T object x inside blocks (names_in v) theirs now)

-- out of memory: nothing changes
abbrev pub RefusesToFreeze : ℕ → List ℕ → List ℕ → Table → Place → ℕ → Type 0
RefusesToFreeze allocator old new table p object =
    OnCell allocator old table p object (λ T v x blocks inside theirs now.
    Refuses allocator old new (block_for (frozen_words + size table T) ∷ []))
