-- The calls on a segment: their premise (`IsSegment`), and the state after them. A segment in a
-- contract has the window's bytes and the type table (`Stored`).
--     IsSegment allocator s picture       the bytes contain the picture, whose types the segment has
--     Becomes allocator old new other gone
--                                         the bytes contain another picture, and each allocated block outside
--                                         `gone` is kept
--     Spends allocator old new asks gives
--                                         the requests were granted, and these blocks were freed
--     new_root table name T n at          an object of n default values
--     MakesLoose, LosesLoose              a loose object was made; a loose object was destroyed
--     MakesUnique, FindsOrMakes, RefusesUnique, LosesUnique
--                                         a unique object was made, found, refused; a unique object was destroyed
--     AddsTypes                           the table was replaced by a longer one
--     unique_at picture T                 the position of the unique object of a type
use Rattle.std.specs.Prelude.{◌≡◌, ℕ, ◌≤◌, List, [], ◌∷◌, ◌++◌, length, ◌⊎◌, Option, Some, None, IsSome, option_map}
use Rattle.seg_spec.specs.Bytes.{word, ChangesOnly}
use Rattle.seg_spec.specs.Header.{allocator_word, next_word, types_start, types_size, KeepsFront}
use Rattle.seg_spec.specs.Types.{Table, size, longer}
use Rattle.seg_spec.specs.Value.{copies, default_of}
use Rattle.seg_spec.specs.Heap.{live}
use Rattle.seg_spec.specs.Block.{KeepsBlock}
use Rattle.seg_spec.specs.Index.{Root, root_of_type, plain_root}
use Rattle.seg_spec.specs.Sound.{Picture, IsHeld, HoldsRoot, times, positions}
use Rattle.seg_spec.specs.Roots.{Listed, with_roots}
use Rattle.seg_spec.specs.Counting.{AreCounted, without_cells}
use Rattle.seg_spec.specs.Demand.{Ask, block_for, after_gives, GetsBlock}
use Rattle.seg_spec.specs.Destroying.{HoldFrozen, KeepFrozen}
use Rattle.seg_spec.specs.Frozen.{blocks_by}
use Rattle.seg_spec.specs.Shared.{names_each, left, freed}
use Rattle.seg_spec.specs.Spending.{spent}
use Rattle.seg_spec.specs.Calls.{Refuses}
use Rattle.seg_raw.specs.declared.code.Code.{Code}
use Rattle.seg_raw.specs.declared.code.Code.TheVariants as code
use Rattle.seg_value.specs.Stored.{Stored}

-- The segment's bytes contain the picture, whose frozen objects count their cells. The segment has
-- the picture's types and this allocator.
pub record IsSegment (allocator : ℕ) (s : Stored) (picture : Picture) : Type 0 where
  pub held : IsHeld s.window.bytes picture
  pub counted : AreCounted (word s.window.bytes next_word) picture
  pub table_is : s.types ≡ picture.table
  pub allocator_is : word s.window.bytes allocator_word ≡ allocator

-- The segment now has another picture. Each allocated block that isn't in `gone` is kept, and so is
-- the number of the next frozen object.
pub record Becomes (allocator : ℕ) (old new : Stored) (other : Picture)
    (gone : List ℕ) : Type 0 where
  pub segment : IsSegment allocator new other
  pub length_kept : length new.window.bytes ≡ length old.window.bytes
  pub front_kept : KeepsFront old.window.bytes new.window.bytes
  pub next_kept : word new.window.bytes next_word ≡ word old.window.bytes next_word
  pub kept : (h : ℕ) → 1 ≤ times h (positions (live old.window.bytes)) → times h gone ≡ 0 →
      KeepsBlock old.window.bytes new.window.bytes h

-- the requests were granted, and these blocks were freed
abbrev pub Spends : ℕ → Stored → Stored → List Ask → List ℕ → Type 0
Spends allocator old new asks gives =
    spent allocator (live old.window.bytes) (length old.window.bytes) asks gives
    ≡ Some (live new.window.bytes)

abbrev pub new_root : Table → List ℕ → ℕ → ℕ → ℕ → Root
new_root table name T n at = plain_root name at T (copies n (default_of table T))

-- the request for an object of one value of a type
abbrev pub one_value : Table → ℕ → List Ask
one_value table T = block_for (size table T) ∷ []

-- ---- loose objects

-- an object of the type at this position was added at some place among the loose ones
pub record MakesLoose (allocator : ℕ) (old new : Stored) (picture : Picture)
    (T at : ℕ) : Type 0 where
  pub spends : Spends allocator old new (one_value old.types T) []
  pub gets_block : GetsBlock allocator old.window.bytes (size old.types T) at
  pub joins : (before after : List Root) → picture.loose ≡ before ++ after →
      Becomes allocator old new
      (with_roots picture Listed.loose (before ++ new_root old.types [] T 1 at ∷ after)) []

-- The root was destroyed with its blocks, and so were the frozen objects that lost their last cell.
-- The new picture is `other`, with the remaining frozen objects.
pub record LosesRoot (allocator : ℕ) (old new : Stored) (root : Root) (other : Picture) :
    Type 0 where
  pub blocks : List ℕ
  pub holds_it : HoldsRoot old.window.bytes old.types root blocks
  pub theirs : ℕ → List ℕ
  pub holds_shared : HoldFrozen old.window.bytes old.types theirs other.frozen
  pub becomes : Becomes allocator old new (without_cells (names_each root.values) other)
      (blocks ++ blocks_by theirs other.frozen)
  pub shared_kept : KeepFrozen old.window.bytes new.window.bytes theirs
      (left (names_each root.values) other.frozen)
  pub holds_left : HoldFrozen new.window.bytes old.types theirs
      (left (names_each root.values) other.frozen)
  pub live_is : live new.window.bytes ≡ after_gives (live old.window.bytes)
      (blocks ++ blocks_by theirs (freed (names_each root.values) other.frozen))

-- the loose object between these was destroyed
abbrev pub LosesLoose : ℕ → Stored → Stored → Picture → List Root → Root → List Root → Type 0
LosesLoose allocator old new picture before root after =
    LosesRoot allocator old new root (with_roots picture Listed.loose (before ++ after))

-- ---- unique objects

-- the position of the unique object of a type, if there is one
abbrev pub unique_at : Picture → ℕ → Option ℕ
unique_at picture T = option_map (λ r. r.at) (root_of_type picture.uniques T)

-- there was no unique object of the type, and the new one is at this position
pub record MakesUnique (allocator : ℕ) (old new : Stored) (picture : Picture)
    (T at : ℕ) : Type 0 where
  pub none : root_of_type picture.uniques T ≡ None
  pub spends : Spends allocator old new (one_value old.types T) []
  pub gets_block : GetsBlock allocator old.window.bytes (size old.types T) at
  pub before : List Root
  pub after : List Root
  pub uniques_are : picture.uniques ≡ before ++ after
  pub becomes : Becomes allocator old new
      (with_roots picture Listed.by_type (before ++ new_root old.types [] T 1 at ∷ after)) []

-- the unique object of the type was found or made
abbrev pub FindsOrMakes : ℕ → Stored → Stored → Picture → ℕ → ℕ → Type 0
FindsOrMakes allocator old new picture T at =
    ((unique_at picture T ≡ Some at) × (new ≡ old)) ⊎ MakesUnique allocator old new picture T at

-- no unique object was made, for the reason in the code, and nothing changed
abbrev pub RefusesUnique : ℕ → Stored → Stored → Picture → ℕ → Code → Type 0
RefusesUnique allocator old new picture T code.AlreadyExists =
    IsSome (unique_at picture T) × (new ≡ old)
RefusesUnique allocator old new picture T code.BadAlloc =
    (unique_at picture T ≡ None) ×
    Refuses allocator old.window.bytes new.window.bytes (one_value old.types T)
RefusesUnique _ _ _ _ _ _ = ⊥

-- the unique object of the type was destroyed
pub record LosesUnique (allocator : ℕ) (old new : Stored) (picture : Picture)
    (T : ℕ) : Type 0 where
  pub before : List Root
  pub root : Root
  pub after : List Root
  pub uniques_are : picture.uniques ≡ before ++ root ∷ after
  pub root_is : root_of_type picture.uniques T ≡ Some root
  pub loses : LosesRoot allocator old new root
      (with_roots picture Listed.by_type (before ++ after))

-- ---- types

-- the table was replaced by the longer one, also in the bytes, and nothing else changed
pub record AddsTypes (allocator : ℕ) (old new : Stored) (picture : Picture)
    (more : Table) : Type 0 where
  pub segment : IsSegment allocator new (record picture { table = longer old.types more })
  pub changes : ChangesOnly old.window.bytes new.window.bytes types_start types_size
  pub live_is : live new.window.bytes ≡ live old.window.bytes
