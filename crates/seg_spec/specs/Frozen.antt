-- Frozen objects: objects that several values share, in images of version 2.
--     Frozen            a frozen object
--     root_of_frozen    the object as a root, since no value owns it
--     blocks_by theirs     the blocks of several frozen objects, given for each by its position
use Rattle.std.specs.Prelude.{ℕ, ◌+◌, List, [], ◌∷◌, ◌++◌}
use Rattle.seg_spec.specs.Value.{Value, nil, cons}
use Rattle.seg_spec.specs.Index.{Root}

-- the position of the object's payload, its type, its number, the number of cells that point to it,
-- and its value
pub record Frozen : Type 0 where
  pub at : ℕ
  pub type : ℕ
  pub number : ℕ
  pub count : ℕ
  pub value : Value

-- the size of the object's count and number, which precede its value
abbrev pub frozen_words : ℕ
frozen_words = 8

abbrev pub root_of_frozen : Frozen → Root
root_of_frozen f = record {
  name = [];
  words = f.count ∷ f.number ∷ [];
  at = f.at + frozen_words;
  type = f.type;
  values = cons f.value nil;
}

abbrev pub blocks_by : (ℕ → List ℕ) → List Frozen → List ℕ
blocks_by theirs [] = []
blocks_by theirs (f ∷ fs) = theirs f.at ++ blocks_by theirs fs
