-- The positions of named and unique objects before and after a run.
--     code_passes test code         each instruction of the code passes the test
--     keeps_name constants name i   the instruction isn't a KILL of the name or of its family
--     keeps_unique T i              the instruction isn't a UKILL of this type
--     Stays find old new            what is found in one image is found in the other, where it was
--     NameStays old new name, UniqueStays old new T
--                                   the object with the name, and the unique object of the type
use Rattle.std.specs.Prelude.{◌≡◌, ◌&&◌, ◌==◌, ℕ, ◌∷◌, ◌++◌, [], List, Bool, true, false, not, Option, Some, slice_get, nat_abs}
use Rattle.std.specs.Option.{option_map_or}
use Rattle.seg_spec.specs.Index.{Root, same_name, root_named, root_of_type}
use Rattle.seg_spec.specs.Sound.{Picture, IsHeld}
use Rattle.seg_spec.specs.Roots.{HasFace}
use Rattle.client_spec.specs.declared.table.Operation.{Operation}
use Rattle.client_spec.specs.Syntax.{Constant, Instruction, Statement, plain, opener, loop, Statements, no_more, next}
use Rattle.client_spec.specs.Answer.{constant_operand}

-- ---- code

abbrev mutual
  pub code_passes : (Instruction → Bool) → Statements → Bool
  code_passes test no_more = true
  code_passes test (next c cs) = statement_passes test c && code_passes test cs

  pub statement_passes : (Instruction → Bool) → Statement → Bool
  statement_passes test (plain i) = test i
  statement_passes test (opener i on_success on_code) =
      test i && (code_passes test on_success && code_passes test on_code)
  statement_passes test (loop i body) = code_passes test body

abbrev pub is_prefix : List ℕ → List ℕ → Bool
is_prefix [] ys = true
is_prefix (x ∷ xs) [] = false
is_prefix (x ∷ xs) (y ∷ ys) = (x == y) && is_prefix xs ys

-- the constant is the name, or the family of the name
abbrev pub can_spell : List ℕ → Constant → Bool
can_spell name (Constant.Text bytes) = false
can_spell name (Constant.Name other) = same_name other name
can_spell name (Constant.Family prefix) = is_prefix (prefix ++ 35 ∷ []) name

abbrev pub keeps_name : List Constant → List ℕ → Instruction → Bool
keeps_name constants name i = keeps i.operation
  where
    keeps : Operation → Bool
    keeps Operation.Kill =
        not (option_map_or (can_spell name) (slice_get constants (constant_operand i.number)) false)
    keeps operation = true

abbrev pub keeps_unique : ℕ → Instruction → Bool
keeps_unique T i = keeps i.operation
  where
    keeps : Operation → Bool
    keeps Operation.KillUnique = not (T == nat_abs i.number)
    keeps operation = true

-- ---- images

-- An object that is found in the old image is found in the new one, with the same name, position,
-- type and number of values. Its values may differ.
abbrev pub Stays : (Picture → Option Root) → List ℕ → List ℕ → Type 0
Stays find old new = (before after : Picture) → IsHeld old before → IsHeld new after →
    (root : Root) → find before ≡ Some root →
    (other : Root) × (find after ≡ Some other) × HasFace root other

abbrev pub NameStays : List ℕ → List ℕ → List ℕ → Type 0
NameStays old new name = Stays (λ picture. root_named picture.names name) old new

abbrev pub UniqueStays : List ℕ → List ℕ → ℕ → Type 0
UniqueStays old new T = Stays (λ picture. root_of_type picture.uniques T) old new
