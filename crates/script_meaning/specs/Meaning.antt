-- What a program of the core does, on the names and values of the abstract machine.
--     Moment                  the numbers of the variables, and the world: names, values, output
--     value setting m number  the number that a program works out
--     Does setting code       from one moment to another, with an ending
use Rattle.std.specs.Prelude.{◌≡◌, ◌≢◌, ℕ, zero, suc, ◌<◌, ℤ, pos, List, [], ◌∷◌, ◌++◌, length, Bool, true, false, not, ◌&&◌, ◌||◌, ◌==◌, int_lt, Option, Some, None, if◌then◌else◌, slice_index_or, ◌⊎◌}
use Rattle.std.specs.Int.{w64, int_wrapping_add, int_wrapping_sub, int_wrapping_mul}
use Rattle.std.specs.Fmt.{signed_decimal}
use Rattle.std.specs.Option.{option_map_or}
use Rattle.client_spec.specs.Types.{Table}
use Rattle.client_spec.specs.Value.{Int, nth, copies, default_of, same_int}
use Rattle.client_spec.specs.Machine.{◌>>=◌, Object, Names, Uniques, State, with_name, replace_item}
use Rattle.client_spec.specs.Answer.{int_in}
use Rattle.client_spec.specs.Effect.{truth}
use Rattle.client_spec.specs.Run.{Ending, finished, stopped}
use Rattle.script_meaning.specs.declared.program.Operator.{Operator}
use Rattle.script_meaning.specs.declared.program.Operator.TheVariants as operator
use Rattle.script_meaning.specs.declared.program.Number.{Number}
use Rattle.script_meaning.specs.declared.program.Number.TheVariants.{Literal, Variable, Combined', ObjectOr'}
use Rattle.script_meaning.specs.declared.program.Code.{Code}
use Rattle.script_meaning.specs.declared.program.Code.TheVariants as code

-- ---- moments

-- the state of the abstract machine without its registers
pub record World : Type 0 where
  pub types : Table
  pub names : Names
  pub uniques : Uniques
  pub input : List ℕ
  pub output : List ℕ

abbrev pub world_of : State → World
world_of s = record {
  types = s.types;
  names = s.names;
  uniques = s.uniques;
  input = s.input;
  output = s.output;
}

pub record Moment : Type 0 where
  pub variables : ℕ → ℤ
  pub world : World

abbrev pub with_variable : Moment → ℕ → ℤ → Moment
with_variable m v k = record m { variables = λ u. if u == v then k else m.variables u }

abbrev pub with_output : Moment → List ℕ → Moment
with_output m bytes =
    record m { world = record m.world { output = m.world.output ++ bytes } }

-- ---- objects

-- the number of the type int in the segment, and the names of a program's objects
pub record Setting : Type 0 where
  pub int : ℕ
  pub objects : List (List ℕ)

abbrev pub name_of : Setting → ℕ → List ℕ
name_of setting x = slice_index_or setting.objects x []

-- the number in an object of type int
abbrev pub number_in : ℕ → Option Object → Option ℤ
number_in int None = None
number_in int (Some o) = if o.type == int then nth o.values 0 >>= int_in else None

abbrev pub number_of : Setting → World → ℕ → Option ℤ
number_of setting world x = number_in setting.int (world.names (name_of setting x))

-- the world after the object of a name, if there is one, got a number
abbrev pub with_number : List ℕ → ℤ → World → World
with_number name k world = option_map_or
    (λ o. record world { names = with_name world.names name (Some (replace_item 0 (Int k) o)) })
    (world.names name) world

-- the world with a new object of the type int
abbrev pub with_object : ℕ → List ℕ → World → World
with_object int name world = record world {
  names = with_name world.names name
      (Some (record { type = int; values = copies 1 (default_of world.types int) }));
}

-- ---- numbers

abbrev pub is_true : ℤ → Bool
is_true k = not (same_int k (pos 0))

abbrev pub combined : Operator → ℤ → ℤ → ℤ
combined operator.Add x y = int_wrapping_add w64 x y
combined operator.Subtract x y = int_wrapping_sub w64 x y
combined operator.Multiply x y = int_wrapping_mul w64 x y
combined operator.Less x y = truth (int_lt x y)
combined operator.LessOrEqual x y = truth (not (int_lt y x))
combined operator.Greater x y = truth (int_lt y x)
combined operator.GreaterOrEqual x y = truth (not (int_lt x y))
combined operator.Equal x y = truth (same_int x y)
combined operator.NotEqual x y = truth (not (same_int x y))
combined operator.And x y = truth (is_true x && is_true y)
combined operator.Or x y = truth (is_true x || is_true y)

abbrev pub or_else : Option ℤ → ℤ → ℤ
or_else (Some k) d = k
or_else None d = d

abbrev pub value : Setting → Moment → Number → ℤ
value setting m (Literal k) = k
value setting m (Variable v) = m.variables v
value setting m (Combined' o p x q y) = combined o (value setting m x) (value setting m y)
value setting m (ObjectOr' x p d) = or_else (number_of setting m.world x) (value setting m d)

-- ---- statements

-- from a first moment to a last one, with an ending
abbrev pub Meaning : Type 1
Meaning = Moment → Moment → Ending → Type 0

abbrev pub Stays : Meaning
Stays m m' end = (m' ≡ m) × (end ≡ finished)

-- the second follows if the first finishes
abbrev pub Then : Meaning → Meaning → Meaning
Then first second m m' end =
    ((mid : Moment) × first m mid finished × second mid m' end)
    ⊎ (first m m' end × (end ≢ finished))

abbrev pub Sets : ℕ → (Moment → ℤ) → Meaning
Sets v number m m' end = (m' ≡ with_variable m v (number m)) × (end ≡ finished)

-- All bytes are written, or only a part of them, and the program ends.
abbrev pub Writes : (Moment → List ℕ) → Meaning
Writes bytes m m' end =
    ((m' ≡ with_output m (bytes m)) × (end ≡ finished))
    ⊎ ((front : List ℕ) × (lost : List ℕ) × (bytes m ≡ front ++ lost) × (0 < length lost)
    × (m' ≡ with_output m front) × (end ≡ stopped))

abbrev pub Chosen : Bool → Type 0 → Type 0 → Type 0
Chosen true A B = A
Chosen false A B = B

abbrev pub If : (Moment → ℤ) → Meaning → Meaning → Meaning
If number on_true on_false m m' end =
    Chosen (is_true (number m)) (on_true m m' end) (on_false m m' end)

-- at most n turns, as long as the number isn't 0
abbrev pub Turns : ℕ → (Moment → ℤ) → Meaning → Meaning
Turns zero number body = Stays
Turns (suc n) number body = If number (Then body (Turns n number body)) Stays

-- An object that there is gets a number that depends on its old one.
abbrev pub Changes : Setting → ℕ → (ℤ → ℤ) → World → Moment → Moment → Ending → Type 0
Changes setting x new world m m' end =
    (old : ℤ) × (number_of setting world x ≡ Some old) × (end ≡ finished)
    × (m' ≡ record m { world = with_number (name_of setting x) (new old) world })

-- an object, by whether there is one of its name; if not, there may be on_false room for it
abbrev pub ByObject : Setting → ℕ → (ℤ → ℤ) → Meaning → Option Object → Meaning
ByObject setting x new otherwise None m m' end =
    Changes setting x new (with_object setting.int (name_of setting x) m.world) m m' end
    ⊎ otherwise m m' end
ByObject setting x new otherwise (Some o) m m' end =
    Chosen (o.type == setting.int) (Changes setting x new m.world m m' end) (otherwise m m' end)

-- An object gets a number that depends on the moment and on its old one. It is made if its
-- name has none.
abbrev pub Stores : Setting → ℕ → (Moment → ℤ → ℤ) → Meaning → Meaning
Stores setting x new otherwise m m' end =
    ByObject setting x (new m) otherwise (m.world.names (name_of setting x)) m m' end

abbrev pub Found : (ℤ → Type 0) → Type 0 → Option ℤ → Type 0
Found on_true on_false None = on_false
Found on_true on_false (Some k) = on_true k

abbrev pub IfObject : Setting → ℕ → ℕ → Meaning → Meaning → Meaning
IfObject setting v x on_true on_false m m' end =
    Found (λ k. on_true (with_variable m v k) m' end) (on_false m m' end)
    (number_of setting m.world x)

-- the names without an object of this type and name
abbrev pub without : ℕ → List ℕ → Option Object → World → World
without int name None world = world
without int name (Some o) world =
    if o.type == int then record world { names = with_name world.names name None } else world

abbrev pub Deletes : Setting → ℕ → Meaning
Deletes setting x m m' end = (end ≡ finished) × (m' ≡ record m {
  world = without setting.int (name_of setting x) (m.world.names (name_of setting x)) m.world;
})

abbrev pub Does : Setting → Code → Meaning
Does setting code.End = Stays
Does setting (code.Set' v e p rest) =
    Then (Sets v (λ m. value setting m e)) (Does setting rest)
Does setting (code.Print' bytes p rest) = Then (Writes (λ m. bytes.items)) (Does setting rest)
Does setting (code.PrintLine' e p rest) =
    Then (Writes (λ m. signed_decimal (value setting m e) ++ 10 ∷ [])) (Does setting rest)
Does setting (code.If' e p on_true q on_false r rest) =
    Then (If (λ m. value setting m e) (Does setting on_true) (Does setting on_false))
    (Does setting rest)
Does setting (code.While' e n p body q rest) =
    Then (Turns n (λ m. value setting m e) (Does setting body)) (Does setting rest)
Does setting (code.WhileElse' e n p body q on_false r rest) =
    Then (Then (Turns n (λ m. value setting m e) (Does setting body))
    (If (λ m. value setting m e) (Does setting on_false) Stays)) (Does setting rest)
Does setting (code.Store' x e p otherwise q rest) =
    Then (Stores setting x (λ m old. value setting m e) (Does setting otherwise))
    (Does setting rest)
Does setting (code.Change' x o e p otherwise q rest) =
    Then (Stores setting x (λ m old. combined o old (value setting m e)) (Does setting otherwise))
    (Does setting rest)
Does setting (code.IfObject' v x p on_true q on_false r rest) =
    Then (IfObject setting v x (Does setting on_true) (Does setting on_false)) (Does setting rest)
Does setting (code.Delete' x p rest) = Then (Deletes setting x) (Does setting rest)
