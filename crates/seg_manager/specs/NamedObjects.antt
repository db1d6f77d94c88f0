-- The named objects of a segment.
--     found_of root            the position of a root's first value, and the number of its values
--     found_as T root          the result of a search for an object of a type, by its name's root
--     DescribesRoot name T n root
--                              the name of a root, its type, and the number of its values
--     IsMissing names name     the name is allowed, and no root has it
--     IsCount n                an object may have n values
--     RefusesName              no object was made, for the reason in the code
--     FindsOrMakesNamed        the position of the object with a name, which may be new
--     RefusesToFind            no object was found or made, for the reason in the code
use Rattle.std.specs.Prelude.{◌≡◌, ℕ, ◌≤◌, ◌⊎◌, ◌==◌, IsSome, if◌then◌else◌, List, Option, Some, None, Result, Ok, Err}
use Rattle.seg_spec.specs.Index.{Root, IsName, root_named}
use Rattle.seg_spec.specs.Value.{count}
use Rattle.seg_raw.specs.declared.code.Code.{Code}
use Rattle.seg_raw.specs.declared.code.Code.TheVariants as code
use Rattle.seg_value.specs.Stored.{Stored}
use Rattle.seg_manager.specs.declared.names.Found.{Found}

abbrev pub found_of : Root → Found
found_of root = record { at = root.at; count = count root.values }

-- the result of a search for an object of the type, by the root of its name
abbrev pub found_as : ℕ → Option Root → Result Found Code
found_as T None = Err code.Absent
found_as T (Some root) = if root.type == T then Ok (found_of root) else Err code.OtherType

abbrev pub DescribesRoot : List ℕ → ℕ → ℕ → Root → Type 0
DescribesRoot name T n root = (name ≡ root.name) × (T ≡ root.type) × (n ≡ count root.values)

-- ---- whether an object may be made

abbrev pub IsMissing : List Root → List ℕ → Type 0
IsMissing names name = IsName name × (root_named names name ≡ None)

abbrev pub IsCount : ℕ → Type 0
IsCount n = (1 ≤ n) × (n ≤ 65535)

-- no object with this name and n values was made, for the reason in the code
abbrev pub RefusesName : Stored → Stored → List Root → List ℕ → ℕ → Code → Type 0
RefusesName old new names name n code.OutOfRange = (IsName name × IsCount n → ⊥) × (new ≡ old)
RefusesName old new names name n code.AlreadyExists =
    IsName name × IsCount n × IsSome (root_named names name) × (new ≡ old)
RefusesName old new names name n code.BadAlloc = IsMissing names name × IsCount n
RefusesName _ _ _ _ _ _ = ⊥

-- the object with the name and type begins here, or no root had the name
abbrev pub FindsOrMakesNamed : Stored → Stored → List Root → List ℕ → ℕ → ℕ → Type 0
FindsOrMakesNamed old new names name T at =
    ((root : Root) × (root_named names name ≡ Some root) × (root.type ≡ T) × (root.at ≡ at)
    × (new ≡ old)) ⊎ IsMissing names name

abbrev pub RefusesToFind : Stored → Stored → List Root → List ℕ → ℕ → Code → Type 0
RefusesToFind old new names name T code.OutOfRange =
    (root_named names name ≡ None) × (IsName name → ⊥) × (new ≡ old)
RefusesToFind old new names name T code.OtherType =
    (found_as T (root_named names name) ≡ Err code.OtherType) × (new ≡ old)
RefusesToFind old new names name T code.BadAlloc = IsMissing names name
RefusesToFind _ _ _ _ _ _ = ⊥
