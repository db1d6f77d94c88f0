-- What a program read from files and wrote to them. Files may not keep it; then these definitions
-- claim nothing.
--     Access                         the name of a file, and the bytes read from it or written to it
--     access name bytes              one access
--     AddsAccesses before after accesses  these accesses were added, in this order
--     accesses_of names texts        an access for each name, with its bytes
use Rattle.std.specs.Prelude.{◌≡◌, ℕ, List, [], ◌∷◌, ◌++◌, Option, Some, IfSome}

pub record Access : Type 0 where
  pub name : List ℕ
  pub bytes : List ℕ

abbrev pub access : List ℕ → List ℕ → Access
access name bytes = record { name = name; bytes = bytes }

abbrev pub AddsAccesses : Option (List Access) → Option (List Access) → List Access → Type 0
AddsAccesses before after accesses = IfSome before (λ done. after ≡ Some (done ++ accesses))

-- the lists have the same length
abbrev pub accesses_of : List (List ℕ) → List (List ℕ) → List Access
accesses_of [] texts = []
accesses_of (name ∷ names) [] = []
accesses_of (name ∷ names) (text ∷ texts) = access name text ∷ accesses_of names texts
