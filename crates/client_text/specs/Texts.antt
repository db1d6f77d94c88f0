-- The text of a client, piece by piece.
--     with_spaces words     the words, each after a space
--     ended_line item       the line of an item, with its end
--     SpellsByte b rest spelling    the spelling of a byte, and then the rest
--     before_space b line   how many bytes come before the first space (b is true), or before the
--                           first other byte (b is false)
use Rattle.std.specs.Prelude.{◌≡◌, ◌⊎◌, ℕ, suc, Bool, true, not, ◌==◌, if◌then◌else◌, List, [], ◌∷◌, ◌++◌, flat_map}
use Rattle.client_spec.specs.Text.{Item, Words, line_of, is_plain, escaped}

abbrev pub with_spaces : Words → List ℕ
with_spaces words = flat_map (λ word. 32 ∷ word) words

abbrev pub ended_line : Item → List ℕ
ended_line item = line_of item ++ 10 ∷ []

-- how many bytes come before the first space, or before the first byte that isn't one
abbrev pub before_space : Bool → List ℕ → ℕ
before_space is_space [] = 0
before_space is_space (b ∷ line) =
    if (if b == 32 then is_space else not is_space) then 0 else suc (before_space is_space line)

-- a byte by itself or escaped, and then the rest
abbrev pub SpellsByte : ℕ → List ℕ → List ℕ → Type 0
SpellsByte b rest spelling =
    ((is_plain b ≡ true) × (spelling ≡ b ∷ rest)) ⊎ (spelling ≡ escaped b ++ rest)
