-- The lines of a text.
--     line_length text     the length of the first line in bytes, without its end
use Rattle.std.specs.Prelude.{ℕ, suc, ◌==◌, if◌then◌else◌, List, [], ◌∷◌}

abbrev pub line_length : List ℕ → ℕ
line_length [] = 0
line_length (b ∷ text) = if b == 10 then 0 else suc (line_length text)
