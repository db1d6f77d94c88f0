-- The settings that an image keeps.
--     KeepsSettings image settings  the image is sound, and has these settings
--     AreSame read settings        the same limit, port and greeting
use Rattle.std.specs.Prelude.{◌≡◌, ℕ, ℤ, pos, List, [], ◌∷◌}
use Rattle.seg_spec.specs.Bytes.{word}
use Rattle.seg_spec.specs.Header.{next_word}
use Rattle.seg_spec.specs.Value.{Values, nil, cons, Int}
use Rattle.seg_spec.specs.Sound.{IsHeld}
use Rattle.seg_spec.specs.Counting.{AreCounted}
use Rattle.lezgauri_uses.specs.Tables.{table_value, picture_of}
use Rattle.lezgauri_uses.specs.declared.settings.Settings.{Settings}

abbrev pub entries_of : Settings → List ℤ × Values
entries_of settings =
    (pos 1 ∷ pos 2 ∷ [], cons (Int settings.limit) (cons (Int settings.port) nil))

-- The image is sound. Its one object has the limit, the port and the greeting.
pub record KeepsSettings (image : List ℕ) (settings : Settings) : Type 0 where
  pub at : ℕ
  pub held : IsHeld image
      (picture_of at (table_value (entries_of settings) settings.greeting.items))
  pub counted : AreCounted (word image next_word)
      (picture_of at (table_value (entries_of settings) settings.greeting.items))

pub record AreSame (read settings : Settings) : Type 0 where
  pub limit : read.limit ≡ settings.limit
  pub port : read.port ≡ settings.port
  pub greeting : read.greeting.items ≡ settings.greeting.items
