-- Sound images: the bytes of a segment that can be saved and opened.
--     IsSound bytes      a well-formed image without loose objects, whose frozen objects count their cells;
--                        `check` accepts exactly these
--     upgraded bytes     the image after it was opened
--     StaysHeld old new picture      the bytes contain another picture, with as many loose objects
use Rattle.std.specs.Prelude.{◌≡◌, ℕ, List, [], length}
use Rattle.seg_spec.specs.Bytes.{word, set_word}
use Rattle.seg_spec.specs.Header.{next_word, version_word, sharing_version}
use Rattle.seg_spec.specs.Sound.{Picture, IsHeld}
use Rattle.seg_spec.specs.Counting.{AreCounted}

pub record IsSound (bytes : List ℕ) : Type 0 where
  pub picture : Picture
  pub held : IsHeld bytes picture
  pub counted : AreCounted (word bytes next_word) picture
  pub none_loose : picture.loose ≡ []

-- Opening sets the version to the one that may have frozen objects, and changes nothing else.
abbrev pub upgraded : List ℕ → List ℕ
upgraded bytes = set_word bytes version_word sharing_version

-- The bytes were changed. They contain another picture with the same types and as many loose
-- objects, whose frozen objects count their cells.
pub record StaysHeld (old new : List ℕ) (picture : Picture) : Type 0 where
  pub other : Picture
  pub held : IsHeld new other
  pub counted : AreCounted (word new next_word) other
  pub same_table : other.table ≡ picture.table
  pub loose_kept : length other.loose ≡ length picture.loose
  pub length_kept : length new ≡ length old
