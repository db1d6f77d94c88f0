-- A vec of two empty vecs, of which one has a buffer. The bytes are a cell and two blocks, and no
-- image.
--     first_has, second_has    the first of the two has the buffer, or the second has it
--     two_vecs, empty_vecs     the place of the outer vec, and its value
use Rattle.std.specs.Prelude.{ℕ, List, [], ◌∷◌, ◌++◌, replicate}
use Rattle.seg_spec.specs.Types.{Form, Table}
use Rattle.seg_spec.specs.Value.{Value, nil, cons, Seq}
use Rattle.seg_spec.specs.Reads.{Place}
use Rattle.seg_spec.specs.Fixtures.{words, live_header}

abbrev pub nested : Table
nested = Form.vec 0 ∷ []

abbrev pub two_vecs : Place
two_vecs = record { at = 0; type = 0 }

abbrev pub empty_vecs : Value
empty_vecs = Seq (cons (Seq nil) (cons (Seq nil) nil))

-- the bytes before the two cells, and those after them
abbrev before_cells : List ℕ
before_cells = words (32 ∷ 2 ∷ 0 ∷ 0 ∷ []) ++ live_header 2 0 3

abbrev after_cells : List ℕ
after_cells = live_header 2 2 3 ++ replicate 16 0

unfoldable pub first_has : List ℕ
first_has = before_cells ++ words (32 ∷ 0 ∷ 1 ∷ 0 ∷ []) ++ after_cells

unfoldable pub second_has : List ℕ
second_has = before_cells ++ words (1 ∷ 0 ∷ 24 ∷ 0 ∷ []) ++ after_cells
