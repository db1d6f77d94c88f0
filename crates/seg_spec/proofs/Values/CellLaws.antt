-- The cells of a type, by its form.
use Rattle.std.proofs.Common.{◌≡◌, ℕ, ◌+◌, ◌<◌, List, [], ◌∷◌, length, get_or, Some, refl, arith}
use Rattle.std.proofs.lemmas.List.Elements.{All-head, All-tail}
use Rattle.std.specs.Prelude.{All}
use Rattle.seg_spec.specs.Types.{Form, Table, form_at, size, IsForm, IsTable, built, Cell, cells, cells_by, cells_of_fields}
use Rattle.seg_spec.proofs.Tables.TypeSizeLaws.{built_at}

cells_fields_agree : (table : Table) (xs ys : List (List Cell)) (k n : ℕ) (Us : List ℕ) → ((U : ℕ) → U < k → get_or xs U [] ≡ get_or ys U []) → All (λ U. U < k) Us → cells_of_fields table xs n Us ≡ cells_of_fields table ys n Us
cells_fields_agree table xs ys k n [] e h = refl
cells_fields_agree table xs ys k n (U ∷ Us) e h =
    let first = e U (All-head (λ V. V < k) U Us h) in
    let rest = cells_fields_agree table xs ys k (n + size table U) Us e (All-tail (λ V. V < k) U Us h) in
    rw (first, rest)

cells_agree : (table : Table) (xs ys : List (List Cell)) (n k : ℕ) (form : Form) → IsForm n k form → ((U : ℕ) → U < k → get_or xs U [] ≡ get_or ys U []) → cells_by table k xs form ≡ cells_by table k ys form
cells_agree table xs ys n k (Form.struct Us) h e = cells_fields_agree table xs ys k 0 Us e h.2
cells_agree table xs ys n k _ h e = refl

pub cells-form : (table : Table) → IsTable table → (T : ℕ) (form : Form) → form_at table T ≡ Some form → cells table T ≡ cells_by table T (built (cells_by table) [] table) form
unfolding cells
cells-form table t T form e = built_at (cells_by table) [] (cells_agree table) [] table T T (length table) form e (omega arith) (t.forms T form e)

module _ (table : Table) (valid : IsTable table) where
  -- any type but a struct has one cell
  abbrev pub IsOne : Form → Type 0
  IsOne Form.i64 = ⊥
  IsOne (Form.struct Us) = ⊥
  IsOne _ = Unit {0}
