-- The program's buffers in the definitions' terms.
--     NamesBuffer table T content     the cell of a type points to a buffer, with these entries
--     MakesRoom ..                    a buffer got room for entries, or the request was refused
use Rattle.std.specs.Prelude.{◌≡◌, ℕ, ◌*◌, List, Some, Result, MatchResult}
use Rattle.seg_spec.specs.Calls.{Refuses}
use Rattle.seg_spec.specs.Growing.{Reserves}
use Rattle.seg_spec.specs.Reads.{Place}
use Rattle.seg_spec.specs.Spending.{buffer_asks}
use Rattle.seg_spec.specs.Value.{Value}
use Rattle.seg_spec.specs.Types.{Table, form_at}
use Rattle.seg_cells.specs.Contents.{ContentOf}
use Rattle.seg_cells.specs.declared.content.Content.{Content}
use Rattle.seg_cells.specs.declared.content.Shape.TheVariants as shape

abbrev pub NamesBuffer : Table → ℕ → Content → Type 0
NamesBuffer table T content =
    ContentOf table T (form_at table T) (Some content) × (content.shape ≡ shape.Buffer)

-- The buffer of a place with a value got room for `limit` entries, or the request was refused.
abbrev pub MakesRoom : {X Y : Type 0} → ℕ → List ℕ → List ℕ → Table → Place → Value →
    List ℕ → ℕ → ℕ → Result X Y → Type 0
MakesRoom allocator old new table place v blocks each limit result = MatchResult result
    (λ done. Reserves allocator old new table place v blocks
    (buffer_asks old place.at each limit) (limit * each))
    (λ code. Refuses allocator old new (buffer_asks old place.at each limit))
