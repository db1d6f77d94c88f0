-- The kinds of sequences: strings, vectors and lists.
--     is_sequence form              values of this form are sequences
--     HasNumbers table T            values of a type are vectors of numbers
--     SequenceKindOf table T form result
--                                   the kind of the sequences of a type, and the layout of what their cells point to
use Rattle.std.specs.Prelude.{◌≡◌, ℕ, Bool, true, false, Option, Some, Result, Ok, Err}
use Rattle.seg_spec.specs.Types.{Form, Table, form_at}
use Rattle.seg_spec.specs.Block.{Kind, tag_of}
use Rattle.seg_raw.specs.declared.code.Code.{Code}
use Rattle.seg_raw.specs.declared.code.Code.TheVariants as code
use Rattle.seg_cells.specs.Contents.{IsContent, IsText}
use Rattle.seg_cells.specs.declared.content.Content.{Content}
use Rattle.seg_cells.specs.declared.content.Shape.TheVariants as shape
use Rattle.seg_seq.specs.declared.kind.SequenceKind as sequence
use Rattle.seg_seq.specs.declared.kind.SequenceKind.TheVariants as kind

abbrev pub is_sequence : Option Form → Bool
is_sequence (Some Form.str) = true
is_sequence (Some (Form.vec U)) = true
is_sequence (Some (Form.list U)) = true
is_sequence _ = false

pub record HasNumbers (table : Table) (T : ℕ) : Type 0 where
  pub item : ℕ
  pub vector_is : form_at table T ≡ Some (Form.vec item)
  pub number_is : form_at table item ≡ Some Form.i64

-- the kind of the sequences of a type, and the layout of what their cells point to; `OtherType` if
-- the type's values aren't sequences
abbrev pub SequenceKindOf :
    Table → ℕ → Option Form → Result (sequence.SequenceKind × Content) Code → Type 0
SequenceKindOf table T (Some Form.str) (Ok (kind.Text, content)) =
    IsText (tag_of Kind.buffer T) content
SequenceKindOf table T (Some (Form.vec U)) (Ok (kind.Vector, content)) =
    IsContent table shape.Buffer (tag_of Kind.buffer T) 0 U content
SequenceKindOf table T (Some (Form.list U)) (Ok (kind.List, content)) =
    IsContent table shape.Ring (tag_of Kind.node T) 8 U content
SequenceKindOf table T (Some Form.str) _ = ⊥
SequenceKindOf table T (Some (Form.vec U)) _ = ⊥
SequenceKindOf table T (Some (Form.list U)) _ = ⊥
SequenceKindOf table T form (Ok found) = ⊥
SequenceKindOf table T form (Err error) = error ≡ code.OtherType
