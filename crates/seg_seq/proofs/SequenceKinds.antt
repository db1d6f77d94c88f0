-- The layouts of what the cells of each kind of sequence point to.
use Rattle.std.proofs.Common.{◌≡◌, ◌⊎◌, inl, inr, ℕ, Some, Ok, sym, subst}
use Rattle.seg_spec.specs.Types.{Form, Table, form_at}
use Rattle.seg_value.specs.Buffers.{NamesBuffer}
use Rattle.seg_cells.specs.Contents.{ContentOf}
use Rattle.seg_cells.specs.declared.content.Content.{Content}
use Rattle.seg_seq.specs.Kinds.{SequenceKindOf}
use Rattle.seg_seq.specs.Lists.{IsList}
use Rattle.seg_seq.specs.declared.kind.SequenceKind.{SequenceKind}
use Rattle.seg_seq.specs.declared.kind.SequenceKind.TheVariants as kind

-- the entries of a string's buffer are single bytes
pub record NamesText (table : Table) (T : ℕ) (content : Content) : Type 0 where
  pub names : NamesBuffer table T content
  pub size_is : content.entry.size ≡ 1
  pub before_is : content.entry.before ≡ 0

module _ (table : Table) (T : ℕ) (c : Content) where
  abbrev Kinds : SequenceKind → Type 0
  Kinds k = SequenceKindOf table T (form_at table T) (Ok (k, c))

  names_text : form_at table T ≡ Some Form.str → Kinds kind.Text → NamesText table T c
  names_text f k =
      let text = rw f at k in
      record { names = (subst (λ o. ContentOf table T o (Some c)) (sym f) text, text.shape_is); size_is = text.size_is; before_is = text.before_is }

  names_vector : (U : ℕ) → form_at table T ≡ Some (Form.vec U) → Kinds kind.Vector → NamesBuffer table T c
  names_vector U f k =
      let entry = rw f at k in
      (subst (λ o. ContentOf table T o (Some c)) (sym f) entry, entry.shape_is)

  pub names_list : (k : SequenceKind) → k ≡ kind.List → Kinds k → (U : ℕ) → form_at table T ≡ Some (Form.list U) → IsList table T U c
  names_list k is of U f = record { form_is = f; content_is = let l = subst Kinds is of in rw f at l }

  -- a buffer of either kind
  module _ (k : SequenceKind) (is : (k ≡ kind.Text) ⊎ (k ≡ kind.Vector)) (of : Kinds k) where
    pub buffer_text : form_at table T ≡ Some Form.str → NamesText table T c
    buffer_text f = elim is [ inl e ↦ names_text f (subst Kinds e of) | inr e ↦ let no = rw f at (subst Kinds e of) in absurd no ]

    pub buffer_vector : (U : ℕ) → form_at table T ≡ Some (Form.vec U) → NamesBuffer table T c
    buffer_vector U f = elim is [ inl e ↦ let no = rw f at (subst Kinds e of) in absurd no | inr e ↦ names_vector U f (subst Kinds e of) ]
