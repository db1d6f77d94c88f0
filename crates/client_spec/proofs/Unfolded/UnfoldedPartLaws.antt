-- Parts of values: if a value has one, so has its unfolded value.
use Rattle.std.proofs.Common.{ℕ, ℤ, List, Some, refl, ap}
use Rattle.std.specs.Prelude.{option_map}
use Rattle.seg_spec.specs.Value.{Label, Value, node, Values, nil, cons}
use Rattle.seg_spec.specs.Shared.{replaced, replaced_each}
use Rattle.client_spec.specs.Answer.{int_in, text_in, items_in, entries_in, content_in, fields_in, length_in}
use Rattle.client_spec.proofs.Unfolded.UnfoldedValueLaws.{count_replaced}
use Rattle.client_spec.proofs.Unfolded.UnfoldedOutcomeLaws.{Finds}

module _ (m : ℕ → Value) where
  pub number_replaced : (v : Value) → Finds (λ k. k) (int_in v) (int_in (replaced m v))
  unfolding replaced
  number_replaced (node (Label.int k) nil) = refl
  number_replaced (node (Label.int k) (cons v vs)) = tt
  number_replaced (node (Label.text bytes) vs) = tt
  number_replaced (node Label.seq vs) = tt
  number_replaced (node (Label.map keys) vs) = tt
  number_replaced (node Label.opt vs) = tt
  number_replaced (node Label.struct vs) = tt
  number_replaced (node (Label.shared T p) vs) = tt

  pub bytes_replaced : (v : Value) → Finds (λ k. k) (text_in v) (text_in (replaced m v))
  unfolding replaced
  bytes_replaced (node (Label.int k) vs) = tt
  bytes_replaced (node (Label.text bytes) nil) = refl
  bytes_replaced (node (Label.text bytes) (cons v vs)) = tt
  bytes_replaced (node Label.seq vs) = tt
  bytes_replaced (node (Label.map keys) vs) = tt
  bytes_replaced (node Label.opt vs) = tt
  bytes_replaced (node Label.struct vs) = tt
  bytes_replaced (node (Label.shared T p) vs) = tt

  pub items_replaced : (v : Value) → Finds (replaced_each m) (items_in v) (items_in (replaced m v))
  unfolding replaced
  items_replaced (node (Label.int k) vs) = tt
  items_replaced (node (Label.text bytes) vs) = tt
  items_replaced (node Label.seq vs) = refl
  items_replaced (node (Label.map keys) vs) = tt
  items_replaced (node Label.opt vs) = tt
  items_replaced (node Label.struct vs) = tt
  items_replaced (node (Label.shared T p) vs) = tt

  abbrev pub entries_with : List ℤ × Values → List ℤ × Values
  entries_with es = (es.0, replaced_each m es.1)

  pub entries_replaced : (v : Value) → Finds entries_with (entries_in v) (entries_in (replaced m v))
  unfolding replaced
  entries_replaced (node (Label.int k) vs) = tt
  entries_replaced (node (Label.text bytes) vs) = tt
  entries_replaced (node Label.seq vs) = tt
  entries_replaced (node (Label.map keys) vs) = refl
  entries_replaced (node Label.opt vs) = tt
  entries_replaced (node Label.struct vs) = tt
  entries_replaced (node (Label.shared T p) vs) = tt

  pub content_replaced : (v : Value) → Finds (option_map (replaced m)) (content_in v) (content_in (replaced m v))
  unfolding replaced
  content_replaced (node (Label.int k) vs) = tt
  content_replaced (node (Label.text bytes) vs) = tt
  content_replaced (node Label.seq vs) = tt
  content_replaced (node (Label.map keys) vs) = tt
  content_replaced (node Label.opt nil) = refl
  content_replaced (node Label.opt (cons v nil)) = refl
  content_replaced (node Label.opt (cons v (cons w vs))) = tt
  content_replaced (node Label.struct vs) = tt
  content_replaced (node (Label.shared T p) vs) = tt

  pub fields_replaced : (v : Value) → Finds (replaced_each m) (fields_in v) (fields_in (replaced m v))
  unfolding replaced
  fields_replaced (node (Label.int k) vs) = tt
  fields_replaced (node (Label.text bytes) vs) = tt
  fields_replaced (node Label.seq vs) = tt
  fields_replaced (node (Label.map keys) vs) = tt
  fields_replaced (node Label.opt vs) = tt
  fields_replaced (node Label.struct vs) = refl
  fields_replaced (node (Label.shared T p) vs) = tt

  pub length_replaced : (v : Value) → Finds (λ k. k) (length_in v) (length_in (replaced m v))
  unfolding replaced
  length_replaced (node (Label.int k) vs) = tt
  length_replaced (node (Label.text bytes) nil) = refl
  length_replaced (node (Label.text bytes) (cons v vs)) = tt
  length_replaced (node Label.seq vs) = ap Some (count_replaced m vs)
  length_replaced (node (Label.map keys) vs) = ap Some (count_replaced m vs)
  length_replaced (node Label.opt vs) = tt
  length_replaced (node Label.struct vs) = tt
  length_replaced (node (Label.shared T p) vs) = tt
