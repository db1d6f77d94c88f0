-- The kinds of types in a column of the table are the forms that a rule needs, and their parts have
-- the same types.
--     AreForms number kinds f     the kinds are the forms for which f has a value
use Rattle.std.proofs.Common.{◌≡◌, ℕ, length, refl, sym, ap, ◌∙◌, Bool, true, false, Option, Some, None}
use Rattle.std.specs.Prelude.{ℤ, pos, negsuc, List, if◌then◌else◌, slice_get, nat_lt}
use Rattle.std.specs.Option.{is_some, option_and_then}
use Rattle.std.proofs.lemmas.Bool.{ltb-false}
use Rattle.std.proofs.lemmas.Option.{slice_get_past}
use Rattle.client_spec.specs.Types.{Form}
use Rattle.client_spec.specs.Answer.{owned_type, vec_or_list_item, list_item, map_value, shared_type, index_below}
use Rattle.client_spec.specs.Typed.{Class, RegisterType, is_i64, is_str, is_map, can_pop, has_length, can_shrink, item_known, field_type, content_known}
use Rattle.client_spec.specs.declared.table.Kinds.{Kinds}
use Rattle.client_spec.specs.declared.table.Kinds.TheVariants as kinds
use Rattle.client_verify.specs.Checking.{field_at, part_of, part_at, part_given, is_kind, is_kind_at}

abbrev pub AreForms : {A : Type 0} → ℤ → Kinds → (Form → Option A) → Type 0
AreForms number kinds f = ((form : Form) → is_some (f form) ≡ is_kind number kinds form) × (is_kind_at number kinds None ≡ false)

pub i64_forms : (number : ℤ) → AreForms number kinds.I64 is_i64
i64_forms number = (each, refl)
  where
    each : (form : Form) → is_some (is_i64 form) ≡ is_kind number kinds.I64 form
    each Form.i64 = refl
    each k = refl

pub str_forms : (number : ℤ) → AreForms number kinds.Str is_str
str_forms number = (each, refl)
  where
    each : (form : Form) → is_some (is_str form) ≡ is_kind number kinds.Str form
    each Form.str = refl
    each k = refl

pub list_forms : (number : ℤ) → AreForms number kinds.List list_item
list_forms number = (each, refl)
  where
    each : (form : Form) → is_some (list_item form) ≡ is_kind number kinds.List form
    each (Form.list t) = refl
    each k = refl

pub own_forms : (number : ℤ) → AreForms number kinds.Own owned_type
own_forms number = (each, refl)
  where
    each : (form : Form) → is_some (owned_type form) ≡ is_kind number kinds.Own form
    each (Form.own t) = refl
    each k = refl

pub shared_forms : (number : ℤ) → AreForms number kinds.Shared shared_type
shared_forms number = (each, refl)
  where
    each : (form : Form) → is_some (shared_type form) ≡ is_kind number kinds.Shared form
    each (Form.shared t) = refl
    each k = refl

pub holder_forms : (number : ℤ) (x : Class) → AreForms number kinds.Holder (content_known x)
holder_forms number x = (each, refl)
  where
    each : (form : Form) → is_some (content_known x form) ≡ is_kind number kinds.Holder form
    each (Form.own t) = refl
    each (Form.shared t) = refl
    each k = refl

pub sequence_forms : (number : ℤ) → AreForms number kinds.Sequence vec_or_list_item
sequence_forms number = (each, refl)
  where
    each : (form : Form) → is_some (vec_or_list_item form) ≡ is_kind number kinds.Sequence form
    each (Form.vec t) = refl
    each (Form.list t) = refl
    each k = refl

pub item_forms : (number : ℤ) (x : Class) → AreForms number kinds.Indexed (item_known x)
item_forms number x = (each, refl)
  where
    each : (form : Form) → is_some (item_known x form) ≡ is_kind number kinds.Indexed form
    each Form.str = refl
    each (Form.vec t) = refl
    each (Form.list t) = refl
    each k = refl

pub pop_forms : (number : ℤ) → AreForms number kinds.Indexed can_pop
pop_forms number = (each, refl)
  where
    each : (form : Form) → is_some (can_pop form) ≡ is_kind number kinds.Indexed form
    each Form.str = refl
    each (Form.vec t) = refl
    each (Form.list t) = refl
    each k = refl

pub buffered_forms : (number : ℤ) → AreForms number kinds.Buffered can_shrink
buffered_forms number = (each, refl)
  where
    each : (form : Form) → is_some (can_shrink form) ≡ is_kind number kinds.Buffered form
    each Form.str = refl
    each (Form.vec t) = refl
    each (Form.flat_map t) = refl
    each k = refl

pub map_forms : (number : ℤ) → AreForms number kinds.Map is_map
map_forms number = (each, refl)
  where
    each : (form : Form) → is_some (is_map form) ≡ is_kind number kinds.Map form
    each (Form.flat_map t) = refl
    each (Form.map t) = refl
    each k = refl

pub value_forms : (number : ℤ) → AreForms number kinds.Map map_value
value_forms number = (each, refl)
  where
    each : (form : Form) → is_some (map_value form) ≡ is_kind number kinds.Map form
    each (Form.flat_map t) = refl
    each (Form.map t) = refl
    each k = refl

pub sized_forms : (number : ℤ) → AreForms number kinds.Sized has_length
sized_forms number = (each, refl)
  where
    each : (form : Form) → is_some (has_length form) ≡ is_kind number kinds.Sized form
    each Form.i64 = refl
    each (Form.own t) = refl
    each (Form.struct ts) = refl
    each (Form.shared t) = refl
    each k = refl

index_inside : (ts : List ℕ) (n : ℕ) (b : Bool) → nat_lt n (length ts) ≡ b → option_and_then (slice_get ts) (if b then Some n else None) ≡ slice_get ts n
index_inside ts n true e = refl
index_inside ts n false e = sym (slice_get_past ts n (ltb-false n (length ts) e))

field_same : (number : ℤ) (ts : List ℕ) → option_and_then (slice_get ts) (index_below (length ts) number) ≡ field_at number ts
field_same (pos n) ts = index_inside ts n (nat_lt n (length ts)) refl
field_same (negsuc n) ts = refl

pub struct_forms : (number : ℤ) → AreForms number kinds.Struct (field_type number)
struct_forms number = (each, refl)
  where
    each : (form : Form) → is_some (field_type number form) ≡ is_kind number kinds.Struct form
    each (Form.struct ts) = ap is_some (field_same number ts)
    each k = refl

-- ---- the parts

pub owned_part : (number : ℤ) (o : Option Form) (t : ℕ) → option_and_then owned_type o ≡ Some t → option_and_then (part_of number) o ≡ Some t
owned_part number (Some (Form.own u)) t e = e
owned_part number o t e = cc

pub shared_part : (number : ℤ) (o : Option Form) (t : ℕ) → option_and_then shared_type o ≡ Some t → option_and_then (part_of number) o ≡ Some t
shared_part number (Some (Form.shared u)) t e = e
shared_part number o t e = cc

module _ (number : ℤ) (x : Class) where
  -- a part of a value has a reference of the same class
  below : (part : Option ℕ) (t : ℕ) → part ≡ Some t → part_given x part ≡ RegisterType.Reference x t
  below part t e = ap (part_given x) e

  pub sequence_part : (o : Option Form) (t : ℕ) → option_and_then vec_or_list_item o ≡ Some t → part_at number o x ≡ RegisterType.Reference x t
  sequence_part (Some (Form.vec u)) t e = below (Some u) t e
  sequence_part (Some (Form.list u)) t e = below (Some u) t e
  sequence_part o t e = cc

  pub list_part : (o : Option Form) (t : ℕ) → option_and_then list_item o ≡ Some t → part_at number o x ≡ RegisterType.Reference x t
  list_part (Some (Form.list u)) t e = below (Some u) t e
  list_part o t e = cc

  pub value_part : (o : Option Form) (t : ℕ) → option_and_then map_value o ≡ Some t → part_at number o x ≡ RegisterType.Reference x t
  value_part (Some (Form.flat_map u)) t e = below (Some u) t e
  value_part (Some (Form.map u)) t e = below (Some u) t e
  value_part o t e = cc

  pub field_part : (o : Option Form) (t : ℕ) → option_and_then (field_type number) o ≡ Some t → part_at number o x ≡ RegisterType.Reference x t
  field_part (Some (Form.struct ts)) t e = below (field_at number ts) t (sym (field_same number ts) ∙ e)
  field_part o t e = cc

  -- an item of a text is a number
  pub item_part : (o : Option Form) (k : RegisterType) → option_and_then (item_known x) o ≡ Some k → part_at number o x ≡ k
  item_part (Some Form.str) k e = cc
  item_part (Some (Form.vec t)) k e = cc
  item_part (Some (Form.list t)) k e = cc
  item_part o k e = cc

  -- a shared value is only read
  pub content_part : (o : Option Form) (k : RegisterType) → option_and_then (content_known x) o ≡ Some k → part_at number o x ≡ k
  content_part (Some (Form.own t)) k e = cc
  content_part (Some (Form.shared t)) k e = cc
  content_part o k e = cc
