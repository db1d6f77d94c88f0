-- The fields of a struct, checked one after the other.
use Rattle.std.proofs.Common.{◌≡◌, ℕ, suc, ◌+◌, ◌<◌, ◌≤◌, List, [], ◌∷◌, length, take, Option, Some, None, sum_by, refl, sym, ap, ◌∙◌, subst, arith, add_assoc}
use Rattle.std.proofs.lemmas.Option.{slice_get-map}
use Rattle.std.specs.Option.{option_map}
use Rattle.std.specs.Prelude.{slice_get}
use Rattle.seg_spec.specs.Types.{Form, Table, IsTable, form_at, size, Cell, fields_from, fields_by, fields_of}
use Rattle.seg_spec.specs.Reads.{fields}
use Rattle.seg_spec.proofs.Values.PartPositionLaws.{InFields, fields_in}
use Rattle.seg_spec.proofs.Tables.TypeSizeLaws.{size-form}
use Rattle.seg_check.specs.Marks.{Known}
use Rattle.seg_check.specs.Turns.{parts_at}
use Rattle.seg_check.specs.Resolving.{CanResolve, Advances}
use Rattle.seg_layout.specs.Forms.{has_cells}
use Rattle.seg_cells.specs.Contents.{ContentOf}
use Rattle.seg_check.proofs.Queue.QueueStepLaws.{advance_struct, can_struct, advance_number, known_number}
use Rattle.seg_check.proofs.Queue.PlaceLoopLaws.{each_get, place_more, place_past, place_can, place_all}

-- a type with fields is a struct
pub struct_by : (table : Table) (o : Option Form) → 1 ≤ length (fields_by table o) → (Us : List ℕ) × (o ≡ Some (Form.struct Us))
struct_by table (Some (Form.struct Us)) l = (Us, refl)
struct_by table None l = absurd (omega arith)
struct_by table (Some Form.i64) l = absurd (omega arith)
struct_by table (Some Form.str) l = absurd (omega arith)
struct_by table (Some (Form.vec U)) l = absurd (omega arith)
struct_by table (Some (Form.list U)) l = absurd (omega arith)
struct_by table (Some (Form.flat_map U)) l = absurd (omega arith)
struct_by table (Some (Form.map U)) l = absurd (omega arith)
struct_by table (Some (Form.own U)) l = absurd (omega arith)
struct_by table (Some (Form.shared U)) l = absurd (omega arith)

length_parts : (at : ℕ) (cells : List Cell) → length (parts_at at cells) ≡ length cells
length_parts at [] = refl
length_parts at (c ∷ cells) = ap suc (length_parts at cells)

parts_from : (table : Table) (at n : ℕ) (Us : List ℕ) → fields table (at + n) Us ≡ parts_at at (fields_from table n Us)
parts_from table at n [] = refl
parts_from table at n (U ∷ Us) = ap (λ ps. record { at = at + n; type = U } ∷ ps) (ap (λ p. fields table p Us) (add_assoc at n (size table U)) ∙ parts_from table at (n + size table U) Us)

module _ (bytes : List ℕ) (table : Table) (valid : IsTable table) (at T : ℕ) (Us : List ℕ) (f : form_at table T ≡ Some (Form.struct Us)) where
  pub fields_are : fields table at Us ≡ parts_at at (fields_of table T)
  fields_are =
      let z : at ≡ at + 0 = omega arith in
      ap (λ p. fields table p Us) z ∙ parts_from table at 0 Us ∙ ap (λ o. parts_at at (fields_by table o)) (sym f)

  -- a field lies in the struct
  pub field_in : (i : ℕ) (c : Cell) → slice_get (fields_of table T) i ≡ Some c → at + c.from + size table c.type ≤ at + size table T
  field_in i c e =
      let part : slice_get (parts_at at (fields_of table T)) i ≡ Some (record { at = at + c.from; type = c.type }) = slice_get-map (λ (d : Cell). record { at = at + d.from; type = d.type }) (fields_of table T) i
      ∙ ap (option_map (λ (d : Cell). record { at = at + d.from; type = d.type })) e in
      let inside = each_get (InFields table at (sum_by (size table) Us)) (parts_at at (fields_of table T)) i (record { at = at + c.from; type = c.type }) (subst (λ ps. Rattle.std.specs.List.AllByRecursion (InFields table at
      (sum_by (size table) Us)) ps) fields_are (fields_in table at Us)) part in
      let total = size-form table valid T (Form.struct Us) f in
      omega (arith, inside.high)

  module _ (old mid : Known) (i : ℕ) (done : Advances bytes table old mid (take i (parts_at at (fields_of table T)))) where
    part_at : (c : Cell) → slice_get (fields_of table T) i ≡ Some c → slice_get (parts_at at (fields_of table T)) i ≡ Some (record { at = at + c.from; type = c.type })
    part_at c e = slice_get-map (λ (d : Cell). record { at = at + d.from; type = d.type }) (fields_of table T) i ∙ ap (option_map (λ (d : Cell). record { at = at + d.from; type = d.type })) e

    pub field_more : (new : Known) (c : Cell) (x : ℕ) → slice_get (fields_of table T) i ≡ Some c → x ≡ at + c.from → Advances bytes table mid new (record { at = x; type = c.type } ∷ [])
        → Advances bytes table old new (take (i + 1) (parts_at at (fields_of table T)))
    field_more new c x e x_is a = place_more bytes table old mid (parts_at at (fields_of table T)) i done new (record { at = at + c.from; type = c.type }) (part_at c e) (subst (λ y. Advances bytes table mid new
        (record { at = y; type = c.type } ∷ [])) x_is a)

    pub field_past : slice_get (fields_of table T) i ≡ None → Advances bytes table old mid (take (i + 1) (parts_at at (fields_of table T)))
    field_past e = place_past bytes table old mid (parts_at at (fields_of table T)) i done (slice_get-map (λ (d : Cell). record { at = at + d.from; type = d.type }) (fields_of table T) i
        ∙ ap (option_map (λ (d : Cell). record { at = at + d.from; type = d.type })) e)

    pub field_can : (c : Cell) (x : ℕ) → slice_get (fields_of table T) i ≡ Some c → x ≡ at + c.from → CanResolve bytes table old (record { at = at; type = T } ∷ [])
        → CanResolve bytes table mid (record { at = x; type = c.type } ∷ [])
    field_can c x e x_is r =
        subst (λ y. CanResolve bytes table mid (record { at = y; type = c.type } ∷ [])) (sym x_is)
        (place_can bytes table old mid (parts_at at (fields_of table T)) i done (record { at = at + c.from; type = c.type }) (part_at c e)
        (subst (λ ps. CanResolve bytes table old ps) fields_are (can_struct bytes table old at T Us f r)))

    pub fields_all : length (fields_of table T) ≤ i → Advances bytes table old mid (record { at = at; type = T } ∷ [])
    fields_all past =
        let long : length (parts_at at (fields_of table T)) ≡ length (fields_of table T) = length_parts at (fields_of table T) in
        advance_struct bytes table old mid at T Us f (subst (λ ps. Advances bytes table old mid ps) (sym fields_are) (place_all bytes table old mid (parts_at at (fields_of table T)) i done (omega arith)))

-- ---- types whose values have labels that refer to no object

known_form : (bytes : List ℕ) (table : Table) (T : ℕ) → T < length table → form_at table T ≡ None → ⊥
known_form bytes table T known e = let number : form_at table T ≡ Some Form.i64 = known_number bytes table T known (ap has_cells e) in cc

pub no_cell : (bytes : List ℕ) (table : Table) (valid : IsTable table) (known : Known) (at T : ℕ) → T < length table → length (fields_of table T) ≡ 0 → ((U : ℕ) → form_at table T ≡ Some (Form.shared U) → ⊥)
    → (o : Option Form) → form_at table T ≡ o → ContentOf table T o None
    → Advances bytes table known known (record { at = at; type = T } ∷ [])
no_cell bytes table valid known at T l none unshared None f c = absurd (known_form bytes table T l f)
no_cell bytes table valid known at T l none unshared (Some Form.i64) f c = advance_number bytes table known (record { at = at; type = T }) f
no_cell bytes table valid known at T l none unshared (Some (Form.struct [])) f c = absurd (omega (arith, (valid.forms T (Form.struct []) f).0))
no_cell bytes table valid known at T l none unshared (Some (Form.struct (U ∷ Us))) f c =
    let long : length (fields_of table T) ≡ suc (length (fields_from table (0 + size table U) Us)) = ap (λ o. length (fields_by table o)) f in
    absurd (omega arith)
no_cell bytes table valid known at T l none unshared (Some Form.str) f c = absurd c
no_cell bytes table valid known at T l none unshared (Some (Form.vec U)) f c = absurd c
no_cell bytes table valid known at T l none unshared (Some (Form.list U)) f c = absurd c
no_cell bytes table valid known at T l none unshared (Some (Form.flat_map U)) f c = absurd c
no_cell bytes table valid known at T l none unshared (Some (Form.map U)) f c = absurd c
no_cell bytes table valid known at T l none unshared (Some (Form.own U)) f c = absurd c
no_cell bytes table valid known at T l none unshared (Some (Form.shared U)) f c = absurd (unshared U f)
