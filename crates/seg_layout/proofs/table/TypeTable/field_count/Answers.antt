use Rattle.std.proofs.Common.{◌≡◌, ℕ, suc, ◌+◌, ap, ◌∙◌, sym, refl, Some, List, [], ◌∷◌, length}
use Rattle.seg_spec.specs.Types.{Table, size, fields_by, fields_from}
use Rattle.seg_layout.specs.Forms.{form_of}
use Rattle.seg_layout.proofs.table.TypeTable.field_count.Goals as goal

length_fields : (table : Table) (n : ℕ) (Us : List ℕ) → length (fields_from table n Us) ≡ length Us
length_fields table n [] = refl
length_fields table n (U ∷ Us) = ap suc (length_fields table (n + size table U) Us)

pub returns-clause-count : goal.returns-clause-count
returns-clause-count c =
    let table = c.args.self.now in
    c.len.ensures.len ∙ sym (length_fields table 0 c.in-Struct.fields) ∙
    ap (λ o. length (fields_by table o)) (sym (c.in-Some.ensures ∙ ap (λ kind. Some (form_of kind)) c.in-Struct.is))
