use Rattle.std.proofs.Common.{◌≡◌, ℕ, Some, refl, subst}
use Rattle.seg_spec.specs.Types.{Form, form_at}
use Rattle.seg_layout.specs.Forms.{form_of}
use Rattle.seg_layout.specs.declared.kind.«Type».{«Type»}
use Rattle.seg_layout.specs.declared.kind.«Type».TheVariants as kind
use Rattle.seg_cells.specs.Contents.{ContentOf}
use Rattle.seg_check.proofs.Contents.StructLaws.{no_cell}
use Rattle.seg_check.proofs.image.TypedImage.check_cell.Goals as goal

pub returns-in_default-of-clause-steps : goal.returns-in_default-of-clause-steps
returns-in_default-of-clause-steps g c = λ ready known none lies.
    let table = c.args.self.now.types.now in
    let T = c.args.place.type_id in
    let form : form_at table T ≡ Some (form_of c.in-Some.kind) = c.in-Some.ensures in
    no_cell c.args.self.now.bytes.bytes.now table ready.is_table c.args.claims.now c.args.place.at T known none (unshared c.in-Some.kind form c.in_default-kind.not-Shared) (form_at table T) refl
    (subst (ContentOf table T (form_at table T)) c.in_default-of.is c.of.ensures)
  where
    unshared : (k : «Type») → form_at c.args.self.now.types.now c.args.place.type_id ≡ Some (form_of k) → ((x : ℕ) → k ≡ kind.Shared x → ⊥) → (U : ℕ) → form_at c.args.self.now.types.now c.args.place.type_id ≡ Some (Form.shared U) → ⊥
    unshared k form other U e = go k (let same : form_of k ≡ Form.shared U = cc in same) other
      where
        go : (k : «Type») → form_of k ≡ Form.shared U → ((x : ℕ) → k ≡ kind.Shared x → ⊥) → ⊥
        go kind.I64 e other = cc
        go kind.Str e other = cc
        go (kind.Vec x) e other = cc
        go (kind.List x) e other = cc
        go (kind.FlatMap x) e other = cc
        go (kind.Map x) e other = cc
        go (kind.Own x) e other = cc
        go (kind.Struct x) e other = cc
        go (kind.Shared x) e other = other x refl
