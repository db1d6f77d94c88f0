-- A shared cell that points to an object: how it opens, and its value.
use Rattle.std.proofs.Common.{◌≡◌, ℕ, ◌≤◌, List, [], ◌∷◌, ◌++◌, length, Some, option_map, option_to_list, refl, sym, ap, ◌∙◌, subst, arith}
use Rattle.seg_spec.specs.Pointer.{target}
use Rattle.seg_spec.specs.Types.{Form, Table, form_at}
use Rattle.seg_spec.specs.Value.{Label, Value, Values, node, nil}
use Rattle.seg_spec.specs.Block.{block_of}
use Rattle.seg_spec.specs.Reads.{Place, Opened, Opens, Holds, holds, HoldsEach, holds_none, holds_more, count_at, shared_label}
use Rattle.seg_spec.specs.Shared.{names_in}
use Rattle.test_definitions.specs.Alike.{AlikeAt, opens_alike, none_alike}
use Rattle.test_definitions.proofs.ValueChanges.OwnCellLaws.{one_form}

abbrev sharing : ℕ → ℕ → Opened
sharing at T = record { label = Label.shared T at; blocks = []; parts = [] }

pub shared_names : (T at : ℕ) → names_in (node (Label.shared T at) nil) ≡ record { at = at; type = T } ∷ []
unfolding names_in
shared_names T at = refl

module _ (bytes : List ℕ) (table : Table) where
  opens_sharing : (place : Place) (T at : ℕ) (opened : Opened) → Opens bytes table place (Form.shared T) opened → target bytes place.at ≡ Some at → opened ≡ sharing at T
  opens_sharing place T at opened o e = o.opened_is ∙ (λ j. record { label = shared_label T (e j); blocks = []; parts = [] })

  counts_one : (place : Place) (T at : ℕ) (opened : Opened) → Opens bytes table place (Form.shared T) opened → target bytes place.at ≡ Some at → count_at bytes place.at ≡ 1
  counts_one place T at opened o e = o.counted ∙ ap (λ t. length (option_to_list (option_map block_of t))) e

  pub shared_in : {place : Place} {v : Value} {blocks : List ℕ} (T at : ℕ) → form_at table place.type ≡ Some (Form.shared T) → target bytes place.at ≡ Some at → Holds bytes table place v blocks
      → (v ≡ node (Label.shared T at) nil) × (blocks ≡ [])
  shared_in {place = place} T at f e (holds form opened inside owned g o hs v_is blocks_are) =
      let opens = subst (λ (k : Form). Opens bytes table place k opened) (one_form table place form (Form.shared T) g f) o in
      let is = opens_sharing place T at opened opens e in
      let none = no_values (ap (λ (x : Opened). x.parts) is) hs in
      (v_is ∙ (λ j. node (is j).label (none.0 j)), blocks_are ∙ (λ j. (is j).blocks ++ none.1 j))
    where
      no_values : {ps : List Place} {vs : Values} {owned : List ℕ} → ps ≡ [] → HoldsEach bytes table ps vs owned → (vs ≡ nil) × (owned ≡ [])
      no_values e holds_none = (refl, refl)
      no_values e (holds_more h hs) = cc

  -- the object's payload isn't at the beginning of the image
  pub shared_low : {place : Place} {v : Value} {blocks : List ℕ} (T at : ℕ) → form_at table place.type ≡ Some (Form.shared T) → target bytes place.at ≡ Some at → Holds bytes table place v blocks → 16 ≤ at
  shared_low {place = place} T at f e (holds form opened inside owned g o hs v_is blocks_are) =
      let opens : Opens bytes table place (Form.shared T) opened = subst (λ (k : Form). Opens bytes table place k opened) (one_form table place form (Form.shared T) g f) o in
      let payload = opens.payload at e in
      omega (arith, payload.low)

-- cells that point to one object are alike
pub sharing_alike : (first second : List ℕ) (table : Table) (place : Place) (T : ℕ) → form_at table place.type ≡ Some (Form.shared T) → (at : ℕ) {v w : Value} {xs ys : List ℕ} → target first place.at ≡ Some at
    → target second place.at ≡ Some at
    → Holds first table place v xs → Holds second table place w ys → AlikeAt first second table place
sharing_alike first second table place T f at e e' (holds form a inside owned g o hs v_is xs_are) (holds form' b inside' owned' g' o' hs' w_is ys_are) =
    let opens = subst (λ (k : Form). Opens first table place k a) (one_form table place form (Form.shared T) g f) o in
    let opens' = subst (λ (k : Form). Opens second table place k b) (one_form table place form' (Form.shared T) g' f) o' in
    let mine = opens_sharing first table place T at a opens e in
    let theirs = opens_sharing second table place T at b opens' e' in
    opens_alike (Form.shared T) (sharing at T) f (subst (λ (x : Opened). Opens first table place (Form.shared T) x) mine opens) (subst (λ (x : Opened). Opens second table place (Form.shared T) x) theirs opens')
    (λ c. counts_one second table place T at b opens' e' ∙ sym (counts_one first table place T at a opens e)) none_alike
