-- Named and unique objects keep their positions, types and numbers of values.
use Rattle.std.proofs.Common.{◌≡◌, ℕ, ◌⊎◌, inl, inr, List, Option, Some, None, refl, sym, ◌∙◌, ap, subst}
use Rattle.std.specs.Prelude.{option_map}
use Rattle.seg_spec.specs.Index.{Root, root_named, root_of_type}
use Rattle.seg_spec.specs.Roots.{HasFace}
use Rattle.seg_spec.specs.Sound.{Picture}
use Rattle.client_spec.specs.Machine.{Origin, State}
use Rattle.client_spec.specs.Ties.{ObjectsStay}
use Rattle.client_spec.proofs.TypedStates.ValueLaws.{Some_inj}
use Rattle.client_sim.proofs.Objects.PictureLaws.{Looks, root_in}
use Rattle.client_sim.proofs.Places.RootPutLaws.{root_of_pair}

pub face_same : (root : Root) → HasFace root root
face_same root = record { same_name = refl; same_words = refl; same_at = refl; same_type = refl; same_count = refl }

pub face_then : {a b c : Root} → HasFace a b → HasFace b c → HasFace a c
face_then f g = record {
  same_name = g.same_name ∙ f.same_name;
  same_words = g.same_words ∙ f.same_words;
  same_at = g.same_at ∙ f.same_at;
  same_type = g.same_type ∙ f.same_type;
  same_count = g.same_count ∙ f.same_count;
}

-- pictures with the same names and unique objects
pub objects_alike : {p q : Picture} → q.names ≡ p.names → q.uniques ≡ p.uniques → ObjectsStay p q
objects_alike names uniques = record {
  names = λ name a b was is. one a b (sym was ∙ ap (λ roots. root_named roots name) (sym names) ∙ is);
  uniques = λ T a b was is. one a b (sym was ∙ ap (λ roots. root_of_type roots T) (sym uniques) ∙ is);
}
  where
    one : (a b : Root) → Some a ≡ Some b → HasFace a b
    one a b e = subst (HasFace a) (Some_inj e) (face_same a)

pub objects_same : {p q : Picture} → q ≡ p → ObjectsStay p q
objects_same e = objects_alike (ap (λ (p : Picture). p.names) e) (ap (λ (p : Picture). p.uniques) e)

module _ {others : List Root} {s s' : State} (before : Looks others s) (later : Looks others s') (Ends : Origin → Type 0) where
  -- the root of each origin stays, unless the origin ends
  abbrev pub RootsStay : Type 0
  RootsStay = (o : Origin) (r : Root) (i : ℕ) → root_in before o ≡ Some (r, i) → Ends o ⊎ ((q : Root) × (root_in later o ≡ Some (q, i)) × HasFace r q)

  -- an origin that ends has no root afterwards
  pub objects_at : RootsStay → ((name : List ℕ) → Ends (Origin.Name name 0) → root_named later.picture.names name ≡ None)
      → ((T : ℕ) → Ends (Origin.Unique T) → root_of_type later.picture.uniques T ≡ None) → ObjectsStay before.picture later.picture
  objects_at stay no_name no_unique = record {
    names = λ name a b was is. elim (stay (Origin.Name name 0) a 0 (ap (option_map {T = Root} {U = Root × ℕ} (λ root. (root, 0))) was)) [
      | inl ends ↦ absurd (let e : None ≡ Some b = sym (no_name name ends) ∙ is in cc)
      | inr f ↦ there a b f.0 _ is f.1 f.2
    ];
    uniques = λ T a b was is. elim (stay (Origin.Unique T) a 0 (ap (option_map {T = Root} {U = Root × ℕ} (λ root. (root, 0))) was)) [
      | inl ends ↦ absurd (let e : None ≡ Some b = sym (no_unique T ends) ∙ is in cc)
      | inr f ↦ there a b f.0 _ is f.1 f.2
    ];
  }
    where
      there : (a b q : Root) (o : Option Root) → o ≡ Some b → option_map {T = Root} {U = Root × ℕ} (λ root. (root, 0)) o ≡ Some (q, 0) → HasFace a q → HasFace a b
      there a b q o is found face = subst (HasFace a) (Some_inj (sym (root_of_pair o 0 q 0 found).0 ∙ is)) face
