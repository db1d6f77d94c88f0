-- Registers that own objects: in the state that an image pictures, and as clients see them.
use Rattle.std.specs.Prelude.{slice_index_or, slice_set}
use Rattle.std.proofs.Common.{◌≡◌, ℕ, zero, suc, ◌⊎◌, inl, inr, List, [], ◌∷◌, Some, refl, sym, ap, ◌∙◌, subst}
use Rattle.seg_spec.specs.Bytes.{word}
use Rattle.seg_spec.specs.Header.{next_word}
use Rattle.seg_spec.specs.Value.{Value, nil, cons}
use Rattle.seg_spec.specs.Index.{Root}
use Rattle.seg_spec.specs.Shared.{replaced}
use Rattle.client_spec.specs.Machine.{Register, State, register}
use Rattle.client_spec.specs.Trees.{unfolded_register}
use Rattle.client_spec.specs.Pictures.{AreOwned, root_of_register, PicturesTrees, meaning_in}
use Rattle.client_spec.proofs.Unfolded.UnfoldedStateLaws.{register_same}
use Rattle.test_definitions.proofs.Alike.RootMemberLaws.{IsAmong}

pub record OwnsAt (xs : List Register) (r : ℕ) (root : Root) : Type 0 where
  pub value : Value
  pub is : slice_index_or xs r Register.Undefined ≡ Register.Owner value root.type
  pub values_are : root.values ≡ cons value nil

later_owns : (x : Register) (xs : List Register) (r : ℕ) (root : Root) → OwnsAt xs r root → OwnsAt (x ∷ xs) (suc r) root
later_owns x xs r root k = record { value = k.value; is = k.is; values_are = k.values_are }

pub owns_at : (xs : List Register) (roots : List Root) → AreOwned xs roots → (r : ℕ) (root : Root) → root_of_register xs roots r ≡ Some root → OwnsAt xs r root
owns_at [] roots o r root e = cc
owns_at (Register.Owner v t ∷ xs) [] o r root e = absurd o
owns_at (Register.Owner v t ∷ xs) (a ∷ roots) o zero root e =
    let same : a ≡ root = cc in
    subst (OwnsAt (Register.Owner v t ∷ xs) zero) same (record { value = v; is = ap (λ (T : ℕ). Register.Owner v T) (sym o.0); values_are = o.1 })
owns_at (Register.Owner v t ∷ xs) (a ∷ roots) o (suc r) root e = later_owns (Register.Owner v t) xs r root (owns_at xs roots o.2 r root e)
owns_at (Register.Undefined ∷ xs) roots o zero root e = cc
owns_at (Register.Undefined ∷ xs) roots o (suc r) root e = later_owns Register.Undefined xs r root (owns_at xs roots o r root e)
owns_at (Register.Int k ∷ xs) roots o zero root e = cc
owns_at (Register.Int k ∷ xs) roots o (suc r) root e = later_owns (Register.Int k) xs r root (owns_at xs roots o r root e)
owns_at (Register.Reference p ∷ xs) roots o zero root e = cc
owns_at (Register.Reference p ∷ xs) roots o (suc r) root e = later_owns (Register.Reference p) xs r root (owns_at xs roots o r root e)

root_there : (xs : List Register) (roots : List Root) → AreOwned xs roots → (r : ℕ) (v : Value) (t : ℕ) → slice_index_or xs r Register.Undefined ≡ Register.Owner v t → (root : Root) × (root_of_register xs roots r ≡ Some root)
root_there [] roots o r v t e = cc
root_there (Register.Owner w u ∷ xs) [] o r v t e = absurd o
root_there (Register.Owner w u ∷ xs) (a ∷ roots) o zero v t e = (a, refl)
root_there (Register.Owner w u ∷ xs) (a ∷ roots) o (suc r) v t e = root_there xs roots o.2 r v t e
root_there (Register.Undefined ∷ xs) roots o zero v t e = cc
root_there (Register.Undefined ∷ xs) roots o (suc r) v t e = root_there xs roots o r v t e
root_there (Register.Int k ∷ xs) roots o zero v t e = cc
root_there (Register.Int k ∷ xs) roots o (suc r) v t e = root_there xs roots o r v t e
root_there (Register.Reference p ∷ xs) roots o zero v t e = cc
root_there (Register.Reference p ∷ xs) roots o (suc r) v t e = root_there xs roots o r v t e

pub register_with : (xs : List Register) (roots : List Root) → AreOwned xs roots → (c : Root) → IsAmong c roots → (r : ℕ) × (root_of_register xs roots r ≡ Some c)
register_with [] [] o c i = absurd i
register_with [] (a ∷ roots) o c i = absurd o
register_with (Register.Owner v t ∷ xs) [] o c i = absurd i
register_with (Register.Owner v t ∷ xs) (a ∷ roots) o c (inl e) = (0, ap (λ (x : Root). Some x) (sym e))
register_with (Register.Owner v t ∷ xs) (a ∷ roots) o c (inr i) = (let k = register_with xs roots o.2 c i in (suc k.0, k.1))
register_with (Register.Undefined ∷ xs) roots o c i = (let k = register_with xs roots o c i in (suc k.0, k.1))
register_with (Register.Int n ∷ xs) roots o c i = (let k = register_with xs roots o c i in (suc k.0, k.1))
register_with (Register.Reference p ∷ xs) roots o c i = (let k = register_with xs roots o c i in (suc k.0, k.1))

pub set_cases : (xs : List Register) (a r : ℕ) (x : Register)
    → ((r ≡ a) × (slice_index_or (slice_set xs a x) r Register.Undefined ≡ x)) ⊎ (slice_index_or (slice_set xs a x) r Register.Undefined ≡ slice_index_or xs r Register.Undefined)
set_cases [] a r x = inr refl
set_cases (y ∷ ys) zero zero x = inl (refl, refl)
set_cases (y ∷ ys) zero (suc r) x = inr refl
set_cases (y ∷ ys) (suc a) zero x = inr refl
set_cases (y ∷ ys) (suc a) (suc r) x = elim (set_cases ys a r x) [ inl k ↦ inl (ap suc k.0, k.1) | inr k ↦ inr k ]

owner_under : (m : ℕ → Value) (x : Register) (v : Value) (t : ℕ) → unfolded_register m x ≡ Register.Owner v t → (w : Value) × (x ≡ Register.Owner w t)
owner_under m Register.Undefined v t e = cc
owner_under m (Register.Int k) v t e = cc
owner_under m (Register.Reference p) v t e = cc
owner_under m (Register.Owner w u) v t e = (w, (let same : u ≡ t = cc in ap (λ (T : ℕ). Register.Owner w T) same))

module _ {others : List Root} (s : State) (bytes : List ℕ) (p : PicturesTrees others s bytes) where
  pub seen_register : (r : ℕ) → register s r ≡ unfolded_register (meaning_in (word bytes next_word) p.pictured.picture) (register p.plain r)
  seen_register r = ap (λ (z : State). register z r) p.trees ∙ register_same (meaning_in (word bytes next_word) p.pictured.picture) p.plain r

  -- a register that owns an object, as clients see it
  pub owner_seen : (r : ℕ) (d : Root) → root_of_register p.plain.registers p.pictured.owned r ≡ Some d
      → (v : Value) × (register s r ≡ Register.Owner (replaced (meaning_in (word bytes next_word) p.pictured.picture) v) d.type) × (d.values ≡ cons v nil)
  owner_seen r d e =
      let k = owns_at p.plain.registers p.pictured.owned p.pictured.are_owned r d e in
      (k.value, seen_register r ∙ ap (unfolded_register (meaning_in (word bytes next_word) p.pictured.picture)) k.is, k.values_are)

  pub root_seen : (r : ℕ) (v : Value) (t : ℕ) → register s r ≡ Register.Owner v t → (d : Root) × (root_of_register p.plain.registers p.pictured.owned r ≡ Some d)
  root_seen r v t e =
      let u = owner_under (meaning_in (word bytes next_word) p.pictured.picture) (register p.plain r) v t (sym (seen_register r) ∙ e) in
      root_there p.plain.registers p.pictured.owned p.pictured.are_owned r u.0 t u.1
