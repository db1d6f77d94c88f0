-- A world that represents a state still does if less is known.
use Rattle.std.proofs.Common.{◌≡◌, ℕ, List, Option, Bool, true, false, refl, sym, ap, ◌∙◌, subst, inl, inr, length}
use Rattle.std.proofs.lemmas.List.{length-map}
use Rattle.std.specs.Prelude.{◌⊎◌, if◌then◌else◌}
use Rattle.seg_spec.specs.Types.{Table}
use Rattle.seg_spec.specs.Index.{Root}
use Rattle.client_spec.specs.Syntax.{Constant}
use Rattle.client_spec.specs.Machine.{Register, State, register}
use Rattle.client_spec.specs.Typed.{Class, RegisterType, RegisterTypes, known, is_owner, same_class, sharing, without_class}
use Rattle.client_spec.specs.Meaning.{Meets, IsAsKnown}
use Rattle.client_spec.specs.Pictures.{Pictures}
use Rattle.client_spec.specs.Bare.{bare, bare_one}
use Rattle.client_spec.proofs.Rows.BareLaws.{known_bare, bare_owner}
use Rattle.client_spec.proofs.TypedStates.StateLaws.{not_owner}
use Rattle.client_sim.specs.Shows.{World, Shown, Shows, owns_in}
use Rattle.client_sim.specs.Seeing.{Sees}

-- ---- less is known of one register

-- the same is known, or nothing of a register that owns nothing
abbrev pub IsLess : RegisterType → RegisterType → Type 0
IsLess k m = (m ≡ k) ⊎ ((m ≡ RegisterType.Undefined) × (is_owner k ≡ false))

less_bare : (k m : RegisterType) → IsLess k m → IsLess (bare_one k) (bare_one m)
less_bare k m (inl e) = inl (ap bare_one e)
less_bare k m (inr e) = inr (ap bare_one e.0, bare_owner k ∙ e.1)

meets_less : (constants : List Constant) (s : State) (k m : RegisterType) (x : Register) → IsLess k m → Meets constants s k x → Meets constants s m x
meets_less constants s k m x (inl e) h = subst (λ z. Meets constants s z x) (sym e) h
meets_less constants s k m x (inr e) h = subst (λ z. Meets constants s z x) (sym e.0) (not_owner constants s k x e.1 h)

module _ {others : List Root} {s : State} {bytes : List ℕ} (pictured : Pictures others s bytes) (w : World) (r : ℕ) (x : Register) where
  shown_free : (k : RegisterType) → is_owner k ≡ false → Shown pictured w r k x → owns_in w r ≡ false
  shown_free RegisterType.Undefined e m = m
  shown_free RegisterType.Int e m = m.0
  shown_free (RegisterType.Reference class T) e m = m.0
  shown_free (RegisterType.Owner T) e m = cc

  shown_less : (k m : RegisterType) → IsLess k m → Shown pictured w r k x → Shown pictured w r m x
  shown_less k m (inl e) h = subst (λ z. Shown pictured w r z x) (sym e) h
  shown_less k m (inr e) h = subst (λ z. Shown pictured w r z x) (sym e.0) (shown_free k e.1 h)

pub less_then : (k l m : RegisterType) → IsLess k l → IsLess l m → IsLess k m
less_then k l m (inl e) (inl f) = inl (f ∙ e)
less_then k l m (inl e) (inr f) = inr (f.0, ap is_owner (sym e) ∙ f.1)
less_then k l m (inr e) (inl f) = inr (f ∙ e.0, e.1)
less_then k l m (inr e) (inr f) = inr (f.0, e.1)

pub less_without : (class : Class) (k : RegisterType) → IsLess k (without_class class k)
less_without class RegisterType.Undefined = inl refl
less_without class RegisterType.Int = inl refl
less_without class (RegisterType.Owner T) = inl refl
less_without class (RegisterType.Reference x T) = choose (same_class class (sharing x))
  where
    choose : (b : Bool) → IsLess (RegisterType.Reference x T) (if b then RegisterType.Undefined else RegisterType.Reference x T)
    choose true = inr (refl, refl)
    choose false = inl refl

-- ---- less is known of all registers

pub record Less (ks after : RegisterTypes) : Type 0 where
  pub count : length after ≡ length ks
  pub each : (r : ℕ) → IsLess (known ks r) (known after r)

bare_less : (ks after : RegisterTypes) → Less ks after → Less (bare ks) (bare after)
bare_less ks after less = record {
  count = length-map after bare_one ∙ less.count ∙ sym (length-map ks bare_one);
  each = λ r. subst (λ m. IsLess (known (bare ks) r) m) (sym (known_bare after r)) (subst (λ k. IsLess k (bare_one (known after r))) (sym (known_bare ks r)) (less_bare (known ks r) (known after r) (less.each r)));
}

module _ (types : Table) (constants : List Constant) (ks after : RegisterTypes) (less : Less ks after) where
  known_less : (s : State) → IsAsKnown types constants ks s → IsAsKnown types constants after s
  known_less s h = record {
    count = h.count ∙ sym less.count;
    each = λ r. meets_less constants s (known ks r) (known after r) (register s r) (less.each r) (h.each r);
    typed = h.typed;
    same_types = h.same_types;
  }

  shows_less : (others : List Root) (first : Option (List ℕ)) (allocator : ℕ) (s : State) (w : World) → Shows others types constants first allocator ks s w → Shows others types constants first allocator after s w
  shows_less others first allocator s w h = record {
    pictured = h.pictured;
    as_known = known_less s h.as_known;
    sixteen = less.count ∙ h.sixteen;
    registers = h.registers;
    shown = λ r. shown_less h.pictured w r (register s r) (known ks r) (known after r) (less.each r) (h.shown r);
    table_is = h.table_is;
    input_is = h.input_is;
    took = h.took;
    allocator_is = h.allocator_is;
  }

  -- a reference that is read-only afterwards was read-only before
  read_before : (r : ℕ) (x : Class) (T : ℕ) → known after r ≡ RegisterType.Reference (Class.Frozen x) T → known ks r ≡ RegisterType.Reference (Class.Frozen x) T
  read_before r x T k = elim (less.each r) [
    | inl e ↦ sym e ∙ k
    | inr e ↦ absurd (let f : RegisterType.Undefined ≡ RegisterType.Reference (Class.Frozen x) T = sym e.0 ∙ k in cc)
  ]

module _ (others : List Root) (types : Table) (constants : List Constant) (first : Option (List ℕ)) (allocator : ℕ) where
  pub sees_less : (ks after : RegisterTypes) (t : State) (w : World) → Less ks after → Sees others types constants first allocator ks t w → Sees others types constants first allocator after t w
  unfolding shows_less
  sees_less ks after t w less h = record {
    plain = h.plain;
    shows = shows_less types constants (bare ks) (bare after) (bare_less ks after less) others first allocator h.plain w h.shows;
    trees = h.trees;
    as_known = known_less types constants ks after less t h.as_known;
    anchored = λ r x T k. h.anchored r x T (read_before types constants ks after less r x T k);
  }

  pub less_picture : (ks after : RegisterTypes) (t : State) (w : World) (less : Less ks after) (h : Sees others types constants first allocator ks t w)
      → (sees_less ks after t w less h).shows.pictured.picture ≡ h.shows.pictured.picture
  unfolding sees_less shows_less
  less_picture ks after t w less h = refl
