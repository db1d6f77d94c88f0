-- Classes of references are disjoint; and what is known after a class has ended.
use Rattle.std.proofs.Common.{◌≡◌, ◌≢◌, ℕ, zero, suc, List, [], ◌∷◌, length, Some, refl, sym, ◌∙◌, ap, subst, inl, inr, true, false, Bool}
use Rattle.std.specs.Prelude.{◌⊎◌, slice_get, if◌then◌else◌}
use Rattle.std.proofs.lemmas.Bool.{eq-eqb}
use Rattle.seg_spec.specs.Value.{Value}
use Rattle.seg_spec.specs.Value as values
use Rattle.seg_spec.specs.Types.{Table}
use Rattle.client_spec.specs.Syntax.{Constant}
use Rattle.client_spec.specs.Machine.{Origin, Path, Register, State, register, owned_by, at_origin, put_origin, put_at}
use Rattle.client_spec.specs.Typed.{Class, RegisterType, RegisterTypes, known, same_class, sharing, without_class, ended, others_ended}
use Rattle.client_spec.specs.Meaning.{IsNamedBy, BeginsIn, InClass, LeadsToType, Meets, IsAsKnown}
use Rattle.client_spec.proofs.TypedStates.ValueLaws.{bind_some, length_set}
use Rattle.client_spec.proofs.TypedStates.StateLaws.{slots, leads_same, meets_at, origin_put}
use Rattle.client_spec.proofs.TypedStates.PutLaws.{put_types, put_at_is}

-- At most one constant spells a name.
pub record OneEach (constants : List Constant) : Type 0 where
  pub one : (k l : ℕ) (name : List ℕ) → IsNamedBy (slice_get constants k) name → IsNamedBy (slice_get constants l) name → k ≡ l

-- so an origin is in only one class, besides the class of its frozen objects
begins_once : (constants : List Constant) → OneEach constants → (r : Origin) (c d : Class) → BeginsIn constants c r → BeginsIn constants d r → c ≡ d
begins_once constants o (Origin.Name n i) (Class.Name k) (Class.Name l) h g = ap Class.Name (o.one k l n h g)
begins_once constants o (Origin.Name n i) (Class.Name k) (Class.Unique u) h g = absurd g
begins_once constants o (Origin.Name n i) (Class.Name k) (Class.Register q) h g = absurd g
begins_once constants o (Origin.Name n i) (Class.Name k) (Class.Frozen y) h g = absurd g
begins_once constants o (Origin.Name n i) (Class.Unique t) d h g = absurd h
begins_once constants o (Origin.Name n i) (Class.Frozen x) d h g = absurd h
begins_once constants o (Origin.Name n i) (Class.Register t) d h g = absurd h
begins_once constants o (Origin.Unique w) (Class.Unique t) (Class.Unique u) h g = ap Class.Unique (h ∙ sym g)
begins_once constants o (Origin.Unique w) (Class.Unique t) (Class.Name u) h g = absurd g
begins_once constants o (Origin.Unique w) (Class.Unique t) (Class.Register u) h g = absurd g
begins_once constants o (Origin.Unique w) (Class.Unique t) (Class.Frozen y) h g = absurd g
begins_once constants o (Origin.Unique w) (Class.Name t) d h g = absurd h
begins_once constants o (Origin.Unique w) (Class.Frozen x) d h g = absurd h
begins_once constants o (Origin.Unique w) (Class.Register t) d h g = absurd h
begins_once constants o (Origin.Owned w) (Class.Register t) (Class.Register u) h g = ap Class.Register (h ∙ sym g)
begins_once constants o (Origin.Owned w) (Class.Register t) (Class.Name u) h g = absurd g
begins_once constants o (Origin.Owned w) (Class.Register t) (Class.Unique u) h g = absurd g
begins_once constants o (Origin.Owned w) (Class.Register t) (Class.Frozen y) h g = absurd g
begins_once constants o (Origin.Owned w) (Class.Name t) d h g = absurd h
begins_once constants o (Origin.Owned w) (Class.Frozen x) d h g = absurd h
begins_once constants o (Origin.Owned w) (Class.Unique t) d h g = absurd h

same_class_refl : (c : Class) → same_class c c ≡ true
same_class_refl (Class.Name k) = eq-eqb k k refl
same_class_refl (Class.Unique k) = eq-eqb k k refl
same_class_refl (Class.Register k) = eq-eqb k k refl
same_class_refl (Class.Frozen x) = same_class_refl x

-- origins in two classes differ
pub origins_apart : (constants : List Constant) → OneEach constants → (c d : Class) (r q : Origin) → same_class (sharing c) (sharing d) ≡ false → InClass constants c r → InClass constants d q → r ≢ q
origins_apart constants o c d r q f h g e =
    let same : sharing c ≡ sharing d = begins_once constants o q (sharing c) (sharing d) (subst (λ x. InClass constants c x) e h) g in
    let t : same_class (sharing c) (sharing d) ≡ true = ap (same_class (sharing c)) (sym same) ∙ same_class_refl (sharing c) in
    absurd (let x : true ≡ false = sym t ∙ f in cc)

-- what is known after a class has ended
pub known_ended : (class : Class) (ks : RegisterTypes) (r : ℕ) → known (ended class ks) r ≡ without_class class (known ks r)
known_ended class [] r = refl
known_ended class (k ∷ ks) zero = refl
known_ended class (k ∷ ks) (suc r) = known_ended class ks r

length_ended : (class : Class) (ks : RegisterTypes) → length (ended class ks) ≡ length ks
length_ended class [] = refl
length_ended class (k ∷ ks) = ap suc (length_ended class ks)

meets_without : (constants : List Constant) (s : State) (class : Class) (k : RegisterType) (x : Register) → Meets constants s k x → Meets constants s (without_class class k) x
meets_without constants s class RegisterType.Undefined x m = m
meets_without constants s class RegisterType.Int x m = m
meets_without constants s class (RegisterType.Owner t) x m = m
meets_without constants s class (RegisterType.Reference c t) x m = choose (same_class class (sharing c)) refl
  where
    choose : (b : Bool) → same_class class (sharing c) ≡ b → Meets constants s (without_class class (RegisterType.Reference c t)) x
    choose true e = meets_at constants s (ap (λ b. if b then RegisterType.Undefined else RegisterType.Reference c t) e) refl (ap owned_by m.is)
    choose false e = meets_at constants s (ap (λ b. if b then RegisterType.Undefined else RegisterType.Reference c t) e) refl m

-- a reference that stays known after a class has ended is of another class
pub still_known : (class c : Class) (k : RegisterType) (t : ℕ) → without_class class k ≡ RegisterType.Reference c t → (k ≡ RegisterType.Reference c t) × (same_class class (sharing c) ≡ false)
still_known class c RegisterType.Undefined t e = cc
still_known class c RegisterType.Int t e = cc
still_known class c (RegisterType.Owner u) t e = cc
still_known class c (RegisterType.Reference d u) t e = choose (same_class class (sharing d)) refl e
  where
    choose : (b : Bool) → same_class class (sharing d) ≡ b → (if b then RegisterType.Undefined else RegisterType.Reference d u) ≡ RegisterType.Reference c t
        → (RegisterType.Reference d u ≡ RegisterType.Reference c t) × (same_class class (sharing c) ≡ false)
    choose true f g = cc
    choose false f g = (g, (let h : d ≡ c = cc in ap (λ x. same_class class (sharing x)) (sym h)) ∙ f)

module _ (types : Table) (constants : List Constant) (o : OneEach constants) where
  pub agrees_ended : (class : Class) (ks : RegisterTypes) (s : State) → IsAsKnown types constants ks s → IsAsKnown types constants (ended class ks) s
  agrees_ended class ks s h = record {
    count = h.count ∙ sym (length_ended class ks);
    each = λ r. meets_at constants s (known_ended class ks r) refl (meets_without constants s class (known ks r) (register s r) (h.each r));
    typed = h.typed;
    same_types = h.same_types;
  }

  -- after other references have ended, a register is unchanged or has lost its reference of the
  -- class
  pub known_others : (class : Class) (b : ℕ) (ks : RegisterTypes) (r : ℕ) → ((b ≡ r) × (known (others_ended class b ks) r ≡ known ks r)) ⊎ (known (others_ended class b ks) r ≡ without_class (sharing class) (known ks r))
  known_others class b ks r =
      elim (slots (ended (sharing class) ks) (ended (sharing class) ks) b r (known ks b) RegisterType.Undefined (known ks b) RegisterType.Undefined refl) [
        | inl p ↦ inl (p.2, p.0 ∙ ap (known ks) p.2)
        | inr p ↦ inr (p.0 ∙ known_ended (sharing class) ks r)
      ]

  length_others : (class : Class) (b : ℕ) (ks : RegisterTypes) → length (others_ended class b ks) ≡ length ks
  length_others class b ks = length_set (ended (sharing class) ks) b (known ks b) ∙ length_ended (sharing class) ks

  pub agrees_others : (class : Class) (b : ℕ) (ks : RegisterTypes) (s : State) → IsAsKnown types constants ks s → IsAsKnown types constants (others_ended class b ks) s
  agrees_others class b ks s h = record {
    count = h.count ∙ sym (length_others class b ks);
    each = λ r. elim (known_others class b ks r) [
      | inl p ↦ meets_at constants s p.1 refl (h.each r)
      | inr p ↦ meets_at constants s p refl (meets_without constants s (sharing class) (known ks r) (register s r) (h.each r))
    ];
    typed = h.typed;
    same_types = h.same_types;
  }

  -- a put at a path leaves a path with another root unchanged
  pub leads_other : (s : State) (p q : Path) (t u : ℕ) (new : Value) → LeadsToType s p t → p.origin ≢ q.origin → LeadsToType s q u → LeadsToType (put_at s p new) q u
  leads_other s p q t u new l apart m =
      let a = bind_some (at_origin s p.origin) (λ root. values.value_at root.0 p.selectors) l.value l.there in
      let v0 : Value = a.0.0 in
      let t0 : ℕ = a.0.1 in
      let at : at_origin s p.origin ≡ Some (v0, t0) = a.1 in
      let v1 : Value = values.with_value_at p.selectors new v0 in
      subst (λ z. LeadsToType z q u) (sym (put_at_is s p v0 new t0 at))
      (elim (origin_put s p.origin v0 v1 t0 at q.origin) [
        | inl r ↦ absurd (apart r.0)
        | inr r ↦ leads_same s (put_origin s p.origin v1) q u (put_types s p.origin v0 v1 t0 at) r m
      ])
