-- How knowledge of a state changes with each kind of change of the state.
use Rattle.std.proofs.Common.{◌≡◌, ◌≢◌, ℕ, ◌<◌, List, length, Some, None, refl, sym, ◌∙◌, ap, subst, inl, inr, false}
use Rattle.std.specs.Prelude.{slice_get, slice_set, slice_index_or}
use Rattle.seg_spec.specs.Value.{Value, count, nth}
use Rattle.seg_spec.specs.Value as values
use Rattle.seg_spec.specs.Types.{Table, form_at}
use Rattle.client_spec.specs.Syntax.{Constant}
use Rattle.client_spec.specs.Machine.{◌>>=◌, Origin, Path, Register, Object, with_name, with_unique, State, register, set_register, owned_by, at_origin, put_at}
use Rattle.client_spec.specs.Shape.{HasShape, AllHaveShape}
use Rattle.client_spec.specs.Typed.{Class, RegisterType, RegisterTypes, known, is_owner, same_class, sharing, ended, others_ended}
use Rattle.client_spec.specs.Meaning.{IsTyped, IsNamedBy, InClass, LeadsToType, Refers, Meets, IsAsKnown}
use Rattle.client_spec.proofs.TypedStates.ValueLaws.{Some_inj, length_set}
use Rattle.client_spec.proofs.TypedStates.StateLaws.{slots, register_set, leads_same, meets_at, not_owner, name_at, unique_at}
use Rattle.client_spec.proofs.TypedStates.PutLaws.{agrees_put, leads_here}
use Rattle.client_spec.proofs.TypedStates.ClassLaws.{OneEach, origins_apart, known_ended, still_known, known_others, agrees_ended, agrees_others, leads_other}

same_path : (p q : Path) → Register.Reference p ≡ Register.Reference q → p ≡ q
same_path p q e = cc

-- the meaning of what is known of a reference
refers_at : (constants : List Constant) (s : State) (k : RegisterType) (x : Register) (c : Class) (u : ℕ) (q : Path) → k ≡ RegisterType.Reference c u
    → x ≡ Register.Reference q → Meets constants s k x → InClass constants c q.origin × LeadsToType s q u
refers_at constants s k x c u q e f m =
    let r = subst (λ z. Meets constants s z x) e m in
    let p : r.path ≡ q = same_path r.path q (sym r.is ∙ f) in
    (subst (λ (z : Path). InClass constants c z.origin) p r.within, subst (λ z. LeadsToType s z u) p r.leads)

-- What is known of a register is true in another state, if each reference is still valid there.
meets_on : (constants : List Constant) (s s' : State) (k : RegisterType) (x : Register)
    → ((c : Class) (u : ℕ) (q : Path) → k ≡ RegisterType.Reference c u → x ≡ Register.Reference q → LeadsToType s q u → LeadsToType s' q u) → Meets constants s k x
    → Meets constants s' k x
meets_on constants s s' RegisterType.Undefined x stays m = m
meets_on constants s s' RegisterType.Int x stays m = m
meets_on constants s s' (RegisterType.Reference c u) x stays m = record { path = m.path; is = m.is; within = m.within; leads = stays c u m.path refl m.is m.leads }
meets_on constants s s' (RegisterType.Owner t) x stays m = m

module _ (types : Table) (constants : List Constant) (o : OneEach constants) where
  -- Putting a value at a reference keeps what is known, except for the class's other references.
  pub agrees_put_others : (class : Class) (b t : ℕ) (ks : RegisterTypes) (s : State) → IsAsKnown types constants ks s
      → known ks b ≡ RegisterType.Reference class t → (r : Refers constants s (register s b) class t) → (new : Value) → HasShape s.types t new
      → IsAsKnown types constants (others_ended class b ks) (put_at s r.path new)
  agrees_put_others class b t ks s h is r new fits =
      agrees_put types constants (others_ended class b ks) s r.path t new (agrees_others types constants o class b ks s h) r.leads fits
      (λ q c u e p f l. elim (known_others types constants o class b ks q) [
        | inl w ↦
            let same : RegisterType.Reference class t ≡ RegisterType.Reference c u = sym is ∙ ap (known ks) w.0 ∙ sym w.1 ∙ e in
            let path : r.path ≡ p = same_path r.path p (sym r.is ∙ ap (register s) w.0 ∙ f) in
            let type : t ≡ u = cc in
            subst (λ z. LeadsToType (put_at s r.path new) z u) path (subst (λ n. LeadsToType (put_at s r.path new) r.path n) type (leads_here s r.path t new r.leads).0)
        | inr w ↦
            let k = still_known (sharing class) c (known ks q) u (sym w ∙ e) in
            let m = refers_at constants s (known ks q) (register s q) c u p k.0 f (h.each q) in
            leads_other types constants o s r.path p t u new r.leads (origins_apart constants o class c r.path.origin p.origin k.1 r.within m.0) l
      ])

  -- What is known is true in a state with the same registers and types, in which known references
  -- have the same roots.
  pub agrees_origins : (ks : RegisterTypes) (s s' : State) → IsAsKnown types constants ks s → s'.registers ≡ s.registers → s'.types ≡ s.types → IsTyped s'
      → ((r : ℕ) (c : Class) (u : ℕ) (q : Path) → known ks r ≡ RegisterType.Reference c u → register s r ≡ Register.Reference q → InClass constants c q.origin
      → LeadsToType s q u → at_origin s' q.origin ≡ at_origin s q.origin) → IsAsKnown types constants ks s'
  agrees_origins ks s s' h e f typed roots = record {
    count = ap length e ∙ h.count;
    each = λ r. meets_at constants s' refl (ap (λ (xs : List Register). slice_index_or xs r Register.Undefined) e)
        (meets_on constants s s' (known ks r) (register s r)
        (λ c u q k x l. leads_same s s' q u f (roots r c u q k x (refers_at constants s (known ks r) (register s r) c u q k x (h.each r)).0 l) l)
        (h.each r));
    typed = typed;
    same_types = λ t k g. ap (λ (ts : Table). form_at ts t) f ∙ h.same_types t k g;
  }

  -- Setting a register to a value of which something is known keeps what is known, if each known
  -- reference is still valid.
  pub agrees_register : (ks : RegisterTypes) (s : State) (a : ℕ) (k : RegisterType) (x : Register)
      → IsAsKnown types constants ks s → Meets constants (set_register s a x) k x → ((v : Value) (t : ℕ) → x ≡ Register.Owner v t → HasShape s.types t v)
      → ((r : ℕ) (c : Class) (u : ℕ) (q : Path) → known ks r ≡ RegisterType.Reference c u → register s r ≡ Register.Reference q → LeadsToType s q u
      → LeadsToType (set_register s a x) q u) → IsAsKnown types constants (slice_set ks a k) (set_register s a x)
  agrees_register ks s a k x h m fits stays = record {
    count = length_set s.registers a x ∙ h.count ∙ sym (length_set ks a k);
    each = λ r. let s' = set_register s a x in
        elim (slots s.registers ks a r x Register.Undefined k RegisterType.Undefined h.count) [
          | inl p ↦ meets_at constants s' p.1 p.0 m
          | inr p ↦ meets_at constants s' p.1 p.0 (meets_on constants s s' (known ks r) (register s r) (λ c u q e f l. stays r c u q e f l) (h.each r))
        ];
    typed = record {
      names = h.typed.names;
      counts = h.typed.counts;
      uniques = h.typed.uniques;
      forms = h.typed.forms;
      owned = λ r v t e. elim (register_set s a r x) [
        | inl p ↦ fits v t (sym p.0 ∙ e)
        | inr p ↦ h.typed.owned r v t (sym p ∙ e)
      ];
    };
    same_types = h.same_types;
  }

  origin_elsewhere : (s : State) (a : ℕ) (x : Register) (q : Origin) → q ≢ Origin.Owned a → at_origin (set_register s a x) q ≡ at_origin s q
  origin_elsewhere s a x (Origin.Name n i) f = refl
  origin_elsewhere s a x (Origin.Unique t) f = refl
  origin_elsewhere s a x (Origin.Owned r) f = elim (register_set s a r x) [ inl p ↦ absurd (f (ap Origin.Owned (sym p.1))) | inr p ↦ ap owned_by p ]

  -- a path that refers to a value has a root
  nowhere : (s : State) (q : Path) (u : ℕ) → LeadsToType s q u → at_origin s q.origin ≡ None → ⊥
  nowhere s q u l e = let z : None ≡ Some l.value = sym (ap (λ o. o >>= λ (root : Value × ℕ). values.value_at root.0 q.selectors) e) ∙ l.there in cc

  -- A register that isn't an owner may become one.
  pub agrees_own : (ks : RegisterTypes) (s : State) (a : ℕ) (v : Value) (t : ℕ) → IsAsKnown types constants ks s → is_owner (known ks a) ≡ false
      → HasShape s.types t v → IsAsKnown types constants (slice_set ks a (RegisterType.Owner t)) (set_register s a (Register.Owner v t))
  agrees_own ks s a v t h free fits =
      agrees_register ks s a (RegisterType.Owner t) (Register.Owner v t) h (v, refl) (λ w u e. let p : v ≡ w = cc in let q : t ≡ u = cc in subst (λ y. HasShape s.types u y) p (subst (λ n. HasShape s.types n v) q fits))
      (λ r c u q e f l. leads_same s (set_register s a (Register.Owner v t)) q u refl (origin_elsewhere s a (Register.Owner v t) q.origin (λ g.
      let none = not_owner constants s (known ks a) (register s a) free (h.each a) in nowhere s q u l (ap (at_origin s) g ∙ none))) l)

  -- Emptying an owner's register keeps what is known, except for the references into the object.
  pub agrees_release : (ks : RegisterTypes) (s : State) (a : ℕ) → IsAsKnown types constants ks s → IsAsKnown types constants (slice_set (ended (Class.Register a) ks) a RegisterType.Undefined) (set_register s a Register.Undefined)
  agrees_release ks s a h =
      agrees_register (ended (Class.Register a) ks) s a RegisterType.Undefined Register.Undefined (agrees_ended types constants o (Class.Register a) ks s h) refl (λ v t e. cc)
      (λ r c u q e f l.
      let k = still_known (Class.Register a) c (known ks r) u (sym (known_ended (Class.Register a) ks r) ∙ e) in
      let m = refers_at constants s (known ks r) (register s r) c u q k.0 f (h.each r) in
      leads_same s (set_register s a Register.Undefined) q u refl (origin_elsewhere s a Register.Undefined q.origin
      (λ g. origins_apart constants o (Class.Register a) c (Origin.Owned a) q.origin k.1 refl m.0 (sym g))) l)

  -- Destroying a name keeps what is known, except for the references of the name's class.
  pub agrees_kill : (ks : RegisterTypes) (s : State) (k : ℕ) (name : List ℕ) → IsNamedBy (slice_get constants k) name → IsAsKnown types constants ks s
      → IsAsKnown types constants (ended (Class.Name k) ks) (record s { names = with_name s.names name None })
  agrees_kill ks s k name by h =
      let s' = record s { names = with_name s.names name None } in
      agrees_origins (ended (Class.Name k) ks) s s' (agrees_ended types constants o (Class.Name k) ks s h) refl refl
      (record {
        names = λ m x e. elim (name_at s.names name None m) [
          | inl p ↦ absurd (let z : None ≡ Some x = sym p.1 ∙ e in cc)
          | inr p ↦ h.typed.names m x (sym p ∙ e)
        ];
        counts = λ m x e. elim (name_at s.names name None m) [
          | inl p ↦ absurd (let z : None ≡ Some x = sym p.1 ∙ e in cc)
          | inr p ↦ h.typed.counts m x (sym p ∙ e)
        ];
        uniques = h.typed.uniques;
        owned = h.typed.owned;
        forms = h.typed.forms;
      })
      (λ r c u q e f w l.
      let z = still_known (Class.Name k) c (known ks r) u (sym (known_ended (Class.Name k) ks r) ∙ e) in
      origin_kept c q.origin w z.1)
    where
      -- a root of another class is unchanged
      origin_kept : (c : Class) (q : Origin) → InClass constants c q → same_class (Class.Name k) (sharing c) ≡ false → at_origin (record s { names = with_name s.names name None }) q ≡ at_origin s q
      origin_kept c (Origin.Unique t) w g = refl
      origin_kept c (Origin.Owned r) w g = refl
      origin_kept c (Origin.Name m i) w g = elim (name_at s.names name None m) [
        | inl p ↦ absurd (origins_apart constants o (Class.Name k) c (Origin.Name name i) (Origin.Name m i) g by w (ap (λ n. Origin.Name n i) p.0))
        | inr p ↦ ap (λ x. x >>= λ (y : Object). nth y.values i >>= λ v. Some (v, y.type)) p
      ]

  pub agrees_ukill : (ks : RegisterTypes) (s : State) (t : ℕ) → IsAsKnown types constants ks s → IsAsKnown types constants (ended (Class.Unique t) ks) (record s { uniques = with_unique s.uniques t None })
  agrees_ukill ks s t h =
      let s' = record s { uniques = with_unique s.uniques t None } in
      agrees_origins (ended (Class.Unique t) ks) s s' (agrees_ended types constants o (Class.Unique t) ks s h) refl refl
      (record {
        names = h.typed.names;
        counts = h.typed.counts;
        uniques = λ u v e. elim (unique_at s.uniques t None u) [
          | inl p ↦ absurd (let z : None ≡ Some v = sym p.1 ∙ e in cc)
          | inr p ↦ h.typed.uniques u v (sym p ∙ e)
        ];
        owned = h.typed.owned;
        forms = h.typed.forms;
      })
      (λ r c u q e f w l.
      let z = still_known (Class.Unique t) c (known ks r) u (sym (known_ended (Class.Unique t) ks r) ∙ e) in
      origin_kept q.origin (origins_apart constants o (Class.Unique t) c (Origin.Unique t) q.origin z.1 refl w))
    where
      origin_kept : (q : Origin) → Origin.Unique t ≢ q → at_origin (record s { uniques = with_unique s.uniques t None }) q ≡ at_origin s q
      origin_kept (Origin.Name m i) f = refl
      origin_kept (Origin.Owned r) f = refl
      origin_kept (Origin.Unique u) f = elim (unique_at s.uniques t None u) [ inl p ↦ absurd (f (ap Origin.Unique p.0)) | inr p ↦ ap (λ x. x >>= λ v. Some (v, u)) p ]

  -- Making a named or unique object keeps what is known, because known references have their roots
  -- already.
  pub agrees_make : (ks : RegisterTypes) (s : State) (name : List ℕ) (x : Object) → s.names name ≡ None → AllHaveShape s.types x.type x.values
      → 0 < count x.values → IsAsKnown types constants ks s → IsAsKnown types constants ks (record s { names = with_name s.names name (Some x) })
  agrees_make ks s name x none fits some h =
      let s' = record s { names = with_name s.names name (Some x) } in
      agrees_origins ks s s' h refl refl
      (record {
        names = λ m y e. elim (name_at s.names name (Some x) m) [
          | inl p ↦ subst (λ (z : Object). AllHaveShape s.types z.type z.values) (Some_inj (sym p.1 ∙ e)) fits
          | inr p ↦ h.typed.names m y (sym p ∙ e)
        ];
        counts = λ m y e. elim (name_at s.names name (Some x) m) [
          | inl p ↦ subst (λ (z : Object). 0 < count z.values) (Some_inj (sym p.1 ∙ e)) some
          | inr p ↦ h.typed.counts m y (sym p ∙ e)
        ];
        uniques = h.typed.uniques;
        owned = h.typed.owned;
        forms = h.typed.forms;
      })
      (λ r c u q e f w l. origin_kept q.origin (λ z. nowhere s q u l z))
    where
      origin_kept : (q : Origin) → at_origin s q ≢ None → at_origin (record s { names = with_name s.names name (Some x) }) q ≡ at_origin s q
      origin_kept (Origin.Unique t) f = refl
      origin_kept (Origin.Owned r) f = refl
      origin_kept (Origin.Name m i) f = elim (name_at s.names name (Some x) m) [
        | inl p ↦ absurd (f (ap (λ z. z >>= λ (y : Object). nth y.values i >>= λ v. Some (v, y.type)) (ap s.names (sym p.0) ∙ none)))
        | inr p ↦ ap (λ z. z >>= λ (y : Object). nth y.values i >>= λ v. Some (v, y.type)) p
      ]

  pub agrees_umake : (ks : RegisterTypes) (s : State) (t : ℕ) (v : Value) → s.uniques t ≡ None → HasShape s.types t v → IsAsKnown types constants ks s → IsAsKnown types constants ks (record s { uniques = with_unique s.uniques t (Some v) })
  agrees_umake ks s t v none fits h =
      let s' = record s { uniques = with_unique s.uniques t (Some v) } in
      agrees_origins ks s s' h refl refl
      (record {
        names = h.typed.names;
        counts = h.typed.counts;
        uniques = λ u w e. elim (unique_at s.uniques t (Some v) u) [
          | inl p ↦ subst (λ y. HasShape s.types u y) (Some_inj (sym p.1 ∙ e)) (subst (λ n. HasShape s.types n v) p.0 fits)
          | inr p ↦ h.typed.uniques u w (sym p ∙ e)
        ];
        owned = h.typed.owned;
        forms = h.typed.forms;
      })
      (λ r c u q e f w l. origin_kept q.origin (λ z. nowhere s q u l z))
    where
      origin_kept : (q : Origin) → at_origin s q ≢ None → at_origin (record s { uniques = with_unique s.uniques t (Some v) }) q ≡ at_origin s q
      origin_kept (Origin.Name m i) f = refl
      origin_kept (Origin.Owned r) f = refl
      origin_kept (Origin.Unique u) f = elim (unique_at s.uniques t (Some v) u) [
        | inl p ↦ absurd (f (ap (λ z. z >>= λ v. Some (v, u)) (ap s.uniques (sym p.0) ∙ none)))
        | inr p ↦ ap (λ z. z >>= λ v. Some (v, u)) p
      ]
