-- What stays unchanged in a state after a register is set or a value is put.
use Rattle.std.proofs.Common.{◌≡◌, ℕ, zero, suc, List, [], ◌∷◌, length, Option, Some, None, refl, sym, ◌∙◌, ap, subst, arith, inl, inr, true, false, Bool}
use Rattle.std.specs.Prelude.{◌⊎◌, ◌&&◌, ◌==◌, if◌then◌else◌, slice_set, slice_index_or}
use Rattle.std.specs.Option.{option_map_or}
use Rattle.std.proofs.lemmas.Bool.{eqb-true, eq-eqb}
use Rattle.seg_spec.specs.Value.{Value, nth, change_nth}
use Rattle.seg_spec.specs.Value as values
use Rattle.seg_spec.specs.Types.{Table}
use Rattle.seg_spec.specs.Index.{same_name}
use Rattle.client_spec.specs.Syntax.{Constant}
use Rattle.client_spec.specs.Machine.{◌>>=◌, Origin, Path, Register, Object, Names, Uniques, with_name, with_unique, State, register, set_register, type_along, owned_by, at_origin, with_owned, replace_item, put_origin}
use Rattle.client_spec.specs.Typed.{RegisterType, RegisterTypes, known, is_owner}
use Rattle.client_spec.specs.Meaning.{IsTyped, LeadsToType, Meets, IsAsKnown}
use Rattle.client_spec.proofs.TypedStates.ValueLaws.{Some_inj, bind_some, length_set, nth_change, nth_change_same}

-- After two lists of equal length are set at an index, each index has the new value in both lists
-- or in neither.
pub slots : {A B : Type 0} (xs : List A) (ys : List B) (i j : ℕ) (x d : A) (y e : B)
    → length xs ≡ length ys → ((slice_index_or (slice_set xs i x) j d ≡ x) × (slice_index_or (slice_set ys i y) j e ≡ y) × (i ≡ j))
    ⊎ ((slice_index_or (slice_set xs i x) j d ≡ slice_index_or xs j d) × (slice_index_or (slice_set ys i y) j e ≡ slice_index_or ys j e))
slots [] [] i j x d y e h = inr (refl, refl)
slots [] (b ∷ ys) i j x d y e h = absurd (omega arith)
slots (a ∷ xs) [] i j x d y e h = absurd (omega arith)
slots (a ∷ xs) (b ∷ ys) zero zero x d y e h = inl (refl, refl, refl)
slots (a ∷ xs) (b ∷ ys) zero (suc j) x d y e h = inr (refl, refl)
slots (a ∷ xs) (b ∷ ys) (suc i) zero x d y e h = inr (refl, refl)
slots (a ∷ xs) (b ∷ ys) (suc i) (suc j) x d y e h =
    elim (slots xs ys i j x d y e (omega arith)) [ inl p ↦ inl (p.0, p.1, ap suc p.2) | inr p ↦ inr (p.0, p.1) ]

-- a register after one was set is the new one, or the old
pub register_set : (s : State) (a r : ℕ) (x : Register) → ((register (set_register s a x) r ≡ x) × (a ≡ r)) ⊎ (register (set_register s a x) r ≡ register s r)
register_set s a r x = elim (slots s.registers s.registers a r x Register.Undefined x Register.Undefined refl) [ inl p ↦ inl (p.0, p.2) | inr p ↦ inr p.0 ]

-- Setting a register that owns nothing to a value without an owner leaves all owned objects
-- unchanged.
pub owned_set : (s : State) (a r : ℕ) (x : Register) → owned_by (register s a) ≡ None → owned_by x ≡ None → owned_by (register (set_register s a x) r) ≡ owned_by (register s r)
owned_set s a r x h g =
    elim (register_set s a r x) [
      | inl p ↦ ap owned_by p.0 ∙ g ∙ sym h ∙ ap (λ q. owned_by (register s q)) p.1
      | inr p ↦ ap owned_by p
    ]

pub at_root_set : (s : State) (a : ℕ) (x : Register) → owned_by (register s a) ≡ None → owned_by x ≡ None → (r : Origin) → at_origin (set_register s a x) r ≡ at_origin s r
at_root_set s a x h g (Origin.Name name i) = refl
at_root_set s a x h g (Origin.Unique t) = refl
at_root_set s a x h g (Origin.Owned r) = owned_set s a r x h g

-- if roots and types stay, a path refers to the same value
pub leads_same : (s s' : State) (p : Path) (t : ℕ) → s'.types ≡ s.types → at_origin s' p.origin ≡ at_origin s p.origin → LeadsToType s p t → LeadsToType s' p t
leads_same s s' p t e h l = record {
  value = l.value;
  there = ap (λ o. o >>= λ root. values.value_at root.0 p.selectors) h ∙ l.there;
  typed = ap (λ ts. at_origin s' p.origin >>= λ root. type_along ts p.selectors root.1) e ∙ ap (λ o. o >>= λ root. type_along s.types p.selectors root.1) h ∙ l.typed;
}

pub meets_same : (constants : List Constant) (s s' : State) (k : RegisterType) (x : Register) → s'.types ≡ s.types → ((r : Origin) → at_origin s' r ≡ at_origin s r) → Meets constants s k x → Meets constants s' k x
meets_same constants s s' RegisterType.Undefined x e h m = m
meets_same constants s s' RegisterType.Int x e h m = m
meets_same constants s s' (RegisterType.Reference class t) x e h m = record { path = m.path; is = m.is; within = m.within; leads = leads_same s s' m.path t e (h m.path.origin) m.leads }
meets_same constants s s' (RegisterType.Owner t) x e h m = m

-- a register that isn't known as an owner owns nothing
pub not_owner : (constants : List Constant) (s : State) (k : RegisterType) (x : Register) → is_owner k ≡ false → Meets constants s k x → owned_by x ≡ None
not_owner constants s RegisterType.Undefined x e m = m
not_owner constants s RegisterType.Int x e m = ap owned_by m.1
not_owner constants s (RegisterType.Reference class t) x e m = ap owned_by m.is
not_owner constants s (RegisterType.Owner t) x e m = cc

typed_set : (s : State) (a : ℕ) (x : Register) → owned_by x ≡ None → IsTyped s → IsTyped (set_register s a x)
typed_set s a x g h = record {
  names = h.names;
  counts = h.counts;
  uniques = h.uniques;
  forms = h.forms;
  owned = λ r v t e. elim (register_set s a r x) [
    | inl p ↦ absurd (let f : None ≡ Some (v, t) = sym g ∙ ap owned_by (sym p.0 ∙ e) in cc)
    | inr p ↦ h.owned r v t (sym p ∙ e)
  ];
}

pub meets_at : (constants : List Constant) (s : State) {k l : RegisterType} {x y : Register} → k ≡ l → x ≡ y → Meets constants s l y → Meets constants s k x
meets_at constants s {k} {l} {x} {y} e f m = subst (λ z. Meets constants s z x) (sym e) (subst (λ z. Meets constants s l z) (sym f) m)

-- Setting a register that owns nothing to a value that owns nothing keeps what is known.
pub agrees_set : (types : Table) (constants : List Constant) (ks : RegisterTypes) (s : State) (a : ℕ) (k : RegisterType) (x : Register)
    → is_owner (known ks a) ≡ false → owned_by x ≡ None → Meets constants s k x → IsAsKnown types constants ks s
    → IsAsKnown types constants (slice_set ks a k) (set_register s a x)
agrees_set types constants ks s a k x free g m h = record {
  count = length_set s.registers a x ∙ h.count ∙ sym (length_set ks a k);
  each = λ r. let s' = set_register s a x in let stays = λ (q : Origin). at_root_set s a x (not_owner constants s (known ks a) (register s a) free (h.each a)) g q in
      elim (slots s.registers ks a r x Register.Undefined k RegisterType.Undefined h.count) [
        | inl p ↦ meets_at constants s' p.1 p.0 (meets_same constants s s' k x refl stays m)
        | inr p ↦ meets_at constants s' p.1 p.0 (meets_same constants s s' (known ks r) (register s r) refl stays (h.each r))
      ];
  typed = typed_set s a x g h.typed;
  same_types = h.same_types;
}

pub both_true : (b c : Bool) → (b && c) ≡ true → (b ≡ true) × (c ≡ true)
both_true true c e = (refl, e)
both_true false c e = cc

pub same_name_is : (m n : List ℕ) → same_name m n ≡ true → n ≡ m
same_name_is [] [] e = refl
same_name_is [] (y ∷ ys) e = cc
same_name_is (x ∷ xs) [] e = cc
same_name_is (x ∷ xs) (y ∷ ys) e =
    let p = both_true (x == y) (same_name xs ys) e in
    let head : x ≡ y = eqb-true x y p.0 in
    let tail : ys ≡ xs = same_name_is xs ys p.1 in
    cc

pub same_name_refl : (n : List ℕ) → same_name n n ≡ true
same_name_refl [] = refl
same_name_refl (x ∷ xs) = ap (λ b. b && same_name xs xs) (eq-eqb x x refl) ∙ same_name_refl xs

-- After a name is set or removed, it has that object, and other names have their objects.
pub name_at : (names : Names) (n : List ℕ) (o : Option Object) (m : List ℕ) → ((n ≡ m) × (with_name names n o m ≡ o)) ⊎ (with_name names n o m ≡ names m)
name_at names n o m = choose (same_name m n) refl
  where
    choose : (b : Bool) → same_name m n ≡ b → ((n ≡ m) × (with_name names n o m ≡ o)) ⊎ (with_name names n o m ≡ names m)
    choose true e = inl (same_name_is m n e, ap (λ b. if b then o else names m) e)
    choose false e = inr (ap (λ b. if b then o else names m) e)

pub unique_at : (uniques : Uniques) (t : ℕ) (v : Option Value) (u : ℕ) → ((t ≡ u) × (with_unique uniques t v u ≡ v)) ⊎ (with_unique uniques t v u ≡ uniques u)
unique_at uniques t v u = choose (u == t) refl
  where
    choose : (b : Bool) → (u == t) ≡ b → ((t ≡ u) × (with_unique uniques t v u ≡ v)) ⊎ (with_unique uniques t v u ≡ uniques u)
    choose true e = inl (sym (eqb-true u t e), ap (λ b. if b then v else uniques u) e)
    choose false e = inr (ap (λ b. if b then v else uniques u) e)

-- after a put, the origin has a value of its type, which is the new one at the changed origin
abbrev pub HasNew : State → Origin → Value → ℕ → Origin → State → Type 0
HasNew s r new t q s' = ((r ≡ q) × (at_origin s' q ≡ Some (new, t))) ⊎ (at_origin s' q ≡ at_origin s q)

-- a named origin with a value has an object
pub object_at : (s : State) (name : List ℕ) (i : ℕ) (v : Value) (t : ℕ) → at_origin s (Origin.Name name i) ≡ Some (v, t) → (o : Object) × (s.names name ≡ Some o) × (nth o.values i ≡ Some v) × (o.type ≡ t)
object_at s name i v t e =
    let a = bind_some (s.names name) (λ o. nth o.values i >>= λ v. Some (v, o.type)) (v, t) e in
    let b = bind_some (nth a.0.values i) (λ w. Some (w, a.0.type)) (v, t) a.2 in
    (a.0, a.1, b.1 ∙ ap (λ (p : Value × ℕ). Some p.0) (Some_inj b.2), ap (λ (p : Value × ℕ). p.1) (Some_inj b.2))

-- the state with an item of a named object replaced
abbrev pub with_object : State → List ℕ → Object → State
with_object s name o = record s { names = with_name s.names name (Some o) }

pub put_named : (s : State) (name : List ℕ) (i : ℕ) (o : Object) (new : Value) → s.names name ≡ Some o → put_origin s (Origin.Name name i) new ≡ with_object s name (replace_item i new o)
put_named s name i o new e = ap (λ p. option_map_or (λ o. record s { names = with_name s.names name (Some (replace_item i new o)) }) p s) e

-- after one item of a named object is replaced, each origin has its new value
other_named : (s : State) (name : List ℕ) (i : ℕ) (o : Object) (old new : Value) → s.names name ≡ Some o → nth o.values i ≡ Some old → (q : Origin) → HasNew s (Origin.Name name i) new o.type q (with_object s name (replace_item i new o))
other_named s name i o old new e f (Origin.Unique u) = inr refl
other_named s name i o old new e f (Origin.Owned r) = inr refl
other_named s name i o old new e f (Origin.Name m j) =
    elim (name_at s.names name (Some (replace_item i new o)) m) [
      | inl p ↦
          let here : at_origin (with_object s name (replace_item i new o)) (Origin.Name m j) ≡ (nth (change_nth (Some i) (λ _. new) o.values) j >>= λ v. Some (v, o.type)) =
          ap (λ x. x >>= λ (y : Object). nth y.values j >>= λ v. Some (v, y.type)) p.1 in
          let before : at_origin s (Origin.Name m j) ≡ (nth o.values j >>= λ v. Some (v, o.type)) =
          ap (λ n. s.names n >>= λ (y : Object). nth y.values j >>= λ v. Some (v, y.type)) (sym p.0) ∙ ap (λ x. x >>= λ (y : Object). nth y.values j >>= λ v. Some (v, y.type)) e in
          elim (nth_change o.values i j old (λ _. new) f) [
            | inl g ↦ inl (ap (Origin.Name name) g.0 ∙ ap (λ n. Origin.Name n j) p.0, here ∙ ap (λ x. x >>= λ v. Some (v, o.type)) g.1)
            | inr g ↦ inr (here ∙ ap (λ x. x >>= λ v. Some (v, o.type)) g ∙ sym before)
          ]
      | inr p ↦ inr (ap (λ x. x >>= λ (y : Object). nth y.values j >>= λ v. Some (v, y.type)) p)
    ]

other_unique : (s : State) (t : ℕ) (new : Value) (q : Origin) → HasNew s (Origin.Unique t) new t q (record s { uniques = with_unique s.uniques t (Some new) })
other_unique s t new (Origin.Name m j) = inr refl
other_unique s t new (Origin.Owned r) = inr refl
other_unique s t new (Origin.Unique u) =
    elim (unique_at s.uniques t (Some new) u) [
      | inl p ↦ inl (ap Origin.Unique p.0, ap (λ x. x >>= λ v. Some (v, u)) p.1 ∙ ap (λ n. Some (new, n)) (sym p.0))
      | inr p ↦ inr (ap (λ x. x >>= λ v. Some (v, u)) p)
    ]

-- an owner with a new value keeps its type
pub owned_with : (new old : Value) (t : ℕ) (x : Register) → owned_by x ≡ Some (old, t) → owned_by (with_owned new x) ≡ Some (new, t)
owned_with new old t Register.Undefined e = cc
owned_with new old t (Register.Int k) e = cc
owned_with new old t (Register.Reference p) e = cc
owned_with new old t (Register.Owner v u) e = ap (λ (p : Value × ℕ). Some (new, p.1)) (Some_inj e)

other_held : (s : State) (r : ℕ) (old new : Value) (t : ℕ) → owned_by (register s r) ≡ Some (old, t) → (q : Origin) → HasNew s (Origin.Owned r) new t q (set_register s r (with_owned new (register s r)))
other_held s r old new t e (Origin.Name m j) = inr refl
other_held s r old new t e (Origin.Unique u) = inr refl
other_held s r old new t e (Origin.Owned q) =
    elim (register_set s r q (with_owned new (register s r))) [
      | inl p ↦ inl (ap Origin.Owned p.1, ap owned_by p.0 ∙ owned_with new old t (register s r) e)
      | inr p ↦ inr (ap owned_by p)
    ]

pub origin_put : (s : State) (r : Origin) (old new : Value) (t : ℕ) → at_origin s r ≡ Some (old, t) → (q : Origin) → HasNew s r new t q (put_origin s r new)
origin_put s (Origin.Name name i) old new t e q =
    let o = object_at s name i old t e in
    subst (λ z. HasNew s (Origin.Name name i) new t q z) (sym (put_named s name i o.0 new o.1))
    (subst (λ u. HasNew s (Origin.Name name i) new u q (with_object s name (replace_item i new o.0))) o.3 (other_named s name i o.0 old new o.1 o.2 q))
origin_put s (Origin.Unique u) old new t e q =
    let a = bind_some (s.uniques u) (λ v. Some (v, u)) (old, t) e in
    subst (λ n. HasNew s (Origin.Unique u) new n q (put_origin s (Origin.Unique u) new)) (ap (λ (p : Value × ℕ). p.1) (Some_inj a.2)) (other_unique s u new q)
origin_put s (Origin.Owned r) old new t e q = other_held s r old new t e q

-- the changed name has the new object
pub name_there : (names : Names) (n : List ℕ) (o : Option Object) → with_name names n o n ≡ o
name_there names n o = ap (λ b. if b then o else names n) (same_name_refl n)

pub unique_there : (uniques : Uniques) (t : ℕ) (v : Option Value) → with_unique uniques t v t ≡ v
unique_there uniques t v = ap (λ b. if b then v else uniques t) (eq-eqb t t refl)

-- a register that owns something exists
pub register_set_same : (s : State) (r : ℕ) (x : Register) (v : Value) (t : ℕ) → owned_by (register s r) ≡ Some (v, t) → register (set_register s r x) r ≡ x
register_set_same s r x v t e = set_same s.registers r e
  where
    set_same : (xs : List Register) (r : ℕ) → owned_by (slice_index_or xs r Register.Undefined) ≡ Some (v, t) → slice_index_or (slice_set xs r x) r Register.Undefined ≡ x
    set_same [] r f = cc
    set_same (y ∷ ys) zero f = refl
    set_same (y ∷ ys) (suc r) f = set_same ys r f

pub origin_put_same : (s : State) (r : Origin) (old new : Value) (t : ℕ) → at_origin s r ≡ Some (old, t) → at_origin (put_origin s r new) r ≡ Some (new, t)
origin_put_same s (Origin.Name name i) old new t e =
    let o = object_at s name i old t e in
    ap (λ (z : State). at_origin z (Origin.Name name i)) (put_named s name i o.0 new o.1)
    ∙ ap (λ x. x >>= λ (y : Object). nth y.values i >>= λ v. Some (v, y.type)) (name_there s.names name (Some (replace_item i new o.0)))
    ∙ ap (λ x. x >>= λ v. Some (v, o.0.type)) (nth_change_same o.0.values i old (λ _. new) o.2)
    ∙ ap (λ n. Some (new, n)) o.3
origin_put_same s (Origin.Unique u) old new t e =
    let a = bind_some (s.uniques u) (λ v. Some (v, u)) (old, t) e in
    ap (λ x. x >>= λ v. Some (v, u)) (unique_there s.uniques u (Some new)) ∙ ap (λ n. Some (new, n)) (ap (λ (p : Value × ℕ). p.1) (Some_inj a.2))
origin_put_same s (Origin.Owned r) old new t e =
    ap owned_by (register_set_same s r (with_owned new (register s r)) old t e) ∙ owned_with new old t (register s r) e
