-- What stays true of a state after a value is put at a reference.
use Rattle.std.proofs.Common.{◌≡◌, ℕ, ◌<◌, ℤ, List, [], ◌∷◌, ◌++◌, length, Option, Some, None, refl, sym, ◌∙◌, ap, subst, arith, inl, inr}
use Rattle.std.specs.Prelude.{◌⊎◌, option_and_then}
use Rattle.std.specs.Option.{option_map_or}
use Rattle.seg_spec.specs.Value.{Value, Int, Text, count, nth, Selector, selected}
use Rattle.seg_spec.specs.Value as values
use Rattle.seg_spec.specs.Types.{Form, Table, form_at}
use Rattle.client_spec.specs.Syntax.{Constant}
use Rattle.client_spec.specs.Machine.{◌>>=◌, extend, Origin, Path, Register, Object, State, with_unique, register, set_register, part_type}
use Rattle.client_spec.specs.Machine.{type_along, owned_by, at_origin, path_value, path_type, with_owned, replace_item, put_origin, put_at}
use Rattle.client_spec.specs.Typed.{Class, RegisterType, RegisterTypes, known}
use Rattle.client_spec.specs.Shape.{HasShape, AllHaveShape}
use Rattle.client_spec.specs.Meaning.{IsTyped, LeadsToType, Meets, IsAsKnown}
use Rattle.client_spec.proofs.TypedStates.ValueLaws.{Some_inj, bind_some, then_some, length_set, count_change, part_after, part_same, has_value_at, has_put, all_shape_at, all_shape_change}
use Rattle.client_spec.proofs.TypedStates.StateLaws.{origin_put, origin_put_same, object_at, with_object, put_named, name_at, unique_at, register_set, leads_same}

owned_is : (x : Register) (v : Value) (t : ℕ) → owned_by x ≡ Some (v, t) → x ≡ Register.Owner v t
owned_is Register.Undefined v t e = cc
owned_is (Register.Int k) v t e = cc
owned_is (Register.Reference p) v t e = cc
owned_is (Register.Owner w u) v t e = ap (λ (p : Value × ℕ). Register.Owner p.0 p.1) (Some_inj e)

-- the value at a root fits its type
pub has_origin : (s : State) (r : Origin) (v : Value) (t : ℕ) → IsTyped s → at_origin s r ≡ Some (v, t) → HasShape s.types t v
has_origin s (Origin.Name name i) v t h e =
    let o = object_at s name i v t e in
    subst (λ u. HasShape s.types u v) o.3 (all_shape_at s.types o.0.type o.0.values i v (h.names name o.0 o.1) o.2)
has_origin s (Origin.Unique u) v t h e =
    let a = bind_some (s.uniques u) (λ v. Some (v, u)) (v, t) e in
    let f = Some_inj a.2 in
    subst (λ (p : Value × ℕ). HasShape s.types p.1 p.0) f (h.uniques u a.0 a.1)
has_origin s (Origin.Owned r) v t h e = h.owned r v t (owned_is (register s r) v t e)

-- the value at a reference fits its type
pub has_leads : (s : State) (p : Path) (t : ℕ) → IsTyped s → (l : LeadsToType s p t) → HasShape s.types t l.value
has_leads s p t h l =
    let a = bind_some (at_origin s p.origin) (λ root. values.value_at root.0 p.selectors) l.value l.there in
    let b = bind_some (at_origin s p.origin) (λ root. type_along s.types p.selectors root.1) t l.typed in
    has_value_at s.types p.selectors a.0.1 t a.0.0 l.value (has_origin s p.origin a.0.0 a.0.1 h a.1)
    (ap (λ (q : Value × ℕ). type_along s.types p.selectors q.1) (Some_inj (sym a.1 ∙ b.1)) ∙ b.2) a.2

-- a put changes no types, and of registers only owned values
pub put_types : (s : State) (r : Origin) (old new : Value) (t : ℕ) → at_origin s r ≡ Some (old, t) → (put_origin s r new).types ≡ s.types
put_types s (Origin.Name name i) old new t e = let o = object_at s name i old t e in ap (λ (z : State). z.types) (put_named s name i o.0 new o.1)
put_types s (Origin.Unique u) old new t e = refl
put_types s (Origin.Owned r) old new t e = refl

pub put_length : (s : State) (r : Origin) (old new : Value) (t : ℕ) → at_origin s r ≡ Some (old, t) → length (put_origin s r new).registers ≡ length s.registers
put_length s (Origin.Name name i) old new t e = let o = object_at s name i old t e in ap (λ (z : State). length z.registers) (put_named s name i o.0 new o.1)
put_length s (Origin.Unique u) old new t e = refl
put_length s (Origin.Owned r) old new t e = length_set s.registers r (with_owned new (register s r))

pub put_register : (s : State) (r : Origin) (old new : Value) (t : ℕ) → at_origin s r ≡ Some (old, t) → (q : ℕ) → (register (put_origin s r new) q ≡ register s q) ⊎ (register (put_origin s r new) q ≡ with_owned new (register s q))
put_register s (Origin.Name name i) old new t e q = let o = object_at s name i old t e in inl (ap (λ (z : State). register z q) (put_named s name i o.0 new o.1))
put_register s (Origin.Unique u) old new t e q = inl refl
put_register s (Origin.Owned r) old new t e q =
    elim (register_set s r q (with_owned new (register s r))) [
      | inl p ↦ inr (p.0 ∙ ap (λ x. with_owned new (register s x)) p.1)
      | inr p ↦ inl p
    ]

count_with : (i : ℕ) (new : Value) (o : Object) → count (replace_item i new o).values ≡ count o.values
count_with i new o = count_change i (λ _. new) o.values

-- values fit their types after the put
typed_named : (s : State) (name : List ℕ) (i : ℕ) (o : Object) (old new : Value) → IsTyped s → s.names name ≡ Some o → nth o.values i ≡ Some old → HasShape s.types o.type new → IsTyped (with_object s name (replace_item i new o))
typed_named s name i o old new h e at g = record {
  names = λ m x f. elim (name_at s.names name (Some (replace_item i new o)) m) [
    | inl p ↦ subst (λ (y : Object). AllHaveShape s.types y.type y.values) (Some_inj (sym p.1 ∙ f)) (all_shape_change s.types o.type o.values i old (λ _. new) (h.names name o e) at g)
    | inr p ↦ h.names m x (sym p ∙ f)
  ];
  counts = λ m x f. elim (name_at s.names name (Some (replace_item i new o)) m) [
    | inl p ↦ subst (λ (y : Object). 0 < count y.values) (Some_inj (sym p.1 ∙ f)) (let n = count_with i new o in let c = h.counts name o e in omega arith)
    | inr p ↦ h.counts m x (sym p ∙ f)
  ];
  uniques = h.uniques;
  owned = h.owned;
  forms = h.forms;
}

typed_unique : (s : State) (t : ℕ) (new : Value) → IsTyped s → HasShape s.types t new → IsTyped (record s { uniques = with_unique s.uniques t (Some new) })
typed_unique s t new h g = record {
  names = h.names;
  counts = h.counts;
  uniques = λ u v f. elim (unique_at s.uniques t (Some new) u) [
    | inl p ↦ subst (λ y. HasShape s.types u y) (Some_inj (sym p.1 ∙ f)) (subst (λ n. HasShape s.types n new) p.0 g)
    | inr p ↦ h.uniques u v (sym p ∙ f)
  ];
  owned = h.owned;
  forms = h.forms;
}

owner_with : (new : Value) (x : Register) (old v : Value) (u t : ℕ) → owned_by x ≡ Some (old, u) → with_owned new x ≡ Register.Owner v t → (new ≡ v) × (u ≡ t)
owner_with new Register.Undefined old v u t e f = cc
owner_with new (Register.Int k) old v u t e f = cc
owner_with new (Register.Reference p) old v u t e f = cc
owner_with new (Register.Owner w x) old v u t e f =
    let g : Register.Owner new x ≡ Register.Owner v t = f in let k : x ≡ u = ap (λ (p : Value × ℕ). p.1) (Some_inj e) in (cc, cc)

typed_held : (s : State) (r : ℕ) (old new : Value) (t : ℕ) → IsTyped s → owned_by (register s r) ≡ Some (old, t) → HasShape s.types t new → IsTyped (set_register s r (with_owned new (register s r)))
typed_held s r old new t h e g = record {
  names = h.names;
  counts = h.counts;
  uniques = h.uniques;
  forms = h.forms;
  owned = λ q v u f. elim (register_set s r q (with_owned new (register s r))) [
    | inl p ↦ let x = owner_with new (register s r) old v t u e (sym p.0 ∙ f) in subst (λ y. HasShape s.types u y) x.0 (subst (λ n. HasShape s.types n new) x.1 g)
    | inr p ↦ h.owned q v u (sym p ∙ f)
  ];
}

pub typed_put : (s : State) (r : Origin) (old new : Value) (t : ℕ) → IsTyped s → at_origin s r ≡ Some (old, t) → HasShape s.types t new → IsTyped (put_origin s r new)
typed_put s (Origin.Name name i) old new t h e g =
    let o = object_at s name i old t e in
    subst (λ z. IsTyped z) (sym (put_named s name i o.0 new o.1)) (typed_named s name i o.0 old new h o.1 o.2 (subst (λ n. HasShape s.types n new) (sym o.3) g))
typed_put s (Origin.Unique u) old new t h e g =
    let a = bind_some (s.uniques u) (λ v. Some (v, u)) (old, t) e in
    typed_unique s u new h (subst (λ n. HasShape s.types n new) (sym (ap (λ (p : Value × ℕ). p.1) (Some_inj a.2))) g)
typed_put s (Origin.Owned r) old new t h e g = typed_held s r old new t h e g

-- a value without parts
abbrev pub IsLeaf : Value → Type 0
IsLeaf v = (x : Selector) (w : Value) → selected v x ≡ Some w → ⊥

pub number_leaf : (k : ℤ) → IsLeaf (Int k)
number_leaf k (Selector.item i) w e = cc
number_leaf k (Selector.field i) w e = cc
number_leaf k (Selector.key i) w e = cc
number_leaf k Selector.content w e = cc

pub text_leaf : (bytes : List ℕ) → IsLeaf (Text bytes)
text_leaf bytes (Selector.item i) w e = cc
text_leaf bytes (Selector.field i) w e = cc
text_leaf bytes (Selector.key i) w e = cc
text_leaf bytes Selector.content w e = cc

-- after a value replaces a leaf, all other paths still refer to a value
leaf_put : (xs ys : List Selector) (v b old new : Value) → IsLeaf old → values.value_at v xs ≡ Some old → values.value_at v ys ≡ Some b → (c : Value) × (values.value_at (values.with_value_at xs new v) ys ≡ Some c)
leaf_put [] [] v b old new leaf e f = (new, refl)
leaf_put [] (y ∷ ys) v b old new leaf e f =
    let q = then_some (λ u. values.value_at u ys) (selected v y) b f in
    absurd (leaf y q.0 (ap (λ u. selected u y) (sym (Some_inj e)) ∙ q.1))
leaf_put (z ∷ xs) [] v b old new leaf e f = (values.with_value_at (z ∷ xs) new v, refl)
leaf_put (z ∷ xs) (y ∷ ys) v b old new leaf e f =
    let p = then_some (λ u. values.value_at u xs) (selected v z) old e in
    let q = then_some (λ u. values.value_at u ys) (selected v y) b f in
    elim (part_after v z y (values.with_value_at xs new) p.0 q.0 p.1 q.1) [
      | inl r ↦
          let more = leaf_put xs ys p.0 b old new leaf p.2 (ap (λ u. values.value_at u ys) (sym r.1) ∙ q.2) in
          (more.0, ap (λ o. option_and_then (λ u. values.value_at u ys) o) r.0 ∙ more.1)
      | inr r ↦ (b, ap (λ o. option_and_then (λ u. values.value_at u ys) o) r ∙ q.2)
    ]

-- a put at a path is a put at its root
pub put_at_is : (s : State) (p : Path) (v0 new : Value) (t0 : ℕ) → at_origin s p.origin ≡ Some (v0, t0) → put_at s p new ≡ put_origin s p.origin (values.with_value_at p.selectors new v0)
put_at_is s p v0 new t0 e = ap (λ o. option_map_or (λ (root : Value × ℕ). put_origin s p.origin (values.with_value_at p.selectors new root.0)) o s) e

with_owned_none : (v : Value) (x : Register) → owned_by x ≡ None → with_owned v x ≡ x
with_owned_none v Register.Undefined e = refl
with_owned_none v (Register.Int k) e = refl
with_owned_none v (Register.Reference p) e = refl
with_owned_none v (Register.Owner w t) e = cc

-- what is known of a register is true after a put, if its reference is still valid
meets_put : (constants : List Constant) (s s' : State) (new : Value) (k : RegisterType) (x x' : Register) → ((x' ≡ x) ⊎ (x' ≡ with_owned new x))
    → ((class : Class) (t : ℕ) → k ≡ RegisterType.Reference class t → (q : Path) → x ≡ Register.Reference q → LeadsToType s q t → LeadsToType s' q t)
    → Meets constants s k x → Meets constants s' k x'
meets_put constants s s' new RegisterType.Undefined x x' e stays m = ap owned_by (same_if_none e) ∙ m
  where
    same_if_none : ((x' ≡ x) ⊎ (x' ≡ with_owned new x)) → x' ≡ x
    same_if_none (inl f) = f
    same_if_none (inr f) = f ∙ with_owned_none new x m
meets_put constants s s' new RegisterType.Int x x' e stays m = (m.0, same_if_none e ∙ m.1)
  where
    same_if_none : ((x' ≡ x) ⊎ (x' ≡ with_owned new x)) → x' ≡ x
    same_if_none (inl f) = f
    same_if_none (inr f) = f ∙ with_owned_none new x (ap owned_by m.1)
meets_put constants s s' new (RegisterType.Reference class t) x x' e stays m =
    record { path = m.path; is = same_if_none e ∙ m.is; within = m.within; leads = stays class t refl m.path m.is m.leads }
  where
    same_if_none : ((x' ≡ x) ⊎ (x' ≡ with_owned new x)) → x' ≡ x
    same_if_none (inl f) = f
    same_if_none (inr f) = f ∙ with_owned_none new x (ap owned_by m.is)
meets_put constants s s' new (RegisterType.Owner t) x x' (inl f) stays m = (m.0, f ∙ m.1)
meets_put constants s s' new (RegisterType.Owner t) x x' (inr f) stays m = (new, f ∙ ap (with_owned new) m.1)

-- Putting a value that fits at a reference keeps what is known, if each known reference is still
-- valid.
pub agrees_put : (types : Table) (constants : List Constant) (ks : RegisterTypes) (s : State) (p : Path) (t : ℕ) (new : Value) → IsAsKnown types constants ks s
    → LeadsToType s p t → HasShape s.types t new → ((r : ℕ) (class : Class) (u : ℕ) → known ks r ≡ RegisterType.Reference class u → (q : Path)
    → register s r ≡ Register.Reference q → LeadsToType s q u → LeadsToType (put_at s p new) q u) → IsAsKnown types constants ks (put_at s p new)
agrees_put types constants ks s p t new h l g stays =
    let a = bind_some (at_origin s p.origin) (λ root. values.value_at root.0 p.selectors) l.value l.there in
    let b = bind_some (at_origin s p.origin) (λ root. type_along s.types p.selectors root.1) t l.typed in
    let v0 : Value = a.0.0 in
    let t0 : ℕ = a.0.1 in
    let at : at_origin s p.origin ≡ Some (v0, t0) = a.1 in
    let to : type_along s.types p.selectors t0 ≡ Some t = ap (λ (q : Value × ℕ). type_along s.types p.selectors q.1) (Some_inj (sym a.1 ∙ b.1)) ∙ b.2 in
    let v1 : Value = values.with_value_at p.selectors new v0 in
    let fits : HasShape s.types t0 v1 = has_put s.types p.selectors t0 t v0 l.value new (has_origin s p.origin v0 t0 h.typed at) to a.2 g in
    let is : put_at s p new ≡ put_origin s p.origin v1 = put_at_is s p v0 new t0 at in
    subst (λ z. IsAsKnown types constants ks z) (sym is) (record {
      count = put_length s p.origin v0 v1 t0 at ∙ h.count;
      each = λ r. meets_put constants s (put_origin s p.origin v1) v1 (known ks r) (register s r) (register (put_origin s p.origin v1) r) (put_register s p.origin v0 v1 t0 at r)
          (λ class u k q f m. subst (λ z. LeadsToType z q u) is (stays r class u k q f m)) (h.each r);
      typed = typed_put s p.origin v0 v1 t0 h.typed at fits;
      same_types = λ n k e. ap (λ (ts : Table). form_at ts n) (put_types s p.origin v0 v1 t0 at) ∙ h.same_types n k e;
    })

-- after a value replaces a leaf, all paths are still valid
pub leads_leaf : (s : State) (p q : Path) (t u : ℕ) (new : Value) (l : LeadsToType s p t) → IsLeaf l.value → LeadsToType s q u → LeadsToType (put_at s p new) q u
leads_leaf s p q t u new l leaf m =
    let a = bind_some (at_origin s p.origin) (λ root. values.value_at root.0 p.selectors) l.value l.there in
    let v0 : Value = a.0.0 in
    let t0 : ℕ = a.0.1 in
    let at : at_origin s p.origin ≡ Some (v0, t0) = a.1 in
    let v1 : Value = values.with_value_at p.selectors new v0 in
    let s' = put_origin s p.origin v1 in
    let ts : s'.types ≡ s.types = put_types s p.origin v0 v1 t0 at in
    subst (λ z. LeadsToType z q u) (sym (put_at_is s p v0 new t0 at))
    (elim (origin_put s p.origin v0 v1 t0 at q.origin) [
      | inl r ↦
          let before : at_origin s q.origin ≡ Some (v0, t0) = ap (at_origin s) (sym r.0) ∙ at in
          let c = leaf_put p.selectors q.selectors v0 m.value l.value new leaf a.2 (ap (λ o. o >>= λ (root : Value × ℕ). values.value_at root.0 q.selectors) (sym before) ∙ m.there) in
          record {
            value = c.0;
            there = ap (λ o. o >>= λ (root : Value × ℕ). values.value_at root.0 q.selectors) r.1 ∙ c.1;
            typed = ap (λ o. o >>= λ (root : Value × ℕ). type_along s'.types q.selectors root.1) r.1 ∙ ap (λ ts. type_along ts q.selectors t0) ts
                ∙ ap (λ o. o >>= λ (root : Value × ℕ). type_along s.types q.selectors root.1) (sym before) ∙ m.typed;
          }
      | inr r ↦ leads_same s s' q u ts r m
    ])

-- what was put is there
pub put_same : (xs : List Selector) (v old new : Value) → values.value_at v xs ≡ Some old → values.value_at (values.with_value_at xs new v) xs ≡ Some new
put_same [] v old new e = refl
put_same (x ∷ xs) v old new e =
    let p = then_some (λ u. values.value_at u xs) (selected v x) old e in
    ap (λ o. option_and_then (λ u. values.value_at u xs) o) (part_same v x (values.with_value_at xs new) p.0 p.1) ∙ put_same xs p.0 old new p.2

pub leads_here : (s : State) (p : Path) (t : ℕ) (new : Value) → LeadsToType s p t → (l : LeadsToType (put_at s p new) p t) × (l.value ≡ new)
leads_here s p t new l =
    let a = bind_some (at_origin s p.origin) (λ root. values.value_at root.0 p.selectors) l.value l.there in
    let v0 : Value = a.0.0 in
    let t0 : ℕ = a.0.1 in
    let at : at_origin s p.origin ≡ Some (v0, t0) = a.1 in
    let v1 : Value = values.with_value_at p.selectors new v0 in
    let s' = put_origin s p.origin v1 in
    let is : put_at s p new ≡ s' = put_at_is s p v0 new t0 at in
    let root = origin_put_same s p.origin v0 v1 t0 at in (
      record {
        value = new;
        there = ap (λ z. path_value z p) is ∙ ap (λ o. o >>= λ (r : Value × ℕ). values.value_at r.0 p.selectors) root ∙ put_same p.selectors v0 l.value new a.2;
        typed = ap (λ z. path_type z p) is ∙ ap (λ o. o >>= λ (r : Value × ℕ). type_along s'.types p.selectors r.1) root ∙ ap (λ ts. type_along ts p.selectors t0) (put_types s p.origin v0 v1 t0 at)
            ∙ ap (λ o. o >>= λ (r : Value × ℕ). type_along s.types p.selectors r.1) (sym at) ∙ l.typed;
      },
      refl,
    )

-- chains of lookups are associative
bind_assoc : {A B C : Type 0} (o : Option A) (f : A → Option B) (g : B → Option C) → (o >>= λ a. f a >>= g) ≡ ((o >>= f) >>= g)
bind_assoc None f g = refl
bind_assoc (Some a) f g = refl

bind_same : {A B : Type 0} (o : Option A) (f g : A → Option B) → ((a : A) → f a ≡ g a) → (o >>= f) ≡ (o >>= g)
bind_same None f g h = refl
bind_same (Some a) f g h = h a

some_same : {A : Type 0} (o : Option A) → (o >>= λ w. Some w) ≡ o
some_same None = refl
some_same (Some w) = refl

and_then_same : {A B : Type 0} (o : Option A) (f g : A → Option B) → ((a : A) → f a ≡ g a) → option_and_then f o ≡ option_and_then g o
and_then_same None f g h = refl
and_then_same (Some a) f g h = h a

and_then_assoc : {A B C : Type 0} (o : Option A) (f : A → Option B) (g : B → Option C) → option_and_then (λ a. f a >>= g) o ≡ (option_and_then f o >>= g)
and_then_assoc None f g = refl
and_then_assoc (Some a) f g = refl

-- the value at a longer path is the part of the value at the path
value_more : (xs : List Selector) (x : Selector) (v : Value) → values.value_at v (xs ++ x ∷ []) ≡ (values.value_at v xs >>= λ w. selected w x)
value_more [] x v = last (selected v x)
  where
    last : (o : Option Value) → option_and_then (λ u. Some u) o ≡ o
    last None = refl
    last (Some w) = refl
value_more (y ∷ ys) x v =
    and_then_same (selected v y) (λ u. values.value_at u (ys ++ x ∷ [])) (λ u. values.value_at u ys >>= λ w. selected w x) (λ u. value_more ys x u) ∙ and_then_assoc (selected v y) (λ u. values.value_at u ys) (λ w. selected w x)

type_more : (types : Table) (xs : List Selector) (x : Selector) (t : ℕ) → type_along types (xs ++ x ∷ []) t ≡ (type_along types xs t >>= λ u. form_at types u >>= part_type x)
type_more types [] x t = bind_same (form_at types t) (λ k. part_type x k >>= λ u. Some u) (part_type x) (λ k. some_same (part_type x k))
type_more types (y ∷ ys) x t =
    let last = λ (u : ℕ). form_at types u >>= part_type x in
    bind_same (form_at types t) (λ k. part_type y k >>= type_along types (ys ++ x ∷ [])) (λ k. (part_type y k >>= type_along types ys) >>= last)
    (λ k. bind_same (part_type y k) (type_along types (ys ++ x ∷ [])) (λ u. type_along types ys u >>= last) (λ u. type_more types ys x u) ∙ bind_assoc (part_type y k) (type_along types ys) last)
    ∙ bind_assoc (form_at types t) (λ k. part_type y k >>= type_along types ys) last

-- a path to a value with such a part can be extended
pub leads_extend : (s : State) (p : Path) (t u : ℕ) (x : Selector) (k : Form) (w : Value) → (l : LeadsToType s p t) → form_at s.types t ≡ Some k → part_type x k ≡ Some u → selected l.value x ≡ Some w → LeadsToType s (extend p x) u
leads_extend s p t u x k w l e f g =
    let a = bind_some (at_origin s p.origin) (λ root. values.value_at root.0 p.selectors) l.value l.there in
    let b = bind_some (at_origin s p.origin) (λ root. type_along s.types p.selectors root.1) t l.typed in
    record {
      value = w;
      there = ap (λ o. o >>= λ (r : Value × ℕ). values.value_at r.0 (p.selectors ++ x ∷ [])) a.1 ∙ value_more p.selectors x a.0.0 ∙ ap (λ o. o >>= λ w. selected w x) a.2 ∙ g;
      typed = ap (λ o. o >>= λ (r : Value × ℕ). type_along s.types (p.selectors ++ x ∷ []) r.1) b.1 ∙ type_more s.types p.selectors x b.0.1 ∙ ap (λ o. o >>= λ u. form_at s.types u >>= part_type x) b.2
          ∙ ap (λ o. o >>= part_type x) e ∙ f;
    }

pub put_at_types : (s : State) (p : Path) (t : ℕ) (new : Value) → LeadsToType s p t → (put_at s p new).types ≡ s.types
put_at_types s p t new l =
    let a = bind_some (at_origin s p.origin) (λ root. values.value_at root.0 p.selectors) l.value l.there in
    ap (λ (z : State). z.types) (put_at_is s p a.0.0 new a.0.1 a.1) ∙ put_types s p.origin a.0.0 (values.with_value_at p.selectors new a.0.0) a.0.1 a.1
