-- The verifier's knowledge without read-only references. An operation that leaves frozen objects
-- alone has the same rule without this knowledge, and its rule makes no read-only reference.
use Rattle.std.proofs.Common.{◌≡◌, ℕ, zero, suc, [], ◌∷◌, Option, Some, None, refl, sym, ◌∙◌, ap, subst, inl, inr, true, false, Bool}
use Rattle.std.specs.Prelude.{⊤, Ok, Err, ◌==◌, slice_set, option_and_then, if◌then◌else◌}
use Rattle.seg_spec.specs.Types.{Form, Table, form_at}
use Rattle.client_spec.specs.declared.table.Operation.{Operation}
use Rattle.client_spec.specs.declared.table.Need.{Need}
use Rattle.client_spec.specs.Operations.{row_of}
use Rattle.client_spec.specs.Syntax.{Constant}
use Rattle.client_spec.specs.Typed.{Class, RegisterType, Checked, Reason, RegisterTypes, Rule, known, is_owner, is_frozen, same_class, sharing, without_class, ended, others_ended}
use Rattle.client_spec.specs.Typed.{integer_needed, reference_needed, owner_needed, copy_needed, name_needed, integer_or_none, form_needed}
use Rattle.client_spec.specs.Typed.{item_known}
use Rattle.client_spec.specs.Bare.{bare_one, bare}
use Rattle.client_spec.specs.Typed.{known_after, assigned, gives, opens, combines}
use Rattle.client_spec.specs.Typed as typed
use Rattle.client_spec.proofs.TypedStates.StateLaws.{slots}
use Rattle.client_spec.proofs.TypedStates.ClassLaws.{known_ended}
use Rattle.client_spec.proofs.Rows.RuleRowLaws.{bind_ok, Ok_inj}
use Rattle.client_spec.proofs.TypedStates.ValueFormLaws.{reference_is}
use Rattle.client_spec.proofs.TypedStates.ValueLaws.{Some_inj}

pub known_bare : (ks : RegisterTypes) (r : ℕ) → known (bare ks) r ≡ bare_one (known ks r)
known_bare [] r = refl
known_bare (k ∷ ks) zero = refl
known_bare (k ∷ ks) (suc r) = known_bare ks r

pub bare_set : (ks : RegisterTypes) (a : ℕ) (k : RegisterType) → bare (slice_set ks a k) ≡ slice_set (bare ks) a (bare_one k)
bare_set [] a k = refl
bare_set (x ∷ ks) zero k = refl
bare_set (x ∷ ks) (suc a) k = ap (λ ys. bare_one x ∷ ys) (bare_set ks a k)

bare_without : (class : Class) (k : RegisterType) → bare_one (without_class class k) ≡ without_class class (bare_one k)
bare_without class RegisterType.Undefined = refl
bare_without class RegisterType.Int = refl
bare_without class (RegisterType.Owner t) = refl
bare_without class (RegisterType.Reference x t) = choose (same_class class (sharing x)) (is_frozen x) refl refl
  where
    choose : (b c : Bool) → same_class class (sharing x) ≡ b → is_frozen x ≡ c
        → bare_one (if b then RegisterType.Undefined else RegisterType.Reference x t) ≡ without_class class (if c then RegisterType.Undefined else RegisterType.Reference x t)
    choose true true e f = refl
    choose true false e f = ap (λ z. if z then RegisterType.Undefined else RegisterType.Reference x t) (sym e)
    choose false true e f = ap (λ z. if z then RegisterType.Undefined else RegisterType.Reference x t) f
    choose false false e f = ap (λ z. if z then RegisterType.Undefined else RegisterType.Reference x t) f ∙ ap (λ z. if z then RegisterType.Undefined else RegisterType.Reference x t) (sym e)

pub bare_ended : (class : Class) (ks : RegisterTypes) → bare (ended class ks) ≡ ended class (bare ks)
bare_ended class [] = refl
bare_ended class (k ∷ ks) = ap (λ y. y ∷ bare (ended class ks)) (bare_without class k) ∙ ap (λ ys. without_class class (bare_one k) ∷ ys) (bare_ended class ks)

pub bare_others : (class : Class) (b : ℕ) (ks : RegisterTypes) → bare (others_ended class b ks) ≡ others_ended class b (bare ks)
bare_others class b ks =
    bare_set (ended (sharing class) ks) b (known ks b)
    ∙ ap (λ es. slice_set es b (bare_one (known ks b))) (bare_ended (sharing class) ks)
    ∙ ap (slice_set (ended (sharing class) (bare ks)) b) (sym (known_bare ks b))

pub bare_owner : (k : RegisterType) → is_owner (bare_one k) ≡ is_owner k
bare_owner RegisterType.Undefined = refl
bare_owner RegisterType.Int = refl
bare_owner (RegisterType.Owner t) = refl
bare_owner (RegisterType.Reference x t) = choose (is_frozen x)
  where
    choose : (b : Bool) → is_owner (if b then RegisterType.Undefined else RegisterType.Reference x t) ≡ false
    choose true = refl
    choose false = refl

-- ---- read-only references

-- a reference that is read-only afterwards was there before, and was read-only
abbrev pub FrozenFrom : RegisterTypes → RegisterTypes → Type 0
FrozenFrom before after = (r : ℕ) (x : Class) (t : ℕ) → known after r ≡ RegisterType.Reference (Class.Frozen x) t → known before r ≡ RegisterType.Reference (Class.Frozen x) t

frozen_ended : (class : Class) (k : RegisterType) (x : Class) (t : ℕ) → without_class class k ≡ RegisterType.Reference (Class.Frozen x) t → k ≡ RegisterType.Reference (Class.Frozen x) t
frozen_ended class RegisterType.Undefined x t e = cc
frozen_ended class RegisterType.Int x t e = cc
frozen_ended class (RegisterType.Owner u) x t e = cc
frozen_ended class (RegisterType.Reference y u) x t e = choose (same_class class (sharing y)) e
  where
    choose : (b : Bool) → (if b then RegisterType.Undefined else RegisterType.Reference y u) ≡ RegisterType.Reference (Class.Frozen x) t → RegisterType.Reference y u ≡ RegisterType.Reference (Class.Frozen x) t
    choose true f = cc
    choose false f = f

pub from_ended : (class : Class) (before ks : RegisterTypes) → FrozenFrom before ks → FrozenFrom before (ended class ks)
from_ended class before ks f r x t e = f r x t (frozen_ended class (known ks r) x t (sym (known_ended class ks r) ∙ e))

-- anything but a read-only reference
abbrev pub IsBare : RegisterType → Type 0
IsBare k = bare_one k ≡ k

pub bare_is_none : (k : RegisterType) (x : Class) (t : ℕ) → IsBare k → k ≡ RegisterType.Reference (Class.Frozen x) t → ⊥
bare_is_none k x t b e = let f : RegisterType.Undefined ≡ RegisterType.Reference (Class.Frozen x) t = sym (ap bare_one e) ∙ b ∙ e in cc

pub from_set : (a : ℕ) (k : RegisterType) (before ks : RegisterTypes) → IsBare k → FrozenFrom before ks → FrozenFrom before (slice_set ks a k)
from_set a k before ks b f r x t e = elim (slots ks ks a r k RegisterType.Undefined k RegisterType.Undefined refl) [
  | inl p ↦ absurd (bare_is_none k x t b (sym p.0 ∙ e))
  | inr p ↦ f r x t (sym p.0 ∙ e)
]

from_others : (class : Class) (b : ℕ) (before ks : RegisterTypes) → IsBare (known ks b) → FrozenFrom before ks → FrozenFrom before (others_ended class b ks)
from_others class b before ks bare_b f = from_set b (known ks b) before (ended (sharing class) ks) bare_b (from_ended (sharing class) before ks f)

-- ---- rules

-- If the first rule gives a result, the second gives the same without read-only references, of
-- which none is new.
pub record Bares (before : RegisterTypes) (r bared : Rule) : Type 0 where
  pub same : (good bad : RegisterTypes) → r ≡ Ok (good, bad) → (bared ≡ Ok (bare good, bare bad)) × FrozenFrom before good × FrozenFrom before bad

module _ (before : RegisterTypes) where
  pub binds : {A : Type 0} (c d : Checked A) (f g : A → Rule) → ((x : A) → c ≡ Ok x → (d ≡ Ok x) × Bares before (f x) (g x)) → Bares before (typed.◌>>=◌ c f) (typed.◌>>=◌ d g)
  binds c d f g each = record {
    same = λ good bad e.
        let p = bind_ok c f (good, bad) e in
        let q = each p.0 p.1 in
        let s = q.1.same good bad p.2 in
        (ap (λ z. typed.◌>>=◌ z g) q.0 ∙ s.0, s.1, s.2);
  }

  pub after_bares : (ks : RegisterTypes) → FrozenFrom before ks → Bares before (known_after ks) (known_after (bare ks))
  after_bares ks f = record {
    same = λ good bad e.
        let p : (ks, ks) ≡ (good, bad) = Ok_inj e in
        let one : ks ≡ good = ap (λ (z : RegisterTypes × RegisterTypes). z.0) p in
        let two : ks ≡ bad = ap (λ (z : RegisterTypes × RegisterTypes). z.1) p in
        (ap (λ (z : RegisterTypes × RegisterTypes). Ok (bare z.0, bare z.1)) p, subst (FrozenFrom before) one f, subst (FrozenFrom before) two f);
  }

  -- a register gets something that isn't a read-only reference
  assigned_bare : (a : ℕ) (k : RegisterType) (ks good : RegisterTypes) → IsBare k → FrozenFrom before ks → assigned a k ks ≡ Ok good → (assigned a k (bare ks) ≡ Ok (bare good)) × FrozenFrom before good
  assigned_bare a k ks good b f e = choose (is_owner (known ks a)) refl e
    where
      choose : (o : Bool) → is_owner (known ks a) ≡ o → (if o then Err Reason.OwnerLost else Ok (slice_set ks a k)) ≡ Ok good → (assigned a k (bare ks) ≡ Ok (bare good)) × FrozenFrom before good
      choose true g h = cc
      choose false g h =
          let is : slice_set ks a k ≡ good = Ok_inj h in
          let free : is_owner (known (bare ks) a) ≡ false = ap is_owner (known_bare ks a) ∙ bare_owner (known ks a) ∙ g in (
            ap (λ o. if o then Err Reason.OwnerLost else Ok (slice_set (bare ks) a k)) free ∙ ap (λ z. Ok (slice_set (bare ks) a z)) (sym b) ∙ ap Ok (sym (bare_set ks a k)) ∙ ap (λ z. Ok (bare z)) is,
            subst (FrozenFrom before) is (from_set a k before ks b f),
          )

  pub gives_bare : (a : ℕ) (k : RegisterType) (ks : RegisterTypes) → IsBare k → FrozenFrom before ks → Bares before (gives a k ks) (gives a k (bare ks))
  gives_bare a k ks b f = record {
    same = λ good bad e.
        let p = bind_ok (assigned a k ks) known_after (good, bad) e in
        let q = assigned_bare a k ks p.0 b f p.1 in
        let s = (after_bares p.0 q.1).same good bad p.2 in
        (ap (λ z. typed.◌>>=◌ z known_after) q.0 ∙ s.0, s.1, s.2);
  }

  pub opens_bare : (a : ℕ) (k : RegisterType) (ks : RegisterTypes) → IsBare k → FrozenFrom before ks → Bares before (opens a k ks) (opens a k (bare ks))
  opens_bare a k ks b f = record {
    same = λ good bad e.
        let rest = λ (g : RegisterTypes). typed.◌>>=◌ (assigned a RegisterType.Int ks) (λ bad. Ok (g, bad)) in
        let p = bind_ok (assigned a k ks) rest (good, bad) e in
        let q = bind_ok (assigned a RegisterType.Int ks) (λ bad. Ok (p.0, bad)) (good, bad) p.2 in
        let one = assigned_bare a k ks p.0 b f p.1 in
        let two = assigned_bare a RegisterType.Int ks q.0 refl f q.1 in
        let both : (p.0, q.0) ≡ (good, bad) = Ok_inj q.2 in (
          ap (λ z. typed.◌>>=◌ z (λ g. typed.◌>>=◌ (assigned a RegisterType.Int (bare ks)) (λ bad. Ok (g, bad)))) one.0 ∙ ap (λ z. typed.◌>>=◌ z (λ bad. Ok (bare p.0, bad))) two.0
              ∙ ap (λ (z : RegisterTypes × RegisterTypes). Ok (bare z.0, bare z.1)) both,
          subst (FrozenFrom before) (ap (λ (z : RegisterTypes × RegisterTypes). z.0) both) one.1,
          subst (FrozenFrom before) (ap (λ (z : RegisterTypes × RegisterTypes). z.1) both) two.1,
        );
  }

pub integer_bare : (k : RegisterType) (u : ⊤) → integer_needed k ≡ Ok u → integer_needed (bare_one k) ≡ Ok u
integer_bare RegisterType.Undefined u e = cc
integer_bare RegisterType.Int u e = e
integer_bare (RegisterType.Reference x t) u e = cc
integer_bare (RegisterType.Owner t) u e = cc

owner_bare : (k : RegisterType) (t : ℕ) → owner_needed k ≡ Ok t → owner_needed (bare_one k) ≡ Ok t
owner_bare RegisterType.Undefined t e = cc
owner_bare RegisterType.Int t e = cc
owner_bare (RegisterType.Reference x u) t e = cc
owner_bare (RegisterType.Owner u) t e = e

pub copy_bare : (k l : RegisterType) → copy_needed k ≡ Ok l → k ≡ l
copy_bare RegisterType.Undefined l e = cc
copy_bare RegisterType.Int l e = Ok_inj e
copy_bare (RegisterType.Reference x u) l e = Ok_inj e
copy_bare (RegisterType.Owner u) l e = cc

-- a reference of the same class as one that isn't read-only isn't read-only either
pub class_bare : (k : RegisterType) (x : Class × ℕ) (t : ℕ) → IsBare k → reference_needed k ≡ Ok x → IsBare (RegisterType.Reference x.0 t)
class_bare k x t b e =
    let is : k ≡ RegisterType.Reference x.0 x.1 = reference_is k x e in
    by (is_frozen x.0) refl (sym (ap bare_one is) ∙ b ∙ is)
  where
    by : (c : Bool) → is_frozen x.0 ≡ c → (if is_frozen x.0 then RegisterType.Undefined else RegisterType.Reference x.0 x.1) ≡ RegisterType.Reference x.0 x.1 → IsBare (RegisterType.Reference x.0 t)
    by true f g = absurd (let h : RegisterType.Undefined ≡ RegisterType.Reference x.0 x.1 = sym (ap (λ c. if c then RegisterType.Undefined else RegisterType.Reference x.0 x.1) f) ∙ g in cc)
    by false f g = ap (λ c. if c then RegisterType.Undefined else RegisterType.Reference x.0 t) f

pub item_bare : (x : Class) (form : Form) (k : RegisterType) → ((t : ℕ) → IsBare (RegisterType.Reference x t)) → item_known x form ≡ Some k → IsBare k
item_bare x Form.str k b e = ap bare_one (sym (Some_inj e)) ∙ Some_inj e
item_bare x (Form.vec t) k b e = ap bare_one (sym (Some_inj e)) ∙ b t ∙ Some_inj e
item_bare x (Form.list t) k b e = ap bare_one (sym (Some_inj e)) ∙ b t ∙ Some_inj e
item_bare x form k b e = cc

pub some_form : {A : Type 0} (f : Form → Option A) (types : Table) (t : ℕ) (y : A) → form_needed f types t ≡ Ok y → (form : Form) × (f form ≡ Some y)
some_form {A = A} f types t y e = of_entry (form_at types t) e
  where
    of_what : (o : Option A) → typed.some_needed o ≡ Ok y → o ≡ Some y
    of_what None e = cc
    of_what (Some z) e = ap Some (Ok_inj e)

    of_entry : (o : Option Form) → typed.some_needed (option_and_then f o) ≡ Ok y → (form : Form) × (f form ≡ Some y)
    of_entry None e = cc
    of_entry (Some form) e = (form, of_what (f form) e)

name_bare : (o : Option Constant) (k : RegisterType) (u : ⊤) → name_needed o k ≡ Ok u → name_needed o (bare_one k) ≡ Ok u
name_bare None k u e = cc
name_bare (Some (Constant.Text bytes)) k u e = cc
name_bare (Some (Constant.Name name)) k u e = e
name_bare (Some (Constant.Family prefix)) k u e = integer_bare k u e

-- by b's need: b isn't read-only if the operation may use b to continue into a value
abbrev pub IsBareFor : Need → RegisterType → Type 0
IsBareFor Need.Copyable k = IsBare k
IsBareFor (Need.Reference kinds) k = IsBare k
IsBareFor (Need.Changeable kinds) k = IsBare k
IsBareFor need k = ⊤

abbrev pub BareThere : Operation → RegisterType → Type 0
BareThere operation k = IsBareFor (row_of operation).needs_b k

pub itself : (ks : RegisterTypes) → FrozenFrom ks ks
itself ks r x t e = e

pub others_from : (ks : RegisterTypes) (b : ℕ) → IsBare (known ks b) → (class : Class) → FrozenFrom ks (others_ended class b ks)
others_from ks b b_is class = from_others class b ks ks b_is (itself ks)

-- ending a class makes no read-only reference
pub ended_from : (ks : RegisterTypes) (class : Class) → FrozenFrom ks (ended class ks)
ended_from ks class = from_ended class ks ks (itself ks)

module _ {ks : RegisterTypes} where
  pub gives_here : (a : ℕ) (k : RegisterType) → IsBare k → Bares ks (gives a k ks) (gives a k (bare ks))
  gives_here a k i = gives_bare ks a k ks i (itself ks)

  pub opens_here : (a : ℕ) (k : RegisterType) → IsBare k → Bares ks (opens a k ks) (opens a k (bare ks))
  opens_here a k i = opens_bare ks a k ks i (itself ks)

  -- the rule that ends the class's other references and then sets register a
  pub opens_others : (b : ℕ) → IsBare (known ks b) → (a : ℕ) (k : RegisterType) (class : Class) → IsBare k → Bares ks (opens a k (others_ended class b ks)) (opens a k (others_ended class b (bare ks)))
  opens_others b b_is a k class i = subst (λ es. Bares ks (opens a k (others_ended class b ks)) (opens a k es)) (bare_others class b ks) (opens_bare ks a k (others_ended class b ks) i (others_from ks b b_is class))

  pub gives_others : (b : ℕ) → IsBare (known ks b) → (a : ℕ) (k : RegisterType) (class : Class) → IsBare k → Bares ks (gives a k (others_ended class b ks)) (gives a k (others_ended class b (bare ks)))
  gives_others b b_is a k class i = subst (λ es. Bares ks (gives a k (others_ended class b ks)) (gives a k es)) (bare_others class b ks) (gives_bare ks a k (others_ended class b ks) i (others_from ks b b_is class))

  -- the tests of registers
  pub needs_integer : (r : ℕ) (f g : Rule) → Bares ks f g → Bares ks (typed.◌>>=◌ (integer_needed (known ks r)) (λ _. f)) (typed.◌>>=◌ (integer_needed (known (bare ks) r)) (λ _. g))
  needs_integer r f g h = binds ks (integer_needed (known ks r)) (integer_needed (known (bare ks) r)) (λ _. f) (λ _. g) (λ u e. (ap integer_needed (known_bare ks r) ∙ integer_bare (known ks r) u e, h))

  pub needs_reference : (b : ℕ) → IsBare (known ks b) → (f g : Class × ℕ → Rule) → ((x : Class × ℕ) → ((t : ℕ) → IsBare (RegisterType.Reference x.0 t)) → Bares ks (f x) (g x))
      → Bares ks (typed.◌>>=◌ (reference_needed (known ks b)) f) (typed.◌>>=◌ (reference_needed (known (bare ks) b)) g)
  needs_reference b b_is f g h = binds ks (reference_needed (known ks b)) (reference_needed (known (bare ks) b)) f g
      (λ x e. (ap reference_needed (known_bare ks b ∙ b_is) ∙ e, h x (λ t. class_bare (known ks b) x t b_is e)))

  pub same_needed : {A : Type 0} (c : Checked A) (f g : A → Rule) → ((x : A) → c ≡ Ok x → Bares ks (f x) (g x)) → Bares ks (typed.◌>>=◌ c f) (typed.◌>>=◌ c g)
  same_needed c f g h = binds ks c c f g (λ x e. (e, h x e))

  pub needs_owner : (r : ℕ) (f g : ℕ → Rule) → ((t : ℕ) → Bares ks (f t) (g t)) → Bares ks (typed.◌>>=◌ (owner_needed (known ks r)) f) (typed.◌>>=◌ (owner_needed (known (bare ks) r)) g)
  needs_owner r f g h = binds ks (owner_needed (known ks r)) (owner_needed (known (bare ks) r)) f g (λ t e. (ap owner_needed (known_bare ks r) ∙ owner_bare (known ks r) t e, h t))

  pub needs_name : (b : ℕ) (o : Option Constant) (f g : Rule) → Bares ks f g → Bares ks (typed.◌>>=◌ (name_needed o (known ks b)) (λ _. f)) (typed.◌>>=◌ (name_needed o (known (bare ks) b)) (λ _. g))
  needs_name b o f g h = binds ks (name_needed o (known ks b)) (name_needed o (known (bare ks) b)) (λ _. f) (λ _. g) (λ u e. (ap (name_needed o) (known_bare ks b) ∙ name_bare o (known ks b) u e, h))

  pub needs_some : (r : ℕ) (f g : Rule) → Bares ks f g → Bares ks (typed.◌>>=◌ (integer_or_none r ks) (λ _. f)) (typed.◌>>=◌ (integer_or_none r (bare ks)) (λ _. g))
  needs_some r f g h = binds ks (integer_or_none r ks) (integer_or_none r (bare ks)) (λ _. f) (λ _. g) (λ u e. (by (r == 16) u e, h))
    where
      by : (c : Bool) (u : ⊤) → (if c then Ok tt else integer_needed (known ks r)) ≡ Ok u → (if c then Ok tt else integer_needed (known (bare ks) r)) ≡ Ok u
      by true u e = e
      by false u e = ap integer_needed (known_bare ks r) ∙ integer_bare (known ks r) u e

  pub needs_form : {A : Type 0} (types : Table) (b : ℕ) → IsBare (known ks b) → (k : Form → Option A) (f g : Class × ℕ → A → Rule) → ((x : Class × ℕ) → ((t : ℕ) → IsBare (RegisterType.Reference x.0 t)) → (y : A) → Bares ks (f x y) (g x y))
      → Bares ks (typed.◌>>=◌ (reference_needed (known ks b)) (λ x. typed.◌>>=◌ (form_needed k types x.1) (f x))) (typed.◌>>=◌ (reference_needed (known (bare ks) b)) (λ x. typed.◌>>=◌ (form_needed k types x.1) (g x)))
  needs_form types b b_is k f g h = needs_reference b b_is (λ x. typed.◌>>=◌ (form_needed k types x.1) (f x)) (λ x. typed.◌>>=◌ (form_needed k types x.1) (g x)) (λ x i. same_needed (form_needed k types x.1) (f x) (g x) (λ y _. h x i y))

  pub combines_here : (b a c : ℕ) → Bares ks (combines a b c ks) (combines a b c (bare ks))
  combines_here b a c = needs_integer b _ _ (needs_integer c _ _ (gives_here a RegisterType.Int refl))

  pub known_here : Bares ks (known_after ks) (known_after (bare ks))
  known_here = after_bares ks ks (itself ks)

  pub gives_ended : (a : ℕ) (class : Class) → Bares ks (gives a RegisterType.Int (ended class ks)) (gives a RegisterType.Int (ended class (bare ks)))
  gives_ended a class = subst (λ es. Bares ks (gives a RegisterType.Int (ended class ks)) (gives a RegisterType.Int es)) (bare_ended class ks) (gives_bare ks a RegisterType.Int (ended class ks) refl (ended_from ks class))

  pub known_others : (b : ℕ) → IsBare (known ks b) → (class : Class) → Bares ks (known_after (others_ended class b ks)) (known_after (others_ended class b (bare ks)))
  known_others b b_is class = subst (λ es. Bares ks (known_after (others_ended class b ks)) (known_after es)) (bare_others class b ks) (after_bares ks (others_ended class b ks) (others_from ks b b_is class))

  pub emptied : (class : Class) (r : ℕ) (es : RegisterTypes) → FrozenFrom ks es
      → Bares ks (known_after (slice_set (ended class es) r RegisterType.Undefined)) (known_after (slice_set (ended class (bare es)) r RegisterType.Undefined))
  emptied class r es f =
      subst (λ xs. Bares ks (known_after (slice_set (ended class es) r RegisterType.Undefined)) (known_after xs)) (bare_set (ended class es) r RegisterType.Undefined ∙ ap (λ xs. slice_set xs r RegisterType.Undefined) (bare_ended class es))
      (after_bares ks (slice_set (ended class es) r RegisterType.Undefined) (from_set r RegisterType.Undefined ks (ended class es) refl (from_ended class ks es f)))
