-- If the verifier's rule accepts an instruction, it has a row, and the state after it is as the
-- rule says.
use Rattle.std.proofs.Common.{◌≡◌, ◌≢◌, ℕ, zero, suc, ◌<◌, ℤ, pos, negsuc, List, [], ◌∷◌, ◌++◌, length, Option, Some, None, refl, sym, ◌∙◌, ap, subst, arith, true, false, Bool}
use Rattle.std.specs.Prelude.{⊤, Ok, Err, slice_get, slice_set, option_and_then, ◌==◌, if◌then◌else◌, nat_lt, int_lt}
use Rattle.std.specs.Int.{w64, int_wrapping_add, int_wrapping_sub, int_wrapping_mul}
use Rattle.std.specs.Fmt.{signed_decimal}
use Rattle.std.specs.Option.{option_map_or}
use Rattle.std.proofs.lemmas.Bool.{eqb-true, ltb-true}
use Rattle.seg_spec.specs.Value.{Label, Value, node, Int, Values, nil, cons, count, nth, same_int}
use Rattle.seg_spec.specs.Types.{Form, Table, form_at}
use Rattle.client_spec.specs.declared.table.Operation.{Operation}
use Rattle.client_spec.specs.Syntax.{Constant}
use Rattle.client_spec.specs.Machine.{◌>>=◌, Origin, Register, Object, State, register, set_register, owned_by, at_origin, path_value, put_at}
use Rattle.client_spec.specs.Shape.{HasShape}
use Rattle.client_spec.specs.Answer.{Answer, success, is_zero, absent, other_type, out_of_range, answer_number, Outcome, integer_in, path_in, integer_at, answer, give}
use Rattle.client_spec.specs.Answer.{fail, refer, proceed, path_from, index_below, type_operand, constant_operand, integer_or, constant_name, write_out, int_in}
use Rattle.client_spec.specs.Effect.{combine, truth, item_of_object, effect}
use Rattle.client_spec.specs.Typed.{Class, RegisterType, Reason, Checked, RegisterTypes, known, is_owner, integer_needed, reference_needed, some_needed}
use Rattle.client_spec.specs.Typed.{name_needed, integer_or_none, form_needed, is_i64, known_after, assigned, gives, opens, combines, rule}
use Rattle.client_spec.specs.Typed as typed
use Rattle.client_spec.specs.Meaning.{IsNamedBy, Refers, Meets, IsAsKnown}
use Rattle.client_spec.proofs.TypedStates.ValueLaws.{Some_inj}
use Rattle.client_spec.proofs.TypedStates.ShapeLaws.{IsOf, form_of_value, value_of_form}
use Rattle.client_spec.proofs.TypedStates.StateLaws.{agrees_set, not_owner, meets_same}
use Rattle.client_spec.proofs.TypedStates.PutLaws.{has_leads, agrees_put, IsLeaf, number_leaf, leads_leaf}

-- a chain of tests that succeeds has succeeded in each
pub bind_ok : {A B : Type 0} (r : Checked A) (f : A → Checked B) (y : B) → typed.◌>>=◌ r f ≡ Ok y → (x : A) × (r ≡ Ok x) × (f x ≡ Ok y)
bind_ok (Ok x) f y e = (x, refl, e)
bind_ok (Err z) f y e = cc

pub Ok_inj : {A : Type 0} {x y : A} → ◌≡◌ {A = Checked A} (Ok x) (Ok y) → x ≡ y
Ok_inj e = cc

pub assigned_ok : (a : ℕ) (k : RegisterType) (ks after : RegisterTypes) → assigned a k ks ≡ Ok after → (is_owner (known ks a) ≡ false) × (after ≡ slice_set ks a k)
assigned_ok a k ks after e = choose (is_owner (known ks a)) refl e
  where
    choose : (b : Bool) → is_owner (known ks a) ≡ b → (if b then Err Reason.OwnerLost else Ok (slice_set ks a k)) ≡ Ok after → (is_owner (known ks a) ≡ false) × (after ≡ slice_set ks a k)
    choose true f g = cc
    choose false f g = (f, sym (Ok_inj g))

-- an index below the length of a list has an item
pub item_below : {A : Type 0} (xs : List A) (i : ℕ) → i < length xs → (v : A) × (slice_get xs i ≡ Some v)
item_below [] i h = absurd (omega arith)
item_below (x ∷ xs) zero h = (x, refl)
item_below (x ∷ xs) (suc i) h = item_below xs i (omega arith)

number_fits : (types : Table) (t : ℕ) (k : ℤ) → form_at types t ≡ Some Form.i64 → HasShape types t (Int k)
unfolding HasShape
number_fits types t k e = value_of_form types t Form.i64 (Int k) e (refl, tt)

-- an index below the number of values has a value
pub nth_below : (vs : Values) (i : ℕ) → i < count vs → (v : Value) × (nth vs i ≡ Some v)
nth_below nil i h = absurd (omega arith)
nth_below (cons v vs) zero h = (v, refl)
nth_below (cons v vs) (suc i) h = nth_below vs i (omega arith)

pub nth_at : (vs : Values) (x : ℤ) (i : ℕ) → index_below (count vs) x ≡ Some i → (v : Value) × (nth vs i ≡ Some v)
nth_at vs (negsuc n) i e = cc
nth_at vs (pos n) i e = choose (nat_lt n (count vs)) refl e
  where
    choose : (b : Bool) → nat_lt n (count vs) ≡ b → (if b then Some n else None) ≡ Some i → (v : Value) × (nth vs i ≡ Some v)
    choose true f g = subst (λ j. (v : Value) × (nth vs j ≡ Some v)) (Some_inj g) (nth_below vs n (ltb-true n (count vs) f))
    choose false f g = cc

-- The outcome has a row, and this is known of the state after it.
pub record Goes (types : Table) (constants : List Constant) (good bad : RegisterTypes) (o : Outcome) : Type 0 where
  pub answer : Answer
  pub state : State
  pub is : o ≡ Some (answer, state)
  pub on_success : answer ≡ success → IsAsKnown types constants good state
  pub on_code : answer ≢ success → IsAsKnown types constants bad state

module _ (types : Table) (constants : List Constant) where
  pub goes_along : (good bad : RegisterTypes) (o o' : Outcome) → o ≡ o' → Goes types constants good bad o' → Goes types constants good bad o
  goes_along good bad o o' e g = record { answer = g.answer; state = g.state; is = e ∙ g.is; on_success = g.on_success; on_code = g.on_code }

  pub succeeds : (good bad : RegisterTypes) (s : State) → IsAsKnown types constants good s → Goes types constants good bad (Some (success, s))
  succeeds good bad s h = record { answer = success; state = s; is = refl; on_success = λ _. h; on_code = λ f. absurd (f refl) }

  -- a row that changes nothing keeps what is known
  pub stays_known : (ks good bad : RegisterTypes) (s : State) → known_after ks ≡ Ok (good, bad) → IsAsKnown types constants ks s → Goes types constants good bad (Some (success, s))
  stays_known ks good bad s e h =
      let q : (ks, ks) ≡ (good, bad) = Ok_inj e in
      succeeds good bad s (subst (λ g. IsAsKnown types constants g s) (ap (λ (r : RegisterTypes × RegisterTypes). r.0) q) h)

  module _ (ks : RegisterTypes) (s : State) (h : IsAsKnown types constants ks s) where
    pub answer_is : (code : Answer) (a : ℕ) (x : Register) → is_owner (known ks a) ≡ false → answer code a x s ≡ Some (code, set_register s a x)
    answer_is code a x free = ap (λ o. option_map_or (λ _. None) o (Some (code, set_register s a x))) (not_owner constants s (known ks a) (register s a) free (h.each a))

    -- a row may give register a the value of its rule
    pub goes_give : (bad : RegisterTypes) (a : ℕ) (k : RegisterType) (x : Register) → is_owner (known ks a) ≡ false → owned_by x ≡ None → Meets constants s k x → Goes types constants (slice_set ks a k) bad (give a x s)
    goes_give bad a k x free none m =
        goes_along _ bad _ _ (answer_is success a x free) (succeeds _ bad _ (agrees_set types constants ks s a k x free none m h))

    -- a row may give register a the code
    pub goes_fail : (good : RegisterTypes) (a : ℕ) (code : Answer) → code ≢ success → is_owner (known ks a) ≡ false → Goes types constants good (slice_set ks a RegisterType.Int) (fail a code s)
    goes_fail good a code bad free = record {
      answer = code;
      state = set_register s a (Register.Int (pos (answer_number code)));
      is = answer_is code a (Register.Int (pos (answer_number code))) free;
      on_success = λ e. absurd (bad e);
      on_code = λ _. agrees_set types constants ks s a RegisterType.Int (Register.Int (pos (answer_number code))) free refl (pos (answer_number code), refl) h;
    }

    -- a register that has passed a test has a value of this kind
    pub integer_found : (b : ℕ) (u : ⊤) → integer_needed (known ks b) ≡ Ok u → (k : ℤ) × (register s b ≡ Register.Int k)
    integer_found b u e = meets (known ks b) (h.each b) e
      where
        meets : (k : RegisterType) → Meets constants s k (register s b) → integer_needed k ≡ Ok u → (k : ℤ) × (register s b ≡ Register.Int k)
        meets RegisterType.Undefined m f = cc
        meets RegisterType.Int m f = m
        meets (RegisterType.Reference class t) m f = cc
        meets (RegisterType.Owner t) m f = cc

    pub reference_found : (b : ℕ) (class : Class) (t : ℕ) → reference_needed (known ks b) ≡ Ok (class, t) → Refers constants s (register s b) class t
    reference_found b class t e = meets (known ks b) (h.each b) e
      where
        meets : (k : RegisterType) → Meets constants s k (register s b) → reference_needed k ≡ Ok (class, t) → Refers constants s (register s b) class t
        meets RegisterType.Undefined m f = cc
        meets RegisterType.Int m f = cc
        meets (RegisterType.Reference c u) m f = let p : (c, u) ≡ (class, t) = Ok_inj f in subst (λ (q : Class × ℕ). Refers constants s (register s b) q.0 q.1) p m
        meets (RegisterType.Owner t) m f = cc

    -- the form of a type of the client is in the state's table
    pub form_found : {A : Type 0} (f : Form → Option A) (t : ℕ) (y : A) → form_needed f types t ≡ Ok y → (k : Form) × (form_at s.types t ≡ Some k) × (f k ≡ Some y)
    form_found f t y e = found (form_at types t) refl e
      where
        found : (o : Option Form) → form_at types t ≡ o → some_needed (option_and_then f o) ≡ Ok y → (k : Form) × (form_at s.types t ≡ Some k) × (f k ≡ Some y)
        found None e g = cc
        found (Some k) e g = (k, h.same_types t k e, some_is (f k) g)
          where
            some_is : {B : Type 0} {z : B} (o : Option B) → some_needed o ≡ Ok z → o ≡ Some z
            some_is None g = cc
            some_is (Some w) g = ap Some (Ok_inj g)

    -- a row may give the register that its rule assigns a value
    pub gives_goes : (a : ℕ) (k : RegisterType) (x : Register) (good bad : RegisterTypes) → gives a k ks ≡ Ok (good, bad) → owned_by x ≡ None → Meets constants s k x → Goes types constants good bad (give a x s)
    gives_goes a k x good bad e none m =
        let b = bind_ok (assigned a k ks) known_after (good, bad) e in
        let p = assigned_ok a k ks b.0 b.1 in
        let q : (b.0, b.0) ≡ (good, bad) = Ok_inj b.2 in
        subst (λ g. Goes types constants g bad (give a x s)) (sym p.1 ∙ ap (λ (r : RegisterTypes × RegisterTypes). r.0) q) (goes_give bad a k x p.0 none m)

    pub combines_goes : (f : ℤ → ℤ → ℤ) (a b c : ℕ) (good bad : RegisterTypes) → combines a b c ks ≡ Ok (good, bad) → Goes types constants good bad (combine f a b c s)
    combines_goes f a b c good bad e =
        let p = bind_ok (integer_needed (known ks b)) (λ _. typed.◌>>=◌ (integer_needed (known ks c)) (λ _. gives a RegisterType.Int ks)) (good, bad) e in
        let q = bind_ok (integer_needed (known ks c)) (λ _. gives a RegisterType.Int ks) (good, bad) p.2 in
        let x = integer_found b p.0 p.1 in
        let y = integer_found c q.0 q.1 in
        goes_along good bad _ _
        (ap (λ r. integer_in r >>= λ x. integer_at s c >>= λ y. give a (Register.Int (f x y)) s) x.1 ∙ ap (λ r. integer_in r >>= λ y. give a (Register.Int (f x.0 y)) s) y.1)
        (gives_goes a RegisterType.Int (Register.Int (f x.0 y.0)) good bad q.2 refl (f x.0 y.0, refl))

    number_is : (v : Value) (t : ℕ) → HasShape s.types t v → form_at s.types t ≡ Some Form.i64 → (k : ℤ) × (v ≡ Int k)
    number_is v t h e = of_form v (form_of_value s.types t Form.i64 e v h)
      where
        of_form : (v : Value) → IsOf s.types Form.i64 v → (k : ℤ) × (v ≡ Int k)
        of_form (node (Label.int k) nil) f = (k, refl)
        of_form (node (Label.int k) (cons w ws)) f = let g = f.0 in absurd (omega arith)
        of_form v f = absurd f.0

    -- a reference that has passed the test for a number refers to one
    number_found : (b : ℕ) (class : Class) (t : ℕ) (u : ⊤) → (r : Refers constants s (register s b) class t) → form_needed is_i64 types t ≡ Ok u → (k : ℤ) × (r.leads.value ≡ Int k) × (form_at s.types t ≡ Some Form.i64)
    number_found b class t u r e =
        let k = form_found is_i64 t u e in
        let is : k.0 ≡ Form.i64 = i64_is k.0 u k.2 in
        let at : form_at s.types t ≡ Some Form.i64 = k.1 ∙ ap Some is in
        let n = number_is r.leads.value t (has_leads s r.path t h.typed r.leads) at in
        (n.0, n.1, at)
      where
        i64_is : (k : Form) (u : ⊤) → is_i64 k ≡ Some u → k ≡ Form.i64
        i64_is Form.i64 u e = refl
        i64_is k u e = cc

    -- each operation has a row after which this is known
    pub const_goes : (a b c : ℕ) (number : ℤ) (good bad : RegisterTypes) (room : Bool) → rule types constants Operation.Const a b c number ks ≡ Ok (good, bad)
        → Goes types constants good bad (effect constants Operation.Const a b c number room s)
    unfolding rule effect
    const_goes a b c number good bad room e = gives_goes a RegisterType.Int (Register.Int number) good bad e refl (number, refl)

    pub add_goes : (a b c : ℕ) (number : ℤ) (good bad : RegisterTypes) (room : Bool) → rule types constants Operation.Add a b c number ks ≡ Ok (good, bad) → Goes types constants good bad (effect constants Operation.Add a b c number room s)
    unfolding rule effect
    add_goes a b c number good bad room e = combines_goes (int_wrapping_add w64) a b c good bad e

    pub sub_goes : (a b c : ℕ) (number : ℤ) (good bad : RegisterTypes) (room : Bool) → rule types constants Operation.Sub a b c number ks ≡ Ok (good, bad) → Goes types constants good bad (effect constants Operation.Sub a b c number room s)
    unfolding rule effect
    sub_goes a b c number good bad room e = combines_goes (int_wrapping_sub w64) a b c good bad e

    pub mul_goes : (a b c : ℕ) (number : ℤ) (good bad : RegisterTypes) (room : Bool) → rule types constants Operation.Mul a b c number ks ≡ Ok (good, bad) → Goes types constants good bad (effect constants Operation.Mul a b c number room s)
    unfolding rule effect
    mul_goes a b c number good bad room e = combines_goes (int_wrapping_mul w64) a b c good bad e

    pub lt_goes : (a b c : ℕ) (number : ℤ) (good bad : RegisterTypes) (room : Bool) → rule types constants Operation.Less a b c number ks ≡ Ok (good, bad) → Goes types constants good bad (effect constants Operation.Less a b c number room s)
    unfolding rule effect
    lt_goes a b c number good bad room e = combines_goes (λ x y. truth (int_lt x y)) a b c good bad e

    pub eq_goes : (a b c : ℕ) (number : ℤ) (good bad : RegisterTypes) (room : Bool) → rule types constants Operation.Equal a b c number ks ≡ Ok (good, bad)
        → Goes types constants good bad (effect constants Operation.Equal a b c number room s)
    unfolding rule effect
    eq_goes a b c number good bad room e = combines_goes (λ x y. truth (same_int x y)) a b c good bad e

    -- more output changes nothing that is known
    pub agrees_out : (bytes : List ℕ) → IsAsKnown types constants ks (record s { output = bytes })
    agrees_out bytes =
        let s' = record s { output = bytes } in
        record {
          count = h.count;
          each = λ r. meets_same constants s s' (known ks r) (register s r) refl (λ q. root_out q) (h.each r);
          typed = record { names = h.typed.names; counts = h.typed.counts; uniques = h.typed.uniques; owned = h.typed.owned; forms = h.typed.forms };
          same_types = h.same_types;
        }
      where
        root_out : (q : Origin) → at_origin (record s { output = bytes }) q ≡ at_origin s q
        root_out (Origin.Name n i) = refl
        root_out (Origin.Unique t) = refl
        root_out (Origin.Owned r) = refl

    pub outi_goes : (a b c : ℕ) (number : ℤ) (good bad : RegisterTypes) (room : Bool) → rule types constants Operation.OutInt a b c number ks ≡ Ok (good, bad)
        → Goes types constants good bad (effect constants Operation.OutInt a b c number room s)
    unfolding rule effect
    outi_goes a b c number good bad room e =
        let p = bind_ok (integer_needed (known ks b)) (λ _. known_after ks) (good, bad) e in
        let x = integer_found b p.0 p.1 in
        let out = s.output ++ (signed_decimal x.0 ++ 10 ∷ []) in
        goes_along good bad _ _ (ap (λ r. integer_in r >>= λ x. write_out (signed_decimal x ++ 10 ∷ []) s) x.1)
        (stays_known ks good bad (record s { output = out }) p.2 (agrees_out out))

    pub branch_goes : (a b c : ℕ) (number : ℤ) (good bad : RegisterTypes) (room : Bool) → rule types constants Operation.If a b c number ks ≡ Ok (good, bad) → Goes types constants good bad (effect constants Operation.If a b c number room s)
    unfolding rule effect
    branch_goes a b c number good bad room e =
        let p = bind_ok (integer_needed (known ks b)) (λ _. known_after ks) (good, bad) e in
        let x = integer_found b p.0 p.1 in
        let q : (ks, ks) ≡ (good, bad) = Ok_inj p.2 in
        record {
          answer = if same_int x.0 (pos 0) then is_zero else success;
          state = s;
          is = ap (λ r. integer_in r >>= λ x. Some (if same_int x (pos 0) then is_zero else success, s)) x.1;
          on_success = λ _. subst (λ g. IsAsKnown types constants g s) (ap (λ (r : RegisterTypes × RegisterTypes). r.0) q) h;
          on_code = λ _. subst (λ g. IsAsKnown types constants g s) (ap (λ (r : RegisterTypes × RegisterTypes). r.1) q) h;
        }

    pub load_goes : (a b c : ℕ) (number : ℤ) (good bad : RegisterTypes) (room : Bool) → rule types constants Operation.Load a b c number ks ≡ Ok (good, bad)
        → Goes types constants good bad (effect constants Operation.Load a b c number room s)
    unfolding rule effect
    load_goes a b c number good bad room e =
        let p = bind_ok (reference_needed (known ks b)) (λ x. typed.◌>>=◌ (form_needed is_i64 types x.1) (λ _. gives a RegisterType.Int ks)) (good, bad) e in
        let q = bind_ok (form_needed is_i64 types p.0.1) (λ _. gives a RegisterType.Int ks) (good, bad) p.2 in
        let r = reference_found b p.0.0 p.0.1 p.1 in
        let n = number_found b p.0.0 p.0.1 q.0 r q.1 in
        goes_along good bad _ _
        (ap (λ x. path_in x >>= λ p. (path_value s p >>= int_in) >>= λ k. give a (Register.Int k) s) r.is
        ∙ ap (λ v. (v >>= int_in) >>= λ k. give a (Register.Int k) s) r.leads.there
        ∙ ap (λ v. int_in v >>= λ k. give a (Register.Int k) s) n.1)
        (gives_goes a RegisterType.Int (Register.Int n.0) good bad q.2 refl (n.0, refl))

    pub store_goes : (a b c : ℕ) (number : ℤ) (good bad : RegisterTypes) (room : Bool) → rule types constants Operation.Store a b c number ks ≡ Ok (good, bad)
        → Goes types constants good bad (effect constants Operation.Store a b c number room s)
    unfolding rule effect
    store_goes a b c number good bad room e =
        let p = bind_ok (reference_needed (known ks b)) (λ x. typed.◌>>=◌ (form_needed is_i64 types x.1) (λ _. typed.◌>>=◌ (integer_needed (known ks c)) (λ _. known_after ks))) (good, bad) e in
        let q = bind_ok (form_needed is_i64 types p.0.1) (λ _. typed.◌>>=◌ (integer_needed (known ks c)) (λ _. known_after ks)) (good, bad) p.2 in
        let u = bind_ok (integer_needed (known ks c)) (λ _. known_after ks) (good, bad) q.2 in
        let r = reference_found b p.0.0 p.0.1 p.1 in
        let n = number_found b p.0.0 p.0.1 q.0 r q.1 in
        let x = integer_found c u.0 u.1 in
        goes_along good bad _ _
        (ap (λ x. path_in x >>= λ p. (path_value s p >>= int_in) >>= λ _. integer_at s c >>= λ x. proceed (put_at s p (Int x))) r.is
        ∙ ap (λ v. (v >>= int_in) >>= λ _. integer_at s c >>= λ x. proceed (put_at s r.path (Int x))) r.leads.there
        ∙ ap (λ v. int_in v >>= λ _. integer_at s c >>= λ x. proceed (put_at s r.path (Int x))) n.1
        ∙ ap (λ y. integer_in y >>= λ x. proceed (put_at s r.path (Int x))) x.1)
        (stays_known ks good bad (put_at s r.path (Int x.0)) u.2
        (agrees_put types constants ks s r.path p.0.1 (Int x.0) h r.leads (number_fits s.types p.0.1 x.0 n.2)
        (λ i class t known_as q is m. leads_leaf s r.path q p.0.1 t (Int x.0) r.leads (subst IsLeaf (sym n.1) (number_leaf n.0)) m)))

    pub name_found : (o : Option Constant) (b : ℕ) (u : ⊤) → name_needed o (known ks b) ≡ Ok u → (name : List ℕ) × ((o >>= λ k. constant_name k (register s b)) ≡ Some name) × IsNamedBy o name
    name_found None b u e = cc
    name_found (Some (Constant.Text bytes)) b u e = cc
    name_found (Some (Constant.Name name)) b u e = (name, refl, refl)
    name_found (Some (Constant.Family prefix)) b u e =
        let x = integer_found b u e in
        (prefix ++ 35 ∷ signed_decimal x.0, ap (λ r. integer_in r >>= λ k. Some (prefix ++ 35 ∷ signed_decimal k)) x.1, (x.0, refl))

    pub integer_or_found : (d : ℤ) (c : ℕ) (u : ⊤) → integer_or_none c ks ≡ Ok u → (x : ℤ) × (integer_or d c s ≡ Some x)
    integer_or_found d c u e = choose (c == 16) refl e
      where
        choose : (t : Bool) → (c == 16) ≡ t → (if t then Ok tt else integer_needed (known ks c)) ≡ Ok u → (x : ℤ) × (integer_or d c s ≡ Some x)
        choose true f g = (d, ap (λ t. if t then Some d else integer_at s c) f)
        choose false f g = let x = integer_found c u g in (x.0, ap (λ t. if t then Some d else integer_at s c) f ∙ ap integer_in x.1)

    pub opens_ok : (a : ℕ) (k : RegisterType) (good bad : RegisterTypes) → opens a k ks ≡ Ok (good, bad) → (is_owner (known ks a) ≡ false) × (good ≡ slice_set ks a k) × (bad ≡ slice_set ks a RegisterType.Int)
    opens_ok a k good bad e =
        let p = bind_ok (assigned a k ks) (λ x. typed.◌>>=◌ (assigned a RegisterType.Int ks) (λ y. Ok (x, y))) (good, bad) e in
        let q = bind_ok (assigned a RegisterType.Int ks) (λ y. Ok (p.0, y)) (good, bad) p.2 in
        let f = assigned_ok a k ks p.0 p.1 in
        let g = assigned_ok a RegisterType.Int ks q.0 q.1 in
        let w : (p.0, q.0) ≡ (good, bad) = Ok_inj q.2 in
        (f.0, sym (ap (λ (r : RegisterTypes × RegisterTypes). r.0) w) ∙ f.1, sym (ap (λ (r : RegisterTypes × RegisterTypes). r.1) w) ∙ g.1)

    -- the two answers of an opener
    pub opens_give : (a : ℕ) (k : RegisterType) (good bad : RegisterTypes) (x : Register) → opens a k ks ≡ Ok (good, bad) → owned_by x ≡ None → Meets constants s k x → Goes types constants good bad (give a x s)
    opens_give a k good bad x e none m =
        let o = opens_ok a k good bad e in
        subst (λ g. Goes types constants g bad (give a x s)) (sym o.1) (goes_give bad a k x o.0 none m)

    pub opens_fail : (a : ℕ) (k : RegisterType) (good bad : RegisterTypes) (code : Answer) → code ≢ success → opens a k ks ≡ Ok (good, bad) → Goes types constants good bad (fail a code s)
    opens_fail a k good bad code f e =
        let o = opens_ok a k good bad e in
        subst (λ g. Goes types constants good g (fail a code s)) (sym o.2) (goes_fail good a code f o.0)

    pub item_goes : (a k t : ℕ) (name : List ℕ) (x : ℤ) (good bad : RegisterTypes) → IsNamedBy (slice_get constants k) name
        → opens a (RegisterType.Reference (Class.Name k) t) ks ≡ Ok (good, bad) → (o : Option Object) → s.names name ≡ o
        → Goes types constants good bad (item_of_object a name t x o s)
    item_goes a k t name x good bad named_by e None f = opens_fail a (RegisterType.Reference (Class.Name k) t) good bad absent (λ q. cc) e
    item_goes a k t name x good bad named_by e (Some o) f = by_type (o.type == t) refl
      where
        by_index : o.type ≡ t → (i : Option ℕ) → index_below (count o.values) x ≡ i → Goes types constants good bad (option_map_or (λ i. refer a (path_from (Origin.Name name i)) s) i (fail a out_of_range s))
        by_index g None q = opens_fail a (RegisterType.Reference (Class.Name k) t) good bad out_of_range (λ q. cc) e
        by_index g (Some i) q =
            let v = nth_at o.values x i q in
            let at : at_origin s (Origin.Name name i) ≡ Some (v.0, o.type) = ap (λ p. p >>= λ (y : Object). nth y.values i >>= λ v. Some (v, y.type)) f ∙ ap (λ p. p >>= λ v. Some (v, o.type)) v.1 in
            opens_give a (RegisterType.Reference (Class.Name k) t) good bad (Register.Reference (path_from (Origin.Name name i))) e refl
            (record {
              path = path_from (Origin.Name name i);
              is = refl;
              within = named_by;
              leads = record { value = v.0; there = ap (λ p. p >>= λ (r : Value × ℕ). Some r.0) at; typed = ap (λ p. p >>= λ (r : Value × ℕ). Some r.1) at ∙ ap Some g };
            })

        by_type : (q : Bool) → (o.type == t) ≡ q → Goes types constants good bad (item_of_object a name t x (Some o) s)
        by_type true q = goes_along good bad _ _ (ap (λ r. if r then option_map_or (λ i. refer a (path_from (Origin.Name name i)) s) (index_below (count o.values) x) (fail a out_of_range s) else fail a other_type s) q)
            (by_index (eqb-true o.type t q) (index_below (count o.values) x) refl)
        by_type false q = goes_along good bad _ _ (ap (λ r. if r then option_map_or (λ i. refer a (path_from (Origin.Name name i)) s) (index_below (count o.values) x) (fail a out_of_range s) else fail a other_type s) q)
            (opens_fail a (RegisterType.Reference (Class.Name k) t) good bad other_type (λ q. cc) e)

    pub find_goes : (a b c : ℕ) (number : ℤ) (good bad : RegisterTypes) (room : Bool) → rule types constants Operation.Find a b c number ks ≡ Ok (good, bad)
        → Goes types constants good bad (effect constants Operation.Find a b c number room s)
    unfolding rule effect
    find_goes a b c number good bad room e =
        let k = constant_operand number in
        let t = type_operand number in
        let p = bind_ok (name_needed (slice_get constants k) (known ks b)) (λ _. typed.◌>>=◌ (integer_or_none c ks) (λ _. opens a (RegisterType.Reference (Class.Name k) t) ks)) (good, bad) e in
        let q = bind_ok (integer_or_none c ks) (λ _. opens a (RegisterType.Reference (Class.Name k) t) ks) (good, bad) p.2 in
        let n = name_found (slice_get constants k) b p.0 p.1 in
        let x = integer_or_found (pos 0) c q.0 q.1 in
        goes_along good bad _ _
        (ap (λ o. o >>= λ name. integer_or (pos 0) c s >>= λ x. item_of_object a name t x (s.names name) s) n.1
        ∙ ap (λ o. o >>= λ x. item_of_object a n.0 t x (s.names n.0) s) x.1)
        (item_goes a k t n.0 x.0 good bad n.2 q.2 (s.names n.0) refl)
