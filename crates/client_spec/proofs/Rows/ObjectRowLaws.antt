-- The rows of operations on registers, input and output, names, unique objects and owners.
use Rattle.std.proofs.Common.{◌≡◌, ℕ, ◌<◌, ℤ, pos, List, [], ◌∷◌, ◌++◌, length, Option, Some, None, refl, sym, ◌∙◌, ap, subst, arith, true, false, Bool}
use Rattle.std.specs.Prelude.{Ok, slice_get, slice_set, ◌==◌, is_some, if◌then◌else◌, nat_abs}
use Rattle.std.specs.Option.{option_map_or}
use Rattle.std.proofs.lemmas.Bool.{eqb-true}
use Rattle.seg_spec.specs.Value.{Value, Values, nil, cons, count, copies, nth, default_of}
use Rattle.seg_spec.specs.Types.{Table}
use Rattle.client_spec.specs.declared.table.Operation.{Operation}
use Rattle.client_spec.specs.Syntax.{Constant}
use Rattle.client_spec.specs.Machine.{◌>>=◌, Origin, Register, Object, with_name, with_unique, State, register, set_register, owned_by, at_origin}
use Rattle.client_spec.specs.Shape.{HasShape}
use Rattle.client_spec.specs.Answer.{already_exists, absent, other_type, out_of_range, null_or_none, Outcome, fail, refer, give_count, proceed, path_from, object_count, type_operand, constant_operand, copied, text_in}
use Rattle.client_spec.specs.Effect.{next_byte, add_object, find_or_add, count_of_object, destroy_object, add_unique, effect}
use Rattle.client_spec.specs.Typed.{Class, RegisterType, RegisterTypes, known, owner_needed, copy_needed, name_needed, text_needed, integer_or_none, is_str, known_after, assigned, gives, opens, ended, rule}
use Rattle.client_spec.specs.Typed as typed
use Rattle.client_spec.specs.Meaning.{IsNamedBy, Meets, IsAsKnown}
use Rattle.client_spec.proofs.TypedStates.DefaultLaws.{default_has}
use Rattle.client_spec.proofs.TypedStates.ShapeLaws.{all_copies}
use Rattle.client_spec.proofs.TypedStates.StateLaws.{not_owner, agrees_set, meets_same, name_there, unique_there}
use Rattle.client_spec.proofs.TypedStates.ClassLaws.{OneEach, agrees_ended}
use Rattle.client_spec.proofs.TypedStates.KnowledgeChangeLaws.{agrees_release, agrees_kill, agrees_ukill, agrees_make, agrees_umake}
use Rattle.client_spec.proofs.Rows.RuleRowLaws.{bind_ok, Ok_inj, assigned_ok, item_below, nth_below, Goes, goes_along, stays_known, gives_goes, opens_give, opens_fail, name_found, integer_or_found, agrees_out}
use Rattle.client_spec.proofs.TypedStates.ValueFormLaws.{text_value, count_positive, text_found, first_of_many}
use Rattle.client_spec.proofs.Rows.RowPartLaws.{goes_bind, found, Row, code_goes, count_goes, room_goes, number_goes, own_goes, owner_found}

module _ (types : Table) (constants : List Constant) (one : OneEach constants) (ks : RegisterTypes) (s : State) (h : IsAsKnown types constants ks s) where
  -- More output changes nothing that is known.
  pub outs_goes : (a b c : ℕ) (number : ℤ) (good bad : RegisterTypes) (room : Bool) → rule types constants Operation.OutStr a b c number ks ≡ Ok (good, bad)
      → Goes types constants good bad (effect constants Operation.OutStr a b c number room s)
  unfolding rule effect
  outs_goes a b c number good bad room e =
      let r = found types constants one ks s h is_str (λ x y. known_after ks) b good bad e in
      let v = text_value s.types r.entry r.refers.leads.value r.what r.is r.fits in
      goes_bind types constants one ks s h good bad _ _ _ r.path_is (goes_bind types constants one ks s h good bad _ _ _ (ap (λ o. o >>= text_in) r.refers.leads.there ∙ ap text_in v.1)
      (stays_known types constants ks good bad (record s { output = s.output ++ v.0 }) r.rest (agrees_out types constants ks s h (s.output ++ v.0))))

  copy_found : (k k' : RegisterType) (x : Register) → copy_needed k ≡ Ok k' → Meets constants s k x → (y : Register) × (copied s x ≡ Some y) × (owned_by y ≡ None) × Meets constants s k' y
  copy_found RegisterType.Undefined k' x e m = cc
  copy_found RegisterType.Int k' x e m = (Register.Int m.0, ap (copied s) m.1, refl, subst (λ z. Meets constants s z (Register.Int m.0)) (let p : RegisterType.Int ≡ k' = Ok_inj e in p) (m.0, refl))
  copy_found (RegisterType.Reference c t) k' x e m = (
    Register.Reference m.path,
    ap (copied s) m.is ∙ ap (λ o. o >>= λ _. Some (Register.Reference m.path)) m.leads.there,
    refl,
    subst (λ z. Meets constants s z (Register.Reference m.path))
        (let p : RegisterType.Reference c t ≡ k' = Ok_inj e in p) (record { path = m.path; is = refl; within = m.within; leads = m.leads }),
  )
  copy_found (RegisterType.Owner t) k' x e m = cc

  pub mov_goes : Row types constants one ks s h Operation.Mov
  unfolding rule effect
  mov_goes a b c number good bad room e =
      let p = bind_ok (copy_needed (known ks b)) (λ k. gives a k ks) (good, bad) e in
      let y = copy_found (known ks b) p.0 (register s b) p.1 (h.each b) in
      goes_bind types constants one ks s h good bad _ _ _ y.1 (gives_goes types constants ks s h a p.0 y.0 good bad p.2 y.2 y.3)

  pub outc_goes : Row types constants one ks s h Operation.OutConst
  unfolding rule effect
  outc_goes a b c number good bad room e =
      let p = bind_ok (text_needed (slice_get constants (nat_abs number))) (λ _. known_after ks) (good, bad) e in
      let t = text_found (slice_get constants (nat_abs number)) p.0 p.1 in
      goes_bind types constants one ks s h good bad _ _ _ t.1 (stays_known types constants ks good bad (record s { output = s.output ++ t.0 }) p.2 (agrees_out types constants ks s h (s.output ++ t.0)))

  -- less input changes nothing that is known
  agrees_in : (rest : List ℕ) → IsAsKnown types constants ks (record s { input = rest })
  agrees_in rest =
      let s' = record s { input = rest } in
      record {
        count = h.count;
        each = λ r. meets_same constants s s' (known ks r) (register s r) refl (λ q. root_in q) (h.each r);
        typed = record { names = h.typed.names; counts = h.typed.counts; uniques = h.typed.uniques; owned = h.typed.owned; forms = h.typed.forms };
        same_types = h.same_types;
      }
    where
      root_in : (q : Origin) → at_origin (record s { input = rest }) q ≡ at_origin s q
      root_in (Origin.Name n i) = refl
      root_in (Origin.Unique t) = refl
      root_in (Origin.Owned r) = refl

  next_goes : (a : ℕ) (good bad : RegisterTypes) → opens a RegisterType.Int ks ≡ Ok (good, bad) → (xs : List ℕ) → Goes types constants good bad (next_byte a xs s)
  next_goes a good bad e [] = opens_fail types constants ks s h a RegisterType.Int good bad null_or_none (λ q. cc) e
  next_goes a good bad e (x ∷ xs) = opens_give types constants ks (record s { input = xs }) (agrees_in xs) a RegisterType.Int good bad (Register.Int (pos x)) e refl (pos x, refl)

  pub getb_goes : Row types constants one ks s h Operation.GetByte
  unfolding rule effect
  getb_goes a b c number good bad room e = next_goes a good bad e s.input

  -- a type of the client has a default of its shape
  default_fits : (t : ℕ) → t < length types → HasShape s.types t (default_of s.types t)
  default_fits t lt = let k = item_below types t lt in default_has s.types h.typed.forms t k.0 (h.same_types t k.0 k.1)

  named_refers : (k : ℕ) (name : List ℕ) (t i : ℕ) (s' : State) (x : Object) (v : Value)
      → IsNamedBy (slice_get constants k) name → s'.names name ≡ Some x → nth x.values i ≡ Some v → x.type ≡ t
      → Meets constants s' (RegisterType.Reference (Class.Name k) t) (Register.Reference (path_from (Origin.Name name i)))
  named_refers k name t i s' x v by e f g =
      let at : at_origin s' (Origin.Name name i) ≡ Some (v, x.type) = ap (λ p. p >>= λ (y : Object). nth y.values i >>= λ v. Some (v, y.type)) e ∙ ap (λ p. p >>= λ v. Some (v, x.type)) f in
      record {
        path = path_from (Origin.Name name i);
        is = refl;
        within = by;
        leads = record { value = v; there = ap (λ p. p >>= λ (r : Value × ℕ). Some r.0) at; typed = ap (λ p. p >>= λ (r : Value × ℕ). Some r.1) at ∙ ap Some g };
      }

  -- making a new object has a row
  add_goes : (a k t : ℕ) (name : List ℕ) (n : ℕ) (room : Bool) (good bad : RegisterTypes) → t < length types → 0 < n
      → IsNamedBy (slice_get constants k) name → opens a (RegisterType.Reference (Class.Name k) t) ks ≡ Ok (good, bad) → (o : Option Object) → s.names name ≡ o
      → Goes types constants good bad (add_object a name t o n room s)
  add_goes a k t name n room good bad valid lt by e (Some x) f = code_goes types constants one ks s h a (RegisterType.Reference (Class.Name k) t) good bad already_exists (λ q. cc) e
  add_goes a k t name n room good bad valid lt by e None f =
      let d = default_of s.types t in
      let x : Object = record { type = t; values = copies n d } in
      let s' = record s { names = with_name s.names name (Some x) } in
      let some = first_of_many n d lt in
      let h' = agrees_make types constants one ks s name x f (all_copies s.types t n d (default_fits t valid)) (not_empty x.values some.0 some.1) h in
      room_goes types constants one ks s h a (RegisterType.Reference (Class.Name k) t) good bad room _ e
      (opens_give types constants ks s' h' a (RegisterType.Reference (Class.Name k) t) good bad (Register.Reference (path_from (Origin.Name name 0))) e refl
      (named_refers k name t 0 s' x some.0 by (name_there s.names name (Some x)) some.1 refl))
    where
      not_empty : (vs : Values) (v : Value) → nth vs 0 ≡ Some v → 0 < count vs
      not_empty nil v g = cc
      not_empty (cons w ws) v g = omega arith

  pub make_goes : (a b c : ℕ) (number : ℤ) (good bad : RegisterTypes) (room : Bool)
      → type_operand number < length types → rule types constants Operation.Make a b c number ks ≡ Ok (good, bad)
      → Goes types constants good bad (effect constants Operation.Make a b c number room s)
  unfolding rule effect
  make_goes a b c number good bad room valid e =
      let k = constant_operand number in
      let t = type_operand number in
      let p = bind_ok (name_needed (slice_get constants k) (known ks b)) (λ _. typed.◌>>=◌ (integer_or_none c ks) (λ _. opens a (RegisterType.Reference (Class.Name k) t) ks)) (good, bad) e in
      let q = bind_ok (integer_or_none c ks) (λ _. opens a (RegisterType.Reference (Class.Name k) t) ks) (good, bad) p.2 in
      let n = name_found types constants ks s h (slice_get constants k) b p.0 p.1 in
      let x = integer_or_found types constants ks s h (pos 1) c q.0 q.1 in
      goes_bind types constants one ks s h good bad _ _ _ n.1 (goes_bind types constants one ks s h good bad _ _ _ x.1 (counted n.0 n.2 q.2 (object_count x.0) x.0 refl))
    where
      counted : (name : List ℕ) → IsNamedBy (slice_get constants (constant_operand number)) name
          → opens a (RegisterType.Reference (Class.Name (constant_operand number)) (type_operand number)) ks ≡ Ok (good, bad)
          → (o : Option ℕ) (x : ℤ) → object_count x ≡ o
          → Goes types constants good bad (option_map_or (λ n. add_object a name (type_operand number) (s.names name) n room s) o (fail a out_of_range s))
      counted name by f None x g = code_goes types constants one ks s h a _ good bad out_of_range (λ q. cc) f
      counted name by f (Some n) x g = add_goes a (constant_operand number) (type_operand number) name n room good bad valid (count_positive x n g) by f (s.names name) refl

  -- an operation on a named object has a row, whether or not the types agree
  typed_goes : (a k t : ℕ) (good bad : RegisterTypes) (x : Object) (o : Outcome) → opens a (RegisterType.Reference (Class.Name k) t) ks ≡ Ok (good, bad)
      → (x.type ≡ t → Goes types constants good bad o) → Goes types constants good bad (if x.type == t then o else fail a other_type s)
  typed_goes a k t good bad x o e g = choose (x.type == t) refl
    where
      choose : (q : Bool) → (x.type == t) ≡ q → Goes types constants good bad (if x.type == t then o else fail a other_type s)
      choose true q = goes_along types constants good bad _ _ (ap (λ r. if r then o else fail a other_type s) q) (g (eqb-true x.type t q))
      choose false q = goes_along types constants good bad _ _ (ap (λ r. if r then o else fail a other_type s) q) (code_goes types constants one ks s h a (RegisterType.Reference (Class.Name k) t) good bad other_type (λ q. cc) e)

  found_or_added : (a k t : ℕ) (name : List ℕ) (room : Bool) (good bad : RegisterTypes) → t < length types
      → IsNamedBy (slice_get constants k) name → opens a (RegisterType.Reference (Class.Name k) t) ks ≡ Ok (good, bad) → (o : Option Object) → s.names name ≡ o
      → Goes types constants good bad (find_or_add a name t o room s)
  found_or_added a k t name room good bad valid by e None f = add_goes a k t name 1 room good bad valid (omega arith) by e None f
  found_or_added a k t name room good bad valid by e (Some x) f =
      typed_goes a k t good bad x _ e (λ g. let v = nth_below x.values 0 (h.typed.counts name x f) in
      opens_give types constants ks s h a (RegisterType.Reference (Class.Name k) t) good bad (Register.Reference (path_from (Origin.Name name 0))) e refl (named_refers k name t 0 s x v.0 by f v.1 g))

  pub findor_goes : (a b c : ℕ) (number : ℤ) (good bad : RegisterTypes) (room : Bool)
      → type_operand number < length types → rule types constants Operation.FindOrMake a b c number ks ≡ Ok (good, bad)
      → Goes types constants good bad (effect constants Operation.FindOrMake a b c number room s)
  unfolding rule effect
  findor_goes a b c number good bad room valid e =
      let k = constant_operand number in
      let t = type_operand number in
      let p = bind_ok (name_needed (slice_get constants k) (known ks b)) (λ _. opens a (RegisterType.Reference (Class.Name k) t) ks) (good, bad) e in
      let n = name_found types constants ks s h (slice_get constants k) b p.0 p.1 in
      goes_bind types constants one ks s h good bad _ _ _ n.1 (found_or_added a k t n.0 room good bad valid n.2 p.2 (s.names n.0) refl)

  counted_goes : (a t : ℕ) (good bad : RegisterTypes) → opens a RegisterType.Int ks ≡ Ok (good, bad) → (o : Option Object) → Goes types constants good bad (count_of_object a t o s)
  counted_goes a t good bad e None = code_goes types constants one ks s h a RegisterType.Int good bad absent (λ q. cc) e
  counted_goes a t good bad e (Some x) = choose (x.type == t) refl
    where
      choose : (q : Bool) → (x.type == t) ≡ q → Goes types constants good bad (count_of_object a t (Some x) s)
      choose true q = goes_along types constants good bad _ _ (ap (λ r. if r then give_count a (count x.values) s else fail a other_type s) q) (count_goes types constants one ks s h a _ good bad e)
      choose false q = goes_along types constants good bad _ _ (ap (λ r. if r then give_count a (count x.values) s else fail a other_type s) q) (code_goes types constants one ks s h a RegisterType.Int good bad other_type (λ q. cc) e)

  pub count_row : Row types constants one ks s h Operation.Count
  unfolding rule effect
  count_row a b c number good bad room e =
      let k = constant_operand number in
      let p = bind_ok (name_needed (slice_get constants k) (known ks b)) (λ _. opens a RegisterType.Int ks) (good, bad) e in
      let n = name_found types constants ks s h (slice_get constants k) b p.0 p.1 in
      goes_bind types constants one ks s h good bad _ _ _ n.1 (counted_goes a (type_operand number) good bad p.2 (s.names n.0))

  killed_goes : (a k t : ℕ) (name : List ℕ) (good bad : RegisterTypes) → IsNamedBy (slice_get constants k) name
      → gives a RegisterType.Int (ended (Class.Name k) ks) ≡ Ok (good, bad) → (o : Option Object) → Goes types constants good bad (destroy_object a name t o s)
  killed_goes a k t name good bad by e None = number_goes types constants one ks s h (ended (Class.Name k) ks) s a 0 good bad (agrees_ended types constants one (Class.Name k) ks s h) e
  killed_goes a k t name good bad by e (Some x) = choose (x.type == t) refl
    where
      s' : State
      s' = record s { names = with_name s.names name None }

      choose : (q : Bool) → (x.type == t) ≡ q → Goes types constants good bad (destroy_object a name t (Some x) s)
      choose true q = goes_along types constants good bad _ _ (ap (λ r. if r then give_count a 1 (record s { names = with_name s.names name None }) else give_count a 0 s) q)
          (number_goes types constants one ks s h (ended (Class.Name k) ks) (record s { names = with_name s.names name None }) a 1 good bad (agrees_kill types constants one ks s k name by h) e)
      choose false q = goes_along types constants good bad _ _ (ap (λ r. if r then give_count a 1 (record s { names = with_name s.names name None }) else give_count a 0 s) q)
          (number_goes types constants one ks s h (ended (Class.Name k) ks) s a 0 good bad (agrees_ended types constants one (Class.Name k) ks s h) e)

  pub kill_goes : Row types constants one ks s h Operation.Kill
  unfolding rule effect
  kill_goes a b c number good bad room e =
      let k = constant_operand number in
      let p = bind_ok (name_needed (slice_get constants k) (known ks b)) (λ _. gives a RegisterType.Int (ended (Class.Name k) ks)) (good, bad) e in
      let n = name_found types constants ks s h (slice_get constants k) b p.0 p.1 in
      goes_bind types constants one ks s h good bad _ _ _ n.1 (killed_goes a k (type_operand number) n.0 good bad n.2 p.2 (s.names n.0))

  unique_refers : (t : ℕ) (s' : State) (v : Value) → s'.uniques t ≡ Some v → Meets constants s' (RegisterType.Reference (Class.Unique t) t) (Register.Reference (path_from (Origin.Unique t)))
  unique_refers t s' v e =
      let at : at_origin s' (Origin.Unique t) ≡ Some (v, t) = ap (λ p. p >>= λ v. Some (v, t)) e in
      record {
        path = path_from (Origin.Unique t);
        is = refl;
        within = refl;
        leads = record { value = v; there = ap (λ p. p >>= λ (r : Value × ℕ). Some r.0) at; typed = ap (λ p. p >>= λ (r : Value × ℕ). Some r.1) at };
      }

  -- an operation on a unique object has a row, whether or not there is one
  unique_goes : (t : ℕ) (good bad : RegisterTypes) (o : Outcome) (p : Outcome) → ((v : Value) → s.uniques t ≡ Some v → Goes types constants good bad o)
      → (s.uniques t ≡ None → Goes types constants good bad p) → Goes types constants good bad (if is_some (s.uniques t) then o else p)
  unique_goes t good bad o p f g = choose (s.uniques t) refl
    where
      choose : (u : Option Value) → s.uniques t ≡ u → Goes types constants good bad (if is_some (s.uniques t) then o else p)
      choose None e = goes_along types constants good bad _ _ (ap (λ u. if is_some u then o else p) e) (g e)
      choose (Some v) e = goes_along types constants good bad _ _ (ap (λ u. if is_some u then o else p) e) (f v e)

  see_unique : (a t : ℕ) (good bad : RegisterTypes) → opens a (RegisterType.Reference (Class.Unique t) t) ks ≡ Ok (good, bad) → (v : Value) → s.uniques t ≡ Some v → Goes types constants good bad (refer a (path_from (Origin.Unique t)) s)
  see_unique a t good bad e v f = opens_give types constants ks s h a (RegisterType.Reference (Class.Unique t) t) good bad (Register.Reference (path_from (Origin.Unique t))) e refl (unique_refers t s v f)

  new_unique : (a t : ℕ) (room : Bool) (good bad : RegisterTypes) → t < length types → opens a (RegisterType.Reference (Class.Unique t) t) ks ≡ Ok (good, bad) → s.uniques t ≡ None → Goes types constants good bad (add_unique a t room s)
  new_unique a t room good bad valid e f =
      let d = default_of s.types t in
      let s' = record s { uniques = with_unique s.uniques t (Some d) } in
      let h' = agrees_umake types constants one ks s t d f (default_fits t valid) h in
      room_goes types constants one ks s h a (RegisterType.Reference (Class.Unique t) t) good bad room _ e
      (opens_give types constants ks s' h' a (RegisterType.Reference (Class.Unique t) t) good bad (Register.Reference (path_from (Origin.Unique t))) e refl (unique_refers t s' d (unique_there s.uniques t (Some d))))

  pub umake_goes : (a b c : ℕ) (number : ℤ) (good bad : RegisterTypes) (room : Bool)
      → nat_abs number < length types → rule types constants Operation.MakeUnique a b c number ks ≡ Ok (good, bad)
      → Goes types constants good bad (effect constants Operation.MakeUnique a b c number room s)
  unfolding rule effect
  umake_goes a b c number good bad room valid e =
      unique_goes (nat_abs number) good bad _ _ (λ v f. code_goes types constants one ks s h a _ good bad already_exists (λ q. cc) e) (λ f. new_unique a (nat_abs number) room good bad valid e f)

  pub ufind_goes : Row types constants one ks s h Operation.FindUnique
  unfolding rule effect
  ufind_goes a b c number good bad room e =
      unique_goes (nat_abs number) good bad _ _ (λ v f. see_unique a (nat_abs number) good bad e v f) (λ f. code_goes types constants one ks s h a _ good bad absent (λ q. cc) e)

  pub ufindor_goes : (a b c : ℕ) (number : ℤ) (good bad : RegisterTypes) (room : Bool)
      → nat_abs number < length types → rule types constants Operation.FindOrMakeUnique a b c number ks ≡ Ok (good, bad)
      → Goes types constants good bad (effect constants Operation.FindOrMakeUnique a b c number room s)
  unfolding rule effect
  ufindor_goes a b c number good bad room valid e =
      unique_goes (nat_abs number) good bad _ _ (λ v f. see_unique a (nat_abs number) good bad e v f) (λ f. new_unique a (nat_abs number) room good bad valid e f)

  pub ukill_goes : Row types constants one ks s h Operation.KillUnique
  unfolding rule effect
  ukill_goes a b c number good bad room e =
      unique_goes (nat_abs number) good bad _ _
      (λ v f. number_goes types constants one ks s h (ended (Class.Unique (nat_abs number)) ks) (record s { uniques = with_unique s.uniques (nat_abs number) None }) a 1 good bad (agrees_ukill types constants one ks s (nat_abs number) h) e)
      (λ f. number_goes types constants one ks s h (ended (Class.Unique (nat_abs number)) ks) s a 0 good bad (agrees_ended types constants one (Class.Unique (nat_abs number)) ks s h) e)

  pub new_goes : (a b c : ℕ) (number : ℤ) (good bad : RegisterTypes) (room : Bool) → nat_abs number < length types
      → rule types constants Operation.New a b c number ks ≡ Ok (good, bad) → Goes types constants good bad (effect constants Operation.New a b c number room s)
  unfolding rule effect
  new_goes a b c number good bad room valid e =
      room_goes types constants one ks s h a (RegisterType.Owner (nat_abs number)) good bad room _ e (own_goes types constants one ks s h ks s h a (nat_abs number) (default_of s.types (nat_abs number)) good bad e
      (default_fits (nat_abs number) valid))

  pub drop_goes : Row types constants one ks s h Operation.Drop
  unfolding rule effect
  drop_goes a b c number good bad room e =
      let p = bind_ok (owner_needed (known ks b)) (λ _. known_after (slice_set (ended (Class.Register b) ks) b RegisterType.Undefined)) (good, bad) e in
      let v = (owner_found types constants one ks s h (known ks b) (register s b) p.0 p.1 (h.each b)).1 in
      goes_bind types constants one ks s h good bad _ _ _ (ap owned_by v.1)
      (stays_known types constants (slice_set (ended (Class.Register b) ks) b RegisterType.Undefined) good bad (set_register s b Register.Undefined) p.2 (agrees_release types constants one ks s b h))

  pub ref_goes : Row types constants one ks s h Operation.Ref
  unfolding rule effect
  ref_goes a b c number good bad room e =
      let p = bind_ok (owner_needed (known ks b)) (λ t. gives a (RegisterType.Reference (Class.Register b) t) ks) (good, bad) e in
      let v = (owner_found types constants one ks s h (known ks b) (register s b) p.0 p.1 (h.each b)).1 in
      let at : at_origin s (Origin.Owned b) ≡ Some (v.0, p.0) = ap owned_by v.1 in
      goes_bind types constants one ks s h good bad _ _ _ (ap owned_by v.1)
      (gives_goes types constants ks s h a (RegisterType.Reference (Class.Register b) p.0) (Register.Reference (path_from (Origin.Owned b))) good bad p.2 refl
      (record {
        path = path_from (Origin.Owned b);
        is = refl;
        within = refl;
        leads = record { value = v.0; there = ap (λ p. p >>= λ (r : Value × ℕ). Some r.0) at; typed = ap (λ p. p >>= λ (r : Value × ℕ). Some r.1) at };
      }))

  pub forget_goes : Row types constants one ks s h Operation.Forget
  unfolding rule effect
  forget_goes a b c number good bad room e =
      let p = bind_ok (assigned b RegisterType.Undefined ks) known_after (good, bad) e in
      let f = assigned_ok b RegisterType.Undefined ks p.0 p.1 in
      goes_along types constants good bad _ _ (ap (λ o. option_map_or (λ _. None) o (proceed (set_register s b Register.Undefined))) (not_owner constants s (known ks b) (register s b) f.0 (h.each b)))
      (stays_known types constants p.0 good bad (set_register s b Register.Undefined) p.2
      (subst (λ k. IsAsKnown types constants k (set_register s b Register.Undefined)) (sym f.1) (agrees_set types constants ks s b RegisterType.Undefined Register.Undefined f.0 refl refl h)))
