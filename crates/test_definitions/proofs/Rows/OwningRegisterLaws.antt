-- Which registers own objects, and which named and unique objects there are. Only NEW, DROP, PUT, TAKE and
-- FREEZE change which registers own objects, if they succeed.
use Rattle.std.proofs.Common.{arith, ◌≡◌, ℕ, zero, suc, List, [], ◌∷◌, ◌++◌, length, map, Bool, true, false, Option, Some, None, pos, refl, sym, ap, ◌∙◌, subst, inl, inr}
use Rattle.std.specs.Prelude.{◌==◌, if◌then◌else◌, ℤ, nat_abs, is_some, slice_set, slice_get, slice_index, slice_index_or}
use Rattle.std.specs.Option.{option_map_or}
use Rattle.std.proofs.lemmas.Bool.Decides.{nat_tests}
use Rattle.client_spec.proofs.TypedStates.StateLaws.{same_name_is}
use Rattle.seg_spec.specs.Value.{Value, Values, nil, cons, count, Selector}
use Rattle.seg_spec.specs.Value as values
use Rattle.seg_spec.specs.Index.{Root, same_name}
use Rattle.client_spec.specs.declared.table.Operation.{Operation}
use Rattle.client_spec.specs.Syntax.{Constant, Instruction}
use Rattle.client_spec.specs.Machine.{◌>>=◌, Origin, Path, extend, Register, Object, State, register, set_register, owned_by, path_value, at_origin, with_name, with_unique, with_owned, replace_item, put_origin, put_at}
use Rattle.client_spec.specs.Answer.{Answer, Outcome, success, bad_alloc, numbers_used_up, answer, answer_number, copied, integer_at, integer_or, path_of, path_form, give, fail, refer, give_count, index_below, object_count}
use Rattle.client_spec.specs.Answer.{type_operand, constant_operand, constant_name, write_out, text_in, items_in, content_in, provided, with_room}
use Rattle.client_spec.specs.Answer.{owned_type, shared_type, out_of_range, absent, other_type, null_or_none, already_exists}
use Rattle.client_spec.proofs.TypedStates.ValueLaws.{Some_inj}
use Rattle.client_spec.specs.Effect.{effect, combine, next_byte, add_object, item_of_object, find_or_add, count_of_object, destroy_object, add_unique}
use Rattle.client_spec.specs.Effect.{item_of_value, pop_bytes, pop_last, pop_first, set_text, first_key, take_content, see_content}
use Rattle.client_spec.specs.Trees.{unfolded_register}
use Rattle.client_spec.specs.Pictures.{AreOwned, root_of_register}
use Rattle.client_spec.specs.OnImages.{RowWith}
use Rattle.client_spec.specs.Ties.{places_of}

-- whether a register owns an object
abbrev pub owns : Register → Bool
owns x = is_some (owned_by x)

-- which registers own objects
abbrev pub owners : List Register → List Bool
owners rs = map owns rs

-- an instruction that may change which registers own objects
abbrev pub moves_owners : Operation → Answer → Bool
moves_owners Operation.New success = true
moves_owners Operation.Drop success = true
moves_owners Operation.Put success = true
moves_owners Operation.Take success = true
moves_owners Operation.Freeze success = true
moves_owners operation answer = false

pub set_owner : (rs : List Register) (r : ℕ) (x : Register) → owns x ≡ owns (slice_index_or rs r Register.Undefined) → owners (slice_set rs r x) ≡ owners rs
set_owner [] r x e = refl
set_owner (y ∷ rs) zero x e = ap (λ b. b ∷ owners rs) e
set_owner (y ∷ rs) (suc r) x e = ap (λ bs. owns y ∷ bs) (set_owner rs r x e)

with_owner : (v : Value) (x : Register) → owns (with_owned v x) ≡ owns x
with_owner v Register.Undefined = refl
with_owner v (Register.Int k) = refl
with_owner v (Register.Reference p) = refl
with_owner v (Register.Owner w t) = refl

pub unfolded_owners : (m : ℕ → Value) (rs : List Register) → owners (map (unfolded_register m) rs) ≡ owners rs
unfolded_owners m [] = refl
unfolded_owners m (Register.Undefined ∷ rs) = ap (λ bs. false ∷ bs) (unfolded_owners m rs)
unfolded_owners m (Register.Int k ∷ rs) = ap (λ bs. false ∷ bs) (unfolded_owners m rs)
unfolded_owners m (Register.Reference p ∷ rs) = ap (λ bs. false ∷ bs) (unfolded_owners m rs)
unfolded_owners m (Register.Owner v t ∷ rs) = ap (λ bs. true ∷ bs) (unfolded_owners m rs)

-- ---- rows

-- an instruction that may make or destroy a named object, or a unique object
abbrev pub changes_names : Operation → Bool
changes_names Operation.Make = true
changes_names Operation.FindOrMake = true
changes_names Operation.Kill = true
changes_names operation = false

abbrev pub changes_uniques : Operation → Bool
changes_uniques Operation.MakeUnique = true
changes_uniques Operation.FindOrMakeUnique = true
changes_uniques Operation.KillUnique = true
changes_uniques operation = false

-- What a row keeps: the same registers own objects, and there are the same named and unique objects.
pub record RowKeeps (op : Operation) (s : State) (code : Answer) (t : State) : Type 0 where
  pub same_owners : moves_owners op code ≡ false → owners t.registers ≡ owners s.registers
  pub same_names : changes_names op ≡ false → (name : List ℕ) → is_some (t.names name) ≡ is_some (s.names name)
  pub same_uniques : changes_uniques op ≡ false → (T : ℕ) → is_some (t.uniques T) ≡ is_some (s.uniques T)

module _ (op : Operation) (s : State) where
  abbrev Kept : Answer → State → Type 0
  Kept code t = RowKeeps op s code t

  still : (code : Answer) → Kept code s
  still code = record { same_owners = λ e. refl; same_names = λ e name. refl; same_uniques = λ e T. refl }

  record Keeps (o : Outcome) : Type 0 where
    each : (code : Answer) (t : State) → ◌≡◌ {A = Outcome} o (Some (code, t)) → Kept code t

  none : Keeps None
  none = record { each = λ code t e. absurd (let g : ◌≡◌ {A = Outcome} None (Some (code, t)) = e in cc) }

  some : (code : Answer) (t : State) → Kept code t → Keeps (Some (code, t))
  some code t h = record { each = λ c u e. subst (λ (r : Answer × State). Kept r.0 r.1) (Some_inj e) h }

  bound : {A : Type 0} (o : Option A) (f : A → Outcome) → ((x : A) → Keeps (f x)) → Keeps (o >>= f)
  bound None f h = none
  bound (Some x) f h = h x

  either : {A : Type 0} (f : A → Outcome) (o : Option A) (d : Outcome) → ((x : A) → Keeps (f x)) → Keeps d → Keeps (option_map_or f o d)
  either f None d h g = g
  either f (Some x) d h g = h x

  tested : (b : Bool) (x y : Outcome) → Keeps x → Keeps y → Keeps (if b then x else y)
  tested true x y f g = f
  tested false x y f g = g

  shown : (b : Bool) (o : Outcome) → Keeps o → Keeps (provided b o)
  shown true o f = f
  shown false o f = none

  -- a register that owns nothing is set
  set_kept : (code : Answer) (a : ℕ) (x : Register) (t : State) → owns x ≡ owns (register t a) → Kept code t → Kept code (set_register t a x)
  set_kept code a x t e h = record { same_owners = λ f. set_owner t.registers a x e ∙ h.same_owners f; same_names = h.same_names; same_uniques = h.same_uniques }

  -- it may change which registers own objects
  moved_kept : (code : Answer) (a : ℕ) (x : Register) (t : State) → moves_owners op code ≡ true → Kept code t → Kept code (set_register t a x)
  moved_kept code a x t m h = record { same_owners = λ f. (let g : true ≡ false = sym m ∙ f in cc); same_names = h.same_names; same_uniques = h.same_uniques }

  answered : (code : Answer) (a : ℕ) (x : Register) (t : State) → owns x ≡ false → Kept code t → Keeps (answer code a x t)
  answered code a x t e h = go (owned_by (register t a)) refl
    where
      go : (o : Option (Value × ℕ)) → owned_by (register t a) ≡ o → Keeps (option_map_or (λ _. None) o (Some (code, set_register t a x)))
      go None f = some code (set_register t a x) (set_kept code a x t (e ∙ sym (ap (λ (o : Option (Value × ℕ)). is_some o) f)) h)
      go (Some v) f = none

  answered_moved : (code : Answer) (a : ℕ) (x : Register) (t : State) → moves_owners op code ≡ true → Kept code t → Keeps (answer code a x t)
  answered_moved code a x t m h = either (λ _. None) (owned_by (register t a)) (Some (code, set_register t a x)) (λ _. none) (some code (set_register t a x) (moved_kept code a x t m h))

  given : (code : Answer) (a : ℕ) (x : Register) → owns x ≡ false → Keeps (answer code a x s)
  given code a x e = answered code a x s e (still code)

  origin_put : (code : Answer) (o : Origin) (found : Value × ℕ) (v : Value) → at_origin s o ≡ Some found → Kept code (put_origin s o v)
  origin_put code (Origin.Name name i) found v is = named (s.names name) refl
    where
      named : (o : Option Object) → s.names name ≡ o → Kept code (option_map_or (λ o. record s { names = with_name s.names name (Some (replace_item i v o)) }) o s)
      named None f = still code
      named (Some o) f = record { same_owners = λ e. refl; same_names = λ e m. there m; same_uniques = λ e T. refl }
        where
          there : (m : List ℕ) → is_some (with_name s.names name (Some (replace_item i v o)) m) ≡ is_some (s.names m)
          there m = go (same_name m name) refl
            where
              go : (b : Bool) → same_name m name ≡ b → is_some (if b then Some (replace_item i v o) else s.names m) ≡ is_some (s.names m)
              go true e = sym (ap (λ (q : Option Object). is_some q) (ap s.names (sym (same_name_is m name e)) ∙ f))
              go false e = refl
  origin_put code (Origin.Unique t) found v is = record { same_owners = λ e. refl; same_names = λ e name. refl; same_uniques = λ e U. there U }
    where
      there_is : is_some (s.uniques t) ≡ true
      there_is = go (s.uniques t) is
        where
          go : (o : Option Value) → (o >>= λ v. Some (v, t)) ≡ Some found → is_some o ≡ true
          go None e = cc
          go (Some u) e = refl

      there : (U : ℕ) → is_some (with_unique s.uniques t (Some v) U) ≡ is_some (s.uniques U)
      there U = go (U == t) refl
        where
          go : (b : Bool) → (U == t) ≡ b → is_some (if b then Some v else s.uniques U) ≡ is_some (s.uniques U)
          go true e = (let same : U ≡ t = grind (arith, nat_tests) in sym (ap (λ n. is_some (s.uniques n)) same ∙ there_is))
          go false e = refl
  origin_put code (Origin.Owned r) found v is = set_kept code r (with_owned v (register s r)) s (with_owner v (register s r)) (still code)

  puts : (code : Answer) (p : Path) (v : Value) → Kept code (put_at s p v)
  puts code p v = go (at_origin s p.origin) refl
    where
      go : (o : Option (Value × ℕ)) → at_origin s p.origin ≡ o → Kept code (option_map_or (λ found. put_origin s p.origin (values.with_value_at p.selectors v found.0)) o s)
      go None f = still code
      go (Some found) f = origin_put code p.origin found (values.with_value_at p.selectors v found.0) f

  given_put : (a : ℕ) (x : Register) (p : Path) (v : Value) → owns x ≡ false → Keeps (answer success a x (put_at s p v))
  given_put a x p v e = answered success a x (put_at s p v) e (puts success p v)

  put_some : (p : Path) (v : Value) → Keeps (Some (success, put_at s p v))
  put_some p v = some success (put_at s p v) (puts success p v)

  -- names or unique objects change
  new_names : (code : Answer) (names : List ℕ → Option Object) → changes_names op ≡ true → Kept code (record s { names = names })
  new_names code names c = record { same_owners = λ e. refl; same_names = λ e. (let g : true ≡ false = sym c ∙ e in cc); same_uniques = λ e T. refl }

  new_uniques : (code : Answer) (uniques : ℕ → Option Value) → changes_uniques op ≡ true → Kept code (record s { uniques = uniques })
  new_uniques code uniques c = record { same_owners = λ e. refl; same_names = λ e name. refl; same_uniques = λ e. (let g : true ≡ false = sym c ∙ e in cc) }

  roomy : (b : Bool) (a : ℕ) (o : Outcome) → Keeps o → Keeps (with_room b a s o)
  roomy true a o f = f
  roomy false a o f = given bad_alloc a _ refl

  writes : (bytes : List ℕ) → Keeps (write_out bytes s)
  writes bytes = some success (record s { output = s.output ++ bytes }) (record { same_owners = λ e. refl; same_names = λ e name. refl; same_uniques = λ e T. refl })

  combines : (f : ℤ → ℤ → ℤ) (a b c : ℕ) → Keeps (combine f a b c s)
  combines f a b c =
      bound (integer_at s b) (λ x. integer_at s c >>= λ y. give a (Register.Int (f x y)) s) (λ x. bound (integer_at s c) (λ y. give a (Register.Int (f x y)) s) (λ y. given success a (Register.Int (f x y)) refl))

  next : (a : ℕ) (input : List ℕ) → Keeps (next_byte a input s)
  next a [] = given null_or_none a _ refl
  next a (byte ∷ rest) = answered success a _ (record s { input = rest }) refl (record { same_owners = λ e. refl; same_names = λ e name. refl; same_uniques = λ e T. refl })

  adds : changes_names op ≡ true → (a : ℕ) (name : List ℕ) (t : ℕ) (o : Option Object) (n : ℕ) (room : Bool) → Keeps (add_object a name t o n room s)
  adds m a name t (Some o) n room = given already_exists a _ refl
  adds m a name t None n room = roomy room a _ (answered success a _ _ refl (new_names success _ m))

  item : (a : ℕ) (name : List ℕ) (t : ℕ) (x : ℤ) (o : Option Object) → Keeps (item_of_object a name t x o s)
  item a name t x None = given absent a _ refl
  item a name t x (Some o) = tested _ _ _ (either _ _ _ (λ i. given success a _ refl) (given out_of_range a _ refl)) (given other_type a _ refl)

  finds : changes_names op ≡ true → (a : ℕ) (name : List ℕ) (t : ℕ) (o : Option Object) (room : Bool) → Keeps (find_or_add a name t o room s)
  finds m a name t None room = adds m a name t None 1 room
  finds m a name t (Some o) room = tested _ _ _ (given success a _ refl) (given other_type a _ refl)

  counts : (a t : ℕ) (o : Option Object) → Keeps (count_of_object a t o s)
  counts a t None = given absent a _ refl
  counts a t (Some o) = tested _ _ _ (given success a _ refl) (given other_type a _ refl)

  destroys : changes_names op ≡ true → (a : ℕ) (name : List ℕ) (t : ℕ) (o : Option Object) → Keeps (destroy_object a name t o s)
  destroys m a name t None = given success a _ refl
  destroys m a name t (Some o) = tested _ _ _ (answered success a _ _ refl (new_names success _ m)) (given success a _ refl)

  unique : changes_uniques op ≡ true → (a t : ℕ) (room : Bool) → Keeps (add_unique a t room s)
  unique m a t room = roomy room a _ (answered success a _ _ refl (new_uniques success _ m))

  value_item : (a : ℕ) (p : Path) (x : ℤ) (v : Value) → Keeps (item_of_value a p x v s)
  value_item a p x v =
      let byte = λ (bytes : List ℕ). option_map_or (λ i. give_count a (slice_index bytes i) s) (index_below (length bytes) x) (fail a out_of_range s) in
      let item_of = λ (vs : Values). option_map_or (λ i. refer a (extend p (Selector.item i)) s) (index_below (count vs) x) (fail a out_of_range s) in
      either byte (text_in v) (items_in v >>= item_of)
      (λ bytes. either (λ i. give_count a (slice_index bytes i) s) (index_below (length bytes) x) (fail a out_of_range s) (λ i. given success a _ refl) (given out_of_range a _ refl))
      (bound (items_in v) item_of (λ vs. either (λ i. refer a (extend p (Selector.item i)) s) (index_below (count vs) x) (fail a out_of_range s) (λ i. given success a _ refl) (given out_of_range a _ refl)))

  bytes_pop : (a : ℕ) (p : Path) (bytes : List ℕ) → Keeps (pop_bytes a p bytes s)
  bytes_pop a p [] = given null_or_none a _ refl
  bytes_pop a p (x ∷ xs) = given_put a _ p _ refl

  last_pop : (a : ℕ) (p : Path) (vs : Values) → Keeps (pop_last a p vs s)
  last_pop a p nil = given null_or_none a _ refl
  last_pop a p (cons v vs) = given_put a _ p _ refl

  first_pop : (a : ℕ) (p : Path) (vs : Values) → Keeps (pop_first a p vs s)
  first_pop a p nil = given null_or_none a _ refl
  first_pop a p (cons v vs) = given_put a _ p _ refl

  text : (a : ℕ) (p : Path) (bytes : List ℕ) (room : Bool) → Keeps (set_text a p bytes room s)
  text a p bytes room = roomy room a _ (given_put a _ p _ refl)

  key : (a : ℕ) (keys : List ℤ) → Keeps (first_key a keys s)
  key a [] = given null_or_none a _ refl
  key a (k ∷ ks) = given success a _ refl

  sees : (a : ℕ) (p : Path) (o : Option Value) → Keeps (see_content a p o s)
  sees a p None = given null_or_none a _ refl
  sees a p (Some v) = given success a _ refl

  copies : (a : ℕ) (x : Register) → Keeps (copied s x >>= λ y. give a y s)
  copies a Register.Undefined = none
  copies a (Register.Int k) = given success a _ refl
  copies a (Register.Reference p) = go (path_value s p)
    where
      go : (o : Option Value) → Keeps ((o >>= λ _. Some (Register.Reference p)) >>= λ y. give a y s)
      go None = none
      go (Some v) = given success a _ refl
  copies a (Register.Owner v t) = none

-- TAKE
takes : (s : State) (a : ℕ) (p : Path) (t : ℕ) (o : Option Value) → Keeps Operation.Take s (take_content a p t o s)
takes s a p t None = given Operation.Take s null_or_none a _ refl
takes s a p t (Some v) = answered_moved Operation.Take s success a _ (put_at s p values.Empty) refl (puts Operation.Take s success p values.Empty)

-- lemmas about the parts of rows that make, destroy and move no object
ruleset row_parts = (
  none,
  given,
  given_put,
  put_some,
  copies,
  combines,
  writes,
  next,
  item,
  counts,
  sees,
  value_item,
  bytes_pop,
  last_pop,
  first_pop,
  text,
  key,
  bound,
  either,
  shown,
  roomy,
  some,
  still,
)

module _ (constants : List Constant) (s : State) where
  -- Rows that make, destroy or move an object, and UFIND's, which has a test. The search finds the proof of any other row.
  keeps : (op : Operation) (a b c : ℕ) (number : ℤ) (room : Bool) → Keeps op s (effect constants op a b c number room s)
  unfolding effect
  keeps Operation.Make a b c number room =
      bound Operation.Make s (slice_get constants (constant_operand number) >>= λ k. constant_name k (register s b)) _ (λ name. bound Operation.Make s (integer_or (pos 1) c s) _
      (λ x. either Operation.Make s _ (object_count x) _ (λ n. adds Operation.Make s refl a name (type_operand number) (s.names name) n room) (given Operation.Make s out_of_range a _ refl)))
  keeps Operation.FindOrMake a b c number room =
      bound Operation.FindOrMake s (slice_get constants (constant_operand number) >>= λ k. constant_name k (register s b)) _ (λ name. finds Operation.FindOrMake s refl a name (type_operand number) (s.names name) room)
  keeps Operation.Kill a b c number room =
      bound Operation.Kill s (slice_get constants (constant_operand number) >>= λ k. constant_name k (register s b)) _ (λ name. destroys Operation.Kill s refl a name (type_operand number) (s.names name))
  keeps Operation.MakeUnique a b c number room = tested Operation.MakeUnique s _ _ _ (given Operation.MakeUnique s already_exists a _ refl) (unique Operation.MakeUnique s refl a (nat_abs number) room)
  keeps Operation.FindOrMakeUnique a b c number room = tested Operation.FindOrMakeUnique s _ _ _ (given Operation.FindOrMakeUnique s success a _ refl) (unique Operation.FindOrMakeUnique s refl a (nat_abs number) room)
  keeps Operation.KillUnique a b c number room = tested Operation.KillUnique s _ _ _ (answered Operation.KillUnique s success a _ _ refl (new_uniques Operation.KillUnique s success _ refl)) (given Operation.KillUnique s success a _ refl)
  keeps Operation.FindUnique a b c number room = tested Operation.FindUnique s _ _ _ (given Operation.FindUnique s success a _ refl) (given Operation.FindUnique s absent a _ refl)
  keeps Operation.New a b c number room = roomy Operation.New s room a _ (answered_moved Operation.New s success a _ s refl (still Operation.New s success))
  keeps Operation.Drop a b c number room = bound Operation.Drop s (owned_by (register s b)) _ (λ o. some Operation.Drop s success _ (moved_kept Operation.Drop s success b Register.Undefined s refl (still Operation.Drop s success)))
  keeps Operation.Put a b c number room =
      bound Operation.Put s (path_of s b) _ (λ p. bound Operation.Put s (path_form s p >>= owned_type) _ (λ t. bound Operation.Put s (owned_by (register s c)) _ (λ new. bound Operation.Put s
      (path_value s p >>= content_in) _ (λ o. shown Operation.Put s _ _ (some Operation.Put s success _ (moved_kept Operation.Put s success c Register.Undefined _ refl (puts Operation.Put s success p _)))))))
  keeps Operation.Take a b c number room =
      bound Operation.Take s (path_of s b) _ (λ p. bound Operation.Take s (path_form s p >>= owned_type) _ (λ t. bound Operation.Take s (path_value s p >>= content_in) _ (λ inside. takes s a p t inside)))
  keeps Operation.Freeze a b c number room =
      bound Operation.Freeze s (path_of s b) _ (λ p. bound Operation.Freeze s (path_form s p >>= shared_type) _ (λ t. bound Operation.Freeze s (owned_by (register s c)) _ (λ own. bound Operation.Freeze s (path_value s p) _
      (λ v. shown Operation.Freeze s _ _ (roomy Operation.Freeze s room a _ (answered_moved Operation.Freeze s success a _ _ refl
      (moved_kept Operation.Freeze s success c Register.Undefined _ refl (puts Operation.Freeze s success p _))))))))
  keeps operation a b c number room = search row_parts depth 10

  -- FREEZE sets no register that owns an object
  record Frees (a : ℕ) (o : Outcome) : Type 0 where
    each : (code : Answer) (t : State) → ◌≡◌ {A = Outcome} o (Some (code, t)) → owned_by (register s a) ≡ None

  no_outcome : (a : ℕ) → Frees a None
  no_outcome a = record { each = λ code t e. absurd (let g : ◌≡◌ {A = Outcome} None (Some (code, t)) = e in cc) }

  frees_bound : {A : Type 0} (a : ℕ) (o : Option A) (f : A → Outcome) → ((x : A) → Frees a (f x)) → Frees a (o >>= f)
  frees_bound a None f h = no_outcome a
  frees_bound a (Some x) f h = h x

  frees_shown : (a : ℕ) (b : Bool) (o : Outcome) → Frees a o → Frees a (provided b o)
  frees_shown a true o h = h
  frees_shown a false o h = no_outcome a

  frees_failed : (a : ℕ) → Frees a (fail a bad_alloc s)
  frees_failed a = go (owned_by (register s a)) refl
    where
      go : (o : Option (Value × ℕ)) → owned_by (register s a) ≡ o → Frees a (option_map_or (λ _. None) o (Some (bad_alloc, set_register s a (Register.Int (pos (answer_number bad_alloc))))))
      go None f = record { each = λ code t e. f }
      go (Some v) f = no_outcome a

  freeze_frees : (a b c : ℕ) (number : ℤ) → Frees a (effect constants Operation.Freeze a b c number false s)
  unfolding effect
  freeze_frees a b c number = frees_bound a (path_of s b) _
      (λ p. frees_bound a (path_form s p >>= shared_type) _ (λ t. frees_bound a (owned_by (register s c)) _ (λ own. frees_bound a (path_value s p) _ (λ v. frees_shown a _ _ (frees_failed a)))))

  pub row_keeps : (i : Instruction) (bytes : List ℕ) (code : Answer) (t : State) → RowWith constants i bytes s code t → RowKeeps i.operation s code t
  row_keeps i bytes code t (inl (room, e)) = (keeps i.operation i.a i.b i.c i.number room).each code t e
  row_keeps i bytes code t (inr (w, full)) =
      let row = subst (λ o. effect constants o i.a i.b i.c i.number false s ≡ Some (bad_alloc, w.refused)) w.freezes w.row in
      let free = (freeze_frees i.a i.b i.c i.number).each bad_alloc w.refused row in
      let x = Register.Int (pos (answer_number numbers_used_up)) in
      subst (λ u. RowKeeps i.operation s code u) (sym w.state) (set_kept i.operation s code i.a x s (sym (ap (λ (o : Option (Value × ℕ)). is_some o) free)) (still i.operation s code))

-- ---- the objects that registers own

-- if the same registers own objects, and no object moves, the positions of the objects are the same
pub owned_places : (xs ys : List Register) (before after : List Root) → owners ys ≡ owners xs → AreOwned xs before → AreOwned ys after
    → ((r : ℕ) (a b : Root) → root_of_register xs before r ≡ Some a → root_of_register ys after r ≡ Some b → b.at ≡ a.at) → places_of after ≡ places_of before
owned_places [] [] [] [] e f g stay = refl
owned_places [] [] (a ∷ before) after e f g stay = absurd f
owned_places [] [] [] (b ∷ after) e f g stay = absurd g
owned_places [] (y ∷ ys) before after e f g stay = cc
owned_places (x ∷ xs) [] before after e f g stay = cc
owned_places (Register.Owner v t ∷ xs) (Register.Owner w u ∷ ys) [] after e f g stay = absurd f
owned_places (Register.Owner v t ∷ xs) (Register.Owner w u ∷ ys) (a ∷ before) [] e f g stay = absurd g
owned_places (Register.Owner v t ∷ xs) (Register.Owner w u ∷ ys) (a ∷ before) (b ∷ after) e f g stay =
    let more : owners ys ≡ owners xs = cc in
    let first : b.at ≡ a.at = stay 0 a b refl refl in
    let rest : places_of after ≡ places_of before = owned_places xs ys before after more f.2 g.2 (λ r. stay (suc r)) in
    cc
owned_places (Register.Undefined ∷ xs) (Register.Undefined ∷ ys) before after e f g stay = owned_places xs ys before after (let more : owners ys ≡ owners xs = cc in more) f g (λ r. stay (suc r))
owned_places (Register.Undefined ∷ xs) (Register.Int j ∷ ys) before after e f g stay = owned_places xs ys before after (let more : owners ys ≡ owners xs = cc in more) f g (λ r. stay (suc r))
owned_places (Register.Undefined ∷ xs) (Register.Reference q ∷ ys) before after e f g stay = owned_places xs ys before after (let more : owners ys ≡ owners xs = cc in more) f g (λ r. stay (suc r))
owned_places (Register.Int k ∷ xs) (Register.Undefined ∷ ys) before after e f g stay = owned_places xs ys before after (let more : owners ys ≡ owners xs = cc in more) f g (λ r. stay (suc r))
owned_places (Register.Int k ∷ xs) (Register.Int j ∷ ys) before after e f g stay = owned_places xs ys before after (let more : owners ys ≡ owners xs = cc in more) f g (λ r. stay (suc r))
owned_places (Register.Int k ∷ xs) (Register.Reference q ∷ ys) before after e f g stay = owned_places xs ys before after (let more : owners ys ≡ owners xs = cc in more) f g (λ r. stay (suc r))
owned_places (Register.Reference p ∷ xs) (Register.Undefined ∷ ys) before after e f g stay = owned_places xs ys before after (let more : owners ys ≡ owners xs = cc in more) f g (λ r. stay (suc r))
owned_places (Register.Reference p ∷ xs) (Register.Int j ∷ ys) before after e f g stay = owned_places xs ys before after (let more : owners ys ≡ owners xs = cc in more) f g (λ r. stay (suc r))
owned_places (Register.Reference p ∷ xs) (Register.Reference q ∷ ys) before after e f g stay = owned_places xs ys before after (let more : owners ys ≡ owners xs = cc in more) f g (λ r. stay (suc r))
owned_places (x ∷ xs) (y ∷ ys) before after e f g stay = cc
