-- Whether there is room changes an instruction's row in one way only: success becomes out of memory.
use Rattle.std.proofs.Common.{◌≡◌, ℕ, true, false, Bool, List, [], ◌∷◌, ◌++◌, length, Option, Some, None, pos, refl, sym, ap}
use Rattle.std.specs.Prelude.{ℤ, nat_abs, is_some, slice_get, if◌then◌else◌, ◌==◌, ◌&&◌, not}
use Rattle.std.specs.Option.{option_map_or}
use Rattle.seg_spec.specs.Value.{Value, Text, Seq, Full, nil, cons, count, append, copies, default_of, Selector}
use Rattle.seg_spec.specs.Items.{key_place, with_entry}
use Rattle.client_spec.specs.declared.table.Operation.{Operation}
use Rattle.client_spec.specs.Syntax.{Constant}
use Rattle.client_spec.specs.Machine.{◌>>=◌, Origin, Path, extend, Register, Object, State, with_name, with_unique, register, set_register, owned_by, path_value, put_at}
use Rattle.client_spec.specs.Answer.{Answer, Outcome, success, bad_alloc, answer, give, refer, with_room, provided, answer_number, integer_at, integer_or, object_count, path_of, path_form, path_from, byte_of}
use Rattle.client_spec.specs.Answer.{constant_operand, constant_name, constant_text, type_operand, vec_or_list_item, list_item, map_value, shared_type, items_in, text_in, entries_in, begins_at}
use Rattle.client_spec.proofs.TypedStates.ValueLaws.{Some_inj}
use Rattle.client_spec.specs.Effect.{effect, add_object, find_or_add, add_unique, set_text}

-- an outcome can only have this answer
abbrev pub HasAnswer : Answer → Outcome → Type 0
HasAnswer code o = (c : Answer) (t : State) → ◌≡◌ {A = Outcome} o (Some (c, t)) → c ≡ code

-- the outcomes with room and without it: they are the same, or success and out of memory
pub data ByRoom (roomy full : Outcome) : Type 0 where
  same : roomy ≡ full → ByRoom roomy full
  denied : HasAnswer success roomy → HasAnswer bad_alloc full → ByRoom roomy full

has_answer : (code : Answer) (a : ℕ) (x : Register) (s : State) → HasAnswer code (answer code a x s)
has_answer code a x s c t e = by (owned_by (register s a)) e
  where
    by : (o : Option (Value × ℕ)) → ◌≡◌ {A = Outcome} (option_map_or (λ _. None) o (Some (code, set_register s a x))) (Some (c, t)) → c ≡ code
    by None e = sym (ap (λ (p : Answer × State). p.0) (Some_inj e))
    by (Some v) e = cc

-- an operand that needs no room
after : {A : Type 0} (m : Option A) (f g : A → Outcome) → ((x : A) → ByRoom (f x) (g x)) → ByRoom (m >>= f) (m >>= g)
after None f g r = same refl
after (Some x) f g r = r x

mapped : {A : Type 0} (m : Option A) (f g : A → Outcome) (d : Outcome) → ((x : A) → ByRoom (f x) (g x)) → ByRoom (option_map_or f m d) (option_map_or g m d)
mapped None f g d r = same refl
mapped (Some x) f g d r = r x

unless_found : {A : Type 0} (m : Option A) (f : A → Outcome) (d e : Outcome) → ByRoom d e → ByRoom (option_map_or f m d) (option_map_or f m e)
unless_found None f d e r = r
unless_found (Some x) f d e r = same refl

unless : (b : Bool) (o d e : Outcome) → ByRoom d e → ByRoom (if b then o else d) (if b then o else e)
unless true o d e r = same refl
unless false o d e r = r

provided_by : (b : Bool) (d e : Outcome) → ByRoom d e → ByRoom (provided b d) (provided b e)
provided_by true d e r = r
provided_by false d e r = same refl

-- an instruction that gives this if there is room
if_room : (a : ℕ) (s : State) (x : Register) (t : State) → ByRoom (with_room true a s (give a x t)) (with_room false a s (give a x t))
if_room a s x t = denied (has_answer success a x t) (has_answer bad_alloc a (Register.Int (pos (answer_number bad_alloc))) s)

module _ (constants : List Constant) (s : State) where
  new_object : (a : ℕ) (name : List ℕ) (t : ℕ) (o : Option Object) (n : ℕ) → ByRoom (add_object a name t o n true s) (add_object a name t o n false s)
  new_object a name t (Some o) n = same refl
  new_object a name t None n =
      let object : Object = record { type = t; values = copies n (default_of s.types t) } in
      if_room a s (Register.Reference (path_from (Origin.Name name 0))) (record s { names = with_name s.names name (Some object) })

  found : (a : ℕ) (name : List ℕ) (t : ℕ) (o : Option Object) → ByRoom (find_or_add a name t o true s) (find_or_add a name t o false s)
  found a name t None = new_object a name t None 1
  found a name t (Some o) = same refl

  unique : (a t : ℕ) → ByRoom (add_unique a t true s) (add_unique a t false s)
  unique a t = if_room a s (Register.Reference (path_from (Origin.Unique t))) (record s { uniques = with_unique s.uniques t (Some (default_of s.types t)) })

  text : (a : ℕ) (p : Path) (bytes : List ℕ) → ByRoom (set_text a p bytes true s) (set_text a p bytes false s)
  text a p bytes = if_room a s (Register.Int (pos (length bytes))) (put_at s p (Text bytes))

  -- a new part of a value
  part : (a : ℕ) (p : Path) (x : Selector) (v : Value) → ByRoom (with_room true a s (refer a (extend p x) (put_at s p v))) (with_room false a s (refer a (extend p x) (put_at s p v)))
  part a p x v = if_room a s (Register.Reference (extend p x)) (put_at s p v)

  pub by_room : (o : Operation) (a b c : ℕ) (number : ℤ) → ByRoom (effect constants o a b c number true s) (effect constants o a b c number false s)
  unfolding effect
  by_room Operation.Make a b c number =
      after (slice_get constants (constant_operand number) >>= λ k. constant_name k (register s b)) _ _ (λ name. after (integer_or (pos 1) c s) _ _
      (λ x. mapped (object_count x) _ _ _ (new_object a name (type_operand number) (s.names name))))
  by_room Operation.FindOrMake a b c number =
      after (slice_get constants (constant_operand number) >>= λ k. constant_name k (register s b)) _ _ (λ name. found a name (type_operand number) (s.names name))
  by_room Operation.MakeUnique a b c number = unless (is_some (s.uniques (nat_abs number))) _ _ _ (unique a (nat_abs number))
  by_room Operation.FindOrMakeUnique a b c number = unless (is_some (s.uniques (nat_abs number))) _ _ _ (unique a (nat_abs number))
  by_room Operation.New a b c number = if_room a s (Register.Owner (default_of s.types (nat_abs number)) (nat_abs number)) s
  by_room Operation.PushBack a b c number =
      after (path_of s b) _ _ (λ p. after (path_form s p >>= vec_or_list_item) _ _ (λ t. after (path_value s p >>= items_in) _ _ (λ vs. part a p (Selector.item (count vs)) (Seq (append vs (cons (default_of s.types t) nil))))))
  by_room Operation.PushFront a b c number =
      after (path_of s b) _ _ (λ p. after (path_form s p >>= list_item) _ _ (λ t. after (path_value s p >>= items_in) _ _ (λ vs. part a p (Selector.item 0) (Seq (cons (default_of s.types t) vs)))))
  by_room Operation.SetStr a b c number =
      after (path_of s b) _ _ (λ p. after (path_value s p >>= text_in) _ _ (λ old. after (slice_get constants (nat_abs number) >>= constant_text) _ _ (text a p)))
  by_room Operation.AddStr a b c number =
      after (path_of s b) _ _ (λ p. after (path_value s p >>= text_in) _ _ (λ old. after (slice_get constants (nat_abs number) >>= constant_text) _ _ (λ more. text a p (old ++ more))))
  by_room Operation.AddByte a b c number =
      after (path_of s b) _ _ (λ p. after (path_value s p >>= text_in) _ _ (λ old. after (integer_at s c) _ _ (λ x. mapped (byte_of x) _ _ _ (λ byte. text a p (old ++ byte ∷ [])))))
  by_room Operation.PutKey a b c number =
      after (path_of s b) _ _ (λ p. after (integer_at s c) _ _ (λ k. after (path_form s p >>= map_value) _ _ (λ t. after (path_value s p >>= entries_in) _ _
      (λ es. unless_found (key_place es.0 k) _ _ _ (part a p (Selector.key k) (with_entry es k (default_of s.types t)))))))
  by_room Operation.Freeze a b c number =
      after (path_of s b) _ _ (λ p. after (path_form s p >>= shared_type) _ _ (λ t. after (owned_by (register s c)) _ _ (λ own. after (path_value s p) _ _
      (λ v. provided_by (t == own.1 && not (begins_at c p.origin)) _ _ (if_room a s (Register.Int (pos 1)) (set_register (put_at s p (Full own.0)) c Register.Undefined))))))
  by_room o a b c number = same refl
