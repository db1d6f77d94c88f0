-- An instruction that writes output needs no room, so it has one row. Two outputs of it that fail
-- wrote as many bytes, or one of them wrote more.
use Rattle.std.proofs.Common.{◌≡◌, ℕ, ◌<◌, inl, inr, true, false, Bool, List, [], ◌∷◌, ◌++◌, length, Option, Some, None, refl, sym, ap, ◌∙◌, subst, arith}
use Rattle.std.specs.Prelude.{ℤ, pos, nat_abs, is_some, slice_get, if◌then◌else◌, ◌==◌, ◌&&◌, not}
use Rattle.std.specs.Option.{option_map_or}
use Rattle.std.proofs.lemmas.List.{append_assoc, length-append}
use Rattle.seg_spec.specs.Value.{Value, Text, Seq, Full, nil, cons, count, append, default_of, Selector}
use Rattle.seg_spec.specs.Value as values
use Rattle.seg_spec.specs.Items.{key_place}
use Rattle.client_spec.specs.declared.table.Operation.{Operation}
use Rattle.client_spec.specs.Syntax.{Constant, Instruction}
use Rattle.client_spec.specs.Machine.{◌>>=◌, Origin, Path, Register, Object, State, with_name, replace_item, register, set_register, owned_by, path_value, at_origin, put_origin, put_at}
use Rattle.client_spec.specs.Answer.{Answer, Outcome, success, bad_alloc, already_exists, out_of_range, other_type, answer, provided, integer_at, integer_or, object_count, path_of, path_form, byte_of}
use Rattle.client_spec.specs.Answer.{constant_operand, constant_name, constant_text, type_operand, vec_or_list_item, list_item, map_value, shared_type, items_in, text_in, entries_in, begins_at}
use Rattle.client_spec.specs.Effect.{effect, outcome, add_object, find_or_add, add_unique, set_text}
use Rattle.client_spec.specs.Plain.{CutShort}
use Rattle.client_spec.specs.OnImages.{RowWith}
use Rattle.client_spec.proofs.TypedStates.ValueLaws.{Some_inj}
use Rattle.client_spec.proofs.Rows.RoomRowLaws.{same, denied, by_room}
use Rattle.test_definitions.specs.Agreement.{IsLonger}
use Rattle.test_definitions.proofs.Rows.OneRow.{pair_is}

-- the operations whose row depends on whether there is room
abbrev needs_room : Operation → Bool
needs_room Operation.Make = true
needs_room Operation.FindOrMake = true
needs_room Operation.MakeUnique = true
needs_room Operation.FindOrMakeUnique = true
needs_room Operation.New = true
needs_room Operation.PushBack = true
needs_room Operation.PushFront = true
needs_room Operation.SetStr = true
needs_room Operation.AddStr = true
needs_room Operation.AddByte = true
needs_room Operation.PutKey = true
needs_room Operation.Freeze = true
needs_room operation = false

-- ---- instructions that need room write nothing

record Quiet (s : State) (o : Outcome) : Type 0 where
  each : (code : Answer) (t : State) → ◌≡◌ {A = Outcome} o (Some (code, t)) → t.output ≡ s.output

module _ (s : State) where
  none : Quiet s None
  none = record { each = λ code t e. absurd (let f : ◌≡◌ {A = Outcome} None (Some (code, t)) = e in cc) }

  some : (code : Answer) (u : State) → u.output ≡ s.output → Quiet s (Some (code, u))
  some code u h = record { each = λ c t e. ap (λ (p : State). p.output) (sym (ap (λ (p : Answer × State). p.1) (Some_inj e))) ∙ h }

  bound : {A : Type 0} (m : Option A) (f : A → Outcome) → ((x : A) → Quiet s (f x)) → Quiet s (m >>= f)
  bound None f h = none
  bound (Some x) f h = h x

  either : {A : Type 0} (f : A → Outcome) (m : Option A) (d : Outcome) → ((x : A) → Quiet s (f x)) → Quiet s d → Quiet s (option_map_or f m d)
  either f None d h g = g
  either f (Some x) d h g = h x

  tested : (b : Bool) (o p : Outcome) → Quiet s o → Quiet s p → Quiet s (if b then o else p)
  tested true o p f g = f
  tested false o p f g = g

  given : (b : Bool) (o : Outcome) → Quiet s o → Quiet s (provided b o)
  given true o f = f
  given false o f = none

  answers : (code : Answer) (a : ℕ) (x : Register) (u : State) → u.output ≡ s.output → Quiet s (answer code a x u)
  answers code a x u h = either (λ _. None) (owned_by (register u a)) (Some (code, set_register u a x)) (λ v. none) (some code (set_register u a x) h)

  put_keeps : (p : Path) (v : Value) → (put_at s p v).output ≡ s.output
  put_keeps p v = by (at_origin s p.origin)
    where
      named : (name : List ℕ) (i : ℕ) (w : Value) (o : Option Object) → (option_map_or (λ o. record s { names = with_name s.names name (Some (replace_item i w o)) }) o s).output ≡ s.output
      named name i w None = refl
      named name i w (Some o) = refl

      at : (o : Origin) (w : Value) → (put_origin s o w).output ≡ s.output
      at (Origin.Name name i) w = named name i w (s.names name)
      at (Origin.Unique t) w = refl
      at (Origin.Owned r) w = refl

      by : (o : Option (Value × ℕ)) → (option_map_or (λ found. put_origin s p.origin (values.with_value_at p.selectors v found.0)) o s).output ≡ s.output
      by None = refl
      by (Some found) = at p.origin (values.with_value_at p.selectors v found.0)

  adds : (a : ℕ) (name : List ℕ) (t : ℕ) (o : Option Object) (n : ℕ) → Quiet s (add_object a name t o n true s)
  adds a name t (Some o) n = answers already_exists a _ s refl
  adds a name t None n = answers success a _ _ refl

  finds : (a : ℕ) (name : List ℕ) (t : ℕ) (o : Option Object) → Quiet s (find_or_add a name t o true s)
  finds a name t None = adds a name t None 1
  finds a name t (Some o) = tested (o.type == t) _ _ (answers success a _ s refl) (answers other_type a _ s refl)

  unique : (a t : ℕ) → Quiet s (add_unique a t true s)
  unique a t = answers success a _ _ refl

  text : (a : ℕ) (p : Path) (bytes : List ℕ) → Quiet s (set_text a p bytes true s)
  text a p bytes = answers success a _ _ (put_keeps p (Text bytes))

  refers : (a : ℕ) (p q : Path) (v : Value) → Quiet s (answer success a (Register.Reference q) (put_at s p v))
  refers a p q v = answers success a (Register.Reference q) (put_at s p v) (put_keeps p v)

  module _ (constants : List Constant) where
    quiet : (o : Operation) (a b c : ℕ) (number : ℤ) → needs_room o ≡ true → Quiet s (effect constants o a b c number true s)
    unfolding effect
    quiet Operation.Make a b c number is =
        bound (slice_get constants (constant_operand number) >>= λ k. constant_name k (register s b)) _ (λ name. bound (integer_or (pos 1) c s) _
        (λ x. either _ (object_count x) _ (adds a name (type_operand number) (s.names name)) (answers out_of_range a _ s refl)))
    quiet Operation.FindOrMake a b c number is = bound (slice_get constants (constant_operand number) >>= λ k. constant_name k (register s b)) _ (λ name. finds a name (type_operand number) (s.names name))
    quiet Operation.MakeUnique a b c number is = tested (is_some (s.uniques (nat_abs number))) _ _ (answers already_exists a _ s refl) (unique a (nat_abs number))
    quiet Operation.FindOrMakeUnique a b c number is = tested (is_some (s.uniques (nat_abs number))) _ _ (answers success a _ s refl) (unique a (nat_abs number))
    quiet Operation.New a b c number is = answers success a _ s refl
    quiet Operation.PushBack a b c number is = bound (path_of s b) _ (λ p. bound (path_form s p >>= vec_or_list_item) _ (λ t. bound (path_value s p >>= items_in) _ (λ vs. refers a p _ _)))
    quiet Operation.PushFront a b c number is = bound (path_of s b) _ (λ p. bound (path_form s p >>= list_item) _ (λ t. bound (path_value s p >>= items_in) _ (λ vs. refers a p _ _)))
    quiet Operation.SetStr a b c number is = bound (path_of s b) _ (λ p. bound (path_value s p >>= text_in) _ (λ old. bound (slice_get constants (nat_abs number) >>= constant_text) _ (text a p)))
    quiet Operation.AddStr a b c number is = bound (path_of s b) _ (λ p. bound (path_value s p >>= text_in) _ (λ old. bound (slice_get constants (nat_abs number) >>= constant_text) _ (λ more. text a p (old ++ more))))
    quiet Operation.AddByte a b c number is =
        bound (path_of s b) _ (λ p. bound (path_value s p >>= text_in) _ (λ old. bound (integer_at s c) _ (λ x. either _ (byte_of x) _ (λ byte. text a p (old ++ byte ∷ [])) (answers out_of_range a _ s refl))))
    quiet Operation.PutKey a b c number is =
        bound (path_of s b) _ (λ p. bound (integer_at s c) _ (λ k. bound (path_form s p >>= map_value) _ (λ t. bound (path_value s p >>= entries_in) _
        (λ es. either _ (key_place es.0 k) _ (λ i. answers success a _ s refl) (refers a p _ _)))))
    quiet Operation.Freeze a b c number is =
        bound (path_of s b) _ (λ p. bound (path_form s p >>= shared_type) _ (λ t. bound (owned_by (register s c)) _ (λ own. bound (path_value s p) _
        (λ v. given (t == own.1 && not (begins_at c p.origin)) _ (answers success a _ _ (put_keeps p (Full own.0)))))))
    quiet o a b c number is = absurd (let e : false ≡ true = is in cc)

    room_free : (o : Operation) (a b c : ℕ) (number : ℤ) → needs_room o ≡ false → effect constants o a b c number true s ≡ effect constants o a b c number false s
    unfolding effect
    room_free Operation.Make a b c number is = absurd (let e : true ≡ false = is in cc)
    room_free Operation.FindOrMake a b c number is = absurd (let e : true ≡ false = is in cc)
    room_free Operation.MakeUnique a b c number is = absurd (let e : true ≡ false = is in cc)
    room_free Operation.FindOrMakeUnique a b c number is = absurd (let e : true ≡ false = is in cc)
    room_free Operation.New a b c number is = absurd (let e : true ≡ false = is in cc)
    room_free Operation.PushBack a b c number is = absurd (let e : true ≡ false = is in cc)
    room_free Operation.PushFront a b c number is = absurd (let e : true ≡ false = is in cc)
    room_free Operation.SetStr a b c number is = absurd (let e : true ≡ false = is in cc)
    room_free Operation.AddStr a b c number is = absurd (let e : true ≡ false = is in cc)
    room_free Operation.AddByte a b c number is = absurd (let e : true ≡ false = is in cc)
    room_free Operation.PutKey a b c number is = absurd (let e : true ≡ false = is in cc)
    room_free Operation.Freeze a b c number is = absurd (let e : true ≡ false = is in cc)
    room_free o a b c number is = refl

-- ---- outputs that fail

more_output : (xs ys zs : List ℕ) → xs ++ (ys ++ zs) ≡ xs → 0 < length zs → ⊥
more_output xs ys zs e l =
    let long : length (xs ++ (ys ++ zs)) ≡ length xs = ap length e in
    omega (arith, long, l, length-append xs (ys ++ zs), length-append ys zs)

pub longer_then : (xs ys more : List ℕ) → IsLonger xs ys → IsLonger xs (ys ++ more)
longer_then xs ys more l = record { more = l.more ++ more; is = ap (λ zs. zs ++ more) l.is ∙ append_assoc xs l.more more; some = (let n = length-append l.more more in let some = l.some in omega arith) }

pub data Compared (xs ys : List ℕ) : Type 0 where
  equal : xs ≡ ys → Compared xs ys
  longer : IsLonger xs ys → Compared xs ys
  shorter : IsLonger ys xs → Compared xs ys

-- two beginnings of the same bytes
compared : (xs ys zs ws : List ℕ) → xs ++ ys ≡ zs ++ ws → Compared xs zs
compared [] ys [] ws e = equal refl
compared [] ys (z ∷ zs) ws e = longer (record { more = z ∷ zs; is = refl; some = omega arith })
compared (x ∷ xs) ys [] ws e = shorter (record { more = x ∷ xs; is = refl; some = omega arith })
compared (x ∷ xs) ys (z ∷ zs) ws e =
    let head : x ≡ z = cc in
    let tail : xs ++ ys ≡ zs ++ ws = cc in
    elim (compared xs ys zs ws tail) [
      | equal f ↦ equal (ap (λ l. x ∷ l) f ∙ ap (λ l. l ∷ zs) head)
      | longer l ↦ longer (record { more = l.more; is = ap (λ y. y ∷ zs) (sym head) ∙ ap (λ l. x ∷ l) l.is; some = l.some })
      | shorter l ↦ shorter (record { more = l.more; is = ap (λ y. y ∷ xs) head ∙ ap (λ y. z ∷ y) l.is; some = l.some })
    ]

after_same : (s xs ys : List ℕ) → s ++ xs ≡ s ++ ys → xs ≡ ys
after_same [] xs ys e = e
after_same (x ∷ s) xs ys e = (let tail : s ++ xs ≡ s ++ ys = cc in after_same s xs ys tail)

after_compared : (s xs ys : List ℕ) → Compared xs ys → Compared (s ++ xs) (s ++ ys)
after_compared s xs ys (equal e) = equal (ap (λ l. s ++ l) e)
after_compared s xs ys (longer l) = longer (record { more = l.more; is = ap (λ z. s ++ z) l.is ∙ sym (append_assoc s xs l.more); some = l.some })
after_compared s xs ys (shorter l) = shorter (record { more = l.more; is = ap (λ z. s ++ z) l.is ∙ sym (append_assoc s ys l.more); some = l.some })

module _ (constants : List Constant) (i : Instruction) (s : State) where
  not_quiet : (y : State) (c : CutShort constants i s y) → c.whole.output ≡ s.output → ⊥
  not_quiet y c e = more_output s.output c.front c.lost (sym c.bytes ∙ e) c.proper

  cut_free : (y : State) → CutShort constants i s y → needs_room i.operation ≡ false
  cut_free y c = by (needs_room i.operation) refl
    where
      roomy : needs_room i.operation ≡ true → outcome constants i true s ≡ Some (success, c.whole) → ⊥
      roomy is e = not_quiet y c ((quiet s constants i.operation i.a i.b i.c i.number is).each success c.whole e)

      loud : needs_room i.operation ≡ true → (room : Bool) → outcome constants i room s ≡ Some (success, c.whole) → ⊥
      loud is true e = roomy is e
      loud is false e = elim (by_room constants s i.operation i.a i.b i.c i.number) [
        | same f ↦ roomy is (f ∙ e)
        | denied good bad ↦ (let f : success ≡ bad_alloc = bad success c.whole e in cc)
      ]

      by : (b : Bool) → needs_room i.operation ≡ b → needs_room i.operation ≡ false
      by true is = absurd (loud is c.room c.written)
      by false is = is

  one_outcome_free : needs_room i.operation ≡ false → (r q : Bool) (a b : Answer) (t u : State) → outcome constants i r s ≡ Some (a, t) → outcome constants i q s ≡ Some (b, u) → (a ≡ b) × (t ≡ u)
  one_outcome_free free true true a b t u e f = pair_is a b t u (sym e ∙ f)
  one_outcome_free free false false a b t u e f = pair_is a b t u (sym e ∙ f)
  one_outcome_free free true false a b t u e f = pair_is a b t u (sym e ∙ room_free s constants i.operation i.a i.b i.c i.number free ∙ f)
  one_outcome_free free false true a b t u e f = pair_is a b t u (sym e ∙ sym (room_free s constants i.operation i.a i.b i.c i.number free) ∙ f)

  -- an instruction whose output fails could have written it all, and has no other row
  pub row_is_whole : (bytes : List ℕ) (y t : State) (a : Answer) (c : CutShort constants i s y) → RowWith constants i bytes s a t → t ≡ c.whole
  row_is_whole bytes y t a c (inl r) = (one_outcome_free (cut_free y c) r.0 c.room a success t c.whole r.1 c.written).1
  row_is_whole bytes y t a c (inr u) = absurd (let e : true ≡ false = sym (ap needs_room u.0.freezes) ∙ cut_free y c in cc)

  -- the row wrote more than an output that fails
  pub row_longer : (bytes : List ℕ) (y t : State) (a : Answer) → CutShort constants i s y → RowWith constants i bytes s a t → IsLonger y.output t.output
  row_longer bytes y t a c r = record {
    more = c.lost;
    is = ap (λ (z : State). z.output) (row_is_whole bytes y t a c r) ∙ c.bytes ∙ sym (append_assoc s.output c.front c.lost) ∙ sym (ap (λ (z : State). z.output ++ c.lost) c.taken);
    some = c.proper;
  }

  -- two outputs that fail differ only in the number of bytes that were written
  pub record SameCut (y w : State) : Type 0 where
    pub outputs : Compared y.output w.output
    pub if_equal : y.output ≡ w.output → y ≡ w

  pub same_cut : (y w : State) → CutShort constants i s y → CutShort constants i s w → SameCut y w
  same_cut y w c d =
      let wholes = (one_outcome_free (cut_free y c) c.room d.room success success c.whole d.whole c.written d.written).1 in
      let all : c.front ++ c.lost ≡ d.front ++ d.lost = after_same s.output _ _ (sym c.bytes ∙ ap (λ (z : State). z.output) wholes ∙ d.bytes) in
      let fronts = after_compared s.output c.front d.front (compared c.front c.lost d.front d.lost all) in
      let out_y = ap (λ (z : State). z.output) c.taken in
      let out_w = ap (λ (z : State). z.output) d.taken in
      record {
        outputs = subst (λ o. Compared o w.output) (sym out_y) (subst (λ o. Compared (s.output ++ c.front) o) (sym out_w) fronts);
        if_equal = λ e. c.taken ∙ ap (λ o. record s { output = o }) (sym out_y ∙ e ∙ out_w) ∙ sym d.taken;
      }
