-- Outcomes of rows from a state and from its unfolded state: the parts of rows give the same
-- answer, and the unfolded next state.
use Rattle.std.proofs.Common.{◌≡◌, ℕ, ℤ, pos, List, Bool, true, false, Option, Some, None, refl, sym, ◌∙◌, ap, subst}
use Rattle.std.specs.Prelude.{⊤, option_map, if◌then◌else◌}
use Rattle.std.specs.Option.{option_map_or}
use Rattle.seg_spec.specs.Types.{Form}
use Rattle.seg_spec.specs.Value.{Value}
use Rattle.seg_spec.specs.Shared.{replaced}
use Rattle.client_spec.specs.Syntax.{Constant}
use Rattle.client_spec.specs.Machine.{◌>>=◌, Path, Register, State, register, set_register, owned_by, path_value, put_at}
use Rattle.client_spec.specs.Answer.{Answer, Outcome, success, bad_alloc, answer_number, integer_at, path_of, path_form, answer, give, fail, refer, give_count, proceed, write_out, provided, with_room, constant_name}
use Rattle.client_spec.specs.Trees.{unfolded_register, unfolded_state}
use Rattle.client_spec.proofs.Unfolded.UnfoldedStateLaws.{set_register_same, unfolded_owned, owned_same, integer_same, path_same, value_same, form_same, put_same, name_same}

-- if the first has a value, the second has its image under g
abbrev pub Finds : {A B : Type 0} → (A → B) → Option A → Option B → Type 0
Finds g None y = ⊤
Finds g (Some a) y = y ≡ Some (g a)

pub finds_equal : {A : Type 0} (x y : Option A) → y ≡ x → Finds (λ a. a) x y
finds_equal None y e = tt
finds_equal (Some a) y e = e

pub finds_mapped : {A B : Type 0} (g : A → B) (x : Option A) (y : Option B) → y ≡ option_map g x → Finds g x y
finds_mapped g None y e = tt
finds_mapped g (Some a) y e = e

module _ (m : ℕ → Value) where
  -- if there is a row from the state, there is the same row from the unfolded state
  abbrev pub Same : Outcome → Outcome → Type 0
  Same None o = ⊤
  Same (Some r) o = o ≡ Some (r.0, unfolded_state m r.1)

  pub same_is : (x y : Outcome) → Same x y → (a : Answer) (t : State) → x ≡ Some (a, t) → y ≡ Some (a, unfolded_state m t)
  same_is None y e a t f = cc
  same_is (Some r) y e a t f = e ∙ ap (option_map (λ (z : Answer × State). (z.0, unfolded_state m z.1))) f

  -- ---- control flow in rows

  pub bind_same : {A B : Type 0} (g : A → B) (x : Option A) (y : Option B) (f : A → Outcome) (k : B → Outcome)
      → Finds g x y → ((a : A) → x ≡ Some a → Same (f a) (k (g a))) → Same (x >>= f) (y >>= k)
  bind_same g None y f k e rest = tt
  bind_same g (Some a) y f k e rest = subst (λ z. Same (f a) (z >>= k)) (sym e) (rest a refl)

  -- equal tests have the same rows
  pub along : {A : Type 0} (x y : Option A) (f k : A → Outcome) → y ≡ x → ((a : A) → Same (f a) (k a)) → Same (x >>= f) (y >>= k)
  along x y f k e rest = bind_same (λ a. a) x y f k (finds_equal x y e) (λ a _. rest a)

  pub either_same : {A : Type 0} (o : Option A) (f k : A → Outcome) (x y : Outcome) → ((a : A) → Same (f a) (k a)) → Same x y → Same (option_map_or f o x) (option_map_or k o y)
  either_same None f k x y some none = none
  either_same (Some a) f k x y some none = some a

  pub if_same : (b : Bool) (x y z w : Outcome) → Same x y → Same z w → Same (if b then x else z) (if b then y else w)
  if_same true x y z w first second = first
  if_same false x y z w first second = second

  pub provided_same : (b : Bool) (x y : Outcome) → Same x y → Same (provided b x) (provided b y)
  provided_same true x y e = e
  provided_same false x y e = tt

  -- ---- what a register gets

  answer_by : (code : Answer) (a : ℕ) (x : Register) (s : State) (o : Option (Value × ℕ))
      → Same (option_map_or (λ _. None) o (Some (code, set_register s a x)))
      (option_map_or (λ _. None) (option_map (unfolded_owned m) o) (Some (code, set_register (unfolded_state m s) a (unfolded_register m x))))
  answer_by code a x s None = ap (λ t. Some (code, t)) (sym (set_register_same m s a x))
  answer_by code a x s (Some v) = tt

  answer_same : (code : Answer) (a : ℕ) (x : Register) (s : State) → Same (answer code a x s) (answer code a (unfolded_register m x) (unfolded_state m s))
  answer_same code a x s =
      subst (λ o. Same (answer code a x s) (option_map_or (λ _. None) o (Some (code, set_register (unfolded_state m s) a (unfolded_register m x)))))
      (sym (owned_same m s a)) (answer_by code a x s (owned_by (register s a)))

  -- giving a register a value commutes with unfolding
  pub give_same : (a : ℕ) (x : Register) (s t : State) → t ≡ unfolded_state m s → Same (give a x s) (give a (unfolded_register m x) t)
  give_same a x s t e = subst (λ z. Same (give a x s) (give a (unfolded_register m x) z)) (sym e) (answer_same success a x s)

  pub fail_same : (a : ℕ) (code : Answer) (s : State) → Same (fail a code s) (fail a code (unfolded_state m s))
  fail_same a code s = answer_same code a (Register.Int (pos (answer_number code))) s

  pub refer_same : (a : ℕ) (p : Path) (s t : State) → t ≡ unfolded_state m s → Same (refer a p s) (refer a p t)
  refer_same a p s t e = give_same a (Register.Reference p) s t e

  pub count_same : (a n : ℕ) (s t : State) → t ≡ unfolded_state m s → Same (give_count a n s) (give_count a n t)
  count_same a n s t e = give_same a (Register.Int (pos n)) s t e

  pub proceed_same : (s t : State) → t ≡ unfolded_state m s → Same (proceed s) (proceed t)
  proceed_same s t e = ap (λ z. Some (success, z)) e

  pub write_same : (bytes : List ℕ) (s : State) → Same (write_out bytes s) (write_out bytes (unfolded_state m s))
  write_same bytes s = refl

  pub room_same : (room : Bool) (a : ℕ) (s : State) (x y : Outcome) → Same x y → Same (with_room room a s x) (with_room room a (unfolded_state m s) y)
  room_same true a s x y e = e
  room_same false a s x y e = fail_same a bad_alloc s

  -- ---- the beginnings of rows

  module _ (s : State) where
    abbrev trees : State
    trees = unfolded_state m s

    pub from_integer : (r : ℕ) (f k : ℤ → Outcome) → ((x : ℤ) → Same (f x) (k x)) → Same (integer_at s r >>= f) (integer_at trees r >>= k)
    from_integer r f k rest = along (integer_at s r) (integer_at trees r) f k (integer_same m s r) rest

    pub from_path : (r : ℕ) (f k : Path → Outcome) → ((p : Path) → Same (f p) (k p)) → Same (path_of s r >>= f) (path_of trees r >>= k)
    from_path r f k rest = along (path_of s r) (path_of trees r) f k (path_same m s r) rest

    pub from_owner : (r : ℕ) (f k : Value × ℕ → Outcome) → ((o : Value × ℕ) → Same (f o) (k (unfolded_owned m o))) → Same (owned_by (register s r) >>= f) (owned_by (register trees r) >>= k)
    from_owner r f k rest =
        bind_same (unfolded_owned m) (owned_by (register s r)) (owned_by (register trees r)) f k
        (finds_mapped (unfolded_owned m) (owned_by (register s r)) (owned_by (register trees r)) (owned_same m s r)) (λ o _. rest o)

    pub from_name : (o : Option Constant) (r : ℕ) (f k : List ℕ → Outcome) → ((name : List ℕ) → Same (f name) (k name))
        → Same ((o >>= λ c. constant_name c (register s r)) >>= f) ((o >>= λ c. constant_name c (register trees r)) >>= k)
    from_name o r f k rest = along (o >>= λ c. constant_name c (register s r)) (o >>= λ c. constant_name c (register trees r)) f k (name_same m s r o) rest

    -- continuing with the form at a path commutes with unfolding
    pub from_form : {A : Type 0} (p : Path) (g : Form → Option A) (f k : A → Outcome) → ((x : A) → Same (f x) (k x)) → Same ((path_form s p >>= g) >>= f) ((path_form trees p >>= g) >>= k)
    from_form p g f k rest = along (path_form s p >>= g) (path_form trees p >>= g) f k (ap (λ o. o >>= g) (form_same m s p)) rest

    value_finds : (p : Path) (o : Option Value) → path_value s p ≡ o → Finds (replaced m) o (path_value trees p)
    value_finds p None e = tt
    value_finds p (Some u) e = value_same m s p u e

    pub from_value : (p : Path) (f k : Value → Outcome) → ((v : Value) → path_value s p ≡ Some v → Same (f v) (k (replaced m v))) → Same (path_value s p >>= f) (path_value trees p >>= k)
    from_value p f k rest = bind_same (replaced m) (path_value s p) (path_value trees p) f k (value_finds p (path_value s p) refl) rest

    -- continuing with a part of the value at a path commutes with unfolding
    pub from_part : {A B : Type 0} (g : A → B) (p : Path) (part : Value → Option A) (its : Value → Option B) (f : A → Outcome) (k : B → Outcome)
        → ((v : Value) → Finds g (part v) (its (replaced m v))) → ((x : A) (v : Value) → path_value s p ≡ Some v → part v ≡ Some x → Same (f x) (k (g x)))
        → Same ((path_value s p >>= part) >>= f) ((path_value trees p >>= its) >>= k)
    from_part g p part its f k each rest = by_value (path_value s p) refl
      where
        by_value : (o : Option Value) → path_value s p ≡ o → Same ((o >>= part) >>= f) ((path_value trees p >>= its) >>= k)
        by_value None e = tt
        by_value (Some v) e =
            subst (λ o. Same (part v >>= f) ((o >>= its) >>= k)) (sym (value_same m s p v e)) (bind_same g (part v) (its (replaced m v)) f k (each v) (λ x there. rest x v e there))

    -- a put at a path commutes with unfolding
    pub put_then : (p : Path) (v u w : Value) → path_value s p ≡ Some u → replaced m v ≡ w → put_at trees p w ≡ unfolded_state m (put_at s p v)
    put_then p v u w e f = ap (put_at trees p) (sym f) ∙ sym (put_same m s p v u e)
