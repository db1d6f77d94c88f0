-- The rule by the columns, test by test, and the register that it changes.
--     following s led held, in_turn     the result for an instruction after the test of register b
--     gives_same, opens_same     a register gets a value, and in the else part the code
--     freezes_same               a register gets a number, and another is emptied in the success part
use Rattle.std.proofs.Common.{◌≡◌, ℕ, zero, suc, [], ◌∷◌, refl, sym, ap, ◌∙◌, Bool, true, false, Option, Ok, Err}
use Rattle.std.specs.Prelude.{not, if◌then◌else◌, slice_set}
use Rattle.client_spec.specs.Typed.{Class, RegisterType, RegisterTypes, Reason, ◌>>=◌, Rule, known, is_owner, required, known_after, gives, opens, freezes}
use Rattle.client_verify.specs.Checking.{RuleInput, held, meets, meets_by, referred, is_inside, is_lost, given_by, ended_by, changed, changed_by, frozen_from, applied}

four_in_turn : (b c inside lost : Bool) (r : RegisterTypes × RegisterTypes)
    → ((required b Reason.WrongOperand >>= λ _. required c Reason.WrongOperand >>= λ _. required inside Reason.PutIntoItself >>= λ _. required lost Reason.OwnerLost) >>= λ _. Ok r)
    ≡ (required b Reason.WrongOperand >>= λ _. required c Reason.WrongOperand >>= λ _. required inside Reason.PutIntoItself >>= λ _. required lost Reason.OwnerLost >>= λ _. Ok r)
four_in_turn false c inside lost r = refl
four_in_turn true false inside lost r = refl
four_in_turn true true false lost r = refl
four_in_turn true true true lost r = refl

-- refused if an owner would be lost; else this is known
abbrev pub unless_lost : Bool → RegisterTypes × RegisterTypes → Rule
unless_lost lost r = required (not lost) Reason.OwnerLost >>= λ _. Ok r

module _ (s : RuleInput) where
  -- the result, if register b has this class and this is known of it
  abbrev pub following : Option (Class × ℕ) → RegisterType → Rule
  following x h = do
    _ ← required (meets_by s.types s.number h s.row.needs_c s.c (known s.before s.c)) Reason.WrongOperand
    _ ← required (not (is_inside s.row.ends x s.c)) Reason.PutIntoItself
    unless_lost (is_lost (given_by s h s.row.gives) s.before)
        (changed (given_by s h s.row.gives) (frozen_from s.row.ends s.c (ended_by s x s.row.ends)), changed_by s.row.role (given_by s h s.row.gives) (ended_by s x s.row.ends))

  abbrev pub led_first : RegisterType → Rule
  led_first h = following (referred h) h

  abbrev pub from_first : Rule
  from_first = required (meets s s.row.needs_b s.b) Reason.WrongOperand >>= λ _. led_first (held s)

  pub in_turn : applied s ≡ from_first
  in_turn =
      let h = held s in
      let gives = given_by s h s.row.gives in
      let ended = ended_by s (referred h) s.row.ends in
      four_in_turn (meets s s.row.needs_b s.b) (meets s s.row.needs_c s.c) (not (is_inside s.row.ends (referred h) s.c)) (not (is_lost gives s.before))
      (changed gives (frozen_from s.row.ends s.c ended), changed_by s.row.role gives ended)

-- ---- the register that changes

gives_unless : (lost : Bool) (ks : RegisterTypes) → unless_lost lost (ks, ks) ≡ ((if lost then Err Reason.OwnerLost else Ok ks) >>= known_after)
gives_unless true ks = refl
gives_unless false ks = refl

opens_unless : (lost : Bool) (good bad : RegisterTypes) → unless_lost lost (good, bad) ≡ ((if lost then Err Reason.OwnerLost else Ok good) >>= λ x. (if lost then Err Reason.OwnerLost else Ok bad) >>= λ y. Ok (x, y))
opens_unless true good bad = refl
opens_unless false good bad = refl

pub gives_same : (a : ℕ) (k : RegisterType) (ks before : RegisterTypes) → is_owner (known before a) ≡ is_owner (known ks a) → unless_lost (is_owner (known before a)) (slice_set ks a k, slice_set ks a k) ≡ gives a k ks
gives_same a k ks before e = ap (λ lost. unless_lost lost (slice_set ks a k, slice_set ks a k)) e ∙ gives_unless (is_owner (known ks a)) (slice_set ks a k)

pub opens_same : (a : ℕ) (k : RegisterType) (ks before : RegisterTypes) → is_owner (known before a) ≡ is_owner (known ks a) → unless_lost (is_owner (known before a)) (slice_set ks a k, slice_set ks a RegisterType.Int) ≡ opens a k ks
opens_same a k ks before e = ap (λ lost. unless_lost lost (slice_set ks a k, slice_set ks a RegisterType.Int)) e ∙ opens_unless (is_owner (known ks a)) (slice_set ks a k) (slice_set ks a RegisterType.Int)

-- ---- a register that is emptied in the success part

freezes_unless : (lost gone : Bool) (good bad : RegisterTypes) → (lost ≡ false → gone ≡ false)
    → unless_lost lost (good, bad) ≡ ((if gone then Err Reason.OwnerLost else Ok good) >>= λ x. (if lost then Err Reason.OwnerLost else Ok bad) >>= λ y. Ok (x, y))
freezes_unless true true good bad h = refl
freezes_unless true false good bad h = refl
freezes_unless false gone good bad h = ap (λ g. (if g then Err Reason.OwnerLost else Ok good) >>= λ x. Ok (x, bad)) (sym (h refl))

none_more : (ks : RegisterTypes) (c a : ℕ) → is_owner (known ks a) ≡ false → is_owner (known (slice_set ks c RegisterType.Undefined) a) ≡ false
none_more [] c a e = e
none_more (k ∷ ks) zero zero e = refl
none_more (k ∷ ks) zero (suc a) e = e
none_more (k ∷ ks) (suc c) zero e = e
none_more (k ∷ ks) (suc c) (suc a) e = none_more ks c a e

pub freezes_same : (a c : ℕ) (ks before : RegisterTypes) → is_owner (known before a) ≡ is_owner (known ks a)
    → unless_lost (is_owner (known before a)) (slice_set (slice_set ks c RegisterType.Undefined) a RegisterType.Int, slice_set ks a RegisterType.Int) ≡ freezes a c ks
freezes_same a c ks before e =
    let gone = slice_set ks c RegisterType.Undefined in
    ap (λ lost. unless_lost lost (slice_set gone a RegisterType.Int, slice_set ks a RegisterType.Int)) e
    ∙ freezes_unless (is_owner (known ks a)) (is_owner (known gone a)) (slice_set gone a RegisterType.Int) (slice_set ks a RegisterType.Int) (none_more ks c a)
