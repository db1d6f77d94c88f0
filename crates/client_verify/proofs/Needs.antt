-- What an instruction needs of its registers is the same by the columns of the instruction table
-- and by its rule.
--     integer_same, name_same, text_same     a number, the number of a name, a text
--     reference_same, alike_same             a reference to a value of a kind, or to a shared of a type
--     changeable_same, any_changeable_same   a reference that allows changes, to a value of a kind or of any
--     owner_same, content_same, copy_same    an owner, an owner of an object of a type, and what may be copied
use Rattle.std.proofs.Common.{◌≡◌, ℕ, refl, sym, ap, ◌∙◌, arith, Bool, true, false, Option, Some, None, Ok, Err}
use Rattle.std.specs.Prelude.{⊤, ℤ, ◌==◌, if◌then◌else◌}
use Rattle.std.specs.Option.{is_some, option_and_then}
use Rattle.client_spec.specs.Types.{Form, Table, form_at}
use Rattle.client_spec.specs.Syntax.{Constant}
use Rattle.client_spec.specs.Grammar.{NamesBy, IsTextConstant}
use Rattle.client_spec.specs.Typed.{Class, RegisterType, RegisterTypes, Reason, Checked, ◌>>=◌, Rule, known, is_owner, integer_needed, reference_needed, owner_needed}
use Rattle.client_spec.specs.Typed.{copy_needed, some_needed, name_needed, text_needed, integer_or_none, form_needed, required, changeable_needed, sharing, is_frozen}
use Rattle.client_spec.specs.Answer.{shared_type}
use Rattle.client_spec.specs.declared.table.Kinds.{Kinds}
use Rattle.client_spec.specs.declared.table.Kinds.TheVariants as kinds
use Rattle.client_verify.specs.Checking.{is_kind, is_kind_at, is_integer, is_copyable, is_content, leads_to, may_change, shares, is_alike, referred}
use Rattle.client_verify.proofs.Forms.{AreForms}

-- ---- numbers and texts

pub integer_same : (k : RegisterType) (x y : Rule) → x ≡ y → (required (is_integer k) Reason.WrongOperand >>= λ _. x) ≡ (integer_needed k >>= λ _. y)
integer_same RegisterType.Undefined x y e = refl
integer_same RegisterType.Int x y e = e
integer_same (RegisterType.Reference z t) x y e = refl
integer_same (RegisterType.Owner t) x y e = refl

pub optional_same : (c : ℕ) (ks : RegisterTypes) (x y : Rule) → x ≡ y → (required (if c == 16 then true else is_integer (known ks c)) Reason.WrongOperand >>= λ _. x) ≡ (integer_or_none c ks >>= λ _. y)
optional_same c ks x y e = by_none (c == 16)
  where
    by_none : (none : Bool) → (required (if none then true else is_integer (known ks c)) Reason.WrongOperand >>= λ _. x) ≡ ((if none then Ok tt else integer_needed (known ks c)) >>= λ _. y)
    by_none true = e
    by_none false = integer_same (known ks c) x y e

-- a family's name has its number in register b, and an exact name has none
pub name_same : (o : Option Constant) (b : ℕ) (k : RegisterType) (x y : Rule) → NamesBy o b → x ≡ y → (required (if b == 16 then true else is_integer k) Reason.WrongOperand >>= λ _. x) ≡ (name_needed o k >>= λ _. y)
name_same None b k x y h e = absurd h
name_same (Some (Constant.Text bytes)) b k x y h e = absurd h
name_same (Some (Constant.Name name)) b k x y h e = ap (λ n. required (if n == 16 then true else is_integer k) Reason.WrongOperand >>= λ _. x) h ∙ e
name_same (Some (Constant.Family prefix)) b k x y h e =
    let other : (b == 16) ≡ false = grind arith in
    ap (λ none. required (if none then true else is_integer k) Reason.WrongOperand >>= λ _. x) other ∙ integer_same k x y e

pub text_same : (o : Option Constant) (x y : Rule) → IsTextConstant o → x ≡ y → x ≡ (text_needed o >>= λ _. y)
text_same None x y h e = absurd h
text_same (Some (Constant.Text bytes)) x y h e = e
text_same (Some (Constant.Name name)) x y h e = absurd h
text_same (Some (Constant.Family prefix)) x y h e = absurd h

-- ---- references

some_same : {A : Type 0} (o : Option A) (b : Bool) (x : Rule) (rest : A → Rule) → is_some o ≡ b → ((y : A) → o ≡ Some y → x ≡ rest y) → (required b Reason.WrongOperand >>= λ _. x) ≡ (some_needed o >>= rest)
some_same None b x rest e same = ap (λ v. required v Reason.WrongOperand >>= λ _. x) (sym e)
some_same (Some y) b x rest e same = ap (λ v. required v Reason.WrongOperand >>= λ _. x) (sym e) ∙ same y refl

form_same : {A : Type 0} (number : ℤ) (kinds : Kinds) (f : Form → Option A) (o : Option Form) (x : Rule) (rest : A → Rule)
    → AreForms number kinds f → ((y : A) → option_and_then f o ≡ Some y → x ≡ rest y)
    → (required (is_kind_at number kinds o) Reason.WrongOperand >>= λ _. x) ≡ (some_needed (option_and_then f o) >>= rest)
form_same number kinds f None x rest are same = ap (λ v. required v Reason.WrongOperand >>= λ _. x) are.1
form_same number kinds f (Some form) x rest are same = some_same (f form) (is_kind number kinds form) x rest (are.0 form) same

pub reference_same : {A : Type 0} (types : Table) (number : ℤ) (kinds : Kinds)
    (f : Class → Form → Option A) (k : RegisterType) (following : RegisterType → Rule) (rest : Class × ℕ → A → Rule) → ((x : Class) → AreForms number kinds (f x))
    → ((x : Class) (t : ℕ) (y : A) → option_and_then (f x) (form_at types t) ≡ Some y → following (RegisterType.Reference x t) ≡ rest (x, t) y)
    → (required (leads_to types number kinds k) Reason.WrongOperand >>= λ _. following k)
    ≡ (reference_needed k >>= λ x. form_needed (f x.0) types x.1 >>= λ y. rest x y)
reference_same types number kinds f RegisterType.Undefined following rest are same = refl
reference_same types number kinds f RegisterType.Int following rest are same = refl
reference_same types number kinds f (RegisterType.Reference x t) following rest are same = form_same number kinds (f x) (form_at types t) (following (RegisterType.Reference x t)) (rest (x, t)) (are x) (same x t)
reference_same types number kinds f (RegisterType.Owner t) following rest are same = refl

-- a class that isn't frozen is its own sharing class
own_class : (x : Class) → is_frozen x ≡ false → sharing x ≡ x
own_class (Class.Frozen x) e = cc
own_class x e = refl

where_frozen : (x : Class) (t : ℕ) (is_of : Bool) (following : Option (Class × ℕ) → RegisterType → Rule) (rest : Rule)
    → (required is_of Reason.WrongOperand >>= λ _. following (Some (x, t)) (RegisterType.Reference x t)) ≡ rest
    → (required (if is_frozen x then false else is_of) Reason.WrongOperand >>= λ _. following (Some (sharing x, t)) (RegisterType.Reference x t))
    ≡ (changeable_needed (RegisterType.Reference x t) >>= λ _. rest)
where_frozen x t is_of following rest same = by_frozen (is_frozen x) refl
  where
    may_if : Bool → Checked (⊤)
    may_if b = if b then Err Reason.WrongOperand else Ok tt

    by_frozen : (b : Bool) → is_frozen x ≡ b → (required (if b then false else is_of) Reason.WrongOperand >>= λ _. following (Some (sharing x, t)) (RegisterType.Reference x t))
        ≡ (may_if b >>= λ _. rest)
    by_frozen true e = refl
    by_frozen false e = ap (λ y. required is_of Reason.WrongOperand >>= λ _. following (Some (y, t)) (RegisterType.Reference x t)) (own_class x e) ∙ same

pub changeable_same : {A : Type 0} (types : Table) (number : ℤ) (kinds : Kinds)
    (f : Class → Form → Option A) (k : RegisterType) (following : Option (Class × ℕ) → RegisterType → Rule) (rest : Class × ℕ → A → Rule) → ((x : Class) → AreForms number kinds (f x))
    → ((x : Class) (t : ℕ) (y : A) → option_and_then (f x) (form_at types t) ≡ Some y → following (Some (x, t)) (RegisterType.Reference x t) ≡ rest (x, t) y)
    → (required (may_change types number kinds k) Reason.WrongOperand >>= λ _. following (referred k) k)
    ≡ (changeable_needed k >>= λ _. reference_needed k >>= λ x. form_needed (f x.0) types x.1 >>= λ y. rest x y)
changeable_same types number kinds f RegisterType.Undefined following rest are same = refl
changeable_same types number kinds f RegisterType.Int following rest are same = refl
changeable_same types number kinds f (RegisterType.Reference x t) following rest are same =
    where_frozen x t (is_kind_at number kinds (form_at types t)) following (form_needed (f x) types t >>= rest (x, t))
    (form_same number kinds (f x) (form_at types t) (following (Some (x, t)) (RegisterType.Reference x t)) (rest (x, t)) (are x) (same x t))
changeable_same types number kinds f (RegisterType.Owner t) following rest are same = refl

any_kind : (number : ℤ) (o : Option Form) → is_kind_at number kinds.Any o ≡ true
any_kind number None = refl
any_kind number (Some form) = refl

pub any_changeable_same : (types : Table) (number : ℤ) (k : RegisterType) (following : Option (Class × ℕ) → RegisterType → Rule) (rest : Class × ℕ → Rule)
    → ((x : Class) (t : ℕ) → following (Some (x, t)) (RegisterType.Reference x t) ≡ rest (x, t))
    → (required (may_change types number kinds.Any k) Reason.WrongOperand >>= λ _. following (referred k) k) ≡ (changeable_needed k >>= λ _. reference_needed k >>= rest)
any_changeable_same types number RegisterType.Undefined following rest same = refl
any_changeable_same types number RegisterType.Int following rest same = refl
any_changeable_same types number (RegisterType.Reference x t) following rest same =
    where_frozen x t (is_kind_at number kinds.Any (form_at types t)) following (rest (x, t))
    (ap (λ v. required v Reason.WrongOperand >>= λ _. following (Some (x, t)) (RegisterType.Reference x t)) (any_kind number (form_at types t)) ∙ same x t)
any_changeable_same types number (RegisterType.Owner t) following rest same = refl

pub alike_same : (types : Table) (t : ℕ) (k : RegisterType) (x : Rule) → (required (is_alike types (Some t) k) Reason.WrongOperand >>= λ _. x)
    ≡ (reference_needed k >>= λ y. form_needed shared_type types y.1 >>= λ u. required (t == u) Reason.WrongOperand >>= λ _. x)
alike_same types t RegisterType.Undefined x = refl
alike_same types t RegisterType.Int x = refl
alike_same types t (RegisterType.Reference y u) x = by_form (form_at types u)
  where
    by_form : (o : Option Form) → (required (shares (Some t) o) Reason.WrongOperand >>= λ _. x) ≡ (some_needed (option_and_then shared_type o) >>= λ u. required (t == u) Reason.WrongOperand >>= λ _. x)
    by_form None = refl
    by_form (Some (Form.shared v)) = refl
    by_form (Some form) = refl
alike_same types t (RegisterType.Owner u) x = refl

-- ---- owners and copies

pub owner_same : (k : RegisterType) (following : RegisterType → Rule) (rest : ℕ → Rule) → ((t : ℕ) → following (RegisterType.Owner t) ≡ rest t) → (required (is_owner k) Reason.WrongOperand >>= λ _. following k) ≡ (owner_needed k >>= rest)
owner_same RegisterType.Undefined following rest same = refl
owner_same RegisterType.Int following rest same = refl
owner_same (RegisterType.Reference x t) following rest same = refl
owner_same (RegisterType.Owner t) following rest same = same t

pub content_same : (t : ℕ) (k : RegisterType) (x : Rule) → (required (is_content (Some t) k) Reason.WrongOperand >>= λ _. x) ≡ (owner_needed k >>= λ u. required (t == u) Reason.WrongOperand >>= λ _. x)
content_same t RegisterType.Undefined x = refl
content_same t RegisterType.Int x = refl
content_same t (RegisterType.Reference y u) x = refl
content_same t (RegisterType.Owner u) x = refl

pub copy_same : (k : RegisterType) (following rest : RegisterType → Rule) → ((k : RegisterType) → following k ≡ rest k) → (required (is_copyable k) Reason.WrongOperand >>= λ _. following k) ≡ (copy_needed k >>= rest)
copy_same RegisterType.Undefined following rest same = refl
copy_same RegisterType.Int following rest same = same RegisterType.Int
copy_same (RegisterType.Reference x t) following rest same = same (RegisterType.Reference x t)
copy_same (RegisterType.Owner t) following rest same = refl
