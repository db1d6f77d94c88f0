-- The rule of each operation is the rule by its columns.
--     rule_same     for the columns of an operation's row
use Rattle.std.proofs.Common.{◌≡◌, ◌%◌, ℕ, refl, sym, ap, ◌∙◌, List}
use Rattle.std.specs.Prelude.{ℤ, ◌==◌, pos, negsuc, nat_abs, not, slice_get, slice_set}
use Rattle.client_spec.specs.Types.{Table, form_at}
use Rattle.client_spec.specs.Answer.{type_operand, constant_operand}
use Rattle.client_spec.specs.Syntax.{Constant, Instruction}
use Rattle.client_spec.specs.declared.table.Number.{Number}
use Rattle.client_spec.specs.Grammar.{IsInstruction}
use Rattle.client_spec.specs.Typed.{Class, RegisterType, RegisterTypes, Reason, ◌>>=◌, Rule, known, same_class, sharing, is_owner, required, ended}
use Rattle.client_spec.specs.Typed.{others_ended, combines, content_known, item_known, rule, sharing_rule, known_after, owner_needed, gives, opens, freezes}
use Rattle.client_spec.specs.declared.table.Operation.{Operation}
use Rattle.client_spec.specs.declared.table.Operation.TheVariants as op
use Rattle.client_spec.specs.declared.table.Kinds.TheVariants as kinds
use Rattle.client_spec.specs.Operations.{row_of}
use Rattle.client_verify.specs.Passing.{rule_at}
use Rattle.client_verify.specs.Checking.{RuleInput, is_integer, is_content, is_alike, content_of, emptied, applied}
use Rattle.client_verify.proofs.Shapes.{unless_lost, following, led_first, from_first, in_turn, gives_same, opens_same, freezes_same}
use Rattle.client_verify.proofs.Numbers.{AreNamed}
use Rattle.client_verify.proofs.Owners.{owner_kept, owner_kept_but}
use Rattle.client_verify.proofs.Needs.{integer_same, optional_same, name_same, text_same, reference_same, changeable_same, any_changeable_same, alike_same, owner_same, content_same, copy_same}
use Rattle.client_verify.proofs.Forms.{i64_forms, str_forms, list_forms, own_forms, shared_forms, holder_forms, sequence_forms, item_forms, pop_forms, buffered_forms, map_forms}
use Rattle.client_verify.proofs.Forms.{value_forms, sized_forms, struct_forms, owned_part, shared_part, content_part, sequence_part, list_part, value_part, field_part, item_part}

module _ (types : Table) (constants : List Constant) (a b c t k : ℕ) (ks : RegisterTypes) where
  abbrev step : Operation → ℤ → RuleInput
  step operation number = record { types = types; before = ks; row = row_of operation; a = a; b = b; c = c; number = number; type_id = t; constant = k }

  abbrev instruction : Operation → ℤ → Instruction
  instruction operation number = record { operation = operation; a = a; b = b; c = c; number = number }

  -- ---- shapes of several operations

  abbrev IsSame : Operation → ℤ → Type 0
  IsSame operation number = from_first (step operation number) ≡ rule_at types constants (instruction operation number) ks

  -- register a gets `good`, and in the else part `bad`; it is refused if a owns an object
  abbrev gets : RegisterTypes → (good bad : RegisterType) → Rule
  gets es good bad = unless_lost (is_owner (known ks a)) (slice_set es a good, slice_set es a bad)

  opens_int : gets ks RegisterType.Int RegisterType.Int ≡ opens a RegisterType.Int ks
  opens_int = opens_same a RegisterType.Int ks ks refl

  gives_int : gets ks RegisterType.Int RegisterType.Int ≡ gives a RegisterType.Int ks
  gives_int = gives_same a RegisterType.Int ks ks refl

  combines_same : (required (is_integer (known ks b)) Reason.WrongOperand >>= λ _. required (is_integer (known ks c)) Reason.WrongOperand >>= λ _. gets ks RegisterType.Int RegisterType.Int) ≡ combines a b c ks
  combines_same = integer_same (known ks b) _ _ (integer_same (known ks c) _ _ gives_int)

  -- `gets` and `opens` agree for a reference by name, and for a unique object
  opens_named : (number : ℤ) → AreNamed Number.TypedName number t k → gets ks (RegisterType.Reference (Class.Name k) t) RegisterType.Int ≡ opens a (RegisterType.Reference (Class.Name (constant_operand number)) (type_operand number)) ks
  opens_named number named =
      opens_same a (RegisterType.Reference (Class.Name k) t) ks ks refl
      ∙ ap (λ u. opens a (RegisterType.Reference (Class.Name k) u) ks) named.0
      ∙ ap (λ l. opens a (RegisterType.Reference (Class.Name l) (type_operand number)) ks) named.1

  opens_unique : (number : ℤ) → t ≡ nat_abs number → gets ks (RegisterType.Reference (Class.Unique t) t) RegisterType.Int ≡ opens a (RegisterType.Reference (Class.Unique (nat_abs number)) (nat_abs number)) ks
  opens_unique number e = opens_same a (RegisterType.Reference (Class.Unique t) t) ks ks refl ∙ ap (λ u. opens a (RegisterType.Reference (Class.Unique u) u) ks) e

  -- they agree for a reference to a part, whether or not other references have ended
  opens_part : (es : RegisterTypes) (x : Class) (y : ℕ) (part : RegisterType) → is_owner (known es a) ≡ is_owner (known ks a) → part ≡ RegisterType.Reference x y → gets es part RegisterType.Int ≡ opens a (RegisterType.Reference x y) es
  opens_part es x y part kept e = ap (λ p. gets es p RegisterType.Int) e ∙ opens_same a (RegisterType.Reference x y) es ks (sym kept)

  gives_part : (x : Class) (y : ℕ) (part : RegisterType) → part ≡ RegisterType.Reference x y → gets ks part part ≡ gives a (RegisterType.Reference x y) ks
  gives_part x y part e = ap (λ p. gets ks p p) e ∙ gives_same a (RegisterType.Reference x y) ks ks refl

  -- ---- each operation

  same : (operation : Operation) (number : ℤ) → IsInstruction types constants (row_of operation).role (instruction operation number) → AreNamed (row_of operation).number number t k → IsSame operation number
  unfolding rule sharing_rule
  same op.Const number right named = gives_int
  same op.Mov number right named = copy_same (known ks b) (led_first (step op.Mov number)) (λ x. gives a x ks) (λ x. gives_same a x ks ks refl)
  same op.Add number right named = combines_same
  same op.Sub number right named = combines_same
  same op.Mul number right named = combines_same
  same op.Less number right named = combines_same
  same op.Equal number right named = combines_same
  same op.If number right named = integer_same (known ks b) _ _ refl
  same op.While number right named = integer_same (known ks b) _ _ refl
  same op.OutInt number right named = integer_same (known ks b) _ _ refl
  same op.Else number right named = refl
  same op.End number right named = refl
  same op.OutStr number right named = reference_same types number kinds.Str _ (known ks b) (led_first (step op.OutStr number)) _ (λ x. str_forms number) (λ x u y e. refl)
  same op.OutConst (pos n) right named = text_same (slice_get constants n) _ _ right.number refl
  same op.GetByte number right named = opens_int
  same op.Make (pos n) right named = name_same (slice_get constants (n % 256)) b (known ks b) _ _ right.number.1 (optional_same c ks _ _ (opens_named (pos n) named))
  same op.Find (pos n) right named = name_same (slice_get constants (n % 256)) b (known ks b) _ _ right.number.1 (optional_same c ks _ _ (opens_named (pos n) named))
  same op.FindOrMake (pos n) right named = name_same (slice_get constants (n % 256)) b (known ks b) _ _ right.number.1 (opens_named (pos n) named)
  same op.Count (pos n) right named = name_same (slice_get constants (n % 256)) b (known ks b) _ _ right.number.1 opens_int
  same op.Kill (pos n) right named = name_same (slice_get constants (n % 256)) b (known ks b) _ _ right.number.1 (gives_same a RegisterType.Int
      (ended (Class.Name k) ks) ks (sym (owner_kept (Class.Name k) ks a)) ∙ ap (λ l. gives a RegisterType.Int (ended (Class.Name l) ks)) named.1)
  same op.MakeUnique number right named = opens_unique number named
  same op.FindUnique number right named = opens_unique number named
  same op.FindOrMakeUnique number right named = opens_unique number named
  same op.KillUnique number right named = gives_same a RegisterType.Int (ended (Class.Unique t) ks) ks (sym (owner_kept (Class.Unique t) ks a)) ∙ ap (λ u. gives a RegisterType.Int (ended (Class.Unique u) ks)) named
  same op.New number right named = opens_same a (RegisterType.Owner t) ks ks refl ∙ ap (λ u. opens a (RegisterType.Owner u) ks) named
  same op.Drop number right named = owner_same (known ks b) (led_first (step op.Drop number)) _ (λ u. refl)
  same op.Ref number right named = owner_same (known ks b) (led_first (step op.Ref number)) _ (λ u. gives_same a (RegisterType.Reference (Class.Register b) u) ks ks refl)
  same op.Put number right named = changeable_same types number kinds.Own _ (known ks b) (following (step op.Put number)) _ (λ x. own_forms number) (λ x u y e.
      ap (λ part. required (is_content part (known ks c)) Reason.WrongOperand >>= λ _. moved x) (owned_part number (form_at types u) y e) ∙ content_same y (known ks c) (moved x))
    where
      moved : Class → Rule
      moved x = required (not (same_class (sharing x) (Class.Register c))) Reason.PutIntoItself >>= λ _. known_after (emptied c (others_ended x b ks))
  same op.Take number right named = changeable_same types number kinds.Own _ (known ks b) (following (step op.Take number)) _ (λ x. own_forms number) (λ x u y e.
      ap (λ part. gets (others_ended x b ks) (content_of part) RegisterType.Int) (owned_part number (form_at types u) y e)
      ∙ opens_same a (RegisterType.Owner y) (others_ended x b ks) ks (sym (owner_kept_but x b ks a)))
  same op.Content number right named = reference_same types number kinds.Holder content_known (known ks b) (led_first (step op.Content number)) _ (holder_forms number) (λ x u y e.
      ap (λ z. gets ks z RegisterType.Int) (content_part number x (form_at types u) y e) ∙ opens_same a y ks ks refl)
  same op.Clear number right named = any_changeable_same types number (known ks b) (following (step op.Clear number)) _ (λ x u. refl)
  same op.Forget number right named = gives_same b RegisterType.Undefined ks ks refl
  same op.Load number right named = reference_same types number kinds.I64 _ (known ks b) (led_first (step op.Load number)) _ (λ x. i64_forms number) (λ x u y e. gives_int)
  same op.Store number right named = changeable_same types number kinds.I64 _ (known ks b) (following (step op.Store number)) _ (λ x. i64_forms number) (λ x u y e. integer_same (known ks c) _ _ refl)
  same op.Field number right named = reference_same types number kinds.Struct _ (known ks b) (led_first (step op.Field number)) _ (λ x. struct_forms number) (λ x u y e. gives_part x y _ (field_part number x (form_at types u) y e))
  same op.Len number right named = reference_same types number kinds.Sized _ (known ks b) (led_first (step op.Len number)) _ (λ x. sized_forms number) (λ x u y e. gives_int)
  same op.At number right named = reference_same types number kinds.Indexed item_known (known ks b) (led_first (step op.At number)) _ (item_forms number) (λ x u y e. integer_same (known ks c) _ _ (
      ap (λ z. gets ks z RegisterType.Int) (item_part number x (form_at types u) y e) ∙ opens_same a y ks ks refl))
  same op.PushBack number right named = changeable_same types number kinds.Sequence _ (known ks b) (following (step op.PushBack number)) _
      (λ x. sequence_forms number) (λ x u y e. opens_part (others_ended x b ks) x y _ (owner_kept_but x b ks a) (sequence_part number x (form_at types u) y e))
  same op.PushFront number right named = changeable_same types number kinds.List _ (known ks b) (following (step op.PushFront number)) _ (λ x. list_forms number)
      (λ x u y e. opens_part (others_ended x b ks) x y _ (owner_kept_but x b ks a) (list_part number x (form_at types u) y e))
  same op.PopBack number right named = changeable_same types number kinds.Indexed _ (known ks b) (following (step op.PopBack number)) _ (λ x. pop_forms number)
      (λ x u y e. opens_same a RegisterType.Int (others_ended x b ks) ks (sym (owner_kept_but x b ks a)))
  same op.PopFront number right named = changeable_same types number kinds.List _ (known ks b) (following (step op.PopFront number)) _ (λ x. list_forms number)
      (λ x u y e. opens_same a RegisterType.Int (others_ended x b ks) ks (sym (owner_kept_but x b ks a)))
  same op.SetStr (pos n) right named = changeable_same types (pos n) kinds.Str _ (known ks b) (following (step op.SetStr (pos n))) _ (λ x. str_forms (pos n)) (λ x u y e. text_same (slice_get constants n) _ _ right.number opens_int)
  same op.AddStr (pos n) right named = changeable_same types (pos n) kinds.Str _ (known ks b) (following (step op.AddStr (pos n))) _ (λ x. str_forms (pos n)) (λ x u y e. text_same (slice_get constants n) _ _ right.number opens_int)
  same op.AddByte number right named = changeable_same types number kinds.Str _ (known ks b) (following (step op.AddByte number)) _ (λ x. str_forms number) (λ x u y e. integer_same (known ks c) _ _ opens_int)
  same op.Shrink number right named = changeable_same types number kinds.Buffered _ (known ks b) (following (step op.Shrink number)) _ (λ x. buffered_forms number) (λ x u y e. refl)
  same op.GetKey number right named = reference_same types number kinds.Map _ (known ks b) (led_first (step op.GetKey number)) _ (λ x. value_forms number)
      (λ x u y e. integer_same (known ks c) _ _ (opens_part ks x y _ refl (value_part number x (form_at types u) y e)))
  same op.PutKey number right named = changeable_same types number kinds.Map _ (known ks b) (following (step op.PutKey number)) _ (λ x. value_forms number)
      (λ x u y e. integer_same (known ks c) _ _ (opens_part (others_ended x b ks) x y _ (owner_kept_but x b ks a) (value_part number x (form_at types u) y e)))
  same op.DeleteKey number right named = changeable_same types number kinds.Map _ (known ks b) (following (step op.DeleteKey number)) _ (λ x. map_forms number)
      (λ x u y e. integer_same (known ks c) _ _ (gives_same a RegisterType.Int (others_ended x b ks) ks (sym (owner_kept_but x b ks a))))
  same op.FirstKey number right named = reference_same types number kinds.Map _ (known ks b) (led_first (step op.FirstKey number)) _ (λ x. map_forms number) (λ x u y e. opens_int)
  same op.NextKey number right named = reference_same types number kinds.Map _ (known ks b) (led_first (step op.NextKey number)) _ (λ x. map_forms number) (λ x u y e. integer_same (known ks c) _ _ opens_int)
  same op.Freeze number right named = changeable_same types number kinds.Shared _ (known ks b) (following (step op.Freeze number)) _ (λ x. shared_forms number) (λ x u y e.
      ap (λ part. required (is_content part (known ks c)) Reason.WrongOperand >>= λ _. frozen_in x) (shared_part number (form_at types u) y e) ∙ content_same y (known ks c) (frozen_in x)
      ∙ frozen_same x y)
    where
      ended_all : Class → RegisterTypes
      ended_all x = ended (Class.Register c) (others_ended x b ks)

      frozen_in : Class → Rule
      frozen_in x = required (not (same_class (sharing x) (Class.Register c))) Reason.PutIntoItself >>= λ _.
          unless_lost (is_owner (known ks a)) (slice_set (slice_set (ended_all x) c RegisterType.Undefined) a RegisterType.Int, slice_set (ended_all x) a RegisterType.Int)

      frozen_same : (x : Class) (y : ℕ) → (owner_needed (known ks c) >>= λ u. required (y == u) Reason.WrongOperand >>= λ _. frozen_in x)
          ≡ (owner_needed (known ks c) >>= λ u. required (y == u) Reason.WrongOperand >>= λ _. required (not (same_class (sharing x) (Class.Register c))) Reason.PutIntoItself >>= λ _. freezes a c (ended_all x))
      frozen_same x y = ap (λ r. owner_needed (known ks c) >>= λ u. required (y == u) Reason.WrongOperand >>= λ _. required (not (same_class (sharing x) (Class.Register c))) Reason.PutIntoItself >>= λ _. r)
          (freezes_same a c (ended_all x) ks (sym (owner_kept (Class.Register c) (others_ended x b ks) a ∙ owner_kept_but x b ks a)))
  same op.Share number right named = changeable_same types number kinds.Shared _ (known ks b) (following (step op.Share number)) _ (λ x. shared_forms number) (λ x u y e.
      ap (λ part. required (is_alike types part (known ks c)) Reason.WrongOperand >>= λ _. known_after (others_ended x b ks)) (shared_part number (form_at types u) y e)
      ∙ alike_same types y (known ks c) (known_after (others_ended x b ks)))
  same op.OutConst (negsuc n) right named = absurd right.number
  same op.Make (negsuc n) right named = absurd right.number
  same op.Find (negsuc n) right named = absurd right.number
  same op.FindOrMake (negsuc n) right named = absurd right.number
  same op.Count (negsuc n) right named = absurd right.number
  same op.Kill (negsuc n) right named = absurd right.number
  same op.SetStr (negsuc n) right named = absurd right.number
  same op.AddStr (negsuc n) right named = absurd right.number

-- the columns of an operation give its rule
pub rule_same : (s : RuleInput) (constants : List Constant) (operation : Operation) → s.row ≡ row_of operation
    → IsInstruction s.types constants (row_of operation).role (record { operation = operation; a = s.a; b = s.b; c = s.c; number = s.number })
    → AreNamed (row_of operation).number s.number s.type_id s.constant
    → applied s ≡ rule_at s.types constants (record { operation = operation; a = s.a; b = s.b; c = s.c; number = s.number }) s.before
rule_same s constants operation own right named =
    in_turn s
    ∙ ap (λ row. from_first (record s { row = row })) own
    ∙ same s.types constants s.a s.b s.c s.type_id s.constant s.before operation s.number right named
