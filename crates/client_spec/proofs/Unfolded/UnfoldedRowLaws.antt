-- Rows of operations on registers, input and output, names, unique objects and owners, from a state
-- and from its unfolded state.
use Rattle.std.proofs.Common.{◌≡◌, ℕ, ℤ, pos, List, [], ◌∷◌, ◌++◌, Bool, Option, Some, None, refl, sym, ◌∙◌, ap, subst}
use Rattle.std.specs.Prelude.{option_map, is_some, slice_get, nat_abs, int_lt, ◌==◌, if◌then◌else◌}
use Rattle.std.specs.Int.{w64, int_wrapping_add, int_wrapping_sub, int_wrapping_mul}
use Rattle.std.specs.Fmt.{signed_decimal}
use Rattle.std.specs.Option.{option_map_or}
use Rattle.seg_spec.specs.Value.{Value, count, copies, default_of, same_int}
use Rattle.seg_spec.specs.Shared.{replaced}
use Rattle.client_spec.specs.declared.table.Operation.{Operation}
use Rattle.client_spec.specs.Syntax.{Constant}
use Rattle.client_spec.specs.Machine.{◌>>=◌, Origin, Register, Object, State, with_name, with_unique, register, set_register, path_value}
use Rattle.client_spec.specs.Answer.{already_exists, absent, other_type, out_of_range, null_or_none, copied, give, fail, refer}
use Rattle.client_spec.specs.Answer.{give_count, path_from, index_below, object_count, type_operand, constant_operand, integer_or, constant_text, text_in}
use Rattle.client_spec.specs.Effect.{combine, truth, next_byte, add_object, item_of_object, find_or_add, count_of_object, destroy_object, add_unique, effect}
use Rattle.client_spec.specs.Trees.{unfolded_object, unfolded_register, unfolded_state}
use Rattle.client_spec.proofs.Unfolded.UnfoldedValueLaws.{default_replaced, count_replaced, copies_replaced}
use Rattle.client_spec.proofs.Unfolded.UnfoldedStateLaws.{register_same, set_register_same, value_same, integer_or_same, with_name_same, with_unique_same}
use Rattle.client_spec.proofs.Unfolded.UnfoldedPartLaws.{bytes_replaced}
use Rattle.client_spec.proofs.Unfolded.UnfoldedOutcomeLaws.{Finds, Same, bind_same, along, either_same, if_same, give_same, fail_same, refer_same}
use Rattle.client_spec.proofs.Unfolded.UnfoldedOutcomeLaws.{count_same, proceed_same, write_same, room_same, from_integer, from_path, from_owner, from_name, from_part}

module _ (m : ℕ → Value) (constants : List Constant) (s : State) where
  abbrev trees : State
  trees = unfolded_state m s

  abbrev pub RowSame : Operation → Type 0
  RowSame op = (a b c : ℕ) (number : ℤ) (room : Bool) → Same m (effect constants op a b c number room s) (effect constants op a b c number room trees)

  -- ---- registers alone

  pub const_same : RowSame Operation.Const
  unfolding effect
  const_same a b c number room = give_same m a (Register.Int number) s trees refl

  copy_finds : (x : Register) → Finds (unfolded_register m) (copied s x) (copied trees (unfolded_register m x))
  copy_finds Register.Undefined = tt
  copy_finds (Register.Int k) = refl
  copy_finds (Register.Owner v t) = tt
  copy_finds (Register.Reference p) = by_value (path_value s p) refl
    where
      by_value : (o : Option Value) → path_value s p ≡ o → Finds (unfolded_register m) (o >>= λ _. Some (Register.Reference p)) (copied trees (Register.Reference p))
      by_value None e = tt
      by_value (Some v) e = ap (λ o. o >>= λ _. Some (Register.Reference p)) (value_same m s p v e)

  pub mov_same : RowSame Operation.Mov
  unfolding effect
  mov_same a b c number room =
      bind_same m (unfolded_register m) (copied s (register s b)) (copied trees (register trees b)) (λ x. give a x s) (λ x. give a x trees)
      (subst (λ x. Finds (unfolded_register m) (copied s (register s b)) (copied trees x)) (sym (register_same m s b)) (copy_finds (register s b)))
      (λ x _. give_same m a x s trees refl)

  combined : (f : ℤ → ℤ → ℤ) (a b c : ℕ) → Same m (combine f a b c s) (combine f a b c trees)
  combined f a b c = from_integer m s b _ _ (λ x. from_integer m s c _ _ (λ y. give_same m a (Register.Int (f x y)) s trees refl))

  pub add_same : RowSame Operation.Add
  unfolding effect
  add_same a b c number room = combined (int_wrapping_add w64) a b c

  pub sub_same : RowSame Operation.Sub
  unfolding effect
  sub_same a b c number room = combined (int_wrapping_sub w64) a b c

  pub mul_same : RowSame Operation.Mul
  unfolding effect
  mul_same a b c number room = combined (int_wrapping_mul w64) a b c

  pub less_same : RowSame Operation.Less
  unfolding effect
  less_same a b c number room = combined (λ x y. truth (int_lt x y)) a b c

  pub equal_same : RowSame Operation.Equal
  unfolding effect
  equal_same a b c number room = combined (λ x y. truth (same_int x y)) a b c

  pub branch_same : RowSame Operation.If
  unfolding effect
  branch_same a b c number room = from_integer m s b _ _ (λ x. refl)

  pub while_same : RowSame Operation.While
  unfolding effect
  while_same a b c number room = tt

  pub else_same : RowSame Operation.Else
  unfolding effect
  else_same a b c number room = tt

  pub end_same : RowSame Operation.End
  unfolding effect
  end_same a b c number room = tt

  -- ---- input and output

  pub out_number_same : RowSame Operation.OutInt
  unfolding effect
  out_number_same a b c number room = from_integer m s b _ _ (λ x. write_same m (signed_decimal x ++ 10 ∷ []) s)

  pub out_text_same : RowSame Operation.OutStr
  unfolding effect
  out_text_same a b c number room = from_path m s b _ _ (λ p. from_part m s (λ k. k) p text_in text_in _ _ (bytes_replaced m) (λ bytes v _ _. write_same m bytes s))

  pub out_constant_same : RowSame Operation.OutConst
  unfolding effect
  out_constant_same a b c number room = along m (slice_get constants (nat_abs number) >>= constant_text) (slice_get constants (nat_abs number) >>= constant_text) _ _ refl (λ bytes. write_same m bytes s)

  next_same : (a : ℕ) (bytes : List ℕ) → Same m (next_byte a bytes s) (next_byte a bytes trees)
  next_same a [] = fail_same m a null_or_none s
  next_same a (byte ∷ rest) = give_same m a (Register.Int (pos byte)) (record s { input = rest }) (record trees { input = rest }) refl

  pub byte_same : RowSame Operation.GetByte
  unfolding effect
  byte_same a b c number room = next_same a s.input

  -- ---- named objects

  abbrev object_of : ℕ → ℕ → Object
  object_of t n = record { type = t; values = copies n (default_of s.types t) }

  object_same : (t n : ℕ) → unfolded_object m (object_of t n) ≡ object_of t n
  object_same t n = ap (λ vs. record { type = t; values = vs }) (copies_replaced m n (default_of s.types t) ∙ ap (copies n) (default_replaced m s.types t))

  added : (a : ℕ) (name : List ℕ) (t n : ℕ) (o : Option Object) (room : Bool) → Same m (add_object a name t o n room s) (add_object a name t (option_map (unfolded_object m) o) n room trees)
  added a name t n None room =
      room_same m room a s _ _ (refer_same m a (path_from (Origin.Name name 0)) (record s { names = with_name s.names name (Some (object_of t n)) }) (record trees { names = with_name trees.names name (Some (object_of t n)) })
      (ap (λ o. record trees { names = with_name trees.names name (Some o) }) (sym (object_same t n)) ∙ sym (with_name_same m s name (Some (object_of t n)))))
  added a name t n (Some o) room = fail_same m a already_exists s

  pub make_same : RowSame Operation.Make
  unfolding effect
  make_same a b c number room =
      from_name m s (slice_get constants (constant_operand number)) b _ _ (λ name.
      along m (integer_or (pos 1) c s) (integer_or (pos 1) c trees) _ _ (integer_or_same m (pos 1) c s) (λ x.
      either_same m (object_count x) _ _ _ _ (λ n. added a name (type_operand number) n (s.names name) room) (fail_same m a out_of_range s)))

  item_found : (a : ℕ) (name : List ℕ) (t : ℕ) (x : ℤ) (o : Option Object) → Same m (item_of_object a name t x o s) (item_of_object a name t x (option_map (unfolded_object m) o) trees)
  item_found a name t x None = fail_same m a absent s
  item_found a name t x (Some o) =
      if_same m (o.type == t) _ _ _ _
      (subst (λ n. Same m (option_map_or (λ i. refer a (path_from (Origin.Name name i)) s) (index_below (count o.values) x) (fail a out_of_range s))
      (option_map_or (λ i. refer a (path_from (Origin.Name name i)) trees) (index_below n x) (fail a out_of_range trees)))
      (sym (count_replaced m o.values))
      (either_same m (index_below (count o.values) x) _ _ _ _ (λ i. refer_same m a (path_from (Origin.Name name i)) s trees refl) (fail_same m a out_of_range s)))
      (fail_same m a other_type s)

  pub find_same : RowSame Operation.Find
  unfolding effect
  find_same a b c number room =
      from_name m s (slice_get constants (constant_operand number)) b _ _ (λ name.
      along m (integer_or (pos 0) c s) (integer_or (pos 0) c trees) _ _ (integer_or_same m (pos 0) c s) (λ x. item_found a name (type_operand number) x (s.names name)))

  found_or_added : (a : ℕ) (name : List ℕ) (t : ℕ) (o : Option Object) (room : Bool) → Same m (find_or_add a name t o room s) (find_or_add a name t (option_map (unfolded_object m) o) room trees)
  found_or_added a name t None room = added a name t 1 None room
  found_or_added a name t (Some o) room = if_same m (o.type == t) _ _ _ _ (refer_same m a (path_from (Origin.Name name 0)) s trees refl) (fail_same m a other_type s)

  pub find_or_make_same : RowSame Operation.FindOrMake
  unfolding effect
  find_or_make_same a b c number room = from_name m s (slice_get constants (constant_operand number)) b _ _ (λ name. found_or_added a name (type_operand number) (s.names name) room)

  counted : (a t : ℕ) (o : Option Object) → Same m (count_of_object a t o s) (count_of_object a t (option_map (unfolded_object m) o) trees)
  counted a t None = fail_same m a absent s
  counted a t (Some o) =
      if_same m (o.type == t) _ _ _ _
      (subst (λ n. Same m (give_count a (count o.values) s) (give_count a n trees)) (sym (count_replaced m o.values)) (count_same m a (count o.values) s trees refl))
      (fail_same m a other_type s)

  pub count_row_same : RowSame Operation.Count
  unfolding effect
  count_row_same a b c number room = from_name m s (slice_get constants (constant_operand number)) b _ _ (λ name. counted a (type_operand number) (s.names name))

  destroyed : (a : ℕ) (name : List ℕ) (t : ℕ) (o : Option Object) → Same m (destroy_object a name t o s) (destroy_object a name t (option_map (unfolded_object m) o) trees)
  destroyed a name t None = count_same m a 0 s trees refl
  destroyed a name t (Some o) =
      if_same m (o.type == t) _ _ _ _
      (count_same m a 1 (record s { names = with_name s.names name None }) (record trees { names = with_name trees.names name None }) (sym (with_name_same m s name None)))
      (count_same m a 0 s trees refl)

  pub kill_same : RowSame Operation.Kill
  unfolding effect
  kill_same a b c number room = from_name m s (slice_get constants (constant_operand number)) b _ _ (λ name. destroyed a name (type_operand number) (s.names name))

  -- ---- unique objects

  is_there : (o : Option Value) → is_some (option_map (replaced m) o) ≡ is_some o
  is_there None = refl
  is_there (Some v) = refl

  by_unique : (T : ℕ) (x y z w : _) → Same m x y → Same m z w → Same m (if is_some (s.uniques T) then x else z) (if is_some (trees.uniques T) then y else w)
  by_unique T x y z w e f = subst (λ b. Same m (if is_some (s.uniques T) then x else z) (if b then y else w)) (sym (is_there (s.uniques T))) (if_same m (is_some (s.uniques T)) x y z w e f)

  unique_added : (a t : ℕ) (room : Bool) → Same m (add_unique a t room s) (add_unique a t room trees)
  unique_added a t room =
      room_same m room a s _ _ (refer_same m a (path_from (Origin.Unique t)) (record s { uniques = with_unique s.uniques t (Some (default_of s.types t)) })
      (record trees { uniques = with_unique trees.uniques t (Some (default_of s.types t)) })
      (ap (λ v. record trees { uniques = with_unique trees.uniques t (Some v) }) (sym (default_replaced m s.types t)) ∙ sym (with_unique_same m s t (Some (default_of s.types t)))))

  pub make_unique_same : RowSame Operation.MakeUnique
  unfolding effect
  make_unique_same a b c number room = by_unique (nat_abs number) _ _ _ _ (fail_same m a already_exists s) (unique_added a (nat_abs number) room)

  pub find_unique_same : RowSame Operation.FindUnique
  unfolding effect
  find_unique_same a b c number room = by_unique (nat_abs number) _ _ _ _ (refer_same m a (path_from (Origin.Unique (nat_abs number))) s trees refl) (fail_same m a absent s)

  pub find_or_make_unique_same : RowSame Operation.FindOrMakeUnique
  unfolding effect
  find_or_make_unique_same a b c number room = by_unique (nat_abs number) _ _ _ _ (refer_same m a (path_from (Origin.Unique (nat_abs number))) s trees refl) (unique_added a (nat_abs number) room)

  pub kill_unique_same : RowSame Operation.KillUnique
  unfolding effect
  kill_unique_same a b c number room =
      by_unique (nat_abs number) _ _ _ _
      (count_same m a 1 (record s { uniques = with_unique s.uniques (nat_abs number) None }) (record trees { uniques = with_unique trees.uniques (nat_abs number) None }) (sym (with_unique_same m s (nat_abs number) None)))
      (count_same m a 0 s trees refl)

  -- ---- owners

  pub new_same : RowSame Operation.New
  unfolding effect
  new_same a b c number room =
      room_same m room a s _ _ (subst (λ v. Same m (give a (Register.Owner (default_of s.types (nat_abs number)) (nat_abs number)) s) (give a (Register.Owner v (nat_abs number)) trees))
      (default_replaced m s.types (nat_abs number)) (give_same m a (Register.Owner (default_of s.types (nat_abs number)) (nat_abs number)) s trees refl))

  pub drop_same : RowSame Operation.Drop
  unfolding effect
  drop_same a b c number room = from_owner m s b _ _ (λ o. proceed_same m (set_register s b Register.Undefined) (set_register trees b Register.Undefined) (sym (set_register_same m s b Register.Undefined)))

  pub ref_same : RowSame Operation.Ref
  unfolding effect
  ref_same a b c number room = from_owner m s b _ _ (λ o. refer_same m a (path_from (Origin.Owned b)) s trees refl)
