-- The laws of each operation: one entry for each.
--     goes      after the row, registers contain what the rule states
--     alike     the rule of an instruction without an else part leaves the same in both parts
--     bares     if b isn't read-only, the rule finds the same when all that is read-only is left out
--     kept      the row keeps shared cells, if no reference of their class ends
--     spared    a class does not end if a read-only reference of it stays known
--     same      the row from a state is also the row from its trees
--     follows   the row keeps the types and each object that it doesn't destroy, and writes at the
--               output's end only
use Rattle.std.proofs.Common.{◌≡◌, ℕ, ℤ, pos, negsuc, ◌<◌, List, length, Bool, refl, sym, ◌∙◌, ap, subst}
use Rattle.std.specs.Prelude.{⊤, Ok, Err, not, slice_get, slice_set, nat_abs, ◌==◌}
use Rattle.seg_spec.specs.Value.{Value, Full, count}
use Rattle.seg_spec.specs.Types.{Table}
use Rattle.seg_spec.specs.Items.{key_place}
use Rattle.client_spec.specs.declared.table.Operation.{Operation}
use Rattle.client_spec.specs.declared.table.Number.{Number}
use Rattle.client_spec.specs.declared.table.Gives.{Gives}
use Rattle.client_spec.specs.declared.table.Role.{Role}
use Rattle.client_spec.specs.Operations.{row_of}
use Rattle.client_spec.specs.Grammar.{IsNumber}
use Rattle.client_spec.specs.Syntax.{Constant}
use Rattle.client_spec.specs.Machine.{◌>>=◌, Register, State, register, set_register, owned_by, path_value, path_type, put_at}
use Rattle.client_spec.specs.Answer.{success, copied, integer_at, path_of, index_below, object_count, byte_of, type_operand, constant_operand, integer_or, constant_name, constant_text}
use Rattle.client_spec.specs.Answer.{int_in, text_in, items_in, entries_in, content_in, fields_in, length_in, vec_or_list_item, list_item, map_value, owned_type, path_form}
use Rattle.client_spec.specs.Answer.{shared_type}
use Rattle.client_spec.specs.Effect.{effect}
use Rattle.client_spec.specs.Typed.{Class, RegisterType, Reason, RegisterTypes, known, same_class, sharing, ended, others_ended, reference_needed, integer_needed, owner_needed, copy_needed}
use Rattle.client_spec.specs.Typed.{name_needed, text_needed, required, form_needed, is_i64, is_str, is_map, can_pop, has_length, can_shrink, item_known, field_type, known_after, assigned, gives, opens, rule}
use Rattle.client_spec.specs.Typed as typed
use Rattle.client_spec.specs.Meaning.{IsAsKnown}
use Rattle.client_spec.specs.Bare.{bare}
use Rattle.client_spec.proofs.TypedStates.ValueLaws.{bind_some}
use Rattle.client_spec.proofs.TypedStates.ClassLaws.{OneEach}
use Rattle.client_spec.proofs.Rows.RuleRowLaws.{bind_ok, Goes, const_goes, add_goes, sub_goes, mul_goes, lt_goes, eq_goes, branch_goes, outi_goes, find_goes, load_goes, store_goes}
use Rattle.client_spec.proofs.Rows.ObjectRowLaws.{mov_goes, outs_goes, outc_goes, getb_goes, count_row, kill_goes, ufind_goes, ukill_goes, drop_goes, ref_goes, forget_goes, make_goes, findor_goes, umake_goes, ufindor_goes, new_goes}
use Rattle.client_spec.proofs.Rows.PlaceRowLaws.{put_goes, take_goes, content_goes, clear_goes, field_goes, len_goes, at_goes, push_goes, pushf_goes, pop_goes}
use Rattle.client_spec.proofs.Rows.PlaceRowLaws.{popf_goes, sets_goes, adds_goes, addb_goes, shrink_goes, getk_goes, putk_goes, delk_goes, firstk_goes, nextk_goes}
use Rattle.client_spec.proofs.Rows.ElsePartLaws.{Alike, alike_known, alike_bind, alike_gives, alike_combines, alike_found}
use Rattle.client_spec.proofs.Rows.BareLaws.{known_bare, bare_others, copy_bare, class_bare, item_bare, some_form, IsBare, BareThere, Bares, FrozenFrom, from_set, from_ended}
use Rattle.client_spec.proofs.Rows.BareLaws as bare
use Rattle.client_spec.proofs.Rows.SharedCellLaws.{Keeps, Spared, StillRead, spelled}
use Rattle.client_spec.proofs.Rows.SharedCellLaws as kept
use Rattle.client_spec.proofs.Rows.RowFrameLaws.{Destroyed, Fine}
use Rattle.client_spec.proofs.Rows.RowFrameLaws as follow
use Rattle.client_spec.proofs.Unfolded.UnfoldedRowLaws.{RowSame, const_same, mov_same, add_same, sub_same, mul_same, less_same, equal_same, branch_same, while_same, else_same, end_same}
use Rattle.client_spec.proofs.Unfolded.UnfoldedRowLaws.{out_number_same, out_text_same, out_constant_same, byte_same, make_same, find_same, find_or_make_same, count_row_same, kill_same}
use Rattle.client_spec.proofs.Unfolded.UnfoldedRowLaws.{make_unique_same, find_unique_same, find_or_make_unique_same, kill_unique_same, new_same, drop_same, ref_same}
use Rattle.client_spec.proofs.Unfolded.UnfoldedPlaceLaws.{put_same, take_same, content_same, freeze_same, share_same, clear_same, forget_same, load_same, store_same, field_same, len_same, at_same, push_back_same, push_front_same}
use Rattle.client_spec.proofs.Unfolded.UnfoldedPlaceLaws.{pop_back_same, pop_front_same, set_text_same, add_text_same, add_byte_same, shrink_same, get_key_same, put_key_same, delete_key_same, first_key_same, next_key_same}

-- the role of an instruction without parts
abbrev IsPlain : Role → Type 0
IsPlain Role.Plain = ⊤
IsPlain Role.Opener = ⊥
IsPlain Role.Loop = ⊥
IsPlain Role.Else = ⊥
IsPlain Role.End = ⊥

-- the type in an instruction's number is one of the table
type_of_name : (types : Table) (constants : List Constant) (b : ℕ) (number : ℤ) → IsNumber types constants b Number.TypedName number → type_operand number < length types
type_of_name types constants b (pos n) m = m.0
type_of_name types constants b (negsuc n) m = absurd m

type_of_id : (types : Table) (constants : List Constant) (b : ℕ) (number : ℤ) → IsNumber types constants b Number.TypeId number → nat_abs number < length types
type_of_id types constants b (pos n) m = m
type_of_id types constants b (negsuc n) m = absurd m

pub record Laws (op : Operation) : Type 0 where
  pub goes : (types : Table) (constants : List Constant) (one : OneEach constants) (ks : RegisterTypes) (s : State) → IsAsKnown types constants ks s → (a b c : ℕ) (number : ℤ) → IsNumber types constants b (row_of op).number number
      → (good bad : RegisterTypes) (room : Bool) → rule types constants op a b c number ks ≡ Ok (good, bad) → Goes types constants good bad (effect constants op a b c number room s)
  pub alike : (types : Table) (constants : List Constant) (ks : RegisterTypes) (a b c : ℕ) (number : ℤ) → (row_of op).role ≡ Role.Plain → Alike (rule types constants op a b c number ks)
  pub bares : (types : Table) (constants : List Constant) (ks : RegisterTypes) (b a c : ℕ) (number : ℤ) → BareThere op (known ks b) → Bares ks (rule types constants op a b c number ks) (rule types constants op a b c number (bare ks))
  pub kept : (types : Table) (constants : List Constant) (one : OneEach constants) (ks : RegisterTypes) (s : State) (h : IsAsKnown types constants ks s) (class : Class) (a b c : ℕ) (number : ℤ) (room : Bool) (good bad : RegisterTypes)
      → rule types constants op a b c number ks ≡ Ok (good, bad) → Spared constants one class types ks s h b op c number → Keeps constants one class s (effect constants op a b c number room s)
  pub spared : (types : Table) (constants : List Constant) (ks : RegisterTypes) (class : Class) (one : OneEach constants) (s : State) (h : IsAsKnown types constants (bare ks) s) (a b c : ℕ) (number : ℤ) (good bad : RegisterTypes)
      → rule types constants op a b c number ks ≡ Ok (good, bad) → BareThere op (known ks b) → StillRead types constants ks b class good bad → Spared constants one (Class.Frozen class) types (bare ks) s h b op c number
  pub same : (m : ℕ → Value) (constants : List Constant) (s : State) → RowSame m constants s op
  pub follows : (constants : List Constant) (s : State) (a b c : ℕ) (number : ℤ) (room : Bool) → Fine (Destroyed constants op b number s) s (effect constants op a b c number room s)

pub laws : (op : Operation) → Laws op
unfolding rule effect
laws Operation.Const = record {
  goes = λ types constants one ks s h a b c number m. const_goes types constants ks s h a b c number;
  alike = λ types constants ks a b c number f. alike_gives a RegisterType.Int ks;
  bares = λ types constants ks b a c number b_is. bare.gives_here a RegisterType.Int refl;
  kept = λ types constants one ks s h class a b c number room good bad e far. kept.given s success a _;
  spared = λ types constants ks class one s h a b c number good bad e b_is still. tt;
  same = const_same;
  follows = λ constants s a b c number room. follow.given success a _;
}
laws Operation.Mov = record {
  goes = λ types constants one ks s h a b c number m. mov_goes types constants one ks s h a b c number;
  alike = λ types constants ks a b c number f. alike_bind (copy_needed (known ks b)) (λ k. gives a k ks) (λ k. alike_gives a k ks);
  bares = λ types constants ks b a c number b_is.
      bare.binds ks (copy_needed (known ks b)) (copy_needed (known (bare ks) b)) _ _ (λ k e. (
        ap copy_needed (known_bare ks b ∙ b_is)
            ∙ e,
        bare.gives_here a k (subst IsBare (copy_bare (known ks b) k e) b_is),
      ));
  kept = λ types constants one ks s h class a b c number room good bad e far. kept.bound s (copied s (register s b)) _ (λ x _. kept.given s success a x);
  spared = λ types constants ks class one s h a b c number good bad e b_is still. tt;
  same = mov_same;
  follows = λ constants s a b c number room. follow.bound (copied s (register s b)) _ (λ x. follow.given success a x);
}
laws Operation.Add = record {
  goes = λ types constants one ks s h a b c number m. add_goes types constants ks s h a b c number;
  alike = λ types constants ks a b c number f. alike_combines a b c ks;
  bares = λ types constants ks b a c number b_is. bare.combines_here b a c;
  kept = λ types constants one ks s h class a b c number room good bad e far. kept.combines s _ a b c;
  spared = λ types constants ks class one s h a b c number good bad e b_is still. tt;
  same = add_same;
  follows = λ constants s a b c number room. follow.combines _ a b c;
}
laws Operation.Sub = record {
  goes = λ types constants one ks s h a b c number m. sub_goes types constants ks s h a b c number;
  alike = λ types constants ks a b c number f. alike_combines a b c ks;
  bares = λ types constants ks b a c number b_is. bare.combines_here b a c;
  kept = λ types constants one ks s h class a b c number room good bad e far. kept.combines s _ a b c;
  spared = λ types constants ks class one s h a b c number good bad e b_is still. tt;
  same = sub_same;
  follows = λ constants s a b c number room. follow.combines _ a b c;
}
laws Operation.Mul = record {
  goes = λ types constants one ks s h a b c number m. mul_goes types constants ks s h a b c number;
  alike = λ types constants ks a b c number f. alike_combines a b c ks;
  bares = λ types constants ks b a c number b_is. bare.combines_here b a c;
  kept = λ types constants one ks s h class a b c number room good bad e far. kept.combines s _ a b c;
  spared = λ types constants ks class one s h a b c number good bad e b_is still. tt;
  same = mul_same;
  follows = λ constants s a b c number room. follow.combines _ a b c;
}
laws Operation.Less = record {
  goes = λ types constants one ks s h a b c number m. lt_goes types constants ks s h a b c number;
  alike = λ types constants ks a b c number f. alike_combines a b c ks;
  bares = λ types constants ks b a c number b_is. bare.combines_here b a c;
  kept = λ types constants one ks s h class a b c number room good bad e far. kept.combines s _ a b c;
  spared = λ types constants ks class one s h a b c number good bad e b_is still. tt;
  same = less_same;
  follows = λ constants s a b c number room. follow.combines _ a b c;
}
laws Operation.Equal = record {
  goes = λ types constants one ks s h a b c number m. eq_goes types constants ks s h a b c number;
  alike = λ types constants ks a b c number f. alike_combines a b c ks;
  bares = λ types constants ks b a c number b_is. bare.combines_here b a c;
  kept = λ types constants one ks s h class a b c number room good bad e far. kept.combines s _ a b c;
  spared = λ types constants ks class one s h a b c number good bad e b_is still. tt;
  same = equal_same;
  follows = λ constants s a b c number room. follow.combines _ a b c;
}
laws Operation.If = record {
  goes = λ types constants one ks s h a b c number m. branch_goes types constants ks s h a b c number;
  alike = λ types constants ks a b c number f. absurd (subst IsPlain (sym f) tt);
  bares = λ types constants ks b a c number b_is. bare.needs_integer b _ _ bare.known_here;
  kept = λ types constants one ks s h class a b c number room good bad e far. kept.bound s (integer_at s b) _ (λ x _. kept.some s _ s (kept.still constants one class s));
  spared = λ types constants ks class one s h a b c number good bad e b_is still. tt;
  same = branch_same;
  follows = λ constants s a b c number room. follow.bound (integer_at s b) _ (λ x. follow.some _ s (follow.nothing));
}
laws Operation.While = record {
  goes = λ types constants one ks s h a b c number m good bad room e. cc;
  alike = λ types constants ks a b c number f. absurd (subst IsPlain (sym f) tt);
  bares = λ types constants ks b a c number b_is. record { same = λ good bad e. absurd (let f : Err Reason.WrongOperand ≡ Ok (good, bad) = e in cc) };
  kept = λ types constants one ks s h class a b c number room good bad e far. absurd (let f : Err Reason.WrongOperand ≡ Ok (good, bad) = e in cc);
  spared = λ types constants ks class one s h a b c number good bad e b_is still. tt;
  same = while_same;
  follows = λ constants s a b c number room. follow.none;
}
laws Operation.Else = record {
  goes = λ types constants one ks s h a b c number m good bad room e. cc;
  alike = λ types constants ks a b c number f. absurd (subst IsPlain (sym f) tt);
  bares = λ types constants ks b a c number b_is. record { same = λ good bad e. absurd (let f : Err Reason.WrongOperand ≡ Ok (good, bad) = e in cc) };
  kept = λ types constants one ks s h class a b c number room good bad e far. absurd (let f : Err Reason.WrongOperand ≡ Ok (good, bad) = e in cc);
  spared = λ types constants ks class one s h a b c number good bad e b_is still. tt;
  same = else_same;
  follows = λ constants s a b c number room. follow.none;
}
laws Operation.End = record {
  goes = λ types constants one ks s h a b c number m good bad room e. cc;
  alike = λ types constants ks a b c number f. absurd (subst IsPlain (sym f) tt);
  bares = λ types constants ks b a c number b_is. record { same = λ good bad e. absurd (let f : Err Reason.WrongOperand ≡ Ok (good, bad) = e in cc) };
  kept = λ types constants one ks s h class a b c number room good bad e far. absurd (let f : Err Reason.WrongOperand ≡ Ok (good, bad) = e in cc);
  spared = λ types constants ks class one s h a b c number good bad e b_is still. tt;
  same = end_same;
  follows = λ constants s a b c number room. follow.none;
}
laws Operation.OutInt = record {
  goes = λ types constants one ks s h a b c number m. outi_goes types constants ks s h a b c number;
  alike = λ types constants ks a b c number f. alike_bind (integer_needed (known ks b)) (λ _. known_after ks) (λ _. alike_known ks);
  bares = λ types constants ks b a c number b_is. bare.needs_integer b _ _ bare.known_here;
  kept = λ types constants one ks s h class a b c number room good bad e far. kept.bound s (integer_at s b) _ (λ x _. kept.writes s _);
  spared = λ types constants ks class one s h a b c number good bad e b_is still. tt;
  same = out_number_same;
  follows = λ constants s a b c number room. follow.bound (integer_at s b) _ (λ x. follow.writes _);
}
laws Operation.OutStr = record {
  goes = λ types constants one ks s h a b c number m. outs_goes types constants one ks s h a b c number;
  alike = λ types constants ks a b c number f. alike_found types is_str (λ x y. known_after ks) b ks (λ x y. alike_known ks);
  bares = λ types constants ks b a c number b_is. bare.needs_form types b b_is is_str _ _ (λ x i y. bare.known_here);
  kept = λ types constants one ks s h class a b c number room good bad e far. kept.bound s (path_of s b) _ (λ p _. kept.bound s (path_value s p >>= text_in) _ (λ bytes _. kept.writes s bytes));
  spared = λ types constants ks class one s h a b c number good bad e b_is still. tt;
  same = out_text_same;
  follows = λ constants s a b c number room. follow.bound (path_of s b) _ (λ p. follow.bound (path_value s p >>= text_in) _ (λ bytes. follow.writes bytes));
}
laws Operation.OutConst = record {
  goes = λ types constants one ks s h a b c number m. outc_goes types constants one ks s h a b c number;
  alike = λ types constants ks a b c number f. alike_bind (text_needed (slice_get constants (nat_abs number))) (λ _. known_after ks) (λ _. alike_known ks);
  bares = λ types constants ks b a c number b_is. bare.same_needed (text_needed (slice_get constants (nat_abs number))) _ _ (λ _ _. bare.known_here);
  kept = λ types constants one ks s h class a b c number room good bad e far. kept.bound s (slice_get constants (nat_abs number) >>= constant_text) _ (λ bytes _. kept.writes s bytes);
  spared = λ types constants ks class one s h a b c number good bad e b_is still. tt;
  same = out_constant_same;
  follows = λ constants s a b c number room. follow.bound (slice_get constants (nat_abs number) >>= constant_text) _ (λ bytes. follow.writes bytes);
}
laws Operation.GetByte = record {
  goes = λ types constants one ks s h a b c number m. getb_goes types constants one ks s h a b c number;
  alike = λ types constants ks a b c number f. absurd (subst IsPlain (sym f) tt);
  bares = λ types constants ks b a c number b_is. bare.opens_here a RegisterType.Int refl;
  kept = λ types constants one ks s h class a b c number room good bad e far. kept.next s a s.input;
  spared = λ types constants ks class one s h a b c number good bad e b_is still. tt;
  same = byte_same;
  follows = λ constants s a b c number room. follow.next a s.input;
}
laws Operation.Make = record {
  goes = λ types constants one ks s h a b c number m good bad room. make_goes types constants one ks s h a b c number good bad room (type_of_name types constants b number m);
  alike = λ types constants ks a b c number f. absurd (subst IsPlain (sym f) tt);
  bares = λ types constants ks b a c number b_is. bare.needs_name b _ _ _ (bare.needs_some c _ _ (bare.opens_here a _ refl));
  kept = λ types constants one ks s h class a b c number room good bad e far.
      kept.bound s (slice_get constants (constant_operand number) >>= λ k. constant_name k (register s b)) _ (λ name _. kept.bound s (integer_or (pos 1) c s) _ (λ x _. kept.either s _
      (object_count x) _ (λ n _. kept.adds s a name (type_operand number) (s.names name) n room refl) (λ _. kept.given s _ a _)));
  spared = λ types constants ks class one s h a b c number good bad e b_is still. tt;
  same = make_same;
  follows = λ constants s a b c number room. follow.bound (slice_get constants (constant_operand number) >>= λ k. constant_name k (register s b)) _ (λ name. follow.bound (integer_or (pos 1) c s) _ (λ x. follow.either _
      (object_count x) _ (λ n. follow.adds a name (type_operand number) (s.names name) n room) (follow.given _ a _)));
}
laws Operation.Find = record {
  goes = λ types constants one ks s h a b c number m. find_goes types constants ks s h a b c number;
  alike = λ types constants ks a b c number f. absurd (subst IsPlain (sym f) tt);
  bares = λ types constants ks b a c number b_is. bare.needs_name b _ _ _ (bare.needs_some c _ _ (bare.opens_here a _ refl));
  kept = λ types constants one ks s h class a b c number room good bad e far. kept.bound s (slice_get constants (constant_operand number) >>= λ k. constant_name k (register s b)) _ (λ name _. kept.bound s (integer_or (pos 0) c s) _
      (λ x _. kept.item s a name (type_operand number) x (s.names name)));
  spared = λ types constants ks class one s h a b c number good bad e b_is still. tt;
  same = find_same;
  follows = λ constants s a b c number room. follow.bound (slice_get constants (constant_operand number) >>= λ k. constant_name k (register s b)) _ (λ name. follow.bound (integer_or (pos 0) c s) _
      (λ x. follow.item a name (type_operand number) x (s.names name)));
}
laws Operation.FindOrMake = record {
  goes = λ types constants one ks s h a b c number m good bad room. findor_goes types constants one ks s h a b c number good bad room (type_of_name types constants b number m);
  alike = λ types constants ks a b c number f. absurd (subst IsPlain (sym f) tt);
  bares = λ types constants ks b a c number b_is. bare.needs_name b _ _ _ (bare.opens_here a _ refl);
  kept = λ types constants one ks s h class a b c number room good bad e far.
      kept.bound s (slice_get constants (constant_operand number) >>= λ k. constant_name k (register s b)) _ (λ name _. kept.finds s a name (type_operand number) (s.names name) room refl);
  spared = λ types constants ks class one s h a b c number good bad e b_is still. tt;
  same = find_or_make_same;
  follows = λ constants s a b c number room. follow.bound (slice_get constants (constant_operand number) >>= λ k. constant_name k (register s b)) _ (λ name. follow.finds a name (type_operand number) (s.names name) room);
}
laws Operation.Count = record {
  goes = λ types constants one ks s h a b c number m. count_row types constants one ks s h a b c number;
  alike = λ types constants ks a b c number f. absurd (subst IsPlain (sym f) tt);
  bares = λ types constants ks b a c number b_is. bare.needs_name b _ _ _ (bare.opens_here a RegisterType.Int refl);
  kept = λ types constants one ks s h class a b c number room good bad e far.
      kept.bound s (slice_get constants (constant_operand number) >>= λ k. constant_name k (register s b)) _ (λ name _. kept.counts s a (type_operand number) (s.names name));
  spared = λ types constants ks class one s h a b c number good bad e b_is still. tt;
  same = count_row_same;
  follows = λ constants s a b c number room. follow.bound (slice_get constants (constant_operand number) >>= λ k. constant_name k (register s b)) _ (λ name. follow.counts a (type_operand number) (s.names name));
}
laws Operation.Kill = record {
  goes = λ types constants one ks s h a b c number m. kill_goes types constants one ks s h a b c number;
  alike = λ types constants ks a b c number f. alike_bind (name_needed (slice_get constants (constant_operand number)) (known ks b))
      (λ _. gives a RegisterType.Int (ended (Class.Name (constant_operand number)) ks))
      (λ _. alike_gives a RegisterType.Int (ended (Class.Name (constant_operand number)) ks));
  bares = λ types constants ks b a c number b_is. bare.needs_name b _ _ _ (bare.gives_ended a (Class.Name (constant_operand number)));
  kept = λ types constants one ks s h class a b c number room good bad e far. kept.bound s (slice_get constants (constant_operand number) >>= λ k. constant_name k (register s b)) _
      (λ name is. kept.destroys s a name (type_operand number) (constant_operand number) (s.names name) (kept.spelled (slice_get constants (constant_operand number)) (register s b) name is) far);
  spared = λ types constants ks class one s h a b c number good bad e b_is still.
      let E = Class.Name (constant_operand number) in
      let p = bind_ok (name_needed (slice_get constants (constant_operand number)) (known ks b)) (λ _. gives a RegisterType.Int (ended E ks)) (good, bad) e in
      let g = kept.gives_from types constants ks b class (ended E ks) a RegisterType.Int good bad refl p.2 in
      kept.not_ended types constants ks b class E ks good bad g.0 g.1 still;
  same = kill_same;
  follows = λ constants s a b c number room. follow.bound_as (slice_get constants (constant_operand number) >>= λ k. constant_name k (register s b)) _
      (λ name is. follow.destroys a name (type_operand number) (s.names name) (name, is, refl));
}
laws Operation.MakeUnique = record {
  goes = λ types constants one ks s h a b c number m good bad room. umake_goes types constants one ks s h a b c number good bad room (type_of_id types constants b number m);
  alike = λ types constants ks a b c number f. absurd (subst IsPlain (sym f) tt);
  bares = λ types constants ks b a c number b_is. bare.opens_here a _ refl;
  kept = λ types constants one ks s h class a b c number room good bad e far. kept.by_unique s (nat_abs number) _ _ (kept.given s _ a _) (λ free. kept.unique s a (nat_abs number) room free);
  spared = λ types constants ks class one s h a b c number good bad e b_is still. tt;
  same = make_unique_same;
  follows = λ constants s a b c number room. follow.tested _ _ _ (follow.given _ a _) (follow.unique a (nat_abs number) room);
}
laws Operation.FindUnique = record {
  goes = λ types constants one ks s h a b c number m. ufind_goes types constants one ks s h a b c number;
  alike = λ types constants ks a b c number f. absurd (subst IsPlain (sym f) tt);
  bares = λ types constants ks b a c number b_is. bare.opens_here a _ refl;
  kept = λ types constants one ks s h class a b c number room good bad e far. kept.by_unique s (nat_abs number) _ _ (kept.given s success a _) (λ _. kept.given s _ a _);
  spared = λ types constants ks class one s h a b c number good bad e b_is still. tt;
  same = find_unique_same;
  follows = λ constants s a b c number room. follow.tested _ _ _ (follow.given success a _) (follow.given _ a _);
}
laws Operation.FindOrMakeUnique = record {
  goes = λ types constants one ks s h a b c number m good bad room. ufindor_goes types constants one ks s h a b c number good bad room (type_of_id types constants b number m);
  alike = λ types constants ks a b c number f. absurd (subst IsPlain (sym f) tt);
  bares = λ types constants ks b a c number b_is. bare.opens_here a _ refl;
  kept = λ types constants one ks s h class a b c number room good bad e far. kept.by_unique s (nat_abs number) _ _ (kept.given s success a _) (λ free. kept.unique s a (nat_abs number) room free);
  spared = λ types constants ks class one s h a b c number good bad e b_is still. tt;
  same = find_or_make_unique_same;
  follows = λ constants s a b c number room. follow.tested _ _ _ (follow.given success a _) (follow.unique a (nat_abs number) room);
}
laws Operation.KillUnique = record {
  goes = λ types constants one ks s h a b c number m. ukill_goes types constants one ks s h a b c number;
  alike = λ types constants ks a b c number f. alike_gives a RegisterType.Int (ended (Class.Unique (nat_abs number)) ks);
  bares = λ types constants ks b a c number b_is. bare.gives_ended a (Class.Unique (nat_abs number));
  kept = λ types constants one ks s h class a b c number room good bad e far.
      kept.by_unique s (nat_abs number) _ _ (kept.answered s _ success a _ (kept.by_unique_gone constants one class s (nat_abs number) far)) (λ _. kept.given s success a _);
  spared = λ types constants ks class one s h a b c number good bad e b_is still.
      let E = Class.Unique (nat_abs number) in
      let g = kept.gives_from types constants ks b class (ended E ks) a RegisterType.Int good bad refl e in
      kept.not_ended types constants ks b class E ks good bad g.0 g.1 still;
  same = kill_unique_same;
  follows = λ constants s a b c number room. follow.tested _ _ _ (follow.answered success a _ _ (follow.unique_goes (nat_abs number) refl)) (follow.given success a _);
}
laws Operation.New = record {
  goes = λ types constants one ks s h a b c number m good bad room. new_goes types constants one ks s h a b c number good bad room (type_of_id types constants b number m);
  alike = λ types constants ks a b c number f. absurd (subst IsPlain (sym f) tt);
  bares = λ types constants ks b a c number b_is. bare.opens_here a _ refl;
  kept = λ types constants one ks s h class a b c number room good bad e far. kept.roomy s room a _ (kept.given s success a _);
  spared = λ types constants ks class one s h a b c number good bad e b_is still. tt;
  same = new_same;
  follows = λ constants s a b c number room. follow.roomy room a _ (follow.given success a _);
}
laws Operation.Drop = record {
  goes = λ types constants one ks s h a b c number m. drop_goes types constants one ks s h a b c number;
  alike = λ types constants ks a b c number f.
      alike_bind (owner_needed (known ks b)) (λ _. known_after (slice_set (ended (Class.Register b) ks) b RegisterType.Undefined))
      (λ _. alike_known (slice_set (ended (Class.Register b) ks) b RegisterType.Undefined));
  bares = λ types constants ks b a c number b_is. bare.needs_owner b _ _ (λ _. bare.emptied (Class.Register b) b ks (bare.itself ks));
  kept = λ types constants one ks s h class a b c number room good bad e far. kept.bound s (owned_by (register s b)) _ (λ o _. kept.some s success _ (kept.by_release constants one class s b Register.Undefined far));
  spared = λ types constants ks class one s h a b c number good bad e b_is still.
      let E = Class.Register b in
      let es = slice_set (ended E ks) b RegisterType.Undefined in
      let p = bind_ok (owner_needed (known ks b)) (λ _. known_after es) (good, bad) e in
      let g = kept.after_from types constants ks b class es good bad p.2 in
      let back = from_set b RegisterType.Undefined (ended E ks) (ended E ks) refl (kept.itself (ended E ks)) in
      kept.not_ended types constants ks b class E ks good bad (λ r z u f. back r z u (g.0 r z u f)) (λ r z u f. back r z u (g.1 r z u f)) still;
  same = drop_same;
  follows = λ constants s a b c number room. follow.bound (owned_by (register s b)) _ (λ o. follow.some success _ (follow.same _ refl refl refl refl));
}
laws Operation.Ref = record {
  goes = λ types constants one ks s h a b c number m. ref_goes types constants one ks s h a b c number;
  alike = λ types constants ks a b c number f. alike_bind (owner_needed (known ks b)) (λ t. gives a (RegisterType.Reference (Class.Register b) t) ks) (λ t. alike_gives a (RegisterType.Reference (Class.Register b) t) ks);
  bares = λ types constants ks b a c number b_is. bare.needs_owner b _ _ (λ t. bare.gives_here a (RegisterType.Reference (Class.Register b) t) refl);
  kept = λ types constants one ks s h class a b c number room good bad e far. kept.bound s (owned_by (register s b)) _ (λ o _. kept.given s success a _);
  spared = λ types constants ks class one s h a b c number good bad e b_is still. tt;
  same = ref_same;
  follows = λ constants s a b c number room. follow.bound (owned_by (register s b)) _ (λ o. follow.given success a _);
}
laws Operation.Put = record {
  goes = λ types constants one ks s h a b c number m. put_goes types constants one ks s h a b c number;
  alike = λ types constants ks a b c number f.
      let end = λ (x : Class × ℕ). slice_set (ended (Class.Register c) (others_ended x.0 b ks)) c RegisterType.Undefined in
      let last = λ (x : Class × ℕ). typed.◌>>=◌ (required (not (same_class (sharing x.0) (Class.Register c))) Reason.PutIntoItself) (λ _. known_after (end x)) in
      alike_found types owned_type (λ x t. typed.◌>>=◌ (owner_needed (known ks c)) (λ u. typed.◌>>=◌ (required (t == u) Reason.WrongOperand) (λ _. last x))) b ks
      (λ x t. alike_bind (owner_needed (known ks c)) (λ u. typed.◌>>=◌ (required (t == u) Reason.WrongOperand) (λ _. last x))
      (λ u. alike_bind (required (t == u) Reason.WrongOperand) (λ _. last x)
      (λ _. alike_bind (required (not (same_class (sharing x.0) (Class.Register c))) Reason.PutIntoItself) (λ _. known_after (end x)) (λ _. alike_known (end x)))));
  bares = λ types constants ks b a c number b_is. bare.needs_form types b b_is owned_type _ _ (λ x i t. bare.needs_owner c _ _ (λ u. bare.same_needed (required (t == u) Reason.WrongOperand) _ _
      (λ _ _. bare.same_needed (required (not (same_class (sharing x.0) (Class.Register c))) Reason.PutIntoItself) _ _
      (λ _ _. subst (λ es. Bares ks (known_after (slice_set (ended (Class.Register c) (others_ended x.0 b ks)) c RegisterType.Undefined)) (known_after (slice_set (ended (Class.Register c) es) c RegisterType.Undefined)))
      (bare_others x.0 b ks) (bare.emptied (Class.Register c) c (others_ended x.0 b ks) (bare.others_from ks b b_is x.0))))));
  kept = λ types constants one ks s h class a b c number room good bad e far.
      kept.bound s (path_of s b) _ (λ p at. let f = kept.far_at constants one class types ks s h b _ good bad e far.0 p at in kept.bound s (path_form s p >>= owned_type) _
      (λ t _. kept.bound s (owned_by (register s c)) _ (λ new _. kept.bound s
      (path_value s p >>= content_in) _ (λ o there. let v = bind_some (path_value s p) content_in o there in let later = put_at s p (Full new.0) in
      kept.shown s _ _ (kept.some s success _ (kept.onward constants one class s later (set_register later c Register.Undefined)
      (kept.by_put constants one class s p v.0 (Full new.0) f.its v.1 f.within f.far) (kept.by_release constants one class later c Register.Undefined far.1)))))));
  spared = λ types constants ks class one s h a b c number good bad e b_is still.
      let end = λ (x : Class × ℕ). slice_set (ended (Class.Register c) (others_ended x.0 b ks)) c RegisterType.Undefined in
      let last = λ (x : Class × ℕ). typed.◌>>=◌ (required (not (same_class (sharing x.0) (Class.Register c))) Reason.PutIntoItself) (λ _. known_after (end x)) in
      let rest = λ (x : Class × ℕ) (t : ℕ). typed.◌>>=◌ (owner_needed (known ks c)) (λ u. typed.◌>>=◌ (required (t == u) Reason.WrongOperand) (λ _. last x)) in
      let x = bind_ok (reference_needed (known ks b)) (λ x. typed.◌>>=◌ (form_needed owned_type types x.1) (rest x)) (good, bad) e in
      let y = bind_ok (form_needed owned_type types x.0.1) (rest x.0) (good, bad) x.2 in
      let z = bind_ok (owner_needed (known ks c)) (λ u. typed.◌>>=◌ (required (y.0 == u) Reason.WrongOperand) (λ _. last x.0)) (good, bad) y.2 in
      let v = bind_ok (required (y.0 == z.0) Reason.WrongOperand) (λ _. last x.0) (good, bad) z.2 in
      let w = bind_ok (required (not (same_class (sharing x.0.0) (Class.Register c))) Reason.PutIntoItself) (λ _. known_after (end x.0)) (good, bad) v.2 in
      let others = others_ended x.0.0 b ks in
      let g = kept.after_from types constants ks b class (end x.0) good bad w.2 in
      let back = from_set c RegisterType.Undefined (ended (Class.Register c) others) (ended (Class.Register c) others) refl (kept.itself (ended (Class.Register c) others)) in
      let first : FrozenFrom (ended (Class.Register c) others) good = λ r k u f. back r k u (g.0 r k u f) in
      let second : FrozenFrom (ended (Class.Register c) others) bad = λ r k u f. back r k u (g.1 r k u f) in
      let further = from_ended (Class.Register c) others others (kept.itself others) in (
        kept.far_of types constants ks b class x.0 good bad b_is x.1 (λ r k u f. further r k u (first r k u f)) (λ r k u f. further r k u (second r k u f)) still,
        kept.not_ended types constants ks b class (Class.Register c) others good bad first second still,
      );
  same = put_same;
  follows = λ constants s a b c number room. follow.bound (path_of s b) _ (λ p. follow.bound (path_form s p >>= owned_type) _ (λ t. follow.bound (owned_by (register s c)) _ (λ new. follow.bound
      (path_value s p >>= content_in) _ (λ o. follow.shown _ _ (follow.some success _ (follow.sets _ c Register.Undefined (follow.put_follows p _)))))));
}
laws Operation.Take = record {
  goes = λ types constants one ks s h a b c number m. take_goes types constants one ks s h a b c number;
  alike = λ types constants ks a b c number f. absurd (subst IsPlain (sym f) tt);
  bares = λ types constants ks b a c number b_is. bare.needs_form types b b_is owned_type _ _ (λ x i t. bare.opens_others b b_is a (RegisterType.Owner t) x.0 refl);
  kept = λ types constants one ks s h class a b c number room good bad e far.
      kept.bound s (path_of s b) _ (λ p at. let f = kept.far_at constants one class types ks s h b _ good bad e far p at in kept.bound s (path_form s p >>= owned_type) _
      (λ t _. kept.bound s (path_value s p >>= content_in) _
      (λ o there. let v = bind_some (path_value s p) content_in o there in kept.takes s p v.0 v.1 f.its f.within f.far a t o)));
  spared = λ types constants ks class one s h a b c number good bad e b_is still. kept.opened_far types constants ks b class one s h a owned_type (λ x t. RegisterType.Owner t) good bad b_is (λ x t _. refl) e still;
  same = take_same;
  follows = λ constants s a b c number room. follow.bound (path_of s b) _ (λ p. follow.bound (path_form s p >>= owned_type) _ (λ t. follow.bound (path_value s p >>= content_in) _ (λ inside. follow.takes a p t inside)));
}
laws Operation.Content = record {
  goes = λ types constants one ks s h a b c number m. content_goes types constants one ks s h a b c number;
  alike = λ types constants ks a b c number f. absurd (subst IsPlain (sym f) tt);
  bares = λ types constants ks b a c number b_is. bare.needs_form types b b_is owned_type _ _ (λ x i t. bare.opens_here a (RegisterType.Reference x.0 t) (i t));
  kept = λ types constants one ks s h class a b c number room good bad e far. kept.bound s (path_of s b) _ (λ p _. kept.bound s (path_value s p >>= content_in) _ (λ o _. kept.sees s a p o));
  spared = λ types constants ks class one s h a b c number good bad e b_is still. tt;
  same = content_same;
  follows = λ constants s a b c number room. follow.bound (path_of s b) _ (λ p. follow.bound (path_value s p >>= content_in) _ (λ inside. follow.sees a p inside));
}
laws Operation.Clear = record {
  goes = λ types constants one ks s h a b c number m. clear_goes types constants one ks s h a b c number;
  alike = λ types constants ks a b c number f. alike_bind (reference_needed (known ks b)) (λ x. known_after (others_ended x.0 b ks)) (λ x. alike_known (others_ended x.0 b ks));
  bares = λ types constants ks b a c number b_is. bare.needs_reference b b_is _ _ (λ x i. bare.known_others b b_is x.0);
  kept = λ types constants one ks s h class a b c number room good bad e far. kept.bound s (path_of s b) _
      (λ p at. let f = kept.far_at constants one class types ks s h b _ good bad e far p at in kept.bound s (path_type s p) _ (λ t _. kept.bound s (path_value s p) _ (λ v there. kept.put_some s p v there f.its f.within f.far _)));
  spared = λ types constants ks class one s h a b c number good bad e b_is still.
      let x = bind_ok (reference_needed (known ks b)) (λ x. known_after (others_ended x.0 b ks)) (good, bad) e in
      let g = kept.after_from types constants ks b class (others_ended x.0.0 b ks) good bad x.2 in
      kept.far_of types constants ks b class x.0 good bad b_is x.1 g.0 g.1 still;
  same = clear_same;
  follows = λ constants s a b c number room. follow.bound (path_of s b) _ (λ p. follow.bound (path_type s p) _ (λ t. follow.bound (path_value s p) _ (λ v. follow.put_some p _)));
}
laws Operation.Forget = record {
  goes = λ types constants one ks s h a b c number m. forget_goes types constants one ks s h a b c number;
  alike = λ types constants ks a b c number f. alike_gives b RegisterType.Undefined ks;
  bares = λ types constants ks b a c number b_is. bare.gives_here b RegisterType.Undefined refl;
  kept = λ types constants one ks s h class a b c number room good bad e far.
      kept.either s _ (owned_by (register s b)) _ (λ o _. kept.none s) (λ free. kept.some s success _ (kept.by_register constants one class s b Register.Undefined free));
  spared = λ types constants ks class one s h a b c number good bad e b_is still. tt;
  same = forget_same;
  follows = λ constants s a b c number room. follow.either _ (owned_by (register s b)) _ (λ o. follow.none) (follow.some success _ (follow.same _ refl refl refl refl));
}
laws Operation.Load = record {
  goes = λ types constants one ks s h a b c number m. load_goes types constants ks s h a b c number;
  alike = λ types constants ks a b c number f. alike_found types is_i64 (λ x y. gives a RegisterType.Int ks) b ks (λ x y. alike_gives a RegisterType.Int ks);
  bares = λ types constants ks b a c number b_is. bare.needs_form types b b_is is_i64 _ _ (λ x i y. bare.gives_here a RegisterType.Int refl);
  kept = λ types constants one ks s h class a b c number room good bad e far. kept.bound s (path_of s b) _ (λ p _. kept.bound s (path_value s p >>= int_in) _ (λ k _. kept.given s success a _));
  spared = λ types constants ks class one s h a b c number good bad e b_is still. tt;
  same = load_same;
  follows = λ constants s a b c number room. follow.bound (path_of s b) _ (λ p. follow.bound (path_value s p >>= int_in) _ (λ k. follow.given success a _));
}
laws Operation.Store = record {
  goes = λ types constants one ks s h a b c number m. store_goes types constants ks s h a b c number;
  alike = λ types constants ks a b c number f.
      alike_found types is_i64 (λ x y. typed.◌>>=◌ (integer_needed (known ks c)) (λ _. known_after ks)) b ks (λ x y. alike_bind (integer_needed (known ks c)) (λ _. known_after ks)
      (λ _. alike_known ks));
  bares = λ types constants ks b a c number b_is. bare.needs_form types b b_is is_i64 _ _ (λ x i y. bare.needs_integer c _ _ bare.known_here);
  kept = λ types constants one ks s h class a b c number room good bad e far.
      kept.bound s (path_of s b) _ (λ p _. kept.bound s (path_value s p >>= int_in) _ (λ k there. kept.bound s (integer_at s c) _ (λ x _. kept.some s success _
      (kept.put_number constants one class s p k _ there))));
  spared = λ types constants ks class one s h a b c number good bad e b_is still. tt;
  same = store_same;
  follows = λ constants s a b c number room. follow.bound (path_of s b) _ (λ p. follow.bound (path_value s p >>= int_in) _ (λ k. follow.bound (integer_at s c) _ (λ x. follow.put_some p _)));
}
laws Operation.Field = record {
  goes = λ types constants one ks s h a b c number m. field_goes types constants one ks s h a b c number;
  alike = λ types constants ks a b c number f. alike_found types (field_type number) (λ x t. gives a (RegisterType.Reference x.0 t) ks) b ks (λ x t. alike_gives a (RegisterType.Reference x.0 t) ks);
  bares = λ types constants ks b a c number b_is. bare.needs_form types b b_is (field_type number) _ _ (λ x i t. bare.gives_here a (RegisterType.Reference x.0 t) (i t));
  kept = λ types constants one ks s h class a b c number room good bad e far.
      kept.bound s (path_of s b) _ (λ p _. kept.bound s (path_value s p >>= fields_in) _ (λ vs _. kept.bound s (index_below (count vs) number) _ (λ i _. kept.given s success a _)));
  spared = λ types constants ks class one s h a b c number good bad e b_is still. tt;
  same = field_same;
  follows = λ constants s a b c number room. follow.bound (path_of s b) _ (λ p. follow.bound (path_value s p >>= fields_in) _ (λ vs. follow.bound (index_below (count vs) number) _ (λ i. follow.given success a _)));
}
laws Operation.Len = record {
  goes = λ types constants one ks s h a b c number m. len_goes types constants one ks s h a b c number;
  alike = λ types constants ks a b c number f. alike_found types has_length (λ x y. gives a RegisterType.Int ks) b ks (λ x y. alike_gives a RegisterType.Int ks);
  bares = λ types constants ks b a c number b_is. bare.needs_form types b b_is has_length _ _ (λ x i y. bare.gives_here a RegisterType.Int refl);
  kept = λ types constants one ks s h class a b c number room good bad e far. kept.bound s (path_of s b) _ (λ p _. kept.bound s (path_value s p >>= length_in) _ (λ n _. kept.given s success a _));
  spared = λ types constants ks class one s h a b c number good bad e b_is still. tt;
  same = len_same;
  follows = λ constants s a b c number room. follow.bound (path_of s b) _ (λ p. follow.bound (path_value s p >>= length_in) _ (λ n. follow.given success a _));
}
laws Operation.At = record {
  goes = λ types constants one ks s h a b c number m. at_goes types constants one ks s h a b c number;
  alike = λ types constants ks a b c number f. absurd (subst IsPlain (sym f) tt);
  bares = λ types constants ks b a c number b_is. bare.needs_reference b b_is _ _ (λ x i. bare.same_needed (form_needed (item_known x.0) types x.1) _ _
      (λ k e. bare.needs_integer c _ _ (bare.opens_here a k (let f = some_form (item_known x.0) types x.1 k e in item_bare x.0 f.0 k i f.1))));
  kept = λ types constants one ks s h class a b c number room good bad e far. kept.bound s (path_of s b) _ (λ p _. kept.bound s (integer_at s c) _ (λ x _. kept.bound s (path_value s p) _ (λ v _. kept.value_item s a p x v)));
  spared = λ types constants ks class one s h a b c number good bad e b_is still. tt;
  same = at_same;
  follows = λ constants s a b c number room. follow.bound (path_of s b) _ (λ p. follow.bound (integer_at s c) _ (λ x. follow.bound (path_value s p) _ (λ v. follow.value_item a p x v)));
}
laws Operation.PushBack = record {
  goes = λ types constants one ks s h a b c number m. push_goes types constants one ks s h a b c number;
  alike = λ types constants ks a b c number f. absurd (subst IsPlain (sym f) tt);
  bares = λ types constants ks b a c number b_is. bare.needs_form types b b_is vec_or_list_item _ _ (λ x i t. bare.opens_others b b_is a (RegisterType.Reference x.0 t) x.0 (i t));
  kept = λ types constants one ks s h class a b c number room good bad e far.
      kept.bound s (path_of s b) _ (λ p at. let f = kept.far_at constants one class types ks s h b _ good bad e far p at in kept.bound s (path_form s p >>= vec_or_list_item) _
      (λ t _. kept.bound s (path_value s p >>= items_in) _
      (λ vs there. let v = bind_some (path_value s p) items_in vs there in kept.roomy s room a _ (kept.given_put s p v.0 v.1 f.its f.within f.far a _ _))));
  spared = λ types constants ks class one s h a b c number good bad e b_is still.
      kept.opened_far types constants ks b class one s h a vec_or_list_item (λ x t. RegisterType.Reference x.0 t) good bad b_is (λ x t n. class_bare (known ks b) x t b_is n) e still;
  same = push_back_same;
  follows = λ constants s a b c number room.
      follow.bound (path_of s b) _ (λ p. follow.bound (path_form s p >>= vec_or_list_item) _ (λ t. follow.bound (path_value s p >>= items_in) _ (λ vs. follow.roomy room a _
      (follow.given_put a _ p _))));
}
laws Operation.PushFront = record {
  goes = λ types constants one ks s h a b c number m. pushf_goes types constants one ks s h a b c number;
  alike = λ types constants ks a b c number f. absurd (subst IsPlain (sym f) tt);
  bares = λ types constants ks b a c number b_is. bare.needs_form types b b_is list_item _ _ (λ x i t. bare.opens_others b b_is a (RegisterType.Reference x.0 t) x.0 (i t));
  kept = λ types constants one ks s h class a b c number room good bad e far.
      kept.bound s (path_of s b) _ (λ p at. let f = kept.far_at constants one class types ks s h b _ good bad e far p at in kept.bound s (path_form s p >>= list_item) _
      (λ t _. kept.bound s (path_value s p >>= items_in) _
      (λ vs there. let v = bind_some (path_value s p) items_in vs there in kept.roomy s room a _ (kept.given_put s p v.0 v.1 f.its f.within f.far a _ _))));
  spared = λ types constants ks class one s h a b c number good bad e b_is still.
      kept.opened_far types constants ks b class one s h a list_item (λ x t. RegisterType.Reference x.0 t) good bad b_is (λ x t n. class_bare (known ks b) x t b_is n) e still;
  same = push_front_same;
  follows = λ constants s a b c number room. follow.bound (path_of s b) _ (λ p. follow.bound (path_form s p >>= list_item) _ (λ t. follow.bound (path_value s p >>= items_in) _ (λ vs. follow.roomy room a _ (follow.given_put a _ p _))));
}
laws Operation.PopBack = record {
  goes = λ types constants one ks s h a b c number m. pop_goes types constants one ks s h a b c number;
  alike = λ types constants ks a b c number f. absurd (subst IsPlain (sym f) tt);
  bares = λ types constants ks b a c number b_is. bare.needs_form types b b_is can_pop _ _ (λ x i y. bare.opens_others b b_is a RegisterType.Int x.0 refl);
  kept = λ types constants one ks s h class a b c number room good bad e far.
      kept.bound s (path_of s b) _ (λ p at. let f = kept.far_at constants one class types ks s h b _ good bad e far p at in kept.bound s (path_value s p) _ (λ v there. kept.either s _ (text_in v) _
      (λ bytes _. kept.bytes_pop s p v there f.its f.within f.far a bytes) (λ _. kept.bound s (items_in v) _ (λ vs _. kept.last_pop s p v there f.its f.within f.far a vs))));
  spared = λ types constants ks class one s h a b c number good bad e b_is still. kept.opened_far types constants ks b class one s h a can_pop (λ x y. RegisterType.Int) good bad b_is (λ x y _. refl) e still;
  same = pop_back_same;
  follows = λ constants s a b c number room.
      follow.bound (path_of s b) _ (λ p. follow.bound (path_value s p) _ (λ v. follow.either _ (text_in v) _ (λ bytes. follow.bytes_pop a p bytes) (follow.bound (items_in v) _
      (λ vs. follow.last_pop a p vs))));
}
laws Operation.PopFront = record {
  goes = λ types constants one ks s h a b c number m. popf_goes types constants one ks s h a b c number;
  alike = λ types constants ks a b c number f. absurd (subst IsPlain (sym f) tt);
  bares = λ types constants ks b a c number b_is. bare.needs_form types b b_is list_item _ _ (λ x i y. bare.opens_others b b_is a RegisterType.Int x.0 refl);
  kept = λ types constants one ks s h class a b c number room good bad e far.
      kept.bound s (path_of s b) _ (λ p at. let f = kept.far_at constants one class types ks s h b _ good bad e far p at in kept.bound s (path_form s p >>= list_item) _
      (λ t _. kept.bound s (path_value s p >>= items_in) _
      (λ vs there. let v = bind_some (path_value s p) items_in vs there in kept.first_pop s p v.0 v.1 f.its f.within f.far a vs)));
  spared = λ types constants ks class one s h a b c number good bad e b_is still. kept.opened_far types constants ks b class one s h a list_item (λ x y. RegisterType.Int) good bad b_is (λ x y _. refl) e still;
  same = pop_front_same;
  follows = λ constants s a b c number room. follow.bound (path_of s b) _ (λ p. follow.bound (path_form s p >>= list_item) _ (λ t. follow.bound (path_value s p >>= items_in) _ (λ vs. follow.first_pop a p vs)));
}
laws Operation.SetStr = record {
  goes = λ types constants one ks s h a b c number m. sets_goes types constants one ks s h a b c number;
  alike = λ types constants ks a b c number f. absurd (subst IsPlain (sym f) tt);
  bares = λ types constants ks b a c number b_is. bare.needs_form types b b_is is_str _ _ (λ x i y. bare.same_needed (text_needed (slice_get constants (nat_abs number))) _ _ (λ _ _. bare.opens_here a RegisterType.Int refl));
  kept = λ types constants one ks s h class a b c number room good bad e far. kept.bound s (path_of s b) _
      (λ p _. kept.bound s (path_value s p >>= text_in) _ (λ old there. kept.bound s (slice_get constants (nat_abs number) >>= constant_text) _ (λ new _. kept.text s a p old new room there)));
  spared = λ types constants ks class one s h a b c number good bad e b_is still. tt;
  same = set_text_same;
  follows = λ constants s a b c number room. follow.bound (path_of s b) _ (λ p. follow.bound (path_value s p >>= text_in) _ (λ old. follow.bound (slice_get constants (nat_abs number) >>= constant_text) _ (λ new. follow.text a p new room)));
}
laws Operation.AddStr = record {
  goes = λ types constants one ks s h a b c number m. adds_goes types constants one ks s h a b c number;
  alike = λ types constants ks a b c number f. absurd (subst IsPlain (sym f) tt);
  bares = λ types constants ks b a c number b_is. bare.needs_form types b b_is is_str _ _ (λ x i y. bare.same_needed (text_needed (slice_get constants (nat_abs number))) _ _ (λ _ _. bare.opens_here a RegisterType.Int refl));
  kept = λ types constants one ks s h class a b c number room good bad e far. kept.bound s (path_of s b) _
      (λ p _. kept.bound s (path_value s p >>= text_in) _ (λ old there. kept.bound s (slice_get constants (nat_abs number) >>= constant_text) _ (λ more _. kept.text s a p old _ room there)));
  spared = λ types constants ks class one s h a b c number good bad e b_is still. tt;
  same = add_text_same;
  follows = λ constants s a b c number room. follow.bound (path_of s b) _ (λ p. follow.bound (path_value s p >>= text_in) _ (λ old. follow.bound (slice_get constants (nat_abs number) >>= constant_text) _ (λ more. follow.text a p _ room)));
}
laws Operation.AddByte = record {
  goes = λ types constants one ks s h a b c number m. addb_goes types constants one ks s h a b c number;
  alike = λ types constants ks a b c number f. absurd (subst IsPlain (sym f) tt);
  bares = λ types constants ks b a c number b_is. bare.needs_form types b b_is is_str _ _ (λ x i y. bare.needs_integer c _ _ (bare.opens_here a RegisterType.Int refl));
  kept = λ types constants one ks s h class a b c number room good bad e far. kept.bound s (path_of s b) _
      (λ p _. kept.bound s (path_value s p >>= text_in) _ (λ old there. kept.bound s (integer_at s c) _ (λ x _. kept.either s _ (byte_of x) _ (λ byte _. kept.text s a p old _ room there)
      (λ _. kept.given s _ a _))));
  spared = λ types constants ks class one s h a b c number good bad e b_is still. tt;
  same = add_byte_same;
  follows = λ constants s a b c number room.
      follow.bound (path_of s b) _ (λ p. follow.bound (path_value s p >>= text_in) _ (λ old. follow.bound (integer_at s c) _ (λ x. follow.either _ (byte_of x) _
      (λ byte. follow.text a p _ room) (follow.given _ a _))));
}
laws Operation.Shrink = record {
  goes = λ types constants one ks s h a b c number m. shrink_goes types constants one ks s h a b c number;
  alike = λ types constants ks a b c number f. alike_found types can_shrink (λ x y. known_after ks) b ks (λ x y. alike_known ks);
  bares = λ types constants ks b a c number b_is. bare.needs_form types b b_is can_shrink _ _ (λ x i y. bare.known_here);
  kept = λ types constants one ks s h class a b c number room good bad e far.
      kept.bound s (path_of s b) _ (λ p _. kept.bound s (path_form s p) _ (λ k _. kept.bound s (path_value s p) _ (λ v _. kept.shown s _ _ (kept.some s success s
      (kept.still constants one class s)))));
  spared = λ types constants ks class one s h a b c number good bad e b_is still. tt;
  same = shrink_same;
  follows = λ constants s a b c number room. follow.bound (path_of s b) _ (λ p. follow.bound (path_form s p) _ (λ k. follow.bound (path_value s p) _ (λ v. follow.shown _ _ (follow.some success s (follow.nothing)))));
}
laws Operation.GetKey = record {
  goes = λ types constants one ks s h a b c number m. getk_goes types constants one ks s h a b c number;
  alike = λ types constants ks a b c number f. absurd (subst IsPlain (sym f) tt);
  bares = λ types constants ks b a c number b_is. bare.needs_form types b b_is map_value _ _ (λ x i t. bare.needs_integer c _ _ (bare.opens_here a (RegisterType.Reference x.0 t) (i t)));
  kept = λ types constants one ks s h class a b c number room good bad e far. kept.bound s (path_of s b) _
      (λ p _. kept.bound s (integer_at s c) _ (λ k _. kept.bound s (path_value s p >>= entries_in) _ (λ es _. kept.either s _ (key_place es.0 k) _ (λ i _. kept.given s success a _) (λ _. kept.given s _ a _))));
  spared = λ types constants ks class one s h a b c number good bad e b_is still. tt;
  same = get_key_same;
  follows = λ constants s a b c number room.
      follow.bound (path_of s b) _ (λ p. follow.bound (integer_at s c) _ (λ k. follow.bound (path_value s p >>= entries_in) _ (λ es. follow.either _ (key_place es.0 k) _
      (λ i. follow.given success a _) (follow.given _ a _))));
}
laws Operation.PutKey = record {
  goes = λ types constants one ks s h a b c number m. putk_goes types constants one ks s h a b c number;
  alike = λ types constants ks a b c number f. absurd (subst IsPlain (sym f) tt);
  bares = λ types constants ks b a c number b_is. bare.needs_form types b b_is map_value _ _ (λ x i t. bare.needs_integer c _ _ (bare.opens_others b b_is a (RegisterType.Reference x.0 t) x.0 (i t)));
  kept = λ types constants one ks s h class a b c number room good bad e far. kept.bound s (path_of s b) _
      (λ p at. let f = kept.far_at constants one class types ks s h b _ good bad e far p at in kept.bound s (integer_at s c) _ (λ k _. kept.bound s (path_form s p >>= map_value) _ (λ t _. kept.bound s (path_value s p >>= entries_in) _
      (λ es there. let v = bind_some (path_value s p) entries_in es there in kept.either s _ (key_place es.0 k) _ (λ i _. kept.given s success a _) (λ _. kept.roomy s room a _ (kept.given_put s p v.0 v.1 f.its f.within f.far a _ _))))));
  spared = λ types constants ks class one s h a b c number good bad e b_is still.
      kept.opens_far types constants ks b class one s h map_value (λ x t. typed.◌>>=◌ (integer_needed (known ks c)) (λ _. opens a (RegisterType.Reference x.0 t) (others_ended x.0 b ks))) good bad b_is
      (λ x t n f. let m = bind_ok (integer_needed (known ks c)) (λ _. opens a (RegisterType.Reference x.0 t) (others_ended x.0 b ks)) (good, bad) f in
      kept.opens_from types constants ks b class (others_ended x.0 b ks) a (RegisterType.Reference x.0 t) good bad (class_bare (known ks b) x t b_is n) m.2) e still;
  same = put_key_same;
  follows = λ constants s a b c number room. follow.bound (path_of s b) _ (λ p. follow.bound (integer_at s c) _ (λ k. follow.bound (path_form s p >>= map_value) _ (λ t. follow.bound (path_value s p >>= entries_in) _
      (λ es. follow.either _ (key_place es.0 k) _ (λ i. follow.given success a _) (follow.roomy room a _ (follow.given_put a _ p _))))));
}
laws Operation.DeleteKey = record {
  goes = λ types constants one ks s h a b c number m. delk_goes types constants one ks s h a b c number;
  alike = λ types constants ks a b c number f.
      alike_found types is_map (λ x y. typed.◌>>=◌ (integer_needed (known ks c)) (λ _. gives a RegisterType.Int (others_ended x.0 b ks))) b ks (λ x y. alike_bind
      (integer_needed (known ks c)) (λ _. gives a RegisterType.Int (others_ended x.0 b ks)) (λ _. alike_gives a RegisterType.Int (others_ended x.0 b ks)));
  bares = λ types constants ks b a c number b_is. bare.needs_form types b b_is is_map _ _ (λ x i y. bare.needs_integer c _ _ (bare.gives_others b b_is a RegisterType.Int x.0 refl));
  kept = λ types constants one ks s h class a b c number room good bad e far.
      kept.bound s (path_of s b) _ (λ p at. let f = kept.far_at constants one class types ks s h b _ good bad e far p at in kept.bound s (integer_at s c) _
      (λ k _. kept.bound s (path_value s p >>= entries_in) _
      (λ es there. let v = bind_some (path_value s p) entries_in es there in kept.either s _ (key_place es.0 k) _ (λ i _. kept.given_put s p v.0 v.1 f.its f.within f.far a _ _) (λ _. kept.given s success a _))));
  spared = λ types constants ks class one s h a b c number good bad e b_is still.
      kept.opens_far types constants ks b class one s h is_map (λ x y. typed.◌>>=◌ (integer_needed (known ks c)) (λ _. gives a RegisterType.Int (others_ended x.0 b ks))) good bad b_is
      (λ x y n f. let m = bind_ok (integer_needed (known ks c)) (λ _. gives a RegisterType.Int (others_ended x.0 b ks)) (good, bad) f in
      kept.gives_from types constants ks b class (others_ended x.0 b ks) a RegisterType.Int good bad refl m.2) e still;
  same = delete_key_same;
  follows = λ constants s a b c number room.
      follow.bound (path_of s b) _ (λ p. follow.bound (integer_at s c) _ (λ k. follow.bound (path_value s p >>= entries_in) _ (λ es. follow.either _ (key_place es.0 k) _
      (λ i. follow.given_put a _ p _) (follow.given success a _))));
}
laws Operation.FirstKey = record {
  goes = λ types constants one ks s h a b c number m. firstk_goes types constants one ks s h a b c number;
  alike = λ types constants ks a b c number f. absurd (subst IsPlain (sym f) tt);
  bares = λ types constants ks b a c number b_is. bare.needs_form types b b_is is_map _ _ (λ x i y. bare.opens_here a RegisterType.Int refl);
  kept = λ types constants one ks s h class a b c number room good bad e far. kept.bound s (path_of s b) _ (λ p _. kept.bound s (path_value s p >>= entries_in) _ (λ es _. kept.key s a es.0));
  spared = λ types constants ks class one s h a b c number good bad e b_is still. tt;
  same = first_key_same;
  follows = λ constants s a b c number room. follow.bound (path_of s b) _ (λ p. follow.bound (path_value s p >>= entries_in) _ (λ es. follow.key a es.0));
}
laws Operation.NextKey = record {
  goes = λ types constants one ks s h a b c number m. nextk_goes types constants one ks s h a b c number;
  alike = λ types constants ks a b c number f. absurd (subst IsPlain (sym f) tt);
  bares = λ types constants ks b a c number b_is. bare.needs_form types b b_is is_map _ _ (λ x i y. bare.needs_integer c _ _ (bare.opens_here a RegisterType.Int refl));
  kept = λ types constants one ks s h class a b c number room good bad e far. kept.bound s (path_of s b) _ (λ p _. kept.bound s (integer_at s c) _ (λ k _. kept.bound s (path_value s p >>= entries_in) _ (λ es _. kept.key s a _)));
  spared = λ types constants ks class one s h a b c number good bad e b_is still. tt;
  same = next_key_same;
  follows = λ constants s a b c number room. follow.bound (path_of s b) _ (λ p. follow.bound (integer_at s c) _ (λ k. follow.bound (path_value s p >>= entries_in) _ (λ es. follow.key a _)));
}
laws Operation.Freeze = record {
  goes = λ types constants one ks s h a b c number m good bad room e. cc;
  alike = λ types constants ks a b c number f. absurd (subst IsPlain (sym f) tt);
  bares = λ types constants ks b a c number b_is. record { same = λ good bad e. absurd (let f : Err Reason.WrongOperand ≡ Ok (good, bad) = e in cc) };
  kept = λ types constants one ks s h class a b c number room good bad e far. absurd (let f : Err Reason.WrongOperand ≡ Ok (good, bad) = e in cc);
  spared = λ types constants ks class one s h a b c number good bad e b_is still. absurd (let f : Err Reason.WrongOperand ≡ Ok (good, bad) = e in cc);
  same = freeze_same;
  follows = λ constants s a b c number room. follow.bound (path_of s b) _ (λ p. follow.bound (path_form s p >>= shared_type) _ (λ t. follow.bound (owned_by (register s c)) _ (λ own. follow.bound (path_value s p) _
      (λ v. follow.shown _ _ (follow.roomy room a _ (follow.answered success a _ _ (follow.sets _ c Register.Undefined (follow.put_follows p _))))))));
}
laws Operation.Share = record {
  goes = λ types constants one ks s h a b c number m good bad room e. cc;
  alike = λ types constants ks a b c number f. record { by = λ good bad e. cc };
  bares = λ types constants ks b a c number b_is. record { same = λ good bad e. absurd (let f : Err Reason.WrongOperand ≡ Ok (good, bad) = e in cc) };
  kept = λ types constants one ks s h class a b c number room good bad e far. absurd (let f : Err Reason.WrongOperand ≡ Ok (good, bad) = e in cc);
  spared = λ types constants ks class one s h a b c number good bad e b_is still. absurd (let f : Err Reason.WrongOperand ≡ Ok (good, bad) = e in cc);
  same = share_same;
  follows = λ constants s a b c number room. follow.bound (path_of s b) _ (λ p. follow.bound (path_form s p >>= shared_type) _ (λ t. follow.bound (path_of s c) _ (λ q. follow.bound (path_form s q >>= shared_type) _
      (λ u. follow.bound (path_value s p) _ (λ old. follow.bound (path_value s q) _ (λ v. follow.shown _ _ (follow.put_some p v)))))));
}

-- ---- over all operations

module _ (types : Table) (constants : List Constant) (ks : RegisterTypes) (b : ℕ) where
  pub bare_rule : (op : Operation) (a c : ℕ) (number : ℤ) → BareThere op (known ks b) → Bares ks (rule types constants op a b c number ks) (rule types constants op a b c number (bare ks))
  bare_rule op = (laws op).bares types constants ks b

module _ (constants : List Constant) (one : OneEach constants) (class : Class) (types : Table) (ks : RegisterTypes) (s : State) (h : IsAsKnown types constants ks s) (b : ℕ) where
  pub cells_kept : (op : Operation) (a c : ℕ) (number : ℤ) (room : Bool) (good bad : RegisterTypes) → rule types constants op a b c number ks ≡ Ok (good, bad) → Spared constants one class types ks s h b op c number
      → Keeps constants one class s (effect constants op a b c number room s)
  cells_kept op a c number = (laws op).kept types constants one ks s h class a b c number

module _ (types : Table) (constants : List Constant) (ks : RegisterTypes) (b : ℕ) (class : Class) (one : OneEach constants) (s : State) (h : IsAsKnown types constants (bare ks) s) where
  pub spared : (op : Operation) (a c : ℕ) (number : ℤ) (good bad : RegisterTypes) → rule types constants op a b c number ks ≡ Ok (good, bad) → BareThere op (known ks b) → StillRead types constants ks b class good bad
      → Spared constants one (Class.Frozen class) types (bare ks) s h b op c number
  spared op a c number = (laws op).spared types constants ks class one s h a b c number

pub rows : (s : State) (constants : List Constant) (op : Operation) (a b c : ℕ) (number : ℤ) (room : Bool) → Fine (Destroyed constants op b number s) s (effect constants op a b c number room s)
rows s constants op = (laws op).follows constants s

-- if the row forgets what is in b, its rule makes b undefined and does nothing else
pub forgotten_rule : (types : Table) (constants : List Constant) (op : Operation) (a b c : ℕ) (number : ℤ) (ks : RegisterTypes) → (row_of op).gives ≡ Gives.Forgotten
    → rule types constants op a b c number ks ≡ typed.◌>>=◌ (assigned b RegisterType.Undefined ks) known_after
unfolding rule
forgotten_rule types constants Operation.Forget a b c number ks is = refl
forgotten_rule types constants op a b c number ks is = cc
