-- Rows of operations on values at paths, from a state and from its unfolded state.
use Rattle.std.proofs.Common.{◌≡◌, ℕ, ℤ, List, [], ◌∷◌, ◌++◌, length, take, filter, Bool, Option, Some, None, refl, sym, ◌∙◌, ap, subst}
use Rattle.std.specs.Prelude.{option_map, slice_get, slice_index, nat_abs, int_lt, not, ◌==◌, ◌&&◌}
use Rattle.std.specs.Option.{option_map_or}
use Rattle.seg_spec.specs.Value.{Label, Value, node, Int, Text, Seq, Empty, Full, Values, nil, cons, count, append, default_of, Selector}
use Rattle.seg_spec.specs.Items.{without_last, key_place, with_entry, without_entry}
use Rattle.seg_spec.specs.Block.{has_buffer}
use Rattle.seg_spec.specs.Shared.{replaced, replaced_each}
use Rattle.client_spec.specs.declared.table.Operation.{Operation}
use Rattle.client_spec.specs.Syntax.{Constant}
use Rattle.client_spec.specs.Machine.{◌>>=◌, Path, extend, Register, State, register, set_register, owned_by, path_value, path_type, put_at}
use Rattle.client_spec.specs.Answer.{absent, out_of_range, null_or_none, fail, refer, give_count, proceed, index_below, byte_of, constant_text, int_in}
use Rattle.client_spec.specs.Answer.{text_in, items_in, entries_in, content_in, fields_in, length_in, vec_or_list_item, list_item, map_value, owned_type, shared_type, path_form, begins_at}
use Rattle.client_spec.specs.Effect.{item_of_value, pop_bytes, pop_last, pop_first, set_text, first_key, take_content, see_content, effect}
use Rattle.client_spec.specs.Trees.{unfolded_state}
use Rattle.client_spec.proofs.Unfolded.UnfoldedValueLaws.{default_replaced, count_replaced, append_replaced, last_replaced, with_entry_replaced, without_entry_replaced}
use Rattle.client_spec.proofs.Unfolded.UnfoldedStateLaws.{unfolded_owned, owned_same, set_register_same, type_same, form_same}
use Rattle.client_spec.proofs.Unfolded.UnfoldedPartLaws.{number_replaced, bytes_replaced, items_replaced, entries_with, entries_replaced, content_replaced, fields_replaced, length_replaced}
use Rattle.client_spec.proofs.Unfolded.UnfoldedOutcomeLaws.{Same, along, either_same, provided_same, give_same, fail_same, refer_same, count_same, proceed_same}
use Rattle.client_spec.proofs.Unfolded.UnfoldedOutcomeLaws.{room_same, from_integer, from_path, from_owner, from_form, from_value, from_part, put_then}
use Rattle.client_spec.proofs.Unfolded.UnfoldedRowLaws.{RowSame}

module _ (m : ℕ → Value) (constants : List Constant) (s : State) where
  abbrev trees : State
  trees = unfolded_state m s

  -- ---- values that are put

  text_replaced : (bytes : List ℕ) → replaced m (Text bytes) ≡ Text bytes
  unfolding replaced
  text_replaced bytes = refl

  int_replaced : (k : ℤ) → replaced m (Int k) ≡ Int k
  unfolding replaced
  int_replaced k = refl

  seq_replaced : (vs ws : Values) → replaced_each m vs ≡ ws → replaced m (Seq vs) ≡ Seq ws
  unfolding replaced
  seq_replaced vs ws e = ap (node Label.seq) e

  full_replaced : (v : Value) → replaced m (Full v) ≡ Full (replaced m v)
  unfolding replaced
  full_replaced v = refl

  empty_replaced : replaced m Empty ≡ Empty
  unfolding replaced
  empty_replaced = refl

  pushed_last : (vs : Values) (t : ℕ) → replaced_each m (append vs (cons (default_of s.types t) nil)) ≡ append (replaced_each m vs) (cons (default_of s.types t) nil)
  unfolding replaced
  pushed_last vs t = append_replaced m vs (cons (default_of s.types t) nil) ∙ ap (λ v. append (replaced_each m vs) (cons v nil)) (default_replaced m s.types t)

  pushed_first : (vs : Values) (t : ℕ) → replaced_each m (cons (default_of s.types t) vs) ≡ cons (default_of s.types t) (replaced_each m vs)
  unfolding replaced
  pushed_first vs t = ap (λ v. cons v (replaced_each m vs)) (default_replaced m s.types t)

  -- ---- parts of rows

  -- putting a value commutes with unfolding
  putting : (p : Path) (v u w : Value) → path_value s p ≡ Some u → replaced m v ≡ w → put_at trees p w ≡ unfolded_state m (put_at s p v)
  putting p v u w e f = put_then m s p v u w e f

  texts : (a : ℕ) (p : Path) (bytes : List ℕ) (room : Bool) (u : Value) → path_value s p ≡ Some u → Same m (set_text a p bytes room s) (set_text a p bytes room trees)
  texts a p bytes room u e = room_same m room a s _ _ (count_same m a (length bytes) (put_at s p (Text bytes)) (put_at trees p (Text bytes)) (putting p (Text bytes) u (Text bytes) e (text_replaced bytes)))

  first_keys : (a : ℕ) (ks : List ℤ) → Same m (first_key a ks s) (first_key a ks trees)
  first_keys a [] = fail_same m a null_or_none s
  first_keys a (k ∷ ks) = give_same m a (Register.Int k) s trees refl

  popped_bytes : (a : ℕ) (p : Path) (bytes : List ℕ) (u : Value) → path_value s p ≡ Some u → Same m (pop_bytes a p bytes s) (pop_bytes a p bytes trees)
  popped_bytes a p [] u e = fail_same m a null_or_none s
  popped_bytes a p (x ∷ xs) u e =
      let rest = Text (take (length xs) (x ∷ xs)) in
      count_same m a (length xs) (put_at s p rest) (put_at trees p rest) (putting p rest u rest e (text_replaced (take (length xs) (x ∷ xs))))

  counts : (a : ℕ) (vs : Values) (t t' : State) → t' ≡ unfolded_state m t → Same m (give_count a (count vs) t) (give_count a (count (replaced_each m vs)) t')
  counts a vs t t' e = subst (λ n. Same m (give_count a (count vs) t) (give_count a n t')) (sym (count_replaced m vs)) (count_same m a (count vs) t t' e)

  popped_last : (a : ℕ) (p : Path) (vs : Values) (u : Value) → path_value s p ≡ Some u → Same m (pop_last a p vs s) (pop_last a p (replaced_each m vs) trees)
  unfolding replaced
  popped_last a p nil u e = fail_same m a null_or_none s
  popped_last a p (cons v vs) u e =
      counts a vs (put_at s p (Seq (without_last (cons v vs)))) (put_at trees p (Seq (without_last (cons (replaced m v) (replaced_each m vs)))))
      (putting p (Seq (without_last (cons v vs))) u (Seq (without_last (cons (replaced m v) (replaced_each m vs)))) e (seq_replaced _ _ (last_replaced m (cons v vs))))

  popped_first : (a : ℕ) (p : Path) (vs : Values) (u : Value) → path_value s p ≡ Some u → Same m (pop_first a p vs s) (pop_first a p (replaced_each m vs) trees)
  unfolding replaced
  popped_first a p nil u e = fail_same m a null_or_none s
  popped_first a p (cons v vs) u e =
      counts a vs (put_at s p (Seq vs)) (put_at trees p (Seq (replaced_each m vs))) (putting p (Seq vs) u (Seq (replaced_each m vs)) e (seq_replaced _ _ refl))

  taken : (a : ℕ) (p : Path) (t : ℕ) (o : Option Value) (u : Value) → path_value s p ≡ Some u → Same m (take_content a p t o s) (take_content a p t (option_map (replaced m) o) trees)
  taken a p t None u e = fail_same m a null_or_none s
  taken a p t (Some v) u e = give_same m a (Register.Owner v t) (put_at s p Empty) (put_at trees p Empty) (putting p Empty u Empty e empty_replaced)

  seen : (a : ℕ) (p : Path) (o : Option Value) → Same m (see_content a p o s) (see_content a p (option_map (replaced m) o) trees)
  seen a p None = fail_same m a null_or_none s
  seen a p (Some v) = refer_same m a (extend p Selector.content) s trees refl

  -- giving a reference to an indexed part, or a code, commutes with unfolding
  indexed : (a : ℕ) (vs : Values) (x : ℤ) (p : ℕ → Path) → Same m (option_map_or (λ i. refer a (p i) s) (index_below (count vs) x) (fail a out_of_range s))
      (option_map_or (λ i. refer a (p i) trees) (index_below (count (replaced_each m vs)) x) (fail a out_of_range trees))
  indexed a vs x p =
      subst (λ n. Same m (option_map_or (λ i. refer a (p i) s) (index_below (count vs) x) (fail a out_of_range s))
      (option_map_or (λ i. refer a (p i) trees) (index_below n x) (fail a out_of_range trees)))
      (sym (count_replaced m vs)) (either_same m (index_below (count vs) x) _ _ _ _ (λ i. refer_same m a (p i) s trees refl) (fail_same m a out_of_range s))

  item_found : (a : ℕ) (p : Path) (x : ℤ) (v : Value) → Same m (item_of_value a p x v s) (item_of_value a p x (replaced m v) trees)
  unfolding replaced
  item_found a p x (node (Label.int k) vs) = tt
  item_found a p x (node (Label.text bytes) nil) =
      either_same m (index_below (length bytes) x) _ _ _ _ (λ i. count_same m a (slice_index bytes i) s trees refl) (fail_same m a out_of_range s)
  item_found a p x (node (Label.text bytes) (cons v vs)) = tt
  item_found a p x (node Label.seq vs) = indexed a vs x (λ i. extend p (Selector.item i))
  item_found a p x (node (Label.map keys) vs) = tt
  item_found a p x (node Label.opt vs) = tt
  item_found a p x (node Label.struct vs) = tt
  item_found a p x (node (Label.shared T q) vs) = tt

  last_gone : (a : ℕ) (p : Path) (v u : Value) → path_value s p ≡ Some u → Same m (option_map_or (λ bytes. pop_bytes a p bytes s) (text_in v) (items_in v >>= λ vs. pop_last a p vs s))
      (option_map_or (λ bytes. pop_bytes a p bytes trees) (text_in (replaced m v)) (items_in (replaced m v) >>= λ vs. pop_last a p vs trees))
  unfolding replaced
  last_gone a p (node (Label.int k) vs) u e = tt
  last_gone a p (node (Label.text bytes) nil) u e = popped_bytes a p bytes u e
  last_gone a p (node (Label.text bytes) (cons v vs)) u e = tt
  last_gone a p (node Label.seq vs) u e = popped_last a p vs u e
  last_gone a p (node (Label.map keys) vs) u e = tt
  last_gone a p (node Label.opt vs) u e = tt
  last_gone a p (node Label.struct vs) u e = tt
  last_gone a p (node (Label.shared T q) vs) u e = tt

  -- ---- reading

  pub load_same : RowSame m constants s Operation.Load
  unfolding effect
  load_same a b c number room = from_path m s b _ _ (λ p. from_part m s (λ k. k) p int_in int_in _ _ (number_replaced m) (λ k v _ _. give_same m a (Register.Int k) s trees refl))

  pub len_same : RowSame m constants s Operation.Len
  unfolding effect
  len_same a b c number room = from_path m s b _ _ (λ p. from_part m s (λ k. k) p length_in length_in _ _ (length_replaced m) (λ n v _ _. count_same m a n s trees refl))

  pub content_same : RowSame m constants s Operation.Content
  unfolding effect
  content_same a b c number room = from_path m s b _ _ (λ p. from_part m s (option_map (replaced m)) p content_in content_in _ _ (content_replaced m) (λ o v _ _. seen a p o))

  pub field_same : RowSame m constants s Operation.Field
  unfolding effect
  field_same a b c number room =
      from_path m s b _ _ (λ p. from_part m s (replaced_each m) p fields_in fields_in _ _ (fields_replaced m) (λ vs v _ _.
      along m (index_below (count vs) number) (index_below (count (replaced_each m vs)) number) _ _ (ap (λ n. index_below n number) (count_replaced m vs))
      (λ i. refer_same m a (extend p (Selector.field i)) s trees refl)))

  pub at_same : RowSame m constants s Operation.At
  unfolding effect
  at_same a b c number room = from_path m s b _ _ (λ p. from_integer m s c _ _ (λ x. from_value m s p _ _ (λ v _. item_found a p x v)))

  pub get_key_same : RowSame m constants s Operation.GetKey
  unfolding effect
  get_key_same a b c number room =
      from_path m s b _ _ (λ p. from_integer m s c _ _ (λ k. from_part m s (entries_with m) p entries_in entries_in _ _ (entries_replaced m) (λ es v _ _.
      either_same m (key_place es.0 k) _ _ _ _ (λ _. refer_same m a (extend p (Selector.key k)) s trees refl) (fail_same m a absent s))))

  pub first_key_same : RowSame m constants s Operation.FirstKey
  unfolding effect
  first_key_same a b c number room = from_path m s b _ _ (λ p. from_part m s (entries_with m) p entries_in entries_in _ _ (entries_replaced m) (λ es v _ _. first_keys a es.0))

  pub next_key_same : RowSame m constants s Operation.NextKey
  unfolding effect
  next_key_same a b c number room =
      from_path m s b _ _ (λ p. from_integer m s c _ _ (λ k. from_part m s (entries_with m) p entries_in entries_in _ _ (entries_replaced m) (λ es v _ _. first_keys a (filter (λ x. int_lt k x) es.0))))

  pub shrink_same : RowSame m constants s Operation.Shrink
  unfolding effect
  shrink_same a b c number room =
      from_path m s b _ _ (λ p. along m (path_form s p) (path_form trees p) _ _ (form_same m s p) (λ k. from_value m s p _ _ (λ v _. provided_same m (has_buffer (Some k)) _ _ (proceed_same m s trees refl))))

  -- ---- putting

  pub store_same : RowSame m constants s Operation.Store
  unfolding effect
  store_same a b c number room =
      from_path m s b _ _ (λ p. from_part m s (λ k. k) p int_in int_in _ _ (number_replaced m) (λ k v e _. from_integer m s c _ _ (λ x.
      proceed_same m (put_at s p (Int x)) (put_at trees p (Int x)) (putting p (Int x) v (Int x) e (int_replaced x)))))

  pub clear_same : RowSame m constants s Operation.Clear
  unfolding effect
  clear_same a b c number room =
      from_path m s b _ _ (λ p. along m (path_type s p) (path_type trees p) _ _ (type_same m s p) (λ t. from_value m s p _ _ (λ v e.
      proceed_same m (put_at s p (default_of s.types t)) (put_at trees p (default_of s.types t)) (putting p (default_of s.types t) v (default_of s.types t) e (default_replaced m s.types t)))))

  pub set_text_same : RowSame m constants s Operation.SetStr
  unfolding effect
  set_text_same a b c number room =
      from_path m s b _ _ (λ p. from_part m s (λ k. k) p text_in text_in _ _ (bytes_replaced m) (λ old v e _.
      along m (slice_get constants (nat_abs number) >>= constant_text) (slice_get constants (nat_abs number) >>= constant_text) _ _ refl (λ new. texts a p new room v e)))

  pub add_text_same : RowSame m constants s Operation.AddStr
  unfolding effect
  add_text_same a b c number room =
      from_path m s b _ _ (λ p. from_part m s (λ k. k) p text_in text_in _ _ (bytes_replaced m) (λ old v e _.
      along m (slice_get constants (nat_abs number) >>= constant_text) (slice_get constants (nat_abs number) >>= constant_text) _ _ refl (λ more. texts a p (old ++ more) room v e)))

  pub add_byte_same : RowSame m constants s Operation.AddByte
  unfolding effect
  add_byte_same a b c number room =
      from_path m s b _ _ (λ p. from_part m s (λ k. k) p text_in text_in _ _ (bytes_replaced m) (λ old v e _. from_integer m s c _ _ (λ x.
      either_same m (byte_of x) _ _ _ _ (λ byte. texts a p (old ++ byte ∷ []) room v e) (fail_same m a out_of_range s))))

  pub push_back_same : RowSame m constants s Operation.PushBack
  unfolding effect
  push_back_same a b c number room =
      from_path m s b _ _ (λ p. from_form m s p vec_or_list_item _ _ (λ t. from_part m s (replaced_each m) p items_in items_in _ _ (items_replaced m) (λ vs v e _.
      let now = Seq (append vs (cons (default_of s.types t) nil)) in
      let later = Seq (append (replaced_each m vs) (cons (default_of s.types t) nil)) in
      room_same m room a s _ _ (subst (λ n. Same m (refer a (extend p (Selector.item (count vs))) (put_at s p now)) (refer a (extend p (Selector.item n)) (put_at trees p later)))
      (sym (count_replaced m vs)) (refer_same m a (extend p (Selector.item (count vs))) (put_at s p now) (put_at trees p later) (putting p now v later e (seq_replaced _ _ (pushed_last vs t))))))))

  pub push_front_same : RowSame m constants s Operation.PushFront
  unfolding effect
  push_front_same a b c number room =
      from_path m s b _ _ (λ p. from_form m s p list_item _ _ (λ t. from_part m s (replaced_each m) p items_in items_in _ _ (items_replaced m) (λ vs v e _.
      let now = Seq (cons (default_of s.types t) vs) in
      let later = Seq (cons (default_of s.types t) (replaced_each m vs)) in
      room_same m room a s _ _ (refer_same m a (extend p (Selector.item 0)) (put_at s p now) (put_at trees p later) (putting p now v later e (seq_replaced _ _ (pushed_first vs t)))))))

  pub pop_back_same : RowSame m constants s Operation.PopBack
  unfolding effect
  pop_back_same a b c number room = from_path m s b _ _ (λ p. from_value m s p _ _ (λ v e. last_gone a p v v e))

  pub pop_front_same : RowSame m constants s Operation.PopFront
  unfolding effect
  pop_front_same a b c number room =
      from_path m s b _ _ (λ p. from_form m s p list_item _ _ (λ t. from_part m s (replaced_each m) p items_in items_in _ _ (items_replaced m) (λ vs v e _. popped_first a p vs v e)))

  pub put_key_same : RowSame m constants s Operation.PutKey
  unfolding effect
  put_key_same a b c number room =
      from_path m s b _ _ (λ p. from_integer m s c _ _ (λ k. from_form m s p map_value _ _ (λ t. from_part m s (entries_with m) p entries_in entries_in _ _ (entries_replaced m) (λ es v e _.
      let now = with_entry es k (default_of s.types t) in
      let later = with_entry (entries_with m es) k (default_of s.types t) in
      either_same m (key_place es.0 k) _ _ _ _ (λ _. refer_same m a (extend p (Selector.key k)) s trees refl)
      (room_same m room a s _ _ (refer_same m a (extend p (Selector.key k)) (put_at s p now) (put_at trees p later)
      (putting p now v later e (with_entry_replaced m es.0 es.1 k (default_of s.types t) ∙ ap (with_entry (entries_with m es) k) (default_replaced m s.types t)))))))))

  pub delete_key_same : RowSame m constants s Operation.DeleteKey
  unfolding effect
  delete_key_same a b c number room =
      from_path m s b _ _ (λ p. from_integer m s c _ _ (λ k. from_part m s (entries_with m) p entries_in entries_in _ _ (entries_replaced m) (λ es v e _.
      either_same m (key_place es.0 k) _ _ _ _
      (λ i. count_same m a 1 (put_at s p (without_entry es i)) (put_at trees p (without_entry (entries_with m es) i))
      (putting p (without_entry es i) v (without_entry (entries_with m es) i) e (without_entry_replaced m es.0 es.1 i)))
      (count_same m a 0 s trees refl))))

  -- ---- owners

  pub put_same : RowSame m constants s Operation.Put
  unfolding effect
  put_same a b c number room =
      from_path m s b _ _ (λ p. from_form m s p owned_type _ _ (λ t. from_owner m s c _ _ (λ new.
      from_part m s (option_map (replaced m)) p content_in content_in _ _ (content_replaced m) (λ o v e _.
      provided_same m (t == new.1 && not (begins_at c p.origin)) _ _
      (proceed_same m (set_register (put_at s p (Full new.0)) c Register.Undefined) (set_register (put_at trees p (Full (replaced m new.0))) c Register.Undefined)
      (ap (λ z. set_register z c Register.Undefined) (putting p (Full new.0) v (Full (replaced m new.0)) e (full_replaced new.0))
      ∙ sym (set_register_same m (put_at s p (Full new.0)) c Register.Undefined)))))))

  pub take_same : RowSame m constants s Operation.Take
  unfolding effect
  take_same a b c number room =
      from_path m s b _ _ (λ p. from_form m s p owned_type _ _ (λ t.
      from_part m s (option_map (replaced m)) p content_in content_in _ _ (content_replaced m) (λ o v e _. taken a p t o v e)))

  pub freeze_same : RowSame m constants s Operation.Freeze
  unfolding effect
  freeze_same a b c number room =
      from_path m s b _ _ (λ p. from_form m s p shared_type _ _ (λ t. from_owner m s c _ _ (λ own. from_value m s p _ _ (λ v e.
      provided_same m (t == own.1 && not (begins_at c p.origin)) _ _
      (room_same m room a s _ _ (count_same m a 1
      (set_register (put_at s p (Full own.0)) c Register.Undefined) (set_register (put_at trees p (Full (replaced m own.0))) c Register.Undefined)
      (ap (λ z. set_register z c Register.Undefined) (putting p (Full own.0) v (Full (replaced m own.0)) e (full_replaced own.0))
      ∙ sym (set_register_same m (put_at s p (Full own.0)) c Register.Undefined))))))))

  pub share_same : RowSame m constants s Operation.Share
  unfolding effect
  share_same a b c number room =
      from_path m s b _ _ (λ p. from_form m s p shared_type _ _ (λ t. from_path m s c _ _ (λ q. from_form m s q shared_type _ _ (λ u.
      from_value m s p _ _ (λ old e. from_value m s q _ _ (λ v _.
      provided_same m (t == u) _ _ (proceed_same m (put_at s p v) (put_at trees p (replaced m v)) (putting p v old (replaced m v) e refl))))))))

  forgotten : (b : ℕ) (o : Option (Value × ℕ)) → Same m (option_map_or (λ _. None) o (proceed (set_register s b Register.Undefined)))
      (option_map_or (λ _. None) (option_map (unfolded_owned m) o) (proceed (set_register trees b Register.Undefined)))
  forgotten b None = proceed_same m (set_register s b Register.Undefined) (set_register trees b Register.Undefined) (sym (set_register_same m s b Register.Undefined))
  forgotten b (Some v) = tt

  pub forget_same : RowSame m constants s Operation.Forget
  unfolding effect
  forget_same a b c number room =
      subst (λ o. Same m (option_map_or (λ _. None) (owned_by (register s b)) (proceed (set_register s b Register.Undefined))) (option_map_or (λ _. None) o (proceed (set_register trees b Register.Undefined))))
      (sym (owned_same m s b)) (forgotten b (owned_by (register s b)))
