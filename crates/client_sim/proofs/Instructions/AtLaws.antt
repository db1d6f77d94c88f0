-- AT: the byte of a text at an index, or a reference to the item of a vector or a list.
use Rattle.std.proofs.Common.{◌≡◌, ◌≢◌, ℕ, ◌<◌, ℤ, pos, List, [], ◌∷◌, length, true, Option, Some, None, refl, sym, ◌∙◌, ap, subst, inl, inr}
use Rattle.std.specs.Prelude.{Ok, slice_index}
use Rattle.std.specs.Option.{option_map_or}
use Rattle.seg_spec.specs.Types.{Form, Table, form_at}
use Rattle.seg_spec.specs.Value.{Value, Values, Text, Seq, Selector, count}
use Rattle.seg_spec.specs.Index.{Root}
use Rattle.seg_spec.specs.Owning.{Stands}
use Rattle.seg_spec.specs.Reads.{Place, Leads}
use Rattle.client_spec.specs.declared.table.Operation.{Operation}
use Rattle.client_spec.specs.declared.table.Role.{Role}
use Rattle.client_spec.specs.Syntax.{Constant, Instruction}
use Rattle.client_spec.specs.Machine.{◌>>=◌, Path, extend, Register, State, register, path_value}
use Rattle.client_spec.specs.Answer.{Answer, success, out_of_range, answer_number, path_in, integer_at, refer, fail, give_count, index_below, vec_or_list_item}
use Rattle.client_spec.specs.Effect.{outcome, item_of_value, effect}
use Rattle.client_spec.specs.Typed.{Class, RegisterType, RegisterTypes, known, reference_needed, integer_needed, form_needed, item_known, opens, rule, sharing_rule}
use Rattle.client_spec.specs.Typed as typed
use Rattle.client_spec.proofs.Rows.RuleRowLaws.{bind_ok, answer_is}
use Rattle.client_spec.proofs.TypedStates.ValueLaws.{Some_inj}
use Rattle.client_spec.proofs.TypedStates.ValueFormLaws.{at_value, item_part}
use Rattle.client_sim.specs.Shows.{World, number_in, place_in, Shows, Acts}
use Rattle.client_sim.specs.Acting.{ActsPlainly, IsRefusedPlainly, ActsAs, IsRefusedAs, ActsOnRead, IsRefusedOnRead}
use Rattle.client_sim.proofs.ImageChangeLaws.{unchanged}
use Rattle.client_sim.proofs.Instructions.NumberLaws.{with_number, quiet, number_shown, number_given}
use Rattle.client_sim.proofs.EffectLaws.{with_place, refuses_with}
use Rattle.client_sim.proofs.Instructions.StreamLaws.{opens_both}
use Rattle.client_sim.proofs.Places.PartLaws.{FormLed, form_led, part_given}
use Rattle.client_sim.specs.Seeing.{Sees, SeenActs}
use Rattle.client_sim.proofs.Frozen.UnfoldedOperationLaws.{read_acts, read_refused}
use Rattle.client_sim.proofs.Frozen.ReadOnlyLaws.{means}
use Rattle.client_sim.proofs.Frozen.ReadOnlyValueLaws.{FormRead, found_read_by, form_read, text_replaced, seq_replaced, number_seen, read_number, read_code, on_part, part_read}
use Rattle.seg_spec.specs.Shared.{replaced, replaced_each}
use Rattle.client_spec.proofs.Unfolded.UnfoldedValueLaws.{count_replaced}

-- a claim about each text at register b's place
abbrev pub OfText : ℕ → ℕ → World → (List ℕ → Type 0) → Type 0
OfText allocator b w claim = (xs blocks : List ℕ) → form_at w.table (place_in w b).type ≡ Some Form.str → Stands allocator w.image w.table (place_in w b) (Text xs) blocks → claim xs

-- a claim about the items of each vector or list at register b's place, and their type
abbrev pub OfItems : ℕ → ℕ → World → (ℕ → Values → Type 0) → Type 0
OfItems allocator b w claim = (form : Form) (U : ℕ) (vs : Values) (blocks : List ℕ) → form_at w.table (place_in w b).type ≡ Some form → vec_or_list_item form ≡ Some U
    → Stands allocator w.image w.table (place_in w b) (Seq vs) blocks → claim U vs

not_number : (class : Class) (U : ℕ) (k : RegisterType) → RegisterType.Reference class U ≡ k → k ≡ RegisterType.Int → ⊥
not_number class U k e f = cc

str_is : (class : Class) (form : Form) (k : RegisterType) → item_known class form ≡ Some k → k ≡ RegisterType.Int → form ≡ Form.str
str_is class Form.str k e f = refl
str_is class (Form.vec U) k e f = absurd (not_number class U k (Some_inj e) f)
str_is class (Form.list U) k e f = absurd (not_number class U k (Some_inj e) f)
str_is class form k e f = cc

no_items : (form : Form) (U : ℕ) → form ≡ Form.str → vec_or_list_item form ≡ Some U → ⊥
no_items Form.str U e f = cc
no_items form U e f = cc

module _ (allocator : ℕ) (constants : List Constant) (role : Role) (a b c : ℕ) (number : ℤ) (w : World) where
  abbrev at_of : Instruction
  at_of = record { operation = Operation.At; a = a; b = b; c = c; number = number }

  abbrev index : ℤ
  index = number_in w c

  at_row : (s : State) (p : Path) (v : Value) → register s b ≡ Register.Reference p → path_value s p ≡ Some v → integer_at s c ≡ Some index → outcome constants at_of true s ≡ item_of_value a p index v s
  unfolding effect
  at_row s p v is there at =
      ap (λ x. path_in x >>= λ p. integer_at s c >>= λ x. path_value s p >>= λ v. item_of_value a p x v s) is ∙ ap (λ (o : Option ℤ). o >>= λ x. path_value s p >>= λ v. item_of_value a p x v s) at
      ∙ ap (λ (o : Option Value). o >>= λ v. item_of_value a p index v s) there

  module _ {types : Table} {others : List Root} {first : Option (List ℕ)} {ks : RegisterTypes} {s : State} (h : Shows others types constants first allocator ks s w) (good bad : RegisterTypes) where
    -- what the rule of AT has found
    record AtLed : Type 0 where
      class : Class
      type : ℕ
      what : RegisterType
      its : FormLed h (item_known class) b class type what
      opened : opens a what ks ≡ Ok (good, bad)
      counted : integer_at s c ≡ Some index

    at_led : rule types constants Operation.At a b c number ks ≡ Ok (good, bad) → AtLed
    unfolding rule
    at_led e =
        let p = bind_ok (reference_needed (known ks b)) (λ x. typed.◌>>=◌ (form_needed (item_known x.0) types x.1) (λ k. typed.◌>>=◌ (integer_needed (known ks c)) (λ _. opens a k ks))) (good, bad) e in
        let q = bind_ok (form_needed (item_known p.0.0) types p.0.1) (λ k. typed.◌>>=◌ (integer_needed (known ks c)) (λ _. opens a k ks)) (good, bad) p.2 in
        let r = bind_ok (integer_needed (known ks c)) (λ _. opens a q.0 ks) (good, bad) q.2 in
        record {
          class = p.0.0;
          type = p.0.1;
          what = q.0;
          its = form_led h (item_known p.0.0) b p.0 q.0 p.1 q.1;
          opened = r.2;
          counted = number_shown others types constants first allocator ks s w h c r.0 r.1;
        }

    module _ (l : AtLed) where
      abbrev path : Path
      path = l.its.its.path

      row : (v : Value) → l.its.its.value ≡ v → outcome constants at_of true s ≡ item_of_value a path index v s
      row v is = at_row s path l.its.its.value l.its.its.path_is l.its.its.there l.counted ∙ ap (λ u. item_of_value a path index u s) is

      stands_so : (v : Value) → l.its.its.value ≡ v → Stands allocator w.image w.table (place_in w b) v l.its.its.found.blocks
      stands_so v is = subst (λ (u : Value). Stands allocator w.image w.table (place_in w b) u l.its.its.found.blocks) is l.its.its.stands

      form_so : l.what ≡ RegisterType.Int → form_at w.table (place_in w b).type ≡ Some Form.str
      form_so is = l.its.form_is ∙ ap Some (str_is l.class l.its.form l.what l.its.is is)

      -- AT fails if the index is out of range
      none_at : a < 16 → (code : ℕ) → outcome constants at_of true s ≡ fail a out_of_range s → code ≡ answer_number out_of_range
          → (answer : Answer) × (answer ≢ success) × Acts others types constants first allocator at_of answer bad s w (with_number w a (pos code))
      none_at within code fails code_is =
          let g = opens_both a l.what ks good bad l.opened in (
            out_of_range,
            (λ f. cc),
            subst (λ n. Acts others types constants first allocator at_of out_of_range bad s w (with_number w a (pos n))) (sym code_is)
                (subst (λ k. Acts others types constants first allocator at_of out_of_range k s w (with_number w a (pos (answer_number out_of_range)))) (sym g.2)
                (refuses_with others types constants first allocator ks s w h at_of out_of_range true a within g.0 fails (unchanged refl refl refl))),
          )

  -- the byte of the text with the index in register c
  abbrev pub IsByteAt : ℕ → List ℕ → Type 0
  IsByteAt n xs = (i : ℕ) × (index_below (length xs) index ≡ Some i) × (n ≡ slice_index xs i)

  byte_at_plainly : (n : ℕ) → form_at w.table (place_in w b).type ≡ Some Form.str → OfText allocator b w (IsByteAt n) → ActsPlainly allocator constants role at_of w (with_number w a (pos n))
  byte_at_plainly n str is = λ types others first ks good bad s right valid e h.
      let l = at_led h good bad e in
      elim (at_value s.types l.class l.its.form l.its.its.value l.what l.its.is l.its.fits) [
        | inl v ↦
            let g = opens_both a RegisterType.Int ks good bad (subst (λ k. opens a k ks ≡ Ok (good, bad)) v.0 l.opened) in
            let f = is v.1.0 l.its.its.found.blocks str (stands_so h good bad l (Text v.1.0) v.1.1) in
            let given = row h good bad l (Text v.1.0) v.1.1 ∙ ap (λ (o : Option ℕ). option_map_or (λ i. give_count a (slice_index v.1.0 i) s) o (fail a out_of_range s)) f.1 ∙ ap (λ m. give_count a m s) (sym f.2)
            ∙ answer_is types constants ks s h.as_known success a (Register.Int (pos n)) g.0 in
            subst (λ k. Acts others types constants first allocator at_of success k s w (with_number w a (pos n))) (sym g.1)
            (number_given others types constants first allocator ks s w h at_of success a (pos n) valid.a g.0 given (unchanged refl refl (quiet constants at_of h.pictured refl refl)))
        | inr v ↦ absurd (no_items l.its.form v.0 (Some_inj (sym l.its.form_is ∙ str)) v.4)
      ]

  -- the item with the index in register c is at p, and has this type
  abbrev pub IsItemAt : ℕ → ℕ → ℕ → Values → Type 0
  IsItemAt p T U vs = (i : ℕ) × (index_below (count vs) index ≡ Some i) × Leads w.image w.table (place_in w b) (Selector.item i ∷ []) (record { at = p; type = T }) × (T ≡ U)

  item_at_plainly : (p T : ℕ) → form_at w.table (place_in w b).type ≢ Some Form.str → OfItems allocator b w (IsItemAt p T) → ActsPlainly allocator constants role at_of w (with_place w a (record { at = p; type = T }))
  item_at_plainly p T other is = λ types others first ks good bad s right valid e h.
      let l = at_led h good bad e in
      let to : Place = record { at = p; type = T } in
      elim (at_value s.types l.class l.its.form l.its.its.value l.what l.its.is l.its.fits) [
        | inl v ↦ absurd (other (form_so h good bad l v.0))
        | inr v ↦
            let g = opens_both a (RegisterType.Reference l.class v.0) ks good bad (subst (λ k. opens a k ks ≡ Ok (good, bad)) v.2 l.opened) in
            let f = is l.its.form v.0 v.1 l.its.its.found.blocks l.its.form_is v.4 (stands_so h good bad l (Seq v.1) v.3) in
            let given = row h good bad l (Seq v.1) v.3 ∙ ap (λ (o : Option ℕ). option_map_or (λ i. refer a (extend (path h good bad l) (Selector.item i)) s) o (fail a out_of_range s)) f.1 in
            subst (λ k. Acts others types constants first allocator at_of success k s w (with_place w a to)) (sym g.1)
            (part_given h (item_known l.class) b l.class l.type l.what l.its at_of a (Selector.item f.0) v.0 to valid.a g.0 (item_part l.its.form v.0 f.0 v.4) f.3 f.2 given (unchanged refl refl (quiet constants at_of h.pictured refl refl)))
      ]

  -- the index isn't below n
  abbrev pub HasNoneAt : ℕ → ℕ → Type 0
  HasNoneAt code n = (index_below n index ≡ None) × (code ≡ answer_number out_of_range)

  at_refused_plainly : (code : ℕ) → OfText allocator b w (λ xs. HasNoneAt code (length xs)) → OfItems allocator b w (λ U vs. HasNoneAt code (count vs)) → IsRefusedPlainly allocator constants role at_of w (with_number w a (pos code))
  at_refused_plainly code no_byte no_item = λ types others first ks good bad s right valid e h.
      let l = at_led h good bad e in
      elim (at_value s.types l.class l.its.form l.its.its.value l.what l.its.is l.its.fits) [
        | inl v ↦
            let f = no_byte v.1.0 l.its.its.found.blocks (form_so h good bad l v.0) (stands_so h good bad l (Text v.1.0) v.1.1) in
            none_at h good bad l valid.a code (row h good bad l (Text v.1.0) v.1.1 ∙ ap (λ (o : Option ℕ). option_map_or (λ i. give_count a (slice_index v.1.0 i) s) o (fail a out_of_range s)) f.0) f.1
        | inr v ↦
            let f = no_item l.its.form v.0 v.1 l.its.its.found.blocks l.its.form_is v.4 (stands_so h good bad l (Seq v.1) v.3) in
            none_at h good bad l valid.a code (row h good bad l (Seq v.1) v.3 ∙ ap (λ (o : Option ℕ). option_map_or (λ i. refer a (extend (path h good bad l) (Selector.item i)) s) o (fail a out_of_range s)) f.0) f.1
      ]

  -- ---- through a read-only reference

  module _ {types : Table} {others : List Root} {first : Option (List ℕ)} {ks : RegisterTypes} {t : State} (h : Sees others types constants first allocator ks t w) (good bad : RegisterTypes) (x : Class) (T : ℕ)
      (known_is : known ks b ≡ RegisterType.Reference (Class.Frozen x) T) where
    record AtRead : Type 0 where
      what : RegisterType
      its : FormRead h (item_known (Class.Frozen x)) b (Class.Frozen x) T what
      opened : opens a what ks ≡ Ok (good, bad)
      counted : integer_at t c ≡ Some index

    at_read : sharing_rule types constants Operation.At a b c number ks ≡ Ok (good, bad) → AtRead
    unfolding sharing_rule rule
    at_read e =
        let f = found_read_by types item_known (λ z k. typed.◌>>=◌ (integer_needed (known ks c)) (λ _. opens a k ks)) b ks x T (good, bad) known_is e in
        let r = bind_ok (integer_needed (known ks c)) (λ _. opens a f.0 ks) (good, bad) f.2 in
        record { what = f.0; its = form_read h (item_known (Class.Frozen x)) b x T f.0 known_is f.1; opened = r.2; counted = number_seen h c r.0 r.1 }

    module _ (l : AtRead) where
      abbrev read_path : Path
      read_path = l.its.its.path

      row_read : (v : Value) → replaced (means h) l.its.its.value ≡ v → outcome constants at_of true t ≡ item_of_value a read_path index v t
      row_read v is = at_row t read_path (replaced (means h) l.its.its.value) l.its.its.path_is l.its.its.there l.counted ∙ ap (λ u. item_of_value a read_path index u t) is

      read_stands : (v : Value) → l.its.its.value ≡ v → Stands allocator w.image w.table (place_in w b) v l.its.its.blocks
      read_stands v is = subst (λ (u : Value). Stands allocator w.image w.table (place_in w b) u l.its.its.blocks) is l.its.its.stands

      read_form : l.what ≡ RegisterType.Int → form_at w.table (place_in w b).type ≡ Some Form.str
      read_form is = l.its.form_is ∙ ap Some (str_is (Class.Frozen x) l.its.form l.what l.its.is is)

      byte_row : (xs : List ℕ) → l.its.its.value ≡ Text xs → outcome constants at_of true t ≡ item_of_value a read_path index (Text xs) t
      byte_row xs is = row_read (Text xs) (ap (replaced (means h)) is ∙ text_replaced (means h) xs)

      item_row : (vs : Values) → l.its.its.value ≡ Seq vs → outcome constants at_of true t ≡ item_of_value a read_path index (Seq (replaced_each (means h) vs)) t
      item_row vs is = row_read (Seq (replaced_each (means h) vs)) (ap (replaced (means h)) is ∙ seq_replaced (means h) vs)

      none_read : a < 16 → (code : ℕ) → outcome constants at_of true t ≡ fail a out_of_range t → code ≡ answer_number out_of_range
          → (answer : Answer) × (answer ≢ success) × SeenActs others types constants first allocator at_of answer bad t w (with_number w a (pos code))
      none_read within code fails code_is =
          let g = opens_both a l.what ks good bad l.opened in (
            out_of_range,
            (λ f. cc),
            subst (λ n. SeenActs others types constants first allocator at_of out_of_range bad t w (with_number w a (pos n))) (sym code_is)
                (subst (λ k. SeenActs others types constants first allocator at_of out_of_range k t w (with_number w a (pos (answer_number out_of_range)))) (sym g.2)
                (read_code h at_of out_of_range a (λ f. cc) within g.0 fails (unchanged refl refl refl))),
          )

  byte_at_on_read : (n : ℕ) → form_at w.table (place_in w b).type ≡ Some Form.str → OfText allocator b w (IsByteAt n) → ActsOnRead allocator constants role at_of w (with_number w a (pos n))
  byte_at_on_read n str is = λ types others first ks good bad t x T right valid e h known_is.
      let l = at_read h good bad x T known_is e in
      elim (at_value t.types (Class.Frozen x) l.its.form l.its.its.value l.what l.its.is l.its.fits) [
        | inl v ↦
            let g = opens_both a RegisterType.Int ks good bad (subst (λ k. opens a k ks ≡ Ok (good, bad)) v.0 l.opened) in
            let f = is v.1.0 l.its.its.blocks str (read_stands h good bad x T known_is l (Text v.1.0) v.1.1) in
            let given = byte_row h good bad x T known_is l v.1.0 v.1.1 ∙ ap (λ (o : Option ℕ). option_map_or (λ i. give_count a (slice_index v.1.0 i) t) o (fail a out_of_range t)) f.1 ∙ ap (λ m. give_count a m t) (sym f.2)
            ∙ answer_is types constants ks t h.as_known success a (Register.Int (pos n)) g.0 in
            subst (λ k. SeenActs others types constants first allocator at_of success k t w (with_number w a (pos n))) (sym g.1)
            (read_number h at_of success a (pos n) valid.a g.0 given (unchanged refl refl (quiet constants at_of h.shows.pictured refl refl)))
        | inr v ↦ absurd (no_items l.its.form v.0 (Some_inj (sym l.its.form_is ∙ str)) v.4)
      ]

  item_at_on_read : (p T : ℕ) → form_at w.table (place_in w b).type ≢ Some Form.str → OfItems allocator b w (IsItemAt p T) → ActsOnRead allocator constants role at_of w (with_place w a (record { at = p; type = T }))
  item_at_on_read p T other is = λ types others first ks good bad t x V right valid e h known_is.
      let l = at_read h good bad x V known_is e in
      let to : Place = record { at = p; type = T } in
      elim (at_value t.types (Class.Frozen x) l.its.form l.its.its.value l.what l.its.is l.its.fits) [
        | inl v ↦ absurd (other (read_form h good bad x V known_is l v.0))
        | inr v ↦
            let g = opens_both a (RegisterType.Reference (Class.Frozen x) v.0) ks good bad (subst (λ k. opens a k ks ≡ Ok (good, bad)) v.2 l.opened) in
            let f = is l.its.form v.0 v.1 l.its.its.blocks l.its.form_is v.4 (read_stands h good bad x V known_is l (Seq v.1) v.3) in
            let there : index_below (count (replaced_each (means h) v.1)) index ≡ Some f.0 = ap (λ n. index_below n index) (count_replaced (means h) v.1) ∙ f.1 in
            let given = item_row h good bad x V known_is l v.1 v.3
            ∙ ap (λ (o : Option ℕ). option_map_or (λ i. refer a (extend (read_path h good bad x V known_is l) (Selector.item i)) t) o (fail a out_of_range t)) there in
            let leads = on_part h b x V known_is (Selector.item f.0) to f.2 in
            subst (λ k. SeenActs others types constants first allocator at_of success k t w (with_place w a to)) (sym g.1)
            (part_read h b x V known_is (item_known (Class.Frozen x)) l.what l.its at_of a (Selector.item f.0) v.0 to valid.a g.0
            (item_part l.its.form v.0 f.0 v.4) f.3 leads given (unchanged refl refl (quiet constants at_of h.shows.pictured refl refl)))
      ]

  at_refused_on_read : (code : ℕ) → OfText allocator b w (λ xs. HasNoneAt code (length xs)) → OfItems allocator b w (λ U vs. HasNoneAt code (count vs)) → IsRefusedOnRead allocator constants role at_of w (with_number w a (pos code))
  at_refused_on_read code no_byte no_item = λ types others first ks good bad t x V right valid e h known_is.
      let l = at_read h good bad x V known_is e in
      elim (at_value t.types (Class.Frozen x) l.its.form l.its.its.value l.what l.its.is l.its.fits) [
        | inl v ↦
            let f = no_byte v.1.0 l.its.its.blocks (read_form h good bad x V known_is l v.0) (read_stands h good bad x V known_is l (Text v.1.0) v.1.1) in
            none_read h good bad x V known_is l valid.a code
            (byte_row h good bad x V known_is l v.1.0 v.1.1 ∙ ap (λ (o : Option ℕ). option_map_or (λ i. give_count a (slice_index v.1.0 i) t) o (fail a out_of_range t)) f.0) f.1
        | inr v ↦
            let f = no_item l.its.form v.0 v.1 l.its.its.blocks l.its.form_is v.4 (read_stands h good bad x V known_is l (Seq v.1) v.3) in
            let none : index_below (count (replaced_each (means h) v.1)) index ≡ None = ap (λ n. index_below n index) (count_replaced (means h) v.1) ∙ f.0 in
            none_read h good bad x V known_is l valid.a code
            (item_row h good bad x V known_is l v.1 v.3 ∙ ap (λ (o : Option ℕ). option_map_or (λ i. refer a (extend (read_path h good bad x V known_is l) (Selector.item i)) t) o (fail a out_of_range t)) none) f.1
      ]

  pub byte_at_acts : (n : ℕ) → form_at w.table (place_in w b).type ≡ Some Form.str → OfText allocator b w (IsByteAt n) → ActsAs allocator constants role at_of w (with_number w a (pos n))
  unfolding sharing_rule
  byte_at_acts n str is = read_acts {i = at_of} (λ types a b c number ks. (refl, λ i. i)) (byte_at_plainly n str is) (byte_at_on_read n str is)

  pub item_at_acts : (p T : ℕ) → form_at w.table (place_in w b).type ≢ Some Form.str → OfItems allocator b w (IsItemAt p T) → ActsAs allocator constants role at_of w (with_place w a (record { at = p; type = T }))
  unfolding sharing_rule
  item_at_acts p T other is = read_acts {i = at_of} (λ types a b c number ks. (refl, λ i. i)) (item_at_plainly p T other is) (item_at_on_read p T other is)

  pub at_refused : (code : ℕ) → OfText allocator b w (λ xs. HasNoneAt code (length xs)) → OfItems allocator b w (λ U vs. HasNoneAt code (count vs)) → IsRefusedAs allocator constants role at_of w (with_number w a (pos code))
  unfolding sharing_rule
  at_refused code no_byte no_item = read_refused {i = at_of} (λ types a b c number ks. (refl, λ i. i)) (at_refused_plainly code no_byte no_item) (at_refused_on_read code no_byte no_item)
