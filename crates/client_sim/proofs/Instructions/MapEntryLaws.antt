-- Adding and removing keys of a map, for every state that the world represents.
use Rattle.std.proofs.Common.{◌≡◌, ℕ, suc, inr, ◌+◌, ◌<◌, ℤ, pos, length, List, [], ◌∷◌, ◌++◌, Bool, true, false, Option, Some, None, refl, sym, ◌∙◌, ap, subst, arith}
use Rattle.std.specs.Prelude.{⊤, take, drop, insert, remove, slice_set}
use Rattle.std.specs.Option.{option_map_or}
use Rattle.seg_spec.specs.Types.{Form, Table, form_at, size}
use Rattle.seg_spec.specs.Value.{Label, Value, Values, count, nth, Map, default_of, Selector, selected}
use Rattle.seg_spec.specs.Items.{keys_below, key_place, insert_nth, remove_nth, with_entry, without_entry}
use Rattle.seg_spec.specs.Index.{Root}
use Rattle.seg_spec.specs.Reads.{Place, Leads, count_at, map_words}
use Rattle.seg_spec.specs.Parts.{KeepsParts}
use Rattle.seg_spec.specs.Owning.{Stands}
use Rattle.seg_spec.specs.Demand.{Ask, block_for}
use Rattle.seg_spec.specs.Calls.{Refuses}
use Rattle.seg_spec.specs.Growing.{Succeeds}
use Rattle.seg_spec.specs.Spending.{buffer_asks}
use Rattle.seg_spec.specs.Shared.{names_in, named_in}
use Rattle.seg_spec.specs.Clearing.{BesideShared, LosesPart}
use Rattle.seg_spec.proofs.Frozen.PartCountLaws.{names_same, names_then, default_names}
use Rattle.client_spec.specs.declared.table.Operation.{Operation}
use Rattle.client_spec.specs.declared.table.Role.{Role}
use Rattle.client_spec.specs.Syntax.{Constant, Instruction}
use Rattle.client_spec.specs.Machine.{◌>>=◌, Path, extend, State, path_value, put_at}
use Rattle.client_spec.specs.Answer.{success, bad_alloc, path_of, path_form, integer_at, give_count, refer, entries_in, map_value, with_room}
use Rattle.client_spec.specs.Effect.{effect, truth}
use Rattle.client_spec.specs.Shape.{HasShape, AllHaveShape}
use Rattle.client_spec.specs.Ties.{spot_of}
use Rattle.client_spec.specs.Asks.{KeyGoes, cell_asks, found_key, new_index, if_absent}
use Rattle.client_spec.specs.Typed.{Class, RegisterType, RegisterTypes, Rule, known, is_owner, integer_needed, is_map, others_ended, gives, opens, rule}
use Rattle.client_spec.specs.Typed as typed
use Rattle.client_spec.proofs.TypedStates.ValueLaws.{Some_inj}
use Rattle.client_spec.proofs.TypedStates.ShapeLaws.{IsOf, all_insert, all_remove}
use Rattle.client_spec.proofs.TypedStates.DefaultLaws.{default_has, part_is_entry}
use Rattle.client_spec.proofs.TypedStates.ClassLaws.{OneEach}
use Rattle.client_spec.proofs.Rows.RuleRowLaws.{bind_ok, nth_below}
use Rattle.client_spec.proofs.TypedStates.ValueFormLaws.{entries_value, place_below, map_has_value, key_part, key_in, value_at_key, count_insert, length_insert, remove_length}
use Rattle.client_spec.proofs.Spelling.ConstantNameLaws.{one_each}
use Rattle.client_sim.specs.Shows.{World, number_in, place_in, Shows, Acts}
use Rattle.client_sim.specs.Acting.{ActsAs, IsRefusedAs}
use Rattle.client_sim.proofs.ImageChangeLaws.{kept_at_place, changed_at_place, unchanged}
use Rattle.client_sim.proofs.Frozen.UnfoldedOperationLaws.{lifted_acts, lifted_refused}
use Rattle.client_sim.proofs.Places.LeafPutLaws.{with_image}
use Rattle.client_sim.proofs.Instructions.NumberLaws.{with_number, quiet, gives_both, number_shown}
use Rattle.client_sim.proofs.EffectLaws.{with_place}
use Rattle.client_sim.proofs.GrantLaws.{grants_asks, gives_back, denies}
use Rattle.client_sim.proofs.Places.ReferencePlaceLaws.{led_put}
use Rattle.seg_spec.proofs.Frozen.ValueCellLaws.{names_map, insert_named, remove_named}
use Rattle.client_sim.proofs.Instructions.ItemLaws.{Reaches, reaches, led_to, code_acts, kept_number, kept_reference, part_lost, number_acts, reference_acts, opens_then, place_touched}

-- DELK and PUTK have these rows
delete_row : (constants : List Constant) (a b c : ℕ) (number : ℤ) (room : Bool) (s : State) (path : Path) (key : ℤ) (keys : List ℤ) (vs : Values) → path_of s b ≡ Some path → integer_at s c ≡ Some key
    → (path_value s path >>= entries_in) ≡ Some (keys, vs)
    → effect constants Operation.DeleteKey a b c number room s ≡ option_map_or (λ i. give_count a 1 (put_at s path (without_entry (keys, vs) i))) (key_place keys key) (give_count a 0 s)
unfolding effect
delete_row constants a b c number room s path key keys vs is key_is there =
    let last = λ (p : Path) (k : ℤ) (es : List ℤ × Values). option_map_or (λ i. give_count a 1 (put_at s p (without_entry es i))) (key_place es.0 k) (give_count a 0 s) in
    ap (λ x. x >>= λ p. integer_at s c >>= λ k. (path_value s p >>= entries_in) >>= λ es. last p k es) is
    ∙ ap (λ x. x >>= λ k. (path_value s path >>= entries_in) >>= λ es. last path k es) key_is
    ∙ ap (λ x. x >>= λ es. last path key es) there

put_row : (constants : List Constant) (a b c : ℕ) (number : ℤ) (room : Bool) (s : State) (path : Path) (form : Form) (U : ℕ) (key : ℤ) (keys : List ℤ) (vs : Values) → path_of s b ≡ Some path → integer_at s c ≡ Some key
    → path_form s path ≡ Some form → map_value form ≡ Some U → (path_value s path >>= entries_in) ≡ Some (keys, vs)
    → effect constants Operation.PutKey a b c number room s
    ≡ option_map_or (λ _. refer a (extend path (Selector.key key)) s) (key_place keys key) (with_room room a s (refer a (extend path (Selector.key key)) (put_at s path (with_entry (keys, vs) key (default_of s.types U)))))
unfolding effect
put_row constants a b c number room s path form U key keys vs is key_is form_is value there =
    let last = λ (p : Path) (k : ℤ) (t : ℕ) (es : List ℤ × Values). option_map_or (λ _. refer a (extend p (Selector.key k)) s) (key_place es.0 k)
    (with_room room a s (refer a (extend p (Selector.key k)) (put_at s p (with_entry es k (default_of s.types t))))) in
    ap (λ x. x >>= λ p. integer_at s c >>= λ k. (path_form s p >>= map_value) >>= λ t. (path_value s p >>= entries_in) >>= λ es. last p k t es) is
    ∙ ap (λ x. x >>= λ k. (path_form s path >>= map_value) >>= λ t. (path_value s path >>= entries_in) >>= λ es. last path k t es) key_is
    ∙ ap (λ x. x >>= λ t. (path_value s path >>= entries_in) >>= λ es. last path key t es) (ap (λ x. x >>= map_value) form_is ∙ value)
    ∙ ap (λ x. x >>= λ es. last path key U es) there

found_is : (i : Instruction) (s : State) (path : Path) (key : ℤ) (keys : List ℤ) (vs : Values) → path_of s i.b ≡ Some path → integer_at s i.c ≡ Some key → (path_value s path >>= entries_in) ≡ Some (keys, vs)
    → found_key i s ≡ key_place keys key
found_is i s path key keys vs is key_is there =
    ap (λ x. x >>= λ p. integer_at s i.c >>= λ k. (path_value s p >>= entries_in) >>= λ es. key_place es.0 k) is
    ∙ ap (λ x. x >>= λ k. (path_value s path >>= entries_in) >>= λ es. key_place es.0 k) key_is
    ∙ ap (λ x. x >>= λ es. key_place es.0 key) there

index_is : (i : Instruction) (s : State) (path : Path) (key : ℤ) (keys : List ℤ) (vs : Values) → path_of s i.b ≡ Some path → integer_at s i.c ≡ Some key → (path_value s path >>= entries_in) ≡ Some (keys, vs)
    → new_index i s ≡ Some (keys_below keys key)
index_is i s path key keys vs is key_is there =
    ap (λ x. x >>= λ p. integer_at s i.c >>= λ k. (path_value s p >>= entries_in) >>= λ es. Some (keys_below es.0 k)) is
    ∙ ap (λ x. x >>= λ k. (path_value s path >>= entries_in) >>= λ es. Some (keys_below es.0 k)) key_is
    ∙ ap (λ x. x >>= λ es. Some (keys_below es.0 key)) there

module _ (allocator : ℕ) (constants : List Constant) (role : Role) (a b c : ℕ) (number : ℤ) (w : World) where
  abbrev of : Operation → Instruction
  of operation = record { operation = operation; a = a; b = b; c = c; number = number }

  abbrev place : Place
  place = place_in w b

  abbrev key : ℤ
  key = number_in w c

  -- for each map at the place
  abbrev pub EachMap : (Form → ℕ → List ℤ → Values → List ℕ → Type 0) → Type 0
  EachMap claim = (form : Form) (U : ℕ) (keys : List ℤ) (vs : Values) (blocks : List ℕ) → form_at w.table place.type ≡ Some form → map_value form ≡ Some U
      → Stands allocator w.image w.table place (Map keys vs) blocks → claim form U keys vs blocks

  -- ---- a key is removed

  -- A map in the block `home` after DELK, by the position of the key: the key is removed, and its
  -- value is destroyed, whatever frozen objects there are.
  abbrev pub Deletes : List ℕ → Bool → List ℤ → Values → ℕ → List ℕ → Option ℕ → Type 0
  Deletes new gone keys vs home blocks None = (gone ≡ false) × (new ≡ w.image)
  Deletes new gone keys vs home blocks (Some j) =
      (gone ≡ true) × ((v : Value) → nth vs j ≡ Some v → BesideShared w.image w.table (home ∷ blocks) (named_in v) (LosesPart w.image new w.table place (without_entry (keys, vs) j) j blocks))

  module _ {others : List Root} {types : Table} (one : OneEach constants) {first : Option (List ℕ)} {ks : RegisterTypes} {s : State} (h : Shows others types constants first allocator ks s w)
      {g : Class × ℕ → ⊤ → Rule} {good bad : RegisterTypes} (r : Reaches one h is_map g b good bad) (U : ℕ) (keys : List ℤ) (vs : Values)
      (value_is : r.its.value ≡ Map keys vs) (all : AllHaveShape s.types U vs) (long : length keys ≡ count vs) (fits : (ks : List ℤ) (ws : Values) → AllHaveShape s.types U ws → length ks ≡ count ws → IsOf s.types r.form (Map ks ws))
      (key_is : integer_at s c ≡ Some key) (within : a < 16) (free : is_owner (known (others_ended r.class b ks) a) ≡ false) where
    there : (path_value s r.its.path >>= entries_in) ≡ Some (keys, vs)
    there = ap (λ x. x >>= entries_in) r.its.there ∙ ap entries_in value_is

    row : (o : Option ℕ) → key_place keys key ≡ o → effect constants Operation.DeleteKey a b c number true s ≡ option_map_or (λ i. give_count a 1 (put_at s r.its.path (without_entry (keys, vs) i))) o (give_count a 0 s)
    row o e = delete_row constants a b c number true s r.its.path key keys vs r.path_is key_is there
        ∙ ap (λ x. option_map_or (λ i. give_count a 1 (put_at s r.its.path (without_entry (keys, vs) i))) x (give_count a 0 s)) e

    goes_by : (o : Option ℕ) → key_place keys key ≡ o → (given : List ℕ) → KeyGoes constants (of Operation.DeleteKey) h.pictured place o given
        → KeyGoes constants (of Operation.DeleteKey) h.pictured place (found_key (of Operation.DeleteKey) s) given
    goes_by o e given k = subst (λ x. KeyGoes constants (of Operation.DeleteKey) h.pictured place x given) (sym (found_is (of Operation.DeleteKey) s r.its.path key keys vs r.path_is key_is there ∙ e)) k

    deleted : (new : List ℕ) (gone : Bool) (o : Option ℕ) → key_place keys key ≡ o → (stands : Stands allocator w.image w.table place (Map keys vs) r.its.found.blocks) → Deletes new gone keys vs stands.home r.its.found.blocks o
        → Acts others types constants first allocator (of Operation.DeleteKey) success (slice_set (others_ended r.class b ks) a RegisterType.Int) s w (with_number (with_image w new) a (truth gone))
    deleted new gone None e stands d =
        let i = of Operation.DeleteKey in
        subst (λ t. Acts others types constants first allocator i success (slice_set (others_ended r.class b ks) a RegisterType.Int) s w (with_number (with_image w new) a (truth t))) (sym d.0)
        (kept_number one h i r (pos 0) new d.1 within free (row None e) (unchanged refl refl (quiet constants i h.pictured refl (place, r.form, led_to one h i r, goes_by None e [] refl))))
    deleted new gone (Some j) e stands d =
        let i = of Operation.DeleteKey in
        let later = without_entry (keys, vs) j in
        let item = nth_below vs j (let below = place_below keys key j e in omega (arith, long, below)) in
        let t = part_lost one h i r (Label.map keys) vs later j item.0 new value_is item.1
        (names_then (names_same (names_map keys vs)) (names_then (remove_named vs j item.0 item.1) (names_same (ap (λ xs. names_in item.0 ++ xs) (sym (names_map (remove keys j) (remove_nth vs j))))))) stands (d.1 item.0 item.1) in
        subst (λ t. Acts others types constants first allocator i success (slice_set (others_ended r.class b ks) a RegisterType.Int) s w (with_number (with_image w new) a (truth t))) (sym d.0)
        (number_acts one h i r later (fits (remove keys j) (remove_nth vs j) (all_remove s.types U vs j all) (remove_length keys vs j long)) new t.put t.long t.front (pos 1) within free (row (Some j) e)
        (changed_at_place t.back refl refl (
          λ none. absurd (let some : None ≡ Some j = sym none ∙ found_is i s r.its.path key keys vs r.path_is key_is there ∙ e in cc),
          inr (place, r.form, led_to one h i r, (j, found_is i s r.its.path key keys vs r.path_is key_is there ∙ e, t.parts)),
        ) tt (λ u later. tt) (record {
          spot = spot_of s.types place;
          own = t.own;
          touches = t.touches;
          kept = t.kept;
        }) (gives_back constants i h.pictured new refl t.gives (place, r.form, led_to one h i r, goes_by (Some j) e t.gives t.goes) t.left_is)))

  pub delete_key_acts : (new : List ℕ) (gone : Bool) → ((form : Form) (U : ℕ) (keys : List ℤ) (vs : Values) (blocks : List ℕ) → form_at w.table place.type ≡ Some form → map_value form ≡ Some U
      → (stands : Stands allocator w.image w.table place (Map keys vs) blocks) → length keys ≡ count vs → Deletes new gone keys vs stands.home blocks (key_place keys key))
      → ActsAs allocator constants role (of Operation.DeleteKey) w (with_number (with_image w new) a (truth gone))
  unfolding rule
  delete_key_acts new gone maps = lifted_acts refl (λ types others first ks good bad s right valid e h.
      let one = one_each constants right.each right.different in
      let i = of Operation.DeleteKey in
      let g = λ (x : Class × ℕ) (u : ⊤). typed.◌>>=◌ (integer_needed (known ks c)) (λ _. gives a RegisterType.Int (others_ended x.0 b ks)) in
      let r = reaches one h is_map g b good bad e in
      let q = bind_ok (integer_needed (known ks c)) (λ _. gives a RegisterType.Int (others_ended r.class b ks)) (good, bad) r.rest in
      let o = gives_both a RegisterType.Int (others_ended r.class b ks) good bad q.2 in
      let t = map_has_value r.form r.what r.is in
      let v = entries_value s.types r.form r.its.value t.0 t.1 r.fits in
      let stands = subst (λ u. Stands allocator w.image w.table place u r.its.found.blocks) v.2 r.its.stands in
      let d = maps r.form t.0 v.0 v.1 r.its.found.blocks r.form_is t.1 stands v.4 in
      subst (λ k. Acts others types constants first allocator i success k s w (with_number (with_image w new) a (truth gone))) (sym o.1)
      (deleted one h r t.0 v.0 v.1 v.2 v.3 v.4 v.5 (number_shown others types constants first allocator ks s w h c q.0 q.1) valid.a o.0 new gone (key_place v.0 key) refl stands d))

  -- ---- a key is added

  -- the requests for one more key
  abbrev pub entry_asks : Form → ℕ → List Ask
  entry_asks (Form.flat_map V) U = buffer_asks w.image place.at (8 + size w.table U) (count_at w.image place.at + 1)
  entry_asks form U = block_for (map_words + size w.table U) ∷ []

  -- a key was added, with the default value at position p
  pub record AddsEntry (new : List ℕ) (form : Form) (U : ℕ) (keys : List ℤ) (vs : Values) (blocks : List ℕ) (p : ℕ) : Type 0 where
    pub others : List ℕ
    pub succeeds : Succeeds allocator w.image new w.table place (with_entry (keys, vs) key (default_of w.table U)) (entry_asks form U) [] blocks others
    pub parts : KeepsParts w.image new w.table place (keys_below keys key) 0 1
    pub leads : Leads new w.table place (Selector.key key ∷ []) (record { at = p; type = U })

  form_asks : {others : List Root} {types : Table} {first : Option (List ℕ)} {ks : RegisterTypes} {s : State} (h : Shows others types constants first allocator ks s w) (o : Option ℕ) → found_key (of Operation.PutKey) s ≡ o
      → (form : Form) (U : ℕ) → map_value form ≡ Some U → if_absent o (entry_asks form U) ≡ cell_asks Operation.PutKey constants (of Operation.PutKey) s w.image place.at form
  form_asks {s = s} h o e (Form.flat_map V) U f =
      ap (λ (t : Table). if_absent o (buffer_asks w.image place.at (8 + size t U) (count_at w.image place.at + 1))) h.table_is
      ∙ ap (λ n. if_absent o (buffer_asks w.image place.at (8 + size s.types n) (count_at w.image place.at + 1))) (sym (Some_inj f))
      ∙ ap (λ y. if_absent y (buffer_asks w.image place.at (8 + size s.types V) (count_at w.image place.at + 1))) (sym e)
  form_asks {s = s} h o e (Form.map V) U f =
      ap (λ (t : Table). if_absent o (block_for (map_words + size t U) ∷ [])) h.table_is ∙ ap (λ n. if_absent o (block_for (map_words + size s.types n) ∷ [])) (sym (Some_inj f))
      ∙ ap (λ y. if_absent y (block_for (map_words + size s.types V) ∷ [])) (sym e)
  form_asks h o e form U f = cc

  -- what PUTK leaves of a map, by the position of the key
  abbrev pub Puts : List ℕ → Form → ℕ → List ℤ → Values → List ℕ → ℕ → Option ℕ → Type 0
  Puts new form U keys vs blocks p None = AddsEntry new form U keys vs blocks p
  Puts new form U keys vs blocks p (Some j) = (new ≡ w.image) × Leads w.image w.table place (Selector.key key ∷ []) (record { at = p; type = U })

  module _ {others : List Root} {types : Table} (one : OneEach constants) {first : Option (List ℕ)} {ks : RegisterTypes} {s : State} (h : Shows others types constants first allocator ks s w)
      {g : Class × ℕ → ℕ → Rule} {good bad : RegisterTypes} (r : Reaches one h map_value g b good bad) (keys : List ℤ) (vs : Values)
      (value_is : r.its.value ≡ Map keys vs) (all : AllHaveShape s.types r.what vs) (long : length keys ≡ count vs)
      (fits : (ks : List ℤ) (ws : Values) → AllHaveShape s.types r.what ws → length ks ≡ count ws → IsOf s.types r.form (Map ks ws))
      (key_is : integer_at s c ≡ Some key) (within : a < 16) (free : is_owner (known (others_ended r.class b ks) a) ≡ false) where
    there_put : (path_value s r.its.path >>= entries_in) ≡ Some (keys, vs)
    there_put = ap (λ x. x >>= entries_in) r.its.there ∙ ap entries_in value_is

    -- PUTK has these requests, by the position of the key
    asks_by : (o : Option ℕ) → key_place keys key ≡ o → if_absent o (entry_asks r.form r.what) ≡ cell_asks Operation.PutKey constants (of Operation.PutKey) s w.image place.at r.form
    asks_by o e = form_asks h o (found_is (of Operation.PutKey) s r.its.path key keys vs r.path_is key_is there_put ∙ e) r.form r.what r.is

    put_is : (room : Bool) (o : Option ℕ) → key_place keys key ≡ o → effect constants Operation.PutKey a b c number room s
        ≡ option_map_or (λ _. refer a (extend r.its.path (Selector.key key)) s) o (with_room room a s (refer a (extend r.its.path (Selector.key key)) (put_at s r.its.path (with_entry (keys, vs) key (default_of s.types r.what)))))
    put_is room o e = put_row constants a b c number room s r.its.path r.form r.what key keys vs r.path_is key_is r.path_form_is r.is there_put
        ∙ ap (λ y. option_map_or (λ _. refer a (extend r.its.path (Selector.key key)) s) y
        (with_room room a s (refer a (extend r.its.path (Selector.key key)) (put_at s r.its.path (with_entry (keys, vs) key (default_of s.types r.what)))))) e

    put_by : (new : List ℕ) (p : ℕ) (o : Option ℕ) → key_place keys key ≡ o → Puts new r.form r.what keys vs r.its.found.blocks p o
        → Acts others types constants first allocator (of Operation.PutKey) success (slice_set (others_ended r.class b ks) a (RegisterType.Reference r.class r.what)) s w (with_place (with_image w new) a (record { at = p; type = r.what }))
    put_by new p (Some j) e d =
        let i = of Operation.PutKey in
        let part = value_at_key keys vs key j long e in
        kept_reference one h i r (Selector.key key) r.what part.0 (record { at = p; type = r.what }) new d.0 within free (key_part r.form r.what key r.is) (ap (λ u. selected u (Selector.key key)) value_is ∙ part.1) refl d.1
        (put_is true (Some j) e) (unchanged refl refl (quiet constants i h.pictured (place, r.form, led_to one h i r, asks_by (Some j) e) refl))
    put_by new p None e d =
        let i = of Operation.PutKey in
        let m = keys_below keys key in
        let v = default_of s.types r.what in
        let entry = part_is_entry s.types h.as_known.typed.forms r.type r.what r.form (Selector.key key) r.machine_form (key_part r.form r.what key r.is) in
        let v_fits : HasShape s.types r.what v = default_has s.types h.as_known.typed.forms r.what entry.0 entry.1 in
        let new_keys = insert keys m key in
        let new_items = insert_nth vs m v in
        let new_length : length new_keys ≡ count new_items = length_insert keys m key ∙ ap suc long ∙ sym (count_insert vs m v) in
        let later = Map new_keys new_items in
        let j = key_in (take m keys) (drop m keys) key in
        let part = value_at_key new_keys new_items key j.0 new_length j.1 in
        let succeeds : Succeeds allocator w.image new w.table place later (entry_asks r.form r.what) [] r.its.found.blocks d.others =
        subst (λ (t : Table). Succeeds allocator w.image new w.table place (with_entry (keys, vs) key (default_of t r.what)) (entry_asks r.form r.what) [] r.its.found.blocks d.others) h.table_is d.succeeds in
        reference_acts one h i r later (fits new_keys new_items (all_insert s.types r.what vs m v all v_fits) new_length) new
        (led_put h b r.class r.type r.its new later d.others
        (names_same (ap names_in value_is ∙ names_map keys vs ∙ sym (insert_named vs m v (default_names s.types r.what)) ∙ sym (names_map new_keys new_items))) succeeds.changes) succeeds.changes.length_kept succeeds.changes.front_kept
        (Selector.key key) r.what part.0 (record { at = p; type = r.what }) within free (key_part r.form r.what key r.is) part.1 refl d.leads (put_is true None e)
        (changed_at_place succeeds.changes.back_kept refl refl (
          λ j some. absurd (let none : Some j ≡ None = sym some ∙ found_is i s r.its.path key keys vs r.path_is key_is there_put ∙ e in cc),
          inr (place, r.form, led_to one h i r, (m, index_is i s r.its.path key keys vs r.path_is key_is there_put, subst (λ (t : Table). KeepsParts w.image new t place m 0 1) h.table_is d.parts)),
        ) tt (λ u later. tt)
        (record { spot = spot_of s.types place; own = r.its.found.blocks; touches = place_touched one h i r; kept = kept_at_place s.types h.table_is succeeds.changes })
        (grants_asks constants i h.pictured allocator h.allocator_is (entry_asks r.form r.what) (place, r.form, led_to one h i r, asks_by None e) new w.table place later [] r.its.found.blocks d.others refl succeeds))

    put_denied : (new : List ℕ) (n : ℕ) → n ≡ 2 → key_place keys key ≡ None → Refuses allocator w.image new (entry_asks r.form r.what)
        → Acts others types constants first allocator (of Operation.PutKey) bad_alloc (slice_set (others_ended r.class b ks) a RegisterType.Int) s w (with_number (with_image w new) a (pos n))
    put_denied new n n_is e d =
        let i = of Operation.PutKey in
        code_acts one h i r bad_alloc false new n d.same n_is within free (put_is false None e)
        (unchanged refl refl (denies constants i h.pictured allocator h.allocator_is (entry_asks r.form r.what) (place, r.form, led_to one h i r, asks_by None e) w.image
        (subst (λ m. Refuses allocator w.image m (entry_asks r.form r.what)) d.same d)))

  pub put_key_acts : (new : List ℕ) (p T : ℕ) → EachMap (λ form U keys vs blocks. (U ≡ T) × Puts new form U keys vs blocks p (key_place keys key))
      → ActsAs allocator constants role (of Operation.PutKey) w (with_place (with_image w new) a (record { at = p; type = T }))
  unfolding rule
  put_key_acts new p T maps = lifted_acts refl (λ types others first ks good bad s right valid e h.
      let one = one_each constants right.each right.different in
      let i = of Operation.PutKey in
      let g = λ (x : Class × ℕ) (t : ℕ). typed.◌>>=◌ (integer_needed (known ks c)) (λ _. opens a (RegisterType.Reference x.0 t) (others_ended x.0 b ks)) in
      let r = reaches one h map_value g b good bad e in
      let q = bind_ok (integer_needed (known ks c)) (λ _. opens a (RegisterType.Reference r.class r.what) (others_ended r.class b ks)) (good, bad) r.rest in
      let o = opens_then one h r.class b a (RegisterType.Reference r.class r.what) good bad q.2 in
      let v = entries_value s.types r.form r.its.value r.what r.is r.fits in
      let d = maps r.form r.what v.0 v.1 r.its.found.blocks r.form_is r.is (subst (λ u. Stands allocator w.image w.table place u r.its.found.blocks) v.2 r.its.stands) in
      subst (λ k. Acts others types constants first allocator i success k s w (with_place (with_image w new) a (record { at = p; type = T }))) (sym o.1)
      (subst (λ n. Acts others types constants first allocator i success (slice_set (others_ended r.class b ks) a (RegisterType.Reference r.class r.what)) s w (with_place (with_image w new) a (record { at = p; type = n }))) d.0
      (put_by one h r v.0 v.1 v.2 v.3 v.4 v.5 (number_shown others types constants first allocator ks s w h c q.0 q.1) valid.a o.0 new p (key_place v.0 key) refl d.1)))

  pub put_key_refused : (new : List ℕ) (n : ℕ) → EachMap (λ form U keys vs blocks. (n ≡ 2) × (key_place keys key ≡ None) × Refuses allocator w.image new (entry_asks form U))
      → IsRefusedAs allocator constants role (of Operation.PutKey) w (with_number (with_image w new) a (pos n))
  unfolding rule
  put_key_refused new n maps = lifted_refused refl (λ types others first ks good bad s right valid e h.
      let one = one_each constants right.each right.different in
      let i = of Operation.PutKey in
      let g = λ (x : Class × ℕ) (t : ℕ). typed.◌>>=◌ (integer_needed (known ks c)) (λ _. opens a (RegisterType.Reference x.0 t) (others_ended x.0 b ks)) in
      let r = reaches one h map_value g b good bad e in
      let q = bind_ok (integer_needed (known ks c)) (λ _. opens a (RegisterType.Reference r.class r.what) (others_ended r.class b ks)) (good, bad) r.rest in
      let o = opens_then one h r.class b a (RegisterType.Reference r.class r.what) good bad q.2 in
      let v = entries_value s.types r.form r.its.value r.what r.is r.fits in
      let d = maps r.form r.what v.0 v.1 r.its.found.blocks r.form_is r.is (subst (λ u. Stands allocator w.image w.table place u r.its.found.blocks) v.2 r.its.stands) in
      let number = number_shown others types constants first allocator ks s w h c q.0 q.1 in (
        bad_alloc,
        (λ q. cc),
        subst (λ k. Acts others types constants first allocator i bad_alloc k s w (with_number (with_image w new) a (pos n))) (sym o.2)
            (put_denied one h r v.0 v.1 v.2 v.3 v.4 v.5 number valid.a o.0 new n d.0 d.1 d.2),
      ))
