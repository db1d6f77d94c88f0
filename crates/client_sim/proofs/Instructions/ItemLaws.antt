-- Adding and removing items of a vector or a list, and removing bytes of a text, for every state
-- that the world represents.
use Rattle.std.proofs.Common.{◌≡◌, inl, inr, ℕ, ◌+◌, ◌-◌, ◌<◌, ◌≤◌, ℤ, pos, length, List, [], ◌∷◌, ◌++◌, Bool, true, false, Option, Some, refl, sym, ◌∙◌, ap, subst, arith}
use Rattle.std.specs.Prelude.{⊤, Ok, take, slice_set, if◌then◌else◌}
use Rattle.std.specs.Option.{option_map_or}
use Rattle.seg_spec.specs.Types.{Form, Table, form_at, size}
use Rattle.seg_spec.specs.Value.{Label, Value, node, Values, nil, cons, count, nth, append, Text, Seq, default_of, Selector, selected}
use Rattle.seg_spec.specs.Items.{without_last}
use Rattle.seg_spec.specs.Index.{Root}
use Rattle.seg_spec.specs.Header.{KeepsFront, KeepsBack}
use Rattle.seg_spec.specs.Heap.{live}
use Rattle.seg_spec.specs.Frozen.{blocks_by}
use Rattle.seg_spec.specs.Shared.{names_in, names_each, named_in, freed}
use Rattle.seg_spec.specs.Clearing.{BesideShared, LosesPart}
use Rattle.seg_spec.specs.Counting.{FrozenGone}
use Rattle.seg_spec.specs.Reads.{Place, Holds, Leads, count_at}
use Rattle.seg_spec.specs.Parts.{KeepsParts}
use Rattle.seg_spec.specs.Owning.{Stands}
use Rattle.seg_spec.specs.Demand.{Ask, block_for, after_gives}
use Rattle.seg_spec.specs.Calls.{Refuses}
use Rattle.seg_spec.specs.Growing.{Succeeds}
use Rattle.seg_spec.specs.Spending.{buffer_asks, PartBlocks}
use Rattle.client_spec.specs.declared.table.Operation.{Operation}
use Rattle.client_spec.specs.declared.table.Role.{Role}
use Rattle.client_spec.specs.Syntax.{Constant, Instruction}
use Rattle.client_spec.specs.Machine.{◌>>=◌, Path, extend, Register, State, register, set_register, path_value, put_at, part_type}
use Rattle.client_spec.specs.Answer.{Answer, success, bad_alloc, null_or_none, answer_number, path_in, path_of, path_form, give, give_count, fail, refer, text_in, items_in, vec_or_list_item, list_item, with_room}
use Rattle.client_spec.specs.Effect.{outcome, effect, pop_bytes, pop_last, pop_first}
use Rattle.client_spec.specs.Shape.{HasShape, AllHaveShape}
use Rattle.client_spec.specs.Asks.{LedTo, PartGoes, PopGoes, cell_asks}
use Rattle.client_spec.specs.Ties.{spot_of, KeepsBut, Both, LosesLast, OfFrozen, OfPlace}
use Rattle.client_spec.specs.Meaning.{LeadsToType}
use Rattle.client_spec.specs.Pictures.{LeadsInImage}
use Rattle.client_spec.specs.Typed.{Class, RegisterType, RegisterTypes, Rule, known, is_owner, sharing, reference_needed, form_needed, is_str, can_pop, without_class, others_ended, opens, rule}
use Rattle.client_spec.specs.Typed as typed
use Rattle.client_spec.proofs.TypedStates.ShapeLaws.{IsOf, form_of_value, value_of_form, all_append_one, all_cons, all_tail, all_without_last}
use Rattle.client_spec.proofs.TypedStates.ValueLaws.{Some_inj}
use Rattle.client_spec.proofs.TypedStates.DefaultLaws.{default_has, part_is_entry}
use Rattle.client_spec.proofs.TypedStates.PutLaws.{has_leads, leads_extend, put_at_types}
use Rattle.client_spec.proofs.TypedStates.ClassLaws.{OneEach, known_others, agrees_others}
use Rattle.client_spec.proofs.Rows.RuleRowLaws.{bind_ok, answer_is, form_found, opens_ok, nth_below}
use Rattle.client_spec.proofs.TypedStates.ValueFormLaws.{reference_is, text_value, items_value, text_fits, popped, list_is_item, item_part, last_item}
use Rattle.client_spec.proofs.Spelling.ConstantNameLaws.{one_each}
use Rattle.client_sim.specs.Shows.{World, place_in, Shown, Shows, Acts, ChangesImage}
use Rattle.client_sim.specs.Acting.{ActsAs, IsRefusedAs, ActsPlainly}
use Rattle.client_sim.proofs.ImageChangeLaws.{kept_at_place, of_frozen, place_alone, changed_at_place, unchanged}
use Rattle.client_sim.proofs.Frozen.UnfoldedOperationLaws.{lifted_acts, lifted_refused}
use Rattle.seg_spec.proofs.Frozen.CountDecreaseLaws.{named_positions}
use Rattle.seg_spec.proofs.Frozen.PartCountLaws.{SameNames, names_same, names_then, names_cons, default_names}
use Rattle.client_sim.proofs.Places.PathPlaceLaws.{PlacePut}
use Rattle.seg_spec.proofs.Frozen.ValueCellLaws.{names_text, names_seq, front_named, back_named, last_named, count_without_last, part_value}
use Rattle.client_sim.proofs.Instructions.LengthLaws.{items_held}
use Rattle.client_sim.proofs.Places.ReferencePlaceLaws.{Led, led, touched, led_put, led_shared, led_cleared}
use Rattle.client_sim.proofs.Places.LeafPutLaws.{with_image}
use Rattle.client_sim.proofs.Instructions.NumberLaws.{with_number}
use Rattle.client_sim.proofs.EffectLaws.{with_place, leads_part, acts_so, shows_number, shows_reference, refuses_with, frame_number, frame_reference}
use Rattle.client_sim.proofs.FrameLaws.{Frame, frame_same}
use Rattle.client_sim.proofs.Places.ValueChangeLaws.{shows_changed, leads_changed, there_changed, table_changed, frame_changed}
use Rattle.client_sim.proofs.GrantLaws.{grants_asks, given_back, gives_back, denies}

module _ {others : List Root} {types : Table} {constants : List Constant} (one : OneEach constants) {first : Option (List ℕ)} {allocator : ℕ} {ks : RegisterTypes} {s : State} {w : World}
    (h : Shows others types constants first allocator ks s w) where
  -- if nothing changes, the world still represents the state after references of a class end
  pub shows_ended : (class : Class) (b : ℕ) → Shows others types constants first allocator (others_ended class b ks) s w
  shows_ended class b =
      let as_known = agrees_others types constants one class b ks s h.as_known in
      record {
        pictured = h.pictured;
        as_known = as_known;
        sixteen = sym as_known.count ∙ h.as_known.count ∙ h.sixteen;
        registers = h.registers;
        shown = λ r. elim (known_others types constants one class b ks r) [
          | inl p ↦ subst (λ k. Shown h.pictured w r k (register s r)) (sym p.1) (h.shown r)
          | inr p ↦ subst (λ k. Shown h.pictured w r k (register s r)) (sym p) (without r (known ks r) (h.shown r))
        ];
        table_is = h.table_is;
        input_is = h.input_is;
        took = h.took;
        allocator_is = h.allocator_is;
      }
    where
      choose : (t : Bool) (r : ℕ) (k : RegisterType) → Shown h.pictured w r RegisterType.Undefined (register s r) → Shown h.pictured w r k (register s r) → Shown h.pictured w r (if t then RegisterType.Undefined else k) (register s r)
      choose true r k m n = m
      choose false r k m n = n

      without : (r : ℕ) (k : RegisterType) → Shown h.pictured w r k (register s r) → Shown h.pictured w r (without_class (sharing class) k) (register s r)
      without r RegisterType.Undefined m = m
      without r RegisterType.Int m = m
      without r (RegisterType.Reference x T) m = choose _ r (RegisterType.Reference x T) m.0 m
      without r (RegisterType.Owner T) m = m

  -- the reference that an instruction tested
  pub record Reaches {A : Type 0} (f : Form → Option A) (g : Class × ℕ → A → Rule) (b : ℕ) (good bad : RegisterTypes) : Type 0 where
    pub class : Class
    pub type : ℕ
    pub known_as : known ks b ≡ RegisterType.Reference class type
    pub its : Led h b class type
    pub form : Form
    pub machine_form : form_at s.types type ≡ Some form
    pub form_is : form_at w.table (place_in w b).type ≡ Some form
    pub what : A
    pub is : f form ≡ Some what
    pub fits : IsOf s.types form its.value
    pub path_is : path_of s b ≡ Some its.path
    pub path_form_is : path_form s its.path ≡ Some form
    pub rest : g (class, type) what ≡ Ok (good, bad)

  pub reaches : {A : Type 0} (f : Form → Option A) (g : Class × ℕ → A → Rule) (b : ℕ) (good bad : RegisterTypes)
      → typed.◌>>=◌ (reference_needed (known ks b)) (λ x. typed.◌>>=◌ (form_needed f types x.1) (λ y. g x y)) ≡ Ok (good, bad) → Reaches f g b good bad
  reaches f g b good bad e =
      let p = bind_ok (reference_needed (known ks b)) (λ x. typed.◌>>=◌ (form_needed f types x.1) (λ y. g x y)) (good, bad) e in
      let q = bind_ok (form_needed f types p.0.1) (λ y. g p.0 y) (good, bad) p.2 in
      let is = reference_is (known ks b) p.0 p.1 in
      let l = led h b p.0.0 p.0.1 is in
      let k = form_found types constants ks s h.as_known f p.0.1 q.0 q.1 in
      record {
        class = p.0.0;
        type = p.0.1;
        known_as = is;
        its = l;
        form = k.0;
        machine_form = k.1;
        form_is = ap (λ (t : Table). form_at t (place_in w b).type) h.table_is ∙ ap (form_at s.types) l.type_is ∙ k.1;
        what = q.0;
        is = k.2;
        fits = form_of_value s.types p.0.1 k.0 k.1 l.value (has_leads s l.path p.0.1 h.as_known.typed (record { value = l.value; there = l.there; typed = l.typed }));
        path_is = ap path_in l.path_is;
        path_form_is = ap (λ o. o >>= form_at s.types) l.typed ∙ k.1;
        rest = q.2;
      }

  module _ {A : Type 0} {f : Form → Option A} {g : Class × ℕ → A → Rule} (i : Instruction) {good bad : RegisterTypes} (r : Reaches f g i.b good bad) where
    abbrev pub known_then : RegisterTypes
    known_then = others_ended r.class i.b ks

    pub led_to : LedTo constants i h.pictured (place_in w i.b) r.form
    led_to = record { path = r.its.path; path_is = r.path_is; stands = r.its.in_image; form_is = ap (form_at s.types) r.its.type_is ∙ r.machine_form }

    -- the bytes and the blocks of the value there
    pub place_touched : OfPlace constants i h.pictured (spot_of s.types (place_in w i.b)) r.its.found.blocks
    place_touched = touched h i.b r.class r.type r.its i r.form led_to

    -- register a gets an error code, and nothing else changes
    pub code_acts : (code : Answer) (room : Bool) (new : List ℕ) (n : ℕ) → new ≡ w.image → n ≡ answer_number code → i.a < 16 → is_owner (known known_then i.a) ≡ false
        → outcome constants i room s ≡ fail i.a code s → ChangesImage constants i h.pictured code w.image
        → Acts others types constants first allocator i code (slice_set known_then i.a RegisterType.Int) s w (with_number (with_image w new) i.a (pos n))
    unfolding shows_ended
    code_acts code room new n same n_is within free row changes =
        subst (λ m. Acts others types constants first allocator i code (slice_set known_then i.a RegisterType.Int) s w (with_number (with_image w m) i.a (pos n))) (sym same)
        (subst (λ m. Acts others types constants first allocator i code (slice_set known_then i.a RegisterType.Int) s w (with_number w i.a (pos m))) (sym n_is)
        (refuses_with others types constants first allocator known_then s w (shows_ended r.class i.b) i code room i.a within free row changes))

    -- register a gets a number, and nothing else changes
    pub kept_number : (n : ℤ) (new : List ℕ) → new ≡ w.image → i.a < 16 → is_owner (known known_then i.a) ≡ false → outcome constants i true s ≡ give i.a (Register.Int n) s → ChangesImage constants i h.pictured success w.image
        → Acts others types constants first allocator i success (slice_set known_then i.a RegisterType.Int) s w (with_number (with_image w new) i.a n)
    unfolding shows_ended
    kept_number n new same within free row changes =
        let after = shows_ended r.class i.b in
        subst (λ m. Acts others types constants first allocator i success (slice_set known_then i.a RegisterType.Int) s w (with_number (with_image w m) i.a n)) (sym same)
        (acts_so others types constants first allocator ks s w h i success true (slice_set known_then i.a RegisterType.Int) (set_register s i.a (Register.Int n)) (with_number w i.a n) (λ r o. inl o)
        (row ∙ answer_is types constants known_then s after.as_known success i.a (Register.Int n) free) changes refl refl refl (shows_number others types constants first allocator known_then s w after i.a n within free)
        (frame_number others types constants first allocator known_then s w after i.a _ _ _ (frame_same _ _ _)))

    pub kept_reference : (x : Selector) (T : ℕ) (part : Value) (target : Place) (new : List ℕ) → new ≡ w.image → i.a < 16 → is_owner (known known_then i.a) ≡ false
        → part_type x r.form ≡ Some T → selected r.its.value x ≡ Some part → target.type ≡ T → Leads w.image w.table (place_in w i.b) (x ∷ []) target
        → outcome constants i true s ≡ refer i.a (extend r.its.path x) s → ChangesImage constants i h.pictured success w.image
        → Acts others types constants first allocator i success (slice_set known_then i.a (RegisterType.Reference r.class T)) s w (with_place (with_image w new) i.a target)
    unfolding shows_ended
    kept_reference x T part target new same within free of_part is typed leads row changes =
        let after = shows_ended r.class i.b in
        let x_path = extend r.its.path x in
        let to : LeadsToType s x_path T = leads_extend s r.its.path r.type T x r.form part (record { value = r.its.value; there = r.its.there; typed = r.its.typed }) r.machine_form of_part is in
        let in_image : LeadsInImage h.pictured x_path target =
        leads_part h.pictured r.its.path x (place_in w i.b) target r.its.in_image (subst (λ (t : Table). Leads w.image t (place_in w i.b) (x ∷ []) target) (h.table_is ∙ sym h.pictured.types) leads) in
        subst (λ m. Acts others types constants first allocator i success (slice_set known_then i.a (RegisterType.Reference r.class T)) s w (with_place (with_image w m) i.a target)) (sym same)
        (acts_so others types constants first allocator ks s w h i success true (slice_set known_then i.a (RegisterType.Reference r.class T)) (set_register s i.a (Register.Reference x_path)) (with_place w i.a target) (λ r o. inl o)
        (row ∙ answer_is types constants known_then s after.as_known success i.a (Register.Reference x_path) free) changes refl refl refl
        (shows_reference others types constants first allocator known_then s w after i.a r.class T x_path target within free r.its.within to typed in_image)
        (frame_reference others types constants first allocator known_then s w after i.a _ _ _ _ _ _ _ _ _ _ (frame_same _ _ _)))

    -- the value was replaced
    module _ (v : Value) (fits : IsOf s.types r.form v) (new : List ℕ) (put : PlacePut h.pictured r.its.in_image r.its.value (put_at s r.its.path v) new) (long : length new ≡ length w.image) (front : KeepsFront w.image new) where
      abbrev state_then : State
      state_then = put_at s r.its.path v

      shape : HasShape s.types r.type v
      shape = value_of_form s.types r.type r.form v r.machine_form fits

      after : Shows others types constants first allocator known_then state_then (with_image w new)
      after = shows_changed one h i.b r.class r.type r.known_as r.its v shape new put front

      frame_after : Frame known_then w (with_image w new) h.pictured after.pictured
      unfolding after
      frame_after = frame_changed one h i.b r.class r.type r.known_as r.its v shape new put front

      -- in addition, register a gets a number
      pub number_acts : (n : ℤ) → i.a < 16 → is_owner (known known_then i.a) ≡ false → outcome constants i true s ≡ give i.a (Register.Int n) state_then → ChangesImage constants i h.pictured success new
          → Acts others types constants first allocator i success (slice_set known_then i.a RegisterType.Int) s w (with_number (with_image w new) i.a n)
      number_acts n within free row changes =
          acts_so others types constants first allocator ks s w h i success true (slice_set known_then i.a RegisterType.Int) (set_register state_then i.a (Register.Int n)) (with_number (with_image w new) i.a n) (λ r o. inl o)
          (row ∙ answer_is types constants known_then state_then after.as_known success i.a (Register.Int n) free) changes long front refl
          (shows_number others types constants first allocator known_then state_then (with_image w new) after i.a n within free)
          (frame_number others types constants first allocator known_then state_then (with_image w new) after i.a _ _ _ frame_after)

      -- in addition, register a gets a reference to a part of the new value
      pub reference_acts : (x : Selector) (T : ℕ) (part : Value) (target : Place) → i.a < 16 → is_owner (known known_then i.a) ≡ false → part_type x r.form ≡ Some T → selected v x ≡ Some part → target.type ≡ T
          → Leads new w.table (place_in w i.b) (x ∷ []) target
          → outcome constants i true s ≡ refer i.a (extend r.its.path x) state_then → ChangesImage constants i h.pictured success new
          → Acts others types constants first allocator i success (slice_set known_then i.a (RegisterType.Reference r.class T)) s w (with_place (with_image w new) i.a target)
      unfolding after
      reference_acts x T part target within free of_part is typed leads row changes =
          let x_path = extend r.its.path x in
          let t = there_changed one h i.b r.class r.type r.known_as r.its v shape new put front in
          let types_kept = put_at_types s r.its.path r.type v (record { value = r.its.value; there = r.its.there; typed = r.its.typed }) in
          let to : LeadsToType state_then x_path T = leads_extend state_then r.its.path r.type T x r.form part t.0 (ap (λ (ts : Table). form_at ts r.type) types_kept ∙ r.machine_form) of_part (ap (λ u. selected u x) t.1 ∙ is) in
          let table = table_changed one h i.b r.class r.type r.known_as r.its v shape new put front in
          let in_image : LeadsInImage after.pictured x_path target =
          leads_part after.pictured r.its.path x (place_in w i.b) target (leads_changed one h i.b r.class r.type r.known_as r.its v shape new put front)
          (subst (λ (t : Table). Leads new t (place_in w i.b) (x ∷ []) target) (sym table) leads) in
          acts_so others types constants first allocator ks s w h i success true (slice_set known_then i.a (RegisterType.Reference r.class T)) (set_register state_then i.a (Register.Reference x_path))
          (with_place (with_image w new) i.a target) (λ r o. inl o)
          (row ∙ answer_is types constants known_then state_then after.as_known success i.a (Register.Reference x_path) free) changes long front refl
          (shows_reference others types constants first allocator known_then state_then (with_image w new) after i.a r.class T x_path target within free r.its.within to typed in_image)
          (frame_reference others types constants first allocator known_then state_then (with_image w new) after i.a _ _ _ _ _ _ _ _ _ _ frame_after)

    -- a part was removed, and the place has the rest
    pub record PartLost (v : Value) (j : ℕ) (new : List ℕ) : Type 0 where
      pub put : PlacePut h.pictured r.its.in_image r.its.value (put_at s r.its.path v) new
      pub long : length new ≡ length w.image
      pub front : KeepsFront w.image new
      pub back : KeepsBack w.image new
      pub own : List ℕ
      pub touches : Both (OfPlace constants i h.pictured (spot_of s.types (place_in w i.b))) (OfFrozen h.pictured) own
      pub kept : KeepsBut w.image new (spot_of s.types (place_in w i.b)) own
      pub its : List ℕ
      pub holds_then : Holds new w.table (place_in w i.b) v its
      pub parts : KeepsParts w.image new s.types (place_in w i.b) j 1 0
      pub gives : List ℕ
      pub goes : PartGoes constants i h.pictured (place_in w i.b) j gives
      pub left_is : live new ≡ after_gives (live w.image) gives

    pub part_lost : (label : Label) (vs : Values) (v : Value) (j : ℕ) (part : Value) (new : List ℕ) → r.its.value ≡ node label vs → nth vs j ≡ Some part → SameNames (names_in (node label vs)) (names_in part ++ names_in v)
        → (stands : Stands allocator w.image w.table (place_in w i.b) (node label vs) r.its.found.blocks)
        → BesideShared w.image w.table (stands.home ∷ r.its.found.blocks) (named_in part) (LosesPart w.image new w.table (place_in w i.b) v j r.its.found.blocks) → PartLost v j new
    part_lost label vs v j part new is there same stands loses =
        let gone = names_in part in
        let frozen = h.pictured.picture.frozen in
        let shared = led_shared h i.b r.class r.type r.its (node label vs) is gone (names_in v) (named_in part) same (named_positions part)
        {claim = LosesPart w.image new w.table (place_in w i.b) v j r.its.found.blocks} stands loses in
        let l = shared.claimed in
        let c = l.clears in
        let given = blocks_by shared.theirs (freed gone frozen) in
        let whole : SameNames (names_in r.its.value) (gone ++ names_in v) = names_then (names_same (ap names_in is)) same in
        let part_is : part ≡ l.part.value = part_value w.image w.table (place_in w i.b) j l.lost l.part label vs r.its.found.blocks stands.holds_it part there in
        record {
          put = led_cleared h i.b r.class r.type r.its new v gone whole shared.theirs shared.holds l.others c;
          long = c.changes.length_kept;
          front = c.changes.front_kept;
          back = c.changes.back_kept;
          own = r.its.found.blocks ++ blocks_by shared.theirs frozen;
          touches = (r.its.found.blocks, blocks_by shared.theirs frozen, place_touched, of_frozen h.pictured shared.theirs shared.holds, refl);
          kept = kept_at_place s.types h.table_is c.changes;
          its = l.others;
          holds_then = c.changes.holds_it;
          parts = subst (λ (t : Table). KeepsParts w.image new t (place_in w i.b) j 1 0) h.table_is l.parts;
          gives = l.lost ++ given;
          goes = part_goes l.lost l.part given (subst (λ x. FrozenGone w.image h.pictured.picture (names_in x) given) part_is (record { theirs = shared.theirs; holds = shared.holds; blocks_are = refl }));
          left_is = given_back gone frozen l.lost l.blocks_are c;
        }
      where
        part_goes : (own : List ℕ) (part : PartBlocks w.image w.table (place_in w i.b) j own) (given : List ℕ) → FrozenGone w.image h.pictured.picture (names_in part.value) given
            → PartGoes constants i h.pictured (place_in w i.b) j (own ++ given)
        part_goes own part given gone =
            let on_table = subst (λ (t : Table). (p : PartBlocks w.image t (place_in w i.b) j own) × FrozenGone w.image h.pictured.picture (names_in p.value) given) h.table_is (part, gone) in
            record { own = own; part = on_table.0; gives_are = (given, on_table.1, refl) }

-- what an opener's rule has tested, if it also ends the references of a class
module _ {others : List Root} {types : Table} {constants : List Constant} (one : OneEach constants) {first : Option (List ℕ)} {allocator : ℕ} {ks : RegisterTypes} {s : State} {w : World}
    (h : Shows others types constants first allocator ks s w) (class : Class) (b a : ℕ) where
  pub opens_then : (k : RegisterType) (good bad : RegisterTypes) → opens a k (others_ended class b ks) ≡ Ok (good, bad)
      → (is_owner (known (others_ended class b ks) a) ≡ false) × (good ≡ slice_set (others_ended class b ks) a k) × (bad ≡ slice_set (others_ended class b ks) a RegisterType.Int)
  opens_then k good bad e = opens_ok types constants (others_ended class b ks) s (agrees_others types constants one class b ks s h.as_known) a k good bad e

module _ {others : List Root} {types : Table} {constants : List Constant} (one : OneEach constants) {first : Option (List ℕ)} {allocator : ℕ} {ks : RegisterTypes} {s : State} {w : World}
    (h : Shows others types constants first allocator ks s w) where
  -- the item of a vector or list is what a pop destroys
  pub part_goes : (i : Instruction) (k : Form) (U : ℕ) (place : Place) (j : ℕ) (gives : List ℕ) → vec_or_list_item k ≡ Some U → PartGoes constants i h.pictured place j gives → PopGoes constants i h.pictured place k j gives
  part_goes i (Form.vec V) U place j gives e p = p
  part_goes i (Form.list V) U place j gives e p = p
  part_goes i k U place j gives e p = cc

  last_lost : (i : Instruction) (k : Form) (U : ℕ) (place : Place) (new : List ℕ) → vec_or_list_item k ≡ Some U → KeepsParts w.image new s.types place (count_at w.image place.at - 1) 1 0 → LosesLast constants i h.pictured new place k
  last_lost i (Form.vec V) U place new e p = p
  last_lost i (Form.list V) U place new e p = p
  last_lost i k U place new e p = cc

-- ---- pops

str_is : (k : Form) (u : ⊤) → is_str k ≡ Some u → k ≡ Form.str
str_is Form.str u e = refl
str_is k u e = cc

list_is : (k : Form) (U : ℕ) → list_item k ≡ Some U → k ≡ Form.list U
list_is (Form.list V) U e = ap Form.list (Some_inj e)
list_is k U e = cc

bytes_popped : (a : ℕ) (p : Path) (xs : List ℕ) (s : State) → 1 ≤ length xs → pop_bytes a p xs s ≡ give_count a (length xs - 1) (put_at s p (Text (take (length xs - 1) xs)))
bytes_popped a p [] s some = absurd (omega (arith, some))
bytes_popped a p (x ∷ xs) s some = let e : length xs ≡ length (x ∷ xs) - 1 = omega arith in ap (λ n. give_count a n (put_at s p (Text (take n (x ∷ xs))))) e

last_popped : (a : ℕ) (p : Path) (vs : Values) (s : State) → 1 ≤ count vs → pop_last a p vs s ≡ give_count a (count vs - 1) (put_at s p (Seq (without_last vs)))
last_popped a p nil s some = absurd (omega (arith, some))
last_popped a p (cons v vs) s some = let e : count vs ≡ count (cons v vs) - 1 = omega arith in ap (λ n. give_count a n (put_at s p (Seq (without_last (cons v vs))))) e

no_bytes : (a : ℕ) (p : Path) (xs : List ℕ) (s : State) → length xs ≡ 0 → pop_bytes a p xs s ≡ fail a null_or_none s
no_bytes a p [] s none = refl
no_bytes a p (x ∷ xs) s none = absurd (omega (arith, none))

no_last : (a : ℕ) (p : Path) (vs : Values) (s : State) → count vs ≡ 0 → pop_last a p vs s ≡ fail a null_or_none s
no_last a p nil s none = refl
no_last a p (cons v vs) s none = absurd (omega (arith, none))

no_first : (a : ℕ) (p : Path) (vs : Values) (s : State) → count vs ≡ 0 → pop_first a p vs s ≡ fail a null_or_none s
no_first a p nil s none = refl
no_first a p (cons v vs) s none = absurd (omega (arith, none))

-- POPF has this row at a list
front_row : (constants : List Constant) (a b c : ℕ) (number : ℤ) (room : Bool) (s : State) (path : Path) (form : Form) (U : ℕ) (vs : Values) → path_of s b ≡ Some path → path_form s path ≡ Some form → list_item form ≡ Some U
    → (path_value s path >>= items_in) ≡ Some vs → effect constants Operation.PopFront a b c number room s ≡ pop_first a path vs s
unfolding effect
front_row constants a b c number room s path form U vs is form_is item there =
    ap (λ x. x >>= λ p. (path_form s p >>= list_item) >>= λ _. (path_value s p >>= items_in) >>= λ vs. pop_first a p vs s) is
    ∙ ap (λ x. x >>= λ _. (path_value s path >>= items_in) >>= λ vs. pop_first a path vs s) (ap (λ x. x >>= list_item) form_is ∙ item)
    ∙ ap (λ x. x >>= λ vs. pop_first a path vs s) there

-- PUSHB and PUSHF have these rows
back_row : (constants : List Constant) (a b c : ℕ) (number : ℤ) (room : Bool) (s : State) (path : Path) (form : Form) (U : ℕ) (vs : Values) → path_of s b ≡ Some path → path_form s path ≡ Some form → vec_or_list_item form ≡ Some U
    → (path_value s path >>= items_in) ≡ Some vs
    → effect constants Operation.PushBack a b c number room s ≡ with_room room a s (refer a (extend path (Selector.item (count vs))) (put_at s path (Seq (append vs (cons (default_of s.types U) nil)))))
unfolding effect
back_row constants a b c number room s path form U vs is form_is item there =
    let last = λ (p : Path) (t : ℕ) (vs : Values). with_room room a s (refer a (extend p (Selector.item (count vs))) (put_at s p (Seq (append vs (cons (default_of s.types t) nil))))) in
    ap (λ x. x >>= λ p. (path_form s p >>= vec_or_list_item) >>= λ t. (path_value s p >>= items_in) >>= λ vs. last p t vs) is
    ∙ ap (λ x. x >>= λ t. (path_value s path >>= items_in) >>= λ vs. last path t vs) (ap (λ x. x >>= vec_or_list_item) form_is ∙ item)
    ∙ ap (λ x. x >>= λ vs. last path U vs) there

pushed_row : (constants : List Constant) (a b c : ℕ) (number : ℤ) (room : Bool) (s : State) (path : Path) (form : Form) (U : ℕ) (vs : Values) → path_of s b ≡ Some path → path_form s path ≡ Some form → list_item form ≡ Some U
    → (path_value s path >>= items_in) ≡ Some vs
    → effect constants Operation.PushFront a b c number room s ≡ with_room room a s (refer a (extend path (Selector.item 0)) (put_at s path (Seq (cons (default_of s.types U) vs))))
unfolding effect
pushed_row constants a b c number room s path form U vs is form_is item there =
    let last = λ (p : Path) (t : ℕ) (vs : Values). with_room room a s (refer a (extend p (Selector.item 0)) (put_at s p (Seq (cons (default_of s.types t) vs)))) in
    ap (λ x. x >>= λ p. (path_form s p >>= list_item) >>= λ t. (path_value s p >>= items_in) >>= λ vs. last p t vs) is
    ∙ ap (λ x. x >>= λ t. (path_value s path >>= items_in) >>= λ vs. last path t vs) (ap (λ x. x >>= list_item) form_is ∙ item)
    ∙ ap (λ x. x >>= λ vs. last path U vs) there

-- the type is a vector or a list of values of a type
abbrev pub HoldsItems : Table → ℕ → ℕ → Type 0
HoldsItems table T U = (form : Form) × (form_at table T ≡ Some form) × (vec_or_list_item form ≡ Some U)

-- the last byte of a text was removed, and n bytes remain
pub record PopsByte (allocator : ℕ) (old new : List ℕ) (table : Table) (place : Place) (xs blocks : List ℕ) (n : ℕ) : Type 0 where
  pub some : 1 ≤ length xs
  pub n_is : n ≡ length xs - 1
  pub others : List ℕ
  pub succeeds : Succeeds allocator old new table place (Text (take (length xs - 1) xs)) [] [] blocks others

-- a default item was added as item j, at position p
pub record PushesItem (allocator : ℕ) (old new : List ℕ) (table : Table) (place : Place) (U : ℕ) (more : Values) (blocks : List ℕ) (asks : List Ask) (j p : ℕ) : Type 0 where
  pub others : List ℕ
  pub succeeds : Succeeds allocator old new table place (Seq more) asks [] blocks others
  pub parts : KeepsParts old new table place j 0 1
  pub leads : Leads new table place (Selector.item j ∷ []) (record { at = p; type = U })

-- item j of a place in the block `home` was removed, and n others remain, whatever frozen objects
-- there are
pub record PopsItem (old new : List ℕ) (table : Table) (place : Place) (vs left : Values) (home : ℕ) (blocks : List ℕ) (j n : ℕ) : Type 0 where
  pub some : 1 ≤ count vs
  pub n_is : n ≡ count_at new place.at
  pub loses : (v : Value) → nth vs j ≡ Some v → BesideShared old table (home ∷ blocks) (named_in v) (LosesPart old new table place (Seq left) j blocks)

module _ (allocator : ℕ) (constants : List Constant) (role : Role) (a b c : ℕ) (number : ℤ) (w : World) where
  abbrev of : Operation → Instruction
  of operation = record { operation = operation; a = a; b = b; c = c; number = number }

  abbrev place : Place
  place = place_in w b

  -- a claim about each text at the place, and one about all items there
  abbrev pub EachText : (List ℕ → List ℕ → Type 0) → Type 0
  EachText claim = (xs blocks : List ℕ) → form_at w.table place.type ≡ Some Form.str → Stands allocator w.image w.table place (Text xs) blocks → claim xs blocks

  abbrev pub EachItems : (ℕ → Values → List ℕ → Type 0) → Type 0
  EachItems claim = (U : ℕ) (vs : Values) (blocks : List ℕ) → HoldsItems w.table place.type U → Stands allocator w.image w.table place (Seq vs) blocks → claim U vs blocks

  -- a claim about each list at the place
  abbrev pub EachList : (ℕ → Values → List ℕ → Type 0) → Type 0
  EachList claim = (U : ℕ) (vs : Values) (blocks : List ℕ) → form_at w.table place.type ≡ Some (Form.list U) → Stands allocator w.image w.table place (Seq vs) blocks → claim U vs blocks

  pop_back_plainly : (new : List ℕ) (n : ℕ) → EachText (λ xs blocks. PopsByte allocator w.image new w.table place xs blocks n)
      → ((U : ℕ) (vs : Values) (blocks : List ℕ) → HoldsItems w.table place.type U → (stands : Stands allocator w.image w.table place (Seq vs) blocks)
      → PopsItem w.image new w.table place vs (without_last vs) stands.home blocks (count vs - 1) n)
      → ActsPlainly allocator constants role (of Operation.PopBack) w (with_number (with_image w new) a (pos n))
  unfolding rule effect
  pop_back_plainly new n text items = λ types others first ks good bad s right valid e h.
      let one = one_each constants right.each right.different in
      let i = of Operation.PopBack in
      let g = λ (x : Class × ℕ) (u : ⊤). opens a RegisterType.Int (others_ended x.0 b ks) in
      let r = reaches one h can_pop g b good bad e in
      let o = opens_then one h r.class b a RegisterType.Int good bad r.rest in
      let f = λ (v : Value). option_map_or (λ bytes. pop_bytes a r.its.path bytes s) (text_in v) (items_in v >>= λ vs. pop_last a r.its.path vs s) in
      let row : outcome constants i true s ≡ f r.its.value =
      ap (λ x. x >>= λ p. path_value s p >>= λ v. option_map_or (λ bytes. pop_bytes a p bytes s) (text_in v) (items_in v >>= λ vs. pop_last a p vs s)) r.path_is ∙ ap (λ x. x >>= f) r.its.there in
      subst (λ k. Acts others types constants first allocator i success k s w (with_number (with_image w new) a (pos n))) (sym o.1) (elim (popped r.form r.what r.is) [
        | inl is ↦
            let v = text_value s.types r.form r.its.value tt is r.fits in
            let same = str_is r.form tt is in
            let stands = subst (λ u. Stands allocator w.image w.table place u r.its.found.blocks) v.1 r.its.stands in
            let p = text v.0 r.its.found.blocks (r.form_is ∙ ap Some same) stands in
            let new_text = take (length v.0 - 1) v.0 in
            let is_row = row ∙ ap f v.1 ∙ bytes_popped a r.its.path v.0 s p.some ∙ ap (λ m. give_count a m (put_at s r.its.path (Text new_text))) (sym p.n_is) in
            number_acts one h i r (Text new_text) (text_fits s.types r.form tt new_text is) new
            (led_put h b r.class r.type r.its new (Text new_text) p.others (names_same (ap names_in v.1 ∙ names_text v.0 ∙ sym (names_text new_text))) p.succeeds.changes) p.succeeds.changes.length_kept p.succeeds.changes.front_kept
            (pos n) valid.a o.0 is_row
            (let alone = place_alone h.pictured (place_touched one h i r) (kept_at_place s.types h.table_is p.succeeds.changes) in
            changed_at_place p.succeeds.changes.back_kept refl refl (inr (place, r.form, led_to one h i r, subst (LosesLast constants i h.pictured new place) (sym same) tt)) tt (λ u later. tt)
            (record { spot = spot_of s.types place; own = alone.0; touches = alone.1; kept = alone.2 })
            (grants_asks constants i h.pictured allocator h.allocator_is [] refl new w.table place (Text new_text) [] r.its.found.blocks p.others
            (place, r.form, led_to one h i r, subst (λ k. PopGoes constants i h.pictured place k (count_at w.image place.at - 1) []) (sym same) refl) p.succeeds))
        | inr is ↦
            let v = items_value s.types r.form r.its.value is.0 is.1 r.fits in
            let stands = subst (λ u. Stands allocator w.image w.table place u r.its.found.blocks) v.1 r.its.stands in
            let p = items is.0 v.0 r.its.found.blocks (r.form, r.form_is, is.1) stands in
            let left = without_last v.0 in
            let item = nth_below v.0 (count v.0 - 1) (let some = p.some in omega arith) in
            let t = part_lost one h i r Label.seq v.0 (Seq left) (count v.0 - 1) item.0 new v.1 item.1
            (names_then (names_same (names_seq v.0)) (names_then (last_named v.0 item.0 (count v.0 - 1) refl item.1) (names_same (ap (λ xs. names_in item.0 ++ xs) (sym (names_seq left)))))) stands (p.loses item.0 item.1) in
            let n_is : count v.0 - 1 ≡ n = sym (count_without_last v.0) ∙ items_held new w.table place r.form is.0 left t.its r.form_is is.1 t.holds_then ∙ sym p.n_is in
            let at : count v.0 - 1 ≡ count_at w.image place.at - 1 = ap (λ k. k - 1) (items_held w.image w.table place r.form is.0 v.0 r.its.found.blocks r.form_is is.1 stands.holds_it) in
            let is_row = row ∙ ap f v.1 ∙ last_popped a r.its.path v.0 s p.some ∙ ap (λ m. give_count a m (put_at s r.its.path (Seq left))) n_is in
            number_acts one h i r (Seq left) (v.3 left (all_without_last s.types is.0 v.0 v.2)) new t.put t.long t.front (pos n) valid.a o.0 is_row
            (changed_at_place t.back refl refl (inr (place, r.form, led_to one h i r, last_lost one h i r.form is.0 place new is.1 (subst (λ n. KeepsParts w.image new s.types place n 1 0) at t.parts))) tt (λ u later. tt)
            (record { spot = spot_of s.types place; own = t.own; touches = t.touches; kept = t.kept }) (gives_back constants i h.pictured new refl t.gives
            (place, r.form, led_to one h i r, part_goes one h i r.form is.0 place (count_at w.image place.at - 1) t.gives is.1 (subst (λ k. PartGoes constants i h.pictured place k t.gives) at t.goes)) t.left_is))
      ])

  pub pop_back_acts : (new : List ℕ) (n : ℕ) → EachText (λ xs blocks. PopsByte allocator w.image new w.table place xs blocks n)
      → ((U : ℕ) (vs : Values) (blocks : List ℕ) → HoldsItems w.table place.type U → (stands : Stands allocator w.image w.table place (Seq vs) blocks)
      → PopsItem w.image new w.table place vs (without_last vs) stands.home blocks (count vs - 1) n)
      → ActsAs allocator constants role (of Operation.PopBack) w (with_number (with_image w new) a (pos n))
  pop_back_acts new n text items = lifted_acts refl (pop_back_plainly new n text items)

  -- POPB fails on an empty text, vector or list
  pub pop_back_refused : (new : List ℕ) (n : ℕ) → EachText (λ xs blocks. (length xs ≡ 0) × (new ≡ w.image) × (n ≡ 6)) → EachItems (λ U vs blocks. (count vs ≡ 0) × (new ≡ w.image) × (n ≡ 6))
      → IsRefusedAs allocator constants role (of Operation.PopBack) w (with_number (with_image w new) a (pos n))
  unfolding rule effect
  pop_back_refused new n text items = lifted_refused refl (λ types others first ks good bad s right valid e h.
      let one = one_each constants right.each right.different in
      let i = of Operation.PopBack in
      let g = λ (x : Class × ℕ) (u : ⊤). opens a RegisterType.Int (others_ended x.0 b ks) in
      let r = reaches one h can_pop g b good bad e in
      let o = opens_then one h r.class b a RegisterType.Int good bad r.rest in
      let f = λ (v : Value). option_map_or (λ bytes. pop_bytes a r.its.path bytes s) (text_in v) (items_in v >>= λ vs. pop_last a r.its.path vs s) in
      let row : outcome constants i true s ≡ f r.its.value =
      ap (λ x. x >>= λ p. path_value s p >>= λ v. option_map_or (λ bytes. pop_bytes a p bytes s) (text_in v) (items_in v >>= λ vs. pop_last a p vs s)) r.path_is ∙ ap (λ x. x >>= f) r.its.there in
      let fails : (f r.its.value ≡ fail a null_or_none s) × (new ≡ w.image) × (n ≡ 6) = elim (popped r.form r.what r.is) [
        | inl is ↦
            let v = text_value s.types r.form r.its.value tt is r.fits in
            let none = text v.0 r.its.found.blocks (r.form_is ∙ ap Some (str_is r.form tt is)) (subst (λ u. Stands allocator w.image w.table place u r.its.found.blocks) v.1 r.its.stands) in
            (ap f v.1 ∙ no_bytes a r.its.path v.0 s none.0, none.1, none.2)
        | inr is ↦
            let v = items_value s.types r.form r.its.value is.0 is.1 r.fits in
            let none = items is.0 v.0 r.its.found.blocks (r.form, r.form_is, is.1) (subst (λ u. Stands allocator w.image w.table place u r.its.found.blocks) v.1 r.its.stands) in
            (ap f v.1 ∙ no_last a r.its.path v.0 s none.0, none.1, none.2)
      ] in (
        null_or_none,
        (λ q. cc),
        subst (λ k. Acts others types constants first allocator i null_or_none k s w (with_number (with_image w new) a (pos n))) (sym o.2)
            (code_acts one h i r null_or_none true new n fails.1 fails.2 valid.a o.0 (row ∙ fails.0) (unchanged refl refl refl)),
      ))

  -- POPF removes the first item
  pub pop_front_acts : (new : List ℕ) (n : ℕ) → ((U : ℕ) (vs : Values) (blocks : List ℕ) → form_at w.table place.type ≡ Some (Form.list U) → (stands : Stands allocator w.image w.table place (Seq vs) blocks)
      → (v : Value) × (ws : Values) × (vs ≡ cons v ws) × PopsItem w.image new w.table place vs ws stands.home blocks 0 n)
      → ActsAs allocator constants role (of Operation.PopFront) w (with_number (with_image w new) a (pos n))
  unfolding rule effect
  pop_front_acts new n items = lifted_acts refl (λ types others first ks good bad s right valid e h.
      let one = one_each constants right.each right.different in
      let i = of Operation.PopFront in
      let g = λ (x : Class × ℕ) (t : ℕ). opens a RegisterType.Int (others_ended x.0 b ks) in
      let r = reaches one h list_item g b good bad e in
      let o = opens_then one h r.class b a RegisterType.Int good bad r.rest in
      let is = list_is_item r.form r.what r.is in
      let v = items_value s.types r.form r.its.value r.what is r.fits in
      let stands = subst (λ u. Stands allocator w.image w.table place u r.its.found.blocks) v.1 r.its.stands in
      let q = items r.what v.0 r.its.found.blocks (r.form_is ∙ ap Some (list_is r.form r.what r.is)) stands in
      let left : Values = q.1 in
      let p = q.3 in
      let there : nth v.0 0 ≡ Some q.0 = ap (λ vs. nth vs 0) q.2 in
      let t = part_lost one h i r Label.seq v.0 (Seq left) 0 q.0 new v.1 there
      (names_then (names_same (names_seq v.0 ∙ ap names_each q.2 ∙ names_cons q.0 left)) (names_same (ap (λ xs. names_in q.0 ++ xs) (sym (names_seq left))))) stands (p.loses q.0 there) in
      let n_is : count left ≡ n = items_held new w.table place r.form r.what left t.its r.form_is is t.holds_then ∙ sym p.n_is in
      let fits = v.3 left (all_tail s.types r.what q.0 left (subst (AllHaveShape s.types r.what) q.2 v.2)) in
      let row : outcome constants i true s ≡ give_count a n (put_at s r.its.path (Seq left)) =
      front_row constants a b c number true s r.its.path r.form r.what v.0 r.path_is r.path_form_is r.is (ap (λ x. x >>= items_in) r.its.there ∙ ap items_in v.1)
      ∙ ap (λ vs. pop_first a r.its.path vs s) q.2 ∙ ap (λ m. give_count a m (put_at s r.its.path (Seq left))) n_is in
      subst (λ k. Acts others types constants first allocator i success k s w (with_number (with_image w new) a (pos n))) (sym o.1)
      (number_acts one h i r (Seq left) fits new t.put t.long t.front (pos n) valid.a o.0 row
      (changed_at_place t.back refl refl (inr (place, r.form, led_to one h i r, t.parts)) tt (λ u later. tt)
      (record { spot = spot_of s.types place; own = t.own; touches = t.touches; kept = t.kept }) (gives_back constants i h.pictured new refl t.gives
      (place, r.form, led_to one h i r, part_goes one h i r.form r.what place 0 t.gives is t.goes) t.left_is))))

  pub pop_front_refused : (new : List ℕ) (n : ℕ) → EachList (λ U vs blocks. (count vs ≡ 0) × (new ≡ w.image) × (n ≡ 6)) → IsRefusedAs allocator constants role (of Operation.PopFront) w (with_number (with_image w new) a (pos n))
  unfolding rule effect
  pop_front_refused new n items = lifted_refused refl (λ types others first ks good bad s right valid e h.
      let one = one_each constants right.each right.different in
      let i = of Operation.PopFront in
      let g = λ (x : Class × ℕ) (t : ℕ). opens a RegisterType.Int (others_ended x.0 b ks) in
      let r = reaches one h list_item g b good bad e in
      let o = opens_then one h r.class b a RegisterType.Int good bad r.rest in
      let is = list_is_item r.form r.what r.is in
      let v = items_value s.types r.form r.its.value r.what is r.fits in
      let none = items r.what v.0 r.its.found.blocks (r.form_is ∙ ap Some (list_is r.form r.what r.is)) (subst (λ u. Stands allocator w.image w.table place u r.its.found.blocks) v.1 r.its.stands) in
      let row = front_row constants a b c number true s r.its.path r.form r.what v.0 r.path_is r.path_form_is r.is (ap (λ x. x >>= items_in) r.its.there ∙ ap items_in v.1) ∙ no_first a r.its.path v.0 s none.0 in (
        null_or_none,
        (λ q. cc),
        subst (λ k. Acts others types constants first allocator i null_or_none k s w (with_number (with_image w new) a (pos n))) (sym o.2)
            (code_acts one h i r null_or_none true new n none.1 none.2 valid.a o.0 row (unchanged refl refl refl)),
      ))

  -- the requests for one more item
  abbrev pub item_asks : Form → ℕ → List Ask
  item_asks (Form.vec V) U = buffer_asks w.image place.at (size w.table U) (count_at w.image place.at + 1)
  item_asks form U = block_for (8 + size w.table U) ∷ []

  -- a claim about each vector or list at the place
  abbrev pub EachForm : (Form → ℕ → Values → List ℕ → Type 0) → Type 0
  EachForm claim =
      (form : Form) (U : ℕ) (vs : Values) (blocks : List ℕ) → form_at w.table place.type ≡ Some form → vec_or_list_item form ≡ Some U → Stands allocator w.image w.table place (Seq vs) blocks → claim form U vs blocks

  module _ {others : List Root} {types : Table} {first : Option (List ℕ)} {ks : RegisterTypes} {s : State} (h : Shows others types constants first allocator ks s w) where
    back_asks : (k : Form) (U : ℕ) → vec_or_list_item k ≡ Some U → item_asks k U ≡ cell_asks Operation.PushBack constants (of Operation.PushBack) s w.image place.at k
    back_asks (Form.vec V) U e = ap (λ (t : Table). buffer_asks w.image place.at (size t U) (count_at w.image place.at + 1)) h.table_is
        ∙ ap (λ n. buffer_asks w.image place.at (size s.types n) (count_at w.image place.at + 1)) (sym (Some_inj e))
    back_asks (Form.list V) U e = ap (λ (t : Table). block_for (8 + size t U) ∷ []) h.table_is ∙ ap (λ n. block_for (8 + size s.types n) ∷ []) (sym (Some_inj e))
    back_asks k U e = cc

    front_asks : (k : Form) (U : ℕ) → list_item k ≡ Some U → block_for (8 + size w.table U) ∷ [] ≡ cell_asks Operation.PushFront constants (of Operation.PushFront) s w.image place.at k
    front_asks (Form.list V) U e = ap (λ (t : Table). block_for (8 + size t U) ∷ []) h.table_is ∙ ap (λ n. block_for (8 + size s.types n) ∷ []) (sym (Some_inj e))
    front_asks k U e = cc

    -- the default of a part's type is of that type
    default_fits : (t u : ℕ) (k : Form) (x : Selector) → form_at s.types t ≡ Some k → part_type x k ≡ Some u → HasShape s.types u (default_of s.types u)
    default_fits t u k x e f = let l = part_is_entry s.types h.as_known.typed.forms t u k x e f in default_has s.types h.as_known.typed.forms u l.0 l.1

  -- PUSHB adds a default item at the back
  pub push_back_acts : (new : List ℕ) (p T : ℕ) → EachForm (λ form U vs blocks. (U ≡ T) × PushesItem allocator w.image new w.table place U (append vs (cons (default_of w.table U) nil)) blocks (item_asks form U) (count vs) p)
      → ActsAs allocator constants role (of Operation.PushBack) w (with_place (with_image w new) a (record { at = p; type = T }))
  unfolding rule effect
  push_back_acts new p T items = lifted_acts refl (λ types others first ks good bad s right valid e h.
      let one = one_each constants right.each right.different in
      let i = of Operation.PushBack in
      let g = λ (x : Class × ℕ) (t : ℕ). opens a (RegisterType.Reference x.0 t) (others_ended x.0 b ks) in
      let r = reaches one h vec_or_list_item g b good bad e in
      let o = opens_then one h r.class b a (RegisterType.Reference r.class r.what) good bad r.rest in
      let v = items_value s.types r.form r.its.value r.what r.is r.fits in
      let q = items r.form r.what v.0 r.its.found.blocks r.form_is r.is (subst (λ u. Stands allocator w.image w.table place u r.its.found.blocks) v.1 r.its.stands) in
      let d = default_of s.types r.what in
      let more = append v.0 (cons d nil) in
      let x = Selector.item (count v.0) in
      let pushed = subst (λ (t : Table). PushesItem allocator w.image new w.table place r.what (append v.0 (cons (default_of t r.what) nil)) r.its.found.blocks (item_asks r.form r.what) (count v.0) p) h.table_is q.1 in
      let row = back_row constants a b c number true s r.its.path r.form r.what v.0 r.path_is r.path_form_is r.is (ap (λ x. x >>= items_in) r.its.there ∙ ap items_in v.1) in
      let target : Place = record { at = p; type = r.what } in
      let counted : count v.0 ≡ count_at w.image place.at = items_held w.image w.table place r.form r.what v.0 r.its.found.blocks r.form_is r.is (subst (λ u. Holds w.image w.table place u r.its.found.blocks) v.1 r.its.stands.holds_it) in
      let parts = subst (λ n. KeepsParts w.image new s.types place n 0 1) counted (subst (λ (t : Table). KeepsParts w.image new t place (count v.0) 0 1) h.table_is pushed.parts) in
      subst (λ k. Acts others types constants first allocator i success k s w (with_place (with_image w new) a (record { at = p; type = T }))) (sym o.1)
      (subst (λ n. Acts others types constants first allocator i success (slice_set (others_ended r.class b ks) a (RegisterType.Reference r.class r.what)) s w (with_place (with_image w new) a (record { at = p; type = n }))) q.0
      (reference_acts one h i r (Seq more) (v.3 more (all_append_one s.types r.what v.0 d v.2 (default_fits h r.type r.what r.form (Selector.item 0) r.machine_form (item_part r.form r.what 0 r.is)))) new
      (led_put h b r.class r.type r.its new (Seq more) pushed.others
      (names_same (ap names_in v.1 ∙ names_seq v.0 ∙ sym (back_named v.0 d (default_names s.types r.what)) ∙ sym (names_seq more))) pushed.succeeds.changes)
      pushed.succeeds.changes.length_kept pushed.succeeds.changes.front_kept x r.what d target valid.a o.0 (item_part r.form r.what (count v.0) r.is) (last_item v.0 d) refl pushed.leads row
      (changed_at_place pushed.succeeds.changes.back_kept refl refl (inr (place, r.form, led_to one h i r, parts)) tt (λ u later. tt)
      (record { spot = spot_of s.types place; own = r.its.found.blocks; touches = place_touched one h i r; kept = kept_at_place s.types h.table_is pushed.succeeds.changes })
      (grants_asks constants i h.pictured allocator h.allocator_is (item_asks r.form r.what) (place, r.form, led_to one h i r, back_asks h r.form r.what r.is) new w.table place (Seq more) [] r.its.found.blocks pushed.others
      refl pushed.succeeds)))))

  -- PUSHB fails if there is no room
  pub push_back_refused : (new : List ℕ) (n : ℕ) → EachForm (λ form U vs blocks. (n ≡ 2) × Refuses allocator w.image new (item_asks form U))
      → IsRefusedAs allocator constants role (of Operation.PushBack) w (with_number (with_image w new) a (pos n))
  unfolding rule effect
  push_back_refused new n items = lifted_refused refl (λ types others first ks good bad s right valid e h.
      let one = one_each constants right.each right.different in
      let i = of Operation.PushBack in
      let g = λ (x : Class × ℕ) (t : ℕ). opens a (RegisterType.Reference x.0 t) (others_ended x.0 b ks) in
      let r = reaches one h vec_or_list_item g b good bad e in
      let o = opens_then one h r.class b a (RegisterType.Reference r.class r.what) good bad r.rest in
      let v = items_value s.types r.form r.its.value r.what r.is r.fits in
      let q = items r.form r.what v.0 r.its.found.blocks r.form_is r.is (subst (λ u. Stands allocator w.image w.table place u r.its.found.blocks) v.1 r.its.stands) in
      let row = back_row constants a b c number false s r.its.path r.form r.what v.0 r.path_is r.path_form_is r.is (ap (λ x. x >>= items_in) r.its.there ∙ ap items_in v.1) in
      let here = subst (λ m. Refuses allocator w.image m (item_asks r.form r.what)) q.1.same q.1 in (
        bad_alloc,
        (λ q. cc),
        subst (λ k. Acts others types constants first allocator i bad_alloc k s w (with_number (with_image w new) a (pos n))) (sym o.2)
            (code_acts one h i r bad_alloc false new n q.1.same q.0 valid.a o.0 row
            (unchanged refl refl (denies constants i h.pictured allocator h.allocator_is (item_asks r.form r.what) (place, r.form, led_to one h i r, back_asks h r.form r.what r.is) w.image here))),
      ))

  -- PUSHF adds a default item at the front
  pub push_front_acts : (new : List ℕ) (p T : ℕ) → EachList (λ U vs blocks. (U ≡ T) × PushesItem allocator w.image new w.table place U (cons (default_of w.table U) vs) blocks (block_for (8 + size w.table U) ∷ []) 0 p)
      → ActsAs allocator constants role (of Operation.PushFront) w (with_place (with_image w new) a (record { at = p; type = T }))
  unfolding rule effect
  push_front_acts new p T items = lifted_acts refl (λ types others first ks good bad s right valid e h.
      let one = one_each constants right.each right.different in
      let i = of Operation.PushFront in
      let g = λ (x : Class × ℕ) (t : ℕ). opens a (RegisterType.Reference x.0 t) (others_ended x.0 b ks) in
      let r = reaches one h list_item g b good bad e in
      let o = opens_then one h r.class b a (RegisterType.Reference r.class r.what) good bad r.rest in
      let is = list_is_item r.form r.what r.is in
      let v = items_value s.types r.form r.its.value r.what is r.fits in
      let q = items r.what v.0 r.its.found.blocks (r.form_is ∙ ap Some (list_is r.form r.what r.is)) (subst (λ u. Stands allocator w.image w.table place u r.its.found.blocks) v.1 r.its.stands) in
      let d = default_of s.types r.what in
      let more = cons d v.0 in
      let asks = block_for (8 + size w.table r.what) ∷ [] in
      let pushed = subst (λ (t : Table). PushesItem allocator w.image new w.table place r.what (cons (default_of t r.what) v.0) r.its.found.blocks asks 0 p) h.table_is q.1 in
      let row = pushed_row constants a b c number true s r.its.path r.form r.what v.0 r.path_is r.path_form_is r.is (ap (λ x. x >>= items_in) r.its.there ∙ ap items_in v.1) in
      let target : Place = record { at = p; type = r.what } in
      let part = item_part r.form r.what 0 is in
      subst (λ k. Acts others types constants first allocator i success k s w (with_place (with_image w new) a (record { at = p; type = T }))) (sym o.1)
      (subst (λ n. Acts others types constants first allocator i success (slice_set (others_ended r.class b ks) a (RegisterType.Reference r.class r.what)) s w (with_place (with_image w new) a (record { at = p; type = n }))) q.0
      (reference_acts one h i r (Seq more) (v.3 more (all_cons s.types r.what d v.0 (default_fits h r.type r.what r.form (Selector.item 0) r.machine_form part) v.2)) new
      (led_put h b r.class r.type r.its new (Seq more) pushed.others
      (names_same (ap names_in v.1 ∙ names_seq v.0 ∙ sym (front_named d v.0 (default_names s.types r.what)) ∙ sym (names_seq more))) pushed.succeeds.changes)
      pushed.succeeds.changes.length_kept pushed.succeeds.changes.front_kept (Selector.item 0) r.what d target valid.a o.0 part refl refl pushed.leads row
      (changed_at_place pushed.succeeds.changes.back_kept refl refl (inr (place, r.form, led_to one h i r, subst (λ (t : Table). KeepsParts w.image new t place 0 0 1) h.table_is pushed.parts)) tt (λ u later. tt)
      (record { spot = spot_of s.types place; own = r.its.found.blocks; touches = place_touched one h i r; kept = kept_at_place s.types h.table_is pushed.succeeds.changes })
      (grants_asks constants i h.pictured allocator h.allocator_is asks (place, r.form, led_to one h i r, front_asks h r.form r.what r.is) new w.table place (Seq more) [] r.its.found.blocks pushed.others
      refl pushed.succeeds)))))

  pub push_front_refused : (new : List ℕ) (n : ℕ) → EachList (λ U vs blocks. (n ≡ 2) × Refuses allocator w.image new (block_for (8 + size w.table U) ∷ []))
      → IsRefusedAs allocator constants role (of Operation.PushFront) w (with_number (with_image w new) a (pos n))
  unfolding rule effect
  push_front_refused new n items = lifted_refused refl (λ types others first ks good bad s right valid e h.
      let one = one_each constants right.each right.different in
      let i = of Operation.PushFront in
      let g = λ (x : Class × ℕ) (t : ℕ). opens a (RegisterType.Reference x.0 t) (others_ended x.0 b ks) in
      let r = reaches one h list_item g b good bad e in
      let o = opens_then one h r.class b a (RegisterType.Reference r.class r.what) good bad r.rest in
      let v = items_value s.types r.form r.its.value r.what (list_is_item r.form r.what r.is) r.fits in
      let q = items r.what v.0 r.its.found.blocks (r.form_is ∙ ap Some (list_is r.form r.what r.is)) (subst (λ u. Stands allocator w.image w.table place u r.its.found.blocks) v.1 r.its.stands) in
      let row = pushed_row constants a b c number false s r.its.path r.form r.what v.0 r.path_is r.path_form_is r.is (ap (λ x. x >>= items_in) r.its.there ∙ ap items_in v.1) in
      let asks = block_for (8 + size w.table r.what) ∷ [] in
      let here = subst (λ m. Refuses allocator w.image m asks) q.1.same q.1 in (
        bad_alloc,
        (λ q. cc),
        subst (λ k. Acts others types constants first allocator i bad_alloc k s w (with_number (with_image w new) a (pos n))) (sym o.2)
            (code_acts one h i r bad_alloc false new n q.1.same q.0 valid.a o.0 row
            (unchanged refl refl (denies constants i h.pictured allocator h.allocator_is asks (place, r.form, led_to one h i r, front_asks h r.form r.what r.is) w.image here))),
      ))
