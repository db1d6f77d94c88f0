-- UMAKE, UFINDOR and UKILL: the unique object of a type is made, found or destroyed.
use Rattle.std.proofs.Common.{◌≡◌, ℕ, ◌<◌, ◌⊎◌, inl, inr, ℤ, pos, List, [], ◌∷◌, ◌++◌, length, Bool, true, false, Option, Some, None, refl, sym, ◌∙◌, ap, subst, arith}
use Rattle.std.specs.Prelude.{Ok, ◌%◌, nat_abs, is_some, if◌then◌else◌, slice_set, option_map}
use Rattle.std.proofs.lemmas.List.{length-map}
use Rattle.seg_spec.specs.Bytes.{word}
use Rattle.seg_spec.specs.Header.{next_word, KeepsFront}
use Rattle.seg_spec.specs.Types.{Form, Table, form_at, size}
use Rattle.seg_spec.specs.Value.{Value, nil, cons, copies, default_of}
use Rattle.seg_spec.specs.Heap.{live}
use Rattle.seg_spec.specs.Index.{Root, root_of_type}
use Rattle.seg_spec.specs.Reads.{Place}
use Rattle.seg_spec.specs.Sound.{Picture, HoldsRoot}
use Rattle.seg_spec.specs.Roots.{Listed, with_roots}
use Rattle.seg_spec.specs.Calls.{Refuses}
use Rattle.seg_spec.specs.Demand.{Ask, block_for, GetsBlock}
use Rattle.seg_spec.specs.Spending.{spent}
use Rattle.seg_spec.specs.Frozen.{blocks_by}
use Rattle.seg_spec.specs.Shared.{names_each, freed}
use Rattle.client_spec.specs.declared.table.Operation.{Operation}
use Rattle.client_spec.specs.declared.table.Role.{Role}
use Rattle.client_spec.specs.declared.table.Number.{Number}
use Rattle.client_spec.specs.Syntax.{Constant, Instruction}
use Rattle.client_spec.specs.Machine.{Origin, Path, Register, State, with_unique, set_register}
use Rattle.client_spec.specs.Answer.{Answer, Outcome, success, bad_alloc, already_exists, answer_number, path_from, refer, fail, give_count}
use Rattle.client_spec.specs.Effect.{outcome, effect, add_unique, truth}
use Rattle.client_spec.specs.Asks.{GrantsAsks, Denies, Asks, Returns, RootGoes, if_absent}
use Rattle.client_spec.specs.Ties.{nowhere, AllocatesAt, KeepsBut, UniquesCome}
use Rattle.client_spec.specs.Grammar.{IsNumber, IsInstruction}
use Rattle.client_spec.specs.Shape.{HasShape}
use Rattle.client_spec.specs.Typed.{Class, RegisterType, RegisterTypes, known, is_owner, sharing, ended, without_class, opens, rule}
use Rattle.client_spec.specs.Meaning.{InClass}
use Rattle.client_spec.specs.Pictures.{Pictures}
use Rattle.client_spec.proofs.TypedStates.ClassLaws.{OneEach, known_ended, agrees_ended}
use Rattle.client_spec.proofs.TypedStates.KnowledgeChangeLaws.{agrees_umake, agrees_ukill}
use Rattle.client_spec.proofs.TypedStates.DefaultLaws.{default_has}
use Rattle.client_spec.proofs.Rows.RuleRowLaws.{opens_ok, answer_is}
use Rattle.client_spec.proofs.Spelling.ConstantNameLaws.{one_each}
use Rattle.client_sim.specs.Shows.{World, Shows, Acts, ChangesImage}
use Rattle.client_sim.specs.Acting.{AreDeclarationsRight, ActsAs, IsRefusedAs}
use Rattle.client_sim.proofs.ImageChangeLaws.{kept_nowhere, changed, unchanged}
use Rattle.client_sim.proofs.Frozen.UnfoldedOperationLaws.{lifted_acts, lifted_refused}
use Rattle.client_sim.proofs.Places.LeafPutLaws.{with_image}
use Rattle.client_sim.proofs.Instructions.NumberLaws.{with_number, quiet, gives_both}
use Rattle.client_sim.proofs.EffectLaws.{acts_so, refuses_with, with_place, shows_number, shows_reference, frame_number, frame_reference}
use Rattle.client_sim.proofs.FrameLaws.{Frame, frame_same, unknown_same}
use Rattle.client_sim.proofs.Frozen.FrozenPathLaws.{frozen_same_image}
use Rattle.client_sim.proofs.GrantLaws.{gets_block, grants_spent, denies}
use Rattle.client_sim.proofs.Objects.ObjectChangeLaws.{shows_rooted, pictured_rooted, frame_rooted, objects_rooted}
use Rattle.client_sim.proofs.Instructions.FindLaws.{OfPicture, of_picture, begins_unique, type_number, unique_found, none_unique, leads_unique, unique_typed}
use Rattle.client_sim.proofs.EndedReferenceLaws.{LeavesPicture, type_known, ended_shown}
use Rattle.client_sim.proofs.Instructions.OwnerLaws.{new_object, LeavesWithout, root_touched, paths_with, frozen_with, paths_without, frozen_without, gone_with}
use Rattle.client_sim.proofs.Objects.UniqueChangeLaws.{UniqueComes, unique_comes, UniqueGoes, unique_goes}
use Rattle.client_sim.proofs.Objects.ObjectPlaceLaws.{objects_same}
use Rattle.client_sim.proofs.Objects.NewObjectLaws as new_objects

-- the type has no unique object, and a new one is added
pub record JoinsUniques (allocator : ℕ) (old new : List ℕ) (table : Table) (picture : Picture) (T at : ℕ) : Type 0 where
  pub none : root_of_type picture.uniques T ≡ None
  pub spends : spent allocator (live old) (length old) (block_for (size table T) ∷ []) [] ≡ Some (live new)
  pub gets : GetsBlock allocator old (size table T) at
  pub before : List Root
  pub after : List Root
  pub uniques_are : picture.uniques ≡ before ++ after
  pub becomes : LeavesPicture old new (with_roots picture Listed.by_type (before ++ new_object table T at ∷ after)) []

-- the type's unique object is removed
pub record LeavesUniques (old new : List ℕ) (table : Table) (picture : Picture) (T : ℕ) : Type 0 where
  pub before : List Root
  pub root : Root
  pub after : List Root
  pub uniques_are : picture.uniques ≡ before ++ root ∷ after
  pub root_is : root_of_type picture.uniques T ≡ Some root
  pub loses : LeavesWithout old new table root (with_roots picture Listed.by_type (before ++ after))

-- there is no room for a new one
abbrev pub FindsNoRoomFor : ℕ → List ℕ → List ℕ → Table → ℕ → ℕ → Picture → Type 0
FindsNoRoomFor allocator old new table T code picture = (code ≡ answer_number bad_alloc) × (begins_unique picture T ≡ None) × Refuses allocator old new (block_for (size table T) ∷ [])

-- the type has a unique object, or there is no room for one
abbrev pub FindsOneOrNoRoom : ℕ → List ℕ → List ℕ → Table → ℕ → ℕ → Picture → Type 0
FindsOneOrNoRoom allocator old new table T code picture =
    ((code ≡ answer_number already_exists) × ((at : ℕ) × (begins_unique picture T ≡ Some at)) × (new ≡ old)) ⊎ FindsNoRoomFor allocator old new table T code picture

-- the type's unique object is found or made at this position
abbrev pub IsFoundOrJoins : ℕ → List ℕ → List ℕ → Table → ℕ → ℕ → Picture → Type 0
IsFoundOrJoins allocator old new table T at picture = ((begins_unique picture T ≡ Some at) × (new ≡ old)) ⊎ JoinsUniques allocator old new table picture T at

-- the type's unique object is destroyed, or doesn't exist
abbrev pub LeavesOrLacks : List ℕ → List ℕ → Table → ℕ → Bool → Picture → Type 0
LeavesOrLacks old new table T true picture = LeavesUniques old new table picture T
LeavesOrLacks old new table T false picture = (begins_unique picture T ≡ None) × (new ≡ old)

module _ {others : List Root} {types : Table} {constants : List Constant} (one : OneEach constants) {first : Option (List ℕ)} {allocator : ℕ} {ks : RegisterTypes} {s : State} {w : World}
    (h : Shows others types constants first allocator ks s w) where
  -- ---- a unique object is made

  module _ (T : ℕ) (v : Value) (fits : HasShape s.types T v) (none : s.uniques T ≡ None) (root : Root) (new : List ℕ) (c : UniqueComes h.pictured T v root new) (front : KeepsFront w.image new) where
    abbrev s_more : State
    s_more = record s { uniques = with_unique s.uniques T (Some v) }

    pub shows_more : Shows others types constants first allocator ks s_more (with_image w new)
    shows_more =
        shows_rooted h ks s_more (with_image w new) c.later (λ o. ⊥) c.keeps front (agrees_umake types constants one ks s T v none fits h.as_known) h.sixteen
        (record { numbers = h.registers.numbers; positions = h.registers.positions; type_ids = h.registers.type_ids; owns = h.registers.owns })
        (record { table = refl; input = refl; read = refl; taken = refl; types = refl; state_input = refl; state_output = refl })
        (λ r. inl (record { known_is = refl; register_is = refl; number_is = refl; place_is = refl; owns_is = refl; goes_on = λ o f g. g }))

    pub frame_more : Frame ks w (with_image w new) h.pictured shows_more.pictured
    unfolding shows_more
    frame_more = frame_rooted h ks s_more (with_image w new) c.later (λ o. ⊥) c.keeps front _ _ _ _ _ c.stays (unknown_same ks s s_more w new refl) (λ r had has. refl) (objects_rooted c.keeps (λ name e. absurd e) (λ U e. absurd e))

    pub more_there : begins_unique shows_more.pictured.picture T ≡ Some root.at
    unfolding shows_more
    more_there =
        ap (λ (p : Pictures others s_more new). begins_unique p.picture T) (pictured_rooted h ks s_more (with_image w new) c.later (λ o. ⊥) c.keeps front _ _ _ _ _)
        ∙ ap (λ (o : Option Root). option_map {T = Root} {U = ℕ} (λ r. r.at) o) c.here

  -- ---- a unique object is destroyed

  module _ (T : ℕ) (new : List ℕ) (c : UniqueGoes h.pictured T new) (front : KeepsFront w.image new) where
    abbrev s_less : State
    s_less = record s { uniques = with_unique s.uniques T None }

    abbrev ks_less : RegisterTypes
    ks_less = ended (Class.Unique T) ks

    pub shows_less : Shows others types constants first allocator ks_less s_less (with_image w new)
    shows_less =
        shows_rooted h ks_less s_less (with_image w new) c.later (λ o. o ≡ Origin.Unique T) c.keeps front (agrees_ukill types constants one ks s T h.as_known) (length-map ks (without_class (Class.Unique T)) ∙ h.sixteen)
        (record { numbers = h.registers.numbers; positions = h.registers.positions; type_ids = h.registers.type_ids; owns = h.registers.owns })
        (record { table = refl; input = refl; read = refl; taken = refl; types = refl; state_input = refl; state_output = refl })
        (λ r. ended_shown one h (Class.Unique T) ks_less s_less (with_image w new) c.later (λ o. o ≡ Origin.Unique T) (λ o e. subst (λ x. InClass constants (Class.Unique T) x) (sym e) refl) r
        (known_ended (Class.Unique T) ks r) refl refl refl refl (λ e. cc))

    pub frame_less : Frame ks_less w (with_image w new) h.pictured shows_less.pictured
    unfolding shows_less
    frame_less = frame_rooted h ks_less s_less (with_image w new) c.later (λ o. o ≡ Origin.Unique T) c.keeps front _ _ _ _ _ c.stays (unknown_same ks_less s s_less w new refl) (λ r had has. refl)
        (objects_rooted c.keeps (λ name e. cc) (λ U e. subst (λ V. root_of_type c.later.picture.uniques V ≡ None) (let f : T ≡ U = cc in f) c.none))

  -- ---- references of a class end, and nothing else changes

  pub shows_ended : (class : Class) → Shows others types constants first allocator (ended (sharing class) ks) s w
  shows_ended class =
      shows_rooted h (ended (sharing class) ks) s w h.pictured (λ o. ⊥) (record { table = refl; begins = λ o root item e. inr (e, (λ i path target less leads. leads)) }) refl
      (agrees_ended types constants one (sharing class) ks s h.as_known)
      (length-map ks (without_class (sharing class)) ∙ h.sixteen) h.registers (record { table = refl; input = refl; read = refl; taken = refl; types = refl; state_input = refl; state_output = refl })
      (λ r. ended_shown one h class (ended (sharing class) ks) s w h.pictured (λ o. ⊥) (λ o f. absurd f) r (known_ended (sharing class) ks r) refl refl refl refl (λ f. f))

  pub frame_ended : (class : Class) → Frame (ended (sharing class) ks) w w h.pictured (shows_ended class).pictured
  unfolding shows_ended
  frame_ended class = frame_rooted h (ended (sharing class) ks) s w h.pictured (λ o. ⊥) _ refl _ _ _ _ _ (frozen_same_image h.pictured)
      (unknown_same (ended (sharing class) ks) s s w w.image refl) (λ r had has. refl) (objects_same refl)

none_begins : (o : Option Root) → option_map {T = Root} {U = ℕ} (λ r. r.at) o ≡ None → o ≡ None
none_begins None e = refl
none_begins (Some r) e = cc

module _ (allocator : ℕ) (constants : List Constant) (role : Role) (a b c : ℕ) (number : ℤ) (w : World) (new : List ℕ) (T : ℕ) (names : (n : ℕ) → number ≡ pos n → T ≡ n % 256) where
  abbrev of : Operation → Instruction
  of operation = record { operation = operation; a = a; b = b; c = c; number = number }

  abbrev asks_one : Table → List Ask
  asks_one table = block_for (size table T) ∷ []

  abbrev path_is : Path
  path_is = path_from (Origin.Unique T)

  abbrev ks_then : RegisterTypes → RegisterTypes
  ks_then ks = slice_set ks a (RegisterType.Reference (Class.Unique T) T)

  -- the states that the world represents, and what the rule knows
  module _ {types : Table} {others : List Root} {first : Option (List ℕ)} {ks good bad : RegisterTypes} {s : State} (right : AreDeclarationsRight types constants) (valid : IsNumber types constants b Number.TypeId number) (within : a < 16)
      (e : opens a (RegisterType.Reference (Class.Unique (nat_abs number)) (nat_abs number)) ks ≡ Ok (good, bad)) (h : Shows others types constants first allocator ks s w) where
    its : (is_owner (known ks a) ≡ false) × (good ≡ slice_set ks a (RegisterType.Reference (Class.Unique (nat_abs number)) (nat_abs number))) × (bad ≡ slice_set ks a RegisterType.Int)
    its = opens_ok types constants ks s h.as_known a (RegisterType.Reference (Class.Unique (nat_abs number)) (nat_abs number)) good bad e

    known_type : (nat_abs number ≡ T) × (T < length s.types) × ((form : Form) × (form_at s.types T ≡ Some form))
    known_type = type_known h.as_known b number T right.table.few names valid

    good_is : good ≡ ks_then ks
    good_is = its.1 ∙ ap (λ n. slice_set ks a (RegisterType.Reference (Class.Unique n) n)) known_type.0

    said : {P : Picture → Type 0} → OfPicture allocator w (λ p. T < length w.table → P p) → P h.pictured.picture
    said {P} says = of_picture h (λ p. T < length w.table → P p) says (subst (λ (z : Table). T < length z) (sym h.table_is) known_type.1)

    -- the machine does a row that makes a unique object
    made : (operation : Operation) (at : ℕ) → JoinsUniques allocator w.image new w.table h.pictured.picture T at → (asked : Asks constants (of operation) h.pictured (asks_one w.table)) → Returns constants (of operation) h.pictured []
        → (GrantsAsks constants (of operation) h.pictured new → word new next_word ≡ word w.image next_word → KeepsBut w.image new nowhere [] → ChangesImage constants (of operation) h.pictured success new)
        → outcome constants (of operation) true s ≡ add_unique a T true s
        → Acts others types constants first allocator (of operation) success good s w (with_place (with_image w new) a (record { at = at; type = T }))
    made operation at call asked returned changes row =
        let one = one_each constants right.each right.different in
        let i = of operation in
        let place : Place = record { at = at; type = T } in
        let d = default_of s.types T in
        let root = new_object w.table T at in
        let values_are : root.values ≡ cons d nil = ap (λ (z : Table). copies 1 (default_of z T)) h.table_is in
        let none : s.uniques T ≡ None = none_unique h T (ap (λ (o : Option Root). option_map {T = Root} {U = ℕ} (λ r. r.at) o) call.none) in
        let come = unique_comes h.pictured T d root refl values_are call.none call.before call.after call.uniques_are new (call.becomes.held, call.becomes.counted)
        (paths_with h new call.becomes) (frozen_with h new call.becomes) in
        let fits = default_has s.types h.as_known.typed.forms T known_type.2.0 known_type.2.1 in
        let more = shows_more one h T d fits none root new come call.becomes.front_kept in
        let u = unique_found more T at (more_there one h T d fits none root new come call.becomes.front_kept) in
        let s' = s_more one h T d fits none root new come call.becomes.front_kept in
        let shows = shows_reference others types constants first allocator ks s' (with_image w new) more a (Class.Unique T) T path_is place within its.0 refl (unique_typed more T at u) refl (leads_unique more T at u) in
        let blocks : GrantsAsks constants i h.pictured new = grants_spent constants i h.pictured allocator h.allocator_is (asks_one w.table) asked new [] returned (live new) call.spends refl in
        subst (λ k. Acts others types constants first allocator i success k s w (with_place (with_image w new) a place)) (sym good_is)
        (acts_so others types constants first allocator ks s w h i success true (ks_then ks) (set_register s' a (Register.Reference path_is)) (with_place (with_image w new) a place) (λ r o. inl o)
        (row ∙ answer_is types constants ks s' more.as_known success a (Register.Reference path_is) its.0) (changes blocks call.becomes.next_kept
        (kept_nowhere [] h.pictured.held.laid_out.heap call.becomes.kept)) call.becomes.length_kept call.becomes.front_kept refl shows
        (frame_reference others types constants first allocator ks s' (with_image w new) more a _ _ _ _ _ _ _ _ _ _ (frame_more one h T d fits none root new come call.becomes.front_kept)))

    -- the new object is in the block that the request for it gets
    comes : (operation : Operation) (at : ℕ) → JoinsUniques allocator w.image new w.table h.pictured.picture T at → (t : State) (later : Pictures others t new) → UniquesCome (of operation) h.pictured later
    comes operation at call t later =
        let gets = gets_block allocator w.image (size w.table T) at h.allocator_is call.gets in
        new_objects.unique_comes (of operation) h.pictured later call.before (new_object w.table T at) call.after call.uniques_are call.becomes.held (subst (λ (z : Table). AllocatesAt w.image (size z T) at) h.table_is gets)

    -- the machine does a row that finds the unique object
    found : (operation : Operation) (at : ℕ) → begins_unique h.pictured.picture T ≡ Some at → new ≡ w.image → ((v : Value) → s.uniques T ≡ Some v → GrantsAsks constants (of operation) h.pictured w.image)
        → (GrantsAsks constants (of operation) h.pictured w.image → ChangesImage constants (of operation) h.pictured success w.image)
        → ((v : Value) → s.uniques T ≡ Some v → outcome constants (of operation) true s ≡ refer a path_is s)
        → Acts others types constants first allocator (of operation) success good s w (with_place (with_image w new) a (record { at = at; type = T }))
    found operation at begins same granted changes row =
        let i = of operation in
        let place : Place = record { at = at; type = T } in
        let u = unique_found h T at begins in
        let shows = shows_reference others types constants first allocator ks s w h a (Class.Unique T) T path_is place within its.0 refl (unique_typed h T at u) refl (leads_unique h T at u) in
        subst (λ k. Acts others types constants first allocator i success k s w (with_place (with_image w new) a place)) (sym good_is)
        (subst (λ (image : List ℕ). Acts others types constants first allocator i success (ks_then ks) s w (with_place (with_image w image) a place)) (sym same)
        (acts_so others types constants first allocator ks s w h i success true (ks_then ks) (set_register s a (Register.Reference path_is)) (with_place w a place) (λ r o. inl o)
        (row u.plain.value u.there ∙ answer_is types constants ks s h.as_known success a (Register.Reference path_is) its.0) (changes (granted u.plain.value u.there)) refl refl refl shows
        (frame_reference others types constants first allocator ks s w h a _ _ _ _ _ _ _ _ _ _ (frame_same _ _ _))))

    -- the machine does a row that fails
    refused : (operation : Operation) (answer : Answer) (room : Bool) (code : ℕ) → code ≡ answer_number answer → new ≡ w.image → ChangesImage constants (of operation) h.pictured answer w.image
        → outcome constants (of operation) room s ≡ fail a answer s
        → Acts others types constants first allocator (of operation) answer bad s w (with_number (with_image w new) a (pos code))
    refused operation answer room code code_is same changes row =
        let i = of operation in
        subst (λ k. Acts others types constants first allocator i answer k s w (with_number (with_image w new) a (pos code))) (sym its.2)
        (subst (λ (image : List ℕ). Acts others types constants first allocator i answer (slice_set ks a RegisterType.Int) s w (with_number (with_image w image) a (pos code))) (sym same)
        (subst (λ (n : ℕ). Acts others types constants first allocator i answer (slice_set ks a RegisterType.Int) s w (with_number w a (pos n))) (sym code_is)
        (refuses_with others types constants first allocator ks s w h i answer room a within its.0 row changes)))

    -- if there is a unique object, none is requested
    asks_none : (v : Value) → s.uniques T ≡ Some v → [] ≡ if_absent (s.uniques (nat_abs number)) (block_for (size s.types (nat_abs number)) ∷ [])
    asks_none v there = sym (ap (λ n. if_absent (s.uniques n) (block_for (size s.types n) ∷ [])) known_type.0 ∙ ap (λ (o : Option Value). if_absent o (asks_one s.types)) there)

    asks_some : begins_unique h.pictured.picture T ≡ None → asks_one w.table ≡ if_absent (s.uniques (nat_abs number)) (block_for (size s.types (nat_abs number)) ∷ [])
    asks_some none =
        ap asks_one h.table_is
        ∙ sym (ap (λ n. if_absent (s.uniques n) (block_for (size s.types n) ∷ [])) known_type.0 ∙ ap (λ (o : Option Value). if_absent o (asks_one s.types)) (none_unique h T none))

    -- if there is a unique object, the row takes the first branch
    row_there : (f g : ℕ → Outcome) (v : Value) → s.uniques T ≡ Some v → (if is_some (s.uniques (nat_abs number)) then f (nat_abs number) else g (nat_abs number)) ≡ f T
    row_there f g v there = ap (λ n. if is_some (s.uniques n) then f n else g n) known_type.0 ∙ ap (λ (o : Option Value). if is_some o then f T else g T) there

    row_none : (f g : ℕ → Outcome) → begins_unique h.pictured.picture T ≡ None → (if is_some (s.uniques (nat_abs number)) then f (nat_abs number) else g (nat_abs number)) ≡ g T
    row_none f g none = ap (λ n. if is_some (s.uniques n) then f n else g n) known_type.0 ∙ ap (λ (o : Option Value). if is_some o then f T else g T) (none_unique h T none)

    none_at : root_of_type h.pictured.picture.uniques T ≡ None → begins_unique h.pictured.picture T ≡ None
    none_at none = ap (λ (o : Option Root). option_map {T = Root} {U = ℕ} (λ r. r.at) o) none

    no_room : (operation : Operation) → Asks constants (of operation) h.pictured (asks_one w.table) → Refuses allocator w.image new (asks_one w.table) → Denies constants (of operation) h.pictured w.image
    no_room operation asked r = denies constants (of operation) h.pictured allocator h.allocator_is (asks_one w.table) asked w.image (record { no_room = r.no_room; same = refl })

  -- ---- the rows

  -- UMAKE makes the unique object
  pub make_unique_acts : (at : ℕ) → OfPicture allocator w (λ p. T < length w.table → JoinsUniques allocator w.image new w.table p T at)
      → ActsAs allocator constants role (of Operation.MakeUnique) w (with_place (with_image w new) a (record { at = at; type = T }))
  unfolding rule effect
  make_unique_acts at says = lifted_acts refl (λ types others first ks good bad s right valid e h.
      let call = said right valid.number valid.a e h {P = λ p. JoinsUniques allocator w.image new w.table p T at} says in
      let none = none_at right valid.number valid.a e h call.none in
      made right valid.number valid.a e h Operation.MakeUnique at call (asks_some right valid.number valid.a e h none) refl
      (λ g next kept. changed next refl tt tt (comes right valid.number valid.a e h Operation.MakeUnique at call) (record { spot = nowhere; own = []; touches = (refl, refl); kept = kept }) g)
      (row_none right valid.number valid.a e h (λ n. fail a already_exists s) (λ n. add_unique a n true s) none))

  -- UMAKE fails if there is one, or no room
  pub make_unique_refused : (code : ℕ) → OfPicture allocator w (λ p. T < length w.table → FindsOneOrNoRoom allocator w.image new w.table T code p)
      → IsRefusedAs allocator constants role (of Operation.MakeUnique) w (with_number (with_image w new) a (pos code))
  unfolding rule effect
  make_unique_refused code says = lifted_refused refl (λ types others first ks good bad s right valid e h.
      elim (said right valid.number valid.a e h {P = FindsOneOrNoRoom allocator w.image new w.table T code} says) [
        | inl r ↦
            let u = unique_found h T r.1.0 r.1.1 in (
              already_exists,
              λ f. cc,
              refused right valid.number valid.a e h Operation.MakeUnique already_exists true code r.0 r.2 (unchanged refl refl refl)
                  (row_there right valid.number valid.a e h (λ n. fail a already_exists s) (λ n. add_unique a n true s) u.plain.value u.there),
            )
        | inr r ↦ (
          bad_alloc,
          λ f. cc,
          refused right valid.number valid.a e h Operation.MakeUnique bad_alloc false code r.0 r.2.same
              (unchanged refl refl (no_room right valid.number valid.a e h Operation.MakeUnique (asks_some right valid.number valid.a e h r.1) r.2))
              (row_none right valid.number valid.a e h (λ n. fail a already_exists s) (λ n. add_unique a n false s) r.1),
        )
      ])

  -- UFINDOR finds the unique object, or makes it
  pub find_or_make_unique_acts : (at : ℕ) → OfPicture allocator w (λ p. T < length w.table → IsFoundOrJoins allocator w.image new w.table T at p)
      → ActsAs allocator constants role (of Operation.FindOrMakeUnique) w (with_place (with_image w new) a (record { at = at; type = T }))
  unfolding rule effect
  find_or_make_unique_acts at says = lifted_acts refl (λ types others first ks good bad s right valid e h.
      let i = of Operation.FindOrMakeUnique in
      elim (said right valid.number valid.a e h {P = IsFoundOrJoins allocator w.image new w.table T at} says) [
        | inl r ↦ found right valid.number valid.a e h Operation.FindOrMakeUnique at r.0 r.1 (λ v there. quiet constants i h.pictured (asks_none right valid.number valid.a e h v there) refl) (unchanged refl refl)
            (λ v there. row_there right valid.number valid.a e h (λ n. refer a (path_from (Origin.Unique n)) s) (λ n. add_unique a n true s) v there)
        | inr call ↦
            let none = none_at right valid.number valid.a e h call.none in
            made right valid.number valid.a e h Operation.FindOrMakeUnique at call (asks_some right valid.number valid.a e h none) refl
            (λ g next kept. changed next refl (λ root some. absurd (let f : Some root ≡ None = sym some ∙ ap (root_of_type h.pictured.picture.uniques)
            (known_type right valid.number valid.a e h).0 ∙ call.none in cc)) tt (comes right valid.number valid.a e h Operation.FindOrMakeUnique at call) (record { spot = nowhere; own = []; touches = (refl, refl); kept = kept }) g)
            (row_none right valid.number valid.a e h (λ n. refer a (path_from (Origin.Unique n)) s) (λ n. add_unique a n true s) none)
      ])

  pub find_or_make_unique_refused : (code : ℕ) → OfPicture allocator w (λ p. T < length w.table → FindsNoRoomFor allocator w.image new w.table T code p)
      → IsRefusedAs allocator constants role (of Operation.FindOrMakeUnique) w (with_number (with_image w new) a (pos code))
  unfolding rule effect
  find_or_make_unique_refused code says = lifted_refused refl (λ types others first ks good bad s right valid e h.
      let r = said right valid.number valid.a e h {P = FindsNoRoomFor allocator w.image new w.table T code} says in (
        bad_alloc,
        λ f. cc,
        refused right valid.number valid.a e h Operation.FindOrMakeUnique bad_alloc false code r.0 r.2.same
            (unchanged refl refl (no_room right valid.number valid.a e h Operation.FindOrMakeUnique (asks_some right valid.number valid.a e h r.1) r.2))
            (row_none right valid.number valid.a e h (λ n. refer a (path_from (Origin.Unique n)) s) (λ n. add_unique a n false s) r.1),
      ))

  -- UKILL destroys the unique object, if there is one
  pub kill_unique_acts : (gone : Bool) → OfPicture allocator w (λ p. T < 32 → LeavesOrLacks w.image new w.table T gone p) → ActsAs allocator constants role (of Operation.KillUnique) w (with_number (with_image w new) a (truth gone))
  unfolding rule effect
  kill_unique_acts gone says = lifted_acts refl (λ types others first ks good bad s right valid e h.
      let i = of Operation.KillUnique in
      let one = one_each constants right.each right.different in
      let t = type_known h.as_known b number T right.table.few names valid.number in
      let class = Class.Unique T in
      let g = gives_both a RegisterType.Int (ended (Class.Unique (nat_abs number)) ks) good bad e in
      let free : is_owner (known (ended (sharing class) ks) a) ≡ false = ap (λ n. is_owner (known (ended (Class.Unique n) ks) a)) (sym t.0) ∙ g.0 in
      let good_is : good ≡ slice_set (ended (sharing class) ks) a RegisterType.Int = g.1 ∙ ap (λ n. slice_set (ended (Class.Unique n) ks) a RegisterType.Int) t.0 in
      let row = λ (o : Option Value) (is : s.uniques T ≡ o).
      ap (λ n. if is_some (s.uniques n) then give_count a 1 (record s { uniques = with_unique s.uniques n None }) else give_count a 0 s) t.0
      ∙ ap (λ (o : Option Value). if is_some o then give_count a 1 (record s { uniques = with_unique s.uniques T None }) else give_count a 0 s) is in
      let call = of_picture h (λ p. T < 32 → LeavesOrLacks w.image new w.table T gone p) says (few right valid) in
      subst (λ k. Acts others types constants first allocator i success k s w (with_number (with_image w new) a (truth gone))) (sym good_is)
      (by types others first ks s right valid.a h one t.0 free row gone call))
    where
      few : {types : Table} → AreDeclarationsRight types constants → IsInstruction types constants role (of Operation.KillUnique) → T < 32
      few {types} right valid =
          let m = type_number types constants b number valid.number in
          let less = m.2 in
          let small = right.table.few in
          let is = names m.0 m.1 in
          omega (arith, less, small, is)

      by : (types : Table) (others : List Root) (first : Option (List ℕ)) (ks : RegisterTypes) (s : State) → AreDeclarationsRight types constants → a < 16 → (h : Shows others types constants first allocator ks s w) → OneEach constants
          → nat_abs number ≡ T
          → is_owner (known (ended (Class.Unique T) ks) a) ≡ false
          → ((o : Option Value) → s.uniques T ≡ o → outcome constants (of Operation.KillUnique) true s ≡ (if is_some o then give_count a 1 (record s { uniques = with_unique s.uniques T None }) else give_count a 0 s))
          → (gone : Bool) → LeavesOrLacks w.image new w.table T gone h.pictured.picture
          → Acts others types constants first allocator (of Operation.KillUnique) success (slice_set (ended (Class.Unique T) ks) a RegisterType.Int) s w (with_number (with_image w new) a (truth gone))
      by types others first ks s right within h one operand free row true call =
          let i = of Operation.KillUnique in
          let picture = h.pictured.picture in
          let c = call.loses in
          let u = unique_found h T call.root.at (ap (λ (o : Option Root). option_map {T = Root} {U = ℕ} (λ r. r.at) o) call.root_is) in
          let goes = unique_goes h.pictured T call.root call.root_is call.before call.after call.uniques_are new (c.becomes.held, c.becomes.counted)
          (paths_without h new Listed.by_type call.before call.root call.after call.uniques_are refl c) (frozen_without h new call.root refl c) in
          let less = shows_less one h T new goes c.becomes.front_kept in
          let s' = s_less one h T new goes c.becomes.front_kept in
          let shared = blocks_by c.theirs (freed (names_each call.root.values) picture.frozen) in
          let returned : RootGoes constants i h.pictured (root_of_type picture.uniques (nat_abs number)) (c.blocks ++ shared) =
          subst (λ (o : Option Root). RootGoes constants i h.pictured o (c.blocks ++ shared)) (sym (ap (root_of_type picture.uniques) operand ∙ call.root_is))
          (c.blocks, subst (λ (t : Table). HoldsRoot w.image t call.root c.blocks) h.table_is c.holds_it, (shared, gone_with h new call.root refl c, refl)) in
          let blocks : GrantsAsks constants i h.pictured new = record { asks = []; asked = refl; gives = c.blocks ++ shared; returned = returned; blocks = live w.image; granted = refl; left = c.live_is } in
          acts_so others types constants first allocator ks s w h i success true (slice_set (ended (Class.Unique T) ks) a RegisterType.Int) (set_register s' a (Register.Int (pos 1))) (with_number (with_image w new) a (pos 1)) (λ r o. inl o)
          (row (Some u.plain.value) u.there ∙ answer_is types constants (ended (Class.Unique T) ks) s' less.as_known success a (Register.Int (pos 1)) free) (changed c.becomes.next_kept refl (λ none. absurd
          (let f : None ≡ Some call.root = sym none ∙ ap (root_of_type picture.uniques) operand ∙ call.root_is in cc)) tt (λ t later. tt) (record {
            spot = nowhere;
            own = c.blocks ++ blocks_by c.theirs picture.frozen;
            touches = (refl, root_touched h new call.root refl c (root_of_type picture.uniques (nat_abs number)) (ap (root_of_type picture.uniques) operand ∙ call.root_is));
            kept = kept_nowhere _ h.pictured.held.laid_out.heap c.becomes.kept;
          }) blocks) c.becomes.length_kept c.becomes.front_kept refl
          (shows_number others types constants first allocator (ended (Class.Unique T) ks) s' (with_image w new) less a (pos 1) within free)
          (frame_number others types constants first allocator _ s' (with_image w new) less a _ _ _ (frame_less one h T new goes c.becomes.front_kept))
      by types others first ks s right within h one operand free row false call =
          let i = of Operation.KillUnique in
          let picture = h.pictured.picture in
          let still = shows_ended one h (Class.Unique T) in
          let returned : RootGoes constants i h.pictured (root_of_type picture.uniques (nat_abs number)) [] =
          subst (λ (o : Option Root). RootGoes constants i h.pictured o []) (sym (ap (root_of_type picture.uniques) operand ∙ none_begins (root_of_type picture.uniques T) call.0)) refl in
          subst (λ (image : List ℕ). Acts others types constants first allocator i success (slice_set (ended (Class.Unique T) ks) a RegisterType.Int) s w (with_number (with_image w image) a (pos 0))) (sym call.1)
          (acts_so others types constants first allocator ks s w h i success true (slice_set (ended (Class.Unique T) ks) a RegisterType.Int) (set_register s a (Register.Int (pos 0))) (with_number w a (pos 0)) (λ r o. inl o)
          (row None (none_unique h T call.0) ∙ answer_is types constants (ended (Class.Unique T) ks) s still.as_known success a (Register.Int (pos 0)) free) (unchanged refl refl (quiet constants i h.pictured refl returned)) refl refl refl
          (shows_number others types constants first allocator (ended (Class.Unique T) ks) s w still a (pos 0) within free)
          (frame_number others types constants first allocator _ s w still a _ _ _ (frame_ended one h (Class.Unique T))))
