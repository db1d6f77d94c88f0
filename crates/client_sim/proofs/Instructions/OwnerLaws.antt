-- NEW and DROP: a register gets a new object, and a register's object is destroyed.
use Rattle.std.proofs.Common.{◌≡◌, ℕ, ◌+◌, ◌<◌, inl, inr, ℤ, pos, List, [], ◌∷◌, ◌++◌, length, Bool, true, false, Option, Some, refl, sym, ◌∙◌, ap, subst, arith}
use Rattle.std.specs.Prelude.{◌*◌, ◌%◌, nat_abs, slice_set, slice_index_or}
use Rattle.std.specs.List.{AllByRecursion}
use Rattle.std.proofs.lemmas.Bool.{cases_eq}
use Rattle.std.proofs.lemmas.List.{get_or-set_same, get_or-set_other, set-get_or, length-map}
use Rattle.seg_spec.specs.Header.{KeepsFront}
use Rattle.seg_spec.specs.Types.{Table, size}
use Rattle.seg_spec.specs.Value.{Value, nil, cons, copies, default_of}
use Rattle.seg_spec.specs.Heap.{live}
use Rattle.seg_spec.specs.Index.{Root, plain_root}
use Rattle.seg_spec.specs.Reads.{Place, Leads, here}
use Rattle.seg_spec.specs.Frozen.{Frozen, blocks_by}
use Rattle.seg_spec.specs.Shared.{names_each, left, freed}
use Rattle.seg_spec.specs.Destroying.{HoldFrozen, KeepFrozen}
use Rattle.seg_spec.specs.Counting.{owners_in, without_cells, FrozenGone}
use Rattle.seg_spec.specs.Sound.{Picture, HoldsRoot, times}
use Rattle.seg_spec.proofs.Heap.LiveBlockLaws.{times-append}
use Rattle.seg_spec.proofs.Frozen.PartCountLaws.{owners_after}
use Rattle.seg_spec.specs.Roots.{Listed, roots_in, with_roots, roots_before, item_of, KeepsPaths}
use Rattle.seg_spec.specs.Calls.{Refuses}
use Rattle.seg_spec.specs.Demand.{block_for, after_gives, GetsBlock}
use Rattle.seg_spec.specs.Spending.{spent}
use Rattle.client_spec.specs.declared.table.Operation.{Operation}
use Rattle.client_spec.specs.declared.table.Role.{Role}
use Rattle.client_spec.specs.Syntax.{Constant, Instruction}
use Rattle.client_spec.specs.Machine.{◌>>=◌, Origin, Register, State, register, set_register, owned_by}
use Rattle.client_spec.specs.Answer.{success, bad_alloc, answer_number, path_from, fail, give, proceed}
use Rattle.client_spec.specs.Effect.{outcome, effect}
use Rattle.client_spec.specs.Asks.{GrantsAsks, RootGoes}
use Rattle.client_spec.specs.Ties.{nowhere, AllocatesAt, Both, OfFrozen, OfRoot}
use Rattle.client_spec.specs.Shape.{HasShape}
use Rattle.client_spec.specs.Typed.{Class, RegisterType, RegisterTypes, known, is_owner, owner_needed, known_after, ended, without_class, rule}
use Rattle.client_spec.specs.Meaning.{InClass}
use Rattle.client_spec.specs.Pictures.{root_of_register, LeadsInImage}
use Rattle.client_spec.proofs.TypedStates.ValueLaws.{length_set}
use Rattle.client_spec.proofs.TypedStates.StateLaws.{not_owner}
use Rattle.client_spec.proofs.TypedStates.ClassLaws.{OneEach, known_ended}
use Rattle.client_spec.proofs.TypedStates.KnowledgeChangeLaws.{agrees_own, agrees_release}
use Rattle.client_spec.proofs.TypedStates.DefaultLaws.{default_has}
use Rattle.client_spec.proofs.Rows.RuleRowLaws.{bind_ok, Ok_inj, opens_ok, answer_is}
use Rattle.client_spec.proofs.Rows.RowPartLaws.{owner_found}
use Rattle.client_spec.proofs.Spelling.ConstantNameLaws.{one_each}
use Rattle.client_sim.proofs.Objects.OwnedPlaceLaws.{GainsOwners, owned_less, owner_elsewhere}
use Rattle.client_sim.specs.Shows.{World, place_in, owns_in, Shown, Shows, Acts}
use Rattle.client_sim.proofs.ImageChangeLaws.{kept_nowhere, changed, unchanged}
use Rattle.client_sim.proofs.Frozen.FrozenPathLaws.{KeepsFrozen, frozen_left, frozen_beside_index}
use Rattle.client_sim.proofs.FrameLaws.{Frame, owner_apart}
use Rattle.client_sim.proofs.UnchangedImageLaws.{set_beside, not_given}
use Rattle.client_sim.specs.Acting.{ActsAs, IsRefusedAs}
use Rattle.client_sim.proofs.Frozen.UnfoldedOperationLaws.{lifted_acts, lifted_refused}
use Rattle.client_sim.proofs.Instructions.NumberLaws.{with_number, unowned}
use Rattle.client_sim.proofs.EffectLaws.{acts_so, refuses_with, place_one, place_there}
use Rattle.client_sim.proofs.GrantLaws.{gets_block, grants_spent, denies}
use Rattle.client_sim.proofs.Places.RootPutLaws.{root_of_pair}
use Rattle.client_sim.proofs.Objects.ObjectChangeLaws.{shows_rooted, all_paths, other_paths, frame_rooted, objects_rooted}
use Rattle.client_sim.proofs.Instructions.FindLaws.{OfPicture, of_picture, first_place}
use Rattle.client_sim.proofs.Objects.OwnedChangeLaws.{OwnedComes, owned_comes, OwnedGoes, owned_goes}
use Rattle.client_sim.proofs.EndedReferenceLaws.{LeavesPicture, type_known, ended_shown}

-- the world with another image, in which a register owns the object at a place, or nothing
abbrev pub with_owner : World → List ℕ → ℕ → Place → World
with_owner w new a place = record w { image = new; positions = slice_set w.positions a place.at; type_ids = slice_set w.type_ids a place.type; owns = slice_set w.owns a true }

abbrev pub without_owner : World → List ℕ → ℕ → World
without_owner w new b = record w { image = new; owns = slice_set w.owns b false }

-- a new object without a name, of the default value
abbrev pub new_object : Table → ℕ → ℕ → Root
new_object table T at = plain_root [] at T (copies 1 (default_of table T))

module _ {others : List Root} {types : Table} {constants : List Constant} (one : OneEach constants) {first : Option (List ℕ)} {allocator : ℕ} {ks : RegisterTypes} {s : State} {w : World}
    (h : Shows others types constants first allocator ks s w) where
  -- ---- a register owns an object

  module _ (a : ℕ) (within : a < 16) (free : is_owner (known ks a) ≡ false) (v : Value) (place : Place) (fits : HasShape s.types place.type v) (root : Root) (at_is : root.at ≡ place.at) (type_is : root.type ≡ place.type)
      (new : List ℕ) (c : OwnedComes h.pictured a v place.type root new) (front : KeepsFront w.image new) where
    abbrev owning : World
    owning = with_owner w new a place

    abbrev ks_owning : RegisterTypes
    ks_owning = slice_set ks a (RegisterType.Owner place.type)

    abbrev s_owning : State
    s_owning = set_register s a (Register.Owner v place.type)

    owning_there : place_in owning a ≡ place
    owning_there = place_there others types constants first allocator ks s w h a place within

    owner_shown : Shown c.later owning a (known ks_owning a) (register s_owning a)
    owner_shown =
        let n = h.sixteen in
        let o = h.registers.owns in
        let known_is : known ks_owning a ≡ RegisterType.Owner place.type = get_or-set_same ks a (RegisterType.Owner place.type) RegisterType.Undefined (omega (arith, n, within)) in
        let led : LeadsInImage c.later (path_from (Origin.Owned a)) place = record {
          root = root;
          item = 0;
          begins = c.here;
          leads = subst (λ p. Leads new c.later.picture.table (item_of c.later.picture.table root 0) [] p) (first_place c.later.picture.table root place.at place.type at_is type_is) here;
        } in
        subst (λ k. Shown c.later owning a k (register s_owning a)) (sym known_is) (
          get_or-set_same w.owns a true false (omega (arith, o, within)),
          ap (λ (p : Place). p.type) owning_there,
          subst (λ p. LeadsInImage c.later (path_from (Origin.Owned a)) p) (sym owning_there) led,
        )

    pub shows_owning : Shows others types constants first allocator ks_owning s_owning owning
    shows_owning =
        let one_place = place_one others types constants first allocator ks s w h a place in
        shows_rooted h ks_owning s_owning owning c.later (λ o. ⊥) c.keeps front (agrees_own types constants one ks s a v place.type h.as_known free fits) (length_set ks a (RegisterType.Owner place.type) ∙ h.sixteen)
        (record { numbers = h.registers.numbers; positions = one_place.registers.positions; type_ids = one_place.registers.type_ids; owns = length_set w.owns a true ∙ h.registers.owns })
        (record { table = refl; input = refl; read = refl; taken = refl; types = refl; state_input = refl; state_output = refl })
        (λ r. elim (cases_eq r a) [
          | inl e ↦ inr (subst (λ n. Shown c.later owning n (known ks_owning n) (register s_owning n)) (sym e) owner_shown)
          | inr far ↦ inl (record {
            known_is = get_or-set_other ks a r (RegisterType.Owner place.type) RegisterType.Undefined far;
            register_is = get_or-set_other s.registers a r (Register.Owner v place.type) Register.Undefined far;
            number_is = refl;
            place_is = one_place.places_kept r (λ e. far (sym e));
            owns_is = get_or-set_other w.owns a r true false far;
            goes_on = λ o f g. g;
          })
        ])

    pub frame_owning : Frame ks_owning w owning h.pictured shows_owning.pictured
    unfolding shows_owning
    frame_owning = frame_rooted h ks_owning s_owning owning c.later (λ o. ⊥) c.keeps front _ _ _ _ _ c.stays (λ r e o.
        let n = h.sixteen in
        let far = not_given ks a r (RegisterType.Owner place.type) (omega (arith, n, within)) (λ f. cc) e in
        record {
          register_is = set_beside s.registers a r (Register.Owner v place.type) Register.Undefined far;
          place_is = (place_one others types constants first allocator ks s w h a place).places_kept r far;
          owns_is = set_beside w.owns a r true false far;
        }) (λ r had has. ap (λ (p : Place). p.at) ((place_one others types constants first allocator ks s w h a place).places_kept r (owner_elsewhere h a free r had))) (objects_rooted c.keeps (λ name e. absurd e) (λ T e. absurd e))

  -- ---- it no longer owns it

  module _ (b : ℕ) (within : b < 16) (new : List ℕ) (c : OwnedGoes h.pictured b new) (front : KeepsFront w.image new) where
    abbrev released : World
    released = without_owner w new b

    abbrev ks_released : RegisterTypes
    ks_released = slice_set (ended (Class.Register b) ks) b RegisterType.Undefined

    pub shows_released : Shows others types constants first allocator ks_released (set_register s b Register.Undefined) released
    shows_released =
        let n = h.sixteen in
        let o = h.registers.owns in
        let long : length (ended (Class.Register b) ks) ≡ length ks = length-map ks (without_class (Class.Register b)) in
        shows_rooted h ks_released (set_register s b Register.Undefined) released c.later (λ o. o ≡ Origin.Owned b) c.keeps front (agrees_release types constants one ks s b h.as_known)
        (length_set (ended (Class.Register b) ks) b RegisterType.Undefined ∙ long ∙ h.sixteen)
        (record { numbers = h.registers.numbers; positions = h.registers.positions; type_ids = h.registers.type_ids; owns = length_set w.owns b false ∙ h.registers.owns })
        (record { table = refl; input = refl; read = refl; taken = refl; types = refl; state_input = refl; state_output = refl })
        (λ r. elim (cases_eq r b) [
          | inl e ↦
              let known_is : known ks_released b ≡ RegisterType.Undefined = get_or-set_same (ended (Class.Register b) ks) b RegisterType.Undefined RegisterType.Undefined (omega (arith, n, long, within)) in
              let none : owns_in released b ≡ false = get_or-set_same w.owns b false false (omega (arith, o, within)) in
              inr (subst (λ m. Shown c.later released m (known ks_released m) (register (set_register s b Register.Undefined) m)) (sym e)
              (subst (λ k. Shown c.later released b k (register (set_register s b Register.Undefined) b)) (sym known_is) none))
          | inr far ↦
              ended_shown one h (Class.Register b) ks_released (set_register s b Register.Undefined) released c.later (λ o. o ≡ Origin.Owned b) (λ o e. subst (λ x. InClass constants (Class.Register b) x) (sym e) refl) r
              (get_or-set_other (ended (Class.Register b) ks) b r RegisterType.Undefined RegisterType.Undefined far ∙ known_ended (Class.Register b) ks r)
              (get_or-set_other s.registers b r Register.Undefined Register.Undefined far) refl refl (get_or-set_other w.owns b r false false far) (λ e. far (let f : Origin.Owned r ≡ Origin.Owned b = e in cc))
        ])

    pub frame_released : (T : ℕ) → known ks b ≡ RegisterType.Owner T → Frame ks_released w released h.pictured shows_released.pictured
    unfolding shows_released
    frame_released T is = frame_rooted h ks_released (set_register s b Register.Undefined) released c.later (λ o. o ≡ Origin.Owned b) c.keeps front _ _ _ _ _ c.stays (λ r e o.
        let far = owner_apart h b T r is o in
        record { register_is = set_beside s.registers b r Register.Undefined Register.Undefined far; place_is = refl; owns_is = set_beside w.owns b r false false far }) (λ r had has. refl) (objects_rooted c.keeps (λ name e. cc) (λ T e. cc))

  -- an empty path from a register's object refers to its root
  pub owned_root : (b : ℕ) (place : Place) → LeadsInImage h.pictured (path_from (Origin.Owned b)) place → (root : Root) × (root_of_register s.registers h.pictured.owned b ≡ Some root) × (root.at ≡ place.at)
  owned_root b place led =
      let p = root_of_pair (root_of_register s.registers h.pictured.owned b) 0 led.root led.item led.begins in
      let table = h.pictured.picture.table in
      let start : led.root.at + 0 * size table led.root.type ≡ led.root.at = omega arith in
      (led.root, p.0, sym start ∙ ap (λ n. led.root.at + n * size table led.root.type) p.1 ∙ ap (λ (q : Place). q.at) (nowhere_else (item_of table led.root led.item) place led.leads))
    where
      nowhere_else : (p q : Place) → Leads w.image h.pictured.picture.table p [] q → p ≡ q
      nowhere_else p q here = refl

-- ---- the rows

-- a new object is added to the loose ones, at any index
pub record JoinsLoose (allocator : ℕ) (old new : List ℕ) (table : Table) (picture : Picture) (T at : ℕ) : Type 0 where
  pub spends : spent allocator (live old) (length old) (block_for (size table T) ∷ []) [] ≡ Some (live new)
  pub gets : GetsBlock allocator old (size table T) at
  pub joins : (before after : List Root) → picture.loose ≡ before ++ after → LeavesPicture old new (with_roots picture Listed.loose (before ++ new_object table T at ∷ after)) []

-- a root was freed with its blocks, and with the frozen objects that only it shared; the picture is
-- `other`
pub record LeavesWithout (old new : List ℕ) (table : Table) (root : Root) (other : Picture) : Type 0 where
  pub blocks : List ℕ
  pub holds_it : HoldsRoot old table root blocks
  pub theirs : ℕ → List ℕ
  pub holds_shared : HoldFrozen old table theirs other.frozen
  pub shared_kept : KeepFrozen old new theirs (left (names_each root.values) other.frozen)
  pub becomes : LeavesPicture old new (without_cells (names_each root.values) other) (blocks ++ blocks_by theirs other.frozen)
  pub live_is : live new ≡ after_gives (live old) (blocks ++ blocks_by theirs (freed (names_each root.values) other.frozen))

-- the object at this position is removed from the loose ones
abbrev pub LeavesLoose : List ℕ → List ℕ → Table → ℕ → Picture → Type 0
LeavesLoose old new table at picture = (before : List Root) (root : Root) (after : List Root) → picture.loose ≡ before ++ root ∷ after → root.at ≡ at
    → LeavesWithout old new table root (with_roots picture Listed.loose (before ++ after))

-- paths from the other roots refer to the same places
module _ {others : List Root} {types : Table} {constants : List Constant} {first : Option (List ℕ)} {allocator : ℕ} {ks : RegisterTypes} {s : State} {w : World} (h : Shows others types constants first allocator ks s w) where
  pub table_same : w.table ≡ h.pictured.picture.table
  table_same = h.table_is ∙ sym h.pictured.types

  pub holds_same : (root : Root) (blocks : List ℕ) → HoldsRoot w.image w.table root blocks → HoldsRoot w.image h.pictured.picture.table root blocks
  holds_same root blocks holds = subst (λ (t : Table). HoldsRoot w.image t root blocks) table_same holds

  -- adding a root keeps the paths from all others
  pub paths_with : {other : Picture} (new : List ℕ) → LeavesPicture w.image new other [] → AllByRecursion (KeepsPaths w.image new h.pictured.picture.table) (owners_in h.pictured.picture)
  paths_with new c = all_paths w.image new h.pictured.picture h.pictured.held [] c.kept (λ n. omega arith)

  pub frozen_with : {other : Picture} (new : List ℕ) → LeavesPicture w.image new other [] → KeepsFrozen w.image new h.pictured.picture.table h.pictured.picture.frozen h.pictured.picture.frozen
  frozen_with new c = frozen_beside_index h.pictured new [] c.kept (λ n. omega arith)

  -- after one was removed
  pub shared_same : (theirs : ℕ → List ℕ) (fs : List Frozen) → fs ≡ h.pictured.picture.frozen → HoldFrozen w.image w.table theirs fs → HoldFrozen w.image h.pictured.picture.table theirs h.pictured.picture.frozen
  shared_same theirs fs same holds = subst (HoldFrozen w.image h.pictured.picture.table theirs) same (subst (λ (t : Table). HoldFrozen w.image t theirs fs) table_same holds)

  pub paths_without : {other : Picture} (new : List ℕ) (which : Listed) (before : List Root) (root : Root) (after : List Root) → roots_in h.pictured.picture which ≡ before ++ root ∷ after
      → other.frozen ≡ h.pictured.picture.frozen → LeavesWithout w.image new w.table root other
      → AllByRecursion (KeepsPaths w.image new h.pictured.picture.table) (roots_before h.pictured.picture which before ++ owners_after h.pictured.picture which after)
  paths_without {other = other} new which before root after among same c =
      other_paths w.image new h.pictured.picture h.pictured.held (c.blocks ++ blocks_by c.theirs other.frozen) c.becomes.kept which before root after among c.blocks (holds_same root c.blocks c.holds_it)
      c.theirs (shared_same c.theirs other.frozen same c.holds_shared)
      (λ n. let e = times-append n c.blocks (blocks_by c.theirs other.frozen) in let f = ap (λ fs. times n (blocks_by c.theirs fs)) same in omega (arith, e, f))

  pub frozen_without : {other : Picture} (new : List ℕ) (root : Root) → other.frozen ≡ h.pictured.picture.frozen → LeavesWithout w.image new w.table root other
      → KeepsFrozen w.image new h.pictured.picture.table h.pictured.picture.frozen (left (names_each root.values) h.pictured.picture.frozen)
  frozen_without {other = other} new root same c =
      frozen_left h.pictured new c.theirs (shared_same c.theirs other.frozen same c.holds_shared) (names_each root.values)
      (subst (λ fs. KeepFrozen w.image new c.theirs (left (names_each root.values) fs)) same c.shared_kept)

  -- the frozen objects that are freed with it
  pub gone_with : {other : Picture} (new : List ℕ) (root : Root) → other.frozen ≡ h.pictured.picture.frozen → (c : LeavesWithout w.image new w.table root other)
      → FrozenGone w.image h.pictured.picture (names_each root.values) (blocks_by c.theirs (freed (names_each root.values) other.frozen))
  gone_with {other = other} new root same c = record {
    theirs = c.theirs;
    holds = shared_same c.theirs other.frozen same c.holds_shared;
    blocks_are = ap (λ fs. blocks_by c.theirs (freed (names_each root.values) fs)) same;
  }

  -- its blocks, and the blocks of all frozen objects
  pub root_touched : {other : Picture} (new : List ℕ) (root : Root) → other.frozen ≡ h.pictured.picture.frozen → (c : LeavesWithout w.image new w.table root other) → (o : Option Root) → o ≡ Some root
      → Both (OfRoot h.pictured o) (OfFrozen h.pictured) (c.blocks ++ blocks_by c.theirs other.frozen)
  root_touched {other = other} new root same c o is = (
    c.blocks,
    blocks_by c.theirs other.frozen,
    subst (λ (o : Option Root). OfRoot h.pictured o c.blocks) (sym is) (subst (λ (t : Table). HoldsRoot w.image t root c.blocks) h.table_is c.holds_it),
    record { theirs = c.theirs; holds = shared_same c.theirs other.frozen same c.holds_shared; own_is = ap (blocks_by c.theirs) same },
    refl,
  )

module _ (allocator : ℕ) (constants : List Constant) (role : Role) (a b c : ℕ) (number : ℤ) (w : World) (new : List ℕ) where
  abbrev of : Operation → Instruction
  of operation = record { operation = operation; a = a; b = b; c = c; number = number }

  -- NEW gives register a a new object
  pub new_acts : (T at : ℕ) → ((n : ℕ) → number ≡ pos n → T ≡ n % 256) → OfPicture allocator w (λ p. T < length w.table → JoinsLoose allocator w.image new w.table p T at)
      → ActsAs allocator constants role (of Operation.New) w (with_owner w new a (record { at = at; type = T }))
  unfolding rule effect
  new_acts T at names says = lifted_acts refl (λ types others first ks good bad s right valid e h.
      let one = one_each constants right.each right.different in
      let i = of Operation.New in
      let place : Place = record { at = at; type = T } in
      let g = opens_ok types constants ks s h.as_known a (RegisterType.Owner (nat_abs number)) good bad e in
      let t = type_known h.as_known b number T right.table.few names valid.number in
      let call = of_picture h (λ p. T < length w.table → JoinsLoose allocator w.image new w.table p T at) says (subst (λ (z : Table). T < length z) (sym h.table_is) t.1) in
      let root = new_object w.table T at in
      let d = default_of s.types T in
      let values_are : root.values ≡ cons d nil = ap (λ (z : Table). copies 1 (default_of z T)) h.table_is in
      let vacant = not_owner constants s (known ks a) (register s a) g.0 (h.as_known.each a) in
      let n = h.sixteen in
      let m = h.as_known.count in
      let within = valid.a in
      let joined = λ (before after : List Root) (same : h.pictured.picture.loose ≡ before ++ after). call.joins before after same in
      let alone = joined [] h.pictured.picture.loose refl in
      let come = owned_comes h.pictured a (omega (arith, n, m, within)) vacant d T root refl values_are new (λ before after same. let j = joined before after same in (j.held, j.counted)) (paths_with h new alone) (frozen_with h new alone) in
      let fits = default_has s.types h.as_known.typed.forms T t.2.0 t.2.1 in
      let shows = shows_owning one h a within g.0 d place fits root refl refl new come alone.front_kept in
      let good_is : good ≡ slice_set ks a (RegisterType.Owner T) = g.1 ∙ ap (λ u. slice_set ks a (RegisterType.Owner u)) t.0 in
      let row : outcome constants i true s ≡ Some (success, set_register s a (Register.Owner d T)) =
      ap (λ u. give a (Register.Owner (default_of s.types u) u) s) t.0 ∙ answer_is types constants ks s h.as_known success a (Register.Owner d T) g.0 in
      let asked : (block_for (size w.table T) ∷ []) ≡ (block_for (size s.types (nat_abs number)) ∷ []) = ap (λ (z : Table). block_for (size z T) ∷ []) h.table_is ∙ ap (λ u. block_for (size s.types u) ∷ []) (sym t.0) in
      let blocks : GrantsAsks constants i h.pictured new = grants_spent constants i h.pictured allocator h.allocator_is (block_for (size w.table T) ∷ []) asked new [] refl (live new) call.spends refl in
      let gets : AllocatesAt w.image (size s.types (nat_abs number)) at =
      subst (λ n. AllocatesAt w.image n at) (ap (λ (z : Table). size z T) h.table_is ∙ ap (size s.types) (sym t.0)) (gets_block allocator w.image (size w.table T) at h.allocator_is call.gets) in
      let at_there : slice_index_or (slice_set w.positions a at) a 0 ≡ at = get_or-set_same w.positions a at 0 (let p = h.registers.positions in omega (arith, p, within)) in
      let gains : GainsOwners constants i w (with_owner w new a place) h.pictured = λ q o. elim (cases_eq a q) [
        | inl same ↦
            inr (subst (λ r. AllocatesAt w.image (size s.types (nat_abs number)) (slice_index_or (slice_set w.positions a at) r 0)) same
            (subst (AllocatesAt w.image (size s.types (nat_abs number))) (sym at_there) gets))
        | inr far ↦ inl (sym (set_beside w.owns a q true false far) ∙ o)
      ] in
      subst (λ k. Acts others types constants first allocator i success k s w (with_owner w new a place)) (sym good_is)
      (acts_so others types constants first allocator ks s w h i success true (slice_set ks a (RegisterType.Owner T)) (set_register s a (Register.Owner d T)) (with_owner w new a place) gains row
      (changed alone.next_kept refl tt tt (λ t later. tt) (record { spot = nowhere; own = []; touches = (refl, refl); kept = kept_nowhere [] h.pictured.held.laid_out.heap alone.kept }) blocks)
      alone.length_kept alone.front_kept refl shows (frame_owning one h a within g.0 d place fits root refl refl new come alone.front_kept)))

  -- NEW fails if there is no room
  pub new_refused : (T code : ℕ) → ((n : ℕ) → number ≡ pos n → T ≡ n % 256) → OfPicture allocator w (λ p. T < length w.table → (code ≡ answer_number bad_alloc) × Refuses allocator w.image new (block_for (size w.table T) ∷ []))
      → IsRefusedAs allocator constants role (of Operation.New) w (with_number (without_owner w new a) a (pos code))
  unfolding rule effect
  new_refused T code names says = lifted_refused refl (λ types others first ks good bad s right valid e h.
      let i = of Operation.New in
      let g = opens_ok types constants ks s h.as_known a (RegisterType.Owner (nat_abs number)) good bad e in
      let t = type_known h.as_known b number T right.table.few names valid.number in
      let call = of_picture h (λ p. T < length w.table → (code ≡ answer_number bad_alloc) × Refuses allocator w.image new (block_for (size w.table T) ∷ [])) says (subst (λ (z : Table). T < length z) (sym h.table_is) t.1) in
      let same : new ≡ w.image = call.1.same in
      let asked : (block_for (size w.table T) ∷ []) ≡ (block_for (size s.types (nat_abs number)) ∷ []) = ap (λ (z : Table). block_for (size z T) ∷ []) h.table_is ∙ ap (λ u. block_for (size s.types u) ∷ []) (sym t.0) in
      let blocks = denies constants i h.pictured allocator h.allocator_is (block_for (size w.table T) ∷ []) asked w.image (record { no_room = call.1.no_room; same = refl }) in
      let owns : slice_set w.owns a false ≡ w.owns = ap (slice_set w.owns a) (sym (unowned others types constants first allocator ks s w h a g.0)) ∙ set-get_or w.owns a false in
      let world : with_number (without_owner w new a) a (pos code) ≡ with_number w a (pos (answer_number bad_alloc)) =
      ap (λ (image : List ℕ). with_number (without_owner w image a) a (pos code)) same ∙ ap (λ (owns : List Bool). with_number (record w { owns = owns }) a (pos code)) owns ∙ ap (λ (n : ℕ). with_number w a (pos n)) call.0 in
      let row : outcome constants i false s ≡ fail a bad_alloc s = refl in (
        bad_alloc,
        (λ f. cc),
        subst (λ k. Acts others types constants first allocator i bad_alloc k s w (with_number (without_owner w new a) a (pos code))) (sym g.2)
            (subst (λ z. Acts others types constants first allocator i bad_alloc (slice_set ks a RegisterType.Int) s w z) (sym world)
            (refuses_with others types constants first allocator ks s w h i bad_alloc false a valid.a g.0 row (unchanged refl refl blocks))),
      ))

  -- DROP destroys the object of register b
  pub drop_acts : OfPicture allocator w (LeavesLoose w.image new w.table (place_in w b).at) → ActsAs allocator constants role (of Operation.Drop) w (without_owner w new b)
  unfolding rule effect
  drop_acts says = lifted_acts refl (λ types others first ks good bad s right valid e h.
      let one = one_each constants right.each right.different in
      let i = of Operation.Drop in
      let after = slice_set (ended (Class.Register b) ks) b RegisterType.Undefined in
      let p = bind_ok (owner_needed (known ks b)) (λ _. known_after after) (good, bad) e in
      let pair : (after, after) ≡ (good, bad) = Ok_inj p.2 in
      let owner = owner_found types constants one ks s h.as_known (known ks b) (register s b) p.0 p.1 (h.as_known.each b) in
      let shown = subst (λ k. Shown h.pictured w b k (register s b)) owner.0 (h.shown b) in
      let r = owned_root one h b (place_in w b) shown.2 in
      let seat = owned_goes h.pictured b r.0 r.1 in
      let call = of_picture h (LeavesLoose w.image new w.table (place_in w b).at) says seat.before r.0 seat.after seat.among r.2 in
      let goes = seat.goes new (call.becomes.held, call.becomes.counted) (paths_without h new Listed.loose seat.before r.0 seat.after seat.among refl call)
      (frozen_without h new r.0 refl call) in
      let shows = shows_released one h b valid.b new goes call.becomes.front_kept in
      let row : outcome constants i true s ≡ Some (success, set_register s b Register.Undefined) = ap (λ x. owned_by x >>= λ _. proceed (set_register s b Register.Undefined)) owner.1.1 in
      let shared = blocks_by call.theirs (freed (names_each r.0.values) h.pictured.picture.frozen) in
      let returned : RootGoes constants i h.pictured (root_of_register s.registers h.pictured.owned b) (call.blocks ++ shared) =
      subst (λ (o : Option Root). RootGoes constants i h.pictured o (call.blocks ++ shared)) (sym r.1)
      (call.blocks, subst (λ (t : Table). HoldsRoot w.image t r.0 call.blocks) h.table_is call.holds_it, (shared, gone_with h new r.0 refl call, refl)) in
      let blocks : GrantsAsks constants i h.pictured new = record { asks = []; asked = refl; gives = call.blocks ++ shared; returned = returned; blocks = live w.image; granted = refl; left = call.live_is } in
      subst (λ k. Acts others types constants first allocator i success k s w (without_owner w new b)) (ap (λ (r : RegisterTypes × RegisterTypes). r.0) pair)
      (acts_so others types constants first allocator ks s w h i success true after (set_register s b Register.Undefined) (without_owner w new b) (λ r o. inl (owned_less w.owns b r o)) row
      (changed call.becomes.next_kept refl tt tt (λ t later. tt) (record {
        spot = nowhere;
        own = call.blocks ++ blocks_by call.theirs h.pictured.picture.frozen;
        touches = (refl, root_touched h new r.0 refl call (root_of_register s.registers h.pictured.owned b) r.1);
        kept = kept_nowhere _ h.pictured.held.laid_out.heap call.becomes.kept;
      }) blocks) call.becomes.length_kept call.becomes.front_kept refl shows
      (frame_released one h b valid.b new goes call.becomes.front_kept p.0 owner.0)))
