-- Making, finding and destroying named objects, for every state that the world represents.
use Rattle.std.proofs.Common.{◌≡◌, ◌≢◌, ℕ, zero, suc, ◌^◌, ◌<◌, ◌≤◌, ◌⊎◌, inl, inr, ℤ, pos, negsuc, List, [], ◌∷◌, ◌++◌, length, Bool, true, false, Option, Some, None, refl, sym, ◌∙◌, ap, subst, arith}
use Rattle.std.specs.Prelude.{◌+◌, ◌*◌, ◌/◌, ◌%◌, ◌==◌, ◌&&◌, ⊤, Ok, if◌then◌else◌, option_map, slice_get, slice_set, slice_index_or, nat_lt, nat_le, unwrap_or}
use Rattle.std.specs.Option.{option_map_or}
use Rattle.std.specs.Int.Signed.{mag}
use Rattle.std.proofs.lemmas.Bool.{eq-eqb, lt-ltb, ltb-true, le-leb, leb-true}
use Rattle.std.proofs.lemmas.Option.{slice_get_within}
use Rattle.std.proofs.lemmas.List.{length-map}
use Rattle.seg_spec.specs.Bytes.{word}
use Rattle.seg_spec.specs.Header.{allocator_word, next_word, index_kind_word, KeepsFront}
use Rattle.seg_spec.specs.Types.{Table, size}
use Rattle.seg_spec.specs.Value.{Value, nth, count, copies, default_of}
use Rattle.seg_spec.specs.Heap.{live}
use Rattle.seg_spec.specs.Block.{KeepsBlock}
use Rattle.seg_spec.specs.Index.{Root, plain_root, IsName, root_named}
use Rattle.seg_spec.specs.Reads.{Place, Leads, here}
use Rattle.seg_spec.specs.Sound.{Picture, IsHeld, HoldsRoot, times, positions}
use Rattle.seg_spec.specs.Roots.{Listed, with_roots, item_of, KeepsNodes}
use Rattle.seg_spec.specs.Frozen.{blocks_by}
use Rattle.seg_spec.specs.Shared.{names_each, left, freed}
use Rattle.seg_spec.specs.Destroying.{HoldFrozen, KeepFrozen}
use Rattle.seg_spec.specs.Counting.{AreCounted, without_cells, FrozenGone}
use Rattle.seg_spec.specs.Demand.{NoRoom, after_gives, GetsBlock}
use Rattle.seg_spec.specs.Spending.{object_asks, spent, EntryBlocks, killed}
use Rattle.seg_spec.proofs.Heap.LiveBlockLaws.{times-append}
use Rattle.client_spec.specs.declared.table.Operation.{Operation}
use Rattle.client_spec.specs.declared.table.Role.{Role}
use Rattle.client_spec.specs.Syntax.{Constant, Instruction}
use Rattle.client_spec.specs.Machine.{◌>>=◌, Origin, Path, Register, Object, State, with_name, register, set_register, at_origin}
use Rattle.client_spec.specs.Answer.{Answer, success, already_exists, bad_alloc, other_type, out_of_range, answer_number, integer_at, integer_or, object_count, path_from, refer, fail, give_count, type_operand, constant_operand}
use Rattle.client_spec.specs.Effect.{add_object, find_or_add, destroy_object, effect, outcome}
use Rattle.client_spec.specs.Typed.{Class, RegisterType, RegisterTypes, known, is_owner, same_class, without_class, ended, integer_needed, integer_or_none, name_needed, opens, gives, rule, sharing}
use Rattle.client_spec.specs.Typed as typed
use Rattle.client_spec.specs.Meaning.{IsNamedBy, InClass, LeadsToType, IsAsKnown}
use Rattle.client_spec.specs.Pictures.{Pictures, LeadsInImage, object_of}
use Rattle.client_spec.specs.Ties.{nowhere, AllocatesAt, OfRoot, Changes, ObjectsStay, NamesCome}
use Rattle.client_spec.specs.Asks.{NamedGoes, GrantsAsks, Denies, named_asks, name_operand, new_count, if_absent}
use Rattle.client_spec.proofs.TypedStates.ValueFormLaws.{first_of_many}
use Rattle.client_spec.proofs.TypedStates.KnowledgeChangeLaws.{agrees_make, agrees_kill}
use Rattle.client_spec.proofs.TypedStates.ClassLaws.{OneEach, origins_apart, known_ended, agrees_ended}
use Rattle.client_spec.proofs.TypedStates.DefaultLaws.{default_has}
use Rattle.client_spec.proofs.Rows.RuleRowLaws.{bind_ok, opens_ok, answer_is, item_below, nth_below}
use Rattle.client_spec.proofs.TypedStates.ShapeLaws.{all_copies}
use Rattle.client_spec.proofs.Spelling.ConstantNameLaws.{one_each}
use Rattle.client_spec.proofs.TypedStates.StateLaws.{name_there}
use Rattle.client_sim.specs.Shows.{World, number_in, HasRegisters, Shown, Shows, Acts, ChangesImage}
use Rattle.client_sim.specs.Acting.{AreDeclarationsRight, ActsAs, IsRefusedAs}
use Rattle.client_sim.proofs.ImageChangeLaws.{kept_nowhere, nodes_kept, changed, unchanged}
use Rattle.client_sim.proofs.Frozen.UnfoldedOperationLaws.{lifted_acts, lifted_refused}
use Rattle.client_sim.proofs.EffectLaws.{with_place, acts_so, shows_reference, shows_number, refuses_with, frame_number, frame_reference}
use Rattle.client_sim.proofs.FrameLaws.{Frame, frame_same, unknown_same}
use Rattle.client_sim.proofs.Frozen.FrozenPathLaws.{KeepsFrozen, frozen_same_image, frozen_left, frozen_beside_index}
use Rattle.client_sim.proofs.Instructions.FindLaws.{IsNameFor, name_at, first_place}
use Rattle.client_sim.proofs.GrantLaws.{gets_block, grants_spent}
use Rattle.client_sim.proofs.Places.LeafPutLaws.{with_image}
use Rattle.client_sim.proofs.Objects.NameByteLaws.{name_right}
use Rattle.client_sim.proofs.Objects.NamedChangeLaws.{Comes, Goes, Stays, named_comes, named_goes, picture_stays}
use Rattle.client_sim.proofs.Instructions.NumberLaws.{with_number, quiet, gives_both, number_shown, unowned}
use Rattle.client_sim.proofs.Objects.ObjectChangeLaws.{BeginsFrom, KeepsRoots, Remains, SameBesides, all_paths, other_paths, shows_rooted, pictured_rooted, frame_rooted, objects_rooted}
use Rattle.client_sim.proofs.Objects.ObjectPlaceLaws.{objects_same}
use Rattle.client_sim.proofs.Objects.NewObjectLaws.{no_objects_come, name_comes}

-- ---- contracts of calls

-- A claim about each picture of the world's image whose frozen objects are counted, and about the
-- proof that the image has it.
abbrev pub OfHeld : (allocator : ℕ) (w : World) → ((p : Picture) → IsHeld w.image p → Type 0) → Type 0
OfHeld allocator w P = (picture : Picture) (held : IsHeld w.image picture) → AreCounted (word w.image next_word) picture → w.table ≡ picture.table → word w.image allocator_word ≡ allocator → P picture held

-- a new object of n default values
abbrev pub object_root : Table → List ℕ → ℕ → ℕ → ℕ → Root
object_root table name T n at = plain_root name at T (copies n (default_of table T))

module _ (allocator : ℕ) (old : List ℕ) (table : Table) (name : List ℕ) (T : ℕ) (picture : Picture) (index_blocks new : List ℕ) where
  -- the requests for a new object and its entry were granted, and the object is here, in the block
  -- that its own request got
  pub record IsMade (n at : ℕ) : Type 0 where
    pub before : List Root
    pub after : List Root
    pub names_are : picture.names ≡ before ++ after
    pub held : IsHeld new (with_roots picture Listed.by_name (before ++ object_root table name T n at ∷ after))
    pub counted : AreCounted (word new next_word) (with_roots picture Listed.by_name (before ++ object_root table name T n at ∷ after))
    pub long : length new ≡ length old
    pub front : KeepsFront old new
    pub next : word new next_word ≡ word old next_word
    pub kept : (h : ℕ) → 1 ≤ times h (positions (live old)) → times h index_blocks ≡ 0 → KeepsBlock old new h
    pub nodes : KeepsNodes old new index_blocks
    pub left : spent allocator (live old) (length old) (object_asks old table T n name) [] ≡ Some (live new)
    pub gets : GetsBlock allocator old (n * size table T + length name) at

  -- one of the requests had no room
  pub record IsDenied (n : ℕ) : Type 0 where
    pub no_room : NoRoom allocator (live old) (length old) (object_asks old table T n name)
    pub held : IsHeld new picture
    pub counted : AreCounted (word new next_word) picture
    pub long : length new ≡ length old
    pub front : KeepsFront old new
    pub next : word new next_word ≡ word old next_word
    pub kept : (h : ℕ) → 1 ≤ times h (positions (live old)) → KeepsBlock old new h
    pub left : live new ≡ live old

  -- the object of the name and type was destroyed, with the frozen objects that only it shared
  pub record IsLost : Type 0 where
    pub before : List Root
    pub root : Root
    pub after : List Root
    pub names_are : picture.names ≡ before ++ root ∷ after
    pub root_is : killed (root_named picture.names name) T ≡ Some root
    pub objects : List ℕ
    pub entries : List ℕ
    pub holds : HoldsRoot old table root objects
    pub entry : EntryBlocks (word old index_kind_word) old index_blocks root entries
    pub theirs : ℕ → List ℕ
    pub holds_shared : HoldFrozen old table theirs picture.frozen
    pub shared_kept : KeepFrozen old new theirs (left (names_each root.values) picture.frozen)
    pub held : IsHeld new (without_cells (names_each root.values) (with_roots picture Listed.by_name (before ++ after)))
    pub counted : AreCounted (word new next_word) (without_cells (names_each root.values) (with_roots picture Listed.by_name (before ++ after)))
    pub long : length new ≡ length old
    pub front : KeepsFront old new
    pub next : word new next_word ≡ word old next_word
    pub kept : (h : ℕ) → 1 ≤ times h (positions (live old)) → times h ((objects ++ index_blocks) ++ blocks_by theirs picture.frozen) ≡ 0 → KeepsBlock old new h
    pub nodes : KeepsNodes old new index_blocks
    pub left : live new ≡ after_gives (live old) ((objects ++ entries) ++ blocks_by theirs (freed (names_each root.values) picture.frozen))

-- the number in an operand
abbrev pub number_for : ℤ → ℕ → ℤ → ℤ
number_for d c given = if c == 16 then d else given

-- ---- counts

counted : (n : ℕ) → 1 ≤ n → n ≤ 65535 → object_count (pos n) ≡ Some n
counted n some few =
    ap (λ p. if p && nat_le n 65535 then Some n else None) (lt-ltb 0 n some) ∙ ap (λ q. if true && q then Some n else None) (le-leb n 65535 few)

uncounted : (x : ℤ) → ((n : ℕ) → 1 ≤ n → n ≤ 65535 → x ≢ pos n) → object_count x ≡ None
uncounted (negsuc n) h = refl
uncounted (pos n) h = choose (nat_lt 0 n) (nat_le n 65535) refl refl
  where
    choose : (p q : Bool) → nat_lt 0 n ≡ p → nat_le n 65535 ≡ q → object_count (pos n) ≡ None
    choose true true f g = absurd (h n (ltb-true 0 n f) (leb-true n 65535 g) refl)
    choose true false f g = ap (λ p. if p && nat_le n 65535 then Some n else None) f ∙ ap (λ q. if true && q then Some n else None) g
    choose false q f g = ap (λ p. if p && nat_le n 65535 then Some n else None) f

count_copies : (n : ℕ) (v : Value) → count (copies n v) ≡ n
count_copies zero v = refl
count_copies (suc n) v = ap suc (count_copies n v)

-- if KILL destroys nothing, there is no object of this name, or it has another type
why_kept : (T : ℕ) (o : Option Root) → killed o T ≡ None → (o ≡ None) ⊎ ((root : Root) × (o ≡ Some root) × ((root.type == T) ≡ false))
why_kept T None e = inl refl
why_kept T (Some root) e = choose (root.type == T) refl e
  where
    choose : (t : Bool) → (root.type == T) ≡ t → (if t then Some root else None) ≡ None → (Some root ≡ None) ⊎ ((r : Root) × (Some root ≡ Some r) × ((r.type == T) ≡ false))
    choose true f g = cc
    choose false f g = inr (root, refl, f)

why_killed : (T : ℕ) (o : Option Root) (root : Root) → killed o T ≡ Some root → (o ≡ Some root) × ((root.type == T) ≡ true)
why_killed T None root e = cc
why_killed T (Some r) root e = choose (r.type == T) refl e
  where
    choose : (t : Bool) → (r.type == T) ≡ t → (if t then Some r else None) ≡ Some root → (Some r ≡ Some root) × ((root.type == T) ≡ true)
    choose true f g = (g, (let same : r ≡ root = cc in ap (λ (x : Root). x.type == T) (sym same) ∙ f))
    choose false f g = cc

-- ---- worlds with another image

module _ {others : List Root} {types : Table} {constants : List Constant} {first : Option (List ℕ)} {allocator : ℕ} {ks : RegisterTypes} {s : State} {w : World} (h : Shows others types constants first allocator ks s w) where
  pub of_held : (P : (p : Picture) → IsHeld w.image p → Type 0) → OfHeld allocator w P → P h.pictured.picture h.pictured.held
  of_held P f = f h.pictured.picture h.pictured.held h.pictured.counted (h.table_is ∙ sym h.pictured.types) h.allocator_is

  -- after the references of a class end, nothing is known of registers whose paths may end
  pub class_ends : (one : OneEach constants) (class : Class) (Ends : Origin → Type 0) → ((o : Origin) → Ends o → InClass constants class o) → ((r : ℕ) → InClass constants class (Origin.Owned r) → ⊥)
      → (s' : State) (w' : World) → s'.registers ≡ s.registers → w'.numbers ≡ w.numbers → w'.positions ≡ w.positions → w'.type_ids ≡ w.type_ids → w'.owns ≡ w.owns → (later : Pictures others s' w'.image) (r : ℕ)
      → Remains constants Ends ks (ended (sharing class) ks) s s' w w' r ⊎ Shown later w' r (known (ended (sharing class) ks) r) (register s' r)
  class_ends one class Ends ending none s' w' registers numbers positions type_ids owns later r = by (known ks r) refl
    where
      stays : (k : RegisterType) → known ks r ≡ k → without_class (sharing class) k ≡ k → ((o : Origin) → BeginsFrom constants r k o → Ends o → ⊥) → Remains constants Ends ks (ended (sharing class) ks) s s' w w' r
      stays k e same apart = record {
        known_is = known_ended (sharing class) ks r ∙ ap (without_class (sharing class)) e ∙ same ∙ sym e;
        register_is = ap (λ (rs : List Register). slice_index_or rs r Register.Undefined) registers;
        number_is = ap (λ (ns : List ℤ). slice_index_or ns r (pos 0)) numbers;
        place_is = ap (λ (at : List ℕ). record { at = slice_index_or at r 0; type = slice_index_or w'.type_ids r 0 }) positions ∙ ap (λ (ts : List ℕ). record { at = slice_index_or w.positions r 0; type = slice_index_or ts r 0 }) type_ids;
        owns_is = ap (λ (os : List Bool). slice_index_or os r false) owns;
        goes_on = λ o b x. apart o (subst (λ z. BeginsFrom constants r z o) e b) x;
      }

      by : (k : RegisterType) → known ks r ≡ k → Remains constants Ends ks (ended (sharing class) ks) s s' w w' r ⊎ Shown later w' r (known (ended (sharing class) ks) r) (register s' r)
      by RegisterType.Undefined e = inl (stays RegisterType.Undefined e refl (λ o b x. b))
      by RegisterType.Int e = inl (stays RegisterType.Int e refl (λ o b x. b))
      by (RegisterType.Owner T) e = inl (stays (RegisterType.Owner T) e refl (λ o b x. none r (subst (InClass constants class) b (ending o x))))
      by (RegisterType.Reference c T) e = choose (same_class (sharing class) (sharing c)) refl
        where
          choose : (t : Bool) → same_class (sharing class) (sharing c) ≡ t → Remains constants Ends ks (ended (sharing class) ks) s s' w w' r ⊎ Shown later w' r (known (ended (sharing class) ks) r) (register s' r)
          choose true g = inr (subst (λ z. Shown later w' r z (register s' r)) (sym (known_ended (sharing class) ks r ∙ ap (without_class (sharing class)) e ∙ ap (λ t. if t then RegisterType.Undefined else RegisterType.Reference c T) g))
              (ap (λ (os : List Bool). slice_index_or os r false) owns ∙ unowned others types constants first allocator ks s w h r (ap is_owner e)))
          choose false g = inl (stays (RegisterType.Reference c T) e (ap (λ t. if t then RegisterType.Undefined else RegisterType.Reference c T) g)
              (λ o b x. origins_apart constants one class c o o g (ending o x) b refl))

  -- the client's types are the first types of the world
  pub in_table : {T : ℕ} → AreDeclarationsRight types constants → T < length types → T < length w.table
  in_table {T} right below =
      let f = item_below types T below in
      subst (λ (t : Table). T < length t) (sym h.table_is) (slice_get_within s.types T f.0 (h.as_known.same_types T f.0 f.1))

  registers_then : (new : List ℕ) → HasRegisters (with_image w new)
  registers_then new = record { numbers = h.registers.numbers; positions = h.registers.positions; type_ids = h.registers.type_ids; owns = h.registers.owns }

  -- if no path ends, all knowledge stays true
  pub all_stays : (s' : State) (new : List ℕ) (later : Pictures others s' new) → KeepsRoots h.pictured later (λ o. ⊥) → KeepsFront w.image new → IsAsKnown types constants ks s' → s'.registers ≡ s.registers
      → SameBesides w (with_image w new) s s' → (shows : Shows others types constants first allocator ks s' (with_image w new)) × (shows.pictured ≡ later)
  all_stays s' new later keeps front as_known registers besides =
      let each : (r : ℕ) → Remains constants (λ o. ⊥) ks ks s s' w (with_image w new) r ⊎ Shown later (with_image w new) r (known ks r) (register s' r) = λ r. inl (record {
        known_is = refl;
        register_is = ap (λ (rs : List Register). slice_index_or rs r Register.Undefined) registers;
        number_is = refl;
        place_is = refl;
        owns_is = refl;
        goes_on = λ o b x. x;
      }) in (
        shows_rooted h ks s' (with_image w new) later (λ o. ⊥) keeps front as_known h.sixteen (registers_then new) besides each,
        pictured_rooted h ks s' (with_image w new) later (λ o. ⊥) keeps front as_known h.sixteen (registers_then new) besides each,
      )

  -- if paths of a class end, all other knowledge stays true
  pub all_but_class : (one : OneEach constants) (class : Class) (Ends : Origin → Type 0) → ((o : Origin) → Ends o → InClass constants class o) → ((r : ℕ) → InClass constants class (Origin.Owned r) → ⊥)
      → (s' : State) (new : List ℕ) (later : Pictures others s' new) → KeepsRoots h.pictured later Ends → KeepsFront w.image new → IsAsKnown types constants (ended (sharing class) ks) s' → s'.registers ≡ s.registers
      → SameBesides w (with_image w new) s s' → Shows others types constants first allocator (ended (sharing class) ks) s' (with_image w new)
  all_but_class one class Ends ending none s' new later keeps front as_known registers besides =
      shows_rooted h (ended (sharing class) ks) s' (with_image w new) later Ends keeps front as_known (length-map ks (without_class (sharing class)) ∙ h.sixteen) (registers_then new) besides
      (class_ends one class Ends ending none s' (with_image w new) registers refl refl refl refl later)

  pub frame_but_class : (one : OneEach constants) (class : Class) (Ends : Origin → Type 0) (ending : (o : Origin) → Ends o → InClass constants class o) (none : (r : ℕ) → InClass constants class (Origin.Owned r) → ⊥)
      (s' : State) (new : List ℕ) (later : Pictures others s' new) (keeps : KeepsRoots h.pictured later Ends) (front : KeepsFront w.image new) (as_known : IsAsKnown types constants (ended (sharing class) ks) s')
      (registers : s'.registers ≡ s.registers) (besides : SameBesides w (with_image w new) s s')
      → KeepsFrozen w.image new h.pictured.picture.table h.pictured.picture.frozen later.picture.frozen → ObjectsStay h.pictured.picture later.picture
      → Frame (ended (sharing class) ks) w (with_image w new) h.pictured (all_but_class one class Ends ending none s' new later keeps front as_known registers besides).pictured
  unfolding all_but_class
  frame_but_class one class Ends ending none s' new later keeps front as_known registers besides stays objects =
      frame_rooted h (ended (sharing class) ks) s' (with_image w new) later Ends keeps front _ _ _ _ _ stays (unknown_same (ended (sharing class) ks) s s' w new registers) (λ r had has. refl) objects

-- ---- a new object, or none

module _ {others : List Root} {types : Table} {constants : List Constant} {first : Option (List ℕ)} {allocator : ℕ} {ks : RegisterTypes} {s : State} {w : World} (right : AreDeclarationsRight types constants)
    (h : Shows others types constants first allocator ks s w) (a k T : ℕ) (bytes : List ℕ) (by : IsNamedBy (slice_get constants k) bytes) (below : T < length types) (within : a < 16)
    (free : is_owner (known ks a) ≡ false) (i : Instruction) (new : List ℕ) where
  one : OneEach constants
  one = one_each constants right.each right.different

  abbrev pub object_then : ℕ → Object
  object_then n = record { type = T; values = copies n (default_of s.types T) }

  abbrev pub state_then : ℕ → State
  state_then n = record s { names = with_name s.names bytes (Some (object_then n)) }

  abbrev path : Path
  path = path_from (Origin.Name bytes 0)

  -- what was known stays true with the new object
  known_then : (n : ℕ) → 1 ≤ n → root_named h.pictured.picture.names bytes ≡ None → IsAsKnown types constants ks (state_then n)
  known_then n some missing =
      let d = default_of s.types T in
      let f = item_below types T below in
      let fits = default_has s.types h.as_known.typed.forms T f.0 (h.as_known.same_types T f.0 f.1) in
      agrees_make types constants one ks s bytes (object_then n) (h.pictured.names bytes ∙ ap (option_map object_of) missing) (all_copies s.types T n d fits) (positive n d some) h.as_known
    where
      positive : (m : ℕ) (d : Value) → 1 ≤ m → 0 < count (copies m d)
      positive zero d some = absurd (omega (arith, some))
      positive (suc m) d some = omega arith

  pub made : (n at : ℕ) → 1 ≤ n → root_named h.pictured.picture.names bytes ≡ None → IsMade allocator w.image s.types bytes T h.pictured.picture h.pictured.held.index_blocks new n at
      → outcome constants i true s ≡ refer a path (state_then n) → ChangesImage constants i h.pictured success new
      → Acts others types constants first allocator i success (slice_set ks a (RegisterType.Reference (Class.Name k) T)) s w (with_place (with_image w new) a (record { at = at; type = T }))
  made n at some missing m row changes =
      let root = object_root s.types bytes T n at in
      let place : Place = record { at = at; type = T } in
      let paths = all_paths w.image new h.pictured.picture h.pictured.held h.pictured.held.index_blocks m.kept (λ x. omega arith) in
      let comes : Comes h.pictured new m.before root m.after m.names_are missing = named_comes h.pictured new m.before root m.after m.names_are missing m.held m.counted paths
      (frozen_beside_index h.pictured new h.pictured.held.index_blocks m.kept (λ x. omega arith)) in
      let known_now = known_then n some missing in
      let shows = all_stays h (state_then n) new comes.later comes.keeps m.front known_now refl (record { table = refl; input = refl; read = refl; taken = refl; types = refl; state_input = refl; state_output = refl }) in
      let some_value = first_of_many n (default_of s.types T) some in
      let there : at_origin (state_then n) (Origin.Name bytes 0) ≡ Some (some_value.0, T) =
      ap (λ (o : Option Object). o >>= λ y. nth y.values 0 >>= λ v. Some (v, y.type)) (name_there s.names bytes (Some (object_then n))) ∙ ap (λ (o : Option Value). o >>= λ v. Some (v, T)) some_value.1 in
      let typed_so : LeadsToType (state_then n) path T = record {
        value = some_value.0;
        there = ap (λ (o : Option (Value × ℕ)). o >>= λ r. Some r.0) there;
        typed = ap (λ (o : Option (Value × ℕ)). o >>= λ r. Some r.1) there;
      } in
      let table = comes.later.picture.table in
      let led : LeadsInImage comes.later path place = record { root = root; item = 0; begins = comes.begins; leads = subst (λ p. Leads new table (item_of table root 0) [] p) (first_place table root at T refl refl) here } in
      acts_so others types constants first allocator ks s w h i success true (slice_set ks a (RegisterType.Reference (Class.Name k) T)) (set_register (state_then n) a (Register.Reference path))
      (with_place (with_image w new) a place) (λ r o. inl o) (row ∙ answer_is types constants ks (state_then n) known_now success a (Register.Reference path) free) changes m.long m.front refl
      (shows_reference others types constants first allocator ks (state_then n) (with_image w new) shows.0 a (Class.Name k) T path place within free by typed_so refl
      (subst (λ p. LeadsInImage p path place) (sym shows.1) led))
      (frame_reference others types constants first allocator ks (state_then n) (with_image w new) shows.0 a _ _ _ _ _ _ _ _ _ _
      (subst (λ p. Frame ks w (with_image w new) h.pictured p) (sym shows.1) (record {
        frozen = comes.stays;
        unknown = unknown_same ks s (state_then n) w new refl;
        owners = λ r had has. refl;
        objects = objects_rooted comes.keeps (λ name e. absurd e) (λ U e. absurd e);
      })))

  -- the new object is in the block that the request for it gets
  pub comes : (n at : ℕ) → IsMade allocator w.image s.types bytes T h.pictured.picture h.pictured.held.index_blocks new n at → (t : State) (later : Pictures others t new) → NamesCome i h.pictured later
  comes n at m t later =
      let root = object_root s.types bytes T n at in
      let gets = gets_block allocator w.image (n * size s.types T + length bytes) at h.allocator_is m.gets in
      name_comes i h.pictured later m.before root m.after m.names_are m.held
      (subst (λ c. AllocatesAt w.image (c * size s.types T + length bytes) at) (sym (count_copies n (default_of s.types T))) gets)

  pub not_made : (n code : ℕ) → code ≡ answer_number bad_alloc → IsDenied allocator w.image s.types bytes T h.pictured.picture h.pictured.held.index_blocks new n
      → outcome constants i false s ≡ fail a bad_alloc s → ChangesImage constants i h.pictured bad_alloc new
      → Acts others types constants first allocator i bad_alloc (slice_set ks a RegisterType.Int) s w (with_number (with_image w new) a (pos code))
  not_made n code code_is d row changes =
      let paths = all_paths w.image new h.pictured.picture h.pictured.held [] (λ x some gone. d.kept x some) (λ x. omega arith) in
      let stays : Stays h.pictured new = picture_stays h.pictured new d.held d.counted paths
      (frozen_beside_index h.pictured new [] (λ x some gone. d.kept x some) (λ x. omega arith)) in
      let shows = all_stays h s new stays.later stays.keeps d.front h.as_known refl (record { table = refl; input = refl; read = refl; taken = refl; types = refl; state_input = refl; state_output = refl }) in
      let x : Register = Register.Int (pos 2) in
      subst (λ m. Acts others types constants first allocator i bad_alloc (slice_set ks a RegisterType.Int) s w (with_number (with_image w new) a (pos m))) (sym code_is)
      (acts_so others types constants first allocator ks s w h i bad_alloc false (slice_set ks a RegisterType.Int) (set_register s a x) (with_number (with_image w new) a (pos 2)) (λ r o. inl o)
      (row ∙ answer_is types constants ks s h.as_known bad_alloc a x free) changes d.long d.front refl
      (shows_number others types constants first allocator ks s (with_image w new) shows.0 a (pos 2) within free)
      (frame_number others types constants first allocator ks s (with_image w new) shows.0 a _ _ _
      (subst (λ p. Frame ks w (with_image w new) h.pictured p) (sym shows.1) (record {
        frozen = stays.stays;
        unknown = unknown_same ks s s w new refl;
        owners = λ r had has. refl;
        objects = objects_rooted stays.keeps (λ name e. absurd e) (λ U e. absurd e);
      }))))

  -- register a gets an error code, and nothing else changes
  pub refused : (answer : Answer) (code : ℕ) → code ≡ answer_number answer → new ≡ w.image → outcome constants i true s ≡ fail a answer s → ChangesImage constants i h.pictured answer w.image
      → Acts others types constants first allocator i answer (slice_set ks a RegisterType.Int) s w (with_number (with_image w new) a (pos code))
  refused answer code code_is same row changes =
      subst (λ m. Acts others types constants first allocator i answer (slice_set ks a RegisterType.Int) s w (with_number (with_image w new) a (pos m))) (sym code_is)
      (subst (λ z. Acts others types constants first allocator i answer (slice_set ks a RegisterType.Int) s w (with_number (with_image w z) a (pos (answer_number answer)))) (sym same)
      (refuses_with others types constants first allocator ks s w h i answer true a within free row changes))

-- ---- an object is destroyed

module _ {others : List Root} {types : Table} {constants : List Constant} {first : Option (List ℕ)} {allocator : ℕ} {ks : RegisterTypes} {s : State} {w : World} (right : AreDeclarationsRight types constants)
    (h : Shows others types constants first allocator ks s w) (a k T : ℕ) (bytes : List ℕ) (by : IsNamedBy (slice_get constants k) bytes) (within : a < 16)
    (free : is_owner (known (ended (Class.Name k) ks) a) ≡ false) (i : Instruction) where
  abbrev class : Class
  class = Class.Name k

  abbrev pub state_after : State
  state_after = record s { names = with_name s.names bytes None }

  abbrev paths_end : Origin → Type 0
  paths_end o = (item : ℕ) × (o ≡ Origin.Name bytes item)

  its_class : (o : Origin) → paths_end o → InClass constants class o
  its_class o e = subst (InClass constants class) (sym e.1) by

  pub lost : (new : List ℕ) → IsLost allocator w.image s.types bytes T h.pictured.picture h.pictured.held.index_blocks new
      → outcome constants i true s ≡ give_count a 1 state_after → ChangesImage constants i h.pictured success new
      → Acts others types constants first allocator i success (slice_set (ended (sharing class) ks) a RegisterType.Int) s w (with_number (with_image w new) a (pos 1))
  lost new m row changes =
      let one = one_each constants right.each right.different in
      let picture = h.pictured.picture in
      let held = h.pictured.held in
      let root_is = (why_killed T (root_named picture.names bytes) m.root m.root_is).0 in
      let holds : HoldsRoot w.image picture.table m.root m.objects = subst (λ (t : Table). HoldsRoot w.image t m.root m.objects) (sym h.pictured.types) m.holds in
      let shared = subst (λ (t : Table). HoldFrozen w.image t m.theirs picture.frozen) (sym h.pictured.types) m.holds_shared in
      let paths = other_paths w.image new picture held ((m.objects ++ held.index_blocks) ++ blocks_by m.theirs picture.frozen) m.kept Listed.by_name m.before m.root m.after m.names_are m.objects holds m.theirs shared
      (λ x. let e = times-append x m.objects held.index_blocks in let f = times-append x (m.objects ++ held.index_blocks) (blocks_by m.theirs picture.frozen) in omega (arith, e, f)) in
      let goes : Goes h.pictured new m.before m.root m.after m.names_are bytes root_is = named_goes h.pictured new m.before m.root m.after m.names_are bytes root_is m.held m.counted paths
      (frozen_left h.pictured new m.theirs shared (names_each m.root.values) m.shared_kept) in
      let known_now = agrees_kill types constants one ks s k bytes by h.as_known in
      let shows = all_but_class h one class paths_end its_class (λ r z. z) state_after new goes.later goes.keeps m.front known_now refl
      (record { table = refl; input = refl; read = refl; taken = refl; types = refl; state_input = refl; state_output = refl }) in
      acts_so others types constants first allocator ks s w h i success true (slice_set (ended (sharing class) ks) a RegisterType.Int) (set_register state_after a (Register.Int (pos 1))) (with_number (with_image w new) a (pos 1))
      (λ r o. inl o)
      (row ∙ answer_is types constants (ended (sharing class) ks) state_after known_now success a (Register.Int (pos 1)) free) changes m.long m.front refl
      (shows_number others types constants first allocator (ended (sharing class) ks) state_after (with_image w new) shows a (pos 1) within free)
      (frame_number others types constants first allocator _ state_after (with_image w new) shows a _ _ _ (frame_but_class h one class paths_end _ _ state_after new goes.later goes.keeps m.front known_now _ _ goes.stays
      (objects_rooted goes.keeps (λ name e. subst (λ n. root_named goes.later.picture.names n ≡ None) (let f : bytes ≡ name = (let g = e.1 in cc) in f) goes.none) (λ U e. (let g = e.1 in cc)))))

  -- if there is no such object, KILL gives 0, and the references end nevertheless
  pub not_lost : outcome constants i true s ≡ give_count a 0 s → ChangesImage constants i h.pictured success w.image
      → Acts others types constants first allocator i success (slice_set (ended (sharing class) ks) a RegisterType.Int) s w (with_number w a (pos 0))
  not_lost row changes =
      let one = one_each constants right.each right.different in
      let known_now = agrees_ended types constants one (sharing class) ks s h.as_known in
      let keeps : KeepsRoots {old = w.image} {new = w.image} h.pictured h.pictured paths_end = record { table = refl; begins = λ o root item e. inr (e, λ j path target lt led. led) } in
      let shows = all_but_class h one class paths_end its_class (λ r z. z) s w.image h.pictured keeps refl known_now refl
      (record { table = refl; input = refl; read = refl; taken = refl; types = refl; state_input = refl; state_output = refl }) in
      acts_so others types constants first allocator ks s w h i success true (slice_set (ended (sharing class) ks) a RegisterType.Int) (set_register s a (Register.Int (pos 0))) (with_number w a (pos 0)) (λ r o. inl o)
      (row ∙ answer_is types constants (ended (sharing class) ks) s known_now success a (Register.Int (pos 0)) free) changes refl refl refl
      (shows_number others types constants first allocator (ended (sharing class) ks) s w shows a (pos 0) within free)
      (frame_number others types constants first allocator _ s w shows a _ _ _
      (frame_but_class h one class paths_end _ _ s w.image h.pictured keeps refl known_now _ _ (frozen_same_image h.pictured) (objects_same refl)))

-- ---- the instructions

module _ (allocator : ℕ) (constants : List Constant) (role : Role) (a b c : ℕ) (number : ℤ) (w : World) (T : ℕ) (bytes : List ℕ) (names : (n : ℕ) → number ≡ pos n → T ≡ n / 256 % 256)
    (named : IsNameFor constants number (number_in w b) bytes) where
  abbrev on : Operation → Instruction
  on operation = record { operation = operation; a = a; b = b; c = c; number = number }

  abbrev k : ℕ
  k = constant_operand number

  -- how many values a new object will have
  abbrev wanted : ℤ
  wanted = number_for (pos 1) c (number_in w c)

  wanted_shown : (others : List Root) (types : Table) (first : Option (List ℕ)) (ks : RegisterTypes) (s : State) (h : Shows others types constants first allocator ks s w) (u : ⊤)
      → integer_or_none c ks ≡ Ok u → integer_or (pos 1) c s ≡ Some wanted
  wanted_shown others types first ks s h u e = choose (c == 16) refl e
    where
      choose : (t : Bool) → (c == 16) ≡ t → (if t then Ok tt else integer_needed (known ks c)) ≡ Ok u → integer_or (pos 1) c s ≡ Some wanted
      choose true f g = ap (λ t. if t then Some (pos 1) else integer_at s c) f ∙ sym (ap (λ t. Some (if t then pos 1 else number_in w c)) f)
      choose false f g = ap (λ t. if t then Some (pos 1) else integer_at s c) f ∙ number_shown others types constants first allocator ks s w h c u g ∙ sym (ap (λ t. Some (if t then pos 1 else number_in w c)) f)

  -- the requests if there is no object of the name
  asks_are : (operation : Operation) (s : State) (n : ℕ) → name_operand constants (on operation) s ≡ Some bytes → new_count operation (on operation) s ≡ Some n → s.names bytes ≡ None → type_operand number ≡ T
      → object_asks w.image s.types T n bytes ≡ named_asks constants (on operation) s w.image
  asks_are operation s n name_is count_is none type_is =
      sym (ap (λ o. unwrap_or (o >>= λ name. new_count operation (on operation) s >>= λ n. Some (if_absent (s.names name) (object_asks w.image s.types (type_operand number) n name))) []) name_is
      ∙ ap (λ o. unwrap_or (o >>= λ n. Some (if_absent (s.names bytes) (object_asks w.image s.types (type_operand number) n bytes))) []) count_is
      ∙ ap (λ o. if_absent o (object_asks w.image s.types (type_operand number) n bytes)) none
      ∙ ap (λ t. object_asks w.image s.types t n bytes) type_is)

  -- if there is an object of the name, there are no requests
  asks_none : (operation : Operation) (s : State) (n : ℕ) (o : Object) → name_operand constants (on operation) s ≡ Some bytes → new_count operation (on operation) s ≡ Some n → s.names bytes ≡ Some o
      → [] ≡ named_asks constants (on operation) s w.image
  asks_none operation s n o name_is count_is there =
      sym (ap (λ o. unwrap_or (o >>= λ name. new_count operation (on operation) s >>= λ n. Some (if_absent (s.names name) (object_asks w.image s.types (type_operand number) n name))) []) name_is
      ∙ ap (λ o. unwrap_or (o >>= λ n. Some (if_absent (s.names bytes) (object_asks w.image s.types (type_operand number) n bytes))) []) count_is
      ∙ ap (λ o. if_absent o (object_asks w.image s.types (type_operand number) n bytes)) there)

  -- the object of the name
  named_here : (operation : Operation) {others : List Root} {s : State} (pictured : Pictures others s w.image) → name_operand constants (on operation) s ≡ Some bytes
      → (name_operand constants (on operation) s >>= λ name. root_named pictured.picture.names name) ≡ root_named pictured.picture.names bytes
  named_here operation pictured name_is = ap (λ (o : Option (List ℕ)). o >>= λ name. root_named pictured.picture.names name) name_is

  -- ---- MAKE

  make_row : (s : State) (room : Bool) → name_operand constants (on Operation.Make) s ≡ Some bytes → type_operand number ≡ T → integer_or (pos 1) c s ≡ Some wanted
      → outcome constants (on Operation.Make) room s ≡ option_map_or (λ n. add_object a bytes T (s.names bytes) n room s) (object_count wanted) (fail a out_of_range s)
  unfolding effect
  make_row s room name_is type_is count_is =
      ap (λ (o : Option (List ℕ)). o >>= λ name. integer_or (pos 1) c s >>= λ x. option_map_or (λ n. add_object a name (type_operand number) (s.names name) n room s) (object_count x) (fail a out_of_range s)) name_is
      ∙ ap (λ (o : Option ℤ). o >>= λ x. option_map_or (λ n. add_object a bytes (type_operand number) (s.names bytes) n room s) (object_count x) (fail a out_of_range s)) count_is
      ∙ ap (λ t. option_map_or (λ n. add_object a bytes t (s.names bytes) n room s) (object_count wanted) (fail a out_of_range s)) type_is

  -- an object of n values was made here
  pub record MakesHere (picture : Picture) (index_blocks new : List ℕ) (at : ℕ) : Type 0 where
    pub values : ℕ
    pub wanted_is : wanted ≡ pos values
    pub some : 1 ≤ values
    pub few : values ≤ 65535
    pub missing : root_named picture.names bytes ≡ None
    pub its : IsMade allocator w.image w.table bytes T picture index_blocks new values at

  pub make_acts : (new : List ℕ) (at : ℕ) → OfHeld allocator w (λ p held. T < length w.table → MakesHere p held.index_blocks new at)
      → ActsAs allocator constants role (on Operation.Make) w (with_place (with_image w new) a (record { at = at; type = T }))
  unfolding rule
  make_acts new at says = lifted_acts refl (λ types others first ks good bad s right valid e h.
      let i = on Operation.Make in
      let t = type_operand number in
      let p = bind_ok (name_needed (slice_get constants k) (known ks b)) (λ _. typed.◌>>=◌ (integer_or_none c ks) (λ _. opens a (RegisterType.Reference (Class.Name k) t) ks)) (good, bad) e in
      let q = bind_ok (integer_or_none c ks) (λ _. opens a (RegisterType.Reference (Class.Name k) t) ks) (good, bad) p.2 in
      let g = opens_ok types constants ks s h.as_known a (RegisterType.Reference (Class.Name k) t) good bad q.2 in
      let n = name_at allocator constants role a b c number w T bytes names named right valid.number h p.0 p.1 in
      let index = wanted_shown others types first ks s h q.0 q.1 in
      let m = of_held h (λ p held. T < length w.table → MakesHere p held.index_blocks new at) says (in_table h right n.below) in
      let its = subst (λ (t : Table). IsMade allocator w.image t bytes T h.pictured.picture h.pictured.held.index_blocks new m.values at) h.table_is m.its in
      let none : s.names bytes ≡ None = n.object ∙ ap (option_map object_of) m.missing in
      let count_is : object_count wanted ≡ Some m.values = ap object_count m.wanted_is ∙ counted m.values m.some m.few in
      let row = make_row s true n.name_is n.type_is index
      ∙ ap (λ (o : Option ℕ). option_map_or (λ n. add_object a bytes T (s.names bytes) n true s) o (fail a out_of_range s)) count_is
      ∙ ap (λ (o : Option Object). add_object a bytes T o m.values true s) none in
      let asked = asks_are Operation.Make s m.values n.name_is (ap (λ (o : Option ℤ). o >>= object_count) index ∙ count_is) none n.type_is in
      let blocks = grants_spent constants i h.pictured allocator h.allocator_is (object_asks w.image s.types T m.values bytes) asked new [] refl (live new) its.left refl in
      subst (λ z. Acts others types constants first allocator i success z s w (with_place (with_image w new) a (record { at = at; type = T }))) (sym (g.1 ∙ ap (λ n. slice_set ks a (RegisterType.Reference (Class.Name k) n)) n.type_is))
      (made right h a k T bytes n.by n.below valid.a g.0 i new m.values at m.some m.missing its row (changed its.next refl its.nodes tt (comes right h a k T bytes n.by n.below valid.a g.0 i new m.values at its) (record {
        spot = nowhere;
        own = h.pictured.held.index_blocks;
        touches = (refl, refl);
        kept = kept_nowhere _ h.pictured.held.laid_out.heap its.kept;
      }) blocks)))

  -- the count was wrong, there was such an object, or there was no room
  abbrev pub RefusesToMake : (code : ℕ) (picture : Picture) (index_blocks new : List ℕ) → Type 0
  RefusesToMake code picture index_blocks new =
      ((code ≡ answer_number out_of_range) × (new ≡ w.image) × (((n : ℕ) → 1 ≤ n → n ≤ 65535 → wanted ≢ pos n)
      ⊎ ((mag (number_in w b) < 2 ^ 63) × (IsName bytes → (n : ℕ) → 1 ≤ n → n ≤ 65535 → wanted ≢ pos n))))
      ⊎ (((n : ℕ) × (wanted ≡ pos n) × (1 ≤ n) × (n ≤ 65535) × (code ≡ answer_number already_exists) × (new ≡ w.image) × ((root : Root) × (root_named picture.names bytes ≡ Some root)))
      ⊎ ((n : ℕ) × (wanted ≡ pos n) × (1 ≤ n) × (n ≤ 65535) × (code ≡ answer_number bad_alloc) × (root_named picture.names bytes ≡ None) × IsDenied allocator w.image w.table bytes T picture index_blocks new n))

  pub make_refused : (new : List ℕ) (code : ℕ) → OfHeld allocator w (λ p held. T < length w.table → RefusesToMake code p held.index_blocks new)
      → IsRefusedAs allocator constants role (on Operation.Make) w (with_number (with_image w new) a (pos code))
  unfolding rule
  make_refused new code says = lifted_refused refl (λ types others first ks good bad s right valid e h.
      let i = on Operation.Make in
      let t = type_operand number in
      let p = bind_ok (name_needed (slice_get constants k) (known ks b)) (λ _. typed.◌>>=◌ (integer_or_none c ks) (λ _. opens a (RegisterType.Reference (Class.Name k) t) ks)) (good, bad) e in
      let q = bind_ok (integer_or_none c ks) (λ _. opens a (RegisterType.Reference (Class.Name k) t) ks) (good, bad) p.2 in
      let g = opens_ok types constants ks s h.as_known a (RegisterType.Reference (Class.Name k) t) good bad q.2 in
      let n = name_at allocator constants role a b c number w T bytes names named right valid.number h p.0 p.1 in
      let index = wanted_shown others types first ks s h q.0 q.1 in
      let row = λ (room : Bool). make_row s room n.name_is n.type_is index in
      let after = λ (o : Option ℕ) (room : Bool). option_map_or (λ n. add_object a bytes T (s.names bytes) n room s) o (fail a out_of_range s) in
      let bad_is = λ (answer : Answer) (x : Acts others types constants first allocator i answer (slice_set ks a RegisterType.Int) s w (with_number (with_image w new) a (pos code))).
      subst (λ z. Acts others types constants first allocator i answer z s w (with_number (with_image w new) a (pos code))) (sym g.2) x in
      elim (of_held h (λ p held. T < length w.table → RefusesToMake code p held.index_blocks new) says (in_table h right n.below)) [
        | inl f ↦
            let none : (m : ℕ) → 1 ≤ m → m ≤ 65535 → wanted ≢ pos m = elim f.2 [ inl x ↦ x | inr x ↦ x.1 (name_right n.constant (number_in w b) bytes n.is_constant x.0 n.shown) ] in (
              out_of_range,
              (λ q. cc),
              bad_is out_of_range (refused right h a k T bytes n.by n.below valid.a g.0 i new out_of_range code f.0 f.1
                  (row true ∙ ap (λ o. after o true) (uncounted wanted none)) (unchanged refl refl refl)),
            )
        | inr (inl f) ↦ (
          already_exists,
          λ q. cc,
          bad_is already_exists (refused right h a k T bytes n.by n.below valid.a g.0 i new already_exists code f.4 f.5
              (row true ∙ ap (λ o. after o true) (ap object_count f.1 ∙ counted f.0 f.2 f.3) ∙ ap (λ (o : Option Object). add_object a bytes T o f.0 true s) (n.object ∙ ap (option_map object_of) f.6.1)) (unchanged refl refl refl)),
        )
        | inr (inr f) ↦
            let none : s.names bytes ≡ None = n.object ∙ ap (option_map object_of) f.5 in
            let count_is : object_count wanted ≡ Some f.0 = ap object_count f.1 ∙ counted f.0 f.2 f.3 in
            let its = subst (λ (t : Table). IsDenied allocator w.image t bytes T h.pictured.picture h.pictured.held.index_blocks new f.0) h.table_is f.6 in
            let asked = asks_are Operation.Make s f.0 n.name_is (ap (λ (o : Option ℤ). o >>= object_count) index ∙ count_is) none n.type_is in
            let blocks : Denies constants i h.pictured new = record {
              asks = object_asks w.image s.types T f.0 bytes;
              asked = asked;
              no_room = subst (λ z. NoRoom z (live w.image) (length w.image) (object_asks w.image s.types T f.0 bytes)) (sym h.allocator_is) its.no_room;
              left = its.left;
            } in (
              bad_alloc,
              (λ q. cc),
              bad_is bad_alloc (not_made right h a k T bytes n.by n.below valid.a g.0 i new f.0 code f.4 its
                  (row false ∙ ap (λ o. after o false) count_is ∙ ap (λ (o : Option Object). add_object a bytes T o f.0 false s) none)
                  (changed its.next refl (nodes_kept h.pictured.held its.kept) tt (λ t later. no_objects_come i h.pictured later its.held Operation.Make)
                  (record { spot = nowhere; own = h.pictured.held.index_blocks; touches = (refl, refl); kept = kept_nowhere _ h.pictured.held.laid_out.heap (λ x some away. its.kept x some) }) blocks)),
            )
      ])

  -- ---- FINDOR

  find_or_row : (s : State) (room : Bool) → name_operand constants (on Operation.FindOrMake) s ≡ Some bytes → type_operand number ≡ T
      → outcome constants (on Operation.FindOrMake) room s ≡ find_or_add a bytes T (s.names bytes) room s
  unfolding effect
  find_or_row s room name_is type_is =
      ap (λ (o : Option (List ℕ)). o >>= λ name. find_or_add a name (type_operand number) (s.names name) room s) name_is ∙ ap (λ t. find_or_add a bytes t (s.names bytes) room s) type_is

  -- the object existed, or one with one value was made
  abbrev pub FindsOrMakesHere : (picture : Picture) (index_blocks new : List ℕ) (at : ℕ) → Type 0
  FindsOrMakesHere picture index_blocks new at =
      ((root : Root) × (root_named picture.names bytes ≡ Some root) × (root.type ≡ T) × (root.at ≡ at) × (new ≡ w.image))
      ⊎ ((root_named picture.names bytes ≡ None) × IsMade allocator w.image w.table bytes T picture index_blocks new 1 at)

  pub find_or_make_acts : (new : List ℕ) (at : ℕ) → OfHeld allocator w (λ p held. T < length w.table → FindsOrMakesHere p held.index_blocks new at)
      → ActsAs allocator constants role (on Operation.FindOrMake) w (with_place (with_image w new) a (record { at = at; type = T }))
  unfolding rule
  find_or_make_acts new at says = lifted_acts refl (λ types others first ks good bad s right valid e h.
      let i = on Operation.FindOrMake in
      let t = type_operand number in
      let place : Place = record { at = at; type = T } in
      let p = bind_ok (name_needed (slice_get constants k) (known ks b)) (λ _. opens a (RegisterType.Reference (Class.Name k) t) ks) (good, bad) e in
      let g = opens_ok types constants ks s h.as_known a (RegisterType.Reference (Class.Name k) t) good bad p.2 in
      let n = name_at allocator constants role a b c number w T bytes names named right valid.number h p.0 p.1 in
      let good_is : good ≡ slice_set ks a (RegisterType.Reference (Class.Name k) T) = g.1 ∙ ap (λ n. slice_set ks a (RegisterType.Reference (Class.Name k) n)) n.type_is in
      let row = find_or_row s true n.name_is n.type_is in
      elim (of_held h (λ p held. T < length w.table → FindsOrMakesHere p held.index_blocks new at) says (in_table h right n.below)) [
        | inl f ↦
            let root = f.0 in
            let object : s.names bytes ≡ Some (object_of root) = n.object ∙ ap (option_map object_of) f.1 in
            let v = nth_below root.values 0 (h.as_known.typed.counts bytes (object_of root) object) in
            let path = path_from (Origin.Name bytes 0) in
            let there : at_origin s (Origin.Name bytes 0) ≡ Some (v.0, root.type) =
            ap (λ (o : Option Object). o >>= λ y. nth y.values 0 >>= λ v. Some (v, y.type)) object ∙ ap (λ (o : Option Value). o >>= λ v. Some (v, root.type)) v.1 in
            let typed_so : LeadsToType s path T = record {
              value = v.0;
              there = ap (λ (o : Option (Value × ℕ)). o >>= λ r. Some r.0) there;
              typed = ap (λ (o : Option (Value × ℕ)). o >>= λ r. Some r.1) there ∙ ap Some f.2;
            } in
            let table = h.pictured.picture.table in
            let led : LeadsInImage h.pictured path place = record {
              root = root;
              item = 0;
              begins = ap (λ (o : Option Root). option_map {T = Root} {U = Root × ℕ} (λ root. (root, 0)) o) f.1;
              leads = subst (λ p. Leads w.image table (item_of table root 0) [] p) (first_place table root at T f.3 f.2) here;
            } in
            let here_row = row ∙ ap (λ (o : Option Object). find_or_add a bytes T o true s) object
            ∙ ap (λ z. if z then refer a path s else fail a other_type s) (eq-eqb root.type T f.2)
            ∙ answer_is types constants ks s h.as_known success a (Register.Reference path) g.0 in
            subst (λ z. Acts others types constants first allocator i success z s w (with_place (with_image w new) a place)) (sym good_is)
            (subst (λ z. Acts others types constants first allocator i success (slice_set ks a (RegisterType.Reference (Class.Name k) T)) s w (with_place (with_image w z) a place)) (sym f.4)
            (acts_so others types constants first allocator ks s w h i success true (slice_set ks a (RegisterType.Reference (Class.Name k) T)) (set_register s a (Register.Reference path)) (with_place w a place) (λ r o. inl o) here_row
            (unchanged refl refl (quiet constants i h.pictured (asks_none Operation.FindOrMake s 1 (object_of root) n.name_is refl object) refl)) refl refl refl
            (shows_reference others types constants first allocator ks s w h a (Class.Name k) T path place valid.a g.0 n.by typed_so refl led)
            (frame_reference others types constants first allocator ks s w h a _ _ _ _ _ _ _ _ _ _ (frame_same _ _ _))))
        | inr f ↦
            let its = subst (λ (t : Table). IsMade allocator w.image t bytes T h.pictured.picture h.pictured.held.index_blocks new 1 at) h.table_is f.1 in
            let none : s.names bytes ≡ None = n.object ∙ ap (option_map object_of) f.0 in
            let asked = asks_are Operation.FindOrMake s 1 n.name_is refl none n.type_is in
            let blocks = grants_spent constants i h.pictured allocator h.allocator_is (object_asks w.image s.types T 1 bytes) asked new [] refl (live new) its.left refl in
            subst (λ z. Acts others types constants first allocator i success z s w (with_place (with_image w new) a place)) (sym good_is)
            (made right h a k T bytes n.by n.below valid.a g.0 i new 1 at (omega arith) f.0 its (row ∙ ap (λ (o : Option Object). find_or_add a bytes T o true s) none)
            (changed its.next refl ((λ root some. absurd (let g : Some root ≡ None = sym some ∙ named_here Operation.FindOrMake h.pictured n.name_is ∙ f.0 in cc)), its.nodes) tt
            (comes right h a k T bytes n.by n.below valid.a g.0 i new 1 at its)
            (record { spot = nowhere; own = h.pictured.held.index_blocks; touches = (refl, refl); kept = kept_nowhere _ h.pictured.held.laid_out.heap its.kept }) blocks))
      ])

  -- it has another type, there was no room, or the bytes are no name
  abbrev pub RefusesToFind : (code : ℕ) (picture : Picture) (index_blocks new : List ℕ) → Type 0
  RefusesToFind code picture index_blocks new =
      (IsName bytes → ⊥)
      ⊎ (((code ≡ answer_number other_type) × (new ≡ w.image) × ((root : Root) × (root_named picture.names bytes ≡ Some root) × ((root.type == T) ≡ false)))
      ⊎ ((code ≡ answer_number bad_alloc) × (root_named picture.names bytes ≡ None) × IsDenied allocator w.image w.table bytes T picture index_blocks new 1))

  pub find_or_make_refused : (new : List ℕ) (code : ℕ) → mag (number_in w b) < 2 ^ 63 → OfHeld allocator w (λ p held. T < length w.table → RefusesToFind code p held.index_blocks new)
      → IsRefusedAs allocator constants role (on Operation.FindOrMake) w (with_number (with_image w new) a (pos code))
  unfolding rule
  find_or_make_refused new code small says = lifted_refused refl (λ types others first ks good bad s right valid e h.
      let i = on Operation.FindOrMake in
      let t = type_operand number in
      let p = bind_ok (name_needed (slice_get constants k) (known ks b)) (λ _. opens a (RegisterType.Reference (Class.Name k) t) ks) (good, bad) e in
      let g = opens_ok types constants ks s h.as_known a (RegisterType.Reference (Class.Name k) t) good bad p.2 in
      let n = name_at allocator constants role a b c number w T bytes names named right valid.number h p.0 p.1 in
      let row = λ (room : Bool). find_or_row s room n.name_is n.type_is in
      let bad_is = λ (answer : Answer) (x : Acts others types constants first allocator i answer (slice_set ks a RegisterType.Int) s w (with_number (with_image w new) a (pos code))).
      subst (λ z. Acts others types constants first allocator i answer z s w (with_number (with_image w new) a (pos code))) (sym g.2) x in
      elim (of_held h (λ p held. T < length w.table → RefusesToFind code p held.index_blocks new) says (in_table h right n.below)) [
        | inl f ↦ absurd (f (name_right n.constant (number_in w b) bytes n.is_constant small n.shown))
        | inr (inl f) ↦ (
          other_type,
          λ q. cc,
          bad_is other_type (refused right h a k T bytes n.by n.below valid.a g.0 i new other_type code f.0 f.1
              (row true ∙ ap (λ (o : Option Object). find_or_add a bytes T o true s) (n.object ∙ ap (option_map object_of) f.2.1)
              ∙ ap (λ z. if z then refer a (path_from (Origin.Name bytes 0)) s else fail a other_type s) f.2.2) (unchanged refl refl refl)),
        )
        | inr (inr f) ↦
            let none : s.names bytes ≡ None = n.object ∙ ap (option_map object_of) f.1 in
            let its = subst (λ (t : Table). IsDenied allocator w.image t bytes T h.pictured.picture h.pictured.held.index_blocks new 1) h.table_is f.2 in
            let blocks : Denies constants i h.pictured new = record {
              asks = object_asks w.image s.types T 1 bytes;
              asked = asks_are Operation.FindOrMake s 1 n.name_is refl none n.type_is;
              no_room = subst (λ z. NoRoom z (live w.image) (length w.image) (object_asks w.image s.types T 1 bytes)) (sym h.allocator_is) its.no_room;
              left = its.left;
            } in (
              bad_alloc,
              (λ q. cc),
              bad_is bad_alloc (not_made right h a k T bytes n.by n.below valid.a g.0 i new 1 code f.0 its (row false ∙ ap (λ (o : Option Object). find_or_add a bytes T o false s) none)
                  (changed its.next refl ((λ root some. absurd (let g : Some root ≡ None = sym some ∙ named_here Operation.FindOrMake h.pictured n.name_is ∙ f.1 in cc)), nodes_kept h.pictured.held its.kept) tt
                  (λ t later. no_objects_come i h.pictured later its.held Operation.FindOrMake)
                  (record { spot = nowhere; own = h.pictured.held.index_blocks; touches = (refl, refl); kept = kept_nowhere _ h.pictured.held.laid_out.heap (λ x some away. its.kept x some) }) blocks)),
            )
      ])

  -- ---- KILL

  kill_row : (s : State) → name_operand constants (on Operation.Kill) s ≡ Some bytes → type_operand number ≡ T → outcome constants (on Operation.Kill) true s ≡ destroy_object a bytes T (s.names bytes) s
  unfolding effect
  kill_row s name_is type_is =
      ap (λ (o : Option (List ℕ)). o >>= λ name. destroy_object a name (type_operand number) (s.names name) s) name_is ∙ ap (λ t. destroy_object a bytes t (s.names bytes) s) type_is

  -- the object that KILL destroys
  killed_here : (operation : Operation) {others : List Root} {s : State} (pictured : Pictures others s w.image) → name_operand constants (on operation) s ≡ Some bytes → type_operand number ≡ T
      → (name_operand constants (on operation) s >>= λ name. killed (root_named pictured.picture.names name) (type_operand number)) ≡ killed (root_named pictured.picture.names bytes) T
  killed_here operation pictured name_is type_is =
      ap (λ (o : Option (List ℕ)). o >>= λ name. killed (root_named pictured.picture.names name) (type_operand number)) name_is ∙ ap (killed (root_named pictured.picture.names bytes)) type_is

  -- the blocks that KILL frees
  given_back : (operation : Operation) {others : List Root} {s : State} (pictured : Pictures others s w.image) → name_operand constants (on operation) s ≡ Some bytes → type_operand number ≡ T → (o : Option Root)
      → killed (root_named pictured.picture.names bytes) T ≡ o → (gives : List ℕ) → NamedGoes constants (on operation) pictured o gives
      → NamedGoes constants (on operation) pictured (name_operand constants (on operation) s >>= λ name. killed (root_named pictured.picture.names name) (type_operand number)) gives
  given_back operation {s = s} pictured name_is type_is o is gives blocks =
      subst (λ x. NamedGoes constants (on operation) pictured x gives) (sym (killed_here operation pictured name_is type_is ∙ is)) blocks

  pub kill_acts : (new : List ℕ) → OfHeld allocator w (λ p held. IsLost allocator w.image w.table bytes T p held.index_blocks new) → ActsAs allocator constants role (on Operation.Kill) w (with_number (with_image w new) a (pos 1))
  unfolding rule
  kill_acts new says = lifted_acts refl (λ types others first ks good bad s right valid e h.
      let i = on Operation.Kill in
      let p = bind_ok (name_needed (slice_get constants k) (known ks b)) (λ _. gives a RegisterType.Int (ended (Class.Name k) ks)) (good, bad) e in
      let g = gives_both a RegisterType.Int (ended (Class.Name k) ks) good bad p.2 in
      let n = name_at allocator constants role a b c number w T bytes names named right valid.number h p.0 p.1 in
      let m = subst (λ (t : Table). IsLost allocator w.image t bytes T h.pictured.picture h.pictured.held.index_blocks new) h.table_is (of_held h (λ p held. IsLost allocator w.image w.table bytes T p held.index_blocks new) says) in
      let why = why_killed T (root_named h.pictured.picture.names bytes) m.root m.root_is in
      let row = kill_row s n.name_is n.type_is ∙ ap (λ (o : Option Object). destroy_object a bytes T o s) (n.object ∙ ap (option_map object_of) why.0)
      ∙ ap (λ z. if z then give_count a 1 (record s { names = with_name s.names bytes None }) else give_count a 0 s) why.1 in
      let shared = blocks_by m.theirs (freed (names_each m.root.values) h.pictured.picture.frozen) in
      let gone : FrozenGone w.image h.pictured.picture (names_each m.root.values) shared = record {
        theirs = m.theirs;
        holds = subst (λ (t : Table). HoldFrozen w.image t m.theirs h.pictured.picture.frozen) (sym h.pictured.types) m.holds_shared;
        blocks_are = refl;
      } in
      let all = blocks_by m.theirs h.pictured.picture.frozen in
      let index = h.pictured.held.index_blocks in
      let killed_is = killed_here Operation.Kill h.pictured n.name_is n.type_is ∙ m.root_is in
      let touches : Changes constants i h.pictured new = record {
        spot = nowhere;
        own = (m.objects ++ index) ++ all;
        touches = (
          refl,
          (m.objects ++ index, all, (m.objects, index, subst (λ (o : Option Root). OfRoot h.pictured o m.objects) (sym killed_is) m.holds, refl, refl), record { theirs = m.theirs; holds = gone.holds; own_is = refl }, refl),
        );
        kept = kept_nowhere ((m.objects ++ index) ++ all) h.pictured.held.laid_out.heap m.kept;
      } in
      let gives = (m.objects ++ m.entries) ++ shared in
      let blocks : GrantsAsks constants i h.pictured new = record {
        asks = [];
        asked = refl;
        gives = gives;
        returned = given_back Operation.Kill h.pictured n.name_is n.type_is (Some m.root) m.root_is gives (m.objects, m.entries, m.holds, m.entry, (shared, gone, refl));
        blocks = live w.image;
        granted = refl;
        left = m.left;
      } in
      subst (λ z. Acts others types constants first allocator i success z s w (with_number (with_image w new) a (pos 1))) (sym g.1) (lost right h a k T bytes n.by valid.a g.0 i new m row
      (changed m.next refl ((λ none. absurd (let f : None ≡ Some m.root = sym none ∙ killed_here Operation.Kill h.pictured n.name_is n.type_is ∙ m.root_is in cc)), m.nodes) tt (λ t later. tt) touches blocks)))

  -- if no object of the name has the type, KILL gives 0
  pub kill_none_acts : OfHeld allocator w (λ p held. killed (root_named p.names bytes) T ≡ None) → ActsAs allocator constants role (on Operation.Kill) w (with_number w a (pos 0))
  unfolding rule
  kill_none_acts says = lifted_acts refl (λ types others first ks good bad s right valid e h.
      let i = on Operation.Kill in
      let p = bind_ok (name_needed (slice_get constants k) (known ks b)) (λ _. gives a RegisterType.Int (ended (Class.Name k) ks)) (good, bad) e in
      let g = gives_both a RegisterType.Int (ended (Class.Name k) ks) good bad p.2 in
      let n = name_at allocator constants role a b c number w T bytes names named right valid.number h p.0 p.1 in
      let none = of_held h (λ p held. killed (root_named p.names bytes) T ≡ None) says in
      let row = kill_row s n.name_is n.type_is ∙ ap (λ (o : Option Object). destroy_object a bytes T o s) n.object in
      let killed_row : destroy_object a bytes T (option_map object_of (root_named h.pictured.picture.names bytes)) s ≡ give_count a 0 s = elim (why_kept T (root_named h.pictured.picture.names bytes) none) [
        | inl f ↦ ap (λ (o : Option Root). destroy_object a bytes T (option_map object_of o) s) f
        | inr f ↦
            ap (λ (o : Option Root). destroy_object a bytes T (option_map object_of o) s) f.1
            ∙ ap (λ z. if z then give_count a 1 (record s { names = with_name s.names bytes None }) else give_count a 0 s) f.2
      ] in
      let blocks : GrantsAsks constants i h.pictured w.image = record {
        asks = [];
        asked = refl;
        gives = [];
        returned = given_back Operation.Kill h.pictured n.name_is n.type_is None none [] refl;
        blocks = live w.image;
        granted = refl;
        left = refl;
      } in
      subst (λ z. Acts others types constants first allocator i success z s w (with_number w a (pos 0))) (sym g.1) (not_lost right h a k T bytes n.by valid.a g.0 i (row ∙ killed_row) (unchanged refl refl blocks)))
