-- FREEZE: an object that a register owns becomes frozen, and a cell shares it. The object that the
-- cell shared before is released.
use Rattle.std.proofs.Common.{◌≡◌, ◌≢◌, ℕ, suc, ◌+◌, ◌<◌, ◌≤◌, ℤ, pos, List, [], ◌∷◌, ◌++◌, length, Option, Some, None, true, false, inl, inr, ◌^◌, refl, sym, ◌∙◌, ap, subst, arith}
use Rattle.std.specs.Prelude.{Ok, Bool, not, ◌==◌, ◌&&◌, if◌then◌else◌, slice_set}
use Rattle.std.proofs.lemmas.Bool.{eqb-true, eq-eqb}
use Rattle.std.proofs.lemmas.List.{length-map}
use Rattle.std.specs.List.{AllByRecursion}
use Rattle.std.specs.Option.{option_map_or}
use Rattle.seg_spec.specs.Bytes.{word}
use Rattle.seg_spec.specs.Header.{version_word, allocator_word, next_word, sharing_version}
use Rattle.seg_spec.specs.Types.{Form, Table, form_at, size}
use Rattle.seg_spec.specs.Value.{Label, Value, node, nil, Full}
use Rattle.seg_spec.specs.Block.{block_of, Kind, tag_of}
use Rattle.seg_spec.specs.Heap.{Span, Granted, live, tag_at}
use Rattle.seg_spec.specs.Heap as heap
use Rattle.seg_spec.specs.Spending as Spending
use Rattle.seg_spec.specs.Reads.{Place, Holds}
use Rattle.seg_spec.specs.Parts.{Persists}
use Rattle.seg_spec.specs.Owning.{Stands}
use Rattle.seg_spec.specs.Calls.{IsLoose, Refuses}
use Rattle.seg_spec.specs.Demand.{Ask, block_for, after_ask, after_asks, after_gives}
use Rattle.seg_spec.specs.Frozen.{Frozen, frozen_words, blocks_by}
use Rattle.seg_spec.specs.Shared.{names_in, IsBelow, AreDistinct, value_at_position, replaced, left}
use Rattle.seg_spec.specs.Shared as Shared
use Rattle.seg_spec.specs.Sharing.{FrozenBeside, frozen_now, Freezes, FreezesParts}
use Rattle.seg_spec.specs.Index.{Root}
use Rattle.seg_spec.specs.Sound.{HoldsRoot, times, positions, Picture}
use Rattle.seg_spec.proofs.Frozen.PictureCountLaws.{left_and_freed}
use Rattle.seg_spec.proofs.Heap.FreeOrderLaws.{in_any_order}
use Rattle.seg_spec.specs.Destroying.{HoldFrozen}
use Rattle.seg_spec.proofs.Frozen.PartCountLaws.{names_same}
use Rattle.seg_spec.proofs.Heap.LiveBlockLaws.{times-append, times-same}
use Rattle.seg_spec.proofs.Frozen.ReleaseLaws.{frozen_there}
use Rattle.seg_spec.proofs.Frozen.OneMoreObjectLaws.{not_there}
use Rattle.client_spec.specs.Machine.{◌>>=◌, Origin, Path, Register, State, register, set_register, owned_by, path_value, put_at}
use Rattle.client_spec.specs.Grammar.{IsInstruction}
use Rattle.client_spec.specs.Asks.{LedTo, Asks, Refreezes}
use Rattle.client_spec.specs.Ties.{object_at, AllocatesAt, spot_of, OfRoot, OfOwner, FrozenKept, Changes, FreezesOwned, ObjectsStay}
use Rattle.seg_spec.specs.Apart.{KeepsBlockAround}
use Rattle.client_spec.specs.Bare.{bare, bare_one}
use Rattle.client_spec.specs.Pictures.{Pictures, meaning_in, trees_of}
use Rattle.client_spec.specs.Shape.{HasShape}
use Rattle.client_spec.specs.Meaning.{IsAsKnown, Meets, Refers}
use Rattle.client_spec.specs.Typed.{Class, RegisterType, Reason, RegisterTypes, known, same_class, sharing, is_owner, without_class, ended, others_ended}
use Rattle.client_spec.specs.Typed.{reference_needed, form_needed, owner_needed, required, freezes, change_allowed, sharing_rule, rule_of}
use Rattle.client_spec.specs.Typed as typed
use Rattle.client_spec.proofs.Rows.BareLaws.{IsBare, known_bare, bare_is_none, bare_set, bare_ended, bare_others, from_set}
use Rattle.client_spec.proofs.Rows.SharedCellLaws.{by_put, by_release, onward}
use Rattle.client_spec.proofs.TypedStates.KnowledgeChangeLaws.{agrees_release, agrees_put_others}
use Rattle.client_spec.proofs.Unfolded.PictureTreeLaws.{trees_one}
use Rattle.client_spec.proofs.Unfolded.SharedTreeLaws.{trees_put}
use Rattle.client_spec.proofs.TypedStates.ShapeLaws.{value_of_form}
use Rattle.client_spec.proofs.TypedStates.ValueFormLaws.{reference_is, required_is, not_is}
use Rattle.client_spec.proofs.TypedStates.ClassLaws.{OneEach, origins_apart, known_ended, known_others, still_known}
use Rattle.client_spec.proofs.Rows.RuleRowLaws.{bind_ok, form_found, answer_is}
use Rattle.client_spec.proofs.Rows.SharingRowLaws.{froze, shared_fits}
use Rattle.client_spec.proofs.Unfolded.UnfoldedStateLaws.{register_same}
use Rattle.client_spec.proofs.TypedStates.ValueLaws.{length_set}
use Rattle.client_spec.proofs.Rows.RowPartLaws.{owner_found}
use Rattle.client_spec.proofs.Spelling.ConstantNameLaws.{one_each}
use Rattle.client_spec.specs.declared.table.Operation.{Operation}
use Rattle.client_spec.specs.declared.table.Role.{Role}
use Rattle.client_spec.specs.Syntax.{Constant, Instruction}
use Rattle.client_spec.specs.Answer.{Answer, success, answer_number, path_in, path_form, shared_type, begins_at, provided, with_room, give_count, bad_alloc, numbers_used_up}
use Rattle.client_spec.specs.Effect.{outcome, effect}
use Rattle.client_spec.specs.Plain.{UsesUp}
use Rattle.client_spec.specs.OnImages.{RowWith}
use Rattle.client_spec.specs.Trees.{unfolded_register}
use Rattle.client_sim.proofs.Objects.OwnedPlaceLaws.{owned_less, owning}
use Rattle.client_sim.specs.Shows.{World, place_in, owns_in, KeepsRegister, Shows, ChangesImage}
use Rattle.client_sim.specs.Seeing.{Anchored, Sees, SeenActs}
use Rattle.client_sim.specs.Sharing.{CellClaim, OnCell, FreezesObject, RefusesToFreeze}
use Rattle.client_sim.specs.Acting.{AreDeclarationsRight, ActsAs, IsRefusedAs}
use Rattle.client_sim.proofs.ImageChangeLaws.{of_frozen, changed, unchanged}
use Rattle.client_sim.proofs.Places.LeafPutLaws.{with_image}
use Rattle.client_sim.proofs.Places.ReferencePlaceLaws.{Led, touched}
use Rattle.client_sim.proofs.Frozen.UnfoldedOperationLaws.{changeable_bare}
use Rattle.client_sim.proofs.Objects.ObjectMoveLaws.{cell_points}
use Rattle.client_sim.proofs.Objects.FrozenMoveLaws.{MovedFrozen, frozen_beside, freeze_moves}
use Rattle.client_sim.proofs.Objects.OwnedObjectLaws.{OwnsHere, owns_here, owns_apart}
use Rattle.client_sim.proofs.Places.PathPlaceLaws.{shared_here, frozen_apart}
use Rattle.client_sim.proofs.Instructions.PutLaws.{begins_elsewhere}
use Rattle.client_sim.proofs.GrantLaws.{gets_block, fewer_left, gets_new, denies}
use Rattle.client_sim.proofs.Frozen.ReadOnlyResultLaws.{in_words, words_picture, sees_number, number_picture}
use Rattle.client_sim.proofs.UnchangedImageLaws.{set_there, set_beside}
use Rattle.client_sim.proofs.FrameLaws.{owns_nothing, owner_apart}
use Rattle.client_sim.proofs.Frozen.FrozenFrameLaws.{left_value, StayNamed, paths_at}
use Rattle.client_sim.proofs.Frozen.AnchorLaws.{still_anchored}
use Rattle.client_sim.proofs.Frozen.FrozenPathLaws.{kept_with_new, kept_same_image}
use Rattle.client_sim.proofs.Frozen.LessKnownLaws.{IsLess, Less, less_then, less_without, sees_less, less_picture}
use Rattle.client_sim.proofs.Instructions.ShareLaws.{CellSeen, of_led, plain_led, shared_is}
use Rattle.client_sim.proofs.Objects.MoveWorldLaws.{with_owning, shows_moved, picture_moved, put_known, stays, stays_released}
use Rattle.client_sim.proofs.Objects.ObjectPlaceLaws.{objects_same}
use Rattle.client_sim.proofs.Instructions.NumberLaws.{with_number}

module _ (allocator : ℕ) (constants : List Constant) (role : Role) (a b c : ℕ) (number : ℤ) (w : World) (new : List ℕ) where
  abbrev freeze : Instruction
  freeze = record { operation = Operation.Freeze; a = a; b = b; c = c; number = number }

  abbrev pub world_frozen : World
  world_frozen = with_number (with_owning w new c false w.positions w.type_ids) a (pos 1)

  -- ---- what the rule has found

  module _ {types : Table} {others : List Root} {first : Option (List ℕ)} {ks good bad : RegisterTypes} {t : State} (right : AreDeclarationsRight types constants) (h : Sees others types constants first allocator ks t w)
      (valid : IsInstruction types constants role freeze) (e : rule_of types constants freeze ks ≡ Ok (good, bad)) where
    record Found : Type 0 where
      b_is : IsBare (known ks b)
      class : Class
      type : ℕ
      known_as : known ks b ≡ RegisterType.Reference class type
      held : ℕ
      form : form_at t.types type ≡ Some (Form.shared held)
      owns : known ks c ≡ RegisterType.Owner held
      apart : same_class (sharing class) (Class.Register c) ≡ false
      rest : freezes a c (ended (Class.Register c) (others_ended class b ks)) ≡ Ok (good, bad)

    abbrev one : OneEach constants
    one = one_each constants right.each right.different

    found : Found
    unfolding sharing_rule
    found =
        let p = bind_ok (change_allowed Operation.Freeze (known ks b)) (λ _. sharing_rule types constants Operation.Freeze a b c number ks) (good, bad) e in
        let fourth = λ (x : Class × ℕ). typed.◌>>=◌ (required (not (same_class (sharing x.0) (Class.Register c))) Reason.PutIntoItself) (λ _. freezes a c (ended (Class.Register c) (others_ended x.0 b ks))) in
        let third = λ (x : Class × ℕ) (n u : ℕ). typed.◌>>=◌ (required (n == u) Reason.WrongOperand) (λ _. fourth x) in
        let second = λ (x : Class × ℕ) (n : ℕ). typed.◌>>=◌ (owner_needed (known ks c)) (third x n) in
        let x = bind_ok (reference_needed (known ks b)) (λ x. typed.◌>>=◌ (form_needed shared_type types x.1) (second x)) (good, bad) p.2 in
        let n = bind_ok (form_needed shared_type types x.0.1) (second x.0) (good, bad) x.2 in
        let u = bind_ok (owner_needed (known ks c)) (third x.0 n.0) (good, bad) n.2 in
        let q = bind_ok (required (n.0 == u.0) Reason.WrongOperand) (λ _. fourth x.0) (good, bad) u.2 in
        let z = bind_ok (required (not (same_class (sharing x.0.0) (Class.Register c))) Reason.PutIntoItself) (λ _. freezes a c (ended (Class.Register c) (others_ended x.0.0 b ks))) (good, bad) q.2 in
        let same : n.0 ≡ u.0 = eqb-true n.0 u.0 (required_is _ Reason.WrongOperand q.0 q.1) in
        let k = form_found types constants ks t h.as_known shared_type x.0.1 n.0 n.1 in
        let owner = (owner_found types constants one ks t h.as_known (known ks c) (register t c) u.0 u.1 (h.as_known.each c)).0 in
        record {
          b_is = changeable_bare (known ks b) p.0 p.1;
          class = x.0.0;
          type = x.0.1;
          known_as = reference_is (known ks b) x.0 x.1;
          held = n.0;
          form = k.1 ∙ ap Some (shared_is k.0 n.0 k.2);
          owns = owner ∙ ap RegisterType.Owner (sym same);
          apart = not_is _ (required_is _ Reason.PutIntoItself z.0 z.1);
          rest = z.2;
        }

    module _ (f : Found) where
      abbrev between : RegisterTypes
      between = ended (Class.Register c) (others_ended f.class b ks)

      abbrev released : RegisterTypes
      released = slice_set between c RegisterType.Undefined

      abbrev pictured : Pictures others h.plain w.image
      pictured = h.shows.pictured

      abbrev table : Table
      table = pictured.picture.table

      abbrev frozen : List Frozen
      frozen = pictured.picture.frozen

      abbrev next : ℕ
      next = word w.image next_word

      abbrev m : ℕ → Value
      m = meaning_in next pictured.picture

      abbrev l : Led h.shows b f.class f.type
      l = plain_led h b f.class f.type f.b_is f.known_as

      abbrev to : CellSeen h b f.type
      to = of_led h b f.class f.type l

      abbrev o : OwnsHere h.shows c f.held
      o = owns_here h.shows c f.held (known_bare ks c ∙ ap bare_one f.owns)

      on_table : w.table ≡ table
      on_table = h.shows.table_is ∙ sym pictured.types

      same_types : t.types ≡ h.plain.types
      same_types = ap (λ (z : State). z.types) h.trees

      far : l.path.origin ≢ Origin.Owned c
      far = origins_apart constants one f.class (Class.Register c) l.path.origin (Origin.Owned c) f.apart l.within refl

      led_to : LedTo constants freeze pictured (place_in w b) (Form.shared f.held)
      led_to = record {
        path = l.path;
        path_is = ap path_in l.path_is;
        stands = l.in_image;
        form_is = ap (form_at h.plain.types) l.type_is ∙ ap (λ (ts : Table). form_at ts f.type) (sym same_types) ∙ f.form;
      }

      stands : Stands allocator w.image table (place_in w b) l.value l.found.blocks
      stands = subst (λ (ts : Table). Stands allocator w.image ts (place_in w b) l.value l.found.blocks) on_table l.stands

      -- the object that becomes frozen, and the other frozen objects
      record Around : Type 0 where
        inside : List ℕ
        holds : HoldsRoot w.image table o.root (block_of (place_in w c).at ∷ inside)
        loose : IsLoose w.image table (record { at = (place_in w c).at; type = f.held }) o.value inside
        theirs : ℕ → List ℕ
        shared : HoldFrozen w.image table theirs frozen

      around : Around
      around =
          let own = owns_apart h.shows c f.held o l.in_image l.found far stands in
          let all = shared_here pictured l.in_image l.value l.found [] [] (names_in l.value) (names_same refl)
          (λ shared hs n. let g = frozen_apart pictured l.in_image l.value l.found allocator stands shared hs n in omega (arith, g)) in
          record {
            inside = own.0;
            holds = subst (λ n. HoldsRoot w.image table o.root (block_of n ∷ own.0)) (sym o.at_is) own.1;
            loose = subst (λ n. IsLoose w.image table (record { at = n; type = f.held }) o.value own.0) (sym o.at_is)
                (subst (λ u. IsLoose w.image table (record { at = o.root.at; type = u }) o.value own.0) o.type_is own.2);
            theirs = all.theirs;
            shared = all.beside.holds;
          }

      abbrev object : ℕ
      object = (place_in w c).at

      beside : (x : Around) → (kept : List Place) × FrozenBeside w.image table (stands.home ∷ (l.found.blocks ++ block_of object ∷ x.inside)) (names_in o.value ++ (names_in l.value ++ kept)) next x.theirs frozen
      beside x = (_, frozen_beside pictured l.in_image l.value l.found c o.root object o.value x.inside far o.root_is x.holds o.values_are x.theirs x.shared allocator stands)

      form_here : form_at table (place_in w b).type ≡ Some (Form.shared f.held)
      form_here = ap (form_at table) l.type_is ∙ ap (λ (ts : Table). form_at ts f.type) (pictured.types ∙ sym same_types) ∙ f.form

      -- the call's contract is true of the cell and the object
      of_call : (claim : Table → CellClaim) → OnCell allocator w.image w.table (place_in w b) object (claim w.table) → suc next < 2 ^ 32 → (x : Around) → claim table f.held l.value o.value l.found.blocks x.inside x.theirs frozen
      of_call claim call some x =
          let k = beside x in
          subst (λ (ts : Table). OnCell allocator w.image ts (place_in w b) object (claim ts)) on_table call f.held l.value o.value l.found.blocks x.inside x.theirs k.0 frozen form_here stands x.loose k.1 some

      asks_is : block_for (frozen_words + size table f.held) ∷ [] ≡ block_for (frozen_words + size h.plain.types f.held) ∷ []
      asks_is = ap (λ (ts : Table). block_for (frozen_words + size ts f.held) ∷ []) pictured.types

      asked : suc next < 2 ^ 32 → Asks constants freeze pictured (block_for (frozen_words + size table f.held) ∷ [])
      asked some = (some, place_in w b, f.held, led_to, asks_is)

      -- ---- it fails

      less : Less ks between
      less = record {
        count = length-map (others_ended f.class b ks) (without_class (Class.Register c)) ∙ length_set (ended (sharing f.class) ks) b (known ks b) ∙ length-map ks (without_class (sharing f.class));
        each = λ r. less_then (known ks r) (known (others_ended f.class b ks) r) (known between r) (ended_less r)
            (subst (IsLess (known (others_ended f.class b ks) r)) (sym (known_ended (Class.Register c) (others_ended f.class b ks) r)) (less_without (Class.Register c) (known (others_ended f.class b ks) r)));
      }
        where
          ended_less : (r : ℕ) → IsLess (known ks r) (known (others_ended f.class b ks) r)
          ended_less r = elim (known_others types constants one f.class b ks r) [
            | inl p ↦ inl p.1
            | inr p ↦ subst (IsLess (known ks r)) (sym p) (less_without (sharing f.class) (known ks r))
          ]

      seen : Sees others types constants first allocator between t w
      seen = sees_less others types constants first allocator ks between t w less h

      seen_picture : seen.shows.pictured.picture ≡ pictured.picture
      unfolding seen
      seen_picture = less_picture others types constants first allocator ks between t w less h

      abbrev full : Value
      full = Full (replaced m o.value)

      abbrev state : State
      state = set_register (put_at t l.path full) c Register.Undefined

      owner_tree : register t c ≡ Register.Owner (replaced m o.value) f.held
      owner_tree = ap (λ z. register z c) h.trees ∙ register_same m h.plain c ∙ ap (unfolded_register m) o.register_is

      row_is : (room : Bool) → outcome constants freeze room t ≡ with_room room a t (give_count a 1 state)
      unfolding effect
      row_is room =
          let last = λ (p : Path) (n : ℕ) (own : Value × ℕ). path_value t p >>= λ _. provided (n == own.1 && not (begins_at c p.origin))
          (with_room room a t (give_count a 1 (set_register (put_at t p (Full own.0)) c Register.Undefined))) in
          let test : (f.held == f.held && not (begins_at c l.path.origin)) ≡ true =
          ap (λ x. x && not (begins_at c l.path.origin)) (eq-eqb f.held f.held refl) ∙ ap not (begins_elsewhere c l.path.origin far) in
          ap (λ x. path_in x >>= λ p. (path_form t p >>= shared_type) >>= λ n. owned_by (register t c) >>= λ own. last p n own) to.path_is
          ∙ ap (λ x. (x >>= shared_type) >>= λ n. owned_by (register t c) >>= λ own. last l.path n own) (ap (λ x. x >>= form_at t.types) to.typed ∙ f.form)
          ∙ ap (λ x. owned_by x >>= λ own. last l.path f.held own) owner_tree
          ∙ ap (λ x. x >>= λ _. provided (f.held == f.held && not (begins_at c l.path.origin)) (with_room room a t (give_count a 1 state))) to.there
          ∙ ap (λ x. provided x (with_room room a t (give_count a 1 state))) test

      abbrev code_in : Answer → State
      code_in code = set_register t a (Register.Int (pos (answer_number code)))

      freed : (is_owner (known released a) ≡ false) × (good ≡ slice_set released a RegisterType.Int) × (is_owner (known between a) ≡ false) × (bad ≡ slice_set between a RegisterType.Int)
      freed = froze types constants one ks t h.as_known a c between good bad f.rest

      denied_row : outcome constants freeze false t ≡ Some (bad_alloc, code_in bad_alloc)
      denied_row = row_is false ∙ answer_is types constants between t seen.as_known bad_alloc a (Register.Int (pos (answer_number bad_alloc))) freed.2

      failed : (code : Answer) → RowWith constants freeze w.image t code (code_in code) → ChangesImage constants freeze pictured code w.image
          → SeenActs others types constants first allocator freeze code bad t w (with_number w a (pos (answer_number code)))
      failed code row changes =
          let n = pos (answer_number code) in
          let g = sees_number seen a valid.a freed.2 n in
          let same = number_picture seen a valid.a freed.2 n ∙ seen_picture in
          subst (λ zs. SeenActs others types constants first allocator freeze code zs t w (with_number w a n)) (sym freed.3) (record {
            then = code_in code;
            row = row;
            before = record { plain = h.plain; pictured = pictured; trees = h.trees };
            after = record { plain = g.plain; pictured = g.shows.pictured; trees = g.trees };
            changes = changes;
            frozen_kept = kept_same_image pictured (ap (λ (p : Picture). p.frozen) same);
            objects_stay = objects_same same;
            length_kept = refl;
            header_kept = refl;
            owning = owning freeze h.shows g.shows (λ r had has. refl) (λ r o. inl o);
            sees = g;
            same_input = refl;
          })

      -- ---- it succeeds

      module _ (some : suc next < 2 ^ 32) (call : FreezesObject allocator w.image new w.table (place_in w b) object) where
        abbrev x : Around
        x = around

        abbrev Frozen_so : Type 0
        Frozen_so = Freezes allocator w.image new table (place_in w b) f.held object o.value x.inside l.found.blocks (names_in l.value) x.theirs frozen

        whole : FreezesParts allocator w.image new table (place_in w b) f.held object o.value x.inside l.found.blocks (names_in l.value) x.theirs frozen
        whole = of_call (λ ts T v u blocks inside theirs now. FreezesParts allocator w.image new ts (place_in w b) T object u inside blocks (names_in v) theirs now) call some x

        z : Frozen_so
        z = whole.0

        abbrev cell : Value
        cell = node (Label.shared f.held z.payload) nil

        abbrev gone : List Place
        gone = names_in l.value

        abbrev moved_state : State
        moved_state = set_register (put_at h.plain l.path cell) c Register.Undefined

        version : word w.image version_word ≡ sharing_version
        version = elim pictured.held.laid_out.header.version [
          | inl p ↦ absurd (let one_is = pictured.held.laid_out.of_version.each (place_in w b).type (Form.shared f.held) form_here in omega (arith, p.0, one_is))
          | inr p ↦ p
        ]

        moved : MovedFrozen pictured l.in_image l.value l.found new moved_state (λ (q : Origin). q ≡ Origin.Owned c) (frozen_now z.payload f.held next o.value ∷ left gone frozen)
        moved = freeze_moves pictured l.in_image l.value l.found new c o.root f.held object o.value x.inside far o.root_is x.holds o.values_are version x.theirs x.shared z

        abbrev then_pictured : Pictures others moved_state new
        then_pictured = moved.to.later

        -- no object was at the new object's position
        elsewhere : AllByRecursion (λ (g : Frozen). g.at ≢ z.payload) frozen
        elsewhere =
            let k = (beside x).1 in
            not_there w.image table x.theirs z.payload frozen
            (omega (arith, k.owned (block_of z.payload), times-append (block_of z.payload) (stands.home ∷ (l.found.blocks ++ block_of object ∷ x.inside)) (blocks_by x.theirs frozen), z.was_free)) x.shared

        trees_then : state ≡ trees_of then_pictured
        trees_then =
            ap (λ y. set_register (put_at y l.path full) c Register.Undefined) h.trees
            ∙ sym (trees_put pictured z.payload f.held o.value elsewhere l.path l.value l.there c then_pictured gone moved.frozen_is z.next_is)

        -- ---- what is known

        plain_between : RegisterTypes
        plain_between = ended (Class.Register c) (others_ended f.class b (bare ks))

        bare_is : bare released ≡ slice_set plain_between c RegisterType.Undefined
        unfolding plain_between
        bare_is = bare_set between c RegisterType.Undefined ∙ ap (λ zs. slice_set zs c RegisterType.Undefined) (bare_ended (Class.Register c) (others_ended f.class b ks) ∙ ap (ended (Class.Register c)) (bare_others f.class b ks))

        abbrev known_before : known (bare ks) b ≡ RegisterType.Reference f.class f.type
        known_before = known_bare ks b ∙ f.b_is ∙ f.known_as

        fits : HasShape h.plain.types f.type cell
        unfolding HasShape
        fits = value_of_form h.plain.types f.type (Form.shared f.held) cell (ap (λ (ts : Table). form_at ts f.type) (sym same_types) ∙ f.form) ((refl, refl), tt)

        abbrev world : World
        world = with_owning w new c false w.positions w.type_ids

        plainly : Shows others types constants first allocator (slice_set plain_between c RegisterType.Undefined) moved_state world
        unfolding plain_between
        plainly =
            let after = others_ended f.class b (bare ks) in
            let sixteen : length (ended (Class.Register c) after) ≡ 16 =
            length-map after (without_class (Class.Register c)) ∙ length_set (ended (sharing f.class) (bare ks)) b (known (bare ks) b) ∙ length-map (bare ks) (without_class (sharing f.class)) ∙ h.shows.sixteen in
            let owns_none : owns_in world c ≡ false = set_there w.owns c false false (let n = h.shows.registers.owns in omega (arith, n, valid.c)) in
            shows_moved one h.shows b f.class f.type known_before l cell fits new c Register.Undefined (λ (q : Origin). q ≡ Origin.Owned c) moved.to RegisterType.Undefined (ended (Class.Register c) after) false w.positions w.type_ids
            valid.c sixteen h.shows.registers.positions h.shows.registers.type_ids (λ n away. refl) z.front_kept
            (agrees_release types constants one after (put_at h.plain l.path cell) c (put_known one h.shows b f.class f.type known_before l cell fits new c Register.Undefined (λ (q : Origin). q ≡ Origin.Owned c) moved.to))
            (stays_released one h.shows b f.class f.type known_before l cell fits new c Register.Undefined (λ (q : Origin). q ≡ Origin.Owned c) moved.to (λ q g. g)) owns_none

        shows : Shows others types constants first allocator (bare released) moved_state world
        shows = in_words bare_is plainly

        trees : state ≡ trees_of shows.pictured
        trees = trees_then ∙ trees_one then_pictured shows.pictured

        as_known : IsAsKnown types constants released state
        as_known =
            let meets = subst (λ k. Meets constants t k (register t b)) f.known_as (h.as_known.each b) in
            let same : meets.path ≡ l.path = (let q : Register.Reference meets.path ≡ Register.Reference l.path = sym meets.is ∙ to.path_is in cc) in
            let refers : Refers constants t (register t b) f.class f.type = record { path = l.path; is = to.path_is; within = l.within; leads = record { value = replaced m l.value; there = to.there; typed = to.typed } } in
            let shape : HasShape t.types f.held (replaced m o.value) = h.as_known.typed.owned c (replaced m o.value) f.held owner_tree in
            let full_fits = value_of_form t.types f.type (Form.shared f.held) full f.form (shared_fits t.types (Form.shared f.held) f.held refl (replaced m o.value) shape) in
            agrees_release types constants one (others_ended f.class b ks) (put_at t l.path full) c (agrees_put_others types constants one f.class b f.type ks t h.as_known f.known_as refers full full_fits)

        -- ---- read-only references

        stay : StayNamed w.image new table frozen then_pictured.picture.frozen
        stay = record {
          value = λ n y v there later is.
              let other : y.at ≢ z.payload = λ same. not_named n y frozen elsewhere there same in
              let still = left_of_it n y other (subst (λ fs. IsBelow n fs y) moved.frozen_is later) in
              let is_left = beside_it y.at v other (ap (λ fs. value_at_position fs y.at) (sym moved.frozen_is) ∙ is) in
              left_value frozen (left gone frozen) gone [] pictured.counted.counted.distinct (subst AreDistinct moved.frozen_is then_pictured.counted.counted.distinct).1 refl n y v still is_left;
          paths = λ n y there later xs target leads.
              let other : y.at ≢ z.payload = λ same. not_named n y frozen elsewhere there same in
              paths_at w.image new table n y (left gone frozen) moved.keeps.paths (left_of_it n y other (subst (λ fs. IsBelow n fs y) moved.frozen_is later)) xs target leads;
        }
          where
            not_named : (n : ℕ) (y : Place) (fs : List Frozen) → AllByRecursion (λ (g : Frozen). g.at ≢ z.payload) fs → IsBelow n fs y → y.at ≡ z.payload → ⊥
            not_named n y [] apart b same = b
            not_named n y (g ∷ gs) apart (inl b) same = apart.0 (b.0 ∙ same)
            not_named n y (g ∷ gs) apart (inr b) same = not_named n y gs apart.1 b same

            left_of_it : (n : ℕ) (y : Place) → y.at ≢ z.payload → IsBelow n (frozen_now z.payload f.held next o.value ∷ left gone frozen) y → IsBelow n (left gone frozen) y
            left_of_it n y other (inl b) = absurd (other (sym b.0))
            left_of_it n y other (inr b) = b

            beside_it : (at : ℕ) (v : Value) → at ≢ z.payload → value_at_position (frozen_now z.payload f.held next o.value ∷ left gone frozen) at ≡ Some v → value_at_position (left gone frozen) at ≡ Some v
            beside_it at v other is = choose (z.payload == at) refl is
              where
                choose : (k : Bool) → (z.payload == at) ≡ k → (if k then Some o.value else value_at_position (left gone frozen) at) ≡ Some v → value_at_position (left gone frozen) at ≡ Some v
                choose true same g = absurd (other (sym (eqb-true z.payload at same)))
                choose false same g = g

        was_read : (r : ℕ) (y : Class) (T : ℕ) → known released r ≡ RegisterType.Reference (Class.Frozen y) T
            → (known ks r ≡ RegisterType.Reference (Class.Frozen y) T) × (same_class (sharing f.class) (sharing (Class.Frozen y)) ≡ false) × (same_class (Class.Register c) (sharing (Class.Frozen y)) ≡ false)
        was_read r y T k =
            let here = from_set c RegisterType.Undefined between between refl (λ q v u g. g) r y T k in
            let last = still_known (Class.Register c) (Class.Frozen y) (known (others_ended f.class b ks) r) T (sym (known_ended (Class.Register c) (others_ended f.class b ks) r) ∙ here) in
            elim (known_others types constants one f.class b ks r) [
              | inl p ↦ absurd (bare_is_none (known ks b) y T f.b_is (ap (known ks) p.0 ∙ sym p.1 ∙ last.0))
              | inr p ↦ (let first = still_known (sharing f.class) (Class.Frozen y) (known ks r) T (sym p ∙ last.0) in (first.0, first.1, last.1))
            ]

        anchored : (r : ℕ) (y : Class) (T : ℕ) → known released r ≡ RegisterType.Reference (Class.Frozen y) T → Anchored shows.pictured world r T
        anchored r y T k =
            let was = was_read r y T k in
            let unowned = (h.anchored r y T was.0).unowned in
            let away = owner_apart h.shows c f.held r (known_bare ks c ∙ ap bare_one f.owns) unowned in
            let put = by_put constants one (Class.Frozen y) h.plain l.path l.value cell f.class l.there l.within was.1 in
            let release = by_release constants one (Class.Frozen y) (put_at h.plain l.path cell) c Register.Undefined was.2 in
            let kept = onward constants one (Class.Frozen y) h.plain (put_at h.plain l.path cell) moved_state put release in
            let keeps : KeepsRegister h.plain moved_state w world r = record {
              register_is = stays one h.shows b f.class f.type known_before l cell fits new c Register.Undefined (λ (q : Origin). q ≡ Origin.Owned c) moved.to r away (register h.plain r) refl (owns_nothing h.shows r unowned);
              place_is = refl;
              owns_is = set_beside w.owns c r false false away;
            } in
            still_anchored h world pictured then_pictured shows.pictured stay r y T was.0 kept keeps

        sees_released : Sees others types constants first allocator released state world
        sees_released = record { plain = moved_state; shows = shows; trees = trees; as_known = as_known; anchored = anchored }

        -- ---- frozen objects

        frozen_then : FrozenKept w.image new table frozen (frozen_now z.payload f.held next o.value ∷ left gone frozen)
        frozen_then = kept_with_new (frozen_now z.payload f.held next o.value) elsewhere moved.keeps.kept

        picture_released : sees_released.shows.pictured.picture ≡ then_pictured.picture
        unfolding sees_released shows plainly plain_between
        picture_released =
            words_picture bare_is plainly ∙ picture_moved one h.shows b f.class f.type known_before l cell fits new c Register.Undefined (λ (q : Origin). q ≡ Origin.Owned c) moved.to RegisterType.Undefined
            (ended (Class.Register c) (others_ended f.class b (bare ks))) false w.positions w.type_ids _ _ _ _ _ _ _ _ _

        -- ---- the row, and the blocks

        row : outcome constants freeze true t ≡ Some (success, set_register state a (Register.Int (pos 1)))
        row = row_is true ∙ answer_is types constants released state as_known success a (Register.Int (pos 1)) freed.0

        abbrev gives : List ℕ
        gives = (block_of o.root.at ∷ l.found.blocks) ++ blocks_by x.theirs (Shared.freed gone frozen)

        refreezes : Refreezes constants freeze pictured (place_in w b) gives
        refreezes = record {
          root = o.root;
          owned = o.root_is;
          value = l.value;
          own = l.found.blocks;
          holds = subst (λ (ts : Table). Holds w.image ts (place_in w b) l.value l.found.blocks) h.shows.table_is l.stands.holds_it;
          gives_are = (blocks_by x.theirs (Shared.freed gone frozen), record { theirs = x.theirs; holds = x.shared; blocks_are = refl }, refl);
        }

        abbrev asks_here : List Ask
        asks_here = block_for (frozen_words + size table f.held) ∷ []

        -- a new block replaces no old one
        none_replaced : (kind : ℕ) (bs : List Span) (end : ℕ) → Spending.replaced kind bs end asks_here ≡ []
        none_replaced kind bs end = by (after_ask kind bs end (block_for (frozen_words + size table f.held)))
          where
            by : (k : Option Granted) → option_map_or (λ (y : Granted). Spending.old_of y (block_for (frozen_words + size table f.held)) ++ []) k [] ≡ []
            by None = refl
            by (Some (heap.same ys)) = refl
            by (Some (heap.fresh at ys)) = refl

        abbrev its : List ℕ
        its = block_of object ∷ x.inside

        object_there : OfOwner pictured c its
        object_there = subst (λ (r : Option Root). OfRoot pictured r its) (sym o.root_is) (subst (λ (ts : Table). HoldsRoot w.image ts o.root its) pictured.types x.holds)

        -- only the cell, the object and frozen objects change
        touches : Changes constants freeze pictured new
        touches = record {
          spot = spot_of h.plain.types (place_in w b);
          own = (l.found.blocks ++ its) ++ blocks_by x.theirs frozen;
          touches = (
            l.found.blocks ++ its,
            blocks_by x.theirs frozen,
            (l.found.blocks, its, touched h.shows b f.class f.type l freeze (Form.shared f.held) led_to, object_there, refl),
            of_frozen pictured x.theirs x.shared,
            refl,
          );
          kept = λ n there away. subst (λ (ts : Table). KeepsBlockAround w.image new (place_in w b).at (size ts (place_in w b).type) n) pictured.types (z.kept n there (omega (
            arith,
            away,
            times-append n (l.found.blocks ++ its) (blocks_by x.theirs frozen),
            times-append n l.found.blocks its,
            times-append n its (l.found.blocks ++ blocks_by x.theirs frozen),
            times-append n l.found.blocks (blocks_by x.theirs frozen),
          )));
        }

        -- the new block is the one that the request gets
        gets : AllocatesAt w.image (frozen_words + size table f.held) z.payload
        unfolding z
        gets =
            let p = block_of z.payload in
            let k = (beside x).1 in
            let left_here : 1 ≤ times p (positions (live new)) = omega (
              arith,
              z.live_are p,
              z.was_free,
              times-same p [],
              times-append p (block_of object ∷ []) z.gives,
              z.all_are p,
              times-append p l.found.blocks (blocks_by x.theirs frozen),
              times-append p z.gives (blocks_by x.theirs (left gone frozen)),
              k.owned p,
              times-append p (stands.home ∷ (l.found.blocks ++ block_of object ∷ x.inside)) (blocks_by x.theirs frozen),
              times-append p (stands.home ∷ l.found.blocks) (block_of object ∷ x.inside),
              times-append p (stands.home ∷ []) l.found.blocks,
              times-append p (block_of object ∷ []) x.inside,
            ) in
            let kept = fewer_left p z.spans (block_of object ∷ z.gives) in
            let same : times p (positions (live new)) ≡ times p (positions (after_gives z.spans (block_of object ∷ z.gives))) = ap (λ bs. times p (positions bs)) z.live_is in
            gets_block allocator w.image (frozen_words + size table f.held) z.payload h.shows.allocator_is
            (gets_new allocator (live w.image) z.spans (length w.image) (frozen_words + size table f.held) p z.granted_is z.was_free (omega (arith, left_here, kept, same)))

        frozen_owned : FreezesOwned constants freeze pictured new
        unfolding z
        frozen_owned = record {
          root = o.root;
          owned = o.root_is;
          place = place_in w b;
          led_to = subst (λ T. LedTo constants freeze pictured (place_in w b) (Form.shared T)) (sym o.type_is) led_to;
          payload = z.payload;
          points_to = cell_points new table (place_in w b) f.held z.payload form_here z.holds_it;
          gets_block = subst (λ (n : ℕ). AllocatesAt w.image (frozen_words + n) z.payload) (ap (λ (ts : Table). size ts f.held) pictured.types ∙ ap (size h.plain.types) (sym o.type_is)) gets;
          tagged = subst (λ T. tag_at new (block_of z.payload) ≡ tag_of Kind.frozen T) (sym o.type_is) (frozen_there new table (frozen_now z.payload f.held next o.value) _ z.holds.0).block.has_tag;
          numbered = (frozen_there new table (frozen_now z.payload f.held next o.value) _ z.holds.0).number_is;
          moves = subst (λ (ts : Table). Persists w.image new ts (object_at o.root.at o.root.type) (object_at (z.payload + frozen_words) o.root.type)) pictured.types
              (subst (λ T. Persists w.image new table (object_at o.root.at T) (object_at (z.payload + frozen_words) T)) (sym o.type_is)
              (subst (λ at. Persists w.image new table (object_at at f.held) (object_at (z.payload + frozen_words) f.held)) o.at_is whole.1));
        }

        changes : ChangesImage constants freeze pictured success new
        changes = changed z.next_is refl tt frozen_owned (λ u later. tt) touches (record {
          asks = block_for (frozen_words + size table f.held) ∷ [];
          asked = asked some;
          gives = gives;
          returned = (place_in w b, Form.shared f.held, led_to, refreezes);
          blocks = z.spans;
          granted = ap (λ n. after_asks n (live w.image) (length w.image) (block_for (frozen_words + size table f.held) ∷ [])) h.shows.allocator_is ∙ z.granted_is;
          left = z.live_is ∙ in_any_order z.spans (block_of object ∷ z.gives) (Spending.replaced (word w.image allocator_word) (live w.image) (length w.image) asks_here ++ gives) (λ n.
              omega (
                arith,
                z.all_are n,
                left_and_freed x.theirs gone frozen n,
                times-append n l.found.blocks (blocks_by x.theirs frozen),
                times-append n z.gives (blocks_by x.theirs (left gone frozen)),
                times-append n (block_of object ∷ []) z.gives,
                times-append n (block_of o.root.at ∷ []) (l.found.blocks ++ blocks_by x.theirs (Shared.freed gone frozen)),
                times-append n l.found.blocks (blocks_by x.theirs (Shared.freed gone frozen)),
                ap (λ (y : ℕ). times n (block_of y ∷ [])) o.at_is,
                ap (λ (ys : List ℕ). times n (ys ++ gives)) (none_replaced (word w.image allocator_word) (live w.image) (length w.image)),
              ));
        })

        acts : SeenActs others types constants first allocator freeze success good t w world_frozen
        acts =
            let g = sees_number sees_released a valid.a freed.0 (pos 1) in
            let same = number_picture sees_released a valid.a freed.0 (pos 1) ∙ picture_released in
            subst (λ zs. SeenActs others types constants first allocator freeze success zs t w world_frozen) (sym freed.1) (record {
              then = set_register state a (Register.Int (pos 1));
              row = inl (true, row);
              before = record { plain = h.plain; pictured = pictured; trees = h.trees };
              after = record { plain = g.plain; pictured = g.shows.pictured; trees = g.trees };
              changes = changes;
              frozen_kept = subst (FrozenKept w.image new table frozen) (sym (ap (λ (p : Picture). p.frozen) same ∙ moved.frozen_is)) frozen_then;
              objects_stay = subst (ObjectsStay pictured.picture) (sym same) moved.to.objects;
              length_kept = z.length_kept;
              header_kept = z.front_kept;
              owning = owning freeze h.shows g.shows (λ r had has. refl) (λ r o. inl (owned_less w.owns c r o));
              sees = g;
              same_input = refl;
            })

  pub freeze_denied : suc (word w.image next_word) < 2 ^ 32 → RefusesToFreeze allocator w.image new w.table (place_in w b) (place_in w c).at
      → IsRefusedAs allocator constants role freeze w (with_number (with_image w new) a (pos (answer_number bad_alloc)))
  freeze_denied some call types others first ks good bad t right valid e h =
      let f = found right h valid e in
      let x = around right h valid e f in
      let p = h.shows.pictured in
      let table = p.picture.table in
      let r = of_call right h valid e f (λ ts T v x blocks inside theirs now. Refuses allocator w.image new (block_for (frozen_words + size ts T) ∷ [])) call some x in
      let blocks = denies constants freeze p allocator h.shows.allocator_is (block_for (frozen_words + size table f.held) ∷ []) (asked right h valid e f some) w.image (record { no_room = r.no_room; same = refl }) in (
        bad_alloc,
        (λ q. cc),
        subst (λ bs. SeenActs others types constants first allocator freeze bad_alloc bad t w (with_number (with_image w bs) a (pos (answer_number bad_alloc)))) (sym r.same)
            (failed right h valid e f bad_alloc (inl (false, denied_row right h valid e f)) (unchanged refl refl blocks)),
      )

  pub freeze_used : suc (word w.image next_word) ≡ 2 ^ 32 → new ≡ w.image → IsRefusedAs allocator constants role freeze w (with_number (with_image w new) a (pos (answer_number numbers_used_up)))
  freeze_used none same types others first ks good bad t right valid e h =
      let f = found right h valid e in
      let row : UsesUp constants freeze t numbers_used_up (set_register t a (Register.Int (pos (answer_number numbers_used_up)))) =
      record { freezes = refl; code = refl; refused = set_register t a (Register.Int (pos (answer_number bad_alloc))); row = denied_row right h valid e f; state = refl } in (
        numbers_used_up,
        (λ q. cc),
        subst (λ bs. SeenActs others types constants first allocator freeze numbers_used_up bad t w (with_number (with_image w bs) a (pos (answer_number numbers_used_up)))) (sym same)
            (failed right h valid e f numbers_used_up (inr (row, none)) (unchanged refl refl refl)),
      )

  pub freeze_acts : suc (word w.image next_word) < 2 ^ 32 → FreezesObject allocator w.image new w.table (place_in w b) (place_in w c).at → ActsAs allocator constants role freeze w world_frozen
  freeze_acts some call types others first ks good bad t right valid e h = acts right h valid e (found right h valid e) some call
