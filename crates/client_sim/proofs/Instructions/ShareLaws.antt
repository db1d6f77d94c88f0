-- SHARE: a cell shares the object of another cell, and the object that it shared before is
-- released.
use Rattle.std.proofs.Common.{◌≡◌, ℕ, ℤ, List, [], ◌++◌, true, false, inl, inr, Option, Some, refl, sym, ◌∙◌, ap, subst}
use Rattle.std.specs.Prelude.{◌==◌, Ok}
use Rattle.std.specs.List.{AllByRecursion}
use Rattle.std.proofs.lemmas.Bool.{eqb-true, eq-eqb}
use Rattle.seg_spec.specs.Bytes.{word}
use Rattle.seg_spec.specs.Header.{next_word}
use Rattle.seg_spec.specs.Types.{Form, Table, form_at}
use Rattle.seg_spec.specs.Value.{Value, value_at}
use Rattle.seg_spec.specs.Index.{Root}
use Rattle.seg_spec.specs.Reads.{Holds}
use Rattle.seg_spec.specs.Owning.{Stands}
use Rattle.seg_spec.specs.Frozen.{Frozen, blocks_by}
use Rattle.seg_spec.specs.Shared.{names_in, IsBelow, raised_by, left, freed, replaced}
use Rattle.seg_spec.specs.Destroying.{HoldFrozen}
use Rattle.seg_spec.specs.Clearing.{ClearsPlace}
use Rattle.seg_spec.proofs.Frozen.CellBoundLaws.{counts_within}
use Rattle.client_spec.specs.declared.table.Operation.{Operation}
use Rattle.client_spec.specs.declared.table.Role.{Role}
use Rattle.client_spec.specs.Syntax.{Constant, Instruction}
use Rattle.client_spec.specs.Machine.{◌>>=◌, Path, Register, State, register, at_origin, path_value, path_type, put_at}
use Rattle.client_spec.specs.Answer.{success, path_in, path_of, path_form, shared_type, provided, proceed}
use Rattle.client_spec.specs.Effect.{outcome, effect}
use Rattle.client_spec.specs.Grammar.{IsInstruction}
use Rattle.client_spec.specs.Asks.{LedTo, Renames}
use Rattle.client_spec.specs.Ties.{spot_of, SharesFrozen}
use Rattle.client_spec.specs.Bare.{bare, bare_one}
use Rattle.client_spec.specs.Meaning.{IsAsKnown}
use Rattle.client_spec.specs.Pictures.{Pictures, meaning_in, value_through, PicturesTrees, trees_of}
use Rattle.client_spec.specs.Trees.{AreTrees, unfolded_register}
use Rattle.client_spec.specs.Shape.{HasShape}
use Rattle.client_spec.specs.Typed.{Class, RegisterType, Reason, RegisterTypes, known, same_class, sharing, reference_needed, form_needed, required, known_after, others_ended, change_allowed, sharing_rule, rule_of}
use Rattle.client_spec.specs.Typed as typed
use Rattle.client_spec.proofs.Rows.BareLaws.{IsBare, known_bare, bare_is_none, bare_others}
use Rattle.client_spec.proofs.TypedStates.ValueFormLaws.{reference_is, required_is}
use Rattle.client_spec.proofs.Rows.SharedCellLaws.{by_put}
use Rattle.client_spec.proofs.TypedStates.ClassLaws.{OneEach, known_others, still_known}
use Rattle.client_spec.proofs.Rows.RuleRowLaws.{bind_ok, Ok_inj, form_found}
use Rattle.client_spec.proofs.TypedStates.PlaceShapeLaws.{held_shape}
use Rattle.client_spec.proofs.TypedStates.ShapeLaws.{form_of_value, value_of_form}
use Rattle.client_spec.proofs.Runs.TypedRunLaws.{of_trees}
use Rattle.client_spec.proofs.Unfolded.PictureTreeLaws.{all_named, trees_one, pictures_trees}
use Rattle.client_spec.proofs.Spelling.ConstantNameLaws.{one_each}
use Rattle.client_spec.proofs.Unfolded.UnfoldedStateLaws.{register_same, value_same, type_same, put_same}
use Rattle.client_spec.proofs.TypedStates.ValueLaws.{bind_some}
use Rattle.client_sim.proofs.Objects.OwnedPlaceLaws.{owning}
use Rattle.client_sim.specs.Shows.{World, place_in, Shows, ChangesImage}
use Rattle.client_sim.specs.Seeing.{Anchored, Sees, SeenActs}
use Rattle.client_sim.specs.Sharing.{SharesCell}
use Rattle.client_sim.specs.Acting.{AreDeclarationsRight, ActsAs}
use Rattle.client_sim.proofs.ImageChangeLaws.{kept_at_place, of_frozen, changed_at_place}
use Rattle.client_sim.proofs.Places.ValueChangeLaws.{shows_changed, frame_changed}
use Rattle.client_sim.proofs.FrameLaws.{Frame}
use Rattle.client_sim.proofs.Frozen.FrozenFrameLaws.{stay_named}
use Rattle.client_sim.proofs.Frozen.FrozenValueLaws.{through_so}
use Rattle.client_sim.proofs.GrantLaws.{given_back_shared, gives_back}
use Rattle.client_sim.proofs.Places.LeafPutLaws.{with_image}
use Rattle.client_sim.proofs.Places.ReferencePlaceLaws.{Led, led, touched}
use Rattle.client_sim.proofs.Frozen.UnfoldedOperationLaws.{changeable_bare, bare_or_read}
use Rattle.client_sim.proofs.Frozen.UnfoldedRowLaws.{later_trees}
use Rattle.client_sim.proofs.Places.PathPlaceLaws.{PlacePut, frozen_beside, place_shared}
use Rattle.client_sim.proofs.Frozen.ReadOnlyResultLaws.{in_words}
use Rattle.client_sim.proofs.Frozen.ReadOnlyLaws.{named_at, read_led}
use Rattle.client_sim.proofs.Frozen.AnchorLaws.{still_anchored}

-- ---- a register that refers to a cell

module _ {others : List Root} {types : Table} {constants : List Constant} {first : Option (List ℕ)} {allocator : ℕ} {ks : RegisterTypes} {t : State} {w : World} (h : Sees others types constants first allocator ks t w) where
  abbrev next : ℕ
  next = word w.image next_word

  abbrev frozen : List Frozen
  frozen = h.shows.pictured.picture.frozen

  abbrev m : ℕ → Value
  m = meaning_in next h.shows.pictured.picture

  -- the register's place, whether through shared cells or not, and the value in the unfolded state
  pub record CellSeen (r T : ℕ) : Type 0 where
    pub path : Path
    pub path_is : register t r ≡ Register.Reference path
    pub plain_is : register h.plain r ≡ Register.Reference path
    pub value : Value
    pub there : path_value t path ≡ Some (replaced m value)
    pub typed : path_type t path ≡ Some T
    pub type_is : (place_in w r).type ≡ T
    pub reads : (at_origin h.plain path.origin >>= λ found. value_through frozen found.0 path.selectors) ≡ Some value
    pub named : AllByRecursion (IsBelow next frozen) (names_in value)
    pub blocks : List ℕ
    pub holds : Holds w.image w.table (place_in w r) value blocks

  abbrev pub of_led : (r : ℕ) (class : Class) (T : ℕ) → Led h.shows r class T → CellSeen r T
  of_led r class T l =
      let whole = bind_some (at_origin h.plain l.path.origin) (λ found. value_at found.0 l.path.selectors) l.value l.there in
      record {
        path = l.path;
        path_is = ap (λ z. register z r) h.trees ∙ register_same m h.plain r ∙ ap (unfolded_register m) l.path_is;
        plain_is = l.path_is;
        value = l.value;
        there = ap (λ z. path_value z l.path) h.trees ∙ value_same m h.plain l.path l.value l.there;
        typed = ap (λ z. path_type z l.path) h.trees ∙ type_same m h.plain l.path ∙ l.typed;
        type_is = l.type_is;
        reads = ap (λ (o : Option (Value × ℕ)). o >>= λ found. value_through frozen found.0 l.path.selectors) whole.1 ∙ through_so frozen l.path.selectors whole.0.0 l.value whole.2;
        named = named_at (IsBelow next frozen) h.plain (all_named (IsBelow next frozen) h.shows.pictured h.shows.pictured.counted.counted.named) l.path l.value l.there;
        blocks = l.found.blocks;
        holds = l.stands.holds_it;
      }

  pub plain_led : (r : ℕ) (class : Class) (T : ℕ) → IsBare (known ks r) → known ks r ≡ RegisterType.Reference class T → Led h.shows r class T
  plain_led r class T b_is is = led h.shows r class T (known_bare ks r ∙ b_is ∙ is)

  pub cell_seen : (r : ℕ) (class : Class) (T : ℕ) → known ks r ≡ RegisterType.Reference class T → CellSeen r T
  cell_seen r class T is = elim (bare_or_read (known ks r)) [
    | inl b_is ↦ of_led r class T (plain_led r class T b_is is)
    | inr z ↦ subst (CellSeen r) (let e : RegisterType.Reference (Class.Frozen z.0) z.1 ≡ RegisterType.Reference class T = sym z.2 ∙ is in cc) (of_read r z.0 z.1 z.2)
  ]
    where
      of_read : (r : ℕ) (x : Class) (U : ℕ) → known ks r ≡ RegisterType.Reference (Class.Frozen x) U → CellSeen r U
      of_read r x U e =
          let l = read_led h r x U e in
          record {
            path = l.path;
            path_is = l.path_is;
            plain_is = l.plain_is;
            value = l.value;
            there = l.there;
            typed = l.typed;
            type_is = l.type_is;
            reads = l.reads;
            named = l.named;
            blocks = l.blocks;
            holds = l.stands.holds_it;
          }

pub shared_is : (form : Form) (U : ℕ) → shared_type form ≡ Some U → form ≡ Form.shared U
shared_is (Form.shared V) U e = ap Form.shared (let same : V ≡ U = cc in same)
shared_is form U e = cc

-- ---- the instruction

module _ (allocator : ℕ) (constants : List Constant) (role : Role) (a b c : ℕ) (number : ℤ) (w : World) (new : List ℕ) where
  abbrev share : Instruction
  share = record { operation = Operation.Share; a = a; b = b; c = c; number = number }

  share_row : (t : State) (p q : Path) (T : ℕ) (old value : Value) → path_of t b ≡ Some p → path_form t p ≡ Some (Form.shared T) → path_of t c ≡ Some q → path_form t q ≡ Some (Form.shared T)
      → path_value t p ≡ Some old → path_value t q ≡ Some value → outcome constants share true t ≡ Some (success, put_at t p value)
  unfolding effect
  share_row t p q T old value p_is p_form q_is q_form there value_is =
      let last = λ (p : Path) (n : ℕ) (q : Path) (u : ℕ). path_value t p >>= λ _. path_value t q >>= λ v. provided (n == u) (proceed (put_at t p v)) in
      ap (λ o. o >>= λ p. (path_form t p >>= shared_type) >>= λ n. path_of t c >>= λ q. (path_form t q >>= shared_type) >>= λ u. last p n q u) p_is
      ∙ ap (λ o. (o >>= shared_type) >>= λ n. path_of t c >>= λ q. (path_form t q >>= shared_type) >>= λ u. last p n q u) p_form
      ∙ ap (λ o. o >>= λ q. (path_form t q >>= shared_type) >>= λ u. last p T q u) q_is
      ∙ ap (λ o. (o >>= shared_type) >>= λ u. last p T q u) q_form
      ∙ ap (λ o. o >>= λ _. path_value t q >>= λ v. provided (T == T) (proceed (put_at t p v))) there
      ∙ ap (λ o. o >>= λ v. provided (T == T) (proceed (put_at t p v))) value_is
      ∙ ap (λ y. provided y (proceed (put_at t p value))) (eq-eqb T T refl)

  module _ {types : Table} {others : List Root} {first : Option (List ℕ)} {ks good bad : RegisterTypes} {t : State} (right : AreDeclarationsRight types constants) (h : Sees others types constants first allocator ks t w)
      (valid : IsInstruction types constants role share) (e : rule_of types constants share ks ≡ Ok (good, bad)) where
    record Found : Type 0 where
      b_is : IsBare (known ks b)
      class : Class
      type : ℕ
      known_as : known ks b ≡ RegisterType.Reference class type
      from : Class
      from_type : ℕ
      from_as : known ks c ≡ RegisterType.Reference from from_type
      held : ℕ
      form : form_at t.types type ≡ Some (Form.shared held)
      from_form : form_at t.types from_type ≡ Some (Form.shared held)
      good_is : others_ended class b ks ≡ good
      bad_is : others_ended class b ks ≡ bad

    shared_form : (T U : ℕ) → form_needed shared_type types T ≡ Ok U → form_at t.types T ≡ Some (Form.shared U)
    shared_form T U g = let k = form_found types constants ks t h.as_known shared_type T U g in k.1 ∙ ap Some (shared_is k.0 U k.2)

    found : Found
    unfolding sharing_rule
    found =
        let p = bind_ok (change_allowed Operation.Share (known ks b)) (λ _. sharing_rule types constants Operation.Share a b c number ks) (good, bad) e in
        let last = λ (x : Class × ℕ) (n u : ℕ). typed.◌>>=◌ (required (n == u) Reason.WrongOperand) (λ _. known_after (others_ended x.0 b ks)) in
        let third = λ (x : Class × ℕ) (n : ℕ) (y : Class × ℕ). typed.◌>>=◌ (form_needed shared_type types y.1) (last x n) in
        let second = λ (x : Class × ℕ) (n : ℕ). typed.◌>>=◌ (reference_needed (known ks c)) (third x n) in
        let x = bind_ok (reference_needed (known ks b)) (λ x. typed.◌>>=◌ (form_needed shared_type types x.1) (second x)) (good, bad) p.2 in
        let n = bind_ok (form_needed shared_type types x.0.1) (second x.0) (good, bad) x.2 in
        let y = bind_ok (reference_needed (known ks c)) (third x.0 n.0) (good, bad) n.2 in
        let u = bind_ok (form_needed shared_type types y.0.1) (last x.0 n.0) (good, bad) y.2 in
        let q = bind_ok (required (n.0 == u.0) Reason.WrongOperand) (λ _. known_after (others_ended x.0.0 b ks)) (good, bad) u.2 in
        let same : n.0 ≡ u.0 = eqb-true n.0 u.0 (required_is _ Reason.WrongOperand q.0 q.1) in
        let after = others_ended x.0.0 b ks in
        let pair : (after, after) ≡ (good, bad) = Ok_inj q.2 in
        record {
          b_is = changeable_bare (known ks b) p.0 p.1;
          class = x.0.0;
          type = x.0.1;
          known_as = reference_is (known ks b) x.0 x.1;
          from = y.0.0;
          from_type = y.0.1;
          from_as = reference_is (known ks c) y.0 y.1;
          held = n.0;
          form = shared_form x.0.1 n.0 n.1;
          from_form = shared_form y.0.1 u.0 u.1 ∙ ap (λ (k : ℕ). Some (Form.shared k)) (sym same);
          good_is = ap (λ (z : RegisterTypes × RegisterTypes). z.0) pair;
          bad_is = ap (λ (z : RegisterTypes × RegisterTypes). z.1) pair;
        }

    module _ (call : SharesCell allocator w.image new w.table (place_in w b) (place_in w c)) (f : Found) where
      abbrev class : Class
      class = f.class

      abbrev after : RegisterTypes
      after = others_ended f.class b ks

      abbrev from : CellSeen h c f.from_type
      from = cell_seen h c f.from f.from_type f.from_as

      abbrev l : Led h.shows b f.class f.type
      l = plain_led h b f.class f.type f.b_is f.known_as

      abbrev to : CellSeen h b f.type
      to = of_led h b f.class f.type l

      abbrev pictured : Pictures others h.plain w.image
      pictured = h.shows.pictured

      abbrev table : Table
      table = pictured.picture.table

      abbrev value : Value
      value = from.value

      on_table : w.table ≡ table
      on_table = h.shows.table_is ∙ sym pictured.types

      same_types : t.types ≡ h.plain.types
      same_types = ap (λ (z : State). z.types) h.trees

      -- the place of such a register has the same type of shared cells
      form_here : (r T : ℕ) → (place_in w r).type ≡ T → form_at t.types T ≡ Some (Form.shared f.held) → form_at table (place_in w r).type ≡ Some (Form.shared f.held)
      form_here r T type_is g = ap (form_at table) type_is ∙ ap (λ (ts : Table). form_at ts T) (pictured.types ∙ sym same_types) ∙ g

      record Shared : Type 0 where
        theirs : ℕ → List ℕ
        holds : HoldFrozen w.image table theirs (frozen h)
        clears : ClearsPlace w.image new table (place_in w b) value l.found.blocks [] theirs (frozen h) (left (names_in l.value) (raised_by (names_in value) (frozen h)))

      shared : Shared
      shared =
          let stands = subst (λ (ts : Table). Stands allocator w.image ts (place_in w b) l.value l.found.blocks) on_table l.stands in
          let beside = frozen_beside pictured l.in_image l.value l.found allocator stands in
          let bounded = counts_within w.image pictured.picture pictured.held (next h) pictured.counted in
          let shares = subst (λ (ts : Table). SharesCell allocator w.image new ts (place_in w b) (place_in w c)) on_table call in
          record {
            theirs = beside.0;
            holds = beside.2.holds;
            clears = shares f.held (next h) l.value value l.found.blocks from.blocks beside.0 beside.1 (frozen h) (form_here b f.type l.type_is f.form) (form_here c f.from_type from.type_is f.from_form) stands
                (subst (λ (ts : Table). Holds w.image ts (place_in w c) value from.blocks) on_table from.holds) beside.2 from.named bounded;
          }

      abbrev s : Shared
      s = shared

      put : PlacePut pictured l.in_image l.value (put_at h.plain l.path value) new
      put = place_shared pictured l.in_image l.value l.found new value from.named s.theirs s.holds [] s.clears

      -- the cell may share the other cell's object
      fits : HasShape h.plain.types f.type value
      fits =
          let form = Form.shared f.held in
          let there : HasShape h.plain.types f.from_type value =
          subst (λ n. HasShape h.plain.types n value) from.type_is (subst (λ (ts : Table). HasShape ts (place_in w c).type value) h.shows.table_is (held_shape w.image w.table from.holds)) in
          value_of_form h.plain.types f.type form value (ap (λ (ts : Table). form_at ts f.type) (sym same_types) ∙ f.form)
          (form_of_value h.plain.types f.from_type form (ap (λ (ts : Table). form_at ts f.from_type) (sym same_types) ∙ f.from_form) value there)

      abbrev known_before : known (bare ks) b ≡ RegisterType.Reference f.class f.type
      known_before = known_bare ks b ∙ f.b_is ∙ f.known_as

      one : OneEach constants
      one = one_each constants right.each right.different

      abbrev state : State
      state = put_at h.plain l.path value

      abbrev world : World
      world = with_image w new

      plainly : Shows others types constants first allocator (others_ended f.class b (bare ks)) state world
      plainly = shows_changed one h.shows b f.class f.type known_before l value fits new put s.clears.changes.front_kept

      shows : Shows others types constants first allocator (bare after) state world
      shows = in_words (bare_others f.class b ks) plainly

      -- the unfolded state has the other cell's copy at the path
      then_is : put_at t l.path (replaced (m h) value) ≡ trees_of put.later
      then_is =
          ap (λ z. put_at z l.path (replaced (m h) value)) h.trees ∙ sym (put_same (m h) h.plain l.path value l.value l.there)
          ∙ later_trees pictured put.later put.stays.stays

      trees : put_at t l.path (replaced (m h) value) ≡ trees_of shows.pictured
      trees = then_is ∙ trees_one put.later shows.pictured

      row : outcome constants share true t ≡ Some (success, put_at t l.path (replaced (m h) value))
      row = share_row t l.path from.path f.held (replaced (m h) l.value) (replaced (m h) value) (ap path_in to.path_is) (ap (λ o. o >>= form_at t.types) to.typed ∙ f.form)
          (ap path_in from.path_is) (ap (λ o. o >>= form_at t.types) from.typed ∙ f.from_form) to.there from.there

      of_state : AreTrees t
      of_state = (pictures_trees (let p : PicturesTrees others t w.image = record { plain = h.plain; pictured = pictured; trees = h.trees } in p)).1

      as_known : IsAsKnown types constants after (put_at t l.path (replaced (m h) value))
      as_known =
          let keeps = (of_trees types constants one).goes share valid.number ks good bad e in
          subst (λ zs. IsAsKnown types constants zs (put_at t l.path (replaced (m h) value))) (sym f.good_is)
          (keeps.good t (put_at t l.path (replaced (m h) value)) (h.as_known, of_state) (inl (true, row))).0

      -- ---- read-only references

      frame : Frame (others_ended f.class b (bare ks)) w world pictured plainly.pictured
      unfolding plainly
      frame = frame_changed one h.shows b f.class f.type known_before l value fits new put s.clears.changes.front_kept

      unread : (r : ℕ) (x : Class) (T : ℕ) → known after r ≡ RegisterType.Reference (Class.Frozen x) T → known (others_ended f.class b (bare ks)) r ≡ RegisterType.Undefined
      unread r x T k = ap (λ zs. known zs r) (sym (bare_others f.class b ks)) ∙ known_bare after r ∙ ap bare_one k

      was_read : (r : ℕ) (x : Class) (T : ℕ) → known after r ≡ RegisterType.Reference (Class.Frozen x) T
          → (known ks r ≡ RegisterType.Reference (Class.Frozen x) T) × (same_class (sharing f.class) (sharing (Class.Frozen x)) ≡ false)
      was_read r x T k = elim (known_others types constants one f.class b ks r) [
        | inl p ↦ absurd (bare_is_none (known ks b) x T f.b_is (ap (known ks) p.0 ∙ sym p.1 ∙ k))
        | inr p ↦ still_known (sharing f.class) (Class.Frozen x) (known ks r) T (sym p ∙ k)
      ]

      anchored : (r : ℕ) (x : Class) (T : ℕ) → known after r ≡ RegisterType.Reference (Class.Frozen x) T → Anchored shows.pictured world r T
      anchored r x T k =
          let was = was_read r x T k in
          let kept = by_put constants one (Class.Frozen x) h.plain l.path l.value value f.class l.there l.within was.1 in
          let keeps = frame.unknown r (unread r x T k) (h.anchored r x T was.0).unowned in
          still_anchored h world pictured put.later shows.pictured (stay_named pictured put.later put.stays.stays put.stays.paths) r x T was.0 kept keeps

      sees : Sees others types constants first allocator after (put_at t l.path (replaced (m h) value)) world
      sees = record { plain = state; shows = shows; trees = trees; as_known = as_known; anchored = anchored }

      -- ---- blocks

      led_to : LedTo constants share pictured (place_in w b) (Form.shared f.held)
      led_to = record {
        path = l.path;
        path_is = ap path_in l.path_is;
        stands = l.in_image;
        form_is = ap (form_at h.plain.types) l.type_is ∙ ap (λ (ts : Table). form_at ts f.type) (sym same_types) ∙ f.form;
      }

      abbrev gives : List ℕ
      gives = l.found.blocks ++ blocks_by s.theirs (freed (names_in l.value) (raised_by (names_in value) (frozen h)))

      renames : Renames constants share pictured (place_in w b) gives
      renames = record {
        value = l.value;
        own = l.found.blocks;
        holds = subst (λ (ts : Table). Holds w.image ts (place_in w b) l.value l.found.blocks) h.shows.table_is l.stands.holds_it;
        path = from.path;
        path_is = ap path_in from.plain_is;
        other = value;
        there = from.reads;
        theirs = s.theirs;
        frozen_hold = s.holds;
        gives_are = refl;
      }

      shares : SharesFrozen constants share pictured new
      shares = record {
        place = place_in w b;
        form = Form.shared f.held;
        led_to = led_to;
        path = from.path;
        path_is = ap path_in from.plain_is;
        cell = value;
        there = from.reads;
        now_there = subst (λ (ts : Table). Holds new ts (place_in w b) value []) pictured.types s.clears.changes.holds_it;
      }

      changes : ChangesImage constants share pictured success new
      changes = changed_at_place s.clears.changes.back_kept refl refl tt shares (λ u later. tt)
          (record {
            spot = spot_of h.plain.types (place_in w b);
            own = l.found.blocks ++ blocks_by s.theirs (frozen h);
            touches = (l.found.blocks, blocks_by s.theirs (frozen h), touched h.shows b f.class f.type l share (Form.shared f.held) led_to, of_frozen pictured s.theirs s.holds, refl);
            kept = kept_at_place h.plain.types pictured.types s.clears.changes;
          }) (gives_back constants share pictured new refl gives (place_in w b, Form.shared f.held, led_to, renames)
          (given_back_shared (names_in l.value) (names_in value) (frozen h) s.clears))

      acts : SeenActs others types constants first allocator share success after t w world
      acts = record {
        then = put_at t l.path (replaced (m h) value);
        row = inl (true, row);
        before = record { plain = h.plain; pictured = pictured; trees = h.trees };
        after = record { plain = state; pictured = plainly.pictured; trees = then_is ∙ trees_one put.later plainly.pictured };
        changes = changes;
        frozen_kept = frame.frozen.kept;
        objects_stay = frame.objects;
        length_kept = s.clears.changes.length_kept;
        header_kept = s.clears.changes.front_kept;
        owning = owning share h.shows plainly (λ r had has. refl) (λ r o. inl o);
        sees = sees;
        same_input = refl;
      }

    pub share_seen : SharesCell allocator w.image new w.table (place_in w b) (place_in w c) → SeenActs others types constants first allocator share success good t w (with_image w new)
    share_seen call =
        let f = found in
        subst (λ zs. SeenActs others types constants first allocator share success zs t w (with_image w new)) f.good_is (acts call f)

  pub share_acts : SharesCell allocator w.image new w.table (place_in w b) (place_in w c) → ActsAs allocator constants role share w (with_image w new)
  share_acts call types others first ks good bad t right valid e h = share_seen right h valid e call
