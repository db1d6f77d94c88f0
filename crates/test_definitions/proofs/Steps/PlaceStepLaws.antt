-- Rows of instructions that change one place: what two of them, from images that are alike, have in common.
use Rattle.std.proofs.Common.{◌≡◌, ℕ, ◌⊎◌, inl, inr, Bool, true, false, List, ◌++◌, length, Option, Some, None, option_map, refl, sym, ap, ◌∙◌, subst, arith}
use Rattle.std.specs.Prelude.{is_some, option_and_then}
use Rattle.seg_spec.specs.Bytes.{word}
use Rattle.seg_spec.specs.Header.{allocator_word, next_word, index_kind_word, heap_start}
use Rattle.seg_spec.specs.Types.{Form, Table}
use Rattle.seg_spec.specs.Value.{Value, nth}
use Rattle.seg_spec.specs.Heap.{live}
use Rattle.seg_spec.specs.Reads.{Place, Holds}
use Rattle.seg_spec.specs.Apart.{KeepsBlockAround}
use Rattle.seg_spec.specs.Index.{Root, root_named, root_of_type}
use Rattle.seg_spec.specs.Sound.{Picture, IsHeld, IsPlain, times, positions}
use Rattle.seg_spec.specs.Shared.{replaced}
use Rattle.seg_spec.proofs.SliceLaws.{IsSame-part}
use Rattle.seg_spec.proofs.Heap.LiveBlockLaws.{LiesIn, times-append, there, live-lie}
use Rattle.seg_spec.proofs.Values.OneValueLaws.{Holds-one}
use Rattle.seg_spec.proofs.Values.PlaceFrameLaws.{word-same}
use Rattle.client_spec.specs.Syntax.{Constant, Instruction}
use Rattle.client_spec.specs.Machine.{Object, State}
use Rattle.client_spec.specs.Answer.{Answer}
use Rattle.client_spec.specs.Trees.{unfolded_object}
use Rattle.client_spec.specs.Pictures.{Pictures, PicturesTrees, meaning_in, object_of}
use Rattle.client_spec.specs.Asks.{LedTo}
use Rattle.client_spec.specs.Ties.{Spot, spot_of, KeepsBut, places_of, Both, OfFrozen, OfPlace, Changes}
use Rattle.client_spec.specs.OnImages.{Move, Situation, RowWith, RowOn}
use Rattle.client_spec.proofs.OperationLaws.{rows}
use Rattle.test_definitions.specs.Alike.{AreAlike}
use Rattle.test_definitions.proofs.ValueChanges.AlikePlaceLaws.{holds_alike}
use Rattle.test_definitions.proofs.Alike.AlikeRootLaws.{of_type}
use Rattle.test_definitions.proofs.ValueChanges.ChangedPlaceLaws.{KeepsOwners}
use Rattle.test_definitions.proofs.Frozen.FreedBlockLaws.{frozen_by}
use Rattle.test_definitions.proofs.Frozen.FrozenApartLaws.{frozen_apart}
use Rattle.test_definitions.proofs.Rows.OnePlaceLaws.{RefersTo, led_in_both, led_one}
use Rattle.test_definitions.proofs.Rows.OwningRegisterLaws.{owners, moves_owners, changes_names, changes_uniques, unfolded_owners, row_keeps}
use Rattle.test_definitions.proofs.Alike.RootMemberLaws.{each_among, among_left}

-- ---- one row

module _ (constants : List Constant) (others : List Root) (moves : List Move) (i : Instruction) (x y : Situation) (answer : Answer) (r : RowOn constants others moves i x answer y) where
  -- the types stay
  types_stay : y.state.types ≡ x.state.types
  types_stay = by r.row
    where
      by : RowWith constants i x.image x.state answer y.state → y.state.types ≡ x.state.types
      by (inl (room, e)) = ((rows x.state constants i.operation i.a i.b i.c i.number room).each answer y.state e).writes.types
      by (inr (w, full)) = ap (λ (s : State). s.types) w.state

  pub tables_stay : r.after.pictured.picture.table ≡ r.before.pictured.picture.table
  tables_stay = r.after.pictured.types ∙ sym (ap (λ (s : State). s.types) r.after.trees) ∙ types_stay ∙ ap (λ (s : State). s.types) r.before.trees ∙ sym r.before.pictured.types

  some_mapped : {A B : Type 0} (f : A → B) (o : Option A) → is_some (option_map f o) ≡ is_some o
  some_mapped f None = refl
  some_mapped f (Some a) = refl

  -- whether the state that an image pictures has an object with the name
  pub named_there : (z : State) (bytes : List ℕ) (p : PicturesTrees others z bytes) (name : List ℕ) → is_some (z.names name) ≡ is_some (root_named p.pictured.picture.names name)
  named_there z bytes p name =
      ap (λ (s : State). is_some (s.names name)) p.trees ∙ some_mapped (unfolded_object (meaning_in (word bytes next_word) p.pictured.picture)) (p.plain.names name) ∙ ap (λ (o : Option Object). is_some o) (p.pictured.names name)
      ∙ some_mapped object_of (root_named p.pictured.picture.names name)

  pub unique_there : (z : State) (bytes : List ℕ) (p : PicturesTrees others z bytes) (T : ℕ) → is_some (z.uniques T) ≡ is_some (root_of_type p.pictured.picture.uniques T)
  unique_there z bytes p T =
      ap (λ (s : State). is_some (s.uniques T)) p.trees ∙ some_mapped (replaced (meaning_in (word bytes next_word) p.pictured.picture)) (p.plain.uniques T) ∙ ap (λ (o : Option Value). is_some o) (p.pictured.uniques T)
      ∙ go (root_of_type p.pictured.picture.uniques T) refl
    where
      go : (o : Option Root) → root_of_type p.pictured.picture.uniques T ≡ o → is_some (option_and_then (λ (root : Root). nth root.values 0) o) ≡ is_some o
      go None e = refl
      go (Some root) e =
          let plain = each_among IsPlain root (p.pictured.picture.uniques ++ p.pictured.picture.loose)
          (among_left root p.pictured.picture.uniques p.pictured.picture.loose (of_type p.pictured.picture.uniques T root e)) p.pictured.held.laid_out.plain in
          ap (λ vs. is_some (nth vs 0)) plain.values_are

  pub names_stay : changes_names i.operation ≡ false → (name : List ℕ) → is_some (root_named r.after.pictured.picture.names name) ≡ is_some (root_named r.before.pictured.picture.names name)
  names_stay e name = sym (named_there y.state y.image r.after name) ∙ (row_keeps constants x.state i x.image answer y.state r.row).same_names e name ∙ named_there x.state x.image r.before name

  pub uniques_stay : changes_uniques i.operation ≡ false → (T : ℕ) → is_some (root_of_type r.after.pictured.picture.uniques T) ≡ is_some (root_of_type r.before.pictured.picture.uniques T)
  uniques_stay e T = sym (unique_there y.state y.image r.after T) ∙ (row_keeps constants x.state i x.image answer y.state r.row).same_uniques e T ∙ unique_there x.state x.image r.before T

  pub owners_stay_same : moves_owners i.operation answer ≡ false → owners r.after.plain.registers ≡ owners r.before.plain.registers
  owners_stay_same e =
      let before : owners x.state.registers ≡ owners r.before.plain.registers = ap (λ (s : State). owners s.registers) r.before.trees ∙ unfolded_owners
      (meaning_in (word x.image next_word) r.before.pictured.picture) r.before.plain.registers in
      let after : owners y.state.registers ≡ owners r.after.plain.registers = ap (λ (s : State). owners s.registers) r.after.trees ∙ unfolded_owners (meaning_in (word y.image next_word) r.after.pictured.picture) r.after.plain.registers in
      sym after ∙ (row_keeps constants x.state i x.image answer y.state r.row).same_owners e ∙ before

  pub kinds_stay : word y.image index_kind_word ≡ word x.image index_kind_word
  kinds_stay = word-same x.image y.image index_kind_word (IsSame-part x.image y.image 0 24 index_kind_word 4 (omega arith) (omega arith) r.header_kept)

-- an image that stays as it is keeps all blocks
pub nothing_changes : (bytes new : List ℕ) (p : Picture) (held : IsHeld bytes p) (spot : Spot) (own : List ℕ) → new ≡ bytes → KeepsBut bytes new spot own
nothing_changes bytes new p held spot own e h some none =
    let l = there (LiesIn bytes heap_start (length bytes)) h (positions (live bytes)) (live-lie bytes (word bytes allocator_word) held.laid_out.heap) some in
    subst (λ z. KeepsBlockAround bytes z spot.at spot.bytes h) (sym e) (record {
      solid = omega (arith, l.size);
      header = record { live = refl; has_tag = refl; room = omega arith };
      payload = λ g m low high s. refl;
    })

-- ---- two rows

-- the instruction may change the place's blocks, and the blocks of frozen objects
abbrev pub MayTouch : Bool → (constants : List Constant) (i : Instruction) {others : List Root} {s : State} {bytes : List ℕ} → Pictures others s bytes → Spot → List ℕ → Type 0
MayTouch false constants i p spot own = OfPlace constants i p spot own
MayTouch true constants i p spot own = Both (OfPlace constants i p spot) (OfFrozen p) own

-- what is known of a place that the instruction may change
pub record Touched {others : List Root} {s : State} {bytes : List ℕ} (constants : List Constant) (i : Instruction) (releases : Bool) (p : Pictures others s bytes) (new : List ℕ) (place : Place) (form : Form) (its : List ℕ) : Type 0 where
  pub led_to : LedTo constants i p place form
  pub value : Value
  pub holds_it : Holds bytes p.picture.table place value its
  pub kept : KeepsOwners p new place its
  -- if it may not change frozen objects
  pub whole : releases ≡ false → KeepsBut bytes new (spot_of p.picture.table place) its

module _ (constants : List Constant) (i : Instruction) {others : List Root} {s : State} {bytes : List ℕ} (p : Pictures others s bytes) (new : List ℕ) where
  pub record SomeTouched (releases : Bool) : Type 0 where
    pub place : Place
    pub form : Form
    pub its : List ℕ
    pub touched : Touched constants i releases p new place form its

  pub touched_at : (releases : Bool) (c : Changes constants i p new) → MayTouch releases constants i p c.spot c.own → SomeTouched releases
  touched_at false c o = (
      let whole = subst (λ (t : Table). KeepsBut bytes new (spot_of t o.place) c.own) (sym p.types) (subst (λ z. KeepsBut bytes new z c.own) o.spot_is c.kept) in
      record {
        place = o.place;
        form = o.form;
        its = c.own;
        touched = record {
          led_to = o.led_to;
          value = o.value;
          holds_it = subst (λ (t : Table). Holds bytes t o.place o.value c.own) (sym p.types) o.holds;
          kept = λ h some none none_frozen. whole h some none;
          whole = λ e. whole;
        };
      })
  touched_at true c (its, theirs, o, f, own_is) = (
      let around = subst (λ (t : Table). KeepsBut bytes new (spot_of t o.place) c.own) (sym p.types) (subst (λ z. KeepsBut bytes new z c.own) o.spot_is c.kept) in
      let apart = frozen_apart bytes p.picture p.held in
      let frozen : theirs ≡ apart.frozen = f.own_is ∙ sym (frozen_by bytes p.picture.table f.theirs p.picture.frozen apart.frozen apart.holds_frozen f.holds) in
      record {
        place = o.place;
        form = o.form;
        its = its;
        touched = record {
          led_to = o.led_to;
          value = o.value;
          holds_it = subst (λ (t : Table). Holds bytes t o.place o.value its) (sym p.types) o.holds;
          kept = λ h some none none_frozen. around h some (omega (arith, none, none_frozen, ap (times h) frozen, ap (times h) own_is, times-append h its theirs));
          whole = λ e. cc;
        };
      })

module _ (constants : List Constant) (i : Instruction) {others : List Root} {s : State} {places first second : List ℕ} (alike : AreAlike others places first second) (p : Pictures others s first) (q : Pictures others s second)
    (at : places_of p.owned ≡ places) (at_too : places_of q.owned ≡ places) (found : RefersTo s i.b) where
  -- the same place of the other image
  pub led_too : (place : Place) (form : Form) → LedTo constants i p place form → LedTo constants i q place form
  led_too place form a = record { path = a.path; path_is = a.path_is; stands = (led_in_both constants i alike p q at at_too found place form a).leads; form_is = a.form_is }

  pub held_too : (place : Place) (form : Form) → LedTo constants i p place form → {value : Value} {its : List ℕ} → Holds first p.picture.table place value its → Holds second q.picture.table place value its
  held_too place form a {value = value} {its = its} h =
      let b = led_in_both constants i alike p q at at_too found place form a in
      subst (λ (t : Table). Holds second t place value its) (p.types ∙ sym q.types) (holds_alike first second p.picture.table h b.alike_at)

  -- if the second image stays, or its row changes the same place
  pub touched_too : (releases : Bool) (new other : List ℕ) (place : Place) (form : Form) (its : List ℕ) → Touched constants i releases p new place form its → (other ≡ second) ⊎ SomeTouched constants i q other releases
      → Touched constants i releases q other place form its
  touched_too releases new other place form its t (inl e) =
      let whole = nothing_changes second other q.picture q.held (spot_of q.picture.table place) its e in
      record {
        led_to = led_too place form t.led_to;
        value = t.value;
        holds_it = held_too place form t.led_to t.holds_it;
        kept = λ h some none none_frozen. whole h some none;
        whole = λ e. whole;
      }
  touched_too releases new other place form its t (inr c) =
      let u = c.touched in
      let one_place : place ≡ c.place = (led_one constants i alike p q at at_too found place c.place form c.form t.led_to u.led_to).0 in
      let there_is = held_too place form t.led_to t.holds_it in
      let blocks : c.its ≡ its = (Holds-one second q.picture.table (subst (λ (z : Place). Holds second q.picture.table z u.value c.its) (sym one_place) u.holds_it) there_is).1 in
      record {
        led_to = led_too place form t.led_to;
        value = t.value;
        holds_it = there_is;
        kept = subst (λ own. KeepsOwners q other place own) blocks (subst (λ (z : Place). KeepsOwners q other z c.its) (sym one_place) u.kept);
        whole = λ e. subst (λ own. KeepsBut second other (spot_of q.picture.table place) own) blocks (subst (λ (z : Place). KeepsBut second other (spot_of q.picture.table z) c.its) (sym one_place) (u.whole e));
      }
