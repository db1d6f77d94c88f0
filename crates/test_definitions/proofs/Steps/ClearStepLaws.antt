-- Two situations that clients can't tell apart stay so after CLEAR.
use Rattle.std.proofs.Common.{◌≡◌, ℕ, ◌+◌, ◌≤◌, inl, inr, true, false, List, [], ◌∷◌, ◌++◌, length, Some, refl, sym, ap, ◌∙◌, subst, arith}
use Rattle.seg_spec.specs.Bytes.{word}
use Rattle.seg_spec.specs.Header.{allocator_word, next_word}
use Rattle.seg_spec.specs.Types.{Form, Table}
use Rattle.seg_spec.specs.Value.{Value, default_of}
use Rattle.seg_spec.specs.Heap.{live}
use Rattle.seg_spec.specs.Reads.{Place, Holds}
use Rattle.seg_spec.specs.Index.{Root}
use Rattle.seg_spec.specs.Sound.{times, positions}
use Rattle.seg_spec.specs.Shared.{names_in, IsBelow, replaced}
use Rattle.seg_spec.specs.Counting.{FrozenGone}
use Rattle.seg_spec.specs.Demand.{after_asks, after_gives}
use Rattle.seg_spec.specs.Spending as spending
use Rattle.seg_spec.proofs.Heap.LiveBlockLaws.{live-once, times-same}
use Rattle.seg_spec.proofs.Values.OneValueLaws.{Holds-one}
use Rattle.client_spec.specs.declared.table.Operation.{Operation}
use Rattle.client_spec.specs.Syntax.{Constant, Instruction}
use Rattle.client_spec.specs.Machine.{Path, State, at_origin, path_value}
use Rattle.client_spec.specs.Answer.{Answer, success}
use Rattle.client_spec.specs.Pictures.{Pictures, LeadsInImage, meaning_in}
use Rattle.client_spec.specs.Asks.{AsksBy, ReturnsBy, ChangesOnSuccess, ChangesBlocks, GrantsAsks}
use Rattle.client_spec.specs.Ties.{TouchesBy, keeps_image, places_of}
use Rattle.client_spec.specs.OnImages.{Move, Situation, RowOn}
use Rattle.client_spec.proofs.TypedStates.ValueLaws.{Some_inj}
use Rattle.client_spec.proofs.Unfolded.PictureTreeLaws.{all_named}
use Rattle.client_sim.proofs.Frozen.ReadOnlyLaws.{named_at}
use Rattle.test_definitions.specs.Alike.{StandAlike, StaysAlike}
use Rattle.test_definitions.proofs.ValueChanges.BareValueLaws.{bare_alike}
use Rattle.test_definitions.proofs.Rows.KeptRowLaws.{one, unchanged_alike}
use Rattle.test_definitions.proofs.Rows.OnePlaceLaws.{RefersTo, led_one}
use Rattle.test_definitions.proofs.Rows.OneRow.{itself}
use Rattle.test_definitions.proofs.Rows.OwningRegisterLaws.{moves_owners, changes_names, changes_uniques}
use Rattle.test_definitions.proofs.Rows.PathOriginLaws.{at_place}
use Rattle.test_definitions.proofs.Rows.PlaceRowLaws.{refers_to, cleared_there}
use Rattle.test_definitions.proofs.Steps.PlaceStepLaws.{Touched}
use Rattle.test_definitions.proofs.Rows.ChangedPlaceRowLaws.{Beside}
use Rattle.test_definitions.proofs.ValueChanges.ReleasedPartLaws.{Releases, lives_then, lives, releases_within}
use Rattle.test_definitions.proofs.Steps.PlaceTwoStepLaws.{Side, ReleasesWithin, PlaceSteps, mine, theirs, beside, place_step}
use Rattle.test_definitions.proofs.ValueChanges.PlaceValueLaws.{value_there, There}
use Rattle.std.proofs.lemmas.List.{append-nil}
use Rattle.seg_spec.proofs.Frozen.PartCountLaws.{names_same}
use Rattle.client_spec.proofs.Unfolded.UnfoldedStateLaws.{value_same}
use Rattle.client_spec.proofs.Unfolded.UnfoldedValueLaws.{nothing_replaced}
use Rattle.test_definitions.proofs.ValueChanges.DefaultCellLaws.{default_cells}
use Rattle.test_definitions.proofs.Alike.OwnedBlockLaws.{owned_open}

none_in : (xs : List ℕ) → ((h : ℕ) → 1 ≤ times h xs → ⊥) → xs ≡ []
none_in [] f = refl
none_in (x ∷ xs) f = absurd (f x (omega (arith, times-same x xs)))

-- ---- one row

module _ {constants : List Constant} {others : List Root} {i : Instruction} {places bytes new : List ℕ} {answer : Answer} {t : State} {after : Pictures others t new} {s : State} (k : Side constants others i places bytes new answer after s)
    (is : i.operation ≡ Operation.Clear) (found : RefersTo s i.b) (place : Place) (form : Form) (its : List ℕ) (touched : Touched constants i true k.before new place form its)
    (changed : ChangesBlocks constants i k.before success new) (table : Table) (T : ℕ)
    (seen : (v : Value) → path_value t touched.led_to.path ≡ Some v → replaced (meaning_in (word new next_word) after.picture) v ≡ default_of table T) where
  abbrev p : Pictures others s bytes
  p = k.before

  abbrev path : Path
  path = touched.led_to.path

  abbrev l : LeadsInImage k.before touched.led_to.path place
  l = touched.led_to.stands

  abbrev start : (f : Value × ℕ) × (at_origin s touched.led_to.path.origin ≡ Some f)
  start = found touched.led_to.path touched.led_to.path_is

  -- the old value is destroyed
  goes : Releases p new
  goes =
      let g : GrantsAsks constants i p new = subst (λ o. ChangesOnSuccess constants i p o new) is changed in
      let asks : g.asks ≡ [] = subst (λ o. AsksBy constants i p o g.asks) is g.asked in
      let blocks : live bytes ≡ g.blocks = (let e : Some (live bytes) ≡ Some g.blocks = ap (after_asks (word bytes allocator_word) (live bytes) (length bytes)) (sym asks) ∙ g.granted in cc) in
      let gone : ReturnsBy constants i p Operation.Clear g.gives = subst (λ o. ReturnsBy constants i p o g.gives) is g.returned in
      let e = gone.3 in
      let one_place = led_one constants i (itself others (places_of p.owned) bytes p refl) p p refl refl found place gone.0 form gone.1 touched.led_to gone.2 in
      let holds_it = subst (λ (a : Table). Holds bytes a place touched.value its) p.types touched.holds_it in
      let old = Holds-one bytes s.types (subst (λ (z : Place). Holds bytes s.types z e.value e.own) (sym one_place.0) e.holds) holds_it in
      let with_frozen = e.gives_are in
      record {
        own = its;
        gone = names_in touched.value;
        shared = with_frozen.0;
        freeing = subst (λ v. FrozenGone bytes p.picture (names_in v) with_frozen.0) old.0 with_frozen.1;
        left = g.left ∙ (λ j. after_gives (sym blocks j) (spending.replaced (word bytes allocator_word) (live bytes) (length bytes) (asks j) ++ with_frozen.2 j)) ∙ (λ j. after_gives (live bytes) (old.1 j ++ with_frozen.0));
      }

  all_its : (h : ℕ) → times h goes.own ≤ times h its
  unfolding goes
  all_its h = omega arith

  abbrev b : Beside p new path place l start.0 start.1 its touched.holds_it touched.kept after
  b = beside k path place l start.0 start.1 its touched.holds_it touched.kept (lives k found place form its touched goes all_its)

  now : There p new path place l start.0 start.1 its touched.holds_it touched.kept after b.objects k.same_owners
  now = value_there p new path place l start.0 start.1 its touched.holds_it touched.kept after b.objects k.same_owners

  now_none : names_in now.now ≡ []
  now_none =
      let B = IsBelow (word new next_word) after.picture.frozen in
      (default_cells after now.now table T (named_at B t (all_named B after after.counted.counted.named) path now.now now.value_is) (seen now.now now.value_is)).0

  no_names_in : (v : Value) (news : List ℕ) → Holds new p.picture.table place v news → names_in v ≡ []
  no_names_in v news h = ap names_in (Holds-one new p.picture.table h now.holds_now).0 ∙ now_none

  pub clears_within : ReleasesWithin p after place its k.frozen
  unfolding goes
  clears_within = releases_within k found place form its touched goes all_its
      (λ v news h. names_same (sym (append-nil (names_in touched.value)) ∙ ap (λ cs. names_in touched.value ++ cs) (sym (no_names_in v news h))))

  -- the place owns no block
  now_bare : now.blocks ≡ []
  unfolding goes
  now_bare = none_in now.blocks (λ h some. (
      let o = owned_open p new path place l start.0 start.1 its touched.holds_it touched.kept after b clears_within.frozen_stays k.same_owners now.blocks now.holds_now h some in
      let then_live : times h (positions (live new)) + (times h its + times h goes.shared) ≡ times h (positions (live bytes)) = (lives_then k found place form its touched goes all_its h).0 in
      elim o.1 [
        | inl none ↦ absurd (omega (arith, o.0, none, then_live))
        | inr mine ↦ absurd (omega (arith, o.0, mine, then_live, live-once bytes (word bytes allocator_word) p.held.laid_out.heap h))
      ]))

  pub bare_now : (v : Value) (news : List ℕ) → Holds new p.picture.table place v news → (names_in v ≡ []) × (news ≡ [])
  bare_now v news h = (no_names_in v news h, (Holds-one new p.picture.table h now.holds_now).1 ∙ now_bare)

-- ---- two rows

module _ (constants : List Constant) (others : List Root) (moves : List Move) (i : Instruction) (is : i.operation ≡ Operation.Clear) (x z y w : Situation) where
  no_names : changes_names i.operation ≡ false
  no_names = ap changes_names is

  no_uniques : changes_uniques i.operation ≡ false
  no_uniques = ap changes_uniques is

  clears : (second : Answer) (stand : StandAlike others x z) (r : RowOn constants others moves i x success y) (q : RowOn constants others moves i z second w) → StaysAlike others success second y w
  clears second stand r q =
      place_step constants others moves i no_names no_uniques x z y w success second stand r q keeps found true (λ s bytes p spot own t. subst (λ o. TouchesBy constants i p o spot own) is t) steps
    where
      keeps : moves_owners i.operation success ≡ false
      keeps = ap (λ o. moves_owners o success) is

      found : RefersTo r.before.plain i.b
      found = refers_to constants i x.state x.image r.before success y.state r.row (ap at_place is)

      side : Side constants others i x.owned x.image y.image success r.after.pictured r.before.plain
      side = mine constants others moves i no_names no_uniques x z y w success second stand r q keeps found

      other : Side constants others i x.owned z.image w.image second q.after.pictured r.before.plain
      other = theirs constants others moves i no_names no_uniques x z y w success second stand r q keeps found

      succeeds : success ≡ second
      succeeds = (one constants others moves i x z y w success second stand r q).0

      theirs_success : ChangesBlocks constants i other.before success w.image
      theirs_success = subst (λ a. ChangesBlocks constants i other.before a w.image) (sym succeeds) other.blocks

      steps : (place : Place) (form : Form) (its : List ℕ) (t : Touched constants i true side.before y.image place form its) (u : Touched constants i true other.before w.image place form its)
          → PlaceSteps constants others moves i no_names no_uniques x z y w success second stand r q keeps found place form its t u
      steps place form its t u =
          let path = t.led_to.path in
          let paths : u.led_to.path ≡ path = (let e : Some u.led_to.path ≡ Some path = sym u.led_to.path_is ∙ t.led_to.path_is in cc) in
          let cleared = cleared_there constants i x.state x.image r.before success y.state r.row is place form t.led_to in
          let mx = meaning_in (word y.image next_word) r.after.pictured.picture in
          let mz = meaning_in (word w.image next_word) q.after.pictured.picture in
          let states = (one constants others moves i x z y w success second stand r q).1 in
          let seen : (v : Value) → path_value r.after.plain path ≡ Some v → replaced mx v ≡ default_of x.state.types cleared.0
          = λ v e. Some_inj (sym (ap (λ (s : State). path_value s path) r.after.trees ∙ value_same mx r.after.plain path v e) ∙ cleared.1) in
          let seen_too : (v : Value) → path_value q.after.plain u.led_to.path ≡ Some v → replaced mz v ≡ default_of x.state.types cleared.0
          = λ v e. Some_inj (sym (ap (λ (s : State). path_value s u.led_to.path) q.after.trees ∙ value_same mz q.after.plain u.led_to.path v e) ∙ ap (λ (z : Path). path_value w.state z) paths
          ∙ sym (ap (λ (s : State). path_value s path) states) ∙ cleared.1) in
          let one_table : side.before.picture.table ≡ other.before.picture.table = side.before.types ∙ sym other.before.types in
          record {
            within_first = clears_within side is found place form its t side.blocks x.state.types cleared.0 seen;
            within_second = clears_within other is found place form its u theirs_success x.state.types cleared.0 seen_too;
            inner = λ a b xs ys h fits k fits_too m n same forth back once once_too. (
                let first = bare_now side is found place form its t side.blocks x.state.types cleared.0 seen a xs h in
                let second = bare_now other is found place form its u theirs_success x.state.types cleared.0 seen_too b ys (subst (λ (e : Table). Holds w.image e place b ys) one_table k) in
                bare_alike y.image w.image side.before.picture.table h first.1 k second.1 (sym (nothing_replaced m a first.0) ∙ same ∙ nothing_replaced n b second.0));
          }

  pub clear_alike : (first second : Answer) → StandAlike others x z → RowOn constants others moves i x first y → RowOn constants others moves i z second w → StaysAlike others first second y w
  clear_alike success second stand r q = clears second stand r q
  clear_alike first second stand r q = unchanged_alike constants others moves i x z y w first second stand r q (ap (λ o. keeps_image o first) is)
