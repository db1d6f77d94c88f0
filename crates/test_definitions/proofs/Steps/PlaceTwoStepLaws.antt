-- The step for instructions that change one place, the blocks of its value, and perhaps frozen objects.
use Rattle.std.proofs.Common.{◌≡◌, ℕ, ◌≤◌, ◌⊎◌, inl, inr, Bool, false, List, Some, refl, sym, ap, ◌∙◌, subst, arith}
use Rattle.std.specs.Prelude.{is_some}
use Rattle.std.specs.List.{AllByRecursion}
use Rattle.seg_spec.specs.Bytes.{word}
use Rattle.seg_spec.specs.Header.{allocator_word, next_word, index_kind_word}
use Rattle.seg_spec.specs.Types.{Form, Table}
use Rattle.seg_spec.specs.Value.{Value}
use Rattle.seg_spec.specs.Heap.{live}
use Rattle.seg_spec.specs.Reads.{Place, Holds}
use Rattle.seg_spec.specs.Frozen.{Frozen}
use Rattle.seg_spec.specs.Index.{Root, root_named, root_of_type}
use Rattle.seg_spec.specs.Sound.{times, positions}
use Rattle.seg_spec.specs.Shared.{names_in, IsBelow, replaced}
use Rattle.seg_spec.proofs.Heap.LiveBlockLaws.{live-once}
use Rattle.client_spec.specs.Syntax.{Constant, Instruction}
use Rattle.client_spec.specs.Machine.{Path, State, at_origin, path_value}
use Rattle.client_spec.specs.Answer.{Answer}
use Rattle.client_spec.specs.Pictures.{Pictures, LeadsInImage, meaning_in}
use Rattle.client_spec.specs.Asks.{ChangesBlocks}
use Rattle.client_spec.specs.Ties.{Spot, places_of, next_after, ObjectsStay, FrozenKept, TouchesBy, Changes, Ties}
use Rattle.client_spec.specs.OnImages.{Move, Situation, RowOn}
use Rattle.client_spec.proofs.Unfolded.UnfoldedStateLaws.{value_same}
use Rattle.test_definitions.specs.Alike.{AlikeAt, AreAlike, StandAlike, StaysAlike}
use Rattle.test_definitions.proofs.Alike.AlikeChangeLaws.{changed_alike}
use Rattle.test_definitions.proofs.ValueChanges.ChangedPlaceLaws.{KeepsOwners}
use Rattle.test_definitions.proofs.Rows.ChangedPlaceRowLaws.{CellsWithin, ObjectsThere, Beside}
use Rattle.test_definitions.proofs.Frozen.FrozenAllStayLaws.{all_stay}
use Rattle.test_definitions.proofs.Frozen.FrozenApartLaws.{frozen_apart}
use Rattle.test_definitions.proofs.Frozen.FrozenOrderLaws.{IsOneOf}
use Rattle.test_definitions.proofs.Rows.KeptRowLaws.{owned_kept, one, kept_alike, plain_before}
use Rattle.test_definitions.proofs.Rows.OnePlaceLaws.{RefersTo}
use Rattle.test_definitions.proofs.Rows.OneRow.{swapped}
use Rattle.test_definitions.proofs.Rows.OwningRegisterLaws.{owners, moves_owners, changes_names, changes_uniques}
use Rattle.test_definitions.proofs.Alike.OwnedBlockLaws.{owns_open, owned_open}
use Rattle.test_definitions.proofs.ValueChanges.PersistAlikeLaws.{Fits}
use Rattle.test_definitions.proofs.Frozen.ReachedFrozenLaws.{StandsAt}
use Rattle.test_definitions.proofs.ValueChanges.PlaceValueLaws.{There, value_there}
use Rattle.test_definitions.proofs.Steps.PlaceStepLaws.{tables_stay, names_stay, uniques_stay, owners_stay_same, kinds_stay, MayTouch, Touched, SomeTouched, touched_at, touched_too}

-- a row, for its plain state before
pub record Side (constants : List Constant) (others : List Root) (i : Instruction) (places bytes new : List ℕ) (answer : Answer) {t : State} (after : Pictures others t new) (s : State) : Type 0 where
  pub before : Pictures others s bytes
  pub at : places_of before.owned ≡ places
  pub ties : Ties constants i before answer new
  pub blocks : ChangesBlocks constants i before answer new
  pub stay : ObjectsStay before.picture after.picture
  pub tables : after.picture.table ≡ before.picture.table
  pub names : (name : List ℕ) → is_some (root_named after.picture.names name) ≡ is_some (root_named before.picture.names name)
  pub uniques : (T : ℕ) → is_some (root_of_type after.picture.uniques T) ≡ is_some (root_of_type before.picture.uniques T)
  pub owned_at : places_of after.owned ≡ places_of before.owned
  pub same_owners : owners t.registers ≡ owners s.registers
  pub kinds : word new index_kind_word ≡ word bytes index_kind_word
  pub frozen : FrozenKept bytes new before.picture.table before.picture.frozen after.picture.frozen

-- which of the blocks stay, and where the shared cells of the new value point
pub record ChangesWithin {others : List Root} {s : State} {bytes : List ℕ} (p : Pictures others s bytes) (new : List ℕ) (place : Place) (its : List ℕ) : Type 0 where
  pub cells : (w : Value) (news : List ℕ) → Holds new p.picture.table place w news → AllByRecursion (IsBelow (word bytes next_word) p.picture.frozen) (names_in w)
  pub lives : (h : ℕ) → 1 ≤ times h (positions (live bytes)) → times h its ≡ 0 → 1 ≤ times h (positions (live new))

-- blocks that are neither of the place nor of frozen objects stay
abbrev pub LiveBeside : {others : List Root} {s : State} {bytes : List ℕ} → Pictures others s bytes → List ℕ → List ℕ → Type 0
LiveBeside {bytes = bytes} p new its = (h : ℕ) → 1 ≤ times h (positions (live bytes)) → times h its ≡ 0 → times h (frozen_apart bytes p.picture p.held).frozen ≡ 0 → 1 ≤ times h (positions (live new))

-- the same, if frozen objects may be freed: one of which a block is still allocated stays
pub record ReleasesWithin {others : List Root} {s t : State} {bytes : List ℕ} (p : Pictures others s bytes) {new : List ℕ} (after : Pictures others t new) (place : Place) (its : List ℕ)
    (frozen : FrozenKept bytes new p.picture.table p.picture.frozen after.picture.frozen) : Type 0 where
  pub cells : CellsWithin p new place
  pub lives : LiveBeside p new its
  pub frozen_stays : (f : Frozen) → IsOneOf f p.picture.frozen → (h : ℕ) → 1 ≤ times h (frozen.theirs f.at) → 1 ≤ times h (positions (live new)) → StandsAt f.at after.picture.frozen

-- the types and the objects that a row keeps
abbrev pub objects_there : {constants : List Constant} {others : List Root} {i : Instruction} {places bytes new : List ℕ} {answer : Answer} {t : State} {after : Pictures others t new} {s : State}
    (k : Side constants others i places bytes new answer after s) (path : Path) (place : Place) (l : LeadsInImage k.before path place) (start : Value × ℕ) (begins : at_origin s path.origin ≡ Some start) {value : Value} (its : List ℕ)
    (h : Holds bytes k.before.picture.table place value its) (kept : KeepsOwners k.before new place its) → ObjectsThere k.before new path place l start begins its h kept after
objects_there k path place l start begins its h kept = record { tables = k.tables; names = k.names; uniques = k.uniques; stay = k.stay; owned_at = k.owned_at }

-- what a row keeps besides the place
abbrev pub beside : {constants : List Constant} {others : List Root} {i : Instruction} {places bytes new : List ℕ} {answer : Answer} {t : State} {after : Pictures others t new} {s : State}
    (k : Side constants others i places bytes new answer after s) (path : Path) (place : Place) (l : LeadsInImage k.before path place) (start : Value × ℕ) (begins : at_origin s path.origin ≡ Some start) {value : Value} (its : List ℕ)
    (h : Holds bytes k.before.picture.table place value its) (kept : KeepsOwners k.before new place its) → LiveBeside k.before new its → Beside k.before new path place l start begins its h kept after
beside k path place l start begins its h kept lives = record {
  objects = objects_there k path place l start begins its h kept;
  kinds = k.kinds;
  lives = lives;
  frozen = k.frozen;
}

module _ (constants : List Constant) (others : List Root) (moves : List Move) (i : Instruction) (names : changes_names i.operation ≡ false) (uniques : changes_uniques i.operation ≡ false) where
  abbrev pub side_of : (x y : Situation) (answer : Answer) (r : RowOn constants others moves i x answer y) → moves_owners i.operation answer ≡ false → (places : List ℕ) → x.owned ≡ places
      → Side constants others i places x.image y.image answer r.after.pictured r.before.plain
  side_of x y answer r keeps places is = record {
    before = r.before.pictured;
    at = r.owned_before ∙ is;
    ties = r.ties;
    blocks = r.blocks;
    stay = r.objects_stay;
    tables = tables_stay constants others moves i x y answer r;
    names = names_stay constants others moves i x y answer r names;
    uniques = uniques_stay constants others moves i x y answer r uniques;
    owned_at = r.owned_after ∙ owned_kept constants others moves i x y answer r keeps ∙ sym r.owned_before;
    same_owners = owners_stay_same constants others moves i x y answer r keeps;
    kinds = kinds_stay constants others moves i x y answer r;
    frozen = r.frozen_kept;
  }

  module _ (x z y w : Situation) (first second : Answer) (stand : StandAlike others x z) (r : RowOn constants others moves i x first y) (q : RowOn constants others moves i z second w) (keeps : moves_owners i.operation first ≡ false)
      (found : RefersTo r.before.plain i.b) where
    answers : second ≡ first
    answers = sym (one constants others moves i x z y w first second stand r q).0

    abbrev pub mine : Side constants others i x.owned x.image y.image first r.after.pictured r.before.plain
    mine = side_of x y first r keeps x.owned refl

    pub theirs : Side constants others i x.owned z.image w.image second q.after.pictured r.before.plain
    theirs = subst (Side constants others i x.owned z.image w.image second q.after.pictured) (sym (plain_before constants others moves i x z y w first second stand r q))
        (side_of z w second q (ap (moves_owners i.operation) answers ∙ keeps) x.owned stand.owned)

    -- what is needed of the place, for a form and the blocks of its value
    pub record PlaceSteps {releases : Bool} (place : Place) (form : Form) (its : List ℕ) (t : Touched constants i releases mine.before y.image place form its)
        (u : Touched constants i releases theirs.before w.image place form its) : Type 0 where
      pub within_first : ReleasesWithin mine.before r.after.pictured place its mine.frozen
      pub within_second : ReleasesWithin theirs.before q.after.pictured place its theirs.frozen
      pub inner : (a b : Value) (xs ys : List ℕ) → Holds y.image mine.before.picture.table place a xs → AllByRecursion (Fits y.image) xs → Holds w.image mine.before.picture.table place b ys → AllByRecursion (Fits w.image) ys
          → (m n : ℕ → Value) → replaced m a ≡ replaced n b → ((h : ℕ) → 1 ≤ times h xs → 1 ≤ times h ys) → ((h : ℕ) → 1 ≤ times h ys → 1 ≤ times h xs) → ((h : ℕ) → times h xs ≤ 1) → ((h : ℕ) → times h ys ≤ 1)
          → AlikeAt y.image w.image mine.before.picture.table place

    -- the place's value afterwards
    pub now_there : {releases : Bool} {bytes new : List ℕ} {answer : Answer} {t : State} {after : Pictures others t new} (k : Side constants others i x.owned bytes new answer after r.before.plain) (place : Place)
        (form : Form) (its : List ℕ) (u : Touched constants i releases k.before new place form its)
        → There k.before new u.led_to.path place u.led_to.stands (found u.led_to.path u.led_to.path_is).0 (found u.led_to.path u.led_to.path_is).1 its u.holds_it u.kept after
        (objects_there k u.led_to.path place u.led_to.stands (found u.led_to.path u.led_to.path_is).0 (found u.led_to.path u.led_to.path_is).1 its u.holds_it u.kept) k.same_owners
    now_there {new = new} {after = after} k place form its u =
        let path = u.led_to.path in
        let start = found path u.led_to.path_is in
        value_there k.before new path place u.led_to.stands start.0 start.1 its u.holds_it u.kept after (objects_there k path place u.led_to.stands start.0 start.1 its u.holds_it u.kept) k.same_owners

    finish : {releases : Bool} (place : Place) (form : Form) (its : List ℕ) (t : Touched constants i releases mine.before y.image place form its) (u : Touched constants i releases theirs.before w.image place form its)
        → PlaceSteps place form its t u
        → StaysAlike others first second y w
    finish place form its t u steps =
        let path = t.led_to.path in
        let paths : u.led_to.path ≡ path = (let e : Some u.led_to.path ≡ Some path = sym u.led_to.path_is ∙ t.led_to.path_is in cc) in
        let l = t.led_to.stands in
        let m = subst (λ (k : Path). LeadsInImage theirs.before k place) paths u.led_to.stands in
        let start = found path t.led_to.path_is in
        let bx = beside mine path place l start.0 start.1 its t.holds_it t.kept steps.within_first.lives in
        let bz = beside theirs path place m start.0 start.1 its u.holds_it u.kept steps.within_second.lives in
        let there_x = value_there mine.before y.image path place l start.0 start.1 its t.holds_it t.kept r.after.pictured bx.objects mine.same_owners in
        let there_z = value_there theirs.before w.image path place m start.0 start.1 its u.holds_it u.kept q.after.pictured bz.objects theirs.same_owners in
        let mx = meaning_in (word y.image next_word) r.after.pictured.picture in
        let mz = meaning_in (word w.image next_word) q.after.pictured.picture in
        let seen_x : path_value y.state path ≡ Some (replaced mx there_x.now) = ap (λ (s : State). path_value s path) r.after.trees ∙ value_same mx r.after.plain path there_x.now there_x.value_is in
        let seen_z : path_value w.state path ≡ Some (replaced mz there_z.now) = ap (λ (s : State). path_value s path) q.after.trees ∙ value_same mz q.after.plain path there_z.now there_z.value_is in
        let both = one constants others moves i x z y w first second stand r q in
        let values : replaced mx there_x.now ≡ replaced mz there_z.now = (let e : Some (replaced mx there_x.now) ≡ Some (replaced mz there_z.now) = sym seen_x ∙ ap (λ (s : State). path_value s path) both.1 ∙ seen_z in cc) in
        let alike = stand.images in
        let one_table : theirs.before.picture.table ≡ mine.before.picture.table = theirs.before.types ∙ sym mine.before.types in
        let lives_before : live z.image ≡ live x.image = alike.live_same in
        let forth : (h : ℕ) → 1 ≤ times h there_x.blocks → 1 ≤ times h there_z.blocks = λ h some. (
        let o = owned_open mine.before y.image path place l start.0 start.1 its t.holds_it t.kept r.after.pictured bx steps.within_first.frozen_stays mine.same_owners there_x.blocks there_x.holds_now h some in
        owns_open theirs.before w.image path place m start.0 start.1 its u.holds_it u.kept q.after.pictured bz steps.within_second.cells there_z.blocks there_z.holds_now h (subst (λ bs. 1 ≤ times h (positions bs)) both.2 o.0)
        (subst (λ bs. (times h (positions bs) ≡ 0) ⊎ (1 ≤ times h its)) (sym lives_before) o.1)) in
        let back : (h : ℕ) → 1 ≤ times h there_z.blocks → 1 ≤ times h there_x.blocks = λ h some. (
        let o = owned_open theirs.before w.image path place m start.0 start.1 its u.holds_it u.kept q.after.pictured bz steps.within_second.frozen_stays theirs.same_owners there_z.blocks there_z.holds_now h some in
        owns_open mine.before y.image path place l start.0 start.1 its t.holds_it t.kept r.after.pictured bx steps.within_first.cells there_x.blocks there_x.holds_now h (subst (λ bs. 1 ≤ times h (positions bs)) (sym both.2) o.0)
        (subst (λ bs. (times h (positions bs) ≡ 0) ⊎ (1 ≤ times h its)) lives_before o.1)) in
        let inside = steps.inner there_x.now there_z.now there_x.blocks there_z.blocks there_x.holds_now there_x.fits
        (subst (λ (k : Table). Holds w.image k place there_z.now there_z.blocks) one_table there_z.holds_now) there_z.fits mx mz values forth back
        (λ h. omega (arith, there_x.fewer h, live-once y.image (word y.image allocator_word) r.after.pictured.held.laid_out.heap h))
        (λ h. omega (arith, there_z.fewer h, live-once w.image (word w.image allocator_word) q.after.pictured.held.laid_out.heap h)) in
        let mine_owned = owned_kept constants others moves i x y first r keeps in
        let their_owned = owned_kept constants others moves i z w second q (ap (moves_owners i.operation) answers ∙ keeps) in
        let images = changed_alike alike mine.before theirs.before mine.at theirs.at r.after.pictured q.after.pictured path place l m start.0 start.1 its its t.holds_it u.holds_it t.kept u.kept bx bz
        steps.within_first.cells steps.within_second.cells inside
        (q.length_kept ∙ alike.length_same ∙ sym r.length_kept) (q.header_kept ∙ alike.front_same ∙ sym r.header_kept)
        (q.ties.next_is ∙ (λ j. next_after i.operation (answers j) (alike.next_same j)) ∙ sym r.ties.next_is) (sym both.2) in
        record {
          answers = answers;
          stand = record {
            states = sym both.1;
            owned = their_owned ∙ stand.owned ∙ sym mine_owned;
            images = subst (λ places. AreAlike others places y.image w.image) r.owned_after images;
          };
        }

    -- an instruction that changes no frozen object
    pub within_whole : {bytes new : List ℕ} {answer : Answer} {t : State} {after : Pictures others t new} (k : Side constants others i x.owned bytes new answer after r.before.plain) (place : Place) (form : Form) (its : List ℕ)
        → Touched constants i false k.before new place form its → ChangesWithin k.before new place its → ReleasesWithin k.before after place its k.frozen
    within_whole {new = new} {after = after} k place form its t c =
        let start = found t.led_to.path t.led_to.path_is in
        record {
          cells = c.cells;
          lives = λ h some none none_frozen. c.lives h some none;
          frozen_stays = λ f i h mine some. all_stay k.before new t.led_to.path place t.led_to.stands start.0 start.1 its t.holds_it t.kept after (t.whole refl) k.frozen c.lives f i;
        }

    -- the step, from what is known of the place
    pub place_step : (releases : Bool) → ((s : State) (bytes : List ℕ) (p : Pictures others s bytes) (spot : Spot) (own : List ℕ) → TouchesBy constants i p i.operation spot own → MayTouch releases constants i p spot own)
        → ((place : Place) (form : Form) (its : List ℕ) (t : Touched constants i releases mine.before y.image place form its) (u : Touched constants i releases theirs.before w.image place form its) → PlaceSteps place form its t u)
        → StaysAlike others first second y w
    place_step releases touches steps = by mine.ties.changes theirs.ties.changes
      where
        with_place : {bytes new : List ℕ} (p : Pictures others r.before.plain bytes) → (new ≡ bytes) ⊎ Changes constants i p new → (new ≡ bytes) ⊎ SomeTouched constants i p new releases
        with_place p (inl e) = inl e
        with_place {new = new} p (inr c) = inr (touched_at constants i p new releases c (touches _ _ p c.spot c.own c.touches))

        by : (y.image ≡ x.image) ⊎ Changes constants i mine.before y.image → (w.image ≡ z.image) ⊎ Changes constants i theirs.before w.image → StaysAlike others first second y w
        by (inl e) (inl f) = kept_alike constants others moves i x z y w first second stand r q e f keeps
        by (inr c) d =
            let o = touched_at constants i mine.before y.image releases c (touches _ _ mine.before c.spot c.own c.touches) in
            let u = touched_too constants i stand.images mine.before theirs.before mine.at theirs.at found releases y.image w.image o.place o.form o.its o.touched (with_place theirs.before d) in
            finish o.place o.form o.its o.touched u (steps o.place o.form o.its o.touched u)
        by (inl e) (inr d) =
            let o = touched_at constants i theirs.before w.image releases d (touches _ _ theirs.before d.spot d.own d.touches) in
            let t = touched_too constants i (swapped stand.images) theirs.before mine.before theirs.at mine.at found releases w.image y.image o.place o.form o.its o.touched (inl e) in
            finish o.place o.form o.its t o.touched (steps o.place o.form o.its t o.touched)
