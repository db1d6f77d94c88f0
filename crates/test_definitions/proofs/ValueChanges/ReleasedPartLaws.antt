-- A row that frees some blocks of a place, and the frozen objects to which no cell points any more: all other blocks
-- stay, and so do the frozen objects of which a block is still allocated.
use Rattle.std.proofs.Common.{◌≡◌, ℕ, ◌+◌, ◌≤◌, true, List, ◌++◌, Some, ap, arith}
use Rattle.seg_spec.specs.Bytes.{word}
use Rattle.seg_spec.specs.Header.{allocator_word, next_word}
use Rattle.seg_spec.specs.Types.{Form}
use Rattle.seg_spec.specs.Value.{Value}
use Rattle.seg_spec.specs.Heap.{live}
use Rattle.seg_spec.specs.Reads.{Place, Holds}
use Rattle.seg_spec.specs.Index.{Root}
use Rattle.seg_spec.specs.Sound.{times, positions}
use Rattle.seg_spec.specs.Shared.{names_in, IsBelow}
use Rattle.seg_spec.specs.Counting.{owners_in, FrozenGone}
use Rattle.seg_spec.specs.Demand.{after_gives}
use Rattle.seg_spec.proofs.Frozen.PartCountLaws.{SameNames}
use Rattle.seg_spec.proofs.Heap.LiveBlockLaws.{times-append, live-once}
use Rattle.seg_spec.proofs.Values.PlaceFrameLaws.{each_right}
use Rattle.client_spec.specs.Syntax.{Constant, Instruction}
use Rattle.client_spec.specs.Machine.{Path, State, at_origin}
use Rattle.client_spec.specs.Answer.{Answer}
use Rattle.client_spec.specs.Pictures.{Pictures, LeadsInImage}
use Rattle.test_definitions.proofs.ValueChanges.ChangedPlaceLaws.{own_owner, value_below, its_within, its_owned, counted_left}
use Rattle.test_definitions.proofs.Rows.ChangedPlaceRowLaws.{CellsWithin, cells_of}
use Rattle.test_definitions.proofs.Frozen.FreedBlockLaws.{frozen_by, at_times, gives_times, parted}
use Rattle.test_definitions.proofs.Frozen.FrozenApartLaws.{frozen_apart}
use Rattle.test_definitions.proofs.Frozen.FrozenReleasedLaws.{each_based, released_stay}
use Rattle.test_definitions.proofs.Rows.OnePlaceLaws.{RefersTo}
use Rattle.test_definitions.proofs.Steps.PlaceStepLaws.{Touched}
use Rattle.test_definitions.proofs.Steps.PlaceTwoStepLaws.{Side, LiveBeside, ReleasesWithin, beside}
use Rattle.test_definitions.proofs.ValueChanges.PlaceValueLaws.{value_there}

-- the blocks that are freed, and the shared cells that went
pub record Releases {others : List Root} {s : State} {bytes : List ℕ} (p : Pictures others s bytes) (new : List ℕ) : Type 0 where
  pub own : List ℕ
  pub gone : List Place
  pub shared : List ℕ
  pub freeing : FrozenGone bytes p.picture gone shared
  pub left : live new ≡ after_gives (live bytes) (own ++ shared)

-- how often a block is allocated afterwards
live_after : {others : List Root} {s : State} {bytes : List ℕ} (p : Pictures others s bytes) (new : List ℕ) (e : Releases p new) → ((h : ℕ) → times h e.own ≤ times h (frozen_apart bytes p.picture p.held).owners)
    → (h : ℕ) → (times h (positions (live new)) + (times h e.own + times h e.shared) ≡ times h (positions (live bytes))) × (times h e.shared ≤ times h (frozen_apart bytes p.picture p.held).frozen)
live_after {bytes = bytes} p new e within h =
    let apart = frozen_apart bytes p.picture p.held in
    let all = frozen_by bytes p.picture.table e.freeing.theirs p.picture.frozen apart.frozen apart.holds_frozen e.freeing.holds in
    let shared : (g : ℕ) → times g e.shared ≤ times g apart.frozen = λ g. omega (arith, ap (times g) e.freeing.blocks_are, parted e.freeing.theirs e.gone p.picture.frozen g, ap (times g) all) in
    let each = λ (g : ℕ). times-append g e.own e.shared in
    let counted = gives_times (live bytes) (e.own ++ e.shared) h (λ g. omega (arith, each g, shared g, within g, apart.counts g)) in
    (omega (arith, counted, each h, ap (λ bs. times h (positions bs)) e.left), shared h)

module _ {constants : List Constant} {others : List Root} {i : Instruction} {places bytes new : List ℕ} {answer : Answer} {t : State} {after : Pictures others t new} {s : State} (k : Side constants others i places bytes new answer after s)
    (found : RefersTo s i.b) (place : Place) (form : Form) (its : List ℕ) (touched : Touched constants i true k.before new place form its) (goes : Releases k.before new) (own_within : (h : ℕ) → times h goes.own ≤ times h its) where
  abbrev p : Pictures others s bytes
  p = k.before

  abbrev path : Path
  path = touched.led_to.path

  abbrev l : LeadsInImage k.before touched.led_to.path place
  l = touched.led_to.stands

  abbrev start : (f : Value × ℕ) × (at_origin s touched.led_to.path.origin ≡ Some f)
  start = found touched.led_to.path touched.led_to.path_is

  its_among : (h : ℕ) → times h its ≤ times h (frozen_apart bytes p.picture p.held).owners
  its_among h = omega (arith, its_within p new path place l start.0 start.1 its touched.holds_it touched.kept h, its_owned p new path place l start.0 start.1 its touched.holds_it touched.kept h)

  pub lives_then : (h : ℕ) → (times h (positions (live new)) + (times h goes.own + times h goes.shared) ≡ times h (positions (live bytes))) × (times h goes.shared ≤ times h (frozen_apart bytes p.picture p.held).frozen)
  lives_then h = live_after p new goes (λ g. omega (arith, own_within g, its_among g)) h

  pub lives : LiveBeside p new its
  lives h some none none_frozen = omega (arith, some, none, none_frozen, own_within h, (lives_then h).0, (lives_then h).1)

  -- the shared cells of the old value are the cells that went and the cells of the new value
  module _ (cells_are : (v : Value) (news : List ℕ) → Holds new k.before.picture.table place v news → SameNames (names_in touched.value) (goes.gone ++ names_in v)) where
    cells : CellsWithin p new place
    cells v news h =
        let B = IsBelow (word bytes next_word) p.picture.frozen in
        let root = cells_of B (owners_in p.picture) l.root p.counted.counted.named (own_owner p new path place l start.0 start.1 its touched.holds_it touched.kept) in
        let below = value_below p new path place l start.0 start.1 its touched.holds_it touched.kept (word bytes next_word) p.picture.frozen root in
        each_right B goes.gone (names_in v) ((cells_are v news h).below (word bytes next_word) p.picture.frozen below)

    pub releases_within : ReleasesWithin p after place its k.frozen
    releases_within =
        let b = beside k path place l start.0 start.1 its touched.holds_it touched.kept lives in
        let now = value_there p new path place l start.0 start.1 its touched.holds_it touched.kept after b.objects k.same_owners in
        record {
          cells = cells;
          lives = lives;
          frozen_stays = released_stay p new path place l start.0 start.1 its touched.holds_it touched.kept after b k.same_owners p.picture.frozen (each_based p.picture.frozen) goes.gone now.now now.blocks now.holds_now
              (counted_left p new path place l start.0 start.1 its touched.holds_it touched.kept goes.gone now.now (cells_are now.now now.blocks now.holds_now))
              goes.freeing.theirs goes.freeing.holds (λ f i. at_times f p.picture.frozen i)
              (λ h some. omega (arith, some, ap (times h) goes.freeing.blocks_are, (lives_then h).0, live-once bytes (word bytes allocator_word) p.held.laid_out.heap h));
        }
