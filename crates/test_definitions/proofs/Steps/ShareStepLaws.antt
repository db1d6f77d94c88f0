-- Two situations that clients can't tell apart stay so after SHARE.
use Rattle.std.proofs.Common.{◌≡◌, ℕ, ◌+◌, ◌<◌, ◌≤◌, inl, inr, true, false, List, [], ◌∷◌, ◌++◌, length, Some, refl, sym, ap, ◌∙◌, subst, arith}
use Rattle.std.specs.Prelude.{option_and_then}
use Rattle.std.specs.List.{AllByRecursion}
use Rattle.seg_spec.specs.Bytes.{word}
use Rattle.seg_spec.specs.Header.{allocator_word, next_word}
use Rattle.seg_spec.specs.Types.{Form, Table}
use Rattle.seg_spec.specs.Value.{Label, Value, node, nil, Selector, value_at}
use Rattle.seg_spec.specs.Heap.{live}
use Rattle.seg_spec.specs.Reads.{Place, Holds}
use Rattle.seg_spec.specs.Index.{Root}
use Rattle.seg_spec.specs.Frozen.{Frozen, blocks_by}
use Rattle.seg_spec.specs.Destroying.{HoldFrozen}
use Rattle.seg_spec.specs.Sound.{times, positions}
use Rattle.seg_spec.specs.Shared.{names_in, IsBelow, IsCounted, raised_by, left, freed}
use Rattle.seg_spec.specs.Counting.{cells_in}
use Rattle.seg_spec.specs.Demand.{after_asks, after_gives}
use Rattle.seg_spec.specs.Spending as spending
use Rattle.seg_spec.proofs.Heap.LiveBlockLaws.{times-append, live-once}
use Rattle.seg_spec.proofs.Values.OneValueLaws.{Holds-one}
use Rattle.seg_spec.proofs.Values.PlaceFrameLaws.{each_weaker}
use Rattle.client_spec.specs.declared.table.Operation.{Operation}
use Rattle.client_spec.specs.Syntax.{Constant, Instruction}
use Rattle.client_spec.specs.Machine.{◌>>=◌, Path, State, at_origin}
use Rattle.client_spec.specs.Answer.{Answer, success}
use Rattle.client_spec.specs.Pictures.{Pictures, part_through, value_through}
use Rattle.client_spec.specs.Asks.{AsksBy, ReturnsBy, ChangesOnSuccess, ChangesBlocks, GrantsAsks}
use Rattle.client_spec.specs.Ties.{TouchesBy, MovesBy, SharesFrozen, keeps_image, places_of}
use Rattle.client_spec.specs.OnImages.{Move, Situation, RowOn}
use Rattle.client_spec.proofs.TypedStates.ValueLaws.{Some_inj, then_some, bind_some}
use Rattle.client_spec.proofs.Unfolded.PictureTreeLaws.{all_named}
use Rattle.client_sim.proofs.Frozen.FrozenValueLaws.{of_part, of_cell, below_in}
use Rattle.client_sim.proofs.Frozen.ReadOnlyLaws.{named_at}
use Rattle.test_definitions.specs.Alike.{StandAlike, StaysAlike}
use Rattle.test_definitions.proofs.Runs.AlikeFirstLaws.{frozen_order}
use Rattle.test_definitions.proofs.ValueChanges.BareValueLaws.{bare_alike}
use Rattle.test_definitions.proofs.ValueChanges.ChangedPlaceLaws.{its_within, its_owned, owners_with_value, counted_raised}
use Rattle.test_definitions.proofs.Frozen.FreedBlockLaws.{frozen_by, gives_times, parted}
use Rattle.test_definitions.proofs.Frozen.FrozenApartLaws.{frozen_apart}
use Rattle.test_definitions.proofs.Frozen.FrozenReleasedLaws.{released_stay}
use Rattle.test_definitions.proofs.Rows.KeptRowLaws.{one, unchanged_alike}
use Rattle.test_definitions.proofs.Rows.OnePlaceLaws.{RefersTo, led_one}
use Rattle.test_definitions.proofs.Rows.OneRow.{itself}
use Rattle.test_definitions.proofs.Rows.OneSharedLaws.{cell_in_both}
use Rattle.test_definitions.proofs.Rows.OwningRegisterLaws.{moves_owners, changes_names, changes_uniques}
use Rattle.test_definitions.proofs.Rows.PathOriginLaws.{at_place}
use Rattle.test_definitions.proofs.Rows.PlaceRowLaws.{refers_to}
use Rattle.test_definitions.proofs.Steps.PlaceStepLaws.{Touched}
use Rattle.test_definitions.proofs.Rows.ChangedPlaceRowLaws.{CellsWithin}
use Rattle.test_definitions.proofs.Steps.PlaceTwoStepLaws.{Side, LiveBeside, ReleasesWithin, PlaceSteps, mine, theirs, beside, place_step}
use Rattle.test_definitions.proofs.ValueChanges.PlaceValueLaws.{value_there}
use Rattle.test_definitions.proofs.Frozen.RaisedCountLaws.{raised_based, raised_there, raised_blocks}

-- ---- the shared cells of a value that is read through shared cells

below_all : (k n : ℕ) (fs : List Frozen) (q : Place) → AllByRecursion (λ (f : Frozen). f.number < n) fs → IsBelow k fs q → IsBelow n fs q
below_all k n [] q a b = b
below_all k n (f ∷ fs) q a (inl b) = inl (b.0, b.1, a.0)
below_all k n (f ∷ fs) q a (inr b) = inr (below_all k n fs q a.1 b)

module _ {others : List Root} {s : State} {bytes : List ℕ} (p : Pictures others s bytes) where
  abbrev Below : Place → Type 0
  Below = IsBelow (word bytes next_word) p.picture.frozen

  part_below : (v : Value) (x : Selector) (w : Value) → AllByRecursion Below (names_in v) → part_through p.picture.frozen v x ≡ Some w → AllByRecursion Below (names_in w)
  part_below (node (Label.shared T at) nil) Selector.content w a e =
      let q : Place = record { at = at; type = T } in
      let inside = below_in p (word bytes next_word) q w (of_cell Below T at a) e in
      each_weaker (IsBelow inside.0 p.picture.frozen) Below (λ z b. below_all inside.0 (word bytes next_word) p.picture.frozen z p.counted.counted.numbered b) (names_in w) inside.1
  part_below v x w a e = of_part Below (x ∷ []) v w a (ap (λ o. option_and_then (λ u. value_at u []) o) e)

  through_below : (xs : List Selector) (v w : Value) → AllByRecursion Below (names_in v) → value_through p.picture.frozen v xs ≡ Some w → AllByRecursion Below (names_in w)
  through_below [] v w a e = subst (λ u. AllByRecursion Below (names_in u)) (Some_inj e) a
  through_below (x ∷ xs) v w a e =
      let u = then_some (λ u. value_through p.picture.frozen u xs) (part_through p.picture.frozen v x) w e in
      through_below xs u.0 w (part_below v x u.0 a u.1) u.2

  -- of the cell that is shared
  pub cell_below : (constants : List Constant) (i : Instruction) (new : List ℕ) (share : SharesFrozen constants i p new) → AllByRecursion Below (names_in share.cell)
  cell_below constants i new share =
      let found = bind_some (at_origin s share.path.origin) (λ found. value_through p.picture.frozen found.0 share.path.selectors) share.cell share.there in
      let whole : Path = record { origin = share.path.origin; selectors = [] } in
      let all = named_at Below s (all_named Below p p.counted.counted.named) whole found.0.0 (ap (λ o. o >>= λ (x : Value × ℕ). value_at x.0 []) found.1) in
      through_below share.path.selectors found.0.0 share.cell all found.2

-- ---- what is freed

-- the frozen objects after the cell was counted once more
abbrev counted_more : {others : List Root} {s : State} {bytes : List ℕ} → Pictures others s bytes → Value → List Frozen
counted_more p cell = raised_by (names_in cell) p.picture.frozen

record ShareFrees {others : List Root} {s : State} {bytes : List ℕ} (p : Pictures others s bytes) (new its : List ℕ) (value cell : Value) : Type 0 where
  theirs : ℕ → List ℕ
  holds : HoldFrozen bytes p.picture.table theirs p.picture.frozen
  left_is : live new ≡ after_gives (live bytes) (its ++ blocks_by theirs (freed (names_in value) (counted_more p cell)))

-- ---- one row

module _ {constants : List Constant} {others : List Root} {i : Instruction} {places bytes new : List ℕ} {answer : Answer} {t : State} {after : Pictures others t new} {s : State} (k : Side constants others i places bytes new answer after s)
    (is : i.operation ≡ Operation.Share) (found : RefersTo s i.b) (place : Place) (form : Form) (its : List ℕ) (touched : Touched constants i true k.before new place form its) (share : SharesFrozen constants i k.before new)
    (changed : ChangesBlocks constants i k.before success new) where
  abbrev p : Pictures others s bytes
  p = k.before

  abbrev start : (f : Value × ℕ) × (at_origin s touched.led_to.path.origin ≡ Some f)
  start = found touched.led_to.path touched.led_to.path_is

  abbrev base : List Frozen
  base = counted_more p share.cell

  -- the place contains the cell
  pub cell_is : (v : Value) (news : List ℕ) → Holds new s.types place v news → (v ≡ share.cell) × (news ≡ [])
  cell_is v news h =
      let one_place = led_one constants i (itself others (places_of p.owned) bytes p refl) p p refl refl found place share.place form share.form touched.led_to share.led_to in
      Holds-one new s.types (subst (λ (z : Place). Holds new s.types z v news) one_place.0 h) share.now_there

  frees : ShareFrees p new its touched.value share.cell
  frees =
      let g : GrantsAsks constants i p new = subst (λ o. ChangesOnSuccess constants i p o new) is changed in
      let asks : g.asks ≡ [] = subst (λ o. AsksBy constants i p o g.asks) is g.asked in
      let blocks : live bytes ≡ g.blocks = (let e : Some (live bytes) ≡ Some g.blocks = ap (after_asks (word bytes allocator_word) (live bytes) (length bytes)) (sym asks) ∙ g.granted in cc) in
      let gone : ReturnsBy constants i p Operation.Share g.gives = subst (λ o. ReturnsBy constants i p o g.gives) is g.returned in
      let e = gone.3 in
      let one_place = led_one constants i (itself others (places_of p.owned) bytes p refl) p p refl refl found place gone.0 form gone.1 touched.led_to gone.2 in
      let holds_it = subst (λ (a : Table). Holds bytes a place touched.value its) p.types touched.holds_it in
      let old = Holds-one bytes s.types (subst (λ (z : Place). Holds bytes s.types z e.value e.own) (sym one_place.0) e.holds) holds_it in
      let paths : e.path ≡ share.path = (let f : Some e.path ≡ Some share.path = sym e.path_is ∙ share.path_is in cc) in
      let cells : e.other ≡ share.cell = (let f : Some e.other ≡ Some share.cell = sym e.there ∙ ap (λ (z : Path). at_origin s z.origin >>= λ found. value_through p.picture.frozen found.0 z.selectors) paths ∙ share.there in cc) in
      record {
        theirs = e.theirs;
        holds = e.frozen_hold;
        left_is = g.left ∙ (λ j. after_gives (sym blocks j) (spending.replaced (word bytes allocator_word) (live bytes) (length bytes) (asks j) ++ e.gives_are j))
            ∙ (λ j. after_gives (live bytes) (old.1 j ++ blocks_by e.theirs (freed (names_in (old.0 j)) (raised_by (names_in (cells j)) p.picture.frozen))));
      }

  abbrev shared : List ℕ
  shared = blocks_by frees.theirs (freed (names_in touched.value) base)

  shared_frozen : (h : ℕ) → times h shared ≤ times h (frozen_apart bytes p.picture p.held).frozen
  shared_frozen h =
      let apart = frozen_apart bytes p.picture p.held in
      let all = raised_blocks frees.theirs (names_in share.cell) p.picture.frozen ∙ sym (frozen_by bytes p.picture.table frees.theirs p.picture.frozen apart.frozen apart.holds_frozen frees.holds) in
      omega (arith, parted frees.theirs (names_in touched.value) base h, ap (times h) all)

  live_then : (h : ℕ) → times h (positions (live new)) + (times h its + times h shared) ≡ times h (positions (live bytes))
  live_then h =
      let path = touched.led_to.path in
      let l = touched.led_to.stands in
      let within : (g : ℕ) → times g (its ++ shared) ≤ times g (positions (live bytes)) = λ g. omega (
        arith,
        times-append g its shared,
        shared_frozen g,
        its_within p new path place l start.0 start.1 its touched.holds_it touched.kept g,
        its_owned p new path place l start.0 start.1 its touched.holds_it touched.kept g,
        (frozen_apart bytes p.picture p.held).counts g,
      ) in
      omega (arith, gives_times (live bytes) (its ++ shared) h within, times-append h its shared, ap (λ bs. times h (positions bs)) frees.left_is)

  cells : CellsWithin p new place
  cells v news h = subst (λ u. AllByRecursion (IsBelow (word bytes next_word) p.picture.frozen) (names_in u)) (sym (cell_is v news (subst (λ (a : Table). Holds new a place v news) p.types h)).0) (cell_below p constants i new share)

  lives : LiveBeside p new its
  lives h some none none_frozen = omega (arith, some, none, none_frozen, shared_frozen h, live_then h)

  pub shares_within : ReleasesWithin p after place its k.frozen
  shares_within =
      let path = touched.led_to.path in
      let l = touched.led_to.stands in
      let b = beside k path place l start.0 start.1 its touched.holds_it touched.kept lives in
      let now = value_there p new path place l start.0 start.1 its touched.holds_it touched.kept after b.objects k.same_owners in
      let now_is = (cell_is now.now now.blocks (subst (λ (a : Table). Holds new a place now.now now.blocks) p.types now.holds_now)).0 in
      let all = owners_with_value p new path place l start.0 start.1 its touched.holds_it touched.kept now.now in
      let counted = subst (λ c. IsCounted (word bytes next_word) (left (names_in touched.value) (raised_by (names_in c) p.picture.frozen)) (cells_in all)) now_is
      (counted_raised p new path place l start.0 start.1 its touched.holds_it touched.kept now.now (cells now.now now.blocks now.holds_now)) in
      record {
        cells = cells;
        lives = lives;
        frozen_stays = released_stay p new path place l start.0 start.1 its touched.holds_it touched.kept after b k.same_owners base (raised_based (names_in share.cell) p.picture.frozen) (names_in touched.value) now.now now.blocks
            now.holds_now counted frees.theirs frees.holds (raised_there (names_in share.cell) p.picture.frozen)
            (λ h some. omega (arith, some, live_then h, live-once bytes (word bytes allocator_word) p.held.laid_out.heap h));
      }

-- ---- two rows

module _ (constants : List Constant) (others : List Root) (moves : List Move) (i : Instruction) (is : i.operation ≡ Operation.Share) (x z y w : Situation) where
  no_names : changes_names i.operation ≡ false
  no_names = ap changes_names is

  no_uniques : changes_uniques i.operation ≡ false
  no_uniques = ap changes_uniques is

  shares : (second : Answer) (stand : StandAlike others x z) (r : RowOn constants others moves i x success y) (q : RowOn constants others moves i z second w) → StaysAlike others success second y w
  shares second stand r q =
      place_step constants others moves i no_names no_uniques x z y w success second stand r q keeps found true (λ s bytes p spot own t. subst (λ o. TouchesBy constants i p o spot own) is t) steps
    where
      keeps : moves_owners i.operation success ≡ false
      keeps = ap (λ o. moves_owners o success) is

      found : RefersTo r.before.plain i.b
      found = refers_to constants i x.state x.image r.before success y.state r.row (ap at_place is)

      side : Side constants others i x.owned x.image y.image success r.after.pictured r.before.plain
      side = mine constants others moves i no_names no_uniques x z y w success second stand r q keeps found

      other : Side constants others i x.owned z.image w.image second q.after.pictured r.before.plain
      other = theirs constants others moves i no_names no_uniques x z y w success second stand r q keeps found

      succeeds : success ≡ second
      succeeds = (one constants others moves i x z y w success second stand r q).0

      share : SharesFrozen constants i side.before y.image
      share = subst (λ o. MovesBy constants i side.before o success y.image) is side.ties.moved_by

      share_too : SharesFrozen constants i other.before w.image
      share_too = subst (λ o. MovesBy constants i other.before o success w.image) is (subst (λ a. MovesBy constants i other.before i.operation a w.image) (sym succeeds) other.ties.moved_by)

      theirs_success : ChangesBlocks constants i other.before success w.image
      theirs_success = subst (λ a. ChangesBlocks constants i other.before a w.image) (sym succeeds) other.blocks

      one_cell : share.cell ≡ share_too.cell
      one_cell = cell_in_both constants i x.image z.image y.image w.image side.before other.before
          (frozen_order stand.images side.before.picture other.before.picture side.before.held other.before.held side.before.counted other.before.counted) share share_too

      steps : (place : Place) (form : Form) (its : List ℕ) (t : Touched constants i true side.before y.image place form its) (u : Touched constants i true other.before w.image place form its)
          → PlaceSteps constants others moves i no_names no_uniques x z y w success second stand r q keeps found place form its t u
      steps place form its t u = record {
        within_first = shares_within side is found place form its t share side.blocks;
        within_second = shares_within other is found place form its u share_too theirs_success;
        inner = λ a b xs ys h fits k fits_too m n same forth back once once_too. (
            let first = cell_is side is found place form its t share side.blocks a xs (subst (λ (e : Table). Holds y.image e place a xs) side.before.types h) in
            let second = cell_is other is found place form its u share_too theirs_success b ys (subst (λ (e : Table). Holds w.image e place b ys) side.before.types k) in
            bare_alike y.image w.image side.before.picture.table h first.1 k second.1 (first.0 ∙ one_cell ∙ sym second.0));
      }

  pub share_alike : (first second : Answer) → StandAlike others x z → RowOn constants others moves i x first y → RowOn constants others moves i z second w → StaysAlike others first second y w
  share_alike success second stand r q = shares second stand r q
  share_alike first second stand r q = unchanged_alike constants others moves i x z y w first second stand r q (ap (λ o. keeps_image o first) is)
