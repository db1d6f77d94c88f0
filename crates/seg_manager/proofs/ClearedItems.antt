-- The values of an object are cleared one after the other, and so are the frozen objects that lost
-- their last cell. Then the object's block is freed.
use Rattle.std.proofs.Common.{◌≡◌, ◌≢◌, ℕ, suc, ◌+◌, ◌-◌, ◌*◌, ◌%◌, ◌^◌, ◌<◌, ◌≤◌, inl, inr, List, [], ◌∷◌, ◌++◌, length, refl, sym, ap, ◌∙◌, subst, arith}
use Rattle.std.specs.List.{AllByRecursion}
use Rattle.seg_spec.specs.Bytes.{word, IsSame}
use Rattle.seg_spec.specs.Header.{allocator_word, free_word, heap_start, KeepsFront, KeepsBack}
use Rattle.seg_spec.specs.Types.{Table, IsTable, size}
use Rattle.seg_spec.specs.Value.{Value, Values, nil, cons, count, default_of}
use Rattle.seg_spec.specs.Heap.{Span, units_at, IsHeap, live, after_give, IsLive, Gives}
use Rattle.seg_spec.specs.Block.{KeepsBlock, IsOwnable, IsInside, block_of, payload_size}
use Rattle.seg_spec.specs.Reads.{Place, Holds, HoldsEach, holds_none, holds_more, items, spaced}
use Rattle.seg_spec.specs.Index.{Root}
use Rattle.seg_spec.specs.Apart.{Separate, KeepsBlockAround}
use Rattle.seg_spec.specs.Sound.{times, SameBlocks, positions, words_size, payload_of}
use Rattle.seg_spec.specs.Roots.{ChangesPlace}
use Rattle.seg_spec.specs.Owing.{KeepsLinked}
use Rattle.seg_spec.specs.Owning.{Stands}
use Rattle.seg_spec.specs.Demand.{after_gives}
use Rattle.seg_spec.specs.Frozen.{Frozen, blocks_by}
use Rattle.seg_spec.specs.Shared.{named_in, named_each, IsReleasing}
use Rattle.seg_spec.specs.Destroying.{AreLive, HoldFrozen, KeepFrozen, Destroys}
use Rattle.seg_spec.specs.Clearing.{SharedBeside, BesideShared, ClearsPlace}
use Rattle.seg_spec.proofs.SliceLaws.{IsSame-part}
use Rattle.seg_spec.proofs.Values.PlaceFrameLaws.{word-same, spaced-same, places-same, HoldsEach-kept}
use Rattle.seg_spec.proofs.Heap.LiveBlockLaws.{OneOrApart, LiesIn, there, each_there, live-lie, live-apart, live-once, times-append, times-same}
use Rattle.seg_spec.proofs.Values.CellChangeLaws.{size_aligned}
use Rattle.seg_spec.proofs.Heap.BlockFrameLaws.{kept_twice}
use Rattle.seg_spec.proofs.Heap.FreeOrderLaws.{in_any_order}
use Rattle.seg_spec.proofs.Deallocation.BlockFreeLaws.{found, kept_linked}
use Rattle.seg_spec.proofs.Values.CallPlaceLaws.{live_at}
use Rattle.seg_spec.proofs.Frozen.FrozenBlockLaws.{hold_kept, frozen_twice, frozen_kept, released_each}
use Rattle.seg_spec.proofs.Frozen.PictureCountLaws.{InTurn, in_turn, all_released, named_more, named_nothing}
use Rattle.seg_value.proofs.Inside.{given_counts, given_linked, given_ownable, given_front}
use Rattle.seg_manager.specs.LeavingNamed.{IsUnlisted}
use Rattle.seg_manager.specs.NamedObjects.{found_of}
use Rattle.seg_manager.specs.declared.names.Found.{Found}

times_cons : (h x : ℕ) (xs : List ℕ) → times h (x ∷ xs) ≡ times h (x ∷ []) + times h xs
times_cons h x xs = times-append h (x ∷ []) xs

pub gives_append : (bs : List Span) (xs ys : List ℕ) → after_gives bs (xs ++ ys) ≡ after_gives (after_gives bs xs) ys
gives_append bs [] ys = refl
gives_append bs (x ∷ xs) ys = gives_append (after_give bs x) xs ys

-- the first of some values, and the others
pub record First (bytes : List ℕ) (table : Table) (place : Place) (places : List Place) (all : Values) (blocks : List ℕ) : Type 0 where
  pub v : Value
  pub vs : Values
  pub its : List ℕ
  pub more : List ℕ
  pub holds_it : Holds bytes table place v its
  pub others : HoldsEach bytes table places vs more
  pub blocks_are : blocks ≡ its ++ more
  pub values_are : all ≡ cons v vs

first : {bytes : List ℕ} {table : Table} {place : Place} {places : List Place} {vs : Values} {blocks : List ℕ} → HoldsEach bytes table (place ∷ places) vs blocks → First bytes table place places vs blocks
first (holds_more {v = v} {vs = vs} {blocks = its} {owned = more} h hs) = record { v = v; vs = vs; its = its; more = more; holds_it = h; others = hs; blocks_are = refl; values_are = refl }

none_left : {bytes : List ℕ} {table : Table} {vs : Values} {blocks : List ℕ} → HoldsEach bytes table [] vs blocks → (vs ≡ nil) × (blocks ≡ [])
none_left holds_none = (refl, refl)

-- Of an object's n values the first k were cleared. Their blocks were freed, and so were the blocks
-- of the frozen objects that lost their last cell. The blocks of the other values and frozen
-- objects are allocated.
pub record Cleared (allocator : ℕ) (old now : List ℕ) (table : Table) (at T n : ℕ) (inside : List ℕ) (theirs : ℕ → List ℕ) (frozen final : List Frozen) (k : ℕ) : Type 0 where
  pub length_kept : length now ≡ length old
  pub front_kept : KeepsFront old now
  pub back_kept : KeepsBack old now
  pub heap : IsHeap allocator now
  pub allocator_is : word now allocator_word ≡ allocator
  pub ownable : AllByRecursion (λ b. IsOwnable now table b.at) (live now)
  pub aligned : (at + k * size table T) % 8 ≡ 0
  pub room : IsInside now (block_of at) at (n * size table T)
  pub vs : Values
  pub gone : List ℕ
  pub rest : List ℕ
  pub values : HoldsEach now table (items table (at + k * size table T) T (n - k)) vs rest
  -- the remaining frozen objects
  pub objects : List Frozen
  pub holds : HoldFrozen now table theirs objects
  pub shared_kept : KeepFrozen old now theirs objects
  pub cells : List Place
  pub releasing : IsReleasing cells final (named_each vs) objects
  pub all_are : SameBlocks (inside ++ blocks_by theirs frozen) (gone ++ (rest ++ blocks_by theirs objects))
  pub owned : AreLive now (block_of at ∷ (rest ++ blocks_by theirs objects))
  pub live_is : live now ≡ after_gives (live old) gone
  pub live_are : (h : ℕ) → times h (positions (live now)) + times h gone ≡ times h (positions (live old))
  pub kept : (h : ℕ) → 1 ≤ times h (positions (live old)) → times h (block_of at ∷ (inside ++ blocks_by theirs frozen)) ≡ 0 → KeepsBlock old now h

pub cleared_first : (allocator : ℕ) (old : List ℕ) (table : Table) (at T n : ℕ) (inside : List ℕ) (vs : Values) (theirs : ℕ → List ℕ) (cells : List Place) (frozen final : List Frozen) → IsHeap allocator old
    → word old allocator_word ≡ allocator → AllByRecursion (λ b. IsOwnable old table b.at) (live old) → 16 ≤ at → n * size table T ≤ payload_size old (block_of at) → HoldsEach old table (items table at T n) vs inside
    → SharedBeside old table (block_of at ∷ inside) (named_each vs) theirs cells frozen final → Cleared allocator old old table at T n inside theirs frozen final 0
cleared_first allocator old table at T n inside vs theirs cells frozen final heap allocator_is ownable after room values s =
    let same : at ≡ at + 0 * size table T = omega arith in
    let mine : 1 ≤ times (block_of at) (positions (live old)) = omega (arith, s.owned (block_of at), times-same (block_of at) (inside ++ blocks_by theirs frozen)) in
    let lies = there (LiesIn old heap_start (length old)) (block_of at) (positions (live old)) (live-lie old allocator heap) mine in
    let stays : (h : ℕ) → KeepsBlock old old h = λ h. record { live = refl; has_tag = refl; room = omega arith; payload = refl } in
    record {
      length_kept = refl;
      front_kept = refl;
      back_kept = refl;
      heap = heap;
      allocator_is = allocator_is;
      ownable = ownable;
      aligned = omega (arith, lies.aligned);
      room = record { low = omega arith; high = omega (arith, lies.size) };
      vs = vs;
      gone = [];
      rest = inside;
      values = subst (λ m. HoldsEach old table (items table (at + 0 * size table T) T m) vs inside) (let e : n ≡ n - 0 = omega arith in e) (subst (λ p. HoldsEach old table (items table p T n) vs inside) same values);
      objects = frozen;
      holds = s.holds;
      shared_kept = frozen_kept allocator old old heap theirs frozen (λ h some. omega (arith, s.owned h, times_cons h (block_of at) (inside ++ blocks_by theirs frozen), times-append h inside (blocks_by theirs frozen))) (λ h some. stays h);
      cells = cells;
      releasing = s.releasing;
      all_are = λ h. refl;
      owned = s.owned;
      live_is = refl;
      live_are = λ h. omega arith;
      kept = λ h some none. stays h;
    }

-- ---- the next value

module _ (allocator : ℕ) (old now : List ℕ) (table : Table) (valid : IsTable table) (at T n k : ℕ) (inside : List ℕ) (theirs : ℕ → List ℕ) (frozen final : List Frozen)
    (c : Cleared allocator old now table at T n inside theirs frozen final k) (below : k < n) where
  abbrev each : ℕ
  each = size table T

  abbrev pub place : Place
  place = record { at = at + k * size table T; type = T }

  abbrev home : ℕ
  home = block_of at

  abbrev left : ℕ
  left = n - suc k

  -- the blocks of the remaining frozen objects
  abbrev theirs_now : List ℕ
  theirs_now = blocks_by theirs c.objects

  one_more : suc k * each ≡ each + k * each
  one_more = grind arith

  all_items : n * each ≡ suc k * each + left * each
  all_items =
      let split : n ≡ suc k + left = omega arith in
      ap (λ m. m * each) split ∙ (let sum : (suc k + left) * each ≡ suc k * each + left * each = grind arith in sum)

  pub f : First now table place (items table (at + k * each + each) T left) c.vs c.rest
  f = first (subst (λ m. HoldsEach now table (items table (at + k * each) T m) c.vs c.rest) (let e : n - k ≡ suc left = omega arith in e) c.values)

  -- the targets of this value are released before the targets of the other values
  pub turn : InTurn c.cells final (named_in f.v) (named_each f.vs) c.objects
  turn = in_turn c.cells final (named_in f.v) (named_each f.vs) c.objects (subst (λ ns. IsReleasing c.cells final ns c.objects) (ap named_each f.values_are ∙ named_more f.v f.vs) c.releasing)

  once : (h : ℕ) → times h (positions (live now)) ≤ 1
  once h = live-once now allocator c.heap h

  rest_are : (h : ℕ) → times h c.rest ≡ times h f.its + times h f.more
  rest_are h = ap (times h) f.blocks_are ∙ times-append h f.its f.more

  own_home : (h : ℕ) → times h (home ∷ []) + (times h f.its + times h f.more) + times h theirs_now ≤ times h (positions (live now))
  own_home h = omega (arith, c.owned h, times_cons h home (c.rest ++ theirs_now), times-append h c.rest theirs_now, rest_are h)

  home_there : times home (home ∷ []) ≡ 1
  home_there = times-same home []

  home_live : 1 ≤ times home (positions (live now))
  home_live = omega (arith, own_home home, home_there)

  lies : (h : ℕ) → 1 ≤ times h (positions (live now)) → LiesIn now heap_start (length now) h
  lies h some = there (LiesIn now heap_start (length now)) h (positions (live now)) (live-lie now allocator c.heap) some

  item_inside : IsInside now home (at + k * each) each
  item_inside = record { low = omega (arith, c.room.low); high = omega (arith, c.room.high, one_more, all_items) }

  pub small : at + k * size table T < 2 ^ 32
  small = omega (arith, (lies home home_live).high, item_inside.high, c.heap.small)

  pub stands : Stands allocator now table place f.v f.its
  stands = record {
    heap = c.heap;
    allocator_is = c.allocator_is;
    is_table = valid;
    ownable = c.ownable;
    holds_it = f.holds_it;
    aligned = c.aligned;
    home = home;
    inside = item_inside;
    owned = λ h. omega (arith, own_home h, times_cons h home f.its);
  }

  pub beside : SharedBeside now table (stands.home ∷ f.its) (named_in f.v) theirs turn.others c.objects turn.mid
  unfolding stands
  beside = record {
    holds = c.holds;
    ownable = λ h some. live_at (IsOwnable now table) (live now) h c.ownable (omega (arith, own_home h));
    owned = λ h. omega (arith, own_home h, times_cons h home (f.its ++ theirs_now), times-append h f.its theirs_now);
    releasing = turn.first;
  }

  module _ (next : List ℕ) (clears : ClearsPlace now next table place (default_of table T) f.its [] theirs c.objects turn.mid) where
    abbrev change : ChangesPlace now next table place (default_of table T) [] (after_gives (live now) clears.gives) (f.its ++ theirs_now) ([] ++ blocks_by theirs turn.mid)
    change = clears.changes

    home_around : KeepsBlockAround now next (at + k * each) each home
    home_around = change.kept home home_live (omega (arith, own_home home, home_there, once home, times-append home f.its theirs_now))

    away : (h : ℕ) → h ≢ home → OneOrApart now home h → 2 ≤ units_at now h → Separate (h + 16) (payload_size now h) (at + k * each) each
    away h ne (inl e) two = absurd (ne e)
    away h ne (inr (inl l)) two = inr (omega (arith, item_inside.high))
    away h ne (inr (inr l)) two = inl (omega (arith, item_inside.low))

    -- a block is kept whole unless it is the object's, the value's or a frozen object's
    whole : (h : ℕ) → 1 ≤ times h (positions (live now)) → h ≢ home → times h f.its ≡ 0 → times h theirs_now ≡ 0 → KeepsBlock now next h
    whole h some ne none none_too =
        let k = change.kept h some (omega (arith, none, none_too, times-append h f.its theirs_now)) in
        let pair = there (OneOrApart now home) h (positions (live now)) (there (λ t. AllByRecursion (OneOrApart now t) (positions (live now))) home (positions (live now)) (live-apart now allocator c.heap) home_live) some in
        record {
          live = k.header.live;
          has_tag = k.header.has_tag;
          room = k.header.room;
          payload = k.payload (h + 16) (payload_size now h) (omega arith) (omega arith) (away h ne pair (lies h some).size);
        }

    more_kept : AllByRecursion (KeepsBlock now next) f.more
    more_kept = each_there (KeepsBlock now next) f.more (λ h some.
        whole h (omega (arith, own_home h)) (λ e. let mine : 1 ≤ times home f.more = subst (λ x. 1 ≤ times x f.more) e some in omega (arith, own_home home, home_there, once home)) (omega (arith, own_home h, once h))
        (omega (arith, own_home h, once h)))

    others_same : IsSame now next (at + k * each + each) (left * each)
    others_same = home_around.payload (at + k * each + each) (left * each) (omega (arith, item_inside.low))
        (omega (arith, c.room.high, one_more, all_items, (lies home home_live).size)) (inr (omega arith))

    others_held : HoldsEach next table (items table (at + k * each + each) T left) f.vs f.more
    others_held = HoldsEach-kept now next table valid f.others (places-same now next table valid T (spaced (at + k * each + each) each left) (spaced-same now next (at + k * each + each) each left others_same)) more_kept

    -- the blocks that were freed, and the blocks of the remaining frozen objects
    gives_are : (h : ℕ) → times h f.its + times h theirs_now ≡ times h clears.gives + times h (blocks_by theirs turn.mid)
    gives_are h = omega (arith, clears.all_are h, times-append h f.its theirs_now, times-append h clears.gives ([] ++ blocks_by theirs turn.mid))

    live_then : (h : ℕ) → times h (positions (live next)) + times h clears.gives ≡ times h (positions (live now))
    live_then h = omega (arith, change.live_are h, times-append h f.its theirs_now, gives_are h)

    gone_are : (h : ℕ) → times h (c.gone ++ clears.gives) ≡ times h c.gone + times h clears.gives
    gone_are h = times-append h c.gone clears.gives

    all_then : (h : ℕ) → times h (inside ++ blocks_by theirs frozen) ≡ times h c.gone + (times h f.its + times h f.more) + times h theirs_now
    all_then h = omega (arith, c.all_are h, times-append h c.gone (c.rest ++ theirs_now), times-append h c.rest theirs_now, rest_are h)

    pub cleared_next : Cleared allocator old next table at T n inside theirs frozen final (suc k)
    cleared_next = record {
      length_kept = change.length_kept ∙ c.length_kept;
      front_kept = change.front_kept ∙ c.front_kept;
      back_kept = change.back_kept ∙ c.back_kept;
      heap = subst (λ a. IsHeap a next) c.allocator_is change.heap;
      allocator_is = word-same now next allocator_word (IsSame-part now next 0 free_word allocator_word 4 (omega arith) (omega arith) change.front_kept) ∙ c.allocator_is;
      ownable = change.ownable;
      aligned = omega (arith, c.aligned, one_more, size_aligned table valid T);
      room = record { low = c.room.low; high = omega (arith, c.room.high, home_around.header.room, (lies home home_live).size) };
      vs = f.vs;
      gone = c.gone ++ clears.gives;
      rest = f.more;
      values = subst (λ p. HoldsEach next table (items table p T left) f.vs f.more) (let e : at + k * each + each ≡ at + suc k * each = omega (arith, one_more) in e) others_held;
      objects = turn.mid;
      holds = clears.holds;
      shared_kept = frozen_twice old now next theirs turn.mid (released_each (λ p. AllByRecursion (KeepsBlockAround old now p 4) (theirs p)) turn.others turn.mid (named_in f.v) c.objects turn.first c.shared_kept) clears.shared_kept;
      cells = c.cells;
      releasing = turn.then;
      all_are = λ h. omega (arith, all_then h, gives_are h, gone_are h, times-append h (c.gone ++ clears.gives) (f.more ++ blocks_by theirs turn.mid), times-append h f.more (blocks_by theirs turn.mid));
      owned = λ h. omega (arith, own_home h, live_then h, gives_are h, times_cons h home (f.more ++ blocks_by theirs turn.mid), times-append h f.more (blocks_by theirs turn.mid));
      live_is = change.live_is ∙ ap (λ bs. after_gives bs clears.gives) c.live_is ∙ sym (gives_append (live old) c.gone clears.gives);
      live_are = λ h. omega (arith, c.live_are h, live_then h, gone_are h);
      kept = λ h some none.
          let a = all_then h in
          let o = times_cons h home (inside ++ blocks_by theirs frozen) in
          kept_twice old now next h (c.kept h some none)
          (whole h (omega (arith, c.live_are h)) (λ e. let mine : times home (home ∷ (inside ++ blocks_by theirs frozen)) ≡ 0 = subst (λ x. times x (home ∷ (inside ++ blocks_by theirs frozen)) ≡ 0) e none in
          omega (arith, times-same home (inside ++ blocks_by theirs frozen))) (omega arith) (omega arith));
    }

-- ---- the block is freed

module _ (allocator : ℕ) (old now new : List ℕ) (table : Table) (valid : IsTable table) (heap_old : IsHeap allocator old) (ownable_old : AllByRecursion (λ b. IsOwnable old table b.at) (live old)) (at T n k : ℕ) (inside : List ℕ)
    (theirs : ℕ → List ℕ) (frozen final : List Frozen) (c : Cleared allocator old now table at T n inside theirs frozen final k) (all : n ≤ k) where
  abbrev home' : ℕ
  home' = block_of at

  abbrev theirs_left : List ℕ
  theirs_left = blocks_by theirs final

  nothing_left : (c.vs ≡ nil) × (c.rest ≡ [])
  nothing_left = none_left (subst (λ m. HoldsEach now table (items table (at + k * size table T) T m) c.vs c.rest) (let e : n - k ≡ 0 = omega arith in e) c.values)

  objects_are : c.objects ≡ final
  objects_are = all_released c.cells final c.objects (subst (λ ns. IsReleasing c.cells final ns c.objects) (ap named_each nothing_left.0 ∙ named_nothing) c.releasing)

  all_gone : (h : ℕ) → times h (inside ++ blocks_by theirs frozen) ≡ times h c.gone + times h theirs_left
  all_gone h =
      let rest : times h (c.rest ++ blocks_by theirs c.objects) ≡ times h theirs_left = ap (λ bs. times h (bs ++ blocks_by theirs c.objects)) nothing_left.1 ∙ ap (λ fs. times h (blocks_by theirs fs)) objects_are in
      omega (arith, c.all_are h, times-append h c.gone (c.rest ++ blocks_by theirs c.objects))

  owned_now : (h : ℕ) → times h (home' ∷ []) + times h theirs_left ≤ times h (positions (live now))
  owned_now h =
      let rest : times h (c.rest ++ blocks_by theirs c.objects) ≡ times h theirs_left = ap (λ bs. times h (bs ++ blocks_by theirs c.objects)) nothing_left.1 ∙ ap (λ fs. times h (blocks_by theirs fs)) objects_are in
      omega (arith, c.owned h, times_cons h home' (c.rest ++ blocks_by theirs c.objects))

  its_live : 1 ≤ times home' (positions (live now))
  its_live = omega (arith, owned_now home', times-same home' [])

  pub is_live : IsLive now home'
  is_live =
      let b = found home' (live now) its_live in
      (b.block.units, subst (λ p. Rattle.std.specs.Prelude.Contains (live now) (record { at = p; units = b.block.units })) b.at_is b.among)

  module _ (gives : Gives allocator now new home') where
    counts : (h : ℕ) → times h (home' ∷ []) + times h (positions (live new)) ≡ times h (positions (live now))
    counts h = let g = given_counts allocator now new table home' c.heap gives its_live h in let o = times_cons h home' (positions (live new)) in omega arith

    once' : (h : ℕ) → times h (positions (live now)) ≤ 1
    once' h = live-once now allocator c.heap h

    not_home : (h : ℕ) → times h (home' ∷ []) ≡ 0 → h ≢ home'
    not_home h none e = let mine : times home' (home' ∷ []) ≡ 0 = subst (λ x. times x (home' ∷ []) ≡ 0) e none in omega (arith, times-same home' [])

    -- the remaining frozen objects are kept
    theirs_kept : (h : ℕ) → 1 ≤ times h theirs_left → KeepsBlock now new h
    theirs_kept h some =
        let o = owned_now h in
        let one = once' h in
        (given_linked allocator now new table home' c.heap gives its_live h (omega arith) (not_home h (omega arith))).whole.kept

    ownable_new : AllByRecursion (λ b. IsOwnable new table b.at) (live new)
    ownable_new = given_ownable allocator now new table home' c.heap gives its_live c.ownable

    abbrev given : List ℕ
    given = home' ∷ c.gone

    live_given : live new ≡ after_gives (live old) given
    live_given =
        gives.given ∙ ap (λ bs. after_gives bs (home' ∷ [])) c.live_is ∙ sym (gives_append (live old) c.gone (home' ∷ []))
        ∙ in_any_order (live old) (c.gone ++ home' ∷ []) given (λ h. let a = times-append h c.gone (home' ∷ []) in let o = times_cons h home' c.gone in omega arith)

    counts_given : (h : ℕ) → times h (positions (live new)) + times h given ≡ times h (positions (live old))
    counts_given h = let o = times_cons h home' c.gone in let g = counts h in omega (arith, c.live_are h)

    others_linked : (h : ℕ) → 1 ≤ times h (positions (live old)) → times h (given ++ theirs_left) ≡ 0 → KeepsLinked old new h
    others_linked h some none =
        let p = times-append h given theirs_left in
        let o = times_cons h home' c.gone in
        let a = all_gone h in
        let q = times_cons h home' (inside ++ blocks_by theirs frozen) in
        let was = c.live_are h in
        let is = counts_given h in
        let kept = kept_twice old now new h (c.kept h some (omega arith)) (given_linked allocator now new table home' c.heap gives its_live h (omega arith) (not_home h (omega arith))).whole.kept in
        kept_linked allocator old new table heap_old gives.heap given live_given h some (omega arith) (live_at (IsOwnable old table) (live old) h ownable_old some)
        (live_at (IsOwnable new table) (live new) h ownable_new (omega arith)) kept

    pub given_back : Destroys allocator old new table ((home' ∷ inside) ++ blocks_by theirs frozen) theirs final
    given_back =
        let edges = given_front allocator now new table home' c.heap gives its_live in
        let there_is : (h : ℕ) → 1 ≤ times h theirs_left → 1 ≤ times h (positions (live now)) = λ h some. omega (arith, owned_now h) in
        record {
          gives = given;
          blocks_are = λ h.
              omega (arith, all_gone h, times_cons h home' (inside ++ blocks_by theirs frozen), times_cons h home' c.gone, times-append h given theirs_left);
          frees = record {
            length_kept = gives.kept.length_kept ∙ c.length_kept;
            front_kept = edges.0 ∙ c.front_kept;
            back_kept = edges.1 ∙ c.back_kept;
            heap = gives.heap;
            live_is = live_given;
            live_are = counts_given;
            kept = others_linked;
          };
          shared_kept = frozen_twice old now new theirs final (subst (KeepFrozen old now theirs) objects_are c.shared_kept) (frozen_kept allocator now new c.heap theirs final there_is theirs_kept);
          holds = hold_kept now new table valid theirs final theirs_kept (subst (HoldFrozen now table theirs) objects_are c.holds);
          ownable = λ h some. live_at (IsOwnable new table) (live new) h ownable_new (let o = owned_now h in let g = counts h in let one = once' h in omega arith);
        }

-- ---- an object that isn't in the index

module _ (allocator : ℕ) (old : List ℕ) (table : Table) (root : Root) (blocks : List ℕ) (u : IsUnlisted allocator old table root blocks) where
  begins : payload_of root ≡ root.at
  begins = let none : length root.words ≡ 0 = ap length u.no_words in omega arith

  owned_are : blocks ≡ block_of root.at ∷ u.holds_it.inside
  owned_are = u.holds_it.blocks_are ∙ ap (λ p. block_of p ∷ u.holds_it.inside) begins

  has_room : words_size root + (count root.values * size table root.type + length root.name) ≤ payload_size old (block_of root.at)
  has_room = subst (λ p. words_size root + (count root.values * size table root.type + length root.name) ≤ payload_size old (block_of p)) begins u.holds_it.block.room

  module _ (theirs : ℕ → List ℕ) (cells : List Place) (frozen final : List Frozen) where
    pub root_first : SharedBeside old table blocks (named_each root.values) theirs cells frozen final → Cleared allocator old old table root.at root.type (count root.values) u.holds_it.inside theirs frozen final 0
    root_first s = cleared_first allocator old table root.at root.type (count root.values) u.holds_it.inside root.values theirs cells frozen final u.heap u.allocator_is u.ownable (omega (arith, u.holds_it.block.after_header))
        (omega (arith, has_room)) u.holds_it.values (subst (λ bs. SharedBeside old table bs (named_each root.values) theirs cells frozen final) owned_are s)

    module _ (now next : List ℕ) (found : Found) (found_is : found ≡ found_of root) (k : ℕ) (c : Cleared allocator old now table root.at root.type (count root.values) u.holds_it.inside theirs frozen final k) where
      at_is : found.at ≡ root.at
      at_is = ap (λ (f : Found). f.at) found_is

      count_is : found.count ≡ count root.values
      count_is = ap (λ (f : Found). f.count) found_is

      -- what a call that clears a place ensures
      abbrev Clears : Table → ℕ → ℕ → Type 0
      Clears t U q = (v : Value) (bs : List ℕ) (s : Stands allocator now t (record { at = q; type = U }) v bs)
          → BesideShared now t (s.home ∷ bs) (named_in v) (ClearsPlace now next t (record { at = q; type = U }) (default_of t U) bs [])

      -- the loop clears the next value
      pub root_next : (here : Table) (T each p type : ℕ) → root.type ≡ T → k < found.count → here ≡ table → type ≡ T → each ≡ size table T → p ≡ (found.at + k * each) % 2 ^ 32 → Clears here type p
          → Cleared allocator old next table root.at root.type (count root.values) u.holds_it.inside theirs frozen final (k + 1)
      root_next here T each p type T_is below here_is type_is each_is p_is clears =
          let below' : k < count root.values = subst (λ n. k < n) count_is below in
          let few = small allocator old now table u.is_table root.at root.type (count root.values) k u.holds_it.inside theirs frozen final c below' in
          let each_is' : each ≡ size table root.type = each_is ∙ ap (size table) (sym T_is) in
          let p_at : p ≡ root.at + k * size table root.type = rw (at_is, each_is') at p_is ∙ omega (arith, few) in
          let clears' = subst (λ q. Clears table root.type q) p_at (subst (λ U. Clears table U p) (type_is ∙ sym T_is) (subst (λ t. Clears t type p) here_is clears)) in
          let it = f allocator old now table u.is_table root.at root.type (count root.values) k u.holds_it.inside theirs frozen final c below' in
          let s = stands allocator old now table u.is_table root.at root.type (count root.values) k u.holds_it.inside theirs frozen final c below' in
          let t = turn allocator old now table u.is_table root.at root.type (count root.values) k u.holds_it.inside theirs frozen final c below' in
          let b = beside allocator old now table u.is_table root.at root.type (count root.values) k u.holds_it.inside theirs frozen final c below' in
          subst (λ m. Cleared allocator old next table root.at root.type (count root.values) u.holds_it.inside theirs frozen final m) (let e : suc k ≡ k + 1 = omega arith in e)
          (cleared_next allocator old now table u.is_table root.at root.type (count root.values) k u.holds_it.inside theirs frozen final c below' next (clears' it.v it.its s theirs t.others c.objects t.mid b))

      -- after the loop the block is freed
      pub root_last : found.count ≤ k → (IsHeap allocator now → IsLive now (block_of found.at) → Gives allocator now next (block_of found.at)) → Destroys allocator old next table (blocks ++ blocks_by theirs frozen) theirs final
      root_last past free =
          let past' : count root.values ≤ k = subst (λ n. n ≤ k) count_is past in
          let l = is_live allocator old now next table u.is_table u.heap u.ownable root.at root.type (count root.values) k u.holds_it.inside theirs frozen final c past' in
          let free' = subst (λ p. IsHeap allocator now → IsLive now (block_of p) → Gives allocator now next (block_of p)) at_is free in
          subst (λ bs. Destroys allocator old next table (bs ++ blocks_by theirs frozen) theirs final) (sym owned_are)
          (given_back allocator old now next table u.is_table u.heap u.ownable root.at root.type (count root.values) k u.holds_it.inside theirs frozen final c past' (free' c.heap l))
