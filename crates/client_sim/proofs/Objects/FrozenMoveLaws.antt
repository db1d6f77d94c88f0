-- An object that a register owns becomes frozen, and a cell shares it: the image pictures the state
-- afterwards, and paths that still have a root refer to the same places.
use Rattle.std.proofs.Common.{◌≡◌, ◌≢◌, ℕ, suc, ◌≤◌, inl, inr, List, [], ◌∷◌, ◌++◌, Some, refl, sym, ◌∙◌, ap, subst, append_assoc, arith}
use Rattle.std.proofs.lemmas.List.{append-nil}
use Rattle.seg_spec.specs.Bytes.{word}
use Rattle.seg_spec.specs.Header.{version_word, allocator_word, next_word, sharing_version}
use Rattle.seg_spec.specs.Types.{Table}
use Rattle.seg_spec.specs.Value.{Label, Value, node, nil, cons, with_value_at}
use Rattle.seg_spec.specs.Heap.{live}
use Rattle.seg_spec.specs.Block.{IsOwnable, block_of}
use Rattle.seg_spec.specs.Index.{Root}
use Rattle.seg_spec.specs.Reads.{Place}
use Rattle.seg_spec.specs.Frozen.{Frozen, blocks_by}
use Rattle.seg_spec.specs.Shared.{names_in, names_each, IsCounted, left}
use Rattle.seg_spec.specs.Sound.{Picture, frozen_roots, roots_of, HoldsRoot, HoldsRoots, holds_more_roots, IsLaidOut, IsHeld, times, positions}
use Rattle.seg_spec.specs.Destroying.{AreLive, HoldFrozen}
use Rattle.seg_spec.specs.Sharing.{FrozenBeside, frozen_now, Freezes}
use Rattle.seg_spec.specs.Counting.{cells_in, owners_in, AreCounted}
use Rattle.seg_spec.specs.Owning.{Stands}
use Rattle.seg_spec.specs.Roots.{roots_before, with_item, KeepsPaths, MovesPlace}
use Rattle.seg_spec.proofs.Heap.LiveBlockLaws.{times-append}
use Rattle.seg_spec.proofs.Values.CallPlaceLaws.{live_at}
use Rattle.seg_spec.proofs.Frozen.PictureCountLaws.{roots_held}
use Rattle.seg_spec.proofs.Frozen.PartCountLaws.{owners_after, owners_with, SameNames, names_same, names_then, names_joined, names_swapped, names_counted}
use Rattle.seg_spec.proofs.Deallocation.OwnerDestructionLaws.{laid_out_with}
use Rattle.seg_spec.proofs.Images.RootLaws.{IsLaidOut-numbered, IsLaidOut-faced}
use Rattle.seg_spec.proofs.Images.RootWriteLaws.{faced}
use Rattle.seg_spec.proofs.Frozen.SharedCountLaws.{frozen_counts}
use Rattle.seg_spec.proofs.Frozen.FreezeLaws.{frozen_then, theirs_then, freezes_roots, freezes_moves}
use Rattle.client_spec.specs.Machine.{Origin, Path, Register, State, set_register, put_origin, put_at}
use Rattle.client_spec.specs.Pictures.{root_of_register, Pictures, LeadsInImage}
use Rattle.client_spec.proofs.TypedStates.PutLaws.{put_at_is}
use Rattle.client_sim.proofs.Objects.FirstRootLaws.{each_among}
use Rattle.client_sim.proofs.Frozen.FrozenPathLaws.{KeepsFrozen, frozen_left}
use Rattle.client_sim.proofs.Objects.PictureLaws.{Looks, looks_with, held_by, begins_with}
use Rattle.client_sim.proofs.Places.RootPutLaws.{all_others}
use Rattle.client_sim.proofs.Places.PathPlaceLaws.{PlaceFound}
use Rattle.client_sim.proofs.Places.RootChangeLaws.{Reorders, order_same, order_then, order_back, frozen_first, from_frozen_first}
use Rattle.client_sim.proofs.Places.RootChangeLaws.{beside_others, index_kept, beside_kept, paths_kept, moved_held, other_cells, names_now, names_after}
use Rattle.client_sim.proofs.Objects.OwnedMoveLaws.{put_order, MovedPaths, OwnedBeside, owned_beside, BeginsThen, objects_then, leads_then}

one_name : (T p : ℕ) → names_in (node (Label.shared T p) nil) ≡ record { at = p; type = T } ∷ []
unfolding names_in names_each
one_name T p = refl

one_value : (u : Value) → names_each (cons u nil) ≡ names_in u
unfolding names_each
one_value u = append-nil (names_in u)

-- ---- the result

module _ {others : List Root} {s : State} {bytes : List ℕ} (pictured : Pictures others s bytes) {path : Path} {place : Place} (led : LeadsInImage pictured path place) (old_value : Value) (f : PlaceFound pictured led old_value)
    (new : List ℕ) where
  -- The image pictures another state, with these frozen objects. Frozen objects that were there and
  -- remain are kept.
  pub record MovedFrozen (s' : State) (Ends : Origin → Type 0) (frozen : List Frozen) : Type 0 where
    pub to : MovedPaths pictured led old_value f new s' Ends
    pub frozen_is : to.later.picture.frozen ≡ frozen
    pub keeps : KeepsFrozen bytes new pictured.picture.table pictured.picture.frozen (left (names_in old_value) pictured.picture.frozen)

-- ---- apart from a register's object

module _ {others : List Root} {s : State} {bytes : List ℕ} (pictured : Pictures others s bytes) {path : Path} {place : Place} (led : LeadsInImage pictured path place) (old_value : Value) (f : PlaceFound pictured led old_value)
    (c : ℕ) (root : Root) (object : ℕ) (u : Value) (inside : List ℕ) (apart : path.origin ≢ Origin.Owned c) (owned : root_of_register s.registers pictured.owned c ≡ Some root)
    (holds : HoldsRoot bytes pictured.picture.table root (block_of object ∷ inside)) (values : root.values ≡ cons u nil)
    (theirs : ℕ → List ℕ) (shared : HoldFrozen bytes pictured.picture.table theirs pictured.picture.frozen) where
  abbrev table : Table
  table = pictured.picture.table

  abbrev picture : Picture
  picture = pictured.picture

  b : OwnedBeside pictured led old_value f c root
  b = owned_beside pictured led old_value f c root apart owned

  abbrev rest : List Root
  rest = all_others b.without.later.picture b.found.which b.found.before b.found.after

  abbrev all_blocks : List ℕ
  all_blocks = (block_of object ∷ inside) ++ blocks_by theirs picture.frozen

  goes_out : HoldsRoots bytes table (root ∷ frozen_roots picture) all_blocks
  goes_out = holds_more_roots holds (roots_held bytes table theirs picture.frozen shared)

  order : Reorders (roots_of picture) (led.root ∷ ((root ∷ frozen_roots picture) ++ rest))
  order = frozen_first picture led.root (root ∷ []) rest b.order

  -- the cells of the owners except for the place and the object
  pub kept_beside : List Place
  kept_beside = other_cells led.root led.item f.whole f.root.item_is path.selectors old_value f.value_is rest

  cells_apart : SameNames (cells_in (owners_in picture)) (names_in u ++ (names_in old_value ++ kept_beside))
  unfolding kept_beside
  cells_apart =
      let same : (names_in old_value ++ cells_in (root ∷ [])) ++ kept_beside ≡ (names_in old_value ++ names_in u) ++ kept_beside =
      ap (λ xs. (names_in old_value ++ xs) ++ kept_beside) (append-nil (names_each root.values) ∙ ap names_each values ∙ one_value u) in
      names_then (names_now led.root led.item f.whole f.root.item_is path.selectors old_value f.value_is picture (root ∷ []) rest b.order)
      (names_then (names_same same) (names_then (names_joined (names_swapped (names_in old_value) (names_in u)) (names_same {xs = kept_beside} refl)) (names_same (append_assoc (names_in u) (names_in old_value) kept_beside))))

  -- the frozen objects apart from the cell and the object, as a call finds them
  pub frozen_beside : (allocator : ℕ) (stands : Stands allocator bytes table place old_value f.blocks)
      → FrozenBeside bytes table (stands.home ∷ (f.blocks ++ block_of object ∷ inside)) (names_in u ++ (names_in old_value ++ kept_beside)) (word bytes next_word) theirs picture.frozen
  frozen_beside allocator stands =
      let all : (h : ℕ) → times h ((stands.home ∷ (f.blocks ++ block_of object ∷ inside)) ++ blocks_by theirs picture.frozen) ≤ times h (positions (live bytes)) = λ h.
      omega (
        arith,
        beside_others bytes picture pictured.held led.root (root ∷ frozen_roots picture) rest order led.item f.within path.selectors place led.leads old_value f.blocks f.holds_it all_blocks goes_out allocator stands h,
        times-append h (stands.home ∷ (f.blocks ++ block_of object ∷ inside)) (blocks_by theirs picture.frozen),
        times-append h f.blocks (block_of object ∷ inside),
        times-append h (block_of object ∷ inside) (blocks_by theirs picture.frozen),
      ) in
      record {
        holds = shared;
        ownable = λ h some. live_at (IsOwnable bytes table) (live bytes) h pictured.held.laid_out.blocks
            (omega (arith, some, all h, times-append h (stands.home ∷ (f.blocks ++ block_of object ∷ inside)) (blocks_by theirs picture.frozen)));
        owned = all;
        counted = names_counted (word bytes next_word) picture.frozen cells_apart pictured.counted.counted;
        falling = pictured.counted.falling;
      }

  -- ---- it became frozen

  module _ (new : List ℕ) (sharing : word bytes version_word ≡ sharing_version) {allocator T : ℕ} (z : Freezes allocator bytes new table place T object u inside f.blocks (names_in old_value) theirs picture.frozen) where
    abbrev w : Value
    w = node (Label.shared T z.payload) nil

    abbrev change : Value → Value
    change = with_value_at path.selectors w

    abbrev changed : Root
    changed = with_item led.root led.item change

    abbrev final : List Frozen
    final = frozen_then z

    beside_now : FrozenBeside bytes table (f.stands.home ∷ (f.blocks ++ block_of object ∷ inside)) (names_in u ++ (names_in old_value ++ kept_beside)) (word bytes next_word) theirs picture.frozen
    beside_now = frozen_beside (word bytes allocator_word) f.stands

    shared_live : AreLive bytes (blocks_by theirs picture.frozen)
    shared_live h = omega (arith, beside_now.owned h, times-append h (f.stands.home ∷ (f.blocks ++ block_of object ∷ inside)) (blocks_by theirs picture.frozen))

    abbrev final_blocks : List ℕ
    final_blocks = blocks_by (theirs_then z) final

    moved_place : MovesPlace bytes new table place w [] (f.blocks ++ all_blocks) ([] ++ final_blocks)
    moved_place = freezes_moves z shared shared_live

    abbrev looks : Looks others (put_origin (set_register s c Register.Undefined) path.origin (change f.whole))
    looks = looks_with final (b.found.puts change).later

    -- the owners now have the changed cell
    owners : Reorders (changed ∷ rest) (owners_in looks.picture)
    owners =
        let found = b.found in
        let before = b.without.later.picture in
        order_then (order_back (roots_before before found.which found.before) changed (owners_after before found.which found.after))
        (order_same (sym (ap owners_in (found.puts change).picture_is ∙ owners_with before found.which found.before (changed ∷ []) found.after)))

    same_table : looks.picture.table ≡ table
    same_table = (b.found.puts change).table ∙ b.without.table

    laid_out : IsLaidOut new looks.picture pictured.held.index_blocks
    laid_out =
        let found = b.found in
        let put = found.puts change in
        let index_blocks = pictured.held.index_blocks in
        let index = index_kept bytes picture pictured.held led.root (root ∷ frozen_roots picture) rest order led.item f.within path.selectors
        place led.leads old_value f.blocks f.holds_it all_blocks goes_out new w [] final_blocks moved_place in
        laid_out_with new put.later.picture index_blocks final (subst (λ p. IsLaidOut new p index_blocks) (sym put.picture_is)
        (IsLaidOut-faced new b.without.later.picture index_blocks found.which found.before led.root changed found.after found.among (faced led.root led.item change)
        (b.without.laid_out new index_blocks
        (IsLaidOut-numbered bytes new picture index_blocks pictured.held.laid_out z.length_kept z.front_kept sharing z.back_kept z.heap z.ownable index))))

    held_then : IsHeld new looks.picture
    held_then = moved_held bytes picture pictured.held led.root (root ∷ frozen_roots picture) rest order led.item f.within path.selectors place led.leads old_value f.blocks f.holds_it all_blocks goes_out new w [] final_blocks moved_place
        looks.picture (frozen_roots looks.picture) (freezes_roots z) (from_frozen_first looks.picture changed [] rest owners) same_table laid_out

    counted_then : AreCounted (word new next_word) looks.picture
    unfolding kept_beside
    counted_then =
        let counts = frozen_counts bytes table (f.stands.home ∷ (f.blocks ++ block_of object ∷ inside)) (word bytes next_word) theirs T z.payload old_value u kept_beside picture.frozen beside_now z.was_free in
        let cells : SameNames (record { at = z.payload; type = T } ∷ kept_beside) (cells_in (owners_in looks.picture)) =
        names_then (names_same (ap (λ xs. (xs ++ []) ++ kept_beside) (sym (one_name T z.payload))))
        (names_after led.root led.item f.whole f.root.item_is path.selectors old_value f.value_is looks.picture [] rest w owners) in
        record {
          counted = subst (λ n. IsCounted n final (cells_in (owners_in looks.picture))) (sym z.next_is) (names_counted (suc (word bytes next_word)) final cells counts.1);
          falling = counts.0;
        }

    moved_frozen : MovedFrozen pictured led old_value f new (set_register (put_at s path w) c Register.Undefined) (λ o. o ≡ Origin.Owned c) final
    moved_frozen =
        let put = b.found.puts change in
        let beside = beside_kept bytes picture pictured.held led.root (root ∷ frozen_roots picture) rest order led.item f.within path.selectors
        place led.leads old_value f.blocks f.holds_it all_blocks goes_out new w [] final_blocks moved_place in
        let paths = paths_kept bytes picture pictured.held led.root (root ∷ frozen_roots picture) rest order led.item f.within path.selectors
        place led.leads old_value f.blocks f.holds_it all_blocks goes_out new w [] final_blocks moved_place in
        let begins : BeginsThen pictured led old_value f new w looks (λ o. o ≡ Origin.Owned c) = λ o r i e. elim (b.without.begins o r i e) [
          | inl g ↦ inl g
          | inr g ↦ elim (put.begins o r i g) [
            | inl p ↦ inr (inl (p.0, p.1, sym (begins_with final put.later o) ∙ p.2))
            | inr p ↦ inr (inr (each_among (KeepsPaths bytes new table) rest r p.0 paths, sym (begins_with final put.later o) ∙ p.1))
          ]
        ] in
        let state : put_origin (set_register s c Register.Undefined) path.origin (change f.whole) ≡ set_register (put_at s path w) c Register.Undefined =
        put_order s c Register.Undefined path.origin (change f.whole) apart ∙ ap (λ z. set_register z c Register.Undefined) (sym (put_at_is s path f.whole w f.type f.at)) in
        subst (λ z. MovedFrozen pictured led old_value f new z (λ o. o ≡ Origin.Owned c) final) state (record {
          to = record {
            later = held_by looks held_then counted_then;
            table_is = same_table;
            objects = objects_then pictured led old_value f new w looks (λ o. o ≡ Origin.Owned c) (λ o e. (c, e)) begins;
            leads = leads_then pictured led old_value f new w looks held_then counted_then (λ o. o ≡ Origin.Owned c) same_table beside begins;
          };
          frozen_is = refl;
          keeps = frozen_left pictured new theirs shared (names_in old_value) z.shared_kept;
        })

-- ---- a cell shares the object of register c

module _ {others : List Root} {s : State} {bytes : List ℕ} (pictured : Pictures others s bytes) {path : Path} {place : Place} (led : LeadsInImage pictured path place) (old_value : Value) (f : PlaceFound pictured led old_value)
    (new : List ℕ) where
  -- The object is frozen, with the next number. The object that the cell shared before is released,
  -- with the frozen objects that nothing else shares.
  pub freeze_moves : (c : ℕ) (root : Root) (T object : ℕ) (u : Value) (inside : List ℕ) → path.origin ≢ Origin.Owned c → root_of_register s.registers pictured.owned c ≡ Some root
      → HoldsRoot bytes pictured.picture.table root (block_of object ∷ inside) → root.values ≡ cons u nil → word bytes version_word ≡ sharing_version
      → (theirs : ℕ → List ℕ) → HoldFrozen bytes pictured.picture.table theirs pictured.picture.frozen
      → {allocator : ℕ} (z : Freezes allocator bytes new pictured.picture.table place T object u inside f.blocks (names_in old_value) theirs pictured.picture.frozen)
      → MovedFrozen pictured led old_value f new (set_register (put_at s path (node (Label.shared T z.payload) nil)) c Register.Undefined) (λ o. o ≡ Origin.Owned c)
      (frozen_now z.payload T (word bytes next_word) u ∷ left (names_in old_value) pictured.picture.frozen)
  freeze_moves c root T object u inside apart owned holds values sharing theirs shared z = moved_frozen pictured led old_value f c root object u inside apart owned holds values theirs shared new sharing z
