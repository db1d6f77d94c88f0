-- A named object is destroyed: its entry is removed from the index, then its blocks are freed.
use Rattle.std.proofs.Common.{◌≡◌, ◌≢◌, ℕ, ◌+◌, ◌≤◌, ◌⊎◌, inl, inr, true, false, List, [], ◌∷◌, ◌++◌, length, map, Some, Ok, Err, eqb, refl, sym, ap, ◌∙◌, subst, append_assoc, arith}
use Rattle.std.proofs.lemmas.Bool.Decides.{nat_tests}
use Rattle.std.proofs.lemmas.Bool.{cases_eq}
use Rattle.seg_spec.specs.Bytes.{word}
use Rattle.seg_spec.specs.Header.{allocator_word, next_word, heap_start}
use Rattle.seg_spec.specs.Types.{Table}
use Rattle.seg_spec.specs.Heap.{IsHeap, live}
use Rattle.seg_spec.specs.Block.{KeepsBlock, IsOwnable}
use Rattle.seg_spec.specs.Reads.{Place}
use Rattle.seg_spec.specs.Index.{Root, root_named, AreEntries}
use Rattle.seg_spec.specs.Frozen.{Frozen, root_of_frozen, blocks_by}
use Rattle.seg_spec.specs.Sound.{Picture, HoldsRoot, holds_no_root, IsLaidOut, IsHeld, times, positions}
use Rattle.seg_spec.specs.Demand.{after_gives}
use Rattle.seg_spec.specs.Spending.{killed}
use Rattle.seg_spec.specs.Shared.{names_each, named_each, left, freed}
use Rattle.seg_spec.specs.Counting.{cells_in, owners_in, without_cells}
use Rattle.seg_spec.specs.Destroying.{HoldFrozen, KeepFrozen, Destroys}
use Rattle.seg_spec.specs.Clearing.{SharedBeside}
use Rattle.seg_spec.proofs.Values.PlaceFrameLaws.{word-same}
use Rattle.seg_spec.proofs.Heap.LiveBlockLaws.{LiesIn, there, live-lie, each_there, times-append, live-once}
use Rattle.seg_spec.proofs.Images.RootFrameLaws.{HoldsRoot-kept}
use Rattle.seg_spec.proofs.Images.RootLaws.{HoldsRoots-only, IsLaidOut-kept}
use Rattle.seg_spec.proofs.Values.CallPlaceLaws.{live_at}
use Rattle.seg_spec.proofs.Heap.BlockFrameLaws.{kept_twice, around_kept, around_twice}
use Rattle.seg_spec.proofs.Heap.FreeOrderLaws.{in_any_order}
use Rattle.seg_spec.proofs.Frozen.FrozenBlockLaws.{hold_kept, frozen_twice, frozen_kept, left_fewer}
use Rattle.seg_spec.proofs.Frozen.PictureCountLaws.{roots_held, OwnerBeside, owner_beside, counted_without}
use Rattle.seg_spec.proofs.Deallocation.OwnerDestructionLaws.{live_given, live_counts, others_linked, ownable_after, laid_out_without, owners_left}
use Rattle.seg_raw.specs.declared.code.Code.TheVariants as code
use Rattle.seg_value.specs.Stored.{Stored}
use Rattle.seg_index.specs.Lists.{LeavesName}
use Rattle.seg_index.proofs.HeldChanges.{with_names, laid_out_named}
use Rattle.seg_manager.specs.declared.names.Found.{Found}
use Rattle.seg_manager.specs.NamedObjects.{found_of, found_as}
use Rattle.seg_manager.specs.Segments.{IsSegment}
use Rattle.seg_manager.specs.LeavingNamed.{IsUnlisted, LosesNamed}
use Rattle.seg_manager.proofs.LooseObjects.{allocator_same}
use Rattle.seg_manager.proofs.ClearedItems.{gives_append}
use Rattle.seg_spec.proofs.Frozen.KeptCountLaws.{next_same, counted_still}

-- a search found this root for a name, with the type
pub record IsFound (T : ℕ) (root : Root) (found : Found) : Type 0 where
  pub found_is : found ≡ found_of root
  pub type_is : root.type ≡ T
  pub is_killed : killed (Some root) T ≡ Some root

pub is_found : (T : ℕ) (root : Root) (found : Found) → Ok found ≡ found_as T (Some root) → IsFound T root found
is_found T root found e = go (cases_eq root.type T)
  where
    go : (root.type ≡ T) ⊎ (root.type ≢ T) → IsFound T root found
    go (inl same) =
        let test : eqb root.type T ≡ true = grind (arith, nat_tests) in
        let is : Ok found ≡ Ok (found_of root) = rw test at e in
        record { found_is = cc; type_is = same; is_killed = rw test refl }
    go (inr other) =
        let test : eqb root.type T ≡ false = grind (arith, nat_tests) in
        let none : Ok found ≡ Err code.OtherType = rw test at e in
        absurd (let no : Ok found ≡ Err code.OtherType = none in cc)

-- an object that the index lists has no words before its values
nothing_before : (bytes entries : List ℕ) (before : List Root) (root : Root) (after : List Root) → AreEntries bytes entries (before ++ root ∷ after) → root.words ≡ []
nothing_before bytes [] [] root after h = absurd h
nothing_before bytes (entry ∷ entries) [] root after h = h.0.no_words
nothing_before bytes [] (r ∷ before) root after h = absurd h
nothing_before bytes (entry ∷ entries) (r ∷ before) root after h = nothing_before bytes entries before root after h.1

module _ (allocator : ℕ) (old mid : Stored) (picture : Picture) (is : IsSegment allocator old picture) (root : Root)
    (e : LeavesName old.window.bytes mid.window.bytes picture.table picture.names is.held.index_blocks root) where
  abbrev a : List ℕ
  a = old.window.bytes

  abbrev b : List ℕ
  b = mid.window.bytes

  abbrev table : Table
  table = picture.table

  abbrev pub cells : List Place
  cells = names_each root.values

  -- the owners after the object
  abbrev pub behind : List Root
  behind = e.after ++ (picture.uniques ++ picture.loose)

  owners : owners_in picture ≡ e.before ++ root ∷ behind
  owners = ap (λ ns. ns ++ (picture.uniques ++ picture.loose)) e.names_are ∙ append_assoc e.before (root ∷ e.after) (picture.uniques ++ picture.loose)

  pub first : OwnerBeside a picture is.held e.before root behind
  first = owner_beside (word a next_word) a picture is.held e.before root behind owners is.counted

  -- the blocks of the object
  abbrev pub its : List ℕ
  its = first.apart.firsts

  abbrev theirs : List ℕ
  theirs = blocks_by first.theirs picture.frozen

  holds_old : HoldsRoot a table root its
  holds_old = HoldsRoots-only a table root its first.apart.holds_first

  heap_old : IsHeap allocator a
  heap_old = subst (λ n. IsHeap n a) is.allocator_is is.held.laid_out.heap

  heap_mid : IsHeap allocator b
  heap_mid = subst (λ n. IsHeap n b) is.allocator_is e.changes.heap

  old_once : (h : ℕ) → times h (positions (live a)) ≤ 1
  old_once h = live-once a allocator heap_old h

  mid_once : (h : ℕ) → times h (positions (live b)) ≤ 1
  mid_once h = live-once b allocator heap_mid h

  mid_are : (h : ℕ) → times h (positions (live b)) + times h is.held.index_blocks ≡ times h (positions (live a)) + times h e.others
  mid_are h = e.changes.live_are h

  -- blocks outside the index are kept
  kept_mid : (h : ℕ) → 1 ≤ times h first.apart.around + times h its + times h theirs → KeepsBlock a b h
  kept_mid h some = e.changes.kept h (omega (arith, first.counts h)) (omega (arith, first.counts h, old_once h))

  -- after its entry is removed, the object isn't in the index
  pub unlisted : IsUnlisted allocator b table root its
  unlisted = record {
    heap = heap_mid;
    allocator_is = allocator_same a b e.changes.front_kept ∙ is.allocator_is;
    is_table = is.held.laid_out.is_table;
    ownable = e.changes.ownable;
    holds_it = HoldsRoot-kept a b table is.held.laid_out.is_table root its (each_there (KeepsBlock a b) its (λ h some. kept_mid h (omega arith))) holds_old;
    no_words = nothing_before a is.held.laid_out.names.index.entries e.before root e.after (subst (AreEntries a is.held.laid_out.names.index.entries) e.names_are is.held.laid_out.names.entries);
    owned = λ h. omega (arith, first.counts h, mid_are h);
  }

  -- the object's blocks aren't blocks of frozen objects
  pub beside : SharedBeside b table its (named_each root.values) first.theirs (cells_in (e.before ++ behind)) picture.frozen (left cells picture.frozen)
  beside = record {
    holds = hold_kept a b table is.held.laid_out.is_table first.theirs picture.frozen (λ h some. kept_mid h (omega arith)) first.beside.holds;
    ownable = λ h some. live_at (IsOwnable b table) (live b) h e.changes.ownable (omega (arith, first.counts h, mid_are h));
    owned = λ h. omega (arith, first.counts h, mid_are h, times-append h its theirs);
    releasing = first.beside.releasing;
  }

  module _ (new : Stored) (same : new.types ≡ old.types) (g : Destroys allocator b new.window.bytes table (its ++ blocks_by first.theirs picture.frozen) first.theirs (left cells picture.frozen)) where
    abbrev c : List ℕ
    c = new.window.bytes

    abbrev rest : List Frozen
    rest = left cells picture.frozen

    abbrev went : List ℕ
    went = blocks_by first.theirs (freed cells picture.frozen)

    abbrev others : Picture
    others = with_names picture (e.before ++ e.after)

    then_are : (h : ℕ) → times h (positions (live c)) + (times h its + times h theirs) ≡ times h (positions (live b)) + times h (blocks_by first.theirs rest)
    then_are h = live_counts allocator b c table its first.theirs cells picture.frozen heap_mid e.changes.ownable g h

    kept_then : (h : ℕ) → 1 ≤ times h (positions (live b)) → times h its + times h theirs ≡ 0 → KeepsBlock b c h
    kept_then h some none = (others_linked allocator b c table its first.theirs cells picture.frozen heap_mid e.changes.ownable g h some (omega (arith, none, times-append h its theirs))).whole.kept

    laid_out : IsLaidOut c others e.others
    laid_out = IsLaidOut-kept b c others e.others (laid_out_named a b picture is.held.index_blocks _ (e.before ++ e.after) e.others is.held.laid_out e.changes) g.frees.length_kept g.frees.front_kept g.frees.back_kept
        (subst (λ n. IsHeap n c) (sym unlisted_allocator) g.frees.heap) (ownable_after allocator b c table its first.theirs cells picture.frozen heap_mid e.changes.ownable g)
        (each_there (KeepsBlock b c) e.others (λ h some. kept_then h (omega (arith, first.counts h, mid_are h)) (omega (arith, first.counts h, mid_are h, mid_once h))))
      where
        unlisted_allocator : word b allocator_word ≡ allocator
        unlisted_allocator = allocator_same a b e.changes.front_kept ∙ is.allocator_is

    held_then : IsHeld c (without_cells cells others)
    held_then = first.apart.becomes c (without_cells cells others) [] (map root_of_frozen rest) e.others [] (blocks_by first.theirs rest) refl
        (owners_left others e.before behind cells picture.frozen (append_assoc e.before e.after (picture.uniques ++ picture.loose)) refl) (laid_out_without c others e.others cells laid_out)
        (each_there (KeepsBlock a c) first.apart.around (λ h some.
        kept_twice a b c h (kept_mid h (omega arith)) (kept_then h (omega (arith, first.counts h, mid_are h)) (omega (arith, first.counts h, old_once h)))))
        holds_no_root (roots_held c table first.theirs rest g.holds) (λ h.
        omega (arith, first.counts h, mid_are h, then_are h, times-append h e.others (first.apart.around ++ blocks_by first.theirs rest), times-append h first.apart.around (blocks_by first.theirs rest)))

    -- the remaining frozen objects were kept by the first step
    left_mid : KeepFrozen a b first.theirs rest
    left_mid = frozen_kept allocator a b heap_old first.theirs rest (λ h some. let l = left_fewer first.theirs cells picture.frozen h in omega (arith, first.counts h))
        (λ h some. let l = left_fewer first.theirs cells picture.frozen h in kept_mid h (omega arith))

    there_lies : (h : ℕ) → 1 ≤ times h (positions (live b)) → LiesIn b heap_start (length b) h
    there_lies h some = there (LiesIn b heap_start (length b)) h (positions (live b)) (live-lie b allocator heap_mid) some

    next_then : word c next_word ≡ word a next_word
    next_then = next_same b c g.frees.back_kept ∙ word-same a b next_word e.changes.middle_kept

    pub lost : (name : List ℕ) (T : ℕ) → killed (root_named picture.names name) T ≡ Some root → LosesNamed allocator old new picture is.held.index_blocks name T
    lost name T root_is = record {
      before = e.before;
      root = root;
      after = e.after;
      names_are = e.names_are;
      root_is = root_is;
      objects = its;
      entries = e.gives;
      holds_it = subst (λ t. HoldsRoot a t root its) (sym is.table_is) holds_old;
      entry = e.entry;
      theirs = first.theirs;
      holds_shared = subst (λ t. HoldFrozen a t first.theirs picture.frozen) (sym is.table_is) first.beside.holds;
      becomes = record {
        segment = record {
          held = held_then;
          counted = counted_still a c (without_cells cells others) next_then
              (counted_without (word a next_word) picture others e.before root behind owners (append_assoc e.before e.after (picture.uniques ++ picture.loose)) refl is.counted);
          table_is = same ∙ is.table_is;
          allocator_is = allocator_same b c g.frees.front_kept ∙ allocator_same a b e.changes.front_kept ∙ is.allocator_is;
        };
        length_kept = g.frees.length_kept ∙ e.changes.length_kept;
        front_kept = g.frees.front_kept ∙ e.changes.front_kept;
        next_kept = next_then;
        kept = λ h some none.
            let n = times-append h (its ++ is.held.index_blocks) theirs in
            let m = times-append h its is.held.index_blocks in
            let i = mid_are h in
            kept_twice a b c h (e.changes.kept h some (omega arith)) (kept_then h (omega arith) (omega arith));
      };
      nodes_kept = λ tree h own some.
          let n = then_are h in
          let m = mid_are h in
          let f = first.counts h in
          let l = left_fewer first.theirs cells picture.frozen h in
          let still : 1 ≤ times h (positions (live b)) = (let o = old_once h in omega arith) in
          let solid = (there_lies h still).size in
          around_twice a b c (h + 16) 16 h (e.changes.nodes_kept tree h own still)
          (around_kept b c (h + 16) 16 h (omega arith) (kept_then h still (let o = old_once h in omega arith)));
      shared_kept = frozen_twice a b c first.theirs rest left_mid g.shared_kept;
      holds_left = subst (λ t. HoldFrozen c t first.theirs rest) (sym is.table_is) g.holds;
      live_is =
          live_given allocator b c table its first.theirs cells picture.frozen heap_mid e.changes.ownable g ∙ ap (λ bs. after_gives bs (its ++ went)) e.changes.live_is ∙ sym (gives_append (live a) e.gives (its ++ went))
          ∙ in_any_order (live a) (e.gives ++ (its ++ went)) ((its ++ e.gives) ++ went) (λ h.
          let x = times-append h e.gives (its ++ went) in
          let y = times-append h its went in
          let z = times-append h (its ++ e.gives) went in
          let w = times-append h its e.gives in
          omega arith);
    }
