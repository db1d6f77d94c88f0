-- A unique object of a segment is made, found or destroyed.
use Rattle.std.proofs.Common.{◌≡◌, ◌≢◌, ℕ, ◌+◌, ◌*◌, ◌<◌, ◌≤◌, ◌^◌, List, [], ◌∷◌, ◌++◌, length, Option, Some, None, option_map, refl, sym, ap, ◌∙◌, subst, append_assoc, arith}
use Rattle.std.specs.List.{AllByRecursion}
use Rattle.seg_spec.specs.Bytes.{word, ChangesOnly}
use Rattle.seg_spec.specs.Header.{allocator_word, next_word, free_word, heap_start}
use Rattle.seg_spec.specs.Pointer.{target, set_pointer}
use Rattle.seg_spec.specs.Types.{IsTable}
use Rattle.seg_spec.specs.Value.{Value}
use Rattle.seg_spec.specs.Heap.{live, IsHeap}
use Rattle.seg_spec.specs.Block.{KeepsBlock, block_of}
use Rattle.seg_spec.specs.Index.{Root, unique_word, position_of}
use Rattle.seg_spec.specs.Sound.{Picture, HoldsRoot, IsHeld, times, positions, IsPlain}
use Rattle.seg_spec.specs.Roots.{loose, by_type, with_roots}
use Rattle.seg_spec.specs.Calls.{IsLoose}
use Rattle.seg_spec.specs.Demand.{after_gives}
use Rattle.seg_spec.specs.Frozen.{blocks_by}
use Rattle.seg_spec.specs.Shared.{names_each, named_in, left, freed}
use Rattle.seg_spec.specs.Counting.{owners_in}
use Rattle.seg_spec.specs.Destroying.{HoldFrozen, Destroys}
use Rattle.seg_spec.specs.Clearing.{BesideShared}
use Rattle.seg_spec.proofs.Frozen.FrozenBlockLaws.{hold_kept, frozen_twice, frozen_kept, left_fewer}
use Rattle.seg_spec.proofs.Frozen.PictureCountLaws.{counted_elsewhere}
use Rattle.seg_spec.proofs.Heap.BlockFrameLaws.{kept_twice}
use Rattle.seg_spec.proofs.Heap.LiveBlockLaws.{times-same, there, each_there, LiesIn, live-lie}
use Rattle.seg_spec.proofs.Images.RootLaws.{HoldsRoots-only}
use Rattle.seg_spec.proofs.Images.RootFrameLaws.{HoldsRoot-kept}
use Rattle.seg_value.specs.Stored.{Stored}
use Rattle.seg_value.proofs.HeaderLaws.{header_fits}
use Rattle.seg_manager.specs.Segments.{IsSegment, Becomes, new_root, MakesLoose, unique_at, MakesUnique, LosesUnique}
use Rattle.seg_spec.proofs.Images.LooseRootLaws.{its, holds_its, its_live}
use Rattle.seg_manager.proofs.LooseObjects.{lost, lost_owned}
use Rattle.seg_spec.proofs.Images.UniqueLaws.{position_root, none_root, unique_of, between}
use Rattle.seg_manager.proofs.UniqueWords.{word_changes, word_written, word_live, word_kept, above_kept, word_allocator, word_next, unique_joined, unique_left}
use Rattle.seg_spec.proofs.Images.PlainRootLaws.{plain_of}
use Rattle.seg_spec.proofs.Values.PlaceFrameLaws.{each_right}
use Rattle.seg_spec.proofs.Frozen.PartCountLaws.{defaults_none}
use Rattle.seg_spec.proofs.Frozen.KeptCountLaws.{counted_still, counted_with}

-- the target of a type's pointer is the type's unique object
pub names_unique : (allocator : ℕ) (s : Stored) (picture : Picture) (T : ℕ) → IsSegment allocator s picture → T < 32 → target s.window.bytes (unique_word T) ≡ unique_at picture T
names_unique allocator s picture T is less = is.held.laid_out.uniques.words T less ∙ position_root picture.uniques T

pub few_types : (allocator : ℕ) (s : Stored) (picture : Picture) (T : ℕ) → IsSegment allocator s picture → T < length s.types → T < 32
few_types allocator s picture T is less = let few = is.held.laid_out.is_table.few in let same : length s.types ≡ length picture.table = ap length is.table_is in omega arith

-- an allocated block begins in the heap
above : (allocator : ℕ) (s : Stored) (picture : Picture) → IsSegment allocator s picture → (h : ℕ) → 1 ≤ times h (positions (live s.window.bytes)) → heap_start ≤ h
above allocator s picture is h some = (there (LiesIn s.window.bytes heap_start (length s.window.bytes)) h (positions (live s.window.bytes))
    (live-lie s.window.bytes (word s.window.bytes allocator_word) is.held.laid_out.heap) some).low

-- ---- a unique object is made

-- the first loose object lies in the heap
first_high : (bytes : List ℕ) (picture : Picture) (held : IsHeld bytes picture) (root : Root) (rest : List Root) → picture.loose ≡ root ∷ rest → (heap_start ≤ root.at) × (root.at < 2 ^ 32)
first_high bytes picture held root rest split =
    let mine = its bytes bytes picture held [] (root ∷ []) rest split in
    let plain = (subst (AllByRecursion IsPlain) split (each_right IsPlain picture.uniques picture.loose held.laid_out.plain)).0 in
    let h = plain_of bytes picture.table root mine plain.no_words (HoldsRoots-only bytes picture.table root mine (holds_its bytes bytes picture held [] (root ∷ []) rest split)) in
    let once = its_live bytes bytes picture held [] (root ∷ []) rest split (block_of root.at) in
    let some : times (block_of root.at) mine ≡ times (block_of root.at) (block_of root.at ∷ h.inside) = ap (times (block_of root.at)) h.blocks_are in
    let one = times-same (block_of root.at) h.inside in
    let l = there (LiesIn bytes heap_start (length bytes)) (block_of root.at) (positions (live bytes)) (live-lie bytes (word bytes allocator_word) held.laid_out.heap) (omega arith) in
    let low = l.low in
    let high = l.high in
    let size = l.size in
    let small = held.laid_out.heap.small in
    (omega arith, omega arith)

module _ (allocator : ℕ) (old mid new : Stored) (picture : Picture) (is : IsSegment allocator old picture) (T at : ℕ) (below : T < length old.types) (none : target old.window.bytes (unique_word T) ≡ None)
    (makes : MakesLoose allocator old mid picture T at) (bytes_are : new.window.bytes ≡ set_pointer mid.window.bytes (unique_word T) (Some at)) (types_are : new.types ≡ mid.types) where
  abbrev root : Root
  root = new_root old.types [] T 1 at

  less : T < 32
  less = few_types allocator old picture T is below

  abbrev with_loose : Picture
  with_loose = with_roots picture loose (root ∷ picture.loose)

  joins : Becomes allocator old mid with_loose []
  joins = makes.joins [] picture.loose refl

  long : heap_start ≤ length mid.window.bytes
  long = header_fits (word mid.window.bytes allocator_word) mid.window.bytes joins.segment.held.laid_out.heap

  changes : ChangesOnly mid.window.bytes new.window.bytes (unique_word T) 4
  changes = rw bytes_are (word_changes mid.window.bytes T (Some at))

  word_is : target new.window.bytes (unique_word T) ≡ Some at
  word_is =
      let high = first_high mid.window.bytes with_loose joins.segment.held root picture.loose refl in
      rw bytes_are (word_written mid.window.bytes T (Some at) less long (λ t e. let same : at ≡ t = cc in (omega (arith, high.1), omega (arith, high.0))))

  no_position : position_of picture.uniques T ≡ None
  no_position = sym (is.held.laid_out.uniques.words T less) ∙ none

  pub made_unique : MakesUnique allocator old new picture T at
  made_unique =
      let b = between 0 T picture.uniques (omega arith) less is.held.laid_out.uniques.rising no_position in
      let held = unique_joined mid.window.bytes new.window.bytes with_loose joins.segment.held T less changes b.before b.after root picture.loose b.parts refl refl (b.rising root refl) word_is in
      let same_live : live new.window.bytes ≡ live mid.window.bytes = word_live mid.window.bytes new.window.bytes with_loose joins.segment.held T less changes in
      let next_kept = word_next mid.window.bytes new.window.bytes with_loose joins.segment.held T less changes ∙ joins.next_kept in
      let with_it = with_roots picture by_type (b.before ++ root ∷ b.after) in
      let front = picture.names ++ b.before in
      let owners : owners_in picture ≡ front ++ (b.after ++ picture.loose) = ap (λ us. picture.names ++ (us ++ picture.loose)) b.parts ∙ simp append_assoc in
      let counted = counted_with (word old.window.bytes next_word) picture with_it front root (b.after ++ picture.loose) owners (simp append_assoc) (defaults_none 1 old.types T) refl is.counted in
      record {
        none = none_root picture.uniques T no_position;
        spends = makes.spends ∙ ap Some (sym same_live);
        gets_block = makes.gets_block;
        before = b.before;
        after = b.after;
        uniques_are = b.parts;
        becomes = record {
          segment = record {
            held = held;
            counted = counted_still old.window.bytes new.window.bytes with_it next_kept counted;
            table_is = types_are ∙ joins.segment.table_is;
            allocator_is = word_allocator mid.window.bytes new.window.bytes with_loose joins.segment.held T less changes ∙ joins.segment.allocator_is;
          };
          length_kept = changes.length_kept ∙ joins.length_kept;
          front_kept = changes.others 0 free_word (Rattle.std.proofs.Common.inl (omega arith)) ∙ joins.front_kept;
          next_kept = next_kept;
          kept = λ h some no. kept_twice old.window.bytes mid.window.bytes new.window.bytes h (joins.kept h some no)
              (above_kept mid.window.bytes new.window.bytes with_loose joins.segment.held T less changes h (above allocator old picture is h some));
        };
      }

-- ---- the unique object is destroyed

back : (old new : List ℕ) (at n : ℕ) → ChangesOnly old new at n → ChangesOnly new old at n
back old new at n c = record { length_kept = sym c.length_kept; others = λ p m o. sym (c.others p m o) }

module _ (allocator : ℕ) (old mid new : Stored) (picture : Picture) (is : IsSegment allocator old picture) (T at : ℕ) (less : T < 32) (named : target old.window.bytes (unique_word T) ≡ Some at)
    (bytes_are : mid.window.bytes ≡ set_pointer old.window.bytes (unique_word T) None) (types_are : mid.types ≡ old.types) (types_then : new.types ≡ mid.types)
    (leaves : (U : ℕ) (v : Value) (inside : List ℕ) → IsTable mid.types → IsHeap allocator mid.window.bytes → IsLoose mid.window.bytes mid.types (record { at = at; type = U }) v inside
    → BesideShared mid.window.bytes mid.types (block_of at ∷ inside) (named_in v)
    (λ theirs now. Destroys allocator mid.window.bytes new.window.bytes mid.types ((block_of at ∷ inside) ++ blocks_by theirs now) theirs)) where
  abbrev a : List ℕ
  a = old.window.bytes

  abbrev b : List ℕ
  b = mid.window.bytes

  changes' : ChangesOnly a b (unique_word T) 4
  changes' = rw bytes_are (word_changes a T None)

  long' : heap_start ≤ length a
  long' = header_fits (word a allocator_word) a is.held.laid_out.heap

  heap' : IsHeap allocator a
  heap' = subst (λ n. IsHeap n a) is.allocator_is is.held.laid_out.heap

  word_is' : target b (unique_word T) ≡ None
  word_is' = rw bytes_are (word_written a T None less long' (λ t e. absurd (let f : None ≡ Some t = e in cc)))

  -- what the destruction of the unique object ensures
  abbrev LeavesIt : ℕ → Type 0
  LeavesIt p = (U : ℕ) (v : Value) (inside : List ℕ) → IsTable mid.types → IsHeap allocator b → IsLoose b mid.types (record { at = p; type = U }) v inside
      → BesideShared b mid.types (block_of p ∷ inside) (named_in v) (λ theirs now. Destroys allocator b new.window.bytes mid.types ((block_of p ∷ inside) ++ blocks_by theirs now) theirs)

  pub lost_unique : LosesUnique allocator old new picture T
  lost_unique =
      let u = unique_of T at picture.uniques (sym (is.held.laid_out.uniques.words T less) ∙ named) in
      let destroys : LeavesIt u.root.at = subst LeavesIt (sym u.at_is) leaves in
      let without = record picture { uniques = u.before ++ u.after; loose = u.root ∷ picture.loose } in
      let held : IsHeld b without = unique_left a b picture is.held T less changes' u.before u.root u.after u.parts u.type_is word_is' in
      let names = picture.names in
      let owners : owners_in picture ≡ (names ++ u.before) ++ u.root ∷ (u.after ++ picture.loose) = ap (λ us. names ++ (us ++ picture.loose)) u.parts ∙ simp append_assoc in
      let owners_then : owners_in without ≡ (names ++ (u.before ++ u.after)) ++ u.root ∷ picture.loose = simp append_assoc in
      let others : (names ++ u.before) ++ (u.after ++ picture.loose) ≡ (names ++ (u.before ++ u.after)) ++ picture.loose = simp append_assoc in
      let next_mid : word b next_word ≡ word a next_word = word_next a b picture is.held T less changes' in
      let is_then : IsSegment allocator mid without = record {
        held = held;
        counted = counted_still a b without next_mid
            (counted_elsewhere (word a next_word) picture without (names ++ u.before) (u.after ++ picture.loose) (names ++ (u.before ++ u.after)) picture.loose u.root owners owners_then others refl is.counted);
        table_is = types_are ∙ is.table_is;
        allocator_is = word_allocator a b picture is.held T less changes' ∙ is.allocator_is;
      } in
      let l = lost allocator mid new without is_then [] u.root picture.loose refl types_then destroys in
      let owned = lost_owned allocator mid new without is_then [] u.root picture.loose refl types_then destroys in
      let same_live : live b ≡ live a = word_live a b picture is.held T less changes' in
      let valid : IsTable old.types = rw is.table_is is.held.laid_out.is_table in
      let stays : (h : ℕ) → 1 ≤ times h (positions (live b)) → KeepsBlock b a h = λ h some. above_kept b a without held T less (back a b (unique_word T) 4 changes') h (above allocator mid without is_then h some) in
      let keeps : (h : ℕ) → 1 ≤ times h (positions (live a)) → KeepsBlock a b h = word_kept a b picture is.held T less changes' in
      let gone = names_each u.root.values in
      let rest = left gone picture.frozen in
      let lives : (h : ℕ) → 1 ≤ times h (blocks_by l.theirs rest) → 1 ≤ times h (positions (live a)) = λ h some.
      subst (λ bs. 1 ≤ times h (positions bs)) same_live (omega (arith, some, left_fewer l.theirs gone picture.frozen h, owned h)) in
      record {
        before = u.before;
        root = u.root;
        after = u.after;
        uniques_are = u.parts;
        root_is = u.root_is;
        loses = record {
          blocks = l.blocks;
          holds_it = HoldsRoot-kept b a old.types valid u.root l.blocks (each_there (KeepsBlock b a) l.blocks (λ h some. stays h (omega (arith, owned h)))) (subst (λ t. HoldsRoot b t u.root l.blocks) types_are l.holds_it);
          theirs = l.theirs;
          holds_shared = hold_kept b a old.types valid l.theirs picture.frozen (λ h some. stays h (omega (arith, some, owned h))) (subst (λ t. HoldFrozen b t l.theirs picture.frozen) types_are l.holds_shared);
          becomes = record {
            segment = l.becomes.segment;
            length_kept = l.becomes.length_kept ∙ changes'.length_kept;
            front_kept = l.becomes.front_kept ∙ changes'.others 0 free_word (Rattle.std.proofs.Common.inl (omega arith));
            next_kept = l.becomes.next_kept ∙ next_mid;
            kept = λ h some none. kept_twice a b new.window.bytes h (keeps h some) (l.becomes.kept h (subst (λ bs. 1 ≤ times h (positions bs)) (sym same_live) some) none);
          };
          shared_kept = frozen_twice a b new.window.bytes l.theirs rest (frozen_kept allocator a b heap' l.theirs rest lives (λ h some. keeps h (lives h some))) l.shared_kept;
          holds_left = subst (λ t. HoldFrozen new.window.bytes t l.theirs rest) types_are l.holds_left;
          live_is = subst (λ bs. live new.window.bytes ≡ after_gives bs (l.blocks ++ blocks_by l.theirs (freed gone picture.frozen))) same_live l.live_is;
        };
      }
