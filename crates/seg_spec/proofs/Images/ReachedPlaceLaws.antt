-- Calls on a place in an object of an image: the place as they find it, and the image after them.
use Rattle.std.proofs.Common.{◌≡◌, ℕ, suc, ◌+◌, ◌<◌, ◌≤◌, inl, inr, List, [], ◌∷◌, ◌++◌, length, Some, refl, sym, ◌∙◌, ap, subst, arith}
use Rattle.std.proofs.lemmas.Bool.{cases_eq}
use Rattle.std.specs.List.{AllByRecursion}
use Rattle.seg_spec.specs.Bytes.{word, signed_long, ChangesOnly}
use Rattle.seg_spec.specs.Header.{allocator_word, next_word}
use Rattle.seg_spec.specs.Types.{Table, Form, form_at}
use Rattle.seg_spec.specs.Value.{Value, count, nth, Selector, value_at, with_value_at, Int}
use Rattle.seg_spec.specs.Heap.{Span, live, heap_start}
use Rattle.seg_spec.specs.Index.{Root, AreEntries}
use Rattle.seg_spec.specs.Reads.{Place, Holds, Leads}
use Rattle.seg_spec.specs.Frozen.{Frozen, blocks_by}
use Rattle.seg_spec.specs.Shared.{names_in, left, IsBelow, raised_by, IsCounted}
use Rattle.seg_spec.specs.Sound.{Picture, IsPlain, IsHeld, times, positions}
use Rattle.seg_spec.specs.Destroying.{HoldFrozen}
use Rattle.seg_spec.specs.Clearing.{SharedBeside, BesideShared, ClearsPlace}
use Rattle.seg_spec.specs.Counting.{owners_in, AreCounted}
use Rattle.seg_spec.specs.Roots.{Listed, roots_in, with_roots, roots_before, item_of, with_item, IsReached, RootComesApart, PartComesApart, ChangesPlace}
use Rattle.seg_spec.specs.Sharing.{FrozenBeside}
use Rattle.seg_spec.proofs.Frozen.ValueCellLaws.{names_int}
use Rattle.seg_spec.proofs.Values.OneValueLaws.{Holds-one}
use Rattle.seg_spec.proofs.Values.PlaceWriteLaws.{changes_place}
use Rattle.seg_spec.proofs.Tables.TypeSizeLaws.{size-form}
use Rattle.seg_spec.specs.Images.{StaysHeld}
use Rattle.seg_spec.specs.Owning.{Stands}
use Rattle.seg_spec.proofs.Values.PlaceFrameLaws.{each_left, each_right}
use Rattle.seg_spec.proofs.Heap.LiveBlockLaws.{times-append, times-same, times-other, there, each_there, LiesIn, live-lie}
use Rattle.seg_spec.proofs.Images.AlignmentLaws.{Aligned, AreAligned, root_aligned}
use Rattle.seg_spec.proofs.Images.RootCallLaws.{place_changed}
use Rattle.seg_spec.proofs.Images.RootChangeLaws.{HoldsRoot_blocks-one}
use Rattle.seg_spec.proofs.Images.RootLaws.{root_comes_apart, HoldsRoots-only, table_kept}
use Rattle.seg_spec.proofs.Images.RootPartLaws.{part_comes_apart}
use Rattle.seg_spec.proofs.Images.RootWriteLaws.{root_apart, number_held}
use Rattle.seg_spec.proofs.Frozen.CountDecreaseLaws.{positions_of}
use Rattle.seg_spec.proofs.Frozen.KeptCountLaws.{counted_on}
use Rattle.seg_spec.proofs.Frozen.PictureCountLaws.{owner_beside}
use Rattle.seg_spec.proofs.Frozen.PartCountLaws.{owners_after, owners_are, owners_with, frozen_same, SameNames, counted_still, counted_then, counted_shared, kept_cells, part_beside, part_cleared, names_same, counted_part}

-- ---- a place as calls find it

entries_plain : (bytes entries : List ℕ) (roots : List Root) → AreEntries bytes entries roots → AllByRecursion (λ r. r.words ≡ []) roots
entries_plain bytes [] [] h = tt
entries_plain bytes [] (root ∷ roots) h = absurd h
entries_plain bytes (entry ∷ entries) [] h = absurd h
entries_plain bytes (entry ∷ entries) (root ∷ roots) h = (h.0.no_words, entries_plain bytes entries roots h.1)

-- a root where a path can begin has no words before its values
pub nothing_before : (bytes : List ℕ) (picture : Picture) → IsHeld bytes picture → (which : Listed) (before : List Root) (root : Root) (after : List Root) → roots_in picture which ≡ before ++ root ∷ after → root.words ≡ []
nothing_before bytes picture held Listed.by_name before root after e =
    let names = held.laid_out.names in
    let plain = subst (AllByRecursion (λ r. r.words ≡ [])) e (entries_plain bytes names.index.entries picture.names names.entries) in
    (each_right (λ r. r.words ≡ []) before (root ∷ after) plain).0
nothing_before bytes picture held Listed.by_type before root after e =
    let plain = subst (AllByRecursion IsPlain) e (each_left IsPlain picture.uniques picture.loose held.laid_out.plain) in
    (each_right IsPlain before (root ∷ after) plain).0.no_words
nothing_before bytes picture held Listed.loose before root after e =
    let plain = subst (AllByRecursion IsPlain) e (each_right IsPlain picture.uniques picture.loose held.laid_out.plain) in
    (each_right IsPlain before (root ∷ after) plain).0.no_words

module _ (bytes : List ℕ) (picture : Picture) (held : IsHeld bytes picture) (which : Listed) (before : List Root) (root : Root) (after : List Root) (a : RootComesApart bytes picture held which before root after) (j : ℕ)
    (within : j < count root.values) (path : List Selector) (place : Place) (leads : Leads bytes picture.table (item_of picture.table root j) path place) (p : PartComesApart bytes picture.table root a.its j path place) where
  -- how often a block is owned: by the index, by other roots, around the place, and by the place
  block_owners : (h : ℕ) → times h (positions (live bytes)) ≡ times h held.index_blocks + (times h a.left + ((times h p.left + (times h p.its + times h p.right)) + times h a.right))
  block_owners h =
      held.owners h ∙ times-append h held.index_blocks held.root_blocks
      ∙ ap (λ n. times h held.index_blocks + n) (ap (times h) a.blocks_are ∙ times-append h a.left (a.its ++ a.right)
      ∙ ap (λ n. times h a.left + n) (times-append h a.its a.right
      ∙ ap (λ n. n + times h a.right) (ap (times h) p.blocks_are ∙ times-append h p.left (p.its ++ p.right)
      ∙ ap (λ n. times h p.left + n) (times-append h p.its p.right))))

  its_are : (h : ℕ) → times h a.its ≡ times h p.left + (times h p.its + times h p.right)
  its_are h = ap (times h) p.blocks_are ∙ times-append h p.left (p.its ++ p.right) ∙ ap (λ n. times h p.left + n) (times-append h p.its p.right)

  its_aligned : AreAligned a.its
  its_aligned = each_there Aligned a.its (λ h some.
      let e = block_owners h in
      let f = its_are h in
      let l = there (LiesIn bytes heap_start (length bytes)) h (positions (live bytes)) (live-lie bytes (word bytes allocator_word) held.laid_out.heap) (omega (arith, e, f, some)) in
      omega (arith, l.aligned))

  owned : (h : ℕ) → times h (p.home ∷ p.its) ≤ times h (positions (live bytes))
  owned h =
      let e = block_owners h in
      elim (cases_eq p.home h) [
        | inl same ↦
            let around : 1 ≤ times h (p.left ++ p.right) = subst (λ x. 1 ≤ times x (p.left ++ p.right)) same p.home_is in
            let both = times-append h p.left p.right in
            let one : times h (p.home ∷ p.its) ≡ 1 + times h p.its = subst (λ x. times h (x ∷ p.its) ≡ 1 + times h p.its) (sym same) (times-same h p.its) in
            omega (arith, e, around, both, one)
        | inr other ↦ let none = times-other h p.home p.its other in omega (arith, e, none)
      ]

  pub part_stands : root.words ≡ [] → Stands (word bytes allocator_word) bytes picture.table place p.value p.its
  part_stands no_words =
      let laid = held.laid_out in
      record {
        heap = laid.heap;
        allocator_is = refl;
        is_table = laid.is_table;
        ownable = laid.blocks;
        holds_it = p.holds_it;
        aligned = root_aligned bytes picture.table laid.is_table root a.its no_words a.holds_it its_aligned j within leads;
        home = p.home;
        inside = p.lies_in;
        owned = owned;
      }

-- ---- a place that is reached

loose_still : (picture : Picture) (which : Listed) (before : List Root) (root : Root) (after : List Root) (other : Root) → roots_in picture which ≡ before ++ root ∷ after
    → length (with_roots picture which (before ++ other ∷ after)).loose ≡ length picture.loose
loose_still picture Listed.by_name before root after other e = refl
loose_still picture Listed.by_type before root after other e = refl
loose_still picture Listed.loose before root after other e = same_length before ∙ sym (ap length e)
  where
    same_length : (before : List Root) → length (before ++ other ∷ after) ≡ length (before ++ root ∷ after)
    same_length [] = refl
    same_length (r ∷ before) = ap suc (same_length before)

module _ (old : List ℕ) (picture : Picture) (held : IsHeld old picture) (counted : AreCounted (word old next_word) picture) (place : Place) (reached : IsReached old picture place) where
  abbrev apart : RootComesApart old picture held reached.which reached.before reached.root reached.after
  apart = root_comes_apart old picture held reached.which reached.before reached.root reached.after reached.among

  -- The place with its value, as calls find it. Its blocks and the block around it are the root's.
  pub record FoundPlace (allocator : ℕ) (table : Table) (value : Value) : Type 0 where
    pub whole : Value
    pub item_is : nth reached.root.values reached.item ≡ Some whole
    pub value_is : value_at whole reached.path ≡ Some value
    pub blocks : List ℕ
    pub stands : Stands allocator old table place value blocks
    pub within : (h : ℕ) → times h (stands.home ∷ blocks) ≤ times h apart.its

  pub found_place : (value : Value) × FoundPlace (word old allocator_word) picture.table value
  unfolding part_stands
  found_place =
      let part = part_comes_apart old picture.table held.laid_out.is_table reached.root apart.its apart.holds_it
      (root_apart old picture held reached.which reached.before reached.root reached.after apart) reached.item reached.within reached.path place reached.leads in (
        part.value,
        record {
          whole = part.item;
          item_is = part.item_is;
          value_is = part.value_is;
          blocks = part.its;
          stands = part_stands old picture held reached.which reached.before reached.root reached.after apart reached.item reached.within reached.path place reached.leads part
              (nothing_before old picture held reached.which reached.before reached.root reached.after reached.among);
          within = λ h. home_within h part;
        },
      )
    where
      home_within : (h : ℕ) (part : PartComesApart old picture.table reached.root apart.its reached.item reached.path place) → times h (part.home ∷ part.its) ≤ times h apart.its
      home_within h part =
          let all : times h apart.its ≡ times h (part.left ++ (part.its ++ part.right)) = ap (times h) part.blocks_are in
          let outer = times-append h part.left (part.its ++ part.right) in
          let inner = times-append h part.its part.right in
          let around_is = times-append h part.left part.right in
          elim (cases_eq part.home h) [
            | inl same ↦
                let around : 1 ≤ times h (part.left ++ part.right) = subst (λ x. 1 ≤ times x (part.left ++ part.right)) same part.home_is in
                let one : times h (part.home ∷ part.its) ≡ 1 + times h part.its = subst (λ x. times h (x ∷ part.its) ≡ 1 + times h part.its) (sym same) (times-same h part.its) in
                omega (arith, all, outer, inner, around_is, around, one)
            | inr other ↦ let none = times-other h part.home part.its other in omega (arith, all, outer, inner, none)
          ]

  abbrev front : List Root
  front = roots_before picture reached.which reached.before

  abbrev back : List Root
  back = owners_after picture reached.which reached.after

  split : owners_in picture ≡ front ++ reached.root ∷ back
  split = owners_are picture reached.which reached.before (reached.root ∷ []) reached.after reached.among

  -- ---- a call on the place, of a segment with the picture's types

  module _ (allocator : ℕ) (table : Table) (table_is : table ≡ picture.table) (v : Value) (f : FoundPlace allocator table v) where
    -- the picture with another value at the place
    abbrev item_then : Value → Root
    item_then w = with_item reached.root reached.item (with_value_at reached.path w)

    abbrev picture_with : Value → Picture
    picture_with w = with_roots picture reached.which (reached.before ++ item_then w ∷ reached.after)

    owners_then : (w : Value) → owners_in (picture_with w) ≡ front ++ item_then w ∷ back
    owners_then w = owners_with picture reached.which reached.before (item_then w ∷ []) reached.after

    frozen_then : (w : Value) → (picture_with w).frozen ≡ picture.frozen
    frozen_then w = frozen_same picture reached.which (reached.before ++ item_then w ∷ reached.after)

    table_then : (w : Value) → (picture_with w).table ≡ picture.table
    table_then w = table_kept picture reached.which (reached.before ++ item_then w ∷ reached.after)

    loose_then : (w : Value) → length (picture_with w).loose ≡ length picture.loose
    loose_then w = loose_still picture reached.which reached.before reached.root reached.after (item_then w) reached.among

    was : Holds old picture.table place v f.blocks
    was = subst (λ (t : Table). Holds old t place v f.blocks) table_is f.stands.holds_it

    module _ (new : List ℕ) (w : Value) where
      -- a call that leaves the same shared cells
      pub stays_changed : (blocks : List ℕ) {spans : List Span} → SameNames (names_in v) (names_in w) → ChangesPlace old new table place w blocks spans f.blocks blocks → StaysHeld old new picture
      stays_changed blocks {spans = spans} same c = record {
        other = picture_with w;
        held = place_changed old new picture held reached.which reached.before reached.root reached.after reached.among reached.item reached.within reached.path place reached.leads v w f.blocks blocks
            was (subst (λ (t : Table). ChangesPlace old new t place w blocks spans f.blocks blocks) table_is c);
        counted = counted_on old new (picture_with w) c.back_kept
            (counted_still reached.root reached.item f.whole f.item_is reached.path v f.value_is (word old next_word) picture front back split counted w same (picture_with w) (owners_then w) (frozen_then w));
        same_table = table_then w;
        loose_kept = loose_then w;
        length_kept = c.length_kept;
      }

      -- a call that leaves these frozen objects
      stays_left : (news : List ℕ) (theirs : ℕ → List ℕ) (final : List Frozen) → HoldFrozen old table theirs picture.frozen → {spans : List Span}
          → ChangesPlace old new table place w news spans (f.blocks ++ blocks_by theirs picture.frozen) (news ++ blocks_by theirs final) → HoldFrozen new table theirs final
          → AreCounted (word old next_word) (record (picture_with w) { frozen = final }) → StaysHeld old new picture
      stays_left news theirs final holds {spans = spans} c holds_then still = record {
        other = record (picture_with w) { frozen = final };
        held = part_cleared old new picture held reached.which reached.before reached.root reached.after reached.among reached.item reached.within reached.path place reached.leads v w f.blocks news
            was theirs final (subst (λ (t : Table). HoldFrozen old t theirs picture.frozen) table_is holds)
            (subst (λ (t : Table). ChangesPlace old new t place w news spans (f.blocks ++ blocks_by theirs picture.frozen) (news ++ blocks_by theirs final)) table_is c)
            (subst (λ (t : Table). HoldFrozen new t theirs final) table_is holds_then);
        counted = counted_on old new (record (picture_with w) { frozen = final }) c.back_kept still;
        same_table = table_then w;
        loose_kept = loose_then w;
        length_kept = c.length_kept;
      }

      -- a call that releases these cells, and frees the objects that only they shared
      pub stays_released : (gone : List Place) → SameNames (names_in v) (gone ++ names_in w) → (news : List ℕ) (theirs : ℕ → List ℕ) → HoldFrozen old table theirs picture.frozen → {spans : List Span}
          → ChangesPlace old new table place w news spans (f.blocks ++ blocks_by theirs picture.frozen) (news ++ blocks_by theirs (left gone picture.frozen))
          → HoldFrozen new table theirs (left gone picture.frozen) → StaysHeld old new picture
      stays_released gone same news theirs holds c holds_then =
          stays_left news theirs (left gone picture.frozen) holds c holds_then
          (counted_then reached.root reached.item f.whole f.item_is reached.path v f.value_is (word old next_word) picture front back split counted gone w same
          (record (picture_with w) { frozen = left gone picture.frozen }) (owners_then w) refl)

      -- A call after which the place shares existing objects. These cells were counted, and then the
      -- objects of the old ones were released.
      pub stays_shared : AllByRecursion (IsBelow (word old next_word) picture.frozen) (names_in w) → (news : List ℕ) (theirs : ℕ → List ℕ) → HoldFrozen old table theirs picture.frozen
          → ClearsPlace old new table place w f.blocks news theirs picture.frozen (left (names_in v) (raised_by (names_in w) picture.frozen)) → StaysHeld old new picture
      stays_shared below news theirs holds c =
          let final = left (names_in v) (raised_by (names_in w) picture.frozen) in
          stays_left news theirs final holds c.changes c.holds
          (counted_shared reached.root reached.item f.whole f.item_is reached.path v f.value_is (word old next_word) picture front back split counted w below (record (picture_with w) { frozen = final })
          (owners_then w) refl)

    -- ---- the frozen objects apart from the place

    -- a claim about any frozen objects is true of the picture's
    pub record SharedThere (gone : List Place) (claim : (ℕ → List ℕ) → List Frozen → List Frozen → Type 0) : Type 0 where
      pub theirs : ℕ → List ℕ
      pub holds : HoldFrozen old table theirs picture.frozen
      pub claimed : claim theirs picture.frozen (left gone picture.frozen)

    pub shared_there : (gone kept : List Place) → SameNames (names_in v) (gone ++ kept) → (names : List ℕ) → positions_of gone ≡ names → {claim : (ℕ → List ℕ) → List Frozen → List Frozen → Type 0}
        → BesideShared old table (f.stands.home ∷ f.blocks) names claim → SharedThere gone claim
    shared_there gone kept same names names_are says =
        let b = owner_beside (word old next_word) old picture held front reached.root back split counted in
        let own : apart.its ≡ b.apart.firsts =
        HoldsRoot_blocks-one old picture.table reached.root apart.its b.apart.firsts apart.holds_it (HoldsRoots-only old picture.table reached.root b.apart.firsts b.apart.holds_first) in
        let cells = kept ++ kept_cells reached.root reached.item f.whole f.item_is reached.path v f.value_is (word old next_word) picture front back split counted in
        let beside = part_beside reached.root reached.item f.whole f.item_is reached.path v f.value_is (word old next_word) picture front back split counted old held (f.stands.home ∷ f.blocks)
        (λ h. subst (λ bs. times h (f.stands.home ∷ f.blocks) ≤ times h bs) own (f.within h)) gone kept same in
        let on_table = subst (λ (t : Table). SharedBeside old t (f.stands.home ∷ f.blocks) (positions_of gone) b.theirs cells picture.frozen (left gone picture.frozen)) (sym table_is) beside in
        record {
          theirs = b.theirs;
          holds = subst (λ (t : Table). HoldFrozen old t b.theirs picture.frozen) (sym table_is) b.beside.holds;
          claimed = says b.theirs cells picture.frozen (left gone picture.frozen)
              (subst (λ ns. SharedBeside old table (f.stands.home ∷ f.blocks) ns b.theirs cells picture.frozen (left gone picture.frozen)) names_are on_table);
        }

    -- a call that releases these cells, for any frozen objects
    pub stays_cleared : (new : List ℕ) (w : Value) (gone : List Place) → SameNames (names_in v) (gone ++ names_in w) → (names : List ℕ) → positions_of gone ≡ names → (news : List ℕ)
        → BesideShared old table (f.stands.home ∷ f.blocks) names (ClearsPlace old new table place w f.blocks news) → StaysHeld old new picture
    stays_cleared new w gone same names names_are news says =
        let s = shared_there gone (names_in w) same names names_are {claim = ClearsPlace old new table place w f.blocks news} says in
        stays_released new w gone same news s.theirs s.holds s.claimed.changes s.claimed.holds

    -- the frozen objects apart from the place count its cells and the others
    pub record FrozenThere : Type 0 where
      pub theirs : ℕ → List ℕ
      pub kept : List Place
      pub beside : FrozenBeside old table (f.stands.home ∷ f.blocks) (names_in v ++ kept) (word old next_word) theirs picture.frozen

    abbrev others : List Place
    others = kept_cells reached.root reached.item f.whole f.item_is reached.path v f.value_is (word old next_word) picture front back split counted

    all_counted : IsCounted (word old next_word) picture.frozen (names_in v ++ others)
    all_counted = counted_part reached.root reached.item f.whole f.item_is reached.path v f.value_is (word old next_word) picture front back split counted

    pub frozen_there : FrozenThere
    frozen_there =
        let s = shared_there [] (names_in v) (names_same refl) [] refl
        {claim = λ theirs now final. (kept : List Place) × SharedBeside old table (f.stands.home ∷ f.blocks) [] theirs kept now final} (λ theirs kept now final beside. (kept, beside)) in
        let beside = s.claimed.1 in
        record {
          theirs = s.theirs;
          kept = others;
          beside = record { holds = beside.holds; ownable = beside.ownable; owned = beside.owned; counted = all_counted; falling = counted.falling };
        }

    -- the objects to which the cells of the place point
    pub cells_below : AllByRecursion (IsBelow (word old next_word) picture.frozen) (names_in v)
    cells_below = each_left (IsBelow (word old next_word) picture.frozen) (names_in v) others all_counted.named

  -- ---- a number that is stored at the place

  pub stays_stored : (new : List ℕ) → form_at picture.table place.type ≡ Some Form.i64 → ChangesOnly old new place.at 8 → StaysHeld old new picture
  stays_stored new form changes =
      let table = picture.table in
      let v = found_place.0 in
      let f = found_place.1 in
      let was = Holds-one old table f.stands.holds_it (number_held old table place form) in
      let only = subst (λ n. ChangesOnly old new place.at n) (sym (size-form table f.stands.is_table place.type Form.i64 form)) changes in
      let number = Int (signed_long new place.at) in
      let same : names_in v ≡ names_in number = ap names_in was.0 ∙ names_int (signed_long old place.at) ∙ sym (names_int (signed_long new place.at)) in
      stays_changed (word old allocator_word) table refl v f new number [] (names_same same)
      (subst (λ bs. ChangesPlace old new table place number [] (live old) bs []) (sym was.1)
      (changes_place (word old allocator_word) old table place v f.blocks f.stands new only number [] [] (number_held new table place form)))
