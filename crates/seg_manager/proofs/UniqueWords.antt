-- The pointer of a type's unique object changes: a loose object becomes the unique one, or the
-- unique object becomes a loose one.
use Rattle.std.proofs.Common.{◌≡◌, ◌≢◌, ℕ, ◌+◌, ◌<◌, ◌≤◌, ◌^◌, ◌⊎◌, inl, inr, List, [], ◌∷◌, ◌++◌, length, Option, Some, None, refl, sym, ap, ◌∙◌, subst, arith}
use Rattle.std.proofs.lemmas.Bool.{cases_lt}
use Rattle.std.proofs.lemmas.List.{append_assoc}
use Rattle.std.specs.List.{AllByRecursion}
use Rattle.seg_spec.specs.Bytes.{word, IsSame, ChangesOnly}
use Rattle.seg_spec.specs.Header.{version_word, allocator_word, index_kind_word, next_word, index_cell, types_start, types_size, uniques_start, heap_start}
use Rattle.seg_spec.specs.Pointer.{target, set_pointer, distance}
use Rattle.seg_spec.specs.Types.{Table, AreOfVersion}
use Rattle.seg_spec.specs.Heap.{live, IsHeap}
use Rattle.seg_spec.specs.Block.{KeepsBlock, payload_size}
use Rattle.seg_spec.specs.Index.{Root, unique_word, ListsUniques, AreRising}
use Rattle.seg_spec.specs.Sound.{Picture, roots_of, IsPlain, HoldsRoots, holds_no_root, IsLaidOut, IsHeld, times, SameBlocks, positions, frozen_roots}
use Rattle.seg_spec.specs.Roots.{StretchesComeApart}
use Rattle.seg_spec.proofs.Values.PlaceFrameLaws.{each_left, each_right, word-same, target-same}
use Rattle.seg_spec.proofs.Heap.LiveBlockLaws.{times-append, each_there}
use Rattle.seg_spec.proofs.PointerLaws.{target-set_same}
use Rattle.seg_spec.proofs.Images.RootFrameLaws.{HoldsRoots-kept, ListsNames-kept}
use Rattle.seg_spec.proofs.Images.RootStretchLaws.{stretches_come_apart}
use Rattle.seg_spec.proofs.Images.RootWriteLaws.{set_number-changes}
use Rattle.seg_value.proofs.HeaderLaws.{header_heap, header_live, header_ownable, header_kept}
use Rattle.seg_spec.proofs.Images.TypeAdditionLaws.{header_same}
use Rattle.seg_spec.proofs.Images.LooseRootLaws.{each_joined}
use Rattle.seg_spec.proofs.Images.UniqueLaws.{unique_added, unique_removed}

pub word_changes : (old : List ℕ) (T : ℕ) (to : Option ℕ) → ChangesOnly old (set_pointer old (unique_word T) to) (unique_word T) 4
word_changes old T to = set_number-changes 4 old (unique_word T) (distance (unique_word T) to)

pub word_written : (old : List ℕ) (T : ℕ) (to : Option ℕ) → T < 32 → heap_start ≤ length old → ((t : ℕ) → to ≡ Some t → (t < 2 ^ 32) × (heap_start ≤ t)) → target (set_pointer old (unique_word T) to) (unique_word T) ≡ to
word_written old T to less long high = target-set_same old (unique_word T) to (omega arith) (omega arith) (λ t e. let h = high t e in (h.0, λ f. omega (arith, h.1)))

module _ (old new : List ℕ) (picture : Picture) (held : IsHeld old picture) (T : ℕ) (less : T < 32) (changes : ChangesOnly old new (unique_word T) 4) where
  abbrev allocator : ℕ
  allocator = word old allocator_word

  heap : IsHeap allocator old
  heap = held.laid_out.heap

  fits : unique_word T + 4 ≤ heap_start
  fits = omega arith

  after_root : 28 ≤ unique_word T
  after_root = omega arith

  low_same : (p n : ℕ) → p + n ≤ uniques_start → IsSame old new p n
  low_same p n l = changes.others p n (inl (omega arith))

  pub word_heap : IsHeap allocator new
  word_heap = header_heap allocator old new (unique_word T) 4 heap changes fits after_root

  pub word_live : live new ≡ live old
  word_live = header_live allocator old new (unique_word T) 4 heap changes fits after_root

  pub word_kept : (h : ℕ) → 1 ≤ times h (positions (live old)) → KeepsBlock old new h
  word_kept h some = header_kept allocator old new (unique_word T) 4 heap changes fits after_root h some

  -- all blocks in the heap are kept
  pub above_kept : (h : ℕ) → heap_start ≤ h → KeepsBlock old new h
  above_kept h low =
      let first = word-same old new h (changes.others h 4 (inr (omega arith))) in
      record {
        live = rw first refl;
        has_tag = word-same old new (h + 8) (changes.others (h + 8) 4 (inr (omega arith)));
        room = rw first (omega arith);
        payload = changes.others (h + 16) (payload_size old h) (inr (omega arith));
      }

  pub word_allocator : word new allocator_word ≡ word old allocator_word
  word_allocator = word-same old new allocator_word (low_same allocator_word 4 (omega arith))

  pub word_next : word new next_word ≡ word old next_word
  word_next = word-same old new next_word (low_same next_word 4 (omega arith))

  all_counts : (h : ℕ) → times h (positions (live old)) ≡ times h held.index_blocks + times h held.root_blocks
  all_counts h = held.owners h ∙ times-append h held.index_blocks held.root_blocks

  index_kept : AllByRecursion (KeepsBlock old new) held.index_blocks
  index_kept = each_there (KeepsBlock old new) held.index_blocks (λ h some. word_kept h (omega (arith, all_counts h)))

  others : (U : ℕ) → U < 32 → U ≢ T → target new (unique_word U) ≡ target old (unique_word U)
  others U l ne = target-same old new (unique_word U) (go (cases_lt U T))
    where
      go : (U < T) ⊎ (T ≤ U) → IsSame old new (unique_word U) 4
      go (inl b) = changes.others (unique_word U) 4 (inl (omega arith))
      go (inr b) = changes.others (unique_word U) 4 (inr (omega arith))

  laid_out : (uniques ls : List Root) → ListsUniques new uniques → AllByRecursion IsPlain (uniques ++ ls) → IsLaidOut new (record picture { uniques = uniques; loose = ls }) held.index_blocks
  laid_out uniques ls lists plain =
      let l = held.laid_out in
      record {
        header = header_same old new changes.length_kept (low_same 0 64 (omega arith)) l.header;
        types = low_same types_start types_size (omega arith) ∙ l.types;
        is_table = l.is_table;
        of_version = subst (λ n. AreOfVersion n picture.table) (sym (word-same old new version_word (low_same version_word 4 (omega arith)))) l.of_version;
        heap = rw word_allocator word_heap;
        blocks = header_ownable allocator old new (unique_word T) 4 heap changes fits after_root picture.table l.blocks;
        names = ListsNames-kept old new picture.names held.index_blocks (low_same index_kind_word 4 (omega arith)) (low_same index_cell 8 (omega arith)) index_kept l.names;
        uniques = lists;
        plain = plain;
      }

  -- the picture with two of its roots in other places
  module _ (before first between second after come come_too : List Root) (other : Picture) (same_table : other.table ≡ picture.table) (parts : roots_of picture ≡ before ++ (first ++ (between ++ (second ++ after))))
      (parts_then : roots_of other ≡ before ++ (come ++ (between ++ (come_too ++ after)))) (layout : IsLaidOut new other held.index_blocks) where
    pub s : StretchesComeApart old picture held before first between second after
    s = stretches_come_apart old picture held before first between second after parts

    count_all : (h : ℕ) → times h (positions (live old)) ≡ times h held.index_blocks + times h s.around + times h s.firsts + times h s.seconds
    count_all h = let a = all_counts h in let b = s.blocks_are h in omega arith

    kept_of : (xs : List ℕ) → ((h : ℕ) → times h xs ≤ times h (positions (live old))) → AllByRecursion (KeepsBlock old new) xs
    kept_of xs f = each_there (KeepsBlock old new) xs (λ h some. word_kept h (omega (arith, f h)))

    around_kept : AllByRecursion (KeepsBlock old new) s.around
    around_kept = kept_of s.around (λ h. omega (arith, count_all h))

    pub firsts_then : HoldsRoots new picture.table first s.firsts
    firsts_then = HoldsRoots-kept old new picture.table held.laid_out.is_table s.holds_first (kept_of s.firsts (λ h. omega (arith, count_all h)))

    pub seconds_then : HoldsRoots new picture.table second s.seconds
    seconds_then = HoldsRoots-kept old new picture.table held.laid_out.is_table s.holds_second (kept_of s.seconds (λ h. omega (arith, count_all h)))

    pub changed_places : (theirs theirs_too : List ℕ) → HoldsRoots new picture.table come theirs → HoldsRoots new picture.table come_too theirs_too
        → ((h : ℕ) → times h theirs + times h theirs_too ≡ times h s.firsts + times h s.seconds) → IsHeld new other
    changed_places theirs theirs_too c d same = s.becomes new other come come_too held.index_blocks theirs theirs_too same_table parts_then layout around_kept c d owners
      where
        owners : SameBlocks (positions (live new)) (held.index_blocks ++ (s.around ++ (theirs ++ theirs_too)))
        owners h =
            let a = count_all h in
            let b = same h in
            let n0 = times-append h held.index_blocks (s.around ++ (theirs ++ theirs_too)) in
            let n1 = times-append h s.around (theirs ++ theirs_too) in
            let n2 = times-append h theirs theirs_too in
            let n3 : times h (positions (live new)) ≡ times h (positions (live old)) = ap (λ bs. times h (positions bs)) word_live in
            omega arith

  none_held : (table : Table) (xs : List ℕ) → HoldsRoots old table [] xs → (h : ℕ) → times h xs ≡ 0
  none_held table [] k h = refl
  none_held table (x ∷ xs) k h = elim k [ ]

  plain_apart : (us ls : List Root) → AllByRecursion IsPlain (us ++ ls) → AllByRecursion IsPlain us × AllByRecursion IsPlain ls
  plain_apart us ls a = (each_left IsPlain us ls a, each_right IsPlain us ls a)

  -- the first loose object becomes the unique one of its type
  module _ (before after : List Root) (root : Root) (rest : List Root) (uniques_are : picture.uniques ≡ before ++ after) (loose_are : picture.loose ≡ root ∷ rest) (type_is : root.type ≡ T)
      (rising : AreRising 0 (before ++ root ∷ after)) (word_is : target new (unique_word T) ≡ Some root.at) where
    abbrev with_it : Picture
    with_it = record picture { uniques = before ++ root ∷ after; loose = rest }

    lists : ListsUniques new (before ++ root ∷ after)
    lists = unique_added old new before root after (λ U l ne. others U l (λ e. ne (e ∙ sym type_is))) (rw uniques_are at held.laid_out.uniques) rising (rw type_is word_is)

    plain : AllByRecursion IsPlain ((before ++ root ∷ after) ++ rest)
    plain =
        let p = plain_apart picture.uniques picture.loose held.laid_out.plain in
        let us = plain_apart before after (subst (λ rs. AllByRecursion IsPlain rs) uniques_are p.0) in
        let ls : AllByRecursion IsPlain (root ∷ rest) = subst (λ rs. AllByRecursion IsPlain rs) loose_are p.1 in
        each_joined IsPlain (before ++ root ∷ after) rest (each_joined IsPlain before (root ∷ after) us.0 (ls.0, us.1)) ls.1

    -- the roots after the loose one
    abbrev others_then : List Root
    others_then = rest ++ frozen_roots picture

    parts_old : roots_of picture ≡ (picture.names ++ before) ++ ([] ++ (after ++ ((root ∷ []) ++ others_then)))
    parts_old = ap (λ us. picture.names ++ (us ++ (picture.loose ++ frozen_roots picture))) uniques_are ∙ ap (λ ls. picture.names ++ ((before ++ after) ++ (ls ++ frozen_roots picture))) loose_are ∙ simp append_assoc

    parts_new : roots_of with_it ≡ (picture.names ++ before) ++ ((root ∷ []) ++ (after ++ ([] ++ others_then)))
    parts_new = simp append_assoc

    pub unique_joined : IsHeld new with_it
    unique_joined =
        let layout = laid_out (before ++ root ∷ after) rest lists plain in
        let b = picture.names ++ before in
        let one = root ∷ [] in
        let apart = s b [] after one others_then one [] with_it refl parts_old parts_new layout in
        changed_places b [] after one others_then one [] with_it refl parts_old parts_new layout apart.seconds []
        (seconds_then b [] after one others_then one [] with_it refl parts_old parts_new layout) holds_no_root
        (λ h. let n = none_held picture.table apart.firsts apart.holds_first h in omega arith)

  -- the unique object of the type becomes the first loose one
  module _ (before : List Root) (root : Root) (after : List Root) (uniques_are : picture.uniques ≡ before ++ root ∷ after) (type_is : root.type ≡ T) (word_is : target new (unique_word T) ≡ None) where
    abbrev without_it : Picture
    without_it = record picture { uniques = before ++ after; loose = root ∷ picture.loose }

    lists' : ListsUniques new (before ++ after)
    lists' = unique_removed old new before root after (λ U l ne. others U l (λ e. ne (e ∙ sym type_is))) (rw uniques_are at held.laid_out.uniques) (rw type_is word_is)

    plain' : AllByRecursion IsPlain ((before ++ after) ++ root ∷ picture.loose)
    plain' =
        let p = plain_apart picture.uniques picture.loose held.laid_out.plain in
        let us = plain_apart before (root ∷ after) (subst (λ rs. AllByRecursion IsPlain rs) uniques_are p.0) in
        each_joined IsPlain (before ++ after) (root ∷ picture.loose) (each_joined IsPlain before after us.0 us.1.1) (us.1.0, p.1)

    -- the roots after the first loose one
    abbrev others_then' : List Root
    others_then' = picture.loose ++ frozen_roots picture

    parts_old' : roots_of picture ≡ (picture.names ++ before) ++ ((root ∷ []) ++ (after ++ ([] ++ others_then')))
    parts_old' = ap (λ us. picture.names ++ (us ++ others_then')) uniques_are ∙ simp append_assoc

    parts_new' : roots_of without_it ≡ (picture.names ++ before) ++ ([] ++ (after ++ ((root ∷ []) ++ others_then')))
    parts_new' = simp append_assoc

    pub unique_left : IsHeld new without_it
    unique_left =
        let layout = laid_out (before ++ after) (root ∷ picture.loose) lists' plain' in
        let b = picture.names ++ before in
        let one = root ∷ [] in
        let apart = s b one after [] others_then' [] one without_it refl parts_old' parts_new' layout in
        changed_places b one after [] others_then' [] one without_it refl parts_old' parts_new' layout [] apart.firsts holds_no_root
        (firsts_then b one after [] others_then' [] one without_it refl parts_old' parts_new' layout)
        (λ h. let n = none_held picture.table apart.seconds apart.holds_second h in omega arith)
