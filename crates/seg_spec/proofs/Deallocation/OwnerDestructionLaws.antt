-- An owner of blocks is destroyed, with the frozen objects that lost their last cell. Each other
-- block is kept, and still has one owner.
use Rattle.std.proofs.Common.{◌≡◌, ℕ, zero, suc, ◌+◌, ◌≤◌, List, [], ◌++◌, map, refl, sym, ap, ◌∙◌, arith}
use Rattle.std.specs.List.{AllByRecursion}
use Rattle.std.proofs.lemmas.List.{append_assoc, append-nil}
use Rattle.seg_spec.specs.Bytes.{word}
use Rattle.seg_spec.specs.Header.{allocator_word}
use Rattle.seg_spec.specs.Types.{Table}
use Rattle.seg_spec.specs.Heap.{IsHeap, live}
use Rattle.seg_spec.specs.Block.{IsOwnable, KeepsBlock}
use Rattle.seg_spec.specs.Reads.{Place}
use Rattle.seg_spec.specs.Index.{Root}
use Rattle.seg_spec.specs.Frozen.{Frozen, root_of_frozen, blocks_by}
use Rattle.seg_spec.specs.Sound.{Picture, roots_of, holds_no_root, IsLaidOut, IsHeld, times, SameBlocks, positions}
use Rattle.seg_spec.specs.Owing.{KeepsLinked}
use Rattle.seg_spec.specs.Demand.{after_gives}
use Rattle.seg_spec.specs.Shared.{names_each, left, freed}
use Rattle.seg_spec.specs.Destroying.{Destroys}
use Rattle.seg_spec.specs.Counting.{owners_in, without_cells}
use Rattle.seg_spec.proofs.Heap.LiveBlockLaws.{times-append, each_there, live-once}
use Rattle.seg_spec.proofs.Heap.FreeOrderLaws.{in_any_order}
use Rattle.seg_spec.proofs.Images.RootLaws.{IsLaidOut-kept}
use Rattle.seg_spec.proofs.Values.CallPlaceLaws.{each_live_at, live_at, ownable_linked}
use Rattle.seg_spec.proofs.Frozen.PictureCountLaws.{left_and_freed, roots_held, OwnerBeside}

module _ (allocator : ℕ) (old new : List ℕ) (table : Table) (its : List ℕ) (theirs : ℕ → List ℕ) (gone : List Place) (frozen : List Frozen) (heap : IsHeap allocator old) (ownable : AllByRecursion (λ b. IsOwnable old table b.at) (live old))
    (d : Destroys allocator old new table (its ++ blocks_by theirs frozen) theirs (left gone frozen)) where
  abbrev still : List ℕ
  still = blocks_by theirs (left gone frozen)

  abbrev went : List ℕ
  went = its ++ blocks_by theirs (freed gone frozen)

  gives_are : SameBlocks d.gives went
  gives_are h = omega (arith, d.blocks_are h, left_and_freed theirs gone frozen h, times-append h its (blocks_by theirs frozen), times-append h its (blocks_by theirs (freed gone frozen)), times-append h d.gives still)

  pub live_given : live new ≡ after_gives (live old) went
  live_given = d.frees.live_is ∙ in_any_order (live old) d.gives went gives_are

  pub live_counts : (h : ℕ) → times h (positions (live new)) + (times h its + times h (blocks_by theirs frozen)) ≡ times h (positions (live old)) + times h still
  live_counts h = omega (arith, d.frees.live_are h, d.blocks_are h, times-append h its (blocks_by theirs frozen), times-append h d.gives still)

  pub others_linked : (h : ℕ) → 1 ≤ times h (positions (live old)) → times h (its ++ blocks_by theirs frozen) ≡ 0 → KeepsLinked old new h
  others_linked h some none = d.frees.kept h some (sym (d.blocks_are h) ∙ none)

  pub ownable_after : AllByRecursion (λ b. IsOwnable new table b.at) (live new)
  ownable_after = each_live_at (IsOwnable new table) (live new) (λ h some. one h some (times h still) refl)
    where
      one : (h : ℕ) → 1 ≤ times h (positions (live new)) → (n : ℕ) → times h still ≡ n → IsOwnable new table h
      one h some zero none =
          let once = live-once old allocator heap h in
          let counts = live_counts h in
          let was : 1 ≤ times h (positions (live old)) = omega arith in
          ownable_linked old new table h (others_linked h was (omega (arith, times-append h its (blocks_by theirs frozen)))) (live_at (IsOwnable old table) (live old) h ownable was)
      one h some (suc n) there_is = d.ownable h (omega arith)

-- a picture with other frozen objects is laid out in the same way
pub laid_out_with : (bytes : List ℕ) (picture : Picture) (index_blocks : List ℕ) (frozen : List Frozen) → IsLaidOut bytes picture index_blocks → IsLaidOut bytes (record picture { frozen = frozen }) index_blocks
laid_out_with bytes picture index_blocks frozen l = record {
  header = l.header;
  types = l.types;
  is_table = l.is_table;
  of_version = l.of_version;
  heap = l.heap;
  blocks = l.blocks;
  names = l.names;
  uniques = l.uniques;
  plain = l.plain;
}

-- a picture with fewer frozen objects is laid out in the same way
pub laid_out_without : (bytes : List ℕ) (picture : Picture) (index_blocks : List ℕ) (gone : List Place) → IsLaidOut bytes picture index_blocks → IsLaidOut bytes (without_cells gone picture) index_blocks
laid_out_without bytes picture index_blocks gone l = laid_out_with bytes picture index_blocks (left gone picture.frozen) l

-- the owners without the destroyed one, and the frozen objects that remain
pub owners_left : (other : Picture) (before after : List Root) (gone : List Place) (fs : List Frozen) → owners_in other ≡ before ++ after → other.frozen ≡ fs
    → roots_of (without_cells gone other) ≡ before ++ ([] ++ (after ++ (map root_of_frozen (left gone fs) ++ [])))
owners_left other before after gone fs split same =
    let rest = map root_of_frozen (left gone other.frozen) in
    let regrouped : roots_of (without_cells gone other) ≡ owners_in other ++ rest = simp append_assoc in
    regrouped ∙ ap (λ rs. rs ++ rest) split ∙ ap (λ gs. (before ++ after) ++ map root_of_frozen (left gone gs)) same ∙ simp (append_assoc, append-nil)

-- a root of an image is destroyed
module _ (old new : List ℕ) (picture : Picture) (held : IsHeld old picture) (before : List Root) (root : Root) (after : List Root) (b : OwnerBeside old picture held before root after)
    (d : Destroys (word old allocator_word) old new picture.table (b.apart.firsts ++ blocks_by b.theirs picture.frozen) b.theirs (left (names_each root.values) picture.frozen)) where
  abbrev cells : List Place
  cells = names_each root.values

  abbrev rest : List Frozen
  rest = left cells picture.frozen

  counts_then : (h : ℕ) → times h (positions (live new)) + (times h b.apart.firsts + times h (blocks_by b.theirs picture.frozen)) ≡ times h (positions (live old)) + times h (blocks_by b.theirs rest)
  counts_then h = live_counts (word old allocator_word) old new picture.table b.apart.firsts b.theirs cells picture.frozen held.laid_out.heap held.laid_out.blocks d h

  kept_all : (xs : List ℕ) → ((h : ℕ) → times h xs + (times h b.apart.firsts + times h (blocks_by b.theirs picture.frozen)) ≤ times h (positions (live old))) → AllByRecursion (KeepsBlock old new) xs
  kept_all xs f = each_there (KeepsBlock old new) xs (λ h some.
      let l = f h in
      let o = live-once old (word old allocator_word) held.laid_out.heap h in
      (others_linked (word old allocator_word) old new picture.table b.apart.firsts b.theirs cells picture.frozen held.laid_out.heap held.laid_out.blocks d h (omega arith)
      (omega (arith, times-append h b.apart.firsts (blocks_by b.theirs picture.frozen)))).whole.kept)

  pub laid_out_still : IsLaidOut new picture held.index_blocks
  laid_out_still = IsLaidOut-kept old new picture held.index_blocks held.laid_out d.frees.length_kept d.frees.front_kept d.frees.back_kept d.frees.heap
      (ownable_after (word old allocator_word) old new picture.table b.apart.firsts b.theirs cells picture.frozen held.laid_out.heap held.laid_out.blocks d)
      (kept_all held.index_blocks (λ h. omega (arith, b.counts h)))

  -- the image contains the other roots, and the frozen objects that remain
  pub held_without : (other : Picture) → other.table ≡ picture.table → owners_in other ≡ before ++ after → other.frozen ≡ picture.frozen → IsLaidOut new (without_cells cells other) held.index_blocks → IsHeld new (without_cells cells other)
  held_without other same_table split same laid_out =
      b.apart.becomes new (without_cells cells other) [] (map root_of_frozen rest) held.index_blocks [] (blocks_by b.theirs rest) same_table (owners_left other before after cells picture.frozen split same) laid_out
      (kept_all b.apart.around (λ h. omega (arith, b.counts h))) holds_no_root (roots_held new picture.table b.theirs rest d.holds)
      (λ h. omega (arith, b.counts h, counts_then h, times-append h held.index_blocks (b.apart.around ++ blocks_by b.theirs rest), times-append h b.apart.around (blocks_by b.theirs rest)))
