-- The picture of an image after an object was added to its index, or removed.
--     laid_out_named      an image whose index lists other names is laid out for these
--     held_entered        an object apart from the image that is added to the index becomes one of the image's
use Rattle.std.proofs.Common.{◌≡◌, ℕ, ◌+◌, ◌≤◌, List, [], ◌∷◌, ◌++◌, length, refl, sym, ap, ◌∙◌, subst, append_assoc, arith}
use Rattle.std.specs.List.{AllByRecursion}
use Rattle.seg_spec.specs.Bytes.{word}
use Rattle.seg_spec.specs.Header.{allocator_word, index_kind_word, version_word, next_word, IsVersion, units_word, reserved, reserved_size, types_start, types_size, uniques_start, uniques_size, KeepsFront, KeepsBack}
use Rattle.seg_spec.specs.Types.{Table, AreOfVersion}
use Rattle.seg_spec.specs.Heap.{Span, IsHeap, live}
use Rattle.seg_spec.specs.Block.{KeepsBlock}
use Rattle.seg_spec.specs.Index.{Root}
use Rattle.seg_spec.specs.Sound.{Picture, HoldsRoot, HoldsRoots, holds_no_root, HasHeader, IsLaidOut, IsHeld, times, positions, frozen_roots}
use Rattle.seg_spec.specs.Roots.{RootsComeApart}
use Rattle.seg_spec.proofs.SliceLaws.{IsSame-part}
use Rattle.seg_spec.proofs.Heap.BlockFrameLaws.{kept_twice}
use Rattle.seg_spec.proofs.Values.PlaceFrameLaws.{word-same}
use Rattle.seg_spec.proofs.Heap.LiveBlockLaws.{each_there, times-append, live-once}
use Rattle.seg_spec.proofs.Images.RootFrameLaws.{HoldsRoot-kept, ListsUniques-kept}
use Rattle.seg_spec.proofs.Images.RootLaws.{roots_come_apart, HoldsRoots-one, IsLaidOut-kept}
use Rattle.seg_index.specs.Lists.{FindsNamesOf, ChangesNames, EntersName}

-- the picture with other names
abbrev pub with_names : Picture → List Root → Picture
with_names picture names = record picture { names = names }

header_named : (old new : List ℕ) (table : Table) (spans : List Span) (blocks : List ℕ) (names : List Root) (others : List ℕ) → ChangesNames old new table spans blocks names others → HasHeader old → HasHeader new
header_named old new table spans blocks names others c o =
    let same = λ (at : ℕ) (fits : at + 4 ≤ 24). word-same old new at (IsSame-part old new 0 24 at 4 (omega arith) fits c.front_kept) in
    record {
      not_small = rw c.length_kept o.not_small;
      not_large = rw c.length_kept o.not_large;
      whole_units = rw c.length_kept o.whole_units;
      magic = IsSame-part old new 0 24 0 8 (omega arith) (omega arith) c.front_kept ∙ o.magic;
      version = subst (λ n. IsVersion n (word new next_word)) (sym (same version_word (omega arith)))
          (subst (IsVersion (word old version_word)) (sym (word-same old new next_word c.middle_kept)) o.version);
      units_are = rw (same units_word (omega arith), c.length_kept) o.units_are;
      allocator_is = rw (same allocator_word (omega arith)) o.allocator_is;
      index_is = rw (same index_kind_word (omega arith)) o.index_is;
      zeros = IsSame-part old new reserved 664 reserved reserved_size (omega arith) (omega arith) c.back_kept ∙ o.zeros;
    }

pub laid_out_named : (old new : List ℕ) (picture : Picture) (blocks : List ℕ) (spans : List Span) (names : List Root) (others : List ℕ) → IsLaidOut old picture blocks → ChangesNames old new picture.table spans blocks names others
    → IsLaidOut new (with_names picture names) others
laid_out_named old new picture blocks spans names others l c =
    let allocator : word new allocator_word ≡ word old allocator_word = word-same old new allocator_word (IsSame-part old new 0 24 allocator_word 4 (omega arith) (omega arith) c.front_kept) in
    record {
      header = header_named old new picture.table spans blocks names others c l.header;
      types = IsSame-part old new reserved 664 types_start types_size (omega arith) (omega arith) c.back_kept ∙ l.types;
      is_table = l.is_table;
      of_version = subst (λ n. AreOfVersion n picture.table) (sym (word-same old new version_word (IsSame-part old new 0 24 version_word 4 (omega arith) (omega arith) c.front_kept))) l.of_version;
      heap = rw allocator c.heap;
      blocks = c.ownable;
      names = c.lists;
      uniques = ListsUniques-kept old new picture.uniques (IsSame-part old new reserved 664 uniques_start uniques_size (omega arith) (omega arith) c.back_kept) l.uniques;
      plain = l.plain;
    }

no_blocks : (bytes : List ℕ) (table : Table) (blocks : List ℕ) → HoldsRoots bytes table [] blocks → blocks ≡ []
no_blocks bytes table _ holds_no_root = refl

-- ---- an object is added

module _ (allocator : ℕ) (old mid new : List ℕ) (picture : Picture) (held : IsHeld old picture) (allocator_is : word old allocator_word ≡ allocator) (root : Root) (its : List ℕ)
    (length_kept : length mid ≡ length old) (front : KeepsFront old mid) (back : KeepsBack old mid)
    (kept : (h : ℕ) → 1 ≤ times h (positions (live old)) → KeepsBlock old mid h) (holds : HoldsRoot mid picture.table root its) (counts : (h : ℕ) → times h (positions (live mid)) ≡ times h its + times h (positions (live old)))
    (f : FindsNamesOf allocator mid picture.table picture.names held.index_blocks) (e : EntersName allocator mid new picture.table picture.names held.index_blocks root) where
  abbrev rest : List Root
  rest = picture.uniques ++ (picture.loose ++ frozen_roots picture)

  apart : RootsComeApart old picture held e.before [] (e.after ++ rest)
  apart = roots_come_apart old picture held e.before [] (e.after ++ rest) (ap (λ ns. ns ++ rest) e.names_are ∙ append_assoc e.before e.after rest)

  owned : (h : ℕ) → times h (positions (live old)) ≡ times h held.index_blocks + times h (apart.left ++ apart.right)
  owned h =
      let a = held.owners h in
      let b = times-append h held.index_blocks held.root_blocks in
      let c : times h held.root_blocks ≡ times h (apart.left ++ apart.right) = ap (times h) (apart.blocks_are ∙ ap (λ bs. apart.left ++ (bs ++ apart.right)) (no_blocks old picture.table apart.its apart.holds_them)) in
      omega arith

  mid_once : (h : ℕ) → times h (positions (live mid)) ≤ 1
  mid_once h = live-once mid allocator f.heap h

  laid_out : IsLaidOut new (with_names picture (e.before ++ root ∷ e.after)) e.others
  laid_out = laid_out_named mid new picture held.index_blocks e.left (e.before ++ root ∷ e.after) e.others
      (IsLaidOut-kept old mid picture held.index_blocks held.laid_out length_kept front back (subst (λ a. IsHeap a mid) (sym allocator_is) f.heap) f.ownable
      (each_there (KeepsBlock old mid) held.index_blocks (λ h some. kept h (let o = owned h in omega arith)))) e.changes

  others_kept : AllByRecursion (KeepsBlock old new) (apart.left ++ apart.right)
  others_kept = each_there (KeepsBlock old new) (apart.left ++ apart.right) (λ h some.
      let o = owned h in
      let c = counts h in
      let m = mid_once h in
      kept_twice old mid new h (kept h (omega arith)) (e.changes.kept h (omega arith) (omega arith)))

  its_kept : AllByRecursion (KeepsBlock mid new) its
  its_kept = each_there (KeepsBlock mid new) its (λ h some.
      let o = owned h in
      let c = counts h in
      let m = mid_once h in
      e.changes.kept h (omega arith) (omega arith))

  -- the image contains the object as one of its named objects
  pub held_entered : IsHeld new (with_names picture (e.before ++ root ∷ e.after))
  held_entered = apart.becomes new (with_names picture (e.before ++ root ∷ e.after)) (root ∷ []) e.others its refl (append_assoc e.before (root ∷ e.after) rest) laid_out others_kept
      (HoldsRoots-one new picture.table (HoldsRoot-kept mid new picture.table held.laid_out.is_table root its its_kept holds)) (λ h.
      let o = owned h in
      let c = counts h in
      let l = e.changes.live_are h in
      let a = times-append h e.others (apart.left ++ (its ++ apart.right)) in
      let b = times-append h apart.left (its ++ apart.right) in
      let d = times-append h its apart.right in
      let i = times-append h apart.left apart.right in
      omega arith)
