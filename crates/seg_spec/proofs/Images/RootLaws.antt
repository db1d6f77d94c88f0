-- Roots of an image may be replaced by others.
use Rattle.std.proofs.Common.{◌≡◌, ℕ, suc, ◌+◌, ◌-◌, ◌≤◌, inr, List, [], ◌∷◌, ◌++◌, length, map, Some, refl, sym, ap, ◌∙◌, subst, arith}
use Rattle.std.specs.List.{AllByRecursion}
use Rattle.std.proofs.lemmas.List.{append_assoc, append-nil}
use Rattle.seg_spec.specs.Bytes.{word, IsSame}
use Rattle.seg_spec.specs.Header.{version_word, next_word, sharing_version, IsVersion, units_word, allocator_word, index_kind_word, free_word, index_cell, reserved, reserved_size}
use Rattle.seg_spec.specs.Header.{types_start, types_size, uniques_start, uniques_size, back_start, back_size, KeepsFront, KeepsBack}
use Rattle.seg_spec.specs.Types.{Table, AreOfVersion}
use Rattle.seg_spec.specs.Value.{Value, Values, nil, cons, count}
use Rattle.seg_spec.specs.Heap.{heap_start, IsHeap, live}
use Rattle.seg_spec.specs.Block.{IsOwnable, KeepsBlock}
use Rattle.seg_spec.specs.Index.{Root, IsEntry, AreEntries, ListsNames, position_of, AreRising, ListsUniques}
use Rattle.seg_spec.specs.Sound.{Picture, frozen_roots, roots_of, IsPlain, HoldsRoot, HoldsRoots, holds_no_root, holds_more_roots, HasHeader, IsLaidOut, IsHeld}
use Rattle.seg_spec.specs.Roots.{Listed, by_name, by_type, loose, roots_in, with_roots, roots_before, roots_after, RootsComeApart, HasFace, RootComesApart}
use Rattle.seg_spec.proofs.SliceLaws.{IsSame-part}
use Rattle.seg_spec.proofs.Values.PlaceFrameLaws.{word-same, each_left, each_right}
use Rattle.seg_spec.proofs.Images.RootFrameLaws.{HoldsRoots-kept, ListsNames-kept, ListsUniques-kept}

-- ---- parts of a list of roots

module _ (bytes : List ℕ) (table : Table) where
  pub record RootsSplit (xs ys : List Root) (zs : List ℕ) : Type 0 where
    pub left : List ℕ
    pub right : List ℕ
    pub lefts : HoldsRoots bytes table xs left
    pub rights : HoldsRoots bytes table ys right
    pub blocks_are : zs ≡ left ++ right

  pub HoldsRoots-split : (xs ys : List Root) (zs : List ℕ) → HoldsRoots bytes table (xs ++ ys) zs → RootsSplit xs ys zs
  HoldsRoots-split [] ys zs h = record { left = []; right = zs; lefts = holds_no_root; rights = h; blocks_are = refl }
  HoldsRoots-split (x ∷ xs) ys zs (holds_more_roots {blocks = blocks} {rest = rest} h hs) =
      let s = HoldsRoots-split xs ys rest hs in
      record {
        left = blocks ++ s.left;
        right = s.right;
        lefts = holds_more_roots h s.lefts;
        rights = s.rights;
        blocks_are = ap (λ bs. blocks ++ bs) s.blocks_are ∙ sym (append_assoc blocks s.left s.right);
      }

  pub HoldsRoots-append : {xs ys : List Root} {left right : List ℕ} → HoldsRoots bytes table xs left → HoldsRoots bytes table ys right → HoldsRoots bytes table (xs ++ ys) (left ++ right)
  HoldsRoots-append holds_no_root k = k
  HoldsRoots-append {right = right} (holds_more_roots {blocks = blocks} {rest = rest} h hs) k = rw (append_assoc blocks rest right) (holds_more_roots h (HoldsRoots-append hs k))

  pub HoldsRoots-one : {root : Root} {blocks : List ℕ} → HoldsRoot bytes table root blocks → HoldsRoots bytes table (root ∷ []) blocks
  HoldsRoots-one {root = root} {blocks = blocks} h = subst (λ bs. HoldsRoots bytes table (root ∷ []) bs) (append-nil blocks) (holds_more_roots h holds_no_root)

  pub HoldsRoots-only : (root : Root) (blocks : List ℕ) → HoldsRoots bytes table (root ∷ []) blocks → HoldsRoot bytes table root blocks
  HoldsRoots-only root blocks (holds_more_roots {blocks = mine} h holds_no_root) = rw (append-nil mine) h

pub roots_with : (picture : Picture) (which : Listed) (before these after : List Root) → roots_of (with_roots picture which (before ++ (these ++ after))) ≡ roots_before picture which before ++ (these ++ roots_after picture which after)
roots_with picture by_name before these after = simp append_assoc
roots_with picture by_type before these after = simp append_assoc
roots_with picture loose before these after = simp append_assoc

pub roots_are : (picture : Picture) (which : Listed) (before these after : List Root) → roots_in picture which ≡ before ++ (these ++ after) → roots_of picture ≡ roots_before picture which before ++ (these ++ roots_after picture which after)
roots_are picture by_name before these after e = ap (λ rs. rs ++ (picture.uniques ++ (picture.loose ++ frozen_roots picture))) e ∙ roots_with picture by_name before these after
roots_are picture by_type before these after e = ap (λ rs. picture.names ++ (rs ++ (picture.loose ++ frozen_roots picture))) e ∙ roots_with picture by_type before these after
roots_are picture loose before these after e = ap (λ rs. picture.names ++ (picture.uniques ++ (rs ++ frozen_roots picture))) e ∙ roots_with picture loose before these after

pub table_kept : (picture : Picture) (which : Listed) (roots : List Root) → (with_roots picture which roots).table ≡ picture.table
table_kept picture by_name roots = refl
table_kept picture by_type roots = refl
table_kept picture loose roots = refl

-- ---- replacing some roots

pub roots_come_apart : (old : List ℕ) (picture : Picture) (held : IsHeld old picture) (before gone after : List Root) → roots_of picture ≡ before ++ (gone ++ after) → RootsComeApart old picture held before gone after
roots_come_apart old picture held before gone after e =
    let all : HoldsRoots old picture.table (before ++ (gone ++ after)) held.root_blocks = subst (λ rs. HoldsRoots old picture.table rs held.root_blocks) e held.roots in
    let s = HoldsRoots-split old picture.table before (gone ++ after) held.root_blocks all in
    let t = HoldsRoots-split old picture.table gone after s.right s.rights in
    record {
      left = s.left;
      its = t.left;
      right = t.right;
      blocks_are = s.blocks_are ∙ ap (λ bs. s.left ++ bs) t.blocks_are;
      holds_them = t.lefts;
      holds_before = s.lefts;
      holds_after = t.rights;
      becomes = λ new other come index_blocks others table roots laid_out kept holds owners. record {
        index_blocks = index_blocks;
        laid_out = laid_out;
        root_blocks = s.left ++ (others ++ t.right);
        roots =
            subst (λ tab. HoldsRoots new tab (roots_of other) (s.left ++ (others ++ t.right))) (sym table)
            (subst (λ rs. HoldsRoots new picture.table rs (s.left ++ (others ++ t.right))) (sym roots)
            (HoldsRoots-append new picture.table (HoldsRoots-kept old new picture.table held.laid_out.is_table s.lefts (each_left _ s.left t.right kept))
            (HoldsRoots-append new picture.table holds (HoldsRoots-kept old new picture.table held.laid_out.is_table t.rights (each_right _ s.left t.right kept)))));
        owners = owners;
      };
    }

-- ---- a root with the same face

IsEntry-faced : (bytes : List ℕ) (entry : ℕ) (root other : Root) → HasFace root other → IsEntry bytes entry root → IsEntry bytes entry other
IsEntry-faced bytes entry root other f o = record {
  no_words = f.same_words ∙ o.no_words;
  points = o.points ∙ ap Some (sym f.same_at);
  counted = o.counted ∙ sym f.same_count;
  measured = o.measured ∙ ap length (sym f.same_name);
  zero_is = o.zero_is;
  is_name = rw f.same_name o.is_name;
  some = rw f.same_count o.some;
  few = rw f.same_count o.few;
}

AreEntries-faced : (bytes : List ℕ) (entries : List ℕ) (before : List Root) (root other : Root) (after : List Root) → HasFace root other → AreEntries bytes entries (before ++ root ∷ after)
    → AreEntries bytes entries (before ++ other ∷ after)
AreEntries-faced bytes [] [] root other after f h = h
AreEntries-faced bytes (entry ∷ entries) [] root other after f h = (IsEntry-faced bytes entry root other f h.0, h.1)
AreEntries-faced bytes [] (b ∷ before) root other after f h = h
AreEntries-faced bytes (entry ∷ entries) (b ∷ before) root other after f h = (h.0, AreEntries-faced bytes entries before root other after f h.1)

pub names-faced : (before : List Root) (root other : Root) (after : List Root) → HasFace root other → map (λ (r : Root). r.name) (before ++ other ∷ after) ≡ map (λ (r : Root). r.name) (before ++ root ∷ after)
names-faced [] root other after f = ap (λ n. n ∷ map (λ (r : Root). r.name) after) f.same_name
names-faced (b ∷ before) root other after f = ap (λ ns. b.name ∷ ns) (names-faced before root other after f)

ListsNames-faced : (bytes : List ℕ) (blocks : List ℕ) (before : List Root) (root other : Root) (after : List Root) → HasFace root other → ListsNames bytes (before ++ root ∷ after) blocks → ListsNames bytes (before ++ other ∷ after) blocks
ListsNames-faced bytes blocks before root other after f l = record {
  index = l.index;
  opens = l.opens;
  entries = AreEntries-faced bytes l.index.entries before root other after f l.entries;
  ascending = rw (names-faced before root other after f) l.ascending;
  blocks_are = l.blocks_are;
}

position_of-faced : (before : List Root) (root other : Root) (after : List Root) (T : ℕ) → HasFace root other → position_of (before ++ other ∷ after) T ≡ position_of (before ++ root ∷ after) T
position_of-faced [] root other after T f = rw (f.same_at, f.same_type) refl
position_of-faced (b ∷ before) root other after T f = rw (position_of-faced before root other after T f) refl

AreRising-faced : (U : ℕ) (before : List Root) (root other : Root) (after : List Root) → HasFace root other → AreRising U (before ++ root ∷ after) → AreRising U (before ++ other ∷ after)
AreRising-faced U [] root other after f h = rw f.same_type h
AreRising-faced U (b ∷ before) root other after f h = (h.0, h.1, AreRising-faced (suc b.type) before root other after f h.2)

ListsUniques-faced : (bytes : List ℕ) (before : List Root) (root other : Root) (after : List Root) → HasFace root other → ListsUniques bytes (before ++ root ∷ after) → ListsUniques bytes (before ++ other ∷ after)
ListsUniques-faced bytes before root other after f l = record {
  words = λ T less. l.words T less ∙ sym (position_of-faced before root other after T f);
  rising = AreRising-faced 0 before root other after f l.rising;
}

one_value_of : (vs : Values) → count vs ≡ 1 → (v : Value) × (vs ≡ cons v nil)
one_value_of nil e = absurd (omega arith)
one_value_of (cons v nil) e = (v, refl)
one_value_of (cons v (cons w vs)) e = absurd (omega arith)

IsPlain-faced : (root other : Root) → HasFace root other → IsPlain root → IsPlain other
IsPlain-faced root other f p =
    let one : count other.values ≡ 1 = f.same_count ∙ ap count p.values_are in
    let it = one_value_of other.values one in
    record { no_name = f.same_name ∙ p.no_name; no_words = f.same_words ∙ p.no_words; value = it.0; values_are = it.1 }

plain-faced : (before : List Root) (root other : Root) (after : List Root) → HasFace root other → AllByRecursion IsPlain (before ++ root ∷ after) → AllByRecursion IsPlain (before ++ other ∷ after)
plain-faced [] root other after f h = (IsPlain-faced root other f h.0, h.1)
plain-faced (b ∷ before) root other after f h = (h.0, plain-faced before root other after f h.1)

-- ---- a well-formed image with the same header, types and index

HasHeader-numbered : (old new : List ℕ) → length new ≡ length old → KeepsFront old new → IsSame old new index_cell (heap_start - index_cell) → IsVersion (word old version_word) (word new next_word) → HasHeader old → HasHeader new
HasHeader-numbered old new len h k version o =
    let low = λ (at n : ℕ) (fits : at + n ≤ free_word). IsSame-part old new 0 free_word at n (omega arith) (omega arith) h in
    record {
      not_small = rw len o.not_small;
      not_large = rw len o.not_large;
      whole_units = rw len o.whole_units;
      magic = low 0 8 (omega arith) ∙ o.magic;
      version = subst (λ n. IsVersion n (word new next_word)) (sym (word-same old new version_word (low version_word 4 (omega arith)))) version;
      units_are = rw (word-same old new units_word (low units_word 4 (omega arith)), len) o.units_are;
      allocator_is = rw (word-same old new 16 (low 16 4 (omega arith))) o.allocator_is;
      index_is = rw (word-same old new 20 (low 20 4 (omega arith))) o.index_is;
      zeros = IsSame-part old new index_cell (heap_start - index_cell) reserved reserved_size (omega arith) (omega arith) k ∙ o.zeros;
    }

-- the heap is well-formed again, and the version allows the next number
module _ (old new : List ℕ) (picture : Picture) (index_blocks : List ℕ) (l : IsLaidOut old picture index_blocks) (len : length new ≡ length old) (h : KeepsFront old new) where
  laid_out_again : IsSame old new index_cell (heap_start - index_cell) → IsVersion (word old version_word) (word new next_word) → IsHeap (word old 16) new → AllByRecursion (λ b. IsOwnable new picture.table b.at) (live new)
      → AllByRecursion (KeepsBlock old new) index_blocks → IsLaidOut new picture index_blocks
  laid_out_again k version heap blocks kept =
      let allocator : word new allocator_word ≡ word old allocator_word = word-same old new allocator_word (IsSame-part old new 0 free_word allocator_word 4 (omega arith) (omega arith) h) in
      let back = λ (at n : ℕ) (above : index_cell ≤ at) (fits : at + n ≤ heap_start). IsSame-part old new index_cell (heap_start - index_cell) at n above (omega arith) k in
      record {
        header = HasHeader-numbered old new len h k version l.header;
        types = back types_start types_size (omega arith) (omega arith) ∙ l.types;
        is_table = l.is_table;
        of_version = subst (λ n. AreOfVersion n picture.table) (sym (word-same old new version_word (IsSame-part old new 0 free_word version_word 4 (omega arith) (omega arith) h))) l.of_version;
        heap = rw allocator heap;
        blocks = blocks;
        names = ListsNames-kept old new picture.names index_blocks (IsSame-part old new 0 free_word index_kind_word 4 (omega arith) (omega arith) h) (back index_cell 8 (omega arith) (omega arith)) kept l.names;
        uniques = ListsUniques-kept old new picture.uniques (back uniques_start uniques_size (omega arith) (omega arith)) l.uniques;
        plain = l.plain;
      }

-- the next number is kept
pub IsLaidOut-kept : (old new : List ℕ) (picture : Picture) (index_blocks : List ℕ) → IsLaidOut old picture index_blocks → length new ≡ length old → KeepsFront old new → KeepsBack old new
    → IsHeap (word old 16) new → AllByRecursion (λ b. IsOwnable new picture.table b.at) (live new) → AllByRecursion (KeepsBlock old new) index_blocks → IsLaidOut new picture index_blocks
IsLaidOut-kept old new picture index_blocks l len h k =
    let next : word new next_word ≡ word old next_word = word-same old new next_word (IsSame-part old new back_start back_size next_word 4 (omega arith) (omega arith) k) in
    laid_out_again old new picture index_blocks l len h (IsSame-part old new back_start back_size index_cell (heap_start - index_cell) (omega arith) (omega arith) k)
    (subst (IsVersion (word old version_word)) (sym next) l.header.version)

-- the next number changes, in the version that may have frozen objects
pub IsLaidOut-numbered : (old new : List ℕ) (picture : Picture) (index_blocks : List ℕ) → IsLaidOut old picture index_blocks → length new ≡ length old → KeepsFront old new → word old version_word ≡ sharing_version
    → IsSame old new index_cell (heap_start - index_cell) → IsHeap (word old 16) new → AllByRecursion (λ b. IsOwnable new picture.table b.at) (live new) → AllByRecursion (KeepsBlock old new) index_blocks
    → IsLaidOut new picture index_blocks
IsLaidOut-numbered old new picture index_blocks l len h sharing k = laid_out_again old new picture index_blocks l len h k (inr sharing)

-- one root is replaced by another with the same face
pub IsLaidOut-faced : (bytes : List ℕ) (picture : Picture) (index_blocks : List ℕ) (which : Listed) (before : List Root) (root other : Root) (after : List Root) → roots_in picture which ≡ before ++ root ∷ after → HasFace root other
    → IsLaidOut bytes picture index_blocks → IsLaidOut bytes (with_roots picture which (before ++ other ∷ after)) index_blocks
IsLaidOut-faced bytes picture index_blocks by_name before root other after e f l = record {
  header = l.header;
  types = l.types;
  is_table = l.is_table;
  of_version = l.of_version;
  heap = l.heap;
  blocks = l.blocks;
  names = ListsNames-faced bytes index_blocks before root other after f (subst (λ rs. ListsNames bytes rs index_blocks) e l.names);
  uniques = l.uniques;
  plain = l.plain;
}
IsLaidOut-faced bytes picture index_blocks by_type before root other after e f l = record {
  header = l.header;
  types = l.types;
  is_table = l.is_table;
  of_version = l.of_version;
  heap = l.heap;
  blocks = l.blocks;
  names = l.names;
  uniques = ListsUniques-faced bytes before root other after f (subst (λ rs. ListsUniques bytes rs) e l.uniques);
  plain = subst (λ rs. AllByRecursion IsPlain rs) (sym (append_assoc before (other ∷ after) picture.loose))
      (plain-faced before root other (after ++ picture.loose) f (subst (λ rs. AllByRecursion IsPlain rs) (ap (λ rs. rs ++ picture.loose) e ∙ append_assoc before (root ∷ after) picture.loose) l.plain));
}
IsLaidOut-faced bytes picture index_blocks loose before root other after e f l = record {
  header = l.header;
  types = l.types;
  is_table = l.is_table;
  of_version = l.of_version;
  heap = l.heap;
  blocks = l.blocks;
  names = l.names;
  uniques = l.uniques;
  plain = subst (λ rs. AllByRecursion IsPlain rs) (append_assoc picture.uniques before (other ∷ after))
      (plain-faced (picture.uniques ++ before) root other after f (subst (λ rs. AllByRecursion IsPlain rs) (ap (λ rs. picture.uniques ++ rs) e ∙ sym (append_assoc picture.uniques before (root ∷ after))) l.plain));
}

-- ---- a root changes

pub root_comes_apart : (old : List ℕ) (picture : Picture) (held : IsHeld old picture) (which : Listed) (before : List Root) (root : Root) (after : List Root) → roots_in picture which ≡ before ++ root ∷ after
    → RootComesApart old picture held which before root after
root_comes_apart old picture held which before root after e =
    let s = roots_come_apart old picture held (roots_before picture which before) (root ∷ []) (roots_after picture which after) (roots_are picture which before (root ∷ []) after e) in
    record {
      left = s.left;
      its = s.its;
      right = s.right;
      blocks_are = s.blocks_are;
      holds_it = HoldsRoots-only old picture.table root s.its s.holds_them;
      holds_before = s.holds_before;
      holds_after = s.holds_after;
      becomes = λ new other others face len low high heap blocks kept holds owners.
          s.becomes new (with_roots picture which (before ++ other ∷ after)) (other ∷ []) held.index_blocks others (table_kept picture which (before ++ other ∷ after)) (roots_with picture which before (other ∷ []) after)
          (IsLaidOut-faced new picture held.index_blocks which before root other after e face
          (IsLaidOut-kept old new picture held.index_blocks held.laid_out len low high heap blocks (each_left _ held.index_blocks _ kept)))
          (each_right _ held.index_blocks _ kept) (HoldsRoots-one new picture.table holds) owners;
    }

-- the loose objects are replaced by others
pub IsLaidOut-loose : (bytes : List ℕ) (picture : Picture) (index_blocks : List ℕ) (roots : List Root) → AllByRecursion IsPlain roots → IsLaidOut bytes picture index_blocks → IsLaidOut bytes (with_roots picture loose roots) index_blocks
IsLaidOut-loose bytes picture index_blocks roots plain l = record {
  header = l.header;
  types = l.types;
  is_table = l.is_table;
  of_version = l.of_version;
  heap = l.heap;
  blocks = l.blocks;
  names = l.names;
  uniques = l.uniques;
  plain = joined picture.uniques (each_left IsPlain picture.uniques picture.loose l.plain);
}
  where
    joined : (us : List Root) → AllByRecursion IsPlain us → AllByRecursion IsPlain (us ++ roots)
    joined [] a = plain
    joined (u ∷ us) a = (a.0, joined us a.1)
