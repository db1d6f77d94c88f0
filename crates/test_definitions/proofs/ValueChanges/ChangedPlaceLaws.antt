-- An instruction that changes one place, the blocks of its value, and perhaps frozen objects: every other
-- root with an owner persists, and in the place's own root everything around the place.
use Rattle.std.proofs.Common.{◌≡◌, ℕ, ◌+◌, ◌*◌, ◌<◌, ◌≤◌, ◌⊎◌, inl, inr, List, [], ◌∷◌, ◌++◌, Some, refl, sym, ap, ◌∙◌, subst, arith}
use Rattle.std.specs.List.{AllByRecursion}
use Rattle.seg_spec.specs.Bytes.{word}
use Rattle.seg_spec.specs.Header.{allocator_word, next_word}
use Rattle.seg_spec.specs.Types.{Table, size}
use Rattle.seg_spec.specs.Value.{Value, count, with_value_at}
use Rattle.seg_spec.specs.Heap.{live, units_at, tag_at}
use Rattle.seg_spec.specs.Block.{block_of, KeepsBlock}
use Rattle.seg_spec.specs.Reads.{Place, Holds, items}
use Rattle.seg_spec.specs.Parts.{PersistEach}
use Rattle.seg_spec.specs.Apart.{KeepsBlockAround}
use Rattle.seg_spec.specs.Index.{Root}
use Rattle.seg_spec.specs.Frozen.{Frozen}
use Rattle.seg_spec.specs.Sound.{Picture, IsHeld, HoldsRoot, HoldsRoots, payload_of, frozen_roots, times, positions}
use Rattle.seg_spec.specs.Roots.{Listed, roots_in, with_roots, with_item, roots_before, roots_after, RootComesApart, PartComesApart}
use Rattle.seg_spec.proofs.Values.OneValueLaws.{Holds-one, HoldsEach-one}
use Rattle.seg_spec.proofs.Values.PartPositionLaws.{separate_parts}
use Rattle.seg_spec.proofs.Values.PlaceFrameLaws.{each_left, each_right}
use Rattle.seg_spec.proofs.Values.PutLaws.{kept_whole}
use Rattle.seg_spec.proofs.Heap.LiveBlockLaws.{OneOrApart, times-append, times-same, there, each_there, live-apart, live-once}
use Rattle.seg_spec.proofs.Images.RootFrameLaws.{HoldsRoot-kept}
use Rattle.seg_spec.proofs.Images.RootLaws.{roots_are, root_comes_apart}
use Rattle.seg_spec.specs.Shared.{names_in, names_each, IsBelow, IsCounted, raised_by, left}
use Rattle.seg_spec.specs.Counting.{cells_in, owners_in}
use Rattle.seg_spec.proofs.Frozen.PartCountLaws.{SameNames, owners_after, owners_are, owners_with, beside_part, root_names, root_names_then, counted_then, counted_shared}
use Rattle.seg_spec.proofs.Images.RootPartLaws.{part_comes_apart}
use Rattle.client_spec.specs.Machine.{Path, State, at_origin}
use Rattle.client_spec.specs.Pictures.{Pictures, LeadsInImage}
use Rattle.client_sim.proofs.Objects.PictureLaws.{looks_of, begins_in}
use Rattle.client_sim.proofs.Places.RootPutLaws.{RootFound, root_for}
use Rattle.test_definitions.proofs.Alike.AlikeRootLaws.{nth_inside}
use Rattle.test_definitions.proofs.Frozen.FrozenApartLaws.{FrozenApart, frozen_apart, among_either, owner_in_roots}
use Rattle.test_definitions.proofs.Alike.RootMemberLaws.{IsAmong, among_left, among_right, counts, owns}
use Rattle.test_definitions.proofs.ValueChanges.RootPersistLaws.{root_persists, blocks_apart, RootStays, root_stays}

-- the root's values persist, its block keeps its tag, and it is still contained
pub record RootKept (old new : List ℕ) (table : Table) (root : Root) : Type 0 where
  pub persists : PersistEach old new table (items table root.at root.type (count root.values)) (items table root.at root.type (count root.values))
  pub tag_kept : tag_at new (block_of (payload_of root)) ≡ tag_at old (block_of (payload_of root))
  pub blocks : List ℕ
  pub was_held : HoldsRoot old table root blocks
  pub still : HoldsRoot new table root blocks

pub among_one : (r root : Root) (before after : List Root) → IsAmong r (before ++ root ∷ after) → (r ≡ root) ⊎ (IsAmong r before ⊎ IsAmong r after)
among_one r root [] after (inl e) = inl e
among_one r root [] after (inr i) = inr (inr i)
among_one r root (b ∷ before) after (inl e) = inr (inl (inl e))
among_one r root (b ∷ before) after (inr i) = elim (among_one r root before after i) [ inl e ↦ inl e | inr j ↦ inr (elim j [ inl k ↦ inl (inr k) | inr k ↦ inr k ]) ]

-- the bytes determine which blocks a root owns
pub holds_one : (bytes : List ℕ) (table : Table) (r : Root) {xs ys : List ℕ} → HoldsRoot bytes table r xs → HoldsRoot bytes table r ys → xs ≡ ys
holds_one bytes table r h k = h.blocks_are ∙ ap (λ zs. block_of (payload_of r) ∷ zs) (HoldsEach-one bytes table h.values k.values).1 ∙ sym k.blocks_are

-- a root whose blocks are kept
root_kept : (old new : List ℕ) (picture : Picture) (held : IsHeld old picture) (r : Root) (blocks : List ℕ) → HoldsRoot old picture.table r blocks → AllByRecursion (KeepsBlock old new) blocks → RootKept old new picture.table r
root_kept old new picture held r blocks h kept =
    let first : AllByRecursion (KeepsBlock old new) (block_of (payload_of r) ∷ h.inside) = subst (AllByRecursion (KeepsBlock old new)) h.blocks_are kept in
    record {
      persists = root_persists old new picture.table held.laid_out.is_table r blocks kept h;
      tag_kept = first.0.has_tag;
      blocks = blocks;
      was_held = h;
      still = HoldsRoot-kept old new picture.table held.laid_out.is_table r blocks kept h;
    }

-- Each allocated block that is neither in `its` nor a block of a frozen object is kept around the place.
abbrev pub KeepsOwners : {others : List Root} {s : State} {old : List ℕ} → Pictures others s old → List ℕ → Place → List ℕ → Type 0
KeepsOwners {old = old} p new place its = (h : ℕ) → 1 ≤ times h (positions (live old)) → times h its ≡ 0 → times h (frozen_apart old p.picture p.held).frozen ≡ 0
    → KeepsBlockAround old new place.at (size p.picture.table place.type) h

module _ {others : List Root} {s : State} {old : List ℕ} (p : Pictures others s old) (new : List ℕ) (path : Path) (place : Place) (l : LeadsInImage p path place) (found : Value × ℕ) (begins : at_origin s path.origin ≡ Some found)
    {value : Value} (its : List ℕ) (holds_it : Holds old p.picture.table place value its) (kept : KeepsOwners p new place its) where
  abbrev pub root_found : RootFound (looks_of p) path.origin l.root l.item found.0
  root_found = root_for (looks_of p) path.origin l.root l.item found.0 found.1 (sym (begins_in p path.origin) ∙ l.begins) begins

  abbrev pub apart : RootComesApart old p.picture p.held root_found.which root_found.before l.root root_found.after
  apart = root_comes_apart old p.picture p.held root_found.which root_found.before l.root root_found.after root_found.among

  -- the root isn't a frozen object
  pub own_owner : IsAmong l.root (owners_in p.picture)
  own_owner = by root_found.which (subst (IsAmong l.root) (sym root_found.among) (among_right l.root root_found.before (l.root ∷ root_found.after) (inl refl)))
    where
      by : (which : Listed) → IsAmong l.root (roots_in p.picture which) → IsAmong l.root (owners_in p.picture)
      by Listed.by_name i = among_left l.root p.picture.names (p.picture.uniques ++ p.picture.loose) i
      by Listed.by_type i = among_right l.root p.picture.names (p.picture.uniques ++ p.picture.loose) (among_left l.root p.picture.uniques p.picture.loose i)
      by Listed.loose i = among_right l.root p.picture.names (p.picture.uniques ++ p.picture.loose) (among_right l.root p.picture.uniques p.picture.loose i)

  -- the frozen objects are apart from the other objects
  abbrev pub beside_frozen : FrozenApart old p.picture p.held
  beside_frozen = frozen_apart old p.picture p.held

  -- no frozen object owns a block of the root
  pub its_owned : (h : ℕ) → times h apart.its ≤ times h beside_frozen.owners
  its_owned h =
      let o = owns old p.picture p.held l.root beside_frozen.holds_owners own_owner in
      omega (arith, o.fewer h, ap (times h) (holds_one old p.picture.table l.root apart.holds_it o.holds_it))

  -- how often a block occurs in the image, in the root's blocks, and in the other roots' blocks
  pub in_all : (h : ℕ) → times h (positions (live old)) ≡ times h p.held.index_blocks + (times h apart.left + (times h apart.its + times h apart.right))
  in_all h = (
      let a = counts old p.picture p.held h in
      let b = ap (times h) apart.blocks_are ∙ times-append h apart.left (apart.its ++ apart.right) in
      let c = times-append h apart.its apart.right in
      omega arith)

  pub once : (h : ℕ) → times h (positions (live old)) ≤ 1
  once = live-once old (word old allocator_word) p.held.laid_out.heap

  pub within : l.item < count l.root.values
  within = nth_inside l.root.values l.item found.0 root_found.item_is

  part : PartComesApart old p.picture.table l.root apart.its l.item path.selectors place
  part = part_comes_apart old p.picture.table p.held.laid_out.is_table l.root apart.its apart.holds_it
      (blocks_apart old (word old allocator_word) p.held.laid_out.heap apart.its (λ h. omega (arith, in_all h))) l.item within path.selectors place l.leads

  its_are : (h : ℕ) → times h apart.its ≡ times h (part.left ++ part.right) + times h its
  its_are h = (
      let same : its ≡ part.its = (Holds-one old p.picture.table holds_it part.holds_it).1 in
      let a = ap (times h) part.blocks_are ∙ times-append h part.left (part.its ++ part.right) in
      let b = times-append h part.its part.right in
      let c = times-append h part.left part.right in
      let d = ap (times h) same in
      omega arith)

  pub its_within : (h : ℕ) → times h its ≤ times h apart.its
  its_within h = omega (arith, its_are h)

  -- a block of another root with an owner, or of the index, is kept whole
  beside : (h : ℕ) → 1 ≤ times h (positions (live old)) → times h apart.its ≡ 0 → times h beside_frozen.frozen ≡ 0 → KeepsBlock old new h
  beside h some none none_frozen =
      let home = part.home in
      let all = positions (live old) in
      let home_its : 1 ≤ times home apart.its = omega (arith, part.home_is, its_are home) in
      let home_live : 1 ≤ times home all = omega (arith, in_all home, home_its) in
      let pairs = live-apart old (word old allocator_word) p.held.laid_out.heap in
      let pair = there (OneOrApart old h) home all (there (λ t. AllByRecursion (OneOrApart old t) all) h all pairs some) home_live in
      let around = kept h some (omega (arith, its_are h, none)) none_frozen in
      let n = size p.picture.table place.type in
      let inside = part.lies_in in
      kept_whole old new p.picture.table p.held.laid_out.is_table place.at n h around (elim pair [
        | inl e ↦ absurd (omega (arith, home_its, none, ap (λ k. times k apart.its) e))
        | inr away ↦ separate_parts h (16 * units_at old h) home (16 * units_at old home) h (16 * units_at old h) place.at n (omega arith) (omega arith) (omega (arith, inside.low)) (omega (arith, inside.high)) away
      ])

  pub index_kept : AllByRecursion (KeepsBlock old new) p.held.index_blocks
  index_kept = each_there (KeepsBlock old new) p.held.index_blocks (λ h some. beside h (omega (arith, in_all h, some)) (omega (arith, in_all h, some, once h)) (omega (arith, beside_frozen.counts h, some, once h)))

  -- the place's own root
  pub own_root : RootStays old new p.picture.table l.root l.item path.selectors place
  own_root = root_stays old new p.picture.table p.held.laid_out.is_table l.root apart.its apart.holds_it (blocks_apart old (word old allocator_word) p.held.laid_out.heap apart.its (λ h. omega (arith, in_all h)))
      (λ h. omega (arith, in_all h, once h)) l.item within path.selectors place l.leads its holds_it (λ h some none. kept h (omega (arith, in_all h, some)) none (omega (arith, beside_frozen.counts h, its_owned h, some, once h)))

  -- the root, with another value at the place
  pub record OwnThen (w : Value) (news : List ℕ) : Type 0 where
    pub left : List ℕ
    pub right : List ℕ
    pub holds_then : HoldsRoot new p.picture.table (with_item l.root l.item (with_value_at path.selectors w)) (left ++ (news ++ right))
    -- the other blocks of the root were its blocks, and aren't blocks of the old value
    pub around : (h : ℕ) → 1 ≤ times h (left ++ right) → (1 ≤ times h apart.its) × (times h its ≡ 0)
    pub all_around : (h : ℕ) → 1 ≤ times h apart.its → times h its ≡ 0 → 1 ≤ times h (left ++ right)

  pub own_root_then : {w : Value} {news : List ℕ} → Holds new p.picture.table place w news → OwnThen w news
  own_root_then {w = w} {news = news} h = record {
    left = part.left;
    right = part.right;
    holds_then = part.becomes new w news
        (each_there (KeepsBlockAround old new place.at (size p.picture.table place.type)) (part.left ++ part.right)
        (λ b some. kept b (omega (arith, its_are b, in_all b, some)) (omega (arith, its_are b, in_all b, some, once b)) (omega (arith, its_are b, beside_frozen.counts b, its_owned b, some, once b)))) h;
    around = λ h some. (omega (arith, its_are h, some), omega (arith, its_are h, in_all h, some, once h));
    all_around = λ h some none. omega (arith, its_are h, some, none);
  }

  -- its values have the shared cells of the new value, and some of those that they had
  pub own_below : (n : ℕ) (fs : List Frozen) → AllByRecursion (IsBelow n fs) (names_each l.root.values) → (w : Value) → AllByRecursion (IsBelow n fs) (names_in w)
      → AllByRecursion (IsBelow n fs) (names_each (with_item l.root l.item (with_value_at path.selectors w)).values)
  own_below n fs before w these =
      let was = root_names l.root l.item part.item part.item_is path.selectors part.value part.value_is in
      let then_is = root_names_then l.root l.item part.item part.item_is path.selectors part.value part.value_is w in
      let others = beside_part l.root l.item part.item part.item_is path.selectors part.value part.value_is in
      then_is.below n fs (both_below (names_in w) others these (each_right (IsBelow n fs) (names_in part.value) others (was.below n fs before)))
    where
      both_below : (xs ys : List Place) → AllByRecursion (IsBelow n fs) xs → AllByRecursion (IsBelow n fs) ys → AllByRecursion (IsBelow n fs) (xs ++ ys)
      both_below [] ys a b = b
      both_below (x ∷ xs) ys a b = (a.0, both_below xs ys a.1 b)

  -- the root's shared cells include the old value's
  pub value_below : (n : ℕ) (fs : List Frozen) → AllByRecursion (IsBelow n fs) (names_each l.root.values) → AllByRecursion (IsBelow n fs) (names_in value)
  value_below n fs before =
      let was = root_names l.root l.item part.item part.item_is path.selectors part.value part.value_is in
      let others = beside_part l.root l.item part.item part.item_is path.selectors part.value part.value_is in
      let same : value ≡ part.value = (Holds-one old p.picture.table holds_it part.holds_it).0 in
      subst (λ v. AllByRecursion (IsBelow n fs) (names_in v)) (sym same) (each_left (IsBelow n fs) (names_in part.value) others (was.below n fs before))

  -- blocks of the index aren't among the blocks of the place, nor of frozen objects
  pub index_beside : (h : ℕ) → 1 ≤ times h p.held.index_blocks → (1 ≤ times h (positions (live old))) × (times h its ≡ 0) × (times h beside_frozen.frozen ≡ 0)
  index_beside h some = (omega (arith, in_all h, some), omega (arith, in_all h, some, once h, its_are h), omega (arith, beside_frozen.counts h, some, once h))

  pub own_head : 1 ≤ times (block_of (payload_of l.root)) apart.its
  own_head = (
      let one = ap (times (block_of (payload_of l.root))) apart.holds_it.blocks_are in
      omega (arith, one, times-same (block_of (payload_of l.root)) apart.holds_it.inside))

  -- each other root with an owner
  pub record OtherRoot (r : Root) : Type 0 where
    pub is_kept : RootKept old new p.picture.table r
    pub other : r ≡ l.root → ⊥
    -- the place's own root doesn't own its blocks, and no frozen object does
    pub blocks_beside : (h : ℕ) → 1 ≤ times h is_kept.blocks → (1 ≤ times h (positions (live old))) × (times h apart.its ≡ 0) × (times h beside_frozen.frozen ≡ 0)

  -- a root with an owner, whose blocks are among others
  other_root : (r : Root) → IsAmong r (owners_in p.picture) → {roots : List Root} {blocks : List ℕ} → HoldsRoots old p.picture.table roots blocks → IsAmong r roots
      → ((h : ℕ) → times h blocks + times h apart.its ≤ times h (positions (live old))) → OtherRoot r
  unfolding root_kept
  other_root r i hs j fewer =
      let o = owns old p.picture p.held r hs j in
      let u = owns old p.picture p.held r beside_frozen.holds_owners i in
      let same : (h : ℕ) → times h o.its ≤ times h beside_frozen.owners = λ h. omega (arith, u.fewer h, ap (times h) (holds_one old p.picture.table r o.holds_it u.holds_it)) in
      let around : (h : ℕ) → 1 ≤ times h o.its → (1 ≤ times h (positions (live old))) × (times h apart.its ≡ 0) × (times h beside_frozen.frozen ≡ 0)
      = λ h some. (omega (arith, some, o.fewer h, fewer h), omega (arith, some, o.fewer h, fewer h, once h), omega (arith, some, same h, beside_frozen.counts h, once h)) in
      record {
        is_kept = root_kept old new p.picture p.held r o.its o.holds_it (each_there (KeepsBlock old new) o.its (λ h some. let a = around h some in beside h a.0 a.1 a.2));
        blocks_beside = around;
        other = λ e. (
            let h = block_of (payload_of l.root) in
            let head = ap (times (block_of (payload_of r))) o.holds_it.blocks_are in
            let there_is = subst (λ (x : Root). 1 ≤ times (block_of (payload_of x)) o.its) e (omega (arith, head, times-same (block_of (payload_of r)) o.holds_it.inside)) in
            omega (arith, there_is, own_head, o.fewer h, fewer h, once h));
      }

  pub each_owner : (r : Root) → IsAmong r (owners_in p.picture) → (r ≡ l.root) ⊎ OtherRoot r
  each_owner r i =
      let which = root_found.which in
      let all = roots_are p.picture which root_found.before (l.root ∷ []) root_found.after root_found.among in
      elim (among_one r l.root (roots_before p.picture which root_found.before) (roots_after p.picture which root_found.after) (subst (IsAmong r) all (owner_in_roots p.picture r i))) [
        | inl e ↦ inl e
        | inr (inl j) ↦ inr (other_root r i apart.holds_before j (λ h. omega (arith, in_all h)))
        | inr (inr j) ↦ inr (other_root r i apart.holds_after j (λ h. omega (arith, in_all h)))
      ]

  -- ---- the owners beside the place's root

  abbrev pub first_owners : List Root
  first_owners = roots_before p.picture root_found.which root_found.before

  abbrev pub last_owners : List Root
  last_owners = owners_after p.picture root_found.which root_found.after

  owners_split : owners_in p.picture ≡ first_owners ++ l.root ∷ last_owners
  owners_split = owners_are p.picture root_found.which root_found.before (l.root ∷ []) root_found.after root_found.among

  pub first_owner : (r : Root) → IsAmong r first_owners → IsAmong r (owners_in p.picture)
  first_owner r i = subst (IsAmong r) (sym owners_split) (among_left r first_owners (l.root ∷ last_owners) i)

  pub last_owner : (r : Root) → IsAmong r last_owners → IsAmong r (owners_in p.picture)
  last_owner r i = subst (IsAmong r) (sym owners_split) (among_right r first_owners (l.root ∷ last_owners) (inr i))

  pub first_other : (r : Root) → IsAmong r first_owners → OtherRoot r
  first_other r i = other_root r (first_owner r i) apart.holds_before i (λ h. omega (arith, in_all h))

  pub last_other : (r : Root) → IsAmong r last_owners → OtherRoot r
  last_other r i = other_root r (last_owner r i) apart.holds_after (after root_found.which root_found.after i) (λ h. omega (arith, in_all h))
    where
      after : (which : Listed) (rs : List Root) → IsAmong r (owners_after p.picture which rs) → IsAmong r (roots_after p.picture which rs)
      after Listed.by_name rs j = elim (among_either r rs (p.picture.uniques ++ p.picture.loose) j) [
        | inl k ↦ among_left r rs (p.picture.uniques ++ (p.picture.loose ++ frozen_roots p.picture)) k
        | inr k ↦ among_right r rs (p.picture.uniques ++ (p.picture.loose ++ frozen_roots p.picture)) (elim (among_either r p.picture.uniques p.picture.loose k) [
          | inl m ↦ among_left r p.picture.uniques (p.picture.loose ++ frozen_roots p.picture) m
          | inr m ↦ among_right r p.picture.uniques (p.picture.loose ++ frozen_roots p.picture) (among_left r p.picture.loose (frozen_roots p.picture) m)
        ])
      ]
      after Listed.by_type rs j = elim (among_either r rs p.picture.loose j) [
        | inl k ↦ among_left r rs (p.picture.loose ++ frozen_roots p.picture) k
        | inr k ↦ among_right r rs (p.picture.loose ++ frozen_roots p.picture) (among_left r p.picture.loose (frozen_roots p.picture) k)
      ]
      after Listed.loose rs j = among_left r rs (frozen_roots p.picture) j

  -- the place's root with another value, among the objects with an owner
  abbrev pub owners_with_value : Value → List Root
  owners_with_value w = first_owners ++ with_item l.root l.item (with_value_at path.selectors w) ∷ last_owners

  -- the same picture with this value, and other frozen objects
  picture_with : Value → List Frozen → Picture
  picture_with w frozen = record (with_roots p.picture root_found.which (root_found.before ++ with_item l.root l.item (with_value_at path.selectors w) ∷ root_found.after)) { frozen = frozen }

  owners_are_with : (w : Value) (frozen : List Frozen) → owners_in (picture_with w frozen) ≡ owners_with_value w
  unfolding picture_with
  owners_are_with w frozen = owners_with p.picture root_found.which root_found.before (with_item l.root l.item (with_value_at path.selectors w) ∷ []) root_found.after

  frozen_are : (w : Value) (frozen : List Frozen) → (picture_with w frozen).frozen ≡ frozen
  unfolding picture_with
  frozen_are w frozen = refl

  one_value : value ≡ part.value
  one_value = (Holds-one old p.picture.table holds_it part.holds_it).0

  -- If the place releases cells and becomes another value, the remaining frozen objects are counted.
  pub counted_left : (gone : List Place) (w : Value) → SameNames (names_in value) (gone ++ names_in w) → IsCounted (word old next_word) (left gone p.picture.frozen) (cells_in (owners_with_value w))
  counted_left gone w same =
      let final = left gone p.picture.frozen in
      let counted = counted_then l.root l.item part.item part.item_is path.selectors part.value part.value_is (word old next_word) p.picture first_owners last_owners owners_split p.counted gone w
      (subst (λ v. SameNames (names_in v) (gone ++ names_in w)) one_value same) (picture_with w final) (owners_are_with w final) (frozen_are w final) in
      subst (λ fs. IsCounted (word old next_word) fs (cells_in (owners_with_value w))) (frozen_are w final)
      (subst (λ rs. IsCounted (word old next_word) (picture_with w final).frozen (cells_in rs)) (owners_are_with w final) counted.counted)

  -- The same if the cells of the other value were counted before.
  pub counted_raised : (w : Value) → AllByRecursion (IsBelow (word old next_word) p.picture.frozen) (names_in w)
      → IsCounted (word old next_word) (left (names_in value) (raised_by (names_in w) p.picture.frozen)) (cells_in (owners_with_value w))
  counted_raised w below =
      let final = left (names_in value) (raised_by (names_in w) p.picture.frozen) in
      let counted = counted_shared l.root l.item part.item part.item_is path.selectors part.value part.value_is (word old next_word) p.picture first_owners last_owners owners_split p.counted w below (picture_with w final)
      (owners_are_with w final) (frozen_are w final ∙ ap (λ v. left (names_in v) (raised_by (names_in w) p.picture.frozen)) one_value) in
      subst (λ fs. IsCounted (word old next_word) fs (cells_in (owners_with_value w))) (frozen_are w final)
      (subst (λ rs. IsCounted (word old next_word) (picture_with w final).frozen (cells_in rs)) (owners_are_with w final) counted.counted)
