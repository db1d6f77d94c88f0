-- A call on a place inside one root, while other roots are added or removed: the image has the new
-- roots, paths outside the place refer to the same places, and the frozen objects are counted.
use Rattle.std.proofs.Common.{◌≡◌, ℕ, ◌+◌, ◌<◌, ◌≤◌, inl, inr, List, [], ◌∷◌, ◌++◌, Some, refl, sym, ◌∙◌, ap, subst, append_assoc, arith}
use Rattle.std.proofs.lemmas.Bool.{cases_eq}
use Rattle.std.specs.List.{AllByRecursion}
use Rattle.seg_spec.specs.Bytes.{word}
use Rattle.seg_spec.specs.Header.{allocator_word}
use Rattle.seg_spec.specs.Types.{Table}
use Rattle.seg_spec.specs.Value.{Value, count, nth, Selector, value_at, with_value_at}
use Rattle.seg_spec.specs.Heap.{live}
use Rattle.seg_spec.specs.Block.{KeepsBlock}
use Rattle.seg_spec.specs.Apart.{BlocksApart}
use Rattle.seg_spec.specs.Index.{Root}
use Rattle.seg_spec.specs.Reads.{Place, Holds, Leads}
use Rattle.seg_spec.specs.Shared.{names_in, IsCounted, IsFalling, left}
use Rattle.seg_spec.specs.Sound.{Picture, frozen_roots, roots_of, HoldsRoot, HoldsRoots, holds_more_roots, IsLaidOut, IsHeld, times, SameBlocks, positions}
use Rattle.seg_spec.specs.Counting.{cells_in, owners_in, AreCounted}
use Rattle.seg_spec.specs.Roots.{item_of, with_item, KeepsPaths, KeepsPathsBeside, PartComesApart, MovesPlace}
use Rattle.seg_spec.specs.Owning.{Stands}
use Rattle.seg_spec.proofs.Heap.LiveBlockLaws.{times-append, times-same, times-other, there, each_there, live-apart, OneOrApart, owned_apart}
use Rattle.seg_spec.proofs.Frozen.SharedLaws.{counted_again}
use Rattle.seg_spec.proofs.Frozen.PictureCountLaws.{falling_left, cells_append}
use Rattle.seg_spec.proofs.Frozen.PartCountLaws.{SameNames, names_same, names_then, names_joined, names_swapped, names_first, names_counted, beside_part, root_names, root_names_then}
use Rattle.seg_spec.proofs.Images.RootChangeLaws.{HoldsRoots_blocks-one, outside_all, outside, around_part, root_then, owners_then}
use Rattle.seg_spec.proofs.Values.OneValueLaws.{Holds-one}
use Rattle.seg_spec.proofs.Values.PutLaws.{apart_append}
use Rattle.seg_spec.proofs.Images.RootFrameLaws.{HoldsRoots-kept}
use Rattle.seg_spec.proofs.Images.RootLaws.{HoldsRoots-split, HoldsRoots-append, HoldsRoots-only}
use Rattle.seg_spec.proofs.Images.RootPartLaws.{part_comes_apart}
use Rattle.seg_spec.proofs.Images.RootPathLaws.{roots_paths}

-- ---- roots in another order

-- both lists have the same values, own the same blocks, and share the same objects
pub record Reorders (xs ys : List Root) : Type 0 where
  pub holds : (bytes : List ℕ) (table : Table) (blocks : List ℕ) → HoldsRoots bytes table xs blocks → (others : List ℕ) × HoldsRoots bytes table ys others × SameBlocks blocks others
  pub cells : SameNames (cells_in xs) (cells_in ys)

pub order_same : {xs ys : List Root} → xs ≡ ys → Reorders xs ys
order_same e = record { holds = λ bytes table blocks h. (blocks, subst (λ rs. HoldsRoots bytes table rs blocks) e h, λ n. refl); cells = names_same (ap cells_in e) }

pub order_then : {xs ys zs : List Root} → Reorders xs ys → Reorders ys zs → Reorders xs zs
order_then a b = record {
  holds = λ bytes table blocks h.
      let p = a.holds bytes table blocks h in
      let q = b.holds bytes table p.0 p.1 in
      (q.0, q.1, λ n. p.2 n ∙ q.2 n);
  cells = names_then a.cells b.cells;
}

pub order_joined : {xs ys zs ws : List Root} → Reorders xs ys → Reorders zs ws → Reorders (xs ++ zs) (ys ++ ws)
order_joined {xs = xs} {ys = ys} {zs = zs} {ws = ws} a b = record {
  holds = λ bytes table blocks h.
      let s = HoldsRoots-split bytes table xs zs blocks h in
      let p = a.holds bytes table s.left s.lefts in
      let q = b.holds bytes table s.right s.rights in
      (p.0 ++ q.0, HoldsRoots-append bytes table p.1 q.1, λ n. let e = ap (times n) s.blocks_are in omega (arith, e, times-append n s.left s.right, times-append n p.0 q.0, p.2 n, q.2 n));
  cells = names_then (names_same (cells_append xs zs)) (names_then (names_joined a.cells b.cells) (names_same (sym (cells_append ys ws))));
}

pub order_swapped : (xs ys : List Root) → Reorders (xs ++ ys) (ys ++ xs)
order_swapped xs ys = record {
  holds = λ bytes table blocks h.
      let s = HoldsRoots-split bytes table xs ys blocks h in
      (s.right ++ s.left, HoldsRoots-append bytes table s.rights s.lefts, λ n. let e = ap (times n) s.blocks_are in omega (arith, e, times-append n s.left s.right, times-append n s.right s.left));
  cells = names_then (names_same (cells_append xs ys)) (names_then (names_swapped (cells_in xs) (cells_in ys)) (names_same (sym (cells_append ys xs))));
}

pub order_under : (x : Root) {ys zs : List Root} → Reorders ys zs → Reorders (x ∷ ys) (x ∷ zs)
order_under x o = order_joined (order_same {xs = x ∷ []} refl) o

-- moving one root to the front reorders the roots
pub order_first : (before : List Root) (x : Root) (after : List Root) → Reorders (before ++ x ∷ after) (x ∷ (before ++ after))
order_first before x after = order_then (order_same (sym (append_assoc before (x ∷ []) after))) (order_joined (order_swapped before (x ∷ [])) (order_same {xs = after} refl))

pub order_back : (before : List Root) (x : Root) (after : List Root) → Reorders (x ∷ (before ++ after)) (before ++ x ∷ after)
order_back before x after = order_then (order_joined (order_swapped (x ∷ []) before) (order_same {xs = after} refl)) (order_same (append_assoc before (x ∷ []) after))

pub order_exchanged : (x y : Root) (rest : List Root) → Reorders (x ∷ (y ∷ rest)) (y ∷ (x ∷ rest))
order_exchanged x y rest = order_first (x ∷ []) y rest

-- the roots of a picture are the owners, and then the frozen objects
pub roots_split : (picture : Picture) → roots_of picture ≡ owners_in picture ++ frozen_roots picture
roots_split picture = simp append_assoc

module _ (picture : Picture) (root : Root) (some rest : List Root) where
  -- an order of the owners gives one of all roots, with the frozen objects among `some`
  pub frozen_first : Reorders (owners_in picture) (root ∷ (some ++ rest)) → Reorders (roots_of picture) (root ∷ ((some ++ frozen_roots picture) ++ rest))
  frozen_first o =
      let frozen = frozen_roots picture in
      order_then (order_same (roots_split picture)) (order_then (order_joined o (order_same {xs = frozen} refl))
      (order_under root (order_then (order_same (append_assoc some rest frozen))
      (order_then (order_joined (order_same {xs = some} refl) (order_swapped rest frozen)) (order_same (sym (append_assoc some frozen rest)))))))

  pub frozen_last : Reorders (owners_in picture) (root ∷ (some ++ rest)) → Reorders (roots_of picture) (root ∷ (some ++ (rest ++ frozen_roots picture)))
  frozen_last o =
      let frozen = frozen_roots picture in
      order_then (order_same (roots_split picture)) (order_then (order_joined o (order_same {xs = frozen} refl)) (order_under root (order_same (append_assoc some rest frozen))))

  pub from_frozen_first : Reorders (root ∷ (some ++ rest)) (owners_in picture) → Reorders (root ∷ ((some ++ frozen_roots picture) ++ rest)) (roots_of picture)
  from_frozen_first o =
      let frozen = frozen_roots picture in
      order_then
      (order_under root (order_then (order_same (append_assoc some frozen rest))
      (order_then (order_joined (order_same {xs = some} refl) (order_swapped frozen rest)) (order_same (sym (append_assoc some rest frozen))))))
      (order_then (order_joined o (order_same {xs = frozen} refl)) (order_same (sym (roots_split picture))))

  pub from_frozen_last : Reorders (root ∷ (some ++ rest)) (owners_in picture) → Reorders (root ∷ (some ++ (rest ++ frozen_roots picture))) (roots_of picture)
  from_frozen_last o =
      let frozen = frozen_roots picture in
      order_then (order_under root (order_same (sym (append_assoc some rest frozen)))) (order_then (order_joined o (order_same {xs = frozen} refl)) (order_same (sym (roots_split picture))))

-- ---- a place inside one of them

module _ (old : List ℕ) (picture : Picture) (held : IsHeld old picture) (root : Root) (some rest : List Root) (roots : Reorders (roots_of picture) (root ∷ (some ++ rest))) (j : ℕ) (within : j < count root.values)
    (path : List Selector) (q : Place) (leads : Leads old picture.table (item_of picture.table root j) path q) (v : Value) (blocks : List ℕ) (was : Holds old picture.table q v blocks)
    (some_blocks : List ℕ) (goes : HoldsRoots old picture.table some some_blocks) where
  abbrev table : Table
  table = picture.table

  -- the blocks of the root, of some others, and of the rest
  record Owned : Type 0 where
    its : List ℕ
    holds_it : HoldsRoot old table root its
    others : List ℕ
    holds_others : HoldsRoots old table rest others
    blocks_are : (h : ℕ) → times h held.root_blocks ≡ times h others + times h its + times h some_blocks

  owned : Owned
  owned =
      let all = roots.holds old table held.root_blocks held.roots in
      let s = HoldsRoots-split old table (root ∷ []) (some ++ rest) all.0 all.1 in
      let t = HoldsRoots-split old table some rest s.right s.rights in
      let same : t.left ≡ some_blocks = HoldsRoots_blocks-one old table some t.left some_blocks t.lefts goes in
      record {
        its = s.left;
        holds_it = HoldsRoots-only old table root s.left s.lefts;
        others = t.right;
        holds_others = t.rights;
        blocks_are = λ h.
            let e = all.2 h in
            let f : times h all.0 ≡ times h (s.left ++ s.right) = ap (times h) s.blocks_are in
            let g : times h s.right ≡ times h (t.left ++ t.right) = ap (times h) t.blocks_are in
            let k : times h t.left ≡ times h some_blocks = ap (times h) same in
            omega (arith, e, f, g, k, times-append h s.left s.right, times-append h t.left t.right);
      }

  apart : BlocksApart old owned.its
  apart =
      let beside = held.index_blocks ++ (owned.others ++ some_blocks) in
      (apart_append old owned.its beside (owned_apart old (word old allocator_word) held.laid_out.heap (owned.its ++ beside) (λ h.
      omega (
        arith,
        held.owners h,
        owned.blocks_are h,
        times-append h held.index_blocks held.root_blocks,
        times-append h owned.its beside,
        times-append h held.index_blocks (owned.others ++ some_blocks),
        times-append h owned.others some_blocks,
      )))).left

  p : PartComesApart old table root owned.its j path q
  p = part_comes_apart old table held.laid_out.is_table root owned.its owned.holds_it apart j within path q leads

  its_are : p.its ≡ blocks
  its_are = (Holds-one old table p.holds_it was).1

  -- how often a block is owned: by the index, by other roots, around the place, and by the place
  counts : (h : ℕ) → times h (positions (live old)) ≡ times h held.index_blocks + times h owned.others + times h some_blocks + times h p.left + times h blocks + times h p.right
  counts h =
      let e : times h owned.its ≡ times h (p.left ++ (p.its ++ p.right)) = ap (times h) p.blocks_are in
      let f : times h p.its ≡ times h blocks = ap (times h) its_are in
      omega (arith, held.owners h, owned.blocks_are h, times-append h held.index_blocks held.root_blocks, e, f, times-append h p.left (p.its ++ p.right), times-append h p.its p.right)

  home_around : 1 ≤ times p.home p.left + times p.home p.right
  home_around = omega (arith, p.home_is, times-append p.home p.left p.right)

  -- the block around the place is the one that a call on it finds
  one_home : (allocator : ℕ) (s : Stands allocator old table q v blocks) → p.home ≡ s.home
  one_home allocator s =
      let is_live : 1 ≤ times s.home (positions (live old)) = omega (arith, s.owned s.home, times-same s.home blocks) in
      let home_live : 1 ≤ times p.home (positions (live old)) = omega (arith, counts p.home, home_around) in
      let pairs = there (λ t. AllByRecursion (OneOrApart old t) (positions (live old))) s.home (positions (live old)) (live-apart old (word old allocator_word) held.laid_out.heap) is_live in
      elim (there (OneOrApart old s.home) p.home (positions (live old)) pairs home_live) [
        | inl same ↦ same
        | inr (inl far) ↦ absurd (omega (arith, far, s.inside.low, s.inside.high, p.lies_in.low, p.lies_in.high))
        | inr (inr far) ↦ absurd (omega (arith, far, s.inside.low, s.inside.high, p.lies_in.low, p.lies_in.high))
      ]

  -- the place and the other roots have no common block
  pub beside_others : (allocator : ℕ) (s : Stands allocator old table q v blocks) (h : ℕ) → times h (s.home ∷ blocks) + times h some_blocks ≤ times h (positions (live old))
  beside_others allocator s h =
      elim (cases_eq s.home h) [
        | inl same ↦
            let home : 1 ≤ times h p.left + times h p.right = subst (λ b. 1 ≤ times b p.left + times b p.right) (one_home allocator s ∙ same) home_around in
            let one : times h (s.home ∷ blocks) ≡ 1 + times h blocks = subst (λ x. times h (x ∷ blocks) ≡ 1 + times h blocks) (sym same) (times-same h blocks) in
            omega (arith, counts h, home, one)
        | inr distinct ↦ let none = times-other h s.home blocks distinct in omega (arith, counts h, none)
      ]

  -- ---- a call on it, while other roots are replaced

  module _ (new : List ℕ) (w : Value) (others come_blocks : List ℕ) (c : MovesPlace old new table q w others (blocks ++ some_blocks) (others ++ come_blocks)) where
    changes : MovesPlace old new table q w others (p.its ++ some_blocks) (others ++ come_blocks)
    changes = subst (λ bs. MovesPlace old new table q w others (bs ++ some_blocks) (others ++ come_blocks)) (sym its_are) c

    -- the index and the other roots are unchanged, and so are paths outside the place
    pub index_kept : AllByRecursion (KeepsBlock old new) held.index_blocks
    index_kept = each_there (KeepsBlock old new) held.index_blocks
        (λ h few. outside_all old new picture held owned.others owned.its some_blocks owned.blocks_are root j path q p w others come_blocks changes h (omega (arith, few)))

    rest_kept : AllByRecursion (KeepsBlock old new) owned.others
    rest_kept = outside old new picture held owned.others owned.its some_blocks owned.blocks_are root j path q p w others come_blocks changes

    pub beside_kept : KeepsPathsBeside old new table root j path
    beside_kept = p.paths new (around_part old new picture held owned.others owned.its some_blocks owned.blocks_are root j path q p w others come_blocks changes)

    pub paths_kept : AllByRecursion (KeepsPaths old new table) rest
    paths_kept = roots_paths old new table held.laid_out.is_table owned.holds_others rest_kept

    -- the image has the new roots
    pub moved_held : (other : Picture) (come : List Root) → HoldsRoots new table come come_blocks → Reorders (with_item root j (with_value_at path w) ∷ (come ++ rest)) (roots_of other) → other.table ≡ table
        → IsLaidOut new other held.index_blocks → IsHeld new other
    moved_held other come comes then same laid_out =
        let mine = p.left ++ (others ++ p.right) in
        let whole = holds_more_roots (root_then old new picture held owned.others owned.its some_blocks owned.blocks_are root j path q p w others come_blocks changes)
        (HoldsRoots-append new table comes (HoldsRoots-kept old new table held.laid_out.is_table owned.holds_others rest_kept)) in
        let all = then.holds new table (mine ++ (come_blocks ++ owned.others)) whole in
        record {
          index_blocks = held.index_blocks;
          laid_out = laid_out;
          root_blocks = all.0;
          roots = subst (λ (t : Table). HoldsRoots new t (roots_of other) all.0) (sym same) all.1;
          owners = λ h.
              let e = owners_then old new picture held owned.others owned.its some_blocks owned.blocks_are root j path q p w others come_blocks changes h in
              omega (arith, e, all.2 h, times-append h held.index_blocks owned.others, times-append h mine (come_blocks ++ owned.others), times-append h come_blocks owned.others, times-append h held.index_blocks all.0);
        }

-- ---- the shared cells of the owners

names_between : (xs ys zs us : List Place) → SameNames ((xs ++ ys) ++ (zs ++ us)) ((xs ++ zs) ++ (ys ++ us))
names_between xs ys zs us = names_then (names_same (append_assoc xs ys (zs ++ us))) (names_then (names_joined (names_same {xs = xs} refl) (names_first ys zs us)) (names_same (sym (append_assoc xs zs (ys ++ us)))))

module _ (root : Root) (j : ℕ) (item : Value) (item_is : nth root.values j ≡ Some item) (path : List Selector) (v : Value) (value_is : value_at item path ≡ Some v) where
  -- the cells of the root around the place, and those of the other owners
  pub other_cells : List Root → List Place
  other_cells rest = beside_part root j item item_is path v value_is ++ cells_in rest

  -- the cells of all owners are the cells of the place, of some owners, and the others
  pub names_now : (picture : Picture) (some rest : List Root) → Reorders (owners_in picture) (root ∷ (some ++ rest)) → SameNames (cells_in (owners_in picture)) ((names_in v ++ cells_in some) ++ other_cells rest)
  unfolding other_cells
  names_now picture some rest now =
      let around = beside_part root j item item_is path v value_is in
      names_then now.cells (names_then (names_joined (root_names root j item item_is path v value_is) (names_same (cells_append some rest))) (names_between (names_in v) around (cells_in some) (cells_in rest)))

  -- after the place gets another value, the cells of all owners are the cells of the new value, and
  -- the others
  pub names_after : (other : Picture) (come rest : List Root) (w : Value) → Reorders (with_item root j (with_value_at path w) ∷ (come ++ rest)) (owners_in other)
      → SameNames ((names_in w ++ cells_in come) ++ other_cells rest) (cells_in (owners_in other))
  unfolding other_cells
  names_after other come rest w then =
      let around = beside_part root j item item_is path v value_is in
      names_then (names_between (names_in w) (cells_in come) around (cells_in rest))
      (names_then (names_joined (root_names_then root j item item_is path v value_is w) (names_same (sym (cells_append come rest)))) then.cells)

  -- after some owners and a place are replaced, and these cells destroyed, the objects are counted
  pub counted_moved : (next : ℕ) (picture other : Picture) (some come rest : List Root) (w : Value) → Reorders (owners_in picture) (root ∷ (some ++ rest))
      → Reorders (with_item root j (with_value_at path w) ∷ (come ++ rest)) (owners_in other)
      → (gone : List Place) → SameNames (names_in v ++ cells_in some) (gone ++ (names_in w ++ cells_in come)) → other.frozen ≡ left gone picture.frozen → AreCounted next picture → AreCounted next other
  counted_moved next picture other some come rest w now then gone same frozen c =
      let kept = other_cells rest in
      let apart : SameNames (cells_in (owners_in picture)) (gone ++ ((names_in w ++ cells_in come) ++ kept)) =
      names_then (names_now picture some rest now) (names_then (names_joined same (names_same {xs = kept} refl)) (names_same (append_assoc gone (names_in w ++ cells_in come) kept))) in
      let fewer = counted_again next gone ((names_in w ++ cells_in come) ++ kept) picture.frozen c.falling (names_counted next picture.frozen apart c.counted) in
      record {
        counted = subst (λ fs. IsCounted next fs (cells_in (owners_in other))) (sym frozen) (names_counted next (left gone picture.frozen) (names_after other come rest w then) fewer);
        falling = subst IsFalling (sym frozen) (falling_left gone picture.frozen c.falling);
      }
