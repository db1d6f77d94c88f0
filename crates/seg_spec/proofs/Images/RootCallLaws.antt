-- A call on a place inside a root changes the image only in the value at the place.
use Rattle.std.proofs.Common.{◌≡◌, ◌≢◌, ℕ, ◌+◌, ◌*◌, ◌<◌, ◌≤◌, inl, inr, List, ◌∷◌, ◌++◌, sym, ap, subst, arith}
use Rattle.std.specs.List.{AllByRecursion}
use Rattle.seg_spec.specs.Bytes.{word}
use Rattle.seg_spec.specs.Types.{size}
use Rattle.seg_spec.specs.Value.{Value, count, Selector, with_value_at}
use Rattle.seg_spec.specs.Heap.{Span, live, units_at, IsHeap}
use Rattle.seg_spec.specs.Block.{KeepsBlock}
use Rattle.seg_spec.specs.Reads.{Place, Holds, Leads}
use Rattle.seg_spec.specs.Apart.{Separate, KeepsBlockAround}
use Rattle.seg_spec.specs.Index.{Root}
use Rattle.seg_spec.specs.Sound.{Picture, IsHeld, times, SameBlocks, positions}
use Rattle.seg_spec.specs.Roots.{Listed, roots_in, with_roots, RootComesApart, item_of, with_item, PartComesApart, ChangesPlace}
use Rattle.seg_spec.proofs.Values.OneValueLaws.{Holds-one}
use Rattle.seg_spec.proofs.Heap.LiveBlockLaws.{times-append, there, each_there, live-once, live-apart, OneOrApart}
use Rattle.seg_spec.proofs.Values.PutLaws.{kept_whole}
use Rattle.seg_spec.proofs.Images.RootPartLaws.{part_comes_apart}
use Rattle.seg_spec.proofs.Images.RootLaws.{root_comes_apart}
use Rattle.seg_spec.proofs.Images.RootWriteLaws.{root_apart, faced}

-- the counts of a block in the parts of an image
record Counts (h : ℕ) (xs ib l r pl pi pr : List ℕ) : Type 0 where
  all : times h xs ≡ times h (ib ++ (l ++ r)) + (times h (pl ++ pr) + times h pi)
  once : times h xs ≤ 1

counted : (h : ℕ) (xs ib rb l its r pl pi pr : List ℕ) → SameBlocks xs (ib ++ rb) → rb ≡ l ++ (its ++ r) → its ≡ pl ++ (pi ++ pr) → times h xs ≤ 1 → Counts h xs ib l r pl pi pr
counted h xs ib rb l its r pl pi pr same rb_is its_is once =
    let n0 = same h in
    let n1 = times-append h ib rb in
    let n2 : times h rb ≡ times h (l ++ (its ++ r)) = ap (times h) rb_is in
    let n3 = times-append h l (its ++ r) in
    let n4 = times-append h its r in
    let n5 : times h its ≡ times h (pl ++ (pi ++ pr)) = ap (times h) its_is in
    let n6 = times-append h pl (pi ++ pr) in
    let n7 = times-append h pi pr in
    let n8 = times-append h pl pr in
    let e1 = times-append h l r in
    let e2 = times-append h ib (l ++ r) in
    record { all = omega arith; once = once }

-- the same counts, with other blocks for the part
recounted : (h : ℕ) (xs ys ib l r pl pi po pr : List ℕ) → Counts h xs ib l r pl pi pr → times h ys + times h pi ≡ times h xs + times h po → times h ys ≡ times h (ib ++ (l ++ ((pl ++ (po ++ pr)) ++ r)))
recounted h xs ys ib l r pl pi po pr c e =
    let n1 = times-append h ib (l ++ ((pl ++ (po ++ pr)) ++ r)) in
    let n2 = times-append h l ((pl ++ (po ++ pr)) ++ r) in
    let n3 = times-append h (pl ++ (po ++ pr)) r in
    let n4 = times-append h pl (po ++ pr) in
    let n5 = times-append h po pr in
    let n6 = times-append h pl pr in
    let n7 = times-append h ib (l ++ r) in
    let n8 = times-append h l r in
    let all = c.all in
    omega arith

module _ (old new : List ℕ) (picture : Picture) (held : IsHeld old picture) (which : Listed) (before : List Root) (root : Root) (after : List Root) (a : RootComesApart old picture held which before root after)
    (j : ℕ) (path : List Selector) (q : Place) (p : PartComesApart old picture.table root a.its j path q) (w : Value) (others : List ℕ) {spans : List Span} (c : ChangesPlace old new picture.table q w others spans p.its others) where
  heap : IsHeap (word old 16) old
  heap = held.laid_out.heap

  counts : (h : ℕ) → Counts h (positions (live old)) held.index_blocks a.left a.right p.left p.its p.right
  counts h = counted h (positions (live old)) held.index_blocks held.root_blocks a.left a.its a.right p.left p.its p.right held.owners a.blocks_are p.blocks_are (live-once old (word old 16) heap h)

  home_live : 1 ≤ times p.home (positions (live old))
  home_live = omega (arith, (counts p.home).all, p.home_is)

  -- the part lies in its home, so it overlaps no other block
  apart_from : (h : ℕ) → 1 ≤ times h (positions (live old)) → h ≢ p.home → Separate h (16 * units_at old h) q.at (size picture.table q.type)
  apart_from h is_live other =
      let pairs = there (λ t. AllByRecursion (OneOrApart old t) (positions (live old))) h (positions (live old)) (live-apart old (word old 16) heap) is_live in
      let pair = there (OneOrApart old h) p.home (positions (live old)) pairs home_live in
      go pair
    where
      go : OneOrApart old h p.home → Separate h (16 * units_at old h) q.at (size picture.table q.type)
      go (inl e) = absurd (other (sym e))
      go (inr (inl s)) = inl (omega (arith, p.lies_in.low))
      go (inr (inr s)) = inr (omega (arith, p.lies_in.high))

  pub outside : (h : ℕ) → 1 ≤ times h (held.index_blocks ++ (a.left ++ a.right)) → KeepsBlock old new h
  outside h some =
      let k = counts h in
      let is_live : 1 ≤ times h (positions (live old)) = omega (arith, k.all) in
      let none : times h p.its ≡ 0 = omega (arith, k.all, k.once) in
      let alone_is : times h (p.left ++ p.right) ≡ 0 = omega (arith, k.all, k.once) in
      kept_whole old new picture.table held.laid_out.is_table q.at (size picture.table q.type) h (c.kept h is_live none)
      (apart_from h is_live (λ e. let mine : 1 ≤ times h (p.left ++ p.right) = subst (λ b. 1 ≤ times b (p.left ++ p.right)) (sym e) p.home_is in omega arith))

  pub around : (h : ℕ) → 1 ≤ times h (p.left ++ p.right) → KeepsBlockAround old new q.at (size picture.table q.type) h
  around h some =
      let k = counts h in
      c.kept h (omega (arith, k.all)) (omega (arith, k.all, k.once))

  pub part_changed : IsHeld new (with_roots picture which (before ++ with_item root j (with_value_at path w) ∷ after))
  part_changed =
      a.becomes new (with_item root j (with_value_at path w)) (p.left ++ (others ++ p.right)) (faced root j (with_value_at path w)) c.length_kept c.front_kept c.back_kept c.heap c.ownable
      (each_there (KeepsBlock old new) (held.index_blocks ++ (a.left ++ a.right)) outside)
      (p.becomes new w others (each_there (KeepsBlockAround old new q.at (size picture.table q.type)) (p.left ++ p.right) around) c.holds_it)
      (λ h. recounted h (positions (live old)) (positions (live new)) held.index_blocks a.left a.right p.left p.its others p.right (counts h) (c.live_are h))

pub place_changed : (old new : List ℕ) (picture : Picture) (held : IsHeld old picture) (which : Listed) (before : List Root) (root : Root) (after : List Root) → roots_in picture which ≡ before ++ root ∷ after
    → (j : ℕ) → j < count root.values → (path : List Selector) (q : Place) → Leads old picture.table (item_of picture.table root j) path q
    → {spans : List Span} (v w : Value) (blocks others : List ℕ) → Holds old picture.table q v blocks → ChangesPlace old new picture.table q w others spans blocks others
    → IsHeld new (with_roots picture which (before ++ with_item root j (with_value_at path w) ∷ after))
place_changed old new picture held which before root after among j within path q leads {spans = spans} v w blocks others was c =
    let a = root_comes_apart old picture held which before root after among in
    let mine = root_apart old picture held which before root after a in
    let p = part_comes_apart old picture.table held.laid_out.is_table root a.its a.holds_it mine j within path q leads in
    let same : p.its ≡ blocks = (Holds-one old picture.table p.holds_it was).1 in
    part_changed old new picture held which before root after a j path q p w others (subst (λ bs. ChangesPlace old new picture.table q w others spans bs others) (sym same) c)
