-- A call on a place inside one root that removes or adds other roots.
use Rattle.std.proofs.Common.{◌≡◌, ◌≢◌, ℕ, ◌+◌, ◌*◌, ◌<◌, ◌≤◌, inl, inr, List, [], ◌∷◌, ◌++◌, refl, sym, ap, ◌∙◌, subst, arith}
use Rattle.std.specs.List.{AllByRecursion}
use Rattle.seg_spec.specs.Bytes.{word}
use Rattle.seg_spec.specs.Types.{Table, size}
use Rattle.seg_spec.specs.Value.{Value, count, Selector, with_value_at}
use Rattle.seg_spec.specs.Heap.{Span, live, units_at, IsHeap}
use Rattle.seg_spec.specs.Block.{KeepsBlock, block_of}
use Rattle.seg_spec.specs.Reads.{Place, Holds, Leads}
use Rattle.seg_spec.specs.Apart.{Separate, BlocksApart, KeepsBlockAround}
use Rattle.seg_spec.specs.Index.{Root}
use Rattle.seg_spec.specs.Sound.{payload_of, Picture, roots_of, HoldsRoot, HoldsRoots, holds_no_root, holds_more_roots, IsLaidOut, IsHeld, times, SameBlocks, positions}
use Rattle.seg_spec.specs.Roots.{item_of, with_item, KeepsPathsBeside, PartComesApart, StretchesComeApart, ChangesPlace, MovesPlace}
use Rattle.seg_spec.proofs.Values.OneValueLaws.{Holds-one, HoldsEach-one}
use Rattle.seg_spec.proofs.Heap.LiveBlockLaws.{times-append, there, each_there, live-once, live-apart, OneOrApart, owned_apart}
use Rattle.seg_spec.proofs.Values.PutLaws.{kept_whole, apart_append}
use Rattle.seg_spec.proofs.Images.RootPartLaws.{part_comes_apart}
use Rattle.seg_spec.proofs.Images.RootLaws.{HoldsRoots-one, HoldsRoots-only}
use Rattle.seg_spec.proofs.Images.RootStretchLaws.{stretches_come_apart}

-- the bytes that such a call keeps, apart from the header and the heap
pub moves : {old new : List ℕ} {table : Table} {place : Place} {w : Value} {blocks : List ℕ} {spans : List Span} {given_up taken_on : List ℕ} → ChangesPlace old new table place w blocks spans given_up taken_on
    → MovesPlace old new table place w blocks given_up taken_on
moves c = record { holds_it = c.holds_it; live_are = c.live_are; kept = c.kept }

-- the counts of a block in the parts of an image
record Counts (h : ℕ) (xs ib around gone pl pi pr : List ℕ) : Type 0 where
  all : times h xs ≡ times h (ib ++ around) + times h gone + (times h (pl ++ pr) + times h pi)
  once : times h xs ≤ 1

counted : (h : ℕ) (xs ib rb around its gone pl pi pr : List ℕ) → SameBlocks xs (ib ++ rb) → times h rb ≡ times h around + times h its + times h gone → its ≡ pl ++ (pi ++ pr) → times h xs ≤ 1 → Counts h xs ib around gone pl pi pr
counted h xs ib rb around its gone pl pi pr same rb_is its_is once =
    let n0 = same h in
    let n1 = times-append h ib rb in
    let n5 : times h its ≡ times h (pl ++ (pi ++ pr)) = ap (times h) its_is in
    let n6 = times-append h pl (pi ++ pr) in
    let n7 = times-append h pi pr in
    let n8 = times-append h pl pr in
    let e2 = times-append h ib around in
    record { all = omega arith; once = once }

recounted : (h : ℕ) (xs ys ib around gone come pl pi po pr : List ℕ) → Counts h xs ib around gone pl pi pr → times h ys + times h (pi ++ gone) ≡ times h xs + times h (po ++ come)
    → times h ys ≡ times h (ib ++ around) + (times h (pl ++ (po ++ pr)) + times h come)
recounted h xs ys ib around gone come pl pi po pr c e =
    let n1 = times-append h pi gone in
    let n2 = times-append h po come in
    let n4 = times-append h pl (po ++ pr) in
    let n5 = times-append h po pr in
    let n6 = times-append h pl pr in
    let all = c.all in
    omega arith

in_order : (h : ℕ) (ib around a b : List ℕ) → times h (ib ++ around) + (times h a + times h b) ≡ times h (ib ++ (around ++ (a ++ b)))
in_order h ib around a b =
    let n1 = times-append h ib around in
    let n2 = times-append h ib (around ++ (a ++ b)) in
    let n3 = times-append h around (a ++ b) in
    let n4 = times-append h a b in
    omega arith

module _ (old new : List ℕ) (picture : Picture) (held : IsHeld old picture) (around its gone : List ℕ) (blocks_are : (h : ℕ) → times h held.root_blocks ≡ times h around + times h its + times h gone) (root : Root)
    (j : ℕ) (path : List Selector) (q : Place) (p : PartComesApart old picture.table root its j path q) (w : Value) (others come : List ℕ)
    (c : MovesPlace old new picture.table q w others (p.its ++ gone) (others ++ come)) where
  heap : IsHeap (word old 16) old
  heap = held.laid_out.heap

  counts : (h : ℕ) → Counts h (positions (live old)) held.index_blocks around gone p.left p.its p.right
  counts h = counted h (positions (live old)) held.index_blocks held.root_blocks around its gone p.left p.its p.right held.owners (blocks_are h) p.blocks_are (live-once old (word old 16) heap h)

  home_live : 1 ≤ times p.home (positions (live old))
  home_live = omega (arith, (counts p.home).all, p.home_is)

  apart_from : (h : ℕ) → 1 ≤ times h (positions (live old)) → h ≢ p.home → Separate h (16 * units_at old h) q.at (size picture.table q.type)
  apart_from h is_live other =
      let pairs = there (λ t. AllByRecursion (OneOrApart old t) (positions (live old))) h (positions (live old)) (live-apart old (word old 16) heap) is_live in
      let pair = there (OneOrApart old h) p.home (positions (live old)) pairs home_live in
      go pair
    where
      go : OneOrApart old h p.home → Separate h (16 * units_at old h) q.at (size picture.table q.type)
      go (inl e) = absurd (other (sym e))
      go (inr (inl s)) = inl (omega (arith, p.lies_in.low))
      go (inr (inr s)) = inr (omega (arith, p.lies_in.high))

  pub outside_all : (h : ℕ) → 1 ≤ times h held.index_blocks + times h around → KeepsBlock old new h
  outside_all h some =
      let k = counts h in
      let n1 = times-append h held.index_blocks around in
      let n2 = times-append h p.its gone in
      let is_live : 1 ≤ times h (positions (live old)) = omega (arith, k.all) in
      let none : times h (p.its ++ gone) ≡ 0 = omega (arith, k.all, k.once) in
      let alone_is : times h (p.left ++ p.right) ≡ 0 = omega (arith, k.all, k.once) in
      kept_whole old new picture.table held.laid_out.is_table q.at (size picture.table q.type) h (c.kept h is_live none)
      (apart_from h is_live (λ e. let mine : 1 ≤ times h (p.left ++ p.right) = subst (λ b. 1 ≤ times b (p.left ++ p.right)) (sym e) p.home_is in omega arith))

  pub outside : AllByRecursion (KeepsBlock old new) around
  outside = each_there (KeepsBlock old new) around (λ h some. outside_all h (omega arith))

  pub around_part : AllByRecursion (KeepsBlockAround old new q.at (size picture.table q.type)) (p.left ++ p.right)
  around_part = each_there (KeepsBlockAround old new q.at (size picture.table q.type)) (p.left ++ p.right) one
    where
      one : (h : ℕ) → 1 ≤ times h (p.left ++ p.right) → KeepsBlockAround old new q.at (size picture.table q.type) h
      one h some =
          let k = counts h in
          let n2 = times-append h p.its gone in
          c.kept h (omega (arith, k.all)) (omega (arith, k.all, k.once))

  pub root_then : HoldsRoot new picture.table (with_item root j (with_value_at path w)) (p.left ++ (others ++ p.right))
  root_then = p.becomes new w others around_part c.holds_it

  pub owners_then : (h : ℕ) → times h (positions (live new)) ≡ times h (held.index_blocks ++ around) + (times h (p.left ++ (others ++ p.right)) + times h come)
  owners_then h = recounted h (positions (live old)) (positions (live new)) held.index_blocks around gone come p.left p.its others p.right (counts h) (c.live_are h)

-- ---- the blocks of a root are the same for all readings

pub HoldsRoot_blocks-one : (bytes : List ℕ) (table : Table) (root : Root) (xs ys : List ℕ) → HoldsRoot bytes table root xs → HoldsRoot bytes table root ys → xs ≡ ys
HoldsRoot_blocks-one bytes table root xs ys h k =
    let insides : h.inside ≡ k.inside = (HoldsEach-one bytes table h.values k.values).1 in
    h.blocks_are ∙ ap (λ bs. block_of (payload_of root) ∷ bs) insides ∙ sym k.blocks_are

pub HoldsRoots_blocks-one : (bytes : List ℕ) (table : Table) (roots : List Root) (xs ys : List ℕ) → HoldsRoots bytes table roots xs → HoldsRoots bytes table roots ys → xs ≡ ys
HoldsRoots_blocks-one bytes table [] xs ys holds_no_root holds_no_root = refl
HoldsRoots_blocks-one bytes table (root ∷ roots) xs ys (holds_more_roots {blocks = b} {rest = r} h hs) (holds_more_roots {blocks = c} {rest = s} k ks) =
    let first : b ≡ c = HoldsRoot_blocks-one bytes table root b c h k in
    let rest : r ≡ s = HoldsRoots_blocks-one bytes table roots r s hs ks in
    cc

-- the blocks of a part of an image don't overlap
part_apart : (old : List ℕ) (picture : Picture) (held : IsHeld old picture) (around its gone : List ℕ) → ((h : ℕ) → times h held.root_blocks ≡ times h around + times h its + times h gone) → BlocksApart old its
part_apart old picture held around its gone blocks_are =
    let same : SameBlocks (positions (live old)) (its ++ (held.index_blocks ++ (around ++ gone))) = λ h.
    let n0 = held.owners h in
    let n1 = times-append h held.index_blocks held.root_blocks in
    let n2 = times-append h its (held.index_blocks ++ (around ++ gone)) in
    let n3 = times-append h held.index_blocks (around ++ gone) in
    let n4 = times-append h around gone in
    let n5 = blocks_are h in
    omega arith in
    (apart_append old its (held.index_blocks ++ (around ++ gone)) (owned_apart old (word old 16) held.laid_out.heap (its ++ (held.index_blocks ++ (around ++ gone))) same)).left

-- the facts about the image after such a call
module _ (old new : List ℕ) (picture : Picture) (held : IsHeld old picture) (before between gone after : List Root) (root : Root) (j : ℕ) (path : List Selector) (q : Place) (v w : Value)
    (blocks others gone_blocks come_blocks : List ℕ)
    (within : j < count root.values) (leads : Leads old picture.table (item_of picture.table root j) path q) (was : Holds old picture.table q v blocks) (goes : HoldsRoots old picture.table gone gone_blocks)
    (c : MovesPlace old new picture.table q w others (blocks ++ gone_blocks) (others ++ come_blocks)) (roots : roots_of picture ≡ before ++ (root ∷ (between ++ (gone ++ after)))) where
  pub stretches : StretchesComeApart old picture held before (root ∷ []) between gone after
  stretches = stretches_come_apart old picture held before (root ∷ []) between gone after roots

  its_held : HoldsRoot old picture.table root stretches.firsts
  its_held = HoldsRoots-only old picture.table root stretches.firsts stretches.holds_first

  part : PartComesApart old picture.table root stretches.firsts j path q
  part = part_comes_apart old picture.table held.laid_out.is_table root stretches.firsts its_held (part_apart old picture held stretches.around stretches.firsts stretches.seconds stretches.blocks_are) j within path q leads

  changed : MovesPlace old new picture.table q w others (part.its ++ stretches.seconds) (others ++ come_blocks)
  changed =
      let e : part.its ≡ blocks = (Holds-one old picture.table part.holds_it was).1 in
      let f : stretches.seconds ≡ gone_blocks = HoldsRoots_blocks-one old picture.table gone stretches.seconds gone_blocks stretches.holds_second goes in
      rw (e, f) c

  pub beside_kept : (h : ℕ) → 1 ≤ times h held.index_blocks + times h stretches.around → KeepsBlock old new h
  beside_kept = outside_all old new picture held stretches.around stretches.firsts stretches.seconds stretches.blocks_are root j path q part w others come_blocks changed

  pub paths_beside : KeepsPathsBeside old new picture.table root j path
  paths_beside = part.paths new (around_part old new picture held stretches.around stretches.firsts stretches.seconds stretches.blocks_are root j path q part w others come_blocks changed)

module _ (old new : List ℕ) (picture other : Picture) (held : IsHeld old picture) (before between gone come after : List Root) (root : Root) (j : ℕ) (path : List Selector) (q : Place) (v w : Value)
    (blocks others gone_blocks come_blocks : List ℕ)
    (within : j < count root.values) (leads : Leads old picture.table (item_of picture.table root j) path q) (was : Holds old picture.table q v blocks) (goes : HoldsRoots old picture.table gone gone_blocks)
    (c : MovesPlace old new picture.table q w others (blocks ++ gone_blocks) (others ++ come_blocks)) (comes : HoldsRoots new picture.table come come_blocks)
    (table : other.table ≡ picture.table) (laid_out : IsLaidOut new other held.index_blocks) where
  changes_with : (xs ys : List ℕ) → xs ≡ blocks → ys ≡ gone_blocks → MovesPlace old new picture.table q w others (xs ++ ys) (others ++ come_blocks)
  changes_with xs ys e f = rw (e, f) c

  pub moved_after : roots_of picture ≡ before ++ (root ∷ (between ++ (gone ++ after))) → roots_of other ≡ before ++ (with_item root j (with_value_at path w) ∷ (between ++ (come ++ after))) → IsHeld new other
  moved_after roots roots_then =
      let s = stretches_come_apart old picture held before (root ∷ []) between gone after roots in
      let o = HoldsRoots-only old picture.table root s.firsts s.holds_first in
      let p = part_comes_apart old picture.table held.laid_out.is_table root s.firsts o (part_apart old picture held s.around s.firsts s.seconds s.blocks_are) j within path q leads in
      let e : p.its ≡ blocks = (Holds-one old picture.table p.holds_it was).1 in
      let f : s.seconds ≡ gone_blocks = HoldsRoots_blocks-one old picture.table gone s.seconds gone_blocks s.holds_second goes in
      let d = changes_with p.its s.seconds e f in
      s.becomes new other (with_item root j (with_value_at path w) ∷ []) come held.index_blocks (p.left ++ (others ++ p.right)) come_blocks table roots_then laid_out
      (outside old new picture held s.around s.firsts s.seconds s.blocks_are root j path q p w others come_blocks d)
      (HoldsRoots-one new picture.table (root_then old new picture held s.around s.firsts s.seconds s.blocks_are root j path q p w others come_blocks d)) comes
      (λ h. owners_then old new picture held s.around s.firsts s.seconds s.blocks_are root j path q p w others come_blocks d h ∙ in_order h held.index_blocks s.around (p.left ++ (others ++ p.right)) come_blocks)

  pub moved_before : roots_of picture ≡ before ++ (gone ++ (between ++ (root ∷ after))) → roots_of other ≡ before ++ (come ++ (between ++ (with_item root j (with_value_at path w) ∷ after))) → IsHeld new other
  moved_before roots roots_then =
      let s = stretches_come_apart old picture held before gone between (root ∷ []) after roots in
      let o = HoldsRoots-only old picture.table root s.seconds s.holds_second in
      let all : (h : ℕ) → times h held.root_blocks ≡ times h s.around + times h s.seconds + times h s.firsts = λ h. (let n = s.blocks_are h in omega arith) in
      let p = part_comes_apart old picture.table held.laid_out.is_table root s.seconds o (part_apart old picture held s.around s.seconds s.firsts all) j within path q leads in
      let e : p.its ≡ blocks = (Holds-one old picture.table p.holds_it was).1 in
      let f : s.firsts ≡ gone_blocks = HoldsRoots_blocks-one old picture.table gone s.firsts gone_blocks s.holds_first goes in
      let d = changes_with p.its s.firsts e f in
      s.becomes new other come (with_item root j (with_value_at path w) ∷ []) held.index_blocks come_blocks (p.left ++ (others ++ p.right)) table roots_then laid_out
      (outside old new picture held s.around s.seconds s.firsts all root j path q p w others come_blocks d) comes
      (HoldsRoots-one new picture.table (root_then old new picture held s.around s.seconds s.firsts all root j path q p w others come_blocks d))
      (λ h. owners_then old new picture held s.around s.seconds s.firsts all root j path q p w others come_blocks d h ∙ swapped h (held.index_blocks ++ s.around) (p.left ++ (others ++ p.right)) come_blocks ∙ in_order h
      held.index_blocks s.around come_blocks (p.left ++ (others ++ p.right)))
    where
      swapped : (h : ℕ) (xs a b : List ℕ) → times h xs + (times h a + times h b) ≡ times h xs + (times h b + times h a)
      swapped h xs a b = omega arith
