-- A write to a place anywhere inside a root of an image changes the value at its path and nothing else.
use Rattle.std.proofs.Common.{◌≡◌, ◌≢◌, ℕ, ◌+◌, ◌^◌, ◌<◌, ◌≤◌, ◌⊎◌, List, [], ◌∷◌, ◌++◌, length, Some, refl, sym, ap, ◌∙◌, subst, arith}
use Rattle.std.specs.List.{AllByRecursion}
use Rattle.seg_spec.specs.Bytes.{word, signed, signed_long, set_long, spelling, set_number, IsSame, ChangesOnly}
use Rattle.seg_spec.specs.Header.{free_word, back_start, back_size}
use Rattle.seg_spec.specs.Types.{Form, Table, form_at, size}
use Rattle.seg_spec.specs.Value.{Value, Int, count, nil, Selector, with_value_at}
use Rattle.seg_spec.specs.Heap.{live, units_at, IsHeap, KeepsTiles, heap_start}
use Rattle.seg_spec.specs.Block.{KeepsBlock, KeepsHeader}
use Rattle.seg_spec.specs.Reads.{Place, Holds, holds, holds_none, Leads}
use Rattle.seg_spec.specs.Apart.{BlocksApart, KeepsBlockAround}
use Rattle.seg_spec.specs.Index.{Root}
use Rattle.seg_spec.specs.Sound.{Picture, IsHeld, times, SameBlocks, positions}
use Rattle.seg_spec.specs.Roots.{Listed, roots_in, with_roots, HasFace, RootComesApart, item_of, with_item, PartComesApart}
use Rattle.seg_spec.proofs.BytesLaws.{length-spelling, length-set_number, number-set_same}
use Rattle.seg_spec.proofs.SliceLaws.{slice-put_other, IsSame-part}
use Rattle.seg_spec.proofs.Tables.TypeSizeLaws.{size-form}
use Rattle.seg_spec.proofs.Values.PlaceFrameLaws.{word-same, each_left, each_right, each_weaker, each_both}
use Rattle.seg_spec.proofs.Values.OneValueLaws.{Holds-one}
use Rattle.seg_spec.proofs.Heap.LiveBlockLaws.{times-append, not_there, there, each_same, owned_apart, live-once, live-lie}
use Rattle.seg_spec.proofs.Heap.HeapFrameLaws.{IsHeap-kept, live-kept, IsOwnable-kept}
use Rattle.seg_spec.proofs.Heap.BlockWriteLaws.{tiles_kept, low_kept, live_kept_but}
use Rattle.seg_spec.proofs.Values.PutLaws.{apart_append}
use Rattle.seg_spec.proofs.Images.RootPartLaws.{count-change_nth, part_comes_apart}
use Rattle.seg_spec.proofs.Images.RootLaws.{root_comes_apart}

-- the blocks that an image's index and roots own don't overlap
pub Held-apart : (bytes : List ℕ) (picture : Picture) (held : IsHeld bytes picture) → BlocksApart bytes (held.index_blocks ++ held.root_blocks)
Held-apart bytes picture held = owned_apart bytes (word bytes 16) held.laid_out.heap (held.index_blocks ++ held.root_blocks) held.owners

pub set_number-changes : (w : ℕ) (old : List ℕ) (at x : ℕ) → ChangesOnly old (set_number w old at x) at w
unfolding set_number
set_number-changes w old at x = record {
  length_kept = length-set_number w old at x;
  others = λ p n apart. slice-put_other old at (spelling w x) p n (subst (λ m. (p + n ≤ at) ⊎ (at + m ≤ p)) (sym (length-spelling w x)) apart);
}

-- the blocks of one root don't overlap
pub root_apart : (old : List ℕ) (picture : Picture) (held : IsHeld old picture) (which : Listed) (before : List Root) (root : Root) (after : List Root) (a : RootComesApart old picture held which before root after) → BlocksApart old a.its
root_apart old picture held which before root after a =
    let all : BlocksApart old (a.left ++ (a.its ++ a.right)) = subst (λ bs. BlocksApart old bs) a.blocks_are (apart_append old held.index_blocks held.root_blocks (Held-apart old picture held)).right in
    (apart_append old a.its a.right (apart_append old a.left (a.its ++ a.right) all).right).left

each_joined : (P : ℕ → Type 0) (xs ys : List ℕ) → AllByRecursion P xs → AllByRecursion P ys → AllByRecursion P (xs ++ ys)
each_joined P [] ys a b = b
each_joined P (x ∷ xs) ys a b = (a.0, each_joined P xs ys a.1 b)

each_but : (P : ℕ → Type 0) (l its r : List ℕ) → AllByRecursion P (l ++ (its ++ r)) → AllByRecursion P (l ++ r)
each_but P [] its r a = each_right P its r a
each_but P (x ∷ l) its r a = (a.0, each_but P l its r a.1)

-- a block that other parts of a root own is allocated, and has no other owner
pub alone : (h : ℕ) (xs ib rb l its r pl pi pr : List ℕ) → SameBlocks xs (ib ++ rb) → rb ≡ l ++ (its ++ r) → its ≡ pl ++ (pi ++ pr) → 1 ≤ times h (pl ++ pr) → times h xs ≤ 1 → (1 ≤ times h xs) × (times h (ib ++ (l ++ r)) ≡ 0)
alone h xs ib rb l its r pl pi pr same rb_is its_is some once =
    let n0 = same h in
    let n1 = times-append h ib rb in
    let n2 : times h rb ≡ times h (l ++ (its ++ r)) = ap (times h) rb_is in
    let n3 = times-append h l (its ++ r) in
    let n4 = times-append h its r in
    let n5 : times h its ≡ times h (pl ++ (pi ++ pr)) = ap (times h) its_is in
    let n6 = times-append h pl (pi ++ pr) in
    let n7 = times-append h pi pr in
    let n8 = times-append h pl pr in
    let e1 = times-append h l r in
    let e2 = times-append h ib (l ++ r) in
    (omega arith, omega arith)

regrouped : (ib l its r pl pi pr qi : List ℕ) → its ≡ pl ++ (pi ++ pr) → pi ≡ qi → ib ++ (l ++ ((pl ++ (qi ++ pr)) ++ r)) ≡ ib ++ (l ++ (its ++ r))
regrouped ib l its r pl pi pr qi e f = rw (e, f) refl

pub faced : (root : Root) (j : ℕ) (f : Value → Value) → HasFace root (with_item root j f)
faced root j f = record { same_name = refl; same_words = refl; same_at = refl; same_type = refl; same_count = count-change_nth (Some j) f root.values }

module _ (old new : List ℕ) (at m : ℕ) (changes : ChangesOnly old new at m) (h : ℕ) where
  header_kept : (b : ℕ) → IsSame old new b 16 → KeepsHeader old new b
  header_kept b s =
      let first : word new b ≡ word old b = word-same old new b (IsSame-part old new b 16 b 4 (omega arith) (omega arith) s) in
      record { live = rw first refl; has_tag = word-same old new (b + 8) (IsSame-part old new b 16 (b + 8) 4 (omega arith) (omega arith) s); room = rw first (omega arith) }

  -- the facts about each allocated block, if a write lies inside the block h
  record Kept (b : ℕ) : Type 0 where
    solid : 2 ≤ units_at old b
    kept : b ≢ h → KeepsBlock old new b
    header : IsSame old new b 16

  around : (b : ℕ) → Kept b → KeepsBlockAround old new at m b
  around b k = record {
    solid = omega (arith, k.solid);
    header = header_kept b k.header;
    payload = λ g n low high s. changes.others g n s;
  }

module _ (old : List ℕ) (picture : Picture) (held : IsHeld old picture) (which : Listed) (before : List Root) (root : Root) (after : List Root) (a : RootComesApart old picture held which before root after)
    (j : ℕ) (path : List Selector) (q : Place) (p : PartComesApart old picture.table root a.its j path q)
    (new : List ℕ) (changes : ChangesOnly old new q.at (size picture.table q.type)) where
  heap : IsHeap (word old 16) old
  heap = held.laid_out.heap

  counts : (1 ≤ times p.home (positions (live old))) × (times p.home (held.index_blocks ++ (a.left ++ a.right)) ≡ 0)
  counts = alone p.home (positions (live old)) held.index_blocks held.root_blocks a.left a.its a.right p.left p.its p.right held.owners a.blocks_are p.blocks_are p.home_is (live-once old (word old 16) heap p.home)

  kept : KeepsTiles old new
  kept = tiles_kept old new q.at (size picture.table q.type) changes (word old 16) heap p.home p.lies_in counts.0

  low : (at n : ℕ) → at + n ≤ heap_start → IsSame old new at n
  low at n fits = low_kept old new q.at (size picture.table q.type) changes (word old 16) heap p.home p.lies_in counts.0 at n fits

  all_kept : AllByRecursion (Kept old new q.at (size picture.table q.type) changes p.home) (held.index_blocks ++ held.root_blocks)
  all_kept = each_same _ (positions (live old)) (held.index_blocks ++ held.root_blocks) held.owners
      (each_weaker _ _ (λ b k. record { solid = k.solid; kept = k.kept; header = k.outside b 16 (omega arith) (omega arith) }) (positions (live old))
      (live_kept_but old new q.at (size picture.table q.type) changes (word old 16) heap p.home p.lies_in counts.0))

  root_kept : AllByRecursion (Kept old new q.at (size picture.table q.type) changes p.home) (a.left ++ (a.its ++ a.right))
  root_kept = subst (λ bs. AllByRecursion (Kept old new q.at (size picture.table q.type) changes p.home) bs) a.blocks_are (each_right _ held.index_blocks held.root_blocks all_kept)

  others_kept : AllByRecursion (KeepsBlock old new) (held.index_blocks ++ (a.left ++ a.right))
  others_kept = each_both _ _ _ (λ b k ne. k.kept ne) (held.index_blocks ++ (a.left ++ a.right)) (each_joined _ held.index_blocks (a.left ++ a.right) (each_left _ held.index_blocks held.root_blocks all_kept)
      (each_but _ a.left a.its a.right root_kept))
      (not_there p.home (held.index_blocks ++ (a.left ++ a.right)) counts.1)

  part_kept : AllByRecursion (KeepsBlockAround old new q.at (size picture.table q.type)) (p.left ++ p.right)
  part_kept =
      let mine = each_left _ a.its a.right (each_right _ a.left (a.its ++ a.right) root_kept) in
      let around_it = each_weaker _ _ (λ b k. around old new q.at (size picture.table q.type) changes p.home b k) a.its mine in
      each_but _ p.left p.its p.right (subst (λ bs. AllByRecursion (KeepsBlockAround old new q.at (size picture.table q.type)) bs) p.blocks_are around_it)

  same_live : live new ≡ live old
  same_live = live-kept old new (word old 16) heap kept

  module _ (v w : Value) (its : List ℕ) (was : Holds old picture.table q v its) (is : Holds new picture.table q w its) where
    pub written_there : IsHeld new (with_roots picture which (before ++ with_item root j (with_value_at path w) ∷ after))
    written_there =
        let one : p.its ≡ its = (Holds-one old picture.table p.holds_it was).1 in
        a.becomes new (with_item root j (with_value_at path w)) (p.left ++ (its ++ p.right)) (faced root j (with_value_at path w)) changes.length_kept (low 0 free_word (omega arith)) (low back_start back_size (omega arith))
        (IsHeap-kept old new (word old 16) heap kept) (IsOwnable-kept old new (word old 16) heap kept picture.table held.laid_out.blocks) others_kept (p.becomes new w its part_kept is)
        (λ h. ap (λ bs. times h (positions bs)) same_live ∙ held.owners h ∙ ap (λ bs. times h (held.index_blocks ++ bs)) a.blocks_are
        ∙ ap (times h) (sym (regrouped held.index_blocks a.left a.its a.right p.left p.its p.right its p.blocks_are one)))

pub written : (old : List ℕ) (picture : Picture) (held : IsHeld old picture) (which : Listed) (before : List Root) (root : Root) (after : List Root) → roots_in picture which ≡ before ++ root ∷ after
    → (j : ℕ) → j < count root.values → (path : List Selector) (q : Place) → Leads old picture.table (item_of picture.table root j) path q
    → (new : List ℕ) → ChangesOnly old new q.at (size picture.table q.type) → (v w : Value) (its : List ℕ) → Holds old picture.table q v its → Holds new picture.table q w its
    → IsHeld new (with_roots picture which (before ++ with_item root j (with_value_at path w) ∷ after))
written old picture held which before root after among j within path q leads new changes v w its was is =
    let a = root_comes_apart old picture held which before root after among in
    let mine = root_apart old picture held which before root after a in
    let p = part_comes_apart old picture.table held.laid_out.is_table root a.its a.holds_it mine j within path q leads in
    written_there old picture held which before root after a j path q p new changes v w its was is

-- ---- storing a number

-- any 8 bytes are a number
pub number_held : (bytes : List ℕ) (table : Table) (place : Place) → form_at table place.type ≡ Some Form.i64 → Holds bytes table place (Int (signed_long bytes place.at)) []
number_held bytes table place is = holds {place = place} Form.i64 _ nil [] is refl holds_none refl refl

pub part_fits : (old : List ℕ) (picture : Picture) (held : IsHeld old picture) (which : Listed) (before : List Root) (root : Root) (after : List Root) → roots_in picture which ≡ before ++ root ∷ after
    → (j : ℕ) → j < count root.values → (path : List Selector) (q : Place) → Leads old picture.table (item_of picture.table root j) path q → q.at + size picture.table q.type ≤ length old
part_fits old picture held which before root after among j within path q leads =
    let a = root_comes_apart old picture held which before root after among in
    let mine = root_apart old picture held which before root after a in
    let p = part_comes_apart old picture.table held.laid_out.is_table root a.its a.holds_it mine j within path q leads in
    fits a p
  where
    fits : (a : RootComesApart old picture held which before root after) → PartComesApart old picture.table root a.its j path q → q.at + size picture.table q.type ≤ length old
    fits a p =
        let heap = held.laid_out.heap in
        let c = alone p.home (positions (live old)) held.index_blocks held.root_blocks a.left a.its a.right p.left p.its p.right held.owners a.blocks_are p.blocks_are p.home_is (live-once old (word old 16) heap p.home) in
        let l = there _ p.home (positions (live old)) (live-lie old (word old 16) heap) c.0 in
        omega (arith, l.high, p.lies_in.high)

pub stored : (old : List ℕ) (picture : Picture) (held : IsHeld old picture) (which : Listed) (before : List Root) (root : Root) (after : List Root) → roots_in picture which ≡ before ++ root ∷ after
    → (j : ℕ) → j < count root.values → (path : List Selector) (q : Place) → Leads old picture.table (item_of picture.table root j) path q
    → (x : ℕ) → form_at picture.table q.type ≡ Some Form.i64 → x < 2 ^ 64
    → IsHeld (set_long old q.at x) (with_roots picture which (before ++ with_item root j (with_value_at path (Int (signed x))) ∷ after))
stored old picture held which before root after among j within path q leads x is_number small =
    let eight : size picture.table q.type ≡ 8 = size-form picture.table held.laid_out.is_table q.type Form.i64 is_number in
    let fits = part_fits old picture held which before root after among j within path q leads in
    let changes : ChangesOnly old (set_long old q.at x) q.at (size picture.table q.type) = rw eight (set_number-changes 8 old q.at x) in
    let number : signed_long (set_long old q.at x) q.at ≡ signed x = ap signed (number-set_same 8 old q.at x (omega arith) small) in
    written old picture held which before root after among j within path q leads (set_long old q.at x) changes (Int (signed_long old q.at)) (Int (signed x)) []
    (number_held old picture.table q is_number) (subst (λ n. Holds (set_long old q.at x) picture.table q (Int n) []) number (number_held (set_long old q.at x) picture.table q is_number))
