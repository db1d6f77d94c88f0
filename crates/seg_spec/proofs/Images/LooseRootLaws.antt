-- Loose roots of an image are replaced by others.
use Rattle.std.proofs.Common.{◌≡◌, ℕ, ◌+◌, ◌≤◌, List, [], ◌∷◌, ◌++◌, length, refl, ap, subst, arith}
use Rattle.std.specs.List.{AllByRecursion}
use Rattle.seg_spec.specs.Bytes.{word}
use Rattle.seg_spec.specs.Header.{allocator_word, KeepsFront, KeepsBack}
use Rattle.seg_spec.specs.Heap.{live, IsHeap}
use Rattle.seg_spec.specs.Block.{IsOwnable, KeepsBlock}
use Rattle.seg_spec.specs.Index.{Root}
use Rattle.seg_spec.specs.Sound.{Picture, IsPlain, HoldsRoots, IsLaidOut, IsHeld, times, SameBlocks, positions}
use Rattle.seg_spec.specs.Roots.{loose, with_roots, roots_before, roots_after, RootsComeApart}
use Rattle.seg_spec.proofs.Values.PlaceFrameLaws.{each_left, each_right}
use Rattle.seg_spec.proofs.Heap.LiveBlockLaws.{times-append, each_there, live-once}
use Rattle.seg_spec.proofs.Images.RootLaws.{roots_with, roots_are, roots_come_apart, IsLaidOut-kept, IsLaidOut-loose}

pub each_joined : {X : Type 0} (Q : X → Type 0) (xs ys : List X) → AllByRecursion Q xs → AllByRecursion Q ys → AllByRecursion Q (xs ++ ys)
each_joined Q [] ys a b = b
each_joined Q (x ∷ xs) ys a b = (a.0, each_joined Q xs ys a.1 b)

-- The new heap is well-formed. From the allocated blocks `its` were removed, and `theirs` were added.
-- The other blocks are kept.
pub record Trades (old new : List ℕ) (picture : Picture) (its theirs : List ℕ) : Type 0 where
  pub length_kept : length new ≡ length old
  pub front_kept : KeepsFront old new
  pub back_kept : KeepsBack old new
  pub heap : IsHeap (word old allocator_word) new
  pub ownable : AllByRecursion (λ b. IsOwnable new picture.table b.at) (live new)
  pub kept : (h : ℕ) → 1 ≤ times h (positions (live old)) → times h its ≡ 0 → KeepsBlock old new h
  pub counts : (h : ℕ) → times h (positions (live new)) + times h its ≡ times h (positions (live old)) + times h theirs

-- loose objects are plain
plain_loose : (us ls : List Root) → AllByRecursion IsPlain (us ++ ls) → AllByRecursion IsPlain ls
plain_loose us ls a = each_right IsPlain us ls a

module _ (old new : List ℕ) (picture : Picture) (held : IsHeld old picture) (before gone after : List Root) (split : picture.loose ≡ before ++ (gone ++ after)) where
  pub apart : RootsComeApart old picture held (roots_before picture loose before) gone (roots_after picture loose after)
  apart = roots_come_apart old picture held (roots_before picture loose before) gone (roots_after picture loose after) (roots_are picture loose before gone after split)

  -- the blocks of the removed objects
  pub its : List ℕ
  its = apart.its

  pub holds_its : HoldsRoots old picture.table gone its
  unfolding its
  holds_its = apart.holds_them

  -- these blocks are allocated, each once
  all_counts : (h : ℕ) → times h (positions (live old)) ≡ times h held.index_blocks + times h apart.left + times h its + times h apart.right
  unfolding its
  all_counts h =
      let o = held.owners h in
      let n0 = times-append h held.index_blocks held.root_blocks in
      let n1 : times h held.root_blocks ≡ times h (apart.left ++ (apart.its ++ apart.right)) = ap (times h) apart.blocks_are in
      let n2 = times-append h apart.left (apart.its ++ apart.right) in
      let n3 = times-append h apart.its apart.right in
      omega arith

  pub its_live : (h : ℕ) → times h its ≤ times h (positions (live old))
  its_live h = omega (arith, all_counts h)

  module _ (come : List Root) (theirs : List ℕ) (trades : Trades old new picture its theirs) (comes : HoldsRoots new picture.table come theirs) (plain : AllByRecursion IsPlain come) where
    once : (h : ℕ) → times h (positions (live old)) ≤ 1
    once h = live-once old (word old allocator_word) held.laid_out.heap h

    stays : (xs : List ℕ) → ((h : ℕ) → times h xs + times h its ≤ times h (positions (live old))) → AllByRecursion (KeepsBlock old new) xs
    stays xs f = each_there (KeepsBlock old new) xs (λ h some. let l = f h in let o = once h in trades.kept h (omega arith) (omega arith))

    index_kept : AllByRecursion (KeepsBlock old new) held.index_blocks
    index_kept = stays held.index_blocks (λ h. omega (arith, all_counts h))

    others_kept : AllByRecursion (KeepsBlock old new) (apart.left ++ apart.right)
    others_kept = stays (apart.left ++ apart.right) (λ h. omega (arith, all_counts h, times-append h apart.left apart.right))

    all_plain : AllByRecursion IsPlain (before ++ (come ++ after))
    all_plain =
        let ls : AllByRecursion IsPlain (before ++ (gone ++ after)) = subst (λ rs. AllByRecursion IsPlain rs) split (plain_loose picture.uniques picture.loose held.laid_out.plain) in
        each_joined IsPlain before (come ++ after) (each_left IsPlain before (gone ++ after) ls)
        (each_joined IsPlain come after plain (each_right IsPlain gone after (each_right IsPlain before (gone ++ after) ls)))

    laid_out : IsLaidOut new (with_roots picture loose (before ++ (come ++ after))) held.index_blocks
    laid_out = IsLaidOut-loose new picture held.index_blocks (before ++ (come ++ after)) all_plain
        (IsLaidOut-kept old new picture held.index_blocks held.laid_out trades.length_kept trades.front_kept trades.back_kept trades.heap trades.ownable index_kept)

    owners : SameBlocks (positions (live new)) (held.index_blocks ++ (apart.left ++ (theirs ++ apart.right)))
    owners h =
        let c = trades.counts h in
        let a = all_counts h in
        let n0 = times-append h held.index_blocks (apart.left ++ (theirs ++ apart.right)) in
        let n1 = times-append h apart.left (theirs ++ apart.right) in
        let n2 = times-append h theirs apart.right in
        omega arith

    pub loose_traded : IsHeld new (with_roots picture loose (before ++ (come ++ after)))
    loose_traded = apart.becomes new (with_roots picture loose (before ++ (come ++ after))) come held.index_blocks theirs refl (roots_with picture loose before come after) laid_out others_kept comes owners
