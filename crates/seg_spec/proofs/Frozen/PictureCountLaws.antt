-- The counts of a picture's frozen objects, if a root is destroyed: the blocks apart from the root,
-- and the objects that remain.
use Rattle.std.proofs.Common.{◌≡◌, ◌≢◌, ℕ, zero, suc, ◌+◌, ◌-◌, ◌≤◌, true, false, List, [], ◌∷◌, ◌++◌, length, map, cond, eqb, refl, sym, ap, ◌∙◌, subst, arith}
use Rattle.std.specs.List.{AllByRecursion}
use Rattle.std.proofs.lemmas.Bool.Decides.{nat_tests}
use Rattle.std.proofs.lemmas.List.{append_assoc, append-nil, length-append}
use Rattle.seg_spec.specs.Types.{Table}
use Rattle.seg_spec.specs.Value.{Value, Values, nil, cons}
use Rattle.seg_spec.specs.Heap.{live}
use Rattle.seg_spec.specs.Block.{IsOwnable}
use Rattle.seg_spec.specs.Reads.{Place}
use Rattle.seg_spec.specs.Index.{Root}
use Rattle.seg_spec.specs.Frozen.{Frozen, root_of_frozen, blocks_by}
use Rattle.seg_spec.specs.Sound.{Picture, roots_of, frozen_roots, HoldsRoot, HoldsRoots, holds_no_root, holds_more_roots, IsHeld, times, SameBlocks, positions}
use Rattle.seg_spec.specs.Roots.{StretchesComeApart}
use Rattle.seg_spec.specs.Shared.{names_in, names_each, names_of, named_in, named_each, times_named, IsBelow, AreDistinct, IsCounted, IsFalling, IsReleasing, kept_with, left, freed_with, freed}
use Rattle.seg_spec.specs.Releasing.{lowered, let_go}
use Rattle.seg_spec.specs.Destroying.{HoldFrozen}
use Rattle.seg_spec.specs.Clearing.{SharedBeside}
use Rattle.seg_spec.specs.Counting.{cells_in, owners_in, AreCounted, without_cells}
use Rattle.seg_spec.proofs.Heap.LiveBlockLaws.{times-append, times-same}
use Rattle.seg_spec.proofs.Values.PlaceFrameLaws.{each_weaker, each_left, each_right}
use Rattle.seg_spec.proofs.Images.LooseRootLaws.{each_joined}
use Rattle.seg_spec.proofs.Values.CallPlaceLaws.{live_at}
use Rattle.seg_spec.proofs.Images.RootStretchLaws.{stretches_come_apart}
use Rattle.seg_spec.proofs.Frozen.SharedLaws.{named-append, names_later, left_each, counted_again}
use Rattle.seg_spec.proofs.Frozen.ReleaseOrderLaws.{everywhere, left_same, names_apart, turn_same, counted_next, falling_lowered, none_gone}
use Rattle.seg_spec.proofs.Frozen.CountDecreaseLaws.{positions_of, each_positions, picked}

-- ---- the objects that are freed and the objects that remain

-- each block of the objects belongs to an object that remains, or to one that is freed
pub left_and_freed : (theirs : ℕ → List ℕ) (gone : List Place) (fs : List Frozen) (h : ℕ) → times h (blocks_by theirs fs) ≡ times h (blocks_by theirs (left gone fs)) + times h (blocks_by theirs (freed gone fs))
left_and_freed theirs gone [] h = refl
left_and_freed theirs gone (f ∷ fs) h = go (f.count - times_named f.at gone) (left_and_freed theirs (gone ++ names_in f.value) fs h) (left_and_freed theirs gone fs h)
  where
    By : List Frozen → ℕ
    By gs = times h (blocks_by theirs gs)

    more : List Place
    more = gone ++ names_in f.value

    go : (n : ℕ) → By fs ≡ By (left more fs) + By (freed more fs) → By fs ≡ By (left gone fs) + By (freed gone fs)
        → By (f ∷ fs) ≡ By (kept_with f n (left more fs) (left gone fs)) + By (freed_with f n (freed more fs) (freed gone fs))
    go zero goes stays = omega (arith, goes, times-append h (theirs f.at) (blocks_by theirs fs), times-append h (theirs f.at) (blocks_by theirs (freed more fs)))
    go (suc n) goes stays = omega (arith, stays, times-append h (theirs f.at) (blocks_by theirs fs), times-append h (theirs f.at) (blocks_by theirs (left gone fs)))

pub falling_left : (gone : List Place) (fs : List Frozen) → IsFalling fs → IsFalling (left gone fs)
falling_left gone [] l = tt
falling_left gone (f ∷ fs) l = go (f.count - times_named f.at gone) (falling_left (gone ++ names_in f.value) fs l.1) (falling_left gone fs l.1)
  where
    go : (n : ℕ) → IsFalling (left (gone ++ names_in f.value) fs) → IsFalling (left gone fs) → IsFalling (kept_with f n (left (gone ++ names_in f.value) fs) (left gone fs))
    go zero without with_it = without
    go (suc n) without with_it = (left_each (λ (g : Frozen). g.number ≤ f.number) (λ g k h. h) gone fs l.0, with_it)

-- ---- the same cells, in any order

pub counted_by : (next : ℕ) (fs : List Frozen) (xs ys : List Place) → ((p : ℕ) → times_named p xs ≡ times_named p ys) → AllByRecursion (IsBelow next fs) ys → IsCounted next fs xs → IsCounted next fs ys
counted_by next fs xs ys same named c = record {
  distinct = c.distinct;
  numbered = c.numbered;
  named = named;
  falling = c.falling;
  some = c.some;
  counts = each_weaker _ (λ (f : Frozen). f.count ≡ times_named f.at (ys ++ names_of fs))
      (λ f e. e ∙ (let a = named-append f.at xs (names_of fs) in let b = named-append f.at ys (names_of fs) in let s = same f.at in omega arith)) fs c.counts;
}

-- the cells of the middle list may come first
pub counted_first : (next : ℕ) (fs : List Frozen) (xs ys zs : List Place) → IsCounted next fs (xs ++ (ys ++ zs)) → IsCounted next fs (ys ++ (xs ++ zs))
counted_first next fs xs ys zs c =
    let P = IsBelow next fs in
    let rest = each_right P xs (ys ++ zs) c.named in
    counted_by next fs (xs ++ (ys ++ zs)) (ys ++ (xs ++ zs))
    (λ p.
    let a = named-append p xs (ys ++ zs) in
    let b = named-append p ys zs in
    let d = named-append p ys (xs ++ zs) in
    let e = named-append p xs zs in
    omega arith)
    (each_joined P ys (xs ++ zs) (each_left P ys zs rest) (each_joined P xs zs (each_left P xs (ys ++ zs) c.named) (each_right P ys zs rest))) c

-- ---- cells that are released one list after the other

-- releasing the cells of two lists at once leaves the same objects as releasing one list after the
-- other
pub left_in_turn : (most next : ℕ) (xs ys kept : List Place) (fs : List Frozen) → length xs + length (names_of fs) ≤ most → IsFalling fs → IsCounted next fs ((xs ++ ys) ++ kept) → left (xs ++ ys) fs ≡ left ys (left xs fs)
left_in_turn most next [] ys kept fs few falling c = ap (left ys) (sym (none_gone fs c.some))
left_in_turn zero next (q ∷ rest) ys kept fs few falling c = absurd (omega arith)
left_in_turn (suc most) next (q ∷ rest) ys kept fs few falling c =
    let later = names_later fs falling c.falling in
    let more = let_go q.at fs in
    let fewer = lowered q.at fs in
    let joined = length-append rest more in
    let parts = names_apart length refl length-append q.at fs in
    let turn = counted_next next q (rest ++ ys) kept fs c in
    let same : (p : ℕ) → times_named p ((rest ++ ys) ++ more) ≡ times_named p ((rest ++ more) ++ ys) = λ p.
    let a = named-append p (rest ++ ys) more in
    let b = named-append p rest ys in
    let d = named-append p (rest ++ more) ys in
    let e = named-append p rest more in
    omega arith in
    let P = IsBelow next fewer in
    let first = each_left P ((rest ++ ys) ++ more) kept turn.named in
    let those = each_left P (rest ++ ys) more first in
    let names = each_joined P ((rest ++ more) ++ ys) kept
    (each_joined P (rest ++ more) ys (each_joined P rest more (each_left P rest ys those) (each_right P (rest ++ ys) more first)) (each_right P rest ys those))
    (each_right P ((rest ++ ys) ++ more) kept turn.named) in
    let then = counted_by next fewer (((rest ++ ys) ++ more) ++ kept) (((rest ++ more) ++ ys) ++ kept)
    (λ p. let a = named-append p ((rest ++ ys) ++ more) kept in let b = named-append p ((rest ++ more) ++ ys) kept in let s = same p in omega arith) names turn in
    turn_same q (rest ++ ys) fs c.distinct later ∙ left_same ((rest ++ ys) ++ more) ((rest ++ more) ++ ys) fewer (everywhere _ _ fewer same)
    ∙ left_in_turn most next (rest ++ more) ys kept fewer (omega arith) (falling_lowered q.at fs falling) then ∙ ap (left ys) (sym (turn_same q rest fs c.distinct later))

-- the targets at some positions, and the other targets
record Chosen (P : Place → Type 0) (xs ys : List ℕ) (qs : List Place) : Type 0 where
  first : List Place
  rest : List Place
  first_are : SameBlocks (positions_of first) xs
  rest_are : SameBlocks (positions_of rest) ys
  same : (p : ℕ) → times_named p qs ≡ times_named p (first ++ rest)
  each : AllByRecursion P (first ++ rest)

chosen : (P : Place → Type 0) (xs ys : List ℕ) (qs : List Place) → SameBlocks (positions_of qs) (xs ++ ys) → AllByRecursion P qs → Chosen P xs ys qs
chosen P [] ys qs same a = record { first = []; rest = qs; first_are = λ h. refl; rest_are = same; same = λ p. refl; each = a }
chosen P (x ∷ xs) ys qs same a =
    let k = picked x qs (omega (arith, same x, times-same x (xs ++ ys))) in
    let q = k.name in
    let others = k.before ++ k.after in
    let all : AllByRecursion P (k.before ++ q ∷ k.after) = subst (AllByRecursion P) k.are a in
    let behind = each_right P k.before (q ∷ k.after) all in
    let counts : (p : ℕ) → times_named p qs ≡ times_named p (q ∷ []) + times_named p others = λ p.
    let e : times_named p qs ≡ times_named p (k.before ++ q ∷ k.after) = ap (times_named p) k.are in
    let b = named-append p k.before (q ∷ k.after) in
    let d = named-append p (q ∷ []) k.after in
    let f = named-append p k.before k.after in
    omega arith in
    let one : (h : ℕ) → times h (q.at ∷ []) ≡ times h (x ∷ []) = λ h. ap (λ y. times h (y ∷ [])) k.at_is in
    let r = chosen P xs ys others (λ h. omega (arith, same h, counts h, one h, times-append h (x ∷ []) (xs ++ ys))) (each_joined P k.before k.after (each_left P k.before (q ∷ k.after) all) behind.1) in
    record {
      first = q ∷ r.first;
      rest = r.rest;
      first_are = λ h. omega (arith, r.first_are h, one h, times-append h (q.at ∷ []) (positions_of r.first), times-append h (x ∷ []) xs);
      rest_are = r.rest_are;
      same = λ p. omega (arith, counts p, r.same p, named-append p (q ∷ []) (r.first ++ r.rest));
      each = (behind.0, r.each);
    }

-- the targets xs are released first, and ys afterwards
pub record InTurn (kept : List Place) (final : List Frozen) (xs ys : List ℕ) (now : List Frozen) : Type 0 where
  pub others : List Place
  pub mid : List Frozen
  pub first : IsReleasing others mid xs now
  pub then : IsReleasing kept final ys mid

pub in_turn : (kept : List Place) (final : List Frozen) (xs ys : List ℕ) (now : List Frozen) → IsReleasing kept final (xs ++ ys) now → InTurn kept final xs ys now
in_turn kept final xs ys now r =
    let P = IsBelow r.next now in
    let k = chosen P xs ys r.pending r.pending_are (each_left P r.pending kept r.counted.named) in
    let counted = counted_by r.next now (r.pending ++ kept) ((k.first ++ k.rest) ++ kept)
    (λ p. let a = named-append p r.pending kept in let b = named-append p (k.first ++ k.rest) kept in let s = k.same p in omega arith)
    (each_joined P (k.first ++ k.rest) kept k.each (each_right P r.pending kept r.counted.named)) r.counted in
    let apart = subst (IsCounted r.next now) (append_assoc k.first k.rest kept) counted in
    record {
      others = k.rest ++ kept;
      mid = left k.first now;
      first = record { pending = k.first; pending_are = k.first_are; next = r.next; counted = apart; falling = r.falling; leaves = refl };
      then = record {
        pending = k.rest;
        pending_are = k.rest_are;
        next = r.next;
        counted = counted_again r.next k.first (k.rest ++ kept) now r.falling apart;
        falling = falling_left k.first now r.falling;
        leaves = sym (left_in_turn (length k.first + length (names_of now)) r.next k.first k.rest kept now (omega arith) r.falling counted)
            ∙ sym (left_same r.pending (k.first ++ k.rest) now (everywhere _ _ now k.same)) ∙ r.leaves;
      };
    }

-- if no target remains to be released, the remaining objects are the final ones
pub all_released : (kept : List Place) (final : List Frozen) (now : List Frozen) → IsReleasing kept final [] now → now ≡ final
all_released kept final now r = go r.pending r.pending_are r.counted.some r.leaves
  where
    go : (qs : List Place) → SameBlocks (positions_of qs) [] → AllByRecursion (λ (f : Frozen). 1 ≤ f.count) now → left qs now ≡ final → now ≡ final
    go [] same some leaves = sym (none_gone now some) ∙ leaves
    go (q ∷ qs) same some leaves = absurd (omega (arith, same q.at, times-same q.at (positions_of qs)))

-- ---- the objects with the blocks that they own

pub record Owned (bytes : List ℕ) (table : Table) (fs : List Frozen) (blocks : List ℕ) : Type 0 where
  pub theirs : ℕ → List ℕ
  pub holds : HoldFrozen bytes table theirs fs
  pub blocks_are : blocks ≡ blocks_by theirs fs

-- the blocks of an object are added to the blocks of others
abbrev with_first : ℕ → List ℕ → (ℕ → List ℕ) → ℕ → List ℕ
with_first at its theirs p = cond (eqb at p) its (theirs p)

at_first : (at : ℕ) (its : List ℕ) (theirs : ℕ → List ℕ) → with_first at its theirs at ≡ its
at_first at its theirs = let same : eqb at at ≡ true = grind (arith, nat_tests) in rw same refl

at_others : (at : ℕ) (its : List ℕ) (theirs : ℕ → List ℕ) (p : ℕ) → p ≢ at → with_first at its theirs p ≡ theirs p
at_others at its theirs p ne = let other : eqb at p ≡ false = grind (arith, nat_tests) in rw other refl

blocks_others : (at : ℕ) (its : List ℕ) (theirs : ℕ → List ℕ) (gs : List Frozen) → AllByRecursion (λ (g : Frozen). g.at ≢ at) gs → blocks_by theirs gs ≡ blocks_by (with_first at its theirs) gs
blocks_others at its theirs [] a = refl
blocks_others at its theirs (g ∷ gs) a =
    ap (λ bs. bs ++ blocks_by theirs gs) (sym (at_others at its theirs g.at a.0)) ∙ ap (λ bs. with_first at its theirs g.at ++ bs) (blocks_others at its theirs gs a.1)

module _ (bytes : List ℕ) (table : Table) where
  pub roots_held : (theirs : ℕ → List ℕ) (fs : List Frozen) → HoldFrozen bytes table theirs fs → HoldsRoots bytes table (map root_of_frozen fs) (blocks_by theirs fs)
  roots_held theirs [] h = holds_no_root
  roots_held theirs (f ∷ fs) h = holds_more_roots h.0 (roots_held theirs fs h.1)

  hold_others : (at : ℕ) (its : List ℕ) (theirs : ℕ → List ℕ) (gs : List Frozen) → AllByRecursion (λ (g : Frozen). g.at ≢ at) gs → HoldFrozen bytes table theirs gs → HoldFrozen bytes table (with_first at its theirs) gs
  hold_others at its theirs [] a h = tt
  hold_others at its theirs (g ∷ gs) a h = (subst (λ bs. HoldsRoot bytes table (root_of_frozen g) bs) (sym (at_others at its theirs g.at a.0)) h.0, hold_others at its theirs gs a.1 h.1)

  pub owned_by : (fs : List Frozen) (blocks : List ℕ) → AreDistinct fs → HoldsRoots bytes table (map root_of_frozen fs) blocks → Owned bytes table fs blocks
  owned_by [] _ d holds_no_root = record { theirs = λ p. []; holds = tt; blocks_are = refl }
  owned_by (f ∷ fs) _ d (holds_more_roots {blocks = xs} {rest = ys} h hs) =
      let r = owned_by fs ys d.1 hs in
      let own = sym (at_first f.at xs r.theirs) in
      record {
        theirs = with_first f.at xs r.theirs;
        holds = (subst (λ bs. HoldsRoot bytes table (root_of_frozen f) bs) own h, hold_others f.at xs r.theirs fs d.0 r.holds);
        blocks_are = ap (λ bs. bs ++ ys) own ∙ ap (λ bs. with_first f.at xs r.theirs f.at ++ bs) (r.blocks_are ∙ blocks_others f.at xs r.theirs fs d.0);
      }

-- ---- the targets of several values

pub named_more : (v : Value) (vs : Values) → named_each (cons v vs) ≡ named_in v ++ named_each vs
unfolding named_each
named_more v vs = refl

pub named_nothing : named_each nil ≡ []
unfolding named_each
named_nothing = refl

pub named_one : (v : Value) → named_each (cons v nil) ≡ named_in v
named_one v = named_more v nil ∙ ap (λ ns. named_in v ++ ns) named_nothing ∙ append-nil (named_in v)

-- ---- a root is destroyed

pub cells_append : (xs ys : List Root) → cells_in (xs ++ ys) ≡ cells_in xs ++ cells_in ys
cells_append [] ys = refl
cells_append (x ∷ xs) ys = ap (λ cs. names_each x.values ++ cs) (cells_append xs ys) ∙ sym (append_assoc (names_each x.values) (cells_in xs) (cells_in ys))

-- the cells in the root and the cells in the others are all that are counted
pub counted_apart : (next : ℕ) (picture : Picture) (before : List Root) (root : Root) (after : List Root) → owners_in picture ≡ before ++ root ∷ after → AreCounted next picture
    → IsCounted next picture.frozen (names_each root.values ++ cells_in (before ++ after))
counted_apart next picture before root after split c =
    subst (λ cs. IsCounted next picture.frozen (names_each root.values ++ cs)) (sym (cells_append before after))
    (counted_first next picture.frozen (cells_in before) (names_each root.values) (cells_in after)
    (subst (IsCounted next picture.frozen) (ap cells_in split ∙ cells_append before (root ∷ after)) c.counted))

-- after the root is destroyed, the frozen objects count the remaining cells
pub counted_without : (next : ℕ) (picture other : Picture) (before : List Root) (root : Root) (after : List Root) → owners_in picture ≡ before ++ root ∷ after → owners_in other ≡ before ++ after → other.frozen ≡ picture.frozen
    → AreCounted next picture → AreCounted next (without_cells (names_each root.values) other)
counted_without next picture other before root after split others same c =
    let gone = names_each root.values in
    let again = counted_again next gone (cells_in (before ++ after)) picture.frozen c.falling (counted_apart next picture before root after split c) in
    record {
      counted = subst (λ cs. IsCounted next (left gone other.frozen) cs) (sym (ap cells_in others)) (subst (λ fs. IsCounted next (left gone fs) (cells_in (before ++ after))) (sym same) again);
      falling = subst (λ fs. IsFalling (left gone fs)) (sym same) (falling_left gone picture.frozen c.falling);
    }

-- the same, if the root is at another place among the owners
pub counted_elsewhere : (next : ℕ) (picture other : Picture) (before after others_before others_after : List Root) (root : Root) → owners_in picture ≡ before ++ root ∷ after → owners_in other ≡ others_before ++ root ∷ others_after
    → before ++ after ≡ others_before ++ others_after → other.frozen ≡ picture.frozen → AreCounted next picture → AreCounted next other
counted_elsewhere next picture other before after others_before others_after root split others same frozen c =
    let mine = names_each root.values in
    let apart = counted_apart next picture before root after split c in
    let moved : IsCounted next picture.frozen (mine ++ (cells_in others_before ++ cells_in others_after)) =
    subst (λ cs. IsCounted next picture.frozen (mine ++ cs)) (ap cells_in same ∙ cells_append others_before others_after) apart in
    let all : IsCounted next picture.frozen (cells_in (owners_in other)) =
    subst (IsCounted next picture.frozen) (sym (ap cells_in others ∙ cells_append others_before (root ∷ others_after))) (counted_first next picture.frozen mine (cells_in others_before) (cells_in others_after) moved) in
    record { counted = subst (λ fs. IsCounted next fs (cells_in (owners_in other))) (sym frozen) all; falling = subst IsFalling (sym frozen) c.falling }

-- the root before all others and the frozen objects
pub owners_first : (picture : Picture) (before : List Root) (root : Root) (after : List Root) → owners_in picture ≡ before ++ root ∷ after
    → roots_of picture ≡ before ++ ((root ∷ []) ++ (after ++ (frozen_roots picture ++ [])))
owners_first picture before root after split =
    let regrouped : roots_of picture ≡ owners_in picture ++ frozen_roots picture = simp append_assoc in
    regrouped ∙ ap (λ rs. rs ++ frozen_roots picture) split ∙ simp (append_assoc, append-nil)

-- the values of the root are destroyed, and frozen objects are apart from its blocks
pub record OwnerBeside (bytes : List ℕ) (picture : Picture) (held : IsHeld bytes picture) (before : List Root) (root : Root) (after : List Root) : Type 0 where
  pub apart : StretchesComeApart bytes picture held before (root ∷ []) after (frozen_roots picture) []
  pub theirs : ℕ → List ℕ
  pub seconds_are : apart.seconds ≡ blocks_by theirs picture.frozen
  pub beside : SharedBeside bytes picture.table apart.firsts (named_each root.values) theirs (cells_in (before ++ after)) picture.frozen (left (names_each root.values) picture.frozen)
  pub counts : (h : ℕ) → times h (positions (live bytes)) ≡ times h held.index_blocks + times h apart.around + times h apart.firsts + times h (blocks_by theirs picture.frozen)

pub owner_beside : (next : ℕ) (bytes : List ℕ) (picture : Picture) (held : IsHeld bytes picture) (before : List Root) (root : Root) (after : List Root) → owners_in picture ≡ before ++ root ∷ after → AreCounted next picture
    → OwnerBeside bytes picture held before root after
owner_beside next bytes picture held before root after split c =
    let fs = picture.frozen in
    let s = stretches_come_apart bytes picture held before (root ∷ []) after (frozen_roots picture) [] (owners_first picture before root after split) in
    let o = owned_by bytes picture.table fs s.seconds c.counted.distinct s.holds_second in
    let counts : (h : ℕ) → times h (positions (live bytes)) ≡ times h held.index_blocks + times h s.around + times h s.firsts + times h (blocks_by o.theirs fs) = λ h.
    let a = held.owners h in
    let b = times-append h held.index_blocks held.root_blocks in
    let d = s.blocks_are h in
    let e : times h s.seconds ≡ times h (blocks_by o.theirs fs) = ap (times h) o.blocks_are in
    omega arith in
    record {
      apart = s;
      theirs = o.theirs;
      seconds_are = o.blocks_are;
      beside = record {
        holds = o.holds;
        ownable = λ h some. live_at (IsOwnable bytes picture.table) (live bytes) h held.laid_out.blocks (omega (arith, counts h));
        owned = λ h. omega (arith, counts h, times-append h s.firsts (blocks_by o.theirs fs));
        releasing = record {
          pending = names_each root.values;
          pending_are = λ h. ap (times h) (each_positions root.values);
          next = next;
          counted = counted_apart next picture before root after split c;
          falling = c.falling;
          leaves = refl;
        };
      };
      counts = counts;
    }
