-- The bytes of an image determine its frozen objects, up to the order of objects with one number.
-- They also determine which of them are freed.
use Rattle.std.proofs.Common.{◌≡◌, ◌≢◌, ℕ, zero, suc, ◌+◌, ◌-◌, ◌%◌, ◌≤◌, ◌⊎◌, inl, inr, Bool, true, false, List, [], ◌∷◌, ◌++◌, map, cond, eqb, refl, sym, ap, ◌∙◌, subst, arith}
use Rattle.std.specs.List.{AllByRecursion}
use Rattle.std.proofs.lemmas.Bool.{cases_eq}
use Rattle.seg_spec.specs.Types.{Table}
use Rattle.seg_spec.specs.Heap.{tag_at, live}
use Rattle.seg_spec.specs.Block.{block_of, tag_of}
use Rattle.seg_spec.specs.Reads.{Place, Holds}
use Rattle.seg_spec.specs.Index.{Root}
use Rattle.seg_spec.specs.Frozen.{Frozen, root_of_frozen, blocks_by}
use Rattle.seg_spec.specs.Sound.{Picture, IsHeld, IsPlain, frozen_roots, kind_with, HoldsRoot, HoldsRoots, holds_no_root, holds_more_roots, times, positions}
use Rattle.seg_spec.specs.Shared.{names_in, times_named, IsBelow, AreDistinct, IsCounted, IsFalling, freed_with, freed, with_count, raised, raised_by}
use Rattle.seg_spec.specs.Counting.{AreCounted}
use Rattle.seg_spec.proofs.Heap.LiveBlockLaws.{times-append, times-same, times-other, there}
use Rattle.seg_spec.proofs.Values.OneValueLaws.{Holds-one}
use Rattle.seg_spec.proofs.Values.PlaceFrameLaws.{each_left, each_right, each_weaker}
use Rattle.seg_spec.proofs.Images.RootLaws.{HoldsRoots-split}
use Rattle.seg_spec.proofs.Frozen.ReleaseLaws.{IsFrozenThere, frozen_there}
use Rattle.seg_spec.proofs.Frozen.CountIncreaseLaws.{falling_raised}
use Rattle.seg_spec.proofs.Frozen.OneMoreCellLaws.{distinct_raised}
use Rattle.client_sim.proofs.Names.OnePictureLaws.{Held-one}
use Rattle.test_definitions.proofs.ValueChanges.BlockKindLaws.{OfValues, Tagged, value_tagged, roots_tagged}
use Rattle.test_definitions.proofs.Alike.RootMemberLaws.{IsAmong, among_right, counts, owns, index_tagged, names_plain}
use Rattle.test_definitions.proofs.Frozen.FrozenOrderLaws.{IsOneOf, each_of, PointLower, freed_in_any_order}

-- ---- where frozen objects are

-- an object is determined by its position
pub frozen-one : (bytes : List ℕ) (table : Table) (f g : Frozen) (xs ys : List ℕ) → f.at ≡ g.at → HoldsRoot bytes table (root_of_frozen f) xs → HoldsRoot bytes table (root_of_frozen g) ys → f ≡ g
frozen-one bytes table f g xs ys at h k =
    let a = frozen_there bytes table f xs h in
    let b = frozen_there bytes table g ys k in
    let tags = sym a.block.has_tag ∙ ap (λ p. tag_at bytes (block_of p)) at ∙ b.block.has_tag in
    let types : f.type ≡ g.type = omega (arith, tags) in
    let place : Place = record { at = g.at + 8; type = g.type } in
    let moved : Holds bytes table place f.value a.inside = subst (λ q. Holds bytes table q f.value a.inside) (λ i. record { at = at i + 8; type = types i }) a.value in
    let values : f.value ≡ g.value = (Holds-one bytes table moved b.value).0 in
    let counts : f.count ≡ g.count = sym a.count_is ∙ rw at b.count_is in
    let numbers : f.number ≡ g.number = sym a.number_is ∙ rw at b.number_is in
    λ i. record { at = at i; type = types i; number = numbers i; count = counts i; value = values i }

abbrev NotFrozen : ℕ → Type 0
NotFrozen t = t % 256 ≢ 7

values_not_frozen : OfValues NotFrozen
values_not_frozen = record { buffer = λ T e. absurd (omega arith); node = λ T e. absurd (omega arith); object = λ T e. absurd (omega arith) }

root_not_frozen : (name : List ℕ) (T : ℕ) → NotFrozen (tag_of (kind_with [] name) T)
root_not_frozen [] T e = absurd (omega arith)
root_not_frozen (b ∷ name) T e = absurd (omega arith)

roots_not_frozen : (roots : List Root) → AllByRecursion (λ (r : Root). r.words ≡ []) roots → AllByRecursion (λ (r : Root). NotFrozen (tag_of (kind_with r.words r.name) r.type)) roots
roots_not_frozen [] a = tt
roots_not_frozen (r ∷ roots) a = (subst (λ words. NotFrozen (tag_of (kind_with words r.name) r.type)) (sym a.0) (root_not_frozen r.name r.type), roots_not_frozen roots a.1)

pub record IsFrozenAt (h : ℕ) (fs : List Frozen) : Type 0 where
  pub object : Frozen
  pub among : IsOneOf object fs
  pub block_is : block_of object.at ≡ h

pub among_frozen : (f : Frozen) (fs : List Frozen) → IsOneOf f fs → IsAmong (root_of_frozen f) (map root_of_frozen fs)
among_frozen f [] i = absurd i
among_frozen f (g ∷ gs) (inl e) = inl (ap root_of_frozen e)
among_frozen f (g ∷ gs) (inr i) = inr (among_frozen f gs i)

module _ (bytes : List ℕ) where
  find_frozen : (table : Table) (fs : List Frozen) {all : List ℕ} (h : ℕ) → HoldsRoots bytes table (map root_of_frozen fs) all → tag_at bytes h % 256 ≡ 7 → 1 ≤ times h all → IsFrozenAt h fs
  find_frozen table [] h holds_no_root is l = absurd (omega (arith, l))
  find_frozen table (f ∷ fs) h (holds_more_roots {blocks = xs} {rest = ys} k ks) is l = go (λ m. find_frozen table fs h ks is m) (cases_eq (times h xs) 0)
    where
      o : IsFrozenThere bytes table f xs
      o = frozen_there bytes table f xs k

      inner : (block_of f.at ≡ h) ⊎ (block_of f.at ≢ h) → 1 ≤ times h xs → IsFrozenAt h (f ∷ fs)
      inner (inl e) some = record { object = f; among = inl refl; block_is = e }
      inner (inr other) some =
          let same : times h xs ≡ times h (block_of f.at ∷ o.inside) = ap (times h) o.blocks_are in
          let further : 1 ≤ times h o.inside = omega (arith, some, same, times-other h (block_of f.at) o.inside other) in
          absurd (there (Tagged bytes NotFrozen) h o.inside (value_tagged bytes NotFrozen values_not_frozen table o.value) further is)

      go : (1 ≤ times h ys → IsFrozenAt h fs) → (times h xs ≡ 0) ⊎ (times h xs ≢ 0) → IsFrozenAt h (f ∷ fs)
      go later (inl none) = let n = later (omega (arith, l, none, times-append h xs ys)) in record { object = n.object; among = inr n.among; block_is = n.block_is }
      go later (inr some) = inner (cases_eq (block_of f.at) h) (omega (arith, some))

  module _ (p : Picture) (held : IsHeld bytes p) where
    none_of : (h : ℕ) (Q : ℕ → Type 0) (xs : List ℕ) → AllByRecursion Q xs → (Q h → ⊥) → times h xs ≡ 0
    none_of h Q xs a never = elim (cases_eq (times h xs) 0) [ inl e ↦ e | inr more ↦ absurd (never (there Q h xs a (omega (arith, more)))) ]

    none_before : (h : ℕ) → tag_at bytes h % 256 ≡ 7 → (roots : List Root) (xs : List ℕ) → AllByRecursion (λ (r : Root). r.words ≡ []) roots → HoldsRoots bytes p.table roots xs → times h xs ≡ 0
    none_before h is roots xs plain hs = none_of h (Tagged bytes NotFrozen) xs (roots_tagged bytes NotFrozen values_not_frozen p.table (roots_not_frozen roots plain) hs) (λ q. q is)

    -- a block with the tag of a frozen object is one of the picture
    pub of_frozen : (h : ℕ) → 1 ≤ times h (positions (live bytes)) → tag_at bytes h % 256 ≡ 7 → IsFrozenAt h p.frozen
    of_frozen h some is =
        let a = HoldsRoots-split bytes p.table p.names (p.uniques ++ (p.loose ++ frozen_roots p)) held.root_blocks held.roots in
        let b = HoldsRoots-split bytes p.table p.uniques (p.loose ++ frozen_roots p) a.right a.rights in
        let c = HoldsRoots-split bytes p.table p.loose (frozen_roots p) b.right b.rights in
        let plain = held.laid_out.plain in
        let no_words : (roots : List Root) → AllByRecursion IsPlain roots → AllByRecursion (λ (r : Root). r.words ≡ []) roots = λ roots. each_weaker IsPlain (λ (r : Root). r.words ≡ []) (λ r q. q.no_words) roots in
        let no_index : times h held.index_blocks ≡ 0 = elim (cases_eq (times h held.index_blocks) 0) [
          | inl e ↦ e
          | inr more ↦ absurd (index_tagged bytes p held h (omega (arith, more)) (λ e. absurd (omega (arith, is, e)), λ e. absurd (omega (arith, is, e)), λ e. absurd (omega (arith, is, e))))
        ] in
        let in_names = none_before h is p.names a.left (names_plain bytes p held) a.lefts in
        let in_uniques = none_before h is p.uniques b.left (no_words p.uniques (each_left IsPlain p.uniques p.loose plain)) b.lefts in
        let in_loose = none_before h is p.loose c.left (no_words p.loose (each_right IsPlain p.uniques p.loose plain)) c.lefts in
        let e = ap (times h) a.blocks_are ∙ times-append h a.left a.right in
        let f = ap (times h) b.blocks_are ∙ times-append h b.left b.right in
        let g = ap (times h) c.blocks_are ∙ times-append h c.left c.right in
        find_frozen p.table p.frozen h c.rights is (omega (arith, some, counts bytes p held h, no_index, in_names, in_uniques, in_loose, e, f, g))

    pub record IsThere (f : Frozen) : Type 0 where
      pub its : List ℕ
      pub holds : HoldsRoot bytes p.table (root_of_frozen f) its
      pub is_live : 1 ≤ times (block_of f.at) (positions (live bytes))

    pub is_there : (f : Frozen) → IsOneOf f p.frozen → IsThere f
    is_there f i =
        let root = root_of_frozen f in
        let among = among_right root p.names (p.uniques ++ (p.loose ++ frozen_roots p)) (among_right root p.uniques (p.loose ++ frozen_roots p) (among_right root p.loose (frozen_roots p) (among_frozen f p.frozen i))) in
        let o = owns bytes p held root held.roots among in
        let there_is = frozen_there bytes p.table f o.its o.holds_it in
        let own : times (block_of f.at) o.its ≡ times (block_of f.at) (block_of f.at ∷ there_is.inside) = ap (times (block_of f.at)) there_is.blocks_are in
        record { its = o.its; holds = o.holds_it; is_live = omega (arith, own, times-same (block_of f.at) there_is.inside, o.fewer (block_of f.at), counts bytes p held (block_of f.at)) }

  -- each frozen object of one picture is in the other
  pub in_both : (p q : Picture) → IsHeld bytes p → IsHeld bytes q → (f : Frozen) → IsOneOf f p.frozen → IsOneOf f q.frozen
  in_both p q h k f i =
      let a = is_there p h f i in
      let o = frozen_there bytes p.table f a.its a.holds in
      let other = of_frozen q k (block_of f.at) a.is_live (let t = o.block.has_tag in omega (arith, t)) in
      let b = is_there q k other.object other.among in
      let o' = frozen_there bytes q.table other.object b.its b.holds in
      let tables = (Held-one bytes p q h k).table in
      let at : f.at ≡ other.object.at = omega (arith, other.block_is, o.block.after_header, o'.block.after_header) in
      let same : f ≡ other.object = frozen-one bytes q.table f other.object a.its b.its at (rw (← tables) a.holds) b.holds in
      subst (λ g. IsOneOf g q.frozen) (sym same) other.among

-- ---- what is freed

pub raised_one : ℕ → Frozen → Frozen
raised_one p f = cond (eqb f.at p) (with_count f (suc f.count)) f

pub record WasRaised (p : ℕ) (x : Frozen) (fs : List Frozen) : Type 0 where
  pub before : Frozen
  pub among : IsOneOf before fs
  pub is : x ≡ raised_one p before
  pub at : x.at ≡ before.at
  pub number : x.number ≡ before.number
  pub value : x.value ≡ before.value

pub was_raised : (p : ℕ) (x : Frozen) (fs : List Frozen) → IsOneOf x (raised p fs) → WasRaised p x fs
unfolding raised_one
was_raised p x [] i = absurd i
was_raised p x (f ∷ fs) (inl e) = record {
  before = f;
  among = inl refl;
  is = e;
  at = ap (λ (y : Frozen). y.at) e ∙ at_is (eqb f.at p);
  number = ap (λ (y : Frozen). y.number) e ∙ number_is (eqb f.at p);
  value = ap (λ (y : Frozen). y.value) e ∙ value_is (eqb f.at p);
}
  where
    at_is : (b : Bool) → (cond b (with_count f (suc f.count)) f).at ≡ f.at
    at_is true = refl
    at_is false = refl

    number_is : (b : Bool) → (cond b (with_count f (suc f.count)) f).number ≡ f.number
    number_is true = refl
    number_is false = refl

    value_is : (b : Bool) → (cond b (with_count f (suc f.count)) f).value ≡ f.value
    value_is true = refl
    value_is false = refl
was_raised p x (f ∷ fs) (inr i) = let w = was_raised p x fs i in record { before = w.before; among = inr w.among; is = w.is; at = w.at; number = w.number; value = w.value }

raised_among : (p : ℕ) (f : Frozen) (fs : List Frozen) → IsOneOf f fs → IsOneOf (raised_one p f) (raised p fs)
unfolding raised_one
raised_among p f [] i = absurd i
raised_among p f (g ∷ gs) (inl e) = inl (ap (λ y. cond (eqb y.at p) (with_count y (suc y.count)) y) e)
raised_among p f (g ∷ gs) (inr i) = inr (raised_among p f gs i)

-- two lists of the same objects, in orders in which `freed` can be compared
pub record Reordered (fs gs : List Frozen) : Type 0 where
  pub forth : (x : Frozen) → IsOneOf x fs → IsOneOf x gs
  pub back : (x : Frozen) → IsOneOf x gs → IsOneOf x fs
  pub distinct : AreDistinct fs
  pub falling : IsFalling fs
  pub lower : PointLower fs
  pub distinct_too : AreDistinct gs
  pub falling_too : IsFalling gs

raised_both : (p : ℕ) (fs gs : List Frozen) → Reordered fs gs → Reordered (raised p fs) (raised p gs)
raised_both p fs gs r = record {
  forth = λ x i. (let w = was_raised p x fs i in subst (λ y. IsOneOf y (raised p gs)) (sym w.is) (raised_among p w.before gs (r.forth w.before w.among)));
  back = λ x i. (let w = was_raised p x gs i in subst (λ y. IsOneOf y (raised p fs)) (sym w.is) (raised_among p w.before fs (r.back w.before w.among)));
  distinct = distinct_raised p fs r.distinct;
  falling = falling_raised p fs r.falling;
  lower = λ f g i j no_higher. (
      let a = was_raised p f fs i in
      let b = was_raised p g fs j in
      ap (λ n. times_named n (names_in f.value)) b.at ∙ ap (λ v. times_named b.before.at (names_in v)) a.value
      ∙ r.lower a.before b.before a.among b.among (omega (arith, no_higher, a.number, b.number)));
  distinct_too = distinct_raised p gs r.distinct_too;
  falling_too = falling_raised p gs r.falling_too;
}

pub raised_by_both : (names : List Place) (fs gs : List Frozen) → Reordered fs gs → Reordered (raised_by names fs) (raised_by names gs)
raised_by_both [] fs gs r = r
raised_by_both (q ∷ names) fs gs r = raised_both q.at (raised_by names fs) (raised_by names gs) (raised_by_both names fs gs r)

-- an object doesn't point to one that has no lower number
pub point_lower : (next : ℕ) (fs : List Frozen) (cells : List Place) → IsCounted next fs cells → PointLower fs
point_lower next fs cells c f g i j no_higher = none (names_in f.value) (each_of _ f fs i c.falling)
  where
    apart : (n : ℕ) (gs : List Frozen) (q : Place) → n ≤ g.number → AreDistinct gs → IsOneOf g gs → IsBelow n gs q → q.at ≢ g.at
    apart n [] q l d o b same = absurd b
    apart n (h ∷ hs) q l d (inl e) (inl b) same = absurd (let at = ap (λ (y : Frozen). y.number) e in omega (arith, l, b.2, at))
    apart n (h ∷ hs) q l d (inl e) (inr b) same = absurd (elsewhere hs d.0 b (same ∙ ap (λ (y : Frozen). y.at) e))
      where
        elsewhere : (ks : List Frozen) → AllByRecursion (λ k. k.at ≢ h.at) ks → IsBelow n ks q → q.at ≡ h.at → ⊥
        elsewhere [] a b e = b
        elsewhere (k ∷ ks) a (inl b) e = a.0 (b.0 ∙ e)
        elsewhere (k ∷ ks) a (inr b) e = elsewhere ks a.1 b e
    apart n (h ∷ hs) q l d (inr o) (inl b) same = absurd (each_of (λ k. k.at ≢ h.at) g hs o d.0 (sym same ∙ sym b.0))
    apart n (h ∷ hs) q l d (inr o) (inr b) same = apart n hs q l d.1 o b same

    none : (qs : List Place) → AllByRecursion (IsBelow f.number fs) qs → times_named g.at qs ≡ 0
    none [] a = refl
    none (q ∷ qs) a = times-other g.at q.at (map (λ (r : Place). r.at) qs) (apart f.number fs q no_higher c.distinct j a.0) ∙ none qs a.1

pub reordered_then : {fs gs hs : List Frozen} → Reordered fs gs → Reordered gs hs → Reordered fs hs
reordered_then a b = record { forth = λ x i. b.forth x (a.forth x i); back = λ x i. a.back x (b.back x i); distinct = a.distinct; falling = a.falling; lower = a.lower; distinct_too = b.distinct_too; falling_too = b.falling_too }

pub reordered : (bytes : List ℕ) (next : ℕ) (p q : Picture) → IsHeld bytes p → IsHeld bytes q → AreCounted next p → AreCounted next q → Reordered p.frozen q.frozen
reordered bytes next p q h k a b = record {
  forth = in_both bytes p q h k;
  back = in_both bytes q p k h;
  distinct = a.counted.distinct;
  falling = a.falling;
  lower = point_lower next p.frozen _ a.counted;
  distinct_too = b.counted.distinct;
  falling_too = b.falling;
}

-- the blocks of each object, by its position
by_same : (theirs others : ℕ → List ℕ) (fs : List Frozen) → AllByRecursion (λ (f : Frozen). theirs f.at ≡ others f.at) fs → blocks_by theirs fs ≡ blocks_by others fs
by_same theirs others [] a = refl
by_same theirs others (f ∷ fs) a = ap (λ xs. xs ++ blocks_by theirs fs) a.0 ∙ ap (λ xs. others f.at ++ xs) (by_same theirs others fs a.1)

each_from : (P : Frozen → Type 0) (fs : List Frozen) → ((f : Frozen) → IsOneOf f fs → P f) → AllByRecursion P fs
each_from P [] a = tt
each_from P (f ∷ fs) a = (a f (inl refl), each_from P fs (λ g i. a g (inr i)))

freed_each : (P : Frozen → Type 0) (gone : List Place) (fs : List Frozen) → AllByRecursion P fs → AllByRecursion P (freed gone fs)
freed_each P gone [] a = tt
freed_each P gone (f ∷ fs) a = go (f.count - times_named f.at gone) (freed (gone ++ names_in f.value) fs) (freed gone fs) (freed_each P (gone ++ names_in f.value) fs a.1) (freed_each P gone fs a.1)
  where
    go : (n : ℕ) (xs ys : List Frozen) → AllByRecursion P xs → AllByRecursion P ys → AllByRecursion P (freed_with f n xs ys)
    go zero xs ys b c = (a.0, b)
    go (suc n) xs ys b c = c

raised_each : (P : ℕ → Type 0) (p : ℕ) (fs : List Frozen) → AllByRecursion (λ (f : Frozen). P f.at) fs → AllByRecursion (λ (f : Frozen). P f.at) (raised p fs)
raised_each P p [] a = tt
raised_each P p (f ∷ fs) a = (go (eqb f.at p), raised_each P p fs a.1)
  where
    go : (b : Bool) → P (cond b (with_count f (suc f.count)) f).at
    go true = a.0
    go false = a.0

raised_by_each : (P : ℕ → Type 0) (names : List Place) (fs : List Frozen) → AllByRecursion (λ (f : Frozen). P f.at) fs → AllByRecursion (λ (f : Frozen). P f.at) (raised_by names fs)
raised_by_each P [] fs a = a
raised_by_each P (q ∷ names) fs a = raised_each P q.at (raised_by names fs) (raised_by_each P names fs a)

-- The objects that are freed have the same blocks, whatever the order of the lists. The counts of
-- some may have been raised before.
pub freed_blocks : (names gone : List Place) (fs gs : List Frozen) (theirs others : ℕ → List ℕ) → Reordered fs gs → ((f : Frozen) → IsOneOf f gs → theirs f.at ≡ others f.at)
    → (h : ℕ) → times h (blocks_by theirs (freed gone (raised_by names fs))) ≡ times h (blocks_by others (freed gone (raised_by names gs)))
freed_blocks names gone fs gs theirs others order same h =
    let each = raised_by_each (λ p. theirs p ≡ others p) names gs (each_from (λ (f : Frozen). theirs f.at ≡ others f.at) gs same) in
    let r = raised_by_both names fs gs order in
    freed_in_any_order theirs h gone (raised_by names fs) (raised_by names gs) r.distinct r.falling r.lower r.distinct_too r.falling_too r.forth r.back
    ∙ ap (times h) (by_same theirs others (freed gone (raised_by names gs)) (freed_each (λ (f : Frozen). theirs f.at ≡ others f.at) gone (raised_by names gs) each))
