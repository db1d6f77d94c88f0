-- Each frozen object is reached from the values of the roots. So two images have the same frozen objects,
-- if the shared cells of their roots are the same, and objects at one position have one content.
use Rattle.std.proofs.Common.{◌≡◌, ◌≢◌, ℕ, zero, suc, ◌+◌, ◌<◌, ◌≤◌, ◌⊎◌, inl, inr, List, [], ◌∷◌, ◌++◌, map, refl, sym, ap, ◌∙◌, subst, arith}
use Rattle.std.specs.List.{AllByRecursion}
use Rattle.std.proofs.lemmas.Bool.{cases_eq}
use Rattle.seg_spec.specs.Types.{Table}
use Rattle.seg_spec.specs.Reads.{Place}
use Rattle.seg_spec.specs.Frozen.{Frozen, root_of_frozen}
use Rattle.seg_spec.specs.Sound.{HoldsRoots, holds_no_root, times, SameBlocks}
use Rattle.seg_spec.specs.Shared.{names_in, names_of, times_named, IsBelow, AreDistinct, IsCounted}
use Rattle.seg_spec.proofs.Heap.LiveBlockLaws.{times-append, times-other}
use Rattle.seg_spec.proofs.Frozen.SharedLaws.{named-append}
use Rattle.seg_spec.proofs.Images.RootLaws.{HoldsRoots-split, HoldsRoots-append}
use Rattle.test_definitions.proofs.Frozen.FrozenOrderLaws.{IsOneOf, each_of, taken, one_of_parts, part_one_of, distinct_parts}

-- one of the objects is at this position
pub record StandsAt (p : ℕ) (fs : List Frozen) : Type 0 where
  pub object : Frozen
  pub among : IsOneOf object fs
  pub at_is : object.at ≡ p

pub below_stands : (n : ℕ) (fs : List Frozen) (q : Place) → IsBelow n fs q → (s : StandsAt q.at fs) × (s.object.number < n)
below_stands n [] q b = absurd b
below_stands n (f ∷ fs) q (inl b) = (record { object = f; among = inl refl; at_is = b.0 }, b.2)
below_stands n (f ∷ fs) q (inr b) = (let s = below_stands n fs q b in (record { object = s.0.object; among = inr s.0.among; at_is = s.0.at_is }, s.1))

-- a cell that points there
record PointsTo (p : ℕ) (cells : List Place) (P : Place → Type 0) : Type 0 where
  cell : Place
  at_is : cell.at ≡ p
  fact : P cell

points_to : (p : ℕ) (cells : List Place) (P : Place → Type 0) → AllByRecursion P cells → 1 ≤ times_named p cells → PointsTo p cells P
points_to p [] P a l = absurd (omega (arith, l))
points_to p (q ∷ cells) P a l = go (points_to p cells P a.1) (cases_eq q.at p)
  where
    go : (1 ≤ times_named p cells → PointsTo p cells P) → (q.at ≡ p) ⊎ (q.at ≢ p) → PointsTo p (q ∷ cells) P
    go later (inl e) = record { cell = q; at_is = e; fact = a.0 }
    go later (inr other) =
        let more = later (omega (arith, l, times-other p q.at (map (λ (r : Place). r.at) cells) other)) in
        record { cell = more.cell; at_is = more.at_is; fact = more.fact }

-- an object with such a cell
record Holder (p : ℕ) (fs : List Frozen) : Type 0 where
  object : Frozen
  among : IsOneOf object fs
  points : 1 ≤ times_named p (names_in object.value)

holder : (p : ℕ) (fs : List Frozen) → 1 ≤ times_named p (names_of fs) → Holder p fs
holder p [] l = absurd (omega (arith, l))
holder p (f ∷ fs) l = go (holder p fs) (cases_eq (times_named p (names_in f.value)) 0)
  where
    go : (1 ≤ times_named p (names_of fs) → Holder p fs) → (times_named p (names_in f.value) ≡ 0) ⊎ (times_named p (names_in f.value) ≢ 0) → Holder p (f ∷ fs)
    go later (inr some) = record { object = f; among = inl refl; points = omega (arith, some) }
    go later (inl none) = (let h = later (omega (arith, l, none, named-append p (names_in f.value) (names_of fs))) in record { object = h.object; among = inr h.among; points = h.points })

one_at : (fs : List Frozen) (f g : Frozen) → AreDistinct fs → IsOneOf f fs → IsOneOf g fs → f.at ≡ g.at → f ≡ g
one_at [] f g d i j e = absurd i
one_at (h ∷ fs) f g d (inl a) (inl b) e = a ∙ sym b
one_at (h ∷ fs) f g d (inl a) (inr j) e = absurd (each_of (λ k. k.at ≢ h.at) g fs j d.0 (sym e ∙ ap (λ (k : Frozen). k.at) a))
one_at (h ∷ fs) f g d (inr i) (inl b) e = absurd (each_of (λ k. k.at ≢ h.at) f fs i d.0 (e ∙ ap (λ (k : Frozen). k.at) b))
one_at (h ∷ fs) f g d (inr i) (inr j) e = one_at fs f g d.1 i j e

pub same_object : (fs : List Frozen) (f g : Frozen) → AreDistinct fs → IsOneOf f fs → IsOneOf g fs → f.at ≡ g.at → f ≡ g
same_object = one_at

module _ (next : ℕ) (fs : List Frozen) (cells : List Place) (counted : IsCounted next fs cells) (gs : List Frozen) (falls : AllByRecursion (λ (g : Frozen). AllByRecursion (λ (q : Place). StandsAt q.at gs) (names_in g.value)) gs)
    (roots : AllByRecursion (λ (q : Place). StandsAt q.at gs) cells) (content : (f g : Frozen) → IsOneOf f fs → IsOneOf g gs → f.at ≡ g.at → f.value ≡ g.value) where
  reached : (k : ℕ) (f : Frozen) → IsOneOf f fs → next ≤ k + f.number → StandsAt f.at gs
  reached zero f i l = absurd (let n = each_of (λ (g : Frozen). g.number < next) f fs i counted.numbered in omega (arith, l, n))
  reached (suc k) f i l =
      let some = each_of (λ (g : Frozen). 1 ≤ g.count) f fs i counted.some in
      let n = each_of (λ (g : Frozen). g.count ≡ times_named g.at (cells ++ names_of fs)) f fs i counted.counts in
      let split = named-append f.at cells (names_of fs) in
      go (λ h among less. reached k h among (omega (arith, l, less))) (cases_eq (times_named f.at cells) 0) (λ none. omega (arith, some, n, split, none))
    where
      go : ((h : Frozen) → IsOneOf h fs → f.number < h.number → StandsAt h.at gs) → (times_named f.at cells ≡ 0) ⊎ (times_named f.at cells ≢ 0) → (times_named f.at cells ≡ 0 → 1 ≤ times_named f.at (names_of fs)) → StandsAt f.at gs
      go up_from (inr more) other =
          let c = points_to f.at cells (λ (q : Place). StandsAt q.at gs) roots (omega (arith, more)) in
          subst (λ p. StandsAt p gs) c.at_is c.fact
      go up_from (inl none) other =
          let h = holder f.at fs (other none) in
          let lower = points_to f.at (names_in h.object.value) (IsBelow h.object.number fs) (each_of (λ (g : Frozen). AllByRecursion (IsBelow g.number fs) (names_in g.value)) h.object fs h.among counted.falling) h.points in
          let s = below_stands h.object.number fs lower.cell lower.fact in
          let it : s.0.object ≡ f = one_at fs s.0.object f counted.distinct s.0.among i (s.0.at_is ∙ lower.at_is) in
          let less : f.number < h.object.number = subst (λ (x : Frozen). x.number < h.object.number) it s.1 in
          let up = up_from h.object h.among less in
          let same = content h.object up.object h.among up.among (sym up.at_is) in
          let there = each_of (λ (g : Frozen). AllByRecursion (λ (q : Place). StandsAt q.at gs) (names_in g.value)) up.object gs up.among falls in
          let c = points_to f.at (names_in h.object.value) (λ (q : Place). StandsAt q.at gs) (subst (λ v. AllByRecursion (λ (q : Place). StandsAt q.at gs) (names_in v)) (sym same) there) h.points in
          subst (λ p. StandsAt p gs) c.at_is c.fact

  -- each object is at the position of one of the others
  pub all_reached : (f : Frozen) → IsOneOf f fs → StandsAt f.at gs
  all_reached f i = reached next f i (omega arith)

-- ---- in another order

map_parts : (before : List Frozen) (f : Frozen) (after : List Frozen) → map root_of_frozen (before ++ f ∷ after) ≡ map root_of_frozen before ++ root_of_frozen f ∷ map root_of_frozen after
map_parts [] f after = refl
map_parts (b ∷ before) f after = ap (λ rs. root_of_frozen b ∷ rs) (map_parts before f after)

map_both : (before after : List Frozen) → map root_of_frozen (before ++ after) ≡ map root_of_frozen before ++ map root_of_frozen after
map_both [] after = refl
map_both (b ∷ before) after = ap (λ rs. root_of_frozen b ∷ rs) (map_both before after)

module _ (bytes : List ℕ) (table : Table) where
  pub record HeldInOrder (fs : List Frozen) (blocks : List ℕ) : Type 0 where
    pub its : List ℕ
    pub holds : HoldsRoots bytes table (map root_of_frozen fs) its
    pub same : SameBlocks its blocks

  none_held : {blocks : List ℕ} → HoldsRoots bytes table [] blocks → blocks ≡ []
  none_held holds_no_root = refl

  -- the objects are held in any order
  pub held_in_order : (fs gs : List Frozen) (blocks : List ℕ) → AreDistinct fs → AreDistinct gs → ((x : Frozen) → IsOneOf x fs → IsOneOf x gs) → ((x : Frozen) → IsOneOf x gs → IsOneOf x fs)
      → HoldsRoots bytes table (map root_of_frozen gs) blocks → HeldInOrder fs blocks
  held_in_order [] [] blocks d e forth back h = record { its = blocks; holds = h; same = λ k. refl }
  held_in_order [] (g ∷ gs) blocks d e forth back h = absurd (back g (inl refl))
  held_in_order (f ∷ fs) gs blocks d e forth back h =
      let t = taken f gs (forth f (inl refl)) in
      let all = t.before ++ t.after in
      let distinct = subst AreDistinct t.are e in
      let others = distinct_parts f t.after t.before distinct in
      let forth' : (x : Frozen) → IsOneOf x fs → IsOneOf x all = λ x i. elim (one_of_parts f t.after x t.before (subst (IsOneOf x) t.are (forth x (inr i)))) [
        | inl e ↦ absurd (each_of (λ g. g.at ≢ f.at) x fs i d.0 (ap (λ (y : Frozen). y.at) e))
        | inr j ↦ j
      ] in
      let back' : (x : Frozen) → IsOneOf x all → IsOneOf x fs = λ x i. elim (back x (subst (IsOneOf x) (sym t.are) (part_one_of f t.after x t.before i))) [
        | inl e ↦ absurd (each_of (λ g. g.at ≢ f.at) x all i others.0 (ap (λ (y : Frozen). y.at) e))
        | inr j ↦ j
      ] in
      let here = subst (λ rs. HoldsRoots bytes table rs blocks) (ap (map root_of_frozen) t.are ∙ map_parts t.before f t.after) h in
      let s = HoldsRoots-split bytes table (map root_of_frozen t.before) (root_of_frozen f ∷ map root_of_frozen t.after) blocks here in
      let m = HoldsRoots-split bytes table (root_of_frozen f ∷ []) (map root_of_frozen t.after) s.right s.rights in
      let rest = held_in_order fs all (s.left ++ m.right) d.1 others.1 forth' back' (subst (λ rs. HoldsRoots bytes table rs (s.left ++ m.right)) (sym (map_both t.before t.after)) (HoldsRoots-append bytes table s.lefts m.rights)) in
      record {
        its = m.left ++ rest.its;
        holds = HoldsRoots-append bytes table m.lefts rest.holds;
        same = λ k. (
            let a = times-append k m.left rest.its in
            let b = rest.same k in
            let c = times-append k s.left m.right in
            let u = ap (times k) s.blocks_are ∙ times-append k s.left s.right in
            let v = ap (times k) m.blocks_are ∙ times-append k m.left m.right in
            omega arith);
      }
