-- Frozen objects to which cells still point stay. Lists of frozen objects with the same positions and
-- values, to which the same cells point, have the same counts.
use Rattle.std.proofs.Common.{◌≡◌, ◌≢◌, ℕ, zero, suc, ◌+◌, ◌-◌, ◌⊎◌, inl, inr, List, [], ◌∷◌, ◌++◌, refl, sym, ap, ◌∙◌, subst, arith}
use Rattle.std.specs.List.{AllByRecursion}
use Rattle.seg_spec.specs.Reads.{Place}
use Rattle.seg_spec.specs.Frozen.{Frozen}
use Rattle.seg_spec.specs.Shared.{names_in, names_of, times_named, IsBelow, AreDistinct, IsCounted, IsFalling, kept_with, left}
use Rattle.seg_spec.proofs.Values.PlaceFrameLaws.{each_weaker}
use Rattle.seg_spec.proofs.Frozen.SharedLaws.{named-append, counted_again}
use Rattle.test_definitions.proofs.Frozen.ReachedFrozenLaws.{StandsAt, below_stands, all_reached}
use Rattle.test_definitions.proofs.Frozen.FrozenOrderLaws.{IsOneOf, each_of, taken, one_of_parts, part_one_of, distinct_parts}

-- an object has the same position, type, number and value
pub record SameContent (f g : Frozen) : Type 0 where
  pub at : g.at ≡ f.at
  pub type : g.type ≡ f.type
  pub number : g.number ≡ f.number
  pub value : g.value ≡ f.value

pub record Found (f : Frozen) (gs : List Frozen) : Type 0 where
  pub object : Frozen
  pub among : IsOneOf object gs
  pub same : SameContent f object

-- ---- objects that remain

-- each is one of the objects before, up to its count
pub left_found : (r : Frozen) (gone : List Place) (fs : List Frozen) → IsOneOf r (left gone fs) → Found r fs
left_found r gone [] i = absurd i
left_found r gone (f ∷ fs) i = go (f.count - times_named f.at gone) (left_found r (gone ++ names_in f.value) fs) (left_found r gone fs) i
  where
    further : Found r fs → Found r (f ∷ fs)
    further k = record { object = k.object; among = inr k.among; same = k.same }

    go : (n : ℕ) → (IsOneOf r (left (gone ++ names_in f.value) fs) → Found r fs) → (IsOneOf r (left gone fs) → Found r fs) → IsOneOf r (kept_with f n (left (gone ++ names_in f.value) fs) (left gone fs)) → Found r (f ∷ fs)
    go zero without with_it i = further (without i)
    go (suc n) without with_it (inl e) = record { object = f; among = inl refl; same = subst (λ x. SameContent x f) (sym e) (record { at = refl; type = refl; number = refl; value = refl }) }
    go (suc n) without with_it (inr i) = further (with_it i)

-- if the objects of `gs` that were in `fs` have their values, and the cells in `kept` point to objects
-- of `gs`, the objects that remain are there
module _ (next next_too : ℕ) (gone kept : List Place) (fs gs : List Frozen) (falling : IsFalling fs) (counted : IsCounted next fs (gone ++ kept)) (after : IsCounted next_too gs kept)
    (values : (f g : Frozen) → IsOneOf f fs → IsOneOf g gs → g.at ≡ f.at → g.value ≡ f.value) where
  stand : (n : ℕ) (cells : List Place) → AllByRecursion (IsBelow n gs) cells → AllByRecursion (λ (q : Place). StandsAt q.at gs) cells
  stand n cells = each_weaker (IsBelow n gs) (λ (q : Place). StandsAt q.at gs) (λ q b. (below_stands n gs q b).0) cells

  falls : AllByRecursion (λ (g : Frozen). AllByRecursion (λ (q : Place). StandsAt q.at gs) (names_in g.value)) gs
  falls = each_weaker (λ (g : Frozen). AllByRecursion (IsBelow g.number gs) (names_in g.value)) (λ (g : Frozen). AllByRecursion (λ (q : Place). StandsAt q.at gs) (names_in g.value)) (λ g. stand g.number (names_in g.value)) gs after.falling

  pub stays : (r : Frozen) → IsOneOf r (left gone fs) → StandsAt r.at gs
  stays = all_reached next (left gone fs) kept (counted_again next gone kept fs falling counted) gs falls (stand next_too kept after.named)
      (λ f g i j at. let k = left_found f gone fs i in sym (values k.object g k.among j (sym at ∙ sym k.same.at) ∙ k.same.value))

-- ---- counts

pub turned : {f g : Frozen} → SameContent f g → SameContent g f
turned s = record { at = sym s.at; type = sym s.type; number = sym s.number; value = sym s.value }

-- two objects with the content of a third
pub then_same : {f g h : Frozen} → SameContent f g → SameContent f h → SameContent g h
then_same a b = record { at = b.at ∙ sym a.at; type = b.type ∙ sym a.type; number = b.number ∙ sym a.number; value = b.value ∙ sym a.value }

names_of_parts : (p : ℕ) (f : Frozen) (before after : List Frozen) → times_named p (names_of (before ++ f ∷ after)) ≡ times_named p (names_in f.value) + times_named p (names_of (before ++ after))
names_of_parts p f [] after = named-append p (names_in f.value) (names_of after)
names_of_parts p f (b ∷ before) after =
    let rest = names_of_parts p f before after in
    omega (arith, rest, named-append p (names_in b.value) (names_of (before ++ f ∷ after)), named-append p (names_in b.value) (names_of (before ++ after)))

-- objects at the same positions with the same values have the same cells
same_names : (p : ℕ) (fs gs : List Frozen) → AreDistinct fs → AreDistinct gs → ((f : Frozen) → IsOneOf f fs → Found f gs) → ((g : Frozen) → IsOneOf g gs → Found g fs) → times_named p (names_of fs) ≡ times_named p (names_of gs)
same_names p [] [] d e forth back = refl
same_names p [] (g ∷ gs) d e forth back = absurd (back g (inl refl)).among
same_names p (f ∷ fs) gs d e forth back =
    let it = forth f (inl refl) in
    let t = taken it.object gs it.among in
    let rest = t.before ++ t.after in
    let parts = distinct_parts it.object t.after t.before (subst AreDistinct t.are e) in
    let further : (x : Frozen) → IsOneOf x fs → Found x rest = λ x i. (
    let k = forth x (inr i) in
    record {
      object = k.object;
      among = elim (one_of_parts it.object t.after k.object t.before (subst (IsOneOf k.object) t.are k.among)) [
        | inl same ↦ absurd (each_of (λ g. g.at ≢ f.at) x fs i d.0 (sym k.same.at ∙ ap (λ (y : Frozen). y.at) same ∙ it.same.at))
        | inr j ↦ j
      ];
      same = k.same;
    }) in
    let backward : (y : Frozen) → IsOneOf y rest → Found y fs = λ y i. earlier y (each_of (λ g. g.at ≢ it.object.at) y rest i parts.0) it.same.at (back y (subst (IsOneOf y) (sym t.are) (part_one_of it.object t.after y t.before i))) in
    let later = same_names p fs rest d.1 parts.1 further backward in
    let here = ap (λ xs. times_named p (names_of xs)) t.are ∙ names_of_parts p it.object t.before t.after in
    let value = ap (λ v. times_named p (names_in v)) it.same.value in
    omega (arith, later, here, value, named-append p (names_in f.value) (names_of fs))
  where
    earlier : {at : ℕ} (y : Frozen) → y.at ≢ at → at ≡ f.at → Found y (f ∷ fs) → Found y fs
    earlier y other e k = by k.among
      where
        by : (k.object ≡ f) ⊎ IsOneOf k.object fs → Found y fs
        by (inl same) = absurd (other (sym k.same.at ∙ ap (λ (z : Frozen). z.at) same ∙ sym e))
        by (inr i) = record { object = k.object; among = i; same = k.same }

-- objects with the same content, to which the same cells point, are the same
pub counted_same : (n m : ℕ) (kept : List Place) (fs gs : List Frozen) → IsCounted n fs kept → IsCounted m gs kept → ((f : Frozen) → IsOneOf f fs → Found f gs) → ((g : Frozen) → IsOneOf g gs → Found g fs)
    → (f : Frozen) → IsOneOf f fs → IsOneOf f gs
counted_same n m kept fs gs a b forth back f i =
    let k = forth f i in
    let g = k.object in
    let mine = each_of (λ (x : Frozen). x.count ≡ times_named x.at (kept ++ names_of fs)) f fs i a.counts in
    let theirs = each_of (λ (x : Frozen). x.count ≡ times_named x.at (kept ++ names_of gs)) g gs k.among b.counts in
    let cells = same_names f.at fs gs a.distinct b.distinct forth back in
    let moved = ap (λ p. times_named p (kept ++ names_of gs)) k.same.at in
    let counts : g.count ≡ f.count = omega (arith, mine, theirs, cells, moved, named-append f.at kept (names_of fs), named-append f.at kept (names_of gs)) in
    let same : g ≡ f = λ j. record { at = k.same.at j; type = k.same.type j; number = k.same.number j; count = counts j; value = k.same.value j } in
    subst (λ x. IsOneOf x gs) same k.among
