-- A cell is released. Its object counts one cell fewer, or is freed, and then the object's own
-- cells are released.
use Rattle.std.proofs.Common.{◌≡◌, ◌≢◌, ℕ, ◌-◌, ◌≤◌, ◌⊎◌, inl, inr, true, false, List, [], ◌∷◌, ◌++◌, map, eqb, refl, sym, ap, ◌∙◌, subst, arith}
use Rattle.std.specs.List.{AllByRecursion}
use Rattle.std.proofs.lemmas.Bool.{cases_eq}
use Rattle.std.proofs.lemmas.Bool.Decides.{nat_tests}
use Rattle.std.proofs.lemmas.List.{map-append}
use Rattle.seg_spec.specs.Value.{Label, Value, node, Values, nil, cons}
use Rattle.seg_spec.specs.Reads.{Place}
use Rattle.seg_spec.specs.Frozen.{Frozen}
use Rattle.seg_spec.specs.Sound.{times}
use Rattle.seg_spec.specs.Shared.{names_in, names_each, names_of, named_in, named_each, times_named, IsBelow, AreDistinct, IsCounted, IsReleasing, left, kept_with}
use Rattle.seg_spec.specs.Releasing.{lowered, names_with, let_go}
use Rattle.seg_spec.proofs.Values.PlaceFrameLaws.{each_weaker, each_left, each_right}
use Rattle.seg_spec.proofs.Heap.LiveBlockLaws.{times-append, times-same, times-other}
use Rattle.seg_spec.proofs.Images.LooseRootLaws.{each_joined}
use Rattle.seg_spec.proofs.Frozen.SharedLaws.{named-append, names_later}
use Rattle.seg_spec.proofs.Frozen.ReleaseOrderLaws.{left_same, everywhere, turn_same, counted_next, falling_lowered}

abbrev pub positions_of : List Place → List ℕ
positions_of qs = map (λ q. q.at) qs

-- the positions of a value's targets
mutual
  unfolding names_in named_in

  pub named_positions : (v : Value) → positions_of (names_in v) ≡ named_in v
  named_positions (node (Label.shared T p) vs) = ap (λ ps. p ∷ ps) (each_positions vs)
  named_positions (node (Label.int k) vs) = each_positions vs
  named_positions (node (Label.text bytes) vs) = each_positions vs
  named_positions (node Label.seq vs) = each_positions vs
  named_positions (node (Label.map keys) vs) = each_positions vs
  named_positions (node Label.opt vs) = each_positions vs
  named_positions (node Label.struct vs) = each_positions vs

  pub each_positions : (vs : Values) → positions_of (names_each vs) ≡ named_each vs
  each_positions nil = refl
  each_positions (cons v vs) = map-append (λ (q : Place). q.at) (names_in v) (names_each vs) ∙ ap (λ ps. ps ++ positions_of (names_each vs)) (named_positions v) ∙ ap (λ ps. named_in v ++ ps) (each_positions vs)

-- ---- a target in a list

pub record Picked (p : ℕ) (qs : List Place) : Type 0 where
  pub before : List Place
  pub name : Place
  pub after : List Place
  pub are : qs ≡ before ++ name ∷ after
  pub at_is : name.at ≡ p

pub picked : (p : ℕ) (qs : List Place) → 1 ≤ times p (positions_of qs) → Picked p qs
picked p [] some = absurd (omega arith)
picked p (q ∷ qs) some = go (cases_eq q.at p) (λ later. picked p qs later)
  where
    go : (q.at ≡ p) ⊎ (q.at ≢ p) → (1 ≤ times p (positions_of qs) → Picked p qs) → Picked p (q ∷ qs)
    go (inl e) pick = record { before = []; name = q; after = qs; are = refl; at_is = e }
    go (inr ne) pick =
        let r = pick (omega (arith, some, times-other p q.at (positions_of qs) ne)) in
        record { before = q ∷ r.before; name = r.name; after = r.after; are = ap (λ xs. q ∷ xs) r.are; at_is = r.at_is }

-- ---- the object of the target

pub record Named (p : ℕ) (now : List Frozen) : Type 0 where
  pub before : List Frozen
  pub object : Frozen
  pub after : List Frozen
  pub are : now ≡ before ++ object ∷ after
  pub at_is : object.at ≡ p
  pub some : 1 ≤ object.count
  pub lowered_is : lowered p now ≡ before ++ kept_with object (object.count - 1) after after
  pub let_go_is : let_go p now ≡ names_with object (object.count - 1)

pub named : (n p : ℕ) (fs : List Frozen) (q : Place) → q.at ≡ p → AreDistinct fs → AllByRecursion (λ (f : Frozen). 1 ≤ f.count) fs → IsBelow n fs q → Named p fs
named n p [] q e d s b = absurd b
named n p (f ∷ fs) q e d s b = go (cases_eq f.at p) b (λ later. named n p fs q e d.1 s.1 later)
  where
    go : (f.at ≡ p) ⊎ (f.at ≢ p) → IsBelow n (f ∷ fs) q → (IsBelow n fs q → Named p fs) → Named p (f ∷ fs)
    go (inl same) b find =
        let test : eqb f.at p ≡ true = grind (arith, nat_tests) in
        record { before = []; object = f; after = fs; are = refl; at_is = same; some = s.0; lowered_is = rw test refl; let_go_is = rw test refl }
    go (inr other) (inl here) find = absurd (other (here.0 ∙ e))
    go (inr other) (inr later) find =
        let test : eqb f.at p ≡ false = grind (arith, nat_tests) in
        let r = find later in
        record {
          before = f ∷ r.before;
          object = r.object;
          after = r.after;
          are = ap (λ xs. f ∷ xs) r.are;
          at_is = r.at_is;
          some = r.some;
          lowered_is = rw test (ap (λ xs. f ∷ xs) r.lowered_is);
          let_go_is = rw test r.let_go_is;
        }

-- ---- after the step

pub record Turned (kept : List Place) (final : List Frozen) (p : ℕ) (names : List ℕ) (now : List Frozen) : Type 0 where
  pub it : Named p now
  pub releasing : IsReleasing kept final (positions_of (let_go p now) ++ names) (lowered p now)

pub turned : (kept : List Place) (final : List Frozen) (p : ℕ) (names : List ℕ) (now : List Frozen) → IsReleasing kept final (p ∷ names) now → Turned kept final p names now
turned kept final p names now r = go (picked p r.pending (omega (arith, r.pending_are p, times-same p names)))
  where
    go : Picked p r.pending → Turned kept final p names now
    go k =
        let q = k.name in
        let rest = k.before ++ k.after in
        let same : (x : ℕ) → times_named x (q ∷ rest) ≡ times_named x r.pending = λ x.
        let a : times_named x r.pending ≡ times_named x (k.before ++ q ∷ k.after) = ap (times_named x) k.are in
        let b = named-append x k.before (q ∷ k.after) in
        let c = named-append x (q ∷ []) rest in
        let d = named-append x k.before k.after in
        let e = named-append x (q ∷ []) k.after in
        omega arith in
        let all : AllByRecursion (IsBelow r.next now) ((k.before ++ q ∷ k.after) ++ kept) = subst (λ qs. AllByRecursion (IsBelow r.next now) (qs ++ kept)) k.are r.counted.named in
        let those = each_left (IsBelow r.next now) (k.before ++ q ∷ k.after) kept all in
        let behind = each_right (IsBelow r.next now) k.before (q ∷ k.after) those in
        let counted : IsCounted r.next now ((q ∷ rest) ++ kept) = record {
          distinct = r.counted.distinct;
          numbered = r.counted.numbered;
          named = (
            behind.0,
            each_joined (IsBelow r.next now) rest kept (each_joined (IsBelow r.next now) k.before k.after (each_left (IsBelow r.next now) k.before (q ∷ k.after) those) behind.1)
                (each_right (IsBelow r.next now) (k.before ++ q ∷ k.after) kept all),
          );
          falling = r.counted.falling;
          some = r.counted.some;
          counts = each_weaker _ (λ (f : Frozen). f.count ≡ times_named f.at (((q ∷ rest) ++ kept) ++ names_of now)) (λ f e. e ∙ (
              let a = named-append f.at (r.pending ++ kept) (names_of now) in
              let b = named-append f.at r.pending kept in
              let c = named-append f.at ((q ∷ rest) ++ kept) (names_of now) in
              let d = named-append f.at (q ∷ rest) kept in
              let s = same f.at in
              omega arith)) now r.counted.counts;
        } in
        let next = counted_next r.next q rest kept now counted in
        let leaves : left (rest ++ let_go q.at now) (lowered q.at now) ≡ final =
        sym (turn_same q rest now counted.distinct (names_later now r.falling counted.falling)) ∙ left_same (q ∷ rest) r.pending now (everywhere (q ∷ rest) r.pending now same) ∙ r.leaves in
        let turn : IsReleasing kept final (positions_of (let_go q.at now) ++ names) (lowered q.at now) = record {
          pending = rest ++ let_go q.at now;
          pending_are = λ h.
              let a = r.pending_are h in
              let s = same h in
              let b = named-append h rest (let_go q.at now) in
              let c = named-append h (q ∷ []) rest in
              let d = times-append h (positions_of (let_go q.at now)) names in
              let e : times h (q.at ∷ []) ≡ times h (p ∷ []) = ap (λ x. times h (x ∷ [])) k.at_is in
              let f = times-append h (p ∷ []) names in
              omega arith;
          next = r.next;
          counted = next;
          falling = falling_lowered q.at now r.falling;
          leaves = leaves;
        } in
        record {
          it = named r.next p now q k.at_is r.counted.distinct r.counted.some behind.0;
          releasing = subst (λ x. IsReleasing kept final (positions_of (let_go x now) ++ names) (lowered x now)) k.at_is turn;
        }
