-- Objects that values share, read as trees.
use Rattle.std.proofs.Common.{◌≡◌, ◌≢◌, ℕ, zero, suc, ◌-◌, ◌<◌, ◌≤◌, inl, inr, true, false, List, [], ◌∷◌, ◌++◌, Some, cond, eqb, refl, sym, ap, ◌∙◌, arith}
use Rattle.std.specs.List.{AllByRecursion}
use Rattle.std.proofs.lemmas.Bool.Decides.{nat_tests}
use Rattle.seg_spec.specs.Value.{Label, Value, node, Values, nil, cons, Full}
use Rattle.seg_spec.specs.Reads.{Place}
use Rattle.seg_spec.specs.Frozen.{Frozen}
use Rattle.seg_spec.specs.Shared.{names_in, names_each, IsBelow, AreDistinct, with_count, kept_with, left, replaced, replaced_each, value_at_position, owner_by, meaning, unfolded, times_named}
use Rattle.seg_spec.proofs.Values.PlaceFrameLaws.{each_left, each_right, each_weaker}
use Rattle.seg_spec.proofs.Frozen.SharedLaws.{below_elsewhere, left_each, wider}

-- ---- values with the same meaning

abbrev Agree : (ℕ → Value) → (ℕ → Value) → List Place → Type 0
Agree f g names = AllByRecursion (λ (q : Place). f q.at ≡ g q.at) names

mutual
  unfolding names_in replaced

  -- a value has the same meaning if its targets have
  pub same_tree : (f g : ℕ → Value) (v : Value) → Agree f g (names_in v) → replaced f v ≡ replaced g v
  same_tree f g (node (Label.shared T p) vs) a = a.0
  same_tree f g (node (Label.int k) vs) a = ap (node (Label.int k)) (same_trees f g vs a)
  same_tree f g (node (Label.text bytes) vs) a = ap (node (Label.text bytes)) (same_trees f g vs a)
  same_tree f g (node Label.seq vs) a = ap (node Label.seq) (same_trees f g vs a)
  same_tree f g (node (Label.map keys) vs) a = ap (node (Label.map keys)) (same_trees f g vs a)
  same_tree f g (node Label.opt vs) a = ap (node Label.opt) (same_trees f g vs a)
  same_tree f g (node Label.struct vs) a = ap (node Label.struct) (same_trees f g vs a)

  same_trees : (f g : ℕ → Value) (vs : Values) → Agree f g (names_each vs) → replaced_each f vs ≡ replaced_each g vs
  same_trees f g nil a = refl
  same_trees f g (cons v vs) a =
      let first = same_tree f g v (each_left _ (names_in v) (names_each vs) a) in
      let rest = same_trees f g vs (each_right _ (names_in v) (names_each vs) a) in
      ap (λ u. cons u (replaced_each f vs)) first ∙ ap (cons (replaced g v)) rest

-- ---- the object of a reference

pub record Found (n : ℕ) (fs : List Frozen) (q : Place) : Type 0 where
  pub object : Frozen
  pub less : object.number < n
  pub value_is : value_at_position fs q.at ≡ Some object.value
  pub names : AllByRecursion (IsBelow object.number fs) (names_in object.value)

pub found_here : (f : Frozen) (fs : List Frozen) (p : ℕ) → f.at ≡ p → value_at_position (f ∷ fs) p ≡ Some f.value
found_here f fs p e = ap (λ b. cond b (Some f.value) (value_at_position fs p)) (let same : eqb f.at p ≡ true = grind (arith, nat_tests) in same)

pub found_after : (f : Frozen) (fs : List Frozen) (p : ℕ) → f.at ≢ p → value_at_position (f ∷ fs) p ≡ value_at_position fs p
found_after f fs p e = ap (λ b. cond b (Some f.value) (value_at_position fs p)) (let other : eqb f.at p ≡ false = grind (arith, nat_tests) in other)

found_in : (n : ℕ) (all fs : List Frozen) (q : Place) → AreDistinct fs → AllByRecursion (λ (f : Frozen). AllByRecursion (IsBelow f.number all) (names_in f.value)) fs → IsBelow n fs q
    → (f : Frozen) × (f.number < n) × (value_at_position fs q.at ≡ Some f.value) × AllByRecursion (IsBelow f.number all) (names_in f.value)
found_in n all [] q d a h = absurd h
found_in n all (f ∷ fs) q d a (inl h) = (f, h.2, found_here f fs q.at h.0, a.0)
found_in n all (f ∷ fs) q d a (inr h) =
    let rest = found_in n all fs q d.1 a.1 h in
    (rest.0, rest.1, found_after f fs q.at (λ e. below_elsewhere f.at n fs q d.0 h (sym e)) ∙ rest.2, rest.3)

pub found : (n : ℕ) (fs : List Frozen) (q : Place) → AreDistinct fs → AllByRecursion (λ (f : Frozen). AllByRecursion (IsBelow f.number fs) (names_in f.value)) fs → IsBelow n fs q → Found n fs q
found n fs q d a h = let f = found_in n fs fs q d a h in record { object = f.0; less = f.1; value_is = f.2; names = f.3 }

-- ---- objects point to lower numbers, so the tree doesn't depend on the allowed depth

module _ (fs : List Frozen) (distinct : AreDistinct fs) (falling : AllByRecursion (λ (f : Frozen). AllByRecursion (IsBelow f.number fs) (names_in f.value)) fs) where
  all_agree : (n m : ℕ) → ((q : Place) → IsBelow n fs q → meaning n fs q.at ≡ meaning m fs q.at) → (qs : List Place) → AllByRecursion (IsBelow n fs) qs → Agree (meaning n fs) (meaning m fs) qs
  all_agree n m each [] a = tt
  all_agree n m each (q ∷ qs) a = (each q a.0, all_agree n m each qs a.1)

  pub deep_enough : (n m : ℕ) (q : Place) → n ≤ m → IsBelow n fs q → meaning n fs q.at ≡ meaning m fs q.at
  unfolding meaning
  deep_enough zero m q l h = let f = found zero fs q distinct falling h in absurd (let less = f.less in omega arith)
  deep_enough (suc n) zero q l h = absurd (omega arith)
  deep_enough (suc n) (suc m) q l h =
      let f = found (suc n) fs q distinct falling h in
      let below = each_weaker (IsBelow f.object.number fs) (IsBelow n fs) (λ r k. wider f.object.number n fs r (let less = f.less in omega arith) k) (names_in f.object.value) f.names in
      let inside = all_agree n m (λ r k. deep_enough n m r (omega arith) k) (names_in f.object.value) below in
      let trees = same_tree (meaning n fs) (meaning m fs) f.object.value inside in
      ap (owner_by (λ v. replaced (meaning n fs) v)) f.value_is ∙ ap Full trees ∙ sym (ap (owner_by (λ v. replaced (meaning m fs) v)) f.value_is)

-- ---- objects have the same meaning among more objects

module _ (fs gs : List Frozen) (distinct : AreDistinct gs) (falling : AllByRecursion (λ (g : Frozen). AllByRecursion (IsBelow g.number gs) (names_in g.value)) gs)
    (same_value : (n : ℕ) (q : Place) → IsBelow n gs q → value_at_position gs q.at ≡ value_at_position fs q.at) where
  pub means_among : (n : ℕ) (q : Place) → IsBelow n gs q → meaning n gs q.at ≡ meaning n fs q.at
  unfolding meaning
  means_among zero q h = refl
  means_among (suc n) q h =
      let g = found (suc n) gs q distinct falling h in
      let below = each_weaker (IsBelow g.object.number gs) (IsBelow n gs) (λ r k. wider g.object.number n gs r (let less = g.less in omega arith) k) (names_in g.object.value) g.names in
      let inside = each_weaker (IsBelow n gs) (λ (r : Place). meaning n gs r.at ≡ meaning n fs r.at) (λ r k. means_among n r k) (names_in g.object.value) below in
      let trees = same_tree (meaning n gs) (meaning n fs) g.object.value inside in
      let there : value_at_position fs q.at ≡ Some g.object.value = sym (same_value (suc n) q h) ∙ g.value_is in
      ap (owner_by (λ v. replaced (meaning n gs) v)) g.value_is ∙ ap Full trees ∙ sym (ap (owner_by (λ v. replaced (meaning n fs) v)) there)

-- ---- objects that remain have the same meaning

left_value : (n : ℕ) (gone : List Place) (fs : List Frozen) (q : Place) → AreDistinct fs → IsBelow n (left gone fs) q → value_at_position (left gone fs) q.at ≡ value_at_position fs q.at
left_value n gone [] q d h = absurd h
left_value n gone (f ∷ fs) q d h = go (f.count - times_named f.at gone) (left_value n (gone ++ names_in f.value) fs q d.1) (left_value n gone fs q d.1) h
  where
    Same : List Frozen → Type 0
    Same rs = value_at_position rs q.at ≡ value_at_position fs q.at

    go : (k : ℕ) → (IsBelow n (left (gone ++ names_in f.value) fs) q → Same (left (gone ++ names_in f.value) fs)) → (IsBelow n (left gone fs) q → Same (left gone fs))
        → IsBelow n (kept_with f k (left (gone ++ names_in f.value) fs) (left gone fs)) q
        → value_at_position (kept_with f k (left (gone ++ names_in f.value) fs) (left gone fs)) q.at ≡ value_at_position (f ∷ fs) q.at
    go zero goes stays_too b =
        let apart = left_each (λ (g : Frozen). g.at ≢ f.at) (λ g j a. a) (gone ++ names_in f.value) fs d.0 in
        goes b ∙ sym (found_after f fs q.at (λ e. below_elsewhere f.at n (left (gone ++ names_in f.value) fs) q apart b (sym e)))
    go (suc k) goes stays_too (inl b) = found_here (with_count f (suc k)) (left gone fs) q.at b.0 ∙ sym (found_here f fs q.at b.0)
    go (suc k) goes stays_too (inr b) =
        let apart = left_each (λ (g : Frozen). g.at ≢ f.at) (λ g j a. a) gone fs d.0 in
        let other : f.at ≢ q.at = λ e. below_elsewhere f.at n (left gone fs) q apart b (sym e) in
        found_after (with_count f (suc k)) (left gone fs) q.at other ∙ stays_too b ∙ sym (found_after f fs q.at other)

module _ (gone : List Place) (fs : List Frozen) (distinct : AreDistinct fs) (left_distinct : AreDistinct (left gone fs))
    (left_falling : AllByRecursion (λ (f : Frozen). AllByRecursion (IsBelow f.number (left gone fs)) (names_in f.value)) (left gone fs)) where
  pub means_the_same : (n : ℕ) (q : Place) → IsBelow n (left gone fs) q → meaning n (left gone fs) q.at ≡ meaning n fs q.at
  means_the_same n q h = means_among fs (left gone fs) left_distinct left_falling (λ k r b. left_value k gone fs r distinct b) n q h

  pub reads_the_same : (n : ℕ) (v : Value) → AllByRecursion (IsBelow n (left gone fs)) (names_in v) → unfolded n (left gone fs) v ≡ unfolded n fs v
  reads_the_same n v named =
      same_tree (meaning n (left gone fs)) (meaning n fs) v
      (each_weaker (IsBelow n (left gone fs)) (λ (r : Place). meaning n (left gone fs) r.at ≡ meaning n fs r.at) (λ r k. means_the_same n r k) (names_in v) named)
