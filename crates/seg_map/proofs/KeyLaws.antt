-- Ascending keys, and the position of a key among them.
use Rattle.std.proofs.Common.{◌≡◌, ℕ, zero, suc, ◌+◌, ◌<◌, ◌⊎◌, inl, inr, ℤ, ◌<ℤ◌, Bool, true, false, not, cond, T, List, [], ◌∷◌, ◌++◌, length, take, drop, Some, None, refl, sym, ap, ◌∙◌, subst, arith}
use Rattle.std.proofs.Common.{◌-◌, ◌≤◌, zero-add, length-append, lt-ltb, le-ltb, ltb-true}
use Rattle.std.specs.Prelude.{int_lt, filter, count_by, nat_lt, slice_get, insert, remove}
use Rattle.std.specs.List.{AllByRecursion, prefix_len}
use Rattle.std.proofs.lemmas.List.{append-nil}
use Rattle.std.proofs.lemmas.List.Sums.{sum_by-cons}
use Rattle.std.specs.Ordering.{int_cmp}
use Rattle.std.specs.Cmp.{int_chain, int_ranked}
use Rattle.std.specs.declared.cmp.Ordering.{Ordering}
use Rattle.std.specs.declared.cmp.Ordering.TheVariants.{Less, Equal, Greater}
use Rattle.std.specs.Int.Signed.{<ℤ_irrefl}
use Rattle.std.proofs.lemmas.Bool.{cases_lt}
use Rattle.seg_value.proofs.Runs.{remove_key}
use Rattle.seg_spec.specs.Value.{IsAscending, same_int}
use Rattle.seg_spec.specs.Items.{key_place, keys_below}
use Rattle.seg_map.specs.Maps.{first_of, keys_above, lower_keys}

-- ---- two numbers

is_so : (t : Bool) → T t → t ≡ true
is_so true h = refl
is_so false h = absurd h

less_true : (a b : ℤ) → a <ℤ b → int_lt a b ≡ true
less_true a b h = is_so (int_lt a b) h.lt

not_true : (t : Bool) → (T t → ⊥) → t ≡ false
not_true true f = absurd (f tt)
not_true false f = refl

not_self : (a : ℤ) → int_lt a a ≡ false
not_self a = not_true (int_lt a a) (λ h. <ℤ_irrefl {a = a} (record { lt = h }))

less_false : (a b : ℤ) → a <ℤ b → int_lt b a ≡ false
less_false a b h = not_true (int_lt b a) (λ k. <ℤ_irrefl {a = a} (int_chain a b a h (record { lt = k })))

same_self : (k : ℤ) → same_int k k ≡ true
same_self k = rw (not_self k) refl

other_below : (x k : ℤ) → x <ℤ k → same_int k x ≡ false
other_below x k h = rw (less_false x k h, less_true x k h) refl

other_above : (x k : ℤ) → k <ℤ x → same_int k x ≡ false
other_above x k h = rw (less_true k x h) refl

-- ---- keys below, and keys above

abbrev pub AllBelow : ℤ → List ℤ → Type 0
AllBelow k xs = AllByRecursion (λ x. x <ℤ k) xs

abbrev pub AllAbove : ℤ → List ℤ → Type 0
AllAbove k xs = AllByRecursion (λ x. k <ℤ x) xs

above_less : (a b : ℤ) (xs : List ℤ) → a <ℤ b → AllAbove b xs → AllAbove a xs
above_less a b [] h all = tt
above_less a b (x ∷ xs) h all = (int_chain a b x h all.0, above_less a b xs h all.1)

pub ascending_tail : (x : ℤ) (xs : List ℤ) → IsAscending (x ∷ xs) → IsAscending xs
ascending_tail x [] a = tt
ascending_tail x (y ∷ ys) a = a.1

pub ascending_head : (x : ℤ) (xs : List ℤ) → IsAscending (x ∷ xs) → AllAbove x xs
ascending_head x [] a = tt
ascending_head x (y ∷ ys) a = (a.0, above_less x y ys a.0 (ascending_head y ys a.1))

ascending_cons : (x : ℤ) (xs : List ℤ) → AllAbove x xs → IsAscending xs → IsAscending (x ∷ xs)
ascending_cons x [] all a = tt
ascending_cons x (y ∷ ys) all a = (all.0, a)

above_append : (x : ℤ) (xs ys : List ℤ) → AllAbove x xs → AllAbove x ys → AllAbove x (xs ++ ys)
above_append x [] ys a b = b
above_append x (y ∷ xs) ys a b = (a.0, above_append x xs ys a.1 b)

above_left : (x : ℤ) (xs ys : List ℤ) → AllAbove x (xs ++ ys) → AllAbove x xs
above_left x [] ys a = tt
above_left x (y ∷ xs) ys a = (a.0, above_left x xs ys a.1)

above_right : (x : ℤ) (xs ys : List ℤ) → AllAbove x (xs ++ ys) → AllAbove x ys
above_right x [] ys a = a
above_right x (y ∷ xs) ys a = above_right x xs ys a.1

-- a key is inserted between the keys below it and those above it
pub ascending_with : (xs : List ℤ) (k : ℤ) (ys : List ℤ) → IsAscending (xs ++ ys) → AllBelow k xs → AllAbove k ys → IsAscending (xs ++ k ∷ ys)
ascending_with [] k ys a b c = ascending_cons k ys c a
ascending_with (x ∷ xs) k ys a b c =
    let h = ascending_head x (xs ++ ys) a in
    ascending_cons x (xs ++ k ∷ ys) (above_append x xs (k ∷ ys) (above_left x xs ys h) (b.0, above_right x xs ys h)) (ascending_with xs k ys (ascending_tail x (xs ++ ys) a) b.1 c)

pub ascending_without : (xs : List ℤ) (k : ℤ) (ys : List ℤ) → IsAscending (xs ++ k ∷ ys) → IsAscending (xs ++ ys)
ascending_without [] k ys a = ascending_tail k ys a
ascending_without (x ∷ xs) k ys a =
    let h = ascending_head x (xs ++ k ∷ ys) a in
    ascending_cons x (xs ++ ys) (above_append x xs ys (above_left x xs (k ∷ ys) h) (above_right x xs (k ∷ ys) h).1) (ascending_without xs k ys (ascending_tail x (xs ++ k ∷ ys) a))

-- ---- a key among others

-- the keys are those below k, then these, then those above k
pub record Parted (keys : List ℤ) (k : ℤ) (i : ℕ) (these : List ℤ) : Type 0 where
  pub below : List ℤ
  pub above : List ℤ
  pub keys_are : keys ≡ below ++ (these ++ above)
  pub at_is : length below ≡ i
  pub all_below : AllBelow k below
  pub all_above : AllAbove k above

one_more : (x : ℤ) (keys : List ℤ) (k : ℤ) (i : ℕ) (these : List ℤ) → x <ℤ k → Parted keys k i these → Parted (x ∷ keys) k (suc i) these
one_more x keys k i these h p = record { below = x ∷ p.below; above = p.above; keys_are = ap (λ ks. x ∷ ks) p.keys_are; at_is = ap suc p.at_is; all_below = (h, p.all_below); all_above = p.all_above }

-- each key after the first is above it
front_below : (x : ℤ) (xs : List ℤ) (i : ℕ) (y : ℤ) → AllAbove x xs → slice_get xs i ≡ Some y → x <ℤ y
front_below x [] i y all e = cc
front_below x (z ∷ zs) zero y all e = let same : z ≡ y = cc in subst (λ w. x <ℤ w) same all.0
front_below x (z ∷ zs) (suc i) y all e = front_below x zs i y all.1 e

-- the position of a key that is in the list
pub parted_at : (keys : List ℤ) (k : ℤ) (i : ℕ) → IsAscending keys → slice_get keys i ≡ Some k → Parted keys k i (k ∷ [])
parted_at [] k i a e = cc
parted_at (x ∷ xs) k zero a e =
    let same : x ≡ k = cc in
    record { below = []; above = xs; keys_are = ap (λ y. y ∷ xs) same; at_is = refl; all_below = tt; all_above = subst (λ y. AllAbove y xs) same (ascending_head x xs a) }
parted_at (x ∷ xs) k (suc i) a e = one_more x xs k i (k ∷ []) (front_below x xs i k (ascending_head x xs a) e) (parted_at xs k i (ascending_tail x xs a) e)

-- the position of a key that isn't in the list: before the next key, and after the previous one
pub parted_front : (keys : List ℤ) (k : ℤ) → IsAscending keys → ((y : ℤ) → slice_get keys 0 ≡ Some y → k <ℤ y) → Parted keys k 0 []
parted_front [] k a f = record { below = []; above = []; keys_are = refl; at_is = refl; all_below = tt; all_above = tt }
parted_front (x ∷ xs) k a f =
    record { below = []; above = x ∷ xs; keys_are = refl; at_is = refl; all_below = tt; all_above = (f x refl, above_less k x xs (f x refl) (ascending_head x xs a)) }

pub parted_after : (keys : List ℤ) (k : ℤ) (i : ℕ) (x : ℤ) → IsAscending keys → slice_get keys i ≡ Some x → x <ℤ k → ((y : ℤ) → slice_get keys (suc i) ≡ Some y → k <ℤ y) → Parted keys k (suc i) []
parted_after [] k i x a e h f = cc
parted_after (z ∷ zs) k zero x a e h f =
    let same : z ≡ x = cc in
    one_more z zs k 0 [] (subst (λ w. w <ℤ k) (sym same) h) (parted_front zs k (ascending_tail z zs a) f)
parted_after (z ∷ zs) k (suc i) x a e h f =
    one_more z zs k (suc i) [] (int_chain z x k (front_below z zs i x (ascending_head z zs a) e) h) (parted_after zs k i x (ascending_tail z zs a) e h f)

-- ---- definitions about keys in order

abbrev misses : ℤ → ℤ → Bool
misses k x = not (same_int k x)

missed_below : (xs ys : List ℤ) (k : ℤ) → AllBelow k xs → prefix_len (misses k) (xs ++ ys) ≡ length xs + prefix_len (misses k) ys
missed_below [] ys k all = sym (zero-add (prefix_len (misses k) ys))
missed_below (x ∷ xs) ys k all = rw (other_below x k all.0, missed_below xs ys k all.1) (omega arith)

missed_above : (xs : List ℤ) (k : ℤ) → AllAbove k xs → prefix_len (misses k) xs ≡ length xs
missed_above [] k all = refl
missed_above (x ∷ xs) k all = rw (other_above x k all.0, missed_above xs k all.1) (omega arith)

count_cons : (x : ℤ) (xs : List ℤ) (k : ℤ) → count_by (λ y. int_lt y k) (x ∷ xs) ≡ cond (int_lt x k) 1 0 + count_by (λ y. int_lt y k) xs
count_cons x xs k = sum_by-cons (λ y. cond (int_lt y k) 1 0) x xs

counted_below : (xs ys : List ℤ) (k : ℤ) → AllBelow k xs → count_by (λ x. int_lt x k) (xs ++ ys) ≡ length xs + count_by (λ x. int_lt x k) ys
counted_below [] ys k all = sym (zero-add (count_by (λ x. int_lt x k) ys))
counted_below (x ∷ xs) ys k all =
    count_cons x (xs ++ ys) k ∙ ap (λ b. cond b 1 0 + count_by (λ y. int_lt y k) (xs ++ ys)) (less_true x k all.0) ∙ (let e = counted_below xs ys k all.1 in omega arith)

counted_above : (xs : List ℤ) (k : ℤ) → AllAbove k xs → count_by (λ x. int_lt x k) xs ≡ 0
counted_above [] k all = refl
counted_above (x ∷ xs) k all =
    count_cons x xs k ∙ ap (λ b. cond b 1 0 + count_by (λ y. int_lt y k) xs) (less_false k x all.0) ∙ (let e = counted_above xs k all.1 in omega arith)

filtered_below : (xs ys : List ℤ) (k : ℤ) → AllBelow k xs → filter (λ x. int_lt k x) (xs ++ ys) ≡ filter (λ x. int_lt k x) ys
filtered_below [] ys k all = refl
filtered_below (x ∷ xs) ys k all = rw (less_false x k all.0) (filtered_below xs ys k all.1)

filtered_above : (xs : List ℤ) (k : ℤ) → AllAbove k xs → filter (λ x. int_lt k x) xs ≡ xs
filtered_above [] k all = refl
filtered_above (x ∷ xs) k all = rw (less_true k x all.0, filtered_above xs k all.1) refl

-- ---- the keys that a walk has left

two_ways : (b : Bool) → (b ≡ true) ⊎ (b ≡ false)
two_ways true = inl refl
two_ways false = inr refl

above_with : (x : ℤ) (xs : List ℤ) (k : ℤ) → int_lt k x ≡ true → keys_above (x ∷ xs) k ≡ x ∷ keys_above xs k
above_with x xs k e = rw e refl

above_without : (x : ℤ) (xs : List ℤ) (k : ℤ) → int_lt k x ≡ false → keys_above (x ∷ xs) k ≡ keys_above xs k
above_without x xs k e = rw e refl

-- the first key above another one is above it
first_above : (keys : List ℤ) (last key : ℤ) → first_of (keys_above keys last) ≡ Some key → int_lt last key ≡ true
first_above [] last key e = cc
first_above (x ∷ xs) last key e = elim (two_ways (int_lt last x)) [
  | inl is_above ↦ let first = sym (ap first_of (above_with x xs last is_above)) ∙ e in let is : x ≡ key = cc in subst (λ y. int_lt last y ≡ true) is is_above
  | inr is_low ↦ first_above xs last key (sym (ap first_of (above_without x xs last is_low)) ∙ e)
]

-- the keys above the first one are all others
pub first_next : (keys : List ℤ) (key : ℤ) → IsAscending keys → first_of keys ≡ Some key → keys_above keys key ≡ drop 1 keys
first_next [] key a e = cc
first_next (x ∷ xs) key a e =
    let is : x ≡ key = cc in
    above_without x xs key (subst (λ k. int_lt k x ≡ false) is (not_self x)) ∙ filtered_above xs key (subst (λ k. AllAbove k xs) is (ascending_head x xs a))

-- the keys above the first one of those above another are all others of these
pub above_next : (keys : List ℤ) (last key : ℤ) → IsAscending keys → first_of (keys_above keys last) ≡ Some key → keys_above keys key ≡ drop 1 (keys_above keys last)
above_next [] last key a e = cc
above_next (x ∷ xs) last key a e = elim (two_ways (int_lt last x)) [
  | inl is_above ↦
      let first = sym (ap first_of (above_with x xs last is_above)) ∙ e in
      let is : x ≡ key = cc in
      let head = ascending_head x xs a in
      let rest : keys_above xs last ≡ xs = filtered_above xs last (above_less last x xs (record { lt = subst T (sym is_above) tt }) head) in
      first_next (x ∷ xs) key a (ap Some is) ∙ sym rest ∙ ap (drop 1) (sym (above_with x xs last is_above))
  | inr is_low ↦
      let below : int_lt key x ≡ false = not_true (int_lt key x) (λ t.
      let over = less_true last x (int_chain last key x (record { lt = subst T (sym (first_above (x ∷ xs) last key e)) tt }) (record { lt = t })) in cc) in
      above_without x xs key below
      ∙ above_next xs last key (ascending_tail x xs a) (sym (ap first_of (above_without x xs last is_low)) ∙ e)
      ∙ ap (drop 1) (sym (above_without x xs last is_low))
]

get_append : {X : Type 0} (xs ys : List X) (i : ℕ) → slice_get (xs ++ ys) (length xs + i) ≡ slice_get ys i
get_append [] ys i = rw (zero-add i) refl
get_append (x ∷ xs) ys i = let e : suc (length xs) + i ≡ suc (length xs + i) = omega arith in rw e (get_append xs ys i)

nat_lt_true : (a b : ℕ) → a < b → nat_lt a b ≡ true
nat_lt_true a b h = lt-ltb a b h

nat_lt_false : (a : ℕ) → nat_lt a a ≡ false
nat_lt_false a = le-ltb a a (omega arith)

module _ (keys : List ℤ) (k : ℤ) (i : ℕ) where
  module _ (p : Parted keys k i (k ∷ [])) where
    pub found_place : key_place keys k ≡ Some i
    found_place =
        let len : prefix_len (misses k) (p.below ++ k ∷ p.above) ≡ i = missed_below p.below (k ∷ p.above) k p.all_below ∙ rw (same_self k) (omega (arith, p.at_is)) in
        let long = length-append p.below (k ∷ p.above) in
        let l : nat_lt i (length (p.below ++ k ∷ p.above)) ≡ true = nat_lt_true i (length (p.below ++ k ∷ p.above)) (omega (arith, p.at_is)) in
        rw (p.keys_are, len, l) refl

    pub found_next : first_of (keys_above keys k) ≡ slice_get keys (suc i)
    found_next =
        let rest : filter (λ x. int_lt k x) (p.below ++ k ∷ p.above) ≡ p.above = filtered_below p.below (k ∷ p.above) k p.all_below ∙ rw (not_self k) (filtered_above p.above k p.all_above) in
        let at : slice_get (p.below ++ k ∷ p.above) (length p.below + 1) ≡ slice_get p.above 0 = get_append p.below (k ∷ p.above) 1 in
        let e : length p.below + 1 ≡ suc i = omega (arith, p.at_is) in
        rw (p.keys_are, rest) (sym at ∙ ap (slice_get (p.below ++ k ∷ p.above)) e)

  module _ (p : Parted keys k i []) where
    pub missing_place : key_place keys k ≡ None
    missing_place =
        let len : prefix_len (misses k) (p.below ++ p.above) ≡ length (p.below ++ p.above) = missed_below p.below p.above k p.all_below ∙ rw (missed_above p.above k p.all_above) (sym (length-append p.below p.above)) in
        let l : nat_lt (length (p.below ++ p.above)) (length (p.below ++ p.above)) ≡ false = nat_lt_false (length (p.below ++ p.above)) in
        rw (p.keys_are, len, l) refl

    pub missing_below : keys_below keys k ≡ i
    missing_below = rw p.keys_are (counted_below p.below p.above k p.all_below ∙ rw (counted_above p.above k p.all_above) (omega (arith, p.at_is)))

    pub missing_next : first_of (keys_above keys k) ≡ slice_get keys i
    missing_next =
        let rest : filter (λ x. int_lt k x) (p.below ++ p.above) ≡ p.above = filtered_below p.below p.above k p.all_below ∙ filtered_above p.above k p.all_above in
        let at : slice_get (p.below ++ p.above) (length p.below + 0) ≡ slice_get p.above 0 = get_append p.below p.above 0 in
        let e : length p.below + 0 ≡ i = omega (arith, p.at_is) in
        rw (p.keys_are, rest) (sym at ∙ ap (slice_get (p.below ++ p.above)) e)

-- the index of a key is below the number of keys
pub place_below : (keys : List ℤ) (k : ℤ) (i : ℕ) → key_place keys k ≡ Some i → i < length keys
place_below keys k i e = go (nat_lt (prefix_len (misses k) keys) (length keys)) refl e
  where
    go : (b : Bool) → nat_lt (prefix_len (misses k) keys) (length keys) ≡ b → cond b (Some (prefix_len (misses k) keys)) None ≡ Some i → i < length keys
    go true f g = let same : prefix_len (misses k) keys ≡ i = cc in subst (λ j. j < length keys) same (ltb-true _ _ f)
    go false f g = cc

-- ---- each key is in the list, or has a position between others

abbrev pub PartedAt : List ℤ → ℤ → Type 0
PartedAt keys k = ((i : ℕ) × Parted keys k i (k ∷ [])) ⊎ ((i : ℕ) × Parted keys k i [])

pub parted : (keys : List ℤ) (k : ℤ) → IsAscending keys → PartedAt keys k
parted [] k a = inr (0, parted_front [] k a (λ y e. cc))
parted (x ∷ xs) k a = by (parted xs k (ascending_tail x xs a)) (int_cmp x k) refl
  where
    more : x <ℤ k → PartedAt xs k → PartedAt (x ∷ xs) k
    more h (inl p) = inl (suc p.0, one_more x xs k p.0 (k ∷ []) h p.1)
    more h (inr p) = inr (suc p.0, one_more x xs k p.0 [] h p.1)

    by : PartedAt xs k → (r : Ordering) → r ≡ int_cmp x k → PartedAt (x ∷ xs) k
    by rest Less e = more (int_ranked x k Less e) rest
    by rest Equal e = inl (0, parted_at (x ∷ xs) k 0 a (ap Some (int_ranked x k Equal e)))
    by rest Greater e = inr (0, parted_front (x ∷ xs) k a (λ y f. let same : x ≡ y = cc in subst (λ z. k <ℤ z) same (int_ranked x k Greater e)))

pub parted_found : (keys : List ℤ) (k : ℤ) (i : ℕ) → IsAscending keys → key_place keys k ≡ Some i → Parted keys k i (k ∷ [])
parted_found keys k i a e = by (parted keys k a)
  where
    by : PartedAt keys k → Parted keys k i (k ∷ [])
    by (inl p) = let there = found_place keys k p.0 p.1 in let same : p.0 ≡ i = cc in subst (λ j. Parted keys k j (k ∷ [])) same p.1
    by (inr p) = let none = missing_place keys k p.0 p.1 in cc

pub parted_missing : (keys : List ℤ) (k : ℤ) (i : ℕ) → IsAscending keys → key_place keys k ≡ None → i ≡ keys_below keys k → Parted keys k i []
parted_missing keys k i a e is = by (parted keys k a)
  where
    by : PartedAt keys k → Parted keys k i []
    by (inl p) = let there = found_place keys k p.0 p.1 in cc
    by (inr p) = subst (λ j. Parted keys k j []) (sym (missing_below keys k p.0 p.1) ∙ sym is) p.1

-- ---- keys below a removed key

clash : (a b : ℤ) → a <ℤ b → b <ℤ a → ⊥
clash a b h g = let t = less_true a b h in let f = less_false b a g in cc

get_left : {X : Type 0} (xs ys zs : List X) (j : ℕ) → j < length xs → slice_get (xs ++ ys) j ≡ slice_get (xs ++ zs) j
get_left [] ys zs j l = absurd (omega arith)
get_left (x ∷ xs) ys zs zero l = refl
get_left (x ∷ xs) ys zs (suc j) l = get_left xs ys zs j (omega arith)

module _ (keys : List ℤ) (k : ℤ) (i : ℕ) (ascending : IsAscending keys) (there_is : key_place keys k ≡ Some i) (other : ℤ) (j : ℕ) (other_is : key_place keys other ≡ Some j) (lower : other <ℤ k) where
  at_k : Parted keys k i (k ∷ [])
  at_k = parted_found keys k i ascending there_is

  key_at_j : slice_get keys j ≡ Some other
  key_at_j =
      let p = parted_found keys other j ascending other_is in
      let e : length p.below + 0 ≡ j = omega (arith, p.at_is) in
      let got : slice_get (p.below ++ other ∷ p.above) j ≡ Some other = subst (λ n. slice_get (p.below ++ other ∷ p.above) n ≡ Some other) e (get_append p.below (other ∷ p.above) 0) in
      subst (λ ks. slice_get ks j ≡ Some other) (sym p.keys_are) got

  -- the smaller key is before the larger one
  pub stands_before : j < i
  stands_before = go (cases_lt j i)
    where
      above_k : (d : ℕ) → slice_get (k ∷ at_k.above) d ≡ Some other → ⊥
      above_k zero e = let same : k ≡ other = cc in clash k k (subst (λ x. x <ℤ k) (sym same) lower) (subst (λ x. x <ℤ k) (sym same) lower)
      above_k (suc d) e = clash other k lower (front_below k at_k.above d other at_k.all_above e)

      go : (j < i) ⊎ (i ≤ j) → j < i
      go (inl l) = l
      go (inr l) =
          let e : length at_k.below + (j - i) ≡ j = omega (arith, at_k.at_is) in
          let got : slice_get (at_k.below ++ k ∷ at_k.above) j ≡ Some other = subst (λ ks. slice_get ks j ≡ Some other) at_k.keys_are key_at_j in
          let moved : slice_get (at_k.below ++ k ∷ at_k.above) (length at_k.below + (j - i)) ≡ Some other = subst (λ n. slice_get (at_k.below ++ k ∷ at_k.above) n ≡ Some other) (sym e) got in
          absurd (above_k (j - i) (sym (get_append at_k.below (k ∷ at_k.above) (j - i)) ∙ moved))

  -- a key before the removed one keeps its index
  pub still_there : key_place (remove keys i) other ≡ Some j
  still_there =
      let left = subst IsAscending at_k.keys_are ascending in
      let got : slice_get (at_k.below ++ k ∷ at_k.above) j ≡ Some other = subst (λ ks. slice_get ks j ≡ Some other) at_k.keys_are key_at_j in
      let l = stands_before in
      let front : slice_get (at_k.below ++ at_k.above) j ≡ Some other = get_left at_k.below at_k.above (k ∷ at_k.above) j (omega (arith, at_k.at_is)) ∙ got in
      let gone : remove keys i ≡ at_k.below ++ at_k.above = ap (λ ks. remove ks i) at_k.keys_are ∙ remove_key at_k.below at_k.above k i (sym at_k.at_is) in
      rw gone (found_place (at_k.below ++ at_k.above) other j (parted_at (at_k.below ++ at_k.above) other j (ascending_without at_k.below k at_k.above left) front))

-- ---- a key is added

take_front : (xs ys : List ℤ) → take (length xs) (xs ++ ys) ≡ xs
take_front [] ys = refl
take_front (x ∷ xs) ys = ap (λ zs. x ∷ zs) (take_front xs ys)

drop_front : (xs ys : List ℤ) → drop (length xs) (xs ++ ys) ≡ ys
drop_front [] ys = refl
drop_front (x ∷ xs) ys = drop_front xs ys

module _ (keys : List ℤ) (k : ℤ) (i : ℕ) (p : Parted keys k i []) where
  pub inserted : insert keys i k ≡ p.below ++ k ∷ p.above
  inserted = rw (p.keys_are, sym p.at_is) (rw (take_front p.below p.above, drop_front p.below p.above) refl)

  abbrev both : Parted (insert keys i k) k i (k ∷ [])
  both = record { below = p.below; above = p.above; keys_are = inserted; at_is = p.at_is; all_below = p.all_below; all_above = p.all_above }

  pub inserted_place : key_place (insert keys i k) k ≡ Some i
  inserted_place = found_place (insert keys i k) k i both

  pub inserted_ascends : IsAscending keys → IsAscending (insert keys i k)
  inserted_ascends a = rw inserted (ascending_with p.below k p.above (subst IsAscending p.keys_are a) p.all_below p.all_above)

-- ---- keys below another

pub get_take : (xs : List ℤ) (i j : ℕ) → j < i → slice_get (take i xs) j ≡ slice_get xs j
get_take xs zero j h = absurd (omega arith)
get_take [] (suc i) j h = refl
get_take (x ∷ xs) (suc i) zero h = refl
get_take (x ∷ xs) (suc i) (suc j) h = get_take xs i j (omega arith)

lower_front : (xs ys : List ℤ) (k : ℤ) → AllBelow k xs → lower_keys (xs ++ ys) k ≡ xs ++ lower_keys ys k
lower_front [] ys k all = refl
lower_front (x ∷ xs) ys k all = rw (less_true x k all.0) (ap (λ zs. x ∷ zs) (lower_front xs ys k all.1))

none_lower : (xs : List ℤ) (k : ℤ) → AllAbove k xs → lower_keys xs k ≡ []
none_lower [] k all = refl
none_lower (x ∷ xs) k all = rw (less_false k x all.0) (none_lower xs k all.1)

-- the keys below another are those before its index
module _ (keys : List ℤ) (k : ℤ) (i : ℕ) where
  before_index : (these : List ℤ) (p : Parted keys k i these) → lower_keys (these ++ p.above) k ≡ [] → lower_keys keys k ≡ take i keys
  before_index these p none =
      let rest = these ++ p.above in
      let lower : lower_keys (p.below ++ rest) k ≡ p.below = lower_front p.below rest k p.all_below ∙ ap (λ zs. p.below ++ zs) none ∙ append-nil p.below in
      let front : take i (p.below ++ rest) ≡ p.below = subst (λ n. take n (p.below ++ rest) ≡ p.below) p.at_is (take_front p.below rest) in
      rw p.keys_are (lower ∙ sym front)

  pub found_lower : Parted keys k i (k ∷ []) → lower_keys keys k ≡ take i keys
  found_lower p = before_index (k ∷ []) p (rw (not_self k) (none_lower p.above k p.all_above))

  pub missing_lower : Parted keys k i [] → lower_keys keys k ≡ take i keys
  missing_lower p = before_index [] p (none_lower p.above k p.all_above)

  pub index_low : (these : List ℤ) → Parted keys k i these → i ≤ length keys
  index_low these p = let e : length keys ≡ length (p.below ++ (these ++ p.above)) = ap length p.keys_are in omega (arith, e, length-append p.below (these ++ p.above), p.at_is)
