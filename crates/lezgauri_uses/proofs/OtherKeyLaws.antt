-- A key of a map keeps its number while other keys are put and removed.
use Rattle.std.proofs.Common.{◌≡◌, ℕ, zero, suc, ◌<◌, ◌≤◌, ◌⊎◌, inl, inr, negsuc, Bool, true, false, cond, ltb, List, [], ◌∷◌, length, Option, Some, None, refl, sym, ap, ◌∙◌, subst, arith}
use Rattle.std.specs.Prelude.{ℤ, pos, not, ◌&&◌, nat_lt, option_and_then, option_map, position, insert, remove, All}
use Rattle.std.proofs.lemmas.Grind.{common_steps}
use Rattle.std.proofs.lemmas.List.Elements.{All-head, All-tail}
use Rattle.std.proofs.lemmas.Bool.Decides.{nat_tests}
use Rattle.seg_spec.specs.Value.{Value, Values, nil, cons, Int, nth, count, same_int, change_nth}
use Rattle.std.proofs.lemmas.Bool.{cases_order}
use Rattle.seg_spec.specs.Items.{key_place, keys_below, insert_nth}
use Rattle.lezgauri_uses.specs.Caches.{without_at, without_key, without_keys}
use Rattle.lezgauri_uses.specs.Tables.{with_key_at, with_key, after_set, number_at}

-- numbers that are equal by the test are equal
same_number : (m n : ℕ) → (not (nat_lt m n) && not (nat_lt n m)) ≡ true → m ≡ n
same_number m n e = go (cases_order m n)
  where
    go : (m ≡ n) ⊎ ((m < n) ⊎ (n < m)) → m ≡ n
    go (inl l) = l
    go (inr (inl l)) = let f : ltb m n ≡ true = grind (arith, nat_tests) in absurd (let k : false ≡ true = sym (ap (λ b. not b && not (nat_lt n m)) f) ∙ e in cc)
    go (inr (inr l)) =
        let f : ltb n m ≡ true = grind (arith, nat_tests) in
        let g : ltb m n ≡ false = grind (arith, nat_tests) in
        absurd (let k : false ≡ true = sym (ap (λ b. not b && not (nat_lt n m)) g ∙ ap not f) ∙ e in cc)

same_int_is : (a b : ℤ) → same_int a b ≡ true → a ≡ b
same_int_is (pos m) (pos n) e = ap pos (same_number m n e)
same_int_is (pos m) (negsuc n) e = absurd (let k : false ≡ true = e in cc)
same_int_is (negsuc m) (pos n) e = absurd (let k : false ≡ true = e in cc)
same_int_is (negsuc m) (negsuc n) e = ap negsuc (sym (same_number n m e))

-- the value of a key, by recursion
abbrev found : List ℤ → Values → ℤ → Option Value
found [] vs k = None
found (q ∷ keys) nil k = None
found (q ∷ keys) (cons v vs) k = cond (same_int k q) (Some v) (found keys vs k)

position-cons : {X : Type 0} (p : X → Bool) (x : X) (xs : List X) → position p (x ∷ xs) ≡ cond (p x) (Some 0) (option_map suc (position p xs))
position-cons p x xs = go (p x) refl
  where
    go : (b : Bool) → p x ≡ b → position p (x ∷ xs) ≡ cond b (Some 0) (option_map suc (position p xs))
    go true e = rw e (grind (arith, nat_tests, common_steps))
    go false e = rw e (grind (arith, nat_tests, common_steps))

number-found : (keys : List ℤ) (vs : Values) (k : ℤ) → number_at (keys, vs) k ≡ found keys vs k
number-found [] vs k = refl
number-found (q ∷ keys) nil k = none (key_place (q ∷ keys) k)
  where
    none : (o : Option ℕ) → option_and_then (λ i. nth nil i) o ≡ None
    none None = refl
    none (Some i) = refl
number-found (q ∷ keys) (cons v vs) k =
    ap (option_and_then (λ i. nth (cons v vs) i)) (position-cons (same_int k) q keys) ∙ by (same_int k q) (key_place keys k) (number-found keys vs k)
  where
    by : (b : Bool) (o : Option ℕ) → option_and_then (λ i. nth vs i) o ≡ found keys vs k → option_and_then (λ i. nth (cons v vs) i) (cond b (Some 0) (option_map suc o)) ≡ cond b (Some v) (found keys vs k)
    by true o e = refl
    by false None e = e
    by false (Some i) e = e

found-insert : (keys : List ℤ) (vs : Values) (i : ℕ) (key : ℤ) (d : Value) (k : ℤ) → same_int k key ≡ false → i ≤ length keys → length keys ≡ count vs → found (insert keys i key) (insert_nth vs i d) k ≡ found keys vs k
found-insert keys vs zero key d k other le many = ap (λ b. cond b (Some d) (found keys vs k)) other
found-insert [] vs (suc i) key d k other le many = absurd (omega arith)
found-insert (q ∷ keys) nil (suc i) key d k other le many = absurd (omega arith)
found-insert (q ∷ keys) (cons v vs) (suc i) key d k other le many = ap (cond (same_int k q) (Some v)) (found-insert keys vs i key d k other (omega arith) (omega arith))

found-change : (keys : List ℤ) (vs : Values) (key : ℤ) (w : Value) (k : ℤ) → same_int k key ≡ false → found keys (change_nth (key_place keys key) (λ old. w) vs) k ≡ found keys vs k
found-change [] vs key w k other = refl
found-change (q ∷ keys) nil key w k other = rw (position-cons (same_int key) q keys) (by (cond (same_int key q) (Some 0) (option_map suc (key_place keys key))))
  where
    by : (o : Option ℕ) → found (q ∷ keys) (change_nth o (λ old. w) nil) k ≡ None
    by None = refl
    by (Some i) = refl
found-change (q ∷ keys) (cons v vs) key w k other =
    ap (λ o. found (q ∷ keys) (change_nth o (λ old. w) (cons v vs)) k) (position-cons (same_int key) q keys) ∙ by (same_int key q) refl (key_place keys key) (found-change keys vs key w k other)
  where
    by : (b : Bool) → same_int key q ≡ b → (o : Option ℕ) → found keys (change_nth o (λ old. w) vs) k ≡ found keys vs k
        → found (q ∷ keys) (change_nth (cond b (Some 0) (option_map suc o)) (λ old. w) (cons v vs)) k ≡ found (q ∷ keys) (cons v vs) k
    by true e o h =
        let same : same_int k q ≡ false = subst (λ z. same_int k z ≡ false) (same_int_is key q e) other in
        ap (λ b. cond b (Some w) (found keys vs k)) same ∙ sym (ap (λ b. cond b (Some v) (found keys vs k)) same)
    by false e None h = refl
    by false e (Some i) h = ap (cond (same_int k q) (Some v)) h

found-nil : (keys : List ℤ) (k : ℤ) → found keys nil k ≡ None
found-nil [] k = refl
found-nil (q ∷ keys) k = refl

found-without : (keys : List ℤ) (vs : Values) (key k : ℤ) → same_int k key ≡ false → found (without_at (key_place keys key) (keys, vs)).0 (without_at (key_place keys key) (keys, vs)).1 k ≡ found keys vs k
found-without [] vs key k other = refl
found-without (q ∷ keys) nil key k other = by (key_place (q ∷ keys) key)
  where
    by : (o : Option ℕ) → found (without_at o (q ∷ keys, nil)).0 (without_at o (q ∷ keys, nil)).1 k ≡ None
    by None = refl
    by (Some i) = found-nil (remove (q ∷ keys) i) k
found-without (q ∷ keys) (cons v vs) key k other =
    ap (λ o. found (without_at o (q ∷ keys, cons v vs)).0 (without_at o (q ∷ keys, cons v vs)).1 k) (position-cons (same_int key) q keys)
    ∙ by (same_int key q) refl (key_place keys key) (found-without keys vs key k other)
  where
    by : (b : Bool) → same_int key q ≡ b → (o : Option ℕ) → found (without_at o (keys, vs)).0 (without_at o (keys, vs)).1 k ≡ found keys vs k
        → found (without_at (cond b (Some 0) (option_map suc o)) (q ∷ keys, cons v vs)).0 (without_at (cond b (Some 0) (option_map suc o)) (q ∷ keys, cons v vs)).1 k ≡ found (q ∷ keys) (cons v vs) k
    by true e o h =
        let same : same_int k q ≡ false = subst (λ z. same_int k z ≡ false) (same_int_is key q e) other in
        sym (ap (λ b. cond b (Some v) (found keys vs k)) same)
    by false e None h = refl
    by false e (Some i) h = ap (cond (same_int k q) (Some v)) h

-- ---- another key

module _ (entries : List ℤ × Values) (key number k : ℤ) (other : same_int k key ≡ false) (many : length entries.0 ≡ count entries.1) where
  with_key_other : (o : Option ℕ) → found (with_key_at o entries key).0 (with_key_at o entries key).1 k ≡ found entries.0 entries.1 k
  with_key_other None = found-insert entries.0 entries.1 (keys_below entries.0 key) key (Int (pos 0)) k other (grind (arith, common_steps)) many
  with_key_other (Some i) = refl

  -- another key keeps its number, if it has one
  pub other_kept : number_at (after_set entries key number) k ≡ number_at entries k
  other_kept =
      let e = with_key entries key in
      number-found e.0 (change_nth (key_place e.0 key) (λ old. Int number) e.1) k ∙ found-change e.0 e.1 key (Int number) k other ∙ with_key_other (key_place entries.0 key) ∙ sym (number-found entries.0 entries.1 k)

-- a key keeps its number while other keys are removed
pub without_keys_other : (gone : List ℤ) (entries : List ℤ × Values) (k : ℤ) → All (λ q. same_int k q ≡ false) gone → number_at (without_keys gone entries) k ≡ number_at entries k
without_keys_other [] entries k others = refl
without_keys_other (q ∷ gone) entries k others =
    let now = without_key entries q in
    without_keys_other gone now k (All-tail (λ z. same_int k z ≡ false) q gone others) ∙ number-found now.0 now.1 k
    ∙ found-without entries.0 entries.1 q k (All-head (λ z. same_int k z ≡ false) q gone others) ∙ sym (number-found entries.0 entries.1 k)
