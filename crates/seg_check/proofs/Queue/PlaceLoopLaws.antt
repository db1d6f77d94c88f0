-- Places that are read one after the other.
use Rattle.std.proofs.Common.{◌≡◌, ℕ, zero, suc, ◌+◌, ◌≤◌, List, [], ◌∷◌, ◌++◌, length, take, drop, Some, None, refl, sym, ap, ◌∙◌, subst, arith}
use Rattle.std.specs.List.{AllByRecursion}
use Rattle.std.specs.Prelude.{slice_get}
use Rattle.seg_spec.specs.Types.{Table}
use Rattle.seg_spec.specs.Reads.{Place}
use Rattle.seg_check.specs.Marks.{Known}
use Rattle.seg_check.specs.Resolving.{CanResolve, Advances}
use Rattle.seg_check.proofs.Queue.QueueStepLaws.{advance_more, can_more, can_front}

pub take_whole : {X : Type 0} (xs : List X) (n : ℕ) → length xs ≤ n → take n xs ≡ xs
take_whole [] zero l = refl
take_whole [] (suc n) l = refl
take_whole (x ∷ xs) zero l = absurd (omega arith)
take_whole (x ∷ xs) (suc n) l = ap (λ ys. x ∷ ys) (take_whole xs n (omega arith))

take_one : {X : Type 0} (xs : List X) (i : ℕ) (x : X) → slice_get xs i ≡ Some x → take (suc i) xs ≡ take i xs ++ x ∷ []
take_one [] i x e = cc
take_one (y ∷ ys) zero x e = let same : y ≡ x = cc in ap (λ z. z ∷ []) same
take_one (y ∷ ys) (suc i) x e = ap (λ zs. y ∷ zs) (take_one ys i x e)

take_none : {X : Type 0} (xs : List X) (i : ℕ) → slice_get xs i ≡ None → take (suc i) xs ≡ take i xs
take_none [] zero e = refl
take_none [] (suc i) e = refl
take_none (y ∷ ys) zero e = cc
take_none (y ∷ ys) (suc i) e = ap (λ zs. y ∷ zs) (take_none ys i e)

cut_at : {X : Type 0} (xs : List X) (i : ℕ) (x : X) → slice_get xs i ≡ Some x → xs ≡ take i xs ++ x ∷ drop (suc i) xs
cut_at [] i x e = cc
cut_at (y ∷ ys) zero x e = let same : y ≡ x = cc in ap (λ z. z ∷ ys) same
cut_at (y ∷ ys) (suc i) x e = ap (λ zs. y ∷ zs) (cut_at ys i x e)

pub each_get : {X : Type 0} (P : X → Type 0) (xs : List X) (i : ℕ) (x : X) → AllByRecursion P xs → slice_get xs i ≡ Some x → P x
each_get P [] i x a e = cc
each_get P (y ∷ ys) zero x a e = let same : y ≡ x = cc in subst P same a.0
each_get P (y ∷ ys) (suc i) x a e = each_get P ys i x a.1 e

module _ (bytes : List ℕ) (table : Table) (old mid : Known) (ps : List Place) (i : ℕ) (done : Advances bytes table old mid (take i ps)) where
  pub place_more : (new : Known) (p : Place) → slice_get ps i ≡ Some p → Advances bytes table mid new (p ∷ []) → Advances bytes table old new (take (i + 1) ps)
  place_more new p e a =
      let next : i + 1 ≡ suc i = omega arith in
      subst (λ qs. Advances bytes table old new qs) (sym (ap (λ k. take k ps) next ∙ take_one ps i p e)) (advance_more bytes table old mid new (take i ps) (p ∷ []) done a)

  pub place_past : slice_get ps i ≡ None → Advances bytes table old mid (take (i + 1) ps)
  place_past e =
      let next : i + 1 ≡ suc i = omega arith in
      subst (λ qs. Advances bytes table old mid qs) (sym (ap (λ k. take k ps) next ∙ take_none ps i e)) done

  pub place_can : (p : Place) → slice_get ps i ≡ Some p → CanResolve bytes table old ps → CanResolve bytes table mid (p ∷ [])
  place_can p e r =
      let split = subst (λ qs. CanResolve bytes table old qs) (cut_at ps i p e) r in
      can_front bytes table mid (p ∷ []) (drop (suc i) ps) (can_more bytes table old mid (take i ps) (p ∷ drop (suc i) ps) done split)

  pub place_all : length ps ≤ i → Advances bytes table old mid ps
  place_all past = subst (λ qs. Advances bytes table old mid qs) (take_whole ps i past) done
