-- The first difference of two names decides how they compare. Without a difference, their lengths decide.
use Rattle.std.proofs.Common.{◌≡◌, ℕ, zero, suc, ◌<◌, List, [], ◌∷◌, length, get_or, refl, sym, ap, ◌∙◌, arith}
use Rattle.std.specs.Ordering.{nat_cmp, ordering_then, MatchOrdering}
use Rattle.std.specs.Cmp.Lexicographic.{slice_cmp}
use Rattle.std.specs.declared.cmp.Ordering.{Ordering}
use Rattle.std.specs.declared.cmp.Ordering.TheVariants.{Less, Equal, Greater}
use Rattle.std.proofs.lemmas.Cmp.{ranked}

pub ranks : (a b : ℕ) (r : Ordering) → MatchOrdering r (a < b) (a ≡ b) (b < a) → nat_cmp a b ≡ r
ranks a b r h = sym (go (nat_cmp a b) r refl h)
  where
    go : (s r : Ordering) → s ≡ nat_cmp a b → MatchOrdering r (a < b) (a ≡ b) (b < a) → r ≡ nat_cmp a b
    go Less Less e h = e
    go Less Equal e h = let p : a < b = ranked a b Less e in let q : a ≡ b = h in absurd (omega arith)
    go Less Greater e h = let p : a < b = ranked a b Less e in let q : b < a = h in absurd (omega arith)
    go Equal Less e h = let p : a ≡ b = ranked a b Equal e in let q : a < b = h in absurd (omega arith)
    go Equal Equal e h = e
    go Equal Greater e h = let p : a ≡ b = ranked a b Equal e in let q : b < a = h in absurd (omega arith)
    go Greater Less e h = let p : b < a = ranked a b Greater e in let q : a < b = h in absurd (omega arith)
    go Greater Equal e h = let p : b < a = ranked a b Greater e in let q : a ≡ b = h in absurd (omega arith)
    go Greater Greater e h = e

pub level : (x y : ℕ) (o : Ordering) → x ≡ y → ordering_then (nat_cmp x y) o ≡ o
level x y o e = ap (λ r. ordering_then r o) (ranks x y Equal e)

decided : (x y : ℕ) (o : Ordering) → (x ≡ y → ⊥) → ordering_then (nat_cmp x y) o ≡ nat_cmp x y
decided x y o n = go (nat_cmp x y) refl
  where
    go : (r : Ordering) → r ≡ nat_cmp x y → ordering_then r o ≡ r
    go Less e = refl
    go Equal e = absurd (n (ranked x y Equal e))
    go Greater e = refl

raised : (a b : ℕ) → nat_cmp (suc a) (suc b) ≡ nat_cmp a b
raised a b = go (nat_cmp a b) (ranked a b (nat_cmp a b) refl)
  where
    go : (r : Ordering) → MatchOrdering r (a < b) (a ≡ b) (b < a) → nat_cmp (suc a) (suc b) ≡ r
    go Less h = let p : a < b = h in let q : suc a < suc b = omega arith in ranks (suc a) (suc b) Less q
    go Equal h = let p : a ≡ b = h in let q : suc a ≡ suc b = omega arith in ranks (suc a) (suc b) Equal q
    go Greater h = let p : b < a = h in let q : suc b < suc a = omega arith in ranks (suc a) (suc b) Greater q

pub by_byte : (xs ys : List ℕ) (i : ℕ) → i < length xs → i < length ys → ((k : ℕ) → k < i → get_or xs k 0 ≡ get_or ys k 0) → (get_or xs i 0 ≡ get_or ys i 0 → ⊥) → nat_cmp (get_or xs i 0) (get_or ys i 0) ≡ slice_cmp nat_cmp xs ys
by_byte [] ys i p q h n = absurd (omega arith)
by_byte (x ∷ xs) [] i p q h n = absurd (omega arith)
by_byte (x ∷ xs) (y ∷ ys) zero p q h n = sym (decided x y (slice_cmp nat_cmp xs ys) n)
by_byte (x ∷ xs) (y ∷ ys) (suc i) p q h n = by_byte xs ys i (omega arith) (omega arith) (λ k l. h (suc k) (omega arith)) n ∙ sym (level x y (slice_cmp nat_cmp xs ys) (h 0 (omega arith)))

pub by_lengths : (xs ys : List ℕ) → ((k : ℕ) → k < length xs → k < length ys → get_or xs k 0 ≡ get_or ys k 0) → nat_cmp (length xs) (length ys) ≡ slice_cmp nat_cmp xs ys
by_lengths [] [] h = refl
by_lengths [] (y ∷ ys) h = let less : 0 < suc (length ys) = omega arith in ranks 0 (suc (length ys)) Less less
by_lengths (x ∷ xs) [] h = let less : 0 < suc (length xs) = omega arith in ranks (suc (length xs)) 0 Greater less
by_lengths (x ∷ xs) (y ∷ ys) h =
    raised (length xs) (length ys) ∙ by_lengths xs ys (λ k l m. h (suc k) (omega arith) (omega arith)) ∙ sym (level x y (slice_cmp nat_cmp xs ys) (h 0 (omega arith) (omega arith)))
