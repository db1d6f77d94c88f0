-- The entries of a flat map, read one after the other. Each begins with its key.
use Rattle.std.proofs.Common.{◌≡◌, ℕ, zero, suc, ◌+◌, ◌*◌, ◌≤◌, ◌<◌, List, ◌++◌, length, take, drop, sym, ap, ◌∙◌, arith, length-append, ℤ, [], ◌∷◌, subst}
use Rattle.std.proofs.lemmas.List.{take_all, length-take, length-drop}
use Rattle.std.proofs.Math.Seq.{take-append_seam, drop-append_seam}
use Rattle.seg_spec.specs.Bytes.{slice, long, signed, signed_long}
use Rattle.seg_spec.specs.Reads.{spaced, keys_at}
use Rattle.seg_spec.specs.Value.{IsAscending}
use Rattle.seg_check.specs.Keys.{HasKeys}
use Rattle.seg_check.specs.declared.maps.Keys.{Keys}
use Rattle.seg_check.proofs.Contents.AscendingKeyLaws.{keys_more, ascend_front}
use Rattle.seg_spec.proofs.BytesLaws.{length-slice, number-slice}
use Rattle.seg_spec.proofs.SliceLaws.{slice-slice}

-- n entries of `size` bytes from position p on, of which the first i were read
pub record Unread (bytes rest : List ℕ) (p size n i : ℕ) : Type 0 where
  pub left : ℕ
  pub whole : i + left ≡ n
  pub inside : (p + i * size) + left * size ≤ length bytes
  pub rest_is : rest ≡ slice bytes (p + i * size) (left * size)

pub unread_all : (bytes : List ℕ) (p size n : ℕ) → p + n * size ≤ length bytes → Unread bytes (slice bytes p (n * size)) p size n 0
unread_all bytes p size n h =
    let here : p ≡ p + 0 * size = omega arith in
    record { left = n; whole = omega arith; inside = omega arith; rest_is = ap (λ at. slice bytes at (n * size)) here }

pub slice_short : (bytes : List ℕ) (at n : ℕ) → length (slice bytes at n) ≤ length bytes
unfolding slice
slice_short bytes at n = simp (length-take, length-drop) (omega arith)

-- the first bytes of a slice are a slice, and so is what follows them
first_slice : (bytes xs ys : List ℕ) (at n m : ℕ) → xs ++ ys ≡ slice bytes at m → length xs ≡ n → n ≤ m → xs ≡ slice bytes (at + 0) n
unfolding slice
first_slice bytes xs ys at n m e l h =
    sym (take-append_seam xs ys) ∙ ap (λ k. take k (xs ++ ys)) l ∙ ap (take n) e ∙ slice-slice bytes at m 0 n (omega (arith, h))

other_slice : (bytes xs ys : List ℕ) (at n m : ℕ) → xs ++ ys ≡ slice bytes at (n + m) → length xs ≡ n → length ys ≡ m → ys ≡ slice bytes (at + n) m
unfolding slice
other_slice bytes xs ys at n m e l k =
    sym (take_all m ys (omega (arith, k)))
    ∙ ap (take m) (sym (drop-append_seam xs ys) ∙ ap (λ i. drop i (xs ++ ys)) l ∙ ap (drop n) e)
    ∙ slice-slice bytes at (n + m) n m (omega arith)

key_slice : (bytes xs : List ℕ) (at n : ℕ) → xs ≡ slice bytes (at + 0) n → 8 ≤ n → long xs 0 ≡ long bytes at
key_slice bytes xs at n e h =
    let here : (at + 0) + 0 ≡ at = omega arith in
    number-slice 8 bytes xs 0 at (ap (λ b. slice b 0 8) e ∙ slice-slice bytes (at + 0) n 0 8 h ∙ ap (λ q. slice bytes q 8) here)

-- the next entry begins with the next key
pub unread_next : (bytes rest entry after : List ℕ) (p size n i : ℕ) → 8 ≤ size → Unread bytes rest p size n i → rest ≡ entry ++ after → length entry ≡ size
    → Unread bytes after p size n (i + 1) × (long entry 0 ≡ long bytes (p + i * size))
unread_next bytes rest entry after p size n i h r parts len = go r.left r.whole r.inside r.rest_is
  where
    go : (left : ℕ) → i + left ≡ n → (p + i * size) + left * size ≤ length bytes → rest ≡ slice bytes (p + i * size) (left * size)
        → Unread bytes after p size n (i + 1) × (long entry 0 ≡ long bytes (p + i * size))
    go zero whole inside rest_is =
        let none = ap length rest_is ∙ length-slice bytes (p + i * size) (0 * size) inside in
        let sum = ap length parts ∙ length-append entry after in
        absurd (omega (arith, none, sum, len, h))
    go (suc m) whole inside rest_is =
        let at = p + i * size in
        let whole_is : suc m * size ≡ size + m * size = omega arith in
        let all : entry ++ after ≡ slice bytes at (size + m * size) = sym parts ∙ rest_is ∙ ap (slice bytes at) whole_is in
        let sum = ap length parts ∙ length-append entry after in
        let long_is = ap length rest_is ∙ length-slice bytes at (suc m * size) inside in
        let after_len : length after ≡ m * size = omega (arith, sum, long_is, len) in
        let next : at + size ≡ p + (i + 1) * size = omega arith in (
          record { left = m; whole = omega (arith, whole); inside = omega (arith, inside); rest_is = other_slice bytes entry after at size (m * size) all len after_len ∙ ap (λ q. slice bytes q (m * size)) next },
          key_slice bytes entry at size (first_slice bytes entry after at size (size + m * size) all len (omega arith)) h,
        )

-- all were read if less than an entry is left
pub unread_none : (bytes rest : List ℕ) (p size n i : ℕ) → Unread bytes rest p size n i → length rest < size → i ≡ n
unread_none bytes rest p size n i r short = go r.left r.whole r.inside r.rest_is
  where
    go : (left : ℕ) → i + left ≡ n → (p + i * size) + left * size ≤ length bytes → rest ≡ slice bytes (p + i * size) (left * size) → i ≡ n
    go zero whole inside rest_is = omega (arith, whole)
    go (suc m) whole inside rest_is =
        let long_is = ap length rest_is ∙ length-slice bytes (p + i * size) (suc m * size) inside in
        absurd (omega (arith, long_is, short))

-- the next key was added to those before
pub has_next : (bytes rest entry after : List ℕ) (p size n i : ℕ) (key : ℤ) (keys : Keys) → 8 ≤ size → Unread bytes rest p size n i → rest ≡ entry ++ after → length entry ≡ size → key ≡ signed_long entry 0
    → HasKeys keys (keys_at bytes (spaced p size i) ++ key ∷ []) → Unread bytes after p size n (i + 1) × HasKeys keys (keys_at bytes (spaced p size (i + 1)))
has_next bytes rest entry after p size n i key keys some unread parts len key_is has =
    let next = unread_next bytes rest entry after p size n i some unread parts len in
    let same : key ≡ signed_long bytes (p + i * size) = key_is ∙ ap signed next.1 in
    (next.0, subst (λ ks. HasKeys keys ks) (sym (keys_more bytes p size i)) (subst (λ (k : ℤ). HasKeys keys (keys_at bytes (spaced p size i) ++ k ∷ [])) same has))

-- the first of ascending keys ascend
pub first_ascend : (bytes : List ℕ) (p size i left : ℕ) → IsAscending (keys_at bytes (spaced p size (i + left))) → IsAscending (keys_at bytes (spaced p size i))
first_ascend bytes p size i zero a = let here : i + 0 ≡ i = omega arith in subst (λ n. IsAscending (keys_at bytes (spaced p size n))) here a
first_ascend bytes p size i (suc left) a =
    let more : i + suc left ≡ (i + left) + 1 = omega arith in
    first_ascend bytes p size i left (ascend_front (keys_at bytes (spaced p size (i + left))) (signed_long bytes (p + (i + left) * size))
    (subst IsAscending (ap (λ n. keys_at bytes (spaced p size n)) more ∙ keys_more bytes p size (i + left)) a))
