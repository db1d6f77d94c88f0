-- An upper bound on the number of blocks.
use Rattle.std.proofs.Common.{◌≡◌, ◌≢◌, ℕ, ◌+◌, ◌*◌, ◌≤◌, true, false, cond, List, [], ◌∷◌, ◌++◌, ◌⊎◌, inl, inr, length, ap, arith}
use Rattle.std.proofs.lemmas.List.{length-append}
use Rattle.std.proofs.lemmas.Bool.{cases_eq}
use Rattle.seg_spec.specs.Heap.{Tile, span_of, tiles, Fill, live_of, live, heap_start, IsHeap}
use Rattle.seg_spec.specs.Sound.{times}
use Rattle.seg_spec.proofs.Heap.LiveBlockLaws.{times-append, times-same, times-other}

-- ---- lists that contain each block at least as often are at least as long

-- the parts of a list before and after a block
pub record SplitAt (h : ℕ) (ys : List ℕ) : Type 0 where
  pub left : List ℕ
  pub right : List ℕ
  pub is : ys ≡ left ++ h ∷ right

pub split_at : (h : ℕ) (ys : List ℕ) → 1 ≤ times h ys → SplitAt h ys
split_at h [] l = absurd (omega arith)
split_at h (y ∷ ys) l = go (cases_eq y h) (λ m. split_at h ys m)
  where
    go : (y ≡ h) ⊎ (y ≢ h) → (1 ≤ times h ys → SplitAt h ys) → SplitAt h (y ∷ ys)
    go (inl e) rest = record { left = []; right = ys; is = ap (λ z. z ∷ ys) e }
    go (inr ne) rest = let r = rest (omega (arith, times-other h y ys ne)) in record { left = y ∷ r.left; right = r.right; is = ap (λ zs. y ∷ zs) r.is }

pub no_more : (xs ys : List ℕ) → ((h : ℕ) → times h xs ≤ times h ys) → length xs ≤ length ys
no_more [] ys o = omega arith
no_more (x ∷ xs) ys o =
    let r = split_at x ys (omega (arith, o x, times-same x xs)) in
    let rest = no_more xs (r.left ++ r.right) (λ h. let e : times h ys ≡ times h (r.left ++ x ∷ r.right) = ap (times h) r.is in let a = times-append h r.left
    (x ∷ r.right) in let b = times-append h r.left r.right in let c = o h in omega arith) in
    let long : length ys ≡ length (r.left ++ x ∷ r.right) = ap length r.is in
    omega (arith, length-append r.left (x ∷ r.right), length-append r.left r.right)

few_in : (ts : List Tile) (from to : ℕ) → Fill from ts to → from + 32 * length (live_of ts) ≤ to
few_in [] from to f = omega (arith, f)
few_in (t ∷ ts) from to f =
    let rest = few_in ts (from + 16 * t.units) to f.2 in
    let two = f.1 in
    elim t.live as (λ b. from + 32 * length (cond b (span_of t ∷ live_of ts) (live_of ts)) ≤ to) [ true ↦ omega arith | false ↦ omega arith ]

-- each allocated block has at least 2 units
pub few_live : (allocator : ℕ) (bytes : List ℕ) → IsHeap allocator bytes → heap_start + 32 * length (live bytes) ≤ length bytes
unfolding live
few_live allocator bytes heap = few_in (tiles bytes) heap_start (length bytes) heap.filled
