-- What was written into borrowed bytes of a window.
use Rattle.std.proofs.Common.{◌≡◌, ℕ, ◌+◌, ◌≤◌, List, ◌++◌, length, take, drop, refl, sym, ap, ◌∙◌, arith}
use Rattle.std.proofs.lemmas.List.{append_assoc, length-append, length-take-le, drop-drop, take_at, drop_at}
use Rattle.std.specs.List.{length_refill}
use Rattle.seg_spec.specs.Bytes.{put}
use Rattle.seg_spec.specs.Window.{Placement, region_of, with_bytes}
use Rattle.seg_spec.proofs.BytesLaws.{put_in, length-put, take-put, drop-put, part-put_same}
use Rattle.seg_raw.specs.Lending.{lent}
use Rattle.seg_raw.specs.Homes.{Area, with_area_bytes}
use Rattle.seg_ptr.specs.Lent.{view_of, area_of, lent_to}
use Rattle.seg_ptr.proofs.Places.{region_of_view, home_of_view, length_bytes}

pub length-lent : (bytes xs : List ℕ) (at : ℕ) → length (lent bytes at xs) ≡ length bytes
length-lent bytes xs at = sym (length_refill (length bytes) bytes (take at bytes ++ (xs ++ drop (length xs) (drop at bytes))) refl)

lent_put : (bytes xs : List ℕ) (at : ℕ) → at + length xs ≤ length bytes → lent bytes at xs ≡ put bytes at xs
lent_put bytes xs at fits =
    let over = take at bytes ++ (xs ++ drop (length xs) (drop at bytes)) in
    let is : over ≡ put bytes at xs = ap (λ r. take at bytes ++ (xs ++ r)) (drop-drop (length xs) at bytes) ∙ sym (put_in bytes at xs fits) in
    take_at over (drop (length over) bytes) (length bytes) (ap length is ∙ length-put bytes at xs) ∙ is

-- a window on the region after the write is the window after the write
pub lent_view : (region : Area) (xs : List ℕ) (base len : ℕ) (now : Placement) → view_of region base len ≡ now → base + len ≤ length region.bytes
    → view_of (with_area_bytes region (lent region.bytes base xs)) base len ≡ lent_to now xs
lent_view region xs base len now view fits =
    let whole = sym (region_of_view region base len now view) in
    let home = sym (home_of_view region base len now view) in
    let front : base ≡ length now.before = sym (length-take-le base region.bytes (omega arith)) ∙ ap (λ (p : Placement). length p.before) view in
    let long : len ≡ length now.bytes = sym (length_bytes region base len now view fits) in
    λ i. view_of (record { bytes = lent (whole i) (front i) xs; home = home i }) (front i) (long i)

-- if as many bytes were written as there were, the window contains exactly them
pub lent_same : (old : Placement) (xs : List ℕ) → length xs ≡ length old.bytes → lent_to old xs ≡ with_bytes old xs
lent_same old xs same =
    let region = region_of old in
    let base = length old.before in
    let len = length old.bytes in
    let size : length region ≡ base + len + length old.after = length-append (old.before ++ old.bytes) old.after ∙ ap (λ n. n + length old.after) (length-append old.before old.bytes) in
    let room : base + length xs ≤ length region = omega arith in
    let whole : base + len ≤ length region = omega arith in
    let front = take-put region base xs base (omega arith) ∙ ap (take base) (append_assoc old.before old.bytes old.after) ∙ take_at old.before (old.bytes ++ old.after) base refl in
    let back = drop-put region base xs (base + len) (omega arith) ∙ drop_at (old.before ++ old.bytes) old.after (base + len) (length-append old.before old.bytes) in
    let middle = part-put_same region base len xs same whole in
    ap (λ r. view_of (with_area_bytes (area_of old) r) base len) (lent_put region xs base room)
    ∙ (λ i. record { before = front i; bytes = middle i; after = back i; home = old.home })
