-- The bits and the marks of units.
use Rattle.std.proofs.Common.{◌≡◌, ◌≢◌, ℕ, zero, suc, ◌+◌, ◌%◌, ◌<◌, ◌≤◌, ◌==◌, Bool, true, false, [], ◌∷◌, length, get_or, set, replicate, refl, sym, ap, ◌∙◌, arith}
use Rattle.std.proofs.lemmas.Nat.Bits.{bit_at-zero}
use Rattle.seg_check.specs.declared.marks.Mark.{Mark}
use Rattle.seg_check.specs.declared.marks.Mark.TheVariants.{Inside, Free, Live, Claimed, Named}
use Rattle.seg_check.specs.Bits.{has, spelled, marks_from, live_bit, allocated_bit, other_bit}

-- ---- lists of marks

pub length_marks : (mark : ℕ → Mark) (u n : ℕ) → length (marks_from mark u n) ≡ n
length_marks mark u zero = refl
length_marks mark u (suc n) = ap suc (length_marks mark (suc u) n)

pub get_marks : (mark : ℕ → Mark) (u n i : ℕ) → i < n → get_or (marks_from mark u n) i Inside ≡ mark (u + i)
get_marks mark u zero i inside = absurd (omega arith)
get_marks mark u (suc n) zero inside =
    let e : u ≡ u + 0 = omega arith in
    ap mark e
get_marks mark u (suc n) (suc i) inside =
    let e : suc u + i ≡ u + suc i = omega arith in
    get_marks mark (suc u) n i (omega arith) ∙ ap mark e

pub same_marks : (old new : ℕ → Mark) (u n : ℕ) → ((v : ℕ) → u ≤ v → new v ≡ old v) → marks_from new u n ≡ marks_from old u n
same_marks old new u zero same = refl
same_marks old new u (suc n) same =
    (λ j. same u (omega arith) j ∷ same_marks old new (suc u) n (λ v low. same v (omega arith)) j)

pub set_marks : (old new : ℕ → Mark) (u n i : ℕ) (m : Mark) → new (u + i) ≡ m → ((v : ℕ) → v ≢ u + i → new v ≡ old v) → marks_from new u n ≡ set (marks_from old u n) i m
set_marks old new u zero i m own others = refl
set_marks old new u (suc n) zero m own others =
    let e : u ≡ u + 0 = omega arith in
    let here : new u ≡ m = ap new e ∙ own in
    (λ j. here j ∷ same_marks old new (suc u) n (λ v low. others v (λ same. omega arith)) j)
set_marks old new u (suc n) (suc i) m own others =
    let e : u + suc i ≡ suc u + i = omega arith in
    let rest = set_marks old new (suc u) n i m (ap new (sym e) ∙ own) (λ v other. others v (λ same. other (same ∙ e))) in
    (λ j. others u (λ same. omega arith) j ∷ rest j)

pub mark_there : (mark : ℕ → Mark) (n i : ℕ) → i < n → get_or (marks_from mark 0 n) i Inside ≡ mark i
mark_there mark n i inside =
    let e : 0 + i ≡ i = omega arith in
    get_marks mark 0 n i inside ∙ ap mark e

pub marks_set : (old new : ℕ → Mark) (n i : ℕ) (m : Mark) → new i ≡ m → ((v : ℕ) → v ≢ i → new v ≡ old v) → marks_from new 0 n ≡ set (marks_from old 0 n) i m
marks_set old new n i m own others =
    let e : 0 + i ≡ i = omega arith in
    set_marks old new 0 n i m (ap new e ∙ own) (λ v other. others v (λ same. other (same ∙ sym e)))

pub all_inside : (mark : ℕ → Mark) (u n : ℕ) → ((v : ℕ) → mark v ≡ Inside) → marks_from mark u n ≡ replicate n Inside
all_inside mark u zero none = refl
all_inside mark u (suc n) none = (λ j. none u j ∷ all_inside mark (suc u) n none j)

-- ---- bits in words

-- no bit of a missing word is set
pub no_bit : (u : ℕ) → has [] u ≡ false
no_bit u = ap (λ b. b == 1) (bit_at-zero (u % 64))

-- ---- marks in bits

pub spelled_bits : (m : Mark) → spelled (live_bit m) (allocated_bit m) (other_bit m) ≡ m
spelled_bits Inside = refl
spelled_bits Free = refl
spelled_bits Live = refl
spelled_bits Claimed = refl
spelled_bits Named = refl

pub spelled_same : (a b c x y z : Bool) → a ≡ x → b ≡ y → c ≡ z → spelled a b c ≡ spelled x y z
spelled_same a b c x y z p q r = λ j. spelled (p j) (q j) (r j)

-- of a mark `Live` the other bits follow
pub told_bits : (m : Mark) → live_bit m ≡ true → (allocated_bit m ≡ true) × (other_bit m ≡ false)
told_bits Inside is = cc
told_bits Free is = cc
told_bits Live is = (refl, refl)
told_bits Claimed is = cc
told_bits Named is = cc

-- a mark that is spelled is `Live` only by its first bit
pub live_told : (live allocated other : Bool) → spelled live allocated other ≡ Live → live ≡ true
live_told true allocated other is = refl
live_told false true true is = cc
live_told false true false is = cc
live_told false false true is = cc
live_told false false false is = cc
