-- Numbers that are read from a part of the bytes.
use Rattle.std.proofs.Common.{◌≡◌, ℕ, ◌+◌, ◌*◌, ◌<◌, ◌≤◌, ◌⊎◌, inl, inr, List, [], ◌∷◌, length, get_or, sym, ap, ◌∙◌, arith}
use Rattle.std.proofs.lemmas.Bool.{cases_lt}
use Rattle.seg_spec.specs.Bytes.{slice, number_of, number, byte, half, word, long}
use Rattle.seg_spec.proofs.BytesLaws.{length-slice, number_past}

-- the n bytes from a position on, or none if they aren't all there
pub record IsPart (bytes : List ℕ) (at n : ℕ) (part : List ℕ) : Type 0 where
  pub inside : at + n ≤ length bytes → part ≡ slice bytes at n
  pub past : length bytes < at + n → part ≡ []

module _ (w : ℕ) (bytes : List ℕ) (at : ℕ) (part : List ℕ) (is : IsPart bytes at w part) where
  -- a part of another length spells no number
  pub number_none : (length part < w) ⊎ (w + 1 ≤ length part) → 0 ≡ number w bytes at
  number_none other = go (cases_lt (length bytes) (at + w)) other
    where
      go : (length bytes < at + w) ⊎ (at + w ≤ length bytes) → (length part < w) ⊎ (w + 1 ≤ length part) → 0 ≡ number w bytes at
      go (inl past) h = sym (number_past w bytes at past)
      go (inr fits) (inl h) = let e = ap length (is.inside fits) ∙ length-slice bytes at w fits in absurd (omega arith)
      go (inr fits) (inr h) = let e = ap length (is.inside fits) ∙ length-slice bytes at w fits in absurd (omega arith)

  -- a part of the right length spells the number
  pub number_whole : 1 ≤ w → length part ≡ w → number_of w part ≡ number w bytes at
  unfolding number
  number_whole some long = go (cases_lt (length bytes) (at + w))
    where
      go : (length bytes < at + w) ⊎ (at + w ≤ length bytes) → number_of w part ≡ number_of w (slice bytes at w)
      go (inl past) = let e = ap length (is.past past) in absurd (omega arith)
      go (inr fits) = ap (number_of w) (is.inside fits)

spelled_one : (xs : List ℕ) → length xs ≡ 1 → get_or xs 0 0 ≡ number_of 1 xs
unfolding number_of
spelled_one [] e = absurd (omega arith)
spelled_one (a ∷ []) e = omega arith
spelled_one (a ∷ b ∷ xs) e = absurd (omega arith)

spelled_two : (xs : List ℕ) → length xs ≡ 2 → get_or xs 0 0 + get_or xs 1 0 * 256 ≡ number_of 2 xs
unfolding number_of
spelled_two [] e = absurd (omega arith)
spelled_two (a ∷ []) e = absurd (omega arith)
spelled_two (a ∷ b ∷ []) e = omega arith
spelled_two (a ∷ b ∷ c ∷ xs) e = absurd (omega arith)

spelled_four : (xs : List ℕ) → length xs ≡ 4 → get_or xs 0 0 + get_or xs 1 0 * 256 + get_or xs 2 0 * 65536 + get_or xs 3 0 * 16777216 ≡ number_of 4 xs
unfolding number_of
spelled_four [] e = absurd (omega arith)
spelled_four (a ∷ []) e = absurd (omega arith)
spelled_four (a ∷ b ∷ []) e = absurd (omega arith)
spelled_four (a ∷ b ∷ c ∷ []) e = absurd (omega arith)
spelled_four (a ∷ b ∷ c ∷ d ∷ []) e = omega arith
spelled_four (a ∷ b ∷ c ∷ d ∷ x ∷ xs) e = absurd (omega arith)

spelled_eight : (xs : List ℕ) → length xs ≡ 8
    → get_or xs 0 0 + get_or xs 1 0 * 256 + get_or xs 2 0 * 65536 + get_or xs 3 0 * 16777216 + get_or xs 4 0 * 4294967296 + get_or xs 5 0 * 1099511627776 + get_or xs 6 0 * 281474976710656 + get_or xs 7 0 * 72057594037927936
    ≡ number_of 8 xs
unfolding number_of
spelled_eight (a ∷ b ∷ c ∷ d ∷ e ∷ f ∷ g ∷ h ∷ []) l = omega arith
spelled_eight [] l = absurd (omega arith)
spelled_eight (a ∷ []) l = absurd (omega arith)
spelled_eight (a ∷ b ∷ []) l = absurd (omega arith)
spelled_eight (a ∷ b ∷ c ∷ []) l = absurd (omega arith)
spelled_eight (a ∷ b ∷ c ∷ d ∷ []) l = absurd (omega arith)
spelled_eight (a ∷ b ∷ c ∷ d ∷ e ∷ []) l = absurd (omega arith)
spelled_eight (a ∷ b ∷ c ∷ d ∷ e ∷ f ∷ []) l = absurd (omega arith)
spelled_eight (a ∷ b ∷ c ∷ d ∷ e ∷ f ∷ g ∷ []) l = absurd (omega arith)
spelled_eight (a ∷ b ∷ c ∷ d ∷ e ∷ f ∷ g ∷ h ∷ x ∷ xs) l = absurd (omega arith)

module _ (bytes : List ℕ) (at : ℕ) (part : List ℕ) where
  pub byte_one : IsPart bytes at 1 part → 1 ≤ length part → length part < 2 → get_or part 0 0 ≡ byte bytes at
  byte_one is low high = let long : length part ≡ 1 = omega arith in spelled_one part long ∙ number_whole 1 bytes at part is (omega arith) long

  pub half_two : IsPart bytes at 2 part → 2 ≤ length part → length part < 3 → get_or part 0 0 + get_or part 1 0 * 256 ≡ half bytes at
  half_two is low high = let long : length part ≡ 2 = omega arith in spelled_two part long ∙ number_whole 2 bytes at part is (omega arith) long

  pub word_four : IsPart bytes at 4 part → 4 ≤ length part → length part < 5 → get_or part 0 0 + get_or part 1 0 * 256 + get_or part 2 0 * 65536 + get_or part 3 0 * 16777216 ≡ word bytes at
  word_four is low high = let long : length part ≡ 4 = omega arith in spelled_four part long ∙ number_whole 4 bytes at part is (omega arith) long

  pub long_eight : IsPart bytes at 8 part → 8 ≤ length part → length part < 9
      → get_or part 0 0 + get_or part 1 0 * 256 + get_or part 2 0 * 65536 + get_or part 3 0 * 16777216
      + get_or part 4 0 * 4294967296 + get_or part 5 0 * 1099511627776 + get_or part 6 0 * 281474976710656 + get_or part 7 0 * 72057594037927936
      ≡ long bytes at
  long_eight is low high = let eight : length part ≡ 8 = omega arith in spelled_eight part eight ∙ number_whole 8 bytes at part is (omega arith) eight
