-- Opening doesn't change an image of the version that may have frozen objects.
use Rattle.std.proofs.Common.{◌≡◌, ℕ, ◌+◌, inl, inr, List, [], ◌∷◌, ◌++◌, length, take, drop, sym, ap, ◌∙◌, arith}
use Rattle.std.proofs.lemmas.List.{length-take, length-drop, take-append-drop, drop-drop}
use Rattle.std.proofs.lemmas.Bool.{cases_lt}
use Rattle.seg_spec.specs.Bytes.{spelled, spelling, word}
use Rattle.seg_spec.specs.Header.{version_word, sharing_version}
use Rattle.seg_spec.specs.Images.{upgraded}
use Rattle.seg_spec.proofs.BytesLaws.{number_in, set_number_in, set_number_past}

-- four bytes that spell 2
spelled_version : (xs : List ℕ) → length xs ≡ 4 → spelled xs ≡ sharing_version → spelling 4 sharing_version ≡ xs
spelled_version [] few is = absurd (omega arith)
spelled_version (a ∷ []) few is = absurd (omega arith)
spelled_version (a ∷ b ∷ []) few is = absurd (omega arith)
spelled_version (a ∷ b ∷ c ∷ []) few is = absurd (omega arith)
spelled_version (a ∷ b ∷ c ∷ d ∷ []) four is =
    let first : 2 ≡ a = omega arith in
    let second : 0 ≡ b = omega arith in
    let third : 0 ≡ c = omega arith in
    let fourth : 0 ≡ d = omega arith in
    cc
spelled_version (a ∷ b ∷ c ∷ d ∷ e ∷ xs) many is = absurd (omega arith)

pub upgraded_same : (bytes : List ℕ) → word bytes version_word ≡ sharing_version → upgraded bytes ≡ bytes
upgraded_same bytes is = elim (cases_lt (length bytes) (version_word + 4)) [
  | inl past ↦ set_number_past 4 bytes version_word sharing_version past
  | inr fits ↦
      let rest = drop version_word bytes in
      let four : length (take 4 rest) ≡ 4 = simp (length-take, length-drop) (omega arith) in
      let spelt = spelled_version (take 4 rest) four (sym (number_in 4 bytes version_word fits) ∙ is) in
      set_number_in 4 bytes version_word sharing_version fits
      ∙ ap (λ xs. take version_word bytes ++ (xs ++ drop (version_word + 4) bytes)) spelt
      ∙ ap (λ xs. take version_word bytes ++ (take 4 rest ++ xs)) (sym (drop-drop 4 version_word bytes))
      ∙ ap (λ xs. take version_word bytes ++ xs) (take-append-drop 4 rest)
      ∙ take-append-drop version_word bytes
]
