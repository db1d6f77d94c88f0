-- What the reader's functions return for a client file's bytes.
use Rattle.std.proofs.Common.{◌≡◌, ℕ, ◌+◌, ◌-◌, ◌*◌, ◌/◌, ◌%◌, ◌<◌, ◌≤◌, Fits, w8, List, [], ◌∷◌, ◌++◌, length, take, drop, get_or, refl, sym, ap, ◌∙◌, arith, rules}
use Rattle.std.specs.Prelude.{◌≢◌, slice_index, IsTrue, nat_le, All, Option, Some, None, IfSome, IfNone}
use Rattle.std.proofs.lemmas.List.{get_or_default, take_rest, drop-drop, length-take-le, take-append-drop}
use Rattle.seg_spec.specs.Bytes.{spelled, number, slice}
use Rattle.seg_spec.proofs.BytesLaws.{number_in, length-slice}
use Rattle.client_code.specs.declared.constant.ConstantKind.{ConstantKind}
use Rattle.client_code.specs.declared.constant.ConstantKind.TheVariants as kind
use Rattle.client_spec.specs.Syntax as code
use Rattle.client_spec.specs.Grammar.{IsConstant, word_bytes, constant_bytes, instruction_bytes}
use Rattle.client_code.specs.declared.instruction.Instruction.{Instruction}
use Rattle.client_code.specs.Operands.{HasOperands}
use Rattle.client_code.specs.Views.{constant_by, instruction_of}

spelled_four : (s : List ℕ) → length s ≡ 4 → spelled s ≡ slice_index s 0 + 256 * (slice_index s 1 + 256 * (slice_index s 2 + 256 * (slice_index s 3 + 0)))
spelled_four [] e = absurd (omega arith)
spelled_four (a ∷ []) e = absurd (omega arith)
spelled_four (a ∷ b ∷ []) e = absurd (omega arith)
spelled_four (a ∷ b ∷ c ∷ []) e = absurd (omega arith)
spelled_four (a ∷ b ∷ c ∷ d ∷ []) e = refl
spelled_four (a ∷ b ∷ c ∷ d ∷ f ∷ s) e = absurd (omega arith)

-- four bytes are the word at their position
pub word_at : (file s : List ℕ) (at n : ℕ) → at + 4 ≤ length file → s ≡ slice file at 4 → n ≡ slice_index s 0 + 256 * (slice_index s 1 + 256 * (slice_index s 2 + 256 * (slice_index s 3 + 0))) → n ≡ number 4 file at
unfolding slice
word_at file s at n h same e =
    let four : length s ≡ 4 = ap length same ∙ length-slice file at 4 h in
    e ∙ sym (spelled_four s four) ∙ ap spelled same ∙ sym (number_in 4 file at h)

pub all_bytes : (xs : List ℕ) → ((i : ℕ) → Fits w8 (get_or xs i 0)) → All (λ b. b < 256) xs
all_bytes xs h k d l = let e = get_or_default xs k d 0 l in let f = h k in omega arith

pub text_valid : (k : ConstantKind) (bytes : List ℕ) → k ≡ kind.Text → ((i : ℕ) → Fits w8 (get_or bytes i 0))
    → (IsTrue (nat_le (length bytes) 255) → IsConstant (constant_by k bytes)) × (IsConstant (constant_by k bytes) → IsTrue (nat_le (length bytes) 255))
text_valid kind.Text bytes e h = (λ t. (search rules, all_bytes bytes h), λ v. let few = v.0 in search rules)
text_valid kind.Name bytes e h = cc
text_valid kind.Family bytes e h = cc

-- a constant that was read is at that position, and the rest of the file after it
pub constant_at : (file front rest bytes : List ℕ) (k : ConstantKind) (at len n : ℕ) → front ≡ take (length file - at) (drop at file) → 2 ≤ length front
    → rest ≡ take (length front - 2) (drop 2 front) → len ≡ get_or front 1 0 → n ≡ get_or front 1 0 → n ≤ length rest → bytes ≡ take (n - 0) (drop 0 rest)
    → ((xs : List ℕ) → constant_bytes (constant_by k xs) ≡ get_or front 0 0 ∷ length xs ∷ xs) → drop at file ≡ constant_bytes (constant_by k bytes) ++ drop (at + 2 + len) file
constant_at file front rest bytes k at len n f long r l m fits b law =
    let cut : bytes ≡ take len rest = (let e : n - 0 ≡ len = omega arith in b ∙ ap (λ i. take i rest) e) in
    let front_is : front ≡ drop at file = f ∙ take_rest file at in
    let rest_is : rest ≡ drop (at + 2) file = r ∙ take_rest front 2 ∙ ap (drop 2) front_is ∙ drop-drop 2 at file in
    let size : length bytes ≡ len = ap length cut ∙ length-take-le len rest (omega arith) in
    let parts : rest ≡ bytes ++ drop (at + 2 + len) file = sym (take-append-drop len rest) ∙ ap (λ xs. xs ++ drop len rest) (sym cut) ∙ ap (λ xs. bytes ++ xs) (ap (drop len) rest_is ∙ drop-drop len (at + 2) file) in
    let two : front ≡ get_or front 0 0 ∷ get_or front 1 0 ∷ rest = two_of front rest long r in
    sym front_is ∙ two ∙ ap (λ n. get_or front 0 0 ∷ n ∷ rest) (sym l ∙ sym size) ∙ ap (λ xs. get_or front 0 0 ∷ length bytes ∷ xs) parts
    ∙ ap (λ xs. xs ++ drop (at + 2 + len) file) (sym (law bytes))
  where
    two_of : (front rest : List ℕ) → 2 ≤ length front → rest ≡ take (length front - 2) (drop 2 front) → front ≡ get_or front 0 0 ∷ get_or front 1 0 ∷ rest
    two_of [] rest h e = absurd (omega arith)
    two_of (a ∷ []) rest h e = absurd (omega arith)
    two_of (a ∷ b ∷ xs) rest h e = ap (λ ys. a ∷ b ∷ ys) (sym (e ∙ take_rest (a ∷ b ∷ xs) 2))

-- the last four of 8 bytes are the word of the number that they encode
word_of_four : (a b c d n : ℕ) → a < 256 → b < 256 → c < 256 → d < 256 → n ≡ a + 256 * b + 65536 * c + 16777216 * d → word_bytes n ≡ a ∷ b ∷ c ∷ d ∷ []
word_of_four a b c d n f g h k e =
    let first : n % 256 ≡ a = omega arith in
    let second : n / 256 % 256 ≡ b = omega arith in
    let third : n / 256 / 256 % 256 ≡ c = omega arith in
    let fourth : n / 256 / 256 / 256 % 256 ≡ d = omega arith in
    λ i. first i ∷ second i ∷ third i ∷ fourth i ∷ []

pub eight : (bytes : List ℕ) (n : ℕ) → length bytes ≡ 8 → ((i : ℕ) → Fits w8 (get_or bytes i 0)) → n ≡ get_or bytes 4 0 + 256 * get_or bytes 5 0 + 65536 * get_or bytes 6 0 + 16777216 * get_or bytes 7 0
    → bytes ≡ get_or bytes 0 0 ∷ get_or bytes 1 0 ∷ get_or bytes 2 0 ∷ get_or bytes 3 0 ∷ word_bytes n
eight [] n l h e = absurd (omega arith)
eight (b0 ∷ []) n l h e = absurd (omega arith)
eight (b0 ∷ b1 ∷ []) n l h e = absurd (omega arith)
eight (b0 ∷ b1 ∷ b2 ∷ []) n l h e = absurd (omega arith)
eight (b0 ∷ b1 ∷ b2 ∷ b3 ∷ []) n l h e = absurd (omega arith)
eight (b0 ∷ b1 ∷ b2 ∷ b3 ∷ b4 ∷ []) n l h e = absurd (omega arith)
eight (b0 ∷ b1 ∷ b2 ∷ b3 ∷ b4 ∷ b5 ∷ []) n l h e = absurd (omega arith)
eight (b0 ∷ b1 ∷ b2 ∷ b3 ∷ b4 ∷ b5 ∷ b6 ∷ []) n l h e = absurd (omega arith)
eight (b0 ∷ b1 ∷ b2 ∷ b3 ∷ b4 ∷ b5 ∷ b6 ∷ b7 ∷ []) n l h e = ap (λ last. b0 ∷ b1 ∷ b2 ∷ b3 ∷ last)
    (sym (word_of_four b4 b5 b6 b7 n (let f = h 4 in omega arith) (let f = h 5 in omega arith) (let f = h 6 in omega arith) (let f = h 7 in omega arith) e))
eight (b0 ∷ b1 ∷ b2 ∷ b3 ∷ b4 ∷ b5 ∷ b6 ∷ b7 ∷ b8 ∷ bytes) n l h e = absurd (omega arith)

-- bytes that decode to an instruction are the encoding of it
pub decoded : (r : Option Instruction) (file field : List ℕ) (at : ℕ)
    → at + 8 ≤ length file → field ≡ slice file at 8 → IfSome r (λ i. field ≡ instruction_bytes (instruction_of i))
    → IfSome r (λ i. (at + 8 ≤ length file) × (slice file at 8 ≡ instruction_bytes (instruction_of i)))
decoded None file field at h same found = found
decoded (Some i) file field at h same found = (h, sym same ∙ found)

pub not_decoded : (r : Option Instruction) (file field : List ℕ) (at : ℕ)
    → field ≡ slice file at 8 → IfNone r ((i : code.Instruction) → HasOperands i → field ≢ instruction_bytes i)
    → IfNone r (at + 8 ≤ length file → (i : code.Instruction) → HasOperands i → slice file at 8 ≢ instruction_bytes i)
not_decoded None file field at same none = λ h i few e. none i few (same ∙ e)
not_decoded (Some i) file field at same none = none
