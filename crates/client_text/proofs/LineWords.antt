-- The words of a line, one by one.
use Rattle.std.proofs.Common.{◌≡◌, ℕ, suc, ◌+◌, ◌-◌, ◌<◌, ◌≤◌, Bool, true, false, nat_eq, List, [], ◌∷◌, ◌++◌, length, take, drop, get_or, refl, sym, ap, ◌∙◌, subst, arith, append_assoc, append-nil}
use Rattle.std.specs.Prelude.{All, map, Option, Some, None, MatchOption, IfSome, not, ◌==◌, if◌then◌else◌}
use Rattle.std.proofs.Math.Bool.{beq}
use Rattle.std.proofs.lemmas.List.{at_drop_more, take_all, length-drop, nil_from_length}
use Rattle.std.proofs.Math.ListN.{drop_of_length-le}
use Rattle.std.proofs.lemmas.List.Elements.{All-head, All-tail}
use Rattle.client_spec.specs.Text.{Words, words_of, words_from, type_word}
use Rattle.client_spec.proofs.Spelling.TextWordLaws.{tail_of}
use Rattle.client_text.specs.Texts.{before_space}

same_test : (x y : Bool) → beq x y ≡ (if x then y else not y)
same_test true true = refl
same_test true false = refl
same_test false true = refl
same_test false false = refl

at_first : (s t : Bool) (b : ℕ) (line : List ℕ) → (if b == 32 then s else not s) ≡ t → before_space s (b ∷ line) ≡ (if t then 0 else suc (before_space s line))
at_first s t b line e = ap (λ test. if test then 0 else suc (before_space s line)) e

-- at a byte of the tested kind, the loop's index is the result
pub stops : (s : Bool) (line : List ℕ) (i : ℕ) → i < length line → before_space s line ≡ i + before_space s (drop i line) → beq (nat_eq (get_or line i 0) 32) s ≡ true → i ≡ before_space s line
stops s line i within so_far test =
    let here = at_drop_more (before_space s) line i 0 within ∙ at_first s true (get_or line i 0) (drop (i + 1) line) (sym (same_test (nat_eq (get_or line i 0) 32) s) ∙ test) in
    omega arith

pub goes_on : (s : Bool) (line : List ℕ) (i : ℕ) → i < length line → before_space s line ≡ i + before_space s (drop i line) → beq (nat_eq (get_or line i 0) 32) s ≡ false → before_space s line ≡ (i + 1) + before_space s (drop (i + 1) line)
goes_on s line i within so_far test =
    let here = at_drop_more (before_space s) line i 0 within ∙ at_first s false (get_or line i 0) (drop (i + 1) line) (sym (same_test (nat_eq (get_or line i 0) 32) s) ∙ test) in
    omega arith

pub ends : (s : Bool) (line : List ℕ) (i : ℕ) → length line ≤ i → before_space s line ≡ i + before_space s (drop i line) → i ≡ before_space s line
ends s line i following so_far =
    let here = ap (before_space s) (drop_of_length-le line following) in
    omega arith

-- ---- words

-- spaces before a word don't matter
skip : (t : Bool) (b : ℕ) (line : List ℕ) → (b == 32) ≡ t → words_of line ≡ words_of (drop (before_space false line) line)
    → words_of (b ∷ line) ≡ words_of (drop (if (if t then false else true) then 0 else suc (before_space false line)) (b ∷ line))
skip true b line e rest = ap (λ test. if test then words_from [] line else words_from (b ∷ []) line) e ∙ rest
skip false b line e rest = refl

pub skip_spaces : (line : List ℕ) → words_of line ≡ words_of (drop (before_space false line) line)
skip_spaces [] = refl
skip_spaces (b ∷ line) = skip (b == 32) b line refl (skip_spaces line)

-- the bytes up to the next space belong to a word that has begun
word_step : (t : Bool) (c : ℕ) (word : List ℕ) (b : ℕ) (line : List ℕ) (n : ℕ) → (b == 32) ≡ t → words_from (c ∷ (word ++ b ∷ [])) line ≡ ((c ∷ (word ++ b ∷ [])) ++ take n line) ∷ words_of (drop n line)
    → (if t then (c ∷ word) ∷ words_from [] line else words_from (c ∷ (word ++ b ∷ [])) line)
    ≡ (c ∷ (word ++ take (if (if t then true else false) then 0 else suc n) (b ∷ line)))
    ∷ words_of (drop (if (if t then true else false) then 0 else suc n) (b ∷ line))
word_step true c word b line n e rest = ap (λ w. (c ∷ w) ∷ words_from [] line) (sym (append-nil word)) ∙ ap (λ test. (c ∷ (word ++ [])) ∷ (if test then words_from [] line else words_from (b ∷ []) line)) (sym e)
word_step false c word b line n e rest = rest ∙ ap (λ w. (c ∷ w) ∷ words_of (drop n line)) (append_assoc word (b ∷ []) (take n line))

pub word_goes_on : (c : ℕ) (word line : List ℕ) → words_from (c ∷ word) line ≡ ((c ∷ word) ++ take (before_space true line) line) ∷ words_of (drop (before_space true line) line)
word_goes_on c word [] = ap (λ w. (c ∷ w) ∷ []) (sym (append-nil word))
word_goes_on c word (b ∷ line) = word_step (b == 32) c word b line (before_space true line) refl (word_goes_on c (word ++ b ∷ []) line)

-- a word and the rest after it
abbrev pub BeginsWithWord : List ℕ → Type 0
BeginsWithWord line = words_of line ≡ take (before_space true line) line ∷ words_of (drop (before_space true line) line)

word_here : (b : ℕ) (line : List ℕ) → (b == 32) ≡ false → BeginsWithWord (b ∷ line)
word_here b line e =
    let n = before_space true line in
    ap (λ t. if t then words_from [] line else words_from (b ∷ []) line) e ∙ word_goes_on b [] line
    ∙ ap (λ t. take (if (if t then true else false) then 0 else suc n) (b ∷ line) ∷ words_of (drop (if (if t then true else false) then 0 else suc n) (b ∷ line))) (sym e)

word_after : (t : Bool) (b : ℕ) (line : List ℕ) → (b == 32) ≡ t → (0 < length (drop (before_space false line) line) → BeginsWithWord (drop (before_space false line) line))
    → 0 < length (drop (if (if t then false else true) then 0 else suc (before_space false line)) (b ∷ line)) → BeginsWithWord (drop (if (if t then false else true) then 0 else suc (before_space false line)) (b ∷ line))
word_after true b line e rest some = rest some
word_after false b line e rest some = word_here b line e

-- after the spaces there is a word, if there is anything
pub word_next : (line : List ℕ) → 0 < length (drop (before_space false line) line) → BeginsWithWord (drop (before_space false line) line)
word_next [] some = absurd (omega arith)
word_next (b ∷ line) some = word_after (b == 32) b line refl (word_next line) some

-- the slice from a position to the end of a line is the rest of the line
pub rest_from : (line : List ℕ) (n : ℕ) → take (length line - n) (drop n line) ≡ drop n line
rest_from line n = take_all (length line - n) (drop n line) (let l = length-drop n line in omega arith)

pub no_words : (line left : List ℕ) (n : ℕ) → n ≡ before_space false line → left ≡ take (length line - n) (drop n line) → length left ≡ 0 → words_of line ≡ []
no_words line left n e l none = skip_spaces line ∙ ap words_of (sym (ap (λ k. drop k line) e) ∙ sym (rest_from line n) ∙ sym l ∙ nil_from_length left none)

pub one_word : (line left word rest : List ℕ) (n m : ℕ) → n ≡ before_space false line → left ≡ take (length line - n) (drop n line) → m ≡ before_space true left
    → 0 < length left → word ≡ take m left → rest ≡ drop m left → words_of line ≡ word ∷ words_of rest
one_word line left word rest n m e l f some w r =
    let here : left ≡ drop (before_space false line) line = l ∙ rest_from line n ∙ ap (λ k. drop k line) e in
    let begins = subst BeginsWithWord (sym here) (word_next line (subst (λ xs. 0 < length xs) here some)) in
    skip_spaces line ∙ ap words_of (sym here) ∙ begins ∙ cc

-- groups of words that are read one after the other make up the words
pub joined : (a b c n w0 w1 w2 w3 w4 : Words) → w0 ≡ a ++ w1 → w1 ≡ b ++ w2 → w2 ≡ c ++ w3 → w3 ≡ n ++ w4 → w0 ≡ (((a ++ b) ++ c) ++ n) ++ w4
joined a b c n w0 w1 w2 w3 w4 e0 e1 e2 e3 =
    e0 ∙ ap (λ ws. a ++ ws) (e1 ∙ ap (λ ws. b ++ ws) (e2 ∙ ap (λ ws. c ++ ws) e3))
    ∙ sym (append_assoc ((a ++ b) ++ c) n w4 ∙ append_assoc (a ++ b) c (n ++ w4) ∙ append_assoc a b (c ++ (n ++ w4)))

-- a word that is no type's isn't among the words of a struct's types
pub not_types : (fields types : List ℕ) (word : List ℕ) (rest : Words) → All (λ t. t < 256) types → ((t : ℕ) → t < 256 → word ≡ type_word t → ⊥) → map type_word fields ++ word ∷ rest ≡ map type_word types → ⊥
not_types [] [] word rest small none e = cc
not_types [] (t ∷ types) word rest small none e = none t (All-head (λ t. t < 256) t types small) (tail_of word (type_word t) rest (map type_word types) e).0
not_types (f ∷ fields) [] word rest small none e = cc
not_types (f ∷ fields) (t ∷ types) word rest small none e = not_types fields types word rest (All-tail (λ t. t < 256) t types small) none (tail_of (type_word f) (type_word t) (map type_word fields ++ word ∷ rest) (map type_word types) e).1

-- the fields of a short list have types whose numbers fit in a byte
pub few_small : (A : Type 0) (types : List ℕ) (fields : Option (List ℕ)) → MatchOption fields A (λ found. found ≡ types) → IfSome fields (λ found. (1 ≤ length found) × (length found ≤ 8)) → All (λ U. U < 256) types
    → IfSome fields (λ found. (1 ≤ length found) × (length found ≤ 8) × All (λ U. U < 256) found)
few_small A types None same few small = tt
few_small A types (Some fields) same few small = (few.0, few.1, subst (All (λ U. U < 256)) (sym same) small)
