-- The lines of a text, one by one.
use Rattle.std.proofs.Common.{◌≡◌, ℕ, suc, ◌+◌, ◌-◌, ◌<◌, ◌≤◌, Bool, true, false, nat_eq, List, [], ◌∷◌, ◌++◌, length, take, drop, get_or, refl, sym, ap, ◌∙◌, arith, min, append_assoc, append-nil}
use Rattle.std.specs.Prelude.{◌==◌, if◌then◌else◌}
use Rattle.std.proofs.lemmas.List.{at_drop_more, drop-drop}
use Rattle.std.proofs.Math.ListN.{drop_of_length-le}
use Rattle.client_spec.specs.Text.{lines_from}
use Rattle.client_text.proofs.LineWords.{rest_from}
use Rattle.client_text.specs.Lines.{line_length}

at_first : (t : Bool) (b : ℕ) (text : List ℕ) → (b == 10) ≡ t → line_length (b ∷ text) ≡ (if t then 0 else suc (line_length text))
at_first t b text e = ap (λ test. if test then 0 else suc (line_length text)) e

-- at a line end, the loop's index is the length of the line
pub stops : (text : List ℕ) (i : ℕ) → i < length text → line_length text ≡ i + line_length (drop i text) → nat_eq (get_or text i 0) 10 ≡ true → i ≡ line_length text
stops text i within so_far test =
    let here = at_drop_more line_length text i 0 within ∙ at_first true (get_or text i 0) (drop (i + 1) text) test in
    omega arith

pub goes_on : (text : List ℕ) (i : ℕ) → i < length text → line_length text ≡ i + line_length (drop i text) → nat_eq (get_or text i 0) 10 ≡ false → line_length text ≡ (i + 1) + line_length (drop (i + 1) text)
goes_on text i within so_far test =
    let here = at_drop_more line_length text i 0 within ∙ at_first false (get_or text i 0) (drop (i + 1) text) test in
    omega arith

pub ends : (text : List ℕ) (i : ℕ) → length text ≤ i → line_length text ≡ i + line_length (drop i text) → i ≡ line_length text
ends text i following so_far =
    let here = ap line_length (drop_of_length-le text following) in
    omega arith

-- ---- the first line

-- a line that has begun continues up to its end
line_step : (t : Bool) (c : ℕ) (line : List ℕ) (b : ℕ) (text : List ℕ) (n : ℕ) → (b == 10) ≡ t → lines_from (c ∷ (line ++ b ∷ [])) text ≡ ((c ∷ (line ++ b ∷ [])) ++ take n text) ∷ lines_from [] (drop (suc n) text)
    → (if t then (c ∷ line) ∷ lines_from [] text else lines_from (c ∷ (line ++ b ∷ [])) text) ≡ (c ∷ (line ++ take (if t then 0 else suc n) (b ∷ text))) ∷ lines_from [] (drop (suc (if t then 0 else suc n)) (b ∷ text))
line_step true c line b text n e rest = ap (λ xs. (c ∷ xs) ∷ lines_from [] text) (sym (append-nil line))
line_step false c line b text n e rest = rest ∙ ap (λ xs. (c ∷ xs) ∷ lines_from [] (drop (suc n) text)) (append_assoc line (b ∷ []) (take n text))

line_goes_on : (c : ℕ) (line text : List ℕ) → lines_from (c ∷ line) text ≡ ((c ∷ line) ++ take (line_length text) text) ∷ lines_from [] (drop (suc (line_length text)) text)
line_goes_on c line [] = ap (λ xs. (c ∷ xs) ∷ []) (sym (append-nil line))
line_goes_on c line (b ∷ text) = line_step (b == 10) c line b text (line_length text) refl (line_goes_on c (line ++ b ∷ []) text)

line_begins : (t : Bool) (b : ℕ) (text : List ℕ) → (b == 10) ≡ t → (if t then [] ∷ lines_from [] text else lines_from (b ∷ []) text) ≡ take
    (if t then 0 else suc (line_length text)) (b ∷ text) ∷ lines_from [] (drop (suc (if t then 0 else suc (line_length text))) (b ∷ text))
line_begins true b text e = refl
line_begins false b text e = line_goes_on b [] text

first_line : (text : List ℕ) → 0 < length text → lines_from [] text ≡ take (line_length text) text ∷ lines_from [] (drop (suc (line_length text)) text)
first_line [] some = absurd (omega arith)
first_line (b ∷ text) some = line_begins (b == 10) b text refl

-- after its line end, the rest of the text is the text without the line
after_end : (text rest left : List ℕ) (n m : ℕ) → rest ≡ drop n text → m ≡ min (length rest) 1 → left ≡ take (length rest - m) (drop m rest) → left ≡ drop (suc n) text
after_end text rest left n m r e l = l ∙ rest_from rest m ∙ one_less rest m e ∙ ap (drop 1) r ∙ drop-drop 1 n text ∙ ap (λ k. drop k text) (let k : n + 1 ≡ suc n = omega arith in k)
  where
    one_less : (xs : List ℕ) (m : ℕ) → m ≡ min (length xs) 1 → drop m xs ≡ drop 1 xs
    one_less [] m e = let z : m ≡ 0 = omega arith in ap (λ k. drop k []) z
    one_less (x ∷ xs) m e = let z : m ≡ 1 = omega arith in ap (λ k. drop k (x ∷ xs)) z

pub one_line : (text line rest left : List ℕ) (n m : ℕ) → 0 < length text → n ≡ line_length text → line ≡ take n text → rest ≡ drop n text
    → m ≡ min (length rest) 1 → left ≡ take (length rest - m) (drop m rest) → lines_from [] text ≡ line ∷ lines_from [] left
one_line text line rest left n m some e l r k b =
    let here = after_end text rest left n m r k b in
    first_line text some ∙ ap (λ i. take i text ∷ lines_from [] (drop (suc i) text)) (sym e) ∙ cc
