-- The canonical lines of a client's text, built from the printed pieces.
use Rattle.std.proofs.Common.{◌≡◌, ℕ, zero, suc, ◌+◌, ◌<◌, List, [], ◌∷◌, ◌++◌, length, map, take, get_or, refl, sym, ap, ◌∙◌, subst, arith, append_assoc, append-nil, Some, Ok, Err}
use Rattle.std.specs.Prelude.{codes, flat_map, All, slice_get, Result, OnOk, is_ok, if◌then◌else◌}
use Rattle.std.proofs.lemmas.List.{take_more, map_push, flat_map_more, length-map, get_or-map}
use Rattle.client_spec.specs.Grammar.{IsConstant}
use Rattle.client_spec.specs.Text.{Item, constant_item, Words, spaced_words}
use Rattle.client_code.specs.declared.constant.Constant.{Constant}
use Rattle.client_code.specs.Views.{constant_of, constants_of}
use Rattle.client_text.specs.Texts.{with_spaces, ended_line}

pub on_ok : {T E : Type 0} (r : Result T E) (P Q : Type 0) → (P → Q) → OnOk r P → OnOk r Q
on_ok (Ok x) P Q f p = f p
on_ok (Err e) P Q f p = p

pub spaced_is : (word : List ℕ) (words : Words) → spaced_words (word ∷ words) ≡ word ++ with_spaces words
spaced_is word [] = sym (append-nil word)
spaced_is word (next ∷ words) = ap (λ xs. word ++ 32 ∷ xs) (spaced_is next words)

pub spaces_two : (xs ys : Words) → with_spaces (xs ++ ys) ≡ with_spaces xs ++ with_spaces ys
spaces_two [] ys = refl
spaces_two (x ∷ xs) ys = ap (λ zs. (32 ∷ x) ++ zs) (spaces_two xs ys) ∙ sym (append_assoc (32 ∷ x) (with_spaces xs) (with_spaces ys))

-- pushing a word, four groups of words and a line end makes one line
pub line_is : (word : List ℕ) (a b c n : Words) (old t0 t1 t2 t3 t4 new : List ℕ) → t0 ≡ old ++ word → t1 ≡ t0 ++ with_spaces a → t2 ≡ t1 ++ with_spaces b
    → t3 ≡ t2 ++ with_spaces c → t4 ≡ t3 ++ with_spaces n → new ≡ t4 ++ 10 ∷ [] → new ≡ old ++ (spaced_words ((((word ∷ a) ++ b) ++ c) ++ n) ++ 10 ∷ [])
line_is word a b c n old t0 t1 t2 t3 t4 new e0 e1 e2 e3 e4 e =
    let words : with_spaces (((a ++ b) ++ c) ++ n) ≡ ((with_spaces a ++ with_spaces b) ++ with_spaces c) ++ with_spaces n =
    spaces_two ((a ++ b) ++ c) n ∙ ap (λ xs. xs ++ with_spaces n) (spaces_two (a ++ b) c ∙ ap (λ xs. xs ++ with_spaces c) (spaces_two a b)) in
    let all : t4 ≡ old ++ (word ++ (((with_spaces a ++ with_spaces b) ++ with_spaces c) ++ with_spaces n)) =
    e4 ∙ ap (λ xs. xs ++ with_spaces n) (e3 ∙ ap (λ xs. xs ++ with_spaces c) (e2 ∙ ap (λ xs. xs ++ with_spaces b) (e1 ∙ ap (λ xs. xs ++ with_spaces a) e0)))
    ∙ regroup old word (with_spaces a) (with_spaces b) (with_spaces c) (with_spaces n) in
    e ∙ ap (λ xs. xs ++ 10 ∷ []) (all ∙ ap (λ xs. old ++ xs) (ap (λ xs. word ++ xs) (sym words) ∙ sym (spaced_is word (((a ++ b) ++ c) ++ n)))) ∙ append_assoc old _ (10 ∷ [])
  where
    regroup : (o w a b c n : List ℕ) → ((((o ++ w) ++ a) ++ b) ++ c) ++ n ≡ o ++ (w ++ (((a ++ b) ++ c) ++ n))
    regroup o w a b c n = simp append_assoc

pub struct_line : (words : Words) (old t0 t1 new : List ℕ) → t0 ≡ old ++ codes "type struct" → t1 ≡ t0 ++ with_spaces words → new ≡ t1 ++ 10 ∷ [] → new ≡ old ++ (spaced_words (codes "type" ∷ codes "struct" ∷ words) ++ 10 ∷ [])
struct_line words old t0 t1 new e0 e1 e =
    e ∙ ap (λ xs. xs ++ 10 ∷ []) (e1 ∙ ap (λ xs. xs ++ with_spaces words) e0 ∙ append_assoc old (codes "type struct") (with_spaces words) ∙ ap (λ xs. old ++ (codes "type " ++ xs)) (sym (spaced_is (codes "struct") words)))
    ∙ append_assoc old (spaced_words (codes "type" ∷ codes "struct" ∷ words)) (10 ∷ [])

-- a push that succeeds appends its bytes
pub pushed : {T E : Type 0} (r : Result T E) (old more new : List ℕ) → new ≡ (if is_ok r then old ++ more else old) → OnOk r (new ≡ old ++ more)
pushed (Ok x) old more new e = e
pushed (Err x) old more new e = tt

-- ---- lines

pub get_there : {A : Type 0} (xs : List A) (k : ℕ) → k < length xs → (x : A) × (slice_get xs k ≡ Some x) × (get_or xs k x ≡ x)
get_there [] k h = absurd (omega arith)
get_there (x ∷ xs) zero h = (x, refl, refl)
get_there (x ∷ xs) (suc k) h = get_there xs k (omega arith)

-- pushing the line of the next item keeps the invariant
pub line_more : {A : Type 0} (item : A → Item) (xs : List A) (k : ℕ) (x : A) (start text new : List ℕ) → k < length xs → get_or xs k x ≡ x
    → text ≡ start ++ flat_map ended_line (map item (take k xs)) → new ≡ text ++ ended_line (item x) → new ≡ start ++ flat_map ended_line (map item (take (k + 1) xs))
line_more item xs k x start text new h e t n =
    let more : map item (take (k + 1) xs) ≡ map item (take k xs) ++ item x ∷ [] = ap (map item) (take_more xs k x h ∙ ap (λ y. take k xs ++ y ∷ []) e) ∙ map_push item (take k xs) x in
    n ∙ ap (λ ys. ys ++ ended_line (item x)) t ∙ flat_map_more ended_line start (map item (take k xs)) (item x) ∙ ap (λ ys. start ++ flat_map ended_line ys) (sym more)

pub constant_more : (xs : List Constant) (k : ℕ) (d : Constant) (start text new : List ℕ)
    → k < length xs → All IsConstant (constants_of xs) → text ≡ start ++ flat_map ended_line (map constant_item (take k (constants_of xs)))
    → (IsConstant (constant_of (get_or xs k d)) → new ≡ text ++ ended_line (constant_item (constant_of (get_or xs k d))))
    → new ≡ start ++ flat_map ended_line (map constant_item (take (k + 1) (constants_of xs)))
constant_more xs k d start text new h all t n =
    let x = constant_of (get_or xs k d) in
    let long = length-map xs constant_of in
    let h' : k < length (constants_of xs) = omega arith in
    let e : get_or (constants_of xs) k x ≡ x = get_or-map constant_of xs k d x h in
    line_more constant_item (constants_of xs) k x start text new h' e t (n (subst IsConstant e (all k x h')))
