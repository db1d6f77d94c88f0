-- The number of unique objects, counted by their pointers.
use Rattle.std.proofs.Common.{◌≡◌, ◌≢◌, ℕ, suc, ◌+◌, ◌<◌, ◌≤◌, ◌⊎◌, inl, inr, true, false, cond, List, [], ◌∷◌, length, Some, refl, sym, ◌∙◌, subst, arith}
use Rattle.std.specs.Prelude.{nat_lt}
use Rattle.std.specs.Option.{is_some}
use Rattle.std.proofs.lemmas.Bool.{cases_eq, cases_lt}
use Rattle.std.proofs.lemmas.Bool.Decides.{nat_tests}
use Rattle.seg_spec.specs.Pointer.{target}
use Rattle.seg_spec.specs.Index.{Root, position_of, AreRising, unique_word, ListsUniques}
use Rattle.seg_spec.proofs.Images.UniqueLaws.{at_head, past_head}

-- the number of these roots whose type is less than T
abbrev pub below : ℕ → List Root → ℕ
below T [] = 0
below T (r ∷ rs) = cond (nat_lt r.type T) 1 0 + below T rs

below_none : (T U : ℕ) (rs : List Root) → AreRising U rs → T ≤ U → below T rs ≡ 0
below_none T U [] rising le = refl
below_none T U (r ∷ rs) rising le =
    let rest = below_none T (suc r.type) rs rising.2 (omega (arith, rising.0)) in
    let low = rising.0 in
    let off : nat_lt r.type T ≡ false = grind (arith, nat_tests) in
    rw off (omega arith)

below_all : (U : ℕ) (rs : List Root) → AreRising U rs → below 32 rs ≡ length rs
below_all U [] rising = refl
below_all U (r ∷ rs) rising =
    let rest = below_all (suc r.type) rs rising.2 in
    let low = rising.1 in
    let on : nat_lt r.type 32 ≡ true = grind (arith, nat_tests) in
    rw on (omega arith)

below_more : (T U : ℕ) (rs : List Root) → AreRising U rs → below (T + 1) rs ≡ below T rs + cond (is_some (position_of rs T)) 1 0
below_more T U [] rising = refl
below_more T U (r ∷ rs) rising = go (cases_eq r.type T) (cases_lt r.type T) (below_more T (suc r.type) rs rising.2)
  where
    go : (r.type ≡ T) ⊎ (r.type ≢ T) → (r.type < T) ⊎ (T ≤ r.type) → below (T + 1) rs ≡ below T rs + cond (is_some (position_of rs T)) 1 0 → below (T + 1) (r ∷ rs) ≡ below T (r ∷ rs) + cond (is_some (position_of (r ∷ rs) T)) 1 0
    go (inl e) l rest =
        let on : nat_lt r.type (T + 1) ≡ true = grind (arith, nat_tests) in
        let off : nat_lt r.type T ≡ false = grind (arith, nat_tests) in
        let mine : position_of (r ∷ rs) T ≡ Some r.at = subst (λ t. position_of (r ∷ rs) t ≡ Some r.at) e (at_head r rs) in
        let first = below_none (T + 1) (suc r.type) rs rising.2 (omega arith) in
        let second = below_none T (suc r.type) rs rising.2 (omega arith) in
        rw (on, off, mine) (omega arith)
    go (inr ne) (inl l) rest =
        let on : nat_lt r.type (T + 1) ≡ true = grind (arith, nat_tests) in
        let also : nat_lt r.type T ≡ true = grind (arith, nat_tests) in
        rw (on, also, past_head r rs T ne) (omega arith)
    go (inr ne) (inr l) rest =
        let off : nat_lt r.type (T + 1) ≡ false = grind (arith, nat_tests) in
        let also : nat_lt r.type T ≡ false = grind (arith, nat_tests) in
        rw (off, also, past_head r rs T ne) (omega arith)

pub none_counted : (rs : List Root) → AreRising 0 rs → 0 ≡ below 0 rs
none_counted rs rising = sym (below_none 0 0 rs rising (omega arith))

-- the count after the pointer of one type more was read
pub one_counted : (bytes : List ℕ) (rs : List Root) (T n : ℕ) → ListsUniques bytes rs → T < 32 → n ≡ below T rs → n + cond (is_some (target bytes (unique_word T))) 1 0 ≡ below (T + 1) rs
one_counted bytes rs T n l less e =
    let more = below_more T 0 rs l.rising in
    let word = l.words T less in
    rw word (omega arith)

pub all_counted : (rs : List Root) (n : ℕ) → AreRising 0 rs → n ≡ below 32 rs → n ≡ length rs
all_counted rs n rising e = e ∙ below_all 0 rs rising
