-- Moving entries with a pointer, from how each write changes the bytes.
use Rattle.std.proofs.Common.{◌≡◌, ℕ, suc, ◌+◌, ◌*◌, ◌%◌, ◌^◌, ◌<◌, ◌≤◌, ◌⊎◌, inl, inr, List, length, Some, refl, sym, ap, ◌∙◌, subst, arith}
use Rattle.std.proofs.Math.Nat.{mul-le-mul_right}
use Rattle.std.proofs.lemmas.Bool.{cases_lt}
use Rattle.seg_spec.specs.Bytes.{word, set_word, slice, put, ChangesOnly}
use Rattle.seg_spec.specs.Cells.{IsWithin, further}
use Rattle.seg_spec.proofs.BytesLaws.{length-slice, number-slice, number-set_same, number-set_other}
use Rattle.seg_spec.proofs.SliceLaws.{slice-slice, slice-put_same, put-changes, IsSame-trans}
use Rattle.seg_spec.proofs.Values.PlaceFrameLaws.{word-same}
use Rattle.seg_spec.proofs.Images.RootWriteLaws.{set_number-changes}
use Rattle.seg_spec.proofs.Values.CellChangeLaws.{ChangesOnly-trans, ChangesOnly-wider, ChangesOnly-none}
use Rattle.seg_spec.proofs.Values.CellShiftLaws.{pointer_moved}
use Rattle.seg_cells.specs.Pointers.{pointer_at, PointsAgain, MovesPointers}
use Rattle.seg_cells.proofs.CellCases.{further_small}

pub no_pointers : (distance : ℕ) (a : List ℕ) (start each before : ℕ) → PointsAgain distance a a start each before 0
no_pointers distance a start each before = record { changes = ChangesOnly-none a start (0 * each); words = λ i l. absurd (omega arith); beside = λ q m f. refl }

earlier : (start each before j i : ℕ) → before + 4 ≤ each → j < i → pointer_at start each before j + 4 ≤ pointer_at start each before i
earlier start each before j i fits less =
    let m = mul-le-mul_right each less in
    let all : suc j * each ≡ each + j * each = grind arith in
    omega arith

inside : (start each before i n : ℕ) → before + 4 ≤ each → i < n → pointer_at start each before i + 4 ≤ start + n * each
inside start each before i n fits less =
    let m = mul-le-mul_right each less in
    let all : suc i * each ≡ each + i * each = grind arith in
    omega arith

pub pointer_position : (a : List ℕ) (start each before i n : ℕ) → before + 4 ≤ each → i < n → IsWithin a start (n * each) → (start + i * each + before) % 2 ^ 32 ≡ pointer_at start each before i
pointer_position a start each before i n fits less w = let l = inside start each before i n fits less in omega (arith, w.fits, w.small)

pub next_pointer : (distance : ℕ) (a b : List ℕ) (start each before i n : ℕ) → before + 4 ≤ each → i < n → IsWithin a start (n * each) → PointsAgain distance a b start each before i
    → PointsAgain distance a (set_word b (pointer_at start each before i) (further distance (word b (pointer_at start each before i)))) start each before (i + 1)
next_pointer distance a b start each before i n fits less w k =
    let p = pointer_at start each before i in
    let within = inside start each before i n fits less in
    let long = k.changes.length_kept in
    let more : (i + 1) * each ≡ each + i * each = grind arith in
    let first = ChangesOnly-wider a b start (i * each) start ((i + 1) * each) (omega arith) (omega arith) k.changes in
    let second = ChangesOnly-wider b (set_word b p (further distance (word b p))) p 4 start ((i + 1) * each) (omega arith) (omega arith) (set_number-changes 4 b p (further distance (word b p))) in
    let was : word b p ≡ word a p = word-same a b p (k.beside p 4 (λ j l. inr (earlier start each before j i fits l))) in
    record {
      changes = ChangesOnly-trans a b (set_word b p (further distance (word b p))) start ((i + 1) * each) first second;
      words = λ j l. one j l (cases_lt j i);
      beside = λ q m f. IsSame-trans a b (set_word b p (further distance (word b p))) q m (k.beside q m (λ j l. f j (omega arith)))
          ((set_number-changes 4 b p (further distance (word b p))).others q m (f i (omega arith)));
    }
  where
    one : (j : ℕ) → j < i + 1 → (j < i) ⊎ (i ≤ j) → word (set_word b (pointer_at start each before i) (further distance (word b (pointer_at start each before i)))) (pointer_at start each before j)
        ≡ further distance (word a (pointer_at start each before j))
    one j l (inl l') =
        number-set_other 4 4 b (pointer_at start each before i) (further distance (word b (pointer_at start each before i))) (pointer_at start each before j) (inl (earlier start each before j i fits l')) ∙ k.words j l'
    one j l (inr m) =
        let same_index : i ≡ j = omega arith in
        let within = inside start each before i n fits less in
        let long = k.changes.length_kept in
        let was : word b (pointer_at start each before i) ≡ word a (pointer_at start each before i) =
        word-same a b (pointer_at start each before i) (k.beside (pointer_at start each before i) 4 (λ h r. inr (earlier start each before h i fits r))) in
        let written = number-set_same 4 b (pointer_at start each before i) (further distance (word b (pointer_at start each before i))) (omega (arith, w.fits)) (further_small distance (word b (pointer_at start each before i))) in
        subst (λ h. word (set_word b (pointer_at start each before i) (further distance (word b (pointer_at start each before i)))) (pointer_at start each before h) ≡ further distance (word a (pointer_at start each before h))) same_index
        (written ∙ ap (further distance) was)

-- entries were copied, and then their pointers were adjusted
pub pointers_moved : (old raw new : List ℕ) (each before from to n m distance : ℕ) → before + 4 ≤ each → m ≡ n * each → raw ≡ put old to (slice old from m) → (to + distance) % 2 ^ 32 ≡ from
    → IsWithin old from (n * each) → IsWithin old to (n * each)
    → PointsAgain distance raw new to each before n → MovesPointers old new each before from to n
pointers_moved old raw new each before from to n m distance fits m_is raw_by back from_in to_in k = record {
  changes = ChangesOnly-trans old raw new to (n * each) (rw raw_is (subst (λ l. ChangesOnly old (put old to (slice old from (n * each))) to l) long (put-changes old to (slice old from (n * each))))) k.changes;
  named = λ i l ne.
      let inner = inside to each before i n fits l in
      let inner_from = inside from each before i n fits l in
      let there : word raw (pointer_at to each before i) ≡ word old (pointer_at from each before i) =
      number-slice 4 old raw (pointer_at to each before i) (pointer_at from each before i) (regroup i before 4 (part i before 4 l fits)) in
      pointer_moved old new (pointer_at from each before i) (pointer_at to each before i) distance (k.words i l ∙ ap (further distance) there) (omega arith)
      (omega (arith, to_in.fits, to_in.small)) (λ t e is. ne (e ∙ ap Some is));
  beside = λ i d s l small apart. k.beside (to + i * each + d) s (λ j r. away i d s j small apart (cases_lt j i) (cases_lt i j)) ∙ part i d s l small;
}
  where
    raw_is : raw ≡ put old to (slice old from (n * each))
    raw_is = raw_by ∙ ap (λ l. put old to (slice old from l)) m_is

    long : length (slice old from (n * each)) ≡ n * each
    long = length-slice old from (n * each) from_in.fits

    copied : slice raw to (n * each) ≡ slice old from (n * each)
    copied = ap (λ xs. slice xs to (n * each)) raw_is ∙ slice-put_same old to (slice old from (n * each)) (n * each) (sym long) to_in.fits

    part : (i d s : ℕ) → i < n → d + s ≤ each → slice raw (to + i * each + d) s ≡ slice old (from + i * each + d) s
    part i d s l small =
        let whole = mul-le-mul_right each l in
        let all : suc i * each ≡ each + i * each = grind arith in
        let there : to + i * each + d ≡ to + (i * each + d) = omega arith in
        let was : from + i * each + d ≡ from + (i * each + d) = omega arith in
        rw (there, was) (sym (slice-slice raw to (n * each) (i * each + d) s (omega arith)) ∙ ap (λ xs. slice xs (i * each + d) s) copied ∙ slice-slice old from (n * each) (i * each + d) s (omega arith))

    regroup : (i d s : ℕ) → slice raw (to + i * each + d) s ≡ slice old (from + i * each + d) s → slice raw (to + i * each + d) s ≡ slice old (from + i * each + d) s
    regroup i d s e = e

    away : (i d s j : ℕ) → d + s ≤ each → (d + s ≤ before) ⊎ (before + 4 ≤ d) → (j < i) ⊎ (i ≤ j) → (i < j) ⊎ (j ≤ i) → (to + i * each + d + s ≤ pointer_at to each before j) ⊎ (pointer_at to each before j + 4 ≤ to + i * each + d)
    away i d s j small apart (inl l) r =
        let whole = mul-le-mul_right each l in
        let all : suc j * each ≡ each + j * each = grind arith in
        inr (omega arith)
    away i d s j small apart (inr l) (inl r) =
        let whole = mul-le-mul_right each r in
        let all : suc i * each ≡ each + i * each = grind arith in
        inl (omega arith)
    away i d s j small (inl low) (inr l) (inr r) = let e : i ≡ j = omega arith in let f : i * each ≡ j * each = ap (λ x. x * each) e in inl (omega arith)
    away i d s j small (inr high) (inr l) (inr r) = let e : i ≡ j = omega arith in let f : i * each ≡ j * each = ap (λ x. x * each) e in inr (omega arith)
