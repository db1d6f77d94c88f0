-- The allocated blocks after one more block was allocated.
use Rattle.std.proofs.Common.{◌≡◌, ℕ, List, [], ◌∷◌, Option, Some, None, option_map, option_and_then, refl, sym, ap, ◌∙◌, arith}
use Rattle.seg_spec.specs.Heap.{Span, granted, with_block, pick, gaps_of, after_request, Granted, same, fresh}
use Rattle.seg_spec.specs.Sound.{times, positions}
use Rattle.seg_spec.specs.Demand.{Ask, blocks_then, after_asks}
use Rattle.seg_spec.specs.Spending.{spent}
use Rattle.seg_spec.proofs.Heap.GrantLaws.{GrantedNew, granted_new, spent_fresh}
use Rattle.seg_spec.proofs.Heap.LiveBlockLaws.{times-with_block}

pub record OneMore (old : List Span) (asked : Ask) (allocator end : ℕ) (new : List Span) : Type 0 where
  pub at : ℕ
  pub counts : (h : ℕ) → times h (positions new) ≡ times h (at ∷ positions old)
  pub spent_is : asked.old ≡ None → spent allocator old end (asked ∷ []) [] ≡ Some new

pair_is : (a b : ℕ × List Span) → Some a ≡ Some b → a ≡ b
pair_is a b e = cc

taken_counts : (bs new : List Span) (u g : ℕ) (o : Option Span) → option_map {U = ℕ × List Span} (λ (x : Span). (x.at, with_block (record { at = x.at; units = granted x.units u }) bs)) o ≡ Some (g, new) → (h : ℕ) → times h
    (positions new) ≡ times h (g ∷ positions bs)
taken_counts bs new u g None e h = cc
taken_counts bs new u g (Some x) e h =
    let both = pair_is (x.at, with_block (record { at = x.at; units = granted x.units u }) bs) (g, new) e in
    let at_is : x.at ≡ g = ap (λ (r : ℕ × List Span). r.0) both in
    let is : with_block (record { at = x.at; units = granted x.units u }) bs ≡ new = ap (λ (r : ℕ × List Span). r.1) both in
    ap (λ cs. times h (positions cs)) (sym is) ∙ times-with_block h (record { at = x.at; units = granted x.units u }) bs ∙ ap (λ a. times h (a ∷ positions bs)) at_is

one_by : (allocator end u : ℕ) (bs new : List Span) (r : Granted) → after_request allocator bs end u u ≡ Some r → GrantedNew allocator bs end u r → blocks_then r ≡ new
    → OneMore bs (record { old = None; preferred = u; limit = u }) allocator end new
one_by allocator end u bs new (same after) e k is = absurd k
one_by allocator end u bs new (fresh g after) e k is = record {
  at = g;
  counts = λ h. ap (λ cs. times h (positions cs)) (sym is) ∙ taken_counts bs after k.units g (pick allocator (gaps_of bs end) k.units) k.taken h;
  spent_is = λ none. spent_fresh allocator bs after end g (record { old = None; preferred = u; limit = u }) e ∙ ap Some is;
}

then_one : (allocator end u : ℕ) (bs new : List Span) (o : Option Granted) → after_request allocator bs end u u ≡ o → option_and_then (λ g. after_asks allocator (blocks_then g) end []) o ≡ Some new
    → OneMore bs (record { old = None; preferred = u; limit = u }) allocator end new
then_one allocator end u bs new None e k = cc
then_one allocator end u bs new (Some r) e k = one_by allocator end u bs new r e (granted_new allocator bs end u u r (omega arith) e) (let f : Some (blocks_then r) ≡ Some new = k in cc)

pub one_more : (allocator end u : ℕ) (bs new : List Span) → after_asks allocator bs end (record { old = None; preferred = u; limit = u } ∷ []) ≡ Some new → OneMore bs (record { old = None; preferred = u; limit = u }) allocator end new
one_more allocator end u bs new e = then_one allocator end u bs new (after_request allocator bs end u u) refl e
