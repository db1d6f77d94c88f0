-- A window that is its whole region, or is at the start of its region.
use Rattle.std.proofs.Common.{◌≡◌, ℕ, List, [], ◌++◌, length, take, Result, Ok, Err, sym, ap, ◌∙◌, subst, arith}
use Rattle.std.specs.Prelude.{OnOk, OnErr, MatchResult}
use Rattle.std.proofs.Math.Seq.{take-length, take-append_seam}
use Rattle.std.proofs.lemmas.List.{append-nil, length-append, nil_from_length}
use Rattle.std.proofs.lemmas.Result.{MatchResult-at_ok}
use Rattle.seg_spec.specs.Bytes.{slice}
use Rattle.seg_spec.specs.Window.{Placement, region_of, with_bytes}
use Rattle.seg_spec.proofs.SliceLaws.{region-placed}

pub none_before : (p : Placement) → region_of p ≡ p.bytes → p.before ≡ []
none_before p whole = nil_from_length p.before (omega (arith, ap length whole, length-append (p.before ++ p.bytes) p.after, length-append p.before p.bytes))

none_after : (p : Placement) → region_of p ≡ p.bytes → p.after ≡ []
none_after p whole = nil_from_length p.after (omega (arith, ap length whole, length-append (p.before ++ p.bytes) p.after, length-append p.before p.bytes))

-- it stays so if its bytes change
pub whole_stays : (p : Placement) (bytes : List ℕ) → region_of p ≡ p.bytes → region_of (with_bytes p bytes) ≡ bytes
whole_stays p bytes whole = ap (λ front. (front ++ bytes) ++ p.after) (none_before p whole) ∙ ap (λ back. bytes ++ back) (none_after p whole) ∙ append-nil bytes

-- ---- a window that was made at the start of a region

module _ {E : Type 0} (Q : E → Type 0) (result : Result Placement E) (w : Placement) (region : List ℕ) (len : ℕ) (is : result ≡ Ok w)
    (placed : MatchResult result (λ v. (region_of v ≡ region) × (length v.before ≡ 0) × (length v.bytes ≡ len)) Q) where
  there : (region_of w ≡ region) × (length w.before ≡ 0) × (length w.bytes ≡ len)
  there = MatchResult-at_ok _ Q w is placed

  pub first_region : region_of w ≡ region
  first_region = there.0

  pub first_bytes : w.bytes ≡ slice region 0 len
  first_bytes =
      sym (region-placed w.before w.bytes w.after) ∙ ap (λ r. slice r (length w.before) (length w.bytes)) there.0 ∙ ap (λ b. slice region b (length w.bytes)) there.1 ∙ ap (slice region 0) there.2

-- bytes that have more after them, or stayed as they are
pub front_stays : {A E : Type 0} (result : Result A E) (old new more : List ℕ) → OnOk result (new ≡ old ++ more) → OnErr result (new ≡ old) → slice new 0 (length old) ≡ old
unfolding slice
front_stays (Ok _) old new more longer same = subst (λ (b : List ℕ). take (length old) b ≡ old) (sym longer) (take-append_seam old more)
front_stays (Err _) old new more longer same = subst (λ (b : List ℕ). take (length old) b ≡ old) (sym same) (take-length old)
