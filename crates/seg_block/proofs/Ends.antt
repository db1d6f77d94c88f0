-- The walk to the last tile.
use Rattle.std.proofs.Common.{◌≡◌, ℕ, ◌+◌, ◌*◌, ◌%◌, ◌<◌, ◌≤◌, List, [], ◌∷◌, ◌++◌, length, refl, sym, ap, ◌∙◌, subst, arith}
use Rattle.std.proofs.lemmas.List.{append_assoc}
use Rattle.seg_spec.specs.Heap.{Span, Tile, Fill, AreHeaders}
use Rattle.seg_spec.proofs.Heap.TileLaws.{Fill-le}
use Rattle.seg_block.specs.Blocks.{IsSized, HasEnd}

-- the walk has reached the first of the remaining tiles
pub record IsReached (bytes : List ℕ) (ts : List Tile) (at end : ℕ) : Type 0 where
  pub passed : List Tile
  pub left : List Tile
  pub before : ℕ
  pub parts : ts ≡ passed ++ left
  pub fill : Fill at left end
  pub headers : AreHeaders bytes before left
  pub aligned : at % 16 ≡ 0
  pub low : at < end

pub reached_none : (bytes : List ℕ) (ts : List Tile) (end : ℕ) → 704 < end → Fill 704 ts end → AreHeaders bytes 0 ts → IsReached bytes ts 704 end
reached_none bytes ts end low f h = record { passed = []; left = ts; before = 0; parts = refl; fill = f; headers = h; aligned = refl; low = low }

first_block : (bytes : List ℕ) (t : Tile) (ts : List Tile) (at before end : ℕ) → end ≤ length bytes → at % 16 ≡ 0 → Fill at (t ∷ ts) end → AreHeaders bytes before (t ∷ ts) → IsSized bytes (record { at = t.at; units = t.units })
first_block bytes t ts at before end fits aligned f h =
    let le = Fill-le ts (at + 16 * t.units) end f.2 in
    record { aligned = ap (λ p. p % 16) f.0 ∙ aligned; large = f.1; inside = omega (arith, f.0); size_is = h.0.units_is }

module _ (bytes : List ℕ) (all : List Tile) (end place units : ℕ) (fits : end ≤ length bytes) where
  more : (passed left : List Tile) (at before : ℕ) → all ≡ passed ++ left → Fill at left end → AreHeaders bytes before left → at % 16 ≡ 0 → at < end
      → ((g : Span) → at ≡ g.at → IsSized bytes g → (place ≡ g.at) × (units ≡ g.units)) → place + 16 * units < end → IsReached bytes all (place + 16 * units) end
  more passed [] at before parts f h aligned low here next = absurd (omega (arith, f))
  more passed (t ∷ left) at before parts f h aligned low here next =
      let is = here (record { at = t.at; units = t.units }) (sym f.0) (first_block bytes t left at before end fits aligned f h) in
      let same : at + 16 * t.units ≡ place + 16 * units = omega (arith, is.0, is.1, f.0) in
      record {
        passed = passed ++ t ∷ [];
        left = left;
        before = t.units;
        parts = parts ∙ sym (append_assoc passed (t ∷ []) left);
        fill = subst (λ p. Fill p left end) same f.2;
        headers = h.1;
        aligned = omega (arith, is.0, f.0);
        low = next;
      }

  nothing_after : (ts : List Tile) (from : ℕ) → Fill from ts end → end ≤ from → ts ≡ []
  nothing_after [] from f h = refl
  nothing_after (t ∷ ts) from f h = let le = Fill-le ts (from + 16 * t.units) end f.2 in absurd (omega (arith, f.1))

  last : (passed left : List Tile) (at before : ℕ) → all ≡ passed ++ left → Fill at left end → AreHeaders bytes before left → at % 16 ≡ 0 → at < end
      → ((g : Span) → at ≡ g.at → IsSized bytes g → (place ≡ g.at) × (units ≡ g.units)) → end ≤ place + 16 * units → HasEnd bytes all place units
  last passed [] at before parts f h aligned low here end_is = absurd (omega (arith, f))
  last passed (t ∷ left) at before parts f h aligned low here end_is =
      let is = here (record { at = t.at; units = t.units }) (sym f.0) (first_block bytes t left at before end fits aligned f h) in
      let none = nothing_after left (at + 16 * t.units) f.2 (omega (arith, is.0, is.1, f.0)) in
      record {
        front = passed;
        live = t.live;
        parts = parts ∙ (λ i. passed ++ record { at = sym is.0 i; units = sym is.1 i; live = t.live } ∷ none i);
      }

  never : (left : List Tile) (at before : ℕ) → Fill at left end → AreHeaders bytes before left → at % 16 ≡ 0 → at < end → ((g : Span) → at ≡ g.at → IsSized bytes g → ⊥) → ⊥
  never [] at before f h aligned low none = absurd (omega (arith, f))
  never (t ∷ left) at before f h aligned low none = none (record { at = t.at; units = t.units }) (sym f.0) (first_block bytes t left at before end fits aligned f h)

  pub reached_more : (at : ℕ) → IsReached bytes all at end → ((g : Span) → at ≡ g.at → IsSized bytes g → (place ≡ g.at) × (units ≡ g.units)) → place + 16 * units < end → IsReached bytes all (place + 16 * units) end
  reached_more at r here next = more r.passed r.left at r.before r.parts r.fill r.headers r.aligned r.low here next

  pub reached_end : (at : ℕ) → IsReached bytes all at end → ((g : Span) → at ≡ g.at → IsSized bytes g → (place ≡ g.at) × (units ≡ g.units)) → end ≤ place + 16 * units → HasEnd bytes all place units
  reached_end at r here end_is = last r.passed r.left at r.before r.parts r.fill r.headers r.aligned r.low here end_is

  pub reached_never : (at : ℕ) → IsReached bytes all at end → ((g : Span) → at ≡ g.at → IsSized bytes g → ⊥) → ⊥
  reached_never at r none = never r.left at r.before r.fill r.headers r.aligned r.low none
