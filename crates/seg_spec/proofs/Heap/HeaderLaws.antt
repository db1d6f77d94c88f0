-- Headers of tiles, after writes to the bytes.
use Rattle.std.proofs.Common.{◌≡◌, ℕ, ◌+◌, ◌*◌, ◌%◌, ◌^◌, ◌≤◌, List, [], ◌∷◌, leb, sym, ap, ◌∙◌, subst, arith, inl, inr, ◌⊎◌}
use Rattle.std.proofs.lemmas.Bool.{cases_lt}
use Rattle.seg_spec.specs.Bytes.{word, set_word, Agrees}
use Rattle.seg_spec.specs.Heap.{Tile, IsHeader, Fill, AreHeaders}
use Rattle.seg_spec.proofs.BytesLaws.{number-set_other, number-agrees, Agrees-within}
use Rattle.seg_spec.proofs.Heap.TileLaws.{Fill-le}

-- a header depends only on three words
pub IsHeader-same : (old new : List ℕ) (before before' : ℕ) (t : Tile) → word new t.at ≡ word old t.at → word new (t.at + 4) ≡ before' → word new (t.at + 8) ≡ word old (t.at + 8) → IsHeader old before t → IsHeader new before' t
IsHeader-same old new before before' t size back tag h = record {
  units_is = ap (λ w. w % 2 ^ 31) size ∙ h.units_is;
  live_is = ap (λ w. leb (2 ^ 31) w) size ∙ h.live_is;
  before_is = back;
  tag_is = λ free. tag ∙ h.tag_is free;
}

pub AreHeaders-agrees : (old new : List ℕ) (ts : List Tile) (from to before : ℕ) → Agrees old new from to → Fill from ts to → AreHeaders old before ts → AreHeaders new before ts
AreHeaders-agrees old new [] from to before same f h = tt
AreHeaders-agrees old new (t ∷ ts) from to before same f h =
    let le = Fill-le ts (from + 16 * t.units) to f.2 in
    let at_is = f.0 in
    let kept = λ (k : ℕ) (fits : k ≤ 8). number-agrees old new from to 4 (t.at + k) same (omega arith) (omega arith) in
    let first = number-agrees old new from to 4 t.at same (omega arith) (omega arith) in (
      IsHeader-same old new before before t first (kept 4 (omega arith) ∙ h.0.before_is) (kept 8 (omega arith)) h.0,
      AreHeaders-agrees old new ts (from + 16 * t.units) to t.units (Agrees-within old new from to (from + 16 * t.units) to same (omega arith) (omega arith)) f.2 h.1,
    )

-- ---- a write to a link

pub off_header : (at from : ℕ) → from % 16 ≡ 0 → (at + 4 ≤ from) ⊎ (at % 16 ≡ 12) → (at + 4 ≤ from) ⊎ (from + 12 ≤ at)
off_header at from aligned (inl below) = inl below
off_header at from aligned (inr link) = elim (cases_lt at from) [ inl h ↦ inl (omega arith) | inr h ↦ inr (omega arith) ]

off_word : (at from k : ℕ) → k ≤ 8 → (at + 4 ≤ from) ⊎ (from + 12 ≤ at) → (from + k + 4 ≤ at) ⊎ (at + 4 ≤ from + k)
off_word at from k small (inl below) = inr (omega arith)
off_word at from k small (inr above) = inl (omega arith)

off_first : (at from : ℕ) → (at + 4 ≤ from) ⊎ (from + 12 ≤ at) → (from + 4 ≤ at) ⊎ (at + 4 ≤ from)
off_first at from (inl below) = inr below
off_first at from (inr above) = inl (omega arith)

next_off : (at from u : ℕ) → (at + 4 ≤ from) ⊎ (at % 16 ≡ 12) → (at + 4 ≤ from + 16 * u) ⊎ (at % 16 ≡ 12)
next_off at from u (inl below) = inl (omega arith)
next_off at from u (inr link) = inr link

pub AreHeaders-set_link : (bytes : List ℕ) (ts : List Tile) (from to before at n : ℕ) → from % 16 ≡ 0 → (at + 4 ≤ from) ⊎ (at % 16 ≡ 12) → Fill from ts to → AreHeaders bytes before ts → AreHeaders (set_word bytes at n) before ts
AreHeaders-set_link bytes [] from to before at n aligned link f h = tt
AreHeaders-set_link bytes (t ∷ ts) from to before at n aligned link f h =
    let new = set_word bytes at n in
    let off : (at + 4 ≤ t.at) ⊎ (t.at + 12 ≤ at) = subst (λ p. (at + 4 ≤ p) ⊎ (p + 12 ≤ at)) (sym f.0) (off_header at from aligned link) in
    let first = number-set_other 4 4 bytes at n t.at (off_first at t.at off) in
    let back = number-set_other 4 4 bytes at n (t.at + 4) (off_word at t.at 4 (omega arith) off) in
    let tag = number-set_other 4 4 bytes at n (t.at + 8) (off_word at t.at 8 (omega arith) off) in (
      IsHeader-same bytes new before before t first (back ∙ h.0.before_is) tag h.0,
      AreHeaders-set_link bytes ts (from + 16 * t.units) to t.units at n (omega arith) (next_off at from t.units link) f.2 h.1,
    )

-- ---- tiles after a tile whose size changed

pub AreHeaders-after : (old new : List ℕ) (ts : List Tile) (from to before units : ℕ) → word new from ≡ word old from → (from + 8 ≤ to → word new (from + 4) ≡ units) → Agrees old new (from + 8) to → Fill from ts to
    → AreHeaders old before ts → AreHeaders new units ts
AreHeaders-after old new [] from to before units size back same f h = tt
AreHeaders-after old new (t ∷ ts) from to before units size back same f h =
    let le = Fill-le ts (from + 16 * t.units) to f.2 in
    let at_is = f.0 in
    let tag = number-agrees old new (from + 8) to 4 (t.at + 8) same (omega arith) (omega arith) in
    let first : word new t.at ≡ word old t.at = subst (λ p. word new p ≡ word old p) (sym f.0) size in
    let second : word new (t.at + 4) ≡ units = ap (λ p. word new (p + 4)) f.0 ∙ back (omega arith) in (
      IsHeader-same old new before units t first second tag h.0,
      AreHeaders-agrees old new ts (from + 16 * t.units) to t.units (Agrees-within old new (from + 8) to (from + 16 * t.units) to same (omega arith) (omega arith)) f.2 h.1,
    )
