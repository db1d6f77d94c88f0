-- The allocated tiles among others.
use Rattle.std.proofs.Common.{◌≡◌, ℕ, zero, suc, ◌+◌, ◌*◌, ◌≤◌, true, false, List, [], ◌∷◌, cond, subst, arith, inl, inr, ◌⊎◌, ⊎_elim}
use Rattle.std.specs.Prelude.{Contains}
use Rattle.seg_spec.specs.Heap.{Span, Tile, span_of, end_of, Fill, live_of}
use Rattle.seg_spec.proofs.Heap.TileLaws.{Fill-le}

-- an item of a list is the first or one of the others
pub cons_cases : (x b : Span) (xs : List Span) → Contains (x ∷ xs) b → (x ≡ b) ⊎ Contains xs b
cons_cases x b xs (zero, k, e) = inl e
cons_cases x b xs (suc n, k, e) = inr (n, omega arith, e)

end_in : (from to : ℕ) (t : Tile) (b : Span) → t.at ≡ from → from + 16 * t.units ≤ to → span_of t ≡ b → (from ≤ b.at) × (end_of b ≤ to)
end_in from to t b at_is le e = subst (λ (s : Span). (from ≤ s.at) × (end_of s ≤ to)) e (omega arith, omega arith)

-- an allocated tile lies inside the range of the tiles
pub live_within : (ts : List Tile) (from to : ℕ) (b : Span) → Fill from ts to → Contains (live_of ts) b → (from ≤ b.at) × (end_of b ≤ to)
live_within [] from to b f (n, k, e) = absurd (omega arith)
live_within (t ∷ ts) from to b f c =
    let le = Fill-le ts (from + 16 * t.units) to f.2 in
    let rest = λ (c : Contains (live_of ts) b). live_within ts (from + 16 * t.units) to b f.2 c in
    let go = elim t.live as (λ l. Contains (cond l (span_of t ∷ live_of ts) (live_of ts)) b → (from ≤ b.at) × (end_of b ≤ to)) [
      | true ↦ (λ c. ⊎_elim (λ e. end_in from to t b f.0 le e) (λ c. there (rest c)) (cons_cases (span_of t) b (live_of ts) c))
      | false ↦ (λ c. there (rest c))
    ] in
    go c
  where
    there : (from + 16 * t.units ≤ b.at) × (end_of b ≤ to) → (from ≤ b.at) × (end_of b ≤ to)
    there h = (omega arith, h.1)
