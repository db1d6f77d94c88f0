-- How functions on borrowed bytes change the window.
use Rattle.std.proofs.Common.{◌≡◌, ℕ, ◌+◌, ◌*◌, false, List, [], ◌∷◌, ◌++◌, length, Option, None, sym, ap, ◌∙◌}
use Rattle.seg_spec.specs.Pointer.{target}
use Rattle.seg_spec.specs.Window.{Placement, with_bytes, KeepsHost}
use Rattle.seg_spec.specs.Heap.{Tile, Fill, link_at}
use Rattle.seg_ptr.specs.Lent.{lent_to}
use Rattle.seg_ptr.proofs.Lent.{lent_same}
use Rattle.seg_block.specs.Tiling.{tile, IsTiling, Retiles}
use Rattle.seg_seqfit.specs.Retiling.{link_past}

pub lent_bytes : (old : Placement) (lent xs : List ℕ) → length xs ≡ length lent → lent ≡ old.bytes → (lent_to old xs).bytes ≡ xs
lent_bytes old lent xs same is = ap (λ (p : Placement). p.bytes) (lent_same old xs (same ∙ ap length is))

pub lent_keeps : (old : Placement) (lent xs : List ℕ) → length xs ≡ length lent → lent ≡ old.bytes → KeepsHost old (lent_to old xs)
lent_keeps old lent xs same is =
    let written = lent_same old xs (same ∙ ap length is) in
    written ∙ ap (λ (p : Placement). with_bytes old p.bytes) (sym written)

-- a gap is replaced by these tiles, of which the first is allocated
abbrev pub TakesGap : List ℕ → List ℕ → ℕ → ℕ → ℕ → Option ℕ → List Tile → Type 0
TakesGap old new link at u next ns = (xs ys : List Tile) → link ≡ link_past 24 xs → next ≡ link_at old at → IsTiling 0 old (xs ++ tile at u false ∷ ys)
    → Retiles 0 old new xs ns ys × (link_at new at ≡ None)

-- tiles become one gap, to which a pointer word then points
abbrev pub PutsIn : List ℕ → List ℕ → ℕ → ℕ → ℕ → Option ℕ → Type 0
PutsIn old new link at u next = (xs ms ys : List Tile) (t : Tile) → link ≡ link_past 24 xs → IsTiling 0 old (xs ++ ((t ∷ ms) ++ ys)) → Fill at (t ∷ ms) (at + 16 * u)
    → next ≡ target old (link_past link (t ∷ ms)) → Retiles 0 old new xs (tile at u false ∷ []) ys

-- tiles, of which the first is a gap, become one gap
abbrev pub Widens : List ℕ → List ℕ → ℕ → ℕ → Option ℕ → Type 0
Widens old new at u next = (xs ms ys : List Tile) (t : Tile) → t.live ≡ false → IsTiling 0 old (xs ++ ((t ∷ ms) ++ ys)) → Fill at (t ∷ ms) (at + 16 * u)
    → next ≡ target old (link_past (at + 12) ms) → Retiles 0 old new xs (tile at u false ∷ []) ys
