-- What a neighbour that was read implies for the tiles.
use Rattle.std.proofs.Common.{◌≡◌, Bool, true, false, List, [], ◌∷◌, ◌++◌, Some, None, refl, ap, inl, inr, ◌⊎◌, ⊎_elim}
use Rattle.seg_spec.specs.Heap.{Tile}
use Rattle.seg_spec.proofs.Heap.TileLaws.{live_after}
use Rattle.seg_block.specs.declared.block.Block.{Block}
use Rattle.seg_block.specs.Blocks.{IsReadFree}

pub found_never : {X : Type 0} (x : X) → Some x ≡ None → ⊥
found_never x e = cc

-- a tile that was read as free is free
pub read_is_free : (t : Tile) (f : Block) → IsReadFree t (Some f) → (t.live ≡ false) × ((f.at ≡ t.at) × (f.units ≡ t.units))
read_is_free t f r =
    let go = elim t.live as (λ b. t.live ≡ b → (t.live ≡ false) × ((f.at ≡ t.at) × (f.units ≡ t.units))) [ true ↦ (λ e. absurd (found_never f (r.live e))) | false ↦ (λ e. (e, r.free e)) ] in
    go refl

pub read_is_live : (t : Tile) → IsReadFree t None → t.live ≡ true
read_is_live t r =
    let go = elim t.live as (λ b. t.live ≡ b → t.live ≡ true) [ true ↦ (λ e. e) | false ↦ (λ e. absurd (r.free e)) ] in
    go refl

-- ---- the last of some tiles

pub record HasLast (xs : List Tile) : Type 0 where
  pub front : List Tile
  pub last : Tile
  pub parts : xs ≡ front ++ last ∷ []

pub last_cases : (xs : List Tile) → (xs ≡ []) ⊎ HasLast xs
last_cases [] = inl refl
last_cases (t ∷ xs) =
    ⊎_elim (λ e. inr (record { front = []; last = t; parts = ap (λ l. t ∷ l) e })) (λ h. inr (record { front = t ∷ h.front; last = h.last; parts = ap (λ l. t ∷ l) h.parts })) (last_cases xs)

pub live_after-last : (ts : List Tile) (t : Tile) (b : Bool) → live_after b (ts ++ t ∷ []) ≡ t.live
live_after-last [] t b = refl
live_after-last (s ∷ ts) t b = live_after-last ts t s.live
