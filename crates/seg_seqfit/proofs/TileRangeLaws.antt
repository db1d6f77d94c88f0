-- The range of the tiles that become one gap, and the rest of the list after them.
use Rattle.std.proofs.Common.{◌≡◌, ◌≢◌, ℕ, ◌+◌, ◌*◌, ◌≤◌, true, false, List, [], ◌∷◌, ◌++◌, length, zero, suc, refl, sym, ap, ◌∙◌, subst, arith}
use Rattle.std.specs.Prelude.{Contains}
use Rattle.seg_spec.specs.Heap.{Tile, Fill, IsHeap, heap_start, live, gaps, room_at}
use Rattle.seg_block.specs.Tiling.{tile}
use Rattle.seg_block.proofs.BlockFreeLaws.{HasFollowing}
use Rattle.seg_block.proofs.ResizedBlockLaws.{before}
use Rattle.seg_block.proofs.TileReplacementLaws.{around}
use Rattle.seg_seqfit.specs.Retiling.{link_past}

fill : (from room to : ℕ) (ms ys : List Tile) → (room ≡ 0 → ms ≡ []) → (room ≢ 0 → ms ≡ tile from room false ∷ []) → Fill from (ms ++ ys) to → Fill from ms (from + 16 * room)
fill from zero to ms ys alone there f = subst (λ ts. Fill from ts (from + 16 * zero)) (sym (alone refl)) (omega arith)
fill from (suc n) to ms ys alone there f =
    let is : ms ≡ tile from (suc n) false ∷ [] = there (λ e. omega (arith, e)) in
    let first = subst (λ ts. Fill from (ts ++ ys) to) is f in
    subst (λ ts. Fill from ts (from + 16 * suc n)) (sym is) (refl, first.1, refl)

link : (from room : ℕ) (ms : List Tile) (start word : ℕ) → (room ≡ 0 → ms ≡ []) → (room ≢ 0 → ms ≡ tile from room false ∷ []) → (room ≡ 0 → word ≡ start) → (1 ≤ room → word ≡ from + 12) → word ≡ link_past start ms
link from zero ms start word alone there none some = none refl ∙ ap (link_past start) (sym (alone refl))
link from (suc n) ms start word alone there none some = some (omega arith) ∙ ap (link_past start) (sym (there (λ e. omega (arith, e))))

module _ (old : List ℕ) (at u room : ℕ) (h : IsHeap 0 old) (held : Contains (live old) (record { at = at; units = u })) (room_is : room ≡ room_at (gaps old) (at + 16 * u)) (b : HasFollowing old at u room h held room_is) where
  -- the pointer word of the list after the block and the gap that follows it
  pub link_is : (start word : ℕ) → (room ≡ 0 → word ≡ start) → (1 ≤ room → word ≡ at + 16 * u + 12) → word ≡ link_past start b.ms
  link_is start word = link (at + 16 * u) room b.ms start word b.alone b.there

  -- the block's tile and the tiles after it fill the range
  pub fill_from : (place to : ℕ) → place ≡ at → to ≡ at + 16 * (u + room) → Fill place (tile place u true ∷ b.ms) to
  fill_from place to is end =
      let places = around (before old at u h held) (b.ms ++ b.rest) heap_start (length old) at u true b.tiling.tiled.filled in
      let whole : at + 16 * u + 16 * room ≡ at + 16 * (u + room) = omega arith in
      (refl, places.1, subst (λ (p : ℕ × ℕ). Fill (p.0 + 16 * u) b.ms p.1) (λ i. (sym is i, (whole ∙ sym end) i)) (fill (at + 16 * u) room (length old) b.ms b.rest b.alone b.there places.2))
