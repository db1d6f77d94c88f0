-- An allocated tile is enlarged by the gap after it, or its end is freed. `Place` is the fact that
-- an allocator needs about the tiles before the tile.
use Rattle.std.proofs.Common.{◌≡◌, ℕ, ◌+◌, ◌*◌, ◌≤◌, true, false, List, [], ◌∷◌, ◌++◌, length, refl, sym, ap, ◌∙◌, subst, arith}
use Rattle.std.specs.Prelude.{Contains}
use Rattle.std.proofs.lemmas.List.{append_assoc}
use Rattle.std.proofs.lemmas.List.Elements.{Contains-append_right}
use Rattle.seg_spec.specs.Bytes.{Agrees}
use Rattle.seg_spec.specs.Heap.{Tile, is_live_at, live_of, heap_start}
use Rattle.seg_spec.proofs.BytesLaws.{Agrees-trans}
use Rattle.seg_spec.proofs.Heap.TileLaws.{live_of-append}
use Rattle.seg_block.specs.Sizes.{set_size, set_split}
use Rattle.seg_block.specs.Tiling.{tile, Spares, IsTiling, Retiles}
use Rattle.seg_block.proofs.TileReplacementLaws.{around, header_of}
use Rattle.seg_block.proofs.TileJoinLaws.{join-replaces}
use Rattle.seg_block.proofs.TileSplitLaws.{split-replaces}
use Rattle.seg_block.proofs.LiveChanges.{join-retiles, split-retiles}
use Rattle.seg_block.proofs.Heaps.{Spares-trans, Spares-without}

-- these tiles and then one more
abbrev pub put_front : List Tile → Tile → List Tile
put_front xs t = xs ++ t ∷ []

pub put_front-append : (xs ys : List Tile) (t : Tile) → put_front xs t ++ ys ≡ xs ++ t ∷ ys
put_front-append xs ys t = append_assoc xs (t ∷ []) ys

-- bytes that are kept for the tiles up to an allocated one include the tile's own
pub own : (old new : List ℕ) (xs ys : List Tile) (at u : ℕ) → Spares old new (put_front xs (tile at u true) ++ ys) → Agrees old new (at + 8) (at + 16 * u)
own old new xs ys at u s =
    s.tiles_kept (record { at = at; units = u })
    (subst (λ l. Contains l (record { at = at; units = u })) (sym (ap live_of (put_front-append xs ys (tile at u true)) ∙ live_of-append xs (tile at u true ∷ ys)))
    (Contains-append_right (live_of xs) (record { at = at; units = u } ∷ live_of ys) (record { at = at; units = u }) (0, omega arith, refl)))

others : (old new : List ℕ) (xs ys : List Tile) (t : Tile) → Spares old new (put_front xs t ++ ys) → Spares old new (xs ++ ys)
others old new xs ys t s = Spares-without old new xs (t ∷ []) ys (subst (λ ts. Spares old new ts) (put_front-append xs ys t) s)

-- a gap has at least two units
pub absorbs_large : {allocator : ℕ} (old : List ℕ) (xs ys : List Tile) (at u v : ℕ) → IsTiling allocator old (xs ++ (tile at u true ∷ tile (at + 16 * u) v false ∷ ys)) → 2 ≤ v
absorbs_large old xs ys at u v was = (around xs (tile (at + 16 * u) v false ∷ ys) heap_start (length old) at u true was.tiled.filled).2.1

module _ {allocator : ℕ} (Place : List Tile → Type 0) (place_more : (xs : List Tile) (at u : ℕ) → Place xs → Place (put_front xs (tile at u true))) where
  pub absorbs : (old taken new : List ℕ) (xs ys : List Tile) (at u v : ℕ) → Place xs → IsTiling allocator old (xs ++ (tile at u true ∷ tile (at + 16 * u) v false ∷ ys))
      → ((zs : List Tile) → Place zs → IsTiling allocator old (zs ++ tile (at + 16 * u) v false ∷ ys) → Retiles allocator old taken zs (tile (at + 16 * u) v true ∷ []) ys)
      → new ≡ set_size taken at (u + v) (is_live_at taken at)
      → Retiles allocator old new xs (tile at (u + v) true ∷ []) ys × Agrees old new (at + 8) (at + 16 * u)
  absorbs old taken new xs ys at u v place was takes new_is =
      let t = tile at u true in
      let r = takes (put_front xs t) (place_more xs at u place) (subst (λ l. IsTiling allocator old l) (sym (put_front-append xs (tile (at + 16 * u) v false ∷ ys) t)) was) in
      let mid = subst (λ l. IsTiling allocator taken l) (put_front-append xs (tile (at + 16 * u) v true ∷ ys) t) r.tiling in
      let e = join-retiles taken xs ys at u v mid in
      let kept = (join-replaces taken xs ys at u v true true mid.tiled).own_kept in
      subst (λ b. Retiles allocator old b xs (tile at (u + v) true ∷ []) ys × Agrees old b (at + 8) (at + 16 * u)) (sym (new_is ∙ ap (set_size taken at (u + v)) (header_of taken xs (tile (at + 16 * u) v true ∷ ys) t mid.tiled).live_is)) (
        record { tiling = e.tiling; spared = Spares-trans old taken (set_size taken at (u + v) true) (xs ++ ys) (others old taken xs ys t r.spared) e.spared },
        Agrees-trans old taken (set_size taken at (u + v) true) (at + 8) (at + 16 * u) (own old taken xs ys at u r.spared) kept,
      )

  pub cuts : (old cut new : List ℕ) (xs ys : List Tile) (at n u r : ℕ) → Place xs → IsTiling allocator old (xs ++ tile at n true ∷ ys) → n ≡ u + r → 2 ≤ u → 2 ≤ r
      → cut ≡ set_split old at u r (is_live_at old at)
      → ((zs : List Tile) → Place zs → IsTiling allocator cut (zs ++ tile (at + 16 * u) r true ∷ ys) → Retiles allocator cut new zs (tile (at + 16 * u) r false ∷ []) ys)
      → Retiles allocator old new xs (tile at u true ∷ tile (at + 16 * u) r false ∷ []) ys × Agrees old new (at + 8) (at + 16 * u)
  cuts old cut new xs ys at n u r place was whole large rest_large cut_is releases =
      let t = tile at u true in
      let c = subst (λ b. Retiles allocator old b xs (t ∷ tile (at + 16 * u) r true ∷ []) ys × Agrees old b (at + 8) (at + 16 * u))
      (sym (cut_is ∙ ap (set_split old at u r) (header_of old xs ys (tile at n true) was.tiled).live_is))
      (split-retiles old xs ys at n u r was whole large rest_large, (split-replaces old xs ys at n u r true was.tiled whole large rest_large).own_kept) in
      let x = releases (put_front xs t) (place_more xs at u place) (subst (λ l. IsTiling allocator cut l) (sym (put_front-append xs (tile (at + 16 * u) r true ∷ ys) t)) c.0.tiling) in (
        record { tiling = subst (λ l. IsTiling allocator new l) (put_front-append xs (tile (at + 16 * u) r false ∷ ys) t) x.tiling; spared = Spares-trans old cut new (xs ++ ys) c.0.spared (others cut new xs ys t x.spared) },
        Agrees-trans old cut new (at + 8) (at + 16 * u) c.1 (own cut new xs ys at u x.spared),
      )
