-- A free tile is removed from the tree and allocated.
use Rattle.std.proofs.Common.{◌≡◌, ℕ, ◌+◌, ◌*◌, true, false, List, [], ◌∷◌, ◌++◌, length, None, refl, sym, ◌∙◌, subst, arith, inl, inr}
use Rattle.seg_spec.specs.Bytes.{set_word}
use Rattle.seg_spec.specs.Heap.{Tile, link_at, free_of, IsFreeTree}
use Rattle.seg_spec.proofs.BytesLaws.{number-set_other}
use Rattle.seg_spec.proofs.PointerLaws.{target-same}
use Rattle.seg_spec.proofs.Heap.TileLaws.{free_of-append}
use Rattle.seg_block.specs.FreeBlocks.{AreFreeBlocks}
use Rattle.seg_block.specs.Sizes.{size_word, set_size}
use Rattle.seg_block.specs.Tiling.{tile, IsTiled, IsTiling, Retiles}
use Rattle.seg_block.proofs.FreeKept.{beside_kept}
use Rattle.seg_block.proofs.FreeTiles.{free_blocks}
use Rattle.seg_block.proofs.TileStatusLaws.{relabel-places, relabel-kept, relabel-replaces}
use Rattle.seg_bestfit.specs.FreeTree.{KeepsBesideNodes, LeavesTree}
use Rattle.seg_bestfit.proofs.FreeGaps.{each_pick, free_drops}
use Rattle.seg_bestfit.proofs.TreeFrame.{tiled_kept, link_kept, gaps_beside, retiles_after}

-- the gaps around a free tile
pub gaps_around : (xs ys : List Tile) (at u : ℕ) → free_of (xs ++ tile at u false ∷ ys) ≡ free_of xs ++ record { at = at; units = u } ∷ free_of ys
gaps_around xs ys at u = free_of-append xs (tile at u false ∷ ys)

-- the free tiles outside some tiles in the middle are free blocks
pub blocks_beside : (bytes : List ℕ) (xs ms ys : List Tile) → IsTiled bytes (xs ++ (ms ++ ys)) → AreFreeBlocks bytes 704 (free_of xs ++ free_of ys)
blocks_beside bytes xs ms ys was =
    free_drops bytes 704 (free_of xs) (free_of ms) (free_of ys) (subst (λ gs. AreFreeBlocks bytes 704 gs) (gaps_beside xs ms ys) (free_blocks bytes (xs ++ (ms ++ ys)) was))

-- all free tiles are free blocks
pub blocks_around : (bytes : List ℕ) (xs ys : List Tile) (at u : ℕ) → IsTiled bytes (xs ++ tile at u false ∷ ys) → AreFreeBlocks bytes 704 (free_of xs ++ record { at = at; units = u } ∷ free_of ys)
blocks_around bytes xs ys at u was = blocks_beside bytes xs [] (tile at u false ∷ ys) was

module _ (old : List ℕ) (xs ys : List Tile) (at u : ℕ) (was : IsTiling 1 old (xs ++ tile at u false ∷ ys)) where
  pub tree_around : IsFreeTree old (free_of xs ++ record { at = at; units = u } ∷ free_of ys)
  tree_around = subst (λ gs. IsFreeTree old gs) (gaps_around xs ys at u) was.free

  module _ (mid : List ℕ) (l : LeavesTree old mid (free_of xs) (record { at = at; units = u }) (free_of ys)) where
    abbrev taken : List ℕ
    taken = set_size mid at u true

    pub left_kept : KeepsBesideNodes old mid (free_of (xs ++ tile at u false ∷ ys))
    left_kept = subst (λ gs. KeepsBesideNodes old mid gs) (sym (gaps_around xs ys at u)) l.kept

    pub left_tiled : IsTiled mid (xs ++ tile at u false ∷ ys)
    left_tiled = tiled_kept old mid (xs ++ tile at u false ∷ ys) was.tiled left_kept

    taken-retiles : Retiles 1 old taken xs (tile at u true ∷ []) ys
    taken-retiles =
        let p = relabel-places mid xs ys at u false true left_tiled in
        let r = relabel-replaces mid xs ys at u false true left_tiled (λ e. absurd (no e)) in
        retiles_after old mid taken xs (tile at u false ∷ []) (tile at u true ∷ []) ys was.tiled left_kept (record {
          tiling = record {
            tiled = r.tiled;
            free = subst (λ gs. IsFreeTree taken gs) (sym (free_of-append xs (tile at u true ∷ ys)))
                (beside_kept mid taken at (at + 16 * u) (omega arith) (relabel-kept mid xs ys at u false true left_tiled) xs ys p.0 p.2 1 l.tree);
          };
          spared = r.spared;
        })
      where
        no : true ≡ false → ⊥
        no e = cc

    taken-link : link_at taken at ≡ None
    taken-link =
        let p = relabel-places old xs ys at u false false was.tiled in
        target-same mid taken (at + 12) (number-set_other 4 4 (set_word mid at (size_word u true)) (at + 16 * u + 4) u (at + 12) (inl (omega (arith, p.1))) ∙ number-set_other 4 4 mid at (size_word u true) (at + 12) (inr (omega arith)))
        ∙ link_kept old mid xs ys (tile at u false) at (length old) p.0 (refl, p.1, p.2) left_kept
        ∙ each_pick (λ g. link_at old g.at ≡ None) (free_of xs) (record { at = at; units = u }) (free_of ys) tree_around.links

    -- the tile is allocated in the bytes after the call
    pub made_live : (new : List ℕ) → new ≡ taken → Retiles 1 old new xs (tile at u true ∷ []) ys × (link_at new at ≡ None)
    made_live new e = subst (λ b. Retiles 1 old b xs (tile at u true ∷ []) ys × (link_at b at ≡ None)) (sym e) (taken-retiles, taken-link)
