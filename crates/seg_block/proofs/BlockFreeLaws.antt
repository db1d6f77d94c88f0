-- An allocated block is freed and merged with the gaps next to it, for any allocator.
use Rattle.std.proofs.Common.{◌≡◌, ◌≢◌, ℕ, ◌+◌, ◌*◌, Bool, true, false, List, [], ◌∷◌, ◌++◌, Some, None, refl, sym, ap, ◌∙◌, subst, arith, ⊎_elim}
use Rattle.std.specs.Prelude.{Contains}
use Rattle.seg_spec.specs.Heap.{Tile, AreApart, IsHeap, Gives, live_of, live, gaps, room_at}
use Rattle.seg_spec.proofs.Heap.TileLaws.{live_of-append, AreApart-append}
use Rattle.seg_block.specs.declared.block.Block.{Block}
use Rattle.seg_block.specs.Blocks.{IsReadFree}
use Rattle.seg_block.specs.Joining.{JoinsBefore}
use Rattle.seg_block.specs.Tiling.{tile, IsTiled, IsTiling, Retiles}
use Rattle.seg_block.proofs.Heaps.{Spares-same}
use Rattle.seg_block.proofs.TileJoinBeforeLaws.{joined_none, joined_some}
use Rattle.seg_block.proofs.LiveBlocks.{block_front, gives}
use Rattle.seg_block.proofs.ResizedBlockLaws.{HasGap, room_cases, before, following, was}

module _ {allocator : ℕ} (old : List ℕ) (at u room : ℕ) (h : IsHeap allocator old) (held : Contains (live old) (record { at = at; units = u })) (room_is : room ≡ room_at (gaps old) (at + 16 * u)) where
  abbrev xs : List Tile
  xs = before old at u h held

  abbrev ys : List Tile
  ys = following old at u h held

  -- the tile after the block that is merged with it, if there is one, and the other tiles
  pub record HasFollowing : Type 0 where
    pub ms : List Tile
    pub rest : List Tile
    pub tiling : IsTiling allocator old (xs ++ ((tile at u true ∷ ms) ++ rest))
    pub alone : room ≡ 0 → ms ≡ []
    pub there : room ≢ 0 → ms ≡ tile (at + 16 * u) room false ∷ []
    pub apart : AreApart false rest
    pub live_is : live_of rest ≡ live_of ys

  pub has_following : HasFollowing
  has_following =
      ⊎_elim
      (λ none.
      let zero : room ≡ 0 = room_is ∙ none.1 in
      record {
        ms = [];
        rest = ys;
        tiling = was old at u h held;
        alone = λ e. refl;
        there = λ some. absurd (some zero);
        apart = none.0;
        live_is = refl;
      })
      (λ found.
      let gap = subst (λ v. HasGap old at u h held v) (sym found.1.room ∙ sym room_is) found.1 in
      record {
        ms = tile (at + 16 * u) room false ∷ [];
        rest = gap.rest;
        tiling = gap.tiling;
        alone = λ e. absurd (omega (arith, gap.large, e));
        there = λ some. refl;
        apart = gap.apart;
        live_is = sym (ap live_of gap.gap_parts);
      })
      (room_cases old at u h held)

  module _ (new : List ℕ) (b : HasFollowing) where
    rest_live : live_of (xs ++ b.rest) ≡ live_of (xs ++ ys)
    rest_live = live_of-append xs b.rest ∙ ap (λ l. live_of xs ++ l) b.live_is ∙ sym (live_of-append xs ys)

    freed : (place n : ℕ) → JoinsBefore allocator old new xs place n b.rest → Gives allocator old new at
    freed place n j =
        gives old at u h held new (j.front ++ tile place n false ∷ b.rest) j.tiling
        (AreApart-append j.front (tile place n false ∷ b.rest) true j.apart ((λ e. absurd (never (sym j.after_live ∙ e))), b.apart))
        (live_of-append j.front (tile place n false ∷ b.rest) ∙ ap (λ l. l ++ live_of b.rest) j.live_is ∙ sym (live_of-append xs b.rest) ∙ rest_live)
        (Spares-same old new (xs ++ b.rest) (xs ++ ys) (sym rest_live) j.spared)
      where
        never : true ≡ false → ⊥
        never e = cc

    -- if no gap is before the block, the freed block is the merged tile
    pub freed_alone : ((zs vs : List Tile) (l : Bool) (t : Tile) → IsTiled old (zs ++ (t ∷ tile at u l ∷ vs)) → IsReadFree t None)
        → Retiles allocator old new xs (tile at (u + room) false ∷ []) b.rest → Gives allocator old new at
    freed_alone read r =
        freed at (u + room) (joined_none old xs b.ms b.rest at u b.tiling (block_front old at u h held) read new (u + room) r.tiling r.spared)

    -- if a gap is before the block, it is merged too
    pub freed_joined : (f : Block) → ((zs vs : List Tile) (l : Bool) (t : Tile) → IsTiled old (zs ++ (t ∷ tile at u l ∷ vs)) → IsReadFree t (Some f))
        → ((vs : List Tile) (l : Bool) → IsTiled old (tile at u l ∷ vs) → Some f ≡ None) → f.at + 16 * f.units ≡ at
        → ((zs : List Tile) → IsTiling allocator old (zs ++ (tile f.at f.units false ∷ tile (f.at + 16 * f.units) u true ∷ (b.ms ++ b.rest)))
        → Retiles allocator old new zs (tile f.at (f.units + u + room) false ∷ []) b.rest)
        → Gives allocator old new at
    freed_joined f read none place joins =
        freed f.at (f.units + u + room)
        (joined_some old xs b.ms b.rest at u b.tiling (block_front old at u h held) f read none place new (f.units + u + room) joins)
