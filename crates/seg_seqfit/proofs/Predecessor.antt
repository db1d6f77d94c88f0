-- The search for the free block before a block: along the list, and down the tiles.
use Rattle.std.proofs.Common.{◌≡◌, ℕ, ◌+◌, ◌*◌, ◌≤◌, Bool, true, false, List, [], ◌∷◌, ◌++◌, length, cond, Some, None, refl, sym, ap, ◌∙◌, subst, arith, ⊎_elim}
use Rattle.std.proofs.lemmas.List.{append_assoc}
use Rattle.seg_spec.specs.Heap.{Tile, span_of, is_live_at, Fill, Links, free_of, heap_start}
use Rattle.seg_spec.proofs.Heap.TileLaws.{Fill-le, free_of-append}
use Rattle.seg_block.specs.declared.block.Block.{Block}
use Rattle.seg_block.specs.Tiling.{tile, IsTiled, IsTiling}
use Rattle.seg_block.proofs.TileReplacementLaws.{around}
use Rattle.seg_block.proofs.Neighbours.{own_flag}
use Rattle.seg_block.specs.FreeBlocks.{AreFreeBlocks}
use Rattle.seg_seqfit.specs.FreeBlocks.{link_after}
use Rattle.seg_seqfit.specs.Retiling.{link_past}
use Rattle.seg_seqfit.specs.Leading.{link_past-append}
use Rattle.seg_block.proofs.FreeTiles.{free_blocks}
use Rattle.seg_block.proofs.ReadFree.{HasLast, last_cases}
use Rattle.seg_seqfit.proofs.Walks.{AreBelow, AreAbove, IsPassed, passed_none}

-- ---- along the list

AreBelow-free_of : (xs : List Tile) (from at : ℕ) → Fill from xs at → AreBelow at (free_of xs)
AreBelow-free_of [] from at f = tt
AreBelow-free_of (t ∷ xs) from at f =
    let le = Fill-le xs (from + 16 * t.units) at f.2 in
    let rest = AreBelow-free_of xs (from + 16 * t.units) at f.2 in
    elim t.live as (λ b. AreBelow at (cond b (free_of xs) (span_of t ∷ free_of xs))) [ true ↦ rest | false ↦ (omega (arith, f.0, f.1), rest) ]

AreAbove-free_of : (ys : List Tile) (at from to : ℕ) → at ≤ from → Fill from ys to → AreAbove at (free_of ys)
AreAbove-free_of [] at from to h f = tt
AreAbove-free_of (t ∷ ys) at from to h f =
    let rest = AreAbove-free_of ys at (from + 16 * t.units) to (omega arith) f.2 in
    elim t.live as (λ b. AreAbove at (cond b (free_of ys) (span_of t ∷ free_of ys))) [ true ↦ rest | false ↦ (omega (arith, f.0), rest) ]

pub link_after-free_of : (xs : List Tile) (p : ℕ) → link_after p (free_of xs) ≡ link_past p xs
link_after-free_of [] p = refl
link_after-free_of (t ∷ xs) p =
    elim t.live as (λ b. link_after p (cond b (free_of xs) (span_of t ∷ free_of xs)) ≡ link_past (cond b p (t.at + 12)) xs)
    [ true ↦ link_after-free_of xs p | false ↦ link_after-free_of xs (t.at + 12) ]

pub passed_first : (bytes : List ℕ) (xs ys : List Tile) (at u : ℕ) (l : Bool) → IsTiling 0 bytes (xs ++ tile at u l ∷ ys) → IsPassed bytes (free_of xs) (free_of (tile at u l ∷ ys)) at 24 704
passed_first bytes xs ys at u l was =
    let parts = around xs ys heap_start (length bytes) at u l was.tiled.filled in
    let split = free_of-append xs (tile at u l ∷ ys) in
    passed_none bytes (free_of xs) (free_of (tile at u l ∷ ys)) at (subst (λ gs. Links bytes 24 gs None) split was.free) (subst (λ gs. AreFreeBlocks bytes 704 gs) split (free_blocks bytes (xs ++ tile at u l ∷ ys) was.tiled))
    (AreBelow-free_of xs heap_start at parts.0) (AreAbove-free_of (tile at u l ∷ ys) at at (length bytes) (omega arith) (refl, parts.1, parts.2))

-- ---- down the tiles

-- the tiles from this one up to the tiles xs are allocated
pub record IsNear (bytes : List ℕ) (xs : List Tile) (near : Block) : Type 0 where
  pub before : List Tile
  pub following : List Tile
  pub live : Bool
  pub tiled : IsTiled bytes (before ++ tile near.at near.units live ∷ following)
  pub link_is : link_past 24 before ≡ link_past 24 xs

pub near_first : (bytes : List ℕ) (xs ys : List Tile) (block : Block) (l : Bool) → IsTiling 0 bytes (xs ++ tile block.at block.units l ∷ ys) → IsNear bytes xs block
near_first bytes xs ys block l was = record { before = xs; following = ys; live = l; tiled = was.tiled; link_is = refl }

module _ (bytes : List ℕ) (xs : List Tile) (near : Block) (n : IsNear bytes xs near) where
  -- no tile is before this one
  pub near_none : ((ys zs : List Tile) (l : Bool) (t : Tile) → IsTiled bytes (ys ++ (t ∷ tile near.at near.units l ∷ zs)) → ⊥) → 24 ≡ link_past 24 xs
  near_none never =
      ⊎_elim (λ e. ap (link_past 24) (sym e) ∙ n.link_is)
      (λ h. absurd (never h.front n.following n.live h.last (subst (λ l. IsTiled bytes l)
      (ap (λ l. l ++ tile near.at near.units n.live ∷ n.following) h.parts ∙ append_assoc h.front (h.last ∷ []) (tile near.at near.units n.live ∷ n.following)) n.tiled)))
      (last_cases n.before)

  -- the tile f is before this one
  module _ (f : Block) (flag : Bool) (flag_is : flag ≡ is_live_at bytes f.at) (read : (ys zs : List Tile) (l : Bool) (t : Tile) → IsTiled bytes (ys ++ (t ∷ tile near.at near.units l ∷ zs)) → (f.at ≡ t.at) × (f.units ≡ t.units))
      (some : (zs : List Tile) (l : Bool) → IsTiled bytes (tile near.at near.units l ∷ zs) → Some f ≡ None) where
    no : Some f ≡ None → ⊥
    no e = cc

    last : HasLast n.before
    last = ⊎_elim (λ e. absurd (no (some n.following n.live (subst (λ l. IsTiled bytes (l ++ tile near.at near.units n.live ∷ n.following)) e n.tiled)))) (λ h. h) (last_cases n.before)

    tiled : IsTiled bytes (last.front ++ (last.last ∷ tile near.at near.units n.live ∷ n.following))
    tiled = subst (λ l. IsTiled bytes l) (ap (λ l. l ++ tile near.at near.units n.live ∷ n.following) last.parts ∙ append_assoc last.front (last.last ∷ []) (tile near.at near.units n.live ∷ n.following)) n.tiled

    is : (f.at ≡ last.last.at) × (f.units ≡ last.last.units)
    is = read last.front n.following n.live last.last tiled

    live_is : flag ≡ last.last.live
    live_is = flag_is ∙ ap (is_live_at bytes) is.0 ∙ own_flag bytes last.front (tile near.at near.units n.live ∷ n.following) last.last tiled

    link_of_last : cond flag (link_past 24 last.front) (f.at + 12) ≡ link_past 24 xs
    link_of_last = (λ i. cond (live_is i) (link_past 24 last.front) (is.0 i + 12)) ∙ sym (link_past-append last.front (last.last ∷ []) 24) ∙ ap (link_past 24) (sym last.parts) ∙ n.link_is

    pub near_free : flag ≡ false → f.at + 12 ≡ link_past 24 xs
    near_free e = ap (λ b. cond b (link_past 24 last.front) (f.at + 12)) (sym e) ∙ link_of_last

    pub near_more : flag ≡ true → IsNear bytes xs f
    near_more e = record {
      before = last.front;
      following = tile near.at near.units n.live ∷ n.following;
      live = last.last.live;
      tiled = subst (λ (t : Tile). IsTiled bytes (last.front ++ (t ∷ tile near.at near.units n.live ∷ n.following))) (λ i. record { at = sym is.0 i; units = sym is.1 i; live = last.last.live }) tiled;
      link_is = ap (λ b. cond b (link_past 24 last.front) (f.at + 12)) (sym e) ∙ link_of_last;
    }
