-- An allocated block among the tiles, and the remaining blocks after it is freed.
use Rattle.std.proofs.Common.{◌≡◌, ℕ, ◌+◌, ◌*◌, ◌<◌, ◌≤◌, true, false, List, [], ◌∷◌, ◌++◌, length, min, cond, eqb, refl, sym, ap, ◌∙◌, subst, arith, ⊎_elim}
use Rattle.std.specs.Prelude.{Contains}
use Rattle.std.proofs.lemmas.Bool.Decides.{nat_tests}
use Rattle.seg_spec.specs.Heap.{Span, Tile, span_of, end_of, Fill, AreApart, live_of, heap_start, tiles, live, IsHeap, without, Gives}
use Rattle.seg_spec.proofs.BytesLaws.{Agrees-within}
use Rattle.seg_spec.proofs.Heap.TileLaws.{Fill-le, live_of-append, AreApart-front, AreApart-back}
use Rattle.seg_block.specs.Tiling.{tile, IsTiling, Spares}
use Rattle.seg_block.proofs.LiveTiles.{cons_cases}
use Rattle.seg_block.specs.Blocks.{IsSized}
use Rattle.seg_block.proofs.TileReplacementLaws.{around}
use Rattle.seg_block.proofs.Neighbours.{IsSized-tile}
use Rattle.seg_block.proofs.Heaps.{tiling_of_heap, heap_of_tiling, IsTiledHeap}

-- the tiles before and after an allocated tile
pub record HasLive (ts : List Tile) (b : Span) : Type 0 where
  pub xs : List Tile
  pub ys : List Tile
  pub parts : ts ≡ xs ++ tile b.at b.units true ∷ ys

live_tile : (t : Tile) (b : Span) → t.live ≡ true → span_of t ≡ b → t ≡ tile b.at b.units true
live_tile t b is e = λ i. record { at = (e i).at; units = (e i).units; live = is i }

more_live : (t : Tile) (ts : List Tile) (b : Span) → HasLive ts b → HasLive (t ∷ ts) b
more_live t ts b h = record { xs = t ∷ h.xs; ys = h.ys; parts = ap (λ l. t ∷ l) h.parts }

pub has_live : (ts : List Tile) (b : Span) → Contains (live_of ts) b → HasLive ts b
has_live [] b (n, k, e) = absurd (omega arith)
has_live (t ∷ ts) b c =
    let rest = λ (c : Contains (live_of ts) b). more_live t ts b (has_live ts b c) in
    let go = elim t.live as (λ l. t.live ≡ l → Contains (cond l (span_of t ∷ live_of ts) (live_of ts)) b → HasLive (t ∷ ts) b) [
      | true ↦ (λ is c. ⊎_elim (λ e. record { xs = []; ys = ts; parts = ap (λ x. x ∷ ts) (live_tile t b is e) }) (λ c. rest c) (cons_cases (span_of t) b (live_of ts) c))
      | false ↦ (λ is c. rest c)
    ] in
    go refl c

-- ---- the blocks without one of them

pub without-other : (at : ℕ) (xs ys : List Tile) (b : Span) (from to : ℕ) → b.at ≡ at → Fill from xs to → to ≤ at → without at (live_of xs ++ b ∷ live_of ys) ≡ live_of xs ++ live_of ys
without-other at [] ys b from to is f le = rw (test_same b.at at is) refl
  where
    test_same : (m n : ℕ) → m ≡ n → eqb m n ≡ true
    test_same m n e = grind (arith, nat_tests)
without-other at (t ∷ xs) ys b from to is f le =
    let rest = without-other at xs ys b (from + 16 * t.units) to is f.2 le in
    let low = Fill-le xs (from + 16 * t.units) to f.2 in
    elim t.live as (λ l. without at (cond l (span_of t ∷ live_of xs) (live_of xs) ++ b ∷ live_of ys) ≡ cond l (span_of t ∷ live_of xs) (live_of xs) ++ live_of ys)
    [ true ↦ rw (test_other t.at at (omega (arith, f.0, f.1))) (ap (λ l. span_of t ∷ l) rest) | false ↦ rest ]
  where
    test_other : (m n : ℕ) → m < n → eqb m n ≡ false
    test_other m n e = grind (arith, nat_tests)

-- ---- a block of the heap

module _ {allocator : ℕ} (old : List ℕ) (at u : ℕ) (h : IsHeap allocator old) (held : Contains (live old) (record { at = at; units = u })) where
  old_is : IsTiledHeap allocator old (tiles old)
  old_is = heap_of_tiling old (tiles old) (tiling_of_heap old h) h.apart

  pub block : HasLive (tiles old) (record { at = at; units = u })
  block = has_live (tiles old) (record { at = at; units = u }) (subst (λ l. Contains l (record { at = at; units = u })) old_is.live_is held)

  pub block_tiling : IsTiling allocator old (block.xs ++ tile at u true ∷ block.ys)
  block_tiling = subst (λ l. IsTiling allocator old l) block.parts (tiling_of_heap old h)

  pub block_apart : AreApart true (block.xs ++ tile at u true ∷ block.ys)
  block_apart = subst (λ l. AreApart true l) block.parts h.apart

  pub block_after : AreApart true block.ys
  block_after = (AreApart-back block.xs (tile at u true ∷ block.ys) true block_apart).1

  pub block_front : AreApart true block.xs
  block_front = AreApart-front block.xs (tile at u true ∷ block.ys) true block_apart

  left_live : live_of (block.xs ++ block.ys) ≡ without at (live old)
  left_live =
      let parts = around block.xs block.ys heap_start (length old) at u true block_tiling.tiled.filled in
      live_of-append block.xs block.ys
      ∙ sym (without-other at block.xs block.ys (record { at = at; units = u }) heap_start at refl parts.0 (omega arith))
      ∙ ap (without at) (sym (old_is.live_is ∙ ap live_of block.parts ∙ live_of-append block.xs (tile at u true ∷ block.ys)))

  pub gives : (new : List ℕ) (ts : List Tile) → IsTiling allocator new ts → AreApart true ts → live_of ts ≡ live_of (block.xs ++ block.ys) → Spares old new (block.xs ++ block.ys) → Gives allocator old new at
  gives new ts tiling apart same spared =
      let now = heap_of_tiling new ts tiling apart in
      record {
        heap = now.heap;
        kept = record {
          length_kept = spared.front_kept.length_kept;
          front_kept = spared.front_kept;
          back_kept = spared.back_kept;
          blocks_kept = λ b c _ kept e. Agrees-within old new (c.at + 8) (end_of c) (b.at + 8) (b.at + 16 * min b.units c.units) (spared.tiles_kept c (subst (λ l. Contains l c) (now.live_is ∙ same) kept)) (omega arith) (omega arith);
        };
        given = now.live_is ∙ same ∙ left_live;
      }

-- ---- a block that was read at its position

module _ {allocator : ℕ} (old : List ℕ) (named x : ℕ) (h : IsHeap allocator old) (held : Contains (live old) (record { at = named; units = x })) where
  stated : IsSized old (record { at = named; units = x })
  stated = let b = block old named x h held in IsSized-tile old b.xs b.ys named x true (block_tiling old named x h held).tiled

  pub unread : ((g : Span) → named ≡ g.at → IsSized old g → ⊥) → ⊥
  unread none = none (record { at = named; units = x }) refl stated

  module _ (at u : ℕ) (read : (g : Span) → named ≡ g.at → IsSized old g → (at ≡ g.at) × (u ≡ g.units)) where
    pub read_is : (at ≡ named) × (u ≡ x)
    read_is = read (record { at = named; units = x }) refl stated

    pub read_held : Contains (live old) (record { at = at; units = u })
    read_held = subst (λ (b : Span). Contains (live old) b) (λ i. record { at = sym read_is.0 i; units = sym read_is.1 i }) held
