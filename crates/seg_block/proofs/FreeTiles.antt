-- The free blocks among the tiles, and the one that is allocated.
use Rattle.std.proofs.Common.{◌≡◌, ◌≢◌, ℕ, ◌+◌, ◌-◌, ◌*◌, ◌%◌, ◌≤◌, true, false, List, [], ◌∷◌, ◌++◌, length, cond, Some, None, refl, sym, ap, ◌∙◌, subst, arith, ⊎_elim}
use Rattle.std.proofs.lemmas.Bool.{cases_lt}
use Rattle.seg_spec.specs.Bytes.{Agrees}
use Rattle.seg_spec.specs.Heap.{Span, Tile, span_of, link_at, Fill, AreHeaders, free_of, heap_start, tiles, gaps, IsHeap, pick, granted, Takes}
use Rattle.seg_spec.proofs.Heap.TileLaws.{Fill-le}
use Rattle.seg_block.specs.FreeBlocks.{AreFreeBlocks}
use Rattle.seg_block.specs.Tiling.{tile, IsTiled, IsTiling, Retiles}
use Rattle.seg_block.proofs.Heaps.{gaps_of_heap, tiling_of_heap}
use Rattle.seg_block.proofs.ResizedBlockLaws.{granted_all, granted_part}
use Rattle.seg_block.proofs.GapAllocationLaws.{takes, takes_whole, takes_front}

-- ---- the free blocks

pub AreFreeBlocks-free_of : (bytes : List ℕ) (ts : List Tile) (low from to before : ℕ) → low ≤ from → from % 16 ≡ 0 → to ≤ length bytes → Fill from ts to → AreHeaders bytes before ts → AreFreeBlocks bytes low (free_of ts)
AreFreeBlocks-free_of bytes [] low from to before above aligned inside f h = tt
AreFreeBlocks-free_of bytes (t ∷ ts) low from to before above aligned inside f h =
    let le = Fill-le ts (from + 16 * t.units) to f.2 in
    elim t.live as (λ b. t.live ≡ b → AreFreeBlocks bytes low (cond b (free_of ts) (span_of t ∷ free_of ts))) [
      | true ↦ (λ e. AreFreeBlocks-free_of bytes ts low (from + 16 * t.units) to t.units (omega arith) (omega arith) inside f.2 h.1)
      | false ↦ (λ e. (
        omega (arith, f.0),
        record { aligned = ap (λ p. p % 16) f.0 ∙ aligned; large = f.1; inside = omega (arith, f.0); size_is = h.0.units_is },
        AreFreeBlocks-free_of bytes ts (t.at + 16 * t.units) (from + 16 * t.units) to t.units (omega (arith, f.0)) (omega arith) inside f.2 h.1,
      ))
    ] refl

pub free_blocks : (bytes : List ℕ) (ts : List Tile) → IsTiled bytes ts → AreFreeBlocks bytes 704 (free_of ts)
free_blocks bytes ts t = AreFreeBlocks-free_of bytes ts 704 heap_start (length bytes) 0 (omega arith) refl (omega arith) t.filled t.headers

pub heap_free_blocks : {allocator : ℕ} (bytes : List ℕ) → IsHeap allocator bytes → AreFreeBlocks bytes 704 (gaps bytes)
heap_free_blocks bytes h = subst (λ gs. AreFreeBlocks bytes 704 gs) (sym (gaps_of_heap bytes h)) (free_blocks bytes (tiles bytes) (tiling_of_heap bytes h).tiled)

-- ---- one free block

-- the tiles before and after a free tile
pub record HasFree (ts : List Tile) (seen : List Span) (g : Span) : Type 0 where
  pub xs : List Tile
  pub ys : List Tile
  pub parts : ts ≡ xs ++ tile g.at g.units false ∷ ys
  pub seen_are : free_of xs ≡ seen

heads_same : {X : Type 0} (x y : X) (xs ys : List X) → x ∷ xs ≡ y ∷ ys → (x ≡ y) × (xs ≡ ys)
heads_same x y xs ys e = (cc, cc)

free_tile : (t : Tile) (g : Span) → t.live ≡ false → span_of t ≡ g → t ≡ tile g.at g.units false
free_tile t g is e = λ i. record { at = (e i).at; units = (e i).units; live = is i }

has_more : (t : Tile) (ts : List Tile) (seen : List Span) (g : Span) → (h : HasFree ts seen g) → (now : List Span) → free_of (t ∷ h.xs) ≡ now → HasFree (t ∷ ts) now g
has_more t ts seen g h now e = record { xs = t ∷ h.xs; ys = h.ys; parts = ap (λ l. t ∷ l) h.parts; seen_are = e }

pub has_free : (ts : List Tile) (seen rest : List Span) (g : Span) → free_of ts ≡ seen ++ g ∷ rest → HasFree ts seen g
has_free [] [] rest g e = absurd (no e)
  where
    no : [] ≡ g ∷ rest → ⊥
    no e = cc
has_free [] (s ∷ seen) rest g e = absurd (no e)
  where
    no : [] ≡ s ∷ (seen ++ g ∷ rest) → ⊥
    no e = cc
has_free (t ∷ ts) [] rest g e =
    let go = elim t.live as (λ b. t.live ≡ b → cond b (free_of ts) (span_of t ∷ free_of ts) ≡ g ∷ rest → HasFree (t ∷ ts) [] g) [
      | true ↦ (λ is e. let h = has_free ts [] rest g e in has_more t ts [] g h [] (ap (λ b. cond b (free_of h.xs) (span_of t ∷ free_of h.xs)) is ∙ h.seen_are))
      | false ↦ (λ is e. record { xs = []; ys = ts; parts = ap (λ x. x ∷ ts) (free_tile t g is (heads_same (span_of t) g (free_of ts) rest e).0); seen_are = refl })
    ] in
    go refl e
has_free (t ∷ ts) (s ∷ seen) rest g e =
    let go = elim t.live as (λ b. t.live ≡ b → cond b (free_of ts) (span_of t ∷ free_of ts) ≡ s ∷ (seen ++ g ∷ rest) → HasFree (t ∷ ts) (s ∷ seen) g) [
      | true ↦ (λ is e. let h = has_free ts (s ∷ seen) rest g e in has_more t ts (s ∷ seen) g h (s ∷ seen) (ap (λ b. cond b (free_of h.xs) (span_of t ∷ free_of h.xs)) is ∙ h.seen_are))
      | false ↦ (λ is e. let same = heads_same (span_of t) s (free_of ts) (seen ++ g ∷ rest) e in
          let h = has_free ts seen rest g same.1 in
          has_more t ts seen g h (s ∷ seen) (ap (λ b. cond b (free_of h.xs) (span_of t ∷ free_of h.xs)) is ∙ (λ i. same.0 i ∷ h.seen_are i)))
    ] in
    go refl e

-- ---- the gap that the allocator picks, taken whole or cut

module _ {allocator : ℕ} (Place : List Tile → Type 0) (old : List ℕ) (u at units : ℕ) (h : IsHeap allocator old) (picked : pick allocator (gaps old) u ≡ Some (record { at = at; units = units }))
    (seen rest : List Span) (parts : gaps old ≡ seen ++ record { at = at; units = units } ∷ rest) where
  pub around_gap : HasFree (tiles old) seen (record { at = at; units = units })
  around_gap = has_free (tiles old) seen rest (record { at = at; units = units }) (sym (gaps_of_heap old h) ∙ parts)

  abbrev tiles_before : List Tile
  tiles_before = around_gap.xs

  abbrev tiles_after : List Tile
  tiles_after = around_gap.ys

  gap_tiling : IsTiling allocator old (tiles_before ++ tile at units false ∷ tiles_after)
  gap_tiling = subst (λ l. IsTiling allocator old l) around_gap.parts (tiling_of_heap old h)

  pub takes_gap : (new : List ℕ) (n : ℕ) (mid : List ℕ) → Place tiles_before → n ≡ granted units u → 2 ≤ u → u ≤ units
      → ((xs ys : List Tile) → Place xs → IsTiling allocator old (xs ++ tile at units false ∷ ys) → Retiles allocator old mid xs (tile at units true ∷ []) ys × (link_at mid at ≡ None))
      → (n ≡ units → new ≡ mid)
      → (n + 2 ≤ units → (xs ys : List Tile) → Place xs → IsTiling allocator mid (xs ++ tile at units true ∷ ys)
      → Retiles allocator mid new xs (tile at n true ∷ tile (at + 16 * n) (units - n) false ∷ []) ys × Agrees mid new (at + 8) (at + 16 * n))
      → Takes allocator old new u (Some at)
  takes_gap new n mid place n_is large enough take whole cut =
      let t = take tiles_before tiles_after place gap_tiling in
      takes old new u at units tiles_before tiles_after h picked around_gap.parts mid large enough t (λ small. whole (n_is ∙ granted_all units u enough small))
      (λ room.
      let is : n ≡ u = n_is ∙ granted_part units u room in
      subst (λ m. Retiles allocator mid new tiles_before (tile at m true ∷ tile (at + 16 * m) (units - m) false ∷ []) tiles_after × Agrees mid new (at + 8) (at + 16 * m)) is (cut (omega arith) tiles_before tiles_after place t.0.tiling))

  pub takes_gap_whole : (new : List ℕ) (n : ℕ) → Place tiles_before → n ≡ granted units u → u ≤ units → n ≡ units
      → ((xs ys : List Tile) → Place xs → IsTiling allocator old (xs ++ tile at units false ∷ ys) → Retiles allocator old new xs (tile at units true ∷ []) ys × (link_at new at ≡ None))
      → Takes allocator old new u (Some at)
  takes_gap_whole new n place n_is enough whole take =
      let t = take tiles_before tiles_after place gap_tiling in
      takes_whole old new u at units tiles_before tiles_after h picked around_gap.parts enough
      (⊎_elim (λ small. small) (λ room. let part : n ≡ u = n_is ∙ granted_part units u room in absurd (omega arith)) (cases_lt units (u + 2))) t.0 t.1

  pub takes_gap_front : (new : List ℕ) (n : ℕ) → Place tiles_before → n ≡ granted units u → 2 ≤ u → u ≤ units → n ≢ units
      → ((xs ys : List Tile) → Place xs → IsTiling allocator old (xs ++ tile at units false ∷ ys)
      → Retiles allocator old new xs (tile at n true ∷ tile (at + 16 * n) (units - n) false ∷ []) ys × (link_at new at ≡ None))
      → Takes allocator old new u (Some at)
  takes_gap_front new n place n_is large enough part take =
      ⊎_elim (λ small. absurd (part (n_is ∙ granted_all units u enough small)))
      (λ room.
      let is : n ≡ u = n_is ∙ granted_part units u room in
      let t = subst (λ m. Retiles allocator old new tiles_before (tile at m true ∷ tile (at + 16 * m) (units - m) false ∷ []) tiles_after × (link_at new at ≡ None)) is (take tiles_before tiles_after place gap_tiling) in
      takes_front old new u at units tiles_before tiles_after h picked around_gap.parts large room t.0 t.1)
      (cases_lt units (u + 2))
