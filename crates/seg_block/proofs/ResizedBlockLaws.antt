-- An allocated block of another size, and the rest of the gap after it.
use Rattle.std.proofs.Common.{◌≡◌, ◌≢◌, ℕ, ◌+◌, ◌-◌, ◌*◌, ◌<◌, ◌≤◌, true, false, Bool, List, [], ◌∷◌, ◌++◌, length, min, cond, eqb, Some, None, refl, sym, ap, ◌∙◌, subst, arith, inl, inr, ◌⊎◌, ⊎_elim, le-leb}
use Rattle.std.specs.Prelude.{Contains}
use Rattle.std.proofs.lemmas.Bool.Decides.{nat_tests}
use Rattle.std.proofs.lemmas.List.Elements.{Contains-append_cases, Contains-append_left, Contains-append_right}
use Rattle.seg_spec.specs.Bytes.{Agrees}
use Rattle.seg_spec.specs.Heap.{Span, Tile, span_of, end_of, Fill, AreApart, live_of, free_of, heap_start, live, gaps, IsHeap, room_at, resized, granted, expanded, shrunk, Expands, Shrinks}
use Rattle.seg_spec.proofs.BytesLaws.{Agrees-within, Agrees-trans}
use Rattle.seg_spec.proofs.Heap.TileLaws.{Fill-le, live_of-append, free_of-append, AreApart-append}
use Rattle.seg_block.specs.Blocks.{IsReadFree, IsResized}
use Rattle.seg_block.specs.declared.block.Block.{Block}
use Rattle.seg_block.specs.Tiling.{tile, IsTiled, IsTiling, Retiles, Spares}
use Rattle.seg_block.proofs.LiveTiles.{cons_cases, live_within}
use Rattle.seg_block.proofs.TileReplacementLaws.{around}
use Rattle.seg_block.proofs.Heaps.{heap_of_tiling, AreApart-live, Spares-trans, Spares-same, Keeps-same}
use Rattle.seg_block.proofs.LiveBlocks.{block, block_tiling, block_apart, block_after, block_front}

test_same : (m n : ℕ) → m ≡ n → eqb m n ≡ true
test_same m n e = grind (arith, nat_tests)

test_other : (m n : ℕ) → m ≢ n → eqb m n ≡ false
test_other m n e = grind (arith, nat_tests)

-- ---- the room after a block

room_at-front : (xs : List Tile) (gs : List Span) (from to p : ℕ) → Fill from xs to → to < p → room_at (free_of xs ++ gs) p ≡ room_at gs p
room_at-front [] gs from to p f h = refl
room_at-front (t ∷ xs) gs from to p f h =
    let le = Fill-le xs (from + 16 * t.units) to f.2 in
    let rest = room_at-front xs gs (from + 16 * t.units) to p f.2 h in
    elim t.live as (λ b. room_at (cond b (free_of xs) (span_of t ∷ free_of xs) ++ gs) p ≡ room_at gs p)
    [ true ↦ rest | false ↦ rw (test_other t.at p (λ e. absurd (omega (arith, f.0)))) rest ]

room_at-above : (ys : List Tile) (from to p : ℕ) → Fill from ys to → p < from → room_at (free_of ys) p ≡ 0
room_at-above [] from to p f h = refl
room_at-above (t ∷ ys) from to p f h =
    let rest = room_at-above ys (from + 16 * t.units) to p f.2 (omega arith) in
    elim t.live as (λ b. room_at (cond b (free_of ys) (span_of t ∷ free_of ys)) p ≡ 0)
    [ true ↦ rest | false ↦ rw (test_other t.at p (λ e. absurd (omega (arith, f.0)))) rest ]

room_at-apart : (ys : List Tile) (from to : ℕ) → Fill from ys to → AreApart false ys → room_at (free_of ys) from ≡ 0
room_at-apart [] from to f a = refl
room_at-apart (t ∷ ys) from to f a = rw (a.0 refl) (room_at-above ys (from + 16 * t.units) to from f.2 (omega (arith, f.1)))

-- ---- the blocks with another size

resized-front : (at n : ℕ) (xs : List Tile) (bs : List Span) (from to : ℕ) → Fill from xs to → to ≤ at → resized at n (live_of xs ++ bs) ≡ live_of xs ++ resized at n bs
resized-front at n [] bs from to f h = refl
resized-front at n (t ∷ xs) bs from to f h =
    let le = Fill-le xs (from + 16 * t.units) to f.2 in
    let rest = resized-front at n xs bs (from + 16 * t.units) to f.2 h in
    elim t.live as (λ l. resized at n (cond l (span_of t ∷ live_of xs) (live_of xs) ++ bs) ≡ cond l (span_of t ∷ live_of xs) (live_of xs) ++ resized at n bs)
    [ true ↦ rw (test_other t.at at (λ e. absurd (omega (arith, f.0, f.1)))) (ap (λ l. span_of t ∷ l) rest) | false ↦ rest ]

resized-here : (at n u : ℕ) (bs : List Span) → resized at n (record { at = at; units = u } ∷ bs) ≡ record { at = at; units = n } ∷ bs
resized-here at n u bs = rw (test_same at at refl) refl

module _ {allocator : ℕ} (old : List ℕ) (at u : ℕ) (h : IsHeap allocator old) (held : Contains (live old) (record { at = at; units = u })) where
  abbrev pub before : List Tile
  before = (block old at u h held).xs

  abbrev pub following : List Tile
  following = (block old at u h held).ys

  pub was : IsTiling allocator old (before ++ tile at u true ∷ following)
  was = block_tiling old at u h held

  parts : (Fill heap_start before at) × (2 ≤ u) × Fill (at + 16 * u) following (length old)
  parts = around before following heap_start (length old) at u true was.tiled.filled

  old_live : live old ≡ live_of before ++ record { at = at; units = u } ∷ live_of following
  old_live = (heap_of_tiling old (before ++ tile at u true ∷ following) was (block_apart old at u h held)).live_is ∙ live_of-append before (tile at u true ∷ following)

  old_gaps : gaps old ≡ free_of before ++ free_of following
  old_gaps = (heap_of_tiling old (before ++ tile at u true ∷ following) was (block_apart old at u h held)).gaps_is ∙ free_of-append before (tile at u true ∷ following)

  resized_is : (n : ℕ) → resized at n (live old) ≡ live_of before ++ record { at = at; units = n } ∷ live_of following
  resized_is n =
      ap (resized at n) old_live ∙ resized-front at n before (record { at = at; units = u } ∷ live_of following) heap_start at parts.0 (omega arith)
      ∙ ap (λ l. live_of before ++ l) (resized-here at n u (live_of following))

  pub resized_same : resized at u (live old) ≡ live old
  resized_same = resized_is u ∙ sym old_live

  room_is : room_at (gaps old) (at + 16 * u) ≡ room_at (free_of following) (at + 16 * u)
  room_is = ap (λ gs. room_at gs (at + 16 * u)) old_gaps ∙ room_at-front before (free_of following) heap_start at (at + 16 * u) parts.0 (let p = parts.1 in omega arith)

  keeps_block : (new : List ℕ) (n : ℕ) (zs : List Tile) (c : Span) → Fill (at + 16 * n) zs (length new) → 2 ≤ n → Agrees old new (at + 8) (at + 16 * min u n)
      → (Contains (live_of before) c) ⊎ ((record { at = at; units = n } ≡ c) ⊎ Contains (live_of zs) c) → at ≡ c.at → Agrees old new (at + 8) (at + 16 * min u c.units)
  keeps_block new n zs c back large own (inl x) e = let w = live_within before heap_start at c parts.0 x in Agrees-within old new (at + 8) (at + 16 * min u n) (at + 8) (at + 16 * min u c.units) own (omega arith) (omega (arith, w.1))
  keeps_block new n zs c back large own (inr (inl x)) e = Agrees-within old new (at + 8) (at + 16 * min u n) (at + 8) (at + 16 * min u c.units) own (omega arith) (omega (arith, ap (λ (s : Span). s.units) x))
  keeps_block new n zs c back large own (inr (inr x)) e = let w = live_within zs (at + 16 * n) (length new) c back x in absurd (omega (arith, w.0))

  keeps_any : (new : List ℕ) (n : ℕ) (zs : List Tile) (b c : Span) → Fill (at + 16 * n) zs (length new) → 2 ≤ n → Spares old new (before ++ following) → Agrees old new (at + 8) (at + 16 * min u n)
      → (Contains (live_of before) b) ⊎ ((record { at = at; units = u } ≡ b) ⊎ Contains (live_of following) b) → (Contains (live_of before) c) ⊎ ((record { at = at; units = n } ≡ c) ⊎ Contains (live_of zs) c)
      → b.at ≡ c.at → Agrees old new (b.at + 8) (b.at + 16 * min b.units c.units)
  keeps_any new n zs b c back large s own (inl x) k e =
      Agrees-within old new (b.at + 8) (end_of b) (b.at + 8) (b.at + 16 * min b.units c.units)
      (s.tiles_kept b (subst (λ l. Contains l b) (sym (live_of-append before following)) (Contains-append_left (live_of before) (live_of following) b x))) (omega arith) (omega arith)
  keeps_any new n zs b c back large s own (inr (inr x)) k e =
      Agrees-within old new (b.at + 8) (end_of b) (b.at + 8) (b.at + 16 * min b.units c.units)
      (s.tiles_kept b (subst (λ l. Contains l b) (sym (live_of-append before following)) (Contains-append_right (live_of before) (live_of following) b x))) (omega arith) (omega arith)
  keeps_any new n zs b c back large s own (inr (inl x)) k e =
      subst (λ (b : Span). b.at ≡ c.at → Agrees old new (b.at + 8) (b.at + 16 * min b.units c.units)) x (λ e. keeps_block new n zs c back large own k e) e

  pub resizes : (new : List ℕ) (n : ℕ) (zs : List Tile) → IsTiling allocator new (before ++ tile at n true ∷ zs) → live_of zs ≡ live_of following → AreApart true zs
      → Spares old new (before ++ following) → Agrees old new (at + 8) (at + 16 * min u n) → IsResized allocator old new at n
  resizes new n zs tiling same apart s own =
      let now = heap_of_tiling new (before ++ tile at n true ∷ zs) tiling (AreApart-append before (tile at n true ∷ zs) true (block_front old at u h held) (λ e. refl, apart)) in
      let new_parts = around before zs heap_start (length new) at n true tiling.tiled.filled in
      let new_live = now.live_is ∙ live_of-append before (tile at n true ∷ zs) in
      let cases = λ (c : Span) (k : Contains (live new) c). ⊎_elim (λ x. inl x) (λ x. inr (cons_cases (record { at = at; units = n }) c (live_of zs) x))
      (Contains-append_cases (live_of before) (record { at = at; units = n } ∷ live_of zs) c (subst (λ l. Contains l c) new_live k)) in
      let olds = λ (b : Span) (k : Contains (live old) b). ⊎_elim (λ x. inl x) (λ x. inr (cons_cases (record { at = at; units = u }) b (live_of following) x))
      (Contains-append_cases (live_of before) (record { at = at; units = u } ∷ live_of following) b (subst (λ l. Contains l b) old_live k)) in
      record {
        heap = now.heap;
        kept = record {
          length_kept = s.front_kept.length_kept;
          front_kept = s.front_kept;
          back_kept = s.back_kept;
          blocks_kept = λ b c x k e. keeps_any new n zs b c new_parts.2 new_parts.1 s own (olds b x) (cases c k) e;
        };
        live_is = new_live ∙ ap (λ l. live_of before ++ record { at = at; units = n } ∷ l) same ∙ sym (resized_is n);
      }

  -- ---- the gap after the block

  -- if no free tile is right after the block, there is no room
  pub gap_none : AreApart false following → room_at (gaps old) (at + 16 * u) ≡ 0
  gap_none apart = room_is ∙ room_at-apart following (at + 16 * u) (length old) parts.2 apart

  pub record HasGap (v : ℕ) : Type 0 where
    pub rest : List Tile
    pub gap_parts : following ≡ tile (at + 16 * u) v false ∷ rest
    pub room : room_at (gaps old) (at + 16 * u) ≡ v
    pub large : 2 ≤ v
    pub apart : AreApart false rest
    pub tiling : IsTiling allocator old (before ++ (tile at u true ∷ tile (at + 16 * u) v false ∷ rest))
    pub fill : Fill (at + 16 * u + 16 * v) rest (length old)

  pub gap_found : (v : ℕ) (rest : List Tile) → following ≡ tile (at + 16 * u) v false ∷ rest → HasGap v
  gap_found v rest is =
      let fill = subst (λ l. Fill (at + 16 * u) l (length old)) is parts.2 in
      record {
        rest = rest;
        gap_parts = is;
        room = room_is ∙ ap (λ l. room_at (free_of l) (at + 16 * u)) is ∙ rw (test_same (at + 16 * u) (at + 16 * u) refl) refl;
        large = fill.1;
        apart = (subst (λ l. AreApart true l) is (block_after old at u h held)).1;
        tiling = subst (λ l. IsTiling allocator old (before ++ tile at u true ∷ l)) is was;
        fill = fill.2;
      }

  -- there is no room after the block, or a gap
  pub room_cases : (AreApart false following × (room_at (gaps old) (at + 16 * u) ≡ 0)) ⊎ ((v : ℕ) × HasGap v)
  room_cases = go following refl
    where
      go : (ys : List Tile) → following ≡ ys → (AreApart false following × (room_at (gaps old) (at + 16 * u) ≡ 0)) ⊎ ((v : ℕ) × HasGap v)
      go [] e = let apart = subst (λ l. AreApart false l) (sym e) tt in inl (apart, gap_none apart)
      go (t ∷ ys) e =
          let after = (subst (λ l. AreApart true l) e (block_after old at u h held)).1 in
          let place = (subst (λ l. Fill (at + 16 * u) l (length old)) e parts.2).0 in
          let cases = elim t.live as (λ b. t.live ≡ b → (AreApart false following × (room_at (gaps old) (at + 16 * u) ≡ 0)) ⊎ ((v : ℕ) × HasGap v)) [
            | true ↦ (λ is. let apart = subst (λ l. AreApart false l) (sym e) ((λ _. is), after) in inl (apart, gap_none apart))
            | false ↦ (λ is. inr (t.units, gap_found t.units ys (e ∙ (λ i. record { at = place i; units = t.units; live = is i } ∷ ys))))
          ] in
          cases refl

  -- ---- the block with the gap added, whole or cut

  pub resized_whole : (mid : List ℕ) (v : ℕ) (g : HasGap v) → Retiles allocator old mid before (tile at (u + v) true ∷ []) g.rest × Agrees old mid (at + 8) (at + 16 * u) → IsResized allocator old mid at (u + v)
  resized_whole mid v g r =
      resizes mid (u + v) g.rest r.0.tiling (sym (ap live_of g.gap_parts)) (AreApart-live false g.rest g.apart)
      (Spares-same old mid (before ++ g.rest) (before ++ following) (ap (λ l. live_of (before ++ l)) g.gap_parts ∙ live_of-append before (tile (at + 16 * u) v false ∷ g.rest) ∙ sym (live_of-append before g.rest)) r.0.spared)
      (Agrees-within old mid (at + 8) (at + 16 * u) (at + 8) (at + 16 * min u (u + v)) r.1 (omega arith) (omega arith))

  pub resized_cut : (mid new : List ℕ) (v need : ℕ) (g : HasGap v) → Retiles allocator old mid before (tile at (u + v) true ∷ []) g.rest × Agrees old mid (at + 8) (at + 16 * u)
      → Retiles allocator mid new before (tile at need true ∷ tile (at + 16 * need) (u + v - need) false ∷ []) g.rest × Agrees mid new (at + 8) (at + 16 * need) → IsResized allocator old new at need
  resized_cut mid new v need g r c =
      resizes new need (tile (at + 16 * need) (u + v - need) false ∷ g.rest) c.0.tiling (sym (ap live_of g.gap_parts)) ((λ e. absurd (never e)), g.apart)
      (Spares-same old new (before ++ g.rest) (before ++ following) (ap (λ l. live_of (before ++ l)) g.gap_parts ∙ live_of-append before (tile (at + 16 * u) v false ∷ g.rest) ∙ sym (live_of-append before g.rest))
      (Spares-trans old mid new (before ++ g.rest) r.0.spared c.0.spared))
      (Agrees-trans old mid new (at + 8) (at + 16 * min u need) (Agrees-within old mid (at + 8) (at + 16 * u) (at + 8) (at + 16 * min u need) r.1 (omega arith) (omega arith))
      (Agrees-within mid new (at + 8) (at + 16 * need) (at + 8) (at + 16 * min u need) c.1 (omega arith) (omega arith)))
    where
      never : true ≡ false → ⊥
      never e = cc

  pub resized_less : (new : List ℕ) (need : ℕ) → AreApart false following → Retiles allocator old new before (tile at need true ∷ tile (at + 16 * need) (u - need) false ∷ []) following × Agrees old new (at + 8) (at + 16 * need)
      → IsResized allocator old new at need
  resized_less new need apart c =
      resizes new need (tile (at + 16 * need) (u - need) false ∷ following) c.0.tiling refl ((λ e. absurd (never e)), apart) c.0.spared
      (Agrees-within old new (at + 8) (at + 16 * need) (at + 8) (at + 16 * min u need) c.1 (omega arith) (omega arith))
    where
      never : true ≡ false → ⊥
      never e = cc

  pub resized_not : IsResized allocator old old at u
  resized_not = record {
    heap = h;
    kept = Keeps-same old;
    live_is = sym resized_same;
  }

-- ---- the sizes that the calls are given

pub granted_all : (n u : ℕ) → u ≤ n → n < u + 2 → granted n u ≡ n
granted_all n u low high = grind (arith, nat_tests)

pub granted_part : (n u : ℕ) → u + 2 ≤ n → granted n u ≡ u
granted_part n u h = grind (arith, nat_tests)

expanded_same : (x room u : ℕ) → u ≤ x → expanded x room u ≡ Some x
expanded_same x room u h = rw (le-leb u x h) refl

-- ---- the results of the calls

module _ {allocator : ℕ} (old : List ℕ) (at u need : ℕ) (h : IsHeap allocator old) (held : Contains (live old) (record { at = at; units = u })) where
  pub expands_not : expanded u (room_at (gaps old) (at + 16 * u)) need ≡ None → Expands allocator old old at u need false
  expands_not none = record {
    heap = h;
    kept = Keeps-same old;
    unchanged = λ _. refl;
    expands = rw none (refl, refl);
  }

  pub expands_to : (new : List ℕ) (n : ℕ) → expanded u (room_at (gaps old) (at + 16 * u)) need ≡ Some n → (n ≡ u → new ≡ old) → IsResized allocator old new at n → Expands allocator old new at u need true
  expands_to new n some same r = record {
    heap = r.heap;
    kept = r.kept;
    unchanged = λ enough. same (sized (sym some ∙ expanded_same u (room_at (gaps old) (at + 16 * u)) need enough));
    expands = rw some (refl, r.live_is);
  }
    where
      sized : Some n ≡ Some u → n ≡ u
      sized h = cc

  pub shrinks_to : (new : List ℕ) (n : ℕ) → shrunk u (room_at (gaps old) (at + 16 * u)) need ≡ n → IsResized allocator old new at n → Shrinks allocator old new at u need
  shrinks_to new n n_is r = record {
    heap = r.heap;
    kept = r.kept;
    shrinks = rw n_is r.live_is;
  }

-- ---- the room, as the headers state it

module _ {allocator : ℕ} (old : List ℕ) (at u : ℕ) (h : IsHeap allocator old) (held : Contains (live old) (record { at = at; units = u })) where
  pub room_some : (f : Block) → ((xs ys : List Tile) (l : Bool) (t : Tile) → IsTiled old (xs ++ (tile at u l ∷ t ∷ ys)) → IsReadFree t (Some f)) → ((xs : List Tile) (l : Bool) → IsTiled old (xs ++ tile at u l ∷ []) → Some f ≡ None)
      → f.units ≡ room_at (gaps old) (at + 16 * u)
  room_some f read none = ⊎_elim (λ n. go (following old at u h held) refl n.0) (λ g. let tiles = g.1.tiling in ((read (before old at u h held) g.1.rest true (tile (at + 16 * u) g.0 false) tiles.tiled).free refl).1 ∙ sym g.1.room)
      (room_cases old at u h held)
    where
      no : Some f ≡ None → ⊥
      no e = cc

      go : (ys : List Tile) → following old at u h held ≡ ys → AreApart false (following old at u h held) → f.units ≡ room_at (gaps old) (at + 16 * u)
      go [] e apart = absurd (no (none (before old at u h held) true (subst (λ l. IsTiled old (before old at u h held ++ tile at u true ∷ l)) e (was old at u h held).tiled)))
      go (t ∷ ys) e apart =
          let live = (subst (λ l. AreApart false l) e apart).0 refl in
          absurd (no ((read (before old at u h held) ys true t (subst (λ l. IsTiled old (before old at u h held ++ tile at u true ∷ l)) e (was old at u h held).tiled)).live live))

  pub room_none : ((xs ys : List Tile) (l : Bool) (t : Tile) → IsTiled old (xs ++ (tile at u l ∷ t ∷ ys)) → IsReadFree t None) → 0 ≡ room_at (gaps old) (at + 16 * u)
  room_none read = ⊎_elim (λ n. sym n.1) (λ g. absurd ((read (before old at u h held) g.1.rest true (tile (at + 16 * u) g.0 false) g.1.tiling.tiled).free refl)) (room_cases old at u h held)
