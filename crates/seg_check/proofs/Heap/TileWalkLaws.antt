-- The walk from tile to tile.
use Rattle.std.proofs.Common.{◌≡◌, ℕ, zero, suc, ◌+◌, ◌*◌, ◌%◌, ◌<◌, ◌≤◌, Bool, true, false, cond, ltb, List, [], ◌∷◌, ◌++◌, length, refl, sym, ap, ◌∙◌, subst, arith}
use Rattle.std.proofs.lemmas.List.{append_assoc, append-nil}
use Rattle.std.proofs.lemmas.Bool.Decides.{nat_tests}
use Rattle.std.specs.List.{AllByRecursion}
use Rattle.seg_spec.specs.Types.{Table}
use Rattle.seg_spec.specs.Heap.{Span, Tile, span_of, is_live_at, units_at, tag_at, tiles_from, tiles, Fill, AreHeaders, AreApart, live_of, free_of, live, gaps, heap_start}
use Rattle.seg_spec.specs.Block.{IsOwnable}
use Rattle.seg_spec.specs.Bytes.{word}
use Rattle.seg_spec.specs.Header.{version_word}
use Rattle.seg_spec.specs.Faulty.{HasTiles, IsTagOf}
use Rattle.seg_spec.proofs.Heap.TileLaws.{Fill-le, free_of-append, gaps_between-live_of}
use Rattle.seg_block.specs.declared.header.Header.{Header}
use Rattle.seg_block.specs.Headers.{header_at}
use Rattle.seg_check.specs.declared.free_list.FreeList.{FreeList}
use Rattle.seg_check.specs.Tiles.{FollowsHeader, KnowsGaps}

true_false : true ≡ false → ⊥
true_false e = cc

-- if no two adjacent tiles are free, and this one is, the one before is allocated
before_free : (before now : Bool) → (before ≡ false → now ≡ true) → now ≡ false → before ≡ true
before_free true now wants free = refl
before_free false now wants free = absurd (true_false (sym (wants refl) ∙ free))

after_free : (before now : Bool) → (now ≡ false → before ≡ true) → before ≡ false → now ≡ true
after_free before true wants free = refl
after_free before false wants free = absurd (true_false (sym (wants refl) ∙ free))

module _ (bytes : List ℕ) (table : Table) where
  abbrev pub tile_at : ℕ → Tile
  tile_at at = record { at = at; units = units_at bytes at; live = is_live_at bytes at }

  abbrev pub end_at : ℕ → ℕ
  end_at at = at + 16 * units_at bytes at

  -- the tiles from a position on are valid, after a tile with this header
  pub record Rest (ts : List Tile) (at : ℕ) (before : Header) : Type 0 where
    pub fill : Fill at ts (length bytes)
    pub headers : AreHeaders bytes before.units ts
    pub apart : AreApart before.is_live ts
    pub ownable : AllByRecursion (λ b. IsOwnable bytes table b.at) (live_of ts)
    pub of_version : AllByRecursion (λ b. IsTagOf (word bytes version_word) (tag_at bytes b.at)) (live_of ts)

  -- the tiles up to a position were passed, and all tiles are valid exactly if the rest are
  pub record IsTiledTo (passed : List Tile) (at : ℕ) (before : Header) : Type 0 where
    pub n : ℕ
    pub all : tiles bytes ≡ passed ++ tiles_from n bytes at
    pub enough : length bytes ≤ at + n
    pub forth : HasTiles bytes table → Rest (tiles_from n bytes at) at before
    pub back : Rest (tiles_from n bytes at) at before → HasTiles bytes table
    pub below : AllByRecursion (λ t. t.at < at) passed

  pub tiled_none : (before : Header) → before.units ≡ 0 → before.is_live ≡ true → IsTiledTo [] heap_start before
  unfolding tiles live
  tiled_none before no_units is_live = record {
    n = length bytes;
    all = refl;
    enough = omega arith;
    forth = λ a. record {
      fill = a.filled;
      headers = subst (λ u. AreHeaders bytes u (tiles bytes)) (sym no_units) a.headers;
      apart = subst (λ l. AreApart l (tiles bytes)) (sym is_live) a.apart;
      ownable = a.ownable;
      of_version = a.of_version;
    };
    back = λ r. record {
      filled = r.fill;
      headers = subst (λ u. AreHeaders bytes u (tiles bytes)) no_units r.headers;
      apart = subst (λ l. AreApart l (tiles bytes)) is_live r.apart;
      ownable = r.ownable;
      of_version = r.of_version;
    };
    below = tt;
  }

  less : (a b : ℕ) → a < b → ltb a b ≡ true
  less a b h = grind (arith, nat_tests)

  no_less : (a b : ℕ) → b ≤ a → ltb a b ≡ false
  no_less a b h = grind (arith, nat_tests)

  one_tile : (n at : ℕ) → at < length bytes → length bytes ≤ at + n → (m : ℕ) × (n ≡ suc m) × (tiles_from n bytes at ≡ tile_at at ∷ tiles_from m bytes (end_at at))
  one_tile zero at inside enough = absurd (omega arith)
  one_tile (suc m) at inside enough = (m, refl, ap (λ b. cond b (tile_at at ∷ tiles_from m bytes (end_at at)) []) (less at (length bytes) inside))

  no_tile : (n at : ℕ) → length bytes ≤ at → tiles_from n bytes at ≡ []
  no_tile zero at past = refl
  no_tile (suc m) at past = ap (λ b. cond b (tile_at at ∷ tiles_from m bytes (end_at at)) []) (no_less at (length bytes) past)

  -- ---- one of the remaining tiles

  own_first : (P : ℕ → Type 0) (at : ℕ) (ts : List Tile) (b : Bool) → is_live_at bytes at ≡ b → AllByRecursion (λ x. P x.at) (cond b (span_of (tile_at at) ∷ live_of ts) (live_of ts))
      → (is_live_at bytes at ≡ true → P at) × AllByRecursion (λ x. P x.at) (live_of ts)
  own_first P at ts true e o = ((λ t. o.0), o.1)
  own_first P at ts false e o = ((λ t. absurd (true_false (sym t ∙ e))), o)

  own_both : (P : ℕ → Type 0) (at : ℕ) (ts : List Tile) (b : Bool) → is_live_at bytes at ≡ b → (is_live_at bytes at ≡ true → P at) → AllByRecursion (λ x. P x.at) (live_of ts)
      → AllByRecursion (λ x. P x.at) (cond b (span_of (tile_at at) ∷ live_of ts) (live_of ts))
  own_both P at ts true e o os = (o e, os)
  own_both P at ts false e o os = os

  abbrev OfVersion : ℕ → Type 0
  OfVersion at = IsTagOf (word bytes version_word) (tag_at bytes at)

  rest_next : (ts : List Tile) (at : ℕ) (before : Header) → Rest (tile_at at ∷ ts) at before → FollowsHeader (word bytes version_word) table before (header_at bytes at)
  rest_next ts at before r = record {
    before_is = r.headers.0.before_is;
    free = λ e. (r.headers.0.tag_is e, before_free before.is_live (is_live_at bytes at) r.apart.0 e);
    live = λ e.
        let o = (own_first (IsOwnable bytes table) at ts (is_live_at bytes at) refl r.ownable).0 e in
        let v = (own_first OfVersion at ts (is_live_at bytes at) refl r.of_version).0 e in
        (o.link_is, record { kind = o.kind; type = o.type; allowed = o.allowed; tag_is = o.tag_is; of_version = v });
  }

  rest_tail : (ts : List Tile) (at : ℕ) (before : Header) → Rest (tile_at at ∷ ts) at before → Rest ts (end_at at) (header_at bytes at)
  rest_tail ts at before r = record {
    fill = r.fill.2;
    headers = r.headers.1;
    apart = r.apart.1;
    ownable = (own_first (IsOwnable bytes table) at ts (is_live_at bytes at) refl r.ownable).1;
    of_version = (own_first OfVersion at ts (is_live_at bytes at) refl r.of_version).1;
  }

  rest_more : (ts : List Tile) (at : ℕ) (before : Header) → 2 ≤ units_at bytes at → FollowsHeader (word bytes version_word) table before (header_at bytes at) → Rest ts (end_at at) (header_at bytes at) → Rest (tile_at at ∷ ts) at before
  rest_more ts at before large next r = record {
    fill = (refl, large, r.fill);
    headers = (record { units_is = refl; live_is = refl; before_is = next.before_is; tag_is = λ e. (next.free e).0 }, r.headers);
    apart = (after_free before.is_live (is_live_at bytes at) (λ e. (next.free e).1), r.apart);
    ownable = own_both (IsOwnable bytes table) at ts (is_live_at bytes at) refl own r.ownable;
    of_version = own_both OfVersion at ts (is_live_at bytes at) refl (λ e. (next.live e).1.of_version) r.of_version;
  }
    where
      own : is_live_at bytes at ≡ true → IsOwnable bytes table at
      own e = let l = next.live e in let a = l.1 in record { kind = a.kind; type = a.type; allowed = a.allowed; tag_is = a.tag_is; link_is = l.0 }

  module _ (passed : List Tile) (at : ℕ) (before : Header) (w : IsTiledTo passed at before) (inside : at < length bytes) where
    first : (m : ℕ) × (w.n ≡ suc m) × (tiles_from w.n bytes at ≡ tile_at at ∷ tiles_from m bytes (end_at at))
    first = one_tile w.n at inside w.enough

    pub next_is : HasTiles bytes table → FollowsHeader (word bytes version_word) table before (header_at bytes at)
    next_is a = rest_next (tiles_from first.0 bytes (end_at at)) at before (subst (λ ts. Rest ts at before) first.2 (w.forth a))

    pub fits_is : HasTiles bytes table → (2 ≤ units_at bytes at) × (end_at at ≤ length bytes)
    fits_is a =
        let r = subst (λ ts. Rest ts at before) first.2 (w.forth a) in
        (r.fill.1, Fill-le (tiles_from first.0 bytes (end_at at)) (end_at at) (length bytes) r.fill.2)

    below_more : (ts : List Tile) (to : ℕ) → at < to → AllByRecursion (λ t. t.at < at) ts → AllByRecursion (λ t. t.at < to) (ts ++ tile_at at ∷ [])
    below_more [] to l b = (l, tt)
    below_more (t ∷ ts) to l b = (omega (arith, b.0), below_more ts to l b.1)

    pub tiled_more : 2 ≤ units_at bytes at → FollowsHeader (word bytes version_word) table before (header_at bytes at) → IsTiledTo (passed ++ tile_at at ∷ []) (end_at at) (header_at bytes at)
    tiled_more large next =
        let ts = tiles_from first.0 bytes (end_at at) in
        let enough = w.enough in
        let n_is = first.1 in
        record {
          n = first.0;
          all = w.all ∙ ap (λ xs. passed ++ xs) first.2 ∙ sym (append_assoc passed (tile_at at ∷ []) ts);
          enough = omega arith;
          forth = λ a. rest_tail ts at before (subst (λ xs. Rest xs at before) first.2 (w.forth a));
          back = λ r. w.back (subst (λ xs. Rest xs at before) (sym first.2) (rest_more ts at before large next r));
          below = below_more passed (end_at at) (omega arith) w.below;
        }

  -- ---- the walk's end

  module _ (passed : List Tile) (at : ℕ) (before : Header) (w : IsTiledTo passed at before) (end : at ≡ length bytes) where
    nothing_left : tiles_from w.n bytes at ≡ []
    nothing_left = no_tile w.n at (omega arith)

    pub tiles_right : HasTiles bytes table
    tiles_right = w.back (subst (λ ts. Rest ts at before) (sym nothing_left) (record { fill = end; headers = tt; apart = tt; ownable = tt; of_version = tt }))

    pub all_passed : tiles bytes ≡ passed
    all_passed = w.all ∙ ap (λ ts. passed ++ ts) nothing_left ∙ append-nil passed

  -- the free tiles are the gaps
  pub gaps_free : HasTiles bytes table → gaps bytes ≡ free_of (tiles bytes)
  unfolding live
  gaps_free t = gaps_between-live_of (tiles bytes) true heap_start (length bytes) t.filled t.apart

  -- ---- with the list of sequential fit

  pub record Walked (at : ℕ) (before : Header) (list : FreeList) : Type 0 where
    pub passed : List Tile
    pub tiled : IsTiledTo passed at before
    pub followed : KnowsGaps bytes list (free_of passed)
    pub low : heap_start ≤ at
    pub high : at ≤ length bytes
    pub aligned : at % 16 ≡ 0

  pub walked_none : (before : Header) (list : FreeList) → before.units ≡ 0 → before.is_live ≡ true → KnowsGaps bytes list [] → heap_start ≤ length bytes → (w : Walked heap_start before list) × (w.passed ≡ [])
  walked_none before list no_units is_live followed large = (
    record {
      passed = [];
      tiled = tiled_none before no_units is_live;
      followed = followed;
      low = omega arith;
      high = large;
      aligned = refl;
    },
    refl,
  )

  -- the free tiles of the passed tiles and the next one
  free_more : (passed : List Tile) (at : ℕ) (old new : FreeList) (b : Bool) → is_live_at bytes at ≡ b → (b ≡ true → new ≡ old) → (b ≡ false → KnowsGaps bytes old (free_of passed)
      → KnowsGaps bytes new (free_of passed ++ span_of (tile_at at) ∷ [])) → KnowsGaps bytes old (free_of passed)
      → KnowsGaps bytes new (free_of passed ++ cond b [] (span_of (tile_at at) ∷ []))
  free_more passed at old new true e same added followed = subst (λ gs. KnowsGaps bytes new gs) (sym (append-nil (free_of passed))) (subst (λ list. KnowsGaps bytes list (free_of passed)) (sym (same refl)) followed)
  free_more passed at old new false e same added followed = added refl followed

  pub walked_more : (at : ℕ) (before : Header) (old new : FreeList) (w : Walked at before old) → at < length bytes → 2 ≤ units_at bytes at
      → end_at at ≤ length bytes → FollowsHeader (word bytes version_word) table before (header_at bytes at)
      → (is_live_at bytes at ≡ true → new ≡ old)
      → (is_live_at bytes at ≡ false → (gs : List Span) → KnowsGaps bytes old gs → KnowsGaps bytes new (gs ++ span_of (tile_at at) ∷ []))
      → (more : Walked (end_at at) (header_at bytes at) new) × (more.passed ≡ w.passed ++ tile_at at ∷ [])
  walked_more at before old new w inside large fits next same added = (
    record {
      passed = w.passed ++ tile_at at ∷ [];
      tiled = tiled_more w.passed at before w.tiled inside large next;
      followed = subst (λ gs. KnowsGaps bytes new gs) (sym (free_of-append w.passed (tile_at at ∷ []))) (free_more w.passed at old new (is_live_at bytes at) refl same (λ e k. added e (free_of w.passed) k) w.followed);
      low = omega (arith, w.low);
      high = fits;
      aligned = omega (arith, w.aligned);
    },
    refl,
  )

  pub walked_all : (at : ℕ) (before : Header) (list : FreeList) (w : Walked at before list) → at ≡ length bytes → HasTiles bytes table × KnowsGaps bytes list (gaps bytes) × (tiles bytes ≡ w.passed)
  walked_all at before list w end =
      let right = tiles_right w.passed at before w.tiled end in
      let all = all_passed w.passed at before w.tiled end in
      let same : free_of w.passed ≡ gaps bytes = ap free_of (sym all) ∙ sym (gaps_free right) in
      (right, subst (λ gs. KnowsGaps bytes list gs) same w.followed, all)
