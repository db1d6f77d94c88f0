-- A write inside the payload of one allocated block. The heap stays well-formed, and all other
-- allocated blocks are kept.
use Rattle.std.proofs.Common.{◌≡◌, ◌≢◌, ℕ, ◌+◌, ◌*◌, ◌%◌, ◌≤◌, ◌⊎◌, inl, inr, ⊎_elim, true, false, List, [], ◌∷◌, length, cond, refl, sym, ap, ◌∙◌, subst, arith}
use Rattle.std.proofs.lemmas.Bool.{cases_eq, false≢true}
use Rattle.std.specs.List.{AllByRecursion}
use Rattle.seg_spec.specs.Bytes.{IsSame, ChangesOnly}
use Rattle.seg_spec.specs.Header.{free_word}
use Rattle.seg_spec.specs.Heap.{Span, Tile, span_of, units_at, tiles, Fill, AreHeaders, live_of, free_of, live, gaps, IsHeap, heap_start, KeepsTiles}
use Rattle.seg_spec.specs.Block.{IsInside, KeepsBlock, payload_size}
use Rattle.seg_spec.specs.Apart.{Separate}
use Rattle.seg_spec.specs.Sound.{times, positions}
use Rattle.seg_spec.proofs.SliceLaws.{IsSame-part}
use Rattle.seg_spec.proofs.Heap.TileLaws.{gaps_between-live_of}
use Rattle.seg_spec.proofs.Values.PlaceFrameLaws.{each_weaker, each_both, word-same}
use Rattle.seg_spec.proofs.Heap.LiveBlockLaws.{LiesIn, live_facts, there, live-lie, live-apart, times-other, OneOrApart}

pub each_free_tile : (P : Span → Type 0) (ts : List Tile) → AllByRecursion (λ t. t.live ≡ false → P (span_of t)) ts → AllByRecursion P (free_of ts)
each_free_tile P [] a = tt
each_free_tile P (t ∷ ts) a =
    let rest = each_free_tile P ts a.1 in
    elim t.live as (λ b. t.live ≡ b → AllByRecursion P (cond b (free_of ts) (span_of t ∷ free_of ts))) [ true ↦ (λ e. rest) | false ↦ (λ e. (a.0 e, rest)) ] refl

-- the tile is the block h, or doesn't overlap it
pub record Spot (bytes : List ℕ) (h : ℕ) (t : Tile) : Type 0 where
  pub size : 2 ≤ t.units
  pub one_or_apart : ((t.at ≡ h) × (t.live ≡ true)) ⊎ Separate t.at (16 * t.units) h (16 * units_at bytes h)

pub tiles_above : (ts : List Tile) (from to : ℕ) → Fill from ts to → AllByRecursion (λ t. (from ≤ t.at) × (2 ≤ t.units)) ts
tiles_above [] from to f = tt
tiles_above (t ∷ ts) from to f = ((omega (arith, f.0), f.1), each_weaker _ _ (λ s a. (omega (arith, a.0), a.1)) ts (tiles_above ts (from + 16 * t.units) to f.2))

module _ (bytes : List ℕ) (h : ℕ) where
  here_it_is : (t : Tile) (ts : List Tile) (to : ℕ) → t.at ≡ h → t.live ≡ true → 2 ≤ t.units → units_at bytes t.at ≡ t.units → Fill (t.at + 16 * t.units) ts to → AllByRecursion (Spot bytes h) (t ∷ ts)
  here_it_is t ts to at_is live_is size units f =
      let end : h + 16 * units_at bytes h ≡ t.at + 16 * t.units = ap (λ p. p + 16 * units_at bytes p) (sym at_is) ∙ ap (λ u. t.at + 16 * u) units in (
        record { size = size; one_or_apart = inl (at_is, live_is) },
        each_weaker _ _ (λ s a. record { size = a.1; one_or_apart = inr (inr (omega (arith, a.0, end))) }) ts (tiles_above ts (t.at + 16 * t.units) to f),
      )

  not_here : (t : Tile) (to : ℕ) (hs : List ℕ) → 2 ≤ t.units → AllByRecursion (LiesIn bytes (t.at + 16 * t.units) to) hs → 1 ≤ times h hs → Spot bytes h t
  not_here t to hs size lies some =
      let l = there (LiesIn bytes (t.at + 16 * t.units) to) h hs lies some in
      record { size = size; one_or_apart = inr (inl (omega (arith, l.low))) }

  pub spots : (ts : List Tile) (from to before : ℕ) → from % 16 ≡ 0 → Fill from ts to → AreHeaders bytes before ts → 1 ≤ times h (positions (live_of ts)) → AllByRecursion (Spot bytes h) ts
  spots [] from to before aligned f hs some = tt
  spots (t ∷ ts) from to before aligned f hs some =
      let lies = (live_facts bytes ts (from + 16 * t.units) to t.units (omega arith) f.2 hs.1).lie in
      let at_is : t.at ≡ from = f.0 in
      let fill : Fill (t.at + 16 * t.units) ts to = subst (λ p. Fill (p + 16 * t.units) ts to) (sym at_is) f.2 in
      let lies' : AllByRecursion (LiesIn bytes (t.at + 16 * t.units) to) (positions (live_of ts)) = subst (λ p. AllByRecursion (LiesIn bytes (p + 16 * t.units) to) (positions (live_of ts))) (sym at_is) lies in
      let rest = λ (n : 1 ≤ times h (positions (live_of ts))). spots ts (from + 16 * t.units) to t.units (omega arith) f.2 hs.1 n in
      let later = λ (n : 1 ≤ times h (positions (live_of ts))). let both : Spot bytes h t × AllByRecursion (Spot bytes h) ts = (not_here t to (positions (live_of ts)) f.1 lies' n, rest n) in both in
      elim t.live as (λ b. t.live ≡ b → 1 ≤ times h (positions (cond b (span_of t ∷ live_of ts) (live_of ts))) → Spot bytes h t × AllByRecursion (Spot bytes h) ts) [
        | true ↦ (λ e n. ⊎_elim (λ same. here_it_is t ts to same e f.1 hs.0.units_is fill) (λ other. later (omega (arith, times-other h t.at (positions (live_of ts)) other))) (cases_eq t.at h))
        | false ↦ (λ e n. later n)
      ] refl some

module _ (old new : List ℕ) (at m : ℕ) (changes : ChangesOnly old new at m) (allocator : ℕ) (heap : IsHeap allocator old) (h : ℕ) (inside : IsInside old h at m) (owned : 1 ≤ times h (positions (live old))) where
  all_spots : AllByRecursion (Spot old h) (tiles old)
  unfolding live
  all_spots = spots old h (tiles old) heap_start (length old) 0 (omega arith) heap.filled heap.headers owned

  pub the_block : LiesIn old heap_start (length old) h
  the_block = there _ h (positions (live old)) (live-lie old allocator heap) owned

  header_kept : (t : Tile) → Spot old h t → IsSame old new t.at 16
  header_kept t s = changes.others t.at 16 (go s.one_or_apart)
    where
      go : ((t.at ≡ h) × (t.live ≡ true)) ⊎ Separate t.at (16 * t.units) h (16 * units_at old h) → (t.at + 16 ≤ at) ⊎ (at + m ≤ t.at)
      go (inl e) = inl (omega (arith, inside.low, e.0))
      go (inr (inl l)) = inl (omega (arith, inside.low, s.size))
      go (inr (inr r)) = inr (omega (arith, inside.high))

  free_kept : (t : Tile) → Spot old h t → t.live ≡ false → IsSame old new (t.at + 16) 16
  free_kept t s free = changes.others (t.at + 16) 16 (go s.one_or_apart)
    where
      go : ((t.at ≡ h) × (t.live ≡ true)) ⊎ Separate t.at (16 * t.units) h (16 * units_at old h) → (t.at + 16 + 16 ≤ at) ⊎ (at + m ≤ t.at + 16)
      go (inl e) = absurd (false≢true (sym free ∙ e.1))
      go (inr (inl l)) = inl (omega (arith, inside.low, s.size))
      go (inr (inr r)) = inr (omega (arith, inside.high))

  gaps_free : gaps old ≡ free_of (tiles old)
  unfolding live
  gaps_free = gaps_between-live_of (tiles old) true heap_start (length old) heap.filled heap.apart

  pub tiles_kept : KeepsTiles old new
  tiles_kept = record {
    length_kept = changes.length_kept;
    root_kept = changes.others free_word 4 (inl (omega (arith, the_block.low, inside.low)));
    headers_kept = each_weaker _ _ (λ t s. header_kept t s) (tiles old) all_spots;
    free_kept = subst (λ gs. AllByRecursion (λ g. IsSame old new (g.at + 16) 16) gs) (sym gaps_free) (each_free_tile _ (tiles old) (each_weaker _ _ (λ t s free. free_kept t s free) (tiles old) all_spots));
  }

  pub low_kept : (p n : ℕ) → p + n ≤ heap_start → IsSame old new p n
  low_kept p n fits = changes.others p n (inl (omega (arith, the_block.low, inside.low)))

  -- an allocated block other than h is kept
  pub record KeptBut (x : ℕ) : Type 0 where
    pub solid : 2 ≤ units_at old x
    pub units_kept : units_at new x ≡ units_at old x
    pub kept : x ≢ h → KeepsBlock old new x
    pub outside : (p n : ℕ) → p + n ≤ x + 16 → x ≤ p → IsSame old new p n

  kept_but : (x : ℕ) → LiesIn old heap_start (length old) x → OneOrApart old h x → KeptBut x
  kept_but x l o =
      let header : IsSame old new x 16 = changes.others x 16 (off o) in
      let size = word-same old new x (IsSame-part old new x 16 x 4 (omega arith) (omega arith) header) in
      record {
        solid = l.size;
        units_kept = rw size refl;
        kept = λ other. record {
          live = rw size refl;
          has_tag = word-same old new (x + 8) (IsSame-part old new x 16 (x + 8) 4 (omega arith) (omega arith) header);
          room = rw size (omega arith);
          payload = changes.others (x + 16) (payload_size old x) (wholly o other);
        };
        outside = λ p n high low. IsSame-part old new x 16 p n low high header;
      }
    where
      off : OneOrApart old h x → (x + 16 ≤ at) ⊎ (at + m ≤ x)
      off (inl e) = inl (omega (arith, inside.low, e))
      off (inr (inl s)) = inr (omega (arith, inside.high))
      off (inr (inr s)) = inl (omega (arith, inside.low, l.size))

      wholly : OneOrApart old h x → x ≢ h → (x + 16 + payload_size old x ≤ at) ⊎ (at + m ≤ x + 16)
      wholly (inl e) other = absurd (other e)
      wholly (inr (inl s)) other = inr (omega (arith, inside.high))
      wholly (inr (inr s)) other = inl (omega (arith, inside.low, l.size))

  pub live_kept_but : AllByRecursion KeptBut (positions (live old))
  live_kept_but =
      let mine = there (λ t. AllByRecursion (OneOrApart old t) (positions (live old))) h (positions (live old)) (live-apart old allocator heap) owned in
      each_both _ _ _ (λ x l o. kept_but x l o) (positions (live old)) (live-lie old allocator heap) mine
