-- Free blocks in the order of best fit.
use Rattle.std.proofs.Common.{◌≡◌, ◌≢◌, ℕ, ◌+◌, ◌*◌, ◌<◌, ◌≤◌, ◌⊎◌, inl, inr, ⊎_elim, true, false, cond, List, [], ◌∷◌, ◌++◌, length, map, Some, MatchOption, refl, sym, ap, ◌∙◌, subst, arith}
use Rattle.std.specs.Prelude.{⊤}
use Rattle.std.specs.List.{AllByRecursion}
use Rattle.std.proofs.lemmas.Bool.{cases_eq}
use Rattle.std.proofs.lemmas.List.{map-append, length-append}
use Rattle.seg_spec.specs.Heap.{Tile, Span, span_of, units_at, Fill, AreHeaders, free_of, is_smaller, insert_by_size, by_size, AreBySize}
use Rattle.seg_spec.specs.Sound.{times, SameBlocks, positions}
use Rattle.seg_spec.proofs.Heap.GapOrderLaws.{smaller_is, is_smaller_if, by_size-middle}
use Rattle.seg_spec.proofs.Heap.LiveBlockLaws.{times-append, times-same, times-other, none_there}
use Rattle.seg_spec.proofs.Values.PlaceFrameLaws.{each_weaker}
use Rattle.seg_check.specs.Marks.{Within}
use Rattle.seg_check.specs.Walks.{span_at, last_block, AreOrdered}
use Rattle.seg_check.proofs.SameLengthLaws.{splits}

-- ---- the free tiles

module _ (bytes : List ℕ) where
  -- a free block at or above a position, with its size
  pub record IsFreeFrom (from : ℕ) (g : Span) : Type 0 where
    pub low : from ≤ g.at
    pub units_are : units_at bytes g.at ≡ g.units

  pub record FreeFacts (from to : ℕ) (gs : List Span) : Type 0 where
    pub lie : AllByRecursion (IsFreeFrom from) gs
    pub once : (h : ℕ) → times h (positions gs) ≤ 1
    pub few : from + 32 * length gs ≤ to

  lower : (from more : ℕ) (gs : List Span) → AllByRecursion (IsFreeFrom (from + more)) gs → AllByRecursion (IsFreeFrom from) gs
  lower from more gs a = each_weaker _ _ (λ (g : Span) f. record { low = omega (arith, f.low); units_are = f.units_are }) gs a

  none_below : (from at : ℕ) (gs : List Span) → at < from → AllByRecursion (IsFreeFrom from) gs → times at (positions gs) ≡ 0
  none_below from at [] l a = refl
  none_below from at (g ∷ gs) l a = times-other at g.at (positions gs) (λ e. absurd (omega (arith, a.0.low, e))) ∙ none_below from at gs l a.1

  pub free_facts : (ts : List Tile) (from to before : ℕ) → Fill from ts to → AreHeaders bytes before ts → FreeFacts from to (free_of ts)
  free_facts [] from to before f h = record { lie = tt; once = (λ p. omega arith); few = omega (arith, f) }
  free_facts (t ∷ ts) from to before f h =
      let rest = free_facts ts (from + 16 * t.units) to t.units f.2 h.1 in
      let two = f.1 in
      elim t.live as (λ b. FreeFacts from to (cond b (free_of ts) (span_of t ∷ free_of ts))) [
        | true ↦ record { lie = lower from (16 * t.units) (free_of ts) rest.lie; once = rest.once; few = omega (arith, rest.few) }
        | false ↦ record {
          lie = (record { low = omega (arith, f.0); units_are = h.0.units_is }, lower from (16 * t.units) (free_of ts) rest.lie);
          once = (λ p. one p rest.once (none_below (from + 16 * t.units) t.at (free_of ts) (omega (arith, f.0, f.1)) rest.lie));
          few = omega (arith, rest.few);
        }
      ]
    where
      one : (p : ℕ) → ((h : ℕ) → times h (positions (free_of ts)) ≤ 1) → times t.at (positions (free_of ts)) ≡ 0 → times p (t.at ∷ positions (free_of ts)) ≤ 1
      one p once none = ⊎_elim
          (λ e. subst (λ x. times x (t.at ∷ positions (free_of ts)) ≤ 1) e (omega (arith, times-same t.at (positions (free_of ts)), none)))
          (λ ne. omega (arith, times-other p t.at (positions (free_of ts)) ne, once p)) (cases_eq t.at p)

  -- the span at each position is the span of the list
  pub spans_at : (from : ℕ) (gs : List Span) → AllByRecursion (IsFreeFrom from) gs → map (span_at bytes) (positions gs) ≡ gs
  spans_at from [] a = refl
  spans_at from (g ∷ gs) a = let here : span_at bytes g.at ≡ g = (λ i. record { at = g.at; units = a.0.units_are i }) in ap (λ x. x ∷ map (span_at bytes) (positions gs)) here ∙ ap (λ xs. g ∷ xs) (spans_at from gs a.1)

  -- ---- sorting

  pub same_order : (ps qs : List ℕ) → SameBlocks ps qs → by_size (map (span_at bytes) ps) ≡ by_size (map (span_at bytes) qs)
  same_order [] [] s = refl
  same_order [] (q ∷ qs) s = absurd (omega (arith, s q, times-same q qs))
  same_order (p ∷ ps) qs s =
      let cut = splits p qs (omega (arith, s p, times-same p ps)) in
      let rest : SameBlocks ps (cut.before ++ cut.after) = (λ h.
      let here = s h in
      let mine = times-append h (p ∷ []) ps in
      let there : times h qs ≡ times h cut.before + times h (p ∷ cut.after) = ap (times h) cut.parts ∙ times-append h cut.before (p ∷ cut.after) in
      let own = times-append h (p ∷ []) cut.after in
      let apart = times-append h cut.before cut.after in
      omega arith) in
      ap (insert_by_size (span_at bytes p)) (same_order ps (cut.before ++ cut.after) rest ∙ ap by_size (map-append (span_at bytes) cut.before cut.after))
      ∙ sym (by_size-middle (map (span_at bytes) cut.before) (span_at bytes p) (map (span_at bytes) cut.after))
      ∙ ap by_size (sym (ap (map (span_at bytes)) cut.parts ∙ map-append (span_at bytes) cut.before (p ∷ cut.after)))

  -- ---- blocks in order, with one block more

  pub ordered_back : (bs : List ℕ) (b : ℕ) → AreOrdered bytes bs → MatchOption (last_block bs) ⊤ (λ l. is_smaller (span_at bytes l) (span_at bytes b) ≡ true) → AreOrdered bytes (bs ++ b ∷ [])
  ordered_back [] b a l = tt
  ordered_back (x ∷ []) b a l = (l, tt)
  ordered_back (x ∷ y ∷ bs) b a l = (a.0, ordered_back (y ∷ bs) b a.1 l)

  pub ordered_last : (bs : List ℕ) (b : ℕ) (more : List ℕ) → AreOrdered bytes (bs ++ b ∷ more) → MatchOption (last_block bs) ⊤ (λ l. is_smaller (span_at bytes l) (span_at bytes b) ≡ true)
  ordered_last [] b more a = tt
  ordered_last (x ∷ []) b more a = a.0
  ordered_last (x ∷ y ∷ bs) b more a = ordered_last (y ∷ bs) b more a.1

pub last_more : (bs : List ℕ) (b : ℕ) → last_block (bs ++ b ∷ []) ≡ Some b
last_more [] b = refl
last_more (x ∷ []) b = refl
last_more (x ∷ y ∷ bs) b = last_more (y ∷ bs) b

-- ---- lists in order

pub in_order : (gs : List Span) → AreBySize gs → by_size gs ≡ gs
in_order [] a = refl
in_order (g ∷ []) a = refl
in_order (g ∷ h ∷ hs) a = ap (insert_by_size g) (in_order (h ∷ hs) a.1) ∙ ap (λ b. cond b (g ∷ h ∷ hs) (h ∷ insert_by_size g hs)) a.0

before_trans : (f g h : Span) → is_smaller f g ≡ true → is_smaller g h ≡ true → is_smaller f h ≡ true
before_trans f g h a b = is_smaller_if f h (go (smaller_is f g a) (smaller_is g h b))
  where
    go : (f.units < g.units) ⊎ ((f.units ≡ g.units) × (f.at < g.at)) → (g.units < h.units) ⊎ ((g.units ≡ h.units) × (g.at < h.at)) → (f.units < h.units) ⊎ ((f.units ≡ h.units) × (f.at < h.at))
    go (inl a) (inl b) = inl (omega arith)
    go (inl a) (inr b) = inl (omega (arith, b.0))
    go (inr a) (inl b) = inl (omega (arith, a.0))
    go (inr a) (inr b) = inr (a.0 ∙ b.0, omega (arith, a.1, b.1))

before_other : (g h : Span) → is_smaller g h ≡ true → g.units ≡ h.units → h.at ≢ g.at
before_other g h a same e = go (smaller_is g h a)
  where
    go : (g.units < h.units) ⊎ ((g.units ≡ h.units) × (g.at < h.at)) → ⊥
    go (inl l) = absurd (omega (arith, same))
    go (inr l) = absurd (omega (arith, l.1, e))

module _ (bytes : List ℕ) where
  all_above : (b : ℕ) (bs : List ℕ) → AreOrdered bytes (b ∷ bs) → AllByRecursion (λ x. is_smaller (span_at bytes b) (span_at bytes x) ≡ true) bs
  all_above b [] a = tt
  all_above b (x ∷ bs) a = (a.0, each_weaker _ _ (λ y s. before_trans (span_at bytes b) (span_at bytes x) (span_at bytes y) a.0 s) bs (all_above x bs a.1))

  tail : (b : ℕ) (bs : List ℕ) → AreOrdered bytes (b ∷ bs) → AreOrdered bytes bs
  tail b [] a = tt
  tail b (x ∷ bs) a = a.1

  -- blocks in order contain no block twice
  pub ordered_once : (bs : List ℕ) → AreOrdered bytes bs → (h : ℕ) → times h bs ≤ 1
  ordered_once [] a h = omega arith
  ordered_once (b ∷ bs) a h =
      let rest = ordered_once bs (tail b bs a) in
      let none : times b bs ≡ 0 = none_there b bs (each_weaker _ _ (λ x s e. before_other (span_at bytes b) (span_at bytes x) s (ap (units_at bytes) (sym e)) e) bs (all_above b bs a)) in
      ⊎_elim (λ e. subst (λ x. times x (b ∷ bs) ≤ 1) e (omega (arith, times-same b bs, none))) (λ ne. omega (arith, times-other h b bs ne, rest h)) (cases_eq b h)

-- if one list is within another, and both have the same length, both have the same blocks
pub all_within : (xs ys : List ℕ) → Within xs ys → length xs ≡ length ys → SameBlocks xs ys
all_within [] [] w n h = refl
all_within [] (y ∷ ys) w n h = absurd (omega (arith, n))
all_within (x ∷ xs) ys w n h =
    let cut = splits x ys (omega (arith, w x, times-same x xs)) in
    let rest : Within xs (cut.before ++ cut.after) = (λ h.
    let here = w h in
    let mine = times-append h (x ∷ []) xs in
    let there : times h ys ≡ times h cut.before + times h (x ∷ cut.after) = ap (times h) cut.parts ∙ times-append h cut.before (x ∷ cut.after) in
    let own = times-append h (x ∷ []) cut.after in
    let apart = times-append h cut.before cut.after in
    omega arith) in
    let long : length ys ≡ length cut.before + length (x ∷ cut.after) = ap length cut.parts ∙ length-append cut.before (x ∷ cut.after) in
    let same = all_within xs (cut.before ++ cut.after) rest (omega (arith, n, long, length-append cut.before cut.after)) h in
    let mine = times-append h (x ∷ []) xs in
    let there : times h ys ≡ times h cut.before + times h (x ∷ cut.after) = ap (times h) cut.parts ∙ times-append h cut.before (x ∷ cut.after) in
    let own = times-append h (x ∷ []) cut.after in
    let apart = times-append h cut.before cut.after in
    omega arith
