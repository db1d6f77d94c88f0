-- The cell of a list and its nodes lie in different allocated blocks.
use Rattle.std.proofs.Common.{◌≡◌, ◌≢◌, ℕ, ◌+◌, ◌%◌, ◌≤◌, inl, inr, ⊎_elim, List, ◌∷◌, length, map, sym, subst, arith}
use Rattle.std.specs.List.{AllByRecursion}
use Rattle.std.proofs.lemmas.Bool.{cases_eq, cases_lt}
use Rattle.seg_spec.specs.Bytes.{IsSame}
use Rattle.seg_spec.specs.Heap.{Span, live, IsHeap, heap_start}
use Rattle.seg_spec.specs.Block.{IsInside, KeepsBlock, block_of, payload_size}
use Rattle.seg_spec.specs.Apart.{Separate, KeepsBlockAround}
use Rattle.seg_spec.specs.Sound.{times, positions}
use Rattle.seg_spec.proofs.Heap.BlockCountLaws.{few_live, no_more}
use Rattle.seg_spec.proofs.Heap.NodeBlockLaws.{times_mapped}
use Rattle.std.proofs.lemmas.List.{length-map}
use Rattle.seg_spec.proofs.Heap.LiveBlockLaws.{times-same, times-other, times-more, there, each_there, LiesIn, live-lie, live-apart, live-once, OneOrApart}
use Rattle.seg_seq.specs.Rings.{AreSpread, ChangesAt}
use Rattle.seg_seq.proofs.SeveralWriteLaws.{HasHome, part_same, block_same, header_same}

module _ (allocator : ℕ) (bytes : List ℕ) (heap : IsHeap allocator bytes) (cell home : ℕ) (inside : IsInside bytes home cell 8) (even : cell % 8 ≡ 0) (nodes : List ℕ) (low : AllByRecursion (λ p. 16 ≤ p) nodes)
    (owned : (h : ℕ) → times h (home ∷ map block_of nodes) ≤ times h (positions (live bytes))) where
  lies : (h : ℕ) → 1 ≤ times h (positions (live bytes)) → LiesIn bytes heap_start (length bytes) h
  lies h some = there (LiesIn bytes heap_start (length bytes)) h (positions (live bytes)) (live-lie bytes allocator heap) some

  pub home_live : 1 ≤ times home (positions (live bytes))
  home_live = let o = owned home in let t = times-same home (map block_of nodes) in omega arith

  home_alone : times home (map block_of nodes) ≡ 0
  home_alone = let o = owned home in let t = times-same home (map block_of nodes) in let once = live-once bytes allocator heap home in omega arith

  pub node_live : (p : ℕ) → 1 ≤ times p nodes → 1 ≤ times (block_of p) (positions (live bytes))
  node_live p some = let o = owned (block_of p) in let m = times_mapped p nodes in let k = times-more (block_of p) home (map block_of nodes) in omega arith

  node_low : (p : ℕ) → 1 ≤ times p nodes → 16 ≤ p
  node_low p some = there (λ q. 16 ≤ q) p nodes low some

  pub node_inside : (p : ℕ) → 1 ≤ times p nodes → IsInside bytes (block_of p) p 8
  node_inside p some = let l = lies (block_of p) (node_live p some) in let n = node_low p some in let two = l.size in record { low = omega arith; high = omega arith }

  node_other : (p : ℕ) → 1 ≤ times p nodes → block_of p ≢ home
  node_other p some e =
      let m = times_mapped p nodes in
      let none : times (block_of p) (map block_of nodes) ≡ 0 = subst (λ h. times h (map block_of nodes) ≡ 0) (sym e) home_alone in
      absurd (omega arith)

  -- 8 bytes lie in one allocated block only
  one_home : (h k p : ℕ) → 1 ≤ times h (positions (live bytes)) → 1 ≤ times k (positions (live bytes)) → IsInside bytes h p 8 → IsInside bytes k p 8 → h ≡ k
  one_home h k p a b i j = go (there (OneOrApart bytes k) h (positions (live bytes)) (there (λ t. AllByRecursion (OneOrApart bytes t) (positions (live bytes))) k (positions (live bytes)) (live-apart bytes allocator heap) b) a)
    where
      go : OneOrApart bytes k h → h ≡ k
      go (inl e) = e
      go (inr (inl l)) = absurd (omega (arith, i.low, j.high))
      go (inr (inr l)) = absurd (omega (arith, i.high, j.low))

  -- the cell's position differs from the position of each node
  cell_other : (p : ℕ) → 1 ≤ times p nodes → p ≢ cell
  cell_other p some e =
      node_other p some (one_home (block_of p) home p (node_live p some) home_live (node_inside p some) (subst (λ q. IsInside bytes home q 8) (sym e) inside))

  once : (h : ℕ) → times h nodes ≤ 1
  once h = let m = times_mapped h nodes in let o = owned (block_of h) in let k = times-more (block_of h) home (map block_of nodes) in let l = live-once bytes allocator heap (block_of h) in omega arith

  pub are_spread : AreSpread bytes (cell ∷ nodes)
  are_spread = record {
    small = heap.small;
    few = let l = no_more (home ∷ map block_of nodes) (positions (live bytes)) owned in
        let m = length-map nodes block_of in
        let n = length-map (live bytes) (λ (b : Span). b.at) in
        let f = few_live allocator bytes heap in
        omega arith;
    fit = (
      (even, let l = lies home home_live in omega (arith, l.high, inside.high)),
      each_there (λ p. (p % 8 ≡ 0) × (p + 8 ≤ length bytes)) nodes
          (λ p some. let l = lies (block_of p) (node_live p some) in let i = node_inside p some in let n = node_low p some in let a = l.aligned in let h = l.high in let j = i.high in (omega arith, omega arith)),
    );
    once = λ h. ⊎_elim
        (λ e. let t = times-same cell nodes in let z : times h (cell ∷ nodes) ≡ 1 + times h nodes = subst (λ k. times k (cell ∷ nodes) ≡ 1 + times k nodes) e t in
        ⊎_elim (λ none. omega arith) (λ some. absurd (cell_other h some (sym e))) (cases_lt (times h nodes) 1))
        (λ ne. let t = times-other h cell nodes ne in let o = once h in omega arith) (cases_eq cell h);
  }

  pub are_home : AllByRecursion (HasHome bytes) (cell ∷ nodes)
  are_home = (
    record { home = home; inside = inside; home_live = home_live },
    each_there (HasHome bytes) nodes (λ p some. record { home = block_of p; inside = node_inside p some; home_live = node_live p some }),
  )

  -- ---- only the cell and the links of the nodes change

  module _ (new : List ℕ) (changes : ChangesAt bytes new (cell ∷ nodes)) where
    -- all other blocks are kept
    pub other_kept : (h : ℕ) → 1 ≤ times h (positions (live bytes)) → h ≢ home → times h (map block_of nodes) ≡ 0 → KeepsBlock bytes new h
    other_kept h some ne none = block_same allocator bytes new (cell ∷ nodes) heap changes are_home h some away
      where
        away : (p : ℕ) → 1 ≤ times p (cell ∷ nodes) → IsInside bytes h p 8 → ⊥
        away p is i = ⊎_elim
            (λ e. ne (one_home h home p some home_live i (subst (λ q. IsInside bytes home q 8) e inside)))
            (λ other.
            let among : 1 ≤ times p nodes = let t = times-other p cell nodes other in omega arith in
            let same = one_home h (block_of p) p some (node_live p among) i (node_inside p among) in
            let m = times_mapped p nodes in
            let z : times (block_of p) (map block_of nodes) ≡ 0 = subst (λ k. times k (map block_of nodes) ≡ 0) same none in
            absurd (omega arith)) (cases_eq cell p)

    -- the block of the cell is kept around the cell
    pub home_kept : KeepsBlockAround bytes new cell 8 home
    home_kept =
        let l = lies home home_live in
        record {
          solid = omega (arith, l.size);
          header = header_same allocator bytes new (cell ∷ nodes) heap changes are_home home home_live;
          payload = λ q m from to apart. part_same allocator bytes new (cell ∷ nodes) heap changes are_home home home_live q m (omega arith) (omega (arith, l.size)) (λ p is i. ⊎_elim
              (λ e. subst (λ k. Separate q m k 8) e apart)
              (λ other.
              let among : 1 ≤ times p nodes = let t = times-other p cell nodes other in omega arith in
              absurd (node_other p among (sym (one_home home (block_of p) p home_live (node_live p among) i (node_inside p among))))) (cases_eq cell p));
        }

    -- the value in a node is kept
    pub value_kept : (q n : ℕ) → 1 ≤ times q nodes → 8 + n ≤ payload_size bytes (block_of q) → IsSame bytes new (q + 8) n
    value_kept q n some room =
        let low_q = node_low q some in
        let l = lies (block_of q) (node_live q some) in
        part_same allocator bytes new (cell ∷ nodes) heap changes are_home (block_of q) (node_live q some) (q + 8) n (omega arith) (omega (arith, l.size)) (λ p is i. ⊎_elim
        (λ e. absurd (node_other q some (one_home (block_of q) home p (node_live q some) home_live i (subst (λ k. IsInside bytes home k 8) e inside))))
        (λ other.
        let among : 1 ≤ times p nodes = let t = times-other p cell nodes other in omega arith in
        let same = one_home (block_of q) (block_of p) p (node_live q some) (node_live p among) i (node_inside p among) in
        let low_p = node_low p among in
        inr (omega arith)) (cases_eq cell p))
