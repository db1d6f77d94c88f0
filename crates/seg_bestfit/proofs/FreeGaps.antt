-- Free blocks by ascending position, as the tree needs them: their nodes have room and don't
-- overlap.
use Rattle.std.proofs.Common.{◌≡◌, ◌≢◌, ℕ, suc, ◌+◌, ◌*◌, ◌^◌, ◌<◌, ◌≤◌, ◌⊎◌, inl, inr, ⊎_elim, true, false, List, [], ◌∷◌, ◌++◌, length, map, cond, refl, ap, ◌∙◌, subst, arith}
use Rattle.std.specs.List.{AllByRecursion}
use Rattle.std.proofs.lemmas.List.{length-map}
use Rattle.seg_spec.specs.Apart.{Separate}
use Rattle.seg_spec.specs.Heap.{Span, end_of, is_smaller, insert_by_size, by_size, AreBySize}
use Rattle.seg_spec.specs.Sound.{times, positions}
use Rattle.seg_spec.proofs.Values.PlaceFrameLaws.{each_map, each_weaker, each_both, each_right}
use Rattle.seg_spec.proofs.Heap.GapOrderLaws.{AreRisingSpans, by_size-in_order}
use Rattle.seg_spec.proofs.Heap.HeapFrameLaws.{each_by_size}
use Rattle.seg_spec.proofs.Heap.LiveBlockLaws.{times-same, times-other, none_there}
use Rattle.seg_block.specs.FreeBlocks.{AreFreeBlocks}
use Rattle.seg_rbtree.specs.Changes.{NodesApart, StandApart}
use Rattle.seg_bestfit.proofs.SizeOrder.{node_of, HasSize}
use Rattle.std.proofs.lemmas.Bool.{cases_eq}

-- the headers and first units of two gaps don't overlap
abbrev pub AreSeparate : Span → Span → Type 0
AreSeparate g h = Separate g.at 32 h.at 32

pub turned : (g h : Span) → AreSeparate g h → AreSeparate h g
turned g h (inl l) = inr l
turned g h (inr l) = inl l

abbrev pub GapsApart : List Span → Type 0
GapsApart [] = Unit {0}
GapsApart (g ∷ gs) = AllByRecursion (AreSeparate g) gs × GapsApart gs

-- the position and the header of a gap
pub record Stands (bytes : List ℕ) (g : Span) : Type 0 where
  pub low : 704 ≤ g.at
  pub fits : g.at + 32 ≤ length bytes
  pub sized : HasSize bytes g

module _ (bytes : List ℕ) where
  pub each_stands : (from : ℕ) (gs : List Span) → 704 ≤ from → AreFreeBlocks bytes from gs → AllByRecursion (Stands bytes) gs
  each_stands from [] low a = tt
  each_stands from (g ∷ gs) low a = (
    record { low = omega (arith, a.0); fits = omega (arith, a.1.large, a.1.inside); sized = a.1.size_is },
    each_stands (end_of g) gs (omega (arith, a.0)) a.2,
  )

  each_above : (from : ℕ) (gs : List Span) → AreFreeBlocks bytes from gs → AllByRecursion (λ (h : Span). from ≤ h.at) gs
  each_above from [] a = tt
  each_above from (g ∷ gs) a = (a.0, each_weaker (λ (h : Span). end_of g ≤ h.at) (λ h. from ≤ h.at) (λ h l. omega (arith, a.0, l)) gs (each_above (end_of g) gs a.2))

  pub free_apart : (from : ℕ) (gs : List Span) → AreFreeBlocks bytes from gs → GapsApart gs
  free_apart from [] a = tt
  free_apart from (g ∷ gs) a = (each_weaker (λ (h : Span). end_of g ≤ h.at) (AreSeparate g) (λ h l. inl (omega (arith, a.1.large, l))) gs (each_above (end_of g) gs a.2), free_apart (end_of g) gs a.2)

  pub free_rising : (from : ℕ) (gs : List Span) → AreFreeBlocks bytes from gs → AreRisingSpans gs
  free_rising from [] a = tt
  free_rising from (g ∷ gs) a = (each_weaker (λ (h : Span). end_of g ≤ h.at) (λ h. g.at < h.at) (λ h l. omega (arith, a.1.large, l)) gs (each_above (end_of g) gs a.2), free_rising (end_of g) gs a.2)

  pub free_few : (from : ℕ) (gs : List Span) → from ≤ length bytes → AreFreeBlocks bytes from gs → from + 32 * length gs ≤ length bytes
  free_few from [] le a = omega arith
  free_few from (g ∷ gs) le a = let rest = free_few (end_of g) gs a.1.inside a.2 in omega (arith, a.0, a.1.large, rest)

  free_from : (low from : ℕ) (gs : List Span) → low ≤ from → AreFreeBlocks bytes from gs → AreFreeBlocks bytes low gs
  free_from low from [] le a = tt
  free_from low from (g ∷ gs) le a = (omega (arith, a.0), a.1, a.2)

  pub free_drop : (from : ℕ) (xs : List Span) (g : Span) (ys : List Span) → AreFreeBlocks bytes from (xs ++ g ∷ ys) → AreFreeBlocks bytes from (xs ++ ys)
  free_drop from [] g ys a = free_from from (end_of g) ys (omega (arith, a.0)) a.2
  free_drop from (x ∷ xs) g ys a = (a.0, a.1, free_drop (end_of x) xs g ys a.2)

  pub free_drops : (from : ℕ) (xs gs ys : List Span) → AreFreeBlocks bytes from (xs ++ (gs ++ ys)) → AreFreeBlocks bytes from (xs ++ ys)
  free_drops from xs [] ys a = a
  free_drops from xs (g ∷ gs) ys a = free_drops from xs gs ys (free_drop from xs g (gs ++ ys) a)

-- ---- one gap moved to the front

pub to_front : (xs : List Span) (g : Span) (ys : List Span) → GapsApart (xs ++ g ∷ ys) → GapsApart (g ∷ (xs ++ ys))
to_front [] g ys a = a
to_front (x ∷ xs) g ys a =
    let rest = to_front xs g ys a.1 in
    let beside_g = (each_right (AreSeparate x) xs (g ∷ ys) a.0).0 in
    ((turned x g beside_g, rest.0), (each_without (AreSeparate x) xs g ys a.0, rest.1))
  where
    each_without : (P : Span → Type 0) (xs : List Span) (g : Span) (ys : List Span) → AllByRecursion P (xs ++ g ∷ ys) → AllByRecursion P (xs ++ ys)
    each_without P [] g ys a = a.1
    each_without P (x ∷ xs) g ys a = (a.0, each_without P xs g ys a.1)

pub each_drop : (P : Span → Type 0) (xs : List Span) (g : Span) (ys : List Span) → AllByRecursion P (xs ++ g ∷ ys) → AllByRecursion P (xs ++ ys)
each_drop P [] g ys a = a.1
each_drop P (x ∷ xs) g ys a = (a.0, each_drop P xs g ys a.1)

pub each_drops : (P : Span → Type 0) (xs gs ys : List Span) → AllByRecursion P (xs ++ (gs ++ ys)) → AllByRecursion P (xs ++ ys)
each_drops P xs [] ys a = a
each_drops P xs (g ∷ gs) ys a = each_drops P xs gs ys (each_drop P xs g (gs ++ ys) a)

pub each_pick : (P : Span → Type 0) (xs : List Span) (g : Span) (ys : List Span) → AllByRecursion P (xs ++ g ∷ ys) → P g
each_pick P [] g ys a = a.0
each_pick P (x ∷ xs) g ys a = each_pick P xs g ys a.1

pub each_put : (P : Span → Type 0) (xs : List Span) (g : Span) (ys : List Span) → P g → AllByRecursion P (xs ++ ys) → AllByRecursion P (xs ++ g ∷ ys)
each_put P [] g ys p a = (p, a)
each_put P (x ∷ xs) g ys p a = (a.0, each_put P xs g ys p a.1)

-- ---- their nodes, in order of size

nodes_inserted : (g : Span) (hs : List Span) → AllByRecursion (AreSeparate g) hs → NodesApart (map node_of hs) → NodesApart (map node_of (insert_by_size g hs))
nodes_inserted g [] a n = (tt, tt)
nodes_inserted g (h ∷ hs) a n =
    let rest = nodes_inserted g hs a.1 n.1 in
    let all : AllByRecursion (λ y. Separate (node_of g) 16 y 16) (map node_of (h ∷ hs)) = each_map (λ y. Separate (node_of g) 16 y 16) node_of (h ∷ hs)
    (each_weaker (AreSeparate g) (λ k. Separate (node_of g) 16 (node_of k) 16) (λ k s. nodes_separate g k s) (h ∷ hs) a) in
    let later : AllByRecursion (λ y. Separate (node_of h) 16 y 16) (map node_of (insert_by_size g hs)) = inserted_nodes h g hs (nodes_separate h g (turned g h a.0)) n.0 in
    elim (is_smaller g h) as (λ b. NodesApart (map node_of (cond b (g ∷ h ∷ hs) (h ∷ insert_by_size g hs)))) [ true ↦ (all, n) | false ↦ (later, rest) ]
  where
    nodes_separate : (g k : Span) → AreSeparate g k → Separate (node_of g) 16 (node_of k) 16
    nodes_separate g k (inl l) = inl (omega arith)
    nodes_separate g k (inr l) = inr (omega arith)

    inserted_nodes : (h g : Span) (hs : List Span) → Separate (node_of h) 16 (node_of g) 16 → AllByRecursion (λ y. Separate (node_of h) 16 y 16) (map node_of hs)
        → AllByRecursion (λ y. Separate (node_of h) 16 y 16) (map node_of (insert_by_size g hs))
    inserted_nodes h g [] s a = (s, tt)
    inserted_nodes h g (k ∷ ks) s a =
        let rest = inserted_nodes h g ks s a.1 in
        elim (is_smaller g k) as (λ b. AllByRecursion (λ y. Separate (node_of h) 16 y 16) (map node_of (cond b (g ∷ k ∷ ks) (k ∷ insert_by_size g ks)))) [ true ↦ (s, a) | false ↦ (a.0, rest) ]

nodes_sorted : (gs : List Span) → GapsApart gs → NodesApart (map node_of (by_size gs))
nodes_sorted [] a = tt
nodes_sorted (g ∷ gs) a = nodes_inserted g (by_size gs) (each_by_size (AreSeparate g) gs a.0) (nodes_sorted gs a.1)

pub length-by_size : (gs : List Span) → length (by_size gs) ≡ length gs
length-by_size [] = refl
length-by_size (g ∷ gs) = inserted g (by_size gs) ∙ ap suc (length-by_size gs)
  where
    inserted : (g : Span) (hs : List Span) → length (insert_by_size g hs) ≡ suc (length hs)
    inserted g [] = refl
    inserted g (h ∷ hs) = let rest = inserted g hs in elim (is_smaller g h) as (λ b. length (cond b (g ∷ h ∷ hs) (h ∷ insert_by_size g hs)) ≡ suc (suc (length hs))) [ true ↦ refl | false ↦ ap suc rest ]

-- rising positions contain no position twice
rising_once : (gs : List Span) → AreRisingSpans gs → (p : ℕ) → times p (positions gs) ≤ 1
rising_once [] r p = omega arith
rising_once (g ∷ gs) r p = go (cases_eq g.at p) (rising_once gs r.1 p)
  where
    apart_from : (g : Span) (gs : List Span) → AllByRecursion (λ h. g.at < h.at) gs → AllByRecursion (λ p. p ≢ g.at) (positions gs)
    apart_from g [] a = tt
    apart_from g (h ∷ hs) a = ((λ e. omega (arith, a.0)), apart_from g hs a.1)

    go : (g.at ≡ p) ⊎ (g.at ≢ p) → times p (positions gs) ≤ 1 → times p (positions (g ∷ gs)) ≤ 1
    go (inl e) rest =
        let none = none_there g.at (positions gs) (apart_from g gs r.0) in
        subst (λ q. times q (positions (g ∷ gs)) ≤ 1) e (omega (arith, times-same g.at (positions gs)))
    go (inr ne) rest = omega (arith, times-other p g.at (positions gs) ne)

pub sorted_by_size : (gs : List Span) → AreRisingSpans gs → AreBySize (by_size gs)
sorted_by_size gs r = by_size-in_order gs (rising_once gs r)

-- ---- the nodes have room and don't overlap

module _ (bytes : List ℕ) (gs : List Span) (low : 704 ≤ length bytes) (small : length bytes ≤ 2 ^ 30) (free : AreFreeBlocks bytes 704 gs) where
  stands : AllByRecursion (Stands bytes) gs
  stands = each_stands bytes 704 gs (omega arith) free

  pub nodes_stand : StandApart (length bytes) 24 (map node_of (by_size gs))
  nodes_stand = record {
    small = small;
    word_fits = omega arith;
    nodes_fit = each_map (λ p. p + 16 ≤ length bytes) node_of (by_size gs) (each_by_size (λ g. node_of g + 16 ≤ length bytes) gs (each_weaker (Stands bytes) (λ g. node_of g + 16 ≤ length bytes) (λ g s. omega (arith, s.fits)) gs stands));
    word_apart = each_map (λ p. Separate 24 4 p 16) node_of (by_size gs) (each_by_size (λ g. Separate 24 4 (node_of g) 16) gs (each_weaker (Stands bytes) (λ g. Separate 24 4 (node_of g) 16) (λ g s. inl (omega (arith, s.low))) gs stands));
    nodes_apart = nodes_sorted gs (free_apart bytes 704 gs free);
  }

  pub few_nodes : length (map node_of (by_size gs)) + 1 < 2 ^ 32
  few_nodes = let n = free_few bytes 704 gs low free in omega (arith, length-map (by_size gs) node_of, length-by_size gs)

-- the nodes of the gaps, with one gap moved to the front
module _ (bytes : List ℕ) (xs : List Span) (g : Span) (ys : List Span) (low : 704 ≤ length bytes) (small : length bytes ≤ 2 ^ 30) (free : AreFreeBlocks bytes 704 (xs ++ g ∷ ys)) where
  front_apart : GapsApart (g ∷ (xs ++ ys))
  front_apart = to_front xs g ys (free_apart bytes 704 (xs ++ g ∷ ys) free)

  all_stand : AllByRecursion (Stands bytes) (xs ++ g ∷ ys)
  all_stand = each_stands bytes 704 (xs ++ g ∷ ys) (omega arith) free

  pub gap_stands : Stands bytes g
  gap_stands = each_pick (Stands bytes) xs g ys all_stand

  pub others_stand : AllByRecursion (Stands bytes) (xs ++ ys)
  others_stand = each_drop (Stands bytes) xs g ys all_stand

  pub others_elsewhere : AllByRecursion (λ (h : Span). h.at ≢ g.at) (xs ++ ys)
  others_elsewhere = each_weaker (AreSeparate g) (λ h. h.at ≢ g.at) (λ h s. elsewhere h s) (xs ++ ys) front_apart.0
    where
      elsewhere : (h : Span) → AreSeparate g h → h.at ≢ g.at
      elsewhere h (inl l) e = omega arith
      elsewhere h (inr l) e = omega arith

  pub new_node_stands : StandApart (length bytes) 24 (node_of g ∷ map node_of (by_size (xs ++ ys)))
  new_node_stands = record {
    small = small;
    word_fits = omega arith;
    nodes_fit = (
      omega (arith, gap_stands.fits),
      each_map (λ p. p + 16 ≤ length bytes) node_of (by_size (xs ++ ys))
          (each_by_size (λ h. node_of h + 16 ≤ length bytes) (xs ++ ys) (each_weaker (Stands bytes) (λ h. node_of h + 16 ≤ length bytes) (λ h s. omega (arith, s.fits)) (xs ++ ys) others_stand)),
    );
    word_apart = (
      inl (omega (arith, gap_stands.low)),
      each_map (λ p. Separate 24 4 p 16) node_of (by_size (xs ++ ys))
          (each_by_size (λ h. Separate 24 4 (node_of h) 16) (xs ++ ys) (each_weaker (Stands bytes) (λ h. Separate 24 4 (node_of h) 16) (λ h s. inl (omega (arith, s.low))) (xs ++ ys) others_stand)),
    );
    nodes_apart = (
      each_map (λ y. Separate (node_of g) 16 y 16) node_of (by_size (xs ++ ys))
          (each_by_size (λ h. Separate (node_of g) 16 (node_of h) 16) (xs ++ ys)
          (each_weaker (AreSeparate g) (λ h. Separate (node_of g) 16 (node_of h) 16) (λ h s. ⊎_elim (λ l. inl (omega arith)) (λ l. inr (omega arith)) s) (xs ++ ys) front_apart.0)),
      nodes_sorted (xs ++ ys) front_apart.1,
    );
  }

-- no link overlaps the nodes of the gaps
pub links_beside : (gs : List Span) → GapsApart gs → AllByRecursion (λ h. AllByRecursion (λ g. Separate (h.at + 12) 4 (g.at + 16) 16) gs) gs
links_beside [] a = tt
links_beside (g ∷ gs) a = (
  (inl (omega arith), each_weaker (AreSeparate g) (λ h. Separate (g.at + 12) 4 (h.at + 16) 16) (λ h s. beside g h s) gs a.0),
  each_both (AreSeparate g) (λ h. AllByRecursion (λ k. Separate (h.at + 12) 4 (k.at + 16) 16) gs) (λ h. AllByRecursion (λ k. Separate (h.at + 12) 4 (k.at + 16) 16) (g ∷ gs))
      (λ h s r. (beside h g (turned g h s), r)) gs a.0 (links_beside gs a.1),
)
  where
    beside : (g h : Span) → AreSeparate g h → Separate (g.at + 12) 4 (h.at + 16) 16
    beside g h (inl l) = inl (omega arith)
    beside g h (inr l) = inr (omega arith)
