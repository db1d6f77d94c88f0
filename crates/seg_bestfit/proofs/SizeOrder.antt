-- The nodes of the tree compare as the gaps are ordered: by size, then by position.
use Rattle.std.proofs.Common.{◌≡◌, ◌≢◌, ℕ, ◌+◌, ◌-◌, ◌*◌, ◌^◌, ◌<◌, ◌≤◌, ◌⊎◌, inl, inr, ⊎_elim, Bool, true, false, leb, eqb, List, [], ◌∷◌, ◌++◌, map, cond, Some, refl, sym, ap, ◌∙◌, subst, arith, le-leb}
use Rattle.std.proofs.lemmas.Bool.{cases_lt, cases_order}
use Rattle.std.proofs.lemmas.Bool.Decides.{nat_tests}
use Rattle.std.specs.Cmp.{nat_cmp_is}
use Rattle.std.specs.List.{AllByRecursion}
use Rattle.std.specs.Option.{option_map}
use Rattle.std.specs.Ordering.{nat_cmp, ordering_then, is_lt}
use Rattle.std.specs.declared.cmp.Ordering.TheVariants.{Less, Equal, Greater}
use Rattle.seg_spec.specs.Heap.{Span, units_at, is_smaller, insert_by_size, AreBySize, first_fit}
use Rattle.seg_spec.specs.Search.{reaches, Ascend, first_where}
use Rattle.seg_spec.proofs.Values.PlaceFrameLaws.{each_map, each_both, each_weaker}
use Rattle.seg_spec.proofs.Heap.GapOrderLaws.{IsBefore, smaller_is, not_smaller_is, is_smaller_if, not_smaller_if}
use Rattle.seg_spec.proofs.Heap.GapPickLaws.{first_small}
use Rattle.seg_rbtree.specs.Changes.{IsNew, with_node, without_node, renamed}
use Rattle.seg_bestfit.specs.FreeTree.{by_units, KeepsPlace}

-- the node of a gap
abbrev pub node_of : Span → ℕ
node_of g = g.at + 16

test_same : (m n : ℕ) → m ≡ n → eqb m n ≡ true
test_same m n e = grind (arith, nat_tests)

test_other : (m n : ℕ) → m ≢ n → eqb m n ≡ false
test_other m n e = grind (arith, nat_tests)

leb_no : (a b : ℕ) → b < a → leb a b ≡ false
leb_no a b h = grind (arith, nat_tests)

-- ---- numbers

pub cmp_less : (x y : ℕ) → x < y → nat_cmp x y ≡ Less
cmp_less x y h = sym (nat_cmp_is x y Less h)

pub cmp_equal : (x y : ℕ) → x ≡ y → nat_cmp x y ≡ Equal
cmp_equal x y h = sym (nat_cmp_is x y Equal h)

pub cmp_greater : (x y : ℕ) → y < x → nat_cmp x y ≡ Greater
cmp_greater x y h = sym (nat_cmp_is x y Greater h)

-- numbers of two 32-bit halves compare by their upper halves, and then by their lower halves
pub packed : (a b x y : ℕ) → x < 2 ^ 32 → y < 2 ^ 32 → nat_cmp (a * 2 ^ 32 + x) (b * 2 ^ 32 + y) ≡ ordering_then (nat_cmp a b) (nat_cmp x y)
packed a b x y low_x low_y = by_first (cases_order a b)
  where
    this : ℕ
    this = a * 2 ^ 32 + x

    that : ℕ
    that = b * 2 ^ 32 + y

    by_second : a ≡ b → (x ≡ y) ⊎ ((x < y) ⊎ (y < x)) → nat_cmp this that ≡ nat_cmp x y
    by_second e (inl same) = cmp_equal this that (omega (arith, e, same)) ∙ sym (cmp_equal x y same)
    by_second e (inr (inl less)) = cmp_less this that (omega (arith, e, less)) ∙ sym (cmp_less x y less)
    by_second e (inr (inr more)) = cmp_greater this that (omega (arith, e, more)) ∙ sym (cmp_greater x y more)

    by_first : (a ≡ b) ⊎ ((a < b) ⊎ (b < a)) → nat_cmp this that ≡ ordering_then (nat_cmp a b) (nat_cmp x y)
    by_first (inl e) = by_second e (cases_order x y) ∙ sym (ap (λ r. ordering_then r (nat_cmp x y)) (cmp_equal a b e))
    by_first (inr (inl less)) = cmp_less this that (omega (arith, less, low_x, low_y)) ∙ sym (ap (λ r. ordering_then r (nat_cmp x y)) (cmp_less a b less))
    by_first (inr (inr more)) = cmp_greater this that (omega (arith, more, low_x, low_y)) ∙ sym (ap (λ r. ordering_then r (nat_cmp x y)) (cmp_greater a b more))

before_trans : (f g h : Span) → IsBefore f g → IsBefore g h → IsBefore f h
before_trans f g h (inl a) (inl b) = inl (omega arith)
before_trans f g h (inl a) (inr b) = inl (omega (arith, b.0))
before_trans f g h (inr a) (inl b) = inl (omega (arith, a.0))
before_trans f g h (inr a) (inr b) = inr (a.0 ∙ b.0, omega (arith, a.1, b.1))

-- each gap of a list in order is before the later ones
before_all : (g : Span) (hs : List Span) → AreBySize (g ∷ hs) → AllByRecursion (λ h. IsBefore g h) hs
before_all g [] a = tt
before_all g (h ∷ hs) a = let first = smaller_is g h a.0 in (first, each_weaker _ _ (λ k l. before_trans g h k first l) hs (before_all h hs a.1))

tail_of : (g : Span) (hs : List Span) → AreBySize (g ∷ hs) → AreBySize hs
tail_of g [] a = tt
tail_of g (h ∷ hs) a = a.1

-- a comparison with a number of units tests whether a gap is large enough
pub fits_is : (x u : ℕ) → reaches Equal (nat_cmp x u) ≡ leb u x
fits_is x u = go (cases_lt x u) (cases_lt u x)
  where
    go : (x < u) ⊎ (u ≤ x) → (u < x) ⊎ (x ≤ u) → reaches Equal (nat_cmp x u) ≡ leb u x
    go (inl l) b = ap (λ r. reaches Equal r) (cmp_less x u l) ∙ sym (leb_no u x l)
    go (inr l) (inl m) = ap (λ r. reaches Equal r) (cmp_greater x u m) ∙ sym (le-leb u x l)
    go (inr l) (inr m) = ap (λ r. reaches Equal r) (cmp_equal x u (omega arith)) ∙ sym (le-leb u x l)

-- ---- nodes

module _ (bytes : List ℕ) where
  -- the headers of gaps state their sizes
  abbrev pub HasSize : Span → Type 0
  HasSize g = units_at bytes g.at ≡ g.units

  abbrev pub HaveSizes : List Span → Type 0
  HaveSizes gs = AllByRecursion HasSize gs

  node_size : (g : Span) → HasSize g → units_at bytes (g.at + 16 - 16) ≡ g.units
  node_size g e = let place : g.at + 16 - 16 ≡ g.at = omega arith in ap (units_at bytes) place ∙ e

  by_sizes : (g h : Span) → HasSize g → HasSize h → by_units bytes (node_of g) (node_of h) ≡ ordering_then (nat_cmp g.units h.units) (nat_cmp (node_of g) (node_of h))
  by_sizes g h e f = λ i. ordering_then (nat_cmp (node_size g e i) (node_size h f i)) (nat_cmp (node_of g) (node_of h))

  pub node_less : (g h : Span) → HasSize g → HasSize h → IsBefore g h → by_units bytes (node_of g) (node_of h) ≡ Less
  node_less g h e f (inl l) = by_sizes g h e f ∙ ap (λ r. ordering_then r (nat_cmp (node_of g) (node_of h))) (cmp_less g.units h.units l)
  node_less g h e f (inr l) = by_sizes g h e f ∙ ap (λ r. ordering_then r (nat_cmp (node_of g) (node_of h))) (cmp_equal g.units h.units l.0) ∙ cmp_less (node_of g) (node_of h) (omega (arith, l.1))

  pub node_greater : (g h : Span) → HasSize g → HasSize h → IsBefore h g → by_units bytes (node_of g) (node_of h) ≡ Greater
  node_greater g h e f (inl l) = by_sizes g h e f ∙ ap (λ r. ordering_then r (nat_cmp (node_of g) (node_of h))) (cmp_greater g.units h.units l)
  node_greater g h e f (inr l) = by_sizes g h e f ∙ ap (λ r. ordering_then r (nat_cmp (node_of g) (node_of h))) (cmp_equal g.units h.units (sym l.0)) ∙ cmp_greater (node_of g) (node_of h) (omega (arith, l.1))

  node_equal : (g h : Span) → HasSize g → HasSize h → g.units ≡ h.units → g.at ≡ h.at → by_units bytes (node_of g) (node_of h) ≡ Equal
  node_equal g h e f u a = by_sizes g h e f ∙ ap (λ r. ordering_then r (nat_cmp (node_of g) (node_of h))) (cmp_equal g.units h.units u) ∙ cmp_equal (node_of g) (node_of h) (omega (arith, a))

  -- one node is below another if its gap is smaller, or if the sizes are equal and its position is
  -- lower
  pub below_is : (g h : Span) → HasSize g → HasSize h → is_lt (by_units bytes (node_of g) (node_of h)) ≡ is_smaller g h
  below_is g h e f = go (is_smaller g h) refl
    where
      not_below : (h.units < g.units) ⊎ ((g.units ≡ h.units) × (h.at ≤ g.at)) → is_lt (by_units bytes (node_of g) (node_of h)) ≡ false
      not_below (inl l) = ap is_lt (node_greater g h e f (inl l))
      not_below (inr l) = ⊎_elim (λ k. ap is_lt (node_greater g h e f (inr (sym l.0, k)))) (λ k. ap is_lt (node_equal g h e f l.0 (omega (arith, l.1, k)))) (cases_lt h.at g.at)

      go : (b : Bool) → is_smaller g h ≡ b → is_lt (by_units bytes (node_of g) (node_of h)) ≡ b
      go true s = ap is_lt (node_less g h e f (smaller_is g h s))
      go false s = not_below (not_smaller_is g h s)

  -- gaps at two positions never compare as equal
  pub node_new : (g h : Span) → HasSize g → HasSize h → h.at ≢ g.at → by_units bytes (node_of g) (node_of h) ≢ Equal
  node_new g h e f ne is = go (cases_lt g.units h.units) (cases_lt h.units g.units) (cases_lt g.at h.at) (cases_lt h.at g.at)
    where
      no_less : by_units bytes (node_of g) (node_of h) ≡ Less → ⊥
      no_less l = cc

      no_greater : by_units bytes (node_of g) (node_of h) ≡ Greater → ⊥
      no_greater l = cc

      go : (g.units < h.units) ⊎ (h.units ≤ g.units) → (h.units < g.units) ⊎ (g.units ≤ h.units) → (g.at < h.at) ⊎ (h.at ≤ g.at) → (h.at < g.at) ⊎ (g.at ≤ h.at) → ⊥
      go (inl l) b c d = no_less (node_less g h e f (inl l))
      go (inr l) (inl m) c d = no_greater (node_greater g h e f (inl m))
      go (inr l) (inr m) (inl c) d = no_less (node_less g h e f (inr (omega arith, c)))
      go (inr l) (inr m) (inr c) (inl d) = no_greater (node_greater g h e f (inr (omega arith, d)))
      go (inr l) (inr m) (inr c) (inr d) = ne (omega arith)

  -- ---- lists of nodes

  pub nodes_ascend : (hs : List Span) → HaveSizes hs → AreBySize hs → Ascend (by_units bytes) (map node_of hs)
  nodes_ascend [] s a = tt
  nodes_ascend (g ∷ hs) s a = (
    each_map (λ y. by_units bytes (node_of g) y ≡ Less) node_of hs
        (each_both HasSize (λ h. IsBefore g h) (λ h. by_units bytes (node_of g) (node_of h) ≡ Less) (λ h e l. node_less g h s.0 e l) hs s.1 (before_all g hs a)),
    nodes_ascend hs s.1 (tail_of g hs a),
  )

  pub node_is_new : (g : Span) (hs : List Span) → HasSize g → HaveSizes hs → AllByRecursion (λ (h : Span). h.at ≢ g.at) hs → IsNew (by_units bytes) (node_of g) (map node_of hs)
  node_is_new g hs e s ne = each_map (λ y. by_units bytes (node_of g) y ≢ Equal) node_of hs (each_both HasSize (λ h. h.at ≢ g.at) (λ h. by_units bytes (node_of g) (node_of h) ≢ Equal) (λ h f n. node_new g h e f n) hs s ne)

  pub with_gap : (g : Span) (hs : List Span) → HasSize g → HaveSizes hs → with_node (by_units bytes) (node_of g) (map node_of hs) ≡ map node_of (insert_by_size g hs)
  with_gap g [] e s = refl
  with_gap g (h ∷ hs) e s =
      let rest = with_gap g hs e s.1 in
      let go = elim (is_smaller g h) as (λ b. cond b (node_of g ∷ node_of h ∷ map node_of hs) (node_of h ∷ with_node (by_units bytes) (node_of g) (map node_of hs)) ≡ map node_of (cond b (g ∷ h ∷ hs) (h ∷ insert_by_size g hs)))
      [ true ↦ refl | false ↦ ap (λ l. node_of h ∷ l) rest ] in
      ap (λ b. cond b (node_of g ∷ node_of h ∷ map node_of hs) (node_of h ∷ with_node (by_units bytes) (node_of g) (map node_of hs))) (below_is g h e s.0) ∙ go

  -- ---- the search for a gap that fits

  -- the first node with enough units belongs to the first gap that fits
  pub first_node : (hs : List Span) (u : ℕ) → HaveSizes hs → first_where (λ x. reaches Equal (nat_cmp (units_at bytes (x - 16)) u)) (map node_of hs) ≡ option_map node_of (first_fit hs u)
  first_node [] u s = refl
  first_node (h ∷ hs) u s =
      let rest = first_node hs u s.1 in
      let found = first_where (λ x. reaches Equal (nat_cmp (units_at bytes (x - 16)) u)) (map node_of hs) in
      let test = ap (λ x. reaches Equal (nat_cmp x u)) (node_size h s.0) ∙ fits_is h.units u in
      let go = elim (leb u h.units) as (λ b. cond b (Some (node_of h)) found ≡ option_map node_of (cond b (Some h) (first_fit hs u))) [ true ↦ refl | false ↦ rest ] in
      ap (λ b. cond b (Some (node_of h)) found) test ∙ go

-- the list of nodes without the node of a gap
pub without_gap : (g : Span) (hs : List Span) → AllByRecursion (λ (h : Span). h.at ≢ g.at) hs → without_node (node_of g) (map node_of (insert_by_size g hs)) ≡ map node_of hs
without_gap g [] ne = ap (λ b. cond b [] (node_of g ∷ [])) (test_same (node_of g) (node_of g) refl)
without_gap g (h ∷ hs) ne =
    let rest = without_gap g hs ne.1 in
    elim (is_smaller g h) as (λ b. without_node (node_of g) (map node_of (cond b (g ∷ h ∷ hs) (h ∷ insert_by_size g hs))) ≡ node_of h ∷ map node_of hs) [
      | true ↦ ap (λ b. cond b (node_of h ∷ map node_of hs) (node_of g ∷ without_node (node_of g) (node_of h ∷ map node_of hs))) (test_same (node_of g) (node_of g) refl)
      | false ↦ ap (λ b. cond b (map node_of (insert_by_size g hs)) (node_of h ∷ without_node (node_of g) (map node_of (insert_by_size g hs)))) (test_other (node_of g) (node_of h) (λ e. ne.0 (omega (arith, e))))
          ∙ ap (λ l. node_of h ∷ l) rest
    ]

-- A gap's node is replaced by another gap's node, which compares in the same way with the others.
pub renamed_gap : (g r : Span) (hs : List Span) → AllByRecursion (λ (h : Span). h.at ≢ g.at) hs → KeepsPlace hs g r → renamed (node_of g) (node_of r) (map node_of (insert_by_size g hs)) ≡ map node_of (insert_by_size r hs)
renamed_gap g r [] ne k = ap (λ b. cond b (node_of r ∷ []) (node_of g ∷ [])) (test_same (node_of g) (node_of g) refl)
renamed_gap g r (h ∷ hs) ne k =
    let rest = renamed_gap g r hs ne.1 k.1 in
    let go = elim (is_smaller g h) as (λ b. renamed (node_of g) (node_of r) (map node_of (cond b (g ∷ h ∷ hs) (h ∷ insert_by_size g hs))) ≡ map node_of (cond b (r ∷ h ∷ hs) (h ∷ insert_by_size r hs))) [
      | true ↦ ap (λ b. cond b (node_of r ∷ node_of h ∷ map node_of hs) (node_of g ∷ renamed (node_of g) (node_of r) (node_of h ∷ map node_of hs))) (test_same (node_of g) (node_of g) refl)
      | false ↦ ap (λ b. cond b (node_of r ∷ map node_of (insert_by_size g hs)) (node_of h ∷ renamed (node_of g) (node_of r) (map node_of (insert_by_size g hs)))) (test_other (node_of g) (node_of h) (λ e. ne.0 (omega (arith, e))))
          ∙ ap (λ l. node_of h ∷ l) rest
    ] in
    go ∙ ap (λ b. map node_of (cond b (r ∷ h ∷ hs) (h ∷ insert_by_size r hs))) k.0

-- ---- a gap keeps its place in the order

-- If the rest of the smallest gap that fits is large enough for the request, each smaller gap is
-- too small for it, and so comes before the rest.
pub rest_keeps : (g r : Span) (need : ℕ) → need ≤ r.units → r.units < g.units → (hs : List Span) → AllByRecursion (λ (h : Span). h.at ≢ g.at) hs → AreBySize (insert_by_size g hs) → first_fit (insert_by_size g hs) need ≡ Some g
    → KeepsPlace hs g r
rest_keeps g r need fits less [] ne s f = tt
rest_keeps g r need fits less (h ∷ hs) ne s f = go (is_smaller g h) refl (λ s f. rest_keeps g r need fits less hs ne.1 s f)
  where
    below : (k : Span) → IsBefore g k → IsBefore r k
    below k (inl a) = inl (omega arith)
    below k (inr a) = inl (omega (arith, a.0))

    parts : (b : Bool) → is_smaller g h ≡ b → insert_by_size g (h ∷ hs) ≡ cond b (g ∷ h ∷ hs) (h ∷ insert_by_size g hs)
    parts b e = ap (λ c. cond c (g ∷ h ∷ hs) (h ∷ insert_by_size g hs)) e

    go : (b : Bool) → is_smaller g h ≡ b → (AreBySize (insert_by_size g hs) → first_fit (insert_by_size g hs) need ≡ Some g → KeepsPlace hs g r) → KeepsPlace (h ∷ hs) g r
    go true e rest =
        each_weaker (λ k. IsBefore g k) (λ k. is_smaller g k ≡ is_smaller r k) (λ k l. is_smaller_if g k l ∙ sym (is_smaller_if r k (below k l))) (h ∷ hs)
        (before_all g (h ∷ hs) (subst (λ l. AreBySize l) (parts true e) s))
    go false e rest = later (cases_lt h.units need)
      where
        sorted : AreBySize (h ∷ insert_by_size g hs)
        sorted = subst (λ l. AreBySize l) (parts false e) s

        first : first_fit (h ∷ insert_by_size g hs) need ≡ Some g
        first = subst (λ l. first_fit l need ≡ Some g) (parts false e) f

        later : (h.units < need) ⊎ (need ≤ h.units) → KeepsPlace (h ∷ hs) g r
        later (inl l) = (e ∙ sym (not_smaller_if r h (inl (omega arith))), rest (tail_of h (insert_by_size g hs) sorted) (sym (first_small need h (insert_by_size g hs) l) ∙ first))
        later (inr l) = absurd (ne.0 (ap (λ (k : Span). k.at) same))
          where
            here : first_fit (h ∷ insert_by_size g hs) need ≡ Some h
            here = ap (λ b. cond b (Some h) (first_fit (insert_by_size g hs) need)) (le-leb need h.units l)

            same : h ≡ g
            same = let e = sym here in let k = first in cc

ends_elsewhere : (x : ℕ) (ys front : List ℕ) → AllByRecursion (λ y. y ≢ x) ys → ys ≡ front ++ x ∷ [] → ⊥
ends_elsewhere x [] [] a e = cc
ends_elsewhere x [] (f ∷ fs) a e = cc
ends_elsewhere x (y ∷ ys) [] a e = a.0 (cc)
ends_elsewhere x (y ∷ ys) (f ∷ fs) a e = ends_elsewhere x ys fs a.1 (cc)

no_more : (x y z : ℕ) (ys front : List ℕ) → AllByRecursion (λ w. w ≢ x) (z ∷ ys) → y ∷ z ∷ ys ≡ front ++ x ∷ [] → ⊥
no_more x y z ys [] a e = cc
no_more x y z ys (f ∷ fs) a e = ends_elsewhere x (z ∷ ys) fs a (cc)

-- the last gap in the order keeps its place if it grows
pub last_keeps : (g r : Span) → g.units < r.units → (hs : List Span) → AllByRecursion (λ (h : Span). h.at ≢ g.at) hs → (front : List ℕ) → map node_of (insert_by_size g hs) ≡ front ++ node_of g ∷ [] → KeepsPlace hs g r
last_keeps g r more [] ne front e = tt
last_keeps g r more (h ∷ hs) ne front e = go (is_smaller g h) refl front e (λ fs f. last_keeps g r more hs ne.1 fs f)
  where
    others : AllByRecursion (λ y. y ≢ node_of g) (node_of h ∷ map node_of hs)
    others = each_map (λ y. y ≢ node_of g) node_of (h ∷ hs) (each_weaker (λ (k : Span). k.at ≢ g.at) (λ k. node_of k ≢ node_of g) (λ k n f. n (omega (arith, f))) (h ∷ hs) ne)

    parts : (b : Bool) → is_smaller g h ≡ b → map node_of (insert_by_size g (h ∷ hs)) ≡ map node_of (cond b (g ∷ h ∷ hs) (h ∷ insert_by_size g hs))
    parts b s = ap (λ c. map node_of (cond c (g ∷ h ∷ hs) (h ∷ insert_by_size g hs))) s

    upward : is_smaller g h ≡ false → is_smaller r h ≡ false
    upward s = not_smaller_if r h (inl (⊎_elim (λ l. omega arith) (λ l. omega (arith, l.0)) (not_smaller_is g h s)))

    go : (b : Bool) → is_smaller g h ≡ b → (front : List ℕ) → map node_of (insert_by_size g (h ∷ hs)) ≡ front ++ node_of g ∷ []
        → ((fs : List ℕ) → map node_of (insert_by_size g hs) ≡ fs ++ node_of g ∷ [] → KeepsPlace hs g r) → KeepsPlace (h ∷ hs) g r
    go true s front e rest = absurd (no_more (node_of g) (node_of g) (node_of h) (map node_of hs) front others (sym (parts true s) ∙ e))
    go false s [] e rest = let f = sym (parts false s) ∙ e in absurd (others.0 (cc))
    go false s (f ∷ fs) e rest = let t = sym (parts false s) ∙ e in (s ∙ sym (upward s), rest fs (cc))
