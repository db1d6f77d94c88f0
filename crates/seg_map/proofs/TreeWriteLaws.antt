-- A tree after its words and its cell's count were written: the new tree, and the bytes that are
-- kept.
use Rattle.std.proofs.Common.{◌≡◌, ◌≢◌, ℕ, ◌+◌, ◌-◌, ◌*◌, ◌^◌, ◌<◌, ◌≤◌, ◌⊎◌, inl, inr, List, [], ◌∷◌, length, map, sym, ap, ◌∙◌, subst, arith}
use Rattle.std.specs.List.{AllByRecursion}
use Rattle.seg_spec.specs.Bytes.{set_word, IsSame, ChangesOnly}
use Rattle.seg_spec.specs.Pointer.{target}
use Rattle.seg_spec.specs.Types.{Table}
use Rattle.seg_spec.specs.Heap.{units_at, link_at, live, IsHeap, heap_start}
use Rattle.seg_spec.specs.Block.{IsInside, KeepsHeader, KeepsBlock, IsOwnable, block_of}
use Rattle.seg_spec.specs.Apart.{Separate, BlocksApart, KeepsBlockAround}
use Rattle.seg_spec.specs.Shapes.{Tree, nodes_of, IsTree, IsRedBlack}
use Rattle.seg_spec.specs.Reads.{count_at}
use Rattle.seg_spec.specs.Sound.{times, positions}
use Rattle.seg_spec.proofs.BytesLaws.{number-set_same}
use Rattle.seg_spec.proofs.SliceLaws.{IsSame-trans}
use Rattle.seg_spec.proofs.Images.RootWriteLaws.{set_number-changes}
use Rattle.seg_spec.proofs.Values.PlaceFrameLaws.{each_map, each_of_map, each_weaker, each_both, word-same, target-same, IsTree-same}
use Rattle.seg_spec.proofs.Heap.LiveBlockLaws.{LiesIn, there, each_there, live-lie, live-apart, OneOrApart, apart_once}
use Rattle.seg_rbtree.specs.Changes.{NodesApart, StandApart, Leaves}
use Rattle.seg_map.proofs.SeveralWrites.{Range, Beside, IsWritable, low_same, heap_same, live_same, ownable_same, header_then, link_same, part_same, whole_then, around_then}

-- the bytes of a node's tree words
abbrev pub words_of : ℕ → Range
words_of q = record { at = q; n = 16; block = block_of q }

-- the ranges that a change of a tree may write: its cell, and the tree words of nodes
abbrev pub written : ℕ → ℕ → List ℕ → List Range
written cell home touched = record { at = cell; n = 8; block = home } ∷ map words_of touched

-- a node's tree words lie in an allocated block, which isn't the cell's, and so may be written
pub record IsTouched (bytes : List ℕ) (home q : ℕ) : Type 0 where
  pub after_header : 16 ≤ q
  pub is_live : 1 ≤ times (block_of q) (positions (live bytes))
  pub other : block_of q ≢ home

-- the bytes after the tree words of some nodes and the cell were written
pub record Remade (allocator : ℕ) (mid new : List ℕ) (cell home n : ℕ) (touched now : List ℕ) : Type 0 where
  pub length_kept : length new ≡ length mid
  pub low : (p m : ℕ) → p + m ≤ heap_start → IsSame mid new p m
  pub heap : IsHeap allocator new
  pub live_is : live new ≡ live mid
  pub ownable : (table : Table) → AllByRecursion (λ b. IsOwnable mid table b.at) (live mid) → AllByRecursion (λ b. IsOwnable new table b.at) (live new)
  pub header : (h : ℕ) → 1 ≤ times h (positions (live mid)) → KeepsHeader mid new h × (link_at new h ≡ link_at mid h)
  pub whole : (h : ℕ) → 1 ≤ times h (positions (live mid)) → h ≢ home → times h (map block_of touched) ≡ 0 → KeepsBlock mid new h
  pub around : (h : ℕ) → 1 ≤ times h (positions (live mid)) → times h (map block_of touched) ≡ 0 → KeepsBlockAround mid new cell 8 h
  -- the bytes of a node after its tree words are kept
  pub content : (q p m : ℕ) → 16 ≤ q → 1 ≤ times (block_of q) (positions (live mid)) → block_of q ≢ home → q + 16 ≤ p → p + m ≤ block_of q + 16 * units_at mid (block_of q) → IsSame mid new p m
  pub tree : Tree
  pub is_tree : IsTree new (target new cell) tree
  pub red_black : IsRedBlack tree
  pub nodes_are : nodes_of tree ≡ now
  pub count_is : count_at new cell ≡ n

-- ---- nodes in separate blocks

module _ (allocator : ℕ) (bytes : List ℕ) (heap : IsHeap allocator bytes) (cell home : ℕ) (ns : List ℕ) (home_in : IsInside bytes home cell 8) (home_live : 1 ≤ times home (positions (live bytes)))
    (each : AllByRecursion (IsTouched bytes home) ns) (once : (h : ℕ) → times h (home ∷ map block_of ns) ≤ 1) where
  lies_there : (h : ℕ) → 1 ≤ times h (positions (live bytes)) → LiesIn bytes heap_start (length bytes) h
  lies_there h some = there (LiesIn bytes heap_start (length bytes)) h (positions (live bytes)) (live-lie bytes allocator heap) some

  among_live : (h : ℕ) → 1 ≤ times h (home ∷ map block_of ns) → 1 ≤ times h (positions (live bytes))
  among_live h some = there (λ x. 1 ≤ times x (positions (live bytes))) h (home ∷ map block_of ns) (home_live, each_map (λ x. 1 ≤ times x (positions (live bytes))) block_of ns (each_weaker _ _ (λ q t. t.is_live) ns each)) some

  blocks_apart : BlocksApart bytes (home ∷ map block_of ns)
  blocks_apart = apart_once bytes (home ∷ map block_of ns)
      (each_there _ (home ∷ map block_of ns) (λ g some. each_there _ (home ∷ map block_of ns)
      (λ h more. there (OneOrApart bytes g) h (positions (live bytes)) (there (λ t. AllByRecursion (OneOrApart bytes t) (positions (live bytes))) g (positions (live bytes)) (live-apart bytes allocator heap) (among_live g some))
      (among_live h more))))
      once

  words_apart : (x y : ℕ) → 16 ≤ x → 16 ≤ y → 2 ≤ units_at bytes (block_of x) → 2 ≤ units_at bytes (block_of y) → Separate (block_of x) (16 * units_at bytes (block_of x)) (block_of y) (16 * units_at bytes (block_of y)) → Separate x 16 y 16
  words_apart x y a b c d (inl l) = inl (omega arith)
  words_apart x y a b c d (inr l) = inr (omega arith)

  nodes_apart : (qs : List ℕ) → AllByRecursion (IsTouched bytes home) qs → BlocksApart bytes (map block_of qs) → NodesApart qs
  nodes_apart [] t a = tt
  nodes_apart (x ∷ xs) t a = (
    each_both _ _ _ (λ y u sep. words_apart x y t.0.after_header u.after_header (lies_there (block_of x) t.0.is_live).size (lies_there (block_of y) u.is_live).size sep) xs t.1 (each_of_map _ block_of xs a.0),
    nodes_apart xs t.1 a.1,
  )

  -- the nodes' tree words and the cell's pointer don't overlap
  pub stand_apart : StandApart (length bytes) cell ns
  stand_apart = record {
    small = heap.small;
    word_fits = let h = home_in.high in let l = (lies_there home home_live).high in omega arith;
    nodes_fit = each_weaker _ _ (λ x t. let l = lies_there (block_of x) t.is_live in let back = t.after_header in let two = l.size in let end = l.high in omega arith) ns each;
    word_apart = each_both _ _ _ (λ x t sep. cell_off x t sep) ns each (each_of_map _ block_of ns blocks_apart.0);
    nodes_apart = nodes_apart ns each blocks_apart.1;
  }
    where
      cell_off : (x : ℕ) → IsTouched bytes home x → Separate home (16 * units_at bytes home) (block_of x) (16 * units_at bytes (block_of x)) → Separate cell 4 x 16
      cell_off x t (inl l) = inl (let h = home_in.high in let back = t.after_header in omega arith)
      cell_off x t (inr l) = inr (let h = home_in.low in let back = t.after_header in let two = (lies_there (block_of x) t.is_live).size in omega arith)

-- ---- the tree after a change

module _ (allocator : ℕ) (mid three new : List ℕ) (cell home n : ℕ) (touched now : List ℕ) (heap : IsHeap allocator mid) (l : Leaves mid three cell touched now) (new_is : new ≡ set_word three (cell + 4) n)
    (home_in : IsInside mid home cell 8) (home_live : 1 ≤ times home (positions (live mid))) (each : AllByRecursion (IsTouched mid home) touched) (among : (P : ℕ → Type 0) → AllByRecursion P touched → AllByRecursion P now) where
  lies : (h : ℕ) → 1 ≤ times h (positions (live mid)) → LiesIn mid heap_start (length mid) h
  lies h some = there (LiesIn mid heap_start (length mid)) h (positions (live mid)) (live-lie mid allocator heap) some

  apart : (g h : ℕ) → 1 ≤ times g (positions (live mid)) → 1 ≤ times h (positions (live mid)) → h ≢ g → Separate g (16 * units_at mid g) h (16 * units_at mid h)
  apart g h some more ne = go (there (OneOrApart mid g) h (positions (live mid)) (there (λ t. AllByRecursion (OneOrApart mid t) (positions (live mid))) g (positions (live mid)) (live-apart mid allocator heap) some) more)
    where
      go : OneOrApart mid g h → Separate g (16 * units_at mid g) h (16 * units_at mid h)
      go (inl e) = absurd (ne e)
      go (inr s) = s

  counted : ChangesOnly three new (cell + 4) 4
  counted = subst (λ bs. ChangesOnly three bs (cell + 4) 4) (sym new_is) (set_number-changes 4 three (cell + 4) n)

  long : length new ≡ length mid
  long = counted.length_kept ∙ l.kept.length_kept

  beside : (p m : ℕ) → Beside p m (written cell home touched) → IsSame mid new p m
  beside p m b = IsSame-trans mid three new p m (l.kept.others p m (go b.0) (each_of_map (λ r. Separate p m r.at r.n) words_of touched b.1)) (counted.others p m (past b.0))
    where
      go : Separate p m cell 8 → Separate p m cell 4
      go (inl a) = inl a
      go (inr a) = inr (omega arith)

      past : Separate p m cell 8 → (p + m ≤ cell + 4) ⊎ (cell + 4 + 4 ≤ p)
      past (inl a) = inl (omega arith)
      past (inr a) = inr (omega arith)

  node_writable : (q : ℕ) → IsTouched mid home q → IsWritable mid (words_of q)
  node_writable q t =
      let i = lies (block_of q) t.is_live in
      let two = i.size in
      let low = t.after_header in
      record { inside = record { low = omega arith; high = omega arith }; is_live = t.is_live }

  writable : AllByRecursion (IsWritable mid) (written cell home touched)
  writable = (record { inside = home_in; is_live = home_live }, each_map (IsWritable mid) words_of touched (each_weaker _ _ (λ q t. node_writable q t) touched each))

  not_among : (h : ℕ) (qs : List ℕ) → times h (map block_of qs) ≡ 0 → AllByRecursion (λ q. block_of q ≢ h) qs
  not_among h qs none = each_of_map (λ x. x ≢ h) block_of qs (Rattle.seg_spec.proofs.Heap.LiveBlockLaws.not_there h (map block_of qs) none)

  cell_apart : (q : ℕ) → IsTouched mid home q → Separate q 16 cell 8
  cell_apart q t = go (apart home (block_of q) home_live t.is_live t.other)
    where
      go : Separate home (16 * units_at mid home) (block_of q) (16 * units_at mid (block_of q)) → Separate q 16 cell 8
      go (inl a) = inr (let high = home_in.high in let low = t.after_header in omega arith)
      go (inr a) = inl (let low = home_in.low in let two = (lies (block_of q) t.is_live).size in let back = t.after_header in omega arith)

  count_off : (q : ℕ) → IsTouched mid home q → (q + 16 ≤ cell + 4) ⊎ (cell + 4 + 4 ≤ q)
  count_off q t = go (cell_apart q t)
    where
      go : Separate q 16 cell 8 → (q + 16 ≤ cell + 4) ⊎ (cell + 4 + 4 ≤ q)
      go (inl a) = inl (omega arith)
      go (inr a) = inr (omega arith)

  nodes_same : AllByRecursion (λ p. IsSame three new p 16) (nodes_of l.shape)
  nodes_same = subst (AllByRecursion (λ p. IsSame three new p 16)) (sym l.nodes_are) (among (λ p. IsSame three new p 16) (each_weaker _ _ (λ q t. counted.others q 16 (count_off q t)) touched each))

  target_is : target new cell ≡ target three cell
  target_is = target-same three new cell (counted.others cell 4 (inl (omega arith)))

  fits : cell + 4 + 4 ≤ length three
  fits = let high = home_in.high in let end = (lies home home_live).high in let same = l.kept.length_kept in omega arith

  -- the cell's count is the count before the change
  pub count_before : count_at three cell ≡ count_at mid cell
  count_before = word-same mid three (cell + 4) (l.kept.others (cell + 4) 4 (inr (omega arith)) (each_weaker _ _ (λ q t. go q (cell_apart q t)) touched each))
    where
      go : (q : ℕ) → Separate q 16 cell 8 → Separate (cell + 4) 4 q 16
      go q (inl a) = inr (omega arith)
      go q (inr a) = inl (omega arith)

  pub remade : n < 2 ^ 32 → Remade allocator mid new cell home n touched now
  remade small = record {
    length_kept = long;
    low = λ p m f. low_same mid new allocator heap (written cell home touched) writable long beside p m f;
    heap = heap_same mid new allocator heap (written cell home touched) writable long beside;
    live_is = live_same mid new allocator heap (written cell home touched) writable long beside;
    ownable = λ table o. ownable_same mid new allocator heap (written cell home touched) writable long beside table o;
    header = λ h some. (header_then mid new allocator heap (written cell home touched) writable long beside h some, link_same mid new allocator heap (written cell home touched) writable long beside h some);
    whole = λ h some ne none. whole_then mid new allocator heap (written cell home touched) writable long beside h some ((λ e. ne (sym e)), each_map (λ r. r.block ≢ h) words_of touched (not_among h touched none));
    around = λ h some none. around_then mid new allocator heap (written cell home touched) writable long beside h some cell 8
        ((λ e. (omega arith, omega arith)), each_map (λ r. r.block ≡ h → (cell ≤ r.at) × (r.at + r.n ≤ cell + 8)) words_of touched (each_weaker _ _ (λ q ne e. absurd (ne e)) touched (not_among h touched none)));
    content = λ q p m back some ne low high. part_same mid new allocator heap (written cell home touched) writable long beside (block_of q) some p m (omega arith) high
        ((λ e. absurd (ne (sym e))), each_map (λ r. r.block ≡ block_of q → Separate p m r.at r.n) words_of touched (each_weaker _ _ (λ x t e. own q p m x back t.after_header low e) touched each));
    tree = l.shape;
    is_tree = rw target_is (IsTree-same three new (target three cell) l.shape nodes_same l.tree.is_tree);
    red_black = l.tree.red_black;
    nodes_are = l.nodes_are;
    count_is = ap (λ bs. count_at bs cell) new_is ∙ number-set_same 4 three (cell + 4) n fits small;
  }
    where
      own : (q p m x : ℕ) → 16 ≤ q → 16 ≤ x → q + 16 ≤ p → x - 16 ≡ q - 16 → Separate p m x 16
      own q p m x a b low e = inr (omega arith)
