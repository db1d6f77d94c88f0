-- The tree of the index after its tree words and the cell's count were written.
use Rattle.std.proofs.Common.{◌≡◌, ◌≢◌, ℕ, ◌+◌, ◌-◌, ◌*◌, ◌^◌, ◌<◌, ◌≤◌, ◌⊎◌, inl, inr, List, [], ◌∷◌, length, map, sym, ap, ◌∙◌, subst, arith}
use Rattle.std.specs.List.{AllByRecursion}
use Rattle.seg_spec.specs.Bytes.{set_word, IsSame, ChangesOnly}
use Rattle.seg_spec.specs.Header.{index_cell, heap_start}
use Rattle.seg_spec.specs.Pointer.{target}
use Rattle.seg_spec.specs.Types.{Table}
use Rattle.seg_spec.specs.Heap.{units_at, live, IsHeap}
use Rattle.seg_spec.specs.Block.{KeepsHeader, KeepsBlock, IsOwnable, block_of}
use Rattle.seg_spec.specs.Apart.{Separate, BlocksApart, KeepsBlockAround}
use Rattle.seg_spec.specs.Shapes.{Tree, nodes_of, IsTree, IsRedBlack}
use Rattle.seg_spec.specs.Reads.{count_at}
use Rattle.seg_spec.specs.Sound.{times, positions}
use Rattle.seg_spec.proofs.BytesLaws.{number-set_same}
use Rattle.seg_spec.proofs.SliceLaws.{IsSame-trans}
use Rattle.seg_spec.proofs.Images.RootWriteLaws.{set_number-changes}
use Rattle.seg_spec.proofs.Values.PlaceFrameLaws.{each_map, each_of_map, each_weaker, each_both, word-same, target-same, IsTree-same}
use Rattle.seg_spec.proofs.Heap.LiveBlockLaws.{LiesIn, there, each_there, live-lie, live-apart, OneOrApart, apart_once, not_there}
use Rattle.seg_spec.proofs.Heap.SeveralWriteLaws.{Range, Beside, IsWritable, heap_same, live_same, ownable_same, header_then, part_same, whole_then, around_then}
use Rattle.seg_value.proofs.HeaderLaws.{header_fits}
use Rattle.seg_rbtree.specs.Changes.{NodesApart, StandApart, Leaves}

-- the bytes of a node's tree words
abbrev pub words_of : ℕ → Range
words_of q = record { at = q; n = 16; block = block_of q }

-- a node's tree words lie in an allocated block, and so may be written
pub record IsTouched (bytes : List ℕ) (q : ℕ) : Type 0 where
  pub after_header : 16 ≤ q
  pub is_live : 1 ≤ times (block_of q) (positions (live bytes))

-- the bytes after the tree words of some nodes were written
pub record Remade (allocator : ℕ) (mid new : List ℕ) (n : ℕ) (touched now : List ℕ) : Type 0 where
  pub length_kept : length new ≡ length mid
  pub low : (p m : ℕ) → Separate p m index_cell 8 → p + m ≤ heap_start → IsSame mid new p m
  pub heap : IsHeap allocator new
  pub live_is : live new ≡ live mid
  pub ownable : (table : Table) → AllByRecursion (λ b. IsOwnable mid table b.at) (live mid) → AllByRecursion (λ b. IsOwnable new table b.at) (live new)
  pub header : (h : ℕ) → 1 ≤ times h (positions (live mid)) → KeepsHeader mid new h
  pub whole : (h : ℕ) → 1 ≤ times h (positions (live mid)) → times h (map block_of touched) ≡ 0 → KeepsBlock mid new h
  -- the bytes of a node after its tree words are kept
  pub content : (q p m : ℕ) → 16 ≤ q → 1 ≤ times (block_of q) (positions (live mid)) → q + 16 ≤ p → p + m ≤ block_of q + 16 * units_at mid (block_of q) → IsSame mid new p m
  pub around : (h : ℕ) → 1 ≤ times h (positions (live mid)) → KeepsBlockAround mid new (h + 16) 16 h
  pub tree : Tree
  pub is_tree : IsTree new (target new index_cell) tree
  pub red_black : IsRedBlack tree
  pub nodes_are : nodes_of tree ≡ now
  pub count_is : count_at new index_cell ≡ n

-- ---- nodes in separate blocks

module _ (allocator : ℕ) (bytes : List ℕ) (heap : IsHeap allocator bytes) (ns : List ℕ) (each : AllByRecursion (IsTouched bytes) ns) (once : (h : ℕ) → times h (map block_of ns) ≤ 1) where
  lies_there : (h : ℕ) → 1 ≤ times h (positions (live bytes)) → LiesIn bytes heap_start (length bytes) h
  lies_there h some = there (LiesIn bytes heap_start (length bytes)) h (positions (live bytes)) (live-lie bytes allocator heap) some

  among_live : (h : ℕ) → 1 ≤ times h (map block_of ns) → 1 ≤ times h (positions (live bytes))
  among_live h some = there (λ x. 1 ≤ times x (positions (live bytes))) h (map block_of ns) (each_map (λ x. 1 ≤ times x (positions (live bytes))) block_of ns (each_weaker _ _ (λ q t. t.is_live) ns each)) some

  blocks_apart : BlocksApart bytes (map block_of ns)
  blocks_apart = apart_once bytes (map block_of ns)
      (each_there _ (map block_of ns) (λ g some. each_there _ (map block_of ns)
      (λ h more. there (OneOrApart bytes g) h (positions (live bytes)) (there (λ t. AllByRecursion (OneOrApart bytes t) (positions (live bytes))) g (positions (live bytes)) (live-apart bytes allocator heap) (among_live g some))
      (among_live h more))))
      once

  words_apart : (x y : ℕ) → 16 ≤ x → 16 ≤ y → 2 ≤ units_at bytes (block_of x) → 2 ≤ units_at bytes (block_of y) → Separate (block_of x) (16 * units_at bytes (block_of x)) (block_of y) (16 * units_at bytes (block_of y)) → Separate x 16 y 16
  words_apart x y a b c d (inl l) = inl (omega arith)
  words_apart x y a b c d (inr l) = inr (omega arith)

  nodes_apart : (qs : List ℕ) → AllByRecursion (IsTouched bytes) qs → BlocksApart bytes (map block_of qs) → NodesApart qs
  nodes_apart [] t a = tt
  nodes_apart (x ∷ xs) t a = (
    each_both _ _ _ (λ y u sep. words_apart x y t.0.after_header u.after_header (lies_there (block_of x) t.0.is_live).size (lies_there (block_of y) u.is_live).size sep) xs t.1 (each_of_map _ block_of xs a.0),
    nodes_apart xs t.1 a.1,
  )

  -- the nodes' tree words and the cell's pointer don't overlap
  pub stand_apart : StandApart (length bytes) index_cell ns
  stand_apart = record {
    small = heap.small;
    word_fits = let l = header_fits allocator bytes heap in omega arith;
    nodes_fit = each_weaker _ _ (λ x t. let l = lies_there (block_of x) t.is_live in let back = t.after_header in let two = l.size in let end = l.high in omega arith) ns each;
    word_apart = each_weaker _ _ (λ x t. inl (let l = lies_there (block_of x) t.is_live in let low = l.low in let back = t.after_header in omega arith)) ns each;
    nodes_apart = nodes_apart ns each blocks_apart;
  }

-- ---- the tree after a change

module _ (allocator : ℕ) (mid three new : List ℕ) (n : ℕ) (touched now : List ℕ) (heap : IsHeap allocator mid) (l : Leaves mid three index_cell touched now) (new_is : new ≡ set_word three (index_cell + 4) n)
    (each : AllByRecursion (IsTouched mid) touched) (among : (P : ℕ → Type 0) → AllByRecursion P touched → AllByRecursion P now) where
  lies : (h : ℕ) → 1 ≤ times h (positions (live mid)) → LiesIn mid heap_start (length mid) h
  lies h some = there (LiesIn mid heap_start (length mid)) h (positions (live mid)) (live-lie mid allocator heap) some

  above : AllByRecursion (λ q. heap_start + 16 ≤ q) touched
  above = each_weaker _ _ (λ q t. let low = (lies (block_of q) t.is_live).low in let back = t.after_header in omega arith) touched each

  counted : ChangesOnly three new (index_cell + 4) 4
  counted = subst (λ bs. ChangesOnly three bs (index_cell + 4) 4) (sym new_is) (set_number-changes 4 three (index_cell + 4) n)

  long : length new ≡ length mid
  long = counted.length_kept ∙ l.kept.length_kept

  abbrev ranges : List Range
  ranges = map words_of touched

  beside : (p m : ℕ) → heap_start ≤ p → Beside p m ranges → IsSame mid new p m
  beside p m low b = IsSame-trans mid three new p m (l.kept.others p m (inr (omega arith)) (each_of_map (λ r. Separate p m r.at r.n) words_of touched b)) (counted.others p m (inr (omega arith)))

  header_same : (p m : ℕ) → Separate p m index_cell 8 → p + m ≤ heap_start → IsSame mid new p m
  header_same p m apart fits = IsSame-trans mid three new p m (l.kept.others p m (first apart) (each_weaker _ _ (λ q a. inl (omega arith)) touched above)) (counted.others p m (second apart))
    where
      first : Separate p m index_cell 8 → Separate p m index_cell 4
      first (inl a) = inl a
      first (inr a) = inr (omega arith)

      second : Separate p m index_cell 8 → (p + m ≤ index_cell + 4) ⊎ (index_cell + 4 + 4 ≤ p)
      second (inl a) = inl (omega arith)
      second (inr a) = inr (omega arith)

  root_kept : IsSame mid new 24 4
  root_kept = header_same 24 4 (inl (omega arith)) (omega arith)

  node_writable : (q : ℕ) → IsTouched mid q → IsWritable mid (words_of q)
  node_writable q t =
      let i = lies (block_of q) t.is_live in
      let two = i.size in
      let low = t.after_header in
      record { inside = record { low = omega arith; high = omega arith }; is_live = t.is_live }

  writable : AllByRecursion (IsWritable mid) ranges
  writable = each_map (IsWritable mid) words_of touched (each_weaker _ _ (λ q t. node_writable q t) touched each)

  not_among : (h : ℕ) (qs : List ℕ) → times h (map block_of qs) ≡ 0 → AllByRecursion (λ q. block_of q ≢ h) qs
  not_among h qs none = each_of_map (λ x. x ≢ h) block_of qs (not_there h (map block_of qs) none)

  nodes_same : AllByRecursion (λ p. IsSame three new p 16) (nodes_of l.shape)
  nodes_same = subst (AllByRecursion (λ p. IsSame three new p 16)) (sym l.nodes_are) (among (λ p. IsSame three new p 16) (each_weaker _ _ (λ q a. counted.others q 16 (inr (omega arith))) touched above))

  target_is : target new index_cell ≡ target three index_cell
  target_is = target-same three new index_cell (counted.others index_cell 4 (inl (omega arith)))

  fits : index_cell + 4 + 4 ≤ length three
  fits = let high = header_fits allocator mid heap in let same = l.kept.length_kept in omega arith

  -- the cell's count is the count before the change
  pub count_before : count_at three index_cell ≡ count_at mid index_cell
  count_before = word-same mid three (index_cell + 4) (l.kept.others (index_cell + 4) 4 (inr (omega arith)) (each_weaker _ _ (λ q a. inl (omega arith)) touched above))

  pub remade : n < 2 ^ 32 → Remade allocator mid new n touched now
  remade small = record {
    length_kept = long;
    low = header_same;
    heap = heap_same mid new allocator heap ranges writable long root_kept beside;
    live_is = live_same mid new allocator heap ranges writable long root_kept beside;
    ownable = λ table o. ownable_same mid new allocator heap ranges writable long root_kept beside table o;
    header = λ h some. header_then mid new allocator heap ranges writable long root_kept beside h some;
    whole = λ h some none. whole_then mid new allocator heap ranges writable long root_kept beside h some (each_map (λ r. r.block ≢ h) words_of touched (not_among h touched none));
    content = λ q p m back some low high. part_same mid new allocator heap ranges writable long root_kept beside (block_of q) some p m (omega arith) high
        (each_map (λ r. r.block ≡ block_of q → Separate p m r.at r.n) words_of touched (each_weaker _ _ (λ x t e. own q p m x back t.after_header low e) touched each));
    around = λ h some. around_then mid new allocator heap ranges writable long root_kept beside h some (h + 16) 16
        (each_map (λ r. r.block ≡ h → (h + 16 ≤ r.at) × (r.at + r.n ≤ h + 16 + 16)) words_of touched (each_weaker _ _ (λ q t e. words_at h q t.after_header e) touched each));
    tree = l.shape;
    is_tree = rw target_is (IsTree-same three new (target three index_cell) l.shape nodes_same l.tree.is_tree);
    red_black = l.tree.red_black;
    nodes_are = l.nodes_are;
    count_is = ap (λ bs. count_at bs index_cell) new_is ∙ number-set_same 4 three (index_cell + 4) n fits small;
  }
    where
      own : (q p m x : ℕ) → 16 ≤ q → 16 ≤ x → q + 16 ≤ p → x - 16 ≡ q - 16 → Separate p m x 16
      own q p m x a b low e = inr (omega arith)

      words_at : (h q : ℕ) → 16 ≤ q → q - 16 ≡ h → (h + 16 ≤ q) × (q + 16 ≤ h + 16 + 16)
      words_at h q back e = (omega arith, omega arith)
