-- The positions of the parts of a value, and the bytes that a step reads beside them.
use Rattle.std.proofs.Common.{◌≡◌, ℕ, zero, suc, ◌+◌, ◌*◌, ◌≤◌, ◌⊎◌, inl, inr, ⊎_elim, List, [], ◌∷◌, ◌++◌, map, Option, Some, None, unwrap_or}
use Rattle.std.proofs.Common.{option_to_list, option_map, MatchOption, refl, sym, ap, ◌∙◌, subst, arith, sum_by, add-zero, zero-add}
use Rattle.std.specs.Prelude.{⊤}
use Rattle.std.specs.List.{AllByRecursion}
use Rattle.std.proofs.lemmas.List.Sums.{sum_by-cons}
use Rattle.seg_spec.specs.Bytes.{IsSame}
use Rattle.seg_spec.specs.Pointer.{target}
use Rattle.seg_spec.specs.Types.{Form, Table, form_at, size, IsTable}
use Rattle.seg_spec.specs.Heap.{units_at}
use Rattle.seg_spec.specs.Block.{IsBlock, KeepsHeader, block_of}
use Rattle.seg_spec.specs.Shapes.{nodes_of, tree_words}
use Rattle.seg_spec.specs.Apart.{Separate, RangeApart, BlocksApart}
use Rattle.seg_spec.specs.Reads.{Place, Opened, count_at, named, start, spaced, places_of, fields, NamesRoom, AreNodes, Opens, map_words}
use Rattle.seg_spec.proofs.Tables.TypeSizeLaws.{size-form, size_large}
use Rattle.seg_spec.proofs.Values.PlaceFrameLaws.{each_left, each_right, each_of_map, each_weaker, cell-target, cell-count, keys_at-same, IsRing-same, IsTree-same, shorter, further}

-- ---- ranges of bytes

pub separate_sym : (f l g m : ℕ) → Separate f l g m → Separate g m f l
separate_sym f l g m s = ⊎_elim (λ a. inr a) (λ a. inl a) s

pub separate_parts : (f l g m f' l' g' m' : ℕ) → f ≤ f' → f' + l' ≤ f + l → g ≤ g' → g' + m' ≤ g + m → Separate f l g m → Separate f' l' g' m'
separate_parts f l g m f' l' g' m' a b c d s = ⊎_elim (λ e. inl (omega arith)) (λ e. inr (omega arith)) s

-- the ranges of n bytes at these positions are separate
abbrev pub Pairwise : ℕ → List ℕ → Type 0
Pairwise n [] = ⊤
Pairwise n (e ∷ es) = AllByRecursion (λ f. Separate e n f n) es × Pairwise n es

abbrev pub In : ℕ → List ℕ → Type 0
In h [] = ⊥
In h (x ∷ xs) = (h ≡ x) ⊎ In h xs

pub in_each : (P : ℕ → Type 0) (h : ℕ) (xs : List ℕ) → In h xs → AllByRecursion P xs → P h
in_each P h [] i a = absurd i
in_each P h (x ∷ xs) (inl e) a = rw e a.0
in_each P h (x ∷ xs) (inr i) a = in_each P h xs i a.1

pub in_left : (h : ℕ) (xs ys : List ℕ) → In h xs → In h (xs ++ ys)
in_left h [] ys i = absurd i
in_left h (x ∷ xs) ys (inl e) = inl e
in_left h (x ∷ xs) ys (inr i) = inr (in_left h xs ys i)

pub in_right : (h : ℕ) (xs ys : List ℕ) → In h ys → In h (xs ++ ys)
in_right h [] ys i = i
in_right h (x ∷ xs) ys i = inr (in_right h xs ys i)

module _ (old : List ℕ) where
  -- the n bytes from f on lie in the payload of a block
  pub record InBlock (f n h : ℕ) : Type 0 where
    pub low : h + 16 ≤ f
    pub high : f + n ≤ h + 16 * units_at old h

  abbrev pub InBlocks : ℕ → ℕ → List ℕ → Type 0
  InBlocks f n blocks = (h : ℕ) × In h blocks × InBlock f n h

  -- n bytes lie in the place, or in one of the blocks
  abbrev pub Located : ℕ → ℕ → List ℕ → ℕ → ℕ → Type 0
  Located at size blocks f n = ((at ≤ f) × (f + n ≤ at + size)) ⊎ InBlocks f n blocks

  pub located_apart : (at size : ℕ) (blocks : List ℕ) (f n g m : ℕ) → Located at size blocks f n → Separate at size g m → AllByRecursion (λ h. Separate h (16 * units_at old h) g m) blocks → Separate f n g m
  located_apart at size blocks f n g m (inl p) s a = separate_parts at size g m f n g m p.0 p.1 (omega arith) (omega arith) s
  located_apart at size blocks f n g m (inr p) s a =
      let i = p.2 in
      separate_parts p.0 (16 * units_at old p.0) g m f n g m (omega (arith, i.low)) (omega (arith, i.high)) (omega arith) (omega arith) (in_each _ p.0 blocks p.1 a)

  -- ---- entries: in a buffer, or in nodes

  above : (at step n : ℕ) → AllByRecursion (λ e. at ≤ e) (spaced at step n)
  above at step zero = tt
  above at step (suc n) = (omega arith, go (spaced (at + step) step n) (above (at + step) step n))
    where
      go : (es : List ℕ) → AllByRecursion (λ e. at + step ≤ e) es → AllByRecursion (λ e. at ≤ e) es
      go [] a = tt
      go (e ∷ es) a = (omega (arith, a.0), go es a.1)

  pub spaced_apart : (at step n : ℕ) → Pairwise step (spaced at step n)
  spaced_apart at step zero = tt
  spaced_apart at step (suc n) = (go (spaced (at + step) step n) (above (at + step) step n), spaced_apart (at + step) step n)
    where
      go : (es : List ℕ) → AllByRecursion (λ e. at + step ≤ e) es → AllByRecursion (λ e. Separate at step e step) es
      go [] a = tt
      go (e ∷ es) a = (inl (a.0), go es a.1)

  spaced_in : (p blk at step n : ℕ) → blk + 16 ≤ at → at + n * step ≤ blk + 16 * units_at old blk → AllByRecursion (λ e. InBlocks e step (blk ∷ [])) (spaced at step n)
  spaced_in p blk at step zero low high = tt
  spaced_in p blk at step (suc n) low high =
      let all : suc n * step ≡ step + n * step = grind arith in
      ((blk, inl refl, record { low = low; high = omega arith }), spaced_in p blk (at + step) step n (omega arith) (omega arith))

  pub buffer_in : (o : Option ℕ) (kind n each : ℕ) → 1 ≤ each → MatchOption o (n ≡ 0) (λ p. IsBlock old p kind (n * each)) → AllByRecursion (λ e. InBlocks e each (option_to_list (option_map block_of o))) (spaced (unwrap_or o 0) each n)
  buffer_in None kind n each some e = rw e tt
  buffer_in (Some p) kind zero each some b = tt
  buffer_in (Some p) kind (suc n) each some b =
      let all : suc n * each ≡ each + n * each = grind arith in
      spaced_in p (block_of p) p each (suc n) (omega (arith, b.after_header)) (omega (arith, b.after_header, b.room))

  node_in : (p kind n : ℕ) (blocks : List ℕ) → IsBlock old p kind n → 1 ≤ n → In (block_of p) blocks → InBlocks p n blocks
  node_in p kind n blocks b some i = (block_of p, i, record { low = omega (arith, b.after_header); high = omega (arith, b.after_header, b.room) })

  in_more : (x : ℕ) (hs : List ℕ) (n : ℕ) (ps : List ℕ) → AllByRecursion (λ e. InBlocks e n hs) ps → AllByRecursion (λ e. InBlocks e n (x ∷ hs)) ps
  in_more x hs n [] a = tt
  in_more x hs n (p ∷ ps) a = ((a.0.0, inr a.0.1, a.0.2), in_more x hs n ps a.1)

  pub nodes_in : (kind n : ℕ) (ps : List ℕ) → 1 ≤ n → AreNodes old kind n ps → AllByRecursion (λ e. InBlocks e n (map block_of ps)) ps
  nodes_in kind n [] some a = tt
  nodes_in kind n (p ∷ ps) some a = (node_in p kind n (map block_of (p ∷ ps)) a.0 some (inl refl), in_more (block_of p) (map block_of ps) n ps (nodes_in kind n ps some a.1))

  pub nodes_apart : (kind n : ℕ) (ps : List ℕ) → 1 ≤ n → AreNodes old kind n ps → BlocksApart old (map block_of ps) → Pairwise n ps
  nodes_apart kind n [] some a s = tt
  nodes_apart kind n (p ∷ ps) some a s = (go ps a.1 s.0, nodes_apart kind n ps some a.1 s.1)
    where
      go : (qs : List ℕ) → AreNodes old kind n qs → RangeApart old (block_of p) (16 * units_at old (block_of p)) (map block_of qs) → AllByRecursion (λ f. Separate p n f n) qs
      go [] b s = tt
      go (q ∷ qs) b s = (
        separate_parts (block_of p) (16 * units_at old (block_of p)) (block_of q) (16 * units_at old (block_of q)) p n q n
            (omega (arith, a.0.after_header)) (omega (arith, a.0.after_header, a.0.room)) (omega (arith, b.0.after_header)) (omega (arith, b.0.after_header, b.0.room)) s.0,
        go qs b.1 s.1,
      )

-- ---- entries that consist of a head of some bytes and a value

record SplitAt (U head : ℕ) (es : List ℕ) (before : List Place) (part : Place) (after : List Place) : Type 0 where
  left : List ℕ
  entry : ℕ
  right : List ℕ
  is : es ≡ left ++ entry ∷ right
  before_is : before ≡ places_of U (map (λ e. e + head) left)
  part_is : part ≡ record { at = entry + head; type = U }
  after_is : after ≡ places_of U (map (λ e. e + head) right)

head_is : {X : Type 0} (x y : X) (xs ys : List X) → x ∷ xs ≡ y ∷ ys → x ≡ y
head_is x y xs ys e = cc

tail_is : {X : Type 0} (x y : X) (xs ys : List X) → x ∷ xs ≡ y ∷ ys → xs ≡ ys
tail_is x y xs ys e = cc

cons_is : {X : Type 0} (x y : X) (xs ys : List X) → x ≡ y → xs ≡ ys → x ∷ xs ≡ y ∷ ys
cons_is x y xs ys e f = cc

split_at : (U head : ℕ) (es : List ℕ) (before : List Place) (part : Place) (after : List Place) → places_of U (map (λ e. e + head) es) ≡ before ++ part ∷ after → SplitAt U head es before part after
split_at U head [] [] part after e = cc
split_at U head [] (b ∷ before) part after e = cc
split_at U head (x ∷ es) [] part after e = record { left = []; entry = x; right = es; is = refl; before_is = refl; part_is = cc; after_is = cc }
split_at U head (x ∷ es) (b ∷ before) part after e =
    let first = head_is (record { at = x + head; type = U }) b (places_of U (map (λ e. e + head) es)) (before ++ part ∷ after) e in
    let s = split_at U head es before part after (tail_is (record { at = x + head; type = U }) b (places_of U (map (λ e. e + head) es)) (before ++ part ∷ after) e) in
    record {
      left = x ∷ s.left;
      entry = s.entry;
      right = s.right;
      is = ap (λ xs. x ∷ xs) s.is;
      before_is = cons_is b (record { at = x + head; type = U }) before (places_of U (map (λ e. e + head) s.left)) (sym first) s.before_is;
      part_is = s.part_is;
      after_is = s.after_is;
    }

pairwise_left : (n : ℕ) (xs : List ℕ) (e : ℕ) (ys : List ℕ) → Pairwise n (xs ++ e ∷ ys) → AllByRecursion (λ f. Separate f n e n) xs × AllByRecursion (λ f. Separate e n f n) ys
pairwise_left n [] e ys p = (tt, p.0)
pairwise_left n (x ∷ xs) e ys p =
    let rest = pairwise_left n xs e ys p.1 in
    ((here n x xs e ys p.0, rest.0), rest.1)
  where
    here : (n x : ℕ) (xs : List ℕ) (e : ℕ) (ys : List ℕ) → AllByRecursion (λ f. Separate x n f n) (xs ++ e ∷ ys) → Separate x n e n
    here n x [] e ys a = a.0
    here n x (y ∷ xs) e ys a = here n x xs e ys a.1

in_part : (old : List ℕ) (f n g m : ℕ) (blocks : List ℕ) → f ≤ g → g + m ≤ f + n → InBlocks old f n blocks → InBlocks old g m blocks
in_part old f n g m blocks low high i =
    let b = i.2 in
    (i.0, i.1, record { low = omega (arith, b.low); high = omega (arith, b.high) })

-- ---- a part of a place, and the bytes around it

pub record Clears (table : Table) (part : Place) (reads : List (ℕ × ℕ)) (before after : List Place) : Type 0 where
  pub reads_clear : AllByRecursion (λ (r : ℕ × ℕ). Separate r.0 r.1 part.at (size table part.type)) reads
  pub before_clear : AllByRecursion (λ q. Separate q.at (size table q.type) part.at (size table part.type)) before
  pub after_clear : AllByRecursion (λ q. Separate q.at (size table q.type) part.at (size table part.type)) after

abbrev pub LocatedPlace : List ℕ → Table → Place → List ℕ → Place → Type 0
LocatedPlace old table place blocks q = Located old place.at (size table place.type) blocks q.at (size table q.type)

pub record Surround (old new : List ℕ) (table : Table) (place : Place) (form : Form) (opened : Opened) (before : List Place) (part : Place) (after : List Place) : Type 0 where
  pub reads : List (ℕ × ℕ)
  pub opens : AllByRecursion (λ (r : ℕ × ℕ). IsSame old new r.0 r.1) reads → AllByRecursion (KeepsHeader old new) opened.blocks → Opens new table place form opened
  pub reads_in : AllByRecursion (λ (r : ℕ × ℕ). Located old place.at (size table place.type) opened.blocks r.0 r.1) reads
  pub part_in : LocatedPlace old table place opened.blocks part
  pub before_in : AllByRecursion (LocatedPlace old table place opened.blocks) before
  pub after_in : AllByRecursion (LocatedPlace old table place opened.blocks) after
  pub clears : RangeApart old place.at (size table place.type) opened.blocks → BlocksApart old opened.blocks → Clears table part reads before after

module _ (old new : List ℕ) (table : Table) (place : Place) (form : Form) (opened : Opened) (U head : ℕ) (es : List ℕ)
    (cell : size table place.type ≡ 8)
    (parts_are : opened.parts ≡ places_of U (map (λ e. e + head) es))
    (located : AllByRecursion (λ e. InBlocks old e (head + size table U) opened.blocks) es)
    (apart : BlocksApart old opened.blocks → Pairwise (head + size table U) es)
    (opens : IsSame old new place.at 8 → AllByRecursion (KeepsHeader old new) opened.blocks → AllByRecursion (λ e. IsSame old new e head) es → Opens new table place form opened) where
  reads_of : List (ℕ × ℕ)
  reads_of = (place.at, 8) ∷ map (λ e. (e, head)) es

  values_in : (xs : List ℕ) → AllByRecursion (λ e. InBlocks old e (head + size table U) opened.blocks) xs → AllByRecursion (LocatedPlace old table place opened.blocks) (places_of U (map (λ e. e + head) xs))
  values_in [] a = tt
  values_in (x ∷ xs) a = (inr (in_part old x (head + size table U) (x + head) (size table U) opened.blocks (omega arith) (omega arith) a.0), values_in xs a.1)

  heads_in : (xs : List ℕ) → AllByRecursion (λ e. InBlocks old e (head + size table U) opened.blocks) xs → AllByRecursion (λ (r : ℕ × ℕ). Located old place.at (size table place.type) opened.blocks r.0 r.1) (map (λ e. (e, head)) xs)
  heads_in [] a = tt
  heads_in (x ∷ xs) a = (inr (in_part old x (head + size table U) x head opened.blocks (omega arith) (omega arith) a.0), heads_in xs a.1)

  -- the value of an entry doesn't overlap other entries
  values_clear : (e : ℕ) (xs : List ℕ) → AllByRecursion (λ f. Separate f (head + size table U) e (head + size table U)) xs
      → AllByRecursion (λ q. Separate q.at (size table q.type) (e + head) (size table U)) (places_of U (map (λ e. e + head) xs))
  values_clear e [] a = tt
  values_clear e (x ∷ xs) a = (separate_parts x (head + size table U) e (head + size table U) (x + head) (size table U) (e + head) (size table U) (omega arith) (omega arith) (omega arith) (omega arith) a.0, values_clear e xs a.1)

  heads_clear : (e : ℕ) (xs : List ℕ) → AllByRecursion (λ f. Separate f (head + size table U) e (head + size table U)) xs → AllByRecursion (λ (r : ℕ × ℕ). Separate r.0 r.1 (e + head) (size table U)) (map (λ e. (e, head)) xs)
  heads_clear e [] a = tt
  heads_clear e (x ∷ xs) a = (separate_parts x (head + size table U) e (head + size table U) x head (e + head) (size table U) (omega arith) (omega arith) (omega arith) (omega arith) a.0, heads_clear e xs a.1)

  heads_append : (e : ℕ) (xs ys : List ℕ) → AllByRecursion (λ (r : ℕ × ℕ). Separate r.0 r.1 (e + head) (size table U)) (map (λ e. (e, head)) xs)
      → AllByRecursion (λ (r : ℕ × ℕ). Separate r.0 r.1 (e + head) (size table U)) (map (λ e. (e, head)) ys) → AllByRecursion (λ (r : ℕ × ℕ). Separate r.0 r.1 (e + head) (size table U)) (map (λ e. (e, head)) (xs ++ ys))
  heads_append e [] ys a b = b
  heads_append e (x ∷ xs) ys a b = (a.0, heads_append e xs ys a.1 b)

  turned : (e : ℕ) (xs : List ℕ) → AllByRecursion (λ f. Separate e (head + size table U) f (head + size table U)) xs → AllByRecursion (λ f. Separate f (head + size table U) e (head + size table U)) xs
  turned e [] a = tt
  turned e (x ∷ xs) a = (separate_sym e (head + size table U) x (head + size table U) a.0, turned e xs a.1)

  cell_clear : (e : ℕ) → InBlocks old e (head + size table U) opened.blocks → RangeApart old place.at (size table place.type) opened.blocks → Separate place.at 8 (e + head) (size table U)
  cell_clear e i apart_from =
      let b = i.2 in
      separate_parts place.at (size table place.type) i.0 (16 * units_at old i.0) place.at 8 (e + head) (size table U) (omega arith) (omega (arith, cell)) (omega (arith, b.low)) (omega (arith, b.high))
      (in_each _ i.0 opened.blocks i.1 apart_from)

  surround_at : (before : List Place) (part : Place) (after : List Place) → SplitAt U head es before part after → Surround old new table place form opened before part after
  unfolding reads_of
  surround_at before part after s =
      let all : AllByRecursion (λ e. InBlocks old e (head + size table U) opened.blocks) (s.left ++ s.entry ∷ s.right) = rw s.is at located in
      let mine = each_right _ s.left (s.entry ∷ s.right) all in
      record {
        reads = reads_of;
        opens = λ same headers. opens same.0 headers (each_of_map _ _ es same.1);
        reads_in = (inl (omega arith, omega (arith, cell)), heads_in es located);
        part_in = rw s.part_is (values_in (s.entry ∷ []) (mine.0, tt)).0;
        before_in = rw s.before_is (values_in s.left (each_left _ s.left (s.entry ∷ s.right) all));
        after_in = rw s.after_is (values_in s.right mine.1);
        clears = λ place_apart blocks_apart.
            let pair = pairwise_left (head + size table U) s.left s.entry s.right (rw s.is at (apart blocks_apart)) in
            let lefts = pair.0 in
            let rights = turned s.entry s.right pair.1 in
            let value : Place = record { at = s.entry + head; type = U } in
            let heads = heads_append s.entry s.left (s.entry ∷ s.right) (heads_clear s.entry s.left lefts) (inl (omega arith), heads_clear s.entry s.right rights) in
            subst (λ (p : Place). Clears table p reads_of before after) (sym s.part_is)
            (record {
              reads_clear = (cell_clear s.entry mine.0 place_apart, subst (λ (xs : List ℕ). AllByRecursion (λ (r : ℕ × ℕ). Separate r.0 r.1 (s.entry + head) (size table U)) (map (λ e. (e, head)) xs)) (sym s.is) heads);
              before_clear = rw s.before_is (values_clear s.entry s.left lefts);
              after_clear = rw s.after_is (values_clear s.entry s.right rights);
            });
      }

  pub surround_entries : (before : List Place) (part : Place) (after : List Place) → opened.parts ≡ before ++ part ∷ after → Surround old new table place form opened before part after
  surround_entries before part after e = surround_at before part after (split_at U head es before part after (sym parts_are ∙ e))

-- ---- the forms

no_parts : (before : List Place) (part : Place) (after : List Place) → [] ≡ before ++ part ∷ after → ⊥
no_parts [] part after e = cc
no_parts (b ∷ before) part after e = cc

map_zero : (es : List ℕ) → map (λ e. e + 0) es ≡ es
map_zero [] = refl
map_zero (e ∷ es) = rw (add-zero e, map_zero es)

pub record InFields (table : Table) (at n : ℕ) (q : Place) : Type 0 where
  pub low : at ≤ q.at
  pub high : q.at + size table q.type ≤ at + n

pub fields_in : (table : Table) (at : ℕ) (Us : List ℕ) → AllByRecursion (InFields table at (sum_by (size table) Us)) (fields table at Us)
fields_in table at [] = tt
fields_in table at (U ∷ Us) =
    let all = sum_by-cons (size table) U Us in (
      record { low = omega arith; high = omega arith },
      each_weaker _ _ (λ q i. record { low = omega (arith, i.low); high = omega (arith, i.high) }) (fields table (at + size table U) Us) (fields_in table (at + size table U) Us),
    )

pub record FieldsSplit (table : Table) (at : ℕ) (before : List Place) (part : Place) (after : List Place) : Type 0 where
  pub low_is : at ≤ part.at
  pub below : AllByRecursion (λ q. q.at + size table q.type ≤ part.at) before
  pub above_it : AllByRecursion (λ q. part.at + size table part.type ≤ q.at) after

first_place : (a b : Place) → a ≡ b → (a.at ≡ b.at) × (a.type ≡ b.type)
first_place a b e = (ap (λ (p : Place). p.at) e, ap (λ (p : Place). p.type) e)

pub fields_split : (table : Table) (at : ℕ) (Us : List ℕ) (before : List Place) (part : Place) (after : List Place) → fields table at Us ≡ before ++ part ∷ after → FieldsSplit table at before part after
fields_split table at [] before part after e = absurd (no_parts before part after e)
fields_split table at (U ∷ Us) [] part after e =
    let place : Place = record { at = at; type = U } in
    let first = first_place place part (head_is place part (fields table (at + size table U) Us) after e) in
    let same : at + size table U ≡ part.at + size table part.type = rw (first.0, first.1) refl in
    let rest = tail_is place part (fields table (at + size table U) Us) after e in
    record {
      low_is = omega (arith, first.0);
      below = tt;
      above_it = subst (λ (ps : List Place). AllByRecursion (λ (q : Place). part.at + size table part.type ≤ q.at) ps) rest
          (each_weaker _ _ (λ q i. omega (arith, i.low)) (fields table (at + size table U) Us) (fields_in table (at + size table U) Us));
    }
fields_split table at (U ∷ Us) (b ∷ before) part after e =
    let place : Place = record { at = at; type = U } in
    let first = first_place place b (head_is place b (fields table (at + size table U) Us) (before ++ part ∷ after) e) in
    let same : at + size table U ≡ b.at + size table b.type = rw (first.0, first.1) refl in
    let s = fields_split table (at + size table U) Us before part after (tail_is place b (fields table (at + size table U) Us) (before ++ part ∷ after) e) in
    record { low_is = omega (arith, s.low_is); below = (omega (arith, s.low_is), s.below); above_it = s.above_it }

module _ (old new : List ℕ) where
  pub IsBlock-headers : (p kind n : ℕ) → KeepsHeader old new (block_of p) → IsBlock old p kind n → IsBlock new p kind n
  IsBlock-headers p kind n k b = record {
    after_header = b.after_header;
    live = k.live ∙ b.live;
    has_tag = k.has_tag ∙ b.has_tag;
    room = omega (arith, b.room, k.room);
  }

  room_headers : (o : Option ℕ) (kind n each : ℕ) → MatchOption o (n ≡ 0) (λ p. IsBlock old p kind (n * each)) → AllByRecursion (KeepsHeader old new) (option_to_list (option_map block_of o))
      → MatchOption o (n ≡ 0) (λ p. IsBlock new p kind (n * each))
  room_headers None kind n each e ks = e
  room_headers (Some p) kind n each b ks = IsBlock-headers p kind (n * each) ks.0 b

  NamesRoom-headers : (at kind each : ℕ) → IsSame old new at 8 → AllByRecursion (KeepsHeader old new) (named old at) → NamesRoom old at kind each → NamesRoom new at kind each
  NamesRoom-headers at kind each h ks r = rw (cell-target old new at h, cell-count old new at h) (room_headers (target old at) kind (count_at old at) each r ks)

  nodes_headers : (kind n : ℕ) (ps : List ℕ) → AllByRecursion (KeepsHeader old new) (map block_of ps) → AreNodes old kind n ps → AreNodes new kind n ps
  nodes_headers kind n [] ks h = tt
  nodes_headers kind n (p ∷ ps) ks h = (IsBlock-headers p kind n ks.0 h.0, nodes_headers kind n ps ks.1 h.1)

  module _ (table : Table) (valid : IsTable table) where
    pub surround : (place : Place) (form : Form) (opened : Opened) → form_at table place.type ≡ Some form → Opens old table place form opened → (before : List Place) (part : Place) (after : List Place)
        → opened.parts ≡ before ++ part ∷ after → Surround old new table place form opened before part after
    surround place Form.i64 opened f o before part after e = absurd (no_parts before part after (sym (ap (λ (r : Opened). r.parts) o) ∙ e))
    surround place Form.str opened f o before part after e = absurd (no_parts before part after (sym (ap (λ (r : Opened). r.parts) o.opened_is) ∙ e))
    surround place (Form.shared U) opened f o before part after e = absurd (no_parts before part after (sym (ap (λ (r : Opened). r.parts) o.opened_is) ∙ e))
    surround place (Form.vec U) opened f o before part after e =
        let at = place.at in
        let blocks : opened.blocks ≡ named old at = ap (λ (r : Opened). r.blocks) o.opened_is in
        surround_entries old new table place (Form.vec U) opened U 0 (spaced (start old at) (size table U) (count_at old at))
        (size-form table valid place.type (Form.vec U) f)
        (ap (λ (r : Opened). r.parts) o.opened_is ∙ ap (places_of U) (sym (map_zero (spaced (start old at) (size table U) (count_at old at)))))
        (rw (blocks, zero-add (size table U)) (buffer_in old (target old at) _ (count_at old at) (size table U) (omega (arith, size_large table valid U)) o.named_room))
        (λ _. rw (zero-add (size table U)) (spaced_apart old (start old at) (size table U) (count_at old at)))
        (λ cell headers _. record {
          named_room = NamesRoom-headers at _ (size table U) cell (rw blocks at headers) o.named_room;
          ascending = tt;
          opened_is = rw (cell-target old new at cell, cell-count old new at cell) o.opened_is;
        })
        before part after e
    surround place (Form.list U) opened f o before part after e =
        let at = place.at in
        let blocks : opened.blocks ≡ map block_of o.nodes = ap (λ (r : Opened). r.blocks) o.opened_is in
        surround_entries old new table place (Form.list U) opened U 8 o.nodes
        (size-form table valid place.type (Form.list U) f)
        (ap (λ (r : Opened). r.parts) o.opened_is)
        (rw blocks (nodes_in old _ (8 + size table U) o.nodes (omega arith) o.are_nodes))
        (λ sep. nodes_apart old _ (8 + size table U) o.nodes (omega arith) o.are_nodes (rw blocks at sep))
        (λ cell headers heads. record {
          nodes = o.nodes;
          ring = rw (cell-target old new at cell) (IsRing-same old new (target old at) o.nodes heads o.ring);
          counted = rw (cell-count old new at cell) o.counted;
          are_nodes = nodes_headers _ (8 + size table U) o.nodes (rw blocks at headers) o.are_nodes;
          opened_is = o.opened_is;
        })
        before part after e
    surround place (Form.flat_map U) opened f o before part after e =
        let at = place.at in
        let each = 8 + size table U in
        let entries = spaced (start old at) each (count_at old at) in
        let blocks : opened.blocks ≡ named old at = ap (λ (r : Opened). r.blocks) o.opened_is in
        surround_entries old new table place (Form.flat_map U) opened U 8 entries
        (size-form table valid place.type (Form.flat_map U) f)
        (ap (λ (r : Opened). r.parts) o.opened_is)
        (rw blocks (buffer_in old (target old at) _ (count_at old at) each (omega arith) o.named_room))
        (λ _. spaced_apart old (start old at) each (count_at old at))
        (λ cell headers heads. record {
          named_room = NamesRoom-headers at _ each cell (rw blocks at headers) o.named_room;
          ascending = rw (cell-target old new at cell, cell-count old new at cell, keys_at-same old new entries heads) o.ascending;
          opened_is = rw (cell-target old new at cell, cell-count old new at cell, keys_at-same old new entries heads) o.opened_is;
        })
        before part after e
    surround place (Form.map U) opened f o before part after e =
        let at = place.at in
        let nodes = nodes_of o.tree in
        let each = map_words + size table U in
        let blocks : opened.blocks ≡ map block_of nodes = ap (λ (r : Opened). r.blocks) o.opened_is in
        surround_entries old new table place (Form.map U) opened U map_words nodes
        (size-form table valid place.type (Form.map U) f)
        (ap (λ (r : Opened). r.parts) o.opened_is)
        (rw blocks (nodes_in old _ each nodes (omega arith) o.are_nodes))
        (λ sep. nodes_apart old _ each nodes (omega arith) o.are_nodes (rw blocks at sep))
        (λ cell headers heads.
        let keys = keys_at-same old new (map (λ p. p + tree_words) nodes) (further old new table valid map_words tree_words 8 nodes (omega arith) heads) in
        record {
          tree = o.tree;
          is_tree = rw (cell-target old new at cell) (IsTree-same old new (target old at) o.tree (shorter old new table valid map_words tree_words nodes (omega arith) heads) o.is_tree);
          red_black = o.red_black;
          counted = rw (cell-count old new at cell) o.counted;
          are_nodes = nodes_headers _ each nodes (rw blocks at headers) o.are_nodes;
          ascending = rw keys o.ascending;
          opened_is = rw keys o.opened_is;
        })
        before part after e
    surround place (Form.own U) opened f o before part after e =
        let at = place.at in
        let blocks : opened.blocks ≡ named old at = ap (λ (r : Opened). r.blocks) o.opened_is in
        surround_entries old new table place (Form.own U) opened U 0 (spaced (start old at) (size table U) (count_at old at))
        (size-form table valid place.type (Form.own U) f)
        (ap (λ (r : Opened). r.parts) o.opened_is ∙ ap (places_of U) (sym (map_zero (spaced (start old at) (size table U) (count_at old at)))))
        (rw (blocks, zero-add (size table U)) (buffer_in old (target old at) _ (count_at old at) (size table U) (omega (arith, size_large table valid U)) o.named_room))
        (λ _. rw (zero-add (size table U)) (spaced_apart old (start old at) (size table U) (count_at old at)))
        (λ cell headers _. record {
          named_room = NamesRoom-headers at _ (size table U) cell (rw blocks at headers) o.named_room;
          counted = rw (cell-target old new at cell, cell-count old new at cell) o.counted;
          opened_is = rw (cell-target old new at cell, cell-count old new at cell) o.opened_is;
        })
        before part after e
    surround place (Form.struct Us) opened f o before part after e =
        let total : size table place.type ≡ sum_by (size table) Us = size-form table valid place.type (Form.struct Us) f in
        let parts : fields table place.at Us ≡ before ++ part ∷ after = sym (ap (λ (r : Opened). r.parts) o) ∙ e in
        let s = fields_split table place.at Us before part after parts in
        let all = subst (λ (ps : List Place). AllByRecursion (LocatedPlace old table place opened.blocks) ps) parts
        (each_weaker _ _ (λ q i. inl (i.low, omega (arith, i.high))) (fields table place.at Us) (fields_in table place.at Us)) in
        let mine = each_right _ before (part ∷ after) all in
        record {
          reads = [];
          opens = λ _ _. o;
          reads_in = tt;
          part_in = mine.0;
          before_in = each_left _ before (part ∷ after) all;
          after_in = mine.1;
          clears = λ _ _. record {
            reads_clear = tt;
            before_clear = each_weaker _ _ (λ q l. inl l) before s.below;
            after_clear = each_weaker _ _ (λ q l. inr l) after s.above_it;
          };
        }
