-- On two images that are alike, in one state, an instruction frees the same blocks, in some order. So
-- it leaves the same allocated blocks.
use Rattle.std.proofs.Common.{◌≡◌, ◌≢◌, ℕ, zero, suc, ◌+◌, ◌-◌, ◌*◌, ◌≤◌, ◌⊎◌, inl, inr, Bool, true, false, List, [], ◌∷◌, ◌++◌, length, map, cond, eqb, Option, Some, None, refl, sym, ap, ◌∙◌, subst, arith}
use Rattle.std.specs.Prelude.{Contains, slice_get, option_and_then, nat_abs}
use Rattle.std.proofs.lemmas.Bool.Decides.{nat_tests}
use Rattle.seg_spec.specs.Bytes.{word}
use Rattle.seg_spec.specs.Header.{heap_start, allocator_word, next_word, index_kind_word, index_cell}
use Rattle.seg_spec.specs.Pointer.{target}
use Rattle.seg_spec.specs.Shapes.{tree_words, nodes_of}
use Rattle.seg_spec.specs.Types.{Form, Table, form_at}
use Rattle.seg_spec.specs.Value.{Label, Value, node, nil, Selector}
use Rattle.seg_spec.specs.Heap.{Span, live}
use Rattle.seg_spec.specs.Block.{block_of, has_buffer}
use Rattle.seg_spec.specs.Reads.{Place, Opened, Opens, Holds, count_at, named, start, spaced, AreNodes}
use Rattle.seg_spec.specs.Index.{Root, Index, OpensIndex, IsEntry, AreEntries, root_named, root_of_type}
use Rattle.seg_spec.specs.Frozen.{Frozen, root_of_frozen, blocks_by}
use Rattle.seg_spec.specs.Sound.{Picture, IsHeld, payload_of, roots_of, frozen_roots, HoldsRoot, times, SameBlocks, positions}
use Rattle.seg_spec.specs.Roots.{SamePicture}
use Rattle.seg_spec.specs.Shared.{names_in, names_each, AreDistinct, value_at_position, freed, raised_by}
use Rattle.seg_spec.specs.Destroying.{HoldFrozen}
use Rattle.seg_spec.specs.Counting.{AreCounted, FrozenGone}
use Rattle.seg_spec.specs.Demand.{Ask, after_asks, after_gives}
use Rattle.seg_spec.specs.Spending.{replaced, units_named, item_size, item_node, cut_to, PartBlocks, EntryBlocks, killed}
use Rattle.seg_spec.proofs.Heap.LiveBlockLaws.{LiesIn, times-append, times-same, times-more, there, live-lie}
use Rattle.seg_spec.proofs.Heap.FreeOrderLaws.{in_any_order}
use Rattle.std.specs.List.{AllByRecursion}
use Rattle.seg_spec.proofs.SliceLaws.{IsSame-part}
use Rattle.seg_spec.proofs.Values.PlaceFrameLaws.{word-same}
use Rattle.seg_spec.proofs.Values.ValueTypeLaws.{length-spaced}
use Rattle.seg_spec.proofs.Values.OneValueLaws.{Opens-one, Holds-one, HoldsEach-one}
use Rattle.seg_spec.proofs.Values.PartPositionLaws.{In}
use Rattle.client_spec.specs.declared.table.Operation.{Operation}
use Rattle.client_spec.specs.Syntax.{Constant, Instruction}
use Rattle.client_spec.specs.Machine.{◌>>=◌, Path, State, at_origin}
use Rattle.client_spec.specs.Answer.{Answer, success, bad_alloc, type_operand}
use Rattle.client_spec.specs.Pictures.{root_of_register, Pictures, part_through, value_through}
use Rattle.client_spec.specs.Ties.{places_of}
use Rattle.client_spec.specs.Asks.{LedTo, GrantsAsks, CutsBuffer, ChangesOnSuccess, ChangesBlocks, name_operand, WithFrozen, PlaceGoes, PartGoes, PopGoes, KeyGoes, RootGoes, NamedGoes, Refreezes, Renames, ReturnsBy, found_key}
use Rattle.client_sim.proofs.Names.OnePictureLaws.{OpensIndex-one, Held-one}
use Rattle.test_definitions.proofs.Alike.RootMemberLaws.{IsAmong, each_among, among_left, among_right, times_in, index_live, names_once, looked_up}
use Rattle.test_definitions.proofs.Frozen.FrozenOrderLaws.{IsOneOf, each_of}
use Rattle.test_definitions.proofs.Rows.PathOriginLaws.{at_place}
use Rattle.test_definitions.specs.Alike.{has_count, AlikeAt, opens_alike, AlikeRoot, AreAlike}
use Rattle.test_definitions.proofs.ValueChanges.AlikePlaceLaws.{open_alike, holds_alike, each_alike, nth_alike}
use Rattle.test_definitions.proofs.Alike.AlikeRootLaws.{both, of_type, of_register}
use Rattle.test_definitions.proofs.Rows.OneState.{AsPictured, as_pictured}
use Rattle.test_definitions.proofs.Rows.OnePlaceLaws.{RefersTo, led_in_both, led_one, place_buffer, kinds, asks_by}
use Rattle.test_definitions.proofs.Rows.OneFrozenLaws.{Reordered, reordered, reordered_then, in_both, among_frozen, freed_blocks}

-- ---- values through frozen objects

value_there : (f : Frozen) (fs : List Frozen) → IsOneOf f fs → AreDistinct fs → value_at_position fs f.at ≡ Some f.value
value_there f [] i d = absurd i
value_there f (g ∷ gs) (inl e) d = go (eqb g.at f.at) refl
  where
    go : (b : Bool) → eqb g.at f.at ≡ b → cond b (Some g.value) (value_at_position gs f.at) ≡ Some f.value
    go true is = ap (λ (x : Frozen). Some x.value) (sym e)
    go false is = (let at : f.at ≡ g.at = ap (λ (x : Frozen). x.at) e in let other : g.at ≢ f.at = grind (arith, nat_tests) in absurd (other (sym at)))
value_there f (g ∷ gs) (inr i) d = go (eqb g.at f.at) refl (value_there f gs i d.1)
  where
    go : (b : Bool) → eqb g.at f.at ≡ b → value_at_position gs f.at ≡ Some f.value → cond b (Some g.value) (value_at_position gs f.at) ≡ Some f.value
    go true is later = (let same : g.at ≡ f.at = grind (arith, nat_tests) in absurd (each_of (λ x. x.at ≢ g.at) f gs i d.0 (sym same)))
    go false is later = later

record IsAt (p : ℕ) (fs : List Frozen) : Type 0 where
  object : Frozen
  among : IsOneOf object fs
  at_is : object.at ≡ p

found_or_none : (p : ℕ) (fs : List Frozen) → (value_at_position fs p ≡ None) ⊎ IsAt p fs
found_or_none p [] = inl refl
found_or_none p (f ∷ fs) = go (eqb f.at p) refl (found_or_none p fs)
  where
    go : (b : Bool) → eqb f.at p ≡ b → (value_at_position fs p ≡ None) ⊎ IsAt p fs → (cond b (Some f.value) (value_at_position fs p) ≡ None) ⊎ IsAt p (f ∷ fs)
    go true is later = inr (record { object = f; among = inl refl; at_is = (let same : f.at ≡ p = grind (arith, nat_tests) in same) })
    go false is (inl none) = inl none
    go false is (inr a) = inr (record { object = a.object; among = inr a.among; at_is = a.at_is })

module _ (fs gs : List Frozen) (order : Reordered fs gs) where
  pub one_value_at : (p : ℕ) → value_at_position fs p ≡ value_at_position gs p
  one_value_at p = go (found_or_none p fs) (found_or_none p gs)
    where
      go : (value_at_position fs p ≡ None) ⊎ IsAt p fs → (value_at_position gs p ≡ None) ⊎ IsAt p gs → value_at_position fs p ≡ value_at_position gs p
      go (inr a) y = subst (λ n. value_at_position fs n ≡ value_at_position gs n) a.at_is (value_there a.object fs a.among order.distinct ∙ sym (value_there a.object gs (order.forth a.object a.among) order.distinct_too))
      go (inl none) (inr b) = subst (λ n. value_at_position fs n ≡ value_at_position gs n) b.at_is (value_there b.object fs (order.back b.object b.among) order.distinct ∙ sym (value_there b.object gs b.among order.distinct_too))
      go (inl none) (inl none_too) = none ∙ sym none_too

  one_part : (v : Value) (x : Selector) → part_through fs v x ≡ part_through gs v x
  one_part (node (Label.shared T p) nil) Selector.content = one_value_at p
  one_part v x = refl

  pub one_through : (xs : List Selector) (v : Value) → value_through fs v xs ≡ value_through gs v xs
  one_through [] v = refl
  one_through (x ∷ xs) v = λ i. option_and_then (λ w. one_through xs w i) (one_part v x i)

-- ---- the node of an entry in a tree

pub contained : (xs : List ℕ) (x : ℕ) → Contains xs x → 1 ≤ times x xs
contained [] x c = absurd (omega (arith, c.1))
contained (y ∷ ys) x (zero, fits, is) = subst (λ z. 1 ≤ times x (z ∷ ys)) (sym is) (let n = times-same x ys in omega arith)
contained (y ∷ ys) x (suc i, fits, is) = let n = contained ys x (i, omega (arith, fits), is) in let more = times-more x y ys in omega arith

pub record IsNode (block : ℕ) (ns : List ℕ) : Type 0 where
  pub it : ℕ
  pub inside : In it ns
  pub block_is : block_of it ≡ block

pub node_in : (block : ℕ) (ns : List ℕ) → In block (map block_of ns) → IsNode block ns
node_in block [] i = absurd i
node_in block (n ∷ ns) (inl e) = record { it = n; inside = inl refl; block_is = sym e }
node_in block (n ∷ ns) (inr i) = let k = node_in block ns i in record { it = k.it; inside = inr k.inside; block_is = k.block_is }

module _ (at : ℕ) where
  record PointedTo (names : List Root) : Type 0 where
    root : Root
    among : IsAmong root names
    at_is : root.at ≡ at

  points : (bytes : List ℕ) (entry : ℕ) (r : Root) → IsEntry bytes entry r → target bytes entry ≡ Some at → r.at ≡ at
  points bytes entry r e t = (let same : Some r.at ≡ Some at = sym e.points ∙ t in cc)

  pointed_to : (bytes ns : List ℕ) (names : List Root) (n : ℕ) → AreEntries bytes (map (λ p. p + tree_words) ns) names → In n ns → target bytes (n + tree_words) ≡ Some at → PointedTo names
  pointed_to bytes [] names n e i t = absurd i
  pointed_to bytes (x ∷ ns) [] n e i t = absurd e
  pointed_to bytes (x ∷ ns) (r ∷ names) n e (inl same) t = record { root = r; among = inl refl; at_is = points bytes (x + tree_words) r e.0 (subst (λ y. target bytes (y + tree_words) ≡ Some at) same t) }
  pointed_to bytes (x ∷ ns) (r ∷ names) n e (inr i) t = let k = pointed_to bytes ns names n e.1 i t in record { root = k.root; among = inr k.among; at_is = k.at_is }

  pub among_block : (r : Root) (names : List Root) → IsAmong r names → 1 ≤ times (block_of r.at) (map (λ (x : Root). block_of x.at) names)
  among_block r [] i = absurd i
  among_block r (x ∷ names) (inl e) = subst (λ (y : Root). 1 ≤ times (block_of r.at) (block_of y.at ∷ map (λ (z : Root). block_of z.at) names)) e (let n = times-same (block_of r.at) (map (λ (z : Root). block_of z.at) names) in omega arith)
  among_block r (x ∷ names) (inr i) = (let n = among_block r names i in let more = times-more (block_of r.at) (block_of x.at) (map (λ (z : Root). block_of z.at) names) in omega arith)

  -- a named object has one entry, in the same node of both images
  pub one_node : (first second ns : List ℕ) (names : List Root) (a b : ℕ) → AreEntries first (map (λ p. p + tree_words) ns) names → AreEntries second (map (λ p. p + tree_words) ns) names
      → ((h : ℕ) → times h (map (λ (x : Root). block_of x.at) names) ≤ 1) → In a ns → In b ns → target first (a + tree_words) ≡ Some at → target second (b + tree_words) ≡ Some at → a ≡ b
  one_node first second [] names a b e g once i j s t = absurd i
  one_node first second (x ∷ ns) [] a b e g once i j s t = absurd e
  one_node first second (x ∷ ns) (r ∷ names) a b e g once i j s t =
      by i j (λ i j. one_node first second ns names a b e.1 g.1 (λ h. (let o = once h in let m = times-more h (block_of r.at) (map (λ (z : Root). block_of z.at) names) in omega arith)) i j s t)
    where
      twice : (bytes : List ℕ) (n : ℕ) → AreEntries bytes (map (λ p. p + tree_words) ns) names → r.at ≡ at → In n ns → target bytes (n + tree_words) ≡ Some at → ⊥
      twice bytes n f same k u =
          let other = pointed_to bytes ns names n f k u in
          let some : 1 ≤ times (block_of r.at) (map (λ (z : Root). block_of z.at) names) = subst (λ p. 1 ≤ times (block_of p) (map (λ (z : Root). block_of z.at) names)) (other.at_is ∙ sym same) (among_block other.root names other.among) in
          let one = times-same (block_of r.at) (map (λ (z : Root). block_of z.at) names) in
          let o = once (block_of r.at) in
          omega arith

      by : (a ≡ x) ⊎ In a ns → (b ≡ x) ⊎ In b ns → (In a ns → In b ns → a ≡ b) → a ≡ b
      by (inl f) (inl h) later = f ∙ sym h
      by (inl f) (inr k) later = absurd (twice second b g.1 (points first (x + tree_words) r e.0 (subst (λ y. target first (y + tree_words) ≡ Some at) f s)) k t)
      by (inr k) (inl h) later = absurd (twice first a e.1 (points second (x + tree_words) r g.0 (subst (λ y. target second (y + tree_words) ≡ Some at) h t)) k s)
      by (inr k) (inr l) later = later k l

above : (bytes : List ℕ) (p : Picture) (held : IsHeld bytes p) (n : ℕ) → 1 ≤ times (block_of n) held.index_blocks → heap_start ≤ block_of n
above bytes p held n some = (there (LiesIn bytes heap_start (length bytes)) (block_of n) (positions (live bytes)) (live-lie bytes (word bytes allocator_word) held.laid_out.heap) (index_live bytes p held (block_of n) some)).low

-- the blocks of a tree index determine its nodes
pub nodes_one : (ns ms : List ℕ) → AllByRecursion (λ n. 16 ≤ n) ns → AllByRecursion (λ n. 16 ≤ n) ms → map block_of ns ≡ map block_of ms → ns ≡ ms
nodes_one [] [] a b e = refl
nodes_one [] (m ∷ ms) a b e = cc
nodes_one (n ∷ ns) [] a b e = cc
nodes_one (n ∷ ns) (m ∷ ms) a b e = (
    let blocks : block_of n ≡ block_of m = cc in
    let more : map block_of ns ≡ map block_of ms = cc in
    let one : n ≡ m = omega (arith, a.0, b.0, blocks) in
    let rest : ns ≡ ms = nodes_one ns ms a.1 b.1 more in
    cc)

pub nodes_above : (bytes : List ℕ) (tag each : ℕ) (ns : List ℕ) → AreNodes bytes tag each ns → AllByRecursion (λ n. 16 ≤ n) ns
nodes_above bytes tag each [] a = tt
nodes_above bytes tag each (n ∷ ns) a = (a.0.after_header, nodes_above bytes tag each ns a.1)

module _ {others : List Root} {places first second : List ℕ} (alike : AreAlike others places first second) where
  -- the blocks of the index that are freed with an entry
  one_entry : (root : Root) (kind : ℕ) (index other : Index) → OpensIndex first kind index → OpensIndex second kind other → AreEntries first index.entries alike.picture.names → AreEntries second other.entries alike.picture.names
      → alike.held.index_blocks ≡ index.blocks → alike.held_too.index_blocks ≡ other.blocks → (xs ys : List ℕ) → EntryBlocks kind first alike.held.index_blocks root xs → EntryBlocks kind second alike.held_too.index_blocks root ys → xs ≡ ys
  one_entry root zero index other o o' e e' are are' xs ys a b =
      let names : named second index_cell ≡ named first index_cell = sym (ap (λ (x : Index). x.blocks) o'.index_is) ∙ sym are' ∙ alike.index_same ∙ are ∙ ap (λ (x : Index). x.blocks) o.index_is in
      let n = alike.held.laid_out.names in
      let counts : count_at first index_cell ≡ count_at second index_cell = counted first index e o.index_is ∙ sym (counted second other e' o'.index_is) in
      a ∙ ap (λ n. cond (eqb n 1) (named first index_cell) []) counts ∙ ap (λ zs. cond (eqb (count_at second index_cell) 1) zs []) (sym names) ∙ sym b
    where
      entries_as_many : (bytes es : List ℕ) (names : List Root) → AreEntries bytes es names → length es ≡ length names
      entries_as_many bytes [] [] e = refl
      entries_as_many bytes [] (r ∷ names) e = absurd e
      entries_as_many bytes (x ∷ es) [] e = absurd e
      entries_as_many bytes (x ∷ es) (r ∷ names) e = ap suc (entries_as_many bytes es names e.1)

      counted : (bytes : List ℕ) (index : Index) → AreEntries bytes index.entries alike.picture.names
          → index ≡ record { blocks = named bytes index_cell; entries = spaced (start bytes index_cell) 8 (count_at bytes index_cell) } → count_at bytes index_cell ≡ length alike.picture.names
      counted bytes index e is = sym (length-spaced _ _ _) ∙ sym (ap (λ (x : Index). length x.entries) is) ∙ entries_as_many bytes index.entries alike.picture.names e
  one_entry root (suc k) index other o o' e e' are are' xs ys a b =
      let ns = nodes_of o.tree in
      let ms = nodes_of o'.tree in
      let is : alike.held.index_blocks ≡ map block_of ns = are ∙ ap (λ (x : Index). x.blocks) o.index_is in
      let is' : alike.held_too.index_blocks ≡ map block_of ms = are' ∙ ap (λ (x : Index). x.blocks) o'.index_is in
      let nodes : ms ≡ ns = nodes_one ms ns (nodes_above second _ _ ms o'.are_nodes) (nodes_above first _ _ ns o.are_nodes) (sym is' ∙ alike.index_same ∙ is) in
      let entries : AreEntries first (map (λ n. n + tree_words) ns) alike.picture.names = subst (λ es. AreEntries first es alike.picture.names) (ap (λ (x : Index). x.entries) o.index_is) e in
      let entries' : AreEntries second (map (λ n. n + tree_words) ns) alike.picture.names
      = subst (λ zs. AreEntries second (map (λ n. n + tree_words) zs) alike.picture.names) nodes (subst (λ es. AreEntries second es alike.picture.names) (ap (λ (x : Index). x.entries) o'.index_is) e') in
      let some_a = contained alike.held.index_blocks (block_of a.0) a.1 in
      let some_b = contained alike.held_too.index_blocks (block_of b.0) b.1 in
      let m = node_in (block_of a.0) ns (times_in (block_of a.0) (map block_of ns) (subst (λ zs. 1 ≤ times (block_of a.0) zs) is some_a)) in
      let n = node_in (block_of b.0) ns (times_in (block_of b.0) (map block_of ns) (subst (λ zs. 1 ≤ times (block_of b.0) (map block_of zs)) nodes (subst (λ zs. 1 ≤ times (block_of b.0) zs) is' some_b))) in
      let here : m.it ≡ a.0 = omega (arith, m.block_is, above first alike.picture alike.held a.0 some_a) in
      let here_too : n.it ≡ b.0 = omega (arith, n.block_is, above second alike.picture alike.held_too b.0 some_b) in
      let same : a.0 ≡ b.0 = one_node root.at first second ns alike.picture.names a.0 b.0 entries entries' (names_once first alike.picture alike.held)
      (subst (λ z. In z ns) here m.inside) (subst (λ z. In z ns) here_too n.inside) a.2 b.2 in
      a.3 ∙ ap (λ z. block_of z ∷ []) same ∙ sym b.3

  -- ---- objects

  tables : (p : Picture) → IsHeld first p → p.table ≡ alike.picture.table
  tables p h = (Held-one first p alike.picture h alike.held).table

  root_blocks : (root : Root) (xs ys : List ℕ) → IsAmong root (roots_of alike.picture) → HoldsRoot first alike.picture.table root xs → HoldsRoot second alike.picture.table root ys → xs ≡ ys
  root_blocks root xs ys i h k =
      let table = alike.picture.table in
      let same = each_among (AlikeRoot first second table) root (roots_of alike.picture) i alike.roots in
      let insides = (HoldsEach-one second table (each_alike first second table h.values same) k.values).1 in
      h.blocks_are ∙ ap (λ zs. block_of (payload_of root) ∷ zs) insides ∙ sym k.blocks_are

-- the blocks of the index
pub one_index : (bytes : List ℕ) (p q : Picture) (h : IsHeld bytes p) (k : IsHeld bytes q) → h.index_blocks ≡ k.index_blocks
one_index bytes p q h k =
    let n = h.laid_out.names in
    let m = k.laid_out.names in
    n.blocks_are ∙ ap (λ (x : Index). x.blocks) (OpensIndex-one bytes p.table (word bytes index_kind_word) n.index m.index n.opens m.opens) ∙ sym m.blocks_are

-- ---- requests

module _ {others : List Root} {places first second : List ℕ} (alike : AreAlike others places first second) where
  pub allocators : word second allocator_word ≡ word first allocator_word
  allocators = word-same first second allocator_word (IsSame-part first second 0 24 allocator_word 4 (omega arith) (omega arith) alike.front_same)

  pub left_same : (asks : List Ask) → after_asks (word second allocator_word) (live second) (length second) asks ≡ after_asks (word first allocator_word) (live first) (length first) asks
  left_same asks = λ i. after_asks (allocators i) (alike.live_same i) (alike.length_same i) asks

-- ---- what an instruction frees

pub killed_is : (o : Option Root) (T : ℕ) (root : Root) → killed o T ≡ Some root → o ≡ Some root
killed_is None T root e = cc
killed_is (Some r) T root e = go (eqb r.type T) e
  where
    go : (b : Bool) → cond b (Some r) None ≡ Some root → Some r ≡ Some root
    go true f = f
    go false f = cc

count_alike : {first second : List ℕ} {table : Table} {place : Place} (form : Form) → form_at table place.type ≡ Some form → has_count form ≡ true → AlikeAt first second table place → count_at second place.at ≡ count_at first place.at
count_alike form f e (opens_alike form' opened f' o p n each) = (let forms : form ≡ form' = cc in n (sym (ap has_count forms) ∙ e))

module _ (constants : List Constant) (i : Instruction) {others : List Root} {s : State} {places first second : List ℕ} (alike : AreAlike others places first second) (p : Pictures others s first) (q : Pictures others s second)
    (at : places_of p.owned ≡ places) (at_too : places_of q.owned ≡ places) where
  pictures : AsPictured p q
  pictures = both alike p q at at_too

  common : SamePicture p.picture alike.picture
  common = Held-one first p.picture alike.picture p.held alike.held

  common_too : SamePicture q.picture alike.picture
  common_too = Held-one second q.picture alike.picture q.held alike.held_too

  own : p.owned ≡ alike.own
  own = (as_pictured others places first second alike p q at at_too).1

  order : Reordered p.picture.frozen q.picture.frozen
  order = reordered_then (reordered first (word first next_word) p.picture alike.picture p.held alike.held p.counted alike.counted)
      (reordered second (word second next_word) alike.picture q.picture alike.held_too q.held (subst (λ n. AreCounted n alike.picture) (sym alike.next_same) alike.counted) q.counted)

  among_all : (f : Frozen) → IsOneOf f alike.picture.frozen → IsAmong (root_of_frozen f) (roots_of alike.picture)
  among_all f i = (
      let r = alike.picture in
      let root = root_of_frozen f in
      among_right root r.names (r.uniques ++ (r.loose ++ frozen_roots r)) (among_right root r.uniques (r.loose ++ frozen_roots r) (among_right root r.loose (frozen_roots r) (among_frozen f r.frozen i))))

  frozen_blocks : (theirs others : ℕ → List ℕ) → HoldFrozen first p.picture.table theirs p.picture.frozen → HoldFrozen second q.picture.table others q.picture.frozen → (f : Frozen) → IsOneOf f q.picture.frozen → theirs f.at ≡ others f.at
  frozen_blocks theirs others h k f i = root_blocks alike (root_of_frozen f) (theirs f.at) (others f.at) (among_all f (in_both second q.picture alike.picture q.held alike.held_too f i))
      (subst (λ (t : Table). HoldsRoot first t (root_of_frozen f) (theirs f.at)) common.table (each_of (λ (g : Frozen). HoldsRoot first p.picture.table (root_of_frozen g) (theirs g.at)) f p.picture.frozen (order.back f i) h))
      (subst (λ (t : Table). HoldsRoot second t (root_of_frozen f) (others f.at)) common_too.table (each_of (λ (g : Frozen). HoldsRoot second q.picture.table (root_of_frozen g) (others g.at)) f q.picture.frozen i k))

  frozen_too : (raised gone : List Place) (theirs others : ℕ → List ℕ) → HoldFrozen first p.picture.table theirs p.picture.frozen → HoldFrozen second q.picture.table others q.picture.frozen
      → SameBlocks (blocks_by theirs (freed gone (raised_by raised p.picture.frozen))) (blocks_by others (freed gone (raised_by raised q.picture.frozen)))
  frozen_too raised gone theirs others h k = freed_blocks raised gone p.picture.frozen q.picture.frozen theirs others order (frozen_blocks theirs others h k)

  joined : (own xs ys zs ws : List ℕ) → zs ≡ own ++ xs → ws ≡ own ++ ys → SameBlocks xs ys → SameBlocks zs ws
  joined own xs ys zs ws e f both h = (
      let a = ap (times h) e ∙ times-append h own xs in
      let b = ap (times h) f ∙ times-append h own ys in
      let c = both h in
      omega arith)

  with_frozen : (gone other : List Place) (own own_too : List ℕ) (xs ys : List ℕ) → gone ≡ other → own ≡ own_too → WithFrozen constants i p gone own xs → WithFrozen constants i q other own_too ys → SameBlocks xs ys
  with_frozen gone other own own_too xs ys e f a b =
      let k = subst (λ zs. FrozenGone second q.picture zs b.0) (sym e) b.1 in
      let both : SameBlocks a.0 b.0 = λ h. (ap (times h) a.1.blocks_are ∙ frozen_too [] gone a.1.theirs k.theirs a.1.holds k.holds h ∙ sym (ap (times h) k.blocks_are)) in
      joined own a.0 b.0 xs ys a.2 (b.2 ∙ ap (λ zs. zs ++ b.0) (sym f)) both

  -- ---- values

  one_value : (place : Place) {v w : Value} {xs ys : List ℕ} → AlikeAt first second s.types place → Holds first s.types place v xs → Holds second s.types place w ys → (v ≡ w) × (xs ≡ ys)
  one_value place a h k = Holds-one second s.types (holds_alike first second s.types h a) k

  place_goes : (place other : Place) (xs ys : List ℕ) → AlikeAt first second s.types place → place ≡ other → PlaceGoes constants i p place xs → PlaceGoes constants i q other ys → SameBlocks xs ys
  place_goes place other xs ys like e a b =
      let one = one_value place like a.holds (subst (λ z. Holds second s.types z b.value b.own) (sym e) b.holds) in
      with_frozen (names_in a.value) (names_in b.value) a.own b.own xs ys (ap names_in one.0) one.1 a.gives_are b.gives_are

  -- the blocks of a part
  one_part_blocks : (place : Place) (j : ℕ) (xs ys : List ℕ) → AlikeAt first second s.types place → (a : PartBlocks first s.types place j xs) (b : PartBlocks second s.types place j ys) → (a.value ≡ b.value) × (xs ≡ ys)
  one_part_blocks place j xs ys like a b =
      let forms : a.form ≡ b.form = (let e : Some a.form ≡ Some b.form = sym a.form_is ∙ b.form_is in cc) in
      let two = open_alike first second s.types a.form a.opened a.form_is a.opens like in
      let opened : a.opened ≡ b.opened = Opens-one second s.types place b.form a.opened b.opened (subst (λ (f : Form). Opens second s.types place f a.opened) forms two.opens) b.opens in
      let parts : a.part ≡ b.part = (let e : Some a.part ≡ Some b.part = sym a.part_is ∙ ap (λ (o : Opened). slice_get o.parts j) opened ∙ b.part_is in cc) in
      let part_like = nth_alike first second s.types a.opened.parts j a.part two.parts a.part_is in
      let one = one_value a.part part_like a.holds (subst (λ z. Holds second s.types z b.value b.blocks) (sym parts) b.holds) in (
        one.0,
        a.gives_are ∙ ap (λ (f : Form). item_node f a.opened.blocks j ++ a.blocks) forms ∙ ap (λ (o : Opened). item_node b.form o.blocks j ++ a.blocks) opened
            ∙ ap (λ zs. item_node b.form b.opened.blocks j ++ zs) one.1 ∙ sym b.gives_are,
      )

  part_goes : (place other : Place) (j k : ℕ) (xs ys : List ℕ) → AlikeAt first second s.types place → place ≡ other → j ≡ k → PartGoes constants i p place j xs → PartGoes constants i q other k ys → SameBlocks xs ys
  part_goes place other j k xs ys like e f a b =
      let a' = subst (λ z. PartGoes constants i p place z xs) f a in
      let b' = subst (λ z. PartGoes constants i q z k ys) (sym e) b in
      let one = one_part_blocks place k a'.own b'.own like a'.part b'.part in
      with_frozen (names_in a'.part.value) (names_in b'.part.value) a'.own b'.own xs ys (ap names_in one.0) one.1 a'.gives_are b'.gives_are

  pop_goes : (place other : Place) (form form' : Form) (j k : ℕ) (xs ys : List ℕ) → AlikeAt first second s.types place → place ≡ other → form ≡ form' → j ≡ k → PopGoes constants i p place form j xs
      → PopGoes constants i q other form' k ys → SameBlocks xs ys
  pop_goes place other form form' j k xs ys like e f g a b = by form' (subst (λ z. PopGoes constants i p place z j xs) f a) b
    where
      by : (form : Form) → PopGoes constants i p place form j xs → PopGoes constants i q other form k ys → SameBlocks xs ys
      by Form.str a b = λ h. ap (times h) (a ∙ sym b)
      by form a b = part_goes place other j k xs ys like e g a b

  key_goes : (place other : Place) (j : Option ℕ) (xs ys : List ℕ) → AlikeAt first second s.types place → place ≡ other → KeyGoes constants i p place j xs → KeyGoes constants i q other j ys → SameBlocks xs ys
  key_goes place other None xs ys like e a b = λ h. ap (times h) (a ∙ sym b)
  key_goes place other (Some j) xs ys like e a b = part_goes place other j j xs ys like e refl a b

  -- ---- objects

  one_root : (root : Root) (xs ys : List ℕ) → IsAmong root (roots_of alike.picture) → HoldsRoot first s.types root xs → HoldsRoot second s.types root ys → xs ≡ ys
  one_root root xs ys i h k = root_blocks alike root xs ys i (subst (λ (t : Table). HoldsRoot first t root xs) (sym p.types ∙ common.table) h) (subst (λ (t : Table). HoldsRoot second t root ys) (sym q.types ∙ common_too.table) k)

  root_goes : (root other : Option Root) (xs ys : List ℕ) → ((x : Root) → root ≡ Some x → IsAmong x (roots_of alike.picture)) → root ≡ other → RootGoes constants i p root xs → RootGoes constants i q other ys → SameBlocks xs ys
  root_goes root other xs ys among e a b = by root among a (subst (λ z. RootGoes constants i q z ys) (sym e) b)
    where
      by : (o : Option Root) → ((x : Root) → o ≡ Some x → IsAmong x (roots_of alike.picture)) → RootGoes constants i p o xs → RootGoes constants i q o ys → SameBlocks xs ys
      by None among a b = λ h. ap (times h) (a ∙ sym b)
      by (Some root) among a b = with_frozen (names_each root.values) (names_each root.values) a.0 b.0 xs ys refl (one_root root a.0 b.0 (among root refl) a.1 b.1) a.2 b.2

  named_goes : (root other : Option Root) (xs ys : List ℕ) → ((x : Root) → root ≡ Some x → IsAmong x (roots_of alike.picture)) → root ≡ other → NamedGoes constants i p root xs → NamedGoes constants i q other ys → SameBlocks xs ys
  named_goes root other xs ys among e a b = by root among a (subst (λ z. NamedGoes constants i q z ys) (sym e) b)
    where
      by : (o : Option Root) → ((x : Root) → o ≡ Some x → IsAmong x (roots_of alike.picture)) → NamedGoes constants i p o xs → NamedGoes constants i q o ys → SameBlocks xs ys
      by None among a b = λ h. ap (times h) (a ∙ sym b)
      by (Some root) among a b =
          let n = alike.held.laid_out.names in
          let m = alike.held_too.laid_out.names in
          let k = word first index_kind_word in
          let kinds' = kinds alike in
          let objects : a.0 ≡ b.0 = one_root root a.0 b.0 (among root refl) a.2 b.2 in
          let a_entry = subst (λ zs. EntryBlocks k first zs root a.1) (one_index first p.picture alike.picture p.held alike.held) a.3 in
          let b_kind = subst (λ z. EntryBlocks z second q.held.index_blocks root b.1) (sym kinds') b.3 in
          let b_entry = subst (λ zs. EntryBlocks k second zs root b.1) (one_index second q.picture alike.picture q.held alike.held_too) b_kind in
          let m_opens = subst (λ z. OpensIndex second z m.index) (sym kinds') m.opens in
          let entries : a.1 ≡ b.1 = one_entry alike root k n.index m.index n.opens m_opens n.entries m.entries n.blocks_are m.blocks_are a.1 b.1 a_entry b_entry in
          with_frozen (names_each root.values) (names_each root.values) (a.0 ++ a.1) (b.0 ++ b.1) xs ys refl (ap (λ zs. zs ++ a.1) objects ∙ ap (λ zs. b.0 ++ zs) entries) a.4 b.4

  refreezes : (place other : Place) (xs ys : List ℕ) → AlikeAt first second s.types place → place ≡ other → Refreezes constants i p place xs → Refreezes constants i q other ys → SameBlocks xs ys
  refreezes place other xs ys like e a b =
      let roots : a.root ≡ b.root = (let f : Some a.root ≡ Some b.root = sym a.owned ∙ ap (λ (rs : List Root). root_of_register s.registers rs i.c) pictures.owned ∙ b.owned in cc) in
      let one = one_value place like a.holds (subst (λ z. Holds second s.types z b.value b.own) (sym e) b.holds) in
      with_frozen (names_in a.value) (names_in b.value) (block_of a.root.at ∷ a.own) (block_of b.root.at ∷ b.own) xs ys (ap names_in one.0)
      (ap (λ (r : Root). block_of r.at ∷ a.own) roots ∙ ap (λ zs. block_of b.root.at ∷ zs) one.1) a.gives_are b.gives_are

  renames : (place other : Place) (xs ys : List ℕ) → AlikeAt first second s.types place → place ≡ other → Renames constants i p place xs → Renames constants i q other ys → SameBlocks xs ys
  renames place other xs ys like e a b =
      let one = one_value place like a.holds (subst (λ z. Holds second s.types z b.value b.own) (sym e) b.holds) in
      let paths : a.path ≡ b.path = (let f : Some a.path ≡ Some b.path = sym a.path_is ∙ b.path_is in cc) in
      let through : Path → List Frozen → Option Value = λ z fs. (at_origin s z.origin >>= λ found. value_through fs found.0 z.selectors) in
      let there_too : through a.path p.picture.frozen ≡ through a.path q.picture.frozen = under (at_origin s a.path.origin) a.path.selectors in
      let others : a.other ≡ b.other = (let f : Some a.other ≡ Some b.other = sym a.there ∙ there_too ∙ ap (λ z. through z q.picture.frozen) paths ∙ b.there in cc) in
      let b_gives = subst (λ v. ys ≡ b.own ++ blocks_by b.theirs (freed (names_in v) (raised_by (names_in b.other) q.picture.frozen))) (sym one.0) b.gives_are in
      let b_gives' = subst (λ v. ys ≡ b.own ++ blocks_by b.theirs (freed (names_in a.value) (raised_by (names_in v) q.picture.frozen))) (sym others) b_gives in
      let b_gives'' = subst (λ zs. ys ≡ zs ++ blocks_by b.theirs (freed (names_in a.value) (raised_by (names_in a.other) q.picture.frozen))) (sym one.1) b_gives' in
      joined a.own _ _ xs ys a.gives_are b_gives'' (frozen_too (names_in a.other) (names_in a.value) a.theirs b.theirs a.frozen_hold b.frozen_hold)
    where
      under : (o : Option (Value × ℕ)) (xs : List Selector) → (o >>= λ found. value_through p.picture.frozen found.0 xs) ≡ (o >>= λ found. value_through q.picture.frozen found.0 xs)
      under None xs = refl
      under (Some found) xs = one_through p.picture.frozen q.picture.frozen order xs found.0

  -- ---- roots among all roots

  named_among : (x : Root) → (name_operand constants i s >>= λ name. killed (root_named p.picture.names name) (type_operand i.number)) ≡ Some x → IsAmong x (roots_of alike.picture)
  named_among x = go (name_operand constants i s)
    where
      r : Picture
      r = alike.picture

      go : (o : Option (List ℕ)) → (o >>= λ name. killed (root_named p.picture.names name) (type_operand i.number)) ≡ Some x → IsAmong x (roots_of alike.picture)
      go None e = cc
      go (Some name) e = among_left x r.names (r.uniques ++ (r.loose ++ frozen_roots r)) (subst (IsAmong x) common.names (looked_up name x p.picture.names (killed_is (root_named p.picture.names name) (type_operand i.number) x e)).0)

  unique_among : (x : Root) → root_of_type p.picture.uniques (nat_abs i.number) ≡ Some x → IsAmong x (roots_of alike.picture)
  unique_among x e =
      let r = alike.picture in
      let unique = subst (IsAmong x) common.uniques (of_type p.picture.uniques (nat_abs i.number) x e) in
      among_right x r.names (r.uniques ++ (r.loose ++ frozen_roots r)) (among_left x r.uniques (r.loose ++ frozen_roots r) unique)

  owned_among : (r : ℕ) (x : Root) → root_of_register s.registers p.owned r ≡ Some x → IsAmong x (roots_of alike.picture)
  owned_among n x e =
      let r = alike.picture in
      let loose = subst (IsAmong x) (sym alike.loose) (among_right x others alike.own (subst (IsAmong x) own (of_register s.registers p.owned n x e))) in
      among_right x r.names (r.uniques ++ (r.loose ++ frozen_roots r)) (among_right x r.uniques (r.loose ++ frozen_roots r) (among_left x r.loose (frozen_roots r) loose))

module _ (constants : List Constant) (i : Instruction) {others : List Root} {s : State} {places first second : List ℕ} (alike : AreAlike others places first second) (p : Pictures others s first) (q : Pictures others s second)
    (at : places_of p.owned ≡ places) (at_too : places_of q.owned ≡ places) (there : at_place i.operation ≡ true → RefersTo s i.b)
    (cuts : i.operation ≡ Operation.Shrink → (place : Place) (form : Form) → LedTo constants i p place form → has_buffer (Some form) ≡ true)
    (pops : i.operation ≡ Operation.PopBack → (place : Place) (form : Form) → LedTo constants i p place form → has_count form ≡ true) where
  -- the place is alike in both images
  alike_at : RefersTo s i.b → (place : Place) (form : Form) → LedTo constants i p place form → AlikeAt first second s.types place
  alike_at found place form a = subst (λ (t : Table). AlikeAt first second t place) p.types (led_in_both constants i alike p q at at_too found place form a).alike_at

  one_led : RefersTo s i.b → (place other : Place) (form form' : Form) → LedTo constants i p place form → LedTo constants i q other form' → (place ≡ other) × (form ≡ form')
  one_led found = led_one constants i alike p q at at_too found

  pub returns_by : (o : Operation) → i.operation ≡ o → (xs ys : List ℕ) → ReturnsBy constants i p o xs → ReturnsBy constants i q o ys → SameBlocks xs ys
  returns_by Operation.Kill is xs ys a b =
      named_goes constants i alike p q at at_too _ _ xs ys (named_among constants i alike p q at at_too)
      (ap (λ (rs : List Root). name_operand constants i s >>= λ name. killed (root_named rs name) (type_operand i.number)) (pictures constants i alike p q at at_too).same.names) a b
  returns_by Operation.KillUnique is xs ys a b =
      root_goes constants i alike p q at at_too _ _ xs ys (unique_among constants i alike p q at at_too)
      (ap (λ (rs : List Root). root_of_type rs (nat_abs i.number)) (pictures constants i alike p q at at_too).same.uniques) a b
  returns_by Operation.Drop is xs ys a b =
      root_goes constants i alike p q at at_too _ _ xs ys (owned_among constants i alike p q at at_too i.b)
      (ap (λ (rs : List Root). root_of_register s.registers rs i.b) (pictures constants i alike p q at at_too).owned) a b
  returns_by Operation.Put is xs ys a b = place_goes constants i alike p q at at_too a.0 b.0 xs ys (alike_at (there (ap at_place is)) a.0 a.1 a.2) (one_led (there (ap at_place is)) a.0 b.0 a.1 b.1 a.2 b.2).0 a.3 b.3
  returns_by Operation.Clear is xs ys a b = place_goes constants i alike p q at at_too a.0 b.0 xs ys (alike_at (there (ap at_place is)) a.0 a.1 a.2) (one_led (there (ap at_place is)) a.0 b.0 a.1 b.1 a.2 b.2).0 a.3 b.3
  returns_by Operation.Freeze is xs ys a b = refreezes constants i alike p q at at_too a.0 b.0 xs ys (alike_at (there (ap at_place is)) a.0 a.1 a.2) (one_led (there (ap at_place is)) a.0 b.0 a.1 b.1 a.2 b.2).0 a.3 b.3
  returns_by Operation.Share is xs ys a b = renames constants i alike p q at at_too a.0 b.0 xs ys (alike_at (there (ap at_place is)) a.0 a.1 a.2) (one_led (there (ap at_place is)) a.0 b.0 a.1 b.1 a.2 b.2).0 a.3 b.3
  returns_by Operation.PopBack is xs ys a b =
      let one = one_led (there (ap at_place is)) a.0 b.0 a.1 b.1 a.2 b.2 in
      let like = alike_at (there (ap at_place is)) a.0 a.1 a.2 in
      pop_goes constants i alike p q at at_too a.0 b.0 a.1 b.1 (count_at first a.0.at - 1) (count_at second b.0.at - 1) xs ys like one.0 one.1
      (ap (λ n. n - 1) (sym (count_alike a.1 a.2.form_is (pops is a.0 a.1 a.2) like)) ∙ ap (λ (z : Place). count_at second z.at - 1) one.0) a.3 b.3
  returns_by Operation.PopFront is xs ys a b =
      let one = one_led (there (ap at_place is)) a.0 b.0 a.1 b.1 a.2 b.2 in
      pop_goes constants i alike p q at at_too a.0 b.0 a.1 b.1 0 0 xs ys (alike_at (there (ap at_place is)) a.0 a.1 a.2) one.0 one.1 refl a.3 b.3
  returns_by Operation.DeleteKey is xs ys a b = key_goes constants i alike p q at at_too a.0 b.0 (found_key i s) xs ys (alike_at (there (ap at_place is)) a.0 a.1 a.2) (one_led (there (ap at_place is)) a.0 b.0 a.1 b.1 a.2 b.2).0 a.3 b.3
  returns_by o is xs ys a b = λ h. ap (times h) (a ∙ sym b)

  replaced_by : (asks : List Ask) → replaced (word second allocator_word) (live second) (length second) asks ≡ replaced (word first allocator_word) (live first) (length first) asks
  replaced_by asks = λ i. replaced (allocators alike i) (alike.live_same i) (alike.length_same i) asks

  granted_live : (new other : List ℕ) → GrantsAsks constants i p new → GrantsAsks constants i q other → live new ≡ live other
  granted_live new other g h =
      let asks : g.asks ≡ h.asks = asks_by constants i alike p q at at_too there i.operation refl g.asks h.asks g.asked h.asked in
      let blocks : g.blocks ≡ h.blocks = (let e : Some g.blocks ≡ Some h.blocks = sym g.granted ∙ sym (left_same alike g.asks) ∙ ap (after_asks (word second allocator_word) (live second) (length second)) asks ∙ h.granted in cc) in
      let back = returns_by i.operation refl g.gives h.gives g.returned h.returned in
      let old = replaced (word second allocator_word) (live second) (length second) h.asks in
      let went : SameBlocks (old ++ g.gives) (old ++ h.gives) = joined constants i alike p q at at_too old g.gives h.gives (old ++ g.gives) (old ++ h.gives) refl refl back in
      let gone : replaced (word first allocator_word) (live first) (length first) g.asks ≡ old = sym (replaced_by g.asks) ∙ ap (replaced (word second allocator_word) (live second) (length second)) asks in
      g.left ∙ ap (λ bs. after_gives bs (replaced (word first allocator_word) (live first) (length first) g.asks ++ g.gives)) blocks ∙ ap (λ zs. after_gives h.blocks (zs ++ g.gives)) gone
      ∙ in_any_order h.blocks _ _ went ∙ sym h.left

  cut_live : (new other : List ℕ) → i.operation ≡ Operation.Shrink → CutsBuffer constants i p new → CutsBuffer constants i q other → live new ≡ live other
  cut_live new other is c d =
      let found = there (ap at_place is) in
      let one = one_led found c.place d.place c.form d.form c.led_to d.led_to in
      let b = place_buffer constants i alike p q at at_too found c.place c.form c.led_to (cuts is c.place c.form c.led_to) in
      let cut : Place → Form → List Span = λ place form. cut_to (live second) (length second) (target second place.at) (units_named second place.at) (count_at second place.at * item_size s.types form) in
      let same : cut_to (live first) (length first) (target first c.place.at) (units_named first c.place.at) (count_at first c.place.at * item_size s.types c.form) ≡ cut c.place c.form
      = λ i. cut_to (sym alike.live_same i) (sym alike.length_same i) (sym b.cell.pointer i) (sym b.units i) (sym b.cell.count i * item_size s.types c.form) in
      c.left ∙ same ∙ ap (λ (place : Place). cut place c.form) one.0 ∙ ap (λ (form : Form). cut d.place form) one.1 ∙ sym d.left

  success_live : (o : Operation) → i.operation ≡ o → (new other : List ℕ) → ChangesOnSuccess constants i p o new → ChangesOnSuccess constants i q o other → live new ≡ live other
  success_live Operation.Shrink is new other c d = cut_live new other is c d
  success_live o is new other c d = granted_live new other c d

  pub one_live : (answer : Answer) (new other : List ℕ) → ChangesBlocks constants i p answer new → ChangesBlocks constants i q answer other → live new ≡ live other
  one_live success new other c d = success_live i.operation refl new other c d
  one_live bad_alloc new other c d = c.left ∙ sym alike.live_same ∙ sym d.left
  one_live answer new other c d = c ∙ sym alike.live_same ∙ sym d
