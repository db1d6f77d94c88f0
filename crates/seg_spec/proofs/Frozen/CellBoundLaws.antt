-- A frozen object has at most as many cells as a segment has bytes, since shared cells don't
-- overlap.
use Rattle.std.proofs.Common.{◌≡◌, ℕ, suc, ◌+◌, ◌*◌, ◌≤◌, true, false, List, [], ◌∷◌, ◌++◌, length, map, Option, Some, None, option_to_list, option_map, MatchOption, sum_by, cond, eqb, refl, sym, ap, ◌∙◌, subst, arith}
use Rattle.std.specs.List.{AllByRecursion}
use Rattle.std.proofs.Math.Nat.{mul-le-mul_left}
use Rattle.std.proofs.lemmas.List.{length-append, length-map}
use Rattle.std.proofs.lemmas.List.Sums.{sum_by-cons}
use Rattle.seg_spec.specs.Pointer.{target}
use Rattle.seg_spec.specs.Types.{Form, Table, size, IsTable, size_of_form}
use Rattle.seg_spec.specs.Value.{Label, Value, node, Values, nil, cons, count}
use Rattle.seg_spec.specs.Heap.{Tile, span_of, units_at, tiles, Fill, AreHeaders, live_of, live, IsHeap, heap_start}
use Rattle.seg_spec.specs.Block.{IsBlock, block_of}
use Rattle.seg_spec.specs.Shapes.{nodes_of}
use Rattle.seg_spec.specs.Reads.{Place, Opened, count_at, start, spaced, places_of, items, fields, AreNodes, shared_label, Opens, Holds, holds, HoldsEach, holds_none, holds_more, map_words}
use Rattle.seg_spec.specs.Index.{Root}
use Rattle.seg_spec.specs.Frozen.{Frozen, root_of_frozen}
use Rattle.seg_spec.specs.Sound.{Picture, roots_of, payload_of, HoldsRoot, HoldsRoots, holds_no_root, holds_more_roots, IsHeld, times, positions}
use Rattle.seg_spec.specs.Shared.{names_in, names_each, names_of, times_named}
use Rattle.seg_spec.specs.Counting.{cells_in, owners_in, AreCounted}
use Rattle.seg_spec.proofs.Tables.TypeSizeLaws.{size-form}
use Rattle.seg_spec.proofs.Heap.LiveBlockLaws.{times-append, times-same}
use Rattle.seg_spec.proofs.Values.PlaceFrameLaws.{each_weaker}
use Rattle.seg_spec.proofs.Heap.BlockCountLaws.{split_at}
use Rattle.seg_spec.proofs.Values.ValueTypeLaws.{length-spaced}
use Rattle.seg_spec.proofs.Frozen.PictureCountLaws.{cells_append}

-- ---- the total size of several blocks

abbrev room_of : (ℕ → ℕ) → List ℕ → ℕ
room_of room [] = 0
room_of room (h ∷ hs) = room h + room_of room hs

room_append : (room : ℕ → ℕ) (xs ys : List ℕ) → room_of room (xs ++ ys) ≡ room_of room xs + room_of room ys
room_append room [] ys = omega arith
room_append room (x ∷ xs) ys = omega (arith, room_append room xs ys)

-- a list that contains each block at least as often has at least the same total size
room_more : (room : ℕ → ℕ) (xs ys : List ℕ) → ((h : ℕ) → times h xs ≤ times h ys) → room_of room xs ≤ room_of room ys
room_more room [] ys o = omega arith
room_more room (x ∷ xs) ys o =
    let r = split_at x ys (omega (arith, o x, times-same x xs)) in
    let rest = room_more room xs (r.left ++ r.right) (λ h.
    let e : times h ys ≡ times h (r.left ++ x ∷ r.right) = ap (times h) r.is in
    let a = times-append h r.left (x ∷ r.right) in
    let b = times-append h r.left r.right in
    let c = o h in
    omega arith) in
    let whole : room_of room ys ≡ room_of room (r.left ++ x ∷ r.right) = ap (room_of room) r.is in
    omega (arith, room_append room r.left (x ∷ r.right), room_append room r.left r.right)

-- ---- the total size of allocated blocks

-- the size of a block in bytes, by its header
bytes_at : List ℕ → ℕ → ℕ
bytes_at bytes h = 16 * units_at bytes h

block_has : (bytes : List ℕ) (p tag n : ℕ) → IsBlock bytes p tag n → n ≤ bytes_at bytes (block_of p)
unfolding bytes_at
block_has bytes p tag n b = omega (arith, b.room)

tile_has : (bytes : List ℕ) (t : Tile) → units_at bytes t.at ≡ t.units → bytes_at bytes t.at ≡ 16 * t.units
unfolding bytes_at
tile_has bytes t e = ap (λ u. 16 * u) e

live_room : (bytes : List ℕ) (ts : List Tile) (from to before : ℕ) → Fill from ts to → AreHeaders bytes before ts → from + room_of (bytes_at bytes) (positions (live_of ts)) ≤ to
live_room bytes [] from to before f hs = omega (arith, f)
live_room bytes (t ∷ ts) from to before f hs =
    let rest = live_room bytes ts (from + 16 * t.units) to t.units f.2 hs.1 in
    let has = tile_has bytes t hs.0.units_is in
    elim t.live as (λ b. from + room_of (bytes_at bytes) (positions (cond b (span_of t ∷ live_of ts) (live_of ts))) ≤ to) [ true ↦ omega arith | false ↦ omega arith ]

all_room : (allocator : ℕ) (bytes : List ℕ) → IsHeap allocator bytes → room_of (bytes_at bytes) (positions (live bytes)) ≤ length bytes
unfolding live
all_room allocator bytes heap = let l = live_room bytes (tiles bytes) heap_start (length bytes) 0 heap.filled heap.headers in omega arith

-- ---- the references in a value

-- the number of references that a label itself is
abbrev own_names : Label → ℕ
own_names (Label.shared T p) = 1
own_names _ = 0

names_node : (label : Label) (vs : Values) → length (names_in (node label vs)) ≡ own_names label + length (names_each vs)
unfolding names_in
names_node (Label.int k) vs = omega arith
names_node (Label.text bytes) vs = omega arith
names_node Label.seq vs = omega arith
names_node (Label.map keys) vs = omega arith
names_node Label.opt vs = omega arith
names_node Label.struct vs = omega arith
names_node (Label.shared T p) vs = omega arith

names_none : length (names_each nil) ≡ 0
unfolding names_each
names_none = refl

names_more : (v : Value) (vs : Values) → length (names_each (cons v vs)) ≡ length (names_in v) + length (names_each vs)
unfolding names_each
names_more v vs = length-append (names_in v) (names_each vs)

-- ---- places have room for the references in them

module _ (bytes : List ℕ) (table : Table) (valid : IsTable table) where
  -- the total size of several places
  abbrev width : List Place → ℕ
  width [] = 0
  width (q ∷ qs) = size table q.type + width qs

  width_places : (U : ℕ) (ps : List ℕ) → width (places_of U ps) ≡ length ps * size table U
  width_places U [] = omega arith
  width_places U (p ∷ ps) = omega (arith, width_places U ps)

  width_fields : (at : ℕ) (Us : List ℕ) → width (fields table at Us) ≡ sum_by (size table) Us
  width_fields at [] = refl
  width_fields at (U ∷ Us) = omega (arith, width_fields (at + size table U) Us, sum_by-cons (size table) U Us)

  abbrev room : List ℕ → ℕ
  room hs = room_of (bytes_at bytes) hs

  named_has : (o : Option ℕ) (tag n each : ℕ) → MatchOption o (n ≡ 0) (λ p. IsBlock bytes p tag (n * each)) → n * each ≤ room (option_to_list (option_map block_of o))
  named_has None tag n each e = rw e (omega arith)
  named_has (Some p) tag n each b = omega (arith, block_has bytes p tag (n * each) b)

  -- a buffer to which a cell points has room for its places
  buffer_has : (U : ℕ) (ps : List ℕ) (o : Option ℕ) (tag n each : ℕ) → length ps ≡ n → size table U ≤ each → MatchOption o (n ≡ 0) (λ p. IsBlock bytes p tag (n * each))
      → width (places_of U ps) ≤ room (option_to_list (option_map block_of o))
  buffer_has U ps o tag n each long le b =
      let wide : width (places_of U ps) ≡ n * size table U = width_places U ps ∙ ap (λ k. k * size table U) long in
      omega (arith, named_has o tag n each b, mul-le-mul_left n le)

  items_have : (U : ℕ) (o : Option ℕ) (tag at n : ℕ) → MatchOption o (n ≡ 0) (λ p. IsBlock bytes p tag (n * size table U)) → width (items table at U n) ≤ room (option_to_list (option_map block_of o))
  items_have U o tag at n b = buffer_has U (spaced at (size table U) n) o tag n (size table U) (length-spaced at (size table U) n) (omega arith) b

  nodes_have : (tag more U : ℕ) (f : ℕ → ℕ) (ps : List ℕ) → AreNodes bytes tag (more + size table U) ps → width (places_of U (map f ps)) ≤ room (map block_of ps)
  nodes_have tag more U f [] a = omega arith
  nodes_have tag more U f (p ∷ ps) a = omega (arith, block_has bytes p tag (more + size table U) a.0, nodes_have tag more U f ps a.1)

  -- The cell's own bytes and the blocks to which it points have room for the places inside, and for
  -- a reference.
  abbrev HasRoom : ℕ → Opened → Type 0
  HasRoom n opened = own_names opened.label + width opened.parts ≤ n + room opened.blocks

  one_name : (U : ℕ) (o : Option ℕ) → own_names (shared_label U o) ≤ 1
  one_name U None = omega arith
  one_name U (Some p) = omega arith

  opens_room : (place : Place) (form : Form) (opened : Opened) → Opens bytes table place form opened → HasRoom (size_of_form table form) opened
  opens_room place Form.i64 opened o = subst (HasRoom 8) (sym o) (omega arith)
  opens_room place Form.str opened o = subst (HasRoom 8) (sym o.opened_is) (omega arith)
  opens_room place (Form.vec U) opened o =
      subst (HasRoom 8) (sym o.opened_is) (omega (arith, items_have U (target bytes place.at) _ (start bytes place.at) (count_at bytes place.at) o.named_room))
  opens_room place (Form.list U) opened o = subst (HasRoom 8) (sym o.opened_is) (omega (arith, nodes_have _ 8 U (λ p. p + 8) o.nodes o.are_nodes))
  opens_room place (Form.flat_map U) opened o =
      let n = count_at bytes place.at in
      let each = 8 + size table U in
      let entries = spaced (start bytes place.at) each n in
      let long = length-map entries (λ p. p + 8) ∙ length-spaced (start bytes place.at) each n in
      subst (HasRoom 8) (sym o.opened_is) (omega (arith, buffer_has U (map (λ p. p + 8) entries) (target bytes place.at) _ n each long (omega arith) o.named_room))
  opens_room place (Form.map U) opened o = subst (HasRoom 8) (sym o.opened_is) (omega (arith, nodes_have _ map_words U (λ p. p + map_words) (nodes_of o.tree) o.are_nodes))
  opens_room place (Form.own U) opened o =
      subst (HasRoom 8) (sym o.opened_is) (omega (arith, items_have U (target bytes place.at) _ (start bytes place.at) (count_at bytes place.at) o.named_room))
  opens_room place (Form.struct Us) opened o = subst (HasRoom (sum_by (size table) Us)) (sym o) (omega (arith, width_fields place.at Us))
  opens_room place (Form.shared U) opened o = subst (HasRoom 8) (sym o.opened_is) (omega (arith, one_name U (target bytes place.at)))

  mutual
    value_room : {place : Place} {v : Value} {blocks : List ℕ} → Holds bytes table place v blocks → length (names_in v) ≤ size table place.type + room blocks
    value_room {place = place} (holds form opened inside owned f o hs v_is blocks_are) =
        let step = opens_room place form opened o in
        let rest = values_room hs in
        let wide = size-form table valid place.type form f in
        let names : length (names_in (node opened.label inside)) ≤ size table place.type + room (opened.blocks ++ owned) =
        omega (arith, names_node opened.label inside, room_append (bytes_at bytes) opened.blocks owned) in
        rw (v_is, blocks_are) names

    values_room : {places : List Place} {vs : Values} {blocks : List ℕ} → HoldsEach bytes table places vs blocks → length (names_each vs) ≤ width places + room blocks
    values_room holds_none = omega (arith, names_none)
    values_room (holds_more {v = v} {vs = vs} {blocks = blocks} {owned = owned} h hs) =
        let first = value_room h in
        let rest = values_room hs in
        omega (arith, names_more v vs, room_append (bytes_at bytes) blocks owned)

  -- ---- roots

  root_room : (root : Root) (blocks : List ℕ) → HoldsRoot bytes table root blocks → length (names_each root.values) ≤ room blocks
  root_room root blocks h =
      let has = block_has bytes (payload_of root) _ _ h.block in
      let rest = values_room h.values in
      let wide = width_places root.type (spaced root.at (size table root.type) (count root.values)) in
      let long = ap (λ n. n * size table root.type) (length-spaced root.at (size table root.type) (count root.values)) in
      let names : length (names_each root.values) ≤ room (block_of (payload_of root) ∷ h.inside) = omega arith in
      rw h.blocks_are names

  roots_room : {roots : List Root} {blocks : List ℕ} → HoldsRoots bytes table roots blocks → length (cells_in roots) ≤ room blocks
  roots_room holds_no_root = omega arith
  roots_room (holds_more_roots {root = root} {roots = roots} {blocks = blocks} {rest = rest} h hs) =
      let first = root_room root blocks h in
      let others = roots_room hs in
      omega (arith, length-append (names_each root.values) (cells_in roots), room_append (bytes_at bytes) blocks rest)

-- ---- the references in a picture

-- a list of references contains each target at most as often as its length
few_named : (p : ℕ) (qs : List Place) → times_named p qs ≤ length qs
few_named p [] = omega arith
few_named p (q ∷ qs) =
    let rest = few_named p qs in
    elim (eqb q.at p) as (λ b. cond b 1 0 + times_named p qs ≤ suc (length qs)) [ true ↦ omega arith | false ↦ omega arith ]

cells_beside : (xs ys : List Root) → length (cells_in (xs ++ ys)) ≡ length (cells_in xs) + length (cells_in ys)
cells_beside xs ys = ap length (cells_append xs ys) ∙ length-append (cells_in xs) (cells_in ys)

-- the frozen objects and their roots have the same values
frozen_cells : (fs : List Frozen) → length (cells_in (map root_of_frozen fs)) ≡ length (names_of fs)
frozen_cells [] = refl
frozen_cells (f ∷ fs) =
    let rest = frozen_cells fs in
    omega (arith, names_more f.value nil, names_none, length-append (names_each (cons f.value nil)) (cells_in (map root_of_frozen fs)), length-append (names_in f.value) (names_of fs))

all_cells : (picture : Picture) → length (cells_in (owners_in picture) ++ names_of picture.frozen) ≡ length (cells_in (roots_of picture))
all_cells picture =
    let frozen = map root_of_frozen picture.frozen in
    omega (
      arith,
      length-append (cells_in (owners_in picture)) (names_of picture.frozen),
      frozen_cells picture.frozen,
      cells_beside picture.names (picture.uniques ++ picture.loose),
      cells_beside picture.uniques picture.loose,
      cells_beside picture.names (picture.uniques ++ (picture.loose ++ frozen)),
      cells_beside picture.uniques (picture.loose ++ frozen),
      cells_beside picture.loose frozen,
    )

-- The blocks of the roots are allocated, each once. So a picture has at most as many references as
-- its segment has bytes.
cells_fit : (bytes : List ℕ) (picture : Picture) → IsHeld bytes picture → length (cells_in (roots_of picture)) ≤ length bytes
cells_fit bytes picture held =
    let cells = roots_room bytes picture.table held.laid_out.is_table held.roots in
    let fewer = room_more (bytes_at bytes) held.root_blocks (positions (live bytes)) (λ h. omega (arith, held.owners h, times-append h held.index_blocks held.root_blocks)) in
    omega (arith, all_room _ bytes held.laid_out.heap)

pub counts_within : (bytes : List ℕ) (picture : Picture) (held : IsHeld bytes picture) (next : ℕ) → AreCounted next picture → AllByRecursion (λ (f : Frozen). f.count ≤ length bytes) picture.frozen
counts_within bytes picture held next c =
    each_weaker _ (λ (f : Frozen). f.count ≤ length bytes)
    (λ f e. omega (arith, few_named f.at (cells_in (owners_in picture) ++ names_of picture.frozen), all_cells picture, cells_fit bytes picture held))
    picture.frozen c.counted.counts
