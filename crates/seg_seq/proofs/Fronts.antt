-- The first item of a list, and the neighbours of an item.
use Rattle.std.proofs.Common.{◌≡◌, ℕ, zero, suc, ◌+◌, ◌-◌, ◌%◌, ◌^◌, ◌<◌, ◌≤◌, inr, List, [], ◌∷◌, ◌++◌, length, map, get_or, Option, Some, None, refl, sym, ap, ◌∙◌, subst, arith, length-append}
use Rattle.std.specs.Prelude.{slice_get}
use Rattle.std.specs.List.{AllByRecursion}
use Rattle.seg_spec.specs.Bytes.{ChangesOnly, IsSame}
use Rattle.seg_spec.specs.Pointer.{target, distance, set_pointer}
use Rattle.seg_spec.specs.Types.{Form, Table, form_at, size}
use Rattle.seg_spec.specs.Value.{Value, Values, nil, cons, count, append, Seq, Selector}
use Rattle.seg_spec.specs.Heap.{live, IsHeap}
use Rattle.seg_spec.specs.Block.{Kind, tag_of, block_of, IsBlock, IsInside, KeepsBlock}
use Rattle.seg_spec.specs.Reads.{Place, AreNodes, HoldsEach, holds_more, holds_none, Leads, here, start, count_at}
use Rattle.seg_spec.specs.Shapes.{IsRing}
use Rattle.seg_spec.specs.Sound.{times, positions}
use Rattle.seg_spec.specs.Roots.{ChangesPlace}
use Rattle.seg_spec.specs.Parts.{PersistEach, persist_none, KeepsParts}
use Rattle.seg_spec.specs.Owning.{Stands}
use Rattle.seg_spec.proofs.BytesLaws.{number-set_other}
use Rattle.seg_spec.proofs.Values.PlaceFrameLaws.{SamePlace, each_weaker, each_left, each_right, IsRing-same, Holds-kept, HoldsEach-kept, PersistEach-kept, nodes-same, inner-same, shorter}
use Rattle.seg_spec.proofs.Values.PersistenceLaws.{persist_then}
use Rattle.seg_spec.proofs.Heap.BlockFrameLaws.{around_twice}
use Rattle.seg_spec.proofs.Heap.LiveBlockLaws.{times-same, times-append, there}
use Rattle.seg_spec.proofs.Tables.TypeSizeLaws.{size-form}
use Rattle.seg_spec.proofs.Values.CellChangeLaws.{ChangesOnly-wider}
use Rattle.seg_spec.proofs.Images.RootWriteLaws.{set_number-changes}
use Rattle.seg_spec.proofs.Values.PlaceWriteLaws.{place_within, blocks_then, changes_place}
use Rattle.seg_spec.proofs.Values.CallPlaceLaws.{stands_after}
use Rattle.seg_spec.proofs.Values.PathFrameLaws.{Leads-each}
use Rattle.seg_spec.proofs.Values.PathSplitLaws.{count_is}
use Rattle.seg_seq.specs.Rings.{AreSpread, HasRing, link_of, around}
use Rattle.seg_seq.specs.Lists.{AddsItem}
use Rattle.seg_seq.specs.declared.ring.Way.{Way}
use Rattle.seg_seq.proofs.Joins.{names, linked_split}
use Rattle.seg_seq.proofs.RingRemovalLaws.{ring_first}
use Rattle.seg_seq.specs.declared.ring.Way.TheVariants as way
use Rattle.seg_seq.proofs.RingWalkLaws.{neighbour_named, around_less, starts, backward_is}
use Rattle.seg_spec.specs.Items.{remove_nth, without_last}
use Rattle.seg_seq.proofs.Homes.{are_spread}
use Rattle.seg_seq.proofs.ListNodeLaws.{values_in, value_in, value_at_index, ListOf, list_of, holds_list, leads_on, item_leads, length_values, list_parts, appended}
use Rattle.seg_seq.proofs.NodeRemovalLaws.{SplitAt, split_at}
use Rattle.seg_seq.proofs.ListRemovalLaws.{node_split, index_back, leads_nowhere}

-- ---- a list at a place

module _ (allocator : ℕ) (bytes : List ℕ) (table : Table) (list : Place) (U : ℕ) (f : form_at table list.type ≡ Some (Form.list U)) (vs : Values) (blocks : List ℕ) (s : Stands allocator bytes table list (Seq vs) blocks) where
  pub its_list : ListOf bytes table list U vs blocks
  its_list = list_of bytes table list U f vs blocks s.holds_it

  eight : size table list.type ≡ 8
  eight = size-form table s.is_table list.type (Form.list U) f

  pub its_spread : AreSpread bytes (list.at ∷ its_list.nodes)
  its_spread =
      let inside : IsInside bytes s.home list.at 8 = rw eight at s.inside in
      are_spread allocator bytes s.heap list.at s.home inside s.aligned its_list.nodes
      (each_weaker (λ p. IsBlock bytes p (tag_of Kind.node list.type) (8 + size table U)) (λ p. 16 ≤ p) (λ p b. b.after_header) its_list.nodes its_list.are_nodes)
      (λ h. let o = s.owned h in
      let b : times h blocks ≡ times h (map block_of its_list.nodes ++ its_list.owned) = ap (times h) its_list.blocks_are in
      let a = times-append h (map block_of its_list.nodes) its_list.owned in
      omega arith)

  pub its_count : length its_list.nodes ≡ count vs
  its_count = sym (length_values U its_list.nodes) ∙ count_is bytes table its_list.each

  -- the place of an item is in the item's node
  pub node_of_item : (i at : ℕ) → Leads bytes table list (Selector.item i ∷ []) (record { at = at; type = U }) → (node : ℕ) × (slice_get its_list.nodes i ≡ Some node) × (at ≡ node + 8)
  node_of_item i at lead =
      let n = item_leads bytes table list U f vs blocks its_list i [] (record { at = at; type = U }) lead in
      (n.node, n.node_is, sym (ap (λ (q : Place). q.at) (leads_nowhere bytes table (value_in U n.node) (record { at = at; type = U }) n.rest)))

  index_known : (xs : List ℕ) (i p : ℕ) → slice_get xs i ≡ Some p → (i < length xs) × (get_or xs i 0 ≡ p)
  index_known [] i p e = cc
  index_known (x ∷ xs) zero p e = (omega arith, let same : x ≡ p = cc in same)
  index_known (x ∷ xs) (suc i) p e = let r = index_known xs i p e in let l = r.0 in (omega arith, r.1)

  known_index : (xs : List ℕ) (i : ℕ) → i < length xs → slice_get xs i ≡ Some (get_or xs i 0)
  known_index [] i h = absurd (omega arith)
  known_index (x ∷ xs) zero h = refl
  known_index (x ∷ xs) (suc i) h = known_index xs i (omega arith)

  node_fits : (node : ℕ) (i : ℕ) → slice_get its_list.nodes i ≡ Some node → node + 8 < 2 ^ 32
  node_fits node i e =
      let all = go its_list.nodes i node e its_spread.fit.1 in
      let small = its_spread.small in
      omega arith
    where
      go : (xs : List ℕ) (i p : ℕ) → slice_get xs i ≡ Some p → AllByRecursion (λ q. (q % 8 ≡ 0) × (q + 8 ≤ length bytes)) xs → p + 8 ≤ length bytes
      go [] i p e a = cc
      go (x ∷ xs) zero p e a = let same : x ≡ p = cc in let b = a.0.1 in omega arith
      go (x ∷ xs) (suc i) p e a = go xs i p e a.1

  -- the place of item i, if the i-th node is known
  pub stands_at : (i node at : ℕ) → i < count vs → node ≡ get_or its_list.nodes i 0 → at ≡ (node + 8) % 2 ^ 32 → Leads bytes table list (Selector.item i ∷ []) (record { at = at; type = U })
  stands_at i node at h e at_is =
      let c = its_count in
      let known = known_index its_list.nodes i (omega arith) ∙ ap Some (sym e) in
      let small = node_fits node i known in
      let is : at ≡ node + 8 = omega arith in
      rw is (leads_on bytes table list U f vs blocks its_list i node [] (value_in U node) known here)

  -- the neighbour of an item
  pub item_beside : (w : Way) (i item node other result : ℕ) → Leads bytes table list (Selector.item i ∷ []) (record { at = item; type = U }) → node ≡ (item + (2 ^ 32 - 8)) % 2 ^ 32 → other ≡ start bytes (link_of w node) →
      result ≡ (other + 8) % 2 ^ 32 → Leads bytes table list (Selector.item (around w (count vs) i 1) ∷ []) (record { at = result; type = U })
  item_beside w i item node other result lead node_is other_is result_is =
      let n = node_of_item i item lead in
      let k = index_known its_list.nodes i n.0 n.1 in
      let small = node_fits n.0 i n.1 in
      let at = n.2 in
      let c = its_count in
      let same : node ≡ get_or its_list.nodes i 0 = let e = k.1 in omega arith in
      let inside = k.0 in
      let less = around_less w (length its_list.nodes) i 1 inside (omega arith) in
      let named = other_is ∙ ap (λ q. start bytes (link_of w q)) same ∙ neighbour_named bytes list.at its_list.nodes its_list.ring its_spread w i inside in
      subst (λ m. Leads bytes table list (Selector.item (around w m i 1) ∷ []) (record { at = result; type = U })) c
      (stands_at (around w (length its_list.nodes) i 1) other result (omega arith) named result_is)

  -- an empty list points to nothing
  pub nothing_named : vs ≡ nil → target bytes list.at ≡ None
  nothing_named e = go (target bytes list.at) its_list.nodes its_list.ring.ring (its_count ∙ ap count e)
    where
      go : (o : Option ℕ) (xs : List ℕ) → IsRing bytes o xs → length xs ≡ 0 → o ≡ None
      go None [] r e = refl
      go None (x ∷ xs) r e = absurd r
      go (Some p) [] r e = absurd r
      go (Some p) (x ∷ xs) r e = absurd (omega arith)

  -- a list that isn't empty points to the node of its first item
  pub first_item : 1 ≤ count vs → (first : ℕ) × (target bytes list.at ≡ Some first) × Leads bytes table list (Selector.item 0 ∷ []) (record { at = first + 8; type = U })
  first_item some = go its_list.nodes refl (let c = its_count in omega arith)
    where
      go : (xs : List ℕ) → xs ≡ its_list.nodes → 1 ≤ length xs → (first : ℕ) × (target bytes list.at ≡ Some first) × Leads bytes table list (Selector.item 0 ∷ []) (record { at = first + 8; type = U })
      go [] e h = absurd (omega arith)
      go (x ∷ xs) e h =
          let r : IsRing bytes (target bytes list.at) (x ∷ xs) = subst (λ ys. IsRing bytes (target bytes list.at) ys) (sym e) its_list.ring.ring in
          let known : slice_get its_list.nodes 0 ≡ Some x = ap (λ ys. slice_get ys 0) (sym e) in
          (x, (ring_first bytes (target bytes list.at) x xs r).0, leads_on bytes table list U f vs blocks its_list 0 x [] (value_in U x) known here)

-- ---- the last item becomes the first

-- lists of values that are equal with one more value at the end
last_same : (vs ws : Values) (v w : Value) → count vs ≡ count ws → append vs (cons v nil) ≡ append ws (cons w nil) → (vs ≡ ws) × (v ≡ w)
last_same nil nil v w e f = (refl, let same : v ≡ w = cc in same)
last_same nil (cons u ws) v w e f = absurd (omega arith)
last_same (cons u vs) nil v w e f = absurd (omega arith)
last_same (cons u vs) (cons t ws) v w e f =
    let heads : u ≡ t = cc in
    let tails : append vs (cons v nil) ≡ append ws (cons w nil) = cc in
    let r = last_same vs ws v w (omega arith) tails in
    ((λ i. cons (heads i) (r.0 i)), r.1)

count_append : (vs ws : Values) → count (append vs ws) ≡ count vs + count ws
count_append nil ws = omega arith
count_append (cons v vs) ws = let r = count_append vs ws in omega arith

-- a ring, beginning at its last node
rotated : (bytes : List ℕ) (o : Option ℕ) (xs : List ℕ) (node : ℕ) → IsRing bytes o (xs ++ node ∷ []) → IsRing bytes (Some node) (node ∷ xs)
rotated bytes o [] node r = (refl, (ring_first bytes o node [] r).1)
rotated bytes o (x ∷ ys) node r =
    let l = linked_split bytes x ys node [] x (ring_first bytes o x (ys ++ node ∷ []) r).1 in
    (refl, (l.1, l.0))

module _ (allocator : ℕ) (mid : List ℕ) (table : Table) (list : Place) (U node : ℕ) (xs : List ℕ) (f : form_at table list.type ≡ Some (Form.list U)) (vs : Values) (v : Value) (others : List ℕ)
    (t : Stands allocator mid table list (Seq (append vs (cons v nil))) others) (l : ListOf mid table list U (append vs (cons v nil)) others) (l_is : l.nodes ≡ xs ++ node ∷ []) (spread : AreSpread mid (list.at ∷ l.nodes))
    (same_count : length xs ≡ count vs) where
  abbrev new : List ℕ
  new = set_pointer mid list.at (Some node)

  eight_then : size table list.type ≡ 8
  eight_then = size-form table t.is_table list.type (Form.list U) f

  changed : ChangesOnly mid new list.at (size table list.type)
  changed = rw eight_then (ChangesOnly-wider mid new list.at 4 list.at 8 (omega arith) (omega arith) (set_number-changes 4 mid list.at (distance list.at (Some node))))

  p : SplitAt mid table U xs node [] (append vs (cons v nil)) l.owned
  p = split_at mid table U xs node [] (append vs (cons v nil)) l.owned (subst (λ ns. HoldsEach mid table (values_in U ns) (append vs (cons v nil)) l.owned) l_is l.each)

  no_right : p.right ≡ nil
  no_right = none_right p.right p.back p.rights
    where
      none_right : (ws : Values) (bs : List ℕ) → HoldsEach mid table [] ws bs → ws ≡ nil
      none_right nil bs holds_none = refl
      none_right (cons u us) bs h = elim h [ ]

  no_back : p.back ≡ []
  no_back = none_back p.right p.back p.rights
    where
      none_back : (ws : Values) (bs : List ℕ) → HoldsEach mid table [] ws bs → bs ≡ []
      none_back nil bs holds_none = refl
      none_back (cons u us) bs h = elim h [ ]

  both : (vs ≡ p.left) × (v ≡ p.value)
  both = last_same vs p.left v p.value (sym (p.at_is ∙ same_count)) (p.values_are ∙ ap (λ ws. append p.left (cons p.value ws)) no_right)

  blocks_kept : AllByRecursion (KeepsBlock mid new) others
  blocks_kept = blocks_then allocator mid table list (Seq (append vs (cons v nil))) others t new changed

  all_kept : AllByRecursion (KeepsBlock mid new) (map block_of (xs ++ node ∷ []) ++ l.owned)
  all_kept = subst (AllByRecursion (KeepsBlock mid new)) (l.blocks_are ∙ ap (λ ns. map block_of ns ++ l.owned) l_is) blocks_kept

  nodes_kept_too : AllByRecursion (KeepsBlock mid new) (map block_of (xs ++ node ∷ []))
  nodes_kept_too = each_left (KeepsBlock mid new) (map block_of (xs ++ node ∷ [])) l.owned all_kept

  owned_kept : AllByRecursion (KeepsBlock mid new) l.owned
  owned_kept = each_right (KeepsBlock mid new) (map block_of (xs ++ node ∷ [])) l.owned all_kept

  are_nodes : AreNodes mid (tag_of Kind.node list.type) (8 + size table U) (xs ++ node ∷ [])
  are_nodes = subst (AreNodes mid (tag_of Kind.node list.type) (8 + size table U)) l_is l.are_nodes

  whole_nodes : AllByRecursion (λ q. IsSame mid new q (8 + size table U)) (xs ++ node ∷ [])
  whole_nodes = nodes-same mid new (tag_of Kind.node list.type) (8 + size table U) (xs ++ node ∷ []) nodes_kept_too are_nodes

  -- a fact about each node, in the new order
  turn : (P : ℕ → Type 0) → AllByRecursion P (xs ++ node ∷ []) → AllByRecursion P (node ∷ xs)
  turn P a = ((each_right P xs (node ∷ []) a).0, each_left P xs (node ∷ []) a)

  cell_fits : list.at + 8 ≤ length mid
  cell_fits = let w = place_within allocator mid table list (Seq (append vs (cons v nil))) others t in let e = eight_then in omega arith

  node_place : (node % 8 ≡ 0) × (node + 8 ≤ length mid)
  node_place =
      let a = times-append node xs (node ∷ []) in
      let k = times-same node [] in
      let fit : AllByRecursion (λ q. (q % 8 ≡ 0) × (q + 8 ≤ length mid)) (xs ++ node ∷ []) = subst (AllByRecursion (λ q. (q % 8 ≡ 0) × (q + 8 ≤ length mid))) l_is spread.fit.1 in
      there (λ q. (q % 8 ≡ 0) × (q + 8 ≤ length mid)) node (xs ++ node ∷ []) fit (omega arith)

  now_named : target new list.at ≡ Some node
  now_named =
      let n = node_place in
      let even = t.aligned in
      let end = n.1 in
      let aligned = n.0 in
      let small = t.heap.small in
      let room = cell_fits in
      names mid list.at node t.heap.small (omega arith) (omega arith) (omega arith) (omega arith)

  still_counted : count_at new list.at ≡ count_at mid list.at
  still_counted = number-set_other 4 4 mid list.at (distance list.at (Some node)) (list.at + 4) (inr (omega arith))

  lefts_same : AllByRecursion (SamePlace mid new table) (values_in U xs)
  lefts_same = inner-same mid new table t.is_table U 8 (8 + size table U) xs (omega arith) (each_left (λ q. IsSame mid new q (8 + size table U)) xs (node ∷ []) whole_nodes)

  own_same : SamePlace mid new table (value_in U node)
  own_same = (inner-same mid new table t.is_table U 8 (8 + size table U) (node ∷ []) (omega arith) (each_right (λ q. IsSame mid new q (8 + size table U)) xs (node ∷ []) whole_nodes)).0

  owned_parts : AllByRecursion (KeepsBlock mid new) (p.front ++ (p.its ++ p.back))
  owned_parts = subst (AllByRecursion (KeepsBlock mid new)) p.owned_is owned_kept

  front_kept : AllByRecursion (KeepsBlock mid new) p.front
  front_kept = each_left (KeepsBlock mid new) p.front (p.its ++ p.back) owned_parts

  its_kept : AllByRecursion (KeepsBlock mid new) p.its
  its_kept = each_left (KeepsBlock mid new) p.its p.back (each_right (KeepsBlock mid new) p.front (p.its ++ p.back) owned_parts)

  abbrev turned : List ℕ
  turned = map block_of (node ∷ xs) ++ (p.its ++ p.front)

  turned_values : HoldsEach new table (values_in U (node ∷ xs)) (cons v vs) (p.its ++ p.front)
  turned_values =
      let raw : HoldsEach new table (values_in U (node ∷ xs)) (cons p.value p.left) (p.its ++ p.front) =
      holds_more (Holds-kept mid new table t.is_table p.holds_it own_same its_kept) (HoldsEach-kept mid new table t.is_table p.lefts lefts_same front_kept) in
      let one : cons v vs ≡ cons p.value p.left = λ i. cons (both.1 i) (both.0 i) in
      subst (λ us. HoldsEach new table (values_in U (node ∷ xs)) us (p.its ++ p.front)) (sym one) raw

  l_new : ListOf new table list U (cons v vs) turned
  l_new = record {
    nodes = node ∷ xs;
    owned = p.its ++ p.front;
    ring = record {
      ring = rw now_named (IsRing-same mid new (Some node) (node ∷ xs)
          (turn (λ q. IsSame mid new q 8) (shorter mid new table t.is_table (8 + size table U) 8 (xs ++ node ∷ []) (omega arith) whole_nodes))
          (rotated mid (target mid list.at) xs node (subst (IsRing mid (target mid list.at)) l_is l.ring.ring)));
      counted = let a : length l.nodes ≡ length (xs ++ node ∷ []) = ap length l_is in let b = length-append xs (node ∷ []) in let c = l.ring.counted in let d = still_counted in omega arith;
    };
    are_nodes = turn (λ q. IsBlock new q (tag_of Kind.node list.type) (8 + size table U))
        (Rattle.seg_spec.proofs.Values.PlaceFrameLaws.nodes-kept mid new (tag_of Kind.node list.type) (8 + size table U) (xs ++ node ∷ []) nodes_kept_too are_nodes);
    each = turned_values;
    blocks_are = refl;
  }

  turned_changes : ChangesPlace mid new table list (Seq (cons v vs)) turned (live mid) [] []
  turned_changes = changes_place allocator mid table list (Seq (append vs (cons v nil))) others t new changed (Seq (cons v vs)) turned [] (holds_list new table list U f (cons v vs) turned l_new)

  turned_count : (h : ℕ) → times h turned ≡ times h others
  turned_count h =
      let a : times h others ≡ times h (map block_of (xs ++ node ∷ []) ++ l.owned) = ap (times h) (l.blocks_are ∙ ap (λ ns. map block_of ns ++ l.owned) l_is) in
      let b = times-append h (map block_of (xs ++ node ∷ [])) l.owned in
      let c : times h (map block_of (xs ++ node ∷ [])) ≡ times h (map block_of xs ++ map block_of (node ∷ [])) = ap (times h) (Rattle.seg_seq.proofs.ListNodeLaws.mapped_append xs (node ∷ [])) in
      let d = times-append h (map block_of xs) (map block_of (node ∷ [])) in
      let e : times h l.owned ≡ times h (p.front ++ (p.its ++ p.back)) = ap (times h) p.owned_is in
      let g = times-append h p.front (p.its ++ p.back) in
      let i = times-append h p.its p.back in
      let j : times h p.back ≡ 0 = ap (times h) no_back in
      let k = times-append h (map block_of (node ∷ xs)) (p.its ++ p.front) in
      let m = times-append h p.its p.front in
      omega arith

  front_leads : (i : ℕ) (path : List Selector) (inner : Place) → i < length xs → Leads mid table list (Selector.item i ∷ path) inner → Leads new table list (Selector.item (suc i) ∷ path) inner
  unfolding l_new
  front_leads i path inner h lead =
      let n = item_leads mid table list U f (append vs (cons v nil)) others l i path inner lead in
      let found = index_back xs (node ∷ []) i n.node h (ap (λ ns. slice_get ns i) (sym l_is) ∙ n.node_is) in
      leads_on new table list U f (cons v vs) turned l_new (suc i) n.node path inner found
      (Leads-each mid new table t.is_table (value_in U n.node) i p.lefts (value_at_index U xs i n.node found) lefts_same front_kept n.rest)

  -- the other items stay in their nodes
  items_stay : PersistEach mid new table (values_in U xs) (values_in U xs)
  items_stay = PersistEach-kept mid new table t.is_table p.lefts lefts_same front_kept

  first_node : l_new.nodes ≡ node ∷ xs
  unfolding l_new
  first_node = refl

  first_stands : Leads new table list (Selector.item 0 ∷ []) (record { at = node + 8; type = U })
  unfolding l_new
  first_stands = leads_on new table list U f (cons v vs) turned l_new 0 node [] (value_in U node) refl here

-- an item was added at the list's end, and then the cell was made to point to it
pub item_fronted : (allocator : ℕ) (old mid : List ℕ) (table : Table) (list : Place) (U at node : ℕ) (f : form_at table list.type ≡ Some (Form.list U)) (vs : Values) (v : Value) (blocks : List ℕ)
    (s : Stands allocator old table list (Seq vs) blocks) (a : AddsItem allocator old mid table list U (append vs (cons v nil)) blocks (count vs) at (λ i. Some i)) → node ≡ (at + (2 ^ 32 - 8)) % 2 ^ 32 →
    AddsItem allocator old (set_pointer mid list.at (Some node)) table list U (cons v vs) blocks 0 at (λ i. Some (suc i))
item_fronted allocator old mid table list U at node f vs v blocks s a node_is =
    let t = stands_after allocator old mid table list (Seq vs) (Seq (append vs (cons v nil))) blocks a.others a.succeeds.left s a.succeeds.changes in
    let l = its_list allocator mid table list U f (append vs (cons v nil)) a.others t in
    let spread = its_spread allocator mid table list U f (append vs (cons v nil)) a.others t in
    let n = node_of_item allocator mid table list U f (append vs (cons v nil)) a.others t (count vs) at a.stands in
    let small = node_fits allocator mid table list U f (append vs (cons v nil)) a.others t n.0 (count vs) n.1 in
    let at_is = n.2 in
    let same : node ≡ n.0 = omega arith in
    let d = node_split l.nodes (count vs) n.0 n.1 in
    let long = its_count allocator mid table list U f (append vs (cons v nil)) a.others t in
    let more = count_append vs (cons v nil) in
    let whole : length l.nodes ≡ length (d.before ++ n.0 ∷ d.after) = ap length d.nodes_are in
    let sum = length-append d.before (n.0 ∷ d.after) in
    let front = d.at_is in
    let none : d.after ≡ [] = no_elements d.after (omega arith) in
    let l_is : l.nodes ≡ d.before ++ n.0 ∷ [] = d.nodes_are ∙ ap (λ zs. d.before ++ n.0 ∷ zs) none in
    let c = a.succeeds.changes in
    let k = turned_changes allocator mid table list U n.0 d.before f vs v a.others t l l_is spread front in
    let count_old = its_count allocator old table list U f vs blocks s in
    let r : AddsItem allocator old (set_pointer mid list.at (Some n.0)) table list U (cons v vs) blocks 0 at (λ i. Some (suc i)) = record {
      others = turned allocator mid table list U n.0 d.before f vs v a.others t l l_is spread front;
      succeeds = record {
        left = a.succeeds.left;
        left_is = a.succeeds.left_is;
        changes = record {
          length_kept = k.length_kept ∙ c.length_kept;
          front_kept = k.front_kept ∙ c.front_kept;
          back_kept = k.back_kept ∙ c.back_kept;
          heap = subst (λ x. IsHeap x (set_pointer mid list.at (Some n.0))) (t.allocator_is ∙ sym s.allocator_is) k.heap;
          ownable = k.ownable;
          holds_it = k.holds_it;
          live_is = k.live_is ∙ c.live_is;
          live_are = λ h.
              let x = c.live_are h in
              let y = turned_count allocator mid table list U n.0 d.before f vs v a.others t l l_is spread front h in
              let z : times h (positions (live (set_pointer mid list.at (Some n.0)))) ≡ times h (positions (live mid)) = ap (λ bs. times h (positions bs)) k.live_is in
              omega arith;
          kept = λ h some zero_times. around_twice old mid (set_pointer mid list.at (Some n.0)) list.at (size table list.type) h (c.kept h some zero_times)
              (k.kept h (let x = c.live_are h in omega arith) refl);
        };
      };
      parts =
          let before = its_list allocator old table list U f vs blocks s in
          let k = appended old mid table list U f vs (append vs (cons v nil)) blocks a.others before l d.before n.0 l_is (subst (λ m. KeepsParts old mid table list m 0 1) (sym front) a.parts) in
          list_parts old (set_pointer mid list.at (Some n.0)) table list U f vs (cons v vs) blocks (turned allocator mid table list U n.0 d.before f vs v a.others t l l_is spread front) before
          (l_new allocator mid table list U n.0 d.before f vs v a.others t l l_is spread front) [] [] (n.0 ∷ []) d.before k.nodes_are (first_node allocator mid table list U n.0 d.before f vs v a.others t l l_is spread front)
          persist_none (persist_then old mid (set_pointer mid list.at (Some n.0)) table k.stay (items_stay allocator mid table list U n.0 d.before f vs v a.others t l l_is spread front));
      stands = subst (λ q. Leads (set_pointer mid list.at (Some n.0)) table list (Selector.item 0 ∷ []) (record { at = q; type = U })) (sym at_is)
          (first_stands allocator mid table list U n.0 d.before f vs v a.others t l l_is spread front);
      moves = λ i path inner lead.
          let m = item_leads old table list U f vs blocks (its_list allocator old table list U f vs blocks s) i path inner lead in
          let known = index_known allocator old table list U f vs blocks s (its_list allocator old table list U f vs blocks s).nodes i m.node m.node_is in
          let low = known.0 in
          front_leads allocator mid table list U n.0 d.before f vs v a.others t l l_is spread front i path inner (omega arith) (a.moves i path inner lead);
    } in
    subst (λ q. AddsItem allocator old (set_pointer mid list.at (Some q)) table list U (cons v vs) blocks 0 at (λ i. Some (suc i))) (sym same) r
  where
    no_elements : (zs : List ℕ) → length zs ≡ 0 → zs ≡ []
    no_elements [] e = refl
    no_elements (z ∷ zs) e = absurd (omega arith)

-- ---- items by their indices

module _ (allocator : ℕ) (bytes : List ℕ) (table : Table) (list : Place) (U : ℕ) (f : form_at table list.type ≡ Some (Form.list U)) (vs : Values) (blocks : List ℕ) (s : Stands allocator bytes table list (Seq vs) blocks) where
  abbrev its : ListOf bytes table list U vs blocks
  its = its_list allocator bytes table list U f vs blocks s

  pub counted_items : count_at bytes list.at ≡ count vs
  counted_items = sym its.ring.counted ∙ its_count allocator bytes table list U f vs blocks s

  -- the item at an index, if its node was found
  pub item_found : (index node at : ℕ) → index < count vs → ((nodes : List ℕ) → HasRing bytes list.at nodes → AreSpread bytes (list.at ∷ nodes) → index < length nodes → node ≡ get_or nodes index 0) → at ≡ (node + 8) % 2 ^ 32 →
      Leads bytes table list (Selector.item index ∷ []) (record { at = at; type = U })
  item_found index node at h found at_is =
      let c = its_count allocator bytes table list U f vs blocks s in
      stands_at allocator bytes table list U f vs blocks s index node at h (found its.nodes its.ring (its_spread allocator bytes table list U f vs blocks s) (omega arith)) at_is

  -- the last item: its node is before the first node
  pub last_item : 1 ≤ count vs → (first node : ℕ) → first ≡ start bytes list.at → node ≡ start bytes (link_of way.Backward first) → Leads bytes table list (Selector.item (count vs - 1) ∷ []) (record { at = node + 8; type = U })
  last_item some first node first_is node_is =
      let spread = its_spread allocator bytes table list U f vs blocks s in
      let c = its_count allocator bytes table list U f vs blocks s in
      let n = length its.nodes in
      let begin = first_is ∙ starts bytes list.at its.nodes its.ring spread (omega arith) in
      let named = node_is ∙ ap (λ q. start bytes (link_of way.Backward q)) begin ∙ neighbour_named bytes list.at its.nodes its.ring spread way.Backward 0 (omega arith) in
      let back : around way.Backward n 0 1 ≡ count vs - 1 = backward_is bytes list.at its.nodes its.ring spread (count vs - 1) 1 (omega arith) (omega arith) in
      let is : node ≡ get_or its.nodes (count vs - 1) 0 = named ∙ ap (λ k. get_or its.nodes k 0) back in
      let known = known_index allocator bytes table list U f vs blocks s its.nodes (count vs - 1) (omega arith) ∙ ap Some (sym is) in
      let small = node_fits allocator bytes table list U f vs blocks s node (count vs - 1) known in
      stands_at allocator bytes table list U f vs blocks s (count vs - 1) node (node + 8) (omega arith) is (omega arith)

-- removing at the last index removes the last value
pub remove_nth-last : (vs : Values) → 1 ≤ count vs → remove_nth vs (count vs - 1) ≡ without_last vs
remove_nth-last nil h = absurd (omega arith)
remove_nth-last (cons v nil) h = refl
remove_nth-last (cons v (cons w ws)) h =
    let rest = remove_nth-last (cons w ws) (omega arith) in
    let at : suc (suc (count ws)) - 1 ≡ suc (suc (count ws) - 1) = omega arith in
    ap (remove_nth (cons v (cons w ws))) at ∙ ap (cons v) rest
