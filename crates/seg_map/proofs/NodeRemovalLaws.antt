-- A node is removed from the tree of a map and freed, with what its value owns. The map then has
-- one key less.
use Rattle.std.proofs.Common.{◌≡◌, ◌≢◌, ℕ, ◌+◌, ◌-◌, ◌^◌, ◌<◌, ◌≤◌, inl, inr, ℤ, List, [], ◌∷◌, ◌++◌, length, map, Some, refl, sym, ap, ◌∙◌, subst, arith}
use Rattle.std.proofs.lemmas.List.{length-append}
use Rattle.std.specs.Prelude.{remove, slice_get, Contains}
use Rattle.std.specs.List.{AllByRecursion}
use Rattle.std.specs.Ordering.{int_cmp}
use Rattle.seg_spec.specs.Bytes.{word, set_word, signed_long, IsSame}
use Rattle.seg_spec.specs.Types.{Form, Table, form_at, size}
use Rattle.seg_spec.specs.Value.{Label, Selector, Value, Values, nth, count, append, cons, Map, IsAscending, default_of}
use Rattle.seg_spec.specs.Heap.{Span, units_at, live, heap_start, IsHeap, IsLive, Gives}
use Rattle.seg_spec.specs.Block.{Kind, tag_of, IsBlock, IsInside, KeepsBlock, IsOwnable, block_of, payload_size}
use Rattle.seg_spec.specs.Apart.{Separate, KeepsBlockAround}
use Rattle.seg_spec.specs.Shapes.{nodes_of}
use Rattle.seg_spec.specs.Items.{key_place, without_entry, remove_nth}
use Rattle.seg_spec.specs.Reads.{Place, Opened, count_at, keys_at, AreNodes, OpensTree, Opens, Holds, HoldsEach, holds_more, Leads}
use Rattle.seg_spec.specs.Sound.{times, positions}
use Rattle.seg_spec.specs.Frozen.{Frozen, blocks_by}
use Rattle.seg_spec.specs.Shared.{named_in}
use Rattle.seg_spec.specs.Destroying.{KeepFrozen}
use Rattle.seg_spec.specs.Clearing.{SharedBeside, ClearsPlace}
use Rattle.seg_spec.proofs.Frozen.FrozenBlockLaws.{hold_kept, frozen_twice, frozen_kept, left_fewer}
use Rattle.seg_spec.proofs.Frozen.FrozenFrameLaws.{shared_still}
use Rattle.seg_spec.specs.Parts.{KeepsParts}
use Rattle.seg_spec.specs.Owning.{Stands}
use Rattle.seg_spec.specs.Demand.{after_gives}
use Rattle.seg_spec.specs.Spending.{PartBlocks, item_node}
use Rattle.seg_spec.proofs.SliceLaws.{IsSame-trans}
use Rattle.seg_spec.proofs.Tables.TypeSizeLaws.{size-form}
use Rattle.seg_spec.proofs.Deallocation.BlockFreeLaws.{found}
use Rattle.seg_spec.proofs.Heap.FreeOrderLaws.{in_any_order}
use Rattle.seg_spec.proofs.Heap.BlockFrameLaws.{kept_twice, around_twice, around_kept}
use Rattle.seg_spec.proofs.Values.PlaceWriteLaws.{home_live, owned_live, owned_other}
use Rattle.seg_spec.proofs.Values.CallPlaceLaws.{same_place, stands_still, still_home, left_kept, left_stands, left_frames}
use Rattle.seg_spec.proofs.Values.PathFrameLaws.{Leads-kept}
use Rattle.seg_spec.proofs.Values.PathSplitLaws.{nth-append}
use Rattle.seg_spec.proofs.Values.PlaceFrameLaws.{each_map, each_weaker, each_both, each_left, each_right, word-same, signed_long-same, SamePlace, Holds-kept, HoldsEach-kept, PersistEach-kept, all_parts_kept}
use Rattle.seg_spec.proofs.Values.PersistenceLaws.{parts_then}
use Rattle.seg_spec.proofs.Heap.LiveBlockLaws.{times-append, times-same, times-more, times-without, there, each_there, LiesIn, live-lie, live-apart, live-once, OneOrApart}
use Rattle.seg_rbtree.specs.Changes.{StandApart, without_node, Leaves}
use Rattle.seg_rbtree.proofs.NodeRemovalLaws.{each_without}
use Rattle.seg_map.specs.Maps.{TakesKey, value_of}
use Rattle.seg_map.proofs.KeyOrder.{Around, ascend_of, same_of_equal, fewer_keys, goes_between, ascends_without, place_of, key_of_place, left_among}
use Rattle.seg_map.specs.Trees.{KeepsOtherKeys}
use Rattle.seg_map.proofs.TreeMaps.{key_at, keys_low, IsTreeMap, its, nodes, IsNode, are_nodes, low, few_nodes, ascend, keys_are, mapped_at}
use Rattle.seg_map.proofs.TreeWriteLaws.{IsTouched, Remade, remade, count_before, stand_apart}
use Rattle.seg_map.proofs.MapValueLaws.{value_places, places_joined, places_long, removed_nth, parts, joined, map_of, map_leads, passes, tree_parts}

-- a value, and the values before and after it
pub record Cut (bytes : List ℕ) (table : Table) (before after : List Place) (part : Place) (vs : Values) (blocks : List ℕ) : Type 0 where
  pub left : Values
  pub value : Value
  pub right : Values
  pub xs : List ℕ
  pub zs : List ℕ
  pub ys : List ℕ
  pub values_are : vs ≡ append left (cons value right)
  pub count_is : count left ≡ length before
  pub lefts : HoldsEach bytes table before left xs
  pub holds_it : Holds bytes table part value zs
  pub rights : HoldsEach bytes table after right ys
  pub blocks_are : blocks ≡ xs ++ (zs ++ ys)

cut_by : (bytes : List ℕ) (table : Table) (before after : List Place) (part : Place) (vs left right : Values) (blocks xs ys : List ℕ) → vs ≡ append left right → count left ≡ length before → HoldsEach bytes table before left xs
    → HoldsEach bytes table (part ∷ after) right ys → blocks ≡ xs ++ ys → Cut bytes table before after part vs blocks
cut_by bytes table before after part vs left right blocks xs ys v c l (holds_more {v = w} {vs = ws} {blocks = zs} {owned = rest} first others) b = record {
  left = left;
  value = w;
  right = ws;
  xs = xs;
  zs = zs;
  ys = rest;
  values_are = v;
  count_is = c;
  lefts = l;
  holds_it = first;
  rights = others;
  blocks_are = b;
}

cut : (bytes : List ℕ) (table : Table) (before after : List Place) (part : Place) (vs : Values) (blocks : List ℕ) → HoldsEach bytes table (before ++ part ∷ after) vs blocks → Cut bytes table before after part vs blocks
cut bytes table before after part vs blocks h =
    let p = parts bytes table before (part ∷ after) vs blocks h in
    cut_by bytes table before after part vs p.left p.right blocks p.xs p.ys p.values_are p.count_is p.lefts p.rights p.blocks_are

one_there : (vs left right : Values) (v w : Value) (j : ℕ) → vs ≡ append left (cons v right) → j ≡ count left → nth vs j ≡ Some w → w ≡ v
one_there vs left right v w j e i at =
    let there_is : nth vs j ≡ Some v = rw (e, i) (nth-append left right v) in cc

given_last : (bs : List Span) (zs : List ℕ) (h : ℕ) → after_gives bs (zs ++ h ∷ []) ≡ after_gives (after_gives bs zs) (h ∷ [])
given_last bs [] h = refl
given_last bs (z ∷ zs) h = given_last (Rattle.seg_spec.specs.Heap.without z bs) zs h

module _ (allocator : ℕ) (old : List ℕ) (table : Table) (place : Place) (U : ℕ) (keys : List ℤ) (vs : Values) (blocks : List ℕ) (f : form_at table place.type ≡ Some (Form.map U)) (s : Stands allocator old table place (Map keys vs) blocks)
    (key : ℤ) (node : ℕ) (a : Around (key_at old) key (nodes allocator old table place U keys vs blocks f s) node) where
  abbrev m : IsTreeMap old table place U keys vs blocks
  m = its allocator old table place U keys vs blocks f s

  abbrev ns : List ℕ
  ns = nodes allocator old table place U keys vs blocks f s

  abbrev i : ℕ
  i = length a.front

  home_old : 1 ≤ times s.home (positions (live old))
  home_old = home_live allocator old table place (Map keys vs) blocks s

  lies : (h : ℕ) → 1 ≤ times h (positions (live old)) → LiesIn old heap_start (length old) h
  lies h some = there (LiesIn old heap_start (length old)) h (positions (live old)) (live-lie old allocator s.heap) some

  cell_size : size table place.type ≡ 8
  cell_size = size-form table s.is_table place.type (Form.map U) f

  home_in : IsInside old s.home place.at 8
  home_in = let is8 = cell_size in let high = s.inside.high in record { low = s.inside.low; high = omega arith }

  each_node : AllByRecursion (IsNode allocator old table place U keys vs blocks f s) ns
  each_node = are_nodes allocator old table place U keys vs blocks f s

  touched_by : (x : ℕ) → IsNode allocator old table place U keys vs blocks f s x → IsTouched old s.home x
  touched_by x n = record { after_header = n.after_header; is_live = n.is_live; other = owned_other allocator old table place (Map keys vs) blocks s (block_of x) n.owned }

  each_touched : AllByRecursion (IsTouched old s.home) ns
  each_touched = each_weaker _ _ touched_by ns each_node

  its_node : IsNode allocator old table place U keys vs blocks f s node
  its_node = (each_right _ a.front (node ∷ a.back) (subst (AllByRecursion (IsNode allocator old table place U keys vs blocks f s)) a.nodes_are each_node)).0

  pub node_live : 1 ≤ times (block_of node) (positions (live old))
  node_live = its_node.is_live

  all_owned : (h : ℕ) → times h (s.home ∷ (map block_of ns ++ m.owned)) ≤ times h (positions (live old))
  all_owned h = subst (λ bs. times h (s.home ∷ bs) ≤ times h (positions (live old))) m.blocks_are (s.owned h)

  once : (h : ℕ) → times h (s.home ∷ map block_of ns) ≤ 1
  once h = let o = all_owned h in let n = times-append h (map block_of ns) m.owned in let l = live-once old allocator s.heap h in omega arith

  pub nodes_apart : StandApart (length old) place.at ns
  nodes_apart = stand_apart allocator old s.heap place.at s.home ns home_in home_old each_touched once

  front_back : without_node node ns ≡ a.front ++ a.back
  front_back = ap (without_node node) a.nodes_are ∙ goes_between (key_at old) key node a.front a.back a.is a.low

  among : (P : ℕ → Type 0) → AllByRecursion P ns → AllByRecursion P (without_node node ns)
  among P h = subst (AllByRecursion P) (sym front_back) (each_without P node a.front a.back (subst (AllByRecursion P) a.nodes_are h))

  few : length ns < 2 ^ 32
  few = let n = few_nodes allocator old table place U keys vs blocks f s in let small = s.heap.small in omega arith

  long : length ns ≡ length (a.front ++ a.back) + 1
  long = ap length a.nodes_are ∙ (let x = length-append a.front (node ∷ a.back) in let y = length-append a.front a.back in omega arith)

  -- ---- the value of the node

  places_split : value_places U ns ≡ value_places U a.front ++ value_of U (node + 24) ∷ value_places U a.back
  places_split = ap (value_places U) a.nodes_are ∙ places_joined U a.front (node ∷ a.back)

  pub k : Cut old table (value_places U a.front) (value_places U a.back) (value_of U (node + 24)) vs m.owned
  k = cut old table (value_places U a.front) (value_places U a.back) (value_of U (node + 24)) vs m.owned (subst (λ ps. HoldsEach old table ps vs m.owned) places_split m.each)

  pub value_is : (v : Value) → nth vs i ≡ Some v → v ≡ k.value
  value_is v at = one_there vs k.left k.right k.value v i k.values_are (sym (places_long U a.front) ∙ sym k.count_is) at

  blocks_joined : (xs ys : List ℕ) → map block_of (xs ++ ys) ≡ map block_of xs ++ map block_of ys
  blocks_joined [] ys = refl
  blocks_joined (x ∷ xs) ys = ap (λ zs. block_of x ∷ zs) (blocks_joined xs ys)

  -- The blocks of the map: its other nodes and the blocks of their values; then the removed node
  -- and the blocks of its value.
  shares : (h : ℕ) → times h blocks ≡ times h (map block_of (a.front ++ a.back)) + times h (k.xs ++ k.ys) + times h (block_of node ∷ k.zs)
  shares h =
      let b : times h blocks ≡ times h (map block_of ns ++ m.owned) = ap (times h) m.blocks_are in
      let n = times-append h (map block_of ns) m.owned in
      let c : times h (map block_of ns) ≡ times h (map block_of a.front ++ map block_of (node ∷ a.back)) = ap (times h) (ap (map block_of) a.nodes_are ∙ blocks_joined a.front (node ∷ a.back)) in
      let d = times-append h (map block_of a.front) (map block_of (node ∷ a.back)) in
      let e : times h (map block_of (a.front ++ a.back)) ≡ times h (map block_of a.front ++ map block_of a.back) = ap (times h) (blocks_joined a.front a.back) in
      let g = times-append h (map block_of a.front) (map block_of a.back) in
      let o : times h m.owned ≡ times h (k.xs ++ (k.zs ++ k.ys)) = ap (times h) k.blocks_are in
      let p = times-append h k.xs (k.zs ++ k.ys) in
      let q = times-append h k.zs k.ys in
      let r = times-append h k.xs k.ys in
      omega arith

  stands_there : (xs : List ℕ) → slice_get (xs ++ node ∷ a.back) (length xs) ≡ Some node
  stands_there [] = refl
  stands_there (x ∷ xs) = stands_there xs

  gives_are : block_of node ∷ k.zs ≡ item_node (Form.map U) m.opened.blocks i ++ k.zs
  gives_are =
      let at : slice_get m.opened.blocks i ≡ Some (block_of node) = ap (λ (bs : List ℕ). slice_get bs i) (ap (λ (r : Opened). r.blocks) m.opens.opened_is ∙ ap (map block_of) a.nodes_are)
      ∙ mapped_at block_of (a.front ++ node ∷ a.back) i node (stands_there a.front) in
      rw at refl

  part_gives : PartBlocks old table place i (block_of node ∷ k.zs)
  part_gives =
      let o' : Opens old table place (Form.map U) m.opened = m.opens in
      let stands : slice_get ns i ≡ Some node = ap (λ xs. slice_get xs i) a.nodes_are ∙ stands_there a.front in
      record {
        form = Form.map U;
        form_is = f;
        opened = m.opened;
        opens = o';
        part = value_of U (node + 24);
        part_is = ap (λ (ps : List Place). slice_get ps i) (ap (λ (r : Opened). r.parts) m.opens.opened_is) ∙ mapped_at (value_of U) (map (λ p. p + 24) ns) i (node + 24) (mapped_at (λ p. p + 24) ns i node stands);
        value = k.value;
        blocks = k.zs;
        holds = k.holds_it;
        gives_are = gives_are;
      }

  -- ---- the tree without the node

  module _ (three mid : List ℕ) (n : ℕ) (l : Leaves old three place.at ns (without_node node ns)) (mid_is : mid ≡ set_word three (place.at + 4) n) (n_is : n ≡ count_at three place.at - 1) where
    counted_three : count_at three place.at ≡ length ns
    counted_three = count_before allocator old three mid place.at s.home n ns (without_node node ns) s.heap l mid_is home_in home_old each_touched among ∙ sym m.opens.counted

    n_long : n ≡ length (a.front ++ a.back)
    n_long = let c = counted_three in let d = long in omega (arith, n_is)

    pub made : Remade allocator old mid place.at s.home n ns (without_node node ns)
    made = remade allocator old three mid place.at s.home n ns (without_node node ns) s.heap l mid_is home_in home_old each_touched among (let d = long in let g = n_long in let e = few in omega arith)

    now_are : nodes_of made.tree ≡ a.front ++ a.back
    now_are = made.nodes_are ∙ front_back

    long_now : length (nodes_of made.tree) ≡ count_at mid place.at
    long_now = ap length now_are ∙ sym n_long ∙ sym made.count_is

    live_mid : (h : ℕ) → times h (positions (live mid)) ≡ times h (positions (live old))
    live_mid h = ap (λ bs. times h (positions bs)) made.live_is

    content_same : (x : ℕ) → IsNode allocator old table place U keys vs blocks f s x → (p q : ℕ) → x + 16 ≤ p → p + q ≤ x + (24 + size table U) → IsSame old mid p q
    content_same x d p q b c = let t = touched_by x d in made.content x p q t.after_header t.is_live t.other b (let r = d.room in omega arith)

    block_now : (x : ℕ) → IsNode allocator old table place U keys vs blocks f s x → IsBlock old x (tag_of Kind.node place.type) (24 + size table U) → IsBlock mid x (tag_of Kind.node place.type) (24 + size table U)
    block_now x d b =
        let h = (made.header (block_of x) d.is_live).0 in
        record { after_header = b.after_header; live = h.live ∙ b.live; has_tag = h.has_tag ∙ b.has_tag; room = let r = b.room in let q = h.room in omega arith }

    blocks_now : AreNodes mid (tag_of Kind.node place.type) (24 + size table U) (nodes_of made.tree)
    blocks_now = subst (AreNodes mid (tag_of Kind.node place.type) (24 + size table U)) (sym made.nodes_are) (among (λ x. IsBlock mid x (tag_of Kind.node place.type) (24 + size table U))
        (each_both _ _ _ block_now ns each_node m.opens.are_nodes))

    keys_step : (qs : List ℕ) → AllByRecursion (λ x. signed_long mid (x + 16) ≡ signed_long old (x + 16)) qs → keys_at mid (map (λ p. p + 16) qs) ≡ keys_at old (map (λ p. p + 16) qs)
    keys_step [] h = refl
    keys_step (x ∷ xs) h = ap (λ q. q ∷ keys_at mid (map (λ p. p + 16) xs)) h.0 ∙ ap (λ qs. signed_long old (x + 16) ∷ qs) (keys_step xs h.1)

    keys_mid : keys_at mid (map (λ p. p + 16) (nodes_of made.tree)) ≡ map (key_at old) (a.front ++ a.back)
    keys_mid =
        keys_step (nodes_of made.tree) (subst (AllByRecursion (λ x. signed_long mid (x + 16) ≡ signed_long old (x + 16))) (sym made.nodes_are)
        (among (λ x. signed_long mid (x + 16) ≡ signed_long old (x + 16)) (each_weaker _ _ (λ x d. signed_long-same old mid (x + 16) (content_same x d (x + 16) 8 (omega arith) (omega arith))) ns each_node)))
        ∙ ap (λ qs. keys_at old (map (λ p. p + 16) qs)) now_are
        ∙ keys_low old (a.front ++ a.back) (subst (AllByRecursion (λ p. p + 8192 < 2 ^ 32)) front_back (among (λ p. p + 8192 < 2 ^ 32) (low allocator old table place U keys vs blocks f s)))

    keys_less : remove keys i ≡ map (key_at old) (a.front ++ a.back)
    keys_less = ap (λ ks. remove ks i) (keys_are allocator old table place U keys vs blocks f s ∙ ap (map (key_at old)) a.nodes_are) ∙ fewer_keys (key_at old) node a.front a.back

    still_ascend : IsAscending (remove keys i)
    still_ascend = subst IsAscending (sym keys_less) (ascends_without (key_at old) node a.front a.back (subst (Rattle.seg_spec.specs.Search.Ascend (λ x y. int_cmp (key_at old x) (key_at old y))) a.nodes_are
        (ascend allocator old table place U keys vs blocks f s)))

    -- ---- the other values

    owned_away : (h : ℕ) → 1 ≤ times h m.owned → (1 ≤ times h (positions (live old))) × (h ≢ s.home) × (times h (map block_of ns) ≡ 0)
    owned_away h some =
        let b : times h blocks ≡ times h (map block_of ns ++ m.owned) = ap (times h) m.blocks_are in
        let c = times-append h (map block_of ns) m.owned in
        let mine : 1 ≤ times h blocks = omega arith in
        let o = s.owned h in
        let p = times-more h s.home blocks in
        let once_live = live-once old allocator s.heap h in
        (owned_live allocator old table place (Map keys vs) blocks s h mine, owned_other allocator old table place (Map keys vs) blocks s h mine, omega arith)

    all_kept : AllByRecursion (KeepsBlock old mid) m.owned
    all_kept = each_there (KeepsBlock old mid) m.owned (λ h some. let w = owned_away h some in made.whole h w.0 w.1 w.2)

    owned_kept : AllByRecursion (KeepsBlock old mid) (k.xs ++ (k.zs ++ k.ys))
    owned_kept = subst (AllByRecursion (KeepsBlock old mid)) k.blocks_are all_kept

    value_same : (x : ℕ) → IsNode allocator old table place U keys vs blocks f s x → IsSame old mid (x + 24) (size table U)
    value_same x d = content_same x d (x + 24) (size table U) (omega arith) (omega arith)

    values_same : (qs : List ℕ) → AllByRecursion (IsNode allocator old table place U keys vs blocks f s) qs → AllByRecursion (SamePlace old mid table) (value_places U qs)
    values_same qs d = each_map (SamePlace old mid table) (value_of U) (map (λ p. p + 24) qs) (each_map (λ q. IsSame old mid q (size table U)) (λ p. p + 24) qs (each_weaker _ _ value_same qs d))

    both_nodes : AllByRecursion (IsNode allocator old table place U keys vs blocks f s) (a.front ++ node ∷ a.back)
    both_nodes = subst (AllByRecursion (IsNode allocator old table place U keys vs blocks f s)) a.nodes_are each_node

    lefts_mid : HoldsEach mid table (value_places U a.front) k.left k.xs
    lefts_mid = HoldsEach-kept old mid table s.is_table k.lefts (values_same a.front (each_left _ a.front (node ∷ a.back) both_nodes)) (each_left _ k.xs (k.zs ++ k.ys) owned_kept)

    rights_mid : HoldsEach mid table (value_places U a.back) k.right k.ys
    rights_mid = HoldsEach-kept old mid table s.is_table k.rights (values_same a.back (each_right _ a.front (node ∷ a.back) both_nodes).1) (each_right _ k.zs k.ys (each_right _ k.xs (k.zs ++ k.ys) owned_kept))

    value_mid : Holds mid table (value_of U (node + 24)) k.value k.zs
    value_mid = Holds-kept old mid table s.is_table k.holds_it (value_same node its_node) (each_left _ k.zs k.ys (each_right _ k.xs (k.zs ++ k.ys) owned_kept))

    values_less : HoldsEach mid table (value_places U (nodes_of made.tree)) (remove_nth vs i) (k.xs ++ k.ys)
    values_less =
        let at : i ≡ count k.left = sym (places_long U a.front) ∙ sym k.count_is in
        let value : append k.left k.right ≡ remove_nth vs i = sym (ap (λ ws. remove_nth ws i) k.values_are ∙ removed_nth k.left k.right k.value i at) in
        subst (λ ps. HoldsEach mid table ps (remove_nth vs i) (k.xs ++ k.ys)) (sym (ap (value_places U) now_are ∙ places_joined U a.front a.back))
        (subst (λ ws. HoldsEach mid table (value_places U a.front ++ value_places U a.back) ws (k.xs ++ k.ys)) value (joined mid table lefts_mid rights_mid))

    abbrev others : List ℕ
    others = map block_of (nodes_of made.tree) ++ (k.xs ++ k.ys)

    others_are : (h : ℕ) → times h others ≡ times h (map block_of (a.front ++ a.back)) + times h (k.xs ++ k.ys)
    others_are h =
        let b = times-append h (map block_of (nodes_of made.tree)) (k.xs ++ k.ys) in
        let c : times h (map block_of (nodes_of made.tree)) ≡ times h (map block_of (a.front ++ a.back)) = ap (λ qs. times h (map block_of qs)) now_are in
        omega arith

    holds_less : Holds mid table place (without_entry (keys, vs) i) others
    holds_less = map_of mid table place U made.tree (remove keys i) (remove_nth vs i) (k.xs ++ k.ys) f made.is_tree made.red_black long_now blocks_now (keys_less ∙ sym keys_mid) still_ascend values_less

    -- the other values stay in their nodes
    parts_mid : KeepsParts old mid table place i 1 0
    parts_mid =
        let opened : Opened = record { label = Label.map (keys_at mid (map (λ p. p + 16) (nodes_of made.tree))); blocks = map block_of (nodes_of made.tree); parts = value_places U (nodes_of made.tree) } in
        let opens : OpensTree mid table place.at (tag_of Kind.node place.type) U opened =
        record { tree = made.tree; is_tree = made.is_tree; red_black = made.red_black; counted = long_now; are_nodes = blocks_now; ascending = subst IsAscending (keys_less ∙ sym keys_mid) still_ascend; opened_is = refl } in
        tree_parts old mid table place U f m.opened opened m.opens opens a.front (node ∷ []) [] a.back a.nodes_are now_are
        (PersistEach-kept old mid table s.is_table k.lefts (values_same a.front (each_left _ a.front (node ∷ a.back) both_nodes)) (each_left _ k.xs (k.zs ++ k.ys) owned_kept))
        (PersistEach-kept old mid table s.is_table k.rights (values_same a.back (each_right _ a.front (node ∷ a.back) both_nodes).1) (each_right _ k.zs k.ys (each_right _ k.xs (k.zs ++ k.ys) owned_kept)))

    -- a path through another key still reaches the same place
    path_mid : (other : ℤ) (path : List Selector) (inner : Place) → other ≢ key → Leads old table place (Selector.key other ∷ path) inner → Leads mid table place (Selector.key other ∷ path) inner
    path_mid other path inner ne way =
        let p = passes old mid table s.is_table place U keys vs blocks f m (values_same ns each_node) all_kept way in
        let asked : other ≡ p.key = let e = p.selector_is in cc in
        let keys_then = keys_low old ns (low allocator old table place U keys vs blocks f s) in
        let equal = key_of_place (key_at old) p.key ns p.i p.node (ap (λ ks. key_place ks p.key) (sym keys_then) ∙ p.place_is) p.node_is in
        let apart : p.node ≢ node = λ e. ne (asked ∙ sym (same_of_equal (key_at old p.node) p.key equal) ∙ ap (key_at old) e ∙ same_of_equal (key_at old node) key a.is) in
        let j = left_among a.front node a.back p.i p.node (ap (λ xs. slice_get xs p.i) (sym a.nodes_are) ∙ p.node_is) apart in
        let there_now = place_of (key_at old) p.key (a.front ++ a.back) p.node j.0 (ascend_of (key_at old) (a.front ++ a.back) (subst IsAscending keys_less still_ascend)) j.1 equal in
        subst (λ u. Leads mid table place (u ∷ path) inner) (sym p.selector_is)
        (map_leads mid table place U made.tree f made.is_tree made.red_black long_now blocks_now (subst IsAscending (keys_less ∙ sym keys_mid) still_ascend) p.key j.0 p.node
        (ap (λ ks. key_place ks p.key) keys_mid ∙ there_now) (ap (λ xs. slice_get xs j.0) now_are ∙ j.1) p.goes)

    ownable_mid : AllByRecursion (λ b. IsOwnable mid table b.at) (live mid)
    ownable_mid = made.ownable table s.ownable

    allocator_mid : word mid 16 ≡ allocator
    allocator_mid = word-same old mid 16 (made.low 16 4 (omega arith)) ∙ s.allocator_is

    inside_mid : IsInside mid s.home place.at (size table place.type)
    inside_mid = let h = (made.header s.home home_old).0.room in let high = s.inside.high in let two = (lies s.home home_old).size in record { low = s.inside.low; high = omega arith }

    -- the map without the node is still at its place, and so is the node's value in the node
    pub map_stands : Stands allocator mid table place (without_entry (keys, vs) i) others
    map_stands = record {
      heap = made.heap;
      allocator_is = allocator_mid;
      is_table = s.is_table;
      ownable = ownable_mid;
      holds_it = holds_less;
      aligned = s.aligned;
      home = s.home;
      inside = inside_mid;
      owned = λ h. let x = live_mid h in let o = s.owned h in let b = shares h in let c = others_are h in omega arith;
    }

    map_home : map_stands.home ≡ s.home
    unfolding map_stands
    map_home = refl

    inside_node : IsInside mid (block_of node) (node + 24) (size table U)
    inside_node = let back = its_node.after_header in let room = its_node.room in let h = (made.header (block_of node) node_live).0.room in let two = (lies (block_of node) node_live).size in record { low = omega arith; high = omega arith }

    pub value_stands : Stands allocator mid table (value_of U (node + 24)) k.value k.zs
    value_stands = record {
      heap = made.heap;
      allocator_is = allocator_mid;
      is_table = s.is_table;
      ownable = ownable_mid;
      holds_it = value_mid;
      aligned = let back = its_node.after_header in let even = (lies (block_of node) node_live).aligned in omega arith;
      home = block_of node;
      inside = inside_node;
      owned = λ h. let x = live_mid h in let o = s.owned h in let b = shares h in let p = times-more h s.home blocks in omega arith;
    }

    value_home : value_stands.home ≡ block_of node
    unfolding value_stands
    value_home = refl

    -- ---- frozen objects outside the map

    module _ (theirs : ℕ → List ℕ) (kept : List Place) (now final : List Frozen) (beside : SharedBeside old table (s.home ∷ blocks) (named_in k.value) theirs kept now final) where
      abbrev shared : List ℕ
      shared = blocks_by theirs now

      abbrev left : List ℕ
      left = blocks_by theirs final

      -- the frozen objects' blocks are allocated, and aren't the map's
      all_fit : (h : ℕ) → times h (s.home ∷ blocks) + times h shared ≤ times h (positions (live old))
      all_fit h = omega (arith, beside.owned h, times-append h (s.home ∷ blocks) shared)

      shared_away : (h : ℕ) → 1 ≤ times h shared → (1 ≤ times h (positions (live old))) × (h ≢ s.home) × (times h (map block_of ns) ≡ 0)
      shared_away h some =
          let fits = all_fit h in
          let one = live-once old allocator s.heap h in
          let b : times h blocks ≡ times h (map block_of ns ++ m.owned) = ap (times h) m.blocks_are in
          let c = times-append h (map block_of ns) m.owned in
          (omega arith, (λ e. let q = subst (λ y. times h (y ∷ blocks) ≡ 1 + times h blocks) e (times-same h blocks) in omega arith), omega arith)

      shared_whole : (h : ℕ) → 1 ≤ times h shared → KeepsBlock old mid h
      shared_whole h some = let w = shared_away h some in made.whole h w.0 w.1 w.2

      pub value_beside : SharedBeside mid table (value_stands.home ∷ k.zs) (named_in k.value) theirs kept now final
      value_beside =
          subst (λ b. SharedBeside mid table (b ∷ k.zs) (named_in k.value) theirs kept now final) (sym value_home)
          (shared_still old mid table s.is_table (s.home ∷ blocks) (block_of node ∷ k.zs) (named_in k.value) theirs kept now final shared_whole ownable_mid
          (λ h. omega (arith, all_fit h, live_mid h, shares h, times-more h s.home blocks, times-append h (block_of node ∷ k.zs) shared)) beside)

      -- ---- the value is cleared, and then the node is freed

      module _ (cleared new : List ℕ) (c : ClearsPlace mid cleared table (value_of U (node + 24)) (default_of table U) k.zs [] theirs now final) (gives : IsHeap allocator cleared → IsLive cleared (block_of node)
          → Gives allocator cleared new (block_of node)) where
        goes : (h : ℕ) → times h (k.zs ++ shared) ≡ times h k.zs + times h shared
        goes h = times-append h k.zs shared

        stays : (h : ℕ) → times h k.zs + times h shared ≡ times h c.gives + times h left
        stays h = sym (goes h) ∙ c.all_are h ∙ times-append h c.gives left

        live_cleared : (h : ℕ) → times h (positions (live cleared)) + times h c.gives ≡ times h (positions (live old))
        live_cleared h = omega (arith, c.changes.live_are h, live_mid h, goes h, stays h)

        mid_some : (h : ℕ) → 1 ≤ times h (positions (live old)) → 1 ≤ times h (positions (live mid))
        mid_some h some = let x = live_mid h in omega arith

        lies_mid : (h : ℕ) → 1 ≤ times h (positions (live mid)) → LiesIn mid heap_start (length mid) h
        lies_mid h some = there (LiesIn mid heap_start (length mid)) h (positions (live mid)) (live-lie mid allocator made.heap) some

        heap_cleared : IsHeap allocator cleared
        heap_cleared = subst (λ a. IsHeap a cleared) allocator_mid c.changes.heap

        lies_cleared : (h : ℕ) → 1 ≤ times h (positions (live cleared)) → 2 ≤ units_at cleared h
        lies_cleared h some = (there (LiesIn cleared heap_start (length cleared)) h (positions (live cleared)) (live-lie cleared allocator heap_cleared) some).size

        node_mid : 1 ≤ times (block_of node) (positions (live mid))
        node_mid = mid_some (block_of node) node_live

        -- a block is kept unless it is the node's, or the value or a frozen object owned it
        kept_cleared : (h : ℕ) → 1 ≤ times h (positions (live mid)) → h ≢ block_of node → times h k.zs + times h shared ≡ 0 → KeepsBlock mid cleared h
        kept_cleared h some ne none =
            let kept = c.changes.kept h some (goes h ∙ none) in
            record {
              live = kept.header.live;
              has_tag = kept.header.has_tag;
              room = kept.header.room;
              payload = kept.payload (h + 16) (payload_size mid h) (omega arith) (omega arith) (go (apart_blocks h some ne));
            }
          where
            apart_blocks : (h : ℕ) → 1 ≤ times h (positions (live mid)) → h ≢ block_of node → OneOrApart mid (block_of node) h
            apart_blocks h some ne = there (OneOrApart mid (block_of node)) h (positions (live mid)) (there (λ t. AllByRecursion (OneOrApart mid t) (positions (live mid))) (block_of node) (positions (live mid))
                (live-apart mid allocator made.heap) node_mid) some

            go : OneOrApart mid (block_of node) h → Separate (h + 16) (payload_size mid h) (node + 24) (size table U)
            go (inl e) = absurd (ne e)
            go (inr (inl l)) = inr (let high = inside_node.high in omega arith)
            go (inr (inr l)) = inl (let low = inside_node.low in let two = (lies_mid h some).size in omega arith)

        map_away : (h : ℕ) → 1 ≤ times h (s.home ∷ others) → (1 ≤ times h (positions (live mid))) × (h ≢ block_of node) × (times h k.zs + times h shared ≡ 0)
        map_away h some =
            let x = live_mid h in
            let o = all_fit h in
            let b = shares h in
            let d = others_are h in
            let l = live-once old allocator s.heap h in
            let p = times-more h (block_of node) k.zs in
            (omega arith, (λ e. let q = subst (λ y. times h (y ∷ k.zs) ≡ 1 + times h k.zs) e (times-same h k.zs) in omega arith), omega arith)

        map_whole : (h : ℕ) → 1 ≤ times h (map_stands.home ∷ others) → KeepsBlock mid cleared h
        map_whole h some = let w = map_away h (subst (λ b. 1 ≤ times h (b ∷ others)) map_home some) in kept_cleared h w.0 w.1 w.2

        map_owned : (h : ℕ) → times h (map_stands.home ∷ others) ≤ times h (positions (live cleared))
        map_owned h = subst (λ b. times h (b ∷ others) ≤ times h (positions (live cleared))) (sym map_home)
            (omega (arith, live_cleared h, all_fit h, shares h, others_are h, stays h, times-more h (block_of node) k.zs))

        map_cleared : Stands allocator cleared table place (without_entry (keys, vs) i) others
        map_cleared = stands_still allocator mid table place (without_entry (keys, vs) i) others map_stands cleared heap_cleared c.changes.front_kept map_whole c.changes.ownable map_owned

        map_cleared_home : map_cleared.home ≡ s.home
        unfolding map_cleared
        map_cleared_home = still_home allocator mid table place (without_entry (keys, vs) i) others map_stands cleared heap_cleared c.changes.front_kept map_whole c.changes.ownable map_owned ∙ map_home

        node_cleared : 1 ≤ times (block_of node) (positions (live cleared))
        node_cleared =
            let w = live_cleared (block_of node) in
            let o = all_fit (block_of node) in
            let b = shares (block_of node) in
            let p = times-more (block_of node) s.home blocks in
            let q = times-same (block_of node) k.zs in
            let l = live-once old allocator s.heap (block_of node) in
            let y = stays (block_of node) in
            let mine = node_live in
            omega arith

        g : Gives allocator cleared new (block_of node)
        g = gives heap_cleared (let d = found (block_of node) (live cleared) node_cleared in (d.block.units, subst (λ x. Contains (live cleared) (record { at = x; units = d.block.units })) d.at_is d.among))

        node_off : times (block_of node) (map_cleared.home ∷ others) ≡ 0
        node_off =
            let o = s.owned (block_of node) in
            let b = shares (block_of node) in
            let d = others_are (block_of node) in
            let q = times-same (block_of node) k.zs in
            let l = live-once old allocator s.heap (block_of node) in
            subst (λ x. times (block_of node) (x ∷ others) ≡ 0) (sym map_cleared_home) (omega arith)

        map_left : Stands allocator new table place (without_entry (keys, vs) i) others
        map_left = left_stands allocator cleared table place (without_entry (keys, vs) i) others map_cleared new (block_of node) g node_cleared node_off

        -- the other blocks are kept when the node is freed
        last_kept : (h : ℕ) → 1 ≤ times h (positions (live cleared)) → h ≢ block_of node → KeepsBlock cleared new h
        last_kept h some ne = (left_kept allocator cleared table place (without_entry (keys, vs) i) others map_cleared new (block_of node) g node_cleared node_off h some (λ e. ne (sym e))).whole.kept

        -- ---- the whole call

        given : live new ≡ after_gives (live old) (block_of node ∷ c.gives)
        given =
            g.given ∙ ap (λ bs. after_gives bs (block_of node ∷ [])) (c.changes.live_is ∙ ap (λ bs. after_gives bs c.gives) made.live_is)
            ∙ sym (given_last (live old) c.gives (block_of node))
            ∙ in_any_order (live old) (c.gives ++ block_of node ∷ []) (block_of node ∷ c.gives) (λ h. let n = times-append h c.gives (block_of node ∷ []) in omega arith)

        all_are : (h : ℕ) → times h (blocks ++ shared) ≡ times h ((block_of node ∷ c.gives) ++ (others ++ left))
        all_are h = omega (arith, times-append h blocks shared, shares h, others_are h, stays h, times-append h (block_of node ∷ c.gives) (others ++ left), times-append h others left)

        live_counts : (h : ℕ) → times h (positions (live new)) + times h (blocks ++ shared) ≡ times h (positions (live old)) + times h (others ++ left)
        live_counts h =
            let w = live_cleared h in
            let b = shares h in
            let d = others_are h in
            let n = times-append h blocks shared in
            let o = times-append h others left in
            let x = stays h in
            let y : times h (block_of node ∷ positions (live new)) ≡ times h (positions (live cleared)) = ap (λ bs. times h (block_of node ∷ positions bs)) g.given ∙ times-without h (block_of node) (live cleared) node_cleared in
            omega arith

        around_new : (h : ℕ) → 1 ≤ times h (positions (live old)) → times h (blocks ++ shared) ≡ 0 → KeepsBlockAround old new place.at (size table place.type) h
        around_new h some away =
            let none : times h blocks ≡ 0 = omega (arith, times-append h blocks shared) in
            let b = shares h in
            let p = times-more h (block_of node) k.zs in
            let x = mid_some h some in
            let ne : h ≢ block_of node = λ e. let q = subst (λ y. times h (y ∷ k.zs) ≡ 1 + times h k.zs) e (times-same h k.zs) in omega arith in
            let off : times h (map block_of ns) ≡ 0 = let n = times-append h (map block_of ns) m.owned in let d : times h blocks ≡ times h (map block_of ns ++ m.owned) = ap (times h) m.blocks_are in omega arith in
            let nothing : times h k.zs + times h shared ≡ 0 = omega (arith, times-append h blocks shared) in
            let step : KeepsBlock mid cleared h = kept_cleared h x ne nothing in
            let still : 1 ≤ times h (positions (live cleared)) = omega (arith, live_cleared h, stays h) in
            let last = last_kept h still ne in
            let first : KeepsBlockAround old mid place.at (size table place.type) h = rw cell_size (made.around h some off) in
            let two = (lies_mid h x).size in
            let then = lies_cleared h still in
            around_twice old mid new place.at (size table place.type) h first (around_twice mid cleared new place.at (size table place.type) h (around_kept mid cleared place.at (size table place.type) h (omega arith) step)
            (around_kept cleared new place.at (size table place.type) h (omega arith) last))

        -- ---- the remaining frozen objects

        left_away : (h : ℕ) → 1 ≤ times h left → (1 ≤ times h shared) × (1 ≤ times h (positions (live cleared))) × (h ≢ block_of node)
        left_away h some =
            let fewer = subst (λ fs. times h (blocks_by theirs fs) ≤ times h shared) beside.releasing.leaves (left_fewer theirs beside.releasing.pending now h) in
            let o = all_fit h in
            let b = shares h in
            let x = stays h in
            let w = live_cleared h in
            let l = live-once old allocator s.heap h in
            let p = times-more h s.home blocks in
            let r = times-more h (block_of node) k.zs in
            (omega arith, omega arith, (λ e. let q = subst (λ y. times h (y ∷ k.zs) ≡ 1 + times h k.zs) e (times-same h k.zs) in omega arith))

        left_first : KeepFrozen old mid theirs final
        left_first = frozen_kept allocator old mid s.heap theirs final (λ h some. (shared_away h (left_away h some).0).0) (λ h some. shared_whole h (left_away h some).0)

        left_last : KeepFrozen cleared new theirs final
        left_last = frozen_kept allocator cleared new heap_cleared theirs final (λ h some. (left_away h some).1) (λ h some. let w = left_away h some in last_kept h w.1 w.2)

        clears : ClearsPlace old new table place (without_entry (keys, vs) i) blocks others theirs now final
        clears =
            let last = left_frames allocator cleared table place (without_entry (keys, vs) i) others map_cleared new (block_of node) g node_cleared node_off (size table place.type) in
            record {
              gives = block_of node ∷ c.gives;
              all_are = all_are;
              changes = record {
                length_kept = last.length_kept ∙ c.changes.length_kept ∙ made.length_kept;
                front_kept = IsSame-trans old mid new 0 24 (made.low 0 24 (omega arith)) (IsSame-trans mid cleared new 0 24 c.changes.front_kept last.front_kept);
                back_kept = IsSame-trans old mid new 28 676 (made.low 28 676 (omega arith)) (IsSame-trans mid cleared new 28 676 c.changes.back_kept last.back_kept);
                heap = subst (λ a. IsHeap a new) (sym s.allocator_is) g.heap;
                ownable = map_left.ownable;
                holds_it = map_left.holds_it;
                live_is = given;
                live_are = live_counts;
                kept = around_new;
              };
              shared_kept = frozen_twice old mid new theirs final left_first (frozen_twice mid cleared new theirs final c.shared_kept left_last);
              holds = hold_kept cleared new table s.is_table theirs final (λ h some. let w = left_away h some in last_kept h w.1 w.2) c.holds;
            }

        -- ---- paths through other keys

        block_kept : (h : ℕ) → 1 ≤ times h (s.home ∷ others) → KeepsBlock mid new h
        block_kept h some =
            let w = map_away h some in
            let x = live_cleared h in
            let y = live_mid h in
            let z = stays h in
            let none = w.2 in
            let one : 1 ≤ times h (positions (live cleared)) = let r = w.0 in omega arith in
            kept_twice mid cleared new h (kept_cleared h w.0 w.1 w.2) (last_kept h one w.1)

        cell_kept : IsSame mid new place.at (size table place.type)
        cell_kept = same_place allocator mid table place (without_entry (keys, vs) i) others map_stands new (subst (KeepsBlock mid new) (sym map_home) (block_kept s.home (omega (arith, times-same s.home others))))

        keeps_others : KeepsOtherKeys old new table place key
        keeps_others other path inner ne way =
            Leads-kept mid new table s.is_table (path_mid other path inner ne way) holds_less cell_kept (each_there (KeepsBlock mid new) others (λ h some. block_kept h (omega (arith, times-more h s.home others))))

        parts_less : KeepsParts old new table place i 1 0
        parts_less = parts_then old mid new table place i 1 0 parts_mid
            (all_parts_kept mid new table s.is_table holds_less cell_kept (each_there (KeepsBlock mid new) others (λ h some. block_kept h (omega (arith, times-more h s.home others)))))

        pub takes_key : TakesKey old new table place keys vs blocks (KeepsOtherKeys old new table place key) i theirs now final
        takes_key = record {
          loses = record {
            lost = block_of node ∷ k.zs;
            part = part_gives;
            others = others;
            blocks_are = λ h. omega (arith, shares h, others_are h, times-append h (block_of node ∷ k.zs) others);
            clears = clears;
            parts = parts_less;
          };
          kept = keeps_others;
        }
