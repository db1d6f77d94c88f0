-- A list with one node more.
use Rattle.std.proofs.Common.{◌≡◌, ◌≢◌, ℕ, ◌+◌, ◌*◌, ◌%◌, ◌^◌, ◌<◌, ◌≤◌, ◌⊎◌, inl, inr, ⊎_elim, List, [], ◌∷◌, ◌++◌, length, map, Option, Some, refl, sym, ap, ◌∙◌, subst, arith, append-nil}
use Rattle.std.specs.List.{AllByRecursion}
use Rattle.std.proofs.lemmas.Bool.{cases_eq}
use Rattle.seg_spec.specs.Header.{free_word, back_start, back_size}
use Rattle.seg_spec.specs.Bytes.{IsSame}
use Rattle.seg_spec.specs.Types.{Form, Table, form_at, size}
use Rattle.seg_spec.specs.Value.{Values, nil, cons, count, append, default_of, Seq}
use Rattle.seg_spec.specs.Heap.{live, IsHeap, units_at}
use Rattle.seg_spec.specs.Block.{Kind, tag_of, block_of, IsBlock, IsInside, KeepsBlock}
use Rattle.seg_spec.specs.Reads.{Place, HoldsEach, holds_none, here}
use Rattle.seg_spec.specs.Apart.{KeepsBlockAround}
use Rattle.seg_spec.specs.Sound.{times, positions}
use Rattle.seg_spec.specs.Roots.{ChangesPlace}
use Rattle.seg_spec.specs.Parts.{persist_none, KeepsParts}
use Rattle.seg_spec.specs.Owning.{Stands}
use Rattle.seg_spec.proofs.Values.PlaceFrameLaws.{SamePlace, each_map, each_weaker, Holds-kept, HoldsEach-kept, PersistEach-kept}
use Rattle.seg_spec.proofs.Values.PersistenceLaws.{persist_then}
use Rattle.seg_spec.proofs.Heap.BlockFrameLaws.{around_twice, around_kept}
use Rattle.seg_spec.proofs.Heap.LiveBlockLaws.{times-same, times-more, times-append, there, each_there, LiesIn, live-lie, live-once}
use Rattle.seg_spec.proofs.Tables.TypeSizeLaws.{size-form}
use Rattle.seg_spec.proofs.Values.PathFrameLaws.{Leads-kept, Leads-each}
use Rattle.seg_spec.proofs.Values.PathSplitLaws.{each_joined, count_is}
use Rattle.seg_value.specs.Contents.{GivesBlock}
use Rattle.seg_seq.specs.Rings.{AreSpread, HasRing, Relinks}
use Rattle.seg_seq.specs.Lists.{MovesItems, AddsItem}
use Rattle.seg_seq.proofs.SeveralWriteLaws.{heap_same, live_same, ownable_same, low_same, block_there}
use Rattle.seg_seq.proofs.Homes.{are_spread, are_home, node_live, other_kept, home_kept, value_kept}
use Rattle.seg_seq.proofs.ListNodeLaws.{values_in, value_in, values_append, mapped_append, value_at_index, ListOf, list_of, holds_list, leads_on, item_leads, index_front, index_middle, length_values, list_parts, nodes_again}
use Rattle.seg_seq.proofs.NewNodeLaws.{taken_counts, taken_spent, taken_stands, taken_home}

module _ (allocator : ℕ) (old mid : List ℕ) (table : Table) (list : Place) (U payload : ℕ) (f : form_at table list.type ≡ Some (Form.list U)) (vs : Values) (blocks : List ℕ) (s : Stands allocator old table list (Seq vs) blocks)
    (given : GivesBlock allocator old mid table (tag_of Kind.node list.type) 8 U payload) where
  t : Stands allocator mid table list (Seq vs) blocks
  t = taken_stands allocator old mid table list U payload f (Seq vs) blocks s given

  t_home : t.home ≡ s.home
  unfolding t
  t_home = taken_home allocator old mid table list U payload f (Seq vs) blocks s given

  counts : (h : ℕ) → times h (positions (live mid)) ≡ times h (block_of payload ∷ positions (live old))
  counts h = taken_counts allocator old mid table list U payload f (Seq vs) blocks s given h

  -- the list before its new node is linked
  pub l : ListOf mid table list U vs blocks
  l = list_of mid table list U f vs blocks t.holds_it

  eight : size table list.type ≡ 8
  eight = size-form table s.is_table list.type (Form.list U) f

  abbrev nodes : List ℕ
  nodes = l.nodes

  abbrev all : List ℕ
  all = payload ∷ l.nodes

  inside : IsInside mid t.home list.at 8
  inside = rw eight at t.inside

  low : AllByRecursion (λ p. 16 ≤ p) all
  low = (given.is_block.after_header, each_weaker (λ p. IsBlock mid p (tag_of Kind.node list.type) (8 + size table U)) (λ p. 16 ≤ p) (λ p b. b.after_header) nodes l.are_nodes)

  blocks_count : (h : ℕ) → times h blocks ≡ times h (map block_of nodes) + times h l.owned
  blocks_count h = ap (times h) l.blocks_are ∙ times-append h (map block_of nodes) l.owned

  owned_count : (h : ℕ) → times h (t.home ∷ map block_of all) + times h l.owned ≤ times h (positions (live mid))
  owned_count h =
      let c = counts h in
      let o = s.owned h in
      let b = blocks_count h in
      let e : times h (t.home ∷ map block_of all) ≡ times h (s.home ∷ map block_of all) = ap (λ k. times h (k ∷ map block_of all)) t_home in
      omega arith

  owned : (h : ℕ) → times h (t.home ∷ map block_of all) ≤ times h (positions (live mid))
  owned h = let o = owned_count h in omega arith

  even : list.at % 8 ≡ 0
  even = s.aligned

  -- the cell, the new node and the others don't overlap
  pub added_spread : AreSpread mid (list.at ∷ payload ∷ l.nodes)
  added_spread = are_spread allocator mid given.heap list.at t.home inside even all low owned

  module _ (new : List ℕ) (r : Relinks mid new list.at (payload ∷ l.nodes) (l.nodes ++ payload ∷ [])) where
    homes : AllByRecursion (Rattle.seg_seq.proofs.SeveralWriteLaws.HasHome mid) (list.at ∷ all)
    homes = are_home allocator mid given.heap list.at t.home inside even all low owned

    now_live : live new ≡ live mid
    now_live = live_same allocator mid new (list.at ∷ all) given.heap r.changes homes

    node_there : (p : ℕ) → 1 ≤ times p all → IsBlock mid p (tag_of Kind.node list.type) (8 + size table U)
    node_there p some = there (λ p. IsBlock mid p (tag_of Kind.node list.type) (8 + size table U)) p all (given.is_block, l.are_nodes) some

    node_now : (p : ℕ) → 1 ≤ times p all → IsBlock new p (tag_of Kind.node list.type) (8 + size table U)
    node_now p some = block_there allocator mid new (list.at ∷ all) given.heap r.changes homes (block_of p) (node_live allocator mid given.heap list.at t.home inside even all low owned p some)
        p (tag_of Kind.node list.type) (8 + size table U) refl (node_there p some)

    value_same : (p : ℕ) → 1 ≤ times p all → IsSame mid new (p + 8) (size table U)
    value_same p some = value_kept allocator mid given.heap list.at t.home inside even all low owned new r.changes p (size table U) some (node_there p some).room

    more_nodes : (p : ℕ) → 1 ≤ times p nodes → 1 ≤ times p all
    more_nodes p some = let m = times-more p payload nodes in omega arith

    own_some : 1 ≤ times payload all
    own_some = let m = times-same payload nodes in omega arith

    values_same : AllByRecursion (SamePlace mid new table) (values_in U nodes)
    values_same = each_map (SamePlace mid new table) (λ p. record { at = p; type = U }) (map (λ p. p + 8) nodes) (each_map (λ p. IsSame mid new p (size table U)) (λ p. p + 8) nodes
        (each_there (λ p. IsSame mid new (p + 8) (size table U)) nodes (λ p some. value_same p (more_nodes p some))))

    owned_kept : AllByRecursion (KeepsBlock mid new) l.owned
    owned_kept = each_there (KeepsBlock mid new) l.owned (λ h some.
        let o = owned_count h in
        let once = live-once mid allocator given.heap h in
        let m = times-more h t.home (map block_of all) in
        let none : times h (t.home ∷ map block_of all) ≡ 0 = omega arith in
        let ne : h ≢ t.home = λ e. let k = times-same t.home (map block_of all) in let z : times t.home (t.home ∷ map block_of all) ≡ 0 = subst (λ x. times x (t.home ∷ map block_of all) ≡ 0) e none in absurd (omega arith) in
        other_kept allocator mid given.heap list.at t.home inside even all low owned new r.changes h (omega arith) ne (omega arith))

    abbrev others : List ℕ
    others = map block_of (l.nodes ++ payload ∷ []) ++ (l.owned ++ [])

    joined_values : HoldsEach new table (values_in U (l.nodes ++ payload ∷ [])) (append vs (cons (default_of table U) nil)) (l.owned ++ [])
    joined_values = rw (values_append U nodes (payload ∷ []))
        (each_joined new table (HoldsEach-kept mid new table s.is_table l.each values_same owned_kept) (Holds-kept mid new table s.is_table given.value (value_same payload own_some) tt) holds_none)

    m : ListOf new table list U (append vs (cons (default_of table U) nil)) others
    m = record {
      nodes = l.nodes ++ payload ∷ [];
      owned = l.owned ++ [];
      ring = r.ring;
      are_nodes = each_there (λ p. IsBlock new p (tag_of Kind.node list.type) (8 + size table U)) (nodes ++ payload ∷ []) (λ p some. node_now p (let a = times-append p nodes (payload ∷ []) in omega arith));
      each = joined_values;
      blocks_are = refl;
    }

    others_count : (h : ℕ) → times h others ≡ times h (block_of payload ∷ []) + times h blocks
    others_count h =
        let a : times h (map block_of (nodes ++ payload ∷ [])) ≡ times h (map block_of nodes ++ block_of payload ∷ []) = ap (times h) (mapped_append nodes (payload ∷ [])) in
        let b = times-append h (map block_of nodes) (block_of payload ∷ []) in
        let c = times-append h (map block_of (nodes ++ payload ∷ [])) (l.owned ++ []) in
        let d = times-append h l.owned [] in
        let e = blocks_count h in
        omega arith

    solid : (h : ℕ) → 1 ≤ times h (positions (live old)) → 2 ≤ units_at old h
    solid h some = (there (LiesIn old Rattle.seg_spec.specs.Heap.heap_start (length old)) h (positions (live old)) (live-lie old allocator s.heap) some).size

    kept_around : (h : ℕ) → 1 ≤ times h (positions (live old)) → times h blocks ≡ 0 → KeepsBlockAround old new list.at 8 h
    kept_around h some none =
        let first = around_kept old mid list.at 8 h (let two = solid h some in omega arith) (given.kept h some).0 in
        let c = counts h in
        let some_mid : 1 ≤ times h (positions (live mid)) = omega arith in
        around_twice old mid new list.at 8 h first (go some_mid (cases_eq t.home h))
      where
        go : 1 ≤ times h (positions (live mid)) → (t.home ≡ h) ⊎ (t.home ≢ h) → KeepsBlockAround mid new list.at 8 h
        go some_mid (inl e) = subst (λ k. KeepsBlockAround mid new list.at 8 k) e (home_kept allocator mid given.heap list.at t.home inside even all low owned new r.changes)
        go some_mid (inr ne) =
            let b = blocks_count h in
            let c = counts h in
            let once = live-once mid allocator given.heap h in
            let two = (there (LiesIn mid Rattle.seg_spec.specs.Heap.heap_start (length mid)) h (positions (live mid)) (live-lie mid allocator given.heap) some_mid).size in
            around_kept mid new list.at 8 h (omega arith) (other_kept allocator mid given.heap list.at t.home inside even all low owned new r.changes h some_mid (λ e. ne (sym e)) (omega arith))

    added_changes : ChangesPlace old new table list (Seq (append vs (cons (default_of table U) nil))) others (live mid) blocks others
    added_changes = record {
      length_kept = r.changes.length_kept ∙ given.length_kept;
      front_kept = low_same allocator mid new (list.at ∷ all) given.heap r.changes homes 0 free_word (omega arith) ∙ given.front_kept;
      back_kept = low_same allocator mid new (list.at ∷ all) given.heap r.changes homes back_start back_size (omega arith) ∙ given.back_kept;
      heap = subst (λ a. IsHeap a new) (sym s.allocator_is) (heap_same allocator mid new (list.at ∷ all) given.heap r.changes homes);
      ownable = ownable_same allocator mid new (list.at ∷ all) given.heap r.changes homes table t.ownable;
      holds_it = holds_list new table list U f (append vs (cons (default_of table U) nil)) others m;
      live_is = now_live;
      live_are = λ h. let c = counts h in let o = others_count h in let n : times h (positions (live new)) ≡ times h (positions (live mid)) = ap (λ bs. times h (positions bs)) now_live in omega arith;
      kept = λ h some none. rw eight (kept_around h some none);
    }

    count_nodes : count vs ≡ length nodes
    count_nodes = sym (count_is mid table l.each) ∙ length_values U nodes

    kept_mid : AllByRecursion (KeepsBlock old mid) blocks
    kept_mid = each_there (KeepsBlock old mid) blocks (λ h some. (given.kept h (let o = s.owned h in omega arith)).0)

    place_mid : IsSame old mid list.at (size table list.type)
    place_mid =
        let home_whole = (given.kept s.home (let o = s.owned s.home in let k = times-same s.home blocks in omega arith)).0 in
        Rattle.seg_spec.proofs.Values.CallPlaceLaws.same_place allocator old table list (Seq vs) blocks s mid home_whole

    -- the other items stay in their nodes
    item_parts : KeepsParts old new table list (count vs) 0 1
    unfolding m
    item_parts =
        let before = list_of old table list U f vs blocks s.holds_it in
        let again = nodes_again old mid table s.is_table list U f vs blocks before l place_mid kept_mid in
        let stay = persist_then old mid new table again.stay (PersistEach-kept mid new table s.is_table l.each values_same owned_kept) in
        let k = list_parts old new table list U f vs (append vs (cons (default_of table U) nil)) blocks others before m nodes [] (payload ∷ []) [] (again.nodes_are ∙ sym (append-nil nodes)) refl stay persist_none in
        subst (λ n. KeepsParts old new table list n 0 1) (sym count_nodes) k

    moved : MovesItems old new table list (λ i. Some i)
    unfolding m
    moved i path inner p =
        let q = Leads-kept old mid table s.is_table p s.holds_it place_mid kept_mid in
        let n = item_leads mid table list U f vs blocks l i path inner q in
        let at = value_at_index U nodes i n.node n.node_is in
        let rest = Leads-each mid new table s.is_table (value_in U n.node) i l.each at values_same owned_kept n.rest in
        leads_on new table list U f (append vs (cons (default_of table U) nil)) others m i n.node path inner (index_front nodes (payload ∷ []) i n.node n.node_is) rest

    pub item_added : AddsItem allocator old new table list U (append vs (cons (default_of table U) nil)) blocks (count vs) (payload + 8) (λ i. Some i)
    unfolding m
    item_added = record {
      others = others;
      succeeds = record { left = live mid; left_is = taken_spent allocator old mid table list U payload f (Seq vs) blocks s given; changes = added_changes };
      parts = item_parts;
      stands = leads_on new table list U f (append vs (cons (default_of table U) nil)) others m (count vs) payload [] (value_in U payload) (rw count_nodes (index_middle nodes payload [])) here;
      moves = moved;
    }

-- the same, with the position that the code computes
pub item_pushed : (allocator : ℕ) (old mid new : List ℕ) (table : Table) (list : Place) (U payload at : ℕ) (f : form_at table list.type ≡ Some (Form.list U)) (vs : Values) (blocks : List ℕ)
    (s : Stands allocator old table list (Seq vs) blocks) (given : GivesBlock allocator old mid table (tag_of Kind.node list.type) 8 U payload) → at ≡ (payload + 8) % 2 ^ 32 →
    ((nodes : List ℕ) → HasRing mid list.at nodes → AreSpread mid (list.at ∷ payload ∷ nodes) → Relinks mid new list.at (payload ∷ nodes) (nodes ++ payload ∷ [])) →
    AddsItem allocator old new table list U (append vs (cons (default_of table U) nil)) blocks (count vs) at (λ i. Some i)
item_pushed allocator old mid new table list U payload at f vs blocks s given at_is inserted =
    let spread = added_spread allocator old mid table list U payload f vs blocks s given in
    let ring = (l allocator old mid table list U payload f vs blocks s given).ring in
    let r = inserted (l allocator old mid table list U payload f vs blocks s given).nodes ring spread in
    let its = spread.fit.1.0.1 in
    let small = spread.small in
    let is : at ≡ payload + 8 = omega arith in
    rw is (item_added allocator old mid table list U payload f vs blocks s given new r)
