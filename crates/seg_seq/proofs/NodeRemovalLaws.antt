-- A node is removed from a list, with the frozen objects that lost their last cell.
use Rattle.std.proofs.Common.{◌≡◌, ◌≢◌, ℕ, suc, ◌+◌, ◌%◌, ◌≤◌, ◌⊎◌, inl, inr, List, [], ◌∷◌, ◌++◌, length, map, Some, refl, sym, ap, ◌∙◌, subst, arith, append_assoc}
use Rattle.std.specs.Prelude.{slice_get}
use Rattle.std.specs.List.{AllByRecursion}
use Rattle.std.proofs.lemmas.Bool.{cases_eq}
use Rattle.seg_spec.specs.Header.{free_word, back_start, back_size}
use Rattle.seg_spec.specs.Bytes.{word, IsSame}
use Rattle.seg_spec.specs.Types.{Form, Table, form_at, size}
use Rattle.seg_spec.specs.Value.{Value, Values, nil, cons, count, append, default_of, Seq, Selector}
use Rattle.seg_spec.specs.Items.{remove_nth}
use Rattle.seg_spec.specs.Heap.{live, IsHeap, IsLive, Gives, heap_start, units_at}
use Rattle.seg_spec.specs.Block.{Kind, tag_of, block_of, IsBlock, IsInside, IsOwnable, KeepsBlock, payload_size}
use Rattle.seg_spec.specs.Reads.{Place, AreNodes, Holds, HoldsEach, holds_none, holds_more, Leads}
use Rattle.seg_spec.specs.Apart.{Separate, KeepsBlockAround}
use Rattle.seg_spec.specs.Sound.{times, positions}
use Rattle.seg_spec.specs.Roots.{ChangesPlace}
use Rattle.seg_spec.specs.Frozen.{Frozen, blocks_by}
use Rattle.seg_spec.specs.Destroying.{AreLive}
use Rattle.seg_spec.specs.Clearing.{SharedBeside, ClearsPlace}
use Rattle.seg_spec.specs.Parts.{PersistEach}
use Rattle.seg_spec.specs.Owning.{Stands}
use Rattle.seg_spec.specs.Demand.{after_gives}
use Rattle.seg_spec.specs.Pointer.{target}
use Rattle.seg_spec.proofs.Values.PlaceFrameLaws.{SamePlace, each_map, each_weaker, Holds-kept, HoldsEach-kept, PersistEach-kept, IsBlock-kept, IsRing-same, cell-target, cell-count, payload-same, word-same}
use Rattle.seg_spec.proofs.SliceLaws.{IsSame-part}
use Rattle.seg_spec.proofs.Heap.BlockFrameLaws.{kept_twice, around_twice, around_kept}
use Rattle.seg_spec.proofs.Heap.LiveBlockLaws.{times-same, times-more, times-append, times-without, there, each_there, LiesIn, live-lie, live-apart, live-once, OneOrApart}
use Rattle.seg_spec.proofs.Tables.TypeSizeLaws.{size-form}
use Rattle.seg_spec.proofs.Values.PathFrameLaws.{Leads-each}
use Rattle.seg_spec.proofs.Deallocation.BlockFreeLaws.{given_kept}
use Rattle.seg_spec.proofs.Heap.KeptBlockLaws.{front_kept}
use Rattle.seg_spec.proofs.Deallocation.DestructionLaws.{gives_more}
use Rattle.seg_spec.proofs.Frozen.FrozenBlockLaws.{hold_kept, frozen_twice, frozen_kept}
use Rattle.seg_spec.proofs.Heap.FreeOrderLaws.{in_any_order}
use Rattle.seg_spec.proofs.Values.CallPlaceLaws.{ownable_linked, each_live_at, live_at}
use Rattle.seg_value.proofs.Turns.{is_live}
use Rattle.seg_seq.specs.Rings.{AreSpread, Relinks}
use Rattle.seg_seq.proofs.SeveralWriteLaws.{HasHome, heap_same, live_same, ownable_same, low_same, block_there}
use Rattle.seg_spec.proofs.Heap.NodeBlockLaws.{times_mapped}
use Rattle.seg_seq.proofs.Homes.{are_spread, are_home, node_live, other_kept, home_kept, value_kept}
use Rattle.seg_seq.proofs.ListNodeLaws.{values_in, value_in, values_append, mapped_append, value_at_index, ListOf, holds_list}

-- ---- values before and after one of them

module _ (bytes : List ℕ) (table : Table) (U : ℕ) where
  pub each_append : {xs ys : List Place} {vs ws : Values} {bs cs : List ℕ} → HoldsEach bytes table xs vs bs → HoldsEach bytes table ys ws cs → HoldsEach bytes table (xs ++ ys) (append vs ws) (bs ++ cs)
  each_append holds_none r = r
  each_append (holds_more {blocks = bs} {owned = cs} h hs) r = rw append_assoc (holds_more h (each_append hs r))

  -- the values of the nodes before one, of this node, and of the nodes after it
  pub record SplitAt (xs : List ℕ) (node : ℕ) (ys : List ℕ) (vs : Values) (owned : List ℕ) : Type 0 where
    pub left : Values
    pub right : Values
    pub value : Value
    pub front : List ℕ
    pub its : List ℕ
    pub back : List ℕ
    pub lefts : HoldsEach bytes table (values_in U xs) left front
    pub holds_it : Holds bytes table (value_in U node) value its
    pub rights : HoldsEach bytes table (values_in U ys) right back
    pub values_are : vs ≡ append left (cons value right)
    pub owned_is : owned ≡ front ++ (its ++ back)
    pub at_is : count left ≡ length xs

  pub split_at : (xs : List ℕ) (node : ℕ) (ys : List ℕ) (vs : Values) (owned : List ℕ) → HoldsEach bytes table (values_in U (xs ++ node ∷ ys)) vs owned → SplitAt xs node ys vs owned
  split_at [] node ys vs owned (holds_more {v = v} {vs = ws} {blocks = bs} {owned = cs} h hs) = record {
    left = nil;
    right = ws;
    value = v;
    front = [];
    its = bs;
    back = cs;
    lefts = holds_none;
    holds_it = h;
    rights = hs;
    values_are = refl;
    owned_is = refl;
    at_is = refl;
  }
  split_at (x ∷ xs) node ys vs owned (holds_more {v = v} {vs = ws} {blocks = bs} {owned = cs} h hs) =
      let r = split_at xs node ys ws cs hs in
      record {
        left = cons v r.left;
        right = r.right;
        value = r.value;
        front = bs ++ r.front;
        its = r.its;
        back = r.back;
        lefts = holds_more h r.lefts;
        holds_it = r.holds_it;
        rights = r.rights;
        values_are = ap (cons v) r.values_are;
        owned_is = ap (λ zs. bs ++ zs) r.owned_is ∙ sym (append_assoc bs r.front (r.its ++ r.back));
        at_is = ap suc r.at_is;
      }

pub remove_nth-append : (vs : Values) (v : Value) (ws : Values) → remove_nth (append vs (cons v ws)) (count vs) ≡ append vs ws
remove_nth-append nil v ws = refl
remove_nth-append (cons u vs) v ws = ap (cons u) (remove_nth-append vs v ws)

-- ---- the node is taken out of the ring

module _ (allocator : ℕ) (old : List ℕ) (table : Table) (list : Place) (U node : ℕ) (xs ys : List ℕ) (f : form_at table list.type ≡ Some (Form.list U)) (vs : Values) (blocks owned : List ℕ)
    (s : Stands allocator old table list (Seq vs) blocks) (are_nodes : AreNodes old (tag_of Kind.node list.type) (8 + size table U) (xs ++ node ∷ ys)) (blocks_are : blocks ≡ map block_of (xs ++ node ∷ ys) ++ owned)
    (p : SplitAt old table U xs node ys vs owned) where
  abbrev all : List ℕ
  all = xs ++ node ∷ ys

  abbrev rest : List ℕ
  rest = xs ++ ys

  abbrev b : ℕ
  b = block_of node

  eight : size table list.type ≡ 8
  eight = size-form table s.is_table list.type (Form.list U) f

  inside : IsInside old s.home list.at 8
  inside = rw eight at s.inside

  low : AllByRecursion (λ q. 16 ≤ q) all
  low = each_weaker (λ q. IsBlock old q (tag_of Kind.node list.type) (8 + size table U)) (λ q. 16 ≤ q) (λ q k. k.after_header) all are_nodes

  -- the blocks of all nodes are the node's block and the blocks of the others
  all_count : (h : ℕ) → times h (map block_of all) ≡ times h (b ∷ map block_of rest)
  all_count h =
      let a : times h (map block_of all) ≡ times h (map block_of xs ++ b ∷ map block_of ys) = ap (times h) (mapped_append xs (node ∷ ys)) in
      let c : times h (map block_of rest) ≡ times h (map block_of xs ++ map block_of ys) = ap (times h) (mapped_append xs ys) in
      let d = times-append h (map block_of xs) (b ∷ map block_of ys) in
      let e = times-append h (map block_of xs) (map block_of ys) in
      omega arith

  owned_count : (h : ℕ) → times h owned ≡ times h p.its + times h (p.front ++ p.back)
  owned_count h =
      let a : times h owned ≡ times h (p.front ++ (p.its ++ p.back)) = ap (times h) p.owned_is in
      let c = times-append h p.front (p.its ++ p.back) in
      let d = times-append h p.its p.back in
      let e = times-append h p.front p.back in
      omega arith

  blocks_count : (h : ℕ) → times h blocks ≡ times h (map block_of all) + times h owned
  blocks_count h = ap (times h) blocks_are ∙ times-append h (map block_of all) owned

  -- the blocks that the list then owns
  abbrev pub others : List ℕ
  others = map block_of (xs ++ ys) ++ (p.front ++ p.back)

  pub dropped_blocks : (h : ℕ) → times h blocks ≡ times h (b ∷ p.its) + times h others
  dropped_blocks h =
      let k = blocks_count h in
      let a = all_count h in
      let o = owned_count h in
      let q = times-append h (map block_of rest) (p.front ++ p.back) in
      omega arith

  fits : (h : ℕ) → times h (s.home ∷ map block_of all) + times h owned ≤ times h (positions (live old))
  fits h = let o = s.owned h in let c = blocks_count h in omega arith

  once : (h : ℕ) → times h (positions (live old)) ≤ 1
  once h = live-once old allocator s.heap h

  own : (h : ℕ) → times h (s.home ∷ map block_of all) ≤ times h (positions (live old))
  own h = let o = fits h in omega arith

  pub dropped_spread : AreSpread old (list.at ∷ xs ++ node ∷ ys)
  dropped_spread = are_spread allocator old s.heap list.at s.home inside s.aligned all low own

  homes : AllByRecursion (HasHome old) (list.at ∷ all)
  homes = are_home allocator old s.heap list.at s.home inside s.aligned all low own

  node_some : 1 ≤ times node all
  node_some = let a = times-append node xs (node ∷ ys) in let t = times-same node ys in omega arith

  rest_some : (q : ℕ) → 1 ≤ times q rest → 1 ≤ times q all
  rest_some q some = let a = times-append q xs (node ∷ ys) in let c = times-append q xs ys in let t = times-more q node ys in omega arith

  b_live : 1 ≤ times b (positions (live old))
  b_live = node_live allocator old s.heap list.at s.home inside s.aligned all low own node node_some

  not_home : (h : ℕ) → 1 ≤ times h (map block_of all) + times h owned → h ≢ s.home
  not_home h some e =
      let o = fits h in
      let l = once h in
      let t = times-same s.home (map block_of all) in
      let z : times h (s.home ∷ map block_of all) ≡ 1 + times h (map block_of all) = subst (λ k. times k (s.home ∷ map block_of all) ≡ 1 + times k (map block_of all)) (sym e) t in
      absurd (omega arith)

  module _ (one : List ℕ) (r : Relinks old one list.at (xs ++ node ∷ ys) (xs ++ ys)) where
    one_live : live one ≡ live old
    one_live = live_same allocator old one (list.at ∷ all) s.heap r.changes homes

    one_heap : IsHeap allocator one
    one_heap = heap_same allocator old one (list.at ∷ all) s.heap r.changes homes

    one_ownable : AllByRecursion (λ k. IsOwnable one table k.at) (live one)
    one_ownable = ownable_same allocator old one (list.at ∷ all) s.heap r.changes homes table s.ownable

    one_count : (h : ℕ) → times h (positions (live one)) ≡ times h (positions (live old))
    one_count h = ap (λ bs. times h (positions bs)) one_live

    node_there : (q : ℕ) → 1 ≤ times q all → IsBlock old q (tag_of Kind.node list.type) (8 + size table U)
    node_there q some = there (λ q. IsBlock old q (tag_of Kind.node list.type) (8 + size table U)) q all are_nodes some

    node_now : (q : ℕ) → 1 ≤ times q all → IsBlock one q (tag_of Kind.node list.type) (8 + size table U)
    node_now q some = block_there allocator old one (list.at ∷ all) s.heap r.changes homes (block_of q) (node_live allocator old s.heap list.at s.home inside s.aligned all low own q some)
        q (tag_of Kind.node list.type) (8 + size table U) refl (node_there q some)

    value_same : (q : ℕ) → 1 ≤ times q all → IsSame old one (q + 8) (size table U)
    value_same q some = value_kept allocator old s.heap list.at s.home inside s.aligned all low own one r.changes q (size table U) some (node_there q some).room

    owned_kept : (h : ℕ) → 1 ≤ times h owned → KeepsBlock old one h
    owned_kept h some =
        let o = fits h in
        let l = once h in
        let m = times-more h s.home (map block_of all) in
        other_kept allocator old s.heap list.at s.home inside s.aligned all low own one r.changes h (omega arith) (not_home h (omega arith)) (omega arith)

    one_word : word one 16 ≡ allocator
    one_word = word-same old one 16 (low_same allocator old one (list.at ∷ all) s.heap r.changes homes 16 4 (omega arith)) ∙ s.allocator_is

    pub item_inside : IsInside one b (node + 8) (size table U)
    item_inside =
        let n = node_now node node_some in
        let lo = n.after_header in
        let room = n.room in
        let two = (there (LiesIn one heap_start (length one)) b (positions (live one)) (live-lie one allocator one_heap) (let c = one_count b in let l = b_live in omega arith)).size in
        record { low = omega arith; high = omega arith }

    -- the item between the two parts
    pub item_stands : Stands allocator one table (value_in U node) p.value p.its
    item_stands = record {
      heap = one_heap;
      allocator_is = one_word;
      is_table = s.is_table;
      ownable = one_ownable;
      holds_it = Holds-kept old one table s.is_table p.holds_it (value_same node node_some) (each_there (KeepsBlock old one) p.its (λ h some. owned_kept h (let c = owned_count h in omega arith)));
      aligned = let q = there (λ q. (q % 8 ≡ 0) × (q + 8 ≤ length old)) node all dropped_spread.fit.1 node_some in let e = q.0 in omega arith;
      home = b;
      inside = item_inside;
      owned = λ h.
          let c = one_count h in
          let o = fits h in
          let n = owned_count h in
          let a = all_count h in
          omega arith;
    }

    -- ---- with frozen objects, whose blocks aren't the list's

    module _ (theirs : ℕ → List ℕ) (now final : List Frozen) (beside : AreLive old ((s.home ∷ blocks) ++ blocks_by theirs now)) where
      abbrev shares : List ℕ
      shares = blocks_by theirs now

      all_fit : (h : ℕ) → times h (s.home ∷ map block_of all) + (times h owned + times h shares) ≤ times h (positions (live old))
      all_fit h = let o = beside h in let c = blocks_count h in let a = times-append h (s.home ∷ blocks) shares in omega arith

      -- a block that an item or a frozen object owns isn't the block of the list's cell
      beside_other : (h : ℕ) → 1 ≤ times h owned + times h shares → h ≢ s.home
      beside_other h some e =
          let mine : 1 ≤ times s.home owned + times s.home shares = subst (λ k. 1 ≤ times k owned + times k shares) e some in
          let o = all_fit s.home in
          let l = once s.home in
          let t = times-same s.home (map block_of all) in
          absurd (omega arith)

      beside_kept : (h : ℕ) → 1 ≤ times h owned + times h shares → KeepsBlock old one h
      beside_kept h some =
          let o = all_fit h in
          let l = once h in
          let m = times-more h s.home (map block_of all) in
          other_kept allocator old s.heap list.at s.home inside s.aligned all low own one r.changes h (omega arith) (beside_other h some) (omega arith)

      -- the state in which the call that destroys the item begins
      pub item_beside : (names : List ℕ) (kept : List Place) → SharedBeside old table (s.home ∷ blocks) names theirs kept now final → SharedBeside one table (item_stands.home ∷ p.its) names theirs kept now final
      unfolding item_stands
      item_beside names kept shared = record {
        holds = hold_kept old one table s.is_table theirs now (λ h some. beside_kept h (omega arith)) shared.holds;
        ownable = λ h some. live_at (IsOwnable one table) (live one) h one_ownable (let o = all_fit h in let c = one_count h in omega arith);
        owned = λ h.
            let c = one_count h in
            let o = all_fit h in
            let n = owned_count h in
            let a = all_count h in
            let m = times-append h (b ∷ p.its) shares in
            omega arith;
        releasing = shared.releasing;
      }

      -- ---- what the item owned is freed, and then its node

      module _ (two : List ℕ) (c : ClearsPlace one two table (value_in U node) (default_of table U) p.its [] theirs now final) where
        pub two_heap : IsHeap allocator two
        two_heap = subst (λ a. IsHeap a two) one_word c.changes.heap

        abbrev left : List ℕ
        left = blocks_by theirs final

        -- each block of the item and of the frozen objects is freed or kept
        goes : (h : ℕ) → times h p.its + times h shares ≡ times h c.gives + times h left
        goes h = let a = c.all_are h in let m = times-append h p.its shares in let n = times-append h c.gives left in omega arith

        two_count : (h : ℕ) → times h (positions (live two)) + times h c.gives ≡ times h (positions (live old))
        two_count h = let l = c.changes.live_are h in let o = one_count h in let g = goes h in let m = times-append h p.its shares in omega arith

        b_alone : times b p.its + times b shares ≡ 0
        b_alone = let o = all_fit b in let l = once b in let n = owned_count b in let a = all_count b in let t = times-same b (map block_of rest) in omega arith

        b_two : 1 ≤ times b (positions (live two))
        b_two = let l = two_count b in let a = b_alone in let g = goes b in let k = b_live in omega arith

        pub node_live_still : IsLive two (block_of node)
        node_live_still = is_live two b b_two

        -- the blocks of the remaining frozen objects are kept
        left_one : (h : ℕ) → 1 ≤ times h left → KeepsBlock old one h
        left_one h some = beside_kept h (let n = owned_count h in let g = goes h in omega arith)

        left_old : (h : ℕ) → 1 ≤ times h left → 1 ≤ times h (positions (live old))
        left_old h some = let o = all_fit h in let n = owned_count h in let g = goes h in omega arith

        left_two : (h : ℕ) → 1 ≤ times h left → 1 ≤ times h (positions (live two))
        left_two h some = let o = all_fit h in let n = owned_count h in let g = goes h in let t = two_count h in omega arith

        left_other : (h : ℕ) → 1 ≤ times h left → h ≢ b
        left_other h some e =
            let mine : 1 ≤ times b left = subst (λ k. 1 ≤ times k left) e some in
            let a = b_alone in
            let g = goes b in
            absurd (omega arith)

        module _ (new : List ℕ) (g : Gives allocator two new (block_of node)) where
          left_new : (h : ℕ) → 1 ≤ times h left → KeepsBlock two new h
          left_new h some = (given_kept allocator two new b two_heap g h (left_two h some) (left_other h some)).whole.kept

          -- any other block
          module _ (h : ℕ) (some : 1 ≤ times h (positions (live old))) (ne : h ≢ b) (none : times h p.its + times h shares ≡ 0) where
            some_one : 1 ≤ times h (positions (live one))
            some_one = let o = one_count h in omega arith

            some_two : 1 ≤ times h (positions (live two))
            some_two = let o = two_count h in let g = goes h in omega arith

            apart : OneOrApart one b h → LiesIn one heap_start (length one) h → Separate (h + 16) (payload_size one h) (node + 8) (size table U)
            apart (inl e) l = absurd (ne e)
            apart (inr (inl before)) l = inr (omega (arith, item_inside.high))
            apart (inr (inr following)) l = inl (omega (arith, item_inside.low, l.size))

            whole_two : KeepsBlock one two h
            whole_two =
                let k = c.changes.kept h some_one (let m = times-append h p.its shares in omega arith) in
                let mine = there (λ t. AllByRecursion (OneOrApart one t) (positions (live one))) b (positions (live one)) (live-apart one allocator one_heap) (let o = one_count b in let l = b_live in omega arith) in
                let pair = there (OneOrApart one b) h (positions (live one)) mine some_one in
                let l = there (LiesIn one heap_start (length one)) h (positions (live one)) (live-lie one allocator one_heap) some_one in
                record { live = k.header.live; has_tag = k.header.has_tag; room = k.header.room; payload = k.payload (h + 16) (payload_size one h) (omega arith) (omega arith) (apart pair l) }

            whole_new : KeepsBlock one new h
            whole_new = kept_twice one two new h whole_two (given_kept allocator two new b two_heap g h some_two ne).whole.kept

          new_count : (h : ℕ) → times h (b ∷ positions (live new)) ≡ times h (positions (live two))
          new_count h = ap (λ bs. times h (b ∷ positions bs)) g.given ∙ times-without h b (live two) b_two

          new_live : live new ≡ after_gives (live old) (b ∷ c.gives)
          new_live =
              g.given ∙ ap (Rattle.seg_spec.specs.Heap.without b) c.changes.live_is ∙ sym (gives_more (live one) c.gives b)
              ∙ in_any_order (live one) (c.gives ++ b ∷ []) (b ∷ c.gives) (λ h. let a = times-append h c.gives (b ∷ []) in omega arith)
              ∙ ap (λ bs. after_gives bs (b ∷ c.gives)) one_live

          new_ownable : AllByRecursion (λ k. IsOwnable new table k.at) (live new)
          new_ownable = each_live_at (IsOwnable new table) (live new) (λ h some.
              let n = new_count h in
              let some_two : 1 ≤ times h (positions (live two)) = omega arith in
              let ne : h ≢ b = λ e. let t = times-same b (positions (live new)) in let m = new_count b in let l = live-once two allocator two_heap b in
              let z : 1 ≤ times b (positions (live new)) = subst (λ k. 1 ≤ times k (positions (live new))) e some in absurd (omega arith) in
              ownable_linked two new table h (given_kept allocator two new b two_heap g h some_two ne) (live_at (IsOwnable two table) (live two) h c.changes.ownable some_two))

          -- the blocks that the list still owns are kept, and so is the block that it lies in
          kept_now : (h : ℕ) → 1 ≤ times h (s.home ∷ others) → KeepsBlock one new h
          kept_now h some =
              let a = times-append h (map block_of rest) (p.front ++ p.back) in
              let o = all_fit h in
              let l = once h in
              let n = owned_count h in
              let m = all_count h in
              whole_new h (omega arith) (λ e.
              let t = times-same b (map block_of rest) in
              let z : times h (b ∷ map block_of rest) ≡ 1 + times h (map block_of rest) = subst (λ k. times k (b ∷ map block_of rest) ≡ 1 + times k (map block_of rest)) (sym e) t in
              absurd (omega arith)) (let q = times-more h b (map block_of rest) in omega arith)

          home_now : KeepsBlock one new s.home
          home_now = kept_now s.home (let t = times-same s.home others in omega arith)

          home_first : KeepsBlockAround old one list.at 8 s.home
          home_first = home_kept allocator old s.heap list.at s.home inside s.aligned all low own one r.changes

          cell_same : IsSame one new list.at 8
          cell_same =
              let room = home_first.header.room in
              let lo = inside.low in
              let hi = inside.high in
              IsSame-part one new (s.home + 16) (payload_size one s.home) list.at 8 (omega arith) (omega arith) home_now.payload

          node_kept : (q : ℕ) → 1 ≤ times q (xs ++ ys) → KeepsBlock one new (block_of q)
          node_kept q some =
              let m = times_mapped q (xs ++ ys) in
              let a = times-append (block_of q) (map block_of rest) (p.front ++ p.back) in
              kept_now (block_of q) (let t = times-more (block_of q) s.home others in omega arith)

          node_same : (q : ℕ) → 1 ≤ times q (xs ++ ys) → IsSame one new q (8 + size table U)
          node_same q some = payload-same one new q (tag_of Kind.node list.type) (8 + size table U) (node_kept q some) (node_now q (rest_some q some))

          -- the values of the other nodes are kept
          value_new : (q : ℕ) → 1 ≤ times q (xs ++ ys) → IsSame old new (q + 8) (size table U)
          value_new q some = IsSame-part one new q (8 + size table U) (q + 8) (size table U) (omega arith) (omega arith) (node_same q some) ∙ value_same q (rest_some q some)

          values_new : (qs : List ℕ) → ((q : ℕ) → 1 ≤ times q qs → 1 ≤ times q (xs ++ ys)) → AllByRecursion (SamePlace old new table) (values_in U qs)
          values_new qs among = each_map (SamePlace old new table) (λ q. record { at = q; type = U }) (map (λ q. q + 8) qs) (each_map (λ q. IsSame old new q (size table U)) (λ q. q + 8) qs
              (each_there (λ q. IsSame old new (q + 8) (size table U)) qs (λ q some. value_new q (among q some))))

          owned_new : (h : ℕ) → 1 ≤ times h (p.front ++ p.back) → KeepsBlock old new h
          owned_new h some =
              let n = owned_count h in
              let a = times-append h (map block_of rest) (p.front ++ p.back) in
              kept_twice old one new h (owned_kept h (omega arith)) (kept_now h (let t = times-more h s.home others in omega arith))

          front_new : AllByRecursion (KeepsBlock old new) p.front
          front_new = each_there (KeepsBlock old new) p.front (λ h some. owned_new h (let a = times-append h p.front p.back in omega arith))

          back_new : AllByRecursion (KeepsBlock old new) p.back
          back_new = each_there (KeepsBlock old new) p.back (λ h some. owned_new h (let a = times-append h p.front p.back in omega arith))

          xs_new : AllByRecursion (SamePlace old new table) (values_in U xs)
          xs_new = values_new xs (λ k some. let a = times-append k xs ys in omega arith)

          ys_new : AllByRecursion (SamePlace old new table) (values_in U ys)
          ys_new = values_new ys (λ k some. let a = times-append k xs ys in omega arith)

          -- the list without the node
          pub list_new : ListOf new table list U (append p.left p.right) others
          list_new = record {
            nodes = xs ++ ys;
            owned = p.front ++ p.back;
            ring = record {
              ring = rw (cell-target one new list.at cell_same) (IsRing-same one new (target one list.at) (xs ++ ys)
                  (each_there (λ q. IsSame one new q 8) (xs ++ ys) (λ q some. IsSame-part one new q (8 + size table U) q 8 (omega arith) (omega arith) (node_same q some))) r.ring.ring);
              counted = r.ring.counted ∙ sym (cell-count one new list.at cell_same);
            };
            are_nodes = each_there (λ q. IsBlock new q (tag_of Kind.node list.type) (8 + size table U)) (xs ++ ys)
                (λ q some. IsBlock-kept one new q (tag_of Kind.node list.type) (8 + size table U) (node_kept q some) (node_now q (rest_some q some)));
            each = rw (values_append U xs ys) (each_append new table U (HoldsEach-kept old new table s.is_table p.lefts xs_new front_new) (HoldsEach-kept old new table s.is_table p.rights ys_new back_new));
            blocks_are = refl;
          }

          pub new_nodes : list_new.nodes ≡ xs ++ ys
          unfolding list_new
          new_nodes = refl

          solid : (h : ℕ) → 1 ≤ times h (positions (live old)) → 2 ≤ units_at old h
          solid h some = (there (LiesIn old heap_start (length old)) h (positions (live old)) (live-lie old allocator s.heap) some).size

          kept_around : (h : ℕ) → 1 ≤ times h (positions (live old)) → times h (blocks ++ shares) ≡ 0 → KeepsBlockAround old new list.at 8 h
          kept_around h some none =
              let k = blocks_count h in
              let m = times-append h blocks shares in
              let a = all_count h in
              let n = owned_count h in
              let ne : h ≢ b = λ e. let t = times-same b (map block_of rest) in
              let z : times h (b ∷ map block_of rest) ≡ 1 + times h (map block_of rest) = subst (λ k. times k (b ∷ map block_of rest) ≡ 1 + times k (map block_of rest)) (sym e) t in absurd (omega arith) in
              let later = whole_new h some ne (omega arith) in
              let one_solid = (there (LiesIn one heap_start (length one)) h (positions (live one)) (live-lie one allocator one_heap) (some_one h some ne (omega arith))).size in
              around_twice old one new list.at 8 h (go (omega arith) (cases_eq s.home h)) (around_kept one new list.at 8 h (omega arith) later)
            where
              go : times h (map block_of all) ≡ 0 → (s.home ≡ h) ⊎ (s.home ≢ h) → KeepsBlockAround old one list.at 8 h
              go zero_nodes (inl e) = subst (λ k. KeepsBlockAround old one list.at 8 k) e home_first
              go zero_nodes (inr other) =
                  let two_units = solid h some in
                  around_kept old one list.at 8 h (omega arith) (other_kept allocator old s.heap list.at s.home inside s.aligned all low own one r.changes h some (λ e. other (sym e)) zero_nodes)

          long : heap_start ≤ length two
          long = let l = there (LiesIn two heap_start (length two)) b (positions (live two)) (live-lie two allocator two_heap) b_two in let lo = l.low in let hi = l.high in omega arith

          dropped_changes : ChangesPlace old new table list (Seq (append p.left p.right)) others (after_gives (live old) (b ∷ c.gives)) (blocks ++ shares) (others ++ left)
          dropped_changes = record {
            length_kept = g.kept.front_kept.length_kept ∙ c.changes.length_kept ∙ r.changes.length_kept;
            front_kept = (front_kept two new g.kept long).0 ∙ c.changes.front_kept ∙ low_same allocator old one (list.at ∷ all) s.heap r.changes homes 0 free_word (omega arith);
            back_kept = (front_kept two new g.kept long).1 ∙ c.changes.back_kept ∙ low_same allocator old one (list.at ∷ all) s.heap r.changes homes back_start back_size (omega arith);
            heap = subst (λ a. IsHeap a new) (sym s.allocator_is) g.heap;
            ownable = new_ownable;
            holds_it = holds_list new table list U f (append p.left p.right) others list_new;
            live_is = new_live;
            live_are = λ h.
                let n = new_count h in
                let t = two_count h in
                let k = blocks_count h in
                let a = all_count h in
                let o = owned_count h in
                let e = goes h in
                let q = times-append h (map block_of rest) (p.front ++ p.back) in
                omega (arith, times-append h blocks shares, times-append h others left);
            kept = λ h some none. rw eight (kept_around h some none);
          }

          pub dropped : ClearsPlace old new table list (Seq (append p.left p.right)) blocks others theirs now final
          dropped = record {
            gives = b ∷ c.gives;
            all_are = λ h.
                let d = dropped_blocks h in
                let e = goes h in
                omega (arith, times-append h blocks shares, times-append h (b ∷ c.gives) (others ++ left), times-append h others left);
            changes = dropped_changes;
            shared_kept = frozen_twice old one new theirs final (frozen_kept allocator old one s.heap theirs final left_old left_one)
                (frozen_twice one two new theirs final c.shared_kept (frozen_kept allocator two new two_heap theirs final left_two left_new));
            holds = hold_kept two new table s.is_table theirs final left_new c.holds;
          }

          pub lefts_lead : (i q : ℕ) (path : List Selector) (inner : Place) → slice_get xs i ≡ Some q → Leads old table (value_in U q) path inner → Leads new table (value_in U q) path inner
          lefts_lead i q path inner e m = Leads-each old new table s.is_table (value_in U q) i p.lefts (value_at_index U xs i q e) xs_new front_new m

          pub rights_lead : (i q : ℕ) (path : List Selector) (inner : Place) → slice_get ys i ≡ Some q → Leads old table (value_in U q) path inner → Leads new table (value_in U q) path inner
          rights_lead i q path inner e m = Leads-each old new table s.is_table (value_in U q) i p.rights (value_at_index U ys i q e) ys_new back_new m

          -- the other items stay
          pub lefts_stay : PersistEach old new table (values_in U xs) (values_in U xs)
          lefts_stay = PersistEach-kept old new table s.is_table p.lefts xs_new front_new

          pub rights_stay : PersistEach old new table (values_in U ys) (values_in U ys)
          rights_stay = PersistEach-kept old new table s.is_table p.rights ys_new back_new
