-- The index: its blocks were claimed, or can't be claimed.
use Rattle.std.proofs.Common.{◌≡◌, ℕ, zero, suc, ◌+◌, ◌-◌, ◌*◌, ◌%◌, ◌<◌, ◌≤◌, ⊎_elim, Option, List, [], ◌∷◌, ◌++◌, length, map, Some, None, refl, sym, ap, ◌∙◌, subst, arith}
use Rattle.seg_spec.specs.Bytes.{word}
use Rattle.seg_spec.specs.Header.{index_kind_word, index_cell}
use Rattle.seg_spec.specs.Pointer.{target}
use Rattle.seg_spec.specs.Types.{Table}
use Rattle.seg_spec.specs.Heap.{tag_at}
use Rattle.seg_spec.proofs.Images.OwnedTagLaws.{index_other}
use Rattle.std.proofs.lemmas.Bool.{cases_eq}
use Rattle.seg_spec.specs.Block.{Kind, kind_number, IsBlock, block_of, tag_of}
use Rattle.seg_spec.specs.Reads.{named, start, count_at, spaced}
use Rattle.seg_spec.specs.Shapes.{Tree, leaf, fork, nodes_of, IsTree, tree_words}
use Rattle.seg_spec.specs.Index.{Root, Index, OpensFlat, OpensTreeIndex, OpensIndex, AreEntries, AreAscending, index_node_size}
use Rattle.seg_spec.specs.Sound.{times}
use Rattle.seg_spec.proofs.Heap.LiveBlockLaws.{times-append, times-same}
use Rattle.seg_spec.proofs.Values.OneValueLaws.{IsTree-one}
use Rattle.seg_check.specs.declared.fault.ContentFault.{ContentFault}
use Rattle.seg_check.specs.Claiming.{CanClaim, RefusesClaim}
use Rattle.seg_check.specs.Positions.{AreEntriesBefore, no_name, LacksBlockAt, lacks_block, of_cell, to_entries, to_index_node, LacksNameAt, as_index, LacksAt}
use Rattle.seg_check.proofs.Blocks.LackingBlockLaws.{null_points, refuses_as, must_lack}
use Rattle.seg_check.specs.Marks.{Known, ClaimsAll, Within}
use Rattle.seg_check.specs.Naming.{SameOthers, Finds}
use Rattle.seg_check.specs.Turns.{Limited, awaited}
use Rattle.seg_check.specs.Resolving.{IsReady}
use Rattle.seg_check.specs.Roots.{Ahead, names_ahead, ResolvesRoots, ResolvesIndex, CanResolveRoots, CanResolveIndex, AdvancesRoots, AdvancesIndex}
use Rattle.seg_check.proofs.Blocks.FrozenClaimLaws.{other_block, none_frozen, finds_claimed, finds_more}
use Rattle.seg_check.proofs.Queue.QueueStepLaws.{within_taken, within_trans, ready_found}
use Rattle.seg_check.proofs.Blocks.CellClaimLaws.{named_some, named_none, start_some, names_room, no_room, none_counted, can_claim}
use Rattle.seg_check.proofs.Objects.RootReadLaws.{roots_none}
use Rattle.seg_check.specs.Claiming.{ClaimsBlock, turns_where, has_turns}
use Rattle.seg_cells.specs.Contents.{IsIndexBuffer}
use Rattle.seg_cells.specs.declared.content.Content.{Content}
use Rattle.seg_block.specs.Tags.{word_of}
use Rattle.std.proofs.lemmas.List.{append-nil}

rest_same : (h : ℕ) (u v blocks rest : List ℕ) → times h u ≡ times h (blocks ++ v) → times h u ≡ times h (blocks ++ rest) → times h rest ≡ times h v
rest_same h u v blocks rest e f = omega (arith, times-append h blocks v, times-append h blocks rest)

module _ (bytes : List ℕ) (table : Table) where
  roots_moved : (below : Option ℕ) (u v l : List ℕ) (ahead : Ahead) (places : List Limited) (found : List ℕ) → SameOthers bytes u v → ResolvesRoots bytes table below u l ahead places found
      → ResolvesRoots bytes table below v l ahead places found
  roots_moved below u v l ahead places found same r = record {
    names = r.names;
    uniques = r.uniques;
    root_blocks = r.root_blocks;
    rest = r.rest;
    are_entries = r.are_entries;
    ascending = r.ascending;
    words = r.words;
    rising = r.rising;
    plain = r.plain;
    roots = r.roots;
    named = r.named;
    others = r.others;
    resolves = r.resolves;
    owners = λ h other. sym (same h other) ∙ r.owners h other;
    found_are = r.found_are;
  }

  -- if no entries remain, the last name doesn't matter
  other_last : (below : Option ℕ) (u l x y : List ℕ) (places : List Limited) (found : List ℕ) → ResolvesRoots bytes table below u l (names_ahead [] x) places found → ResolvesRoots bytes table below u l (names_ahead [] y) places found
  other_last below u l x y places found r = record {
    names = r.names;
    uniques = r.uniques;
    root_blocks = r.root_blocks;
    rest = r.rest;
    are_entries = r.are_entries;
    ascending = one r.names r.are_entries;
    words = r.words;
    rising = r.rising;
    plain = r.plain;
    roots = r.roots;
    named = r.named;
    others = r.others;
    resolves = r.resolves;
    owners = r.owners;
    found_are = r.found_are;
  }
    where
      one : (names : List Root) → AreEntries bytes [] names → AreAscending (y ∷ map (λ (x : Root). x.name) names)
      one [] e = tt
      one (n ∷ names) e = absurd e

  module _ (old mid : Known) (index : Index) (opens : OpensIndex bytes (word bytes index_kind_word) index)
      (one : (other : Index) → OpensIndex bytes (word bytes index_kind_word) other → other ≡ index) (claims : ClaimsAll old mid index.blocks [])
    where
      names_left : (below : Option ℕ) (left : List ℕ) (places : List Limited) (found : List ℕ) → ResolvesIndex bytes table below old.unclaimed left places found
          → ResolvesRoots bytes table below mid.unclaimed left (names_ahead index.entries []) places found
      names_left below left places found r =
          let same = one r.index r.opens in
          roots_moved below r.rest mid.unclaimed left (names_ahead index.entries []) places found
          (λ h other. rest_same h old.unclaimed mid.unclaimed index.blocks r.rest (claims.claimed h) (r.owners h other ∙ ap (λ (x : Index). times h (x.blocks ++ r.rest)) same))
          (subst (λ (x : Index). ResolvesRoots bytes table below r.rest left (names_ahead x.entries []) places found) same r.roots)

      -- the blocks of an index aren't frozen objects
      index_finds : Finds bytes old mid []
      index_finds = finds_claimed bytes old mid index.blocks [] claims (index_other bytes (word bytes index_kind_word) index opens) tt

      pub index_names : CanResolveIndex bytes table old → CanResolveRoots bytes table mid (names_ahead index.entries [])
      index_names can = record {
        left = can.left;
        places = can.places;
        found = can.found;
        resolves = subst (λ k. ResolvesRoots bytes table k mid.unclaimed can.left (names_ahead index.entries []) can.places can.found) (sym index_finds.below_kept)
            (names_left old.naming.below can.left can.places can.found can.resolves);
      }

      pub index_advance : (new : Known) (last : List ℕ) → AdvancesRoots bytes table mid new (names_ahead index.entries []) (names_ahead [] last) → AdvancesIndex bytes table old new
      index_advance new last a =
          let below = old.naming.below in
          let kept = index_finds.below_kept in
          record {
            turns = a.turns;
            turns_are = a.turns_are ∙ ap (λ ts. ts ++ a.turns) (claims.turns_are ∙ append-nil old.turns);
            are_waiting = a.are_waiting;
            within = within_trans new.unclaimed mid.unclaimed old.unclaimed a.within (within_taken old.unclaimed mid.unclaimed index.blocks claims.claimed);
            counted = λ k. a.counted (claims.counted k);
            finds = finds_more bytes old mid new [] [] index_finds a.finds;
            forth = λ left places found r.
                let one = subst (λ k. ResolvesRoots bytes table k mid.unclaimed left (names_ahead index.entries []) places found) (sym kept) (names_left below left places found r) in
                other_last below new.unclaimed left last [] (awaited bytes table a.turns ++ places) found
                (subst (λ k. ResolvesRoots bytes table k new.unclaimed left (names_ahead [] last) (awaited bytes table a.turns ++ places) found) kept (a.forth left places found one));
            back = λ left places found r. record {
              index = index;
              opens = opens;
              rest = mid.unclaimed;
              roots = subst (λ k. ResolvesRoots bytes table k mid.unclaimed left (names_ahead index.entries []) places found) kept (a.back left places found
                  (subst (λ k. ResolvesRoots bytes table k new.unclaimed left (names_ahead [] last) (awaited bytes table a.turns ++ places) found) (sym kept)
                  (other_last below new.unclaimed left [] last (awaited bytes table a.turns ++ places) found r)));
              owners = λ h other. claims.claimed h;
            };
          }

  -- ---- the kind of index

  module _ (none : target bytes index_cell ≡ None) where
    empty_flat : count_at bytes index_cell ≡ 0 → OpensFlat bytes (record { blocks = []; entries = [] })
    empty_flat n = record {
      named_room = no_room bytes index_cell (tag_of Kind.index_buffer 0) 8 none n;
      none_if_empty = λ e. none;
      index_is = λ i. record { blocks = sym (named_none bytes index_cell none) i; entries = sym (ap (spaced (start bytes index_cell) 8) n) i };
    }

    empty_tree : count_at bytes index_cell ≡ 0 → OpensTreeIndex bytes (record { blocks = []; entries = [] })
    empty_tree n = record {
      tree = leaf;
      is_tree = subst (λ o. IsTree bytes o leaf) (sym none) tt;
      red_black = record { root = tt; height = 0; balanced = refl };
      counted = sym n;
      are_nodes = tt;
      index_is = refl;
    }

    no_tree : (tree : Tree) → IsTree bytes (target bytes index_cell) tree → tree ≡ leaf
    no_tree tree t = IsTree-one bytes None tree leaf (subst (λ o. IsTree bytes o tree) none t) tt

    one_empty : (k : ℕ) → k ≤ 1 → count_at bytes index_cell ≡ 0 → (other : Index) → OpensIndex bytes k other → other ≡ record { blocks = []; entries = [] }
    one_empty zero l n other o = o.index_is ∙ sym (empty_flat n).index_is
    one_empty (suc k) l n other o = o.index_is ∙ ap (λ t. record { blocks = map block_of (nodes_of t); entries = map (λ p. p + tree_words) (nodes_of t) }) (no_tree o.tree o.is_tree)

    opens_empty : (k : ℕ) → k ≤ 1 → count_at bytes index_cell ≡ 0 → OpensIndex bytes k (record { blocks = []; entries = [] })
    opens_empty zero l n = empty_flat n
    opens_empty (suc k) l n = empty_tree n

    pub index_empty : (old : Known) → word bytes index_kind_word ≤ 1 → count_at bytes index_cell ≡ 0 → AdvancesIndex bytes table old old
    index_empty old l n =
        index_advance old old (record { blocks = []; entries = [] }) (opens_empty (word bytes index_kind_word) l n) (one_empty (word bytes index_kind_word) l n)
        (record { claimed = λ h. refl; allocated_kept = λ h. refl; counted = λ c. c; turns_are = sym (append-nil old.turns); naming_kept = refl }) old [] (roots_none bytes table old (names_ahead [] []))

  pub index_within : (known : Known) (can : CanResolveIndex bytes table known) → Within can.resolves.index.blocks known.unclaimed
  index_within known can h = ⊎_elim
      (λ frozen. omega (arith, none_frozen bytes h can.resolves.index.blocks frozen (index_other bytes (word bytes index_kind_word) can.resolves.index can.resolves.opens)))
      (λ other. omega (arith, can.resolves.owners h other, times-append h can.resolves.index.blocks can.resolves.rest))
      (cases_eq (tag_at bytes h % 256) (kind_number Kind.frozen))

  -- an index with a null pointer has no names
  pub index_counted : target bytes index_cell ≡ None → (known : Known) → 1 ≤ count_at bytes index_cell → CanResolveIndex bytes table known → ⊥
  index_counted null known some can = go (word bytes index_kind_word) can.resolves.index can.resolves.opens
    where
      no_nodes : (tree : Tree) → IsTree bytes None tree → length (nodes_of tree) ≡ count_at bytes index_cell → ⊥
      no_nodes leaf is counted = omega (arith, some, counted)
      no_nodes (fork left x colour right) is counted = is

      go : (k : ℕ) (index : Index) → OpensIndex bytes k index → ⊥
      go zero index o = omega (arith, some, none_counted bytes index_cell (tag_of Kind.index_buffer 0) 8 null o.named_room)
      go (suc k) index o = no_nodes o.tree (subst (λ t. IsTree bytes t o.tree) null o.is_tree) o.counted

  -- the pointer is null although there are names
  pub index_null : word bytes index_kind_word ≤ 1 → target bytes index_cell ≡ None → LacksBlockAt bytes table index_cell
  index_null small null = go (word bytes index_kind_word) refl small
    where
      go : (k : ℕ) → word bytes index_kind_word ≡ k → k ≤ 1 → LacksBlockAt bytes table index_cell
      go zero e l = lacks_block _ _ (to_entries refl e) (null_points bytes index_cell (tag_of Kind.index_buffer 0) (count_at bytes index_cell * 8) null)
      go (suc zero) e l = lacks_block _ _ (to_index_node e (of_cell refl)) (null_points bytes index_cell (tag_of Kind.index_node 0) index_node_size null)
      go (suc (suc k)) e l = absurd (omega arith)

  -- ---- a flat index

  module _ (flat : word bytes index_kind_word ≡ 0) (p n : ℕ) (named_it : target bytes index_cell ≡ Some p) (counted : n ≡ count_at bytes index_cell) where
    flat_index : Index
    flat_index = record { blocks = block_of p ∷ []; entries = spaced p 8 n }

    flat_is : flat_index ≡ record { blocks = named bytes index_cell; entries = spaced (start bytes index_cell) 8 (count_at bytes index_cell) }
    unfolding flat_index
    flat_is = λ i. record { blocks = sym (named_some bytes index_cell p named_it) i; entries = spaced (sym (start_some bytes index_cell p named_it) i) 8 (counted i) }

    flat_of : (other : Index) → OpensIndex bytes (word bytes index_kind_word) other → OpensFlat bytes other
    flat_of other o = subst (λ k. OpensIndex bytes k other) flat o

    flat_one : (other : Index) → OpensIndex bytes (word bytes index_kind_word) other → other ≡ flat_index
    flat_one other o = (flat_of other o).index_is ∙ sym flat_is

    flat_opens : 1 ≤ n → IsBlock bytes p (tag_of Kind.index_buffer 0) (n * 8) → OpensIndex bytes (word bytes index_kind_word) flat_index
    flat_opens some block = subst (λ k. OpensIndex bytes k flat_index) (sym flat) (record {
      named_room = names_room bytes index_cell (tag_of Kind.index_buffer 0) 8 p named_it (subst (λ m. IsBlock bytes p (tag_of Kind.index_buffer 0) (m * 8)) counted block);
      none_if_empty = λ e. absurd (omega arith);
      index_is = flat_is;
    })

    -- a flat index with a buffer has entries
    pub flat_some : (known : Known) → CanResolveIndex bytes table known → n ≡ 0 → ⊥
    flat_some known can e =
        let none = (flat_of can.resolves.index can.resolves.opens).none_if_empty (sym counted ∙ e) in
        let both : Some p ≡ None = sym named_it ∙ none in
        cc

    pub flat_none : n ≡ 0 → LacksNameAt bytes table index_cell
    flat_none e = as_index refl (λ index opens within.
        let none = (flat_of index opens).none_if_empty (sym counted ∙ e) in
        let both : Some p ≡ None = sym named_it ∙ none in
        cc)

    pub flat_can : (old : Known) → CanResolveIndex bytes table old → CanClaim bytes old index_cell (tag_of Kind.index_buffer 0) (n * 8)
    flat_can old can =
        let o = flat_of can.resolves.index can.resolves.opens in
        subst (λ m. CanClaim bytes old index_cell (tag_of Kind.index_buffer 0) (m * 8)) (sym counted)
        (can_claim bytes old index_cell (tag_of Kind.index_buffer 0) 8 p named_it o.named_room (subst (λ (x : Index). Within x.blocks old.unclaimed) o.index_is (index_within old can)))

    module _ (old mid : Known) (some : 1 ≤ n) (block : IsBlock bytes p (tag_of Kind.index_buffer 0) (n * 8)) (claims : ClaimsAll old mid (block_of p ∷ []) []) where
      pub flat_names : CanResolveIndex bytes table old → CanResolveRoots bytes table mid (names_ahead (spaced p 8 n) [])
      unfolding flat_index
      flat_names = index_names old mid flat_index (flat_opens some block) flat_one claims

      -- the entries before the next one, and the index that they are of
      pub flat_entry : {X : Type 0} (entries before : List ℕ) → (AreEntriesBefore bytes table (spaced p 8 n) (spaced p 8 n) [] → AreEntriesBefore bytes table (spaced p 8 n) entries before)
          → ((index : Index) → OpensIndex bytes (word bytes index_kind_word) index → AreEntriesBefore bytes table index.entries entries before → X) → X
      unfolding flat_index
      flat_entry entries before named give = give flat_index (flat_opens some block) (named (record { before = []; entries_are = refl; last = no_name }))

      pub flat_advance : (new : Known) (last : List ℕ) → AdvancesRoots bytes table mid new (names_ahead (spaced p 8 n) []) (names_ahead [] last) → AdvancesIndex bytes table old new
      unfolding flat_index
      flat_advance = index_advance old mid flat_index (flat_opens some block) flat_one claims

  -- the block of the index's buffer isn't a frozen object
  pub flat_ready : (old mid : Known) (p : ℕ) {n : ℕ} → IsReady bytes table old → ClaimsAll old mid (block_of p ∷ []) [] → IsBlock bytes p (tag_of Kind.index_buffer 0) n → IsReady bytes table mid
  flat_ready old mid p {n = n} ready claims block = ready_found bytes table old mid [] ready (within_taken old.unclaimed mid.unclaimed (block_of p ∷ []) claims.claimed)
      (finds_claimed bytes old mid (block_of p ∷ []) [] claims (other_block bytes p (tag_of Kind.index_buffer 0) n (λ e. absurd (omega (arith, e))) block, tt) tt)

  -- ---- the entries, one after the other

  pub spaced_next : (s i n : ℕ) → i < n → spaced (s + i * 8) 8 (n - i) ≡ (s + i * 8) ∷ spaced (s + (i + 1) * 8) 8 (n - (i + 1))
  spaced_next s i n l =
      let less : n - i ≡ suc (n - (i + 1)) = omega arith in
      let further : s + i * 8 + 8 ≡ s + (i + 1) * 8 = omega arith in
      ap (spaced (s + i * 8) 8) less ∙ ap (λ a. (s + i * 8) ∷ spaced a 8 (n - (i + 1))) further

  pub spaced_end : (s i n : ℕ) → n ≤ i → spaced (s + i * 8) 8 (n - i) ≡ []
  spaced_end s i n l = let none : n - i ≡ 0 = omega arith in ap (spaced (s + i * 8) 8) none

  pub spaced_start : (s n : ℕ) → spaced s 8 n ≡ spaced (s + 0 * 8) 8 (n - 0)
  spaced_start s n =
      let same : s ≡ s + 0 * 8 = omega arith in
      let all : n ≡ n - 0 = omega arith in
      (λ i. spaced (same i) 8 (all i))

  -- ---- the buffer of a flat index

  module _ (old mid : Known) (n s : ℕ) (content : Content) (is : IsIndexBuffer content) where
    pub buffer_claimed : ClaimsBlock bytes old mid index_cell (word_of content.tag) (n * content.entry.size) (turns_where (has_turns table content.entry.held) s n) s
        → ClaimsBlock bytes old mid index_cell (tag_of Kind.index_buffer 0) (n * 8) [] s
    buffer_claimed c =
        subst (λ ts. ClaimsBlock bytes old mid index_cell (tag_of Kind.index_buffer 0) (n * 8) ts s) (ap (λ h. turns_where (has_turns table h) s n) is.held_is)
        (subst (λ k. ClaimsBlock bytes old mid index_cell (tag_of Kind.index_buffer 0) (n * k) (turns_where (has_turns table content.entry.held) s n) s) is.size_is
        (subst (λ t. ClaimsBlock bytes old mid index_cell t (n * content.entry.size) (turns_where (has_turns table content.entry.held) s n) s) is.tag_is c))

    pub buffer_lacks : word bytes index_kind_word ≡ 0 → n ≡ count_at bytes index_cell → IsReady bytes table old → (e : ContentFault)
        → RefusesClaim bytes old index_cell (word_of content.tag) (n * content.entry.size) e → LacksAt bytes table e
    buffer_lacks flat counted ready e r =
        must_lack bytes table old ready index_cell (tag_of Kind.index_buffer 0) (count_at bytes index_cell * 8) e (to_entries refl flat)
        (refuses_as bytes bytes old index_cell (word_of content.tag) (tag_of Kind.index_buffer 0) (n * content.entry.size) (count_at bytes index_cell * 8) e refl is.tag_is (λ i. counted i * is.size_is i) r)

    pub buffer_can : CanClaim bytes old index_cell (tag_of Kind.index_buffer 0) (n * 8) → CanClaim bytes old index_cell (word_of content.tag) (n * content.entry.size)
    buffer_can c =
        subst (λ k. CanClaim bytes old index_cell (word_of content.tag) (n * k)) (sym is.size_is)
        (subst (λ t. CanClaim bytes old index_cell t (n * 8)) (sym is.tag_is) c)

  -- a claimed block lies in the segment
  pub block_inside : (old mid : Known) (at tag size p : ℕ) → IsReady bytes table old → ClaimsBlock bytes old mid at tag size [] p → p + size ≤ length bytes
  block_inside old mid at tag size p ready c =
      let some : 1 ≤ times (block_of p) old.unclaimed = omega (arith, c.claims.claimed (block_of p), times-same (block_of p) mid.unclaimed) in
      let block = ready.blocks (block_of p) some in
      let two = block.0.size in
      let inside = block.0.inside in
      let high = c.is_block.after_header in
      let room = c.is_block.room in
      omega arith
