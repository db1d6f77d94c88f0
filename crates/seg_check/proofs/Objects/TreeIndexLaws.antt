-- The walks through a tree index: its nodes are claimed, and then its entries are read.
use Rattle.std.proofs.Common.{◌≡◌, ℕ, ◌+◌, ◌*◌, ◌<◌, ◌≤◌, List, [], ◌∷◌, ◌++◌, length, map, Some, None, refl, sym, ap, ◌∙◌, subst, arith}
use Rattle.std.proofs.lemmas.List.{append_assoc, append-nil, map-append, length-map}
use Rattle.seg_spec.specs.Bytes.{word}
use Rattle.seg_spec.specs.Header.{index_kind_word, index_cell, allocator_word}
use Rattle.seg_spec.specs.Heap.{Span, live}
use Rattle.seg_spec.proofs.Heap.BlockCountLaws.{few_live}
use Rattle.std.specs.List.{AllByRecursion}
use Rattle.seg_spec.specs.Pointer.{target}
use Rattle.seg_spec.specs.Types.{Table}
use Rattle.seg_spec.specs.Block.{Kind, IsBlock, block_of, tag_of}
use Rattle.seg_spec.specs.Reads.{count_at, AreNodes}
use Rattle.seg_spec.specs.Shapes.{nodes_of, tree_words}
use Rattle.seg_spec.specs.Index.{Index, OpensTreeIndex, OpensIndex}
use Rattle.seg_spec.specs.Sound.{times, positions}
use Rattle.seg_spec.proofs.Heap.LiveBlockLaws.{times-append, times-same}
use Rattle.seg_spec.proofs.Values.OneValueLaws.{IsTree-one}
use Rattle.seg_check.specs.Claiming.{HaveLiveHeaders, CanClaim, RefusesClaim, ClaimsBlock, turns_where, has_turns}
use Rattle.seg_check.specs.declared.fault.ContentFault.{ContentFault}
use Rattle.seg_check.specs.Naming.{IsFrozen}
use Rattle.seg_check.specs.Positions.{IsLinkAt, LacksNameAt, as_index, to_index_node, LacksAt}
use Rattle.seg_check.proofs.Blocks.LackingBlockLaws.{refuses_as, must_lack}
use Rattle.seg_block.specs.Tags.{word_of}
use Rattle.seg_cells.specs.declared.content.Content.{Content}
use Rattle.seg_cells.specs.declared.entry.Held.TheVariants as held
use Rattle.seg_check.specs.Marks.{Known, ClaimsAll, Within}
use Rattle.seg_check.specs.Resolving.{IsReady}
use Rattle.seg_check.specs.Walks.{Completes, Hangs, IsSteady, Proceeds, MovesOn, entering_of}
use Rattle.seg_check.proofs.PlacedWalkLaws.{Placed, placed_start, placed_enter, placed_pass}
use Rattle.seg_check.specs.declared.walk.Stage.{Stage}
use Rattle.seg_check.specs.declared.walk.Visit.TheVariants.{Enter, Pass}
use Rattle.seg_check.specs.Roots.{names_ahead, CanResolveRoots, CanResolveIndex, AdvancesRoots, AdvancesIndex, ClaimsTree, CanClaimTree}
use Rattle.seg_check.proofs.SameLengthLaws.{Splits, splits, within_length}
use Rattle.seg_spec.proofs.Images.OwnedTagLaws.{index_other}
use Rattle.seg_check.proofs.Blocks.FrozenClaimLaws.{other_block, finds_claimed}
use Rattle.seg_check.proofs.Queue.QueueStepLaws.{within_taken, ready_found}
use Rattle.seg_check.proofs.Contents.NodeLaws.{claims_both, nodes_both}
use Rattle.seg_check.proofs.WalkStateLaws.{Followed, follow_enter, follow_pass, follow_end, follow_refused, hangs_once}
use Rattle.seg_check.proofs.Contents.MapLaws.{mapped_same, same_each, one_of}
use Rattle.seg_check.proofs.Objects.RootReadLaws.{roots_none, roots_more}
use Rattle.seg_check.proofs.Objects.IndexLaws.{index_names, index_advance, index_within}

node_left : (h : ℕ) (u v entered more all : List ℕ) (node : ℕ) → times h u ≡ times h (map block_of entered ++ v) → times h (map block_of all) ≤ times h u → all ≡ entered ++ node ∷ more → times h (block_of node ∷ []) ≤ times h v
node_left h u v entered more all node e w is =
    let i = times-append h (map block_of entered) v in
    let j : times h (map block_of all) ≡ times h (map block_of entered) + times h (block_of node ∷ map block_of more) =
    ap (λ xs. times h (map block_of xs)) is ∙ ap (times h) (map-append block_of entered (node ∷ more)) ∙ times-append h (map block_of entered) (block_of node ∷ map block_of more) in
    let k = times-append h (block_of node ∷ []) (map block_of more) in
    omega arith

same_end : (xs ys zs : List ℕ) → xs ++ ys ≡ xs ++ zs → ys ≡ zs
same_end [] ys zs e = e
same_end (x ∷ xs) ys zs e = let rest : xs ++ ys ≡ xs ++ zs = cc in same_end xs ys zs rest

module _ (bytes : List ℕ) (table : Table) (old : Known) (ready : IsReady bytes table old) where
  -- ---- its nodes

  -- the entered nodes were claimed
  pub record Traced (now : Known) (stage : Stage) (turns : ℕ) : Type 0 where
    pub passed : List ℕ
    pub entered : List ℕ
    pub followed : Followed bytes index_cell (count_at bytes index_cell) stage turns passed entered
    pub are_nodes : AreNodes bytes (tag_of Kind.index_node 0) 24 entered
    pub claims : ClaimsAll old now (map block_of entered) []
    pub placed : Placed bytes table old ready (tag_of Kind.index_node 0) 24 index_cell stage

  pub traced_start : (stage : Stage) (turns : ℕ) → Followed bytes index_cell (count_at bytes index_cell) stage turns [] [] → stage.pointer ≡ index_cell → stage.entered.items ≡ [] → Traced old stage turns
  traced_start stage turns f pointer_is none = record {
    placed = placed_start bytes table old ready (tag_of Kind.index_node 0) 24 index_cell stage pointer_is none;
    passed = [];
    entered = [];
    followed = f;
    are_nodes = tt;
    claims = record { claimed = λ h. refl; allocated_kept = λ h. refl; counted = λ c. c; turns_are = sym (append-nil old.turns); naming_kept = refl };
  }

  -- the facts about a tree index that a walk uses
  record Planted (can : CanClaimTree bytes old.unclaimed) : Type 0 where
    pub all : List ℕ
    pub hangs : Hangs bytes index_cell (count_at bytes index_cell) can.opens.red_black.height (nodes_of can.opens.tree) all
    pub within : Within (map block_of (nodes_of can.opens.tree)) old.unclaimed
    pub few : 16 + 32 * length (nodes_of can.opens.tree) ≤ length bytes

  planted : (can : CanClaimTree bytes old.unclaimed) → Planted can
  planted can =
      let o = can.opens in
      let within : Within (map block_of (nodes_of o.tree)) old.unclaimed = subst (λ (x : Index). Within x.blocks old.unclaimed) o.index_is can.within in
      let less = within_length (map block_of (nodes_of o.tree)) old.unclaimed within in
      let same = length-map (nodes_of o.tree) block_of in
      let few = ready.few in
      record {
        all = entering_of o.tree;
        hangs = record {
          tree = o.tree;
          is_tree = o.is_tree;
          black = o.red_black.root;
          balanced = o.red_black.balanced;
          nodes_are = refl;
          entering_are = refl;
          counted = o.counted;
        };
        within = within;
        few = omega arith;
      }

  module _ (mid : Known) (stage : Stage) (turns : ℕ) (t : Traced mid stage turns) where
    traced_within : Within mid.unclaimed old.unclaimed
    traced_within = within_taken old.unclaimed mid.unclaimed (map block_of t.entered) t.claims.claimed

    pub traced_live : HaveLiveHeaders bytes mid.unclaimed
    traced_live h some = (ready.blocks h (omega (arith, traced_within h))).0

    module _ (next : Stage) (less : ℕ) (steady : IsSteady bytes next less) (spent : less + 1 ≡ turns) where
      pub traced_enter : (new : Known) (pointer p : ℕ) → Proceeds bytes stage next (Some (Enter pointer)) → MovesOn bytes stage next (Enter pointer)
          → ClaimsBlock bytes mid new pointer (tag_of Kind.index_node 0) 24 [] p → Traced new next less
      traced_enter new pointer p step moves c =
          let both : Some p ≡ Some step.0 = sym c.names ∙ step.1 in
          let same : p ≡ step.0 = cc in
          record {
            placed = placed_enter bytes table old ready (tag_of Kind.index_node 0) 24 index_cell stage next pointer p t.placed moves c.names (record {
              is_block = c.is_block;
              among = omega (arith, c.claims.claimed (block_of p), times-same (block_of p) new.unclaimed, traced_within (block_of p), ready.standing (block_of p));
            });
            passed = t.passed;
            entered = t.entered ++ step.0 ∷ [];
            followed = follow_enter bytes index_cell (count_at bytes index_cell) stage turns t.passed t.entered t.followed next less steady spent pointer step;
            are_nodes = nodes_both bytes (tag_of Kind.index_node 0) 24 t.entered (step.0 ∷ []) t.are_nodes (subst (λ q. IsBlock bytes q (tag_of Kind.index_node 0) 24) same c.is_block, tt);
            claims = subst (λ bs. ClaimsAll old new bs []) (sym (map-append block_of t.entered (step.0 ∷ [])))
                (claims_both old mid new (map block_of t.entered) (block_of step.0 ∷ []) [] [] t.claims (subst (λ q. ClaimsAll mid new (block_of q ∷ []) []) same c.claims));
          }

      pub traced_pass : (node : ℕ) → Proceeds bytes stage next (Some (Pass node)) → MovesOn bytes stage next (Pass node) → Traced mid next less
      traced_pass node step moves = record {
        placed = placed_pass bytes table old ready (tag_of Kind.index_node 0) 24 index_cell stage next node t.placed moves;
        passed = t.passed ++ node ∷ [];
        entered = t.entered;
        followed = follow_pass bytes index_cell (count_at bytes index_cell) stage turns t.passed t.entered t.followed next less steady spent node step;
        are_nodes = t.are_nodes;
        claims = t.claims;
      }

    pub traced_end : (next : Stage) → Proceeds bytes stage next None → ClaimsTree bytes old mid
    traced_end next step =
        let w = follow_end bytes index_cell (count_at bytes index_cell) stage turns t.passed t.entered t.followed next step in
        let same = hangs_once bytes index_cell (count_at bytes index_cell) stage.above.blacks t.passed t.entered w in
        let blocks = mapped_same block_of t.entered t.passed same in
        record {
          index = record { blocks = map block_of (nodes_of w.tree); entries = map (λ p. p + tree_words) (nodes_of w.tree) };
          opens = record {
            tree = w.tree;
            is_tree = w.is_tree;
            red_black = record { root = w.black; height = stage.above.blacks; balanced = w.balanced };
            counted = ap length w.nodes_are ∙ w.counted;
            are_nodes = subst (AreNodes bytes (tag_of Kind.index_node 0) 24) (sym w.nodes_are) (same_each (λ p. IsBlock bytes p (tag_of Kind.index_node 0) 24) t.entered t.passed same t.are_nodes);
            index_is = refl;
          };
          claims = record {
            claimed = λ h. t.claims.claimed h ∙ times-append h (map block_of t.entered) mid.unclaimed ∙ ap (λ n. n + times h mid.unclaimed) (blocks h ∙ ap (λ xs. times h (map block_of xs)) (sym w.nodes_are)) ∙
                sym (times-append h (map block_of (nodes_of w.tree)) mid.unclaimed);
            allocated_kept = t.claims.allocated_kept;
            counted = t.claims.counted;
            turns_are = t.claims.turns_are;
            naming_kept = t.claims.naming_kept;
          };
        }

    pub traced_refused : ((height : ℕ) (rest entering : List ℕ) → Completes bytes height stage rest entering → height < 30 → length rest + length entering < turns → ⊥) → CanClaimTree bytes old.unclaimed → ⊥
    traced_refused never can =
        let p = planted can in
        follow_refused bytes index_cell (count_at bytes index_cell) stage turns t.passed t.entered t.followed never can.opens.red_black.height (nodes_of can.opens.tree) p.all p.hangs p.few

    -- if the walk can't continue, there is no such index
    pub traced_lacks : word bytes index_kind_word ≡ 1 → ((height : ℕ) (rest entering : List ℕ) → Completes bytes height stage rest entering → height < 30 → length rest + length entering < turns → ⊥) → LacksNameAt bytes table index_cell
    traced_lacks kind never = as_index refl (λ index opens within. never_opens index (subst (λ k. OpensIndex bytes k index) kind opens) within)
      where
        never_opens : (index : Index) → OpensTreeIndex bytes index → Within index.blocks (positions (live bytes)) → ⊥
        never_opens index o within =
            let inside : Within (map block_of (nodes_of o.tree)) (positions (live bytes)) = subst (λ (x : Index). Within x.blocks (positions (live bytes))) o.index_is within in
            let less = within_length (map block_of (nodes_of o.tree)) (positions (live bytes)) inside in
            let same = length-map (nodes_of o.tree) block_of in
            let blocks = length-map (live bytes) (λ (b : Span). b.at) in
            let few = few_live (word bytes allocator_word) bytes ready.heap in
            follow_refused bytes index_cell (count_at bytes index_cell) stage turns t.passed t.entered t.followed never o.red_black.height (nodes_of o.tree) (entering_of o.tree)
            (record {
              tree = o.tree;
              is_tree = o.is_tree;
              black = o.red_black.root;
              balanced = o.red_black.balanced;
              nodes_are = refl;
              entering_are = refl;
              counted = o.counted;
            }) (omega arith)

    blocks_others : (nodes : List ℕ) → AreNodes bytes (tag_of Kind.index_node 0) 24 nodes → AllByRecursion (λ b. IsFrozen bytes b → ⊥) (map block_of nodes)
    blocks_others [] a = tt
    blocks_others (p ∷ ps) a = (other_block bytes p (tag_of Kind.index_node 0) 24 (λ e. absurd (omega (arith, e))) a.0, blocks_others ps a.1)

    pub traced_ready : IsReady bytes table mid
    traced_ready = ready_found bytes table old mid [] ready traced_within (finds_claimed bytes old mid (map block_of t.entered) [] t.claims (blocks_others t.entered t.are_nodes) tt)

    pub traced_can : (next : Stage) (pointer : ℕ) → Proceeds bytes stage next (Some (Enter pointer)) → CanClaimTree bytes old.unclaimed → CanClaim bytes mid pointer (tag_of Kind.index_node 0) 24
    traced_can next pointer step can =
        let p = planted can in
        let nodes = nodes_of can.opens.tree in
        let height = can.opens.red_black.height in
        let r = t.followed.forth height nodes p.all p.hangs in
        let more = (step.2 height r.rest r.entering).1 r.completes in
        let all_is : p.all ≡ t.entered ++ step.0 ∷ more.0 = r.all_are ∙ ap (λ xs. t.entered ++ xs) more.1 in
        let once = hangs_once bytes index_cell (count_at bytes index_cell) height nodes p.all p.hangs in
        let blocks = mapped_same block_of p.all nodes once in
        let h = block_of step.0 in
        let left = node_left h old.unclaimed mid.unclaimed t.entered more.0 p.all step.0 (t.claims.claimed h) (omega (arith, blocks h, p.within h)) all_is in
        let there : 1 ≤ times step.0 p.all = omega (arith, ap (times step.0) all_is, times-append step.0 t.entered (step.0 ∷ more.0), times-same step.0 more.0) in
        record {
          start = step.0;
          names = step.1;
          is_block = one_of (λ q. IsBlock bytes q (tag_of Kind.index_node 0) 24) nodes step.0 can.opens.are_nodes (omega (arith, once step.0));
          unclaimed = omega (arith, left, times-same h []);
        }

  -- ---- its entries

  module _ (start : Known) (c : ClaimsTree bytes old start) where
    abbrev nodes : List ℕ
    nodes = nodes_of c.opens.tree

    abbrev tree_can : CanClaimTree bytes old.unclaimed
    tree_can = record { index = c.index; opens = c.opens; within = λ h. omega (arith, c.claims.claimed h, times-append h c.index.blocks start.unclaimed) }

    -- the entries of the nodes that were passed were read
    pub record Named (now : Known) (last : List ℕ) (stage : Stage) (turns : ℕ) : Type 0 where
      pub passed : List ℕ
      pub entered : List ℕ
      pub followed : Followed bytes index_cell (count_at bytes index_cell) stage turns passed entered
      pub rest : List ℕ
      pub nodes_are : nodes_of c.opens.tree ≡ passed ++ rest
      pub advances : AdvancesRoots bytes table start now (names_ahead c.index.entries []) (names_ahead (map (λ p. p + tree_words) rest) last)

    -- an entry of a node lies in the segment
    node_inside : (node : ℕ) → 1 ≤ times node nodes → node + 24 ≤ length bytes
    node_inside node some =
        let p = planted tree_can in
        let is = one_of (λ q. IsBlock bytes q (tag_of Kind.index_node 0) 24) nodes node c.opens.are_nodes some in
        let there : 1 ≤ times (block_of node) (map block_of nodes) = mapped_some nodes some in
        let block = ready.blocks (block_of node) (omega (arith, p.within (block_of node))) in
        let two = block.0.size in
        let inside = block.0.inside in
        let high = is.after_header in
        let room = is.room in
        omega arith
      where
        mapped_some : (xs : List ℕ) → 1 ≤ times node xs → 1 ≤ times (block_of node) (map block_of xs)
        mapped_some xs some = in_map (splits node xs some)
          where
            in_map : Splits node xs → 1 ≤ times (block_of node) (map block_of xs)
            in_map s = omega (
              arith,
              ap (λ ys. times (block_of node) (map block_of ys)) s.parts,
              ap (times (block_of node)) (map-append block_of s.before (node ∷ s.after)),
              times-append (block_of node) (map block_of s.before)
                  (block_of node ∷ map block_of s.after),
              times-same (block_of node) (map block_of s.after),
            )

    module _ (now : Known) (last : List ℕ) (stage : Stage) (turns : ℕ) (t : Named now last stage turns) where
      -- the nodes that the walk hasn't passed are the rest of the tree
      remains : (r : List ℕ) → nodes ≡ t.passed ++ r → t.rest ≡ r
      remains r e = same_end t.passed t.rest r (sym t.nodes_are ∙ e)

      pub named_next : (next : Stage) (node : ℕ) → Proceeds bytes stage next (Some (Pass node)) → (more : List ℕ) × (t.rest ≡ node ∷ more)
      named_next next node step =
          let p = planted tree_can in
          let r = t.followed.forth c.opens.red_black.height nodes p.all p.hangs in
          let more = (step c.opens.red_black.height r.rest r.entering).1 r.completes in
          (more.0, remains r.rest r.nodes_are ∙ more.1)

      pub named_inside : (node : ℕ) (more : List ℕ) → t.rest ≡ node ∷ more → node + 24 ≤ length bytes
      named_inside node more e = node_inside node (omega (arith, ap (times node) (t.nodes_are ∙ ap (λ xs. t.passed ++ xs) e), times-append node t.passed (node ∷ more), times-same node more))

      pub named_end : (next : Stage) → Proceeds bytes stage next None → t.rest ≡ []
      named_end next step =
          let p = planted tree_can in
          let r = t.followed.forth c.opens.red_black.height nodes p.all p.hangs in
          remains r.rest r.nodes_are ∙ (step.1 c.opens.red_black.height r.rest r.entering r.completes).0

      pub named_refused : ((height : ℕ) (rest entering : List ℕ) → Completes bytes height stage rest entering → height < 30 → length rest + length entering < turns → ⊥) → ⊥
      named_refused never =
          let p = planted tree_can in
          follow_refused bytes index_cell (count_at bytes index_cell) stage turns t.passed t.entered t.followed never c.opens.red_black.height nodes p.all p.hangs p.few

      module _ (next : Stage) (less : ℕ) (steady : IsSteady bytes next less) (spent : less + 1 ≡ turns) where
        pub named_enter : (pointer : ℕ) → Proceeds bytes stage next (Some (Enter pointer)) → Named now last next less
        named_enter pointer step = record {
          passed = t.passed;
          entered = t.entered ++ step.0 ∷ [];
          followed = follow_enter bytes index_cell (count_at bytes index_cell) stage turns t.passed t.entered t.followed next less steady spent pointer step;
          rest = t.rest;
          nodes_are = t.nodes_are;
          advances = t.advances;
        }

        pub named_pass : (new : Known) (name : List ℕ) (node : ℕ) (more : List ℕ) → Proceeds bytes stage next (Some (Pass node)) → t.rest ≡ node ∷ more
            → AdvancesRoots bytes table now new (names_ahead ((node + tree_words) ∷ map (λ p. p + tree_words) more) last) (names_ahead (map (λ p. p + tree_words) more) name) → Named new name next less
        named_pass new name node more step e a = record {
          passed = t.passed ++ node ∷ [];
          entered = t.entered;
          followed = follow_pass bytes index_cell (count_at bytes index_cell) stage turns t.passed t.entered t.followed next less steady spent node step;
          rest = more;
          nodes_are = t.nodes_are ∙ ap (λ xs. t.passed ++ xs) e ∙ sym (append_assoc t.passed (node ∷ []) more);
          advances = roots_more bytes table start now new (names_ahead c.index.entries []) (names_ahead (map (λ p. p + tree_words) t.rest) last) (names_ahead (map (λ p. p + tree_words) more) name) t.advances
              (subst (λ xs. AdvancesRoots bytes table now new (names_ahead xs last) (names_ahead (map (λ p. p + tree_words) more) name)) (sym (ap (map (λ p. p + tree_words)) e)) a);
        }

    pub named_start : (stage : Stage) (turns : ℕ) → Followed bytes index_cell (count_at bytes index_cell) stage turns [] [] → Named start [] stage turns
    named_start stage turns f = record {
      passed = [];
      entered = [];
      followed = f;
      rest = nodes;
      nodes_are = refl;
      advances = subst (λ xs. AdvancesRoots bytes table start start (names_ahead c.index.entries []) (names_ahead xs [])) (ap (λ (x : Index). x.entries) c.opens.index_is) (roots_none bytes table start (names_ahead c.index.entries []));
    }

    pub tree_ready : IsReady bytes table start
    tree_ready = ready_found bytes table old start [] ready (within_taken old.unclaimed start.unclaimed c.index.blocks c.claims.claimed)
        (finds_claimed bytes old start c.index.blocks [] c.claims (index_other bytes 1 c.index c.opens) tt)

    module _ (tree : word bytes index_kind_word ≡ 1) where
      tree_opens : OpensIndex bytes (word bytes index_kind_word) c.index
      tree_opens = subst (λ k. OpensIndex bytes k c.index) (sym tree) c.opens

      tree_one : (other : Index) → OpensIndex bytes (word bytes index_kind_word) other → other ≡ c.index
      tree_one other o =
          let its : OpensTreeIndex bytes other = subst (λ k. OpensIndex bytes k other) tree o in
          its.index_is ∙ ap (λ t. record { blocks = map block_of (nodes_of t); entries = map (λ p. p + tree_words) (nodes_of t) }) (IsTree-one bytes (target bytes index_cell) its.tree c.opens.tree its.is_tree c.opens.is_tree) ∙
          sym c.opens.index_is

      pub tree_names : CanResolveIndex bytes table old → CanResolveRoots bytes table start (names_ahead c.index.entries [])
      tree_names = index_names bytes table old start c.index tree_opens tree_one c.claims

      pub tree_advance : (new : Known) (last : List ℕ) → AdvancesRoots bytes table start new (names_ahead c.index.entries []) (names_ahead [] last) → AdvancesIndex bytes table old new
      tree_advance = index_advance bytes table old start c.index tree_opens tree_one c.claims

  pub planted_index : word bytes index_kind_word ≡ 1 → CanResolveIndex bytes table old → CanClaimTree bytes old.unclaimed
  planted_index tree can = record {
    index = can.resolves.index;
    opens = subst (λ k. OpensIndex bytes k can.resolves.index) tree can.resolves.opens;
    within = index_within bytes table old can;
  }

  -- ---- the content of a node

  module _ (known new : Known) (pointer p : ℕ) (content : Content) (tag_is : word_of content.tag ≡ tag_of Kind.index_node 0) (size_is : content.entry.size ≡ 24) (held_is : content.entry.held ≡ held.Pointer) where
    one_node : 1 * content.entry.size ≡ 24
    one_node = omega (arith, size_is)

    pub index_node_claimed : ClaimsBlock bytes known new pointer (word_of content.tag) (1 * content.entry.size) (turns_where (has_turns table content.entry.held) p 1) p
        → ClaimsBlock bytes known new pointer (tag_of Kind.index_node 0) 24 [] p
    index_node_claimed c =
        subst (λ ts. ClaimsBlock bytes known new pointer (tag_of Kind.index_node 0) 24 ts p) (ap (λ h. turns_where (has_turns table h) p 1) held_is)
        (subst (λ k. ClaimsBlock bytes known new pointer (tag_of Kind.index_node 0) k (turns_where (has_turns table content.entry.held) p 1) p) one_node
        (subst (λ t. ClaimsBlock bytes known new pointer t (1 * content.entry.size) (turns_where (has_turns table content.entry.held) p 1) p) tag_is c))

    -- a node can't be claimed
    pub index_node_lacks : word bytes index_kind_word ≡ 1 → IsReady bytes table known
        → IsLinkAt bytes (tag_of Kind.index_node 0) 24 index_cell pointer → (e : ContentFault)
        → RefusesClaim bytes known pointer (word_of content.tag) (1 * content.entry.size) e → LacksAt bytes table e
    index_node_lacks kind now link e r =
        must_lack bytes table known now pointer (tag_of Kind.index_node 0) 24 e (to_index_node kind link)
        (refuses_as bytes bytes known pointer (word_of content.tag) (tag_of Kind.index_node 0) (1 * content.entry.size) 24 e refl tag_is one_node r)

    pub index_node_can : CanClaim bytes known pointer (tag_of Kind.index_node 0) 24 → CanClaim bytes known pointer (word_of content.tag) (1 * content.entry.size)
    index_node_can c = subst (λ k. CanClaim bytes known pointer (word_of content.tag) k) (sym one_node) (subst (λ t. CanClaim bytes known pointer t 24) (sym tag_is) c)
