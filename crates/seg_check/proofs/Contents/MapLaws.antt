-- The tree of a map: its nodes are claimed when a walk enters them, and its keys are read when it
-- passes them.
use Rattle.std.proofs.Common.{◌≡◌, ℕ, zero, suc, ◌+◌, ◌*◌, ◌^◌, ◌-◌, ◌%◌, ◌<◌, ◌≤◌, Bool, List, [], ◌∷◌, ◌++◌, length, length-append, map, Option, Some, None, Result, Ok, Err, MatchResult, ℤ, refl, sym, ap, ◌∙◌, subst, arith}
use Rattle.std.specs.List.{AllByRecursion}
use Rattle.std.specs.Result.{IsErrAnd}
use Rattle.std.proofs.lemmas.Result.{err_from_is_err_and}
use Rattle.std.proofs.lemmas.List.{map-append, length-map}
use Rattle.seg_spec.specs.Pointer.{target}
use Rattle.seg_spec.specs.Bytes.{signed_long}
use Rattle.seg_spec.specs.Types.{Form, Table, form_at, size}
use Rattle.seg_spec.specs.Block.{Kind, tag_of, block_of, IsBlock}
use Rattle.seg_spec.specs.Shapes.{Tree, leaf, fork, nodes_of, IsTree, IsRedBlack, tree_words}
use Rattle.seg_spec.specs.Bytes.{word}
use Rattle.seg_spec.specs.Header.{allocator_word}
use Rattle.seg_spec.specs.Heap.{Span, live}
use Rattle.seg_spec.proofs.Heap.BlockCountLaws.{few_live}
use Rattle.seg_spec.specs.Value.{IsAscending, Label}
use Rattle.seg_spec.specs.Reads.{Opened, Opens, AreNodes, count_at, keys_at, map_words, places_of}
use Rattle.seg_spec.specs.Sound.{times, SameBlocks, positions}
use Rattle.seg_spec.proofs.Heap.LiveBlockLaws.{times-same, times-append}
use Rattle.seg_block.specs.Tags.{word_of}
use Rattle.seg_layout.specs.Forms.{has_cells}
use Rattle.seg_cells.specs.declared.content.Content.{Content}
use Rattle.seg_check.specs.declared.fault.ContentFault.{ContentFault}
use Rattle.seg_check.specs.declared.fault.ContentFault.TheVariants.{BadPointer, BadValue}
use Rattle.seg_check.specs.declared.maps.Keys.{Keys}
use Rattle.seg_check.specs.declared.walk.Stage.{Stage}
use Rattle.seg_check.specs.declared.walk.Visit.TheVariants.{Enter, Pass}
use Rattle.seg_check.specs.Claiming.{Refutes, HaveLiveHeaders, CanClaim, RefusesClaim, ClaimsBlock, turns_where, has_turns}
use Rattle.seg_check.specs.Positions.{IsLinkAt, LacksValueAt, in_cell, LacksAt}
use Rattle.seg_check.proofs.Blocks.LackingBlockLaws.{null_lacks, refuses_as, link_lacks}
use Rattle.seg_check.specs.Marks.{Known, Within}
use Rattle.seg_check.specs.Keys.{HasKeys}
use Rattle.seg_check.specs.Walks.{Completes, Hangs, IsSteady, Proceeds, MovesOn, entering_of}
use Rattle.seg_check.proofs.PlacedWalkLaws.{Placed, placed_start, placed_enter, placed_pass}
use Rattle.seg_check.specs.Turns.{LiesAt, by_cell, Limited, limited}
use Rattle.seg_check.specs.Resolving.{ResolvesBy, CanResolve, Advances, IsReady, Steps}
use Rattle.seg_check.specs.Cells.{CellsPointTo, blocks_counted_by}
use Rattle.seg_check.proofs.SameLengthLaws.{splits, within_length}
use Rattle.seg_check.proofs.Queue.QueueOrderLaws.{without, in_any_order}
use Rattle.seg_check.proofs.Queue.QueueStepLaws.{advance_mixed, can_open}
use Rattle.seg_check.proofs.Blocks.CellClaimLaws.{advance_nothing}
use Rattle.seg_check.proofs.Contents.BufferLaws.{content_claimed, content_can, blocks_lack}
use Rattle.seg_check.proofs.Contents.NodeLaws.{turns_of, Claimed, one_node, claimed_none, claimed_more, claimed_within, claimed_live, claimed_ready, nodes_within, nodes_others, within_rest, node_room, values_of, values_known, claimed_wait}
use Rattle.seg_check.proofs.WalkStateLaws.{Followed, hangs_once, follow_enter, follow_pass, follow_end, follow_all, follow_refused}

-- ---- lists with the same numbers

pub mapped_same : (f : ℕ → ℕ) (xs ys : List ℕ) → SameBlocks xs ys → SameBlocks (map f xs) (map f ys)
mapped_same f [] [] same h = refl
mapped_same f [] (y ∷ ys) same h = absurd (omega (arith, same y, times-same y ys))
mapped_same f (x ∷ xs) ys same h =
    let s = splits x ys (omega (arith, same x, times-same x xs)) in
    let rest = mapped_same f xs (s.before ++ s.after) (without xs ys x s.before s.after s.parts same) h in
    let mine = times-append h (f x ∷ []) (map f xs) in
    let there : times h (map f ys) ≡ times h (map f s.before) + times h (f x ∷ map f s.after) = ap (λ zs. times h (map f zs)) s.parts ∙ ap (times h) (map-append f s.before (x ∷ s.after))
    ∙ times-append h (map f s.before) (f x ∷ map f s.after) in
    let own = times-append h (f x ∷ []) (map f s.after) in
    let apart : times h (map f (s.before ++ s.after)) ≡ times h (map f s.before) + times h (map f s.after) = ap (times h) (map-append f s.before s.after) ∙ times-append h (map f s.before) (map f s.after) in
    omega arith

each_of : (P : ℕ → Type 0) (xs : List ℕ) → ((x : ℕ) → 1 ≤ times x xs → P x) → AllByRecursion P xs
each_of P [] all = tt
each_of P (x ∷ xs) all = (all x (omega (arith, times-same x xs)), each_of P xs (λ y some. all y (omega (arith, times-append y (x ∷ []) xs))))

in_each : (P : ℕ → Type 0) (before after : List ℕ) (x : ℕ) → AllByRecursion P (before ++ x ∷ after) → P x
in_each P [] after x all = all.0
in_each P (y ∷ before) after x all = in_each P before after x all.1

pub one_of : (P : ℕ → Type 0) (xs : List ℕ) (x : ℕ) → AllByRecursion P xs → 1 ≤ times x xs → P x
one_of P xs x all some = let s = splits x xs some in in_each P s.before s.after x (subst (AllByRecursion P) s.parts all)

pub same_each : (P : ℕ → Type 0) (xs ys : List ℕ) → SameBlocks xs ys → AllByRecursion P xs → AllByRecursion P ys
same_each P xs ys same all = each_of P ys (λ y some. one_of P xs y all (omega (arith, same y)))

all_parts : (P : ℕ → Type 0) (xs : List ℕ) (x : ℕ) → AllByRecursion P (xs ++ x ∷ []) → AllByRecursion P xs × P x
all_parts P [] x all = (tt, all.0)
all_parts P (y ∷ ys) x all = let rest = all_parts P ys x all.1 in ((all.0, rest.0), rest.1)

-- the order in which values of one type are resolved doesn't matter
module _ (bytes : List ℕ) (table : Table) (U before : ℕ) (u l : List ℕ) (below : Option ℕ) where
  abbrev places : List ℕ → List Limited
  places ps = limited below (places_of U (map (λ p. p + before) ps))

  abbrev place : ℕ → Limited
  place p = record { place = record { at = p + before; type = U }; below = below }

  one_by_one : (ps : List ℕ) → places ps ≡ map place ps
  one_by_one [] = refl
  one_by_one (p ∷ ps) = ap (λ xs. place p ∷ xs) (one_by_one ps)

  values_in_any_order : (xs ys : List ℕ) (others : List Limited) (names : List ℕ) → SameBlocks xs ys → ResolvesBy bytes table u l (places xs ++ others) names → ResolvesBy bytes table u l (places ys ++ others) names
  values_in_any_order xs ys others names same r =
      subst (λ ps. ResolvesBy bytes table u l (ps ++ others) names) (sym (one_by_one ys))
      (in_any_order bytes table place u l xs ys others names same (subst (λ ps. ResolvesBy bytes table u l (ps ++ others) names) (one_by_one xs) r))

-- ---- the nodes that were claimed so far

module _ (bytes : List ℕ) (table : Table) (old : Known) (ready : IsReady bytes table old) (at T U : ℕ) (f : form_at table T ≡ Some (Form.map U)) where
  abbrev tag : ℕ
  tag = tag_of Kind.node T

  abbrev each : ℕ
  each = map_words + size table U

  abbrev has : Bool
  has = has_cells (form_at table U)

  abbrev keys_of : List ℕ → List ℤ
  keys_of nodes = keys_at bytes (map (λ p. p + tree_words) nodes)

  abbrev Follows : Stage → ℕ → List ℕ → List ℕ → Type 0
  Follows stage turns passed entered = Followed bytes at (count_at bytes at) stage turns passed entered

  -- the positions of nodes and their values don't overflow
  abbrev AreLow : List ℕ → Type 0
  AreLow nodes = AllByRecursion (λ p. p + map_words < 2 ^ 32) nodes

  -- the entered nodes were claimed, and the keys of the passed nodes were read
  pub record Traced (now : Known) (stage : Stage) (turns : ℕ) (keys : Keys) : Type 0 where
    pub passed : List ℕ
    pub entered : List ℕ
    pub followed : Follows stage turns passed entered
    pub claimed : Claimed bytes table old ready T map_words U now entered
    pub placed : Placed bytes table old ready tag each at stage
    pub keys_are : AreLow passed → HasKeys keys (keys_of passed)

  pub traced_start : (stage : Stage) (turns : ℕ) (keys : Keys) → Follows stage turns [] [] → stage.pointer ≡ at → stage.entered.items ≡ [] → HasKeys keys [] → Traced old stage turns keys
  traced_start stage turns keys follows pointer_is none has_keys = record {
    placed = placed_start bytes table old ready tag each at stage pointer_is none;
    passed = [];
    entered = [];
    followed = follows;
    claimed = claimed_none bytes table old ready T map_words U;
    keys_are = (λ low. has_keys);
  }

  module _ (mid : Known) (stage : Stage) (turns : ℕ) (keys : Keys) (t : Traced mid stage turns keys) where
    pub traced_live : HaveLiveHeaders bytes mid.unclaimed
    traced_live = claimed_live bytes table old ready T map_words U mid t.entered t.claimed

    module _ (next : Stage) (less : ℕ) (steady : IsSteady bytes next less) (spent : less + 1 ≡ turns) where
      pub traced_enter : (new : Known) (pointer p : ℕ) → Proceeds bytes stage next (Some (Enter pointer)) → MovesOn bytes stage next (Enter pointer)
          → ClaimsBlock bytes mid new pointer tag (1 * each) (turns_where has p 1) p → Traced new next less keys
      traced_enter new pointer p step moves c =
          let same : step.0 ≡ p = (let named : Some step.0 ≡ Some p = sym step.1 ∙ c.names in cc) in
          record {
            passed = t.passed;
            entered = t.entered ++ p ∷ [];
            followed = subst (λ q. Follows next less t.passed (t.entered ++ q ∷ [])) same
                (follow_enter bytes at (count_at bytes at) stage turns t.passed t.entered t.followed next less steady spent pointer step);
            claimed = claimed_more bytes table old ready T map_words U mid new t.entered pointer p t.claimed c;
            placed = placed_enter bytes table old ready tag each at stage next pointer p t.placed moves c.names (record {
              is_block = subst (λ m. IsBlock bytes p tag m) (one_node bytes table old ready T map_words U) c.is_block;
              among = omega (arith, c.claims.claimed (block_of p), times-same (block_of p) new.unclaimed, claimed_within bytes table old ready T map_words U mid t.entered t.claimed (block_of p), ready.standing (block_of p));
            });
            keys_are = t.keys_are;
          }

      pub traced_pass : (node : ℕ) (more : Keys) → Proceeds bytes stage next (Some (Pass node)) → MovesOn bytes stage next (Pass node)
          → (node + map_words < 2 ^ 32 → HasKeys keys (keys_of t.passed) → HasKeys more (keys_of t.passed ++ signed_long bytes (node + tree_words) ∷ [])) → Traced mid next less more
      traced_pass node more step moves has_keys = record {
        placed = placed_pass bytes table old ready tag each at stage next node t.placed moves;
        passed = t.passed ++ node ∷ [];
        entered = t.entered;
        followed = follow_pass bytes at (count_at bytes at) stage turns t.passed t.entered t.followed next less steady spent node step;
        claimed = t.claimed;
        keys_are = (λ low.
            let parts = all_parts (λ p. p + map_words < 2 ^ 32) t.passed node low in
            subst (HasKeys more) (sym (ap (keys_at bytes) (map-append (λ p. p + tree_words) t.passed (node ∷ []))
            ∙ map-append (signed_long bytes) (map (λ p. p + tree_words) t.passed) ((node + tree_words) ∷ []))) (has_keys parts.1 (t.keys_are parts.0)));
      }

    -- ---- the whole tree

    nodes_low : (ps : List ℕ) → AreNodes bytes tag each ps → Within (map block_of ps) old.unclaimed → AreLow ps
    nodes_low [] are within = tt
    nodes_low (p ∷ ps) are within =
        let some : 1 ≤ times (block_of p) old.unclaimed = omega (arith, within (block_of p), times-same (block_of p) (map block_of ps)) in
        let room = node_room bytes table old ready T map_words U p are.0 some in
        (omega arith, nodes_low ps are.1 (within_rest bytes table old ready T map_words U p ps within))

    -- at the walk's end, the positions of all nodes don't overflow
    all_low : (next : Stage) → Proceeds bytes stage next None → AreLow t.passed
    all_low next step =
        let w = follow_end bytes at (count_at bytes at) stage turns t.passed t.entered t.followed next step in
        let same = hangs_once bytes at (count_at bytes at) stage.above.blacks t.passed t.entered w in
        same_each (λ p. p + map_words < 2 ^ 32) t.entered t.passed same (nodes_low t.entered t.claimed.are_nodes (nodes_within bytes table old ready T map_words U mid t.entered t.claimed))

    tree_opened : List ℕ → Opened
    tree_opened nodes = record { label = Label.map (keys_of nodes); blocks = map block_of nodes; parts = values_of bytes table old ready T map_words U nodes }

    traced_advance : (next : Stage) → LiesAt bytes table (record { at = at; type = T }) → Proceeds bytes stage next None → IsAscending (keys_of t.passed) → Advances bytes table old mid (record { at = at; type = T } ∷ [])
    unfolding tree_opened
    traced_advance next lies step ascending =
        let w = follow_end bytes at (count_at bytes at) stage turns t.passed t.entered t.followed next step in
        let same = hangs_once bytes at (count_at bytes at) stage.above.blacks t.passed t.entered w in
        let blocks = mapped_same block_of t.entered t.passed same in
        let opens : Opens bytes table (record { at = at; type = T }) (Form.map U) (tree_opened t.passed) = record {
          tree = w.tree;
          is_tree = w.is_tree;
          red_black = record { root = w.black; height = stage.above.blacks; balanced = w.balanced };
          counted = ap length w.nodes_are ∙ w.counted;
          are_nodes = subst (AreNodes bytes tag each) (sym w.nodes_are) (same_each (λ p. IsBlock bytes p tag each) t.entered t.passed same t.claimed.are_nodes);
          ascending = subst (λ ps. IsAscending (keys_of ps)) (sym w.nodes_are) ascending;
          opened_is = ap tree_opened (sym w.nodes_are);
        } in
        let waits = claimed_wait bytes table old ready T map_words U (Form.map U) f (λ p. refl) mid t.entered (λ h there. by_cell (tree_opened t.passed) lies f opens (omega (arith, there, blocks h))) t.claimed in
        advance_mixed bytes table old mid (record { at = at; type = T }) (Form.map U) (tree_opened t.passed) (values_of bytes table old ready T map_words U t.entered) (turns_of has t.entered) f opens
        refl
        (λ u left below others names. (
          values_in_any_order bytes table U map_words u left below t.passed t.entered others names (λ h. sym (same h)),
          values_in_any_order bytes table U map_words u left below t.entered t.passed others names same,
        ))
        (record {
          claimed = (λ h. t.claimed.claims.claimed h ∙ times-append h (map block_of t.entered) mid.unclaimed ∙ ap (λ n. n + times h mid.unclaimed) (blocks h) ∙ sym (times-append h (map block_of t.passed) mid.unclaimed));
          allocated_kept = t.claimed.claims.allocated_kept;
          counted = t.claimed.claims.counted;
          turns_are = t.claimed.claims.turns_are;
          naming_kept = t.claimed.claims.naming_kept;
        })
        waits.0 (nodes_others bytes table old ready T map_words U has t.entered t.claimed.are_nodes) (values_known bytes table old ready T map_words U (ready.is_table.forms T (Form.map U) f) t.entered) waits.1

  pub tree_nothing : target bytes at ≡ None → count_at bytes at ≡ 0 → Advances bytes table old old (record { at = at; type = T } ∷ [])
  tree_nothing e n =
      advance_nothing bytes table old (record { at = at; type = T }) (Form.map U) (record { label = Label.map []; blocks = []; parts = [] }) f
      (record {
        tree = leaf;
        is_tree = subst (λ o. IsTree bytes o leaf) (sym e) tt;
        red_black = record { root = tt; height = 0; balanced = refl };
        counted = sym n;
        are_nodes = tt;
        ascending = tt;
        opened_is = refl;
      })
      refl refl refl

  -- ---- maps that can be resolved

  record Planted : Type 0 where
    pub height : ℕ
    pub nodes : List ℕ
    pub all : List ℕ
    pub hangs : Hangs bytes at (count_at bytes at) height nodes all
    pub are_nodes : AreNodes bytes tag each nodes
    pub within : Within (map block_of nodes) old.unclaimed
    pub ascending : IsAscending (keys_of nodes)

  planted : CanResolve bytes table old (record { at = at; type = T } ∷ []) → Planted
  planted r =
      let o = can_open bytes table old (record { at = at; type = T }) (Form.map U) [] f r in
      let tree = o.opens.tree in
      record {
        height = o.opens.red_black.height;
        nodes = nodes_of tree;
        all = entering_of tree;
        hangs = record {
          tree = tree;
          is_tree = o.opens.is_tree;
          black = o.opens.red_black.root;
          balanced = o.opens.red_black.balanced;
          nodes_are = refl;
          entering_are = refl;
          counted = o.opens.counted;
        };
        are_nodes = o.opens.are_nodes;
        within = subst (λ bs. Within bs old.unclaimed) (ap (λ (x : Opened). x.blocks) o.opens.opened_is) o.within;
        ascending = o.opens.ascending;
      }

  mapped_length : (g : ℕ → ℕ) (xs : List ℕ) → length (map g xs) ≡ length xs
  mapped_length g [] = refl
  mapped_length g (x ∷ xs) = let rest = mapped_length g xs in omega arith

  planted_few : (p : Planted) → 16 + 32 * length p.nodes ≤ length bytes
  planted_few p =
      let less = within_length (map block_of p.nodes) old.unclaimed p.within in
      let same = mapped_length block_of p.nodes in
      let few = ready.few in
      omega arith

  -- a cell counts no nodes exactly if its pointer is null
  pub tree_counted : (e : ContentFault) → blocks_counted_by at (target bytes at) (count_at bytes at) ≡ Err e → Refutes e (CanResolve bytes table old (record { at = at; type = T } ∷ []))
  tree_counted e is = go (target bytes at) (count_at bytes at) refl refl is
    where
      none_there : (tree : Tree) (n : ℕ) → IsTree bytes None tree → length (nodes_of tree) ≡ suc n → ⊥
      none_there leaf n hangs counted = omega arith
      none_there (fork left x colour right) n hangs counted = hangs

      some_there : (p : ℕ) (tree : Tree) → IsTree bytes (Some p) tree → length (nodes_of tree) ≡ 0 → ⊥
      some_there p leaf hangs counted = hangs
      some_there p (fork left x colour right) hangs counted = omega (arith, length-append (nodes_of left) (x ∷ nodes_of right))

      go : (o : Option ℕ) (n : ℕ) → target bytes at ≡ o → count_at bytes at ≡ n → blocks_counted_by at o n ≡ Err e → Refutes e (CanResolve bytes table old (record { at = at; type = T } ∷ []))
      go None zero t c is = absurd (let no : Ok None ≡ Err e = is in cc)
      go (Some p) (suc n) t c is = absurd (let no : Ok (Some (suc n)) ≡ Err e = is in cc)
      go None (suc n) t c is =
          let same : BadPointer at ≡ e = cc in
          subst (λ g. Refutes g (CanResolve bytes table old (record { at = at; type = T } ∷ []))) same
          (λ r. let p = planted r in
          none_there p.hangs.tree n (subst (λ o. IsTree bytes o p.hangs.tree) t p.hangs.is_tree) (ap length p.hangs.nodes_are ∙ p.hangs.counted ∙ c))
      go (Some q) zero t c is =
          let same : BadValue at ≡ e = cc in
          subst (λ g. Refutes g (CanResolve bytes table old (record { at = at; type = T } ∷ []))) same
          (λ r. let p = planted r in
          some_there q p.hangs.tree (subst (λ o. IsTree bytes o p.hangs.tree) t p.hangs.is_tree) (ap length p.hangs.nodes_are ∙ p.hangs.counted ∙ c))

  pub tree_counted_lack : (e : ContentFault) → LiesAt bytes table (record { at = at; type = T }) → blocks_counted_by at (target bytes at) (count_at bytes at) ≡ Err e → LacksAt bytes table e
  tree_counted_lack e lies is = blocks_lack bytes table at (count_at bytes at) (target bytes at) e is
      (null_lacks bytes table at T tag each (Form.map U) lies f (refl, refl))
      (λ p names none. in_cell T (Form.map U) lies f (record {
        names = λ null. absurd (let no : None ≡ Some p = sym null ∙ names in cc);
        none = λ tree is_tree red_black counted within ascending. some_there p tree (subst (λ o. IsTree bytes o tree) names is_tree) (counted ∙ none);
      }))
    where
      some_there : (p : ℕ) (tree : Tree) → IsTree bytes (Some p) tree → length (nodes_of tree) ≡ 0 → ⊥
      some_there p leaf hangs counted = hangs
      some_there p (fork left x colour right) hangs counted = omega (arith, length-append (nodes_of left) (x ∷ nodes_of right))

  -- the nodes of a tree in allocated blocks are few
  allocated_few : (nodes : List ℕ) → Within (map block_of nodes) (positions (live bytes)) → 16 + 32 * length nodes ≤ length bytes
  allocated_few nodes within =
      let less = within_length (map block_of nodes) (positions (live bytes)) within in
      let same = mapped_length block_of nodes in
      let blocks = length-map (live bytes) (λ (b : Span). b.at) in
      let few = few_live (word bytes allocator_word) bytes ready.heap in
      omega arith

  -- a tree with its nodes in the order of a walk
  hangs_of : (tree : Tree) → IsTree bytes (target bytes at) tree → (red_black : IsRedBlack tree) → length (nodes_of tree) ≡ count_at bytes at → Hangs bytes at (count_at bytes at) red_black.height (nodes_of tree) (entering_of tree)
  hangs_of tree is_tree red_black counted = record {
    tree = tree;
    is_tree = is_tree;
    black = red_black.root;
    balanced = red_black.balanced;
    nodes_are = refl;
    entering_are = refl;
    counted = counted;
  }

  -- a node can't be claimed
  pub node_lacks : (bs : List ℕ) (word size : ℕ) → bs ≡ bytes → word ≡ tag → size ≡ each → (known : Known) → IsReady bytes table known
      → LiesAt bytes table (record { at = at; type = T }) → (pointer : ℕ) → IsLinkAt bytes tag each at pointer → (e : ContentFault)
      → RefusesClaim bs known pointer word (1 * size) e → LacksAt bytes table e
  node_lacks bs word size e t s known is lies pointer link fault r =
      let room : 1 * size ≡ each = (let one : 1 * size ≡ size = omega arith in one) ∙ s in
      link_lacks bytes table known is at pointer T tag each (Form.map U) fault lies f tt (refl, refl) link (refuses_as bs bytes known pointer word tag (1 * size) each fault e t room r)

  module _ (mid : Known) (stage : Stage) (turns : ℕ) (keys : Keys) (t : Traced mid stage turns keys) where
    pub traced_ready : IsReady bytes table mid
    traced_ready = claimed_ready bytes table old ready T map_words U mid t.entered t.claimed

    -- if the walk can't continue, there is no such tree
    pub traced_lacks : LiesAt bytes table (record { at = at; type = T }) → (target bytes at ≡ None → ⊥)
        → ((height : ℕ) (rest entering : List ℕ) → Completes bytes height stage rest entering → height < 30 → length rest + length entering < turns → ⊥)
        → LacksValueAt bytes table at
    traced_lacks lies names never = in_cell T (Form.map U) lies f (record {
      names = names;
      none = λ tree is_tree red_black counted within ascending.
          follow_refused bytes at (count_at bytes at) stage turns t.passed t.entered t.followed never red_black.height (nodes_of tree) (entering_of tree) (hangs_of tree is_tree red_black counted) (allocated_few (nodes_of tree) within);
    })

    -- if the walk can't continue, the map can't be resolved
    pub traced_refused : ((height : ℕ) (rest entering : List ℕ) → Completes bytes height stage rest entering → height < 30 → length rest + length entering < turns → ⊥)
        → CanResolve bytes table old (record { at = at; type = T } ∷ []) → ⊥
    traced_refused never r =
        let p = planted r in
        follow_refused bytes at (count_at bytes at) stage turns t.passed t.entered t.followed never p.height p.nodes p.all p.hangs (planted_few p)

    -- the next node can be claimed
    pub traced_can : (next : Stage) (pointer : ℕ) → Proceeds bytes stage next (Some (Enter pointer)) → CanResolve bytes table old (record { at = at; type = T } ∷ []) → CanClaim bytes mid pointer tag (1 * each)
    traced_can next pointer step r =
        let p = planted r in
        let left = t.followed.forth p.height p.nodes p.all p.hangs in
        let more = (step.2 p.height left.rest left.entering).1 left.completes in
        let node = step.0 in
        let all : p.all ≡ t.entered ++ node ∷ more.0 = left.all_are ∙ ap (λ xs. t.entered ++ xs) more.1 in
        let same = hangs_once bytes at (count_at bytes at) p.height p.nodes p.all p.hangs in
        let are = subst (AreNodes bytes tag each) all (same_each (λ q. IsBlock bytes q tag each) p.nodes p.all (λ h. sym (same h)) p.are_nodes) in
        let h = block_of node in
        let blocks : times h (map block_of p.nodes) ≡ times h (map block_of t.entered) + times h (h ∷ map block_of more.0) = sym (mapped_same block_of p.all p.nodes same h) ∙ ap (λ xs. times h (map block_of xs)) all
        ∙ ap (times h) (map-append block_of t.entered (node ∷ more.0)) ∙ times-append h (map block_of t.entered) (h ∷ map block_of more.0) in
        let one = times-same h (map block_of more.0) in
        let within = p.within h in
        let claimed = t.claimed.claims.claimed h in
        let split = times-append h (map block_of t.entered) mid.unclaimed in
        record {
          start = node;
          names = step.1;
          is_block = subst (λ m. IsBlock bytes node tag m) (sym (one_node bytes table old ready T map_words U)) (in_each (λ q. IsBlock bytes q tag each) t.entered more.0 node are);
          unclaimed = omega arith;
        }

    -- at the walk's end, whether the map can be resolved depends on the order of its keys
    pub traced_steps : {A : Type 0} (next : Stage) (r : Result A ContentFault) → LiesAt bytes table (record { at = at; type = T }) → (target bytes at ≡ None → ⊥) → Proceeds bytes stage next None
        → ((ks : List ℤ) → HasKeys keys ks → MatchResult r (λ _. IsAscending ks) (λ e. (e ≡ BadValue at) × (IsAscending ks → ⊥))) → Steps bytes table old mid (record { at = at; type = T } ∷ []) r
    traced_steps next r lies names step decides = go r (decides (keys_of t.passed) (t.keys_are (all_low mid stage turns keys t next step)))
      where
        go : {A : Type 0} (r : Result A ContentFault) → MatchResult r (λ _. IsAscending (keys_of t.passed)) (λ e. (e ≡ BadValue at) × (IsAscending (keys_of t.passed) → ⊥))
            → Steps bytes table old mid (record { at = at; type = T } ∷ []) r
        go (Ok x) m = traced_advance mid stage turns keys t next lies step m
        go (Err e) m =
            subst (λ g. Refutes g (CanResolve bytes table old (record { at = at; type = T } ∷ [])) × LacksAt bytes table g) (sym m.0) (
              (λ r.
                  let p = planted r in
                  let same = follow_all bytes at (count_at bytes at) stage turns t.passed t.entered t.followed next step p.height p.nodes p.all p.hangs in
                  m.1 (subst (λ ns. IsAscending (keys_of ns)) same p.ascending)),
              in_cell T (Form.map U) lies f (record {
                names = names;
                none = λ tree is_tree red_black counted within ascending.
                    let same = follow_all bytes at (count_at bytes at) stage turns t.passed t.entered t.followed next step red_black.height (nodes_of tree) (entering_of tree) (hangs_of tree is_tree red_black counted) in
                    m.1 (subst (λ ns. IsAscending (keys_of ns)) same ascending);
              }),
            )

-- ---- the claims of the program

module _ (bytes : List ℕ) (table : Table) (T U : ℕ) (content : Content) (by : CellsPointTo table T (Form.map U) content) where
  pub node_claimed : (old new : Known) (pointer p : ℕ) → ClaimsBlock bytes old new pointer (word_of content.tag) (1 * content.entry.size) (turns_where (has_turns table content.entry.held) p 1) p
      → ClaimsBlock bytes old new pointer (tag_of Kind.node T) (1 * (map_words + size table U)) (turns_where (has_cells (form_at table U)) p 1) p
  node_claimed old new pointer p c = content_claimed bytes table old new pointer 1 p _ (tag_of Kind.node T) map_words U content by.content_of c

  pub node_can : (known : Known) (pointer : ℕ) → CanClaim bytes known pointer (tag_of Kind.node T) (1 * (map_words + size table U)) → CanClaim bytes known pointer (word_of content.tag) (1 * content.entry.size)
  node_can known pointer c = content_can bytes table known pointer 1 _ (tag_of Kind.node T) map_words U (map_words + size table U) content by.content_of refl c

  -- the same of a claimant, which has copies of what it reads
  pub owned_node : (bs : List ℕ) (word each : ℕ) (b : Bool) → bs ≡ bytes → word ≡ word_of content.tag → each ≡ content.entry.size → b ≡ has_turns table content.entry.held → (old new : Known) (pointer p : ℕ)
      → ClaimsBlock bs old new pointer word (1 * each) (turns_where b p 1) p → ClaimsBlock bytes old new pointer (tag_of Kind.node T) (1 * (map_words + size table U)) (turns_where (has_cells (form_at table U)) p 1) p
  owned_node bs word each b e t s h old new pointer p c = node_claimed old new pointer p
      (subst (λ x. ClaimsBlock bytes old new pointer (word_of content.tag) (1 * content.entry.size) (turns_where x p 1) p) h
      (subst (λ x. ClaimsBlock bytes old new pointer (word_of content.tag) (1 * x) (turns_where b p 1) p) s
      (subst (λ x. ClaimsBlock bytes old new pointer x (1 * each) (turns_where b p 1) p) t
      (subst (λ x. ClaimsBlock x old new pointer word (1 * each) (turns_where b p 1) p) e c))))

  pub owned_can : (bs : List ℕ) (word each : ℕ) → bs ≡ bytes → word ≡ word_of content.tag → each ≡ content.entry.size → (known : Known) (pointer : ℕ)
      → CanClaim bytes known pointer (tag_of Kind.node T) (1 * (map_words + size table U)) → CanClaim bs known pointer word (1 * each)
  owned_can bs word each e t s known pointer c =
      subst (λ x. CanClaim x known pointer word (1 * each)) (sym e)
      (subst (λ x. CanClaim bytes known pointer x (1 * each)) (sym t)
      (subst (λ x. CanClaim bytes known pointer (word_of content.tag) (1 * x)) (sym s) (node_can known pointer c)))

  -- the position of the key of a node
  pub node_key : (p x : ℕ) → p + map_words < 2 ^ 32 → x ≡ (p + 0 * content.entry.size + content.entry.before) % 2 ^ 32 → (8 ≤ x) × (x - 8 ≡ p + tree_words)
  node_key p x low x_is = let before = by.content_of.entry_is.before_is in (omega arith, omega arith)

-- ---- an error that is returned as another error

pub ok_was : {X E F : Type 0} (r : Result X E) (s : Result X F) (P : E → F → Type 0) (x : X) → s ≡ Ok x → MatchResult r (λ y. s ≡ Ok y) (λ e. IsErrAnd s (P e)) → r ≡ Ok x
ok_was (Ok y) s P x was m = let same : Ok y ≡ Ok x = sym m ∙ was in cc
ok_was (Err e) s P x was m = let failed = err_from_is_err_and s m in absurd (let no : Err failed.0 ≡ Ok x = sym failed.1 ∙ was in cc)

pub err_was : {X E F : Type 0} (r : Result X E) (s : Result X F) (P : E → F → Type 0) (f : F) → s ≡ Err f → MatchResult r (λ y. s ≡ Ok y) (λ e. IsErrAnd s (P e)) → (e : E) × (r ≡ Err e) × P e f
err_was (Ok y) s P f was m = absurd (let no : Ok y ≡ Err f = sym m ∙ was in cc)
err_was (Err e) s P f was m = let failed = err_from_is_err_and s m in let same : Err failed.0 ≡ Err f = sym failed.1 ∙ was in let here : failed.0 ≡ f = cc in (e, refl, subst (P e) here failed.2)
