-- The index of an image whose names change. Its number of blocks depends only on the number of names. If it
-- is a tree, each node that stays allocated keeps its entry, and an added node has the entry of the added
-- name. So two images whose indices were alike have the same entries again.
use Rattle.std.proofs.Common.{◌≡◌, ◌≢◌, ℕ, zero, suc, ◌+◌, ◌≤◌, ◌⊎◌, inl, inr, List, [], ◌∷◌, length, map, Some, refl, sym, ap, ◌∙◌, subst, arith}
use Rattle.std.proofs.lemmas.Bool.{cases_eq}
use Rattle.seg_spec.specs.Bytes.{word}
use Rattle.seg_spec.specs.Header.{allocator_word, index_kind_word, heap_start}
use Rattle.seg_spec.specs.Pointer.{target}
use Rattle.seg_spec.specs.Heap.{live, tag_at}
use Rattle.seg_spec.specs.Block.{block_of, tag_of, Kind, KeepsBlock}
use Rattle.seg_spec.specs.Apart.{KeepsBlockAround}
use Rattle.seg_spec.specs.Shapes.{tree_words}
use Rattle.seg_spec.specs.Index.{Root, Index, AreEntries}
use Rattle.seg_spec.specs.Sound.{Picture, IsHeld, times, SameBlocks, positions}
use Rattle.seg_spec.specs.Roots.{KeepsNodes}
use Rattle.seg_spec.proofs.Heap.BlockFrameLaws.{around_kept}
use Rattle.seg_spec.proofs.Heap.LiveBlockLaws.{LiesIn, times-same, times-more, there, live-lie, live-once}
use Rattle.seg_spec.proofs.Values.PlaceFrameLaws.{target-same}
use Rattle.seg_spec.proofs.Values.PartPositionLaws.{In, in_each}
use Rattle.client_sim.proofs.Names.OnePictureLaws.{OpensIndex-one}
use Rattle.test_definitions.specs.Alike.{AreAlike}
use Rattle.test_definitions.proofs.Alike.AlikePictureLaws.{SameEntries, entries_alike, node_there, tree_index}
use Rattle.test_definitions.proofs.Rows.ChangedPlaceRowLaws.{node_tags, of_index, same_members}
use Rattle.test_definitions.proofs.Rows.OnePlaceLaws.{kinds as kinds_same}
use Rattle.test_definitions.proofs.Rows.OneReturnLaws.{nodes_above, one_node}
use Rattle.test_definitions.proofs.Alike.OwnedBlockLaws.{flat_index}
use Rattle.test_definitions.proofs.Alike.RootMemberLaws.{IsAmong, counts, names_once}

-- ---- the number of blocks

-- the number of blocks of an index: a flat one has one buffer if there are names, and a tree has one node for
-- each name
abbrev pub index_long : (kind names : ℕ) → ℕ
index_long zero zero = 0
index_long zero (suc n) = 1
index_long (suc kind) n = n

pub index_is_long : (bytes : List ℕ) (p : Picture) (held : IsHeld bytes p) → length held.index_blocks ≡ index_long (word bytes index_kind_word) (length p.names)
index_is_long bytes p held = by (word bytes index_kind_word) refl (length p.names) refl
  where
    by : (kind : ℕ) → word bytes index_kind_word ≡ kind → (n : ℕ) → length p.names ≡ n → length held.index_blocks ≡ index_long kind n
    by zero is zero names = (flat_index bytes p held is).none names
    by zero is (suc n) names = (flat_index bytes p held is).some (omega (arith, names))
    by (suc kind) is n names = (node_tags bytes p held (λ flat. absurd (omega (arith, is, flat)))).1 ∙ names

-- the bytes of an image determine the blocks of its index
pub index_blocks_one : (bytes : List ℕ) (p q : Picture) (held : IsHeld bytes p) (held_too : IsHeld bytes q) → held.index_blocks ≡ held_too.index_blocks
index_blocks_one bytes p q held held_too =
    let n = held.laid_out.names in
    let m = held_too.laid_out.names in
    n.blocks_are ∙ ap (λ (i : Index). i.blocks) (OpensIndex-one bytes p.table (word bytes index_kind_word) n.index m.index n.opens m.opens) ∙ sym m.blocks_are

-- ---- one image

-- If the index is a tree, its nodes before a change of names stay allocated and keep their entries.
pub record NodesStay (old new nodes : List ℕ) : Type 0 where
  pub kinds : word new index_kind_word ≡ word old index_kind_word
  pub kept : KeepsNodes old new nodes
  pub stay : (word old index_kind_word ≡ 0 → ⊥) → (h : ℕ) → 1 ≤ times h nodes → 1 ≤ times h (positions (live new))

-- nodes that are kept whole keep their entries
pub whole_nodes : (old new : List ℕ) (p : Picture) (held : IsHeld old p) (nodes : List ℕ) → ((h : ℕ) → 1 ≤ times h nodes → 1 ≤ times h (positions (live old))) → ((h : ℕ) → 1 ≤ times h nodes → KeepsBlock old new h) → KeepsNodes old new nodes
whole_nodes old new p held nodes alive kept tree h some now =
    let l = there (LiesIn old heap_start (length old)) h (positions (live old)) (live-lie old (word old allocator_word) held.laid_out.heap) (alive h some) in
    around_kept old new (h + 16) tree_words h (omega (arith, l.size)) (kept h some)

module _ (old new : List ℕ) (was : Picture) (held : IsHeld old was) (tree : word old index_kind_word ≡ 0 → ⊥) (kept : KeepsNodes old new held.index_blocks) where
  around : (h : ℕ) → 1 ≤ times h held.index_blocks → 1 ≤ times h (positions (live new)) → KeepsBlockAround old new (h + 16) tree_words h
  around h some now = (let few = held.laid_out.header.index_is in kept (one (word old index_kind_word) few tree) h some now)
    where
      one : (kind : ℕ) → kind ≤ 1 → (kind ≡ 0 → ⊥) → kind ≡ 1
      one zero few tree = absurd (tree refl)
      one (suc k) few tree = omega (arith, few)

  -- a node that stays allocated has the same entry
  pub entry_stays : (node : ℕ) → 16 ≤ node → 1 ≤ times (block_of node) held.index_blocks → 1 ≤ times (block_of node) (positions (live new)) → target new (node + tree_words) ≡ target old (node + tree_words)
  entry_stays node low some now =
      let t = tree_index old was held tree in
      let n = node_there t.nodes node _ _ t.are_nodes low (subst (λ bs. 1 ≤ times (block_of node) bs) t.blocks_are some) in
      let a = around (block_of node) some now in
      let room = n.0.room in
      target-same old new (node + tree_words) (a.payload (node + tree_words) 4 (omega (arith, low)) (omega (arith, low, room)) (inr (omega (arith, low))))

  -- and is still a node of the index
  pub node_stays : (now : Picture) (held_now : IsHeld new now) (h : ℕ) → 1 ≤ times h held.index_blocks → 1 ≤ times h (positions (live new)) → 1 ≤ times h held_now.index_blocks
  node_stays now held_now h some there_now =
      let tag = there (λ b. tag_at old b ≡ tag_of Kind.index_node 0) h held.index_blocks (node_tags old was held tree).0 some in
      of_index new now held_now 6 (omega arith, omega arith) h there_now (omega (arith, (around h some there_now).header.has_tag, tag))

-- ---- the entries of nodes

-- each node has the entry of a name
entry_of : (bytes ns : List ℕ) (names : List Root) (node : ℕ) → AreEntries bytes (map (λ n. n + tree_words) ns) names → In node ns → (r : Root) × IsAmong r names × (target bytes (node + tree_words) ≡ Some r.at)
entry_of bytes [] names node e i = absurd i
entry_of bytes (n ∷ ns) [] node e i = absurd e
entry_of bytes (n ∷ ns) (r ∷ names) node e (inl same) = (r, inl refl, ap (λ k. target bytes (k + tree_words)) same ∙ e.0.points)
entry_of bytes (n ∷ ns) (r ∷ names) node e (inr i) = (let k = entry_of bytes ns names node e.1 i in (k.0, inr k.1, k.2))

-- each name has an entry in a node
node_of : (bytes ns : List ℕ) (names : List Root) (r : Root) → AreEntries bytes (map (λ n. n + tree_words) ns) names → IsAmong r names → (node : ℕ) × In node ns × (target bytes (node + tree_words) ≡ Some r.at)
node_of bytes [] [] r e i = absurd i
node_of bytes [] (x ∷ names) r e i = absurd e
node_of bytes (n ∷ ns) [] r e i = absurd i
node_of bytes (n ∷ ns) (x ∷ names) r e (inl same) = (n, inl refl, e.0.points ∙ ap (λ (y : Root). Some y.at) (sym same))
node_of bytes (n ∷ ns) (x ∷ names) r e (inr i) = (let k = node_of bytes ns names r e.1 i in (k.0, inr k.1, k.2))

in_blocks : (ns : List ℕ) (node : ℕ) → In node ns → 1 ≤ times (block_of node) (map block_of ns)
in_blocks [] node i = absurd i
in_blocks (n ∷ ns) node (inl e) = subst (λ k. 1 ≤ times (block_of node) (block_of k ∷ map block_of ns)) e (omega (arith, times-same (block_of node) (map block_of ns)))
in_blocks (n ∷ ns) node (inr i) = omega (arith, in_blocks ns node i, times-more (block_of node) (block_of n) (map block_of ns))

module _ (old new : List ℕ) (was now : Picture) (held : IsHeld old was) (held_now : IsHeld new now) (tree : word old index_kind_word ≡ 0 → ⊥) (s : NodesStay old new held.index_blocks) where
  tree_now : word new index_kind_word ≡ 0 → ⊥
  tree_now e = tree (sym s.kinds ∙ e)

  -- no node was added if there are as many names
  pub nodes_before : length now.names ≡ length was.names → (h : ℕ) → 1 ≤ times h held_now.index_blocks → 1 ≤ times h held.index_blocks
  nodes_before as_many h some =
      let long = (node_tags new now held_now tree_now).1 ∙ as_many ∙ sym (node_tags old was held tree).1 in
      same_members held.index_blocks held_now.index_blocks (λ k. fewer k (cases_eq (times k held.index_blocks) 0)) long h some
    where
      fewer : (k : ℕ) → (times k held.index_blocks ≡ 0) ⊎ (times k held.index_blocks ≢ 0) → times k held.index_blocks ≤ times k held_now.index_blocks
      fewer k (inl none) = omega (arith, none)
      fewer k (inr more) =
          let there_is = node_stays old new was held tree s.kept now held_now k (omega (arith, more)) (s.stay tree k (omega (arith, more))) in
          omega (arith, there_is, counts old was held k, live-once old (word old allocator_word) held.laid_out.heap k)

  -- an added node has the entry of the added name
  pub entry_comes : (a : Root) → ((c : Root) → IsAmong c now.names → (c ≡ a) ⊎ IsAmong c was.names) → (node : ℕ) → 16 ≤ node → 1 ≤ times (block_of node) held_now.index_blocks → times (block_of node) held.index_blocks ≡ 0
      → target new (node + tree_words) ≡ Some a.at
  entry_comes a back node low some none =
      let t = tree_index new now held_now tree_now in
      let n = node_there t.nodes node _ _ t.are_nodes low (subst (λ bs. 1 ≤ times (block_of node) bs) t.blocks_are some) in
      let c = entry_of new t.nodes now.names node t.entries n.1 in
      by c.0 c.2 (back c.0 c.1) n.1
    where
      by : (c : Root) → target new (node + tree_words) ≡ Some c.at → (c ≡ a) ⊎ IsAmong c was.names → In node (tree_index new now held_now tree_now).nodes → target new (node + tree_words) ≡ Some a.at
      by c at (inl e) i = at ∙ ap (λ (r : Root). Some r.at) e
      by c at (inr j) i =
          let u = tree_index old was held tree in
          let t = tree_index new now held_now tree_now in
          let m = node_of old u.nodes was.names c u.entries j in
          let low_m = in_each (λ k. 16 ≤ k) m.0 u.nodes m.1 (nodes_above old _ _ u.nodes u.are_nodes) in
          let some_m : 1 ≤ times (block_of m.0) held.index_blocks = subst (λ bs. 1 ≤ times (block_of m.0) bs) (sym u.blocks_are) (in_blocks u.nodes m.0 m.1) in
          let now_m = s.stay tree (block_of m.0) some_m in
          let points = entry_stays old new was held tree s.kept m.0 low_m some_m now_m ∙ m.2 in
          let in_m = node_stays old new was held tree s.kept now held_now (block_of m.0) some_m now_m in
          let k = node_there t.nodes m.0 _ _ t.are_nodes low_m (subst (λ bs. 1 ≤ times (block_of m.0) bs) t.blocks_are in_m) in
          let same = one_node c.at new new t.nodes now.names m.0 node t.entries t.entries (names_once new now held_now) k.1 i points at in
          absurd (omega (arith, some_m, none, ap (λ z. times (block_of z) held.index_blocks) same))

-- ---- both images

module _ {others : List Root} {places first second : List ℕ} (alike : AreAlike others places first second) (new other : List ℕ) (tree : word first index_kind_word ≡ 0 → ⊥) where
  tree_too : word second index_kind_word ≡ 0 → ⊥
  tree_too e = tree (kinds_same alike ∙ e)

  some_too : (h : ℕ) → 1 ≤ times h alike.held.index_blocks → 1 ≤ times h alike.held_too.index_blocks
  some_too h some = subst (λ bs. 1 ≤ times h bs) (sym alike.index_same) some

  -- a node that stays allocated in both has the same entry
  pub entries_stay : KeepsNodes first new alike.held.index_blocks → KeepsNodes second other alike.held_too.index_blocks → (node : ℕ) → 16 ≤ node → 1 ≤ times (block_of node) alike.held.index_blocks
      → 1 ≤ times (block_of node) (positions (live new)) → 1 ≤ times (block_of node) (positions (live other)) → target other (node + tree_words) ≡ target new (node + tree_words)
  entries_stay k l node low some now now_too =
      entry_stays second other alike.picture alike.held_too tree_too l node low (some_too (block_of node) some) now_too ∙ entries_alike alike tree node low some ∙ sym (entry_stays first new alike.picture alike.held tree k node low some now)

  module _ (now : Picture) (held_now : IsHeld new now) (s : NodesStay first new alike.held.index_blocks) (u : NodesStay second other alike.held_too.index_blocks) where
    was_there : (node : ℕ) → 16 ≤ node → 1 ≤ times (block_of node) alike.held.index_blocks → target other (node + tree_words) ≡ target new (node + tree_words)
    was_there node low some = entries_stay s.kept u.kept node low some (s.stay tree (block_of node) some) (u.stay tree_too (block_of node) (some_too (block_of node) some))

    -- if no name was added
    pub entries_before : length now.names ≡ length alike.picture.names → SameEntries new other held_now.index_blocks
    entries_before as_many node low some = was_there node low (nodes_before first new alike.picture now alike.held held_now tree s as_many (block_of node) some)

    -- if the same name was added to both
    pub entries_come : (now_too : Picture) (held_too : IsHeld other now_too) (a b : Root) → b.at ≡ a.at → ((c : Root) → IsAmong c now.names → (c ≡ a) ⊎ IsAmong c alike.picture.names)
        → ((c : Root) → IsAmong c now_too.names → (c ≡ b) ⊎ IsAmong c alike.picture.names) → SameBlocks held_now.index_blocks held_too.index_blocks → SameEntries new other held_now.index_blocks
    entries_come now_too held_too a b at back back_too same node low some = go (cases_eq (times (block_of node) alike.held.index_blocks) 0)
      where
        go : (times (block_of node) alike.held.index_blocks ≡ 0) ⊎ (times (block_of node) alike.held.index_blocks ≢ 0) → target other (node + tree_words) ≡ target new (node + tree_words)
        go (inr more) = was_there node low (omega (arith, more))
        go (inl none) =
            let none_too : times (block_of node) alike.held_too.index_blocks ≡ 0 = ap (times (block_of node)) alike.index_same ∙ none in
            let mine = entry_comes first new alike.picture now alike.held held_now tree s a back node low some none in
            let theirs = entry_comes second other alike.picture now_too alike.held_too held_too tree_too u b back_too node low (omega (arith, some, same (block_of node))) none_too in
            theirs ∙ ap Some at ∙ sym mine
