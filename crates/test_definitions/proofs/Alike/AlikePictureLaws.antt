-- Two images are alike if they have the same roots, which open in the same way, the same header, and the
-- same allocated blocks.
use Rattle.std.proofs.Common.{◌≡◌, ◌≢◌, ℕ, zero, suc, ◌+◌, ◌≤◌, ◌⊎◌, inl, inr, List, [], ◌∷◌, ◌++◌, length, map, Option, Some, None, option_map, option_to_list, refl, sym, ap, ◌∙◌, subst, arith}
use Rattle.std.specs.List.{AllByRecursion}
use Rattle.std.proofs.lemmas.Bool.{cases_eq}
use Rattle.seg_spec.specs.Bytes.{word}
use Rattle.seg_spec.specs.Header.{next_word, version_word, types_start, index_kind_word, index_cell, KeepsFront}
use Rattle.seg_spec.specs.Pointer.{target}
use Rattle.seg_spec.specs.Types.{Table, IsTable, AreOfVersion, HasTable}
use Rattle.seg_spec.specs.Heap.{live}
use Rattle.seg_spec.specs.Block.{block_of, tag_of, Kind, IsBlock, KeepsBlock, IsOwnable}
use Rattle.seg_spec.specs.Shapes.{tree_words, nodes_of}
use Rattle.seg_spec.specs.Reads.{AreNodes}
use Rattle.seg_spec.specs.Index.{Root, Index, index_node_size, OpensIndex, AreEntries, ListsNames, ListsUniques}
use Rattle.seg_spec.specs.Frozen.{root_of_frozen}
use Rattle.seg_spec.specs.Sound.{Picture, IsHeld, IsPlain, HoldsRoots, holds_no_root, holds_more_roots, frozen_roots, roots_of, payload_of, times, SameBlocks, positions}
use Rattle.seg_spec.proofs.Heap.LiveBlockLaws.{times-append, times-same, times-other, times-more}
use Rattle.seg_spec.proofs.SliceLaws.{IsSame-part}
use Rattle.seg_spec.proofs.Values.PlaceFrameLaws.{word-same, target-same, payload-same}
use Rattle.seg_spec.proofs.Values.PartPositionLaws.{In}
use Rattle.seg_spec.proofs.Values.OneValueLaws.{HoldsEach-one}
use Rattle.seg_spec.proofs.Images.RootLaws.{HoldsRoots-split, HoldsRoots-append}
use Rattle.client_spec.specs.Machine.{State}
use Rattle.client_spec.specs.Pictures.{Pictures}
use Rattle.client_spec.specs.Ties.{places_of}
use Rattle.test_definitions.specs.Alike.{AlikeRoot, AreAlike}
use Rattle.test_definitions.proofs.ValueChanges.AlikePlaceLaws.{each_alike}
use Rattle.test_definitions.proofs.Rows.OneFrozenLaws.{Reordered}
use Rattle.test_definitions.proofs.Rows.OneReturnLaws.{nodes_one, nodes_above}
use Rattle.test_definitions.proofs.Alike.RootMemberLaws.{names_once}
use Rattle.test_definitions.proofs.Frozen.ReachedFrozenLaws.{held_in_order}

module _ {others : List Root} {s t : State} {first second : List ℕ} (p : Pictures others s first) (q : Pictures others t second) where
  -- the second image has the picture of the first
  pub held_as : p.picture.table ≡ q.picture.table → p.picture.names ≡ q.picture.names → p.picture.uniques ≡ q.picture.uniques → p.picture.loose ≡ q.picture.loose → Reordered p.picture.frozen q.picture.frozen
      → (h : IsHeld second p.picture) × (h.index_blocks ≡ q.held.index_blocks)
  held_as tables names uniques loose order =
      let r = q.picture in
      let l = q.held.laid_out in
      let a = HoldsRoots-split second r.table r.names (r.uniques ++ (r.loose ++ frozen_roots r)) q.held.root_blocks q.held.roots in
      let b = HoldsRoots-split second r.table r.uniques (r.loose ++ frozen_roots r) a.right a.rights in
      let c = HoldsRoots-split second r.table r.loose (frozen_roots r) b.right b.rights in
      let f = held_in_order second r.table p.picture.frozen r.frozen c.right order.distinct order.distinct_too order.forth order.back c.rights in
      let all : HoldsRoots second r.table (r.names ++ (r.uniques ++ (r.loose ++ map root_of_frozen p.picture.frozen))) (a.left ++ (b.left ++ (c.left ++ f.its))) =
      HoldsRoots-append second r.table a.lefts (HoldsRoots-append second r.table b.lefts (HoldsRoots-append second r.table c.lefts f.holds)) in
      let same_roots : r.names ++ (r.uniques ++ (r.loose ++ map root_of_frozen p.picture.frozen)) ≡ roots_of p.picture = λ i. sym names i ++ (sym uniques i ++ (sym loose i ++ map root_of_frozen p.picture.frozen)) in (
        record {
          index_blocks = q.held.index_blocks;
          laid_out = record {
            header = l.header;
            types = subst (λ (z : Table). HasTable second types_start z) (sym tables) l.types;
            is_table = subst (λ (z : Table). IsTable z) (sym tables) l.is_table;
            of_version = subst (λ (z : Table). AreOfVersion (word second version_word) z) (sym tables) l.of_version;
            heap = l.heap;
            blocks = subst (λ (z : Table). AllByRecursion (λ b. IsOwnable second z b.at) (live second)) (sym tables) l.blocks;
            names = subst (λ ns. ListsNames second ns q.held.index_blocks) (sym names) l.names;
            uniques = subst (ListsUniques second) (sym uniques) l.uniques;
            plain = subst (λ us. AllByRecursion IsPlain (us ++ p.picture.loose)) (sym uniques) (subst (λ ls. AllByRecursion IsPlain (r.uniques ++ ls)) (sym loose) l.plain);
          };
          root_blocks = a.left ++ (b.left ++ (c.left ++ f.its));
          roots = subst (λ (z : Table). HoldsRoots second z (roots_of p.picture) (a.left ++ (b.left ++ (c.left ++ f.its)))) (sym tables) (subst (λ rs. HoldsRoots second r.table rs (a.left ++ (b.left ++ (c.left ++ f.its)))) same_roots all);
          owners = λ h. (
              let o = q.held.owners h in
              let u = times-append h q.held.index_blocks q.held.root_blocks in
              let v = times-append h q.held.index_blocks (a.left ++ (b.left ++ (c.left ++ f.its))) in
              let x = ap (times h) a.blocks_are ∙ times-append h a.left a.right in
              let y = ap (times h) b.blocks_are ∙ times-append h b.left b.right in
              let z = ap (times h) c.blocks_are ∙ times-append h c.left c.right in
              let x' = times-append h a.left (b.left ++ (c.left ++ f.its)) in
              let y' = times-append h b.left (c.left ++ f.its) in
              let z' = times-append h c.left f.its in
              let w = f.same h in
              omega arith);
        },
        refl,
      )

  -- ---- the blocks of the roots

  module _ (tables : p.picture.table ≡ q.picture.table) where
    -- roots that are alike have the same blocks
    one_blocks : {roots : List Root} {xs ys : List ℕ} → AllByRecursion (AlikeRoot first second p.picture.table) roots → HoldsRoots first p.picture.table roots xs → HoldsRoots second p.picture.table roots ys → xs ≡ ys
    one_blocks a holds_no_root holds_no_root = refl
    one_blocks a (holds_more_roots {root = root} {blocks = xs} {rest = xs'} h hs) (holds_more_roots {blocks = ys} {rest = ys'} k ks) =
        let insides = (HoldsEach-one second p.picture.table (each_alike first second p.picture.table h.values a.0) k.values).1 in
        let firsts : xs ≡ ys = h.blocks_are ∙ ap (λ zs. block_of (payload_of root) ∷ zs) insides ∙ sym k.blocks_are in
        let rest = one_blocks a.1 hs ks in
        λ i. firsts i ++ rest i

  -- the index has the same blocks, in some order
  pub index_blocks_same : (tables : p.picture.table ≡ q.picture.table) → (names : p.picture.names ≡ q.picture.names) → (uniques : p.picture.uniques ≡ q.picture.uniques) → (loose : p.picture.loose ≡ q.picture.loose)
      → (order : Reordered p.picture.frozen q.picture.frozen) → AllByRecursion (AlikeRoot first second p.picture.table) (roots_of p.picture) → live second ≡ live first → SameBlocks p.held.index_blocks q.held.index_blocks
  index_blocks_same tables names uniques loose order roots lives h =
      let held = held_as tables names uniques loose order in
      let blocks = one_blocks tables roots p.held.roots held.0.roots in
      let mine = p.held.owners h in
      let theirs = held.0.owners h in
      let a = times-append h p.held.index_blocks p.held.root_blocks in
      let b = times-append h held.0.index_blocks held.0.root_blocks in
      let c = ap (times h) blocks in
      let d = ap (λ bs. times h (positions bs)) lives in
      let e = ap (times h) held.1 in
      omega arith

-- ---- the order of the nodes of an index

module _ (first second : List ℕ) where
  abbrev Entries : List ℕ → List ℕ
  Entries ns = map (λ (p : ℕ). p + tree_words) ns

  -- the entry in a node points to one of the objects
  pointed : (bytes ns : List ℕ) (names : List Root) (n : ℕ) → AreEntries bytes (Entries ns) names → In n ns → (at : ℕ) → target bytes (n + tree_words) ≡ Some at → 1 ≤ times (block_of at) (map (λ (r : Root). block_of r.at) names)
  pointed bytes [] names n e i at is = absurd i
  pointed bytes (x ∷ ns) [] n e i at is = absurd e
  pointed bytes (x ∷ ns) (r ∷ names) n e (inl same) at is =
      let t : target bytes (x + tree_words) ≡ Some at = subst (λ y. target bytes (y + tree_words) ≡ Some at) same is in
      let ats : r.at ≡ at = (let f : Some r.at ≡ Some at = sym e.0.points ∙ t in cc) in
      subst (λ y. 1 ≤ times (block_of y) (block_of r.at ∷ map (λ (x : Root). block_of x.at) names)) ats (omega (arith, times-same (block_of r.at) (map (λ (x : Root). block_of x.at) names)))
  pointed bytes (x ∷ ns) (r ∷ names) n e (inr i) at is = omega (arith, pointed bytes ns names n e.1 i at is, times-more (block_of at) (block_of r.at) (map (λ (x : Root). block_of x.at) names))

  member_in : (n : ℕ) (ns : List ℕ) → 16 ≤ n → AllByRecursion (λ m. 16 ≤ m) ns → 1 ≤ times (block_of n) (map block_of ns) → In n ns
  member_in n [] low a l = absurd (omega (arith, l))
  member_in n (m ∷ ns) low a l = go (member_in n ns low a.1) (cases_eq (block_of m) (block_of n))
    where
      go : (1 ≤ times (block_of n) (map block_of ns) → In n ns) → (block_of m ≡ block_of n) ⊎ (block_of m ≢ block_of n) → In n (m ∷ ns)
      go later (inl e) = inl (omega (arith, e, low, a.0))
      go later (inr other) = inr (later (omega (arith, l, times-other (block_of n) (block_of m) (map block_of ns) other)))

  -- if each entry of the first points where the entry in the same node of the second does
  nodes_in_order : (ns ms : List ℕ) (names : List Root) → AllByRecursion (λ n. 16 ≤ n) ns → AllByRecursion (λ n. 16 ≤ n) ms → SameBlocks (map block_of ns) (map block_of ms) → AreEntries first (Entries ns) names
      → AreEntries second (Entries ms) names → ((h : ℕ) → times h (map (λ (r : Root). block_of r.at) names) ≤ 1) → ((n : ℕ) → In n ns → target second (n + tree_words) ≡ target first (n + tree_words)) → ns ≡ ms
  nodes_in_order [] [] names a b same e f once t = refl
  nodes_in_order [] (m ∷ ms) [] a b same e f once t = absurd f
  nodes_in_order [] (m ∷ ms) (r ∷ names) a b same e f once t = absurd e
  nodes_in_order (n ∷ ns) [] [] a b same e f once t = absurd e
  nodes_in_order (n ∷ ns) [] (r ∷ names) a b same e f once t = absurd f
  nodes_in_order (n ∷ ns) (m ∷ ms) [] a b same e f once t = absurd e
  nodes_in_order (n ∷ ns) (m ∷ ms) (r ∷ names) a b same e f once t =
      let there : 1 ≤ times (block_of n) (map block_of (m ∷ ms)) = omega (arith, same (block_of n), times-same (block_of n) (map block_of ns)) in
      let one : n ≡ m = by (member_in n (m ∷ ms) a.0 b there) in
      let rest : SameBlocks (map block_of ns) (map block_of ms) = λ h. tail h one (same h) in
      let others = nodes_in_order ns ms names a.1 b.1 rest e.1 f.1 (λ h. omega (arith, once h, times-more h (block_of r.at) (map (λ (x : Root). block_of x.at) names))) (λ k i. t k (inr i)) in
      λ i. one i ∷ others i
    where
      by : (n ≡ m) ⊎ In n ms → n ≡ m
      by (inl e) = e
      by (inr i) =
          let points = pointed second ms names n f.1 i r.at (t n (inl refl) ∙ e.0.points) in
          absurd (omega (arith, points, once (block_of r.at), times-same (block_of r.at) (map (λ (x : Root). block_of x.at) names)))

      tail : (h : ℕ) → n ≡ m → times h (map block_of (n ∷ ns)) ≡ times h (map block_of (m ∷ ms)) → times h (map block_of ns) ≡ times h (map block_of ms)
      tail h e s =
          let s' : times h (block_of m ∷ map block_of ns) ≡ times h (block_of m ∷ map block_of ms) = subst (λ k. times h (block_of k ∷ map block_of ns) ≡ times h (block_of m ∷ map block_of ms)) e s in
          go (cases_eq (block_of m) h) s'
        where
          go : (block_of m ≡ h) ⊎ (block_of m ≢ h) → times h (block_of m ∷ map block_of ns) ≡ times h (block_of m ∷ map block_of ms) → times h (map block_of ns) ≡ times h (map block_of ms)
          go (inl g) s =
              let s2 = subst (λ k. times k (block_of m ∷ map block_of ns) ≡ times k (block_of m ∷ map block_of ms)) (sym g) s in
              subst (λ k. times k (map block_of ns) ≡ times k (map block_of ms)) g (omega (arith, s2, times-same (block_of m) (map block_of ns), times-same (block_of m) (map block_of ms)))
          go (inr g) s = omega (arith, s, times-other h (block_of m) (map block_of ns) g, times-other h (block_of m) (map block_of ms) g)

  -- at most one block
  one_at_most : (s t : Option ℕ) → SameBlocks (option_to_list (option_map block_of s)) (option_to_list (option_map block_of t)) → option_to_list (option_map block_of s) ≡ option_to_list (option_map block_of t)
  one_at_most None None same = refl
  one_at_most None (Some q) same = absurd (omega (arith, same (block_of q), times-same (block_of q) []))
  one_at_most (Some p) None same = absurd (omega (arith, same (block_of p), times-same (block_of p) []))
  one_at_most (Some p) (Some q) same = go (cases_eq (block_of p) (block_of q))
    where
      go : (block_of p ≡ block_of q) ⊎ (block_of p ≢ block_of q) → block_of p ∷ [] ≡ block_of q ∷ []
      go (inl e) = ap (λ n. n ∷ []) e
      go (inr other) = absurd (omega (arith, same (block_of q), times-same (block_of q) [], times-other (block_of q) (block_of p) [] other))

  -- the entry of each node points to the same object in both
  abbrev pub SameEntries : List ℕ → Type 0
  SameEntries blocks = (node : ℕ) → 16 ≤ node → 1 ≤ times (block_of node) blocks → target second (node + tree_words) ≡ target first (node + tree_words)

  pub one_index : (kind : ℕ) (index other : Index) (names : List Root) → OpensIndex first kind index → OpensIndex second kind other → AreEntries first index.entries names → AreEntries second other.entries names
      → SameBlocks index.blocks other.blocks
      → ((h : ℕ) → times h (map (λ (r : Root). block_of r.at) names) ≤ 1) → ((kind ≡ 0 → ⊥) → SameEntries index.blocks) → index.blocks ≡ other.blocks
  one_index zero index other names o o' e e' same once entries =
      let is = ap (λ (x : Index). x.blocks) o.index_is in
      let is' = ap (λ (x : Index). x.blocks) o'.index_is in
      is ∙ one_at_most (target first index_cell) (target second index_cell) (λ h. sym (ap (times h) is) ∙ same h ∙ ap (times h) is') ∙ sym is'
  one_index (suc n) index other names o o' e e' same once entries =
      let ns = nodes_of o.tree in
      let ms = nodes_of o'.tree in
      let is = ap (λ (x : Index). x.blocks) o.index_is in
      let is' = ap (λ (x : Index). x.blocks) o'.index_is in
      let low = nodes_above first _ _ ns o.are_nodes in
      let low' = nodes_above second _ _ ms o'.are_nodes in
      let one = nodes_in_order ns ms names low low' (λ h. sym (ap (times h) is) ∙ same h ∙ ap (times h) is') (subst (λ es. AreEntries first es names) (ap (λ (x : Index). x.entries) o.index_is) e)
      (subst (λ es. AreEntries second es names) (ap (λ (x : Index). x.entries) o'.index_is) e') once
      (λ m i. entries (λ z. absurd (omega (arith, z))) m (each_in ns m low i) (subst (λ bs. 1 ≤ times (block_of m) bs) (sym is) (in_blocks ns m i))) in
      is ∙ ap (map block_of) one ∙ sym is'
    where
      each_in : (ns : List ℕ) (m : ℕ) → AllByRecursion (λ n. 16 ≤ n) ns → In m ns → 16 ≤ m
      each_in [] m a i = absurd i
      each_in (n ∷ ns) m a (inl e) = omega (arith, a.0, e)
      each_in (n ∷ ns) m a (inr i) = each_in ns m a.1 i

      in_blocks : (ns : List ℕ) (m : ℕ) → In m ns → 1 ≤ times (block_of m) (map block_of ns)
      in_blocks [] m i = absurd i
      in_blocks (n ∷ ns) m (inl e) = subst (λ k. 1 ≤ times (block_of m) (block_of k ∷ map block_of ns)) e (omega (arith, times-same (block_of m) (map block_of ns)))
      in_blocks (n ∷ ns) m (inr i) = omega (arith, in_blocks ns m i, times-more (block_of m) (block_of n) (map block_of ns))

-- ---- the entries of nodes that are kept

pub node_there : (ns : List ℕ) (node : ℕ) {bytes : List ℕ} (tag each : ℕ) → AreNodes bytes tag each ns → 16 ≤ node → 1 ≤ times (block_of node) (map block_of ns) → IsBlock bytes node tag each × In node ns
node_there [] node tag each a low l = absurd (omega (arith, l))
node_there (n ∷ ns) node {bytes = bytes} tag each a low l = go (node_there ns node tag each a.1 low) (cases_eq (block_of n) (block_of node))
  where
    go : (1 ≤ times (block_of node) (map block_of ns) → IsBlock bytes node tag each × In node ns) → (block_of n ≡ block_of node) ⊎ (block_of n ≢ block_of node) → IsBlock bytes node tag each × In node (n ∷ ns)
    go later (inl e) = (let same : n ≡ node = omega (arith, e, low, a.0.after_header) in (subst (λ m. IsBlock bytes m tag each) same a.0, inl (sym same)))
    go later (inr other) = (let r = later (omega (arith, l, times-other (block_of node) (block_of n) (map block_of ns) other)) in (r.0, inr r.1))

-- the index of an image as a tree
pub record TreeIndex (bytes : List ℕ) (p : Picture) (held : IsHeld bytes p) : Type 0 where
  pub nodes : List ℕ
  pub blocks_are : held.index_blocks ≡ map block_of nodes
  pub are_nodes : AreNodes bytes (tag_of Kind.index_node 0) index_node_size nodes
  pub entries : AreEntries bytes (map (λ n. n + tree_words) nodes) p.names

pub tree_index : (bytes : List ℕ) (p : Picture) (held : IsHeld bytes p) → (word bytes index_kind_word ≡ 0 → ⊥) → TreeIndex bytes p held
tree_index bytes p held tree = by (word bytes index_kind_word) tree held.laid_out.names.index held.laid_out.names.opens held.laid_out.names.blocks_are held.laid_out.names.entries
  where
    by : (kind : ℕ) → (kind ≡ 0 → ⊥) → (index : Index) → OpensIndex bytes kind index → held.index_blocks ≡ index.blocks → AreEntries bytes index.entries p.names → TreeIndex bytes p held
    by zero tree index o is e = absurd (tree refl)
    by (suc k) tree index o is e = record {
      nodes = nodes_of o.tree;
      blocks_are = is ∙ ap (λ (x : Index). x.blocks) o.index_is;
      are_nodes = o.are_nodes;
      entries = subst (λ es. AreEntries bytes es p.names) (ap (λ (x : Index). x.entries) o.index_is) e;
    }

-- a node of the index that is kept has the same entry
pub entry_kept : (old new : List ℕ) (p : Picture) (held : IsHeld old p) → (word old index_kind_word ≡ 0 → ⊥) → (node : ℕ) → 16 ≤ node → 1 ≤ times (block_of node) held.index_blocks → KeepsBlock old new (block_of node)
    → target new (node + tree_words) ≡ target old (node + tree_words)
entry_kept old new p held tree node low some k =
    let t = tree_index old p held tree in
    let n = node_there t.nodes node _ _ t.are_nodes low (subst (λ bs. 1 ≤ times (block_of node) bs) t.blocks_are some) in
    let same = payload-same old new node _ index_node_size k n.0 in
    target-same old new (node + tree_words) (IsSame-part old new node index_node_size (node + tree_words) 4 (omega arith) (omega arith) same)

-- alike images have the same entries
pub entries_alike : {others : List Root} {places first second : List ℕ} (alike : AreAlike others places first second) → (word first index_kind_word ≡ 0 → ⊥) → SameEntries first second alike.held.index_blocks
entries_alike {first = first} {second = second} alike tree node low some =
    let kinds : word second index_kind_word ≡ word first index_kind_word = word-same first second index_kind_word (IsSame-part first second 0 24 index_kind_word 4 (omega arith) (omega arith) alike.front_same) in
    let t = tree_index first alike.picture alike.held tree in
    let u = tree_index second alike.picture alike.held_too (λ e. tree (sym kinds ∙ e)) in
    let nodes : u.nodes ≡ t.nodes = nodes_one u.nodes t.nodes (nodes_above second _ _ u.nodes u.are_nodes) (nodes_above first _ _ t.nodes t.are_nodes) (sym u.blocks_are ∙ alike.index_same ∙ t.blocks_are) in
    let n = node_there t.nodes node _ _ t.are_nodes low (subst (λ bs. 1 ≤ times (block_of node) bs) t.blocks_are some) in
    one t.nodes alike.picture.names n.1 t.entries (subst (λ ns. AreEntries second (map (λ n. n + tree_words) ns) alike.picture.names) nodes u.entries)
  where
    one : (ns : List ℕ) (names : List Root) → In node ns → AreEntries first (map (λ n. n + tree_words) ns) names → AreEntries second (map (λ n. n + tree_words) ns) names → target second (node + tree_words) ≡ target first (node + tree_words)
    one [] names i e f = absurd i
    one (n ∷ ns) [] i e f = absurd e
    one (n ∷ ns) (r ∷ names) (inl same) e f = subst (λ k. target second (k + tree_words) ≡ target first (k + tree_words)) (sym same) (f.0.points ∙ sym e.0.points)
    one (n ∷ ns) (r ∷ names) (inr i) e f = one ns names i e.1 f.1

-- ---- two images with the same roots

module _ {others : List Root} {s t : State} {first second : List ℕ} (p : Pictures others s first) (q : Pictures others t second) where
  -- what the two images have in common, besides the blocks of the index
  pub record InCommon : Type 0 where
    pub length_same : length second ≡ length first
    pub front_same : KeepsFront first second
    pub next_same : word second next_word ≡ word first next_word
    pub live_same : live second ≡ live first
    pub tables : p.picture.table ≡ q.picture.table
    pub names : p.picture.names ≡ q.picture.names
    pub uniques : p.picture.uniques ≡ q.picture.uniques
    pub owned : p.owned ≡ q.owned
    pub order : Reordered p.picture.frozen q.picture.frozen
    pub entries : (word first index_kind_word ≡ 0 → ⊥) → SameEntries first second p.held.index_blocks
    pub roots : AllByRecursion (AlikeRoot first second p.picture.table) (roots_of p.picture)

  pub alike_after : InCommon → AreAlike others (places_of p.owned) first second
  alike_after c =
      let loose : p.picture.loose ≡ q.picture.loose = p.loose ∙ ap (λ rs. others ++ rs) c.owned ∙ sym q.loose in
      let held = held_as p q c.tables c.names c.uniques loose c.order in
      let same = index_blocks_same p q c.tables c.names c.uniques loose c.order c.roots c.live_same in
      let n = p.held.laid_out.names in
      let m = held.0.laid_out.names in
      let kinds : word second index_kind_word ≡ word first index_kind_word = word-same first second index_kind_word (IsSame-part first second 0 24 index_kind_word 4 (omega arith) (omega arith) c.front_same) in
      let mine : p.held.index_blocks ≡ n.index.blocks = n.blocks_are in
      let theirs : held.0.index_blocks ≡ m.index.blocks = m.blocks_are in
      let one : n.index.blocks ≡ m.index.blocks = one_index first second (word first index_kind_word) n.index m.index p.picture.names n.opens (subst (λ k. OpensIndex second k m.index) kinds m.opens) n.entries m.entries
      (λ h. sym (ap (times h) mine) ∙ same h ∙ ap (times h) (sym held.1 ∙ theirs)) (names_once first p.picture p.held) (λ k. subst (SameEntries first second) mine (c.entries k)) in
      record {
        length_same = c.length_same;
        front_same = c.front_same;
        next_same = c.next_same;
        live_same = c.live_same;
        picture = p.picture;
        held = p.held;
        held_too = held.0;
        counted = p.counted;
        index_same = theirs ∙ sym one ∙ sym mine;
        own = p.owned;
        loose = p.loose;
        owned_are = refl;
        roots = c.roots;
      }
