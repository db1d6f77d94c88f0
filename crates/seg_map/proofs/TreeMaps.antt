-- A map as a tree with its keys and values, in the terms of the calls on nodes.
use Rattle.std.proofs.Common.{◌≡◌, ℕ, ◌+◌, ◌*◌, ◌%◌, ◌^◌, ◌<◌, ◌≤◌, ℤ, true, List, [], ◌∷◌, ◌++◌, zero, suc, length, map, Option, Some, None, MatchOption, option_map, refl, sym, ap, ◌∙◌, subst, arith}
use Rattle.std.specs.Prelude.{slice_get, IfSome}
use Rattle.std.proofs.lemmas.List.{length-map}
use Rattle.std.specs.List.{AllByRecursion}
use Rattle.std.specs.Ordering.{int_cmp, is_eq, is_lt}
use Rattle.std.specs.declared.cmp.Ordering.TheVariants.{Greater}
use Rattle.seg_spec.specs.Bytes.{signed_long}
use Rattle.seg_spec.specs.Types.{Form, Table, form_at, size}
use Rattle.seg_spec.specs.Value.{Label, Value, Values, Map, Selector, IsAscending}
use Rattle.seg_spec.specs.Heap.{Span, live, heap_start, units_at}
use Rattle.seg_spec.specs.Block.{IsBlock, Kind, tag_of, block_of}
use Rattle.seg_spec.specs.Shapes.{Tree, nodes_of}
use Rattle.seg_spec.specs.Search.{Ascend, IsSearchTree, first_where, reaches}
use Rattle.seg_spec.specs.Items.{key_place}
use Rattle.seg_spec.specs.Reads.{Place, Opened, keys_at, places_of, AreNodes, OpensTree, Opens, Holds, holds, HoldsEach, Leads, here, into}
use Rattle.seg_spec.specs.Sound.{times, positions}
use Rattle.seg_spec.specs.Owning.{Stands}
use Rattle.seg_spec.proofs.Values.PlaceFrameLaws.{each_weaker}
use Rattle.seg_spec.proofs.Heap.LiveBlockLaws.{times-append, times-same, times-more, there, LiesIn, live-lie}
use Rattle.seg_spec.proofs.Values.PlaceWriteLaws.{owned_live}
use Rattle.seg_spec.proofs.Heap.BlockCountLaws.{no_more, few_live}
use Rattle.seg_spec.proofs.Values.PathFrameLaws.{each_at}
use Rattle.seg_rbtree.specs.Sides.{last_where}
use Rattle.seg_cells.specs.Entries.{IsEntryOf}
use Rattle.seg_cells.specs.declared.entry.Entry.{Entry}
use Rattle.seg_map.specs.declared.key_value.KeyValue.{KeyValue}
use Rattle.seg_map.specs.Maps.{FindsValue, FindsEntry, value_of, first_of, last_of, keys_above, lower_keys}
use Rattle.seg_map.proofs.KeyOrder.{ascend_of, found, AtPlace, HasNode, first_there, last_there, own_place, first_found, next_found, last_found, previous_found}

-- the key of a node
abbrev pub key_at : List ℕ → ℕ → ℤ
key_at bytes node = signed_long bytes ((node + 16) % 2 ^ 32)

-- the positions of nodes don't wrap
abbrev pub AreLow : List ℕ → Type 0
AreLow nodes = AllByRecursion (λ p. p + 8192 < 2 ^ 32) nodes

pub keys_low : (bytes : List ℕ) (nodes : List ℕ) → AreLow nodes → keys_at bytes (map (λ p. p + 16) nodes) ≡ map (key_at bytes) nodes
keys_low bytes [] h = refl
keys_low bytes (p ∷ ps) h =
    let at : p + 16 ≡ (p + 16) % 2 ^ 32 = let l = h.0 in omega arith in
    let one : signed_long bytes (p + 16) ≡ signed_long bytes ((p + 16) % 2 ^ 32) = ap (signed_long bytes) at in
    let rest = keys_low bytes ps h.1 in
    ap (λ k. k ∷ keys_at bytes (map (λ p. p + 16) ps)) one ∙ ap (λ ks. key_at bytes p ∷ ks) rest

-- a place contains a map as a tree, with these keys, values and blocks
pub record IsTreeMap (bytes : List ℕ) (table : Table) (place : Place) (U : ℕ) (keys : List ℤ) (vs : Values) (blocks : List ℕ) : Type 0 where
  pub opened : Opened
  pub opens : OpensTree bytes table place.at (tag_of Kind.node place.type) U opened
  pub keys_are : keys ≡ keys_at bytes (map (λ p. p + 16) (nodes_of opens.tree))
  pub owned : List ℕ
  pub each : HoldsEach bytes table (places_of U (map (λ p. p + 24) (nodes_of opens.tree))) vs owned
  pub blocks_are : blocks ≡ map block_of (nodes_of opens.tree) ++ owned

pub same_form : (f g : Form) → Some f ≡ Some g → f ≡ g
same_form f g e = cc

values_of : Value → Values
values_of (Value.node l vs) = vs

label_of : Value → Label
label_of (Value.node l vs) = l

same_keys : (a b : List ℤ) → Label.map a ≡ Label.map b → a ≡ b
same_keys a b e = cc

map_by : (bytes : List ℕ) (table : Table) (place : Place) (U : ℕ) (keys : List ℤ) (vs : Values) (blocks : List ℕ) (opened : Opened) (inside : Values) (owned : List ℕ) → OpensTree bytes table place.at (tag_of Kind.node place.type) U opened
    → HoldsEach bytes table opened.parts inside owned → Map keys vs ≡ Value.node opened.label inside → blocks ≡ opened.blocks ++ owned → IsTreeMap bytes table place U keys vs blocks
unfolding values_of label_of
map_by bytes table place U keys vs blocks opened inside owned o hs v_is blocks_is =
    let inside_is : vs ≡ inside = ap values_of v_is in
    let label_is : Label.map keys ≡ opened.label = ap label_of v_is in
    let parts = ap (λ (r : Opened). r.parts) o.opened_is in
    record {
      opened = opened;
      opens = o;
      keys_are = same_keys keys (keys_at bytes (map (λ p. p + 16) (nodes_of o.tree))) (label_is ∙ ap (λ (r : Opened). r.label) o.opened_is);
      owned = owned;
      each = subst (λ ws. HoldsEach bytes table (places_of U (map (λ p. p + 24) (nodes_of o.tree))) ws owned) (sym inside_is) (subst (λ ps. HoldsEach bytes table ps inside owned) parts hs);
      blocks_are = blocks_is ∙ ap (λ bs. bs ++ owned) (ap (λ (r : Opened). r.blocks) o.opened_is);
    }

pub tree_map : (bytes : List ℕ) (table : Table) (place : Place) (U : ℕ) (keys : List ℤ) (vs : Values) (blocks : List ℕ) → form_at table place.type ≡ Some (Form.map U) → Holds bytes table place (Map keys vs) blocks
    → IsTreeMap bytes table place U keys vs blocks
tree_map bytes table place U keys vs blocks f (holds form opened inside owned g o hs v_is blocks_is) =
    let same = same_form form (Form.map U) (sym g ∙ f) in
    let o' : Opens bytes table place (Form.map U) opened = subst (λ h. Opens bytes table place h opened) same o in
    map_by bytes table place U keys vs blocks opened inside owned o' hs v_is blocks_is

-- ---- the state in which calls begin

pub mapped_at : {X Y : Type 0} (g : X → Y) (xs : List X) (i : ℕ) (x : X) → slice_get xs i ≡ Some x → slice_get (map g xs) i ≡ Some (g x)
mapped_at g [] i x e = cc
mapped_at g (y ∷ xs) zero x e = let same : y ≡ x = cc in ap (λ z. Some (g z)) same
mapped_at g (y ∷ xs) (suc i) x e = mapped_at g xs i x e

module _ (allocator : ℕ) (bytes : List ℕ) (table : Table) (place : Place) (U : ℕ) (keys : List ℤ) (vs : Values) (blocks : List ℕ) (f : form_at table place.type ≡ Some (Form.map U)) (s : Stands allocator bytes table place
    (Map keys vs) blocks) where
  pub its : IsTreeMap bytes table place U keys vs blocks
  its = tree_map bytes table place U keys vs blocks f s.holds_it

  abbrev pub nodes : List ℕ
  nodes = nodes_of its.opens.tree

  -- a node is the payload of an allocated block
  pub record IsNode (p : ℕ) : Type 0 where
    pub after_header : 16 ≤ p
    pub owned : 1 ≤ times (block_of p) blocks
    pub is_live : 1 ≤ times (block_of p) (positions (live bytes))
    pub end : block_of p + 16 * units_at bytes (block_of p) ≤ length bytes
    pub room : p + (24 + size table U) ≤ block_of p + 16 * units_at bytes (block_of p)

  node_by : (p : ℕ) → IsBlock bytes p (tag_of Kind.node place.type) (24 + size table U) → 1 ≤ times (block_of p) blocks → IsNode p
  node_by p b mine =
      let is_live = owned_live allocator bytes table place (Map keys vs) blocks s (block_of p) mine in
      let l = there (LiesIn bytes heap_start (length bytes)) (block_of p) (positions (live bytes)) (live-lie bytes allocator s.heap) is_live in
      let size = l.size in
      let room = b.room in
      let low = b.after_header in
      record { after_header = b.after_header; owned = mine; is_live = is_live; end = l.high; room = omega arith }

  each_node : (ns : List ℕ) → AreNodes bytes (tag_of Kind.node place.type) (24 + size table U) ns → ((h : ℕ) → 1 ≤ times h (map block_of ns) → 1 ≤ times h blocks) → AllByRecursion IsNode ns
  each_node [] a o = tt
  each_node (p ∷ ps) a o = (node_by p a.0 (o (block_of p) (omega (arith, times-same (block_of p) (map block_of ps)))), each_node ps a.1 (λ h some. o h (omega (arith, times-more h (block_of p) (map block_of ps)))))

  pub are_nodes : AllByRecursion IsNode nodes
  are_nodes = each_node nodes its.opens.are_nodes (λ h some. let n = times-append h (map block_of nodes) its.owned in let e : times h blocks ≡ times h (map block_of nodes ++ its.owned) = ap (times h) its.blocks_are in omega arith)

  pub low : AreLow nodes
  low = each_weaker _ _ (λ p n. let end = n.end in let room = n.room in let small = s.heap.small in omega arith) nodes are_nodes

  pub keys_are : keys ≡ map (key_at bytes) nodes
  keys_are = its.keys_are ∙ keys_low bytes nodes low

  pub ascend : Ascend (λ x y. int_cmp (key_at bytes x) (key_at bytes y)) nodes
  ascend = ascend_of (key_at bytes) nodes (subst IsAscending (keys_low bytes nodes low) its.opens.ascending)

  pub few_nodes : heap_start + 32 * length nodes ≤ length bytes
  few_nodes =
      let n = no_more (map block_of nodes) (positions (live bytes)) (λ h. let o = s.owned h in let m = times-more h s.home blocks in let e : times h blocks ≡ times h (map block_of nodes ++ its.owned) = ap (times h) its.blocks_are in
      let k = times-append h (map block_of nodes) its.owned in omega arith) in
      omega (arith, few_live allocator bytes s.heap, length-map (live bytes) (λ (b : Span). b.at), length-map nodes block_of)

  pub is_search_tree : IsSearchTree bytes place.at its.opens.tree
  is_search_tree = record { is_tree = its.opens.is_tree; red_black = its.opens.red_black; few = let n = few_nodes in let small = s.heap.small in omega arith }

  -- the value of a key is in the key's node
  pub leads_to : (key : ℤ) (node : ℕ) → AtPlace (key_at bytes) key nodes node → Leads bytes table place (Selector.key key ∷ []) (value_of U (node + 24))
  leads_to key node a =
      let o' : Opens bytes table place (Form.map U) its.opened = its.opens in
      let label = ap (λ (r : Opened). r.label) its.opens.opened_is in
      let parts = ap (λ (r : Opened). r.parts) its.opens.opened_is in
      into (Form.map U) its.opened a.i (value_of U (node + 24)) f o'
      (rw label (ap (λ ks. key_place ks key) (keys_low bytes nodes low) ∙ a.place_is))
      (rw parts (mapped_at (value_of U) (map (λ p. p + 24) nodes) a.i (node + 24) (mapped_at (λ p. p + 24) nodes a.i node a.node_is))) here

  -- the node of a search, if there is one, is among the nodes, and has this key
  pub record FindsNode (key : Option ℤ) (node : Option ℕ) : Type 0 where
    pub key_is : option_map (key_at bytes) node ≡ key
    pub there : IfSome node (HasNode nodes)

  pub no_entry : (key : Option ℤ) → FindsNode key None → FindsEntry bytes table place U key None
  no_entry key h = record { key_is = h.key_is; leads = tt }

  -- the entry of a node, as the code computes the position of its value
  pub entry_of : (entry : Entry) (key : Option ℤ) (node : ℕ) (found : KeyValue) → IsEntryOf table 24 U entry → found.key ≡ key_at bytes node → found.value ≡ (node + entry.before) % 2 ^ 32
      → FindsNode key (Some node) → FindsEntry bytes table place U key (Some found)
  entry_of entry key node found e key_same value_is h =
      let small = each_at (λ p. p + 8192 < 2 ^ 32) nodes h.there.i node low h.there.node_is in
      let at : found.value ≡ node + 24 = let before = e.before_is in omega arith in
      record {
        key_is = ap Some key_same ∙ h.key_is;
        leads = rw (key_same, at) (leads_to (key_at bytes node) node (own_place (key_at bytes) nodes ascend h.there.i node h.there.node_is));
      }

  -- ---- the results of searches

  module _ (now : List ℕ) (root : ℕ) (same : now ≡ bytes) (root_is : root ≡ place.at) where
    there_too : IsSearchTree now root its.opens.tree
    there_too = rw (same, root_is) is_search_tree

    in_order : Ascend (λ x y. int_cmp (key_at now x) (key_at now y)) nodes
    in_order = rw same ascend

    pub first_is : (o : Option ℕ) → ((shape : Tree) → IsSearchTree now root shape → o ≡ first_where (λ x. true) (nodes_of shape)) → FindsNode (first_of keys) o
    first_is o e =
        let found_there : o ≡ first_where (λ x. true) nodes = e its.opens.tree there_too in
        record {
          key_is = ap (option_map (key_at bytes)) found_there ∙ first_found (key_at bytes) nodes ∙ ap first_of (sym keys_are);
          there = rw found_there (first_there (λ x. true) nodes);
        }

    pub next_is : (after : ℤ) (o : Option ℕ) → ((shape : Tree) → IsSearchTree now root shape → Ascend (λ x y. int_cmp (key_at now x) (key_at now y)) (nodes_of shape)
        → o ≡ first_where (λ x. reaches Greater (int_cmp (key_at now x) after)) (nodes_of shape)) → FindsNode (first_of (keys_above keys after)) o
    next_is after o e =
        let found_there : o ≡ first_where (λ x. reaches Greater (int_cmp (key_at bytes x) after)) nodes = e its.opens.tree there_too in_order ∙ ap (λ bs. first_where (λ x. reaches Greater (int_cmp (key_at bs x) after)) nodes) same in
        record {
          key_is = ap (option_map (key_at bytes)) found_there ∙ next_found (key_at bytes) after nodes ∙ ap (λ ks. first_of (keys_above ks after)) (sym keys_are);
          there = rw found_there (first_there (λ x. reaches Greater (int_cmp (key_at bytes x) after)) nodes);
        }

    pub last_is : (o : Option ℕ) → ((shape : Tree) → IsSearchTree now root shape → o ≡ last_where (λ x. true) (nodes_of shape)) → FindsNode (last_of keys) o
    last_is o e =
        let found_there : o ≡ last_where (λ x. true) nodes = e its.opens.tree there_too in
        record {
          key_is = ap (option_map (key_at bytes)) found_there ∙ last_found (key_at bytes) nodes ∙ ap last_of (sym keys_are);
          there = rw found_there (last_there (λ x. true) nodes);
        }

    pub previous_is : (before : ℤ) (o : Option ℕ) → ((shape : Tree) → IsSearchTree now root shape → Ascend (λ x y. int_cmp (key_at now x) (key_at now y)) (nodes_of shape)
        → o ≡ last_where (λ x. is_lt (int_cmp (key_at now x) before)) (nodes_of shape)) → FindsNode (last_of (lower_keys keys before)) o
    previous_is before o e =
        let found_there : o ≡ last_where (λ x. is_lt (int_cmp (key_at bytes x) before)) nodes = e its.opens.tree there_too in_order ∙ ap (λ bs. last_where (λ x. is_lt (int_cmp (key_at bs x) before)) nodes) same in
        record {
          key_is = ap (option_map (key_at bytes)) found_there ∙ previous_found (key_at bytes) before nodes ∙ ap (λ ks. last_of (lower_keys ks before)) (sym keys_are);
          there = rw found_there (last_there (λ x. is_lt (int_cmp (key_at bytes x) before)) nodes);
        }

    value_by : (key : ℤ) (o : Option ℕ) → MatchOption o (key_place (map (key_at bytes) nodes) key ≡ None) (AtPlace (key_at bytes) key nodes)
        → FindsValue bytes table place U keys key (option_map (λ node. node + 24) o)
    value_by key None h = ap (λ ks. key_place ks key) keys_are ∙ h
    value_by key (Some node) h = leads_to key node h

    pub value_is : (key : ℤ) (o : Option ℕ) → ((shape : Tree) → IsSearchTree now root shape → Ascend (λ x y. int_cmp (key_at now x) (key_at now y)) (nodes_of shape)
        → o ≡ first_where (λ x. is_eq (int_cmp (key_at now x) key)) (nodes_of shape)) → FindsValue bytes table place U keys key (option_map (λ node. node + 24) o)
    value_is key o e =
        let found_there : o ≡ first_where (λ x. is_eq (int_cmp (key_at bytes x) key)) nodes = e its.opens.tree there_too in_order ∙ ap (λ bs. first_where (λ x. is_eq (int_cmp (key_at bs x) key)) nodes) same in
        value_by key o (subst (λ r. MatchOption r (key_place (map (key_at bytes) nodes) key ≡ None) (AtPlace (key_at bytes) key nodes)) (sym found_there) (found (key_at bytes) key nodes))

    low_by : (key : ℤ) (o : Option ℕ) (node : ℕ) → o ≡ Some node → MatchOption o (key_place (map (key_at bytes) nodes) key ≡ None) (AtPlace (key_at bytes) key nodes) → node + 8192 < 2 ^ 32
    low_by key None node e h = cc
    low_by key (Some x) node e h = let same : x ≡ node = cc in subst (λ y. y + 8192 < 2 ^ 32) same (each_at (λ p. p + 8192 < 2 ^ 32) nodes h.i x low h.node_is)

    pub value_low : (key : ℤ) (node : ℕ) → ((shape : Tree) → IsSearchTree now root shape → Ascend (λ x y. int_cmp (key_at now x) (key_at now y)) (nodes_of shape)
        → Some node ≡ first_where (λ x. is_eq (int_cmp (key_at now x) key)) (nodes_of shape)) → node + 8192 < 2 ^ 32
    value_low key node e =
        let found_there : Some node ≡ first_where (λ x. is_eq (int_cmp (key_at bytes x) key)) nodes = e its.opens.tree there_too in_order ∙ ap (λ bs. first_where (λ x. is_eq (int_cmp (key_at bs x) key)) nodes) same in
        low_by key (first_where (λ x. is_eq (int_cmp (key_at bytes x) key)) nodes) node (sym found_there) (found (key_at bytes) key nodes)
