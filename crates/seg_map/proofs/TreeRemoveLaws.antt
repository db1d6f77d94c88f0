-- The map after a key was removed from a tree, from how the steps change the bytes.
use Rattle.std.proofs.Common.{◌≡◌, ◌≢◌, ℕ, ◌+◌, ◌-◌, ◌*◌, ◌%◌, ◌^◌, true, false, ℤ, List, [], ◌∷◌, length, Some, refl, ap, ◌∙◌, subst, arith}
use Rattle.std.specs.List.{AllByRecursion}
use Rattle.std.specs.Ordering.{int_cmp, ordering_reverse}
use Rattle.std.specs.declared.cmp.Ordering.{Ordering}
use Rattle.std.specs.declared.cmp.Ordering.TheVariants.{Equal}
use Rattle.seg_spec.specs.Bytes.{set_word}
use Rattle.seg_spec.specs.Types.{Form, Table, form_at}
use Rattle.seg_spec.specs.Value.{Value, Values, Map, nth, default_of}
use Rattle.seg_spec.specs.Heap.{IsHeap, IsLive, Gives}
use Rattle.seg_spec.specs.Block.{block_of}
use Rattle.seg_spec.specs.Shapes.{Tree, nodes_of}
use Rattle.seg_spec.specs.Search.{IsSearchTree}
use Rattle.seg_spec.specs.Items.{key_place}
use Rattle.seg_spec.specs.Reads.{Place, count_at}
use Rattle.seg_spec.specs.Owning.{Stands}
use Rattle.seg_spec.specs.Shared.{named_in}
use Rattle.seg_spec.specs.Clearing.{SharedBeside, BesideShared, ClearsPlace}
use Rattle.seg_rbtree.specs.declared.path.Path.{Path}
use Rattle.seg_rbtree.specs.Ways.{LeadsTo}
use Rattle.seg_rbtree.specs.Paths.{node_at}
use Rattle.seg_rbtree.specs.Changes.{StandApart, without_node, Leaves}
use Rattle.seg_map.specs.Maps.{TakesKey, RemovesKey, value_of}
use Rattle.seg_map.specs.Trees.{KeepsOtherKeys}
use Rattle.seg_map.proofs.KeyOrder.{Around}
use Rattle.seg_map.proofs.TreeMaps.{key_at, its, nodes, is_search_tree}
use Rattle.seg_map.proofs.TreePutLaws.{no_key, key_there, node_low}
use Rattle.seg_map.proofs.NodeRemovalLaws.{nodes_apart, k, value_is, value_stands, value_beside, takes_key}

-- what removing the node at the end of a path ensures
abbrev pub TakesFrom : List ℕ → List ℕ → ℕ → Path → Type 0
TakesFrom old new root path = (turn : ℕ → Ordering) (node : ℕ) (shape : Tree) → IsSearchTree old root shape → LeadsTo turn shape path → node_at old path ≡ Some node → StandApart (length old) root (nodes_of shape)
    → Leaves old new root (nodes_of shape) (without_node node (nodes_of shape))

module _ (allocator : ℕ) (old : List ℕ) (table : Table) (place : Place) (U : ℕ) (keys : List ℤ) (vs : Values) (blocks : List ℕ) (f : form_at table place.type ≡ Some (Form.map U)) (s : Stands allocator old table place
    (Map keys vs) blocks) (key : ℤ) where
  abbrev the_nodes : List ℕ
  the_nodes = nodes allocator old table place U keys vs blocks f s

  abbrev shape : Tree
  shape = (its allocator old table place U keys vs blocks f s).opens.tree

  -- if the map lacks the key, nothing changes
  pub removes_none : AllByRecursion (λ x. int_cmp (key_at old x) key ≢ Equal) the_nodes → RemovesKey old old table place keys vs s.home blocks (KeepsOtherKeys old old table place key) (key_place keys key) false
  removes_none absent = rw (no_key allocator old table place U keys vs blocks f s key absent) (refl, refl)

  module _ (node : ℕ) (a : Around (key_at old) key the_nodes node) where
    -- If the map has the key, the key is removed, for any frozen objects. Paths through other keys
    -- still reach the same places.
    abbrev pub Takes : List ℕ → Type 0
    Takes new = (v : Value) → nth vs (length a.front) ≡ Some v
        → BesideShared old table (s.home ∷ blocks) (named_in v) (TakesKey old new table place keys vs blocks (KeepsOtherKeys old new table place key) (length a.front))

    pub taken_out : (three mid cleared new now before_it : List ℕ) (here : Table) (n count each before root at type : ℕ) (path : Path) → now ≡ old → before_it ≡ old → root ≡ place.at → path.root ≡ root
        → ((tree : Tree) → IsSearchTree now root tree → LeadsTo (λ x. ordering_reverse (int_cmp (key_at now x) key)) tree path) → node_at now path ≡ Some node → TakesFrom before_it three path.root path
        → mid ≡ set_word three (place.at + 4) n → n ≡ count - 1 → count ≡ count_at three place.at → here ≡ table → at ≡ (node + 0 * each + before) % 2 ^ 32 → before ≡ 24 → type ≡ U
        → ((v : Value) (zs : List ℕ) (st : Stands allocator mid here (value_of type at) v zs) → BesideShared mid here (st.home ∷ zs) (named_in v) (ClearsPlace mid cleared here (value_of type at) (default_of here type) zs []))
        → (IsHeap allocator cleared → IsLive cleared (block_of node) → Gives allocator cleared new (block_of node)) → Takes new
    taken_out three mid cleared new now before_it here n count each before root at type path same same_too root_is path_root leads node_is taken mid_is n_is count_is here_is at_is before_is type_is clears gives v stands_at theirs kept
        objects final beside =
        let leads_at : List ℕ → ℕ → Type 0 = λ bs r. (tree : Tree) → IsSearchTree bs r tree → LeadsTo (λ x. ordering_reverse (int_cmp (key_at bs x) key)) tree path in
        let leads' : leads_at old place.at = subst (λ r. leads_at old r) root_is (subst (λ bs. leads_at bs root) same leads) in
        let taken' : TakesFrom old three place.at path = subst (λ r. TakesFrom old three r path) (path_root ∙ root_is) (subst (λ bs. TakesFrom bs three path.root path) same_too taken) in
        let search = is_search_tree allocator old table place U keys vs blocks f s in
        let there_is : node_at old path ≡ Some node = subst (λ bs. node_at bs path ≡ Some node) same node_is in
        let l = taken' (λ x. ordering_reverse (int_cmp (key_at old x) key)) node shape search (leads' shape search) there_is (nodes_apart allocator old table place U keys vs blocks f s key node a) in
        let position : at ≡ node + 24 = let low = node_low allocator old table place U keys vs blocks f s key node a in omega arith in
        let Clears : Table → ℕ → ℕ → Type 0 = λ t T p. (v : Value) (zs : List ℕ) (st : Stands allocator mid t (value_of T p) v zs) →
        BesideShared mid t (st.home ∷ zs) (named_in v) (ClearsPlace mid cleared t (value_of T p) (default_of t T) zs []) in
        let clears' : Clears table U (node + 24) = subst (λ p. Clears table U p) position (subst (λ T. Clears table T at) type_is (subst (λ t. Clears t type at) here_is clears)) in
        let less : n ≡ count_at three place.at - 1 = n_is ∙ ap (λ c. c - 1) count_is in
        let its_value = k allocator old table place U keys vs blocks f s key node a in
        let stands = value_stands allocator old table place U keys vs blocks f s key node a three mid n l mid_is less in
        let beside' = subst (λ u. SharedBeside old table (s.home ∷ blocks) (named_in u) theirs kept objects final) (value_is allocator old table place U keys vs blocks f s key node a v stands_at) beside in
        let c = clears' its_value.value its_value.zs stands theirs kept objects final
        (value_beside allocator old table place U keys vs blocks f s key node a three mid n l mid_is less theirs kept objects final beside') in
        takes_key allocator old table place U keys vs blocks f s key node a three mid n l mid_is less theirs kept objects final beside' cleared new c gives

    pub removes_one : (new : List ℕ) → Takes new → RemovesKey old new table place keys vs s.home blocks (KeepsOtherKeys old new table place key) (key_place keys key) true
    removes_one new t = rw (key_there allocator old table place U keys vs blocks f s key node a) (refl, t)
