-- A list without one of its items, for any frozen objects, and paths from the other items.
use Rattle.std.proofs.Common.{◌≡◌, ℕ, zero, suc, ◌+◌, ◌-◌, ◌%◌, ◌^◌, ◌<◌, ◌≤◌, ⊎_elim, true, false, eqb, ltb, cond, List, [], ◌∷◌, ◌++◌, length, map, Option, Some, None, refl, sym, ap, ◌∙◌, subst, arith}
use Rattle.std.specs.Prelude.{slice_get, option_to_list}
use Rattle.std.specs.Option.{IfSome}
use Rattle.std.proofs.lemmas.Bool.{cases_eq, cases_lt}
use Rattle.std.proofs.lemmas.Bool.Decides.{nat_tests}
use Rattle.seg_spec.specs.Types.{Form, Table, form_at, size}
use Rattle.seg_spec.specs.Value.{Value, Values, nth, count, append, default_of, Seq, Selector}
use Rattle.seg_spec.specs.Items.{remove_nth}
use Rattle.seg_spec.specs.Heap.{IsHeap, IsLive, Gives}
use Rattle.seg_spec.specs.Block.{Kind, tag_of, block_of}
use Rattle.seg_spec.specs.Reads.{Place, AreNodes, HoldsEach, Leads, here}
use Rattle.seg_spec.specs.Parts.{KeepsParts}
use Rattle.seg_spec.specs.Owning.{Stands}
use Rattle.seg_spec.specs.Frozen.{Frozen}
use Rattle.seg_spec.specs.Shared.{named_in}
use Rattle.seg_spec.specs.Clearing.{SharedBeside, BesideShared, ClearsPlace}
use Rattle.seg_spec.proofs.Heap.LiveBlockLaws.{times-same, times-append, there}
use Rattle.seg_spec.proofs.Values.PathSplitLaws.{nth-append}
use Rattle.seg_seq.specs.Rings.{AreSpread, HasRing, Relinks}
use Rattle.seg_seq.specs.Lists.{MovesItems, without_index, RemovesItem, LosesItem}
use Rattle.seg_seq.proofs.ListNodeLaws.{values_in, value_in, value_at_index, ListOf, list_of, opened_of, opens_list, leads_on, item_leads, index_front, index_after, list_parts}
use Rattle.seg_seq.proofs.NodeRemovalLaws.{SplitAt, split_at, remove_nth-append, dropped_spread, item_stands, item_beside, two_heap, node_live_still}
use Rattle.seg_seq.proofs.NodeRemovalLaws.{list_new, new_nodes, dropped_blocks, dropped, lefts_lead, rights_lead, lefts_stay, rights_stay}

-- ---- lists of nodes

pub record NodeSplit (nodes : List ℕ) (j node : ℕ) : Type 0 where
  pub before : List ℕ
  pub after : List ℕ
  pub nodes_are : nodes ≡ before ++ node ∷ after
  pub at_is : length before ≡ j

pub node_split : (nodes : List ℕ) (j node : ℕ) → slice_get nodes j ≡ Some node → NodeSplit nodes j node
node_split [] j node e = cc
node_split (x ∷ xs) zero node e = record { before = []; after = xs; nodes_are = let same : x ≡ node = cc in ap (λ q. q ∷ xs) same; at_is = refl }
node_split (x ∷ xs) (suc j) node e =
    let r = node_split xs j node e in
    record { before = x ∷ r.before; after = r.after; nodes_are = ap (λ zs. x ∷ zs) r.nodes_are; at_is = ap suc r.at_is }

pub index_back : (xs zs : List ℕ) (i p : ℕ) → i < length xs → slice_get (xs ++ zs) i ≡ Some p → slice_get xs i ≡ Some p
index_back [] zs i p h e = absurd (omega arith)
index_back (x ∷ xs) zs zero p h e = e
index_back (x ∷ xs) zs (suc i) p h e = index_back xs zs i p (omega arith) e

mapped_at : (nodes : List ℕ) (i p : ℕ) → slice_get nodes i ≡ Some p → slice_get (map block_of nodes) i ≡ Some (block_of p)
mapped_at [] i p e = cc
mapped_at (x ∷ xs) zero p e = let same : x ≡ p = cc in ap (λ q. Some (block_of q)) same
mapped_at (x ∷ xs) (suc i) p e = mapped_at xs i p e

pub leads_nowhere : (bytes : List ℕ) (table : Table) (place inner : Place) → Leads bytes table place [] inner → place ≡ inner
leads_nowhere bytes table place inner here = refl

-- ---- the new index of an item

gone : (j i : ℕ) → i ≡ j → without_index j i ≡ None
gone j i e = let t : eqb i j ≡ true = grind (arith, nat_tests) in ap (λ b. cond b None (Some (cond (ltb i j) i (i - 1)))) t

stays_before : (j i : ℕ) → i < j → without_index j i ≡ Some i
stays_before j i l =
    let t : eqb i j ≡ false = grind (arith, nat_tests) in
    let u : ltb i j ≡ true = grind (arith, nat_tests) in
    ap (λ b. cond b None (Some (cond (ltb i j) i (i - 1)))) t ∙ ap (λ b. Some (cond b i (i - 1))) u

comes_before : (j i : ℕ) → j < i → without_index j i ≡ Some (i - 1)
comes_before j i l =
    let t : eqb i j ≡ false = grind (arith, nat_tests) in
    let u : ltb i j ≡ false = grind (arith, nat_tests) in
    ap (λ b. cond b None (Some (cond (ltb i j) i (i - 1)))) t ∙ ap (λ b. Some (cond b i (i - 1))) u

if_none : (P : ℕ → Type 0) (o : Option ℕ) → o ≡ None → IfSome o P
if_none P o e = subst (λ (p : Option ℕ). IfSome p P) (sym e) tt

if_some : (P : ℕ → Type 0) (o : Option ℕ) (k : ℕ) → o ≡ Some k → P k → IfSome o P
if_some P o k e h = subst (λ (p : Option ℕ). IfSome p P) (sym e) h

-- an item is cleared, for any frozen objects
abbrev pub Clears : ℕ → List ℕ → List ℕ → Table → Place → Type 0
Clears allocator one two table place = (v : Value) (bs : List ℕ) (s : Stands allocator one table place v bs) →
    BesideShared one table (s.home ∷ bs) (named_in v) (ClearsPlace one two table place (default_of table place.type) bs [])

-- the same for equal places, tables and bytes
pub clears_here : (allocator : ℕ) (one two mid : List ℕ) (table here_too : Table) (p q : Place) → here_too ≡ table → p ≡ q → two ≡ mid → Clears allocator one mid here_too p → Clears allocator one two table q
clears_here allocator one two mid table here_too p q same at to k =
    subst (λ t. Clears allocator one two t q) same (subst (λ r. Clears allocator one two here_too r) at (subst (λ m. Clears allocator one m here_too p) (sym to) k))

module _ (allocator : ℕ) (old one two new : List ℕ) (table : Table) (list : Place) (U node j : ℕ) (f : form_at table list.type ≡ Some (Form.list U)) (vs : Values) (blocks : List ℕ)
    (s : Stands allocator old table list (Seq vs) blocks) (lead : Leads old table list (Selector.item j ∷ []) (value_in U node)) where
  l : ListOf old table list U vs blocks
  l = list_of old table list U f vs blocks s.holds_it

  node_is : slice_get l.nodes j ≡ Some node
  node_is =
      let n = item_leads old table list U f vs blocks l j [] (value_in U node) lead in
      let e = ap (λ (q : Place). q.at) (leads_nowhere old table (value_in U n.node) (value_in U node) n.rest) in
      let same : n.node ≡ node = omega arith in
      n.node_is ∙ ap Some same

  parts : NodeSplit l.nodes j node
  parts = node_split l.nodes j node node_is

  abbrev xs : List ℕ
  xs = parts.before

  abbrev ys : List ℕ
  ys = parts.after

  are_nodes : AreNodes old (tag_of Kind.node list.type) (8 + size table U) (xs ++ node ∷ ys)
  are_nodes = subst (AreNodes old (tag_of Kind.node list.type) (8 + size table U)) parts.nodes_are l.are_nodes

  blocks_are : blocks ≡ map block_of (xs ++ node ∷ ys) ++ l.owned
  blocks_are = l.blocks_are ∙ ap (λ ns. map block_of ns ++ l.owned) parts.nodes_are

  values : SplitAt old table U xs node ys vs l.owned
  values = split_at old table U xs node ys vs l.owned (subst (λ ns. HoldsEach old table (values_in U ns) vs l.owned) parts.nodes_are l.each)

  abbrev ws : Values
  ws = append values.left values.right

  values_are : remove_nth vs j ≡ ws
  values_are =
      let at : count values.left ≡ j = values.at_is ∙ parts.at_is in
      ap (remove_nth vs) (sym at) ∙ ap (λ us. remove_nth us (count values.left)) values.values_are ∙ remove_nth-append values.left values.value values.right

  value_is : (v : Value) → nth vs j ≡ Some v → v ≡ values.value
  value_is v e =
      let at : count values.left ≡ j = values.at_is ∙ parts.at_is in
      let it : nth vs j ≡ Some values.value = ap (nth vs) (sym at) ∙ ap (λ us. nth us (count values.left)) values.values_are ∙ nth-append values.left values.right values.value in
      let both : Some v ≡ Some values.value = sym e ∙ it in
      cc

  module _ (removed : (before after : List ℕ) → HasRing old list.at (before ++ node ∷ after) → AreSpread old (list.at ∷ before ++ node ∷ after) → Relinks old one list.at (before ++ node ∷ after) (before ++ after))
      (cleared : Clears allocator one two table (value_in U node)) (given : IsHeap allocator two → IsLive two (block_of node) → Gives allocator two new (block_of node)) where
    r : Relinks old one list.at (xs ++ node ∷ ys) (xs ++ ys)
    r = removed xs ys (subst (HasRing old list.at) parts.nodes_are l.ring) (dropped_spread allocator old table list U node xs ys f vs blocks l.owned s are_nodes blocks_are values)

    module _ (theirs : ℕ → List ℕ) (kept : List Place) (now final : List Frozen) (beside : SharedBeside old table (s.home ∷ blocks) (named_in values.value) theirs kept now final) where
      c : ClearsPlace one two table (value_in U node) (default_of table U) values.its [] theirs now final
      c = cleared values.value values.its (item_stands allocator old table list U node xs ys f vs blocks l.owned s are_nodes blocks_are values one r) theirs kept now final
          (item_beside allocator old table list U node xs ys f vs blocks l.owned s are_nodes blocks_are values one r theirs now final beside.owned (named_in values.value) kept beside)

      g : Gives allocator two new (block_of node)
      g = given (two_heap allocator old table list U node xs ys f vs blocks l.owned s are_nodes blocks_are values one r theirs now final beside.owned two c)
          (node_live_still allocator old table list U node xs ys f vs blocks l.owned s are_nodes blocks_are values one r theirs now final beside.owned two c)

      abbrev left_blocks : List ℕ
      left_blocks = map block_of (xs ++ ys) ++ (values.front ++ values.back)

      m : ListOf new table list U ws left_blocks
      m = list_new allocator old table list U node xs ys f vs blocks l.owned s are_nodes blocks_are values one r theirs now final beside.owned two c new g

      node_then : (k q : ℕ) → slice_get (xs ++ ys) k ≡ Some q → slice_get m.nodes k ≡ Some q
      unfolding m
      node_then k q e = ap (λ ns. slice_get ns k) (new_nodes allocator old table list U node xs ys f vs blocks l.owned s are_nodes blocks_are values one r theirs now final beside.owned two c new g) ∙ e

      moves : MovesItems old new table list (without_index j)
      moves i path inner q =
          let n = item_leads old table list U f vs blocks l i path inner q in
          let e : slice_get (xs ++ node ∷ ys) i ≡ Some n.node = ap (λ ns. slice_get ns i) (sym parts.nodes_are) ∙ n.node_is in
          let at = parts.at_is in
          ⊎_elim
          (λ before. if_some (λ k. Leads new table list (Selector.item k ∷ path) inner) (without_index j i) i (stays_before j i before)
          (let found = index_back xs (node ∷ ys) i n.node (omega arith) e in
          leads_on new table list U f ws left_blocks m i n.node path inner (node_then i n.node (index_front xs ys i n.node found))
          (lefts_lead allocator old table list U node xs ys f vs blocks l.owned s are_nodes blocks_are values one r theirs now final beside.owned two c new g i n.node path inner found n.rest)))
          (λ not_before. ⊎_elim
          (λ same. if_none (λ k. Leads new table list (Selector.item k ∷ path) inner) (without_index j i) (gone j i same))
          (λ other. if_some (λ k. Leads new table list (Selector.item k ∷ path) inner) (without_index j i) (i - 1) (comes_before j i (omega arith))
          (let k = i - 1 - j in
          let found : slice_get ys k ≡ Some n.node = sym (index_after xs (node ∷ ys) i (suc k) (omega arith)) ∙ e in
          leads_on new table list U f ws left_blocks m (i - 1) n.node path inner (node_then (i - 1) n.node (index_after xs ys (i - 1) k (omega arith) ∙ found))
          (rights_lead allocator old table list U node xs ys f vs blocks l.owned s are_nodes blocks_are values one r theirs now final beside.owned two c new g k n.node path inner found n.rest)))
          (cases_eq i j))
          (cases_lt i j)

      -- the other items stay in their nodes
      parts_left : KeepsParts old new table list j 1 0
      unfolding m
      parts_left =
          let k = list_parts old new table list U f vs ws blocks left_blocks l m xs (node ∷ []) [] ys parts.nodes_are
          (new_nodes allocator old table list U node xs ys f vs blocks l.owned s are_nodes blocks_are values one r theirs now final beside.owned two c new g)
          (lefts_stay allocator old table list U node xs ys f vs blocks l.owned s are_nodes blocks_are values one r theirs now final beside.owned two c new g)
          (rights_stay allocator old table list U node xs ys f vs blocks l.owned s are_nodes blocks_are values one r theirs now final beside.owned two c new g) in
          subst (λ n. KeepsParts old new table list n 1 0) parts.at_is k

      removes : RemovesItem old new table list (remove_nth vs j) blocks j theirs now final
      removes = rw values_are (record {
        loses = record {
          lost = block_of node ∷ values.its;
          part = record {
            form = Form.list U;
            form_is = f;
            opened = opened_of old table list U f l.nodes;
            opens = opens_list old table list U f vs blocks l;
            part = value_in U node;
            part_is = value_at_index U l.nodes j node node_is;
            value = values.value;
            blocks = values.its;
            holds = values.holds_it;
            gives_are = ap (λ o. option_to_list o ++ values.its) (sym (mapped_at l.nodes j node node_is));
          };
          others = left_blocks;
          blocks_are = λ h. dropped_blocks allocator old table list U node xs ys f vs blocks l.owned s are_nodes blocks_are values h ∙ sym (times-append h (block_of node ∷ values.its) left_blocks);
          clears = dropped allocator old table list U node xs ys f vs blocks l.owned s are_nodes blocks_are values one r theirs now final beside.owned two c new g;
          parts = parts_left;
        };
        moves = moves;
      })

    pub item_removed : LosesItem old new table list vs j (remove_nth vs j) s.home blocks
    item_removed v e theirs kept now final beside = removes theirs kept now final (subst (λ u. SharedBeside old table (s.home ∷ blocks) (named_in u) theirs kept now final) (value_is v e) beside)

  -- the item's position has 32 bits
  pub item_small : node + 8 < 2 ^ 32
  item_small =
      let spread = dropped_spread allocator old table list U node xs ys f vs blocks l.owned s are_nodes blocks_are values in
      let a = times-append node xs (node ∷ ys) in
      let t = times-same node ys in
      let its = there (λ q. (q % 8 ≡ 0) × (q + 8 ≤ length old)) node (xs ++ node ∷ ys) spread.fit.1 (omega arith) in
      let end = its.1 in
      let small = spread.small in
      omega arith
