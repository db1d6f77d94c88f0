-- A list as its nodes and their values, and paths from its items.
use Rattle.std.proofs.Common.{◌≡◌, ℕ, zero, suc, ◌+◌, List, [], ◌∷◌, ◌++◌, length, map, Some, refl, sym, ap, ◌∙◌, subst, arith, append-nil}
use Rattle.std.specs.Prelude.{slice_get}
use Rattle.std.specs.List.{AllByRecursion}
use Rattle.seg_spec.specs.Types.{Form, Table, IsTable, form_at, size}
use Rattle.seg_spec.specs.Value.{Values, Label, node, Seq, Selector, index_of}
use Rattle.seg_spec.specs.Bytes.{IsSame}
use Rattle.seg_spec.specs.Block.{Kind, tag_of, block_of, KeepsBlock}
use Rattle.seg_spec.specs.Reads.{Place, Opened, places_of, AreNodes, OpensRing, Opens, Holds, holds, HoldsEach, Leads, into}
use Rattle.seg_spec.specs.Parts.{PersistEach, KeepsParts}
use Rattle.seg_spec.proofs.Tables.TypeSizeLaws.{size-form}
use Rattle.seg_spec.proofs.Values.PlaceFrameLaws.{each_left, each_right, Opens-kept, PersistEach-kept}
use Rattle.seg_spec.proofs.Values.PersistenceLaws.{parts_around, one_split}
use Rattle.seg_spec.proofs.Deallocation.CellDestructionLaws.{same_form}
use Rattle.seg_spec.proofs.Values.OneValueLaws.{Opens-one}
use Rattle.seg_seq.specs.Rings.{HasRing}

-- the places of the values of nodes
abbrev pub values_in : ℕ → List ℕ → List Place
values_in U nodes = places_of U (map (λ p. p + 8) nodes)

-- the place of the value of a node
abbrev pub value_in : ℕ → ℕ → Place
value_in U p = record { at = p + 8; type = U }

pub values_append : (U : ℕ) (xs ys : List ℕ) → values_in U (xs ++ ys) ≡ values_in U xs ++ values_in U ys
values_append U [] ys = refl
values_append U (x ∷ xs) ys = ap (λ ps. value_in U x ∷ ps) (values_append U xs ys)

pub mapped_append : (xs ys : List ℕ) → map block_of (xs ++ ys) ≡ map block_of xs ++ map block_of ys
mapped_append [] ys = refl
mapped_append (x ∷ xs) ys = ap (λ ps. block_of x ∷ ps) (mapped_append xs ys)

pub value_at_index : (U : ℕ) (nodes : List ℕ) (i p : ℕ) → slice_get nodes i ≡ Some p → slice_get (values_in U nodes) i ≡ Some (value_in U p)
value_at_index U [] i p e = cc
value_at_index U (x ∷ xs) zero p e = let same : x ≡ p = cc in ap (λ q. Some (value_in U q)) same
value_at_index U (x ∷ xs) (suc i) p e = value_at_index U xs i p e

-- the node that contains a value
pub record NodeAt (nodes : List ℕ) (U i : ℕ) (part : Place) : Type 0 where
  pub node : ℕ
  pub node_is : slice_get nodes i ≡ Some node
  pub part_is : part ≡ value_in U node

pub node_of_value : (U : ℕ) (nodes : List ℕ) (i : ℕ) (part : Place) → slice_get (values_in U nodes) i ≡ Some part → NodeAt nodes U i part
node_of_value U [] i part e = cc
node_of_value U (x ∷ xs) zero part e = record { node = x; node_is = refl; part_is = let same : value_in U x ≡ part = cc in sym same }
node_of_value U (x ∷ xs) (suc i) part e = let n = node_of_value U xs i part e in record { node = n.node; node_is = n.node_is; part_is = n.part_is }

-- ---- a list, by its nodes

pub record ListOf (bytes : List ℕ) (table : Table) (list : Place) (U : ℕ) (vs : Values) (blocks : List ℕ) : Type 0 where
  pub nodes : List ℕ
  pub owned : List ℕ
  pub ring : HasRing bytes list.at nodes
  pub are_nodes : AreNodes bytes (tag_of Kind.node list.type) (8 + size table U) nodes
  pub each : HoldsEach bytes table (values_in U nodes) vs owned
  pub blocks_are : blocks ≡ map block_of nodes ++ owned

module _ (bytes : List ℕ) (table : Table) (list : Place) (U : ℕ) (f : form_at table list.type ≡ Some (Form.list U)) where
  abbrev pub opened_of : List ℕ → Opened
  opened_of nodes = record { label = Label.seq; blocks = map block_of nodes; parts = values_in U nodes }

  list_by : (vs : Values) (blocks : List ℕ) (opened : Opened) (inside : Values) (owned : List ℕ) → OpensRing bytes table list.at (tag_of Kind.node list.type) U opened → HoldsEach bytes table opened.parts inside owned →
      Seq vs ≡ node opened.label inside → blocks ≡ opened.blocks ++ owned → ListOf bytes table list U vs blocks
  list_by vs blocks opened inside owned o hs v_is is =
      let parts : opened.parts ≡ values_in U o.nodes = ap (λ (r : Opened). r.parts) o.opened_is in
      let named : opened.blocks ≡ map block_of o.nodes = ap (λ (r : Opened). r.blocks) o.opened_is in
      let same : inside ≡ vs = cc in
      record {
        nodes = o.nodes;
        owned = owned;
        ring = record { ring = o.ring; counted = o.counted };
        are_nodes = o.are_nodes;
        each = subst (λ ws. HoldsEach bytes table (values_in U o.nodes) ws owned) same (subst (λ ps. HoldsEach bytes table ps inside owned) parts hs);
        blocks_are = is ∙ ap (λ bs. bs ++ owned) named;
      }

  pub list_of : (vs : Values) (blocks : List ℕ) → Holds bytes table list (Seq vs) blocks → ListOf bytes table list U vs blocks
  list_of vs blocks (holds form opened inside owned g o hs v_is is) =
      let same = same_form form (Form.list U) (sym g ∙ f) in
      let o' : Opens bytes table list (Form.list U) opened = subst (λ h. Opens bytes table list h opened) same o in
      list_by vs blocks opened inside owned o' hs v_is is

  module _ (vs : Values) (blocks : List ℕ) (l : ListOf bytes table list U vs blocks) where
    pub opens_list : OpensRing bytes table list.at (tag_of Kind.node list.type) U (opened_of l.nodes)
    opens_list = record { nodes = l.nodes; ring = l.ring.ring; counted = l.ring.counted; are_nodes = l.are_nodes; opened_is = refl }

    pub holds_list : Holds bytes table list (Seq vs) blocks
    holds_list = holds (Form.list U) (opened_of l.nodes) vs l.owned f opens_list l.each refl l.blocks_are

    -- a path from an item continues from the value in its node
    pub leads_on : (i p : ℕ) (path : List Selector) (inner : Place) → slice_get l.nodes i ≡ Some p → Leads bytes table (value_in U p) path inner → Leads bytes table list (Selector.item i ∷ path) inner
    leads_on i p path inner e m = into (Form.list U) (opened_of l.nodes) i (value_in U p) f opens_list refl (value_at_index U l.nodes i p e) m

    pub record ItemLeads (i : ℕ) (path : List Selector) (inner : Place) : Type 0 where
      pub node : ℕ
      pub node_is : slice_get l.nodes i ≡ Some node
      pub rest : Leads bytes table (value_in U node) path inner

    item_by : (i j : ℕ) (path : List Selector) (inner : Place) (form : Form) (opened : Opened) (part : Place) → form_at table list.type ≡ Some form → Opens bytes table list form opened →
        index_of opened.label (Selector.item i) ≡ Some j → slice_get opened.parts j ≡ Some part → Leads bytes table part path inner → ItemLeads i path inner
    item_by i j path inner form opened part g o index part_is m =
        let same = same_form form (Form.list U) (sym g ∙ f) in
        let o' : Opens bytes table list (Form.list U) opened = subst (λ h. Opens bytes table list h opened) same o in
        let is : opened ≡ opened_of l.nodes = Opens-one bytes table list (Form.list U) opened (opened_of l.nodes) o' opens_list in
        let at : index_of Label.seq (Selector.item i) ≡ Some j = ap (λ (r : Opened). index_of r.label (Selector.item i)) (sym is) ∙ index in
        let here_it_is : i ≡ j = let e : Some i ≡ Some j = at in cc in
        let found : slice_get (values_in U l.nodes) i ≡ Some part = ap (λ (r : Opened). slice_get r.parts i) (sym is) ∙ ap (slice_get opened.parts) here_it_is ∙ part_is in
        let n = node_of_value U l.nodes i part found in
        record { node = n.node; node_is = n.node_is; rest = subst (λ q. Leads bytes table q path inner) n.part_is m }

    pub item_leads : (i : ℕ) (path : List Selector) (inner : Place) → Leads bytes table list (Selector.item i ∷ path) inner → ItemLeads i path inner
    item_leads i path inner (into form opened j part g o index part_is m) = item_by i j path inner form opened part g o index part_is m

-- ---- indices

pub index_front : (xs ys : List ℕ) (i p : ℕ) → slice_get xs i ≡ Some p → slice_get (xs ++ ys) i ≡ Some p
index_front [] ys i p e = cc
index_front (x ∷ xs) ys zero p e = e
index_front (x ∷ xs) ys (suc i) p e = index_front xs ys i p e

pub index_middle : (xs : List ℕ) (p : ℕ) (ys : List ℕ) → slice_get (xs ++ p ∷ ys) (length xs) ≡ Some p
index_middle [] p ys = refl
index_middle (x ∷ xs) p ys = index_middle xs p ys

pub index_after : (xs ys : List ℕ) (k i : ℕ) → k ≡ length xs + i → slice_get (xs ++ ys) k ≡ slice_get ys i
index_after [] ys k i e = ap (slice_get ys) (omega arith)
index_after (x ∷ xs) ys zero i e = absurd (omega arith)
index_after (x ∷ xs) ys (suc k) i e = index_after xs ys k i (omega arith)

-- ---- items that stay in their nodes

pub length_values : (U : ℕ) (nodes : List ℕ) → length (values_in U nodes) ≡ length nodes
length_values U [] = refl
length_values U (x ∷ xs) = ap suc (length_values U xs)

-- the nodes are known by the places of their values
pub one_list : (U : ℕ) (xs ys : List ℕ) → values_in U xs ≡ values_in U ys → xs ≡ ys
one_list U [] [] e = refl
one_list U [] (y ∷ ys) e = cc
one_list U (x ∷ xs) [] e = cc
one_list U (x ∷ xs) (y ∷ ys) e =
    let first : value_in U x ≡ value_in U y = cc in
    let at : x + 8 ≡ y + 8 = ap (λ (q : Place). q.at) first in
    let same : x ≡ y = omega arith in
    let more : values_in U xs ≡ values_in U ys = cc in
    let rest = one_list U xs ys more in
    cc

module _ (old new : List ℕ) (table : Table) (list : Place) (U : ℕ) (f : form_at table list.type ≡ Some (Form.list U)) (vs ws : Values) (blocks others : List ℕ)
    (l : ListOf old table list U vs blocks) (m : ListOf new table list U ws others) where
  -- some items stay in their nodes, some go, some come, and the rest stay
  pub list_parts : (front went came rest : List ℕ) → l.nodes ≡ front ++ (went ++ rest) → m.nodes ≡ front ++ (came ++ rest) → PersistEach old new table (values_in U front) (values_in U front) →
      PersistEach old new table (values_in U rest) (values_in U rest) → KeepsParts old new table list (length front) (length went) (length came)
  list_parts front went came rest before after first last =
      let split : (xs ys zs : List ℕ) → values_in U (xs ++ (ys ++ zs)) ≡ values_in U xs ++ (values_in U ys ++ values_in U zs) = λ xs ys zs. values_append U xs (ys ++ zs) ∙ ap (λ ps. values_in U xs ++ ps) (values_append U ys zs) in
      let around = parts_around old new table (Form.list U) (values_in U front) (values_in U went) (values_in U rest) (values_in U front) (values_in U came) (values_in U rest) (λ e. (refl, refl)) first last in
      record {
        form = Form.list U;
        form_is = f;
        before = opened_of old table list U f l.nodes;
        opens_before = opens_list old table list U f vs blocks l;
        after = opened_of new table list U f m.nodes;
        opens_after = opens_list new table list U f ws others m;
        stay = rw (before, after, split front went rest, split front came rest, ← length_values U front, ← length_values U went, ← length_values U came) around;
      }

  -- the items before the last one, which is new, are in their old nodes
  pub record Appended (xs : List ℕ) : Type 0 where
    pub nodes_are : l.nodes ≡ xs
    pub stay : PersistEach old new table (values_in U xs) (values_in U xs)

  pub appended : (xs : List ℕ) (last : ℕ) → m.nodes ≡ xs ++ last ∷ [] → KeepsParts old new table list (length xs) 0 1 → Appended xs
  appended xs last after k =
      let forms : k.form ≡ Form.list U = same_form k.form (Form.list U) (sym k.form_is ∙ f) in
      let befores : k.before ≡ opened_of old table list U f l.nodes = Opens-one old table list (Form.list U) k.before (opened_of old table list U f l.nodes)
      (subst (λ h. Opens old table list h k.before) forms k.opens_before) (opens_list old table list U f vs blocks l) in
      let afters : k.after ≡ opened_of new table list U f m.nodes = Opens-one new table list (Form.list U) k.after (opened_of new table list U f m.nodes)
      (subst (λ h. Opens new table list h k.after) forms k.opens_after) (opens_list new table list U f ws others m) in
      let t = k.stay in
      let nodes = t.in_nodes (rw forms refl) in
      let now : values_in U xs ++ (value_in U last ∷ []) ≡ t.front_now ++ (t.came ++ t.rest_now) =
      sym (values_append U xs (last ∷ [])) ∙ ap (values_in U) (sym after) ∙ ap (λ (r : Opened). r.parts) (sym afters) ∙ t.after_are in
      let long : length (values_in U xs) ≡ length t.front_now = length_values U xs ∙ sym t.from_is ∙ ap length (sym nodes.0) in
      let fronts = one_split (values_in U xs) (value_in U last ∷ []) t.front_now (t.came ++ t.rest_now) long now in
      let no_rest : t.rest_now ≡ [] = none_after t.came t.rest_now t.come_are fronts.1 in
      let was : values_in U l.nodes ≡ values_in U xs =
      ap (λ (r : Opened). r.parts) (sym befores) ∙ t.before_are ∙ ap (λ ps. t.front ++ (t.went ++ ps)) (sym nodes.1 ∙ no_rest) ∙ ap (λ ps. t.front ++ (ps ++ [])) (none_in t.went t.gone_are)
      ∙ append-nil t.front ∙ sym nodes.0 ∙ sym fronts.0 in
      record {
        nodes_are = one_list U l.nodes xs was;
        stay = subst (λ ps. PersistEach old new table ps (values_in U xs)) (sym nodes.0 ∙ sym fronts.0) (subst (λ ps. PersistEach old new table t.front ps) (sym fronts.0) t.front_stays);
      }
    where
      none_in : (ps : List Place) → length ps ≡ 0 → ps ≡ []
      none_in [] e = refl
      none_in (p ∷ ps) e = absurd (omega (arith, e))

      none_after : (ps qs : List Place) {p : Place} → length ps ≡ 1 → p ∷ [] ≡ ps ++ qs → qs ≡ []
      none_after [] qs e s = absurd (omega (arith, e))
      none_after (q ∷ []) qs e s = let more : [] ≡ qs = cc in sym more
      none_after (q ∷ r ∷ ps) qs e s = absurd (omega (arith, e))

-- the items of a list are in the same nodes, if its place and its blocks are kept
pub nodes_again : (old new : List ℕ) (table : Table) → IsTable table → (list : Place) (U : ℕ) (f : form_at table list.type ≡ Some (Form.list U)) (vs : Values) (blocks : List ℕ)
    (l : ListOf old table list U vs blocks) (m : ListOf new table list U vs blocks) → IsSame old new list.at (size table list.type) → AllByRecursion (KeepsBlock old new) blocks
    → Appended old new table list U f vs vs blocks blocks l m m.nodes
nodes_again old new table valid list U f vs blocks l m same kept =
    let all = subst (AllByRecursion (KeepsBlock old new)) l.blocks_are kept in
    let stays = Opens-kept old new table valid list (Form.list U) (opened_of old table list U f l.nodes) (rw (size-form table valid list.type (Form.list U) f) at same)
    (each_left (KeepsBlock old new) (map block_of l.nodes) l.owned all) (opens_list old table list U f vs blocks l) in
    let opened : opened_of old table list U f l.nodes ≡ opened_of new table list U f m.nodes =
    Opens-one new table list (Form.list U) (opened_of old table list U f l.nodes) (opened_of new table list U f m.nodes) stays.opens (opens_list new table list U f vs blocks m) in
    let nodes : l.nodes ≡ m.nodes = one_list U l.nodes m.nodes (ap (λ (r : Opened). r.parts) opened) in
    let each = PersistEach-kept old new table valid l.each stays.parts (each_right (KeepsBlock old new) (map block_of l.nodes) l.owned all) in
    record { nodes_are = nodes; stay = subst (λ ns. PersistEach old new table (values_in U ns) (values_in U ns)) nodes each }
