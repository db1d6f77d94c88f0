-- The values of a map with one more or one less, and the map that a tree with these values is.
use Rattle.std.proofs.Common.{◌≡◌, ℕ, zero, suc, ◌+◌, ℤ, List, [], ◌∷◌, ◌++◌, length, map, Some, refl, sym, ap, ◌∙◌, subst, append_assoc}
use Rattle.std.specs.List.{AllByRecursion}
use Rattle.seg_spec.specs.Pointer.{target}
use Rattle.seg_spec.specs.Types.{Form, Table, form_at, size, IsTable}
use Rattle.seg_spec.specs.Value.{Label, Selector, index_of, Value, Values, nil, cons, append, count, Map, IsAscending}
use Rattle.seg_spec.specs.Items.{key_place, insert_nth, remove_nth}
use Rattle.seg_spec.specs.Block.{Kind, tag_of, block_of, KeepsBlock}
use Rattle.seg_spec.specs.Shapes.{Tree, nodes_of, IsTree, IsRedBlack}
use Rattle.seg_spec.specs.Reads.{Place, Opened, count_at, keys_at, places_of, AreNodes, Opens, OpensTree, Holds, holds, HoldsEach, holds_none, holds_more, Leads, here, into}
use Rattle.std.specs.Prelude.{slice_get}
use Rattle.seg_spec.specs.Parts.{PersistEach, KeepsParts}
use Rattle.seg_map.specs.Maps.{value_of}
use Rattle.seg_spec.proofs.Values.PlaceFrameLaws.{SamePlace}
use Rattle.seg_spec.proofs.Values.PersistenceLaws.{parts_around}
use Rattle.seg_spec.proofs.Values.OneValueLaws.{Opens-one}
use Rattle.seg_spec.proofs.Values.PathFrameLaws.{Leads-each}
use Rattle.seg_map.proofs.TreeMaps.{IsTreeMap, same_form, mapped_at}

-- the places of the values of nodes
abbrev pub value_places : ℕ → List ℕ → List Place
value_places U nodes = places_of U (map (λ p. p + 24) nodes)

pub places_joined : (U : ℕ) (front back : List ℕ) → value_places U (front ++ back) ≡ value_places U front ++ value_places U back
places_joined U [] back = refl
places_joined U (x ∷ xs) back = ap (λ ps. record { at = x + 24; type = U } ∷ ps) (places_joined U xs back)

pub places_long : (U : ℕ) (nodes : List ℕ) → length (value_places U nodes) ≡ length nodes
places_long U [] = refl
places_long U (x ∷ xs) = ap suc (places_long U xs)

pub inserted_nth : (left right : Values) (w : Value) (n : ℕ) → n ≡ count left → insert_nth (append left right) n w ≡ append left (cons w right)
inserted_nth left right w n e = ap (λ i. insert_nth (append left right) i w) e ∙ go left
  where
    go : (left : Values) → insert_nth (append left right) (count left) w ≡ append left (cons w right)
    go nil = refl
    go (cons v vs) = ap (cons v) (go vs)

pub removed_nth : (left right : Values) (w : Value) (n : ℕ) → n ≡ count left → remove_nth (append left (cons w right)) n ≡ append left right
removed_nth left right w n e = ap (λ i. remove_nth (append left (cons w right)) i) e ∙ go left
  where
    go : (left : Values) → remove_nth (append left (cons w right)) (count left) ≡ append left right
    go nil = refl
    go (cons v vs) = ap (cons v) (go vs)

module _ (bytes : List ℕ) (table : Table) where
  -- values of places in order, in two parts
  pub record Parts (before after : List Place) (vs : Values) (blocks : List ℕ) : Type 0 where
    pub left : Values
    pub right : Values
    pub xs : List ℕ
    pub ys : List ℕ
    pub values_are : vs ≡ append left right
    pub count_is : count left ≡ length before
    pub lefts : HoldsEach bytes table before left xs
    pub rights : HoldsEach bytes table after right ys
    pub blocks_are : blocks ≡ xs ++ ys

  one_more : {p : Place} {v : Value} {bs : List ℕ} (before after : List Place) (vs : Values) (owned : List ℕ) → Holds bytes table p v bs → Parts before after vs owned → Parts (p ∷ before) after (cons v vs) (bs ++ owned)
  one_more {v = v} {bs = bs} before after vs owned h r = record {
    left = cons v r.left;
    right = r.right;
    xs = bs ++ r.xs;
    ys = r.ys;
    values_are = ap (cons v) r.values_are;
    count_is = ap suc r.count_is;
    lefts = holds_more h r.lefts;
    rights = r.rights;
    blocks_are = ap (λ zs. bs ++ zs) r.blocks_are ∙ sym (append_assoc bs r.xs r.ys);
  }

  pub parts : (before after : List Place) (vs : Values) (blocks : List ℕ) → HoldsEach bytes table (before ++ after) vs blocks → Parts before after vs blocks
  parts [] after vs blocks h = record { left = nil; right = vs; xs = []; ys = blocks; values_are = refl; count_is = refl; lefts = holds_none; rights = h; blocks_are = refl }
  parts (p ∷ before) after nil blocks h = elim h [ ]
  parts (p ∷ before) after (cons v vs) blocks (holds_more {blocks = bs} {owned = owned} first rest) = one_more before after vs owned first (parts before after vs owned rest)

  pub joined : {before after : List Place} {vs ws : Values} {xs ys : List ℕ} → HoldsEach bytes table before vs xs → HoldsEach bytes table after ws ys → HoldsEach bytes table (before ++ after) (append vs ws) (xs ++ ys)
  joined holds_none h = h
  joined (holds_more {blocks = bs} {owned = cs} l ls) h = rw append_assoc (holds_more l (joined ls h))

  -- a tree with these keys and values is a map
  pub map_of : (place : Place) (U : ℕ) (tree : Tree) (keys : List ℤ) (vs : Values) (owned : List ℕ) → form_at table place.type ≡ Some (Form.map U) → IsTree bytes (target bytes place.at) tree → IsRedBlack tree
      → length (nodes_of tree) ≡ count_at bytes place.at → AreNodes bytes (tag_of Kind.node place.type) (24 + size table U) (nodes_of tree) → keys ≡ keys_at bytes (map (λ p. p + 16) (nodes_of tree)) → IsAscending keys
      → HoldsEach bytes table (value_places U (nodes_of tree)) vs owned → Holds bytes table place (Map keys vs) (map block_of (nodes_of tree) ++ owned)
  map_of place U tree keys vs owned f t b c n k a h =
      let opened : Opened = record { label = Label.map (keys_at bytes (map (λ p. p + 16) (nodes_of tree))); blocks = map block_of (nodes_of tree); parts = value_places U (nodes_of tree) } in
      let o : OpensTree bytes table place.at (tag_of Kind.node place.type) U opened = record { tree = tree; is_tree = t; red_black = b; counted = c; are_nodes = n; ascending = subst IsAscending k a; opened_is = refl } in
      holds {place = place} (Form.map U) opened vs owned f o h (ap (λ ks. Map ks vs) k) refl

  -- a path through a key continues from the value in its node
  pub map_leads : (place : Place) (U : ℕ) (tree : Tree) → form_at table place.type ≡ Some (Form.map U) → IsTree bytes (target bytes place.at) tree → IsRedBlack tree
      → length (nodes_of tree) ≡ count_at bytes place.at → AreNodes bytes (tag_of Kind.node place.type) (24 + size table U) (nodes_of tree) → IsAscending (keys_at bytes (map (λ p. p + 16) (nodes_of tree)))
      → (key : ℤ) (i node : ℕ) → key_place (keys_at bytes (map (λ p. p + 16) (nodes_of tree))) key ≡ Some i → slice_get (nodes_of tree) i ≡ Some node
      → {path : List Selector} {inner : Place} → Leads bytes table (value_of U (node + 24)) path inner → Leads bytes table place (Selector.key key ∷ path) inner
  map_leads place U tree f t b c n a key i node e at l =
      let opened : Opened = record { label = Label.map (keys_at bytes (map (λ p. p + 16) (nodes_of tree))); blocks = map block_of (nodes_of tree); parts = value_places U (nodes_of tree) } in
      let o : OpensTree bytes table place.at (tag_of Kind.node place.type) U opened = record { tree = tree; is_tree = t; red_black = b; counted = c; are_nodes = n; ascending = a; opened_is = refl } in
      into (Form.map U) opened i (value_of U (node + 24)) f o e (mapped_at (value_of U) (map (λ p. p + 24) (nodes_of tree)) i (node + 24) (mapped_at (λ p. p + 24) (nodes_of tree) i node at)) l

-- ---- values that stay in their nodes

module _ (old new : List ℕ) (table : Table) (place : Place) (U : ℕ) (f : form_at table place.type ≡ Some (Form.map U)) (before after : Opened) (b : OpensTree old table place.at (tag_of Kind.node place.type) U before)
    (a : OpensTree new table place.at (tag_of Kind.node place.type) U after) where
  -- some values stay in their nodes, some go, some come, and the rest stay
  pub tree_parts : (front went came rest : List ℕ) → nodes_of b.tree ≡ front ++ (went ++ rest) → nodes_of a.tree ≡ front ++ (came ++ rest) → PersistEach old new table (value_places U front) (value_places U front)
      → PersistEach old new table (value_places U rest) (value_places U rest) → KeepsParts old new table place (length front) (length went) (length came)
  tree_parts front went came rest was is first others =
      let split : (xs ys zs : List ℕ) → value_places U (xs ++ (ys ++ zs)) ≡ value_places U xs ++ (value_places U ys ++ value_places U zs) =
      λ xs ys zs. places_joined U xs (ys ++ zs) ∙ ap (λ ps. value_places U xs ++ ps) (places_joined U ys zs) in
      let around = parts_around old new table (Form.map U) (value_places U front) (value_places U went) (value_places U rest) (value_places U front) (value_places U came) (value_places U rest) (λ e. (refl, refl)) first others in
      let befores : before.parts ≡ value_places U front ++ (value_places U went ++ value_places U rest) = ap (λ (r : Opened). r.parts) b.opened_is ∙ ap (value_places U) was ∙ split front went rest in
      let afters : after.parts ≡ value_places U front ++ (value_places U came ++ value_places U rest) = ap (λ (r : Opened). r.parts) a.opened_is ∙ ap (value_places U) is ∙ split front came rest in
      record {
        form = Form.map U;
        form_is = f;
        before = before;
        opens_before = b;
        after = after;
        opens_after = a;
        stay = rw (befores, afters, ← places_long U front, ← places_long U went, ← places_long U came) around;
      }

-- ---- paths through a map

record FromMap (X Y : Type 0) (g : X → Y) (xs : List X) (i : ℕ) (y : Y) : Type 0 where
  x : X
  at : slice_get xs i ≡ Some x
  is : g x ≡ y

from_map : {X Y : Type 0} (g : X → Y) (xs : List X) (i : ℕ) (y : Y) → slice_get (map g xs) i ≡ Some y → FromMap X Y g xs i y
from_map g [] i y e = cc
from_map g (x ∷ xs) zero y e = record { x = x; at = refl; is = let same : g x ≡ y = cc in same }
from_map g (x ∷ xs) (suc i) y e = let r = from_map g xs i y e in record { x = r.x; at = r.at; is = r.is }

key_by : (keys : List ℤ) (s : Selector) (i : ℕ) → index_of (Label.map keys) s ≡ Some i → (key : ℤ) × (s ≡ Selector.key key) × (key_place keys key ≡ Some i)
key_by keys (Selector.key k) i e = (k, refl, e)
key_by keys (Selector.item n) i e = cc
key_by keys (Selector.field n) i e = cc
key_by keys Selector.content i e = cc

module _ (old new : List ℕ) (table : Table) (valid : IsTable table) (place : Place) (U : ℕ) (keys : List ℤ) (vs : Values) (blocks : List ℕ) (f : form_at table place.type ≡ Some (Form.map U)) (m : IsTreeMap old table place U keys vs blocks)
    (same : AllByRecursion (SamePlace old new table) (value_places U (nodes_of m.opens.tree))) (kept : AllByRecursion (KeepsBlock old new) m.owned) where
  -- a path from the map begins with a key, and continues from the value in the key's node
  pub record Passes (s : Selector) (path : List Selector) (inner : Place) : Type 0 where
    pub key : ℤ
    pub selector_is : s ≡ Selector.key key
    pub i : ℕ
    pub node : ℕ
    pub place_is : key_place (keys_at old (map (λ p. p + 16) (nodes_of m.opens.tree))) key ≡ Some i
    pub node_is : slice_get (nodes_of m.opens.tree) i ≡ Some node
    pub goes : Leads new table (value_of U (node + 24)) path inner

  pub passes : {s : Selector} {path : List Selector} {inner : Place} → Leads old table place (s ∷ path) inner → Passes s path inner
  passes {s = s} {path = path} {inner = inner} (into form opened i part g o index part_is rest) =
      let forms = same_form form (Form.map U) (sym g ∙ f) in
      let o' : Opens old table place (Form.map U) opened = subst (λ h. Opens old table place h opened) forms o in
      let its_own : Opens old table place (Form.map U) m.opened = m.opens in
      let is : opened ≡ m.opened = Opens-one old table place (Form.map U) opened m.opened o' its_own in
      let label = ap (λ (r : Opened). r.label) is ∙ ap (λ (r : Opened). r.label) m.opens.opened_is in
      let parts = ap (λ (r : Opened). r.parts) is ∙ ap (λ (r : Opened). r.parts) m.opens.opened_is in
      let part' : slice_get (value_places U (nodes_of m.opens.tree)) i ≡ Some part = subst (λ ps. slice_get ps i ≡ Some part) parts part_is in
      let q = key_by (keys_at old (map (λ p. p + 16) (nodes_of m.opens.tree))) s i (subst (λ l. index_of l s ≡ Some i) label index) in
      let a = from_map (value_of U) (map (λ p. p + 24) (nodes_of m.opens.tree)) i part part' in
      let b = from_map (λ p. p + 24) (nodes_of m.opens.tree) i a.x a.at in
      record {
        key = q.0;
        selector_is = q.1;
        i = i;
        node = b.x;
        place_is = q.2;
        node_is = b.at;
        goes = subst (λ p. Leads new table p path inner) (sym a.is ∙ ap (value_of U) (sym b.is)) (Leads-each old new table valid part i m.each part' same kept rest);
      }

-- All paths are kept if the paths of one step or more are kept.
pub paths_by : (old new : List ℕ) (table : Table) (place : Place) → ((s : Selector) (path : List Selector) (inner : Place) → Leads old table place (s ∷ path) inner → Leads new table place (s ∷ path) inner)
    → (path : List Selector) (inner : Place)
    → Leads old table place path inner → Leads new table place path inner
paths_by old new table place h [] inner here = here
paths_by old new table place h (s ∷ path) inner l = h s path inner l
