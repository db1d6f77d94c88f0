-- Cells with null pointers own nothing. A cell's form determines what its targets are.
use Rattle.std.proofs.Common.{◌≡◌, ◌≢◌, ℕ, ◌+◌, ◌*◌, ◌≤◌, inl, inr, true, false, List, [], ◌∷◌, ◌++◌, length, map, Option, Some, None, option_to_list, option_map, refl, sym, ap, ◌∙◌, subst, arith}
use Rattle.seg_spec.specs.Pointer.{target}
use Rattle.seg_spec.specs.Types.{Form, Table, form_at, IsTable, size, fields_of, fields_by}
use Rattle.seg_spec.specs.Value.{Label, Value, node, Values}
use Rattle.seg_spec.specs.Block.{Kind, tag_of, IsBlock, block_of}
use Rattle.seg_spec.specs.Shapes.{leaf, fork, Tree, IsTree, nodes_of, IsRing}
use Rattle.seg_spec.specs.Reads.{Place, Opened, count_at, named, start, spaced, places_of, items, shared_label, Opens, Holds, holds, HoldsEach, holds_none}
use Rattle.seg_spec.specs.Cells.{EachCell}
use Rattle.seg_spec.specs.Sound.{times}
use Rattle.seg_spec.specs.Shared.{named_in, named_each}
use Rattle.seg_spec.specs.Owing.{NamesNothing, IsPart, AreParts, no_parts, more_parts}
use Rattle.seg_spec.proofs.Heap.LiveBlockLaws.{times-same}
use Rattle.seg_spec.proofs.Values.CellLaws.{IsOne}
use Rattle.seg_spec.proofs.Values.CellChangeLaws.{one_cell, length_fields}
use Rattle.seg_spec.proofs.Deallocation.CellDestructionLaws.{same_form}
use Rattle.seg_spec.proofs.Deallocation.PartDestructionLaws.{named_inside}
use Rattle.seg_layout.specs.Forms.{has_cells}
use Rattle.seg_cells.specs.Contents.{ContentOf}
use Rattle.seg_cells.specs.declared.content.Content.{Content}

-- there are no blocks and no targets
pub record Nothing (xs ns : List ℕ) : Type 0 where
  pub no_blocks : xs ≡ []
  pub no_names : ns ≡ []

module _ (bytes : List ℕ) (table : Table) where
  nothing_each : (vs : Values) (owned : List ℕ) → HoldsEach bytes table [] vs owned → (owned ≡ []) × (named_each vs ≡ [])
  unfolding named_in named_each
  nothing_each vs owned holds_none = (refl, refl)

  -- a value with no places inside, in a cell that points to no block and shares no object
  opened_nothing : (opened : Opened) (places : List Place) (v : Value) (inside : Values) (owned xs ns : List ℕ) → ((T q : ℕ) → opened.label ≢ Label.shared T q) → opened.blocks ≡ [] → opened.parts ≡ places → places ≡ [] →
      HoldsEach bytes table opened.parts inside owned → v ≡ node opened.label inside → xs ≡ opened.blocks ++ owned → ns ≡ named_in v → Nothing xs ns
  opened_nothing opened places v inside owned xs ns other b p none hs v_is is names =
      let e = nothing_each inside owned (subst (λ ps. HoldsEach bytes table ps inside owned) (p ∙ none) hs) in
      record { no_blocks = is ∙ ap (λ bs. bs ++ owned) b ∙ e.0; no_names = names ∙ ap named_in v_is ∙ named_inside opened.label inside other ∙ e.1 }

  label_of : {opened is : Opened} → opened ≡ is → opened.label ≡ is.label
  label_of e = ap (λ (r : Opened). r.label) e

  blocks_of : {opened is : Opened} → opened ≡ is → opened.blocks ≡ is.blocks
  blocks_of e = ap (λ (r : Opened). r.blocks) e

  parts_of : {opened is : Opened} → opened ≡ is → opened.parts ≡ is.parts
  parts_of e = ap (λ (r : Opened). r.parts) e

  no_named : (at : ℕ) → target bytes at ≡ None → named bytes at ≡ []
  no_named at e = ap (λ o. option_to_list (option_map block_of o)) e

  no_items : (at U n : ℕ) → n ≡ 0 → items table at U n ≡ []
  no_items at U n e = rw e refl

  -- a value whose cell points to nothing owns nothing and shares nothing
  null_by : (place : Place) (form : Form) (opened : Opened) (v : Value) (inside : Values) (owned xs ns : List ℕ) → target bytes place.at ≡ None → ((Us : List ℕ) → form ≡ Form.struct Us → ⊥) →
      Opens bytes table place form opened → HoldsEach bytes table opened.parts inside owned → v ≡ node opened.label inside → xs ≡ opened.blocks ++ owned → ns ≡ named_in v → Nothing xs ns
  null_by place Form.i64 opened v inside owned xs ns e flat o = opened_nothing opened [] v inside owned xs ns (λ T q l. let k = label_of o in cc) (blocks_of o) (parts_of o) refl
  null_by place Form.str opened v inside owned xs ns e flat o =
      opened_nothing opened [] v inside owned xs ns (λ T q l. let k = label_of o.opened_is in cc) (blocks_of o.opened_is ∙ no_named place.at e) (parts_of o.opened_is) refl
  null_by place (Form.vec U) opened v inside owned xs ns e flat o =
      opened_nothing opened _ v inside owned xs ns (λ T q l. let k = label_of o.opened_is in cc) (blocks_of o.opened_is ∙ no_named place.at e) (parts_of o.opened_is)
      (no_items (start bytes place.at) U (count_at bytes place.at) (rw e at o.named_room))
  null_by place (Form.flat_map U) opened v inside owned xs ns e flat o =
      let zero_count : count_at bytes place.at ≡ 0 = rw e at o.named_room in
      opened_nothing opened (places_of U (map (λ p. p + 8) (spaced (start bytes place.at) (8 + size table U) (count_at bytes place.at)))) v inside owned xs ns (λ T q l. let k = label_of o.opened_is in cc)
      (blocks_of o.opened_is ∙ no_named place.at e) (parts_of o.opened_is) (rw zero_count refl)
  null_by place (Form.own U) opened v inside owned xs ns e flat o =
      opened_nothing opened _ v inside owned xs ns (λ T q l. let k = label_of o.opened_is in cc) (blocks_of o.opened_is ∙ no_named place.at e) (parts_of o.opened_is)
      (no_items (start bytes place.at) U (count_at bytes place.at) (rw e at o.named_room))
  null_by place (Form.shared U) opened v inside owned xs ns e flat o =
      let null : opened.label ≡ Label.opt = label_of o.opened_is ∙ ap (shared_label U) e in
      opened_nothing opened [] v inside owned xs ns (λ T q l. cc) (blocks_of o.opened_is) (parts_of o.opened_is) refl
  null_by place (Form.list U) opened v inside owned xs ns e flat o =
      let none : o.nodes ≡ [] = no_nodes o.nodes (subst (λ t. IsRing bytes t o.nodes) e o.ring) in
      opened_nothing opened (places_of U (map (λ p. p + 8) o.nodes)) v inside owned xs ns (λ T q l. let k = label_of o.opened_is in cc) (blocks_of o.opened_is ∙ ap (map block_of) none) (parts_of o.opened_is)
      (ap (λ ns. places_of U (map (λ p. p + 8) ns)) none)
    where
      no_nodes : (nodes : List ℕ) → IsRing bytes None nodes → nodes ≡ []
      no_nodes [] r = refl
      no_nodes (x ∷ ys) r = absurd r
  null_by place (Form.map U) opened v inside owned xs ns e flat o =
      let none : nodes_of o.tree ≡ [] = no_nodes o.tree (subst (λ t. IsTree bytes t o.tree) e o.is_tree) in
      opened_nothing opened (places_of U (map (λ p. p + 24) (nodes_of o.tree))) v inside owned xs ns (λ T q l. let k = label_of o.opened_is in cc) (blocks_of o.opened_is ∙ ap (map block_of) none) (parts_of o.opened_is)
      (ap (λ ns. places_of U (map (λ p. p + 24) ns)) none)
    where
      no_nodes : (tree : Tree) → IsTree bytes None tree → nodes_of tree ≡ []
      no_nodes leaf t = refl
      no_nodes (fork left at colour right) t = absurd t
  null_by place (Form.struct Us) opened v inside owned xs ns e flat o = absurd (flat Us refl)

  no_struct : (T : ℕ) → IsTable table → length (fields_of table T) ≡ 0 → (Us : List ℕ) → form_at table T ≡ Some (Form.struct Us) → ⊥
  no_struct T valid few Us f =
      let less = valid.forms T (Form.struct Us) f in
      let long = length_fields table 0 Us in
      let same : length (fields_of table T) ≡ length (fields_by table (Some (Form.struct Us))) = ap (λ o. length (fields_by table o)) f in
      let some = less.0 in
      omega arith

  pub null_owns : (place : Place) (xs ns : List ℕ) → IsTable table → length (fields_of table place.type) ≡ 0 → target bytes place.at ≡ None → IsPart bytes table place xs ns → Nothing xs ns
  null_owns place xs ns valid few e (inl (v, holds form opened inside owned g o hs v_is is, names)) =
      null_by place form opened v inside owned xs ns e (λ Us same. no_struct place.type valid few Us (g ∙ ap Some same)) o hs v_is is names
  null_owns place xs ns valid few e (inr h) = record { no_blocks = h.1; no_names = h.2 }

  -- a value of a type without pointers owns nothing and shares nothing
  no_cells_by : (place : Place) (o : Option Form) (xs ns : List ℕ) → form_at table place.type ≡ o → has_cells o ≡ false → IsPart bytes table place xs ns → Nothing xs ns
  no_cells_by place o xs ns f h (inr n) = record { no_blocks = n.1; no_names = n.2 }
  no_cells_by place (Some Form.i64) xs ns f h (inl (v, holds form opened inside owned g o hs v_is is, names)) =
      let same = same_form form Form.i64 (sym g ∙ f) in
      let o' : Opens bytes table place Form.i64 opened = subst (λ k. Opens bytes table place k opened) same o in
      opened_nothing opened [] v inside owned xs ns (λ T q l. let k = label_of o' in cc) (blocks_of o') (parts_of o') refl hs v_is is names
  no_cells_by place None xs ns f h (inl (v, holds form opened inside owned g o hs v_is is, names)) = let e : None ≡ Some form = sym f ∙ g in absurd (cc)
  no_cells_by place (Some (Form.struct Us)) xs ns f h (inl n) = absurd (cc)
  no_cells_by place (Some Form.str) xs ns f h (inl n) = absurd (cc)
  no_cells_by place (Some (Form.vec U)) xs ns f h (inl n) = absurd (cc)
  no_cells_by place (Some (Form.list U)) xs ns f h (inl n) = absurd (cc)
  no_cells_by place (Some (Form.flat_map U)) xs ns f h (inl n) = absurd (cc)
  no_cells_by place (Some (Form.map U)) xs ns f h (inl n) = absurd (cc)
  no_cells_by place (Some (Form.own U)) xs ns f h (inl n) = absurd (cc)
  no_cells_by place (Some (Form.shared U)) xs ns f h (inl n) = absurd (cc)

  pub no_cells_own : (place : Place) (xs ns : List ℕ) → has_cells (form_at table place.type) ≡ false → IsPart bytes table place xs ns → Nothing xs ns
  no_cells_own place xs ns h part = no_cells_by place (form_at table place.type) xs ns refl h part

  pub no_cells_parts : (U : ℕ) (ps xs ns : List ℕ) → has_cells (form_at table U) ≡ false → AreParts bytes table (places_of U ps) xs ns → Nothing xs ns
  no_cells_parts U [] xs ns h no_parts = record { no_blocks = refl; no_names = refl }
  no_cells_parts U (p ∷ ps) xs ns h (more_parts {blocks = blocks} {rest = rest} {names = vs} {others = ws} first more) =
      let one = no_cells_own (record { at = p; type = U }) blocks vs h first in
      let others = no_cells_parts U ps rest ws h more in
      record { no_blocks = ap (λ bs. bs ++ rest) one.no_blocks ∙ others.no_blocks; no_names = ap (λ bs. bs ++ ws) one.no_names ∙ others.no_names }

  -- if all cells of a value are null, its first cell is null
  at_first : (place : Place) (form : Form) (valid : IsTable table) → form_at table place.type ≡ Some form → IsOne table valid form → EachCell table place.type (λ d k. NamesNothing bytes (place.at + d) k) → target bytes place.at ≡ None
  at_first place form valid f one a =
      let a' = rw (one_cell table valid place.type form f one) at a in
      let zero_off : place.at + 0 ≡ place.at = omega arith in
      first place.at form one (rw (zero_off, f) at a'.0)
    where
      first : (at : ℕ) (form : Form) → IsOne table valid form → NamesNothing bytes at (Some form) → target bytes at ≡ None
      first at Form.i64 one h = absurd one
      first at (Form.struct Us) one h = absurd one
      first at Form.str one h = h
      first at (Form.vec U) one h = h
      first at (Form.list U) one h = h
      first at (Form.flat_map U) one h = h
      first at (Form.map U) one h = h
      first at (Form.own U) one h = h
      first at (Form.shared U) one h = h

  named_shared : (U p : ℕ) (vs : Values) → named_in (node (Label.shared U p) vs) ≡ p ∷ named_each vs
  unfolding named_in named_each
  named_shared U p vs = refl

  -- the value owns nothing and shares the object at p
  pub record SharesIt (p : ℕ) (xs ns : List ℕ) : Type 0 where
    pub no_blocks : xs ≡ []
    pub name : ns ≡ p ∷ []

  shared_by : (place : Place) (o : Option Form) (p : ℕ) (xs ns : List ℕ) → (valid : IsTable table) → length (fields_of table place.type) ≡ 0 → has_cells o ≡ true → target bytes place.at ≡ Some p → form_at table place.type ≡ o →
      ContentOf table place.type o None → IsPart bytes table place xs ns → SharesIt p xs ns
  shared_by place None p xs ns valid few some e f h part = absurd (cc)
  shared_by place (Some Form.i64) p xs ns valid few some e f h part = absurd (cc)
  shared_by place (Some (Form.struct Us)) p xs ns valid few some e f h part = absurd (no_struct place.type valid few Us f)
  shared_by place (Some Form.str) p xs ns valid few some e f h part = absurd h
  shared_by place (Some (Form.vec U)) p xs ns valid few some e f h part = absurd h
  shared_by place (Some (Form.list U)) p xs ns valid few some e f h part = absurd h
  shared_by place (Some (Form.flat_map U)) p xs ns valid few some e f h part = absurd h
  shared_by place (Some (Form.map U)) p xs ns valid few some e f h part = absurd h
  shared_by place (Some (Form.own U)) p xs ns valid few some e f h part = absurd h
  shared_by place (Some (Form.shared U)) p xs ns valid few some e f h (inr n) = let z = at_first place (Form.shared U) valid f tt n.0 in absurd (cc)
  shared_by place (Some (Form.shared U)) p xs ns valid few some e f h (inl (v, holds form opened inside owned g o hs v_is is, names)) =
      let same = same_form form (Form.shared U) (sym g ∙ f) in
      let o' : Opens bytes table place (Form.shared U) opened = subst (λ k. Opens bytes table place k opened) same o in
      let inside_none = nothing_each inside owned (subst (λ ps. HoldsEach bytes table ps inside owned) (parts_of o'.opened_is) hs) in
      let label : opened.label ≡ Label.shared U p = label_of o'.opened_is ∙ ap (shared_label U) e in
      record {
        no_blocks = is ∙ ap (λ bs. bs ++ owned) (blocks_of o'.opened_is) ∙ inside_none.0;
        name = names ∙ ap named_in v_is ∙ ap (λ l. named_in (node l inside)) label ∙ named_shared U p inside ∙ ap (λ ms. p ∷ ms) inside_none.1;
      }

  pub shared_there : (place : Place) (content : Option Content) (p : ℕ) (xs ns : List ℕ) → IsTable table → length (fields_of table place.type) ≡ 0 → has_cells (form_at table place.type) ≡ true → target bytes place.at ≡ Some p →
      content ≡ None →
      ContentOf table place.type (form_at table place.type) content → IsPart bytes table place xs ns → SharesIt p xs ns
  shared_there place content p xs ns valid few some e none h part =
      shared_by place (form_at table place.type) p xs ns valid few some e refl (subst (λ k. ContentOf table place.type (form_at table place.type) k) none h) part

  -- a cell with content that isn't null contains a value
  held_by : (place : Place) (o : Option Form) (content : Content) (p : ℕ) (valid : IsTable table) → form_at table place.type ≡ o → ContentOf table place.type o (Some content) → target bytes place.at ≡ Some p →
      EachCell table place.type (λ d k. NamesNothing bytes (place.at + d) k) → ⊥
  held_by place None content p valid f h e n = h
  held_by place (Some Form.i64) content p valid f h e n = h
  held_by place (Some (Form.struct Us)) content p valid f h e n = h
  held_by place (Some Form.str) content p valid f h e n = let z = at_first place Form.str valid f tt n in cc
  held_by place (Some (Form.vec U)) content p valid f h e n = let z = at_first place (Form.vec U) valid f tt n in cc
  held_by place (Some (Form.list U)) content p valid f h e n = let z = at_first place (Form.list U) valid f tt n in cc
  held_by place (Some (Form.flat_map U)) content p valid f h e n = let z = at_first place (Form.flat_map U) valid f tt n in cc
  held_by place (Some (Form.map U)) content p valid f h e n = let z = at_first place (Form.map U) valid f tt n in cc
  held_by place (Some (Form.own U)) content p valid f h e n = let z = at_first place (Form.own U) valid f tt n in cc
  held_by place (Some (Form.shared U)) content p valid f h e n = h

  pub held_there : (place : Place) (content : Content) (p : ℕ) (xs ns : List ℕ) → IsTable table → ContentOf table place.type (form_at table place.type) (Some content) → target bytes place.at ≡ Some p →
      IsPart bytes table place xs ns → (v : Value) × Holds bytes table place v xs × (ns ≡ named_in v)
  held_there place content p xs ns valid h e (inl held) = held
  held_there place content p xs ns valid h e (inr n) = absurd (held_by place (form_at table place.type) content p valid refl h e n.0)

  -- ---- blocks of buffers

  -- the buffer that a cell points to is a block with room for the items, and the value owns it
  pub record NamedBuffer (T p n : ℕ) (xs : List ℕ) : Type 0 where
    pub block : IsBlock bytes p (tag_of Kind.buffer T) n
    pub mine : 1 ≤ times (block_of p) xs

  named_mine : (at p : ℕ) (opened : Opened) (owned xs : List ℕ) → target bytes at ≡ Some p → opened.blocks ≡ named bytes at → xs ≡ opened.blocks ++ owned → 1 ≤ times (block_of p) xs
  named_mine at p opened owned xs e b is =
      let all : xs ≡ block_of p ∷ owned = is ∙ ap (λ bs. bs ++ owned) (b ∙ ap (λ o. option_to_list (option_map block_of o)) e) in
      subst (λ ys. 1 ≤ times (block_of p) ys) (sym all) (omega (arith, times-same (block_of p) owned))

  pub vector_named : (place : Place) (p U : ℕ) (v : Value) (xs : List ℕ) → form_at table place.type ≡ Some (Form.vec U) → target bytes place.at ≡ Some p → Holds bytes table place v xs →
      NamedBuffer place.type p (count_at bytes place.at * size table U) xs
  vector_named place p U v xs f e (holds form opened inside owned g o hs v_is is) =
      let same = same_form form (Form.vec U) (sym g ∙ f) in
      let o' : Opens bytes table place (Form.vec U) opened = subst (λ h. Opens bytes table place h opened) same o in
      record { block = rw e at o'.named_room; mine = named_mine place.at p opened owned xs e (blocks_of o'.opened_is) is }

  pub flat_map_named : (place : Place) (p U : ℕ) (v : Value) (xs : List ℕ) → form_at table place.type ≡ Some (Form.flat_map U) → target bytes place.at ≡ Some p → Holds bytes table place v xs →
      NamedBuffer place.type p (count_at bytes place.at * (8 + size table U)) xs
  flat_map_named place p U v xs f e (holds form opened inside owned g o hs v_is is) =
      let same = same_form form (Form.flat_map U) (sym g ∙ f) in
      let o' : Opens bytes table place (Form.flat_map U) opened = subst (λ h. Opens bytes table place h opened) same o in
      record { block = rw e at o'.named_room; mine = named_mine place.at p opened owned xs e (blocks_of o'.opened_is) is }
