-- The kind of a type's maps, by the layout of what its cells point to.
use Rattle.std.proofs.Common.{◌≡◌, ℕ, Bool, true, false, IsOkUnless, Option, Some, None, Result, Ok, Err, ℤ, List, sym, ap, ◌∙◌, subst, refl, arith}
use Rattle.std.specs.Option.{ok_or}
use Rattle.std.specs.Result.{result_ok}
use Rattle.seg_spec.specs.Block.{tag_of, Kind as block}
use Rattle.seg_raw.specs.declared.code.Code.{Code}
use Rattle.seg_spec.specs.Types.{Form, Table}
use Rattle.seg_cells.specs.Contents.{ContentOf, IsContent}
use Rattle.seg_cells.specs.declared.content.Content.{Content}
use Rattle.seg_cells.specs.declared.content.Shape.{Shape}
use Rattle.seg_cells.specs.declared.content.Shape.TheVariants as shape
use Rattle.seg_raw.specs.declared.code.Code.TheVariants as code
use Rattle.seg_map.specs.declared.map.MapKind.TheVariants as kind
use Rattle.seg_map.specs.EitherMap.{MapKindOf, IsMapOf, has_keys, key_asks, KeepsTreePaths, KeepsKeysBut}
use Rattle.seg_map.specs.Trees.{NamesTree}
use Rattle.seg_map.specs.declared.key_value.KeyValue.{KeyValue}
use Rattle.seg_map.specs.Maps.{FindsValue, FindsEntry, PutsKey, RemovesKey}
use Rattle.seg_spec.specs.Items.{key_place}
use Rattle.seg_spec.specs.Value.{Values}
use Rattle.seg_spec.specs.Reads.{Place}
use Rattle.seg_map.specs.declared.map.MapKind as map

module _ (table : Table) (T : ℕ) where
  pub no_kind : (o : Option Form) → ContentOf table T o None → MapKindOf table T o (Err code.OtherType)
  no_kind None of = refl
  no_kind (Some Form.i64) of = refl
  no_kind (Some (Form.struct Us)) of = refl
  no_kind (Some Form.str) of = absurd of
  no_kind (Some (Form.vec U)) of = absurd of
  no_kind (Some (Form.list U)) of = absurd of
  no_kind (Some (Form.flat_map U)) of = absurd of
  no_kind (Some (Form.map U)) of = absurd of
  no_kind (Some (Form.own U)) of = absurd of
  no_kind (Some (Form.shared U)) of = refl

  module _ (c : Content) where
    no_shape : (s t : Shape) → c.shape ≡ s → c.shape ≡ t → s ≡ t
    no_shape s t e f = sym e ∙ f

    pub flat_kind : (o : Option Form) → ContentOf table T o (Some c) → c.shape ≡ shape.Buffer → c.entry.before ≡ 8 → MapKindOf table T o (Ok (kind.Flat c))
    flat_kind None of is keys = absurd of
    flat_kind (Some Form.i64) of is keys = absurd of
    flat_kind (Some (Form.struct Us)) of is keys = absurd of
    flat_kind (Some Form.str) of is keys = let b = of.before_is in absurd (omega arith)
    flat_kind (Some (Form.vec U)) of is keys = let b = of.entry_is.before_is in absurd (omega arith)
    flat_kind (Some (Form.list U)) of is keys = let e = no_shape shape.Ring shape.Buffer of.shape_is is in absurd (cc)
    flat_kind (Some (Form.flat_map U)) of is keys = of
    flat_kind (Some (Form.map U)) of is keys = let e = no_shape shape.Tree shape.Buffer of.shape_is is in absurd (cc)
    flat_kind (Some (Form.own U)) of is keys = let e = no_shape shape.Object shape.Buffer of.shape_is is in absurd (cc)
    flat_kind (Some (Form.shared U)) of is keys = absurd of

    pub tree_kind : (o : Option Form) → ContentOf table T o (Some c) → c.shape ≡ shape.Tree → MapKindOf table T o (Ok (kind.Tree c))
    tree_kind None of is = absurd of
    tree_kind (Some Form.i64) of is = absurd of
    tree_kind (Some (Form.struct Us)) of is = absurd of
    tree_kind (Some Form.str) of is = let e = no_shape shape.Buffer shape.Tree of.shape_is is in absurd (cc)
    tree_kind (Some (Form.vec U)) of is = let e = no_shape shape.Buffer shape.Tree of.shape_is is in absurd (cc)
    tree_kind (Some (Form.list U)) of is = let e = no_shape shape.Ring shape.Tree of.shape_is is in absurd (cc)
    tree_kind (Some (Form.flat_map U)) of is = let e = no_shape shape.Buffer shape.Tree of.shape_is is in absurd (cc)
    tree_kind (Some (Form.map U)) of is = of
    tree_kind (Some (Form.own U)) of is = let e = no_shape shape.Object shape.Tree of.shape_is is in absurd (cc)
    tree_kind (Some (Form.shared U)) of is = absurd of

    pub other_kind : (o : Option Form) → ContentOf table T o (Some c) → (c.shape ≡ shape.Buffer → c.entry.before ≡ 8 → ⊥) → (c.shape ≡ shape.Tree → ⊥) → MapKindOf table T o (Err code.OtherType)
    other_kind None of no_flat no_tree = refl
    other_kind (Some Form.i64) of no_flat no_tree = refl
    other_kind (Some (Form.struct Us)) of no_flat no_tree = refl
    other_kind (Some Form.str) of no_flat no_tree = refl
    other_kind (Some (Form.vec U)) of no_flat no_tree = refl
    other_kind (Some (Form.list U)) of no_flat no_tree = refl
    other_kind (Some (Form.flat_map U)) of no_flat no_tree = absurd (no_flat of.shape_is of.entry_is.before_is)
    other_kind (Some (Form.map U)) of no_flat no_tree = absurd (no_tree of.shape_is)
    other_kind (Some (Form.own U)) of no_flat no_tree = refl
    other_kind (Some (Form.shared U)) of no_flat no_tree = refl

content_found : (o : Option Content) (r : Result Content Code) (c : Content) → r ≡ ok_or o code.OtherType → r ≡ Ok c → o ≡ Some c
content_found None r c e f = cc
content_found (Some d) r c e f = cc

content_none : (o : Option Content) (r : Result Content Code) (x : Code) → r ≡ ok_or o code.OtherType → r ≡ Err x → o ≡ None
content_none None r x e f = refl
content_none (Some d) r x e f = cc

pub found_content : (table : Table) (T : ℕ) (f : Option Form) (o : Option Content) (r : Result Content Code) (c : Content) → ContentOf table T f o → r ≡ ok_or o code.OtherType → r ≡ Ok c → ContentOf table T f (Some c)
found_content table T f o r c of e is = subst (ContentOf table T f) (content_found o r c e is) of

pub found_none : (table : Table) (T : ℕ) (f : Option Form) (o : Option Content) (r : Result Content Code) (x : Code) → ContentOf table T f o → r ≡ ok_or o code.OtherType → r ≡ Err x → ContentOf table T f None
found_none table T f o r x of e is = subst (ContentOf table T f) (content_none o r x e is) of

-- ---- the two kinds

-- a flat kind means a flat map's form, and a tree kind a tree map's form
pub as_flat : (table : Table) (T : ℕ) (o : Option Form) (c : Content) (U : ℕ) → MapKindOf table T o (Ok (kind.Flat c)) → IsMapOf o U → (o ≡ Some (Form.flat_map U)) × IsContent table shape.Buffer (tag_of block.buffer T) 8 U c
as_flat table T None c U k m = absurd k
as_flat table T (Some Form.i64) c U k m = absurd k
as_flat table T (Some Form.str) c U k m = absurd k
as_flat table T (Some (Form.vec V)) c U k m = absurd k
as_flat table T (Some (Form.list V)) c U k m = absurd k
as_flat table T (Some (Form.map V)) c U k m = absurd k
as_flat table T (Some (Form.own V)) c U k m = absurd k
as_flat table T (Some (Form.shared V)) c U k m = absurd k
as_flat table T (Some (Form.struct Us)) c U k m = absurd k
as_flat table T (Some (Form.flat_map V)) c U k m = (ap (λ W. Some (Form.flat_map W)) m, subst (λ W. IsContent table shape.Buffer (tag_of block.buffer T) 8 W c) m k)

pub as_tree : (table : Table) (T : ℕ) (o : Option Form) (c : Content) (U : ℕ) → MapKindOf table T o (Ok (kind.Tree c)) → IsMapOf o U → (o ≡ Some (Form.map U)) × NamesTree table T U c
as_tree table T None c U k m = absurd k
as_tree table T (Some Form.i64) c U k m = absurd k
as_tree table T (Some Form.str) c U k m = absurd k
as_tree table T (Some (Form.vec V)) c U k m = absurd k
as_tree table T (Some (Form.list V)) c U k m = absurd k
as_tree table T (Some (Form.flat_map V)) c U k m = absurd k
as_tree table T (Some (Form.own V)) c U k m = absurd k
as_tree table T (Some (Form.shared V)) c U k m = absurd k
as_tree table T (Some (Form.struct Us)) c U k m = absurd k
as_tree table T (Some (Form.map V)) c U k m = (ap (λ W. Some (Form.map W)) m, subst (λ W. NamesTree table T W c) m k)

-- exactly the forms with keys have a kind
pub kind_keys : (table : Table) (T : ℕ) (o : Option Form) (k : map.MapKind) → MapKindOf table T o (Ok k) → has_keys o ≡ true
kind_keys table T None k h = absurd h
kind_keys table T (Some Form.i64) k h = absurd h
kind_keys table T (Some Form.str) k h = absurd h
kind_keys table T (Some (Form.vec V)) k h = absurd h
kind_keys table T (Some (Form.list V)) k h = absurd h
kind_keys table T (Some (Form.own V)) k h = absurd h
kind_keys table T (Some (Form.shared V)) k h = absurd h
kind_keys table T (Some (Form.struct Us)) k h = absurd h
kind_keys table T (Some (Form.flat_map V)) k h = refl
kind_keys table T (Some (Form.map V)) k h = refl

pub record NoKind (o : Option Form) (error : Code) : Type 0 where
  pub keys : has_keys o ≡ false
  pub code_is : error ≡ code.OtherType
  pub no_map : (U : ℕ) → IsMapOf o U → ⊥

pub kind_none : (table : Table) (T : ℕ) (o : Option Form) (e : Code) → MapKindOf table T o (Err e) → NoKind o e
kind_none table T None e h = record { keys = refl; code_is = h; no_map = λ U m. m }
kind_none table T (Some Form.i64) e h = record { keys = refl; code_is = h; no_map = λ U m. m }
kind_none table T (Some Form.str) e h = record { keys = refl; code_is = h; no_map = λ U m. m }
kind_none table T (Some (Form.vec V)) e h = record { keys = refl; code_is = h; no_map = λ U m. m }
kind_none table T (Some (Form.list V)) e h = record { keys = refl; code_is = h; no_map = λ U m. m }
kind_none table T (Some (Form.own V)) e h = record { keys = refl; code_is = h; no_map = λ U m. m }
kind_none table T (Some (Form.shared V)) e h = record { keys = refl; code_is = h; no_map = λ U m. m }
kind_none table T (Some (Form.struct Us)) e h = record { keys = refl; code_is = h; no_map = λ U m. m }
kind_none table T (Some (Form.flat_map V)) e h = absurd h
kind_none table T (Some (Form.map V)) e h = absurd h

pub ok_again : {X : Type 0} (o : Option X) (r : Result X Code) (e : Code) → r ≡ ok_or o e → result_ok r ≡ o
ok_again None r e is = ap result_ok is
ok_again (Some x) r e is = ap result_ok is

pub only_code : {X : Type 0} (o : Option X) (r : Result X Code) (e : Code) → r ≡ ok_or o e → IsOkUnless r e
only_code None r e is = subst (λ q. IsOkUnless q e) (sym is) refl
only_code (Some x) r e is = subst (λ q. IsOkUnless q e) (sym is) tt

-- ---- the results of the calls

pub found_by : (bytes : List ℕ) (table : Table) (place : Place) (U : ℕ) (keys : List ℤ) (key passed : ℤ) → passed ≡ key → (o p : Option ℕ) → o ≡ p → (r : Result ℕ Code) (e : Code) → r ≡ ok_or o e
    → FindsValue bytes table place U keys passed p → FindsValue bytes table place U keys key (result_ok r)
found_by bytes table place U keys key passed same o p is r e r_is h =
    subst (FindsValue bytes table place U keys key) (sym (ok_again o r e r_is ∙ is)) (subst (λ k. FindsValue bytes table place U keys k p) same h)

pub entry_by : (bytes : List ℕ) (table : Table) (place : Place) (U : ℕ) (key passed : Option ℤ) → passed ≡ key → (o p : Option KeyValue) → o ≡ p → (r : Result KeyValue Code) (e : Code) → r ≡ ok_or o e
    → FindsEntry bytes table place U passed p → FindsEntry bytes table place U key (result_ok r)
entry_by bytes table place U key passed same o p is r e r_is h =
    subst (FindsEntry bytes table place U key) (sym (ok_again o r e r_is ∙ is)) (subst (λ k. FindsEntry bytes table place U k p) same h)

pub puts_by : (allocator : ℕ) (old new : List ℕ) (table : Table) (place : Place) (U : ℕ) (keys : List ℤ) (vs : Values) (blocks : List ℕ) (o : Option Form) (form : Form) → o ≡ Some form → (key passed : ℤ) → passed ≡ key
    → (r : Result ℕ Code) → PutsKey allocator old new table place U keys vs passed blocks (key_asks old table place.at (Some form)) (key_place keys passed) r
    → PutsKey allocator old new table place U keys vs key blocks (key_asks old table place.at o) (key_place keys key) r
puts_by allocator old new table place U keys vs blocks o form is key passed same r h =
    subst (λ f. PutsKey allocator old new table place U keys vs key blocks (key_asks old table place.at f) (key_place keys key) r) (sym is)
    (subst (λ k. PutsKey allocator old new table place U keys vs k blocks (key_asks old table place.at (Some form)) (key_place keys k) r) same h)

pub removes_by : (old new : List ℕ) (table : Table) (place : Place) (keys : List ℤ) (vs : Values) (home : ℕ) (blocks : List ℕ) (o : Option Form) (form : Form) → o ≡ Some form → (key passed : ℤ) → passed ≡ key → (gone : Bool)
    → RemovesKey old new table place keys vs home blocks (KeepsKeysBut (Some form) old new table place passed) (key_place keys passed) gone
    → RemovesKey old new table place keys vs home blocks (KeepsKeysBut o old new table place key) (key_place keys key) gone
removes_by old new table place keys vs home blocks o form is key passed same gone h =
    subst (λ f. RemovesKey old new table place keys vs home blocks (KeepsKeysBut f old new table place key) (key_place keys key) gone) (sym is)
    (subst (λ k. RemovesKey old new table place keys vs home blocks (KeepsKeysBut (Some form) old new table place k) (key_place keys k) gone) same h)

pub tree_paths_by : (old new : List ℕ) (table : Table) (place : Place) (o : Option Form) (form : Form) → o ≡ Some form → KeepsTreePaths (Some form) old new table place → KeepsTreePaths o old new table place
tree_paths_by old new table place o form is h = subst (λ f. KeepsTreePaths f old new table place) (sym is) h
