-- If an instruction has a row, its operand that is a place refers to an object. SHRINK has one only for
-- a buffer.
use Rattle.std.proofs.Common.{◌≡◌, ◌⊎◌, ℕ, true, false, Bool, List, [], ◌∷◌, Option, Some, None, option_map, inl, inr, refl, sym, ap, ◌∙◌, subst}
use Rattle.std.specs.List.{AllByRecursion}
use Rattle.seg_spec.specs.Bytes.{word}
use Rattle.seg_spec.specs.Header.{next_word}
use Rattle.seg_spec.specs.Types.{Form, Table, form_at}
use Rattle.seg_spec.specs.Value.{Value, nth, Label, node, value_at, default_of}
use Rattle.seg_spec.specs.Block.{has_buffer}
use Rattle.seg_spec.specs.Reads.{Place}
use Rattle.seg_spec.specs.Index.{Root, root_named, root_of_type}
use Rattle.client_spec.proofs.Unfolded.PictureTreeLaws.{pictures_trees}
use Rattle.client_spec.proofs.TypedStates.PutLaws.{has_origin}
use Rattle.client_spec.proofs.TypedStates.ShapeLaws.{IsOf, form_of_value}
use Rattle.client_spec.specs.declared.table.Operation.{Operation}
use Rattle.client_spec.specs.Syntax.{Constant, Instruction}
use Rattle.client_spec.specs.Machine.{◌>>=◌, Origin, Path, Register, Object, State, register, owned_by, at_origin, path_type, type_along, path_value}
use Rattle.client_spec.specs.Answer.{Answer, bad_alloc, path_in, path_of, path_form, text_in, items_in, int_in}
use Rattle.client_spec.specs.Effect.{effect, outcome}
use Rattle.client_spec.specs.Trees.{unfolded_register}
use Rattle.client_spec.specs.Pictures.{object_of, root_of_register, Pictures, PicturesTrees, root_at, meaning_in}
use Rattle.client_spec.specs.Asks.{LedTo}
use Rattle.client_spec.specs.OnImages.{RowWith}
use Rattle.client_spec.proofs.Unfolded.UnfoldedStateLaws.{register_same, origin_same, form_same, unfolded_owned}
use Rattle.client_spec.proofs.TypedStates.PictureLaws.{unique_one, option_some}
use Rattle.client_spec.proofs.TypedStates.ValueLaws.{Some_inj, bind_some, has_value_at}
use Rattle.client_sim.proofs.Objects.OwnedRootLaws.{owned_split}
use Rattle.test_definitions.specs.Alike.{has_count}
use Rattle.test_definitions.proofs.Rows.PathOriginLaws.{at_place, begins_there, shrinks_buffer, type_led, clears_to, put_there, pops_from, stores_in, writes_text}
use Rattle.test_definitions.proofs.Rows.OnePlaceLaws.{RefersTo}

path_unfolded : (m : ℕ → Value) (x : Register) (path : Path) → path_in x ≡ Some path → path_in (unfolded_register m x) ≡ Some path
path_unfolded m Register.Undefined path e = cc
path_unfolded m (Register.Int k) path e = cc
path_unfolded m (Register.Reference p) path e = e
path_unfolded m (Register.Owner v t) path e = cc

was_some : {A B : Type 0} (f : A → B) (o : Option A) (y : B) → option_map f o ≡ Some y → (x : A) × (o ≡ Some x)
was_some f None y e = cc
was_some f (Some x) y e = (x, refl)

module _ {others : List Root} {s : State} {bytes : List ℕ} (p : Pictures others s bytes) where
  -- the type of the object where a path begins
  origin_type : (o : Origin) (root : Root) (item : ℕ) (u : Value) (T : ℕ) → root_at p o ≡ Some (root, item) → at_origin s o ≡ Some (u, T) → T ≡ root.type
  origin_type (Origin.Name name k) root item u T e f =
      let b = option_some (λ (r : Root). (r, k)) (root_named p.picture.names name) (root, item) e in
      let same : b.0 ≡ root = ap (λ (x : Root × ℕ). x.0) b.2 in
      let object : s.names name ≡ Some (object_of root) = p.names name ∙ ap (option_map object_of) b.1 ∙ ap (λ r. Some (object_of r)) same in
      let g : (nth root.values k >>= λ v. Some (v, root.type)) ≡ Some (u, T) = sym (ap (λ o. o >>= λ (o : Object). nth o.values k >>= λ v. Some (v, o.type)) object) ∙ f in
      let q = bind_some (nth root.values k) (λ v. Some (v, root.type)) (u, T) g in
      sym (ap (λ (x : Value × ℕ). x.1) (Some_inj q.2))
  origin_type (Origin.Unique U) root item u T e f =
      let b = option_some (λ (r : Root). (r, 0)) (root_of_type p.picture.uniques U) (root, item) e in
      let same : b.0 ≡ root = ap (λ (x : Root × ℕ). x.0) b.2 in
      let q = bind_some (s.uniques U) (λ v. Some (v, U)) (u, T) f in
      sym (ap (λ (x : Value × ℕ). x.1) (Some_inj q.2)) ∙ (unique_one (λ (r : Root). r ≡ r) p.picture.uniques U b.0 (each_same p.picture.uniques) b.1).1 ∙ ap (λ (r : Root). r.type) same
    where
      each_same : (roots : List Root) → AllByRecursion (λ (r : Root). r ≡ r) roots
      each_same [] = tt
      each_same (r ∷ roots) = (refl, each_same roots)
  origin_type (Origin.Owned k) root item u T e f =
      let b = option_some (λ (r : Root). (r, 0)) (root_of_register s.registers p.owned k) (root, item) e in
      let same : b.0 ≡ root = ap (λ (x : Root × ℕ). x.0) b.2 in
      let o = owned_split s.registers p.owned k b.0 p.are_owned b.1 in
      let pair : (o.value, b.0.type) ≡ (u, T) = Some_inj (sym (ap owned_by o.is) ∙ f) in
      sym (ap (λ (x : Value × ℕ). x.1) pair) ∙ ap (λ (r : Root). r.type) same

module _ (constants : List Constant) (i : Instruction) {others : List Root} (z : State) (bytes : List ℕ) (p : PicturesTrees others z bytes) (answer : Answer) (after : State) (row : RowWith constants i bytes z answer after) where
  record HasRow : Type 0 where
    room : Bool
    reached : Answer × State
    is : outcome constants i room z ≡ Some reached

  has_row : HasRow
  has_row = by row
    where
      by : RowWith constants i bytes z answer after → HasRow
      by (inl (room, e)) = record { room = room; reached = (answer, after); is = e }
      by (inr (w, full)) = record { room = false; reached = (bad_alloc, w.refused); is = w.row }

  abbrev m : ℕ → Value
  m = meaning_in (word bytes next_word) p.pictured.picture

  pub path_then : (path : Path) → path_of p.plain i.b ≡ Some path → path_of z i.b ≡ Some path
  path_then path e = ap (λ (t : State). path_of t i.b) p.trees ∙ ap path_in (register_same m p.plain i.b) ∙ path_unfolded m (register p.plain i.b) path e

  pub refers_to : at_place i.operation ≡ true → RefersTo p.plain i.b
  refers_to places path e =
      let r = has_row in
      let found = begins_there constants i.operation i.a i.b i.c i.number r.room z r.reached places r.is path (path_then path e) in
      was_some (unfolded_owned m) (at_origin p.plain path.origin) found.0 (sym (origin_same m p.plain path.origin) ∙ sym (ap (λ (t : State). at_origin t path.origin) p.trees) ∙ found.1)

  -- the form of the place
  pub form_there : at_place i.operation ≡ true → (place : Place) (form : Form) (l : LedTo constants i p.pictured place form) → path_form z l.path ≡ Some form
  form_there places place form l =
      let found = refers_to places l.path l.path_is in
      let T = origin_type p.pictured l.path.origin l.stands.root l.stands.item found.0.0 found.0.1 l.stands.begins found.1 in
      let typed : path_type p.plain l.path ≡ Some place.type
      = ap (λ o. o >>= λ (x : Value × ℕ). type_along p.plain.types l.path.selectors x.1) found.1 ∙ ap (type_along p.plain.types l.path.selectors) T
      ∙ ap (λ (t : Table). type_along t l.path.selectors l.stands.root.type) (sym p.pictured.types) ∙ type_led bytes p.pictured.picture.table l.stands.leads in
      ap (λ (t : State). path_form t l.path) p.trees ∙ form_same m p.plain l.path ∙ ap (λ o. o >>= form_at p.plain.types) typed ∙ l.form_is

  pub buffer_there : i.operation ≡ Operation.Shrink → (place : Place) (form : Form) → LedTo constants i p.pictured place form → has_buffer (Some form) ≡ true
  buffer_there is place form l =
      let r = has_row in
      shrinks_buffer constants i.a i.b i.c i.number r.room z r.reached (subst (λ op. effect constants op i.a i.b i.c i.number r.room z ≡ Some r.reached) is r.is) l.path form (path_then l.path l.path_is)
      (form_there (ap at_place is) place form l)

  -- CLEAR leaves a default value at the place
  pub cleared_there : i.operation ≡ Operation.Clear → (place : Place) (form : Form) → (l : LedTo constants i p.pictured place form) → (T : ℕ) × (path_value after l.path ≡ Some (default_of z.types T))
  cleared_there is place form l = by row
    where
      by : RowWith constants i bytes z answer after → (T : ℕ) × (path_value after l.path ≡ Some (default_of z.types T))
      by (inl (room, e)) =
          let c = clears_to constants i.a i.b i.c i.number room z (answer, after) (subst (λ op. effect constants op i.a i.b i.c i.number room z ≡ Some (answer, after)) is e) l.path (path_then l.path l.path_is) in
          (c.1, ap (λ (t : State). path_value t l.path) c.3 ∙ put_there z l.path c.0 (default_of z.types c.1) c.2)
      by (inr (w, full)) = absurd (let h : Operation.Freeze ≡ Operation.Clear = sym w.freezes ∙ is in cc)

  -- the value of the place has the place's form
  pub typed_there : at_place i.operation ≡ true → (place : Place) (form : Form) (l : LedTo constants i p.pictured place form) (v : Value) → path_value z l.path ≡ Some v → IsOf z.types form v
  typed_there places place form l v e =
      let found = bind_some (at_origin z l.path.origin) (λ (x : Value × ℕ). value_at x.0 l.path.selectors) v e in
      let named = bind_some (path_type z l.path) (form_at z.types) form (form_there places place form l) in
      let typed : type_along z.types l.path.selectors found.0.1 ≡ Some named.0
      = sym (ap (λ o. o >>= λ (x : Value × ℕ). type_along z.types l.path.selectors x.1) found.1) ∙ named.1 in
      let root = has_origin z l.path.origin found.0.0 found.0.1 (pictures_trees p).0 found.1 in
      form_of_value z.types named.0 form named.2 v (has_value_at z.types l.path.selectors found.0.1 named.0 found.0.0 v root typed found.2)

  -- a text, a vector or a list has a count
  pub count_there : i.operation ≡ Operation.PopBack → (place : Place) (form : Form) → LedTo constants i p.pictured place form → has_count form ≡ true
  count_there is place form l =
      let r = has_row in
      let v = pops_from constants i.a i.b i.c i.number r.room z r.reached (subst (λ op. effect constants op i.a i.b i.c i.number r.room z ≡ Some r.reached) is r.is) l.path (path_then l.path l.path_is) in
      counted form v.0 (typed_there (ap at_place is) place form l v.0 v.1) v.2
    where
      counted : (form : Form) (v : Value) → IsOf z.types form v → (text_in v ≡ None → items_in v ≡ None → ⊥) → has_count form ≡ true
      counted Form.i64 (node (Label.int k) vs) is pops = absurd (pops refl refl)
      counted (Form.struct fields) (node Label.struct vs) is pops = absurd (pops refl refl)
      counted Form.i64 (node label vs) is pops = absurd is.0
      counted (Form.struct fields) (node label vs) is pops = absurd is.0
      counted form v is pops = refl

  -- STORE has a row only for a number
  pub number_there : i.operation ≡ Operation.Store → (place : Place) (form : Form) → LedTo constants i p.pictured place form → form ≡ Form.i64
  number_there is place form l =
      let r = has_row in
      let v = stores_in constants i.a i.b i.c i.number r.room z r.reached (subst (λ op. effect constants op i.a i.b i.c i.number r.room z ≡ Some r.reached) is r.is) l.path (path_then l.path l.path_is) in
      number form v.0 (typed_there (ap at_place is) place form l v.0 v.1) v.2
    where
      number : (form : Form) (v : Value) → IsOf z.types form v → (int_in v ≡ None → ⊥) → form ≡ Form.i64
      number Form.i64 v is some = refl
      number Form.str (node (Label.text bytes) vs) is some = absurd (some refl)
      number (Form.vec U) (node Label.seq vs) is some = absurd (some refl)
      number (Form.list U) (node Label.seq vs) is some = absurd (some refl)
      number (Form.flat_map U) (node (Label.map keys) vs) is some = absurd (some refl)
      number (Form.map U) (node (Label.map keys) vs) is some = absurd (some refl)
      number (Form.own U) (node Label.opt vs) is some = absurd (some refl)
      number (Form.struct fields) (node Label.struct vs) is some = absurd (some refl)
      number (Form.shared U) (node Label.opt vs) is some = absurd (some refl)
      number (Form.shared U) (node (Label.shared T a) vs) is some = absurd (some refl)
      number form (node label vs) is some = absurd is.0

  -- SETS, ADDS and ADDB have a row only for a text
  pub text_there : (i.operation ≡ Operation.SetStr) ⊎ (i.operation ≡ Operation.AddStr) ⊎ (i.operation ≡ Operation.AddByte) → (place : Place) (form : Form) → LedTo constants i p.pictured place form → form ≡ Form.str
  text_there which place form l =
      let r = has_row in
      let v = writes_text constants i.a i.b i.c i.number r.room z r.reached which r.is l.path (path_then l.path l.path_is) in
      text form v.0 (typed_there (places which) place form l v.0 v.1) v.2
    where
      places : (i.operation ≡ Operation.SetStr) ⊎ (i.operation ≡ Operation.AddStr) ⊎ (i.operation ≡ Operation.AddByte) → at_place i.operation ≡ true
      places (inl e) = ap at_place e
      places (inr (inl e)) = ap at_place e
      places (inr (inr e)) = ap at_place e

      text : (form : Form) (v : Value) → IsOf z.types form v → (text_in v ≡ None → ⊥) → form ≡ Form.str
      text Form.str v is some = refl
      text Form.i64 (node (Label.int k) vs) is some = absurd (some refl)
      text (Form.vec U) (node Label.seq vs) is some = absurd (some refl)
      text (Form.list U) (node Label.seq vs) is some = absurd (some refl)
      text (Form.flat_map U) (node (Label.map keys) vs) is some = absurd (some refl)
      text (Form.map U) (node (Label.map keys) vs) is some = absurd (some refl)
      text (Form.own U) (node Label.opt vs) is some = absurd (some refl)
      text (Form.struct fields) (node Label.struct vs) is some = absurd (some refl)
      text (Form.shared U) (node Label.opt vs) is some = absurd (some refl)
      text (Form.shared U) (node (Label.shared T a) vs) is some = absurd (some refl)
      text form (node label vs) is some = absurd is.0
