-- A row keeps the shared cells of a class if it ends no reference of the class. So read-only
-- references through these cells stay valid.
use Rattle.std.proofs.Common.{◌≡◌, ℕ, ℤ, List, [], ◌∷◌, ◌++◌, length, Bool, true, false, Option, Some, None, refl, sym, ◌∙◌, ap, subst, inl, inr}
use Rattle.std.specs.Prelude.{⊤, ◌⊎◌, Ok, slice_get, slice_index, nat_abs, is_some, option_and_then, ◌==◌, if◌then◌else◌}
use Rattle.std.specs.Option.{option_map_or}
use Rattle.std.specs.Fmt.{signed_decimal}
use Rattle.seg_spec.specs.Value.{Label, Value, node, Int, Text, Values, nil, cons, count, Selector, selected}
use Rattle.seg_spec.specs.Value as values
use Rattle.seg_spec.specs.Types.{Form, Table}
use Rattle.client_spec.specs.declared.table.Operation.{Operation}
use Rattle.client_spec.specs.declared.table.Ends.{Ends}
use Rattle.client_spec.specs.Operations.{row_of}
use Rattle.client_spec.specs.Syntax.{Constant}
use Rattle.client_spec.specs.Machine.{◌>>=◌, Origin, Path, extend, Register, Object, State, with_name, with_unique, register, set_register, owned_by, at_origin, path_value, put_origin, put_at}
use Rattle.client_spec.specs.Answer.{Answer, success, out_of_range, other_type, path_from, Outcome, answer, integer_at, path_of}
use Rattle.client_spec.specs.Answer.{path_in, give, fail, refer, give_count, index_below, constant_operand}
use Rattle.client_spec.specs.Answer.{integer_in, constant_name, write_out, int_in, text_in, items_in}
use Rattle.client_spec.specs.Answer.{provided, with_room}
use Rattle.client_spec.specs.Effect.{combine, next_byte, add_object, item_of_object, find_or_add, count_of_object, destroy_object, add_unique}
use Rattle.client_spec.specs.Effect.{item_of_value, pop_bytes, pop_last, pop_first, set_text, first_key, take_content, see_content}
use Rattle.client_spec.specs.Typed.{Class, RegisterType, RegisterTypes, Rule, known, same_class, sharing, ended, others_ended, reference_needed}
use Rattle.client_spec.specs.Typed.{form_needed, known_after, gives, opens}
use Rattle.client_spec.specs.Bare.{bare}
use Rattle.client_spec.proofs.Rows.BareLaws.{known_bare, IsBare, FrozenFrom, from_set, gives_bare, opens_bare, after_bares}
use Rattle.client_spec.specs.Typed as typed
use Rattle.client_spec.specs.Meaning.{IsNamedBy, InClass, Meets, IsAsKnown}
use Rattle.client_spec.proofs.TypedStates.ValueLaws.{Some_inj, bind_some, then_some, part_after}
use Rattle.client_spec.proofs.TypedStates.StateLaws.{register_set, name_at, unique_at, origin_put}
use Rattle.client_spec.proofs.TypedStates.PutLaws.{IsLeaf, number_leaf, text_leaf, put_at_is, put_types}
use Rattle.client_spec.proofs.TypedStates.ClassLaws.{OneEach, origins_apart, known_ended, still_known}
use Rattle.client_spec.proofs.Rows.RuleRowLaws.{bind_ok}
use Rattle.client_spec.proofs.TypedStates.ValueFormLaws.{reference_is}

-- paths of the class that refer to shared cells refer to the same cells afterwards
pub record CellsKept (constants : List Constant) (class : Class) (s s' : State) : Type 0 where
  pub types : s'.types ≡ s.types
  pub cells : (q : Path) (U p : ℕ) → InClass constants class q.origin → path_value s q ≡ Some (node (Label.shared U p) nil) → path_value s' q ≡ Some (node (Label.shared U p) nil)

shared_none : (U p : ℕ) (x : Selector) (w : Value) → selected (node (Label.shared U p) nil) x ≡ Some w → ⊥
shared_none U p (Selector.item i) w e = cc
shared_none U p (Selector.field i) w e = cc
shared_none U p (Selector.key k) w e = cc
shared_none U p Selector.content w e = cc

-- replacing a leaf that is no shared cell keeps each shared cell
leaf_beside : (xs ys : List Selector) (v old new : Value) (U p : ℕ) → IsLeaf old → ((V q : ℕ) → old ≡ node (Label.shared V q) nil → ⊥) → values.value_at v xs ≡ Some old → values.value_at v ys ≡ Some (node (Label.shared U p) nil)
    → values.value_at (values.with_value_at xs new v) ys ≡ Some (node (Label.shared U p) nil)
leaf_beside [] [] v old new U p leaf other e f = absurd (other U p (Some_inj (sym e ∙ f)))
leaf_beside [] (y ∷ ys) v old new U p leaf other e f =
    let q = then_some (λ u. values.value_at u ys) (selected v y) (node (Label.shared U p) nil) f in
    absurd (leaf y q.0 (ap (λ u. selected u y) (sym (Some_inj e)) ∙ q.1))
leaf_beside (z ∷ xs) [] v old new U p leaf other e f =
    let q = then_some (λ u. values.value_at u xs) (selected v z) old e in
    absurd (shared_none U p z q.0 (ap (λ u. selected u z) (sym (Some_inj f)) ∙ q.1))
leaf_beside (z ∷ xs) (y ∷ ys) v old new U p leaf other e f =
    let b = node (Label.shared U p) nil in
    let m = then_some (λ u. values.value_at u xs) (selected v z) old e in
    let q = then_some (λ u. values.value_at u ys) (selected v y) b f in
    elim (part_after v z y (values.with_value_at xs new) m.0 q.0 m.1 q.1) [
      | inl r ↦ ap (λ o. option_and_then (λ u. values.value_at u ys) o) r.0 ∙ leaf_beside xs ys m.0 old new U p leaf other m.2 (ap (λ u. values.value_at u ys) (sym r.1) ∙ q.2)
      | inr r ↦ ap (λ o. option_and_then (λ u. values.value_at u ys) o) r ∙ q.2
    ]

module _ (constants : List Constant) (one : OneEach constants) (class : Class) where
  abbrev Kept : State → State → Type 0
  Kept = CellsKept constants class

  pub still : (s : State) → Kept s s
  still s = record { types = refl; cells = λ q U p w e. e }

  pub onward : (s t u : State) → Kept s t → Kept t u → Kept s u
  onward s t u f g = record { types = g.types ∙ f.types; cells = λ q U p w e. g.cells q U p w (f.cells q U p w e) }

  by_origins : (s s' : State) → s'.types ≡ s.types → ((o : Origin) (x : Value × ℕ) → InClass constants class o → at_origin s o ≡ Some x → at_origin s' o ≡ Some x) → Kept s s'
  by_origins s s' types f = record {
    types = types;
    cells = λ q U p w e.
        let a = bind_some (at_origin s q.origin) (λ found. values.value_at found.0 q.selectors) (node (Label.shared U p) nil) e in
        ap (λ (o : Option (Value × ℕ)). o >>= λ found. values.value_at found.0 q.selectors) (f q.origin a.0 w a.1) ∙ a.2;
  }

  -- setting a register that owns nothing keeps the cells
  pub by_register : (s : State) (a : ℕ) (x : Register) → owned_by (register s a) ≡ None → Kept s (set_register s a x)
  by_register s a x free = by_origins s (set_register s a x) refl (λ o y w e. kept o y e)
    where
      kept : (o : Origin) (y : Value × ℕ) → at_origin s o ≡ Some y → at_origin (set_register s a x) o ≡ Some y
      kept (Origin.Name n i) y e = e
      kept (Origin.Unique t) y e = e
      kept (Origin.Owned r) y e = elim (register_set s a r x) [
        | inl p ↦ absurd (let f : None ≡ Some y = sym free ∙ ap (λ n. owned_by (register s n)) p.1 ∙ e in cc)
        | inr p ↦ ap owned_by p ∙ e
      ]

  -- emptying an owner of another class keeps the cells
  pub by_release : (s : State) (a : ℕ) (x : Register) → same_class (Class.Register a) (sharing class) ≡ false → Kept s (set_register s a x)
  by_release s a x far = by_origins s (set_register s a x) refl kept
    where
      kept : (o : Origin) (y : Value × ℕ) → InClass constants class o → at_origin s o ≡ Some y → at_origin (set_register s a x) o ≡ Some y
      kept (Origin.Name n i) y w e = e
      kept (Origin.Unique t) y w e = e
      kept (Origin.Owned r) y w e = elim (register_set s a r x) [
        | inl p ↦ absurd (origins_apart constants one (Class.Register a) class (Origin.Owned a) (Origin.Owned r) far refl w (ap Origin.Owned p.1))
        | inr p ↦ ap owned_by p ∙ e
      ]

  found_at : (s : State) (p : Path) (old : Value) → path_value s p ≡ Some old → (x : Value × ℕ) × (at_origin s p.origin ≡ Some x) × (values.value_at x.0 p.selectors ≡ Some old)
  found_at s p old e = bind_some (at_origin s p.origin) (λ found. values.value_at found.0 p.selectors) old e

  -- putting a value in another class keeps the cells
  pub by_put : (s : State) (p : Path) (old new : Value) (d : Class) → path_value s p ≡ Some old → InClass constants d p.origin → same_class (sharing d) (sharing class) ≡ false → Kept s (put_at s p new)
  by_put s p old new d e within far =
      let a = found_at s p old e in
      let root_then = values.with_value_at p.selectors new a.0.0 in
      subst (Kept s) (sym (put_at_is s p a.0.0 new a.0.1 a.1))
      (by_origins s (put_origin s p.origin root_then) (put_types s p.origin a.0.0 root_then a.0.1 a.1) (λ o y w f. elim (origin_put s p.origin a.0.0 root_then a.0.1 a.1 o) [
        | inl r ↦ absurd (origins_apart constants one d class p.origin o far within w r.0)
        | inr r ↦ r ∙ f
      ]))

  -- replacing a leaf that is no shared cell keeps the cells
  by_leaf : (s : State) (p : Path) (old new : Value) → path_value s p ≡ Some old → IsLeaf old → ((V q : ℕ) → old ≡ node (Label.shared V q) nil → ⊥) → Kept s (put_at s p new)
  by_leaf s p old new e leaf other = record { types = types_there; cells = λ q U at w f. cells_there q U at f }
    where
      types_there : (put_at s p new).types ≡ s.types
      types_there =
          let a = found_at s p old e in
          ap (λ (z : State). z.types) (put_at_is s p a.0.0 new a.0.1 a.1) ∙ put_types s p.origin a.0.0 (values.with_value_at p.selectors new a.0.0) a.0.1 a.1

      cells_there : (q : Path) (U at : ℕ) → path_value s q ≡ Some (node (Label.shared U at) nil) → path_value (put_at s p new) q ≡ Some (node (Label.shared U at) nil)
      cells_there q U at f =
          let a = found_at s p old e in
          let b = found_at s q (node (Label.shared U at) nil) f in
          let root_then = values.with_value_at p.selectors new a.0.0 in
          ap (λ z. path_value z q) (put_at_is s p a.0.0 new a.0.1 a.1)
          ∙ elim (origin_put s p.origin a.0.0 root_then a.0.1 a.1 q.origin) [
            | inl r ↦
                let same : a.0 ≡ b.0 = Some_inj (sym a.1 ∙ ap (at_origin s) r.0 ∙ b.1) in
                ap (λ (o : Option (Value × ℕ)). o >>= λ found. values.value_at found.0 q.selectors) r.1
                ∙ leaf_beside p.selectors q.selectors a.0.0 old new U at leaf other a.2 (ap (λ (x : Value × ℕ). values.value_at x.0 q.selectors) same ∙ b.2)
            | inr r ↦ ap (λ (o : Option (Value × ℕ)). o >>= λ found. values.value_at found.0 q.selectors) (r ∙ b.1) ∙ b.2
          ]

  -- making an object of a free name keeps the cells
  by_new_name : (s : State) (name : List ℕ) (o : Option Object) → s.names name ≡ None → Kept s (record s { names = with_name s.names name o })
  by_new_name s name o free = by_origins s (record s { names = with_name s.names name o }) refl (λ r y w e. kept r y e)
    where
      kept : (r : Origin) (y : Value × ℕ) → at_origin s r ≡ Some y → at_origin (record s { names = with_name s.names name o }) r ≡ Some y
      kept (Origin.Unique t) y e = e
      kept (Origin.Owned r) y e = e
      kept (Origin.Name m i) y e = elim (name_at s.names name o m) [
        | inl p ↦
            let f : None ≡ Some y = ap (λ (x : Option Object). x >>= λ z. values.nth z.values i >>= λ v. Some (v, z.type)) (sym free ∙ ap s.names p.0) ∙ e in
            absurd (let g = f in cc)
        | inr p ↦ ap (λ (x : Option Object). x >>= λ z. values.nth z.values i >>= λ v. Some (v, z.type)) p ∙ e
      ]

  -- destroying a name of another class keeps the cells
  by_name_gone : (s : State) (name : List ℕ) (k : ℕ) → IsNamedBy (slice_get constants k) name → same_class (Class.Name k) (sharing class) ≡ false → Kept s (record s { names = with_name s.names name None })
  by_name_gone s name k by far = by_origins s (record s { names = with_name s.names name None }) refl kept
    where
      kept : (r : Origin) (y : Value × ℕ) → InClass constants class r → at_origin s r ≡ Some y → at_origin (record s { names = with_name s.names name None }) r ≡ Some y
      kept (Origin.Unique t) y w e = e
      kept (Origin.Owned r) y w e = e
      kept (Origin.Name m i) y w e = elim (name_at s.names name None m) [
        | inl p ↦ absurd (origins_apart constants one (Class.Name k) class (Origin.Name name i) (Origin.Name m i) far by w (ap (λ n. Origin.Name n i) p.0))
        | inr p ↦ ap (λ (x : Option Object). x >>= λ z. values.nth z.values i >>= λ v. Some (v, z.type)) p ∙ e
      ]

  -- the same for unique objects
  by_new_unique : (s : State) (t : ℕ) (v : Option Value) → s.uniques t ≡ None → Kept s (record s { uniques = with_unique s.uniques t v })
  by_new_unique s t v free = by_origins s (record s { uniques = with_unique s.uniques t v }) refl (λ r y w e. kept r y e)
    where
      kept : (r : Origin) (y : Value × ℕ) → at_origin s r ≡ Some y → at_origin (record s { uniques = with_unique s.uniques t v }) r ≡ Some y
      kept (Origin.Name m i) y e = e
      kept (Origin.Owned r) y e = e
      kept (Origin.Unique u) y e = elim (unique_at s.uniques t v u) [
        | inl p ↦
            let f : None ≡ Some y = ap (λ (x : Option Value). x >>= λ z. Some (z, u)) (sym free ∙ ap s.uniques p.0) ∙ e in
            absurd (let g = f in cc)
        | inr p ↦ ap (λ (x : Option Value). x >>= λ z. Some (z, u)) p ∙ e
      ]

  pub by_unique_gone : (s : State) (t : ℕ) → same_class (Class.Unique t) (sharing class) ≡ false → Kept s (record s { uniques = with_unique s.uniques t None })
  by_unique_gone s t far = by_origins s (record s { uniques = with_unique s.uniques t None }) refl kept
    where
      kept : (r : Origin) (y : Value × ℕ) → InClass constants class r → at_origin s r ≡ Some y → at_origin (record s { uniques = with_unique s.uniques t None }) r ≡ Some y
      kept (Origin.Name m i) y w e = e
      kept (Origin.Owned r) y w e = e
      kept (Origin.Unique u) y w e = elim (unique_at s.uniques t None u) [
        | inl p ↦ absurd (origins_apart constants one (Class.Unique t) class (Origin.Unique t) (Origin.Unique u) far refl w (ap Origin.Unique p.0))
        | inr p ↦ ap (λ (x : Option Value). x >>= λ z. Some (z, u)) p ∙ e
      ]

  -- ---- outcomes

  pub record Keeps (s : State) (o : Outcome) : Type 0 where
    pub each : (code : Answer) (s' : State) → o ≡ Some (code, s') → Kept s s'

  -- a value that has a number is a number, and a value that has a text is a text
  number_of : (v : Value) (k : ℤ) → int_in v ≡ Some k → v ≡ Int k
  number_of (node (Label.int l) nil) k e = ap Int (Some_inj e)
  number_of v k e = cc

  text_of : (v : Value) (bytes : List ℕ) → text_in v ≡ Some bytes → v ≡ Text bytes
  text_of (node (Label.text xs) nil) bytes e = ap Text (Some_inj e)
  text_of v bytes e = cc

  pub put_number : (s : State) (p : Path) (k : ℤ) (new : Value) → (path_value s p >>= int_in) ≡ Some k → Kept s (put_at s p new)
  put_number s p k new e =
      let v = bind_some (path_value s p) int_in k e in
      let is = number_of v.0 k v.2 in
      by_leaf s p (Int k) new (v.1 ∙ ap Some is) (number_leaf k) (λ V q f. cc)

  pub put_text : (s : State) (p : Path) (bytes : List ℕ) (new : Value) → (path_value s p >>= text_in) ≡ Some bytes → Kept s (put_at s p new)
  put_text s p bytes new e =
      let v = bind_some (path_value s p) text_in bytes e in
      let is = text_of v.0 bytes v.2 in
      by_leaf s p (Text bytes) new (v.1 ∙ ap Some is) (text_leaf bytes) (λ V q f. cc)

  -- ---- rows, by what their rules require

  module _ (types : Table) (ks : RegisterTypes) (s : State) (h : IsAsKnown types constants ks s) (b : ℕ) where
    -- register b's reference is of another class
    abbrev IsFar : Type 0
    IsFar = (x : Class) (t : ℕ) → known ks b ≡ RegisterType.Reference x t → same_class (sharing x) (sharing class) ≡ false

    -- the references that the row ends are of other classes
    abbrev AreSpared : Ends → ℕ → ℤ → Type 0
    AreSpared Ends.Name c number = same_class (Class.Name (constant_operand number)) (sharing class) ≡ false
    AreSpared Ends.Unique c number = same_class (Class.Unique (nat_abs number)) (sharing class) ≡ false
    AreSpared Ends.Dropped c number = same_class (Class.Register b) (sharing class) ≡ false
    AreSpared Ends.Others c number = IsFar
    AreSpared Ends.Moved c number = IsFar × (same_class (Class.Register c) (sharing class) ≡ false)
    AreSpared ends c number = ⊤

    abbrev pub Spared : Operation → ℕ → ℤ → Type 0
    Spared operation = AreSpared (row_of operation).ends

    -- the path in register b begins in another class
    pub record Far (p : Path) : Type 0 where
      pub its : Class
      pub within : InClass constants its p.origin
      pub far : same_class (sharing its) (sharing class) ≡ false

    pub far_at : (f : Class × ℕ → Rule) (good bad : RegisterTypes) → typed.◌>>=◌ (reference_needed (known ks b)) f ≡ Ok (good, bad) → IsFar → (p : Path) → path_of s b ≡ Some p → Far p
    far_at f good bad e far p at =
        let x = bind_ok (reference_needed (known ks b)) f (good, bad) e in
        let is = reference_is (known ks b) x.0 x.1 in
        let m = subst (λ k. Meets constants s k (register s b)) is (h.each b) in
        let path : m.path ≡ p = Some_inj (sym (ap path_in m.is) ∙ at) in
        record { its = x.0.0; within = subst (λ (z : Path). InClass constants x.0.0 z.origin) path m.within; far = far x.0.0 x.0.1 is }

-- ---- outcomes of rows

module _ {constants : List Constant} {one : OneEach constants} {class : Class} where
  pub none : (s : State) → Keeps constants one class s None
  none s = record { each = λ code s' e. absurd (let f : None ≡ Some (code, s') = e in cc) }

  pub some : (s : State) (code : Answer) (s' : State) → CellsKept constants class s s' → Keeps constants one class s (Some (code, s'))
  some s code s' h = record { each = λ code' t e. subst (CellsKept constants class s) (ap (λ (p : Answer × State). p.1) (Some_inj e)) h }

  pub bound : {A : Type 0} (s : State) (o : Option A) (f : A → Outcome) → ((x : A) → o ≡ Some x → Keeps constants one class s (f x)) → Keeps constants one class s (o >>= f)
  bound s None f h = none s
  bound s (Some x) f h = h x refl

  pub either : {A : Type 0} (s : State) (f : A → Outcome) (o : Option A) (d : Outcome) → ((x : A) → o ≡ Some x → Keeps constants one class s (f x)) → (o ≡ None
      → Keeps constants one class s d) → Keeps constants one class s (option_map_or f o d)
  either s f None d h g = g refl
  either s f (Some x) d h g = h x refl

  pub tested : (s : State) (b : Bool) (x y : Outcome) → Keeps constants one class s x → Keeps constants one class s y → Keeps constants one class s (if b then x else y)
  tested s true x y f g = f
  tested s false x y f g = g

  pub shown : (s : State) (b : Bool) (o : Outcome) → Keeps constants one class s o → Keeps constants one class s (provided b o)
  shown s true o f = f
  shown s false o f = none s

  -- a row that sets register a, which owns nothing, keeps the cells
  pub answered : (s t : State) (code : Answer) (a : ℕ) (x : Register) → CellsKept constants class s t → Keeps constants one class s (answer code a x t)
  answered s t code a x h =
      either s (λ _. None) (owned_by (register t a)) (Some (code, set_register t a x)) (λ _ _. none s) (λ free. some s code _ (onward constants one class s t (set_register t a x) h (by_register constants one class t a x free)))

  pub given : (s : State) (code : Answer) (a : ℕ) (x : Register) → Keeps constants one class s (answer code a x s)
  given s code a x = answered s s code a x (still constants one class s)

  pub roomy : (s : State) (b : Bool) (a : ℕ) (o : Outcome) → Keeps constants one class s o → Keeps constants one class s (with_room b a s o)
  roomy s true a o f = f
  roomy s false a o f = given s _ a _

  -- ---- parts of rows

  pub combines : (s : State) (f : ℤ → ℤ → ℤ) (a b c : ℕ) → Keeps constants one class s (combine f a b c s)
  combines s f a b c =
      bound s (integer_at s b) (λ x. integer_at s c >>= λ y. give a (Register.Int (f x y)) s) (λ x _. bound s (integer_at s c) (λ y. give a (Register.Int (f x y)) s) (λ y _. given s success a (Register.Int (f x y))))

  pub next : (s : State) (a : ℕ) (input : List ℕ) → Keeps constants one class s (next_byte a input s)
  next s a [] = given s _ a _
  next s a (byte ∷ rest) = answered s (record s { input = rest }) success a _ (by_origins constants one class s (record s { input = rest }) refl (λ o x w e. same_there o x e))
    where
      same_there : (o : Origin) (x : Value × ℕ) → at_origin s o ≡ Some x → at_origin (record s { input = rest }) o ≡ Some x
      same_there (Origin.Name n i) x e = e
      same_there (Origin.Unique t) x e = e
      same_there (Origin.Owned r) x e = e

  pub writes : (s : State) (bytes : List ℕ) → Keeps constants one class s (write_out bytes s)
  writes s bytes = some s success _ (by_origins constants one class s (record s { output = s.output ++ bytes }) refl (λ o x w e. same_there o x e))
    where
      same_there : (o : Origin) (x : Value × ℕ) → at_origin s o ≡ Some x → at_origin (record s { output = s.output ++ bytes }) o ≡ Some x
      same_there (Origin.Name n i) x e = e
      same_there (Origin.Unique t) x e = e
      same_there (Origin.Owned r) x e = e

  pub adds : (s : State) (a : ℕ) (name : List ℕ) (t : ℕ) (o : Option Object) (n : ℕ) (room : Bool) → s.names name ≡ o → Keeps constants one class s (add_object a name t o n room s)
  adds s a name t (Some o) n room e = given s _ a _
  adds s a name t None n room e = roomy s room a _ (answered s _ success a _ (by_new_name constants one class s name _ e))

  pub item : (s : State) (a : ℕ) (name : List ℕ) (t : ℕ) (x : ℤ) (o : Option Object) → Keeps constants one class s (item_of_object a name t x o s)
  item s a name t x None = given s _ a _
  item s a name t x (Some o) =
      tested s (o.type == t) (option_map_or (λ i. refer a (path_from (Origin.Name name i)) s) (index_below (count o.values) x) (fail a out_of_range s)) (fail a other_type s)
      (either s (λ i. refer a (path_from (Origin.Name name i)) s) (index_below (count o.values) x) (fail a out_of_range s) (λ i _. given s success a _) (λ _. given s _ a _)) (given s _ a _)

  pub finds : (s : State) (a : ℕ) (name : List ℕ) (t : ℕ) (o : Option Object) (room : Bool) → s.names name ≡ o → Keeps constants one class s (find_or_add a name t o room s)
  finds s a name t None room e = adds s a name t None 1 room e
  finds s a name t (Some o) room e = tested s _ _ _ (given s success a _) (given s _ a _)

  pub counts : (s : State) (a t : ℕ) (o : Option Object) → Keeps constants one class s (count_of_object a t o s)
  counts s a t None = given s _ a _
  counts s a t (Some o) = tested s _ _ _ (given s success a _) (given s _ a _)

  pub destroys : (s : State) (a : ℕ) (name : List ℕ) (t k : ℕ) (o : Option Object) → IsNamedBy (slice_get constants k) name → same_class (Class.Name k) (sharing class) ≡ false → Keeps constants one class s (destroy_object a name t o s)
  destroys s a name t k None by far = given s success a _
  destroys s a name t k (Some o) by far = tested s _ _ _ (answered s _ success a _ (by_name_gone constants one class s name k by far)) (given s success a _)

  pub unique : (s : State) (a t : ℕ) (room : Bool) → s.uniques t ≡ None → Keeps constants one class s (add_unique a t room s)
  unique s a t room e = roomy s room a _ (answered s _ success a _ (by_new_unique constants one class s t _ e))

  pub by_unique : (s : State) (t : ℕ) (x y : Outcome) → Keeps constants one class s x → (s.uniques t ≡ None → Keeps constants one class s y) → Keeps constants one class s (if is_some (s.uniques t) then x else y)
  by_unique s t x y f g = choose (s.uniques t) refl
    where
      choose : (o : Option Value) → s.uniques t ≡ o → Keeps constants one class s (if is_some o then x else y)
      choose None e = g e
      choose (Some v) e = f

  pub value_item : (s : State) (a : ℕ) (p : Path) (x : ℤ) (v : Value) → Keeps constants one class s (item_of_value a p x v s)
  value_item s a p x v =
      let byte = λ (bytes : List ℕ). option_map_or (λ i. give_count a (slice_index bytes i) s) (index_below (length bytes) x) (fail a out_of_range s) in
      let item_of = λ (vs : Values). option_map_or (λ i. refer a (extend p (Selector.item i)) s) (index_below (count vs) x) (fail a out_of_range s) in
      either s byte (text_in v) (items_in v >>= item_of)
      (λ bytes _. either s (λ i. give_count a (slice_index bytes i) s) (index_below (length bytes) x) (fail a out_of_range s) (λ i _. given s success a _) (λ _. given s _ a _))
      (λ _. bound s (items_in v) item_of (λ vs _. either s (λ i. refer a (extend p (Selector.item i)) s) (index_below (count vs) x) (fail a out_of_range s) (λ i _. given s success a _) (λ _. given s _ a _)))

  pub key : (s : State) (a : ℕ) (keys : List ℤ) → Keeps constants one class s (first_key a keys s)
  key s a [] = given s _ a _
  key s a (k ∷ ks) = given s success a _

  pub sees : (s : State) (a : ℕ) (p : Path) (o : Option Value) → Keeps constants one class s (see_content a p o s)
  sees s a p None = given s _ a _
  sees s a p (Some v) = given s success a _

  -- the value is put in another class
  module _ (s : State) (p : Path) (old : Value) (there : path_value s p ≡ Some old) (d : Class) (within : InClass constants d p.origin) (far : same_class (sharing d) (sharing class) ≡ false) where
    pub given_put : (a : ℕ) (x : Register) (new : Value) → Keeps constants one class s (answer success a x (put_at s p new))
    given_put a x new = answered s (put_at s p new) success a x (by_put constants one class s p old new d there within far)

    pub put_some : (new : Value) → Keeps constants one class s (Some (success, put_at s p new))
    put_some new = some s success _ (by_put constants one class s p old new d there within far)

    pub bytes_pop : (a : ℕ) (bytes : List ℕ) → Keeps constants one class s (pop_bytes a p bytes s)
    bytes_pop a [] = given s _ a _
    bytes_pop a (x ∷ xs) = given_put a _ _

    pub last_pop : (a : ℕ) (vs : Values) → Keeps constants one class s (pop_last a p vs s)
    last_pop a nil = given s _ a _
    last_pop a (cons v vs) = given_put a _ _

    pub first_pop : (a : ℕ) (vs : Values) → Keeps constants one class s (pop_first a p vs s)
    first_pop a nil = given s _ a _
    first_pop a (cons v vs) = given_put a _ _

    pub takes : (a t : ℕ) (o : Option Value) → Keeps constants one class s (take_content a p t o s)
    takes a t None = given s _ a _
    takes a t (Some v) = given_put a _ _

  pub text : (s : State) (a : ℕ) (p : Path) (old bytes : List ℕ) (room : Bool) → (path_value s p >>= text_in) ≡ Some old → Keeps constants one class s (set_text a p bytes room s)
  text s a p old bytes room e = roomy s room a _ (answered s _ success a _ (put_text constants one class s p old (Text bytes) e))

-- a constant that spells a name is a constant for that name
pub spelled : (o : Option Constant) (x : Register) (name : List ℕ) → (o >>= λ k. constant_name k x) ≡ Some name → IsNamedBy o name
spelled None x name e = cc
spelled (Some (Constant.Text bytes)) x name e = cc
spelled (Some (Constant.Name n)) x name e = sym (Some_inj e)
spelled (Some (Constant.Family prefix)) x name e =
    let k = bind_some (integer_in x) (λ k. Some (prefix ++ 35 ∷ signed_decimal k)) name e in
    (k.0, sym (Some_inj k.2))

-- ---- references that stay valid have no class that a row ends

pub left_of : (E : Class) (ks : RegisterTypes) (r : ℕ) (x : Class) (T : ℕ) → known (ended E ks) r ≡ RegisterType.Reference (Class.Frozen x) T → same_class E (sharing (Class.Frozen x)) ≡ false
left_of E ks r x T e = (still_known E (Class.Frozen x) (known ks r) T (sym (known_ended E ks r) ∙ e)).1

pub itself : (ks : RegisterTypes) → FrozenFrom ks ks
itself ks r x t e = e

module _ (types : Table) (constants : List Constant) (ks : RegisterTypes) (b : ℕ) (class : Class) where
  -- a read-only reference stays known in one of the two parts
  abbrev pub StillRead : RegisterTypes → RegisterTypes → Type 0
  StillRead good bad = (r : ℕ) × (T : ℕ) × ((known good r ≡ RegisterType.Reference (Class.Frozen class) T) ⊎ (known bad r ≡ RegisterType.Reference (Class.Frozen class) T))

  read_in : (es good bad : RegisterTypes) → FrozenFrom es good → FrozenFrom es bad → StillRead good bad → (r : ℕ) × (T : ℕ) × (known es r ≡ RegisterType.Reference (Class.Frozen class) T)
  read_in es good bad f g (r, T, inl e) = (r, T, f r class T e)
  read_in es good bad f g (r, T, inr e) = (r, T, g r class T e)

  -- a class that a rule has ended isn't the class of a reference that stays known
  pub not_ended : (E : Class) (es good bad : RegisterTypes) → FrozenFrom (ended E es) good → FrozenFrom (ended E es) bad → StillRead good bad → same_class E (sharing (Class.Frozen class)) ≡ false
  not_ended E es good bad f g still = let k = read_in (ended E es) good bad f g still in left_of E es k.0 class k.1 k.2

  pub opens_from : (es : RegisterTypes) (a : ℕ) (k : RegisterType) (good bad : RegisterTypes) → IsBare k → opens a k es ≡ Ok (good, bad) → FrozenFrom es good × FrozenFrom es bad
  opens_from es a k good bad i e = let q = (opens_bare es a k es i (itself es)).same good bad e in (q.1, q.2)

  pub gives_from : (es : RegisterTypes) (a : ℕ) (k : RegisterType) (good bad : RegisterTypes) → IsBare k → gives a k es ≡ Ok (good, bad) → FrozenFrom es good × FrozenFrom es bad
  gives_from es a k good bad i e = let q = (gives_bare es a k es i (itself es)).same good bad e in (q.1, q.2)

  pub after_from : (es good bad : RegisterTypes) → known_after es ≡ Ok (good, bad) → FrozenFrom es good × FrozenFrom es bad
  after_from es good bad e = let q = (after_bares es es (itself es)).same good bad e in (q.1, q.2)

  -- if b's class ends except for b, it isn't the class that stays known
  pub far_of : (x : Class × ℕ) (good bad : RegisterTypes) → IsBare (known ks b) → reference_needed (known ks b) ≡ Ok x → FrozenFrom (others_ended x.0 b ks) good → FrozenFrom (others_ended x.0 b ks) bad → StillRead good bad
      → (y : Class) (t : ℕ) → known (bare ks) b ≡ RegisterType.Reference y t → same_class (sharing y) (sharing (Class.Frozen class)) ≡ false
  far_of x good bad b_is e f g still y t is =
      let es = ended (sharing x.0) ks in
      let back : FrozenFrom es (others_ended x.0 b ks) = from_set b (known ks b) es es b_is (itself es) in
      let one : RegisterType.Reference x.0 x.1 ≡ RegisterType.Reference y t = sym (reference_is (known ks b) x e) ∙ sym b_is ∙ sym (known_bare ks b) ∙ is in
      let same : x.0 ≡ y = cc in
      ap (λ z. same_class (sharing z) (sharing (Class.Frozen class))) (sym same)
      ∙ not_ended (sharing x.0) ks good bad (λ r z u h. back r z u (f r z u h)) (λ r z u h. back r z u (g r z u h)) still

  module _ (one : OneEach constants) (s : State) (h : IsAsKnown types constants (bare ks) s) where
    -- if b's class ends except for b, and register a is set, b's class isn't the class that stays
    -- known
    pub opens_far : {A : Type 0} (f : Form → Option A) (rest : Class × ℕ → A → Rule) (good bad : RegisterTypes) → IsBare (known ks b)
        → ((x : Class × ℕ) (y : A) → reference_needed (known ks b) ≡ Ok x → rest x y ≡ Ok (good, bad) → FrozenFrom (others_ended x.0 b ks) good × FrozenFrom (others_ended x.0 b ks) bad)
        → typed.◌>>=◌ (reference_needed (known ks b)) (λ x. typed.◌>>=◌ (form_needed f types x.1) (rest x)) ≡ Ok (good, bad) → StillRead good bad
        → (y : Class) (t : ℕ) → known (bare ks) b ≡ RegisterType.Reference y t → same_class (sharing y) (sharing (Class.Frozen class)) ≡ false
    opens_far f rest good bad b_is each e still =
        let x = bind_ok (reference_needed (known ks b)) (λ x. typed.◌>>=◌ (form_needed f types x.1) (rest x)) (good, bad) e in
        let y = bind_ok (form_needed f types x.0.1) (rest x.0) (good, bad) x.2 in
        let g = each x.0 y.0 x.1 y.2 in
        far_of x.0 good bad b_is x.1 g.0 g.1 still

    pub opened_far : {A : Type 0} (a : ℕ) (f : Form → Option A) (k : Class × ℕ → A → RegisterType) (good bad : RegisterTypes) → IsBare (known ks b) → ((x : Class × ℕ) (y : A) → reference_needed (known ks b) ≡ Ok x → IsBare (k x y))
        → typed.◌>>=◌ (reference_needed (known ks b)) (λ x. typed.◌>>=◌ (form_needed f types x.1) (λ y. opens a (k x y) (others_ended x.0 b ks))) ≡ Ok (good, bad) → StillRead good bad
        → (y : Class) (t : ℕ) → known (bare ks) b ≡ RegisterType.Reference y t → same_class (sharing y) (sharing (Class.Frozen class)) ≡ false
    opened_far a f k good bad b_is plain e still =
        opens_far f (λ x y. opens a (k x y) (others_ended x.0 b ks)) good bad b_is (λ x y n g. opens_from (others_ended x.0 b ks) a (k x y) good bad (plain x y n) g) e still
