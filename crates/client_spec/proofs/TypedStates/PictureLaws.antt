-- The state that an image pictures is typed, and a client's first situation is one in which it may
-- begin.
use Rattle.std.proofs.Common.{◌≡◌, ℕ, zero, suc, ◌+◌, ◌<◌, ◌≤◌, ◌==◌, if◌then◌else◌, Bool, true, false, List, [], ◌∷◌, ◌++◌, length, take, replicate, Option, Some, None, refl, sym, ap, ◌∙◌, subst, arith}
use Rattle.std.specs.Prelude.{option_map, slice_get, slice_index_or, nat_le}
use Rattle.std.specs.List.{AllByRecursion}
use Rattle.std.proofs.lemmas.Bool.{eqb-true, leb-true}
use Rattle.seg_spec.specs.Types.{Form, Table, form_at, IsForm, size, Agree, longer}
use Rattle.seg_spec.specs.Value.{Label, Value, Values, nil, cons, count, nth, FitsForm, types_inside, Has, has, HasEach, has_none, has_more}
use Rattle.seg_spec.specs.Reads.{spaced, places_of}
use Rattle.seg_spec.specs.Index.{Root, AreEntries, same_name, root_named, root_of_type}
use Rattle.seg_spec.specs.Sound.{frozen_roots, HoldsRoot, HoldsRoots, holds_no_root, holds_more_roots}
use Rattle.seg_spec.proofs.Values.ValueTypeLaws.{types_of}
use Rattle.seg_spec.proofs.Values.PlaceFrameLaws.{each_left, each_right}
use Rattle.client_spec.specs.Machine.{Register, Object, State}
use Rattle.client_spec.specs.Shape.{IsLabel, HasShape, HaveShapes, AllHaveShape}
use Rattle.client_spec.specs.Meaning.{IsTyped}
use Rattle.client_spec.specs.Pictures.{object_of, AreOwned, Pictures}
use Rattle.seg_spec.proofs.Tables.TableExtensionLaws.{below_length}
use Rattle.client_spec.proofs.TypedStates.PlaceShapeLaws.{held_shapes}
use Rattle.client_spec.proofs.TypedStates.ValueLaws.{Some_inj, then_some, all_shape_at}

-- ---- values

label_of : (table : Table) (form : Form) (label : Label) (vs : Values) → FitsForm form label (count vs) → HasEach table (types_inside form (count vs)) vs → IsLabel form label (count vs)
label_of table Form.i64 (Label.int k) vs f has_none = refl
label_of table Form.str (Label.text bytes) vs f has_none = refl
label_of table (Form.vec U) Label.seq vs f e = tt
label_of table (Form.list U) Label.seq vs f e = tt
label_of table (Form.flat_map U) (Label.map keys) vs f e = f.0
label_of table (Form.map U) (Label.map keys) vs f e = f.0
label_of table (Form.own U) Label.opt vs f e = f
label_of table (Form.struct Us) Label.struct vs f e = tt
label_of table (Form.shared U) Label.opt vs f e = f
label_of table (Form.shared U) (Label.shared T p) vs f e = f
label_of table form label vs f e = absurd f

module _ (table : Table) where
  mutual
    unfolding HasShape

    pub shape_of : {T : ℕ} {v : Value} → Has table T v → HasShape table T v
    shape_of (has {form = form} {label = label} {vs = vs} e f each) = (form, e, label_of table form label vs f each, shapes_of each)

    pub shapes_of : {Ts : List ℕ} {vs : Values} → HasEach table Ts vs → HaveShapes table Ts vs
    shapes_of has_none = tt
    shapes_of (has_more h hs) = (shape_of h, shapes_of hs)

types_of-spaced : (U at step n : ℕ) → types_of (places_of U (spaced at step n)) ≡ replicate n U
types_of-spaced U at step zero = refl
types_of-spaced U at step (suc n) = ap (λ Us. U ∷ Us) (types_of-spaced U (at + step) step n)

-- ---- roots

module _ (bytes : List ℕ) (table : Table) where
  abbrev Fits : Root → Type 0
  Fits root = AllHaveShape table root.type root.values

  root_fits : (root : Root) (blocks : List ℕ) → HoldsRoot bytes table root blocks → Fits root
  root_fits root blocks h =
      subst (λ Us. HaveShapes table Us root.values) (types_of-spaced root.type root.at (size table root.type) (count root.values))
      (held_shapes bytes table h.values)

  roots_fit : {roots : List Root} {blocks : List ℕ} → HoldsRoots bytes table roots blocks → AllByRecursion Fits roots
  roots_fit holds_no_root = tt
  roots_fit (holds_more_roots {root = root} {blocks = blocks} h hs) = (root_fits root blocks h, roots_fit hs)

-- a named object has at least one value
counted : (bytes : List ℕ) (entries : List ℕ) (roots : List Root) → AreEntries bytes entries roots → AllByRecursion (λ r. 0 < count r.values) roots
counted bytes [] [] h = tt
counted bytes [] (root ∷ roots) h = absurd h
counted bytes (entry ∷ entries) [] h = absurd h
counted bytes (entry ∷ entries) (root ∷ roots) h = (h.0.some, counted bytes entries roots h.1)

-- what is true of all roots is true of one that is found
pub named_one : (P : Root → Type 0) (roots : List Root) (name : List ℕ) (root : Root) → AllByRecursion P roots → root_named roots name ≡ Some root → P root
named_one P [] name root h e = cc
named_one P (r ∷ roots) name root h e = choose (same_name name r.name) (λ f. named_one P roots name root h.1 f) e
  where
    choose : (b : Bool) → (root_named roots name ≡ Some root → P root) → (if b then Some r else root_named roots name) ≡ Some root → P root
    choose true further f = subst P (Some_inj f) h.0
    choose false further f = further f

pub unique_one : (P : Root → Type 0) (roots : List Root) (T : ℕ) (root : Root) → AllByRecursion P roots → root_of_type roots T ≡ Some root → P root × (T ≡ root.type)
unique_one P [] T root h e = cc
unique_one P (r ∷ roots) T root h e = choose (T == r.type) refl (λ f. unique_one P roots T root h.1 f) e
  where
    choose : (b : Bool) → (T == r.type) ≡ b → (root_of_type roots T ≡ Some root → P root × (T ≡ root.type)) → (if b then Some r else root_of_type roots T) ≡ Some root → P root × (T ≡ root.type)
    choose true g further f = (subst P (Some_inj f) h.0, eqb-true T r.type g ∙ ap (λ (x : Root). x.type) (Some_inj f))
    choose false g further f = further f

pub option_some : {A B : Type 0} (f : A → B) (o : Option A) (y : B) → option_map f o ≡ Some y → (x : A) × (o ≡ Some x) × (f x ≡ y)
option_some f None y e = absurd (let g : None ≡ Some y = e in cc)
option_some f (Some x) y e = (x, refl, Some_inj e)

-- what is true of all roots is true of one that a register owns
pub owned_one : (P : Root → Type 0) (xs : List Register) (roots : List Root) (r : ℕ) (v : Value) (t : ℕ) → AreOwned xs roots → AllByRecursion P roots
    → slice_index_or xs r Register.Undefined ≡ Register.Owner v t → (root : Root) × P root × (root.type ≡ t) × (root.values ≡ cons v nil)
owned_one P [] roots r v t a h e = absurd (let f : Register.Undefined ≡ Register.Owner v t = e in cc)
owned_one P (Register.Owner w u ∷ xs) [] r v t a h e = absurd a
owned_one P (Register.Owner w u ∷ xs) (root ∷ roots) zero v t a h e =
    let f : Register.Owner w u ≡ Register.Owner v t = e in
    let same : w ≡ v = cc in
    let type : u ≡ t = cc in
    (root, h.0, a.0 ∙ type, a.1 ∙ ap (λ x. cons x nil) same)
owned_one P (Register.Owner w u ∷ xs) (root ∷ roots) (suc r) v t a h e = owned_one P xs roots r v t a.2 h.1 e
owned_one P (Register.Undefined ∷ xs) roots zero v t a h e = absurd (let f : Register.Undefined ≡ Register.Owner v t = e in cc)
owned_one P (Register.Undefined ∷ xs) roots (suc r) v t a h e = owned_one P xs roots r v t a h e
owned_one P (Register.Int k ∷ xs) roots zero v t a h e = absurd (let f : Register.Int k ≡ Register.Owner v t = e in cc)
owned_one P (Register.Int k ∷ xs) roots (suc r) v t a h e = owned_one P xs roots r v t a h e
owned_one P (Register.Reference p ∷ xs) roots zero v t a h e = absurd (let f : Register.Reference p ≡ Register.Owner v t = e in cc)
owned_one P (Register.Reference p ∷ xs) roots (suc r) v t a h e = owned_one P xs roots r v t a h e

one_shape : (table : Table) (T : ℕ) (v : Value) → AllHaveShape table T (cons v nil) → HasShape table T v
unfolding HasShape
one_shape table T v h = h.0

-- frozen objects have the shapes of their types too
pub frozen_roots_fit : (others : List Root) (s : State) (bytes : List ℕ) (p : Pictures others s bytes) → AllByRecursion (λ (root : Root). AllHaveShape p.picture.table root.type root.values) (frozen_roots p.picture)
frozen_roots_fit others s bytes p =
    let fits = λ (root : Root). AllHaveShape p.picture.table root.type root.values in
    let unnamed = p.picture.loose ++ frozen_roots p.picture in
    each_right fits p.picture.loose (frozen_roots p.picture) (each_right fits p.picture.uniques unnamed
    (each_right fits p.picture.names (p.picture.uniques ++ unnamed) (roots_fit bytes p.picture.table p.held.roots)))

pub pictured_typed : (others : List Root) (s : State) (bytes : List ℕ) → Pictures others s bytes → IsTyped s
pictured_typed others s bytes p =
    let table = p.picture.table in
    let all = roots_fit bytes table p.held.roots in
    let fits = λ (root : Root). AllHaveShape table root.type root.values in
    let unnamed = p.picture.loose ++ frozen_roots p.picture in
    let names = each_left fits p.picture.names (p.picture.uniques ++ unnamed) all in
    let rest = each_right fits p.picture.names (p.picture.uniques ++ unnamed) all in
    let uniques = each_left fits p.picture.uniques unnamed rest in
    let loose = subst (AllByRecursion fits) p.loose (each_left fits p.picture.loose (frozen_roots p.picture) (each_right fits p.picture.uniques unnamed rest)) in
    let owned = each_right fits others p.owned loose in
    let some = counted bytes p.held.laid_out.names.index.entries p.picture.names p.held.laid_out.names.entries in
    record {
      names = λ name o e.
          let root = option_some object_of (root_named p.picture.names name) o (sym (p.names name) ∙ e) in
          subst (λ (x : Object). AllHaveShape s.types x.type x.values) root.2 (subst (λ ts. AllHaveShape ts root.0.type root.0.values) p.types (named_one fits p.picture.names name root.0 names root.1));
      counts = λ name o e.
          let root = option_some object_of (root_named p.picture.names name) o (sym (p.names name) ∙ e) in
          subst (λ (x : Object). 0 < count x.values) root.2 (named_one (λ r. 0 < count r.values) p.picture.names name root.0 some root.1);
      uniques = λ T v e.
          let root = then_some (λ (r : Root). nth r.values 0) (root_of_type p.picture.uniques T) v (sym (p.uniques T) ∙ e) in
          let one = unique_one fits p.picture.uniques T root.0 uniques root.1 in
          subst (λ ts. HasShape ts T v) p.types (subst (λ U. HasShape table U v) (sym one.1) (all_shape_at table root.0.type root.0.values 0 v one.0 root.2));
      owned = λ r v t e.
          let one = owned_one fits s.registers p.owned r v t p.are_owned owned e in
          let shape = one_shape table one.0.type v (subst (AllHaveShape table one.0.type) one.3 one.1) in
          subst (λ ts. HasShape ts t v) p.types (subst (λ U. HasShape table U v) one.2 shape);
      forms = subst (λ ts. (T : ℕ) (form : Form) → form_at ts T ≡ Some form → IsForm (length ts) T form) p.types p.held.laid_out.is_table.forms;
    }

-- ---- the table with a client's types

take_long : {A : Type 0} (n : ℕ) (xs : List A) → length xs ≤ n → take n xs ≡ xs
take_long zero [] l = refl
take_long zero (x ∷ xs) l = absurd (omega arith)
take_long (suc n) [] l = refl
take_long (suc n) (x ∷ xs) l = ap (λ ys. x ∷ ys) (take_long n xs (omega arith))

get_take : {A : Type 0} (xs : List A) (n k : ℕ) → k < n → slice_get (take n xs) k ≡ slice_get xs k
get_take xs zero k l = absurd (omega arith)
get_take [] (suc n) k l = refl
get_take (x ∷ xs) (suc n) zero l = refl
get_take (x ∷ xs) (suc n) (suc k) l = get_take xs n k (omega arith)

pub form_in_longer : (old new : Table) (T : ℕ) (form : Form) → Agree old new → form_at new T ≡ Some form → form_at (longer old new) T ≡ Some form
form_in_longer old new T form a e = choose (nat_le (length new) (length old)) refl
  where
    choose : (b : Bool) → nat_le (length new) (length old) ≡ b → form_at (if b then old else new) T ≡ Some form
    choose true f =
        let l = leb-true (length new) (length old) f in
        sym (get_take old (length new) T (below_length new T form e)) ∙ ap (λ t. form_at t T) (a ∙ take_long (length old) new l) ∙ e
    choose false f = e
