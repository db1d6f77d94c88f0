-- The end of a path through shared cells: the value there, and the value in the unfolded state.
use Rattle.std.proofs.Common.{◌≡◌, ℕ, zero, suc, List, [], ◌∷◌, ◌++◌, Some, refl, sym, ◌∙◌, ap, subst}
use Rattle.std.specs.Prelude.{option_and_then}
use Rattle.std.specs.List.{AllByRecursion}
use Rattle.seg_spec.specs.Bytes.{word}
use Rattle.seg_spec.specs.Header.{allocator_word, next_word}
use Rattle.seg_spec.specs.Value.{Label, Value, node, Full, Values, nil, cons, nth, index_of, Selector, selected, value_at}
use Rattle.seg_spec.specs.Index.{Root}
use Rattle.seg_spec.specs.Reads.{Place}
use Rattle.seg_spec.specs.Frozen.{Frozen}
use Rattle.seg_spec.specs.Shared.{names_in, names_each, IsBelow, value_at_position, replaced}
use Rattle.seg_spec.specs.Owning.{Stands}
use Rattle.seg_spec.proofs.Values.PlaceFrameLaws.{each_left, each_right}
use Rattle.seg_spec.proofs.Frozen.UnfoldedTreeLaws.{found}
use Rattle.client_spec.specs.Machine.{State}
use Rattle.client_spec.specs.Pictures.{Pictures, meaning_in, part_through, value_through}
use Rattle.client_spec.proofs.TypedStates.ValueLaws.{Some_inj, then_some}
use Rattle.client_spec.proofs.Unfolded.UnfoldedValueLaws.{value_at_replaced}
use Rattle.client_sim.specs.Seeing.{LeadsFrozen, inside, through}
use Rattle.client_sim.proofs.Frozen.FrozenPlaceLaws.{frozen_stands, frozen_means}

-- selecting along two paths is selecting along one after the other
pub value_on : (xs ys : List Selector) (v w : Value) → value_at v xs ≡ Some w → value_at v (xs ++ ys) ≡ value_at w ys
value_on [] ys v w e = ap (λ u. value_at u ys) (Some_inj e)
value_on (x ∷ xs) ys v w e =
    let p = then_some (λ u. value_at u xs) (selected v x) w e in
    ap (λ o. option_and_then (λ u. value_at u (xs ++ ys)) o) p.1 ∙ value_on xs ys p.0 w p.2

-- what is true of all cells in a value is true of the cells in a part
module _ (B : Place → Type 0) where
  pub of_nth : (vs : Values) (i : ℕ) (v : Value) → AllByRecursion B (names_each vs) → nth vs i ≡ Some v → AllByRecursion B (names_in v)
  unfolding names_in
  of_nth nil i v a e = cc
  of_nth (cons w vs) zero v a e = subst (λ u. AllByRecursion B (names_in u)) (Some_inj e) (each_left B (names_in w) (names_each vs) a)
  of_nth (cons w vs) (suc i) v a e = of_nth vs i v (each_right B (names_in w) (names_each vs) a) e

  of_selected : (v : Value) (x : Selector) (w : Value) → AllByRecursion B (names_in v) → selected v x ≡ Some w → AllByRecursion B (names_in w)
  unfolding names_in
  of_selected (node (Label.shared T p) vs) (Selector.item i) w a e = cc
  of_selected (node (Label.shared T p) vs) (Selector.field i) w a e = cc
  of_selected (node (Label.shared T p) vs) (Selector.key k) w a e = cc
  of_selected (node (Label.shared T p) vs) Selector.content w a e = cc
  of_selected (node (Label.int k) vs) x w a e = let i = then_some (λ i. nth vs i) (index_of (Label.int k) x) w e in of_nth vs i.0 w a i.2
  of_selected (node (Label.text bytes) vs) x w a e = let i = then_some (λ i. nth vs i) (index_of (Label.text bytes) x) w e in of_nth vs i.0 w a i.2
  of_selected (node Label.seq vs) x w a e = let i = then_some (λ i. nth vs i) (index_of Label.seq x) w e in of_nth vs i.0 w a i.2
  of_selected (node (Label.map keys) vs) x w a e = let i = then_some (λ i. nth vs i) (index_of (Label.map keys) x) w e in of_nth vs i.0 w a i.2
  of_selected (node Label.opt vs) x w a e = let i = then_some (λ i. nth vs i) (index_of Label.opt x) w e in of_nth vs i.0 w a i.2
  of_selected (node Label.struct vs) x w a e = let i = then_some (λ i. nth vs i) (index_of Label.struct x) w e in of_nth vs i.0 w a i.2

  pub of_part : (xs : List Selector) (v w : Value) → AllByRecursion B (names_in v) → value_at v xs ≡ Some w → AllByRecursion B (names_in w)
  of_part [] v w a e = subst (λ u. AllByRecursion B (names_in u)) (Some_inj e) a
  of_part (x ∷ xs) v w a e =
      let p = then_some (λ u. value_at u xs) (selected v x) w e in
      of_part xs p.0 w (of_selected v x p.0 a p.1) p.2

  pub of_cell : (U p : ℕ) → AllByRecursion B (names_in (node (Label.shared U p) nil)) → B (record { at = p; type = U })
  unfolding names_in
  of_cell U p a = a.0

-- ---- through shared cells

-- a part that a value has itself is also its part through shared cells
part_so : (fs : List Frozen) (v w : Value) (x : Selector) → selected v x ≡ Some w → part_through fs v x ≡ Some w
part_so fs (node (Label.shared T p) nil) w x e = none x e
  where
    none : (y : Selector) → selected (node (Label.shared T p) nil) y ≡ Some w → part_through fs (node (Label.shared T p) nil) y ≡ Some w
    none (Selector.item i) f = cc
    none (Selector.field i) f = cc
    none (Selector.key k) f = cc
    none Selector.content f = cc
part_so fs (node (Label.shared T p) (cons u us)) w x e = e
part_so fs (node (Label.int k) vs) w x e = e
part_so fs (node (Label.text bytes) vs) w x e = e
part_so fs (node Label.seq vs) w x e = e
part_so fs (node (Label.map keys) vs) w x e = e
part_so fs (node Label.opt vs) w x e = e
part_so fs (node Label.struct vs) w x e = e

pub through_so : (fs : List Frozen) (xs : List Selector) (v w : Value) → value_at v xs ≡ Some w → value_through fs v xs ≡ Some w
through_so fs [] v w e = e
through_so fs (x ∷ xs) v w e =
    let p = then_some (λ u. value_at u xs) (selected v x) w e in
    ap (λ o. option_and_then (λ u. value_through fs u xs) o) (part_so fs v p.0 x p.1) ∙ through_so fs xs p.0 w p.2

pub through_on : (fs : List Frozen) (xs ys : List Selector) (v w : Value) → value_at v xs ≡ Some w → value_through fs v (xs ++ ys) ≡ value_through fs w ys
through_on fs [] ys v w e = ap (λ u. value_through fs u ys) (Some_inj e)
through_on fs (x ∷ xs) ys v w e =
    let p = then_some (λ u. value_at u xs) (selected v x) w e in
    ap (λ o. option_and_then (λ u. value_through fs u (xs ++ ys)) o) (part_so fs v p.0 x p.1) ∙ through_on fs xs ys p.0 w p.2

module _ {others : List Root} {s : State} {bytes : List ℕ} (pictured : Pictures others s bytes) where
  abbrev frozen : List Frozen
  frozen = pictured.picture.frozen

  abbrev m : ℕ → Value
  m = meaning_in (word bytes next_word) pictured.picture

  -- the value at the end of the path, and its unfolded value in the unfolded state
  pub record FrozenFound (q : Place) (xs : List Selector) (target : Place) : Type 0 where
    pub value : Value
    pub blocks : List ℕ
    pub stands : Stands (word bytes allocator_word) bytes pictured.picture.table target value blocks
    pub tree : value_at (m q.at) (Selector.content ∷ xs) ≡ Some (replaced m value)
    pub reads : value_through frozen (node (Label.shared q.type q.at) nil) (Selector.content ∷ xs) ≡ Some value
    -- the objects that the value's cells share exist, with numbers below n
    pub n : ℕ
    pub named : AllByRecursion (IsBelow n frozen) (names_in value)

  -- the objects that a frozen object shares exist, and have lower numbers
  pub below_in : (n : ℕ) (q : Place) (f : Value) → IsBelow n frozen q → value_at_position frozen q.at ≡ Some f → (k : ℕ) × AllByRecursion (IsBelow k frozen) (names_in f)
  below_in n q f b e =
      let c = pictured.counted.counted in
      let x = found n frozen q c.distinct c.falling b in
      let same : x.object.value ≡ f = Some_inj (sym x.value_is ∙ e) in
      (x.object.number, subst (λ v. AllByRecursion (IsBelow x.object.number frozen) (names_in v)) same x.names)

  pub value_there : (n : ℕ) (q : Place) → IsBelow n frozen q → (f : Value) × (value_at_position frozen q.at ≡ Some f)
  value_there n q b = let c = pictured.counted.counted in let x = found n frozen q c.distinct c.falling b in (x.object.value, x.value_is)

  tree_on : (q : Place) (f : Value) (xs : List Selector) (v : Value) → m q.at ≡ Full (replaced m f) → value_at f xs ≡ Some v → value_at (m q.at) (Selector.content ∷ xs) ≡ Some (replaced m v)
  tree_on q f xs v e g = ap (λ z. value_at z (Selector.content ∷ xs)) e ∙ value_at_replaced m xs f v g

  pub cell_means : (U p : ℕ) → Some (replaced m (node (Label.shared U p) nil)) ≡ Some (m p)
  unfolding replaced
  cell_means U p = refl

  pub frozen_found : (n : ℕ) (q : Place) → IsBelow n frozen q → {xs : List Selector} {target : Place} → LeadsFrozen bytes pictured.picture.table frozen q xs target → FrozenFound q xs target
  frozen_found n q b (inside {target = target} {xs = xs} leads) =
      let f = value_there n q b in
      let r = frozen_stands pictured n q f.0 b f.1 xs target leads in
      let deep = below_in n q f.0 b f.1 in
      record {
        value = r.0;
        blocks = r.1;
        stands = r.3;
        tree = tree_on q f.0 xs r.0 (frozen_means pictured n q f.0 b f.1) r.2;
        reads = ap (λ o. option_and_then (λ u. value_through frozen u xs) o) f.1 ∙ through_so frozen xs f.0 r.0 r.2;
        n = deep.0;
        named = of_part (IsBelow deep.0 frozen) xs f.0 r.0 deep.1 r.2;
      }
  frozen_found n q b (through f xs ys U p e names leads) =
      let deep = below_in n q f b e in
      let inner = of_cell (IsBelow deep.0 frozen) U p (of_part (IsBelow deep.0 frozen) xs f (node (Label.shared U p) nil) deep.1 names) in
      let r = frozen_found deep.0 (record { at = p; type = U }) inner leads in
      let here : value_at (m q.at) (Selector.content ∷ xs) ≡ Some (m p) = tree_on q f xs (node (Label.shared U p) nil) (frozen_means pictured n q f b e) names ∙ cell_means U p in
      record {
        value = r.value;
        blocks = r.blocks;
        stands = r.stands;
        tree = value_on (Selector.content ∷ xs) (Selector.content ∷ ys) (m q.at) (m p) here ∙ r.tree;
        reads = ap (λ o. option_and_then (λ u. value_through frozen u (xs ++ Selector.content ∷ ys)) o) e ∙ through_on frozen xs (Selector.content ∷ ys) f (node (Label.shared U p) nil) names ∙ r.reads;
        n = r.n;
        named = r.named;
      }
